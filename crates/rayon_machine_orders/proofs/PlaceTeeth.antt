-- wrong machines of pushes: replays, computed by the kernel, in which a call that nothing refused queues its job where
-- it does not belong
--
-- The edit `worker_pushes_to_the_injector` makes the mistake of `spawn_is_injected`. The check refuses it at `push`.
use Rattle.std.proofs.Common.{refl}
use Rattle.rayon_machine_orders.proofs.Words.{ℕ, false, ◌&&◌, ◌+◌, if◌then◌else◌, Option, Some, None, List, [], ◌∷◌, ◌++◌, ◌≡◌, IfSome, Party, Fine, OfPool, Detach, Feed, Place, LookQueue, PushForAll, PushJob, RaiseCount, Move, HandIn, Act, FifoIn, PushCast, PushInj, PushOwn, Seen, Done, Event}
use Rattle.rayon_machine_orders.proofs.Words.{Go, End, Spawn, Fifo, Cast, InDeque, Running, PoolShape, act_of, next_of, plan_book, plan_job, plan_pool, same_party, Stack, World, effect, target_job, step, caller_of, is_at_call, is_refusal, caster_of, is_cast_refusal, belongs, push_in}
use Rattle.rayon_machine_orders.proofs.WrongMachines.{Machine, leading, right, run_by, step_by, times_go, two, b, c}
use Rattle.rayon_machine_orders.proofs.CallTeeth.{any_by, is_back, running}

-- what a call queues in a machine's run
abbrev push_by : Machine → Party → Stack → World → Event → List Act
push_by m q s w (Go r) = if same_party q r && is_at_call s (w.stack q) then push_in (m.act q (w.stack q).top) else []
push_by m q s w _ = []

abbrev pushes_by : Machine → Party → Stack → Option World → List Event → List Act
pushes_by m q s None es = []
pushes_by m q s (Some w) [] = []
pushes_by m q s (Some w) (e ∷ es) = push_by m q s w e ++ pushes_by m q s (step_by m w e) es

-- a call of the party, begun by an event from w to v, is over in u, nothing refused it, and it has queued this
record QueuesSo (m : Machine) (q : Party) (e : Event) (between : List Event) (acts : List Act) (w v u : World) : Type 0 where
  caller : caller_of e ≡ Some q
  back : u.stack q ≡ w.stack q
  until : any_by m (is_back q w) (Some v) between ≡ false
  refused : any_by m (is_refusal q (w.stack q)) (Some v) between ≡ false
  pushes : pushes_by m q (w.stack q) (Some v) between ≡ acts

-- so it is in a replay that leads to the event and past it
abbrev Queues : Machine → List Event → Party → Event → List Event → List Act → Type 0
Queues m before q e between acts = IfSome (run_by m (two 32) before) (λ w. IfSome (step_by m w e) (λ v. IfSome (run_by m (Some v) between) (QueuesSo m q e between acts w v)))

-- a spawn in order pushes its job itself, and its token is spent at once
abbrev as_spawn : PoolShape → Party → Place → Seen → Move
as_spawn h q (RaiseCount (Feed f)) Done = HandIn (LookQueue (Detach f.pool f.job)) f.token
as_spawn h q x e = next_of h q x e

-- the clause is broken: the job stands in the deque, and no list
job_in_order_is_pushed_itself : Queues (leading as_spawn) running b (Fifo b 0) (times_go b 4) (PushOwn 1 None ∷ [])
job_in_order_is_pushed_itself = record { caller = refl; back = refl; until = refl; refused = refl; pushes = refl {a = PushOwn 1 None ∷ []} }

-- so the later of two such jobs begins first
later_job_begins_first : IfSome (run_by (leading as_spawn) (two 32) (running ++ Fifo b 0 ∷ times_go b 4 ++ Fifo b 0 ∷ times_go b 4 ++ End b Fine ∷ times_go b 5)) (λ w. ((w.job 1).at ≡ InDeque 0 1) × ((w.job 3).at ≡ Running b))
later_job_begins_first = (refl {a = InDeque 0 1}, refl {a = Running b})

-- it belongs into the list, and a token of it onto the deque, and the machine as it is does so
job_in_order_is_listed : IfSome (run_by right (two 32) running) (λ w. belongs w (Fifo b 0) ≡ FifoIn 1 None ∷ PushOwn 2 None ∷ []) × Queues right running b (Fifo b 0) (times_go b 5) (FifoIn 1 None ∷ PushOwn 2 None ∷ [])
job_in_order_is_listed = (refl {a = FifoIn 1 None ∷ PushOwn 2 None ∷ []}, record { caller = refl; back = refl; until = refl; refused = refl; pushes = refl {a = FifoIn 1 None ∷ PushOwn 2 None ∷ []} })

-- a worker pushes into the injector of its own pool
abbrev injecting : Party → Place → Act
injecting q (PushJob n v) = PushInj (plan_pool n) (plan_job n) (plan_book n)
injecting q x = act_of q x

abbrev injector_machine : Machine
injector_machine = record { act = injecting; aims = target_job; does = effect; next = next_of; made = step }

-- the clause is broken: the job of a worker's spawn belongs onto its deque
spawn_is_injected : IfSome (run_by injector_machine (two 32) running) (λ w. belongs w (Spawn b 0) ≡ PushOwn 1 None ∷ []) × Queues injector_machine running b (Spawn b 0) (times_go b 4) (PushInj 0 1 None ∷ [])
spawn_is_injected = (refl {a = PushOwn 1 None ∷ []}, record { caller = refl; back = refl; until = refl; refused = refl; pushes = refl {a = PushInj 0 1 None ∷ []} })

-- and the machine as it is pushes it there
spawn_is_pushed : Queues right running b (Spawn b 0) (times_go b 4) (PushOwn 1 None ∷ [])
spawn_is_pushed = record { caller = refl; back = refl; until = refl; refused = refl; pushes = refl {a = PushOwn 1 None ∷ []} }

-- the pieces of a broadcast go to the workers of the next pool
abbrev casting : Party → Place → Act
casting q (PushForAll c) = PushCast (record c { pool = c.pool + 1 })
casting q x = act_of q x

abbrev next_pool : Machine
next_pool = record { act = casting; aims = target_job; does = effect; next = next_of; made = step }

-- a broadcast of the caller, begun by an event from w to v, is over in u, nothing refused it, and its pieces were queued
-- at this pool
record DealsAt (m : Machine) (e : Event) (between : List Event) (p : ℕ) (w v u : World) : Type 0 where
  caster : caster_of e ≡ Some c
  back : u.stack c ≡ w.stack c
  until : any_by m (is_back c w) (Some v) between ≡ false
  refused : any_by m (is_cast_refusal c (w.stack c)) (Some v) between ≡ false
  pushes : pushes_by m c (w.stack c) (Some v) between ≡ PushCast (record { count = OfPool 0; pool = p; first = 0; workers = 2 }) ∷ []

abbrev Deals : Machine → ℕ → Type 0
Deals m p = IfSome (two 32) (λ w. IfSome (step_by m w (Cast c 0)) (λ v. IfSome (run_by m (Some v) (times_go c 8)) (DealsAt m (Cast c 0) (times_go c 8) p w v)))

-- the clause is broken: they belong into the lists of the pool that the event names
pieces_go_to_another_pool : Deals next_pool 1
pieces_go_to_another_pool = record { caster = refl; back = refl; until = refl; refused = refl; pushes = refl {a = PushCast (record { count = OfPool 0; pool = 1; first = 0; workers = 2 }) ∷ []} }

-- and the machine as it is queues them there
pieces_go_to_their_pool : Deals right 0 × IfSome (two 32) (λ w. belongs w (Cast c 0) ≡ PushCast (record { count = OfPool 0; pool = 0; first = 0; workers = 2 }) ∷ [])
pieces_go_to_their_pool = (record { caster = refl; back = refl; until = refl; refused = refl; pushes = refl {a = PushCast (record { count = OfPool 0; pool = 0; first = 0; workers = 2 }) ∷ []} }, refl {a = PushCast (record { count = OfPool 0; pool = 0; first = 0; workers = 2 }) ∷ []})
