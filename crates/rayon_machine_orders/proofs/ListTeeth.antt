-- wrong machines of lists: replays, computed by the kernel, in which a changed table or act breaks the clause of a law
-- that forbids it
--
-- Edits of the code that make the same mistakes, each with the function at which the check refuses it:
-- - `wrong_job_is_taken_back`: `refused_call_takes_the_first_job_back`, at `FifoList::write`.
-- - `refused_token_leaves_its_job`: `refused_token_keeps_its_job_in_the_list`, at `Place::next_feeding`.
-- - `token_of_a_scope_before_its_job`: `token_of_a_scope_pushed_before_its_job`, at `Plan::after_slot`.
-- - `job_of_a_scope_in_the_detached_list`: `jobs_of_a_scope_go_to_the_list_of_detached_jobs`, at `Place::feeding_act`.
-- - `thief_takes_the_newest`: `steal_takes_the_newest`, at `Seat::write_own`.
use Rattle.std.proofs.Common.{refl, ap, inl, inr}
use Rattle.rayon_machine_orders.proofs.Words.{ℕ, ◌+◌, nat_lt, if◌then◌else◌, Option, Some, None, List, [], ◌∷◌, ◌++◌, ◌≡◌, IfSome, false, OldestFirst, Party, Feed, Plain, Place, OpenSlot, AddToFifo, LookForToken, PushToken, Move, Stay, Act, Steal, PopInj, PushCast, FifoIn, FifoUndo, FifoOut}
use Rattle.rayon_machine_orders.proofs.Words.{Seen, Done, Task, Event, Go, Refuse, Spawn, Fifo, Cast, OpenScope, IntoFifo, Closed, HandedBack, Retaken, Running, PoolShape, after_push, act_of, next_of, Shape, Seat, Pool, World, or_none, head_of, last_of, but_first, but_last, Counts, Part}
use Rattle.rayon_machine_orders.proofs.Words.{Outcome, at_job, is_open, put_list, popped, taken_as, target_job, effect, Pushes, Takes, Shifts, deque_shift, injector_shift, cast_shift, Changes, Leaves, change}
use Rattle.rayon_machine_places.specs.declared.act.Seen.TheVariants.{Missing}
use Rattle.rayon_machine_orders.specs.Lists.{shift_at}
use Rattle.rayon_machine_orders.proofs.WrongMachines.{Machine, doing, aiming, leading, step_by, run_by, times_go, lone, two, a, b, c, right}
use Rattle.rayon_machine_orders.proofs.CallTeeth.{running}

-- a refused call takes the first job of the list back, where it should take the last
abbrev first_back : Party → Part → Option ℕ → Option ℕ → Outcome
first_back q m b None = Some (Missing, m)
first_back q m b (Some t) = Some (Task (Plain t), record m { seat = record (m.seat) { fifo = put_list m.seat.fifo b (but_first (m.seat.fifo b)); feeder = put_list m.seat.feeder b None }; job = at_job (m.job) (Retaken q) })

abbrev undoes_first : Act → Shape → Party → Counts → Part → Outcome
undoes_first (FifoUndo b) h q n m = if is_open q (m.seat.feeder b) then first_back q m b (head_of (m.seat.fifo b)) else None
undoes_first act h q n m = effect act h q n m

abbrev aims_at_first : Shape → Party → Act → Pool → Seat → ℕ
aims_at_first h q (FifoUndo b) v s = or_none (head_of (s.fifo b))
aims_at_first h q act v s = target_job h q act v s

abbrev undoing : Machine
undoing = aiming aims_at_first undoes_first

-- a job makes two calls for its worker's FIFO list, and the second push is refused
abbrev second_refused : List Event
second_refused = Spawn c 0 ∷ times_go c 4 ++ times_go a 10 ++ Fifo a 0 ∷ times_go a 5 ++ Fifo a 0 ∷ times_go a 3 ++ Refuse a ∷ []

-- the law of the order is broken: the last job of the list is left there, and the first is taken back
record TakesFirst (m : Machine) (w : World) : Type 0 where
  act : act_of a (w.stack a).top ≡ FifoUndo None
  list : (w.seat 0 0).fifo None ≡ 1 ∷ 3 ∷ []
  after : IfSome (step_by m w (Go a)) (λ v. (change 0 0 None w (Go a) v ≡ Some Leaves) × ((v.seat 0 0).fifo None ≡ 3 ∷ []))

wrong_job_is_taken_back : IfSome (run_by undoing lone second_refused) (TakesFirst undoing)
wrong_job_is_taken_back = record { act = refl; list = refl; after = (refl, refl) }

not_last : Changes (1 ∷ 3 ∷ []) (Some Leaves) (3 ∷ []) → ⊥
not_last e = let n : head_of (3 ∷ []) ≡ head_of (1 ∷ []) = ap head_of e in cc

-- the machine as it is takes the last
own_job_is_taken_back : IfSome (run_by right lone (second_refused ++ Go a ∷ [])) (λ w. (w.seat 0 0).fifo None ≡ 1 ∷ [])
own_job_is_taken_back = refl

-- a spawn in order into a scope that is to take its job back, but leaves it in the list, gives the rest back
abbrev leaves_in_list : PoolShape → Party → Place → Seen → Move
leaves_in_list h q (PushToken f v) Done = next_of h q (PushToken f v) Done
leaves_in_list h q (PushToken f v) e = Stay (after_push (Feed f))
leaves_in_list h q x e = next_of h q x e

-- a worker's run opens a scope and spawns in order into it
abbrev scope_opened : List Event
scope_opened = running ++ OpenScope b 0 ∷ times_go b 2

-- the clause of refused calls is broken: the job is handed back, and stands in the scope's list
record StandsStill (w : World) : Type 0 where
  at : (w.job 2).at ≡ HandedBack
  list : (w.seat 0 1).fifo (Some 1) ≡ 2 ∷ []

refused_token_leaves_its_job : IfSome (run_by (leading leaves_in_list) (two 32) (scope_opened ++ IntoFifo b 0 ∷ times_go b 4 ++ Refuse b ∷ times_go b 2)) StandsStill
refused_token_leaves_its_job = record { at = refl; list = refl }

-- in the machine as it is nothing of it is left: the list is empty, the number is taken back, and the count is 1
record IsUndone (w : World) : Type 0 where
  at : (w.job 2).at ≡ HandedBack
  list : (w.seat 0 1).fifo (Some 1) ≡ []
  slot : (w.job 2).slot ≡ Closed
  slots : (w.call 1).slots ≡ 0
  count : (w.call 1).count ≡ 1
  counted : (w.job 2).counted ≡ false

refused_token_undone : IfSome (run_by right (two 32) (scope_opened ++ IntoFifo b 0 ∷ times_go b 4 ++ Refuse b ∷ times_go b 3)) IsUndone
refused_token_undone = record { at = refl; list = refl; slot = refl; slots = refl; count = refl; counted = refl }

-- a call for the FIFO list of a scope pushes its token before it adds its job
abbrev token_first : PoolShape → Party → Place → Seen → Move
token_first h q (OpenSlot (Feed f)) Done = Stay (LookForToken f)
token_first h q (PushToken f v) Done = Stay (AddToFifo f)
token_first h q x e = next_of h q x e

-- the clause of tokens is broken: the other worker has the token, and the scope's list is empty
token_of_a_scope_before_its_job : IfSome (run_by (leading token_first) (two 32) (scope_opened ++ IntoFifo b 0 ∷ times_go b 4 ++ times_go a 10)) (λ w. (act_of a (w.stack a).top ≡ FifoOut 3 1 (Some 1)) × ((w.seat 0 1).fifo (Some 1) ≡ []))
token_of_a_scope_before_its_job = (refl, refl)

-- a spawn in order into a scope adds its job to the worker's list of detached jobs, and its token is of the scope's
abbrev adds_detached : Act → Shape → Party → Counts → Part → Outcome
adds_detached (FifoIn t b) h q n m = effect (FifoIn t None) h q n m
adds_detached act h q n m = effect act h q n m

-- the clause of tokens is broken: a party is to redeem the token, and the scope's list is empty
job_of_a_scope_in_the_detached_list : IfSome (run_by (doing adds_detached) (two 32) (scope_opened ++ IntoFifo b 0 ∷ times_go b 6 ++ times_go a 10)) (λ w. (act_of a (w.stack a).top ≡ FifoOut 3 1 (Some 1)) × ((w.seat 0 1).fifo (Some 1) ≡ []) × ((w.seat 0 1).fifo None ≡ 2 ∷ []))
job_of_a_scope_in_the_detached_list = (refl, refl, refl)

-- in the machine as it is the job stands in the scope's list
job_of_a_scope_in_its_list : IfSome (run_by right (two 32) (scope_opened ++ IntoFifo b 0 ∷ times_go b 6 ++ times_go a 10)) (λ w. (act_of a (w.stack a).top ≡ FifoOut 3 1 (Some 1)) × ((w.seat 0 1).fifo (Some 1) ≡ 2 ∷ []) × ((w.seat 0 1).fifo None ≡ []))
job_of_a_scope_in_its_list = (refl, refl, refl)

-- a thief takes the newest task of the deque
abbrev steals_last : Act → Shape → Party → Counts → Part → Outcome
steals_last (Steal p v) h q n m = popped q m (but_last m.seat.own) (last_of m.seat.own)
steals_last act h q n m = effect act h q n m

abbrev aims_at_last : Shape → Party → Act → Pool → Seat → ℕ
aims_at_last h q (Steal p i) v s = or_none (last_of s.own)
aims_at_last h q act v s = target_job h q act v s

-- a run spawns two jobs, and the other worker is to steal
abbrev pub stolen_run : List Event
stolen_run = running ++ Spawn b 0 ∷ times_go b 4 ++ Spawn b 0 ∷ times_go b 4 ++ times_go a 8

-- where the thief has one job in hand after the steal, and this is left
record Steals (m : Machine) (hand : ℕ) (left : List ℕ) (w : World) : Type 0 where
  act : act_of a (w.stack a).top ≡ Steal 0 1
  deque : (w.seat 0 1).own ≡ 1 ∷ 2 ∷ []
  after : IfSome (step_by m w (Go a)) (λ v. (shift_at (deque_shift w.shape 0 1) w (Go a) v ≡ Some (Takes OldestFirst (Some hand))) × ((v.seat 0 1).own ≡ left))

-- the clause of lists is broken: the earlier one is left
thief_takes_the_newest : IfSome (run_by (aiming aims_at_last steals_last) (two 32) stolen_run) (Steals (aiming aims_at_last steals_last) 2 (1 ∷ []))
thief_takes_the_newest = record { act = refl; deque = refl; after = (refl, refl) }

not_oldest : Shifts (1 ∷ 2 ∷ []) (Some (Takes OldestFirst (Some 2))) (1 ∷ []) → ⊥
not_oldest (inl (e, f)) = cc
not_oldest (inr (t, e, h)) = let n : last_of (1 ∷ 2 ∷ []) ≡ last_of (t ∷ 1 ∷ []) = ap last_of h in cc

-- in the machine as it is the later one
thief_takes_the_oldest : IfSome (run_by right (two 32) stolen_run) (Steals right 1 (2 ∷ []))
thief_takes_the_oldest = record { act = refl; deque = refl; after = (refl, refl) }

-- a worker takes the newest job of the injector
abbrev newest_taken : Party → Part → Option ℕ → Outcome
newest_taken q m None = Some (Missing, m)
newest_taken q m (Some t) = Some (Task (taken_as t m.job.kind), record m { pool = record (m.pool) { injector = but_last m.pool.injector }; job = at_job (m.job) (Running q) })

abbrev pops_last : Act → Shape → Party → Counts → Part → Outcome
pops_last PopInj h q n m = newest_taken q m (last_of m.pool.injector)
pops_last act h q n m = effect act h q n m

abbrev aims_at_newest : Shape → Party → Act → Pool → Seat → ℕ
aims_at_newest h q PopInj v s = or_none (last_of v.injector)
aims_at_newest h q act v s = target_job h q act v s

-- a caller spawns two jobs, and a worker is to look at the injector
abbrev injected_run : List Event
injected_run = Spawn c 0 ∷ times_go c 4 ++ Spawn c 0 ∷ times_go c 4 ++ times_go a 9

record PopsInjector (m : Machine) (hand : ℕ) (left : List ℕ) (w : World) : Type 0 where
  act : act_of a (w.stack a).top ≡ PopInj
  injector : (w.pool 0).injector ≡ 0 ∷ 1 ∷ []
  after : IfSome (step_by m w (Go a)) (λ v. (shift_at (injector_shift 0) w (Go a) v ≡ Some (Takes OldestFirst (Some hand))) × ((v.pool 0).injector ≡ left))

-- the clause of lists is broken: the earlier one is left
injector_popped_newest_first : IfSome (run_by (aiming aims_at_newest pops_last) (two 32) injected_run) (PopsInjector (aiming aims_at_newest pops_last) 1 (0 ∷ []))
injector_popped_newest_first = record { act = refl; injector = refl; after = (refl, refl) }

not_earliest : Shifts (0 ∷ 1 ∷ []) (Some (Takes OldestFirst (Some 1))) (0 ∷ []) → ⊥
not_earliest (inl (e, f)) = cc
not_earliest (inr (t, e, h)) = let n : last_of (0 ∷ 1 ∷ []) ≡ last_of (t ∷ 0 ∷ []) = ap last_of h in cc

-- in the machine as it is the later one
injector_popped_oldest_first : IfSome (run_by right (two 32) injected_run) (PopsInjector right 0 (1 ∷ []))
injector_popped_oldest_first = record { act = refl; injector = refl; after = (refl, refl) }

-- a broadcast adds its pieces first
abbrev deals_first : Act → Shape → Party → Counts → Part → Outcome
deals_first (PushCast b) h q n m = Some (Done, record m { pool = record (m.pool) { casts = λ i. if nat_lt i b.workers then (b.first + i) ∷ m.pool.casts i else m.pool.casts i } })
deals_first act h q n m = effect act h q n m

-- a caller broadcasts, and is to queue the pieces of a second broadcast
abbrev cast_run : List Event
cast_run = Cast c 0 ∷ times_go c 8 ++ Cast c 0 ∷ times_go c 1

record Deals (m : Machine) (list : List ℕ) (w : World) : Type 0 where
  before : (w.pool 0).casts 0 ≡ 0 ∷ []
  after : IfSome (step_by m w (Go c)) (λ v. (shift_at (cast_shift 0 0) w (Go c) v ≡ Some (Pushes 2)) × ((v.pool 0).casts 0 ≡ list))

-- the clause of lists is broken: the later piece stands first
broadcast_adds_its_pieces_first : IfSome (run_by (doing deals_first) (two 32) cast_run) (Deals (doing deals_first) (2 ∷ 0 ∷ []))
broadcast_adds_its_pieces_first = record { before = refl {a = 0 ∷ []}; after = (refl {a = Some (Pushes 2)}, refl {a = 2 ∷ 0 ∷ []}) }

not_added_last : Shifts (0 ∷ []) (Some (Pushes 2)) (2 ∷ 0 ∷ []) → ⊥
not_added_last e = let n : head_of (2 ∷ 0 ∷ []) ≡ head_of (0 ∷ 2 ∷ []) = ap head_of e in cc

-- in the machine as it is last
broadcast_adds_its_pieces_last : IfSome (run_by right (two 32) cast_run) (Deals right (0 ∷ 2 ∷ []))
broadcast_adds_its_pieces_last = record { before = refl {a = 0 ∷ []}; after = (refl {a = Some (Pushes 2)}, refl {a = 0 ∷ 2 ∷ []}) }
