-- wrong machines: replays, computed by the kernel, in which a changed table or act breaks the clause of a law that
-- forbids it
--
-- Edits of the code that make the same mistakes, each with the function at which the check refuses it:
-- - `injector_looked_at_before_counted`, at `Place::next_dozing`. `last_look_skipped`: `sleeper_skips_last_look`, there
--   too.
-- - `leaving_searcher_wakes_nobody`, at `Touched::counters`. `news_counts_sleepers_as_awake`, at `wakes_for_one`.
-- - `waker_stops_one_short`: `waker_stops_one_worker_short`, at `PoolShape::wake_after`.
-- - `latch_set_by_load_and_store`, at `Touched::set`. `caller_passes_a_latch_that_is_not_set`, at `Touched::latches`.
-- - `announce_leaves_event_counter`, at `Touched::announce`. `lower_lowers_nothing`, at `pool_less`.
-- - `refused_push_keeps_its_share`, at `Place::next_calling`. `refused_call_loses_its_jobs`, at `move_jobs`.
-- - `push_drops_its_job`, at `Pool::write`. `worker_pops_at_the_wrong_end`, at `Parts::peek`.
use Rattle.std.proofs.Common.{refl, ◌∙◌, ap, inl, inr}
use Rattle.rayon_machine_orders.proofs.Words.{ℕ, zero, suc, Bool, true, false, not, ◌&&◌, ◌||◌, ◌+◌, ◌==◌, nat_lt, if◌then◌else◌, Option, Some, None, List, [], ◌∷◌, ◌++◌, ◌≡◌, IfSome, NewestFirst, Party, Worker, Caller, Fine, Latch, Terminate, OfCall, Failed, Missing, Place, LoadCounters}
use Rattle.rayon_machine_orders.proofs.Words.{AddSleeping, LookAtCast, LookAtInjector, BlockSelf, WakeUp, GrowCall, PushJob, LockToWake, UnlockWoken, SetLatch, UnlockSettled, SetLockLatch, Move, Stay, Back, HandBack, Discard, HandAllBack, Act, PopOwn, Lock, SubInactive, PushInj, News, Set}
use Rattle.rayon_machine_orders.proofs.Words.{Lower, Seen, Done, Refused, Yes, No, Jec, Word, Wakes, Event, Go, Refuse, End, Spawn, Install, Join, Letter, Sleeping, IsSet, Injected, HandedBack, PoolShape, Settling, own_pool, finish, act_of, next_of, is_refusable, Shape, Seat, Pool, Stack, World}
use Rattle.rayon_machine_orders.proofs.Words.{or_none, count_below, Counts, counts_at, head_of, last_of, but_first, popped, Part, target_pool, target_worker, target_call, target_job, Outcome, at_job, lowered, effect, count_in, put, put_stack, put_seat, part_of, after_move, jobs_after, step}
use Rattle.rayon_machine_orders.proofs.Words.{start, one, times, shares, keeps_own, has_share, follows, is_committed, is_filled, Happening, Adds, Begins, happened, and_next, TokenList}
use Rattle.rayon_machine_places.specs.declared.act.Act.TheVariants.{Announce, LockWait}
use Rattle.rayon_machine_places.specs.Sleepers.{is_even}
use Rattle.rayon_machine_runs.specs.World.{jec}
use Rattle.rayon_machine_laws.specs.Once.{in_injector, is_with, held}
use Rattle.rayon_machine_laws.specs.Committed.{is_looking}
use Rattle.rayon_machine_laws.specs.Attended.{has_pushed, owes_wake, settles}
use Rattle.rayon_machine_laws.specs.Turn.{is_adding, is_added, is_news}

-- a machine: the act that a place names, the job that an act touches, what each act does, where it leads, and what the
-- events make that are no act
pub record Machine : Type 0 where
  pub act : Party → Place → Act
  pub aims : Shape → Party → Act → Pool → Seat → ℕ
  pub does : Act → Shape → Party → Counts → Part → Outcome
  pub next : PoolShape → Party → Place → Seen → Move
  pub made : World → Event → Option World

-- one whose acts do something else, one whose acts touch another job too, one whose acts lead elsewhere, and one whose
-- events make something else
abbrev pub doing : (Act → Shape → Party → Counts → Part → Outcome) → Machine
doing f = record { act = act_of; aims = target_job; does = f; next = next_of; made = step }

abbrev pub aiming : (Shape → Party → Act → Pool → Seat → ℕ) → (Act → Shape → Party → Counts → Part → Outcome) → Machine
aiming g f = record { act = act_of; aims = g; does = f; next = next_of; made = step }

abbrev pub leading : (PoolShape → Party → Place → Seen → Move) → Machine
leading f = record { act = act_of; aims = target_job; does = effect; next = f; made = step }

abbrev pub making : (World → Event → Option World) → Machine
making f = record { act = act_of; aims = target_job; does = effect; next = next_of; made = f }

-- a party's act, as `act_at` and `after` have it
abbrev pub done_by : Machine → World → Party → Stack → Act → Outcome → Option World
done_by m w q s a None = None
done_by m w q s a (Some r) = Some (record w {
  stack = put_stack w.stack q (after_move (m.next (w.shape.pool (target_pool q a)) q s.top (r.0)) s.below);
  seat = put_seat w.seat (target_pool q a) (target_worker q a) (r.1.seat);
  pool = put w.pool (target_pool q a) (r.1.pool);
  call = put w.call (target_call a) (r.1.call);
  job = jobs_after q (m.next (w.shape.pool (target_pool q a)) q s.top (r.0)) (put w.job (m.aims w.shape q a (w.pool (target_pool q a)) (w.seat (target_pool q a) (target_worker q a))) (r.1.job));
})

abbrev pub act_by : Machine → World → Party → Stack → Act → Option World
act_by m w q s a = done_by m w q s a (m.does a w.shape q (counts_at w (target_pool q a)) (part_of w (target_pool q a) (target_worker q a) (target_call a) (m.aims w.shape q a (w.pool (target_pool q a)) (w.seat (target_pool q a) (target_worker q a)))))

-- a party's next act is refused, as `after_refusal` has it; where the machine leads to the call's last step at once,
-- that is made too
abbrev pub refused_by : Machine → World → Party → Stack → Option World
refused_by m w q s =
    if is_refusable s.top
    then Some (record w {
      stack = put_stack w.stack q (after_move (m.next (w.shape.pool (own_pool q)) q s.top Refused) s.below);
      job = jobs_after q (m.next (w.shape.pool (own_pool q)) q s.top Refused) w.job;
    })
    else None

abbrev pub step_by : Machine → World → Event → Option World
step_by m w (Go q) = act_by m w q (w.stack q) (m.act q (w.stack q).top)
step_by m w (Refuse q) = refused_by m w q (w.stack q)
step_by m w e = m.made w e

abbrev pub then_by : Machine → Option World → Event → Option World
then_by m None e = None
then_by m (Some w) e = step_by m w e

abbrev pub run_by : Machine → Option World → List Event → Option World
run_by m o [] = o
run_by m o (e ∷ es) = run_by m (then_by m o e) es

abbrev pub times_go : Party → ℕ → List Event
times_go q zero = []
times_go q (suc n) = Go q ∷ times_go q n

-- two workers, with an event counter of so many bits
abbrev pub two : ℕ → Option World
two k = Some (start (record { pool = λ p. record { workers = 2; limit = 0; order = NewestFirst; callers_own = false }; callers = 16; jec_bits = k }))

abbrev pub a : Party
a = Worker 0 0

abbrev pub b : Party
b = Worker 0 1

abbrev pub c : Party
c = Caller 0

abbrev d : Party
d = Caller 1

-- a party is no waker of pool 0 for this worker
abbrev is_waker : World → Party → ℕ → Bool
is_waker w q i = has_pushed q (w.stack q).top 0 || owes_wake (w.stack q).top 0 i

-- the first clause is broken at this worker: nobody looks, and none of the parties that ever moved is a waker
record Unattended (w : World) (i : ℕ) : Type 0 where
  filled : is_filled (w.pool 0).injector ≡ true
  committed : is_committed w 0 i ≡ true
  looks : (is_looking w 0 0 || is_looking w 0 1) ≡ false
  wakers : ((is_waker w a i || is_waker w b i) || (is_waker w c i || is_waker w d i)) ≡ false

-- the machine as it is
abbrev pub right : Machine
right = leading next_of

-- the last look at the injector comes before the worker counts itself as sleeping
abbrev early_look : PoolShape → Party → Place → Seen → Move
early_look h q (LoadCounters w) (Word s i j) = if j == w.kept then Stay (LookAtInjector (record w { sleeping = s; inactive = i })) else Stay (WakeUp (record w { rounds = Failed h.limit }))
early_look h q (LookAtInjector w) Yes = Stay (AddSleeping w)
early_look h q (LookAtCast w) Yes = Stay (BlockSelf w)
early_look h q x e = next_of h q x e

-- one worker looks, the other's Announce and one News make a whole turn of a counter of one bit, and that other leaves
-- with the first of two jobs
abbrev early_run : List Event
early_run = times_go a 22 ++ times_go b 10 ++ Spawn c 0 ∷ times_go c 4 ++ Spawn d 0 ∷ times_go d 4 ++ times_go b 8 ++ times_go a 2

injector_looked_at_before_counted : IfSome (run_by (leading early_look) (two 1) early_run) (λ w. Unattended w 0)
injector_looked_at_before_counted = record { filled = refl; committed = refl; looks = refl; wakers = refl }

-- a sleeper skips its last look at the injector
abbrev no_look : PoolShape → Party → Place → Seen → Move
no_look h q (LookAtCast w) Yes = Stay (BlockSelf w)
no_look h q x e = next_of h q x e

abbrev blind_run : List Event
blind_run = times_go a 21 ++ times_go b 10 ++ Spawn c 0 ∷ times_go c 4 ++ Spawn d 0 ∷ times_go d 4 ++ times_go b 8 ++ times_go a 2

last_look_skipped : IfSome (run_by (leading no_look) (two 1) blind_run) (λ w. Unattended w 0)
last_look_skipped = record { filled = refl; committed = refl; looks = refl; wakers = refl }

-- the machine as it is sees the job, and takes itself out of the sleeping ones
last_look_made : IfSome (run_by right (two 1) (blind_run ++ Go a ∷ [])) (λ w. is_committed w 0 0 ≡ false)
last_look_made = refl

-- a worker that leaves its search wakes nobody
abbrev leaves_alone : Act → Shape → Party → Counts → Part → Outcome
leaves_alone SubInactive h q n m = Some (Wakes 0, record m { seat = record (m.seat) { inactive = false } })
leaves_alone act h q n m = effect act h q n m

-- two callers both saw an empty injector and one worker awake, which leaves with the first job
abbrev leaving_run : List Event
leaving_run = times_go a 25 ++ times_go b 9 ++ Spawn c 0 ∷ times_go c 2 ++ Spawn d 0 ∷ times_go d 2 ++ times_go c 2 ++ times_go d 2 ++ times_go b 2

leaving_searcher_wakes_nobody : IfSome (run_by (doing leaves_alone) (two 32) leaving_run) (λ w. Unattended w 0)
leaving_searcher_wakes_nobody = record { filled = refl; committed = refl; looks = refl; wakers = refl }

-- one worker runs a job and the other sleeps, when a second job comes
abbrev second_job : List Event
second_job = Spawn c 0 ∷ times_go c 4 ++ times_go a 12 ++ times_go b 25 ++ Spawn c 0 ∷ times_go c 4

-- a waker stops one worker short of the last
abbrev short_walk : PoolShape → Party → Place → Seen → Move
short_walk h q (UnlockWoken k) e = if nat_lt 0 k.owed && nat_lt (k.worker + 2) h.workers then Stay (LockToWake (record k { worker = k.worker + 1 })) else finish q k.then
short_walk h q x e = next_of h q x e

waker_stops_one_short : IfSome (run_by (leading short_walk) (two 32) (second_job ++ times_go c 3)) (λ w. Unattended w 1)
waker_stops_one_short = record { filled = refl; committed = refl; looks = refl; wakers = refl }

-- News counts the sleepers among those that are awake and idle
abbrev counts_sleepers : Act → Shape → Party → Counts → Part → Outcome
counts_sleepers (News p e) h q n m = Some (Wakes (if n.sleeping == 0 then 0 else if not e then 1 else if nat_lt n.inactive 1 then 1 else 0), record m { pool = record (m.pool) { turn = if is_even m.pool.turn then m.pool.turn + 1 else m.pool.turn } })
counts_sleepers act h q n m = effect act h q n m

news_counts_sleepers_as_awake : IfSome (run_by (doing counts_sleepers) (two 32) second_job) (λ w. Unattended w 1)
news_counts_sleepers_as_awake = record { filled = refl; committed = refl; looks = refl; wakers = refl }

abbrev loaded : Part → Letter → Outcome
loaded m Sleeping = Some (Yes, record m { call = record (m.call) { latch = IsSet } })
loaded m x = Some (No, m)

-- a latch is set by a load, and then a store that no longer looks
abbrev loads : Act → Shape → Party → Counts → Part → Outcome
loads (Set (OfCall n) p i) h q k m = loaded m m.call.latch
loads act h q k m = effect act h q k m

abbrev stores_after : Settling → Latch → Move
stores_after s Terminate = Stay (UnlockSettled s)
stores_after s (OfCall n) = Stay (SetLockLatch n s.then)

abbrev load_and_store : PoolShape → Party → Place → Seen → Move
load_and_store h q (SetLatch s) No = stores_after s s.latch
load_and_store h q x e = next_of h q x e

-- the owner of a join falls asleep between the thief's load and its store
abbrev store_run : List Event
store_run = Install c 0 ∷ times_go c 5 ++ times_go b 12 ++ Join b ∷ times_go b 5 ++ times_go a 11 ++ End b Fine ∷ times_go b 22 ++ End a Fine ∷ times_go a 2 ++ times_go b 6 ++ Go a ∷ []

-- the second clause is broken: a worker is blocked on the set latch of call 1, and no party that ever moved settles it
record Forgotten (w : World) : Type 0 where
  blocked : (w.seat 0 1).blocked ≡ true
  waits : act_of b (w.stack b).top ≡ Lock 0 1
  set : (w.call 1).latch ≡ IsSet
  settlers : (settles (w.stack a).top 0 1 (OfCall 1) || (settles (w.stack b).top 0 1 (OfCall 1) || settles (w.stack c).top 0 1 (OfCall 1))) ≡ false

latch_set_by_load_and_store : IfSome (run_by (record { act = act_of; aims = target_job; does = loads; next = load_and_store; made = step }) (two 32) store_run) Forgotten
latch_set_by_load_and_store = record { blocked = refl; waits = refl; set = refl; settlers = refl }

-- an Announce leaves the event counter as it is
abbrev keeps_turn : Act → Shape → Party → Counts → Part → Outcome
keeps_turn Announce h q n m = Some (Jec (jec h m.pool.turn), m)
keeps_turn act h q n m = effect act h q n m

abbrev quiet_machine : Machine
quiet_machine = doing keeps_turn

-- the turn is odd when a worker announces itself
abbrev odd_run : List Event
odd_run = Spawn c 0 ∷ times_go c 4 ++ times_go b 12 ++ times_go a 11

-- then it reads the counters, and a second job is pushed
abbrev second_push : List Event
second_push = odd_run ++ times_go a 10 ++ Spawn c 0 ∷ times_go c 3

-- the law of the turn is broken: no raise lies between the Announce and the TryAdd, which is done, but a News does
announced : IfSome (run_by quiet_machine (two 32) odd_run) (λ w. (w.pool 0).turn ≡ 1)
announced = refl

news_comes : IfSome (run_by quiet_machine (two 32) second_push) (λ w. (is_news 0 w (Go c) ≡ true) × (is_adding (w.stack a).top ≡ true))
news_comes = (refl, refl)

announce_leaves_event_counter : IfSome (run_by quiet_machine (two 32) (second_push ++ Go c ∷ Go a ∷ [])) (λ w. (is_added (w.stack a).top ≡ true) × ((w.pool 0).turn ≡ 1))
announce_leaves_event_counter = (refl, refl)

-- an outside caller passes its lock latch though it is not set
abbrev passes_unset : Act → Shape → Party → Counts → Part → Outcome
passes_unset (LockWait k) h q n m = Some (Done, m)
passes_unset act h q n m = effect act h q n m

-- it installs a job that no worker has taken yet, and takes from its cell
abbrev early_take : List Event
early_take = Install c 0 ∷ times_go c 7

-- the law of ends is broken: a call answers that its result is missing, while its job still stands in the injector
record Unanswered (w : World) : Type 0 where
  answer : follows (w.stack c).top ≡ Some (Missing (record { number = 0; pool = 0; job = 0 }) None)
  queued : (w.job 0).at ≡ Injected 0

caller_passes_a_latch_that_is_not_set : IfSome (run_by (doing passes_unset) (two 32) early_take) Unanswered
caller_passes_a_latch_that_is_not_set = record { answer = refl; queued = refl }

-- the machine as it is waits there
caller_waits : run_by right (two 32) (Install c 0 ∷ times_go c 6) ≡ None
caller_waits = refl

-- a caller's spawn whose push is refused, and the act after that
abbrev refused_run : List Event
refused_run = Spawn c 0 ∷ times_go c 2 ++ Refuse c ∷ Go c ∷ []

-- the machine as it is lowers the count again, and hands the job back
refused_push_undone : IfSome (run_by right (two 32) refused_run) (λ w. ((w.pool 0).count ≡ 1) × ((w.job 0).counted ≡ false) × ((w.job 0).at ≡ HandedBack))
refused_push_undone = (refl, refl, refl)

-- a refused push keeps its share of the terminate count, and so does a call that is refused its room
abbrev keeps_share : PoolShape → Party → Place → Seen → Move
keeps_share h q (GrowCall n) Refused = HandBack n
keeps_share h q (PushJob n e) Refused = HandBack n
keeps_share h q x e = next_of h q x e

-- the law of the count is broken: a share is in the count that none of the parties that ever moved keeps, nor its job
record Unkept (w : World) (t : ℕ) : Type 0 where
  counted : (w.job t).counted ≡ true
  parties : (shares t (w.stack a) + shares t (w.stack b) + (shares t (w.stack c) + shares t (w.stack d))) ≡ 0
  owner : keeps_own (w.job t) ≡ false

refused_push_keeps_its_share : IfSome (run_by (leading keeps_share) (two 32) (Spawn c 0 ∷ times_go c 2 ++ Refuse c ∷ [])) (λ w. Unkept w 0)
refused_push_keeps_its_share = record { counted = refl; parties = refl; owner = refl }

-- a Lower clears the record of its share, and leaves the number
abbrev leaves_number : Act → Shape → Party → Counts → Part → Outcome
leaves_number (Lower k s) h q n m =
    let v : Part = lowered m k s in
    Some ((if count_in m k == 1 then Yes else No), record v { pool = record (v.pool) { count = m.pool.count }; call = record (v.call) { count = m.call.count } })
leaves_number act h q n m = effect act h q n m

-- the law of the count is broken: the number is one more than the shares, so this pool will never end
record Miscounted (w : World) (p : ℕ) : Type 0 where
  number : (w.pool p).count ≡ 2
  shares : (one (w.pool p).counted + count_below w.jobs (λ t. has_share p (w.job t))) ≡ 1

lower_lowers_nothing : IfSome (run_by (doing leaves_number) (two 32) refused_run) (λ w. Miscounted w 0)
lower_lowers_nothing = record { number = refl; shares = refl }

-- a push into an injector drops its job
abbrev drops_job : Act → Shape → Party → Counts → Part → Outcome
drops_job (PushInj p t b) h q n m = Some (Done, record m { job = at_job (m.job) (Injected p) })
drops_job act h q n m = effect act h q n m

-- the law of places is broken: a job's record says that it is injected, and it does not stand there
record Dropped (w : World) (p t : ℕ) : Type 0 where
  says : in_injector p (w.job t).at ≡ true
  stands : times t (w.pool p).injector ≡ 0

push_drops_its_job : IfSome (run_by (doing drops_job) (two 32) (Spawn c 0 ∷ times_go c 3)) (λ w. Dropped w 0 0)
push_drops_its_job = record { says = refl; stands = refl }

-- a refused call makes its last step, and hands no job back
abbrev gives_none : Move → Move
gives_none (HandBack n) = Back
gives_none (Discard n) = Back
gives_none (HandAllBack b9) = Back
gives_none g = g

abbrev loses_jobs : PoolShape → Party → Place → Seen → Move
loses_jobs h q x e = gives_none (next_of h q x e)

-- the law of places is broken: a job's record says that its call has it, and nobody has it in hand
record Lost (w : World) (t : ℕ) : Type 0 where
  says : (is_with c (w.job t).at && ((w.job t).runs == 0)) ≡ true
  hand : held t (w.stack c) ≡ 0

refused_call_loses_its_jobs : IfSome (run_by (leading loses_jobs) (two 32) refused_run) (λ w. Lost w 0)
refused_call_loses_its_jobs = record { says = refl; hand = refl }

-- a worker takes from its own deque the oldest job, where it should take the newest
abbrev wrong_end : Act → Shape → Party → Counts → Part → Outcome
wrong_end PopOwn h q n m = popped q m (but_first m.seat.own) (head_of m.seat.own)
wrong_end act h q n m = effect act h q n m

abbrev aims_at_oldest : Shape → Party → Act → Pool → Seat → ℕ
aims_at_oldest h q PopOwn v s = or_none (head_of s.own)
aims_at_oldest h q act v s = target_job h q act v s

-- what happens at worker 0 of pool 0 in a run of a machine
abbrev happenings_by : Machine → Option World → List Event → List Happening
happenings_by m None es = []
happenings_by m (Some w) [] = []
happenings_by m (Some w) (e ∷ es) = and_next (happened 0 w e (step_by m w e)) (happenings_by m (step_by m w e) es)

-- one worker, whose job spawns two; once it has ended, the worker begins one of them
abbrev pub lone : Option World
lone = Some (start (record { pool = λ p. record { workers = 1; limit = 0; order = NewestFirst; callers_own = false }; callers = 16; jec_bits = 32 }))

abbrev two_spawns : List Event
two_spawns = Spawn c 0 ∷ times_go c 4 ++ times_go a 10 ++ Spawn a 0 ∷ times_go a 4 ++ Spawn a 0 ∷ times_go a 4 ++ End a Fine ∷ times_go a 4

-- the law of the order is broken: no token list hands the jobs out so
abbrev earlier_first : List Happening
earlier_first = Begins 0 ∷ Adds (Some 0) 1 ∷ Adds (Some 0) 2 ∷ Begins 1 ∷ []

worker_pops_at_the_wrong_end : happenings_by (aiming aims_at_oldest wrong_end) lone two_spawns ≡ earlier_first
worker_pops_at_the_wrong_end = refl

last_entry : (l : List ℕ) (t : ℕ) → last_of (l ++ t ∷ []) ≡ Some t
last_entry (u ∷ v ∷ l) t = last_entry (v ∷ l) t
last_entry _ t = refl

not_handed : (lists left_lists : Option ℕ → List ℕ) (left : List ℕ) → TokenList NewestFirst [] lists earlier_first left left_lists → ⊥
not_handed f g left (inl (rest, h, more)) = let k : last_of [] ≡ Some 0 = ap last_of h ∙ last_entry rest 0 in cc
not_handed f g left (inr (z, inl (rest, h, more))) = let k : last_of (1 ∷ 2 ∷ []) ≡ Some 1 = ap last_of h ∙ last_entry rest 1 in cc
not_handed f g left (inr (z, inr (y, more))) = cc

-- the machine as it is begins the later one
later_first : happenings_by right lone two_spawns ≡ Begins 0 ∷ Adds (Some 0) 1 ∷ Adds (Some 0) 2 ∷ Begins 2 ∷ []
later_first = refl
