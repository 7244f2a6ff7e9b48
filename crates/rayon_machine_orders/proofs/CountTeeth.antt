-- wrong machines of counts and latches: replays, computed by the kernel, in which a changed table, act or event breaks
-- the clause of a law that forbids it
--
-- Edits of the code that make the same mistakes, each with the function at which the check refuses it:
-- - `end_sets_latches_at_once`, at `Place::next_closing`. `join_skips_second_side`, at `Place::resume`.
-- - `scope_starts_at_zero` and `spawn_finds_zero`: `scope_starts_at_zero`, at `Call::waiting`.
--   `scope_counts_its_jobs_alone`: with it `raise_of_a_count_of_zero_is_done`, at `Touched::raise`.
-- - `scope_ends_while_a_job_runs`: `body_sets_the_latch_of_its_scope_at_once`, at `Place::next_closing`.
-- - `body_lowers_the_scope_twice`: `body_lowers_its_scope_again`, at `Place::next_closing`.
-- - `store_comes_after_the_lower`: `job_of_a_scope_lowers_before_it_stores`, at `Parties::close`.
-- - `wrong_number_is_taken_back` and `taken_number_is_missing`: `undo_takes_the_number_of_another_job`, at
--   `Place::scoping_act`.
-- - `leaving_searcher_wakes_one`, at `wakes_on_leaving`. `news_takes_each_queue_for_empty`, at `wakes_for_one`.
-- - `number_is_nobodys`: `undone_number_stays_open`, at `Touched::closing_slot`. `refused_number_is_filled`, there too.
-- - `body_leaves_out_its_lower`: `scope_leaves_out_the_lower_of_its_body`, at `Place::next_scoping`.
use Rattle.std.proofs.Common.{refl}
use Rattle.rayon_machine_orders.proofs.Words.{ℕ, true, false, ◌+◌, ◌-◌, Option, Some, None, List, [], ◌∷◌, ◌++◌, ◌≡◌, IfSome, min, if◌then◌else◌, NewestFirst, Party, Worker, Ending, Fine, Fault, JobKind, Scoped, BodyOf, Target, Answer, Enter, OfPool, OfScope, Body, OfJob, Resume, Answers, Ran}
use Rattle.rayon_machine_orders.proofs.Words.{Place, ProbeWorking, Run, CloseSlot, LowerCount, StoreBody, StoreSlot, Move, Stay, EnterAbove, Back, Wait, Act, SubInactive, News, Take, Seen, Done, Yes, No, Wakes, Event, Refuse, End, Spawn, Install, Join, OpenScope, IntoSpawn, IsSet, Slot, Closed}
use Rattle.rayon_machine_orders.proofs.Words.{IsOpen, Filled as IsFilled, InDeque, Running, Over, HandedBack, PoolShape, set_call, settle_count, act_of, next_of, Shape, Stack, World, count_below, Counts, Part, Outcome, counts_at, is_open, raised, target_job, effect, put, put_stack, step, start}
use Rattle.rayon_machine_orders.proofs.Words.{one, has_entry, all_bodies, follows, is_busy, caller_of, is_refusal}
use Rattle.rayon_machine_places.specs.declared.act.Act.TheVariants.{Raise, SlotUndo}
use Rattle.rayon_machine_places.specs.Places.{awaits}
use Rattle.rayon_machine_laws.specs.Leavers.{owed_at, passed_at}
use Rattle.rayon_machine_orders.proofs.WrongMachines.{Machine, doing, leading, making, step_by, run_by, times_go, two, a, b, c, right}
use Rattle.rayon_machine_orders.proofs.CallTeeth.{any_by, is_back, Ends}

-- a Lower sets the latches that wait for its count, though it is not the last
abbrev pub settles_at_once : PoolShape → Party → Place → Seen → Move
settles_at_once h q (LowerCount k s t) e = settle_count h q k t
settles_at_once h q x e = next_of h q x e

-- a worker runs a caller's job to its end
abbrev pub one_job : List Event
one_job = Spawn c 0 ∷ times_go c 4 ++ times_go b 12 ++ End b Fine ∷ times_go b 1

-- the law of the end is broken: a terminate latch is set, and the pool's value is held
end_sets_latches_at_once : IfSome (run_by (leading settles_at_once) (two 32) (one_job ++ times_go b 1)) (λ w. ((w.seat 0 0).latch ≡ IsSet) × ((w.pool 0).held ≡ true))
end_sets_latches_at_once = (refl, refl)

-- a join whose first side faults skips its second side, and answers that fault
abbrev skips_second : PoolShape → Party → Wait → Seen → Target → Move
skips_second h q k e (Answer o (Some Fault)) = Stay (LowerCount (OfPool o.pool) (OfJob o.job) (Answers o (Some Fault) Fault))
skips_second h q k e g = next_of h q (ProbeWorking k) e

abbrev answers_early : PoolShape → Party → Place → Seen → Move
answers_early h q (ProbeWorking k) e = skips_second h q k e k.target
answers_early h q x e = next_of h q x e

-- the clause of ends is broken: the join answers, and its second side stands in the deque
join_skips_second_side : IfSome (run_by (leading answers_early) (two 32) (Install c 0 ∷ times_go c 5 ++ times_go b 12 ++ Join b ∷ times_go b 5 ++ End b Fault ∷ times_go b 1))
    (λ w. (follows (w.stack b).top ≡ Some (Answers (record { number = 1; pool = 0; job = 2 }) (Some Fault) Fault)) × ((w.job 2).at ≡ InDeque 0 1))
join_skips_second_side = (refl, refl)

-- a scope's count starts at 0
abbrev at_zero : World → Option World → Option World
at_zero w None = None
at_zero w (Some v) = Some (record v { call = put v.call w.calls (record (v.call w.calls) { count = 0 }) })

abbrev starts_at_zero : World → Event → Option World
starts_at_zero w (OpenScope q p) = at_zero w (step w (OpenScope q p))
starts_at_zero w e = step w e

-- the law of scopes is broken from the event on: the number is one less than the shares
scope_starts_at_zero : IfSome (run_by (making starts_at_zero) (two 32) (OpenScope c 0 ∷ [])) (λ w. ((w.call 0).count ≡ 0) × ((one (w.call 0).counted + count_below w.jobs (λ t. has_entry 0 (w.job t))) ≡ 1))
scope_starts_at_zero = (refl, refl)

-- a spawn into it finds its count at 0, which the clause of books forbids, and is refused
spawn_finds_zero : IfSome (run_by (making starts_at_zero) (two 32) (OpenScope c 0 ∷ times_go c 2 ++ IntoSpawn c 0 ∷ [])) (λ w. (act_of c (w.stack c).top ≡ Raise (OfScope 0 c) 1) × ((w.call 0).count ≡ 0))
spawn_finds_zero = (refl, refl)

-- it starts at 0, and a Raise of it does not look
abbrev raises_at_zero : Act → Shape → Party → Counts → Part → Outcome
raises_at_zero (Raise (OfScope n o) t) h q k m = Some (Done, raised m (OfScope n o))
raises_at_zero act h q k m = effect act h q k m

abbrev counts_jobs_alone : Machine
counts_jobs_alone = record { act = act_of; aims = target_job; does = raises_at_zero; next = next_of; made = starts_at_zero }

-- the law of latches is broken: a job that the body has spawned is over and has set the scope's latch, and the body runs
scope_counts_its_jobs_alone : IfSome (run_by counts_jobs_alone (two 32) (OpenScope c 0 ∷ times_go c 2 ++ IntoSpawn c 0 ∷ times_go c 5 ++ times_go b 12 ++ End b Fine ∷ times_go b 3)) (λ w. ((w.call 0).latch ≡ IsSet) × ((w.call 0).job ≡ 0) × ((w.job 0).at ≡ Running c))
scope_counts_its_jobs_alone = (refl, refl, refl)

-- the machine as it is goes the same way, and the count is 1 for the body
scope_counts_its_body : IfSome (run_by right (two 32) (OpenScope c 0 ∷ times_go c 2 ++ IntoSpawn c 0 ∷ times_go c 5 ++ times_go b 12 ++ End b Fine ∷ times_go b 2)) (λ w. ((w.call 0).count ≡ 1) × ((w.job 1).at ≡ Over Fine))
scope_counts_its_body = (refl, refl)

-- the end of a scope's body sets the scope's latch, though a job of it runs
abbrev pub sets_early : PoolShape → Party → Place → Seen → Move
sets_early h q (LowerCount (OfScope n o) Body t) e = next_of h q (LowerCount (OfScope n o) Body t) Yes
sets_early h q x e = next_of h q x e

-- a worker runs a job of the scope when the body ends
abbrev running_job : List Event
running_job = times_go c 2 ++ IntoSpawn c 0 ∷ times_go c 5 ++ times_go b 12 ++ End c Fine ∷ times_go c 6

-- the clause of calls is broken: nothing refused the scope, it is over, and a job of it runs. So is the law of latches:
-- the scope's latch is set
record IsLeft (m : Machine) (between : List Event) (w v u : World) : Type 0 where
  caller : caller_of (OpenScope c 0) ≡ Some c
  back : u.stack c ≡ w.stack c
  until : any_by m (is_back c w) (Some v) between ≡ false
  refused : any_by m (is_refusal c (w.stack c)) (Some v) between ≡ false
  kind : (u.job 1).kind ≡ Scoped w.calls c
  at : (u.job 1).at ≡ Running b
  latch : (u.call w.calls).latch ≡ IsSet

scope_ends_while_a_job_runs : IfSome (two 32) (λ w. IfSome (step_by (leading sets_early) w (OpenScope c 0)) (λ v. IfSome (run_by (leading sets_early) (Some v) running_job) (IsLeft (leading sets_early) running_job w v)))
scope_ends_while_a_job_runs = record { caller = refl; back = refl; until = refl; refused = refl; kind = refl; at = refl; latch = refl {a = IsSet} }

-- the body of a scope lowers the scope's count once more where it was not the last
abbrev lowers_again : PoolShape → Party → Place → Seen → Move
lowers_again h q (LowerCount (OfScope n o) Body t) No = Stay (LowerCount (OfScope n o) Body t)
lowers_again h q x e = next_of h q x e

-- the law of scopes is broken: the number is 0, and a job that is queued has a share of it
record Overlowered (w : World) : Type 0 where
  number : (w.call 0).count ≡ 0
  counted : (w.job 1).counted ≡ true
  kind : (w.job 1).kind ≡ Scoped 0 c
  busy : is_busy (w.job 1).at ≡ true

body_lowers_the_scope_twice : IfSome (run_by (leading lowers_again) (two 32) (OpenScope c 0 ∷ times_go c 2 ++ IntoSpawn c 0 ∷ times_go c 5 ++ End c Fine ∷ times_go c 3)) Overlowered
body_lowers_the_scope_twice = record { number = refl; counted = refl; kind = refl; busy = refl }

-- how a job of a scope ended is stored after the Lower of the scope's count, and after the scope's latch is set
abbrev lowers_first : Ending → List Place → JobKind → ℕ → Option Stack
lowers_first e fs (Scoped n o) t = Some (record { top = LowerCount (OfScope n o) (OfJob t) (Ran t e); below = fs })
lowers_first e fs k t = None

abbrev at_end : Option World → Party → Option Stack → Option World
at_end None q s = None
at_end (Some v) q None = Some v
at_end (Some v) q (Some s) = Some (record v { stack = put_stack v.stack q s })

abbrev end_of : World → Party → Ending → Stack → Place → Option World
end_of w q e s (Run t k) = at_end (step w (End q e)) q (lowers_first e s.below k t)
end_of w q e s x = step w (End q e)

abbrev ends_lowering : World → Event → Option World
ends_lowering w (End q e) = end_of w q e (w.stack q) (w.stack q).top
ends_lowering w e = step w e

abbrev stores_last : PoolShape → Party → Place → Seen → Move
stores_last h q (LowerCount (OfScope n o) s (Ran t e)) Yes = EnterAbove (StoreSlot n o t e) (set_call n o Resume)
stores_last h q (LowerCount (OfScope n o) s (Ran t e)) x = Stay (StoreSlot n o t e)
stores_last h q (StoreSlot n o t e) x = Back
stores_last h q x e = next_of h q x e

abbrev lowering : Machine
lowering = record { act = act_of; aims = target_job; does = effect; next = stores_last; made = ends_lowering }

-- the body ends, and then a job that faults
abbrev faulted_last : List Event
faulted_last = OpenScope c 0 ∷ times_go c 2 ++ IntoSpawn c 0 ∷ times_go c 5 ++ times_go b 12 ++ End c Fine ∷ times_go c 2 ++ End b Fault ∷ times_go b 2 ++ times_go c 1

-- the clauses of books and of faults are broken: the scope is to take, a job of it has an open number, and the book
-- keeps no fault though that job is over with one
record TakesUnstored (w : World) : Type 0 where
  act : act_of c (w.stack c).top ≡ Take 0
  kind : (w.job 1).kind ≡ Scoped 0 c
  slot : (w.job 1).slot ≡ IsOpen 0
  kept : (w.call 0).fault ≡ None
  at : (w.job 1).at ≡ Over Fault

store_comes_after_the_lower : IfSome (run_by lowering (two 32) faulted_last) TakesUnstored
store_comes_after_the_lower = record { act = refl; kind = refl; slot = refl; kept = refl; at = refl }

-- in the machine as it is the caller waits there
store_comes_first : run_by right (two 32) faulted_last ≡ None
store_comes_first = refl

-- a refused spawn into a scope takes back the number of the job before its own
abbrev takes_other : Party → Place → Act
takes_other q (CloseSlot (Enter e)) = SlotUndo e.call (e.job - 1)
takes_other q x = act_of q x

abbrev undoing : Machine
undoing = record { act = takes_other; aims = target_job; does = effect; next = next_of; made = step }

-- a caller spawns two jobs into a scope, and the second push is refused
abbrev second_refused : List Event
second_refused = times_go c 3 ++ Refuse c ∷ times_go c 2

abbrev first_queued : List Event
first_queued = OpenScope c 0 ∷ times_go c 2 ++ IntoSpawn c 0 ∷ times_go c 5

-- the clause of calls is broken: the spawn is over, its job is handed back, and a number of the book is open for it
wrong_number_is_taken_back : Ends undoing first_queued c (IntoSpawn c 0) second_refused true 2 HandedBack × IfSome (run_by undoing (two 32) (first_queued ++ IntoSpawn c 0 ∷ second_refused)) (λ u. (u.job 2).slot ≡ IsOpen 1)
wrong_number_is_taken_back = (record { caller = refl; back = refl; until = refl; refused = refl; mine = refl; at = refl }, refl)

-- and so is the clause of books: how the first job ended is to be stored, and it has no number
taken_number_is_missing : IfSome (run_by undoing (two 32) (first_queued ++ IntoSpawn c 0 ∷ second_refused ++ times_go b 12 ++ End b Fine ∷ [])) (λ w. ((w.stack b).top ≡ StoreSlot 0 c 1 Fine) × ((w.job 1).slot ≡ Closed))
taken_number_is_missing = (refl, refl)

-- in the machine as it is the refused job has no number, and the first keeps its own
own_number_is_taken_back : IfSome (run_by right (two 32) (first_queued ++ IntoSpawn c 0 ∷ second_refused)) (λ u. ((u.job 2).slot ≡ Closed) × ((u.job 1).slot ≡ IsOpen 0))
own_number_is_taken_back = (refl, refl)

-- a leaving searcher wakes one worker where two sleep
abbrev wakes_one : Act → Shape → Party → Counts → Part → Outcome
wakes_one SubInactive h q n m = Some (Wakes (min 1 n.sleeping), record m { seat = record (m.seat) { inactive = false } })
wakes_one act h q n m = effect act h q n m

-- three workers, of which two sleep; the third has found a caller's job
abbrev three : Option World
three = Some (start (record { pool = λ p. record { workers = 3; limit = 0; order = NewestFirst; callers_own = false }; callers = 16; jec_bits = 32 }))

abbrev third : Party
third = Worker 0 2

abbrev finding_run : List Event
finding_run = times_go a 27 ++ times_go b 27 ++ times_go third 4 ++ Spawn c 0 ∷ times_go c 4 ++ times_go third 7

-- the step by which the third worker leaves its search: it owes its pool so many wakes, and has passed no worker
record LeavesOwing (m : Machine) (n : ℕ) (w : World) : Type 0 where
  act : act_of third (w.stack third).top ≡ SubInactive
  sleeping : (counts_at w 0).sleeping ≡ 2
  after : IfSome (run_by m (Some w) (times_go third 1)) (λ v. (owed_at 0 (v.stack third).top ≡ n) × (passed_at (v.stack third).top ≡ 0))

-- the clause of leavers is broken: it owes one wake
leaving_searcher_wakes_one : IfSome (run_by (doing wakes_one) three finding_run) (LeavesOwing (doing wakes_one) 1)
leaving_searcher_wakes_one = record { act = refl; sleeping = refl; after = (refl, refl) }

-- in the machine as it is it owes two
leaving_searcher_wakes_two : IfSome (run_by right three finding_run) (LeavesOwing right 2)
leaving_searcher_wakes_two = record { act = refl; sleeping = refl; after = (refl, refl) }

-- News takes each queue for an empty one
abbrev takes_for_empty : Act → Shape → Party → Counts → Part → Outcome
takes_for_empty (News p v) h q n m = effect (News p true) h q n m
takes_for_empty act h q n m = effect act h q n m

-- two workers sleep, one of them is woken for a caller's job, and a second job is pushed beside the first
abbrev second_run : List Event
second_run = times_go a 25 ++ times_go b 25 ++ Spawn c 0 ∷ times_go c 7 ++ Spawn c 0 ∷ times_go c 3

-- the step by which the caller tells of it: it owes the pool so many wakes
record TellsOwing (m : Machine) (n : ℕ) (w : World) : Type 0 where
  act : act_of c (w.stack c).top ≡ News 0 false
  sleeping : (counts_at w 0).sleeping ≡ 1
  after : IfSome (run_by m (Some w) (times_go c 1)) (λ v. owed_at 0 (v.stack c).top ≡ n)

-- the clause of tellers is broken: it owes none, since the woken worker is awake
news_takes_each_queue_for_empty : IfSome (run_by (doing takes_for_empty) (two 32) second_run) (TellsOwing (doing takes_for_empty) 0)
news_takes_each_queue_for_empty = record { act = refl; sleeping = refl; after = refl }

-- in the machine as it is it owes one
news_looks_at_the_queue : IfSome (run_by right (two 32) second_run) (TellsOwing right 1)
news_looks_at_the_queue = record { act = refl; sleeping = refl; after = refl }

-- an undo leaves the number in the book
abbrev leaves_number : Act → Shape → Party → Counts → Part → Outcome
leaves_number (SlotUndo n t) h q k m = if is_open q m.call.writer then Some (Done, record m { call = record (m.call) { writer = None }; job = record (m.job) { slot = Closed } }) else None
leaves_number act h q k m = effect act h q k m

-- the clause of books is broken: the book has a number that no job of the scope has
number_is_nobodys : IfSome (run_by (doing leaves_number) (two 32) (OpenScope c 0 ∷ times_go c 2 ++ IntoSpawn c 0 ∷ times_go c 3 ++ Refuse c ∷ times_go c 2 ++ End c Fine ∷ times_go c 4)) (λ w. (act_of c (w.stack c).top ≡ Take 0) × ((w.call 0).slots ≡ 1) × ((w.job 1).slot ≡ Closed))
number_is_nobodys = (refl {a = Take 0}, refl {a = 1}, refl {a = Closed})

-- an undo marks the number as filled, and leaves it in the book
abbrev filled_number : Slot → Slot
filled_number (IsOpen n) = IsFilled n
filled_number s = s

abbrev fills_number : Act → Shape → Party → Counts → Part → Outcome
fills_number (SlotUndo n t) h q k m = if is_open q m.call.writer then Some (Done, record m { call = record (m.call) { writer = None }; job = record (m.job) { slot = filled_number (m.job.slot) } }) else None
fills_number act h q k m = effect act h q k m

-- a caller's spawn into its scope is refused at the push
abbrev opened_scope : List Event
opened_scope = OpenScope c 0 ∷ times_go c 2

-- the clause of calls is broken: the spawn is over, its job is handed back, and a number of the book is that job's
refused_number_is_filled : Ends (doing fills_number) opened_scope c (IntoSpawn c 0) second_refused true 1 HandedBack × IfSome (run_by (doing fills_number) (two 32) (opened_scope ++ IntoSpawn c 0 ∷ second_refused)) (λ u. (u.job 1).slot ≡ IsFilled 0)
refused_number_is_filled = (record { caller = refl; back = refl; until = refl; refused = refl; mine = refl; at = refl }, refl {a = IsFilled 0})

-- in the machine as it is that job has no number
refused_number_is_closed : Ends right opened_scope c (IntoSpawn c 0) second_refused true 1 HandedBack × IfSome (run_by right (two 32) (opened_scope ++ IntoSpawn c 0 ∷ second_refused)) (λ u. (u.job 1).slot ≡ Closed)
refused_number_is_closed = (record { caller = refl; back = refl; until = refl; refused = refl; mine = refl; at = refl }, refl {a = Closed})

-- the body of a scope leaves out the Lower of its share, and the scope waits
abbrev leaves_share : PoolShape → Party → Place → Seen → Move
leaves_share h q (StoreBody o e) x = Stay (awaits q o)
leaves_share h q x e = next_of h q x e

abbrev ended_body : List Event
ended_body = OpenScope c 0 ∷ times_go c 2 ++ End c Fine ∷ times_go c 1

-- the law of the count is broken: the body is over and its share is in the scope's count, and no party that ever moved
-- keeps it, so the scope will never end
record UnkeptBody (w : World) : Type 0 where
  kind : (w.job 0).kind ≡ BodyOf 0 c
  at : (w.job 0).at ≡ Over Fine
  counted : (w.call 0).counted ≡ true
  party : all_bodies 0 (w.stack c) ≡ 0

body_leaves_out_its_lower : IfSome (run_by (leading leaves_share) (two 32) ended_body) UnkeptBody
body_leaves_out_its_lower = record { kind = refl; at = refl; counted = refl; party = refl }

-- in the machine as it is the party keeps it until the Lower, and then it is in no count
record KeptBody (w : World) : Type 0 where
  counted : (w.call 0).counted ≡ true
  party : all_bodies 0 (w.stack c) ≡ 1

body_keeps_its_share : IfSome (run_by right (two 32) ended_body) KeptBody × IfSome (run_by right (two 32) (ended_body ++ times_go c 1)) (λ w. ((w.call 0).counted ≡ false) × (all_bodies 0 (w.stack c) ≡ 0))
body_keeps_its_share = (record { counted = refl; party = refl }, (refl, refl))

-- a scope that is refused its cell keeps the body's share until it hands the body back
refused_scope_keeps_its_share : IfSome (run_by right (two 32) (OpenScope c 0 ∷ times_go c 1 ++ Refuse c ∷ [])) KeptBody × IfSome (run_by right (two 32) (OpenScope c 0 ∷ times_go c 1 ++ Refuse c ∷ times_go c 1)) (λ w. ((w.job 0).at ≡ HandedBack) × (all_bodies 0 (w.stack c) ≡ 0))
refused_scope_keeps_its_share = (record { counted = refl; party = refl }, (refl, refl))
