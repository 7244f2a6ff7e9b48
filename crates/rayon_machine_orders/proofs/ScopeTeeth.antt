-- wrong machines of scopes: replays, computed by the kernel, in which a changed table or act breaks the clause of a law
-- that forbids it
--
-- Edits of the code that make the same mistakes, each with the function at which the check refuses it:
-- - `scope_leaves_its_job`, `scope_is_over_before_its_job` and `scope_takes_early`:
--   `body_sets_the_latch_of_its_scope_at_once`, at `Place::next_closing`.
-- - `refused_spawn_keeps_its_share`: `refused_spawn_into_a_scope_keeps_its_share`, at `Place::next_scoping`.
-- - `refused_spawn_keeps_its_job`: `refused_call_keeps_its_jobs`, at `Then::follow`.
-- - `scope_lowers_without_its_body` and `refused_slot_goes_on`, at `Place::next_scoping`.
-- - `opener_leaves_the_book`, at `Touched::open_slot`. `lower_lowers_no_scope`, at `call_less`.
-- - `book_forgets_a_fault`, at `kept_fault`. `book_keeps_the_last_fault`, at `Touched::keeping_fault`.
-- - `take_sees_the_body_alone`, at `Touched::take`.
use Rattle.std.proofs.Common.{refl}
use Rattle.rayon_machine_orders.proofs.Words.{ℕ, true, false, ◌+◌, ◌-◌, ◌==◌, if◌then◌else◌, Option, Some, None, List, [], ◌∷◌, ◌++◌, ◌≡◌, IfSome, Party, Ending, Fine, Fault, Enter, OfScope, OfPool, Body, OfJob, Place, CloseSlot, LowerCount, GrowScope, OpenSlot, LookQueue, StoreSlot, Move}
use Rattle.rayon_machine_orders.proofs.Words.{HandBack, Stay, Back, Act, Lower, Take, PutSlot, Seen, Yes, No, Done, Found, Event, Refuse, End, EndPool, OpenScope, IntoSpawn, Closed, IsOpen, Unset, IsSet, PoolShape, Scoped, Await, GiveBack, Made, Injected, Over, HandedBack, act_of, next_of}
use Rattle.rayon_machine_orders.proofs.Words.{Shape, World, Counts, Part, Outcome, count_in, count_below, lowered, filled, effect, one, shares, is_busy, has_entry, keeps_own, Verdict, AllFine, LastFault, follows, caller_of, is_scope, is_at_call, is_refusal, verdict_of}
use Rattle.rayon_machine_places.specs.declared.act.Act.TheVariants.{Slot, StoreBody as PutBody}
use Rattle.rayon_machine_places.specs.declared.act.Seen.TheVariants.{Missing}
use Rattle.rayon_machine_orders.proofs.WrongMachines.{Machine, step_by, run_by, times_go, two, b, c, right, doing, leading}
use Rattle.rayon_machine_orders.proofs.CallTeeth.{any_by, is_back, Ends}

-- the end of a scope's body sets the scope's latch, though a job of the scope is left
abbrev sets_early : PoolShape → Party → Place → Seen → Move
sets_early h q (LowerCount (OfScope n o) Body t) e = next_of h q (LowerCount (OfScope n o) Body t) Yes
sets_early h q x e = next_of h q x e

-- a caller opens a scope, gives its pool up, spawns a job into the scope, and ends the body
abbrev left_run : List Event
left_run = OpenScope c 0 ∷ times_go c 2 ++ EndPool c 0 ∷ times_go c 1 ++ IntoSpawn c 0 ∷ times_go c 5 ++ End c Fine ∷ []

-- the law of the end is broken: a terminate latch of the pool is set, and a job at it has a share
record EndsEarly (w : World) : Type 0 where
  latch : (w.seat 0 0).latch ≡ IsSet
  pool : (w.job 1).pool ≡ 0
  counted : (w.job 1).counted ≡ true

scope_leaves_its_job : IfSome (run_by (leading sets_early) (two 32) (left_run ++ times_go c 7)) EndsEarly
scope_leaves_its_job = record { latch = refl; pool = refl; counted = refl }

-- in the machine as it is the scope's latch is not set
scope_waits_for_its_job : IfSome (run_by right (two 32) (left_run ++ times_go c 2)) (λ w. ((w.call 0).latch ≡ Unset) × ((w.call 0).count ≡ 1) × ((w.pool 0).count ≡ 1))
scope_waits_for_its_job = (refl, refl, refl)

-- a refused spawn into a scope takes its number back, and keeps its share of the scope's count
abbrev keeps_entry : PoolShape → Party → Place → Seen → Move
keeps_entry h q (CloseSlot n) e = HandBack n
keeps_entry h q x e = next_of h q x e

abbrev refused_run : List Event
refused_run = OpenScope c 0 ∷ times_go c 2 ++ IntoSpawn c 0 ∷ times_go c 3 ++ Refuse c ∷ times_go c 1

-- the law of the count is broken: a share is in the scope's count that its party does not keep, nor its job, so the
-- scope will never end
record Unkept (w : World) : Type 0 where
  counted : (w.job 1).counted ≡ true
  party : shares 1 (w.stack c) ≡ 0
  owner : keeps_own (w.job 1) ≡ false

refused_spawn_keeps_its_share : IfSome (run_by (leading keeps_entry) (two 32) refused_run) Unkept
refused_spawn_keeps_its_share = record { counted = refl; party = refl; owner = refl }

-- the machine as it is gives it back
refused_spawn_gives_it_back : IfSome (run_by right (two 32) (refused_run ++ times_go c 1)) (λ w. ((w.call 0).count ≡ 1) × ((w.job 1).counted ≡ false))
refused_spawn_gives_it_back = (refl, refl)

-- the Lower of a scope's count clears the record of its share, and leaves the number
abbrev leaves_number : Act → Shape → Party → Counts → Part → Outcome
leaves_number (Lower (OfScope n o) s) h q k m = Some ((if count_in m (OfScope n o) == 1 then Yes else No), record (lowered m (OfScope n o) s) { call = record ((lowered m (OfScope n o) s).call) { count = m.call.count } })
leaves_number act h q k m = effect act h q k m

-- the law of scopes is broken: the number is one more than the shares
record Miscounted (w : World) : Type 0 where
  number : (w.call 0).count ≡ 1
  shares : (one (w.call 0).counted + count_below w.jobs (λ t. has_entry 0 (w.job t))) ≡ 0

lower_lowers_no_scope : IfSome (run_by (doing leaves_number) (two 32) (OpenScope c 0 ∷ times_go c 2 ++ End c Fine ∷ times_go c 2)) Miscounted
lower_lowers_no_scope = record { number = refl; shares = refl }

-- the calls of scopes: in the machine as it is a scope's body faults, and the scope is over
scope_ends : Ends right [] c (OpenScope c 0) (times_go c 2 ++ End c Fault ∷ times_go c 6) false 0 (Over Fault)
scope_ends = record { caller = refl; back = refl; until = refl; refused = refl; mine = refl; at = refl }

-- one whose cell is refused
scope_refused : Ends right [] c (OpenScope c 0) (times_go c 1 ++ Refuse c ∷ times_go c 1) true 0 HandedBack
scope_refused = record { caller = refl; back = refl; until = refl; refused = refl; mine = refl; at = refl }

-- a spawn into a scope queues its job
abbrev opened : List Event
opened = OpenScope c 0 ∷ times_go c 2

spawn_into_ends : Ends right opened c (IntoSpawn c 0) (times_go c 5) false 1 (Injected 0)
spawn_into_ends = record { caller = refl; back = refl; until = refl; refused = refl; mine = refl; at = refl }

-- or its push is refused
spawn_into_refused : Ends right opened c (IntoSpawn c 0) (times_go c 3 ++ Refuse c ∷ times_go c 2) true 1 HandedBack
spawn_into_refused = record { caller = refl; back = refl; until = refl; refused = refl; mine = refl; at = refl }

-- a refused spawn into a scope goes back with its job
abbrev keeps_job : PoolShape → Party → Place → Seen → Move
keeps_job h q (LowerCount k s (GiveBack (Enter x))) No = Back
keeps_job h q x e = next_of h q x e

-- the clause of calls is broken: a step of the spawn was refused, it is over, and its job is not handed back
refused_spawn_keeps_its_job : Ends (leading keeps_job) opened c (IntoSpawn c 0) (times_go c 3 ++ Refuse c ∷ times_go c 2) true 1 (Made c)
refused_spawn_keeps_its_job = record { caller = refl; back = refl; until = refl; refused = refl; mine = refl; at = refl }

-- a scope of the party that is over, begun in w and not refused, and a job of it is queued
record LeavesJobs (m : Machine) (q : Party) (e : Event) (between : List Event) (t : ℕ) (w v u : World) : Type 0 where
  caller : caller_of e ≡ Some q
  scope : is_scope e ≡ true
  back : u.stack q ≡ w.stack q
  until : any_by m (is_back q w) (Some v) between ≡ false
  refused : any_by m (is_refusal q (w.stack q)) (Some v) between ≡ false
  kind : (u.job t).kind ≡ Scoped w.calls q
  busy : is_busy (u.job t).at ≡ true

-- the clause of calls is broken where the end of the body sets the scope's latch
abbrev left_call : List Event
left_call = times_go c 2 ++ IntoSpawn c 0 ∷ times_go c 5 ++ End c Fine ∷ times_go c 6

scope_is_over_before_its_job : IfSome (two 32) (λ w. IfSome (step_by (leading sets_early) w (OpenScope c 0)) (λ v. IfSome (run_by (leading sets_early) (Some v) left_call) (LeavesJobs (leading sets_early) c (OpenScope c 0) left_call 1 w v)))
scope_is_over_before_its_job = record { caller = refl; scope = refl; back = refl; until = refl; refused = refl; kind = refl; busy = refl }

-- a scope gives its body's share back, and its body never runs
abbrev runs_nothing : PoolShape → Party → Place → Seen → Move
runs_nothing h q (GrowScope o) Done = Stay (LowerCount (OfScope o.number q) Body (Await o))
runs_nothing h q x e = next_of h q x e

-- a scope of the party, begun in w and not refused, whose own next act is to lower the scope's count, and its body has
-- not run
record LowersUnrun (m : Machine) (q : Party) (e : Event) (between : List Event) (w v u : World) : Type 0 where
  caller : caller_of e ≡ Some q
  until : any_by m (is_back q w) (Some v) between ≡ false
  refused : any_by m (is_refusal q (w.stack q)) (Some v) between ≡ false
  own : is_at_call (w.stack q) (u.stack q) ≡ true
  act : act_of q (u.stack q).top ≡ Lower (OfScope 0 c) Body
  runs : (u.job (v.jobs - 1)).runs ≡ 0

scope_lowers_without_its_body : IfSome (two 32) (λ w. IfSome (step_by (leading runs_nothing) w (OpenScope c 0)) (λ v. IfSome (run_by (leading runs_nothing) (Some v) (times_go c 2)) (LowersUnrun (leading runs_nothing) c (OpenScope c 0) (times_go c 2) w v)))
scope_lowers_without_its_body = record { caller = refl; until = refl; refused = refl; own = refl; act = refl; runs = refl }

-- the books of scopes: who opens a number does not hold the book
abbrev holds_no_book : Act → Shape → Party → Counts → Part → Outcome
holds_no_book (Slot n t) h q k m = Some (Done, record m { call = record (m.call) { slots = m.call.slots + 1 }; job = record (m.job) { slot = IsOpen m.call.slots } })
holds_no_book act h q k m = effect act h q k m

-- a worker runs a job of the scope; the caller and the worker each open a number for another, the caller first
abbrev shared_run : List Event
shared_run = opened ++ IntoSpawn c 0 ∷ times_go c 5 ++ times_go b 12 ++ IntoSpawn c 0 ∷ times_go c 2 ++ IntoSpawn b 0 ∷ times_go b 2

-- the clause of books is broken where the caller's push is refused: its number is not the last
record Misplaced (w : World) : Type 0 where
  top : (w.stack c).top ≡ CloseSlot (Enter (record { call = 0; owner = c; pool = 0; job = 2 }))
  slot : (w.job 2).slot ≡ IsOpen 1
  slots : (w.call 0).slots ≡ 3

opener_leaves_the_book : IfSome (run_by (doing holds_no_book) (two 32) (shared_run ++ times_go c 1 ++ Refuse c ∷ [])) Misplaced
opener_leaves_the_book = record { top = refl; slot = refl; slots = refl }

-- in the machine as it is the caller holds the book, and the worker's Slot is not enabled
abbrev held_run : List Event
held_run = opened ++ IntoSpawn c 0 ∷ times_go c 5 ++ times_go b 12 ++ IntoSpawn c 0 ∷ times_go c 2 ++ IntoSpawn b 0 ∷ times_go b 1

book_has_its_holder : IfSome (run_by right (two 32) held_run) (λ w. ((w.call 0).writer ≡ Some c) × (act_of b (w.stack b).top ≡ Slot 0 3))
book_has_its_holder = (refl, refl)

book_is_held : run_by right (two 32) shared_run ≡ None
book_is_held = refl

-- a refused Slot goes on to the push
abbrev pushes_unnumbered : PoolShape → Party → Place → Seen → Move
pushes_unnumbered h q (OpenSlot n) e = Stay (LookQueue n)
pushes_unnumbered h q x e = next_of h q x e

-- the clause of books is broken: how the job ended is to be stored, and it has no number
record Unnumbered (w : World) : Type 0 where
  top : (w.stack b).top ≡ StoreSlot 0 c 1 Fine
  slot : (w.job 1).slot ≡ Closed

refused_slot_goes_on : IfSome (run_by (leading pushes_unnumbered) (two 32) (opened ++ IntoSpawn c 0 ∷ times_go c 1 ++ Refuse c ∷ times_go c 3 ++ times_go b 12 ++ End b Fine ∷ [])) Unnumbered
refused_slot_goes_on = record { top = refl; slot = refl }

-- the clause of books is broken where the end of the body sets the scope's latch: the scope is to take, and its count is
-- not 0
record TakesEarly (w : World) : Type 0 where
  act : act_of c (w.stack c).top ≡ Take 0
  count : (w.call 0).count ≡ 1
  slot : (w.job 1).slot ≡ IsOpen 0

scope_takes_early : IfSome (run_by (leading sets_early) (two 32) (opened ++ IntoSpawn c 0 ∷ times_go c 5 ++ End c Fine ∷ times_go c 4)) TakesEarly
scope_takes_early = record { act = refl; count = refl; slot = refl }

-- the faults of scopes: a job of the scope faults, and then the body ends
abbrev faulted_job : List Event
faulted_job = IntoSpawn c 0 ∷ times_go c 5 ++ times_go b 12 ++ End b Fault ∷ times_go b 2

-- a book keeps no fault of a job
abbrev forgets_faults : Act → Shape → Party → Counts → Part → Outcome
forgets_faults (PutSlot n t e) h q k m = Some (Done, record m { job = record (m.job) { slot = filled m.job.slot } })
forgets_faults act h q k m = effect act h q k m

-- the clause of faults is broken: the scope is to take, its book keeps none, and a job of it ended with a fault
record Forgets (w : World) : Type 0 where
  act : act_of c (w.stack c).top ≡ Take 0
  kept : (w.call 0).fault ≡ None
  kind : (w.job 1).kind ≡ Scoped 0 c
  at : (w.job 1).at ≡ Over Fault

book_forgets_a_fault : IfSome (run_by (doing forgets_faults) (two 32) (opened ++ faulted_job ++ End c Fine ∷ times_go c 4)) Forgets
book_forgets_a_fault = record { act = refl; kept = refl; kind = refl; at = refl }

-- a book keeps the fault that was stored last
abbrev last_fault : Option ℕ → ℕ → Ending → Option ℕ
last_fault kept t Fault = Some t
last_fault kept t Fine = kept

abbrev keeps_last : Act → Shape → Party → Counts → Part → Outcome
keeps_last (PutBody n e) h q k m = Some (Done, record m { call = record (m.call) { cell = Some e; fault = last_fault m.call.fault m.call.job e } })
keeps_last act h q k m = effect act h q k m

-- the clause of the first fault is broken by the step that stores the body's: the book kept another's
record Replaces (m : Machine) (w : World) : Type 0 where
  act : act_of c (w.stack c).top ≡ PutBody 0 Fault
  kept : (w.call 0).fault ≡ Some 1
  after : IfSome (run_by m (Some w) (times_go c 1)) (λ v. (v.call 0).fault ≡ Some 0)

book_keeps_the_last_fault : IfSome (run_by (doing keeps_last) (two 32) (opened ++ faulted_job ++ End c Fault ∷ [])) (Replaces (doing keeps_last))
book_keeps_the_last_fault = record { act = refl; kept = refl; after = refl }

-- the machine as it is keeps the first
book_keeps_the_first_fault : IfSome (run_by right (two 32) (opened ++ faulted_job ++ End c Fault ∷ times_go c 1)) (λ w. (w.call 0).fault ≡ Some 1)
book_keeps_the_first_fault = refl

-- a Take sees what the cell holds, which is how the body ended, and not what the book keeps
abbrev in_cell : Part → Option Ending → Outcome
in_cell m None = Some (Missing, m)
in_cell m (Some e) = Some (Found e, record m { call = record (m.call) { cell = None } })

abbrev sees_body : Act → Shape → Party → Counts → Part → Outcome
sees_body (Take n) h q k m = in_cell m m.call.cell
sees_body act h q k m = effect act h q k m

-- a scope of the party, begun in w and not refused, that is to lower the terminate count and answers this, though its
-- book keeps the fault of a job
record AnswersSo (m : Machine) (q : Party) (e : Event) (between : List Event) (x : Verdict) (w v u : World) : Type 0 where
  caller : caller_of e ≡ Some q
  scope : is_scope e ≡ true
  until : any_by m (is_back q w) (Some v) between ≡ false
  refused : any_by m (is_refusal q (w.stack q)) (Some v) between ≡ false
  own : is_at_call (w.stack q) (u.stack q) ≡ true
  act : act_of q (u.stack q).top ≡ Lower (OfPool 0) (OfJob 0)
  answer : verdict_of (follows (u.stack q).top) ≡ Some x
  kept : (u.call w.calls).fault ≡ Some 1

abbrev faulted_call : List Event
faulted_call = times_go c 2 ++ faulted_job ++ End c Fine ∷ times_go c 5

-- the clause of calls is broken: it answers no fault
take_sees_the_body_alone : IfSome (two 32) (λ w. IfSome (step_by (doing sees_body) w (OpenScope c 0)) (λ v. IfSome (run_by (doing sees_body) (Some v) faulted_call) (AnswersSo (doing sees_body) c (OpenScope c 0) faulted_call AllFine w v)))
take_sees_the_body_alone = record { caller = refl; scope = refl; until = refl; refused = refl; own = refl; act = refl; answer = refl; kept = refl }

-- the machine as it is answers one
scope_answers_the_fault_of_its_job : IfSome (two 32) (λ w. IfSome (step_by right w (OpenScope c 0)) (λ v. IfSome (run_by right (Some v) faulted_call) (AnswersSo right c (OpenScope c 0) faulted_call LastFault w v)))
scope_answers_the_fault_of_its_job = record { caller = refl; scope = refl; until = refl; refused = refl; own = refl; act = refl; answer = refl; kept = refl }
