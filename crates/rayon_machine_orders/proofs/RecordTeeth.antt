-- wrong machines of records: replays, computed by the kernel, in which a job's record is not as its run began or ended,
-- names another pool than the job's, or changes its number of its book
use Rattle.std.proofs.Common.{refl}
use Rattle.rayon_machine_orders.proofs.Words.{ℕ, true, false, ◌+◌, Option, Some, None, List, [], ◌∷◌, ◌++◌, ◌≡◌, IfSome, Ending, Fine, Fault, Party, Worker, Place, BeginTask, Run, PushJob, Move, Back, Act, Begin, PushOwn, PutSlot, Seen, Done, Begun, Event, Go, End, Spawn, OpenScope, IntoSpawn}
use Rattle.rayon_machine_orders.proofs.Words.{PoolShape, IsOpen as Open, Filled, InDeque, Injected, Over, act_of, next_of, plan_book, plan_job, Shape, Stack, World, Counts, Part, Outcome, at_job, effect, target_job, after_close, put, put_stack, step, run_of}
use Rattle.rayon_machine_laws.specs.Fixed.{slot_stays}
use Rattle.rayon_machine_laws.specs.Near.{is_near}
use Rattle.rayon_machine_orders.proofs.WrongMachines.{doing, making, run_by, times_go, two, a, b, c, right}

-- a caller spawns a job, and a worker finds it and begins it
abbrev one_job : List Event
one_job = Spawn c 0 ∷ times_go c 4 ++ times_go a 12

-- each run is over as if it had ended without a fault
abbrev ended_fine : World → Party → Ending → Stack → Place → Option World
ended_fine w q e s (Run t k) = Some (record w { stack = put_stack w.stack q (after_close t k e s.below); job = put w.job t (at_job (w.job t) (Over Fine)) })
ended_fine w q e s _ = None

abbrev ends_fine : World → Event → Option World
ends_fine w (End q e) = ended_fine w q e (w.stack q) (w.stack q).top
ends_fine w e = step w e

-- the run ends with a fault, and its job is over without one
fault_is_over_fine : IfSome (run_by (making ends_fine) (two 32) (one_job ++ End a Fault ∷ [])) (λ w. (w.job 0).at ≡ Over Fine)
fault_is_over_fine = refl {a = Over Fine}

-- in the machine as it is it is over with the fault
fault_is_over : IfSome (run_by right (two 32) (one_job ++ End a Fault ∷ [])) (λ w. (w.job 0).at ≡ Over Fault)
fault_is_over = refl {a = Over Fault}

-- a Begin writes the record of a run that is over, and its party goes back
abbrev begins_over : Act → Shape → Party → Counts → Part → Outcome
begins_over (Begin t) h q n m = Some (Begun (m.job.kind), record m { job = record (m.job) { at = Over Fine; runs = m.job.runs + 1 } })
begins_over act h q n m = effect act h q n m

abbrev goes_back : PoolShape → Party → Place → Seen → Move
goes_back h q (BeginTask x) e = Back
goes_back h q x e = next_of h q x e

-- the job has run, and its worker does not stand at its run
record Unrun (w : World) : Type 0 where
  runs : (w.job 0).runs ≡ 1
  place : run_of 0 (w.stack a).top ≡ 0

job_runs_nowhere : IfSome (run_by (record { act = act_of; aims = target_job; does = begins_over; next = goes_back; made = step }) (two 32) one_job) Unrun
job_runs_nowhere = record { runs = refl {a = 1}; place = refl {a = 0} }

-- in the machine as it is the worker stands there
job_runs : IfSome (run_by right (two 32) one_job) (λ w. ((w.job 0).runs ≡ 1) × (run_of 0 (w.stack a).top ≡ 1))
job_runs = (refl {a = 1}, refl {a = 1})

-- a worker pushes each job onto its own deque, whatever its pool
abbrev pushes_own : Party → Place → Act
pushes_own (Worker p i) (PushJob n e) = PushOwn (plan_job n) (plan_book n)
pushes_own q x = act_of q x

-- a job of pool 0 spawns one at pool 1
abbrev elsewhere : List Event
elsewhere = one_job ++ Spawn a 1 ∷ times_go a 3

-- it stands in a deque of pool 0
record Astray (w : World) : Type 0 where
  at : (w.job 1).at ≡ InDeque 0 0
  near : is_near (w.job 1).kind (w.job 1).pool (w.job 1).bound (w.job 1).at ≡ false

job_is_queued_elsewhere : IfSome (run_by (record { act = pushes_own; aims = target_job; does = effect; next = next_of; made = step }) (two 32) elsewhere) Astray
job_is_queued_elsewhere = record { at = refl {a = InDeque 0 0}; near = refl }

-- in the machine as it is it stands in its own pool's injector
job_is_queued_at_home : IfSome (run_by right (two 32) elsewhere) (λ w. ((w.job 1).at ≡ Injected 1) × (is_near (w.job 1).kind (w.job 1).pool (w.job 1).bound (w.job 1).at ≡ true))
job_is_queued_at_home = (refl {a = Injected 1}, refl)

-- the end of a job fills number 1 of its scope's book, whichever the job has
abbrev fills_one : Act → Shape → Party → Counts → Part → Outcome
fills_one (PutSlot k t e) h q n m = Some (Done, record m { job = record (m.job) { slot = Filled 1 } })
fills_one act h q n m = effect act h q n m

-- a job of a scope has number 0, and its run has ended
abbrev ended_in_scope : List Event
ended_in_scope = OpenScope c 0 ∷ times_go c 2 ++ IntoSpawn c 0 ∷ times_go c 5 ++ times_go b 12 ++ End b Fine ∷ []

-- a step at which its number goes from open to another that is filled, which the law forbids
record Fills (w v : World) : Type 0 where
  before : (w.job 1).slot ≡ Open 0
  after : (v.job 1).slot ≡ Filled 1
  stays : slot_stays (w.job 1).slot (v.job 1).slot ≡ false

other_number_is_filled : IfSome (run_by (doing fills_one) (two 32) ended_in_scope) (λ w. IfSome (run_by (doing fills_one) (Some w) (Go b ∷ [])) (Fills w))
other_number_is_filled = record { before = refl {a = Open 0}; after = refl {a = Filled 1}; stays = refl }

-- in the machine as it is it is its own
own_number_is_filled : IfSome (run_by right (two 32) ended_in_scope) (λ w. IfSome (run_by right (Some w) (Go b ∷ [])) (λ v. ((v.job 1).slot ≡ Filled 0) × (slot_stays (w.job 1).slot (v.job 1).slot ≡ true)))
own_number_is_filled = (refl {a = Filled 0}, refl)
