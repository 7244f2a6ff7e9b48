-- what no step changes of a job
--
-- Broken by the wrong machines, in `rayon_machine_orders/proofs`: `piece_forgets_its_worker` (CastTeeth),
-- `other_number_is_filled` (RecordTeeth).
use Rattle.std.specs.Prelude.{ℕ, Bool, true, false, ◌==◌, ◌<◌, Some, List, ◌≡◌}
use Rattle.rayon_machine_runs.specs.declared.event.Event.{Event}
use Rattle.rayon_machine_runs.specs.declared.state.Slot.{Slot}
use Rattle.rayon_machine_runs.specs.declared.state.Slot.TheVariants.{Closed, Open, Filled}
use Rattle.rayon_machine_runs.specs.World.{Shape, World}
use Rattle.rayon_machine_runs.specs.Steps.{step}
use Rattle.rayon_machine_runs.specs.Runs.{IsRun, start}

-- a job's number of a book, before a step and after it: one that has none may be given one; one that is open stays, is
-- filled, or is taken back; and one that is filled stays
abbrev pub slot_stays : Slot → Slot → Bool
slot_stays Closed Closed = true
slot_stays Closed (Open n) = true
slot_stays (Open n) Closed = true
slot_stays (Open n) (Open m) = n == m
slot_stays (Open n) (Filled m) = n == m
slot_stays (Filled n) (Filled m) = n == m
slot_stays _ _ = false

-- a job or a token is as before what it was made as: what the end of its run sets going, the pool that its call was made
-- at, and, of a piece of a broadcast, the worker that it is bound to; and it has no other number of a book than it had
pub record StaysFixed (w v : World) (t : ℕ) : Type 0 where
  pub kind : (v.job t).kind ≡ (w.job t).kind
  pub pool : (v.job t).pool ≡ (w.job t).pool
  pub bound : (v.job t).bound ≡ (w.job t).bound
  pub slot : slot_stays (w.job t).slot (v.job t).slot ≡ true

-- so it is over each step of each run, of each number that was given out before it
abbrev pub FixedLaw : Type 0
FixedLaw = (shape : Shape) (before : List Event) (w v : World) (e : Event) (t : ℕ) → IsRun (start shape) before w → step w e ≡ Some v → t < w.jobs → StaysFixed w v t
