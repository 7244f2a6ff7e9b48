-- what is over stays over
--
-- Broken by the wrong machine `over_runs_again`, in `rayon_machine_orders/proofs` (AgainTeeth).
use Rattle.std.specs.Prelude.{ℕ, Some, List, ◌≡◌}
use Rattle.rayon_machine_places.specs.declared.place.Ending.{Ending}
use Rattle.rayon_machine_runs.specs.declared.event.Event.{Event}
use Rattle.rayon_machine_runs.specs.declared.state.Whereabouts.TheVariants.{HandedBack, Over, Spent}
use Rattle.rayon_machine_runs.specs.World.{Shape, World}
use Rattle.rayon_machine_runs.specs.Steps.{step}
use Rattle.rayon_machine_runs.specs.Runs.{IsRun, start}

-- a job that is over stays so, with the same ending; so does a token that is spent, and what was handed back
pub record StaysOver (w v : World) (t : ℕ) : Type 0 where
  pub over : (d : Ending) → (w.job t).at ≡ Over d → (v.job t).at ≡ Over d
  pub spent : (w.job t).at ≡ Spent → (v.job t).at ≡ Spent
  pub handed : (w.job t).at ≡ HandedBack → (v.job t).at ≡ HandedBack

-- so it is over each step of each run
abbrev pub StaysLaw : Type 0
StaysLaw = (shape : Shape) (before : List Event) (w v : World) (e : Event) (t : ℕ) → IsRun (start shape) before w → step w e ≡ Some v → StaysOver w v t
