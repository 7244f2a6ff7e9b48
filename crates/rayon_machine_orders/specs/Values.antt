-- by which event a pool's value is given up
--
-- Broken by the wrong machines `lower_gives_up_value` and `other_value_is_given_up` (AgainTeeth).
use Rattle.std.specs.Prelude.{ℕ, Bool, true, false, not, ◌&&◌, ◌==◌, Some, List, ◌≡◌}
use Rattle.rayon_machine_runs.specs.declared.event.Event.{Event}
use Rattle.rayon_machine_runs.specs.declared.event.Event.TheVariants.{EndPool}
use Rattle.rayon_machine_runs.specs.World.{Shape, World}
use Rattle.rayon_machine_runs.specs.Steps.{step}
use Rattle.rayon_machine_runs.specs.Runs.{IsRun, start}

-- the event gives up this pool's value
abbrev pub is_end_of : ℕ → Event → Bool
is_end_of p (EndPool q r) = p == r
is_end_of p _ = false

-- over each step of each run a pool's value stays held, unless the step is its EndPool, and is not held again
abbrev pub ValueLaw : Type 0
ValueLaw = (shape : Shape) (before : List Event) (w v : World) (e : Event) (p : ℕ) → IsRun (start shape) before w → step w e ≡ Some v → (v.pool p).held ≡ ((w.pool p).held && not (is_end_of p e))
