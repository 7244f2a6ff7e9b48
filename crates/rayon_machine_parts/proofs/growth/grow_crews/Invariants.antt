use Rattle.std.proofs.Common.{ℕ, ◌≡◌, ◌+◌, ◌-◌, vec_len}
use Rattle.rayon_machine_runs.specs.World.{Shape}
use Rattle.rayon_machine_parts.specs.State.{worker_in}
use Rattle.rayon_machine_parts.proofs.growth.grow_crews.Given as goal

abbrev pub invariant-fill : goal.invariant-fill
invariant-fill l = (h : Shape) (p i : ℕ) → worker_in h l.crews.items p i ≡ worker_in h l.fn.crews.items p i

abbrev pub decreases-fill : goal.decreases-fill
decreases-fill l = l.pool + 1 - vec_len l.crews
