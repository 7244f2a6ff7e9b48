use Rattle.std.proofs.Common.{ℕ, ◌≡◌, ◌-◌, vec_len}
use Rattle.rayon_machine_parts.specs.State.{cast_at}
use Rattle.rayon_machine_parts.proofs.growth.grow_casts.Given as goal

abbrev pub invariant-fill : goal.invariant-fill
invariant-fill l = (i : ℕ) → cast_at l.casts.items i ≡ cast_at l.fn.casts.items i

abbrev pub decreases-fill : goal.decreases-fill
decreases-fill l = l.workers - vec_len l.casts
