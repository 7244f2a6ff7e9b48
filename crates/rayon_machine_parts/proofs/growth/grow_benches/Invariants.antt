use Rattle.std.proofs.Common.{ℕ, ◌≡◌, ◌+◌, ◌-◌, vec_len}
use Rattle.rayon_machine_parts.specs.State.{seat_at}
use Rattle.rayon_machine_parts.proofs.growth.grow_benches.Given as goal

abbrev pub invariant-fill : goal.invariant-fill
invariant-fill l = (p i : ℕ) → seat_at l.benches.items p i ≡ seat_at l.fn.benches.items p i

abbrev pub decreases-fill : goal.decreases-fill
decreases-fill l = l.pool + 1 - vec_len l.benches
