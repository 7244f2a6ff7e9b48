use Rattle.std.proofs.Common.{ℕ, ◌≡◌, ◌+◌, ◌-◌, vec_len}
use Rattle.rayon_machine_parts.specs.State.{seat_in}
use Rattle.rayon_machine_parts.proofs.growth.grow_seats.Given as goal

abbrev pub invariant-fill : goal.invariant-fill
invariant-fill l = (i : ℕ) → seat_in l.seats.items i ≡ seat_in l.fn.seats.items i

abbrev pub decreases-fill : goal.decreases-fill
decreases-fill l = l.index + 1 - vec_len l.seats
