use Rattle.std.proofs.Common.{ℕ, ◌≡◌, ◌+◌, ◌-◌, vec_len}
use Rattle.rayon_machine_parts.specs.State.{call_at}
use Rattle.rayon_machine_parts.proofs.growth.grow_calls.Given as goal

abbrev pub invariant-fill : goal.invariant-fill
invariant-fill l = (n : ℕ) → call_at l.calls.items n ≡ call_at l.fn.calls.items n

abbrev pub decreases-fill : goal.decreases-fill
decreases-fill l = l.number + 1 - vec_len l.calls
