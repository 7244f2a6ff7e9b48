use Rattle.std.proofs.Common.{ℕ, ◌≡◌, ◌+◌, ◌-◌, vec_len}
use Rattle.rayon_machine_parts.specs.State.{caller_in, shape_of}
use Rattle.rayon_machine_parts.proofs.growth.grow_callers.Given as goal

abbrev pub invariant-fill : goal.invariant-fill
invariant-fill l = (c : ℕ) → caller_in (shape_of l.shapes) l.callers.items c ≡ caller_in (shape_of l.shapes) l.fn.callers.items c

abbrev pub decreases-fill : goal.decreases-fill
decreases-fill l = l.number + 1 - vec_len l.callers
