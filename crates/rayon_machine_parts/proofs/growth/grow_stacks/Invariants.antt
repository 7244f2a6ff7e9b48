use Rattle.std.proofs.Common.{ℕ, ◌≡◌, ◌+◌, ◌-◌, vec_len}
use Rattle.rayon_machine_parts.specs.State.{shape_of, stack_at}
use Rattle.rayon_machine_parts.proofs.growth.grow_stacks.Given as goal

abbrev pub invariant-fill : goal.invariant-fill
invariant-fill l = (i : ℕ) → stack_at (shape_of l.shapes) l.pool l.stacks.items i ≡ stack_at (shape_of l.shapes) l.pool l.fn.stacks.items i

abbrev pub decreases-fill : goal.decreases-fill
decreases-fill l = l.index + 1 - vec_len l.stacks
