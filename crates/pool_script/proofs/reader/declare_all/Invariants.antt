use Rattle.std.specs.Prelude.{ℕ}
use Rattle.pool_script.specs.Ends.{Ends}
use Rattle.pool_script.proofs.reader.declare_all.Given as goal

abbrev pub invariant-loop-above : goal.invariant-loop-above
invariant-loop-above l =
    (goal.iterator-loop-above).can_next l.above-iterator ×
    (goal.iterator-loop-above).is_finite l.above-iterator × Ends l.script
