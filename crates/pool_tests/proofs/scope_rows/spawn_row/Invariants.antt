use Rattle.rayon_core.specs.Worker.{SameWorker}
use Rattle.pool_tests.proofs.scope_rows.spawn_row.Given as goal

abbrev pub invariant-loop-is_in_order : goal.invariant-loop-is_in_order
invariant-loop-is_in_order g l = SameWorker l.initial.w l.w
