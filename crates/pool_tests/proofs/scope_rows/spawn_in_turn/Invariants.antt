use Rattle.rayon_core.specs.Worker.{SameWorker}
use Rattle.pool_tests.proofs.scope_rows.spawn_in_turn.Given as goal

abbrev pub invariant-loop-digit : goal.invariant-loop-digit
invariant-loop-digit g l = SameWorker l.initial.w l.w
