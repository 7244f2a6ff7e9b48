use Rattle.rayon_core.specs.Worker.{SameWorker}
use Rattle.broadcast_tests.proofs.errand.spawn_marks.Given as goal

-- the worker value is the same one as before all spawns
abbrev pub invariant-loop-name : goal.invariant-loop-name
invariant-loop-name g l = SameWorker l.initial.w l.w
