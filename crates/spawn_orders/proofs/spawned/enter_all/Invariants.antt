use Rattle.rayon_core.specs.Worker.{SameWorker}
use Rattle.spawn_orders.proofs.spawned.enter_all.Given as goal

abbrev pub invariant-loop-place : goal.invariant-loop-place
invariant-loop-place g l = SameWorker l.initial.w l.w
