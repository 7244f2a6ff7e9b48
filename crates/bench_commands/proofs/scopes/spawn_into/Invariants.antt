use Rattle.rayon_core.specs.Worker.{SameWorker}
use Rattle.bench_commands.proofs.scopes.spawn_into.Given as goal

abbrev pub invariant-loop : goal.invariant-loop
invariant-loop g l = SameWorker l.initial.w l.w
