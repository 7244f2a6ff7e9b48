use Rattle.rayon_core.specs.Worker.{SameWorker}
use Rattle.bench_commands.proofs.scopes.spawn_numbers.Given as goal

abbrev pub invariant-loop-number : goal.invariant-loop-number
invariant-loop-number g l = SameWorker l.initial.w l.w
