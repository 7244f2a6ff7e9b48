use Rattle.std.proofs.Common.{◌≡◌, ◌*◌}
use Rattle.fibonacci.specs.Fib.{fib}
use Rattle.rayon_core.specs.Worker.{SameWorker}
use Rattle.bench_commands.proofs.casts.cast_all.Given as goal

abbrev pub invariant-loop : goal.invariant-loop
invariant-loop g l =
    SameWorker l.initial.w l.w × (l.sum ≡ l.counter * (l.initial.w.shape.workers * fib l.job.n))
