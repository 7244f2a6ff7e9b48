use Rattle.std.proofs.Common.{refl}
use Rattle.rayon_performers.proofs.bench.Bench.first_listed.Goals as goal

pub same-task : goal.same-task
same-task g c = refl

pub same-task-in-Some : goal.same-task-in-Some
same-task-in-Some g c = refl
