use Rattle.std.proofs.Common.{MatchOption, subst}
use Rattle.rayon_machine_places.specs.declared.place.Move.TheVariants.{Back, Stay}
use Rattle.rayon_machine_places.specs.declared.place.Party.TheVariants.{Worker}
use Rattle.rayon_machine_places.specs.declared.place.Place.TheVariants as at
use Rattle.rayon_drive.specs.Paths.{Traced}
use Rattle.rayon_tasks.specs.Tasks.{taken_in}
use Rattle.rayon_registry.specs.Pushes.{acts_of, index_of, shape_at}
use Rattle.rayon_registry.proofs.Made.{traced_found}
use Rattle.rayon_registry.proofs.worker_thread.WorkerThread.take_local_job.Goals as goal

pub returns-clause-path : goal.returns-clause-path
unfolding acts_of index_of shape_at
returns-clause-path g c =
    let b = c.self.inside.bench in
    let t = c.take_local.new.self in
    subst (λ v. MatchOption c.take_local.result (Traced v.shape (Worker 0 v.id.index) (Stay at.LocalPop) v.acts t.trace Back) (λ x. Traced v.shape (Worker 0 v.id.index) (Stay at.LocalPop) v.acts t.trace (Stay (at.BeginTask (taken_in x))))) c.self.view_is
    (traced_found b.shape b.index (Stay at.LocalPop) b t c.take_local.result c.take_local.ensures.path)
