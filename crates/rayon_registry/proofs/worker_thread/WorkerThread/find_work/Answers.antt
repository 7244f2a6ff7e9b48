use Rattle.std.proofs.Common.{MatchOption, subst}
use Rattle.rayon_machine_places.specs.declared.place.Move.TheVariants.{Back, Stay}
use Rattle.rayon_machine_places.specs.declared.place.Party.TheVariants.{Worker}
use Rattle.rayon_machine_places.specs.declared.place.Place.TheVariants as at
use Rattle.rayon_drive.specs.Paths.{Traced}
use Rattle.rayon_tasks.specs.Tasks.{taken_in}
use Rattle.rayon_registry.specs.Pushes.{acts_of, index_of, shape_at}
use Rattle.rayon_registry.proofs.Made.{traced_found}
use Rattle.rayon_registry.proofs.worker_thread.WorkerThread.find_work.Goals as goal

pub returns-clause-path : goal.returns-clause-path
unfolding acts_of index_of shape_at
returns-clause-path g c =
    let b = c.self.inside.bench in
    let t = c.find_work.new.self in
    subst (λ v. MatchOption c.find_work.result (Traced v.shape (Worker 0 v.id.index) (Stay at.YieldPop) v.acts t.trace Back) (λ x. Traced v.shape (Worker 0 v.id.index) (Stay at.YieldPop) v.acts t.trace (Stay (at.BeginTask (taken_in x))))) c.self.view_is
    (traced_found b.shape b.index (Stay at.YieldPop) b t c.find_work.result c.find_work.ensures.path)
