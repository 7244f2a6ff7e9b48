use Rattle.std.proofs.Common.{MatchResult, subst}
use Rattle.rayon_machine_places.specs.declared.place.Move.TheVariants.{Back, Stay}
use Rattle.rayon_machine_places.specs.declared.place.Party.TheVariants.{Worker}
use Rattle.rayon_machine_places.specs.declared.place.Place.TheVariants as at
use Rattle.rayon_machine_places.specs.declared.place.Plan.TheVariants.{Detach}
use Rattle.rayon_machine_places.specs.Places.{undo}
use Rattle.rayon_drive.specs.Paths.{Traced}
use Rattle.rayon_registry.specs.Pushes.{acts_of, index_of, shape_at}
use Rattle.rayon_registry.proofs.Made.{traced_pushed, matched_ok, matched_err}
use Rattle.rayon_registry.proofs.worker_thread.WorkerThread.push.Goals as goal
use Rattle.rayon_registry.proofs.worker_thread.WorkerThread.push.Goals.{in-Ok, in-Err}

pub returns-clause-path : goal.returns-clause-path
unfolding acts_of index_of shape_at
returns-clause-path g c =
    let b = c.self.inside.bench in
    let t = c.push.new.self in
    let n = c.args.task.ticket.number in
    let first = Stay (at.LookQueue (Detach 0 n)) in
    let end = Stay (undo (Detach 0 n)) in
    let traced = subst (λ v. MatchResult c.push.result (λ x. Traced v.shape (Worker 0 v.id.index) first v.acts t.trace Back) (λ x. Traced v.shape (Worker 0 v.id.index) first v.acts t.trace end)) c.self.view_is
    (traced_pushed b.shape b.index first b t end c.push.result c.push.ensures.path) in
    elim c.match-push.branch [
      | in-Ok w ↦ matched_ok _ _ c.push.result c.match-push.result _ _ w.in-Ok.is w.result-is traced
      | in-Err w ↦ matched_err _ _ c.push.result c.match-push.result _ _ w.in-Err.is w.result-is traced
    ]
