use Rattle.std.proofs.Common.{ℕ, IfErr, IfOk, subst}
use Rattle.rayon_machine_places.specs.declared.place.Party.TheVariants.{Worker}
use Rattle.rayon_performers.specs.Casts.{CastInto}
use Rattle.rayon_shared.specs.Casts.{cast_into}
use Rattle.rayon_performers.specs.Scopes.{entry_of}
use Rattle.rayon_registry.specs.Acts.{PiecesBack}
use Rattle.rayon_registry.specs.Pushes.{acts_of, count_of, left_to, pushed_by, saw_set, index_of, shape_at, takes_oldest, units_of}
use Rattle.rayon_registry.proofs.Made.{entered_for_all_so}
use Rattle.rayon_registry.proofs.worker_thread.WorkerThread.enter_for_all.Goals as goal

pub returns-clause-cast : goal.returns-clause-cast
unfolding acts_of count_of left_to pushed_by saw_set index_of shape_at takes_oldest units_of
returns-clause-cast g c =
    let b = c.self.inside.bench in
    let n = c.in-Some-row.first in
    let r = c.enter_for_all.result in
    let u = c.enter_for_all.new.self in
    subst (λ v. IfOk r (λ x. (a : ℕ) × CastInto v.shape (Worker 0 v.id.index) (cast_into (entry_of c.args.call c.args.owner a) v.shape.workers) x.0 v.acts u.trace)) c.self.view_is (entered_for_all_so n b u r (λ x. x.0) c.args.ticket.now c.args.call c.args.owner c.enter_for_all.ensures.path).0

pub returns-clause-path : goal.returns-clause-path
unfolding acts_of count_of left_to pushed_by saw_set index_of shape_at takes_oldest units_of
returns-clause-path g c =
    let b = c.self.inside.bench in
    let n = c.in-Some-row.first in
    let r = c.enter_for_all.result in
    let u = c.enter_for_all.new.self in
    subst (λ v. IfErr r (λ _. PiecesBack v.shape (Worker 0 v.id.index) (λ a. cast_into (entry_of c.args.call c.args.owner a) v.shape.workers) v.acts u.trace)) c.self.view_is (entered_for_all_so n b u r (λ x. x.0) c.args.ticket.now c.args.call c.args.owner c.enter_for_all.ensures.path).1
