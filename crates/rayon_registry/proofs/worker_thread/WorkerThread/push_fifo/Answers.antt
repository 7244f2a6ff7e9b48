use Rattle.std.proofs.Common.{rules, subst}
use Rattle.rayon_machine_places.specs.declared.place.Move.TheVariants.{Back, Stay}
use Rattle.rayon_machine_places.specs.declared.place.Party.TheVariants.{Worker}
use Rattle.rayon_machine_places.specs.declared.place.Place.TheVariants as at
use Rattle.rayon_drive.specs.Paths.{Traced}
use Rattle.rayon_performers.specs.Fifos.{feeding}
use Rattle.rayon_registry.specs.Acts.{Unlisted}
use Rattle.rayon_registry.specs.Pushes.{acts_of, count_of, left_to, pushed_by, saw_set, index_of, shape_at, takes_oldest, units_of}
use Rattle.rayon_registry.proofs.Made.{listed, unlisted}
use Rattle.rayon_registry.proofs.worker_thread.WorkerThread.push_fifo.Goals as goal

pub returns-clause-listed : goal.returns-clause-listed
unfolding acts_of count_of left_to pushed_by saw_set index_of shape_at takes_oldest units_of
returns-clause-listed g c = λ job.
    let b = c.self.inside.bench in
    let n = c.args.task.ticket.number in
    let k = c.in-Some.token in
    let u = c.push_fifo.new.self in
    (k, subst (λ v. Traced v.shape (Worker 0 v.id.index) (Stay (at.AddToFifo (feeding n k))) v.acts u.trace Back) c.self.view_is (listed n b u k c.in_default-push_fifo.ensures.path), search rules)

pub returns-in-Err-clause-listed : goal.returns-in-Err-clause-listed
unfolding acts_of count_of left_to pushed_by saw_set index_of shape_at takes_oldest units_of
returns-in-Err-clause-listed g c = λ job.
    let b = c.self.inside.bench in
    let n = c.args.task.ticket.number in
    let k = c.in-Some.token in
    let u = c.push_fifo.new.self in
    subst (λ v. Unlisted v.shape (Worker 0 v.id.index) n v.acts u.trace) c.self.view_is (unlisted n b u k c.in-Err.ensures.path)
