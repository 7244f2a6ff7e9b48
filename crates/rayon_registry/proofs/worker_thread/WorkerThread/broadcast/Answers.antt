use Rattle.std.proofs.Common.{◌≡◌, rules, subst}
use Rattle.rayon_broadcasts.specs.Books.{IsAllowed}
use Rattle.rayon_broadcasts.specs.declared.piece_outputs.NoAnswers.{NoAnswers}
use Rattle.rayon_registry.specs.Acts.{GatherLeft}
use Rattle.rayon_registry.specs.Pushes.{acts_of, index_of, shape_at, units_of}
use Rattle.rayon_registry.proofs.Made.{gathered, made_either}
use Rattle.rayon_registry.proofs.worker_thread.WorkerThread.broadcast.Goals as goal

pub returns-in-Ok-deal-clause-fault : goal.returns-in-Ok-deal-clause-fault
unfolding acts_of index_of shape_at units_of
returns-in-Ok-deal-clause-fault g c f e =
    let a = c.args.self.now in
    let w : c.current_num_threads-workers.result ≡ a.shape.workers = search rules in
    let here = subst (λ n. IsAllowed (g.J.JobKind.answers_on g.J.JobKind.answers c.tag-tag.result) n (NoAnswers.Fault f)) w (c.broadcast_answer.ensures.fault f e) in
    subst (λ t. IsAllowed (g.J.JobKind.answers_on g.J.JobKind.answers t) a.shape.workers (NoAnswers.Fault f)) c.tag-tag.ensures here

pub returns-in-Ok-deal-clause-path : goal.returns-in-Ok-deal-clause-path
unfolding acts_of index_of shape_at units_of
returns-in-Ok-deal-clause-path g c =
    let a = c.args.self.now in
    let d = c.deal.new.self in
    let w = c.gather-ended.new.self in
    let n = c.in-Ok-deal.held.ticket.number in
    let left = subst (λ v. GatherLeft v.shape v.id.index n v.acts w.acts) c.in-Ok-deal.ensures.left c.gather-ended.ensures.path in
    made_either _ _ c.broadcast_answer.result c.broadcast_answer.ensures.begun (gathered a.shape a.id.index n a.acts d.acts w.acts c.in-Ok-deal.ensures.opened left)
