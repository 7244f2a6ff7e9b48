use Rattle.std.proofs.Common.{IfErr, IfOk, Some, subst, sym, ◌∙◌}
use Rattle.rayon_tasks.specs.Names.{IsRow}
use Rattle.rayon_registry.specs.Acts.{GatherBack, GatherOpened}
use Rattle.rayon_registry.specs.Pushes.{acts_of, index_of, shape_at}
use Rattle.rayon_registry.proofs.Made.{gather_so}
use Rattle.rayon_registry.proofs.worker_thread.WorkerThread.deal.Goals as goal

pub returns-in-Some-clause-opened : goal.returns-in-Some-clause-opened
unfolding acts_of index_of shape_at
returns-in-Some-clause-opened g c =
    let b = c.self.inside.bench in
    let n = c.in-Some.name in
    let r = c.open_broadcast.result in
    let u = c.open_broadcast.new.self in
    let is = c.self.view_is ∙ c.draw_row.ensures.same in
    let row = subst (λ v. IsRow v.shape.workers n (Some c.in-Some.first)) (sym is) c.in-Some.ensures.row in
    subst (λ v. IfOk r (λ k. GatherOpened v.shape v.id.index k.ticket.number v.acts u.trace)) is (gather_so n b u c.in-Some.first r (λ k. k.ticket) row c.open_broadcast.ensures.ticket c.open_broadcast.ensures.path).0

pub returns-in-Some-clause-path : goal.returns-in-Some-clause-path
unfolding acts_of index_of shape_at
returns-in-Some-clause-path g c =
    let b = c.self.inside.bench in
    let n = c.in-Some.name in
    let r = c.open_broadcast.result in
    let u = c.open_broadcast.new.self in
    let is = c.self.view_is ∙ c.draw_row.ensures.same in
    let row = subst (λ v. IsRow v.shape.workers n (Some c.in-Some.first)) (sym is) c.in-Some.ensures.row in
    subst (λ v. IfErr r (λ _. GatherBack v.shape v.id.index v.acts u.trace)) is (gather_so n b u c.in-Some.first r (λ k. k.ticket) row c.open_broadcast.ensures.ticket c.open_broadcast.ensures.path).1
