use Rattle.std.proofs.Common.{rules, subst}
use Rattle.rayon_machine_places.specs.declared.place.Party.TheVariants.{Worker}
use Rattle.rayon_machine_places.specs.declared.place.Plan.TheVariants.{Feed}
use Rattle.rayon_performers.specs.Scopes.{EnteredInOrder, entry_of, into}
use Rattle.rayon_registry.specs.Acts.{HandedBack}
use Rattle.rayon_registry.specs.Pushes.{acts_of, count_of, left_to, pushed_by, saw_set, index_of, shape_at, takes_oldest, units_of}
use Rattle.rayon_registry.proofs.Made.{entered_in_order, if_err, unentered_in_order}
use Rattle.rayon_registry.proofs.worker_thread.WorkerThread.enter_fifo.Goals as goal

pub returns-clause-entered : goal.returns-clause-entered
unfolding acts_of count_of left_to pushed_by saw_set index_of shape_at takes_oldest units_of
returns-clause-entered g c =
    let b = c.self.inside.bench in
    let n = c.in-Some.name in
    let m = c.in-Some-draw.token in
    let u = c.enter_fifo.new.self in
    let p = c.in_ok-number.ensures.pushed in
    let e = entry_of c.args.call c.args.owner n in
    (p.0, n, m, p.1, subst (λ v. EnteredInOrder v.shape (Worker 0 v.id.index) e m v.acts u.trace) c.self.view_is (entered_in_order n b u c.args.ticket.now e m c.in_ok-number.ensures.path), search rules)

pub returns-in_err-number-clause-path : goal.returns-in_err-number-clause-path
unfolding acts_of count_of left_to pushed_by saw_set index_of shape_at takes_oldest units_of
returns-in_err-number-clause-path g c =
    let b = c.self.inside.bench in
    let n = c.in-Some.name in
    let m = c.in-Some-draw.token in
    let u = c.enter_fifo.new.self in
    let path = subst (λ v. HandedBack v.shape (Worker 0 v.id.index) (λ k. Feed (into (entry_of c.args.call c.args.owner k) m)) v.acts u.trace) c.self.view_is (unentered_in_order n b u c.args.ticket.now c.args.call c.args.owner m c.in_err-number.ensures.path) in
    if_err _ c.from_residual.result (m, path)
