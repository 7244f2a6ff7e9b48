use Rattle.std.proofs.Common.{rules, subst}
use Rattle.rayon_machine_places.specs.declared.place.Party.TheVariants.{Worker}
use Rattle.rayon_machine_places.specs.declared.place.Plan.TheVariants.{Feed}
use Rattle.rayon_performers.specs.Fifos.{Fed, feeding}
use Rattle.rayon_shared.specs.Marks.{KeepsUnits}
use Rattle.rayon_registry.specs.Acts.{HandedBack}
use Rattle.rayon_registry.specs.Pushes.{acts_of, count_of, left_to, pushed_by, saw_set, index_of, shape_at, takes_oldest, units_of}
use Rattle.rayon_registry.proofs.Made.{fed, if_err, unfed}
use Rattle.rayon_registry.proofs.worker_thread.WorkerThread.spawn_fifo.Goals as goal

pub returns-clause-spawned : goal.returns-clause-spawned
unfolding acts_of count_of left_to pushed_by saw_set index_of shape_at takes_oldest units_of
returns-clause-spawned g c =
    let b = c.self.inside.bench in
    let n = c.in-Some.name in
    let k = c.in-Some-draw.token in
    let u = c.spawn_fifo.new.self in
    (n, k, subst (λ v. Fed v.shape (Worker 0 v.id.index) n k v.acts u.trace) c.self.view_is (fed n b u k c.in_ok-spawn_fifo.ensures.path), search rules)

pub returns-in_err-spawn_fifo-clause-path : goal.returns-in_err-spawn_fifo-clause-path
unfolding acts_of count_of left_to pushed_by saw_set index_of shape_at takes_oldest units_of
returns-in_err-spawn_fifo-clause-path g c =
    let b = c.self.inside.bench in
    let n = c.in-Some.name in
    let k = c.in-Some-draw.token in
    let u = c.spawn_fifo.new.self in
    let path = subst (λ v. HandedBack v.shape (Worker 0 v.id.index) (λ j. Feed (feeding j k)) v.acts u.trace) c.self.view_is (unfed n b u k c.in_err-spawn_fifo.ensures.path) in
    if_err _ c.from_residual.result (k, path)

pub returns-in_err-spawn_fifo-clause-kept : goal.returns-in_err-spawn_fifo-clause-kept
unfolding acts_of count_of left_to pushed_by saw_set index_of shape_at takes_oldest units_of
returns-in_err-spawn_fifo-clause-kept g c =
    let u = c.spawn_fifo.new.self in
    if_err _ c.from_residual.result (search rules, subst (λ v. KeepsUnits v.count u.marks.count) c.self.view_is c.in_err-spawn_fifo.ensures.unit)
