use Rattle.std.proofs.Common.{rules, subst}
use Rattle.rayon_machine_places.specs.declared.place.Party.TheVariants.{Worker}
use Rattle.rayon_machine_places.specs.declared.place.Plan.TheVariants.{Detach}
use Rattle.rayon_shared.specs.Marks.{KeepsUnits}
use Rattle.rayon_performers.specs.Spawns.{Spawned}
use Rattle.rayon_registry.specs.Acts.{HandedBack}
use Rattle.rayon_registry.specs.Pushes.{acts_of, count_of, left_to, pushed_by, saw_set, index_of, shape_at, takes_oldest, units_of}
use Rattle.rayon_registry.proofs.Made.{if_err, spawned, unspawned}
use Rattle.rayon_registry.proofs.worker_thread.WorkerThread.spawn.Goals as goal

pub returns-clause-spawned : goal.returns-clause-spawned
unfolding acts_of count_of left_to pushed_by saw_set index_of shape_at takes_oldest units_of
returns-clause-spawned g c =
    let b = c.self.inside.bench in
    let n = c.in-Some.name in
    let u = c.spawn.new.self in
    (n, subst (λ v. Spawned v.shape (Worker 0 v.id.index) n v.acts u.trace) c.self.view_is (spawned n b u c.in_ok-spawn.ensures.path), search rules)

pub returns-in_err-spawn-clause-path : goal.returns-in_err-spawn-clause-path
unfolding acts_of count_of left_to pushed_by saw_set index_of shape_at takes_oldest units_of
returns-in_err-spawn-clause-path g c =
    let b = c.self.inside.bench in
    let n = c.in-Some.name in
    let u = c.spawn.new.self in
    let path = subst (λ v. HandedBack v.shape (Worker 0 v.id.index) (Detach 0) v.acts u.trace) c.self.view_is (unspawned n b u c.in_err-spawn.ensures.path) in
    if_err _ c.from_residual.result path

pub returns-in_err-spawn-clause-kept : goal.returns-in_err-spawn-clause-kept
unfolding acts_of count_of left_to pushed_by saw_set index_of shape_at takes_oldest units_of
returns-in_err-spawn-clause-kept g c =
    let u = c.spawn.new.self in
    if_err _ c.from_residual.result (search rules, subst (λ v. KeepsUnits v.count u.marks.count) c.self.view_is c.in_err-spawn.ensures.unit)
