use Rattle.std.proofs.Common.{ℕ, IfErr, IfOk, MatchResult, subst}
use Rattle.rayon_machine_places.specs.declared.place.Party.TheVariants.{Worker}
use Rattle.rayon_performers.specs.Casts.{Cast}
use Rattle.rayon_shared.specs.Casts.{casting}
use Rattle.rayon_shared.specs.Marks.{KeepsAll, TakesUnits}
use Rattle.rayon_registry.specs.Acts.{CastBack}
use Rattle.rayon_registry.specs.Pushes.{acts_of, count_of, index_of, shape_at}
use Rattle.rayon_registry.proofs.Made.{cast_so}
use Rattle.rayon_registry.proofs.worker_thread.WorkerThread.spawn_broadcast.Goals as goal

pub returns-clause-cast : goal.returns-clause-cast
unfolding acts_of count_of index_of shape_at
returns-clause-cast g c =
    let b = c.self.inside.bench in
    let n = c.in-Some-row.first in
    let r = c.spawn_broadcast.result in
    let u = c.spawn_broadcast.new.self in
    subst (λ v. IfOk r (λ _. (k : ℕ) × Cast v.shape (Worker 0 v.id.index) (casting k v.shape.workers) v.acts u.trace)) c.self.view_is (cast_so n b u r c.spawn_broadcast.ensures.path).0

pub returns-clause-units : goal.returns-clause-units
unfolding acts_of count_of index_of shape_at
returns-clause-units g c =
    let r = c.spawn_broadcast.result in
    let u = c.spawn_broadcast.new.self in
    subst (λ v. MatchResult r (λ _. TakesUnits v.shape.workers v.count u.marks.count) (λ _. KeepsAll v.shape.workers v.count u.marks.count)) c.self.view_is c.spawn_broadcast.ensures.unit

pub returns-clause-path : goal.returns-clause-path
unfolding acts_of count_of index_of shape_at
returns-clause-path g c =
    let b = c.self.inside.bench in
    let n = c.in-Some-row.first in
    let r = c.spawn_broadcast.result in
    let u = c.spawn_broadcast.new.self in
    subst (λ v. IfErr r (λ _. CastBack v.shape (Worker 0 v.id.index) v.acts u.trace)) c.self.view_is (cast_so n b u r c.spawn_broadcast.ensures.path).1
