use Rattle.std.proofs.Common.{◌≡◌, ℕ, inr, rules, subst}
use Rattle.rayon_machine_places.specs.declared.place.Move.TheVariants.{HandBack, StartRun, Stay}
use Rattle.rayon_machine_places.specs.declared.place.Party.TheVariants.{Worker}
use Rattle.rayon_machine_places.specs.declared.place.Place.TheVariants as at
use Rattle.rayon_drive.specs.Paths.{Traced}
use Rattle.rayon_performers.specs.Calls.{own_call, own_join}
use Rattle.rayon_registry.specs.Acts.{Offered}
use Rattle.rayon_shared.specs.Marks.{KeepsUnits}
use Rattle.rayon_registry.specs.Pushes.{acts_of, count_of, left_to, pushed_by, saw_set, index_of, shape_at, takes_oldest, units_of}
use Rattle.rayon_performers.proofs.Stretches.{traced}
use Rattle.rayon_registry.proofs.Made.{if_err, on_err}
use Rattle.rayon_registry.proofs.worker_thread.WorkerThread.fork.Goals as goal

pub returns-in_err-call-clause-path : goal.returns-in_err-call-clause-path
unfolding acts_of index_of shape_at
returns-in_err-call-clause-path g c =
    let b = c.self.inside.bench in
    let u = c.offer.new.self in
    let n = c.in-Some.name in
    let first = Stay (at.RaiseCount (own_join n)) in
    let traced = subst (λ v. Traced v.shape (Worker 0 v.id.index) first v.acts u.trace (HandBack (own_join n))) c.self.view_is (traced b.shape b.index first b u (HandBack (own_join n)) c.in_err-call.ensures.path) in
    on_err _ _ c.from_residual.result c.from_residual.ensures.0 (inr (n, traced))

pub returns-clause-path : goal.returns-clause-path
unfolding acts_of index_of shape_at
returns-clause-path g c =
    let b = c.self.inside.bench in
    let u = c.offer.new.self in
    let n = c.in-Some.name in
    let first = Stay (at.RaiseCount (own_join n)) in
    let end = StartRun (at.FirstSide (own_call n) n) n in
    let named : n ≡ c.in_ok-call.call.ticket.number = search rules in
    subst (λ (z : ℕ). Offered c.args.self.now.shape (Worker 0 c.args.self.now.id.index) z c.args.self.now.acts u.trace) named
    (subst (λ v. Traced v.shape (Worker 0 v.id.index) first v.acts u.trace end) c.self.view_is (traced b.shape b.index first b u end c.in_ok-call.ensures.path))

pub returns-in_err-call-clause-kept : goal.returns-in_err-call-clause-kept
unfolding acts_of count_of left_to pushed_by saw_set index_of shape_at takes_oldest units_of
returns-in_err-call-clause-kept g c =
    let u = c.offer.new.self in
    if_err _ c.from_residual.result (search rules, subst (λ v. KeepsUnits v.count u.marks.count) c.self.view_is c.in_err-call.ensures.unit)
