use Rattle.std.proofs.Common.{ℕ, ap, rules, subst, sym}
use Rattle.rayon_machine_places.specs.declared.place.Party.TheVariants.{Worker}
use Rattle.rayon_machine_places.specs.declared.place.Plan.TheVariants.{Open}
use Rattle.rayon_performers.specs.Calls.{own_call}
use Rattle.rayon_shared.specs.Marks.{KeepsUnits}
use Rattle.rayon_tasks.specs.Tickets.{TicketOf}
use Rattle.rayon_registry.specs.Acts.{HandedBack, ScopeOpened}
use Rattle.rayon_registry.specs.Pushes.{acts_of, count_of, left_to, pushed_by, saw_set, index_of, shape_at, takes_oldest, units_of}
use Rattle.rayon_registry.proofs.Made.{if_err, scope_opened, scope_refused}
use Rattle.rayon_registry.proofs.worker_thread.WorkerThread.open.Goals as goal

pub returns-clause-opened : goal.returns-clause-opened
unfolding acts_of count_of left_to pushed_by saw_set index_of shape_at takes_oldest units_of
returns-clause-opened g c =
    let b = c.self.inside.bench in
    let n = c.in-Some.name in
    let u = c.open_scope.new.self in
    let here = subst (λ v. ScopeOpened v.shape (Worker 0 v.id.index) n v.acts u.trace) c.self.view_is (scope_opened n b u c.in_ok-call.ensures.path) in
    subst (λ (k : ℕ). ScopeOpened c.args.self.now.shape (Worker 0 c.args.self.now.id.index) k c.args.self.now.acts u.trace) (sym (ap (λ (y : TicketOf). y.number) c.in_ok-call.ensures.ticket.0.1)) here

pub returns-in_err-call-clause-path : goal.returns-in_err-call-clause-path
unfolding acts_of count_of left_to pushed_by saw_set index_of shape_at takes_oldest units_of
returns-in_err-call-clause-path g c =
    let b = c.self.inside.bench in
    let n = c.in-Some.name in
    let u = c.open_scope.new.self in
    let path = subst (λ v. HandedBack v.shape (Worker 0 v.id.index) (λ j. Open (own_call j)) v.acts u.trace) c.self.view_is (scope_refused n b u c.in_err-call.ensures.path) in
    if_err _ c.from_residual.result path

pub returns-in_err-call-clause-kept : goal.returns-in_err-call-clause-kept
unfolding acts_of count_of left_to pushed_by saw_set index_of shape_at takes_oldest units_of
returns-in_err-call-clause-kept g c =
    let u = c.open_scope.new.self in
    if_err _ c.from_residual.result (search rules, subst (λ v. KeepsUnits v.count u.marks.count) c.self.view_is c.in_err-call.ensures.unit)
