use Rattle.std.proofs.Common.{◌≡◌, ◌++◌, ◌∷◌, [], ℕ, Some, IfErr, IfOk, subst}
use Rattle.rayon_machine_places.specs.declared.place.Party.TheVariants.{Worker}
use Rattle.rayon_machine_places.specs.declared.place.Plan.TheVariants.{Feed}
use Rattle.rayon_performers.specs.Scopes.{EnteredInOrder, entry_of, into, scope_token}
use Rattle.rayon_registry.specs.Acts.{HandedBack}
use Rattle.rayon_registry.proofs.Made.{if_err}
use Rattle.rayon_registry.proofs.scope.Scope.spawn_fifo.Goals as goal
use Rattle.rayon_tasks.specs.Tickets.{TicketOf}

pub returns-then-not-self-clause-entered : goal.returns-then-not-self-clause-entered
returns-then-not-self-clause-entered g c =
    let b = c.args.by.now in
    let t = c.enter_fifo.new.self in
    subst (λ v. IfOk c.enter_fifo.result (λ _. (u : TicketOf) × (k : ℕ) × (m : ℕ) × (v.ticket ≡ Some u) × EnteredInOrder b.shape (Worker 0 b.id.index) (entry_of v.call v.owner k) m b.acts t.acts × (t ≡ record b { pushed = b.pushed ++ scope_token u b.id.index m ∷ []; left = b.left ++ scope_token u b.id.index m ∷ []; acts = t.acts }))) c.self.view_is c.enter_fifo.ensures.entered

pub returns-then-not-self-clause-path : goal.returns-then-not-self-clause-path
returns-then-not-self-clause-path g c =
    let b = c.args.by.now in
    subst (λ v. IfErr c.enter_fifo.result (λ _. (m : ℕ) × HandedBack b.shape (Worker 0 b.id.index) (λ k. Feed (into (entry_of v.call v.owner k) m)) b.acts c.enter_fifo.new.self.acts)) c.self.view_is c.enter_fifo.ensures.path

pub returns-in_err-number-clause-path : goal.returns-in_err-number-clause-path
returns-in_err-number-clause-path g c =
    let b = c.args.by.now in
    if_err _ c.from_residual.result (subst (λ v. (m : ℕ) × HandedBack b.shape (Worker 0 b.id.index) (λ k. Feed (into (entry_of v.call v.owner k) m)) b.acts c.enter_fifo-2.new.self.acts) c.self.view_is c.in_err-number.ensures.path)
