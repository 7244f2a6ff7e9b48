use Rattle.std.proofs.Common.{IfErr, subst}
use Rattle.rayon_machine_places.specs.declared.place.Party.TheVariants.{Worker}
use Rattle.rayon_performers.specs.Scopes.{entering}
use Rattle.rayon_registry.specs.Acts.{HandedBack}
use Rattle.rayon_registry.proofs.Made.{if_err}
use Rattle.rayon_registry.proofs.scope.Scope.spawn.Goals as goal

pub returns-then-not-self-clause-path : goal.returns-then-not-self-clause-path
returns-then-not-self-clause-path g c =
    let b = c.args.by.now in
    subst (λ v. IfErr c.enter.result (λ _. HandedBack b.shape (Worker 0 b.id.index) (entering v.call v.owner) b.acts c.enter.new.self.acts)) c.self.view_is c.enter.ensures.path

pub returns-in_err-number-clause-path : goal.returns-in_err-number-clause-path
returns-in_err-number-clause-path g c =
    let b = c.args.by.now in
    if_err _ c.from_residual.result (subst (λ v. HandedBack b.shape (Worker 0 b.id.index) (entering v.call v.owner) b.acts c.enter-2.new.self.acts) c.self.view_is c.in_err-number.ensures.path)
