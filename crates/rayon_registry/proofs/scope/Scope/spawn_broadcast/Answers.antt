use Rattle.std.proofs.Common.{ℕ, subst}
use Rattle.rayon_machine_places.specs.declared.place.Party.TheVariants.{Worker}
use Rattle.rayon_performers.specs.Casts.{CastInto}
use Rattle.rayon_shared.specs.Casts.{cast_into}
use Rattle.rayon_performers.specs.Scopes.{entry_of}
use Rattle.rayon_registry.specs.Acts.{PiecesBack}
use Rattle.rayon_registry.proofs.Made.{if_err}
use Rattle.rayon_registry.proofs.scope.Scope.spawn_broadcast.Goals as goal

pub returns-clause-cast : goal.returns-clause-cast
returns-clause-cast g c =
    let b = c.args.by.now in
    subst (λ v. (a : ℕ) × CastInto b.shape (Worker 0 b.id.index) (cast_into (entry_of v.call v.owner a) b.shape.workers) c.in_ok-entered.entered.0 b.acts c.enter_for_all.new.self.acts) c.self.view_is c.in_ok-entered.ensures.cast

pub returns-in_err-entered-clause-path : goal.returns-in_err-entered-clause-path
returns-in_err-entered-clause-path g c =
    let b = c.args.by.now in
    if_err _ c.from_residual.result (subst (λ v. PiecesBack b.shape (Worker 0 b.id.index) (λ a. cast_into (entry_of v.call v.owner a) b.shape.workers) b.acts c.enter_for_all.new.self.acts) c.self.view_is c.in_err-entered.ensures.path)
