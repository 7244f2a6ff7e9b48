use Rattle.std.proofs.Common.{subst}
use Rattle.rayon_books.specs.Receipts.{MetBy}
use Rattle.rayon_registry.proofs.in_place.PoolRefOpensInPlace.end_in_place.Goals as goal

pub returns-clause-foreign : goal.returns-clause-foreign
returns-clause-foreign g c e =
    let m = c.compared.ensures.foreign e in
    (m.0, subst (λ v. MetBy g.J.Tag.PartialEq.eq m.0.items v.receipts → ⊥) c.scope.view_is (subst (λ l. MetBy g.J.Tag.PartialEq.eq m.0.items l → ⊥) c.deref.ensures.value m.2))
