use Rattle.std.proofs.Common.{sym, subst, true≢false}
use Rattle.rayon_books.specs.Receipts.{MetBy}
use Rattle.rayon_registry.proofs.scope.compared.Goals as goal

pub returns-else-are_met-clause-foreign : goal.returns-else-are_met-clause-foreign
returns-else-are_met-clause-foreign g c _ = (c.in_ok-outputs.outputs, c.in_ok-outputs.was, λ m. true≢false (sym (c.if-are_met.ensures.1 (subst (λ l. MetBy g.J.Tag.PartialEq.eq l c.args.receipts.now) (sym c.deref.ensures.value) m))))
