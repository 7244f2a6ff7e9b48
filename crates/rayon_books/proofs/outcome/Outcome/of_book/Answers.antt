use Rattle.std.proofs.Common.{◌∙◌, sym, refl}
use Rattle.rayon_books.proofs.Outcomes.{all_fine}
use Rattle.rayon_books.proofs.outcome.Outcome.of_book.Goals as goal

pub invariant_of-t-7 : goal.invariant_of-t-7
invariant_of-t-7 g c = (sym (all_fine c.in-Ok.outputs.items c.in-Ok.ensures.fine), tt)

pub returns-in-Ok-clause-ending : goal.returns-in-Ok-clause-ending
returns-in-Ok-clause-ending g c = all_fine c.in-Ok.outputs.items c.in-Ok.ensures.fine ∙ rw c.in-Ok.ensures.given.0 refl
