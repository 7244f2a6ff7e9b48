use Rattle.std.proofs.Common.{◌≡◌, true, is_ok}
use Rattle.std.specs.List.{AllWithin}
use Rattle.rayon_books.proofs.outcome.ending_of_all.Given as goal

abbrev pub invariant-loop-run : goal.invariant-loop-run
invariant-loop-run g l =
    AllWithin (λ r. is_ok r.answer ≡ true) l.runs 0 l.run-index
