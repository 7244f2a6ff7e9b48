use Rattle.std.proofs.Common.{sym, arith}
use Rattle.rayon_books.proofs.Outcomes.{all_fine}
use Rattle.rayon_books.proofs.outcome.ending_of_all.Goals as goal

pub returns : goal.returns
returns g c = sym (all_fine c.args.runs.now (λ i d lt. c.loop-run.invariant i d (omega arith) (omega (arith, lt, c.loop-run-test.false))))
