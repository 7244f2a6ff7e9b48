use Rattle.std.proofs.Common.{◌≡◌}
use Rattle.std.specs.Prelude.{sum, take}
use Rattle.bench_commands.proofs.casts.sum_of.Given as goal

abbrev pub invariant-loop-answer : goal.invariant-loop-answer
invariant-loop-answer l = l.total ≡ sum (take l.answer-index l.answers)
