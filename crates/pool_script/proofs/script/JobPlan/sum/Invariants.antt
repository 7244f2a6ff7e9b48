use Rattle.std.specs.Prelude.{◌≡◌, take}
use Rattle.pool_script.specs.Sums.{sum_of}
use Rattle.pool_script.proofs.script.JobPlan.sum.Given as goal

abbrev pub invariant-loop-deed : goal.invariant-loop-deed
invariant-loop-deed l = l.sum ≡ sum_of (take l.deed-index l.self.deeds.items) l.number
