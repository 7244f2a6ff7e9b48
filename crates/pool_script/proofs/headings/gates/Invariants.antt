use Rattle.pool_script.specs.Ends.{Ends}
use Rattle.pool_script.proofs.headings.gates.Given as goal

abbrev pub invariant-loop-name : goal.invariant-loop-name
invariant-loop-name l = Ends l.script
