use Rattle.std.proofs.Common.{◌+◌, ◌*◌}
use Rattle.scope_tests.proofs.tests.+fn-nested-body+nested.Given as goal

-- for a body one scope fewer is left than for the call that opens its scope
abbrev pub decreases-body : goal.decreases-body
decreases-body g l = 2 * l.left + 1

abbrev pub decreases-nested : goal.decreases-nested
decreases-nested g l = 2 * l.left
