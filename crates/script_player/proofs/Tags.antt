use Rattle.std.specs.Prelude.{◌≡◌, ℕ, suc, ◌+◌, ◌*◌, ◌^◌, ◌<◌, Some, None}
use Rattle.std.proofs.Common.{arith, ap, ◌∙◌}
use Rattle.std.proofs.Math.Nat.{mul-mod_left}
use Rattle.std.proofs.Math.Numerals.{add-one}
use Rattle.std.proofs.lemmas.Nat.{mod-mul-add}
use Rattle.script_player.specs.Answers.{before, sum_in}

-- a tag that has a sum says it
pub sum_in_some : (drawn sum : ℕ) → sum < 2 ^ 64 → sum_in (drawn * 2 ^ 65 + (sum + 1)) ≡ Some sum
sum_in_some drawn sum small = ap before (mod-mul-add drawn (2 ^ 65) (sum + 1) (omega arith)) ∙ ap before (add-one sum)

-- one that has none says none
pub sum_in_none : (drawn : ℕ) → sum_in (drawn * 2 ^ 65) ≡ None
sum_in_none drawn = ap before (mul-mod_left drawn (2 ^ 65))
