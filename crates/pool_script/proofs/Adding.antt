use Rattle.std.specs.Prelude.{◌≡◌, ℕ, zero, suc, ◌+◌, ◌%◌, ◌^◌, ◌<◌, Option, Some, None, IfSome}
use Rattle.std.proofs.Common.{ap, sym, refl, subst, arith, ◌∙◌}
use Rattle.std.proofs.Math.Numerals.{add-one}
use Rattle.pool_script.specs.Sums.{plus, over_turns}

-- one turn more
pub over_turns_more : (each : ℕ → Option ℕ) (turns : ℕ) → over_turns each (turns + 1) ≡ plus (over_turns each turns) (each turns)
over_turns_more each turns = ap (over_turns each) (add-one turns)

-- nothing is said of a sum one of whose parts is not said
pub plus_none : (first : Option ℕ) → plus first None ≡ None
plus_none None = refl
plus_none (Some first) = refl

-- what is added is a sum, if each part is what is said
pub plus_said : (first second : Option ℕ) (a b : ℕ) → IfSome first (λ s. a ≡ s) → IfSome second (λ s. b ≡ s) → IfSome (plus first second) (λ s. (a + b) % 2 ^ 64 ≡ s)
plus_said None second a b f s = tt
plus_said (Some x) None a b f s = tt
plus_said (Some x) (Some y) a b f s = subst (λ z. (a + b) % 2 ^ 64 ≡ (z + y) % 2 ^ 64) f (ap (λ z. (a + z) % 2 ^ 64) s)
