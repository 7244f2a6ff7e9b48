use Rattle.std.proofs.Common.{◌≡◌, inl, inr, subst, ℕ, zero, suc, Err, ◌+◌, ◌-◌, ◌<◌, ◌≤◌, ◌^◌, refl, ap, arith}
use Rattle.rayon_words.specs.declared.refusal.CallError.{CallError}
use Rattle.rayon_words.specs.Calls.{without_sides}
use Rattle.rayon_core.specs.Answers.{JoinAnswers}
use Rattle.fibonacci.specs.Fib.{fib, AnswersFib, fault_of}
use Rattle.std.specs.Prelude.{Result}
use Rattle.fibonacci.specs.declared.FibFault.{FibFault}
use Rattle.fibonacci.specs.declared.FibFault.TheVariants.{TooLarge, Refused, Foreign, Missing}

pub fib_small : (n : ℕ) → n < 2 → n ≡ fib n
unfolding fib
fib_small zero h = refl
fib_small (suc zero) h = refl
fib_small (suc (suc n)) h = absurd (omega arith)

pub fib_next : (m : ℕ) → fib (suc (suc m)) ≡ fib m + fib (suc m)
unfolding fib
fib_next m = refl

-- from two on, a number is the sum of the two before it
pub fib_sum : (n : ℕ) → 2 ≤ n → fib n ≡ fib (n - 1) + fib (n - 2)
fib_sum zero h = absurd (omega arith)
fib_sum (suc zero) h = absurd (omega arith)
fib_sum (suc (suc m)) h =
    let e : suc (suc m) - 1 ≡ suc m = omega arith in
    let d : suc (suc m) - 2 ≡ m = omega arith in
    let p = ap fib e in
    let q = ap fib d in
    let s = fib_next m in omega arith

pub fib_step : (n a b : ℕ) → 2 ≤ n → a ≡ fib (n - 1) → b ≡ fib (n - 2) → a + b ≡ fib n
fib_step n a b h p q = let s = fib_sum n h in omega arith

-- a number is too large where one of the two before it is
pub fib_left : (n : ℕ) → 2 ≤ n → 2 ^ 64 ≤ fib (n - 1) → 2 ^ 64 ≤ fib n
fib_left n h p = let s = fib_sum n h in omega arith

pub fib_right : (n : ℕ) → 2 ≤ n → 2 ^ 64 ≤ fib (n - 2) → 2 ^ 64 ≤ fib n
fib_right n h p = let s = fib_sum n h in omega arith

-- the fault of a job before it is one that a job may answer
pub fault_left : (n : ℕ) (f : FibFault) → 2 ≤ n → AnswersFib (n - 1) (Err f) → AnswersFib n (Err f)
fault_left n TooLarge h a = fib_left n h a
fault_left n (Refused r) h a = tt
fault_left n Foreign h a = tt
fault_left n Missing h a = tt

pub fault_right : (n : ℕ) (f : FibFault) → 2 ≤ n → AnswersFib (n - 2) (Err f) → AnswersFib n (Err f)
fault_right n TooLarge h a = fib_right n h a
fault_right n (Refused r) h a = tt
fault_right n Foreign h a = tt
fault_right n Missing h a = tt

-- what a failed join of the two jobs before it leaves is a fault that a job may answer
pub fault_of_join : {B : Type 0} (n : ℕ) (sides : B) (r : Result (ℕ × ℕ) (CallError FibFault B)) (e : CallError FibFault B) → r ≡ Err e → 2 ≤ n → JoinAnswers (λ a. AnswersFib (n - 1) a × Unit {0}) (λ b. AnswersFib (n - 2) b) sides r → AnswersFib n (Err (fault_of (without_sides e)))
fault_of_join {B = B} n sides r e is h p = by e (subst (JoinAnswers (λ a. AnswersFib (n - 1) a × Unit {0}) (λ b. AnswersFib (n - 2) b) sides) is p)
  where
    by : (e : CallError FibFault B) → JoinAnswers (λ a. AnswersFib (n - 1) a × Unit {0}) (λ b. AnswersFib (n - 2) b) sides (Err e) → AnswersFib n (Err (fault_of (without_sides e)))
    by (CallError.Fault f) (inl a) = fault_left n f h (a.0)
    by (CallError.Fault f) (inr b) = fault_right n f h (b.1)
    by (CallError.Refused r b) a = tt
    by CallError.Foreign a = tt
    by CallError.Missing a = tt
