use Rattle.std.specs.Prelude.{◌≡◌, ℕ, zero, suc, ◌+◌, ◌≤◌, ◌^◌, Result, Ok, Err, ⊤}
use Rattle.rayon_words.specs.declared.refusal.CallError.{CallError}
use Rattle.fibonacci.specs.declared.FibFault.{FibFault}
use Rattle.fibonacci.specs.declared.FibFault.TheVariants.{TooLarge, Refused, Foreign, Missing}

-- two Fibonacci numbers that follow each other
abbrev pub fib_pair : ℕ → (ℕ × ℕ)
fib_pair zero = (0, 1)
fib_pair (suc n) = ((fib_pair n).1, (fib_pair n).0 + (fib_pair n).1)

-- the Fibonacci numbers: 0, 1, and then each the sum of the two before it
unfoldable pub fib : ℕ → ℕ
fib n = (fib_pair n).0

-- what a job for the n-th Fibonacci number may answer: that number; that it is too large, where it is above 2^64 - 1;
-- or what a call of it was refused or has lost
abbrev pub AnswersFib : ℕ → Result ℕ FibFault → Type 0
AnswersFib n (Ok v) = v ≡ fib n
AnswersFib n (Err TooLarge) = 2 ^ 64 ≤ fib n
AnswersFib n (Err (Refused r)) = ⊤
AnswersFib n (Err Foreign) = ⊤
AnswersFib n (Err Missing) = ⊤

-- the fault of a job whose call failed so: the fault that it met, or that the call was refused or has lost its answer
abbrev pub fault_of : CallError FibFault (Unit {0}) → FibFault
fault_of (CallError.Fault f) = f
fault_of (CallError.Refused r b) = Refused r
fault_of CallError.Foreign = Foreign
fault_of CallError.Missing = Missing
