use Rattle.std.specs.Prelude.{◌≡◌, ℕ, ◌*◌, Result, IfOk}
use Rattle.fibonacci.specs.Fib.{fib}
use Rattle.fibonacci.specs.declared.FibFault.{FibFault}
use Rattle.bench_commands.specs.declared.casts.Casting.{Casting}

-- what a job may answer that makes so many broadcasts of the n-th Fibonacci number: as often that number for each worker,
-- of however many there are
abbrev pub AnswersCasting : Casting → Result ℕ FibFault → Type 0
AnswersCasting t r = IfOk r (λ v. (workers : ℕ) × (v ≡ t.calls * (workers * fib t.n)))
