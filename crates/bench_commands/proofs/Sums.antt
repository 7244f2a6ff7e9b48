use Rattle.std.specs.Prelude.{ℕ, Result, IfOk, List, [], ◌∷◌, length, sum, slice_get, Some, ◌≡◌, ◌+◌, ◌*◌, suc}
use Rattle.std.proofs.Common.{refl, arith}
use Rattle.std.proofs.lemmas.List.Sums.{sum_by-cons}
use Rattle.std.proofs.lemmas.Result.{IfOk-weaker}
use Rattle.fibonacci.specs.Fib.{fib}
use Rattle.fibonacci.specs.declared.FibFault.{FibFault}
use Rattle.bench_commands.specs.Casts.{AnswersCasting}
use Rattle.bench_commands.specs.declared.casts.Casting.{Casting}

-- a list whose elements are all one number adds up to as often that number as it is long
pub sum_same : (xs : List ℕ) (x : ℕ) → ((i : ℕ) (o : ℕ) → slice_get xs i ≡ Some o → o ≡ x) → sum xs ≡ length xs * x
sum_same [] x h = omega arith
sum_same (y ∷ ys) x h =
    let first : y ≡ x = h 0 y refl in
    let rest : sum ys ≡ length ys * x = sum_same ys x (λ i o p. h (suc i) o p) in
    let added : sum (y ∷ ys) ≡ y + sum ys = sum_by-cons (λ n. n) y ys in
    let longer : length (y ∷ ys) * x ≡ suc (length ys) * x = refl in
    omega arith

-- what so many broadcasts to so many workers found together is what their job may answer
pub casting_answers : (t : Casting) (workers : ℕ) (r : Result ℕ FibFault) → IfOk r (λ v. v ≡ t.calls * (workers * fib t.n)) → AnswersCasting t r
casting_answers t workers r h = IfOk-weaker r _ _ (λ v p. (workers, p)) h
