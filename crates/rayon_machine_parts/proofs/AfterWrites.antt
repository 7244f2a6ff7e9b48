-- reads of a table after a write, and after it has grown
use Rattle.std.proofs.Common.{◌≡◌, ℕ, zero, suc, ◌<◌, Bool, true, false, List, [], ◌∷◌, ◌++◌, length, refl, ◌∙◌, ap, arith}
use Rattle.std.specs.Prelude.{Some, if◌then◌else◌, ◌==◌, slice_get, slice_set}
use Rattle.std.specs.Option.{option_map_or}
use Rattle.std.proofs.lemmas.Bool.Decides.{nat_tests}

suc-test : (r i : ℕ) → (suc r == suc i) ≡ (r == i)
suc-test r i = grind (arith, nat_tests)

pub get-set : {X : Type 0} (xs : List X) (i r : ℕ) (v : X) → i < length xs → slice_get (slice_set xs i v) r ≡ (if r == i then Some v else slice_get xs r)
get-set [] i r v h = absurd (omega arith)
get-set (x ∷ xs) zero zero v h = refl
get-set (x ∷ xs) zero (suc r) v h = let e : (suc r == zero) ≡ false = grind (arith, nat_tests) in rw e
get-set (x ∷ xs) (suc i) zero v h = let e : (zero == suc i) ≡ false = grind (arith, nat_tests) in rw e
get-set (x ∷ xs) (suc i) (suc r) v h = rw (suc-test r i) (get-set xs i r v (omega arith))

-- a read of a list by a function with a value for none
pub read-set : {X : Type 0} {A : Type 0} (f : X → A) (d : A) (xs : List X) (i r : ℕ) (v : X) → i < length xs → option_map_or f (slice_get (slice_set xs i v) r) d ≡ (if r == i then f v else option_map_or f (slice_get xs r) d)
read-set f d xs i r v h = ap (λ o. option_map_or f o d) (get-set xs i r v h) ∙ at (r == i)
  where
    at : (b : Bool) → option_map_or f (if b then Some v else slice_get xs r) d ≡ (if b then f v else option_map_or f (slice_get xs r) d)
    at true = refl
    at false = refl

-- one more item at the end that reads as none does at its index
pub read-more : {X : Type 0} {A : Type 0} (f : X → A) (d : ℕ → A) (xs : List X) (v : X) → f v ≡ d (length xs) → (n : ℕ) → option_map_or f (slice_get (xs ++ v ∷ []) n) (d n) ≡ option_map_or f (slice_get xs n) (d n)
read-more f d [] v e zero = e
read-more f d [] v e (suc n) = refl
read-more f d (x ∷ xs) v e zero = refl
read-more f d (x ∷ xs) v e (suc n) = read-more f (λ k. d (suc k)) xs v e n
