-- the last of a list, by its index
use Rattle.std.proofs.Common.{◌≡◌, ℕ, zero, suc, ◌+◌, ◌-◌, List, [], ◌∷◌, length, refl, ap, arith, take, get_or}
use Rattle.std.specs.Prelude.{Some}
use Rattle.rayon_machine_runs.specs.World.{but_last, last_of}

but-take : (xs : List ℕ) (n : ℕ) → n + 1 ≡ length xs → take n xs ≡ but_last xs
but-take [] n e = absurd (omega arith)
but-take (x ∷ []) n e = let z : n ≡ 0 = omega arith in rw z refl
but-take (x ∷ y ∷ ys) zero e = absurd (omega arith)
but-take (x ∷ y ∷ ys) (suc n) e = ap (λ l. x ∷ l) (but-take (y ∷ ys) n (omega arith))

pub but-last : (xs : List ℕ) → take (length xs - 1) xs ≡ but_last xs
but-last [] = refl
but-last (x ∷ xs) = but-take (x ∷ xs) (length (x ∷ xs) - 1) (omega arith)

pub last-at : (xs : List ℕ) (n d : ℕ) → n + 1 ≡ length xs → Some (get_or xs n d) ≡ last_of xs
last-at [] n d e = absurd (omega arith)
last-at (x ∷ []) n d e = let z : n ≡ 0 = omega arith in rw z refl
last-at (x ∷ y ∷ ys) zero d e = absurd (omega arith)
last-at (x ∷ y ∷ ys) (suc n) d e = last-at (y ∷ ys) n d (omega arith)
