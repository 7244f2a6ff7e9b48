-- counts of workers
use Rattle.std.proofs.Common.{arith, refl, subst, inl, inr, ◌≢◌}
use Rattle.std.specs.Prelude.{ℕ, zero, suc, Bool, true, false, not, ◌+◌, ◌-◌, ◌==◌, ◌<◌, ◌≤◌, nat_lt, if◌then◌else◌, ◌≡◌, ◌⊎◌}
use Rattle.std.proofs.lemmas.Bool.{eqb-true, ltb-false}
use Rattle.rayon_machine_runs.specs.World.{count_below}
use Rattle.rayon_machine_places.specs.Sleepers.{Counts, wakes_for_one}

-- if one passes, the count is above 0
pub count_some : (n : ℕ) (f : ℕ → Bool) (i : ℕ) → i < n → f i ≡ true → 0 < count_below n f
count_some zero f i b e = absurd (omega arith)
count_some (suc n) f i b e = at (f n) refl (λ l. count_some n f i l e)
  where
    at : (z : Bool) → f n ≡ z → (i < n → 0 < count_below n f) → 0 < (if z then 1 + count_below n f else count_below n f)
    at true q rec = omega arith
    at false q rec = rec (let d : i ≢ n = λ s. (let g : f n ≡ true = subst (λ k. f k ≡ true) s e in cc) in omega arith)

pub record Passes (n : ℕ) (f g : ℕ → Bool) : Type 0 where
  pub at : ℕ
  pub below : at < n
  pub yes : f at ≡ true
  pub no : g at ≡ false

more : (n : ℕ) (f g : ℕ → Bool) → Passes n f g → Passes (suc n) f g
more n f g p = record { at = p.at; below = omega arith; yes = p.yes; no = p.no }

-- if more pass the first test than the second, one passes it and not the second
pub count_more : (n : ℕ) (f g : ℕ → Bool) → count_below n g < count_below n f → Passes n f g
count_more zero f g h = absurd (omega arith)
count_more (suc n) f g h = at (f n) (g n) refl refl h (count_more n f g)
  where
    at : (y z : Bool) → f n ≡ y → g n ≡ z → (if z then 1 + count_below n g else count_below n g) < (if y then 1 + count_below n f else count_below n f) → (count_below n g < count_below n f → Passes n f g) → Passes (suc n) f g
    at true false e d l rec = record { at = n; below = omega arith; yes = e; no = d }
    at true true e d l rec = more n f g (rec (omega arith))
    at false false e d l rec = more n f g (rec l)
    at false true e d l rec = more n f g (rec (omega arith))

-- one that is told wakes nobody only where nobody sleeps, or somebody is inactive and awake
pub wakes_none : (b : Bool) (c : Counts) → nat_lt 0 (wakes_for_one b c) ≡ false → (c.sleeping ≡ 0) ⊎ (c.sleeping < c.inactive)
wakes_none b c e = at (c.sleeping == 0) (not b) (nat_lt (c.inactive - c.sleeping) 1) refl refl refl e
  where
    at : (x y z : Bool) → (c.sleeping == 0) ≡ x → not b ≡ y → nat_lt (c.inactive - c.sleeping) 1 ≡ z → nat_lt 0 (if x then 0 else if y then 1 else if z then 1 else 0) ≡ false → (c.sleeping ≡ 0) ⊎ (c.sleeping < c.inactive)
    at true y z p q r h = inl (eqb-true c.sleeping 0 p)
    at false true z p q r h = cc
    at false false true p q r h = cc
    at false false false p q r h = inr (let k : 1 ≤ (c.inactive - c.sleeping) = ltb-false (c.inactive - c.sleeping) 1 r in omega arith)
