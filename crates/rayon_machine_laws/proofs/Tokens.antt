-- a share is in at most one place: with one party, or with its owner
--
-- `Tokens` says of one share: the parties and its owner have it at most once together, and not at all where it is
-- uncounted. A gain is `tokens_gain`, a giving back `tokens_pay`; else it moves or stays (`tokens_keep`). How many
-- pieces there are is a sum too (`pieces_below`).
use Rattle.rayon_machine_laws.specs.Once.{one}
use Rattle.rayon_machine_runs.specs.Steps.{is_piece}
use Rattle.rayon_machine_places.specs.declared.place.Pieces.{Pieces}
use Rattle.std.proofs.Common.{arith, refl, sym, ◌∙◌, ap, subst, inl, inr}
use Rattle.std.specs.Prelude.{ℕ, zero, suc, Bool, true, false, ◌+◌, ◌==◌, ◌≤◌, ◌<◌, ◌≡◌, ◌-◌}
use Rattle.std.proofs.lemmas.Bool.{eqb-true, eq-eqb, ltb-true, ltb-false}
use Rattle.std.proofs.Math.Dec.{ltb}
use Rattle.rayon_machine_places.specs.declared.place.Party.{Party}
use Rattle.rayon_machine_places.specs.Places.{same_party}
use Rattle.rayon_machine_laws.proofs.Frame.{either, same_party_true, same_party_refl, piece_range, piece_in}

pub record Tokens (f : Party → ℕ) (own cap : ℕ) : Type 0 where
  pub alone : (q : Party) → f q + own ≤ cap
  pub apart : (q r : Party) → same_party q r ≡ false → f q + f r ≤ cap

-- what one party and the owner have together is no more than before; nobody else's is more
pub tokens_keep : (f g : Party → ℕ) (own new cap : ℕ) (q : Party) → cap ≤ 1 → ((r : Party) → same_party r q ≡ false → g r ≤ f r) → g q + new ≤ f q + own → Tokens f own cap → Tokens g new cap
tokens_keep f g own new cap q c other mine t = record { alone = λ r. alone r (same_party r q) refl; apart = λ r s d. apart r s (same_party r q) (same_party s q) refl refl d }
  where
    alone : (r : Party) (z : Bool) → same_party r q ≡ z → g r + new ≤ cap
    alone r true z = subst (λ p. g p + new ≤ cap) (sym (same_party_true r q z)) (let a : f q + own ≤ cap = t.alone q in omega (arith, a, mine))
    alone r false z = let a : g r ≤ f r = other r z in let b : f r + own ≤ cap = t.alone r in let d : f r + f q ≤ cap = t.apart r q z in let e : f q + own ≤ cap = t.alone q in omega (arith, a, b, d, e, mine, c)

    apart : (r s : Party) (y z : Bool) → same_party r q ≡ y → same_party s q ≡ z → same_party r s ≡ false → g r + g s ≤ cap
    apart r s false false y z d = let a : g r ≤ f r = other r y in let b : g s ≤ f s = other s z in let e : f r + f s ≤ cap = t.apart r s d in omega (arith, a, b, e)
    apart r s true false y z d = let i : r ≡ q = same_party_true r q y in subst (λ p. g p + g s ≤ cap) (sym i)
        (let b : g s ≤ f s = other s z in let e : f s + f q ≤ cap = t.apart s q z in let h : f s + own ≤ cap = t.alone s in let k : f q + own ≤ cap = t.alone q in omega (arith, b, e, h, k, mine, c))
    apart r s false true y z d = let i : s ≡ q = same_party_true s q z in subst (λ p. g r + g p ≤ cap) (sym i)
        (let b : g r ≤ f r = other r y in let e : f r + f q ≤ cap = t.apart r q y in let h : f r + own ≤ cap = t.alone r in let k : f q + own ≤ cap = t.alone q in omega (arith, b, e, h, k, mine, c))
    apart r s true true y z d = absurd (let i : r ≡ q = same_party_true r q y in let j : s ≡ q = same_party_true s q z in let k : same_party r s ≡ true = ap (λ p. same_party p s) (i ∙ sym j) ∙ same_party_refl s in cc)

-- a share that nobody had comes to one party
pub tokens_gain : (f g : Party → ℕ) (own new : ℕ) (q : Party) → ((r : Party) → same_party r q ≡ false → g r ≤ f r) → g q ≤ f q + 1 → new ≤ own → Tokens f own 0 → Tokens g new 1
tokens_gain f g own new q other mine less t = record { alone = λ r. alone r (same_party r q) refl; apart = λ r s d. apart r s (same_party r q) (same_party s q) refl refl d }
  where
    alone : (r : Party) (z : Bool) → same_party r q ≡ z → g r + new ≤ 1
    alone r true z = subst (λ p. g p + new ≤ 1) (sym (same_party_true r q z)) (let a : f q + own ≤ 0 = t.alone q in omega (arith, a, mine, less))
    alone r false z = let a : g r ≤ f r = other r z in let b : f r + own ≤ 0 = t.alone r in omega (arith, a, b, less)

    apart : (r s : Party) (y z : Bool) → same_party r q ≡ y → same_party s q ≡ z → same_party r s ≡ false → g r + g s ≤ 1
    apart r s false false y z d = let a : g r ≤ f r = other r y in let b : g s ≤ f s = other s z in let e : f r + f s ≤ 0 = t.apart r s d in omega (arith, a, b, e)
    apart r s true false y z d = let i : r ≡ q = same_party_true r q y in subst (λ p. g p + g s ≤ 1) (sym i) (let b : g s ≤ f s = other s z in let e : f s + f q ≤ 0 = t.apart s q z in omega (arith, b, e, mine))
    apart r s false true y z d = let i : s ≡ q = same_party_true s q z in subst (λ p. g r + g p ≤ 1) (sym i) (let b : g r ≤ f r = other r y in let e : f r + f q ≤ 0 = t.apart r q y in omega (arith, b, e, mine))
    apart r s true true y z d = absurd (let i : r ≡ q = same_party_true r q y in let j : s ≡ q = same_party_true s q z in let k : same_party r s ≡ true = ap (λ p. same_party p s) (i ∙ sym j) ∙ same_party_refl s in cc)

-- a share that nobody had comes to its owner
pub tokens_own : (f g : Party → ℕ) (own new : ℕ) → new ≤ 1 → ((r : Party) → g r ≤ f r) → Tokens f own 0 → Tokens g new 1
tokens_own f g own new one other t = record {
  alone = λ r. (let a : g r ≤ f r = other r in let b : f r + own ≤ 0 = t.alone r in omega (arith, a, b, one));
  apart = λ r s d. (let a : g r ≤ f r = other r in let b : g s ≤ f s = other s in let e : f r + f s ≤ 0 = t.apart r s d in omega (arith, a, b, e));
}

-- the party that has the share gives it back: nobody has it
pub tokens_pay : (f g : Party → ℕ) (own new cap : ℕ) (q : Party) → cap ≤ 1 → ((r : Party) → same_party r q ≡ false → g r ≤ f r) → g q + 1 ≤ f q → new ≤ own → Tokens f own cap → Tokens g new 0
tokens_pay f g own new cap q c other mine less t = record { alone = λ r. alone r (same_party r q) refl; apart = λ r s d. (let a : g r + new ≤ 0 = alone r (same_party r q) refl in let b : g s + new ≤ 0 = alone s (same_party s q) refl in omega (arith, a, b)) }
  where
    alone : (r : Party) (z : Bool) → same_party r q ≡ z → g r + new ≤ 0
    alone r true z = subst (λ p. g p + new ≤ 0) (sym (same_party_true r q z)) (let a : f q + own ≤ cap = t.alone q in omega (arith, a, mine, less, c))
    alone r false z = let a : g r ≤ f r = other r z in let b : f r + own ≤ cap = t.alone r in let d : f r + f q ≤ cap = t.apart r q z in let e : f q + own ≤ cap = t.alone q in omega (arith, a, b, d, e, mine, less, c)

-- sums over the numbers below n
abbrev pub sum_below : ℕ → (ℕ → ℕ) → ℕ
sum_below zero f = 0
sum_below (suc n) f = f n + sum_below n f

pub sum_same : (n : ℕ) (f g : ℕ → ℕ) → ((i : ℕ) → i + 1 ≤ n → f i ≡ g i) → sum_below n f ≡ sum_below n g
sum_same zero f g e = refl
sum_same (suc n) f g e = let a : f n ≡ g n = e n (omega arith) in let b : sum_below n f ≡ sum_below n g = sum_same n f g (λ i z. e i (omega (arith, z))) in omega (arith, a, b)

pub sum_change : (n : ℕ) (f g : ℕ → ℕ) (k : ℕ) → k + 1 ≤ n → ((i : ℕ) → (i == k) ≡ false → f i ≡ g i) → (sum_below n g + f k) ≡ (sum_below n f + g k)
sum_change zero f g k b e = absurd (omega (arith, b))
sum_change (suc n) f g k b e = by (λ d. sum_change n f g k d e) (n == k) refl
  where
    by : (k + 1 ≤ n → (sum_below n g + f k) ≡ (sum_below n f + g k)) → (z : Bool) → (n == k) ≡ z → ((g n + sum_below n g) + f k) ≡ ((f n + sum_below n f) + g k)
    by rec true z = let i : n ≡ k = eqb-true n k z in let x : f n ≡ f k = ap f i in let y : g n ≡ g k = ap g i in
        let s : sum_below n f ≡ sum_below n g = sum_same n f g (λ j l. e j (other j (omega (arith, l, i)))) in omega (arith, x, y, s)
      where
        other : (j : ℕ) → j + 1 ≤ k → (j == k) ≡ false
        other j l = elim (either (j == k)) [ inl y ↦ absurd (let w : j ≡ k = eqb-true j k y in omega (arith, w, l)) | inr y ↦ y ]
    by rec false z = let x : f n ≡ g n = e n z in let s : (sum_below n g + f k) ≡ (sum_below n f + g k) = rec (below z) in omega (arith, x, s)
      where
        below : (n == k) ≡ false → k + 1 ≤ n
        below y = elim (either (ltb k n)) [ inl w ↦ (let v : k < n = ltb-true k n w in omega (arith, v)) | inr w ↦ absurd (let v : n ≤ k = ltb-false k n w in let u : n ≡ k = omega (arith, v, b) in let g : (n == k) ≡ true = eq-eqb n k u in cc) ]

-- one of the summands is no more than the sum
pub sum_least : (n : ℕ) (f : ℕ → ℕ) (k : ℕ) → k + 1 ≤ n → f k ≤ sum_below n f
sum_least zero f k b = absurd (omega (arith, b))
sum_least (suc n) f k b = by (λ d. sum_least n f k d) (n == k) refl
  where
    by : (k + 1 ≤ n → f k ≤ sum_below n f) → (z : Bool) → (n == k) ≡ z → f k ≤ f n + sum_below n f
    by rec true z = let i : f n ≡ f k = ap f (eqb-true n k z) in omega (arith, i)
    by rec false z = let s : f k ≤ sum_below n f = rec (below z) in omega (arith, s)
      where
        below : (n == k) ≡ false → k + 1 ≤ n
        below y = elim (either (ltb k n)) [ inl w ↦ (let v : k < n = ltb-true k n w in omega (arith, v)) | inr w ↦ absurd (let v : n ≤ k = ltb-false k n w in let u : n ≡ k = omega (arith, v, b) in let g : (n == k) ≡ true = eq-eqb n k u in cc) ]

-- more numbers, whose summands are 0
pub sum_more : (n : ℕ) (f : ℕ → ℕ) → f n ≡ 0 → sum_below (n + 1) f ≡ sum_below n f
sum_more n f e = subst (λ m. sum_below m f ≡ sum_below n f) (let k : suc n ≡ n + 1 = omega arith in k) (let g : (f n + sum_below n f) ≡ sum_below n f = omega (arith, e) in g)

-- where each summand has another beside it, so has the sum
pub sum_both : (n : ℕ) (f g k : ℕ → ℕ) → ((i : ℕ) → i + 1 ≤ n → g i ≡ f i + k i) → sum_below n g ≡ sum_below n f + sum_below n k
sum_both zero f g k e = refl
sum_both (suc n) f g k e = let a : g n ≡ f n + k n = e n (omega arith) in let b : sum_below n g ≡ sum_below n f + sum_below n k = sum_both n f g k (λ i z. e i (omega (arith, z))) in omega (arith, a, b)

-- any number of summands more that are 0
pub sum_tail : (n m : ℕ) (f : ℕ → ℕ) → ((i : ℕ) → n ≤ i → f i ≡ 0) → sum_below (n + m) f ≡ sum_below n f
sum_tail n zero f e = ap (λ k. sum_below k f) (let k : n + 0 ≡ n = omega arith in k)
sum_tail n (suc m) f e = ap (λ k. sum_below k f) (let k : n + suc m ≡ suc (n + m) = omega arith in k) ∙ (let a : f (n + m) ≡ 0 = e (n + m) (omega arith) in let b : sum_below (n + m) f ≡ sum_below n f = sum_tail n m f e in
    let g : (f (n + m) + sum_below (n + m) f) ≡ sum_below n f = omega (arith, a, b) in g)

-- how many numbers below n are pieces
pieces_sum : (n : ℕ) (c : Pieces) → sum_below n (λ t. one (is_piece c t)) ≡ (n - c.first) - (n - (c.first + c.workers))
pieces_sum zero c = omega arith
pieces_sum (suc n) c = by (pieces_sum n c) (is_piece c n) refl
  where
    by : sum_below n (λ t. one (is_piece c t)) ≡ (n - c.first) - (n - (c.first + c.workers)) → (b : Bool) → is_piece c n ≡ b → (one (is_piece c n) + sum_below n (λ t. one (is_piece c t))) ≡ (suc n - c.first) - (suc n - (c.first + c.workers))
    by rec true e = let a : (c.first ≤ n) × (n < c.first + c.workers) = piece_range c n e in let x : c.first ≤ n = a.0 in let y : n < c.first + c.workers = a.1 in let o : one (is_piece c n) ≡ 1 = ap one e in omega (arith, rec, x, y, o)
    by rec false e = let o : one (is_piece c n) ≡ 0 = ap one e in elim (either (ltb n c.first)) [
      | inl y ↦ (let a : n < c.first = ltb-true n c.first y in let g : (one (is_piece c n) + sum_below n (λ t. one (is_piece c t))) ≡ (suc n - c.first) - (suc n - (c.first + c.workers)) = omega (arith, rec, a, o) in g)
      | inr y ↦ let a : c.first ≤ n = ltb-false n c.first y in elim (either (ltb n (c.first + c.workers))) [
        | inl z ↦ absurd (let b : n < c.first + c.workers = ltb-true n (c.first + c.workers) z in let k : is_piece c n ≡ true = piece_in c n a b in cc)
        | inr z ↦ (let b : c.first + c.workers ≤ n = ltb-false n (c.first + c.workers) z in let g : (one (is_piece c n) + sum_below n (λ t. one (is_piece c t))) ≡ (suc n - c.first) - (suc n - (c.first + c.workers)) = omega (arith, rec, a, b, o) in g)
      ]
    ]

-- all pieces are below n: their number
pub pieces_below : (n : ℕ) (c : Pieces) → ((t : ℕ) → is_piece c t ≡ true → t + 1 ≤ n) → sum_below n (λ t. one (is_piece c t)) ≡ c.workers
pieces_below n c m = by c.workers refl
  where
    by : (k : ℕ) → c.workers ≡ k → sum_below n (λ t. one (is_piece c t)) ≡ c.workers
    by zero e = let a : sum_below n (λ t. one (is_piece c t)) ≡ (n - c.first) - (n - (c.first + c.workers)) = pieces_sum n c in omega (arith, a, e)
    by (suc k) e = let a : sum_below n (λ t. one (is_piece c t)) ≡ (n - c.first) - (n - (c.first + c.workers)) = pieces_sum n c in let b : (c.first + k) + 1 ≤ n = m (c.first + k) (piece_in c (c.first + k) (omega arith) (omega (arith, e))) in omega (arith, a, b, e)
