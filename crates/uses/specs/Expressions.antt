use Rattle.std.specs.Prelude.{◌≡◌, ℕ, ◌+◌, ◌*◌, Bool, true, false, ◌&&◌, nat_eq, Option, Some, None, Result, MatchResult, if◌then◌else◌, nat_lt}
use Rattle.std.specs.Cmp.{IsEquivalence, nat_eq_equiv}
use Rattle.std.proofs.lemmas.Bool.{true≢false}
use Rattle.std.specs.Cmp.Derive.{both_true}
use Rattle.std.proofs.Common.{refl, sym, ap, eqb-true}
use Rattle.uses.specs.declared.tree.Operator.{Operator}
use Rattle.uses.specs.declared.tree.Operator.TheVariants.{Plus, Times}
use Rattle.uses.specs.declared.tree.Expression.{Expression}
use Rattle.uses.specs.declared.tree.Expression.TheVariants.{Number, Apply'}
use Rattle.uses.specs.declared.tree.TreeFault.{TreeFault}
use Rattle.uses.specs.declared.tree.TreeFault.TheVariants.{Overflow}

-- a number, if it fits 64 bits
abbrev pub fitting : ℕ → Option ℕ
fitting n = if nat_lt n 18446744073709551616 then Some n else None

-- what an operator makes of two values, if both are there and the answer fits 64 bits
abbrev pub applied : Operator → Option ℕ → Option ℕ → Option ℕ
applied o None b = None
applied o (Some x) None = None
applied Plus (Some x) (Some y) = fitting (x + y)
applied Times (Some x) (Some y) = fitting (x * y)

-- the value of an expression, or nothing where a part of it does not fit 64 bits
abbrev pub value : Expression → Option ℕ
value (Number n) = Some n
value (Apply' o p a q b) = applied o (value a) (value b)

-- the value, or `Overflow` only where there is none
abbrev pub Evaluates : Expression → Result ℕ TreeFault → Type 0
Evaluates e r = MatchResult r (λ v. value e ≡ Some v) (λ f. f ≡ Overflow → value e ≡ None)

-- whether two operators are the same
abbrev pub same_operator : Operator → Operator → Bool
same_operator Plus Plus = true
same_operator Plus Times = false
same_operator Times Plus = false
same_operator Times Times = true

-- whether two expressions are the same, wherever their parts lie in memory
abbrev pub same : Expression → Expression → Bool
same (Number m) (Number n) = nat_eq m n
same (Number m) (Apply' u r c s d) = false
same (Apply' o p a q b) (Number n) = false
same (Apply' o p a q b) (Apply' u r c s d) = same_operator o u && (same a c && same b d)

apart : (s t u : Bool) → (s && (t && u)) ≡ true → (s ≡ true) × (t ≡ true) × (u ≡ true)
apart true true u e = (refl, refl, e)
apart true false u e = absurd (true≢false (sym e))
apart false t u e = absurd (true≢false (sym e))

same_operator-is : (o u : Operator) → same_operator o u ≡ true → o ≡ u
same_operator-is Plus Plus e = refl
same_operator-is Plus Times e = absurd (true≢false (sym e))
same_operator-is Times Plus e = absurd (true≢false (sym e))
same_operator-is Times Times e = refl

same_operator-refl : (o : Operator) → same_operator o o ≡ true
same_operator-refl Plus = refl
same_operator-refl Times = refl

same_operator-symm : (o u : Operator) → same_operator o u ≡ same_operator u o
same_operator-symm Plus Plus = refl
same_operator-symm Plus Times = refl
same_operator-symm Times Plus = refl
same_operator-symm Times Times = refl

same-refl : (x : Expression) → same x x ≡ true
same-refl (Number n) = nat_eq_equiv.refl n
same-refl (Apply' o p a q b) = both_true (same_operator-refl o) (both_true (same-refl a) (same-refl b))

same-symm : (x y : Expression) → same x y ≡ same y x
same-symm (Number m) (Number n) = nat_eq_equiv.symm m n
same-symm (Number m) (Apply' u r c s d) = refl
same-symm (Apply' o p a q b) (Number n) = refl
same-symm (Apply' o p a q b) (Apply' u r c s d) = rw (same_operator-symm o u, same-symm a c, same-symm b d)

same-congr : (x y z : Expression) → same x y ≡ true → same x z ≡ same y z
same-congr (Number m) (Number n) (Number k) e = nat_eq_equiv.congr m n k e
same-congr (Number m) (Number n) (Apply' u r c s d) e = refl
same-congr (Number m) (Apply' u r c s d) z e = absurd (true≢false (sym e))
same-congr (Apply' o p a q b) (Number n) z e = absurd (true≢false (sym e))
same-congr (Apply' o p a q b) (Apply' u r c s d) (Number n) e = refl
same-congr (Apply' o p a q b) (Apply' u r c s d) (Apply' v h i j k) e =
    let h = apart (same_operator o u) (same a c) (same b d) e in
    rw (same_operator-is o u h.0, same-congr a c i h.1, same-congr b d k h.2)

-- the law of `Eq`
pub same_equivalence : IsEquivalence same
same_equivalence = record { refl = same-refl; symm = same-symm; congr = same-congr }

-- the same expressions have one value
pub same_value : (x y : Expression) → same x y ≡ true → value x ≡ value y
same_value (Number m) (Number n) e = ap Some (eqb-true m n e)
same_value (Number m) (Apply' u r c s d) e = absurd (true≢false (sym e))
same_value (Apply' o p a q b) (Number n) e = absurd (true≢false (sym e))
same_value (Apply' o p a q b) (Apply' u r c s d) e =
    let h = apart (same_operator o u) (same a c) (same b d) e in
    rw (same_operator-is o u h.0, same_value a c h.1, same_value b d h.2)

-- the law of equal tags, for both relations
pub same_evaluates : (x y : Expression) → same x y ≡ true → ((r : Result ℕ TreeFault) → Evaluates x r → Evaluates y r) × ((i n : ℕ) (r : Result ℕ TreeFault) → Evaluates x r → Evaluates y r)
same_evaluates x y e = (λ r h. rw (same_value x y e) at h, λ i n r h. rw (same_value x y e) at h)
