use Rattle.std.specs.Prelude.{◌≡◌, ℕ, zero, suc, List, [], ◌∷◌, ◌++◌, All, length, slice_get, slice_set, Some, IfSome}
use Rattle.std.proofs.Common.{subst, sym}
use Rattle.std.proofs.lemmas.List.Elements.{All-push}
use Rattle.pool_script.specs.Ends.{AtEach, GoDown, GoesDownAt}
use Rattle.pool_script.specs.declared.script.Deed.{Deed}
use Rattle.pool_script.specs.declared.script.JobPlan.{JobPlan}

-- what is true at each place is true at the place of an element that was read
pub at_each_get : {X : Type 0} (P : ℕ → X → Type 0) (xs : List X) (at : ℕ) (x : X) → AtEach P xs → slice_get xs at ≡ Some x → P at x
at_each_get P xs at x all e = subst (λ o. IfSome o (P at)) e (all at)

-- it is true at each place once an element is written for which it is true
pub at_each_set : {X : Type 0} (P : ℕ → X → Type 0) (xs : List X) (at : ℕ) (x : X) → AtEach P xs → P at x → AtEach P (slice_set xs at x)
at_each_set P [] at x all p j = tt
at_each_set P (y ∷ ys) zero x all p zero = p
at_each_set P (y ∷ ys) zero x all p (suc j) = all (suc j)
at_each_set P (y ∷ ys) (suc at) x all p zero = all zero
at_each_set P (y ∷ ys) (suc at) x all p (suc j) = at_each_set (λ k. P (suc k)) ys at x (λ k. all (suc k)) p j

-- and once one is put last for which it is true
pub at_each_push : {X : Type 0} (P : ℕ → X → Type 0) (xs : List X) (x : X) → AtEach P xs → P (length xs) x → AtEach P (xs ++ x ∷ [])
at_each_push P [] x all p zero = p
at_each_push P [] x all p (suc j) = tt
at_each_push P (y ∷ ys) x all p zero = all zero
at_each_push P (y ∷ ys) x all p (suc j) = at_each_push (λ k. P (suc k)) ys x (λ k. all (suc k)) p j

-- a script ends once a deed is put last in a job whose calls go down
pub ends_push : (jobs : List JobPlan) (at : ℕ) (old new : JobPlan) (deed : Deed) → AtEach GoesDownAt jobs → slice_get jobs at ≡ Some old → GoDown at deed → new.deeds.items ≡ old.deeds.items ++ deed ∷ [] → AtEach GoesDownAt (slice_set jobs at new)
ends_push jobs at old new deed all get down e =
    at_each_set GoesDownAt jobs at new all (subst (All (GoDown at)) (sym e) (All-push (GoDown at) old.deeds.items deed (at_each_get GoesDownAt jobs at old all get) down))
