-- a test of the frames of a stack, in whichever order they are listed
use Rattle.std.proofs.Common.{◌≡◌, refl, sym, ◌∙◌, ap}
use Rattle.std.specs.Prelude.{ℕ, Bool, true, false, ◌||◌, List, [], ◌∷◌, ◌++◌, reverse}
use Rattle.std.specs.List.{list_any}
use Rattle.std.proofs.lemmas.List.{reverse-append}
use Rattle.rayon_machine_places.specs.declared.place.Place.{Place}
use Rattle.rayon_machine_places.specs.Places.{holds_scope}
use Rattle.rayon_machine_runs.specs.Steps.{holds_in}

or-swap : (a b : Bool) → (a || b) ≡ (b || a)
or-swap true true = refl
or-swap true false = refl
or-swap false true = refl
or-swap false false = refl

or-group : (a b c : Bool) → ((a || b) || c) ≡ (a || (b || c))
or-group true b c = refl
or-group false b c = refl

or-none : (a : Bool) → (a || false) ≡ a
or-none true = refl
or-none false = refl

any-append : (c : ℕ) (l m : List Place) → holds_in c (l ++ m) ≡ (holds_in c l || holds_in c m)
any-append c [] m = refl
any-append c (f ∷ fs) m = ap (λ b. holds_scope c f || b) (any-append c fs m) ∙ sym (or-group (holds_scope c f) (holds_in c fs) (holds_in c m))

any-in : (c : ℕ) (l : List Place) → list_any (holds_scope c) l ≡ holds_in c l
any-in c [] = refl
any-in c (f ∷ fs) = ap (λ b. holds_scope c f || b) (any-in c fs)

turned : (c : ℕ) (l : List Place) → holds_in c l ≡ holds_in c (reverse l)
turned c [] = refl
turned c (f ∷ fs) =
    ap (λ b. holds_scope c f || b) (turned c fs)
    ∙ or-swap (holds_scope c f) (holds_in c (reverse fs))
    ∙ ap (λ b. holds_in c (reverse fs) || b) (sym (or-none (holds_scope c f)))
    ∙ sym (any-append c (reverse fs) (f ∷ []))
    ∙ sym (ap (holds_in c) (reverse-append (f ∷ []) fs))

pub holds-turned : (c : ℕ) (l : List Place) → list_any (holds_scope c) l ≡ holds_in c (reverse l)
holds-turned c l = any-in c l ∙ turned c l
