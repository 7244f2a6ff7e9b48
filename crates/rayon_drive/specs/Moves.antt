-- What there is where a move leads to a place, there is at that place.
use Rattle.std.specs.Prelude.{◌≡◌, ℕ, Option, None, Some}
use Rattle.std.proofs.Common.{true, false, true≢false, sym, subst, ap}
use Rattle.rayon_machine_places.specs.declared.place.Mark.{Mark as AnyMark}
use Rattle.rayon_machine_places.specs.declared.place.Pieces.{Pieces}
use Rattle.rayon_machine_places.specs.declared.place.Move.{Move}
use Rattle.rayon_machine_places.specs.declared.place.Move.TheVariants.{Stay, HandIn, Mark}
use Rattle.rayon_machine_places.specs.declared.place.Place.{Place}
use Rattle.rayon_drive.specs.Paths.{place_of}

same_place : (y p : Place) → Some y ≡ Some p → y ≡ p
same_place y p e = ap (λ (o : Option Place). elim o [ None ↦ y | Some z ↦ z ]) e

no_place : (p : Place) → None ≡ Some p → ⊥
no_place p e = true≢false (sym (ap (λ (o : Option Place). elim o [ None ↦ false | Some z ↦ true ]) e))

-- it is enough to say so of the moves that mark pieces or spend a token
module _ {S : Type 0} (Has : S → Move → Type 0) (marked : (s : S) (p : Place) (c : Pieces) (k : AnyMark) → Has s (Mark p c k) → Has s (Stay p)) (handed : (s : S) (p : Place) (n : ℕ) → Has s (HandIn p n) → Has s (Stay p)) where
  pub stays_at : (s : S) (m : Move) (p : Place) → place_of m ≡ Some p → Has s m → Has s (Stay p)
  stays_at s (Stay y) p e a = subst (λ (z : Place). Has s (Stay z)) (same_place y p e) a
  stays_at s (Mark y c k) p e a = subst (λ (z : Place). Has s (Stay z)) (same_place y p e) (marked s y c k a)
  stays_at s (HandIn y n) p e a = subst (λ (z : Place). Has s (Stay z)) (same_place y p e) (handed s y n a)
  stays_at s _ p e a = absurd (no_place p e)
