-- A spawn's Raise, and a detached job's unit in the place of those of the worker's calls.
use Rattle.std.proofs.Common.{◌≡◌, ℕ, refl, sym, subst}
use Rattle.rayon_machine_places.specs.declared.place.Move.{Move}
use Rattle.rayon_performers.specs.Hands.{Hands}
use Rattle.rayon_performers.specs.Paths.{WorkerGoes}
use Rattle.rayon_performers.specs.Spawns.{with_units}

module _ {X G O F : Type 0} where
  -- the units that stood for others are put back
  pub units_back : (n m : ℕ) (u v : Hands X G O F) → v ≡ with_units m u → u.holds ≡ n → with_units n v ≡ u
  units_back n m u v e f = subst (λ (z : Hands X G O F). with_units n z ≡ u) (sym e) (subst (λ (k : ℕ). with_units k u ≡ u) f refl)

  -- a path that was made with such units in their place
  pub went_with : (m : Move) (i j k : ℕ) (s t u v : Hands X G O F) (n : Move) → t ≡ with_units i s → u.holds ≡ j → v ≡ with_units k u → WorkerGoes m t u n → WorkerGoes m (with_units i s) (with_units j v) n
  went_with m i j k s t u v n a b c d = subst (λ (z : Hands X G O F). WorkerGoes m (with_units i s) z n) (sym (units_back j k u v c b)) (subst (λ (z : Hands X G O F). WorkerGoes m z u n) a d)
