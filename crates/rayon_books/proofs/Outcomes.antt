-- How runs end all together.
use Rattle.std.proofs.Common.{◌≡◌, ◌<◌, ℕ, true, false, is_ok, List, All, IsOk, IfErr, Result, Ok, Err, refl, length, get_or}
use Rattle.std.proofs.lemmas.List.Sums.{list_all-from_AllPass}
use Rattle.std.proofs.lemmas.List.Folds.{list_all_at}
use Rattle.std.specs.List.{list_all}
use Rattle.rayon_jobs.specs.Within.{Run}
use Rattle.rayon_machine_places.specs.declared.place.Ending.TheVariants.{Fine, Fault}
use Rattle.rayon_books.specs.Outcomes.{ending_of_all}

module _ {T O F : Type 0} (v : List (Run T O F)) where
  -- fine where each of them did
  pub all_fine : All (λ r. is_ok r.answer ≡ true) v → ending_of_all v ≡ Fine
  all_fine a = rw (list_all-from_AllPass (λ (r : Run T O F). is_ok r.answer) v a) refl

  -- with a fault where one did
  pub one_failed : (i : ℕ) (r : Run T O F) → i < length v → is_ok (get_or v i r).answer ≡ false → ending_of_all v ≡ Fault
  one_failed i r l e = rw (list_all_at (λ (r : Run T O F). is_ok r.answer) v i r l e) refl
