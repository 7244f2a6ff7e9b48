use Rattle.std.specs.Prelude.{Result, Ok, Err, List, is_ok, if◌then◌else◌}
use Rattle.std.specs.List.{list_all}
use Rattle.rayon_jobs.specs.Within.{Run}
use Rattle.rayon_machine_places.specs.declared.place.Ending.{Ending}
use Rattle.rayon_machine_places.specs.declared.place.Ending.TheVariants.{Fine, Fault}
use Rattle.rayon_books.specs.declared.slot.NoOutputs.{NoOutputs}

-- how runs ended all together: with a fault where one of them did
abbrev pub ending_of_all : {T O F : Type 0} → List (Run T O F) → Ending
ending_of_all v = if list_all (λ r. is_ok r.answer) v then Fine else Fault

-- how a scope ended that has no outputs for this reason: with a fault where the body's or a job's was the first
abbrev pub ending_without : {F : Type 0} → NoOutputs F → Ending
ending_without NoOutputs.Body = Fault
ending_without (NoOutputs.Fault f) = Fault
ending_without NoOutputs.Missing = Fine
ending_without NoOutputs.Foreign = Fine

-- how a scope ended whose book gave this, or a broadcast whose pieces gave these runs
abbrev pub ending_in : {T O F : Type 0} → Result (List (Run T O F)) (NoOutputs F) → Ending
ending_in (Ok v) = ending_of_all v
ending_in (Err e) = ending_without e
