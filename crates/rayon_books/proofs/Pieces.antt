-- A broadcast's book stays what every book is when a piece's run is stored.
use Rattle.std.proofs.Common.{refl, ◌≡◌, true, false, is_ok, is_err, ℕ, ◌<◌, List, set, All, IsOk, Result, Ok, Err, Option, Some, None, IfSome, inl, inr}
use Rattle.std.proofs.lemmas.Bool.{cases_Bool}
use Rattle.std.proofs.lemmas.List.Elements.{All-set}
use Rattle.rayon_books.specs.Books.{Book, Suits, Failed, Kept, slot_of}
use Rattle.rayon_books.specs.Pieces.{is_before, lowest_after}
use Rattle.rayon_jobs.specs.Within.{Run}
use Rattle.rayon_books.proofs.Books.{is_err_of}
use Rattle.rayon_books.specs.declared.slot.Slot.{Slot}
use Rattle.rayon_books.specs.declared.slot.Slot.TheVariants.{Open, Filled, Faulted}
use Rattle.rayon_books.specs.declared.slot.First.{First}
use Rattle.rayon_books.specs.declared.slot.First.TheVariants.{Body, Job}

-- a slot suits the book after a piece's run is stored as it did before
suits_after : {T O F : Type 0} (f : Option (First (Run T O F))) (r : Run T O F) (s : Slot (Run T O F)) → Suits f s → Suits (lowest_after f r) s
suits_after f r Open h = tt
suits_after f r (Filled q) h = h
suits_after f r Faulted h = elim (cases_Bool (is_ok r.answer)) [ inl e ↦ rw e h | inr e ↦ rw e refl ]

-- so does what the run leaves
suits_put : {T O F : Type 0} (f : Option (First (Run T O F))) (r : Run T O F) → Suits (lowest_after f r) (slot_of r)
suits_put f r = elim (cases_Bool (is_ok r.answer)) [ inl e ↦ rw e e | inr e ↦ rw e refl ]

-- whose fault is kept has one
failed_after : {T O F : Type 0} (f : Option (First (Run T O F))) (r : Run T O F) → IfSome f Failed → IfSome (lowest_after f r) Failed
failed_after None r h =
    elim (cases_Bool (is_ok r.answer)) [ inl e ↦ rw e tt | inr e ↦ rw e (is_err_of r.answer e) ]
failed_after (Some Body) r h = elim (cases_Bool (is_ok r.answer)) [ inl e ↦ rw e h | inr e ↦ rw e tt ]
failed_after (Some (Job s)) r h =
    elim (cases_Bool (is_ok r.answer)) [
      | inl e ↦ rw e h
      | inr e ↦ rw e (elim (cases_Bool (is_before r s)) [ inl b ↦ rw b (is_err_of r.answer e) | inr b ↦ rw b h ])
    ]

-- a book in which a piece's run is stored
pub kept_piece : {T O F : Type 0} (b : Book (Run T O F)) (n : ℕ) (r : Run T O F) (s : Slot (Run T O F)) (f : Option (First (Run T O F))) → s ≡ slot_of r → f ≡ lowest_after b.first r → Kept b → Kept (record { slots = set b.slots n s; first = f })
kept_piece b n r s f es ef k =
    rw es
    (rw ef (All-set (Suits (lowest_after b.first r)) _ _ _ (suits_put b.first r) (λ i d lt. suits_after b.first r _ (k.0 i d lt)), failed_after b.first r k.1))
