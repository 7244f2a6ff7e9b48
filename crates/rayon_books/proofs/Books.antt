-- What is so of every book stays so when its slots change.
use Rattle.std.proofs.Common.{refl, ◌≡◌, true, false, is_ok, is_err, ℕ, ◌<◌, List, ◌++◌, length, map, get_or, set, replicate, All, Contains, IsOk, Result, Ok, Err, Option, Some, None, IfSome, sym, ◌∙◌, inl, inr, true≢false}
use Rattle.std.proofs.lemmas.Bool.{cases_Bool}
use Rattle.std.proofs.lemmas.List.Elements.{All-set, All-append, All-replicate}
use Rattle.std.proofs.lemmas.List.{length-map, get_or-map}
use Rattle.rayon_books.specs.Books.{Book, Suits, Failed, Kept, is_filled, slot_of, first_after}
use Rattle.rayon_jobs.specs.Within.{Run}
use Rattle.rayon_books.specs.declared.slot.Slot.{Slot}
use Rattle.rayon_books.specs.declared.slot.Slot.TheVariants.{Open, Filled, Faulted}
use Rattle.rayon_books.specs.declared.slot.First.{First}

-- an answer that is no output is a fault
pub is_err_of : {O F : Type 0} (a : Result O F) → is_ok a ≡ false → is_err a ≡ true
is_err_of (Ok o) e = cc
is_err_of (Err f) e = refl

-- a slot suits the book after a run is stored as it did before
suits_after : {T O F : Type 0} (f : Option (First (Run T O F))) (r : Run T O F) (s : Slot (Run T O F)) → Suits f s → Suits (first_after f r) s
suits_after f r Open h = tt
suits_after f r (Filled q) h = h
suits_after f r Faulted h = elim (cases_Bool (is_ok r.answer)) [ inl e ↦ rw e h | inr e ↦ rw e refl ]

-- so does what a run leaves
suits_put : {T O F : Type 0} (f : Option (First (Run T O F))) (r : Run T O F) → Suits (first_after f r) (slot_of r)
suits_put f r = elim (cases_Bool (is_ok r.answer)) [ inl e ↦ rw e e | inr e ↦ rw e refl ]

-- whose fault is the first has one
failed_after : {T O F : Type 0} (f : Option (First (Run T O F))) (r : Run T O F) → IfSome f Failed → IfSome (first_after f r) Failed
failed_after None r h =
    elim (cases_Bool (is_ok r.answer)) [ inl e ↦ rw e tt | inr e ↦ rw e (is_err_of r.answer e) ]
failed_after (Some g) r h = elim (cases_Bool (is_ok r.answer)) [ inl e ↦ rw e h | inr e ↦ rw e h ]

-- a book in which a run is stored
pub kept_put : {T O F : Type 0} (b : Book (Run T O F)) (n : ℕ) (r : Run T O F) (s : Slot (Run T O F)) (f : Option (First (Run T O F))) → s ≡ slot_of r → f ≡ first_after b.first r → Kept b → Kept (record { slots = set b.slots n s; first = f })
kept_put b n r s f es ef k =
    rw es
    (rw ef (All-set (Suits (first_after b.first r)) _ _ _ (suits_put b.first r) (λ i d lt. suits_after b.first r _ (k.0 i d lt)), failed_after b.first r k.1))

-- a book with more slots
pub kept_open : {T O F : Type 0} (b : Book (Run T O F)) (n : ℕ) (slots : _) → slots ≡ b.slots ++ replicate n Open → Kept b → Kept (record { slots = slots; first = b.first })
kept_open b n slots e k =
    rw e (All-append (Suits b.first) _ _ k.0 (All-replicate (Suits b.first) n Open tt), k.1)

-- the outputs of a book are no faults
pub fine_outputs : {T O F : Type 0} (b : Book (Run T O F)) (v : List (Run T O F)) → map Filled v ≡ b.slots → Kept b → All (λ d. IsOk d.answer) v
fine_outputs b v e k i d lt =
    let within : i < length b.slots = rw (sym e) (rw length-map lt) in
    let at : get_or b.slots i (Filled d) ≡ Filled (get_or v i d) = rw (sym e) (get_or-map Filled v i d (Filled d) lt) in
    let suits : Suits b.first (get_or b.slots i (Filled d)) = k.0 i (Filled d) within in
    rw at at suits

-- a slot that is not filled is open where there was no fault
pub is_open : {T O F : Type 0} (b : Book (Run T O F)) (s : Slot (Run T O F)) → Contains b.slots s → is_filled s ≡ false → b.first ≡ None → Kept b → Contains b.slots Open
is_open b Open h e n k = h
is_open b (Filled d) h e n k = absurd (true≢false e)
is_open b Faulted h e n k =
    let suits : Suits b.first (get_or b.slots h.0 Faulted) = k.0 h.0 Faulted h.1 in
    let has : Suits b.first Faulted = rw h.2 at suits in
    absurd (true≢false (sym has ∙ rw n refl))
