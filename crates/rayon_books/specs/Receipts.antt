use Rattle.std.specs.Prelude.{◌≡◌, ◌<◌, Bool, true, List, length, HoldsAt, All}
use Rattle.rayon_jobs.specs.Within.{Run}
use Rattle.rayon_books.specs.declared.receipt.Receipt.{Receipt}

-- outputs meet a receipt where there is one at its number, of that tag and at that place
abbrev pub IsMet : {T O F : Type 0} → (T → T → Bool) → List (Run T O F) → Receipt T → Type 0
IsMet same outputs r =
    (r.number < length outputs) × HoldsAt (λ d. (same d.tag r.tag ≡ true) × (d.place ≡ r.place)) outputs r.number

-- they meet each receipt
abbrev pub MetBy : {T O F : Type 0} → (T → T → Bool) → List (Run T O F) → List (Receipt T) → Type 0
MetBy same outputs receipts = All (IsMet same outputs) receipts
