-- The book of a broadcast: what its pieces answered, by index, and the fault of the lowest index that has one.
use Rattle.std.specs.Prelude.{◌≡◌, ◌⊎◌, ℕ, nat_eq, nat_lt, Bool, true, false, if◌then◌else◌, List, [], ◌∷◌, ◌++◌, length, map, take, slice_get, slice_set, Option, None, Some, is_ok}
use Rattle.rayon_jobs.specs.Within.{Run}
use Rattle.rayon_books.specs.Books.{Book, is_filled, slot_of}
use Rattle.rayon_books.specs.declared.slot.Slot.{Slot}
use Rattle.rayon_books.specs.declared.slot.Slot.TheVariants.{Open, Filled, Faulted}
use Rattle.rayon_books.specs.declared.slot.First.{First}
use Rattle.rayon_books.specs.declared.slot.First.TheVariants.{Body, Job}

module _ {T O F : Type 0} where
  -- whether a run is of the piece of this index
  abbrev pub is_at : Run T O F → ℕ → Bool
  is_at r i = elim r.place [ None ↦ false | Some p ↦ nat_eq p.0 i ]

  -- whether a run is of a piece of a lower index than another's, or of a piece where the other is of none
  abbrev pub is_before : Run T O F → Run T O F → Bool
  is_before r s = elim r.place [ None ↦ false | Some p ↦ elim s.place [ None ↦ true | Some q ↦ nat_lt p.0 q.0 ] ]

  -- whose fault is kept once this piece had one
  abbrev pub lower_of : Option (First (Run T O F)) → Run T O F → First (Run T O F)
  lower_of None r = Job r
  lower_of (Some Body) r = Body
  lower_of (Some (Job s)) r = if is_before r s then Job r else Job s

  -- whose fault is kept once this piece's run was stored
  abbrev pub lowest_after : Option (First (Run T O F)) → Run T O F → Option (First (Run T O F))
  lowest_after f r = if is_ok r.answer then f else Some (lower_of f r)

  -- the run that is kept no more once this piece had a fault: the one of the higher index
  abbrev pub higher_of : Option (First (Run T O F)) → Run T O F → Option (Run T O F)
  higher_of None r = None
  higher_of (Some Body) r = Some r
  higher_of (Some (Job s)) r = if is_before r s then Some s else Some r

  -- the run that is kept no more once this piece's was stored
  abbrev pub dropped_by : Option (First (Run T O F)) → Run T O F → Option (Run T O F)
  dropped_by f r = if is_ok r.answer then None else higher_of f r

  -- the book where a piece's run is stored at an index that has this, if it has a slot: only an open slot takes it
  abbrev pub piece_stored_at : Option (Slot (Run T O F)) → Book (Run T O F) → ℕ → Run T O F → Book (Run T O F)
  piece_stored_at None b n r = b
  piece_stored_at (Some Open) b n r = record { slots = slice_set b.slots n (slot_of r); first = lowest_after b.first r }
  piece_stored_at (Some (Filled s)) b n r = b
  piece_stored_at (Some Faulted) b n r = b

  -- the book where a piece's run is stored at this index
  abbrev pub piece_stored : Book (Run T O F) → ℕ → Run T O F → Book (Run T O F)
  piece_stored b n r = piece_stored_at (slice_get b.slots n) b n r

  -- what comes back of a store at an index that has this
  abbrev pub piece_unkept_at : Option (Slot (Run T O F)) → Book (Run T O F) → Run T O F → Option (Run T O F)
  piece_unkept_at None b r = Some r
  piece_unkept_at (Some Open) b r = dropped_by b.first r
  piece_unkept_at (Some (Filled s)) b r = Some r
  piece_unkept_at (Some Faulted) b r = Some r

  -- what comes back of a store at this index
  abbrev pub piece_unkept : Book (Run T O F) → ℕ → Run T O F → Option (Run T O F)
  piece_unkept b n r = piece_unkept_at (slice_get b.slots n) b r

  -- these are the outputs of the first slots, as far as each has one
  abbrev pub AreOutputs : List (Slot (Run T O F)) → List (Run T O F) → Type 0
  AreOutputs slots v = (map Filled v ≡ take (length v) slots)
      × ((length v ≡ length slots) ⊎ ((s : Slot (Run T O F)) × (slice_get slots (length v) ≡ Some s) × (is_filled s ≡ false)))

  -- the run whose fault is kept, if it is of the piece of this index
  abbrev pub kept_at : Option (First (Run T O F)) → ℕ → List (Run T O F)
  kept_at None i = []
  kept_at (Some Body) i = []
  kept_at (Some (Job r)) i = if is_at r i then r ∷ [] else []

  -- the run whose fault is kept, if it is of the piece of this index, which is one of so many
  abbrev pub fault_at : Option (First (Run T O F)) → ℕ → ℕ → List (Run T O F)
  fault_at f i n = if nat_lt i n then kept_at f i else []

  -- these are the runs of a broadcast's pieces by index: the outputs as far as each slot has one, and then the fault of the
  -- piece that comes next, if that was kept
  abbrev pub AreRuns : Book (Run T O F) → List (Run T O F) → Type 0
  AreRuns b v = (w : List (Run T O F)) × AreOutputs b.slots w × (v ≡ w ++ fault_at b.first (length w) (length b.slots))
