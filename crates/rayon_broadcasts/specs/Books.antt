-- The book of a broadcast, and what it gives of the pieces, as contracts see them.
use Rattle.std.specs.Prelude.{◌≡◌, ◌⊎◌, ◌<◌, ◌≤◌, ℕ, Bool, true, List, length, map, slice_get, take, Result, Ok, Err, Option, Some, None}
use Rattle.rayon_jobs.specs.Within.{Run}
use Rattle.rayon_broadcasts.specs.declared.piece_outputs.NoAnswers.{NoAnswers}
use Rattle.rayon_broadcasts.specs.declared.piece_outputs.NoAnswers.TheVariants.{Missing, Foreign, Fault}

-- a run is of the piece of this index, of so many, of a broadcast with this tag
abbrev pub IsOf : {T O F : Type 0} → (T → T → Bool) → T → ℕ → ℕ → Run T O F → Type 0
IsOf same tag n i r = (same r.tag tag ≡ true) × (r.place ≡ Some (i, n))

-- how tags compare, what the piece of an index, of so many, may answer, the tag of a broadcast, and the number of pieces
module _ {T O F : Type 0} (same : T → T → Bool) (allows : ℕ → ℕ → Result O F → Type 0) (tag : T) (n : ℕ) where
  -- this is the run of the piece of this index, which answered this, as it may
  abbrev pub Answered : ℕ → Run T O F → Result O F → Type 0
  Answered i r answer = IsOf same tag n i r × (r.answer ≡ answer) × allows i n answer

  -- why this run gives no output of the piece of this index: it is of no such piece, or that piece answered a fault
  abbrev pub Bars : ℕ → Run T O F → NoAnswers F → Type 0
  Bars i r Missing = ⊥
  Bars i r Foreign = ¬ (IsOf same tag n i r)
  Bars i r (Fault f) = Answered i r (Err f)

  -- at this index of the runs is that of the piece of this index, which answered this
  abbrev pub AnswersAt : List (Run T O F) → ℕ → Result O F → Type 0
  AnswersAt runs i answer = (r : Run T O F) × (slice_get runs i ≡ Some r) × Answered i r answer

  -- these are the outputs by index: as many as there are workers and runs, each what the piece of its index answered
  abbrev pub AreOutputs : List (Run T O F) → List O → Type 0
  AreOutputs runs outputs =
      (length outputs ≡ length runs) × ((i : ℕ) (o : O) → slice_get outputs i ≡ Some o → AnswersAt runs i (Ok o))

  -- each piece below this index answered an output
  abbrev pub FineBelow : List (Run T O F) → ℕ → Type 0
  FineBelow runs k = (i : ℕ) → i < k → (o : O) × AnswersAt runs i (Ok o)

  -- why there are no outputs: the first run without one says so
  abbrev pub LacksAt : List (Run T O F) → NoAnswers F → Type 0
  LacksAt runs e =
      (k : ℕ) × (r : Run T O F) × FineBelow runs k × (slice_get runs k ≡ Some r) × Bars k r e

  -- or each has one, and there are fewer than workers; or there are more
  abbrev pub Lacks : List (Run T O F) → NoAnswers F → Type 0
  Lacks runs Missing = (n < length runs) ⊎ ((length runs < n) × FineBelow runs (length runs))
  Lacks runs Foreign = (length runs ≤ n) × LacksAt runs Foreign
  Lacks runs (Fault f) = (length runs ≤ n) × LacksAt runs (Fault f)

-- a fault that is given in place of so many outputs is one that the piece of some index may answer, and each piece below
-- may answer an output
abbrev pub IsAllowed : {O F : Type 0} → (ℕ → ℕ → Result O F → Type 0) → ℕ → NoAnswers F → Type 0
IsAllowed allows n Missing = Unit {0}
IsAllowed allows n Foreign = Unit {0}
IsAllowed {O} allows n (Fault f) = (k : ℕ) × (k < n) × allows k n (Err f) × ((i : ℕ) → i < k → (o : O) × allows i n (Ok o))
