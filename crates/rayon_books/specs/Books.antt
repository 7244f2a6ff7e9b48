use Rattle.std.specs.Prelude.{◌≡◌, ℕ, ◌+◌, ◌-◌, ◌^◌, nat_lt, Bool, true, false, if◌then◌else◌, List, [], ◌++◌, length, take, replicate, slice_get, slice_set, All, Contains, Result, Err, Option, Some, None, is_ok, is_some, IsOk, IsErr, IfSome, IsSome}
use Rattle.rayon_machine_places.specs.declared.place.Ending.{Ending}
use Rattle.rayon_machine_places.specs.declared.place.Ending.TheVariants.{Fine, Fault}
use Rattle.rayon_words.specs.declared.refusal.Refusal.{Refusal}
use Rattle.rayon_words.specs.declared.refusal.Refusal.TheVariants.{NoRoom, Full}
use Rattle.rayon_jobs.specs.Within.{Run, Within}
use Rattle.rayon_books.specs.declared.slot.Slot.{Slot}
use Rattle.rayon_books.specs.declared.slot.Slot.TheVariants.{Open, Filled, Faulted}
use Rattle.rayon_books.specs.declared.slot.First.{First}
use Rattle.rayon_books.specs.declared.slot.First.TheVariants.{Body, Job}
use Rattle.rayon_books.specs.declared.slot.NoOutputs.{NoOutputs}

-- a scope's book: what it has at each job's number, and whose fault came first
pub record Book (D : Type 0) : Type 0 where
  pub slots : List (Slot D)
  pub first : Option (First D)

-- the book of a scope into which nothing was spawned
abbrev pub no_book : {D : Type 0} → Book D
no_book = record { slots = []; first = None }

-- the book with so many open slots more, which have the next numbers
abbrev pub opened : {D : Type 0} → Book D → ℕ → Book D
opened b n = record { slots = b.slots ++ replicate n Open; first = b.first }

-- the book without its last so many slots
abbrev pub without_last : {D : Type 0} → Book D → ℕ → Book D
without_last b n = record { slots = take (length b.slots - n) b.slots; first = b.first }

-- why a book of so many slots opens no more of so many: Full where a number would pass 2^64 - 1, else NoRoom
abbrev pub unopened : ℕ → ℕ → Refusal
unopened slots n = if nat_lt (2 ^ 64) (slots + n) then Full else NoRoom

-- whose fault came first: the one that did before, else this one
abbrev pub first_of : {D : Type 0} → Option (First D) → First D → First D
first_of None f = f
first_of (Some g) f = g

-- the book where the body's fault is kept, unless another came first
abbrev pub body_failed : {D : Type 0} → Book D → Book D
body_failed b = record { slots = b.slots; first = Some (first_of b.first Body) }

-- what a run leaves at its number: its output, or that it had a fault
abbrev pub slot_of : {T O F : Type 0} → Run T O F → Slot (Run T O F)
slot_of r = if is_ok r.answer then Filled r else Faulted

-- whose fault is the first once this run was stored
abbrev pub first_after : {T O F : Type 0} → Option (First (Run T O F)) → Run T O F → Option (First (Run T O F))
first_after f r = if is_ok r.answer then f else Some (first_of f (Job r))

-- the book with this run at this number
abbrev pub filled : {T O F : Type 0} → Book (Run T O F) → ℕ → Run T O F → Book (Run T O F)
filled b n r = record { slots = slice_set b.slots n (slot_of r); first = first_after b.first r }

-- whether a slot has an output
abbrev pub is_filled : {D : Type 0} → Slot D → Bool
is_filled Open = false
is_filled (Filled d) = true
is_filled Faulted = false

-- a number has no slot that is open
abbrev pub IsShut : {D : Type 0} → Option (Slot D) → Type 0
IsShut None = Unit {0}
IsShut (Some Open) = ⊥
IsShut (Some (Filled d)) = Unit {0}
IsShut (Some Faulted) = Unit {0}

-- the book where a run is stored at a number that has this, if it has a slot: only an open slot takes it
abbrev pub stored_at : {T O F : Type 0} → Option (Slot (Run T O F)) → Book (Run T O F) → ℕ → Run T O F → Book (Run T O F)
stored_at None b n r = b
stored_at (Some Open) b n r = filled b n r
stored_at (Some (Filled s)) b n r = b
stored_at (Some Faulted) b n r = b

-- the book where a run is stored at this number: no slot is filled twice, and none beyond the last
abbrev pub stored : {T O F : Type 0} → Book (Run T O F) → ℕ → Run T O F → Book (Run T O F)
stored b n r = stored_at (slice_get b.slots n) b n r

-- the run where neither its slot keeps it nor whose fault is the first: it has a fault, and another came before
abbrev pub later_of : {T O F : Type 0} → Option (First (Run T O F)) → Run T O F → Option (Run T O F)
later_of None r = None
later_of (Some g) r = if is_ok r.answer then None else Some r

-- what of a run the book does not keep that has this at the run's number, if it has a slot there
abbrev pub unkept_at : {T O F : Type 0} → Option (Slot (Run T O F)) → Book (Run T O F) → Run T O F → Option (Run T O F)
unkept_at None b r = Some r
unkept_at (Some Open) b r = later_of b.first r
unkept_at (Some (Filled s)) b r = Some r
unkept_at (Some Faulted) b r = Some r

-- what of a run the book does not keep at this number: a later fault, or one that no open slot takes
abbrev pub unkept : {T O F : Type 0} → Book (Run T O F) → ℕ → Run T O F → Option (Run T O F)
unkept b n r = unkept_at (slice_get b.slots n) b r

-- how a scope with this book ends: with a fault where one is kept
abbrev pub ending_by : {D : Type 0} → Book D → Ending
ending_by b = if is_some b.first then Fault else Fine

-- a slot has a run only where that has an output, and a fault only where some fault was the first
abbrev pub Suits : {T O F : Type 0} → Option (First (Run T O F)) → Slot (Run T O F) → Type 0
Suits f Open = Unit {0}
Suits f (Filled r) = IsOk r.answer
Suits f Faulted = IsSome f

-- a job that failed first has a fault
abbrev pub Failed : {T O F : Type 0} → First (Run T O F) → Type 0
Failed Body = Unit {0}
Failed (Job r) = IsErr r.answer

-- what is so of every book
abbrev pub Kept : {T O F : Type 0} → Book (Run T O F) → Type 0
Kept b = All (Suits b.first) b.slots × IfSome b.first Failed

-- why a book gives no outputs: the body's fault was the first; a job's was, which is this one; or no fault came, and a
-- slot is open
abbrev pub Lacks : {T O F : Type 0} → Book (Run T O F) → NoOutputs F → Type 0
Lacks b NoOutputs.Body = b.first ≡ Some Body
Lacks {T} {O} {F} b (NoOutputs.Fault f) = (r : Run T O F) × (b.first ≡ Some (Job r)) × (r.answer ≡ Err f)
Lacks b NoOutputs.Missing = (b.first ≡ None) × Contains b.slots Open
Lacks b NoOutputs.Foreign = ⊥

-- a job's fault that is given in place of outputs is one that the relations allow at some tag and place
abbrev pub Allowed : {T O F : Type 0} → (T → Result O F → Type 0) → (T → ℕ → ℕ → Result O F → Type 0) → NoOutputs F → Type 0
Allowed answers answers_on NoOutputs.Body = Unit {0}
Allowed {T} {O} {F} answers answers_on (NoOutputs.Fault f) = (r : Run T O F) × Within answers answers_on r × (r.answer ≡ Err f)
Allowed answers answers_on NoOutputs.Missing = Unit {0}
Allowed answers answers_on NoOutputs.Foreign = Unit {0}
