-- how the acts on the book of a scope find it
--
-- The book of a broadcast that waits is left out where each number is some job's. Broken by the wrong machines:
-- - of ScopeTeeth: `scope_takes_early`, `opener_leaves_the_book`, `refused_slot_goes_on`.
-- - of CountTeeth: `spawn_finds_zero`, `store_comes_after_the_lower`, `taken_number_is_missing`, `number_is_nobodys`.
-- - of PieceTeeth: `undo_takes_one_number`.
use Rattle.std.specs.Prelude.{ℕ, true, ◌+◌, ◌-◌, ◌≤◌, Option, Some, None, ◌≡◌, ◌⊎◌}
use Rattle.rayon_machine_places.specs.declared.place.Party.{Party}
use Rattle.rayon_machine_places.specs.declared.place.Ending.{Ending}
use Rattle.rayon_machine_places.specs.declared.place.JobKind.TheVariants.{Scoped, BodyOf, WholeOf}
use Rattle.rayon_machine_places.specs.declared.place.Count.{Count}
use Rattle.rayon_machine_places.specs.declared.place.Count.TheVariants.{OfPool, OfScope, OfCast}
use Rattle.rayon_machine_places.specs.declared.place.Pieces.{Pieces}
use Rattle.rayon_machine_places.specs.declared.place.Plan.{Plan}
use Rattle.rayon_machine_places.specs.declared.place.OpenCall.{OpenCall}
use Rattle.rayon_machine_places.specs.declared.place.Place.TheVariants.{RaiseCount, CloseSlot, StoreSlot, TakeResult, RaiseForAll, CloseForAll}
use Rattle.rayon_machine_runs.specs.declared.state.Slot.{Slot}
use Rattle.rayon_machine_runs.specs.declared.state.Slot.TheVariants.{Closed, Open as IsOpen, Filled}
use Rattle.rayon_machine_places.specs.Places.{plan_job, plan_count}
use Rattle.rayon_machine_runs.specs.Steps.{is_piece}
use Rattle.rayon_machine_runs.specs.World.{World}

-- the number that a job has of its scope's book
abbrev pub slot_number : Slot → Option ℕ
slot_number Closed = None
slot_number (IsOpen n) = Some n
slot_number (Filled n) = Some n

-- a party holds the book of the scope that it spawns this job into, and the job has the last number, which is open
pub record Written (w : World) (q : Party) (c t : ℕ) : Type 0 where
  pub writer : (w.call c).writer ≡ Some q
  pub number : ℕ
  pub slot : (w.job t).slot ≡ IsOpen number
  pub last : number + 1 ≡ (w.call c).slots

-- a party holds the book of the scope that it broadcasts into, and the pieces have the last numbers, in the order of
-- their workers, which are open
pub record WrittenAll (w : World) (q : Party) (c : ℕ) (b : Pieces) : Type 0 where
  pub writer : (w.call c).writer ≡ Some q
  pub number : ℕ
  pub slots : (t : ℕ) → is_piece b t ≡ true → (w.job t).slot ≡ IsOpen (number + (t - b.first))
  pub last : number + b.workers ≡ (w.call c).slots

-- who takes numbers back does so in a scope, and holds its book
abbrev pub Undoes : World → Party → Count → ℕ → Type 0
Undoes w q (OfScope c o) t = Written w q c t
Undoes w q (OfPool p) t = ⊥
Undoes w q (OfCast c o) t = ⊥

-- and so does who takes back those of all pieces
abbrev pub UndoesAll : World → Party → Count → Pieces → Type 0
UndoesAll w q (OfScope c o) b = WrittenAll w q c b
UndoesAll w q (OfPool p) b = ⊥
UndoesAll w q (OfCast c o) b = ⊥

-- a job has a number of the book of this scope, which is open
pub record InBook (w : World) (c t : ℕ) : Type 0 where
  pub number : ℕ
  pub slot : (w.job t).slot ≡ IsOpen number
  pub within : number + 1 ≤ (w.call c).slots

-- a job of this scope has this number of its book
pub record InUse (w : World) (c n : ℕ) : Type 0 where
  pub job : ℕ
  pub owner : Party
  pub made : job + 1 ≤ w.jobs
  pub kind : (w.job job).kind ≡ Scoped c owner
  pub slot : slot_number (w.job job).slot ≡ Some n

-- a call is a broadcast that waits
pub record IsCast (w : World) (c : ℕ) : Type 0 where
  pub job : ℕ
  pub owner : Party
  pub made : job + 1 ≤ w.jobs
  pub kind : (w.job job).kind ≡ WholeOf c owner

-- a scope that is about to take: its count is 0, nobody holds its book, and no job of it has a number that is open
pub record BookDone (w : World) (c : ℕ) : Type 0 where
  pub count : (w.call c).count ≡ 0
  pub writer : (w.call c).writer ≡ None
  pub filled : (t n : ℕ) (o : Party) → (w.job t).kind ≡ Scoped c o → (w.job t).slot ≡ IsOpen n → ⊥

-- each number of a scope's book is that of one job, and of one job alone. Who is to raise a scope's count for a job, or
-- for pieces, finds that it is not 0; who is to take numbers back holds the book, and they are the last; who stores how
-- a job ended finds the job's number open; and a scope that is to take from its cell finds its book done
pub record IsBooked (w : World) : Type 0 where
  pub each : (c n : ℕ) → n + 1 ≤ (w.call c).slots → InUse w c n ⊎ IsCast w c
  pub apart : (t s c n : ℕ) (o p : Party) → (w.job t).kind ≡ Scoped c o → (w.job s).kind ≡ Scoped c p → slot_number (w.job t).slot ≡ Some n → slot_number (w.job s).slot ≡ Some n → t ≡ s
  pub raise : (q : Party) (n : Plan) (c : ℕ) (o : Party) → (w.stack q).top ≡ RaiseCount n → plan_count n ≡ OfScope c o → (w.call c).count ≡ 0 → ⊥
  pub raise_all : (q : Party) (b : Pieces) (c : ℕ) (o : Party) → (w.stack q).top ≡ RaiseForAll b → b.count ≡ OfScope c o → (w.call c).count ≡ 0 → ⊥
  pub undo : (q : Party) (n : Plan) → (w.stack q).top ≡ CloseSlot n → Undoes w q (plan_count n) (plan_job n)
  pub undo_all : (q : Party) (b : Pieces) → (w.stack q).top ≡ CloseForAll b → UndoesAll w q b.count b
  pub store : (q : Party) (c : ℕ) (o : Party) (t : ℕ) (d : Ending) → (w.stack q).top ≡ StoreSlot c o t d → InBook w c t
  pub take : (q : Party) (o : OpenCall) (f : Option Ending) → (w.stack q).top ≡ TakeResult o f → (w.job o.job).kind ≡ BodyOf o.number q → BookDone w o.number
