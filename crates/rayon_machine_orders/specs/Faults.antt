-- which fault a scope keeps, and which one a broadcast that waits
--
-- Broken by the wrong machines:
-- - what is taken: `book_forgets_a_fault` (ScopeTeeth), `store_comes_after_the_lower` (CountTeeth),
--   `broadcast_keeps_the_highest_fault` and `broadcast_forgets_a_fault` (GatherTeeth).
-- - what a step keeps: `book_keeps_the_last_fault` (ScopeTeeth).
use Rattle.std.specs.Prelude.{ℕ, ◌==◌, ◌≤◌, ◌<◌, if◌then◌else◌, Option, Some, None, List, ◌≡◌, ◌⊎◌, IfSome}
use Rattle.rayon_machine_places.specs.declared.place.Party.{Party}
use Rattle.rayon_machine_places.specs.declared.place.Ending.{Ending}
use Rattle.rayon_machine_places.specs.declared.place.Ending.TheVariants.{Fault}
use Rattle.rayon_machine_places.specs.declared.place.JobKind.TheVariants.{Scoped, BodyOf, PieceOf, WholeOf}
use Rattle.rayon_machine_places.specs.declared.place.JobKind.{JobKind}
use Rattle.rayon_machine_places.specs.declared.place.OpenCall.{OpenCall}
use Rattle.rayon_machine_places.specs.declared.place.Place.TheVariants.{TakeResult}
use Rattle.rayon_machine_places.specs.declared.act.Act.{Act}
use Rattle.rayon_machine_places.specs.declared.act.Act.TheVariants.{Take, StoreBody as PutBody, StoreSlot as PutSlot, StorePiece as PutPiece}
use Rattle.rayon_machine_places.specs.declared.act.Seen.TheVariants.{Found}
use Rattle.rayon_machine_runs.specs.declared.event.Event.{Event}
use Rattle.rayon_machine_runs.specs.declared.event.Event.TheVariants.{Go}
use Rattle.rayon_machine_places.specs.Places.{act_of}
use Rattle.rayon_machine_runs.specs.World.{Shape, World, counts_at, effect}
use Rattle.rayon_machine_runs.specs.Steps.{part_of, step}
use Rattle.rayon_machine_runs.specs.Runs.{IsRun, start}
use Rattle.rayon_machine_laws.specs.End.{CastTakes, HasEnded, ScopeTakes}

-- a scope that is to take: its book keeps no fault exactly where its body and each job of it ended without one, and the
-- act sees a fault exactly where the book keeps one
pub record TakesFault (w : World) (c : ℕ) : Type 0 where
  pub ending : Ending
  pub kept : ScopeTakes w c ending
  pub sees : (q : Party) (p i n : ℕ) → IfSome (effect (Take c) w.shape q (counts_at w p) (part_of w p i c n)) (λ r. r.0 ≡ Found ending)

-- a broadcast that is to take: it keeps no fault exactly where each piece of it ended without one, and else that of the
-- lowest piece that did; and the act sees a fault exactly where one is kept
pub record TakesLowest (w : World) (c : ℕ) : Type 0 where
  pub ending : Ending
  pub kept : CastTakes w c ending
  pub sees : (q : Party) (p i n : ℕ) → IfSome (effect (Take c) w.shape q (counts_at w p) (part_of w p i c n)) (λ r. r.0 ≡ Found ending)

-- where a scope is to take, its book keeps the fault that it should, and where a broadcast is to take, so does its call
pub record IsKept (w : World) : Type 0 where
  pub take : (q : Party) (o : OpenCall) (f : Option Ending) → (w.stack q).top ≡ TakeResult o f → (w.job o.job).kind ≡ BodyOf o.number q → TakesFault w o.number
  pub cast : (q : Party) (o : OpenCall) (f : Option Ending) → (w.stack q).top ≡ TakeResult o f → (w.job o.job).kind ≡ WholeOf o.number q → TakesLowest w o.number

-- the job whose ending an act stores for this call, and how it ended
abbrev pub stored_by : World → ℕ → Act → Option (ℕ × Ending)
stored_by w c (PutBody d e) = if c == d then Some ((w.call d).job, e) else None
stored_by w c (PutSlot d t e) = if c == d then Some (t, e) else None
stored_by w c (PutPiece d t e) = if c == d then Some (t, e) else None
stored_by w c a = None

-- the same of an event
abbrev pub stored_at : World → ℕ → Event → Option (ℕ × Ending)
stored_at w c (Go q) = stored_by w c (act_of q (w.stack q).top)
stored_at w c e = None

-- what a book keeps after a step that has stored this: what it kept, and else the fault that is stored
abbrev pub KeepsFirst : Option ℕ → Option (ℕ × Ending) → Option ℕ → Type 0
KeepsFirst (Some t) s after = after ≡ Some t
KeepsFirst None (Some (t, Fault)) after = after ≡ Some t
KeepsFirst None s after = after ≡ None

-- what a broadcast keeps after such a step: what it kept, or the fault that is stored where it kept none; and of both
-- the one of the lower piece
abbrev pub KeepsLowest : Option ℕ → Option (ℕ × Ending) → Option ℕ → Type 0
KeepsLowest (Some u) (Some (t, Fault)) after = ((t < u) × (after ≡ Some t)) ⊎ ((u ≤ t) × (after ≡ Some u))
KeepsLowest None (Some (t, Fault)) after = after ≡ Some t
KeepsLowest before s after = after ≡ before

-- what a call keeps that waits for a job of this kind: a broadcast the lowest fault, any other the first
abbrev pub KeepsBy : JobKind → Option ℕ → Option (ℕ × Ending) → Option ℕ → Type 0
KeepsBy (WholeOf d o) before s after = KeepsLowest before s after
KeepsBy k before s after = KeepsFirst before s after

-- a job is one of those whose endings are stored for this call, which waits for a job of this kind: a piece of the
-- broadcast, or else the scope's body or a job of it
abbrev pub IsStoredFor : World → ℕ → ℕ → JobKind → Type 0
IsStoredFor w c t (WholeOf d q) = (o : Party) × ((w.job t).kind ≡ PieceOf c o)
IsStoredFor w c t k = (t ≡ (w.call c).job) ⊎ ((o : Party) × ((w.job t).kind ≡ Scoped c o))

-- what is stored is how that job ended
pub record StoresOwn (w : World) (c t : ℕ) (e : Ending) : Type 0 where
  pub ended : HasEnded w t e
  pub inside : IsStoredFor w c t (w.job (w.call c).job).kind

-- a step, for what this call keeps
pub record KeepsFault (w v : World) (e : Event) (c : ℕ) : Type 0 where
  pub kept : KeepsBy (w.job (w.call c).job).kind (w.call c).fault (stored_at w c e) (v.call c).fault
  pub own : (t : ℕ) (d : Ending) → stored_at w c e ≡ Some (t, d) → StoresOwn w c t d

-- each step of each run: so a fault that a scope keeps stays, and it is the first that was stored; one that a broadcast
-- keeps gives way to that of a lower piece alone
abbrev pub FaultLaw : Type 0
FaultLaw = (shape : Shape) (before : List Event) (w v : World) (e : Event) (c : ℕ) → IsRun (start shape) before w → step w e ≡ Some v → KeepsFault w v e c
