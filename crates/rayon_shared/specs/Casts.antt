-- The pieces of a broadcast that waits for nothing, and the tasks that they are.
use Rattle.std.specs.Prelude.{◌≡◌, ℕ, zero, suc, ◌+◌, ◌++◌, [], ◌∷◌, List, false, true}
use Rattle.rayon_machine_places.specs.declared.act.Act.TheVariants.{SlotAll}
use Rattle.rayon_machine_places.specs.declared.act.Seen.TheVariants.{Opened}
use Rattle.rayon_machine_places.specs.declared.place.Count.{Count}
use Rattle.rayon_machine_places.specs.declared.place.Count.TheVariants.{OfCast, OfPool, OfScope}
use Rattle.rayon_machine_places.specs.declared.place.Entry.{Entry}
use Rattle.rayon_machine_places.specs.declared.place.Party.{Party}
use Rattle.rayon_machine_places.specs.declared.place.Pieces.{Pieces}
use Rattle.rayon_drive.specs.declared.trace.Log.{Log}
use Rattle.rayon_drive.specs.Traces.{Adds}
use Rattle.rayon_tasks.specs.Pieces.{pieces_for}
use Rattle.rayon_tasks.specs.Tasks.{OnePiece, TaskOf}
use Rattle.rayon_tasks.specs.Tickets.{IsBroadcastOf, TicketOf, unscoped}
use Rattle.rayon_shared.specs.Marks.{IsScope}

-- the pieces of a detached broadcast to so many workers, under names in a row of which this is the first
abbrev pub casting : ℕ → ℕ → Pieces
casting a n = record { count = OfPool 0; pool = 0; first = a; workers = n }

-- the tasks of these pieces, by the workers' indices, where this party makes the broadcast
abbrev pub cast_tasks : {X : Type 0} → Party → Pieces → List (TaskOf X)
cast_tasks q c = pieces_for (unscoped q c.first true) c.first c.workers

-- the pieces of a broadcast into a scope, to so many workers: the job of the entry is the first of them
abbrev pub cast_into : Entry → ℕ → Pieces
cast_into e n = record { count = OfScope e.call e.owner; pool = 0; first = e.job; workers = n }

-- the piece that has this ticket, under this name and with this number of the scope's book
abbrev pub numbered_piece : {X : Type 0} → TicketOf → ℕ → ℕ → TaskOf X
numbered_piece u n k = record { work = OnePiece; injected = false; ticket = record u { number = n; slot = k } }

-- the pieces of a broadcast into a scope, to so many workers, by the workers' indices: each has this ticket, under names in a
-- row of which the first number is the first, and with numbers of the book in a row of which the second is the first
abbrev pub numbered_pieces : {X : Type 0} → TicketOf → ℕ → ℕ → ℕ → List (TaskOf X)
numbered_pieces u a k zero = []
numbered_pieces u a k (suc n) = numbered_pieces u a k n ++ numbered_piece u (a + n) (k + n) ∷ []

-- the last of these acts opened numbers of a scope's book for these pieces, of which this is the first
abbrev pub JustNumbered : Pieces → ℕ → Log → Type 0
JustNumbered c k v = (w : Log) × Adds (SlotAll c) (Opened k) w v

-- these are the tasks of these pieces, where this party makes the broadcast after these acts: of one that waits each has the
-- call's ticket, and of one into a scope a ticket of the scope with its number of the scope's book
abbrev pub TasksBy : {X : Type 0} → Count → Party → Log → Pieces → List (TaskOf X) → Type 0
TasksBy (OfPool p) q v c ts = ts ≡ cast_tasks q c
TasksBy (OfCast n o) q v c ts = (u : TicketOf) × IsBroadcastOf q n c.workers u × (ts ≡ pieces_for u c.first c.workers)
TasksBy (OfScope n o) q v c ts = (u : TicketOf) × (k : ℕ) × IsScope u.scope n × JustNumbered c k v × (ts ≡ numbered_pieces u c.first k c.workers)

-- so they are, by the count of which these pieces have shares
abbrev pub AreTasksOf : {X : Type 0} → Party → Log → Pieces → List (TaskOf X) → Type 0
AreTasksOf q v c ts = TasksBy c.count q v c ts
