-- The pieces of a broadcast.
use Rattle.std.specs.Prelude.{ℕ, zero, suc, ◌+◌, ◌++◌, [], ◌∷◌, List, false}
use Rattle.rayon_tasks.specs.Tasks.{OnePiece, TaskOf}
use Rattle.rayon_tasks.specs.Tickets.{TicketOf}

-- the piece that has this ticket, under this name
abbrev pub piece_with : {J : Type 0} → TicketOf → ℕ → TaskOf J
piece_with u name = record { work = OnePiece; injected = false; ticket = record u { number = name } }

-- the pieces of a broadcast to so many workers, by the workers' indices: each has this ticket, under names in a row of which
-- this is the first
abbrev pub pieces_for : {J : Type 0} → TicketOf → ℕ → ℕ → List (TaskOf J)
pieces_for u first zero = []
pieces_for u first (suc n) = pieces_for u first n ++ piece_with u (first + n) ∷ []
