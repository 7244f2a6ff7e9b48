-- What a party has at hand for an act: the ticket of its call, the result of a run, what a book gave.
use Rattle.std.specs.Prelude.{◌≡◌, ℕ, List, Bool, true, false, Option, None, Some, Result}
use Rattle.rayon_machine_places.specs.declared.place.Ending.{Ending}
use Rattle.rayon_machine_places.specs.declared.place.Latch.{Latch}
use Rattle.rayon_machine_places.specs.declared.place.Latch.TheVariants.{Terminate, OfCall}
use Rattle.rayon_machine_places.specs.declared.act.Seen.{Seen}
use Rattle.rayon_machine_places.specs.declared.act.Seen.TheVariants.{Yes, No, Found}
use Rattle.rayon_jobs.specs.Endings.{ending_of}
use Rattle.rayon_jobs.specs.Within.{Run}
use Rattle.rayon_books.specs.declared.slot.NoOutputs.{NoOutputs}
use Rattle.rayon_books.specs.Outcomes.{ending_in}
use Rattle.rayon_tasks.specs.Tickets.{TicketOf, call_in}

-- yes or no
abbrev pub answer : Bool → Seen
answer true = Yes
answer false = No

-- it was seen that it is so
abbrev pub is_yes : Seen → Bool
is_yes Yes = true
is_yes _ = false

-- the call of a latch, if it is a call's
abbrev pub call_latch : Latch → Option ℕ
call_latch Terminate = None
call_latch (OfCall c) = Some c

-- the ticket of the call of this number is in hand
abbrev pub HasTicket : Option TicketOf → Option ℕ → Type 0
HasTicket k None = Unit {0}
HasTicket None (Some n) = ⊥
HasTicket (Some u) (Some n) = call_in u ≡ n

module _ {G O F : Type 0} where
  -- a result of a run that ended so is in hand
  abbrev pub HasResult : Option (Run G O F) → Option Ending → Type 0
  HasResult k None = Unit {0}
  HasResult None (Some e) = ⊥
  HasResult (Some r) (Some e) = ending_of r.answer ≡ e

  -- what the book of a scope or of a broadcast gave is in hand, and it ended so
  abbrev pub Gathers : Seen → Option (Result (List (Run G O F)) (NoOutputs F)) → Type 0
  Gathers (Found e) (Some o) = ending_in o ≡ e
  Gathers _ _ = ⊥
