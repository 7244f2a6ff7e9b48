-- What a party's steps at the latches that it sets and at the terminate count leave with its seats.
use Rattle.std.specs.Prelude.{◌≡◌, ◌⊎◌, ◌↔◌, ◌≤◌, ◌<◌, ℕ, ◌==◌, Bool, true, false, ◌||◌, IsTrue, Option, None, Some, is_some, List, length}
use Rattle.atomic_table.specs.Seated.{TableId}
use Rattle.atomic_table.specs.declared.shared.Seat.{Seat}
use Rattle.rayon_atomics.specs.declared.views.Guard.{Guard}
use Rattle.rayon_atomics.specs.declared.views.Teller.{Teller}
use Rattle.rayon_atomics.specs.Latches.{guard, guest, set_by}
use Rattle.rayon_atomics.specs.Tallies.{Moved, lowered_at, novice, teller}
use Rattle.rayon_machine_places.specs.declared.place.Count.{Count}
use Rattle.rayon_machine_places.specs.declared.place.Count.TheVariants.{OfCast, OfPool, OfScope}
use Rattle.rayon_machine_places.specs.declared.place.Latch.{Latch}
use Rattle.rayon_machine_places.specs.declared.place.Latch.TheVariants.{Terminate, OfCall}
use Rattle.rayon_queues.specs.Deques.{DequeId}
use Rattle.rayon_tasks.specs.Tickets.{CoreOf, TicketOf, broadcast_of, has_core}

-- the seat by which the party set a latch last, and its own seat of the terminate count
pub record Marks : Type 0 where
  pub set : Option Guard
  pub count : Teller

-- what the seat knows that a step made, if it made one
abbrev pub seat_in : Option (Seat (Unit {0}) Guard) → Option Guard
seat_in None = None
seat_in (Some s) = Some (guard s)

-- the seat by which a party stepped on the count of a scope or of a broadcast last, and which count that is
pub record Tally : Type 0 where
  pub table : TableId
  pub seat : Teller

-- what that seat knows, if there is one
abbrev pub tally_in : Option (Seat (Unit {0}) Teller) → Option Tally
tally_in None = None
tally_in (Some s) = Some (record { table = s.table_id; seat = teller s })

-- the latch is none: of a worker that the pool does not have, or of a job for which no worker's call waits
abbrev pub NoLatch : Latch → ℕ → List DequeId → Option TicketOf → Type 0
NoLatch Terminate i ds k = length ds ≤ i
NoLatch (OfCall c) i ds None = ⊥
NoLatch (OfCall c) i ds (Some u) = has_core u ≡ false

-- the one step that made this seat set the latch, and found its owner asleep or not; or there was no such latch
abbrev pub SetBy : Type 0 → Bool → Option Guard → Type 0
SetBy N b None = N × (b ≡ false)
SetBy N b (Some w) = (w ≡ set_by guest w.found) × (w.found ≤ 3) × (b ≡ (w.found == 2))

-- a unit is taken: an outermost call's in the pool's count, and no other in a word
abbrev pub TakesUnit : Bool → Teller → Teller → Type 0
TakesUnit true v w = Moved v w 1 0 × (0 < w.found)
TakesUnit false v w = w ≡ v

-- or it was refused
abbrev pub MissesUnit : Bool → Teller → Teller → Type 0
MissesUnit true v w = Moved v w 0 0
MissesUnit false v w = w ≡ v

-- a unit is given back, which was the pool's last or not
abbrev pub GivesUnit : Bool → Bool → Teller → Teller → Type 0
GivesUnit true b v w = Moved v w 0 (lowered_at 1 w.found) × (IsTrue b ↔ (w.found ≡ 1))
GivesUnit false b v w = (w ≡ v) × (b ≡ false)

-- no unit was taken, or one that was given back
abbrev pub KeepsUnits : Teller → Teller → Type 0
KeepsUnits v w = (w ≡ v) ⊎ (MissesUnit true v w ⊎ ((u : Teller) × (b : Bool) × TakesUnit true v u × GivesUnit true b u w))

-- so many units are taken in one step, in the pool's count
abbrev pub TakesUnits : ℕ → Teller → Teller → Type 0
TakesUnits n v w = Moved v w n 0 × (0 < w.found)

-- or they were refused
abbrev pub MissesUnits : Teller → Teller → Type 0
MissesUnits v w = Moved v w 0 0

-- so many units are given back in one step, which were the pool's last or not
abbrev pub GivesUnits : ℕ → Bool → Teller → Teller → Type 0
GivesUnits n b v w = Moved v w 0 (lowered_at n w.found) × (IsTrue b ↔ ((0 < n) × (w.found ≡ n)))

-- no units were taken, or as many as were given back
abbrev pub KeepsAll : ℕ → Teller → Teller → Type 0
KeepsAll n v w = (w ≡ v) ⊎ (MissesUnits v w ⊎ ((u : Teller) × (b : Bool) × TakesUnits n v u × GivesUnits n b u w))

-- a share of the count of the scope that this ticket is of is taken, by a seat that is made for it
abbrev pub TakesShare : Option CoreOf → Option Tally → Type 0
TakesShare (Some k) (Some t) = (t.table ≡ k.count.table) × TakesUnit true novice t.seat
TakesShare _ _ = ⊥

-- or it was refused
abbrev pub MissesShare : Option CoreOf → Option Tally → Type 0
MissesShare (Some k) (Some t) = (t.table ≡ k.count.table) × MissesUnit true novice t.seat
MissesShare _ _ = ⊥

-- a share of it is given back, by such a seat, which was the last or not
abbrev pub GivesShare : Option CoreOf → Bool → Option Tally → Type 0
GivesShare (Some k) b (Some t) = (t.table ≡ k.count.table) × GivesUnit true b novice t.seat
GivesShare _ b _ = ⊥

-- so many shares of it are taken in one step, by such a seat
abbrev pub TakesShares : ℕ → Option CoreOf → Option Tally → Type 0
TakesShares n (Some k) (Some t) = (t.table ≡ k.count.table) × TakesUnits n novice t.seat
TakesShares n _ _ = ⊥

-- so many are given back in one step, by such a seat, which were the last or not
abbrev pub GivesShares : ℕ → Option CoreOf → Bool → Option Tally → Type 0
GivesShares n (Some k) b (Some t) = (t.table ≡ k.count.table) × GivesUnits n b novice t.seat
GivesShares n _ b _ = ⊥

-- the scope that a ticket is of, if it is in hand and of one
abbrev pub scope_in : Option TicketOf → Option CoreOf
scope_in None = None
scope_in (Some u) = u.scope

-- the scope is the one of this call
abbrev pub IsScope : Option CoreOf → ℕ → Type 0
IsScope None c = ⊥
IsScope (Some k) c = k.call ≡ c

-- this is the scope's count
abbrev pub IsCountOf : Option CoreOf → Count → Type 0
IsCountOf k (OfScope c o) = IsScope k c
IsCountOf k (OfPool p) = ⊥
IsCountOf k (OfCast c o) = ⊥

-- a share of the count of the broadcast that this ticket is of is given back, by a seat that is made for it, which was the
-- last or not
abbrev pub GivesPart : Option CoreOf → Bool → Option Tally → Type 0
GivesPart (Some k) b (Some t) = (t.table ≡ k.count.table) × GivesUnit true b novice t.seat
GivesPart _ b _ = ⊥

-- the broadcast that a ticket is of, if it is in hand and of one that waits
abbrev pub broadcast_in : Option TicketOf → Option CoreOf
broadcast_in None = None
broadcast_in (Some u) = broadcast_of u

-- the broadcast is the one of this call
abbrev pub IsBroadcast : Option CoreOf → ℕ → Type 0
IsBroadcast None c = ⊥
IsBroadcast (Some k) c = k.call ≡ c

-- whether the result of the call of this ticket stands in a book: in a scope's, or in a broadcast's
abbrev pub has_book : Option TicketOf → Bool
has_book None = false
has_book (Some u) = is_some u.scope || is_some u.broadcast
