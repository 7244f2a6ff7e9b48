-- What an outside caller has for the time of one call, and what each act of the call does to it.
use Rattle.std.specs.Prelude.{◌≡◌, ℕ, ◌≤◌, ◌<◌, ◌+◌, ◌^◌, ◌++◌, [], ◌∷◌, List, length, Bool, true, false, if◌then◌else◌, is_some, Option, None, Some, Result}
use Rattle.rayon_machine_places.specs.declared.place.Count.{Count}
use Rattle.rayon_machine_places.specs.declared.place.Count.TheVariants.{OfCast, OfPool, OfScope}
use Rattle.rayon_machine_places.specs.declared.place.Party.{Party}
use Rattle.rayon_machine_places.specs.declared.place.Party.TheVariants.{Caller}
use Rattle.rayon_machine_places.specs.declared.place.OpenCall.{OpenCall}
use Rattle.rayon_machine_places.specs.declared.place.Pieces.{Pieces}
use Rattle.rayon_machine_places.specs.declared.place.Plan.{Plan}
use Rattle.rayon_machine_places.specs.declared.place.Plan.TheVariants.{Send, Open as Opening}
use Rattle.rayon_machine_places.specs.declared.place.Latch.{Latch}
use Rattle.rayon_machine_places.specs.declared.place.Latch.TheVariants.{Terminate, OfCall}
use Rattle.rayon_machine_places.specs.declared.shape.PoolShape.{PoolShape}
use Rattle.rayon_machine_places.specs.declared.act.Act.{Act}
use Rattle.rayon_machine_places.specs.declared.act.Act.TheVariants as acts
use Rattle.rayon_machine_places.specs.declared.act.Seen.{Seen}
use Rattle.rayon_machine_places.specs.declared.act.Seen.TheVariants.{Done, Refused, Missing, Found, Yes, No, Opened}
use Rattle.rayon_drive.specs.declared.trace.Log.{Log}
use Rattle.atomic_table.specs.Seated.{TableId}
use Rattle.rayon_queues.specs.Deques.{Visitor, visitor}
use Rattle.atomic_table.specs.declared.shared.Seat.{Seat}
use Rattle.rayon_atomics.specs.declared.views.Teller.{Teller}
use Rattle.rayon_atomics.specs.declared.views.Watch.{Watch}
use Rattle.rayon_atomics.specs.Counted.{fresh, watch}
use Rattle.rayon_tasks.specs.Tasks.{TaskOf, WorkOf, NoJob, OneJob, OnePiece, TwoSides}
use Rattle.rayon_tasks.specs.Tickets.{CoreOf, IsBroadcastOf, IsScopeOf, TicketOf, call_in, has_core, has_lock, unscoped}
use Rattle.rayon_jobs.specs.Within.{Run}
use Rattle.rayon_books.specs.Books.{Book}
use Rattle.rayon_books.specs.declared.slot.NoOutputs.{NoOutputs}
use Rattle.rayon_books.specs.declared.slot.Slot.{Slot}
use Rattle.rayon_books.specs.declared.slot.Slot.TheVariants.{Open}
use Rattle.rayon_guests.specs.declared.load.Load.{Load}
use Rattle.rayon_guests.specs.declared.load.Load.TheVariants.{Cast, Job, Sides, Detached, Scoped}
use Rattle.rayon_shared.specs.AtHand.{Gathers, HasResult, HasTicket, is_yes}
use Rattle.rayon_shared.specs.Marks.{GivesShare, GivesShares, GivesUnit, GivesUnits, IsScope, Marks, MissesShare, MissesUnit, MissesUnits, SetBy, TakesShare, TakesShares, TakesUnit, TakesUnits, Tally, has_book, scope_in}
use Rattle.rayon_shared.specs.Seats.{Steps, Tells}

-- what an outside caller has: which terminate count the pool has; the pool's shape; its pass of the injector; what its call
-- queues, until it is queued; the ticket of its call, or of the scope that it spawns into, where two sides are sent that of
-- the first one's cell, and of a scope the share that its body is lent; the number that it opened last in a scope's book,
-- and that book, while it holds it; the results that were found in the cells of the two, and of a scope or a broadcast that
-- has ended what its book gave; whether it holds a unit of the terminate count; its seat of that count, and the one by which
-- it set a latch last; the seat by which it stepped on a scope's count last; the seat of the counters by which it told news
-- last; and what it did
pub record Visit (X G O F H : Type 0) : Type 0 where
  pub count : TableId
  pub shape : PoolShape
  pub inlet : Visitor (TaskOf X)
  pub load : Option (Load X G O F H)
  pub call : Option TicketOf
  pub first : Option TicketOf
  pub lent : Option TicketOf
  pub slot : ℕ
  pub book : Option (Book (Run G O F))
  pub done : Option (Run G O F)
  pub first_done : Option (Run G O F)
  pub outcome : Option (Result (List (Run G O F)) (NoOutputs F))
  pub holds : Bool
  pub marks : Marks
  pub tally : Option Tally
  pub chair : Option Watch
  pub trace : Log

-- what it keeps of a call that holds a unit of the terminate count, while it performs nothing: which count that is; the
-- call's ticket; its seat of that count; and what it did
pub record Pause : Type 0 where
  pub count : TableId
  pub call : Option TicketOf
  pub seat : Teller
  pub trace : Log

-- what of it the places ask, with how many workers the pool has
pub record Hand (X G O F H : Type 0) : Type 0 where
  pub workers : ℕ
  pub inlet : Visitor (TaskOf X)
  pub load : Option (Load X G O F H)
  pub call : Option TicketOf
  pub first : Option TicketOf
  pub lent : Option TicketOf
  pub slot : ℕ
  pub held : Bool
  pub holds : Bool

-- the ticket of an outside caller's call of this name
abbrev pub ticket_of : ℕ → TicketOf
ticket_of n = unscoped (Caller 0) n false

-- the ticket of a detached job of this name that an outside caller spawned
abbrev pub detached_ticket : ℕ → TicketOf
detached_ticket n = unscoped (Caller 0) n true

-- the call that sends the work of this name to the one pool that there is
abbrev pub call_of : ℕ → OpenCall
call_of n = record { number = n; pool = 0; job = n }

-- the plan of such a call
abbrev pub plan_of : ℕ → Plan
plan_of n = Send (call_of n)

-- the call that opens a scope under this name
abbrev pub opening : ℕ → Plan
opening n = Opening (call_of n)

-- the ticket of this call of an outside caller is in hand, who blocks on its latch
abbrev pub HasCall : ℕ → Option TicketOf → Type 0
HasCall c None = ⊥
HasCall c (Some u) = (call_in u ≡ c) × (has_lock u ≡ true) × (u.owner ≡ Caller 0)

-- the ticket of a call of this party is in hand
abbrev pub OwnedBy : Party → Option TicketOf → Type 0
OwnedBy q None = ⊥
OwnedBy q (Some u) = u.owner ≡ q

-- the ticket is that of a scope of this call, an outside caller's, into which nothing was spawned
abbrev pub IsNewScope : ℕ → Option TicketOf → Type 0
IsNewScope c None = ⊥
IsNewScope c (Some u) = IsScopeOf (Caller 0) c u

-- the ticket is that of a new broadcast of this call, an outside caller's, to so many workers. None of its pieces has ended
abbrev pub IsNewCast : ℕ → ℕ → Option TicketOf → Type 0
IsNewCast w c None = ⊥
IsNewCast w c (Some u) = IsBroadcastOf (Caller 0) c w u

-- the ticket is that of a new broadcast to the workers of these pieces, under the count that the pieces have shares of
abbrev pub CastsTo : Pieces → Option TicketOf → Type 0
CastsTo c k = (n : ℕ) × (c.count ≡ OfCast n (Caller 0)) × IsNewCast c.workers n k

-- the book of this scope is held, where the load has a number of one
abbrev pub HasBook : Option ℕ → Option TicketOf → Bool → Type 0
HasBook None k b = Unit {0}
HasBook (Some c) k b = IsScope (scope_in k) c × (b ≡ true)

-- the ticket of the call of this latch is in hand
abbrev pub HasLatch : Latch → Option TicketOf → Type 0
HasLatch Terminate k = Unit {0}
HasLatch (OfCall c) k = HasTicket k (Some c)

-- the count is that of the one pool that there is, or of the scope whose ticket is in hand
abbrev pub HasCount : Count → Option TicketOf → Type 0
HasCount (OfPool p) k = p ≡ 0
HasCount (OfScope c o) k = IsScope (scope_in k) c
HasCount _ k = ⊥

-- the latch is none: of a worker that a pool of so many does not have, or of a call for which no worker waits
abbrev pub NoneSuch : Latch → ℕ → ℕ → Option TicketOf → Type 0
NoneSuch Terminate i n k = n ≤ i
NoneSuch (OfCall c) i n None = ⊥
NoneSuch (OfCall c) i n (Some u) = has_core u ≡ false

-- this where the act was done, else that
abbrev pub if_done : {A : Type 0} → Seen → A → A → A
if_done Done new old = new
if_done _ new old = old

-- it was done, or refused
abbrev pub IsTried : Seen → Type 0
IsTried Done = Unit {0}
IsTried Refused = Unit {0}
IsTried _ = ⊥

-- yes or no
abbrev pub IsAnswer : Seen → Type 0
IsAnswer Yes = Unit {0}
IsAnswer No = Unit {0}
IsAnswer _ = ⊥

-- numbers of a scope's book were opened, or refused
abbrev pub IsOpening : Seen → Type 0
IsOpening (Opened n) = Unit {0}
IsOpening Refused = Unit {0}
IsOpening _ = ⊥

-- what an act of a caller can see. What News and Take see is said with what they find
abbrev pub Sees : Act → Seen → Type 0
Sees (acts.Raise c n) x = IsTried x
Sees (acts.Grow c) x = IsTried x
Sees (acts.PushInj p n b) x = IsTried x
Sees (acts.LookInj p) x = IsAnswer x
Sees (acts.Wake p i) x = IsAnswer x
Sees (acts.Lower c b) x = IsAnswer x
Sees (acts.Set l p i) x = IsAnswer x
Sees (acts.Lock p i) x = x ≡ Done
Sees (acts.Unlock p i) x = x ≡ Done
Sees (acts.LockWait c) x = x ≡ Done
Sees (acts.Slot c n) x = IsTried x
Sees (acts.SlotUndo c n) x = x ≡ Done
Sees (acts.StoreBody c e) x = x ≡ Done
Sees (acts.LockSet c) x = x ≡ Done
Sees (acts.RaiseAll c) x = IsTried x
Sees (acts.PushCast c) x = IsTried x
Sees (acts.LowerAll c) x = IsAnswer x
Sees (acts.SlotAll c) x = IsOpening x
Sees (acts.SlotUndoAll c) x = x ≡ Done
Sees _ x = Unit {0}

-- what the seat knows by which news was told, if there is one
abbrev pub watch_in : Option (Seat (Unit {0}) Watch) → Option Watch
watch_in None = None
watch_in (Some s) = Some (watch s)

-- the news is told by a seat that is made for it and holds no unit
abbrev pub TellsBy : Bool → Seen → Option Watch → Type 0
TellsBy e x None = ⊥
TellsBy e x (Some w) = Steps (Tells e x) (Some (fresh w.workers 0)) (Some w)

-- a unit is taken where none was held, or was refused
abbrev pub Raises : Seen → Bool → Teller → Teller → Type 0
Raises Done b v w = TakesUnit true v w × (b ≡ false)
Raises _ b v w = MissesUnit true v w

-- the unit that was held is given back, which was the pool's last or not
abbrev pub Lowers : Seen → Bool → Teller → Teller → Type 0
Lowers Yes b v w = GivesUnit true true v w × (b ≡ true)
Lowers _ b v w = GivesUnit true false v w × (b ≡ true)

-- so many units are taken in one step of a pool's count, or were refused. A scope's count has a seat of its own, and no caller
-- takes so many shares of another count
abbrev pub RaisesAll : Count → ℕ → Seen → Teller → Teller → Type 0
RaisesAll (OfPool p) n Done v w = TakesUnits n v w
RaisesAll (OfPool p) n _ v w = MissesUnits v w
RaisesAll (OfScope c o) n x v w = w ≡ v
RaisesAll _ n x v w = ⊥

-- so many are given back in one step, which were the pool's last or not
abbrev pub LowersAll : Count → ℕ → Bool → Teller → Teller → Type 0
LowersAll (OfPool p) n b v w = GivesUnits n b v w
LowersAll (OfScope c o) n b v w = w ≡ v
LowersAll _ n b v w = ⊥

-- so many shares of this scope's count are taken in one step, by a seat that is made for it, or were refused. A step of another
-- count leaves the seat of such a step as it was
abbrev pub SharesAll : Count → ℕ → Seen → Option CoreOf → Option Tally → Option Tally → Type 0
SharesAll (OfScope c o) n Done k v w = TakesShares n k w
SharesAll (OfScope c o) n _ k v w = MissesShare k w
SharesAll _ n x k v w = w ≡ v

-- so many are given back in one step, by such a seat, which were the last or not
abbrev pub SharesNone : Count → ℕ → Bool → Option CoreOf → Option Tally → Option Tally → Type 0
SharesNone (OfScope c o) n b k v w = GivesShares n k b w
SharesNone _ n b k v w = w ≡ v

module _ {G O F : Type 0} where
  -- a result of the first side is found only where two sides were sent
  abbrev pub FirstFound : Option TicketOf → Option (Run G O F) → Type 0
  FirstFound None (Some r) = ⊥
  FirstFound t r = Unit {0}

  -- what the call's cell gave is found, and it ended so; or the cell was empty. The first side's cell is looked into too
  abbrev pub Takes : Seen → Option TicketOf → Option (Run G O F) → Option (Run G O F) → Type 0
  Takes (Found e) f d r = HasResult d (Some e) × FirstFound f r
  Takes Missing f d r = (d ≡ None) × FirstFound f r
  Takes _ f d r = ⊥

  -- a call with a book finds what that gave, and nothing in a cell. Any other call finds what its cells gave
  abbrev pub TakesOf : Bool → Seen → Option TicketOf → Option (Result (List (Run G O F)) (NoOutputs F)) → Option (Run G O F) → Option (Run G O F) → Option (Result (List (Run G O F)) (NoOutputs F)) → Type 0
  TakesOf false x f old d r o = Takes x f d r × (o ≡ old)
  TakesOf true x f old d r o = (d ≡ None) × (r ≡ None) × Gathers x o

  -- the book has one open slot more, at its end, and this is its number
  abbrev pub Opens : Option (Book (Run G O F)) → ℕ → Type 0
  Opens None n = ⊥
  Opens (Some b) n = (list : List (Slot (Run G O F))) × (b.slots ≡ list ++ Open ∷ []) × (n ≡ length list)

module _ {X : Type 0} where
  -- the pass with this task more at the end of what it pushed
  abbrev pub with_pushed : Visitor (TaskOf X) → TaskOf X → Visitor (TaskOf X)
  with_pushed v x = visitor v.injector (v.pushed ++ x ∷ []) v.taken

  -- there is what a load brings to run: neither a piece of a broadcast nor nothing
  abbrev pub HasLoad : WorkOf X → Type 0
  HasLoad (OneJob j) = Unit {0}
  HasLoad (TwoSides a b k) = Unit {0}
  HasLoad OnePiece = ⊥
  HasLoad NoJob = ⊥

  -- the task of a job of this name that was spawned by an outside caller into the scope that this ticket is of, and has this
  -- number in the scope's book
  abbrev pub scoped_task : X → TicketOf → ℕ → ℕ → TaskOf X
  scoped_task j u n m = record { work = OneJob j; injected = true; ticket = record u { number = n; slot = m } }

module _ {X G O F H : Type 0} where
  -- the task of a load in the call of this name, which has this number in the book of its scope, if it is of one. Of a broadcast
  -- a piece stands for it
  abbrev pub task_in : ℕ → ℕ → Load X G O F H → TaskOf X
  task_in n m (Job j) = record { work = OneJob j; injected = true; ticket = ticket_of n }
  task_in n m (Sides a b) = record { work = TwoSides a b (ticket_of n); injected = true; ticket = ticket_of n }
  task_in n m (Detached j k) = record { work = OneJob j; injected = true; ticket = k }
  task_in n m (Scoped j k) = record { work = OneJob j; injected = true; ticket = record k { slot = m } }
  task_in n m (Cast j) = record { work = OnePiece; injected = false; ticket = ticket_of n }

  -- the load of a task with one job and this ticket: a scope's has no number until it is queued
  abbrev pub load_with : X → TicketOf → Load X G O F H
  load_with j k = if is_some k.scope then Scoped j (record k { slot = 0 }) else (if k.detached then Detached j k else Job j)

  -- the load of a task
  abbrev pub IsLoadOf : TaskOf X → Load X G O F H → Type 0
  IsLoadOf t l = elim t.work [ OneJob j ↦ l ≡ load_with j t.ticket | TwoSides a b k ↦ l ≡ Sides a b | OnePiece ↦ ⊥ | NoJob ↦ ⊥ ]

  -- the pass once the load was pushed, if there was one. The pieces of a broadcast go to the workers' lists
  abbrev pub sent : ℕ → ℕ → Option (Load X G O F H) → Visitor (TaskOf X) → Visitor (TaskOf X)
  sent n m None v = v
  sent n m (Some (Cast j)) v = v
  sent n m (Some w) v = with_pushed v (task_in n m w)

  -- the ticket to whose cell the first side's result goes, where there are two
  abbrev pub first_of : ℕ → Option (Load X G O F H) → Option TicketOf
  first_of n (Some (Sides a b)) = Some (ticket_of n)
  first_of n _ = None

  -- whether the caller still holds a unit once the load was pushed: that of a detached job goes with the job
  abbrev pub unit_after : Option (Load X G O F H) → Bool → Bool
  unit_after (Some (Detached j k)) b = false
  unit_after _ b = b

  -- the load and the tickets of its results are in hand
  abbrev pub Packed : ℕ → Option (Load X G O F H) → Option TicketOf → Option TicketOf → Type 0
  Packed n None k f = ⊥
  Packed n (Some (Job j)) k f = k ≡ Some (ticket_of n)
  Packed n (Some (Sides a b)) k f = (k ≡ Some (ticket_of n)) × (f ≡ Some (ticket_of n))
  Packed n (Some (Detached j t)) k f = (t.detached ≡ true) × (t.scope ≡ None)
  Packed n (Some (Scoped j t)) k f = (is_some t.scope ≡ true) × (t.slot ≡ 0)
  Packed n (Some (Cast j)) k f = ⊥

  -- the load is the job of a broadcast that waits
  abbrev pub IsCast : Option (Load X G O F H) → Type 0
  IsCast (Some (Cast j)) = Unit {0}
  IsCast _ = ⊥

  -- the load is no job of a broadcast that waits
  abbrev pub IsNoCast : Load X G O F H → Type 0
  IsNoCast (Cast j) = ⊥
  IsNoCast _ = Unit {0}

  abbrev pub hand : Visit X G O F H → Hand X G O F H
  hand s = record { workers = s.shape.workers; inlet = s.inlet; load = s.load; call = s.call; first = s.first; lent = s.lent; slot = s.slot; held = is_some s.book; holds = s.holds }

  -- what an act asks. The acts that stand under ⊥ are no caller's
  abbrev pub Needs : Act → Hand X G O F H → Type 0
  Needs (acts.Raise (OfPool p) n) s = (p ≡ 0) × (s.holds ≡ false)
  Needs (acts.Raise (OfScope c o) n) s = IsScope (scope_in s.call) c
  Needs (acts.Grow c) s = Unit {0}
  Needs (acts.Slot c n) s = IsScope (scope_in s.call) c
  Needs (acts.SlotUndo c n) s = IsScope (scope_in s.call) c × (s.held ≡ true)
  Needs (acts.LookInj p) s = p ≡ 0
  Needs (acts.PushInj p n b) s = (p ≡ 0) × HasBook b s.call s.held × Packed n s.load s.call s.first
  Needs (acts.PushCast c) s = IsCast s.load × (c.first + c.workers < 2 ^ 64) × CastsTo c s.call
  Needs (acts.News p e) s = p ≡ 0
  Needs (acts.Lock p i) s = p ≡ 0
  Needs (acts.Wake p i) s = p ≡ 0
  Needs (acts.Unlock p i) s = p ≡ 0
  Needs (acts.StoreBody c e) s = IsScope (scope_in s.call) c
  Needs (acts.LockWait c) s = HasCall c s.call
  Needs (acts.Take c) s = HasCall c s.call
  Needs (acts.Lower (OfPool p) b) s = (p ≡ 0) × (s.holds ≡ true)
  Needs (acts.Lower (OfScope c o) b) s = IsScope (scope_in s.call) c
  Needs (acts.LowerAll c) s = HasCount c.count s.call
  Needs (acts.Set l p i) s = (p ≡ 0) × HasLatch l s.call
  Needs (acts.LockSet c) s = HasTicket s.call (Some c)
  Needs _ s = ⊥

  -- what an act leaves in hand, where t tells which tickets were made and which number was opened: a unit is taken or given
  -- back, the load is pushed, a book is held or left
  abbrev pub after : Act → Seen → Hand X G O F H → Hand X G O F H → Hand X G O F H
  after (acts.Raise (OfPool p) n) x t s = record s { holds = if_done x true s.holds }
  after (acts.Grow c) x t s = record s { call = t.call; first = if_done x (first_of c s.load) s.first; lent = t.lent }
  after (acts.Slot c n) x t s = record s { slot = t.slot; held = if_done x true s.held }
  after (acts.SlotUndo c n) x t s = record s { held = false }
  after (acts.PushInj p n b) x t s = record s { inlet = if_done x (sent n s.slot s.load s.inlet) s.inlet; load = if_done x None s.load; holds = if_done x (unit_after s.load s.holds) s.holds; held = if_done x false s.held }
  after (acts.PushCast c) x t s = record s { load = if_done x None s.load }
  after (acts.Lower (OfPool p) b) x t s = record s { holds = false }
  after _ x t s = s

  -- the ticket of a call with this load was made, in a pool of so many workers. Without a load it is a scope's. A job of which
  -- each worker gets a piece has that of a broadcast
  abbrev pub GrownFor : ℕ → ℕ → Option (Load X G O F H) → Option TicketOf → Type 0
  GrownFor w c None k = IsNewScope c k
  GrownFor w c (Some (Cast j)) k = IsNewCast w c k
  GrownFor w c (Some l) k = k ≡ Some (ticket_of c)

  -- a scope's body is lent a share of its ticket
  abbrev pub LentFor : Option (Load X G O F H) → Option TicketOf → Option TicketOf → Option TicketOf → Type 0
  LentFor None k old l = l ≡ k
  LentFor (Some w) k old l = l ≡ old

  -- what tickets an act made
  abbrev pub Grown : Act → Seen → Hand X G O F H → Hand X G O F H → Type 0
  Grown (acts.Grow c) Done s t = GrownFor s.workers c s.load t.call × LentFor s.load t.call s.lent t.lent
  Grown (acts.Grow c) _ s t = (t.call ≡ s.call) × (t.lent ≡ s.lent)
  Grown _ x s t = Unit {0}

  -- what it finds
  abbrev pub Finds : Act → Seen → Visit X G O F H → Visit X G O F H → Type 0
  Finds (acts.Take c) x s t = TakesOf (has_book s.call) x s.first s.outcome t.done t.first_done t.outcome
  Finds _ x s t = (t.done ≡ s.done) × (t.first_done ≡ s.first_done) × (t.outcome ≡ s.outcome)

  -- what becomes of the book of a scope that it holds: a number is opened there, or was refused; or the book is left
  abbrev pub Numbers : Act → Seen → Visit X G O F H → Visit X G O F H → Type 0
  Numbers (acts.Slot c n) Done s t = Opens t.book t.slot
  Numbers (acts.Slot c n) _ s t = (t.book ≡ s.book) × (t.slot ≡ s.slot)
  Numbers (acts.SlotUndo c n) x s t = t.book ≡ None
  Numbers (acts.PushInj p n b) Done s t = t.book ≡ None
  Numbers _ x s t = t.book ≡ s.book

  -- a latch is set, by the one step that makes a seat of it; its owner slept or not. Or there is no such latch
  abbrev pub Sets : Latch → ℕ → Seen → Visit X G O F H → Visit X G O F H → Type 0
  Sets l i x s t = SetBy (NoneSuch l i s.shape.workers s.call) (is_yes x) t.marks.set

  -- what it does to the seats of latches and of the terminate count. There is no other act of a caller
  abbrev pub Marked : Act → Seen → Visit X G O F H → Visit X G O F H → Type 0
  Marked (acts.Raise (OfPool p) n) x s t = (t.marks.set ≡ s.marks.set) × Raises x s.holds s.marks.count t.marks.count
  Marked (acts.Raise (OfScope c o) n) x s t = t.marks ≡ s.marks
  Marked (acts.Lower (OfPool p) b) x s t = (t.marks.set ≡ s.marks.set) × Lowers x s.holds s.marks.count t.marks.count
  Marked (acts.Lower (OfScope c o) b) x s t = t.marks ≡ s.marks
  Marked (acts.Set l p i) x s t = (t.marks.count ≡ s.marks.count) × Sets l i x s t
  Marked (acts.Grow c) x s t = t.marks ≡ s.marks
  Marked (acts.Slot c n) x s t = t.marks ≡ s.marks
  Marked (acts.SlotUndo c n) x s t = t.marks ≡ s.marks
  Marked (acts.LookInj p) x s t = t.marks ≡ s.marks
  Marked (acts.PushInj p n b) x s t = t.marks ≡ s.marks
  Marked (acts.News p e) x s t = t.marks ≡ s.marks
  Marked (acts.Lock p i) x s t = t.marks ≡ s.marks
  Marked (acts.Wake p i) x s t = t.marks ≡ s.marks
  Marked (acts.Unlock p i) x s t = t.marks ≡ s.marks
  Marked (acts.StoreBody c e) x s t = t.marks ≡ s.marks
  Marked (acts.LockWait c) x s t = t.marks ≡ s.marks
  Marked (acts.Take c) x s t = t.marks ≡ s.marks
  Marked (acts.LockSet c) x s t = t.marks ≡ s.marks
  Marked (acts.SlotAll c) x s t = t.marks ≡ s.marks
  Marked (acts.SlotUndoAll c) x s t = t.marks ≡ s.marks
  Marked (acts.RaiseAll c) x s t = (t.marks.set ≡ s.marks.set) × RaisesAll c.count c.workers x s.marks.count t.marks.count
  Marked (acts.PushCast c) x s t = t.marks ≡ s.marks
  Marked (acts.LowerAll c) x s t = (t.marks.set ≡ s.marks.set) × LowersAll c.count c.workers (is_yes x) s.marks.count t.marks.count
  Marked _ x s t = ⊥

  -- to the seat by which it stepped on a scope's count
  abbrev pub Shares : Act → Seen → Visit X G O F H → Visit X G O F H → Type 0
  Shares (acts.Raise (OfScope c o) n) Done s t = TakesShare (scope_in s.call) t.tally
  Shares (acts.Raise (OfScope c o) n) _ s t = MissesShare (scope_in s.call) t.tally
  Shares (acts.Lower (OfScope c o) b) x s t = GivesShare (scope_in s.call) (is_yes x) t.tally
  Shares (acts.RaiseAll c) x s t = SharesAll c.count c.workers x (scope_in s.call) s.tally t.tally
  Shares (acts.LowerAll c) x s t = SharesNone c.count c.workers (is_yes x) (scope_in s.call) s.tally t.tally
  Shares _ x s t = t.tally ≡ s.tally

  -- and to the seat by which news is told
  abbrev pub Told : Act → Seen → Visit X G O F H → Visit X G O F H → Type 0
  Told (acts.News p e) x s t = TellsBy e x t.chair
  Told _ x s t = t.chair ≡ s.chair

  -- what each act of a caller does
  abbrev pub Does : Act → Seen → Visit X G O F H → Visit X G O F H → Type 0
  Does a x s t = (hand t ≡ after a x (hand t) (hand s)) × (t.shape ≡ s.shape) × (t.count ≡ s.count) × Grown a x (hand s) (hand t) × Finds a x s t × Numbers a x s t × Marked a x s t × Shares a x s t × Told a x s t × Sees a x
