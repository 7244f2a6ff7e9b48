-- what the numbers that an act touches stand for, and what the act leaves of them and of its queue
use Rattle.std.specs.Prelude.{ℕ, Bool, true, false, ◌+◌, ◌==◌, if◌then◌else◌, Option, Some, None, List, [], ◌∷◌, ◌++◌, ◌≡◌}
use Rattle.rayon_machine_places.specs.declared.place.Party.{Party}
use Rattle.rayon_machine_places.specs.declared.act.Act.{Act}
use Rattle.rayon_machine_places.specs.declared.act.Act.TheVariants.{Probe, PopOwn, TakeCast, AddInactive, Pick, Steal, PopInj, Announce, Sleepy, Lock, Asleep, Load, TryAdd, LookCast, LookInj, LookOwn, Block, SubSleeping, Wakeup, Unlock, SubInactive, Wake, Begin, PushInj, PushOwn, FifoIn, FifoUndo, FifoOut, PushCast, RaiseAll, LowerAll, News, Set, LockSet, LockWait, Lower, Raise, Grow, Store, Take, Slot, SlotUndo, SlotAll, SlotUndoAll, StoreBody as PutBody, StoreSlot as PutSlot, StorePiece as PutPiece, Idle}
use Rattle.rayon_machine_places.specs.declared.act.Seen.{Seen}
use Rattle.rayon_machine_places.specs.declared.act.Seen.TheVariants.{Done, Yes, No, Task, Missing}
use Rattle.rayon_machine_numbers.specs.declared.numbers.Touched.{Touched}
use Rattle.rayon_machine_numbers.specs.declared.numbers.Census.{Census}
use Rattle.rayon_machine_numbers.specs.declared.numbers.PoolNumbers.{PoolNumbers}
use Rattle.rayon_machine_numbers.specs.declared.numbers.WorkerFlags.{WorkerFlags}
use Rattle.rayon_machine_numbers.specs.declared.kind.Kind.{Kind}
use Rattle.rayon_machine_numbers.specs.declared.kind.Kind.TheVariants.{Queueing, Feeding, Booking, Counting, Latching, Locking, Sharing}
use Rattle.rayon_machine_places.specs.declared.place.Pieces.{Pieces}
use Rattle.rayon_machine_places.specs.declared.shape.Order.{Order}
use Rattle.rayon_machine_runs.specs.declared.state.Whereabouts.TheVariants.{InDeque, Injected, Running}
use Rattle.rayon_machine_runs.specs.declared.state.Job.{Job}
use Rattle.rayon_machine_places.specs.Places.{own_pool, own_index, count_book}
use Rattle.rayon_machine_runs.specs.World.{Shape, Seat, Pool, Part, at_job, head_of, last_of, own_of, own_left, but_first, but_last, casts_with, left_book, left_by, put_list, undealt_after, effect}
use Rattle.rayon_machine_places.specs.Sleepers.{Counts}
use Rattle.rayon_machine_places.specs.Targets.{taken_as}

-- the numbers of a census
abbrev pub census_counts : Census → Counts
census_counts c = record { sleeping = c.sleeping; inactive = c.inactive }

-- the FIFO lists of a worker, and who holds each
pub record FifoLists : Type 0 where
  pub jobs : Option ℕ → List ℕ
  pub holder : Option ℕ → Option Party

-- the FIFO list that an act touches: that of a scope, or that of detached jobs
abbrev pub act_list : Act → Option ℕ
act_list (FifoIn t b) = b
act_list (FifoUndo b) = b
act_list (FifoOut k i b) = b
act_list (PushOwn t b) = b
act_list _ = None

-- the part of a world with these numbers and these lists
abbrev pub full : Touched → List ℕ → FifoLists → List ℕ → (ℕ → List ℕ) → Part
full t own fifo injector casts = record {
  pool = record { injector = injector; casts = casts; turn = t.pool.turn; count = t.pool.count; held = t.pool.held; counted = t.pool.counted };
  seat = record { own = own; fifo = fifo.jobs; feeder = fifo.holder; inactive = t.worker.inactive; asleep = t.worker.asleep; blocked = t.worker.blocked; latch = t.worker.latch; lock = t.worker.lock };
  call = t.call;
  job = t.job;
}

-- the act sees this and leaves these numbers, whatever the lists hold
abbrev pub Does : Act → Party → Counts → ℕ → Touched → Seen → Touched → Type 0
Does a q c jec_bits t seen u = (h : Shape) (own : List ℕ) (fifo : FifoLists) (injector : List ℕ) (casts : ℕ → List ℕ) → h.jec_bits ≡ jec_bits → effect a h q c (full t own fifo injector casts) ≡ Some (seen, full u own fifo injector casts)

-- the act is not enabled, whatever the lists hold, where this is who holds the FIFO list that it touches
abbrev pub DoesNot : Act → Party → Counts → Touched → Type 0
DoesNot a q c t = (h : Shape) (own : List ℕ) (fifo : FifoLists) (injector : List ℕ) (casts : ℕ → List ℕ) → fifo.holder (act_list a) ≡ t.holder → effect a h q c (full t own fifo injector casts) ≡ None

-- the act is enabled, whatever the lists hold, where this is who holds the FIFO list that it touches
abbrev pub Can : Act → Party → Counts → Touched → Type 0
Can a q c t = (h : Shape) (own : List ℕ) (fifo : FifoLists) (injector : List ℕ) (casts : ℕ → List ℕ) → fifo.holder (act_list a) ≡ t.holder → ¬ (effect a h q c (full t own fifo injector casts) ≡ None)

-- an act on the counters of inactive and sleeping workers, or on the turn
abbrev pub is_counting : Act → Bool
is_counting AddInactive = true
is_counting Announce = true
is_counting Load = true
is_counting (TryAdd a b j) = true
is_counting SubSleeping = true
is_counting SubInactive = true
is_counting (News p e) = true
is_counting _ = false

-- an act on a latch or a cell
abbrev pub is_latching : Act → Bool
is_latching (Probe l) = true
is_latching (Sleepy l) = true
is_latching (Asleep l) = true
is_latching (Wakeup l) = true
is_latching (Set l p i) = true
is_latching (LockSet c) = true
is_latching (LockWait c) = true
is_latching (Grow c) = true
is_latching (Store c e) = true
is_latching (PutPiece c t e) = true
is_latching (Take c) = true
is_latching _ = false

-- an act on a sleep lock, or on whether a worker is blocked
abbrev pub is_locking : Act → Bool
is_locking (Lock p i) = true
is_locking Block = true
is_locking (Unlock p i) = true
is_locking (Wake p i) = true
is_locking _ = false

-- an act on shares of a count, the begin of a run, the choice of a victim, or none
abbrev pub is_sharing : Act → Bool
is_sharing (Begin t) = true
is_sharing (Lower k s) = true
is_sharing (Raise k t) = true
is_sharing (LowerAll b) = true
is_sharing (RaiseAll b) = true
is_sharing Pick = true
is_sharing Idle = true
is_sharing _ = false

-- an act on a queue
abbrev pub is_queueing : Act → Bool
is_queueing PopOwn = true
is_queueing TakeCast = true
is_queueing (Steal p i) = true
is_queueing PopInj = true
is_queueing LookCast = true
is_queueing (LookInj p) = true
is_queueing LookOwn = true
is_queueing (PushInj p t b) = true
is_queueing (PushOwn t b) = true
is_queueing (PushCast b) = true
is_queueing _ = false

-- an act on a FIFO list
abbrev pub is_feeding : Act → Bool
is_feeding (FifoIn t b) = true
is_feeding (FifoUndo b) = true
is_feeding (FifoOut k i b) = true
is_feeding _ = false

-- an act on the book of a scope
abbrev pub is_booking : Act → Bool
is_booking (Slot c t) = true
is_booking (SlotUndo c t) = true
is_booking (SlotAll b) = true
is_booking (SlotUndoAll b) = true
is_booking (PutBody c e) = true
is_booking (PutSlot c t e) = true
is_booking _ = false

-- the task at the end of the queue that an act takes from or looks at
abbrev pub end_task : Order → Act → Party → List ℕ → (Option ℕ → List ℕ) → List ℕ → (ℕ → List ℕ) → Option ℕ
end_task o PopOwn q own fifo injector casts = own_of o own
end_task o TakeCast q own fifo injector casts = head_of (casts (own_index q))
end_task o (Steal p i) q own fifo injector casts = head_of own
end_task o PopInj q own fifo injector casts = head_of injector
end_task o LookCast q own fifo injector casts = head_of (casts (own_index q))
end_task o (LookInj p) q own fifo injector casts = head_of injector
end_task o LookOwn q own fifo injector casts = head_of own
end_task o (FifoUndo b) q own fifo injector casts = last_of (fifo b)
end_task o (FifoOut k i b) q own fifo injector casts = head_of (fifo b)
end_task o _ q own fifo injector casts = None

-- a pool after an act on its queues, where the party is the worker of this index
abbrev pub pool_queued : Act → ℕ → Pool → Pool
pool_queued PopInj k v = record v { injector = but_first v.injector }
pool_queued TakeCast k v = record v { casts = λ i. if i == k then but_first (v.casts k) else v.casts i }
pool_queued (PushInj p t b) k v = record v { injector = v.injector ++ t ∷ [] }
pool_queued (PushCast b) k v = record v { casts = casts_with b v.casts }
pool_queued _ k v = v

-- the jobs of a FIFO list after an act on it
abbrev pub list_queued : Act → List ℕ → List ℕ
list_queued (FifoIn t b) l = l ++ t ∷ []
list_queued (FifoUndo b) l = but_last l
list_queued (FifoOut k i b) l = but_first l
list_queued _ l = l

-- who holds a FIFO list whose last job is taken back, if there is one
abbrev pub undone : List ℕ → Option Party → Option Party
undone [] r = r
undone (t ∷ ts) r = None

-- who holds a FIFO list of these jobs after a party's act on it
abbrev pub list_held : Act → Party → List ℕ → Option Party → Option Party
list_held (FifoIn t b) q l r = Some q
list_held (FifoUndo b) q l r = undone l r
list_held (PushOwn t b) q l r = left_by q r
list_held _ q l r = r

-- a worker's seat after a party's act on this FIFO list of it
abbrev pub seat_listed : Act → Party → Option ℕ → Seat → Seat
seat_listed a q b s = record s { fifo = put_list s.fifo b (list_queued a (s.fifo b)); feeder = put_list s.feeder b (list_held a q (s.fifo b) (s.feeder b)) }

-- an act that touches a FIFO list
abbrev pub is_listing : Act → Bool
is_listing (PushOwn t b) = true
is_listing (FifoIn t b) = true
is_listing (FifoUndo b) = true
is_listing (FifoOut k i b) = true
is_listing _ = false

-- a worker's seat after an act on its deque
abbrev pub seat_pushed : Act → Order → Seat → Seat
seat_pushed PopOwn o s = record s { own = own_left o s.own }
seat_pushed (Steal p i) o s = record s { own = but_first s.own }
seat_pushed (PushOwn t b) o s = record s { own = s.own ++ t ∷ [] }
seat_pushed _ o s = s

-- a worker's seat after a party's act on its deque or on a FIFO list of it
abbrev pub seat_queued : Act → Order → Party → Seat → Seat
seat_queued a o q s = if is_listing a then seat_listed a q (act_list a) (seat_pushed a o s) else seat_pushed a o s

-- a part after an act on its queues
abbrev pub part_queued : Order → Act → Party → Part → Part
part_queued o a q m = record m { pool = pool_queued a (own_index q) m.pool; seat = seat_queued a o q m.seat }

-- the numbers with the job elsewhere
abbrev pub with_job : Touched → Job → Touched
with_job t j = record t { job = j }

-- what taking a task sees, and the numbers after it
abbrev pub after_take : Party → Touched → Option ℕ → Seen × Touched
after_take q t None = (Missing, t)
after_take q t (Some n) = (Task (taken_as n t.job.kind), with_job t (at_job (t.job) (Running q)))

-- what a look at a queue sees
abbrev pub look_sees : Option ℕ → Seen
look_sees None = Yes
look_sees (Some t) = No

-- the numbers with the book of this scope left by this party
abbrev pub with_left_book : Party → Option ℕ → Touched → Touched
with_left_book q b t = record t { call = record (t.call) { writer = left_book q b t.call.writer } }

-- the numbers once the pieces of a broadcast are dealt: the book of its scope is left, and the shares of a broadcast that
-- waits are its pieces'
abbrev pub with_dealt : Party → Pieces → Touched → Touched
with_dealt q b t = record t { call = record (t.call) { writer = left_book q (count_book b.count) t.call.writer; undealt = undealt_after b.count t.call.undealt } }

-- what an act on a queue sees, and the numbers after it, where this task stands at the queue's end
abbrev pub after_handle : Act → Party → Touched → Option ℕ → Seen × Touched
after_handle PopOwn q t found = after_take q t found
after_handle TakeCast q t found = after_take q t found
after_handle (Steal p i) q t found = after_take q t found
after_handle PopInj q t found = after_take q t found
after_handle LookCast q t found = (look_sees found, t)
after_handle (LookInj p) q t found = (look_sees found, t)
after_handle LookOwn q t found = (look_sees found, t)
after_handle (PushInj p n b) q t found = (Done, with_job (with_left_book q b t) (at_job (t.job) (Injected p)))
after_handle (PushOwn n b) q t found = (Done, with_job (with_left_book q b t) (at_job (t.job) (InDeque (own_pool q) (own_index q))))
after_handle (PushCast b) q t found = (Done, with_dealt q b t)
after_handle _ q t found = (Done, t)

-- the act sees this and leaves these numbers and queues, where this task stands at the end of the queue that it looks
-- at, and where this is who holds the FIFO list that it touches
abbrev pub Acts : Order → Act → Party → Counts → ℕ → Option ℕ → Touched → Seen → Touched → Type 0
Acts o a q c jec_bits found t seen u = (h : Shape) (own : List ℕ) (fifo : FifoLists) (injector : List ℕ) (casts : ℕ → List ℕ) → h.jec_bits ≡ jec_bits → (h.pool (own_pool q)).order ≡ o → end_task o a q own fifo.jobs injector casts ≡ found → fifo.holder (act_list a) ≡ t.holder → effect a h q c (full t own fifo injector casts) ≡ Some (seen, part_queued o a q (full u own fifo injector casts))

-- what the kind of an act says of it
abbrev pub kind_holds : Kind → Act → Type 0
kind_holds Queueing a = is_queueing a ≡ true
kind_holds Feeding a = is_feeding a ≡ true
kind_holds Booking a = is_booking a ≡ true
kind_holds Counting a = is_counting a ≡ true
kind_holds Latching a = is_latching a ≡ true
kind_holds Locking a = is_locking a ≡ true
kind_holds Sharing a = is_sharing a ≡ true

-- a pool with these numbers
abbrev pub with_numbers : Pool → PoolNumbers → Pool
with_numbers v n = record v { turn = n.turn; count = n.count; held = n.held; counted = n.counted }

-- a seat with these flags
abbrev pub with_flags : Seat → WorkerFlags → Seat
with_flags s f = record s { inactive = f.inactive; asleep = f.asleep; blocked = f.blocked; latch = f.latch; lock = f.lock }

-- the numbers of a pool, and the flags of a seat
abbrev pub numbers_of : Pool → PoolNumbers
numbers_of v = record { turn = v.turn; count = v.count; held = v.held; counted = v.counted }

-- the flags of a seat
abbrev pub flags_of : Seat → WorkerFlags
flags_of s = record { inactive = s.inactive; asleep = s.asleep; blocked = s.blocked; latch = s.latch; lock = s.lock }

-- an act that looks at the counts of sleeping and inactive workers
abbrev pub is_census : Act → Bool
is_census Load = true
is_census (TryAdd a b j) = true
is_census SubInactive = true
is_census (News p e) = true
is_census _ = false

-- a part with these numbers
abbrev pub with_touched : Part → Touched → Part
with_touched m t = full t m.seat.own (record { jobs = m.seat.fifo; holder = m.seat.feeder }) m.pool.injector m.pool.casts
