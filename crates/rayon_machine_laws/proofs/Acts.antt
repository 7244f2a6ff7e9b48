-- what an act leaves of the part of the world that it touches: each field but those that it writes
use Rattle.std.proofs.Common.{refl}
use Rattle.std.specs.Prelude.{ℕ, Bool, true, false, not, ◌&&◌, ◌||◌, if◌then◌else◌, Option, Some, None, List, [], ◌∷◌, ◌≡◌, IfSome, ⊤}
use Rattle.rayon_machine_places.specs.declared.place.Party.{Party}
use Rattle.rayon_machine_places.specs.declared.place.Party.TheVariants.{Worker, Caller}
use Rattle.rayon_machine_places.specs.declared.place.Place.{Place}
use Rattle.rayon_machine_places.specs.declared.place.Place.TheVariants.{LookQueue, PushJob, BeginTask}
use Rattle.rayon_machine_places.specs.declared.place.Taken.{Taken}
use Rattle.rayon_machine_places.specs.declared.place.Taken.TheVariants.{Plain, Token}
use Rattle.rayon_machine_places.specs.declared.place.Latch.{Latch}
use Rattle.rayon_machine_places.specs.declared.place.Latch.TheVariants.{Terminate, OfCall}
use Rattle.rayon_machine_places.specs.declared.place.Ending.{Ending}
use Rattle.rayon_machine_places.specs.declared.place.Pieces.{Pieces}
use Rattle.rayon_machine_places.specs.declared.place.Count.{Count}
use Rattle.rayon_machine_places.specs.declared.place.Count.TheVariants.{OfPool}
use Rattle.rayon_machine_places.specs.declared.place.Share.{Share}
use Rattle.rayon_machine_places.specs.declared.place.Share.TheVariants.{PoolValue}
use Rattle.rayon_machine_places.specs.declared.act.Act.{Act}
use Rattle.rayon_machine_places.specs.declared.act.Act.TheVariants.{Probe, PopOwn, TakeCast, AddInactive, Pick, Steal, PopInj, Announce, Sleepy, Lock, Asleep as FallsAsleep, Load, TryAdd, LookCast, LookInj, LookOwn, Block, SubSleeping, Wakeup, Unlock, SubInactive, Wake, Begin, PushInj}
use Rattle.rayon_machine_places.specs.declared.act.Act.TheVariants.{PushOwn, FifoIn, FifoUndo, FifoOut, PushCast, RaiseAll, LowerAll, News, Set, LockSet, LockWait, Lower, Raise, Grow, Store, Take, Slot, SlotUndo, SlotAll, SlotUndoAll, StoreBody as PutBody, StoreSlot as PutSlot}
use Rattle.rayon_machine_places.specs.declared.act.Act.TheVariants.{StorePiece as PutPiece, Idle}
use Rattle.rayon_machine_places.specs.declared.act.Seen.{Seen}
use Rattle.rayon_machine_places.specs.declared.act.Seen.TheVariants.{Done, Refused, Yes, No, Task, Missing, Handed}
use Rattle.rayon_machine_runs.specs.declared.state.Letter.{Letter}
use Rattle.rayon_machine_runs.specs.declared.state.Letter.TheVariants.{Set as IsSet}
use Rattle.rayon_machine_places.specs.Places.{act_of, begin_act, is_member, plan_pool, plan_job, plan_book}
use Rattle.rayon_machine_runs.specs.World.{Shape, Part, effect, is_free_lock, is_held_by, is_open, popped, take_cast, pop_injector, at_job, begun, with_letter, raised, all_raised, lowered, all_lowered, lock_wait, found}
use Rattle.rayon_machine_places.specs.Sleepers.{Counts}
use Rattle.rayon_machine_places.specs.Targets.{is_own}
use Rattle.rayon_machine_runs.specs.declared.state.Slot.{Slot as SlotState}
use Rattle.rayon_machine_runs.specs.declared.state.Whereabouts.{Whereabouts}
use Rattle.rayon_machine_runs.specs.declared.state.Whereabouts.TheVariants.{Running}
use Rattle.rayon_machine_places.specs.declared.place.Ending.TheVariants.{Fine}
use Rattle.rayon_machine_laws.proofs.Letters.{sleepy_keeps, asleep_keeps, wake_keeps, set_keeps}
use Rattle.rayon_machine_laws.proofs.Frame.{if_cond, if_some_all, if_some_and, if_some_map, out_sees, undo_sees}

-- a field of a seat, a pool, a call or a job; and all those that no act writes
pub data Field : Type 0 where
  Own : Field
  Fifo : Field
  Feeder : Field
  Inactive : Field
  Asleep : Field
  Blocked : Field
  SeatLetter : Field
  Locker : Field
  Injector : Field
  Casts : Field
  Turn : Field
  PoolCount : Field
  PoolCounted : Field
  CallLetter : Field
  Cell : Field
  CallCount : Field
  CallCounted : Field
  Undealt : Field
  Slots : Field
  Writer : Field
  KeptFault : Field
  At : Field
  Runs : Field
  JobCounted : Field
  Number : Field
  Fixed : Field

abbrev pub writes_letter : Field → Bool
writes_letter SeatLetter = true
writes_letter CallLetter = true
writes_letter _ = false

abbrev pub writes_slots : Field → Bool
writes_slots Slots = true
writes_slots Writer = true
writes_slots _ = false

abbrev pub writes_counts : Field → Bool
writes_counts PoolCount = true
writes_counts CallCount = true
writes_counts _ = false

-- an act may write this field
abbrev pub writes : Act → Field → Bool
writes PopOwn Own = true
writes PopOwn At = true
writes TakeCast Casts = true
writes TakeCast At = true
writes AddInactive Inactive = true
writes PopInj Injector = true
writes PopInj At = true
writes Announce Turn = true
writes (Sleepy l) f = writes_letter f
writes (FallsAsleep l) f = writes_letter f
writes (Wakeup l) f = writes_letter f
writes (Set l p i) f = writes_letter f
writes (Lock p i) Locker = true
writes Block Blocked = true
writes Block Locker = true
writes SubSleeping Asleep = true
writes SubInactive Inactive = true
writes (Wake p i) Asleep = true
writes (Wake p i) Blocked = true
writes (Begin t) At = true
writes (Begin t) Runs = true
writes (PushInj p t b) Injector = true
writes (PushInj p t b) Writer = true
writes (PushInj p t b) At = true
writes (PushOwn t b) Own = true
writes (PushOwn t b) Feeder = true
writes (PushOwn t b) Writer = true
writes (PushOwn t b) At = true
writes (FifoUndo b) Fifo = true
writes (FifoUndo b) Feeder = true
writes (FifoUndo b) At = true
writes (FifoOut k i b) Fifo = true
writes (FifoOut k i b) At = true
writes (FifoOut k i b) Runs = true
writes (PushCast b) Casts = true
writes (PushCast b) Undealt = true
writes (PushCast b) Writer = true
writes (News p e) Turn = true
writes (LockSet k) CallLetter = true
writes (Lower k s) PoolCount = true
writes (Lower k s) PoolCounted = true
writes (Lower k s) CallCount = true
writes (Lower k s) CallCounted = true
writes (Lower k s) JobCounted = true
writes (Raise k t) PoolCount = true
writes (Raise k t) CallCount = true
writes (Raise k t) JobCounted = true
writes (RaiseAll b) f = writes_counts f
writes (LowerAll b) f = writes_counts f
writes (Slot k t) Slots = true
writes (Slot k t) Writer = true
writes (Slot k t) Number = true
writes (SlotAll b) f = writes_slots f
writes (SlotUndoAll b) f = writes_slots f
writes (PutBody k e) Cell = true
writes (PutBody k e) KeptFault = true
writes (PutSlot k t e) KeptFault = true
writes (PutSlot k t e) Number = true
writes (PutPiece k t e) Cell = true
writes (PutPiece k t e) KeptFault = true
writes (PutPiece k t e) Number = true
writes (Grow k) CallLetter = true
writes (Grow k) Cell = true
writes (Store k e) Cell = true
writes (Take k) Cell = true
writes _ _ = false

-- what no act writes
pub record KeptFixed (m : Part) (r : Seen × Part) : Type 0 where
  pub held : r.1.pool.held ≡ m.pool.held
  pub first : r.1.call.first ≡ m.call.first
  pub awaited : r.1.call.job ≡ m.call.job
  pub kind : r.1.job.kind ≡ m.job.kind
  pub pool : r.1.job.pool ≡ m.job.pool
  pub bound : r.1.job.bound ≡ m.job.bound

-- the field is as before
abbrev pub Kept : Field → Part → Seen × Part → Type 0
Kept Own m r = r.1.seat.own ≡ m.seat.own
Kept Fifo m r = r.1.seat.fifo ≡ m.seat.fifo
Kept Feeder m r = r.1.seat.feeder ≡ m.seat.feeder
Kept Inactive m r = r.1.seat.inactive ≡ m.seat.inactive
Kept Asleep m r = r.1.seat.asleep ≡ m.seat.asleep
Kept Blocked m r = r.1.seat.blocked ≡ m.seat.blocked
Kept SeatLetter m r = r.1.seat.latch ≡ m.seat.latch
Kept Locker m r = r.1.seat.lock ≡ m.seat.lock
Kept Injector m r = r.1.pool.injector ≡ m.pool.injector
Kept Casts m r = r.1.pool.casts ≡ m.pool.casts
Kept Turn m r = r.1.pool.turn ≡ m.pool.turn
Kept PoolCount m r = r.1.pool.count ≡ m.pool.count
Kept PoolCounted m r = r.1.pool.counted ≡ m.pool.counted
Kept CallLetter m r = r.1.call.latch ≡ m.call.latch
Kept Cell m r = r.1.call.cell ≡ m.call.cell
Kept CallCount m r = r.1.call.count ≡ m.call.count
Kept CallCounted m r = r.1.call.counted ≡ m.call.counted
Kept Undealt m r = r.1.call.undealt ≡ m.call.undealt
Kept Slots m r = r.1.call.slots ≡ m.call.slots
Kept Writer m r = r.1.call.writer ≡ m.call.writer
Kept KeptFault m r = r.1.call.fault ≡ m.call.fault
Kept At m r = r.1.job.at ≡ m.job.at
Kept Runs m r = r.1.job.runs ≡ m.job.runs
Kept JobCounted m r = r.1.job.counted ≡ m.job.counted
Kept Number m r = r.1.job.slot ≡ m.job.slot
Kept Fixed m r = KeptFixed m r

same : (f : Field) (m : Part) (e : Seen) → Kept f m (e, m)
same Fixed m e = record { held = refl; first = refl; awaited = refl; kind = refl; pool = refl; bound = refl }
same _ m e = refl

letter_kept : (f : Field) → writes_letter f ≡ false → (l : Latch) (m : Part) (e : Seen) (y : Letter) → Kept f m (e, with_letter l m y)
letter_kept SeatLetter z l m e y = cc
letter_kept CallLetter z l m e y = cc
letter_kept Fixed z Terminate m e y = record { held = refl; first = refl; awaited = refl; kind = refl; pool = refl; bound = refl }
letter_kept Fixed z (OfCall d) m e y = record { held = refl; first = refl; awaited = refl; kind = refl; pool = refl; bound = refl }
letter_kept _ z Terminate m e y = refl
letter_kept _ z (OfCall d) m e y = refl

pop_kept : (f : Field) → writes PopOwn f ≡ false → (q : Party) (m : Part) (l : List ℕ) (e : Seen) → Kept f m (e, record m { seat = record (m.seat) { own = l }; job = at_job (m.job) (Running q) })
pop_kept Own z q m l e = cc
pop_kept At z q m l e = cc
pop_kept Fixed z q m l e = record { held = refl; first = refl; awaited = refl; kind = refl; pool = refl; bound = refl }
pop_kept _ z q m l e = refl

cast_kept : (f : Field) → writes TakeCast f ≡ false → (q : Party) (m : Part) (l : ℕ → List ℕ) (e : Seen) → Kept f m (e, record m { pool = record (m.pool) { casts = l }; job = at_job (m.job) (Running q) })
cast_kept Casts z q m l e = cc
cast_kept At z q m l e = cc
cast_kept Fixed z q m l e = record { held = refl; first = refl; awaited = refl; kind = refl; pool = refl; bound = refl }
cast_kept _ z q m l e = refl

injected_kept : (f : Field) → writes PopInj f ≡ false → (q : Party) (m : Part) (l : List ℕ) (e : Seen) → Kept f m (e, record m { pool = record (m.pool) { injector = l }; job = at_job (m.job) (Running q) })
injected_kept Injector z q m l e = cc
injected_kept At z q m l e = cc
injected_kept Fixed z q m l e = record { held = refl; first = refl; awaited = refl; kind = refl; pool = refl; bound = refl }
injected_kept _ z q m l e = refl

lock_kept : (f : Field) → writes (Lock 0 0) f ≡ false → (m : Part) (v : Option Party) → Kept f m (Done, record m { seat = record (m.seat) { lock = v } })
lock_kept Locker z m v = cc
lock_kept Fixed z m v = record { held = refl; first = refl; awaited = refl; kind = refl; pool = refl; bound = refl }
lock_kept _ z m v = refl

asleep_kept : (f : Field) → writes SubSleeping f ≡ false → (m : Part) (v : Bool) → Kept f m (Done, record m { seat = record (m.seat) { asleep = v } })
asleep_kept Asleep z m v = cc
asleep_kept Fixed z m v = record { held = refl; first = refl; awaited = refl; kind = refl; pool = refl; bound = refl }
asleep_kept _ z m v = refl

wake_kept : (f : Field) → writes (Wake 0 0) f ≡ false → (m : Part) → Kept f m (Yes, record m { seat = record (m.seat) { blocked = false; asleep = false } })
wake_kept Asleep z m = cc
wake_kept Blocked z m = cc
wake_kept Fixed z m = record { held = refl; first = refl; awaited = refl; kind = refl; pool = refl; bound = refl }
wake_kept _ z m = refl

fifo_kept : (f : Field) → writes (FifoUndo None) f ≡ false → (m : Part) (l : Option ℕ → List ℕ) (k : Option ℕ → Option Party) (x : Whereabouts) (e : Seen) → Kept f m (e, record m { seat = record (m.seat) { fifo = l; feeder = k }; job = at_job (m.job) x })
fifo_kept Fifo z m l k x e = cc
fifo_kept Feeder z m l k x e = cc
fifo_kept At z m l k x e = cc
fifo_kept Fixed z m l k x e = record { held = refl; first = refl; awaited = refl; kind = refl; pool = refl; bound = refl }
fifo_kept _ z m l k x e = refl

out_kept : (f : Field) → writes (FifoOut 0 0 None) f ≡ false → (q : Party) (m : Part) (l : Option ℕ → List ℕ) (e : Seen) → Kept f m (e, record m { seat = record (m.seat) { fifo = l }; job = begun q m.job })
out_kept Fifo z q m l e = cc
out_kept At z q m l e = cc
out_kept Runs z q m l e = cc
out_kept Fixed z q m l e = record { held = refl; first = refl; awaited = refl; kind = refl; pool = refl; bound = refl }
out_kept _ z q m l e = refl

raised_kept : (f : Field) → writes (Raise (OfPool 0) 0) f ≡ false → (m : Part) (k : Count) → Kept f m (Done, raised m k)
raised_kept PoolCount z m k = cc
raised_kept CallCount z m k = cc
raised_kept JobCounted z m k = cc
raised_kept Fixed z m k = record { held = refl; first = refl; awaited = refl; kind = refl; pool = refl; bound = refl }
raised_kept _ z m k = refl

lowered_kept : (f : Field) → writes (Lower (OfPool 0) PoolValue) f ≡ false → (m : Part) (k : Count) (s : Share) (e : Seen) → Kept f m (e, lowered m k s)
lowered_kept PoolCount z m k s e = cc
lowered_kept PoolCounted z m k s e = cc
lowered_kept CallCount z m k s e = cc
lowered_kept CallCounted z m k s e = cc
lowered_kept JobCounted z m k s e = cc
lowered_kept Fixed z m k s e = record { held = refl; first = refl; awaited = refl; kind = refl; pool = refl; bound = refl }
lowered_kept _ z m k s e = refl

all_raised_kept : (f : Field) → writes_counts f ≡ false → (m : Part) (b : Pieces) → Kept f m (Done, all_raised m b)
all_raised_kept PoolCount z m b = cc
all_raised_kept CallCount z m b = cc
all_raised_kept Fixed z m b = record { held = refl; first = refl; awaited = refl; kind = refl; pool = refl; bound = refl }
all_raised_kept _ z m b = refl

all_lowered_kept : (f : Field) → writes_counts f ≡ false → (m : Part) (b : Pieces) (e : Seen) → Kept f m (e, all_lowered m b)
all_lowered_kept PoolCount z m b e = cc
all_lowered_kept CallCount z m b e = cc
all_lowered_kept Fixed z m b e = record { held = refl; first = refl; awaited = refl; kind = refl; pool = refl; bound = refl }
all_lowered_kept _ z m b e = refl

slot_kept : (f : Field) → writes (Slot 0 0) f ≡ false → (m : Part) (n : ℕ) (w : Option Party) (s : SlotState) → Kept f m (Done, record m { call = record (m.call) { slots = n; writer = w }; job = record (m.job) { slot = s } })
slot_kept Slots z m n w s = cc
slot_kept Writer z m n w s = cc
slot_kept Number z m n w s = cc
slot_kept Fixed z m n w s = record { held = refl; first = refl; awaited = refl; kind = refl; pool = refl; bound = refl }
slot_kept _ z m n w s = refl

slots_kept : (f : Field) → writes_slots f ≡ false → (m : Part) (n : ℕ) (w : Option Party) (e : Seen) → Kept f m (e, record m { call = record (m.call) { slots = n; writer = w } })
slots_kept Slots z m n w e = cc
slots_kept Writer z m n w e = cc
slots_kept Fixed z m n w e = record { held = refl; first = refl; awaited = refl; kind = refl; pool = refl; bound = refl }
slots_kept _ z m n w e = refl

body_kept : (f : Field) → writes (PutBody 0 Fine) f ≡ false → (m : Part) (d : Option Ending) (u : Option ℕ) → Kept f m (Done, record m { call = record (m.call) { cell = d; fault = u } })
body_kept Cell z m d u = cc
body_kept KeptFault z m d u = cc
body_kept Fixed z m d u = record { held = refl; first = refl; awaited = refl; kind = refl; pool = refl; bound = refl }
body_kept _ z m d u = refl

number_kept : (f : Field) → writes (PutSlot 0 0 Fine) f ≡ false → (m : Part) (u : Option ℕ) (s : SlotState) → Kept f m (Done, record m { call = record (m.call) { fault = u }; job = record (m.job) { slot = s } })
number_kept KeptFault z m u s = cc
number_kept Number z m u s = cc
number_kept Fixed z m u s = record { held = refl; first = refl; awaited = refl; kind = refl; pool = refl; bound = refl }
number_kept _ z m u s = refl

take_kept : (f : Field) → writes (Take 0) f ≡ false → (m : Part) (e : Seen) → Kept f m (e, record m { call = record (m.call) { cell = None } })
take_kept Cell z m e = cc
take_kept Fixed z m e = record { held = refl; first = refl; awaited = refl; kind = refl; pool = refl; bound = refl }
take_kept _ z m e = refl

popped_kept : (f : Field) → writes PopOwn f ≡ false → (q : Party) (m : Part) (l : List ℕ) (o : Option ℕ) → IfSome (popped q m l o) (Kept f m)
popped_kept f z q m l None = same f m Missing
popped_kept f z q m l (Some t) = pop_kept f z q m l _

taken_kept : (f : Field) → writes TakeCast f ≡ false → (q : Party) (m : Part) (l : List ℕ) → IfSome (take_cast q m l) (Kept f m)
taken_kept f z q m [] = same f m Missing
taken_kept f z q m (t ∷ ts) = cast_kept f z q m _ _

pops_kept : (f : Field) → writes PopInj f ≡ false → (q : Party) (m : Part) (l : List ℕ) → IfSome (pop_injector q m l) (Kept f m)
pops_kept f z q m [] = same f m Missing
pops_kept f z q m (t ∷ ts) = injected_kept f z q m ts _

found_kept : (f : Field) → writes (Take 0) f ≡ false → (m : Part) (x : Option Ending) → IfSome (found m x) (Kept f m)
found_kept f z m None = same f m Missing
found_kept f z m (Some e) = take_kept f z m _

waited_kept : (f : Field) (m : Part) (x : Letter) → IfSome (lock_wait m x) (Kept f m)
waited_kept f m IsSet = same f m Done
waited_kept f m _ = tt

if_done : (f : Field) (m : Part) (b : Bool) (r : Seen × Part) (e : Seen) → Kept f m r → IfSome (if b then Some r else Some (e, m)) (Kept f m)
if_done f m true r e k = k
if_done f m false r e k = same f m e

unless_refused : (f : Field) (m : Part) (b : Bool) (r : Seen × Part) → Kept f m r → IfSome (if b then Some (Refused, m) else Some r) (Kept f m)
unless_refused f m true r k = same f m Refused
unless_refused f m false r k = k

-- of which pool or worker an act is makes no difference to what it writes
abbrev pub alike : Act → Act
alike (Lock p i) = Lock 0 0
alike (Unlock p i) = Lock 0 0
alike (Steal p i) = PopOwn
alike (LookInj p) = LookInj 0
alike (Wake p i) = Wake 0 0
alike (TryAdd a b j) = SubSleeping
alike (Begin t) = Begin 0
alike (PushInj p t b) = PushInj 0 0 None
alike (PushOwn t b) = PushOwn 0 None
alike (FifoIn t b) = FifoUndo None
alike (FifoUndo b) = FifoUndo None
alike (FifoOut k i b) = FifoOut 0 0 None
alike (Raise k t) = Raise (OfPool 0) 0
alike (Lower k s) = Lower (OfPool 0) PoolValue
alike (Slot k t) = Slot 0 0
alike (SlotUndo k t) = Slot 0 0
alike (PutBody k e) = PutBody 0 Fine
alike (PutSlot k t e) = PutSlot 0 0 Fine
alike (Take k) = Take 0
alike a = a

-- each act leaves each field that it does not write
kept_by : (a : Act) (f : Field) → writes (alike a) f ≡ false → (h : Shape) (q : Party) (c : Counts) (m : Part) → IfSome (effect a h q c m) (Kept f m)
kept_by AddInactive Inactive z h q c m = cc
kept_by AddInactive Fixed z h q c m = record { held = refl; first = refl; awaited = refl; kind = refl; pool = refl; bound = refl }
kept_by Announce Turn z h q c m = cc
kept_by Announce Fixed z h q c m = record { held = refl; first = refl; awaited = refl; kind = refl; pool = refl; bound = refl }
kept_by Block Blocked z h q c m = cc
kept_by Block Locker z h q c m = cc
kept_by Block Fixed z h q c m = record { held = refl; first = refl; awaited = refl; kind = refl; pool = refl; bound = refl }
kept_by SubInactive Inactive z h q c m = cc
kept_by SubInactive Fixed z h q c m = record { held = refl; first = refl; awaited = refl; kind = refl; pool = refl; bound = refl }
kept_by (Begin t) At z h q c m = cc
kept_by (Begin t) Runs z h q c m = cc
kept_by (Begin t) Fixed z h q c m = record { held = refl; first = refl; awaited = refl; kind = refl; pool = refl; bound = refl }
kept_by (PushInj p t b) Injector z h q c m = cc
kept_by (PushInj p t b) Writer z h q c m = cc
kept_by (PushInj p t b) At z h q c m = cc
kept_by (PushInj p t b) Fixed z h q c m = record { held = refl; first = refl; awaited = refl; kind = refl; pool = refl; bound = refl }
kept_by (PushOwn t b) Own z h q c m = cc
kept_by (PushOwn t b) Feeder z h q c m = cc
kept_by (PushOwn t b) Writer z h q c m = cc
kept_by (PushOwn t b) At z h q c m = cc
kept_by (PushOwn t b) Fixed z h q c m = record { held = refl; first = refl; awaited = refl; kind = refl; pool = refl; bound = refl }
kept_by (PushCast b) Casts z h q c m = cc
kept_by (PushCast b) Undealt z h q c m = cc
kept_by (PushCast b) Writer z h q c m = cc
kept_by (PushCast b) Fixed z h q c m = record { held = refl; first = refl; awaited = refl; kind = refl; pool = refl; bound = refl }
kept_by (News p e) Turn z h q c m = cc
kept_by (News p e) Fixed z h q c m = record { held = refl; first = refl; awaited = refl; kind = refl; pool = refl; bound = refl }
kept_by (LockSet k) CallLetter z h q c m = cc
kept_by (LockSet k) Fixed z h q c m = record { held = refl; first = refl; awaited = refl; kind = refl; pool = refl; bound = refl }
kept_by (PutPiece k t e) Cell z h q c m = cc
kept_by (PutPiece k t e) KeptFault z h q c m = cc
kept_by (PutPiece k t e) Number z h q c m = cc
kept_by (PutPiece k t e) Fixed z h q c m = record { held = refl; first = refl; awaited = refl; kind = refl; pool = refl; bound = refl }
kept_by (Grow k) CallLetter z h q c m = cc
kept_by (Grow k) Cell z h q c m = cc
kept_by (Grow k) Fixed z h q c m = record { held = refl; first = refl; awaited = refl; kind = refl; pool = refl; bound = refl }
kept_by (Store k e) Cell z h q c m = cc
kept_by (Store k e) Fixed z h q c m = record { held = refl; first = refl; awaited = refl; kind = refl; pool = refl; bound = refl }
kept_by (Probe l) f z h q c m = same f m _
kept_by LookCast f z h q c m = same f m _
kept_by (LookInj p) f z h q c m = same f m _
kept_by LookOwn f z h q c m = same f m _
kept_by Pick f z h q c m = same f m _
kept_by Load f z h q c m = same f m _
kept_by PopOwn f z h q c m = popped_kept f z q m _ _
kept_by (Steal p i) f z h q c m = popped_kept f z q m _ _
kept_by TakeCast f z h q c m = taken_kept f z q m _
kept_by PopInj f z h q c m = pops_kept f z q m _
kept_by (Sleepy l) f z h q c m = sleepy_keeps l (Kept f) (same f) (λ v e y n. letter_kept f z l v e y) m _
kept_by (FallsAsleep l) f z h q c m = asleep_keeps l (Kept f) (same f) (λ v e y n. letter_kept f z l v e y) m _
kept_by (Wakeup l) f z h q c m = wake_keeps l (Kept f) (same f) (λ v e y n. letter_kept f z l v e y) m _
kept_by (Set l p i) f z h q c m = set_keeps l (Kept f) (λ v e. letter_kept f z l v e IsSet) m _
kept_by (Lock p i) f z h q c m = if_cond (Kept f m) (is_free_lock m.seat.lock && not (is_own q p i && m.seat.blocked)) _ (λ e. lock_kept f z m (Some q))
kept_by (Unlock p i) f z h q c m = if_cond (Kept f m) (is_held_by q m.seat.lock) _ (λ e. lock_kept f z m None)
kept_by (TryAdd a b j) f z h q c m = if_done f m _ _ Refused (asleep_kept f z m true)
kept_by SubSleeping f z h q c m = asleep_kept f z m false
kept_by (Wake p i) f z h q c m = if_done f m _ _ No (wake_kept f z m)
kept_by (FifoIn t b) f z h q c m = if_cond (Kept f m) (is_open q (m.seat.feeder b)) _ (λ e. fifo_kept f z m _ _ _ Done)
kept_by (FifoUndo b) f z h q c m = undo_sees (Kept f m) q m b (same f m Missing) (λ u e. fifo_kept f z m _ _ _ (Task (Plain u)))
kept_by (FifoOut k i b) f z h q c m = out_sees (Kept f m) q m b (same f m Missing) (λ u us e. out_kept f z q m _ (Handed u m.job.kind))
kept_by (Raise k t) f z h q c m = unless_refused f m _ _ (raised_kept f z m k)
kept_by (RaiseAll b) f z h q c m = unless_refused f m _ _ (all_raised_kept f z m b)
kept_by (LowerAll b) f z h q c m = all_lowered_kept f z m b _
kept_by (Lower k s) f z h q c m = lowered_kept f z m k s _
kept_by (LockWait k) f z h q c m = waited_kept f m _
kept_by (Take k) f z h q c m = found_kept f z m _
kept_by (Slot k t) f z h q c m = if_cond (Kept f m) (is_open q m.call.writer) _ (λ e. slot_kept f z m _ _ _)
kept_by (SlotUndo k t) f z h q c m = if_cond (Kept f m) (is_open q m.call.writer) _ (λ e. slot_kept f z m _ _ _)
kept_by (SlotAll b) f z h q c m = if_cond (Kept f m) (is_open q m.call.writer) _ (λ e. slots_kept f z m _ _ _)
kept_by (SlotUndoAll b) f z h q c m = if_cond (Kept f m) (is_open q m.call.writer) _ (λ e. slots_kept f z m _ _ _)
kept_by (PutBody k e) f z h q c m = if_cond (Kept f m) (is_open q m.call.writer) _ (λ e. body_kept f z m _ _)
kept_by (PutSlot k t e) f z h q c m = if_cond (Kept f m) (is_open q m.call.writer) _ (λ e. number_kept f z m _ _)
kept_by Idle f z h q c m = tt
kept_by _ _ z h q c m = refl

-- one of these fields may be written by the act
abbrev pub writes_any : Act → List Field → Bool
writes_any a [] = false
writes_any a (f ∷ fs) = writes a f || writes_any a fs

-- each of them is as before
abbrev pub AllKept : List Field → Part → Seen × Part → Type 0
AllKept [] m r = ⊤
AllKept (f ∷ fs) m r = Kept f m r × AllKept fs m r

neither : (a b : Bool) → (a || b) ≡ false → (a ≡ false) × (b ≡ false)
neither false b e = (refl, e)
neither true b e = cc

silent : (a : Act) → ((f : Field) → writes a f ≡ false) → (fs : List Field) → writes_any a fs ≡ false
silent a n [] = refl
silent a n (f ∷ fs) = let e : writes a f ≡ false = n f in rw e (silent a n fs)

-- the act at this place may write one of these fields, whoever's it is
abbrev pub writes_at : Place → List Field → Bool
writes_at (LookQueue n) fs = false
writes_at (PushJob n e) fs = writes_any (PushOwn 0 None) fs || writes_any (PushInj 0 0 None) fs
writes_at (BeginTask x) fs = writes_any (Begin 0) fs || writes_any (FifoOut 0 0 None) fs
writes_at x fs = writes_any (alike (act_of (Worker 0 0) x)) fs

module _ (fs : List Field) where
  idle : writes_any Idle fs ≡ false
  idle = silent Idle (λ f. refl) fs

  look_silent : (b : Bool) (p : ℕ) → writes_any (alike (if b then LookOwn else LookInj p)) fs ≡ false
  look_silent true p = silent LookOwn (λ f. refl) fs
  look_silent false p = silent (LookInj 0) (λ f. refl) fs

  push_silent : (b : Bool) (p t : ℕ) (o : Option ℕ) → (writes_any (PushOwn 0 None) fs || writes_any (PushInj 0 0 None) fs) ≡ false → writes_any (alike (if b then PushOwn t o else PushInj p t o)) fs ≡ false
  push_silent true p t o e = (neither _ _ e).0
  push_silent false p t o e = (neither _ _ e).1

  begin_silent : (x : Taken) → (writes_any (Begin 0) fs || writes_any (FifoOut 0 0 None) fs) ≡ false → writes_any (alike (begin_act x)) fs ≡ false
  begin_silent (Plain t) e = (neither _ _ e).0
  begin_silent (Token k i b) e = (neither _ _ e).1

  silent_at : (q : Party) (x : Place) → writes_at x fs ≡ false → writes_any (alike (act_of q x)) fs ≡ false
  silent_at (Worker i j) (LookQueue n) e = look_silent (is_member (Worker i j) (plan_pool n)) (plan_pool n)
  silent_at q (LookQueue n) e = look_silent (is_member q (plan_pool n)) (plan_pool n)
  silent_at q (PushJob n v) e = push_silent (is_member q (plan_pool n)) (plan_pool n) (plan_job n) (plan_book n) e
  silent_at q (BeginTask x) e = begin_silent x e
  silent_at (Worker i j) _ e = e
  silent_at (Caller n) _ e = let k : writes_any Idle fs ≡ false = idle in cc

module _ (h : Shape) (q : Party) (c : Counts) (m : Part) where
  leaves : (a : Act) (fs : List Field) → writes_any (alike a) fs ≡ false → IfSome (effect a h q c m) (AllKept fs m)
  leaves a [] z = if_some_all (AllKept [] m) (λ r. tt) (effect a h q c m)
  leaves a (f ∷ fs) z =
      let n : (writes (alike a) f ≡ false) × (writes_any (alike a) fs ≡ false) = neither (writes (alike a) f) (writes_any (alike a) fs) z in
      if_some_and (Kept f m) (AllKept fs m) (effect a h q c m) (kept_by a f (n.0) h q c m) (leaves a fs (n.1))

  -- the act at a place leaves the fields that it does not write there, and what follows from that holds
  pub keeps : (R : Part → Seen × Part → Type 0) (fs : List Field) (x : Place) → writes_at x fs ≡ false → ((r : Seen × Part) → AllKept fs m r → R m r) → IfSome (effect (act_of q x) h q c m) (R m)
  keeps R fs x z f = if_some_map (AllKept fs m) (R m) f (effect (act_of q x) h q c m) (leaves (act_of q x) fs (silent_at fs q x z))
