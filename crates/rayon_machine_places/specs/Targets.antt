-- what an act touches: one pool, one worker's seat in it, one call and one job
use Rattle.std.specs.Prelude.{ℕ, Bool, true, false, Option, Some, None}
use Rattle.rayon_machine_places.specs.Places.{same_party, own_pool, own_index, count_call}
use Rattle.rayon_machine_places.specs.declared.act.Act.{Act}
use Rattle.rayon_machine_places.specs.declared.act.Act.TheVariants.{Probe, PopOwn, TakeCast, Steal, PopInj, Sleepy, Lock, Asleep, LookInj, Wakeup, Unlock, Wake, Begin, PushInj, PushOwn, FifoIn, FifoUndo, FifoOut, PushCast, RaiseAll, LowerAll, News, Set, LockSet, LockWait, Lower, Raise, Grow, Store, Take, Slot, SlotUndo, SlotAll, SlotUndoAll, StoreBody as PutBody, StoreSlot as PutSlot, StorePiece as PutPiece}
use Rattle.rayon_machine_places.specs.declared.place.Count.{Count}
use Rattle.rayon_machine_places.specs.declared.place.Count.TheVariants.{OfPool, OfScope, OfCast}
use Rattle.rayon_machine_places.specs.declared.place.JobKind.{JobKind}
use Rattle.rayon_machine_places.specs.declared.place.JobKind.TheVariants.{TokenOf}
use Rattle.rayon_machine_places.specs.declared.place.Latch.{Latch}
use Rattle.rayon_machine_places.specs.declared.place.Latch.TheVariants.{Terminate, OfCall}
use Rattle.rayon_machine_places.specs.declared.place.Party.{Party}
use Rattle.rayon_machine_places.specs.declared.place.Party.TheVariants.{Worker}
use Rattle.rayon_machine_places.specs.declared.place.Share.{Share}
use Rattle.rayon_machine_places.specs.declared.place.Share.TheVariants.{PoolValue, Body, OfJob}
use Rattle.rayon_machine_places.specs.declared.place.Taken.{Taken}
use Rattle.rayon_machine_places.specs.declared.place.Taken.TheVariants.{Plain, Token}

-- the pool of a count; where a count has none, the party's own pool
abbrev pub count_pool : Party → Count → ℕ
count_pool q (OfPool p) = p
count_pool q (OfScope c o) = own_pool q
count_pool q (OfCast c o) = own_pool q

-- the pool that an act touches: the one that it names, else the party's own
abbrev pub target_pool : Party → Act → ℕ
target_pool q (Lock p i) = p
target_pool q (Unlock p i) = p
target_pool q (Wake p i) = p
target_pool q (Set l p i) = p
target_pool q (Steal p i) = p
target_pool q (LookInj p) = p
target_pool q (PushInj p t b) = p
target_pool q (News p e) = p
target_pool q (Lower k s) = count_pool q k
target_pool q (Raise k t) = count_pool q k
target_pool q (PushCast c) = c.pool
target_pool q (LowerAll c) = count_pool q c.count
target_pool q (RaiseAll c) = count_pool q c.count
target_pool q _ = own_pool q

-- the worker that an act touches: the one that it names, else the party itself
abbrev pub target_worker : Party → Act → ℕ
target_worker q (Lock p i) = i
target_worker q (Unlock p i) = i
target_worker q (Wake p i) = i
target_worker q (Set l p i) = i
target_worker q (Steal p i) = i
target_worker q (FifoOut k i b) = i
target_worker q _ = own_index q

-- the call of a latch
abbrev pub call_of : Latch → ℕ
call_of Terminate = 0
call_of (OfCall c) = c

abbrev pub or_none : Option ℕ → ℕ
or_none None = 0
or_none (Some t) = t

-- the call that an act touches, if it touches one
abbrev pub target_call : Act → ℕ
target_call (Probe l) = call_of l
target_call (Sleepy l) = call_of l
target_call (Asleep l) = call_of l
target_call (Wakeup l) = call_of l
target_call (Set l p i) = call_of l
target_call (LockSet c) = c
target_call (LockWait c) = c
target_call (Grow c) = c
target_call (Store c e) = c
target_call (Take c) = c
target_call (Slot c t) = c
target_call (SlotUndo c t) = c
target_call (PutBody c e) = c
target_call (PutSlot c t e) = c
target_call (PutPiece c t e) = c
target_call (Lower k s) = count_call k
target_call (Raise k t) = count_call k
target_call (PushOwn t b) = or_none b
target_call (PushInj p t b) = or_none b
target_call (RaiseAll c) = count_call c.count
target_call (LowerAll c) = count_call c.count
target_call (SlotAll c) = count_call c.count
target_call (SlotUndoAll c) = count_call c.count
target_call (PushCast c) = count_call c.count
target_call _ = 0

-- the job of a share
abbrev pub share_job : Share → ℕ
share_job PoolValue = 0
share_job Body = 0
share_job (OfJob t) = t

-- the job that an act touches, where this task stands at the end of its queue
abbrev pub aimed_job : Act → Option ℕ → ℕ
aimed_job (Begin t) found = t
aimed_job (PushInj p t b) found = t
aimed_job (PushOwn t b) found = t
aimed_job (Slot c t) found = t
aimed_job (SlotUndo c t) found = t
aimed_job (PutSlot c t e) found = t
aimed_job (PutPiece c t e) found = t
aimed_job (FifoIn t b) found = t
aimed_job (FifoUndo b) found = or_none found
aimed_job (FifoOut k i b) found = or_none found
aimed_job (Raise k t) found = t
aimed_job (Lower k b) found = share_job b
aimed_job PopOwn found = or_none found
aimed_job TakeCast found = or_none found
aimed_job (Steal p i) found = or_none found
aimed_job PopInj found = or_none found
aimed_job _ found = 0

-- an act's lock is the party's own
abbrev pub is_own : Party → ℕ → ℕ → Bool
is_own q p i = same_party q (Worker p i)

-- a token is no job
abbrev pub is_token : JobKind → Bool
is_token (TokenOf i b) = true
is_token _ = false

-- what has this number and is of this kind
abbrev pub taken_as : ℕ → JobKind → Taken
taken_as t (TokenOf i b) = Token t i b
taken_as t _ = Plain t
