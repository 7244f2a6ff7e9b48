-- which events a world allows: where a party has an act, can make it, and can be refused it; and where a run can end, a
-- victim be chosen, a steal miss, and a call begin
--
-- So no law is met by a machine that stands still. Broken by the wrong machines of StepTeeth.
use Rattle.std.specs.Prelude.{ℕ, Bool, true, false, not, ◌&&◌, nat_lt, Option, Some, None, is_some, slice_get, ◌≡◌, ◌<◌}
use Rattle.rayon_machine_places.specs.declared.place.Party.{Party}
use Rattle.rayon_machine_places.specs.declared.place.Party.TheVariants.{Worker, Caller}
use Rattle.rayon_machine_places.specs.declared.place.Ending.{Ending}
use Rattle.rayon_machine_places.specs.declared.place.Place.{Place}
use Rattle.rayon_machine_places.specs.declared.place.Place.TheVariants.{Run, Stopped}
use Rattle.rayon_machine_places.specs.declared.act.Act.{Act}
use Rattle.rayon_machine_places.specs.declared.act.Act.TheVariants.{Lock, LockWait, Slot, SlotAll, StoreBody as PutBody, StoreSlot as PutSlot, FifoIn, FifoOut, Grow, PushOwn, PushInj, PushCast, Idle}
use Rattle.rayon_machine_runs.specs.declared.event.Event.{Event}
use Rattle.rayon_machine_runs.specs.declared.event.Event.TheVariants.{Go, From, Refuse, Miss, End, Spawn, Fifo, Cast, Install, Join, Scope as OpenScope, IntoSpawn, IntoFifo, IntoCast, Broadcast, Yield, YieldLocal, EndPool}
use Rattle.rayon_machine_runs.specs.declared.state.Letter.{Letter}
use Rattle.rayon_machine_runs.specs.declared.state.Letter.TheVariants.{Set as IsSet}
use Rattle.rayon_machine_runs.specs.declared.state.Scope.{Scope}
use Rattle.rayon_machine_places.specs.Places.{own_pool, act_of, count_call, is_pick, victim_of, is_rest, is_free}
use Rattle.rayon_machine_runs.specs.World.{World, is_free_lock, is_held_by, is_open}
use Rattle.rayon_machine_places.specs.Targets.{is_own}
use Rattle.rayon_machine_runs.specs.Steps.{can_miss, holds, is_pool, step}

-- a world allows an event: there is a world after it
abbrev pub is_enabled : World → Event → Bool
is_enabled w e = is_some (step w e)

-- an act is one of some party
abbrev pub has_act : Act → Bool
has_act Idle = false
has_act _ = true

-- a party has an act at each place that is none of rest. Where it rests it runs a job, is free or has stopped; and no outside
-- caller of the world stops
pub record AllowsActs (w : World) : Type 0 where
  pub acts : (q : Party) → is_rest (w.stack q).top ≡ false → has_act (act_of q (w.stack q).top) ≡ true
  pub rests : (q : Party) → is_rest (w.stack q).top ≡ true → is_free (w.stack q).top ≡ false → (w.stack q).top ≡ Stopped
  pub callers : (c : ℕ) → c < w.shape.callers → (w.stack (Caller c)).top ≡ Stopped → ⊥

-- a latch is set
abbrev pub is_set_letter : Letter → Bool
is_set_letter IsSet = true
is_set_letter _ = false

-- what a party may have to wait for. The sleep lock that it takes has to be free, and its worker not blocked if it is the
-- party's own; the lock latch that it passes has to be set; the book in which it opens or fills a number, and the FIFO list
-- whose token it redeems, must not be held by another party. For no other act a party has to wait
abbrev pub is_open_to : World → Party → Act → Bool
is_open_to w q (Lock p i) = is_free_lock (w.seat p i).lock && not (is_own q p i && (w.seat p i).blocked)
is_open_to w q (LockWait c) = is_set_letter (w.call c).latch
is_open_to w q (Slot c t) = is_open q (w.call c).writer
is_open_to w q (SlotAll b) = is_open q (w.call (count_call b.count)).writer
is_open_to w q (PutBody c e) = is_open q (w.call c).writer
is_open_to w q (PutSlot c t e) = is_open q (w.call c).writer
is_open_to w q (FifoOut k i b) = is_open q ((w.seat (own_pool q) i).feeder b)
is_open_to w q Idle = false
is_open_to w q _ = true

-- a party can make its next act exactly where it does not have to wait for it
abbrev pub AllowsGo : World → Type 0
AllowsGo w = (q : Party) → is_enabled w (Go q) ≡ is_open_to w q (act_of q (w.stack q).top)

-- who holds a sleep lock, a book or a FIFO list, for which others may have to wait, can make its own next act
pub record AllowsHolders (w : World) : Type 0 where
  pub locks : (q : Party) (p i : ℕ) → is_held_by q (w.seat p i).lock ≡ true → is_enabled w (Go q) ≡ true
  pub books : (q : Party) (c : ℕ) → is_held_by q (w.call c).writer ≡ true → is_enabled w (Go q) ≡ true
  pub lists : (q : Party) (p i : ℕ) (b : Option ℕ) → is_held_by q ((w.seat p i).feeder b) ≡ true → is_enabled w (Go q) ≡ true

-- an act can be refused for want of room: a call's cell is made, a job or a token is pushed, the pieces of a broadcast are,
-- a job is added to a FIFO list, or numbers of a book are opened
abbrev pub can_refuse : Act → Bool
can_refuse (Grow c) = true
can_refuse (PushOwn t b) = true
can_refuse (PushInj p t b) = true
can_refuse (PushCast c) = true
can_refuse (FifoIn t b) = true
can_refuse (Slot c t) = true
can_refuse (SlotAll c) = true
can_refuse _ = false

-- a party's next act can be refused exactly where it is such an act
abbrev pub AllowsRefusals : World → Type 0
AllowsRefusals w = (q : Party) → is_enabled w (Refuse q) ≡ can_refuse (act_of q (w.stack q).top)

-- a place is a run
abbrev pub is_run : Place → Bool
is_run (Run t k) = true
is_run _ = false

-- a run can end either way, and where no run is on top nothing ends
abbrev pub AllowsEnds : World → Type 0
AllowsEnds w = (q : Party) (d : Ending) → is_enabled w (End q d) ≡ is_run (w.stack q).top

-- a worker's steal from this worker of its pool can miss; an outside caller does not steal
abbrev pub steal_misses : World → Party → Option ℕ → Bool
steal_misses w (Worker p i) (Some v) = can_miss w p v
steal_misses w (Worker p i) None = false
steal_misses w (Caller c) v = false

-- where a party is to choose a victim it can choose each worker of its pool; and where it steals, the steal can miss exactly
-- where the newest is taken first and the victim's deque has one task
pub record AllowsChoices (w : World) : Type 0 where
  pub from : (q : Party) (v : ℕ) → is_enabled w (From q v) ≡ (is_pick (w.stack q).top && nat_lt v (w.shape.pool (own_pool q)).workers)
  pub miss : (q : Party) → is_enabled w (Miss q) ≡ steal_misses w q (victim_of (w.stack q).top)

-- a party is a worker
abbrev pub is_worker : Party → Bool
is_worker (Worker p i) = true
is_worker (Caller c) = false

-- there is such a scope, and the party's stack holds the body or a job of it
abbrev pub holds_this : World → Party → Option Scope → Bool
holds_this w q None = false
holds_this w q (Some z) = holds z.call (w.stack q)

-- a party can make a call exactly where it is free, and: the call is at a pool that there is; or it is a join or a yield,
-- and the party a worker; or it is a call into a scope that the party holds; or the party gives up the value of a pool, and
-- that is held
pub record AllowsCalls (w : World) : Type 0 where
  pub spawn : (q : Party) (p : ℕ) → is_enabled w (Spawn q p) ≡ (is_free (w.stack q).top && is_pool w.shape p)
  pub fifo : (q : Party) (p : ℕ) → is_enabled w (Fifo q p) ≡ (is_free (w.stack q).top && is_pool w.shape p)
  pub cast : (q : Party) (p : ℕ) → is_enabled w (Cast q p) ≡ (is_free (w.stack q).top && is_pool w.shape p)
  pub install : (q : Party) (p : ℕ) → is_enabled w (Install q p) ≡ (is_free (w.stack q).top && is_pool w.shape p)
  pub open_scope : (q : Party) (p : ℕ) → is_enabled w (OpenScope q p) ≡ (is_free (w.stack q).top && is_pool w.shape p)
  pub broadcast : (q : Party) (p : ℕ) → is_enabled w (Broadcast q p) ≡ (is_free (w.stack q).top && is_pool w.shape p)
  pub join : (q : Party) → is_enabled w (Join q) ≡ (is_worker q && is_free (w.stack q).top)
  pub yield : (q : Party) → is_enabled w (Yield q) ≡ (is_worker q && is_free (w.stack q).top)
  pub yield_local : (q : Party) → is_enabled w (YieldLocal q) ≡ (is_worker q && is_free (w.stack q).top)
  pub into_spawn : (q : Party) (n : ℕ) → is_enabled w (IntoSpawn q n) ≡ (is_free (w.stack q).top && holds_this w q (slice_get w.scopes n))
  pub into_fifo : (q : Party) (n : ℕ) → is_enabled w (IntoFifo q n) ≡ (is_free (w.stack q).top && holds_this w q (slice_get w.scopes n))
  pub into_cast : (q : Party) (n : ℕ) → is_enabled w (IntoCast q n) ≡ (is_free (w.stack q).top && holds_this w q (slice_get w.scopes n))
  pub end_pool : (q : Party) (p : ℕ) → is_enabled w (EndPool q p) ≡ (is_free (w.stack q).top && (is_pool w.shape p && (w.pool p).held))
