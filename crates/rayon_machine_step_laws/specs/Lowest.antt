-- what stands lowest on each party's stack and nowhere above, and who blocks on a lock latch
--
-- Broken by the wrong machines of LowestTeeth.
use Rattle.std.specs.Prelude.{ℕ, false, ◌&&◌, ◌==◌, nat_lt, if◌then◌else◌, Option, Some, None, List, [], ◌∷◌, ◌≡◌}
use Rattle.rayon_machine_places.specs.declared.place.Party.{Party}
use Rattle.rayon_machine_places.specs.declared.place.Party.TheVariants.{Worker, Caller}
use Rattle.rayon_machine_places.specs.declared.place.Target.{Target}
use Rattle.rayon_machine_places.specs.declared.place.Target.TheVariants.{Termination, Answer}
use Rattle.rayon_machine_places.specs.declared.place.Then.{Then}
use Rattle.rayon_machine_places.specs.declared.place.Then.TheVariants.{BeginFound, LeaveWait}
use Rattle.rayon_machine_places.specs.declared.place.Place.{Place}
use Rattle.rayon_machine_places.specs.declared.place.Place.TheVariants.{ProbeWorking, PopWorking, TakeCastWorking, BecomeInactive, ProbeIdle, PopIdle, TakeCastIdle, PickVictim, StealFrom, PopInjected, AnnounceSelf, GetSleepy, LockOwn, FallAsleep, LoadCounters, AddSleeping, LookAtCast, LookAtInjector, BlockSelf, RelockOwn, UndoSleeping, WakeUp, UnlockOwn, LeaveSearch, LockToWake, WakeWorker, UnlockWoken, LowerCount, SetLatch, LockToSettle, WakeSettled, UnlockSettled, SetLockLatch, Free, Stopped}
use Rattle.rayon_machine_places.specs.declared.act.Act.TheVariants.{LockWait}
use Rattle.rayon_machine_places.specs.Places.{act_of}
use Rattle.rayon_machine_runs.specs.World.{Shape, World}
use Rattle.rayon_machine_step_laws.specs.Enabled.{is_worker}

-- what stands lowest on a stack: the place where a party is free with no call open, or the wait for the end of a pool, up
-- to the place where its worker has stopped
pub data Lowest : Type 0 where
  NoCall : Lowest
  PoolWait : Lowest

-- a wait is for the end of a pool, and a call's wait is not
abbrev pub wait_lowest : Target → Option Lowest
wait_lowest Termination = Some PoolWait
wait_lowest (Answer o f) = None

-- what follows is of such a wait
abbrev pub then_lowest : Then → Option Lowest
then_lowest (BeginFound g t) = wait_lowest g
then_lowest (LeaveWait g) = wait_lowest g
then_lowest _ = None

-- a place is one of these, or none
abbrev pub lowest_at : Place → Option Lowest
lowest_at (ProbeWorking k) = wait_lowest k.target
lowest_at (PopWorking k) = wait_lowest k.target
lowest_at (TakeCastWorking k) = wait_lowest k.target
lowest_at (BecomeInactive k) = wait_lowest k.target
lowest_at (ProbeIdle k) = wait_lowest k.target
lowest_at (PopIdle k) = wait_lowest k.target
lowest_at (TakeCastIdle k) = wait_lowest k.target
lowest_at (PickVictim k) = wait_lowest k.target
lowest_at (StealFrom k n) = wait_lowest k.target
lowest_at (PopInjected k) = wait_lowest k.target
lowest_at (AnnounceSelf k) = wait_lowest k.target
lowest_at (GetSleepy k) = wait_lowest k.target
lowest_at (LockOwn k) = wait_lowest k.target
lowest_at (FallAsleep k) = wait_lowest k.target
lowest_at (LoadCounters k) = wait_lowest k.target
lowest_at (AddSleeping k) = wait_lowest k.target
lowest_at (LookAtCast k) = wait_lowest k.target
lowest_at (LookAtInjector k) = wait_lowest k.target
lowest_at (BlockSelf k) = wait_lowest k.target
lowest_at (RelockOwn k) = wait_lowest k.target
lowest_at (UndoSleeping k) = wait_lowest k.target
lowest_at (WakeUp k) = wait_lowest k.target
lowest_at (UnlockOwn k) = wait_lowest k.target
lowest_at (LeaveSearch k) = wait_lowest k.target
lowest_at (LockToWake k) = then_lowest k.then
lowest_at (WakeWorker k) = then_lowest k.then
lowest_at (UnlockWoken k) = then_lowest k.then
lowest_at (LowerCount k s n) = then_lowest n
lowest_at (SetLatch s) = then_lowest s.then
lowest_at (LockToSettle s) = then_lowest s.then
lowest_at (WakeSettled s) = then_lowest s.then
lowest_at (UnlockSettled s) = then_lowest s.then
lowest_at (SetLockLatch c n) = then_lowest n
lowest_at Free = Some NoCall
lowest_at Stopped = Some PoolWait
lowest_at _ = None

-- the lowest place of a stack is this one, and no place above it is any of them
abbrev pub StandsOn : Lowest → Place → List Place → Type 0
StandsOn g x [] = lowest_at x ≡ Some g
StandsOn g x (f ∷ fs) = (lowest_at x ≡ None) × StandsOn g f fs

-- an outside caller is free, and so is a caller's own worker; every other worker waits for the end of its pool. A party
-- that is not of the world has stopped
abbrev pub lowest_of : Shape → Party → Lowest
lowest_of h (Worker p i) = if nat_lt i (h.pool p).workers && ((h.pool p).callers_own && (i == 0)) then NoCall else PoolWait
lowest_of h (Caller c) = if nat_lt c h.callers then NoCall else PoolWait

-- so it is of each party's stack
abbrev pub IsFounded : World → Type 0
IsFounded w = (q : Party) → StandsOn (lowest_of w.shape q) (w.stack q).top (w.stack q).below

-- only who is no worker waits for its call by blocking on a lock latch: a worker works meanwhile
abbrev pub BlocksCallers : World → Type 0
BlocksCallers w = (q : Party) (c : ℕ) → act_of q (w.stack q).top ≡ LockWait c → is_worker q ≡ false
