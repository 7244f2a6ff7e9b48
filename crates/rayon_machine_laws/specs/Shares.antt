-- who keeps a pool from ending
--
-- `NoEarlyEnd` is broken by the wrong machines `scope_leaves_its_job` (ScopeTeeth) and `end_sets_latches_at_once`
-- (CountTeeth), in `rayon_machine_orders/proofs`.
use Rattle.rayon_machine_runs.specs.Steps.{is_piece}
use Rattle.rayon_machine_places.specs.declared.place.JobKind.{JobKind}
use Rattle.std.specs.Prelude.{ℕ, Bool, true, false, ◌+◌, ◌==◌, List, [], ◌∷◌, ◌≡◌}
use Rattle.rayon_machine_places.specs.declared.place.Party.{Party}
use Rattle.rayon_machine_places.specs.declared.place.JobKind.TheVariants.{Detached, Scoped, PieceOf}
use Rattle.rayon_machine_places.specs.declared.place.Target.{Target}
use Rattle.rayon_machine_places.specs.declared.place.Target.TheVariants.{Termination, Answer}
use Rattle.rayon_machine_places.specs.declared.place.Plan.{Plan}
use Rattle.rayon_machine_places.specs.declared.place.Plan.TheVariants.{Send, Fork, Gather}
use Rattle.rayon_machine_places.specs.declared.place.Share.{Share}
use Rattle.rayon_machine_places.specs.declared.place.Share.TheVariants.{PoolValue, OfJob, Body}
use Rattle.rayon_machine_places.specs.declared.place.Then.{Then}
use Rattle.rayon_machine_places.specs.declared.place.Then.TheVariants.{BeginFound, LeaveWait, Await, RunFirst, Gathers}
use Rattle.rayon_machine_places.specs.declared.place.Place.{Place}
use Rattle.rayon_machine_places.specs.declared.place.Place.TheVariants.{ProbeWorking, PopWorking, TakeCastWorking, BecomeInactive, ProbeIdle, PopIdle, TakeCastIdle, PickVictim, StealFrom, PopInjected, AnnounceSelf, GetSleepy, LockOwn, FallAsleep, LoadCounters, AddSleeping, LookAtCast, LookAtInjector, BlockSelf, RelockOwn, UndoSleeping, WakeUp, UnlockOwn, LeaveSearch, JoinProbe, JoinPop, JoinTakeCast, GrowCall, LookQueue, PushJob, AddToFifo, TellNews, LockToWake, WakeWorker, UnlockWoken, WaitForLock, TakeResult, LowerCount, SetLatch, LockToSettle, WakeSettled, UnlockSettled, FirstSide, SecondSide, AtOnce, PushForAll, LowerForAll, GrowScope, OpenSlot, CloseSlot, StoreBody, StoreSlot, SetLockLatch, ScopeBody, OpenForAll, CloseForAll, GrowCast, DealPieces, StorePiece}
use Rattle.rayon_machine_runs.specs.declared.state.Letter.TheVariants.{Set as IsSet}
use Rattle.rayon_machine_runs.specs.declared.state.Whereabouts.{Whereabouts}
use Rattle.rayon_machine_runs.specs.declared.state.Whereabouts.TheVariants.{InDeque, Injected, InFifo, Running, InCast}
use Rattle.rayon_machine_places.specs.Places.{plan_job}
use Rattle.rayon_machine_runs.specs.World.{Stack, World}
use Rattle.rayon_machine_laws.specs.Once.{one}

-- a call keeps a count up for its job: one that waits, by what it waits for
abbrev pub share_target : ℕ → Target → ℕ
share_target t Termination = 0
share_target t (Answer o f) = one (t == o.job)

-- after its push a detached job and a job of a scope have the share, and a call that waits keeps it
abbrev pub share_rest : ℕ → Plan → ℕ
share_rest t (Send o) = one (t == o.job)
share_rest t (Fork o a) = one (t == o.job)
share_rest t (Gather g) = one (t == g.call.job)
share_rest t _ = 0

-- what follows others' waking keeps the share of the call that goes on then
abbrev pub share_then : ℕ → Then → ℕ
share_then t (BeginFound g u) = share_target t g
share_then t (LeaveWait g) = share_target t g
share_then t (Await o) = one (t == o.job)
share_then t (Gathers o) = one (t == o.job)
share_then t (RunFirst o a) = one (t == o.job)
share_then t _ = 0

-- the share that is about to be given back
abbrev pub share_of : ℕ → Share → ℕ
share_of t PoolValue = 0
share_of t Body = 0
share_of t (OfJob u) = one (t == u)

-- how often a place keeps a share for job t: from its call's Raise to its Lower
abbrev pub share : ℕ → Place → ℕ
share t (ProbeWorking k) = share_target t k.target
share t (PopWorking k) = share_target t k.target
share t (TakeCastWorking k) = share_target t k.target
share t (BecomeInactive k) = share_target t k.target
share t (ProbeIdle k) = share_target t k.target
share t (PopIdle k) = share_target t k.target
share t (TakeCastIdle k) = share_target t k.target
share t (PickVictim k) = share_target t k.target
share t (PopInjected k) = share_target t k.target
share t (AnnounceSelf k) = share_target t k.target
share t (GetSleepy k) = share_target t k.target
share t (LockOwn k) = share_target t k.target
share t (FallAsleep k) = share_target t k.target
share t (LoadCounters k) = share_target t k.target
share t (AddSleeping k) = share_target t k.target
share t (LookAtCast k) = share_target t k.target
share t (LookAtInjector k) = share_target t k.target
share t (BlockSelf k) = share_target t k.target
share t (RelockOwn k) = share_target t k.target
share t (UndoSleeping k) = share_target t k.target
share t (WakeUp k) = share_target t k.target
share t (UnlockOwn k) = share_target t k.target
share t (LeaveSearch k) = share_target t k.target
share t (StealFrom k n) = share_target t k.target
share t (JoinProbe o) = one (t == o.job)
share t (JoinPop o) = one (t == o.job)
share t (JoinTakeCast o) = one (t == o.job)
share t (FirstSide o a) = one (t == o.job)
share t (SecondSide o) = one (t == o.job)
share t (ScopeBody o) = one (t == o.job)
share t (AtOnce p u) = one (t == u)
share t (WaitForLock o) = one (t == o.job)
share t (TakeResult o f) = one (t == o.job)
share t (GrowCall n) = one (t == plan_job n)
share t (GrowScope o) = one (t == o.job)
share t (OpenSlot n) = one (t == plan_job n)
share t (CloseSlot n) = one (t == plan_job n)
share t (StoreBody o e) = one (t == o.job)
share t (StoreSlot c o u e) = one (t == u)
share t (StorePiece c o u e) = one (t == u)
share t (LookQueue n) = one (t == plan_job n)
share t (PushJob n e) = one (t == plan_job n)
share t (AddToFifo f) = one (t == f.job)
share t (OpenForAll c) = one (is_piece c t)
share t (PushForAll c) = one (is_piece c t)
share t (CloseForAll c) = one (is_piece c t)
share t (LowerForAll c) = one (is_piece c t)
share t (GrowCast g) = one (t == g.call.job)
share t (DealPieces g) = one (t == g.call.job)
share t (TellNews n e) = share_rest t n
share t (LockToWake k) = share_then t k.then
share t (WakeWorker k) = share_then t k.then
share t (UnlockWoken k) = share_then t k.then
share t (LowerCount p s n) = share_of t s + share_then t n
share t (SetLatch k) = share_then t k.then
share t (LockToSettle k) = share_then t k.then
share t (WakeSettled k) = share_then t k.then
share t (UnlockSettled k) = share_then t k.then
share t (SetLockLatch c n) = share_then t n
share t _ = 0

-- how often these frames do
abbrev pub shares_in : ℕ → List Place → ℕ
shares_in t [] = 0
shares_in t (f ∷ fs) = share t f + shares_in t fs

-- how often a whole stack does
abbrev pub shares : ℕ → Stack → ℕ
shares t k = share t k.top + shares_in t k.below

-- a job that is queued or runs
abbrev pub is_busy : Whereabouts → Bool
is_busy (InDeque p i) = true
is_busy (Injected p) = true
is_busy (InFifo p i b7) = true
is_busy (InCast p i) = true
is_busy (Running q) = true
is_busy _ = false

-- a job of this kind has its share of a call's count: it is of a scope, or a piece of a broadcast that waits
abbrev pub is_scoped : JobKind → Bool
is_scoped (Scoped c o) = true
is_scoped (PieceOf c o) = true
is_scoped k = false

-- a pool that has ended: its value is given up, and so is the value's share of the count; no call made at the pool
-- keeps a share of a count, no job made at it has one, those of scopes neither, and no detached job of it is queued, in
-- a FIFO list or running
pub record IsGone (w : World) (p : ℕ) : Type 0 where
  pub held : (w.pool p).held ≡ false
  pub counted : (w.pool p).counted ≡ false
  pub calls : (q : Party) (t : ℕ) → (w.job t).pool ≡ p → shares t (w.stack q) ≡ 0
  pub jobs : (t : ℕ) → (w.job t).pool ≡ p → (w.job t).counted ≡ false
  pub detached : (t : ℕ) → (w.job t).kind ≡ Detached p → is_busy (w.job t).at ≡ false

-- no pool ends early: where one of its terminate latches is set it has ended
abbrev pub NoEarlyEnd : World → Type 0
NoEarlyEnd w = (p i : ℕ) → (w.seat p i).latch ≡ IsSet → IsGone w p
