-- in which sets a worker is, by where it stands
--
-- Broken by the wrong machines, in `rayon_machine_orders/proofs`: `busy_worker_is_inactive` (SeatTeeth).
use Rattle.std.specs.Prelude.{ℕ, Bool, true, false, ◌||◌, ◌≡◌}
use Rattle.rayon_machine_places.specs.declared.place.Party.TheVariants.{Worker}
use Rattle.rayon_machine_places.specs.declared.place.Place.{Place}
use Rattle.rayon_machine_places.specs.declared.place.Place.TheVariants.{ProbeIdle, PopIdle, TakeCastIdle, PickVictim, StealFrom, PopInjected, AnnounceSelf, GetSleepy, LockOwn, FallAsleep, LoadCounters, AddSleeping, LookAtCast, LookAtInjector, BlockSelf, RelockOwn, UndoSleeping, WakeUp, UnlockOwn, LeaveSearch}
use Rattle.rayon_machine_runs.specs.World.{World}

-- where a worker is inactive: in its search, from the act by which it becomes inactive to the one by which it leaves
abbrev pub inactive_at : Place → Bool
inactive_at (ProbeIdle k) = true
inactive_at (PopIdle k) = true
inactive_at (TakeCastIdle k) = true
inactive_at (PickVictim k) = true
inactive_at (StealFrom k n) = true
inactive_at (PopInjected k) = true
inactive_at (AnnounceSelf k) = true
inactive_at (GetSleepy k) = true
inactive_at (LockOwn k) = true
inactive_at (FallAsleep k) = true
inactive_at (LoadCounters k) = true
inactive_at (AddSleeping k) = true
inactive_at (LookAtCast k) = true
inactive_at (LookAtInjector k) = true
inactive_at (BlockSelf k) = true
inactive_at (RelockOwn k) = true
inactive_at (UndoSleeping k) = true
inactive_at (WakeUp k) = true
inactive_at (UnlockOwn k) = true
inactive_at (LeaveSearch k) = true
inactive_at _ = false

-- where a worker counts as sleeping that is not blocked
abbrev pub asleep_at : Place → Bool
asleep_at (LookAtCast k) = true
asleep_at (LookAtInjector k) = true
asleep_at (BlockSelf k) = true
asleep_at (UndoSleeping k) = true
asleep_at _ = false

-- where a worker is to take its own lock again, blocked or woken
abbrev pub relocks_at : Place → Bool
relocks_at (RelockOwn k) = true
relocks_at _ = false

-- a worker is inactive exactly where it stands in its search, counts as sleeping exactly where it is about to block itself
-- or to undo that, and while it is blocked, and is blocked only where it is to take its own lock again
pub record IsSeated (w : World) : Type 0 where
  pub inactive : (p i : ℕ) → (w.seat p i).inactive ≡ inactive_at (w.stack (Worker p i)).top
  pub asleep : (p i : ℕ) → (w.seat p i).asleep ≡ (asleep_at (w.stack (Worker p i)).top || (w.seat p i).blocked)
  pub blocked : (p i : ℕ) → (w.seat p i).blocked ≡ true → relocks_at (w.stack (Worker p i)).top ≡ true
