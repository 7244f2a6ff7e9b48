-- what each latch says while it is not set, by where its worker stands, and where a worker leaves what it waits in
--
-- Broken by the wrong machines, in `rayon_machine_orders/proofs`: `worker_stops_when_idle` for `StopsOnSet`,
-- `latch_is_left_unset` for `IsLettered` (SeatTeeth).
use Rattle.std.specs.Prelude.{ℕ, false, ◌<◌, if◌then◌else◌, None, ◌≡◌, ◌⊎◌}
use Rattle.rayon_machine_places.specs.declared.place.Party.{Party}
use Rattle.rayon_machine_places.specs.declared.place.Party.TheVariants.{Worker}
use Rattle.rayon_machine_places.specs.declared.place.Latch.{Latch}
use Rattle.rayon_machine_places.specs.declared.place.Latch.TheVariants.{Terminate, OfCall}
use Rattle.rayon_machine_places.specs.declared.place.Wait.{Wait}
use Rattle.rayon_machine_places.specs.declared.place.Place.{Place}
use Rattle.rayon_machine_places.specs.declared.place.Place.TheVariants.{LockOwn, FallAsleep, LoadCounters, AddSleeping, LookAtCast, LookAtInjector, BlockSelf, RelockOwn, UndoSleeping, WakeUp, LeaveSearch, Stopped}
use Rattle.rayon_machine_runs.specs.declared.state.Letter.{Letter}
use Rattle.rayon_machine_runs.specs.declared.state.Letter.TheVariants.{Unset, Sleepy, Sleeping, Set}
use Rattle.rayon_machine_places.specs.Places.{latch_of, same_party}
use Rattle.rayon_machine_runs.specs.World.{World}
use Rattle.rayon_machine_laws.specs.Attended.{letter_at, same_latch}

-- a worker stops only once its terminate latch is set, and leaves its search without a task only once the latch that it
-- waits for is
pub record StopsOnSet (w : World) : Type 0 where
  pub stopped : (p i : ℕ) → i < (w.shape.pool p).workers → (w.stack (Worker p i)).top ≡ Stopped → (w.seat p i).latch ≡ Set
  pub leaves : (p i : ℕ) (k : Wait) → i < (w.shape.pool p).workers → (w.stack (Worker p i)).top ≡ LeaveSearch k → k.found ≡ None → letter_at w p i (latch_of k.target) ≡ Set

-- the letter that a worker has written into a latch that it waits for, where it stands here, and nobody has set it: sleepy
-- where it is about to take its own lock and to fall asleep, sleeping from then on until it wakes up
abbrev pub letter_for : Latch → Place → Letter
letter_for l (LockOwn k) = if same_latch l (latch_of k.target) then Sleepy else Unset
letter_for l (FallAsleep k) = if same_latch l (latch_of k.target) then Sleepy else Unset
letter_for l (LoadCounters k) = if same_latch l (latch_of k.target) then Sleeping else Unset
letter_for l (AddSleeping k) = if same_latch l (latch_of k.target) then Sleeping else Unset
letter_for l (LookAtCast k) = if same_latch l (latch_of k.target) then Sleeping else Unset
letter_for l (LookAtInjector k) = if same_latch l (latch_of k.target) then Sleeping else Unset
letter_for l (BlockSelf k) = if same_latch l (latch_of k.target) then Sleeping else Unset
letter_for l (RelockOwn k) = if same_latch l (latch_of k.target) then Sleeping else Unset
letter_for l (UndoSleeping k) = if same_latch l (latch_of k.target) then Sleeping else Unset
letter_for l (WakeUp k) = if same_latch l (latch_of k.target) then Sleeping else Unset
letter_for l _ = Unset

-- where a call's latch is not set, it says what one party has written there, and no other party stands where it would have
-- written anything there
pub record CallLettered (w : World) (c : ℕ) : Type 0 where
  pub waiter : Party
  pub letter : (w.call c).latch ≡ letter_for (OfCall c) (w.stack waiter).top
  pub others : (q : Party) → same_party q waiter ≡ false → letter_for (OfCall c) (w.stack q).top ≡ Unset

-- each latch is set, or says what its worker has written there: a terminate latch what its own worker has
pub record IsLettered (w : World) : Type 0 where
  pub terminate : (p i : ℕ) → ((w.seat p i).latch ≡ Set) ⊎ ((w.seat p i).latch ≡ letter_for Terminate (w.stack (Worker p i)).top)
  pub call : (c : ℕ) → ((w.call c).latch ≡ Set) ⊎ CallLettered w c
