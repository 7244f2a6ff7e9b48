-- attended pools: where work waits, no committed worker is left alone with it
--
-- Broken by the wrong machines, in `rayon_machine_orders/proofs`:
-- - injectors: `injector_looked_at_before_counted`, `last_look_skipped`, `leaving_searcher_wakes_nobody`,
--   `waker_stops_one_short` and `news_counts_sleepers_as_awake` (WrongMachines).
-- - latches: `latch_set_by_load_and_store` (WrongMachines).
-- - broadcast lists: `call_of_all_skips_a_worker` (CastTeeth), `waiting_call_of_all_skips_a_worker` (GatherTeeth).
use Rattle.std.specs.Prelude.{ℕ, Bool, true, false, not, ◌&&◌, ◌+◌, ◌==◌, ◌<◌, nat_lt, nat_le, List, [], ◌∷◌, ◌≡◌, ◌⊎◌}
use Rattle.rayon_machine_places.specs.declared.place.Party.{Party}
use Rattle.rayon_machine_places.specs.declared.place.Party.TheVariants.{Worker}
use Rattle.rayon_machine_places.specs.declared.place.Latch.{Latch}
use Rattle.rayon_machine_places.specs.declared.place.Latch.TheVariants.{Terminate, OfCall}
use Rattle.rayon_machine_places.specs.declared.place.Then.{Then}
use Rattle.rayon_machine_places.specs.declared.place.Then.TheVariants.{Called, Gathers}
use Rattle.rayon_machine_places.specs.declared.place.Place.{Place}
use Rattle.rayon_machine_places.specs.declared.place.Place.TheVariants.{RelockOwn, TellNews, LockToWake, WakeWorker, UnlockWoken, LockToSettle, WakeSettled}
use Rattle.rayon_machine_places.specs.declared.place.Wait.{Wait}
use Rattle.rayon_machine_runs.specs.declared.state.Letter.{Letter}
use Rattle.rayon_machine_runs.specs.declared.state.Letter.TheVariants.{Set}
use Rattle.rayon_machine_places.specs.Places.{is_member, latch_of, plan_pool}
use Rattle.rayon_machine_runs.specs.World.{World}
use Rattle.rayon_machine_laws.specs.Committed.{is_committed, is_looking}

-- a list of tasks has one
abbrev pub is_filled : List ℕ → Bool
is_filled [] = false
is_filled (t ∷ ts) = true

-- a worker of the pool looks
pub record HasLooker (w : World) (p : ℕ) : Type 0 where
  pub worker : ℕ
  pub below : worker < (w.shape.pool p).workers
  pub looks : is_looking w p worker ≡ true

-- the party has queued a job in the pool's injector and has not yet told the news of it there
abbrev pub has_pushed : Party → Place → ℕ → Bool
has_pushed q (TellNews n e) p = (plan_pool n == p) && not (is_member q p)
has_pushed q _ p = false

-- the party still owes the pool a wake and has not passed this worker: its walk has not yet made the Wake there
abbrev pub owes_wake : Place → ℕ → ℕ → Bool
owes_wake (LockToWake k) p i = (k.pool == p) && nat_lt 0 k.owed && nat_le k.worker i
owes_wake (WakeWorker k) p i = (k.pool == p) && nat_lt 0 k.owed && nat_le k.worker i
owes_wake (UnlockWoken k) p i = (k.pool == p) && nat_lt 0 k.owed && nat_lt k.worker i
owes_wake _ p i = false

-- the party still owes the pool a wake and has not passed some committed worker of it
pub record HasUnpassed (w : World) (p : ℕ) (x : Place) : Type 0 where
  pub worker : ℕ
  pub below : worker < (w.shape.pool p).workers
  pub committed : is_committed w p worker ≡ true
  pub owed : owes_wake x p worker ≡ true

-- the pool has a waker: a party that has pushed there and not told of it, or that still owes a wake to some committed worker
pub record HasWaker (w : World) (p : ℕ) : Type 0 where
  pub party : Party
  pub wakes : (has_pushed party (w.stack party).top p ≡ true) ⊎ HasUnpassed w p (w.stack party).top

-- where a pool's injector is filled and a worker of it is committed, a worker of it looks or the pool has a waker
abbrev pub IsInjectorAttended : World → Type 0
IsInjectorAttended w = (p i : ℕ) → i < (w.shape.pool p).workers → is_filled (w.pool p).injector ≡ true → is_committed w p i ≡ true → HasLooker w p ⊎ HasWaker w p

-- a blocked worker has nothing in its own deque
abbrev pub IsEmptyHanded : World → Type 0
IsEmptyHanded w = (p i : ℕ) → (w.seat p i).blocked ≡ true → (w.seat p i).own ≡ []

-- what follows a walk says that its party has put tasks into the broadcast lists of the pool, and calls all workers
abbrev pub is_calling : Then → Bool
is_calling Called = true
is_calling (Gathers o) = true
is_calling _ = false

-- the party has put tasks into the broadcast lists of the pool, which has so many workers, and has not passed this
-- worker: its walk has not yet made the Wake there, and owes enough wakes not to stop before
abbrev pub owes_cast : Place → ℕ → ℕ → ℕ → Bool
owes_cast (LockToWake k) n p i = (is_calling k.then && (k.pool == p)) && (nat_le n (k.owed + k.worker) && nat_le k.worker i)
owes_cast (WakeWorker k) n p i = (is_calling k.then && (k.pool == p)) && (nat_le n (k.owed + k.worker) && nat_le k.worker i)
owes_cast (UnlockWoken k) n p i = (is_calling k.then && (k.pool == p)) && (nat_le n (k.owed + k.worker + 1) && nat_lt k.worker i)
owes_cast _ n p i = false

-- a party owes the worker the wake for its broadcast list
pub record HasCaster (w : World) (p i : ℕ) : Type 0 where
  pub party : Party
  pub casts : owes_cast (w.stack party).top (w.shape.pool p).workers p i ≡ true

-- where a committed worker's broadcast list is filled, some party has put tasks there and has not passed that worker
abbrev pub IsCastAttended : World → Type 0
IsCastAttended w = (p i : ℕ) → is_filled ((w.pool p).casts i) ≡ true → is_committed w p i ≡ true → HasCaster w p i

-- the letter of the latch that a worker waits on: its own terminate latch, or that of a call
abbrev pub letter_at : World → ℕ → ℕ → Latch → Letter
letter_at w p i Terminate = (w.seat p i).latch
letter_at w p i (OfCall c) = (w.call c).latch

abbrev pub same_latch : Latch → Latch → Bool
same_latch Terminate Terminate = true
same_latch (OfCall c) (OfCall d) = c == d
same_latch _ _ = false

-- the party has made the Set of this very latch, and not yet the Wake of its worker
abbrev pub settles : Place → ℕ → ℕ → Latch → Bool
settles (LockToSettle s) p i l = ((s.pool == p) && (s.worker == i)) && same_latch s.latch l
settles (WakeSettled s) p i l = ((s.pool == p) && (s.worker == i)) && same_latch s.latch l
settles _ p i l = false

-- some party has set this latch of the worker, and not yet woken the worker
pub record HasSettler (w : World) (p i : ℕ) (l : Latch) : Type 0 where
  pub party : Party
  pub settling : settles (w.stack party).top p i l ≡ true

-- a blocked worker is about to take its lock again, in the wait that it blocked itself in
pub record IsWaiting (w : World) (p i : ℕ) : Type 0 where
  pub wait : Wait
  pub place : (w.stack (Worker p i)).top ≡ RelockOwn wait

-- a blocked worker waits, and where the latch that it waits on is set, some party has set it and not yet woken the worker
abbrev pub IsLatchAttended : World → Type 0
IsLatchAttended w = (p i : ℕ) → (w.seat p i).blocked ≡ true → (k : IsWaiting w p i) × (letter_at w p i (latch_of (k.wait.target)) ≡ Set → HasSettler w p i (latch_of (k.wait.target)))
