-- how many wakes are owed: by a worker that leaves its search, and by a party that tells the news of a job
--
-- Broken by the wrong machines, in `rayon_machine_orders/proofs`: `leaving_searcher_wakes_one`,
-- `news_takes_each_queue_for_empty` (CountTeeth).
use Rattle.std.specs.Prelude.{ℕ, Bool, true, false, ◌+◌, ◌==◌, ◌<◌, ◌≤◌, min, if◌then◌else◌, Some, List, ◌≡◌}
use Rattle.rayon_machine_places.specs.declared.place.Party.{Party}
use Rattle.rayon_machine_places.specs.declared.place.Place.{Place}
use Rattle.rayon_machine_places.specs.declared.place.Place.TheVariants.{LockToWake, WakeWorker, UnlockWoken}
use Rattle.rayon_machine_places.specs.declared.act.Act.TheVariants.{SubInactive, News}
use Rattle.rayon_machine_runs.specs.declared.event.Event.{Event}
use Rattle.rayon_machine_runs.specs.declared.event.Event.TheVariants.{Go}
use Rattle.rayon_machine_places.specs.Places.{act_of, own_pool}
use Rattle.rayon_machine_runs.specs.World.{Shape, World, counts_at}
use Rattle.rayon_machine_runs.specs.Steps.{step}
use Rattle.rayon_machine_runs.specs.Runs.{IsRun, start}

-- how many wakes a party that stands here owes to this pool
abbrev pub owed_at : ℕ → Place → ℕ
owed_at p (LockToWake k) = if p == k.pool then k.owed else 0
owed_at p (WakeWorker k) = if p == k.pool then k.owed else 0
owed_at p (UnlockWoken k) = if p == k.pool then k.owed else 0
owed_at p _ = 0

-- how many workers its walk has passed: the Wake at each of them is made
abbrev pub passed_at : Place → ℕ
passed_at (LockToWake k) = k.worker
passed_at (WakeWorker k) = k.worker
passed_at (UnlockWoken k) = k.worker + 1
passed_at _ = 0

-- a party that stands here owes so many wakes to this pool and none to any other, and has passed no worker
pub record OwesAll (x : Place) (p n : ℕ) : Type 0 where
  pub owed : owed_at p x ≡ n
  pub others : (r : ℕ) → (r == p) ≡ false → owed_at r x ≡ 0
  pub passed : passed_at x ≡ 0

-- a party makes its next act (from w to v), in some world of a run from a start
pub record Acts (shape : Shape) (before : List Event) (w v : World) (q : Party) : Type 0 where
  pub reached : IsRun (start shape) before w
  pub made : step w (Go q) ≡ Some v

-- a worker that leaves its search, with a task or without, owes its pool a wake for each worker that sleeps there, but
-- no more than two
abbrev pub LeaverLaw : Type 0
LeaverLaw = (shape : Shape) (before : List Event) (w v : World) (q : Party) → Acts shape before w v q → act_of q (w.stack q).top ≡ SubInactive →
    OwesAll (v.stack q).top (own_pool q) (min 2 (counts_at w (own_pool q)).sleeping)

-- what a party that stands here owes to this pool for one new job, where so many of the pool's workers sleep and so
-- many are inactive: no wake where nobody sleeps, or where the queue was empty and an inactive worker is awake, and
-- else one
pub record OwesForOne (x : Place) (p : ℕ) (was_empty : Bool) (sleeping inactive : ℕ) : Type 0 where
  pub calm : sleeping ≡ 0 → OwesAll x p 0
  pub beside : was_empty ≡ true → sleeping < inactive → OwesAll x p 0
  pub filled : 0 < sleeping → was_empty ≡ false → OwesAll x p 1
  pub alone : 0 < sleeping → inactive ≤ sleeping → OwesAll x p 1

-- so it is of each party that tells the pool's news, by what it saw of the queue before its push and the pool's workers
-- in that step
abbrev pub TellerLaw : Type 0
TellerLaw = (shape : Shape) (before : List Event) (w v : World) (q : Party) (p : ℕ) (was_empty : Bool) → Acts shape before w v q →
    act_of q (w.stack q).top ≡ News p was_empty → OwesForOne (v.stack q).top p was_empty (counts_at w p).sleeping (counts_at w p).inactive
