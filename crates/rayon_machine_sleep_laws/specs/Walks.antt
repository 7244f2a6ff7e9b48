-- walks of wakes: who owes wakes to a pool goes from worker to worker, and makes no more wakes than it owes
--
-- Broken by the wrong machine `walk_keeps_owing` of SleepTeeth.
use Rattle.std.specs.Prelude.{ℕ, Bool, true, false, ◌+◌, ◌-◌, ◌<◌, ◌≤◌, if◌then◌else◌, List, ◌≡◌, ◌⊎◌}
use Rattle.rayon_machine_places.specs.declared.place.Party.{Party}
use Rattle.rayon_machine_places.specs.declared.place.Place.{Place}
use Rattle.rayon_machine_places.specs.declared.place.Place.TheVariants.{LockToWake, WakeWorker, UnlockWoken}
use Rattle.rayon_machine_places.specs.declared.act.Act.{Act}
use Rattle.rayon_machine_places.specs.declared.act.Act.TheVariants.{Lock, Wake, Unlock}
use Rattle.rayon_machine_runs.specs.declared.event.Event.{Event}
use Rattle.rayon_machine_places.specs.Places.{act_of}
use Rattle.rayon_machine_runs.specs.World.{Shape, World}
use Rattle.rayon_machine_laws.specs.Leavers.{Acts, owed_at}

-- a place of a walk of wakes
abbrev pub is_walk : Place → Bool
is_walk (LockToWake k) = true
is_walk (WakeWorker k) = true
is_walk (UnlockWoken k) = true
is_walk _ = false

-- a party that stands here in a walk makes this act next, and owes so many wakes to this pool
pub record WalksTo (q : Party) (x : Place) (a : Act) (p n : ℕ) : Type 0 where
  pub walks : is_walk x ≡ true
  pub act : act_of q x ≡ a
  pub owed : owed_at p x ≡ n

-- how a walk goes on at worker i of pool p, where its party owes n wakes: it takes the worker's lock, makes the Wake there,
-- by which it owes one wake less exactly where the worker was blocked, and leaves the lock. Where it still owes a wake it
-- goes on to the next worker; where it owes none, or there is no next one, the walk is over
pub record WalksOn (w v : World) (q : Party) (p i n : ℕ) : Type 0 where
  pub locked : WalksTo q (w.stack q).top (Lock p i) p n → WalksTo q (v.stack q).top (Wake p i) p n
  pub woken : WalksTo q (w.stack q).top (Wake p i) p n → WalksTo q (v.stack q).top (Unlock p i) p (if (w.seat p i).blocked then n - 1 else n)
  pub next : WalksTo q (w.stack q).top (Unlock p i) p n → 0 < n → i + 1 < (w.shape.pool p).workers → WalksTo q (v.stack q).top (Lock p (i + 1)) p n
  pub over : WalksTo q (w.stack q).top (Unlock p i) p n → (n ≡ 0) ⊎ ((w.shape.pool p).workers ≤ i + 1) → is_walk (v.stack q).top ≡ false

-- so it is of each act in each run
abbrev pub WalkLaw : Type 0
WalkLaw = (shape : Shape) (before : List Event) (w v : World) (q : Party) (p i n : ℕ) → Acts shape before w v q → WalksOn w v q p i n
