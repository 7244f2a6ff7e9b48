-- the turn of a pool between a worker's last Announce and its TryAdd that is done
--
-- Without the premise on the number of raises the law is false. With a counter of one bit another worker's Announce and
-- one News make a whole turn. Then the first worker's TryAdd is done although there was news: `whole_turn` and
-- `turned_round` in proofs/Vectors. With 32 bits it is not done there (`turned_not`).
-- Why the law holds: an Announce leaves the turn even, and a News raises an even turn. A TryAdd is done only if the
-- counter is the announced one. Two turns less than 2^bits apart with the same remainder are the same.
-- Broken by the wrong machine `announce_leaves_event_counter` (WrongMachines), in `rayon_machine_orders/proofs`.
use Rattle.std.specs.Prelude.{ℕ, Bool, true, false, ◌&&◌, ◌+◌, ◌^◌, ◌==◌, ◌<◌, Some, List, [], ◌∷◌, ◌≡◌}
use Rattle.rayon_machine_places.specs.declared.place.Party.TheVariants.{Worker}
use Rattle.rayon_machine_places.specs.declared.place.Place.{Place}
use Rattle.rayon_machine_places.specs.declared.place.Place.TheVariants.{AnnounceSelf, AddSleeping, LookAtCast, TellNews}
use Rattle.rayon_machine_runs.specs.declared.event.Event.{Event}
use Rattle.rayon_machine_runs.specs.declared.event.Event.TheVariants.{Go}
use Rattle.rayon_machine_places.specs.Places.{plan_pool, same_party}
use Rattle.rayon_machine_runs.specs.World.{Shape, World}
use Rattle.rayon_machine_runs.specs.Steps.{step}
use Rattle.rayon_machine_runs.specs.Runs.{IsRun, start}

-- a run in which no event passes the test
abbrev pub IsRunWithout : (World → Event → Bool) → World → List Event → World → Type 0
IsRunWithout test w [] u = u ≡ w
IsRunWithout test w (e ∷ es) u = (v : World) × (test w e ≡ false) × (step w e ≡ Some v) × IsRunWithout test v es u

-- the party's next act is to announce itself
abbrev pub is_announcing : Place → Bool
is_announcing (AnnounceSelf k) = true
is_announcing _ = false

-- the party's next act is to count itself sleeping, if the counters are still as it read them
abbrev pub is_adding : Place → Bool
is_adding (AddSleeping k) = true
is_adding _ = false

-- the party has just counted itself sleeping
abbrev pub is_added : Place → Bool
is_added (LookAtCast k) = true
is_added _ = false

-- the event is an Announce of that worker
abbrev pub is_announce : ℕ → ℕ → World → Event → Bool
is_announce p i w (Go q) = same_party (Worker p i) q && is_announcing (w.stack q).top
is_announce p i w _ = false

-- the party's next act is to tell that pool's news
abbrev pub tells_news : ℕ → Place → Bool
tells_news p (TellNews n e) = plan_pool n == p
tells_news p _ = false

-- the event is a News of that pool
abbrev pub is_news : ℕ → World → Event → Bool
is_news p w (Go q) = tells_news p (w.stack q).top
is_news p w _ = false

-- a worker announces itself (from w to v), in some world of a run from a start
pub record Announces (shape : Shape) (before : List Event) (w v : World) (p i : ℕ) : Type 0 where
  pub reached : IsRun (start shape) before w
  pub place : is_announcing (w.stack (Worker p i)).top ≡ true
  pub made : step w (Go (Worker p i)) ≡ Some v

-- a worker's TryAdd is done (from u to z): it is counted as sleeping
pub record AddsItself (u z : World) (p i : ℕ) : Type 0 where
  pub place : is_adding (u.stack (Worker p i)).top ≡ true
  pub made : step u (Go (Worker p i)) ≡ Some z
  pub done : is_added (z.stack (Worker p i)).top ≡ true

-- where fewer raises of the turn than the event counter has values lie between a worker's last Announce and its TryAdd that is done, there are none, and no News of its pool lies between
abbrev pub TurnLaw : Type 0
TurnLaw = (shape : Shape) (before : List Event) (p i : ℕ) (w v u z : World) (between : List Event) →
    Announces shape before w v p i → IsRunWithout (is_announce p i) v between u → AddsItself u z p i →
    (u.pool p).turn < (v.pool p).turn + 2 ^ shape.jec_bits →
    ((u.pool p).turn ≡ (v.pool p).turn) × IsRunWithout (is_news p) v between u
