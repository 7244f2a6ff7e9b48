-- each step is one party's alone
--
-- Broken by the wrong machine `wake_moves_the_woken` (AloneTeeth).
use Rattle.std.specs.Prelude.{false, Some, List, ◌≡◌}
use Rattle.rayon_machine_places.specs.declared.place.Party.{Party}
use Rattle.rayon_machine_runs.specs.declared.event.Event.{Event}
use Rattle.rayon_machine_runs.specs.declared.event.Event.TheVariants.{Go, From, Refuse, Miss, End, Spawn, Fifo, Cast, Install, Join, Scope as OpenScope, IntoSpawn, IntoFifo, IntoCast, Broadcast, Yield, YieldLocal, EndPool}
use Rattle.rayon_machine_places.specs.Places.{same_party}
use Rattle.rayon_machine_runs.specs.World.{Shape, World}
use Rattle.rayon_machine_runs.specs.Steps.{step}
use Rattle.rayon_machine_runs.specs.Runs.{IsRun, start}

-- the party whose step an event is
abbrev pub party_of : Event → Party
party_of (Go q) = q
party_of (From q v) = q
party_of (Refuse q) = q
party_of (Miss q) = q
party_of (End q d) = q
party_of (Spawn q p) = q
party_of (Fifo q p) = q
party_of (Cast q p) = q
party_of (Install q p) = q
party_of (Join q) = q
party_of (OpenScope q p) = q
party_of (IntoSpawn q n) = q
party_of (IntoFifo q n) = q
party_of (IntoCast q n) = q
party_of (Broadcast q p) = q
party_of (Yield q) = q
party_of (YieldLocal q) = q
party_of (EndPool q p) = q

-- a step is one party's alone: every other stands where it stood, and there are no other pools, workers or callers
pub record LeavesOthers (w v : World) (e : Event) : Type 0 where
  pub shape : v.shape ≡ w.shape
  pub others : (r : Party) → same_party r (party_of e) ≡ false → v.stack r ≡ w.stack r

-- so it is of each step of each run
abbrev pub OthersLaw : Type 0
OthersLaw = (shape : Shape) (before : List Event) (w v : World) (e : Event) → IsRun (start shape) before w → step w e ≡ Some v → LeavesOthers w v e
