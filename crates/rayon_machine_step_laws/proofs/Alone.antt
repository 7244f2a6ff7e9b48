-- each step is one party's alone, by `leaves` of Actors
use Rattle.std.specs.Prelude.{IfSome}
use Rattle.rayon_machine_runs.specs.declared.event.Event.{Event}
use Rattle.rayon_machine_runs.specs.declared.event.Event.TheVariants.{Go, From, Refuse, Miss, End, Spawn, Fifo, Cast, Install, Join, Scope as OpenScope, IntoSpawn, IntoFifo, IntoCast, Broadcast, Yield, YieldLocal, EndPool}
use Rattle.rayon_machine_runs.specs.World.{World}
use Rattle.rayon_machine_runs.specs.Steps.{step}
use Rattle.rayon_machine_laws.proofs.Stops.{made}
use Rattle.rayon_machine_step_laws.specs.Alone.{OthersLaw, party_of}
use Rattle.rayon_machine_step_laws.proofs.Actors.{Leaves, leaves}

leaves_of : (w : World) (e : Event) → IfSome (step w e) (Leaves (party_of e) w)
leaves_of w (Go q) = leaves w (Go q)
leaves_of w (From q v) = leaves w (From q v)
leaves_of w (Refuse q) = leaves w (Refuse q)
leaves_of w (Miss q) = leaves w (Miss q)
leaves_of w (End q d) = leaves w (End q d)
leaves_of w (Spawn q p) = leaves w (Spawn q p)
leaves_of w (Fifo q p) = leaves w (Fifo q p)
leaves_of w (Cast q p) = leaves w (Cast q p)
leaves_of w (Install q p) = leaves w (Install q p)
leaves_of w (Join q) = leaves w (Join q)
leaves_of w (OpenScope q p) = leaves w (OpenScope q p)
leaves_of w (IntoSpawn q n) = leaves w (IntoSpawn q n)
leaves_of w (IntoFifo q n) = leaves w (IntoFifo q n)
leaves_of w (IntoCast q n) = leaves w (IntoCast q n)
leaves_of w (Broadcast q p) = leaves w (Broadcast q p)
leaves_of w (Yield q) = leaves w (Yield q)
leaves_of w (YieldLocal q) = leaves w (YieldLocal q)
leaves_of w (EndPool q p) = leaves w (EndPool q p)

pub others_law : OthersLaw
others_law h es w v e r s = record { shape = f.shape; others = f.others }
  where
    f : Leaves (party_of e) w v
    f = made (Leaves (party_of e) w) w v e s (leaves_of w e)
