-- what is over stays over: each step keeps what it finds final (`Advance`)
use Rattle.std.proofs.Common.{subst}
use Rattle.std.specs.Prelude.{ℕ, Some, ◌≡◌}
use Rattle.rayon_machine_runs.specs.declared.event.Event.{Event}
use Rattle.rayon_machine_runs.specs.World.{World}
use Rattle.rayon_machine_runs.specs.Steps.{step}
use Rattle.rayon_machine_laws.specs.Stays.{StaysLaw}
use Rattle.rayon_machine_laws.proofs.PlacedEvents.{Advance, IsFinal}
use Rattle.rayon_machine_laws.proofs.PlacedRuns.{step_advance}
use Rattle.rayon_machine_laws.proofs.ClaimRuns.{CallsHold, unqueued}
use Rattle.rayon_machine_laws.proofs.ClaimMakes.{always_calls}
use Rattle.rayon_machine_laws.proofs.Stops.{made}

-- what a step keeps of the jobs of a world of a run
pub advances : (w v : World) (e : Event) → CallsHold w → step w e ≡ Some v → Advance w v
advances w v e h s = made (Advance w) w v e s (step_advance w e (unqueued w h) ((h.jobs).feeds) ((h.jobs).ok) ((h.jobs).unmade))

pub stays_law : StaysLaw
stays_law h es w v e t r s = record {
  over = λ d z. subst (λ a. IsFinal a ((v.job t).at)) z (a.final t);
  spent = λ z. subst (λ a. IsFinal a ((v.job t).at)) z (a.final t);
  handed = λ z. subst (λ a. IsFinal a ((v.job t).at)) z (a.final t);
}
  where
    a : Advance w v
    a = advances w v e (always_calls h es w r) s
