-- what a step makes of a job's run
--
-- Broken by the wrong machines, in `rayon_machine_orders/proofs`: `fault_is_over_fine`, `job_runs_nowhere`
-- (RecordTeeth).
use Rattle.std.specs.Prelude.{ℕ, ◌+◌, Some, List, ◌≡◌, ◌⊎◌}
use Rattle.rayon_machine_places.specs.declared.place.Party.{Party}
use Rattle.rayon_machine_places.specs.declared.place.Ending.{Ending}
use Rattle.rayon_machine_places.specs.declared.place.JobKind.{JobKind}
use Rattle.rayon_machine_places.specs.declared.place.Place.TheVariants.{Run}
use Rattle.rayon_machine_runs.specs.declared.event.Event.{Event}
use Rattle.rayon_machine_runs.specs.declared.event.Event.TheVariants.{Go, End}
use Rattle.rayon_machine_runs.specs.declared.state.Whereabouts.TheVariants.{Over}
use Rattle.rayon_machine_runs.specs.World.{Shape, World}
use Rattle.rayon_machine_runs.specs.Steps.{step}
use Rattle.rayon_machine_runs.specs.Runs.{IsRun, start}

-- the party's act begins the job's run: the party stands at that run then
pub record Begins (v : World) (e : Event) (t : ℕ) : Type 0 where
  pub party : Party
  pub kind : JobKind
  pub act : e ≡ Go party
  pub runs : (v.stack party).top ≡ Run t kind

-- the event ends the job's run so: the party stood at that run before it
pub record Ends (w : World) (e : Event) (t : ℕ) (d : Ending) : Type 0 where
  pub party : Party
  pub kind : JobKind
  pub event : e ≡ End party d
  pub runs : (w.stack party).top ≡ Run t kind

-- a step, for this job: where its run ends it is over as the run ended, and it comes to be over only so; and its runs are
-- one more only where a party comes to stand at its run, and else as many as before
pub record RunsSo (w v : World) (e : Event) (t : ℕ) : Type 0 where
  pub ends : (d : Ending) → Ends w e t d → (v.job t).at ≡ Over d
  pub over : (d : Ending) → (v.job t).at ≡ Over d → ((w.job t).at ≡ Over d) ⊎ Ends w e t d
  pub begins : ((v.job t).runs ≡ (w.job t).runs) ⊎ (((v.job t).runs ≡ (w.job t).runs + 1) × Begins v e t)

-- so it is over each step of each run
abbrev pub EndsLaw : Type 0
EndsLaw = (shape : Shape) (before : List Event) (w v : World) (e : Event) (t : ℕ) → IsRun (start shape) before w → step w e ≡ Some v → RunsSo w v e t
