-- where a step may bring a job or a token, by where it was
--
-- Broken by the wrong machines `over_runs_again` and `taken_is_handed_back`, in `rayon_machine_orders/proofs`
-- (AgainTeeth).
use Rattle.std.specs.Prelude.{ℕ, Bool, true, false, ◌&&◌, ◌<◌, Some, List, ◌≡◌, ◌⊎◌}
use Rattle.rayon_machine_places.specs.declared.place.Party.{Party}
use Rattle.rayon_machine_places.specs.declared.place.Ending.{Ending}
use Rattle.rayon_machine_runs.specs.declared.event.Event.{Event}
use Rattle.rayon_machine_runs.specs.declared.event.Event.TheVariants.{Go, End}
use Rattle.rayon_machine_runs.specs.declared.state.Whereabouts.{Whereabouts}
use Rattle.rayon_machine_runs.specs.declared.state.Whereabouts.TheVariants.{Made, InDeque, Injected, InFifo, InCast, Retaken, Running, Over, HandedBack, Spent}
use Rattle.rayon_machine_places.specs.Places.{same_party}
use Rattle.rayon_machine_runs.specs.World.{Shape, World}
use Rattle.rayon_machine_runs.specs.Steps.{step}
use Rattle.rayon_machine_runs.specs.Runs.{IsRun, start}

-- where an act of this party may bring a job, a row for each way: what the party's call has made is queued, begun or
-- handed back; what is queued is taken by the party, to be run; what stands in a FIFO list is taken back too, and then
-- handed back; and a token that was taken is spent. Nothing leads out of what is over, spent or handed back
abbrev pub leads : Party → Whereabouts → Whereabouts → Bool
leads q (Made r) (InDeque p i) = same_party q r
leads q (Made r) (Injected p) = same_party q r
leads q (Made r) (InFifo p i b) = same_party q r
leads q (Made r) (InCast p i) = same_party q r
leads q (Made r) (Running s) = same_party q r && same_party q s
leads q (Made r) HandedBack = same_party q r
leads q (InDeque p i) (Running r) = same_party q r
leads q (Injected p) (Running r) = same_party q r
leads q (InCast p i) (Running r) = same_party q r
leads q (InFifo p i b) (Running r) = same_party q r
leads q (InFifo p i b) (Retaken r) = same_party q r
leads q (Retaken r) HandedBack = same_party q r
leads q (Running r) Spent = same_party q r
leads q _ _ = false

-- an act moves the job, by one of these rows
pub record ByAct (w v : World) (e : Event) (t : ℕ) : Type 0 where
  pub party : Party
  pub act : e ≡ Go party
  pub row : leads party (w.job t).at (v.job t).at ≡ true

-- the job's run ends, and it is over as its run ended
pub record ByEnd (w v : World) (e : Event) (t : ℕ) : Type 0 where
  pub party : Party
  pub ending : Ending
  pub event : e ≡ End party ending
  pub before : (w.job t).at ≡ Running party
  pub after : (v.job t).at ≡ Over ending

-- a step leaves the job where it is, or moves it so
abbrev pub MovesSo : World → World → Event → ℕ → Type 0
MovesSo w v e t = ((v.job t).at ≡ (w.job t).at) ⊎ (ByAct w v e t ⊎ ByEnd w v e t)

-- so it is over each step of each run, of each number that was given out before it
abbrev pub MovesLaw : Type 0
MovesLaw = (shape : Shape) (before : List Event) (w v : World) (e : Event) (t : ℕ) → IsRun (start shape) before w → step w e ≡ Some v → t < w.jobs → MovesSo w v e t
