-- a worker announces itself before it blocks itself
--
-- So the laws that begin at a last Announce speak of each worker that blocks itself: those of whole searches and of the
-- turn.
-- Broken by the wrong machines `sleeper_announces_nothing` and `sleeper_resumes` of SleepTeeth.
use Rattle.std.specs.Prelude.{ℕ, Bool, true, false, ◌&&◌, List, ◌∷◌, ◌++◌, ◌≡◌}
use Rattle.rayon_machine_places.specs.declared.place.Party.TheVariants.{Worker}
use Rattle.rayon_machine_places.specs.declared.act.Act.{Act}
use Rattle.rayon_machine_places.specs.declared.act.Act.TheVariants.{AddInactive, Block, SubSleeping}
use Rattle.rayon_machine_runs.specs.declared.event.Event.{Event}
use Rattle.rayon_machine_runs.specs.declared.event.Event.TheVariants.{Go}
use Rattle.rayon_machine_places.specs.Places.{act_of, same_party}
use Rattle.rayon_machine_runs.specs.World.{Shape, World}
use Rattle.rayon_machine_runs.specs.Runs.{IsRun, start}
use Rattle.rayon_machine_laws.specs.Committed.{is_blocking}
use Rattle.rayon_machine_laws.specs.Turn.{Announces, IsRunWithout}

-- an act after which a worker has to announce itself anew: it becomes inactive, blocks itself, or is counted as sleeping no
-- more
abbrev pub is_anew : Act → Bool
is_anew AddInactive = true
is_anew Block = true
is_anew SubSleeping = true
is_anew a = false

-- the event is such an act of that worker
abbrev pub begins_anew : ℕ → ℕ → World → Event → Bool
begins_anew p i w (Go q) = same_party (Worker p i) q && is_anew (act_of q (w.stack q).top)
begins_anew p i w e = false

-- in a run of these events to this world the worker has announced itself, and made no such act since
pub record HasAnnounced (shape : Shape) (events : List Event) (u : World) (p i : ℕ) : Type 0 where
  pub before : List Event
  pub between : List Event
  pub from : World
  pub to : World
  pub is : events ≡ before ++ Go (Worker p i) ∷ between
  pub announces : Announces shape before from to p i
  pub since : IsRunWithout (begins_anew p i) to between u

-- in each world of each run in which a worker is about to block itself, an Announce of it lies after its last AddInactive,
-- Block or SubSleeping
abbrev pub AnnouncedLaw : Type 0
AnnouncedLaw = (shape : Shape) (events : List Event) (u : World) (p i : ℕ) → IsRun (start shape) events u → is_blocking (u.stack (Worker p i)).top ≡ true → HasAnnounced shape events u p i
