-- what becomes of a worker's FIFO lists
--
-- So the jobs of one list begin in the order in which they were added. Broken by the wrong machines
-- `list_popped_newest_first` of FifoTeeth and `wrong_job_is_taken_back` of ListTeeth.
use Rattle.std.specs.Prelude.{ℕ, ◌&&◌, ◌==◌, if◌then◌else◌, Option, Some, None, List, [], ◌∷◌, ◌++◌, ◌≡◌}
use Rattle.rayon_machine_places.specs.declared.place.Party.{Party}
use Rattle.rayon_machine_places.specs.declared.place.Place.{Place}
use Rattle.rayon_machine_places.specs.declared.place.Place.TheVariants.{Run}
use Rattle.rayon_machine_places.specs.declared.act.Act.{Act}
use Rattle.rayon_machine_places.specs.declared.act.Act.TheVariants.{FifoIn, FifoUndo, FifoOut}
use Rattle.rayon_machine_runs.specs.declared.event.Event.{Event}
use Rattle.rayon_machine_runs.specs.declared.event.Event.TheVariants.{Go}
use Rattle.rayon_machine_places.specs.Places.{act_of, own_pool, own_index}
use Rattle.rayon_machine_runs.specs.World.{Shape, World, but_last, same_list}
use Rattle.rayon_machine_runs.specs.Steps.{step}
use Rattle.rayon_machine_runs.specs.Runs.{IsRun, start}

-- what an event does to a FIFO list: it adds a job, takes the last back, or redeems a token, after which the party runs
-- this job
pub data Change : Type 0 where
  Joins : (job : ℕ) → Change
  Leaves : Change
  Comes : (runs : Option ℕ) → Change

-- the job that a place runs
abbrev pub run_at : Place → Option ℕ
run_at (Run t k) = Some t
run_at _ = None

-- what a party's act is to list b of this worker of this pool, where the party stands so after it: the list of detached
-- jobs, or that of a scope
abbrev pub change_of : ℕ → ℕ → Option ℕ → Party → Act → Place → Option Change
change_of p i b q (FifoIn t c) y = if (p == own_pool q) && ((i == own_index q) && same_list b c) then Some (Joins t) else None
change_of p i b q (FifoUndo c) y = if (p == own_pool q) && ((i == own_index q) && same_list b c) then Some Leaves else None
change_of p i b q (FifoOut token j c) y = if (p == own_pool q) && ((i == j) && same_list b c) then Some (Comes (run_at y)) else None
change_of p i b q _ y = None

-- what an event that leads to this world is to that list
abbrev pub change : ℕ → ℕ → Option ℕ → World → Event → World → Option Change
change p i b w (Go q) v = change_of p i b q (act_of q (w.stack q).top) (v.stack q).top
change p i b w _ v = None

-- the list after it: a job is added last, and a token begins the first
abbrev pub Changes : List ℕ → Option Change → List ℕ → Type 0
Changes l None m = m ≡ l
Changes l (Some (Joins t)) m = m ≡ l ++ t ∷ []
Changes l (Some Leaves) m = m ≡ but_last l
Changes l (Some (Comes o)) m = (t : ℕ) × (o ≡ Some t) × (l ≡ t ∷ m)

-- each step of each run changes each list of each worker so
abbrev pub QueueLaw : Type 0
QueueLaw = (shape : Shape) (before : List Event) (p i : ℕ) (b : Option ℕ) (w v : World) (e : Event) →
    IsRun (start shape) before w → step w e ≡ Some v → Changes ((w.seat p i).fifo b) (change p i b w e v) ((v.seat p i).fifo b)
