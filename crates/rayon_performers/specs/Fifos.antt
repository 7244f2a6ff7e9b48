-- What a spawn in order does.
use Rattle.std.specs.Prelude.{◌≡◌, ◌⊎◌, ℕ, false, true, None}
use Rattle.rayon_machine_places.specs.declared.place.Count.TheVariants.{OfPool}
use Rattle.rayon_machine_places.specs.declared.place.Feeding.{Feeding}
use Rattle.rayon_machine_places.specs.declared.place.Move.TheVariants.{Back, HandBack, Stay}
use Rattle.rayon_machine_places.specs.declared.place.Party.{Party}
use Rattle.rayon_machine_places.specs.declared.place.Place.TheVariants.{RaiseCount}
use Rattle.rayon_machine_places.specs.declared.place.Plan.TheVariants.{Feed}
use Rattle.rayon_machine_places.specs.declared.shape.PoolShape.{PoolShape}
use Rattle.rayon_machine_places.specs.Places.{own_index}
use Rattle.rayon_drive.specs.declared.trace.Log.{Log}
use Rattle.rayon_drive.specs.Paths.{Traced}
use Rattle.rayon_tasks.specs.Tasks.{NoJob, TaskOf}
use Rattle.rayon_tasks.specs.Tickets.{TicketOf}
use Rattle.rayon_performers.specs.Hands.{Hands}
use Rattle.rayon_performers.specs.Paths.{WorkerGoes}
use Rattle.rayon_performers.specs.Spawns.{with_units}

-- the call that adds the job of this name to the own FIFO list of detached jobs, and pushes a token of this name
abbrev pub feeding : ℕ → ℕ → Feeding
feeding n k = record { count = OfPool 0; pool = 0; job = n; token = k }

-- the token of this ticket
abbrev pub token_with : {X : Type 0} → TicketOf → TaskOf X
token_with u = record { work = NoJob; injected = false; ticket = u }

-- the ticket of a token of this name, which stands for a job of this party's FIFO list of detached jobs
abbrev pub list_ticket : Party → ℕ → TicketOf
list_ticket q k = record { owner = q; number = k; detached = true; scope = None; broadcast = None; slot = own_index q }

-- the token of this name, which stands for a job of this party's FIFO list of detached jobs
abbrev pub token_task : {X : Type 0} → Party → ℕ → TaskOf X
token_task q k = token_with (list_ticket q k)

-- the acts of a spawn in order of the job and the token of these names, from its Raise to its end
abbrev pub Fed : PoolShape → Party → ℕ → ℕ → Log → Log → Type 0
Fed h q n k v w = Traced h q (Stay (RaiseCount (Feed (feeding n k)))) v w Back

module _ {X G O F : Type 0} where
  -- a worker spawned the job of this name in order, from its Raise to its end. No unit was at hand, and the job's is
  abbrev pub FeedsList : ℕ → ℕ → Hands X G O F → Hands X G O F → Type 0
  FeedsList n k s t = WorkerGoes (Stay (RaiseCount (Feed (feeding n k)))) (with_units 0 s) (with_units 1 t) Back

  -- a spawn in order was refused: before its Raise, when nothing was done, or from there to where it hands its job back, and no
  -- unit is at hand
  abbrev pub FeedsNone : ℕ → ℕ → Hands X G O F → Hands X G O F → Type 0
  FeedsNone n k s t = (t ≡ s) ⊎ WorkerGoes (Stay (RaiseCount (Feed (feeding n k)))) (with_units 0 s) (with_units 0 t) (HandBack (Feed (feeding n k)))
