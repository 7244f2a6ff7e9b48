-- What a spawn into a scope does.
use Rattle.std.specs.Prelude.{◌≡◌, ◌⊎◌, ℕ, false, Option}
use Rattle.rayon_machine_places.specs.declared.place.Count.TheVariants.{OfScope}
use Rattle.rayon_machine_places.specs.declared.place.Entry.{Entry}
use Rattle.rayon_machine_places.specs.declared.place.Feeding.{Feeding}
use Rattle.rayon_machine_places.specs.declared.place.Move.TheVariants.{Back, HandBack, Stay}
use Rattle.rayon_machine_places.specs.declared.place.Party.{Party}
use Rattle.rayon_machine_places.specs.declared.place.Place.TheVariants.{RaiseCount, RaiseForAll}
use Rattle.rayon_machine_places.specs.declared.place.Plan.{Plan}
use Rattle.rayon_machine_places.specs.declared.place.Plan.TheVariants.{Enter, Feed}
use Rattle.rayon_machine_places.specs.declared.shape.PoolShape.{PoolShape}
use Rattle.rayon_drive.specs.declared.trace.Log.{Log}
use Rattle.rayon_drive.specs.Paths.{Traced}
use Rattle.rayon_tasks.specs.Tasks.{OneJob, TaskOf}
use Rattle.rayon_tasks.specs.Tickets.{TicketOf}
use Rattle.rayon_performers.specs.Casts.{CastsInto, HandsBack}
use Rattle.rayon_shared.specs.Casts.{cast_into}
use Rattle.rayon_performers.specs.Fifos.{token_with}
use Rattle.rayon_performers.specs.Hands.{Hands}
use Rattle.rayon_performers.specs.Paths.{WorkerGoes}

-- the spawn of the job of this name into the scope of this call and this owner, in the one pool that there is
abbrev pub entry_of : ℕ → Party → ℕ → Entry
entry_of c o n = record { call = c; owner = o; pool = 0; job = n }

abbrev pub entering : ℕ → Party → ℕ → Plan
entering c o n = Enter (entry_of c o n)

-- the acts of such a spawn, from its Raise to its end
abbrev pub Entered : PoolShape → Party → ℕ → Party → ℕ → Log → Log → Type 0
Entered h q c o n v w = Traced h q (Stay (RaiseCount (entering c o n))) v w Back

-- the task of a job of this name that was spawned by a worker into the scope that this ticket is of, and has this number in
-- the scope's book
abbrev pub entered_task : {X : Type 0} → X → TicketOf → ℕ → ℕ → TaskOf X
entered_task j u n k = record { work = OneJob j; injected = false; ticket = record u { number = n; slot = k } }

-- the spawn in order of a job into a scope, with a token of this name
abbrev pub into : Entry → ℕ → Feeding
into e k = record { count = OfScope e.call e.owner; pool = 0; job = e.job; token = k }

-- the acts of such a spawn, from its Raise to its end
abbrev pub EnteredInOrder : PoolShape → Party → Entry → ℕ → Log → Log → Type 0
EnteredInOrder h q e k v w = Traced h q (Stay (RaiseCount (Feed (into e k)))) v w Back

-- the token of this name, which stands for a job of the scope that this ticket is of, in the list of the worker of this index
abbrev pub scope_token : {X : Type 0} → TicketOf → ℕ → ℕ → TaskOf X
scope_token u i k = token_with (record u { number = k; slot = i })

module _ {X G O F : Type 0} where
  -- the same worker, where this ticket stands for the one that it is to answer: that of a scope, while it spawns into it
  abbrev pub answering : Option TicketOf → Hands X G O F → Hands X G O F
  answering k s = record s { reply = k }

  -- a worker spawned the job of this name into the scope, from its Raise to its end
  abbrev pub Enters : Option TicketOf → ℕ → Party → ℕ → Hands X G O F → Hands X G O F → Type 0
  Enters k c o n s t = WorkerGoes (Stay (RaiseCount (entering c o n))) (answering k s) (answering k t) Back

  -- such a spawn was refused: before its Raise, when nothing was done, or from there to where it hands its job back
  abbrev pub EntersNone : Option TicketOf → ℕ → Party → ℕ → Hands X G O F → Hands X G O F → Type 0
  EntersNone k c o n s t = (t ≡ s) ⊎ WorkerGoes (Stay (RaiseCount (entering c o n))) (answering k s) (answering k t) (HandBack (entering c o n))

  -- a worker spawned the job in order into the scope, with a token of this name, from its Raise to its end
  abbrev pub EntersList : Option TicketOf → Entry → ℕ → Hands X G O F → Hands X G O F → Type 0
  EntersList r e k s t = WorkerGoes (Stay (RaiseCount (Feed (into e k)))) (answering r s) (answering r t) Back

  -- such a spawn was refused: before its Raise, when nothing was done, or from there to where it hands its job back
  abbrev pub EntersNoList : Option TicketOf → Entry → ℕ → Hands X G O F → Hands X G O F → Type 0
  EntersNoList r e k s t = (t ≡ s) ⊎ WorkerGoes (Stay (RaiseCount (Feed (into e k)))) (answering r s) (answering r t) (HandBack (Feed (into e k)))

  -- a worker broadcast into the scope, to so many workers, and the pieces have numbers of its book, of which this is the first
  abbrev pub EntersForAll : Option TicketOf → Entry → ℕ → ℕ → Hands X G O F → Hands X G O F → Type 0
  EntersForAll r e w n s t = CastsInto (cast_into e w) n (answering r s) (answering r t)

  -- such a broadcast was refused: before its Raise, when nothing was done, or from there to where its pieces are handed back
  abbrev pub EntersForNone : Option TicketOf → Entry → ℕ → Hands X G O F → Hands X G O F → Type 0
  EntersForNone r e w s t = (t ≡ s) ⊎ HandsBack (Stay (RaiseForAll (cast_into e w))) (cast_into e w) (answering r s) (answering r t)
