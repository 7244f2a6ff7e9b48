-- What a spawn of a detached job does, and what the end of a run does.
use Rattle.std.specs.Prelude.{◌≡◌, ◌⊎◌, ℕ, Bool, true, Option, None, Some}
use Rattle.rayon_atomics.specs.declared.views.Teller.{Teller}
use Rattle.rayon_jobs.specs.Within.{Run}
use Rattle.rayon_machine_places.specs.declared.place.Count.TheVariants.{OfPool}
use Rattle.rayon_machine_places.specs.declared.place.Ending.{Ending}
use Rattle.rayon_machine_places.specs.declared.place.JobKind.{JobKind}
use Rattle.rayon_machine_places.specs.declared.place.JobKind.TheVariants.{BodyOf, Detached, Direct, PieceOf, Scoped, Stored, TokenOf, WholeOf}
use Rattle.rayon_machine_places.specs.declared.place.Move.TheVariants.{Stay, Back, HandBack}
use Rattle.rayon_machine_places.specs.declared.place.Party.{Party}
use Rattle.rayon_machine_places.specs.declared.place.Place.{Place}
use Rattle.rayon_machine_places.specs.declared.place.Place.TheVariants.{LowerCount, RaiseCount, StorePiece, StoreResult, StoreSlot}
use Rattle.rayon_machine_places.specs.declared.place.Plan.TheVariants.{Detach}
use Rattle.rayon_machine_places.specs.declared.place.Share.TheVariants.{OfJob}
use Rattle.rayon_machine_places.specs.declared.place.Then.TheVariants.{Resume}
use Rattle.rayon_machine_places.specs.declared.shape.PoolShape.{PoolShape}
use Rattle.rayon_drive.specs.declared.trace.Log.{Log}
use Rattle.rayon_drive.specs.Paths.{Traced}
use Rattle.rayon_tasks.specs.Tasks.{OneJob, TaskOf}
use Rattle.rayon_tasks.specs.Tickets.{unscoped}
use Rattle.rayon_performers.specs.Hands.{Hands}
use Rattle.rayon_shared.specs.AtHand.{HasResult, HasTicket}
use Rattle.rayon_shared.specs.Marks.{GivesUnit, IsBroadcast, IsScope, Tally, broadcast_in, scope_in}
use Rattle.rayon_performers.specs.Paths.{WorkerGoes}

-- the acts of a spawn of the job of this name, from its Raise to its end
abbrev pub Spawned : PoolShape → Party → ℕ → Log → Log → Type 0
Spawned h q n v w = Traced h q (Stay (RaiseCount (Detach 0 n))) v w Back

-- the task of a detached job of this name that this party spawned, from outside the pool or not
abbrev pub detached_task : {X : Type 0} → X → Bool → Party → ℕ → TaskOf X
detached_task j b q n = record { work = OneJob j; injected = b; ticket = unscoped q n true }

-- the place at which the end begins of a run that ended so, by what it sets going: the unit that came with the job is given
-- back, or the ending is stored for the call that waits for it or in its scope's book. There is none where the call below
-- goes on, and none of what has no run: a token, and the number that stands for a broadcast
abbrev pub closing : JobKind → ℕ → Ending → Option Place
closing (Detached p) t e = Some (LowerCount (OfPool p) (OfJob t) Resume)
closing (Stored c o) t e = Some (StoreResult c o e)
closing (Scoped c o) t e = Some (StoreSlot c o t e)
closing Direct t e = None
closing (PieceOf c o) t e = Some (StorePiece c o t e)
closing (BodyOf c o) t e = None
closing (WholeOf c o) t e = None
closing (TokenOf i b) t e = None

-- the seat by which the party stepped on the count of a scope or a broadcast last, after the end of such a run: another after
-- that of a scope's job, or of a piece of a broadcast that waits
abbrev pub tally_after : JobKind → Option Tally → Option Tally → Option Tally
tally_after (Scoped c o) old new = new
tally_after (PieceOf c o) old new = new
tally_after _ old new = old

-- what the end of such a run leaves with the seat of the terminate count: a detached job's unit is given back, and no other
abbrev pub ClosesUnit : JobKind → Teller → Teller → Type 0
ClosesUnit (Detached p) v w = (b : Bool) × GivesUnit true b v w
ClosesUnit _ v w = w ≡ v

module _ {X G O F : Type 0} where
  -- the same worker, where so many units stand for those that its calls hold: a detached job's own unit, while the job is
  -- spawned and while its run ends, since that goes with the job and is never counted among theirs
  abbrev pub with_units : ℕ → Hands X G O F → Hands X G O F
  with_units n s = record s { holds = n }

  -- a worker spawned the job of this name, from its Raise to its end. No unit was at hand, and the job's is
  abbrev pub Spawns : ℕ → Hands X G O F → Hands X G O F → Type 0
  Spawns n s t = WorkerGoes (Stay (RaiseCount (Detach 0 n))) (with_units 0 s) (with_units 1 t) Back

  -- a spawn was refused: before its Raise, when nothing was done, or from there to where it hands its job back, and no unit
  -- is at hand
  abbrev pub SpawnsNone : ℕ → Hands X G O F → Hands X G O F → Type 0
  SpawnsNone n s t = (t ≡ s) ⊎ WorkerGoes (Stay (RaiseCount (Detach 0 n))) (with_units 0 s) (with_units 0 t) (HandBack (Detach 0 n))

  -- what the end of such a run asks: the ticket to answer and the result, where a call, a scope or a broadcast waits for the
  -- job. The other kinds have no run
  abbrev pub CanClose : JobKind → Ending → Hands X G O F → Type 0
  CanClose (Detached p) e s = p ≡ 0
  CanClose (Stored c o) e s = HasTicket s.reply (Some c) × HasResult s.done (Some e)
  CanClose (Scoped c o) e s = IsScope (scope_in s.reply) c × HasResult s.done (Some e)
  CanClose (PieceOf c o) e s = IsBroadcast (broadcast_in s.reply) c × HasResult s.done (Some e)
  CanClose Direct e s = Unit {0}
  CanClose _ e s = ⊥

  -- what is at hand at the end of such a run, where a detached job's unit, or that it was given back, stands for those of
  -- the worker's calls
  abbrev pub at_close : JobKind → ℕ → Hands X G O F → Hands X G O F
  at_close (Detached p) n s = with_units n s
  at_close _ n s = s

  -- the end of a run of this kind: from its place to the frame below, and nothing where it has none
  abbrev pub ClosesRun : JobKind → ℕ → Ending → Hands X G O F → Hands X G O F → Type 0
  ClosesRun k n e s t = elim (closing k n e) [ None ↦ t ≡ s | Some p ↦ WorkerGoes (Stay p) (at_close k 1 s) (at_close k 0 t) Back ]

module _ {G O F : Type 0} where
  -- the result that is at hand after the end of such a run: none where it was stored
  abbrev pub done_after : JobKind → Option (Run G O F) → Option (Run G O F)
  done_after (Stored c o) r = None
  done_after (Scoped c o) r = None
  done_after (PieceOf c o) r = None
  done_after _ r = r
