-- What a worker has at hand at each place of the table to which a drive leads it, and where the drive ends.
use Rattle.std.specs.Prelude.{◌≡◌, ◌-◌, ℕ, Bool, true, false, Option, None, Some, Result, List}
use Rattle.rayon_machine_places.specs.declared.place.Count.TheVariants.{OfPool}
use Rattle.rayon_machine_places.specs.declared.place.Party.{Party}
use Rattle.rayon_machine_places.specs.declared.place.Party.TheVariants.{Worker, Caller}
use Rattle.rayon_machine_places.specs.declared.place.Ending.TheVariants.{Fine}
use Rattle.rayon_machine_places.specs.declared.place.JobKind.{JobKind}
use Rattle.rayon_machine_places.specs.declared.place.Latch.{Latch}
use Rattle.rayon_machine_places.specs.declared.place.Latch.TheVariants.{Terminate, OfCall}
use Rattle.rayon_machine_places.specs.declared.place.OpenCall.{OpenCall}
use Rattle.rayon_machine_places.specs.declared.place.Target.{Target}
use Rattle.rayon_machine_places.specs.declared.place.Target.TheVariants.{Termination, Answer}
use Rattle.rayon_machine_places.specs.declared.place.Taken.{Taken}
use Rattle.rayon_machine_places.specs.declared.place.Taken.TheVariants.{Plain}
use Rattle.rayon_machine_places.specs.declared.place.Place.{Place}
use Rattle.rayon_machine_places.specs.declared.place.Place.TheVariants as at
use Rattle.rayon_machine_places.specs.declared.place.Move.{Move}
use Rattle.rayon_machine_places.specs.declared.place.Move.TheVariants.{Stay, Enter, StartRun, Back, HandBack, HandIn, Discard}
use Rattle.rayon_machine_places.specs.declared.shape.PoolShape.{PoolShape}
use Rattle.rayon_machine_places.specs.Places.{act_of, after_found, finish, fresh, latch_of}
use Rattle.rayon_drive.specs.Paths.{goes}
use Rattle.rayon_atomics.specs.declared.views.Watch.{Watch}
use Rattle.rayon_queues.specs.Deques.{Deque, DequeId, Thief, Visitor}
use Rattle.rayon_tasks.specs.Tasks.{TaskOf}
use Rattle.rayon_tasks.specs.Tickets.{TicketOf}
use Rattle.rayon_jobs.specs.Within.{Run}
use Rattle.rayon_books.specs.declared.slot.NoOutputs.{NoOutputs}
use Rattle.rayon_shared.specs.Marks.{Tally}
use Rattle.rayon_performers.specs.Sights.{Guards, SeenSet}
use Rattle.rayon_shared.specs.Seats.{Resting, Searching, Sleeping}
use Rattle.rayon_performers.specs.Hands.{Hands, HasTask, Needs}
use Rattle.rayon_shared.specs.AtHand.{HasTicket, call_latch}

-- what a worker has at hand, but the seats by which it sets latches and counts, and the trace
pub record Hand (X G O F : Type 0) : Type 0 where
  pub index : ℕ
  pub shape : PoolShape
  pub deques : List DequeId
  pub own : Deque (TaskOf X)
  pub inlet : Visitor (TaskOf X)
  pub thief : Option (Thief (TaskOf X))
  pub task : Option (TaskOf X)
  pub call : Option TicketOf
  pub reply : Option TicketOf
  pub done : Option (Run G O F)
  pub outcome : Option (Result (List (Run G O F)) (NoOutputs F))
  pub guards : Guards
  pub probed : Bool
  pub holds : ℕ
  pub tally : Option Tally
  pub chair : Option Watch

-- the call that a wait waits for
abbrev pub call_to : Target → Option ℕ
call_to g = call_latch (latch_of g)

-- only a worker stands in waits, joins and yields
abbrev pub IsWorker : Party → Type 0
IsWorker (Worker p i) = Unit {0}
IsWorker (Caller c) = ⊥

-- a place that waits below a run
abbrev pub IsFrame : Place → Type 0
IsFrame (at.ProbeWorking w) = Unit {0}
IsFrame (at.JoinProbe o) = Unit {0}
IsFrame (at.FirstSide o a) = Unit {0}
IsFrame (at.SecondSide o) = Unit {0}
IsFrame (at.AtOnce p t) = Unit {0}
IsFrame _ = ⊥

-- this where it is so, else that
abbrev pub Where : Bool → Type 0 → Type 0 → Type 0
Where true A B = A
Where false A B = B

module _ {X G O F : Type 0} where
  abbrev pub hand : Hands X G O F → Hand X G O F
  hand s = record { index = s.index; shape = s.shape; deques = s.deques; own = s.own; inlet = s.inlet; thief = s.thief; task = s.task; call = s.call; reply = s.reply; done = s.done; outcome = s.outcome; guards = s.guards; probed = s.probed; holds = s.holds; tally = s.tally; chair = s.chair }

  -- this latch was looked at last and was set, and its seat has seen so
  abbrev pub SawSet : Hand X G O F → Latch → Type 0
  SawSet s l = (s.probed ≡ true) × SeenSet s.guards l

  -- the task that begins is in hand
  abbrev pub Starts : Hand X G O F → Place → Type 0
  Starts s (at.BeginTask t) = HasTask s.task (Some t)
  Starts s (at.BeginHere t) = HasTask s.task (Some (Plain t))
  Starts s _ = ⊥

  -- a task that was taken may begin above this frame, whose call's ticket is in hand
  abbrev pub Above : Hand X G O F → Place → Type 0
  Above s (at.ProbeWorking w) = HasTicket s.call (call_to w.target)
  Above s (at.JoinProbe o) = HasTicket s.call (Some o.number)
  Above s (at.SecondSide o) = HasTicket s.call (Some o.number)
  Above s _ = ⊥

  -- what is in hand at a place at rest
  abbrev pub AtRest : Hand X G O F → Place → Type 0
  AtRest s (at.Run t k) = HasTask s.task (Some (Plain t))
  AtRest s (at.FirstSide o a) = HasTicket s.call (Some o.number)
  AtRest s (at.SecondSide o) = HasTicket s.call (Some o.number)
  AtRest s (at.ScopeBody o) = Unit {0}
  AtRest s (at.AtOnce p t) = Unit {0}
  AtRest s at.Free = Unit {0}
  AtRest s at.Stopped = SawSet s Terminate
  AtRest s _ = ⊥

  -- what is in hand where a drive has ended so
  abbrev pub Ended : Hand X G O F → Move → Type 0
  Ended s (Stay y) = AtRest s y
  Ended s (Enter f y) = Starts s y × Above s f
  Ended s (StartRun f t) = IsFrame f
  Ended s Back = Unit {0}
  Ended s (HandBack n) = Unit {0}
  Ended s (HandIn y k) = AtRest s y
  Ended s (Discard k) = Unit {0}
  Ended s _ = ⊥

  -- a drive ends there, and what belongs to it is in hand
  abbrev pub Last : Hand X G O F → Move → Type 0
  Last s m = Where (goes m) ⊥ (Ended s m)

  -- nothing is said of the end
  abbrev pub Anyhow : Move → Hand X G O F → Type 0
  Anyhow m s = Unit {0}

-- of drives that end so, in such a move with that in hand
module _ {X G O F : Type 0} (E : Move → Hand X G O F → Type 0) where
  -- so ends what goes back with so many units
  abbrev pub Backs : ℕ → Type 0
  Backs n = (u : Hand X G O F) → u.holds ≡ n → E Back u

  -- and a run, of a task or of the job that a token stands for, and a token that got no job
  abbrev pub Runs : ℕ → Type 0
  Runs n =
      ((t : ℕ) (k : JobKind) (u : Hand X G O F) → u.holds ≡ n → E (Stay (at.Run t k)) u)
      × ((t : ℕ) (k : JobKind) (j : ℕ) (u : Hand X G O F) → u.holds ≡ n → E (HandIn (at.Run t k) j) u)
      × ((j : ℕ) (u : Hand X G O F) → u.holds ≡ n → E (Discard j) u)

  -- and a wait for this that is left: the end of a call gives its unit back
  abbrev pub Left : Target → ℕ → Type 0
  Left Termination n = (u : Hand X G O F) → u.holds ≡ n → E (Stay at.Stopped) u
  Left (Answer o f) n = Backs (n - 1)

  -- a worker waits for this, with the ticket in hand: a task that it finds begins above the wait
  abbrev pub Waits : Target → Hand X G O F → Type 0
  Waits g s = HasTicket s.call (call_to g) × Left g s.holds × ((t : Taken) (u : Hand X G O F) → u.holds ≡ s.holds → E (Enter (at.ProbeWorking (fresh g)) (at.BeginTask t)) u)

  -- a join looks for its own second side, and may find another task
  abbrev pub Joins : OpenCall → Hand X G O F → Type 0
  Joins o s = Waits (Answer o (Some Fine)) s × ((u : Hand X G O F) → u.holds ≡ s.holds → E (Enter (at.SecondSide o) (at.BeginHere o.job)) u) × ((t : Taken) (u : Hand X G O F) → u.holds ≡ s.holds → E (Enter (at.JoinProbe o) (at.BeginTask t)) u)

  -- and where its own deque did not give that side, it may still find another task
  abbrev pub Lacks : OpenCall → Hand X G O F → Type 0
  Lacks o s = Waits (Answer o (Some Fine)) s × ((t : Taken) (u : Hand X G O F) → u.holds ≡ s.holds → E (Enter (at.JoinProbe o) (at.BeginTask t)) u)

  -- so ends a drive; where a token was spent so ends the one that only leads to the run of its job too
  abbrev pub Ends : Move → Hand X G O F → Type 0
  Ends (HandIn y k) u = E (HandIn y k) u × E (Stay y) u
  Ends m u = E m u

  -- what is in hand where workers have been woken and latches set: what follows asks it
  abbrev pub Next : Hand X G O F → Move → Type 0
  Next s (Stay (at.ProbeWorking w)) = Waits w.target s
  Next s (Stay (at.TakeResult o f)) = HasTicket s.call (Some o.number) × SawSet s (OfCall o.number) × Backs (s.holds - 1)
  Next s (Stay at.Stopped) = E (Stay at.Stopped) s × SawSet s Terminate
  Next s (Stay _) = ⊥
  Next s (HandIn y k) = ⊥
  Next s m = E m s × Ended s m

  -- what is at hand beside what the act asks. No drive stands at the other places: what a call queues it queues itself. The
  -- seat of the counters holds an inactive unit exactly from after AddInactive to SubInactive, and a sleeping one too where
  -- the worker is counted as sleeping. From Block until the own sleep lock is taken again the seat lies under that
  abbrev pub Holds : Party → Hands X G O F → Place → Type 0
  Holds q s (at.ProbeWorking k) = Waits k.target (hand s) × Resting s.chair
  Holds q s (at.PopWorking k) = Waits k.target (hand s) × Resting s.chair
  Holds q s (at.TakeCastWorking k) = Waits k.target (hand s) × Resting s.chair
  Holds q s (at.BecomeInactive k) = Waits k.target (hand s) × Resting s.chair
  Holds q s (at.ProbeIdle k) = Waits k.target (hand s) × Searching s.chair
  Holds q s (at.PopIdle k) = Waits k.target (hand s) × Searching s.chair
  Holds q s (at.TakeCastIdle k) = Waits k.target (hand s) × Searching s.chair
  Holds q s (at.PickVictim k) = Waits k.target (hand s) × Searching s.chair
  Holds q s (at.StealFrom k n) = Waits k.target (hand s) × Searching s.chair
  Holds q s (at.PopInjected k) = Waits k.target (hand s) × Searching s.chair
  Holds q s (at.AnnounceSelf k) = Waits k.target (hand s) × Searching s.chair
  Holds q s (at.GetSleepy k) = Waits k.target (hand s) × Searching s.chair
  Holds q s (at.LockOwn k) = Waits k.target (hand s) × Searching s.chair
  Holds q s (at.FallAsleep k) = Waits k.target (hand s) × Searching s.chair
  Holds q s (at.LoadCounters k) = Waits k.target (hand s) × Searching s.chair
  Holds q s (at.AddSleeping k) = Waits k.target (hand s) × Searching s.chair
  Holds q s (at.LookAtCast k) = Waits k.target (hand s) × Sleeping s.chair
  Holds q s (at.LookAtInjector k) = Waits k.target (hand s) × Sleeping s.chair
  Holds q s (at.BlockSelf k) = Waits k.target (hand s) × Sleeping s.chair
  Holds q s (at.RelockOwn k) = Waits k.target (hand s) × (s.chair ≡ None)
  Holds q s (at.UndoSleeping k) = Waits k.target (hand s) × Sleeping s.chair
  Holds q s (at.WakeUp k) = Waits k.target (hand s) × Searching s.chair
  Holds q s (at.UnlockOwn k) = Waits k.target (hand s) × Searching s.chair
  Holds q s (at.LeaveSearch k) = (c : Option Watch) → Next (record (hand s) { chair = c }) (finish q (after_found k.target k.found))
  Holds q s (at.JoinProbe o) = Joins o (hand s) × Resting s.chair
  Holds q s (at.JoinPop o) = Joins o (hand s) × Resting s.chair
  Holds q s (at.JoinTakeCast o) = Lacks o (hand s) × Resting s.chair
  Holds q s at.YieldPop = Runs s.holds × Backs s.holds × Resting s.chair
  Holds q s at.YieldTakeCast = Runs s.holds × Backs s.holds × Resting s.chair
  Holds q s at.YieldPick = Runs s.holds × Backs s.holds × Resting s.chair
  Holds q s (at.YieldSteal v n) = Runs s.holds × Backs s.holds × Resting s.chair
  Holds q s at.YieldPopInjected = Runs s.holds × Backs s.holds × Resting s.chair
  Holds q s at.LocalPop = Runs s.holds × Backs s.holds × Resting s.chair
  Holds q s at.LocalTakeCast = Runs s.holds × Backs s.holds × Resting s.chair
  Holds q s (at.BeginTask t) = Runs s.holds × Resting s.chair
  Holds q s (at.BeginHere t) = Runs s.holds × Resting s.chair
  Holds q s (at.LockToWake k) = Next (hand s) (finish q k.then) × Resting s.chair
  Holds q s (at.WakeWorker k) = Next (hand s) (finish q k.then) × Resting s.chair
  Holds q s (at.UnlockWoken k) = Next (hand s) (finish q k.then) × Resting s.chair
  Holds q s (at.TakeResult o f) = SawSet (hand s) (OfCall o.number) × Backs (s.holds - 1) × Resting s.chair
  Holds q s (at.LowerCount (OfPool m) b t) = Next (record (hand s) { holds = s.holds - 1 }) (finish q t) × Resting s.chair
  Holds q s (at.StoreResult c o e) = E Back (record (hand s) { done = None }) × Resting s.chair
  Holds q s (at.SetLatch x) = Next (hand s) (finish q x.then) × Resting s.chair
  Holds q s (at.LockToSettle x) = Next (hand s) (finish q x.then) × Resting s.chair
  Holds q s (at.WakeSettled x) = Next (hand s) (finish q x.then) × Resting s.chair
  Holds q s (at.UnlockSettled x) = Next (hand s) (finish q x.then) × Resting s.chair
  Holds q s (at.SetLockLatch c t) = Next (hand s) (finish q t) × Resting s.chair
  Holds q s _ = ⊥

  -- what is at hand at a place with an act: what the act asks, and what belongs to the place
  abbrev pub Going : Party → Hands X G O F → Move → Type 0
  Going q s (Stay y) = Needs (act_of q y) s × Holds q s y
  Going q s _ = ⊥

  -- what is at hand where a program has moved so, of this party. The seat of the counters holds no unit where a drive ends
  abbrev pub At : Party → Hands X G O F → Move → Type 0
  At q s m = Where (goes m) (Going q s m) (Ends m (hand s) × Resting s.chair × Ended (hand s) m)

module _ {X G O F : Type 0} where
  -- what a worker has at hand where its program has moved so
  abbrev pub Stands : Hands X G O F → Move → Type 0
  Stands s m = At Anyhow (Worker 0 s.index) s m

  -- and where a drive that begins there ends in this move, with nothing at hand another but those seats and the trace
  abbrev pub EndsIn : Party → Move → Hands X G O F → Move → Type 0
  EndsIn q n s m = At (λ (k : Move) (u : Hand X G O F). (k ≡ n) × (u ≡ hand s)) q s m
