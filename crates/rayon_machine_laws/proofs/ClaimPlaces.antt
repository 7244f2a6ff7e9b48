-- what a place says of the world: of its party's calls, of their jobs, and of ended pools
--
-- `Says w q x` is what the place x tells of the world w. The party q stands there, or has it as a frame. The wait of a
-- call says that its call is open, and how its first side ended. `SetLatch` says that the job is over, or that the pool
-- has ended.
use Rattle.rayon_machine_places.specs.declared.place.Gathering.{Gathering}
use Rattle.rayon_machine_places.specs.declared.place.Pieces.{Pieces}
use Rattle.rayon_machine_places.specs.declared.place.Count.TheVariants.{OfPool, OfScope, OfCast}
use Rattle.rayon_machine_places.specs.declared.place.Count.{Count}
use Rattle.std.proofs.Common.{refl}
use Rattle.std.specs.Prelude.{ℕ, Bool, true, false, ◌+◌, ◌-◌, ◌≤◌, Option, Some, None, ◌≡◌, ⊤, ◌⊎◌}
use Rattle.rayon_machine_places.specs.declared.place.Party.{Party}
use Rattle.rayon_machine_places.specs.declared.place.Ending.{Ending}
use Rattle.rayon_machine_places.specs.declared.place.Ending.TheVariants.{Fine, Fault}
use Rattle.rayon_machine_places.specs.declared.place.JobKind.{JobKind}
use Rattle.rayon_machine_places.specs.declared.place.JobKind.TheVariants.{Detached, Stored, Direct, TokenOf, Scoped, BodyOf, PieceOf, WholeOf}
use Rattle.rayon_machine_places.specs.declared.place.Target.{Target}
use Rattle.rayon_machine_places.specs.declared.place.Target.TheVariants.{Termination, Answer}
use Rattle.rayon_machine_places.specs.declared.place.Latch.{Latch}
use Rattle.rayon_machine_places.specs.declared.place.Latch.TheVariants.{Terminate, OfCall}
use Rattle.rayon_machine_places.specs.declared.place.Plan.{Plan}
use Rattle.rayon_machine_places.specs.declared.place.Plan.TheVariants.{Detach, Here, Send, Fork, Feed, Open, Enter, Gather}
use Rattle.rayon_machine_places.specs.declared.place.Share.{Share}
use Rattle.rayon_machine_places.specs.declared.place.Share.TheVariants.{PoolValue, OfJob, Body}
use Rattle.rayon_machine_places.specs.declared.place.Then.{Then}
use Rattle.rayon_machine_places.specs.declared.place.Then.TheVariants.{BeginFound, LeaveWait, Resume, Await, RunFirst, Answers, Missing, Ran, GiveBack, Called, Gathers}
use Rattle.rayon_machine_places.specs.declared.place.Taken.{Taken}
use Rattle.rayon_machine_places.specs.declared.place.Taken.TheVariants.{Plain, Token}
use Rattle.rayon_machine_places.specs.declared.place.Place.{Place}
use Rattle.rayon_machine_places.specs.declared.place.Place.TheVariants.{ProbeWorking, PopWorking, TakeCastWorking, BecomeInactive, ProbeIdle, PopIdle, TakeCastIdle, PickVictim, StealFrom, PopInjected, AnnounceSelf, GetSleepy, LockOwn, FallAsleep, LoadCounters, AddSleeping}
use Rattle.rayon_machine_places.specs.declared.place.Place.TheVariants.{LookAtCast, LookAtInjector, BlockSelf, RelockOwn, UndoSleeping, WakeUp, UnlockOwn, LeaveSearch, JoinProbe, JoinPop, JoinTakeCast, BeginTask, BeginHere, Run, RaiseCount, GrowCall, LookQueue, PushJob, TellNews}
use Rattle.rayon_machine_places.specs.declared.place.Place.TheVariants.{LockToWake, WakeWorker, UnlockWoken, WaitForLock, TakeResult, LowerCount, StoreResult, SetLatch, LockToSettle, WakeSettled, UnlockSettled, SetLockLatch, FirstSide, SecondSide, AtOnce, AddToFifo, LookForToken}
use Rattle.rayon_machine_places.specs.declared.place.Place.TheVariants.{PushToken, TakeFromFifo, RaiseForAll, PushForAll, LowerForAll, GrowScope, OpenSlot, CloseSlot, StoreBody, StoreSlot, ScopeBody, OpenForAll, CloseForAll, GrowCast, DealPieces, StorePiece}
use Rattle.rayon_machine_places.specs.declared.place.Move.TheVariants.{Enter}
use Rattle.rayon_machine_runs.specs.declared.state.Whereabouts.TheVariants.{Over, Spent}
use Rattle.rayon_machine_places.specs.declared.place.OpenCall.{OpenCall}
use Rattle.rayon_machine_places.specs.Places.{own_pool, own_index, plan_job, plan_count, count_kind, count_book}
use Rattle.rayon_machine_runs.specs.World.{World}
use Rattle.rayon_machine_runs.specs.Steps.{is_piece}
use Rattle.rayon_machine_runs.specs.Readers.{is_done}
use Rattle.rayon_machine_laws.specs.Counted.{is_detached, is_scoped}
use Rattle.rayon_machine_laws.proofs.Located.{is_left}

-- the call that waits for a job of this kind, and its owner
abbrev pub call_kind : JobKind → Option (ℕ × Party)
call_kind (Stored c o) = Some (c, o)
call_kind (BodyOf c o) = Some (c, o)
call_kind (WholeOf c o) = Some (c, o)
call_kind _ = None

-- the body of a scope, or what stands for a broadcast that waits
abbrev pub is_body : JobKind → Bool
is_body (BodyOf c o) = true
is_body (WholeOf c o) = true
is_body _ = false

pub call_undetached : (k : JobKind) (n : ℕ × Party) → call_kind k ≡ Some n → is_detached k ≡ false
call_undetached (Stored c o) n e = refl
call_undetached (BodyOf c o) n e = refl
call_undetached (WholeOf c o) n e = refl
call_undetached _ n e = cc

pub call_unscoped : (k : JobKind) (n : ℕ × Party) → call_kind k ≡ Some n → is_scoped k ≡ false
call_unscoped (Stored c o) n e = refl
call_unscoped (BodyOf c o) n e = refl
call_unscoped (WholeOf c o) n e = refl
call_unscoped _ n e = cc

pub body_unscoped : (k : JobKind) → is_body k ≡ true → is_scoped k ≡ false
body_unscoped (BodyOf c o) e = refl
body_unscoped (WholeOf c o) e = refl
body_unscoped _ e = cc

-- a piece of a broadcast that waits
abbrev pub is_part : JobKind → Bool
is_part (PieceOf c o) = true
is_part _ = false

-- what has a share of a count itself is waited for by no call alone
pub counts_detached : (k : Count) → is_detached (count_kind k) ≡ true
counts_detached (OfPool p) = refl
counts_detached (OfScope c o) = refl
counts_detached (OfCast c o) = refl

-- an open call's numbers are given out, and its job is the one whose ending comes into the call's cell
pub record Opened (w : World) (q : Party) (o : OpenCall) : Type 0 where
  pub number : o.number + 1 ≤ w.calls
  pub made : o.job + 1 ≤ w.jobs
  pub target : (w.call o.number).job ≡ o.job
  pub kind : call_kind (w.job o.job).kind ≡ Some (o.number, q)
  pub pool : (w.job o.job).pool ≡ o.pool

-- a job of this kind, made by a call at this pool
pub record MadeAs (w : World) (t p : ℕ) (k : JobKind) : Type 0 where
  pub made : t + 1 ≤ w.jobs
  pub kind : (w.job t).kind ≡ k
  pub pool : (w.job t).pool ≡ p
  pub bound : (w.job t).bound ≡ None

-- the call of a scope, whose job is the scope's body
pub record Tied (w : World) (c : ℕ) (o : Party) : Type 0 where
  pub number : c + 1 ≤ w.calls
  pub made : (w.call c).job + 1 ≤ w.jobs
  pub kind : (w.job (w.call c).job).kind ≡ BodyOf c o

-- a piece of a broadcast that waits: the call's job stands for the broadcast, and the numbers of its pieces are the last
-- before that of its job, as many as its pool has workers
pub record PartOf (w : World) (t c : ℕ) (o : Party) : Type 0 where
  pub number : c + 1 ≤ w.calls
  pub made : (w.call c).job + 1 ≤ w.jobs
  pub kind : (w.job (w.call c).job).kind ≡ WholeOf c o
  pub below : t + 1 ≤ (w.call c).job
  pub above : (w.call c).job ≤ t + (w.shape.pool (w.job (w.call c).job).pool).workers
  pub pool : (w.job t).pool ≡ (w.job (w.call c).job).pool

-- a count of a pool's or of a scope's, which is there
abbrev pub KnownCount : World → Count → ℕ → Type 0
KnownCount w (OfPool r) p = r ≡ p
KnownCount w (OfScope c o) p = Tied w c o
KnownCount w (OfCast c o) p = ⊥

-- a piece of a broadcast: a job of the pool with a share of this count, bound to one of the pool's workers
pub record PieceAs (w : World) (k : Count) (t p i : ℕ) : Type 0 where
  pub made : t + 1 ≤ w.jobs
  pub kind : (w.job t).kind ≡ count_kind k
  pub pool : (w.job t).pool ≡ p
  pub bound : (w.job t).bound ≡ Some i

-- the pieces of a broadcast, all made by a call at its pool
abbrev pub SaysPieces : World → Pieces → Type 0
SaysPieces w c = (t : ℕ) → is_piece c t ≡ true → PieceAs w c.count t c.pool (t - c.first)

-- those of a broadcast that does not wait
abbrev pub SaysCast : World → Pieces → Type 0
SaysCast w c = SaysPieces w c × KnownCount w c.count c.pool

-- a broadcast that waits: its call is open, and its job stands for it and runs nowhere
pub record SaysGather (w : World) (q : Party) (g : Gathering) : Type 0 where
  pub call : Opened w q g.call
  pub alone : (w.call g.call.number).first ≡ None
  pub pieces : SaysPieces w g.pieces
  pub count : g.pieces.count ≡ OfCast g.call.number q
  pub spent : (w.job g.call.job).at ≡ Spent
  pub whole : (w.job g.call.job).kind ≡ WholeOf g.call.number q
  pub last : g.pieces.first + g.pieces.workers ≡ g.call.job
  pub pool : g.pieces.pool ≡ g.call.pool
  pub size : g.pieces.workers ≡ (w.shape.pool g.call.pool).workers

-- a piece of a call's broadcast has ended so
pub record PieceEnds (w : World) (c : ℕ) (e : Ending) : Type 0 where
  pub job : ℕ
  pub owner : Party
  pub made : job + 1 ≤ w.jobs
  pub kind : (w.job job).kind ≡ PieceOf c owner
  pub at : (w.job job).at ≡ Over e

-- what a call's cell tells: its job has ended so, or a piece of its broadcast has
abbrev pub EndsAs : World → ℕ → ℕ → Ending → Type 0
EndsAs w t c e = ((w.job t).at ≡ Over e) ⊎ PieceEnds w c e

-- how the first side of a join ended; a call without a first side says nothing of one
abbrev pub FirstEnds : World → Option ℕ → Option Ending → Type 0
FirstEnds w None None = ⊤
FirstEnds w (Some a) (Some e) = (w.job a).at ≡ Over e
FirstEnds w _ _ = ⊥

abbrev pub SaysTarget : World → Party → Target → Type 0
SaysTarget w q Termination = ⊤
SaysTarget w q (Answer o f) = Opened w q o × FirstEnds w (w.call o.number).first f

-- a job that has left its call
abbrev pub Left : World → ℕ → Type 0
Left w t = is_left (w.job t).at ≡ true

-- what a party has taken: a job that has left its call, or a token
abbrev pub Taking : World → Taken → Type 0
Taking w (Plain t) = Left w t
Taking w (Token k i b8) = Left w k × (k + 1 ≤ w.jobs) × ((w.job k).kind ≡ TokenOf i b8)

-- a token
abbrev pub Spendable : World → ℕ → Type 0
Spendable w k = is_detached (w.job k).kind ≡ false

-- a job whose call waits for it
pub record Awaited (w : World) (t : ℕ) : Type 0 where
  pub made : t + 1 ≤ w.jobs
  pub kind : is_detached (w.job t).kind ≡ false

abbrev pub SaysFound : World → Option Taken → Type 0
SaysFound w None = ⊤
SaysFound w (Some x) = Taking w x

abbrev pub SaysPlan : World → Party → Plan → Type 0
SaysPlan w q (Detach p t) = MadeAs w t p (Detached p)
SaysPlan w q (Here p t) = MadeAs w t p Direct
SaysPlan w q (Feed f) = MadeAs w f.job f.pool (count_kind f.count) × MadeAs w f.token f.pool (TokenOf (own_index q) (count_book f.count)) × (f.pool ≡ own_pool q) × KnownCount w f.count f.pool
SaysPlan w q (Gather g) = SaysGather w q g
SaysPlan w q (Send o) = Opened w q o × ((w.call o.number).first ≡ None)
SaysPlan w q (Open o) = Opened w q o × ((w.call o.number).first ≡ None)
SaysPlan w q (Enter e) = MadeAs w e.job e.pool (Scoped e.call e.owner) × Tied w e.call e.owner
SaysPlan w q (Fork o a) = Opened w q o × ((w.call o.number).first ≡ Some a) × Awaited w a

-- a call that queues a job; an install that runs its job at once queues none, and a call for a FIFO list queues a token
-- by places of its own
abbrev pub SaysQueue : World → Party → Plan → Type 0
SaysQueue w q (Here p t) = ⊥
SaysQueue w q (Feed f) = ⊥
SaysQueue w q (Open o) = ⊥
SaysQueue w q (Gather g) = ⊥
SaysQueue w q n = SaysPlan w q n

-- a spawn into a scope, in order or not
abbrev pub SaysSlot : World → Party → Plan → Type 0
SaysSlot w q (Enter e) = SaysPlan w q (Enter e)
SaysSlot w q (Feed f) = SaysPlan w q (Feed f)
SaysSlot w q _ = ⊥

-- a call that has queued a job or a token
abbrev pub SaysTold : World → Party → Plan → Type 0
SaysTold w q (Detach p t) = (t + 1 ≤ w.jobs) × ((w.job t).pool ≡ p)
SaysTold w q (Feed f) = ⊥
SaysTold w q (Open o) = ⊥
SaysTold w q (Gather g) = ⊥
SaysTold w q n = SaysPlan w q n

pub queue_plan : (w : World) (q : Party) (n : Plan) → SaysQueue w q n → SaysPlan w q n
queue_plan w q (Here p t) s = absurd s
queue_plan w q (Feed f) s = absurd s
queue_plan w q (Open o) s = absurd s
queue_plan w q (Gather g) s = absurd s
queue_plan w q (Enter e) s = s
queue_plan w q (Detach p t) s = s
queue_plan w q (Send o) s = s
queue_plan w q (Fork o a) s = s

-- what a call took: what its cell told, or, where that told something, a fault that the book of its scope keeps
abbrev pub SaysTaken : World → ℕ → ℕ → Ending → Type 0
SaysTaken w t c e = EndsAs w t c e ⊎ ((d : Ending) × (EndsAs w t c d × (e ≡ Fault)))

abbrev pub SaysThen : World → Party → Then → Type 0
SaysThen w q (BeginFound g x) = SaysTarget w q g × Taking w x
SaysThen w q (LeaveWait g) = SaysTarget w q g
SaysThen w q Resume = ⊤
SaysThen w q Called = ⊤
SaysThen w q (Await o) = SaysTarget w q (Answer o None)
SaysThen w q (Gathers o) = SaysTarget w q (Answer o None)
SaysThen w q (RunFirst o a) = SaysPlan w q (Fork o a)
SaysThen w q (Answers o f e) = Opened w q o × FirstEnds w (w.call o.number).first f × SaysTaken w o.job o.number e
SaysThen w q (Missing o f) = SaysTarget w q (Answer o f)
SaysThen w q (Ran t e) = (w.job t).at ≡ Over e
SaysThen w q (GiveBack n) = SaysPlan w q n

-- whose share is lowered, by what follows
abbrev pub SaysOwner : World → ℕ → ℕ → Then → Type 0
SaysOwner w t p Resume = ((w.job t).kind ≡ Detached p) × (is_done (w.job t).at ≡ true)
SaysOwner w t p Called = ((w.job t).kind ≡ Detached p) × (is_done (w.job t).at ≡ true)
SaysOwner w t p (Answers o f e) = o.job ≡ t
SaysOwner w t p (Missing o f) = o.job ≡ t
SaysOwner w t p (Ran u e) = (u ≡ t) × ((w.job t).kind ≡ Direct)
SaysOwner w t p (GiveBack n) = (plan_job n ≡ t) × (plan_count n ≡ OfPool p)
SaysOwner w t p _ = ⊥

-- of a scope: a job that is over, and one of a refused spawn
abbrev pub SaysEntry : World → ℕ → Then → Type 0
SaysEntry w t Resume = is_done (w.job t).at ≡ true
SaysEntry w t (GiveBack n) = plan_job n ≡ t
SaysEntry w t _ = ⊥

-- and the body, whose call waits next
abbrev pub SaysBody : ℕ → Then → Type 0
SaysBody c (Await o) = o.number ≡ c
SaysBody c _ = ⊥

abbrev pub SaysShare : World → Count → Share → Then → Type 0
SaysShare w (OfPool p) PoolValue n = ((w.pool p).held ≡ false) × (n ≡ Resume)
SaysShare w (OfPool p) (OfJob t) n = (t + 1 ≤ w.jobs) × ((w.job t).pool ≡ p) × SaysOwner w t p n
SaysShare w (OfPool p) Body n = ⊥
SaysShare w (OfScope c o) PoolValue n = ⊥
SaysShare w (OfScope c o) (OfJob t) n = (t + 1 ≤ w.jobs) × ((w.job t).kind ≡ Scoped c o) × (c + 1 ≤ w.calls) × SaysEntry w t n
SaysShare w (OfCast c o) PoolValue n = ⊥
SaysShare w (OfCast c o) Body n = ⊥
SaysShare w (OfCast c o) (OfJob t) n = (t + 1 ≤ w.jobs) × ((w.job t).kind ≡ PieceOf c o) × (c + 1 ≤ w.calls) × (is_done (w.job t).at ≡ true) × (n ≡ Resume)
SaysShare w (OfScope c o) Body n = (c + 1 ≤ w.calls) × (is_done (w.job (w.call c).job).at ≡ true) × SaysBody c n

-- a call is no scope: its job was made, and is no body
abbrev pub IsStored : World → ℕ → Type 0
IsStored w c = ((w.call c).job + 1 ≤ w.jobs) × (is_body (w.job (w.call c).job).kind ≡ false)

-- a call's latch can be set: its count is 0, or, of one that is no scope, the job that it waits for is over
abbrev pub IsReady : World → ℕ → Type 0
IsReady w c = (IsStored w c × (is_done (w.job (w.call c).job).at ≡ true)) ⊎ ((w.call c).count ≡ 0)

-- who sets a call's latch can; a pool whose terminate latches are set has ended
abbrev pub SaysLatch : World → ℕ → Latch → Type 0
SaysLatch w p Terminate = (w.pool p).count ≡ 0
SaysLatch w p (OfCall c) = (c + 1 ≤ w.calls) × IsReady w c

-- the count is 0
abbrev pub IsZero : World → Count → Type 0
IsZero w (OfPool p) = (w.pool p).count ≡ 0
IsZero w (OfScope c o) = (w.call c).count ≡ 0
IsZero w (OfCast c o) = (w.call c).count ≡ 0

abbrev pub SaysRun : World → ℕ → JobKind → Type 0
SaysRun w t Direct = Awaited w t
SaysRun w t (TokenOf i b8) = Awaited w t
SaysRun w t (BodyOf c9 o9) = Awaited w t
SaysRun w t (WholeOf c9 o9) = Awaited w t
SaysRun w t k = (t + 1 ≤ w.jobs) × ((w.job t).kind ≡ k)

abbrev pub Says : World → Party → Place → Type 0
Says w q (ProbeWorking k) = SaysTarget w q k.target
Says w q (PopWorking k) = SaysTarget w q k.target
Says w q (TakeCastWorking k) = SaysTarget w q k.target
Says w q (BecomeInactive k) = SaysTarget w q k.target
Says w q (ProbeIdle k) = SaysTarget w q k.target
Says w q (PopIdle k) = SaysTarget w q k.target
Says w q (TakeCastIdle k) = SaysTarget w q k.target
Says w q (PickVictim k) = SaysTarget w q k.target
Says w q (PopInjected k) = SaysTarget w q k.target
Says w q (AnnounceSelf k) = SaysTarget w q k.target
Says w q (GetSleepy k) = SaysTarget w q k.target
Says w q (LockOwn k) = SaysTarget w q k.target
Says w q (FallAsleep k) = SaysTarget w q k.target
Says w q (LoadCounters k) = SaysTarget w q k.target
Says w q (AddSleeping k) = SaysTarget w q k.target
Says w q (LookAtCast k) = SaysTarget w q k.target
Says w q (LookAtInjector k) = SaysTarget w q k.target
Says w q (BlockSelf k) = SaysTarget w q k.target
Says w q (RelockOwn k) = SaysTarget w q k.target
Says w q (UndoSleeping k) = SaysTarget w q k.target
Says w q (WakeUp k) = SaysTarget w q k.target
Says w q (UnlockOwn k) = SaysTarget w q k.target
Says w q (LeaveSearch k) = SaysTarget w q k.target × SaysFound w k.found
Says w q (StealFrom k n) = SaysTarget w q k.target
Says w q (JoinProbe o) = SaysTarget w q (Answer o (Some Fine))
Says w q (JoinPop o) = SaysTarget w q (Answer o (Some Fine))
Says w q (JoinTakeCast o) = SaysTarget w q (Answer o (Some Fine))
Says w q (SecondSide o) = SaysTarget w q (Answer o (Some Fine))
Says w q (BeginTask x) = Taking w x
Says w q (BeginHere t) = Awaited w t
Says w q (Run t k) = SaysRun w t k
Says w q (RaiseCount n) = SaysPlan w q n
Says w q (GrowCall n) = SaysQueue w q n
Says w q (GrowScope o) = SaysPlan w q (Open o)
Says w q (OpenSlot n) = SaysSlot w q n
Says w q (CloseSlot n) = SaysSlot w q n
Says w q (LookQueue n) = SaysQueue w q n
Says w q (PushJob n e) = SaysQueue w q n
Says w q (AddToFifo f) = SaysPlan w q (Feed f)
Says w q (LookForToken f) = SaysPlan w q (Feed f)
Says w q (PushToken f e) = SaysPlan w q (Feed f)
Says w q (TakeFromFifo f) = SaysPlan w q (Feed f)
Says w q (RaiseForAll c) = SaysCast w c
Says w q (OpenForAll c) = SaysCast w c
Says w q (PushForAll c) = SaysCast w c
Says w q (CloseForAll c) = SaysCast w c
Says w q (LowerForAll c) = SaysCast w c
Says w q (GrowCast g) = SaysGather w q g
Says w q (DealPieces g) = SaysGather w q g
Says w q (TellNews n e) = SaysTold w q n
Says w q (LockToWake k) = SaysThen w q k.then
Says w q (WakeWorker k) = SaysThen w q k.then
Says w q (UnlockWoken k) = SaysThen w q k.then
Says w q (WaitForLock o) = SaysTarget w q (Answer o None)
Says w q (TakeResult o f) = SaysTarget w q (Answer o f)
Says w q (LowerCount p s n) = SaysThen w q n × SaysShare w p s n
Says w q (StoreResult c o e) = (c + 1 ≤ w.calls) × ((w.job (w.call c).job).at ≡ Over e) × IsStored w c
Says w q (StoreBody o e) = SaysTarget w q (Answer o None) × ((w.job o.job).at ≡ Over e)
Says w q (StoreSlot c o t e) = (t + 1 ≤ w.jobs) × ((w.job t).kind ≡ Scoped c o) × (c + 1 ≤ w.calls) × ((w.job t).at ≡ Over e)
Says w q (StorePiece c o t e) = (t + 1 ≤ w.jobs) × ((w.job t).kind ≡ PieceOf c o) × (c + 1 ≤ w.calls) × ((w.job t).at ≡ Over e)
Says w q (SetLatch s) = SaysLatch w s.pool s.latch × SaysThen w q s.then
Says w q (LockToSettle s) = SaysLatch w s.pool s.latch × SaysThen w q s.then
Says w q (WakeSettled s) = SaysLatch w s.pool s.latch × SaysThen w q s.then
Says w q (UnlockSettled s) = SaysLatch w s.pool s.latch × SaysThen w q s.then
Says w q (SetLockLatch c n) = SaysLatch w 0 (OfCall c) × SaysThen w q n
Says w q (FirstSide o a) = SaysPlan w q (Fork o a)
Says w q (ScopeBody o) = SaysTarget w q (Answer o None)
Says w q (AtOnce p t) = SaysPlan w q (Here p t)
Says w q _ = ⊤
