-- which places are of a call's own program, and where each leads
--
-- `Part` says which places are of the call of a plan, by how far it has come: not yet queued; queued, or a scope's body
-- has begun; its share given back; refused.
-- The act of such a place leads to another of the call (`part_leads`, over the table of moves), or back. Back means: by
-- what the place says (`CallsHold`) the jobs are over; or the plan was a spawn that has queued its job; or the move
-- hands the jobs back.
use Rattle.std.proofs.Common.{refl, sym, ap, subst, ◌∙◌}
use Rattle.rayon_machine_orders.proofs.Words.{ℕ, Bool, true, false, ◌&&◌, ◌+◌, ◌-◌, ◌==◌, ◌≤◌, nat_lt, if◌then◌else◌, Option, Some, None, ◌≡◌, ⊤, Party, Worker, Caller, Ending, Fine, Fault, Target, Termination, Answer, Latch, Terminate, OfCall, Rounds, Failed, Announced, Plan, Detach, Here}
use Rattle.rayon_machine_orders.proofs.Words.{Send, Fork, Feed, Open, Enter, Gather, Count, OfPool, OfScope, OfCast, Share, PoolValue, Body, OfJob, Then, BeginFound, LeaveWait, Resume, Await, RunFirst, Answers, Missing, Ran, GiveBack, Called, Gathers, Place, ProbeWorking, PopWorking}
use Rattle.rayon_machine_orders.proofs.Words.{TakeCastWorking, BecomeInactive, ProbeIdle, PopIdle, TakeCastIdle, PickVictim, StealFrom, PopInjected, AnnounceSelf, GetSleepy, LockOwn, FallAsleep, LoadCounters, AddSleeping, LookAtCast, LookAtInjector, BlockSelf, RelockOwn, UndoSleeping, WakeUp}
use Rattle.rayon_machine_orders.proofs.Words.{UnlockOwn, LeaveSearch, JoinProbe, JoinPop, JoinTakeCast, YieldPop, YieldTakeCast, YieldPick, YieldSteal, YieldPopInjected, LocalPop, LocalTakeCast, BeginTask, BeginHere, Run, RaiseCount, GrowCall, LookQueue, PushJob, TellNews, LockToWake}
use Rattle.rayon_machine_orders.proofs.Words.{WakeWorker, UnlockWoken, WaitForLock, TakeResult, LowerCount, StoreResult, SetLatch, LockToSettle, WakeSettled, UnlockSettled, SetLockLatch, FirstSide, SecondSide, AtOnce, Free, Stopped, AddToFifo, LookForToken, PushToken, TakeFromFifo, RaiseForAll}
use Rattle.rayon_machine_orders.proofs.Words.{PushForAll, LowerForAll, GrowScope, OpenSlot, CloseSlot, StoreBody, StoreSlot, ScopeBody, OpenForAll, CloseForAll, GrowCast, DealPieces, StorePiece, Move, Stay, EnterAbove as Enter, StartRun, Back, HandBack, Discard, HandIn, Mark, HandAllBack, Seen}
use Rattle.rayon_machine_orders.proofs.Words.{Done, Yes, Task, Jec, Word, Start, Wakes, Over, PoolShape, OpenCall, Wait, Settling, own_pool, own_index, plan_pool, plan_job, begin_feed, after_slot, undo, withdraw, after_wait, finish, walk, settle, after_set, after_found, after_news, after_raise}
use Rattle.rayon_machine_orders.proofs.Words.{next_victim, not_self, after_failure, next_steal, next_of, is_taken, set_call, settle_count, World, is_token, is_done, Taken, Feeding, Gathering, Detached, Stored, Direct, TokenOf, Scoped, BodyOf, PieceOf, WholeOf, JobKind, Job, has_body, HasEnded}
use Rattle.rayon_machine_orders.proofs.Words.{ScopeTakes, CastTakes, TakesAs, is_piece}
use Rattle.rayon_machine_laws.proofs.Claims.{FirstEnds, is_body, is_detached, SaysThen, Says}

-- how far a call has come: its job is not yet queued, or it is, or a scope's body runs; its share is given back; or a
-- step of the call was refused, and then its share is given back. In between the job of a call for a FIFO list is there
-- without a token, and is taken back where that is refused
pub data Stage : Type 0 where
  Going : Stage
  Gone : Stage
  Paid : Stage
  Undone : Stage
  Repaid : Stage
  Added : Stage
  Withdrawing : Stage

abbrev pub is_undone : Stage → Bool
is_undone Undone = true
is_undone Repaid = true
is_undone Withdrawing = true
is_undone _ = false

-- what a plan is: a call that waits, an install that runs its job at once, a spawn
abbrev pub plan_open : Plan → Option OpenCall
plan_open (Send o) = Some o
plan_open (Fork o a) = Some o
plan_open (Open o) = Some o
plan_open (Gather g) = Some g.call
plan_open _ = None

abbrev pub plan_here : Plan → Option ℕ
plan_here (Here p t) = Some t
plan_here _ = None

abbrev pub is_detach : Plan → Bool
is_detach (Detach p t) = true
is_detach (Feed f) = true
is_detach (Enter e) = true
is_detach _ = false

abbrev pub is_sent : Plan → Bool
is_sent (Here p t) = false
is_sent (Feed f) = false
is_sent (Open o) = false
is_sent (Gather g) = false
is_sent _ = true

-- a spawn into a scope opens a number of the scope's book, in order or not
abbrev pub is_slotted : Plan → Bool
is_slotted (Enter e) = true
is_slotted (Feed f) = true
is_slotted _ = false

-- of which plan a call tells the news: one for a FIFO list, of its token
abbrev pub told : Plan → Plan
told (Feed f) = Detach f.pool f.token
told n = n

-- what belongs to the call of a plan n that has come to a stage s
abbrev pub PartPlan : Plan → Stage → Stage → Plan → Type 0
PartPlan n s r m = (m ≡ n) × (s ≡ r) × (is_sent m ≡ true)

abbrev pub PartOpen : Plan → Stage → OpenCall → Type 0
PartOpen n s o = (plan_open n ≡ Some o) × (s ≡ Gone)

abbrev pub PartTarget : Plan → Stage → Target → Type 0
PartTarget n s Termination = ⊥
PartTarget n s (Answer o f) = PartOpen n s o

-- while others are woken
abbrev pub PartThen : Plan → Stage → Then → Type 0
PartThen n s (BeginFound g t) = PartTarget n s g
PartThen n s (LeaveWait g) = PartTarget n s g
PartThen n s Resume = (is_detach n ≡ true) × (s ≡ Gone)
PartThen n s (Await o) = PartOpen n s o
PartThen n s (Gathers o) = PartOpen n s o
PartThen n s (RunFirst o a) = (n ≡ Fork o a) × (s ≡ Gone)
PartThen n s _ = ⊥

-- before the call's share is given back
abbrev pub PartOwed : Plan → Stage → Then → Type 0
PartOwed n s (Answers o f e) = PartOpen n s o
PartOwed n s (Ran t e) = (plan_here n ≡ Some t) × (s ≡ Going)
PartOwed n s (GiveBack m) = (m ≡ n) × (s ≡ Undone)
PartOwed n s _ = ⊥

-- and after that, or once a scope's body has given back its own
abbrev pub PartPaid : Plan → Stage → Then → Type 0
PartPaid n s (Answers o f e) = (plan_open n ≡ Some o) × (s ≡ Paid)
PartPaid n s (Ran t e) = (plan_here n ≡ Some t) × (s ≡ Paid)
PartPaid n s (GiveBack m) = (m ≡ n) × (s ≡ Repaid)
PartPaid n s (Await o) = PartOpen n s o
PartPaid n s _ = ⊥

-- a call lowers its pool's count once, for its job; a scope its own for the body, and waits then
abbrev pub PartBody : Plan → Stage → Then → Type 0
PartBody n s (Await o) = (n ≡ Open o) × (s ≡ Gone)
PartBody n s _ = ⊥

abbrev pub PartLower : Plan → Stage → Share → Then → Type 0
PartLower n s PoolValue t = ⊥
PartLower n s Body t = PartBody n s t
PartLower n s (OfJob u) t = (u ≡ plan_job n) × PartOwed n s t

abbrev pub Part : Plan → Stage → Place → Type 0
Part n s (ProbeWorking k) = PartTarget n s k.target
Part n s (PopWorking k) = PartTarget n s k.target
Part n s (TakeCastWorking k) = PartTarget n s k.target
Part n s (BecomeInactive k) = PartTarget n s k.target
Part n s (ProbeIdle k) = PartTarget n s k.target
Part n s (PopIdle k) = PartTarget n s k.target
Part n s (TakeCastIdle k) = PartTarget n s k.target
Part n s (PickVictim k) = PartTarget n s k.target
Part n s (StealFrom k m) = PartTarget n s k.target
Part n s (PopInjected k) = PartTarget n s k.target
Part n s (AnnounceSelf k) = PartTarget n s k.target
Part n s (GetSleepy k) = PartTarget n s k.target
Part n s (LockOwn k) = PartTarget n s k.target
Part n s (FallAsleep k) = PartTarget n s k.target
Part n s (LoadCounters k) = PartTarget n s k.target
Part n s (AddSleeping k) = PartTarget n s k.target
Part n s (LookAtCast k) = PartTarget n s k.target
Part n s (LookAtInjector k) = PartTarget n s k.target
Part n s (BlockSelf k) = PartTarget n s k.target
Part n s (RelockOwn k) = PartTarget n s k.target
Part n s (UndoSleeping k) = PartTarget n s k.target
Part n s (WakeUp k) = PartTarget n s k.target
Part n s (UnlockOwn k) = PartTarget n s k.target
Part n s (LeaveSearch k) = PartTarget n s k.target
Part n s (JoinProbe o) = PartOpen n s o
Part n s (JoinPop o) = PartOpen n s o
Part n s (JoinTakeCast o) = PartOpen n s o
Part n s (SecondSide o) = PartOpen n s o
Part n s (WaitForLock o) = PartOpen n s o
Part n s (TakeResult o f) = PartOpen n s o
Part n s (RaiseCount m) = (m ≡ n) × (s ≡ Going)
Part n s (GrowCall m) = PartPlan n s Going m
Part n s (LookQueue m) = PartPlan n s Going m
Part n s (PushJob m e) = PartPlan n s Going m
Part n s (AddToFifo f) = (n ≡ Feed f) × (s ≡ Going)
Part n s (LookForToken f) = (n ≡ Feed f) × (s ≡ Added)
Part n s (PushToken f e) = (n ≡ Feed f) × (s ≡ Added)
Part n s (TakeFromFifo f) = (n ≡ Feed f) × (s ≡ Withdrawing)
Part n s (TellNews m e) = PartPlan (told n) s Gone m
Part n s (LockToWake k) = PartThen n s k.then
Part n s (WakeWorker k) = PartThen n s k.then
Part n s (UnlockWoken k) = PartThen n s k.then
Part n s (LowerCount p h t) = PartLower n s h t
Part n s (SetLatch k) = PartPaid n s k.then
Part n s (LockToSettle k) = PartPaid n s k.then
Part n s (WakeSettled k) = PartPaid n s k.then
Part n s (UnlockSettled k) = PartPaid n s k.then
Part n s (SetLockLatch c t) = PartPaid n s t
Part n s (FirstSide o a) = (n ≡ Fork o a) × (s ≡ Gone)
Part n s (AtOnce p t) = (n ≡ Here p t) × (s ≡ Going)
Part n s (GrowScope o) = (n ≡ Open o) × (s ≡ Going)
Part n s (ScopeBody o) = (n ≡ Open o) × (s ≡ Gone)
Part n s (StoreBody o e) = (n ≡ Open o) × (s ≡ Gone)
Part n s (OpenSlot m) = (m ≡ n) × (s ≡ Going) × (is_slotted m ≡ true)
Part n s (CloseSlot m) = (m ≡ n) × (s ≡ Undone)
Part n s (GrowCast g) = (n ≡ Gather g) × (s ≡ Going)
Part n s (DealPieces g) = (n ≡ Gather g) × (s ≡ Going)
Part n s _ = ⊥

abbrev pub Ended : World → ℕ → Type 0
Ended w t = is_done (w.job t).at ≡ true

-- what is known of the jobs of a call that waited once it has given its share back: they are over
abbrev pub AllOver : (ℕ → Job) → Plan → Type 0
AllOver f (Here p t) = is_done (f t).at ≡ true
AllOver f (Send o) = is_done (f o.job).at ≡ true
AllOver f (Open o) = is_done (f o.job).at ≡ true
AllOver f (Fork o a) = (is_done (f a).at ≡ true) × (is_done (f o.job).at ≡ true)
AllOver f (Gather g) = (t : ℕ) → is_piece g.pieces t ≡ true → is_done (f t).at ≡ true
AllOver f _ = ⊤

-- and the count of a broadcast is 0 then
abbrev pub NoneLeft : World → Plan → Type 0
NoneLeft w (Gather g) = (w.call g.call.number).count ≡ 0
NoneLeft w _ = ⊤

-- a call that nothing refused can return: its share is given back, or it was a spawn and has queued its job
abbrev pub Returns : Plan → Stage → Type 0
Returns (Detach p t) s = s ≡ Gone
Returns (Feed f) s = s ≡ Gone
Returns (Enter e) s = s ≡ Gone
Returns n s = s ≡ Paid

-- the job of a scope's call: its body
abbrev pub is_scope_body : JobKind → Bool
is_scope_body (BodyOf c o) = true
is_scope_body _ = false

-- the job of a call that waits was made, and is of such a kind
pub record KnownJob (w : World) (t : ℕ) (f : JobKind → Bool) (b : Bool) : Type 0 where
  pub made : t + 1 ≤ w.jobs
  pub sort : f (w.job t).kind ≡ b

-- a broadcast that waits: its call has no first side, its own number stands for it, and the pieces are the call's
pub record KnownGather (w : World) (g : Gathering) : Type 0 where
  pub number : g.call.number + 1 ≤ w.calls
  pub alone : (w.call g.call.number).first ≡ None
  pub owner : Party
  pub made : g.call.job + 1 ≤ w.jobs
  pub whole : (w.job g.call.job).kind ≡ WholeOf g.call.number owner
  pub pieces : (t : ℕ) → is_piece g.pieces t ≡ true → (t + 1 ≤ w.jobs) × ((w.job t).kind ≡ PieceOf g.call.number owner)

-- what the world tells of a plan: no call waits for a spawn's job, a call that waits knows its first side, if it is a
-- join
abbrev pub Known : World → Plan → Type 0
Known w (Detach p t) = (t + 1 ≤ w.jobs) × (is_detached (w.job t).kind ≡ true)
Known w (Feed f) = ((f.job + 1 ≤ w.jobs) × (is_detached (w.job f.job).kind ≡ true)) × ((f.token + 1 ≤ w.jobs) × (is_token (w.job f.token).kind ≡ true))
Known w (Open o) = (o.number + 1 ≤ w.calls) × ((w.call o.number).first ≡ None) × KnownJob w o.job is_scope_body true
Known w (Enter e) = (e.job + 1 ≤ w.jobs) × (is_detached (w.job e.job).kind ≡ true)
Known w (Send o) = (o.number + 1 ≤ w.calls) × ((w.call o.number).first ≡ None) × KnownJob w o.job is_body false
Known w (Fork o a) = (o.number + 1 ≤ w.calls) × ((w.call o.number).first ≡ Some a) × KnownJob w o.job is_body false
Known w (Gather g) = KnownGather w g
Known w _ = ⊤

-- where a move of the call's own step leads
abbrev pub Leads : World → Plan → Stage → Move → Type 0
Leads w n s (Stay y) = Part n s y
Leads w n s (Mark y c m) = Part n s y
Leads w n s (Enter f y) = Part n s f
Leads w n s (StartRun f t) = Part n s f
Leads w n s Back = Returns n s
Leads w n s (HandBack m) = (m ≡ n) × (s ≡ Repaid)
Leads w n s _ = ⊥

first_ended : (w : World) (a : ℕ) (f : Option Ending) → FirstEnds w (Some a) f → Ended w a
first_ended w a (Some e) z = ap is_done z
first_ended w a None z = absurd z

some_open : {o p : OpenCall} → Some o ≡ Some p → o ≡ p
some_open e = cc

-- what a call took tells that its job is over, or all pieces of a broadcast are
pub plain_takes : (w : World) (o : OpenCall) (d : Ending) (k : JobKind) → is_body k ≡ false → TakesAs w o k d → HasEnded w o.job d
plain_takes w o d (BodyOf c p) b y = cc
plain_takes w o d (WholeOf c p) b y = cc
plain_takes w o d _ b y = y

pub body_takes : (w : World) (o : OpenCall) (d : Ending) (k : JobKind) → is_scope_body k ≡ true → TakesAs w o k d → ScopeTakes w o.number d
body_takes w o d (BodyOf c p) b y = y
body_takes w o d _ b y = cc

scope_over : (w : World) (c : ℕ) (d : Ending) → ScopeTakes w c d → Ended w (w.call c).job
scope_over w c Fine y = ap is_done (y.body).at
scope_over w c Fault y = ap is_done (y.body).at

pub pieces_over : (w : World) (c : ℕ) (d : Ending) → CastTakes w c d → (t : ℕ) (o : Party) → t + 1 ≤ w.jobs → (w.job t).kind ≡ PieceOf c o → Ended w t
pieces_over w c Fine y t o m k = ap is_done ((y.pieces t o m k).at)
pieces_over w c Fault y t o m k = ap is_done (((y.pieces t o m k).1).at)

-- what a call knows that is to answer
pub record Knows (w : World) (o : OpenCall) (f : Option Ending) (d : Ending) : Type 0 where
  pub own : (w.call o.number).job ≡ o.job
  pub side : FirstEnds w (w.call o.number).first f
  pub took : TakesAs w o (w.job o.job).kind d
  pub count : has_body (w.job o.job).kind ≡ false → (w.call o.number).count ≡ 0

pub open_over : (w : World) (n : Plan) (o : OpenCall) (f : Option Ending) (d : Ending) → Known w n → Knows w o f d → plan_open n ≡ Some o → AllOver w.job n
open_over w (Here p t) o f d k y e = absurd (cc)
open_over w (Send m) o f d k y e = let i : o ≡ m = sym (some_open e) in let z : Knows w m f d = subst (λ x. Knows w x f d) i y in ap is_done ((plain_takes w m d ((w.job m.job).kind) ((k.2).sort) z.took).at)
open_over w (Open m) o f d k y e = let i : o ≡ m = sym (some_open e) in let z : Knows w m f d = subst (λ x. Knows w x f d) i y in subst (Ended w) z.own (scope_over w m.number d (body_takes w m d ((w.job m.job).kind) ((k.2).sort) z.took))
open_over w (Fork m a) o f d k y e = let i : o ≡ m = sym (some_open e) in let z : Knows w m f d = subst (λ x. Knows w x f d) i y in (first_ended w a f (subst (λ v. FirstEnds w v f) (k.1) z.side), ap is_done ((plain_takes w m d ((w.job m.job).kind) ((k.2).sort) z.took).at))
open_over w (Gather g) o f d k y e = let i : o ≡ g.call = sym (some_open e) in let z : Knows w g.call f d = subst (λ x. Knows w x f d) i y in let c : CastTakes w g.call.number d = subst (λ x. TakesAs w g.call x d) k.whole z.took in
    λ t p. pieces_over w g.call.number d c t k.owner ((k.pieces t p).0) ((k.pieces t p).1)
open_over w _ o f d k y e = tt

pub open_none : (w : World) (n : Plan) (o : OpenCall) (f : Option Ending) (d : Ending) → Known w n → Knows w o f d → plan_open n ≡ Some o → NoneLeft w n
open_none w (Gather g) o f d k y e = let i : o ≡ g.call = sym (some_open e) in let z : Knows w g.call f d = subst (λ x. Knows w x f d) i y in z.count (ap has_body k.whole)
open_none w _ o f d k y e = tt

pub here_none : (w : World) (n : Plan) (t : ℕ) → plan_here n ≡ Some t → NoneLeft w n
here_none w (Gather g) t y = absurd (cc)
here_none w _ t y = tt

pub here_over : (w : World) (n : Plan) (t : ℕ) (e : Ending) → (w.job t).at ≡ Over e → plan_here n ≡ Some t → AllOver w.job n
here_over w (Here p u) t e z y = (let b : u ≡ t = cc in subst (λ v. Ended w v) (sym b) (ap is_done z))
here_over w (Feed f) t e z y = tt
here_over w (Detach p u) t e z y = tt
here_over w (Enter x) t e z y = tt
here_over w _ t e z y = absurd (cc)

open_returns : (n : Plan) (s : Stage) (o : OpenCall) → (plan_open n ≡ Some o) × (s ≡ Paid) → Returns n s
open_returns (Detach p t) s o y = absurd (let a : None ≡ Some o = y.0 in cc)
open_returns (Feed d) s o y = absurd (let a : None ≡ Some o = y.0 in cc)
open_returns (Enter x) s o y = absurd (let a : None ≡ Some o = y.0 in cc)
open_returns _ s o y = y.1

detach_returns : (n : Plan) (s : Stage) → (is_detach n ≡ true) × (s ≡ Gone) → Returns n s
detach_returns (Here p t) s y = absurd (let a : false ≡ true = y.0 in cc)
detach_returns (Send o) s y = absurd (let a : false ≡ true = y.0 in cc)
detach_returns (Open o) s y = absurd (let a : false ≡ true = y.0 in cc)
detach_returns (Fork o a) s y = absurd (let b : false ≡ true = y.0 in cc)
detach_returns (Gather g) s y = absurd (let b : false ≡ true = y.0 in cc)
detach_returns _ s y = y.1

here_returns : (n : Plan) (s : Stage) (t : ℕ) → (plan_here n ≡ Some t) × (s ≡ Paid) → Returns n s
here_returns (Feed f) s t y = absurd (let a : None ≡ Some t = y.0 in cc)
here_returns (Detach p u) s t y = absurd (let a : None ≡ Some t = y.0 in cc)
here_returns (Enter x) s t y = absurd (let a : None ≡ Some t = y.0 in cc)
here_returns _ s t y = y.1

finish_leads : (w : World) (q : Party) (n : Plan) (s : Stage) (t : Then) → PartThen n s t → Leads w n s (finish q t)
finish_leads w q n s (BeginFound g t) y = y
finish_leads w q n s (LeaveWait Termination) y = absurd y
finish_leads w q n s (LeaveWait (Answer o f)) y = y
finish_leads w q n s Resume y = detach_returns n s y
finish_leads w (Worker p i) n s (Await o) y = y
finish_leads w (Caller c) n s (Await o) y = y
finish_leads w (Worker p i) n s (Gathers o) y = y
finish_leads w (Caller c) n s (Gathers o) y = y
finish_leads w q n s (RunFirst o a) y = y
finish_leads w q n s _ y = absurd y

paid_leads : (w : World) (q : Party) (n : Plan) (s : Stage) (t : Then) → Known w n → SaysThen w q t → PartPaid n s t → Leads w n s (finish q t)
paid_leads w q n s (Answers o f e) k z y = open_returns n s o y
paid_leads w q n s (Ran t e) k z y = here_returns n s t y
paid_leads w q n s (GiveBack m) k z y = y
paid_leads w (Worker p i) n s (Await o) k z y = y
paid_leads w (Caller c) n s (Await o) k z y = y
paid_leads w q n s _ k z y = absurd y

walk_leads : (w : World) (g : PoolShape) (q : Party) (n : Plan) (s : Stage) (p h i : ℕ) (t : Then) → PartThen n s t → Leads w n s (walk g q p h i t)
walk_leads w g q n s p h i t y = by (nat_lt 0 h && nat_lt i g.workers)
  where
    by : (b : Bool) → Leads w n s (if b then Stay (LockToWake (record { pool = p; owed = h; worker = i; then = t })) else finish q t)
    by true = y
    by false = finish_leads w q n s t y

pub settle_leads : (w : World) (g : PoolShape) (q : Party) (n : Plan) (s : Stage) (p i : ℕ) (t : Then) → Known w n → SaysThen w q t → PartPaid n s t → Leads w n s (settle g q p i t)
settle_leads w g q n s p i t k z y = by (nat_lt i g.workers)
  where
    by : (b : Bool) → Leads w n s (if b then Stay (SetLatch (record { latch = Terminate; pool = p; worker = i; then = t })) else finish q t)
    by true = y
    by false = paid_leads w q n s t k z y

settled_leads : (w : World) (g : PoolShape) (q : Party) (n : Plan) (s : Stage) (h : Settling) (l : Latch) → Known w n → SaysThen w q h.then → PartPaid n s h.then → Leads w n s (after_set g q h l)
settled_leads w g q n s h Terminate k z y = settle_leads w g q n s h.pool (h.worker + 1) h.then k z y
settled_leads w g q n s h (OfCall c) k z y = paid_leads w q n s h.then k z y

set_part : (n : Plan) (s : Stage) (c : ℕ) (o : Party) (t : Then) → PartPaid n s t → Part n s (set_call c o t)
set_part n s c (Worker p i) t y = y
set_part n s c (Caller m) t y = y

zero_leads : (w : World) (g : PoolShape) (q : Party) (n : Plan) (s : Stage) (p : Count) (t : Then) → Known w n → SaysThen w q t → PartPaid n s t → Leads w n s (settle_count g q p t)
zero_leads w g q n s (OfPool p) t k z y = settle_leads w g q n s p 0 t k z y
zero_leads w g q n s (OfScope c o) t k z y = set_part n s c o t y
zero_leads w g q n s (OfCast c o) t k z y = set_part n s c o t y

-- a Lower of the call leads on as it has been paid
pub lower_leads : (w : World) (g : PoolShape) (q : Party) (n : Plan) (s : Stage) (p : Count) (h : Share) (t : Then) (e : Seen) → Known w n → SaysThen w q t → PartPaid n s t → Leads w n s (next_of g q (LowerCount p h t) e)
lower_leads w g q n s p h t Yes k z y = zero_leads w g q n s p t k z y
lower_leads w g q n s p h t _ k z y = paid_leads w q n s t k z y

leads_if : (w : World) (n : Plan) (s : Stage) (x y : Place) (b : Bool) → Part n s x → Part n s y → Leads w n s (if b then Stay x else Stay y)
leads_if w n s x y true a b = a
leads_if w n s x y false a b = b

pub steal_part : (n : Plan) (s : Stage) (g : PoolShape) (q : Party) (k : Wait) (m : ℕ) → PartTarget n s k.target → Part n s (next_steal g q k m)
steal_part n s g q k m y = by (m == 0)
  where
    by : (b : Bool) → Part n s (if b then PopInjected k else StealFrom (record k { victim = not_self g.workers (own_index q) (next_victim g.workers k.victim) }) (m - 1))
    by true = y
    by false = y

failed_part : (n : Plan) (s : Stage) (g : PoolShape) (k : Wait) (r : Rounds) → PartTarget n s k.target → Part n s (after_failure g k r)
failed_part n s g k (Failed m) y = by (nat_lt m g.limit)
  where
    by : (b : Bool) → Part n s (if b then ProbeIdle (record k { rounds = Failed (m + 1) }) else AnnounceSelf k)
    by true = y
    by false = y
failed_part n s g k Announced y = y

left_part : (n : Plan) (s : Stage) (g : Target) → PartTarget n s g → Part n s (after_wait g)
left_part n s Termination y = absurd y
left_part n s (Answer o f) y = y

found_part : (n : Plan) (s : Stage) (g : Target) (o : Option Taken) → PartTarget n s g → PartThen n s (after_found g o)
found_part n s g None y = y
found_part n s g (Some t) y = y

pop_leads : (w : World) (n : Plan) (s : Stage) (o : OpenCall) (t : Taken) → PartOpen n s o → Leads w n s (if is_taken t o.job then Enter (SecondSide o) (BeginHere o.job) else Enter (JoinProbe o) (BeginTask t))
pop_leads w n s o t y = by (is_taken t o.job)
  where
    by : (b : Bool) → Leads w n s (if b then Enter (SecondSide o) (BeginHere o.job) else Enter (JoinProbe o) (BeginTask t))
    by true = y
    by false = y

-- what a call goes on with once its job is queued
told_detach : (n : Plan) → is_detach (told n) ≡ is_detach n
told_detach (Feed f) = refl
told_detach _ = refl

told_open : (n : Plan) → plan_open (told n) ≡ plan_open n
told_open (Feed f) = refl
told_open _ = refl

told_fork : (n : Plan) (o : OpenCall) (a : ℕ) → Fork o a ≡ told n → n ≡ Fork o a
told_fork (Feed f) o a e = cc
told_fork _ o a e = sym e

news_part : (n : Plan) (s : Stage) (m : Plan) → PartPlan (told n) s Gone m → PartThen n s (after_news m)
news_part n s (Detach p t) y = (sym (told_detach n) ∙ ap is_detach (sym (y.0)), y.1)
news_part n s (Enter e) y = (sym (told_detach n) ∙ ap is_detach (sym (y.0)), y.1)
news_part n s (Send o) y = (sym (told_open n) ∙ ap plan_open (sym (y.0)), y.1)
news_part n s (Fork o a) y = (told_fork n o a (y.0), y.1)
news_part n s _ y = absurd (let a : false ≡ true = y.2 in cc)

-- what a spawn in order goes on with once it has its share
fed_part : (n : Plan) (s : Stage) (f : Feeding) (k : Count) → (Feed f ≡ n) × (s ≡ Going) → Part n s (begin_feed k f)
fed_part n s f (OfScope c o) y = (y.0, y.1, refl)
fed_part n s f _ y = (sym (y.0), y.1)

-- and a spawn into a scope once it has a number of the book
pub slot_part : (n : Plan) (s : Stage) (m : Plan) → Part n s (OpenSlot m) → Part n s (after_slot m)
slot_part n s (Enter e) y = (y.0, y.1, refl)
slot_part n s (Feed f) y = (sym (y.0), y.1)
slot_part n s (Fork o a) y = absurd (let b : false ≡ true = y.2 in cc)
slot_part n s _ y = absurd (let a : false ≡ true = y.2 in cc)

-- a refused call gives its share back, or takes its number of a book back first
pub undo_part : (n m : Plan) → m ≡ n → Part n Undone (undo m)
undo_part n m e = (ap plan_job e, (e, refl))

pub withdraw_part : (n m : Plan) (b : Option ℕ) → m ≡ n → Part n Undone (withdraw b m)
withdraw_part n m None e = undo_part n m e
withdraw_part n m (Some c) e = (e, refl)

-- once its pool's count is raised for it
pub raised_leads : (w : World) (n : Plan) (s : Stage) (m : Plan) → Known w n → (m ≡ n) × (s ≡ Going) → Leads w n s (after_raise m)
raised_leads w n s (Feed f) k y = fed_part n s f f.count y
raised_leads w n s (Gather g) k y = (sym (y.0), y.1)
raised_leads w n s (Here p t) k y = (sym (y.0), y.1)
raised_leads w n s (Open o) k y = (sym (y.0), y.1)
raised_leads w n s _ k y = (y.0, y.1, refl)

-- the acts whose answer decides more than the place
abbrev pub is_decisive : Place → Bool
is_decisive (RaiseCount m) = true
is_decisive (GrowCall m) = true
is_decisive (PushJob m e) = true
is_decisive (AddToFifo f) = true
is_decisive (PushToken f e) = true
is_decisive (TakeFromFifo f) = true
is_decisive (TakeResult o f) = true
is_decisive (LowerCount p h t) = true
is_decisive (GrowScope o) = true
is_decisive (OpenSlot e) = true
is_decisive (GrowCast g) = true
is_decisive (DealPieces g) = true
is_decisive _ = false

-- every other place of a call leads to another of it, or the call returns
pub part_leads : (w : World) (g : PoolShape) (q : Party) (n : Plan) (s : Stage) (x : Place) (e : Seen) → is_decisive x ≡ false → Known w n → Says w q x → Part n s x → Leads w n s (next_of g q x e)
part_leads w g q n s (ProbeWorking k) Yes d h z y = left_part n s k.target y
part_leads w g q n s (ProbeWorking k) _ d h z y = y
part_leads w g q n s (PopWorking k) (Task t) d h z y = y
part_leads w g q n s (PopWorking k) _ d h z y = y
part_leads w g q n s (TakeCastWorking k) (Task t) d h z y = y
part_leads w g q n s (TakeCastWorking k) _ d h z y = y
part_leads w g q n s (ProbeIdle k) Yes d h z y = y
part_leads w g q n s (ProbeIdle k) _ d h z y = y
part_leads w g q n s (PopIdle k) (Task t) d h z y = y
part_leads w g q n s (PopIdle k) _ d h z y = y
part_leads w g q n s (TakeCastIdle k) (Task t) d h z y = y
part_leads w g q n s (TakeCastIdle k) _ d h z y = leads_if w n s (PopInjected k) (PickVictim k) (g.workers == 1) y y
part_leads w g q n s (PickVictim k) (Start v) d h z y = y
part_leads w g q n s (PickVictim k) _ d h z y = y
part_leads w g q n s (StealFrom k m) (Task t) d h z y = y
part_leads w g q n s (StealFrom k m) _ d h z y = steal_part n s g q k m y
part_leads w g q n s (PopInjected k) (Task t) d h z y = y
part_leads w g q n s (PopInjected k) _ d h z y = failed_part n s g k k.rounds y
part_leads w g q n s (AnnounceSelf k) (Jec j) d h z y = y
part_leads w g q n s (AnnounceSelf k) _ d h z y = y
part_leads w g q n s (GetSleepy k) Done d h z y = y
part_leads w g q n s (GetSleepy k) _ d h z y = y
part_leads w g q n s (FallAsleep k) Done d h z y = y
part_leads w g q n s (FallAsleep k) _ d h z y = y
part_leads w g q n s (LoadCounters k) (Word a b j) d h z y = leads_if w n s (AddSleeping (record k { sleeping = a; inactive = b })) (WakeUp (record k { rounds = Failed g.limit })) (j == k.kept) y y
part_leads w g q n s (LoadCounters k) _ d h z y = y
part_leads w g q n s (AddSleeping k) Done d h z y = y
part_leads w g q n s (AddSleeping k) _ d h z y = y
part_leads w g q n s (LookAtCast k) Yes d h z y = y
part_leads w g q n s (LookAtCast k) _ d h z y = y
part_leads w g q n s (LookAtInjector k) Yes d h z y = y
part_leads w g q n s (LookAtInjector k) _ d h z y = y
part_leads w g q n s (LeaveSearch k) (Wakes m) d h z y = walk_leads w g q n s (own_pool q) m 0 (after_found k.target k.found) (found_part n s k.target k.found y)
part_leads w g q n s (LeaveSearch k) _ d h z y = y
part_leads w g q n s (JoinProbe o) Yes d h z y = y
part_leads w g q n s (JoinProbe o) _ d h z y = y
part_leads w g q n s (JoinPop o) (Task t) d h z y = pop_leads w n s o t y
part_leads w g q n s (JoinPop o) _ d h z y = y
part_leads w g q n s (JoinTakeCast o) (Task t) d h z y = y
part_leads w g q n s (JoinTakeCast o) _ d h z y = y
part_leads w g q n s YieldPop e d h z y = absurd y
part_leads w g q n s YieldTakeCast e d h z y = absurd y
part_leads w g q n s YieldPick e d h z y = absurd y
part_leads w g q n s (YieldSteal v m) e d h z y = absurd y
part_leads w g q n s YieldPopInjected e d h z y = absurd y
part_leads w g q n s LocalPop e d h z y = absurd y
part_leads w g q n s LocalTakeCast e d h z y = absurd y
part_leads w g q n s (BeginTask t) e d h z y = absurd y
part_leads w g q n s (BeginHere t) e d h z y = absurd y
part_leads w g q n s (Run t k) e d h z y = absurd y
part_leads w g q n s (StoreResult c o f) e d h z y = absurd y
part_leads w g q n s (SetLockLatch c t) e d h z y = paid_leads w q n s t h (z.1) y
part_leads w g q n s (GrowScope o) e d h z y = absurd (let a : true ≡ false = d in cc)
part_leads w g q n s (OpenSlot o) e d h z y = absurd (let a : true ≡ false = d in cc)
part_leads w g q n s (CloseSlot m) e d h z y = (ap plan_job (y.0), y)
part_leads w g q n s (StoreSlot c o t f) e d h z y = absurd y
part_leads w g q n s (StorePiece c o t f) e d h z y = absurd y
part_leads w g q n s (GrowCast b) e d h z y = absurd (let a : true ≡ false = d in cc)
part_leads w g q n s (DealPieces b) e d h z y = absurd (let a : true ≡ false = d in cc)
part_leads w g q n s (OpenForAll c) e d h z y = absurd y
part_leads w g q n s (CloseForAll c) e d h z y = absurd y
part_leads w g q n s Free e d h z y = absurd y
part_leads w g q n s Stopped e d h z y = absurd y
part_leads w g q n s (RaiseCount m) e d h z y = absurd (let a : true ≡ false = d in cc)
part_leads w g q n s (GrowCall m) e d h z y = absurd (let a : true ≡ false = d in cc)
part_leads w g q n s (PushJob m v) e d h z y = absurd (let a : true ≡ false = d in cc)
part_leads w g q n s (AddToFifo f) e d h z y = absurd (let a : true ≡ false = d in cc)
part_leads w g q n s (PushToken f v) e d h z y = absurd (let a : true ≡ false = d in cc)
part_leads w g q n s (TakeFromFifo f) e d h z y = absurd (let a : true ≡ false = d in cc)
part_leads w g q n s (LookForToken f) Yes d h z y = y
part_leads w g q n s (LookForToken f) _ d h z y = y
part_leads w g q n s (RaiseForAll c) e d h z y = absurd y
part_leads w g q n s (PushForAll c) e d h z y = absurd y
part_leads w g q n s (LowerForAll c) e d h z y = absurd y
part_leads w g q n s (TakeResult o f) e d h z y = absurd (let a : true ≡ false = d in cc)
part_leads w g q n s (LookQueue m) Yes d h z y = y
part_leads w g q n s (LookQueue m) _ d h z y = y
part_leads w g q n s (TellNews m v) (Wakes k) d h z y = walk_leads w g q n s (plan_pool m) k 0 (after_news m) (news_part n s m y)
part_leads w g q n s (TellNews m v) _ d h z y = y
part_leads w g q n s (WakeWorker k) Yes d h z y = y
part_leads w g q n s (WakeWorker k) _ d h z y = y
part_leads w g q n s (UnlockWoken k) e d h z y = walk_leads w g q n s k.pool k.owed (k.worker + 1) k.then y
part_leads w g q n s (LowerCount p a t) e d h z y = absurd (let b : true ≡ false = d in cc)
part_leads w g q n s (SetLatch k) Yes d h z y = y
part_leads w g q n s (SetLatch k) _ d h z y = settled_leads w g q n s k k.latch h (z.1) y
part_leads w g q n s (UnlockSettled k) e d h z y = settled_leads w g q n s k k.latch h (z.1) y
part_leads w g q n s _ e d h z y = y

-- the job of a call's plan is the one that it waits for, or runs at once
pub open_job : (n : Plan) (o : OpenCall) → plan_open n ≡ Some o → o.job ≡ plan_job n
open_job (Open m) o e = let a : m ≡ o = cc in ap (λ x. x.job) (sym a)
open_job (Send m) o e = let a : m ≡ o = cc in ap (λ x. x.job) (sym a)
open_job (Fork m a) o e = let b : m ≡ o = cc in ap (λ x. x.job) (sym b)
open_job (Gather g) o e = let b : g.call ≡ o = cc in ap (λ x. x.job) (sym b)
open_job _ o e = absurd (cc)

pub here_job : (n : Plan) (t : ℕ) → plan_here n ≡ Some t → t ≡ plan_job n
here_job (Here p u) t e = (let a : u ≡ t = cc in sym a)
here_job _ t e = absurd (cc)
