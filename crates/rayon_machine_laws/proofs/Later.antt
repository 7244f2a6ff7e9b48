-- what no step takes back, so that what a place says stays true while others move
--
-- Over stays over, a call's job stays its job, a count of 0 stays 0. So what the others do can be ignored
-- (`later_says`).
use Rattle.rayon_machine_places.specs.declared.place.Gathering.{Gathering}
use Rattle.rayon_machine_places.specs.declared.place.Pieces.{Pieces}
use Rattle.rayon_machine_places.specs.declared.place.Count.TheVariants.{OfPool, OfScope, OfCast}
use Rattle.rayon_machine_places.specs.declared.place.Count.{Count}
use Rattle.std.proofs.Common.{arith, refl, sym, ◌∙◌, ap, subst, inl, inr}
use Rattle.std.specs.Prelude.{ℕ, Bool, true, false, ◌+◌, ◌-◌, ◌==◌, ◌≤◌, if◌then◌else◌, Option, Some, None, List, [], ◌∷◌, ◌≡◌, IfSome}
use Rattle.std.proofs.lemmas.Bool.{eq-eqb}
use Rattle.rayon_machine_places.specs.declared.place.Party.{Party}
use Rattle.rayon_machine_places.specs.declared.place.Party.TheVariants.{Worker}
use Rattle.rayon_machine_places.specs.declared.place.Ending.{Ending}
use Rattle.rayon_machine_places.specs.declared.place.Ending.TheVariants.{Fine}
use Rattle.rayon_machine_places.specs.declared.place.JobKind.{JobKind}
use Rattle.rayon_machine_places.specs.declared.place.JobKind.TheVariants.{Detached, Stored, Direct, TokenOf, Scoped, BodyOf, PieceOf, WholeOf}
use Rattle.rayon_machine_places.specs.declared.place.Target.{Target}
use Rattle.rayon_machine_places.specs.declared.place.Target.TheVariants.{Termination, Answer}
use Rattle.rayon_machine_places.specs.declared.place.Latch.{Latch}
use Rattle.rayon_machine_places.specs.declared.place.Latch.TheVariants.{Terminate, OfCall}
use Rattle.rayon_machine_places.specs.declared.place.Plan.{Plan}
use Rattle.rayon_machine_places.specs.declared.place.Plan.TheVariants.{Detach, Here, Send, Fork, Feed, Open, Enter, Gather}
use Rattle.rayon_machine_places.specs.declared.place.Share.{Share}
use Rattle.rayon_machine_places.specs.declared.place.Share.TheVariants.{PoolValue, OfJob, Body}
use Rattle.rayon_machine_places.specs.declared.place.Then.{Then}
use Rattle.rayon_machine_places.specs.declared.place.Then.TheVariants.{BeginFound, LeaveWait, Resume, Await, RunFirst, Answers, Missing, Ran, GiveBack, Called, Gathers}
use Rattle.rayon_machine_places.specs.declared.place.Taken.{Taken}
use Rattle.rayon_machine_places.specs.declared.place.Place.{Place}
use Rattle.rayon_machine_places.specs.declared.place.Place.TheVariants.{ProbeWorking, PopWorking, TakeCastWorking, BecomeInactive, ProbeIdle, PopIdle, TakeCastIdle, PickVictim, StealFrom, PopInjected, AnnounceSelf, GetSleepy, LockOwn, FallAsleep, LoadCounters, AddSleeping}
use Rattle.rayon_machine_places.specs.declared.place.Place.TheVariants.{LookAtCast, LookAtInjector, BlockSelf, RelockOwn, UndoSleeping, WakeUp, UnlockOwn, LeaveSearch, JoinProbe, JoinPop, JoinTakeCast, BeginTask, BeginHere, Run, RaiseCount, GrowCall, LookQueue, PushJob, TellNews}
use Rattle.rayon_machine_places.specs.declared.place.Place.TheVariants.{LockToWake, WakeWorker, UnlockWoken, WaitForLock, TakeResult, LowerCount, StoreResult, SetLatch, LockToSettle, WakeSettled, UnlockSettled, SetLockLatch, FirstSide, SecondSide, AtOnce, AddToFifo, LookForToken}
use Rattle.rayon_machine_places.specs.declared.place.Place.TheVariants.{PushToken, TakeFromFifo, RaiseForAll, PushForAll, LowerForAll, GrowScope, OpenSlot, CloseSlot, StoreBody, StoreSlot, ScopeBody, OpenForAll, CloseForAll, GrowCast, DealPieces, StorePiece}
use Rattle.rayon_machine_places.specs.declared.act.Seen.{Seen}
use Rattle.rayon_machine_places.specs.declared.act.Seen.TheVariants.{Done, Refused, Yes, No}
use Rattle.rayon_machine_runs.specs.declared.state.Whereabouts.{Whereabouts}
use Rattle.rayon_machine_runs.specs.declared.state.Whereabouts.TheVariants.{Nowhere, Made, InDeque, Injected, InFifo, Running, Over, HandedBack, Spent, Retaken, InCast}
use Rattle.rayon_machine_places.specs.declared.place.OpenCall.{OpenCall}
use Rattle.rayon_machine_places.specs.Places.{act_of, own_index, plan_count, count_kind, count_book}
use Rattle.rayon_machine_runs.specs.World.{Shape, Stack, World, Part, lowered, effect, count_in, raised, all_raised, all_lowered, pool_more, call_more, pool_less, call_less}
use Rattle.rayon_machine_places.specs.Sleepers.{Counts}
use Rattle.rayon_machine_runs.specs.Readers.{is_done}
use Rattle.rayon_machine_laws.proofs.Acts.{Field, Fixed, PoolCount, CallCount, writes_at, keeps}
use Rattle.rayon_machine_laws.proofs.Claims.{Opened, IsStored, call_kind, is_body, MadeAs, FirstEnds, SaysTarget, Left, Taking, is_detached, Awaited, SaysFound, SaysPlan, SaysQueue, SaysThen, SaysOwner, SaysShare, SaysLatch, SaysRun, Says, AllSay, StackSays, SaysTold, SaysPieces}
use Rattle.rayon_machine_laws.proofs.Claims.{SaysEntry, IsReady, Tied, PartOf, KnownCount, SaysCast, SaysGather, PieceEnds, EndsAs, SaysSlot, SaysTaken}
use Rattle.rayon_machine_places.specs.declared.place.Taken.TheVariants.{Plain, Token}

pub record Later (w u : World) : Type 0 where
  pub jobs : w.jobs ≤ u.jobs
  pub calls : w.calls ≤ u.calls
  pub over : (t : ℕ) (e : Ending) → (w.job t).at ≡ Over e → (u.job t).at ≡ Over e
  pub left : (t : ℕ) → Left w t → Left u t
  pub kind : (t : ℕ) → t + 1 ≤ w.jobs → (u.job t).kind ≡ (w.job t).kind
  pub pool : (t : ℕ) → t + 1 ≤ w.jobs → (u.job t).pool ≡ (w.job t).pool
  pub bound : (t : ℕ) → t + 1 ≤ w.jobs → (u.job t).bound ≡ (w.job t).bound
  pub target : (c : ℕ) → c + 1 ≤ w.calls → (u.call c).job ≡ (w.call c).job
  pub side : (c : ℕ) → c + 1 ≤ w.calls → (u.call c).first ≡ (w.call c).first
  pub ended : (p : ℕ) → (w.pool p).count ≡ 0 → (u.pool p).count ≡ 0
  pub spent : (c : ℕ) → c + 1 ≤ w.calls → (w.call c).count ≡ 0 → (u.call c).count ≡ 0
  pub given : (p : ℕ) → (w.pool p).held ≡ false → (u.pool p).held ≡ false
  pub shape : u.shape ≡ w.shape
  pub gone : (t : ℕ) → (w.job t).at ≡ Spent → (u.job t).at ≡ Spent

later_opened : (w u : World) → Later w u → (q : Party) (o : OpenCall) → Opened w q o → Opened u q o
later_opened w u l q o s = record {
  number = (let a : o.number + 1 ≤ w.calls = s.number in let b : w.calls ≤ u.calls = l.calls in omega (arith, a, b));
  made = (let a : o.job + 1 ≤ w.jobs = s.made in let b : w.jobs ≤ u.jobs = l.jobs in omega (arith, a, b));
  target = l.target (o.number) (s.number) ∙ s.target;
  kind = ap call_kind (l.kind (o.job) (s.made)) ∙ s.kind;
  pool = l.pool (o.job) (s.made) ∙ s.pool;
}

later_ends : (w u : World) → Later w u → (a : Option ℕ) (f : Option Ending) → FirstEnds w a f → FirstEnds u a f
later_ends w u l None None s = tt
later_ends w u l (Some a) (Some e) s = l.over a e s
later_ends w u l None (Some e) s = s
later_ends w u l (Some a) None s = s

later_first : (w u : World) → Later w u → (c : ℕ) (f : Option Ending) → c + 1 ≤ w.calls → FirstEnds w (w.call c).first f → FirstEnds u (u.call c).first f
later_first w u l c f b s = subst (λ a. FirstEnds u a f) (sym (l.side c b)) (later_ends w u l ((w.call c).first) f s)

pub later_target : (w u : World) → Later w u → (q : Party) (g : Target) → SaysTarget w q g → SaysTarget u q g
later_target w u l q Termination s = tt
later_target w u l q (Answer o f) s = (later_opened w u l q o (s.0), later_first w u l (o.number) f ((s.0).number) (s.1))

pub later_made : (w u : World) → Later w u → (t p : ℕ) (k : JobKind) → MadeAs w t p k → MadeAs u t p k
later_made w u l t p k s = record { made = (let a : t + 1 ≤ w.jobs = s.made in let b : w.jobs ≤ u.jobs = l.jobs in omega (arith, a, b)); kind = l.kind t (s.made) ∙ s.kind; pool = l.pool t (s.made) ∙ s.pool; bound = l.bound t (s.made) ∙ s.bound }

pub later_tied : (w u : World) → Later w u → (c : ℕ) (o : Party) → Tied w c o → Tied u c o
later_tied w u l c o s = record {
  number = (let a : c + 1 ≤ w.calls = s.number in let b : w.calls ≤ u.calls = l.calls in omega (arith, a, b));
  made = (let a : (w.call c).job + 1 ≤ w.jobs = s.made in let b : w.jobs ≤ u.jobs = l.jobs in let e : (u.call c).job ≡ (w.call c).job = l.target c (s.number) in omega (arith, a, b, e));
  kind = ap (λ t. (u.job t).kind) (l.target c (s.number)) ∙ l.kind ((w.call c).job) (s.made) ∙ s.kind;
}

pub later_part : (w u : World) → Later w u → (t c : ℕ) (o : Party) → PartOf w t c o → PartOf u t c o
later_part w u l t c o s = record {
  number = (let a : c + 1 ≤ w.calls = s.number in let b : w.calls ≤ u.calls = l.calls in omega (arith, a, b));
  made = (let a : (w.call c).job + 1 ≤ w.jobs = s.made in let b : w.jobs ≤ u.jobs = l.jobs in omega (arith, a, b, to));
  kind = ap (λ t. (u.job t).kind) to ∙ l.kind ((w.call c).job) (s.made) ∙ s.kind;
  pool = l.pool t (let a : t + 1 ≤ (w.call c).job = s.below in let b : (w.call c).job + 1 ≤ w.jobs = s.made in omega (arith, a, b)) ∙ s.pool ∙ sym (ap (λ n. (u.job n).pool) to ∙ l.pool ((w.call c).job) (s.made));
  below = (let a : t + 1 ≤ (w.call c).job = s.below in omega (arith, a, to));
  above = (let a : (w.call c).job ≤ t + (w.shape.pool (w.job (w.call c).job).pool).workers = s.above in let b : (u.shape.pool (u.job (u.call c).job).pool).workers ≡ (w.shape.pool (w.job (w.call c).job).pool).workers = ap (λ h. (h.pool (u.job (u.call c).job).pool).workers) (l.shape)
      ∙ ap (λ n. (w.shape.pool n).workers) (ap (λ n. (u.job n).pool) to ∙ l.pool ((w.call c).job) (s.made)) in omega (arith, a, b, to));
}
  where
    to : (u.call c).job ≡ (w.call c).job
    to = l.target c (s.number)

pub later_known : (w u : World) → Later w u → (k : Count) (p : ℕ) → KnownCount w k p → KnownCount u k p
later_known w u l (OfPool r) p s = s
later_known w u l (OfScope c o) p s = later_tied w u l c o s
later_known w u l (OfCast c o) p s = s

pub later_pieces : (w u : World) → Later w u → (c : Pieces) → SaysPieces w c → SaysPieces u c
later_pieces w u l c s t z = record { made = (let a : t + 1 ≤ w.jobs = (s t z).made in let b : w.jobs ≤ u.jobs = l.jobs in omega (arith, a, b)); kind = l.kind t ((s t z).made) ∙ (s t z).kind; pool = l.pool t ((s t z).made) ∙ (s t z).pool; bound = l.bound t ((s t z).made) ∙ (s t z).bound }

pub later_cast : (w u : World) → Later w u → (c : Pieces) → SaysCast w c → SaysCast u c
later_cast w u l c s = (later_pieces w u l c (s.0), later_known w u l c.count c.pool (s.1))

later_gather : (w u : World) → Later w u → (q : Party) (g : Gathering) → SaysGather w q g → SaysGather u q g
later_gather w u l q g s = record {
  call = later_opened w u l q g.call (s.call);
  alone = l.side (g.call.number) ((s.call).number) ∙ s.alone;
  pieces = later_pieces w u l g.pieces (s.pieces);
  count = s.count;
  spent = l.gone (g.call.job) (s.spent);
  whole = l.kind (g.call.job) ((s.call).made) ∙ s.whole;
  last = s.last;
  pool = s.pool;
  size = s.size ∙ ap (λ h. (h.pool g.call.pool).workers) (sym (l.shape));
}

pub later_piece : (w u : World) → Later w u → (c : ℕ) (e : Ending) → PieceEnds w c e → PieceEnds u c e
later_piece w u l c e s = record { job = s.job; owner = s.owner; made = (let a : s.job + 1 ≤ w.jobs = s.made in let b : w.jobs ≤ u.jobs = l.jobs in omega (arith, a, b)); kind = l.kind (s.job) (s.made) ∙ s.kind; at = l.over (s.job) e (s.at) }

pub later_as : (w u : World) → Later w u → (t c : ℕ) (e : Ending) → EndsAs w t c e → EndsAs u t c e
later_as w u l t c e (inl s) = inl (l.over t e s)
later_as w u l t c e (inr s) = inr (later_piece w u l c e s)

later_awaited : (w u : World) → Later w u → (t : ℕ) → Awaited w t → Awaited u t
later_awaited w u l t s = record { made = (let a : t + 1 ≤ w.jobs = s.made in let b : w.jobs ≤ u.jobs = l.jobs in omega (arith, a, b)); kind = ap is_detached (l.kind t (s.made)) ∙ s.kind }

later_taking : (w u : World) → Later w u → (x : Taken) → Taking w x → Taking u x
later_taking w u l (Plain t) s = l.left t s
later_taking w u l (Token k i b8) s = (l.left k (s.0), (let a : k + 1 ≤ w.jobs = s.1 in let b : w.jobs ≤ u.jobs = l.jobs in omega (arith, a, b)), l.kind k (s.1) ∙ s.2)

later_found : (w u : World) → Later w u → (o : Option Taken) → SaysFound w o → SaysFound u o
later_found w u l None s = tt
later_found w u l (Some x) s = later_taking w u l x s

later_plan : (w u : World) → Later w u → (q : Party) (n : Plan) → SaysPlan w q n → SaysPlan u q n
later_plan w u l q (Detach p t) s = later_made w u l t p (Detached p) s
later_plan w u l q (Here p t) s = later_made w u l t p Direct s
later_plan w u l q (Feed f) s = (later_made w u l f.job f.pool (count_kind f.count) (s.0), later_made w u l f.token f.pool (TokenOf (own_index q) (count_book f.count)) (s.1), s.2, later_known w u l f.count f.pool (s.3))
later_plan w u l q (Gather g) s = later_gather w u l q g s
later_plan w u l q (Send o) s = (later_opened w u l q o (s.0), l.side (o.number) ((s.0).number) ∙ s.1)
later_plan w u l q (Open o) s = (later_opened w u l q o (s.0), l.side (o.number) ((s.0).number) ∙ s.1)
later_plan w u l q (Enter e) s = (later_made w u l e.job e.pool (Scoped e.call e.owner) (s.0), later_tied w u l e.call e.owner (s.1))
later_plan w u l q (Fork o a) s = (later_opened w u l q o (s.0), l.side (o.number) ((s.0).number) ∙ s.1, later_awaited w u l a (s.2))

later_told : (w u : World) → Later w u → (q : Party) (n : Plan) → SaysTold w q n → SaysTold u q n
later_told w u l q (Detach p t) s = ((let a : t + 1 ≤ w.jobs = s.0 in let b : w.jobs ≤ u.jobs = l.jobs in omega (arith, a, b)), l.pool t (s.0) ∙ s.1)
later_told w u l q (Feed f) s = absurd s
later_told w u l q (Open o) s = absurd s
later_told w u l q (Gather g) s = absurd s
later_told w u l q (Enter e) s = later_plan w u l q (Enter e) s
later_told w u l q (Here p t) s = later_plan w u l q (Here p t) s
later_told w u l q (Send o) s = later_plan w u l q (Send o) s
later_told w u l q (Fork o a) s = later_plan w u l q (Fork o a) s

pub later_done : (w u : World) → Later w u → (t : ℕ) → is_done (w.job t).at ≡ true → is_done (u.job t).at ≡ true
later_done w u l t s = by ((w.job t).at) refl s
  where
    by : (v : Whereabouts) → (w.job t).at ≡ v → is_done v ≡ true → is_done (u.job t).at ≡ true
    by (Over e) z d = ap is_done (l.over t e z)
    by (Made q) z d = cc
    by (Running q) z d = cc
    by (InDeque p i) z d = cc
    by (Injected p) z d = cc
    by (InFifo p i b7) z d = cc
    by (InCast p i) z d = cc
    by (Retaken r) z d = cc
    by HandedBack z d = cc
    by Spent z d = cc
    by Nowhere z d = cc

-- what was taken
later_taken : (w u : World) → Later w u → (t c : ℕ) (e : Ending) → SaysTaken w t c e → SaysTaken u t c e
later_taken w u l t c e (inl z) = inl (later_as w u l t c e z)
later_taken w u l t c e (inr (d, (z, i))) = inr (d, (later_as w u l t c d z, i))

later_then : (w u : World) → Later w u → (q : Party) (n : Then) → SaysThen w q n → SaysThen u q n
later_then w u l q (BeginFound g x) s = (later_target w u l q g (s.0), later_taking w u l x (s.1))
later_then w u l q (LeaveWait g) s = later_target w u l q g s
later_then w u l q Resume s = tt
later_then w u l q Called s = tt
later_then w u l q (Await o) s = later_target w u l q (Answer o None) s
later_then w u l q (Gathers o) s = later_target w u l q (Answer o None) s
later_then w u l q (RunFirst o a) s = later_plan w u l q (Fork o a) s
later_then w u l q (Answers o f e) s = (later_opened w u l q o (s.0), later_first w u l (o.number) f ((s.0).number) (s.1), later_taken w u l (o.job) (o.number) e (s.2))
later_then w u l q (Missing o f) s = later_target w u l q (Answer o f) s
later_then w u l q (Ran t e) s = l.over t e s
later_then w u l q (GiveBack n) s = later_plan w u l q n s

later_owner : (w u : World) → Later w u → (t p : ℕ) (n : Then) → t + 1 ≤ w.jobs → SaysOwner w t p n → SaysOwner u t p n
later_owner w u l t p Resume b s = (l.kind t b ∙ s.0, later_done w u l t (s.1))
later_owner w u l t p Called b s = (l.kind t b ∙ s.0, later_done w u l t (s.1))
later_owner w u l t p (Answers o f e) b s = s
later_owner w u l t p (Missing o f) b s = s
later_owner w u l t p (Ran v e) b s = (s.0, l.kind t b ∙ s.1)
later_owner w u l t p (GiveBack n) b s = s
later_owner w u l t p (BeginFound g v) b s = s
later_owner w u l t p (LeaveWait g) b s = s
later_owner w u l t p (Await o) b s = s
later_owner w u l t p (RunFirst o a) b s = s
later_owner w u l t p (Gathers o) b s = s

later_queue : (w u : World) → Later w u → (q : Party) (n : Plan) → SaysQueue w q n → SaysQueue u q n
later_queue w u l q (Here p t) s = s
later_queue w u l q (Feed f) s = s
later_queue w u l q (Open o) s = s
later_queue w u l q (Gather g) s = s
later_queue w u l q (Enter e) s = later_plan w u l q (Enter e) s
later_queue w u l q (Detach p t) s = later_plan w u l q (Detach p t) s
later_queue w u l q (Send o) s = later_plan w u l q (Send o) s
later_queue w u l q (Fork o a) s = later_plan w u l q (Fork o a) s

later_slot : (w u : World) → Later w u → (q : Party) (n : Plan) → SaysSlot w q n → SaysSlot u q n
later_slot w u l q (Enter e) s = later_plan w u l q (Enter e) s
later_slot w u l q (Feed f) s = later_plan w u l q (Feed f) s
later_slot w u l q (Detach p t) s = s
later_slot w u l q (Here p t) s = s
later_slot w u l q (Send o) s = s
later_slot w u l q (Fork o a) s = s
later_slot w u l q (Open o) s = s
later_slot w u l q (Gather g) s = s

later_entry : (w u : World) → Later w u → (t : ℕ) (n : Then) → SaysEntry w t n → SaysEntry u t n
later_entry w u l t Resume s = later_done w u l t s
later_entry w u l t Called s = s
later_entry w u l t (GiveBack n) s = s
later_entry w u l t (BeginFound g v) s = s
later_entry w u l t (LeaveWait g) s = s
later_entry w u l t (Await o) s = s
later_entry w u l t (RunFirst o a) s = s
later_entry w u l t (Gathers o) s = s
later_entry w u l t (Answers o f e) s = s
later_entry w u l t (Missing o f) s = s
later_entry w u l t (Ran v e) s = s

-- the body of a call that is over
pub later_body : (w u : World) → Later w u → (c : ℕ) → c + 1 ≤ w.calls → is_done (w.job (w.call c).job).at ≡ true → is_done (u.job (u.call c).job).at ≡ true
later_body w u l c b s = ap (λ t. is_done (u.job t).at) (l.target c b) ∙ later_done w u l ((w.call c).job) s

later_share : (w u : World) → Later w u → (k : Count) (a : Share) (n : Then) → SaysShare w k a n → SaysShare u k a n
later_share w u l (OfPool p) PoolValue n s = (l.given p (s.0), s.1)
later_share w u l (OfPool p) (OfJob t) n s = ((let a : t + 1 ≤ w.jobs = s.0 in let b : w.jobs ≤ u.jobs = l.jobs in omega (arith, a, b)), l.pool t (s.0) ∙ s.1, later_owner w u l t p n (s.0) (s.2))
later_share w u l (OfPool p) Body n s = s
later_share w u l (OfScope c o) PoolValue n s = s
later_share w u l (OfScope c o) (OfJob t) n s = ((let a : t + 1 ≤ w.jobs = s.0 in let b : w.jobs ≤ u.jobs = l.jobs in omega (arith, a, b)), l.kind t (s.0) ∙ s.1, (let a : c + 1 ≤ w.calls = s.2 in let b : w.calls ≤ u.calls = l.calls in omega (arith, a, b)), later_entry w u l t n (s.3))
later_share w u l (OfCast c o) PoolValue n s = s
later_share w u l (OfCast c o) Body n s = s
later_share w u l (OfCast c o) (OfJob t) n s = ((let a : t + 1 ≤ w.jobs = s.0 in let b : w.jobs ≤ u.jobs = l.jobs in omega (arith, a, b)), l.kind t (s.0) ∙ s.1, (let a : c + 1 ≤ w.calls = s.2 in let b : w.calls ≤ u.calls = l.calls in omega (arith, a, b)), later_done w u l t (s.3), s.4)
later_share w u l (OfScope c o) Body n s = ((let a : c + 1 ≤ w.calls = s.0 in let b : w.calls ≤ u.calls = l.calls in omega (arith, a, b)), later_body w u l c (s.0) (s.1), s.2)

later_stored : (w u : World) → Later w u → (c : ℕ) → c + 1 ≤ w.calls → IsStored w c → IsStored u c
later_stored w u l c b s = (
  (let a : (w.call c).job + 1 ≤ w.jobs = s.0 in let d : w.jobs ≤ u.jobs = l.jobs in let e : (u.call c).job ≡ (w.call c).job = l.target c b in omega (arith, a, d, e)),
  ap (λ t. is_body (u.job t).kind) (l.target c b) ∙ ap is_body (l.kind ((w.call c).job) (s.0)) ∙ s.1,
)

pub later_ready : (w u : World) → Later w u → (c : ℕ) → c + 1 ≤ w.calls → IsReady w c → IsReady u c
later_ready w u l c b (inl s) = inl (later_stored w u l c b (s.0), later_body w u l c b (s.1))
later_ready w u l c b (inr s) = inr (l.spent c b s)

pub later_latch : (w u : World) → Later w u → (p : ℕ) (a : Latch) → SaysLatch w p a → SaysLatch u p a
later_latch w u l p Terminate s = l.ended p s
later_latch w u l p (OfCall c) s = ((let a : c + 1 ≤ w.calls = s.0 in let b : w.calls ≤ u.calls = l.calls in omega (arith, a, b)), later_ready w u l c (s.0) (s.1))

later_run : (w u : World) → Later w u → (t : ℕ) (k : JobKind) → SaysRun w t k → SaysRun u t k
later_run w u l t Direct s = later_awaited w u l t s
later_run w u l t (TokenOf i b8) s = later_awaited w u l t s
later_run w u l t (BodyOf c9 o9) s = later_awaited w u l t s
later_run w u l t (WholeOf c9 o9) s = later_awaited w u l t s
later_run w u l t (PieceOf c o) s = ((let a : t + 1 ≤ w.jobs = s.0 in let b : w.jobs ≤ u.jobs = l.jobs in omega (arith, a, b)), l.kind t (s.0) ∙ s.1)
later_run w u l t (Detached p) s = ((let a : t + 1 ≤ w.jobs = s.0 in let b : w.jobs ≤ u.jobs = l.jobs in omega (arith, a, b)), l.kind t (s.0) ∙ s.1)
later_run w u l t (Scoped c o) s = ((let a : t + 1 ≤ w.jobs = s.0 in let b : w.jobs ≤ u.jobs = l.jobs in omega (arith, a, b)), l.kind t (s.0) ∙ s.1)
later_run w u l t (Stored c o) s = ((let a : t + 1 ≤ w.jobs = s.0 in let b : w.jobs ≤ u.jobs = l.jobs in omega (arith, a, b)), l.kind t (s.0) ∙ s.1)

-- what a place says stays true
pub later_says : (w u : World) → Later w u → (q : Party) (x : Place) → Says w q x → Says u q x
later_says w u l q (ProbeWorking k) s = later_target w u l q k.target s
later_says w u l q (PopWorking k) s = later_target w u l q k.target s
later_says w u l q (TakeCastWorking k) s = later_target w u l q k.target s
later_says w u l q (BecomeInactive k) s = later_target w u l q k.target s
later_says w u l q (ProbeIdle k) s = later_target w u l q k.target s
later_says w u l q (PopIdle k) s = later_target w u l q k.target s
later_says w u l q (TakeCastIdle k) s = later_target w u l q k.target s
later_says w u l q (PickVictim k) s = later_target w u l q k.target s
later_says w u l q (PopInjected k) s = later_target w u l q k.target s
later_says w u l q (AnnounceSelf k) s = later_target w u l q k.target s
later_says w u l q (GetSleepy k) s = later_target w u l q k.target s
later_says w u l q (LockOwn k) s = later_target w u l q k.target s
later_says w u l q (FallAsleep k) s = later_target w u l q k.target s
later_says w u l q (LoadCounters k) s = later_target w u l q k.target s
later_says w u l q (AddSleeping k) s = later_target w u l q k.target s
later_says w u l q (LookAtCast k) s = later_target w u l q k.target s
later_says w u l q (LookAtInjector k) s = later_target w u l q k.target s
later_says w u l q (BlockSelf k) s = later_target w u l q k.target s
later_says w u l q (RelockOwn k) s = later_target w u l q k.target s
later_says w u l q (UndoSleeping k) s = later_target w u l q k.target s
later_says w u l q (WakeUp k) s = later_target w u l q k.target s
later_says w u l q (UnlockOwn k) s = later_target w u l q k.target s
later_says w u l q (LeaveSearch k) s = (later_target w u l q k.target (s.0), later_found w u l k.found (s.1))
later_says w u l q (StealFrom k n) s = later_target w u l q k.target s
later_says w u l q (JoinProbe o) s = later_target w u l q (Answer o (Some Fine)) s
later_says w u l q (JoinPop o) s = later_target w u l q (Answer o (Some Fine)) s
later_says w u l q (JoinTakeCast o) s = later_target w u l q (Answer o (Some Fine)) s
later_says w u l q (SecondSide o) s = later_target w u l q (Answer o (Some Fine)) s
later_says w u l q (Run t k) s = later_run w u l t k s
later_says w u l q (RaiseCount n) s = later_plan w u l q n s
later_says w u l q (GrowCall n) s = later_queue w u l q n s
later_says w u l q (GrowScope o) s = later_plan w u l q (Open o) s
later_says w u l q (OpenSlot n) s = later_slot w u l q n s
later_says w u l q (CloseSlot n) s = later_slot w u l q n s
later_says w u l q (GrowCast g) s = later_gather w u l q g s
later_says w u l q (DealPieces g) s = later_gather w u l q g s
later_says w u l q (StorePiece c o t e) s = ((let a : t + 1 ≤ w.jobs = s.0 in let b : w.jobs ≤ u.jobs = l.jobs in omega (arith, a, b)), l.kind t (s.0) ∙ s.1, (let a : c + 1 ≤ w.calls = s.2 in let b : w.calls ≤ u.calls = l.calls in omega (arith, a, b)), l.over t e (s.3))
later_says w u l q (ScopeBody o) s = later_target w u l q (Answer o None) s
later_says w u l q (StoreBody o e) s = (later_target w u l q (Answer o None) (s.0), l.over (o.job) e (s.1))
later_says w u l q (StoreSlot c o t e) s = ((let a : t + 1 ≤ w.jobs = s.0 in let b : w.jobs ≤ u.jobs = l.jobs in omega (arith, a, b)), l.kind t (s.0) ∙ s.1, (let a : c + 1 ≤ w.calls = s.2 in let b : w.calls ≤ u.calls = l.calls in omega (arith, a, b)), l.over t e (s.3))
later_says w u l q (LookQueue n) s = later_queue w u l q n s
later_says w u l q (PushJob n e) s = later_queue w u l q n s
later_says w u l q (AddToFifo f) s = later_plan w u l q (Feed f) s
later_says w u l q (LookForToken f) s = later_plan w u l q (Feed f) s
later_says w u l q (PushToken f e) s = later_plan w u l q (Feed f) s
later_says w u l q (TakeFromFifo f) s = later_plan w u l q (Feed f) s
later_says w u l q (RaiseForAll c) s = later_cast w u l c s
later_says w u l q (OpenForAll c) s = later_cast w u l c s
later_says w u l q (PushForAll c) s = later_cast w u l c s
later_says w u l q (CloseForAll c) s = later_cast w u l c s
later_says w u l q (LowerForAll c) s = later_cast w u l c s
later_says w u l q (BeginTask x) s = later_taking w u l x s
later_says w u l q (TellNews n e) s = later_told w u l q n s
later_says w u l q (LockToWake k) s = later_then w u l q k.then s
later_says w u l q (WakeWorker k) s = later_then w u l q k.then s
later_says w u l q (UnlockWoken k) s = later_then w u l q k.then s
later_says w u l q (WaitForLock o) s = later_target w u l q (Answer o None) s
later_says w u l q (TakeResult o f) s = later_target w u l q (Answer o f) s
later_says w u l q (LowerCount p a n) s = (later_then w u l q n (s.0), later_share w u l p a n (s.1))
later_says w u l q (StoreResult c o e) s = ((let a : c + 1 ≤ w.calls = s.0 in let b : w.calls ≤ u.calls = l.calls in omega (arith, a, b)), ap (λ t. (u.job t).at) (l.target c (s.0)) ∙ l.over ((w.call c).job) e (s.1), later_stored w u l c (s.0) (s.2))
later_says w u l q (SetLatch k) s = (later_latch w u l k.pool k.latch (s.0), later_then w u l q k.then (s.1))
later_says w u l q (LockToSettle k) s = (later_latch w u l k.pool k.latch (s.0), later_then w u l q k.then (s.1))
later_says w u l q (WakeSettled k) s = (later_latch w u l k.pool k.latch (s.0), later_then w u l q k.then (s.1))
later_says w u l q (UnlockSettled k) s = (later_latch w u l k.pool k.latch (s.0), later_then w u l q k.then (s.1))
later_says w u l q (SetLockLatch c n) s = (later_latch w u l 0 (OfCall c) (s.0), later_then w u l q n (s.1))
later_says w u l q (FirstSide o a) s = later_plan w u l q (Fork o a) s
later_says w u l q (AtOnce p t) s = later_plan w u l q (Here p t) s
later_says w u l q (BeginHere t) s = later_awaited w u l t s
later_says w u l q _ s = s

pub later_all : (w u : World) → Later w u → (q : Party) (fs : List Place) → AllSay w q fs → AllSay u q fs
later_all w u l q [] s = tt
later_all w u l q (f ∷ fs) s = (later_says w u l q f (s.0), later_all w u l q fs (s.1))

pub later_stack : (w u : World) → Later w u → (q : Party) (k : Stack) → StackSays w q k → StackSays u q k
later_stack w u l q k s = record { top = later_says w u l q k.top (s.top); below = later_all w u l q k.below (s.below); links = s.links }

-- what no act changes of the part that it touches
pub record Static (m : Part) (r : Seen × Part) : Type 0 where
  pub kind : r.1.job.kind ≡ m.job.kind
  pub pool : r.1.job.pool ≡ m.job.pool
  pub bound : r.1.job.bound ≡ m.job.bound
  pub target : r.1.call.job ≡ m.call.job
  pub side : r.1.call.first ≡ m.call.first
  pub held : r.1.pool.held ≡ m.pool.held
  pub ended : m.pool.count ≡ 0 → r.1.pool.count ≡ 0
  pub spent : m.call.count ≡ 0 → r.1.call.count ≡ 0

abbrev static_fields : List Field
static_fields = Fixed ∷ PoolCount ∷ CallCount ∷ []

same_static : (m : Part) (e : Seen) → Static m (e, m)
same_static m e = record { kind = refl; pool = refl; bound = refl; target = refl; side = refl; held = refl; ended = λ z. z; spent = λ z. z }

raise_static : (m : Part) (k : Count) → IfSome (if count_in m k == 0 then Some (Refused, m) else Some (Done, raised m k)) (Static m)
raise_static m k = by k (count_in m k == 0) refl
  where
    more : (j : Count) → (count_in m j == 0) ≡ false → Static m (Done, raised m j)
    more (OfPool p) e = record { kind = refl; pool = refl; bound = refl; target = refl; side = refl; held = refl; ended = λ z. absurd (let a : (m.pool.count == 0) ≡ true = eq-eqb (m.pool.count) 0 z in cc); spent = λ z. z }
    more (OfCast c o) e = record { kind = refl; pool = refl; bound = refl; target = refl; side = refl; held = refl; ended = λ z. z; spent = λ z. absurd (let a : (m.call.count == 0) ≡ true = eq-eqb (m.call.count) 0 z in cc) }
    more (OfScope c o) e = record { kind = refl; pool = refl; bound = refl; target = refl; side = refl; held = refl; ended = λ z. z; spent = λ z. absurd (let a : (m.call.count == 0) ≡ true = eq-eqb (m.call.count) 0 z in cc) }

    by : (j : Count) (z : Bool) → (count_in m j == 0) ≡ z → IfSome (if z then Some (Refused, m) else Some (Done, raised m j)) (Static m)
    by j true e = same_static m Refused
    by j false e = more j e

raise_all_static : (m : Part) (b : Pieces) → IfSome (if count_in m b.count == 0 then Some (Refused, m) else Some (Done, all_raised m b)) (Static m)
raise_all_static m b = by b.count refl (count_in m b.count == 0) refl
  where
    zero_not : (n : ℕ) → (n == 0) ≡ false → n ≡ 0 → ⊥
    zero_not n e z = let a : (n == 0) ≡ true = eq-eqb n 0 z in cc

    more : (j : Count) → b.count ≡ j → (count_in m j == 0) ≡ false → Static m (Done, all_raised m b)
    more (OfPool p) k e = record { kind = refl; pool = refl; bound = refl; target = refl; side = refl; held = refl; ended = λ z. absurd (zero_not (m.pool.count) e z); spent = λ z. ap (λ v. call_more v b.workers m.call.count) k ∙ z }
    more (OfScope c o) k e = record { kind = refl; pool = refl; bound = refl; target = refl; side = refl; held = refl; ended = λ z. ap (λ v. pool_more v b.workers m.pool.count) k ∙ z; spent = λ z. absurd (zero_not (m.call.count) e z) }
    more (OfCast c o) k e = record { kind = refl; pool = refl; bound = refl; target = refl; side = refl; held = refl; ended = λ z. ap (λ v. pool_more v b.workers m.pool.count) k ∙ z; spent = λ z. absurd (zero_not (m.call.count) e z) }

    by : (j : Count) → b.count ≡ j → (z : Bool) → (count_in m b.count == 0) ≡ z → IfSome (if z then Some (Refused, m) else Some (Done, all_raised m b)) (Static m)
    by j k true e = same_static m Refused
    by j k false e = more j k (ap (λ v. count_in m v == 0) (sym k) ∙ e)

less_zero : (k : Count) (b n : ℕ) → n ≡ 0 → (pool_less k b n ≡ 0) × (call_less k b n ≡ 0)
less_zero (OfPool p) b n e = (omega (arith, e), e)
less_zero (OfScope c o) b n e = (e, omega (arith, e))
less_zero (OfCast c o) b n e = (e, omega (arith, e))

lower_all_static : (m : Part) (b : Pieces) (e : Seen) → Static m (e, all_lowered m b)
lower_all_static m b e = record { kind = refl; pool = refl; bound = refl; target = refl; side = refl; held = refl; ended = λ z. (less_zero b.count b.workers (m.pool.count) z).0; spent = λ z. (less_zero b.count b.workers (m.call.count) z).1 }

lower_static : (m : Part) (k : Count) (s : Share) (e : Seen) → Static m (e, lowered m k s)
lower_static m (OfPool p) s e = record { kind = refl; pool = refl; bound = refl; target = refl; side = refl; held = refl; ended = λ z. (let n : m.pool.count ≡ 0 = z in let goal : m.pool.count - 1 ≡ 0 = omega (arith, n) in goal); spent = λ z. z }
lower_static m (OfCast c o) s e = record { kind = refl; pool = refl; bound = refl; target = refl; side = refl; held = refl; ended = λ z. z; spent = λ z. (let n : m.call.count ≡ 0 = z in let goal : m.call.count - 1 ≡ 0 = omega (arith, n) in goal) }
lower_static m (OfScope c o) s e = record { kind = refl; pool = refl; bound = refl; target = refl; side = refl; held = refl; ended = λ z. z; spent = λ z. (let n : m.call.count ≡ 0 = z in let goal : m.call.count - 1 ≡ 0 = omega (arith, n) in goal) }

abbrev counts : Place → Bool
counts (RaiseCount n) = true
counts (LowerCount p s n) = true
counts (RaiseForAll n) = true
counts (LowerForAll n) = true
counts _ = false

count_writes : (x : Place) → counts x ≡ false → writes_at x static_fields ≡ false
count_writes (RaiseCount n) e = cc
count_writes _ e = cc

static_left : (h : Shape) (q : Party) (c : Counts) (m : Part) (x : Place) → writes_at x static_fields ≡ false → IfSome (effect (act_of q x) h q c m) (Static m)
static_left h q c m x n = keeps h q c m Static static_fields x n (λ r k. record {
  kind = k.0.kind;
  pool = k.0.pool;
  bound = k.0.bound;
  target = k.0.awaited;
  side = k.0.first;
  held = k.0.held;
  ended = λ z. k.1.0 ∙ z;
  spent = λ z. k.1.1.0 ∙ z;
})

pub act_static : (h : Shape) (q : Party) (c : Counts) (m : Part) (x : Place) → IfSome (effect (act_of q x) h q c m) (Static m)
act_static h (Worker a b) c m (RaiseCount n) = raise_static m (plan_count n)
act_static h q c m (RaiseCount n) = raise_static m (plan_count n)
act_static h q c m (LowerCount p s n) = lower_static m p s (if count_in m p == 1 then Yes else No)
act_static h q c m (RaiseForAll n) = raise_all_static m n
act_static h q c m (LowerForAll n) = lower_all_static m n (if count_in m n.count == n.workers then Yes else No)
act_static h q c m x = static_left h q c m x (count_writes x refl)
