-- how often a stack holds a job that has no share: before its Raise and after its Lower
use Rattle.rayon_machine_places.specs.declared.place.Count.TheVariants.{OfPool, OfScope, OfCast}
use Rattle.rayon_machine_places.specs.declared.place.Count.{Count}
use Rattle.rayon_machine_places.specs.declared.place.Mark.{Mark as Marking}
use Rattle.rayon_machine_places.specs.declared.place.Mark.TheVariants.{Counted, Queued, Returned, Numbered, Dealt, Unnumbered}
use Rattle.rayon_machine_places.specs.declared.place.Pieces.{Pieces}
use Rattle.rayon_machine_places.specs.declared.place.Feeding.{Feeding}
use Rattle.std.proofs.Common.{arith, refl, ap}
use Rattle.std.specs.Prelude.{ℕ, Bool, true, false, ◌&&◌, ◌+◌, ◌-◌, ◌==◌, ◌≤◌, nat_lt, if◌then◌else◌, Option, Some, None, List, [], ◌∷◌, ◌≡◌}
use Rattle.rayon_machine_places.specs.declared.place.Party.{Party}
use Rattle.rayon_machine_places.specs.declared.place.Party.TheVariants.{Worker, Caller}
use Rattle.rayon_machine_places.specs.declared.place.Ending.{Ending}
use Rattle.rayon_machine_places.specs.declared.place.Ending.TheVariants.{Fine, Fault}
use Rattle.rayon_machine_places.specs.declared.place.JobKind.{JobKind}
use Rattle.rayon_machine_places.specs.declared.place.JobKind.TheVariants.{Detached, Stored, Direct, TokenOf, Scoped, BodyOf, PieceOf, WholeOf}
use Rattle.rayon_machine_places.specs.declared.place.Target.{Target}
use Rattle.rayon_machine_places.specs.declared.place.Target.TheVariants.{Termination, Answer}
use Rattle.rayon_machine_places.specs.declared.place.Latch.{Latch}
use Rattle.rayon_machine_places.specs.declared.place.Latch.TheVariants.{Terminate, OfCall}
use Rattle.rayon_machine_places.specs.declared.place.Rounds.{Rounds}
use Rattle.rayon_machine_places.specs.declared.place.Rounds.TheVariants.{Failed, Announced}
use Rattle.rayon_machine_places.specs.declared.place.Plan.{Plan}
use Rattle.rayon_machine_places.specs.declared.place.Plan.TheVariants.{Detach, Here, Send, Fork, Feed, Open, Enter, Gather}
use Rattle.rayon_machine_places.specs.declared.place.Then.{Then}
use Rattle.rayon_machine_places.specs.declared.place.Then.TheVariants.{BeginFound, LeaveWait, Resume, Await, RunFirst, Answers, Missing, Ran, GiveBack, Called, Gathers}
use Rattle.rayon_machine_places.specs.declared.place.Taken.{Taken}
use Rattle.rayon_machine_places.specs.declared.place.Taken.TheVariants.{Plain, Token}
use Rattle.rayon_machine_places.specs.declared.place.Place.{Place}
use Rattle.rayon_machine_places.specs.declared.place.Place.TheVariants.{ProbeWorking, PopWorking, TakeCastWorking, ProbeIdle, PopIdle, TakeCastIdle, PickVictim, StealFrom, PopInjected, AnnounceSelf, GetSleepy, FallAsleep, LoadCounters, AddSleeping, LookAtCast, LookAtInjector, WakeUp, LeaveSearch, JoinProbe, JoinPop, JoinTakeCast, YieldPop, YieldTakeCast, YieldPick, YieldSteal, YieldPopInjected, LocalPop, LocalTakeCast, BeginTask, BeginHere, RaiseCount, GrowCall, LookQueue, PushJob, TellNews, LockToWake, WakeWorker, UnlockWoken, TakeResult, LowerCount, StoreResult, SetLatch, LockToSettle, WakeSettled, UnlockSettled, FirstSide, SecondSide, AtOnce, AddToFifo, LookForToken, PushToken, TakeFromFifo, RaiseForAll, PushForAll, LowerForAll, GrowScope, OpenSlot, CloseSlot, SetLockLatch, ScopeBody, OpenForAll, GrowCast, DealPieces}
use Rattle.rayon_machine_places.specs.declared.place.Move.{Move}
use Rattle.rayon_machine_places.specs.declared.place.Move.TheVariants.{Stay, Enter, StartRun, Back, HandBack, Discard, HandIn, Mark, HandAllBack}
use Rattle.rayon_machine_places.specs.declared.act.Seen.{Seen}
use Rattle.rayon_machine_places.specs.declared.act.Seen.TheVariants.{Done, Yes, Task, Jec, Word, Start, Wakes, Begun, Found, Handed, Opened}
use Rattle.rayon_machine_runs.specs.declared.state.Whereabouts.{Whereabouts}
use Rattle.rayon_machine_runs.specs.declared.state.Whereabouts.TheVariants.{HandedBack, Spent}
use Rattle.rayon_machine_runs.specs.declared.state.Job.{Job}
use Rattle.rayon_machine_places.specs.declared.shape.PoolShape.{PoolShape}
use Rattle.rayon_machine_places.specs.declared.place.Wait.{Wait}
use Rattle.rayon_machine_places.specs.declared.place.Settling.{Settling}
use Rattle.rayon_machine_places.specs.Places.{own_pool, own_index, plan_pool, plan_job, after_wait, finish, walk, settle, after_set, after_found, after_news, goes_on, after_raise, set_call, next_victim, not_self, after_failure, next_steal, next_yield, next_of, is_taken, settle_count, after_push, begin_feed, ends_count, begin_cast, end_cast, after_slot, withdraw, count_book, plan_book, taken_number}
use Rattle.rayon_machine_runs.specs.World.{Stack, at_job, begun}
use Rattle.rayon_machine_runs.specs.Steps.{put, after_move, jobs_after, after_close, is_piece, mark_pieces, marked}
use Rattle.rayon_machine_laws.specs.Once.{one}
use Rattle.rayon_machine_laws.specs.Shares.{share_of}
use Rattle.rayon_machine_laws.proofs.Hands.{hand_plan, hand_rest, hand_then, hand, held_in, held, is_gather}
use Rattle.rayon_machine_laws.proofs.Amounts.{paid}

-- a refused call's jobs, once its share is given back
abbrev pub bare_then : ℕ → Then → ℕ
bare_then t (GiveBack n) = hand_plan t n
bare_then t _ = 0

-- a call that has queued its job keeps its token, if it has one
abbrev pub bare_rest : ℕ → Plan → ℕ
bare_rest t (Feed f) = one (t == f.token)
bare_rest t _ = 0

-- how often a place has job t in hand without a share: all jobs of a call before its Raise and after its undoing Lower,
-- and in between a join's first side
abbrev pub bare : ℕ → Place → ℕ
bare t (RaiseCount n) = hand_plan t n
bare t (RaiseForAll c) = one (is_piece c t)
bare t (GrowCall n) = hand_plan t n - one (t == plan_job n)
bare t (LookQueue n) = hand_plan t n - one (t == plan_job n)
bare t (OpenSlot n) = hand_plan t n - one (t == plan_job n)
bare t (CloseSlot n) = hand_plan t n - one (t == plan_job n)
bare t (GrowCast g) = one (is_piece g.pieces t)
bare t (DealPieces g) = one (is_piece g.pieces t)
bare t (PushJob n e) = hand_plan t n - one (t == plan_job n)
bare t (AddToFifo f) = one (t == f.token)
bare t (LookForToken f) = one (t == f.token)
bare t (PushToken f e) = one (t == f.token)
bare t (TakeFromFifo f) = one (t == f.token)
bare t (TellNews n e) = bare_rest t n
bare t (LockToWake k) = bare_then t k.then
bare t (WakeWorker k) = bare_then t k.then
bare t (UnlockWoken k) = bare_then t k.then
bare t (LowerCount p s n) = bare_then t n - share_of t s
bare t (SetLatch k) = bare_then t k.then
bare t (SetLockLatch c n) = bare_then t n
bare t (LockToSettle k) = bare_then t k.then
bare t (WakeSettled k) = bare_then t k.then
bare t (UnlockSettled k) = bare_then t k.then
bare t _ = 0

abbrev pub bare_in : ℕ → List Place → ℕ
bare_in t [] = 0
bare_in t (f ∷ fs) = bare t f + bare_in t fs

abbrev pub all_bare : ℕ → Stack → ℕ
all_bare t k = bare t k.top + bare_in t k.below

abbrev pub bare_move : ℕ → Move → ℕ
bare_move t (Stay y) = bare t y
bare_move t (HandIn y token) = bare t y
bare_move t (Mark y b9 m9) = bare t y
bare_move t (Enter f y) = bare t y + bare t f
bare_move t (StartRun f a) = bare t f
bare_move t Back = 0
bare_move t (HandBack n) = hand_plan t n
bare_move t (Discard token) = 0
bare_move t (HandAllBack c) = one (is_piece c t)

-- 1 for a job that is handed back
abbrev pub backs : Whereabouts → ℕ
backs HandedBack = 1
backs _ = 0

bare_hand_then : (t : ℕ) (n : Then) → bare_then t n ≤ hand_then t n
bare_hand_then t (GiveBack n) = omega arith
bare_hand_then t _ = omega arith

bare_hand_rest : (t : ℕ) (n : Plan) → bare_rest t n ≤ hand_rest t n
bare_hand_rest t (Feed f) = omega arith
bare_hand_rest t _ = omega arith

-- what is so held is in hand
bare_hand : (t : ℕ) (x : Place) → bare t x ≤ hand t x
bare_hand t (TellNews n e) = bare_hand_rest t n
bare_hand t (LockToWake k) = bare_hand_then t k.then
bare_hand t (WakeWorker k) = bare_hand_then t k.then
bare_hand t (UnlockWoken k) = bare_hand_then t k.then
bare_hand t (LowerCount p s n) = let a : bare_then t n ≤ hand_then t n = bare_hand_then t n in omega (arith, a)
bare_hand t (SetLatch k) = bare_hand_then t k.then
bare_hand t (SetLockLatch c n) = bare_hand_then t n
bare_hand t (LockToSettle k) = bare_hand_then t k.then
bare_hand t (WakeSettled k) = bare_hand_then t k.then
bare_hand t (UnlockSettled k) = bare_hand_then t k.then
bare_hand t _ = omega arith

bare_held_in : (t : ℕ) (fs : List Place) → bare_in t fs ≤ held_in t fs
bare_held_in t [] = omega arith
bare_held_in t (f ∷ fs) = let a : bare t f ≤ hand t f = bare_hand t f in let b : bare_in t fs ≤ held_in t fs = bare_held_in t fs in omega (arith, a, b)

pub bare_held : (t : ℕ) (k : Stack) → all_bare t k ≤ held t k
bare_held t k = let a : bare t k.top ≤ hand t k.top = bare_hand t k.top in let b : bare_in t k.below ≤ held_in t k.below = bare_held_in t k.below in omega (arith, a, b)

-- the job that a call has in hand and takes a share for; the number that stands for a broadcast is in no hand
abbrev pub raised_hand : ℕ → Plan → ℕ
raised_hand t (Gather g) = 0
raised_hand t n = one (t == plan_job n)

pub raised_own : (t : ℕ) (n : Plan) → is_gather n ≡ false → raised_hand t n ≡ one (t == plan_job n)
raised_own t (Gather g) e = cc
raised_own t _ e = refl

bare_fed : (t : ℕ) (f : Feeding) (k : Count) → bare t (begin_feed k f) ≤ one (t == f.token)
bare_fed t f (OfPool p) = omega arith
bare_fed t f (OfScope c o) = omega arith
bare_fed t f (OfCast c o) = omega arith

pub bare_raised : (t : ℕ) (n : Plan) → bare_move t (after_raise n) + raised_hand t n ≤ hand_plan t n
bare_raised t (Detach r u) = omega arith
bare_raised t (Here r u) = omega arith
bare_raised t (Send o) = omega arith
bare_raised t (Fork o a) = omega arith
bare_raised t (Feed f) = let a : bare t (begin_feed f.count f) ≤ one (t == f.token) = bare_fed t f f.count in omega (arith, a)
bare_raised t (Open o) = omega arith
bare_raised t (Enter e) = omega arith
bare_raised t (Gather g) = omega arith

bare_left : (t : ℕ) (g : Target) → bare_move t (Stay (after_wait g)) ≤ 0
bare_left t Termination = omega arith
bare_left t (Answer o f) = omega arith

bare_finish : (t : ℕ) (q : Party) (n : Then) → bare_move t (finish q n) ≤ bare_then t n
bare_finish t q (BeginFound g u) = omega arith
bare_finish t q (LeaveWait g) = bare_left t g
bare_finish t q Resume = omega arith
bare_finish t q Called = omega arith
bare_finish t (Worker a b) (Await o) = omega arith
bare_finish t (Caller c) (Await o) = omega arith
bare_finish t (Worker a b) (Gathers o) = omega arith
bare_finish t (Caller c) (Gathers o) = omega arith
bare_finish t q (RunFirst o a) = omega arith
bare_finish t q (Answers o f e) = omega arith
bare_finish t q (Missing o f) = omega arith
bare_finish t q (Ran u e) = omega arith
bare_finish t q (GiveBack n) = omega arith

bare_walk : (t : ℕ) (g : PoolShape) (q : Party) (r k i : ℕ) (n : Then) → bare_move t (walk g q r k i n) ≤ bare_then t n
bare_walk t g q r k i n = by (nat_lt 0 k && nat_lt i g.workers)
  where
    by : (z : Bool) → bare_move t (if z then Stay (LockToWake (record { pool = r; owed = k; worker = i; then = n })) else finish q n) ≤ bare_then t n
    by true = omega arith
    by false = bare_finish t q n

bare_settle : (t : ℕ) (g : PoolShape) (q : Party) (r i : ℕ) (n : Then) → bare_move t (settle g q r i n) ≤ bare_then t n
bare_settle t g q r i n = by (nat_lt i g.workers)
  where
    by : (z : Bool) → bare_move t (if z then Stay (SetLatch (record { latch = Terminate; pool = r; worker = i; then = n })) else finish q n) ≤ bare_then t n
    by true = omega arith
    by false = bare_finish t q n

bare_settled : (t : ℕ) (g : PoolShape) (q : Party) (k : Settling) (l : Latch) → bare_move t (after_set g q k l) ≤ bare_then t k.then
bare_settled t g q k Terminate = bare_settle t g q k.pool (k.worker + 1) k.then
bare_settled t g q k (OfCall i) = bare_finish t q k.then

bare_if : (t n : ℕ) (x y : Move) (z : Bool) → bare_move t x ≤ n → bare_move t y ≤ n → bare_move t (if z then x else y) ≤ n
bare_if t n x y true a b = a
bare_if t n x y false a b = b

bare_steal : (t : ℕ) (g : PoolShape) (q : Party) (k : Wait) (n : ℕ) → bare_move t (Stay (next_steal g q k n)) ≤ 0
bare_steal t g q k n = by (n == 0)
  where
    by : (z : Bool) → bare_move t (Stay (if z then PopInjected k else StealFrom (record k { victim = not_self g.workers (own_index q) (next_victim g.workers k.victim) }) (n - 1))) ≤ 0
    by true = omega arith
    by false = omega arith

bare_yield : (t : ℕ) (g : PoolShape) (q : Party) (v n : ℕ) → bare_move t (Stay (next_yield g q v n)) ≤ 0
bare_yield t g q v n = by (n == 0)
  where
    by : (z : Bool) → bare_move t (Stay (if z then YieldPopInjected else YieldSteal (not_self g.workers (own_index q) (next_victim g.workers v)) (n - 1))) ≤ 0
    by true = omega arith
    by false = omega arith

bare_failed : (t : ℕ) (g : PoolShape) (k : Wait) (r : Rounds) → bare_move t (Stay (after_failure g k r)) ≤ 0
bare_failed t g k (Failed n) = by (nat_lt n g.limit)
  where
    by : (z : Bool) → bare_move t (Stay (if z then ProbeIdle (record k { rounds = Failed (n + 1) }) else AnnounceSelf k)) ≤ 0
    by true = omega arith
    by false = omega arith
bare_failed t g k Announced = omega arith

bare_goes : (t : ℕ) (n : Plan) → bare_then t (after_news n) ≤ bare_rest t n
bare_goes t (Detach r u) = omega arith
bare_goes t (Here r u) = omega arith
bare_goes t (Send o) = omega arith
bare_goes t (Fork o a) = omega arith
bare_goes t (Feed f) = omega arith
bare_goes t (Open o) = omega arith
bare_goes t (Enter e) = omega arith
bare_goes t (Gather g) = omega arith

bare_after : (t : ℕ) (g : Target) (o : Option Taken) → bare_then t (after_found g o) ≤ 0
bare_after t g None = omega arith
bare_after t g (Some u) = omega arith

bare_set : (t : ℕ) (c : ℕ) (o : Party) (n : Then) → bare_move t (Stay (set_call c o n)) ≤ bare_then t n
bare_set t c (Worker a b) n = omega arith
bare_set t c (Caller m) n = omega arith

bare_count : (t : ℕ) (g : PoolShape) (q : Party) (k : Count) (n : Then) → bare_move t (settle_count g q k n) ≤ bare_then t n
bare_count t g q (OfPool r) n = bare_settle t g q r 0 n
bare_count t g q (OfScope c o) n = bare_set t c o n
bare_count t g q (OfCast c o) n = bare_set t c o n

bare_drawn : (t : ℕ) (o : Option ℕ) (n : Plan) → bare t (withdraw o n) ≤ hand_plan t n - one (t == plan_job n)
bare_drawn t None n = omega arith
bare_drawn t (Some c) n = omega arith

bare_unpushed : (t : ℕ) (n : Plan) → bare t (after_push n) ≤ hand_plan t n - one (t == plan_job n)
bare_unpushed t n = bare_drawn t (plan_book n) n

bare_slot : (t : ℕ) (n : Plan) → bare t (after_slot n) ≤ hand_plan t n - one (t == plan_job n)
bare_slot t (Feed f) = omega arith
bare_slot t (Detach r u) = omega arith
bare_slot t (Here r u) = omega arith
bare_slot t (Send o) = omega arith
bare_slot t (Fork o a) = omega arith
bare_slot t (Open o) = omega arith
bare_slot t (Enter e) = omega arith
bare_slot t (Gather g) = omega arith

bare_ends : (t : ℕ) (k : Count) → bare t (ends_count k) ≤ 0
bare_ends t (OfPool p) = omega arith
bare_ends t (OfScope c o) = bare_set t c o Resume
bare_ends t (OfCast c o) = bare_set t c o Resume

pub bare_begins : (t : ℕ) (b : Pieces) (k : Count) → bare t (begin_cast k b) ≤ 0
bare_begins t b (OfPool p) = omega arith
bare_begins t b (OfScope c o) = omega arith
bare_begins t b (OfCast c o) = omega arith

bare_undoes : (t : ℕ) (b : Pieces) (k : Count) → bare t (end_cast k b) ≤ 0
bare_undoes t b (OfPool p) = omega arith
bare_undoes t b (OfScope c o) = omega arith
bare_undoes t b (OfCast c o) = omega arith

-- over the whole table: no move leads to more of them, but for the share that is given back
pub bares : (g : PoolShape) (q : Party) (t : ℕ) (x : Place) (e : Seen) → bare_move t (next_of g q x e) ≤ bare t x + paid t x
bares g q t (ProbeWorking k) Yes = let a : bare_move t (Stay (after_wait k.target)) ≤ 0 = bare_left t k.target in omega (arith, a)
bares g q t (ProbeWorking k) _ = omega arith
bares g q t (PopWorking k) (Task u) = omega arith
bares g q t (PopWorking k) _ = omega arith
bares g q t (TakeCastWorking k) (Task u) = omega arith
bares g q t (TakeCastWorking k) _ = omega arith
bares g q t (ProbeIdle k) Yes = omega arith
bares g q t (ProbeIdle k) _ = omega arith
bares g q t (PopIdle k) (Task u) = omega arith
bares g q t (PopIdle k) _ = omega arith
bares g q t (TakeCastIdle k) (Task u) = omega arith
bares g q t (TakeCastIdle k) _ = let a : bare_move t (if g.workers == 1 then Stay (PopInjected k) else Stay (PickVictim k)) ≤ 0 = bare_if t 0 (Stay (PopInjected k)) (Stay (PickVictim k)) (g.workers == 1) (omega arith) (omega arith) in omega (arith, a)
bares g q t (PickVictim k) (Start v) = omega arith
bares g q t (PickVictim k) _ = omega arith
bares g q t (StealFrom k n) (Task u) = omega arith
bares g q t (StealFrom k n) _ = let a : bare_move t (Stay (next_steal g q k n)) ≤ 0 = bare_steal t g q k n in omega (arith, a)
bares g q t (PopInjected k) (Task u) = omega arith
bares g q t (PopInjected k) _ = let a : bare_move t (Stay (after_failure g k k.rounds)) ≤ 0 = bare_failed t g k k.rounds in omega (arith, a)
bares g q t (AnnounceSelf k) (Jec j) = omega arith
bares g q t (AnnounceSelf k) _ = omega arith
bares g q t (GetSleepy k) Done = omega arith
bares g q t (GetSleepy k) _ = omega arith
bares g q t (FallAsleep k) Done = omega arith
bares g q t (FallAsleep k) _ = omega arith
bares g q t (AddSleeping k) Done = omega arith
bares g q t (AddSleeping k) _ = omega arith
bares g q t (LookAtCast k) Yes = omega arith
bares g q t (LookAtCast k) _ = omega arith
bares g q t (LookAtInjector k) Yes = omega arith
bares g q t (LookAtInjector k) _ = omega arith
bares g q t (LoadCounters k) (Word a1 b1 j) = let a : bare_move t (if j == k.kept then Stay (AddSleeping (record k { sleeping = a1; inactive = b1 })) else Stay (WakeUp (record k { rounds = Failed g.limit }))) ≤ 0 = bare_if t 0 (Stay (AddSleeping (record k { sleeping = a1; inactive = b1 }))) (Stay (WakeUp (record k { rounds = Failed g.limit }))) (j == k.kept) (omega arith) (omega arith) in omega (arith, a)
bares g q t (LoadCounters k) _ = omega arith
bares g q t (LeaveSearch k) (Wakes n) = let a : bare_move t (walk g q (own_pool q) n 0 (after_found k.target k.found)) ≤ bare_then t (after_found k.target k.found) = bare_walk t g q (own_pool q) n 0 (after_found k.target k.found) in let b : bare_then t (after_found k.target k.found) ≤ 0 = bare_after t k.target k.found in omega (arith, a, b)
bares g q t (LeaveSearch k) _ = omega arith
bares g q t (JoinProbe o) Yes = omega arith
bares g q t (JoinProbe o) _ = omega arith
bares g q t (JoinPop o) (Task u) = let a : bare_move t (if is_taken u o.job then Enter (SecondSide o) (BeginHere o.job) else Enter (JoinProbe o) (BeginTask u)) ≤ 0 = bare_if t 0 (Enter (SecondSide o) (BeginHere o.job)) (Enter (JoinProbe o) (BeginTask u)) (is_taken u o.job) (omega arith) (omega arith) in omega (arith, a)
bares g q t (JoinPop o) _ = omega arith
bares g q t (JoinTakeCast o) (Task u) = omega arith
bares g q t (JoinTakeCast o) _ = omega arith
bares g q t YieldPop (Task u) = omega arith
bares g q t YieldPop _ = omega arith
bares g q t YieldPopInjected (Task u) = omega arith
bares g q t YieldPopInjected _ = omega arith
bares g q t LocalPop (Task u) = omega arith
bares g q t LocalPop _ = omega arith
bares g q t LocalTakeCast (Task u) = omega arith
bares g q t LocalTakeCast _ = omega arith
bares g q t YieldTakeCast (Task u) = omega arith
bares g q t YieldTakeCast _ = let a : bare_move t (if g.workers == 1 then Stay YieldPopInjected else Stay YieldPick) ≤ 0 = bare_if t 0 (Stay YieldPopInjected) (Stay YieldPick) (g.workers == 1) (omega arith) (omega arith) in omega (arith, a)
bares g q t YieldPick (Start v) = omega arith
bares g q t YieldPick _ = omega arith
bares g q t (YieldSteal v n) (Task u) = omega arith
bares g q t (YieldSteal v n) _ = let a : bare_move t (Stay (next_yield g q v n)) ≤ 0 = bare_yield t g q v n in omega (arith, a)
bares g q t (BeginTask (Plain u)) (Begun d) = omega arith
bares g q t (BeginTask (Plain u)) _ = omega arith
bares g q t (BeginTask (Token k i b8)) (Handed u d) = omega arith
bares g q t (BeginTask (Token k i b8)) _ = omega arith
bares g q t (AddToFifo f) Done = omega arith
bares g q t (AddToFifo f) _ = let a : bare t (withdraw (count_book f.count) (Feed f)) ≤ hand_plan t (Feed f) - one (t == f.job) = bare_drawn t (count_book f.count) (Feed f) in omega (arith, a)
bares g q t (LookForToken f) Yes = omega arith
bares g q t (LookForToken f) _ = omega arith
bares g q t (PushToken f v) Done = omega arith
bares g q t (PushToken f v) _ = omega arith
bares g q t (TakeFromFifo f) (Task x) = let a : bare t (withdraw (count_book f.count) (Feed (record f { job = taken_number x }))) ≤ hand_plan t (Feed (record f { job = taken_number x })) - one (t == taken_number x) = bare_drawn t (count_book f.count) (Feed (record f { job = taken_number x })) in omega (arith, a)
bares g q t (TakeFromFifo f) _ = omega arith
bares g q t (RaiseCount n) Done = let a : bare_move t (after_raise n) + raised_hand t n ≤ hand_plan t n = bare_raised t n in omega (arith, a)
bares g q t (RaiseCount n) _ = omega arith
bares g q t (RaiseForAll b) Done = let a : bare t (begin_cast b.count b) ≤ 0 = bare_begins t b b.count in omega (arith, a)
bares g q t (RaiseForAll b) _ = omega arith
bares g q t (PushForAll b) Done = omega arith
bares g q t (PushForAll b) _ = let a : bare t (end_cast b.count b) ≤ 0 = bare_undoes t b b.count in omega (arith, a)
bares g q t (OpenForAll b) (Opened n) = omega arith
bares g q t (OpenForAll b) _ = omega arith
bares g q t (GrowCast d) Done = omega arith
bares g q t (GrowCast d) _ = omega arith
bares g q t (DealPieces d) Done = omega arith
bares g q t (DealPieces d) _ = omega arith
bares g q t (LowerForAll b) Yes = let a : bare t (ends_count b.count) ≤ 0 = bare_ends t b.count in omega (arith, a)
bares g q t (LowerForAll b) _ = omega arith
bares g q t (GrowCall n) Done = omega arith
bares g q t (GrowCall n) _ = omega arith
bares g q t (LookQueue n) Yes = omega arith
bares g q t (LookQueue n) _ = omega arith
bares g q t (PushJob (Feed f) v) Done = omega arith
bares g q t (PushJob n v) Done = omega arith
bares g q t (PushJob n v) e = let a : bare t (after_push n) ≤ hand_plan t n - one (t == plan_job n) = bare_unpushed t n in omega (arith, a)
bares g q t (TellNews n v) (Wakes k) = let a : bare_move t (walk g q (plan_pool n) k 0 (after_news n)) ≤ bare_then t (after_news n) = bare_walk t g q (plan_pool n) k 0 (after_news n) in let b : bare_then t (after_news n) ≤ bare_rest t n = bare_goes t n in omega (arith, a, b)
bares g q t (TellNews n v) _ = omega arith
bares g q t (WakeWorker k) Yes = omega arith
bares g q t (WakeWorker k) _ = omega arith
bares g q t (UnlockWoken k) e = let a : bare_move t (walk g q k.pool k.owed (k.worker + 1) k.then) ≤ bare_then t k.then = bare_walk t g q k.pool k.owed (k.worker + 1) k.then in omega (arith, a)
bares g q t (TakeResult o f) (Found d) = omega arith
bares g q t (TakeResult o f) _ = omega arith
bares g q t (LowerCount r s n) Yes = let a : bare_move t (settle_count g q r n) ≤ bare_then t n = bare_count t g q r n in omega (arith, a)
bares g q t (LowerCount r s n) _ = let a : bare_move t (finish q n) ≤ bare_then t n = bare_finish t q n in omega (arith, a)
bares g q t (StoreResult i o d) e = let a : bare_move t (Stay (set_call i o Resume)) ≤ 0 = bare_set t i o Resume in omega (arith, a)
bares g q t (SetLatch k) Yes = omega arith
bares g q t (SetLatch k) _ = let a : bare_move t (after_set g q k k.latch) ≤ bare_then t k.then = bare_settled t g q k k.latch in omega (arith, a)
bares g q t (UnlockSettled k) e = let a : bare_move t (after_set g q k k.latch) ≤ bare_then t k.then = bare_settled t g q k k.latch in omega (arith, a)
bares g q t (SetLockLatch c n) e = let a : bare_move t (finish q n) ≤ bare_then t n = bare_finish t q n in omega (arith, a)
bares g q t (GrowScope o) Done = omega arith
bares g q t (GrowScope o) _ = omega arith
bares g q t (OpenSlot x) Done = let a : bare t (after_slot x) ≤ hand_plan t x - one (t == plan_job x) = bare_slot t x in omega (arith, a)
bares g q t (OpenSlot x) _ = omega arith
bares g q t _ e = omega arith

spent_back : (J : ℕ → Job) (k t : ℕ) → backs (put J k (at_job (J k) Spent) t).at ≤ backs (J t).at
spent_back J k t = by (t == k)
  where
    by : (z : Bool) → backs (if z then at_job (J k) Spent else J t).at ≤ backs (J t).at
    by true = omega arith
    by false = omega arith

put_back : (J : ℕ → Job) (a t : ℕ) → backs (put J a (at_job (J a) HandedBack) t).at ≤ one (t == a) + backs (J t).at
put_back J a t = by (t == a)
  where
    by : (z : Bool) → backs (if z then at_job (J a) HandedBack else J t).at ≤ one z + backs (J t).at
    by true = omega arith
    by false = omega arith

pub land_only : (t : ℕ) (g : Move) (fs : List Place) → all_bare t (after_move g fs) ≤ bare_move t g + bare_in t fs
land_only t (Stay y) fs = omega arith
land_only t (HandIn y token) fs = omega arith
land_only t (Mark y b9 m9) fs = omega arith
land_only t (Enter f y) fs = omega arith
land_only t (StartRun f a) fs = omega arith
land_only t Back [] = omega arith
land_only t Back (f ∷ fs) = omega arith
land_only t (HandBack n) [] = omega arith
land_only t (Discard n) [] = omega arith
land_only t (HandAllBack b9) [] = omega arith
land_only t (HandBack n) (f ∷ fs) = omega arith
land_only t (Discard n) (f ∷ fs) = omega arith
land_only t (HandAllBack b9) (f ∷ fs) = omega arith

-- the pieces that a move gives back where others are to be told
abbrev pub handed : ℕ → Move → ℕ
handed t (Mark y c Returned) = one (is_piece c t)
handed t _ = 0

pieces_back : (c : Pieces) (k : Marking) (J : ℕ → Job) (t n : ℕ) → (k ≡ Returned → one (is_piece c t) ≤ n) → backs (mark_pieces c k J t).at ≤ n + backs (J t).at
pieces_back c k J t n d = by (is_piece c t) refl
  where
    each : (k : Marking) → (k ≡ Returned → 1 ≤ n) → backs (marked k c.pool (t - c.first) (J t)).at ≤ n + backs (J t).at
    each Counted d = omega arith
    each Queued d = omega arith
    each (Numbered m) d = omega arith
    each Dealt d = omega arith
    each Unnumbered d = omega arith
    each Returned d = let a : 1 ≤ n = d refl in omega (arith, a)

    by : (b : Bool) → is_piece c t ≡ b → backs (if b then marked k c.pool (t - c.first) (J t) else J t).at ≤ n + backs (J t).at
    by true e = each k (λ z. (let a : one (is_piece c t) ≤ n = d z in let b : one (is_piece c t) ≡ 1 = ap one e in omega (arith, a, b)))
    by false e = omega arith

-- a move hands back no more than it held
pub land_bare : (q : Party) (t : ℕ) (g : Move) (fs : List Place) (J : ℕ → Job) → all_bare t (after_move g fs) + backs (jobs_after q g J t).at ≤ bare_move t g + handed t g + bare_in t fs + backs (J t).at
land_bare q t (Stay y) fs J = omega arith
land_bare q t (HandIn y k) fs J = let a : backs (put J k (at_job (J k) Spent) t).at ≤ backs (J t).at = spent_back J k t in omega (arith, a)
land_bare q t (Enter f y) fs J = omega arith
land_bare q t (StartRun f a) fs J = by (t == a)
  where
    by : (z : Bool) → all_bare t (after_move (StartRun f a) fs) + backs (if z then begun q (J a) else J t).at ≤ bare t f + 0 + bare_in t fs + backs (J t).at
    by true = omega arith
    by false = omega arith
land_bare q t (Mark y c Counted) fs J = let a : backs (mark_pieces c Counted J t).at ≤ 0 + backs (J t).at = pieces_back c Counted J t 0 (λ e. absurd (cc)) in omega (arith, a)
land_bare q t (Mark y c Queued) fs J = let a : backs (mark_pieces c Queued J t).at ≤ 0 + backs (J t).at = pieces_back c Queued J t 0 (λ e. absurd (cc)) in omega (arith, a)
land_bare q t (Mark y c (Numbered m)) fs J = let a : backs (mark_pieces c (Numbered m) J t).at ≤ 0 + backs (J t).at = pieces_back c (Numbered m) J t 0 (λ e. absurd (cc)) in omega (arith, a)
land_bare q t (Mark y c Dealt) fs J = let a : backs (mark_pieces c Dealt J t).at ≤ 0 + backs (J t).at = pieces_back c Dealt J t 0 (λ e. absurd (cc)) in omega (arith, a)
land_bare q t (Mark y c Unnumbered) fs J = let a : backs (mark_pieces c Unnumbered J t).at ≤ 0 + backs (J t).at = pieces_back c Unnumbered J t 0 (λ e. absurd (cc)) in omega (arith, a)
land_bare q t (Mark y c Returned) fs J = let a : backs (mark_pieces c Returned J t).at ≤ one (is_piece c t) + backs (J t).at = pieces_back c Returned J t (one (is_piece c t)) (λ e. omega arith) in omega (arith, a)
land_bare q t (HandAllBack c) [] J = let a : backs (mark_pieces c Returned J t).at ≤ one (is_piece c t) + backs (J t).at = pieces_back c Returned J t (one (is_piece c t)) (λ e. omega arith) in omega (arith, a)
land_bare q t (HandAllBack c) (f ∷ fs) J = let a : backs (mark_pieces c Returned J t).at ≤ one (is_piece c t) + backs (J t).at = pieces_back c Returned J t (one (is_piece c t)) (λ e. omega arith) in omega (arith, a)
land_bare q t Back [] J = omega arith
land_bare q t Back (f ∷ fs) J = omega arith
land_bare q t (HandBack n) fs J = let a : backs (jobs_after q (HandBack n) J t).at ≤ hand_plan t n + backs (J t).at = plan n in let b : all_bare t (after_move (HandBack n) fs) ≤ bare_in t fs = frames fs in omega (arith, a, b)
  where
    frames : (fs : List Place) → all_bare t (after_move (HandBack n) fs) ≤ bare_in t fs
    frames [] = omega arith
    frames (f ∷ fs) = omega arith

    plan : (n : Plan) → backs (jobs_after q (HandBack n) J t).at ≤ hand_plan t n + backs (J t).at
    plan (Detach p a) = put_back J a t
    plan (Here p a) = put_back J a t
    plan (Send o) = put_back J (o.job) t
    plan (Open o) = put_back J (o.job) t
    plan (Enter e) = put_back J (e.job) t
    plan (Gather g) = pieces_back (g.pieces) Returned J t (one (is_piece g.pieces t)) (λ e. omega arith)
    plan (Feed d) = let b : backs (put J (d.job) (at_job (J (d.job)) HandedBack) t).at ≤ one (t == d.job) + backs (J t).at = put_back J (d.job) t in by (t == d.token) b
      where
        by : (z : Bool) → backs (put J (d.job) (at_job (J (d.job)) HandedBack) t).at ≤ one (t == d.job) + backs (J t).at → backs (if z then at_job (J (d.token)) HandedBack else put J (d.job) (at_job (J (d.job)) HandedBack) t).at ≤ one (t == d.job) + one z + backs (J t).at
        by true b = omega arith
        by false b = omega (arith, b)
    plan (Fork o a) = let b : backs (put J a (at_job (J a) HandedBack) t).at ≤ one (t == a) + backs (J t).at = put_back J a t in by (t == o.job) b
      where
        by : (z : Bool) → backs (put J a (at_job (J a) HandedBack) t).at ≤ one (t == a) + backs (J t).at → backs (if z then at_job (J (o.job)) HandedBack else put J a (at_job (J a) HandedBack) t).at ≤ one (t == a) + one z + backs (J t).at
        by true b = omega arith
        by false b = omega (arith, b)
land_bare q t (Discard k) [] J = let a : backs (put J k (at_job (J k) Spent) t).at ≤ backs (J t).at = spent_back J k t in omega (arith, a)
land_bare q t (Discard k) (f ∷ fs) J = let a : backs (put J k (at_job (J k) Spent) t).at ≤ backs (J t).at = spent_back J k t in omega (arith, a)

-- the end of a run leads to no more
bare_on : (s : ℕ) (f : Place) (e : Ending) → bare s (goes_on f e) ≤ bare s f
bare_on s (FirstSide o a) Fine = omega arith
bare_on s (FirstSide o a) Fault = omega arith
bare_on s (SecondSide o) e = omega arith
bare_on s (ScopeBody o) e = omega arith
bare_on s (AtOnce p t) e = omega arith
bare_on s f e = omega arith

pub closed_bare : (s t : ℕ) (k : JobKind) (e : Ending) (fs : List Place) → all_bare s (after_close t k e fs) ≤ bare_in s fs
closed_bare s t (Detached p) e fs = omega arith
closed_bare s t (Stored c o) e fs = omega arith
closed_bare s t (Scoped c o) e fs = omega arith
closed_bare s t (PieceOf c o) e fs = omega arith
closed_bare s t Direct e [] = omega arith
closed_bare s t (TokenOf i9 b8) e [] = omega arith
closed_bare s t (BodyOf c9 o9) e [] = omega arith
closed_bare s t (WholeOf c9 o9) e [] = omega arith
closed_bare s t Direct e (f ∷ fs) = let a : bare s (goes_on f e) ≤ bare s f = bare_on s f e in omega (arith, a)
closed_bare s t (TokenOf i9 b8) e (f ∷ fs) = let a : bare s (goes_on f e) ≤ bare s f = bare_on s f e in omega (arith, a)
closed_bare s t (BodyOf c9 o9) e (f ∷ fs) = let a : bare s (goes_on f e) ≤ bare s f = bare_on s f e in omega (arith, a)
closed_bare s t (WholeOf c9 o9) e (f ∷ fs) = let a : bare s (goes_on f e) ≤ bare s f = bare_on s f e in omega (arith, a)
