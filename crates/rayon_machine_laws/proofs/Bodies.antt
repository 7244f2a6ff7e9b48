-- what moves leave of the share that a scope's body has of the scope's count
--
-- `bodies` goes over the table of moves. The share is kept from the Raise of the scope's call to the Lower at the
-- body's end. A refused call keeps it to the step that hands the body back.
use Rattle.rayon_machine_places.specs.declared.place.Pieces.{Pieces}
use Rattle.rayon_machine_places.specs.declared.place.Feeding.{Feeding}
use Rattle.rayon_machine_places.specs.declared.place.Share.TheVariants.{Body, PoolValue, OfJob}
use Rattle.rayon_machine_places.specs.declared.place.Count.TheVariants.{OfPool, OfScope, OfCast}
use Rattle.rayon_machine_places.specs.declared.place.Count.{Count}
use Rattle.std.proofs.Common.{arith}
use Rattle.std.specs.Prelude.{ℕ, Bool, true, false, ◌&&◌, ◌+◌, ◌-◌, ◌==◌, ◌≤◌, nat_lt, if◌then◌else◌, List, [], ◌∷◌, Option, Some, None}
use Rattle.rayon_machine_places.specs.declared.place.Party.{Party}
use Rattle.rayon_machine_places.specs.declared.place.Party.TheVariants.{Worker, Caller}
use Rattle.rayon_machine_places.specs.declared.place.Ending.{Ending}
use Rattle.rayon_machine_places.specs.declared.place.Ending.TheVariants.{Fine, Fault}
use Rattle.rayon_machine_places.specs.declared.place.JobKind.{JobKind}
use Rattle.rayon_machine_places.specs.declared.place.JobKind.TheVariants.{Detached, Stored, Direct, TokenOf, Scoped, BodyOf, PieceOf, WholeOf}
use Rattle.rayon_machine_places.specs.declared.place.Target.{Target}
use Rattle.rayon_machine_places.specs.declared.place.Target.TheVariants.{Termination, Answer}
use Rattle.rayon_machine_places.specs.declared.place.Latch.{Latch}
use Rattle.rayon_machine_places.specs.declared.place.Latch.TheVariants.{Terminate, OfCall}
use Rattle.rayon_machine_places.specs.declared.place.Rounds.{Rounds}
use Rattle.rayon_machine_places.specs.declared.place.Rounds.TheVariants.{Failed, Announced}
use Rattle.rayon_machine_places.specs.declared.place.Plan.{Plan}
use Rattle.rayon_machine_places.specs.declared.place.Plan.TheVariants.{Detach, Here, Send, Fork, Feed, Open, Enter, Gather}
use Rattle.rayon_machine_places.specs.declared.place.Then.{Then}
use Rattle.rayon_machine_places.specs.declared.place.Then.TheVariants.{BeginFound, LeaveWait, Resume, Await, RunFirst, Answers, Missing, Ran, GiveBack, Called, Gathers}
use Rattle.rayon_machine_places.specs.declared.place.Taken.TheVariants.{Plain, Token}
use Rattle.rayon_machine_places.specs.declared.place.Place.{Place}
use Rattle.rayon_machine_places.specs.declared.place.Place.TheVariants.{ProbeWorking, PopWorking, TakeCastWorking, ProbeIdle, PopIdle, TakeCastIdle, PickVictim, StealFrom, PopInjected, AnnounceSelf, GetSleepy, FallAsleep, LoadCounters, AddSleeping, LookAtCast, LookAtInjector}
use Rattle.rayon_machine_places.specs.declared.place.Place.TheVariants.{WakeUp, LeaveSearch, JoinProbe, JoinPop, JoinTakeCast, YieldPop, YieldTakeCast, YieldPick, YieldSteal, YieldPopInjected, LocalPop, LocalTakeCast, BeginTask, BeginHere, RaiseCount, GrowCall, LookQueue}
use Rattle.rayon_machine_places.specs.declared.place.Place.TheVariants.{PushJob, TellNews, LockToWake, WakeWorker, UnlockWoken, TakeResult, LowerCount, StoreResult, SetLatch, UnlockSettled, FirstSide, SecondSide, AtOnce, AddToFifo, LookForToken, PushToken, TakeFromFifo}
use Rattle.rayon_machine_places.specs.declared.place.Place.TheVariants.{RaiseForAll, PushForAll, LowerForAll, GrowScope, OpenSlot, SetLockLatch, ScopeBody, OpenForAll, GrowCast, DealPieces}
use Rattle.rayon_machine_places.specs.declared.place.Move.{Move}
use Rattle.rayon_machine_places.specs.declared.place.Move.TheVariants.{Stay, Enter, StartRun, Back, HandBack, Discard, HandIn, Mark, HandAllBack}
use Rattle.rayon_machine_places.specs.declared.act.Seen.{Seen}
use Rattle.rayon_machine_places.specs.declared.act.Seen.TheVariants.{Done, Yes, Task, Jec, Word, Start, Wakes, Begun, Found, Handed, Opened}
use Rattle.rayon_machine_places.specs.declared.shape.PoolShape.{PoolShape}
use Rattle.rayon_machine_places.specs.declared.place.Wait.{Wait}
use Rattle.rayon_machine_places.specs.declared.place.Settling.{Settling}
use Rattle.rayon_machine_places.specs.Places.{own_pool, own_index, plan_pool, after_wait, finish, walk, settle, after_set, after_found, after_news, goes_on, after_raise, set_call, next_victim, not_self, after_failure, next_steal, next_yield, next_of, is_taken, settle_count}
use Rattle.rayon_machine_places.specs.Places.{after_push, begin_feed, ends_count, begin_cast, end_cast, after_slot, withdraw, count_book, plan_book, taken_number}
use Rattle.rayon_machine_runs.specs.Steps.{after_move, after_close}
pub use Rattle.rayon_machine_laws.specs.Counted.{in_scope, plan_body, body_then, body, bodies_in, all_bodies}

-- what is kept where a move leads
abbrev pub body_move : ℕ → Move → ℕ
body_move c (Stay y) = body c y
body_move c (HandIn y token) = body c y
body_move c (Enter f y) = body c y + body c f
body_move c (StartRun f a) = body c f
body_move c Back = 0
body_move c (HandBack n) = 0
body_move c (Discard token) = 0
body_move c (Mark y b m) = body c y
body_move c (HandAllBack b) = 0

-- the share that is given back
abbrev pub spent : ℕ → Place → ℕ
spent c (LowerCount k Body n) = in_scope c k
spent c _ = 0

body_left : (t : ℕ) (g : Target) → body_move t (Stay (after_wait g)) ≤ 0
body_left t Termination = omega arith
body_left t (Answer o f) = omega arith

body_finish : (t : ℕ) (q : Party) (n : Then) → body_move t (finish q n) ≤ 0
body_finish t q (BeginFound g u) = omega arith
body_finish t q (LeaveWait g) = body_left t g
body_finish t q Resume = omega arith
body_finish t q Called = omega arith
body_finish t (Worker a b) (Await o) = omega arith
body_finish t (Caller c) (Await o) = omega arith
body_finish t (Worker a b) (Gathers o) = omega arith
body_finish t (Caller c) (Gathers o) = omega arith
body_finish t q (RunFirst o a) = omega arith
body_finish t q (Answers o f e) = omega arith
body_finish t q (Missing o f) = omega arith
body_finish t q (Ran u e) = omega arith
body_finish t q (GiveBack n) = omega arith

body_walk : (t : ℕ) (g : PoolShape) (q : Party) (r k i : ℕ) (n : Then) → body_move t (walk g q r k i n) ≤ 0
body_walk t g q r k i n = by (nat_lt 0 k && nat_lt i g.workers)
  where
    by : (z : Bool) → body_move t (if z then Stay (LockToWake (record { pool = r; owed = k; worker = i; then = n })) else finish q n) ≤ 0
    by true = omega arith
    by false = body_finish t q n

body_settle : (t : ℕ) (g : PoolShape) (q : Party) (r i : ℕ) (n : Then) → body_move t (settle g q r i n) ≤ body_then t n
body_settle t g q r i n = by (nat_lt i g.workers)
  where
    by : (z : Bool) → body_move t (if z then Stay (SetLatch (record { latch = Terminate; pool = r; worker = i; then = n })) else finish q n) ≤ body_then t n
    by true = omega arith
    by false = let a : body_move t (finish q n) ≤ 0 = body_finish t q n in omega (arith, a)

body_settled : (t : ℕ) (g : PoolShape) (q : Party) (k : Settling) (l : Latch) → body_move t (after_set g q k l) ≤ body_then t k.then
body_settled t g q k Terminate = body_settle t g q k.pool (k.worker + 1) k.then
body_settled t g q k (OfCall i) = let a : body_move t (finish q k.then) ≤ 0 = body_finish t q k.then in omega (arith, a)

body_if : (t n : ℕ) (x y : Move) (z : Bool) → body_move t x ≤ n → body_move t y ≤ n → body_move t (if z then x else y) ≤ n
body_if t n x y true a b = a
body_if t n x y false a b = b

body_steal : (t : ℕ) (g : PoolShape) (q : Party) (k : Wait) (n : ℕ) → body_move t (Stay (next_steal g q k n)) ≤ 0
body_steal t g q k n = by (n == 0)
  where
    by : (z : Bool) → body_move t (Stay (if z then PopInjected k else StealFrom (record k { victim = not_self g.workers (own_index q) (next_victim g.workers k.victim) }) (n - 1))) ≤ 0
    by true = omega arith
    by false = omega arith

body_yield : (t : ℕ) (g : PoolShape) (q : Party) (v n : ℕ) → body_move t (Stay (next_yield g q v n)) ≤ 0
body_yield t g q v n = by (n == 0)
  where
    by : (z : Bool) → body_move t (Stay (if z then YieldPopInjected else YieldSteal (not_self g.workers (own_index q) (next_victim g.workers v)) (n - 1))) ≤ 0
    by true = omega arith
    by false = omega arith

body_failed : (t : ℕ) (g : PoolShape) (k : Wait) (r : Rounds) → body_move t (Stay (after_failure g k r)) ≤ 0
body_failed t g k (Failed n) = by (nat_lt n g.limit)
  where
    by : (z : Bool) → body_move t (Stay (if z then ProbeIdle (record k { rounds = Failed (n + 1) }) else AnnounceSelf k)) ≤ 0
    by true = omega arith
    by false = omega arith
body_failed t g k Announced = omega arith

body_set : (t : ℕ) (c : ℕ) (o : Party) (n : Then) → body_move t (Stay (set_call c o n)) ≤ body_then t n
body_set t c (Worker a b) n = omega arith
body_set t c (Caller m) n = omega arith

body_count : (t : ℕ) (g : PoolShape) (q : Party) (k : Count) (n : Then) → body_move t (settle_count g q k n) ≤ body_then t n
body_count t g q (OfPool r) n = body_settle t g q r 0 n
body_count t g q (OfScope c o) n = body_set t c o n
body_count t g q (OfCast c o) n = body_set t c o n

body_fed : (t : ℕ) (f : Feeding) (k : Count) → body t (begin_feed k f) ≤ 0
body_fed t f (OfPool p) = omega arith
body_fed t f (OfScope c o) = omega arith
body_fed t f (OfCast c o) = omega arith

body_ends : (t : ℕ) (k : Count) → body t (ends_count k) ≤ 0
body_ends t (OfPool p) = omega arith
body_ends t (OfScope c o) = body_set t c o Resume
body_ends t (OfCast c o) = body_set t c o Resume

body_begins : (t : ℕ) (b : Pieces) (k : Count) → body t (begin_cast k b) ≤ 0
body_begins t b (OfPool p) = omega arith
body_begins t b (OfScope c o) = omega arith
body_begins t b (OfCast c o) = omega arith

body_undoes : (t : ℕ) (b : Pieces) (k : Count) → body t (end_cast k b) ≤ 0
body_undoes t b (OfPool p) = omega arith
body_undoes t b (OfScope c o) = omega arith
body_undoes t b (OfCast c o) = omega arith

body_slot : (t : ℕ) (n : Plan) → body t (after_slot n) ≤ plan_body t n
body_slot t (Feed f) = omega arith
body_slot t (Detach r u) = omega arith
body_slot t (Here r u) = omega arith
body_slot t (Send o) = omega arith
body_slot t (Fork o a) = omega arith
body_slot t (Open o) = omega arith
body_slot t (Enter e) = omega arith
body_slot t (Gather g) = omega arith

body_drawn : (t : ℕ) (o : Option ℕ) (n : Plan) → body t (withdraw o n) ≤ plan_body t n
body_drawn t None n = omega arith
body_drawn t (Some c) n = omega arith

body_raised : (t : ℕ) (n : Plan) → body_move t (after_raise n) + 0 ≤ plan_body t n
body_raised t (Detach r u) = omega arith
body_raised t (Here r u) = omega arith
body_raised t (Send o) = omega arith
body_raised t (Fork o a) = omega arith
body_raised t (Feed f) = let a : body t (begin_feed f.count f) ≤ 0 = body_fed t f f.count in omega (arith, a)
body_raised t (Gather g) = omega arith
body_raised t (Open o) = omega arith
body_raised t (Enter x) = omega arith

body_unpushed : (t : ℕ) (n : Plan) → body t (after_push n) + 0 ≤ plan_body t n
body_unpushed t n = let a : body t (withdraw (plan_book n) n) ≤ plan_body t n = body_drawn t (plan_book n) n in omega (arith, a)

-- over the whole table: no move leads to more of them, and the act that gives the share back leads to one less
pub bodies : (g : PoolShape) (q : Party) (t : ℕ) (x : Place) (e : Seen) → body_move t (next_of g q x e) + spent t x ≤ body t x
bodies g q t (ProbeWorking k) Yes = let a : body_move t (Stay (after_wait k.target)) ≤ 0 = body_left t k.target in omega (arith, a)
bodies g q t (ProbeWorking k) _ = omega arith
bodies g q t (PopWorking k) (Task u) = omega arith
bodies g q t (PopWorking k) _ = omega arith
bodies g q t (TakeCastWorking k) (Task u) = omega arith
bodies g q t (TakeCastWorking k) _ = omega arith
bodies g q t (ProbeIdle k) Yes = omega arith
bodies g q t (ProbeIdle k) _ = omega arith
bodies g q t (PopIdle k) (Task u) = omega arith
bodies g q t (PopIdle k) _ = omega arith
bodies g q t (TakeCastIdle k) (Task u) = omega arith
bodies g q t (TakeCastIdle k) _ = let a : body_move t (if g.workers == 1 then Stay (PopInjected k) else Stay (PickVictim k)) ≤ 0 = body_if t 0 (Stay (PopInjected k)) (Stay (PickVictim k)) (g.workers == 1) (omega arith) (omega arith) in omega (arith, a)
bodies g q t (PickVictim k) (Start v) = omega arith
bodies g q t (PickVictim k) _ = omega arith
bodies g q t (StealFrom k n) (Task u) = omega arith
bodies g q t (StealFrom k n) _ = let a : body_move t (Stay (next_steal g q k n)) ≤ 0 = body_steal t g q k n in omega (arith, a)
bodies g q t (PopInjected k) (Task u) = omega arith
bodies g q t (PopInjected k) _ = let a : body_move t (Stay (after_failure g k k.rounds)) ≤ 0 = body_failed t g k k.rounds in omega (arith, a)
bodies g q t (AnnounceSelf k) (Jec j) = omega arith
bodies g q t (AnnounceSelf k) _ = omega arith
bodies g q t (GetSleepy k) Done = omega arith
bodies g q t (GetSleepy k) _ = omega arith
bodies g q t (FallAsleep k) Done = omega arith
bodies g q t (FallAsleep k) _ = omega arith
bodies g q t (AddSleeping k) Done = omega arith
bodies g q t (AddSleeping k) _ = omega arith
bodies g q t (LookAtCast k) Yes = omega arith
bodies g q t (LookAtCast k) _ = omega arith
bodies g q t (LookAtInjector k) Yes = omega arith
bodies g q t (LookAtInjector k) _ = omega arith
bodies g q t (LoadCounters k) (Word a1 b1 j) = let a : body_move t (if j == k.kept then Stay (AddSleeping (record k { sleeping = a1; inactive = b1 })) else Stay (WakeUp (record k { rounds = Failed g.limit }))) ≤ 0 =
    body_if t 0 (Stay (AddSleeping (record k { sleeping = a1; inactive = b1 }))) (Stay (WakeUp (record k { rounds = Failed g.limit }))) (j == k.kept) (omega arith) (omega arith) in omega (arith, a)
bodies g q t (LoadCounters k) _ = omega arith
bodies g q t (LeaveSearch k) (Wakes n) = let a : body_move t (walk g q (own_pool q) n 0 (after_found k.target k.found)) ≤ 0 = body_walk t g q (own_pool q) n 0 (after_found k.target k.found) in omega (arith, a)
bodies g q t (LeaveSearch k) _ = omega arith
bodies g q t (JoinProbe o) Yes = omega arith
bodies g q t (JoinProbe o) _ = omega arith
bodies g q t (JoinPop o) (Task u) = let a : body_move t (if is_taken u o.job then Enter (SecondSide o) (BeginHere o.job) else Enter (JoinProbe o) (BeginTask u)) ≤ 0 =
    body_if t 0 (Enter (SecondSide o) (BeginHere o.job)) (Enter (JoinProbe o) (BeginTask u)) (is_taken u o.job) (omega arith) (omega arith) in omega (arith, a)
bodies g q t (JoinPop o) _ = omega arith
bodies g q t (JoinTakeCast o) (Task u) = omega arith
bodies g q t (JoinTakeCast o) _ = omega arith
bodies g q t YieldPop (Task u) = omega arith
bodies g q t YieldPop _ = omega arith
bodies g q t YieldPopInjected (Task u) = omega arith
bodies g q t YieldPopInjected _ = omega arith
bodies g q t LocalPop (Task u) = omega arith
bodies g q t LocalPop _ = omega arith
bodies g q t LocalTakeCast (Task u) = omega arith
bodies g q t LocalTakeCast _ = omega arith
bodies g q t YieldTakeCast (Task u) = omega arith
bodies g q t YieldTakeCast _ = let a : body_move t (if g.workers == 1 then Stay YieldPopInjected else Stay YieldPick) ≤ 0 = body_if t 0 (Stay YieldPopInjected) (Stay YieldPick) (g.workers == 1) (omega arith) (omega arith) in omega (arith, a)
bodies g q t YieldPick (Start v) = omega arith
bodies g q t YieldPick _ = omega arith
bodies g q t (YieldSteal v n) (Task u) = omega arith
bodies g q t (YieldSteal v n) _ = let a : body_move t (Stay (next_yield g q v n)) ≤ 0 = body_yield t g q v n in omega (arith, a)
bodies g q t (BeginTask (Plain u)) (Begun d) = omega arith
bodies g q t (BeginTask (Plain u)) _ = omega arith
bodies g q t (BeginTask (Token k i b8)) (Handed u d) = omega arith
bodies g q t (BeginTask (Token k i b8)) _ = omega arith
bodies g q t (AddToFifo f) Done = omega arith
bodies g q t (AddToFifo f) _ = let a : body t (withdraw (count_book f.count) (Feed f)) ≤ 0 = body_drawn t (count_book f.count) (Feed f) in omega (arith, a)
bodies g q t (LookForToken f) Yes = omega arith
bodies g q t (LookForToken f) _ = omega arith
bodies g q t (PushToken f v) Done = omega arith
bodies g q t (PushToken f v) _ = omega arith
bodies g q t (TakeFromFifo f) (Task x) = let a : body t (withdraw (count_book f.count) (Feed (record f { job = taken_number x }))) ≤ 0 = body_drawn t (count_book f.count) (Feed (record f { job = taken_number x })) in omega (arith, a)
bodies g q t (TakeFromFifo f) _ = omega arith
bodies g q t (RaiseForAll b) Done = let a : body t (begin_cast b.count b) ≤ 0 = body_begins t b b.count in omega (arith, a)
bodies g q t (RaiseForAll b) _ = omega arith
bodies g q t (PushForAll b) Done = omega arith
bodies g q t (PushForAll b) _ = let a : body t (end_cast b.count b) ≤ 0 = body_undoes t b b.count in omega (arith, a)
bodies g q t (OpenForAll b) (Opened n) = omega arith
bodies g q t (OpenForAll b) _ = omega arith
bodies g q t (GrowCast d) Done = omega arith
bodies g q t (GrowCast d) _ = omega arith
bodies g q t (DealPieces d) Done = omega arith
bodies g q t (DealPieces d) _ = omega arith
bodies g q t (LowerForAll b) Yes = let a : body t (ends_count b.count) ≤ 0 = body_ends t b.count in omega (arith, a)
bodies g q t (LowerForAll b) _ = omega arith
bodies g q t (RaiseCount n) Done = body_raised t n
bodies g q t (RaiseCount n) _ = omega arith
bodies g q t (GrowCall n) Done = omega arith
bodies g q t (GrowCall n) _ = omega arith
bodies g q t (LookQueue n) Yes = omega arith
bodies g q t (LookQueue n) _ = omega arith
bodies g q t (PushJob n v) Done = omega arith
bodies g q t (PushJob n v) e = body_unpushed t n
bodies g q t (TellNews n v) (Wakes k) = let a : body_move t (walk g q (plan_pool n) k 0 (after_news n)) ≤ 0 = body_walk t g q (plan_pool n) k 0 (after_news n) in omega (arith, a)
bodies g q t (TellNews n v) _ = omega arith
bodies g q t (WakeWorker k) Yes = omega arith
bodies g q t (WakeWorker k) _ = omega arith
bodies g q t (UnlockWoken k) e = let a : body_move t (walk g q k.pool k.owed (k.worker + 1) k.then) ≤ 0 = body_walk t g q k.pool k.owed (k.worker + 1) k.then in omega (arith, a)
bodies g q t (TakeResult o f) (Found d) = omega arith
bodies g q t (TakeResult o f) _ = omega arith
bodies g q t (LowerCount r PoolValue n) Yes = let a : body_move t (settle_count g q r n) ≤ body_then t n = body_count t g q r n in omega (arith, a)
bodies g q t (LowerCount r Body n) Yes = let a : body_move t (settle_count g q r n) ≤ body_then t n = body_count t g q r n in omega (arith, a)
bodies g q t (LowerCount r (OfJob u) n) Yes = let a : body_move t (settle_count g q r n) ≤ body_then t n = body_count t g q r n in omega (arith, a)
bodies g q t (LowerCount r PoolValue n) _ = let a : body_move t (finish q n) ≤ 0 = body_finish t q n in omega (arith, a)
bodies g q t (LowerCount r Body n) _ = let a : body_move t (finish q n) ≤ 0 = body_finish t q n in omega (arith, a)
bodies g q t (LowerCount r (OfJob u) n) _ = let a : body_move t (finish q n) ≤ 0 = body_finish t q n in omega (arith, a)
bodies g q t (StoreResult i o d) e = let a : body_move t (Stay (set_call i o Resume)) ≤ 0 = body_set t i o Resume in omega (arith, a)
bodies g q t (SetLatch k) Yes = omega arith
bodies g q t (SetLatch k) _ = let a : body_move t (after_set g q k k.latch) ≤ body_then t k.then = body_settled t g q k k.latch in omega (arith, a)
bodies g q t (UnlockSettled k) e = let a : body_move t (after_set g q k k.latch) ≤ body_then t k.then = body_settled t g q k k.latch in omega (arith, a)
bodies g q t (SetLockLatch c n) e = let a : body_move t (finish q n) ≤ 0 = body_finish t q n in omega (arith, a)
bodies g q t (GrowScope o) Done = omega arith
bodies g q t (GrowScope o) _ = omega arith
bodies g q t (OpenSlot x) Done = let a : body t (after_slot x) ≤ plan_body t x = body_slot t x in omega (arith, a)
bodies g q t (OpenSlot x) _ = omega arith
bodies g q t _ e = omega arith

pub land_bodies : (t : ℕ) (g : Move) (fs : List Place) → all_bodies t (after_move g fs) ≤ body_move t g + bodies_in t fs
land_bodies t (Stay y) fs = omega arith
land_bodies t (HandIn y token) fs = omega arith
land_bodies t (Mark y b m) fs = omega arith
land_bodies t (Enter f y) fs = omega arith
land_bodies t (StartRun f a) fs = omega arith
land_bodies t Back [] = omega arith
land_bodies t Back (f ∷ fs) = omega arith
land_bodies t (HandBack n) [] = omega arith
land_bodies t (Discard n) [] = omega arith
land_bodies t (HandBack n) (f ∷ fs) = omega arith
land_bodies t (Discard n) (f ∷ fs) = omega arith
land_bodies t (HandAllBack b) [] = omega arith
land_bodies t (HandAllBack b) (f ∷ fs) = omega arith

-- the end of a run leads to no more
body_on : (s : ℕ) (f : Place) (e : Ending) → body s (goes_on f e) ≤ body s f
body_on s (FirstSide o a) Fine = omega arith
body_on s (FirstSide o a) Fault = omega arith
body_on s (SecondSide o) e = omega arith
body_on s (ScopeBody o) e = omega arith
body_on s (AtOnce p t) e = omega arith
body_on s f e = omega arith

pub closed_body : (s t : ℕ) (k : JobKind) (e : Ending) (fs : List Place) → all_bodies s (after_close t k e fs) ≤ bodies_in s fs
closed_body s t (Detached p) e fs = omega arith
closed_body s t (Stored c o) e fs = omega arith
closed_body s t (Scoped c o) e fs = omega arith
closed_body s t (PieceOf c o) e fs = omega arith
closed_body s t Direct e [] = omega arith
closed_body s t (TokenOf i9 b8) e [] = omega arith
closed_body s t (BodyOf c9 o9) e [] = omega arith
closed_body s t (WholeOf c9 o9) e [] = omega arith
closed_body s t Direct e (f ∷ fs) = let a : body s (goes_on f e) ≤ body s f = body_on s f e in omega (arith, a)
closed_body s t (TokenOf i9 b8) e (f ∷ fs) = let a : body s (goes_on f e) ≤ body s f = body_on s f e in omega (arith, a)
closed_body s t (BodyOf c9 o9) e (f ∷ fs) = let a : body s (goes_on f e) ≤ body s f = body_on s f e in omega (arith, a)
closed_body s t (WholeOf c9 o9) e (f ∷ fs) = let a : body s (goes_on f e) ≤ body s f = body_on s f e in omega (arith, a)
