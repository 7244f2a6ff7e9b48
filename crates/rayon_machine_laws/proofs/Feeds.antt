-- how often a stack has in hand what its calls have made and not queued: that is still as they made it
--
-- The table is `fed`. So a job in a FIFO list has not left its call, which can take it back (`is_left` of Located).
use Rattle.rayon_machine_places.specs.declared.place.Mark.TheVariants.{Counted, Queued, Returned, Numbered, Dealt, Unnumbered}
use Rattle.rayon_machine_places.specs.declared.place.Pieces.{Pieces}
use Rattle.rayon_machine_places.specs.declared.place.Feeding.{Feeding}
use Rattle.rayon_machine_places.specs.declared.place.Count.TheVariants.{OfPool, OfScope, OfCast}
use Rattle.rayon_machine_places.specs.declared.place.Count.{Count}
use Rattle.std.proofs.Common.{arith, refl, sym, subst}
use Rattle.std.specs.Prelude.{ℕ, Bool, true, false, ◌&&◌, ◌+◌, ◌-◌, ◌==◌, ◌≤◌, nat_lt, if◌then◌else◌, List, [], ◌∷◌, ◌≡◌, None, Option, Some}
use Rattle.rayon_machine_places.specs.declared.place.Party.{Party}
use Rattle.rayon_machine_places.specs.declared.place.Party.TheVariants.{Worker, Caller}
use Rattle.rayon_machine_places.specs.declared.place.Target.{Target}
use Rattle.rayon_machine_places.specs.declared.place.Target.TheVariants.{Termination, Answer}
use Rattle.rayon_machine_places.specs.declared.place.Latch.{Latch}
use Rattle.rayon_machine_places.specs.declared.place.Latch.TheVariants.{Terminate, OfCall}
use Rattle.rayon_machine_places.specs.declared.place.Rounds.{Rounds}
use Rattle.rayon_machine_places.specs.declared.place.Rounds.TheVariants.{Failed, Announced}
use Rattle.rayon_machine_places.specs.declared.place.Plan.TheVariants.{Detach, Here, Send, Fork, Feed, Open, Enter, Gather}
use Rattle.rayon_machine_places.specs.declared.place.Then.{Then}
use Rattle.rayon_machine_places.specs.declared.place.Then.TheVariants.{BeginFound, LeaveWait, Resume, Await, RunFirst, Answers, Missing, Ran, GiveBack, Called, Gathers}
use Rattle.rayon_machine_places.specs.declared.place.Taken.TheVariants.{Plain, Token}
use Rattle.rayon_machine_places.specs.declared.place.Place.{Place}
use Rattle.rayon_machine_places.specs.declared.place.Place.TheVariants.{ProbeWorking, PopWorking, TakeCastWorking, ProbeIdle, PopIdle, TakeCastIdle, PickVictim, StealFrom, PopInjected, AnnounceSelf, GetSleepy, FallAsleep, LoadCounters, AddSleeping, LookAtCast, LookAtInjector}
use Rattle.rayon_machine_places.specs.declared.place.Place.TheVariants.{WakeUp, LeaveSearch, JoinProbe, JoinPop, JoinTakeCast, YieldPop, YieldTakeCast, YieldPick, YieldSteal, YieldPopInjected, LocalPop, LocalTakeCast, BeginTask, BeginHere, RaiseCount, GrowCall, LookQueue}
use Rattle.rayon_machine_places.specs.declared.place.Place.TheVariants.{PushJob, TellNews, LockToWake, WakeWorker, UnlockWoken, TakeResult, LowerCount, StoreResult, SetLatch, UnlockSettled, SecondSide, AddToFifo, LookForToken, PushToken, TakeFromFifo, LockToSettle, WakeSettled}
use Rattle.rayon_machine_places.specs.declared.place.Place.TheVariants.{RaiseForAll, PushForAll, LowerForAll, GrowScope, OpenSlot, CloseSlot, SetLockLatch, OpenForAll, CloseForAll, GrowCast, DealPieces}
use Rattle.rayon_machine_places.specs.declared.place.Move.{Move}
use Rattle.rayon_machine_places.specs.declared.place.Move.TheVariants.{Stay, Enter, StartRun, Back, HandBack, Discard, HandIn, Mark, HandAllBack}
use Rattle.rayon_machine_places.specs.declared.act.Seen.{Seen}
use Rattle.rayon_machine_places.specs.declared.act.Seen.TheVariants.{Done, Yes, Task, Jec, Word, Start, Wakes, Begun, Found, Handed, Opened}
use Rattle.rayon_machine_places.specs.declared.shape.PoolShape.{PoolShape}
use Rattle.rayon_machine_places.specs.declared.place.Wait.{Wait}
use Rattle.rayon_machine_places.specs.declared.place.Settling.{Settling}
use Rattle.rayon_machine_places.specs.Places.{same_party, own_pool, own_index, plan_pool, after_wait, finish, walk, settle, after_set, after_found, after_news, set_call, next_victim, not_self, after_failure, next_steal, next_yield, next_of, is_taken, after_raise, after_push}
use Rattle.rayon_machine_places.specs.Places.{settle_count, begin_feed, begin_cast, end_cast, ends_count, after_slot, withdraw, plan_book, count_book, taken_number}
use Rattle.rayon_machine_runs.specs.World.{Stack, World}
use Rattle.rayon_machine_runs.specs.Steps.{put_stack, after_move, is_piece}
use Rattle.rayon_machine_laws.specs.Once.{one, hand_rest, hand_then}
use Rattle.rayon_machine_laws.proofs.Frame.{same_party_true}
use Rattle.rayon_machine_laws.proofs.Hands.{hand, held_in, held, hand_plan}
use Rattle.rayon_machine_places.specs.declared.place.Plan.{Plan}
use Rattle.rayon_machine_places.specs.declared.place.Taken.{Taken}

-- the jobs of a refused call. One that it has taken back out of a FIFO list is no longer as it was made
abbrev pub fed_back : ℕ → Plan → ℕ
fed_back t (Feed f) = one (t == f.token)
fed_back t n = hand_plan t n

abbrev pub fed_then : ℕ → Then → ℕ
fed_then t (RunFirst o a) = one (t == a)
fed_then t (GiveBack n) = fed_back t n
fed_then t _ = 0

-- how often a place has job t so
abbrev pub fed : ℕ → Place → ℕ
fed t (RaiseCount n) = hand_plan t n
fed t (GrowCall n) = hand_plan t n
fed t (GrowScope o) = one (t == o.job)
fed t (OpenSlot n) = hand_plan t n
fed t (CloseSlot n) = fed_back t n
fed t (LookQueue n) = hand_plan t n
fed t (PushJob n e) = hand_plan t n
fed t (AddToFifo f) = one (t == f.job) + one (t == f.token)
fed t (LookForToken f) = one (t == f.token)
fed t (PushToken f e) = one (t == f.token)
fed t (TakeFromFifo f) = one (t == f.token)
fed t (RaiseForAll c) = one (is_piece c t)
fed t (OpenForAll c) = one (is_piece c t)
fed t (PushForAll c) = one (is_piece c t)
fed t (CloseForAll c) = one (is_piece c t)
fed t (GrowCast g) = one (is_piece g.pieces t)
fed t (DealPieces g) = one (is_piece g.pieces t)
fed t (LowerForAll c) = one (is_piece c t)
fed t (TellNews n e) = hand_rest t n
fed t (LockToWake k) = fed_then t k.then
fed t (WakeWorker k) = fed_then t k.then
fed t (UnlockWoken k) = fed_then t k.then
fed t (LowerCount p s n) = fed_then t n
fed t (SetLatch k) = fed_then t k.then
fed t (LockToSettle k) = fed_then t k.then
fed t (WakeSettled k) = fed_then t k.then
fed t (UnlockSettled k) = fed_then t k.then
fed t (SetLockLatch c n) = fed_then t n
fed t _ = 0

abbrev pub fed_in : ℕ → List Place → ℕ
fed_in t [] = 0
fed_in t (f ∷ fs) = fed t f + fed_in t fs

abbrev pub all_fed : ℕ → Stack → ℕ
all_fed t k = fed t k.top + fed_in t k.below

abbrev pub fed_move : ℕ → Move → ℕ
fed_move t (Stay y) = fed t y
fed_move t (HandIn y token) = fed t y
fed_move t (Mark y c Returned) = fed t y + one (is_piece c t)
fed_move t (Mark y c m) = fed t y
fed_move t (Enter f y) = fed t y + fed t f
fed_move t (StartRun f a) = fed t f
fed_move t Back = 0
fed_move t (HandBack n) = fed_back t n
fed_move t (Discard n) = 0
fed_move t (HandAllBack c) = one (is_piece c t)

fed_back_most : (t : ℕ) (n : Plan) → fed_back t n ≤ hand_plan t n
fed_back_most t (Feed f) = omega arith
fed_back_most t _ = omega arith

fed_rest_most : (t : ℕ) (n : Plan) → hand_rest t n ≤ hand_plan t n
fed_rest_most t (Feed f) = omega arith
fed_rest_most t (Fork o a) = omega arith
fed_rest_most t _ = omega arith

fed_hand_then : (t : ℕ) (n : Then) → fed_then t n ≤ hand_then t n
fed_hand_then t (GiveBack n) = fed_back_most t n
fed_hand_then t _ = omega arith

-- what is so held is in hand
fed_hand : (t : ℕ) (x : Place) → fed t x ≤ hand t x
fed_hand t (CloseSlot n) = fed_back_most t n
fed_hand t (LockToWake k) = fed_hand_then t k.then
fed_hand t (WakeWorker k) = fed_hand_then t k.then
fed_hand t (UnlockWoken k) = fed_hand_then t k.then
fed_hand t (LowerCount p s n) = fed_hand_then t n
fed_hand t (SetLatch k) = fed_hand_then t k.then
fed_hand t (LockToSettle k) = fed_hand_then t k.then
fed_hand t (WakeSettled k) = fed_hand_then t k.then
fed_hand t (UnlockSettled k) = fed_hand_then t k.then
fed_hand t (SetLockLatch c n) = fed_hand_then t n
fed_hand t _ = omega arith

fed_held_in : (t : ℕ) (fs : List Place) → fed_in t fs ≤ held_in t fs
fed_held_in t [] = omega arith
fed_held_in t (f ∷ fs) = let a : fed t f ≤ hand t f = fed_hand t f in let b : fed_in t fs ≤ held_in t fs = fed_held_in t fs in omega (arith, a, b)

pub fed_held : (t : ℕ) (k : Stack) → all_fed t k ≤ held t k
fed_held t k = let a : fed t k.top ≤ hand t k.top = fed_hand t k.top in let b : fed_in t k.below ≤ held_in t k.below = fed_held_in t k.below in omega (arith, a, b)

fed_begun : (t : ℕ) (f : Feeding) (k : Count) → fed t (begin_feed k f) ≤ one (t == f.job) + one (t == f.token)
fed_begun t f (OfPool p) = omega arith
fed_begun t f (OfScope c o) = omega arith
fed_begun t f (OfCast c o) = omega arith

fed_raised : (t : ℕ) (n : Plan) → fed_move t (after_raise n) ≤ hand_plan t n
fed_raised t (Detach r u) = omega arith
fed_raised t (Here r u) = omega arith
fed_raised t (Send o) = omega arith
fed_raised t (Fork o a) = omega arith
fed_raised t (Feed f) = fed_begun t f f.count
fed_raised t (Gather g) = omega arith
fed_raised t (Open o) = omega arith
fed_raised t (Enter e) = omega arith

fed_left : (t : ℕ) (g : Target) → fed_move t (Stay (after_wait g)) ≤ 0
fed_left t Termination = omega arith
fed_left t (Answer o f) = omega arith

fed_finish : (t : ℕ) (q : Party) (n : Then) → fed_move t (finish q n) ≤ fed_then t n
fed_finish t q (BeginFound g u) = omega arith
fed_finish t q (LeaveWait g) = fed_left t g
fed_finish t q Resume = omega arith
fed_finish t q Called = omega arith
fed_finish t (Worker a b) (Await o) = omega arith
fed_finish t (Caller c) (Await o) = omega arith
fed_finish t (Worker a b) (Gathers o) = omega arith
fed_finish t (Caller c) (Gathers o) = omega arith
fed_finish t q (RunFirst o a) = omega arith
fed_finish t q (Answers o f e) = omega arith
fed_finish t q (Missing o f) = omega arith
fed_finish t q (Ran u e) = omega arith
fed_finish t q (GiveBack n) = omega arith

fed_walk : (t : ℕ) (g : PoolShape) (q : Party) (r k i : ℕ) (n : Then) → fed_move t (walk g q r k i n) ≤ fed_then t n
fed_walk t g q r k i n = by (nat_lt 0 k && nat_lt i g.workers)
  where
    by : (z : Bool) → fed_move t (if z then Stay (LockToWake (record { pool = r; owed = k; worker = i; then = n })) else finish q n) ≤ fed_then t n
    by true = omega arith
    by false = fed_finish t q n

fed_settle : (t : ℕ) (g : PoolShape) (q : Party) (r i : ℕ) (n : Then) → fed_move t (settle g q r i n) ≤ fed_then t n
fed_settle t g q r i n = by (nat_lt i g.workers)
  where
    by : (z : Bool) → fed_move t (if z then Stay (SetLatch (record { latch = Terminate; pool = r; worker = i; then = n })) else finish q n) ≤ fed_then t n
    by true = omega arith
    by false = fed_finish t q n

fed_settled : (t : ℕ) (g : PoolShape) (q : Party) (k : Settling) (l : Latch) → fed_move t (after_set g q k l) ≤ fed_then t k.then
fed_settled t g q k Terminate = fed_settle t g q k.pool (k.worker + 1) k.then
fed_settled t g q k (OfCall i) = fed_finish t q k.then

fed_if : (t n : ℕ) (x y : Move) (z : Bool) → fed_move t x ≤ n → fed_move t y ≤ n → fed_move t (if z then x else y) ≤ n
fed_if t n x y true a b = a
fed_if t n x y false a b = b

fed_steal : (t : ℕ) (g : PoolShape) (q : Party) (k : Wait) (n : ℕ) → fed_move t (Stay (next_steal g q k n)) ≤ 0
fed_steal t g q k n = by (n == 0)
  where
    by : (z : Bool) → fed_move t (Stay (if z then PopInjected k else StealFrom (record k { victim = not_self g.workers (own_index q) (next_victim g.workers k.victim) }) (n - 1))) ≤ 0
    by true = omega arith
    by false = omega arith

fed_yield : (t : ℕ) (g : PoolShape) (q : Party) (v n : ℕ) → fed_move t (Stay (next_yield g q v n)) ≤ 0
fed_yield t g q v n = by (n == 0)
  where
    by : (z : Bool) → fed_move t (Stay (if z then YieldPopInjected else YieldSteal (not_self g.workers (own_index q) (next_victim g.workers v)) (n - 1))) ≤ 0
    by true = omega arith
    by false = omega arith

fed_failed : (t : ℕ) (g : PoolShape) (k : Wait) (r : Rounds) → fed_move t (Stay (after_failure g k r)) ≤ 0
fed_failed t g k (Failed n) = by (nat_lt n g.limit)
  where
    by : (z : Bool) → fed_move t (Stay (if z then ProbeIdle (record k { rounds = Failed (n + 1) }) else AnnounceSelf k)) ≤ 0
    by true = omega arith
    by false = omega arith
fed_failed t g k Announced = omega arith

fed_goes : (t : ℕ) (n : Plan) → fed_then t (after_news n) ≤ hand_rest t n
fed_goes t (Detach r u) = omega arith
fed_goes t (Here r u) = omega arith
fed_goes t (Send o) = omega arith
fed_goes t (Fork o a) = omega arith
fed_goes t (Feed f) = omega arith
fed_goes t (Gather g) = omega arith
fed_goes t (Open o) = omega arith
fed_goes t (Enter e) = omega arith

fed_found : (t : ℕ) (g : Target) (o : Option Taken) → fed_then t (after_found g o) ≤ 0
fed_found t g None = omega arith
fed_found t g (Some u) = omega arith

fed_set : (t : ℕ) (c : ℕ) (o : Party) (n : Then) → fed_move t (Stay (set_call c o n)) ≤ fed_then t n
fed_set t c (Worker a b) n = omega arith
fed_set t c (Caller i) n = omega arith

fed_zero : (t : ℕ) (g : PoolShape) (q : Party) (k : Count) (n : Then) → fed_move t (settle_count g q k n) ≤ fed_then t n
fed_zero t g q (OfPool p) n = fed_settle t g q p 0 n
fed_zero t g q (OfScope c o) n = fed_set t c o n
fed_zero t g q (OfCast c o) n = fed_set t c o n

fed_ends : (t : ℕ) (k : Count) → fed t (ends_count k) ≤ 0
fed_ends t (OfPool p) = omega arith
fed_ends t (OfScope c o) = fed_set t c o Resume
fed_ends t (OfCast c o) = fed_set t c o Resume

fed_begins : (t : ℕ) (c : Pieces) (k : Count) → fed t (begin_cast k c) ≤ one (is_piece c t)
fed_begins t c (OfPool p) = omega arith
fed_begins t c (OfScope n o) = omega arith
fed_begins t c (OfCast n o) = omega arith

fed_undoes : (t : ℕ) (c : Pieces) (k : Count) → fed t (end_cast k c) ≤ one (is_piece c t)
fed_undoes t c (OfPool p) = omega arith
fed_undoes t c (OfScope n o) = omega arith
fed_undoes t c (OfCast n o) = omega arith

fed_slot : (t : ℕ) (n : Plan) → fed t (after_slot n) ≤ hand_plan t n
fed_slot t (Feed f) = omega arith
fed_slot t (Detach r u) = omega arith
fed_slot t (Here r u) = omega arith
fed_slot t (Send o) = omega arith
fed_slot t (Fork o a) = omega arith
fed_slot t (Open o) = omega arith
fed_slot t (Enter e) = omega arith
fed_slot t (Gather g) = omega arith

fed_drawn : (t : ℕ) (o : Option ℕ) (n : Plan) → fed t (withdraw o n) ≤ fed_back t n
fed_drawn t None n = omega arith
fed_drawn t (Some c) n = omega arith

fed_pushed : (t : ℕ) (n : Plan) → fed_move t (Stay (after_push n)) ≤ hand_plan t n
fed_pushed t n = let a : fed t (withdraw (plan_book n) n) ≤ fed_back t n = fed_drawn t (plan_book n) n in let b : fed_back t n ≤ hand_plan t n = fed_back_most t n in omega (arith, a, b)

-- over the whole table: no move leads to more of them
pub feds : (g : PoolShape) (q : Party) (t : ℕ) (x : Place) (e : Seen) → fed_move t (next_of g q x e) ≤ fed t x
feds g q t (ProbeWorking k) Yes = let a : fed_move t (Stay (after_wait k.target)) ≤ 0 = fed_left t k.target in omega (arith, a)
feds g q t (ProbeWorking k) _ = omega arith
feds g q t (PopWorking k) (Task u) = omega arith
feds g q t (PopWorking k) _ = omega arith
feds g q t (TakeCastWorking k) (Task u) = omega arith
feds g q t (TakeCastWorking k) _ = omega arith
feds g q t (ProbeIdle k) Yes = omega arith
feds g q t (ProbeIdle k) _ = omega arith
feds g q t (PopIdle k) (Task u) = omega arith
feds g q t (PopIdle k) _ = omega arith
feds g q t (TakeCastIdle k) (Task u) = omega arith
feds g q t (TakeCastIdle k) _ = let a : fed_move t (if g.workers == 1 then Stay (PopInjected k) else Stay (PickVictim k)) ≤ 0 = fed_if t 0 (Stay (PopInjected k)) (Stay (PickVictim k)) (g.workers == 1) (omega arith) (omega arith) in omega (arith, a)
feds g q t (PickVictim k) (Start v) = omega arith
feds g q t (PickVictim k) _ = omega arith
feds g q t (StealFrom k n) (Task u) = omega arith
feds g q t (StealFrom k n) _ = let a : fed_move t (Stay (next_steal g q k n)) ≤ 0 = fed_steal t g q k n in omega (arith, a)
feds g q t (PopInjected k) (Task u) = omega arith
feds g q t (PopInjected k) _ = let a : fed_move t (Stay (after_failure g k k.rounds)) ≤ 0 = fed_failed t g k k.rounds in omega (arith, a)
feds g q t (AnnounceSelf k) (Jec j) = omega arith
feds g q t (AnnounceSelf k) _ = omega arith
feds g q t (GetSleepy k) Done = omega arith
feds g q t (GetSleepy k) _ = omega arith
feds g q t (FallAsleep k) Done = omega arith
feds g q t (FallAsleep k) _ = omega arith
feds g q t (AddSleeping k) Done = omega arith
feds g q t (AddSleeping k) _ = omega arith
feds g q t (LookAtCast k) Yes = omega arith
feds g q t (LookAtCast k) _ = omega arith
feds g q t (LookAtInjector k) Yes = omega arith
feds g q t (LookAtInjector k) _ = omega arith
feds g q t (LoadCounters k) (Word a1 b1 j) = let a : fed_move t (if j == k.kept then Stay (AddSleeping (record k { sleeping = a1; inactive = b1 })) else Stay (WakeUp (record k { rounds = Failed g.limit }))) ≤ 0 =
    fed_if t 0 (Stay (AddSleeping (record k { sleeping = a1; inactive = b1 }))) (Stay (WakeUp (record k { rounds = Failed g.limit }))) (j == k.kept) (omega arith) (omega arith) in omega (arith, a)
feds g q t (LoadCounters k) _ = omega arith
feds g q t (LeaveSearch k) (Wakes n) = let a : fed_move t (walk g q (own_pool q) n 0 (after_found k.target k.found)) ≤ fed_then t (after_found k.target k.found) = fed_walk t g q (own_pool q) n 0 (after_found k.target k.found) in let b : fed_then t (after_found k.target k.found) ≤ 0 =
    fed_found t k.target k.found in omega (arith, a, b)
feds g q t (LeaveSearch k) _ = omega arith
feds g q t (JoinProbe o) Yes = omega arith
feds g q t (JoinProbe o) _ = omega arith
feds g q t (JoinPop o) (Task u) = let a : fed_move t (if is_taken u o.job then Enter (SecondSide o) (BeginHere o.job) else Enter (JoinProbe o) (BeginTask u)) ≤ 0 =
    fed_if t 0 (Enter (SecondSide o) (BeginHere o.job)) (Enter (JoinProbe o) (BeginTask u)) (is_taken u o.job) (omega arith) (omega arith) in omega (arith, a)
feds g q t (JoinPop o) _ = omega arith
feds g q t (JoinTakeCast o) (Task u) = omega arith
feds g q t (JoinTakeCast o) _ = omega arith
feds g q t YieldPop (Task u) = omega arith
feds g q t YieldPop _ = omega arith
feds g q t YieldPopInjected (Task u) = omega arith
feds g q t YieldPopInjected _ = omega arith
feds g q t LocalPop (Task u) = omega arith
feds g q t LocalPop _ = omega arith
feds g q t LocalTakeCast (Task u) = omega arith
feds g q t LocalTakeCast _ = omega arith
feds g q t YieldTakeCast (Task u) = omega arith
feds g q t YieldTakeCast _ = let a : fed_move t (if g.workers == 1 then Stay YieldPopInjected else Stay YieldPick) ≤ 0 = fed_if t 0 (Stay YieldPopInjected) (Stay YieldPick) (g.workers == 1) (omega arith) (omega arith) in omega (arith, a)
feds g q t YieldPick (Start v) = omega arith
feds g q t YieldPick _ = omega arith
feds g q t (YieldSteal v n) (Task u) = omega arith
feds g q t (YieldSteal v n) _ = let a : fed_move t (Stay (next_yield g q v n)) ≤ 0 = fed_yield t g q v n in omega (arith, a)
feds g q t (BeginTask (Plain u)) (Begun d) = omega arith
feds g q t (BeginTask (Plain u)) _ = omega arith
feds g q t (BeginTask (Token k i b8)) (Handed u d) = omega arith
feds g q t (BeginTask (Token k i b8)) _ = omega arith
feds g q t (AddToFifo f) Done = omega arith
feds g q t (AddToFifo f) _ = fed_pushed t (Feed f)
feds g q t (LookForToken f) Yes = omega arith
feds g q t (LookForToken f) _ = omega arith
feds g q t (PushToken f v) Done = omega arith
feds g q t (PushToken f v) _ = omega arith
feds g q t (TakeFromFifo f) (Task x) = fed_drawn t (count_book f.count) (Feed (record f { job = taken_number x }))
feds g q t (TakeFromFifo f) _ = omega arith
feds g q t (RaiseForAll c) Done = fed_begins t c c.count
feds g q t (OpenForAll c) (Opened n) = omega arith
feds g q t (OpenForAll c) _ = omega arith
feds g q t (GrowCast b) Done = omega arith
feds g q t (GrowCast b) _ = omega arith
feds g q t (DealPieces b) Done = omega arith
feds g q t (DealPieces b) _ = omega arith
feds g q t (RaiseForAll c) _ = omega arith
feds g q t (PushForAll c) Done = omega arith
feds g q t (PushForAll c) _ = fed_undoes t c c.count
feds g q t (LowerForAll c) Yes = let a : fed t (ends_count c.count) ≤ 0 = fed_ends t c.count in omega (arith, a)
feds g q t (LowerForAll c) _ = omega arith
feds g q t (RaiseCount n) Done = fed_raised t n
feds g q t (RaiseCount n) _ = fed_back_most t n
feds g q t (GrowCall n) Done = omega arith
feds g q t (GrowCall n) _ = fed_back_most t n
feds g q t (LookQueue n) Yes = omega arith
feds g q t (LookQueue n) _ = omega arith
feds g q t (PushJob n v) Done = fed_rest_most t n
feds g q t (PushJob n v) e = fed_pushed t n
feds g q t (TellNews n v) (Wakes k) = let a : fed_move t (walk g q (plan_pool n) k 0 (after_news n)) ≤ fed_then t (after_news n) = fed_walk t g q (plan_pool n) k 0 (after_news n) in let b : fed_then t (after_news n) ≤ hand_rest t n = fed_goes t n in omega (arith, a, b)
feds g q t (TellNews n v) _ = omega arith
feds g q t (WakeWorker k) Yes = omega arith
feds g q t (WakeWorker k) _ = omega arith
feds g q t (UnlockWoken k) e = let a : fed_move t (walk g q k.pool k.owed (k.worker + 1) k.then) ≤ fed_then t k.then = fed_walk t g q k.pool k.owed (k.worker + 1) k.then in omega (arith, a)
feds g q t (TakeResult o f) (Found d) = omega arith
feds g q t (TakeResult o f) _ = omega arith
feds g q t (LowerCount k s n) Yes = fed_zero t g q k n
feds g q t (LowerCount r s n) _ = fed_finish t q n
feds g q t (StoreResult i o d) e = let a : fed_move t (Stay (set_call i o Resume)) ≤ 0 = fed_set t i o Resume in omega (arith, a)
feds g q t (GrowScope o) Done = omega arith
feds g q t (GrowScope o) _ = omega arith
feds g q t (OpenSlot n) Done = fed_slot t n
feds g q t (OpenSlot n) _ = fed_back_most t n
feds g q t (CloseSlot n) e = omega arith
feds g q t (SetLockLatch c n) e = fed_finish t q n
feds g q t (SetLatch k) Yes = omega arith
feds g q t (SetLatch k) _ = let a : fed_move t (after_set g q k k.latch) ≤ fed_then t k.then = fed_settled t g q k k.latch in omega (arith, a)
feds g q t (UnlockSettled k) e = let a : fed_move t (after_set g q k k.latch) ≤ fed_then t k.then = fed_settled t g q k k.latch in omega (arith, a)
feds g q t _ e = omega arith

land_fed : (t : ℕ) (g : Move) (fs : List Place) → all_fed t (after_move g fs) ≤ fed_move t g + fed_in t fs
land_fed t (Stay y) fs = omega arith
land_fed t (HandIn y token) fs = omega arith
land_fed t (Mark y c Counted) fs = omega arith
land_fed t (Mark y c (Numbered n)) fs = omega arith
land_fed t (Mark y c Queued) fs = omega arith
land_fed t (Mark y c Dealt) fs = omega arith
land_fed t (Mark y c Unnumbered) fs = omega arith
land_fed t (Mark y c Returned) fs = omega arith
land_fed t (Enter f y) fs = omega arith
land_fed t (StartRun f a) fs = omega arith
land_fed t Back [] = omega arith
land_fed t Back (f ∷ fs) = omega arith
land_fed t (HandBack n) [] = omega arith
land_fed t (Discard n) [] = omega arith
land_fed t (HandAllBack b9) [] = omega arith
land_fed t (HandBack n) (f ∷ fs) = omega arith
land_fed t (Discard n) (f ∷ fs) = omega arith
land_fed t (HandAllBack b9) (f ∷ fs) = omega arith

-- no stack has more of them after a move
pub fed_after : (g : PoolShape) (q : Party) (t : ℕ) (x : Place) (fs : List Place) (e : Seen) → all_fed t (after_move (next_of g q x e) fs) ≤ fed t x + fed_in t fs
fed_after g q t x fs e = let a : all_fed t (after_move (next_of g q x e) fs) ≤ fed_move t (next_of g q x e) + fed_in t fs = land_fed t (next_of g q x e) fs in let b : fed_move t (next_of g q x e) ≤ fed t x = feds g q t x e in omega (arith, a, b)

-- the stacks after one party has another, which has no more of them
pub fed_stacks : (w : World) (q : Party) (k : Stack) → ((t : ℕ) → all_fed t k ≤ all_fed t (w.stack q)) → (r : Party) (t : ℕ) → all_fed t (put_stack w.stack q k r) ≤ all_fed t (w.stack r)
fed_stacks w q k h r t = by (same_party r q) refl
  where
    by : (z : Bool) → same_party r q ≡ z → all_fed t (if z then k else w.stack r) ≤ all_fed t (w.stack r)
    by true z = subst (λ s. all_fed t k ≤ all_fed t (w.stack s)) (sym (same_party_true r q z)) (h t)
    by false z = omega arith
