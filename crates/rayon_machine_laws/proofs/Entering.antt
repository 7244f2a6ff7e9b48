-- no move leads to a place of a spawn into a scope but from another of it
use Rattle.rayon_machine_places.specs.declared.place.Pieces.{Pieces}
use Rattle.rayon_machine_places.specs.declared.place.Feeding.{Feeding}
use Rattle.rayon_machine_places.specs.declared.place.Count.TheVariants.{OfPool, OfScope, OfCast}
use Rattle.rayon_machine_places.specs.declared.place.Count.{Count}
use Rattle.std.proofs.Common.{arith}
use Rattle.std.specs.Prelude.{ℕ, Bool, true, false, ◌&&◌, ◌+◌, ◌-◌, ◌==◌, ◌≤◌, nat_lt, if◌then◌else◌, None, Option, Some}
use Rattle.rayon_machine_places.specs.declared.place.Party.{Party}
use Rattle.rayon_machine_places.specs.declared.place.Party.TheVariants.{Worker, Caller}
use Rattle.rayon_machine_places.specs.declared.place.Target.{Target}
use Rattle.rayon_machine_places.specs.declared.place.Target.TheVariants.{Termination, Answer}
use Rattle.rayon_machine_places.specs.declared.place.Latch.{Latch}
use Rattle.rayon_machine_places.specs.declared.place.Latch.TheVariants.{Terminate, OfCall}
use Rattle.rayon_machine_places.specs.declared.place.Rounds.{Rounds}
use Rattle.rayon_machine_places.specs.declared.place.Rounds.TheVariants.{Failed, Announced}
use Rattle.rayon_machine_places.specs.declared.place.Plan.TheVariants.{Detach, Here, Send, Fork, Feed, Open, Enter, Gather}
use Rattle.rayon_machine_places.specs.declared.place.Then.{Then}
use Rattle.rayon_machine_places.specs.declared.place.Then.TheVariants.{BeginFound, LeaveWait, Resume, Await, RunFirst, Answers, Missing, Ran, GiveBack, Called, Gathers}
use Rattle.rayon_machine_places.specs.declared.place.Taken.TheVariants.{Plain, Token}
use Rattle.rayon_machine_places.specs.declared.place.Place.{Place}
use Rattle.rayon_machine_places.specs.declared.place.Place.TheVariants.{ProbeWorking, PopWorking, TakeCastWorking, ProbeIdle, PopIdle, TakeCastIdle, PickVictim, StealFrom, PopInjected, AnnounceSelf, GetSleepy, FallAsleep, LoadCounters, AddSleeping, LookAtCast, LookAtInjector}
use Rattle.rayon_machine_places.specs.declared.place.Place.TheVariants.{WakeUp, LeaveSearch, JoinProbe, JoinPop, JoinTakeCast, YieldPop, YieldTakeCast, YieldPick, YieldSteal, YieldPopInjected, LocalPop, LocalTakeCast, BeginTask, BeginHere, RaiseCount, GrowCall, LookQueue}
use Rattle.rayon_machine_places.specs.declared.place.Place.TheVariants.{PushJob, TellNews, LockToWake, WakeWorker, UnlockWoken, TakeResult, LowerCount, StoreResult, SetLatch, UnlockSettled, SecondSide, AddToFifo, LookForToken, PushToken, TakeFromFifo, RaiseForAll, PushForAll}
use Rattle.rayon_machine_places.specs.declared.place.Place.TheVariants.{LowerForAll, GrowScope, OpenSlot, CloseSlot, SetLockLatch, OpenForAll, GrowCast, DealPieces, CloseForAll, LockToSettle, WakeSettled}
use Rattle.rayon_machine_places.specs.declared.place.Move.{Move}
use Rattle.rayon_machine_places.specs.declared.place.Move.TheVariants.{Stay, Enter, HandIn, Mark}
use Rattle.rayon_machine_places.specs.declared.act.Seen.{Seen}
use Rattle.rayon_machine_places.specs.declared.act.Seen.TheVariants.{Done, Yes, Task, Jec, Word, Start, Wakes, Begun, Found, Handed, Opened}
use Rattle.rayon_machine_places.specs.declared.shape.PoolShape.{PoolShape}
use Rattle.rayon_machine_places.specs.declared.place.Wait.{Wait}
use Rattle.rayon_machine_places.specs.declared.place.Settling.{Settling}
use Rattle.rayon_machine_places.specs.Places.{own_pool, own_index, plan_pool, after_wait, finish, walk, settle, after_set, after_found, after_news, set_call, next_victim, not_self, after_failure, next_steal, next_yield, next_of, is_taken, after_raise, after_push, settle_count}
use Rattle.rayon_machine_places.specs.Places.{begin_feed, begin_cast, end_cast, ends_count, after_slot, withdraw, plan_book, count_book, taken_number, plan_count}
use Rattle.rayon_machine_places.specs.declared.place.Plan.{Plan}
use Rattle.rayon_machine_places.specs.declared.place.Taken.{Taken}
use Rattle.rayon_machine_laws.specs.Once.{one}

-- a share of this count is one of this scope's
abbrev pub within : ℕ → Count → ℕ
within m (OfScope c o) = one (m == c)
within m _ = 0

abbrev pub entering_then : ℕ → Then → ℕ
entering_then m (GiveBack n) = within m (plan_count n)
entering_then m _ = 0

-- a place of a spawn, or of a broadcast, into this scope that has not queued what it makes
abbrev pub entering : ℕ → Place → ℕ
entering m (RaiseCount n) = within m (plan_count n)
entering m (GrowCall n) = within m (plan_count n)
entering m (OpenSlot n) = within m (plan_count n)
entering m (CloseSlot n) = within m (plan_count n)
entering m (LookQueue n) = within m (plan_count n)
entering m (PushJob n e) = within m (plan_count n)
entering m (AddToFifo f) = within m f.count
entering m (LookForToken f) = within m f.count
entering m (PushToken f e) = within m f.count
entering m (TakeFromFifo f) = within m f.count
entering m (RaiseForAll c) = within m c.count
entering m (OpenForAll c) = within m c.count
entering m (PushForAll c) = within m c.count
entering m (CloseForAll c) = within m c.count
entering m (LowerForAll c) = within m c.count
entering m (LockToWake k) = entering_then m k.then
entering m (WakeWorker k) = entering_then m k.then
entering m (UnlockWoken k) = entering_then m k.then
entering m (LowerCount p s n) = entering_then m n
entering m (SetLatch k) = entering_then m k.then
entering m (LockToSettle k) = entering_then m k.then
entering m (WakeSettled k) = entering_then m k.then
entering m (UnlockSettled k) = entering_then m k.then
entering m (SetLockLatch c n) = entering_then m n
entering m _ = 0

-- the new top
abbrev pub entering_move : ℕ → Move → ℕ
entering_move m (Stay y) = entering m y
entering_move m (HandIn y token) = entering m y
entering_move m (Mark y b9 m9) = entering m y
entering_move m (Enter f y) = entering m y
entering_move m _ = 0

enter_begun : (m : ℕ) (f : Feeding) (k : Count) → entering m (begin_feed k f) ≤ within m f.count
enter_begun m f (OfPool p) = omega arith
enter_begun m f (OfScope c o) = omega arith
enter_begun m f (OfCast c o) = omega arith

enter_raised : (m : ℕ) (n : Plan) → entering_move m (after_raise n) ≤ within m (plan_count n)
enter_raised m (Detach r u) = omega arith
enter_raised m (Here r u) = omega arith
enter_raised m (Send o) = omega arith
enter_raised m (Fork o a) = omega arith
enter_raised m (Feed f) = enter_begun m f f.count
enter_raised m (Gather g) = omega arith
enter_raised m (Open o) = omega arith
enter_raised m (Enter e) = omega arith

enter_left : (m : ℕ) (g : Target) → entering_move m (Stay (after_wait g)) ≤ 0
enter_left m Termination = omega arith
enter_left m (Answer o f) = omega arith

enter_finish : (m : ℕ) (q : Party) (n : Then) → entering_move m (finish q n) ≤ entering_then m n
enter_finish m q (BeginFound g u) = omega arith
enter_finish m q (LeaveWait g) = enter_left m g
enter_finish m q Resume = omega arith
enter_finish m q Called = omega arith
enter_finish m (Worker a b) (Await o) = omega arith
enter_finish m (Caller c) (Await o) = omega arith
enter_finish m (Worker a b) (Gathers o) = omega arith
enter_finish m (Caller c) (Gathers o) = omega arith
enter_finish m q (RunFirst o a) = omega arith
enter_finish m q (Answers o f e) = omega arith
enter_finish m q (Missing o f) = omega arith
enter_finish m q (Ran u e) = omega arith
enter_finish m q (GiveBack n) = omega arith

enter_walk : (m : ℕ) (g : PoolShape) (q : Party) (r k i : ℕ) (n : Then) → entering_move m (walk g q r k i n) ≤ entering_then m n
enter_walk m g q r k i n = by (nat_lt 0 k && nat_lt i g.workers)
  where
    by : (z : Bool) → entering_move m (if z then Stay (LockToWake (record { pool = r; owed = k; worker = i; then = n })) else finish q n) ≤ entering_then m n
    by true = omega arith
    by false = enter_finish m q n

enter_settle : (m : ℕ) (g : PoolShape) (q : Party) (r i : ℕ) (n : Then) → entering_move m (settle g q r i n) ≤ entering_then m n
enter_settle m g q r i n = by (nat_lt i g.workers)
  where
    by : (z : Bool) → entering_move m (if z then Stay (SetLatch (record { latch = Terminate; pool = r; worker = i; then = n })) else finish q n) ≤ entering_then m n
    by true = omega arith
    by false = enter_finish m q n

enter_settled : (m : ℕ) (g : PoolShape) (q : Party) (k : Settling) (l : Latch) → entering_move m (after_set g q k l) ≤ entering_then m k.then
enter_settled m g q k Terminate = enter_settle m g q k.pool (k.worker + 1) k.then
enter_settled m g q k (OfCall i) = enter_finish m q k.then

enter_if : (m n : ℕ) (x y : Move) (z : Bool) → entering_move m x ≤ n → entering_move m y ≤ n → entering_move m (if z then x else y) ≤ n
enter_if m n x y true a b = a
enter_if m n x y false a b = b

enter_steal : (m : ℕ) (g : PoolShape) (q : Party) (k : Wait) (n : ℕ) → entering_move m (Stay (next_steal g q k n)) ≤ 0
enter_steal m g q k n = by (n == 0)
  where
    by : (z : Bool) → entering_move m (Stay (if z then PopInjected k else StealFrom (record k { victim = not_self g.workers (own_index q) (next_victim g.workers k.victim) }) (n - 1))) ≤ 0
    by true = omega arith
    by false = omega arith

enter_yield : (m : ℕ) (g : PoolShape) (q : Party) (v n : ℕ) → entering_move m (Stay (next_yield g q v n)) ≤ 0
enter_yield m g q v n = by (n == 0)
  where
    by : (z : Bool) → entering_move m (Stay (if z then YieldPopInjected else YieldSteal (not_self g.workers (own_index q) (next_victim g.workers v)) (n - 1))) ≤ 0
    by true = omega arith
    by false = omega arith

enter_failed : (m : ℕ) (g : PoolShape) (k : Wait) (r : Rounds) → entering_move m (Stay (after_failure g k r)) ≤ 0
enter_failed m g k (Failed n) = by (nat_lt n g.limit)
  where
    by : (z : Bool) → entering_move m (Stay (if z then ProbeIdle (record k { rounds = Failed (n + 1) }) else AnnounceSelf k)) ≤ 0
    by true = omega arith
    by false = omega arith
enter_failed m g k Announced = omega arith

enter_goes : (m : ℕ) (n : Plan) → entering_then m (after_news n) ≤ 0
enter_goes m (Detach r u) = omega arith
enter_goes m (Here r u) = omega arith
enter_goes m (Send o) = omega arith
enter_goes m (Fork o a) = omega arith
enter_goes m (Feed f) = omega arith
enter_goes m (Gather g) = omega arith
enter_goes m (Open o) = omega arith
enter_goes m (Enter e) = omega arith

enter_found : (m : ℕ) (g : Target) (o : Option Taken) → entering_then m (after_found g o) ≤ 0
enter_found m g None = omega arith
enter_found m g (Some u) = omega arith

enter_set : (m : ℕ) (c : ℕ) (o : Party) (n : Then) → entering_move m (Stay (set_call c o n)) ≤ entering_then m n
enter_set m c (Worker a b) n = omega arith
enter_set m c (Caller i) n = omega arith

enter_zero : (m : ℕ) (g : PoolShape) (q : Party) (k : Count) (n : Then) → entering_move m (settle_count g q k n) ≤ entering_then m n
enter_zero m g q (OfPool p) n = enter_settle m g q p 0 n
enter_zero m g q (OfScope c o) n = enter_set m c o n
enter_zero m g q (OfCast c o) n = enter_set m c o n

enter_ends : (m : ℕ) (k : Count) → entering m (ends_count k) ≤ 0
enter_ends m (OfPool p) = omega arith
enter_ends m (OfScope c o) = enter_set m c o Resume
enter_ends m (OfCast c o) = enter_set m c o Resume

enter_begins : (m : ℕ) (c : Pieces) (k : Count) → entering m (begin_cast k c) ≤ within m c.count
enter_begins m c (OfPool p) = omega arith
enter_begins m c (OfScope n o) = omega arith
enter_begins m c (OfCast n o) = omega arith

enter_undoes : (m : ℕ) (c : Pieces) (k : Count) → entering m (end_cast k c) ≤ within m c.count
enter_undoes m c (OfPool p) = omega arith
enter_undoes m c (OfScope n o) = omega arith
enter_undoes m c (OfCast n o) = omega arith

enter_slot : (m : ℕ) (n : Plan) → entering m (after_slot n) ≤ within m (plan_count n)
enter_slot m (Feed f) = omega arith
enter_slot m (Detach r u) = omega arith
enter_slot m (Here r u) = omega arith
enter_slot m (Send o) = omega arith
enter_slot m (Fork o a) = omega arith
enter_slot m (Open o) = omega arith
enter_slot m (Enter e) = omega arith
enter_slot m (Gather g) = omega arith

enter_drawn : (m : ℕ) (o : Option ℕ) (n : Plan) → entering m (withdraw o n) ≤ within m (plan_count n)
enter_drawn m None n = omega arith
enter_drawn m (Some c) n = omega arith

enter_pushed : (m : ℕ) (n : Plan) → entering_move m (Stay (after_push n)) ≤ within m (plan_count n)
enter_pushed m n = enter_drawn m (plan_book n) n

-- over the whole table: no move leads to more of them
pub enters_on : (g : PoolShape) (q : Party) (m : ℕ) (x : Place) (e : Seen) → entering_move m (next_of g q x e) ≤ entering m x
enters_on g q m (ProbeWorking k) Yes = let a : entering_move m (Stay (after_wait k.target)) ≤ 0 = enter_left m k.target in omega (arith, a)
enters_on g q m (ProbeWorking k) _ = omega arith
enters_on g q m (PopWorking k) (Task u) = omega arith
enters_on g q m (PopWorking k) _ = omega arith
enters_on g q m (TakeCastWorking k) (Task u) = omega arith
enters_on g q m (TakeCastWorking k) _ = omega arith
enters_on g q m (ProbeIdle k) Yes = omega arith
enters_on g q m (ProbeIdle k) _ = omega arith
enters_on g q m (PopIdle k) (Task u) = omega arith
enters_on g q m (PopIdle k) _ = omega arith
enters_on g q m (TakeCastIdle k) (Task u) = omega arith
enters_on g q m (TakeCastIdle k) _ = let a : entering_move m (if g.workers == 1 then Stay (PopInjected k) else Stay (PickVictim k)) ≤ 0 = enter_if m 0 (Stay (PopInjected k)) (Stay (PickVictim k)) (g.workers == 1) (omega arith) (omega arith) in omega (arith, a)
enters_on g q m (PickVictim k) (Start v) = omega arith
enters_on g q m (PickVictim k) _ = omega arith
enters_on g q m (StealFrom k n) (Task u) = omega arith
enters_on g q m (StealFrom k n) _ = let a : entering_move m (Stay (next_steal g q k n)) ≤ 0 = enter_steal m g q k n in omega (arith, a)
enters_on g q m (PopInjected k) (Task u) = omega arith
enters_on g q m (PopInjected k) _ = let a : entering_move m (Stay (after_failure g k k.rounds)) ≤ 0 = enter_failed m g k k.rounds in omega (arith, a)
enters_on g q m (AnnounceSelf k) (Jec j) = omega arith
enters_on g q m (AnnounceSelf k) _ = omega arith
enters_on g q m (GetSleepy k) Done = omega arith
enters_on g q m (GetSleepy k) _ = omega arith
enters_on g q m (FallAsleep k) Done = omega arith
enters_on g q m (FallAsleep k) _ = omega arith
enters_on g q m (AddSleeping k) Done = omega arith
enters_on g q m (AddSleeping k) _ = omega arith
enters_on g q m (LookAtCast k) Yes = omega arith
enters_on g q m (LookAtCast k) _ = omega arith
enters_on g q m (LookAtInjector k) Yes = omega arith
enters_on g q m (LookAtInjector k) _ = omega arith
enters_on g q m (LoadCounters k) (Word a1 b1 j) = let a : entering_move m (if j == k.kept then Stay (AddSleeping (record k { sleeping = a1; inactive = b1 })) else Stay (WakeUp (record k { rounds = Failed g.limit }))) ≤ 0 =
    enter_if m 0 (Stay (AddSleeping (record k { sleeping = a1; inactive = b1 }))) (Stay (WakeUp (record k { rounds = Failed g.limit }))) (j == k.kept) (omega arith) (omega arith) in omega (arith, a)
enters_on g q m (LoadCounters k) _ = omega arith
enters_on g q m (LeaveSearch k) (Wakes n) = let a : entering_move m (walk g q (own_pool q) n 0 (after_found k.target k.found)) ≤ entering_then m (after_found k.target k.found) = enter_walk m g q (own_pool q) n 0 (after_found k.target k.found) in
    let b : entering_then m (after_found k.target k.found) ≤ 0 = enter_found m k.target k.found in omega (arith, a, b)
enters_on g q m (LeaveSearch k) _ = omega arith
enters_on g q m (JoinProbe o) Yes = omega arith
enters_on g q m (JoinProbe o) _ = omega arith
enters_on g q m (JoinPop o) (Task u) = let a : entering_move m (if is_taken u o.job then Enter (SecondSide o) (BeginHere o.job) else Enter (JoinProbe o) (BeginTask u)) ≤ 0 =
    enter_if m 0 (Enter (SecondSide o) (BeginHere o.job)) (Enter (JoinProbe o) (BeginTask u)) (is_taken u o.job) (omega arith) (omega arith) in omega (arith, a)
enters_on g q m (JoinPop o) _ = omega arith
enters_on g q m (JoinTakeCast o) (Task u) = omega arith
enters_on g q m (JoinTakeCast o) _ = omega arith
enters_on g q m YieldPop (Task u) = omega arith
enters_on g q m YieldPop _ = omega arith
enters_on g q m YieldPopInjected (Task u) = omega arith
enters_on g q m YieldPopInjected _ = omega arith
enters_on g q m LocalPop (Task u) = omega arith
enters_on g q m LocalPop _ = omega arith
enters_on g q m LocalTakeCast (Task u) = omega arith
enters_on g q m LocalTakeCast _ = omega arith
enters_on g q m YieldTakeCast (Task u) = omega arith
enters_on g q m YieldTakeCast _ = let a : entering_move m (if g.workers == 1 then Stay YieldPopInjected else Stay YieldPick) ≤ 0 = enter_if m 0 (Stay YieldPopInjected) (Stay YieldPick) (g.workers == 1) (omega arith) (omega arith) in omega (arith, a)
enters_on g q m YieldPick (Start v) = omega arith
enters_on g q m YieldPick _ = omega arith
enters_on g q m (YieldSteal v n) (Task u) = omega arith
enters_on g q m (YieldSteal v n) _ = let a : entering_move m (Stay (next_yield g q v n)) ≤ 0 = enter_yield m g q v n in omega (arith, a)
enters_on g q m (BeginTask (Plain u)) (Begun d) = omega arith
enters_on g q m (BeginTask (Plain u)) _ = omega arith
enters_on g q m (BeginTask (Token k i b8)) (Handed u d) = omega arith
enters_on g q m (BeginTask (Token k i b8)) _ = omega arith
enters_on g q m (AddToFifo f) Done = omega arith
enters_on g q m (AddToFifo f) _ = enter_drawn m (count_book f.count) (Feed f)
enters_on g q m (LookForToken f) Yes = omega arith
enters_on g q m (LookForToken f) _ = omega arith
enters_on g q m (PushToken f v) Done = omega arith
enters_on g q m (PushToken f v) _ = omega arith
enters_on g q m (TakeFromFifo f) (Task x) = enter_drawn m (count_book f.count) (Feed (record f { job = taken_number x }))
enters_on g q m (TakeFromFifo f) _ = omega arith
enters_on g q m (RaiseForAll c) Done = enter_begins m c c.count
enters_on g q m (OpenForAll c) (Opened n) = omega arith
enters_on g q m (OpenForAll c) _ = omega arith
enters_on g q m (GrowCast b) Done = omega arith
enters_on g q m (GrowCast b) _ = omega arith
enters_on g q m (DealPieces b) Done = omega arith
enters_on g q m (DealPieces b) _ = omega arith
enters_on g q m (RaiseForAll c) _ = omega arith
enters_on g q m (PushForAll c) Done = omega arith
enters_on g q m (PushForAll c) _ = enter_undoes m c c.count
enters_on g q m (LowerForAll c) Yes = let a : entering m (ends_count c.count) ≤ 0 = enter_ends m c.count in omega (arith, a)
enters_on g q m (LowerForAll c) _ = omega arith
enters_on g q m (RaiseCount n) Done = let a : entering_move m (after_raise n) ≤ within m (plan_count n) = enter_raised m n in omega (arith, a)
enters_on g q m (RaiseCount n) _ = omega arith
enters_on g q m (GrowCall n) Done = omega arith
enters_on g q m (GrowCall n) _ = omega arith
enters_on g q m (LookQueue n) Yes = omega arith
enters_on g q m (LookQueue n) _ = omega arith
enters_on g q m (PushJob n v) Done = omega arith
enters_on g q m (PushJob n v) e = enter_pushed m n
enters_on g q m (TellNews n v) (Wakes k) = let a : entering_move m (walk g q (plan_pool n) k 0 (after_news n)) ≤ entering_then m (after_news n) = enter_walk m g q (plan_pool n) k 0 (after_news n) in let b : entering_then m (after_news n) ≤ 0 = enter_goes m n in omega (arith, a, b)
enters_on g q m (TellNews n v) _ = omega arith
enters_on g q m (WakeWorker k) Yes = omega arith
enters_on g q m (WakeWorker k) _ = omega arith
enters_on g q m (UnlockWoken k) e = let a : entering_move m (walk g q k.pool k.owed (k.worker + 1) k.then) ≤ entering_then m k.then = enter_walk m g q k.pool k.owed (k.worker + 1) k.then in omega (arith, a)
enters_on g q m (TakeResult o f) (Found d) = omega arith
enters_on g q m (TakeResult o f) _ = omega arith
enters_on g q m (LowerCount k s n) Yes = enter_zero m g q k n
enters_on g q m (LowerCount r s n) _ = enter_finish m q n
enters_on g q m (StoreResult i o d) e = let a : entering_move m (Stay (set_call i o Resume)) ≤ 0 = enter_set m i o Resume in omega (arith, a)
enters_on g q m (GrowScope o) Done = omega arith
enters_on g q m (GrowScope o) _ = omega arith
enters_on g q m (OpenSlot n) Done = enter_slot m n
enters_on g q m (OpenSlot n) _ = omega arith
enters_on g q m (CloseSlot n) e = omega arith
enters_on g q m (SetLockLatch c n) e = enter_finish m q n
enters_on g q m (SetLatch k) Yes = omega arith
enters_on g q m (SetLatch k) _ = let a : entering_move m (after_set g q k k.latch) ≤ entering_then m k.then = enter_settled m g q k k.latch in omega (arith, a)
enters_on g q m (UnlockSettled k) e = let a : entering_move m (after_set g q k k.latch) ≤ entering_then m k.then = enter_settled m g q k k.latch in omega (arith, a)
enters_on g q m _ e = omega arith
