-- no move leads to more shares that are to be raised, and what is raised was to be
use Rattle.rayon_machine_places.specs.declared.place.Pieces.{Pieces}
use Rattle.rayon_machine_places.specs.declared.place.Feeding.{Feeding}
use Rattle.rayon_machine_places.specs.declared.place.Count.TheVariants.{OfPool, OfScope, OfCast}
use Rattle.rayon_machine_places.specs.declared.place.Count.{Count}
use Rattle.std.proofs.Common.{arith}
use Rattle.std.specs.Prelude.{ℕ, Bool, true, false, ◌&&◌, ◌+◌, ◌-◌, ◌==◌, ◌≤◌, nat_lt, if◌then◌else◌, None, Option, Some}
use Rattle.rayon_machine_places.specs.declared.place.Party.{Party}
use Rattle.rayon_machine_places.specs.declared.place.Party.TheVariants.{Worker, Caller}
use Rattle.rayon_machine_places.specs.declared.place.Target.{Target}
use Rattle.rayon_machine_places.specs.declared.place.Target.TheVariants.{Termination, Answer}
use Rattle.rayon_machine_places.specs.declared.place.Latch.{Latch}
use Rattle.rayon_machine_places.specs.declared.place.Latch.TheVariants.{Terminate, OfCall}
use Rattle.rayon_machine_places.specs.declared.place.Rounds.{Rounds}
use Rattle.rayon_machine_places.specs.declared.place.Rounds.TheVariants.{Failed, Announced}
use Rattle.rayon_machine_places.specs.declared.place.Plan.TheVariants.{Detach, Here, Send, Fork, Feed, Open, Enter, Gather}
use Rattle.rayon_machine_places.specs.declared.place.Then.{Then}
use Rattle.rayon_machine_places.specs.declared.place.Then.TheVariants.{BeginFound, LeaveWait, Resume, Await, RunFirst, Answers, Missing, Ran, GiveBack, Called, Gathers}
use Rattle.rayon_machine_places.specs.declared.place.Taken.TheVariants.{Plain, Token}
use Rattle.rayon_machine_places.specs.declared.place.Place.{Place}
use Rattle.rayon_machine_places.specs.declared.place.Place.TheVariants.{ProbeWorking, PopWorking, TakeCastWorking, ProbeIdle, PopIdle, TakeCastIdle, PickVictim, StealFrom, PopInjected, AnnounceSelf, GetSleepy, FallAsleep, LoadCounters, AddSleeping, LookAtCast, LookAtInjector}
use Rattle.rayon_machine_places.specs.declared.place.Place.TheVariants.{WakeUp, LeaveSearch, JoinProbe, JoinPop, JoinTakeCast, YieldPop, YieldTakeCast, YieldPick, YieldSteal, YieldPopInjected, LocalPop, LocalTakeCast, BeginTask, BeginHere, RaiseCount, GrowCall, LookQueue}
use Rattle.rayon_machine_places.specs.declared.place.Place.TheVariants.{PushJob, TellNews, LockToWake, WakeWorker, UnlockWoken, TakeResult, LowerCount, StoreResult, SetLatch, UnlockSettled, SecondSide, AddToFifo, LookForToken, PushToken, TakeFromFifo, RaiseForAll, PushForAll}
use Rattle.rayon_machine_places.specs.declared.place.Place.TheVariants.{LowerForAll, GrowScope, OpenSlot, CloseSlot, SetLockLatch, OpenForAll, GrowCast, DealPieces}
use Rattle.rayon_machine_places.specs.declared.place.Move.{Move}
use Rattle.rayon_machine_places.specs.declared.place.Move.TheVariants.{Stay, Enter}
use Rattle.rayon_machine_places.specs.declared.act.Seen.{Seen}
use Rattle.rayon_machine_places.specs.declared.act.Seen.TheVariants.{Done, Yes, Task, Jec, Word, Start, Wakes, Begun, Found, Handed, Opened}
use Rattle.rayon_machine_places.specs.declared.shape.PoolShape.{PoolShape}
use Rattle.rayon_machine_places.specs.declared.place.Wait.{Wait}
use Rattle.rayon_machine_places.specs.declared.place.Settling.{Settling}
use Rattle.rayon_machine_places.specs.Places.{own_pool, own_index, plan_pool, after_wait, finish, walk, settle, after_set, after_found, after_news, set_call, next_victim, not_self, after_failure, next_steal, next_yield, next_of, is_taken, after_raise, after_push, settle_count}
use Rattle.rayon_machine_places.specs.Places.{begin_feed, begin_cast, end_cast, ends_count, after_slot, withdraw, plan_book, count_book, taken_number}
use Rattle.rayon_machine_places.specs.declared.place.Plan.{Plan}
use Rattle.rayon_machine_places.specs.declared.place.Taken.{Taken}
use Rattle.rayon_machine_laws.proofs.Amounts.{waiting, raise_then, raises, raises_move, gained}

rise_begun : (t : ℕ) (f : Feeding) (k : Count) → raises t (begin_feed k f) ≤ 0
rise_begun t f (OfPool p) = omega arith
rise_begun t f (OfScope c o) = omega arith
rise_begun t f (OfCast c o) = omega arith

rise_raised : (t : ℕ) (n : Plan) → raises_move t (after_raise n) ≤ waiting t n
rise_raised t (Detach r u) = omega arith
rise_raised t (Here r u) = omega arith
rise_raised t (Send o) = omega arith
rise_raised t (Fork o a) = omega arith
rise_raised t (Feed f) = rise_begun t f f.count
rise_raised t (Gather g) = omega arith
rise_raised t (Open o) = omega arith
rise_raised t (Enter e) = omega arith

rise_left : (t : ℕ) (g : Target) → raises_move t (Stay (after_wait g)) ≤ 0
rise_left t Termination = omega arith
rise_left t (Answer o f) = omega arith

rise_finish : (t : ℕ) (q : Party) (n : Then) → raises_move t (finish q n) ≤ raise_then t n
rise_finish t q (BeginFound g u) = omega arith
rise_finish t q (LeaveWait g) = rise_left t g
rise_finish t q Resume = omega arith
rise_finish t q Called = omega arith
rise_finish t (Worker a b) (Await o) = omega arith
rise_finish t (Caller c) (Await o) = omega arith
rise_finish t (Worker a b) (Gathers o) = omega arith
rise_finish t (Caller c) (Gathers o) = omega arith
rise_finish t q (RunFirst o a) = omega arith
rise_finish t q (Answers o f e) = omega arith
rise_finish t q (Missing o f) = omega arith
rise_finish t q (Ran u e) = omega arith
rise_finish t q (GiveBack n) = omega arith

rise_walk : (t : ℕ) (g : PoolShape) (q : Party) (r k i : ℕ) (n : Then) → raises_move t (walk g q r k i n) ≤ raise_then t n
rise_walk t g q r k i n = by (nat_lt 0 k && nat_lt i g.workers)
  where
    by : (z : Bool) → raises_move t (if z then Stay (LockToWake (record { pool = r; owed = k; worker = i; then = n })) else finish q n) ≤ raise_then t n
    by true = omega arith
    by false = rise_finish t q n

rise_settle : (t : ℕ) (g : PoolShape) (q : Party) (r i : ℕ) (n : Then) → raises_move t (settle g q r i n) ≤ raise_then t n
rise_settle t g q r i n = by (nat_lt i g.workers)
  where
    by : (z : Bool) → raises_move t (if z then Stay (SetLatch (record { latch = Terminate; pool = r; worker = i; then = n })) else finish q n) ≤ raise_then t n
    by true = omega arith
    by false = rise_finish t q n

rise_settled : (t : ℕ) (g : PoolShape) (q : Party) (k : Settling) (l : Latch) → raises_move t (after_set g q k l) ≤ raise_then t k.then
rise_settled t g q k Terminate = rise_settle t g q k.pool (k.worker + 1) k.then
rise_settled t g q k (OfCall i) = rise_finish t q k.then

rise_if : (t n : ℕ) (x y : Move) (z : Bool) → raises_move t x ≤ n → raises_move t y ≤ n → raises_move t (if z then x else y) ≤ n
rise_if t n x y true a b = a
rise_if t n x y false a b = b

rise_steal : (t : ℕ) (g : PoolShape) (q : Party) (k : Wait) (n : ℕ) → raises_move t (Stay (next_steal g q k n)) ≤ 0
rise_steal t g q k n = by (n == 0)
  where
    by : (z : Bool) → raises_move t (Stay (if z then PopInjected k else StealFrom (record k { victim = not_self g.workers (own_index q) (next_victim g.workers k.victim) }) (n - 1))) ≤ 0
    by true = omega arith
    by false = omega arith

rise_yield : (t : ℕ) (g : PoolShape) (q : Party) (v n : ℕ) → raises_move t (Stay (next_yield g q v n)) ≤ 0
rise_yield t g q v n = by (n == 0)
  where
    by : (z : Bool) → raises_move t (Stay (if z then YieldPopInjected else YieldSteal (not_self g.workers (own_index q) (next_victim g.workers v)) (n - 1))) ≤ 0
    by true = omega arith
    by false = omega arith

rise_failed : (t : ℕ) (g : PoolShape) (k : Wait) (r : Rounds) → raises_move t (Stay (after_failure g k r)) ≤ 0
rise_failed t g k (Failed n) = by (nat_lt n g.limit)
  where
    by : (z : Bool) → raises_move t (Stay (if z then ProbeIdle (record k { rounds = Failed (n + 1) }) else AnnounceSelf k)) ≤ 0
    by true = omega arith
    by false = omega arith
rise_failed t g k Announced = omega arith

rise_goes : (t : ℕ) (n : Plan) → raise_then t (after_news n) ≤ 0
rise_goes t (Detach r u) = omega arith
rise_goes t (Here r u) = omega arith
rise_goes t (Send o) = omega arith
rise_goes t (Fork o a) = omega arith
rise_goes t (Feed f) = omega arith
rise_goes t (Gather g) = omega arith
rise_goes t (Open o) = omega arith
rise_goes t (Enter e) = omega arith

rise_found : (t : ℕ) (g : Target) (o : Option Taken) → raise_then t (after_found g o) ≤ 0
rise_found t g None = omega arith
rise_found t g (Some u) = omega arith

rise_set : (t : ℕ) (c : ℕ) (o : Party) (n : Then) → raises_move t (Stay (set_call c o n)) ≤ raise_then t n
rise_set t c (Worker a b) n = omega arith
rise_set t c (Caller i) n = omega arith

rise_zero : (t : ℕ) (g : PoolShape) (q : Party) (k : Count) (n : Then) → raises_move t (settle_count g q k n) ≤ raise_then t n
rise_zero t g q (OfPool p) n = rise_settle t g q p 0 n
rise_zero t g q (OfScope c o) n = rise_set t c o n
rise_zero t g q (OfCast c o) n = rise_set t c o n

rise_ends : (t : ℕ) (k : Count) → raises t (ends_count k) ≤ 0
rise_ends t (OfPool p) = omega arith
rise_ends t (OfScope c o) = rise_set t c o Resume
rise_ends t (OfCast c o) = rise_set t c o Resume

rise_begins : (t : ℕ) (c : Pieces) (k : Count) → raises t (begin_cast k c) ≤ 0
rise_begins t c (OfPool p) = omega arith
rise_begins t c (OfScope n o) = omega arith
rise_begins t c (OfCast n o) = omega arith

rise_undoes : (t : ℕ) (c : Pieces) (k : Count) → raises t (end_cast k c) ≤ 0
rise_undoes t c (OfPool p) = omega arith
rise_undoes t c (OfScope n o) = omega arith
rise_undoes t c (OfCast n o) = omega arith

rise_slot : (t : ℕ) (n : Plan) → raises t (after_slot n) ≤ waiting t n
rise_slot t (Feed f) = omega arith
rise_slot t (Detach r u) = omega arith
rise_slot t (Here r u) = omega arith
rise_slot t (Send o) = omega arith
rise_slot t (Fork o a) = omega arith
rise_slot t (Open o) = omega arith
rise_slot t (Enter e) = omega arith
rise_slot t (Gather g) = omega arith

rise_drawn : (t : ℕ) (o : Option ℕ) (n : Plan) → raises t (withdraw o n) ≤ waiting t n
rise_drawn t None n = omega arith
rise_drawn t (Some c) n = omega arith

rise_pushed : (t : ℕ) (n : Plan) → raises_move t (Stay (after_push n)) ≤ waiting t n
rise_pushed t n = rise_drawn t (plan_book n) n

-- over the whole table: no move leads to more of them
pub rises : (g : PoolShape) (q : Party) (t : ℕ) (x : Place) (e : Seen) → raises_move t (next_of g q x e) ≤ raises t x
rises g q t (ProbeWorking k) Yes = let a : raises_move t (Stay (after_wait k.target)) ≤ 0 = rise_left t k.target in omega (arith, a)
rises g q t (ProbeWorking k) _ = omega arith
rises g q t (PopWorking k) (Task u) = omega arith
rises g q t (PopWorking k) _ = omega arith
rises g q t (TakeCastWorking k) (Task u) = omega arith
rises g q t (TakeCastWorking k) _ = omega arith
rises g q t (ProbeIdle k) Yes = omega arith
rises g q t (ProbeIdle k) _ = omega arith
rises g q t (PopIdle k) (Task u) = omega arith
rises g q t (PopIdle k) _ = omega arith
rises g q t (TakeCastIdle k) (Task u) = omega arith
rises g q t (TakeCastIdle k) _ = let a : raises_move t (if g.workers == 1 then Stay (PopInjected k) else Stay (PickVictim k)) ≤ 0 = rise_if t 0 (Stay (PopInjected k)) (Stay (PickVictim k)) (g.workers == 1) (omega arith) (omega arith) in omega (arith, a)
rises g q t (PickVictim k) (Start v) = omega arith
rises g q t (PickVictim k) _ = omega arith
rises g q t (StealFrom k n) (Task u) = omega arith
rises g q t (StealFrom k n) _ = let a : raises_move t (Stay (next_steal g q k n)) ≤ 0 = rise_steal t g q k n in omega (arith, a)
rises g q t (PopInjected k) (Task u) = omega arith
rises g q t (PopInjected k) _ = let a : raises_move t (Stay (after_failure g k k.rounds)) ≤ 0 = rise_failed t g k k.rounds in omega (arith, a)
rises g q t (AnnounceSelf k) (Jec j) = omega arith
rises g q t (AnnounceSelf k) _ = omega arith
rises g q t (GetSleepy k) Done = omega arith
rises g q t (GetSleepy k) _ = omega arith
rises g q t (FallAsleep k) Done = omega arith
rises g q t (FallAsleep k) _ = omega arith
rises g q t (AddSleeping k) Done = omega arith
rises g q t (AddSleeping k) _ = omega arith
rises g q t (LookAtCast k) Yes = omega arith
rises g q t (LookAtCast k) _ = omega arith
rises g q t (LookAtInjector k) Yes = omega arith
rises g q t (LookAtInjector k) _ = omega arith
rises g q t (LoadCounters k) (Word a1 b1 j) = let a : raises_move t (if j == k.kept then Stay (AddSleeping (record k { sleeping = a1; inactive = b1 })) else Stay (WakeUp (record k { rounds = Failed g.limit }))) ≤ 0 =
    rise_if t 0 (Stay (AddSleeping (record k { sleeping = a1; inactive = b1 }))) (Stay (WakeUp (record k { rounds = Failed g.limit }))) (j == k.kept) (omega arith) (omega arith) in omega (arith, a)
rises g q t (LoadCounters k) _ = omega arith
rises g q t (LeaveSearch k) (Wakes n) = let a : raises_move t (walk g q (own_pool q) n 0 (after_found k.target k.found)) ≤ raise_then t (after_found k.target k.found) = rise_walk t g q (own_pool q) n 0 (after_found k.target k.found) in let b : raise_then t (after_found k.target k.found) ≤ 0 =
    rise_found t k.target k.found in omega (arith, a, b)
rises g q t (LeaveSearch k) _ = omega arith
rises g q t (JoinProbe o) Yes = omega arith
rises g q t (JoinProbe o) _ = omega arith
rises g q t (JoinPop o) (Task u) = let a : raises_move t (if is_taken u o.job then Enter (SecondSide o) (BeginHere o.job) else Enter (JoinProbe o) (BeginTask u)) ≤ 0 =
    rise_if t 0 (Enter (SecondSide o) (BeginHere o.job)) (Enter (JoinProbe o) (BeginTask u)) (is_taken u o.job) (omega arith) (omega arith) in omega (arith, a)
rises g q t (JoinPop o) _ = omega arith
rises g q t (JoinTakeCast o) (Task u) = omega arith
rises g q t (JoinTakeCast o) _ = omega arith
rises g q t YieldPop (Task u) = omega arith
rises g q t YieldPop _ = omega arith
rises g q t YieldPopInjected (Task u) = omega arith
rises g q t YieldPopInjected _ = omega arith
rises g q t LocalPop (Task u) = omega arith
rises g q t LocalPop _ = omega arith
rises g q t LocalTakeCast (Task u) = omega arith
rises g q t LocalTakeCast _ = omega arith
rises g q t YieldTakeCast (Task u) = omega arith
rises g q t YieldTakeCast _ = let a : raises_move t (if g.workers == 1 then Stay YieldPopInjected else Stay YieldPick) ≤ 0 = rise_if t 0 (Stay YieldPopInjected) (Stay YieldPick) (g.workers == 1) (omega arith) (omega arith) in omega (arith, a)
rises g q t YieldPick (Start v) = omega arith
rises g q t YieldPick _ = omega arith
rises g q t (YieldSteal v n) (Task u) = omega arith
rises g q t (YieldSteal v n) _ = let a : raises_move t (Stay (next_yield g q v n)) ≤ 0 = rise_yield t g q v n in omega (arith, a)
rises g q t (BeginTask (Plain u)) (Begun d) = omega arith
rises g q t (BeginTask (Plain u)) _ = omega arith
rises g q t (BeginTask (Token k i b8)) (Handed u d) = omega arith
rises g q t (BeginTask (Token k i b8)) _ = omega arith
rises g q t (AddToFifo f) Done = omega arith
rises g q t (AddToFifo f) _ = rise_drawn t (count_book f.count) (Feed f)
rises g q t (LookForToken f) Yes = omega arith
rises g q t (LookForToken f) _ = omega arith
rises g q t (PushToken f v) Done = omega arith
rises g q t (PushToken f v) _ = omega arith
rises g q t (TakeFromFifo f) (Task x) = rise_drawn t (count_book f.count) (Feed (record f { job = taken_number x }))
rises g q t (TakeFromFifo f) _ = omega arith
rises g q t (RaiseForAll c) Done = let a : raises t (begin_cast c.count c) ≤ 0 = rise_begins t c c.count in omega (arith, a)
rises g q t (OpenForAll c) (Opened n) = omega arith
rises g q t (OpenForAll c) _ = omega arith
rises g q t (GrowCast b) Done = omega arith
rises g q t (GrowCast b) _ = omega arith
rises g q t (DealPieces b) Done = omega arith
rises g q t (DealPieces b) _ = omega arith
rises g q t (RaiseForAll c) _ = omega arith
rises g q t (PushForAll c) Done = omega arith
rises g q t (PushForAll c) _ = rise_undoes t c c.count
rises g q t (LowerForAll c) Yes = let a : raises t (ends_count c.count) ≤ 0 = rise_ends t c.count in omega (arith, a)
rises g q t (LowerForAll c) _ = omega arith
rises g q t (RaiseCount n) Done = let a : raises_move t (after_raise n) ≤ waiting t n = rise_raised t n in omega (arith, a)
rises g q t (RaiseCount n) _ = omega arith
rises g q t (GrowCall n) Done = omega arith
rises g q t (GrowCall n) _ = omega arith
rises g q t (LookQueue n) Yes = omega arith
rises g q t (LookQueue n) _ = omega arith
rises g q t (PushJob n v) Done = omega arith
rises g q t (PushJob n v) e = rise_pushed t n
rises g q t (TellNews n v) (Wakes k) = let a : raises_move t (walk g q (plan_pool n) k 0 (after_news n)) ≤ raise_then t (after_news n) = rise_walk t g q (plan_pool n) k 0 (after_news n) in let b : raise_then t (after_news n) ≤ 0 = rise_goes t n in omega (arith, a, b)
rises g q t (TellNews n v) _ = omega arith
rises g q t (WakeWorker k) Yes = omega arith
rises g q t (WakeWorker k) _ = omega arith
rises g q t (UnlockWoken k) e = let a : raises_move t (walk g q k.pool k.owed (k.worker + 1) k.then) ≤ raise_then t k.then = rise_walk t g q k.pool k.owed (k.worker + 1) k.then in omega (arith, a)
rises g q t (TakeResult o f) (Found d) = omega arith
rises g q t (TakeResult o f) _ = omega arith
rises g q t (LowerCount k s n) Yes = rise_zero t g q k n
rises g q t (LowerCount r s n) _ = rise_finish t q n
rises g q t (StoreResult i o d) e = let a : raises_move t (Stay (set_call i o Resume)) ≤ 0 = rise_set t i o Resume in omega (arith, a)
rises g q t (GrowScope o) Done = omega arith
rises g q t (GrowScope o) _ = omega arith
rises g q t (OpenSlot n) Done = rise_slot t n
rises g q t (OpenSlot n) _ = omega arith
rises g q t (CloseSlot n) e = omega arith
rises g q t (SetLockLatch c n) e = rise_finish t q n
rises g q t (SetLatch k) Yes = omega arith
rises g q t (SetLatch k) _ = let a : raises_move t (after_set g q k k.latch) ≤ raise_then t k.then = rise_settled t g q k k.latch in omega (arith, a)
rises g q t (UnlockSettled k) e = let a : raises_move t (after_set g q k k.latch) ≤ raise_then t k.then = rise_settled t g q k k.latch in omega (arith, a)
rises g q t _ e = omega arith

pub rises_gain : (g : PoolShape) (q : Party) (t : ℕ) (x : Place) (e : Seen) → raises_move t (next_of g q x e) + gained t x e ≤ raises t x
rises_gain g q t (RaiseCount n) Done = let a : raises_move t (after_raise n) ≤ waiting t n = rise_raised t n in omega (arith, a)
rises_gain g q t (RaiseForAll c) Done = let a : raises t (begin_cast c.count c) ≤ 0 = rise_begins t c c.count in omega (arith, a)
rises_gain g q t (DealPieces b) Done = omega arith
rises_gain g q t x e = let a : raises_move t (next_of g q x e) ≤ raises t x = rises g q t x e in omega (arith, a)
