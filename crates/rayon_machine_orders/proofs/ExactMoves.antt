-- over the table of places: the share of a scope's body is not lost, but where it is given back or its scope is refused
--
-- What a place keeps of the share is kept where its move leads (`more_bodies`), but in two cases. Its act gives the
-- share back (`spent` of Bodies): that takes it out of the count. Or the move hands a body back (`dropped`): that very
-- one (`says_drop`). So neither leaves a share without a keeper.
use Rattle.std.proofs.Common.{arith, refl}
use Rattle.rayon_machine_orders.proofs.Words.{ℕ, Bool, true, false, ◌&&◌, ◌+◌, ◌-◌, ◌==◌, ◌≤◌, nat_lt, if◌then◌else◌, Option, Some, None, List, [], ◌∷◌, ◌≡◌, ⊤, Party, Worker, Caller, Ending, Fine, Fault, JobKind, Detached, Stored, Direct, TokenOf, Scoped, BodyOf, PieceOf, WholeOf, Target}
use Rattle.rayon_machine_orders.proofs.Words.{Latch, Terminate, OfCall, Plan, Detach, Here, Send, Fork, Feed, Open, Enter, Gather, Count, OfPool, OfScope, OfCast, PoolValue, OfJob, Body, Then, BeginFound, LeaveWait, Resume, Await, RunFirst, Answers, Missing, Ran, GiveBack, Called, Gathers}
use Rattle.rayon_machine_orders.proofs.Words.{Taken, Plain, Token, Place, ProbeWorking, PopWorking, TakeCastWorking, ProbeIdle, PopIdle, TakeCastIdle, PickVictim, StealFrom, PopInjected, AnnounceSelf, GetSleepy, FallAsleep, LoadCounters, AddSleeping, LookAtCast, LookAtInjector, LeaveSearch}
use Rattle.rayon_machine_orders.proofs.Words.{JoinProbe, JoinPop, JoinTakeCast, YieldPop, YieldTakeCast, YieldPick, YieldSteal, YieldPopInjected, LocalPop, LocalTakeCast, BeginTask, RaiseCount, GrowCall, LookQueue, PushJob, TellNews, LockToWake, WakeWorker, UnlockWoken, TakeResult, LowerCount}
use Rattle.rayon_machine_orders.proofs.Words.{SetLatch, UnlockSettled, SetLockLatch, FirstSide, SecondSide, AtOnce, AddToFifo, LookForToken, PushToken, TakeFromFifo, RaiseForAll, PushForAll, LowerForAll, GrowScope, OpenSlot, CloseSlot, ScopeBody, OpenForAll, GrowCast, DealPieces, Move, Stay}
use Rattle.rayon_machine_orders.proofs.Words.{EnterAbove as Into, StartRun, Back, HandBack, Discard, HandIn, Mark, HandAllBack, Seen, Done, Yes, Task, Jec, Word, Start, Wakes, Begun, Found, Handed, Opened as Slots, PoolShape, Settling, own_pool, finish, walk, settle, after_set, after_found}
use Rattle.rayon_machine_orders.proofs.Words.{after_news, after_raise, set_call, next_of, is_taken, settle_count, after_push, after_slot, withdraw, plan_pool, plan_book, goes_on, is_refusable, World, after_move, after_close, body, bodies_in, all_bodies}
use Rattle.rayon_machine_laws.specs.Bodies.{in_scope, plan_body, body_then}
use Rattle.rayon_machine_laws.proofs.Claims.{Opened, SaysPlan, SaysThen, Says}
use Rattle.rayon_machine_laws.proofs.Bodies.{body_move, spent}

-- the share of a body that is handed back
abbrev pub dropped : ℕ → Move → ℕ
dropped c (HandBack n) = plan_body c n
dropped c _ = 0

-- what a move leaves of the share of call c's body, or hands back
abbrev kept_move : ℕ → Move → ℕ
kept_move c g = body_move c g + dropped c g

more_finish : (t : ℕ) (q : Party) (n : Then) → body_then t n ≤ kept_move t (finish q n)
more_finish t q (GiveBack n) = omega arith
more_finish t q _ = omega arith

more_settle : (t : ℕ) (g : PoolShape) (q : Party) (r i : ℕ) (n : Then) → body_then t n ≤ kept_move t (settle g q r i n)
more_settle t g q r i n = by (nat_lt i g.workers)
  where
    by : (z : Bool) → body_then t n ≤ kept_move t (if z then Stay (SetLatch (record { latch = Terminate; pool = r; worker = i; then = n })) else finish q n)
    by true = omega arith
    by false = more_finish t q n

more_settled : (t : ℕ) (g : PoolShape) (q : Party) (k : Settling) (l : Latch) → body_then t k.then ≤ kept_move t (after_set g q k l)
more_settled t g q k Terminate = more_settle t g q k.pool (k.worker + 1) k.then
more_settled t g q k (OfCall i) = more_finish t q k.then

more_set : (t : ℕ) (c : ℕ) (o : Party) (n : Then) → body_then t n ≤ kept_move t (Stay (set_call c o n))
more_set t c (Worker a b) n = omega arith
more_set t c (Caller m) n = omega arith

more_count : (t : ℕ) (g : PoolShape) (q : Party) (k : Count) (n : Then) → body_then t n ≤ kept_move t (settle_count g q k n)
more_count t g q (OfPool r) n = more_settle t g q r 0 n
more_count t g q (OfScope c o) n = more_set t c o n
more_count t g q (OfCast c o) n = more_set t c o n

more_raised : (t : ℕ) (n : Plan) → plan_body t n ≤ kept_move t (after_raise n)
more_raised t (Open o) = omega arith
more_raised t _ = omega arith

more_slot : (t : ℕ) (n : Plan) → plan_body t n ≤ body t (after_slot n)
more_slot t (Feed f) = omega arith
more_slot t _ = omega arith

more_drawn : (t : ℕ) (o : Option ℕ) (n : Plan) → plan_body t n ≤ body t (withdraw o n)
more_drawn t None n = omega arith
more_drawn t (Some c) n = omega arith

-- a call that opens a scope queues no job
abbrev pub queues_body : Place → Bool
queues_body (PushJob (Open o) v) = true
queues_body _ = false

unqueued : (t : ℕ) (n : Plan) (v : Bool) → queues_body (PushJob n v) ≡ false → plan_body t n ≤ 0
unqueued t (Open o) v z = cc
unqueued t _ v z = omega arith

-- what a place keeps is kept where its move leads, or handed back, or its act gives it back
pub more_bodies : (g : PoolShape) (q : Party) (t : ℕ) (x : Place) (e : Seen) → queues_body x ≡ false → body t x ≤ kept_move t (next_of g q x e) + spent t x
more_bodies g q t (RaiseCount n) Done z = let a : plan_body t n ≤ kept_move t (after_raise n) = more_raised t n in omega (arith, a)
more_bodies g q t (RaiseCount n) _ z = omega arith
more_bodies g q t (GrowCall n) Done z = omega arith
more_bodies g q t (GrowCall n) _ z = omega arith
more_bodies g q t (GrowScope o) Done z = omega arith
more_bodies g q t (GrowScope o) _ z = omega arith
more_bodies g q t (OpenSlot n) Done z = let a : plan_body t n ≤ body t (after_slot n) = more_slot t n in omega (arith, a)
more_bodies g q t (OpenSlot n) _ z = omega arith
more_bodies g q t (LookQueue n) Yes z = omega arith
more_bodies g q t (LookQueue n) _ z = omega arith
more_bodies g q t (PushJob n v) Done z = let a : plan_body t n ≤ 0 = unqueued t n v z in omega (arith, a)
more_bodies g q t (PushJob n v) _ z = let a : plan_body t n ≤ body t (withdraw (plan_book n) n) = more_drawn t (plan_book n) n in omega (arith, a)
more_bodies g q t (LowerCount r PoolValue n) Yes z = let a : body_then t n ≤ kept_move t (settle_count g q r n) = more_count t g q r n in omega (arith, a)
more_bodies g q t (LowerCount r Body n) Yes z = let a : body_then t n ≤ kept_move t (settle_count g q r n) = more_count t g q r n in omega (arith, a)
more_bodies g q t (LowerCount r (OfJob u) n) Yes z = let a : body_then t n ≤ kept_move t (settle_count g q r n) = more_count t g q r n in omega (arith, a)
more_bodies g q t (LowerCount r PoolValue n) _ z = let a : body_then t n ≤ kept_move t (finish q n) = more_finish t q n in omega (arith, a)
more_bodies g q t (LowerCount r Body n) _ z = let a : body_then t n ≤ kept_move t (finish q n) = more_finish t q n in omega (arith, a)
more_bodies g q t (LowerCount r (OfJob u) n) _ z = let a : body_then t n ≤ kept_move t (finish q n) = more_finish t q n in omega (arith, a)
more_bodies g q t (SetLatch k) Yes z = omega arith
more_bodies g q t (SetLatch k) _ z = let a : body_then t k.then ≤ kept_move t (after_set g q k k.latch) = more_settled t g q k k.latch in omega (arith, a)
more_bodies g q t (UnlockSettled k) e z = let a : body_then t k.then ≤ kept_move t (after_set g q k k.latch) = more_settled t g q k k.latch in omega (arith, a)
more_bodies g q t (SetLockLatch c n) e z = let a : body_then t n ≤ kept_move t (finish q n) = more_finish t q n in omega (arith, a)
more_bodies g q t x e z = omega arith

pub land_more : (t : ℕ) (g : Move) (fs : List Place) → body_move t g + bodies_in t fs ≤ all_bodies t (after_move g fs)
land_more t Back [] = omega arith
land_more t Back (f ∷ fs) = omega arith
land_more t (HandBack n) [] = omega arith
land_more t (HandBack n) (f ∷ fs) = omega arith
land_more t (Discard n) [] = omega arith
land_more t (Discard n) (f ∷ fs) = omega arith
land_more t (HandAllBack b) [] = omega arith
land_more t (HandAllBack b) (f ∷ fs) = omega arith
land_more t _ fs = omega arith

-- nor does the end of a run lose it
more_on : (s : ℕ) (f : Place) (e : Ending) → body s f ≤ body s (goes_on f e)
more_on s (FirstSide o a) Fine = omega arith
more_on s (FirstSide o a) Fault = omega arith
more_on s f e = omega arith

pub closed_more : (s t : ℕ) (k : JobKind) (e : Ending) (fs : List Place) → bodies_in s fs ≤ all_bodies s (after_close t k e fs)
closed_more s t Direct e [] = omega arith
closed_more s t (TokenOf i b) e [] = omega arith
closed_more s t (BodyOf c o) e [] = omega arith
closed_more s t (WholeOf c o) e [] = omega arith
closed_more s t Direct e (f ∷ fs) = let a : body s f ≤ body s (goes_on f e) = more_on s f e in omega (arith, a)
closed_more s t (TokenOf i b) e (f ∷ fs) = let a : body s f ≤ body s (goes_on f e) = more_on s f e in omega (arith, a)
closed_more s t (BodyOf c o) e (f ∷ fs) = let a : body s f ≤ body s (goes_on f e) = more_on s f e in omega (arith, a)
closed_more s t (WholeOf c o) e (f ∷ fs) = let a : body s f ≤ body s (goes_on f e) = more_on s f e in omega (arith, a)
closed_more s t _ e fs = omega arith

-- a refused act hands nothing back at once
pub none_dropped : (g : PoolShape) (q : Party) (t : ℕ) (x : Place) (e : Seen) → is_refusable x ≡ true → dropped t (next_of g q x e) ≤ 0
none_dropped g q t (GrowCall n) Done z = omega arith
none_dropped g q t (GrowCall n) _ z = omega arith
none_dropped g q t (PushJob n v) Done z = omega arith
none_dropped g q t (PushJob n v) _ z = omega arith
none_dropped g q t (AddToFifo f) Done z = omega arith
none_dropped g q t (AddToFifo f) _ z = omega arith
none_dropped g q t (PushToken f v) Done z = omega arith
none_dropped g q t (PushToken f v) _ z = omega arith
none_dropped g q t (PushForAll c) Done z = omega arith
none_dropped g q t (PushForAll c) _ z = omega arith
none_dropped g q t (OpenForAll c) (Slots n) z = omega arith
none_dropped g q t (OpenForAll c) _ z = omega arith
none_dropped g q t (GrowCast d) Done z = omega arith
none_dropped g q t (GrowCast d) _ z = omega arith
none_dropped g q t (DealPieces d) Done z = omega arith
none_dropped g q t (DealPieces d) _ z = omega arith
none_dropped g q t (GrowScope o) Done z = omega arith
none_dropped g q t (GrowScope o) _ z = omega arith
none_dropped g q t (OpenSlot n) Done z = omega arith
none_dropped g q t (OpenSlot n) _ z = omega arith
none_dropped g q t x e z = cc

-- the body that a move hands back is its call's
abbrev pub SaysDrop : World → Party → Move → Type 0
SaysDrop w q (HandBack (Open o)) = Opened w q o
SaysDrop w q _ = ⊤

drop_plan : (w : World) (q : Party) (n : Plan) → SaysPlan w q n → SaysDrop w q (HandBack n)
drop_plan w q (Open o) s = s.0
drop_plan w q _ s = tt

drop_finish : (w : World) (q : Party) (n : Then) → SaysThen w q n → SaysDrop w q (finish q n)
drop_finish w q (GiveBack n) s = drop_plan w q n s
drop_finish w q _ s = tt

drop_walk : (w : World) (g : PoolShape) (q : Party) (r k i : ℕ) (n : Then) → SaysDrop w q (finish q n) → SaysDrop w q (walk g q r k i n)
drop_walk w g q r k i n s = by (nat_lt 0 k && nat_lt i g.workers)
  where
    by : (z : Bool) → SaysDrop w q (if z then Stay (LockToWake (record { pool = r; owed = k; worker = i; then = n })) else finish q n)
    by true = tt
    by false = s

drop_found : (w : World) (q : Party) (g : Target) (o : Option Taken) → SaysDrop w q (finish q (after_found g o))
drop_found w q g None = tt
drop_found w q g (Some x) = tt

drop_news : (w : World) (q : Party) (n : Plan) → SaysDrop w q (finish q (after_news n))
drop_news w q (Feed f) = tt
drop_news w q _ = tt

drop_settle : (w : World) (g : PoolShape) (q : Party) (r i : ℕ) (n : Then) → SaysThen w q n → SaysDrop w q (settle g q r i n)
drop_settle w g q r i n s = by (nat_lt i g.workers)
  where
    by : (z : Bool) → SaysDrop w q (if z then Stay (SetLatch (record { latch = Terminate; pool = r; worker = i; then = n })) else finish q n)
    by true = tt
    by false = drop_finish w q n s

drop_settled : (w : World) (g : PoolShape) (q : Party) (k : Settling) (l : Latch) → SaysThen w q k.then → SaysDrop w q (after_set g q k l)
drop_settled w g q k Terminate s = drop_settle w g q k.pool (k.worker + 1) k.then s
drop_settled w g q k (OfCall i) s = drop_finish w q k.then s

drop_count : (w : World) (g : PoolShape) (q : Party) (k : Count) (n : Then) → SaysThen w q n → SaysDrop w q (settle_count g q k n)
drop_count w g q (OfPool r) n s = drop_settle w g q r 0 n s
drop_count w g q _ n s = tt

drop_raised : (w : World) (q : Party) (n : Plan) → SaysDrop w q (after_raise n)
drop_raised w q (Feed f) = tt
drop_raised w q _ = tt

drop_if : (w : World) (q : Party) (x y : Move) (z : Bool) → SaysDrop w q x → SaysDrop w q y → SaysDrop w q (if z then x else y)
drop_if w q x y true a b = a
drop_if w q x y false a b = b

pub says_drop : (w : World) (g : PoolShape) (q : Party) (x : Place) (e : Seen) → Says w q x → SaysDrop w q (next_of g q x e)
says_drop w g q (ProbeWorking k) Yes s = tt
says_drop w g q (ProbeWorking k) _ s = tt
says_drop w g q (PopWorking k) (Task t) s = tt
says_drop w g q (PopWorking k) _ s = tt
says_drop w g q (TakeCastWorking k) (Task t) s = tt
says_drop w g q (TakeCastWorking k) _ s = tt
says_drop w g q (ProbeIdle k) Yes s = tt
says_drop w g q (ProbeIdle k) _ s = tt
says_drop w g q (PopIdle k) (Task t) s = tt
says_drop w g q (PopIdle k) _ s = tt
says_drop w g q (TakeCastIdle k) (Task t) s = tt
says_drop w g q (TakeCastIdle k) _ s = drop_if w q (Stay (PopInjected k)) (Stay (PickVictim k)) (g.workers == 1) tt tt
says_drop w g q (PickVictim k) (Start v) s = tt
says_drop w g q (PickVictim k) _ s = tt
says_drop w g q (StealFrom k n) (Task t) s = tt
says_drop w g q (StealFrom k n) _ s = tt
says_drop w g q (PopInjected k) (Task t) s = tt
says_drop w g q (PopInjected k) _ s = tt
says_drop w g q (AnnounceSelf k) (Jec j) s = tt
says_drop w g q (AnnounceSelf k) _ s = tt
says_drop w g q (GetSleepy k) Done s = tt
says_drop w g q (GetSleepy k) _ s = tt
says_drop w g q (FallAsleep k) Done s = tt
says_drop w g q (FallAsleep k) _ s = tt
says_drop w g q (LoadCounters k) (Word a b j) s = drop_if w q (Stay _) (Stay _) (j == k.kept) tt tt
says_drop w g q (LoadCounters k) _ s = tt
says_drop w g q (AddSleeping k) Done s = tt
says_drop w g q (AddSleeping k) _ s = tt
says_drop w g q (LookAtCast k) Yes s = tt
says_drop w g q (LookAtCast k) _ s = tt
says_drop w g q (LookAtInjector k) Yes s = tt
says_drop w g q (LookAtInjector k) _ s = tt
says_drop w g q (LeaveSearch k) (Wakes n) s = drop_walk w g q (own_pool q) n 0 (after_found k.target k.found) (drop_found w q k.target k.found)
says_drop w g q (LeaveSearch k) _ s = tt
says_drop w g q (JoinProbe o) Yes s = tt
says_drop w g q (JoinProbe o) _ s = tt
says_drop w g q (JoinPop o) (Task t) s = drop_if w q (Into _ _) (Into _ _) (is_taken t o.job) tt tt
says_drop w g q (JoinPop o) _ s = tt
says_drop w g q (JoinTakeCast o) (Task t) s = tt
says_drop w g q (JoinTakeCast o) _ s = tt
says_drop w g q YieldPop (Task t) s = tt
says_drop w g q YieldPop _ s = tt
says_drop w g q YieldTakeCast (Task t) s = tt
says_drop w g q YieldTakeCast _ s = drop_if w q (Stay YieldPopInjected) (Stay YieldPick) (g.workers == 1) tt tt
says_drop w g q YieldPick (Start v) s = tt
says_drop w g q YieldPick _ s = tt
says_drop w g q (YieldSteal v n) (Task t) s = tt
says_drop w g q (YieldSteal v n) _ s = tt
says_drop w g q YieldPopInjected (Task t) s = tt
says_drop w g q YieldPopInjected _ s = tt
says_drop w g q LocalPop (Task t) s = tt
says_drop w g q LocalPop _ s = tt
says_drop w g q LocalTakeCast (Task t) s = tt
says_drop w g q LocalTakeCast _ s = tt
says_drop w g q (BeginTask (Plain t)) (Begun d) s = tt
says_drop w g q (BeginTask (Plain t)) _ s = tt
says_drop w g q (BeginTask (Token k i b)) (Handed t d) s = tt
says_drop w g q (BeginTask (Token k i b)) _ s = tt
says_drop w g q (AddToFifo f) Done s = tt
says_drop w g q (AddToFifo f) _ s = tt
says_drop w g q (LookForToken f) Yes s = tt
says_drop w g q (LookForToken f) _ s = tt
says_drop w g q (PushToken f v) Done s = tt
says_drop w g q (PushToken f v) _ s = tt
says_drop w g q (TakeFromFifo f) (Task x) s = tt
says_drop w g q (TakeFromFifo f) _ s = tt
says_drop w g q (RaiseForAll c) Done s = tt
says_drop w g q (RaiseForAll c) _ s = tt
says_drop w g q (OpenForAll c) (Slots n) s = tt
says_drop w g q (OpenForAll c) _ s = tt
says_drop w g q (PushForAll c) Done s = tt
says_drop w g q (PushForAll c) _ s = tt
says_drop w g q (LowerForAll c) Yes s = tt
says_drop w g q (LowerForAll c) _ s = tt
says_drop w g q (GrowCast d) Done s = tt
says_drop w g q (GrowCast d) _ s = tt
says_drop w g q (DealPieces d) Done s = tt
says_drop w g q (DealPieces d) _ s = tt
says_drop w g q (RaiseCount n) Done s = drop_raised w q n
says_drop w g q (RaiseCount n) _ s = drop_plan w q n s
says_drop w g q (GrowCall n) Done s = tt
says_drop w g q (GrowCall n) _ s = tt
says_drop w g q (GrowScope o) Done s = tt
says_drop w g q (GrowScope o) _ s = tt
says_drop w g q (OpenSlot n) Done s = tt
says_drop w g q (OpenSlot n) _ s = tt
says_drop w g q (LookQueue n) Yes s = tt
says_drop w g q (LookQueue n) _ s = tt
says_drop w g q (PushJob n v) Done s = tt
says_drop w g q (PushJob n v) _ s = tt
says_drop w g q (TellNews n v) (Wakes k) s = drop_walk w g q (plan_pool n) k 0 (after_news n) (drop_news w q n)
says_drop w g q (TellNews n v) _ s = tt
says_drop w g q (WakeWorker k) Yes s = tt
says_drop w g q (WakeWorker k) _ s = tt
says_drop w g q (UnlockWoken k) e s = drop_walk w g q k.pool k.owed (k.worker + 1) k.then (drop_finish w q k.then s)
says_drop w g q (TakeResult o f) (Found d) s = tt
says_drop w g q (TakeResult o f) _ s = tt
says_drop w g q (LowerCount r a n) Yes s = drop_count w g q r n (s.0)
says_drop w g q (LowerCount r a n) _ s = drop_finish w q n (s.0)
says_drop w g q (SetLatch k) Yes s = tt
says_drop w g q (SetLatch k) _ s = drop_settled w g q k k.latch (s.1)
says_drop w g q (UnlockSettled k) e s = drop_settled w g q k k.latch (s.1)
says_drop w g q (SetLockLatch c n) e s = drop_finish w q n (s.1)
says_drop w g q _ e s = tt
