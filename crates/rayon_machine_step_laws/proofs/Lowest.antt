-- what stands lowest on a stack, over each act and move: a place and the one that takes its room stand equally low, and
-- what comes above is none of these places
--
-- No worker comes to wait for a lock latch: that is shown on the way (`Fits`).
use Rattle.std.proofs.Common.{refl, sym, ◌∙◌}
use Rattle.std.specs.Prelude.{ℕ, Bool, true, false, ◌&&◌, ◌+◌, ◌-◌, ◌==◌, nat_lt, if◌then◌else◌, Option, Some, None, ◌≡◌, List, [], ◌∷◌}
use Rattle.rayon_machine_places.specs.declared.place.Party.{Party}
use Rattle.rayon_machine_places.specs.declared.place.Party.TheVariants.{Worker, Caller}
use Rattle.rayon_machine_places.specs.declared.place.Target.{Target}
use Rattle.rayon_machine_places.specs.declared.place.Target.TheVariants.{Termination, Answer}
use Rattle.rayon_machine_places.specs.declared.place.Latch.{Latch}
use Rattle.rayon_machine_places.specs.declared.place.Latch.TheVariants.{Terminate, OfCall}
use Rattle.rayon_machine_places.specs.declared.place.Rounds.{Rounds}
use Rattle.rayon_machine_places.specs.declared.place.Rounds.TheVariants.{Failed, Announced}
use Rattle.rayon_machine_places.specs.declared.place.Plan.{Plan}
use Rattle.rayon_machine_places.specs.declared.place.Plan.TheVariants.{Detach, Here, Send, Fork, Feed, Open, Enter, Gather}
use Rattle.rayon_machine_places.specs.declared.place.Count.{Count}
use Rattle.rayon_machine_places.specs.declared.place.Count.TheVariants.{OfPool, OfScope, OfCast}
use Rattle.rayon_machine_places.specs.declared.place.Feeding.{Feeding}
use Rattle.rayon_machine_places.specs.declared.place.Pieces.{Pieces}
use Rattle.rayon_machine_places.specs.declared.place.Wait.{Wait}
use Rattle.rayon_machine_places.specs.declared.place.Settling.{Settling}
use Rattle.rayon_machine_places.specs.declared.place.Taken.{Taken}
use Rattle.rayon_machine_places.specs.declared.place.Taken.TheVariants.{Plain, Token}
use Rattle.rayon_machine_places.specs.declared.place.Then.{Then}
use Rattle.rayon_machine_places.specs.declared.place.Then.TheVariants.{BeginFound, LeaveWait, Resume, Await, RunFirst, Answers, Missing as NoResult, Ran, GiveBack, Called, Gathers}
use Rattle.rayon_machine_places.specs.declared.place.Place.{Place}
use Rattle.rayon_machine_places.specs.declared.place.Place.TheVariants.{ProbeWorking, PopWorking, TakeCastWorking, ProbeIdle, PopIdle, TakeCastIdle, PickVictim, StealFrom, PopInjected, AnnounceSelf, GetSleepy, FallAsleep, LoadCounters, AddSleeping, LookAtCast, LookAtInjector, WakeUp, LeaveSearch, JoinProbe, JoinPop, JoinTakeCast, YieldPop, YieldTakeCast, YieldPick, YieldSteal, YieldPopInjected, LocalPop, LocalTakeCast, BeginTask, BeginHere, RaiseCount, GrowCall, GrowScope, OpenSlot, LookQueue, PushJob, AddToFifo, LookForToken, PushToken, TakeFromFifo, RaiseForAll, OpenForAll, PushForAll, LowerForAll, GrowCast, DealPieces, TellNews, LockToWake, WakeWorker, UnlockWoken, WaitForLock, TakeResult, LowerCount, StoreResult, SetLatch, UnlockSettled, SetLockLatch, SecondSide}
use Rattle.rayon_machine_places.specs.declared.place.Move.{Move}
use Rattle.rayon_machine_places.specs.declared.place.Move.TheVariants.{Stay, Enter, StartRun, Back, HandBack, HandIn, Discard, Mark, HandAllBack}
use Rattle.rayon_machine_places.specs.declared.act.Seen.{Seen}
use Rattle.rayon_machine_places.specs.declared.act.Seen.TheVariants.{Done, Yes, Task, Jec, Word, Start, Wakes, Begun, Found, Handed, Opened}
use Rattle.rayon_machine_places.specs.declared.shape.PoolShape.{PoolShape}
use Rattle.rayon_machine_places.specs.Places.{after_failure, after_news, after_found, after_wait, begin_feed, begin_cast, settle_count, end_cast, ends_count, finish, is_taken, next_of, next_steal, next_victim, next_yield, not_self, own_index, own_pool, plan_book, plan_pool, count_book, set_call, settle, after_set, after_slot, taken_number, walk, withdraw}
use Rattle.rayon_machine_runs.specs.Steps.{after_move}
use Rattle.rayon_machine_step_laws.specs.Enabled.{is_worker}
use Rattle.rayon_machine_step_laws.specs.Lowest.{Lowest, lowest_at, then_lowest, wait_lowest}

-- the wait for a lock latch
abbrev pub is_lock_wait : Place → Bool
is_lock_wait (WaitForLock o) = true
is_lock_wait _ = false

-- a place stands as low as this says, and is no worker's wait for a lock latch
abbrev pub Fits : Party → Option Lowest → Place → Type 0
Fits q o x = (lowest_at x ≡ o) × ((is_lock_wait x && is_worker q) ≡ false)

-- a whole stack
abbrev pub Founded : Party → Lowest → Place → List Place → Type 0
Founded q g x [] = Fits q (Some g) x
Founded q g x (f ∷ fs) = Fits q None x × Founded q g f fs

-- a move from a place that stands as low as this
abbrev pub Leads : Party → Option Lowest → Move → Type 0
Leads q o (Stay y) = Fits q o y
Leads q o (HandIn y k) = Fits q o y
Leads q o (Mark y c m) = Fits q o y
Leads q o (Enter f y) = Fits q o f × Fits q None y
Leads q o (StartRun f t) = Fits q o f
Leads q o Back = o ≡ None
Leads q o (HandBack n) = o ≡ None
Leads q o (Discard k) = o ≡ None
Leads q o (HandAllBack c) = o ≡ None

-- what a move leads to
on_top : (q : Party) (g : Lowest) (o : Option Lowest) (x y : Place) (fs : List Place) → lowest_at x ≡ o → Fits q o y → Founded q g x fs → Founded q g y fs
on_top q g o x y [] e f a = (f.0 ∙ sym e ∙ a.0, f.1)
on_top q g o x y (z ∷ fs) e f a = ((f.0 ∙ sym e ∙ a.0.0, f.1), a.1)

pub fits_on : (q : Party) (g : Lowest) (x y : Place) (fs : List Place) → Fits q (lowest_at x) y → Founded q g x fs → Founded q g y fs
fits_on q g x y fs f a = on_top q g (lowest_at x) x y fs refl f a

pub move_founded : (q : Party) (g : Lowest) (x : Place) (m : Move) (fs : List Place) → Leads q (lowest_at x) m → Founded q g x fs → Founded q g ((after_move m fs).top) ((after_move m fs).below)
move_founded q g x (Stay y) fs s a = fits_on q g x y fs s a
move_founded q g x (HandIn y k) fs s a = fits_on q g x y fs s a
move_founded q g x (Mark y c n) fs s a = fits_on q g x y fs s a
move_founded q g x (Enter f y) fs s a = (s.1, fits_on q g x f fs (s.0) a)
move_founded q g x (StartRun f t) fs s a = ((refl, refl), fits_on q g x f fs s a)
move_founded q g x Back [] s a = absurd (let k : Some g ≡ None = sym (a.0) ∙ s in cc)
move_founded q g x (HandBack n) [] s a = absurd (let k : Some g ≡ None = sym (a.0) ∙ s in cc)
move_founded q g x (Discard n) [] s a = absurd (let k : Some g ≡ None = sym (a.0) ∙ s in cc)
move_founded q g x (HandAllBack n) [] s a = absurd (let k : Some g ≡ None = sym (a.0) ∙ s in cc)
move_founded q g x Back (f ∷ fs) s a = a.1
move_founded q g x (HandBack n) (f ∷ fs) s a = a.1
move_founded q g x (Discard n) (f ∷ fs) s a = a.1
move_founded q g x (HandAllBack n) (f ∷ fs) s a = a.1

-- one way or another
either_leads : (q : Party) (o : Option Lowest) (b : Bool) (m n : Move) → Leads q o m → Leads q o n → Leads q o (if b then m else n)
either_leads q o true m n f g = f
either_leads q o false m n f g = g

either_fits : (q : Party) (o : Option Lowest) (b : Bool) (x y : Place) → Fits q o x → Fits q o y → Fits q o (if b then x else y)
either_fits q o true x y f g = f
either_fits q o false x y f g = g

-- the end of a wait
waited : (q : Party) (t : Target) → Fits q (wait_lowest t) (after_wait t)
waited q Termination = (refl, refl)
waited q (Answer o f) = (refl, refl)

-- what follows once others are woken or latches are set
finish_leads : (q : Party) (t : Then) → Leads q (then_lowest t) (finish q t)
finish_leads q (BeginFound g u) = ((refl, refl), (refl, refl))
finish_leads q (LeaveWait g) = waited q g
finish_leads (Worker p i) (Await o) = (refl, refl)
finish_leads (Caller c) (Await o) = (refl, refl)
finish_leads (Worker p i) (Gathers o) = (refl, refl)
finish_leads (Caller c) (Gathers o) = (refl, refl)
finish_leads q (RunFirst o u) = (refl, refl)
finish_leads q Resume = refl
finish_leads q Called = refl
finish_leads q (Answers o f e) = refl
finish_leads q (NoResult o f) = refl
finish_leads q (Ran u e) = refl
finish_leads q (GiveBack n) = refl

walk_leads : (h : PoolShape) (q : Party) (p k i : ℕ) (t : Then) → Leads q (then_lowest t) (walk h q p k i t)
walk_leads h q p k i t = either_leads q (then_lowest t) (nat_lt 0 k && nat_lt i h.workers) (Stay (LockToWake (record { pool = p; owed = k; worker = i; then = t }))) (finish q t) (refl, refl) (finish_leads q t)

settle_leads : (h : PoolShape) (q : Party) (p i : ℕ) (t : Then) → Leads q (then_lowest t) (settle h q p i t)
settle_leads h q p i t = either_leads q (then_lowest t) (nat_lt i h.workers) (Stay (SetLatch (record { latch = Terminate; pool = p; worker = i; then = t }))) (finish q t) (refl, refl) (finish_leads q t)

settled_leads : (h : PoolShape) (q : Party) (s : Settling) (l : Latch) → Leads q (then_lowest s.then) (after_set h q s l)
settled_leads h q s Terminate = settle_leads h q s.pool (s.worker + 1) s.then
settled_leads h q s (OfCall c) = finish_leads q s.then

call_leads : (q : Party) (c : ℕ) (o : Party) (t : Then) → Fits q (then_lowest t) (set_call c o t)
call_leads q c (Worker p i) t = (refl, refl)
call_leads q c (Caller d) t = (refl, refl)

news_leads : (h : PoolShape) (q : Party) (p k : ℕ) (n : Plan) → Leads q None (walk h q p k 0 (after_news n))
news_leads h q p k (Detach r t) = walk_leads h q p k 0 Resume
news_leads h q p k (Here r t) = walk_leads h q p k 0 Resume
news_leads h q p k (Send o) = walk_leads h q p k 0 (Await o)
news_leads h q p k (Fork o a) = walk_leads h q p k 0 (RunFirst o a)
news_leads h q p k (Feed f) = walk_leads h q p k 0 (GiveBack (Detach f.pool f.token))
news_leads h q p k (Open o) = walk_leads h q p k 0 Resume
news_leads h q p k (Enter x) = walk_leads h q p k 0 Resume
news_leads h q p k (Gather g) = walk_leads h q p k 0 (Await g.call)

found_leads : (h : PoolShape) (q : Party) (p k : ℕ) (g : Target) (o : Option Taken) → Leads q (wait_lowest g) (walk h q p k 0 (after_found g o))
found_leads h q p k g None = walk_leads h q p k 0 (LeaveWait g)
found_leads h q p k g (Some t) = walk_leads h q p k 0 (BeginFound g t)

failed_leads : (h : PoolShape) (q : Party) (k : Wait) (r : Rounds) → Fits q (wait_lowest k.target) (after_failure h k r)
failed_leads h q k (Failed n) = either_fits q (wait_lowest k.target) (nat_lt n h.limit) (ProbeIdle (record k { rounds = Failed (n + 1) })) (AnnounceSelf k) (refl, refl) (refl, refl)
failed_leads h q k Announced = (refl, refl)

pub steal_leads : (h : PoolShape) (q : Party) (k : Wait) (n : ℕ) → Fits q (wait_lowest k.target) (next_steal h q k n)
steal_leads h q k n = either_fits q (wait_lowest k.target) (n == 0) (PopInjected k) (StealFrom (record k { victim = not_self h.workers (own_index q) (next_victim h.workers k.victim) }) (n - 1)) (refl, refl) (refl, refl)

pub yield_leads : (h : PoolShape) (q : Party) (v n : ℕ) → Fits q None (next_yield h q v n)
yield_leads h q v n = either_fits q None (n == 0) YieldPopInjected (YieldSteal (not_self h.workers (own_index q) (next_victim h.workers v)) (n - 1)) (refl, refl) (refl, refl)

-- how a call goes on
fed_leads : (q : Party) (f : Feeding) (k : Count) → Fits q None (begin_feed k f)
fed_leads q f (OfPool p) = (refl, refl)
fed_leads q f (OfScope c o) = (refl, refl)
fed_leads q f (OfCast c o) = (refl, refl)

cast_leads : (q : Party) (c : Pieces) (k : Count) → Fits q None (begin_cast k c)
cast_leads q c (OfPool p) = (refl, refl)
cast_leads q c (OfScope n o) = (refl, refl)
cast_leads q c (OfCast n o) = (refl, refl)

pub uncast_leads : (q : Party) (c : Pieces) (k : Count) → Fits q None (end_cast k c)
uncast_leads q c (OfPool p) = (refl, refl)
uncast_leads q c (OfScope n o) = (refl, refl)
uncast_leads q c (OfCast n o) = (refl, refl)

over_leads : (q : Party) (k : Count) → Fits q None (ends_count k)
over_leads q (OfPool p) = (refl, refl)
over_leads q (OfScope c o) = call_leads q c o Resume
over_leads q (OfCast c o) = call_leads q c o Resume

pub withdraw_leads : (q : Party) (o : Option ℕ) (n : Plan) → Fits q None (withdraw o n)
withdraw_leads q None n = (refl, refl)
withdraw_leads q (Some c) n = (refl, refl)

slot_leads : (q : Party) (n : Plan) → Fits q None (after_slot n)
slot_leads q (Feed f) = (refl, refl)
slot_leads q _ = (refl, refl)

raise_leads : (h : PoolShape) (q : Party) (n : Plan) (e : Seen) → Leads q None (next_of h q (RaiseCount n) e)
raise_leads h q (Detach p t) Done = (refl, refl)
raise_leads h q (Here p t) Done = ((refl, refl), (refl, refl))
raise_leads h q (Send o) Done = (refl, refl)
raise_leads h q (Fork o a) Done = (refl, refl)
raise_leads h q (Feed f) Done = fed_leads q f f.count
raise_leads h q (Open o) Done = (refl, refl)
raise_leads h q (Enter x) Done = (refl, refl)
raise_leads h q (Gather g) Done = (refl, refl)
raise_leads h q n _ = refl

begin_leads : (h : PoolShape) (q : Party) (t : Taken) (e : Seen) → Leads q None (next_of h q (BeginTask t) e)
begin_leads h q (Plain t) (Begun d) = (refl, refl)
begin_leads h q (Plain t) _ = (refl, refl)
begin_leads h q (Token k i b) (Handed t d) = (refl, refl)
begin_leads h q (Token k i b) _ = refl

lower_leads : (h : PoolShape) (q : Party) (k : Count) (t : Then) → Leads q (then_lowest t) (settle_count h q k t)
lower_leads h q (OfPool p) t = settle_leads h q p 0 t
lower_leads h q (OfScope c o) t = call_leads q c o t
lower_leads h q (OfCast c o) t = call_leads q c o t

-- where each place leads
pub leads : (h : PoolShape) (q : Party) (x : Place) (e : Seen) → Leads q (lowest_at x) (next_of h q x e)
leads h q (ProbeWorking k) Yes = waited q k.target
leads h q (ProbeWorking k) _ = (refl, refl)
leads h q (PopWorking k) (Task t) = ((refl, refl), (refl, refl))
leads h q (PopWorking k) _ = (refl, refl)
leads h q (TakeCastWorking k) (Task t) = ((refl, refl), (refl, refl))
leads h q (TakeCastWorking k) _ = (refl, refl)
leads h q (ProbeIdle k) Yes = (refl, refl)
leads h q (ProbeIdle k) _ = (refl, refl)
leads h q (PopIdle k) (Task t) = (refl, refl)
leads h q (PopIdle k) _ = (refl, refl)
leads h q (TakeCastIdle k) (Task t) = (refl, refl)
leads h q (TakeCastIdle k) _ = either_leads q (wait_lowest k.target) (h.workers == 1) (Stay (PopInjected k)) (Stay (PickVictim k)) (refl, refl) (refl, refl)
leads h q (PickVictim k) (Start v) = (refl, refl)
leads h q (PickVictim k) _ = (refl, refl)
leads h q (StealFrom k n) (Task t) = (refl, refl)
leads h q (StealFrom k n) _ = steal_leads h q k n
leads h q (PopInjected k) (Task t) = (refl, refl)
leads h q (PopInjected k) _ = failed_leads h q k k.rounds
leads h q (AnnounceSelf k) (Jec j) = (refl, refl)
leads h q (AnnounceSelf k) _ = (refl, refl)
leads h q (GetSleepy k) Done = (refl, refl)
leads h q (GetSleepy k) _ = (refl, refl)
leads h q (FallAsleep k) Done = (refl, refl)
leads h q (FallAsleep k) _ = (refl, refl)
leads h q (LoadCounters k) (Word a b j) = either_leads q (wait_lowest k.target) (j == k.kept) (Stay (AddSleeping (record k { sleeping = a; inactive = b }))) (Stay (WakeUp (record k { rounds = Failed h.limit }))) (refl, refl) (refl, refl)
leads h q (LoadCounters k) _ = (refl, refl)
leads h q (AddSleeping k) Done = (refl, refl)
leads h q (AddSleeping k) _ = (refl, refl)
leads h q (LookAtCast k) Yes = (refl, refl)
leads h q (LookAtCast k) _ = (refl, refl)
leads h q (LookAtInjector k) Yes = (refl, refl)
leads h q (LookAtInjector k) _ = (refl, refl)
leads h q (LeaveSearch k) (Wakes n) = found_leads h q (own_pool q) n k.target k.found
leads h q (LeaveSearch k) _ = (refl, refl)
leads h q (JoinProbe o) Yes = (refl, refl)
leads h q (JoinProbe o) _ = (refl, refl)
leads h q (JoinPop o) (Task t) = either_leads q None (is_taken t o.job) (Enter (SecondSide o) (BeginHere o.job)) (Enter (JoinProbe o) (BeginTask t)) ((refl, refl), (refl, refl)) ((refl, refl), (refl, refl))
leads h q (JoinPop o) _ = (refl, refl)
leads h q (JoinTakeCast o) (Task t) = ((refl, refl), (refl, refl))
leads h q (JoinTakeCast o) _ = (refl, refl)
leads h q YieldPop (Task t) = (refl, refl)
leads h q YieldPop _ = (refl, refl)
leads h q YieldTakeCast (Task t) = (refl, refl)
leads h q YieldTakeCast _ = either_leads q None (h.workers == 1) (Stay YieldPopInjected) (Stay YieldPick) (refl, refl) (refl, refl)
leads h q YieldPick (Start v) = (refl, refl)
leads h q YieldPick _ = (refl, refl)
leads h q (YieldSteal v n) (Task t) = (refl, refl)
leads h q (YieldSteal v n) _ = yield_leads h q v n
leads h q YieldPopInjected (Task t) = (refl, refl)
leads h q YieldPopInjected _ = refl
leads h q LocalPop (Task t) = (refl, refl)
leads h q LocalPop _ = (refl, refl)
leads h q LocalTakeCast (Task t) = (refl, refl)
leads h q LocalTakeCast _ = refl
leads h q (BeginTask t) e = begin_leads h q t e
leads h q (RaiseCount n) e = raise_leads h q n e
leads h q (GrowCall n) Done = (refl, refl)
leads h q (GrowCall n) _ = (refl, refl)
leads h q (GrowScope o) Done = (refl, refl)
leads h q (GrowScope o) _ = (refl, refl)
leads h q (OpenSlot n) Done = slot_leads q n
leads h q (OpenSlot n) _ = (refl, refl)
leads h q (LookQueue n) Yes = (refl, refl)
leads h q (LookQueue n) _ = (refl, refl)
leads h q (PushJob n v) Done = (refl, refl)
leads h q (PushJob n v) _ = withdraw_leads q (plan_book n) n
leads h q (AddToFifo f) Done = (refl, refl)
leads h q (AddToFifo f) _ = withdraw_leads q (count_book f.count) (Feed f)
leads h q (LookForToken f) Yes = (refl, refl)
leads h q (LookForToken f) _ = (refl, refl)
leads h q (PushToken f v) Done = (refl, refl)
leads h q (PushToken f v) _ = (refl, refl)
leads h q (TakeFromFifo f) (Task x) = withdraw_leads q (count_book f.count) (Feed (record f { job = taken_number x }))
leads h q (TakeFromFifo f) _ = refl
leads h q (RaiseForAll c) Done = cast_leads q c c.count
leads h q (RaiseForAll c) _ = refl
leads h q (OpenForAll c) (Opened n) = (refl, refl)
leads h q (OpenForAll c) _ = (refl, refl)
leads h q (PushForAll c) Done = (refl, refl)
leads h q (PushForAll c) _ = uncast_leads q c c.count
leads h q (LowerForAll c) Yes = over_leads q c.count
leads h q (LowerForAll c) _ = refl
leads h q (GrowCast g) Done = (refl, refl)
leads h q (GrowCast g) _ = (refl, refl)
leads h q (DealPieces g) Done = (refl, refl)
leads h q (DealPieces g) _ = (refl, refl)
leads h q (TellNews n v) (Wakes k) = news_leads h q (plan_pool n) k n
leads h q (TellNews n v) _ = (refl, refl)
leads h q (WakeWorker k) Yes = (refl, refl)
leads h q (WakeWorker k) _ = (refl, refl)
leads h q (UnlockWoken k) e = walk_leads h q k.pool k.owed (k.worker + 1) k.then
leads h q (TakeResult o f) (Found e) = (refl, refl)
leads h q (TakeResult o f) _ = (refl, refl)
leads h q (LowerCount k s t) Yes = lower_leads h q k t
leads h q (LowerCount k s t) _ = finish_leads q t
leads h q (StoreResult c o e) s = call_leads q c o Resume
leads h q (SetLatch s) Yes = (refl, refl)
leads h q (SetLatch s) _ = settled_leads h q s s.latch
leads h q (UnlockSettled s) e = settled_leads h q s s.latch
leads h q (SetLockLatch c t) e = finish_leads q t
leads h q _ e = (refl, refl)
