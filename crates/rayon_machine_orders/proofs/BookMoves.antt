-- which places say nothing of a book and lead to such places alone, and which moves change numbers of books
use Rattle.std.proofs.Common.{refl, ◌∙◌, ap}
use Rattle.rayon_machine_orders.proofs.Words.{ℕ, Bool, true, false, ◌&&◌, ◌+◌, ◌-◌, ◌==◌, ◌≤◌, nat_lt, if◌then◌else◌, ◌≡◌, Party, Worker, Caller, Target, Termination, Answer, Latch, Terminate, OfCall, Rounds, Failed, Announced, Plan, Detach, Here, Send, Fork, Feed, Open, Enter, Gather, Feeding}
use Rattle.rayon_machine_orders.proofs.Words.{Pieces, Numbered, Dealt, Unnumbered, Count, OfPool, OfScope, OfCast, Share, Then, BeginFound, LeaveWait, Resume, Await, RunFirst, Answers, Missing, Ran, GiveBack, Called, Gathers, Taken, Plain, Token, Wait, Settling, OpenCall, Place, ProbeWorking}
use Rattle.rayon_machine_orders.proofs.Words.{PopWorking, TakeCastWorking, ProbeIdle, PopIdle, TakeCastIdle, PickVictim, StealFrom, PopInjected, AnnounceSelf, GetSleepy, FallAsleep, LoadCounters, AddSleeping, LookAtCast, LookAtInjector, WakeUp, LeaveSearch, JoinProbe, JoinPop, JoinTakeCast}
use Rattle.rayon_machine_orders.proofs.Words.{YieldPop, YieldTakeCast, YieldPick, YieldSteal, YieldPopInjected, LocalPop, LocalTakeCast, BeginTask, BeginHere, Run, RaiseCount, GrowCall, LookQueue, PushJob, TellNews, LockToWake, WakeWorker, UnlockWoken, TakeResult, LowerCount, StoreResult}
use Rattle.rayon_machine_orders.proofs.Words.{SetLatch, UnlockSettled, SetLockLatch, FirstSide, SecondSide, AtOnce, Free, Stopped, AddToFifo, LookForToken, PushToken, TakeFromFifo, RaiseForAll, PushForAll, LowerForAll, GrowScope, OpenSlot, CloseSlot, StoreSlot, ScopeBody, OpenForAll}
use Rattle.rayon_machine_orders.proofs.Words.{CloseForAll, GrowCast, DealPieces, Move, Stay, EnterAbove as Enter, Mark, Seen, Done, Yes, Task, Jec, Word, Start, Wakes, Begun, Found, Handed, PoolShape, own_pool, own_index, plan_pool, plan_job, plan_count, plan_book, after_wait, finish, walk}
use Rattle.rayon_machine_orders.proofs.Words.{settle, after_set, after_found, after_news, after_raise, undo, after_push, set_call, settle_count, next_victim, not_self, after_failure, next_steal, next_yield, next_of, is_taken, taken_number, count_book, withdraw, begin_feed, begin_cast, end_cast}
use Rattle.rayon_machine_orders.proofs.Words.{ends_count}
use Rattle.rayon_machine_laws.proofs.Tops.{Tops}
use Rattle.rayon_machine_laws.proofs.Seats.{is_frame}
use Rattle.rayon_machine_orders.proofs.BookStates.{is_nothing, fresh_state, open_state, hold_state, line_state, close_state, shut_state, grow_state, fresh_all, open_all, hold_all, close_all, shut_all, book_free}

-- a move to places that say nothing of a book
abbrev pub Clear : Move → Type 0
Clear g = Tops (λ y. book_free y ≡ true) g

left_free : (g : Target) → book_free (after_wait g) ≡ true
left_free Termination = refl
left_free (Answer o f) = refl

finish_free : (q : Party) (n : Then) → Clear (finish q n)
finish_free q (BeginFound g t) = refl
finish_free q (LeaveWait g) = left_free g
finish_free (Worker a b) (Await o) = refl
finish_free (Caller c) (Await o) = refl
finish_free (Worker a b) (Gathers o) = refl
finish_free (Caller c) (Gathers o) = refl
finish_free q (RunFirst o a) = refl
finish_free q _ = tt

walk_free : (g : PoolShape) (q : Party) (p k i : ℕ) (n : Then) → Clear (walk g q p k i n)
walk_free g q p k i n = by (nat_lt 0 k && nat_lt i g.workers)
  where
    by : (z : Bool) → Clear (if z then Stay (LockToWake (record { pool = p; owed = k; worker = i; then = n })) else finish q n)
    by true = refl
    by false = finish_free q n

settle_free : (g : PoolShape) (q : Party) (p i : ℕ) (n : Then) → Clear (settle g q p i n)
settle_free g q p i n = by (nat_lt i g.workers)
  where
    by : (z : Bool) → Clear (if z then Stay (SetLatch (record { latch = Terminate; pool = p; worker = i; then = n })) else finish q n)
    by true = refl
    by false = finish_free q n

settled_free : (g : PoolShape) (q : Party) (k : Settling) (l : Latch) → Clear (after_set g q k l)
settled_free g q k Terminate = settle_free g q k.pool (k.worker + 1) k.then
settled_free g q k (OfCall i) = finish_free q k.then

if_free : (x y : Place) (z : Bool) → book_free x ≡ true → book_free y ≡ true → Clear (if z then Stay x else Stay y)
if_free x y true a b = a
if_free x y false a b = b

pop_free : (o : OpenCall) (u : Taken) → Clear (if is_taken u o.job then Enter (SecondSide o) (BeginHere o.job) else Enter (JoinProbe o) (BeginTask u))
pop_free o u = by (is_taken u o.job)
  where
    by : (z : Bool) → Clear (if z then Enter (SecondSide o) (BeginHere o.job) else Enter (JoinProbe o) (BeginTask u))
    by true = refl
    by false = refl

pub steal_free : (g : PoolShape) (q : Party) (k : Wait) (n : ℕ) → book_free (next_steal g q k n) ≡ true
steal_free g q k n = by (n == 0)
  where
    by : (z : Bool) → book_free (if z then PopInjected k else StealFrom (record k { victim = not_self g.workers (own_index q) (next_victim g.workers k.victim) }) (n - 1)) ≡ true
    by true = refl
    by false = refl

pub yield_free : (g : PoolShape) (q : Party) (v n : ℕ) → book_free (next_yield g q v n) ≡ true
yield_free g q v n = by (n == 0)
  where
    by : (z : Bool) → book_free (if z then YieldPopInjected else YieldSteal (not_self g.workers (own_index q) (next_victim g.workers v)) (n - 1)) ≡ true
    by true = refl
    by false = refl

failed_free : (g : PoolShape) (k : Wait) (r : Rounds) → book_free (after_failure g k r) ≡ true
failed_free g k (Failed n) = by (nat_lt n g.limit)
  where
    by : (z : Bool) → book_free (if z then ProbeIdle (record k { rounds = Failed (n + 1) }) else AnnounceSelf k) ≡ true
    by true = refl
    by false = refl
failed_free g k Announced = refl

call_free : (c : ℕ) (o : Party) (n : Then) → book_free (set_call c o n) ≡ true
call_free c (Worker a b) n = refl
call_free c (Caller m) n = refl

count_free : (g : PoolShape) (q : Party) (k : Count) (n : Then) → Clear (settle_count g q k n)
count_free g q (OfPool p) n = settle_free g q p 0 n
count_free g q (OfScope c o) n = call_free c o n
count_free g q (OfCast c o) n = call_free c o n

pub lower_clear : (g : PoolShape) (q : Party) (k : Count) (a : Share) (n : Then) (e : Seen) → Clear (next_of g q (LowerCount k a n) e)
lower_clear g q k a n Yes = count_free g q k n
lower_clear g q k a n _ = finish_free q n

-- from one state to another, by the count
grow_hold : (k : Count) (t : ℕ) → is_nothing (grow_state k) ≡ true → is_nothing (hold_state k t) ≡ true
grow_hold (OfScope c o) t z = cc
grow_hold _ t z = refl

grow_shut : (k : Count) (t : ℕ) → is_nothing (grow_state k) ≡ true → is_nothing (shut_state k t) ≡ true
grow_shut (OfScope c o) t z = cc
grow_shut _ t z = refl

hold_line : (k : Count) (t : ℕ) → is_nothing (hold_state k t) ≡ true → is_nothing (line_state k t) ≡ true
hold_line (OfScope c o) t z = cc
hold_line _ t z = refl

pub open_not : (k : Count) (t : ℕ) → is_nothing (open_state k t) ≡ true → ⊥
open_not (OfPool p) t z = cc
open_not _ t z = cc

pub close_not : (k : Count) (t : ℕ) → is_nothing (close_state k t) ≡ true → ⊥
close_not (OfPool p) t z = cc
close_not _ t z = cc

pub open_all_not : (k : Count) (b : Pieces) → is_nothing (open_all k b) ≡ true → ⊥
open_all_not (OfPool p) b z = cc
open_all_not _ b z = cc

pub close_all_not : (k : Count) (b : Pieces) → is_nothing (close_all k b) ≡ true → ⊥
close_all_not (OfPool p) b z = cc
close_all_not _ b z = cc

-- a spawn in order, a call that is refused, and pieces
fed_free : (k : Count) (f : Feeding) → f.count ≡ k → is_nothing (fresh_state k f.job) ≡ true → book_free (begin_feed k f) ≡ true
fed_free (OfPool p) f e z = ap (λ c. is_nothing (hold_state c f.job)) e
fed_free (OfScope c o) f e z = cc
fed_free (OfCast c o) f e z = ap (λ c. is_nothing (hold_state c f.job)) e

raised_free : (n : Plan) → book_free (RaiseCount n) ≡ true → Clear (after_raise n)
raised_free (Feed f) z = fed_free f.count f refl z
raised_free (Enter e) z = cc
raised_free _ z = refl

pub plan_book_is : (n : Plan) → plan_book n ≡ count_book (plan_count n)
plan_book_is (Detach p t) = refl
plan_book_is _ = refl

pub drawn_free : (k : Count) (n : Plan) → plan_count n ≡ k → is_nothing (hold_state k (plan_job n)) ≡ true → book_free (withdraw (count_book k) n) ≡ true
drawn_free (OfPool p) n e z = ap (λ c. is_nothing (shut_state c (plan_job n))) e
drawn_free (OfScope c o) n e z = cc
drawn_free (OfCast c o) n e z = ap (λ c. is_nothing (shut_state c (plan_job n))) e

pub unpushed_free : (n : Plan) (v : Bool) → book_free (PushJob n v) ≡ true → book_free (after_push n) ≡ true
unpushed_free n v z = ap (λ b. book_free (withdraw b n)) (plan_book_is n) ∙ drawn_free (plan_count n) n refl z

pub undo_free : (n : Plan) → book_free (GrowCall n) ≡ true → book_free (undo n) ≡ true
undo_free n z = grow_shut (plan_count n) (plan_job n) z

line_hold : (k : Count) (t u : ℕ) → is_nothing (line_state k t) ≡ true → is_nothing (hold_state k u) ≡ true
line_hold (OfScope c o) t u z = cc
line_hold _ t u z = refl

begun_free : (k : Count) (b : Pieces) → b.count ≡ k → is_nothing (fresh_all k b) ≡ true → book_free (begin_cast k b) ≡ true
begun_free (OfPool p) b e z = ap (λ c. is_nothing (hold_all c b)) e
begun_free (OfScope c o) b e z = cc
begun_free (OfCast c o) b e z = ap (λ c. is_nothing (hold_all c b)) e

pub undealt_free : (k : Count) (b : Pieces) → b.count ≡ k → is_nothing (hold_all k b) ≡ true → book_free (end_cast k b) ≡ true
undealt_free (OfPool p) b e z = ap (λ c. is_nothing (shut_all c b)) e
undealt_free (OfScope c o) b e z = cc
undealt_free (OfCast c o) b e z = ap (λ c. is_nothing (shut_all c b)) e

pub ends_free : (k : Count) → book_free (ends_count k) ≡ true
ends_free (OfPool p) = refl
ends_free (OfScope c o) = call_free c o Resume
ends_free (OfCast c o) = call_free c o Resume

pub lower_all_clear : (g : PoolShape) (q : Party) (b : Pieces) (e : Seen) → Clear (next_of g q (LowerForAll b) e)
lower_all_clear g q b Yes = ends_free b.count
lower_all_clear g q b _ = tt

-- over the whole table: from such a place only to such places
pub book_next : (g : PoolShape) (q : Party) (x : Place) (e : Seen) → book_free x ≡ true → Clear (next_of g q x e)
book_next g q (ProbeWorking k) Yes z = left_free k.target
book_next g q (ProbeWorking k) _ z = refl
book_next g q (PopWorking k) (Task u) z = refl
book_next g q (PopWorking k) _ z = refl
book_next g q (TakeCastWorking k) (Task u) z = refl
book_next g q (TakeCastWorking k) _ z = refl
book_next g q (ProbeIdle k) Yes z = refl
book_next g q (ProbeIdle k) _ z = refl
book_next g q (PopIdle k) (Task u) z = refl
book_next g q (PopIdle k) _ z = refl
book_next g q (TakeCastIdle k) (Task u) z = refl
book_next g q (TakeCastIdle k) _ z = if_free (PopInjected k) (PickVictim k) (g.workers == 1) refl refl
book_next g q (PickVictim k) (Start v) z = refl
book_next g q (PickVictim k) _ z = refl
book_next g q (StealFrom k n) (Task u) z = refl
book_next g q (StealFrom k n) _ z = steal_free g q k n
book_next g q (PopInjected k) (Task u) z = refl
book_next g q (PopInjected k) _ z = failed_free g k k.rounds
book_next g q (AnnounceSelf k) (Jec j) z = refl
book_next g q (AnnounceSelf k) _ z = refl
book_next g q (GetSleepy k) Done z = refl
book_next g q (GetSleepy k) _ z = refl
book_next g q (FallAsleep k) Done z = refl
book_next g q (FallAsleep k) _ z = refl
book_next g q (AddSleeping k) Done z = refl
book_next g q (AddSleeping k) _ z = refl
book_next g q (LookAtCast k) Yes z = refl
book_next g q (LookAtCast k) _ z = refl
book_next g q (LookAtInjector k) Yes z = refl
book_next g q (LookAtInjector k) _ z = refl
book_next g q (LoadCounters k) (Word a1 b1 j) z = if_free (AddSleeping (record k { sleeping = a1; inactive = b1 })) (WakeUp (record k { rounds = Failed g.limit })) (j == k.kept) refl refl
book_next g q (LoadCounters k) _ z = refl
book_next g q (LeaveSearch k) (Wakes n) z = walk_free g q (own_pool q) n 0 (after_found k.target k.found)
book_next g q (LeaveSearch k) _ z = refl
book_next g q (JoinProbe o) Yes z = refl
book_next g q (JoinProbe o) _ z = refl
book_next g q (JoinPop o) (Task u) z = pop_free o u
book_next g q (JoinPop o) _ z = refl
book_next g q (JoinTakeCast o) (Task u) z = refl
book_next g q (JoinTakeCast o) _ z = refl
book_next g q YieldPop (Task u) z = refl
book_next g q YieldPop _ z = refl
book_next g q YieldPopInjected (Task u) z = refl
book_next g q YieldPopInjected _ z = tt
book_next g q LocalPop (Task u) z = refl
book_next g q LocalPop _ z = refl
book_next g q LocalTakeCast (Task u) z = refl
book_next g q LocalTakeCast _ z = tt
book_next g q YieldTakeCast (Task u) z = refl
book_next g q YieldTakeCast _ z = if_free YieldPopInjected YieldPick (g.workers == 1) refl refl
book_next g q YieldPick (Start v) z = refl
book_next g q YieldPick _ z = refl
book_next g q (YieldSteal v n) (Task u) z = refl
book_next g q (YieldSteal v n) _ z = yield_free g q v n
book_next g q (BeginTask (Plain u)) (Begun d) z = refl
book_next g q (BeginTask (Plain u)) _ z = refl
book_next g q (BeginTask (Token k i b8)) (Handed u d) z = refl
book_next g q (BeginTask (Token k i b8)) _ z = tt
book_next g q (AddToFifo f) Done z = hold_line f.count f.job z
book_next g q (AddToFifo f) _ z = drawn_free f.count (Feed f) refl z
book_next g q (LookForToken f) Yes z = z
book_next g q (LookForToken f) _ z = z
book_next g q (PushToken f v) Done z = refl
book_next g q (PushToken f v) _ z = z
book_next g q (TakeFromFifo f) (Task x) z = drawn_free f.count (Feed (record f { job = taken_number x })) refl (line_hold f.count f.job (taken_number x) z)
book_next g q (TakeFromFifo f) _ z = tt
book_next g q (RaiseForAll b) Done z = begun_free b.count b refl z
book_next g q (RaiseForAll b) _ z = tt
book_next g q (PushForAll b) Done z = refl
book_next g q (PushForAll b) _ z = undealt_free b.count b refl z
book_next g q (LowerForAll b) e z = lower_all_clear g q b e
book_next g q (OpenForAll b) e z = absurd (open_all_not b.count b z)
book_next g q (CloseForAll b) e z = absurd (close_all_not b.count b z)
book_next g q (GrowCast d) Done z = refl
book_next g q (GrowCast d) _ z = refl
book_next g q (DealPieces d) Done z = refl
book_next g q (DealPieces d) _ z = refl
book_next g q (TellNews n v) (Wakes k) z = walk_free g q (plan_pool n) k 0 (after_news n)
book_next g q (TellNews n v) _ z = refl
book_next g q (WakeWorker k) Yes z = refl
book_next g q (WakeWorker k) _ z = refl
book_next g q (UnlockWoken k) e z = walk_free g q k.pool k.owed (k.worker + 1) k.then
book_next g q (TakeResult o f) (Found d) z = refl
book_next g q (TakeResult o f) _ z = refl
book_next g q (StoreResult i o d) e z = call_free i o Resume
book_next g q (SetLatch k) Yes z = refl
book_next g q (SetLatch k) _ z = settled_free g q k k.latch
book_next g q (UnlockSettled k) e z = settled_free g q k k.latch
book_next g q (SetLockLatch c n) e z = finish_free q n
book_next g q (GrowScope o) Done z = refl
book_next g q (GrowScope o) _ z = refl
book_next g q (RaiseCount n) Done z = raised_free n z
book_next g q (RaiseCount n) _ z = tt
book_next g q (GrowCall n) Done z = grow_hold (plan_count n) (plan_job n) z
book_next g q (GrowCall n) _ z = undo_free n z
book_next g q (LookQueue n) Yes z = z
book_next g q (LookQueue n) _ z = z
book_next g q (PushJob n v) Done z = refl
book_next g q (PushJob n v) _ z = unpushed_free n v z
book_next g q (OpenSlot n) e z = absurd (open_not (plan_count n) (plan_job n) z)
book_next g q (CloseSlot n) e z = absurd (close_not (plan_count n) (plan_job n) z)
book_next g q (StoreSlot c o t d) e z = cc
book_next g q (LowerCount k a n) e z = lower_clear g q k a n e
book_next g q _ e z = refl

-- a move that changes numbers of books
abbrev pub is_numbering : Move → Bool
is_numbering (Mark y c (Numbered n)) = true
is_numbering (Mark y c Unnumbered) = true
is_numbering (Mark y c Dealt) = true
is_numbering _ = false

-- the places with such moves
abbrev pub is_numbered : Place → Bool
is_numbered (OpenForAll b) = true
is_numbered (CloseForAll b) = true
is_numbered (DealPieces g) = true
is_numbered _ = false

finish_plain : (q : Party) (n : Then) → is_numbering (finish q n) ≡ false
finish_plain q (BeginFound g t) = refl
finish_plain q _ = refl

walk_plain : (g : PoolShape) (q : Party) (p k i : ℕ) (n : Then) → is_numbering (walk g q p k i n) ≡ false
walk_plain g q p k i n = by (nat_lt 0 k && nat_lt i g.workers)
  where
    by : (z : Bool) → is_numbering (if z then Stay (LockToWake (record { pool = p; owed = k; worker = i; then = n })) else finish q n) ≡ false
    by true = refl
    by false = finish_plain q n

settle_plain : (g : PoolShape) (q : Party) (p i : ℕ) (n : Then) → is_numbering (settle g q p i n) ≡ false
settle_plain g q p i n = by (nat_lt i g.workers)
  where
    by : (z : Bool) → is_numbering (if z then Stay (SetLatch (record { latch = Terminate; pool = p; worker = i; then = n })) else finish q n) ≡ false
    by true = refl
    by false = finish_plain q n

settled_plain : (g : PoolShape) (q : Party) (k : Settling) (l : Latch) → is_numbering (after_set g q k l) ≡ false
settled_plain g q k Terminate = settle_plain g q k.pool (k.worker + 1) k.then
settled_plain g q k (OfCall i) = finish_plain q k.then

if_plain : (x y : Place) (z : Bool) → is_numbering (if z then Stay x else Stay y) ≡ false
if_plain x y true = refl
if_plain x y false = refl

pop_plain : (o : OpenCall) (u : Taken) → is_numbering (if is_taken u o.job then Enter (SecondSide o) (BeginHere o.job) else Enter (JoinProbe o) (BeginTask u)) ≡ false
pop_plain o u = by (is_taken u o.job)
  where
    by : (z : Bool) → is_numbering (if z then Enter (SecondSide o) (BeginHere o.job) else Enter (JoinProbe o) (BeginTask u)) ≡ false
    by true = refl
    by false = refl

count_plain : (g : PoolShape) (q : Party) (k : Count) (n : Then) → is_numbering (settle_count g q k n) ≡ false
count_plain g q (OfPool p) n = settle_plain g q p 0 n
count_plain g q _ n = refl

lower_plain : (g : PoolShape) (q : Party) (k : Count) (a : Share) (n : Then) (e : Seen) → is_numbering (next_of g q (LowerCount k a n) e) ≡ false
lower_plain g q k a n Yes = count_plain g q k n
lower_plain g q k a n _ = finish_plain q n

raised_plain : (n : Plan) → is_numbering (after_raise n) ≡ false
raised_plain (Detach p t) = refl
raised_plain _ = refl

-- no other place has one
pub numbers_next : (g : PoolShape) (q : Party) (x : Place) (e : Seen) → is_numbered x ≡ false → is_numbering (next_of g q x e) ≡ false
numbers_next g q (ProbeWorking k) Yes z = refl
numbers_next g q (ProbeWorking k) _ z = refl
numbers_next g q (PopWorking k) (Task u) z = refl
numbers_next g q (PopWorking k) _ z = refl
numbers_next g q (TakeCastWorking k) (Task u) z = refl
numbers_next g q (TakeCastWorking k) _ z = refl
numbers_next g q (ProbeIdle k) Yes z = refl
numbers_next g q (ProbeIdle k) _ z = refl
numbers_next g q (PopIdle k) (Task u) z = refl
numbers_next g q (PopIdle k) _ z = refl
numbers_next g q (TakeCastIdle k) (Task u) z = refl
numbers_next g q (TakeCastIdle k) _ z = if_plain (PopInjected k) (PickVictim k) (g.workers == 1)
numbers_next g q (PickVictim k) (Start v) z = refl
numbers_next g q (PickVictim k) _ z = refl
numbers_next g q (StealFrom k n) (Task u) z = refl
numbers_next g q (StealFrom k n) _ z = refl
numbers_next g q (PopInjected k) (Task u) z = refl
numbers_next g q (PopInjected k) _ z = refl
numbers_next g q (AnnounceSelf k) (Jec j) z = refl
numbers_next g q (AnnounceSelf k) _ z = refl
numbers_next g q (GetSleepy k) Done z = refl
numbers_next g q (GetSleepy k) _ z = refl
numbers_next g q (FallAsleep k) Done z = refl
numbers_next g q (FallAsleep k) _ z = refl
numbers_next g q (AddSleeping k) Done z = refl
numbers_next g q (AddSleeping k) _ z = refl
numbers_next g q (LookAtCast k) Yes z = refl
numbers_next g q (LookAtCast k) _ z = refl
numbers_next g q (LookAtInjector k) Yes z = refl
numbers_next g q (LookAtInjector k) _ z = refl
numbers_next g q (LoadCounters k) (Word a1 b1 j) z = if_plain (AddSleeping (record k { sleeping = a1; inactive = b1 })) (WakeUp (record k { rounds = Failed g.limit })) (j == k.kept)
numbers_next g q (LoadCounters k) _ z = refl
numbers_next g q (LeaveSearch k) (Wakes n) z = walk_plain g q (own_pool q) n 0 (after_found k.target k.found)
numbers_next g q (LeaveSearch k) _ z = refl
numbers_next g q (JoinProbe o) Yes z = refl
numbers_next g q (JoinProbe o) _ z = refl
numbers_next g q (JoinPop o) (Task u) z = pop_plain o u
numbers_next g q (JoinPop o) _ z = refl
numbers_next g q (JoinTakeCast o) (Task u) z = refl
numbers_next g q (JoinTakeCast o) _ z = refl
numbers_next g q YieldPop (Task u) z = refl
numbers_next g q YieldPop _ z = refl
numbers_next g q YieldPopInjected (Task u) z = refl
numbers_next g q YieldPopInjected _ z = refl
numbers_next g q LocalPop (Task u) z = refl
numbers_next g q LocalPop _ z = refl
numbers_next g q LocalTakeCast (Task u) z = refl
numbers_next g q LocalTakeCast _ z = refl
numbers_next g q YieldTakeCast (Task u) z = refl
numbers_next g q YieldTakeCast _ z = if_plain YieldPopInjected YieldPick (g.workers == 1)
numbers_next g q YieldPick (Start v) z = refl
numbers_next g q YieldPick _ z = refl
numbers_next g q (YieldSteal v n) (Task u) z = refl
numbers_next g q (YieldSteal v n) _ z = refl
numbers_next g q (BeginTask (Plain u)) (Begun d) z = refl
numbers_next g q (BeginTask (Plain u)) _ z = refl
numbers_next g q (BeginTask (Token k i b8)) (Handed u d) z = refl
numbers_next g q (BeginTask (Token k i b8)) _ z = refl
numbers_next g q (AddToFifo f) Done z = refl
numbers_next g q (AddToFifo f) _ z = refl
numbers_next g q (LookForToken f) Yes z = refl
numbers_next g q (LookForToken f) _ z = refl
numbers_next g q (PushToken f v) Done z = refl
numbers_next g q (PushToken f v) _ z = refl
numbers_next g q (TakeFromFifo f) (Task x) z = refl
numbers_next g q (TakeFromFifo f) _ z = refl
numbers_next g q (RaiseForAll b) Done z = refl
numbers_next g q (RaiseForAll b) _ z = refl
numbers_next g q (PushForAll b) Done z = refl
numbers_next g q (PushForAll b) _ z = refl
numbers_next g q (LowerForAll b) Yes z = refl
numbers_next g q (LowerForAll b) _ z = refl
numbers_next g q (OpenForAll b) e z = cc
numbers_next g q (CloseForAll b) e z = cc
numbers_next g q (GrowCast d) Done z = refl
numbers_next g q (GrowCast d) _ z = refl
numbers_next g q (DealPieces d) e z = cc
numbers_next g q (TellNews n v) (Wakes k) z = walk_plain g q (plan_pool n) k 0 (after_news n)
numbers_next g q (TellNews n v) _ z = refl
numbers_next g q (WakeWorker k) Yes z = refl
numbers_next g q (WakeWorker k) _ z = refl
numbers_next g q (UnlockWoken k) e z = walk_plain g q k.pool k.owed (k.worker + 1) k.then
numbers_next g q (TakeResult o f) (Found d) z = refl
numbers_next g q (TakeResult o f) _ z = refl
numbers_next g q (SetLatch k) Yes z = refl
numbers_next g q (SetLatch k) _ z = settled_plain g q k k.latch
numbers_next g q (UnlockSettled k) e z = settled_plain g q k k.latch
numbers_next g q (SetLockLatch c n) e z = finish_plain q n
numbers_next g q (GrowScope o) Done z = refl
numbers_next g q (GrowScope o) _ z = refl
numbers_next g q (RaiseCount n) Done z = raised_plain n
numbers_next g q (RaiseCount n) _ z = refl
numbers_next g q (GrowCall n) Done z = refl
numbers_next g q (GrowCall n) _ z = refl
numbers_next g q (LookQueue n) Yes z = refl
numbers_next g q (LookQueue n) _ z = refl
numbers_next g q (PushJob n v) Done z = refl
numbers_next g q (PushJob n v) _ z = refl
numbers_next g q (OpenSlot n) Done z = refl
numbers_next g q (OpenSlot n) _ z = refl
numbers_next g q (LowerCount k a n) e z = lower_plain g q k a n e
numbers_next g q _ e z = refl

pub frame_clear : (f : Place) → is_frame f ≡ true → book_free f ≡ true
frame_clear (ProbeWorking k) e = refl
frame_clear (JoinProbe o) e = refl
frame_clear (FirstSide o a) e = refl
frame_clear (SecondSide o) e = refl
frame_clear (ScopeBody o) e = refl
frame_clear (AtOnce p t) e = refl
frame_clear (Run t k) e = refl
frame_clear Free e = refl
frame_clear Stopped e = refl
frame_clear _ e = cc
