-- in a pool of one worker nobody steals; what the events that are no acts do to the party that makes them
--
-- That is `always_honest`: no worker of such a pool ever chooses a victim. What a party has taken and not begun is the
-- table `taken`. Between the pop of a job and its Begin the worker makes neither a push nor a pop.
use Rattle.rayon_machine_places.specs.declared.place.Plan.TheVariants.{Detach, Here, Send, Fork, Feed, Open, Enter, Gather}
use Rattle.rayon_machine_orders.proofs.Words.{Plan, OfPool, OfScope, OfCast, Count, Share, Pieces, Gathering, rules, arith, refl, sym, ◌∙◌, ap, subst, ℕ, Bool, true, false, ◌&&◌, ◌+◌, ◌==◌, nat_lt, if◌then◌else◌, Option, Some, None, List, [], ◌∷◌, ◌≡◌, IfSome, eq-eqb, Party, Worker, Caller}
use Rattle.rayon_machine_orders.proofs.Words.{Ending, Fine, Fault, JobKind, Detached, Stored, Direct, TokenOf, Scoped, BodyOf, PieceOf, WholeOf, Termination, Answer, Latch, Terminate, OfCall, Then, BeginFound, LeaveWait, Resume, Await, RunFirst, Answers, Missing, Ran, GiveBack, Called, Gathers}
use Rattle.rayon_machine_orders.proofs.Words.{Place, ProbeWorking, TakeCastIdle, PickVictim, StealFrom, LeaveSearch, YieldPop, YieldTakeCast, YieldPick, YieldSteal, LocalPop, BeginTask, BeginHere, Run, RaiseCount, GrowCall, PushJob, LockToWake, WakeWorker, UnlockWoken, LowerCount, SetLatch}
use Rattle.rayon_machine_orders.proofs.Words.{LockToSettle, WakeSettled, UnlockSettled, FirstSide, Free, Stopped, AddToFifo, PushToken, TakeFromFifo, PushForAll, GrowScope, OpenSlot, SetLockLatch, OpenForAll, RaiseForAll, LowerForAll, GrowCast, DealPieces, Move, Stay, Seen, Yes, Begun, Done}
use Rattle.rayon_machine_orders.proofs.Words.{Handed, Task, Opened, Event, Go, From, Refuse, Miss, End, Spawn, Fifo, Install, Join, Yield, YieldLocal, EndPool, Cast, OpenScope, IntoSpawn, IntoFifo, IntoCast, Broadcast, PoolShape, Settling, same_party, own_pool, is_member, finish, walk, settle}
use Rattle.rayon_machine_orders.proofs.Words.{after_set, act_of, next_of, goes_on, is_free, fresh, after_begin, taken_back, taken_number, count_book, plan_book, undo, after_push, withdraw, begin_feed, after_raise, after_slot, begin_cast, end_cast, ends_count, settle_count, Shape, Stack, World}
use Rattle.rayon_machine_orders.proofs.Words.{Counts, Part, target_pool, target_worker, target_call, effect, put_stack, after_choice, after_refusal, can_miss, after_miss, after_close, after_end, is_pool, after_spawn, after_send, after_install, after_join, after_yield, after_end_pool, after_move}
use Rattle.rayon_machine_orders.proofs.Words.{step, after_fifo, after_cast, after_scope, after_into, after_into_fifo, after_into_cast, after_broadcast, holds, IsRun, start, Feeding, Plain, Token, Taken}
use Rattle.rayon_machine_places.specs.declared.place.Walk.{Walk}
use Rattle.rayon_machine_laws.proofs.Attended.{aside_frames, step_shape}
use Rattle.rayon_machine_laws.proofs.Asides.{steps_aside}
use Rattle.rayon_machine_laws.proofs.Calm.{part_at, counts_seen, next_at, top_then}
use Rattle.rayon_machine_laws.proofs.Events.{run_keeps}
use Rattle.rayon_machine_laws.proofs.Frame.{and_parts, if_some_all, if_some_and, if_some_each, if_some_map, if_cond, same_party_true, acted_keeps, fifo_cases, into_cases, into_fifo_cases, into_cast_cases}
use Rattle.rayon_machine_laws.proofs.Holding.{go_frames}
use Rattle.rayon_machine_laws.proofs.Seats.{is_frame}
use Rattle.rayon_machine_laws.proofs.Ties.{AllFrames, job_at, shape_at, outcome, result}
use Rattle.rayon_machine_laws.proofs.Tops.{Tops, FramesOk}

-- the places at which a worker chooses a victim or steals
abbrev pub is_thief : Place → Bool
is_thief (PickVictim k) = true
is_thief (StealFrom k n) = true
is_thief YieldPick = true
is_thief (YieldSteal v n) = true
is_thief _ = false

-- what a wake was made with in hand
abbrev pub taken_then : Then → Option Taken
taken_then (BeginFound g x) = Some x
taken_then _ = None

-- what a party is about to begin by an act of its own: a job, or a token to redeem
abbrev pub taken : Place → Option Taken
taken (LeaveSearch w) = w.found
taken (LockToWake k) = taken_then k.then
taken (WakeWorker k) = taken_then k.then
taken (UnlockWoken k) = taken_then k.then
taken (LowerCount p s n) = taken_then n
taken (SetLatch s) = taken_then s.then
taken (SetLockLatch c n) = taken_then n
taken (LockToSettle s) = taken_then s.then
taken (WakeSettled s) = taken_then s.then
taken (UnlockSettled s) = taken_then s.then
taken (BeginTask x) = Some x
taken (BeginHere t) = Some (Plain t)
taken _ = None

-- what holds of where a latch's setter goes on
pub settle_move : (P : Move → Type 0) (h : PoolShape) (q : Party) (p i : ℕ) (t : Then) → ((k : Settling) → k.then ≡ t → P (Stay (SetLatch k))) → P (finish q t) → P (settle h q p i t)
settle_move P h q p i t f g = at (nat_lt i h.workers)
  where
    at : (b : Bool) → P (if b then Stay (SetLatch (record { latch = Terminate; pool = p; worker = i; then = t })) else finish q t)
    at true = f (record { latch = Terminate; pool = p; worker = i; then = t }) refl
    at false = g

pub settled_move : (P : Move → Type 0) (h : PoolShape) (q : Party) (s : Settling) (l : Latch) → ((k : Settling) → k.then ≡ s.then → P (Stay (SetLatch k))) → P (finish q s.then) → P (after_set h q s l)
settled_move P h q s Terminate f g = settle_move P h q s.pool (s.worker + 1) s.then f g
settled_move P h q s (OfCall c) f g = g

-- what holds of where a waker goes on
pub walk_move : (P : Move → Type 0) (h : PoolShape) (q : Party) (p n i : ℕ) (t : Then) → ((k : Walk) → k.then ≡ t → P (Stay (LockToWake k))) → P (finish q t) → P (walk h q p n i t)
walk_move P h q p n i t f g = at (nat_lt 0 n && nat_lt i h.workers)
  where
    at : (b : Bool) → P (if b then Stay (LockToWake (record { pool = p; owed = n; worker = i; then = t })) else finish q t)
    at true = f (record { pool = p; owed = n; worker = i; then = t }) refl
    at false = g

abbrev pub NoThief : Move → Type 0
NoThief g = Tops (λ y. is_thief y ≡ false) g

finish_honest : (q : Party) (t : Then) → NoThief (finish q t)
finish_honest q (BeginFound g t) = refl
finish_honest q (LeaveWait Termination) = refl
finish_honest q (LeaveWait (Answer o f)) = refl
finish_honest (Worker a b) (Await o) = refl
finish_honest (Caller c) (Await o) = refl
finish_honest q (RunFirst o a) = refl
finish_honest (Worker a b) (Gathers o) = refl
finish_honest (Caller c) (Gathers o) = refl
finish_honest q _ = tt

settled_honest : (h : PoolShape) (q : Party) (s : Settling) → NoThief (after_set h q s s.latch)
settled_honest h q s = settled_move NoThief h q s s.latch (λ k e. refl) (finish_honest q s.then)

set_honest : (h : PoolShape) (q : Party) (s : Settling) (e : Seen) → NoThief (next_of h q (SetLatch s) e)
set_honest h q s Yes = refl
set_honest h q s _ = settled_honest h q s

begin_honest : (x : Taken) (e : Seen) → NoThief (after_begin x e)
begin_honest (Plain t) (Begun d) = refl
begin_honest (Plain t) _ = refl
begin_honest (Token k i b8) (Handed t d) = refl
begin_honest (Token k i b8) _ = tt

withdraw_honest : (b : Option ℕ) (n : Plan) → (is_thief (withdraw b n) ≡ false) × (taken (withdraw b n) ≡ None)
withdraw_honest None n = (refl, refl)
withdraw_honest (Some c) n = (refl, refl)

feed_honest : (k : Count) (f : Feeding) → is_thief (begin_feed k f) ≡ false
feed_honest (OfPool p) f = refl
feed_honest _ f = refl

slot_honest : (n : Plan) → is_thief (after_slot n) ≡ false
slot_honest (Detach p t) = refl
slot_honest _ = refl

raise_honest : (n : Plan) → NoThief (after_raise n)
raise_honest (Feed f) = feed_honest f.count f
raise_honest _ = refl

raised_honest : (g : PoolShape) (q : Party) (n : Plan) (e : Seen) → NoThief (next_of g q (RaiseCount n) e)
raised_honest g q n Done = raise_honest n
raised_honest g q n _ = tt

opened_honest : (g : PoolShape) (q : Party) (n : Plan) (e : Seen) → NoThief (next_of g q (OpenSlot n) e)
opened_honest g q n Done = slot_honest n
opened_honest g q n _ = refl

pushed_honest : (g : PoolShape) (q : Party) (n : Plan) (v : Bool) (e : Seen) → NoThief (next_of g q (PushJob n v) e)
pushed_honest g q n v Done = refl
pushed_honest g q n v _ = (withdraw_honest (plan_book n) n).0

-- where a broadcast goes
cast_honest : (k : Count) (c : Pieces) → (is_thief (begin_cast k c) ≡ false) × ((is_thief (end_cast k c) ≡ false) × (taken (end_cast k c) ≡ None))
cast_honest (OfPool p) c = (refl, (refl, refl))
cast_honest _ c = (refl, (refl, refl))

ends_honest : (k : Count) → is_thief (ends_count k) ≡ false
ends_honest (OfPool p) = refl
ends_honest (OfScope c (Worker a b)) = refl
ends_honest (OfScope c (Caller n)) = refl
ends_honest (OfCast c (Worker a b)) = refl
ends_honest (OfCast c (Caller n)) = refl

count_honest : (g : PoolShape) (q : Party) (k : Count) (t : Then) → NoThief (settle_count g q k t)
count_honest g q (OfPool p) t = settle_move NoThief g q p 0 t (λ k e. refl) (finish_honest q t)
count_honest g q (OfScope c (Worker a b)) t = refl
count_honest g q (OfScope c (Caller n)) t = refl
count_honest g q (OfCast c (Worker a b)) t = refl
count_honest g q (OfCast c (Caller n)) t = refl

lowered_honest : (g : PoolShape) (q : Party) (k : Count) (s : Share) (t : Then) (e : Seen) → NoThief (next_of g q (LowerCount k s t) e)
lowered_honest g q k s t Yes = count_honest g q k t
lowered_honest g q k s t _ = finish_honest q t

all_raised_honest : (g : PoolShape) (q : Party) (c : Pieces) (e : Seen) → NoThief (next_of g q (RaiseForAll c) e)
all_raised_honest g q c Done = (cast_honest c.count c).0
all_raised_honest g q c _ = tt

all_opened_honest : (g : PoolShape) (q : Party) (c : Pieces) (e : Seen) → NoThief (next_of g q (OpenForAll c) e)
all_opened_honest g q c (Opened n) = refl
all_opened_honest g q c _ = refl

all_pushed_honest : (g : PoolShape) (q : Party) (c : Pieces) (e : Seen) → NoThief (next_of g q (PushForAll c) e)
all_pushed_honest g q c Done = refl
all_pushed_honest g q c _ = ((cast_honest c.count c).1).0

all_lowered_honest : (g : PoolShape) (q : Party) (c : Pieces) (e : Seen) → NoThief (next_of g q (LowerForAll c) e)
all_lowered_honest g q c Yes = ends_honest c.count
all_lowered_honest g q c _ = tt

piece_honest : (g : PoolShape) (q : Party) (k : Gathering) (e : Seen) → NoThief (next_of g q (DealPieces k) e)
piece_honest g q k Done = refl
piece_honest g q k _ = refl

add_honest : (g : PoolShape) (q : Party) (f : Feeding) (e : Seen) → NoThief (next_of g q (AddToFifo f) e)
add_honest g q f Done = refl
add_honest g q f _ = (withdraw_honest (count_book f.count) (Feed f)).0

back_honest : (f : Feeding) (e : Seen) → NoThief (taken_back f e)
back_honest f (Task x) = (withdraw_honest (count_book f.count) (Feed (record f { job = taken_number x }))).0
back_honest f _ = tt

-- the places from which a worker of a larger pool goes on to steal
abbrev pub turns_thief : Place → Bool
turns_thief (TakeCastIdle k) = true
turns_thief YieldTakeCast = true
turns_thief _ = false

-- a worker alone in its pool does not come to steal
pub stays_honest : (h : Shape) (g : PoolShape) (q : Party) (c : Counts) (m : Part) (x : Place) → is_thief x ≡ false → (turns_thief x ≡ true → g.workers ≡ 1) → IfSome (effect (act_of q x) h q c m) (λ r. NoThief (next_of g q x (r.0)))
stays_honest h g (Worker a b) c m (ProbeWorking k) z f = search (rules, arith)
stays_honest h g q c m (PickVictim k) z f = cc
stays_honest h g q c m (StealFrom k n) z f = cc
stays_honest h g q c m YieldPick z f = cc
stays_honest h g q c m (YieldSteal v n) z f = cc
stays_honest h g (Worker a b) c m (TakeCastIdle k) z f = let one : g.workers ≡ 1 = f refl in let b : (g.workers == 1) ≡ true = eq-eqb g.workers 1 one in search (rules, arith)
stays_honest h g (Worker a b) c m YieldTakeCast z f = let one : g.workers ≡ 1 = f refl in let b : (g.workers == 1) ≡ true = eq-eqb g.workers 1 one in search (rules, arith)
stays_honest h g q c m (SetLatch s) z f = if_some_all {A = Seen × Part} (λ r. NoThief (next_of g q (SetLatch s) (r.0))) (λ r. set_honest g q s (r.0)) (effect (act_of q (SetLatch s)) h q c m)
stays_honest h g q c m (UnlockSettled s) z f = if_some_all {A = Seen × Part} (λ r. NoThief (next_of g q (UnlockSettled s) (r.0))) (λ r. settled_honest g q s) (effect (act_of q (UnlockSettled s)) h q c m)
stays_honest h g q c m (BeginTask x) z f = if_some_all {A = Seen × Part} (λ r. NoThief (after_begin x (r.0))) (λ r. begin_honest x (r.0)) (effect (act_of q (BeginTask x)) h q c m)
stays_honest h g q c m (AddToFifo d) z f = if_some_all {A = Seen × Part} (λ r. NoThief (next_of g q (AddToFifo d) (r.0))) (λ r. add_honest g q d (r.0)) (effect (act_of q (AddToFifo d)) h q c m)
stays_honest h g q c m (TakeFromFifo d) z f = if_some_all {A = Seen × Part} (λ r. NoThief (taken_back d (r.0))) (λ r. back_honest d (r.0)) (effect (act_of q (TakeFromFifo d)) h q c m)
stays_honest h g q c m (RaiseCount n) z f = if_some_all {A = Seen × Part} (λ r. NoThief (next_of g q (RaiseCount n) (r.0))) (λ r. raised_honest g q n (r.0)) (effect (act_of q (RaiseCount n)) h q c m)
stays_honest h g q c m (OpenSlot n) z f = if_some_all {A = Seen × Part} (λ r. NoThief (next_of g q (OpenSlot n) (r.0))) (λ r. opened_honest g q n (r.0)) (effect (act_of q (OpenSlot n)) h q c m)
stays_honest h g q c m (PushJob n v) z f = if_some_all {A = Seen × Part} (λ r. NoThief (next_of g q (PushJob n v) (r.0))) (λ r. pushed_honest g q n v (r.0)) (effect (act_of q (PushJob n v)) h q c m)
stays_honest h g q c m (RaiseForAll d) z f = if_some_all {A = Seen × Part} (λ r. NoThief (next_of g q (RaiseForAll d) (r.0))) (λ r. all_raised_honest g q d (r.0)) (effect (act_of q (RaiseForAll d)) h q c m)
stays_honest h g q c m (OpenForAll d) z f = if_some_all {A = Seen × Part} (λ r. NoThief (next_of g q (OpenForAll d) (r.0))) (λ r. all_opened_honest g q d (r.0)) (effect (act_of q (OpenForAll d)) h q c m)
stays_honest h g q c m (PushForAll d) z f = if_some_all {A = Seen × Part} (λ r. NoThief (next_of g q (PushForAll d) (r.0))) (λ r. all_pushed_honest g q d (r.0)) (effect (act_of q (PushForAll d)) h q c m)
stays_honest h g q c m (LowerForAll d) z f = if_some_all {A = Seen × Part} (λ r. NoThief (next_of g q (LowerForAll d) (r.0))) (λ r. all_lowered_honest g q d (r.0)) (effect (act_of q (LowerForAll d)) h q c m)
stays_honest h g q c m (LowerCount k v t) z f = if_some_all {A = Seen × Part} (λ r. NoThief (next_of g q (LowerCount k v t) (r.0))) (λ r. lowered_honest g q k v t (r.0)) (effect (act_of q (LowerCount k v t)) h q c m)
stays_honest h g q c m (DealPieces d) z f = if_some_all {A = Seen × Part} (λ r. NoThief (next_of g q (DealPieces d) (r.0))) (λ r. piece_honest g q d (r.0)) (effect (act_of q (DealPieces d)) h q c m)
stays_honest h g (Worker a b) c m _ z f = search (rules, arith)
stays_honest h g (Caller n) c m _ z f = search (rules, arith)

pub frame_honest : (f : Place) → is_frame f ≡ true → is_thief f ≡ false
frame_honest (ProbeWorking w) e = refl
frame_honest _ e = cc

-- where a party makes no step any more
abbrev pub is_stopped : Place → Bool
is_stopped Stopped = true
is_stopped _ = false

-- an event that is no act: one party's stack is another, no seat is changed, and the party had taken no job and had not
-- stopped; if it did not steal, it does not come to do so, and takes no job
pub record Turns (w u : World) : Type 0 where
  pub party : Party
  pub to : Stack
  pub stack : (r : Party) → u.stack r ≡ put_stack w.stack party to r
  pub seat : (p i : ℕ) → u.seat p i ≡ w.seat p i
  pub empty : (taken (w.stack party).top ≡ None) × (is_stopped (w.stack party).top ≡ false)
  pub honest : is_thief (w.stack party).top ≡ false → (is_thief to.top ≡ false) × (taken to.top ≡ None)

free_empty : (x : Place) → is_free x ≡ true → (taken x ≡ None) × (is_stopped x ≡ false)
free_empty (Run t k) e = (refl, refl)
free_empty Free e = (refl, refl)
free_empty _ e = absurd (cc)

abbrev pub is_act : Event → Bool
is_act (Go q) = true
is_act _ = false

at_place : (w : World) (q : Party) (x : Place) (fs : List Place) (R : Place → Type 0) → w.stack q ≡ record { top = x; below = fs } → R x → R (w.stack q).top
at_place w q x fs R e r = subst (λ z. R (z.top)) (sym e) r

thief_turn : (w : World) (q : Party) (x : Place) (fs : List Place) (to : Stack) → w.stack q ≡ record { top = x; below = fs } → is_thief x ≡ true → (taken x ≡ None) × (is_stopped x ≡ false) → Turns w (record w { stack = put_stack w.stack q to })
thief_turn w q x fs to e z n = record { party = q; to = to; stack = λ r. refl; seat = λ p i. refl; empty = at_place w q x fs (λ y. (taken y ≡ None) × (is_stopped y ≡ false)) e n; honest = λ h. absurd (let k : is_thief (w.stack q).top ≡ true = at_place w q x fs (λ y. is_thief y ≡ true) e z in cc) }

from_turn : (w : World) (q : Party) (x : Place) (fs : List Place) (v : ℕ) → w.stack q ≡ record { top = x; below = fs } → IfSome (after_choice w q (record { top = x; below = fs }) x v) (Turns w)
from_turn w q (PickVictim k) fs v e = if_cond (Turns w) (nat_lt v (w.shape.pool (own_pool q)).workers) _ (λ b. thief_turn w q (PickVictim k) fs _ e refl (refl, refl))
from_turn w q YieldPick fs v e = if_cond (Turns w) (nat_lt v (w.shape.pool (own_pool q)).workers) _ (λ b. thief_turn w q YieldPick fs _ e refl (refl, refl))
from_turn w q _ fs v e = tt

miss_turn : (w : World) (q : Party) (x : Place) (fs : List Place) → w.stack q ≡ record { top = x; below = fs } → IfSome (after_miss w q (record { top = x; below = fs }) x) (Turns w)
miss_turn w (Worker a b) (StealFrom k n) fs e = if_cond (Turns w) (can_miss w a k.victim) _ (λ z. thief_turn w (Worker a b) (StealFrom k n) fs _ e refl (refl, refl))
miss_turn w (Worker a b) (YieldSteal v n) fs e = if_cond (Turns w) (can_miss w a v) _ (λ z. thief_turn w (Worker a b) (YieldSteal v n) fs _ e refl (refl, refl))
miss_turn w _ _ fs e = tt

-- where a party stands after a refusal
refused : (w : World) (q : Party) (x y : Place) (fs : List Place) → w.stack q ≡ record { top = x; below = fs } → (taken x ≡ None) × (is_stopped x ≡ false) → (is_thief y ≡ false) × (taken y ≡ None) → Turns w (record w { stack = put_stack w.stack q (record { top = y; below = fs }) })
refused w q x y fs e n z = record { party = q; to = record { top = y; below = fs }; stack = λ r. refl; seat = λ p i. refl; empty = at_place w q x fs (λ y. (taken y ≡ None) × (is_stopped y ≡ false)) e n; honest = λ h. z }

refuse_turn : (w : World) (q : Party) (x : Place) (fs : List Place) → w.stack q ≡ record { top = x; below = fs } → IfSome (after_refusal w q (record { top = x; below = fs })) (Turns w)
refuse_turn w q (GrowCall n) fs e = refused w q (GrowCall n) (undo n) fs e (refl, refl) (refl, refl)
refuse_turn w q (GrowScope n) fs e = refused w q (GrowScope n) (undo (Open n)) fs e (refl, refl) (refl, refl)
refuse_turn w q (GrowCast n) fs e = refused w q (GrowCast n) (undo (Gather n)) fs e (refl, refl) (refl, refl)
refuse_turn w q (DealPieces n) fs e = refused w q (DealPieces n) (undo (Gather n)) fs e (refl, refl) (refl, refl)
refuse_turn w q (OpenSlot n) fs e = refused w q (OpenSlot n) (undo n) fs e (refl, refl) (refl, refl)
refuse_turn w q (OpenForAll c) fs e = refused w q (OpenForAll c) (LowerForAll c) fs e (refl, refl) (refl, refl)
refuse_turn w q (PushJob n v) fs e = refused w q (PushJob n v) (after_push n) fs e (refl, refl) (withdraw_honest (plan_book n) n)
refuse_turn w q (AddToFifo f) fs e = refused w q (AddToFifo f) (after_push (Feed f)) fs e (refl, refl) (withdraw_honest (count_book f.count) (Feed f))
refuse_turn w q (PushToken f v) fs e = refused w q (PushToken f v) (TakeFromFifo f) fs e (refl, refl) (refl, refl)
refuse_turn w q (PushForAll c) fs e = refused w q (PushForAll c) (end_cast c.count c) fs e (refl, refl) ((cast_honest c.count c).1)
refuse_turn w q _ fs e = tt

goes_honest : (f : Place) (e : Ending) → is_frame f ≡ true → (is_thief (goes_on f e) ≡ false) × (taken (goes_on f e) ≡ None)
goes_honest (FirstSide o a) Fine m = (refl, refl)
goes_honest (FirstSide o a) Fault m = (refl, refl)
goes_honest (ProbeWorking k) e m = (refl, refl)
goes_honest _ e m = (cc, cc)

close_honest : (t : ℕ) (k : JobKind) (d : Ending) (fs : List Place) → AllFrames fs → (is_thief (after_close t k d fs).top ≡ false) × (taken (after_close t k d fs).top ≡ None)
close_honest t Direct d [] a = (refl, refl)
close_honest t (TokenOf i b8) d [] a = (refl, refl)
close_honest t (BodyOf c9 o9) d [] a = (refl, refl)
close_honest t (WholeOf c9 o9) d [] a = (refl, refl)
close_honest t Direct d (f ∷ fs) a = goes_honest f d (a.0)
close_honest t (TokenOf i b8) d (f ∷ fs) a = goes_honest f d (a.0)
close_honest t (BodyOf c9 o9) d (f ∷ fs) a = goes_honest f d (a.0)
close_honest t (WholeOf c9 o9) d (f ∷ fs) a = goes_honest f d (a.0)
close_honest t _ d fs a = (refl, refl)

end_turn : (w : World) (q : Party) (d : Ending) (x : Place) (fs : List Place) → w.stack q ≡ record { top = x; below = fs } → AllFrames fs → IfSome (after_end w q d (record { top = x; below = fs }) x) (Turns w)
end_turn w q d (Run t k) fs e a = record { party = q; to = after_close t k d fs; stack = λ r. refl; seat = λ p i. refl; empty = at_place w q (Run t k) fs (λ y. (taken y ≡ None) × (is_stopped y ≡ false)) e (refl, refl); honest = λ h. close_honest t k d fs a }
end_turn w q d _ fs e a = tt

spawn_turn : (w : World) (q : Party) (p : ℕ) → IfSome (after_spawn w q p (w.stack q)) (Turns w)
spawn_turn w q p = if_cond (Turns w) (is_free ((w.stack q).top) && is_pool w.shape p) _ (λ b. record { party = q; to = _; stack = λ r. refl; seat = λ p i. refl; empty = free_empty (w.stack q).top ((and_parts (is_free ((w.stack q).top)) (is_pool w.shape p) b).0); honest = λ h. (refl, refl) })

cast_turn : (w : World) (q : Party) (p : ℕ) → IfSome (after_cast w q p (w.stack q)) (Turns w)
cast_turn w q p = if_cond (Turns w) (is_free ((w.stack q).top) && is_pool w.shape p) _ (λ b. record { party = q; to = _; stack = λ r. refl; seat = λ p i. refl; empty = free_empty (w.stack q).top ((and_parts (is_free ((w.stack q).top)) (is_pool w.shape p) b).0); honest = λ h. (refl, refl) })

fifo_turn : (w : World) (q : Party) (p : ℕ) → IfSome (after_fifo w q p (w.stack q)) (Turns w)
fifo_turn w q p = fifo_cases (Turns w) w q p (spawn_turn w q p) (λ i f. record { party = Worker p i; to = _; stack = λ r. refl; seat = λ p i. refl; empty = free_empty (w.stack (Worker p i)).top f; honest = λ h. (refl, refl) })

sent_turn : (w : World) (q : Party) (p : ℕ) (b : Bool) → is_free ((w.stack q).top) ≡ true → Turns w (after_send w q p (w.stack q) b)
sent_turn w q p true e = record { party = q; to = _; stack = λ r. refl; seat = λ p i. refl; empty = free_empty (w.stack q).top e; honest = λ h. (refl, refl) }
sent_turn w q p false e = record { party = q; to = _; stack = λ r. refl; seat = λ p i. refl; empty = free_empty (w.stack q).top e; honest = λ h. (refl, refl) }

install_turn : (w : World) (q : Party) (p : ℕ) → IfSome (after_install w q p (w.stack q)) (Turns w)
install_turn w q p = if_cond (Turns w) (is_free ((w.stack q).top) && is_pool w.shape p) _ (λ e. sent_turn w q p (is_member q p) ((and_parts (is_free ((w.stack q).top)) (is_pool w.shape p) e).0))

scope_turn : (w : World) (q : Party) (p : ℕ) → IfSome (after_scope w q p (w.stack q)) (Turns w)
scope_turn w q p = if_cond (Turns w) (is_free ((w.stack q).top) && is_pool w.shape p) _ (λ b. record { party = q; to = _; stack = λ r. refl; seat = λ p i. refl; empty = free_empty (w.stack q).top ((and_parts (is_free ((w.stack q).top)) (is_pool w.shape p) b).0); honest = λ h. (refl, refl) })

into_turn : (w : World) (q : Party) (n : ℕ) → IfSome (after_into w q n (w.stack q)) (Turns w)
into_turn w q n = into_cases (Turns w) w q n (λ z e free held. if_cond (Turns w) (is_free ((w.stack q).top) && holds z.call (w.stack q)) _ (λ b. record { party = q; to = _; stack = λ r. refl; seat = λ p i. refl; empty = free_empty (w.stack q).top free; honest = λ h. (refl, refl) }))

into_fifo_turn : (w : World) (q : Party) (n : ℕ) → IfSome (after_into_fifo w q n (w.stack q)) (Turns w)
into_fifo_turn w q n = into_fifo_cases (Turns w) w q n
    (λ z e free held. if_cond (Turns w) (is_free ((w.stack q).top) && holds z.call (w.stack q)) _ (λ b. record { party = q; to = _; stack = λ r. refl; seat = λ p i. refl; empty = free_empty (w.stack q).top free; honest = λ h. (refl, refl) }))
    (λ z i e free held. record { party = Worker z.pool i; to = _; stack = λ r. refl; seat = λ p i. refl; empty = free_empty (w.stack (Worker z.pool i)).top free; honest = λ h. (refl, refl) })

into_cast_turn : (w : World) (q : Party) (n : ℕ) → IfSome (after_into_cast w q n (w.stack q)) (Turns w)
into_cast_turn w q n = into_cast_cases (Turns w) w q n (λ z e free held. record { party = q; to = _; stack = λ r. refl; seat = λ p i. refl; empty = free_empty (w.stack q).top free; honest = λ h. (refl, refl) })

broadcast_turn : (w : World) (q : Party) (p : ℕ) → IfSome (after_broadcast w q p (w.stack q)) (Turns w)
broadcast_turn w q p = if_cond (Turns w) (is_free ((w.stack q).top) && is_pool w.shape p) _ (λ b. record { party = q; to = _; stack = λ r. refl; seat = λ p i. refl; empty = free_empty (w.stack q).top ((and_parts (is_free ((w.stack q).top)) (is_pool w.shape p) b).0); honest = λ h. (refl, refl) })

join_turn : (w : World) (q : Party) → IfSome (after_join w q (w.stack q)) (Turns w)
join_turn w (Worker a b) = if_cond (Turns w) (is_free ((w.stack (Worker a b)).top)) _ (λ z. record { party = Worker a b; to = _; stack = λ r. refl; seat = λ p i. refl; empty = free_empty (w.stack (Worker a b)).top z; honest = λ h. (refl, refl) })
join_turn w (Caller n) = tt

yield_turn : (w : World) (q : Party) (x : Place) → (is_thief x ≡ false) × (taken x ≡ None) → IfSome (after_yield w q (w.stack q) x) (Turns w)
yield_turn w (Worker a b) x m = if_cond (Turns w) (is_free ((w.stack (Worker a b)).top)) _ (λ z. record { party = Worker a b; to = _; stack = λ r. refl; seat = λ p i. refl; empty = free_empty (w.stack (Worker a b)).top z; honest = λ h. m })
yield_turn w (Caller n) x m = tt

give_turn : (w : World) (q : Party) (p : ℕ) → IfSome (after_end_pool w q p (w.stack q)) (Turns w)
give_turn w q p = if_cond (Turns w) (is_free ((w.stack q).top) && (is_pool w.shape p && (w.pool p).held)) _
    (λ b. record { party = q; to = _; stack = λ r. refl; seat = λ p i. refl; empty = free_empty (w.stack q).top ((and_parts (is_free ((w.stack q).top)) (is_pool w.shape p && (w.pool p).held) b).0); honest = λ h. (refl, refl) })

pub turns : (w : World) → FramesOk w → (e : Event) → is_act e ≡ false → IfSome (step w e) (Turns w)
turns w fr (Go q) z = cc
turns w fr (From q v) z = from_turn w q ((w.stack q).top) ((w.stack q).below) v refl
turns w fr (Refuse q) z = refuse_turn w q ((w.stack q).top) ((w.stack q).below) refl
turns w fr (Miss q) z = miss_turn w q ((w.stack q).top) ((w.stack q).below) refl
turns w fr (End q d) z = end_turn w q d ((w.stack q).top) ((w.stack q).below) refl (fr q)
turns w fr (Spawn q p) z = spawn_turn w q p
turns w fr (Fifo q p) z = fifo_turn w q p
turns w fr (Cast q p) z = cast_turn w q p
turns w fr (Install q p) z = install_turn w q p
turns w fr (Join q) z = join_turn w q
turns w fr (OpenScope q p) z = scope_turn w q p
turns w fr (IntoSpawn q n) z = into_turn w q n
turns w fr (IntoFifo q n) z = into_fifo_turn w q n
turns w fr (IntoCast q n) z = into_cast_turn w q n
turns w fr (Broadcast q p) z = broadcast_turn w q p
turns w fr (Yield q) z = yield_turn w q YieldPop (refl, refl)
turns w fr (YieldLocal q) z = yield_turn w q LocalPop (refl, refl)
turns w fr (EndPool q p) z = give_turn w q p

-- no worker of the pool stands where it would steal
abbrev pub Honest : ℕ → World → Type 0
Honest p w = (i : ℕ) → is_thief (w.stack (Worker p i)).top ≡ false

-- where a worker turns thief it looks at its own pool
pub turn_target : (p i : ℕ) (x : Place) → turns_thief x ≡ true → target_pool (Worker p i) (act_of (Worker p i) x) ≡ p
turn_target p i (TakeCastIdle k) e = refl
turn_target p i YieldTakeCast e = refl
turn_target p i _ e = cc

honest_put : (w : World) (q : Party) (p i : ℕ) (b : Bool) → same_party (Worker p i) q ≡ b → (w.shape.pool p).workers ≡ 1 → FramesOk w → Honest p w → IfSome (outcome w q (w.stack q))
    (λ r. is_thief ((if b then after_move (next_at w q (w.stack q) (r.0)) (w.stack q).below else w.stack (Worker p i)).top) ≡ false)
honest_put w q p i true eb one fr ok =
    let F : Party → Type 0 = λ z. IfSome (outcome w z (w.stack z)) (λ r. is_thief ((after_move (next_at w z (w.stack z) (r.0)) (w.stack z).below).top) ≡ false) in
    let me : Party = Worker p i in
    let k : Stack = w.stack me in
    let base : F me = if_some_map {A = Seen × Part} (λ r. NoThief (next_at w me k (r.0))) (λ r. is_thief ((after_move (next_at w me k (r.0)) k.below).top) ≡ false)
    (λ r t. top_then (λ y. is_thief y ≡ false) w me k (r.0) refl fr frame_honest t) (outcome w me k)
    (stays_honest w.shape (shape_at w me k) me (counts_seen w me k) (part_at w me k) k.top (ok i) (λ z. ap (λ n. (w.shape.pool n).workers) (turn_target p i k.top z) ∙ one)) in
    subst F (same_party_true (Worker p i) q eb) base
honest_put w q p i false eb one fr ok = if_some_all {A = Seen × Part} (λ r. is_thief (w.stack (Worker p i)).top ≡ false) (λ r. ok i) (outcome w q (w.stack q))

honest_turn : (w u : World) (p : ℕ) → Turns w u → Honest p w → Honest p u
honest_turn w u p m ok i = ap (λ s. is_thief (s.top)) (m.stack (Worker p i)) ∙ at (same_party (Worker p i) (m.party)) refl
  where
    at : (b : Bool) → same_party (Worker p i) (m.party) ≡ b → is_thief ((if b then m.to else w.stack (Worker p i)).top) ≡ false
    at true e = (m.honest (ap (λ z. is_thief ((w.stack z).top)) (sym (same_party_true (Worker p i) (m.party) e)) ∙ ok i)).0
    at false e = ok i

step_honest : (p : ℕ) (w : World) (e : Event) → (w.shape.pool p).workers ≡ 1 → FramesOk w → Honest p w → IfSome (step w e) (Honest p)
step_honest p w (Go q) one fr ok = acted_keeps w q (w.stack q) (target_pool q (act_of q (w.stack q).top)) (target_worker q (act_of q (w.stack q).top)) (target_call (act_of q (w.stack q).top)) (job_at w q (act_of q (w.stack q).top)) (outcome w q (w.stack q)) (Honest p)
    (if_some_each {I = ℕ} (λ i r. is_thief ((result w q (w.stack q) r).stack (Worker p i)).top ≡ false) (outcome w q (w.stack q)) (λ i. honest_put w q p i (same_party (Worker p i) q) refl one fr ok))
step_honest p w e one fr ok = if_some_map (Turns w) (Honest p) (λ u m. honest_turn w u p m ok) (step w e) (turns w fr e refl)

-- in every world of every run of a shape with such a pool of one
pub always_honest : (h : Shape) (p : ℕ) → (h.pool p).workers ≡ 1 → (es : List Event) (w : World) → IsRun (start h) es w → Honest p w
always_honest h p one es w r = ((run_keeps (λ u. FramesOk u × ((u.shape ≡ h) × Honest p u)) each (start h) w es (first_frames, (refl, first)) r).1).1
  where
    first_frames : FramesOk (start h)
    first_frames q = tt

    first : Honest p (start h)
    first i = at (nat_lt i (h.pool p).workers) ((h.pool p).callers_own && (i == 0))
      where
        at : (b d : Bool) → is_thief (if b then (if d then Free else ProbeWorking (fresh Termination)) else Stopped) ≡ false
        at true true = refl
        at true false = refl
        at false d = refl

    each : (u : World) (e : Event) → FramesOk u × ((u.shape ≡ h) × Honest p u) → IfSome (step u e) (λ v. FramesOk v × ((v.shape ≡ h) × Honest p v))
    each u e a = if_some_and FramesOk (λ v. (v.shape ≡ h) × Honest p v) (step u e) (steps_aside FramesOk u (a.0) (λ q. go_frames u q (u.stack q) refl (a.0)) (λ v m. aside_frames u v m (a.0)) e)
        (if_some_and (λ v. v.shape ≡ h) (Honest p) (step u e) (step_shape h u e (a.0) ((a.1).0)) (step_honest p u e (ap (λ z. (z.pool p).workers) ((a.1).0) ∙ one) (a.0) ((a.1).1)))
