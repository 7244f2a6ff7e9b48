-- what a place answers, what acts leave of the faults that calls keep, and that none ends a run, over each act and move
use Rattle.std.proofs.Common.{arith, refl, rules}
use Rattle.rayon_machine_orders.proofs.Words.{◌≡◌, ◌&&◌, ◌==◌, ◌+◌, ◌-◌, ℕ, if◌then◌else◌, Bool, IfSome, None, Option, Some, false, nat_lt, true, follows, act_of, after_failure, after_found, after_news, after_set, after_wait, begin_cast, begin_feed, count_book, end_cast, ends_count, finish}
use Rattle.rayon_machine_orders.proofs.Words.{next_of, own_pool, plan_book, plan_job, plan_pool, settle, taken_number, walk, withdraw, is_piece, jobs_after, mark_pieces, marked, put, Counts, Part, Shape, at_job, begun, effect, found, Seen, Done, Found, Task, Wakes, Yes, Count, OfPool, OfScope}
use Rattle.rayon_machine_orders.proofs.Words.{OfCast, Ending, Feeding, Latch, OfCall, Terminate, Marking, Dealt, Queued, Returned, Move, Discard, HandAllBack, HandBack, HandIn, Mark, StartRun, Stay, OpenCall, Party, Caller, Worker, Pieces, Place, AddToFifo, AnnounceSelf, BeginTask, LeaveSearch}
use Rattle.rayon_machine_orders.proofs.Words.{LockToSettle, LockToWake, LowerCount, OpenSlot, PopInjected, ProbeIdle, ProbeWorking, LowerForAll, RaiseForAll, StorePiece, PushForAll, PushJob, RaiseCount, SetLatch, SetLockLatch, StoreBody, StoreResult, StoreSlot, TakeFromFifo, TakeResult}
use Rattle.rayon_machine_orders.proofs.Words.{TellNews, UnlockSettled, UnlockWoken, WakeSettled, Plan, Detach, Enter, Feed, Fork, Gather, Here, Open, Send, Rounds, Announced, Failed, Settling, Share, Target, Answer, Termination, Then, Answers, Await, BeginFound, Gathers, LeaveWait, RunFirst}
use Rattle.rayon_machine_orders.proofs.Words.{Wait, PoolShape, Job, HandedBack, Over, Spent, LookQueue}
use Rattle.rayon_machine_laws.proofs.Frame.{if_some_all, if_some_map}
use Rattle.rayon_machine_laws.proofs.Seats.{is_frame}
use Rattle.rayon_machine_laws.proofs.Tops.{Tops}
use Rattle.rayon_machine_orders.proofs.Spared.{Spared, act_spared, begins, looks, pushes, stores_fault}

-- what a call answers that a place goes on with, if the call waited
abbrev pub Told : Type 0
Told = OpenCall × (Option Ending × Ending)

abbrev pub then_answer : Then → Option Told
then_answer (Answers o f e) = Some (o, (f, e))
then_answer _ = None

abbrev pub told_of : Option Then → Option Told
told_of None = None
told_of (Some t) = then_answer t

abbrev pub answer_of : Place → Option Told
answer_of x = told_of (follows x)

-- once its act has seen this
abbrev pub sees_answer : Place → Seen → Option Told
sees_answer (TakeResult o f) (Found d) = Some (o, (f, d))
sees_answer x e = answer_of x

-- the place after says no other answer
abbrev pub On : Option Told → Place → Type 0
On s y = (a : Told) → answer_of y ≡ Some a → s ≡ Some a

abbrev Goes : Place → Seen → Place → Type 0
Goes x e y = On (sees_answer x e) y

pub frame_on : (s : Option Told) (f : Place) → is_frame f ≡ true → On s f
frame_on s (LowerCount p h t) z = cc
frame_on s (SetLatch k) z = cc
frame_on s (SetLockLatch c t) z = cc
frame_on s (LockToSettle k) z = cc
frame_on s (WakeSettled k) z = cc
frame_on s (UnlockSettled k) z = cc
frame_on s _ z = λ a e. cc

left_on : (s : Option Told) (g : Target) → On s (after_wait g)
left_on s Termination = λ a e. cc
left_on s (Answer o f) = λ a e. cc

finish_on : (s : Option Told) (q : Party) (t : Then) → Tops (On s) (finish q t)
finish_on s q (BeginFound g t) = λ a e. cc
finish_on s q (LeaveWait g) = left_on s g
finish_on s (Worker i j) (Await o) = λ a e. cc
finish_on s (Caller n) (Await o) = λ a e. cc
finish_on s q (RunFirst o f) = λ a e. cc
finish_on s (Worker i j) (Gathers o) = λ a e. cc
finish_on s (Caller n) (Gathers o) = λ a e. cc
finish_on s q _ = tt

on_if : (R : Place → Type 0) (b : Bool) (y : Place) (g : Move) → R y → Tops R g → Tops R (if b then Stay y else g)
on_if R true y g a t = a
on_if R false y g a t = t

walk_on : (s : Option Told) (h : PoolShape) (q : Party) (p n i : ℕ) (t : Then) → Tops (On s) (walk h q p n i t)
walk_on s h q p n i t = on_if (On s) (nat_lt 0 n && nat_lt i h.workers) (LockToWake (record { pool = p; owed = n; worker = i; then = t })) (finish q t) (λ a e. cc) (finish_on s q t)

settle_on : (h : PoolShape) (q : Party) (p i : ℕ) (t : Then) → Tops (On (then_answer t)) (settle h q p i t)
settle_on h q p i t = on_if (On (then_answer t)) (nat_lt i h.workers) (SetLatch (record { latch = Terminate; pool = p; worker = i; then = t })) (finish q t) (λ a e. e) (finish_on (then_answer t) q t)

settled_on : (h : PoolShape) (q : Party) (s : Settling) (l : Latch) → Tops (On (then_answer s.then)) (after_set h q s l)
settled_on h q s Terminate = settle_on h q s.pool (s.worker + 1) s.then
settled_on h q s (OfCall c) = finish_on (then_answer s.then) q s.then

set_on : (h : PoolShape) (q : Party) (s : Settling) (e : Seen) → Tops (Goes (SetLatch s) e) (next_of h q (SetLatch s) e)
set_on h q s Yes = λ a e. e
set_on h q s _ = settled_on h q s s.latch

leave_on : (h : PoolShape) (q : Party) (k : Wait) (e : Seen) → Tops (Goes (LeaveSearch k) e) (next_of h q (LeaveSearch k) e)
leave_on h q k (Wakes n) = walk_on None h q (own_pool q) n 0 (after_found k.target k.found)
leave_on h q k _ = λ a e. cc

tell_on : (h : PoolShape) (q : Party) (n : Plan) (v : Bool) (e : Seen) → Tops (Goes (TellNews n v) e) (next_of h q (TellNews n v) e)
tell_on h q n v (Wakes m) = walk_on None h q (plan_pool n) m 0 (after_news n)
tell_on h q n v _ = λ a e. cc

begun_on : (s : Option Told) (k : Count) (f : Feeding) → On s (begin_feed k f)
begun_on s (OfPool p) f = λ a e. cc
begun_on s _ f = λ a e. cc

-- where a refused call goes that has not pushed its job
withdrawn_on : (s : Option Told) (b : Option ℕ) (n : Plan) → On s (withdraw b n)
withdrawn_on s None n = λ a e. cc
withdrawn_on s (Some c) n = λ a e. cc

raise_on : (h : PoolShape) (q : Party) (n : Plan) (e : Seen) → Tops (Goes (RaiseCount n) e) (next_of h q (RaiseCount n) e)
raise_on h q (Detach p t) Done = λ a e. cc
raise_on h q (Here p t) Done = λ a e. cc
raise_on h q (Send o) Done = λ a e. cc
raise_on h q (Fork o f) Done = λ a e. cc
raise_on h q (Feed f) Done = begun_on None f.count f
raise_on h q (Gather g) Done = λ a e. cc
raise_on h q (Open f) Done = λ a e. cc
raise_on h q (Enter x) Done = λ a e. cc
raise_on h q n _ = tt

store_on : (h : PoolShape) (q : Party) (c : ℕ) (o : Party) (d : Ending) (e : Seen) → Tops (Goes (StoreResult c o d) e) (next_of h q (StoreResult c o d) e)
store_on h q c (Worker p i) d e = λ a z. cc
store_on h q c (Caller n) d e = λ a z. cc

probe_on : (h : PoolShape) (q : Party) (k : Wait) (e : Seen) → Tops (Goes (ProbeWorking k) e) (next_of h q (ProbeWorking k) e)
probe_on h q k Yes = left_on None k.target
probe_on h q k _ = λ a e. cc

lower_on : (h : PoolShape) (q : Party) (k : Count) (s : Share) (t : Then) (e : Seen) → Tops (Goes (LowerCount k s t) e) (next_of h q (LowerCount k s t) e)
lower_on h q (OfPool p) s t Yes = settle_on h q p 0 t
lower_on h q (OfScope c (Worker i j)) s t Yes = λ a e. e
lower_on h q (OfScope c (Caller n)) s t Yes = λ a e. e
lower_on h q (OfCast c (Worker i j)) s t Yes = λ a e. e
lower_on h q (OfCast c (Caller n)) s t Yes = λ a e. e
lower_on h q k s t _ = finish_on (then_answer t) q t

push_on : (h : PoolShape) (q : Party) (n : Plan) (v : Bool) (e : Seen) → Tops (Goes (PushJob n v) e) (next_of h q (PushJob n v) e)
push_on h q n v Done = λ a e. cc
push_on h q n v _ = withdrawn_on None (plan_book n) n

slot_on : (h : PoolShape) (q : Party) (n : Plan) (e : Seen) → Tops (Goes (OpenSlot n) e) (next_of h q (OpenSlot n) e)
slot_on h q (Feed f) Done = λ a e. cc
slot_on h q (Detach p t) Done = λ a e. cc
slot_on h q (Here p t) Done = λ a e. cc
slot_on h q (Send o) Done = λ a e. cc
slot_on h q (Fork o f) Done = λ a e. cc
slot_on h q (Open o) Done = λ a e. cc
slot_on h q (Enter x) Done = λ a e. cc
slot_on h q (Gather g) Done = λ a e. cc
slot_on h q n _ = λ a e. cc

add_on : (h : PoolShape) (q : Party) (f : Feeding) (e : Seen) → Tops (Goes (AddToFifo f) e) (next_of h q (AddToFifo f) e)
add_on h q f Done = λ a e. cc
add_on h q f _ = withdrawn_on None (count_book f.count) (Feed f)

back_on : (h : PoolShape) (q : Party) (f : Feeding) (e : Seen) → Tops (Goes (TakeFromFifo f) e) (next_of h q (TakeFromFifo f) e)
back_on h q f (Task x) = withdrawn_on None (count_book f.count) (Feed (record f { job = taken_number x }))
back_on h q f _ = tt

-- a broadcast has its shares, its push is refused, or it has given the last shares back
cast_on : (s : Option Told) (k : Count) (c : Pieces) → On s (begin_cast k c)
cast_on s (OfPool p) c = λ a e. cc
cast_on s _ c = λ a e. cc

uncast_on : (s : Option Told) (k : Count) (c : Pieces) → On s (end_cast k c)
uncast_on s (OfPool p) c = λ a e. cc
uncast_on s _ c = λ a e. cc

ends_on : (s : Option Told) (k : Count) → On s (ends_count k)
ends_on s (OfPool p) = λ a e. cc
ends_on s (OfScope d (Worker i j)) = λ a e. cc
ends_on s (OfScope d (Caller n)) = λ a e. cc
ends_on s (OfCast d (Worker i j)) = λ a e. cc
ends_on s (OfCast d (Caller n)) = λ a e. cc

raise_all_on : (h : PoolShape) (q : Party) (c : Pieces) (e : Seen) → Tops (Goes (RaiseForAll c) e) (next_of h q (RaiseForAll c) e)
raise_all_on h q c Done = cast_on None c.count c
raise_all_on h q c _ = tt

push_all_on : (h : PoolShape) (q : Party) (c : Pieces) (e : Seen) → Tops (Goes (PushForAll c) e) (next_of h q (PushForAll c) e)
push_all_on h q c Done = λ a e. cc
push_all_on h q c _ = uncast_on None c.count c

lower_all_on : (h : PoolShape) (q : Party) (c : Pieces) (e : Seen) → Tops (Goes (LowerForAll c) e) (next_of h q (LowerForAll c) e)
lower_all_on h q c Yes = ends_on None c.count
lower_all_on h q c _ = tt

search_on : (h : PoolShape) (k : Wait) (r : Rounds) → On None (after_failure h k r)
search_on h k (Failed m) = at (nat_lt m h.limit)
  where
    at : (b : Bool) → On None (if b then ProbeIdle (record k { rounds = Failed (m + 1) }) else AnnounceSelf k)
    at true = λ a e. cc
    at false = λ a e. cc
search_on h k Announced = λ a e. cc

inject_on : (h : PoolShape) (q : Party) (k : Wait) (e : Seen) → Tops (Goes (PopInjected k) e) (next_of h q (PopInjected k) e)
inject_on h q k (Task t) = λ a e. cc
inject_on h q k _ = search_on h k k.rounds

take_on : (h : PoolShape) (q : Party) (o : OpenCall) (f : Option Ending) (e : Seen) → Tops (Goes (TakeResult o f) e) (next_of h q (TakeResult o f) e)
take_on h q o f (Found d) = λ a e. e
take_on h q o f _ = λ a e. cc

of_every : (h : Shape) (g : PoolShape) (q : Party) (c : Counts) (m : Part) (x : Place) → ((e : Seen) → Tops (Goes x e) (next_of g q x e)) → IfSome (effect (act_of q x) h q c m) (λ r. Tops (Goes x (r.0)) (next_of g q x (r.0)))
of_every h g q c m x f = if_some_all {A = Seen × Part} (λ r. Tops (Goes x (r.0)) (next_of g q x (r.0))) (λ r. f (r.0)) (effect (act_of q x) h q c m)

-- the place after an act
pub answers_on : (h : Shape) (g : PoolShape) (q : Party) (c : Counts) (m : Part) (x : Place) → IfSome (effect (act_of q x) h q c m) (λ r. Tops (Goes x (r.0)) (next_of g q x (r.0)))
answers_on h g q c m (ProbeWorking k) = of_every h g q c m (ProbeWorking k) (probe_on g q k)
answers_on h g q c m (PopInjected k) = of_every h g q c m (PopInjected k) (inject_on g q k)
answers_on h g q c m (LeaveSearch k) = of_every h g q c m (LeaveSearch k) (leave_on g q k)
answers_on h g q c m (TellNews n v) = of_every h g q c m (TellNews n v) (tell_on g q n v)
answers_on h g q c m (RaiseCount n) = of_every h g q c m (RaiseCount n) (raise_on g q n)
answers_on h g q c m (StoreResult d o e) = of_every h g q c m (StoreResult d o e) (store_on g q d o e)
answers_on h g q c m (LowerCount p s t) = of_every h g q c m (LowerCount p s t) (lower_on g q p s t)
answers_on h g q c m (PushJob n v) = of_every h g q c m (PushJob n v) (push_on g q n v)
answers_on h g q c m (OpenSlot n) = of_every h g q c m (OpenSlot n) (slot_on g q n)
answers_on h g q c m (AddToFifo f) = of_every h g q c m (AddToFifo f) (add_on g q f)
answers_on h g q c m (TakeFromFifo f) = of_every h g q c m (TakeFromFifo f) (back_on g q f)
answers_on h g q c m (RaiseForAll b) = of_every h g q c m (RaiseForAll b) (raise_all_on g q b)
answers_on h g q c m (PushForAll b) = of_every h g q c m (PushForAll b) (push_all_on g q b)
answers_on h g q c m (LowerForAll b) = of_every h g q c m (LowerForAll b) (lower_all_on g q b)
answers_on h g q c m (StorePiece d o t e) = of_every h g q c m (StorePiece d o t e) (λ s a z. cc)
answers_on h g q c m (StoreBody o e) = of_every h g q c m (StoreBody o e) (λ s a z. cc)
answers_on h g q c m (StoreSlot d o t e) = of_every h g q c m (StoreSlot d o t e) (λ s a z. cc)
answers_on h g q c m (SetLockLatch d t) = of_every h g q c m (SetLockLatch d t) (λ e. finish_on (then_answer t) q t)
answers_on h g q c m (UnlockWoken k) = of_every h g q c m (UnlockWoken k) (λ e. walk_on None g q k.pool k.owed (k.worker + 1) k.then)
answers_on h g q c m (SetLatch s) = of_every h g q c m (SetLatch s) (set_on g q s)
answers_on h g q c m (UnlockSettled s) = of_every h g q c m (UnlockSettled s) (λ e. settled_on g q s s.latch)
answers_on h g q c m (TakeResult o f) = of_every h g q c m (TakeResult o f) (take_on g q o f)
answers_on h g (Worker i j) c m _ = search (rules, arith)
answers_on h g (Caller n) c m _ = search (rules, arith)

-- places whose acts store how a job ended, for a scope or a broadcast
abbrev pub is_storing : Place → Bool
is_storing (StoreBody o e) = true
is_storing (StoreSlot c o t e) = true
is_storing (StorePiece c o t e) = true
is_storing _ = false

-- no other act changes which fault a call keeps
abbrev pub SameFault : Part → Seen × Part → Type 0
SameFault m r = r.1.call.fault ≡ m.call.fault

storing_act : (q : Party) (x : Place) → is_storing x ≡ false → stores_fault (act_of q x) ≡ false
storing_act (Worker a b) (ProbeWorking k) z = z
storing_act (Worker a b) (BeginTask t) z = begins stores_fault t (λ n. refl) (λ k i d. refl)
storing_act (Worker a b) (LookQueue n) z = looks stores_fault (Worker a b) (plan_pool n) refl refl
storing_act (Worker a b) (PushJob n v) z = pushes stores_fault (Worker a b) (plan_pool n) (plan_job n) (plan_book n) refl refl
storing_act (Worker a b) _ z = z
storing_act (Caller c) (BeginTask t) z = begins stores_fault t (λ n. refl) (λ k i d. refl)
storing_act (Caller c) (LookQueue n) z = looks stores_fault (Caller c) (plan_pool n) refl refl
storing_act (Caller c) (PushJob n v) z = pushes stores_fault (Caller c) (plan_pool n) (plan_job n) (plan_book n) refl refl
storing_act (Caller c) _ z = z

pub act_fault : (h : Shape) (q : Party) (c : Counts) (m : Part) (x : Place) → is_storing x ≡ false → IfSome (effect (act_of q x) h q c m) (SameFault m)
act_fault h q c m x z = if_some_map (Spared (act_of q x) m) (SameFault m) (λ r s. s.fault (storing_act q x z)) (effect (act_of q x) h q c m) (act_spared (act_of q x) h q c m)

-- no act ends a run
abbrev pub NoEnd : Part → Seen × Part → Type 0
NoEnd m r = (e : Ending) → r.1.job.at ≡ Over e → m.job.at ≡ Over e

pub act_end : (h : Shape) (q : Party) (c : Counts) (m : Part) (x : Place) → IfSome (effect (act_of q x) h q c m) (NoEnd m)
act_end h q c m x = if_some_map (Spared (act_of q x) m) (NoEnd m) (λ r s. s.ends) (effect (act_of q x) h q c m) (act_spared (act_of q x) h q c m)

-- and no move does
pub put_end : (f : ℕ → Job) (a : ℕ) (j : Job) (t : ℕ) (e : Ending) → (j.at ≡ Over e → ⊥) → (put f a j t).at ≡ Over e → (f t).at ≡ Over e
put_end f a j t e n = by (t == a)
  where
    by : (b : Bool) → (if b then j else f t).at ≡ Over e → (f t).at ≡ Over e
    by true z = absurd (n z)
    by false z = z

marks_end : (c : Pieces) (k : Marking) (f : ℕ → Job) (t : ℕ) (e : Ending) → (mark_pieces c k f t).at ≡ Over e → (f t).at ≡ Over e
marks_end c k f t e = by (is_piece c t) k
  where
    by : (b : Bool) (k : Marking) → (if b then marked k c.pool (t - c.first) (f t) else f t).at ≡ Over e → (f t).at ≡ Over e
    by true Queued z = cc
    by true Dealt z = cc
    by true Returned z = cc
    by false k z = z
    by true _ z = z

pub moved_end : (q : Party) (g : Move) (f : ℕ → Job) (t : ℕ) (e : Ending) → (jobs_after q g f t).at ≡ Over e → (f t).at ≡ Over e
moved_end q (HandIn y k) f t e z = put_end f k (at_job (f k) Spent) t e (λ y. cc) z
moved_end q (Discard k) f t e z = put_end f k (at_job (f k) Spent) t e (λ y. cc) z
moved_end q (StartRun a u) f t e z = put_end f u (begun q (f u)) t e (λ y. cc) z
moved_end q (HandBack (Detach p a)) f t e z = put_end f a (at_job (f a) HandedBack) t e (λ y. cc) z
moved_end q (HandBack (Here p a)) f t e z = put_end f a (at_job (f a) HandedBack) t e (λ y. cc) z
moved_end q (HandBack (Send o)) f t e z = put_end f o.job (at_job (f o.job) HandedBack) t e (λ y. cc) z
moved_end q (HandBack (Gather g)) f t e z = marks_end g.pieces Returned f t e z
moved_end q (HandBack (Open o)) f t e z = put_end f o.job (at_job (f o.job) HandedBack) t e (λ y. cc) z
moved_end q (HandBack (Enter o)) f t e z = put_end f o.job (at_job (f o.job) HandedBack) t e (λ y. cc) z
moved_end q (HandBack (Fork o a)) f t e z = put_end f a (at_job (f a) HandedBack) t e (λ y. cc) (put_end (put f a (at_job (f a) HandedBack)) o.job (at_job (f o.job) HandedBack) t e (λ y. cc) z)
moved_end q (HandBack (Feed d)) f t e z = put_end f d.job (at_job (f d.job) HandedBack) t e (λ y. cc) (put_end (put f d.job (at_job (f d.job) HandedBack)) d.token (at_job (f d.token) HandedBack) t e (λ y. cc) z)
moved_end q (Mark y c k) f t e z = marks_end c k f t e z
moved_end q (HandAllBack c) f t e z = marks_end c Returned f t e z
moved_end q _ f t e z = z
