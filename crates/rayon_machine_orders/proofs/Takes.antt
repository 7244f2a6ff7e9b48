-- what a place has seen of its call's latch, whose latch it is about to set, and what it answers, over each act and
-- move
use Rattle.rayon_machine_places.specs.declared.place.Share.TheVariants.{Body, OfJob}
use Rattle.rayon_machine_orders.proofs.Words.{OfPool, OfScope, OfCast, Count, rules, arith, refl, sym, ◌∙◌, inl, inr, ℕ, Bool, true, false, ◌&&◌, ◌+◌, nat_lt, if◌then◌else◌, Option, Some, None, ◌≡◌, ◌⊎◌, IfSome, Party, Worker, Caller, Ending, Target, Termination, Answer, Latch, Terminate}
use Rattle.rayon_machine_orders.proofs.Words.{OfCall, Rounds, Failed, Announced, Plan, Detach, Here, Send, Fork, Feed, Open, Enter, Gather, Share, Then, BeginFound, LeaveWait, Resume, Await, RunFirst, Answers, Missing as NoResult, GiveBack, Gathers, Place, ProbeWorking, ProbeIdle, PopInjected}
use Rattle.rayon_machine_orders.proofs.Words.{AnnounceSelf, GetSleepy, FallAsleep, WakeUp, LeaveSearch, JoinProbe, Run, RaiseCount, GrowCall, TellNews, LockToWake, WakeWorker, UnlockWoken, WaitForLock, TakeResult, LowerCount, StoreResult, SetLatch, LockToSettle, WakeSettled, UnlockSettled}
use Rattle.rayon_machine_orders.proofs.Words.{SetLockLatch, FirstSide, SecondSide, AtOnce, Free, Stopped, GrowScope, StoreBody, StoreSlot, ScopeBody, PushJob, OpenSlot, CloseSlot, AddToFifo, TakeFromFifo, RaiseForAll, PushForAll, LowerForAll, OpenForAll, CloseForAll, GrowCast, DealPieces}
use Rattle.rayon_machine_orders.proofs.Words.{StorePiece, Move, Stay, Seen, Done, Yes, Task, Wakes, Found, Opened, Letter, Unset, IsSleepy, Sleeping, IsSet, PoolShape, OpenCall, Feeding, Pieces, Gathering, Wait, Settling, own_pool, after_wait, latch_of, finish, walk, settle, after_set}
use Rattle.rayon_machine_orders.proofs.Words.{after_found, act_of, after_failure, next_of, settle_count, plan_count, plan_job, plan_book, count_book, taken_number, undo, withdraw, begin_feed, after_slot, begin_cast, end_cast, ends_count, set_call, Shape, Counts, Part, target_call, letter, found}
use Rattle.rayon_machine_orders.proofs.Words.{effect, Taken, BeginTask, LookQueue, plan_pool}
use Rattle.rayon_machine_places.specs.Targets.{call_of}
use Rattle.rayon_machine_runs.specs.World.{is_set, lock_wait, sleepy, fall_asleep, wake_up, set_latch}
use Rattle.rayon_machine_laws.proofs.ClaimActs.{is_call, sets_call}
use Rattle.rayon_machine_laws.proofs.Frame.{if_some_all, if_some_map}
use Rattle.rayon_machine_laws.proofs.Latches.{SameLatches, latches_same}
use Rattle.rayon_machine_laws.proofs.Locks.{tops_map}
use Rattle.rayon_machine_laws.proofs.Owners.{target_number}
use Rattle.rayon_machine_laws.proofs.Seats.{is_frame}
use Rattle.rayon_machine_laws.proofs.Tops.{Tops}
use Rattle.rayon_machine_orders.proofs.Spared.{Spared, act_spared, begins, looks, puts_cell, pushes}

-- the call whose latch a place has seen set, and not yet taken from
abbrev pub set_found : Target → Option Taken → Option ℕ
set_found g None = target_number g
set_found g (Some t) = None

abbrev pub set_then : Then → Option ℕ
set_then (LeaveWait g) = target_number g
set_then _ = None

-- the same where a share is given back, which a call without a first side does once it has taken
abbrev pub set_lower : Then → Option ℕ
set_lower (Answers o None e) = Some o.number
set_lower t = set_then t

abbrev pub seen_set : Place → Option ℕ
seen_set (LeaveSearch k) = set_found k.target k.found
seen_set (LockToWake k) = set_then k.then
seen_set (WakeWorker k) = set_then k.then
seen_set (UnlockWoken k) = set_then k.then
seen_set (TakeResult o f) = Some o.number
seen_set (LowerCount p s t) = set_lower t
seen_set (SetLatch s) = set_then s.then
seen_set (SetLockLatch c t) = set_then t
seen_set (LockToSettle s) = set_then s.then
seen_set (WakeSettled s) = set_then s.then
seen_set (UnlockSettled s) = set_then s.then
seen_set _ = None

-- once its act has seen this
abbrev pub sees_set : Place → Seen → Option ℕ
sees_set (ProbeWorking k) Yes = target_number k.target
sees_set (ProbeIdle k) Yes = target_number k.target
sees_set (JoinProbe o) Yes = Some o.number
sees_set (WaitForLock o) e = Some o.number
sees_set x e = seen_set x

-- the call whose latch a place is about to set, or of whose count it is about to give back the share of its body, or of a
-- piece that has ended; and the one whose cell it stores into
abbrev pub latch_number : Latch → Option ℕ
latch_number Terminate = None
latch_number (OfCall c) = Some c

abbrev pub count_number : Count → Option ℕ
count_number (OfPool p) = None
count_number (OfScope c o) = Some c
count_number (OfCast c o) = Some c

-- who gives back a body's share, or that of a piece that has ended, has stored before
abbrev pub lowers_now : Count → Share → Then → Option ℕ
lowers_now (OfScope c o) Body t = Some c
lowers_now (OfCast c o) (OfJob u) Resume = Some c
lowers_now k s t = None

abbrev pub sets_now : Place → Option ℕ
sets_now (SetLatch s) = latch_number s.latch
sets_now (SetLockLatch c t) = Some c
sets_now (LowerCount k s t) = lowers_now k s t
sets_now _ = None

abbrev pub stores_now : Place → Option ℕ
stores_now (StoreResult c o e) = Some c
stores_now (StoreBody o e) = Some o.number
stores_now (StorePiece c o t e) = Some c
stores_now _ = None

-- the call whose latch is set next, or such a share of whose count is given back next, once an act has seen this
abbrev pub sets_next : Place → Seen → Option ℕ
sets_next (LowerCount k s t) Yes = count_number k
sets_next (LowerForAll b) Yes = count_number b.count
sets_next x e = stores_now x

-- only a call that waits for a job makes a cell so
abbrev pub is_waiting_plan : Plan → Bool
is_waiting_plan (Send o) = true
is_waiting_plan (Fork o a) = true
is_waiting_plan _ = false

-- a broadcast that waits has a piece
abbrev pub has_pieces : Plan → Bool
has_pieces (Gather g) = nat_lt 0 (g.pieces).workers
has_pieces n = true

abbrev pub is_grown_well : Place → Bool
is_grown_well (GrowCall n) = is_waiting_plan n
is_grown_well (RaiseCount n) = has_pieces n
is_grown_well (GrowCast g) = nat_lt 0 (g.pieces).workers
is_grown_well _ = true

-- a call answers that its result is missing
abbrev pub then_missing : Then → Bool
then_missing (NoResult o f) = true
then_missing _ = false

abbrev pub says_missing : Place → Bool
says_missing (LockToWake k) = then_missing k.then
says_missing (WakeWorker k) = then_missing k.then
says_missing (UnlockWoken k) = then_missing k.then
says_missing (LowerCount p s t) = then_missing t
says_missing (SetLatch s) = then_missing s.then
says_missing (SetLockLatch c t) = then_missing t
says_missing (LockToSettle s) = then_missing s.then
says_missing (WakeSettled s) = then_missing s.then
says_missing (UnlockSettled s) = then_missing s.then
says_missing _ = false

-- once its act has seen this
abbrev pub finds_missing : Place → Seen → Bool
finds_missing (TakeResult o f) (Found d) = false
finds_missing (TakeResult o f) e = true
finds_missing x e = says_missing x

-- what is said of the place after, by what was said before
abbrev pub Onward : Option ℕ → Option ℕ → Bool → Bool → Place → Type 0
Onward seen stored well missing y = ((c : ℕ) → seen_set y ≡ Some c → seen ≡ Some c) × ((c : ℕ) → sets_now y ≡ Some c → stored ≡ Some c) × (well ≡ true → is_grown_well y ≡ true) × (says_missing y ≡ true → missing ≡ true)

abbrev pub Follows : Place → Seen → Place → Type 0
Follows x e y = Onward (sees_set x e) (sets_next x e) (is_grown_well x) (finds_missing x e) y

pub frame_says : (seen stored : Option ℕ) (well missing : Bool) (f : Place) → is_frame f ≡ true → Onward seen stored well missing f
frame_says n s g b (ProbeWorking k) z = (λ c e. absurd (cc), λ c e. absurd (cc), λ u. refl, λ e. absurd (cc))
frame_says n s g b (JoinProbe o) z = (λ c e. absurd (cc), λ c e. absurd (cc), λ u. refl, λ e. absurd (cc))
frame_says n s g b (FirstSide o a) z = (λ c e. absurd (cc), λ c e. absurd (cc), λ u. refl, λ e. absurd (cc))
frame_says n s g b (SecondSide o) z = (λ c e. absurd (cc), λ c e. absurd (cc), λ u. refl, λ e. absurd (cc))
frame_says n s g b (ScopeBody o) z = (λ c e. absurd (cc), λ c e. absurd (cc), λ u. refl, λ e. absurd (cc))
frame_says n s g b (AtOnce p t) z = (λ c e. absurd (cc), λ c e. absurd (cc), λ u. refl, λ e. absurd (cc))
frame_says n s g b (Run t k) z = (λ c e. absurd (cc), λ c e. absurd (cc), λ u. refl, λ e. absurd (cc))
frame_says n s g b Free z = (λ c e. absurd (cc), λ c e. absurd (cc), λ u. refl, λ e. absurd (cc))
frame_says n s g b Stopped z = (λ c e. absurd (cc), λ c e. absurd (cc), λ u. refl, λ e. absurd (cc))
frame_says n s g b _ z = cc

left_on : (s : Option ℕ) (w b : Bool) (g : Target) → Onward (target_number g) s w b (after_wait g)
left_on s w b Termination = (λ c e. absurd (cc), λ c e. absurd (cc), λ u. refl, λ e. absurd (cc))
left_on s w b (Answer o f) = (λ c e. e, λ c e. absurd (cc), λ u. refl, λ e. absurd (cc))

finish_on : (s : Option ℕ) (w : Bool) (q : Party) (t : Then) → Tops (Onward (set_then t) s w (then_missing t)) (finish q t)
finish_on s w q (BeginFound g t) = (λ c e. absurd (cc), λ c e. absurd (cc), λ u. refl, λ e. absurd (cc))
finish_on s w q (LeaveWait g) = left_on s w false g
finish_on s w (Worker i j) (Await o) = (λ c e. absurd (cc), λ c e. absurd (cc), λ u. refl, λ e. absurd (cc))
finish_on s w (Caller n) (Await o) = (λ c e. absurd (cc), λ c e. absurd (cc), λ u. refl, λ e. absurd (cc))
finish_on s w (Worker i j) (Gathers o) = (λ c e. absurd (cc), λ c e. absurd (cc), λ u. refl, λ e. absurd (cc))
finish_on s w (Caller n) (Gathers o) = (λ c e. absurd (cc), λ c e. absurd (cc), λ u. refl, λ e. absurd (cc))
finish_on s w q (RunFirst o a) = (λ c e. absurd (cc), λ c e. absurd (cc), λ u. refl, λ e. absurd (cc))
finish_on s w q _ = tt

on_if : (R : Place → Type 0) (b : Bool) (y : Place) (g : Move) → R y → Tops R g → Tops R (if b then Stay y else g)
on_if R true y g a t = a
on_if R false y g a t = t

walk_on : (s : Option ℕ) (w : Bool) (h : PoolShape) (q : Party) (p n i : ℕ) (t : Then) → Tops (Onward (set_then t) s w (then_missing t)) (walk h q p n i t)
walk_on s w h q p n i t = on_if (Onward (set_then t) s w (then_missing t)) (nat_lt 0 n && nat_lt i h.workers) (LockToWake (record { pool = p; owed = n; worker = i; then = t })) (finish q t) (λ c e. e, λ c e. absurd (cc), λ u. refl, λ e. e) (finish_on s w q t)

settle_on : (s : Option ℕ) (w : Bool) (h : PoolShape) (q : Party) (p i : ℕ) (t : Then) → Tops (Onward (set_then t) s w (then_missing t)) (settle h q p i t)
settle_on s w h q p i t = on_if (Onward (set_then t) s w (then_missing t)) (nat_lt i h.workers) (SetLatch (record { latch = Terminate; pool = p; worker = i; then = t })) (finish q t) (λ c e. e, λ c e. absurd (cc), λ u. refl, λ e. e) (finish_on s w q t)

settled_on : (o : Option ℕ) (w : Bool) (h : PoolShape) (q : Party) (s : Settling) (l : Latch) → Tops (Onward (set_then s.then) o w (then_missing s.then)) (after_set h q s l)
settled_on o w h q s Terminate = settle_on o w h q s.pool (s.worker + 1) s.then
settled_on o w h q s (OfCall c) = finish_on o w q s.then

set_on : (h : PoolShape) (q : Party) (s : Settling) (e : Seen) → Tops (Follows (SetLatch s) e) (next_of h q (SetLatch s) e)
set_on h q s Yes = (λ c e. e, λ c e. absurd (cc), λ u. refl, λ e. e)
set_on h q s _ = settled_on None true h q s s.latch

leave_on : (h : PoolShape) (q : Party) (k : Wait) (e : Seen) → Tops (Follows (LeaveSearch k) e) (next_of h q (LeaveSearch k) e)
leave_on h q k (Wakes n) = by k.found
  where
    by : (o : Option Taken) → Tops (Onward (set_found k.target o) None true false) (walk h q (own_pool q) n 0 (after_found k.target o))
    by None = walk_on None true h q (own_pool q) n 0 (LeaveWait k.target)
    by (Some t) = walk_on None true h q (own_pool q) n 0 (BeginFound k.target t)
leave_on h q k _ = (λ c e. e, λ c e. absurd (cc), λ u. refl, λ e. absurd (cc))

tell_on : (h : PoolShape) (q : Party) (n : Plan) (v : Bool) (e : Seen) → Tops (Follows (TellNews n v) e) (next_of h q (TellNews n v) e)
tell_on h q (Detach p t) v (Wakes m) = walk_on None true h q p m 0 Resume
tell_on h q (Here p t) v (Wakes m) = walk_on None true h q p m 0 Resume
tell_on h q (Send o) v (Wakes m) = walk_on None true h q o.pool m 0 (Await o)
tell_on h q (Fork o a) v (Wakes m) = walk_on None true h q o.pool m 0 (RunFirst o a)
tell_on h q (Feed f) v (Wakes m) = walk_on None true h q f.pool m 0 (GiveBack (Detach f.pool f.token))
tell_on h q (Open o) v (Wakes m) = walk_on None true h q o.pool m 0 Resume
tell_on h q (Enter x) v (Wakes m) = walk_on None true h q x.pool m 0 Resume
tell_on h q (Gather g) v (Wakes m) = walk_on None true h q g.call.pool m 0 (Await g.call)
tell_on h q n v _ = (λ c e. absurd (cc), λ c e. absurd (cc), λ u. refl, λ e. absurd (cc))

fed_on : (f : Feeding) (k : Count) → Onward None None true false (begin_feed k f)
fed_on f (OfPool p) = (λ c e. absurd (cc), λ c e. absurd (cc), λ u. refl, λ e. absurd (cc))
fed_on f _ = (λ c e. absurd (cc), λ c e. absurd (cc), λ u. refl, λ e. absurd (cc))

-- a refused call gives back its share, and first takes back its number of a book
undone_on : (k : Count) (t : ℕ) (n : Plan) (w : Bool) → Onward None None w false (LowerCount k (OfJob t) (GiveBack n))
undone_on (OfPool p) t n w = (λ c e. absurd (cc), λ c e. absurd (cc), λ u. refl, λ e. absurd (cc))
undone_on _ t n w = (λ c e. absurd (cc), λ c e. absurd (cc), λ u. refl, λ e. absurd (cc))

pub undo_on : (n : Plan) (w : Bool) → Onward None None w false (undo n)
undo_on n w = undone_on (plan_count n) (plan_job n) n w

pub drawn_on : (b : Option ℕ) (n : Plan) (w : Bool) → Onward None None w false (withdraw b n)
drawn_on None n w = undo_on n w
drawn_on (Some c) n w = (λ c e. absurd (cc), λ c e. absurd (cc), λ u. refl, λ e. absurd (cc))

raise_on : (h : PoolShape) (q : Party) (n : Plan) (e : Seen) → Tops (Follows (RaiseCount n) e) (next_of h q (RaiseCount n) e)
raise_on h q (Detach p t) Done = (λ c e. absurd (cc), λ c e. absurd (cc), λ u. refl, λ e. absurd (cc))
raise_on h q (Here p t) Done = (λ c e. absurd (cc), λ c e. absurd (cc), λ u. refl, λ e. absurd (cc))
raise_on h q (Send o) Done = (λ c e. absurd (cc), λ c e. absurd (cc), λ u. refl, λ e. absurd (cc))
raise_on h q (Fork o a) Done = (λ c e. absurd (cc), λ c e. absurd (cc), λ u. refl, λ e. absurd (cc))
raise_on h q (Feed f) Done = fed_on f f.count
raise_on h q (Gather g) Done = (λ c e. absurd (cc), λ c e. absurd (cc), λ u. u, λ e. absurd (cc))
raise_on h q (Open f) Done = (λ c e. absurd (cc), λ c e. absurd (cc), λ u. refl, λ e. absurd (cc))
raise_on h q (Enter x) Done = (λ c e. absurd (cc), λ c e. absurd (cc), λ u. refl, λ e. absurd (cc))
raise_on h q n _ = tt

store_on : (h : PoolShape) (q : Party) (c : ℕ) (o : Party) (d : Ending) (e : Seen) → Tops (Follows (StoreResult c o d) e) (next_of h q (StoreResult c o d) e)
store_on h q c (Worker p i) d e = (λ c e. absurd (cc), λ c e. e, λ u. refl, λ e. absurd (cc))
store_on h q c (Caller n) d e = (λ c e. absurd (cc), λ c e. e, λ u. refl, λ e. absurd (cc))

probe_on : (h : PoolShape) (q : Party) (k : Wait) (e : Seen) → Tops (Follows (ProbeWorking k) e) (next_of h q (ProbeWorking k) e)
probe_on h q k Yes = left_on None true false k.target
probe_on h q k _ = (λ c e. absurd (cc), λ c e. absurd (cc), λ u. refl, λ e. absurd (cc))

call_on : (c : ℕ) (w : Bool) (o : Party) (t : Then) → Onward (set_then t) (Some c) w (then_missing t) (set_call c o t)
call_on c w (Worker i j) t = (λ c e. e, λ c e. e, λ u. refl, λ e. e)
call_on c w (Caller n) t = (λ c e. e, λ c e. e, λ u. refl, λ e. e)

count_on : (h : PoolShape) (w : Bool) (q : Party) (k : Count) (t : Then) → Tops (Onward (set_then t) (count_number k) w (then_missing t)) (settle_count h q k t)
count_on h w q (OfPool p) t = settle_on None w h q p 0 t
count_on h w q (OfScope c o) t = call_on c w o t
count_on h w q (OfCast c o) t = call_on c w o t

ends_on : (w : Bool) (k : Count) → Onward None (count_number k) w false (ends_count k)
ends_on w (OfPool p) = (λ c e. absurd (cc), λ c e. absurd (cc), λ u. refl, λ e. absurd (cc))
ends_on w (OfScope c o) = call_on c w o Resume
ends_on w (OfCast c o) = call_on c w o Resume

lower_wide : (t : Then) (c : ℕ) → set_then t ≡ Some c → set_lower t ≡ Some c
lower_wide (LeaveWait g) c e = e
lower_wide _ c e = absurd (cc)

widened : (s : Option ℕ) (w b : Bool) (t : Then) (g : Move) → Tops (Onward (set_then t) s w b) g → Tops (Onward (set_lower t) s w b) g
widened s w b t g = tops_map (Onward (set_then t) s w b) (Onward (set_lower t) s w b) (λ y n. (λ c e. lower_wide t c (n.0 c e), n.1, n.2, n.3)) g

lower_on : (h : PoolShape) (q : Party) (k : Count) (s : Share) (t : Then) (e : Seen) → Tops (Follows (LowerCount k s t) e) (next_of h q (LowerCount k s t) e)
lower_on h q k s t Yes = widened (count_number k) true (then_missing t) t (settle_count h q k t) (count_on h true q k t)
lower_on h q k s t _ = widened None true (then_missing t) t (finish q t) (finish_on None true q t)

push_on : (h : PoolShape) (q : Party) (n : Plan) (v : Bool) (e : Seen) → Tops (Follows (PushJob n v) e) (next_of h q (PushJob n v) e)
push_on h q n v Done = (λ c e. absurd (cc), λ c e. absurd (cc), λ u. refl, λ e. absurd (cc))
push_on h q n v _ = drawn_on (plan_book n) n true

grow_on : (h : PoolShape) (q : Party) (n : Plan) (e : Seen) → Tops (Follows (GrowCall n) e) (next_of h q (GrowCall n) e)
grow_on h q n Done = (λ c e. absurd (cc), λ c e. absurd (cc), λ u. refl, λ e. absurd (cc))
grow_on h q n _ = undo_on n (is_waiting_plan n)

opened_on : (n : Plan) → Onward None None true false (after_slot n)
opened_on (Feed f) = (λ c e. absurd (cc), λ c e. absurd (cc), λ u. refl, λ e. absurd (cc))
opened_on _ = (λ c e. absurd (cc), λ c e. absurd (cc), λ u. refl, λ e. absurd (cc))

open_on : (h : PoolShape) (q : Party) (n : Plan) (e : Seen) → Tops (Follows (OpenSlot n) e) (next_of h q (OpenSlot n) e)
open_on h q n Done = opened_on n
open_on h q n _ = undo_on n true

add_on : (h : PoolShape) (q : Party) (f : Feeding) (e : Seen) → Tops (Follows (AddToFifo f) e) (next_of h q (AddToFifo f) e)
add_on h q f Done = (λ c e. absurd (cc), λ c e. absurd (cc), λ u. refl, λ e. absurd (cc))
add_on h q f _ = drawn_on (count_book f.count) (Feed f) true

retake_on : (h : PoolShape) (q : Party) (f : Feeding) (e : Seen) → Tops (Follows (TakeFromFifo f) e) (next_of h q (TakeFromFifo f) e)
retake_on h q f (Task x) = drawn_on (count_book f.count) (Feed (record f { job = taken_number x })) true
retake_on h q f _ = tt

begun_on : (c : Pieces) (k : Count) → Onward None None true false (begin_cast k c)
begun_on c (OfPool p) = (λ c e. absurd (cc), λ c e. absurd (cc), λ u. refl, λ e. absurd (cc))
begun_on c _ = (λ c e. absurd (cc), λ c e. absurd (cc), λ u. refl, λ e. absurd (cc))

undealt_on : (c : Pieces) (k : Count) → Onward None None true false (end_cast k c)
undealt_on c (OfPool p) = (λ c e. absurd (cc), λ c e. absurd (cc), λ u. refl, λ e. absurd (cc))
undealt_on c _ = (λ c e. absurd (cc), λ c e. absurd (cc), λ u. refl, λ e. absurd (cc))

raise_all_on : (h : PoolShape) (q : Party) (c : Pieces) (e : Seen) → Tops (Follows (RaiseForAll c) e) (next_of h q (RaiseForAll c) e)
raise_all_on h q c Done = begun_on c c.count
raise_all_on h q c _ = tt

push_all_on : (h : PoolShape) (q : Party) (c : Pieces) (e : Seen) → Tops (Follows (PushForAll c) e) (next_of h q (PushForAll c) e)
push_all_on h q c Done = (λ c e. absurd (cc), λ c e. absurd (cc), λ u. refl, λ e. absurd (cc))
push_all_on h q c _ = undealt_on c c.count

lower_all_on : (h : PoolShape) (q : Party) (c : Pieces) (e : Seen) → Tops (Follows (LowerForAll c) e) (next_of h q (LowerForAll c) e)
lower_all_on h q c Yes = ends_on true c.count
lower_all_on h q c _ = tt

open_all_on : (h : PoolShape) (q : Party) (c : Pieces) (e : Seen) → Tops (Follows (OpenForAll c) e) (next_of h q (OpenForAll c) e)
open_all_on h q c (Opened n) = (λ c e. absurd (cc), λ c e. absurd (cc), λ u. refl, λ e. absurd (cc))
open_all_on h q c _ = (λ c e. absurd (cc), λ c e. absurd (cc), λ u. refl, λ e. absurd (cc))

cast_grow_on : (h : PoolShape) (q : Party) (g : Gathering) (e : Seen) → Tops (Follows (GrowCast g) e) (next_of h q (GrowCast g) e)
cast_grow_on h q g Done = (λ c e. absurd (cc), λ c e. absurd (cc), λ u. refl, λ e. absurd (cc))
cast_grow_on h q g _ = undo_on (Gather g) (nat_lt 0 (g.pieces).workers)

deal_on : (h : PoolShape) (q : Party) (g : Gathering) (e : Seen) → Tops (Follows (DealPieces g) e) (next_of h q (DealPieces g) e)
deal_on h q g Done = (λ c e. absurd (cc), λ c e. absurd (cc), λ u. refl, λ e. absurd (cc))
deal_on h q g _ = undo_on (Gather g) true

piece_on : (h : PoolShape) (q : Party) (c : ℕ) (o : Party) (t : ℕ) (d : Ending) (e : Seen) → Tops (Follows (StorePiece c o t d) e) (next_of h q (StorePiece c o t d) e)
piece_on h q c o t d e = (λ c e. absurd (cc), λ c e. e, λ u. refl, λ e. absurd (cc))

body_on : (h : PoolShape) (q : Party) (o : OpenCall) (d : Ending) (e : Seen) → Tops (Follows (StoreBody o d) e) (next_of h q (StoreBody o d) e)
body_on h q o d e = (λ c e. absurd (cc), λ c e. e, λ u. refl, λ e. absurd (cc))

slot_on : (h : PoolShape) (q : Party) (c : ℕ) (o : Party) (t : ℕ) (d : Ending) (e : Seen) → Tops (Follows (StoreSlot c o t d) e) (next_of h q (StoreSlot c o t d) e)
slot_on h q c o t d e = (λ c e. absurd (cc), λ c e. absurd (cc), λ u. refl, λ e. absurd (cc))

search_on : (h : PoolShape) (k : Wait) (r : Rounds) → Onward None None true false (after_failure h k r)
search_on h k (Failed m) = at (nat_lt m h.limit)
  where
    at : (b : Bool) → Onward None None true false (if b then ProbeIdle (record k { rounds = Failed (m + 1) }) else AnnounceSelf k)
    at true = (λ c e. absurd (cc), λ c e. absurd (cc), λ u. refl, λ e. absurd (cc))
    at false = (λ c e. absurd (cc), λ c e. absurd (cc), λ u. refl, λ e. absurd (cc))
search_on h k Announced = (λ c e. absurd (cc), λ c e. absurd (cc), λ u. refl, λ e. absurd (cc))

inject_on : (h : PoolShape) (q : Party) (k : Wait) (e : Seen) → Tops (Follows (PopInjected k) e) (next_of h q (PopInjected k) e)
inject_on h q k (Task t) = (λ c e. absurd (cc), λ c e. absurd (cc), λ u. refl, λ e. absurd (cc))
inject_on h q k _ = search_on h k k.rounds

take_on : (h : PoolShape) (q : Party) (o : OpenCall) (f : Option Ending) (e : Seen) → Tops (Follows (TakeResult o f) e) (next_of h q (TakeResult o f) e)
take_on h q o None (Found d) = (λ c e. e, λ c e. absurd (cc), λ u. refl, λ e. absurd (cc))
take_on h q o (Some a) (Found d) = (λ c e. absurd (cc), λ c e. absurd (cc), λ u. refl, λ e. absurd (cc))
take_on h q o f _ = (λ c e. absurd (cc), λ c e. absurd (cc), λ u. refl, λ e. refl)

of_every : (h : Shape) (g : PoolShape) (q : Party) (c : Counts) (m : Part) (x : Place) → ((e : Seen) → Tops (Follows x e) (next_of g q x e)) → IfSome (effect (act_of q x) h q c m) (λ r. Tops (Follows x (r.0)) (next_of g q x (r.0)))
of_every h g q c m x f = if_some_all {A = Seen × Part} (λ r. Tops (Follows x (r.0)) (next_of g q x (r.0))) (λ r. f (r.0)) (effect (act_of q x) h q c m)

-- the place after an act
pub follows_on : (h : Shape) (g : PoolShape) (q : Party) (c : Counts) (m : Part) (x : Place) → IfSome (effect (act_of q x) h q c m) (λ r. Tops (Follows x (r.0)) (next_of g q x (r.0)))
follows_on h g q c m (ProbeWorking k) = of_every h g q c m (ProbeWorking k) (probe_on g q k)
follows_on h g q c m (PopInjected k) = of_every h g q c m (PopInjected k) (inject_on g q k)
follows_on h g q c m (LeaveSearch k) = of_every h g q c m (LeaveSearch k) (leave_on g q k)
follows_on h g q c m (TellNews n v) = of_every h g q c m (TellNews n v) (tell_on g q n v)
follows_on h g q c m (RaiseCount n) = of_every h g q c m (RaiseCount n) (raise_on g q n)
follows_on h g q c m (StoreResult d o e) = of_every h g q c m (StoreResult d o e) (store_on g q d o e)
follows_on h g q c m (LowerCount p s t) = of_every h g q c m (LowerCount p s t) (lower_on g q p s t)
follows_on h g q c m (PushJob n v) = of_every h g q c m (PushJob n v) (push_on g q n v)
follows_on h g q c m (GrowCall n) = of_every h g q c m (GrowCall n) (grow_on g q n)
follows_on h g q c m (OpenSlot n) = of_every h g q c m (OpenSlot n) (open_on g q n)
follows_on h g q c m (CloseSlot n) = of_every h g q c m (CloseSlot n) (λ e. undo_on n true)
follows_on h g q c m (AddToFifo f) = of_every h g q c m (AddToFifo f) (add_on g q f)
follows_on h g q c m (TakeFromFifo f) = of_every h g q c m (TakeFromFifo f) (retake_on g q f)
follows_on h g q c m (RaiseForAll b) = of_every h g q c m (RaiseForAll b) (raise_all_on g q b)
follows_on h g q c m (PushForAll b) = of_every h g q c m (PushForAll b) (push_all_on g q b)
follows_on h g q c m (LowerForAll b) = of_every h g q c m (LowerForAll b) (lower_all_on g q b)
follows_on h g q c m (OpenForAll b) = of_every h g q c m (OpenForAll b) (open_all_on g q b)
follows_on h g q c m (CloseForAll b) = of_every h g q c m (CloseForAll b) (λ e. (λ c e. absurd (cc), λ c e. absurd (cc), λ u. refl, λ e. absurd (cc)))
follows_on h g q c m (GrowCast d) = of_every h g q c m (GrowCast d) (cast_grow_on g q d)
follows_on h g q c m (DealPieces d) = of_every h g q c m (DealPieces d) (deal_on g q d)
follows_on h g q c m (StorePiece d o t e) = of_every h g q c m (StorePiece d o t e) (piece_on g q d o t e)
follows_on h g q c m (StoreBody o e) = of_every h g q c m (StoreBody o e) (body_on g q o e)
follows_on h g q c m (StoreSlot d o t e) = of_every h g q c m (StoreSlot d o t e) (slot_on g q d o t e)
follows_on h g q c m (SetLockLatch d t) = of_every h g q c m (SetLockLatch d t) (λ e. finish_on None true q t)
follows_on h g q c m (UnlockWoken k) = of_every h g q c m (UnlockWoken k) (λ e. walk_on None true g q k.pool k.owed (k.worker + 1) k.then)
follows_on h g q c m (SetLatch s) = of_every h g q c m (SetLatch s) (set_on g q s)
follows_on h g q c m (UnlockSettled s) = of_every h g q c m (UnlockSettled s) (λ e. settled_on None true g q s s.latch)
follows_on h g q c m (TakeResult o f) = of_every h g q c m (TakeResult o f) (take_on g q o f)
follows_on h g (Worker i j) c m _ = search (rules, arith)
follows_on h g (Caller n) c m _ = search (rules, arith)

-- places whose acts make a cell, and those whose acts write one
abbrev pub is_growing : Place → Bool
is_growing (GrowCall n) = true
is_growing (GrowScope o) = true
is_growing (GrowCast g) = true
is_growing _ = false

abbrev pub writes_cell : Place → Bool
writes_cell (GrowCall n) = true
writes_cell (GrowScope o) = true
writes_cell (GrowCast g) = true
writes_cell (StorePiece c o t e) = true
writes_cell (StoreBody o e) = true
writes_cell (TakeResult o f) = true
writes_cell (StoreResult c o e) = true
writes_cell _ = false

pub number_is : (a b : ℕ) → Some a ≡ Some b → a ≡ b
number_is a b e = cc

-- who sees a latch set sees the one that its act touches
abbrev pub SeesSet : Party → Part → Place → Seen × Part → Type 0
SeesSet q m x r = (d : ℕ) → sees_set x (r.0) ≡ Some d → (seen_set x ≡ Some d) ⊎ ((target_call (act_of q x) ≡ d) × (m.call.latch ≡ IsSet))

target_set : (m : Part) (g : Target) (d : ℕ) → letter (latch_of g) m ≡ IsSet → target_number g ≡ Some d → (call_of (latch_of g) ≡ d) × (m.call.latch ≡ IsSet)
target_set m Termination d z e = absurd (cc)
target_set m (Answer o f) d z e = (number_is (o.number) d e, z)

working_sees : (q : Party) (m : Part) (k : Wait) (d : ℕ) (x : Letter) → letter (latch_of k.target) m ≡ x → sees_set (ProbeWorking k) (is_set x) ≡ Some d → (call_of (latch_of k.target) ≡ d) × (m.call.latch ≡ IsSet)
working_sees q m k d IsSet z e = target_set m k.target d z e
working_sees q m k d _ z e = absurd (cc)

idle_sees : (q : Party) (m : Part) (k : Wait) (d : ℕ) (x : Letter) → letter (latch_of k.target) m ≡ x → sees_set (ProbeIdle k) (is_set x) ≡ Some d → (call_of (latch_of k.target) ≡ d) × (m.call.latch ≡ IsSet)
idle_sees q m k d IsSet z e = target_set m k.target d z e
idle_sees q m k d _ z e = absurd (cc)

join_sees : (q : Party) (m : Part) (o : OpenCall) (d : ℕ) (x : Letter) → m.call.latch ≡ x → sees_set (JoinProbe o) (is_set x) ≡ Some d → (o.number ≡ d) × (m.call.latch ≡ IsSet)
join_sees q m o d IsSet z e = (number_is (o.number) d e, z)
join_sees q m o d _ z e = absurd (cc)

lock_sees : (m : Part) (o : OpenCall) (x : Letter) → m.call.latch ≡ x → IfSome (lock_wait m x) (λ r. (d : ℕ) → Some o.number ≡ Some d → (seen_set (WaitForLock o) ≡ Some d) ⊎ ((o.number ≡ d) × (m.call.latch ≡ IsSet)))
lock_sees m o IsSet z = λ d e. inr (number_is (o.number) d e, z)
lock_sees m o _ z = tt

pub act_sees : (h : Shape) (q : Party) (c : Counts) (m : Part) (x : Place) → IfSome (effect (act_of q x) h q c m) (SeesSet q m x)
act_sees h (Worker a b) c m (ProbeWorking k) = λ d e. inr (working_sees (Worker a b) m k d (letter (latch_of k.target) m) refl e)
act_sees h (Worker a b) c m (ProbeIdle k) = λ d e. inr (idle_sees (Worker a b) m k d (letter (latch_of k.target) m) refl e)
act_sees h (Worker a b) c m (JoinProbe o) = λ d e. inr (join_sees (Worker a b) m o d m.call.latch refl e)
act_sees h (Worker a b) c m (WaitForLock o) = lock_sees m o m.call.latch refl
act_sees h (Worker a b) c m x = if_some_all (SeesSet (Worker a b) m x) (λ r d e. inl e) (effect (act_of (Worker a b) x) h (Worker a b) c m)
act_sees h (Caller n) c m (ProbeWorking k) = tt
act_sees h (Caller n) c m (ProbeIdle k) = tt
act_sees h (Caller n) c m (JoinProbe o) = tt
act_sees h (Caller n) c m (WaitForLock o) = lock_sees m o m.call.latch refl
act_sees h (Caller n) c m x = if_some_all (SeesSet (Caller n) m x) (λ r d e. inl e) (effect (act_of (Caller n) x) h (Caller n) c m)

-- the latch of a call stays set, but where the call is made
abbrev pub StaysSet : Part → Seen × Part → Type 0
StaysSet m r = m.call.latch ≡ IsSet → r.1.call.latch ≡ IsSet

sleepy_stays : (l : Latch) (m : Part) (x : Letter) → letter l m ≡ x → IfSome (sleepy l m x) (StaysSet m)
sleepy_stays Terminate m Unset z = λ s. s
sleepy_stays (OfCall c) m Unset z = λ s. absurd (let k : Unset ≡ IsSet = sym z ∙ s in cc)
sleepy_stays l m _ z = λ s. s

asleep_stays : (l : Latch) (m : Part) (x : Letter) → letter l m ≡ x → IfSome (fall_asleep l m x) (StaysSet m)
asleep_stays Terminate m IsSleepy z = λ s. s
asleep_stays (OfCall c) m IsSleepy z = λ s. absurd (let k : IsSleepy ≡ IsSet = sym z ∙ s in cc)
asleep_stays l m _ z = λ s. s

wake_stays : (l : Latch) (m : Part) (x : Letter) → letter l m ≡ x → IfSome (wake_up l m x) (StaysSet m)
wake_stays l m IsSet z = λ s. s
wake_stays Terminate m Unset z = λ s. s
wake_stays Terminate m IsSleepy z = λ s. s
wake_stays Terminate m Sleeping z = λ s. s
wake_stays (OfCall c) m Unset z = λ s. absurd (let k : Unset ≡ IsSet = sym z ∙ s in cc)
wake_stays (OfCall c) m IsSleepy z = λ s. absurd (let k : IsSleepy ≡ IsSet = sym z ∙ s in cc)
wake_stays (OfCall c) m Sleeping z = λ s. absurd (let k : Sleeping ≡ IsSet = sym z ∙ s in cc)

set_stays : (l : Latch) (m : Part) (x : Letter) → IfSome (set_latch l m x) (StaysSet m)
set_stays Terminate m Sleeping = λ s. s
set_stays (OfCall c) m Sleeping = λ s. refl
set_stays Terminate m _ = λ s. s
set_stays (OfCall c) m _ = λ s. refl

pub act_stays_set : (h : Shape) (q : Party) (c : Counts) (m : Part) (x : Place) → is_growing x ≡ false → IfSome (effect (act_of q x) h q c m) (StaysSet m)
act_stays_set h (Worker a b) c m (GetSleepy k) z = sleepy_stays (latch_of k.target) m (letter (latch_of k.target) m) refl
act_stays_set h (Worker a b) c m (FallAsleep k) z = asleep_stays (latch_of k.target) m (letter (latch_of k.target) m) refl
act_stays_set h (Worker a b) c m (WakeUp k) z = wake_stays (latch_of k.target) m (letter (latch_of k.target) m) refl
act_stays_set h (Worker a b) c m (SetLatch s) z = set_stays s.latch m (letter s.latch m)
act_stays_set h (Worker a b) c m (SetLockLatch d t) z = λ s. refl
act_stays_set h (Worker a b) c m (GrowCall n) z = cc
act_stays_set h (Worker a b) c m (GrowScope o) z = cc
act_stays_set h (Worker a b) c m (GrowCast g) z = cc
act_stays_set h (Worker a b) c m x z = if_some_map (SameLatches m) (StaysSet m) (λ r s e. s.call ∙ e) (effect (act_of (Worker a b) x) h (Worker a b) c m) (latches_same h (Worker a b) c m x refl)
act_stays_set h (Caller n) c m (GetSleepy k) z = tt
act_stays_set h (Caller n) c m (FallAsleep k) z = tt
act_stays_set h (Caller n) c m (WakeUp k) z = tt
act_stays_set h (Caller n) c m (SetLatch s) z = set_stays s.latch m (letter s.latch m)
act_stays_set h (Caller n) c m (SetLockLatch d t) z = λ s. refl
act_stays_set h (Caller n) c m (GrowCall e) z = cc
act_stays_set h (Caller n) c m (GrowScope o) z = cc
act_stays_set h (Caller n) c m (GrowCast g) z = cc
act_stays_set h (Caller n) c m x z = if_some_map (SameLatches m) (StaysSet m) (λ r s e. s.call ∙ e) (effect (act_of (Caller n) x) h (Caller n) c m) (latches_same h (Caller n) c m x refl)

-- a cell is as it was, but where it is made, stored into or taken from
abbrev pub SameCell : Part → Seen × Part → Type 0
SameCell m r = r.1.call.cell ≡ m.call.cell

writing_act : (q : Party) (x : Place) → writes_cell x ≡ false → puts_cell (act_of q x) ≡ false
writing_act (Worker a b) (ProbeWorking k) z = z
writing_act (Worker a b) (BeginTask t) z = begins puts_cell t (λ n. refl) (λ k i d. refl)
writing_act (Worker a b) (LookQueue n) z = looks puts_cell (Worker a b) (plan_pool n) refl refl
writing_act (Worker a b) (PushJob n v) z = pushes puts_cell (Worker a b) (plan_pool n) (plan_job n) (plan_book n) refl refl
writing_act (Worker a b) _ z = z
writing_act (Caller c) (BeginTask t) z = begins puts_cell t (λ n. refl) (λ k i d. refl)
writing_act (Caller c) (LookQueue n) z = looks puts_cell (Caller c) (plan_pool n) refl refl
writing_act (Caller c) (PushJob n v) z = pushes puts_cell (Caller c) (plan_pool n) (plan_job n) (plan_book n) refl refl
writing_act (Caller c) _ z = z

pub act_cell : (h : Shape) (q : Party) (c : Counts) (m : Part) (x : Place) → writes_cell x ≡ false → IfSome (effect (act_of q x) h q c m) (SameCell m)
act_cell h q c m x z = if_some_map (Spared (act_of q x) m) (SameCell m) (λ r s. s.cell (writing_act q x z)) (effect (act_of q x) h q c m) (act_spared (act_of q x) h q c m)

-- what is stored is in the cell
pub act_stores : (h : Shape) (q : Party) (c : Counts) (m : Part) (d : ℕ) (o : Party) (e : Ending) → IfSome (effect (act_of q (StoreResult d o e)) h q c m) (λ r. r.1.call.cell ≡ Some e)
act_stores h (Worker a b) c m d o e = refl
act_stores h (Caller n) c m d o e = refl

-- a call that takes nothing found its cell empty
take_finds : (m : Part) (o : OpenCall) (f : Option Ending) (x : Option Ending) → m.call.cell ≡ x → IfSome (found m x) (λ r. finds_missing (TakeResult o f) (r.0) ≡ true → m.call.cell ≡ None)
take_finds m o f None z = λ e. z
take_finds m o f (Some d) z = λ e. cc

pub act_finds : (h : Shape) (q : Party) (c : Counts) (m : Part) (o : OpenCall) (f : Option Ending) → IfSome (effect (act_of q (TakeResult o f)) h q c m) (λ r. finds_missing (TakeResult o f) (r.0) ≡ true → m.call.cell ≡ None)
act_finds h (Worker a b) c m o f = take_finds m o f m.call.cell refl
act_finds h (Caller n) c m o f = take_finds m o f m.call.cell refl

-- whose act sets the latch of a call is about to set the one that it touches
latch_sets : (l : Latch) → is_call l ≡ true → latch_number l ≡ Some (call_of l)
latch_sets (OfCall c) e = refl
latch_sets Terminate e = cc

pub sets_touched : (q : Party) (x : Place) → sets_call x ≡ true → sets_now x ≡ Some (target_call (act_of q x))
sets_touched (Worker a b) (SetLatch s) e = latch_sets s.latch e
sets_touched (Caller n) (SetLatch s) e = latch_sets s.latch e
sets_touched (Worker a b) (SetLockLatch c t) e = refl
sets_touched (Caller n) (SetLockLatch c t) e = refl
sets_touched q _ e = cc
