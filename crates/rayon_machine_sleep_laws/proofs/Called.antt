-- a worker that looks no more at its broadcast list, where that is filled, is called
--
-- Who has filled that list calls all, and has not passed the worker (`always_hears`).
use Rattle.rayon_machine_places.specs.declared.place.Count.TheVariants.{OfPool, OfScope, OfCast}
use Rattle.rayon_machine_sleep_laws.proofs.Words.{Detach, Here, Send, Fork, Feed, Open, Enter, Gather, Count, Plan, Feeding, Gathering, Wait, Stay, rules, arith, refl, sym, ◌∙◌, ap, subst, inl, inr, ◌≢◌, ℕ, Bool, true, false, ◌&&◌, ◌||◌, ◌+◌, ◌-◌, ◌==◌, ◌<◌, ◌≤◌, nat_lt, nat_le, if◌then◌else◌}
use Rattle.rayon_machine_sleep_laws.proofs.Words.{Some, None, List, [], ◌∷◌, ◌≡◌, ◌⊎◌, IfSome, Option, eqb-true, eq-eqb, ltb-true, lt-ltb, le-leb, ltb-false, Party, Worker, Caller, Termination, Answer, Latch, Terminate, OfCall, Pieces, Then, BeginFound, LeaveWait, Await, RunFirst, Gathers}
use Rattle.rayon_machine_sleep_laws.proofs.Words.{Place, ProbeWorking, TakeCastIdle, YieldTakeCast, LocalTakeCast, LookAtCast, LookAtInjector, BlockSelf, LeaveSearch, RaiseForAll, PushForAll, LockToWake, WakeWorker, UnlockWoken, SetLatch, WakeSettled, UnlockSettled, Free, Stopped, OpenForAll}
use Rattle.rayon_machine_sleep_laws.proofs.Words.{GrowCast, DealPieces, RaiseCount, TakeFromFifo, LowerForAll, Set, Seen, Yes, Done, Task, Event, PoolShape, Walk, Settling, same_party, own_index, finish, walk, after_set, act_of, next_of, fresh, withdraw, count_book, begin_cast, begin_feed}
use Rattle.rayon_machine_sleep_laws.proofs.Words.{ends_count, taken_number, Shape, Pool, Stack, World, Counts, Part, target_pool, target_worker, take_cast, effect, after_move, step, put, start, IsRun, first_place, is_blocking, is_filled, Act, Sleepy, Asleep, Wakeup, LookOwn, LookInj, PushOwn}
use Rattle.rayon_machine_sleep_laws.proofs.Words.{PushInj, Letter, IsSet, letter, with_letter, is_member, plan_pool, plan_job, plan_book, Plain as PlainTask, Token, LockOwn, FallAsleep, LoadCounters, AddSleeping, RelockOwn, UndoSleeping, WakeUp, LockToSettle, BeginTask, LookQueue, PushJob}
use Rattle.std.proofs.lemmas.Bool.{leb-true}
use Rattle.rayon_machine_places.specs.declared.place.Place.TheVariants.{TakeCastWorking, JoinTakeCast}
use Rattle.rayon_machine_places.specs.declared.act.Seen.TheVariants.{Opened}
use Rattle.rayon_machine_places.specs.Places.{call_all, gather_all}
use Rattle.rayon_machine_runs.specs.World.{Seat, casts_with, empty_seen, left_book, undealt_after}
use Rattle.rayon_machine_laws.specs.Attended.{is_calling, owes_cast, HasCaster, IsCastAttended}
use Rattle.rayon_machine_laws.proofs.Asides.{Aside, steps_aside}
use Rattle.rayon_machine_laws.proofs.Attend.{is_owing}
use Rattle.rayon_machine_laws.proofs.Attended.{Awake, calm_parts, step_awake, first_awake}
use Rattle.rayon_machine_laws.proofs.Calm.{SameSets, seat_same, part_at, counts_seen, next_at, top_then}
use Rattle.rayon_machine_laws.proofs.Events.{run_keeps}
use Rattle.rayon_machine_laws.proofs.Frame.{either, and_parts, or_parts, same_index, same_refl, same_party_true, if_some_all, if_some_and, if_some_map, stack_mine, put_old}
use Rattle.rayon_machine_laws.proofs.Holding.{LocksOk}
use Rattle.rayon_machine_laws.proofs.Kept.{sizes, SizedAs, frame_unsized, plan_sizes}
use Rattle.rayon_machine_laws.proofs.Locks.{tops_map, holds, if_both}
use Rattle.rayon_machine_laws.proofs.Seats.{is_frame, mode, owns_in}
use Rattle.rayon_machine_laws.proofs.Ties.{SeatsOk, shape_at, outcome, result}
use Rattle.rayon_machine_laws.proofs.Tops.{Tops, FramesOk, is_light, frame_light, settled_leads, leads_tops, Leads, leads, is_heavy}
use Rattle.rayon_machine_laws.proofs.Waking.{Woke, wake_seen}
use Rattle.rayon_machine_laws.proofs.Letters.{sleepy_keeps, asleep_keeps, wake_keeps, set_keeps}
use Rattle.rayon_machine_places.specs.declared.act.Act.TheVariants.{TakeCast, PushCast}

-- where a worker has looked at its broadcast list for the last time, and is not blocked yet
abbrev pub is_late : Place → Bool
is_late (LookAtInjector k) = true
is_late (BlockSelf k) = true
is_late _ = false

-- a worker that looks at its broadcast list no more, before it is woken
abbrev pub is_deaf : World → ℕ → ℕ → Bool
is_deaf w p i = is_late (w.stack (Worker p i)).top || (w.seat p i).blocked

-- what holds of the broadcast lists in each world
pub record CastsOk (w : World) : Type 0 where
  pub sized : (q : Party) → SizedAs w.shape (sizes (w.stack q).top)
  pub beyond : (p i : ℕ) → (w.shape.pool p).workers ≤ i → is_filled ((w.pool p).casts i) ≡ false
  pub called : (p i : ℕ) → is_filled ((w.pool p).casts i) ≡ true → is_deaf w p i ≡ true → HasCaster w p i

-- places from which a party comes where it has looked at its list for the last time
abbrev nears : Place → Bool
nears (LookAtCast k) = true
nears (LookAtInjector k) = true
nears _ = false

pub light_awake : (x : Place) → is_light x ≡ true → is_late x ≡ false
light_awake (LookAtInjector k) e = cc
light_awake (BlockSelf k) e = cc
light_awake _ e = refl

frame_awake : (f : Place) → is_frame f ≡ true → is_late f ≡ false
frame_awake f e = light_awake f (frame_light f e)

settled_awake : (h : PoolShape) (q : Party) (s : Settling) → Tops (λ y. is_late y ≡ false) (after_set h q s s.latch)
settled_awake h q s = tops_map (λ y. is_light y ≡ true) (λ y. is_late y ≡ false) light_awake (after_set h q s s.latch) (leads_tops (after_set h q s s.latch) (settled_leads false h q s s.latch))

set_awake : (h : PoolShape) (q : Party) (s : Settling) (e : Seen) → Tops (λ y. is_late y ≡ false) (next_of h q (SetLatch s) e)
set_awake h q s Yes = refl
set_awake h q s _ = settled_awake h q s

-- where nothing of the sleep half is done, nothing of it is done next
calm_late : (h : Shape) (g : PoolShape) (q : Party) (c : Counts) (m : Part) (x : Place) → is_heavy x ≡ false → IfSome (effect (act_of q x) h q c m) (λ r. Tops (λ y. is_late y ≡ false) (next_of g q x (r.0)))
calm_late h g q c m x e = if_some_map {A = Seen × Part} (λ r. Leads false (next_of g q x (r.0))) (λ r. Tops (λ y. is_late y ≡ false) (next_of g q x (r.0)))
    (λ r l. tops_map (λ y. is_light y ≡ true) (λ y. is_late y ≡ false) light_awake (next_of g q x (r.0)) (leads_tops (next_of g q x (r.0)) l)) (effect (act_of q x) h q c m)
    (subst (λ b. IfSome (effect (act_of q x) h q c m) (λ r. Leads b (next_of g q x (r.0)))) e (leads h g q c m x))

never_late : (h : Shape) (g : PoolShape) (q : Party) (c : Counts) (m : Part) (x : Place) → nears x ≡ false → IfSome (effect (act_of q x) h q c m) (λ r. Tops (λ y. is_late y ≡ false) (next_of g q x (r.0)))
never_late h g (Worker i j) c m (LockOwn k) z = search (rules, arith)
never_late h g (Worker i j) c m (FallAsleep k) z = search (rules, arith)
never_late h g (Worker i j) c m (LoadCounters k) z = search (rules, arith)
never_late h g (Worker i j) c m (AddSleeping k) z = search (rules, arith)
never_late h g q c m (LookAtCast k) z = cc
never_late h g q c m (LookAtInjector k) z = cc
never_late h g (Worker i j) c m (BlockSelf k) z = search (rules, arith)
never_late h g (Worker i j) c m (RelockOwn k) z = search (rules, arith)
never_late h g (Worker i j) c m (UndoSleeping k) z = search (rules, arith)
never_late h g (Worker i j) c m (WakeUp k) z = search (rules, arith)
never_late h g (Worker i j) c m (LockToWake k) z = search (rules, arith)
never_late h g (Worker i j) c m (WakeWorker k) z = search (rules, arith)
never_late h g (Worker i j) c m (LockToSettle k) z = search (rules, arith)
never_late h g (Worker i j) c m (WakeSettled k) z = search (rules, arith)
never_late h g (Caller n) c m (LockOwn k) z = tt
never_late h g (Caller n) c m (FallAsleep k) z = tt
never_late h g (Caller n) c m (LoadCounters k) z = tt
never_late h g (Caller n) c m (AddSleeping k) z = tt
never_late h g (Caller n) c m (BlockSelf k) z = tt
never_late h g (Caller n) c m (RelockOwn k) z = tt
never_late h g (Caller n) c m (UndoSleeping k) z = tt
never_late h g (Caller n) c m (WakeUp k) z = tt
never_late h g (Caller n) c m (LockToWake k) z = search (rules, arith)
never_late h g (Caller n) c m (WakeWorker k) z = search (rules, arith)
never_late h g (Caller n) c m (LockToSettle k) z = search (rules, arith)
never_late h g (Caller n) c m (WakeSettled k) z = search (rules, arith)
never_late h g q c m (SetLatch s) z = if_some_all {A = Seen × Part} (λ r. Tops (λ y. is_late y ≡ false) (next_of g q (SetLatch s) (r.0))) (λ r. set_awake g q s (r.0)) (effect (act_of q (SetLatch s)) h q c m)
never_late h g q c m x z = calm_late h g q c m x refl

-- no act but the own Block blocks a worker
blocked_less : (h : Shape) (q : Party) (c : Counts) (m : Part) (x : Place) → is_blocking x ≡ false → IfSome (effect (act_of q x) h q c m) (λ r. r.1.seat.blocked ≡ true → m.seat.blocked ≡ true)
blocked_less h (Worker i j) c m (LookAtInjector k) z = λ e. e
blocked_less h (Caller n) c m (LookAtInjector k) z = tt
blocked_less h (Worker i j) c m (LeaveSearch k) z = λ e. e
blocked_less h (Caller n) c m (LeaveSearch k) z = tt
blocked_less h q c m (BlockSelf k) z = cc
blocked_less h (Worker i j) c m (WakeWorker k) z = if_both m.seat.blocked (λ (r : Seen × Part). r.1.seat.blocked ≡ true → m.seat.blocked ≡ true) (λ e. absurd (cc)) (λ e. e)
blocked_less h (Caller n) c m (WakeWorker k) z = if_both m.seat.blocked (λ (r : Seen × Part). r.1.seat.blocked ≡ true → m.seat.blocked ≡ true) (λ e. absurd (cc)) (λ e. e)
blocked_less h (Worker i j) c m (WakeSettled k) z = if_both m.seat.blocked (λ (r : Seen × Part). r.1.seat.blocked ≡ true → m.seat.blocked ≡ true) (λ e. absurd (cc)) (λ e. e)
blocked_less h (Caller n) c m (WakeSettled k) z = if_both m.seat.blocked (λ (r : Seen × Part). r.1.seat.blocked ≡ true → m.seat.blocked ≡ true) (λ e. absurd (cc)) (λ e. e)
blocked_less h q c m x z = if_some_map (λ r. SameSets m.seat (r.1.seat)) (λ r. r.1.seat.blocked ≡ true → m.seat.blocked ≡ true) (λ r s e. sym (s.blocked) ∙ e) (effect (act_of q x) h q c m) (seat_same h q c m x refl)

-- where an act leaves a broadcast list filled, it was
abbrev CastsLess : Part → Seen × Part → Type 0
CastsLess m r = (i : ℕ) → is_filled (r.1.pool.casts i) ≡ true → is_filled (m.pool.casts i) ≡ true

take_less : (q : Party) (m : Part) (l : List ℕ) → m.pool.casts (own_index q) ≡ l → IfSome (take_cast q m l) (CastsLess m)
take_less q m [] e = λ i h. h
take_less q m (t ∷ ts) e = λ i h. by i (i == own_index q) refl h
  where
    by : (i : ℕ) (b : Bool) → (i == own_index q) ≡ b → is_filled (if b then ts else m.pool.casts i) ≡ true → is_filled (m.pool.casts i) ≡ true
    by i true z h = ap (λ n. is_filled (m.pool.casts n)) (eqb-true i (own_index q) z) ∙ ap is_filled e
    by i false z h = h

abbrev takes : Place → Bool
takes (TakeCastWorking k) = true
takes (TakeCastIdle k) = true
takes (JoinTakeCast o) = true
takes YieldTakeCast = true
takes LocalTakeCast = true
takes _ = false

abbrev deals : Place → Bool
deals (PushForAll b) = true
deals (DealPieces d) = true
deals _ = false

-- the acts that change one
abbrev is_of_cast : Act → Bool
is_of_cast TakeCast = true
is_of_cast (PushCast b) = true
is_of_cast _ = false

abbrev SameCasts : Part → Seen × Part → Type 0
SameCasts m r = r.1.pool.casts ≡ m.pool.casts

letter_casts : (l : Latch) (m : Part) (e : Seen) (y : Letter) → SameCasts m (e, with_letter l m y)
letter_casts Terminate m e y = refl
letter_casts (OfCall c) m e y = refl

act_casts : (a : Act) (h : Shape) (q : Party) (c : Counts) (m : Part) → is_of_cast a ≡ false → IfSome (effect a h q c m) (SameCasts m)
act_casts TakeCast h q c m z = cc
act_casts (PushCast b) h q c m z = cc
act_casts (Sleepy l) h q c m z = sleepy_keeps l SameCasts (λ v e. refl) (λ v e y n. letter_casts l v e y) m (letter l m)
act_casts (Asleep l) h q c m z = asleep_keeps l SameCasts (λ v e. refl) (λ v e y n. letter_casts l v e y) m (letter l m)
act_casts (Wakeup l) h q c m z = wake_keeps l SameCasts (λ v e. refl) (λ v e y n. letter_casts l v e y) m (letter l m)
act_casts (Set l r j) h q c m z = set_keeps l SameCasts (λ v e. letter_casts l v e IsSet) m (letter l m)
act_casts _ h q c m z = search (rules, arith)

either_act : (b : Bool) (x y : Act) → is_of_cast x ≡ false → is_of_cast y ≡ false → is_of_cast (if b then x else y) ≡ false
either_act true x y e f = e
either_act false x y e f = f

place_casts : (q : Party) (x : Place) → deals x ≡ false → takes x ≡ false → is_of_cast (act_of q x) ≡ false
place_casts (Worker a b) (ProbeWorking k) e z = refl
place_casts q (BeginTask (PlainTask t)) e z = refl
place_casts q (BeginTask (Token k i l)) e z = refl
place_casts q (LookQueue n) e z = either_act (is_member q (plan_pool n)) LookOwn (LookInj (plan_pool n)) refl refl
place_casts q (PushJob n v) e z = either_act (is_member q (plan_pool n)) (PushOwn (plan_job n) (plan_book n)) (PushInj (plan_pool n) (plan_job n) (plan_book n)) refl refl
place_casts q (PushForAll b) e z = absurd (let a : true ≡ false = e in cc)
place_casts q (DealPieces d) e z = absurd (let a : true ≡ false = e in cc)
place_casts q (TakeCastWorking k) e z = absurd (let a : true ≡ false = z in cc)
place_casts q (TakeCastIdle k) e z = absurd (let a : true ≡ false = z in cc)
place_casts q (JoinTakeCast o) e z = absurd (let a : true ≡ false = z in cc)
place_casts q YieldTakeCast e z = absurd (let a : true ≡ false = z in cc)
place_casts q LocalTakeCast e z = absurd (let a : true ≡ false = z in cc)
place_casts (Worker a b) _ e z = refl
place_casts (Caller n) _ e z = refl

same_casts : (h : Shape) (q : Party) (c : Counts) (m : Part) (x : Place) → deals x ≡ false → takes x ≡ false → IfSome (effect (act_of q x) h q c m) (λ r. r.1.pool.casts ≡ m.pool.casts)
same_casts h q c m x e z = act_casts (act_of q x) h q c m (place_casts q x e z)

casts_less : (h : Shape) (q : Party) (c : Counts) (m : Part) (x : Place) → deals x ≡ false → IfSome (effect (act_of q x) h q c m) (CastsLess m)
casts_less h (Worker a b) c m (TakeCastWorking k) e = take_less (Worker a b) m (m.pool.casts b) refl
casts_less h (Worker a b) c m (TakeCastIdle k) e = take_less (Worker a b) m (m.pool.casts b) refl
casts_less h (Worker a b) c m (JoinTakeCast k) e = take_less (Worker a b) m (m.pool.casts b) refl
casts_less h (Worker a b) c m YieldTakeCast e = take_less (Worker a b) m (m.pool.casts b) refl
casts_less h (Worker a b) c m LocalTakeCast e = take_less (Worker a b) m (m.pool.casts b) refl
casts_less h (Caller n) c m (TakeCastWorking k) e = tt
casts_less h (Caller n) c m (TakeCastIdle k) e = tt
casts_less h (Caller n) c m (JoinTakeCast k) e = tt
casts_less h (Caller n) c m YieldTakeCast e = tt
casts_less h (Caller n) c m LocalTakeCast e = tt
casts_less h q c m (PushForAll k) e = cc
casts_less h q c m (DealPieces k) e = cc
casts_less h q c m x e = if_some_map {A = Seen × Part} (λ r. r.1.pool.casts ≡ m.pool.casts) (CastsLess m) (λ r s i f. ap (λ l. is_filled (l i)) (sym s) ∙ f) (effect (act_of q x) h q c m) (same_casts h q c m x refl refl)

-- no move but that of the Raise leads to pieces that are about to be dealt
finish_unsized : (q : Party) (t : Then) → Tops (λ y. sizes y ≡ None) (finish q t)
finish_unsized q (BeginFound Termination t) = refl
finish_unsized q (BeginFound (Answer o f) t) = refl
finish_unsized q (LeaveWait Termination) = refl
finish_unsized q (LeaveWait (Answer o f)) = refl
finish_unsized (Worker i j) (Await o) = refl
finish_unsized (Caller c) (Await o) = refl
finish_unsized (Worker i j) (Gathers o) = refl
finish_unsized (Caller c) (Gathers o) = refl
finish_unsized q (RunFirst o a) = refl
finish_unsized q _ = tt

settled_unsized : (h : PoolShape) (q : Party) (s : Settling) (l : Latch) → Tops (λ y. sizes y ≡ None) (after_set h q s l)
settled_unsized h q s Terminate = by (nat_lt (s.worker + 1) h.workers)
  where
    by : (b : Bool) → Tops (λ y. sizes y ≡ None) (if b then Stay (SetLatch (record { latch = Terminate; pool = s.pool; worker = s.worker + 1; then = s.then })) else finish q s.then)
    by true = refl
    by false = finish_unsized q s.then
settled_unsized h q s (OfCall c) = finish_unsized q s.then

set_unsized : (h : PoolShape) (q : Party) (s : Settling) (e : Seen) → Tops (λ y. sizes y ≡ None) (next_of h q (SetLatch s) e)
set_unsized h q s Yes = refl
set_unsized h q s _ = settled_unsized h q s s.latch

abbrev raises_all : Place → Bool
raises_all (RaiseForAll b) = true
raises_all (OpenForAll b) = true
raises_all (RaiseCount n) = true
raises_all (GrowCast d) = true
raises_all _ = false

drawn_unsized : (o : Option ℕ) (n : Plan) → sizes (withdraw o n) ≡ None
drawn_unsized None n = refl
drawn_unsized (Some c) n = refl

back_unsized : (h : PoolShape) (q : Party) (f : Feeding) (e : Seen) → Tops (λ y. sizes y ≡ None) (next_of h q (TakeFromFifo f) e)
back_unsized h q f (Task x) = drawn_unsized (count_book f.count) (Feed (record f { job = taken_number x }))
back_unsized h q f _ = tt

ends_unsized : (k : Count) → sizes (ends_count k) ≡ None
ends_unsized (OfPool p) = refl
ends_unsized (OfScope c (Worker i j)) = refl
ends_unsized (OfScope c (Caller n)) = refl
ends_unsized (OfCast c (Worker i j)) = refl
ends_unsized (OfCast c (Caller n)) = refl

sunk_unsized : (h : PoolShape) (q : Party) (b : Pieces) (e : Seen) → Tops (λ y. sizes y ≡ None) (next_of h q (LowerForAll b) e)
sunk_unsized h q b Yes = ends_unsized b.count
sunk_unsized h q b _ = tt

unsized : (h : Shape) (g : PoolShape) (q : Party) (c : Counts) (m : Part) (x : Place) → raises_all x ≡ false → IfSome (effect (act_of q x) h q c m) (λ r. Tops (λ y. sizes y ≡ None) (next_of g q x (r.0)))
unsized h g (Worker i j) c m (ProbeWorking k) z = search (rules, arith)
unsized h g q c m (RaiseForAll b) z = cc
unsized h g q c m (OpenForAll b) z = cc
unsized h g q c m (RaiseCount n) z = cc
unsized h g q c m (GrowCast d) z = cc
unsized h g q c m (TakeFromFifo f) z = if_some_all {A = Seen × Part} (λ r. Tops (λ y. sizes y ≡ None) (next_of g q (TakeFromFifo f) (r.0))) (λ r. back_unsized g q f (r.0)) (effect (act_of q (TakeFromFifo f)) h q c m)
unsized h g q c m (LowerForAll b) z = if_some_all {A = Seen × Part} (λ r. Tops (λ y. sizes y ≡ None) (next_of g q (LowerForAll b) (r.0))) (λ r. sunk_unsized g q b (r.0)) (effect (act_of q (LowerForAll b)) h q c m)
unsized h g q c m (SetLatch s) z = if_some_all {A = Seen × Part} (λ r. Tops (λ y. sizes y ≡ None) (next_of g q (SetLatch s) (r.0))) (λ r. set_unsized g q s (r.0)) (effect (act_of q (SetLatch s)) h q c m)
unsized h g q c m (UnlockSettled s) z = if_some_all {A = Seen × Part} (λ r. Tops (λ y. sizes y ≡ None) (next_of g q (UnlockSettled s) (r.0))) (λ r. settled_unsized g q s s.latch) (effect (act_of q (UnlockSettled s)) h q c m)
unsized h g (Worker i j) c m _ z = search (rules, arith)
unsized h g (Caller n) c m _ z = search (rules, arith)

abbrev Sized : Shape → Pieces → ℕ → Type 0
Sized h b p = (b.workers ≡ (h.pool b.pool).workers) × (p ≡ b.pool)

begun_sized : (h : Shape) (b : Pieces) (k : Count) → Sized h b b.pool → SizedAs h (sizes (begin_cast k b))
begun_sized h b (OfPool p) s = s
begun_sized h b _ s = s

opened_sized : (g : PoolShape) (q : Party) (b : Pieces) (h : Shape) (e : Seen) → Sized h b b.pool → Tops (λ y. SizedAs h (sizes y)) (next_of g q (OpenForAll b) e)
opened_sized g q b h (Opened n) s = s
opened_sized g q b h _ s = tt

fed_sized : (h : Shape) (f : Feeding) (k : Count) → SizedAs h (sizes (begin_feed k f))
fed_sized h f (OfPool p) = tt
fed_sized h f _ = tt

plan_sized : (g : PoolShape) (q : Party) (n : Plan) (h : Shape) (e : Seen) → SizedAs h (plan_sizes n) → Tops (λ y. SizedAs h (sizes y)) (next_of g q (RaiseCount n) e)
plan_sized g q (Gather d) h Done s = s
plan_sized g q (Feed f) h Done s = fed_sized h f f.count
plan_sized g q (Detach p t) h Done s = tt
plan_sized g q (Here p t) h Done s = tt
plan_sized g q (Send o) h Done s = tt
plan_sized g q (Fork o a) h Done s = tt
plan_sized g q (Open o) h Done s = tt
plan_sized g q (Enter n) h Done s = tt
plan_sized g q n h _ s = tt

grown_sized : (g : PoolShape) (q : Party) (d : Gathering) (h : Shape) (e : Seen) → Sized h d.pieces d.call.pool → Tops (λ y. SizedAs h (sizes y)) (next_of g q (GrowCast d) e)
grown_sized g q d h Done s = s
grown_sized g q d h _ s = tt

raised_sized : (g : PoolShape) (q : Party) (b : Pieces) (h : Shape) (e : Seen) → Sized h b b.pool → Tops (λ y. SizedAs h (sizes y)) (next_of g q (RaiseForAll b) e)
raised_sized g q b h Done s = begun_sized h b b.count s
raised_sized g q b h _ s = tt

sized_tops : (w : World) (q : Party) (x : Place) (fs : List Place) → w.stack q ≡ record { top = x; below = fs } → CastsOk w → IfSome (outcome w q (record { top = x; below = fs })) (λ r. Tops (λ y. SizedAs w.shape (sizes y)) (next_at w q (record { top = x; below = fs }) (r.0)))
sized_tops w q (RaiseForAll b) fs e ok = if_some_all {A = Seen × Part} (λ r. Tops (λ y. SizedAs w.shape (sizes y)) (next_at w q (record { top = RaiseForAll b; below = fs }) (r.0)))
    (λ r. raised_sized (shape_at w q (record { top = RaiseForAll b; below = fs })) q b w.shape (r.0) (subst (λ k. SizedAs w.shape (sizes (k.top))) e (ok.sized q))) (outcome w q (record { top = RaiseForAll b; below = fs }))
sized_tops w q (OpenForAll b) fs e ok = if_some_all {A = Seen × Part} (λ r. Tops (λ y. SizedAs w.shape (sizes y)) (next_at w q (record { top = OpenForAll b; below = fs }) (r.0)))
    (λ r. opened_sized (shape_at w q (record { top = OpenForAll b; below = fs })) q b w.shape (r.0) (subst (λ k. SizedAs w.shape (sizes (k.top))) e (ok.sized q))) (outcome w q (record { top = OpenForAll b; below = fs }))
sized_tops w q (RaiseCount n) fs e ok = if_some_all {A = Seen × Part} (λ r. Tops (λ y. SizedAs w.shape (sizes y)) (next_at w q (record { top = RaiseCount n; below = fs }) (r.0)))
    (λ r. plan_sized (shape_at w q (record { top = RaiseCount n; below = fs })) q n w.shape (r.0) (subst (λ k. SizedAs w.shape (sizes (k.top))) e (ok.sized q))) (outcome w q (record { top = RaiseCount n; below = fs }))
sized_tops w q (GrowCast d) fs e ok = if_some_all {A = Seen × Part} (λ r. Tops (λ y. SizedAs w.shape (sizes y)) (next_at w q (record { top = GrowCast d; below = fs }) (r.0)))
    (λ r. grown_sized (shape_at w q (record { top = GrowCast d; below = fs })) q d w.shape (r.0) (subst (λ k. SizedAs w.shape (sizes (k.top))) e (ok.sized q))) (outcome w q (record { top = GrowCast d; below = fs }))
sized_tops w q x fs e ok = let k : Stack = record { top = x; below = fs } in
    if_some_map {A = Seen × Part} (λ r. Tops (λ y. sizes y ≡ None) (next_at w q k (r.0))) (λ r. Tops (λ y. SizedAs w.shape (sizes y)) (next_at w q k (r.0)))
    (λ r t. tops_map (λ y. sizes y ≡ None) (λ y. SizedAs w.shape (sizes y)) (λ y n. subst (SizedAs w.shape) (sym n) tt) (next_at w q k (r.0)) t) (outcome w q k) (unsized w.shape (shape_at w q k) q (counts_seen w q k) (part_at w q k) x refl)

sized_go : (w : World) (q : Party) (k : Stack) → w.stack q ≡ k → FramesOk w → CastsOk w → IfSome (outcome w q k) (λ r. (g : Party) → SizedAs w.shape (sizes ((result w q k r).stack g).top))
sized_go w q k e fr ok = if_some_map {A = Seen × Part} (λ r. Tops (λ y. SizedAs w.shape (sizes y)) (next_at w q k (r.0))) (λ r. (g : Party) → SizedAs w.shape (sizes ((result w q k r).stack g).top)) (λ r t g. by r t g (same_party g q)) (outcome w q k) (sized_tops w q k.top k.below e ok)
  where
    by : (r : Seen × Part) → Tops (λ y. SizedAs w.shape (sizes y)) (next_at w q k (r.0)) → (g : Party) (b : Bool) → SizedAs w.shape (sizes ((if b then after_move (next_at w q k (r.0)) k.below else w.stack g).top))
    by r t g true = top_then (λ y. SizedAs w.shape (sizes y)) w q k (r.0) e fr (λ f a. subst (SizedAs w.shape) (sym (frame_unsized f a)) tt) t
    by r t g false = ok.sized g

-- the lists after an act that deals no pieces
filled_back : (w : World) (q : Party) (k : Stack) (r : Seen × Part) → CastsLess (part_at w q k) r → (p i : ℕ) → is_filled (((result w q k r).pool p).casts i) ≡ true → is_filled ((w.pool p).casts i) ≡ true
filled_back w q k r less p i h = by (p == target_pool q (act_of q k.top)) refl h
  where
    by : (b : Bool) → (p == target_pool q (act_of q k.top)) ≡ b → is_filled ((if b then r.1.pool else w.pool p).casts i) ≡ true → is_filled ((w.pool p).casts i) ≡ true
    by true z h = subst (λ n. is_filled ((w.pool n).casts i) ≡ true) (sym (eqb-true p (target_pool q (act_of q k.top)) z)) (less i h)
    by false z h = h

not_filled : (b : Bool) → (b ≡ true → ⊥) → b ≡ false
not_filled true f = absurd (f refl)
not_filled false f = refl

-- who owes still does, or is passed
still_called : (w : World) (q : Party) (k : Stack) (r : Seen × Part) (p i : ℕ) → w.stack q ≡ k → HasCaster w p i → (owes_cast k.top (w.shape.pool p).workers p i ≡ true → owes_cast ((after_move (next_at w q k (r.0)) k.below).top) (w.shape.pool p).workers p i ≡ true) → HasCaster (result w q k r) p i
still_called w q k r p i e hc on = record { party = hc.party; casts = by (same_party (hc.party) q) refl }
  where
    by : (b : Bool) → same_party (hc.party) q ≡ b → owes_cast ((if b then after_move (next_at w q k (r.0)) k.below else w.stack (hc.party)).top) (w.shape.pool p).workers p i ≡ true
    by true z = on (subst (λ s. owes_cast (s.top) (w.shape.pool p).workers p i ≡ true) (ap w.stack (same_party_true (hc.party) q z) ∙ e) (hc.casts))
    by false z = hc.casts

-- a worker that looks no more after an act did not before, but for its own look and its own Block
deaf_back : (w : World) (q : Party) (k : Stack) (r : Seen × Part) (p i : ℕ) → w.stack q ≡ k → FramesOk w → (same_party (Worker p i) q ≡ true → is_late ((after_move (next_at w q k (r.0)) k.below).top) ≡ true → is_deaf w p i ≡ true)
    → (((p == target_pool q (act_of q k.top)) && (i == target_worker q (act_of q k.top))) ≡ true → r.1.seat.blocked ≡ true → is_deaf w p i ≡ true) → is_deaf (result w q k r) p i ≡ true → is_deaf w p i ≡ true
deaf_back w q k r p i e fr late blocked h = elim (or_parts (is_late ((result w q k r).stack (Worker p i)).top) (((result w q k r).seat p i).blocked) h)
    [ inl a ↦ by_top (same_party (Worker p i) q) refl a | inr b ↦ by_seat ((p == target_pool q (act_of q k.top)) && (i == target_worker q (act_of q k.top))) refl b ]
  where
    or_true : (b : Bool) → (b || true) ≡ true
    or_true true = refl
    or_true false = refl

    by_top : (b : Bool) → same_party (Worker p i) q ≡ b → is_late ((if b then after_move (next_at w q k (r.0)) k.below else w.stack (Worker p i)).top) ≡ true → is_deaf w p i ≡ true
    by_top true z a = late z a
    by_top false z a = (rw a refl)

    by_seat : (b : Bool) → ((p == target_pool q (act_of q k.top)) && (i == target_worker q (act_of q k.top))) ≡ b → (if b then r.1.seat else w.seat p i).blocked ≡ true → is_deaf w p i ≡ true
    by_seat true z a = blocked z a
    by_seat false z a = (rw a (or_true (is_late (w.stack (Worker p i)).top)))

or_right : (a b : Bool) → b ≡ true → (a || b) ≡ true
or_right true b e = refl
or_right false b e = e

-- the seat that an act touches, by the worker that it is of
touched : (w : World) (q : Party) (k : Stack) (p i : ℕ) → ((p == target_pool q (act_of q k.top)) && (i == target_worker q (act_of q k.top))) ≡ true → (part_at w q k).seat ≡ w.seat p i
touched w q k p i z = let at : (p ≡ target_pool q (act_of q k.top)) × (i ≡ target_worker q (act_of q k.top)) = same_index p i (target_pool q (act_of q k.top)) (target_worker q (act_of q k.top)) z in ap (λ n. w.seat n (target_worker q (act_of q k.top))) (sym (at.0))
    ∙ ap (λ n. w.seat p n) (sym (at.1))

-- the party's own top is that place
own_top : (w : World) (q : Party) (k : Stack) (p i : ℕ) → w.stack q ≡ k → same_party (Worker p i) q ≡ true → (w.stack (Worker p i)).top ≡ k.top
own_top w q k p i e z = ap (λ n. (w.stack n).top) (same_party_true (Worker p i) q z) ∙ ap (λ n. n.top) e

-- what the acts of a place do to the lists and to the workers that look no more
abbrev Plain : World → Party → Stack → Seen × Part → Type 0
Plain w q k r = (Tops (λ y. is_late y ≡ false) (next_at w q k (r.0)) ⊎ (is_late k.top ≡ true)) × (r.1.seat.blocked ≡ true → (part_at w q k).seat.blocked ≡ true) × CastsLess (part_at w q k) r

plain_deaf : (w : World) (q : Party) (k : Stack) (r : Seen × Part) (p i : ℕ) → w.stack q ≡ k → FramesOk w → Plain w q k r → is_deaf (result w q k r) p i ≡ true → is_deaf w p i ≡ true
plain_deaf w q k r p i e fr s = deaf_back w q k r p i e fr
    (λ z a. elim (s.0) [
      | inl t ↦ absurd (let n : is_late ((after_move (next_at w q k (r.0)) k.below).top) ≡ false = top_then (λ y. is_late y ≡ false) w q k (r.0) e fr frame_awake t in cc)
      | inr l ↦ (let o : is_late (w.stack (Worker p i)).top ≡ true = ap is_late (own_top w q k p i e z) ∙ l in rw o refl)
    ])
    (λ z b. or_right (is_late (w.stack (Worker p i)).top) ((w.seat p i).blocked) (ap (λ n. n.blocked) (sym (touched w q k p i z)) ∙ s.1 b))

-- an act that deals no pieces, and after which who owed still does
plain_called : (w : World) (q : Party) (k : Stack) (r : Seen × Part) → w.stack q ≡ k → FramesOk w → CastsOk w → Plain w q k r
    → ((p i : ℕ) → i < (w.shape.pool p).workers → owes_cast k.top (w.shape.pool p).workers p i ≡ true → is_deaf (result w q k r) p i ≡ true → owes_cast ((after_move (next_at w q k (r.0)) k.below).top) (w.shape.pool p).workers p i ≡ true) → (p i : ℕ)
    → is_filled (((result w q k r).pool p).casts i) ≡ true → is_deaf (result w q k r) p i ≡ true → HasCaster (result w q k r) p i
plain_called w q k r e fr ok s on p i filled deaf =
    let was : is_filled ((w.pool p).casts i) ≡ true = filled_back w q k r (s.2) p i filled in
    still_called w q k r p i e (ok.called p i was (plain_deaf w q k r p i e fr s deaf)) (λ o. on p i (within was) o deaf)
  where
    within : is_filled ((w.pool p).casts i) ≡ true → i < (w.shape.pool p).workers
    within f = elim (either (nat_lt i (w.shape.pool p).workers)) [ inl y ↦ ltb-true i (w.shape.pool p).workers y | inr y ↦ absurd (let l : (w.shape.pool p).workers ≤ i = ltb-false i (w.shape.pool p).workers y in let n : is_filled ((w.pool p).casts i) ≡ false = ok.beyond p i l in cc) ]

abbrev special : Place → Bool
special (LookAtCast k) = true
special (BlockSelf k) = true
special (PushForAll b) = true
special (DealPieces d) = true
special _ = false

plain_go : (w : World) (q : Party) (x : Place) (fs : List Place) → special x ≡ false → IfSome (outcome w q (record { top = x; below = fs })) (Plain w q (record { top = x; below = fs }))
plain_go w q (LookAtCast j) fs z = cc
plain_go w q (BlockSelf j) fs z = cc
plain_go w q (PushForAll j) fs z = cc
plain_go w q (DealPieces j) fs z = cc
plain_go w q (LookAtInjector j) fs z =
    let k : Stack = record { top = LookAtInjector j; below = fs } in
    if_some_map {A = Seen × Part} (λ r. (r.1.seat.blocked ≡ true → (part_at w q k).seat.blocked ≡ true) × CastsLess (part_at w q k) r) (Plain w q k) (λ r s. (inr refl, s.0, s.1)) (outcome w q k)
    (if_some_and (λ r. r.1.seat.blocked ≡ true → (part_at w q k).seat.blocked ≡ true) (CastsLess (part_at w q k)) (outcome w q k) (blocked_less w.shape q (counts_seen w q k) (part_at w q k) (LookAtInjector j) refl) (casts_less w.shape q (counts_seen w q k) (part_at w q k) (LookAtInjector j) refl))
plain_go w q x fs z =
    let k : Stack = record { top = x; below = fs } in
    if_some_map {A = Seen × Part} (λ r. Tops (λ y. is_late y ≡ false) (next_at w q k (r.0)) × ((r.1.seat.blocked ≡ true → (part_at w q k).seat.blocked ≡ true) × CastsLess (part_at w q k) r)) (Plain w q k) (λ r s. (inl (s.0), (s.1).0, (s.1).1)) (outcome w q k)
    (if_some_and (λ r. Tops (λ y. is_late y ≡ false) (next_at w q k (r.0))) (λ r. (r.1.seat.blocked ≡ true → (part_at w q k).seat.blocked ≡ true) × CastsLess (part_at w q k) r) (outcome w q k) (never_late w.shape (shape_at w q k) q (counts_seen w q k) (part_at w q k) x refl)
    (if_some_and (λ r. r.1.seat.blocked ≡ true → (part_at w q k).seat.blocked ≡ true) (CastsLess (part_at w q k)) (outcome w q k) (blocked_less w.shape q (counts_seen w q k) (part_at w q k) x refl) (casts_less w.shape q (counts_seen w q k) (part_at w q k) x refl)))

abbrev CalledIn : World → Type 0
CalledIn w = (p i : ℕ) → is_filled ((w.pool p).casts i) ≡ true → is_deaf w p i ≡ true → HasCaster w p i

-- the last look at the own list: if the worker goes on to the injector, its list is empty
look_called : (w : World) (a b : ℕ) (k : Wait) (fs : List Place) → w.stack (Worker a b) ≡ record { top = LookAtCast k; below = fs } → FramesOk w → CastsOk w → IfSome (outcome w (Worker a b) (record { top = LookAtCast k; below = fs }))
    (λ r. CalledIn (result w (Worker a b) (record { top = LookAtCast k; below = fs }) r))
look_called w a b k fs e fr ok p i filled deaf =
    let s : Stack = record { top = LookAtCast k; below = fs } in
    let q : Party = Worker a b in
    let r : Seen × Part = (empty_seen ((w.pool a).casts b), part_at w q s) in
    let was : is_filled ((w.pool p).casts i) ≡ true = filled_back w q s r (λ j h. h) p i filled in
    still_called w q s r p i e (ok.called p i was (deaf_back w q s r p i e fr (λ z late. absurd (mine z was late)) (λ z bl. or_right (is_late (w.stack (Worker p i)).top) ((w.seat p i).blocked) (ap (λ n. n.blocked) (sym (touched w q s p i z)) ∙ bl)) deaf)) (λ o. absurd (cc))
  where
    empty : (l : List ℕ) → is_filled l ≡ true → is_late ((after_move (next_of (w.shape.pool a) (Worker a b) (LookAtCast k) (empty_seen l)) fs).top) ≡ true → ⊥
    empty [] f l = cc
    empty (t ∷ ts) f l = cc

    mine : same_party (Worker p i) (Worker a b) ≡ true → is_filled ((w.pool p).casts i) ≡ true → is_late ((after_move (next_of (w.shape.pool a) (Worker a b) (LookAtCast k) (empty_seen ((w.pool a).casts b))) fs).top) ≡ true → ⊥
    mine z f l = let n : (p ≡ a) × (i ≡ b) = same_index p i a b z in empty ((w.pool a).casts b) (subst (λ j. is_filled ((w.pool a).casts j) ≡ true) (n.1) (subst (λ j. is_filled ((w.pool j).casts i) ≡ true) (n.0) f)) l

block_called : (w : World) (a b : ℕ) (k : Wait) (fs : List Place) → w.stack (Worker a b) ≡ record { top = BlockSelf k; below = fs } → FramesOk w → CastsOk w → IfSome (outcome w (Worker a b) (record { top = BlockSelf k; below = fs }))
    (λ r. CalledIn (result w (Worker a b) (record { top = BlockSelf k; below = fs }) r))
block_called w a b k fs e fr ok p i filled deaf =
    let s : Stack = record { top = BlockSelf k; below = fs } in
    let q : Party = Worker a b in
    let m : Part = part_at w q s in
    let r : Seen × Part = (Done, record m { seat = record (m.seat) { blocked = true; lock = None } }) in
    let was : is_filled ((w.pool p).casts i) ≡ true = filled_back w q s r (λ j h. h) p i filled in
    let here : same_party (Worker p i) q ≡ true → is_deaf w p i ≡ true = λ z. (let o : is_late (w.stack (Worker p i)).top ≡ true = ap is_late (own_top w q s p i e z) in rw o refl) in
    still_called w q s r p i e (ok.called p i was (deaf_back w q s r p i e fr (λ z late. here z) (λ z bl. here z) deaf)) (λ o. absurd (cc))

-- pieces are dealt: the party is to call every worker of the pool
deal_called : (w : World) (q : Party) (b : Pieces) (fs : List Place) → w.stack q ≡ record { top = PushForAll b; below = fs } → FramesOk w → CastsOk w → IfSome (outcome w q (record { top = PushForAll b; below = fs })) (λ r. CalledIn (result w q (record { top = PushForAll b; below = fs }) r))
deal_called w q b fs e fr ok = at q refl
  where
    k : Stack
    k = record { top = PushForAll b; below = fs }

    r : Party → Seen × Part
    r g = (
      Done,
      record (part_at w g k) {
        pool = record ((part_at w g k).pool) { casts = casts_with b (part_at w g k).pool.casts };
        call = record ((part_at w g k).call) { writer = left_book g (count_book b.count) (part_at w g k).call.writer; undealt = undealt_after b.count (part_at w g k).call.undealt };
      },
    )

    there : (g : Party) → target_pool g (act_of g (PushForAll b)) ≡ b.pool
    there (Worker x y) = refl
    there (Caller c) = refl

    all : (g : Party) (p i : ℕ) → p ≡ b.pool → owes_cast (call_all (shape_at w g k) b) (w.shape.pool p).workers p i ≡ true
    all g p i n =
        let same : (b.pool == p) ≡ true = eq-eqb b.pool p (sym n) in
        let shape : (w.shape.pool p).workers ≡ (shape_at w g k).workers = ap (λ j. (w.shape.pool j).workers) (n ∙ sym (there g)) in
        let enough : nat_le (w.shape.pool p).workers ((shape_at w g k).workers + 0) ≡ true = le-leb (w.shape.pool p).workers ((shape_at w g k).workers + 0) (omega (arith, shape)) in
        let first : nat_le 0 i ≡ true = le-leb 0 i (omega arith) in
        rw (same, enough, first) refl

    called : (g : Party) → w.stack g ≡ k → (p i : ℕ) → is_filled (((result w g k (r g)).pool p).casts i) ≡ true → is_deaf (result w g k (r g)) p i ≡ true → HasCaster (result w g k (r g)) p i
    called g eg p i filled deaf = by (p == b.pool) refl
      where
        by : (z : Bool) → (p == b.pool) ≡ z → HasCaster (result w g k (r g)) p i
        by true z = record { party = g; casts = ap (λ (s : Stack). owes_cast (s.top) (w.shape.pool p).workers p i) mine ∙ all g p i (eqb-true p b.pool z) }
          where
            mine : (result w g k (r g)).stack g ≡ after_move (next_at w g k Done) fs
            mine = stack_mine w.stack g (after_move (next_at w g k Done) fs)
        by false z =
            let other : (p == target_pool g (act_of g (PushForAll b))) ≡ false = ap (λ n. p == n) (there g) ∙ z in
            let was : is_filled ((w.pool p).casts i) ≡ true = ap (λ (v : Pool). is_filled (v.casts i)) (sym (put_old w.pool (target_pool g (act_of g (PushForAll b))) ((r g).1.pool) p other)) ∙ filled in
            still_called w g k (r g) p i eg (ok.called p i was (deaf_back w g k (r g) p i eg fr (λ y late. absurd (cc)) (λ y bl. or_right (is_late (w.stack (Worker p i)).top) ((w.seat p i).blocked) (ap (λ n. n.blocked) (sym (touched w g k p i y)) ∙ bl)) deaf)) (λ o. absurd (cc))

    at : (g : Party) → q ≡ g → IfSome (outcome w q k) (λ r. CalledIn (result w q k r))
    at (Worker x y) is = subst (λ g. IfSome (outcome w g k) (λ r. CalledIn (result w g k r))) (sym is) (called (Worker x y) (ap w.stack (sym is) ∙ e))
    at (Caller c) is = subst (λ g. IfSome (outcome w g k) (λ r. CalledIn (result w g k r))) (sym is) (called (Caller c) (ap w.stack (sym is) ∙ e))

-- so it is where the party waits then
gather_called : (w : World) (q : Party) (d : Gathering) (fs : List Place) → w.stack q ≡ record { top = DealPieces d; below = fs } → FramesOk w → CastsOk w → IfSome (outcome w q (record { top = DealPieces d; below = fs })) (λ r. CalledIn (result w q (record { top = DealPieces d; below = fs }) r))
gather_called w q d fs e fr ok = at q refl
  where
    k : Stack
    k = record { top = DealPieces d; below = fs }

    r : Party → Seen × Part
    r g = (
      Done,
      record (part_at w g k) {
        pool = record ((part_at w g k).pool) { casts = casts_with d.pieces (part_at w g k).pool.casts };
        call = record ((part_at w g k).call) { writer = left_book g (count_book d.pieces.count) (part_at w g k).call.writer; undealt = undealt_after d.pieces.count (part_at w g k).call.undealt };
      },
    )

    there : (g : Party) → target_pool g (act_of g (DealPieces d)) ≡ d.pieces.pool
    there (Worker x y) = refl
    there (Caller c) = refl

    all : (g : Party) (p i : ℕ) → p ≡ d.pieces.pool → owes_cast (gather_all (shape_at w g k) d.call) (w.shape.pool p).workers p i ≡ true
    all g p i n =
        let same : (d.call.pool == p) ≡ true = eq-eqb d.call.pool p ((subst (λ (s : Stack). SizedAs w.shape (sizes (s.top))) e (ok.sized q)).1 ∙ sym n) in
        let shape : (w.shape.pool p).workers ≡ (shape_at w g k).workers = ap (λ j. (w.shape.pool j).workers) (n ∙ sym (there g)) in
        let enough : nat_le (w.shape.pool p).workers ((shape_at w g k).workers + 0) ≡ true = le-leb (w.shape.pool p).workers ((shape_at w g k).workers + 0) (omega (arith, shape)) in
        let first : nat_le 0 i ≡ true = le-leb 0 i (omega arith) in
        rw (same, enough, first) refl

    called : (g : Party) → w.stack g ≡ k → (p i : ℕ) → is_filled (((result w g k (r g)).pool p).casts i) ≡ true → is_deaf (result w g k (r g)) p i ≡ true → HasCaster (result w g k (r g)) p i
    called g eg p i filled deaf = by (p == d.pieces.pool) refl
      where
        by : (z : Bool) → (p == d.pieces.pool) ≡ z → HasCaster (result w g k (r g)) p i
        by true z = record { party = g; casts = ap (λ (s : Stack). owes_cast (s.top) (w.shape.pool p).workers p i) mine ∙ all g p i (eqb-true p d.pieces.pool z) }
          where
            mine : (result w g k (r g)).stack g ≡ after_move (next_at w g k Done) fs
            mine = stack_mine w.stack g (after_move (next_at w g k Done) fs)
        by false z =
            let other : (p == target_pool g (act_of g (DealPieces d))) ≡ false = ap (λ n. p == n) (there g) ∙ z in
            let was : is_filled ((w.pool p).casts i) ≡ true = ap (λ (v : Pool). is_filled (v.casts i)) (sym (put_old w.pool (target_pool g (act_of g (DealPieces d))) ((r g).1.pool) p other)) ∙ filled in
            still_called w g k (r g) p i eg (ok.called p i was (deaf_back w g k (r g) p i eg fr (λ y late. absurd (cc)) (λ y bl. or_right (is_late (w.stack (Worker p i)).top) ((w.seat p i).blocked) (ap (λ n. n.blocked) (sym (touched w g k p i y)) ∙ bl)) deaf)) (λ o. absurd (cc))

    at : (g : Party) → q ≡ g → IfSome (outcome w q k) (λ r. CalledIn (result w q k r))
    at (Worker x y) is = subst (λ g. IfSome (outcome w g k) (λ r. CalledIn (result w g k r))) (sym is) (called (Worker x y) (ap w.stack (sym is) ∙ e))
    at (Caller c) is = subst (λ g. IfSome (outcome w g k) (λ r. CalledIn (result w g k r))) (sym is) (called (Caller c) (ap w.stack (sym is) ∙ e))

wake_target : (q : Party) (n : Walk) → (target_pool q (act_of q (WakeWorker n)) ≡ n.pool) × (target_worker q (act_of q (WakeWorker n)) ≡ n.worker)
wake_target (Worker i j) n = (refl, refl)
wake_target (Caller c) n = (refl, refl)

late_owns : (x : Place) → is_late x ≡ true → owns_in (mode x) ≡ true
late_owns (LookAtInjector k) e = refl
late_owns (BlockSelf k) e = refl
late_owns _ e = cc

some_same : (g q : Party) → Some g ≡ Some q → g ≡ q
some_same g q e = cc

-- a worker that has been woken, or was found awake, looks at its list again
woken_hears : (w : World) (q : Party) (n : Walk) (fs : List Place) (r : Seen × Part) → w.stack q ≡ record { top = WakeWorker n; below = fs } → SeatsOk w → FramesOk w → LocksOk w → Woke (part_at w q (record { top = WakeWorker n; below = fs })) r → Tops (λ y. is_late y ≡ false)
    (next_at w q (record { top = WakeWorker n; below = fs }) (r.0)) → is_deaf (result w q (record { top = WakeWorker n; below = fs }) r) n.pool n.worker ≡ false
woken_hears w q n fs r e ok fr locks s t = by (is_deaf u n.pool n.worker) refl
  where
    k : Stack
    k = record { top = WakeWorker n; below = fs }

    u : World
    u = result w q k r

    at : ((n.pool == target_pool q (act_of q (WakeWorker n))) && (n.worker == target_worker q (act_of q (WakeWorker n)))) ≡ true
    at = ap (λ z. (n.pool == z) && (n.worker == target_worker q (act_of q (WakeWorker n)))) ((wake_target q n).0) ∙ ap (λ z. (n.pool == n.pool) && (n.worker == z)) ((wake_target q n).1) ∙ same_refl n.pool n.worker

    awake : (b : Bool) → (part_at w q k).seat.blocked ≡ b → r.1.seat.blocked ≡ false
    awake true z = s.yes z
    awake false z = elim (s.seat) [ inl same ↦ ap (λ (m : Seat). m.blocked) same ∙ z | inr woke ↦ woke.1 ]

    seat : (u.seat n.pool n.worker).blocked ≡ false
    seat = (rw at (awake ((part_at w q k).seat.blocked) refl))

    late : (b : Bool) → same_party (Worker n.pool n.worker) q ≡ b → is_late ((if b then after_move (next_at w q k (r.0)) fs else w.stack (Worker n.pool n.worker)).top) ≡ true → ⊥
    late true z l = (let no : is_late ((after_move (next_at w q k (r.0)) fs).top) ≡ false = top_then (λ y. is_late y ≡ false) w q k (r.0) e fr frame_awake t in cc)
    late false z l =
        let own : (w.seat n.pool n.worker).lock ≡ Some (Worker n.pool n.worker) = ((ok n.pool n.worker).top).lock (late_owns (w.stack (Worker n.pool n.worker)).top l) in
        let its : (w.seat n.pool n.worker).lock ≡ Some q = locks q n.pool n.worker (ap (λ y. holds (y.top) n.pool n.worker) e ∙ same_refl n.pool n.worker) in
        let is : Worker n.pool n.worker ≡ q = some_same (Worker n.pool n.worker) q (sym own ∙ its) in
        (let y : same_party (Worker n.pool n.worker) q ≡ true = ap (same_party (Worker n.pool n.worker)) (sym is) ∙ same_refl n.pool n.worker in cc)

    by : (b : Bool) → is_deaf u n.pool n.worker ≡ b → is_deaf u n.pool n.worker ≡ false
    by false z = z
    by true z = absurd (elim (or_parts (is_late (u.stack (Worker n.pool n.worker)).top) ((u.seat n.pool n.worker).blocked) z) [ inl a ↦ late (same_party (Worker n.pool n.worker) q) refl a | inr b ↦ (let f : (u.seat n.pool n.worker).blocked ≡ false = seat in cc) ])

-- what a party owes that calls all workers, part by part
record OwesCast (k : Walk) (n p i : ℕ) (past : ℕ) : Type 0 where
  calling : is_calling k.then ≡ true
  pool : (k.pool == p) ≡ true
  enough : n ≤ k.owed + past

lock_parts : (k : Walk) (n p i : ℕ) → owes_cast (WakeWorker k) n p i ≡ true → OwesCast k n p i k.worker × (k.worker ≤ i)
lock_parts k n p i o =
    let a : ((is_calling k.then && (k.pool == p)) ≡ true) × ((nat_le n (k.owed + k.worker) && nat_le k.worker i) ≡ true) = and_parts (is_calling k.then && (k.pool == p)) (nat_le n (k.owed + k.worker) && nat_le k.worker i) o in
    let b : (is_calling k.then ≡ true) × ((k.pool == p) ≡ true) = and_parts (is_calling k.then) (k.pool == p) (a.0) in
    let c : (nat_le n (k.owed + k.worker) ≡ true) × (nat_le k.worker i ≡ true) = and_parts (nat_le n (k.owed + k.worker)) (nat_le k.worker i) (a.1) in
    (record { calling = b.0; pool = b.1; enough = leb-true n (k.owed + k.worker) (c.0) }, leb-true k.worker i (c.1))

unlock_parts : (k : Walk) (n p i : ℕ) → owes_cast (UnlockWoken k) n p i ≡ true → OwesCast k n p i (k.worker + 1) × (k.worker < i)
unlock_parts k n p i o =
    let a : ((is_calling k.then && (k.pool == p)) ≡ true) × ((nat_le n (k.owed + k.worker + 1) && nat_lt k.worker i) ≡ true) = and_parts (is_calling k.then && (k.pool == p)) (nat_le n (k.owed + k.worker + 1) && nat_lt k.worker i) o in
    let b : (is_calling k.then ≡ true) × ((k.pool == p) ≡ true) = and_parts (is_calling k.then) (k.pool == p) (a.0) in
    let c : (nat_le n (k.owed + k.worker + 1) ≡ true) × (nat_lt k.worker i ≡ true) = and_parts (nat_le n (k.owed + k.worker + 1)) (nat_lt k.worker i) (a.1) in
    let l : n ≤ k.owed + k.worker + 1 = leb-true n (k.owed + k.worker + 1) (c.0) in
    (record { calling = b.0; pool = b.1; enough = omega (arith, l) }, ltb-true k.worker i (c.1))

-- after a wake the walk owes the later workers what it did
wake_owes : (k : Walk) (n p i : ℕ) (g : PoolShape) (q : Party) (fs : List Place) (e : Seen) → OwesCast k n p i k.worker → k.worker < i → owes_cast ((after_move (next_of g q (WakeWorker k) e) fs).top) n p i ≡ true
wake_owes k n p i g q fs Yes o l =
    let a : is_calling k.then ≡ true = o.calling in
    let b : (k.pool == p) ≡ true = o.pool in
    let m : n ≤ k.owed + k.worker = o.enough in
    let c : nat_le n (k.owed - 1 + k.worker + 1) ≡ true = le-leb n (k.owed - 1 + k.worker + 1) (omega (arith, m)) in
    let d : nat_lt k.worker i ≡ true = lt-ltb k.worker i l in
    rw (a, b, c, d) refl
wake_owes k n p i g q fs _ o l =
    let a : is_calling k.then ≡ true = o.calling in
    let b : (k.pool == p) ≡ true = o.pool in
    let m : n ≤ k.owed + k.worker = o.enough in
    let c : nat_le n (k.owed + k.worker + 1) ≡ true = le-leb n (k.owed + k.worker + 1) (omega (arith, m)) in
    let d : nat_lt k.worker i ≡ true = lt-ltb k.worker i l in
    rw (a, b, c, d) refl

wake_called : (w : World) (q : Party) (n : Walk) (fs : List Place) → w.stack q ≡ record { top = WakeWorker n; below = fs } → SeatsOk w → FramesOk w → LocksOk w → CastsOk w → IfSome (outcome w q (record { top = WakeWorker n; below = fs }))
    (λ r. CalledIn (result w q (record { top = WakeWorker n; below = fs }) r))
wake_called w q n fs e ok fr locks h =
    if_some_map {A = Seen × Part} (λ r. Plain w q k r × (Woke (part_at w q k) r × Tops (λ y. is_late y ≡ false) (next_at w q k (r.0)))) (λ r. CalledIn (result w q k r))
    (λ r s. plain_called w q k r e fr h (s.0) (λ p i l o deaf. (let b : OwesCast n (w.shape.pool p).workers p i n.worker × (n.worker ≤ i) = lock_parts n (w.shape.pool p).workers p i o in
    wake_owes n (w.shape.pool p).workers p i (shape_at w q k) q fs (r.0) (b.0) (let f : n.worker ≤ i = b.1 in let a : n.worker ≢ i = λ same. apart r ((s.1).0) ((s.1).1) p i ((b.0).pool) same deaf in omega (arith, f, a)))))
    (outcome w q k)
    (if_some_and (Plain w q k) (λ r. Woke (part_at w q k) r × Tops (λ y. is_late y ≡ false) (next_at w q k (r.0))) (outcome w q k) (plain_go w q (WakeWorker n) fs refl)
    (if_some_and (Woke (part_at w q k)) (λ r. Tops (λ y. is_late y ≡ false) (next_at w q k (r.0))) (outcome w q k) (wake_seen w.shape q (counts_seen w q k) (part_at w q k) (WakeWorker n) refl) (never_late w.shape (shape_at w q k) q (counts_seen w q k) (part_at w q k) (WakeWorker n) refl)))
  where
    k : Stack
    k = record { top = WakeWorker n; below = fs }

    apart : (r : Seen × Part) → Woke (part_at w q k) r → Tops (λ y. is_late y ≡ false) (next_at w q k (r.0)) → (p i : ℕ) → (n.pool == p) ≡ true → n.worker ≡ i → is_deaf (result w q k r) p i ≡ true → ⊥
    apart r s t p i z same deaf =
        let hears : is_deaf (result w q k r) n.pool n.worker ≡ false = woken_hears w q n fs r e ok fr locks s t in
        let d : is_deaf (result w q k r) n.pool n.worker ≡ true = subst (λ j. is_deaf (result w q k r) n.pool j ≡ true) (sym same) (subst (λ j. is_deaf (result w q k r) j i ≡ true) (sym (eqb-true n.pool p z)) deaf) in cc

unlock_target : (q : Party) (n : Walk) → target_pool q (act_of q (UnlockWoken n)) ≡ n.pool
unlock_target (Worker i j) n = refl
unlock_target (Caller c) n = refl

unlock_called : (w : World) (q : Party) (n : Walk) (fs : List Place) (p i : ℕ) → i < (w.shape.pool p).workers → owes_cast (UnlockWoken n) (w.shape.pool p).workers p i ≡ true
    → owes_cast ((after_move (walk (w.shape.pool (target_pool q (act_of q (UnlockWoken n)))) q n.pool n.owed (n.worker + 1) n.then) fs).top) (w.shape.pool p).workers p i ≡ true
unlock_called w q n fs p i l o =
    let b : OwesCast n (w.shape.pool p).workers p i (n.worker + 1) × (n.worker < i) = unlock_parts n (w.shape.pool p).workers p i o in
    let m : (w.shape.pool p).workers ≤ n.owed + (n.worker + 1) = (b.0).enough in
    let later : n.worker < i = b.1 in
    let h : PoolShape = w.shape.pool (target_pool q (act_of q (UnlockWoken n))) in
    let same : h.workers ≡ (w.shape.pool p).workers = ap (λ j. (w.shape.pool j).workers) (unlock_target q n ∙ eqb-true n.pool p ((b.0).pool)) in
    let some : nat_lt 0 n.owed ≡ true = lt-ltb 0 n.owed (omega (arith, m, later, l)) in
    let on : nat_lt (n.worker + 1) h.workers ≡ true = lt-ltb (n.worker + 1) h.workers (omega (arith, later, l, same)) in
    let a : is_calling n.then ≡ true = (b.0).calling in
    let c : (n.pool == p) ≡ true = (b.0).pool in
    let d : nat_le (w.shape.pool p).workers (n.owed + (n.worker + 1)) ≡ true = le-leb (w.shape.pool p).workers (n.owed + (n.worker + 1)) m in
    let f : nat_le (n.worker + 1) i ≡ true = le-leb (n.worker + 1) i (omega (arith, later)) in
    rw (some, on, a, c, d, f) refl

plainly : (w : World) (q : Party) (x : Place) (fs : List Place) → w.stack q ≡ record { top = x; below = fs } → FramesOk w → CastsOk w → special x ≡ false
    → ((e : Seen) (p i : ℕ) → i < (w.shape.pool p).workers → owes_cast x (w.shape.pool p).workers p i ≡ true → owes_cast ((after_move (next_at w q (record { top = x; below = fs }) e) fs).top) (w.shape.pool p).workers p i ≡ true) → IfSome (outcome w q (record { top = x; below = fs }))
    (λ r. CalledIn (result w q (record { top = x; below = fs }) r))
plainly w q x fs e fr h z on = let k : Stack = record { top = x; below = fs } in
    if_some_map {A = Seen × Part} (Plain w q k) (λ r. CalledIn (result w q k r)) (λ r s. plain_called w q k r e fr h s (λ p i l o d. on (r.0) p i l o)) (outcome w q k) (plain_go w q x fs z)

go_called : (w : World) (q : Party) (x : Place) (fs : List Place) → w.stack q ≡ record { top = x; below = fs } → SeatsOk w → FramesOk w → LocksOk w → CastsOk w → IfSome (outcome w q (record { top = x; below = fs })) (λ r. CalledIn (result w q (record { top = x; below = fs }) r))
go_called w (Worker a b) (LookAtCast k) fs e ok fr locks h = look_called w a b k fs e fr h
go_called w (Caller c) (LookAtCast k) fs e ok fr locks h = tt
go_called w (Worker a b) (BlockSelf k) fs e ok fr locks h = block_called w a b k fs e fr h
go_called w (Caller c) (BlockSelf k) fs e ok fr locks h = tt
go_called w q (PushForAll b) fs e ok fr locks h = deal_called w q b fs e fr h
go_called w q (DealPieces d) fs e ok fr locks h = gather_called w q d fs e fr h
go_called w q (WakeWorker n) fs e ok fr locks h = wake_called w q n fs e ok fr locks h
go_called w q (LockToWake n) fs e ok fr locks h = plainly w q (LockToWake n) fs e fr h refl (λ s p i l o. o)
go_called w q (UnlockWoken n) fs e ok fr locks h = plainly w q (UnlockWoken n) fs e fr h refl (λ s p i l o. unlock_called w q n fs p i l o)
go_called w q x fs e ok fr locks h = plainly w q x fs e fr h refl (λ s p i l o. cc)

-- beyond a pool's workers there are no pieces
beyond_less : (w : World) (q : Party) (k : Stack) (r : Seen × Part) → CastsLess (part_at w q k) r → CastsOk w → (p i : ℕ) → (w.shape.pool p).workers ≤ i → is_filled (((result w q k r).pool p).casts i) ≡ false
beyond_less w q k r less ok p i l = not_filled (is_filled (((result w q k r).pool p).casts i)) (λ f. (let y : is_filled ((w.pool p).casts i) ≡ true = filled_back w q k r less p i f in let n : is_filled ((w.pool p).casts i) ≡ false = ok.beyond p i l in cc))

dealt_beyond : (w : World) (g : Party) (b : Pieces) (fs : List Place) → w.stack g ≡ record { top = PushForAll b; below = fs } → CastsOk w → target_pool g (act_of g (PushForAll b)) ≡ b.pool → (p i : ℕ) → (w.shape.pool p).workers ≤ i
    → is_filled ((put w.pool (target_pool g (act_of g (PushForAll b))) (record (w.pool (target_pool g (act_of g (PushForAll b)))) { casts = casts_with b (w.pool (target_pool g (act_of g (PushForAll b)))).casts }) p).casts i) ≡ false
dealt_beyond w g b fs e ok there p i l = by (p == target_pool g (act_of g (PushForAll b))) refl
  where
    size : b.workers ≡ (w.shape.pool b.pool).workers
    size = (subst (λ (s : Stack). SizedAs w.shape (sizes (s.top))) e (ok.sized g)).0

    by : (z : Bool) → (p == target_pool g (act_of g (PushForAll b))) ≡ z → is_filled ((if z then record (w.pool (target_pool g (act_of g (PushForAll b)))) { casts = casts_with b (w.pool (target_pool g (act_of g (PushForAll b)))).casts } else w.pool p).casts i) ≡ false
    by true z =
        let n : p ≡ target_pool g (act_of g (PushForAll b)) = eqb-true p (target_pool g (act_of g (PushForAll b))) z in
        let workers : (w.shape.pool p).workers ≡ b.workers = ap (λ j. (w.shape.pool j).workers) (n ∙ there) ∙ sym size in
        let off : nat_lt i b.workers ≡ false = elim (either (nat_lt i b.workers)) [ inl y ↦ absurd (let m : i < b.workers = ltb-true i b.workers y in omega (arith, m, workers, l)) | inr y ↦ y ] in
        rw off (ap (λ j. is_filled ((w.pool j).casts i)) (sym n) ∙ ok.beyond p i l)
    by false z = ok.beyond p i l

gathered_beyond : (w : World) (g : Party) (d : Gathering) (fs : List Place) → w.stack g ≡ record { top = DealPieces d; below = fs } → CastsOk w → target_pool g (act_of g (DealPieces d)) ≡ d.pieces.pool → (p i : ℕ) → (w.shape.pool p).workers ≤ i
    → is_filled ((put w.pool (target_pool g (act_of g (DealPieces d))) (record (w.pool (target_pool g (act_of g (DealPieces d)))) { casts = casts_with d.pieces (w.pool (target_pool g (act_of g (DealPieces d)))).casts }) p).casts i) ≡ false
gathered_beyond w g d fs e ok there p i l = by (p == target_pool g (act_of g (DealPieces d))) refl
  where
    size : d.pieces.workers ≡ (w.shape.pool d.pieces.pool).workers
    size = (subst (λ (s : Stack). SizedAs w.shape (sizes (s.top))) e (ok.sized g)).0

    by : (z : Bool) → (p == target_pool g (act_of g (DealPieces d))) ≡ z → is_filled ((if z then record (w.pool (target_pool g (act_of g (DealPieces d)))) { casts = casts_with d.pieces (w.pool (target_pool g (act_of g (DealPieces d)))).casts } else w.pool p).casts i) ≡ false
    by true z =
        let n : p ≡ target_pool g (act_of g (DealPieces d)) = eqb-true p (target_pool g (act_of g (DealPieces d))) z in
        let workers : (w.shape.pool p).workers ≡ d.pieces.workers = ap (λ j. (w.shape.pool j).workers) (n ∙ there) ∙ sym size in
        let off : nat_lt i d.pieces.workers ≡ false = elim (either (nat_lt i d.pieces.workers)) [ inl y ↦ absurd (let m : i < d.pieces.workers = ltb-true i d.pieces.workers y in omega (arith, m, workers, l)) | inr y ↦ y ] in
        rw off (ap (λ j. is_filled ((w.pool j).casts i)) (sym n) ∙ ok.beyond p i l)
    by false z = ok.beyond p i l

beyond_go : (w : World) (q : Party) (x : Place) (fs : List Place) → w.stack q ≡ record { top = x; below = fs } → CastsOk w → IfSome (outcome w q (record { top = x; below = fs }))
    (λ r. (p i : ℕ) → (w.shape.pool p).workers ≤ i → is_filled (((result w q (record { top = x; below = fs }) r).pool p).casts i) ≡ false)
beyond_go w (Worker c d) (PushForAll b) fs e ok = dealt_beyond w (Worker c d) b fs e ok refl
beyond_go w (Caller n) (PushForAll b) fs e ok = dealt_beyond w (Caller n) b fs e ok refl
beyond_go w (Worker a b) (DealPieces d) fs e ok = gathered_beyond w (Worker a b) d fs e ok refl
beyond_go w (Caller n) (DealPieces d) fs e ok = gathered_beyond w (Caller n) d fs e ok refl
beyond_go w q x fs e ok = let k : Stack = record { top = x; below = fs } in
    if_some_map {A = Seen × Part} (CastsLess (part_at w q k)) (λ r. (p i : ℕ) → (w.shape.pool p).workers ≤ i → is_filled (((result w q k r).pool p).casts i) ≡ false) (λ r less. beyond_less w q k r less ok) (outcome w q k) (casts_less w.shape q (counts_seen w q k) (part_at w q k) x refl)

go_casts : (w : World) → Awake w → CastsOk w → (q : Party) → IfSome (outcome w q (w.stack q)) (λ r. CastsOk (result w q (w.stack q) r))
go_casts w a h q =
    let k : Stack = w.stack q in
    let o = outcome w q k in
    if_some_map {A = Seen × Part} (λ r. ((g : Party) → SizedAs w.shape (sizes ((result w q k r).stack g).top)) × (((p i : ℕ) → (w.shape.pool p).workers ≤ i → is_filled (((result w q k r).pool p).casts i) ≡ false) × CalledIn (result w q k r))) (λ r. CastsOk (result w q k r))
    (λ r s. record { sized = s.0; beyond = (s.1).0; called = (s.1).1 }) o
    (if_some_and (λ r. (g : Party) → SizedAs w.shape (sizes ((result w q k r).stack g).top)) (λ r. ((p i : ℕ) → (w.shape.pool p).workers ≤ i → is_filled (((result w q k r).pool p).casts i) ≡ false) × CalledIn (result w q k r)) o (sized_go w q k refl (a.frames) h)
    (if_some_and (λ r. (p i : ℕ) → (w.shape.pool p).workers ≤ i → is_filled (((result w q k r).pool p).casts i) ≡ false) (λ r. CalledIn (result w q k r)) o (beyond_go w q k.top k.below refl h) (go_called w q k.top k.below refl (a.seats) (a.frames) (a.locks) h)))

owes_no_cast : (x : Place) (n p i : ℕ) → is_owing x ≡ false → owes_cast x n p i ≡ false
owes_no_cast (LockToWake k) n p i z = cc
owes_no_cast (WakeWorker k) n p i z = cc
owes_no_cast (UnlockWoken k) n p i z = cc
owes_no_cast _ n p i z = refl

aside_casts : (w u : World) → Aside w u → CastsOk w → CastsOk u
aside_casts w u m h = record {
  sized = λ g. subst (λ s. SizedAs s (sizes (u.stack g).top)) (sym m.shape) (subst (λ (k : Stack). SizedAs w.shape (sizes (k.top))) (sym (m.stack g)) (sized g (same_party g (m.party))));
  beyond = λ p i l. ap is_filled (m.casts p i) ∙ h.beyond p i (subst (λ s. (s.pool p).workers ≤ i) m.shape l);
  called = λ p i f d. called p i (ap is_filled (sym (m.casts p i)) ∙ f) (deaf p i d);
}
  where
    sized : (g : Party) (b : Bool) → SizedAs w.shape (sizes ((if b then m.to else w.stack g).top))
    sized g true = m.sized
    sized g false = h.sized g

    deaf : (p i : ℕ) → is_deaf u p i ≡ true → is_deaf w p i ≡ true
    deaf p i d = elim (or_parts (is_late (u.stack (Worker p i)).top) ((u.seat p i).blocked) d)
        [ inl a ↦ top (same_party (Worker p i) (m.party)) refl (ap (λ (k : Stack). is_late (k.top)) (sym (m.stack (Worker p i))) ∙ a) | inr b ↦ or_right (is_late (w.stack (Worker p i)).top) ((w.seat p i).blocked) (ap (λ (s : Seat). s.blocked) (sym (m.seat p i)) ∙ b) ]
      where
        top : (b : Bool) → same_party (Worker p i) (m.party) ≡ b → is_late ((if b then m.to else w.stack (Worker p i)).top) ≡ true → is_deaf w p i ≡ true
        top true z l = absurd (let n : is_late ((m.to).top) ≡ false = light_awake ((m.to).top) ((calm_parts ((m.to).top) (m.now)).0) in cc)
        top false z l = (rw l refl)

    called : (p i : ℕ) → is_filled ((w.pool p).casts i) ≡ true → is_deaf w p i ≡ true → HasCaster u p i
    called p i f d = let c : HasCaster w p i = h.called p i f d in
        record { party = c.party; casts = ap (λ s. owes_cast (u.stack (c.party)).top (s.pool p).workers p i) m.shape ∙ ap (λ (k : Stack). owes_cast (k.top) (w.shape.pool p).workers p i) (m.stack (c.party)) ∙ owed (c.party) (same_party (c.party) (m.party)) refl (c.casts) }
      where
        owed : (g : Party) (b : Bool) → same_party g (m.party) ≡ b → owes_cast (w.stack g).top (w.shape.pool p).workers p i ≡ true → owes_cast ((if b then m.to else w.stack g).top) (w.shape.pool p).workers p i ≡ true
        owed g true z o = absurd (let is : g ≡ m.party = same_party_true g (m.party) z in let n : owes_cast (w.stack g).top (w.shape.pool p).workers p i ≡ false = owes_no_cast (w.stack g).top (w.shape.pool p).workers p i
            (ap (λ y. is_owing ((w.stack y).top)) is ∙ (calm_parts ((w.stack (m.party)).top) (m.was)).1) in cc)
        owed g false z o = o

-- both together
pub record Hears (w : World) : Type 0 where
  pub awake : Awake w
  pub casts : CastsOk w

step_hears : (w : World) (e : Event) → Hears w → IfSome (step w e) Hears
step_hears w e h = if_some_map (λ u. Awake u × CastsOk u) Hears (λ u a. record { awake = a.0; casts = a.1 }) (step w e) (if_some_and Awake CastsOk (step w e) (step_awake w e (h.awake)) (steps_aside CastsOk w ((h.awake).frames) (go_casts w (h.awake) (h.casts)) (λ u m. aside_casts w u m (h.casts)) e))

first_unsized : (h : Shape) (q : Party) → sizes (first_place h q) ≡ None
first_unsized h (Worker p i) = at (nat_lt i (h.pool p).workers) ((h.pool p).callers_own && (i == 0))
  where
    at : (b d : Bool) → sizes (if b then (if d then Free else ProbeWorking (fresh Termination)) else Stopped) ≡ None
    at true true = refl
    at true false = refl
    at false d = refl
first_unsized h (Caller c) = at (nat_lt c h.callers)
  where
    at : (b : Bool) → sizes (if b then Free else Stopped) ≡ None
    at true = refl
    at false = refl

first_hears : (h : Shape) → Hears (start h)
first_hears h = record { awake = first_awake h; casts = record { sized = λ q. subst (SizedAs h) (sym (first_unsized h q)) tt; beyond = λ p i l. refl; called = λ p i f d. absurd (cc) } }

pub always_hears : (h : Shape) (es : List Event) (w : World) → IsRun (start h) es w → Hears w
always_hears h es w r = run_keeps Hears step_hears (start h) w es (first_hears h) r

blocking_late : (x : Place) → is_blocking x ≡ true → is_late x ≡ true
blocking_late (BlockSelf k) e = refl
blocking_late _ e = cc

pub cast_attended : (w : World) → CastsOk w → IsCastAttended w
cast_attended w h p i f has = h.called p i f
    (elim (or_parts (is_blocking (w.stack (Worker p i)).top) ((w.seat p i).blocked) has) [ inl a ↦ (let l : is_late (w.stack (Worker p i)).top ≡ true = blocking_late (w.stack (Worker p i)).top a in rw l refl) | inr b ↦ or_right (is_late (w.stack (Worker p i)).top) ((w.seat p i).blocked) b ])
