-- from its last look on a waiting worker's own deque stays empty
use Rattle.std.proofs.Common.{rules, arith, refl, sym, ◌∙◌, ap, subst, inl, inr}
use Rattle.std.specs.Prelude.{ℕ, Bool, true, false, ◌&&◌, ◌+◌, ◌==◌, nat_lt, if◌then◌else◌, Option, Some, None, List, [], ◌∷◌, ◌≡◌, ◌⊎◌, IfSome}
use Rattle.std.proofs.lemmas.Bool.{eq-eqb}
use Rattle.rayon_machine_places.specs.declared.shape.Order.{Order}
use Rattle.rayon_machine_places.specs.declared.shape.Order.TheVariants.{NewestFirst, OldestFirst}
use Rattle.rayon_machine_places.specs.declared.place.Party.{Party}
use Rattle.rayon_machine_places.specs.declared.place.Party.TheVariants.{Worker, Caller}
use Rattle.rayon_machine_places.specs.declared.place.JobKind.TheVariants.{Direct}
use Rattle.rayon_machine_places.specs.declared.place.Target.TheVariants.{Termination, Answer}
use Rattle.rayon_machine_places.specs.declared.place.Latch.{Latch}
use Rattle.rayon_machine_places.specs.declared.place.Latch.TheVariants.{Terminate, OfCall}
use Rattle.rayon_machine_places.specs.declared.place.Plan.{Plan}
use Rattle.rayon_machine_places.specs.declared.place.Then.{Then}
use Rattle.rayon_machine_places.specs.declared.place.Then.TheVariants.{BeginFound, LeaveWait, Resume, Await, RunFirst, Answers, Missing, Ran, GiveBack, Called, Gathers}
use Rattle.rayon_machine_places.specs.declared.place.Feeding.{Feeding}
use Rattle.rayon_machine_places.specs.declared.place.Place.{Place}
use Rattle.rayon_machine_places.specs.declared.place.Place.TheVariants.{ProbeWorking, PopWorking, TakeCastWorking, PopIdle, TakeCastIdle, StealFrom, PopInjected, RelockOwn, JoinPop, YieldPop, YieldSteal, LocalPop, Run, PushJob, SetLatch, UnlockSettled, Free, Stopped, PushToken, BecomeInactive, ProbeIdle, PickVictim, AnnounceSelf, GetSleepy, LockOwn, FallAsleep, LoadCounters, AddSleeping, LookAtCast, LookAtInjector, BlockSelf, UndoSleeping, WakeUp, UnlockOwn}
use Rattle.rayon_machine_places.specs.declared.place.Move.{Move}
use Rattle.rayon_machine_places.specs.declared.place.Move.TheVariants.{Stay, Enter, StartRun, Back, HandBack, Discard, HandIn, Mark, HandAllBack}
use Rattle.rayon_machine_places.specs.declared.act.Act.{Act}
use Rattle.rayon_machine_places.specs.declared.act.Act.TheVariants.{PushInj, PushOwn}
use Rattle.rayon_machine_places.specs.declared.act.Seen.{Seen}
use Rattle.rayon_machine_places.specs.declared.act.Seen.TheVariants.{Yes}
use Rattle.rayon_machine_runs.specs.declared.event.Event.{Event}
use Rattle.rayon_machine_places.specs.declared.shape.PoolShape.{PoolShape}
use Rattle.rayon_machine_places.specs.declared.place.Wait.{Wait}
use Rattle.rayon_machine_places.specs.declared.place.Settling.{Settling}
use Rattle.rayon_machine_places.specs.Places.{same_party, own_pool, own_index, is_member, plan_pool, plan_job, fresh, awaits, finish, after_set, act_of, next_of, plan_book}
use Rattle.rayon_machine_runs.specs.World.{Shape, Stack, World, Part, head_of, last_of, but_first, own_of, own_left, popped, effect}
use Rattle.rayon_machine_places.specs.Sleepers.{Counts}
use Rattle.rayon_machine_places.specs.Targets.{target_pool, target_worker}
use Rattle.rayon_machine_runs.specs.Steps.{after_move, step}
use Rattle.rayon_machine_runs.specs.Runs.{first_place, start, IsRun}
use Rattle.rayon_machine_laws.specs.Attended.{IsEmptyHanded}
use Rattle.rayon_machine_laws.proofs.Acts.{Own, writes_at, keeps}
use Rattle.rayon_machine_laws.proofs.Asides.{Aside, steps_aside}
use Rattle.rayon_machine_laws.proofs.Attended.{aside_frames}
use Rattle.rayon_machine_laws.proofs.Calm.{part_at, counts_seen, next_at, top_then}
use Rattle.rayon_machine_laws.proofs.Events.{run_keeps}
use Rattle.rayon_machine_laws.proofs.Frame.{either, same_index, same_refl, same_party_true, if_some_all, if_some_each, if_some_and, if_some_map}
use Rattle.rayon_machine_laws.proofs.Holding.{if_some_h, go_frames}
use Rattle.rayon_machine_laws.proofs.Kept.{is_emptied, frame_not_emptied}
use Rattle.rayon_machine_laws.proofs.Locks.{tops_map}
use Rattle.rayon_machine_laws.proofs.Seats.{mode, lies_in, is_frame}
use Rattle.rayon_machine_laws.proofs.Ties.{SeatsOk, shape_at, outcome, result}
use Rattle.rayon_machine_laws.proofs.Tops.{Tops, FramesOk}

-- each worker at a place after its wait's last look has nothing in its own deque
abbrev pub EmptiedOk : World → Type 0
EmptiedOk w = (p i : ℕ) → is_emptied (w.stack (Worker p i)).top ≡ true → (w.seat p i).own ≡ []

-- an act leaves an empty deque empty
abbrev pub StaysEmpty : Act → Shape → Party → Counts → Part → Type 0
StaysEmpty a h q c m = m.seat.own ≡ [] → IfSome (effect a h q c m) (λ r. r.1.seat.own ≡ [])

steal_empty : (q : Party) (m : Part) (l : List ℕ) → m.seat.own ≡ l → l ≡ [] → IfSome (popped q m (but_first l) (head_of l)) (λ r. r.1.seat.own ≡ [])
steal_empty q m [] e f = e
steal_empty q m (t ∷ ts) e f = refl_of f
  where
    refl_of : (t ∷ ts) ≡ [] → ts ≡ []
    refl_of f = absurd (cc)

pop_empty : (q : Party) (m : Part) (o : Order) (l : List ℕ) → m.seat.own ≡ l → l ≡ [] → IfSome (popped q m (own_left o l) (own_of o l)) (λ r. r.1.seat.own ≡ [])
pop_empty q m NewestFirst [] e f = e
pop_empty q m OldestFirst [] e f = e
pop_empty q m o (t ∷ ts) e f = absurd (cc)

-- places whose acts add to a deque or an injector
abbrev pub is_filling : Place → Bool
is_filling (PushJob n e) = true
is_filling (PushToken f e) = true
is_filling _ = false

still_empty : (h : Shape) (q : Party) (c : Counts) (m : Part) (x : Place) → m.seat.own ≡ [] → writes_at x (Own ∷ []) ≡ false → IfSome (effect (act_of q x) h q c m) (λ r. r.1.seat.own ≡ [])
still_empty h q c m x e n = keeps h q c m (λ v r. r.1.seat.own ≡ []) (Own ∷ []) x n (λ r k. k.0 ∙ e)

-- no act but a push fills a deque
stays_empty : (h : Shape) (q : Party) (c : Counts) (m : Part) (x : Place) → is_filling x ≡ false → StaysEmpty (act_of q x) h q c m
stays_empty h (Worker a b) c m (PopWorking k) z e = pop_empty (Worker a b) m (h.pool a).order m.seat.own refl e
stays_empty h (Worker a b) c m (PopIdle k) z e = pop_empty (Worker a b) m (h.pool a).order m.seat.own refl e
stays_empty h (Worker a b) c m (JoinPop o) z e = pop_empty (Worker a b) m (h.pool a).order m.seat.own refl e
stays_empty h (Worker a b) c m YieldPop z e = pop_empty (Worker a b) m (h.pool a).order m.seat.own refl e
stays_empty h (Worker a b) c m LocalPop z e = pop_empty (Worker a b) m (h.pool a).order m.seat.own refl e
stays_empty h (Worker a b) c m (StealFrom k n) z e = steal_empty (Worker a b) m m.seat.own refl e
stays_empty h (Worker a b) c m (YieldSteal v n) z e = steal_empty (Worker a b) m m.seat.own refl e
stays_empty h (Caller n) c m (PopWorking k) z e = tt
stays_empty h (Caller n) c m (PopIdle k) z e = tt
stays_empty h (Caller n) c m (JoinPop o) z e = tt
stays_empty h (Caller n) c m YieldPop z e = tt
stays_empty h (Caller n) c m LocalPop z e = tt
stays_empty h (Caller n) c m (StealFrom k l) z e = tt
stays_empty h (Caller n) c m (YieldSteal v l) z e = tt
stays_empty h q c m (PushJob n v) z e = cc
stays_empty h q c m (PushToken f v) z e = cc
stays_empty h q c m x z e = still_empty h q c m x e refl

-- the last of a list is missing only where the list is empty
last_none : (l : List ℕ) → last_of l ≡ None → l ≡ []
last_none [] e = refl
last_none (t ∷ []) e = absurd (cc)
last_none (t ∷ u ∷ ts) e = absurd (let k : (u ∷ ts) ≡ [] = last_none (u ∷ ts) e in cc)

pub own_none : (o : Order) (l : List ℕ) → own_of o l ≡ None → l ≡ []
own_none NewestFirst l e = last_none l e
own_none OldestFirst [] e = refl
own_none OldestFirst (t ∷ ts) e = absurd (cc)

-- the last look of a busy wait
busy_empties : (g : PoolShape) (q : Party) (k : Wait) (m : Part) (o : Order) (t : Option ℕ) → own_of o m.seat.own ≡ t → IfSome (popped q m (own_left o m.seat.own) t) (λ r. Tops (λ y. is_emptied y ≡ true → r.1.seat.own ≡ []) (next_of g q (PopWorking k) (r.0)))
busy_empties g q k m o None e = λ z. own_none o m.seat.own e
busy_empties g q k m o (Some t) e = λ z. absurd (cc)

abbrev looks_first : Place → Bool
looks_first (PopWorking k) = true
looks_first _ = false

pub settled_busy : (h : PoolShape) (q : Party) (s : Settling) → Tops (λ y. is_emptied y ≡ false) (after_set h q s s.latch)
settled_busy h q s = by_latch s.latch
  where
    finish_busy : (t : Then) → Tops (λ y. is_emptied y ≡ false) (finish q t)
    finish_busy (BeginFound Termination t) = refl
    finish_busy (BeginFound (Answer o f) t) = refl
    finish_busy (LeaveWait Termination) = refl
    finish_busy (LeaveWait (Answer o f)) = refl
    finish_busy (Await o) = awaiting q
      where
        awaiting : (q : Party) → is_emptied (awaits q o) ≡ false
        awaiting (Worker i j) = refl
        awaiting (Caller c) = refl
    finish_busy (RunFirst o a) = refl
    finish_busy Resume = tt
    finish_busy Called = tt
    finish_busy (Gathers o) = awaiting q
      where
        awaiting : (q : Party) → is_emptied (awaits q o) ≡ false
        awaiting (Worker i j) = refl
        awaiting (Caller c) = refl
    finish_busy (Answers o f e) = tt
    finish_busy (Missing o f) = tt
    finish_busy (Ran t e) = tt
    finish_busy (GiveBack m) = tt

    settle_if : (b : Bool) (y : Place) (g : Move) → is_emptied y ≡ false → Tops (λ y. is_emptied y ≡ false) g → Tops (λ y. is_emptied y ≡ false) (if b then Stay y else g)
    settle_if true y g a t = a
    settle_if false y g a t = t

    by_latch : (l : Latch) → Tops (λ y. is_emptied y ≡ false) (after_set h q s l)
    by_latch Terminate = settle_if (nat_lt (s.worker + 1) h.workers) (SetLatch (record { latch = Terminate; pool = s.pool; worker = s.worker + 1; then = s.then })) (finish q s.then) refl (finish_busy s.then)
    by_latch (OfCall c) = finish_busy s.then

pub set_busy : (h : PoolShape) (q : Party) (s : Settling) (e : Seen) → Tops (λ y. is_emptied y ≡ false) (next_of h q (SetLatch s) e)
set_busy h q s Yes = refl
set_busy h q s _ = settled_busy h q s

every : (R : Place → Type 0) (g : Move) → ((y : Place) → R y) → Tops R g
every R (Stay y) a = a y
every R (HandIn y token) a = a y
every R (Mark y b9 m9) a = a y
every R (Enter x y) a = a y
every R (StartRun x n) a = a (Run n Direct)
every R Back a = tt
every R (HandBack n) a = tt
every R (Discard n) a = tt
every R (HandAllBack b9) a = tt

-- only a busy wait's look leads a worker to where its deque is known to be empty
busy_on : (h : Shape) (g : PoolShape) (i j : ℕ) (c : Counts) (m : Part) (x : Place) → looks_first x ≡ false → is_emptied x ≡ false → IfSome (effect (act_of (Worker i j) x) h (Worker i j) c m) (λ r. Tops (λ y. is_emptied y ≡ false) (next_of g (Worker i j) x (r.0)))
busy_on h g i j c m (PopWorking k) z n = cc
busy_on h g i j c m (TakeCastWorking k) z n = cc
busy_on h g i j c m (BecomeInactive k) z n = cc
busy_on h g i j c m (ProbeIdle k) z n = cc
busy_on h g i j c m (PopIdle k) z n = cc
busy_on h g i j c m (TakeCastIdle k) z n = cc
busy_on h g i j c m (PickVictim k) z n = cc
busy_on h g i j c m (StealFrom k v) z n = cc
busy_on h g i j c m (PopInjected k) z n = cc
busy_on h g i j c m (AnnounceSelf k) z n = cc
busy_on h g i j c m (GetSleepy k) z n = cc
busy_on h g i j c m (LockOwn k) z n = cc
busy_on h g i j c m (FallAsleep k) z n = cc
busy_on h g i j c m (LoadCounters k) z n = cc
busy_on h g i j c m (AddSleeping k) z n = cc
busy_on h g i j c m (LookAtCast k) z n = cc
busy_on h g i j c m (LookAtInjector k) z n = cc
busy_on h g i j c m (BlockSelf k) z n = cc
busy_on h g i j c m (RelockOwn k) z n = cc
busy_on h g i j c m (UndoSleeping k) z n = cc
busy_on h g i j c m (WakeUp k) z n = cc
busy_on h g i j c m (UnlockOwn k) z n = cc
busy_on h g i j c m (ProbeWorking k) z n = search (rules, arith)
busy_on h g i j c m (SetLatch s) z n = if_some_all {A = Seen × Part} (λ r. Tops (λ y. is_emptied y ≡ false) (next_of g (Worker i j) (SetLatch s) (r.0))) (λ r. set_busy g (Worker i j) s (r.0)) (effect (act_of (Worker i j) (SetLatch s)) h (Worker i j) c m)
busy_on h g i j c m (UnlockSettled s) z n = if_some_all {A = Seen × Part} (λ r. Tops (λ y. is_emptied y ≡ false) (next_of g (Worker i j) (UnlockSettled s) (r.0))) (λ r. settled_busy g (Worker i j) s) (effect (act_of (Worker i j) (UnlockSettled s)) h (Worker i j) c m)
busy_on h g i j c m _ z n = search (rules, arith)

emptied_on : (h : Shape) (g : PoolShape) (i j : ℕ) (c : Counts) (m : Part) (x : Place) → looks_first x ≡ false → IfSome (effect (act_of (Worker i j) x) h (Worker i j) c m) (λ r. Tops (λ y. is_emptied y ≡ true → is_emptied x ≡ true) (next_of g (Worker i j) x (r.0)))
emptied_on h g i j c m x z = elim (either (is_emptied x)) [
  | inl e ↦ if_some_all {A = Seen × Part} (λ r. Tops (λ y. is_emptied y ≡ true → is_emptied x ≡ true) (next_of g (Worker i j) x (r.0))) (λ r. every (λ y. is_emptied y ≡ true → is_emptied x ≡ true) (next_of g (Worker i j) x (r.0)) (λ y f. e)) (effect (act_of (Worker i j) x) h (Worker i j) c m)
  | inr e ↦ if_some_map {A = Seen × Part} (λ r. Tops (λ y. is_emptied y ≡ false) (next_of g (Worker i j) x (r.0))) (λ r. Tops (λ y. is_emptied y ≡ true → is_emptied x ≡ true) (next_of g (Worker i j) x (r.0)))
      (λ r t. tops_map (λ y. is_emptied y ≡ false) (λ y. is_emptied y ≡ true → is_emptied x ≡ true) (λ y o f. absurd (cc)) (next_of g (Worker i j) x (r.0)) t) (effect (act_of (Worker i j) x) h (Worker i j) c m) (busy_on h g i j c m x z e)
]

frame_fills : (f : Place) (R : Type 0) → is_frame f ≡ true → is_emptied f ≡ true → R
frame_fills f R e h = absurd (let k : is_emptied f ≡ false = frame_not_emptied f e in cc)

-- a busy wait's look touches its worker's own seat
look_target : (p i : ℕ) (x : Place) → looks_first x ≡ true → (target_pool (Worker p i) (act_of (Worker p i) x) ≡ p) × (target_worker (Worker p i) (act_of (Worker p i) x) ≡ i)
look_target p i (PopWorking k) e = (refl, refl)
look_target p i _ e = cc

-- what is known of the seat that an act touches, and of what follows
abbrev SeatLeft : World → Party → Stack → Seen × Part → Type 0
SeatLeft w q k r = Tops (λ y. is_emptied y ≡ true → (is_emptied k.top ≡ true → (part_at w q k).seat.own ≡ []) → r.1.seat.own ≡ []) (next_at w q k (r.0))

-- an act of a worker on its own seat
own_left_empty : (h : Shape) (g : PoolShape) (p i : ℕ) (c : Counts) (m : Part) (x : Place) → is_filling x ≡ false → (is_emptied x ≡ true → m.seat.own ≡ [])
    → IfSome (effect (act_of (Worker p i) x) h (Worker p i) c m) (λ r. Tops (λ y. is_emptied y ≡ true → r.1.seat.own ≡ []) (next_of g (Worker p i) x (r.0)))
own_left_empty h g p i c m (PopWorking k) z f = busy_empties g (Worker p i) k m (h.pool p).order (own_of (h.pool p).order m.seat.own) refl
own_left_empty h g p i c m x z f = elim (either (is_emptied x)) [
  | inl e ↦ if_some_map {A = Seen × Part} (λ r. r.1.seat.own ≡ []) (λ r. Tops (λ y. is_emptied y ≡ true → r.1.seat.own ≡ []) (next_of g (Worker p i) x (r.0))) (λ r o. every (λ y. is_emptied y ≡ true → r.1.seat.own ≡ []) (next_of g (Worker p i) x (r.0)) (λ y a. o))
      (effect (act_of (Worker p i) x) h (Worker p i) c m) (stays_empty h (Worker p i) c m x z (f e))
  | inr e ↦ if_some_map {A = Seen × Part} (λ r. Tops (λ y. is_emptied y ≡ false) (next_of g (Worker p i) x (r.0))) (λ r. Tops (λ y. is_emptied y ≡ true → r.1.seat.own ≡ []) (next_of g (Worker p i) x (r.0)))
      (λ r t. tops_map (λ y. is_emptied y ≡ false) (λ y. is_emptied y ≡ true → r.1.seat.own ≡ []) (λ y a b. absurd (cc)) (next_of g (Worker p i) x (r.0)) t) (effect (act_of (Worker p i) x) h (Worker p i) c m) (busy_on h g p i c m x refl e)
]

push_busy : (h : Shape) (g : PoolShape) (q : Party) (c : Counts) (m : Part) (n : Plan) (v : Bool) → IfSome (effect (act_of q (PushJob n v)) h q c m) (λ r. Tops (λ y. is_emptied y ≡ false) (next_of g q (PushJob n v) (r.0)))
push_busy h g (Worker a b) c m n v = at (is_member (Worker a b) (plan_pool n))
  where
    at : (z : Bool) → IfSome (effect (if z then PushOwn (plan_job n) (plan_book n) else PushInj (plan_pool n) (plan_job n) (plan_book n)) h (Worker a b) c m) (λ r. Tops (λ y. is_emptied y ≡ false) (next_of g (Worker a b) (PushJob n v) (r.0)))
    at true = refl
    at false = refl
push_busy h g (Caller o) c m n v = refl

token_busy : (h : Shape) (g : PoolShape) (q : Party) (c : Counts) (m : Part) (f : Feeding) (v : Bool) → IfSome (effect (act_of q (PushToken f v)) h q c m) (λ r. Tops (λ y. is_emptied y ≡ false) (next_of g q (PushToken f v) (r.0)))
token_busy h g (Worker a b) c m f v = refl
token_busy h g (Caller o) c m f v = tt

push_other : (h : Shape) (q : Party) (c : Counts) (m : Part) (n : Plan) (v : Bool) → is_member q (plan_pool n) ≡ false → IfSome (effect (act_of q (PushJob n v)) h q c m) (λ r. r.1.seat.own ≡ m.seat.own)
push_other h (Worker a b) c m n v e = at (is_member (Worker a b) (plan_pool n)) e
  where
    at : (z : Bool) → z ≡ false → IfSome (effect (if z then PushOwn (plan_job n) (plan_book n) else PushInj (plan_pool n) (plan_job n) (plan_book n)) h (Worker a b) c m) (λ r. r.1.seat.own ≡ m.seat.own)
    at true f = cc
    at false f = refl
push_other h (Caller o) c m n v e = refl

-- a push onto the own deque touches the own seat
push_target : (q : Party) (n : Plan) (v : Bool) → is_member q (plan_pool n) ≡ true → (target_pool q (act_of q (PushJob n v)) ≡ own_pool q) × (target_worker q (act_of q (PushJob n v)) ≡ own_index q)
push_target (Worker a b) n v e = at (is_member (Worker a b) (plan_pool n)) e
  where
    at : (z : Bool) → z ≡ true → (target_pool (Worker a b) (if z then PushOwn (plan_job n) (plan_book n) else PushInj (plan_pool n) (plan_job n) (plan_book n)) ≡ a) × (target_worker (Worker a b) (if z then PushOwn (plan_job n) (plan_book n) else PushInj (plan_pool n) (plan_job n) (plan_book n)) ≡ b)
    at true f = (refl, refl)
    at false f = cc
push_target (Caller o) n v e = cc

member_worker : (q : Party) (p : ℕ) → is_member q p ≡ true → q ≡ Worker (own_pool q) (own_index q)
member_worker (Worker a b) p e = refl
member_worker (Caller n) p e = cc

-- another party's act leaves an empty deque empty
other_empty : (w : World) (q : Party) (k : Stack) (p i : ℕ) → same_party (Worker p i) q ≡ false → p ≡ target_pool q (act_of q k.top) → i ≡ target_worker q (act_of q k.top) → (part_at w q k).seat.own ≡ [] → IfSome (outcome w q k) (λ r. r.1.seat.own ≡ [])
other_empty w q k p i d ep ei e = by_place k.top refl
  where
    by_place : (x : Place) → k.top ≡ x → IfSome (outcome w q k) (λ r. r.1.seat.own ≡ [])
    by_place (PushToken f v) s = token q refl (λ z. ep ∙ ap (λ z. target_pool q (act_of q z)) s ∙ z) (λ z. ei ∙ ap (λ z. target_worker q (act_of q z)) s ∙ z)
      where
        token : (g : Party) → q ≡ g → (target_pool q (act_of q (PushToken f v)) ≡ own_pool q → p ≡ own_pool q) → (target_worker q (act_of q (PushToken f v)) ≡ own_index q → i ≡ own_index q) → IfSome (outcome w q k) (λ r. r.1.seat.own ≡ [])
        token (Caller n) is a b = subst (λ z. IfSome (effect (act_of q z) w.shape q (counts_seen w q k) (part_at w q k)) (λ r. r.1.seat.own ≡ [])) (sym s) (subst (λ z. IfSome (effect (act_of z (PushToken f v)) w.shape z (counts_seen w q k) (part_at w q k)) (λ r. r.1.seat.own ≡ [])) (sym is) tt)
        token (Worker x y) is a b = absurd (
            let ea : p ≡ x = a (ap (λ z. target_pool z (act_of z (PushToken f v))) is ∙ sym (ap own_pool is)) ∙ ap own_pool is in
            let eb : i ≡ y = b (ap (λ z. target_worker z (act_of z (PushToken f v))) is ∙ sym (ap own_index is)) ∙ ap own_index is in
            let me : q ≡ Worker p i = is ∙ ap (λ z. Worker z y) (sym ea) ∙ ap (λ z. Worker p z) (sym eb) in
            let l : same_party (Worker p i) q ≡ true = ap (same_party (Worker p i)) me ∙ same_refl p i in cc)
    by_place (PushJob n v) s = elim (either (is_member q (plan_pool n))) [
      | inl mem ↦ absurd (
          let t : (target_pool q (act_of q (PushJob n v)) ≡ own_pool q) × (target_worker q (act_of q (PushJob n v)) ≡ own_index q) = push_target q n v mem in
          let me : q ≡ Worker p i = member_worker q (plan_pool n) mem ∙ ap (λ z. Worker z (own_index q)) (sym (ep ∙ ap (λ z. target_pool q (act_of q z)) s ∙ t.0)) ∙ ap (λ z. Worker p z) (sym (ei ∙ ap (λ z. target_worker q (act_of q z)) s ∙ t.1)) in
          let l : same_party (Worker p i) q ≡ true = ap (same_party (Worker p i)) me ∙ same_refl p i in cc)
      | inr not_mem ↦ if_some_map {A = Seen × Part} (λ r. r.1.seat.own ≡ (part_at w q k).seat.own) (λ r. r.1.seat.own ≡ []) (λ r f. f ∙ e) (outcome w q k)
          (subst (λ z. IfSome (effect (act_of q z) w.shape q (counts_seen w q k) (part_at w q k)) (λ r. r.1.seat.own ≡ (part_at w q k).seat.own)) (sym s) (push_other w.shape q (counts_seen w q k) (part_at w q k) n v not_mem))
    ]
    by_place x s = subst (λ z. IfSome (effect (act_of q z) w.shape q (counts_seen w q k) (part_at w q k)) (λ r. r.1.seat.own ≡ [])) (sym s) (stays_empty w.shape q (counts_seen w q k) (part_at w q k) x refl e)

push_or : (x : Place) → (is_filling x ≡ false) ⊎ (is_filling x ≡ true)
push_or x = elim (either (is_filling x)) [ inl a ↦ inr a | inr b ↦ inl b ]

-- where a worker pushes, it does not come to where its deque is known to be empty
pushes_busy : (w : World) (q : Party) (k : Stack) → is_filling k.top ≡ true → IfSome (outcome w q k) (λ r. Tops (λ y. is_emptied y ≡ false) (next_at w q k (r.0)))
pushes_busy w q k e = by_place k.top refl e
  where
    by_place : (x : Place) → k.top ≡ x → is_filling x ≡ true → IfSome (outcome w q k) (λ r. Tops (λ y. is_emptied y ≡ false) (next_at w q k (r.0)))
    by_place (PushJob n v) s z = subst (λ z. IfSome (effect (act_of q z) w.shape q (counts_seen w q k) (part_at w q k)) (λ r. Tops (λ y. is_emptied y ≡ false) (next_of (shape_at w q k) q z (r.0)))) (sym s) (push_busy w.shape (shape_at w q k) q (counts_seen w q k) (part_at w q k) n v)
    by_place (PushToken f v) s z = subst (λ z. IfSome (effect (act_of q z) w.shape q (counts_seen w q k) (part_at w q k)) (λ r. Tops (λ y. is_emptied y ≡ false) (next_of (shape_at w q k) q z (r.0)))) (sym s) (token_busy w.shape (shape_at w q k) q (counts_seen w q k) (part_at w q k) f v)
    by_place _ s z = cc

at_empty : (w : World) (q : Party) (k : Stack) (p i : ℕ) (b d : Bool) → w.stack q ≡ k → FramesOk w → EmptiedOk w → same_party (Worker p i) q ≡ b → ((p == target_pool q (act_of q k.top)) && (i == target_worker q (act_of q k.top))) ≡ d
    → IfSome (outcome w q k) (λ r. is_emptied ((if b then after_move (next_at w q k (r.0)) k.below else w.stack (Worker p i)).top) ≡ true → (if d then r.1.seat else w.seat p i).own ≡ [])
at_empty w q k p i b d e fr ok eb ed = at b d eb ed
  where
    p0 : ℕ
    p0 = target_pool q (act_of q k.top)

    i0 : ℕ
    i0 = target_worker q (act_of q k.top)

    here : ((p == p0) && (i == i0)) ≡ true → w.seat p0 i0 ≡ w.seat p i
    here d = let at : (p ≡ p0) × (i ≡ i0) = same_index p i p0 i0 d in ap (λ n. w.seat n i0) (sym (at.0)) ∙ ap (λ n. w.seat p n) (sym (at.1))

    mine : same_party (Worker p i) q ≡ true → is_emptied k.top ≡ true → (w.seat p i).own ≡ []
    mine z h = ok p i (ap (λ n. is_emptied ((w.stack n).top)) (same_party_true (Worker p i) q z) ∙ ap (λ n. is_emptied (n.top)) e ∙ h)

    push_true : same_party (Worker p i) q ≡ true → (d : Bool) → is_filling k.top ≡ true → IfSome (outcome w q k) (λ r. is_emptied ((after_move (next_at w q k (r.0)) k.below).top) ≡ true → (if d then r.1.seat else w.seat p i).own ≡ [])
    push_true z d push = if_some_map {A = Seen × Part} (λ r. Tops (λ y. is_emptied y ≡ false) (next_at w q k (r.0))) (λ r. is_emptied ((after_move (next_at w q k (r.0)) k.below).top) ≡ true → (if d then r.1.seat else w.seat p i).own ≡ [])
        (λ r t h. absurd (let n : is_emptied ((after_move (next_at w q k (r.0)) k.below).top) ≡ false = top_then (λ y. is_emptied y ≡ false) w q k (r.0) e fr frame_not_emptied t in cc)) (outcome w q k) (pushes_busy w q k push)

    at : (b d : Bool) → same_party (Worker p i) q ≡ b → ((p == p0) && (i == i0)) ≡ d → IfSome (outcome w q k) (λ r. is_emptied ((if b then after_move (next_at w q k (r.0)) k.below else w.stack (Worker p i)).top) ≡ true → (if d then r.1.seat else w.seat p i).own ≡ [])
    at true true eb ed = elim (push_or k.top) [
      | inr push ↦ push_true eb true push
      | inl calm ↦ (
          let is : Worker p i ≡ q = same_party_true (Worker p i) q eb in
          let F : Party → Type 0 = λ z. IfSome (effect (act_of z k.top) w.shape z (counts_seen w q k) (part_at w q k)) (λ r. Tops (λ y. is_emptied y ≡ true → r.1.seat.own ≡ []) (next_of (shape_at w q k) z k.top (r.0))) in
          if_some_map {A = Seen × Part} (λ r. Tops (λ y. is_emptied y ≡ true → r.1.seat.own ≡ []) (next_at w q k (r.0))) (λ r. is_emptied ((after_move (next_at w q k (r.0)) k.below).top) ≡ true → r.1.seat.own ≡ [])
          (λ r t. top_then (λ y. is_emptied y ≡ true → r.1.seat.own ≡ []) w q k (r.0) e fr (λ f ff. frame_fills f (r.1.seat.own ≡ []) ff) t) (outcome w q k)
          (subst F is (own_left_empty w.shape (shape_at w q k) p i (counts_seen w q k) (part_at w q k) k.top calm (λ h. ap (λ s. s.own) (here ed) ∙ mine eb h))))
    ]
    at true false eb ed = elim (push_or k.top) [
      | inr push ↦ push_true eb false push
      | inl calm ↦ elim (either (looks_first k.top)) [
        | inl first ↦ absurd (
            let is : Worker p i ≡ q = same_party_true (Worker p i) q eb in
            let t : (target_pool (Worker p i) (act_of (Worker p i) k.top) ≡ p) × (target_worker (Worker p i) (act_of (Worker p i) k.top) ≡ i) = look_target p i k.top first in
            let tp : p ≡ p0 = sym (t.0) ∙ ap (λ z. target_pool z (act_of z k.top)) is in
            let ti : i ≡ i0 = sym (t.1) ∙ ap (λ z. target_worker z (act_of z k.top)) is in
            let yes : ((p == p0) && (i == i0)) ≡ true = rw (eq-eqb p p0 tp, eq-eqb i i0 ti) in cc)
        | inr later ↦ if_some_map {A = Seen × Part} (λ r. Tops (λ y. is_emptied y ≡ true → is_emptied k.top ≡ true) (next_at w q k (r.0))) (λ r. is_emptied ((after_move (next_at w q k (r.0)) k.below).top) ≡ true → (w.seat p i).own ≡ [])
            (λ r t h. mine eb (top_then (λ y. is_emptied y ≡ true → is_emptied k.top ≡ true) w q k (r.0) e fr (λ f ff. frame_fills f (is_emptied k.top ≡ true) ff) t h)) (outcome w q k)
            (subst (λ z. IfSome (effect (act_of z k.top) w.shape z (counts_seen w q k) (part_at w q k)) (λ r. Tops (λ y. is_emptied y ≡ true → is_emptied k.top ≡ true) (next_of (shape_at w q k) z k.top (r.0)))) (same_party_true (Worker p i) q eb)
            (emptied_on w.shape (shape_at w q k) p i (counts_seen w q k) (part_at w q k) k.top later))
      ]
    ]
    at false true eb ed = if_some_h (is_emptied (w.stack (Worker p i)).top) (λ r. r.1.seat.own ≡ []) (outcome w q k) (λ h. (let z : (p ≡ p0) × (i ≡ i0) = same_index p i p0 i0 ed in other_empty w q k p i eb (z.0) (z.1) (ap (λ s. s.own) (here ed) ∙ ok p i h)))
    at false false eb ed = if_some_all {A = Seen × Part} (λ r. is_emptied (w.stack (Worker p i)).top ≡ true → (w.seat p i).own ≡ []) (λ r. ok p i) (outcome w q k)

pub go_emptied : (w : World) (q : Party) (k : Stack) → w.stack q ≡ k → FramesOk w → EmptiedOk w → IfSome (outcome w q k) (λ r. EmptiedOk (result w q k r))
go_emptied w q k e fr ok =
    if_some_each {I = ℕ} (λ p r. (i : ℕ) → is_emptied ((result w q k r).stack (Worker p i)).top ≡ true → ((result w q k r).seat p i).own ≡ []) (outcome w q k) (λ p.
    if_some_each {I = ℕ} (λ i r. is_emptied ((result w q k r).stack (Worker p i)).top ≡ true → ((result w q k r).seat p i).own ≡ []) (outcome w q k) (λ i.
    at_empty w q k p i (same_party (Worker p i) q) ((p == target_pool q (act_of q k.top)) && (i == target_worker q (act_of q k.top))) e fr ok refl refl))

pub aside_emptied : (w u : World) → Aside w u → FramesOk w → EmptiedOk w → EmptiedOk u
aside_emptied w u m fr ok p i h = ap (λ s. s.own) (m.seat p i) ∙ at (same_party (Worker p i) (m.party)) refl (ap (λ s. is_emptied (s.top)) (sym (m.stack (Worker p i))) ∙ h)
  where
    at : (b : Bool) → same_party (Worker p i) (m.party) ≡ b → is_emptied ((if b then m.to else w.stack (Worker p i)).top) ≡ true → (w.seat p i).own ≡ []
    at true e h = ok p i (ap (λ z. is_emptied ((w.stack z).top)) (same_party_true (Worker p i) (m.party) e) ∙ m.emptied (fr (m.party)) h)
    at false e h = ok p i h

-- what holds of the lists in each world
pub record ListsOk (w : World) : Type 0 where
  pub frames : FramesOk w
  pub emptied : EmptiedOk w

go_lists : (w : World) → ListsOk w → (q : Party) → IfSome (outcome w q (w.stack q)) (λ r. ListsOk (result w q (w.stack q) r))
go_lists w h q =
    let k : Stack = w.stack q in
    if_some_map (λ r. FramesOk (result w q k r) × EmptiedOk (result w q k r)) (λ r. ListsOk (result w q k r)) (λ r a. record { frames = a.0; emptied = a.1 }) (outcome w q k)
    (if_some_and (λ r. FramesOk (result w q k r)) (λ r. EmptiedOk (result w q k r)) (outcome w q k) (go_frames w q k refl h.frames) (go_emptied w q k refl h.frames h.emptied))

step_lists : (w : World) (e : Event) → ListsOk w → IfSome (step w e) ListsOk
step_lists w e h = steps_aside ListsOk w h.frames (go_lists w h) (λ u m. record { frames = aside_frames w u m h.frames; emptied = aside_emptied w u m h.frames h.emptied }) e

first_busy : (h : Shape) (p i : ℕ) → is_emptied (first_place h (Worker p i)) ≡ false
first_busy h p i = at (nat_lt i (h.pool p).workers) ((h.pool p).callers_own && (i == 0))
  where
    at : (b d : Bool) → is_emptied (if b then (if d then Free else ProbeWorking (fresh Termination)) else Stopped) ≡ false
    at true true = refl
    at true false = refl
    at false d = refl

pub always_lists : (h : Shape) (es : List Event) (w : World) → IsRun (start h) es w → ListsOk w
always_lists h es w r = run_keeps ListsOk step_lists (start h) w es (record { frames = λ q. tt; emptied = λ p i z. absurd (let k : is_emptied (first_place h (Worker p i)) ≡ false = first_busy h p i in cc) }) r

lies_emptied : (x : Place) → lies_in (mode x) ≡ true → is_emptied x ≡ true
lies_emptied (RelockOwn k) e = refl
lies_emptied _ e = cc

pub empty_handed : (w : World) → SeatsOk w → ListsOk w → IsEmptyHanded w
empty_handed w ok l p i b = l.emptied p i (lies_emptied (w.stack (Worker p i)).top (((ok p i).top).blocked b))
