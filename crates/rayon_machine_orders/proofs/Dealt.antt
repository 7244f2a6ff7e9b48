-- what each step does to the own deque of a worker that is alone in its pool
--
-- The worker alone pushes onto its deque, always last.
use Rattle.rayon_machine_places.specs.declared.place.Count.TheVariants.{OfPool, OfScope, OfCast}
use Rattle.rayon_machine_orders.proofs.Words.{Count, rules, arith, refl, sym, ◌∙◌, ap, inl, inr, ℕ, Bool, true, false, ◌&&◌, ◌==◌, if◌then◌else◌, Option, Some, None, List, ◌∷◌, ◌++◌, ◌≡◌, ◌⊎◌, IfSome, eqb-true, Order, NewestFirst, OldestFirst, Feeding, JobKind, Pieces, Party, Worker, Caller}
use Rattle.rayon_machine_orders.proofs.Words.{Target, Termination, Answer, Plan, Detach, Here, Feed, Enter, Then, BeginFound, LeaveWait, Await, RunFirst, Gathers, Place, ProbeWorking, PopWorking, TakeCastWorking, PopIdle, TakeCastIdle, StealFrom, PopInjected, LeaveSearch, JoinPop, JoinTakeCast}
use Rattle.rayon_machine_orders.proofs.Words.{YieldPop, YieldTakeCast, YieldSteal, YieldPopInjected, LocalPop, LocalTakeCast, PickVictim, YieldPick, BeginTask, BeginHere, RaiseCount, LookQueue, PushJob, TellNews, LockToWake, WakeWorker, UnlockWoken, LowerCount, SetLatch, LockToSettle}
use Rattle.rayon_machine_orders.proofs.Words.{WakeSettled, UnlockSettled, AddToFifo, PushToken, TakeFromFifo, SetLockLatch, OpenSlot, RaiseForAll, OpenForAll, PushForAll, LowerForAll, DealPieces, Move, Stay, HandIn, Mark, LookOwn, LookInj, PushOwn, PushInj, Seen, Yes, Done, Task, Opened}
use Rattle.rayon_machine_orders.proofs.Words.{PoolShape, Settling, same_party, is_member, plan_pool, plan_job, finish, walk, settle, after_set, after_found, after_news, act_of, next_of, settle_count, plan_book, count_book, withdraw, begin_feed, after_raise, after_slot, begin_cast, end_cast}
use Rattle.rayon_machine_orders.proofs.Words.{ends_count, taken_number, Shape, Seat, Stack, World, Counts, Part, last_of, but_last, own_of, own_left, target_pool, target_worker, effect, taken_as, put_seat, after_move, Happening, Adds, Queues, Retakes, Begins, Redeems, act_happens, Hands, Plain}
use Rattle.rayon_machine_orders.proofs.Words.{Token, Taken, []}
use Rattle.rayon_machine_laws.proofs.Calm.{part_at, counts_seen}
use Rattle.rayon_machine_laws.proofs.Frame.{either, if_some_all, if_some_map, same_index, same_refl}
use Rattle.rayon_machine_orders.proofs.Lone.{is_thief, settle_move, settled_move, taken, taken_then, walk_move}
use Rattle.rayon_machine_laws.proofs.Seats.{is_frame}
use Rattle.rayon_machine_laws.proofs.Ties.{AllFrames, outcome, result}
use Rattle.rayon_machine_laws.proofs.Tops.{Tops, top_after}
use Rattle.rayon_machine_orders.proofs.Spared.{Spared as LeftAlone, act_spared, begins, looks, moves_own}
use Rattle.rayon_machine_orders.proofs.Words.{EnterAbove as Enter}

-- a worker looks in its own deque
abbrev pub is_pop : Place → Bool
is_pop (PopWorking k) = true
is_pop (PopIdle k) = true
is_pop (JoinPop o) = true
is_pop YieldPop = true
is_pop LocalPop = true
is_pop _ = false

-- a call that runs its job at once
abbrev pub is_here : Plan → Bool
is_here (Here p t) = true
is_here _ = false

-- a party comes by a job that was in no own deque
abbrev pub elsewhere : Place → Bool
elsewhere (TakeCastWorking k) = true
elsewhere (TakeCastIdle k) = true
elsewhere (StealFrom k n) = true
elsewhere (PopInjected k) = true
elsewhere (JoinTakeCast o) = true
elsewhere YieldTakeCast = true
elsewhere (YieldSteal v n) = true
elsewhere YieldPopInjected = true
elsewhere LocalTakeCast = true
elsewhere (RaiseCount n) = is_here n
elsewhere _ = false

-- a party begins a job
abbrev pub is_start : Place → Bool
is_start (BeginTask t) = true
is_start (BeginHere t) = true
is_start _ = false

abbrev pub is_push : Place → Bool
is_push (PushJob n e) = true
is_push (PushToken f e) = true
is_push _ = false

-- a party adds a job to its FIFO list, or takes one back
abbrev pub is_line : Place → Bool
is_line (AddToFifo f) = true
is_line (TakeFromFifo f) = true
is_line _ = false

-- a call whose next place depends on its count
abbrev is_call : Place → Bool
is_call (RaiseCount n) = true
is_call (OpenSlot n) = true
is_call (PushJob n v) = true
is_call (AddToFifo f) = true
is_call (TakeFromFifo f) = true
is_call (RaiseForAll c) = true
is_call (OpenForAll c) = true
is_call (PushForAll c) = true
is_call (LowerForAll c) = true
is_call (DealPieces d) = true
is_call _ = false

-- the deque is as it was: a party that had taken nothing has nothing, or what was elsewhere; one that had something still
-- has it
abbrev pub Keeps : Place → List ℕ → List ℕ → Place → Type 0
Keeps x old new y = (new ≡ old) × (((taken x ≡ None) × ((taken y ≡ None) ⊎ (elsewhere x ≡ true))) ⊎ (taken y ≡ taken x))

-- the next of the deque is taken: a job or a token, by its kind
abbrev pub Pops : Order → (ℕ → JobKind) → Place → List ℕ → List ℕ → Place → Type 0
Pops o k x old new y = (t : ℕ) × Hands o old t new × (taken x ≡ None) × (taken y ≡ Some (taken_as t (k t)))

-- what a step does to a worker's deque and to what it has taken, by what happens
abbrev pub Dealt : Order → (ℕ → JobKind) → Place → List ℕ → List ℕ → Place → Option Happening → Type 0
Dealt o k x old new y None = Keeps x old new y ⊎ Pops o k x old new y
Dealt o k x old new y (Some (Adds by t)) = (new ≡ old ++ t ∷ []) × (taken x ≡ None) × (taken y ≡ None)
Dealt o k x old new y (Some (Queues b by t)) = (new ≡ old) × (taken x ≡ None) × (taken y ≡ None)
Dealt o k x old new y (Some (Retakes b)) = (new ≡ old) × (taken x ≡ None) × (taken y ≡ None)
Dealt o k x old new y (Some (Redeems t b r)) = (new ≡ old) × ((i : ℕ) × (taken x ≡ Some (Token t i b))) × (taken y ≡ None)
Dealt o k x old new y (Some (Begins t)) = (new ≡ old) × (taken x ≡ Some (Plain t)) × (taken y ≡ None)

-- the next job that a list hands out is the one that the worker takes from its deque
last_hands : (l : List ℕ) (t : ℕ) → last_of l ≡ Some t → l ≡ but_last l ++ t ∷ []
last_hands [] t e = absurd (cc)
last_hands (u ∷ []) t e = let k : u ≡ t = cc in ap (λ z. z ∷ []) k
last_hands (u ∷ v ∷ l) t e = ap (λ z. u ∷ z) (last_hands (v ∷ l) t e)

pub own_hands : (o : Order) (l : List ℕ) (t : ℕ) → own_of o l ≡ Some t → Hands o l t (own_left o l)
own_hands NewestFirst l t e = last_hands l t e
own_hands OldestFirst [] t e = absurd (cc)
own_hands OldestFirst (u ∷ l) t e = let k : u ≡ t = cc in ap (λ z. z ∷ l) k

-- what a move leads to at once, above frames
abbrev Lands : (Place → Type 0) → Move → Type 0
Lands R (Stay y) = R y
Lands R (HandIn y token) = R y
Lands R (Mark y b9 m9) = R y
Lands R (Enter f y) = R y
Lands R _ = ⊥

lands_top : (R : Place → Type 0) (g : Move) (fs : List Place) → Lands R g → R ((after_move g fs).top)
lands_top R (Stay y) fs l = l
lands_top R (HandIn y token) fs l = l
lands_top R (Mark y b9 m9) fs l = l
lands_top R (Enter f y) fs l = l
lands_top R _ fs l = absurd l

frame_empty : (f : Place) → is_frame f ≡ true → taken f ≡ None
frame_empty (ProbeWorking k) e = refl
frame_empty _ e = cc

-- a party without a job comes by none, and one with a job keeps it, until it begins it
abbrev pub FreeOf : Move → Type 0
FreeOf g = Tops (λ y. taken y ≡ None) g

abbrev Has : Taken → Move → Type 0
Has t g = Lands (λ y. taken y ≡ Some t) g

pub lands_free : (g : Move) (fs : List Place) → AllFrames fs → FreeOf g → taken ((after_move g fs).top) ≡ None
lands_free g fs a f = top_after (λ y. taken y ≡ None) g fs f frame_empty a

finish_free : (q : Party) (n : Then) → taken_then n ≡ None → FreeOf (finish q n)
finish_free q (BeginFound g t) e = absurd (cc)
finish_free q (LeaveWait Termination) e = refl
finish_free q (LeaveWait (Answer o f)) e = refl
finish_free (Worker a b) (Await o) e = refl
finish_free (Caller c) (Await o) e = refl
finish_free q (RunFirst o a) e = refl
finish_free (Worker a b) (Gathers o) e = refl
finish_free (Caller c) (Gathers o) e = refl
finish_free q _ e = tt

finish_has : (q : Party) (n : Then) (t : Taken) → taken_then n ≡ Some t → Has t (finish q n)
finish_has q (BeginFound g u) t e = e
finish_has q _ t e = absurd (cc)

settle_free : (g : PoolShape) (q : Party) (p i : ℕ) (n : Then) → taken_then n ≡ None → FreeOf (settle g q p i n)
settle_free g q p i n e = settle_move FreeOf g q p i n (λ k d. ap taken_then d ∙ e) (finish_free q n e)

settle_has : (g : PoolShape) (q : Party) (p i : ℕ) (n : Then) (t : Taken) → taken_then n ≡ Some t → Has t (settle g q p i n)
settle_has g q p i n t e = settle_move (Has t) g q p i n (λ k d. ap taken_then d ∙ e) (finish_has q n t e)

settled_free : (g : PoolShape) (q : Party) (s : Settling) → taken_then s.then ≡ None → FreeOf (after_set g q s s.latch)
settled_free g q s e = settled_move FreeOf g q s s.latch (λ k d. ap taken_then d ∙ e) (finish_free q s.then e)

settled_has : (g : PoolShape) (q : Party) (s : Settling) (t : Taken) → taken_then s.then ≡ Some t → Has t (after_set g q s s.latch)
settled_has g q s t e = settled_move (Has t) g q s s.latch (λ k d. ap taken_then d ∙ e) (finish_has q s.then t e)

walk_free : (g : PoolShape) (q : Party) (p n i : ℕ) (t : Then) → taken_then t ≡ None → FreeOf (walk g q p n i t)
walk_free g q p n i t e = walk_move FreeOf g q p n i t (λ k d. ap taken_then d ∙ e) (finish_free q t e)

walk_has : (g : PoolShape) (q : Party) (p n i : ℕ) (m : Then) (t : Taken) → taken_then m ≡ Some t → Has t (walk g q p n i m)
walk_has g q p n i m t e = walk_move (Has t) g q p n i m (λ k d. ap taken_then d ∙ e) (finish_has q m t e)

found_taken : (g : Target) (o : Option Taken) → taken_then (after_found g o) ≡ o
found_taken g None = refl
found_taken g (Some t) = refl

news_taken : (n : Plan) → taken_then (after_news n) ≡ None
news_taken (Detach p t) = refl
news_taken _ = refl

count_free : (g : PoolShape) (q : Party) (k : Count) (n : Then) → taken_then n ≡ None → FreeOf (settle_count g q k n)
count_free g q (OfPool p) n e = settle_free g q p 0 n e
count_free g q (OfScope c (Worker a b)) n e = e
count_free g q (OfScope c (Caller m)) n e = e
count_free g q (OfCast c (Worker a b)) n e = e
count_free g q (OfCast c (Caller m)) n e = e

count_has : (g : PoolShape) (q : Party) (k : Count) (n : Then) (t : Taken) → taken_then n ≡ Some t → Has t (settle_count g q k n)
count_has g q (OfPool p) n t e = settle_has g q p 0 n t e
count_has g q (OfScope c (Worker a b)) n t e = e
count_has g q (OfScope c (Caller m)) n t e = e
count_has g q (OfCast c (Worker a b)) n t e = e
count_has g q (OfCast c (Caller m)) n t e = e

withdraw_free : (b : Option ℕ) (n : Plan) → taken (withdraw b n) ≡ None
withdraw_free None n = refl
withdraw_free (Some c) n = refl

feed_free : (k : Count) (f : Feeding) → taken (begin_feed k f) ≡ None
feed_free (OfPool p) f = refl
feed_free _ f = refl

slot_free : (n : Plan) → taken (after_slot n) ≡ None
slot_free (Detach p t) = refl
slot_free _ = refl

raise_free : (n : Plan) → is_here n ≡ false → FreeOf (after_raise n)
raise_free (Here p t) e = cc
raise_free (Feed f) e = feed_free f.count f
raise_free (Enter e) d = refl
raise_free _ e = refl

cast_free : (k : Count) (c : Pieces) → (taken (begin_cast k c) ≡ None) × (taken (end_cast k c) ≡ None)
cast_free (OfPool p) c = (refl, refl)
cast_free _ c = (refl, refl)

ends_free : (k : Count) → taken (ends_count k) ≡ None
ends_free (OfPool p) = refl
ends_free (OfScope c (Worker a b)) = refl
ends_free (OfScope c (Caller n)) = refl
ends_free (OfCast c (Worker a b)) = refl
ends_free (OfCast c (Caller n)) = refl

-- where the calls lead that depend on a count
called_free : (g : PoolShape) (q : Party) (x : Place) (e : Seen) → elsewhere x ≡ false → is_call x ≡ true → FreeOf (next_of g q x e)
called_free g q (RaiseCount n) Done y z = raise_free n y
called_free g q (RaiseCount n) _ y z = tt
called_free g q (OpenSlot n) Done y z = slot_free n
called_free g q (OpenSlot n) _ y z = refl
called_free g q (PushJob n v) Done y z = refl
called_free g q (PushJob n v) _ y z = withdraw_free (plan_book n) n
called_free g q (AddToFifo f) Done y z = refl
called_free g q (AddToFifo f) _ y z = withdraw_free (count_book f.count) (Feed f)
called_free g q (TakeFromFifo f) (Task x) y z = withdraw_free (count_book f.count) (Feed (record f { job = taken_number x }))
called_free g q (TakeFromFifo f) _ y z = tt
called_free g q (RaiseForAll c) Done y z = (cast_free c.count c).0
called_free g q (RaiseForAll c) _ y z = tt
called_free g q (OpenForAll c) (Opened n) y z = refl
called_free g q (OpenForAll c) _ y z = refl
called_free g q (PushForAll c) Done y z = refl
called_free g q (PushForAll c) _ y z = (cast_free c.count c).1
called_free g q (LowerForAll c) Yes y z = ends_free c.count
called_free g q (LowerForAll c) _ y z = tt
called_free g q (DealPieces d) Done y z = refl
called_free g q (DealPieces d) _ y z = refl
called_free g q _ e y z = absurd (cc)

set_free : (g : PoolShape) (q : Party) (s : Settling) (e : Seen) → taken_then s.then ≡ None → FreeOf (next_of g q (SetLatch s) e)
set_free g q s Yes z = z
set_free g q s _ z = settled_free g q s z

set_has : (g : PoolShape) (q : Party) (s : Settling) (e : Seen) (t : Taken) → taken_then s.then ≡ Some t → Has t (next_of g q (SetLatch s) e)
set_has g q s Yes t z = z
set_has g q s _ t z = settled_has g q s t z

pub stays_free : (h : Shape) (g : PoolShape) (q : Party) (c : Counts) (m : Part) (x : Place) → is_pop x ≡ false → elsewhere x ≡ false → is_start x ≡ false → taken x ≡ None → IfSome (effect (act_of q x) h q c m) (λ r. FreeOf (next_of g q x (r.0)))
stays_free h g (Worker a b) c m (ProbeWorking k) y z s e = search (rules, arith)
stays_free h g (Worker a b) c m (LeaveSearch k) y z s e = walk_free g (Worker a b) a _ 0 (after_found k.target k.found) (found_taken k.target k.found ∙ e)
stays_free h g (Worker a b) c m (TellNews n v) y z s e = walk_free g (Worker a b) (plan_pool n) _ 0 (after_news n) (news_taken n)
stays_free h g (Caller o) c m (TellNews n v) y z s e = walk_free g (Caller o) (plan_pool n) _ 0 (after_news n) (news_taken n)
stays_free h g q c m (UnlockWoken k) y z s e = if_some_all {A = Seen × Part} (λ r. FreeOf (next_of g q (UnlockWoken k) (r.0))) (λ r. walk_free g q k.pool k.owed _ k.then e) (effect (act_of q (UnlockWoken k)) h q c m)
stays_free h g q c m (LowerCount p v n) y z s e = if_some_all {A = Seen × Part} (λ r. FreeOf (next_of g q (LowerCount p v n) (r.0))) (λ r. lowers (r.0)) (effect (act_of q (LowerCount p v n)) h q c m)
  where
    lowers : (d : Seen) → FreeOf (next_of g q (LowerCount p v n) d)
    lowers Yes = count_free g q p n e
    lowers _ = finish_free q n e
stays_free h g q c m (SetLockLatch i n) y z s e = if_some_all {A = Seen × Part} (λ r. FreeOf (next_of g q (SetLockLatch i n) (r.0))) (λ r. finish_free q n e) (effect (act_of q (SetLockLatch i n)) h q c m)
stays_free h g q c m (SetLatch k) y z s e = if_some_all {A = Seen × Part} (λ r. FreeOf (next_of g q (SetLatch k) (r.0))) (λ r. set_free g q k (r.0) e) (effect (act_of q (SetLatch k)) h q c m)
stays_free h g q c m (UnlockSettled k) y z s e = if_some_all {A = Seen × Part} (λ r. FreeOf (next_of g q (UnlockSettled k) (r.0))) (λ r. settled_free g q k e) (effect (act_of q (UnlockSettled k)) h q c m)
stays_free h g q c m (RaiseCount n) y z s e = if_some_all {A = Seen × Part} (λ r. FreeOf (next_of g q (RaiseCount n) (r.0))) (λ r. called_free g q (RaiseCount n) (r.0) z refl) (effect (act_of q (RaiseCount n)) h q c m)
stays_free h g q c m (OpenSlot n) y z s e = if_some_all {A = Seen × Part} (λ r. FreeOf (next_of g q (OpenSlot n) (r.0))) (λ r. called_free g q (OpenSlot n) (r.0) z refl) (effect (act_of q (OpenSlot n)) h q c m)
stays_free h g q c m (PushJob n v) y z s e = if_some_all {A = Seen × Part} (λ r. FreeOf (next_of g q (PushJob n v) (r.0))) (λ r. called_free g q (PushJob n v) (r.0) z refl) (effect (act_of q (PushJob n v)) h q c m)
stays_free h g q c m (AddToFifo f) y z s e = if_some_all {A = Seen × Part} (λ r. FreeOf (next_of g q (AddToFifo f) (r.0))) (λ r. called_free g q (AddToFifo f) (r.0) z refl) (effect (act_of q (AddToFifo f)) h q c m)
stays_free h g q c m (TakeFromFifo f) y z s e = if_some_all {A = Seen × Part} (λ r. FreeOf (next_of g q (TakeFromFifo f) (r.0))) (λ r. called_free g q (TakeFromFifo f) (r.0) z refl) (effect (act_of q (TakeFromFifo f)) h q c m)
stays_free h g q c m (RaiseForAll d) y z s e = if_some_all {A = Seen × Part} (λ r. FreeOf (next_of g q (RaiseForAll d) (r.0))) (λ r. called_free g q (RaiseForAll d) (r.0) z refl) (effect (act_of q (RaiseForAll d)) h q c m)
stays_free h g q c m (OpenForAll d) y z s e = if_some_all {A = Seen × Part} (λ r. FreeOf (next_of g q (OpenForAll d) (r.0))) (λ r. called_free g q (OpenForAll d) (r.0) z refl) (effect (act_of q (OpenForAll d)) h q c m)
stays_free h g q c m (PushForAll d) y z s e = if_some_all {A = Seen × Part} (λ r. FreeOf (next_of g q (PushForAll d) (r.0))) (λ r. called_free g q (PushForAll d) (r.0) z refl) (effect (act_of q (PushForAll d)) h q c m)
stays_free h g q c m (LowerForAll d) y z s e = if_some_all {A = Seen × Part} (λ r. FreeOf (next_of g q (LowerForAll d) (r.0))) (λ r. called_free g q (LowerForAll d) (r.0) z refl) (effect (act_of q (LowerForAll d)) h q c m)
stays_free h g q c m (DealPieces d) y z s e = if_some_all {A = Seen × Part} (λ r. FreeOf (next_of g q (DealPieces d) (r.0))) (λ r. called_free g q (DealPieces d) (r.0) z refl) (effect (act_of q (DealPieces d)) h q c m)
stays_free h g q c m (BeginTask x) y z s e = cc
stays_free h g (Worker a b) c m _ y z s e = search (rules, arith)
stays_free h g (Caller n) c m _ y z s e = search (rules, arith)

keeps_task : (h : Shape) (g : PoolShape) (q : Party) (c : Counts) (m : Part) (x : Place) (t : Taken) → is_start x ≡ false → taken x ≡ Some t → IfSome (effect (act_of q x) h q c m) (λ r. Has t (next_of g q x (r.0)))
keeps_task h g (Worker a b) c m (LeaveSearch k) t s e = walk_has g (Worker a b) a _ 0 (after_found k.target k.found) t (found_taken k.target k.found ∙ e)
keeps_task h g (Caller n) c m (LeaveSearch k) t s e = tt
keeps_task h g q c m (LockToWake k) t s e = if_some_all {A = Seen × Part} (λ r. Has t (next_of g q (LockToWake k) (r.0))) (λ r. e) (effect (act_of q (LockToWake k)) h q c m)
keeps_task h g q c m (WakeWorker k) t s e = if_some_all {A = Seen × Part} (λ r. Has t (next_of g q (WakeWorker k) (r.0))) (λ r. wakes (r.0)) (effect (act_of q (WakeWorker k)) h q c m)
  where
    wakes : (d : Seen) → Has t (next_of g q (WakeWorker k) d)
    wakes Yes = e
    wakes _ = e
keeps_task h g q c m (UnlockWoken k) t s e = if_some_all {A = Seen × Part} (λ r. Has t (next_of g q (UnlockWoken k) (r.0))) (λ r. walk_has g q k.pool k.owed _ k.then t e) (effect (act_of q (UnlockWoken k)) h q c m)
keeps_task h g q c m (LowerCount p v n) t s e = if_some_all {A = Seen × Part} (λ r. Has t (next_of g q (LowerCount p v n) (r.0))) (λ r. lowers (r.0)) (effect (act_of q (LowerCount p v n)) h q c m)
  where
    lowers : (d : Seen) → Has t (next_of g q (LowerCount p v n) d)
    lowers Yes = count_has g q p n t e
    lowers _ = finish_has q n t e
keeps_task h g q c m (SetLockLatch i n) t s e = if_some_all {A = Seen × Part} (λ r. Has t (next_of g q (SetLockLatch i n) (r.0))) (λ r. finish_has q n t e) (effect (act_of q (SetLockLatch i n)) h q c m)
keeps_task h g q c m (SetLatch k) t s e = if_some_all {A = Seen × Part} (λ r. Has t (next_of g q (SetLatch k) (r.0))) (λ r. set_has g q k (r.0) t e) (effect (act_of q (SetLatch k)) h q c m)
keeps_task h g q c m (LockToSettle k) t s e = if_some_all {A = Seen × Part} (λ r. Has t (next_of g q (LockToSettle k) (r.0))) (λ r. e) (effect (act_of q (LockToSettle k)) h q c m)
keeps_task h g q c m (WakeSettled k) t s e = if_some_all {A = Seen × Part} (λ r. Has t (next_of g q (WakeSettled k) (r.0))) (λ r. e) (effect (act_of q (WakeSettled k)) h q c m)
keeps_task h g q c m (UnlockSettled k) t s e = if_some_all {A = Seen × Part} (λ r. Has t (next_of g q (UnlockSettled k) (r.0))) (λ r. settled_has g q k t e) (effect (act_of q (UnlockSettled k)) h q c m)
keeps_task h g q c m (BeginTask u) t s e = cc
keeps_task h g q c m (BeginHere u) t s e = cc
keeps_task h g q c m _ t s e = absurd (cc)

option_or : (o : Option Taken) → (o ≡ None) ⊎ ((t : Taken) × (o ≡ Some t))
option_or None = inl refl
option_or (Some t) = inr (t, refl)

-- the party's own list of taken jobs, over an act that neither pops nor begins
pub hand_on : (h : Shape) (g : PoolShape) (q : Party) (c : Counts) (m : Part) (x : Place) (fs : List Place) → AllFrames fs → is_pop x ≡ false → is_start x ≡ false → IfSome (effect (act_of q x) h q c m)
    (λ r. ((taken x ≡ None) × ((taken ((after_move (next_of g q x (r.0)) fs).top) ≡ None) ⊎ (elsewhere x ≡ true))) ⊎ (taken ((after_move (next_of g q x (r.0)) fs).top) ≡ taken x))
hand_on h g q c m x fs a y s = elim (option_or (taken x)) [
  | inl e ↦ elim (either (elsewhere x)) [
    | inl z ↦ if_some_all {A = Seen × Part} (λ r. ((taken x ≡ None) × ((taken ((after_move (next_of g q x (r.0)) fs).top) ≡ None) ⊎ (elsewhere x ≡ true))) ⊎ (taken ((after_move (next_of g q x (r.0)) fs).top) ≡ taken x)) (λ r. inl (e, inr z)) (effect (act_of q x) h q c m)
    | inr z ↦ if_some_map {A = Seen × Part} (λ r. FreeOf (next_of g q x (r.0))) (λ r. ((taken x ≡ None) × ((taken ((after_move (next_of g q x (r.0)) fs).top) ≡ None) ⊎ (elsewhere x ≡ true))) ⊎ (taken ((after_move (next_of g q x (r.0)) fs).top) ≡ taken x))
        (λ r t. inl (e, inl (top_after (λ y. taken y ≡ None) (next_of g q x (r.0)) fs t frame_empty a))) (effect (act_of q x) h q c m) (stays_free h g q c m x y z s e)
  ]
  | inr (t, e) ↦ if_some_map {A = Seen × Part} (λ r. Has t (next_of g q x (r.0))) (λ r. ((taken x ≡ None) × ((taken ((after_move (next_of g q x (r.0)) fs).top) ≡ None) ⊎ (elsewhere x ≡ true))) ⊎ (taken ((after_move (next_of g q x (r.0)) fs).top) ≡ taken x))
      (λ r l. inr (lands_top (λ y. taken y ≡ Some t) (next_of g q x (r.0)) fs l ∙ sym e)) (effect (act_of q x) h q c m) (keeps_task h g q c m x t s e)
]

-- only a look in the own deque, a steal and a push change a deque
own_act : (q : Party) (x : Place) → is_pop x ≡ false → is_thief x ≡ false → is_push x ≡ false → moves_own (act_of q x) ≡ false
own_act (Worker a b) (ProbeWorking k) y z s = refl
own_act q (BeginTask t) y z s = begins moves_own t (λ n. refl) (λ k i d. refl)
own_act q (LookQueue n) y z s = looks moves_own q (plan_pool n) refl refl
own_act q (PopWorking k) y z s = absurd (let e : true ≡ false = y in cc)
own_act q (PopIdle k) y z s = absurd (let e : true ≡ false = y in cc)
own_act q (JoinPop o) y z s = absurd (let e : true ≡ false = y in cc)
own_act q YieldPop y z s = absurd (let e : true ≡ false = y in cc)
own_act q LocalPop y z s = absurd (let e : true ≡ false = y in cc)
own_act q (StealFrom k n) y z s = absurd (let e : true ≡ false = z in cc)
own_act q (YieldSteal v n) y z s = absurd (let e : true ≡ false = z in cc)
own_act q (PushJob n v) y z s = absurd (let e : true ≡ false = s in cc)
own_act q (PushToken f v) y z s = absurd (let e : true ≡ false = s in cc)
own_act (Worker a b) _ y z s = refl
own_act (Caller c) _ y z s = refl

pub own_same : (h : Shape) (q : Party) (c : Counts) (m : Part) (x : Place) → is_pop x ≡ false → is_thief x ≡ false → is_push x ≡ false → IfSome (effect (act_of q x) h q c m) (λ r. r.1.seat.own ≡ m.seat.own)
own_same h q c m x y z s = if_some_map (LeftAlone (act_of q x) m) (λ r. r.1.seat.own ≡ m.seat.own) (λ r t. t.own (own_act q x y z s)) (effect (act_of q x) h q c m) (act_spared (act_of q x) h q c m)

-- a push elsewhere
push_away : (h : Shape) (q : Party) (c : Counts) (m : Part) (n : Plan) (v : Bool) → is_member q (plan_pool n) ≡ false → IfSome (effect (act_of q (PushJob n v)) h q c m) (λ r. r.1.seat.own ≡ m.seat.own)
push_away h (Worker a b) c m n v e = at (is_member (Worker a b) (plan_pool n)) e
  where
    at : (z : Bool) → z ≡ false → IfSome (effect (if z then PushOwn (plan_job n) (plan_book n) else PushInj (plan_pool n) (plan_job n) (plan_book n)) h (Worker a b) c m) (λ r. r.1.seat.own ≡ m.seat.own)
    at true f = cc
    at false f = refl
push_away h (Caller o) c m n v e = refl

-- what no place but a push, a begin and one of a FIFO list says
pub silent : (q : Party) (x : Place) (fs : List Place) (o : Option ℕ) → is_push x ≡ false → is_start x ≡ false → is_line x ≡ false → act_happens (act_of q x) fs o ≡ None
silent (Worker a b) (LookQueue n) fs o z s l = at (a == plan_pool n)
  where
    at : (y : Bool) → act_happens (if y then LookOwn else LookInj (plan_pool n)) fs o ≡ None
    at true = refl
    at false = refl
silent (Caller c) (LookQueue n) fs o z s l = refl
silent q (PushToken f v) fs o z s l = cc
silent q (AddToFifo f) fs o z s l = cc
silent q (TakeFromFifo f) fs o z s l = cc
silent (Worker a b) _ fs o z s l = search (rules, arith)
silent (Caller c) _ fs o z s l = search (rules, arith)

pub seat_mine : (f : ℕ → ℕ → Seat) (p i : ℕ) (s : Seat) → put_seat f p i s p i ≡ s
seat_mine f p i s = let e : ((p == p) && (i == i)) ≡ true = same_refl p i in rw e

seat_away : (f : ℕ → ℕ → Seat) (a b p i : ℕ) (s : Seat) → ((p == a) && (i == b)) ≡ false → put_seat f a b s p i ≡ f p i
seat_away f a b p i s e = rw e

pub seat_own : (f : ℕ → ℕ → Seat) (a b p i : ℕ) (s : Seat) → s.own ≡ (f a b).own → (put_seat f a b s p i).own ≡ (f p i).own
seat_own f a b p i s e = at ((p == a) && (i == b)) refl
  where
    at : (z : Bool) → ((p == a) && (i == b)) ≡ z → (if z then s else f p i).own ≡ (f p i).own
    at true d = let k : (p ≡ a) × (i ≡ b) = same_index p i a b d in e ∙ ap (λ n. (f n b).own) (sym (k.0)) ∙ ap (λ n. (f p n).own) (sym (k.1))
    at false d = refl

-- the deque of a worker over any act that changes none
pub quiet_own : (w : World) (q : Party) (k : Stack) (p i : ℕ) → is_pop k.top ≡ false → is_thief k.top ≡ false → is_push k.top ≡ false → IfSome (outcome w q k) (λ r. ((result w q k r).seat p i).own ≡ (w.seat p i).own)
quiet_own w q k p i y z s = if_some_map {A = Seen × Part} (λ r. r.1.seat.own ≡ (part_at w q k).seat.own) (λ r. ((result w q k r).seat p i).own ≡ (w.seat p i).own) (λ r e. seat_own w.seat (target_pool q (act_of q k.top)) (target_worker q (act_of q k.top)) p i (r.1.seat) e) (outcome w q k)
    (own_same w.shape q (counts_seen w q k) (part_at w q k) k.top y z s)

-- the deque of a worker over what another party does
abbrev Spared : World → Party → Stack → ℕ → ℕ → Type 0
Spared w q k p i = IfSome (outcome w q k) (λ r. ((result w q k r).seat p i).own ≡ (w.seat p i).own)

away : (w : World) (a b p i : ℕ) (k : Stack) → same_party (Worker p i) (Worker a b) ≡ false → target_pool (Worker a b) (act_of (Worker a b) k.top) ≡ a → target_worker (Worker a b) (act_of (Worker a b) k.top) ≡ b → Spared w (Worker a b) k p i
away w a b p i k d ea eb = if_some_all {A = Seen × Part} (λ r. ((result w (Worker a b) k r).seat p i).own ≡ (w.seat p i).own)
    (λ r. ap (λ s. s.own) (seat_away w.seat (target_pool (Worker a b) (act_of (Worker a b) k.top)) (target_worker (Worker a b) (act_of (Worker a b) k.top)) p i (r.1.seat)
    (ap (λ n. (p == n) && (i == target_worker (Worker a b) (act_of (Worker a b) k.top))) ea ∙ ap (λ n. (p == a) && (i == n)) eb ∙ d))) (outcome w (Worker a b) k)

pop_other : (w : World) (q : Party) (x : Place) (fs : List Place) (p i : ℕ) → is_pop x ≡ true → same_party (Worker p i) q ≡ false → Spared w q (record { top = x; below = fs }) p i
pop_other w (Worker a b) (PopWorking k) fs p i z d = away w a b p i (record { top = PopWorking k; below = fs }) d refl refl
pop_other w (Worker a b) (PopIdle k) fs p i z d = away w a b p i (record { top = PopIdle k; below = fs }) d refl refl
pop_other w (Worker a b) (JoinPop o) fs p i z d = away w a b p i (record { top = JoinPop o; below = fs }) d refl refl
pop_other w (Worker a b) YieldPop fs p i z d = away w a b p i (record { top = YieldPop; below = fs }) d refl refl
pop_other w (Worker a b) LocalPop fs p i z d = away w a b p i (record { top = LocalPop; below = fs }) d refl refl
pop_other w (Caller n) (PopWorking k) fs p i z d = tt
pop_other w (Caller n) (PopIdle k) fs p i z d = tt
pop_other w (Caller n) (JoinPop o) fs p i z d = tt
pop_other w (Caller n) YieldPop fs p i z d = tt
pop_other w (Caller n) LocalPop fs p i z d = tt
pop_other w q _ fs p i z d = cc

steal_away : (w : World) (a b p i : ℕ) (k : Stack) → (p == a) ≡ false → target_pool (Worker a b) (act_of (Worker a b) k.top) ≡ a → Spared w (Worker a b) k p i
steal_away w a b p i k d ea = if_some_all {A = Seen × Part} (λ r. ((result w (Worker a b) k r).seat p i).own ≡ (w.seat p i).own)
    (λ r. ap (λ s. s.own) (seat_away w.seat (target_pool (Worker a b) (act_of (Worker a b) k.top)) (target_worker (Worker a b) (act_of (Worker a b) k.top)) p i (r.1.seat)
    (ap (λ n. (p == n) && (i == target_worker (Worker a b) (act_of (Worker a b) k.top))) ea ∙ ap (λ z. z && (i == target_worker (Worker a b) (act_of (Worker a b) k.top))) d))) (outcome w (Worker a b) k)

-- a thief of another pool
thief_other : (w : World) (q : Party) (x : Place) (fs : List Place) (p i : ℕ) → is_thief x ≡ true → ((b : ℕ) → q ≡ Worker p b → is_thief x ≡ false) → Spared w q (record { top = x; below = fs }) p i
thief_other w (Worker a b) x fs p i z f = elim (either (p == a)) [
  | inl e ↦ absurd (let k : is_thief x ≡ false = f b (ap (λ n. Worker n b) (sym (eqb-true p a e))) in cc)
  | inr e ↦ steal_away w a b p i (record { top = x; below = fs }) e (at x z)
]
  where
    at : (x : Place) → is_thief x ≡ true → target_pool (Worker a b) (act_of (Worker a b) x) ≡ a
    at (PickVictim k) z = refl
    at (StealFrom k n) z = refl
    at YieldPick z = refl
    at (YieldSteal v n) z = refl
    at _ z = cc
thief_other w (Caller n) x fs p i z f = at x z
  where
    at : (x : Place) → is_thief x ≡ true → Spared w (Caller n) (record { top = x; below = fs }) p i
    at (PickVictim k) z = tt
    at (StealFrom k n) z = tt
    at YieldPick z = tt
    at (YieldSteal v n) z = tt
    at _ z = cc

push_other : (w : World) (q : Party) (n : Plan) (v : Bool) (fs : List Place) (p i : ℕ) → same_party (Worker p i) q ≡ false → Spared w q (record { top = PushJob n v; below = fs }) p i
push_other w q n v fs p i d = elim (either (is_member q (plan_pool n))) [
  | inl e ↦ mine q d e
  | inr e ↦ if_some_map {A = Seen × Part} (λ r. r.1.seat.own ≡ (part_at w q (record { top = PushJob n v; below = fs })).seat.own) (λ r. ((result w q (record { top = PushJob n v; below = fs }) r).seat p i).own ≡ (w.seat p i).own)
      (λ r s. seat_own w.seat (target_pool q (act_of q (PushJob n v))) (target_worker q (act_of q (PushJob n v))) p i (r.1.seat) s) (outcome w q (record { top = PushJob n v; below = fs }))
      (push_away w.shape q (counts_seen w q (record { top = PushJob n v; below = fs })) (part_at w q (record { top = PushJob n v; below = fs })) n v e)
]
  where
    mine : (q : Party) → same_party (Worker p i) q ≡ false → is_member q (plan_pool n) ≡ true → Spared w q (record { top = PushJob n v; below = fs }) p i
    mine (Worker a b) d e = away w a b p i (record { top = PushJob n v; below = fs }) d (ap (λ z. target_pool (Worker a b) (if z then PushOwn (plan_job n) (plan_book n) else PushInj (plan_pool n) (plan_job n) (plan_book n))) e)
        (ap (λ z. target_worker (Worker a b) (if z then PushOwn (plan_job n) (plan_book n) else PushInj (plan_pool n) (plan_job n) (plan_book n))) e)
    mine (Caller m) d e = cc

other_push : (w : World) (q : Party) (x : Place) (fs : List Place) (p i : ℕ) → is_push x ≡ true → same_party (Worker p i) q ≡ false → Spared w q (record { top = x; below = fs }) p i
other_push w q (PushJob n v) fs p i z d = push_other w q n v fs p i d
other_push w (Worker a b) (PushToken f v) fs p i z d = away w a b p i (record { top = PushToken f v; below = fs }) d refl refl
other_push w (Caller c) (PushToken f v) fs p i z d = tt
other_push w q _ fs p i z d = cc

pub other_own : (w : World) (q : Party) (x : Place) (fs : List Place) (p i : ℕ) → same_party (Worker p i) q ≡ false → ((b : ℕ) → q ≡ Worker p b → is_thief x ≡ false) → Spared w q (record { top = x; below = fs }) p i
other_own w q x fs p i d f = elim (either (is_pop x)) [
  | inl y ↦ pop_other w q x fs p i y d
  | inr y ↦ elim (either (is_thief x)) [
    | inl z ↦ thief_other w q x fs p i z f
    | inr z ↦ elim (either (is_push x)) [
      | inl s ↦ other_push w q x fs p i s d
      | inr s ↦ quiet_own w q (record { top = x; below = fs }) p i y z s
    ]
  ]
]
