-- a steal misses only the one task of a deque; who pushes has looked at the queue that it pushes to, and tells of it;
-- and the numbers of books are opened in order
--
-- The laws are `miss_law`, `tell_law` and `number_law`.
use Rattle.std.proofs.Common.{rules, arith, refl, sym, ◌∙◌, ap, subst}
use Rattle.rayon_machine_orders.proofs.Words.{ℕ, nat_lt, Option, Bool, true, false, ◌+◌, ◌-◌, ◌<◌, if◌then◌else◌, Some, None, List, [], ◌∷◌, ◌≡◌, IfSome, eqb-true, Order, NewestFirst, OldestFirst, Party, Worker, Caller, Count, OfPool, OfScope, OfCast, Pieces, Plan, Feed, Feeding, Gathering}
use Rattle.rayon_machine_orders.proofs.Words.{PoolShape, Marking, Numbered, Dealt, Plain, Token, Place, BeginTask, DealPieces, LookForToken, LookQueue, OpenForAll, OpenSlot, PushForAll, PushJob, PushToken, StealFrom, YieldSteal, AddToFifo, AnnounceSelf, LeaveSearch, LowerCount, LowerForAll}
use Rattle.rayon_machine_orders.proofs.Words.{PopInjected, ProbeIdle, ProbeWorking, RaiseCount, RaiseForAll, SetLatch, TakeFromFifo, TellNews, UnlockSettled, UnlockWoken, Move, Rounds, Failed, Announced, Settling, Share, Taken, Termination, Answer, Then, BeginFound, LeaveWait, Resume, Await}
use Rattle.rayon_machine_orders.proofs.Words.{RunFirst, Gathers, Wait, Act, FifoOut, LookInj, LookOwn, News, PushCast, PushInj, PushOwn, Steal, Seen, Begun, Done, Handed, Task, Wakes, Yes, Go, Job, IsOpen, act_of, after_begin, after_failure, after_found, after_news, after_raise, after_set}
use Rattle.rayon_machine_orders.proofs.Words.{after_slot, begin_cast, begin_feed, count_book, count_call, end_cast, ends_count, finish, is_member, next_of, own_pool, plan_book, plan_count, plan_job, plan_pool, set_call, settle_count, taken_back, taken_number, walk, withdraw, Counts, Outcome}
use Rattle.rayon_machine_orders.proofs.Words.{Part, Shape, Stack, World, effect, is_open, target_call, target_pool, target_worker, after, after_miss, after_move, can_miss, jobs_after, mark_pieces, marked, put, step, MissesOne, is_look, flag_of, queue_of, pool_of, is_empty, TellsSo, DealtFrom}
use Rattle.rayon_machine_places.specs.declared.act.Act.TheVariants.{Slot, SlotAll}
use Rattle.rayon_machine_runs.specs.World.{empty_seen}
use Rattle.rayon_machine_runs.specs.Steps.{has_one}
use Rattle.rayon_machine_places.specs.Shapes.{is_newest_first}
use Rattle.rayon_machine_orders.specs.Looks.{MissLaw, TellLaw}
use Rattle.rayon_machine_orders.specs.Numbers.{OpensSo, NumberLaw}
use Rattle.rayon_machine_laws.proofs.Frame.{and_parts, if_cond, if_some_all, if_some_and, if_some_map, piece_in, piece_new, put_new, stack_mine}
use Rattle.rayon_machine_laws.proofs.Calm.{counts_seen, next_at, part_at, top_then}
use Rattle.rayon_machine_laws.proofs.ClaimMakes.{always_calls}
use Rattle.rayon_machine_laws.proofs.Emptied.{always_lists}
use Rattle.rayon_machine_laws.proofs.Seats.{is_frame}
use Rattle.rayon_machine_laws.proofs.Tops.{FramesOk, Tops}
use Rattle.rayon_machine_orders.proofs.Lone.{settle_move, settled_move, walk_move}
use Rattle.rayon_machine_laws.proofs.Claims.{KnownCount, Says}
use Rattle.rayon_machine_laws.proofs.Placed.{outcome_of}
use Rattle.rayon_machine_laws.proofs.Ties.{job_at, outcome, result, shape_at}
use Rattle.rayon_machine_orders.proofs.CallSteps.{go_all}

-- the world after such an act
abbrev world_by : World → Party → Act → Place → List Place → Seen × Part → World
world_by w q a x fs r = after w q (record { top = x; below = fs }) (target_pool q a) (target_worker q a) (target_call a) (job_at w q a) r

-- a thief that can miss
newest : (o : Order) → is_newest_first o ≡ true → o ≡ NewestFirst
newest NewestFirst e = refl
newest OldestFirst e = cc

misses : (w : World) (q : Party) (s : Stack) (p v : ℕ) (l : List ℕ) → own_pool q ≡ p → act_of q (w.stack q).top ≡ Steal p v → (w.seat p v).own ≡ l → can_miss w p v ≡ true → MissesOne w q
misses w q s p v l a b d e = by l d (and_parts (is_newest_first (w.shape.pool p).order) (has_one (w.seat p v).own) e)
  where
    by : (l : List ℕ) → (w.seat p v).own ≡ l → (is_newest_first (w.shape.pool p).order ≡ true) × (has_one (w.seat p v).own ≡ true) → MissesOne w q
    by [] y z = absurd (let i : has_one [] ≡ true = ap has_one (sym y) ∙ z.1 in cc)
    by (t ∷ u ∷ us) y z = absurd (let i : has_one (t ∷ u ∷ us) ≡ true = ap has_one (sym y) ∙ z.1 in cc)
    by (t ∷ []) y z = record { victim = v; act = subst (λ n. act_of q (w.stack q).top ≡ Steal n v) (sym a) b; order = subst (λ n. (w.shape.pool n).order ≡ NewestFirst) (sym a) (newest ((w.shape.pool p).order) (z.0)); task = t; deque = subst (λ n. (w.seat n v).own ≡ t ∷ []) (sym a) y }

missed : (w : World) (q : Party) (x : Place) → (w.stack q).top ≡ x → IfSome (after_miss w q (w.stack q) x) (λ v. MissesOne w q)
missed w (Worker p i) (StealFrom k n) e = if_cond (λ v. MissesOne w (Worker p i)) (can_miss w p k.victim) _ (misses w (Worker p i) (w.stack (Worker p i)) p k.victim ((w.seat p k.victim).own) refl (ap (act_of (Worker p i)) e) refl)
missed w (Worker p i) (YieldSteal v n) e = if_cond (λ u. MissesOne w (Worker p i)) (can_miss w p v) _ (misses w (Worker p i) (w.stack (Worker p i)) p v ((w.seat p v).own) refl (ap (act_of (Worker p i)) e) refl)
missed w _ _ e = tt

pub miss_law : MissLaw
miss_law shape before q w v run s = let k : IfSome (Some v) (λ u. MissesOne w q) = subst (λ o. IfSome o (λ u. MissesOne w q)) s (missed w q ((w.stack q).top) refl) in k

-- where a party stands after its act, and what it tells
record Tells (w : World) (q : Party) (x y : Place) : Type 0 where
  looks : is_look x ≡ true → (l : List ℕ) × (queue_of w q (act_of q y) ≡ Some l) × (flag_of y ≡ Some (is_empty l))
  tells : (b : Bool) → flag_of x ≡ Some b → act_of q y ≡ News (pool_of q (act_of q x)) b

abbrev Leads : World → Party → Act → Place → List Place → Type 0
Leads w q a x fs = IfSome (outcome_of w q a) (λ r. Tells w q x (after_move (next_of (w.shape.pool (target_pool q a)) q x (r.0)) fs).top)

silent : (w : World) (q : Party) (x y : Place) → is_look x ≡ false → flag_of x ≡ None → Tells w q x y
silent w q x y a b = record { looks = λ z. absurd (let c : true ≡ false = sym z ∙ a in cc); tells = λ e z. absurd (let c : Some e ≡ None = sym z ∙ b in cc) }

looked : (w : World) (q : Party) (n : Plan) (fs : List Place) (g : PoolShape) (l : List ℕ) → ((e : Bool) → queue_of w q (act_of q (PushJob n e)) ≡ Some l) → Tells w q (LookQueue n) (after_move (next_of g q (LookQueue n) (empty_seen l)) fs).top
looked w q n fs g [] e = record { looks = λ z. ([], e true, refl); tells = λ b z. cc }
looked w q n fs g (t ∷ ts) e = record { looks = λ z. (t ∷ ts, e false, refl); tells = λ b z. cc }

token_looked : (w : World) (a b : ℕ) (f : Feeding) (fs : List Place) (g : PoolShape) (l : List ℕ) → (w.seat a b).own ≡ l → Tells w (Worker a b) (LookForToken f) (after_move (next_of g (Worker a b) (LookForToken f) (empty_seen l)) fs).top
token_looked w a b f fs g [] e = record { looks = λ z. ([], ap Some e, refl); tells = λ b z. cc }
token_looked w a b f fs g (t ∷ ts) e = record { looks = λ z. (t ∷ ts, ap Some e, refl); tells = λ b z. cc }

look_tells : (w : World) (a b : ℕ) (n : Plan) (fs : List Place) → Leads w (Worker a b) (act_of (Worker a b) (LookQueue n)) (LookQueue n) fs
look_tells w a b n fs = by (is_member (Worker a b) (plan_pool n)) refl
  where
    goes : Bool → Act
    goes k = if k then PushOwn (plan_job n) (plan_book n) else PushInj (plan_pool n) (plan_job n) (plan_book n)

    by : (k : Bool) → is_member (Worker a b) (plan_pool n) ≡ k → Leads w (Worker a b) (if k then LookOwn else LookInj (plan_pool n)) (LookQueue n) fs
    by true z = looked w (Worker a b) n fs (w.shape.pool a) ((w.seat a b).own) (λ e. ap (λ k. queue_of w (Worker a b) (goes k)) z)
    by false z = looked w (Worker a b) n fs (w.shape.pool (plan_pool n)) ((w.pool (plan_pool n)).injector) (λ e. ap (λ k. queue_of w (Worker a b) (goes k)) z)

push_tells : (w : World) (a b : ℕ) (n : Plan) (v : Bool) (fs : List Place) → Leads w (Worker a b) (act_of (Worker a b) (PushJob n v)) (PushJob n v) fs
push_tells w a b n v fs = by (is_member (Worker a b) (plan_pool n)) refl
  where
    goes : Bool → Act
    goes k = if k then PushOwn (plan_job n) (plan_book n) else PushInj (plan_pool n) (plan_job n) (plan_book n)

    pool : (k : Bool) → is_member (Worker a b) (plan_pool n) ≡ k → pool_of (Worker a b) (goes k) ≡ plan_pool n
    pool true z = eqb-true a (plan_pool n) z
    pool false z = refl

    told : (k : Bool) → is_member (Worker a b) (plan_pool n) ≡ k → (e : Bool) → Some v ≡ Some e → News (plan_pool n) v ≡ News (pool_of (Worker a b) (goes (is_member (Worker a b) (plan_pool n)))) e
    told k z e y = let i : v ≡ e = cc in ap (λ u. News (plan_pool n) u) i ∙ ap (λ u. News u e) (sym (ap (λ u. pool_of (Worker a b) (goes u)) z ∙ pool k z))

    by : (k : Bool) → is_member (Worker a b) (plan_pool n) ≡ k → Leads w (Worker a b) (goes k) (PushJob n v) fs
    by true z = record { looks = λ y. cc; tells = told true z }
    by false z = record { looks = λ y. cc; tells = told false z }

act_tells : (w : World) (q : Party) (x : Place) (fs : List Place) → Says w q x → Leads w q (act_of q x) x fs
act_tells w (Worker a b) (LookQueue n) fs s = look_tells w a b n fs
act_tells w (Caller c) (LookQueue n) fs s = looked w (Caller c) n fs (w.shape.pool (plan_pool n)) ((w.pool (plan_pool n)).injector) (λ e. refl)
act_tells w (Worker a b) (LookForToken f) fs s = token_looked w a b f fs (w.shape.pool a) ((w.seat a b).own) refl
act_tells w (Caller c) (LookForToken f) fs s = tt
act_tells w (Worker a b) (PushJob n v) fs s = push_tells w a b n v fs
act_tells w (Caller c) (PushJob n v) fs s = record { looks = λ y. cc; tells = λ e y. (let i : v ≡ e = cc in ap (λ u. News (plan_pool n) u) i) }
act_tells w (Worker a b) (PushToken f v) fs s = record { looks = λ y. cc; tells = λ e y. (let i : v ≡ e = cc in ap (λ u. News f.pool u) i ∙ ap (λ u. News u e) (s.2)) }
act_tells w (Caller c) (PushToken f v) fs s = tt
act_tells w q x fs s = if_some_all (λ r. Tells w q x (after_move (next_of (w.shape.pool (target_pool q (act_of q x))) q x (r.0)) fs).top) (λ r. silent w q x _ refl refl) (outcome_of w q (act_of q x))

-- nobody else comes to a push
abbrev Unflagged : Move → Type 0
Unflagged g = Tops (λ y. flag_of y ≡ None) g

finish_unflagged : (q : Party) (t : Then) → Unflagged (finish q t)
finish_unflagged q (BeginFound g t) = refl
finish_unflagged q (LeaveWait Termination) = refl
finish_unflagged q (LeaveWait (Answer o f)) = refl
finish_unflagged (Worker a b) (Await o) = refl
finish_unflagged (Caller c) (Await o) = refl
finish_unflagged (Worker a b) (Gathers o) = refl
finish_unflagged (Caller c) (Gathers o) = refl
finish_unflagged q (RunFirst o a) = refl
finish_unflagged q _ = tt

walk_unflagged : (h : PoolShape) (q : Party) (p n i : ℕ) (t : Then) → Unflagged (walk h q p n i t)
walk_unflagged h q p n i t = walk_move Unflagged h q p n i t (λ k e. refl) (finish_unflagged q t)

settled_unflagged : (h : PoolShape) (q : Party) (s : Settling) → Unflagged (after_set h q s s.latch)
settled_unflagged h q s = settled_move Unflagged h q s s.latch (λ k e. refl) (finish_unflagged q s.then)

withdraw_unflagged : (b : Option ℕ) (n : Plan) → flag_of (withdraw b n) ≡ None
withdraw_unflagged None n = refl
withdraw_unflagged (Some c) n = refl

set_unflagged : (c : ℕ) (o : Party) (t : Then) → flag_of (set_call c o t) ≡ None
set_unflagged c (Worker a b) t = refl
set_unflagged c (Caller n) t = refl

feed_unflagged : (k : Count) (f : Feeding) → flag_of (begin_feed k f) ≡ None
feed_unflagged (OfPool p) f = refl
feed_unflagged _ f = refl

slot_unflagged : (n : Plan) → flag_of (after_slot n) ≡ None
slot_unflagged (Feed f) = refl
slot_unflagged _ = refl

raise_unflagged : (n : Plan) → Unflagged (after_raise n)
raise_unflagged (Feed f) = feed_unflagged f.count f
raise_unflagged _ = refl

cast_unflagged : (k : Count) (c : Pieces) → (flag_of (begin_cast k c) ≡ None) × (flag_of (end_cast k c) ≡ None) × (flag_of (ends_count k) ≡ None)
cast_unflagged (OfPool p) c = (refl, refl, refl)
cast_unflagged (OfScope m o) c = (refl, refl, set_unflagged m o Resume)
cast_unflagged (OfCast m o) c = (refl, refl, set_unflagged m o Resume)

count_unflagged : (g : PoolShape) (q : Party) (k : Count) (t : Then) → Unflagged (settle_count g q k t)
count_unflagged g q (OfPool p) t = settle_move Unflagged g q p 0 t (λ k e. refl) (finish_unflagged q t)
count_unflagged g q (OfScope c o) t = set_unflagged c o t
count_unflagged g q (OfCast c o) t = set_unflagged c o t

begin_unflagged : (x : Taken) (e : Seen) → Unflagged (after_begin x e)
begin_unflagged (Plain t) (Begun d) = refl
begin_unflagged (Plain t) _ = refl
begin_unflagged (Token k i b) (Handed t d) = refl
begin_unflagged (Token k i b) _ = tt

back_unflagged : (f : Feeding) (e : Seen) → Unflagged (taken_back f e)
back_unflagged f (Task x) = withdraw_unflagged (count_book f.count) (Feed (record f { job = taken_number x }))
back_unflagged f _ = tt

failed_unflagged : (h : PoolShape) (w : Wait) (r : Rounds) → flag_of (after_failure h w r) ≡ None
failed_unflagged h w (Failed n) = by (nat_lt n h.limit)
  where
    by : (z : Bool) → flag_of (if z then ProbeIdle (record w { rounds = Failed (n + 1) }) else AnnounceSelf w) ≡ None
    by true = refl
    by false = refl
failed_unflagged h w Announced = refl

injected_next : (g : PoolShape) (q : Party) (k : Wait) (e : Seen) → Unflagged (next_of g q (PopInjected k) e)
injected_next g q k (Task t) = refl
injected_next g q k _ = failed_unflagged g k k.rounds

-- the places whose next ones depend on what the act saw, and on a plan, a count or what follows
abbrev NextUnflagged : PoolShape → Party → Place → Type 0
NextUnflagged g q x = (e : Seen) → Unflagged (next_of g q x e)

set_next : (g : PoolShape) (q : Party) (s : Settling) → NextUnflagged g q (SetLatch s)
set_next g q s Yes = refl
set_next g q s _ = settled_unflagged g q s

leave_next : (g : PoolShape) (q : Party) (k : Wait) → NextUnflagged g q (LeaveSearch k)
leave_next g q k (Wakes n) = walk_unflagged g q (own_pool q) n 0 (after_found k.target k.found)
leave_next g q k _ = refl

told_next : (g : PoolShape) (q : Party) (n : Plan) (v : Bool) → NextUnflagged g q (TellNews n v)
told_next g q n v (Wakes k) = walk_unflagged g q (plan_pool n) k 0 (after_news n)
told_next g q n v _ = refl

add_next : (g : PoolShape) (q : Party) (f : Feeding) → NextUnflagged g q (AddToFifo f)
add_next g q f Done = refl
add_next g q f _ = withdraw_unflagged (count_book f.count) (Feed f)

raise_next : (g : PoolShape) (q : Party) (n : Plan) → NextUnflagged g q (RaiseCount n)
raise_next g q n Done = raise_unflagged n
raise_next g q n _ = tt

slot_next : (g : PoolShape) (q : Party) (n : Plan) → NextUnflagged g q (OpenSlot n)
slot_next g q n Done = slot_unflagged n
slot_next g q n _ = refl

push_next : (g : PoolShape) (q : Party) (n : Plan) (v : Bool) → NextUnflagged g q (PushJob n v)
push_next g q n v Done = refl
push_next g q n v _ = withdraw_unflagged (plan_book n) n

all_raise_next : (g : PoolShape) (q : Party) (c : Pieces) → NextUnflagged g q (RaiseForAll c)
all_raise_next g q c Done = (cast_unflagged c.count c).0
all_raise_next g q c _ = tt

all_push_next : (g : PoolShape) (q : Party) (c : Pieces) → NextUnflagged g q (PushForAll c)
all_push_next g q c Done = refl
all_push_next g q c _ = (cast_unflagged c.count c).1

all_lower_next : (g : PoolShape) (q : Party) (c : Pieces) → NextUnflagged g q (LowerForAll c)
all_lower_next g q c Yes = (cast_unflagged c.count c).2
all_lower_next g q c _ = tt

lower_next : (g : PoolShape) (q : Party) (k : Count) (s : Share) (t : Then) → NextUnflagged g q (LowerCount k s t)
lower_next g q k s t Yes = count_unflagged g q k t
lower_next g q k s t _ = finish_unflagged q t

-- of each outcome, if of what any act may see
sees : (P : Seen → Type 0) → ((e : Seen) → P e) → (o : Outcome) → IfSome o (λ r. P (r.0))
sees P f o = if_some_all (λ r. P (r.0)) (λ r. f (r.0)) o

abbrev AllUnflagged : Shape → PoolShape → Party → Counts → Part → Place → Type 0
AllUnflagged h g q c m x = IfSome (effect (act_of q x) h q c m) (λ r. Unflagged (next_of g q x (r.0)))

next_unflagged : (h : Shape) (g : PoolShape) (q : Party) (c : Counts) (m : Part) (x : Place) → is_look x ≡ false → AllUnflagged h g q c m x
next_unflagged h g (Worker a b) c m (ProbeWorking k) z = search (rules, arith)
next_unflagged h g q c m (LookQueue n) z = cc
next_unflagged h g q c m (LookForToken f) z = cc
next_unflagged h g q c m (PopInjected k) z = sees (λ e. Unflagged (next_of g q (PopInjected k) e)) (injected_next g q k) (effect (act_of q (PopInjected k)) h q c m)
next_unflagged h g q c m (SetLatch s) z = sees (λ e. Unflagged (next_of g q (SetLatch s) e)) (set_next g q s) (effect (act_of q (SetLatch s)) h q c m)
next_unflagged h g q c m (UnlockSettled s) z = sees (λ e. Unflagged (next_of g q (UnlockSettled s) e)) (λ e. settled_unflagged g q s) (effect (act_of q (UnlockSettled s)) h q c m)
next_unflagged h g q c m (UnlockWoken k) z = sees (λ e. Unflagged (next_of g q (UnlockWoken k) e)) (λ e. walk_unflagged g q k.pool k.owed (k.worker + 1) k.then) (effect (act_of q (UnlockWoken k)) h q c m)
next_unflagged h g q c m (LeaveSearch k) z = sees (λ e. Unflagged (next_of g q (LeaveSearch k) e)) (leave_next g q k) (effect (act_of q (LeaveSearch k)) h q c m)
next_unflagged h g q c m (TellNews n v) z = sees (λ e. Unflagged (next_of g q (TellNews n v) e)) (told_next g q n v) (effect (act_of q (TellNews n v)) h q c m)
next_unflagged h g q c m (BeginTask x) z = sees (λ e. Unflagged (after_begin x e)) (begin_unflagged x) (effect (act_of q (BeginTask x)) h q c m)
next_unflagged h g q c m (AddToFifo f) z = sees (λ e. Unflagged (next_of g q (AddToFifo f) e)) (add_next g q f) (effect (act_of q (AddToFifo f)) h q c m)
next_unflagged h g q c m (TakeFromFifo f) z = sees (λ e. Unflagged (taken_back f e)) (back_unflagged f) (effect (act_of q (TakeFromFifo f)) h q c m)
next_unflagged h g q c m (RaiseCount n) z = sees (λ e. Unflagged (next_of g q (RaiseCount n) e)) (raise_next g q n) (effect (act_of q (RaiseCount n)) h q c m)
next_unflagged h g q c m (OpenSlot n) z = sees (λ e. Unflagged (next_of g q (OpenSlot n) e)) (slot_next g q n) (effect (act_of q (OpenSlot n)) h q c m)
next_unflagged h g q c m (PushJob n v) z = sees (λ e. Unflagged (next_of g q (PushJob n v) e)) (push_next g q n v) (effect (act_of q (PushJob n v)) h q c m)
next_unflagged h g q c m (RaiseForAll d) z = sees (λ e. Unflagged (next_of g q (RaiseForAll d) e)) (all_raise_next g q d) (effect (act_of q (RaiseForAll d)) h q c m)
next_unflagged h g q c m (PushForAll d) z = sees (λ e. Unflagged (next_of g q (PushForAll d) e)) (all_push_next g q d) (effect (act_of q (PushForAll d)) h q c m)
next_unflagged h g q c m (LowerForAll d) z = sees (λ e. Unflagged (next_of g q (LowerForAll d) e)) (all_lower_next g q d) (effect (act_of q (LowerForAll d)) h q c m)
next_unflagged h g q c m (LowerCount k v t) z = sees (λ e. Unflagged (next_of g q (LowerCount k v t) e)) (lower_next g q k v t) (effect (act_of q (LowerCount k v t)) h q c m)
next_unflagged h g (Worker a b) c m _ z = search (rules, arith)
next_unflagged h g (Caller n) c m _ z = search (rules, arith)

frame_unflagged : (f : Place) → is_frame f ≡ true → flag_of f ≡ None
frame_unflagged (ProbeWorking w) e = refl
frame_unflagged _ e = cc

comes_on : (w : World) (q : Party) → FramesOk w → (z : Bool) → is_look (w.stack q).top ≡ z → IfSome (outcome w q (w.stack q)) (λ r. (b : Bool) → flag_of ((after_move (next_at w q (w.stack q) (r.0)) (w.stack q).below).top) ≡ Some b → is_look (w.stack q).top ≡ true)
comes_on w q fr true z = if_some_all (λ r. (b : Bool) → flag_of ((after_move (next_at w q (w.stack q) (r.0)) (w.stack q).below).top) ≡ Some b → is_look (w.stack q).top ≡ true) (λ r b e. z) (outcome w q (w.stack q))
comes_on w q fr false z = if_some_map (λ r. Unflagged (next_at w q k (r.0))) (λ r. (b : Bool) → flag_of ((after_move (next_at w q k (r.0)) k.below).top) ≡ Some b → is_look k.top ≡ true)
    (λ r t b e. absurd (let i : flag_of ((after_move (next_at w q k (r.0)) k.below).top) ≡ None = top_then (λ y. flag_of y ≡ None) w q k (r.0) refl fr frame_unflagged t in let n : None ≡ Some b = sym i ∙ e in cc))
    (outcome w q k) (next_unflagged w.shape (shape_at w q k) q (counts_seen w q k) (part_at w q k) k.top z)
  where
    k : Stack
    k = w.stack q

-- so it is over each step
go_tells : (w : World) (q : Party) → FramesOk w → Says w q (w.stack q).top → IfSome (step w (Go q)) (TellsSo w q)
go_tells w q fr s = go_all (TellsSo w q) w q (if_some_map (λ r. Tells w q ((w.stack q).top) ((to r).top) × Comes r) (λ r. TellsSo w q (result w q (w.stack q) r)) landed (outcome w q (w.stack q))
    (if_some_and (λ r. Tells w q ((w.stack q).top) ((to r).top)) Comes (outcome w q (w.stack q)) (act_tells w q ((w.stack q).top) ((w.stack q).below) s) (comes_on w q fr (is_look (w.stack q).top) refl)))
  where
    to : Seen × Part → Stack
    to r = after_move (next_of (w.shape.pool (target_pool q (act_of q (w.stack q).top))) q ((w.stack q).top) (r.0)) ((w.stack q).below)

    Comes : Seen × Part → Type 0
    Comes r = (b : Bool) → flag_of ((to r).top) ≡ Some b → is_look (w.stack q).top ≡ true

    landed : (r : Seen × Part) → Tells w q ((w.stack q).top) ((to r).top) × Comes r → TellsSo w q (result w q (w.stack q) r)
    landed r h = record {
      looks = λ z. (let l : (l : List ℕ) × (queue_of w q (act_of q ((to r).top)) ≡ Some l) × (flag_of ((to r).top) ≡ Some (is_empty l)) = (h.0).looks z in record { queue = l.0; goes = ap (λ k. queue_of w q (act_of q k.top)) mine ∙ l.1; flag = ap (λ k. flag_of k.top) mine ∙ l.2 });
      comes = λ b e. (h.1) b (sym (ap (λ k. flag_of k.top) mine) ∙ e);
      tells = λ b e. ap (λ k. act_of q k.top) mine ∙ (h.0).tells b e;
    }
      where
        mine : (result w q (w.stack q) r).stack q ≡ to r
        mine = stack_mine w.stack q (to r)

pub tell_law : TellLaw
tell_law shape before q w v run s = let k : IfSome (Some v) (TellsSo w q) = subst (λ o. IfSome o (TellsSo w q)) s (go_tells w q ((always_lists shape before w run).frames) (((always_calls shape before w run).says q).top)) in k

-- the numbers that an act opens
numbered : (c : Pieces) (k : Marking) (f : ℕ → Job) (n i : ℕ) → ((j : Job) (t : ℕ) → (marked k c.pool t j).slot ≡ IsOpen (n + t)) → i < c.workers → (mark_pieces c k f (c.first + i)).slot ≡ IsOpen (n + i)
numbered c k f n i h l = ap (λ j. j.slot) (piece_new c (marked k c.pool) f (c.first + i) (piece_in c (c.first + i) (omega arith) (omega (arith, l)))) ∙ h (f (c.first + i)) (c.first + i - c.first) ∙ ap (λ t. IsOpen (n + t)) (omega arith)

slot_opens : (w : World) (q : Party) (n : Plan) (fs : List Place) → IfSome (outcome_of w q (Slot (count_call (plan_count n)) (plan_job n))) (λ r. OpensSo w (Slot (count_call (plan_count n)) (plan_job n)) (world_by w q (Slot (count_call (plan_count n)) (plan_job n)) (OpenSlot n) fs r))
slot_opens w q n fs = if_cond (λ r. OpensSo w (Slot (count_call (plan_count n)) (plan_job n)) (world_by w q (Slot (count_call (plan_count n)) (plan_job n)) (OpenSlot n) fs r)) (is_open q ((w.call (count_call (plan_count n))).writer)) _
    (λ o. (ap (λ j. j.slot) (put_new w.job (plan_job n) _), ap (λ c. c.slots) (put_new w.call (count_call (plan_count n)) _)))

all_opens : (w : World) (q : Party) (c : Pieces) (fs : List Place) → IfSome (outcome_of w q (SlotAll c)) (λ r. OpensSo w (SlotAll c) (world_by w q (SlotAll c) (OpenForAll c) fs r))
all_opens w q c fs = if_cond (λ r. OpensSo w (SlotAll c) (world_by w q (SlotAll c) (OpenForAll c) fs r)) (is_open q ((w.call (count_call c.count)).writer)) _
    (λ o. (λ i l. numbered c (Numbered (w.call (count_call c.count)).slots) (put w.job 0 (w.job 0)) ((w.call (count_call c.count)).slots) i (λ j t. refl) l, ap (λ k. k.slots) (put_new w.call (count_call c.count) _)))

deal_opens : (w v : World) (c : Pieces) (k : Count) (f : ℕ → Job) → ((t : ℕ) → v.job t ≡ mark_pieces c Dealt f t) → DealtFrom v c k
deal_opens w v c (OfCast n o) f e = λ i l. ap (λ j. j.slot) (e (c.first + i)) ∙ numbered c Dealt f 0 i (λ j t. ap IsOpen (omega arith)) l
deal_opens w v c _ f e = tt

deals : (w : World) (q : Party) (g : Gathering) (fs : List Place) → IfSome (outcome_of w q (PushCast g.pieces)) (λ r. OpensSo w (PushCast g.pieces) (world_by w q (PushCast g.pieces) (DealPieces g) fs r))
deals w q g fs = if_some_map (λ r. r.0 ≡ Done) (λ r. OpensSo w (PushCast g.pieces) (world_by w q (PushCast g.pieces) (DealPieces g) fs r)) done (outcome_of w q (PushCast g.pieces)) refl
  where
    done : (r : Seen × Part) → r.0 ≡ Done → OpensSo w (PushCast g.pieces) (world_by w q (PushCast g.pieces) (DealPieces g) fs r)
    done r e = deal_opens w (world_by w q (PushCast g.pieces) (DealPieces g) fs r) g.pieces g.pieces.count (put w.job 0 (r.1.job)) (λ t. ap (λ x. jobs_after q (next_of (w.shape.pool g.pieces.pool) q (DealPieces g) x) (put w.job 0 (r.1.job)) t) e)

-- a broadcast that waits for nothing has no count of its own
known_opens : (w v : World) (c : Pieces) (k : Count) (p : ℕ) → KnownCount w k p → DealtFrom v c k
known_opens w v c (OfCast n o) p s = absurd s
known_opens w v c _ p s = tt

cast_opens : (w : World) (q : Party) (c : Pieces) (fs : List Place) → KnownCount w c.count c.pool → IfSome (outcome_of w q (PushCast c)) (λ r. OpensSo w (PushCast c) (world_by w q (PushCast c) (PushForAll c) fs r))
cast_opens w q c fs s = if_some_all (λ r. OpensSo w (PushCast c) (world_by w q (PushCast c) (PushForAll c) fs r)) (λ r. known_opens w (world_by w q (PushCast c) (PushForAll c) fs r) c c.count c.pool s) (outcome_of w q (PushCast c))

-- all other acts open none
others : (w : World) (q : Party) (a : Act) (x : Place) (fs : List Place) → ((v : World) → OpensSo w a v) → IfSome (outcome_of w q a) (λ r. OpensSo w a (world_by w q a x fs r))
others w q a x fs h = if_some_all (λ r. OpensSo w a (world_by w q a x fs r)) (λ r. h (world_by w q a x fs r)) (outcome_of w q a)

act_opens : (w : World) (q : Party) (x : Place) (fs : List Place) → Says w q x → IfSome (outcome_of w q (act_of q x)) (λ r. OpensSo w (act_of q x) (world_by w q (act_of q x) x fs r))
act_opens w (Worker a b) (OpenSlot n) fs s = slot_opens w (Worker a b) n fs
act_opens w (Caller g) (OpenSlot n) fs s = slot_opens w (Caller g) n fs
act_opens w (Worker a b) (OpenForAll c) fs s = all_opens w (Worker a b) c fs
act_opens w (Caller g) (OpenForAll c) fs s = all_opens w (Caller g) c fs
act_opens w (Worker a b) (PushForAll c) fs s = cast_opens w (Worker a b) c fs (s.1)
act_opens w (Caller g) (PushForAll c) fs s = cast_opens w (Caller g) c fs (s.1)
act_opens w (Worker a b) (DealPieces g) fs s = deals w (Worker a b) g fs
act_opens w (Caller c) (DealPieces g) fs s = deals w (Caller c) g fs
act_opens w (Worker a b) (PushJob n v) fs s = by (is_member (Worker a b) (plan_pool n))
  where
    by : (k : Bool) → IfSome (outcome_of w (Worker a b) (if k then PushOwn (plan_job n) (plan_book n) else PushInj (plan_pool n) (plan_job n) (plan_book n)))
        (λ r. OpensSo w (if k then PushOwn (plan_job n) (plan_book n) else PushInj (plan_pool n) (plan_job n) (plan_book n)) (world_by w (Worker a b) (if k then PushOwn (plan_job n) (plan_book n) else PushInj (plan_pool n) (plan_job n) (plan_book n)) (PushJob n v) fs r))
    by true = tt
    by false = tt
act_opens w (Worker a b) (LookQueue n) fs s = by (is_member (Worker a b) (plan_pool n))
  where
    by : (k : Bool) → IfSome (outcome_of w (Worker a b) (if k then LookOwn else LookInj (plan_pool n))) (λ r. OpensSo w (if k then LookOwn else LookInj (plan_pool n)) (world_by w (Worker a b) (if k then LookOwn else LookInj (plan_pool n)) (LookQueue n) fs r))
    by true = tt
    by false = tt
act_opens w (Worker a b) (BeginTask (Plain t)) fs s = tt
act_opens w (Caller c) (BeginTask (Plain t)) fs s = tt
act_opens w (Worker a b) (BeginTask (Token k i d)) fs s = others w (Worker a b) (FifoOut k i d) (BeginTask (Token k i d)) fs (λ v. tt)
act_opens w (Caller c) (BeginTask (Token k i d)) fs s = others w (Caller c) (FifoOut k i d) (BeginTask (Token k i d)) fs (λ v. tt)
act_opens w (Worker a b) x fs s = others w (Worker a b) (act_of (Worker a b) x) x fs (λ v. tt)
act_opens w (Caller c) x fs s = others w (Caller c) (act_of (Caller c) x) x fs (λ v. tt)

go_opens : (w : World) (q : Party) → Says w q (w.stack q).top → IfSome (step w (Go q)) (OpensSo w (act_of q (w.stack q).top))
go_opens w q s = go_all (OpensSo w (act_of q (w.stack q).top)) w q (act_opens w q ((w.stack q).top) ((w.stack q).below) s)

pub number_law : NumberLaw
number_law shape before q w v run s = let k : IfSome (Some v) (OpensSo w (act_of q (w.stack q).top)) = subst (λ o. IfSome o (OpensSo w (act_of q (w.stack q).top))) s (go_opens w q (((always_calls shape before w run).says q).top)) in k
