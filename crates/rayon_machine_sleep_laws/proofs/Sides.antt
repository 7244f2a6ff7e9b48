-- a job that a call waits for, and that its own party begins, is the second side of a join: its run is above that frame
--
-- This is `Backed`, over the table of moves.
use Rattle.std.proofs.Common.{rules, arith, refl, sym, ◌∙◌, ap, subst}
use Rattle.rayon_machine_sleep_laws.proofs.Words.{ℕ, Bool, true, false, ◌&&◌, ◌+◌, ◌==◌, ◌≤◌, nat_lt, if◌then◌else◌, Option, Some, None, List, [], ◌∷◌, ◌≡◌, IfSome, ⊤, eq-eqb, Party, Worker, Caller, Ending, Fine, Fault, JobKind, Detached, Stored, Direct, Scoped, BodyOf, PieceOf, WholeOf}
use Rattle.rayon_machine_sleep_laws.proofs.Words.{TokenOf, Target, Termination, Answer, Latch, Terminate, OfCall, Rounds, Failed, Announced, Plan, Detach, Here, Send, Fork, Feed, Open, Enter, Gather, Count, OfPool, OfScope, OfCast, Share, Then, BeginFound, LeaveWait, Resume, Await, RunFirst}
use Rattle.rayon_machine_sleep_laws.proofs.Words.{Answers, Missing as NoResult, Ran, GiveBack, Called, Gathers, Taken, Plain, Token, Place, ProbeWorking, ProbeIdle, PopInjected, AnnounceSelf, LeaveSearch, BeginTask, BeginHere, Run, RaiseCount, TellNews, LockToWake, UnlockWoken, LowerCount}
use Rattle.rayon_machine_sleep_laws.proofs.Words.{StoreResult, SetLatch, UnlockSettled, SetLockLatch, FirstSide, SecondSide, ScopeBody, AtOnce, Stopped, GrowScope, PushJob, OpenSlot, AddToFifo, TakeFromFifo, RaiseForAll, PushForAll, LowerForAll, Move, Stay, Into, StartRun, Back, HandBack}
use Rattle.rayon_machine_sleep_laws.proofs.Words.{HandIn, Discard, Mark, HandAllBack, Seen, Done, Yes, Task, Wakes, PoolShape, Feeding, Pieces, OpenCall, Wait, Settling, own_pool, plan_pool, after_news, after_wait, finish, walk, settle, after_set, after_found, act_of, after_failure, next_of}
use Rattle.rayon_machine_sleep_laws.proofs.Words.{plan_book, count_book, taken_number, withdraw, begin_feed, after_slot, begin_cast, end_cast, ends_count, set_call, goes_on, Shape, World, Counts, Part, effect, after_move, after_close, after_resume}
use Rattle.rayon_machine_places.specs.declared.place.Place.TheVariants.{JoinPop}
use Rattle.rayon_machine_places.specs.declared.place.Place.TheVariants.{JoinProbe}
use Rattle.rayon_machine_places.specs.Places.{settle_count, is_taken}
use Rattle.rayon_machine_laws.proofs.Claims.{AllSay, Says, SaysThen, SaysTold, SaysFound, FirstEnds, here}
use Rattle.rayon_machine_laws.proofs.Frame.{if_some_all, if_some_map, out_sees}
use Rattle.rayon_machine_laws.proofs.Storing.{number_is}
use Rattle.rayon_machine_sleep_laws.proofs.Rests.{not_both}

-- a job that was made to be queued for a call that waits for it
abbrev pub is_stored : JobKind → Bool
is_stored (Stored c o) = true
is_stored _ = false

-- the frame below the run of a join's second side
abbrev pub second : ℕ → Place → Bool
second t (SecondSide o) = t == o.job
second t x = false

abbrev pub seconds : ℕ → List Place → Bool
seconds t [] = false
seconds t (f ∷ fs) = second t f

-- of these places, the top first, each that begins or runs such a job for its own party has that frame below
abbrev pub Backed : World → List Place → Type 0
Backed w [] = ⊤
Backed w (x ∷ fs) = ((t : ℕ) → here x ≡ Some t → is_stored (w.job t).kind ≡ true → seconds t fs ≡ true) × Backed w fs

-- no first side of a join is such a job
abbrev pub Firsts : World → Type 0
Firsts w = (c a : ℕ) → (w.call c).first ≡ Some a → (a + 1 ≤ w.jobs) × (is_stored (w.job a).kind ≡ false)

none_here : (x : Place) (t : ℕ) → here x ≡ None → here x ≡ Some t → ⊥
none_here x t e f = let z : None ≡ Some t = sym e ∙ f in cc

-- what a move leads to: a place that begins or runs such a job did so before, or a frame for it comes below
abbrev pub Passes : World → Place → Place → Type 0
Passes w x y = (t : ℕ) → here y ≡ Some t → is_stored (w.job t).kind ≡ true → here x ≡ Some t

abbrev pub Turning : World → Place → Move → Type 0
Turning w x (Stay y) = Passes w x y
Turning w x (HandIn y k) = Passes w x y
Turning w x (Mark y c k) = Passes w x y
Turning w x (Into f y) = ((t : ℕ) → here y ≡ Some t → is_stored (w.job t).kind ≡ true → second t f ≡ true) × (here f ≡ None)
Turning w x (StartRun f a) = (is_stored (w.job a).kind ≡ false) × (here f ≡ None)
Turning w x g = ⊤

pub land_backed : (w : World) (x : Place) (g : Move) (fs : List Place) → Turning w x g → Backed w (x ∷ fs) → Backed w ((after_move g fs).top ∷ (after_move g fs).below)
land_backed w x (Stay y) fs m b = (λ t e s. b.0 t (m t e s) s, b.1)
land_backed w x (HandIn y k) fs m b = (λ t e s. b.0 t (m t e s) s, b.1)
land_backed w x (Mark y c k) fs m b = (λ t e s. b.0 t (m t e s) s, b.1)
land_backed w x (Into f y) fs m b = (λ t e s. m.0 t e s, (λ t e s. absurd (none_here f t (m.1) e), b.1))
land_backed w x (StartRun f a) fs m b = (λ t e s. absurd (not_both (is_stored (w.job t).kind) s (ap (λ n. is_stored (w.job n).kind) (sym (number_is a t e)) ∙ m.0)), (λ t e s. absurd (none_here f t (m.1) e), b.1))
land_backed w x _ [] m b = (λ t e s. absurd (none_here Stopped t refl e), tt)
land_backed w x _ (f ∷ fs) m b = b.1

-- places that begin and run nothing for a frame
abbrev pub Calm : Move → Type 0
Calm (Stay y) = here y ≡ None
Calm (HandIn y k) = here y ≡ None
Calm (Mark y c k) = here y ≡ None
Calm (Into f y) = (here y ≡ None) × (here f ≡ None)
Calm (StartRun f a) = ⊥
Calm g = ⊤

pub calm_turns : (w : World) (x : Place) (g : Move) → Calm g → Turning w x g
calm_turns w x (Stay y) n = λ t e s. absurd (none_here y t n e)
calm_turns w x (HandIn y k) n = λ t e s. absurd (none_here y t n e)
calm_turns w x (Mark y c k) n = λ t e s. absurd (none_here y t n e)
calm_turns w x (Into f y) n = (λ t e s. absurd (none_here y t (n.0) e), n.1)
calm_turns w x (StartRun f a) n = absurd n
calm_turns w x _ n = tt

left_calm : (g : Target) → here (after_wait g) ≡ None
left_calm Termination = refl
left_calm (Answer o f) = refl

-- a first side begins its run once others are woken
finish_turns : (w : World) (q : Party) (x : Place) (t : Then) → Firsts w → SaysThen w q t → Turning w x (finish q t)
finish_turns w q x (BeginFound g t) f s = calm_turns w x (finish q (BeginFound g t)) (refl, refl)
finish_turns w q x (LeaveWait g) f s = calm_turns w x (finish q (LeaveWait g)) (left_calm g)
finish_turns w (Worker i j) x (Await o) f s = calm_turns w x (finish (Worker i j) (Await o)) refl
finish_turns w (Caller n) x (Await o) f s = calm_turns w x (finish (Caller n) (Await o)) refl
finish_turns w (Worker i j) x (Gathers o) f s = calm_turns w x (finish (Worker i j) (Gathers o)) refl
finish_turns w (Caller n) x (Gathers o) f s = calm_turns w x (finish (Caller n) (Gathers o)) refl
finish_turns w q x (RunFirst o a) f s = ((f o.number a (s.1)).1, refl)
finish_turns w q x _ f s = tt

if_turns : (w : World) (x : Place) (b : Bool) (y : Place) (g : Move) → here y ≡ None → Turning w x g → Turning w x (if b then Stay y else g)
if_turns w x true y g n t = calm_turns w x (Stay y) n
if_turns w x false y g n t = t

walk_turns : (w : World) (h : PoolShape) (q : Party) (x : Place) (p n i : ℕ) (t : Then) → Firsts w → SaysThen w q t → Turning w x (walk h q p n i t)
walk_turns w h q x p n i t f s = if_turns w x (nat_lt 0 n && nat_lt i h.workers) (LockToWake (record { pool = p; owed = n; worker = i; then = t })) (finish q t) refl (finish_turns w q x t f s)

settle_turns : (w : World) (h : PoolShape) (q : Party) (x : Place) (p i : ℕ) (t : Then) → Firsts w → SaysThen w q t → Turning w x (settle h q p i t)
settle_turns w h q x p i t f s = if_turns w x (nat_lt i h.workers) (SetLatch (record { latch = Terminate; pool = p; worker = i; then = t })) (finish q t) refl (finish_turns w q x t f s)

settled_turns : (w : World) (h : PoolShape) (q : Party) (x : Place) (k : Settling) (l : Latch) → Firsts w → SaysThen w q k.then → Turning w x (after_set h q k l)
settled_turns w h q x k Terminate f s = settle_turns w h q x k.pool (k.worker + 1) k.then f s
settled_turns w h q x k (OfCall c) f s = finish_turns w q x k.then f s

call_calm : (c : ℕ) (o : Party) (t : Then) → here (set_call c o t) ≡ None
call_calm c (Worker i j) t = refl
call_calm c (Caller n) t = refl

count_turns : (w : World) (h : PoolShape) (q : Party) (x : Place) (k : Count) (t : Then) → Firsts w → SaysThen w q t → Turning w x (settle_count h q k t)
count_turns w h q x (OfPool p) t f s = settle_turns w h q x p 0 t f s
count_turns w h q x (OfScope c o) t f s = calm_turns w x (Stay (set_call c o t)) (call_calm c o t)
count_turns w h q x (OfCast c o) t f s = calm_turns w x (Stay (set_call c o t)) (call_calm c o t)

ends_calm : (k : Count) → here (ends_count k) ≡ None
ends_calm (OfPool p) = refl
ends_calm (OfScope c o) = call_calm c o Resume
ends_calm (OfCast c o) = call_calm c o Resume

fed_calm : (f : Feeding) (k : Count) → here (begin_feed k f) ≡ None
fed_calm f (OfPool p) = refl
fed_calm f _ = refl

drawn_calm : (b : Option ℕ) (n : Plan) → here (withdraw b n) ≡ None
drawn_calm None n = refl
drawn_calm (Some c) n = refl

slot_calm : (n : Plan) → here (after_slot n) ≡ None
slot_calm (Feed f) = refl
slot_calm _ = refl

begun_calm : (b : Pieces) (k : Count) → here (begin_cast k b) ≡ None
begun_calm b (OfPool p) = refl
begun_calm b _ = refl

unpushed_calm : (b : Pieces) (k : Count) → here (end_cast k b) ≡ None
unpushed_calm b (OfPool p) = refl
unpushed_calm b _ = refl

failed_calm : (h : PoolShape) (k : Wait) (r : Rounds) → here (after_failure h k r) ≡ None
failed_calm h k (Failed m) = at (nat_lt m h.limit)
  where
    at : (b : Bool) → here (if b then ProbeIdle (record k { rounds = Failed (m + 1) }) else AnnounceSelf k) ≡ None
    at true = refl
    at false = refl
failed_calm h k Announced = refl

-- the places whose moves the seen decides, or a list of what follows
probe_turns : (w : World) (h : PoolShape) (q : Party) (k : Wait) (e : Seen) → Turning w (ProbeWorking k) (next_of h q (ProbeWorking k) e)
probe_turns w h q k Yes = calm_turns w (ProbeWorking k) (Stay (after_wait k.target)) (left_calm k.target)
probe_turns w h q k _ = λ t e s. absurd (cc)

inject_turns : (w : World) (h : PoolShape) (q : Party) (k : Wait) (e : Seen) → Turning w (PopInjected k) (next_of h q (PopInjected k) e)
inject_turns w h q k (Task t) = λ t e s. absurd (cc)
inject_turns w h q k _ = calm_turns w (PopInjected k) (Stay (after_failure h k k.rounds)) (failed_calm h k k.rounds)

found_says : (w : World) (q : Party) (k : Wait) → Says w q (LeaveSearch k) → SaysThen w q (after_found k.target k.found)
found_says w q k s = by k.found refl
  where
    by : (o : Option Taken) → k.found ≡ o → SaysThen w q (after_found k.target o)
    by None e = s.0
    by (Some x) e = (s.0, subst (SaysFound w) e (s.1))

leave_turns : (w : World) (h : PoolShape) (q : Party) (k : Wait) (e : Seen) → Firsts w → Says w q (LeaveSearch k) → Turning w (LeaveSearch k) (next_of h q (LeaveSearch k) e)
leave_turns w h q k (Wakes n) f s = walk_turns w h q (LeaveSearch k) (own_pool q) n 0 (after_found k.target k.found) f (found_says w q k s)
leave_turns w h q k _ f s = λ t e s. absurd (cc)

news_says : (w : World) (q : Party) (n : Plan) → SaysTold w q n → SaysThen w q (after_news n)
news_says w q (Send o) s = (s.0, subst (λ a. FirstEnds w a None) (sym (s.1)) tt)
news_says w q (Fork o a) s = s
news_says w q (Feed f) s = absurd s
news_says w q (Open o) s = absurd s
news_says w q (Gather g) s = absurd s
news_says w q _ s = tt

tell_turns : (w : World) (h : PoolShape) (q : Party) (n : Plan) (v : Bool) (e : Seen) → Firsts w → Says w q (TellNews n v) → Turning w (TellNews n v) (next_of h q (TellNews n v) e)
tell_turns w h q n v (Wakes m) f s = walk_turns w h q (TellNews n v) (plan_pool n) m 0 (after_news n) f (news_says w q n s)
tell_turns w h q n v _ f s = λ t e s. absurd (cc)

direct_not : (k : JobKind) → k ≡ Direct → is_stored k ≡ false
direct_not k e = ap is_stored e

-- an install that its own worker runs at once is of a job that nobody waits for
raise_turns : (w : World) (h : PoolShape) (q : Party) (n : Plan) (e : Seen) → Says w q (RaiseCount n) → Turning w (RaiseCount n) (next_of h q (RaiseCount n) e)
raise_turns w h q (Here p t) Done s = (λ u e k. absurd (not_both (is_stored (w.job u).kind) k (ap (λ n. is_stored (w.job n).kind) (sym (number_is t u e)) ∙ direct_not (w.job t).kind (s.kind))), refl)
raise_turns w h q (Feed f) Done s = calm_turns w (RaiseCount (Feed f)) (Stay (begin_feed f.count f)) (fed_calm f f.count)
raise_turns w h q (Detach p t) Done s = λ t e s. absurd (cc)
raise_turns w h q (Send o) Done s = λ t e s. absurd (cc)
raise_turns w h q (Fork o a) Done s = λ t e s. absurd (cc)
raise_turns w h q (Gather g) Done s = λ t e s. absurd (cc)
raise_turns w h q (Open o) Done s = λ t e s. absurd (cc)
raise_turns w h q (Enter x) Done s = λ t e s. absurd (cc)
raise_turns w h q n _ s = tt

pub push_turns : (w : World) (h : PoolShape) (q : Party) (n : Plan) (v : Bool) (e : Seen) → Turning w (PushJob n v) (next_of h q (PushJob n v) e)
push_turns w h q n v Done = λ t e s. absurd (cc)
push_turns w h q n v _ = calm_turns w (PushJob n v) (Stay (withdraw (plan_book n) n)) (drawn_calm (plan_book n) n)

open_turns : (w : World) (h : PoolShape) (q : Party) (n : Plan) (e : Seen) → Turning w (OpenSlot n) (next_of h q (OpenSlot n) e)
open_turns w h q n Done = calm_turns w (OpenSlot n) (Stay (after_slot n)) (slot_calm n)
open_turns w h q n _ = λ t e s. absurd (cc)

pub add_turns : (w : World) (h : PoolShape) (q : Party) (f : Feeding) (e : Seen) → Turning w (AddToFifo f) (next_of h q (AddToFifo f) e)
add_turns w h q f Done = λ t e s. absurd (cc)
add_turns w h q f _ = calm_turns w (AddToFifo f) (Stay (withdraw (count_book f.count) (Feed f))) (drawn_calm (count_book f.count) (Feed f))

retake_turns : (w : World) (h : PoolShape) (q : Party) (f : Feeding) (e : Seen) → Turning w (TakeFromFifo f) (next_of h q (TakeFromFifo f) e)
retake_turns w h q f (Task x) = calm_turns w (TakeFromFifo f) (Stay (withdraw (count_book f.count) (Feed (record f { job = taken_number x })))) (drawn_calm (count_book f.count) (Feed (record f { job = taken_number x })))
retake_turns w h q f _ = tt

raise_all_turns : (w : World) (h : PoolShape) (q : Party) (b : Pieces) (e : Seen) → Turning w (RaiseForAll b) (next_of h q (RaiseForAll b) e)
raise_all_turns w h q b Done = calm_turns w (RaiseForAll b) (next_of h q (RaiseForAll b) Done) (begun_calm b b.count)
raise_all_turns w h q b _ = tt

pub push_all_turns : (w : World) (h : PoolShape) (q : Party) (b : Pieces) (e : Seen) → Turning w (PushForAll b) (next_of h q (PushForAll b) e)
push_all_turns w h q b Done = λ t e s. absurd (cc)
push_all_turns w h q b _ = calm_turns w (PushForAll b) (Stay (end_cast b.count b)) (unpushed_calm b b.count)

lower_all_turns : (w : World) (h : PoolShape) (q : Party) (b : Pieces) (e : Seen) → Turning w (LowerForAll b) (next_of h q (LowerForAll b) e)
lower_all_turns w h q b Yes = calm_turns w (LowerForAll b) (next_of h q (LowerForAll b) Yes) (ends_calm b.count)
lower_all_turns w h q b _ = tt

lower_turns : (w : World) (h : PoolShape) (q : Party) (k : Count) (a : Share) (t : Then) (e : Seen) → Firsts w → SaysThen w q t → Turning w (LowerCount k a t) (next_of h q (LowerCount k a t) e)
lower_turns w h q k a t Yes f s = count_turns w h q (LowerCount k a t) k t f s
lower_turns w h q k a t _ f s = finish_turns w q (LowerCount k a t) t f s

set_turns : (w : World) (h : PoolShape) (q : Party) (k : Settling) (e : Seen) → Firsts w → SaysThen w q k.then → Turning w (SetLatch k) (next_of h q (SetLatch k) e)
set_turns w h q k Yes f s = λ t e z. absurd (cc)
set_turns w h q k _ f s = settled_turns w h q (SetLatch k) k k.latch f s

-- a join that takes its second side back begins it above the frame for it
pop_turns : (w : World) (h : PoolShape) (q : Party) (o : OpenCall) (e : Seen) → Turning w (JoinPop o) (next_of h q (JoinPop o) e)
pop_turns w h q o (Task t) = by (is_taken t o.job)
  where
    by : (b : Bool) → Turning w (JoinPop o) (if b then Into (SecondSide o) (BeginHere o.job) else Into (JoinProbe o) (BeginTask t))
    by true = (λ u e s. eq-eqb u o.job (sym (number_is o.job u e)), refl)
    by false = (λ u e s. absurd (cc), refl)
pop_turns w h q o _ = λ t e s. absurd (cc)

grow_turns : (w : World) (h : PoolShape) (q : Party) (o : OpenCall) (e : Seen) → is_stored (w.job o.job).kind ≡ false → Turning w (GrowScope o) (next_of h q (GrowScope o) e)
grow_turns w h q o Done n = (n, refl)
grow_turns w h q o _ n = λ t e s. absurd (cc)

-- what begins is of the kind that the party finds
run_passes : (w : World) (x : Place) (t : ℕ) (d : JobKind) → d ≡ (w.job t).kind → Passes w x (Run t d)
run_passes w x t (Detached p) e u y s = absurd (cc)
run_passes w x t (Stored c o) e u y s = absurd (cc)
run_passes w x t (Scoped c o) e u y s = absurd (cc)
run_passes w x t (PieceOf c o) e u y s = absurd (cc)
run_passes w x t _ e u y s = absurd (not_both (is_stored (w.job u).kind) s (ap (λ n. is_stored (w.job n).kind) (sym (number_is t u y)) ∙ ap is_stored (sym e)))

-- what is known of the job that an act begins, and of a scope's body
abbrev pub Known : World → Part → Place → Type 0
Known w m (BeginTask (Plain t)) = m.job.kind ≡ (w.job t).kind
Known w m (BeginTask (Token k i b)) = (t : ℕ) (ts : List ℕ) → m.seat.fifo b ≡ t ∷ ts → m.job.kind ≡ (w.job t).kind
Known w m (GrowScope o) = is_stored (w.job o.job).kind ≡ false
Known w m x = ⊤

abbrev Acts : World → Shape → PoolShape → Party → Counts → Part → Place → Type 0
Acts w h g q c m x = IfSome (effect (act_of q x) h q c m) (λ r. Turning w x (next_of g q x (r.0)))

all_turn : (w : World) (h : Shape) (g : PoolShape) (q : Party) (c : Counts) (m : Part) (x : Place) → ((e : Seen) → Turning w x (next_of g q x e)) → Acts w h g q c m x
all_turn w h g q c m x f = if_some_all {A = Seen × Part} (λ r. Turning w x (next_of g q x (r.0))) (λ r. f (r.0)) (effect (act_of q x) h q c m)

-- where each act leads
pub act_turns : (w : World) (h : Shape) (g : PoolShape) (q : Party) (c : Counts) (m : Part) (x : Place) → Firsts w → Says w q x → Known w m x → Acts w h g q c m x
act_turns w h g q c m (ProbeWorking k) f s n = all_turn w h g q c m (ProbeWorking k) (probe_turns w g q k)
act_turns w h g q c m (PopInjected k) f s n = all_turn w h g q c m (PopInjected k) (inject_turns w g q k)
act_turns w h g q c m (LeaveSearch k) f s n = all_turn w h g q c m (LeaveSearch k) (λ e. leave_turns w g q k e f s)
act_turns w h g q c m (TellNews p v) f s n = all_turn w h g q c m (TellNews p v) (λ e. tell_turns w g q p v e f s)
act_turns w h g q c m (RaiseCount p) f s n = all_turn w h g q c m (RaiseCount p) (λ e. raise_turns w g q p e s)
act_turns w h g q c m (StoreResult d o v) f s n = all_turn w h g q c m (StoreResult d o v) (λ e. calm_turns w (StoreResult d o v) (Stay (set_call d o Resume)) (call_calm d o Resume))
act_turns w h g q c m (LowerCount k a t) f s n = all_turn w h g q c m (LowerCount k a t) (λ e. lower_turns w g q k a t e f (s.0))
act_turns w h g q c m (PushJob p v) f s n = all_turn w h g q c m (PushJob p v) (push_turns w g q p v)
act_turns w h g q c m (OpenSlot p) f s n = all_turn w h g q c m (OpenSlot p) (open_turns w g q p)
act_turns w h g q c m (AddToFifo p) f s n = all_turn w h g q c m (AddToFifo p) (add_turns w g q p)
act_turns w h g q c m (TakeFromFifo p) f s n = all_turn w h g q c m (TakeFromFifo p) (retake_turns w g q p)
act_turns w h g q c m (RaiseForAll b) f s n = all_turn w h g q c m (RaiseForAll b) (raise_all_turns w g q b)
act_turns w h g q c m (PushForAll b) f s n = all_turn w h g q c m (PushForAll b) (push_all_turns w g q b)
act_turns w h g q c m (LowerForAll b) f s n = all_turn w h g q c m (LowerForAll b) (lower_all_turns w g q b)
act_turns w h g q c m (SetLockLatch d t) f s n = all_turn w h g q c m (SetLockLatch d t) (λ e. finish_turns w q (SetLockLatch d t) t f (s.1))
act_turns w h g q c m (UnlockWoken k) f s n = all_turn w h g q c m (UnlockWoken k) (λ e. walk_turns w g q (UnlockWoken k) k.pool k.owed (k.worker + 1) k.then f s)
act_turns w h g q c m (SetLatch k) f s n = all_turn w h g q c m (SetLatch k) (λ e. set_turns w g q k e f (s.1))
act_turns w h g q c m (UnlockSettled k) f s n = all_turn w h g q c m (UnlockSettled k) (λ e. settled_turns w g q (UnlockSettled k) k k.latch f (s.1))
act_turns w h g q c m (JoinPop o) f s n = all_turn w h g q c m (JoinPop o) (pop_turns w g q o)
act_turns w h g q c m (GrowScope o) f s n = all_turn w h g q c m (GrowScope o) (λ e. grow_turns w g q o e n)
act_turns w h g q c m (BeginHere t) f s n = all_turn w h g q c m (BeginHere t) (λ e u y z. y)
act_turns w h g (Worker i j) c m (BeginTask (Plain t)) f s n = run_passes w (BeginTask (Plain t)) t m.job.kind n
act_turns w h g (Caller v) c m (BeginTask (Plain t)) f s n = run_passes w (BeginTask (Plain t)) t m.job.kind n
act_turns w h g (Worker i j) c m (BeginTask (Token k a b)) f s n = out_sees (λ r. Turning w (BeginTask (Token k a b)) (next_of g (Worker i j) (BeginTask (Token k a b)) (r.0))) (Worker i j) m b tt (λ t ts e. run_passes w (BeginTask (Token k a b)) t m.job.kind (n t ts e))
act_turns w h g (Caller v) c m (BeginTask (Token k a b)) f s n = out_sees (λ r. Turning w (BeginTask (Token k a b)) (next_of g (Caller v) (BeginTask (Token k a b)) (r.0))) (Caller v) m b tt (λ t ts e. run_passes w (BeginTask (Token k a b)) t m.job.kind (n t ts e))
act_turns w h g (Worker i j) c m x f s n = if_some_map (λ r. Calm (next_of g (Worker i j) x (r.0))) (λ r. Turning w x (next_of g (Worker i j) x (r.0))) (λ r z. calm_turns w x (next_of g (Worker i j) x (r.0)) z) (effect (act_of (Worker i j) x) h (Worker i j) c m) (search (rules, arith))
act_turns w h g (Caller v) c m x f s n = if_some_map (λ r. Calm (next_of g (Caller v) x (r.0))) (λ r. Turning w x (next_of g (Caller v) x (r.0))) (λ r z. calm_turns w x (next_of g (Caller v) x (r.0)) z) (effect (act_of (Caller v) x) h (Caller v) c m) (search (rules, arith))

-- what a place begins or runs was made
says_here : (w : World) (q : Party) (x : Place) (t : ℕ) → Says w q x → here x ≡ Some t → t + 1 ≤ w.jobs
says_here w q (BeginHere u) t s e = subst (λ n. n + 1 ≤ w.jobs) (number_is u t e) (s.made)
says_here w q (Run u Direct) t s e = subst (λ n. n + 1 ≤ w.jobs) (number_is u t e) (s.made)
says_here w q (Run u (TokenOf i b)) t s e = subst (λ n. n + 1 ≤ w.jobs) (number_is u t e) (s.made)
says_here w q (Run u (BodyOf c o)) t s e = subst (λ n. n + 1 ≤ w.jobs) (number_is u t e) (s.made)
says_here w q (Run u (WholeOf c o)) t s e = subst (λ n. n + 1 ≤ w.jobs) (number_is u t e) (s.made)
says_here w q x t s e = cc

-- so it stays where no kind is another, or none of what was made
pub backed_kinds : (w v : World) (l : List Place) → ((t : ℕ) → (v.job t).kind ≡ (w.job t).kind) → Backed w l → Backed v l
backed_kinds w v [] k b = tt
backed_kinds w v (x ∷ fs) k b = (λ t e s. b.0 t e (ap is_stored (sym (k t)) ∙ s), backed_kinds w v fs k (b.1))

pub backed_on : (w v : World) (q : Party) (l : List Place) → ((t : ℕ) → t + 1 ≤ w.jobs → (v.job t).kind ≡ (w.job t).kind) → AllSay w q l → Backed w l → Backed v l
backed_on w v q [] k a b = tt
backed_on w v q (x ∷ fs) k a b = (λ t e s. b.0 t e (ap is_stored (sym (k t (says_here w q x t (a.0) e))) ∙ s), backed_on w v q fs k (a.1) (b.1))

-- the end of a run, and a call that begins
on_calm : (f : Place) (d : Ending) (t : ℕ) → here (goes_on f d) ≡ Some t → here f ≡ Some t
on_calm (FirstSide o a) Fine t e = cc
on_calm (FirstSide o a) Fault t e = cc
on_calm (SecondSide o) d t e = cc
on_calm (ScopeBody o) d t e = cc
on_calm (AtOnce p u) d t e = cc
on_calm f d t e = e

resume_backed : (w : World) (fs : List Place) (d : Ending) → Backed w fs → Backed w ((after_resume fs d).top ∷ (after_resume fs d).below)
resume_backed w [] d b = (λ t e s. absurd (none_here Stopped t refl e), tt)
resume_backed w (f ∷ fs) d b = (λ t e s. b.0 t (on_calm f d t e) s, b.1)

pub closed_backed : (w : World) (t : ℕ) (k : JobKind) (d : Ending) (fs : List Place) → Backed w fs → Backed w ((after_close t k d fs).top ∷ (after_close t k d fs).below)
closed_backed w t Direct d fs b = resume_backed w fs d b
closed_backed w t (BodyOf c o) d fs b = resume_backed w fs d b
closed_backed w t (WholeOf c o) d fs b = resume_backed w fs d b
closed_backed w t (TokenOf i a) d fs b = resume_backed w fs d b
closed_backed w t _ d fs b = (λ u e s. absurd (cc), b)
