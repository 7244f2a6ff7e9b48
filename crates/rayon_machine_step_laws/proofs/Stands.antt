-- where each party can stand, over each act and move: nobody stands at a frame, and an outside caller only at places
-- that have an act of its own
--
-- Which frames fit below is shown too (`Goes`).
use Rattle.std.proofs.Common.{rules, arith, refl, ◌∙◌, sym, ap}
use Rattle.rayon_machine_sleep_laws.proofs.Words.{ℕ, Bool, true, false, not, ◌&&◌, ◌||◌, ◌+◌, nat_lt, if◌then◌else◌, Option, Some, None, ◌≡◌, IfSome, ⊤, List, [], ◌∷◌, Party, Worker, Caller, JobKind, Direct, BodyOf, WholeOf, TokenOf, Target, Termination, Answer, Latch, Terminate, OfCall, Rounds}
use Rattle.rayon_machine_sleep_laws.proofs.Words.{Failed, Announced, Plan, Detach, Here, Send, Fork, Feed, Open, Enter, Gather, Count, OfPool, OfScope, OfCast, Share, Feeding, Pieces, Wait, Settling, Taken, Plain, Token, Counted, Returned, Then, BeginFound, LeaveWait, Resume, Await, RunFirst}
use Rattle.rayon_machine_sleep_laws.proofs.Words.{Answers, Missing as NoResult, Ran, GiveBack, Called, Gathers, Place, ProbeWorking, PopInjected, AnnounceSelf, ProbeIdle, LeaveSearch, BeginTask, BeginHere, Run, RaiseCount, GrowCall, GrowScope, OpenSlot, CloseSlot, LookQueue, PushJob, AddToFifo}
use Rattle.rayon_machine_sleep_laws.proofs.Words.{TakeFromFifo, RaiseForAll, OpenForAll, PushForAll, CloseForAll, LowerForAll, GrowCast, DealPieces, TellNews, LockToWake, WakeWorker, UnlockWoken, LowerCount, StoreResult, SetLatch, LockToSettle, WakeSettled, UnlockSettled, SetLockLatch}
use Rattle.rayon_machine_sleep_laws.proofs.Words.{FirstSide, SecondSide, ScopeBody, AtOnce, Free, Stopped, Move, Stay, Into as Enter, StartRun, Back, HandBack, HandIn, Discard, Mark, HandAllBack, Seen, Done, Yes, Task, Wakes, PoolShape, act_of, next_of, after_news, after_wait, finish, walk}
use Rattle.rayon_machine_sleep_laws.proofs.Words.{settle, after_set, after_found, after_failure, taken_number, undo, withdraw, plan_book, plan_pool, count_book, begin_feed, after_slot, begin_cast, end_cast, ends_count, set_call, Shape, Stack, Counts, Part, effect, after_move}
use Rattle.rayon_machine_places.specs.declared.place.Place.TheVariants.{WaitForLock, TakeResult, StoreBody, StoreSlot, StorePiece}
use Rattle.rayon_machine_places.specs.declared.act.Seen.TheVariants.{Begun, Handed}
use Rattle.rayon_machine_laws.proofs.Frame.{if_some_all}
use Rattle.rayon_machine_laws.proofs.Posts.{Steers, is_base}
use Rattle.rayon_machine_laws.proofs.PostEvents.{is_based}

-- a call that an outside caller makes too: no join, and no spawn in order of a worker of the pool
abbrev pub is_common : Plan → Bool
is_common (Fork o a) = false
is_common (Feed f) = false
is_common n = true

-- what follows that is an outside caller's too
abbrev pub is_plain : Then → Bool
is_plain (BeginFound g t) = false
is_plain (LeaveWait g) = false
is_plain (RunFirst o a) = false
is_plain t = true

-- where an outside caller can stand, of so many; who is none of these has stopped
abbrev pub caller_stands : ℕ → ℕ → Place → Bool
caller_stands n c (BeginTask x) = true
caller_stands n c (BeginHere t) = true
caller_stands n c (Run t k) = true
caller_stands n c (RaiseCount m) = is_common m
caller_stands n c (GrowCall m) = is_common m
caller_stands n c (GrowScope o) = true
caller_stands n c (OpenSlot m) = is_common m
caller_stands n c (CloseSlot m) = is_common m
caller_stands n c (LookQueue m) = is_common m
caller_stands n c (PushJob m e) = is_common m
caller_stands n c (RaiseForAll b) = true
caller_stands n c (OpenForAll b) = true
caller_stands n c (PushForAll b) = true
caller_stands n c (CloseForAll b) = true
caller_stands n c (LowerForAll b) = true
caller_stands n c (GrowCast g) = true
caller_stands n c (DealPieces g) = true
caller_stands n c (TellNews m e) = is_common m
caller_stands n c (LockToWake k) = is_plain k.then
caller_stands n c (WakeWorker k) = is_plain k.then
caller_stands n c (UnlockWoken k) = is_plain k.then
caller_stands n c (WaitForLock o) = true
caller_stands n c (TakeResult o f) = true
caller_stands n c (LowerCount k s t) = is_plain t
caller_stands n c (StoreResult d o e) = true
caller_stands n c (StoreBody o e) = true
caller_stands n c (StoreSlot d o t e) = true
caller_stands n c (StorePiece d o t e) = true
caller_stands n c (SetLatch s) = is_plain s.then
caller_stands n c (LockToSettle s) = is_plain s.then
caller_stands n c (WakeSettled s) = is_plain s.then
caller_stands n c (UnlockSettled s) = is_plain s.then
caller_stands n c (SetLockLatch d t) = is_plain t
caller_stands n c Free = true
caller_stands n c Stopped = not (nat_lt c n)
caller_stands n c _ = false

-- a frame at which nobody stands: what is below a side, a body or a job that runs at once
abbrev pub is_aside : Place → Bool
is_aside (FirstSide o a) = true
is_aside (SecondSide o) = true
is_aside (ScopeBody o) = true
is_aside (AtOnce p t) = true
is_aside _ = false

-- where a party can stand
abbrev pub stands : ℕ → Party → Place → Bool
stands n (Worker p i) x = not (is_aside x)
stands n (Caller c) x = caller_stands n c x

-- the end of a job of this kind goes on in the frame below
abbrev pub goes_below : JobKind → Bool
goes_below Direct = true
goes_below (BodyOf c o) = true
goes_below (WholeOf c o) = true
goes_below (TokenOf i b) = true
goes_below _ = false

-- below this place there may be a frame at which nobody stands
abbrev pub is_loose : Place → Bool
is_loose (Run t k) = goes_below k
is_loose (BeginHere t) = true
is_loose _ = false

abbrev pub is_member_of : Party → Bool
is_member_of (Worker p i) = true
is_member_of (Caller c) = false

-- a frame of a party, below such a place
abbrev pub fits : ℕ → Party → Bool → Place → Bool
fits n q b (FirstSide o a) = b && is_member_of q
fits n q b (SecondSide o) = b && is_member_of q
fits n q b (ScopeBody o) = b
fits n q b (AtOnce p t) = b
fits n q b f = stands n q f

abbrev pub Frames : ℕ → Party → Bool → List Place → Type 0
Frames n q b [] = ⊤
Frames n q b (f ∷ fs) = (fits n q b f ≡ true) × Frames n q (is_loose f) fs

-- a whole stack
abbrev pub Sound : ℕ → Party → Stack → Type 0
Sound n q k = (stands n q k.top ≡ true) × Frames n q (is_loose k.top) k.below

-- a place below which there is a frame where a party stands does for one below which there need not be one
fits_more : (n : ℕ) (q : Party) (b : Bool) (f : Place) → fits n q false f ≡ true → fits n q b f ≡ true
fits_more n q b (FirstSide o a) e = cc
fits_more n q b (SecondSide o) e = cc
fits_more n q b (ScopeBody o) e = cc
fits_more n q b (AtOnce p t) e = cc
fits_more n q b _ e = e

pub frames_more : (n : ℕ) (q : Party) (b : Bool) (fs : List Place) → Frames n q false fs → Frames n q b fs
frames_more n q b [] a = tt
frames_more n q b (f ∷ fs) a = (fits_more n q b f (a.0), a.1)

pub fits_stands : (n : ℕ) (q : Party) (f : Place) → fits n q false f ≡ true → stands n q f ≡ true
fits_stands n q (FirstSide o a) e = cc
fits_stands n q (SecondSide o) e = cc
fits_stands n q (ScopeBody o) e = cc
fits_stands n q (AtOnce p t) e = cc
fits_stands n q _ e = e

-- where a move leads, from a place that is loose or is not
abbrev pub Goes : ℕ → Party → Bool → Move → Type 0
Goes n q b (Stay y) = (stands n q y ≡ true) × ((not b || is_loose y) ≡ true)
Goes n q b (HandIn y k) = (stands n q y ≡ true) × ((not b || is_loose y) ≡ true)
Goes n q b (Mark y c k) = (stands n q y ≡ true) × ((not b || is_loose y) ≡ true)
Goes n q b (Enter f y) = (stands n q y ≡ true) × (fits n q (is_loose y) f ≡ true) × (b ≡ false)
Goes n q b (StartRun f t) = (stands n q (Run t Direct) ≡ true) × (fits n q true f ≡ true) × (b ≡ false)
Goes n q b _ = b ≡ false

-- the frames below after a move to a place
pub stay_frames : (n : ℕ) (q : Party) (b z : Bool) (fs : List Place) → (not b || z) ≡ true → Frames n q b fs → Frames n q z fs
stay_frames n q true true fs e a = a
stay_frames n q true false fs e a = cc
stay_frames n q false z fs e a = frames_more n q z fs a

bare : (n : ℕ) (q : Party) (b : Bool) (fs : List Place) → b ≡ false → Frames n q b fs → Frames n q false fs
bare n q true fs e a = cc
bare n q false fs e a = a

back_sound : (n : ℕ) (q : Party) (x f : Place) (fs : List Place) → is_loose x ≡ false → Frames n q (is_loose x) (f ∷ fs) → Sound n q (record { top = f; below = fs })
back_sound n q x f fs e a = let z : Frames n q false (f ∷ fs) = bare n q (is_loose x) (f ∷ fs) e a in (fits_stands n q f (z.0), z.1)

pub no_bottom : (x : Place) {A : Type 0} → is_base x ≡ false → is_based x [] ≡ true → A
no_bottom x f t = absurd (let z : true ≡ false = sym t ∙ f in cc)

-- the stack after a move
pub move_sound : (n : ℕ) (q : Party) (x : Place) (g : Move) (fs : List Place) → Steers x g → is_based x fs ≡ true → Goes n q (is_loose x) g → Frames n q (is_loose x) fs → Sound n q (after_move g fs)
move_sound n q x (Stay y) fs s b e a = (e.0, stay_frames n q (is_loose x) (is_loose y) fs (e.1) a)
move_sound n q x (HandIn y k) fs s b e a = (e.0, stay_frames n q (is_loose x) (is_loose y) fs (e.1) a)
move_sound n q x (Mark y c k) fs s b e a = (e.0, stay_frames n q (is_loose x) (is_loose y) fs (e.1) a)
move_sound n q x (Enter f y) fs s b e a = (e.0, (e.1, frames_more n q (is_loose f) fs (bare n q (is_loose x) fs (e.2) a)))
move_sound n q x (StartRun f t) fs s b e a = (e.0, (e.1, frames_more n q (is_loose f) fs (bare n q (is_loose x) fs (e.2) a)))
move_sound n q x Back [] s b e a = no_bottom x (s.1) b
move_sound n q x (HandBack m) [] s b e a = no_bottom x (s.1) b
move_sound n q x (Discard k) [] s b e a = no_bottom x (s.1) b
move_sound n q x (HandAllBack c) [] s b e a = no_bottom x (s.1) b
move_sound n q x Back (f ∷ fs) s b e a = back_sound n q x f fs e a
move_sound n q x (HandBack m) (f ∷ fs) s b e a = back_sound n q x f fs e a
move_sound n q x (Discard k) (f ∷ fs) s b e a = back_sound n q x f fs e a
move_sound n q x (HandAllBack c) (f ∷ fs) s b e a = back_sound n q x f fs e a

-- what follows
abbrev pub then_stands : Party → Then → Bool
then_stands (Worker p i) t = true
then_stands (Caller c) t = is_plain t

abbrev pub plan_stands : Party → Plan → Bool
plan_stands (Worker p i) m = true
plan_stands (Caller c) m = is_common m

finish_goes : (n : ℕ) (q : Party) (t : Then) → then_stands q t ≡ true → Goes n q false (finish q t)
finish_goes n (Worker p i) (BeginFound g u) e = (refl, refl, refl)
finish_goes n (Worker p i) (LeaveWait Termination) e = (refl, refl)
finish_goes n (Worker p i) (LeaveWait (Answer o f)) e = (refl, refl)
finish_goes n (Worker p i) (RunFirst o a) e = (refl, refl, refl)
finish_goes n (Caller c) (BeginFound g u) e = cc
finish_goes n (Caller c) (LeaveWait g) e = cc
finish_goes n (Caller c) (RunFirst o a) e = cc
finish_goes n (Worker p i) (Await o) e = (refl, refl)
finish_goes n (Caller c) (Await o) e = (refl, refl)
finish_goes n (Worker p i) (Gathers o) e = (refl, refl)
finish_goes n (Caller c) (Gathers o) e = (refl, refl)
finish_goes n q _ e = refl

goes_if : (n : ℕ) (q : Party) (z : Bool) (y : Place) (g : Move) → stands n q y ≡ true → Goes n q false g → Goes n q false (if z then Stay y else g)
goes_if n q true y g s k = (s, refl)
goes_if n q false y g s k = k

walk_goes : (n : ℕ) (h : PoolShape) (q : Party) (p k i : ℕ) (t : Then) → then_stands q t ≡ true → Goes n q false (walk h q p k i t)
walk_goes n h q p k i t e = goes_if n q (nat_lt 0 k && nat_lt i h.workers) (LockToWake (record { pool = p; owed = k; worker = i; then = t })) (finish q t) (at q e) (finish_goes n q t e)
  where
    at : (q : Party) → then_stands q t ≡ true → stands n q (LockToWake (record { pool = p; owed = k; worker = i; then = t })) ≡ true
    at (Worker a b) e = refl
    at (Caller c) e = e

settle_goes : (n : ℕ) (h : PoolShape) (q : Party) (p i : ℕ) (t : Then) → then_stands q t ≡ true → Goes n q false (settle h q p i t)
settle_goes n h q p i t e = goes_if n q (nat_lt i h.workers) (SetLatch (record { latch = Terminate; pool = p; worker = i; then = t })) (finish q t) (at q e) (finish_goes n q t e)
  where
    at : (q : Party) → then_stands q t ≡ true → stands n q (SetLatch (record { latch = Terminate; pool = p; worker = i; then = t })) ≡ true
    at (Worker a b) e = refl
    at (Caller c) e = e

settled_goes : (n : ℕ) (h : PoolShape) (q : Party) (s : Settling) (l : Latch) → then_stands q s.then ≡ true → Goes n q false (after_set h q s l)
settled_goes n h q s Terminate e = settle_goes n h q s.pool (s.worker + 1) s.then e
settled_goes n h q s (OfCall c) e = finish_goes n q s.then e

call_goes : (n : ℕ) (q : Party) (c : ℕ) (o : Party) (t : Then) → then_stands q t ≡ true → Goes n q false (Stay (set_call c o t))
call_goes n (Worker a b) c (Worker p i) t e = (refl, refl)
call_goes n (Worker a b) c (Caller d) t e = (refl, refl)
call_goes n (Caller a) c (Worker p i) t e = (e, refl)
call_goes n (Caller a) c (Caller d) t e = (e, refl)

-- what stands at a place says what follows, and which call it is
then_at : (n : ℕ) (q : Party) (x : Place) (t : Then) → ((c : ℕ) → caller_stands n c x ≡ is_plain t) → stands n q x ≡ true → then_stands q t ≡ true
then_at n (Worker p i) x t f e = refl
then_at n (Caller c) x t f e = sym (f c) ∙ e

pub plan_at : (n : ℕ) (q : Party) (x : Place) (m : Plan) → ((c : ℕ) → caller_stands n c x ≡ is_common m) → stands n q x ≡ true → plan_stands q m ≡ true
plan_at n (Worker p i) x m f e = refl
plan_at n (Caller c) x m f e = sym (f c) ∙ e

at_plan : (n : ℕ) (q : Party) (y : Place) (m : Plan) → is_aside y ≡ false → ((c : ℕ) → caller_stands n c y ≡ is_common m) → plan_stands q m ≡ true → stands n q y ≡ true
at_plan n (Worker p i) y m a f e = ap not a
at_plan n (Caller c) y m a f e = f c ∙ e

news_plain : (q : Party) (m : Plan) → plan_stands q m ≡ true → then_stands q (after_news m) ≡ true
news_plain (Worker p i) m e = refl
news_plain (Caller c) (Fork o a) e = cc
news_plain (Caller c) (Feed f) e = cc
news_plain (Caller c) _ e = refl

pub undo_stands : (n : ℕ) (q : Party) (m : Plan) → stands n q (undo m) ≡ true
undo_stands n (Worker p i) m = refl
undo_stands n (Caller c) m = refl

pub withdraw_stands : (n : ℕ) (q : Party) (o : Option ℕ) (m : Plan) → plan_stands q m ≡ true → Goes n q false (Stay (withdraw o m))
withdraw_stands n q None m e = (undo_stands n q m, refl)
withdraw_stands n q (Some c) m e = (at_plan n q (CloseSlot m) m refl (λ c. refl) e, refl)

abbrev At : ℕ → PoolShape → Party → Place → Type 0
At n g q x = stands n q x ≡ true → (e : Seen) → Goes n q false (next_of g q x e)

set_goes : (n : ℕ) (g : PoolShape) (q : Party) (s : Settling) → At n g q (SetLatch s)
set_goes n g (Worker p i) s z Yes = (refl, refl)
set_goes n g (Caller c) s z Yes = (z, refl)
set_goes n g q s z _ = settled_goes n g q s s.latch (then_at n q (SetLatch s) s.then (λ c. refl) z)

lower_goes : (n : ℕ) (g : PoolShape) (q : Party) (k : Count) (s : Share) (t : Then) → At n g q (LowerCount k s t)
lower_goes n g q (OfPool p) s t z Yes = settle_goes n g q p 0 t (then_at n q (LowerCount (OfPool p) s t) t (λ c. refl) z)
lower_goes n g q (OfScope c o) s t z Yes = call_goes n q c o t (then_at n q (LowerCount (OfScope c o) s t) t (λ c. refl) z)
lower_goes n g q (OfCast c o) s t z Yes = call_goes n q c o t (then_at n q (LowerCount (OfCast c o) s t) t (λ c. refl) z)
lower_goes n g q k s t z _ = finish_goes n q t (then_at n q (LowerCount k s t) t (λ c. refl) z)

tell_goes : (n : ℕ) (g : PoolShape) (q : Party) (m : Plan) (v : Bool) → At n g q (TellNews m v)
tell_goes n g q m v z (Wakes k) = walk_goes n g q (plan_pool m) k 0 (after_news m) (news_plain q m (plan_at n q (TellNews m v) m (λ c. refl) z))
tell_goes n g q m v z _ = (z, refl)

leave_goes : (n : ℕ) (g : PoolShape) (p i : ℕ) (k : Wait) → At n g (Worker p i) (LeaveSearch k)
leave_goes n g p i k z (Wakes m) = walk_goes n g (Worker p i) p m 0 (after_found k.target k.found) refl
leave_goes n g p i k z _ = (refl, refl)

probe_goes : (n : ℕ) (g : PoolShape) (p i : ℕ) (k : Wait) → At n g (Worker p i) (ProbeWorking k)
probe_goes n g p i k z Yes = by k.target
  where
    by : (t : Target) → Goes n (Worker p i) false (Stay (after_wait t))
    by Termination = (refl, refl)
    by (Answer o f) = (refl, refl)
probe_goes n g p i k z _ = (refl, refl)

inject_goes : (n : ℕ) (g : PoolShape) (p i : ℕ) (k : Wait) → At n g (Worker p i) (PopInjected k)
inject_goes n g p i k z (Task t) = (refl, refl)
inject_goes n g p i k z _ = by k.rounds
  where
    if_else : (b : Bool) (m : ℕ) → Goes n (Worker p i) false (Stay (if b then ProbeIdle (record k { rounds = Failed (m + 1) }) else AnnounceSelf k))
    if_else true m = (refl, refl)
    if_else false m = (refl, refl)

    by : (r : Rounds) → Goes n (Worker p i) false (Stay (after_failure g k r))
    by (Failed m) = if_else (nat_lt m g.limit) m
    by Announced = (refl, refl)

feed_goes : (n p i : ℕ) (f : Feeding) (k : Count) → Goes n (Worker p i) false (Stay (begin_feed k f))
feed_goes n p i f (OfPool r) = (refl, refl)
feed_goes n p i f _ = (refl, refl)

raise_goes : (n : ℕ) (g : PoolShape) (q : Party) (m : Plan) → At n g q (RaiseCount m)
raise_goes n g (Worker p i) (Detach r t) z Done = (refl, refl)
raise_goes n g (Worker p i) (Here r t) z Done = (refl, refl, refl)
raise_goes n g (Worker p i) (Send o) z Done = (refl, refl)
raise_goes n g (Worker p i) (Fork o a) z Done = (refl, refl)
raise_goes n g (Worker p i) (Feed f) z Done = feed_goes n p i f f.count
raise_goes n g (Worker p i) (Gather b) z Done = (refl, refl)
raise_goes n g (Worker p i) (Open o) z Done = (refl, refl)
raise_goes n g (Worker p i) (Enter x) z Done = (refl, refl)
raise_goes n g (Caller c) (Detach r t) z Done = (refl, refl)
raise_goes n g (Caller c) (Here r t) z Done = (refl, refl, refl)
raise_goes n g (Caller c) (Send o) z Done = (refl, refl)
raise_goes n g (Caller c) (Fork o a) z Done = cc
raise_goes n g (Caller c) (Feed f) z Done = cc
raise_goes n g (Caller c) (Gather b) z Done = (refl, refl)
raise_goes n g (Caller c) (Open o) z Done = (refl, refl)
raise_goes n g (Caller c) (Enter x) z Done = (refl, refl)
raise_goes n g q m z _ = refl

push_goes : (n : ℕ) (g : PoolShape) (q : Party) (m : Plan) (v : Bool) → At n g q (PushJob m v)
push_goes n g q m v z Done = (at_plan n q (TellNews m v) m refl (λ c. refl) (plan_at n q (PushJob m v) m (λ c. refl) z), refl)
push_goes n g q m v z _ = withdraw_stands n q (plan_book m) m (plan_at n q (PushJob m v) m (λ c. refl) z)

grow_goes : (n : ℕ) (g : PoolShape) (q : Party) (m : Plan) → At n g q (GrowCall m)
grow_goes n g q m z Done = (at_plan n q (LookQueue m) m refl (λ c. refl) (plan_at n q (GrowCall m) m (λ c. refl) z), refl)
grow_goes n g q m z _ = (undo_stands n q m, refl)

look_goes : (n : ℕ) (g : PoolShape) (q : Party) (m : Plan) → At n g q (LookQueue m)
look_goes n g q m z Yes = (at_plan n q (PushJob m true) m refl (λ c. refl) (plan_at n q (LookQueue m) m (λ c. refl) z), refl)
look_goes n g q m z _ = (at_plan n q (PushJob m false) m refl (λ c. refl) (plan_at n q (LookQueue m) m (λ c. refl) z), refl)

slot_goes : (n : ℕ) (q : Party) (m : Plan) → plan_stands q m ≡ true → Goes n q false (Stay (after_slot m))
slot_goes n (Worker p i) (Feed f) e = (refl, refl)
slot_goes n (Caller c) (Feed f) e = cc
slot_goes n (Caller c) (Fork o a) e = cc
slot_goes n _ _ e = (refl, refl)

open_goes : (n : ℕ) (g : PoolShape) (q : Party) (m : Plan) → At n g q (OpenSlot m)
open_goes n g q m z Done = slot_goes n q m (plan_at n q (OpenSlot m) m (λ c. refl) z)
open_goes n g q m z _ = (undo_stands n q m, refl)

add_goes : (n : ℕ) (g : PoolShape) (p i : ℕ) (f : Feeding) → At n g (Worker p i) (AddToFifo f)
add_goes n g p i f z Done = (refl, refl)
add_goes n g p i f z _ = withdraw_stands n (Worker p i) (count_book f.count) (Feed f) refl

retake_goes : (n : ℕ) (g : PoolShape) (p i : ℕ) (f : Feeding) → At n g (Worker p i) (TakeFromFifo f)
retake_goes n g p i f z (Task x) = withdraw_stands n (Worker p i) (count_book f.count) (Feed (record f { job = taken_number x })) refl
retake_goes n g p i f z _ = refl

raise_all_goes : (n : ℕ) (g : PoolShape) (q : Party) (c : Pieces) → At n g q (RaiseForAll c)
raise_all_goes n g q c z Done = by q c.count
  where
    by : (q : Party) (k : Count) → Goes n q false (Mark (begin_cast k c) c Counted)
    by (Worker p i) (OfPool r) = (refl, refl)
    by (Caller a) (OfPool r) = (refl, refl)
    by (Caller a) (OfScope d o) = (refl, refl)
    by (Caller a) (OfCast d o) = (refl, refl)
    by (Worker p i) _ = (refl, refl)
raise_all_goes n g q c z _ = refl

pub end_cast_goes : (n : ℕ) (q : Party) (c : Pieces) (k : Count) → Goes n q false (Stay (end_cast k c))
end_cast_goes n (Worker p i) c (OfPool r) = (refl, refl)
end_cast_goes n (Caller a) c (OfPool r) = (refl, refl)
end_cast_goes n (Caller a) c (OfScope d o) = (refl, refl)
end_cast_goes n (Caller a) c (OfCast d o) = (refl, refl)
end_cast_goes n (Worker p i) c _ = (refl, refl)

push_all_goes : (n : ℕ) (g : PoolShape) (q : Party) (c : Pieces) → At n g q (PushForAll c)
push_all_goes n g (Worker p i) c z Done = (refl, refl)
push_all_goes n g (Caller a) c z Done = (refl, refl)
push_all_goes n g q c z _ = end_cast_goes n q c c.count

lower_all_goes : (n : ℕ) (g : PoolShape) (q : Party) (c : Pieces) → At n g q (LowerForAll c)
lower_all_goes n g q c z Yes = by q c.count
  where
    call : (q : Party) (d : ℕ) (o : Party) → stands n q (set_call d o Resume) ≡ true
    call (Worker p i) d (Worker r j) = refl
    call (Worker p i) d (Caller b) = refl
    call (Caller a) d (Worker r j) = refl
    call (Caller a) d (Caller b) = refl

    by : (q : Party) (k : Count) → Goes n q false (Mark (ends_count k) c Returned)
    by (Worker p i) (OfPool r) = (refl, refl)
    by (Caller a) (OfPool r) = (refl, refl)
    by q (OfScope d o) = (call q d o, refl)
    by q (OfCast d o) = (call q d o, refl)
lower_all_goes n g q c z _ = refl

begin_goes : (n : ℕ) (g : PoolShape) (q : Party) (x : Taken) → At n g q (BeginTask x)
begin_goes n g (Worker p i) (Plain t) z (Begun d) = (refl, refl)
begin_goes n g (Worker p i) (Plain t) z _ = (refl, refl)
begin_goes n g (Worker p i) (Token k j b) z (Handed t d) = (refl, refl)
begin_goes n g (Caller c) (Plain t) z (Begun d) = (refl, refl)
begin_goes n g (Caller c) (Plain t) z _ = (refl, refl)
begin_goes n g (Caller c) (Token k j b) z (Handed t d) = (refl, refl)
begin_goes n g q (Token k j b) z _ = refl

-- the place after an act
abbrev Led : ℕ → Shape → PoolShape → Party → Counts → Part → Place → Type 0
Led n h g q c m x = IfSome (effect (act_of q x) h q c m) (λ r. Goes n q (is_loose x) (next_of g q x (r.0)))

every : (n : ℕ) (h : Shape) (g : PoolShape) (q : Party) (c : Counts) (m : Part) (x : Place) → ((e : Seen) → Goes n q (is_loose x) (next_of g q x e)) → Led n h g q c m x
every n h g q c m x f = if_some_all {A = Seen × Part} (λ r. Goes n q (is_loose x) (next_of g q x (r.0))) (λ r. f (r.0)) (effect (act_of q x) h q c m)

pub goes : (n : ℕ) (h : Shape) (g : PoolShape) (q : Party) (c : Counts) (m : Part) (x : Place) → stands n q x ≡ true → Led n h g q c m x
goes n h g (Worker i j) c m (ProbeWorking k) z = every n h g (Worker i j) c m (ProbeWorking k) (probe_goes n g i j k z)
goes n h g (Worker i j) c m (PopInjected k) z = every n h g (Worker i j) c m (PopInjected k) (inject_goes n g i j k z)
goes n h g (Worker i j) c m (LeaveSearch k) z = every n h g (Worker i j) c m (LeaveSearch k) (leave_goes n g i j k z)
goes n h g (Worker i j) c m (AddToFifo f) z = every n h g (Worker i j) c m (AddToFifo f) (add_goes n g i j f z)
goes n h g (Worker i j) c m (TakeFromFifo f) z = every n h g (Worker i j) c m (TakeFromFifo f) (retake_goes n g i j f z)
goes n h g q c m (TellNews d v) z = every n h g q c m (TellNews d v) (tell_goes n g q d v z)
goes n h g q c m (RaiseCount d) z = every n h g q c m (RaiseCount d) (raise_goes n g q d z)
goes n h g q c m (StoreResult d o e) z = every n h g q c m (StoreResult d o e) (λ s. stored q o)
  where
    stored : (q o : Party) → Goes n q false (Stay (set_call d o Resume))
    stored (Worker p i) o = call_goes n (Worker p i) d o Resume refl
    stored (Caller a) o = call_goes n (Caller a) d o Resume refl
goes n h g q c m (LowerCount p s t) z = every n h g q c m (LowerCount p s t) (lower_goes n g q p s t z)
goes n h g q c m (PushJob d v) z = every n h g q c m (PushJob d v) (push_goes n g q d v z)
goes n h g q c m (GrowCall d) z = every n h g q c m (GrowCall d) (grow_goes n g q d z)
goes n h g q c m (LookQueue d) z = every n h g q c m (LookQueue d) (look_goes n g q d z)
goes n h g q c m (OpenSlot d) z = every n h g q c m (OpenSlot d) (open_goes n g q d z)
goes n h g q c m (CloseSlot d) z = every n h g q c m (CloseSlot d) (λ e. (undo_stands n q d, refl))
goes n h g q c m (RaiseForAll b) z = every n h g q c m (RaiseForAll b) (raise_all_goes n g q b z)
goes n h g q c m (PushForAll b) z = every n h g q c m (PushForAll b) (push_all_goes n g q b z)
goes n h g q c m (LowerForAll b) z = every n h g q c m (LowerForAll b) (lower_all_goes n g q b z)
goes n h g q c m (BeginTask x) z = every n h g q c m (BeginTask x) (begin_goes n g q x z)
goes n h g q c m (SetLockLatch d t) z = every n h g q c m (SetLockLatch d t) (λ e. finish_goes n q t (then_at n q (SetLockLatch d t) t (λ c. refl) z))
goes n h g q c m (UnlockWoken k) z = every n h g q c m (UnlockWoken k) (λ e. walk_goes n g q k.pool k.owed (k.worker + 1) k.then (then_at n q (UnlockWoken k) k.then (λ c. refl) z))
goes n h g q c m (SetLatch s) z = every n h g q c m (SetLatch s) (set_goes n g q s z)
goes n h g q c m (UnlockSettled s) z = every n h g q c m (UnlockSettled s) (λ e. settled_goes n g q s s.latch (then_at n q (UnlockSettled s) s.then (λ c. refl) z))
goes n h g (Worker i j) c m _ z = search (rules, arith)
goes n h g (Caller a) c m _ z = search (rules, arith)
