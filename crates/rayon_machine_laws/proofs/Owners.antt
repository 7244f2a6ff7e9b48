-- whose call is whose: what a place names of calls, and what each act and move leaves of it
use Rattle.rayon_machine_places.specs.declared.place.Gathering.{Gathering}
use Rattle.rayon_machine_places.specs.declared.place.Pieces.{Pieces}
use Rattle.rayon_machine_places.specs.declared.place.OpenCall.{OpenCall}
use Rattle.rayon_machine_places.specs.declared.place.Count.TheVariants.{OfPool, OfScope, OfCast}
use Rattle.rayon_machine_places.specs.declared.place.Count.{Count}
use Rattle.std.proofs.Common.{rules, arith, refl, sym, ◌∙◌, subst}
use Rattle.std.specs.Prelude.{ℕ, Bool, true, false, ◌&&◌, ◌+◌, nat_lt, if◌then◌else◌, Option, Some, None, ◌≡◌, IfSome, ⊤}
use Rattle.rayon_machine_places.specs.declared.place.Party.{Party}
use Rattle.rayon_machine_places.specs.declared.place.Party.TheVariants.{Worker, Caller}
use Rattle.rayon_machine_places.specs.declared.place.Ending.{Ending}
use Rattle.rayon_machine_places.specs.declared.place.JobKind.{JobKind}
use Rattle.rayon_machine_places.specs.declared.place.JobKind.TheVariants.{Stored, Direct, Scoped, BodyOf, PieceOf, WholeOf}
use Rattle.rayon_machine_places.specs.declared.place.Target.{Target}
use Rattle.rayon_machine_places.specs.declared.place.Target.TheVariants.{Termination, Answer}
use Rattle.rayon_machine_places.specs.declared.place.Latch.{Latch}
use Rattle.rayon_machine_places.specs.declared.place.Latch.TheVariants.{Terminate, OfCall}
use Rattle.rayon_machine_places.specs.declared.place.Rounds.{Rounds}
use Rattle.rayon_machine_places.specs.declared.place.Rounds.TheVariants.{Failed, Announced}
use Rattle.rayon_machine_places.specs.declared.place.Plan.{Plan}
use Rattle.rayon_machine_places.specs.declared.place.Plan.TheVariants.{Detach, Here, Send, Fork, Feed, Open, Enter, Gather}
use Rattle.rayon_machine_places.specs.declared.place.Share.{Share}
use Rattle.rayon_machine_places.specs.declared.place.Then.{Then}
use Rattle.rayon_machine_places.specs.declared.place.Then.TheVariants.{BeginFound, LeaveWait, Resume, Await, RunFirst, Answers, Missing, Ran, GiveBack, Called, Gathers}
use Rattle.rayon_machine_places.specs.declared.place.Feeding.{Feeding}
use Rattle.rayon_machine_places.specs.declared.place.Taken.{Taken}
use Rattle.rayon_machine_places.specs.declared.place.Place.{Place}
use Rattle.rayon_machine_places.specs.declared.place.Place.TheVariants.{ProbeWorking, PopWorking, TakeCastWorking, BecomeInactive, ProbeIdle, PopIdle, TakeCastIdle, PickVictim, StealFrom, PopInjected, AnnounceSelf, GetSleepy, LockOwn, FallAsleep, LoadCounters, AddSleeping}
use Rattle.rayon_machine_places.specs.declared.place.Place.TheVariants.{LookAtCast, LookAtInjector, BlockSelf, RelockOwn, UndoSleeping, WakeUp, UnlockOwn, LeaveSearch, JoinProbe, JoinPop, JoinTakeCast, BeginTask, Run, RaiseCount, GrowCall, LookQueue, PushJob, TellNews}
use Rattle.rayon_machine_places.specs.declared.place.Place.TheVariants.{LockToWake, WakeWorker, UnlockWoken, WaitForLock, TakeResult, LowerCount, StoreResult, SetLatch, LockToSettle, WakeSettled, UnlockSettled, SetLockLatch, FirstSide, SecondSide, AddToFifo, TakeFromFifo}
use Rattle.rayon_machine_places.specs.declared.place.Place.TheVariants.{GrowScope, OpenSlot, CloseSlot, StoreBody, StoreSlot, ScopeBody, OpenForAll, CloseForAll, GrowCast, DealPieces, StorePiece, LookForToken, PushToken, RaiseForAll, PushForAll, LowerForAll}
use Rattle.rayon_machine_places.specs.declared.place.Move.{Move}
use Rattle.rayon_machine_places.specs.declared.place.Move.TheVariants.{Stay, Enter, StartRun, Back, HandBack, Discard, HandIn, Mark, HandAllBack}
use Rattle.rayon_machine_places.specs.declared.act.Seen.{Seen}
use Rattle.rayon_machine_places.specs.declared.act.Seen.TheVariants.{Done, Yes, Task, Wakes, Opened}
use Rattle.rayon_machine_places.specs.declared.shape.PoolShape.{PoolShape}
use Rattle.rayon_machine_places.specs.declared.place.Wait.{Wait}
use Rattle.rayon_machine_places.specs.declared.place.Settling.{Settling}
use Rattle.rayon_machine_places.specs.Places.{own_pool, plan_call, after_wait, finish, walk, settle, after_set, after_found, undo, act_of, after_failure, next_of, plan_count, set_call, begin_feed, withdraw, plan_book, count_book, begin_cast, end_cast, ends_count, after_slot, taken_number}
use Rattle.rayon_machine_runs.specs.World.{Shape, Part, effect}
use Rattle.rayon_machine_places.specs.Sleepers.{Counts}
use Rattle.rayon_machine_laws.proofs.Frame.{if_some_all}

-- the number of the call that a wait, a plan, or what follows belongs to
abbrev pub target_number : Target → Option ℕ
target_number Termination = None
target_number (Answer o f) = Some o.number

abbrev pub plan_number : Plan → Option ℕ
plan_number (Detach p t) = None
plan_number (Here p t) = None
plan_number (Feed f) = None
plan_number (Open o) = Some o.number
plan_number (Enter e) = None
plan_number (Gather g) = Some g.call.number
plan_number (Send o) = Some o.number
plan_number (Fork o a) = Some o.number

abbrev pub then_number : Then → Option ℕ
then_number (BeginFound g t) = target_number g
then_number (LeaveWait g) = target_number g
then_number Resume = None
then_number Called = None
then_number (Await o) = Some o.number
then_number (Gathers o) = Some o.number
then_number (RunFirst o a) = Some o.number
then_number (Answers o f e) = Some o.number
then_number (Missing o f) = Some o.number
then_number (Ran t e) = None
then_number (GiveBack n) = plan_number n

-- the call of the party itself that a place belongs to
abbrev pub own_call : Place → Option ℕ
own_call (ProbeWorking k) = target_number k.target
own_call (PopWorking k) = target_number k.target
own_call (TakeCastWorking k) = target_number k.target
own_call (BecomeInactive k) = target_number k.target
own_call (ProbeIdle k) = target_number k.target
own_call (PopIdle k) = target_number k.target
own_call (TakeCastIdle k) = target_number k.target
own_call (PickVictim k) = target_number k.target
own_call (StealFrom k n) = target_number k.target
own_call (PopInjected k) = target_number k.target
own_call (AnnounceSelf k) = target_number k.target
own_call (GetSleepy k) = target_number k.target
own_call (LockOwn k) = target_number k.target
own_call (FallAsleep k) = target_number k.target
own_call (LoadCounters k) = target_number k.target
own_call (AddSleeping k) = target_number k.target
own_call (LookAtCast k) = target_number k.target
own_call (LookAtInjector k) = target_number k.target
own_call (BlockSelf k) = target_number k.target
own_call (RelockOwn k) = target_number k.target
own_call (UndoSleeping k) = target_number k.target
own_call (WakeUp k) = target_number k.target
own_call (UnlockOwn k) = target_number k.target
own_call (LeaveSearch k) = target_number k.target
own_call (JoinProbe o) = Some o.number
own_call (JoinPop o) = Some o.number
own_call (JoinTakeCast o) = Some o.number
own_call (RaiseCount n) = plan_number n
own_call (GrowCall n) = Some (plan_call n)
own_call (GrowScope o) = Some o.number
own_call (OpenSlot n) = plan_number n
own_call (CloseSlot n) = plan_number n
own_call (GrowCast g) = Some g.call.number
own_call (DealPieces g) = Some g.call.number
own_call (ScopeBody o) = Some o.number
own_call (StoreBody o e) = Some o.number
own_call (LookQueue n) = plan_number n
own_call (PushJob n e) = plan_number n
own_call (TellNews n e) = plan_number n
own_call (LockToWake k) = then_number k.then
own_call (WakeWorker k) = then_number k.then
own_call (UnlockWoken k) = then_number k.then
own_call (WaitForLock o) = Some o.number
own_call (TakeResult o f) = Some o.number
own_call (LowerCount p s t) = then_number t
own_call (SetLatch s) = then_number s.then
own_call (LockToSettle s) = then_number s.then
own_call (WakeSettled s) = then_number s.then
own_call (UnlockSettled s) = then_number s.then
own_call (SetLockLatch c n) = then_number n
own_call (FirstSide o a) = Some o.number
own_call (SecondSide o) = Some o.number
own_call _ = None

-- a party as the setter of its latch knows it: any outside caller alike
abbrev pub shown : Party → Party
shown (Worker p i) = Worker p i
shown (Caller n) = Caller 0

-- the call whose latch the end of a run sets, and for whom
abbrev pub kind_call : JobKind → Option (ℕ × Party)
kind_call (Stored c o) = Some (c, shown o)
kind_call (Scoped c o) = Some (c, shown o)
kind_call (BodyOf c o) = Some (c, shown o)
kind_call (PieceOf c o) = Some (c, shown o)
kind_call (WholeOf c o) = Some (c, shown o)
kind_call _ = None

abbrev pub latch_call : ℕ → ℕ → Latch → Option (ℕ × Party)
latch_call p i Terminate = None
latch_call p i (OfCall c) = Some (c, Worker p i)

-- the call whose latch is set by who lowers a count to 0, and for whom
abbrev pub count_sets : Count → Option (ℕ × Party)
count_sets (OfPool p) = None
count_sets (OfScope c o) = Some (c, shown o)
count_sets (OfCast c o) = Some (c, shown o)

abbrev pub sets_for : Place → Option (ℕ × Party)
sets_for (Run t k) = kind_call k
sets_for (RaiseCount n) = count_sets (plan_count n)
sets_for (GrowCall n) = count_sets (plan_count n)
sets_for (LookQueue n) = count_sets (plan_count n)
sets_for (PushJob n e) = count_sets (plan_count n)
sets_for (OpenSlot n) = count_sets (plan_count n)
sets_for (CloseSlot n) = count_sets (plan_count n)
sets_for (AddToFifo f) = count_sets f.count
sets_for (LookForToken f) = count_sets f.count
sets_for (PushToken f e) = count_sets f.count
sets_for (TakeFromFifo f) = count_sets f.count
sets_for (RaiseForAll c) = count_sets c.count
sets_for (OpenForAll c) = count_sets c.count
sets_for (PushForAll c) = count_sets c.count
sets_for (CloseForAll c) = count_sets c.count
sets_for (LowerForAll c) = count_sets c.count
sets_for (LowerCount k s t) = count_sets k
sets_for (StoreSlot c o t e) = Some (c, shown o)
sets_for (StorePiece c o t e) = Some (c, shown o)
sets_for (StoreResult c o e) = Some (c, shown o)
sets_for (SetLatch s) = latch_call s.pool s.worker s.latch
sets_for (LockToSettle s) = latch_call s.pool s.worker s.latch
sets_for (WakeSettled s) = latch_call s.pool s.worker s.latch
sets_for (UnlockSettled s) = latch_call s.pool s.worker s.latch
sets_for (SetLockLatch c n) = Some (c, Caller 0)
sets_for _ = None

-- what a relation on places says of a move, of the frame that it leaves too
abbrev pub Both : (Place → Type 0) → Move → Type 0
Both R (Stay y) = R y
Both R (HandIn y token) = R y
Both R (Mark y b9 m9) = R y
Both R (Enter f y) = R f × R y
Both R (StartRun f t) = R f × R (Run t Direct)
Both R Back = ⊤
Both R (HandBack n) = ⊤
Both R (Discard n) = ⊤
Both R (HandAllBack b9) = ⊤

-- a place names no call but those that another names
abbrev pub OwnFrom : Option ℕ → Place → Type 0
OwnFrom o y = (c : ℕ) → own_call y ≡ Some c → o ≡ Some c

abbrev pub SetFrom : Option (ℕ × Party) → Place → Type 0
SetFrom o y = (c : ℕ) (p : Party) → sets_for y ≡ Some (c, p) → o ≡ Some (c, p)

abbrev pub NamesFrom : Place → Place → Type 0
NamesFrom x y = OwnFrom (own_call x) y × SetFrom (sets_for x) y

left_own : (g : Target) → OwnFrom (target_number g) (after_wait g)
left_own Termination c e = cc
left_own (Answer o f) c e = e

left_set : (o : Option (ℕ × Party)) (g : Target) → SetFrom o (after_wait g)
left_set o Termination c p e = absurd (cc)
left_set o (Answer n f) c p e = absurd (cc)

finish_names : (o : Option (ℕ × Party)) (q : Party) (t : Then) → Both (λ y. OwnFrom (then_number t) y × SetFrom o y) (finish q t)
finish_names o q (BeginFound g t) = ((λ c e. e, λ c p e. absurd (cc)), (λ c e. absurd (cc), λ c p e. absurd (cc)))
finish_names o q (LeaveWait g) = (left_own g, left_set o g)
finish_names o (Worker i j) (Await n) = (λ c e. e, λ c p e. absurd (cc))
finish_names o (Caller m) (Await n) = (λ c e. e, λ c p e. absurd (cc))
finish_names o (Worker i j) (Gathers n) = (λ c e. e, λ c p e. absurd (cc))
finish_names o (Caller m) (Gathers n) = (λ c e. e, λ c p e. absurd (cc))
finish_names o q (RunFirst n a) = ((λ c e. e, λ c p e. absurd (cc)), (λ c e. absurd (cc), λ c p e. absurd (cc)))
finish_names o q Resume = tt
finish_names o q Called = tt
finish_names o q (Answers n f e) = tt
finish_names o q (Missing n f) = tt
finish_names o q (Ran t e) = tt
finish_names o q (GiveBack n) = tt

if_names : (R : Place → Type 0) (b : Bool) (y : Place) (g : Move) → R y → Both R g → Both R (if b then Stay y else g)
if_names R true y g a t = a
if_names R false y g a t = t

walk_names : (o : Option (ℕ × Party)) (h : PoolShape) (q : Party) (p n i : ℕ) (t : Then) → Both (λ y. OwnFrom (then_number t) y × SetFrom o y) (walk h q p n i t)
walk_names o h q p n i t = if_names (λ y. OwnFrom (then_number t) y × SetFrom o y) (nat_lt 0 n && nat_lt i h.workers) (LockToWake (record { pool = p; owed = n; worker = i; then = t })) (finish q t) (λ c e. e, λ c p e. absurd (cc)) (finish_names o q t)

settle_names : (o : Option (ℕ × Party)) (h : PoolShape) (q : Party) (p i : ℕ) (t : Then) → Both (λ y. OwnFrom (then_number t) y × SetFrom o y) (settle h q p i t)
settle_names o h q p i t = if_names (λ y. OwnFrom (then_number t) y × SetFrom o y) (nat_lt i h.workers) (SetLatch (record { latch = Terminate; pool = p; worker = i; then = t })) (finish q t) (λ c e. e, λ c p e. absurd (cc)) (finish_names o q t)

settled_names : (o : Option (ℕ × Party)) (h : PoolShape) (q : Party) (s : Settling) (l : Latch) → Both (λ y. OwnFrom (then_number s.then) y × SetFrom o y) (after_set h q s l)
settled_names o h q s Terminate = settle_names o h q s.pool (s.worker + 1) s.then
settled_names o h q s (OfCall c) = finish_names o q s.then

set_names : (h : PoolShape) (q : Party) (s : Settling) (e : Seen) → Both (NamesFrom (SetLatch s)) (next_of h q (SetLatch s) e)
set_names h q s Yes = (λ c e. e, λ c p e. e)
set_names h q s _ = settled_names (latch_call s.pool s.worker s.latch) h q s s.latch

found_number : (g : Target) (o : Option Taken) → then_number (after_found g o) ≡ target_number g
found_number g None = refl
found_number g (Some t) = refl

walk_from : (n : Option ℕ) (x : Place) (h : PoolShape) (q : Party) (p k i : ℕ) (t : Then) → own_call x ≡ n → then_number t ≡ n → Both (NamesFrom x) (walk h q p k i t)
walk_from n x h q p k i t a b = subst (λ z. Both (λ y. OwnFrom z y × SetFrom (sets_for x) y) (walk h q p k i t)) (b ∙ sym a) (walk_names (sets_for x) h q p k i t)

leave_names : (h : PoolShape) (q : Party) (k : Wait) (e : Seen) → Both (NamesFrom (LeaveSearch k)) (next_of h q (LeaveSearch k) e)
leave_names h q k (Wakes n) = walk_from (target_number k.target) (LeaveSearch k) h q (own_pool q) n 0 (after_found k.target k.found) refl (found_number k.target k.found)
leave_names h q k _ = (λ c e. e, λ c p e. e)

-- what holds of a move's places
both_weak : (P Q : Place → Type 0) → ((y : Place) → P y → Q y) → (g : Move) → Both P g → Both Q g
both_weak P Q f (Stay y) t = f y t
both_weak P Q f (HandIn y token) t = f y t
both_weak P Q f (Enter x y) t = (f x (t.0), f y (t.1))
both_weak P Q f (StartRun x n) t = (f x (t.0), f (Run n Direct) (t.1))
both_weak P Q f (Mark y c k) t = f y t
both_weak P Q f (HandAllBack c) t = tt
both_weak P Q f Back t = tt
both_weak P Q f (HandBack n) t = tt
both_weak P Q f (Discard n) t = tt

tell_names : (h : PoolShape) (q : Party) (n : Plan) (v : Bool) (e : Seen) → Both (NamesFrom (TellNews n v)) (next_of h q (TellNews n v) e)
tell_names h q (Detach p t) v (Wakes m) = walk_from None (TellNews (Detach p t) v) h q p m 0 Resume refl refl
tell_names h q (Here p t) v (Wakes m) = walk_from None (TellNews (Here p t) v) h q p m 0 Resume refl refl
tell_names h q (Send o) v (Wakes m) = walk_from (Some o.number) (TellNews (Send o) v) h q o.pool m 0 (Await o) refl refl
tell_names h q (Fork o a) v (Wakes m) = walk_from (Some o.number) (TellNews (Fork o a) v) h q o.pool m 0 (RunFirst o a) refl refl
tell_names h q (Feed f) v (Wakes m) = walk_from None (TellNews (Feed f) v) h q f.pool m 0 (GiveBack (Detach f.pool f.token)) refl refl
tell_names h q (Enter n) v (Wakes m) = walk_from None (TellNews (Enter n) v) h q n.pool m 0 Resume refl refl
tell_names h q (Gather g) v (Wakes m) = walk_from (Some g.call.number) (TellNews (Gather g) v) h q g.call.pool m 0 (Await g.call) refl refl
tell_names h q (Open o) v (Wakes m) = both_weak (λ y. OwnFrom None y × SetFrom None y) (NamesFrom (TellNews (Open o) v)) (λ y n. (λ c e. absurd (let a : None ≡ Some c = n.0 c e in cc), n.1)) (walk h q o.pool m 0 Resume) (walk_names None h q o.pool m 0 Resume)
tell_names h q n v _ = (λ c e. e, λ c p e. e)

feed_names : (f : Feeding) (k : Count) → NamesFrom (RaiseCount (Feed f)) (begin_feed k f)
feed_names f (OfPool p) = (λ c e. e, λ c p e. e)
feed_names f (OfScope d o) = (λ c e. e, λ c p e. e)
feed_names f (OfCast d o) = (λ c e. e, λ c p e. e)

raise_names : (h : PoolShape) (q : Party) (n : Plan) (e : Seen) → Both (NamesFrom (RaiseCount n)) (next_of h q (RaiseCount n) e)
raise_names h q (Detach p t) Done = (λ c e. e, λ c p e. e)
raise_names h q (Here p t) Done = ((λ c e. e, λ c p e. e), (λ c e. e, λ c p e. e))
raise_names h q (Send o) Done = (λ c e. e, λ c p e. e)
raise_names h q (Fork o a) Done = (λ c e. e, λ c p e. e)
raise_names h q (Feed f) Done = feed_names f f.count
raise_names h q (Gather g) Done = (λ c e. e, λ c p e. absurd (cc))
raise_names h q (Open o) Done = (λ c e. e, λ c p e. e)
raise_names h q (Enter n) Done = (λ c e. e, λ c p e. e)
raise_names h q n _ = tt

undone_own : (n : Plan) → OwnFrom (plan_number n) (undo n)
undone_own n c e = e

pub plan_is : (n : Plan) (c : ℕ) → plan_number n ≡ Some c → Some (plan_call n) ≡ Some c
plan_is (Detach p t) c e = cc
plan_is (Here p t) c e = cc
plan_is (Send o) c e = e
plan_is (Fork o a) c e = e
plan_is (Feed f) c e = cc
plan_is (Open o) c e = e
plan_is (Enter n) c e = cc
plan_is (Gather g) c e = e

grow_names : (h : PoolShape) (q : Party) (n : Plan) (e : Seen) → Both (NamesFrom (GrowCall n)) (next_of h q (GrowCall n) e)
grow_names h q n Done = (λ c e. plan_is n c e, λ c p e. e)
grow_names h q n _ = (λ c e. plan_is n c e, λ c p e. e)

-- who sets the latch of a call sets it for its owner, and goes on as it would have
set_owns : (c : ℕ) (o : Party) (t : Then) → OwnFrom (then_number t) (set_call c o t) × SetFrom (Some (c, shown o)) (set_call c o t)
set_owns c (Worker p i) t = (λ c e. e, λ c p e. e)
set_owns c (Caller n) t = (λ c e. e, λ c p e. e)

store_names : (h : PoolShape) (q : Party) (c : ℕ) (o : Party) (d : Ending) (e : Seen) → Both (NamesFrom (StoreResult c o d)) (next_of h q (StoreResult c o d) e)
store_names h q c o d e = set_owns c o Resume

slot_names : (h : PoolShape) (q : Party) (c : ℕ) (o : Party) (t : ℕ) (d : Ending) (e : Seen) → Both (NamesFrom (StoreSlot c o t d)) (next_of h q (StoreSlot c o t d) e)
slot_names h q c o t d e = (λ c e. e, λ c p e. e)

scope_names : (h : PoolShape) (q : Party) (o : OpenCall) (e : Seen) → Both (NamesFrom (GrowScope o)) (next_of h q (GrowScope o) e)
scope_names h q o Done = ((λ c e. e, λ c p e. absurd (cc)), (λ c e. absurd (cc), λ c p e. absurd (cc)))
scope_names h q o _ = (λ c e. e, λ c p e. absurd (cc))

slotted : (n : Plan) → NamesFrom (OpenSlot n) (after_slot n)
slotted (Feed f) = (λ c e. absurd (cc), λ c p e. e)
slotted (Detach p t) = (λ c e. e, λ c p e. e)
slotted (Here p t) = (λ c e. e, λ c p e. e)
slotted (Send o) = (λ c e. e, λ c p e. e)
slotted (Fork o a) = (λ c e. e, λ c p e. e)
slotted (Open o) = (λ c e. e, λ c p e. e)
slotted (Enter e) = (λ c e. e, λ c p e. e)
slotted (Gather g) = (λ c e. e, λ c p e. e)

slot_opens : (h : PoolShape) (q : Party) (n : Plan) (e : Seen) → Both (NamesFrom (OpenSlot n)) (next_of h q (OpenSlot n) e)
slot_opens h q n Done = slotted n
slot_opens h q n _ = (λ c e. e, λ c p e. e)

-- a refused call names what it did, whether it has a number of a book or not
pub drawn : (o : Option ℕ) (n : Plan) → OwnFrom (plan_number n) (withdraw o n) × SetFrom (count_sets (plan_count n)) (withdraw o n)
drawn None n = (λ c e. e, λ c p e. e)
drawn (Some d) n = (λ c e. e, λ c p e. e)

push_names : (h : PoolShape) (q : Party) (n : Plan) (v : Bool) (e : Seen) → Both (NamesFrom (PushJob n v)) (next_of h q (PushJob n v) e)
push_names h q n v Done = (λ c e. e, λ c p e. absurd (cc))
push_names h q n v _ = drawn (plan_book n) n

-- the places of a broadcast set the latch that waits for its count
begun_names : (c : Pieces) (k : Count) → NamesFrom (RaiseForAll c) (begin_cast k c)
begun_names c (OfPool p) = (λ d e. e, λ d p e. e)
begun_names c (OfScope n o) = (λ d e. e, λ d p e. e)
begun_names c (OfCast n o) = (λ d e. e, λ d p e. e)

pub ended_names : (c : Pieces) (k : Count) → NamesFrom (PushForAll c) (end_cast k c)
ended_names c (OfPool p) = (λ d e. e, λ d p e. e)
ended_names c (OfScope n o) = (λ d e. e, λ d p e. e)
ended_names c (OfCast n o) = (λ d e. e, λ d p e. e)

zero_names : (k : Count) → OwnFrom None (ends_count k) × SetFrom (count_sets k) (ends_count k)
zero_names (OfPool p) = (λ d e. e, λ d p e. absurd (cc))
zero_names (OfScope n o) = set_owns n o Resume
zero_names (OfCast n o) = set_owns n o Resume

deal_names : (h : PoolShape) (q : Party) (b : Pieces) (e : Seen) → Both (NamesFrom (RaiseForAll b)) (next_of h q (RaiseForAll b) e)
deal_names h q b Done = begun_names b b.count
deal_names h q b _ = tt

open_names : (h : PoolShape) (q : Party) (b : Pieces) (e : Seen) → Both (NamesFrom (OpenForAll b)) (next_of h q (OpenForAll b) e)
open_names h q b (Opened n) = (λ d e. e, λ d p e. e)
open_names h q b _ = (λ d e. e, λ d p e. e)

cast_names : (h : PoolShape) (q : Party) (b : Pieces) (e : Seen) → Both (NamesFrom (PushForAll b)) (next_of h q (PushForAll b) e)
cast_names h q b Done = (λ d e. absurd (cc), λ d p e. absurd (cc))
cast_names h q b _ = ended_names b b.count

sunk_names : (h : PoolShape) (q : Party) (b : Pieces) (e : Seen) → Both (NamesFrom (LowerForAll b)) (next_of h q (LowerForAll b) e)
sunk_names h q b Yes = zero_names b.count
sunk_names h q b _ = tt

gather_names : (h : PoolShape) (q : Party) (g : Gathering) (e : Seen) → Both (NamesFrom (GrowCast g)) (next_of h q (GrowCast g) e)
gather_names h q g Done = (λ d e. e, λ d p e. e)
gather_names h q g _ = (λ d e. e, λ d p e. absurd (cc))

dealt_names : (h : PoolShape) (q : Party) (g : Gathering) (e : Seen) → Both (NamesFrom (DealPieces g)) (next_of h q (DealPieces g) e)
dealt_names h q g Done = (λ d e. e, λ d p e. absurd (cc))
dealt_names h q g _ = (λ d e. e, λ d p e. absurd (cc))

probe_names : (h : PoolShape) (q : Party) (k : Wait) (e : Seen) → Both (NamesFrom (ProbeWorking k)) (next_of h q (ProbeWorking k) e)
probe_names h q k Yes = (left_own k.target, left_set None k.target)
probe_names h q k _ = (λ c e. e, λ c p e. e)

search_names : (h : PoolShape) (k : Wait) (r : Rounds) → NamesFrom (PopInjected k) (after_failure h k r)
search_names h k (Failed m) = at (nat_lt m h.limit)
  where
    at : (b : Bool) → NamesFrom (PopInjected k) (if b then ProbeIdle (record k { rounds = Failed (m + 1) }) else AnnounceSelf k)
    at true = (λ c e. e, λ c p e. e)
    at false = (λ c e. e, λ c p e. e)
search_names h k Announced = (λ c e. e, λ c p e. e)

inject_names : (h : PoolShape) (q : Party) (k : Wait) (e : Seen) → Both (NamesFrom (PopInjected k)) (next_of h q (PopInjected k) e)
inject_names h q k (Task t) = (λ c e. e, λ c p e. e)
inject_names h q k _ = search_names h k k.rounds

lower_names : (h : PoolShape) (q : Party) (p : Count) (s : Share) (t : Then) (e : Seen) → Both (NamesFrom (LowerCount p s t)) (next_of h q (LowerCount p s t) e)
lower_names h q (OfPool p) s t Yes = settle_names None h q p 0 t
lower_names h q (OfScope c o) s t Yes = set_owns c o t
lower_names h q (OfCast c o) s t Yes = set_owns c o t
lower_names h q p s t _ = finish_names (count_sets p) q t

add_names : (h : PoolShape) (q : Party) (f : Feeding) (e : Seen) → Both (NamesFrom (AddToFifo f)) (next_of h q (AddToFifo f) e)
add_names h q f Done = (λ c e. e, λ c p e. e)
add_names h q f _ = drawn (count_book f.count) (Feed f)

back_names : (h : PoolShape) (q : Party) (f : Feeding) (e : Seen) → Both (NamesFrom (TakeFromFifo f)) (next_of h q (TakeFromFifo f) e)
back_names h q f (Task x) = drawn (count_book f.count) (Feed (record f { job = taken_number x }))
back_names h q f _ = tt

abbrev pub begins : Place → Bool
begins (BeginTask t) = true
begins (StoreBody o e) = true
begins _ = false

of_every : (h : Shape) (g : PoolShape) (q : Party) (c : Counts) (m : Part) (x : Place) → ((e : Seen) → Both (NamesFrom x) (next_of g q x e)) → IfSome (effect (act_of q x) h q c m) (λ r. Both (NamesFrom x) (next_of g q x (r.0)))
of_every h g q c m x f = if_some_all {A = Seen × Part} (λ r. Both (NamesFrom x) (next_of g q x (r.0))) (λ r. f (r.0)) (effect (act_of q x) h q c m)

-- a move leads only to places that name what the one before did
pub names_on : (h : Shape) (g : PoolShape) (q : Party) (c : Counts) (m : Part) (x : Place) → begins x ≡ false → IfSome (effect (act_of q x) h q c m) (λ r. Both (NamesFrom x) (next_of g q x (r.0)))
names_on h g q c m (BeginTask t) z = cc
names_on h g q c m (StoreBody o e) z = cc
names_on h g q c m (StoreSlot d o t e) z = of_every h g q c m (StoreSlot d o t e) (slot_names g q d o t e)
names_on h g q c m (GrowScope o) z = of_every h g q c m (GrowScope o) (scope_names g q o)
names_on h g q c m (StorePiece d o t e) z = of_every h g q c m (StorePiece d o t e) (λ e. (λ c e. e, λ c p e. e))
names_on h g q c m (PushJob n v) z = of_every h g q c m (PushJob n v) (push_names g q n v)
names_on h g q c m (RaiseForAll b) z = of_every h g q c m (RaiseForAll b) (deal_names g q b)
names_on h g q c m (OpenForAll b) z = of_every h g q c m (OpenForAll b) (open_names g q b)
names_on h g q c m (PushForAll b) z = of_every h g q c m (PushForAll b) (cast_names g q b)
names_on h g q c m (CloseForAll b) z = of_every h g q c m (CloseForAll b) (λ e. (λ c e. e, λ c p e. e))
names_on h g q c m (LowerForAll b) z = of_every h g q c m (LowerForAll b) (sunk_names g q b)
names_on h g q c m (GrowCast b) z = of_every h g q c m (GrowCast b) (gather_names g q b)
names_on h g q c m (DealPieces b) z = of_every h g q c m (DealPieces b) (dealt_names g q b)
names_on h g q c m (OpenSlot n) z = of_every h g q c m (OpenSlot n) (slot_opens g q n)
names_on h g q c m (CloseSlot n) z = of_every h g q c m (CloseSlot n) (λ e. (λ c e. e, λ c p e. e))
names_on h g q c m (SetLockLatch d t) z = of_every h g q c m (SetLockLatch d t) (λ e. finish_names (Some (d, Caller 0)) q t)
names_on h g q c m (AddToFifo f) z = of_every h g q c m (AddToFifo f) (add_names g q f)
names_on h g q c m (TakeFromFifo f) z = of_every h g q c m (TakeFromFifo f) (back_names g q f)
names_on h g q c m (ProbeWorking k) z = of_every h g q c m (ProbeWorking k) (probe_names g q k)
names_on h g q c m (PopInjected k) z = of_every h g q c m (PopInjected k) (inject_names g q k)
names_on h g q c m (LeaveSearch k) z = of_every h g q c m (LeaveSearch k) (leave_names g q k)
names_on h g q c m (TellNews n v) z = of_every h g q c m (TellNews n v) (tell_names g q n v)
names_on h g q c m (RaiseCount n) z = of_every h g q c m (RaiseCount n) (raise_names g q n)
names_on h g q c m (GrowCall n) z = of_every h g q c m (GrowCall n) (grow_names g q n)
names_on h g q c m (StoreResult d o e) z = of_every h g q c m (StoreResult d o e) (store_names g q d o e)
names_on h g q c m (LowerCount p s t) z = of_every h g q c m (LowerCount p s t) (lower_names g q p s t)
names_on h g q c m (UnlockWoken k) z = of_every h g q c m (UnlockWoken k) (λ e. walk_names None g q k.pool k.owed (k.worker + 1) k.then)
names_on h g q c m (SetLatch s) z = of_every h g q c m (SetLatch s) (set_names g q s)
names_on h g q c m (UnlockSettled s) z = of_every h g q c m (UnlockSettled s) (λ e. settled_names (latch_call s.pool s.worker s.latch) g q s s.latch)
names_on h g (Worker i j) c m _ z = search (rules, arith)
names_on h g (Caller n) c m _ z = search (rules, arith)
