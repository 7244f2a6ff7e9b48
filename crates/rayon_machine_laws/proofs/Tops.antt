-- where a party stands after an act, and that only frames stand below
--
-- At a light place nothing of the sleep half is done. Only frames stand below a top (`FramesOk`).
use Rattle.rayon_machine_places.specs.declared.place.Plan.TheVariants.{Feed}
use Rattle.rayon_machine_places.specs.declared.place.Plan.{Plan}
use Rattle.std.proofs.Common.{rules, arith, refl}
use Rattle.std.specs.Prelude.{ℕ, Bool, true, false, ◌&&◌, ◌||◌, ◌+◌, nat_lt, if◌then◌else◌, List, [], ◌∷◌, ◌≡◌, IfSome, ⊤, Option, None, Some}
use Rattle.rayon_machine_places.specs.declared.place.Party.{Party}
use Rattle.rayon_machine_places.specs.declared.place.Party.TheVariants.{Worker, Caller}
use Rattle.rayon_machine_places.specs.declared.place.JobKind.TheVariants.{Direct}
use Rattle.rayon_machine_places.specs.declared.place.Target.TheVariants.{Termination, Answer}
use Rattle.rayon_machine_places.specs.declared.place.Latch.{Latch}
use Rattle.rayon_machine_places.specs.declared.place.Latch.TheVariants.{Terminate, OfCall}
use Rattle.rayon_machine_places.specs.declared.place.Then.{Then}
use Rattle.rayon_machine_places.specs.declared.place.Then.TheVariants.{BeginFound, LeaveWait, Resume, Await, RunFirst, Answers, Missing, Ran, GiveBack, Called, Gathers}
use Rattle.rayon_machine_places.specs.declared.place.Feeding.{Feeding}
use Rattle.rayon_machine_places.specs.declared.place.Taken.{Taken}
use Rattle.rayon_machine_places.specs.declared.place.Taken.TheVariants.{Plain, Token}
use Rattle.rayon_machine_places.specs.declared.place.Place.{Place}
use Rattle.rayon_machine_places.specs.declared.place.Place.TheVariants.{ProbeWorking, LockOwn, FallAsleep, LoadCounters, AddSleeping, LookAtCast, LookAtInjector, BlockSelf, RelockOwn, UndoSleeping, WakeUp, UnlockOwn, Run, LockToWake, WakeWorker, UnlockWoken, SetLatch}
use Rattle.rayon_machine_places.specs.declared.place.Place.TheVariants.{LockToSettle, WakeSettled, UnlockSettled, Stopped, BeginTask, AddToFifo, TakeFromFifo}
use Rattle.rayon_machine_places.specs.declared.place.Move.{Move}
use Rattle.rayon_machine_places.specs.declared.place.Move.TheVariants.{Stay, Enter, StartRun, Back, HandBack, Discard, HandIn, Mark, HandAllBack}
use Rattle.rayon_machine_places.specs.declared.act.Seen.{Seen}
use Rattle.rayon_machine_places.specs.declared.act.Seen.TheVariants.{Yes, Done, Task, Begun, Handed}
use Rattle.rayon_machine_places.specs.declared.shape.PoolShape.{PoolShape}
use Rattle.rayon_machine_places.specs.declared.place.Settling.{Settling}
use Rattle.rayon_machine_places.specs.Places.{finish, walk, settle, after_set, act_of, next_of, after_begin, taken_back, withdraw, count_book, taken_number}
use Rattle.rayon_machine_runs.specs.World.{Shape, World, Part, effect}
use Rattle.rayon_machine_places.specs.Sleepers.{Counts}
use Rattle.rayon_machine_runs.specs.Steps.{after_move}
use Rattle.rayon_machine_laws.proofs.Frame.{if_some_all}
use Rattle.rayon_machine_laws.proofs.Seats.{is_frame}
use Rattle.rayon_machine_laws.proofs.Ties.{AllFrames}

-- what a relation on places says of the top after a move. What stands below is known by itself
abbrev pub Tops : (Place → Type 0) → Move → Type 0
Tops R (Stay y) = R y
Tops R (HandIn y token) = R y
Tops R (Mark y b9 m9) = R y
Tops R (Enter f y) = R y
Tops R (StartRun f t) = R (Run t Direct)
Tops R Back = ⊤
Tops R (HandBack n) = ⊤
Tops R (Discard n) = ⊤
Tops R (HandAllBack b9) = ⊤

-- a move leaves frames below
abbrev pub Lowered : Move → Type 0
Lowered (Stay y) = ⊤
Lowered (HandIn y token) = ⊤
Lowered (Mark y b9 m9) = ⊤
Lowered (Enter f y) = is_frame f ≡ true
Lowered (StartRun f t) = is_frame f ≡ true
Lowered Back = ⊤
Lowered (HandBack n) = ⊤
Lowered (Discard n) = ⊤
Lowered (HandAllBack b9) = ⊤

-- the top after a move, where the relation holds of each frame
pub top_after : (R : Place → Type 0) (g : Move) (fs : List Place) → Tops R g → ((f : Place) → is_frame f ≡ true → R f) → AllFrames fs → R ((after_move g fs).top)
top_after R (Stay y) fs t k a = t
top_after R (HandIn y token) fs t k a = t
top_after R (Mark y b9 m9) fs t k a = t
top_after R (Enter f y) fs t k a = t
top_after R (StartRun f n) fs t k a = t
top_after R Back [] t k a = k Stopped refl
top_after R Back (f ∷ fs) t k a = k f (a.0)
top_after R (HandBack n) [] t k a = k Stopped refl
top_after R (Discard n) [] t k a = k Stopped refl
top_after R (HandAllBack b9) [] t k a = k Stopped refl
top_after R (HandBack n) (f ∷ fs) t k a = k f (a.0)
top_after R (Discard n) (f ∷ fs) t k a = k f (a.0)
top_after R (HandAllBack b9) (f ∷ fs) t k a = k f (a.0)

pub below_after : (g : Move) (fs : List Place) → Lowered g → AllFrames fs → AllFrames ((after_move g fs).below)
below_after (Stay y) fs l a = a
below_after (HandIn y token) fs l a = a
below_after (Mark y b9 m9) fs l a = a
below_after (Enter f y) fs l a = (l, a)
below_after (StartRun f n) fs l a = (l, a)
below_after Back [] l a = tt
below_after Back (f ∷ fs) l a = a.1
below_after (HandBack n) [] l a = tt
below_after (Discard n) [] l a = tt
below_after (HandAllBack b9) [] l a = tt
below_after (HandBack n) (f ∷ fs) l a = a.1
below_after (Discard n) (f ∷ fs) l a = a.1
below_after (HandAllBack b9) (f ∷ fs) l a = a.1

-- every party's frames
abbrev pub FramesOk : World → Type 0
FramesOk w = (q : Party) → AllFrames (w.stack q).below

-- a place at which nothing of the sleep is half done: neither about to block, nor with another's lock, nor falling
-- asleep
abbrev pub is_light : Place → Bool
is_light (FallAsleep w) = false
is_light (LoadCounters w) = false
is_light (AddSleeping w) = false
is_light (LookAtCast w) = false
is_light (LookAtInjector w) = false
is_light (BlockSelf w) = false
is_light (RelockOwn w) = false
is_light (UndoSleeping w) = false
is_light (WakeUp w) = false
is_light (UnlockOwn w) = false
is_light (WakeWorker k) = false
is_light (UnlockWoken k) = false
is_light (LockToSettle s) = false
is_light (WakeSettled s) = false
is_light (UnlockSettled s) = false
is_light _ = true

-- a place that can lead to one that is not light
abbrev pub is_heavy : Place → Bool
is_heavy (LockOwn w) = true
is_heavy (FallAsleep w) = true
is_heavy (LoadCounters w) = true
is_heavy (AddSleeping w) = true
is_heavy (LookAtCast w) = true
is_heavy (LookAtInjector w) = true
is_heavy (BlockSelf w) = true
is_heavy (RelockOwn w) = true
is_heavy (UndoSleeping w) = true
is_heavy (WakeUp w) = true
is_heavy (LockToWake k) = true
is_heavy (WakeWorker k) = true
is_heavy (SetLatch s) = true
is_heavy (LockToSettle s) = true
is_heavy (WakeSettled s) = true
is_heavy _ = false

pub frame_light : (f : Place) → is_frame f ≡ true → is_light f ≡ true
frame_light (ProbeWorking w) e = refl
frame_light _ e = cc

-- a move leaves frames below, and leads to a light place where it comes from one that is not heavy
abbrev pub Leads : Bool → Move → Type 0
Leads b (Stay y) = (b || is_light y) ≡ true
Leads b (HandIn y token) = (b || is_light y) ≡ true
Leads b (Mark y b9 m9) = (b || is_light y) ≡ true
Leads b (Enter f y) = (is_frame f ≡ true) × ((b || is_light y) ≡ true)
Leads b (StartRun f t) = is_frame f ≡ true
Leads b Back = ⊤
Leads b (HandBack n) = ⊤
Leads b (Discard n) = ⊤
Leads b (HandAllBack b9) = ⊤

or_true : (b : Bool) → (b || true) ≡ true
or_true true = refl
or_true false = refl

finish_leads : (b : Bool) (q : Party) (t : Then) → Leads b (finish q t)
finish_leads b q (BeginFound Termination t) = (refl, or_true b)
finish_leads b q (BeginFound (Answer o f) t) = (refl, or_true b)
finish_leads b q (LeaveWait Termination) = or_true b
finish_leads b q (LeaveWait (Answer o f)) = or_true b
finish_leads b (Worker i j) (Await o) = or_true b
finish_leads b (Caller n) (Await o) = or_true b
finish_leads b q (RunFirst o a) = refl
finish_leads b q Resume = tt
finish_leads b q Called = tt
finish_leads b (Worker i j) (Gathers o) = or_true b
finish_leads b (Caller n) (Gathers o) = or_true b
finish_leads b q (Answers o f e) = tt
finish_leads b q (Missing o f) = tt
finish_leads b q (Ran t e) = tt
finish_leads b q (GiveBack n) = tt

leads_if : (b z : Bool) (y : Place) (g : Move) → is_light y ≡ true → Leads b g → Leads b (if z then Stay y else g)
leads_if b true y g l k = rw l (or_true b)
leads_if b false y g l k = k

pub walk_leads : (b : Bool) (h : PoolShape) (q : Party) (p n i : ℕ) (t : Then) → Leads b (walk h q p n i t)
walk_leads b h q p n i t = leads_if b (nat_lt 0 n && nat_lt i h.workers) (LockToWake (record { pool = p; owed = n; worker = i; then = t })) (finish q t) refl (finish_leads b q t)

settle_leads : (b : Bool) (h : PoolShape) (q : Party) (p i : ℕ) (t : Then) → Leads b (settle h q p i t)
settle_leads b h q p i t = leads_if b (nat_lt i h.workers) (SetLatch (record { latch = Terminate; pool = p; worker = i; then = t })) (finish q t) refl (finish_leads b q t)

pub settled_leads : (b : Bool) (h : PoolShape) (q : Party) (s : Settling) (l : Latch) → Leads b (after_set h q s l)
settled_leads b h q s Terminate = settle_leads b h q s.pool (s.worker + 1) s.then
settled_leads b h q s (OfCall c) = finish_leads b q s.then

set_leads : (h : PoolShape) (q : Party) (s : Settling) (e : Seen) → Leads true (next_of h q (SetLatch s) e)
set_leads h q s Yes = refl
set_leads h q s _ = settled_leads true h q s s.latch

begin_leads : (x : Taken) (e : Seen) → Leads false (after_begin x e)
begin_leads (Plain t) (Begun d) = refl
begin_leads (Plain t) _ = refl
begin_leads (Token k i b8) (Handed t d) = refl
begin_leads (Token k i b8) _ = tt

drawn_leads : (o : Option ℕ) (n : Plan) → Leads false (Stay (withdraw o n))
drawn_leads None n = refl
drawn_leads (Some c) n = refl

feed_leads : (g : PoolShape) (q : Party) (f : Feeding) (e : Seen) → Leads false (next_of g q (AddToFifo f) e)
feed_leads g q f Done = refl
feed_leads g q f _ = drawn_leads (count_book f.count) (Feed f)

back_leads : (f : Feeding) (e : Seen) → Leads false (taken_back f e)
back_leads f (Task x) = drawn_leads (count_book f.count) (Feed (record f { job = taken_number x }))
back_leads f _ = tt

pub leads : (h : Shape) (g : PoolShape) (q : Party) (c : Counts) (m : Part) (x : Place) → IfSome (effect (act_of q x) h q c m) (λ r. Leads (is_heavy x) (next_of g q x (r.0)))
leads h g (Worker i j) c m (ProbeWorking k) = search (rules, arith)
leads h g q c m (SetLatch s) = if_some_all {A = Seen × Part} (λ r. Leads true (next_of g q (SetLatch s) (r.0))) (λ r. set_leads g q s (r.0)) (effect (act_of q (SetLatch s)) h q c m)
leads h g q c m (BeginTask x) = if_some_all {A = Seen × Part} (λ r. Leads false (after_begin x (r.0))) (λ r. begin_leads x (r.0)) (effect (act_of q (BeginTask x)) h q c m)
leads h g q c m (AddToFifo f) = if_some_all {A = Seen × Part} (λ r. Leads false (next_of g q (AddToFifo f) (r.0))) (λ r. feed_leads g q f (r.0)) (effect (act_of q (AddToFifo f)) h q c m)
leads h g q c m (TakeFromFifo f) = if_some_all {A = Seen × Part} (λ r. Leads false (taken_back f (r.0))) (λ r. back_leads f (r.0)) (effect (act_of q (TakeFromFifo f)) h q c m)
leads h g q c m (UnlockSettled s) = if_some_all {A = Seen × Part} (λ r. Leads false (next_of g q (UnlockSettled s) (r.0))) (λ r. settled_leads false g q s s.latch) (effect (act_of q (UnlockSettled s)) h q c m)
leads h g (Worker i j) c m _ = search (rules, arith)
leads h g (Caller n) c m _ = search (rules, arith)

pub leads_lowered : (b : Bool) (g : Move) → Leads b g → Lowered g
leads_lowered b (Stay y) l = tt
leads_lowered b (HandIn y token) l = tt
leads_lowered b (Mark y b9 m9) l = tt
leads_lowered b (Enter f y) l = l.0
leads_lowered b (StartRun f t) l = l
leads_lowered b Back l = tt
leads_lowered b (HandBack n) l = tt
leads_lowered b (Discard n) l = tt
leads_lowered b (HandAllBack b9) l = tt

pub leads_tops : (g : Move) → Leads false g → Tops (λ y. is_light y ≡ true) g
leads_tops (Stay y) l = l
leads_tops (HandIn y token) l = l
leads_tops (Mark y b9 m9) l = l
leads_tops (Enter f y) l = l.1
leads_tops (StartRun f t) l = refl
leads_tops Back l = tt
leads_tops (HandBack n) l = tt
leads_tops (Discard n) l = tt
leads_tops (HandAllBack b9) l = tt
