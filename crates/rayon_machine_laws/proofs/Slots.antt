-- a job's number of a book: given once, and kept
use Rattle.std.proofs.Common.{rules, arith, refl, ap, inl, inr}
use Rattle.std.specs.Prelude.{ℕ, Bool, true, false, ◌&&◌, ◌+◌, ◌==◌, ◌≤◌, nat_lt, if◌then◌else◌, Option, Some, None, ◌≡◌, ◌⊎◌, IfSome, ⊤, List}
use Rattle.std.proofs.lemmas.Bool.{eq-eqb}
use Rattle.rayon_machine_places.specs.declared.place.Party.{Party}
use Rattle.rayon_machine_places.specs.declared.place.Party.TheVariants.{Worker, Caller}
use Rattle.rayon_machine_places.specs.declared.place.Target.{Target}
use Rattle.rayon_machine_places.specs.declared.place.Target.TheVariants.{Termination, Answer}
use Rattle.rayon_machine_places.specs.declared.place.Latch.{Latch}
use Rattle.rayon_machine_places.specs.declared.place.Latch.TheVariants.{Terminate, OfCall}
use Rattle.rayon_machine_places.specs.declared.place.Plan.{Plan}
use Rattle.rayon_machine_places.specs.declared.place.Plan.TheVariants.{Detach, Here, Send, Fork, Feed, Open, Enter, Gather}
use Rattle.rayon_machine_places.specs.declared.place.Count.{Count}
use Rattle.rayon_machine_places.specs.declared.place.Count.TheVariants.{OfPool, OfScope, OfCast}
use Rattle.rayon_machine_places.specs.declared.place.Share.{Share}
use Rattle.rayon_machine_places.specs.declared.place.Taken.{Taken}
use Rattle.rayon_machine_places.specs.declared.place.Taken.TheVariants.{Plain, Token}
use Rattle.rayon_machine_places.specs.declared.place.Then.{Then}
use Rattle.rayon_machine_places.specs.declared.place.Then.TheVariants.{BeginFound, LeaveWait, Resume, Await, RunFirst, Answers, Missing as NoResult, Ran, GiveBack, Called, Gathers}
use Rattle.rayon_machine_places.specs.declared.place.Place.{Place}
use Rattle.rayon_machine_places.specs.declared.place.Place.TheVariants.{ProbeWorking, LeaveSearch, OpenForAll, CloseForAll, GrowCast, DealPieces, StoreSlot, StorePiece, BeginTask, RaiseCount, GrowCall, OpenSlot, CloseSlot, PushJob, AddToFifo, TakeFromFifo, RaiseForAll, PushForAll, LowerForAll, TellNews, LockToWake, UnlockWoken, LowerCount, StoreResult, SetLatch, UnlockSettled, SetLockLatch}
use Rattle.rayon_machine_places.specs.declared.place.Mark.{Mark as Marking}
use Rattle.rayon_machine_places.specs.declared.place.Mark.TheVariants.{Numbered, Dealt, Unnumbered, Returned}
use Rattle.rayon_machine_places.specs.declared.place.Move.{Move}
use Rattle.rayon_machine_places.specs.declared.place.Move.TheVariants.{Stay, Enter, StartRun, Back, HandBack, Discard, HandIn, Mark, HandAllBack}
use Rattle.rayon_machine_places.specs.declared.act.Seen.{Seen}
use Rattle.rayon_machine_places.specs.declared.act.Seen.TheVariants.{Done, Yes, Task, Wakes, Begun, Handed}
use Rattle.rayon_machine_runs.specs.declared.state.Job.{Job}
use Rattle.rayon_machine_runs.specs.declared.state.Slot.TheVariants.{Closed, Open as IsOpen}
use Rattle.rayon_machine_places.specs.declared.shape.PoolShape.{PoolShape}
use Rattle.rayon_machine_places.specs.declared.place.Feeding.{Feeding}
use Rattle.rayon_machine_places.specs.declared.place.Wait.{Wait}
use Rattle.rayon_machine_places.specs.declared.place.Pieces.{Pieces}
use Rattle.rayon_machine_places.specs.declared.place.Settling.{Settling}
use Rattle.rayon_machine_places.specs.Places.{own_pool, plan_pool, plan_book, plan_count, plan_job, count_call, count_book, after_news, after_wait, finish, walk, settle, after_set, after_found, after_slot, act_of, next_of, taken_number, withdraw, end_cast, ends_count, set_call, after_begin}
use Rattle.rayon_machine_runs.specs.World.{Shape, World, Part, effect, filled, is_open}
use Rattle.rayon_machine_places.specs.Sleepers.{Counts}
use Rattle.rayon_machine_runs.specs.Steps.{is_piece}
use Rattle.rayon_machine_runs.specs.Readers.{is_done}
use Rattle.rayon_machine_laws.specs.Once.{one, hand, hand_plan, held, held_in}
use Rattle.rayon_machine_laws.proofs.Frame.{if_cond, if_some_all, if_some_map}
use Rattle.rayon_machine_laws.proofs.Ties.{job_at, outcome}
use Rattle.rayon_machine_laws.proofs.Claims.{Says, SaysSlot}
use Rattle.rayon_machine_laws.proofs.ClaimRuns.{place_part}
use Rattle.rayon_machine_laws.proofs.Holders.{Same}

-- what a call is about to open a number of a book for, and has opened none
abbrev pub opens : Plan → ℕ → Bool
opens (Enter e) t = t == e.job
opens (Feed f) t = t == f.job
opens (Gather g) t = is_piece g.pieces t
opens _ t = false

abbrev pub blanks : Place → ℕ → Bool
blanks (RaiseCount n) t = opens n t
blanks (OpenSlot n) t = opens n t
blanks (RaiseForAll c) t = is_piece c t
blanks (OpenForAll c) t = is_piece c t
blanks (GrowCast g) t = is_piece g.pieces t
blanks (DealPieces g) t = is_piece g.pieces t
blanks _ t = false

abbrev pub is_blank : Place → Bool
is_blank (RaiseCount n) = true
is_blank (OpenSlot n) = true
is_blank (RaiseForAll c) = true
is_blank (OpenForAll c) = true
is_blank (GrowCast g) = true
is_blank (DealPieces g) = true
is_blank _ = false

-- these pieces are numbered, or their numbers taken back
abbrev pub numbers : Marking → Bool
numbers (Numbered n) = true
numbers Dealt = true
numbers Unnumbered = true
numbers _ = false

-- a move that numbers nothing, and leads to no such place
abbrev pub Plainly : Move → Type 0
Plainly (Stay y) = is_blank y ≡ false
Plainly (HandIn y k) = is_blank y ≡ false
Plainly (Mark y b m) = (is_blank y ≡ false) × (numbers m ≡ false)
Plainly (Enter f y) = is_blank y ≡ false
Plainly (StartRun f t) = ⊤
Plainly Back = ⊤
Plainly (HandBack n) = ⊤
Plainly (Discard k) = ⊤
Plainly (HandAllBack b) = ⊤

finish_plain : (q : Party) (t : Then) → Plainly (finish q t)
finish_plain q (BeginFound g u) = refl
finish_plain q (LeaveWait Termination) = refl
finish_plain q (LeaveWait (Answer o f)) = refl
finish_plain (Worker i j) (Await o) = refl
finish_plain (Caller c) (Await o) = refl
finish_plain (Worker i j) (Gathers o) = refl
finish_plain (Caller c) (Gathers o) = refl
finish_plain q (RunFirst o a) = tt
finish_plain q Resume = tt
finish_plain q Called = tt
finish_plain q (Answers o f e) = tt
finish_plain q (NoResult o f) = tt
finish_plain q (Ran t e) = tt
finish_plain q (GiveBack p) = tt

plain_if : (b : Bool) (y : Place) (g : Move) → is_blank y ≡ false → Plainly g → Plainly (if b then Stay y else g)
plain_if true y g a p = a
plain_if false y g a p = p

walk_plain : (g : PoolShape) (q : Party) (p k i : ℕ) (t : Then) → Plainly (walk g q p k i t)
walk_plain g q p k i t = plain_if (nat_lt 0 k && nat_lt i g.workers) (LockToWake (record { pool = p; owed = k; worker = i; then = t })) (finish q t) refl (finish_plain q t)

settle_plain : (g : PoolShape) (q : Party) (p i : ℕ) (t : Then) → Plainly (settle g q p i t)
settle_plain g q p i t = plain_if (nat_lt i g.workers) (SetLatch (record { latch = Terminate; pool = p; worker = i; then = t })) (finish q t) refl (finish_plain q t)

settled_plain : (g : PoolShape) (q : Party) (s : Settling) (l : Latch) → Plainly (after_set g q s l)
settled_plain g q s Terminate = settle_plain g q s.pool (s.worker + 1) s.then
settled_plain g q s (OfCall c) = finish_plain q s.then

set_plain : (g : PoolShape) (q : Party) (s : Settling) (e : Seen) → Plainly (next_of g q (SetLatch s) e)
set_plain g q s Yes = refl
set_plain g q s _ = settled_plain g q s s.latch

call_plain : (c : ℕ) (o : Party) (t : Then) → Plainly (Stay (set_call c o t))
call_plain c (Worker i j) t = refl
call_plain c (Caller m) t = refl

lower_plain : (g : PoolShape) (q : Party) (k : Count) (s : Share) (t : Then) (e : Seen) → Plainly (next_of g q (LowerCount k s t) e)
lower_plain g q (OfPool p) s t Yes = settle_plain g q p 0 t
lower_plain g q (OfScope c o) s t Yes = call_plain c o t
lower_plain g q (OfCast c o) s t Yes = call_plain c o t
lower_plain g q k s t _ = finish_plain q t

leave_plain : (g : PoolShape) (q : Party) (k : Wait) (e : Seen) → Plainly (next_of g q (LeaveSearch k) e)
leave_plain g q k (Wakes m) = walk_plain g q (own_pool q) m 0 (after_found k.target k.found)
leave_plain g q k _ = refl

tell_plain : (g : PoolShape) (q : Party) (p : Plan) (v : Bool) (e : Seen) → Plainly (next_of g q (TellNews p v) e)
tell_plain g q p v (Wakes m) = walk_plain g q (plan_pool p) m 0 (after_news p)
tell_plain g q p v _ = refl

pub drawn_plain : (o : Option ℕ) (p : Plan) → is_blank (withdraw o p) ≡ false
drawn_plain None p = refl
drawn_plain (Some c) p = refl

push_plain : (g : PoolShape) (q : Party) (p : Plan) (v : Bool) (e : Seen) → Plainly (next_of g q (PushJob p v) e)
push_plain g q p v Done = refl
push_plain g q p v _ = drawn_plain (plan_book p) p

add_plain : (g : PoolShape) (q : Party) (f : Feeding) (e : Seen) → Plainly (next_of g q (AddToFifo f) e)
add_plain g q f Done = refl
add_plain g q f _ = drawn_plain (count_book f.count) (Feed f)

retake_plain : (g : PoolShape) (q : Party) (f : Feeding) (e : Seen) → Plainly (next_of g q (TakeFromFifo f) e)
retake_plain g q f (Task x) = drawn_plain (count_book f.count) (Feed (record f { job = taken_number x }))
retake_plain g q f _ = tt

slot_plain : (p : Plan) → is_blank (after_slot p) ≡ false
slot_plain (Feed f) = refl
slot_plain (Detach p t) = refl
slot_plain _ = refl

open_plain : (g : PoolShape) (q : Party) (p : Plan) (e : Seen) → Plainly (next_of g q (OpenSlot p) e)
open_plain g q p Done = slot_plain p
open_plain g q p _ = refl

grow_plain : (g : PoolShape) (q : Party) (p : Plan) (e : Seen) → Plainly (next_of g q (GrowCall p) e)
grow_plain g q p Done = refl
grow_plain g q p _ = refl

begin_plain : (x : Taken) (e : Seen) → Plainly (after_begin x e)
begin_plain (Plain t) (Begun d) = refl
begin_plain (Plain t) _ = refl
begin_plain (Token k i b) (Handed t d) = refl
begin_plain (Token k i b) _ = tt

pub uncast_plain : (c : Pieces) (k : Count) → is_blank (end_cast k c) ≡ false
uncast_plain c (OfPool p) = refl
uncast_plain c (OfScope d o) = refl
uncast_plain c (OfCast d o) = refl

push_all_plain : (g : PoolShape) (q : Party) (c : Pieces) (e : Seen) → Plainly (next_of g q (PushForAll c) e)
push_all_plain g q c Done = (refl, refl)
push_all_plain g q c _ = uncast_plain c c.count

lower_all_plain : (g : PoolShape) (q : Party) (c : Pieces) (e : Seen) → Plainly (next_of g q (LowerForAll c) e)
lower_all_plain g q c Yes = by c.count
  where
    by : (k : Count) → (is_blank (ends_count k) ≡ false) × (numbers Returned ≡ false)
    by (OfPool p) = (refl, refl)
    by (OfScope d (Worker a b)) = (refl, refl)
    by (OfScope d (Caller a)) = (refl, refl)
    by (OfCast d (Worker a b)) = (refl, refl)
    by (OfCast d (Caller a)) = (refl, refl)
lower_all_plain g q c _ = tt

probe_plain : (g : PoolShape) (q : Party) (k : Wait) (e : Seen) → Plainly (next_of g q (ProbeWorking k) e)
probe_plain g q k Yes = by k.target
  where
    by : (t : Target) → is_blank (after_wait t) ≡ false
    by Termination = refl
    by (Answer o f) = refl
probe_plain g q k _ = refl

-- where a number is given or taken back for many, or a share is taken first
abbrev pub numbers_here : Place → Bool
numbers_here (RaiseCount n) = true
numbers_here (RaiseForAll c) = true
numbers_here (GrowCast g) = true
numbers_here (OpenForAll c) = true
numbers_here (DealPieces g) = true
numbers_here (CloseForAll c) = true
numbers_here _ = false

every : (h : Shape) (g : PoolShape) (q : Party) (c : Counts) (m : Part) (x : Place) → ((e : Seen) → Plainly (next_of g q x e)) → IfSome (effect (act_of q x) h q c m) (λ r. Plainly (next_of g q x (r.0)))
every h g q c m x f = if_some_all {A = Seen × Part} (λ r. Plainly (next_of g q x (r.0))) (λ r. f (r.0)) (effect (act_of q x) h q c m)

pub plain_next : (h : Shape) (g : PoolShape) (q : Party) (c : Counts) (m : Part) (x : Place) → numbers_here x ≡ false → IfSome (effect (act_of q x) h q c m) (λ r. Plainly (next_of g q x (r.0)))
plain_next h g q c m (RaiseCount p) z = cc
plain_next h g q c m (RaiseForAll p) z = cc
plain_next h g q c m (GrowCast p) z = cc
plain_next h g q c m (OpenForAll p) z = cc
plain_next h g q c m (DealPieces p) z = cc
plain_next h g q c m (CloseForAll p) z = cc
plain_next h g q c m (GrowCall p) z = every h g q c m (GrowCall p) (grow_plain g q p)
plain_next h g q c m (OpenSlot p) z = every h g q c m (OpenSlot p) (open_plain g q p)
plain_next h g q c m (PushJob p v) z = every h g q c m (PushJob p v) (push_plain g q p v)
plain_next h g q c m (TellNews p v) z = every h g q c m (TellNews p v) (tell_plain g q p v)
plain_next h g q c m (AddToFifo f) z = every h g q c m (AddToFifo f) (add_plain g q f)
plain_next h g q c m (TakeFromFifo f) z = every h g q c m (TakeFromFifo f) (retake_plain g q f)
plain_next h g q c m (PushForAll b) z = every h g q c m (PushForAll b) (push_all_plain g q b)
plain_next h g q c m (LowerForAll b) z = every h g q c m (LowerForAll b) (lower_all_plain g q b)
plain_next h g q c m (BeginTask x) z = every h g q c m (BeginTask x) (begin_plain x)
plain_next h g q c m (LeaveSearch k) z = every h g q c m (LeaveSearch k) (leave_plain g q k)
plain_next h g q c m (UnlockWoken k) z = every h g q c m (UnlockWoken k) (λ e. walk_plain g q k.pool k.owed (k.worker + 1) k.then)
plain_next h g q c m (LowerCount p s t) z = every h g q c m (LowerCount p s t) (lower_plain g q p s t)
plain_next h g q c m (SetLatch s) z = every h g q c m (SetLatch s) (set_plain g q s)
plain_next h g q c m (UnlockSettled s) z = every h g q c m (UnlockSettled s) (λ e. settled_plain g q s s.latch)
plain_next h g q c m (SetLockLatch u t) z = every h g q c m (SetLockLatch u t) (λ e. finish_plain q t)
plain_next h g q c m (StoreResult u o e) z = every h g q c m (StoreResult u o e) (λ s. call_plain u o Resume)
plain_next h g (Worker i j) c m (ProbeWorking k) z = every h g (Worker i j) c m (ProbeWorking k) (probe_plain g (Worker i j) k)
plain_next h g (Worker i j) c m _ z = search (rules, arith)
plain_next h g (Caller u) c m _ z = search (rules, arith)

-- who is about to open a number for a job has it in hand
opens_hand : (n : Plan) (t : ℕ) → opens n t ≡ true → 1 ≤ hand_plan t n
opens_hand (Enter e) t o = let a : one (t == e.job) ≡ 1 = ap one o in omega (arith, a)
opens_hand (Feed f) t o = let a : one (t == f.job) ≡ 1 = ap one o in omega (arith, a)
opens_hand (Gather g) t o = let a : one (is_piece g.pieces t) ≡ 1 = ap one o in omega (arith, a)
opens_hand _ t o = absurd (cc)

pub piece_hand : (c : Pieces) (t : ℕ) → is_piece c t ≡ true → 1 ≤ one (is_piece c t)
piece_hand c t e = let a : one (is_piece c t) ≡ 1 = ap one e in omega (arith, a)

pub blanks_hand : (x : Place) (t : ℕ) → blanks x t ≡ true → 1 ≤ hand t x
blanks_hand (RaiseCount n) t o = opens_hand n t o
blanks_hand (OpenSlot n) t o = opens_hand n t o
blanks_hand (RaiseForAll c) t o = piece_hand c t o
blanks_hand (OpenForAll c) t o = piece_hand c t o
blanks_hand (GrowCast g) t o = piece_hand g.pieces t o
blanks_hand (DealPieces g) t o = piece_hand g.pieces t o
blanks_hand _ t o = absurd (cc)

pub no_blanks : (y : Place) (t : ℕ) → is_blank y ≡ false → blanks y t ≡ true → ⊥
no_blanks (RaiseCount n) t a b = cc
no_blanks (OpenSlot n) t a b = cc
no_blanks (RaiseForAll c) t a b = cc
no_blanks (OpenForAll c) t a b = cc
no_blanks (GrowCast g) t a b = cc
no_blanks (DealPieces g) t a b = cc
no_blanks _ t a b = cc

-- how a step leaves the number of a job: as it was; opened, where there was none, or closed, for who has the job in hand;
-- or filled, for a job that is over
abbrev pub Opened : Job → Job → Type 0
Opened j k = (j.slot ≡ Closed) × ((n : ℕ) × (k.slot ≡ IsOpen n))

abbrev pub Changes : World → Party → ℕ → Job → Type 0
Changes w q t k = (k.slot ≡ (w.job t).slot) ⊎ (((1 ≤ held t (w.stack q)) × (Opened (w.job t) k ⊎ (k.slot ≡ Closed))) ⊎ ((is_done (w.job t).at ≡ true) × (k.slot ≡ filled (w.job t).slot)))

pub held_top : (w : World) (q : Party) (x : Place) (fs : List Place) (t : ℕ) → w.stack q ≡ record { top = x; below = fs } → 1 ≤ hand t x → 1 ≤ held t (w.stack q)
held_top w q x fs t z e = let c : held t (w.stack q) ≡ (hand t x + held_in t fs) = ap (held t) z in omega (arith, c, e)

-- a spawn into a scope opens a number for its job
slot_opens : (w : World) (q : Party) (n : Plan) → SaysSlot w q n → opens n (plan_job n) ≡ true
slot_opens w q (Enter e) s = eq-eqb e.job e.job refl
slot_opens w q (Feed f) s = eq-eqb f.job f.job refl
slot_opens w q (Detach p t) s = absurd s
slot_opens w q (Here p t) s = absurd s
slot_opens w q (Send o) s = absurd s
slot_opens w q (Fork o a) s = absurd s
slot_opens w q (Open o) s = absurd s
slot_opens w q (Gather g) s = absurd s

-- what an act makes of the number of its job
pub slot_target : (w : World) (q : Party) (x : Place) (fs : List Place) → w.stack q ≡ record { top = x; below = fs } → ((t : ℕ) → blanks x t ≡ true → (w.job t).slot ≡ Closed) → Says w q x → IfSome (outcome w q (record { top = x; below = fs })) (Same x (place_part w q x))
    → IfSome (outcome w q (record { top = x; below = fs })) (λ r. Changes w q (job_at w q (act_of q x)) r.1.job)
slot_target w (Worker a b) (OpenSlot n) fs z bl s f = if_cond (λ r. Changes w (Worker a b) (plan_job n) r.1.job) (is_open (Worker a b) (w.call (count_call (plan_count n))).writer) _
    (λ o. inr (inl (held_top w (Worker a b) (OpenSlot n) fs (plan_job n) z (blanks_hand (OpenSlot n) (plan_job n) (slot_opens w (Worker a b) n s)), inl (bl (plan_job n) (slot_opens w (Worker a b) n s), ((w.call (count_call (plan_count n))).slots, refl)))))
slot_target w (Caller c) (OpenSlot n) fs z bl s f = if_cond (λ r. Changes w (Caller c) (plan_job n) r.1.job) (is_open (Caller c) (w.call (count_call (plan_count n))).writer) _
    (λ o. inr (inl (held_top w (Caller c) (OpenSlot n) fs (plan_job n) z (blanks_hand (OpenSlot n) (plan_job n) (slot_opens w (Caller c) n s)), inl (bl (plan_job n) (slot_opens w (Caller c) n s), ((w.call (count_call (plan_count n))).slots, refl)))))
slot_target w (Worker a b) (CloseSlot n) fs z bl s f = if_cond (λ r. Changes w (Worker a b) (plan_job n) r.1.job) (is_open (Worker a b) (w.call (count_call (plan_count n))).writer) _
    (λ o. inr (inl (held_top w (Worker a b) (CloseSlot n) fs (plan_job n) z (opens_hand n (plan_job n) (slot_opens w (Worker a b) n s)), inr refl)))
slot_target w (Caller c) (CloseSlot n) fs z bl s f = if_cond (λ r. Changes w (Caller c) (plan_job n) r.1.job) (is_open (Caller c) (w.call (count_call (plan_count n))).writer) _
    (λ o. inr (inl (held_top w (Caller c) (CloseSlot n) fs (plan_job n) z (opens_hand n (plan_job n) (slot_opens w (Caller c) n s)), inr refl)))
slot_target w (Worker a b) (StoreSlot c o t e) fs z bl s f = if_cond (λ r. Changes w (Worker a b) t r.1.job) (is_open (Worker a b) (w.call c).writer) _ (λ v. inr (inr (ap is_done (s.3), refl)))
slot_target w (Caller k) (StoreSlot c o t e) fs z bl s f = if_cond (λ r. Changes w (Caller k) t r.1.job) (is_open (Caller k) (w.call c).writer) _ (λ v. inr (inr (ap is_done (s.3), refl)))
slot_target w (Worker a b) (StorePiece c o t e) fs z bl s f = inr (inr (ap is_done (s.3), refl))
slot_target w (Caller k) (StorePiece c o t e) fs z bl s f = inr (inr (ap is_done (s.3), refl))
slot_target w q x fs z bl s f = if_some_map (Same x (place_part w q x)) (λ r. Changes w q (job_at w q (act_of q x)) r.1.job) (λ r k. inl (k.2)) (outcome w q (record { top = x; below = fs })) f
