-- whose latch a place is about to set, and of which pool it sets the terminate latches one after the other, over each
-- act and move
--
-- The table is `means` for calls, and `walks` for the terminate latches of a pool. Of these `unset_from` is the first
-- that is not set.
-- `leads_on` goes over the table of moves. A place comes to set a call's latch from its Store, or from a Lower that
-- sees the last share.
use Rattle.std.proofs.Common.{rules, arith, refl, sym, ◌∙◌, ap, inl, inr}
use Rattle.std.specs.Prelude.{ℕ, Bool, true, false, ◌&&◌, ◌+◌, ◌==◌, ◌≤◌, nat_lt, if◌then◌else◌, Option, Some, None, ◌≡◌, ◌⊎◌, IfSome}
use Rattle.std.proofs.lemmas.Bool.{eqb-true}
use Rattle.rayon_machine_places.specs.declared.place.Party.{Party}
use Rattle.rayon_machine_places.specs.declared.place.Party.TheVariants.{Worker, Caller}
use Rattle.rayon_machine_places.specs.declared.place.Ending.{Ending}
use Rattle.rayon_machine_places.specs.declared.place.Ending.TheVariants.{Fine, Fault}
use Rattle.rayon_machine_places.specs.declared.place.Target.{Target}
use Rattle.rayon_machine_places.specs.declared.place.Target.TheVariants.{Termination, Answer}
use Rattle.rayon_machine_places.specs.declared.place.Latch.{Latch}
use Rattle.rayon_machine_places.specs.declared.place.Latch.TheVariants.{Terminate, OfCall}
use Rattle.rayon_machine_places.specs.declared.place.Rounds.{Rounds}
use Rattle.rayon_machine_places.specs.declared.place.Rounds.TheVariants.{Failed, Announced}
use Rattle.rayon_machine_places.specs.declared.place.Plan.{Plan}
use Rattle.rayon_machine_places.specs.declared.place.Plan.TheVariants.{Detach, Here, Send, Fork, Feed, Open, Enter, Gather}
use Rattle.rayon_machine_places.specs.declared.place.Count.{Count}
use Rattle.rayon_machine_places.specs.declared.place.Count.TheVariants.{OfPool, OfScope, OfCast}
use Rattle.rayon_machine_places.specs.declared.place.Share.{Share}
use Rattle.rayon_machine_places.specs.declared.place.Share.TheVariants.{OfJob}
use Rattle.rayon_machine_places.specs.declared.place.Then.{Then}
use Rattle.rayon_machine_places.specs.declared.place.Then.TheVariants.{BeginFound, LeaveWait, Resume, Await, RunFirst, Answers, Missing as NoResult, Ran, GiveBack, Called, Gathers}
use Rattle.rayon_machine_places.specs.declared.place.Place.{Place}
use Rattle.rayon_machine_places.specs.declared.place.Place.TheVariants.{LookQueue, BeginHere, ProbeWorking, ProbeIdle, PopInjected, AnnounceSelf, LeaveSearch, JoinProbe, Run, RaiseCount, GrowCall, TellNews, LockToWake, UnlockWoken, LowerCount, StoreResult, SetLatch, LockToSettle, WakeSettled, UnlockSettled, SetLockLatch, FirstSide, SecondSide, AtOnce, Free, Stopped, GrowScope, ScopeBody, PushJob, OpenSlot, CloseSlot, AddToFifo, TakeFromFifo, RaiseForAll, OpenForAll, PushForAll, CloseForAll, LowerForAll, GrowCast, DealPieces}
use Rattle.rayon_machine_places.specs.declared.place.Move.{Move}
use Rattle.rayon_machine_places.specs.declared.place.Move.TheVariants.{Stay}
use Rattle.rayon_machine_places.specs.declared.act.Seen.{Seen}
use Rattle.rayon_machine_places.specs.declared.act.Seen.TheVariants.{Done, Yes, Task, Wakes, Opened}
use Rattle.rayon_machine_places.specs.declared.shape.PoolShape.{PoolShape}
use Rattle.rayon_machine_places.specs.declared.place.Feeding.{Feeding}
use Rattle.rayon_machine_places.specs.declared.place.Pieces.{Pieces}
use Rattle.rayon_machine_places.specs.declared.place.Gathering.{Gathering}
use Rattle.rayon_machine_places.specs.declared.place.Wait.{Wait}
use Rattle.rayon_machine_places.specs.declared.place.Settling.{Settling}
use Rattle.rayon_machine_places.specs.Places.{own_pool, plan_pool, after_news, after_wait, finish, walk, settle, after_set, after_found, act_of, after_failure, next_of, settle_count, plan_count, plan_job, plan_book, count_book, taken_number, undo, withdraw, begin_feed, after_slot, begin_cast, end_cast, ends_count, set_call, goes_on}
use Rattle.rayon_machine_runs.specs.World.{Shape, Part, effect}
use Rattle.rayon_machine_places.specs.Sleepers.{Counts}
use Rattle.rayon_machine_laws.proofs.Frame.{if_some_all}
use Rattle.rayon_machine_laws.proofs.Locks.{tops_map}
use Rattle.rayon_machine_laws.proofs.Seats.{is_frame}
use Rattle.rayon_machine_laws.proofs.Tops.{Tops}

-- the latch is that of this call, and it is a terminate latch
abbrev pub is_of : ℕ → Latch → Bool
is_of c Terminate = false
is_of c (OfCall d) = c == d

abbrev pub is_end : Latch → Bool
is_end Terminate = true
is_end (OfCall d) = false

-- the place sets the latch of this call, or its next one does: it stores how the job ended that the call waits for
abbrev pub means : ℕ → Place → Bool
means c (StoreResult d o e) = c == d
means c (SetLatch s) = is_of c s.latch
means c (SetLockLatch d t) = c == d
means c _ = false

-- the place is one of those that set the terminate latches of this pool one after the other
abbrev pub walks : ℕ → Place → Bool
walks p (SetLatch s) = is_end s.latch && (p == s.pool)
walks p (LockToSettle s) = is_end s.latch && (p == s.pool)
walks p (WakeSettled s) = is_end s.latch && (p == s.pool)
walks p (UnlockSettled s) = is_end s.latch && (p == s.pool)
walks p _ = false

-- the first worker whose terminate latch such a place has not set, and the first once its act is done
abbrev pub unset_from : Place → ℕ
unset_from (SetLatch s) = s.worker
unset_from (LockToSettle s) = s.worker + 1
unset_from (WakeSettled s) = s.worker + 1
unset_from (UnlockSettled s) = s.worker + 1
unset_from _ = 0

abbrev pub passed : Place → ℕ
passed (SetLatch s) = s.worker + 1
passed (LockToSettle s) = s.worker + 1
passed (WakeSettled s) = s.worker + 1
passed (UnlockSettled s) = s.worker + 1
passed _ = 0

-- a broadcast has a piece, and only a call that waits for a job makes a cell as such a call does
abbrev pub has_pieces : Plan → Bool
has_pieces (Gather g) = nat_lt 0 (g.pieces).workers
has_pieces n = true

abbrev pub waits_for : Plan → Bool
waits_for (Send o) = true
waits_for (Fork o a) = true
waits_for n = false

abbrev pub is_fit : Place → Bool
is_fit (RaiseCount n) = has_pieces n
is_fit (GrowCall n) = waits_for n
is_fit (GrowCast g) = nat_lt 0 (g.pieces).workers
is_fit (RaiseForAll b) = nat_lt 0 b.workers
is_fit (OpenForAll b) = nat_lt 0 b.workers
is_fit (PushForAll b) = nat_lt 0 b.workers
is_fit (CloseForAll b) = nat_lt 0 b.workers
is_fit (LowerForAll b) = nat_lt 0 b.workers
is_fit _ = true

-- the call of a count, and its pool
abbrev pub call_at : Count → Option ℕ
call_at (OfPool p) = None
call_at (OfScope c o) = Some c
call_at (OfCast c o) = Some c

abbrev pub pool_at : Count → Option ℕ
pool_at (OfPool p) = Some p
pool_at (OfScope c o) = None
pool_at (OfCast c o) = None

-- the call whose latch is to be set once an act has seen this, and the pool whose terminate latches are
abbrev pub led : Place → Seen → Option ℕ
led (StoreResult c o d) e = Some c
led (LowerCount k s t) Yes = call_at k
led (LowerForAll b) Yes = call_at b.count
led x e = None

abbrev pub ended : Place → Seen → Option ℕ
ended (LowerCount k s t) Yes = pool_at k
ended (LowerForAll b) Yes = pool_at b.count
ended x e = None

-- a place that is neither, and fit
abbrev pub IsApart : Place → Type 0
IsApart y = ((c : ℕ) → means c y ≡ false) × ((p : ℕ) → walks p y ≡ false) × (is_fit y ≡ true)

-- what is said of the place after, by the place before and by what its act saw
abbrev pub Onto : Option ℕ → Option ℕ → (ℕ → Bool) → ℕ → Bool → Place → Type 0
Onto call pool walking from fit y = ((c : ℕ) → means c y ≡ true → call ≡ Some c) × ((p : ℕ) → walks p y ≡ true → ((walking p ≡ true) × (from ≤ unset_from y)) ⊎ (pool ≡ Some p)) × (fit ≡ true → is_fit y ≡ true)

abbrev pub Leading : Place → Seen → Place → Type 0
Leading x e y = Onto (led x e) (ended x e) (λ p. walks p x) (passed x) (is_fit x) y

pub not_true : (b : Bool) → b ≡ false → b ≡ true → ⊥
not_true b f t = let z : true ≡ false = sym t ∙ f in cc

pub apart_on : (call pool : Option ℕ) (walking : ℕ → Bool) (from : ℕ) (fit : Bool) (y : Place) → IsApart y → Onto call pool walking from fit y
apart_on call pool walking from fit y a = (λ c e. absurd (not_true (means c y) (a.0 c) e), λ p e. absurd (not_true (walks p y) (a.1 p) e), λ u. a.2)

apart_tops : (call pool : Option ℕ) (walking : ℕ → Bool) (from : ℕ) (fit : Bool) (g : Move) → Tops IsApart g → Tops (Onto call pool walking from fit) g
apart_tops call pool walking from fit g a = tops_map IsApart (Onto call pool walking from fit) (λ y n. apart_on call pool walking from fit y n) g a

pub frame_apart : (f : Place) → is_frame f ≡ true → IsApart f
frame_apart (ProbeWorking k) z = (λ c. refl, λ p. refl, refl)
frame_apart (JoinProbe o) z = (λ c. refl, λ p. refl, refl)
frame_apart (FirstSide o a) z = (λ c. refl, λ p. refl, refl)
frame_apart (SecondSide o) z = (λ c. refl, λ p. refl, refl)
frame_apart (ScopeBody o) z = (λ c. refl, λ p. refl, refl)
frame_apart (AtOnce p t) z = (λ c. refl, λ p. refl, refl)
frame_apart (Run t k) z = (λ c. refl, λ p. refl, refl)
frame_apart Free z = (λ c. refl, λ p. refl, refl)
frame_apart Stopped z = (λ c. refl, λ p. refl, refl)
frame_apart _ z = cc

-- where a frame goes on
pub on_apart : (f : Place) (d : Ending) → is_frame f ≡ true → IsApart (goes_on f d)
on_apart (FirstSide o a) Fine z = (λ c. refl, λ p. refl, refl)
on_apart (FirstSide o a) Fault z = (λ c. refl, λ p. refl, refl)
on_apart (SecondSide o) d z = (λ c. refl, λ p. refl, refl)
on_apart (ScopeBody o) d z = (λ c. refl, λ p. refl, refl)
on_apart (AtOnce p t) d z = (λ c. refl, λ p. refl, refl)
on_apart (ProbeWorking k) d z = (λ c. refl, λ p. refl, refl)
on_apart (JoinProbe o) d z = (λ c. refl, λ p. refl, refl)
on_apart (Run t k) d z = (λ c. refl, λ p. refl, refl)
on_apart Free d z = (λ c. refl, λ p. refl, refl)
on_apart Stopped d z = (λ c. refl, λ p. refl, refl)
on_apart _ d z = cc

left_apart : (g : Target) → IsApart (after_wait g)
left_apart Termination = (λ c. refl, λ p. refl, refl)
left_apart (Answer o f) = (λ c. refl, λ p. refl, refl)

finish_apart : (q : Party) (t : Then) → Tops IsApart (finish q t)
finish_apart q (BeginFound g t) = (λ c. refl, λ p. refl, refl)
finish_apart q (LeaveWait g) = left_apart g
finish_apart (Worker i j) (Await o) = (λ c. refl, λ p. refl, refl)
finish_apart (Caller n) (Await o) = (λ c. refl, λ p. refl, refl)
finish_apart (Worker i j) (Gathers o) = (λ c. refl, λ p. refl, refl)
finish_apart (Caller n) (Gathers o) = (λ c. refl, λ p. refl, refl)
finish_apart q (RunFirst o a) = (λ c. refl, λ p. refl, refl)
finish_apart q Resume = tt
finish_apart q Called = tt
finish_apart q (Answers o f e) = tt
finish_apart q (NoResult o f) = tt
finish_apart q (Ran t e) = tt
finish_apart q (GiveBack n) = tt

tops_if : (R : Place → Type 0) (b : Bool) (y : Place) (g : Move) → (b ≡ true → R y) → Tops R g → Tops R (if b then Stay y else g)
tops_if R true y g a t = a refl
tops_if R false y g a t = t

walk_apart : (h : PoolShape) (q : Party) (p n i : ℕ) (t : Then) → Tops IsApart (walk h q p n i t)
walk_apart h q p n i t = tops_if IsApart (nat_lt 0 n && nat_lt i h.workers) (LockToWake (record { pool = p; owed = n; worker = i; then = t })) (finish q t) (λ b. (λ c. refl, λ p. refl, refl)) (finish_apart q t)

-- the walk over the terminate latches goes on at the next worker, or begins at the first
settle_on : (call pool : Option ℕ) (walking : ℕ → Bool) (from : ℕ) (fit : Bool) (h : PoolShape) (q : Party) (r i : ℕ) (t : Then) → ((p : ℕ) → (p == r) ≡ true → ((walking p ≡ true) × (from ≤ i)) ⊎ (pool ≡ Some p)) → Tops (Onto call pool walking from fit) (settle h q r i t)
settle_on call pool walking from fit h q r i t f = tops_if (Onto call pool walking from fit) (nat_lt i h.workers) (SetLatch (record { latch = Terminate; pool = r; worker = i; then = t })) (finish q t) (λ b. (λ c e. absurd (cc), λ p e. f p e, λ u. refl)) (apart_tops call pool walking from fit (finish q t) (finish_apart q t))

settled_on : (call pool : Option ℕ) (fit : Bool) (h : PoolShape) (q : Party) (s : Settling) (l : Latch) → Tops (Onto call pool (λ p. is_end l && (p == s.pool)) (s.worker + 1) fit) (after_set h q s l)
settled_on call pool fit h q s Terminate = settle_on call pool (λ p. p == s.pool) (s.worker + 1) fit h q s.pool (s.worker + 1) s.then (λ p e. inl (e, omega arith))
settled_on call pool fit h q s (OfCall c) = apart_tops call pool (λ p. false) (s.worker + 1) fit (finish q s.then) (finish_apart q s.then)

call_on : (pool : Option ℕ) (walking : ℕ → Bool) (from : ℕ) (fit : Bool) (c : ℕ) (o : Party) (t : Then) → Onto (Some c) pool walking from fit (set_call c o t)
call_on pool walking from fit c (Worker i j) t = (λ d e. ap Some (sym (eqb-true d c e)), λ p e. absurd (cc), λ u. refl)
call_on pool walking from fit c (Caller n) t = (λ d e. ap Some (sym (eqb-true d c e)), λ p e. absurd (cc), λ u. refl)

count_on : (fit : Bool) (h : PoolShape) (q : Party) (k : Count) (t : Then) → Tops (Onto (call_at k) (pool_at k) (λ p. false) 0 fit) (settle_count h q k t)
count_on fit h q (OfPool r) t = settle_on None (Some r) (λ p. false) 0 fit h q r 0 t (λ p e. inr (ap Some (sym (eqb-true p r e))))
count_on fit h q (OfScope c o) t = call_on None (λ p. false) 0 fit c o t
count_on fit h q (OfCast c o) t = call_on None (λ p. false) 0 fit c o t

ends_on : (fit : Bool) (k : Count) → Onto (call_at k) (pool_at k) (λ p. false) 0 fit (ends_count k)
ends_on fit (OfPool r) = (λ c e. absurd (cc), λ p e. inr (ap Some (sym (eqb-true p r e))), λ u. refl)
ends_on fit (OfScope c o) = call_on None (λ p. false) 0 fit c o Resume
ends_on fit (OfCast c o) = call_on None (λ p. false) 0 fit c o Resume

set_on : (h : PoolShape) (q : Party) (s : Settling) (e : Seen) → Tops (Leading (SetLatch s) e) (next_of h q (SetLatch s) e)
set_on h q s Yes = (λ c e. absurd (cc), λ p e. inl (e, omega arith), λ u. refl)
set_on h q s _ = settled_on None None true h q s s.latch

lower_on : (h : PoolShape) (q : Party) (k : Count) (s : Share) (t : Then) (e : Seen) → Tops (Leading (LowerCount k s t) e) (next_of h q (LowerCount k s t) e)
lower_on h q k s t Yes = count_on true h q k t
lower_on h q k s t _ = apart_tops None None (λ p. false) 0 true (finish q t) (finish_apart q t)

lower_all_on : (h : PoolShape) (q : Party) (b : Pieces) (e : Seen) → Tops (Leading (LowerForAll b) e) (next_of h q (LowerForAll b) e)
lower_all_on h q b Yes = ends_on (nat_lt 0 b.workers) b.count
lower_all_on h q b _ = tt

store_on : (h : PoolShape) (q : Party) (c : ℕ) (o : Party) (d : Ending) (e : Seen) → Tops (Leading (StoreResult c o d) e) (next_of h q (StoreResult c o d) e)
store_on h q c o d e = call_on None (λ p. false) 0 true c o Resume

leave_apart : (h : PoolShape) (q : Party) (k : Wait) (e : Seen) → Tops IsApart (next_of h q (LeaveSearch k) e)
leave_apart h q k (Wakes n) = walk_apart h q (own_pool q) n 0 (after_found k.target k.found)
leave_apart h q k _ = (λ c. refl, λ p. refl, refl)

tell_apart : (h : PoolShape) (q : Party) (n : Plan) (v : Bool) (e : Seen) → Tops IsApart (next_of h q (TellNews n v) e)
tell_apart h q n v (Wakes m) = walk_apart h q (plan_pool n) m 0 (after_news n)
tell_apart h q n v _ = (λ c. refl, λ p. refl, refl)

fed_apart : (f : Feeding) (k : Count) → IsApart (begin_feed k f)
fed_apart f (OfPool p) = (λ c. refl, λ p. refl, refl)
fed_apart f (OfScope n o) = (λ c. refl, λ p. refl, refl)
fed_apart f (OfCast n o) = (λ c. refl, λ p. refl, refl)

undone_apart : (k : Count) (t : ℕ) (n : Plan) → IsApart (LowerCount k (OfJob t) (GiveBack n))
undone_apart k t n = (λ c. refl, λ p. refl, refl)

pub drawn_apart : (b : Option ℕ) (n : Plan) → IsApart (withdraw b n)
drawn_apart None n = undone_apart (plan_count n) (plan_job n) n
drawn_apart (Some c) n = (λ c. refl, λ p. refl, refl)

raise_on : (h : PoolShape) (q : Party) (n : Plan) (e : Seen) → Tops (Leading (RaiseCount n) e) (next_of h q (RaiseCount n) e)
raise_on h q (Detach p t) Done = apart_on None None (λ p. false) 0 true (LookQueue (Detach p t)) (λ c. refl, λ p. refl, refl)
raise_on h q (Here p t) Done = apart_on None None (λ p. false) 0 true (BeginHere t) (λ c. refl, λ p. refl, refl)
raise_on h q (Send o) Done = apart_on None None (λ p. false) 0 true (GrowCall (Send o)) (λ c. refl, λ p. refl, refl)
raise_on h q (Fork o a) Done = apart_on None None (λ p. false) 0 true (GrowCall (Fork o a)) (λ c. refl, λ p. refl, refl)
raise_on h q (Feed f) Done = apart_on None None (λ p. false) 0 true (begin_feed f.count f) (fed_apart f f.count)
raise_on h q (Gather g) Done = (λ c e. absurd (cc), λ p e. absurd (cc), λ u. u)
raise_on h q (Open o) Done = apart_on None None (λ p. false) 0 true (GrowScope o) (λ c. refl, λ p. refl, refl)
raise_on h q (Enter x) Done = apart_on None None (λ p. false) 0 true (OpenSlot (Enter x)) (λ c. refl, λ p. refl, refl)
raise_on h q n _ = tt

probe_apart : (h : PoolShape) (q : Party) (k : Wait) (e : Seen) → Tops IsApart (next_of h q (ProbeWorking k) e)
probe_apart h q k Yes = left_apart k.target
probe_apart h q k _ = (λ c. refl, λ p. refl, refl)

push_apart : (h : PoolShape) (q : Party) (n : Plan) (v : Bool) (e : Seen) → Tops IsApart (next_of h q (PushJob n v) e)
push_apart h q n v Done = (λ c. refl, λ p. refl, refl)
push_apart h q n v _ = drawn_apart (plan_book n) n

grow_apart : (h : PoolShape) (q : Party) (n : Plan) (e : Seen) → Tops IsApart (next_of h q (GrowCall n) e)
grow_apart h q n Done = (λ c. refl, λ p. refl, refl)
grow_apart h q n _ = (λ c. refl, λ p. refl, refl)

slot_apart : (n : Plan) → IsApart (after_slot n)
slot_apart (Feed f) = (λ c. refl, λ p. refl, refl)
slot_apart (Detach p t) = (λ c. refl, λ p. refl, refl)
slot_apart (Here p t) = (λ c. refl, λ p. refl, refl)
slot_apart (Send o) = (λ c. refl, λ p. refl, refl)
slot_apart (Fork o a) = (λ c. refl, λ p. refl, refl)
slot_apart (Open o) = (λ c. refl, λ p. refl, refl)
slot_apart (Enter x) = (λ c. refl, λ p. refl, refl)
slot_apart (Gather g) = (λ c. refl, λ p. refl, refl)

open_apart : (h : PoolShape) (q : Party) (n : Plan) (e : Seen) → Tops IsApart (next_of h q (OpenSlot n) e)
open_apart h q n Done = slot_apart n
open_apart h q n _ = (λ c. refl, λ p. refl, refl)

add_apart : (h : PoolShape) (q : Party) (f : Feeding) (e : Seen) → Tops IsApart (next_of h q (AddToFifo f) e)
add_apart h q f Done = (λ c. refl, λ p. refl, refl)
add_apart h q f _ = drawn_apart (count_book f.count) (Feed f)

retake_apart : (h : PoolShape) (q : Party) (f : Feeding) (e : Seen) → Tops IsApart (next_of h q (TakeFromFifo f) e)
retake_apart h q f (Task x) = drawn_apart (count_book f.count) (Feed (record f { job = taken_number x }))
retake_apart h q f _ = tt

-- the places of a broadcast have its pieces
dealt_on : (b : Pieces) (y : Place) → ((c : ℕ) → means c y ≡ false) → ((p : ℕ) → walks p y ≡ false) → is_fit y ≡ nat_lt 0 b.workers → Onto None None (λ p. false) 0 (nat_lt 0 b.workers) y
dealt_on b y m w f = (λ c e. absurd (not_true (means c y) (m c) e), λ p e. absurd (not_true (walks p y) (w p) e), λ u. f ∙ u)

begun_on : (b : Pieces) (k : Count) → Onto None None (λ p. false) 0 (nat_lt 0 b.workers) (begin_cast k b)
begun_on b (OfPool p) = dealt_on b (PushForAll b) (λ c. refl) (λ p. refl) refl
begun_on b (OfScope n o) = dealt_on b (OpenForAll b) (λ c. refl) (λ p. refl) refl
begun_on b (OfCast n o) = dealt_on b (PushForAll b) (λ c. refl) (λ p. refl) refl

pub unpushed_on : (b : Pieces) (k : Count) → Onto None None (λ p. false) 0 (nat_lt 0 b.workers) (end_cast k b)
unpushed_on b (OfPool p) = dealt_on b (LowerForAll b) (λ c. refl) (λ p. refl) refl
unpushed_on b (OfScope n o) = dealt_on b (CloseForAll b) (λ c. refl) (λ p. refl) refl
unpushed_on b (OfCast n o) = dealt_on b (LowerForAll b) (λ c. refl) (λ p. refl) refl

raise_all_on : (h : PoolShape) (q : Party) (b : Pieces) (e : Seen) → Tops (Leading (RaiseForAll b) e) (next_of h q (RaiseForAll b) e)
raise_all_on h q b Done = begun_on b b.count
raise_all_on h q b _ = tt

push_all_on : (h : PoolShape) (q : Party) (b : Pieces) (e : Seen) → Tops (Leading (PushForAll b) e) (next_of h q (PushForAll b) e)
push_all_on h q b Done = apart_on None None (λ p. false) 0 (nat_lt 0 b.workers) (LockToWake (record { pool = b.pool; owed = h.workers; worker = 0; then = Called })) (λ c. refl, λ p. refl, refl)
push_all_on h q b _ = unpushed_on b b.count

open_all_on : (h : PoolShape) (q : Party) (b : Pieces) (e : Seen) → Tops (Leading (OpenForAll b) e) (next_of h q (OpenForAll b) e)
open_all_on h q b (Opened n) = dealt_on b (PushForAll b) (λ c. refl) (λ p. refl) refl
open_all_on h q b _ = dealt_on b (LowerForAll b) (λ c. refl) (λ p. refl) refl

cast_grow_on : (h : PoolShape) (q : Party) (g : Gathering) (e : Seen) → Tops (Leading (GrowCast g) e) (next_of h q (GrowCast g) e)
cast_grow_on h q g Done = apart_on None None (λ p. false) 0 (nat_lt 0 (g.pieces).workers) (DealPieces g) (λ c. refl, λ p. refl, refl)
cast_grow_on h q g _ = apart_on None None (λ p. false) 0 (nat_lt 0 (g.pieces).workers) (undo (Gather g)) (λ c. refl, λ p. refl, refl)

deal_apart : (h : PoolShape) (q : Party) (g : Gathering) (e : Seen) → Tops IsApart (next_of h q (DealPieces g) e)
deal_apart h q g Done = (λ c. refl, λ p. refl, refl)
deal_apart h q g _ = (λ c. refl, λ p. refl, refl)

failed_apart : (h : PoolShape) (k : Wait) (r : Rounds) → IsApart (after_failure h k r)
failed_apart h k (Failed m) = at (nat_lt m h.limit)
  where
    at : (b : Bool) → IsApart (if b then ProbeIdle (record k { rounds = Failed (m + 1) }) else AnnounceSelf k)
    at true = (λ c. refl, λ p. refl, refl)
    at false = (λ c. refl, λ p. refl, refl)
failed_apart h k Announced = (λ c. refl, λ p. refl, refl)

inject_apart : (h : PoolShape) (q : Party) (k : Wait) (e : Seen) → Tops IsApart (next_of h q (PopInjected k) e)
inject_apart h q k (Task t) = (λ c. refl, λ p. refl, refl)
inject_apart h q k _ = failed_apart h k k.rounds

-- the place after an act
every : (h : Shape) (g : PoolShape) (q : Party) (c : Counts) (m : Part) (x : Place) → ((e : Seen) → Tops (Leading x e) (next_of g q x e)) → IfSome (effect (act_of q x) h q c m) (λ r. Tops (Leading x (r.0)) (next_of g q x (r.0)))
every h g q c m x f = if_some_all {A = Seen × Part} (λ r. Tops (Leading x (r.0)) (next_of g q x (r.0))) (λ r. f (r.0)) (effect (act_of q x) h q c m)

none : (h : Shape) (g : PoolShape) (q : Party) (c : Counts) (m : Part) (x : Place) → ((e : Seen) → Tops IsApart (next_of g q x e)) → IfSome (effect (act_of q x) h q c m) (λ r. Tops (Leading x (r.0)) (next_of g q x (r.0)))
none h g q c m x f = every h g q c m x (λ e. apart_tops (led x e) (ended x e) (λ p. walks p x) (passed x) (is_fit x) (next_of g q x e) (f e))

pub leads_on : (h : Shape) (g : PoolShape) (q : Party) (c : Counts) (m : Part) (x : Place) → IfSome (effect (act_of q x) h q c m) (λ r. Tops (Leading x (r.0)) (next_of g q x (r.0)))
leads_on h g q c m (ProbeWorking k) = none h g q c m (ProbeWorking k) (probe_apart g q k)
leads_on h g q c m (PopInjected k) = none h g q c m (PopInjected k) (inject_apart g q k)
leads_on h g q c m (LeaveSearch k) = none h g q c m (LeaveSearch k) (leave_apart g q k)
leads_on h g q c m (TellNews n v) = none h g q c m (TellNews n v) (tell_apart g q n v)
leads_on h g q c m (RaiseCount n) = every h g q c m (RaiseCount n) (raise_on g q n)
leads_on h g q c m (StoreResult d o e) = every h g q c m (StoreResult d o e) (store_on g q d o e)
leads_on h g q c m (LowerCount p s t) = every h g q c m (LowerCount p s t) (lower_on g q p s t)
leads_on h g q c m (PushJob n v) = none h g q c m (PushJob n v) (push_apart g q n v)
leads_on h g q c m (GrowCall n) = none h g q c m (GrowCall n) (grow_apart g q n)
leads_on h g q c m (OpenSlot n) = none h g q c m (OpenSlot n) (open_apart g q n)
leads_on h g q c m (CloseSlot n) = none h g q c m (CloseSlot n) (λ e. (λ c. refl, λ p. refl, refl))
leads_on h g q c m (AddToFifo f) = none h g q c m (AddToFifo f) (add_apart g q f)
leads_on h g q c m (TakeFromFifo f) = none h g q c m (TakeFromFifo f) (retake_apart g q f)
leads_on h g q c m (RaiseForAll b) = every h g q c m (RaiseForAll b) (raise_all_on g q b)
leads_on h g q c m (PushForAll b) = every h g q c m (PushForAll b) (push_all_on g q b)
leads_on h g q c m (LowerForAll b) = every h g q c m (LowerForAll b) (lower_all_on g q b)
leads_on h g q c m (OpenForAll b) = every h g q c m (OpenForAll b) (open_all_on g q b)
leads_on h g q c m (CloseForAll b) = every h g q c m (CloseForAll b) (λ e. dealt_on b (LowerForAll b) (λ c. refl) (λ p. refl) refl)
leads_on h g q c m (GrowCast d) = every h g q c m (GrowCast d) (cast_grow_on g q d)
leads_on h g q c m (DealPieces d) = none h g q c m (DealPieces d) (deal_apart g q d)
leads_on h g q c m (SetLockLatch d t) = none h g q c m (SetLockLatch d t) (λ e. finish_apart q t)
leads_on h g q c m (UnlockWoken k) = none h g q c m (UnlockWoken k) (λ e. walk_apart g q k.pool k.owed (k.worker + 1) k.then)
leads_on h g q c m (SetLatch s) = every h g q c m (SetLatch s) (set_on g q s)
leads_on h g q c m (LockToSettle s) = every h g q c m (LockToSettle s) (λ e. (λ c e. absurd (cc), λ p e. inl (e, omega arith), λ u. refl))
leads_on h g q c m (WakeSettled s) = every h g q c m (WakeSettled s) (λ e. (λ c e. absurd (cc), λ p e. inl (e, omega arith), λ u. refl))
leads_on h g q c m (UnlockSettled s) = every h g q c m (UnlockSettled s) (λ e. settled_on None None true g q s s.latch)
leads_on h g (Worker i j) c m _ = search (rules, arith)
leads_on h g (Caller n) c m _ = search (rules, arith)
