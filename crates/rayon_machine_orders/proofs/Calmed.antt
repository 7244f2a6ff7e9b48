-- no act but the adding of a job to a FIFO list leads to where a call waits to push its token
use Rattle.rayon_machine_places.specs.declared.place.Plan.TheVariants.{Detach, Here, Send, Fork, Feed, Open, Enter, Gather}
use Rattle.rayon_machine_orders.proofs.Words.{Plan, OfPool, OfScope, OfCast, Count, Share, Pieces, Gathering, rules, arith, refl, ◌∙◌, ℕ, Bool, true, false, ◌&&◌, ◌+◌, ◌==◌, if◌then◌else◌, Option, Some, None, List, [], ◌∷◌, ◌≡◌, IfSome, Party, Worker, Caller, Ending, Fine, Fault, JobKind}
use Rattle.rayon_machine_orders.proofs.Words.{Detached, Stored, Direct, TokenOf, Scoped, BodyOf, PieceOf, WholeOf, Termination, Answer, Then, BeginFound, LeaveWait, Resume, Await, RunFirst, Answers, Missing, Ran, GiveBack, Called, Gathers, Place, ProbeWorking, BeginTask, RaiseCount, PushJob}
use Rattle.rayon_machine_orders.proofs.Words.{LowerCount, SetLatch, UnlockSettled, FirstSide, AddToFifo, LookForToken, PushToken, TakeFromFifo, PushForAll, OpenSlot, OpenForAll, RaiseForAll, LowerForAll, DealPieces, Move, Seen, Yes, Begun, Done, Handed, Opened, PoolShape, Settling, finish}
use Rattle.rayon_machine_orders.proofs.Words.{after_set, act_of, next_of, goes_on, after_begin, plan_book, withdraw, begin_feed, after_raise, after_slot, begin_cast, end_cast, ends_count, settle_count, Shape, Counts, Part, effect, Feeding, Plain, Token, Taken, after_close}
use Rattle.rayon_machine_laws.proofs.Frame.{if_some_all}
use Rattle.rayon_machine_laws.proofs.Seats.{is_frame}
use Rattle.rayon_machine_laws.proofs.Ties.{AllFrames}
use Rattle.rayon_machine_laws.proofs.Tops.{Tops}
use Rattle.rayon_machine_orders.proofs.Lone.{settle_move, settled_move, walk_move}

-- the places of a call that has added its job
abbrev pub is_waiting : Place → Bool
is_waiting (LookForToken f) = true
is_waiting (PushToken f v) = true
is_waiting (TakeFromFifo f) = true
is_waiting _ = false

abbrev pub NoWait : Move → Type 0
NoWait g = Tops (λ y. is_waiting y ≡ false) g

finish_calm : (q : Party) (t : Then) → NoWait (finish q t)
finish_calm q (BeginFound g t) = refl
finish_calm q (LeaveWait Termination) = refl
finish_calm q (LeaveWait (Answer o f)) = refl
finish_calm (Worker a b) (Await o) = refl
finish_calm (Caller c) (Await o) = refl
finish_calm q (RunFirst o a) = refl
finish_calm (Worker a b) (Gathers o) = refl
finish_calm (Caller c) (Gathers o) = refl
finish_calm q _ = tt

settled_calm : (h : PoolShape) (q : Party) (s : Settling) → NoWait (after_set h q s s.latch)
settled_calm h q s = settled_move NoWait h q s s.latch (λ k e. refl) (finish_calm q s.then)

set_calm : (h : PoolShape) (q : Party) (s : Settling) (e : Seen) → NoWait (next_of h q (SetLatch s) e)
set_calm h q s Yes = refl
set_calm h q s _ = settled_calm h q s

begin_calm : (x : Taken) (e : Seen) → NoWait (after_begin x e)
begin_calm (Plain t) (Begun d) = refl
begin_calm (Plain t) _ = refl
begin_calm (Token k i b8) (Handed t d) = refl
begin_calm (Token k i b8) _ = tt

withdraw_calm : (b : Option ℕ) (n : Plan) → is_waiting (withdraw b n) ≡ false
withdraw_calm None n = refl
withdraw_calm (Some c) n = refl

feed_calm : (k : Count) (f : Feeding) → is_waiting (begin_feed k f) ≡ false
feed_calm (OfPool p) f = refl
feed_calm _ f = refl

slot_calm : (n : Plan) → is_waiting (after_slot n) ≡ false
slot_calm (Detach p t) = refl
slot_calm _ = refl

raise_calm : (n : Plan) → NoWait (after_raise n)
raise_calm (Feed f) = feed_calm f.count f
raise_calm _ = refl

raised_calm : (g : PoolShape) (q : Party) (n : Plan) (e : Seen) → NoWait (next_of g q (RaiseCount n) e)
raised_calm g q n Done = raise_calm n
raised_calm g q n _ = tt

opened_calm : (g : PoolShape) (q : Party) (n : Plan) (e : Seen) → NoWait (next_of g q (OpenSlot n) e)
opened_calm g q n Done = slot_calm n
opened_calm g q n _ = refl

pushed_calm : (g : PoolShape) (q : Party) (n : Plan) (v : Bool) (e : Seen) → NoWait (next_of g q (PushJob n v) e)
pushed_calm g q n v Done = refl
pushed_calm g q n v _ = withdraw_calm (plan_book n) n

-- where a broadcast goes
cast_calm : (k : Count) (c : Pieces) → (is_waiting (begin_cast k c) ≡ false) × (is_waiting (end_cast k c) ≡ false)
cast_calm (OfPool p) c = (refl, refl)
cast_calm _ c = (refl, refl)

ends_calm : (k : Count) → is_waiting (ends_count k) ≡ false
ends_calm (OfPool p) = refl
ends_calm (OfScope c (Worker a b)) = refl
ends_calm (OfScope c (Caller n)) = refl
ends_calm (OfCast c (Worker a b)) = refl
ends_calm (OfCast c (Caller n)) = refl

count_calm : (g : PoolShape) (q : Party) (k : Count) (t : Then) → NoWait (settle_count g q k t)
count_calm g q (OfPool p) t = settle_move NoWait g q p 0 t (λ k e. refl) (finish_calm q t)
count_calm g q (OfScope c (Worker a b)) t = refl
count_calm g q (OfScope c (Caller n)) t = refl
count_calm g q (OfCast c (Worker a b)) t = refl
count_calm g q (OfCast c (Caller n)) t = refl

lowered_calm : (g : PoolShape) (q : Party) (k : Count) (s : Share) (t : Then) (e : Seen) → NoWait (next_of g q (LowerCount k s t) e)
lowered_calm g q k s t Yes = count_calm g q k t
lowered_calm g q k s t _ = finish_calm q t

all_raised_calm : (g : PoolShape) (q : Party) (c : Pieces) (e : Seen) → NoWait (next_of g q (RaiseForAll c) e)
all_raised_calm g q c Done = (cast_calm c.count c).0
all_raised_calm g q c _ = tt

all_opened_calm : (g : PoolShape) (q : Party) (c : Pieces) (e : Seen) → NoWait (next_of g q (OpenForAll c) e)
all_opened_calm g q c (Opened n) = refl
all_opened_calm g q c _ = refl

all_pushed_calm : (g : PoolShape) (q : Party) (c : Pieces) (e : Seen) → NoWait (next_of g q (PushForAll c) e)
all_pushed_calm g q c Done = refl
all_pushed_calm g q c _ = (cast_calm c.count c).1

all_lowered_calm : (g : PoolShape) (q : Party) (c : Pieces) (e : Seen) → NoWait (next_of g q (LowerForAll c) e)
all_lowered_calm g q c Yes = ends_calm c.count
all_lowered_calm g q c _ = tt

piece_calm : (g : PoolShape) (q : Party) (k : Gathering) (e : Seen) → NoWait (next_of g q (DealPieces k) e)
piece_calm g q k Done = refl
piece_calm g q k _ = refl

-- the adding of a job
abbrev pub is_adding : Place → Bool
is_adding (AddToFifo f) = true
is_adding _ = false

pub stays_calm : (h : Shape) (g : PoolShape) (q : Party) (c : Counts) (m : Part) (x : Place) → is_waiting x ≡ false → is_adding x ≡ false → IfSome (effect (act_of q x) h q c m) (λ r. NoWait (next_of g q x (r.0)))
stays_calm h g (Worker a b) c m (ProbeWorking k) z f = search (rules, arith)
stays_calm h g q c m (AddToFifo d) z f = cc
stays_calm h g q c m (LookForToken d) z f = cc
stays_calm h g q c m (PushToken d v) z f = cc
stays_calm h g q c m (TakeFromFifo d) z f = cc
stays_calm h g q c m (UnlockSettled s) z f = if_some_all {A = Seen × Part} (λ r. NoWait (next_of g q (UnlockSettled s) (r.0))) (λ r. settled_calm g q s) (effect (act_of q (UnlockSettled s)) h q c m)
stays_calm h g q c m (BeginTask x) z f = if_some_all {A = Seen × Part} (λ r. NoWait (after_begin x (r.0))) (λ r. begin_calm x (r.0)) (effect (act_of q (BeginTask x)) h q c m)
stays_calm h g q c m (RaiseCount n) z f = if_some_all {A = Seen × Part} (λ r. NoWait (next_of g q (RaiseCount n) (r.0))) (λ r. raised_calm g q n (r.0)) (effect (act_of q (RaiseCount n)) h q c m)
stays_calm h g q c m (OpenSlot n) z f = if_some_all {A = Seen × Part} (λ r. NoWait (next_of g q (OpenSlot n) (r.0))) (λ r. opened_calm g q n (r.0)) (effect (act_of q (OpenSlot n)) h q c m)
stays_calm h g q c m (PushJob n v) z f = if_some_all {A = Seen × Part} (λ r. NoWait (next_of g q (PushJob n v) (r.0))) (λ r. pushed_calm g q n v (r.0)) (effect (act_of q (PushJob n v)) h q c m)
stays_calm h g q c m (RaiseForAll d) z f = if_some_all {A = Seen × Part} (λ r. NoWait (next_of g q (RaiseForAll d) (r.0))) (λ r. all_raised_calm g q d (r.0)) (effect (act_of q (RaiseForAll d)) h q c m)
stays_calm h g q c m (OpenForAll d) z f = if_some_all {A = Seen × Part} (λ r. NoWait (next_of g q (OpenForAll d) (r.0))) (λ r. all_opened_calm g q d (r.0)) (effect (act_of q (OpenForAll d)) h q c m)
stays_calm h g q c m (PushForAll d) z f = if_some_all {A = Seen × Part} (λ r. NoWait (next_of g q (PushForAll d) (r.0))) (λ r. all_pushed_calm g q d (r.0)) (effect (act_of q (PushForAll d)) h q c m)
stays_calm h g q c m (LowerForAll d) z f = if_some_all {A = Seen × Part} (λ r. NoWait (next_of g q (LowerForAll d) (r.0))) (λ r. all_lowered_calm g q d (r.0)) (effect (act_of q (LowerForAll d)) h q c m)
stays_calm h g q c m (LowerCount k v t) z f = if_some_all {A = Seen × Part} (λ r. NoWait (next_of g q (LowerCount k v t) (r.0))) (λ r. lowered_calm g q k v t (r.0)) (effect (act_of q (LowerCount k v t)) h q c m)
stays_calm h g q c m (DealPieces d) z f = if_some_all {A = Seen × Part} (λ r. NoWait (next_of g q (DealPieces d) (r.0))) (λ r. piece_calm g q d (r.0)) (effect (act_of q (DealPieces d)) h q c m)
stays_calm h g q c m (SetLatch s) z f = if_some_all {A = Seen × Part} (λ r. NoWait (next_of g q (SetLatch s) (r.0))) (λ r. set_calm g q s (r.0)) (effect (act_of q (SetLatch s)) h q c m)
stays_calm h g (Worker a b) c m _ z f = search (rules, arith)
stays_calm h g (Caller n) c m _ z f = search (rules, arith)

pub frame_calm : (f : Place) → is_frame f ≡ true → is_waiting f ≡ false
frame_calm (ProbeWorking w) e = refl
frame_calm _ e = cc

goes : (f : Place) (e : Ending) → is_frame f ≡ true → is_waiting (goes_on f e) ≡ false
goes (FirstSide o a) Fine m = refl
goes (FirstSide o a) Fault m = refl
goes (ProbeWorking k) e m = refl
goes _ e m = cc

-- and the end of a run
pub close_calm : (t : ℕ) (k : JobKind) (d : Ending) (fs : List Place) → AllFrames fs → is_waiting (after_close t k d fs).top ≡ false
close_calm t Direct d [] a = refl
close_calm t (TokenOf i b) d [] a = refl
close_calm t (BodyOf c o) d [] a = refl
close_calm t (WholeOf c o) d [] a = refl
close_calm t Direct d (f ∷ fs) a = goes f d (a.0)
close_calm t (TokenOf i b) d (f ∷ fs) a = goes f d (a.0)
close_calm t (BodyOf c o) d (f ∷ fs) a = goes f d (a.0)
close_calm t (WholeOf c o) d (f ∷ fs) a = goes f d (a.0)
close_calm t _ d fs a = refl
