-- who has added a job to its FIFO list, and neither pushed a token for it nor taken it back, holds the list, and its
-- job is the last there
use Rattle.rayon_machine_places.specs.declared.place.Count.{Count}
use Rattle.rayon_machine_places.specs.declared.place.Count.TheVariants.{OfPool, OfScope, OfCast}
use Rattle.rayon_machine_places.specs.declared.place.Pieces.{Pieces}
use Rattle.std.proofs.Common.{rules, arith, refl, sym, ◌∙◌, ap, subst, inl, inr, nat_lt}
use Rattle.std.specs.Prelude.{ℕ, Bool, true, false, ◌&&◌, ◌+◌, ◌==◌, if◌then◌else◌, Option, Some, None, List, [], ◌∷◌, ◌++◌, ◌≡◌, IfSome, ◌⊎◌}
use Rattle.rayon_machine_places.specs.declared.place.Then.TheVariants.{BeginFound, LeaveWait, Resume, Await, RunFirst, Answers, Missing as NoResult, Ran, GiveBack, Called, Gathers}
use Rattle.rayon_machine_places.specs.declared.act.Seen.TheVariants.{Begun, Done, Handed, Yes}
use Rattle.rayon_machine_places.specs.declared.place.Feeding.{Feeding}
use Rattle.rayon_machine_places.specs.declared.place.Place.{Place}
use Rattle.rayon_machine_laws.proofs.Tops.{FramesOk, Tops, top_after}
use Rattle.rayon_machine_laws.proofs.ClaimRuns.{place_part, world_after}
use Rattle.rayon_machine_laws.proofs.Ties.{AllFrames, outcome, result}
use Rattle.rayon_machine_places.specs.declared.place.Place.TheVariants.{AddToFifo, LookForToken, RaiseCount, ProbeWorking, PushToken, Run, YieldSteal, FirstSide, Free, GrowCall, JoinProbe, StealFrom, TakeFromFifo, SecondSide, SetLatch, YieldPopInjected, AtOnce, BeginHere, BeginTask, JoinPop, JoinTakeCast, LocalPop, LocalTakeCast, LookQueue, LowerCount, PopIdle, PopInjected, PopWorking, PushJob, Stopped, TakeCastIdle, TakeCastWorking, UnlockSettled, YieldPop, YieldTakeCast, RaiseForAll, PushForAll, LowerForAll, GrowScope, OpenSlot, GrowCast, DealPieces}
use Rattle.rayon_machine_places.specs.declared.place.Move.{Move}
use Rattle.rayon_machine_places.specs.declared.place.Party.{Party}
use Rattle.rayon_machine_places.specs.declared.shape.PoolShape.{PoolShape}
use Rattle.rayon_machine_runs.specs.World.{but_last, Shape, World, last_of, Part, Seat, Stack, is_open, left_by, effect, fifo_back, fifo_first, fifo_in, fifo_out, fifo_undo, put_list, same_list, pop_injector, popped, take_cast, counts_at, empty_seen}
use Rattle.rayon_machine_places.specs.Sleepers.{Counts}
use Rattle.rayon_machine_places.specs.Targets.{target_pool, or_none, target_worker}
use Rattle.rayon_machine_places.specs.declared.place.Taken.{Taken}
use Rattle.rayon_machine_laws.proofs.Seats.{is_frame}
use Rattle.rayon_machine_places.specs.Places.{after_set, same_party, after_begin, finish, next_of, settle, act_of, undo, is_member, plan_job, plan_pool, plan_book, after_push, begin_cast, begin_feed, count_book, end_cast, ends_count, withdraw}
use Rattle.rayon_machine_places.specs.declared.place.Plan.TheVariants.{Feed, Here, Fork, Send, Detach, Open, Enter, Gather}
use Rattle.rayon_machine_places.specs.declared.place.Plan.{Plan}
use Rattle.rayon_machine_places.specs.declared.act.Seen.{Seen}
use Rattle.rayon_machine_places.specs.declared.place.Settling.{Settling}
use Rattle.rayon_machine_places.specs.declared.place.Then.{Then}
use Rattle.rayon_machine_places.specs.declared.place.Party.TheVariants.{Worker, Caller}
use Rattle.rayon_machine_runs.specs.Steps.{after_move, part_of}
use Rattle.rayon_machine_places.specs.declared.place.Latch.{Latch}
use Rattle.rayon_machine_laws.proofs.Frame.{if_cond, same_party_true, if_some_all, if_some_map, either, if_some_and, not_same, same_index, same_party_refl, stack_mine, stack_other, list_new, list_old, same_list_refl, same_list_true}
use Rattle.rayon_machine_places.specs.declared.place.Target.TheVariants.{Answer, Termination}
use Rattle.rayon_machine_places.specs.declared.place.Latch.TheVariants.{OfCall, Terminate}
use Rattle.rayon_machine_places.specs.declared.place.Taken.TheVariants.{Plain, Token}
use Rattle.rayon_machine_places.specs.declared.act.Act.TheVariants.{PushOwn, PushInj}
use Rattle.rayon_machine_places.specs.declared.place.Move.TheVariants.{Stay, HandBack}
use Rattle.rayon_machine_places.specs.declared.place.Share.{Share}
use Rattle.rayon_machine_laws.proofs.Lists.{SameJobs, quiet_same}
use Rattle.rayon_machine_laws.proofs.Holding.{go_frames}

-- a call that has added its job to a FIFO list, and not pushed its token
abbrev pub waits : Place → Option Feeding
waits (LookForToken f) = Some f
waits (PushToken f v) = Some f
waits (TakeFromFifo f) = Some f
waits _ = None

abbrev pub is_waiting : Place → Bool
is_waiting (LookForToken f) = true
is_waiting (PushToken f v) = true
is_waiting (TakeFromFifo f) = true
is_waiting _ = false

-- it has added the job to this list
abbrev pub waits_at : Option ℕ → Place → Bool
waits_at v (LookForToken f) = same_list v (count_book f.count)
waits_at v (PushToken f b) = same_list v (count_book f.count)
waits_at v (TakeFromFifo f) = same_list v (count_book f.count)
waits_at v _ = false

-- it is to add its job to this list
abbrev pub adds_at : Option ℕ → Place → Bool
adds_at v (AddToFifo f) = same_list v (count_book f.count)
adds_at v _ = false

-- it is to do so, or has done so
abbrev pub feeds_at : Option ℕ → Place → Bool
feeds_at v (AddToFifo f) = same_list v (count_book f.count)
feeds_at v x = waits_at v x

-- from its beginning on
abbrev pub feeds_now : Place → Option Feeding
feeds_now (RaiseCount (Feed f)) = Some f
feeds_now (OpenSlot (Feed f)) = Some f
feeds_now (AddToFifo f) = Some f
feeds_now x = waits x

-- where such a call can go on
abbrev pub is_feeding : Place → Bool
is_feeding (RaiseCount n) = true
is_feeding (OpenSlot n) = true
is_feeding (AddToFifo f) = true
is_feeding x = is_waiting x

pub waits_feeds : (x : Place) (f : Feeding) → waits x ≡ Some f → feeds_now x ≡ Some f
waits_feeds (LookForToken g) f e = e
waits_feeds (PushToken g v) f e = e
waits_feeds (TakeFromFifo g) f e = e
waits_feeds _ f e = absurd (cc)

pub waits_waiting : (x : Place) (f : Feeding) → waits x ≡ Some f → is_waiting x ≡ true
waits_waiting (LookForToken g) f e = refl
waits_waiting (PushToken g v) f e = refl
waits_waiting (TakeFromFifo g) f e = refl
waits_waiting _ f e = absurd (cc)

pub waits_at_waiting : (v : Option ℕ) (x : Place) → waits_at v x ≡ true → is_waiting x ≡ true
waits_at_waiting v (LookForToken g) e = refl
waits_at_waiting v (PushToken g b) e = refl
waits_at_waiting v (TakeFromFifo g) e = refl
waits_at_waiting v _ e = absurd (cc)

pub no_waits_at : (v : Option ℕ) (x : Place) → is_waiting x ≡ false → waits_at v x ≡ false
no_waits_at v x e = elim (either (waits_at v x)) [ inl y ↦ absurd (let a : is_waiting x ≡ true = waits_at_waiting v x y in let b : true ≡ false = sym a ∙ e in cc) | inr y ↦ y ]

waits_at_feeds : (v : Option ℕ) (x : Place) → waits_at v x ≡ true → feeds_at v x ≡ true
waits_at_feeds v (LookForToken g) e = e
waits_at_feeds v (PushToken g b) e = e
waits_at_feeds v (TakeFromFifo g) e = e
waits_at_feeds v _ e = absurd (cc)

no_feeds_adds : (v : Option ℕ) (x : Place) → feeds_at v x ≡ false → adds_at v x ≡ false
no_feeds_adds v (AddToFifo f) e = e
no_feeds_adds v _ e = refl

-- where each act leads
pub withdraw_free : (b : Option ℕ) (n : Plan) → feeds_now (withdraw b n) ≡ None
withdraw_free None n = refl
withdraw_free (Some c) n = refl

pub end_cast_free : (k : Count) (c : Pieces) → feeds_now (end_cast k c) ≡ None
end_cast_free (OfPool p) c = refl
end_cast_free (OfScope d o) c = refl
end_cast_free (OfCast d o) c = refl

finish_free : (q : Party) (t : Then) → Tops (λ y. feeds_now y ≡ None) (finish q t)
finish_free q (BeginFound g t) = refl
finish_free q (LeaveWait Termination) = refl
finish_free q (LeaveWait (Answer o f)) = refl
finish_free (Worker i j) (Await o) = refl
finish_free (Caller n) (Await o) = refl
finish_free q (RunFirst o a) = refl
finish_free q Resume = tt
finish_free q Called = tt
finish_free (Worker i j) (Gathers o) = refl
finish_free (Caller n) (Gathers o) = refl
finish_free q (Answers o f e) = tt
finish_free q (NoResult o f) = tt
finish_free q (Ran t e) = tt
finish_free q (GiveBack n) = tt

settle_free : (h : PoolShape) (q : Party) (p i : ℕ) (t : Then) → Tops (λ y. feeds_now y ≡ None) (settle h q p i t)
settle_free h q p i t = by (nat_lt i h.workers)
  where
    by : (b : Bool) → Tops (λ y. feeds_now y ≡ None) (if b then Stay (SetLatch (record { latch = Terminate; pool = p; worker = i; then = t })) else finish q t)
    by true = refl
    by false = finish_free q t

settled_free : (h : PoolShape) (q : Party) (s : Settling) (l : Latch) → Tops (λ y. feeds_now y ≡ None) (after_set h q s l)
settled_free h q s Terminate = settle_free h q s.pool (s.worker + 1) s.then
settled_free h q s (OfCall c) = finish_free q s.then

set_free : (h : PoolShape) (q : Party) (s : Settling) (e : Seen) → Tops (λ y. feeds_now y ≡ None) (next_of h q (SetLatch s) e)
set_free h q s Yes = refl
set_free h q s _ = settled_free h q s s.latch

begin_free : (x : Taken) (e : Seen) → Tops (λ y. feeds_now y ≡ None) (after_begin x e)
begin_free (Plain t) (Begun d) = refl
begin_free (Plain t) _ = refl
begin_free (Token k i b8) (Handed t d) = refl
begin_free (Token k i b8) _ = tt

lower_free : (h : PoolShape) (q : Party) (k : Count) (s : Share) (t : Then) (e : Seen) → Tops (λ y. feeds_now y ≡ None) (next_of h q (LowerCount k s t) e)
lower_free h q (OfPool p) s t Yes = settle_free h q p 0 t
lower_free h q (OfScope c (Worker i j)) s t Yes = refl
lower_free h q (OfScope c (Caller n)) s t Yes = refl
lower_free h q (OfCast c (Worker i j)) s t Yes = refl
lower_free h q (OfCast c (Caller n)) s t Yes = refl
lower_free h q k s t _ = finish_free q t

push_free : (h : PoolShape) (q : Party) (n : Plan) (v : Bool) (e : Seen) → Tops (λ y. feeds_now y ≡ None) (next_of h q (PushJob n v) e)
push_free h q n v Done = refl
push_free h q n v _ = withdraw_free (plan_book n) n

begin_cast_free : (k : Count) (c : Pieces) → feeds_now (begin_cast k c) ≡ None
begin_cast_free (OfPool p) c = refl
begin_cast_free (OfScope d o) c = refl
begin_cast_free (OfCast d o) c = refl

ends_free : (k : Count) → feeds_now (ends_count k) ≡ None
ends_free (OfPool p) = refl
ends_free (OfScope d (Worker i j)) = refl
ends_free (OfScope d (Caller n)) = refl
ends_free (OfCast d (Worker i j)) = refl
ends_free (OfCast d (Caller n)) = refl

raise_all_free : (h : PoolShape) (q : Party) (c : Pieces) (e : Seen) → Tops (λ y. feeds_now y ≡ None) (next_of h q (RaiseForAll c) e)
raise_all_free h q c Done = begin_cast_free c.count c
raise_all_free h q c _ = tt

push_all_free : (h : PoolShape) (q : Party) (c : Pieces) (e : Seen) → Tops (λ y. feeds_now y ≡ None) (next_of h q (PushForAll c) e)
push_all_free h q c Done = refl
push_all_free h q c _ = end_cast_free c.count c

lower_all_free : (h : PoolShape) (q : Party) (c : Pieces) (e : Seen) → Tops (λ y. feeds_now y ≡ None) (next_of h q (LowerForAll c) e)
lower_all_free h q c Yes = ends_free c.count
lower_all_free h q c _ = tt

no_feed : (h : Shape) (g : PoolShape) (q : Party) (c : Counts) (m : Part) (x : Place) → is_feeding x ≡ false → IfSome (effect (act_of q x) h q c m) (λ r. Tops (λ y. feeds_now y ≡ None) (next_of g q x (r.0)))
no_feed h g (Worker i j) c m (ProbeWorking k) z = search (rules, arith)
no_feed h g q c m (SetLatch s) z = if_some_all {A = Seen × Part} (λ r. Tops (λ y. feeds_now y ≡ None) (next_of g q (SetLatch s) (r.0))) (λ r. set_free g q s (r.0)) (effect (act_of q (SetLatch s)) h q c m)
no_feed h g q c m (BeginTask x) z = if_some_all {A = Seen × Part} (λ r. Tops (λ y. feeds_now y ≡ None) (after_begin x (r.0))) (λ r. begin_free x (r.0)) (effect (act_of q (BeginTask x)) h q c m)
no_feed h g q c m (UnlockSettled s) z = if_some_all {A = Seen × Part} (λ r. Tops (λ y. feeds_now y ≡ None) (next_of g q (UnlockSettled s) (r.0))) (λ r. settled_free g q s s.latch) (effect (act_of q (UnlockSettled s)) h q c m)
no_feed h g q c m (RaiseCount n) z = cc
no_feed h g q c m (OpenSlot n) z = cc
no_feed h g q c m (LowerCount k s t) z = if_some_all {A = Seen × Part} (λ r. Tops (λ y. feeds_now y ≡ None) (next_of g q (LowerCount k s t) (r.0))) (λ r. lower_free g q k s t (r.0)) (effect (act_of q (LowerCount k s t)) h q c m)
no_feed h g q c m (PushJob n v) z = if_some_all {A = Seen × Part} (λ r. Tops (λ y. feeds_now y ≡ None) (next_of g q (PushJob n v) (r.0))) (λ r. push_free g q n v (r.0)) (effect (act_of q (PushJob n v)) h q c m)
no_feed h g q c m (RaiseForAll b) z = if_some_all {A = Seen × Part} (λ r. Tops (λ y. feeds_now y ≡ None) (next_of g q (RaiseForAll b) (r.0))) (λ r. raise_all_free g q b (r.0)) (effect (act_of q (RaiseForAll b)) h q c m)
no_feed h g q c m (PushForAll b) z = if_some_all {A = Seen × Part} (λ r. Tops (λ y. feeds_now y ≡ None) (next_of g q (PushForAll b) (r.0))) (λ r. push_all_free g q b (r.0)) (effect (act_of q (PushForAll b)) h q c m)
no_feed h g q c m (LowerForAll b) z = if_some_all {A = Seen × Part} (λ r. Tops (λ y. feeds_now y ≡ None) (next_of g q (LowerForAll b) (r.0))) (λ r. lower_all_free g q b (r.0)) (effect (act_of q (LowerForAll b)) h q c m)
no_feed h g q c m (AddToFifo f) z = cc
no_feed h g q c m (LookForToken f) z = cc
no_feed h g q c m (PushToken f v) z = cc
no_feed h g q c m (TakeFromFifo f) z = cc
no_feed h g (Worker i j) c m _ z = search (rules, arith)
no_feed h g (Caller n) c m _ z = search (rules, arith)

-- what an act does to the holder of a FIFO list of the seat that it touches. Where another party holds the list, nothing
abbrev pub Closed : Party → Part → Seen × Part → Option ℕ → Type 0
Closed q m r v = is_open q (m.seat.feeder v) ≡ false → (r.1.seat.feeder v ≡ m.seat.feeder v) × (r.1.seat.fifo v ≡ m.seat.fifo v)

-- and where nobody does, only the adding of a job takes it
abbrev pub KeptAt : Party → Place → Part → Seen × Part → Option ℕ → Type 0
KeptAt q x m r v = Closed q m r v × (adds_at v x ≡ false → m.seat.feeder v ≡ None → r.1.seat.feeder v ≡ None)

abbrev pub FeederKept : Party → Place → Part → Seen × Part → Type 0
FeederKept q x m r = (v : Option ℕ) → KeptAt q x m r v

pop_feeder : (q : Party) (x : Place) (m : Part) (rest : List ℕ) (o : Option ℕ) → IfSome (popped q m rest o) (FeederKept q x m)
pop_feeder q x m rest None = λ v. (λ z. (refl, refl), λ n z. z)
pop_feeder q x m rest (Some t) = λ v. (λ z. (refl, refl), λ n z. z)

inj_feeder : (q : Party) (x : Place) (m : Part) (l : List ℕ) → IfSome (pop_injector q m l) (FeederKept q x m)
inj_feeder q x m [] = λ v. (λ z. (refl, refl), λ n z. z)
inj_feeder q x m (t ∷ ts) = λ v. (λ z. (refl, refl), λ n z. z)

cast_feeder : (q : Party) (x : Place) (m : Part) (l : List ℕ) → IfSome (take_cast q m l) (FeederKept q x m)
cast_feeder q x m [] = λ v. (λ z. (refl, refl), λ n z. z)
cast_feeder q x m (t ∷ ts) = λ v. (λ z. (refl, refl), λ n z. z)

-- a list, where one is another for one list
pub list_at : {A : Type 0} (P : A → Type 0) (f : Option ℕ → A) (b : Option ℕ) (x : A) (v : Option ℕ) → (v ≡ b → P x) → P (f v) → P (put_list f b x v)
list_at P f b x v new old = by (same_list v b) refl
  where
    by : (z : Bool) → same_list v b ≡ z → P (if z then x else f v)
    by true z = new (same_list_true v b z)
    by false z = old

left_closed : (q : Party) (o : Option Party) → is_open q o ≡ false → left_by q o ≡ o
left_closed q None z = cc
left_closed q (Some r) z = rw z refl

left_none : (q : Party) (o : Option Party) → o ≡ None → left_by q o ≡ None
left_none q None z = refl
left_none q (Some r) z = cc

-- what an act does to the holders and the lists of a seat, which were f and l, and are g and k
abbrev SeatKept : Party → Place → (Option ℕ → Option Party) → (Option ℕ → Option Party) → (Option ℕ → List ℕ) → (Option ℕ → List ℕ) → Option ℕ → Type 0
SeatKept q x f g l k v = (is_open q (f v) ≡ false → (g v ≡ f v) × (k v ≡ l v)) × (adds_at v x ≡ false → f v ≡ None → g v ≡ None)

-- a party leaves a list
left_kept : (q : Party) (x : Place) (f : Option ℕ → Option Party) (l : Option ℕ → List ℕ) (b v : Option ℕ) → SeatKept q x f (put_list f b (left_by q (f b))) l l v
left_kept q x f l b v = (λ z. (list_at (λ o. o ≡ f v) f b (left_by q (f b)) v (λ i. ap (λ c. left_by q (f c)) (sym i) ∙ left_closed q (f v) z) refl, refl), λ n z. list_at (λ o. o ≡ None) f b (left_by q (f b)) v (λ i. left_none q (f b) (ap f (sym i) ∙ z)) z)

push_feeder : (h : Shape) (q : Party) (c : Counts) (m : Part) (x : Place) (t p : ℕ) (k : Option ℕ) (b : Bool) → IfSome (effect (if b then PushOwn t k else PushInj p t k) h q c m) (FeederKept q x m)
push_feeder h q c m x t p k true = λ v. left_kept q x m.seat.feeder m.seat.fifo k v
push_feeder h q c m x t p k false = λ v. (λ z. (refl, refl), λ n z. z)

-- an act on a list that the party may use, and on no other
open_kept : (q : Party) (x : Place) (f g : Option ℕ → Option Party) (l k : Option ℕ → List ℕ) (b : Option ℕ) → is_open q (f b) ≡ true → ((v : Option ℕ) → same_list v b ≡ false → (g v ≡ f v) × (k v ≡ l v)) → (adds_at b x ≡ false → f b ≡ None → g b ≡ None) → (v : Option ℕ) → SeatKept q x f g l k v
open_kept q x f g l k b o e n v = by (same_list v b) refl
  where
    by : (z : Bool) → same_list v b ≡ z → SeatKept q x f g l k v
    by true z = subst (SeatKept q x f g l k) (sym (same_list_true v b z)) (λ y. absurd (let a : true ≡ false = sym o ∙ y in cc), n)
    by false z = let a : (g v ≡ f v) × (k v ≡ l v) = e v z in (λ y. a, λ y i. a.0 ∙ i)

add_feeder : (q : Party) (f : Feeding) (m : Part) (t : ℕ) → IfSome (fifo_in q m t (count_book f.count)) (FeederKept q (AddToFifo f) m)
add_feeder q f m t = if_cond (FeederKept q (AddToFifo f) m) (is_open q (m.seat.feeder b)) _ (λ o v. open_kept q (AddToFifo f) m.seat.feeder (put_list m.seat.feeder b (Some q)) m.seat.fifo (put_list m.seat.fifo b (m.seat.fifo b ++ t ∷ [])) b o
    (λ k z. (list_old m.seat.feeder b (Some q) k z, list_old m.seat.fifo b (m.seat.fifo b ++ t ∷ []) k z)) own v)
  where
    b : Option ℕ
    b = count_book f.count

    own : adds_at b (AddToFifo f) ≡ false → m.seat.feeder b ≡ None → put_list m.seat.feeder b (Some q) b ≡ None
    own y n = absurd (let a : same_list b b ≡ true = same_list_refl b in let c : true ≡ false = sym a ∙ y in cc)

undo_feeder : (q : Party) (x : Place) (m : Part) (b : Option ℕ) → IfSome (fifo_undo q m b) (FeederKept q x m)
undo_feeder q x m b = by (is_open q (m.seat.feeder b)) refl
  where
    back : is_open q (m.seat.feeder b) ≡ true → (o : Option ℕ) → IfSome (fifo_back q m b o) (FeederKept q x m)
    back z None = λ v. (λ y. (refl, refl), λ n y. y)
    back z (Some t) = λ v. open_kept q x m.seat.feeder (put_list m.seat.feeder b None) m.seat.fifo (put_list m.seat.fifo b (but_last (m.seat.fifo b))) b z (λ k y. (list_old m.seat.feeder b None k y, list_old m.seat.fifo b (but_last (m.seat.fifo b)) k y)) (λ y n. list_new m.seat.feeder b None) v

    by : (z : Bool) → is_open q (m.seat.feeder b) ≡ z → IfSome (if z then fifo_back q m b (last_of (m.seat.fifo b)) else None) (FeederKept q x m)
    by true z = back z (last_of (m.seat.fifo b))
    by false z = tt

out_feeder : (q : Party) (x : Place) (m : Part) (b : Option ℕ) → IfSome (fifo_out q m b) (FeederKept q x m)
out_feeder q x m b = by (is_open q (m.seat.feeder b)) refl
  where
    first : is_open q (m.seat.feeder b) ≡ true → (l : List ℕ) → IfSome (fifo_first q m b l) (FeederKept q x m)
    first z [] = λ v. (λ y. (refl, refl), λ n y. y)
    first z (t ∷ ts) = λ v. open_kept q x m.seat.feeder m.seat.feeder m.seat.fifo (put_list m.seat.fifo b ts) b z (λ k y. (refl, list_old m.seat.fifo b ts k y)) (λ y n. n) v

    by : (z : Bool) → is_open q (m.seat.feeder b) ≡ z → IfSome (if z then fifo_first q m b (m.seat.fifo b) else None) (FeederKept q x m)
    by true z = first z (m.seat.fifo b)
    by false z = tt

pub feeder_table : (h : Shape) (q : Party) (c : Counts) (m : Part) (x : Place) → IfSome (effect (act_of q x) h q c m) (FeederKept q x m)
feeder_table h (Worker a b) c m (PopWorking k) = pop_feeder (Worker a b) (PopWorking k) m _ _
feeder_table h (Caller n) c m (PopWorking k) = tt
feeder_table h (Worker a b) c m (PopIdle k) = pop_feeder (Worker a b) (PopIdle k) m _ _
feeder_table h (Caller n) c m (PopIdle k) = tt
feeder_table h (Worker a b) c m (JoinPop o) = pop_feeder (Worker a b) (JoinPop o) m _ _
feeder_table h (Caller n) c m (JoinPop o) = tt
feeder_table h (Worker a b) c m YieldPop = pop_feeder (Worker a b) YieldPop m _ _
feeder_table h (Caller n) c m YieldPop = tt
feeder_table h (Worker a b) c m LocalPop = pop_feeder (Worker a b) LocalPop m _ _
feeder_table h (Caller n) c m LocalPop = tt
feeder_table h (Worker a b) c m (StealFrom k n) = pop_feeder (Worker a b) (StealFrom k n) m _ _
feeder_table h (Caller g) c m (StealFrom k n) = tt
feeder_table h (Worker a b) c m (YieldSteal v n) = pop_feeder (Worker a b) (YieldSteal v n) m _ _
feeder_table h (Caller g) c m (YieldSteal v n) = tt
feeder_table h (Worker a b) c m (PopInjected k) = inj_feeder (Worker a b) (PopInjected k) m m.pool.injector
feeder_table h (Caller n) c m (PopInjected k) = tt
feeder_table h (Worker a b) c m YieldPopInjected = inj_feeder (Worker a b) YieldPopInjected m m.pool.injector
feeder_table h (Caller n) c m YieldPopInjected = tt
feeder_table h (Worker a b) c m (TakeCastWorking k) = cast_feeder (Worker a b) (TakeCastWorking k) m (m.pool.casts b)
feeder_table h (Caller n) c m (TakeCastWorking k) = tt
feeder_table h (Worker a b) c m (TakeCastIdle k) = cast_feeder (Worker a b) (TakeCastIdle k) m (m.pool.casts b)
feeder_table h (Caller n) c m (TakeCastIdle k) = tt
feeder_table h (Worker a b) c m (JoinTakeCast o) = cast_feeder (Worker a b) (JoinTakeCast o) m (m.pool.casts b)
feeder_table h (Caller n) c m (JoinTakeCast o) = tt
feeder_table h (Worker a b) c m YieldTakeCast = cast_feeder (Worker a b) YieldTakeCast m (m.pool.casts b)
feeder_table h (Caller n) c m YieldTakeCast = tt
feeder_table h (Worker a b) c m LocalTakeCast = cast_feeder (Worker a b) LocalTakeCast m (m.pool.casts b)
feeder_table h (Caller n) c m LocalTakeCast = tt
feeder_table h (Worker a b) c m (PushJob n v) = push_feeder h (Worker a b) c m (PushJob n v) (plan_job n) (plan_pool n) (plan_book n) (is_member (Worker a b) (plan_pool n))
feeder_table h (Caller g) c m (PushJob n v) = push_feeder h (Caller g) c m (PushJob n v) (plan_job n) (plan_pool n) (plan_book n) (is_member (Caller g) (plan_pool n))
feeder_table h (Worker a b) c m (PushToken f v) = λ k. left_kept (Worker a b) (PushToken f v) m.seat.feeder m.seat.fifo (count_book f.count) k
feeder_table h (Caller g) c m (PushToken f v) = tt
feeder_table h (Worker a b) c m (AddToFifo f) = add_feeder (Worker a b) f m f.job
feeder_table h (Caller g) c m (AddToFifo f) = tt
feeder_table h (Worker a b) c m (TakeFromFifo f) = undo_feeder (Worker a b) (TakeFromFifo f) m (count_book f.count)
feeder_table h (Caller g) c m (TakeFromFifo f) = tt
feeder_table h q c m (BeginTask (Plain u)) = λ v. (λ z. (refl, refl), λ n z. z)
feeder_table h q c m (BeginTask (Token k i b)) = out_feeder q (BeginTask (Token k i b)) m b
feeder_table h q c m (BeginHere u) = λ v. (λ z. (refl, refl), λ n z. z)
feeder_table h q c m (PushForAll b) = λ v. (λ z. (refl, refl), λ n z. z)
feeder_table h q c m (DealPieces g) = λ v. (λ z. (refl, refl), λ n z. z)
feeder_table h q c m x = if_some_map (SameJobs m) (FeederKept q x m) (λ r s v. (λ z. (ap (λ f. f v) s.feeder, ap (λ f. f v) s.fifo), λ n z. ap (λ f. f v) s.feeder ∙ z)) (effect (act_of q x) h q c m) (quiet_same h q c m x refl)

pub last_push : (l : List ℕ) (t : ℕ) → last_of (l ++ t ∷ []) ≡ Some t
last_push [] t = refl
last_push (v ∷ []) t = refl
last_push (v ∷ y ∷ vs) t = last_push (y ∷ vs) t

-- what holds of the FIFO lists of every world
pub record FeedersHold (w : World) : Type 0 where
  pub frames : FramesOk w
  pub feeds : (p i : ℕ) (f : Feeding) → waits ((w.stack (Worker p i)).top) ≡ Some f → ((w.seat p i).feeder (count_book f.count) ≡ Some (Worker p i)) × (last_of ((w.seat p i).fifo (count_book f.count)) ≡ Some f.job)
  pub held : (p i : ℕ) (v : Option ℕ) (g : Party) → (w.seat p i).feeder v ≡ Some g → (g ≡ Worker p i) × (waits_at v ((w.stack g).top) ≡ true)
  pub pairs : (q : Party) (f : Feeding) → feeds_now ((w.stack q).top) ≡ Some f → f.token ≡ f.job + 1

-- a worker holds this list of the seat, and has added this call's job last
abbrev pub HeldLast : Party → Seat → Feeding → Type 0
HeldLast q s f = (s.feeder (count_book f.count) ≡ Some q) × (last_of (s.fifo (count_book f.count)) ≡ Some f.job)

-- a party's act, by where it leads and what it leaves of the seat that it touches
record Fed (w : World) (q : Party) (x : Place) (r : Seen × Part) (y : Place) : Type 0 where
  coming : (f : Feeding) → feeds_now y ≡ Some f → feeds_now x ≡ Some f
  stands : (f : Feeding) → waits y ≡ Some f → (q ≡ Worker (target_pool q (act_of q x)) (target_worker q (act_of q x))) × HeldLast q r.1.seat f
  adds : (v : Option ℕ) → feeds_at v x ≡ true → (q ≡ Worker (target_pool q (act_of q x)) (target_worker q (act_of q x))) × ((r.1.seat.feeder v ≡ None) ⊎ ((r.1.seat.feeder v ≡ Some q) × (waits_at v y ≡ true)))

pub some_feeding : (f g : Feeding) → Some f ≡ Some g → f ≡ g
some_feeding f g e = cc

no_feeds_at : (v : Option ℕ) (x : Place) → is_feeding x ≡ false → feeds_at v x ≡ false
no_feeds_at v (AddToFifo f) e = cc
no_feeds_at v (LookForToken f) e = cc
no_feeds_at v (PushToken f b) e = cc
no_feeds_at v (TakeFromFifo f) e = cc
no_feeds_at v _ e = refl

free_fed : (w : World) (q : Party) (x : Place) (r : Seen × Part) (y : Place) → ((v : Option ℕ) → feeds_at v x ≡ false) → feeds_now y ≡ None → Fed w q x r y
free_fed w q x r y z e = record {
  coming = λ f a. absurd (cc);
  stands = λ f a. absurd (let b : feeds_now y ≡ Some f = waits_feeds y f a in cc);
  adds = λ v a. absurd (let b : true ≡ false = sym a ∙ z v in cc);
}

abbrev Feds : World → Party → Place → List Place → Type 0
Feds w q x fs = IfSome (outcome w q (record { top = x; below = fs })) (λ r. Fed w q x r ((after_move (next_of (w.shape.pool (target_pool q (act_of q x))) q x (r.0)) fs).top))

frame_free : (f : Place) → is_frame f ≡ true → feeds_now f ≡ None
frame_free (ProbeWorking k) e = refl
frame_free (JoinProbe o) e = refl
frame_free (FirstSide o a) e = refl
frame_free (SecondSide o) e = refl
frame_free (AtOnce p t) e = refl
frame_free (Run t k) e = refl
frame_free Free e = refl
frame_free Stopped e = refl
frame_free _ e = cc

back_free : (g : Move) (fs : List Place) → AllFrames fs → Tops (λ y. feeds_now y ≡ None) g → feeds_now ((after_move g fs).top) ≡ None
back_free g fs a t = top_after (λ y. feeds_now y ≡ None) g fs t frame_free a

raise_fed : (w : World) (q : Party) (n : Plan) (fs : List Place) → AllFrames fs → Feds w q (RaiseCount n) fs
raise_fed w q n fs a = if_some_all {A = Seen × Part} (λ r. Fed w q (RaiseCount n) r ((after_move (next_of (w.shape.pool (target_pool q (act_of q (RaiseCount n)))) q (RaiseCount n) (r.0)) fs).top)) (λ r. by n (r.0) r) (outcome w q (record { top = RaiseCount n; below = fs }))
  where
    begun : (k : Count) (f g : Feeding) → feeds_now (begin_feed k f) ≡ Some g → Some f ≡ Some g
    begun (OfPool p) f g z = z
    begun (OfScope c o) f g z = z
    begun (OfCast c o) f g z = z

    begun_free : (k : Count) (f : Feeding) → waits (begin_feed k f) ≡ None
    begun_free (OfPool p) f = refl
    begun_free (OfScope c o) f = refl
    begun_free (OfCast c o) f = refl

    by : (n : Plan) (e : Seen) (r : Seen × Part) → Fed w q (RaiseCount n) r ((after_move (next_of (w.shape.pool (target_pool q (act_of q (RaiseCount n)))) q (RaiseCount n) e) fs).top)
    by (Feed f) Done r = record { coming = λ g z. begun f.count f g z; stands = λ g z. absurd (let b : waits (begin_feed f.count f) ≡ None = begun_free f.count f in cc); adds = λ v z. absurd (cc) }
    by (Detach p t) Done r = free_fed w q (RaiseCount (Detach p t)) r (LookQueue (Detach p t)) (λ v. refl) refl
    by (Here p t) Done r = free_fed w q (RaiseCount (Here p t)) r (BeginHere t) (λ v. refl) refl
    by (Send o) Done r = free_fed w q (RaiseCount (Send o)) r (GrowCall (Send o)) (λ v. refl) refl
    by (Fork o b) Done r = free_fed w q (RaiseCount (Fork o b)) r (GrowCall (Fork o b)) (λ v. refl) refl
    by (Open o) Done r = free_fed w q (RaiseCount (Open o)) r (GrowScope o) (λ v. refl) refl
    by (Enter o) Done r = free_fed w q (RaiseCount (Enter o)) r (OpenSlot (Enter o)) (λ v. refl) refl
    by (Gather g) Done r = free_fed w q (RaiseCount (Gather g)) r (GrowCast g) (λ v. refl) refl
    by n _ r = free_fed w q (RaiseCount n) r ((after_move (HandBack n) fs).top) (λ v. refl) (back_free (HandBack n) fs a tt)

-- a spawn into a scope has opened a number of its book
slot_fed : (w : World) (q : Party) (n : Plan) (fs : List Place) → Feds w q (OpenSlot n) fs
slot_fed w q n fs = if_some_all {A = Seen × Part} (λ r. Fed w q (OpenSlot n) r ((after_move (next_of (w.shape.pool (target_pool q (act_of q (OpenSlot n)))) q (OpenSlot n) (r.0)) fs).top)) (λ r. by n (r.0) r) (outcome w q (record { top = OpenSlot n; below = fs }))
  where
    by : (n : Plan) (e : Seen) (r : Seen × Part) → Fed w q (OpenSlot n) r ((after_move (next_of (w.shape.pool (target_pool q (act_of q (OpenSlot n)))) q (OpenSlot n) e) fs).top)
    by (Feed f) Done r = record { coming = λ g z. z; stands = λ g z. absurd (cc); adds = λ v z. absurd (cc) }
    by (Detach p t) Done r = free_fed w q (OpenSlot (Detach p t)) r (LookQueue (Detach p t)) (λ v. refl) refl
    by (Here p t) Done r = free_fed w q (OpenSlot (Here p t)) r (LookQueue (Here p t)) (λ v. refl) refl
    by (Send o) Done r = free_fed w q (OpenSlot (Send o)) r (LookQueue (Send o)) (λ v. refl) refl
    by (Fork o b) Done r = free_fed w q (OpenSlot (Fork o b)) r (LookQueue (Fork o b)) (λ v. refl) refl
    by (Open o) Done r = free_fed w q (OpenSlot (Open o)) r (LookQueue (Open o)) (λ v. refl) refl
    by (Enter o) Done r = free_fed w q (OpenSlot (Enter o)) r (LookQueue (Enter o)) (λ v. refl) refl
    by (Gather g) Done r = free_fed w q (OpenSlot (Gather g)) r (LookQueue (Gather g)) (λ v. refl) refl
    by n _ r = free_fed w q (OpenSlot n) r (undo n) (λ v. refl) refl

-- the job is added to its list, which the worker holds then
add_fed : (w : World) (a b : ℕ) (f : Feeding) (fs : List Place) → Feds w (Worker a b) (AddToFifo f) fs
add_fed w a b f fs = if_cond (λ (r : Seen × Part). Fed w (Worker a b) (AddToFifo f) r ((after_move (next_of (w.shape.pool a) (Worker a b) (AddToFifo f) (r.0)) fs).top)) (is_open (Worker a b) ((w.seat a b).feeder k)) _ (λ o. record {
  coming = λ g e. e;
  stands = λ g e. (refl, subst (HeldLast (Worker a b) (record (w.seat a b) { fifo = lists; feeder = feeders })) (some_feeding f g e) (mine, last));
  adds = λ v e. (refl, inr (subst (λ c. feeders c ≡ Some (Worker a b)) (sym (same_list_true v k e)) mine, e));
})
  where
    k : Option ℕ
    k = count_book f.count

    lists : Option ℕ → List ℕ
    lists = put_list (w.seat a b).fifo k ((w.seat a b).fifo k ++ f.job ∷ [])

    feeders : Option ℕ → Option Party
    feeders = put_list (w.seat a b).feeder k (Some (Worker a b))

    mine : feeders k ≡ Some (Worker a b)
    mine = list_new (w.seat a b).feeder k (Some (Worker a b))

    last : last_of (lists k) ≡ Some f.job
    last = ap last_of (list_new (w.seat a b).fifo k ((w.seat a b).fifo k ++ f.job ∷ [])) ∙ last_push ((w.seat a b).fifo k) f.job

-- the own deque is looked at
look_fed : (w : World) (a b : ℕ) (f : Feeding) (fs : List Place) → HeldLast (Worker a b) (w.seat a b) f → Feds w (Worker a b) (LookForToken f) fs
look_fed w a b f fs said = by ((w.seat a b).own)
  where
    at : (v : Option ℕ) → same_list v (count_book f.count) ≡ true → (w.seat a b).feeder v ≡ Some (Worker a b)
    at v e = subst (λ c. (w.seat a b).feeder c ≡ Some (Worker a b)) (sym (same_list_true v (count_book f.count) e)) (said.0)

    by : (l : List ℕ) → Fed w (Worker a b) (LookForToken f) (empty_seen l, part_of w a b 0 0) ((after_move (next_of (w.shape.pool a) (Worker a b) (LookForToken f) (empty_seen l)) fs).top)
    by [] = record { coming = λ g e. e; stands = λ g e. (refl, subst (HeldLast (Worker a b) (w.seat a b)) (some_feeding f g e) said); adds = λ v e. (refl, inr (at v e, e)) }
    by (t ∷ ts) = record { coming = λ g e. e; stands = λ g e. (refl, subst (HeldLast (Worker a b) (w.seat a b)) (some_feeding f g e) said); adds = λ v e. (refl, inr (at v e, e)) }

-- the token is pushed, and the list is left
push_fed : (w : World) (a b : ℕ) (f : Feeding) (t : Bool) (fs : List Place) → HeldLast (Worker a b) (w.seat a b) f → Feds w (Worker a b) (PushToken f t) fs
push_fed w a b f t fs said = record { coming = λ g e. absurd (cc); stands = λ g e. absurd (cc); adds = λ v e. (refl, inl (gone v e)) }
  where
    k : Option ℕ
    k = count_book f.count

    left : left_by (Worker a b) ((w.seat a b).feeder k) ≡ None
    left = subst (λ o. left_by (Worker a b) o ≡ None) (sym (said.0)) (let y : same_party (Worker a b) (Worker a b) ≡ true = same_party_refl (Worker a b) in rw y refl)

    gone : (v : Option ℕ) → same_list v k ≡ true → put_list (w.seat a b).feeder k (left_by (Worker a b) ((w.seat a b).feeder k)) v ≡ None
    gone v e = rw e left

-- the job is taken back, and the list is left
take_fed : (w : World) (a b : ℕ) (f : Feeding) (fs : List Place) → HeldLast (Worker a b) (w.seat a b) f → Feds w (Worker a b) (TakeFromFifo f) fs
take_fed w a b f fs said = by (is_open (Worker a b) ((w.seat a b).feeder k))
  where
    k : Option ℕ
    k = count_book f.count

    m : Part
    m = part_of w a b 0 (or_none (last_of ((w.seat a b).fifo k)))

    P : Seen × Part → Type 0
    P r = Fed w (Worker a b) (TakeFromFifo f) r ((after_move (next_of (w.shape.pool a) (Worker a b) (TakeFromFifo f) (r.0)) fs).top)

    free : (u : ℕ) → feeds_now (after_push (Feed (record f { job = u }))) ≡ None
    free u = withdraw_free k (Feed (record f { job = u }))

    gone : (v : Option ℕ) → same_list v k ≡ true → put_list (w.seat a b).feeder k None v ≡ None
    gone v e = rw e refl

    taken : (o : Option ℕ) → last_of ((w.seat a b).fifo k) ≡ o → IfSome (fifo_back (Worker a b) m k o) P
    taken None e = absurd (let s : Some f.job ≡ None = sym (said.1) ∙ e in cc)
    taken (Some u) e = record {
      coming = λ g y. absurd (let n : feeds_now (after_push (Feed (record f { job = u }))) ≡ None = free u in let c : Some g ≡ None = sym y ∙ n in cc);
      stands = λ g y. absurd (let n : feeds_now (after_push (Feed (record f { job = u }))) ≡ None = free u in let c : feeds_now (after_push (Feed (record f { job = u }))) ≡ Some g = waits_feeds (after_push (Feed (record f { job = u }))) g y in let d : Some g ≡ None = sym c ∙ n in cc);
      adds = λ v y. (refl, inl (gone v y));
    }

    by : (c : Bool) → IfSome (if c then fifo_back (Worker a b) m k (last_of ((w.seat a b).fifo k)) else None) P
    by true = taken (last_of ((w.seat a b).fifo k)) refl
    by false = tt

own_fed : (w : World) (q : Party) (x : Place) (fs : List Place) → w.stack q ≡ record { top = x; below = fs } → FeedersHold w → Feds w q x fs
own_fed w (Worker a b) (AddToFifo f) fs z h = add_fed w a b f fs
own_fed w (Caller c) (AddToFifo f) fs z h = tt
own_fed w (Worker a b) (LookForToken f) fs z h = look_fed w a b f fs (h.feeds a b f (ap (λ k. waits (k.top)) z))
own_fed w (Caller c) (LookForToken f) fs z h = tt
own_fed w (Worker a b) (PushToken f v) fs z h = push_fed w a b f v fs (h.feeds a b f (ap (λ k. waits (k.top)) z))
own_fed w (Caller c) (PushToken f v) fs z h = tt
own_fed w (Worker a b) (TakeFromFifo f) fs z h = take_fed w a b f fs (h.feeds a b f (ap (λ k. waits (k.top)) z))
own_fed w (Caller c) (TakeFromFifo f) fs z h = tt
own_fed w q (OpenSlot n) fs z h = slot_fed w q n fs
own_fed w q (RaiseCount n) fs z h = raise_fed w q n fs (subst (λ k. AllFrames (k.below)) z (h.frames q))
own_fed w q x fs z h = if_some_map (λ r. Tops (λ y. feeds_now y ≡ None) (next_of (w.shape.pool (target_pool q (act_of q x))) q x (r.0))) (λ r. Fed w q x r ((after_move (next_of (w.shape.pool (target_pool q (act_of q x))) q x (r.0)) fs).top)) (λ r t. free_fed w q x r ((after_move (next_of (w.shape.pool (target_pool q (act_of q x))) q x (r.0)) fs).top) (λ v. no_feeds_at v x refl) (back_free (next_of (w.shape.pool (target_pool q (act_of q x))) q x (r.0)) fs (subst (λ k. AllFrames (k.below)) z (h.frames q)) t)) (outcome w q (record { top = x; below = fs }))
    (no_feed w.shape (w.shape.pool (target_pool q (act_of q x))) q (counts_at w (target_pool q (act_of q x))) (place_part w q x) x refl)

-- each act keeps who holds the lists
act_feeders : (w : World) (q : Party) (x : Place) (fs : List Place) (r : Seen × Part) → w.stack q ≡ record { top = x; below = fs } → FeedersHold w → FramesOk (world_after w q x fs r) → Fed w q x r ((after_move (next_of (w.shape.pool (target_pool q (act_of q x))) q x (r.0)) fs).top) → FeederKept q x (place_part w q x) r → FeedersHold (world_after w q x fs r)
act_feeders w q x fs r z h fr d k = record {
  frames = fr;
  feeds = λ p i f e. feeds p i f (same_party (Worker p i) q) ((p == p0) && (i == i0)) refl refl e;
  held = λ p i v g e. held p i v g ((p == p0) && (i == i0)) refl e;
  pairs = λ s f e. pairs s f (same_party s q) refl e;
}
  where
    p0 : ℕ
    p0 = target_pool q (act_of q x)

    i0 : ℕ
    i0 = target_worker q (act_of q x)

    k1 : Stack
    k1 = after_move (next_of (w.shape.pool p0) q x (r.0)) fs

    -- this party stands so that it holds the list, after the act and before it
    Stands : ℕ → ℕ → Option ℕ → Party → Type 0
    Stands p i v g = (g ≡ Worker p i) × (waits_at v (((world_after w q x fs r).stack g).top) ≡ true)

    Stood : ℕ → ℕ → Option ℕ → Party → Type 0
    Stood p i v g = (g ≡ Worker p i) × (waits_at v ((w.stack g).top) ≡ true)

    mine : (w.stack q).top ≡ x
    mine = ap (λ v. v.top) z

    pairs : (s : Party) (f : Feeding) (b : Bool) → same_party s q ≡ b → feeds_now ((if b then k1 else w.stack s).top) ≡ Some f → f.token ≡ f.job + 1
    pairs s f true y e = h.pairs q f (ap feeds_now mine ∙ d.coming f e)
    pairs s f false y e = h.pairs s f e

    -- a seat whose list another party holds
    shut : (p i : ℕ) (v : Option ℕ) (g : Party) → (p ≡ p0) × (i ≡ i0) → same_party q g ≡ false → (w.seat p i).feeder v ≡ Some g → (r.1.seat.feeder v ≡ (w.seat p i).feeder v) × (r.1.seat.fifo v ≡ (w.seat p i).fifo v)
    shut p i v g is o e = let at : w.seat p0 i0 ≡ w.seat p i = ap (λ n. w.seat n i0) (sym (is.0)) ∙ ap (λ n. w.seat p n) (sym (is.1)) in
        let c : (r.1.seat.feeder v ≡ (w.seat p0 i0).feeder v) × (r.1.seat.fifo v ≡ (w.seat p0 i0).fifo v) = (k v).0 (ap (λ s. is_open q (s.feeder v)) at ∙ ap (is_open q) e ∙ o) in (c.0 ∙ ap (λ s. s.feeder v) at, c.1 ∙ ap (λ s. s.fifo v) at)

    feeds : (p i : ℕ) (f : Feeding) (b c : Bool) → same_party (Worker p i) q ≡ b → ((p == p0) && (i == i0)) ≡ c → waits ((if b then k1 else w.stack (Worker p i)).top) ≡ Some f → HeldLast (Worker p i) (if c then r.1.seat else w.seat p i) f
    feeds p i f true c y u e =
        let is : Worker p i ≡ q = same_party_true (Worker p i) q y in
        let s : (q ≡ Worker p0 i0) × HeldLast q r.1.seat f = d.stands f e in
        let here : same_party (Worker p i) (Worker p0 i0) ≡ true = ap (same_party (Worker p i)) (sym (s.0)) ∙ y in
        let at : true ≡ c = sym here ∙ u in
        subst (λ v. HeldLast (Worker p i) (if v then r.1.seat else w.seat p i) f) at ((s.1).0 ∙ ap Some (sym is), (s.1).1)
    feeds p i f false false y u e = h.feeds p i f e
    feeds p i f false true y u e =
        let v : Option ℕ = count_book f.count in
        let s : HeldLast (Worker p i) (w.seat p i) f = h.feeds p i f e in
        let c : (r.1.seat.feeder v ≡ (w.seat p i).feeder v) × (r.1.seat.fifo v ≡ (w.seat p i).fifo v) = shut p i v (Worker p i) (same_index p i p0 i0 u) (not_same q (Worker p i) y) (s.0) in
        (c.0 ∙ s.0, ap last_of (c.1) ∙ s.1)

    -- a holder that does not move
    still : (p i : ℕ) (v : Option ℕ) (g : Party) → same_party g q ≡ false → (w.seat p i).feeder v ≡ Some g → Stands p i v g
    still p i v g o e = let a : Stood p i v g = h.held p i v g e in (a.0, ap (λ s. waits_at v (s.top)) (stack_other w.stack q k1 g o) ∙ a.1)

    moved : (g : Party) → g ≡ q → (world_after w q x fs r).stack g ≡ k1
    moved g e = ap (λ v. (world_after w q x fs r).stack v) e ∙ stack_mine w.stack q k1

    held : (p i : ℕ) (v : Option ℕ) (g : Party) (c : Bool) → ((p == p0) && (i == i0)) ≡ c → (if c then r.1.seat else w.seat p i).feeder v ≡ Some g → Stands p i v g
    held p i v g false u e = elim (either (same_party g q)) [
      | inl y ↦ absurd (let a : Stood p i v g = h.held p i v g e in
          let is : g ≡ q = same_party_true g q y in
          let wa : waits_at v x ≡ true = ap (waits_at v) (sym mine) ∙ ap (λ s. waits_at v ((w.stack s).top)) (sym is) ∙ a.1 in
          let o : q ≡ Worker p0 i0 = (d.adds v (waits_at_feeds v x wa)).0 in
          let b : Worker p i ≡ Worker p0 i0 = sym (a.0) ∙ is ∙ o in
          let t : ((p == p0) && (i == i0)) ≡ true = ap (λ s. same_party s (Worker p0 i0)) b ∙ same_party_refl (Worker p0 i0) in
          let f : true ≡ false = sym t ∙ u in cc)
      | inr o ↦ still p i v g o e
    ]
    held p i v g true u e = let is : (p ≡ p0) × (i ≡ i0) = same_index p i p0 i0 u in touched p i v g is e (either (feeds_at v x))
      where
        named : (p i : ℕ) → (p ≡ p0) × (i ≡ i0) → Worker p0 i0 ≡ Worker p i
        named p i is = ap (λ n. Worker n i0) (sym (is.0)) ∙ ap (λ n. Worker p n) (sym (is.1))

        own : (p i : ℕ) (v : Option ℕ) (g : Party) → (p ≡ p0) × (i ≡ i0) → r.1.seat.feeder v ≡ Some g → q ≡ Worker p0 i0 → (r.1.seat.feeder v ≡ None) ⊎ ((r.1.seat.feeder v ≡ Some q) × (waits_at v (k1.top) ≡ true)) → Stands p i v g
        own p i v g is e o (inl n) = absurd (let a : Some g ≡ None = sym e ∙ n in cc)
        own p i v g is e o (inr s) = let a : Some g ≡ Some q = sym e ∙ s.0 in let b : g ≡ q = cc in (b ∙ o ∙ named p i is, ap (λ s. waits_at v (s.top)) (moved g b) ∙ s.1)

        outside : (p i : ℕ) (v : Option ℕ) (g : Party) → (p ≡ p0) × (i ≡ i0) → r.1.seat.feeder v ≡ Some g → feeds_at v x ≡ false → (o : Option Party) → (w.seat p0 i0).feeder v ≡ o → Stands p i v g
        outside p i v g is e n None s = absurd (let a : r.1.seat.feeder v ≡ None = (k v).1 (no_feeds_adds v x n) s in let b : Some g ≡ None = sym e ∙ a in cc)
        outside p i v g is e n (Some t) s = elim (either (same_party q t)) [
          | inl y ↦ absurd (let a : Stood p0 i0 v t = h.held p0 i0 v t s in
              let b : waits_at v x ≡ true = ap (waits_at v) (sym mine) ∙ ap (λ s. waits_at v ((w.stack s).top)) (same_party_true q t y) ∙ a.1 in
              let f : true ≡ false = sym (waits_at_feeds v x b) ∙ n in cc)
          | inr y ↦ (let c : (r.1.seat.feeder v ≡ (w.seat p0 i0).feeder v) × (r.1.seat.fifo v ≡ (w.seat p0 i0).fifo v) = shut p0 i0 v t (refl, refl) y s in
              let a : Some g ≡ Some t = sym e ∙ c.0 ∙ s in let b : g ≡ t = cc in
              let st : Stands p0 i0 v g = still p0 i0 v g (not_same g q (ap (same_party q) b ∙ y)) (s ∙ ap Some (sym b)) in (st.0 ∙ named p i is, st.1))
        ]

        touched : (p i : ℕ) (v : Option ℕ) (g : Party) → (p ≡ p0) × (i ≡ i0) → r.1.seat.feeder v ≡ Some g → (feeds_at v x ≡ true) ⊎ (feeds_at v x ≡ false) → Stands p i v g
        touched p i v g is e (inl a) = own p i v g is e ((d.adds v a).0) ((d.adds v a).1)
        touched p i v g is e (inr n) = outside p i v g is e n ((w.seat p0 i0).feeder v) refl

pub go_feeders : (w : World) (q : Party) → FeedersHold w → IfSome (outcome w q (w.stack q)) (λ r. FeedersHold (result w q (w.stack q) r))
go_feeders w q h =
    let k : Stack = w.stack q in let x : Place = k.top in
    if_some_map (λ r. FramesOk (result w q k r) × (Fed w q x r ((after_move (next_of (w.shape.pool (target_pool q (act_of q x))) q x (r.0)) k.below).top) × FeederKept q x (place_part w q x) r)) (λ r. FeedersHold (result w q k r))
    (λ r f. act_feeders w q x (k.below) r refl h (f.0) ((f.1).0) ((f.1).1)) (outcome w q k)
    (if_some_and (λ r. FramesOk (result w q k r)) (λ r. Fed w q x r ((after_move (next_of (w.shape.pool (target_pool q (act_of q x))) q x (r.0)) k.below).top) × FeederKept q x (place_part w q x) r) (outcome w q k) (go_frames w q k refl h.frames)
    (if_some_and (λ r. Fed w q x r ((after_move (next_of (w.shape.pool (target_pool q (act_of q x))) q x (r.0)) k.below).top)) (FeederKept q x (place_part w q x)) (outcome w q k) (own_fed w q x (k.below) refl h) (feeder_table w.shape q (counts_at w (target_pool q (act_of q x))) (place_part w q x) x)))
