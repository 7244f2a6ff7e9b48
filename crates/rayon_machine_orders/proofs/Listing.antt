-- each step shifts each own deque, each injector and each broadcast list as a queue
use Rattle.std.proofs.Common.{refl, sym, ◌∙◌, ap, subst, inl, inr}
use Rattle.rayon_machine_orders.proofs.Words.{ℕ, Bool, true, false, ◌&&◌, ◌+◌, ◌==◌, nat_lt, if◌then◌else◌, Option, Some, None, List, [], ◌∷◌, ◌++◌, ◌≡◌, IfSome, eqb-true, eq-eqb, Order, NewestFirst, OldestFirst, Party, Worker, Caller, Ending, JobKind, TokenOf, Pieces, OpenCall, Taken, Plain}
use Rattle.rayon_machine_orders.proofs.Words.{Token, Place, AddToFifo, BeginHere, BeginTask, DealPieces, JoinPop, JoinTakeCast, JoinProbe, SecondSide, LocalPop, LocalTakeCast, LookQueue, PickVictim, PopIdle, PopInjected, PopWorking, PushForAll, PushJob, PushToken, Run, StealFrom, TakeCastIdle}
use Rattle.rayon_machine_orders.proofs.Words.{TakeCastWorking, TakeFromFifo, YieldPick, YieldPop, YieldPopInjected, YieldSteal, YieldTakeCast, EnterAbove as Enter, Act, LookInj, LookOwn, PopInj, PopOwn, PushCast, PushInj, PushOwn, Steal, Seen, Task, Event, Go, From, Refuse, Miss, End, Spawn}
use Rattle.rayon_machine_orders.proofs.Words.{Fifo, Cast, Install, Join, OpenScope, IntoSpawn, IntoFifo, IntoCast, Broadcast, Yield, YieldLocal, EndPool, PoolShape, Scope, act_of, is_free, is_member, is_refusable, is_taken, next_of, own_index, own_pool, count_book, plan_book, plan_job}
use Rattle.rayon_machine_orders.proofs.Words.{plan_pool, taken_number, Counts, Part, Pool, Seat, Shape, Stack, World, but_first, but_last, casts_with, counts_at, effect, head_of, is_open, last_of, or_none, own_left, own_of, pop_injector, popped, take_cast, taken_as, target_call, target_pool}
use Rattle.rayon_machine_orders.proofs.Words.{target_worker, after_choice, after_end, after_enter, after_join, after_miss, after_move, after_send, after_spawn, after_yield, can_miss, holds, is_pool, part_of, put, put_seat, step, Hands, Pushes, Takes, deque_shift, injector_shift, cast_shift}
use Rattle.rayon_machine_orders.proofs.Words.{Shifts}
use Rattle.rayon_machine_places.specs.declared.act.Act.TheVariants.{TakeCast}
use Rattle.rayon_machine_orders.specs.Lists.{Shift, in_hand, ShiftsAll, ListLaw}
use Rattle.rayon_machine_laws.proofs.Frame.{fifo_cases, if_cond, if_some_map, into_cases, into_cast_cases, into_fifo_cases, out_sees, put_same, same_index, stack_mine, undo_sees}
use Rattle.rayon_machine_laws.proofs.Lists.{SameJobs, quiet_same}
use Rattle.rayon_machine_laws.proofs.Placed.{outcome_of}
use Rattle.rayon_machine_laws.proofs.Ties.{job_at, outcome, result}
use Rattle.rayon_machine_laws.proofs.ClaimRuns.{place_part}
use Rattle.rayon_machine_orders.proofs.CallSteps.{go_all}
use Rattle.rayon_machine_orders.proofs.EventCases.{is_act}

-- a list of one worker's or of one pool's is shifted, and no other
seat_shift : (w : World) (a c : ℕ) (s : Seat) (o : ℕ → Shift) → Shifts (w.seat a c).own (Some (o a)) s.own → (p i : ℕ) → Shifts (w.seat p i).own (if (p == a) && (i == c) then Some (o p) else None) (put_seat w.seat a c s p i).own
seat_shift w a c s o h p i = by ((p == a) && (i == c)) refl
  where
    by : (z : Bool) → ((p == a) && (i == c)) ≡ z → Shifts (w.seat p i).own (if z then Some (o p) else None) (if z then s else w.seat p i).own
    by true e = let k : (p ≡ a) × (i ≡ c) = same_index p i a c e in
        subst (λ v. Shifts v (Some (o p)) s.own) (sym (ap (λ n. (w.seat n i).own) (k.0) ∙ ap (λ n. (w.seat a n).own) (k.1))) (subst (λ n. Shifts (w.seat a c).own (Some (o n)) s.own) (sym (k.0)) h)
    by false e = refl

pool_shift : (w : World) (a : ℕ) (v : Pool) (o : Option Shift) → Shifts (w.pool a).injector o v.injector → (p : ℕ) → Shifts (w.pool p).injector (if p == a then o else None) (put w.pool a v p).injector
pool_shift w a v o h p = by (p == a) refl
  where
    by : (z : Bool) → (p == a) ≡ z → Shifts (w.pool p).injector (if z then o else None) (if z then v else w.pool p).injector
    by true e = subst (λ l. Shifts l o v.injector) (sym (ap (λ n. (w.pool n).injector) (eqb-true p a e))) h
    by false e = refl

all_shift : (w : World) (a : ℕ) (v : Pool) (f : ℕ → Bool) (o : ℕ → Shift) → ((i : ℕ) → Shifts ((w.pool a).casts i) (if f i then Some (o i) else None) (v.casts i)) → (p i : ℕ) → Shifts ((w.pool p).casts i) (if (p == a) && f i then Some (o i) else None) ((put w.pool a v p).casts i)
all_shift w a v f o h p i = by (p == a) refl
  where
    by : (z : Bool) → (p == a) ≡ z → Shifts ((w.pool p).casts i) (if z && f i then Some (o i) else None) ((if z then v else w.pool p).casts i)
    by true e = subst (λ l. Shifts l (if f i then Some (o i) else None) (v.casts i)) (sym (ap (λ n. (w.pool n).casts i) (eqb-true p a e))) (h i)
    by false e = refl

-- the others stay
seat_stays : (w : World) (a c : ℕ) (s : Seat) → s.own ≡ (w.seat a c).own → (p i : ℕ) → (put_seat w.seat a c s p i).own ≡ (w.seat p i).own
seat_stays w a c s e p i = by ((p == a) && (i == c)) refl
  where
    by : (z : Bool) → ((p == a) && (i == c)) ≡ z → (if z then s else w.seat p i).own ≡ (w.seat p i).own
    by true y = let k : (p ≡ a) × (i ≡ c) = same_index p i a c y in e ∙ sym (ap (λ n. (w.seat n i).own) (k.0) ∙ ap (λ n. (w.seat a n).own) (k.1))
    by false y = refl

-- the lists after an act, which leads there
record Listed (w : World) (q : Party) (a : Act) (x : Place) (fs : List Place) (r : Seen × Part) : Type 0 where
  deques : (p i : ℕ) → Shifts (w.seat p i).own (deque_shift w.shape p i q a (after_move (next_of (w.shape.pool (target_pool q a)) q x (r.0)) fs).top) (put_seat w.seat (target_pool q a) (target_worker q a) (r.1.seat) p i).own
  injectors : (p : ℕ) → Shifts (w.pool p).injector (injector_shift p q a (after_move (next_of (w.shape.pool (target_pool q a)) q x (r.0)) fs).top) (put w.pool (target_pool q a) (r.1.pool) p).injector
  casts : (p i : ℕ) → Shifts ((w.pool p).casts i) (cast_shift p i q a (after_move (next_of (w.shape.pool (target_pool q a)) q x (r.0)) fs).top) ((put w.pool (target_pool q a) (r.1.pool) p).casts i)

-- acts that leave these lists, and are none of theirs
record Leaving (m : Part) (r : Seen × Part) : Type 0 where
  own : r.1.seat.own ≡ m.seat.own
  injector : r.1.pool.injector ≡ m.pool.injector
  casts : r.1.pool.casts ≡ m.pool.casts

record NoShift (q : Party) (a : Act) : Type 0 where
  deque : (h : Shape) (p i : ℕ) (y : Place) → deque_shift h p i q a y ≡ None
  injector : (p : ℕ) (y : Place) → injector_shift p q a y ≡ None
  cast : (p i : ℕ) (y : Place) → cast_shift p i q a y ≡ None

-- the pool's lists after one pool is another that agrees on them
casts_stay : (w : World) (a : ℕ) (v : Pool) → v.casts ≡ (w.pool a).casts → (p i : ℕ) → (put w.pool a v p).casts i ≡ (w.pool p).casts i
casts_stay w a v e p i = ap (λ f. f i) (put_same (λ x. x.casts) w.pool a v p e)

left_listed : (w : World) (q : Party) (a : Act) (x : Place) (fs : List Place) (c n : ℕ) (r : Seen × Part) → NoShift q a → Leaving (part_of w (target_pool q a) (target_worker q a) c n) r → Listed w q a x fs r
left_listed w q a x fs c n r z e = record {
  deques = λ p i. subst (λ o. Shifts (w.seat p i).own o (put_seat w.seat (target_pool q a) (target_worker q a) (r.1.seat) p i).own) (sym (z.deque w.shape p i y)) (seat_stays w (target_pool q a) (target_worker q a) (r.1.seat) e.own p i);
  injectors = λ p. subst (λ o. Shifts (w.pool p).injector o (put w.pool (target_pool q a) (r.1.pool) p).injector) (sym (z.injector p y)) (put_same (λ v. v.injector) w.pool (target_pool q a) (r.1.pool) p e.injector);
  casts = λ p i. subst (λ o. Shifts ((w.pool p).casts i) o ((put w.pool (target_pool q a) (r.1.pool) p).casts i)) (sym (z.cast p i y)) (casts_stay w (target_pool q a) (r.1.pool) e.casts p i);
}
  where
    y : Place
    y = (after_move (next_of (w.shape.pool (target_pool q a)) q x (r.0)) fs).top

-- the places whose acts are on these lists
abbrev is_listing : Place → Bool
is_listing (PopWorking k) = true
is_listing (PopIdle k) = true
is_listing (JoinPop o) = true
is_listing YieldPop = true
is_listing LocalPop = true
is_listing (StealFrom k n) = true
is_listing (YieldSteal v n) = true
is_listing (PopInjected k) = true
is_listing YieldPopInjected = true
is_listing (TakeCastWorking k) = true
is_listing (TakeCastIdle k) = true
is_listing (JoinTakeCast o) = true
is_listing YieldTakeCast = true
is_listing LocalTakeCast = true
is_listing (PushJob n v) = true
is_listing (PushToken f v) = true
is_listing (PushForAll c) = true
is_listing (DealPieces g) = true
is_listing _ = false

same_left : (m : Part) (r : Seen × Part) → SameJobs m r → Leaving m r
same_left m r s = record { own = s.own; injector = s.injector; casts = s.casts }

leaving : (h : Shape) (q : Party) (c : Counts) (m : Part) (x : Place) → is_listing x ≡ false → IfSome (effect (act_of q x) h q c m) (Leaving m)
leaving h (Worker a b) c m (AddToFifo f) z = if_cond (Leaving m) (is_open (Worker a b) (m.seat.feeder (count_book f.count))) _ (λ o. record { own = refl; injector = refl; casts = refl })
leaving h (Caller g) c m (AddToFifo f) z = tt
leaving h (Worker a b) c m (TakeFromFifo f) z = undo_sees (Leaving m) (Worker a b) m (count_book f.count) (record { own = refl; injector = refl; casts = refl }) (λ u e. record { own = refl; injector = refl; casts = refl })
leaving h (Caller g) c m (TakeFromFifo f) z = tt
leaving h (Worker a b) c m (BeginTask (Plain u)) z = record { own = refl; injector = refl; casts = refl }
leaving h (Caller g) c m (BeginTask (Plain u)) z = record { own = refl; injector = refl; casts = refl }
leaving h (Worker a b) c m (BeginTask (Token k i d)) z = out_sees (Leaving m) (Worker a b) m d (record { own = refl; injector = refl; casts = refl }) (λ u us e. record { own = refl; injector = refl; casts = refl })
leaving h (Caller g) c m (BeginTask (Token k i d)) z = out_sees (Leaving m) (Caller g) m d (record { own = refl; injector = refl; casts = refl }) (λ u us e. record { own = refl; injector = refl; casts = refl })
leaving h (Worker a b) c m (BeginHere u) z = record { own = refl; injector = refl; casts = refl }
leaving h (Caller g) c m (BeginHere u) z = record { own = refl; injector = refl; casts = refl }
leaving h q c m x z = if_some_map (SameJobs m) (Leaving m) (same_left m) (effect (act_of q x) h q c m) (quiet_same h q c m x cc)

no_shift : (q : Party) (x : Place) → is_listing x ≡ false → NoShift q (act_of q x)
no_shift (Worker a b) (LookQueue n) z = by (is_member (Worker a b) (plan_pool n))
  where
    by : (d : Bool) → NoShift (Worker a b) (if d then LookOwn else LookInj (plan_pool n))
    by true = record { deque = λ h p i y. refl; injector = λ p y. refl; cast = λ p i y. refl }
    by false = record { deque = λ h p i y. refl; injector = λ p y. refl; cast = λ p i y. refl }
no_shift (Worker a b) (BeginTask (Plain u)) z = record { deque = λ h p i y. refl; injector = λ p y. refl; cast = λ p i y. refl }
no_shift (Worker a b) (BeginTask (Token k i d)) z = record { deque = λ h p i y. refl; injector = λ p y. refl; cast = λ p i y. refl }
no_shift (Caller g) (BeginTask (Plain u)) z = record { deque = λ h p i y. refl; injector = λ p y. refl; cast = λ p i y. refl }
no_shift (Caller g) (BeginTask (Token k i d)) z = record { deque = λ h p i y. refl; injector = λ p y. refl; cast = λ p i y. refl }
no_shift (Worker a b) x z = record { deque = λ h p i y. cc; injector = λ p y. cc; cast = λ p i y. cc }
no_shift (Caller g) x z = record { deque = λ h p i y. cc; injector = λ p y. cc; cast = λ p i y. cc }

-- what is taken from a list is what it hands out
taken_is : (t : ℕ) (k : JobKind) → taken_number (taken_as t k) ≡ t
taken_is t (TokenOf i b) = refl
taken_is t _ = refl

first_left : (l : List ℕ) (t : ℕ) → head_of l ≡ Some t → l ≡ t ∷ but_first l
first_left [] t e = cc
first_left (u ∷ us) t e = (let i : u ≡ t = cc in ap (λ v. v ∷ us) i)

last_left : (l : List ℕ) (t : ℕ) → last_of l ≡ Some t → l ≡ but_last l ++ t ∷ []
last_left [] t e = cc
last_left (u ∷ []) t e = (let i : u ≡ t = cc in ap (λ v. v ∷ []) i)
last_left (u ∷ v ∷ us) t e = ap (λ l. u ∷ l) (last_left (v ∷ us) t e)

own_hands : (o : Order) (l : List ℕ) (t : ℕ) → own_of o l ≡ Some t → Hands o l t (own_left o l)
own_hands NewestFirst l t e = last_left l t e
own_hands OldestFirst l t e = first_left l t e

first_none : (l : List ℕ) → head_of l ≡ None → l ≡ []
first_none [] e = refl
first_none (u ∷ us) e = cc

last_none : (l : List ℕ) → last_of l ≡ None → l ≡ []
last_none [] e = refl
last_none (u ∷ []) e = cc
last_none (u ∷ v ∷ us) e = absurd (let a : (v ∷ us) ≡ [] = last_none (v ∷ us) e in cc)

own_none : (o : Order) (l : List ℕ) → own_of o l ≡ None → l ≡ []
own_none NewestFirst l e = last_none l e
own_none OldestFirst l e = first_none l e

-- the place where a task leads is one that has it in hand
abbrev Grips : PoolShape → Party → Place → List Place → Type 0
Grips g q x fs = (t : ℕ) (k : JobKind) → in_hand (after_move (next_of g q x (Task (taken_as t k))) fs).top ≡ Some t

-- a deque is popped, by its worker or by a thief
pop_listed : (w : World) (a b : ℕ) (x : Place) (fs : List Place) → Grips (w.shape.pool a) (Worker a b) x fs → IfSome (outcome_of w (Worker a b) PopOwn) (Listed w (Worker a b) PopOwn x fs)
pop_listed w a b x fs g = by (own_of o l) refl
  where
    o : Order
    o = (w.shape.pool a).order

    l : List ℕ
    l = (w.seat a b).own

    m : Part
    m = part_of w a b 0 (or_none (own_of o l))

    by : (k : Option ℕ) → own_of o l ≡ k → IfSome (popped (Worker a b) m (own_left o l) k) (Listed w (Worker a b) PopOwn x fs)
    by None e = record {
      deques = seat_shift w a b (w.seat a b) (λ p. Takes (w.shape.pool p).order _) (inl (own_none o l e, own_none o l e));
      injectors = λ p. put_same (λ v. v.injector) w.pool a (w.pool a) p refl;
      casts = casts_stay w a (w.pool a) refl;
    }
    by (Some t) e = record {
      deques = seat_shift w a b (record (w.seat a b) { own = own_left o l }) (λ p. Takes (w.shape.pool p).order _) (inr (t, g t m.job.kind, own_hands o l t e));
      injectors = λ p. put_same (λ v. v.injector) w.pool a (w.pool a) p refl;
      casts = casts_stay w a (w.pool a) refl;
    }

steal_listed : (w : World) (a b v : ℕ) (x : Place) (fs : List Place) → Grips (w.shape.pool a) (Worker a b) x fs → IfSome (outcome_of w (Worker a b) (Steal a v)) (Listed w (Worker a b) (Steal a v) x fs)
steal_listed w a b v x fs g = by (head_of l) refl
  where
    l : List ℕ
    l = (w.seat a v).own

    m : Part
    m = part_of w a v 0 (or_none (head_of l))

    by : (k : Option ℕ) → head_of l ≡ k → IfSome (popped (Worker a b) m (but_first l) k) (Listed w (Worker a b) (Steal a v) x fs)
    by None e = record {
      deques = seat_shift w a v (w.seat a v) (λ p. Takes OldestFirst _) (inl (first_none l e, first_none l e));
      injectors = λ p. put_same (λ v. v.injector) w.pool a (w.pool a) p refl;
      casts = casts_stay w a (w.pool a) refl;
    }
    by (Some t) e = record {
      deques = seat_shift w a v (record (w.seat a v) { own = but_first l }) (λ p. Takes OldestFirst _) (inr (t, g t m.job.kind, first_left l t e));
      injectors = λ p. put_same (λ v. v.injector) w.pool a (w.pool a) p refl;
      casts = casts_stay w a (w.pool a) refl;
    }

-- the test is the same from both sides
eq_turn : (a b : ℕ) → (a == b) ≡ (b == a)
eq_turn a b = by (a == b) (b == a) refl refl
  where
    by : (x y : Bool) → (a == b) ≡ x → (b == a) ≡ y → x ≡ y
    by true true e f = refl
    by false false e f = refl
    by true false e f = (let i : (b == a) ≡ true = eq-eqb b a (sym (eqb-true a b e)) in cc)
    by false true e f = (let i : (a == b) ≡ true = eq-eqb a b (sym (eqb-true b a f)) in cc)

-- the injector is popped
injector_listed : (w : World) (a b : ℕ) (x : Place) (fs : List Place) → Grips (w.shape.pool a) (Worker a b) x fs → IfSome (outcome_of w (Worker a b) PopInj) (Listed w (Worker a b) PopInj x fs)
injector_listed w a b x fs g = by l refl
  where
    l : List ℕ
    l = (w.pool a).injector

    m : Part
    m = part_of w a b 0 (or_none (head_of l))

    turned : (p : ℕ) (o : Shift) (k : List ℕ) → Shifts (w.pool p).injector (if p == a then Some o else None) k → Shifts (w.pool p).injector (if a == p then Some o else None) k
    turned p o k h = subst (λ z. Shifts (w.pool p).injector (if z then Some o else None) k) (eq_turn p a) h

    by : (k : List ℕ) → l ≡ k → IfSome (pop_injector (Worker a b) m k) (Listed w (Worker a b) PopInj x fs)
    by [] e = record {
      deques = seat_stays w a b (w.seat a b) refl;
      injectors = λ p. turned p (Takes OldestFirst _) _ (pool_shift w a (w.pool a) (Some (Takes OldestFirst _)) (inl (e, e)) p);
      casts = casts_stay w a (w.pool a) refl;
    }
    by (t ∷ ts) e = record {
      deques = seat_stays w a b (w.seat a b) refl;
      injectors = λ p. turned p (Takes OldestFirst _) _ (pool_shift w a (record (w.pool a) { injector = ts }) (Some (Takes OldestFirst _)) (inr (t, g t m.job.kind, e)) p);
      casts = casts_stay w a (record (w.pool a) { injector = ts }) refl;
    }

-- a worker takes from its broadcast list
take_listed : (w : World) (a b : ℕ) (x : Place) (fs : List Place) → Grips (w.shape.pool a) (Worker a b) x fs → IfSome (outcome_of w (Worker a b) TakeCast) (Listed w (Worker a b) TakeCast x fs)
take_listed w a b x fs g = by ((w.pool a).casts b) refl
  where
    f : ℕ → List ℕ
    f = (w.pool a).casts

    m : Part
    m = part_of w a b 0 (or_none (head_of (f b)))

    none : (h : Option ℕ) → f b ≡ [] → (i : ℕ) → Shifts (f i) (if i == b then Some (Takes OldestFirst h) else None) (f i)
    none h e i = at (i == b) refl
      where
        at : (z : Bool) → (i == b) ≡ z → Shifts (f i) (if z then Some (Takes OldestFirst h) else None) (f i)
        at true y = let k : f i ≡ [] = ap f (eqb-true i b y) ∙ e in inl (k, k)
        at false y = refl

    one : (h : Option ℕ) (t : ℕ) (ts : List ℕ) → h ≡ Some t → f b ≡ t ∷ ts → (i : ℕ) → Shifts (f i) (if i == b then Some (Takes OldestFirst h) else None) (if i == b then ts else f i)
    one h t ts k e i = at (i == b) refl
      where
        at : (z : Bool) → (i == b) ≡ z → Shifts (f i) (if z then Some (Takes OldestFirst h) else None) (if z then ts else f i)
        at true y = inr (t, k, ap f (eqb-true i b y) ∙ e)
        at false y = refl

    by : (k : List ℕ) → f b ≡ k → IfSome (take_cast (Worker a b) m k) (Listed w (Worker a b) TakeCast x fs)
    by [] e = record {
      deques = seat_stays w a b (w.seat a b) refl;
      injectors = λ p. put_same (λ v. v.injector) w.pool a (w.pool a) p refl;
      casts = all_shift w a (w.pool a) (λ i. i == b) (λ i. Takes OldestFirst _) (none _ e);
    }
    by (t ∷ ts) e = record {
      deques = seat_stays w a b (w.seat a b) refl;
      injectors = λ p. put_same (λ v. v.injector) w.pool a (record (w.pool a) { casts = λ i. if i == b then ts else f i }) p refl;
      casts = all_shift w a (record (w.pool a) { casts = λ i. if i == b then ts else f i }) (λ i. i == b) (λ i. Takes OldestFirst _) (one _ t ts (g t m.job.kind) e);
    }

-- a job is pushed onto a deque, or into an injector
own_listed : (w : World) (a b t : ℕ) (d : Option ℕ) (x : Place) (fs : List Place) → IfSome (outcome_of w (Worker a b) (PushOwn t d)) (Listed w (Worker a b) (PushOwn t d) x fs)
own_listed w a b t d x fs = record {
  deques = seat_shift w a b _ (λ p. Pushes t) refl;
  injectors = λ p. put_same (λ v. v.injector) w.pool a (w.pool a) p refl;
  casts = casts_stay w a (w.pool a) refl;
}

into_listed : (w : World) (q : Party) (p t : ℕ) (d : Option ℕ) (x : Place) (fs : List Place) → IfSome (outcome_of w q (PushInj p t d)) (Listed w q (PushInj p t d) x fs)
into_listed w q p t d x fs = record {
  deques = seat_stays w p (own_index q) (w.seat p (own_index q)) refl;
  injectors = pool_shift w p (record (w.pool p) { injector = (w.pool p).injector ++ t ∷ [] }) (Some (Pushes t)) refl;
  casts = casts_stay w p (record (w.pool p) { injector = (w.pool p).injector ++ t ∷ [] }) refl;
}

push_listed : (w : World) (a b p t : ℕ) (d : Option ℕ) (x : Place) (fs : List Place) (z : Bool) → IfSome (outcome_of w (Worker a b) (if z then PushOwn t d else PushInj p t d)) (Listed w (Worker a b) (if z then PushOwn t d else PushInj p t d) x fs)
push_listed w a b p t d x fs true = own_listed w a b t d x fs
push_listed w a b p t d x fs false = into_listed w (Worker a b) p t d x fs

-- a broadcast gives each worker its piece
cast_listed : (w : World) (q : Party) (c : Pieces) (x : Place) (fs : List Place) → IfSome (outcome_of w q (PushCast c)) (Listed w q (PushCast c) x fs)
cast_listed w q c x fs = record {
  deques = seat_stays w c.pool (own_index q) (w.seat c.pool (own_index q)) refl;
  injectors = λ p. put_same (λ v. v.injector) w.pool c.pool (record (w.pool c.pool) { casts = casts_with c (w.pool c.pool).casts }) p refl;
  casts = all_shift w c.pool (record (w.pool c.pool) { casts = casts_with c (w.pool c.pool).casts }) (λ i. nat_lt i c.workers) (λ i. Pushes (c.first + i)) (λ i. by i (nat_lt i c.workers));
}
  where
    f : ℕ → List ℕ
    f = (w.pool c.pool).casts

    by : (i : ℕ) (z : Bool) → Shifts (f i) (if z then Some (Pushes (c.first + i)) else None) (if z then f i ++ (c.first + i) ∷ [] else f i)
    by i true = refl
    by i false = refl

-- what a join's own pop leads to
join_grips : (g : PoolShape) (q : Party) (o : OpenCall) (fs : List Place) → Grips g q (JoinPop o) fs
join_grips g q o fs t k = by (taken_as t k) (taken_is t k) (is_taken (taken_as t k) o.job) refl
  where
    by : (x : Taken) → taken_number x ≡ t → (z : Bool) → is_taken x o.job ≡ z → in_hand (after_move (if z then Enter (SecondSide o) (BeginHere o.job) else Enter (JoinProbe o) (BeginTask x)) fs).top ≡ Some t
    by (Plain u) e true y = ap Some (sym (eqb-true u o.job y) ∙ e)
    by (Plain u) e false y = ap Some e
    by (Token u i b) e true y = cc
    by (Token u i b) e false y = ap Some e

grips : (t : ℕ) (k : JobKind) → Some (taken_number (taken_as t k)) ≡ Some t
grips t k = ap Some (taken_is t k)

act_listed : (w : World) (q : Party) (x : Place) (fs : List Place) → IfSome (outcome_of w q (act_of q x)) (Listed w q (act_of q x) x fs)
act_listed w (Worker a b) (PopWorking k) fs = pop_listed w a b (PopWorking k) fs grips
act_listed w (Caller c) (PopWorking k) fs = tt
act_listed w (Worker a b) (PopIdle k) fs = pop_listed w a b (PopIdle k) fs grips
act_listed w (Caller c) (PopIdle k) fs = tt
act_listed w (Worker a b) (JoinPop o) fs = pop_listed w a b (JoinPop o) fs (join_grips (w.shape.pool a) (Worker a b) o fs)
act_listed w (Caller c) (JoinPop o) fs = tt
act_listed w (Worker a b) YieldPop fs = pop_listed w a b YieldPop fs grips
act_listed w (Caller c) YieldPop fs = tt
act_listed w (Worker a b) LocalPop fs = pop_listed w a b LocalPop fs grips
act_listed w (Caller c) LocalPop fs = tt
act_listed w (Worker a b) (StealFrom k n) fs = steal_listed w a b k.victim (StealFrom k n) fs grips
act_listed w (Caller c) (StealFrom k n) fs = tt
act_listed w (Worker a b) (YieldSteal v n) fs = steal_listed w a b v (YieldSteal v n) fs grips
act_listed w (Caller c) (YieldSteal v n) fs = tt
act_listed w (Worker a b) (PopInjected k) fs = injector_listed w a b (PopInjected k) fs grips
act_listed w (Caller c) (PopInjected k) fs = tt
act_listed w (Worker a b) YieldPopInjected fs = injector_listed w a b YieldPopInjected fs grips
act_listed w (Caller c) YieldPopInjected fs = tt
act_listed w (Worker a b) (TakeCastWorking k) fs = take_listed w a b (TakeCastWorking k) fs grips
act_listed w (Caller c) (TakeCastWorking k) fs = tt
act_listed w (Worker a b) (TakeCastIdle k) fs = take_listed w a b (TakeCastIdle k) fs grips
act_listed w (Caller c) (TakeCastIdle k) fs = tt
act_listed w (Worker a b) (JoinTakeCast o) fs = take_listed w a b (JoinTakeCast o) fs grips
act_listed w (Caller c) (JoinTakeCast o) fs = tt
act_listed w (Worker a b) YieldTakeCast fs = take_listed w a b YieldTakeCast fs grips
act_listed w (Caller c) YieldTakeCast fs = tt
act_listed w (Worker a b) LocalTakeCast fs = take_listed w a b LocalTakeCast fs grips
act_listed w (Caller c) LocalTakeCast fs = tt
act_listed w (Worker a b) (PushJob n v) fs = push_listed w a b (plan_pool n) (plan_job n) (plan_book n) (PushJob n v) fs (is_member (Worker a b) (plan_pool n))
act_listed w (Caller c) (PushJob n v) fs = into_listed w (Caller c) (plan_pool n) (plan_job n) (plan_book n) (PushJob n v) fs
act_listed w (Worker a b) (PushToken f v) fs = own_listed w a b f.token (count_book f.count) (PushToken f v) fs
act_listed w (Caller c) (PushToken f v) fs = tt
act_listed w (Worker a b) (PushForAll c) fs = cast_listed w (Worker a b) c (PushForAll c) fs
act_listed w (Caller g) (PushForAll c) fs = cast_listed w (Caller g) c (PushForAll c) fs
act_listed w (Worker a b) (DealPieces g) fs = cast_listed w (Worker a b) g.pieces (DealPieces g) fs
act_listed w (Caller c) (DealPieces g) fs = cast_listed w (Caller c) g.pieces (DealPieces g) fs
act_listed w q x fs = if_some_map (Leaving (place_part w q x)) (Listed w q (act_of q x) x fs) (λ r s. left_listed w q (act_of q x) x fs (target_call (act_of q x)) (job_at w q (act_of q x)) r (no_shift q x refl) s) (outcome_of w q (act_of q x))
    (leaving w.shape q (counts_at w (target_pool q (act_of q x))) (place_part w q x) x refl)

-- an event that is no act leaves all lists
record Stay (w v : World) : Type 0 where
  seat : (p i : ℕ) → (v.seat p i).own ≡ (w.seat p i).own
  injector : (p : ℕ) → (v.pool p).injector ≡ (w.pool p).injector
  casts : (p i : ℕ) → (v.pool p).casts i ≡ (w.pool p).casts i

choice_stays : (w : World) (q : Party) (s : Stack) (x : Place) (v : ℕ) → IfSome (after_choice w q s x v) (Stay w)
choice_stays w q s (PickVictim k) v = if_cond (Stay w) (nat_lt v (w.shape.pool (own_pool q)).workers) _ (λ b. record { seat = λ p i. refl; injector = λ p. refl; casts = λ p i. refl })
choice_stays w q s YieldPick v = if_cond (Stay w) (nat_lt v (w.shape.pool (own_pool q)).workers) _ (λ b. record { seat = λ p i. refl; injector = λ p. refl; casts = λ p i. refl })
choice_stays w q s _ v = tt

miss_stays : (w : World) (q : Party) (s : Stack) (x : Place) → IfSome (after_miss w q s x) (Stay w)
miss_stays w (Worker p i) s (StealFrom k n) = if_cond (Stay w) (can_miss w p k.victim) _ (λ b. record { seat = λ p i. refl; injector = λ p. refl; casts = λ p i. refl })
miss_stays w (Worker p i) s (YieldSteal v n) = if_cond (Stay w) (can_miss w p v) _ (λ b. record { seat = λ p i. refl; injector = λ p. refl; casts = λ p i. refl })
miss_stays w _ s _ = tt

end_stays : (w : World) (q : Party) (d : Ending) (s : Stack) (x : Place) → IfSome (after_end w q d s x) (Stay w)
end_stays w q d s (Run t k) = record { seat = λ p i. refl; injector = λ p. refl; casts = λ p i. refl }
end_stays w q d s _ = tt

yield_stays : (w : World) (q : Party) (s : Stack) (x : Place) → IfSome (after_yield w q s x) (Stay w)
yield_stays w (Worker p i) s x = if_cond (Stay w) (is_free s.top) _ (λ b. record { seat = λ p i. refl; injector = λ p. refl; casts = λ p i. refl })
yield_stays w (Caller c) s x = tt

sent_stays : (w : World) (q : Party) (p : ℕ) (b : Bool) → Stay w (after_send w q p (w.stack q) b)
sent_stays w q p true = record { seat = λ p i. refl; injector = λ p. refl; casts = λ p i. refl }
sent_stays w q p false = record { seat = λ p i. refl; injector = λ p. refl; casts = λ p i. refl }

join_stays : (w : World) (q : Party) (s : Stack) → IfSome (after_join w q s) (Stay w)
join_stays w (Worker p i) s = if_cond (Stay w) (is_free s.top) _ (λ b. record { seat = λ p i. refl; injector = λ p. refl; casts = λ p i. refl })
join_stays w (Caller c) s = tt

spawn_stays : (w : World) (q : Party) (p : ℕ) → IfSome (after_spawn w q p (w.stack q)) (Stay w)
spawn_stays w q p = if_cond (Stay w) (is_free ((w.stack q).top) && is_pool w.shape p) _ (λ b. record { seat = λ p i. refl; injector = λ p. refl; casts = λ p i. refl })

enter_stays : (w : World) (q : Party) (z : Scope) → IfSome (after_enter w q (w.stack q) (Some z)) (Stay w)
enter_stays w q z = if_cond (Stay w) (is_free ((w.stack q).top) && holds z.call (w.stack q)) _ (λ b. record { seat = λ p i. refl; injector = λ p. refl; casts = λ p i. refl })

give_stays : (w : World) (q : Party) (p : ℕ) → IfSome (step w (EndPool q p)) (Stay w)
give_stays w q p = if_cond (Stay w) (is_free ((w.stack q).top) && (is_pool w.shape p && (w.pool p).held)) _ (λ b. record {
  seat = λ a i. refl;
  injector = λ a. put_same (λ v. v.injector) w.pool p (record (w.pool p) { held = false }) a refl;
  casts = casts_stay w p (record (w.pool p) { held = false }) refl;
})

still : (w : World) (e : Event) → is_act e ≡ false → (v : World) → Stay w v → ShiftsAll w e v
still w (Go q) z v s = cc
still w _ z v s = record { deques = s.seat; injectors = s.injector; casts = s.casts }

step_stays : (w : World) (e : Event) → is_act e ≡ false → IfSome (step w e) (Stay w)
step_stays w (Go q) z = cc
step_stays w (From q v) z = choice_stays w q (w.stack q) ((w.stack q).top) v
step_stays w (Refuse q) z = if_cond (Stay w) (is_refusable ((w.stack q).top)) _ (λ b. record { seat = λ p i. refl; injector = λ p. refl; casts = λ p i. refl })
step_stays w (Miss q) z = miss_stays w q (w.stack q) ((w.stack q).top)
step_stays w (End q d) z = end_stays w q d (w.stack q) ((w.stack q).top)
step_stays w (Spawn q p) z = spawn_stays w q p
step_stays w (Fifo q p) z = fifo_cases (Stay w) w q p (spawn_stays w q p) (λ i free. record { seat = λ p i. refl; injector = λ p. refl; casts = λ p i. refl })
step_stays w (Cast q p) z = if_cond (Stay w) (is_free ((w.stack q).top) && is_pool w.shape p) _ (λ b. record { seat = λ p i. refl; injector = λ p. refl; casts = λ p i. refl })
step_stays w (Install q p) z = if_cond (Stay w) (is_free ((w.stack q).top) && is_pool w.shape p) _ (λ b. sent_stays w q p (is_member q p))
step_stays w (Join q) z = join_stays w q (w.stack q)
step_stays w (OpenScope q p) z = if_cond (Stay w) (is_free ((w.stack q).top) && is_pool w.shape p) _ (λ b. record { seat = λ p i. refl; injector = λ p. refl; casts = λ p i. refl })
step_stays w (IntoSpawn q n) z = into_cases (Stay w) w q n (λ s e free held. enter_stays w q s)
step_stays w (IntoFifo q n) z = into_fifo_cases (Stay w) w q n (λ s e free held. enter_stays w q s) (λ s i e free held. record { seat = λ p i. refl; injector = λ p. refl; casts = λ p i. refl })
step_stays w (IntoCast q n) z = into_cast_cases (Stay w) w q n (λ s e free held. record { seat = λ p i. refl; injector = λ p. refl; casts = λ p i. refl })
step_stays w (Broadcast q p) z = if_cond (Stay w) (is_free ((w.stack q).top) && is_pool w.shape p) _ (λ b. record { seat = λ p i. refl; injector = λ p. refl; casts = λ p i. refl })
step_stays w (Yield q) z = yield_stays w q (w.stack q) YieldPop
step_stays w (YieldLocal q) z = yield_stays w q (w.stack q) LocalPop
step_stays w (EndPool q p) z = give_stays w q p

-- over every event
go_listed : (w : World) (q : Party) → IfSome (outcome w q (w.stack q)) (λ r. ShiftsAll w (Go q) (result w q (w.stack q) r))
go_listed w q = if_some_map (Listed w q a ((w.stack q).top) ((w.stack q).below)) (λ r. ShiftsAll w (Go q) (result w q (w.stack q) r)) landed (outcome w q (w.stack q)) (act_listed w q ((w.stack q).top) ((w.stack q).below))
  where
    a : Act
    a = act_of q (w.stack q).top

    to : Seen × Part → Stack
    to r = after_move (next_of (w.shape.pool (target_pool q a)) q ((w.stack q).top) (r.0)) ((w.stack q).below)

    mine : (r : Seen × Part) → (result w q (w.stack q) r).stack q ≡ to r
    mine r = stack_mine w.stack q (to r)

    landed : (r : Seen × Part) → Listed w q a ((w.stack q).top) ((w.stack q).below) r → ShiftsAll w (Go q) (result w q (w.stack q) r)
    landed r h = record {
      deques = λ p i. subst (λ k. Shifts (w.seat p i).own (deque_shift w.shape p i q a (k.top)) ((result w q (w.stack q) r).seat p i).own) (sym (mine r)) (h.deques p i);
      injectors = λ p. subst (λ k. Shifts (w.pool p).injector (injector_shift p q a (k.top)) ((result w q (w.stack q) r).pool p).injector) (sym (mine r)) (h.injectors p);
      casts = λ p i. subst (λ k. Shifts ((w.pool p).casts i) (cast_shift p i q a (k.top)) (((result w q (w.stack q) r).pool p).casts i)) (sym (mine r)) (h.casts p i);
    }

step_shifts : (w : World) (e : Event) → IfSome (step w e) (ShiftsAll w e)
step_shifts w e = by e (is_act e) refl
  where
    by : (e : Event) (b : Bool) → is_act e ≡ b → IfSome (step w e) (ShiftsAll w e)
    by e false z = if_some_map (Stay w) (ShiftsAll w e) (still w e z) (step w e) (step_stays w e z)
    by (Go q) true z = go_all (ShiftsAll w (Go q)) w q (go_listed w q)
    by e true z = absurd (cc)

pub list_law : ListLaw
list_law shape before w v e run s = let k : IfSome (Some v) (ShiftsAll w e) = subst (λ o. IfSome o (ShiftsAll w e)) s (step_shifts w e) in k
