-- each step changes each worker's FIFO list as a queue
use Rattle.std.proofs.Common.{refl, sym, ◌∙◌, ap, subst}
use Rattle.rayon_machine_orders.proofs.Words.{ℕ, Bool, true, false, ◌&&◌, ◌==◌, if◌then◌else◌, Option, Some, None, List, [], ◌∷◌, ◌++◌, ◌≡◌, IfSome, AddToFifo, BeginHere, BeginTask, JoinPop, JoinTakeCast, LocalPop, LocalTakeCast, LookQueue, PopIdle, PopInjected, PopWorking, PushJob, PushToken}
use Rattle.rayon_machine_orders.proofs.Words.{StealFrom, TakeCastIdle, TakeCastWorking, TakeFromFifo, YieldPop, YieldPopInjected, YieldSteal, YieldTakeCast, PushForAll, OpenForAll, CloseForAll, GrowCast, DealPieces, StorePiece, Caller, Worker, Change, Changes, change, change_of, run_at, Comes}
use Rattle.rayon_machine_orders.proofs.Words.{Joins, Leaves, Counts, Part, Seat, Shape, World, but_last, counts_at, effect, fifo_back, head_of, is_open, last_of, or_none, pop_injector, popped, put_list, same_list, take_cast, target_call, target_pool, target_worker, Go, Event, IsRun, start}
use Rattle.rayon_machine_orders.proofs.Words.{eqb-true, Feeding, FifoOut, LookInj, LookOwn, PushInj, PushOwn, Party, Place, Plain, Token, Seen, act_of, after_begin, is_member, next_of, own_pool, plan_job, plan_pool, plan_book, count_book, after_move, part_of, put_seat, step}
use Rattle.rayon_machine_orders.specs.Queue.{QueueLaw}
use Rattle.rayon_machine_runs.specs.World.{fifo_first, fifo_out}
use Rattle.rayon_machine_laws.proofs.Redeems.{always_stocks, redeems}
use Rattle.rayon_machine_laws.proofs.Emptied.{always_lists}
use Rattle.rayon_machine_laws.proofs.Tops.{FramesOk}
use Rattle.rayon_machine_laws.specs.Once.{IsRedeemed}
use Rattle.rayon_machine_orders.proofs.Lone.{Turns, is_act, turns}
use Rattle.rayon_machine_laws.proofs.Lists.{SameJobs, quiet_same}
use Rattle.rayon_machine_laws.proofs.Frame.{acted_keeps, if_cond, if_some_map, same_index, stack_mine, same_list_true, list_new, list_old}
use Rattle.rayon_machine_laws.proofs.Ties.{job_at, outcome, result}
use Rattle.rayon_machine_laws.proofs.ClaimRuns.{place_part, world_after}

-- a place of a FIFO list
abbrev is_listing : Place → Bool
is_listing (AddToFifo f) = true
is_listing (TakeFromFifo f) = true
is_listing (BeginTask (Token k i b8)) = true
is_listing _ = false

-- all other acts leave the lists
abbrev Leaving : Part → Seen × Part → Type 0
Leaving m r = r.1.seat.fifo ≡ m.seat.fifo

pop_list : (q : Party) (m : Part) (rest : List ℕ) (o : Option ℕ) → IfSome (popped q m rest o) (Leaving m)
pop_list q m rest None = refl
pop_list q m rest (Some t) = refl

inj_list : (q : Party) (m : Part) (l : List ℕ) → IfSome (pop_injector q m l) (Leaving m)
inj_list q m [] = refl
inj_list q m (t ∷ ts) = refl

cast_list : (q : Party) (m : Part) (l : List ℕ) → IfSome (take_cast q m l) (Leaving m)
cast_list q m [] = refl
cast_list q m (t ∷ ts) = refl

push_list : (h : Shape) (q : Party) (c : Counts) (m : Part) (t p : ℕ) (k : Option ℕ) (b : Bool) → IfSome (effect (if b then PushOwn t k else PushInj p t k) h q c m) (Leaving m)
push_list h q c m t p k true = refl
push_list h q c m t p k false = refl

list_table : (h : Shape) (q : Party) (c : Counts) (m : Part) (x : Place) → is_listing x ≡ false → IfSome (effect (act_of q x) h q c m) (Leaving m)
list_table h (Worker a b) c m (PopWorking k) z = pop_list (Worker a b) m _ _
list_table h (Caller n) c m (PopWorking k) z = tt
list_table h (Worker a b) c m (PopIdle k) z = pop_list (Worker a b) m _ _
list_table h (Caller n) c m (PopIdle k) z = tt
list_table h (Worker a b) c m (JoinPop o) z = pop_list (Worker a b) m _ _
list_table h (Caller n) c m (JoinPop o) z = tt
list_table h (Worker a b) c m YieldPop z = pop_list (Worker a b) m _ _
list_table h (Caller n) c m YieldPop z = tt
list_table h (Worker a b) c m LocalPop z = pop_list (Worker a b) m _ _
list_table h (Caller n) c m LocalPop z = tt
list_table h (Worker a b) c m (StealFrom k n) z = pop_list (Worker a b) m _ _
list_table h (Caller g) c m (StealFrom k n) z = tt
list_table h (Worker a b) c m (YieldSteal v n) z = pop_list (Worker a b) m _ _
list_table h (Caller g) c m (YieldSteal v n) z = tt
list_table h (Worker a b) c m (PopInjected k) z = inj_list (Worker a b) m m.pool.injector
list_table h (Caller n) c m (PopInjected k) z = tt
list_table h (Worker a b) c m YieldPopInjected z = inj_list (Worker a b) m m.pool.injector
list_table h (Caller n) c m YieldPopInjected z = tt
list_table h (Worker a b) c m (TakeCastWorking k) z = cast_list (Worker a b) m (m.pool.casts b)
list_table h (Caller n) c m (TakeCastWorking k) z = tt
list_table h (Worker a b) c m (TakeCastIdle k) z = cast_list (Worker a b) m (m.pool.casts b)
list_table h (Caller n) c m (TakeCastIdle k) z = tt
list_table h (Worker a b) c m (JoinTakeCast o) z = cast_list (Worker a b) m (m.pool.casts b)
list_table h (Caller n) c m (JoinTakeCast o) z = tt
list_table h (Worker a b) c m YieldTakeCast z = cast_list (Worker a b) m (m.pool.casts b)
list_table h (Caller n) c m YieldTakeCast z = tt
list_table h (Worker a b) c m LocalTakeCast z = cast_list (Worker a b) m (m.pool.casts b)
list_table h (Caller n) c m LocalTakeCast z = tt
list_table h (Worker a b) c m (PushJob n v) z = push_list h (Worker a b) c m (plan_job n) (plan_pool n) (plan_book n) (is_member (Worker a b) (plan_pool n))
list_table h (Caller g) c m (PushJob n v) z = push_list h (Caller g) c m (plan_job n) (plan_pool n) (plan_book n) (is_member (Caller g) (plan_pool n))
list_table h (Worker a b) c m (PushToken f v) z = refl
list_table h (Caller g) c m (PushToken f v) z = tt
list_table h (Worker a b) c m (AddToFifo f) z = absurd (cc)
list_table h (Caller g) c m (AddToFifo f) z = tt
list_table h (Worker a b) c m (TakeFromFifo f) z = absurd (cc)
list_table h (Caller g) c m (TakeFromFifo f) z = tt
list_table h q c m (BeginTask (Plain u)) z = refl
list_table h q c m (BeginTask (Token k i b8)) z = absurd (cc)
list_table h q c m (BeginHere u) z = refl
list_table h q c m (PushForAll b) z = refl
list_table h q c m (DealPieces b) z = refl
list_table h q c m x z = if_some_map (SameJobs m) (Leaving m) (λ r s. s.fifo) (effect (act_of q x) h q c m) (quiet_same h q c m x refl)

-- and are none of a list's
none_change : (p i : ℕ) (b : Option ℕ) (q : Party) (x y : Place) → is_listing x ≡ false → change_of p i b q (act_of q x) y ≡ None
none_change p i b q (PushJob n v) y z = by q
  where
    at : (q : Party) (d : Bool) → change_of p i b q (if d then PushOwn (plan_job n) (plan_book n) else PushInj (plan_pool n) (plan_job n) (plan_book n)) y ≡ None
    at q true = refl
    at q false = refl

    by : (q : Party) → change_of p i b q (act_of q (PushJob n v)) y ≡ None
    by (Worker a c) = at (Worker a c) (is_member (Worker a c) (plan_pool n))
    by (Caller c) = at (Caller c) (is_member (Caller c) (plan_pool n))
none_change p i b q (LookQueue n) y z = by q
  where
    at : (q : Party) (d : Bool) → change_of p i b q (if d then LookOwn else LookInj (plan_pool n)) y ≡ None
    at q true = refl
    at q false = refl

    by : (q : Party) → change_of p i b q (act_of q (LookQueue n)) y ≡ None
    by (Worker a c) = at (Worker a c) (is_member (Worker a c) (plan_pool n))
    by (Caller c) = at (Caller c) (is_member (Caller c) (plan_pool n))
none_change p i b q (AddToFifo f) y z = absurd (cc)
none_change p i b q (TakeFromFifo f) y z = absurd (cc)
none_change p i b q (BeginTask (Token k j c)) y z = absurd (cc)
none_change p i b (Worker a c) _ y z = refl
none_change p i b (Caller c) _ y z = refl

-- where a party stands, and how the lists are, after its act
abbrev Queued : World → Party → Place → List Place → Seen × Part → Type 0
Queued w q x fs r = (p i : ℕ) (b : Option ℕ) → Changes ((w.seat p i).fifo b) (change_of p i b q (act_of q x) (after_move (next_of (w.shape.pool (target_pool q (act_of q x))) q x (r.0)) fs).top) (((world_after w q x fs r).seat p i).fifo b)

-- an act that leaves the lists
left_queued : (w : World) (q : Party) (x : Place) (fs : List Place) (r : Seen × Part) → is_listing x ≡ false → Leaving (place_part w q x) r → Queued w q x fs r
left_queued w q x fs r z e p i b = subst (λ o. Changes ((w.seat p i).fifo b) o (((world_after w q x fs r).seat p i).fifo b)) (sym (none_change p i b q x ((after_move (next_of (w.shape.pool (target_pool q (act_of q x))) q x (r.0)) fs).top) z))
    (by ((p == target_pool q (act_of q x)) && (i == target_worker q (act_of q x))) refl)
  where
    by : (d : Bool) → ((p == target_pool q (act_of q x)) && (i == target_worker q (act_of q x))) ≡ d → (if d then r.1.seat else w.seat p i).fifo b ≡ (w.seat p i).fifo b
    by true y = let k : (p ≡ target_pool q (act_of q x)) × (i ≡ target_worker q (act_of q x)) = same_index p i (target_pool q (act_of q x)) (target_worker q (act_of q x)) y in
        ap (λ g. g b) e ∙ sym (ap (λ n. (w.seat n i).fifo b) (k.0) ∙ ap (λ n. (w.seat (target_pool q (act_of q x)) n).fifo b) (k.1))
    by false y = refl

-- an act on one list of one worker
own_queued : (w : World) (a c : ℕ) (d : Option ℕ) (o : Change) (s : Seat) (l : List ℕ) (p i : ℕ) (b : Option ℕ) → s.fifo d ≡ l → ((n : Option ℕ) → same_list n d ≡ false → s.fifo n ≡ (w.seat a c).fifo n) → Changes ((w.seat a c).fifo d) (Some o) l → Changes ((w.seat p i).fifo b)
    (if (p == a) && ((i == c) && same_list b d) then Some o else None) ((if (p == a) && (i == c) then s else w.seat p i).fifo b)
own_queued w a c d o s l p i b is rest e = by (p == a) (i == c) (same_list b d) refl refl refl
  where
    by : (x y z : Bool) → (p == a) ≡ x → (i == c) ≡ y → same_list b d ≡ z → Changes ((w.seat p i).fifo b) (if x && (y && z) then Some o else None) ((if x && y then s else w.seat p i).fifo b)
    by true true true f g h =
        let k : p ≡ a = eqb-true p a f in let j : i ≡ c = eqb-true i c g in let n : b ≡ d = same_list_true b d h in
        let old : (w.seat p i).fifo b ≡ (w.seat a c).fifo d = ap (λ u. (w.seat u i).fifo b) k ∙ ap (λ u. (w.seat a u).fifo b) j ∙ ap (λ u. (w.seat a c).fifo u) n in
        let new : s.fifo b ≡ l = ap (λ u. s.fifo u) n ∙ is in
        subst (λ u. Changes u (Some o) (s.fifo b)) (sym old) (subst (λ u. Changes ((w.seat a c).fifo d) (Some o) u) (sym new) e)
    by true true false f g h =
        let k : p ≡ a = eqb-true p a f in let j : i ≡ c = eqb-true i c g in
        rest b h ∙ sym (ap (λ u. (w.seat u i).fifo b) k ∙ ap (λ u. (w.seat a u).fifo b) j)
    by true false z f g h = refl
    by false y z f g h = refl

-- a token begins the first job of its list, which has one
drawn_queued : (w : World) (q : Party) (k j : ℕ) (d : Option ℕ) (fs : List Place) → w.stack q ≡ record { top = BeginTask (Token k j d); below = fs } → IsRedeemed w → act_of q (BeginTask (Token k j d)) ≡ FifoOut k j d
    → IfSome (fifo_out q (part_of w (own_pool q) j 0 (or_none (head_of ((w.seat (own_pool q) j).fifo d)))) d)
    (λ r. (p i : ℕ) (b : Option ℕ) → Changes ((w.seat p i).fifo b) (if (p == own_pool q) && ((i == j) && same_list b d) then Some (Comes (run_at (after_move (after_begin (Token k j d) (r.0)) fs).top)) else None) ((put_seat w.seat (own_pool q) j (r.1.seat) p i).fifo b))
drawn_queued w q k j d fs e h is = by (is_open q ((w.seat (own_pool q) j).feeder d))
  where
    P : Seen × Part → Type 0
    P r = (p i : ℕ) (b : Option ℕ) → Changes ((w.seat p i).fifo b) (if (p == own_pool q) && ((i == j) && same_list b d) then Some (Comes (run_at (after_move (after_begin (Token k j d) (r.0)) fs).top)) else None) ((put_seat w.seat (own_pool q) j (r.1.seat) p i).fifo b)

    m : Part
    m = part_of w (own_pool q) j 0 (or_none (head_of ((w.seat (own_pool q) j).fifo d)))

    first : (l : List ℕ) → (w.seat (own_pool q) j).fifo d ≡ l → IfSome (fifo_first q m d l) P
    first [] n = absurd (h q k j d (ap (λ s. act_of q s.top) e ∙ is) n)
    first (u ∷ us) n = λ p i b. own_queued w (own_pool q) j d (Comes (Some u)) (record (w.seat (own_pool q) j) { fifo = put_list (w.seat (own_pool q) j).fifo d us }) us p i b (list_new ((w.seat (own_pool q) j).fifo) d us) (list_old ((w.seat (own_pool q) j).fifo) d us) (u, refl, n)

    by : (z : Bool) → IfSome (if z then fifo_first q m d ((w.seat (own_pool q) j).fifo d) else None) P
    by true = first ((w.seat (own_pool q) j).fifo d) refl
    by false = tt

-- a list without a last job has none to take back
none_last : (l : List ℕ) → last_of l ≡ None → l ≡ but_last l
none_last [] e = refl
none_last (t ∷ []) e = absurd (cc)
none_last (t ∷ u ∷ ts) e = ap (λ z. t ∷ z) (none_last (u ∷ ts) e)

undo_queued : (w : World) (a c : ℕ) (f : Feeding) (fs : List Place) → IfSome (outcome w (Worker a c) (record { top = TakeFromFifo f; below = fs })) (Queued w (Worker a c) (TakeFromFifo f) fs)
undo_queued w a c f fs = by (is_open (Worker a c) ((w.seat a c).feeder d))
  where
    d : Option ℕ
    d = count_book f.count

    m : Part
    m = part_of w a c 0 (or_none (last_of ((w.seat a c).fifo d)))

    back : (o : Option ℕ) → last_of ((w.seat a c).fifo d) ≡ o → IfSome (fifo_back (Worker a c) m d o) (Queued w (Worker a c) (TakeFromFifo f) fs)
    back None n = λ p i b. own_queued w a c d Leaves (w.seat a c) ((w.seat a c).fifo d) p i b refl (λ u z. refl) (none_last ((w.seat a c).fifo d) n)
    back (Some u) n = λ p i b. own_queued w a c d Leaves (record (w.seat a c) { fifo = put_list (w.seat a c).fifo d (but_last ((w.seat a c).fifo d)); feeder = put_list (w.seat a c).feeder d None }) (but_last ((w.seat a c).fifo d)) p i b
        (list_new ((w.seat a c).fifo) d (but_last ((w.seat a c).fifo d))) (list_old ((w.seat a c).fifo) d (but_last ((w.seat a c).fifo d))) refl

    by : (z : Bool) → IfSome (if z then fifo_back (Worker a c) m d (last_of ((w.seat a c).fifo d)) else None) (Queued w (Worker a c) (TakeFromFifo f) fs)
    by true = back (last_of ((w.seat a c).fifo d)) refl
    by false = tt

act_queued : (w : World) (q : Party) (x : Place) (fs : List Place) → w.stack q ≡ record { top = x; below = fs } → IsRedeemed w → IfSome (outcome w q (record { top = x; below = fs })) (Queued w q x fs)
act_queued w (Worker a c) (AddToFifo f) fs e h = if_cond (Queued w (Worker a c) (AddToFifo f) fs) (is_open (Worker a c) ((w.seat a c).feeder (count_book f.count))) _
    (λ o p i b. own_queued w a c (count_book f.count) (Joins f.job) (record (w.seat a c) { fifo = put_list (w.seat a c).fifo (count_book f.count) ((w.seat a c).fifo (count_book f.count) ++ f.job ∷ []); feeder = put_list (w.seat a c).feeder (count_book f.count) (Some (Worker a c)) })
    ((w.seat a c).fifo (count_book f.count) ++ f.job ∷ []) p i b (list_new ((w.seat a c).fifo) (count_book f.count) ((w.seat a c).fifo (count_book f.count) ++ f.job ∷ [])) (list_old ((w.seat a c).fifo) (count_book f.count) ((w.seat a c).fifo (count_book f.count) ++ f.job ∷ [])) refl)
act_queued w (Caller n) (AddToFifo f) fs e h = tt
act_queued w (Worker a c) (TakeFromFifo f) fs e h = undo_queued w a c f fs
act_queued w (Caller n) (TakeFromFifo f) fs e h = tt
act_queued w (Worker a c) (BeginTask (Token k j d)) fs e h = drawn_queued w (Worker a c) k j d fs e h refl
act_queued w (Caller n) (BeginTask (Token k j d)) fs e h = drawn_queued w (Caller n) k j d fs e h refl
act_queued w q x fs e h = if_some_map (Leaving (place_part w q x)) (Queued w q x fs) (λ r s. left_queued w q x fs r refl s) (outcome w q (record { top = x; below = fs })) (list_table w.shape q (counts_at w (target_pool q (act_of q x))) (place_part w q x) x refl)

-- over every event
abbrev pub Steps : World → Event → World → Type 0
Steps w e v = (p i : ℕ) (b : Option ℕ) → Changes ((w.seat p i).fifo b) (change p i b w e v) ((v.seat p i).fifo b)

go_queued : (w : World) (q : Party) → IsRedeemed w → IfSome (outcome w q (w.stack q)) (λ r. Steps w (Go q) (result w q (w.stack q) r))
go_queued w q h = if_some_map (Queued w q ((w.stack q).top) ((w.stack q).below)) (λ r. Steps w (Go q) (result w q (w.stack q) r))
    (λ r f p i b. subst (λ k. Changes ((w.seat p i).fifo b) (change_of p i b q (act_of q ((w.stack q).top)) (k.top)) (((result w q (w.stack q) r).seat p i).fifo b))
    (sym (stack_mine w.stack q (after_move (next_of (w.shape.pool (target_pool q (act_of q ((w.stack q).top)))) q ((w.stack q).top) (r.0)) ((w.stack q).below)))) (f p i b))
    (outcome w q (w.stack q)) (act_queued w q ((w.stack q).top) ((w.stack q).below) refl h)

-- an event that is no act changes no list
still : (w : World) (e : Event) (v : World) → is_act e ≡ false → Turns w v → Steps w e v
still w (Go q) v z m p i b = cc
still w _ v z m p i b = ap (λ s. s.fifo b) (m.seat p i)

pub step_queued : (w : World) (e : Event) → FramesOk w → IsRedeemed w → IfSome (step w e) (Steps w e)
step_queued w (Go q) fr h = acted_keeps w q (w.stack q) (target_pool q (act_of q ((w.stack q).top))) (target_worker q (act_of q ((w.stack q).top))) (target_call (act_of q ((w.stack q).top))) (job_at w q (act_of q ((w.stack q).top))) (outcome w q (w.stack q)) (Steps w (Go q)) (go_queued w q h)
step_queued w e fr h = if_some_map (Turns w) (Steps w e) (λ v m. still w e v refl m) (step w e) (turns w fr e refl)

pub always_redeemed : (h : Shape) (es : List Event) (w : World) → IsRun (start h) es w → IsRedeemed w
always_redeemed h es w r = redeems w (always_stocks h es w r)

pub steps_on : (h : Shape) (es : List Event) (w v : World) (e : Event) → IsRun (start h) es w → step w e ≡ Some v → Steps w e v
steps_on h es w v e run s = let k : IfSome (Some v) (Steps w e) = subst (λ o. IfSome o (Steps w e)) s (step_queued w e ((always_lists h es w run).frames) (always_redeemed h es w run)) in k

pub queue_law : QueueLaw
queue_law shape before p i b w v e run s = steps_on shape before w v e run s p i b
