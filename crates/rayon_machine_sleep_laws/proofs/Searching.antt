-- between a worker's last Announce and its Block lies a whole search that found nothing
use Rattle.std.proofs.Common.{rules, arith, refl, sym, ◌∙◌, ap, subst, ◌≢◌}
use Rattle.rayon_machine_sleep_laws.proofs.Words.{ℕ, Bool, true, false, ◌&&◌, ◌+◌, ◌-◌, ◌==◌, ◌<◌, nat_lt, if◌then◌else◌, Option, Some, None, List, [], ◌∷◌, ◌++◌, ◌≡◌, IfSome, eqb-true, eq-eqb, ltb-true, Order, Party, Worker, Caller, Rounds, Failed, Announced, Place, ProbeIdle, TakeCastIdle}
use Rattle.rayon_machine_sleep_laws.proofs.Words.{PickVictim, StealFrom, PopInjected, AnnounceSelf, BlockSelf, YieldPick, YieldSteal, YieldPopInjected, SetLatch, UnlockSettled, Stay, Seen, Event, Go, From, Miss, PoolShape, Wait, Settling, same_party, own_pool, own_index, after_set, next_victim}
use Rattle.rayon_machine_sleep_laws.proofs.Words.{not_self, act_of, after_failure, next_steal, next_yield, next_of, Shape, Stack, World, Counts, is_even, jec, Part, target_pool, target_worker, target_call, head_of, but_first, own_of, own_left, popped, take_cast, pop_injector, effect, after_move}
use Rattle.rayon_machine_sleep_laws.proofs.Words.{with_stack, after_choice, can_miss, after_miss, step, is_blocking, is_filled, IsRunWithout, is_announcing, is_announce, Spot, OwnDeque, OwnCast, Deque, Injector, Look, and_then, others, EndsSearched}
use Rattle.rayon_machine_places.specs.declared.place.Place.TheVariants.{PopIdle}
use Rattle.rayon_machine_sleep_laws.specs.Searched.{look_at, missed_look, look_of, looks_in, SearchLaw}
use Rattle.rayon_machine_laws.proofs.Asides.{Aside, calm_step}
use Rattle.rayon_machine_laws.proofs.Attended.{Awake, aside_frames, step_awake, always_awake, step_shape, always_shape}
use Rattle.rayon_machine_laws.proofs.Calm.{part_at, counts_seen, next_at, top_then}
use Rattle.rayon_machine_laws.proofs.Emptied.{own_none, settled_busy, set_busy}
use Rattle.rayon_machine_laws.proofs.Frame.{same_refl, same_party_true, if_some_all, if_some_and, if_some_map, if_cond, acted_keeps}
use Rattle.rayon_machine_laws.proofs.Holding.{go_frames}
use Rattle.rayon_machine_laws.proofs.Kept.{is_emptied, frame_not_emptied}
use Rattle.rayon_machine_laws.proofs.Locks.{tops_map}
use Rattle.rayon_machine_laws.proofs.Seats.{is_frame}
use Rattle.rayon_machine_laws.proofs.Ties.{AllFrames, job_at, outcome, result}
use Rattle.rayon_machine_laws.proofs.Tops.{Tops, FramesOk}
use Rattle.rayon_machine_sleep_laws.proofs.Stages.{Stage, busy_stage, add_look, add_then, one_more, pick_stage, steal_stage}

settled_stage : (h : PoolShape) (q : Party) (s : Settling) (n i : ℕ) (l : List Look) → Tops (λ y. Stage n i y l) (after_set h q s s.latch)
settled_stage h q s n i l = tops_map (λ y. is_emptied y ≡ false) (λ y. Stage n i y l) (λ y e. busy_stage n i y l e) (after_set h q s s.latch) (settled_busy h q s)

set_stage : (h : PoolShape) (q : Party) (s : Settling) (n i : ℕ) (l : List Look) (e : Seen) → Tops (λ y. Stage n i y l) (next_of h q (SetLatch s) e)
set_stage h q s n i l e = tops_map (λ y. is_emptied y ≡ false) (λ y. Stage n i y l) (λ y z. busy_stage n i y l z) (next_of h q (SetLatch s) e) (set_busy h q s e)

-- the places at which a worker looks, or chooses whom to steal from
abbrev looking_at : Place → Bool
looking_at (PopIdle k) = true
looking_at (TakeCastIdle k) = true
looking_at (PickVictim k) = true
looking_at (StealFrom k m) = true
looking_at (PopInjected k) = true
looking_at _ = false

other_stage : (h : Shape) (g : PoolShape) (p i : ℕ) (c : Counts) (m : Part) (x : Place) (n : ℕ) (l : List Look) → looking_at x ≡ false → Stage n i x l → IfSome (effect (act_of (Worker p i) x) h (Worker p i) c m) (λ r. Tops (λ y. Stage n i y l) (next_of g (Worker p i) x (r.0)))
other_stage h g p i c m (PopIdle k) n l z s = cc
other_stage h g p i c m (TakeCastIdle k) n l z s = cc
other_stage h g p i c m (PickVictim k) n l z s = cc
other_stage h g p i c m (StealFrom k v) n l z s = cc
other_stage h g p i c m (PopInjected k) n l z s = cc
other_stage h g p i c m (SetLatch k) n l z s = if_some_all {A = Seen × Part} (λ r. Tops (λ y. Stage n i y l) (next_of g (Worker p i) (SetLatch k) (r.0))) (λ r. set_stage g (Worker p i) k n i l (r.0)) (effect (act_of (Worker p i) (SetLatch k)) h (Worker p i) c m)
other_stage h g p i c m (UnlockSettled k) n l z s = if_some_all {A = Seen × Part} (λ r. Tops (λ y. Stage n i y l) (next_of g (Worker p i) (UnlockSettled k) (r.0))) (λ r. settled_stage g (Worker p i) k n i l) (effect (act_of (Worker p i) (UnlockSettled k)) h (Worker p i) c m)
other_stage h g p i c m _ n l z s = search (rules, arith)

abbrev look_in : Spot → List ℕ → Look
look_in s l = record { spot = s; found = is_filled l }

empty_look : (s : Spot) (l : List ℕ) (looks : List Look) → l ≡ [] → looks ++ look_in s l ∷ [] ≡ looks ++ look_in s [] ∷ []
empty_look s l looks e = ap (λ z. looks ++ look_in s z ∷ []) e

pop_stage : (g : PoolShape) (q : Party) (k : Wait) (m : Part) (o : Order) (n i : ℕ) (l : List Look) (t : Option ℕ) → own_of o m.seat.own ≡ t → IfSome (popped q m (own_left o m.seat.own) t) (λ r. Tops (λ y. Stage n i y (l ++ look_in OwnDeque m.seat.own ∷ [])) (next_of g q (PopIdle k) (r.0)))
pop_stage g q k m o n i l None e = record { earlier = l; is = empty_look OwnDeque m.seat.own l (own_none o m.seat.own e) }
pop_stage g q k m o n i l (Some t) e = tt

others_of_one : (n i v : ℕ) → n ≡ 1 → others n i (n - 1) v ≡ []
others_of_one n i v e = ap (λ z. others n i (z - 1) v) e

cast_stage : (g : PoolShape) (q : Party) (k : Wait) (m : Part) (i : ℕ) (l : List Look) (t : List ℕ) → i < g.workers → Stage g.workers i (TakeCastIdle k) l → IfSome (take_cast q m t) (λ r. Tops (λ y. Stage g.workers i y (l ++ look_in OwnCast t ∷ [])) (next_of g q (TakeCastIdle k) (r.0)))
cast_stage g q k m i l (t ∷ ts) below s = tt
cast_stage g q k m i l [] below s = at (g.workers == 1) refl
  where
    more : l ++ look_in OwnCast [] ∷ [] ≡ s.earlier ++ (look_in OwnDeque [] ∷ look_in OwnCast [] ∷ [])
    more = one_more l s.earlier (look_in OwnDeque [] ∷ []) (look_in OwnCast []) s.is

    at : (b : Bool) → (g.workers == 1) ≡ b → Tops (λ y. Stage g.workers i y (l ++ look_in OwnCast [] ∷ [])) (if b then Stay (PopInjected k) else Stay (PickVictim k))
    at true e = (let one : g.workers ≡ 1 = eqb-true g.workers 1 e in
        record { earlier = s.earlier; start = 0; within = λ two. absurd (omega arith); other = λ two. absurd (omega arith); is = more ∙ ap (λ z. s.earlier ++ (look_in OwnDeque [] ∷ look_in OwnCast [] ∷ z)) (sym (others_of_one g.workers i 0 one)) })
    at false e = (let many : g.workers ≢ 1 = λ z. (let y : (g.workers == 1) ≡ true = eq-eqb g.workers 1 z in cc) in (omega arith, record { earlier = s.earlier; is = more }))

thief_stage : (g : PoolShape) (p i : ℕ) (k : Wait) (v : ℕ) (m : Part) (l : List Look) (t : List ℕ) → Stage g.workers i (StealFrom k v) l → IfSome (popped (Worker p i) m (but_first t) (head_of t))
    (λ r. Tops (λ y. Stage g.workers i y (l ++ look_in (Deque k.victim) t ∷ [])) (next_of g (Worker p i) (StealFrom k v) (r.0)))
thief_stage g p i k v m l (t ∷ ts) s = tt
thief_stage g p i k v m l [] s = steal_stage g.workers i g (Worker p i) k v l refl refl s

last_stage : (g : PoolShape) (q : Party) (k : Wait) (m : Part) (i : ℕ) (l : List Look) (t : List ℕ) → Stage g.workers i (PopInjected k) l → IfSome (pop_injector q m t) (λ r. Tops (λ y. Stage g.workers i y (l ++ look_in Injector t ∷ [])) (next_of g q (PopInjected k) (r.0)))
last_stage g q k m i l (t ∷ ts) s = tt
last_stage g q k m i l [] s = by_rounds k.rounds
  where
    by_rounds : (r : Rounds) → Stage g.workers i (after_failure g k r) (l ++ look_in Injector [] ∷ [])
    by_rounds Announced = record { earlier = s.earlier; start = s.start; within = s.within; other = s.other; is = one_more l s.earlier (look_in OwnDeque [] ∷ look_in OwnCast [] ∷ others g.workers i (g.workers - 1) s.start) (look_in Injector []) s.is }
    by_rounds (Failed n) = at (nat_lt n g.limit)
      where
        at : (b : Bool) → Stage g.workers i (if b then ProbeIdle (record k { rounds = Failed (n + 1) }) else AnnounceSelf k) (l ++ look_in Injector [] ∷ [])
        at true = tt
        at false = tt

-- a worker's own act
own_search : (w : World) (p i : ℕ) (x : Place) (fs : List Place) (l : List Look) → i < (w.shape.pool p).workers → Stage (w.shape.pool p).workers i x l → IfSome (outcome w (Worker p i) (record { top = x; below = fs }))
    (λ r. Tops (λ y. Stage (w.shape.pool p).workers i y (add_look l (look_at w p i x))) (next_of (w.shape.pool (target_pool (Worker p i) (act_of (Worker p i) x))) (Worker p i) x (r.0)))
own_search w p i (PopIdle k) fs l below s = pop_stage (w.shape.pool p) (Worker p i) k (part_at w (Worker p i) (record { top = PopIdle k; below = fs })) (w.shape.pool p).order (w.shape.pool p).workers i l (own_of (w.shape.pool p).order (w.seat p i).own) refl
own_search w p i (TakeCastIdle k) fs l below s = cast_stage (w.shape.pool p) (Worker p i) k (part_at w (Worker p i) (record { top = TakeCastIdle k; below = fs })) i l ((w.pool p).casts i) below s
own_search w p i (PickVictim k) fs l below s = pick_stage (w.shape.pool p).workers i 0 k l (omega arith) below s
own_search w p i (StealFrom k v) fs l below s = thief_stage (w.shape.pool p) p i k v (part_at w (Worker p i) (record { top = StealFrom k v; below = fs })) l (w.seat p k.victim).own s
own_search w p i (PopInjected k) fs l below s = last_stage (w.shape.pool p) (Worker p i) k (part_at w (Worker p i) (record { top = PopInjected k; below = fs })) i l (w.pool p).injector s
own_search w p i x fs l below s = other_stage w.shape (w.shape.pool (target_pool (Worker p i) (act_of (Worker p i) x))) p i (counts_seen w (Worker p i) (record { top = x; below = fs })) (part_at w (Worker p i) (record { top = x; below = fs })) x (w.shape.pool p).workers l refl s

frame_stage : (n i : ℕ) (l : List Look) (f : Place) → is_frame f ≡ true → Stage n i f l
frame_stage n i l f e = busy_stage n i f l (frame_not_emptied f e)

-- what holds of each world after an Announce, with the looks since
pub record Searches (h : Shape) (p i : ℕ) (l : List Look) (w : World) : Type 0 where
  pub shape : w.shape ≡ h
  pub frames : FramesOk w
  pub stage : Stage (w.shape.pool p).workers i (w.stack (Worker p i)).top l

abbrev StageOf : World → ℕ → ℕ → Stack → List Look → Type 0
StageOf w p i k l = Stage (w.shape.pool p).workers i k.top l

search_go : (w : World) (q : Party) (p i : ℕ) (l : List Look) (b : Bool) → same_party (Worker p i) q ≡ b → i < (w.shape.pool p).workers → FramesOk w → StageOf w p i (w.stack (Worker p i)) l → IfSome (outcome w q (w.stack q))
    (λ r. StageOf w p i (if b then after_move (next_at w q (w.stack q) (r.0)) (w.stack q).below else w.stack (Worker p i)) (add_look l (if b then look_at w p i (w.stack q).top else None)))
search_go w q p i l true eb below fr s =
    let F : Party → Type 0 = λ z. IfSome (outcome w z (w.stack z)) (λ r. StageOf w p i (after_move (next_at w z (w.stack z) (r.0)) (w.stack z).below) (add_look l (look_at w p i (w.stack z).top))) in
    let me : Party = Worker p i in
    let k : Stack = w.stack me in
    let L : List Look = add_look l (look_at w p i k.top) in
    subst F (same_party_true (Worker p i) q eb)
    (if_some_map {A = Seen × Part} (λ r. Tops (λ y. Stage (w.shape.pool p).workers i y L) (next_at w me k (r.0))) (λ r. StageOf w p i (after_move (next_at w me k (r.0)) k.below) L)
    (λ r t. top_then (λ y. Stage (w.shape.pool p).workers i y L) w me k (r.0) refl fr (frame_stage (w.shape.pool p).workers i L) t) (outcome w me k) (own_search w p i k.top k.below l below s))
search_go w q p i l false eb below fr s = if_some_all {A = Seen × Part} (λ r. StageOf w p i (w.stack (Worker p i)) l) (λ r. s) (outcome w q (w.stack q))

-- an event that is no act
search_aside : (h : Shape) (p i : ℕ) (l : List Look) (w u : World) (m : Aside w u) → Searches h p i l w → (same_party (Worker p i) (m.party) ≡ true → StageOf w p i (m.to) l) → Searches h p i l u
search_aside h p i l w u m s f = record {
  shape = m.shape ∙ s.shape;
  frames = aside_frames w u m s.frames;
  stage = subst (λ z. Stage (z.pool p).workers i (u.stack (Worker p i)).top l) (sym (m.shape)) (subst (λ z. Stage (w.shape.pool p).workers i (z.top) l) (sym (m.stack (Worker p i))) (at (same_party (Worker p i) (m.party)) refl));
}
  where
    at : (b : Bool) → same_party (Worker p i) (m.party) ≡ b → Stage (w.shape.pool p).workers i ((if b then m.to else w.stack (Worker p i)).top) l
    at true e = f e
    at false e = s.stage

-- one party turns from a place to another, with the same frames
turn_search : (h : Shape) (p i : ℕ) (l t : List Look) (w : World) (q : Party) (x y : Place) (fs : List Place) → w.stack q ≡ record { top = x; below = fs } → Searches h p i l w → (same_party (Worker p i) q ≡ true → Stage (w.shape.pool p).workers i y t)
    → (same_party (Worker p i) q ≡ false → t ≡ l) → Searches h p i t (with_stack w q (record { top = y; below = fs }))
turn_search h p i l t w q x y fs e s mine others' = record {
  shape = s.shape;
  frames = λ g. framed g (same_party g q);
  stage = at (same_party (Worker p i) q) refl;
}
  where
    framed : (g : Party) (b : Bool) → AllFrames ((if b then record { top = y; below = fs } else w.stack g).below)
    framed g true = subst (λ z. AllFrames (z.below)) e (s.frames q)
    framed g false = s.frames g

    at : (b : Bool) → same_party (Worker p i) q ≡ b → Stage (w.shape.pool p).workers i ((if b then record { top = y; below = fs } else w.stack (Worker p i)).top) t
    at true z = mine z
    at false z = subst (Stage (w.shape.pool p).workers i (w.stack (Worker p i)).top) (sym (others' z)) s.stage

-- the stage of the party that stands here
stage_here : (h : Shape) (p i : ℕ) (l : List Look) (w : World) (q : Party) (x : Place) (fs : List Place) → w.stack q ≡ record { top = x; below = fs } → Searches h p i l w → same_party (Worker p i) q ≡ true → Stage (w.shape.pool p).workers i x l
stage_here h p i l w q x fs e s z = subst (λ y. Stage (w.shape.pool p).workers i (y.top) l) (ap w.stack (same_party_true (Worker p i) q z) ∙ e) s.stage

pool_here : (p i : ℕ) (q : Party) → same_party (Worker p i) q ≡ true → (own_pool q ≡ p) × (own_index q ≡ i)
pool_here p i q z = let is : q ≡ Worker p i = sym (same_party_true (Worker p i) q z) in (ap own_pool is, ap own_index is)

from_search : (h : Shape) (p i : ℕ) (l : List Look) (w : World) (q : Party) (x : Place) (fs : List Place) (v : ℕ) → w.stack q ≡ record { top = x; below = fs } → i < (w.shape.pool p).workers → Searches h p i l w → IfSome (after_choice w q (record { top = x; below = fs }) x v) (Searches h p i l)
from_search h p i l w q (PickVictim k) fs v e below s = if_cond (Searches h p i l) (nat_lt v (w.shape.pool (own_pool q)).workers) _ (λ b.
    turn_search h p i l l w q (PickVictim k) (StealFrom (record k { victim = not_self (w.shape.pool (own_pool q)).workers (own_index q) v }) ((w.shape.pool (own_pool q)).workers - 2)) fs e s
    (λ z. (let o : (own_pool q ≡ p) × (own_index q ≡ i) = pool_here p i q z in
    subst (λ a. Stage (w.shape.pool p).workers i (StealFrom (record k { victim = not_self (w.shape.pool a).workers (own_index q) v }) ((w.shape.pool a).workers - 2)) l) (sym (o.0))
    (subst (λ a. Stage (w.shape.pool p).workers i (StealFrom (record k { victim = not_self (w.shape.pool p).workers a v }) ((w.shape.pool p).workers - 2)) l) (sym (o.1))
    (pick_stage (w.shape.pool p).workers i v k l (subst (λ a. v < (w.shape.pool a).workers) (o.0) (ltb-true v (w.shape.pool (own_pool q)).workers b)) below (stage_here h p i l w q (PickVictim k) fs e s z)))))
    (λ z. refl))
from_search h p i l w q YieldPick fs v e below s = if_cond (Searches h p i l) (nat_lt v (w.shape.pool (own_pool q)).workers) _ (λ b.
    turn_search h p i l l w q YieldPick (YieldSteal (not_self (w.shape.pool (own_pool q)).workers (own_index q) v) ((w.shape.pool (own_pool q)).workers - 2)) fs e s (λ z. tt) (λ z. refl))
from_search h p i l w q _ fs v e below s = tt

yield_stage : (n i : ℕ) (g : PoolShape) (q : Party) (v m : ℕ) (l : List Look) → Stage n i (next_yield g q v m) l
yield_stage n i g q v m l = at (m == 0)
  where
    at : (b : Bool) → Stage n i (if b then YieldPopInjected else YieldSteal (not_self g.workers (own_index q) (next_victim g.workers v)) (m - 1)) l
    at true = tt
    at false = tt

-- the look of a steal that misses
abbrev miss_of : ℕ → ℕ → Party → Place → List Look → List Look
miss_of p i q x l = add_look l (if same_party (Worker p i) q then missed_look x else None)

miss_search : (h : Shape) (p i : ℕ) (l : List Look) (w : World) (q : Party) (x : Place) (fs : List Place) → w.stack q ≡ record { top = x; below = fs } → Searches h p i l w → IfSome (after_miss w q (record { top = x; below = fs }) x) (Searches h p i (miss_of p i q x l))
miss_search h p i l w (Worker a b) (StealFrom k n) fs e s = if_cond (Searches h p i (miss_of p i (Worker a b) (StealFrom k n) l)) (can_miss w a k.victim) _ (λ c.
    turn_search h p i l (miss_of p i (Worker a b) (StealFrom k n) l) w (Worker a b) (StealFrom k n) (next_steal (w.shape.pool a) (Worker a b) k n) fs e s
    (λ z. (let o : (a ≡ p) × (b ≡ i) = pool_here p i (Worker a b) z in
    subst (λ y. Stage (w.shape.pool p).workers i (next_steal (w.shape.pool a) (Worker a b) k n) (add_look l (if y then missed_look (StealFrom k n) else None))) (sym z)
    (steal_stage (w.shape.pool p).workers i (w.shape.pool a) (Worker a b) k n l (ap (λ y. (w.shape.pool y).workers) (o.0)) (o.1) (stage_here h p i l w (Worker a b) (StealFrom k n) fs e s z))))
    (λ z. ap (λ y. add_look l (if y then missed_look (StealFrom k n) else None)) z))
miss_search h p i l w (Worker a b) (YieldSteal v n) fs e s = if_cond (Searches h p i (miss_of p i (Worker a b) (YieldSteal v n) l)) (can_miss w a v) _ (λ c.
    turn_search h p i l (miss_of p i (Worker a b) (YieldSteal v n) l) w (Worker a b) (YieldSteal v n) (next_yield (w.shape.pool a) (Worker a b) v n) fs e s
    (λ z. yield_stage (w.shape.pool p).workers i (w.shape.pool a) (Worker a b) v n (miss_of p i (Worker a b) (YieldSteal v n) l)) (λ z. ap (λ y. add_look l (if y then missed_look (YieldSteal v n) else None)) z))
miss_search h p i l w _ _ fs e s = tt

abbrev pub LooksOn : Shape → ℕ → ℕ → List Look → World → Event → World → Type 0
LooksOn h p i l w e u = Searches h p i (add_look l (look_of p i w e)) u

search_step : (h : Shape) (p i : ℕ) (l : List Look) (w : World) (e : Event) → i < (h.pool p).workers → Searches h p i l w → IfSome (step w e) (LooksOn h p i l w e)
search_step h p i l w (Go q) below s = acted_keeps w q (w.stack q) (target_pool q (act_of q (w.stack q).top)) (target_worker q (act_of q (w.stack q).top)) (target_call (act_of q (w.stack q).top)) (job_at w q (act_of q (w.stack q).top)) (outcome w q (w.stack q)) (LooksOn h p i l w (Go q))
    (if_some_map {A = Seen × Part} (λ r. FramesOk (result w q (w.stack q) r) × StageOf w p i (if same_party (Worker p i) q then after_move (next_at w q (w.stack q) (r.0)) (w.stack q).below else w.stack (Worker p i)) (add_look l (look_of p i w (Go q))))
    (λ r. LooksOn h p i l w (Go q) (result w q (w.stack q) r))
    (λ r a. record { shape = s.shape; frames = a.0; stage = a.1 }) (outcome w q (w.stack q))
    (if_some_and (λ r. FramesOk (result w q (w.stack q) r)) (λ r. StageOf w p i (if same_party (Worker p i) q then after_move (next_at w q (w.stack q) (r.0)) (w.stack q).below else w.stack (Worker p i)) (add_look l (look_of p i w (Go q)))) (outcome w q (w.stack q))
    (go_frames w q (w.stack q) refl s.frames)
    (search_go w q p i l (same_party (Worker p i) q) refl (subst (λ z. i < (z.pool p).workers) (sym s.shape) below) s.frames s.stage)))
search_step h p i l w (From q v) below s = from_search h p i l w q (w.stack q).top (w.stack q).below v refl (subst (λ z. i < (z.pool p).workers) (sym s.shape) below) s
search_step h p i l w (Miss q) below s = miss_search h p i l w q (w.stack q).top (w.stack q).below refl s
search_step h p i l w e below s = calm_step (LooksOn h p i l w e) w s.frames e refl (λ q z. absurd (cc)) (λ u m. search_aside h p i l w u (m.0) s (λ z. busy_stage (w.shape.pool p).workers i ((m.0).to.top) l (m.1)))

nil_right : (l : List Look) → l ++ [] ≡ l
nil_right [] = refl
nil_right (a ∷ l) = ap (λ z. a ∷ z) (nil_right l)

search_run : (h : Shape) (p i : ℕ) (test : World → Event → Bool) (l : List Look) (w u : World) (es : List Event) → i < (h.pool p).workers → Searches h p i l w → IsRunWithout test w es u → Searches h p i (l ++ looks_in p i (Some w) es) u
search_run h p i test l w u [] below s r = subst (λ z. Searches h p i z u) (sym (nil_right l)) (subst (Searches h p i l) (sym r) s)
search_run h p i test l w u (e ∷ es) below s (v, calm, one, rest) =
    let next : Searches h p i (add_look l (look_of p i w e)) v = (let k : IfSome (Some v) (LooksOn h p i l w e) = subst (λ o. IfSome o (LooksOn h p i l w e)) one (search_step h p i l w e below s) in k) in
    let last : Searches h p i (add_look l (look_of p i w e) ++ looks_in p i (Some v) es) u = search_run h p i test (add_look l (look_of p i w e)) v u es below next rest in
    subst (λ z. Searches h p i z u) (add_then l (look_of p i w e) (looks_in p i (Some v) es) ∙ ap (λ o. l ++ and_then (look_of p i w e) (looks_in p i o es)) (sym one)) last

-- after an Announce the search begins anew
announce_stage : (w : World) (p i n j : ℕ) (x : Place) (fs : List Place) → is_announcing x ≡ true → IfSome (outcome w (Worker p i) (record { top = x; below = fs })) (λ r. Stage n j (((result w (Worker p i) (record { top = x; below = fs }) r).stack (Worker p i)).top) [])
announce_stage w p i n j (AnnounceSelf k) fs e = busy_or_idle
  where
    me : ((p == p) && (i == i)) ≡ true
    me = same_refl p i

    busy_or_idle : Stage n j ((if ((p == p) && (i == i)) then record { top = ProbeIdle (record k { rounds = Announced; kept = jec w.shape (if is_even (w.pool p).turn then (w.pool p).turn else (w.pool p).turn + 1) }); below = fs } else w.stack (Worker p i)).top) []
    busy_or_idle = subst (λ b. Stage n j ((if b then record { top = ProbeIdle (record k { rounds = Announced; kept = jec w.shape (if is_even (w.pool p).turn then (w.pool p).turn else (w.pool p).turn + 1) }); below = fs } else w.stack (Worker p i)).top) []) (sym me) tt
announce_stage w p i n j _ fs e = cc

blocking_searched : (n i : ℕ) (x : Place) (l : List Look) → is_blocking x ≡ true → Stage n i x l → EndsSearched n i l
blocking_searched n i (BlockSelf k) l e s = s
blocking_searched n i _ l e s = absurd (cc)

pub search_law : SearchLaw
search_law shape before p i w v u es below first run blocks =
    let me : Party = Worker p i in
    let sw : w.shape ≡ shape = always_shape shape before w first.reached in
    let fw : Awake w = always_awake shape before w first.reached in
    let n : ℕ = (shape.pool p).workers in
    let fv : FramesOk v = (let k : IfSome (Some v) Awake = subst (λ o. IfSome o Awake) first.made (step_awake w (Go me) fw) in k.frames) in
    let sv : v.shape ≡ shape = (let k : IfSome (Some v) (λ u. u.shape ≡ shape) = subst (λ o. IfSome o (λ u. u.shape ≡ shape)) first.made (step_shape shape w (Go me) fw.frames sw) in k) in
    let N : World → Type 0 = λ z. Stage n i ((z.stack (Worker p i)).top) [] in
    let here : N v = (let k : IfSome (Some v) N = subst (λ o. IfSome o N) first.made
    (acted_keeps w me (w.stack me) (target_pool me (act_of me (w.stack me).top)) (target_worker me (act_of me (w.stack me).top)) (target_call (act_of me (w.stack me).top)) (job_at w me (act_of me (w.stack me).top)) (outcome w me (w.stack me)) N
    (announce_stage w p i n i (w.stack me).top (w.stack me).below first.place)) in k) in
    let begin : Searches shape p i [] v = record { shape = sv; frames = fv; stage = subst (λ z. Stage (z.pool p).workers i (v.stack (Worker p i)).top []) (sym sv) here } in
    let end : Searches shape p i (looks_in p i (Some v) es) u = search_run shape p i (is_announce p i) [] v u es below begin run in
    subst (λ z. EndsSearched (z.pool p).workers i (looks_in p i (Some v) es)) (end.shape) (blocking_searched (u.shape.pool p).workers i (u.stack (Worker p i)).top (looks_in p i (Some v) es) blocks (end.stage))
