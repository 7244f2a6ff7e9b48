-- who leaves its search, and who tells the news, owes the pool so many wakes
--
-- The two acts that see how many to wake stand each at one place of the table. It leads to a walk that owes as many,
-- from the first worker on (`walk_owes`). There is a worker to begin at, since one sleeps.
use Rattle.std.proofs.Common.{arith, refl, sym, ◌∙◌, ap, subst, inl, inr}
use Rattle.rayon_machine_sleep_laws.proofs.Words.{ℕ, zero, suc, Bool, true, false, ◌-◌, ◌==◌, ◌<◌, ◌≤◌, nat_lt, if◌then◌else◌, Option, Some, List, ◌≡◌, IfSome, eqb-true, eq-eqb, lt-ltb, ltb-true, ltb-false, Party, Worker, Caller, Termination, Answer, Plain, Token, Then, BeginFound, LeaveWait}
use Rattle.rayon_machine_sleep_laws.proofs.Words.{Resume, Await, RunFirst, Answers, Missing, Ran, GiveBack, Called, Gathers, Place, ProbeWorking, BeginTask, LeaveSearch, LookQueue, PushJob, TellNews, LockToWake, WakeWorker, UnlockWoken, Plan, Act, LookInj, LookOwn, PushInj, PushOwn, News, Seen}
use Rattle.rayon_machine_sleep_laws.proofs.Words.{Wakes, Wait, PoolShape, act_of, after_found, after_news, finish, is_member, own_pool, plan_book, plan_job, plan_pool, walk, Counts, Part, Shape, Stack, World, counts_at, effect, target_call, target_pool, target_worker, wakes_for_one, after_move}
use Rattle.rayon_machine_sleep_laws.proofs.Words.{is_walk}
use Rattle.std.specs.Prelude.{min}
use Rattle.rayon_machine_places.specs.declared.act.Act.TheVariants.{SubInactive}
use Rattle.rayon_machine_places.specs.Places.{look_act, push_act}
use Rattle.rayon_machine_runs.specs.World.{count_below}
use Rattle.rayon_machine_laws.specs.Leavers.{LeaverLaw, OwesAll, OwesForOne, TellerLaw}
use Rattle.rayon_machine_laws.proofs.Attended.{always_awake}
use Rattle.rayon_machine_laws.proofs.Calm.{counts_seen, next_at, part_at}
use Rattle.rayon_machine_laws.proofs.Frame.{acted_keeps, either, if_some_map}
use Rattle.rayon_machine_laws.proofs.Pushing.{tell_pool, top_is}
use Rattle.rayon_machine_laws.proofs.Seats.{is_frame}
use Rattle.rayon_machine_laws.proofs.Ties.{AllFrames, job_at, outcome, result, shape_at}
use Rattle.rayon_machine_laws.proofs.Tops.{FramesOk, Tops, top_after}

-- elsewhere nothing is owed
owes_none : (x : Place) (p : ℕ) → is_walk x ≡ false → OwesAll x p 0
owes_none (LockToWake k) p e = cc
owes_none (WakeWorker k) p e = cc
owes_none (UnlockWoken k) p e = cc
owes_none _ p e = record { owed = refl; others = λ r d. refl; passed = refl }

pub frame_owes : (f : Place) → is_frame f ≡ true → is_walk f ≡ false
frame_owes (ProbeWorking w) e = refl
frame_owes _ e = cc

-- what follows a walk is none
pub finish_owes : (q : Party) (t : Then) → Tops (λ y. is_walk y ≡ false) (finish q t)
finish_owes q (BeginFound g t) = refl
finish_owes q (LeaveWait Termination) = refl
finish_owes q (LeaveWait (Answer o f)) = refl
finish_owes (Worker i j) (Await o) = refl
finish_owes (Caller n) (Await o) = refl
finish_owes (Worker i j) (Gathers o) = refl
finish_owes (Caller n) (Gathers o) = refl
finish_owes q (RunFirst o a) = refl
finish_owes q _ = tt

-- where a walk from the first worker leads all is owed, if there is a worker where some is
pub walk_owes : (h : PoolShape) (q : Party) (p n : ℕ) (t : Then) (fs : List Place) → AllFrames fs → (0 < n → 0 < h.workers) → OwesAll ((after_move (walk h q p n 0 t) fs).top) p n
walk_owes h q p n t fs a room = at (nat_lt 0 n) refl
  where
    at : (b : Bool) → nat_lt 0 n ≡ b → OwesAll ((after_move (walk h q p n 0 t) fs).top) p n
    at true e =
        let l : nat_lt 0 h.workers ≡ true = lt-ltb 0 h.workers (room (ltb-true 0 n e)) in
        let s : (p == p) ≡ true = eq-eqb p p refl in
        record { owed = rw (e, l, s); others = λ r d. rw (e, l, d); passed = rw (e, l) }
    at false e =
        let none : n ≡ 0 = (let k : n ≤ 0 = ltb-false 0 n e in omega arith) in
        let top : is_walk ((after_move (walk h q p n 0 t) fs).top) ≡ false = rw e (top_after (λ y. is_walk y ≡ false) (finish q t) fs (finish_owes q t) frame_owes a) in
        subst (λ z. OwesAll ((after_move (walk h q p n 0 t) fs).top) p z) (sym none) (owes_none ((after_move (walk h q p n 0 t) fs).top) p top)

-- where some pass a test there are some
pub count_room : (n : ℕ) (f : ℕ → Bool) → 0 < count_below n f → 0 < n
count_room zero f l = l
count_room (suc n) f l = omega arith

-- an act that sees how many to wake
abbrev is_waking : Act → Bool
is_waking SubInactive = true
is_waking (News p e) = true
is_waking _ = false

look_calm : (b : Bool) (p : ℕ) → is_waking (if b then LookOwn else LookInj p) ≡ false
look_calm true p = refl
look_calm false p = refl

push_calm : (b : Bool) (p t : ℕ) (k : Option ℕ) → is_waking (if b then PushOwn t k else PushInj p t k) ≡ false
push_calm true p t k = refl
push_calm false p t k = refl

-- the acts of two places that are written with a test are none of these
clash : (a b : Act) → is_waking a ≡ false → is_waking b ≡ true → a ≡ b → ⊥
clash a b f t e = let z : true ≡ false = sym t ∙ ap is_waking (sym e) ∙ f in cc

look_other : (q : Party) (n : Plan) (b : Act) → is_waking b ≡ true → look_act q (plan_pool n) ≡ b → ⊥
look_other q n b t e = clash (look_act q (plan_pool n)) b (look_calm (is_member q (plan_pool n)) (plan_pool n)) t e

push_other : (q : Party) (n : Plan) (b : Act) → is_waking b ≡ true → push_act q (plan_pool n) (plan_job n) (plan_book n) ≡ b → ⊥
push_other q n b t e = clash (push_act q (plan_pool n) (plan_job n) (plan_book n)) b (push_calm (is_member q (plan_pool n)) (plan_pool n) (plan_job n) (plan_book n)) t e

-- a worker leaves its search at one place alone, and nobody else does
leave_place : (p i : ℕ) (x : Place) → act_of (Worker p i) x ≡ SubInactive → (j : Wait) × (x ≡ LeaveSearch j)
leave_place p i (LeaveSearch j) e = (j, refl)
leave_place p i (BeginTask (Plain t)) e = cc
leave_place p i (BeginTask (Token k a b)) e = cc
leave_place p i (LookQueue n) e = absurd (look_other (Worker p i) n SubInactive refl e)
leave_place p i (PushJob n v) e = absurd (push_other (Worker p i) n SubInactive refl e)
leave_place p i _ e = cc

caller_other : (c : ℕ) (x : Place) → act_of (Caller c) x ≡ SubInactive → ⊥
caller_other c (BeginTask (Plain t)) e = cc
caller_other c (BeginTask (Token k a b)) e = cc
caller_other c (LookQueue n) e = look_other (Caller c) n SubInactive refl e
caller_other c (PushJob n v) e = push_other (Caller c) n SubInactive refl e
caller_other c _ e = cc

-- what a party owes that has left its search
abbrev Left : World → Party → World → Type 0
Left w q v = OwesAll (v.stack q).top (own_pool q) (min 2 (counts_at w (own_pool q)).sleeping)

some_sleep : (n : ℕ) → 0 < min 2 n → 0 < n
some_sleep n l = omega arith

left_here : (w : World) (c d : ℕ) (j : Wait) (fs : List Place) → AllFrames fs → IfSome (outcome w (Worker c d) (record { top = LeaveSearch j; below = fs })) (λ r. Left w (Worker c d) (result w (Worker c d) (record { top = LeaveSearch j; below = fs }) r))
left_here w c d j fs a =
    let k : Stack = record { top = LeaveSearch j; below = fs } in
    let n : ℕ = (counts_at w c).sleeping in
    let r : Seen × Part = (Wakes (min 2 n), record (part_at w (Worker c d) k) { seat = record (w.seat c d) { inactive = false } }) in
    subst (λ y. OwesAll y c (min 2 n)) (sym (top_is w (Worker c d) k r)) (walk_owes (w.shape.pool c) (Worker c d) c (min 2 n) (after_found j.target j.found) fs a (λ l. count_room (w.shape.pool c).workers (λ i. (w.seat c i).asleep) (some_sleep n l)))

left_go : (w : World) (q : Party) (x : Place) (fs : List Place) → AllFrames fs → act_of q x ≡ SubInactive → IfSome (outcome w q (record { top = x; below = fs })) (λ r. Left w q (result w q (record { top = x; below = fs }) r))
left_go w (Worker c d) x fs a e =
    let at : (j : Wait) × (x ≡ LeaveSearch j) = leave_place c d x e in
    subst (λ y. IfSome (outcome w (Worker c d) (record { top = y; below = fs })) (λ r. Left w (Worker c d) (result w (Worker c d) (record { top = y; below = fs }) r))) (sym (at.1)) (left_here w c d (at.0) fs a)
left_go w (Caller n) x fs a e = absurd (caller_other n x e)

pub leaver_law : LeaverLaw
leaver_law shape before w v q m e =
    let fr : FramesOk w = (always_awake shape before w m.reached).frames in
    let k : IfSome (Some v) (Left w q) = subst (λ o. IfSome o (Left w q)) m.made
    (acted_keeps w q (w.stack q) (target_pool q (act_of q (w.stack q).top)) (target_worker q (act_of q (w.stack q).top)) (target_call (act_of q (w.stack q).top)) (job_at w q (act_of q (w.stack q).top)) (outcome w q (w.stack q)) (Left w q)
    (left_go w q (w.stack q).top (w.stack q).below (fr q) e)) in
    k

-- the news is told at one place alone
tell_place : (q : Party) (x : Place) (p : ℕ) (v : Bool) → act_of q x ≡ News p v → (n : Plan) × (x ≡ TellNews n v) × (plan_pool n ≡ p)
tell_place (Worker a b) (TellNews n u) p v e = (n, cc, cc)
tell_place (Worker a b) (BeginTask (Plain t)) p v e = cc
tell_place (Worker a b) (BeginTask (Token k i s)) p v e = cc
tell_place (Worker a b) (LookQueue n) p v e = absurd (look_other (Worker a b) n (News p v) refl e)
tell_place (Worker a b) (PushJob n u) p v e = absurd (push_other (Worker a b) n (News p v) refl e)
tell_place (Worker a b) _ p v e = cc
tell_place (Caller c) (TellNews n u) p v e = (n, cc, cc)
tell_place (Caller c) (BeginTask (Plain t)) p v e = cc
tell_place (Caller c) (BeginTask (Token k i s)) p v e = cc
tell_place (Caller c) (LookQueue n) p v e = absurd (look_other (Caller c) n (News p v) refl e)
tell_place (Caller c) (PushJob n u) p v e = absurd (push_other (Caller c) n (News p v) refl e)
tell_place (Caller c) _ p v e = cc

not_zero : (n : ℕ) → 0 < n → (n == 0) ≡ false
not_zero n l = elim (either (n == 0)) [ inl t ↦ absurd (let k : n ≡ 0 = eqb-true n 0 t in omega (arith, k, l)) | inr f ↦ f ]

-- how many are woken for one job, case by case
one_calm : (v : Bool) (c : Counts) → c.sleeping ≡ 0 → wakes_for_one v c ≡ 0
one_calm v c z = let e : (c.sleeping == 0) ≡ true = eq-eqb c.sleeping 0 z in rw e

one_beside : (c : Counts) → c.sleeping < c.inactive → wakes_for_one true c ≡ 0
one_beside c l = at (c.sleeping == 0) (nat_lt (c.inactive - c.sleeping) 1) refl
  where
    picked : Bool → Bool → ℕ
    picked x z = if x then 0 else if z then 1 else 0

    at : (x z : Bool) → nat_lt (c.inactive - c.sleeping) 1 ≡ z → picked x z ≡ 0
    at true z e = refl
    at false false e = refl
    at false true e = absurd (let k : c.inactive - c.sleeping < 1 = ltb-true (c.inactive - c.sleeping) 1 e in omega (arith, k, l))

one_filled : (c : Counts) → 0 < c.sleeping → wakes_for_one false c ≡ 1
one_filled c l = let e : (c.sleeping == 0) ≡ false = not_zero c.sleeping l in rw e

one_alone : (v : Bool) (c : Counts) → 0 < c.sleeping → c.inactive ≤ c.sleeping → wakes_for_one v c ≡ 1
one_alone false c l m = one_filled c l
one_alone true c l m =
    let e : (c.sleeping == 0) ≡ false = not_zero c.sleeping l in
    let t : nat_lt (c.inactive - c.sleeping) 1 ≡ true = lt-ltb (c.inactive - c.sleeping) 1 (omega arith) in
    rw (e, t)

one_sleeps : (v : Bool) (c : Counts) → 0 < wakes_for_one v c → 0 < c.sleeping
one_sleeps v c l = elim (either (c.sleeping == 0)) [
  | inl t ↦ absurd (let z : wakes_for_one v c ≡ 0 = one_calm v c (eqb-true c.sleeping 0 t) in omega (arith, z, l))
  | inr f ↦ (let k : 1 ≤ c.sleeping = at (nat_lt 0 c.sleeping) refl f in k)
]
  where
    at : (b : Bool) → nat_lt 0 c.sleeping ≡ b → (c.sleeping == 0) ≡ false → 0 < c.sleeping
    at true e f = ltb-true 0 c.sleeping e
    at false e f = absurd (let k : c.sleeping ≤ 0 = ltb-false 0 c.sleeping e in let z : (c.sleeping == 0) ≡ true = eq-eqb c.sleeping 0 (omega (arith, k)) in cc)

for_one : (x : Place) (p : ℕ) (v : Bool) (c : Counts) → OwesAll x p (wakes_for_one v c) → OwesForOne x p v c.sleeping c.inactive
for_one x p v c o = record {
  calm = λ z. subst (OwesAll x p) (one_calm v c z) o;
  beside = λ e l. subst (OwesAll x p) (ap (λ b. wakes_for_one b c) e ∙ one_beside c l) o;
  filled = λ l e. subst (OwesAll x p) (ap (λ b. wakes_for_one b c) e ∙ one_filled c l) o;
  alone = λ l m. subst (OwesAll x p) (one_alone v c l m) o;
}

-- what a party owes that has told the news
abbrev Told : World → Party → ℕ → Bool → World → Type 0
Told w q p v u = OwesForOne (u.stack q).top p v (counts_at w p).sleeping (counts_at w p).inactive

tell_sees : (h : Shape) (q : Party) (c : Counts) (m : Part) (n : Plan) (v : Bool) → IfSome (effect (act_of q (TellNews n v)) h q c m) (λ r. r.0 ≡ Wakes (wakes_for_one v c))
tell_sees h (Worker i j) c m n v = refl
tell_sees h (Caller o) c m n v = refl

told_so : (w : World) (q : Party) (n : Plan) (v : Bool) (fs : List Place) (r : Seen × Part) → AllFrames fs → r.0 ≡ Wakes (wakes_for_one v (counts_at w (plan_pool n))) → Told w q (plan_pool n) v (result w q (record { top = TellNews n v; below = fs }) r)
told_so w q n v fs r a seen =
    let k : Stack = record { top = TellNews n v; below = fs } in
    let c : Counts = counts_at w (plan_pool n) in
    let m : ℕ = wakes_for_one v c in
    let room : 0 < m → 0 < (shape_at w q k).workers = λ l. subst (λ z. 0 < (w.shape.pool z).workers) (sym (tell_pool q n v)) (count_room (w.shape.pool (plan_pool n)).workers (λ i. (w.seat (plan_pool n) i).asleep) (one_sleeps v c l)) in
    let top : ((result w q k r).stack q).top ≡ (after_move (walk (shape_at w q k) q (plan_pool n) m 0 (after_news n)) fs).top = top_is w q k r ∙ ap (λ z. (after_move (next_at w q k z) fs).top) seen in
    for_one (((result w q k r).stack q).top) (plan_pool n) v c (subst (λ y. OwesAll y (plan_pool n) m) (sym top) (walk_owes (shape_at w q k) q (plan_pool n) m (after_news n) fs a room))

told_here : (w : World) (q : Party) (n : Plan) (v : Bool) (fs : List Place) → AllFrames fs → IfSome (outcome w q (record { top = TellNews n v; below = fs })) (λ r. Told w q (plan_pool n) v (result w q (record { top = TellNews n v; below = fs }) r))
told_here w q n v fs f =
    let k : Stack = record { top = TellNews n v; below = fs } in
    if_some_map (λ r. r.0 ≡ Wakes (wakes_for_one v (counts_seen w q k))) (λ r. Told w q (plan_pool n) v (result w q k r))
    (λ r s. told_so w q n v fs r f (s ∙ ap (λ z. Wakes (wakes_for_one v (counts_at w z))) (tell_pool q n v))) (outcome w q k) (tell_sees w.shape q (counts_seen w q k) (part_at w q k) n v)

told_go : (w : World) (q : Party) (x : Place) (fs : List Place) (p : ℕ) (v : Bool) → AllFrames fs → act_of q x ≡ News p v → IfSome (outcome w q (record { top = x; below = fs })) (λ r. Told w q p v (result w q (record { top = x; below = fs }) r))
told_go w q x fs p v f e =
    let at : (n : Plan) × (x ≡ TellNews n v) × (plan_pool n ≡ p) = tell_place q x p v e in
    let k : Stack = record { top = TellNews (at.0) v; below = fs } in
    subst (λ y. IfSome (outcome w q (record { top = y; below = fs })) (λ r. Told w q p v (result w q (record { top = y; below = fs }) r))) (sym (at.1))
    (subst (λ z. IfSome (outcome w q k) (λ r. Told w q z v (result w q k r))) (at.2) (told_here w q (at.0) v fs f))

pub teller_law : TellerLaw
teller_law shape before w v q p b m e =
    let fr : FramesOk w = (always_awake shape before w m.reached).frames in
    let k : IfSome (Some v) (Told w q p b) = subst (λ o. IfSome o (Told w q p b)) m.made
    (acted_keeps w q (w.stack q) (target_pool q (act_of q (w.stack q).top)) (target_worker q (act_of q (w.stack q).top)) (target_call (act_of q (w.stack q).top)) (job_at w q (act_of q (w.stack q).top)) (outcome w q (w.stack q)) (Told w q p b)
    (told_go w q (w.stack q).top (w.stack q).below p b (fr q) e)) in
    k
