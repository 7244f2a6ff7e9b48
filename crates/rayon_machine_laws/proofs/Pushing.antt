-- a push makes its party a waker, and who tells the news wakes one where nobody looks
use Rattle.std.proofs.Common.{arith, refl, sym, ◌∙◌, ap, subst, inl, inr}
use Rattle.std.specs.Prelude.{ℕ, Bool, true, false, ◌==◌, ◌<◌, nat_lt, if◌then◌else◌, List, ◌≡◌, IfSome, Option}
use Rattle.std.proofs.lemmas.Bool.{eqb-true, eq-eqb}
use Rattle.rayon_machine_places.specs.declared.place.Party.{Party}
use Rattle.rayon_machine_places.specs.declared.place.Party.TheVariants.{Worker, Caller}
use Rattle.rayon_machine_places.specs.declared.place.Plan.{Plan}
use Rattle.rayon_machine_places.specs.declared.place.Place.{Place}
use Rattle.rayon_machine_places.specs.declared.place.Place.TheVariants.{PushJob, TellNews}
use Rattle.rayon_machine_places.specs.declared.act.Act.{Act}
use Rattle.rayon_machine_places.specs.declared.act.Act.TheVariants.{PushInj, PushOwn}
use Rattle.rayon_machine_places.specs.declared.act.Seen.{Seen}
use Rattle.rayon_machine_places.specs.declared.act.Seen.TheVariants.{Done, Wakes}
use Rattle.rayon_machine_places.specs.Places.{is_member, plan_pool, plan_job, walk, after_news, act_of, plan_book}
use Rattle.rayon_machine_runs.specs.World.{Shape, Stack, World, count_below, counts_at, Part, effect}
use Rattle.rayon_machine_places.specs.Sleepers.{Counts, wakes_for_one}
use Rattle.rayon_machine_places.specs.Targets.{target_pool}
use Rattle.rayon_machine_runs.specs.Steps.{after_move}
use Rattle.rayon_machine_laws.specs.Committed.{is_committed}
use Rattle.rayon_machine_laws.specs.Attended.{is_filled}
use Rattle.rayon_machine_laws.proofs.Attend.{owes, HasOwing, AttendedAt, Attended, looks_from, attended_same, same_quiet, owes_walk}
use Rattle.rayon_machine_laws.proofs.Calm.{part_at, counts_seen, next_at, Quiet, quiet_go}
use Rattle.rayon_machine_laws.proofs.Counting.{count_some, Passes, count_more, wakes_none}
use Rattle.rayon_machine_laws.proofs.Frame.{either, if_some_and, if_some_map, stack_mine}
use Rattle.rayon_machine_laws.proofs.Sleepers.{committed_sleeps}
use Rattle.rayon_machine_laws.proofs.Ties.{SeatsOk, shape_at, outcome, result}
use Rattle.rayon_machine_laws.proofs.Tops.{FramesOk}

-- a party at the top of its stack that owes is a waker
pub owing_here : (w : World) (q : Party) (y : Place) (u : World) (p i : ℕ) → (u.stack q).top ≡ y → i < (u.shape.pool p).workers → is_committed u p i ≡ true → owes q y p i ≡ true → HasOwing u p
owing_here w q y u p i at below has owe = record { party = q; worker = i; below = below; committed = has; owing = ap (λ z. owes q z p i) at ∙ owe }

-- the party's top after its act
pub top_is : (w : World) (q : Party) (k : Stack) (r : Seen × Part) → ((result w q k r).stack q).top ≡ (after_move (next_at w q k (r.0)) k.below).top
top_is w q k r = ap (λ z. z.top) (stack_mine w.stack q (after_move (next_at w q k (r.0)) k.below))

-- what a push sees; at its own worker's deque it leaves the injector
abbrev Pushed : Act → Shape → Party → Counts → Part → Bool → Type 0
Pushed a h q c m b = IfSome (effect a h q c m) (λ r. (r.0 ≡ Done) × (b ≡ true → is_filled (r.1.pool.injector) ≡ true → is_filled m.pool.injector ≡ true))

push_if : (h : Shape) (q : Party) (c : Counts) (m : Part) (p t : ℕ) (k : Option ℕ) (b : Bool) → Pushed (if b then PushOwn t k else PushInj p t k) h q c m b
push_if h q c m p t k true = (refl, λ z f. f)
push_if h q c m p t k false = (refl, λ z f. absurd (let k : false ≡ true = z in cc))

push_seen : (h : Shape) (q : Party) (c : Counts) (m : Part) (n : Plan) (v : Bool) → Pushed (act_of q (PushJob n v)) h q c m (is_member q (plan_pool n))
push_seen h (Worker i j) c m n v = push_if h (Worker i j) c m (plan_pool n) (plan_job n) (plan_book n) (is_member (Worker i j) (plan_pool n))
push_seen h (Caller o) c m n v = push_if h (Caller o) c m (plan_pool n) (plan_job n) (plan_book n) (is_member (Caller o) (plan_pool n))

push_at : (q : Party) (p t : ℕ) (k : Option ℕ) (b : Bool) → b ≡ false → target_pool q (if b then PushOwn t k else PushInj p t k) ≡ p
push_at q p t k true e = cc
push_at q p t k false e = refl

push_pool : (q : Party) (n : Plan) (v : Bool) → is_member q (plan_pool n) ≡ false → target_pool q (act_of q (PushJob n v)) ≡ plan_pool n
push_pool (Worker i j) n v e = push_at (Worker i j) (plan_pool n) (plan_job n) (plan_book n) (is_member (Worker i j) (plan_pool n)) e
push_pool (Caller o) n v e = push_at (Caller o) (plan_pool n) (plan_job n) (plan_book n) (is_member (Caller o) (plan_pool n)) e

pushing_owes : (q : Party) (n : Plan) (v : Bool) (p i : ℕ) → (plan_pool n == p) ≡ true → is_member q (plan_pool n) ≡ false → owes q (TellNews n v) p i ≡ true
pushing_owes q n v p i b d = let is : is_member q p ≡ false = ap (is_member q) (sym (eqb-true (plan_pool n) p b)) ∙ d in rw (b, is)

-- a push makes its party a waker, unless it is onto its own deque
pub push_attends : (w : World) (q : Party) (n : Plan) (v : Bool) (fs : List Place) → w.stack q ≡ record { top = PushJob n v; below = fs } → FramesOk w → Attended w
    → IfSome (outcome w q (record { top = PushJob n v; below = fs })) (λ r. Attended (result w q (record { top = PushJob n v; below = fs }) r))
push_attends w q n v fs e fr a =
    if_some_map (λ r. ((r.0 ≡ Done) × (is_member q (plan_pool n) ≡ true → is_filled (r.1.pool.injector) ≡ true → is_filled (w.pool p0).injector ≡ true)) × ((p i : ℕ) → Quiet w (result w q k r) p i)) (λ r. Attended (result w q k r))
    (λ r h p. by_pool r ((h.0).0) ((h.0).1) (h.1) p (plan_pool n == p) (is_member q (plan_pool n)) refl refl)
    (outcome w q k)
    (if_some_and (λ r. (r.0 ≡ Done) × (is_member q (plan_pool n) ≡ true → is_filled (r.1.pool.injector) ≡ true → is_filled (w.pool p0).injector ≡ true)) (λ r. (p i : ℕ) → Quiet w (result w q k r) p i) (outcome w q k)
    (push_seen w.shape q (counts_seen w q k) (part_at w q k) n v)
    (quiet_go w q k e fr refl))
  where
    k : Stack
    k = record { top = PushJob n v; below = fs }

    p0 : ℕ
    p0 = target_pool q (act_of q (PushJob n v))

    by_pool : (r : Seen × Part) → r.0 ≡ Done → (is_member q (plan_pool n) ≡ true → is_filled (r.1.pool.injector) ≡ true → is_filled (w.pool p0).injector ≡ true) → ((p i : ℕ) → Quiet w (result w q k r) p i) → (p : ℕ) (b d : Bool) → (plan_pool n == p) ≡ b → is_member q (plan_pool n) ≡ d
        → AttendedAt (result w q k r) p
    by_pool r done inj quiet p true false eb ed i below filled has = inr (owing_here w q (TellNews n v) (result w q k r) p i (top_is w q k r ∙ ap (λ z. (after_move (next_at w q k z) fs).top) done) below has (pushing_owes q n v p i eb ed))
    by_pool r done inj quiet p b true eb ed i below filled has = attended_same w (result w q k r) p (same_quiet w q k e r p (quiet p) (λ is. inj ed) (λ i b o. cc)) (a p) i below filled has
    by_pool r done inj quiet p false false eb ed i below filled has = attended_same w (result w q k r) p (same_quiet w q k e r p (quiet p) (λ is. absurd (let s : (plan_pool n == p) ≡ true = eq-eqb (plan_pool n) p (sym (is ∙ push_pool q n v ed)) in cc)) (λ i b o. cc)) (a p) i below filled has

-- who is awake is not committed
pub awake : (w : World) → SeatsOk w → (p i : ℕ) → (w.seat p i).asleep ≡ false → is_committed w p i ≡ false
awake w ok p i e = elim (either (is_committed w p i)) [ inl t ↦ absurd (let k : (w.seat p i).asleep ≡ true = committed_sleeps w p i ok t in cc) | inr f ↦ f ]

tell_seen : (h : Shape) (q : Party) (c : Counts) (m : Part) (n : Plan) (v : Bool) → IfSome (effect (act_of q (TellNews n v)) h q c m) (λ r. (r.0 ≡ Wakes (wakes_for_one v c)) × (r.1.pool.injector ≡ m.pool.injector))
tell_seen h (Worker i j) c m n v = (refl, refl)
tell_seen h (Caller o) c m n v = (refl, refl)

pub tell_pool : (q : Party) (n : Plan) (v : Bool) → target_pool q (act_of q (TellNews n v)) ≡ plan_pool n
tell_pool (Worker i j) n v = refl
tell_pool (Caller o) n v = refl

owes_news : (q : Party) (n : Plan) (v : Bool) (p i : ℕ) → (plan_pool n == p) ≡ false → owes q (TellNews n v) p i ≡ false
owes_news q n v p i e = rw e

-- who tells the news wakes one, or nobody sleeps, or somebody looks
pub tell_attends : (w : World) (q : Party) (n : Plan) (v : Bool) (fs : List Place) → w.stack q ≡ record { top = TellNews n v; below = fs } → SeatsOk w → FramesOk w → Attended w
    → IfSome (outcome w q (record { top = TellNews n v; below = fs })) (λ r. Attended (result w q (record { top = TellNews n v; below = fs }) r))
tell_attends w q n v fs e ok fr a =
    if_some_map (λ r. ((r.0 ≡ Wakes (wakes_for_one v (counts_at w p0))) × (r.1.pool.injector ≡ (w.pool p0).injector)) × ((p i : ℕ) → Quiet w (result w q k r) p i)) (λ r. Attended (result w q k r))
    (λ r h p. by_pool r ((h.0).0 ∙ ap (λ z. Wakes (wakes_for_one v (counts_at w z))) (tell_pool q n v)) ((h.0).1) (h.1) p (plan_pool n == p) (nat_lt 0 number) refl refl)
    (outcome w q k)
    (if_some_and (λ r. (r.0 ≡ Wakes (wakes_for_one v (counts_at w p0))) × (r.1.pool.injector ≡ (w.pool p0).injector)) (λ r. (p i : ℕ) → Quiet w (result w q k r) p i) (outcome w q k)
    (tell_seen w.shape q (counts_seen w q k) (part_at w q k) n v)
    (quiet_go w q k e fr refl))
  where
    k : Stack
    k = record { top = TellNews n v; below = fs }

    p0 : ℕ
    p0 = target_pool q (act_of q (TellNews n v))

    number : ℕ
    number = wakes_for_one v (counts_at w (plan_pool n))

    by_pool : (r : Seen × Part) → r.0 ≡ Wakes number → (r.1.pool.injector ≡ (w.pool p0).injector) → ((p i : ℕ) → Quiet w (result w q k r) p i) → (p : ℕ) (b d : Bool) → (plan_pool n == p) ≡ b → nat_lt 0 number ≡ d → AttendedAt (result w q k r) p
    by_pool r seen inj quiet p true true eb ed i below filled has = inr (owing_here w q ((after_move (walk (shape_at w q k) q (plan_pool n) number 0 (after_news n)) fs).top) (result w q k r) p i (top_is w q k r ∙ ap (λ z. (after_move (next_at w q k z) fs).top) seen) below has
        (owes_walk (shape_at w q k) q (plan_pool n) number 0 (after_news n) fs p i eb ed (omega arith) (subst (λ z. i < (w.shape.pool z).workers) (sym (tell_pool q n v ∙ eqb-true (plan_pool n) p eb)) below)))
    by_pool r seen inj quiet p true false eb ed i below filled has =
        let is : plan_pool n ≡ p = eqb-true (plan_pool n) p eb in
        let con : is_committed w p i ≡ true = sym ((quiet p i).1) ∙ has in
        let asleep : (w.seat p i).asleep ≡ true = committed_sleeps w p i ok con in
        let some : 0 < count_below (w.shape.pool p).workers (λ i. (w.seat p i).asleep) = count_some (w.shape.pool p).workers (λ i. (w.seat p i).asleep) i below asleep in
        let some' : 0 < (counts_at w (plan_pool n)).sleeping = subst (λ n. 0 < (counts_at w n).sleeping) (sym is) some in
        elim (wakes_none v (counts_at w (plan_pool n)) ed) [
          | inl none ↦ absurd (omega arith)
          | inr less ↦ inl (let o : Passes (w.shape.pool p).workers (λ i. (w.seat p i).inactive) (λ i. (w.seat p i).asleep) = count_more (w.shape.pool p).workers (λ i. (w.seat p i).inactive) (λ i. (w.seat p i).asleep) (subst (λ n. (counts_at w n).sleeping < (counts_at w n).inactive) is less) in
              record { worker = o.at; below = o.below; looks = looks_from (((result w q k r).seat p (o.at)).inactive) (is_committed (result w q k r) p (o.at)) ((quiet p (o.at)).0 (o.yes)) ((quiet p (o.at)).1 ∙ awake w ok p (o.at) (o.no)) })
        ]
    by_pool r seen inj quiet p false d eb ed i below filled has = attended_same w (result w q k r) p (same_quiet w q k e r p (quiet p) (λ is h. ap is_filled (sym inj) ∙ h) (λ i b o. absurd (let z : owes q (TellNews n v) p i ≡ false = owes_news q n v p i eb in cc))) (a p) i below filled has
