-- the acts keep each job in its one place
--
-- An act has two halves. `midway` is the world after its effect. There the run that the move starts has not begun, and
-- a refused call's jobs are not handed back. A token that the move spends is still in hand. `land_ok` (PlacedEvents)
-- makes the rest.
-- The lemma of each act:
-- - a pop of the own deque, a steal: `pop_mid`. A take from the injector: `inj_mid`; from the own broadcast list:
--   `cast_mid`.
-- - a push: `push_mid`; of a token: `token_mid`. FifoIn, FifoUndo and FifoOut: `in_mid`, `undo_mid`, `out_mid`.
-- - a begin: `begin_mid`. Every other act: `quiet_mid`.
use Rattle.std.proofs.Common.{arith, refl, sym, ◌∙◌, ap, subst}
use Rattle.std.specs.Prelude.{ℕ, Bool, true, false, ◌&&◌, ◌+◌, ◌==◌, ◌≤◌, if◌then◌else◌, Option, Some, None, List, [], ◌∷◌, ◌++◌, ◌≡◌, IfSome}
use Rattle.std.proofs.lemmas.Bool.{eqb-true, eq-eqb}
use Rattle.rayon_machine_places.specs.declared.place.Party.{Party}
use Rattle.rayon_machine_places.specs.declared.place.Party.TheVariants.{Worker, Caller}
use Rattle.rayon_machine_places.specs.declared.place.JobKind.{JobKind}
use Rattle.rayon_machine_places.specs.declared.place.JobKind.TheVariants.{Direct, TokenOf}
use Rattle.rayon_machine_places.specs.declared.place.Plan.{Plan}
use Rattle.rayon_machine_places.specs.declared.place.Plan.TheVariants.{Detach, Feed}
use Rattle.rayon_machine_places.specs.declared.place.Feeding.{Feeding}
use Rattle.rayon_machine_places.specs.declared.place.Taken.{Taken}
use Rattle.rayon_machine_places.specs.declared.place.Taken.TheVariants.{Plain, Token}
use Rattle.rayon_machine_places.specs.declared.place.Place.{Place}
use Rattle.rayon_machine_places.specs.declared.place.Place.TheVariants.{PopWorking, TakeCastWorking, PopIdle, TakeCastIdle, StealFrom, PopInjected, JoinPop, JoinTakeCast, YieldPop, YieldTakeCast, YieldSteal, YieldPopInjected, LocalPop, LocalTakeCast, BeginTask, BeginHere, Run}
use Rattle.rayon_machine_places.specs.declared.place.Place.TheVariants.{PushJob, AddToFifo, LookForToken, PushToken, TakeFromFifo, TellNews, PushForAll, DealPieces}
use Rattle.rayon_machine_places.specs.declared.place.Move.{Move}
use Rattle.rayon_machine_places.specs.declared.place.Move.TheVariants.{Stay}
use Rattle.rayon_machine_places.specs.declared.act.Act.{Act}
use Rattle.rayon_machine_places.specs.declared.act.Act.TheVariants.{PushInj, PushOwn, FifoIn, FifoUndo, FifoOut}
use Rattle.rayon_machine_places.specs.declared.act.Seen.{Seen}
use Rattle.rayon_machine_places.specs.declared.act.Seen.TheVariants.{Done, Task, Missing, Begun, Handed}
use Rattle.rayon_machine_runs.specs.declared.state.Whereabouts.TheVariants.{Made, InDeque, Injected, InFifo, Retaken, Running, HandedBack, Spent}
use Rattle.rayon_machine_places.specs.declared.shape.PoolShape.{PoolShape}
use Rattle.rayon_machine_runs.specs.declared.state.Job.{Job}
use Rattle.rayon_machine_places.specs.Places.{same_party, own_pool, own_index, is_member, plan_pool, plan_job, act_of, next_of, taken_number, plan_book, count_book, withdraw, after_push}
use Rattle.rayon_machine_runs.specs.World.{Stack, World, counts_at, Part, head_of, last_of, but_last, is_open, left_by, fifo_back, fifo_first, Outcome, at_job, begun, popped, take_cast, pop_injector, effect, left_book}
use Rattle.rayon_machine_places.specs.Targets.{target_pool, target_worker, target_call, or_none, taken_as}
use Rattle.rayon_machine_runs.specs.World.{same_list, put_list}
use Rattle.rayon_machine_runs.specs.Steps.{put, put_stack, put_seat, part_of, step}
use Rattle.rayon_machine_laws.specs.Once.{one, times, run_of, runs_in}
use Rattle.rayon_machine_laws.proofs.Frame.{same_index, same_refl, same_party_true, same_party_refl, if_some_each, if_some_and, if_some_map, same_list_true}
use Rattle.rayon_machine_laws.proofs.Ties.{job_at, shape_at, outcome}
use Rattle.rayon_machine_laws.proofs.Hands.{hand, held_in, held, worked, paused, hand_move, run_move, land_held, land_worked, got, outs, starts, given, table, run_table, hand_plan, is_gather, queues_whole, given_plan, given_one}
use Rattle.rayon_machine_laws.proofs.Feeds.{fed_in, all_fed}
use Rattle.rayon_machine_laws.proofs.Lists.{moves_no_job, SameJobs, quiet_same, times_first, times_own, times_push, times_drop}
use Rattle.rayon_machine_laws.proofs.Located.{Loc, same_loc, loc_of, loc_at, is_loc, weight, JobsPlaced, comes, Shifts, was_at, shift_ok, fits, JobsFit, IsOnward, onward_same, onward_loc, is_hand, in_hand, made_hand, at_line, is_work, unbegun, Hand, Work, Deck, Cast, Inj, Line}
use Rattle.rayon_machine_laws.proofs.Located.{where_is, and_true, and_false, comes_true, comes_false, same_loc_refl}

-- what a step keeps of the jobs: each in its one place, begun as often as fits there, none gone back; and what is as
-- its call has made it stays so while it is in hand
pub record Kept (w u : World) : Type 0 where
  pub placed : JobsPlaced u
  pub fit : JobsFit u
  pub onward : (t : ℕ) → IsOnward ((w.job t).at) ((u.job t).at)
  pub made : (t : ℕ) (q : Party) → (w.job t).at ≡ Made q → in_hand (loc_at (u.job t)) ≡ true → (u.job t).at ≡ (w.job t).at

-- the jobs of a world as they were found
pub record JobsOk (w : World) : Type 0 where
  pub placed : JobsPlaced w
  pub fit : JobsFit w

-- no party is about to push a broadcast's own number
abbrev pub Unqueued : World → Type 0
Unqueued w = (q : Party) → queues_whole (w.stack q).top ≡ false

-- what a call has made and not queued is as it was made
abbrev pub Feeds : World → Type 0
Feeds w = (q : Party) (t : ℕ) → 1 ≤ all_fed t (w.stack q) → (w.job t).at ≡ Made q

-- the world after an act, before the run that its move starts has begun and before jobs are handed back
abbrev pub midway : World → Party → Stack → ℕ → ℕ → ℕ → ℕ → Seen × Part → World
midway w q s p i c n r = record w {
  stack = put_stack w.stack q (paused (next_of (w.shape.pool p) q s.top (r.0)) s.below);
  seat = put_seat w.seat p i (r.1.seat);
  pool = put w.pool p (r.1.pool);
  call = put w.call c (r.1.call);
  job = put w.job n (r.1.job);
}

-- the weights halfway through an act, from those of the party's own stack and of the part that it touched
weights_mid : (w : World) (q : Party) (k : Stack) (p0 i0 c0 n0 : ℕ) (r : Seen × Part) (A B : Loc → ℕ → ℕ) → w.stack q ≡ k → ((t : ℕ) → held t (paused (next_of (w.shape.pool p0) q (k.top) (r.0)) k.below) + A (Hand q) t ≡ held t k + B (Hand q) t)
    → ((t : ℕ) → worked t (paused (next_of (w.shape.pool p0) q (k.top) (r.0)) k.below) + A (Work q) t ≡ worked t k + B (Work q) t) → ((t : ℕ) → times t (r.1.seat.own) + A (Deck p0 i0) t ≡ times t ((w.seat p0 i0).own) + B (Deck p0 i0) t)
    → ((b : Option ℕ) (t : ℕ) → times t (r.1.seat.fifo b) + A (Line p0 i0 b) t ≡ times t ((w.seat p0 i0).fifo b) + B (Line p0 i0 b) t) → ((t : ℕ) → times t (r.1.pool.injector) + A (Inj p0) t ≡ times t ((w.pool p0).injector) + B (Inj p0) t)
    → ((i t : ℕ) → times t (r.1.pool.casts i) + A (Cast p0 i) t ≡ times t ((w.pool p0).casts i) + B (Cast p0 i) t) → ((g : Party) (t : ℕ) → same_party g q ≡ false → A (Hand g) t ≡ B (Hand g) t) → ((g : Party) (t : ℕ) → same_party g q ≡ false → A (Work g) t ≡ B (Work g) t)
    → ((p i t : ℕ) → ((p == p0) && (i == i0)) ≡ false → A (Deck p i) t ≡ B (Deck p i) t) → ((p i : ℕ) (b : Option ℕ) (t : ℕ) → ((p == p0) && (i == i0)) ≡ false → A (Line p i b) t ≡ B (Line p i b) t) → ((p t : ℕ) → (p == p0) ≡ false → A (Inj p) t ≡ B (Inj p) t)
    → ((p i t : ℕ) → (p == p0) ≡ false → A (Cast p i) t ≡ B (Cast p i) t) → (l : Loc) (t : ℕ) → weight (midway w q k p0 i0 c0 n0 r) l t + A l t ≡ weight w l t + B l t
weights_mid w q k p0 i0 c0 n0 r A B e hq hw hs hf hp hc oq ow os of op oc (Hand g) t = by (same_party g q) refl
  where
    by : (z : Bool) → same_party g q ≡ z → held t (if z then paused (next_of (w.shape.pool p0) q (k.top) (r.0)) k.below else w.stack g) + A (Hand g) t ≡ held t (w.stack g) + B (Hand g) t
    by true z = let is : q ≡ g = sym (same_party_true g q z) in
        subst (λ g. held t (paused (next_of (w.shape.pool p0) q (k.top) (r.0)) k.below) + A (Hand g) t ≡ held t (w.stack g) + B (Hand g) t) is (subst (λ s. held t (paused (next_of (w.shape.pool p0) q (k.top) (r.0)) k.below) + A (Hand q) t ≡ held t s + B (Hand q) t) (sym e) (hq t))
    by false z = let o : A (Hand g) t ≡ B (Hand g) t = oq g t z in omega (arith, o)
weights_mid w q k p0 i0 c0 n0 r A B e hq hw hs hf hp hc oq ow os of op oc (Work g) t = by (same_party g q) refl
  where
    by : (z : Bool) → same_party g q ≡ z → worked t (if z then paused (next_of (w.shape.pool p0) q (k.top) (r.0)) k.below else w.stack g) + A (Work g) t ≡ worked t (w.stack g) + B (Work g) t
    by true z = let is : q ≡ g = sym (same_party_true g q z) in
        subst (λ g. worked t (paused (next_of (w.shape.pool p0) q (k.top) (r.0)) k.below) + A (Work g) t ≡ worked t (w.stack g) + B (Work g) t) is (subst (λ s. worked t (paused (next_of (w.shape.pool p0) q (k.top) (r.0)) k.below) + A (Work q) t ≡ worked t s + B (Work q) t) (sym e) (hw t))
    by false z = let o : A (Work g) t ≡ B (Work g) t = ow g t z in omega (arith, o)
weights_mid w q k p0 i0 c0 n0 r A B e hq hw hs hf hp hc oq ow os of op oc (Deck p i) t = by ((p == p0) && (i == i0)) refl
  where
    by : (z : Bool) → ((p == p0) && (i == i0)) ≡ z → times t ((if z then r.1.seat else w.seat p i).own) + A (Deck p i) t ≡ times t ((w.seat p i).own) + B (Deck p i) t
    by true z = let is : (p ≡ p0) × (i ≡ i0) = same_index p i p0 i0 z in
        subst (λ p. times t (r.1.seat.own) + A (Deck p i) t ≡ times t ((w.seat p i).own) + B (Deck p i) t) (sym (is.0)) (subst (λ i. times t (r.1.seat.own) + A (Deck p0 i) t ≡ times t ((w.seat p0 i).own) + B (Deck p0 i) t) (sym (is.1)) (hs t))
    by false z = let o : A (Deck p i) t ≡ B (Deck p i) t = os p i t z in omega (arith, o)
weights_mid w q k p0 i0 c0 n0 r A B e hq hw hs hf hp hc oq ow os of op oc (Line p i b) t = by ((p == p0) && (i == i0)) refl
  where
    by : (z : Bool) → ((p == p0) && (i == i0)) ≡ z → times t ((if z then r.1.seat else w.seat p i).fifo b) + A (Line p i b) t ≡ times t ((w.seat p i).fifo b) + B (Line p i b) t
    by true z = let is : (p ≡ p0) × (i ≡ i0) = same_index p i p0 i0 z in
        subst (λ p. times t (r.1.seat.fifo b) + A (Line p i b) t ≡ times t ((w.seat p i).fifo b) + B (Line p i b) t) (sym (is.0)) (subst (λ i. times t (r.1.seat.fifo b) + A (Line p0 i b) t ≡ times t ((w.seat p0 i).fifo b) + B (Line p0 i b) t) (sym (is.1)) (hf b t))
    by false z = let o : A (Line p i b) t ≡ B (Line p i b) t = of p i b t z in omega (arith, o)
weights_mid w q k p0 i0 c0 n0 r A B e hq hw hs hf hp hc oq ow os of op oc (Inj p) t = by (p == p0) refl
  where
    by : (z : Bool) → (p == p0) ≡ z → times t ((if z then r.1.pool else w.pool p).injector) + A (Inj p) t ≡ times t ((w.pool p).injector) + B (Inj p) t
    by true z = subst (λ p. times t (r.1.pool.injector) + A (Inj p) t ≡ times t ((w.pool p).injector) + B (Inj p) t) (sym (eqb-true p p0 z)) (hp t)
    by false z = let o : A (Inj p) t ≡ B (Inj p) t = op p t z in omega (arith, o)
weights_mid w q k p0 i0 c0 n0 r A B e hq hw hs hf hp hc oq ow os of op oc (Cast p i) t = by (p == p0) refl
  where
    by : (z : Bool) → (p == p0) ≡ z → times t ((if z then r.1.pool else w.pool p).casts i) + A (Cast p i) t ≡ times t ((w.pool p).casts i) + B (Cast p i) t
    by true z = subst (λ p. times t (r.1.pool.casts i) + A (Cast p i) t ≡ times t ((w.pool p).casts i) + B (Cast p i) t) (sym (eqb-true p p0 z)) (hc i t)
    by false z = let o : A (Cast p i) t ≡ B (Cast p i) t = oc p i t z in omega (arith, o)

-- the record of a job where one is put anew
pub job_new : (w : World) (u : ℕ) (j : Job) → put w.job u j u ≡ j
job_new w u j = by (u == u) (eq-eqb u u refl)
  where
    by : (z : Bool) → z ≡ true → (if z then j else w.job u) ≡ j
    by true e = refl
    by false e = cc

pub job_old : (w : World) (u : ℕ) (j : Job) (t : ℕ) → (t == u) ≡ false → put w.job u j t ≡ w.job t
job_old w u j t e = by (t == u) e
  where
    by : (z : Bool) → z ≡ false → (if z then j else w.job t) ≡ w.job t
    by true e = cc
    by false e = refl

-- an act that leaves the lists and the job, by a party that has and runs the same
same_ok : (w : World) (q : Party) (k : Stack) (p0 i0 c0 n0 : ℕ) (r : Seen × Part) → w.stack q ≡ k → r.1.seat.own ≡ (w.seat p0 i0).own → r.1.seat.fifo ≡ (w.seat p0 i0).fifo → r.1.pool.casts ≡ (w.pool p0).casts → r.1.pool.injector ≡ (w.pool p0).injector → r.1.job.at ≡ (w.job n0).at
    → r.1.job.runs ≡ (w.job n0).runs → ((t : ℕ) → hand_move t (next_of (w.shape.pool p0) q (k.top) (r.0)) ≡ hand t (k.top)) → ((t : ℕ) → run_move t (next_of (w.shape.pool p0) q (k.top) (r.0)) ≡ run_of t (k.top)) → JobsOk w → Kept w (midway w q k p0 i0 c0 n0 r)
same_ok w q k p0 i0 c0 n0 r e own fifo casts inj at runs less run ok = record {
  placed = λ l t.
      let f : weight (midway w q k p0 i0 c0 n0 r) l t + 0 ≡ weight w l t + 0 = weights_mid w q k p0 i0 c0 n0 r (λ l t. 0) (λ l t. 0) e
      (λ t. let a : hand_move t (next_of (w.shape.pool p0) q (k.top) (r.0)) ≡ hand t (k.top) = less t in let b : held t (paused (next_of (w.shape.pool p0) q (k.top) (r.0)) k.below) ≡ (hand_move t (next_of (w.shape.pool p0) q (k.top) (r.0)) + held_in t k.below) = land_held t
      (next_of (w.shape.pool p0) q (k.top) (r.0)) k.below in omega (arith, a, b))
      (λ t. let a : run_move t (next_of (w.shape.pool p0) q (k.top) (r.0)) ≡ run_of t (k.top) = run t in let b : worked t (paused (next_of (w.shape.pool p0) q (k.top) (r.0)) k.below) ≡ (run_move t (next_of (w.shape.pool p0) q (k.top) (r.0)) + runs_in t k.below) = land_worked t
      (next_of (w.shape.pool p0) q (k.top) (r.0)) k.below in omega (arith, a, b))
      (λ t. let a : times t (r.1.seat.own) ≡ times t ((w.seat p0 i0).own) = ap (times t) own in omega (arith, a))
      (λ b t. let a : times t (r.1.seat.fifo b) ≡ times t ((w.seat p0 i0).fifo b) = ap (λ f. times t (f b)) fifo in omega (arith, a))
      (λ t. let a : times t (r.1.pool.injector) ≡ times t ((w.pool p0).injector) = ap (times t) inj in omega (arith, a))
      (λ i t. let a : times t (r.1.pool.casts i) ≡ times t ((w.pool p0).casts i) = ap (λ f. times t (f i)) casts in omega (arith, a))
      (λ g t z. omega arith) (λ g t z. omega arith) (λ p i t z. omega arith) (λ p i b t z. omega arith) (λ p t z. omega arith) (λ p i t z. omega arith) l t in
      let o : weight w l t ≡ is_loc l (loc_at (w.job t)) = (ok.placed) l t in
      let v : is_loc l (loc_of ((put w.job n0 (r.1.job) t).at) ((put w.job n0 (r.1.job) t).runs)) ≡ is_loc l (loc_at (w.job t)) = ap (λ x. is_loc l (loc_of x ((put w.job n0 (r.1.job) t).runs))) (where_at t) ∙ ap (λ x. is_loc l (loc_of ((w.job t).at) x)) (how_often t) in
      omega (arith, f, o, v);
  fit = λ t. subst (λ x. fits x ((put w.job n0 (r.1.job) t).runs)) (sym (where_at t)) (subst (λ x. fits ((w.job t).at) x) (sym (how_often t)) ((ok.fit) t));
  onward = λ t. onward_same ((w.job t).at) ((put w.job n0 (r.1.job) t).at) (where_at t);
  made = λ t s z y. where_at t;
}
  where
    where_at : (t : ℕ) → (put w.job n0 (r.1.job) t).at ≡ (w.job t).at
    where_at t = by (t == n0) refl
      where
        by : (z : Bool) → (t == n0) ≡ z → (if z then r.1.job else w.job t).at ≡ (w.job t).at
        by true z = at ∙ ap (λ n. (w.job n).at) (sym (eqb-true t n0 z))
        by false z = refl

    how_often : (t : ℕ) → (put w.job n0 (r.1.job) t).runs ≡ (w.job t).runs
    how_often t = by (t == n0) refl
      where
        by : (z : Bool) → (t == n0) ≡ z → (if z then r.1.job else w.job t).runs ≡ (w.job t).runs
        by true z = runs ∙ ap (λ n. (w.job n).runs) (sym (eqb-true t n0 z))
        by false z = refl

-- a job that goes from one place to another, if to any: what its new record says fits, whatever else has changed
pub gone_ok : (w u : World) (n : ℕ) (j : Job) (a : Loc) (b : Option Loc) → comes a b true ≡ 0 → Shifts (weight w) (weight u) n a b → u.job n ≡ j → ((t : ℕ) → (t == n) ≡ false → u.job t ≡ w.job t) → (is_hand a && in_hand b) ≡ false
    → (loc_at (w.job n) ≡ Some a → (loc_at j ≡ b) × fits (j.at) (j.runs) × IsOnward (w.job n).at (j.at)) → JobsOk w → Kept w u
gone_ok w u n j a b d s now rest one_hand step ok = record {
  placed = shift_ok (weight w) (weight u) (λ t. loc_at (w.job t)) (λ t. loc_at (u.job t)) n a b d s (ok.placed) (ap (λ x. loc_at x) now ∙ good.0) (λ t e. ap (λ x. loc_at x) (rest t e));
  fit = λ t. fit_by t (t == n) refl;
  onward = λ t. on_by t (t == n) refl;
  made = λ t q z y. made_by t q z y (t == n) refl;
}
  where
    was : loc_at (w.job n) ≡ Some a
    was = was_at (weight w) (weight u) (λ t. loc_at (w.job t)) n a b d s (ok.placed)

    good : (loc_at j ≡ b) × fits (j.at) (j.runs) × IsOnward (w.job n).at (j.at)
    good = step was

    fit_by : (t : ℕ) (z : Bool) → (t == n) ≡ z → fits ((u.job t).at) ((u.job t).runs)
    fit_by t true z = subst (λ t. fits ((u.job t).at) ((u.job t).runs)) (sym (eqb-true t n z)) (subst (λ x. fits (x.at) (x.runs)) (sym now) (good.1))
    fit_by t false z = subst (λ x. fits (x.at) (x.runs)) (sym (rest t z)) ((ok.fit) t)

    on_by : (t : ℕ) (z : Bool) → (t == n) ≡ z → IsOnward ((w.job t).at) ((u.job t).at)
    on_by t true z = subst (λ t. IsOnward ((w.job t).at) ((u.job t).at)) (sym (eqb-true t n z)) (subst (λ x. IsOnward (w.job n).at (x.at)) (sym now) (good.2))
    on_by t false z = onward_same ((w.job t).at) ((u.job t).at) (ap (λ x. x.at) (rest t z))

    from_hand : (q : Party) → (w.job n).at ≡ Made q → is_hand a ≡ true
    from_hand q z = made_hand q ((w.job n).runs) a (subst (λ v. loc_of v ((w.job n).runs) ≡ Some a) z was)

    not_hand : is_hand a ≡ true → in_hand b ≡ false
    not_hand z = subst (λ c. (c && in_hand b) ≡ false) z one_hand

    made_by : (t : ℕ) (q : Party) → (w.job t).at ≡ Made q → in_hand (loc_at (u.job t)) ≡ true → (z : Bool) → (t == n) ≡ z → (u.job t).at ≡ (w.job t).at
    made_by t q m y false z = ap (λ x. x.at) (rest t z)
    made_by t q m y true z = absurd (let i : t ≡ n = eqb-true t n z in let f : in_hand b ≡ false = not_hand (from_hand q (ap (λ m. (w.job m).at) (sym i) ∙ m)) in
        let g : in_hand (loc_at (u.job t)) ≡ in_hand b = ap (λ m. in_hand (loc_at (u.job m))) i ∙ ap (λ x. in_hand (loc_at x)) now ∙ ap in_hand (good.0) in cc)

-- jobs that go together from one place to others, if to any: what their new records say fits
pub group_ok : (w u : World) (S : ℕ → Bool) (a : Loc) (b : ℕ → Option Loc) → ((t : ℕ) → comes a (b t) true ≡ 0) → ((l : Loc) (t : ℕ) → weight u l t + one (same_loc l a && S t) ≡ weight w l t + comes l (b t) (S t))
    → ((t : ℕ) → S t ≡ false → (loc_at (u.job t) ≡ loc_at (w.job t)) × ((u.job t).at ≡ (w.job t).at) × ((u.job t).runs ≡ (w.job t).runs)) → ((t : ℕ) → (is_hand a && in_hand (b t)) ≡ false)
    → ((t : ℕ) → S t ≡ true → loc_at (w.job t) ≡ Some a → (loc_at (u.job t) ≡ b t) × fits ((u.job t).at) ((u.job t).runs) × IsOnward (w.job t).at (u.job t).at) → JobsOk w → Kept w u
group_ok w u S a b d s rest one_hand step ok = record {
  placed = λ l t. placed l t (S t) refl;
  fit = λ t. fit t (S t) refl;
  onward = λ t. onward t (S t) refl;
  made = λ t q m y. made t q m y (S t) refl;
}
  where
    was : (t : ℕ) → S t ≡ true → loc_at (w.job t) ≡ Some a
    was t z = where_is a (loc_at (w.job t)) (
        let k : weight u a t + one (same_loc a a && S t) ≡ weight w a t + comes a (b t) (S t) = s a t in
        let k2 : weight u a t + one (same_loc a a && true) ≡ weight w a t + comes a (b t) true = subst (λ y. weight u a t + one (same_loc a a && y) ≡ weight w a t + comes a (b t) y) z k in
        let x : one (same_loc a a && true) ≡ 1 = ap one (and_true (same_loc a a) ∙ same_loc_refl a) in
        let c : comes a (b t) true ≡ 0 = d t in
        let o : weight w a t ≡ is_loc a (loc_at (w.job t)) = (ok.placed) a t in omega (arith, k2, x, c, o))

    good : (t : ℕ) → S t ≡ true → (loc_at (u.job t) ≡ b t) × fits ((u.job t).at) ((u.job t).runs) × IsOnward (w.job t).at (u.job t).at
    good t z = step t z (was t z)

    placed : (l : Loc) (t : ℕ) (z : Bool) → S t ≡ z → weight u l t ≡ is_loc l (loc_at (u.job t))
    placed l t true z =
        let k : weight u l t + one (same_loc l a && true) ≡ weight w l t + comes l (b t) true = subst (λ y. weight u l t + one (same_loc l a && y) ≡ weight w l t + comes l (b t) y) z (s l t) in
        let x : one (same_loc l a && true) ≡ one (same_loc l a) = ap one (and_true (same_loc l a)) in
        let y : comes l (b t) true ≡ is_loc l (b t) = comes_true l (b t) in
        let o : weight w l t ≡ is_loc l (loc_at (w.job t)) = (ok.placed) l t in
        let o2 : is_loc l (loc_at (w.job t)) ≡ one (same_loc l a) = ap (is_loc l) (was t z) in
        let n : is_loc l (loc_at (u.job t)) ≡ is_loc l (b t) = ap (is_loc l) ((good t z).0) in omega (arith, k, x, y, o, o2, n)
    placed l t false z =
        let k : weight u l t + one (same_loc l a && false) ≡ weight w l t + comes l (b t) false = subst (λ y. weight u l t + one (same_loc l a && y) ≡ weight w l t + comes l (b t) y) z (s l t) in
        let x : one (same_loc l a && false) ≡ 0 = ap one (and_false (same_loc l a)) in
        let y : comes l (b t) false ≡ 0 = comes_false l (b t) in
        let o : weight w l t ≡ is_loc l (loc_at (w.job t)) = (ok.placed) l t in
        let n : is_loc l (loc_at (u.job t)) ≡ is_loc l (loc_at (w.job t)) = ap (is_loc l) ((rest t z).0) in omega (arith, k, x, y, o, n)

    fit : (t : ℕ) (z : Bool) → S t ≡ z → fits ((u.job t).at) ((u.job t).runs)
    fit t true z = (good t z).1
    fit t false z = subst (λ x. fits x ((u.job t).runs)) (sym ((rest t z).1)) (subst (λ n. fits ((w.job t).at) n) (sym ((rest t z).2)) ((ok.fit) t))

    onward : (t : ℕ) (z : Bool) → S t ≡ z → IsOnward ((w.job t).at) ((u.job t).at)
    onward t true z = (good t z).2
    onward t false z = onward_same ((w.job t).at) ((u.job t).at) ((rest t z).1)

    made : (t : ℕ) (q : Party) → (w.job t).at ≡ Made q → in_hand (loc_at (u.job t)) ≡ true → (z : Bool) → S t ≡ z → (u.job t).at ≡ (w.job t).at
    made t q m y false z = (rest t z).1
    made t q m y true z = absurd (
        let h : is_hand a ≡ true = made_hand q ((w.job t).runs) a (subst (λ v. loc_of v ((w.job t).runs) ≡ Some a) m (was t z)) in
        let f : in_hand (b t) ≡ false = subst (λ c. (c && in_hand (b t)) ≡ false) h (one_hand t) in
        let g : in_hand (loc_at (u.job t)) ≡ in_hand (b t) = ap in_hand ((good t z).0) in cc)

-- a job that is taken from a list, pushed, begun or handed back was not begun before
pub taken_step : (j : Job) (q : Party) (a : Loc) → is_work a ≡ false → loc_at j ≡ Some a → (loc_at (at_job j (Running q)) ≡ Some (Hand q)) × fits (Running q) (j.runs) × IsOnward (j.at) (Running q)
taken_step j q a z e = let n : j.runs ≡ 0 = unbegun (j.at) (j.runs) a z e in (ap (λ x. loc_of (Running q) x) n, (let g : j.runs ≤ 1 = omega (arith, n) in g), onward_loc (j.at) (Running q) (j.runs) a e refl)

pub own_step : (j : Job) (q : Party) (p i : ℕ) → loc_at j ≡ Some (Hand q) → (loc_at (at_job j (InDeque p i)) ≡ Some (Deck p i)) × fits (InDeque p i) (j.runs) × IsOnward (j.at) (InDeque p i)
own_step j q p i e = let n : j.runs ≡ 0 = unbegun (j.at) (j.runs) (Hand q) refl e in (ap (λ x. loc_of (InDeque p i) x) n, n, onward_loc (j.at) (InDeque p i) (j.runs) (Hand q) e refl)

pub inject_step : (j : Job) (q : Party) (p : ℕ) → loc_at j ≡ Some (Hand q) → (loc_at (at_job j (Injected p)) ≡ Some (Inj p)) × fits (Injected p) (j.runs) × IsOnward (j.at) (Injected p)
inject_step j q p e = let n : j.runs ≡ 0 = unbegun (j.at) (j.runs) (Hand q) refl e in (ap (λ x. loc_of (Injected p) x) n, n, onward_loc (j.at) (Injected p) (j.runs) (Hand q) e refl)

pub line_step : (j : Job) (q : Party) (p i : ℕ) (b7 : Option ℕ) → j.at ≡ Made q → loc_at j ≡ Some (Hand q) → (loc_at (at_job j (InFifo p i b7)) ≡ Some (Line p i b7)) × fits (InFifo p i b7) (j.runs) × IsOnward (j.at) (InFifo p i b7)
line_step j q p i b7 m e = let n : j.runs ≡ 0 = unbegun (j.at) (j.runs) (Hand q) refl e in (ap (λ x. loc_of (InFifo p i b7) x) n, n, subst (λ v. IsOnward v (InFifo p i b7)) (sym m) refl)

pub retaken_step : (j : Job) (q : Party) (p i : ℕ) (b7 : Option ℕ) → loc_at j ≡ Some (Line p i b7) → (loc_at (at_job j (Retaken q)) ≡ Some (Hand q)) × fits (Retaken q) (j.runs) × IsOnward (j.at) (Retaken q)
retaken_step j q p i b7 e = let n : j.runs ≡ 0 = unbegun (j.at) (j.runs) (Line p i b7) refl e in (ap (λ x. loc_of (Retaken q) x) n, n, subst (λ v. IsOnward v (Retaken q)) (sym (at_line (j.at) (j.runs) p i b7 e)) refl)

pub handed_step : (j : Job) (q : Party) (p i : ℕ) (b7 : Option ℕ) → loc_at j ≡ Some (Line p i b7) → (loc_at (begun q j) ≡ Some (Work q)) × fits (Running q) (j.runs + 1) × IsOnward (j.at) (Running q)
handed_step j q p i b7 e = let n : j.runs ≡ 0 = unbegun (j.at) (j.runs) (Line p i b7) refl e in (ap (λ x. loc_of (Running q) (x + 1)) n, (let g : j.runs + 1 ≤ 1 = omega (arith, n) in g), onward_loc (j.at) (Running q) (j.runs) (Line p i b7) e refl)

pub spent_step : (j : Job) (q : Party) → loc_at j ≡ Some (Hand q) → (loc_at (at_job j Spent) ≡ None) × fits Spent (j.runs) × IsOnward (j.at) Spent
spent_step j q e = (refl, unbegun (j.at) (j.runs) (Hand q) refl e, onward_loc (j.at) Spent (j.runs) (Hand q) e refl)

pub begun_step : (j : Job) (q : Party) → loc_at j ≡ Some (Hand q) → (loc_at (begun q j) ≡ Some (Work q)) × fits (Running q) (j.runs + 1) × IsOnward (j.at) (Running q)
begun_step j q e = let n : j.runs ≡ 0 = unbegun (j.at) (j.runs) (Hand q) refl e in (ap (λ x. loc_of (Running q) (x + 1)) n, (let g : j.runs + 1 ≤ 1 = omega (arith, n) in g), onward_loc (j.at) (Running q) (j.runs) (Hand q) e refl)

pub back_step : (j : Job) (q : Party) → loc_at j ≡ Some (Hand q) → (loc_at (at_job j HandedBack) ≡ None) × fits HandedBack (j.runs) × IsOnward (j.at) HandedBack
back_step j q e = (refl, unbegun (j.at) (j.runs) (Hand q) refl e, onward_loc (j.at) HandedBack (j.runs) (Hand q) e refl)

-- a list with one job more, and with one less
put_more : (f : Option ℕ → List ℕ) (b : Option ℕ) (v : List ℕ) (p i t u : ℕ) (c : Option ℕ) → times t v ≡ times t (f b) + one (t == u) → times t (put_list f b v c) + 0 ≡ times t (f c) + one ((((p == p) && (i == i)) && same_list c b) && (t == u))
put_more f b v p i t u c e = let k : ((p == p) && (i == i)) ≡ true = same_refl p i in subst (λ y. times t (put_list f b v c) + 0 ≡ times t (f c) + one ((y && same_list c b) && (t == u))) (sym k) (by (same_list c b) refl)
  where
    by : (z : Bool) → same_list c b ≡ z → times t (if z then v else f c) + 0 ≡ times t (f c) + one ((true && z) && (t == u))
    by true z = let a : times t (f c) ≡ times t (f b) = ap (λ l. times t (f l)) (same_list_true c b z) in omega (arith, a, e)
    by false z = omega arith

put_less : (f : Option ℕ → List ℕ) (b : Option ℕ) (v : List ℕ) (p i t u : ℕ) (c : Option ℕ) → times t (f b) ≡ one (t == u) + times t v → times t (put_list f b v c) + one ((((p == p) && (i == i)) && same_list c b) && (t == u)) ≡ times t (f c) + 0
put_less f b v p i t u c e = let k : ((p == p) && (i == i)) ≡ true = same_refl p i in subst (λ y. times t (put_list f b v c) + one ((y && same_list c b) && (t == u)) ≡ times t (f c) + 0) (sym k) (by (same_list c b) refl)
  where
    by : (z : Bool) → same_list c b ≡ z → times t (if z then v else f c) + one ((true && z) && (t == u)) ≡ times t (f c) + 0
    by true z = let a : times t (f c) ≡ times t (f b) = ap (λ l. times t (f l)) (same_list_true c b z) in omega (arith, a, e)
    by false z = omega arith

-- what the tables say of an act
abbrev pub Tabled : World → Party → Stack → PoolShape → Seen × Part → Type 0
Tabled w q k g r = (t : ℕ) → (hand_move t (next_of g q (k.top) (r.0)) + given t (k.top) ≡ hand t (k.top) + got t (r.0)) × (run_move t (next_of g q (k.top) (r.0)) ≡ run_of t (k.top) + (starts t (k.top) + outs t (r.0)))

abbrev pub Mid : World → Party → Stack → Type 0
Mid w q k = IfSome (outcome w q k) (λ r. Kept w (midway w q k (target_pool q (act_of q (k.top))) (target_worker q (act_of q (k.top))) (target_call (act_of q (k.top))) (job_at w q (act_of q (k.top))) r))

all_tables : (w : World) (q : Party) (k : Stack) → IfSome (outcome w q k) (Tabled w q k (shape_at w q k))
all_tables w q k = if_some_each {I = ℕ} (λ t r. (hand_move t (next_of (shape_at w q k) q (k.top) (r.0)) + given t (k.top) ≡ hand t (k.top) + got t (r.0)) × (run_move t (next_of (shape_at w q k) q (k.top) (r.0)) ≡ run_of t (k.top) + (starts t (k.top) + outs t (r.0)))) (outcome w q k)
    (λ t. if_some_and (λ r. hand_move t (next_of (shape_at w q k) q (k.top) (r.0)) + given t (k.top) ≡ hand t (k.top) + got t (r.0)) (λ r. run_move t (next_of (shape_at w q k) q (k.top) (r.0)) ≡ run_of t (k.top) + (starts t (k.top) + outs t (r.0))) (outcome w q k)
    (table w.shape (shape_at w q k) q (counts_at w (target_pool q (act_of q (k.top)))) (part_of w (target_pool q (act_of q (k.top))) (target_worker q (act_of q (k.top))) (target_call (act_of q (k.top))) (job_at w q (act_of q (k.top)))) t (k.top))
    (run_table w.shape (shape_at w q k) q (counts_at w (target_pool q (act_of q (k.top)))) (part_of w (target_pool q (act_of q (k.top))) (target_worker q (act_of q (k.top))) (target_call (act_of q (k.top))) (job_at w q (act_of q (k.top)))) t (k.top)))

-- places that give nothing away and begin nothing
quiet_gives : (t : ℕ) (x : Place) → moves_no_job x ≡ true → (given t x ≡ 0) × (starts t x ≡ 0)
quiet_gives t (BeginTask u) z = cc
quiet_gives t (BeginHere u) z = cc
quiet_gives t (PushJob n e) z = cc
quiet_gives t (PushToken f e) z = cc
quiet_gives t (AddToFifo f) z = cc
quiet_gives t _ z = (refl, refl)

-- acts that neither take nor push nor begin
quiet_mid : (w : World) (q : Party) (k : Stack) → w.stack q ≡ k → moves_no_job (k.top) ≡ true → JobsOk w → Mid w q k
quiet_mid w q k e z ok =
    let p0 = target_pool q (act_of q (k.top)) in let i0 = target_worker q (act_of q (k.top)) in let c0 = target_call (act_of q (k.top)) in let n0 = job_at w q (act_of q (k.top)) in
    let m : Part = part_of w p0 i0 c0 n0 in
    if_some_map (λ r. SameJobs m r × Tabled w q k (shape_at w q k) r) (λ r. Kept w (midway w q k p0 i0 c0 n0 r))
    (λ r f. same_ok w q k p0 i0 c0 n0 r e ((f.0).own) ((f.0).fifo) ((f.0).casts) ((f.0).injector) ((f.0).at) ((f.0).runs)
    (λ t. let a : hand_move t (next_of (shape_at w q k) q (k.top) (r.0)) + given t (k.top) ≡ hand t (k.top) + got t (r.0) = (f.1 t).0 in let b : got t (r.0) ≡ 0 = ((f.0).nothing t).0 in let c : given t (k.top) ≡ 0 = (quiet_gives t (k.top) z).0 in omega (arith, a, b, c))
    (λ t. let a : run_move t (next_of (shape_at w q k) q (k.top) (r.0)) ≡ run_of t (k.top) + (starts t (k.top) + outs t (r.0)) = (f.1 t).1 in let b : starts t (k.top) ≡ 0 = (quiet_gives t (k.top) z).1 in let c : outs t (r.0) ≡ 0 = ((f.0).nothing t).1 in omega (arith, a, b, c)) ok)
    (outcome w q k)
    (if_some_and (SameJobs m) (Tabled w q k (shape_at w q k)) (outcome w q k) (quiet_same w.shape q (counts_at w p0) m (k.top) z) (all_tables w q k))

-- an act that found nothing
missing_ok : (w : World) (q : Party) (k : Stack) (p0 i0 : ℕ) → w.stack q ≡ k → ((t : ℕ) → (given t (k.top) ≡ 0) × (starts t (k.top) ≡ 0)) → Tabled w q k (w.shape.pool p0) (Missing, part_of w p0 i0 0 0) → JobsOk w → Kept w (midway w q k p0 i0 0 0 (Missing, part_of w p0 i0 0 0))
missing_ok w q k p0 i0 e none tab ok = same_ok w q k p0 i0 0 0 (Missing, part_of w p0 i0 0 0) e refl refl refl refl refl refl
    (λ t. let a : hand_move t (next_of (w.shape.pool p0) q (k.top) Missing) + given t (k.top) ≡ hand t (k.top) + 0 = (tab t).0 in let b : given t (k.top) ≡ 0 = (none t).0 in omega (arith, a, b))
    (λ t. let a : run_move t (next_of (w.shape.pool p0) q (k.top) Missing) ≡ run_of t (k.top) + (starts t (k.top) + 0) = (tab t).1 in let b : starts t (k.top) ≡ 0 = (none t).1 in omega (arith, a, b)) ok

-- what is taken has the number that stood in the list
pub same_number : (u : ℕ) (d : JobKind) → taken_number (taken_as u d) ≡ u
same_number u (TokenOf i b8) = refl
same_number u _ = refl

-- a pop of a deque, at whatever place and from either end
pop_mid : (w : World) (q : Party) (k : Stack) (p0 i0 : ℕ) (rest : List ℕ) (o : Option ℕ) → w.stack q ≡ k → ((t : ℕ) → (given t (k.top) ≡ 0) × (starts t (k.top) ≡ 0)) → ((u t : ℕ) → o ≡ Some u → times t ((w.seat p0 i0).own) ≡ (one (t == u) + times t rest))
    → IfSome (popped q (part_of w p0 i0 0 (or_none o)) rest o) (Tabled w q k (w.shape.pool p0)) → JobsOk w → IfSome (popped q (part_of w p0 i0 0 (or_none o)) rest o) (λ r. Kept w (midway w q k p0 i0 0 (or_none o) r))
pop_mid w q k p0 i0 rest None e none less tab ok = missing_ok w q k p0 i0 e none tab ok
pop_mid w q k p0 i0 rest (Some u) e none less tab ok =
    let m : Part = part_of w p0 i0 0 u in
    let v : Taken = taken_as u ((w.job u).kind) in
    let r : Seen × Part = (Task v, record m { seat = record (m.seat) { own = rest }; job = at_job (m.job) (Running q) }) in
    let g : Move = next_of (w.shape.pool p0) q (k.top) (Task v) in
    gone_ok w (midway w q k p0 i0 0 u r) u (at_job (w.job u) (Running q)) (Deck p0 i0) (Some (Hand q)) refl
    (weights_mid w q k p0 i0 0 u r (λ l t. one (same_loc l (Deck p0 i0) && (t == u))) (λ l t. one (same_loc l (Hand q) && (t == u))) e
    (λ t. let a : hand_move t g + given t (k.top) ≡ hand t (k.top) + one (t == u) = (tab t).0 ∙ ap (λ n. hand t (k.top) + one (t == n)) (same_number u ((w.job u).kind)) in
    let b : held t (paused g k.below) ≡ (hand_move t g + held_in t k.below) = land_held t g k.below in
    let d : given t (k.top) ≡ 0 = (none t).0 in
    let c : held t (paused g k.below) + 0 ≡ held t k + one (true && (t == u)) = omega (arith, a, b, d) in
    subst (λ z. held t (paused g k.below) + 0 ≡ held t k + one (z && (t == u))) (sym (same_party_refl q)) c)
    (λ t. let a : run_move t g ≡ run_of t (k.top) + (starts t (k.top) + 0) = (tab t).1 in let d : starts t (k.top) ≡ 0 = (none t).1 in
    let b : worked t (paused g k.below) ≡ (run_move t g + runs_in t k.below) = land_worked t g k.below in omega (arith, a, b, d))
    (λ t. let a : times t ((w.seat p0 i0).own) ≡ (one (t == u) + times t rest) = less u t refl in
    let c : times t rest + one (true && (t == u)) ≡ times t ((w.seat p0 i0).own) + 0 = omega (arith, a) in
    subst (λ z. times t rest + one (z && (t == u)) ≡ times t ((w.seat p0 i0).own) + 0) (sym (same_refl p0 i0)) c)
    (λ b t. omega arith)
    (λ t. omega arith)
    (λ i t. omega arith)
    (λ g t z. let c : 0 ≡ one (false && (t == u)) = omega arith in subst (λ z. 0 ≡ one (z && (t == u))) (sym z) c)
    (λ g t z. omega arith)
    (λ p i t z. let c : one (false && (t == u)) ≡ 0 = omega arith in subst (λ z. one (z && (t == u)) ≡ 0) (sym z) c)
    (λ p i b t z. omega arith)
    (λ p t z. omega arith)
    (λ p i t z. omega arith))
    (job_new w u (at_job (w.job u) (Running q))) (job_old w u (at_job (w.job u) (Running q))) refl (taken_step (w.job u) q (Deck p0 i0) refl) ok

inj_mid : (w : World) (q : Party) (k : Stack) (p0 i0 : ℕ) (l : List ℕ) → w.stack q ≡ k → ((t : ℕ) → (given t (k.top) ≡ 0) × (starts t (k.top) ≡ 0)) → (w.pool p0).injector ≡ l → IfSome (pop_injector q (part_of w p0 i0 0 (or_none (head_of l))) l) (Tabled w q k (w.shape.pool p0)) → JobsOk w
    → IfSome (pop_injector q (part_of w p0 i0 0 (or_none (head_of l))) l) (λ r. Kept w (midway w q k p0 i0 0 (or_none (head_of l)) r))
inj_mid w q k p0 i0 [] e none is tab ok = missing_ok w q k p0 i0 e none tab ok
inj_mid w q k p0 i0 (u ∷ rest) e none is tab ok =
    let m : Part = part_of w p0 i0 0 u in
    let v : Taken = taken_as u ((w.job u).kind) in
    let r : Seen × Part = (Task v, record m { pool = record (m.pool) { injector = rest }; job = at_job (m.job) (Running q) }) in
    let g : Move = next_of (w.shape.pool p0) q (k.top) (Task v) in
    gone_ok w (midway w q k p0 i0 0 u r) u (at_job (w.job u) (Running q)) (Inj p0) (Some (Hand q)) refl
    (weights_mid w q k p0 i0 0 u r (λ l t. one (same_loc l (Inj p0) && (t == u))) (λ l t. one (same_loc l (Hand q) && (t == u))) e
    (λ t. let a : hand_move t g + given t (k.top) ≡ hand t (k.top) + one (t == u) = (tab t).0 ∙ ap (λ n. hand t (k.top) + one (t == n)) (same_number u ((w.job u).kind)) in
    let b : held t (paused g k.below) ≡ (hand_move t g + held_in t k.below) = land_held t g k.below in
    let d : given t (k.top) ≡ 0 = (none t).0 in
    let c : held t (paused g k.below) + 0 ≡ held t k + one (true && (t == u)) = omega (arith, a, b, d) in
    subst (λ z. held t (paused g k.below) + 0 ≡ held t k + one (z && (t == u))) (sym (same_party_refl q)) c)
    (λ t. let a : run_move t g ≡ run_of t (k.top) + (starts t (k.top) + 0) = (tab t).1 in let d : starts t (k.top) ≡ 0 = (none t).1 in
    let b : worked t (paused g k.below) ≡ (run_move t g + runs_in t k.below) = land_worked t g k.below in omega (arith, a, b, d))
    (λ t. omega arith)
    (λ b t. omega arith)
    (λ t. let a : times t ((w.pool p0).injector) ≡ (one (t == u) + times t rest) = ap (times t) is in
    let c : times t rest + one (true && (t == u)) ≡ times t ((w.pool p0).injector) + 0 = omega (arith, a) in
    subst (λ z. times t rest + one (z && (t == u)) ≡ times t ((w.pool p0).injector) + 0) (sym (eq-eqb p0 p0 refl)) c)
    (λ i t. omega arith)
    (λ g t z. let c : 0 ≡ one (false && (t == u)) = omega arith in subst (λ z. 0 ≡ one (z && (t == u))) (sym z) c)
    (λ g t z. omega arith)
    (λ p i t z. omega arith)
    (λ p i b t z. omega arith)
    (λ p t z. let c : one (false && (t == u)) ≡ 0 = omega arith in subst (λ z. one (z && (t == u)) ≡ 0) (sym z) c)
    (λ p i t z. omega arith))
    (job_new w u (at_job (w.job u) (Running q))) (job_old w u (at_job (w.job u) (Running q))) refl (taken_step (w.job u) q (Inj p0) refl) ok

-- a task is taken from a broadcast list
cast_mid : (w : World) (q : Party) (k : Stack) (p0 i0 : ℕ) (l : List ℕ) → w.stack q ≡ k → own_index q ≡ i0 → ((t : ℕ) → (given t (k.top) ≡ 0) × (starts t (k.top) ≡ 0)) → (w.pool p0).casts i0 ≡ l → IfSome (take_cast q (part_of w p0 i0 0 (or_none (head_of l))) l) (Tabled w q k (w.shape.pool p0))
    → JobsOk w → IfSome (take_cast q (part_of w p0 i0 0 (or_none (head_of l))) l) (λ r. Kept w (midway w q k p0 i0 0 (or_none (head_of l)) r))
cast_mid w q k p0 i0 [] e own none is tab ok = missing_ok w q k p0 i0 e none tab ok
cast_mid w q k p0 i0 (u ∷ rest) e own none is tab ok =
    let m : Part = part_of w p0 i0 0 u in
    let v : Taken = taken_as u ((w.job u).kind) in
    let r : Seen × Part = (Task v, record m { pool = record (m.pool) { casts = λ i. if i == own_index q then rest else (w.pool p0).casts i }; job = at_job (m.job) (Running q) }) in
    let g : Move = next_of (w.shape.pool p0) q (k.top) (Task v) in
    gone_ok w (midway w q k p0 i0 0 u r) u (at_job (w.job u) (Running q)) (Cast p0 i0) (Some (Hand q)) refl
    (weights_mid w q k p0 i0 0 u r (λ l t. one (same_loc l (Cast p0 i0) && (t == u))) (λ l t. one (same_loc l (Hand q) && (t == u))) e
    (λ t. let a : hand_move t g + given t (k.top) ≡ hand t (k.top) + one (t == u) = (tab t).0 ∙ ap (λ n. hand t (k.top) + one (t == n)) (same_number u ((w.job u).kind)) in
    let b : held t (paused g k.below) ≡ (hand_move t g + held_in t k.below) = land_held t g k.below in
    let d : given t (k.top) ≡ 0 = (none t).0 in
    let c : held t (paused g k.below) + 0 ≡ held t k + one (true && (t == u)) = omega (arith, a, b, d) in
    subst (λ z. held t (paused g k.below) + 0 ≡ held t k + one (z && (t == u))) (sym (same_party_refl q)) c)
    (λ t. let a : run_move t g ≡ run_of t (k.top) + (starts t (k.top) + 0) = (tab t).1 in let d : starts t (k.top) ≡ 0 = (none t).1 in
    let b : worked t (paused g k.below) ≡ (run_move t g + runs_in t k.below) = land_worked t g k.below in omega (arith, a, b, d))
    (λ t. omega arith)
    (λ b t. omega arith)
    (λ t. omega arith)
    (λ i t. cast_left i t (i == i0) refl)
    (λ g t z. let c : 0 ≡ one (false && (t == u)) = omega arith in subst (λ z. 0 ≡ one (z && (t == u))) (sym z) c)
    (λ g t z. omega arith)
    (λ p i t z. omega arith)
    (λ p i b t z. omega arith)
    (λ p t z. omega arith)
    (λ p i t z. let c : one ((false && (i == i0)) && (t == u)) ≡ 0 = omega arith in subst (λ z. one ((z && (i == i0)) && (t == u)) ≡ 0) (sym z) c))
    (job_new w u (at_job (w.job u) (Running q))) (job_old w u (at_job (w.job u) (Running q))) refl (taken_step (w.job u) q (Cast p0 i0) refl) ok
  where
    cast_left : (i t : ℕ) (z : Bool) → (i == i0) ≡ z → times t (if i == own_index q then rest else (w.pool p0).casts i) + one (((p0 == p0) && (i == i0)) && (t == u)) ≡ times t ((w.pool p0).casts i) + 0
    cast_left i t true z =
        let a : times t ((w.pool p0).casts i) ≡ (one (t == u) + times t rest) = ap (λ n. times t ((w.pool p0).casts n)) (eqb-true i i0 z) ∙ ap (times t) is in
        let y : (i == own_index q) ≡ true = ap (λ n. i == n) own ∙ z in
        let s : (p0 == p0) ≡ true = eq-eqb p0 p0 refl in
        rw (y, s, z) (let g : times t rest + one (t == u) ≡ times t ((w.pool p0).casts i) + 0 = omega (arith, a) in g)
    cast_left i t false z =
        let y : (i == own_index q) ≡ false = ap (λ n. i == n) own ∙ z in
        let s : (p0 == p0) ≡ true = eq-eqb p0 p0 refl in
        rw (y, s, z) (omega arith)

-- a push, onto the own deque or into an injector
abbrev pub outcome_of : World → Party → Act → Outcome
outcome_of w q a = effect a w.shape q (counts_at w (target_pool q a)) (part_of w (target_pool q a) (target_worker q a) (target_call a) (job_at w q a))

push_mid : (w : World) (q : Party) (n : Plan) (v : Bool) (fs : List Place) (z : Bool) → w.stack q ≡ record { top = PushJob n v; below = fs } → is_gather n ≡ false
    → IfSome (outcome_of w q (if z then PushOwn (plan_job n) (plan_book n) else PushInj (plan_pool n) (plan_job n) (plan_book n)))
    (Tabled w q (record { top = PushJob n v; below = fs }) (w.shape.pool (target_pool q (if z then PushOwn (plan_job n) (plan_book n) else PushInj (plan_pool n) (plan_job n) (plan_book n))))) → JobsOk w
    → IfSome (outcome_of w q (if z then PushOwn (plan_job n) (plan_book n) else PushInj (plan_pool n) (plan_job n) (plan_book n)))
    (λ r. Kept w (midway w q (record { top = PushJob n v; below = fs }) (target_pool q (if z then PushOwn (plan_job n) (plan_book n) else PushInj (plan_pool n) (plan_job n) (plan_book n)))
    (target_worker q (if z then PushOwn (plan_job n) (plan_book n) else PushInj (plan_pool n) (plan_job n) (plan_book n))) (target_call (if z then PushOwn (plan_job n) (plan_book n) else PushInj (plan_pool n) (plan_job n) (plan_book n)))
    (job_at w q (if z then PushOwn (plan_job n) (plan_book n) else PushInj (plan_pool n) (plan_job n) (plan_book n))) r))
push_mid w q n v fs true e nq tab ok =
    let u = plan_job n in let p0 = own_pool q in let i0 = own_index q in
    let c0 = or_none (plan_book n) in
    let k : Stack = record { top = PushJob n v; below = fs } in
    let m : Part = part_of w p0 i0 c0 u in
    let r : Seen × Part = (
      Done,
      record m {
        seat = record (m.seat) { own = m.seat.own ++ u ∷ []; feeder = put_list m.seat.feeder (plan_book n) (left_by q (m.seat.feeder (plan_book n))) };
        call = record (m.call) { writer = left_book q (plan_book n) m.call.writer };
        job = at_job (m.job) (InDeque p0 i0);
      },
    ) in
    gone_ok w (midway w q k p0 i0 c0 u r) u (at_job (w.job u) (InDeque p0 i0)) (Hand q) (Some (Deck p0 i0)) refl
    (weights_mid w q k p0 i0 c0 u r (λ l t. one (same_loc l (Hand q) && (t == u))) (λ l t. one (same_loc l (Deck p0 i0) && (t == u))) e
    (λ t. let a : hand t (TellNews n v) + given_plan t n ≡ hand t (PushJob n v) + 0 = (tab t).0 in
    let b : given_plan t n ≡ one (t == u) = given_one t n nq in
    let c : (hand t (TellNews n v) + held_in t fs) + one (true && (t == u)) ≡ (hand t (PushJob n v) + held_in t fs) + 0 = omega (arith, a, b) in
    subst (λ z. (hand t (TellNews n v) + held_in t fs) + one (z && (t == u)) ≡ (hand t (PushJob n v) + held_in t fs) + 0) (sym (same_party_refl q)) c)
    (λ t. omega arith)
    (λ t. let a : times t ((w.seat p0 i0).own ++ u ∷ []) ≡ (times t ((w.seat p0 i0).own) + one (t == u)) = times_push ((w.seat p0 i0).own) t u in
    let c : times t ((w.seat p0 i0).own ++ u ∷ []) + 0 ≡ times t ((w.seat p0 i0).own) + one (true && (t == u)) = omega (arith, a) in
    subst (λ z. times t ((w.seat p0 i0).own ++ u ∷ []) + 0 ≡ times t ((w.seat p0 i0).own) + one (z && (t == u))) (sym (same_refl p0 i0)) c)
    (λ b t. omega arith)
    (λ t. omega arith)
    (λ i t. omega arith)
    (λ g t z. let c : one (false && (t == u)) ≡ 0 = omega arith in subst (λ z. one (z && (t == u)) ≡ 0) (sym z) c)
    (λ g t z. omega arith)
    (λ p i t z. let c : 0 ≡ one (false && (t == u)) = omega arith in subst (λ z. 0 ≡ one (z && (t == u))) (sym z) c)
    (λ p i b t z. omega arith)
    (λ p t z. omega arith)
    (λ p i t z. omega arith))
    (job_new w u (at_job (w.job u) (InDeque p0 i0))) (job_old w u (at_job (w.job u) (InDeque p0 i0))) refl (own_step (w.job u) q p0 i0) ok
push_mid w q n v fs false e nq tab ok =
    let u = plan_job n in let p0 = plan_pool n in let i0 = own_index q in
    let c0 = or_none (plan_book n) in
    let k : Stack = record { top = PushJob n v; below = fs } in
    let m : Part = part_of w p0 i0 c0 u in
    let r : Seen × Part = (Done, record m { pool = record (m.pool) { injector = m.pool.injector ++ u ∷ [] }; call = record (m.call) { writer = left_book q (plan_book n) m.call.writer }; job = at_job (m.job) (Injected p0) }) in
    gone_ok w (midway w q k p0 i0 c0 u r) u (at_job (w.job u) (Injected p0)) (Hand q) (Some (Inj p0)) refl
    (weights_mid w q k p0 i0 c0 u r (λ l t. one (same_loc l (Hand q) && (t == u))) (λ l t. one (same_loc l (Inj p0) && (t == u))) e
    (λ t. let a : hand t (TellNews n v) + given_plan t n ≡ hand t (PushJob n v) + 0 = (tab t).0 in
    let b : given_plan t n ≡ one (t == u) = given_one t n nq in
    let c : (hand t (TellNews n v) + held_in t fs) + one (true && (t == u)) ≡ (hand t (PushJob n v) + held_in t fs) + 0 = omega (arith, a, b) in
    subst (λ z. (hand t (TellNews n v) + held_in t fs) + one (z && (t == u)) ≡ (hand t (PushJob n v) + held_in t fs) + 0) (sym (same_party_refl q)) c)
    (λ t. omega arith)
    (λ t. omega arith)
    (λ b t. omega arith)
    (λ t. let a : times t ((w.pool p0).injector ++ u ∷ []) ≡ (times t ((w.pool p0).injector) + one (t == u)) = times_push ((w.pool p0).injector) t u in
    let c : times t ((w.pool p0).injector ++ u ∷ []) + 0 ≡ times t ((w.pool p0).injector) + one (true && (t == u)) = omega (arith, a) in
    subst (λ z. times t ((w.pool p0).injector ++ u ∷ []) + 0 ≡ times t ((w.pool p0).injector) + one (z && (t == u))) (sym (eq-eqb p0 p0 refl)) c)
    (λ i t. omega arith)
    (λ g t z. let c : one (false && (t == u)) ≡ 0 = omega arith in subst (λ z. one (z && (t == u)) ≡ 0) (sym z) c)
    (λ g t z. omega arith)
    (λ p i t z. omega arith)
    (λ p i b t z. omega arith)
    (λ p t z. let c : 0 ≡ one (false && (t == u)) = omega arith in subst (λ z. 0 ≡ one (z && (t == u))) (sym z) c)
    (λ p i t z. omega arith))
    (job_new w u (at_job (w.job u) (Injected p0))) (job_old w u (at_job (w.job u) (Injected p0))) refl (inject_step (w.job u) q p0) ok

-- a token is pushed onto the own deque
token_mid : (w : World) (q : Party) (f : Feeding) (v : Bool) (fs : List Place) → w.stack q ≡ record { top = PushToken f v; below = fs } → JobsOk w
    → IfSome (outcome_of w q (PushOwn f.token (count_book f.count))) (λ r. Kept w (midway w q (record { top = PushToken f v; below = fs }) (own_pool q) (own_index q) (or_none (count_book f.count)) f.token r))
token_mid w q f v fs e ok =
    let u = f.token in let p0 = own_pool q in let i0 = own_index q in
    let b0 = count_book f.count in let c0 = or_none b0 in
    let k : Stack = record { top = PushToken f v; below = fs } in
    let m : Part = part_of w p0 i0 c0 u in
    let r : Seen × Part = (Done, record m { seat = record (m.seat) { own = m.seat.own ++ u ∷ []; feeder = put_list m.seat.feeder b0 (left_by q (m.seat.feeder b0)) }; call = record (m.call) { writer = left_book q b0 m.call.writer }; job = at_job (m.job) (InDeque p0 i0) }) in
    gone_ok w (midway w q k p0 i0 c0 u r) u (at_job (w.job u) (InDeque p0 i0)) (Hand q) (Some (Deck p0 i0)) refl
    (weights_mid w q k p0 i0 c0 u r (λ l t. one (same_loc l (Hand q) && (t == u))) (λ l t. one (same_loc l (Deck p0 i0) && (t == u))) e
    (λ t. let c : (hand t (TellNews (Detach f.pool f.token) v) + held_in t fs) + one (true && (t == u)) ≡ (hand t (PushToken f v) + held_in t fs) + 0 = omega arith in
    subst (λ z. (hand t (TellNews (Detach f.pool f.token) v) + held_in t fs) + one (z && (t == u)) ≡ (hand t (PushToken f v) + held_in t fs) + 0) (sym (same_party_refl q)) c)
    (λ t. omega arith)
    (λ t. let a : times t ((w.seat p0 i0).own ++ u ∷ []) ≡ (times t ((w.seat p0 i0).own) + one (t == u)) = times_push ((w.seat p0 i0).own) t u in
    let c : times t ((w.seat p0 i0).own ++ u ∷ []) + 0 ≡ times t ((w.seat p0 i0).own) + one (true && (t == u)) = omega (arith, a) in
    subst (λ z. times t ((w.seat p0 i0).own ++ u ∷ []) + 0 ≡ times t ((w.seat p0 i0).own) + one (z && (t == u))) (sym (same_refl p0 i0)) c)
    (λ b t. omega arith)
    (λ t. omega arith)
    (λ i t. omega arith)
    (λ g t z. let c : one (false && (t == u)) ≡ 0 = omega arith in subst (λ z. one (z && (t == u)) ≡ 0) (sym z) c)
    (λ g t z. omega arith)
    (λ p i t z. let c : 0 ≡ one (false && (t == u)) = omega arith in subst (λ z. 0 ≡ one (z && (t == u))) (sym z) c)
    (λ p i b t z. omega arith)
    (λ p t z. omega arith)
    (λ p i t z. omega arith))
    (job_new w u (at_job (w.job u) (InDeque p0 i0))) (job_old w u (at_job (w.job u) (InDeque p0 i0))) refl (own_step (w.job u) q p0 i0) ok

-- a job is added to the own FIFO list
in_mid : (w : World) (q : Party) (f : Feeding) (fs : List Place) → w.stack q ≡ record { top = AddToFifo f; below = fs } → (w.job f.job).at ≡ Made q → JobsOk w
    → IfSome (outcome_of w q (FifoIn f.job (count_book f.count))) (λ r. Kept w (midway w q (record { top = AddToFifo f; below = fs }) (own_pool q) (own_index q) 0 f.job r))
in_mid w q f fs e made ok = by (is_open q ((w.seat (own_pool q) (own_index q)).feeder (count_book f.count)))
  where
    u : ℕ
    u = f.job

    p0 : ℕ
    p0 = own_pool q

    i0 : ℕ
    i0 = own_index q

    b0 : Option ℕ
    b0 = count_book f.count

    k : Stack
    k = record { top = AddToFifo f; below = fs }

    r : Seen × Part
    r = (Done, record (part_of w p0 i0 0 u) { seat = record (w.seat p0 i0) { fifo = put_list (w.seat p0 i0).fifo b0 ((w.seat p0 i0).fifo b0 ++ u ∷ []); feeder = put_list (w.seat p0 i0).feeder b0 (Some q) }; job = at_job (w.job u) (InFifo p0 i0 b0) })

    added : Kept w (midway w q k p0 i0 0 u r)
    added = gone_ok w (midway w q k p0 i0 0 u r) u (at_job (w.job u) (InFifo p0 i0 b0)) (Hand q) (Some (Line p0 i0 b0)) refl
        (weights_mid w q k p0 i0 0 u r (λ l t. one (same_loc l (Hand q) && (t == u))) (λ l t. one (same_loc l (Line p0 i0 b0) && (t == u))) e
        (λ t. let c : (hand t (LookForToken f) + held_in t fs) + one (true && (t == u)) ≡ (hand t (AddToFifo f) + held_in t fs) + 0 = omega arith in
        subst (λ z. (hand t (LookForToken f) + held_in t fs) + one (z && (t == u)) ≡ (hand t (AddToFifo f) + held_in t fs) + 0) (sym (same_party_refl q)) c)
        (λ t. omega arith)
        (λ t. omega arith)
        (λ b t. put_more (w.seat p0 i0).fifo b0 ((w.seat p0 i0).fifo b0 ++ u ∷ []) p0 i0 t u b (times_push ((w.seat p0 i0).fifo b0) t u))
        (λ t. omega arith)
        (λ i t. omega arith)
        (λ g t z. let c : one (false && (t == u)) ≡ 0 = omega arith in subst (λ z. one (z && (t == u)) ≡ 0) (sym z) c)
        (λ g t z. omega arith)
        (λ p i t z. omega arith)
        (λ p i b t z. let c : 0 ≡ one ((false && same_list b b0) && (t == u)) = omega arith in subst (λ z. 0 ≡ one ((z && same_list b b0) && (t == u))) (sym z) c)
        (λ p t z. omega arith)
        (λ p i t z. omega arith))
        (job_new w u (at_job (w.job u) (InFifo p0 i0 b0))) (job_old w u (at_job (w.job u) (InFifo p0 i0 b0))) refl (line_step (w.job u) q p0 i0 b0 made) ok

    by : (z : Bool) → IfSome (if z then Some r else None) (λ r. Kept w (midway w q k p0 i0 0 u r))
    by true = added
    by false = tt

pub hand_push : (t : ℕ) (n : Plan) → hand t (after_push n) ≡ hand_plan t n
hand_push t n = by (plan_book n)
  where
    by : (o : Option ℕ) → hand t (withdraw o n) ≡ hand_plan t n
    by None = refl
    by (Some c) = refl

pub run_push : (t : ℕ) (n : Plan) → run_of t (after_push n) ≡ 0
run_push t n = by (plan_book n)
  where
    by : (o : Option ℕ) → run_of t (withdraw o n) ≡ 0
    by None = refl
    by (Some c) = refl

-- the job that was added last is taken back
back_mid : (w : World) (q : Party) (f : Feeding) (fs : List Place) (o : Option ℕ) → w.stack q ≡ record { top = TakeFromFifo f; below = fs } → last_of ((w.seat (own_pool q) (own_index q)).fifo (count_book f.count)) ≡ o → JobsOk w
    → IfSome (fifo_back q (part_of w (own_pool q) (own_index q) 0 (or_none o)) (count_book f.count) o) (λ r. Kept w (midway w q (record { top = TakeFromFifo f; below = fs }) (own_pool q) (own_index q) 0 (or_none o) r))
back_mid w q f fs None e is ok = same_ok w q (record { top = TakeFromFifo f; below = fs }) (own_pool q) (own_index q) 0 0 (Missing, part_of w (own_pool q) (own_index q) 0 0) e refl refl refl refl refl refl (λ t. refl) (λ t. refl) ok
back_mid w q f fs (Some u) e is ok =
    let p0 = own_pool q in let i0 = own_index q in
    let k : Stack = record { top = TakeFromFifo f; below = fs } in
    let b0 = count_book f.count in let l : List ℕ = (w.seat p0 i0).fifo b0 in
    let r : Seen × Part = (Task (Plain u), record (part_of w p0 i0 0 u) { seat = record (w.seat p0 i0) { fifo = put_list (w.seat p0 i0).fifo b0 (but_last l); feeder = put_list (w.seat p0 i0).feeder b0 None }; job = at_job (w.job u) (Retaken q) }) in
    gone_ok w (midway w q k p0 i0 0 u r) u (at_job (w.job u) (Retaken q)) (Line p0 i0 b0) (Some (Hand q)) refl
    (weights_mid w q k p0 i0 0 u r (λ l t. one (same_loc l (Line p0 i0 b0) && (t == u))) (λ l t. one (same_loc l (Hand q) && (t == u))) e
    (λ t. let h : hand t (after_push (Feed (record f { job = u }))) ≡ one (t == u) + one (t == f.token) = hand_push t (Feed (record f { job = u })) in
    let c : (hand t (after_push (Feed (record f { job = u }))) + held_in t fs) + 0 ≡ (one (t == f.token) + held_in t fs) + one (true && (t == u)) = omega (arith, h) in
    subst (λ z. (hand t (after_push (Feed (record f { job = u }))) + held_in t fs) + 0 ≡ (one (t == f.token) + held_in t fs) + one (z && (t == u))) (sym (same_party_refl q)) c)
    (λ t. let h : run_of t (after_push (Feed (record f { job = u }))) ≡ 0 = run_push t (Feed (record f { job = u })) in omega (arith, h))
    (λ t. omega arith)
    (λ b t. put_less (w.seat p0 i0).fifo b0 (but_last l) p0 i0 t u b (times_drop l t u is))
    (λ t. omega arith)
    (λ i t. omega arith)
    (λ g t z. let c : 0 ≡ one (false && (t == u)) = omega arith in subst (λ z. 0 ≡ one (z && (t == u))) (sym z) c)
    (λ g t z. omega arith)
    (λ p i t z. omega arith)
    (λ p i b t z. let c : one ((false && same_list b b0) && (t == u)) ≡ 0 = omega arith in subst (λ z. one ((z && same_list b b0) && (t == u)) ≡ 0) (sym z) c)
    (λ p t z. omega arith)
    (λ p i t z. omega arith))
    (job_new w u (at_job (w.job u) (Retaken q))) (job_old w u (at_job (w.job u) (Retaken q))) refl (retaken_step (w.job u) q p0 i0 b0) ok

undo_mid : (w : World) (q : Party) (f : Feeding) (fs : List Place) → w.stack q ≡ record { top = TakeFromFifo f; below = fs } → JobsOk w
    → IfSome (outcome_of w q (FifoUndo (count_book f.count))) (λ r. Kept w (midway w q (record { top = TakeFromFifo f; below = fs }) (own_pool q) (own_index q) 0 (or_none (last_of ((w.seat (own_pool q) (own_index q)).fifo (count_book f.count)))) r))
undo_mid w q f fs e ok = by (is_open q ((w.seat (own_pool q) (own_index q)).feeder (count_book f.count)))
  where
    o : Option ℕ
    o = last_of ((w.seat (own_pool q) (own_index q)).fifo (count_book f.count))

    by : (z : Bool) → IfSome (if z then fifo_back q (part_of w (own_pool q) (own_index q) 0 (or_none o)) (count_book f.count) o else None) (λ r. Kept w (midway w q (record { top = TakeFromFifo f; below = fs }) (own_pool q) (own_index q) 0 (or_none o) r))
    by true = back_mid w q f fs o e refl ok
    by false = tt

-- the first job of a FIFO list begins for a token
first_mid : (w : World) (q : Party) (n i : ℕ) (b8 : Option ℕ) (fs : List Place) (l : List ℕ) → w.stack q ≡ record { top = BeginTask (Token n i b8); below = fs } → (w.seat (own_pool q) i).fifo b8 ≡ l → JobsOk w
    → IfSome (fifo_first q (part_of w (own_pool q) i 0 (or_none (head_of l))) b8 l) (λ r. Kept w (midway w q (record { top = BeginTask (Token n i b8); below = fs }) (own_pool q) i 0 (or_none (head_of l)) r))
first_mid w q n i b8 fs [] e is ok = same_ok w q (record { top = BeginTask (Token n i b8); below = fs }) (own_pool q) i 0 0 (Missing, part_of w (own_pool q) i 0 0) e refl refl refl refl refl refl (λ t. refl) (λ t. refl) ok
first_mid w q n i b8 fs (u ∷ rest) e is ok =
    let p0 = own_pool q in
    let k : Stack = record { top = BeginTask (Token n i b8); below = fs } in
    let r : Seen × Part = (Handed u (w.job u).kind, record (part_of w p0 i 0 u) { seat = record (w.seat p0 i) { fifo = put_list (w.seat p0 i).fifo b8 rest }; job = begun q (w.job u) }) in
    gone_ok w (midway w q k p0 i 0 u r) u (begun q (w.job u)) (Line p0 i b8) (Some (Work q)) refl
    (weights_mid w q k p0 i 0 u r (λ l t. one (same_loc l (Line p0 i b8) && (t == u))) (λ l t. one (same_loc l (Work q) && (t == u))) e
    (λ t. omega arith)
    (λ t. let c : (one (t == u) + (0 + runs_in t fs)) + 0 ≡ (0 + runs_in t fs) + one (true && (t == u)) = omega arith in
    subst (λ z. (one (t == u) + (0 + runs_in t fs)) + 0 ≡ (0 + runs_in t fs) + one (z && (t == u))) (sym (same_party_refl q)) c)
    (λ t. omega arith)
    (λ b t. put_less (w.seat p0 i).fifo b8 rest p0 i t u b (ap (times t) is))
    (λ t. omega arith)
    (λ i t. omega arith)
    (λ g t z. omega arith)
    (λ g t z. let c : 0 ≡ one (false && (t == u)) = omega arith in subst (λ z. 0 ≡ one (z && (t == u))) (sym z) c)
    (λ p i t z. omega arith)
    (λ p j b t z. let c : one ((false && same_list b b8) && (t == u)) ≡ 0 = omega arith in subst (λ z. one ((z && same_list b b8) && (t == u)) ≡ 0) (sym z) c)
    (λ p t z. omega arith)
    (λ p i t z. omega arith))
    (job_new w u (begun q (w.job u))) (job_old w u (begun q (w.job u))) refl (handed_step (w.job u) q p0 i b8) ok

out_mid : (w : World) (q : Party) (n i : ℕ) (b8 : Option ℕ) (fs : List Place) → w.stack q ≡ record { top = BeginTask (Token n i b8); below = fs } → JobsOk w
    → IfSome (outcome_of w q (FifoOut n i b8)) (λ r. Kept w (midway w q (record { top = BeginTask (Token n i b8); below = fs }) (own_pool q) i 0 (or_none (head_of ((w.seat (own_pool q) i).fifo b8))) r))
out_mid w q n i b8 fs e ok = by (is_open q ((w.seat (own_pool q) i).feeder b8))
  where
    l : List ℕ
    l = (w.seat (own_pool q) i).fifo b8

    by : (z : Bool) → IfSome (if z then fifo_first q (part_of w (own_pool q) i 0 (or_none (head_of l))) b8 l else None) (λ r. Kept w (midway w q (record { top = BeginTask (Token n i b8); below = fs }) (own_pool q) i 0 (or_none (head_of l)) r))
    by true = first_mid w q n i b8 fs l e refl ok
    by false = tt

-- a begin: the job is no longer in hand, but under a run
begin_mid : (w : World) (q : Party) (x : Place) (u : ℕ) (y : JobKind → Place) (fs : List Place) → w.stack q ≡ record { top = x; below = fs } → ((t : ℕ) → hand t x ≡ one (t == u)) → ((t : ℕ) → run_of t x ≡ 0) → ((k : JobKind) (t : ℕ) → run_of t (y k) ≡ one (t == u))
    → ((k : JobKind) (t : ℕ) → hand t (y k) ≡ 0) → next_of (w.shape.pool (own_pool q)) q x (Begun (w.job u).kind) ≡ Stay (y ((w.job u).kind)) → JobsOk w
    → Kept w (midway w q (record { top = x; below = fs }) (own_pool q) (own_index q) 0 u (Begun (w.job u).kind, record (part_of w (own_pool q) (own_index q) 0 u) { job = begun q (w.job u) }))
begin_mid w q x u y fs e had ran runs has to ok =
    let p0 = own_pool q in let i0 = own_index q in
    let k : Stack = record { top = x; below = fs } in
    let m : Part = part_of w p0 i0 0 u in
    let r : Seen × Part = (Begun (w.job u).kind, record m { job = begun q (w.job u) }) in
    let g : Move = next_of (w.shape.pool p0) q x (Begun (w.job u).kind) in
    gone_ok w (midway w q k p0 i0 0 u r) u (begun q (w.job u)) (Hand q) (Some (Work q)) refl
    (weights_mid w q k p0 i0 0 u r (λ l t. one (same_loc l (Hand q) && (t == u))) (λ l t. one (same_loc l (Work q) && (t == u))) e
    (λ t. let a : held t (paused g fs) ≡ (hand t (y ((w.job u).kind)) + held_in t fs) = ap (λ g. held t (paused g fs)) to in
    let b : hand t (y ((w.job u).kind)) ≡ 0 = has ((w.job u).kind) t in let d : hand t x ≡ one (t == u) = had t in
    let c : held t (paused g fs) + one (true && (t == u)) ≡ (hand t x + held_in t fs) + 0 = omega (arith, a, b, d) in
    subst (λ z. held t (paused g fs) + one (z && (t == u)) ≡ (hand t x + held_in t fs) + 0) (sym (same_party_refl q)) c)
    (λ t. let a : worked t (paused g fs) ≡ (run_of t (y ((w.job u).kind)) + runs_in t fs) = ap (λ g. worked t (paused g fs)) to in
    let b : run_of t (y ((w.job u).kind)) ≡ one (t == u) = runs ((w.job u).kind) t in let d : run_of t x ≡ 0 = ran t in
    let c : worked t (paused g fs) + 0 ≡ (run_of t x + runs_in t fs) + one (true && (t == u)) = omega (arith, a, b, d) in
    subst (λ z. worked t (paused g fs) + 0 ≡ (run_of t x + runs_in t fs) + one (z && (t == u))) (sym (same_party_refl q)) c)
    (λ t. omega arith)
    (λ b t. omega arith)
    (λ t. omega arith)
    (λ i t. omega arith)
    (λ g t z. let c : one (false && (t == u)) ≡ 0 = omega arith in subst (λ z. one (z && (t == u)) ≡ 0) (sym z) c)
    (λ g t z. let c : 0 ≡ one (false && (t == u)) = omega arith in subst (λ z. 0 ≡ one (z && (t == u))) (sym z) c)
    (λ p i t z. omega arith)
    (λ p i b t z. omega arith)
    (λ p t z. omega arith)
    (λ p i t z. omega arith))
    (job_new w u (begun q (w.job u))) (job_old w u (begun q (w.job u))) refl (begun_step (w.job u) q) ok

-- places whose acts deal pieces
abbrev pub is_dealer : Place → Bool
is_dealer (PushForAll c) = true
is_dealer (DealPieces g) = true
is_dealer _ = false

-- halfway through each other act each job is in its one place
pub go_mid : (w : World) (q : Party) (x : Place) (fs : List Place) → w.stack q ≡ record { top = x; below = fs } → is_dealer x ≡ false → queues_whole x ≡ false → Feeds w → JobsOk w → Mid w q (record { top = x; below = fs })
go_mid w (Worker a b) (PopWorking k) fs e z nq fe ok = pop_mid w (Worker a b) (record { top = PopWorking k; below = fs }) a b _ _ e (λ t. (refl, refl)) (λ u t. times_own ((w.shape.pool a).order) ((w.seat a b).own) t u) (all_tables w (Worker a b) (record { top = PopWorking k; below = fs })) ok
go_mid w (Caller c) (PopWorking k) fs e z nq fe ok = tt
go_mid w (Worker a b) (PopIdle k) fs e z nq fe ok = pop_mid w (Worker a b) (record { top = PopIdle k; below = fs }) a b _ _ e (λ t. (refl, refl)) (λ u t. times_own ((w.shape.pool a).order) ((w.seat a b).own) t u) (all_tables w (Worker a b) (record { top = PopIdle k; below = fs })) ok
go_mid w (Caller c) (PopIdle k) fs e z nq fe ok = tt
go_mid w (Worker a b) (JoinPop o) fs e z nq fe ok = pop_mid w (Worker a b) (record { top = JoinPop o; below = fs }) a b _ _ e (λ t. (refl, refl)) (λ u t. times_own ((w.shape.pool a).order) ((w.seat a b).own) t u) (all_tables w (Worker a b) (record { top = JoinPop o; below = fs })) ok
go_mid w (Caller c) (JoinPop o) fs e z nq fe ok = tt
go_mid w (Worker a b) YieldPop fs e z nq fe ok = pop_mid w (Worker a b) (record { top = YieldPop; below = fs }) a b _ _ e (λ t. (refl, refl)) (λ u t. times_own ((w.shape.pool a).order) ((w.seat a b).own) t u) (all_tables w (Worker a b) (record { top = YieldPop; below = fs })) ok
go_mid w (Caller c) YieldPop fs e z nq fe ok = tt
go_mid w (Worker a b) LocalPop fs e z nq fe ok = pop_mid w (Worker a b) (record { top = LocalPop; below = fs }) a b _ _ e (λ t. (refl, refl)) (λ u t. times_own ((w.shape.pool a).order) ((w.seat a b).own) t u) (all_tables w (Worker a b) (record { top = LocalPop; below = fs })) ok
go_mid w (Caller c) LocalPop fs e z nq fe ok = tt
go_mid w (Worker a b) (StealFrom k n) fs e z nq fe ok = pop_mid w (Worker a b) (record { top = StealFrom k n; below = fs }) a (k.victim) _ _ e (λ t. (refl, refl)) (λ u t. times_first ((w.seat a (k.victim)).own) t u) (all_tables w (Worker a b) (record { top = StealFrom k n; below = fs })) ok
go_mid w (Caller c) (StealFrom k n) fs e z nq fe ok = tt
go_mid w (Worker a b) (YieldSteal v n) fs e z nq fe ok = pop_mid w (Worker a b) (record { top = YieldSteal v n; below = fs }) a (v) _ _ e (λ t. (refl, refl)) (λ u t. times_first ((w.seat a (v)).own) t u) (all_tables w (Worker a b) (record { top = YieldSteal v n; below = fs })) ok
go_mid w (Caller c) (YieldSteal v n) fs e z nq fe ok = tt
go_mid w (Worker a b) (PopInjected k) fs e z nq fe ok = inj_mid w (Worker a b) (record { top = PopInjected k; below = fs }) a b ((w.pool a).injector) e (λ t. (refl, refl)) refl (all_tables w (Worker a b) (record { top = PopInjected k; below = fs })) ok
go_mid w (Caller c) (PopInjected k) fs e z nq fe ok = tt
go_mid w (Worker a b) YieldPopInjected fs e z nq fe ok = inj_mid w (Worker a b) (record { top = YieldPopInjected; below = fs }) a b ((w.pool a).injector) e (λ t. (refl, refl)) refl (all_tables w (Worker a b) (record { top = YieldPopInjected; below = fs })) ok
go_mid w (Caller c) YieldPopInjected fs e z nq fe ok = tt
go_mid w (Worker a b) (TakeCastWorking k) fs e z nq fe ok = cast_mid w (Worker a b) (record { top = TakeCastWorking k; below = fs }) a b ((w.pool a).casts b) e refl (λ t. (refl, refl)) refl (all_tables w (Worker a b) (record { top = TakeCastWorking k; below = fs })) ok
go_mid w (Caller c) (TakeCastWorking k) fs e z nq fe ok = tt
go_mid w (Worker a b) (TakeCastIdle k) fs e z nq fe ok = cast_mid w (Worker a b) (record { top = TakeCastIdle k; below = fs }) a b ((w.pool a).casts b) e refl (λ t. (refl, refl)) refl (all_tables w (Worker a b) (record { top = TakeCastIdle k; below = fs })) ok
go_mid w (Caller c) (TakeCastIdle k) fs e z nq fe ok = tt
go_mid w (Worker a b) (JoinTakeCast o) fs e z nq fe ok = cast_mid w (Worker a b) (record { top = JoinTakeCast o; below = fs }) a b ((w.pool a).casts b) e refl (λ t. (refl, refl)) refl (all_tables w (Worker a b) (record { top = JoinTakeCast o; below = fs })) ok
go_mid w (Caller c) (JoinTakeCast o) fs e z nq fe ok = tt
go_mid w (Worker a b) YieldTakeCast fs e z nq fe ok = cast_mid w (Worker a b) (record { top = YieldTakeCast; below = fs }) a b ((w.pool a).casts b) e refl (λ t. (refl, refl)) refl (all_tables w (Worker a b) (record { top = YieldTakeCast; below = fs })) ok
go_mid w (Caller c) YieldTakeCast fs e z nq fe ok = tt
go_mid w (Worker a b) LocalTakeCast fs e z nq fe ok = cast_mid w (Worker a b) (record { top = LocalTakeCast; below = fs }) a b ((w.pool a).casts b) e refl (λ t. (refl, refl)) refl (all_tables w (Worker a b) (record { top = LocalTakeCast; below = fs })) ok
go_mid w (Caller c) LocalTakeCast fs e z nq fe ok = tt
go_mid w q (BeginTask (Token n i b8)) fs e z nq fe ok = out_mid w q n i b8 fs e ok
go_mid w q (BeginTask (Plain u)) fs e z nq fe ok = begin_mid w q (BeginTask (Plain u)) u (λ k. Run u k) fs e (λ t. refl) (λ t. refl) (λ k t. refl) (λ k t. refl) refl ok
go_mid w q (BeginHere u) fs e z nq fe ok = begin_mid w q (BeginHere u) u (λ k. Run u Direct) fs e (λ t. refl) (λ t. refl) (λ k t. refl) (λ k t. refl) refl ok
go_mid w q (PushJob n v) fs e z nq fe ok = push_mid w q n v fs (is_member q (plan_pool n)) e nq (all_tables w q (record { top = PushJob n v; below = fs })) ok
go_mid w (Worker a b) (PushToken f v) fs e z nq fe ok = token_mid w (Worker a b) f v fs e ok
go_mid w (Caller c) (PushToken f v) fs e z nq fe ok = tt
go_mid w (Worker a b) (AddToFifo f) fs e z nq fe ok = in_mid w (Worker a b) f fs e (fe (Worker a b) f.job (let a : all_fed f.job (w.stack (Worker a b)) ≡ ((one (f.job == f.job) + one (f.job == f.token)) + fed_in f.job fs) = ap (all_fed f.job) e in
    let o : one (f.job == f.job) ≡ 1 = ap one (eq-eqb f.job f.job refl) in omega (arith, a, o))) ok
go_mid w (Caller c) (AddToFifo f) fs e z nq fe ok = tt
go_mid w (Worker a b) (TakeFromFifo f) fs e z nq fe ok = undo_mid w (Worker a b) f fs e ok
go_mid w (Caller c) (TakeFromFifo f) fs e z nq fe ok = tt
go_mid w q (PushForAll c) fs e z nq fe ok = cc
go_mid w q (DealPieces g) fs e z nq fe ok = cc
go_mid w q x fs e z nq fe ok = quiet_mid w q (record { top = x; below = fs }) e refl ok
