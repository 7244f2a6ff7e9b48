-- the acts that give a share back
use Rattle.rayon_machine_places.specs.declared.place.Mark.TheVariants.{Returned}
use Rattle.rayon_machine_places.specs.declared.act.Seen.TheVariants.{Yes}
use Rattle.rayon_machine_places.specs.declared.shape.PoolShape.{PoolShape}
use Rattle.rayon_machine_runs.specs.declared.state.Job.{Job}
use Rattle.rayon_machine_places.specs.declared.place.Pieces.{Pieces}
use Rattle.rayon_machine_laws.specs.Counted.{is_scoped}
use Rattle.rayon_machine_places.specs.declared.place.Then.TheVariants.{BeginFound, LeaveWait, Resume, Await, RunFirst, Answers, Missing, Ran, GiveBack, Called, Gathers}
use Rattle.rayon_machine_places.specs.declared.place.Plan.TheVariants.{Detach, Here, Send, Fork, Feed, Open, Enter, Gather}
use Rattle.rayon_machine_places.specs.declared.place.Plan.{Plan}
use Rattle.rayon_machine_places.specs.declared.place.Count.TheVariants.{OfPool, OfScope, OfCast}
use Rattle.rayon_machine_places.specs.declared.place.Count.{Count}
use Rattle.std.proofs.Common.{arith, refl, sym, ◌∙◌, ap, subst}
use Rattle.std.specs.Prelude.{ℕ, Bool, true, false, ◌+◌, ◌-◌, ◌==◌, ◌≤◌, if◌then◌else◌, List, ◌≡◌}
use Rattle.std.proofs.lemmas.Bool.{eqb-true}
use Rattle.rayon_machine_places.specs.declared.place.Party.{Party}
use Rattle.rayon_machine_places.specs.declared.place.Share.{Share}
use Rattle.rayon_machine_places.specs.declared.place.Share.TheVariants.{PoolValue, OfJob}
use Rattle.rayon_machine_places.specs.declared.place.Then.{Then}
use Rattle.rayon_machine_places.specs.declared.place.Place.{Place}
use Rattle.rayon_machine_places.specs.declared.place.Place.TheVariants.{LowerCount, LowerForAll}
use Rattle.rayon_machine_places.specs.declared.act.Seen.{Seen}
use Rattle.rayon_machine_places.specs.Places.{own_index, next_of, plan_job, plan_count, count_kind}
use Rattle.rayon_machine_runs.specs.World.{Pool, Stack, World, lowered, count_call, pool_less, all_lowered as all_given}
use Rattle.rayon_machine_places.specs.Targets.{share_job, count_pool}
use Rattle.rayon_machine_runs.specs.Steps.{put, put_stack, part_of, after_move, after, is_piece, mark_pieces, marked, jobs_after}
use Rattle.rayon_machine_laws.specs.Once.{one}
use Rattle.rayon_machine_laws.specs.Shares.{shares}
use Rattle.rayon_machine_laws.proofs.Claims.{call_unscoped, SaysOwner, SaysPieces, SaysPlan, SaysThen, SaysShare, SaysCast}
use Rattle.rayon_machine_laws.proofs.ClaimRuns.{CallsHold, top_says}
use Rattle.rayon_machine_laws.proofs.Amounts.{all_raises, all_values}
use Rattle.rayon_machine_laws.proofs.Tokens.{Tokens, tokens_keep, tokens_pay, sum_below, sum_same, sum_change, sum_both, pieces_below, sum_least}
use Rattle.rayon_machine_laws.proofs.ShareActs.{with_job, tally, SharesHold, one_most, one_is, one_not}
use Rattle.rayon_machine_laws.proofs.ShareRuns.{shares_mine, other_le, values_mine, raises_all, after_shares}
use Rattle.rayon_machine_laws.proofs.ShareSteps.{tally_same, self_one, lower_steady, pieces_made, tally_off, tally_on, tally_scoped, weigh, weigh_none, weighs, weigh_is, count_tally, weighs_none}
use Rattle.rayon_machine_laws.proofs.Frame.{put_same, put_new, put_old, piece_new, piece_old}

abbrev pub lowered_world : World → Party → Count → Share → Then → List Place → Seen → World
lowered_world w q c s n fs e = after w q (record { top = LowerCount c s n; below = fs }) (count_pool q c) (own_index q) (count_call c) (share_job s) (e, lowered (part_of w (count_pool q c) (own_index q) (count_call c) (share_job s)) c s)

-- the job of a plan whose count is a pool's is of no scope
plan_unscoped : (w : World) (q : Party) (n : Plan) (p : ℕ) → SaysPlan w q n → plan_count n ≡ OfPool p → is_scoped (w.job (plan_job n)).kind ≡ false
plan_unscoped w q (Detach r t) p s e = ap is_scoped (s.kind)
plan_unscoped w q (Here r t) p s e = ap is_scoped (s.kind)
plan_unscoped w q (Send o) p s e = call_unscoped ((w.job o.job).kind) (o.number, q) ((s.0).kind)
plan_unscoped w q (Open o) p s e = call_unscoped ((w.job o.job).kind) (o.number, q) ((s.0).kind)
plan_unscoped w q (Fork o x) p s e = call_unscoped ((w.job o.job).kind) (o.number, q) ((s.0).kind)
plan_unscoped w q (Feed f) p s e = ap is_scoped ((s.0).kind) ∙ ap (λ k. is_scoped (count_kind k)) e
plan_unscoped w q (Gather g) p s e = ap is_scoped (s.whole)
plan_unscoped w q (Enter x) p s e = absurd (cc)

-- nor is one whose share of a pool's count is given back
pub owner_unscoped : (w : World) (q : Party) (t p : ℕ) (n : Then) → SaysThen w q n → SaysOwner w t p n → is_scoped (w.job t).kind ≡ false
owner_unscoped w q t p Resume s o = ap is_scoped (o.0)
owner_unscoped w q t p Called s o = ap is_scoped (o.0)
owner_unscoped w q t p (Answers c f e) s o = ap (λ i. is_scoped (w.job i).kind) (sym o) ∙ call_unscoped ((w.job c.job).kind) (c.number, q) ((s.0).kind)
owner_unscoped w q t p (Missing c f) s o = ap (λ i. is_scoped (w.job i).kind) (sym o) ∙ call_unscoped ((w.job c.job).kind) (c.number, q) ((s.0).kind)
owner_unscoped w q t p (Ran u e) s o = ap is_scoped (o.1)
owner_unscoped w q t p (GiveBack n) s o = ap (λ i. is_scoped (w.job i).kind) (sym (o.0)) ∙ plan_unscoped w q n p s (o.1)
owner_unscoped w q t p (BeginFound g x) s o = absurd o
owner_unscoped w q t p (LeaveWait g) s o = absurd o
owner_unscoped w q t p (Await c) s o = absurd o
owner_unscoped w q t p (Gathers c) s o = absurd o
owner_unscoped w q t p (RunFirst c x) s o = absurd o

-- what a job has in a pool's count whose share is given back
share_tally : (w : World) (q : Party) (c : Count) (u p : ℕ) (n : Then) → SaysThen w q n → SaysShare w c (OfJob u) n → (w.job u).counted ≡ true → tally p (w.job u) ≡ weigh c (p == count_pool q c)
share_tally w q (OfPool r) u p n s a h = tally_on p r (w.job u) h (owner_unscoped w q u r n s (a.2)) (a.1)
share_tally w q (OfScope c o) u p n s a h = tally_scoped p (w.job u) (ap is_scoped (a.1))
share_tally w q (OfCast c o) u p n s a h = tally_scoped p (w.job u) (ap is_scoped (a.1))

pub share_made : (w : World) (c : Count) (u : ℕ) (n : Then) → SaysShare w c (OfJob u) n → u + 1 ≤ w.jobs
share_made w (OfPool r) u n a = a.0
share_made w (OfScope c o) u n a = a.0
share_made w (OfCast c o) u n a = a.0

less_by : (c : Count) (n : ℕ) → weigh c true ≤ n → (pool_less c 1 n + weigh c true) ≡ n
less_by (OfPool r) n h = omega (arith, h)
less_by (OfScope c o) n h = omega arith
less_by (OfCast c o) n h = omega arith

-- a job's share
pub lower_job : (w : World) (q : Party) (c : Count) (u : ℕ) (n : Then) (fs : List Place) (e : Seen) → SharesHold w → w.stack q ≡ record { top = LowerCount c (OfJob u) n; below = fs } → CallsHold (lowered_world w q c (OfJob u) n fs e)
    → ((t : ℕ) → with_job ((lowered_world w q c (OfJob u) n fs e).job t) ≤ with_job (w.job t)) → ((t : ℕ) → ((lowered_world w q c (OfJob u) n fs e).job t).kind ≡ (w.job t).kind) → ((t : ℕ) → ((lowered_world w q c (OfJob u) n fs e).job t).pool ≡ (w.job t).pool)
    → ((p : ℕ) → ((lowered_world w q c (OfJob u) n fs e).pool p).held ≡ (w.pool p).held) → SharesHold (lowered_world w q c (OfJob u) n fs e)
lower_job w q c u n fs e h z ch busy kinds pools keeps = record {
  calls = ch;
  jobs = λ t. jobs t (t == u) refl;
  values = λ p. subst (λ d. Tokens (λ s. all_values p (v.stack s)) (one (v.pool p).held) (one d)) (sym (put_same (λ a. a.counted) w.pool p0 less_one p refl))
      (tokens_keep (λ s. all_values p (w.stack s)) (λ s. all_values p (v.stack s)) (one (w.pool p).held) (one (v.pool p).held) (one (w.pool p).counted) q (one_most ((w.pool p).counted)) (λ s y. other_le (all_values p) w q k s y)
      (let a : all_values p (put_stack w.stack q k q) + 0 ≡ all_values p (w.stack q) = values_mine w q (LowerCount c (OfJob u) n) fs (w.shape.pool p0) e p z in let b : one (v.pool p).held ≡ one (w.pool p).held = ap one (keeps p) in omega (arith, a, b)) (h.values p));
  unraised = λ s t. (let a : all_raises t (put_stack w.stack q k s) ≤ all_raises t (w.stack s) = raises_all w q (LowerCount c (OfJob u) n) fs (w.shape.pool p0) e t z s in let b : all_raises t (w.stack s) + one (w.job t).counted ≤ 1 = h.unraised s t in
      let c : one (v.job t).counted ≤ one (w.job t).counted = less t (t == u) refl in omega (arith, a, b, c));
  unmade = λ t b. one_not ((v.job t).counted) (let a : one (v.job t).counted ≤ one (w.job t).counted = less t (t == u) refl in let c : one (w.job t).counted ≡ 0 = ap one (h.unmade t b) in omega (arith, a, c));
  sums = λ p. sums p (p == p0) refl;
}
  where
    p0 : ℕ
    p0 = count_pool q c

    less_one : Pool
    less_one = record (w.pool p0) { count = pool_less c 1 (w.pool p0).count }

    v : World
    v = lowered_world w q c (OfJob u) n fs e

    k : Stack
    k = after_move (next_of (w.shape.pool p0) q (LowerCount c (OfJob u) n) e) fs

    said : SaysThen w q n × SaysShare w c (OfJob u) n
    said = top_says w q (LowerCount c (OfJob u) n) fs (h.calls) z

    made : u + 1 ≤ w.jobs
    made = share_made w c u n (said.1)

    counted : (t : ℕ) → (v.job t).counted ≡ (put w.job u (record (w.job u) { counted = false }) t).counted
    counted t = after_shares w q (LowerCount c (OfJob u) n) fs (w.shape.pool p0) e z h.unraised (lower_steady (w.shape.pool p0) q c (OfJob u) n e) (put w.job u (record (w.job u) { counted = false })) t (λ y. off (t == u) y)
      where
        off : (b : Bool) → (w.job t).counted ≡ false → (if b then record (w.job u) { counted = false } else w.job t).counted ≡ false
        off true y = refl
        off false y = y

    now : (v.job u).counted ≡ false
    now = counted u ∙ ap (λ j. j.counted) (put_new w.job u (record (w.job u) { counted = false }))

    same : (t : ℕ) → (t == u) ≡ false → (v.job t).counted ≡ (w.job t).counted
    same t y = counted t ∙ ap (λ j. j.counted) (put_old w.job u (record (w.job u) { counted = false }) t y)

    less : (t : ℕ) (b : Bool) → (t == u) ≡ b → one (v.job t).counted ≤ one (w.job t).counted
    less t true y = let a : one (v.job t).counted ≡ 0 = ap (λ i. one (v.job i).counted) (eqb-true t u y) ∙ ap one now in omega (arith, a)
    less t false y = let a : one (v.job t).counted ≡ one (w.job t).counted = ap one (same t y) in omega (arith, a)

    line : (t : ℕ) → shares t (put_stack w.stack q k q) + one (t == u) ≤ shares t (w.stack q)
    line t = let a : shares t (put_stack w.stack q k q) + (0 + one (t == u)) ≡ shares t (w.stack q) + 0 = shares_mine w q (LowerCount c (OfJob u) n) fs (w.shape.pool p0) e t z in omega (arith, a)

    had : (w.job u).counted ≡ true
    had = one_is ((w.job u).counted) (let a : shares u (put_stack w.stack q k q) + one (u == u) ≤ shares u (w.stack q) = line u in let b : one (u == u) ≡ 1 = self_one u in let c : shares u (w.stack q) + with_job (w.job u) ≤ one (w.job u).counted = (h.jobs u).alone q in omega (arith, a, b, c))

    jobs : (t : ℕ) (b : Bool) → (t == u) ≡ b → Tokens (λ s. shares t (v.stack s)) (with_job (v.job t)) (one (v.job t).counted)
    jobs t true y = subst (λ t. Tokens (λ s. shares t (v.stack s)) (with_job (v.job t)) (one (v.job t).counted)) (sym (eqb-true t u y))
        (subst (λ d. Tokens (λ s. shares u (v.stack s)) (with_job (v.job u)) (one d)) (sym now)
        (tokens_pay (λ s. shares u (w.stack s)) (λ s. shares u (v.stack s)) (with_job (w.job u)) (with_job (v.job u)) (one (w.job u).counted) q (one_most ((w.job u).counted)) (λ s d. other_le (shares u) w q k s d)
        (let a : shares u (put_stack w.stack q k q) + one (u == u) ≤ shares u (w.stack q) = line u in let b : one (u == u) ≡ 1 = self_one u in omega (arith, a, b)) (busy u) (h.jobs u)))
    jobs t false y = subst (λ d. Tokens (λ s. shares t (v.stack s)) (with_job (v.job t)) (one d)) (sym (same t y))
        (tokens_keep (λ s. shares t (w.stack s)) (λ s. shares t (v.stack s)) (with_job (w.job t)) (with_job (v.job t)) (one (w.job t).counted) q (one_most ((w.job t).counted)) (λ s d. other_le (shares t) w q k s d)
        (let a : shares t (put_stack w.stack q k q) + one (t == u) ≤ shares t (w.stack q) = line t in let b : with_job (v.job t) ≤ with_job (w.job t) = busy t in omega (arith, a, b)) (h.jobs t))

    off : (p : ℕ) → tally p (v.job u) ≡ 0
    off p = tally_off p (v.job u) now

    on : (p : ℕ) → tally p (w.job u) ≡ weigh c (p == p0)
    on p = share_tally w q c u p n (said.0) (said.1) had

    change : (p : ℕ) → (sum_below w.jobs (λ t. tally p (v.job t)) + tally p (w.job u)) ≡ (sum_below w.jobs (λ t. tally p (w.job t)) + tally p (v.job u))
    change p = sum_change w.jobs (λ t. tally p (w.job t)) (λ t. tally p (v.job t)) u made (λ t d. sym (tally_same p (v.job t) (w.job t) (same t d) (kinds t) (pools t)))

    sums : (p : ℕ) (b : Bool) → (p == p0) ≡ b → sum_below w.jobs (λ t. tally p (v.job t)) + one (if b then less_one else w.pool p).counted ≡ (if b then less_one else w.pool p).count
    sums p true y = let i : p ≡ p0 = eqb-true p p0 y in
        let a : sum_below w.jobs (λ t. tally p (w.job t)) + one (w.pool p).counted ≡ (w.pool p).count = h.sums p in
        let b : (sum_below w.jobs (λ t. tally p (v.job t)) + tally p (w.job u)) ≡ (sum_below w.jobs (λ t. tally p (w.job t)) + tally p (v.job u)) = change p in
        let l : tally p (w.job u) ≤ sum_below w.jobs (λ t. tally p (w.job t)) = sum_least w.jobs (λ t. tally p (w.job t)) u made in
        let x : tally p (v.job u) ≡ 0 = off p in
        let d : tally p (w.job u) ≡ weigh c true = on p ∙ ap (weigh c) y in
        let f : one (w.pool p0).counted ≡ one (w.pool p).counted = ap (λ m. one (w.pool m).counted) (sym i) in
        let g : (w.pool p0).count ≡ (w.pool p).count = ap (λ m. (w.pool m).count) (sym i) in
        let k : (pool_less c 1 (w.pool p0).count + weigh c true) ≡ (w.pool p0).count = less_by c ((w.pool p0).count) (omega (arith, a, d, f, g, l)) in omega (arith, a, b, x, d, f, g, k)
    sums p false y = let a : sum_below w.jobs (λ t. tally p (w.job t)) + one (w.pool p).counted ≡ (w.pool p).count = h.sums p in
        let b : (sum_below w.jobs (λ t. tally p (v.job t)) + tally p (w.job u)) ≡ (sum_below w.jobs (λ t. tally p (w.job t)) + tally p (v.job u)) = change p in
        let x : tally p (v.job u) ≡ 0 = off p in
        let d : tally p (w.job u) ≡ 0 = on p ∙ weigh_none c (p == p0) y in omega (arith, a, b, x, d)

-- the share of a pool's value
pub lower_value : (w : World) (q : Party) (p0 : ℕ) (n : Then) (fs : List Place) (e : Seen) → SharesHold w → w.stack q ≡ record { top = LowerCount (OfPool p0) PoolValue n; below = fs } → CallsHold (lowered_world w q (OfPool p0) PoolValue n fs e)
    → ((t : ℕ) → with_job ((lowered_world w q (OfPool p0) PoolValue n fs e).job t) ≤ with_job (w.job t)) → ((t : ℕ) → ((lowered_world w q (OfPool p0) PoolValue n fs e).job t).kind ≡ (w.job t).kind) → ((t : ℕ) → ((lowered_world w q (OfPool p0) PoolValue n fs e).job t).pool ≡ (w.job t).pool)
    → ((p : ℕ) → ((lowered_world w q (OfPool p0) PoolValue n fs e).pool p).held ≡ (w.pool p).held) → SharesHold (lowered_world w q (OfPool p0) PoolValue n fs e)
lower_value w q p0 n fs e h z ch busy kinds pools keeps = record {
  calls = ch;
  jobs = λ t. subst (λ c. Tokens (λ s. shares t (v.stack s)) (with_job (v.job t)) (one c)) (sym (same t))
      (tokens_keep (λ s. shares t (w.stack s)) (λ s. shares t (v.stack s)) (with_job (w.job t)) (with_job (v.job t)) (one (w.job t).counted) q (one_most ((w.job t).counted)) (λ s d. other_le (shares t) w q k s d)
      (let a : shares t (put_stack w.stack q k q) + (0 + 0) ≡ shares t (w.stack q) + (0 + 0) = shares_mine w q (LowerCount (OfPool p0) PoolValue n) fs (w.shape.pool p0) e t z in let b : with_job (v.job t) ≤ with_job (w.job t) = busy t in omega (arith, a, b)) (h.jobs t));
  values = λ p. values p (p == p0) refl;
  unraised = λ s t. (let a : all_raises t (put_stack w.stack q k s) ≤ all_raises t (w.stack s) = raises_all w q (LowerCount (OfPool p0) PoolValue n) fs (w.shape.pool p0) e t z s in let b : all_raises t (w.stack s) + one (w.job t).counted ≤ 1 = h.unraised s t in
      let c : one (v.job t).counted ≡ one (w.job t).counted = ap one (same t) in omega (arith, a, b, c));
  unmade = λ t b. same t ∙ h.unmade t b;
  sums = λ p. sums p (p == p0) refl;
}
  where
    v : World
    v = lowered_world w q (OfPool p0) PoolValue n fs e

    k : Stack
    k = after_move (next_of (w.shape.pool p0) q (LowerCount (OfPool p0) PoolValue n) e) fs

    same : (t : ℕ) → (v.job t).counted ≡ (w.job t).counted
    same t = let a : (put w.job 0 (w.job 0) t).counted ≡ (w.job t).counted = put_same (λ j. j.counted) w.job 0 (w.job 0) t refl in
        after_shares w q (LowerCount (OfPool p0) PoolValue n) fs (w.shape.pool p0) e z h.unraised (lower_steady (w.shape.pool p0) q (OfPool p0) PoolValue n e) (put w.job 0 (w.job 0)) t (λ y. a ∙ y) ∙ a

    line : (p : ℕ) → all_values p (put_stack w.stack q k q) + one (p == p0) ≡ all_values p (w.stack q)
    line p = values_mine w q (LowerCount (OfPool p0) PoolValue n) fs (w.shape.pool p0) e p z

    had : (w.pool p0).counted ≡ true
    had = one_is ((w.pool p0).counted) (let a : all_values p0 (put_stack w.stack q k q) + one (p0 == p0) ≡ all_values p0 (w.stack q) = line p0 in let b : one (p0 == p0) ≡ 1 = self_one p0 in
        let c : all_values p0 (w.stack q) + one (w.pool p0).held ≤ one (w.pool p0).counted = (h.values p0).alone q in omega (arith, a, b, c))

    gone : Pool
    gone = record (w.pool p0) { count = (w.pool p0).count - 1; counted = false }

    values : (p : ℕ) (b : Bool) → (p == p0) ≡ b → Tokens (λ s. all_values p (v.stack s)) (one (if b then gone else w.pool p).held) (one (if b then gone else w.pool p).counted)
    values p true y = subst (λ p. Tokens (λ s. all_values p (v.stack s)) (one (w.pool p0).held) 0) (sym (eqb-true p p0 y))
        (tokens_pay (λ s. all_values p0 (w.stack s)) (λ s. all_values p0 (v.stack s)) (one (w.pool p0).held) (one (w.pool p0).held) (one (w.pool p0).counted) q (one_most ((w.pool p0).counted)) (λ s d. other_le (all_values p0) w q k s d)
        (let a : all_values p0 (put_stack w.stack q k q) + one (p0 == p0) ≡ all_values p0 (w.stack q) = line p0 in let b : one (p0 == p0) ≡ 1 = self_one p0 in omega (arith, a, b)) (omega arith) (h.values p0))
    values p false y = tokens_keep (λ s. all_values p (w.stack s)) (λ s. all_values p (v.stack s)) (one (w.pool p).held) (one (w.pool p).held) (one (w.pool p).counted) q (one_most ((w.pool p).counted)) (λ s d. other_le (all_values p) w q k s d)
        (let a : all_values p (put_stack w.stack q k q) + one (p == p0) ≡ all_values p (w.stack q) = line p in omega (arith, a)) (h.values p)

    sums : (p : ℕ) (b : Bool) → (p == p0) ≡ b → sum_below w.jobs (λ t. tally p (v.job t)) + one (if b then gone else w.pool p).counted ≡ (if b then gone else w.pool p).count
    sums p true y = let i : p ≡ p0 = eqb-true p p0 y in
        let a : sum_below w.jobs (λ t. tally p (w.job t)) + one (w.pool p).counted ≡ (w.pool p).count = h.sums p in
        let b : sum_below w.jobs (λ t. tally p (v.job t)) ≡ sum_below w.jobs (λ t. tally p (w.job t)) = sum_same w.jobs (λ t. tally p (v.job t)) (λ t. tally p (w.job t)) (λ t d. tally_same p (v.job t) (w.job t) (same t) (kinds t) (pools t)) in
        let c : one (w.pool p).counted ≡ 1 = ap (λ m. one (w.pool m).counted) i ∙ ap one had in
        let g : (w.pool p0).count ≡ (w.pool p).count = ap (λ m. (w.pool m).count) (sym i) in omega (arith, a, b, c, g)
    sums p false y = let a : sum_below w.jobs (λ t. tally p (w.job t)) + one (w.pool p).counted ≡ (w.pool p).count = h.sums p in
        let b : sum_below w.jobs (λ t. tally p (v.job t)) ≡ sum_below w.jobs (λ t. tally p (w.job t)) = sum_same w.jobs (λ t. tally p (v.job t)) (λ t. tally p (w.job t)) (λ t d. tally_same p (v.job t) (w.job t) (same t) (kinds t) (pools t)) in omega (arith, a, b)

-- the shares of a broadcast
abbrev pub all_lowered : World → Party → Pieces → List Place → Seen → World
all_lowered w q c fs e = after w q (record { top = LowerForAll c; below = fs }) (count_pool q c.count) (own_index q) (count_call c.count) 0 (e, all_given (part_of w (count_pool q c.count) (own_index q) (count_call c.count) 0) c)

less_all : (k : Count) (n m : ℕ) → weighs k true ≡ true → pool_less k n m ≡ m - n
less_all (OfPool r) n m e = refl
less_all (OfScope c o) n m e = cc
less_all (OfCast c o) n m e = cc

less_none : (k : Count) (n m : ℕ) → weighs k true ≡ false → pool_less k n m ≡ m
less_none (OfPool r) n m e = cc
less_none (OfScope c o) n m e = refl
less_none (OfCast c o) n m e = refl

pub returned_jobs : (g : PoolShape) (q : Party) (c : Pieces) (e : Seen) (J : ℕ → Job) → jobs_after q (next_of g q (LowerForAll c) e) J ≡ mark_pieces c Returned J
returned_jobs g q c Yes J = refl
returned_jobs g q c _ J = refl

pub lower_all_hold : (w : World) (q : Party) (c : Pieces) (fs : List Place) (e : Seen) → SharesHold w → w.stack q ≡ record { top = LowerForAll c; below = fs } → CallsHold (all_lowered w q c fs e) → ((t : ℕ) → with_job ((all_lowered w q c fs e).job t) ≤ with_job (w.job t))
    → ((t : ℕ) → ((all_lowered w q c fs e).job t).kind ≡ (w.job t).kind) → ((t : ℕ) → ((all_lowered w q c fs e).job t).pool ≡ (w.job t).pool) → ((p : ℕ) → ((all_lowered w q c fs e).pool p).held ≡ (w.pool p).held) → SharesHold (all_lowered w q c fs e)
lower_all_hold w q c fs e h z ch busy kinds pools keeps = record {
  calls = ch;
  jobs = λ t. jobs t (is_piece c t) refl;
  values = λ p. subst (λ d. Tokens (λ s. all_values p (v.stack s)) (one (v.pool p).held) (one d)) (sym (put_same (λ a. a.counted) w.pool p0 fewer p refl))
      (tokens_keep (λ s. all_values p (w.stack s)) (λ s. all_values p (v.stack s)) (one (w.pool p).held) (one (v.pool p).held) (one (w.pool p).counted) q (one_most ((w.pool p).counted)) (λ s y. other_le (all_values p) w q k s y)
      (let a : all_values p (put_stack w.stack q k q) + 0 ≡ all_values p (w.stack q) = values_mine w q (LowerForAll c) fs (w.shape.pool p0) e p z in let b : one (v.pool p).held ≡ one (w.pool p).held = ap one (keeps p) in omega (arith, a, b)) (h.values p));
  unraised = λ s t. (let a : all_raises t (put_stack w.stack q k s) ≤ all_raises t (w.stack s) = raises_all w q (LowerForAll c) fs (w.shape.pool p0) e t z s in let b : all_raises t (w.stack s) + one (w.job t).counted ≤ 1 = h.unraised s t in
      let d : one (v.job t).counted ≤ one (w.job t).counted = less t (is_piece c t) refl in omega (arith, a, b, d));
  unmade = λ t b. one_not ((v.job t).counted) (let a : one (v.job t).counted ≤ one (w.job t).counted = less t (is_piece c t) refl in let d : one (w.job t).counted ≡ 0 = ap one (h.unmade t b) in omega (arith, a, d));
  sums = λ p. sums p (p == p0) refl;
}
  where
    p0 : ℕ
    p0 = count_pool q c.count

    fewer : Pool
    fewer = record (w.pool p0) { count = pool_less c.count c.workers (w.pool p0).count }

    v : World
    v = all_lowered w q c fs e

    k : Stack
    k = after_move (next_of (w.shape.pool p0) q (LowerForAll c) e) fs

    claim : SaysCast w c
    claim = top_says w q (LowerForAll c) fs (h.calls) z

    said : SaysPieces w c
    said = claim.0

    J : ℕ → Job
    J = put w.job 0 (w.job 0)

    become : (t : ℕ) → v.job t ≡ mark_pieces c Returned J t
    become t = ap (λ g. g t) (returned_jobs (w.shape.pool p0) q c e J)

    now : (t : ℕ) → is_piece c t ≡ true → (v.job t).counted ≡ false
    now t y = ap (λ j. j.counted) (become t ∙ piece_new c (marked Returned c.pool) J t y)

    same : (t : ℕ) → is_piece c t ≡ false → (v.job t).counted ≡ (w.job t).counted
    same t y = ap (λ j. j.counted) (become t ∙ piece_old c (marked Returned c.pool) J t y) ∙ put_same (λ j. j.counted) w.job 0 (w.job 0) t refl

    less : (t : ℕ) (b : Bool) → is_piece c t ≡ b → one (v.job t).counted ≤ one (w.job t).counted
    less t true y = let a : one (v.job t).counted ≡ 0 = ap one (now t y) in omega (arith, a)
    less t false y = let a : one (v.job t).counted ≡ one (w.job t).counted = ap one (same t y) in omega (arith, a)

    line : (t : ℕ) → shares t (put_stack w.stack q k q) + one (is_piece c t) ≤ shares t (w.stack q)
    line t = let a : shares t (put_stack w.stack q k q) + (0 + one (is_piece c t)) ≡ shares t (w.stack q) + 0 = shares_mine w q (LowerForAll c) fs (w.shape.pool p0) e t z in omega (arith, a)

    had : (t : ℕ) → is_piece c t ≡ true → (w.job t).counted ≡ true
    had t y = one_is ((w.job t).counted) (let a : shares t (put_stack w.stack q k q) + one (is_piece c t) ≤ shares t (w.stack q) = line t in let b : one (is_piece c t) ≡ 1 = ap one y in let d : shares t (w.stack q) + with_job (w.job t) ≤ one (w.job t).counted = (h.jobs t).alone q in
        omega (arith, a, b, d))

    jobs : (t : ℕ) (b : Bool) → is_piece c t ≡ b → Tokens (λ s. shares t (v.stack s)) (with_job (v.job t)) (one (v.job t).counted)
    jobs t true y = subst (λ d. Tokens (λ s. shares t (v.stack s)) (with_job (v.job t)) (one d)) (sym (now t y))
        (tokens_pay (λ s. shares t (w.stack s)) (λ s. shares t (v.stack s)) (with_job (w.job t)) (with_job (v.job t)) (one (w.job t).counted) q (one_most ((w.job t).counted)) (λ s d. other_le (shares t) w q k s d)
        (let a : shares t (put_stack w.stack q k q) + one (is_piece c t) ≤ shares t (w.stack q) = line t in let b : one (is_piece c t) ≡ 1 = ap one y in omega (arith, a, b)) (busy t) (h.jobs t))
    jobs t false y = subst (λ d. Tokens (λ s. shares t (v.stack s)) (with_job (v.job t)) (one d)) (sym (same t y))
        (tokens_keep (λ s. shares t (w.stack s)) (λ s. shares t (v.stack s)) (with_job (w.job t)) (with_job (v.job t)) (one (w.job t).counted) q (one_most ((w.job t).counted)) (λ s d. other_le (shares t) w q k s d)
        (let a : shares t (put_stack w.stack q k q) + one (is_piece c t) ≤ shares t (w.stack q) = line t in let b : with_job (v.job t) ≤ with_job (w.job t) = busy t in omega (arith, a, b)) (h.jobs t))

    old_tally : (p t : ℕ) → is_piece c t ≡ true → tally p (w.job t) ≡ one (weighs c.count (p == p0))
    old_tally p t y = count_tally w q c.count c.pool p (w.job t) (claim.1) (had t y) ((said t y).kind) ((said t y).pool) ∙ weigh_is c.count (p == p0)

    pays : (p t : ℕ) (b : Bool) → is_piece c t ≡ b → weighs c.count (p == p0) ≡ true → tally p (w.job t) ≡ tally p (v.job t) + one (is_piece c t)
    pays p t true y x = let a : tally p (v.job t) ≡ 0 = tally_off p (v.job t) (now t y) in let b : tally p (w.job t) ≡ 1 = old_tally p t y ∙ ap one x in let d : one (is_piece c t) ≡ 1 = ap one y in omega (arith, a, b, d)
    pays p t false y x = let a : tally p (v.job t) ≡ tally p (w.job t) = tally_same p (v.job t) (w.job t) (same t y) (kinds t) (pools t) in let d : one (is_piece c t) ≡ 0 = ap one y in omega (arith, a, d)

    stays : (p t : ℕ) (b : Bool) → is_piece c t ≡ b → weighs c.count (p == p0) ≡ false → tally p (v.job t) ≡ tally p (w.job t)
    stays p t true y x = let a : tally p (v.job t) ≡ 0 = tally_off p (v.job t) (now t y) in let b : tally p (w.job t) ≡ 0 = old_tally p t y ∙ ap one x in omega (arith, a, b)
    stays p t false y x = tally_same p (v.job t) (w.job t) (same t y) (kinds t) (pools t)

    kept : (p : ℕ) → weighs c.count (p == p0) ≡ false → sum_below w.jobs (λ t. tally p (v.job t)) ≡ sum_below w.jobs (λ t. tally p (w.job t))
    kept p y = sum_same w.jobs (λ t. tally p (v.job t)) (λ t. tally p (w.job t)) (λ t l. stays p t (is_piece c t) refl y)

    at : (p : ℕ) → (p == p0) ≡ true → (d : Bool) → weighs c.count true ≡ d → sum_below w.jobs (λ t. tally p (v.job t)) + one (w.pool p0).counted ≡ pool_less c.count c.workers (w.pool p0).count
    at p x true y = let i : p ≡ p0 = eqb-true p p0 x in
        let a : sum_below w.jobs (λ t. tally p (w.job t)) + one (w.pool p).counted ≡ (w.pool p).count = h.sums p in
        let b : sum_below w.jobs (λ t. tally p (w.job t)) ≡ sum_below w.jobs (λ t. tally p (v.job t)) + sum_below w.jobs (λ t. one (is_piece c t)) =
        sum_both w.jobs (λ t. tally p (v.job t)) (λ t. tally p (w.job t)) (λ t. one (is_piece c t)) (λ t l. pays p t (is_piece c t) refl (ap (weighs c.count) x ∙ y)) in
        let d : sum_below w.jobs (λ t. one (is_piece c t)) ≡ c.workers = pieces_below w.jobs c (pieces_made w c said) in
        let f : one (w.pool p0).counted ≡ one (w.pool p).counted = ap (λ m. one (w.pool m).counted) (sym i) in
        let g : (w.pool p0).count ≡ (w.pool p).count = ap (λ m. (w.pool m).count) (sym i) in
        let j : pool_less c.count c.workers (w.pool p0).count ≡ (w.pool p0).count - c.workers = less_all c.count c.workers ((w.pool p0).count) y in omega (arith, a, b, d, f, g, j)
    at p x false y = let i : p ≡ p0 = eqb-true p p0 x in
        let a : sum_below w.jobs (λ t. tally p (w.job t)) + one (w.pool p).counted ≡ (w.pool p).count = h.sums p in
        let b : sum_below w.jobs (λ t. tally p (v.job t)) ≡ sum_below w.jobs (λ t. tally p (w.job t)) = kept p (ap (weighs c.count) x ∙ y) in
        let f : one (w.pool p0).counted ≡ one (w.pool p).counted = ap (λ m. one (w.pool m).counted) (sym i) in
        let g : (w.pool p0).count ≡ (w.pool p).count = ap (λ m. (w.pool m).count) (sym i) in
        let j : pool_less c.count c.workers (w.pool p0).count ≡ (w.pool p0).count = less_none c.count c.workers ((w.pool p0).count) y in omega (arith, a, b, f, g, j)

    sums : (p : ℕ) (b : Bool) → (p == p0) ≡ b → sum_below w.jobs (λ t. tally p (v.job t)) + one (if b then fewer else w.pool p).counted ≡ (if b then fewer else w.pool p).count
    sums p true x = at p x (weighs c.count true) refl
    sums p false x = let a : sum_below w.jobs (λ t. tally p (w.job t)) + one (w.pool p).counted ≡ (w.pool p).count = h.sums p in
        let b : sum_below w.jobs (λ t. tally p (v.job t)) ≡ sum_below w.jobs (λ t. tally p (w.job t)) = kept p (ap (weighs c.count) x ∙ weighs_none c.count) in omega (arith, a, b)
