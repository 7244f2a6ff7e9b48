-- what acts leave of the counts of scopes
use Rattle.rayon_machine_places.specs.declared.place.Gathering.{Gathering}
use Rattle.rayon_machine_laws.proofs.Feeds.{all_fed, fed_in}
use Rattle.rayon_machine_laws.proofs.Lost.{is_dealt}
use Rattle.std.proofs.Common.{arith, refl, sym, ◌∙◌, ap, subst}
use Rattle.std.specs.Prelude.{ℕ, zero, suc, Bool, true, false, ◌+◌, ◌-◌, ◌==◌, ◌≤◌, if◌then◌else◌, Some, List, ◌≡◌, IfSome}
use Rattle.std.proofs.lemmas.Bool.{eqb-true}
use Rattle.rayon_machine_places.specs.declared.place.Party.{Party}
use Rattle.rayon_machine_places.specs.declared.place.Party.TheVariants.{Worker, Caller}
use Rattle.rayon_machine_places.specs.declared.place.JobKind.TheVariants.{PieceOf}
use Rattle.rayon_machine_places.specs.declared.place.Plan.{Plan}
use Rattle.rayon_machine_places.specs.declared.place.Count.{Count}
use Rattle.rayon_machine_places.specs.declared.place.Count.TheVariants.{OfPool, OfScope, OfCast}
use Rattle.rayon_machine_places.specs.declared.place.Share.TheVariants.{PoolValue, OfJob, Body}
use Rattle.rayon_machine_places.specs.declared.place.Then.{Then}
use Rattle.rayon_machine_places.specs.declared.place.Pieces.{Pieces}
use Rattle.rayon_machine_places.specs.declared.place.Mark.TheVariants.{Counted, Returned, Dealt}
use Rattle.rayon_machine_places.specs.declared.place.Place.{Place}
use Rattle.rayon_machine_places.specs.declared.place.Place.TheVariants.{RaiseCount, LowerCount, RaiseForAll, LowerForAll, DealPieces, PushForAll}
use Rattle.rayon_machine_places.specs.declared.act.Seen.{Seen}
use Rattle.rayon_machine_places.specs.declared.act.Seen.TheVariants.{Done, Refused, Yes, No}
use Rattle.rayon_machine_runs.specs.declared.state.Whereabouts.TheVariants.{Made}
use Rattle.rayon_machine_runs.specs.declared.state.Job.{Job}
use Rattle.rayon_machine_runs.specs.declared.state.Call.{Call}
use Rattle.rayon_machine_places.specs.Places.{own_pool, plan_pool, plan_job, plan_count, act_of, next_of, count_kind}
use Rattle.rayon_machine_runs.specs.World.{Stack, World, counts_at, Part, count_in, count_call, call_more, call_less, body_stays, undealt_after}
use Rattle.rayon_machine_places.specs.Targets.{target_pool, target_call, count_pool}
use Rattle.rayon_machine_runs.specs.Steps.{put, put_stack, is_piece, mark_pieces, marked, after_move}
use Rattle.rayon_machine_runs.specs.Readers.{is_done}
use Rattle.rayon_machine_laws.specs.Once.{one}
use Rattle.rayon_machine_laws.specs.Shares.{shares}
use Rattle.rayon_machine_laws.proofs.Frame.{if_some_and, if_some_map, put_same, put_new, put_old, stack_mine, after_counted, is_sharing, piece_new, piece_old, no_bare}
use Rattle.rayon_machine_laws.proofs.Ties.{job_at, outcome}
use Rattle.rayon_machine_laws.proofs.Claims.{SaysPieces, SaysThen, SaysShare, SaysGather, PieceAs, PartOf, KnownCount}
use Rattle.rayon_machine_laws.proofs.ClaimActs.{Lasting}
use Rattle.rayon_machine_laws.proofs.ClaimRuns.{top_says, world_after, place_part}
use Rattle.rayon_machine_laws.proofs.Tokens.{Tokens, tokens_keep, tokens_pay, sum_below, sum_same, sum_change, sum_least, sum_both, pieces_below}
use Rattle.rayon_machine_laws.proofs.ShareActs.{with_job, SharesHold, one_most, one_is}
use Rattle.rayon_machine_laws.proofs.ShareRuns.{shares_mine, other_le, after_shares}
use Rattle.rayon_machine_laws.proofs.ShareSteps.{Ready, stack_after, counted_now, self_one, raised_world, plan_made, no_steady, lower_steady, raise_steady, raise_plain, ungiven, all_raised, back_counted, pieces_made}
use Rattle.rayon_machine_laws.proofs.ShareLowers.{lowered_world, returned_jobs, share_made, all_lowered}
use Rattle.rayon_machine_laws.proofs.Bodies.{in_scope, all_bodies, spent}
use Rattle.rayon_machine_laws.proofs.ScopeCounts.{piece_in, entry, is_whole, Closed, SomePiece, ScopesHold, fresh_on, some_on, or_second, closed_last, done_made, DealtOn, parts_last, entry_same, entry_off, entry_on, inside, scope_is, plan_entry, share_entry, more_at, less_of}
use Rattle.rayon_machine_laws.proofs.ScopeCounts.{more_one, less_at, bodies_still, unopened_still, scopes_keep, le_after, is_counting, Uncalled, same_uncalled, act_uncalled, tally_counting}

-- an act that changes no scope's count
plain_scopes : (w : World) (q : Party) (x : Place) (fs : List Place) (r : Seen × Part) → Ready w q x fs r → Uncalled (place_part w q x) r → is_sharing (next_of (w.shape.pool (target_pool q (act_of q x))) q x (r.0)) ≡ false → ScopesHold w → SharesHold (world_after w q x fs r)
    → ScopesHold (world_after w q x fs r)
plain_scopes w q x fs r d un st h s = scopes_keep w (world_after w q x fs r) q (stack_after w q x fs (r.0)) (λ i. refl) (omega arith)
    (λ c. put_same (λ v. v.counted) w.call (target_call (act_of q x)) (r.1.call) c (un.counted))
    (λ c. put_same (λ v. v.count) w.call (target_call (act_of q x)) (r.1.call) c (un.count))
    (λ c. put_same (λ v. v.undealt) w.call (target_call (act_of q x)) (r.1.call) c (un.undealt))
    (λ c. sum_same w.jobs (λ t. entry c ((world_after w q x fs r).job t)) (λ t. entry c (w.job t)) (λ t b. entry_same c ((world_after w q x fs r).job t) (w.job t) (counted_now w q x fs r d.stack d.hold un.job st t) ((d.last).kinds t)))
    (λ c. (let a : all_bodies c (stack_after w q x fs (r.0)) + spent c x ≤ all_bodies c (w.stack q) = le_after w q x fs (w.shape.pool (target_pool q (act_of q x))) (r.0) c (d.stack) in omega (arith, a)))
    (closed_last w (world_after w q x fs r) (d.last)) (parts_last w (world_after w q x fs r) (d.last) (d.dealt) refl) h s

-- a share is taken
raise_scopes : (w : World) (q : Party) (n : Plan) (fs : List Place) → Lasting w (raised_world w q n fs) → DealtOn w (raised_world w q n fs) → w.stack q ≡ record { top = RaiseCount n; below = fs } → ScopesHold w → SharesHold (raised_world w q n fs) → ScopesHold (raised_world w q n fs)
raise_scopes w q n fs l de z h s = record {
  shares = s;
  bodies = λ c. bodies_still w v q k (λ r. refl) h c (same_call c) (le c);
  unopened = λ c b. unopened_still w v q k (λ r. refl) h c b (le c);
  whole = λ c b. same_call c ∙ h.whole c b;
  blank = λ c b. same_undealt c ∙ h.blank c b;
  fresh = fresh_on w v (parts_last w v l de refl) same_undealt h;
  some = some_on w v (parts_last w v l de refl) same_undealt h;
  sums = λ c.
      (let a : sum_below w.jobs (λ t. entry c (w.job t)) + (one (w.call c).counted + (w.call c).undealt) ≡ (w.call c).count = h.sums c in
      let ud : (v.call c).undealt ≡ (w.call c).undealt = same_undealt c in
      let b : (sum_below w.jobs (λ t. entry c (v.job t)) + entry c (w.job j)) ≡ (sum_below w.jobs (λ t. entry c (w.job t)) + entry c (v.job j)) = sum_change w.jobs (λ t. entry c (w.job t)) (λ t. entry c (v.job t)) j (said.0) (λ t d. sym (entry_same c (v.job t) (w.job t) (same t d) (l.kinds t))) in
      let d : entry c (v.job j) ≡ in_scope c (plan_count n) = plan_entry w q n c (v.job j) (top_says w q (RaiseCount n) fs ((h.shares).calls) z) now (l.kinds j) in
      let e : entry c (w.job j) ≡ 0 = entry_off c (w.job j) before in
      let f : (v.call c).count ≡ (w.call c).count + one (inside c (plan_count n)) = more_at w.call (plan_count n) 1 c ∙ more_one (inside c (plan_count n)) ((w.call c).count) in
      let x : one (inside c (plan_count n)) ≡ in_scope c (plan_count n) = scope_is c (plan_count n) in
      let g : one (v.call c).counted ≡ one (w.call c).counted = ap one (same_call c) in omega (arith, a, b, d, e, f, g, ud, x));
  over = λ c b e. closed_last w v l c b (h.over c b (sym (same_call c) ∙ e));
}
  where
    v : World
    v = raised_world w q n fs

    j : ℕ
    j = plan_job n

    k : Stack
    k = after_move (next_of (w.shape.pool (count_pool q (plan_count n))) q (RaiseCount n) Done) fs

    said : (plan_job n + 1 ≤ w.jobs) × ((w.job (plan_job n)).pool ≡ plan_pool n)
    said = plan_made w q n (top_says w q (RaiseCount n) fs ((h.shares).calls) z)

    same_call : (c : ℕ) → (v.call c).counted ≡ (w.call c).counted
    same_call c = put_same (λ a. a.counted) w.call (count_call (plan_count n)) (record (w.call (count_call (plan_count n))) { count = call_more (plan_count n) 1 (w.call (count_call (plan_count n))).count }) c refl

    same_undealt : (c : ℕ) → (v.call c).undealt ≡ (w.call c).undealt
    same_undealt c = put_same (λ a. a.undealt) w.call (count_call (plan_count n)) (record (w.call (count_call (plan_count n))) { count = call_more (plan_count n) 1 (w.call (count_call (plan_count n))).count }) c refl

    le : (c : ℕ) → all_bodies c k ≤ all_bodies c (w.stack q)
    le c = let a : all_bodies c k + 0 ≤ all_bodies c (w.stack q) = le_after w q (RaiseCount n) fs (w.shape.pool (count_pool q (plan_count n))) Done c z in omega (arith, a)

    counted : (t : ℕ) → (v.job t).counted ≡ (put w.job j (record (w.job j) { counted = true }) t).counted
    counted t = after_counted q (next_of (w.shape.pool (count_pool q (plan_count n))) q (RaiseCount n) Done) (put w.job j (record (w.job j) { counted = true })) t (raise_steady n)
        (no_bare (next_of (w.shape.pool (count_pool q (plan_count n))) q (RaiseCount n) Done) (put w.job j (record (w.job j) { counted = true })) t (raise_plain n))

    now : (v.job j).counted ≡ true
    now = counted j ∙ ap (λ i. i.counted) (put_new w.job j (record (w.job j) { counted = true }))

    same : (t : ℕ) → (t == j) ≡ false → (v.job t).counted ≡ (w.job t).counted
    same t e = counted t ∙ ap (λ i. i.counted) (put_old w.job j (record (w.job j) { counted = true }) t e)

    before : (w.job j).counted ≡ false
    before = ungiven w (h.shares) q (RaiseCount n) fs (w.shape.pool (count_pool q (plan_count n))) Done z j (let b : one (j == j) ≡ 1 = self_one j in omega (arith, b))

-- a job's share is given back
lower_scopes : (w : World) (q : Party) (i : Count) (u : ℕ) (n : Then) (fs : List Place) (e : Seen) → Lasting w (lowered_world w q i (OfJob u) n fs e) → DealtOn w (lowered_world w q i (OfJob u) n fs e) → w.stack q ≡ record { top = LowerCount i (OfJob u) n; below = fs } → ScopesHold w
    → SharesHold (lowered_world w q i (OfJob u) n fs e) → ScopesHold (lowered_world w q i (OfJob u) n fs e)
lower_scopes w q i u n fs e l de z h s = record {
  shares = s;
  bodies = λ c. bodies_still w v q k (λ r. refl) h c (same_call c) (le c);
  unopened = λ c b. unopened_still w v q k (λ r. refl) h c b (le c);
  whole = λ c b. same_call c ∙ h.whole c b;
  blank = λ c b. same_undealt c ∙ h.blank c b;
  fresh = fresh_on w v (parts_last w v l de refl) same_undealt h;
  some = some_on w v (parts_last w v l de refl) same_undealt h;
  sums = λ c.
      (let a : sum_below w.jobs (λ t. entry c (w.job t)) + (one (w.call c).counted + (w.call c).undealt) ≡ (w.call c).count = h.sums c in
      let ud : (v.call c).undealt ≡ (w.call c).undealt = same_undealt c in
      let b : (sum_below w.jobs (λ t. entry c (v.job t)) + entry c (w.job u)) ≡ (sum_below w.jobs (λ t. entry c (w.job t)) + entry c (v.job u)) = sum_change w.jobs (λ t. entry c (w.job t)) (λ t. entry c (v.job t)) u made (λ t d. sym (entry_same c (v.job t) (w.job t) (same t d) (l.kinds t))) in
      let m : entry c (w.job u) ≤ sum_below w.jobs (λ t. entry c (w.job t)) = sum_least w.jobs (λ t. entry c (w.job t)) u made in
      let d : entry c (w.job u) ≡ in_scope c i = share_entry w q i u c n (said.0) (said.1) had in
      let x : entry c (v.job u) ≡ 0 = entry_off c (v.job u) now in
      let f : ((v.call c).count + in_scope c i) ≡ (w.call c).count = less_at w.call i u c (omega (arith, a, m, d)) in
      let g : one (v.call c).counted ≡ one (w.call c).counted = ap one (same_call c) in omega (arith, a, b, d, x, f, g, ud));
  over = λ c b y. closed_last w v l c b (h.over c b (sym (same_call c) ∙ y));
}
  where
    v : World
    v = lowered_world w q i (OfJob u) n fs e

    k : Stack
    k = after_move (next_of (w.shape.pool (count_pool q i)) q (LowerCount i (OfJob u) n) e) fs

    said : SaysThen w q n × SaysShare w i (OfJob u) n
    said = top_says w q (LowerCount i (OfJob u) n) fs ((h.shares).calls) z

    made : u + 1 ≤ w.jobs
    made = share_made w i u n (said.1)

    same_call : (c : ℕ) → (v.call c).counted ≡ (w.call c).counted
    same_call c = put_same (λ a. a.counted) w.call (count_call i) (record (w.call (count_call i)) { count = call_less i 1 (w.call (count_call i)).count; counted = body_stays (OfJob u) (w.call (count_call i)).counted }) c refl

    same_undealt : (c : ℕ) → (v.call c).undealt ≡ (w.call c).undealt
    same_undealt c = put_same (λ a. a.undealt) w.call (count_call i) (record (w.call (count_call i)) { count = call_less i 1 (w.call (count_call i)).count; counted = body_stays (OfJob u) (w.call (count_call i)).counted }) c refl

    le : (c : ℕ) → all_bodies c k ≤ all_bodies c (w.stack q)
    le c = let a : all_bodies c k + 0 ≤ all_bodies c (w.stack q) = le_after w q (LowerCount i (OfJob u) n) fs (w.shape.pool (count_pool q i)) e c z in omega (arith, a)

    counted : (t : ℕ) → (v.job t).counted ≡ (put w.job u (record (w.job u) { counted = false }) t).counted
    counted t = after_shares w q (LowerCount i (OfJob u) n) fs (w.shape.pool (count_pool q i)) e z (h.shares).unraised (lower_steady (w.shape.pool (count_pool q i)) q i (OfJob u) n e) (put w.job u (record (w.job u) { counted = false })) t (λ y. off (t == u) y)
      where
        off : (b : Bool) → (w.job t).counted ≡ false → (if b then record (w.job u) { counted = false } else w.job t).counted ≡ false
        off true y = refl
        off false y = y

    now : (v.job u).counted ≡ false
    now = counted u ∙ ap (λ j. j.counted) (put_new w.job u (record (w.job u) { counted = false }))

    same : (t : ℕ) → (t == u) ≡ false → (v.job t).counted ≡ (w.job t).counted
    same t y = counted t ∙ ap (λ j. j.counted) (put_old w.job u (record (w.job u) { counted = false }) t y)

    had : (w.job u).counted ≡ true
    had = one_is ((w.job u).counted) (let a : shares u (put_stack w.stack q k q) + (0 + one (u == u)) ≡ shares u (w.stack q) + 0 = shares_mine w q (LowerCount i (OfJob u) n) fs (w.shape.pool (count_pool q i)) e u z in let b : one (u == u) ≡ 1 = self_one u in
        let c : shares u (w.stack q) + with_job (w.job u) ≤ one (w.job u).counted = ((h.shares).jobs u).alone q in omega (arith, a, b, c))

-- the share of a scope's body
body_scopes : (w : World) (q : Party) (d : ℕ) (o : Party) (n : Then) (fs : List Place) (e : Seen) → Lasting w (lowered_world w q (OfScope d o) Body n fs e) → DealtOn w (lowered_world w q (OfScope d o) Body n fs e) → w.stack q ≡ record { top = LowerCount (OfScope d o) Body n; below = fs }
    → ScopesHold w → SharesHold (lowered_world w q (OfScope d o) Body n fs e) → ScopesHold (lowered_world w q (OfScope d o) Body n fs e)
body_scopes w q d o n fs e l de z h s = record {
  shares = s;
  bodies = λ c. held c (c == d) refl;
  unopened = λ c b. unopened_still w v q k (λ r. refl) h c b (le c);
  whole = λ c b. whole c b (c == d) refl;
  blank = λ c b. same_undealt c ∙ h.blank c b;
  sums = λ c. sums c (c == d) refl;
  over = λ c b y. closed_last w v l c b (over c b (c == d) refl y);
  fresh = fresh_on w v (parts_last w v l de refl) same_undealt h;
  some = some_on w v (parts_last w v l de refl) same_undealt h;
}
  where
    v : World
    v = lowered_world w q (OfScope d o) Body n fs e

    k : Stack
    k = after_move (next_of (w.shape.pool (own_pool q)) q (LowerCount (OfScope d o) Body n) e) fs

    said : SaysThen w q n × SaysShare w (OfScope d o) Body n
    said = top_says w q (LowerCount (OfScope d o) Body n) fs ((h.shares).calls) z

    gone : Call
    gone = record (w.call d) { count = (w.call d).count - 1; counted = false }

    same_undealt : (c : ℕ) → (v.call c).undealt ≡ (w.call c).undealt
    same_undealt c = put_same (λ a. a.undealt) w.call d gone c refl

    paid_le : (c : ℕ) → all_bodies c k + one (c == d) ≤ all_bodies c (w.stack q)
    paid_le c = le_after w q (LowerCount (OfScope d o) Body n) fs (w.shape.pool (own_pool q)) e c z

    le : (c : ℕ) → all_bodies c k ≤ all_bodies c (w.stack q)
    le c = let a : all_bodies c k + one (c == d) ≤ all_bodies c (w.stack q) = paid_le c in omega (arith, a)

    had : (w.call d).counted ≡ true
    had = one_is ((w.call d).counted) (let a : all_bodies d k + one (d == d) ≤ all_bodies d (w.stack q) = paid_le d in let b : one (d == d) ≡ 1 = self_one d in let c : all_bodies d (w.stack q) + 0 ≤ one (w.call d).counted = (h.bodies d).alone q in omega (arith, a, b, c))

    held : (c : ℕ) (b : Bool) → (c == d) ≡ b → Tokens (λ r. all_bodies c (v.stack r)) 0 (one (if b then gone else w.call c).counted)
    held c true y = subst (λ c. Tokens (λ r. all_bodies c (v.stack r)) 0 0) (sym (eqb-true c d y))
        (tokens_pay (λ r. all_bodies d (w.stack r)) (λ r. all_bodies d (v.stack r)) 0 0 (one (w.call d).counted) q (one_most ((w.call d).counted)) (λ r f. other_le (all_bodies d) w q k r f)
        (let a : all_bodies d k + one (d == d) ≤ all_bodies d (w.stack q) = paid_le d in let b : one (d == d) ≡ 1 = self_one d in let f : all_bodies d (put_stack w.stack q k q) ≡ all_bodies d k = ap (all_bodies d) (stack_mine w.stack q k) in omega (arith, a, b, f)) (omega arith) (h.bodies d))
    held c false y = tokens_keep (λ r. all_bodies c (w.stack r)) (λ r. all_bodies c (v.stack r)) 0 0 (one (w.call c).counted) q (one_most ((w.call c).counted)) (λ r f. other_le (all_bodies c) w q k r f)
        (let a : all_bodies c k ≤ all_bodies c (w.stack q) = le c in let f : all_bodies c (put_stack w.stack q k q) ≡ all_bodies c k = ap (all_bodies c) (stack_mine w.stack q k) in omega (arith, a, f)) (h.bodies c)

    whole : (c : ℕ) → w.calls ≤ c → (b : Bool) → (c == d) ≡ b → (if b then gone else w.call c).counted ≡ true
    whole c b true y = absurd (let i : c ≡ d = eqb-true c d y in let a : d + 1 ≤ w.calls = (said.1).0 in omega (arith, i, a, b))
    whole c b false y = h.whole c b

    same : (t : ℕ) → (v.job t).counted ≡ (w.job t).counted
    same t = let a : (put w.job 0 (w.job 0) t).counted ≡ (w.job t).counted = put_same (λ j. j.counted) w.job 0 (w.job 0) t refl in
        after_shares w q (LowerCount (OfScope d o) Body n) fs (w.shape.pool (own_pool q)) e z (h.shares).unraised (lower_steady (w.shape.pool (own_pool q)) q (OfScope d o) Body n e) (put w.job 0 (w.job 0)) t (λ y. a ∙ y) ∙ a

    sums : (c : ℕ) (b : Bool) → (c == d) ≡ b → sum_below w.jobs (λ t. entry c (v.job t)) + (one (if b then gone else w.call c).counted + (if b then gone else w.call c).undealt) ≡ (if b then gone else w.call c).count
    sums c true y = let i : c ≡ d = eqb-true c d y in
        let a : sum_below w.jobs (λ t. entry c (w.job t)) + (one (w.call c).counted + (w.call c).undealt) ≡ (w.call c).count = h.sums c in
        let b : sum_below w.jobs (λ t. entry c (v.job t)) ≡ sum_below w.jobs (λ t. entry c (w.job t)) = sum_same w.jobs (λ t. entry c (v.job t)) (λ t. entry c (w.job t)) (λ t f. entry_same c (v.job t) (w.job t) (same t) (l.kinds t)) in
        let f : one (w.call c).counted ≡ 1 = ap (λ m. one (w.call m).counted) i ∙ ap one had in
        let u : (w.call d).undealt ≡ (w.call c).undealt = ap (λ m. (w.call m).undealt) (sym i) in
        let g : (w.call d).count ≡ (w.call c).count = ap (λ m. (w.call m).count) (sym i) in omega (arith, a, b, f, g, u)
    sums c false y = let a : sum_below w.jobs (λ t. entry c (w.job t)) + (one (w.call c).counted + (w.call c).undealt) ≡ (w.call c).count = h.sums c in
        let b : sum_below w.jobs (λ t. entry c (v.job t)) ≡ sum_below w.jobs (λ t. entry c (w.job t)) = sum_same w.jobs (λ t. entry c (v.job t)) (λ t. entry c (w.job t)) (λ t f. entry_same c (v.job t) (w.job t) (same t) (l.kinds t)) in omega (arith, a, b)

    over : (c : ℕ) → c + 1 ≤ w.calls → (b : Bool) → (c == d) ≡ b → (if b then gone else w.call c).counted ≡ false → Closed w c
    over c b true y f = subst (Closed w) (sym (eqb-true c d y)) (record { made = done_made w (h.shares) ((w.call d).job) ((said.1).1); closed = or_second (is_whole (w.job (w.call d).job).kind) (is_done (w.job (w.call d).job).at) ((said.1).1) })
    over c b false y f = h.over c b f

-- each act
plain_act : (w : World) (q : Party) (x : Place) (fs : List Place) → is_counting x ≡ false → IfSome (outcome w q (record { top = x; below = fs })) (Ready w q x fs) → ScopesHold w
    → IfSome (outcome w q (record { top = x; below = fs })) (λ r. SharesHold (world_after w q x fs r) → ScopesHold (world_after w q x fs r))
plain_act w q x fs y d h = if_some_map (λ r. Ready w q x fs r × (Uncalled (place_part w q x) r × (is_sharing (next_of (w.shape.pool (target_pool q (act_of q x))) q x (r.0)) ≡ false))) (λ r. SharesHold (world_after w q x fs r) → ScopesHold (world_after w q x fs r))
    (λ r f. plain_scopes w q x fs r (f.0) ((f.1).0) ((f.1).1) h) (outcome w q (record { top = x; below = fs }))
    (if_some_and (Ready w q x fs) (λ r. Uncalled (place_part w q x) r × (is_sharing (next_of (w.shape.pool (target_pool q (act_of q x))) q x (r.0)) ≡ false)) (outcome w q (record { top = x; below = fs })) d
    (if_some_and (Uncalled (place_part w q x)) (λ r. is_sharing (next_of (w.shape.pool (target_pool q (act_of q x))) q x (r.0)) ≡ false) (outcome w q (record { top = x; below = fs })) (act_uncalled w.shape q (counts_at w (target_pool q (act_of q x))) (place_part w q x) x y)
    (no_steady w.shape (w.shape.pool (target_pool q (act_of q x))) q (counts_at w (target_pool q (act_of q x))) (place_part w q x) x (tally_counting x y))))

raise_either : (w : World) (q : Party) (n : Plan) (fs : List Place) → ScopesHold w → (done : Seen × Part) → (Ready w q (RaiseCount n) fs done → SharesHold (world_after w q (RaiseCount n) fs done) → ScopesHold (world_after w q (RaiseCount n) fs done)) → (b : Bool)
    → IfSome (if b then Some (Refused, place_part w q (RaiseCount n)) else Some done) (Ready w q (RaiseCount n) fs)
    → IfSome (if b then Some (Refused, place_part w q (RaiseCount n)) else Some done) (λ r. SharesHold (world_after w q (RaiseCount n) fs r) → ScopesHold (world_after w q (RaiseCount n) fs r))
raise_either w q n fs h done f true d = plain_scopes w q (RaiseCount n) fs (Refused, place_part w q (RaiseCount n)) d (same_uncalled (place_part w q (RaiseCount n)) Refused) refl h
raise_either w q n fs h done f false d = f d

-- the pieces of a broadcast that finds its count ended had no share
refused_scopes : (w : World) (q : Party) (b : Pieces) (fs : List Place) → Ready w q (RaiseForAll b) fs (Refused, place_part w q (RaiseForAll b)) → (world_after w q (RaiseForAll b) fs (Refused, place_part w q (RaiseForAll b))).job ≡ mark_pieces b Returned (put w.job 0 (w.job 0)) → ScopesHold w
    → SharesHold (world_after w q (RaiseForAll b) fs (Refused, place_part w q (RaiseForAll b))) → ScopesHold (world_after w q (RaiseForAll b) fs (Refused, place_part w q (RaiseForAll b)))
refused_scopes w q b fs d jo h s = scopes_keep w v q (stack_after w q (RaiseForAll b) fs Refused) (λ i. refl) (omega arith)
    (λ c. put_same (λ a. a.counted) w.call (target_call (act_of q (RaiseForAll b))) (w.call (target_call (act_of q (RaiseForAll b)))) c refl)
    (λ c. put_same (λ a. a.count) w.call (target_call (act_of q (RaiseForAll b))) (w.call (target_call (act_of q (RaiseForAll b)))) c refl)
    (λ c. put_same (λ a. a.undealt) w.call (target_call (act_of q (RaiseForAll b))) (w.call (target_call (act_of q (RaiseForAll b)))) c refl)
    (λ c. sum_same w.jobs (λ t. entry c (v.job t)) (λ t. entry c (w.job t)) (λ t y. entry_same c (v.job t) (w.job t) (ap (λ J. (J t).counted) jo ∙ back_counted w q b fs d.hold d.stack t) ((d.last).kinds t)))
    (λ c. (let a : all_bodies c (stack_after w q (RaiseForAll b) fs Refused) + spent c (RaiseForAll b) ≤ all_bodies c (w.stack q) = le_after w q (RaiseForAll b) fs (w.shape.pool (target_pool q (act_of q (RaiseForAll b)))) Refused c (d.stack) in omega (arith, a)))
    (closed_last w v (d.last)) (parts_last w v (d.last) (d.dealt) refl) h s
  where
    v : World
    v = world_after w q (RaiseForAll b) fs (Refused, place_part w q (RaiseForAll b))

-- the pieces of a broadcast have shares of a count
raise_all_scopes : (w : World) (q : Party) (b : Pieces) (fs : List Place) → Lasting w (all_raised w q b fs) → DealtOn w (all_raised w q b fs) → w.stack q ≡ record { top = RaiseForAll b; below = fs } → ScopesHold w → SharesHold (all_raised w q b fs) → ScopesHold (all_raised w q b fs)
raise_all_scopes w q b fs l de z h s = record {
  shares = s;
  bodies = λ c. bodies_still w v q k (λ r. refl) h c (same_call c) (le c);
  unopened = λ c y. unopened_still w v q k (λ r. refl) h c y (le c);
  whole = λ c y. same_call c ∙ h.whole c y;
  blank = λ c y. same_undealt c ∙ h.blank c y;
  sums = λ c. sums c (inside c b.count) refl;
  over = λ c y e. closed_last w v l c y (h.over c y (sym (same_call c) ∙ e));
  fresh = fresh_on w v (parts_last w v l de refl) same_undealt h;
  some = some_on w v (parts_last w v l de refl) same_undealt h;
}
  where
    v : World
    v = all_raised w q b fs

    k : Stack
    k = after_move (next_of (w.shape.pool (count_pool q b.count)) q (RaiseForAll b) Done) fs

    said : SaysPieces w b
    said = (top_says w q (RaiseForAll b) fs ((h.shares).calls) z).0

    grown : Call
    grown = record (w.call (count_call b.count)) { count = call_more b.count b.workers (w.call (count_call b.count)).count }

    same_call : (c : ℕ) → (v.call c).counted ≡ (w.call c).counted
    same_call c = put_same (λ a. a.counted) w.call (count_call b.count) grown c refl

    same_undealt : (c : ℕ) → (v.call c).undealt ≡ (w.call c).undealt
    same_undealt c = put_same (λ a. a.undealt) w.call (count_call b.count) grown c refl

    le : (c : ℕ) → all_bodies c k ≤ all_bodies c (w.stack q)
    le c = let a : all_bodies c k + 0 ≤ all_bodies c (w.stack q) = le_after w q (RaiseForAll b) fs (w.shape.pool (count_pool q b.count)) Done c z in omega (arith, a)

    now : (t : ℕ) → is_piece b t ≡ true → (v.job t).counted ≡ true
    now t e = ap (λ j. j.counted) (piece_new b (marked Counted b.pool) (put w.job 0 (w.job 0)) t e)

    before : (t : ℕ) → is_piece b t ≡ true → (w.job t).counted ≡ false
    before t e = ungiven w (h.shares) q (RaiseForAll b) fs (w.shape.pool (count_pool q b.count)) Done z t (let a : one (is_piece b t) ≡ 1 = ap one e in omega (arith, a))

    same : (c t : ℕ) → is_piece b t ≡ false → entry c (v.job t) ≡ entry c (w.job t)
    same c t e = ap (entry c) (piece_old b (marked Counted b.pool) (put w.job 0 (w.job 0)) t e ∙ put_same (λ j. j) w.job 0 (w.job 0) t refl)

    new_entry : (c t : ℕ) → is_piece b t ≡ true → entry c (v.job t) ≡ one (inside c b.count)
    new_entry c t e = entry_on c (v.job t) (count_kind b.count) (now t e) (l.kinds t ∙ (said t e).kind)

    gains : (c : ℕ) → inside c b.count ≡ true → (t : ℕ) (d : Bool) → is_piece b t ≡ d → entry c (v.job t) ≡ entry c (w.job t) + one (is_piece b t)
    gains c y t true e = let a : entry c (v.job t) ≡ 1 = new_entry c t e ∙ ap one y in let f : entry c (w.job t) ≡ 0 = entry_off c (w.job t) (before t e) in let g : one (is_piece b t) ≡ 1 = ap one e in omega (arith, a, f, g)
    gains c y t false e = let a : entry c (v.job t) ≡ entry c (w.job t) = same c t e in let g : one (is_piece b t) ≡ 0 = ap one e in omega (arith, a, g)

    stays : (c : ℕ) → inside c b.count ≡ false → (t : ℕ) (d : Bool) → is_piece b t ≡ d → entry c (v.job t) ≡ entry c (w.job t)
    stays c y t true e = new_entry c t e ∙ ap one y ∙ sym (entry_off c (w.job t) (before t e))
    stays c y t false e = same c t e

    grows : (c : ℕ) → (v.call c).count ≡ (if inside c b.count then (w.call c).count + b.workers else (w.call c).count)
    grows c = more_at w.call b.count b.workers c

    sums : (c : ℕ) (d : Bool) → inside c b.count ≡ d → sum_below w.jobs (λ t. entry c (v.job t)) + (one (v.call c).counted + (v.call c).undealt) ≡ (v.call c).count
    sums c true y = let a : sum_below w.jobs (λ t. entry c (w.job t)) + (one (w.call c).counted + (w.call c).undealt) ≡ (w.call c).count = h.sums c in
        let e : sum_below w.jobs (λ t. entry c (v.job t)) ≡ sum_below w.jobs (λ t. entry c (w.job t)) + sum_below w.jobs (λ t. one (is_piece b t)) = sum_both w.jobs (λ t. entry c (w.job t)) (λ t. entry c (v.job t)) (λ t. one (is_piece b t)) (λ t x. gains c y t (is_piece b t) refl) in
        let f : sum_below w.jobs (λ t. one (is_piece b t)) ≡ b.workers = pieces_below w.jobs b (pieces_made w b said) in
        let g : (v.call c).count ≡ (w.call c).count + b.workers = grows c ∙ ap (λ d. if d then (w.call c).count + b.workers else (w.call c).count) y in
        let x : one (v.call c).counted ≡ one (w.call c).counted = ap one (same_call c) in let u : (v.call c).undealt ≡ (w.call c).undealt = same_undealt c in omega (arith, a, e, f, g, x, u)
    sums c false y = let a : sum_below w.jobs (λ t. entry c (w.job t)) + (one (w.call c).counted + (w.call c).undealt) ≡ (w.call c).count = h.sums c in
        let e : sum_below w.jobs (λ t. entry c (v.job t)) ≡ sum_below w.jobs (λ t. entry c (w.job t)) = sum_same w.jobs (λ t. entry c (v.job t)) (λ t. entry c (w.job t)) (λ t x. stays c y t (is_piece b t) refl) in
        let g : (v.call c).count ≡ (w.call c).count = grows c ∙ ap (λ d. if d then (w.call c).count + b.workers else (w.call c).count) y in
        let x : one (v.call c).counted ≡ one (w.call c).counted = ap one (same_call c) in let u : (v.call c).undealt ≡ (w.call c).undealt = same_undealt c in omega (arith, a, e, g, x, u)

-- and give them back
lower_all_scopes : (w : World) (q : Party) (b : Pieces) (fs : List Place) (i : Seen) → Lasting w (all_lowered w q b fs i) → DealtOn w (all_lowered w q b fs i) → w.stack q ≡ record { top = LowerForAll b; below = fs } → ScopesHold w → SharesHold (all_lowered w q b fs i)
    → ScopesHold (all_lowered w q b fs i)
lower_all_scopes w q b fs i l de z h s = record {
  shares = s;
  bodies = λ c. bodies_still w v q k (λ r. refl) h c (same_call c) (le c);
  unopened = λ c y. unopened_still w v q k (λ r. refl) h c y (le c);
  whole = λ c y. same_call c ∙ h.whole c y;
  blank = λ c y. same_undealt c ∙ h.blank c y;
  sums = λ c. sums c (inside c b.count) refl;
  over = λ c y e. closed_last w v l c y (h.over c y (sym (same_call c) ∙ e));
  fresh = fresh_on w v (parts_last w v l de refl) same_undealt h;
  some = some_on w v (parts_last w v l de refl) same_undealt h;
}
  where
    v : World
    v = all_lowered w q b fs i

    k : Stack
    k = after_move (next_of (w.shape.pool (count_pool q b.count)) q (LowerForAll b) i) fs

    said : SaysPieces w b
    said = (top_says w q (LowerForAll b) fs ((h.shares).calls) z).0

    shrunk : Call
    shrunk = record (w.call (count_call b.count)) { count = call_less b.count b.workers (w.call (count_call b.count)).count }

    same_call : (c : ℕ) → (v.call c).counted ≡ (w.call c).counted
    same_call c = put_same (λ a. a.counted) w.call (count_call b.count) shrunk c refl

    same_undealt : (c : ℕ) → (v.call c).undealt ≡ (w.call c).undealt
    same_undealt c = put_same (λ a. a.undealt) w.call (count_call b.count) shrunk c refl

    le : (c : ℕ) → all_bodies c k ≤ all_bodies c (w.stack q)
    le c = let a : all_bodies c k + 0 ≤ all_bodies c (w.stack q) = le_after w q (LowerForAll b) fs (w.shape.pool (count_pool q b.count)) i c z in omega (arith, a)

    become : (t : ℕ) → v.job t ≡ mark_pieces b Returned (put w.job 0 (w.job 0)) t
    become t = ap (λ g. g t) (returned_jobs (w.shape.pool (count_pool q b.count)) q b i (put w.job 0 (w.job 0)))

    now : (t : ℕ) → is_piece b t ≡ true → (v.job t).counted ≡ false
    now t e = ap (λ j. j.counted) (become t ∙ piece_new b (marked Returned b.pool) (put w.job 0 (w.job 0)) t e)

    had : (t : ℕ) → is_piece b t ≡ true → (w.job t).counted ≡ true
    had t y = one_is ((w.job t).counted) (let a : shares t (put_stack w.stack q k q) + (0 + one (is_piece b t)) ≡ shares t (w.stack q) + 0 = shares_mine w q (LowerForAll b) fs (w.shape.pool (count_pool q b.count)) i t z in let e : one (is_piece b t) ≡ 1 = ap one y in
        let d : shares t (w.stack q) + with_job (w.job t) ≤ one (w.job t).counted = ((h.shares).jobs t).alone q in omega (arith, a, e, d))

    same : (c t : ℕ) → is_piece b t ≡ false → entry c (v.job t) ≡ entry c (w.job t)
    same c t e = ap (entry c) (become t ∙ piece_old b (marked Returned b.pool) (put w.job 0 (w.job 0)) t e ∙ put_same (λ j. j) w.job 0 (w.job 0) t refl)

    old_entry : (c t : ℕ) → is_piece b t ≡ true → entry c (w.job t) ≡ one (inside c b.count)
    old_entry c t e = entry_on c (w.job t) (count_kind b.count) (had t e) ((said t e).kind)

    pays : (c : ℕ) → inside c b.count ≡ true → (t : ℕ) (d : Bool) → is_piece b t ≡ d → entry c (w.job t) ≡ entry c (v.job t) + one (is_piece b t)
    pays c y t true e = let a : entry c (w.job t) ≡ 1 = old_entry c t e ∙ ap one y in let f : entry c (v.job t) ≡ 0 = entry_off c (v.job t) (now t e) in let g : one (is_piece b t) ≡ 1 = ap one e in omega (arith, a, f, g)
    pays c y t false e = let a : entry c (v.job t) ≡ entry c (w.job t) = same c t e in let g : one (is_piece b t) ≡ 0 = ap one e in omega (arith, a, g)

    stays : (c : ℕ) → inside c b.count ≡ false → (t : ℕ) (d : Bool) → is_piece b t ≡ d → entry c (v.job t) ≡ entry c (w.job t)
    stays c y t true e = entry_off c (v.job t) (now t e) ∙ sym (old_entry c t e ∙ ap one y)
    stays c y t false e = same c t e

    falls : (c : ℕ) → (v.call c).count ≡ (if inside c b.count then (w.call c).count - b.workers else (w.call c).count)
    falls c = less_of w.call b.count b.workers c

    sums : (c : ℕ) (d : Bool) → inside c b.count ≡ d → sum_below w.jobs (λ t. entry c (v.job t)) + (one (v.call c).counted + (v.call c).undealt) ≡ (v.call c).count
    sums c true y = let a : sum_below w.jobs (λ t. entry c (w.job t)) + (one (w.call c).counted + (w.call c).undealt) ≡ (w.call c).count = h.sums c in
        let e : sum_below w.jobs (λ t. entry c (w.job t)) ≡ sum_below w.jobs (λ t. entry c (v.job t)) + sum_below w.jobs (λ t. one (is_piece b t)) = sum_both w.jobs (λ t. entry c (v.job t)) (λ t. entry c (w.job t)) (λ t. one (is_piece b t)) (λ t x. pays c y t (is_piece b t) refl) in
        let f : sum_below w.jobs (λ t. one (is_piece b t)) ≡ b.workers = pieces_below w.jobs b (pieces_made w b said) in
        let g : (v.call c).count ≡ (w.call c).count - b.workers = falls c ∙ ap (λ d. if d then (w.call c).count - b.workers else (w.call c).count) y in
        let x : one (v.call c).counted ≡ one (w.call c).counted = ap one (same_call c) in let u : (v.call c).undealt ≡ (w.call c).undealt = same_undealt c in omega (arith, a, e, f, g, x, u)
    sums c false y = let a : sum_below w.jobs (λ t. entry c (w.job t)) + (one (w.call c).counted + (w.call c).undealt) ≡ (w.call c).count = h.sums c in
        let e : sum_below w.jobs (λ t. entry c (v.job t)) ≡ sum_below w.jobs (λ t. entry c (w.job t)) = sum_same w.jobs (λ t. entry c (v.job t)) (λ t. entry c (w.job t)) (λ t x. stays c y t (is_piece b t) refl) in
        let g : (v.call c).count ≡ (w.call c).count = falls c ∙ ap (λ d. if d then (w.call c).count - b.workers else (w.call c).count) y in
        let x : one (v.call c).counted ≡ one (w.call c).counted = ap one (same_call c) in let u : (v.call c).undealt ≡ (w.call c).undealt = same_undealt c in omega (arith, a, e, g, x, u)

-- a broadcast that waits is dealt: as many shares as it has pieces waited for them
undealt_is : (w : World) (q : Party) (g : Gathering) (fs : List Place) → ScopesHold w → w.stack q ≡ record { top = DealPieces g; below = fs } → (w.call g.call.number).undealt ≡ g.pieces.workers
undealt_is w q g fs h z = by (g.pieces.workers) refl
  where
    claim : SaysGather w q g
    claim = top_says w q (DealPieces g) fs ((h.shares).calls) z

    none : g.pieces.workers ≡ 0 → (n : ℕ) → (w.call g.call.number).undealt ≡ n → (w.call g.call.number).undealt ≡ 0
    none e zero v = v
    none e (suc n) v = absurd (let x : SomePiece w g.call.number = h.some g.call.number (let a : 1 ≤ (w.call g.call.number).undealt = omega (arith, v) in a) in
        let p : PartOf w (x.job) g.call.number (x.owner) = ((h.shares).calls).parts (x.job) (x.made) g.call.number (x.owner) (x.kind) in
        let a : x.job + 1 ≤ (w.call g.call.number).job = p.below in
        let b : (w.call g.call.number).job ≤ x.job + (w.shape.pool (w.job (w.call g.call.number).job).pool).workers = p.above in
        let d : (w.job (w.call g.call.number).job).pool ≡ g.call.pool = ap (λ t. (w.job t).pool) ((claim.call).target) ∙ (claim.call).pool in
        let f : (w.shape.pool (w.job (w.call g.call.number).job).pool).workers ≡ (w.shape.pool g.call.pool).workers = ap (λ n. (w.shape.pool n).workers) d in
        let j : g.pieces.workers ≡ (w.shape.pool g.call.pool).workers = claim.size in omega (arith, a, b, f, j, e))

    by : (n : ℕ) → g.pieces.workers ≡ n → (w.call g.call.number).undealt ≡ n
    by zero e = none e ((w.call g.call.number).undealt) refl
    by (suc n) e =
        let i : is_piece g.pieces g.pieces.first ≡ true = piece_in (g.pieces) (g.pieces.first) (omega arith) (omega (arith, e)) in
        let p : PieceAs w g.pieces.count g.pieces.first g.pieces.pool (g.pieces.first - g.pieces.first) = claim.pieces (g.pieces.first) i in
        let at : (w.job g.pieces.first).at ≡ Made q = (((h.shares).calls).jobs).feeds q (g.pieces.first) (let a : all_fed g.pieces.first (w.stack q) ≡ (one (is_piece g.pieces g.pieces.first) + fed_in g.pieces.first fs) = ap (all_fed g.pieces.first) z in
        let b : one (is_piece g.pieces g.pieces.first) ≡ 1 = ap one i in omega (arith, a, b)) in
        h.fresh (g.pieces.first) (p.made) (g.call.number) q (p.kind ∙ ap count_kind (claim.count)) (ap is_dealt at) ∙ ap (λ n. (w.shape.pool n).workers) (p.pool ∙ claim.pool) ∙ sym (claim.size) ∙ e

deal_scopes : (w : World) (q : Party) (g : Gathering) (fs : List Place) (m : Part) → m.call.count ≡ (place_part w q (DealPieces g)).call.count → m.call.counted ≡ (place_part w q (DealPieces g)).call.counted
    → m.call.undealt ≡ undealt_after g.pieces.count (place_part w q (DealPieces g)).call.undealt → m.job ≡ (place_part w q (DealPieces g)).job → target_call (act_of q (DealPieces g)) ≡ count_call g.pieces.count → Ready w q (DealPieces g) fs (Done, m) → ScopesHold w
    → SharesHold (world_after w q (DealPieces g) fs (Done, m)) → ScopesHold (world_after w q (DealPieces g) fs (Done, m))
deal_scopes w q g fs m cn co un jo nc d h s = record {
  shares = s;
  bodies = λ c. bodies_still w v q k (λ r. refl) h c (same_call c) (le c);
  unopened = λ c y. unopened_still w v q k (λ r. refl) h c y (le c);
  whole = λ c y. same_call c ∙ h.whole c y;
  blank = λ c y. blank c y (c == c0) refl;
  sums = λ c. sums c (c == c0) refl;
  over = λ c y e. closed_last w v (d.last) c y (h.over c y (sym (same_call c) ∙ e));
  fresh = λ t b c o e l. fresh t b c o (is_piece b0 t) refl (c == c0) refl e l;
  some = λ c n. some c (c == c0) refl n;
}
  where
    b0 : Pieces
    b0 = g.pieces

    c0 : ℕ
    c0 = target_call (act_of q (DealPieces g))

    v : World
    v = world_after w q (DealPieces g) fs (Done, m)

    z : w.stack q ≡ record { top = DealPieces g; below = fs }
    z = d.stack

    k : Stack
    k = after_move (next_of (w.shape.pool (target_pool q (act_of q (DealPieces g)))) q (DealPieces g) Done) fs

    claim : SaysGather w q g
    claim = top_says w q (DealPieces g) fs ((h.shares).calls) z

    number : c0 ≡ g.call.number
    number = nc ∙ ap count_call (claim.count)

    same_call : (c : ℕ) → (v.call c).counted ≡ (w.call c).counted
    same_call c = put_same (λ a. a.counted) w.call c0 m.call c co

    same_count : (c : ℕ) → (v.call c).count ≡ (w.call c).count
    same_count c = put_same (λ a. a.count) w.call c0 m.call c cn

    other : (c : ℕ) → (c == c0) ≡ false → (v.call c).undealt ≡ (w.call c).undealt
    other c e = ap (λ a. a.undealt) (put_old w.call c0 m.call c e)

    mine : (v.call c0).undealt ≡ 0
    mine = ap (λ a. a.undealt) (put_new w.call c0 m.call) ∙ un ∙ ap (λ x. undealt_after x (place_part w q (DealPieces g)).call.undealt) (claim.count)

    was : (w.call c0).undealt ≡ b0.workers
    was = ap (λ c. (w.call c).undealt) number ∙ undealt_is w q g fs h z

    le : (c : ℕ) → all_bodies c k ≤ all_bodies c (w.stack q)
    le c = let a : all_bodies c k + 0 ≤ all_bodies c (w.stack q) = le_after w q (DealPieces g) fs (w.shape.pool (target_pool q (act_of q (DealPieces g)))) Done c z in omega (arith, a)

    J : ℕ → Job
    J = put w.job (job_at w q (act_of q (DealPieces g))) m.job

    now : (t : ℕ) → is_piece b0 t ≡ true → v.job t ≡ marked Dealt b0.pool (t - b0.first) (J t)
    now t e = piece_new b0 (marked Dealt b0.pool) J t e

    same : (t : ℕ) → is_piece b0 t ≡ false → v.job t ≡ w.job t
    same t e = piece_old b0 (marked Dealt b0.pool) J t e ∙ put_same (λ j. j) w.job (job_at w q (act_of q (DealPieces g))) m.job t jo

    before : (t : ℕ) → is_piece b0 t ≡ true → (w.job t).counted ≡ false
    before t e = ungiven w (h.shares) q (DealPieces g) fs (w.shape.pool (target_pool q (act_of q (DealPieces g)))) Done z t (let a : one (is_piece b0 t) ≡ 1 = ap one e in omega (arith, a))

    kind : (t : ℕ) → is_piece b0 t ≡ true → (w.job t).kind ≡ PieceOf g.call.number q
    kind t e = (claim.pieces t e).kind ∙ ap count_kind (claim.count)

    new_entry : (c t : ℕ) → is_piece b0 t ≡ true → entry c (v.job t) ≡ one (c == g.call.number)
    new_entry c t e = entry_on c (v.job t) (PieceOf g.call.number q) (ap (λ j. j.counted) (now t e)) ((d.last).kinds t ∙ kind t e)

    gains : (c : ℕ) → (c == g.call.number) ≡ true → (t : ℕ) (x : Bool) → is_piece b0 t ≡ x → entry c (v.job t) ≡ entry c (w.job t) + one (is_piece b0 t)
    gains c y t true e = let a : entry c (v.job t) ≡ 1 = new_entry c t e ∙ ap one y in let f : entry c (w.job t) ≡ 0 = entry_off c (w.job t) (before t e) in let n : one (is_piece b0 t) ≡ 1 = ap one e in omega (arith, a, f, n)
    gains c y t false e = let a : entry c (v.job t) ≡ entry c (w.job t) = ap (entry c) (same t e) in let n : one (is_piece b0 t) ≡ 0 = ap one e in omega (arith, a, n)

    stays : (c : ℕ) → (c == g.call.number) ≡ false → (t : ℕ) (x : Bool) → is_piece b0 t ≡ x → entry c (v.job t) ≡ entry c (w.job t)
    stays c y t true e = new_entry c t e ∙ ap one y ∙ sym (entry_off c (w.job t) (before t e))
    stays c y t false e = ap (entry c) (same t e)

    at : (c : ℕ) (b : Bool) → (c == c0) ≡ b → (c == g.call.number) ≡ b
    at c b e = ap (λ n. c == n) (sym number) ∙ e

    sums : (c : ℕ) (b : Bool) → (c == c0) ≡ b → sum_below w.jobs (λ t. entry c (v.job t)) + (one (v.call c).counted + (v.call c).undealt) ≡ (v.call c).count
    sums c true y = let i : c ≡ c0 = eqb-true c c0 y in
        let a : sum_below w.jobs (λ t. entry c (w.job t)) + (one (w.call c).counted + (w.call c).undealt) ≡ (w.call c).count = h.sums c in
        let e : sum_below w.jobs (λ t. entry c (v.job t)) ≡ sum_below w.jobs (λ t. entry c (w.job t)) + sum_below w.jobs (λ t. one (is_piece b0 t)) = sum_both w.jobs (λ t. entry c (w.job t)) (λ t. entry c (v.job t)) (λ t. one (is_piece b0 t)) (λ t x. gains c (at c true y) t (is_piece b0 t) refl) in
        let f : sum_below w.jobs (λ t. one (is_piece b0 t)) ≡ b0.workers = pieces_below w.jobs b0 (pieces_made w b0 (claim.pieces)) in
        let n : (v.call c).undealt ≡ 0 = ap (λ x. (v.call x).undealt) i ∙ mine in
        let u : (w.call c).undealt ≡ b0.workers = ap (λ x. (w.call x).undealt) i ∙ was in
        let x : one (v.call c).counted ≡ one (w.call c).counted = ap one (same_call c) in let r : (v.call c).count ≡ (w.call c).count = same_count c in omega (arith, a, e, f, n, u, x, r)
    sums c false y = let a : sum_below w.jobs (λ t. entry c (w.job t)) + (one (w.call c).counted + (w.call c).undealt) ≡ (w.call c).count = h.sums c in
        let e : sum_below w.jobs (λ t. entry c (v.job t)) ≡ sum_below w.jobs (λ t. entry c (w.job t)) = sum_same w.jobs (λ t. entry c (v.job t)) (λ t. entry c (w.job t)) (λ t x. stays c (at c false y) t (is_piece b0 t) refl) in
        let n : (v.call c).undealt ≡ (w.call c).undealt = other c y in
        let x : one (v.call c).counted ≡ one (w.call c).counted = ap one (same_call c) in let r : (v.call c).count ≡ (w.call c).count = same_count c in omega (arith, a, e, n, x, r)

    blank : (c : ℕ) → w.calls ≤ c → (b : Bool) → (c == c0) ≡ b → (v.call c).undealt ≡ 0
    blank c y true e = ap (λ x. (v.call x).undealt) (eqb-true c c0 e) ∙ mine
    blank c y false e = other c e ∙ h.blank c y

    some : (c : ℕ) (b : Bool) → (c == c0) ≡ b → 1 ≤ (v.call c).undealt → SomePiece v c
    some c true e n = absurd (let a : (v.call c).undealt ≡ 0 = ap (λ x. (v.call x).undealt) (eqb-true c c0 e) ∙ mine in omega (arith, a, n))
    some c false e n = let x : SomePiece w c = h.some c (let a : (v.call c).undealt ≡ (w.call c).undealt = other c e in omega (arith, a, n)) in record { job = x.job; owner = x.owner; made = x.made; kind = (d.last).kinds (x.job) ∙ x.kind }

    fresh : (t : ℕ) → t + 1 ≤ w.jobs → (c : ℕ) (o : Party) (x : Bool) → is_piece b0 t ≡ x → (y : Bool) → (c == c0) ≡ y → (v.job t).kind ≡ PieceOf c o → is_dealt (v.job t).at ≡ false → (v.call c).undealt ≡ (w.shape.pool (v.job t).pool).workers
    fresh t b c o true i y f e l = absurd (let a : is_dealt (v.job t).at ≡ true = ap (λ j. is_dealt j.at) (now t i) in let n : true ≡ false = sym a ∙ l in cc)
    fresh t b c o false i true f e l = absurd (
        let n : c ≡ g.call.number = eqb-true c c0 f ∙ number in
        let r : (w.job t).kind ≡ PieceOf g.call.number o = sym ((d.last).kinds t) ∙ e ∙ ap (λ x. PieceOf x o) n in
        let p : PartOf w t g.call.number o = ((h.shares).calls).parts t b g.call.number o r in
        let x : t + 1 ≤ (w.call g.call.number).job = p.below in
        let y : (w.call g.call.number).job ≤ t + (w.shape.pool (w.job (w.call g.call.number).job).pool).workers = p.above in
        let j : (w.call g.call.number).job ≡ g.call.job = (claim.call).target in
        let pool : (w.job (w.call g.call.number).job).pool ≡ g.call.pool = ap (λ t. (w.job t).pool) j ∙ (claim.call).pool in
        let size : (w.shape.pool (w.job (w.call g.call.number).job).pool).workers ≡ b0.workers = ap (λ n. (w.shape.pool n).workers) pool ∙ sym (claim.size) in
        let last : b0.first + b0.workers ≡ g.call.job = claim.last in
        let there : is_piece b0 t ≡ true = piece_in b0 t (omega (arith, x, y, j, size, last)) (omega (arith, x, j, last)) in
        let bad : true ≡ false = sym there ∙ i in cc)
    fresh t b c o false i false f e l = other c f ∙ h.fresh t b c o (ap (λ j. j.kind) (sym (same t i)) ∙ e) (ap (λ j. is_dealt j.at) (sym (same t i)) ∙ l) ∙ ap (λ j. (w.shape.pool j.pool).workers) (sym (same t i))

-- the pieces of a broadcast that does not wait have their shares before they are dealt
known_undealt : (w : World) (k : Count) (p n : ℕ) → KnownCount w k p → undealt_after k n ≡ n
known_undealt w (OfPool r) p n s = refl
known_undealt w (OfScope c o) p n s = refl
known_undealt w (OfCast c o) p n s = absurd s

all_either : (w : World) (q : Party) (b : Pieces) (fs : List Place) → (Ready w q (RaiseForAll b) fs (Refused, place_part w q (RaiseForAll b)) → SharesHold (world_after w q (RaiseForAll b) fs (Refused, place_part w q (RaiseForAll b)))
    → ScopesHold (world_after w q (RaiseForAll b) fs (Refused, place_part w q (RaiseForAll b)))) → (done : Seen × Part) → (Ready w q (RaiseForAll b) fs done → SharesHold (world_after w q (RaiseForAll b) fs done) → ScopesHold (world_after w q (RaiseForAll b) fs done)) → (z : Bool)
    → IfSome (if z then Some (Refused, place_part w q (RaiseForAll b)) else Some done) (Ready w q (RaiseForAll b) fs)
    → IfSome (if z then Some (Refused, place_part w q (RaiseForAll b)) else Some done) (λ r. SharesHold (world_after w q (RaiseForAll b) fs r) → ScopesHold (world_after w q (RaiseForAll b) fs r))
all_either w q b fs none done f true d = none d
all_either w q b fs none done f false d = f d

pub go_by : (w : World) (q : Party) (x : Place) (fs : List Place) → w.stack q ≡ record { top = x; below = fs } → ScopesHold w → IfSome (outcome w q (record { top = x; below = fs })) (Ready w q x fs)
    → IfSome (outcome w q (record { top = x; below = fs })) (λ r. SharesHold (world_after w q x fs r) → ScopesHold (world_after w q x fs r))
go_by w (Worker a b) (RaiseCount n) fs z h d = raise_either w (Worker a b) n fs h _ (λ y s. raise_scopes w (Worker a b) n fs (y.last) (y.dealt) z h s) (count_in (place_part w (Worker a b) (RaiseCount n)) (plan_count n) == 0) d
go_by w (Worker a b) (LowerCount i (OfJob u) n) fs z h d = λ s. lower_scopes w (Worker a b) i u n fs (if count_in (place_part w (Worker a b) (LowerCount i (OfJob u) n)) i == 1 then Yes else No) (d.last) (d.dealt) z h s
go_by w (Worker a b) (LowerCount (OfPool r) PoolValue n) fs z h d = plain_scopes w (Worker a b) (LowerCount (OfPool r) PoolValue n) fs _ d (record { job = refl; count = refl; counted = refl; undealt = refl }) (lower_steady (w.shape.pool r) (Worker a b) (OfPool r) PoolValue n _) h
go_by w (Worker a b) (LowerCount (OfPool r) Body n) fs z h d = absurd (let s : SaysThen w (Worker a b) n × SaysShare w (OfPool r) Body n = top_says w (Worker a b) (LowerCount (OfPool r) Body n) fs ((h.shares).calls) z in s.1)
go_by w (Worker a b) (LowerCount (OfScope x o) PoolValue n) fs z h d = absurd (let s : SaysThen w (Worker a b) n × SaysShare w (OfScope x o) PoolValue n = top_says w (Worker a b) (LowerCount (OfScope x o) PoolValue n) fs ((h.shares).calls) z in s.1)
go_by w (Worker a b) (LowerCount (OfCast x o) PoolValue n) fs z h d = absurd (let s : SaysThen w (Worker a b) n × SaysShare w (OfCast x o) PoolValue n = top_says w (Worker a b) (LowerCount (OfCast x o) PoolValue n) fs ((h.shares).calls) z in s.1)
go_by w (Worker a b) (LowerCount (OfCast x o) Body n) fs z h d = absurd (let s : SaysThen w (Worker a b) n × SaysShare w (OfCast x o) Body n = top_says w (Worker a b) (LowerCount (OfCast x o) Body n) fs ((h.shares).calls) z in s.1)
go_by w (Worker a b) (LowerCount (OfScope x o) Body n) fs z h d = λ s. body_scopes w (Worker a b) x o n fs (if count_in (place_part w (Worker a b) (LowerCount (OfScope x o) Body n)) (OfScope x o) == 1 then Yes else No) (d.last) (d.dealt) z h s
go_by w (Caller m) (RaiseCount n) fs z h d = raise_either w (Caller m) n fs h _ (λ y s. raise_scopes w (Caller m) n fs (y.last) (y.dealt) z h s) (count_in (place_part w (Caller m) (RaiseCount n)) (plan_count n) == 0) d
go_by w (Caller m) (LowerCount i (OfJob u) n) fs z h d = λ s. lower_scopes w (Caller m) i u n fs (if count_in (place_part w (Caller m) (LowerCount i (OfJob u) n)) i == 1 then Yes else No) (d.last) (d.dealt) z h s
go_by w (Caller m) (LowerCount (OfPool r) PoolValue n) fs z h d = plain_scopes w (Caller m) (LowerCount (OfPool r) PoolValue n) fs _ d (record { job = refl; count = refl; counted = refl; undealt = refl }) (lower_steady (w.shape.pool r) (Caller m) (OfPool r) PoolValue n _) h
go_by w (Caller m) (LowerCount (OfPool r) Body n) fs z h d = absurd (let s : SaysThen w (Caller m) n × SaysShare w (OfPool r) Body n = top_says w (Caller m) (LowerCount (OfPool r) Body n) fs ((h.shares).calls) z in s.1)
go_by w (Caller m) (LowerCount (OfScope x o) PoolValue n) fs z h d = absurd (let s : SaysThen w (Caller m) n × SaysShare w (OfScope x o) PoolValue n = top_says w (Caller m) (LowerCount (OfScope x o) PoolValue n) fs ((h.shares).calls) z in s.1)
go_by w (Caller m) (LowerCount (OfCast x o) PoolValue n) fs z h d = absurd (let s : SaysThen w (Caller m) n × SaysShare w (OfCast x o) PoolValue n = top_says w (Caller m) (LowerCount (OfCast x o) PoolValue n) fs ((h.shares).calls) z in s.1)
go_by w (Caller m) (LowerCount (OfCast x o) Body n) fs z h d = absurd (let s : SaysThen w (Caller m) n × SaysShare w (OfCast x o) Body n = top_says w (Caller m) (LowerCount (OfCast x o) Body n) fs ((h.shares).calls) z in s.1)
go_by w (Caller m) (LowerCount (OfScope x o) Body n) fs z h d = λ s. body_scopes w (Caller m) x o n fs (if count_in (place_part w (Caller m) (LowerCount (OfScope x o) Body n)) (OfScope x o) == 1 then Yes else No) (d.last) (d.dealt) z h s
go_by w (Worker i j) (RaiseForAll b) fs z h d = all_either w (Worker i j) b fs (λ y. refused_scopes w (Worker i j) b fs y refl h) _ (λ y. raise_all_scopes w (Worker i j) b fs (y.last) (y.dealt) z h) (count_in (place_part w (Worker i j) (RaiseForAll b)) b.count == 0) d
go_by w (Caller m) (RaiseForAll b) fs z h d = all_either w (Caller m) b fs (λ y. refused_scopes w (Caller m) b fs y refl h) _ (λ y. raise_all_scopes w (Caller m) b fs (y.last) (y.dealt) z h) (count_in (place_part w (Caller m) (RaiseForAll b)) b.count == 0) d
go_by w (Worker i j) (LowerForAll b) fs z h d = lower_all_scopes w (Worker i j) b fs (if count_in (place_part w (Worker i j) (LowerForAll b)) b.count == b.workers then Yes else No) (d.last) (d.dealt) z h
go_by w (Caller m) (LowerForAll b) fs z h d = lower_all_scopes w (Caller m) b fs (if count_in (place_part w (Caller m) (LowerForAll b)) b.count == b.workers then Yes else No) (d.last) (d.dealt) z h
go_by w (Worker i j) (PushForAll b) fs z h d = plain_scopes w (Worker i j) (PushForAll b) fs _ d (record { job = refl; count = refl; counted = refl; undealt = known_undealt w b.count b.pool _ ((top_says w (Worker i j) (PushForAll b) fs ((h.shares).calls) z).1) }) refl h
go_by w (Caller m) (PushForAll b) fs z h d = plain_scopes w (Caller m) (PushForAll b) fs _ d (record { job = refl; count = refl; counted = refl; undealt = known_undealt w b.count b.pool _ ((top_says w (Caller m) (PushForAll b) fs ((h.shares).calls) z).1) }) refl h
go_by w (Worker i j) (DealPieces g) fs z h d = deal_scopes w (Worker i j) g fs _ refl refl refl refl refl d h
go_by w (Caller m) (DealPieces g) fs z h d = deal_scopes w (Caller m) g fs _ refl refl refl refl refl d h
go_by w q x fs z h d = plain_act w q x fs refl d h
