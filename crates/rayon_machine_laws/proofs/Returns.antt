-- a refused call's share is given back: in every world its jobs are not in the count, from the act after its Lower on
use Rattle.rayon_machine_places.specs.declared.place.Mark.TheVariants.{Counted, Returned, Dealt}
use Rattle.rayon_machine_places.specs.declared.place.Move.TheVariants.{Mark}
use Rattle.rayon_machine_places.specs.declared.place.Move.{Move}
use Rattle.rayon_machine_places.specs.declared.place.Pieces.{Pieces}
use Rattle.rayon_machine_places.specs.declared.place.Gathering.{Gathering}
use Rattle.rayon_machine_laws.proofs.Lists.{is_settled, Onward, act_on}
use Rattle.rayon_machine_laws.proofs.Claims.{SaysThen, SaysShare, SaysPlan}
use Rattle.rayon_machine_runs.specs.declared.state.Scope.{Scope}
use Rattle.rayon_machine_places.specs.declared.place.Count.TheVariants.{OfPool, OfScope, OfCast}
use Rattle.rayon_machine_places.specs.declared.place.Count.{Count}
use Rattle.std.proofs.Common.{arith, refl, sym, ◌∙◌, ap, subst, inl, inr}
use Rattle.std.specs.Prelude.{ℕ, Bool, true, false, ◌&&◌, ◌+◌, ◌==◌, ◌≤◌, ◌<◌, nat_lt, if◌then◌else◌, Some, None, List, ◌≡◌, IfSome, ◌-◌, ◌++◌, [], ◌∷◌}
use Rattle.std.proofs.lemmas.Bool.{eqb-true, ltb-true, ltb-false}
use Rattle.std.proofs.Math.Dec.{ltb}
use Rattle.rayon_machine_places.specs.declared.place.Party.{Party}
use Rattle.rayon_machine_places.specs.declared.place.Party.TheVariants.{Worker, Caller}
use Rattle.rayon_machine_places.specs.declared.place.Ending.{Ending}
use Rattle.rayon_machine_places.specs.declared.place.JobKind.{JobKind}
use Rattle.rayon_machine_places.specs.declared.place.JobKind.TheVariants.{Detached, Stored, Direct, TokenOf, Scoped, BodyOf}
use Rattle.rayon_machine_places.specs.declared.place.Plan.{Plan}
use Rattle.rayon_machine_places.specs.declared.place.Plan.TheVariants.{Detach, Here, Send, Fork, Feed, Open, Enter, Gather}
use Rattle.rayon_machine_places.specs.declared.place.Share.TheVariants.{PoolValue, OfJob, Body}
use Rattle.rayon_machine_places.specs.declared.place.Then.{Then}
use Rattle.rayon_machine_places.specs.declared.place.Then.TheVariants.{Resume, GiveBack}
use Rattle.rayon_machine_places.specs.declared.place.Place.{Place}
use Rattle.rayon_machine_places.specs.declared.place.Place.TheVariants.{PickVictim, StealFrom, YieldPop, YieldPick, YieldSteal, LocalPop, Run, RaiseCount, GrowCall, PushJob, LowerCount, SetLatch, LockToSettle, WakeSettled, UnlockSettled, AddToFifo, PushToken, RaiseForAll, PushForAll, LowerForAll, GrowScope, OpenSlot, SetLockLatch, OpenForAll, GrowCast, DealPieces}
use Rattle.rayon_machine_places.specs.declared.act.Seen.{Seen}
use Rattle.rayon_machine_places.specs.declared.act.Seen.TheVariants.{Done, Refused, Yes, No, Missing, Start}
use Rattle.rayon_machine_runs.specs.declared.event.Event.{Event}
use Rattle.rayon_machine_runs.specs.declared.event.Event.TheVariants.{Go, From, Refuse, Miss, End, Spawn, Fifo, Install, Join, Yield, YieldLocal, EndPool, Cast, Scope as OpenScope, IntoSpawn, IntoFifo, IntoCast, Broadcast}
use Rattle.rayon_machine_runs.specs.declared.state.Whereabouts.{Whereabouts}
use Rattle.rayon_machine_runs.specs.declared.state.Whereabouts.TheVariants.{Over, HandedBack, Spent}
use Rattle.rayon_machine_runs.specs.declared.state.Job.{Job}
use Rattle.rayon_machine_runs.specs.declared.state.Call.{Call}
use Rattle.rayon_machine_places.specs.declared.shape.PoolShape.{PoolShape}
use Rattle.rayon_machine_places.specs.Places.{same_party, own_pool, is_member, plan_job, after_raise, act_of, next_of, is_free, plan_count, count_kind, count_book, begin_cast}
use Rattle.rayon_machine_runs.specs.World.{Shape, Stack, World, counts_at, Part, at_job, effect, count_in}
use Rattle.rayon_machine_places.specs.Sleepers.{Counts}
use Rattle.rayon_machine_places.specs.Targets.{target_pool, target_worker, target_call, count_pool}
use Rattle.rayon_machine_runs.specs.Steps.{put, put_stack, after_move, jobs_after, after_choice, after_refusal, can_miss, after_miss, after_close, after_end, after_call, is_pool, new_job, new_call, after_spawn, after_send, after_install, after_join, after_yield, after_end_pool, step, after_feed, after_cast, put_pieces, new_piece, is_piece, mark_pieces, marked, after_scope, after_into, holds, after_enter, after_deal, after_into_cast, after_broadcast, new_whole, new_gathering}
use Rattle.rayon_machine_runs.specs.Runs.{start, IsRun}
use Rattle.rayon_machine_laws.specs.Once.{one}
use Rattle.rayon_machine_laws.specs.End.{AllJobs, after_settling, IsReturned}
use Rattle.rayon_machine_laws.proofs.Frame.{either, same_party_true, if_some_and, if_some_map, if_cond, acted_keeps, put_same, put_new, put_old, stack_mine, stack_other, after_counted, fifo_cases, is_sharing, piece_new, piece_old, into_cases, piece_range, piece_out, into_fifo_cases, into_cast_cases, no_bare}
use Rattle.rayon_machine_laws.proofs.Ties.{job_at, outcome}
use Rattle.rayon_machine_laws.proofs.Events.{run_keeps}
use Rattle.rayon_machine_laws.proofs.Hands.{hand_plan, held, is_gather}
use Rattle.rayon_machine_laws.proofs.Located.{loc_of, loc_at, is_loc, where_is, Hand}
use Rattle.rayon_machine_laws.proofs.ClaimRuns.{world_after, place_part, top_says}
use Rattle.rayon_machine_laws.proofs.ClaimEvents.{ended_world}
use Rattle.rayon_machine_laws.proofs.ClaimMakes.{calling, below_new}
use Rattle.rayon_machine_laws.proofs.Amounts.{paid}
use Rattle.rayon_machine_laws.proofs.ShareActs.{SharesHold, is_tally, Untallied, same_untallied, act_untallied}
use Rattle.rayon_machine_laws.proofs.ShareSteps.{self_one, raised_world, no_steady, lower_steady, raise_steady, all_raised, counted_now, raise_plain}
use Rattle.rayon_machine_laws.proofs.ShareLowers.{lowered_world, all_lowered, returned_jobs}
use Rattle.rayon_machine_laws.proofs.ShareEnds.{step_shares, first_shares}
use Rattle.rayon_machine_laws.proofs.ShareRuns.{after_shares}
use Rattle.rayon_machine_laws.proofs.Bares.{bare_then, bare, bare_in, all_bare, bare_move, backs, bare_held, bare_raised, bares, land_only, land_bare, closed_bare, handed, raised_hand, raised_own, bare_begins}

-- a job with a share is not handed back, and no party has it in hand without one
pub record ReturnsHold (w : World) : Type 0 where
  pub shares : SharesHold w
  pub bare : (q : Party) (t : ℕ) → (w.job t).counted ≡ true → all_bare t (w.stack q) + backs (w.job t).at ≤ 0

-- one party has moved, and of each job with a share neither it nor another has more than before
returns_by : (w u : World) (q : Party) (k : Stack) → ((r : Party) → u.stack r ≡ put_stack w.stack q k r) → ((t : ℕ) → (u.job t).counted ≡ true → (all_bare t k + backs (u.job t).at ≤ 0) × ((r : Party) → same_party r q ≡ false → all_bare t (w.stack r) ≤ 0)) → SharesHold u → ReturnsHold u
returns_by w u q k st f s = record { shares = s; bare = λ r t c. by r t c (same_party r q) refl }
  where
    by : (r : Party) (t : ℕ) → (u.job t).counted ≡ true → (b : Bool) → same_party r q ≡ b → all_bare t (u.stack r) + backs (u.job t).at ≤ 0
    by r t c true e = let a : all_bare t (u.stack r) ≡ all_bare t k = ap (all_bare t) (st r ∙ ap (put_stack w.stack q k) (same_party_true r q e) ∙ stack_mine w.stack q k) in let b : all_bare t k + backs (u.job t).at ≤ 0 = (f t c).0 in omega (arith, a, b)
    by r t c false e = let a : all_bare t (u.stack r) ≡ all_bare t (w.stack r) = ap (all_bare t) (st r ∙ stack_other w.stack q k r e) in let b : all_bare t k + backs (u.job t).at ≤ 0 = (f t c).0 in let d : all_bare t (w.stack r) ≤ 0 = (f t c).1 r e in omega (arith, a, b, d)

returns_keep : (w u : World) (q : Party) (k : Stack) → ((r : Party) → u.stack r ≡ put_stack w.stack q k r) → ((t : ℕ) → (u.job t).counted ≡ true → ((w.job t).counted ≡ true) × (all_bare t k + backs (u.job t).at ≤ all_bare t (w.stack q) + backs (w.job t).at)) → ReturnsHold w → SharesHold u → ReturnsHold u
returns_keep w u q k st f h s = returns_by w u q k st (λ t c. (
  (let a : all_bare t (w.stack q) + backs (w.job t).at ≤ 0 = h.bare q t ((f t c).0) in let b : all_bare t k + backs (u.job t).at ≤ all_bare t (w.stack q) + backs (w.job t).at = (f t c).1 in omega (arith, a, b)),
  λ r e. (let a : all_bare t (w.stack r) + backs (w.job t).at ≤ 0 = h.bare r t ((f t c).0) in omega (arith, a)),
)) s

-- no act itself hands a job back
abbrev pub Unbacked : Part → Seen × Part → Type 0
Unbacked m r = backs r.1.job.at ≤ backs m.job.at

unsettled_unbacked : (v : Whereabouts) → is_settled v ≡ false → backs v ≡ 0
unsettled_unbacked HandedBack e = cc
unsettled_unbacked _ e = refl

pub act_unbacked : (h : Shape) (q : Party) (c : Counts) (m : Part) (x : Place) → is_tally x ≡ false → IfSome (effect (act_of q x) h q c m) (Unbacked m)
act_unbacked h q c m x z = if_some_map (Onward m) (Unbacked m) (λ r o. elim o [
  | inl e ↦ (let s : backs r.1.job.at ≡ backs m.job.at = ap backs e in omega (arith, s))
  | inr e ↦ (let n : backs r.1.job.at ≡ 0 = unsettled_unbacked r.1.job.at e in omega (arith, n))
]) (effect (act_of q x) h q c m) (act_on h q c m x)

pub put_backs : (J : ℕ → Job) (n : ℕ) (j : Job) (t : ℕ) → backs j.at ≤ backs (J n).at → backs (put J n j t).at ≤ backs (J t).at
put_backs J n j t a = by (t == n) refl
  where
    by : (b : Bool) → (t == n) ≡ b → backs (if b then j else J t).at ≤ backs (J t).at
    by true e = subst (λ i. backs j.at ≤ backs (J i).at) (sym (eqb-true t n e)) a
    by false e = omega arith

-- what a party has after an act, and what its move hands back
line : (w : World) (q : Party) (x : Place) (fs : List Place) (r : Seen × Part) (t : ℕ) → w.stack q ≡ record { top = x; below = fs } → Unbacked (place_part w q x) r → (all_bare t (after_move (next_of (w.shape.pool (target_pool q (act_of q x))) q x (r.0)) fs) + backs ((world_after w q x fs r).job t).at ≤ bare_move t (next_of (w.shape.pool (target_pool q (act_of q x))) q x (r.0)) + handed t (next_of (w.shape.pool (target_pool q (act_of q x))) q x (r.0)) + bare_in t fs + backs (w.job t).at) × (all_bare t (after_move (next_of (w.shape.pool (target_pool q (act_of q x))) q x (r.0)) fs) + backs ((world_after w q x fs r).job t).at ≤ all_bare t (w.stack q) + paid t x + handed t (next_of (w.shape.pool (target_pool q (act_of q x))) q x (r.0)) + backs (w.job t).at)
line w q x fs r t z un = (omega (arith, one_part, two), omega (arith, one_part, two, three, four))
  where
    one_part : all_bare t (after_move (next_of (w.shape.pool (target_pool q (act_of q x))) q x (r.0)) fs) + backs ((world_after w q x fs r).job t).at ≤ bare_move t (next_of (w.shape.pool (target_pool q (act_of q x))) q x (r.0)) + handed t (next_of (w.shape.pool (target_pool q (act_of q x))) q x (r.0)) + bare_in t fs + backs (put w.job (job_at w q (act_of q x)) (r.1.job) t).at
    one_part = land_bare q t (next_of (w.shape.pool (target_pool q (act_of q x))) q x (r.0)) fs (put w.job (job_at w q (act_of q x)) (r.1.job))

    two : backs (put w.job (job_at w q (act_of q x)) (r.1.job) t).at ≤ backs (w.job t).at
    two = put_backs w.job (job_at w q (act_of q x)) (r.1.job) t un

    three : bare_move t (next_of (w.shape.pool (target_pool q (act_of q x))) q x (r.0)) ≤ bare t x + paid t x
    three = bares (w.shape.pool (target_pool q (act_of q x))) q t x (r.0)

    four : all_bare t (w.stack q) ≡ (bare t x + bare_in t fs)
    four = ap (all_bare t) z

-- an act that neither takes a share nor gives a job's back
steady_returns : (w : World) (q : Party) (x : Place) (fs : List Place) (r : Seen × Part) → w.stack q ≡ record { top = x; below = fs } → ((t : ℕ) → ((world_after w q x fs r).job t).counted ≡ true → ((w.job t).counted ≡ true) × (handed t (next_of (w.shape.pool (target_pool q (act_of q x))) q x (r.0)) ≡ 0)) → Unbacked (place_part w q x) r → ((t : ℕ) → ((world_after w q x fs r).job t).counted ≡ true → paid t x ≡ 0) → ReturnsHold w → SharesHold (world_after w q x fs r) → ReturnsHold (world_after w q x fs r)
steady_returns w q x fs r z ut un none h s = returns_keep w (world_after w q x fs r) q (after_move (next_of (w.shape.pool (target_pool q (act_of q x))) q x (r.0)) fs) (λ i. refl)
    (λ t c. ((ut t c).0, (let a : all_bare t (after_move (next_of (w.shape.pool (target_pool q (act_of q x))) q x (r.0)) fs) + backs ((world_after w q x fs r).job t).at ≤ all_bare t (w.stack q) + paid t x + handed t (next_of (w.shape.pool (target_pool q (act_of q x))) q x (r.0)) + backs (w.job t).at = (line w q x fs r t z un).1 in let b : paid t x ≡ 0 = none t c in let d : handed t (next_of (w.shape.pool (target_pool q (act_of q x))) q x (r.0)) ≡ 0 = (ut t c).1 in omega (arith, a, b, d)))) h s

none_handed : (t : ℕ) (g : Move) → is_sharing g ≡ false → handed t g ≡ 0
none_handed t (Mark y c Returned) e = absurd (cc)
none_handed t _ e = refl

plain_returns : (w : World) (q : Party) (x : Place) (fs : List Place) (r : Seen × Part) → w.stack q ≡ record { top = x; below = fs } → Untallied (place_part w q x) r → Unbacked (place_part w q x) r → is_sharing (next_of (w.shape.pool (target_pool q (act_of q x))) q x (r.0)) ≡ false → ((t : ℕ) → paid t x ≡ 0) → ReturnsHold w → SharesHold (world_after w q x fs r) → ReturnsHold (world_after w q x fs r)
plain_returns w q x fs r z ut un st none h s = steady_returns w q x fs r z (λ t c. (sym (counted t) ∙ c, none_handed t (next_of (w.shape.pool (target_pool q (act_of q x))) q x (r.0)) st)) un (λ t c. none t) h s
  where
    counted : (t : ℕ) → ((world_after w q x fs r).job t).counted ≡ (w.job t).counted
    counted t = counted_now w q x fs r z (h.shares) (ut.job) st t

-- a job's share is given back
lower_returns : (w : World) (q : Party) (p : Count) (u : ℕ) (n : Then) (fs : List Place) (e : Seen) → w.stack q ≡ record { top = LowerCount p (OfJob u) n; below = fs } → ReturnsHold w → SharesHold (lowered_world w q p (OfJob u) n fs e) → ReturnsHold (lowered_world w q p (OfJob u) n fs e)
lower_returns w q p u n fs e z h s = returns_keep w v q (after_move (next_of (w.shape.pool (count_pool q p)) q (LowerCount p (OfJob u) n) e) fs) (λ i. refl) (λ t c. by t c (t == u) refl) h s
  where
    v : World
    v = lowered_world w q p (OfJob u) n fs e

    off : (t : ℕ) (b : Bool) → (w.job t).counted ≡ false → (if b then record (w.job u) { counted = false } else w.job t).counted ≡ false
    off t true y = refl
    off t false y = y

    counted : (t : ℕ) → (v.job t).counted ≡ (put w.job u (record (w.job u) { counted = false }) t).counted
    counted t = after_shares w q (LowerCount p (OfJob u) n) fs (w.shape.pool (count_pool q p)) e z (h.shares).unraised (lower_steady (w.shape.pool (count_pool q p)) q p (OfJob u) n e) (put w.job u (record (w.job u) { counted = false })) t (λ y. off t (t == u) y)

    now : (v.job u).counted ≡ false
    now = counted u ∙ ap (λ j. j.counted) (put_new w.job u (record (w.job u) { counted = false }))

    bound : (t : ℕ) → all_bare t (after_move (next_of (w.shape.pool (count_pool q p)) q (LowerCount p (OfJob u) n) e) fs) + backs (v.job t).at ≤ all_bare t (w.stack q) + one (t == u) + backs (w.job t).at
    bound t = let a : all_bare t (after_move (next_of (w.shape.pool (count_pool q p)) q (LowerCount p (OfJob u) n) e) fs) + backs (v.job t).at ≤ bare_move t (next_of (w.shape.pool (count_pool q p)) q (LowerCount p (OfJob u) n) e) + handed t (next_of (w.shape.pool (count_pool q p)) q (LowerCount p (OfJob u) n) e) + bare_in t fs + backs (put w.job u (record (w.job u) { counted = false }) t).at = land_bare q t (next_of (w.shape.pool (count_pool q p)) q (LowerCount p (OfJob u) n) e) fs (put w.job u (record (w.job u) { counted = false })) in
        let b : backs (put w.job u (record (w.job u) { counted = false }) t).at ≤ backs (w.job t).at = put_backs w.job u (record (w.job u) { counted = false }) t (omega arith) in
        let c : bare_move t (next_of (w.shape.pool (count_pool q p)) q (LowerCount p (OfJob u) n) e) ≤ bare t (LowerCount p (OfJob u) n) + one (t == u) = bares (w.shape.pool (count_pool q p)) q t (LowerCount p (OfJob u) n) e in
        let d : all_bare t (w.stack q) ≡ (bare t (LowerCount p (OfJob u) n) + bare_in t fs) = ap (all_bare t) z in
        let f : handed t (next_of (w.shape.pool (count_pool q p)) q (LowerCount p (OfJob u) n) e) ≡ 0 = none_handed t (next_of (w.shape.pool (count_pool q p)) q (LowerCount p (OfJob u) n) e) (lower_steady (w.shape.pool (count_pool q p)) q p (OfJob u) n e) in omega (arith, a, b, c, d, f)

    by : (t : ℕ) → (v.job t).counted ≡ true → (b : Bool) → (t == u) ≡ b → ((w.job t).counted ≡ true) × (all_bare t (after_move (next_of (w.shape.pool (count_pool q p)) q (LowerCount p (OfJob u) n) e) fs) + backs (v.job t).at ≤ all_bare t (w.stack q) + backs (w.job t).at)
    by t c true y = absurd (let a : (v.job t).counted ≡ false = ap (λ i. (v.job i).counted) (eqb-true t u y) ∙ now in cc)
    by t c false y = (sym (counted t ∙ ap (λ j. j.counted) (put_old w.job u (record (w.job u) { counted = false }) t y)) ∙ c, (let a : all_bare t (after_move (next_of (w.shape.pool (count_pool q p)) q (LowerCount p (OfJob u) n) e) fs) + backs (v.job t).at ≤ all_bare t (w.stack q) + one (t == u) + backs (w.job t).at = bound t in let b : one (t == u) ≡ 0 = ap one y in omega (arith, a, b)))

-- a share is taken: the job is in this party's hand alone
raise_returns : (w : World) (q : Party) (n : Plan) (fs : List Place) → w.stack q ≡ record { top = RaiseCount n; below = fs } → ReturnsHold w → SharesHold (raised_world w q n fs) → ReturnsHold (raised_world w q n fs)
raise_returns w q n fs z h s = returns_by w v q k (λ i. refl) (λ t c. by t c (t == plan_job n) refl) s
  where
    v : World
    v = raised_world w q n fs

    k : Stack
    k = after_move (next_of (w.shape.pool (count_pool q (plan_count n))) q (RaiseCount n) Done) fs

    bound : (t : ℕ) → all_bare t (after_move (next_of (w.shape.pool (count_pool q (plan_count n))) q (RaiseCount n) Done) fs) + backs ((raised_world w q n fs).job t).at + raised_hand t n ≤ hand_plan t n + bare_in t fs + backs (w.job t).at
    bound t = let a : all_bare t (after_move (after_raise n) fs) + backs (jobs_after q (after_raise n) (put w.job (plan_job n) (record (w.job (plan_job n)) { counted = true })) t).at ≤ bare_move t (after_raise n) + handed t (after_raise n) + bare_in t fs + backs (put w.job (plan_job n) (record (w.job (plan_job n)) { counted = true }) t).at = land_bare q t (after_raise n) fs (put w.job (plan_job n) (record (w.job (plan_job n)) { counted = true })) in
        let b : backs (put w.job (plan_job n) (record (w.job (plan_job n)) { counted = true }) t).at ≤ backs (w.job t).at = put_backs w.job (plan_job n) (record (w.job (plan_job n)) { counted = true }) t (omega arith) in
        let c : bare_move t (after_raise n) + raised_hand t n ≤ hand_plan t n = bare_raised t n in
        let d : handed t (after_raise n) ≡ 0 = none_handed t (after_raise n) (raise_steady n) in omega (arith, a, b, c, d)

    stack : (t : ℕ) → all_bare t (w.stack q) ≡ (hand_plan t n + bare_in t fs)
    stack t = ap (all_bare t) z

    same : (t : ℕ) → (t == plan_job n) ≡ false → (v.job t).counted ≡ (w.job t).counted
    same t e = after_counted q (next_of (w.shape.pool (count_pool q (plan_count n))) q (RaiseCount n) Done) (put w.job (plan_job n) (record (w.job (plan_job n)) { counted = true })) t (raise_steady n) (no_bare (next_of (w.shape.pool (count_pool q (plan_count n))) q (RaiseCount n) Done) (put w.job (plan_job n) (record (w.job (plan_job n)) { counted = true })) t (raise_plain n)) ∙ ap (λ j. j.counted) (put_old w.job (plan_job n) (record (w.job (plan_job n)) { counted = true }) t e)

    in_hand : all_bare (plan_job n) (w.stack q) ≤ is_loc (Hand q) (loc_at (w.job (plan_job n)))
    in_hand = let a : all_bare (plan_job n) (w.stack q) ≤ held (plan_job n) (w.stack q) = bare_held (plan_job n) (w.stack q) in let b : held (plan_job n) (w.stack q) ≡ is_loc (Hand q) (loc_at (w.job (plan_job n))) = ((((h.shares).calls).jobs).ok).placed (Hand q) (plan_job n) in omega (arith, a, b)

    own_hand : is_gather n ≡ false → raised_hand (plan_job n) n ≡ 1
    own_hand g = raised_own (plan_job n) n g ∙ self_one (plan_job n)

    mine : is_gather n ≡ false → loc_at (w.job (plan_job n)) ≡ Some (Hand q)
    mine g = where_is (Hand q) (loc_at (w.job (plan_job n))) (let a : all_bare (plan_job n) (w.stack q) ≤ is_loc (Hand q) (loc_at (w.job (plan_job n))) = in_hand in let b : all_bare (plan_job n) (w.stack q) ≡ (hand_plan (plan_job n) n + bare_in (plan_job n) fs) = stack (plan_job n) in let c : bare_move (plan_job n) (after_raise n) + raised_hand (plan_job n) n ≤ hand_plan (plan_job n) n = bare_raised (plan_job n) n in let d : raised_hand (plan_job n) n ≡ 1 = own_hand g in omega (arith, a, b, c, d))

    -- the number that stands for a broadcast is in no hand
    spent : (n : Plan) → SaysPlan w q n → is_gather n ≡ true → (w.job (plan_job n)).at ≡ Spent
    spent (Gather g) y e = y.spent
    spent _ y e = cc

    nowhere : (x : Whereabouts) (m : ℕ) → x ≡ Spent → (r : Party) → is_loc (Hand r) (loc_of x m) ≡ 0
    nowhere x m e r = ap (λ v. is_loc (Hand r) (loc_of v m)) e

    apart : is_gather n ≡ true → (r : Party) → all_bare (plan_job n) (w.stack r) ≤ 0
    apart g r = let a : all_bare (plan_job n) (w.stack r) ≤ held (plan_job n) (w.stack r) = bare_held (plan_job n) (w.stack r) in
        let b : held (plan_job n) (w.stack r) ≡ is_loc (Hand r) (loc_at (w.job (plan_job n))) = ((((h.shares).calls).jobs).ok).placed (Hand r) (plan_job n) in
        let c : is_loc (Hand r) (loc_at (w.job (plan_job n))) ≡ 0 = nowhere ((w.job (plan_job n)).at) ((w.job (plan_job n)).runs) (spent n (top_says w q (RaiseCount n) fs ((h.shares).calls) z) g) r in omega (arith, a, b, c)

    not_back : (x : Whereabouts) (m : ℕ) → loc_of x m ≡ Some (Hand q) → backs x ≤ 0
    not_back HandedBack m e = cc
    not_back Spent m e = cc
    not_back _ m e = omega arith

    others : (b : Bool) → is_gather n ≡ b → (r : Party) → same_party r q ≡ false → all_bare (plan_job n) (w.stack r) ≤ 0
    others true g r e = apart g r
    others false g r e = let a : all_bare (plan_job n) (w.stack r) ≤ held (plan_job n) (w.stack r) = bare_held (plan_job n) (w.stack r) in
        let b : held (plan_job n) (w.stack r) ≡ is_loc (Hand r) (loc_at (w.job (plan_job n))) = ((((h.shares).calls).jobs).ok).placed (Hand r) (plan_job n) in
        let c : is_loc (Hand r) (loc_at (w.job (plan_job n))) ≡ one (same_party r q) = ap (is_loc (Hand r)) (mine g) in
        let d : one (same_party r q) ≡ 0 = ap one e in omega (arith, a, b, c, d)

    own : (b : Bool) → is_gather n ≡ b → all_bare (plan_job n) (after_move (next_of (w.shape.pool (count_pool q (plan_count n))) q (RaiseCount n) Done) fs) + backs ((raised_world w q n fs).job (plan_job n)).at ≤ 0
    own true g = let a : all_bare (plan_job n) (after_move (next_of (w.shape.pool (count_pool q (plan_count n))) q (RaiseCount n) Done) fs) + backs ((raised_world w q n fs).job (plan_job n)).at + raised_hand (plan_job n) n ≤ hand_plan (plan_job n) n + bare_in (plan_job n) fs + backs (w.job (plan_job n)).at = bound (plan_job n) in
        let c : all_bare (plan_job n) (w.stack q) ≡ (hand_plan (plan_job n) n + bare_in (plan_job n) fs) = stack (plan_job n) in
        let d : all_bare (plan_job n) (w.stack q) ≤ 0 = apart g q in
        let i : backs (w.job (plan_job n)).at ≡ 0 = ap backs (spent n (top_says w q (RaiseCount n) fs ((h.shares).calls) z) g) in omega (arith, a, c, d, i)
    own false g = let a : all_bare (plan_job n) (after_move (next_of (w.shape.pool (count_pool q (plan_count n))) q (RaiseCount n) Done) fs) + backs ((raised_world w q n fs).job (plan_job n)).at + raised_hand (plan_job n) n ≤ hand_plan (plan_job n) n + bare_in (plan_job n) fs + backs (w.job (plan_job n)).at = bound (plan_job n) in
        let b : raised_hand (plan_job n) n ≡ 1 = own_hand g in
        let c : all_bare (plan_job n) (w.stack q) ≡ (hand_plan (plan_job n) n + bare_in (plan_job n) fs) = stack (plan_job n) in
        let d : all_bare (plan_job n) (w.stack q) ≤ is_loc (Hand q) (loc_at (w.job (plan_job n))) = in_hand in
        let f : is_loc (Hand q) (loc_at (w.job (plan_job n))) ≡ one (same_party q q) = ap (is_loc (Hand q)) (mine g) in
        let k : one (same_party q q) ≤ 1 = one_bound (same_party q q) in
        let i : backs (w.job (plan_job n)).at ≤ 0 = not_back ((w.job (plan_job n)).at) ((w.job (plan_job n)).runs) (mine g) in omega (arith, a, b, c, d, f, k, i)
      where
        one_bound : (b : Bool) → one b ≤ 1
        one_bound true = omega arith
        one_bound false = omega arith

    by : (t : ℕ) → (v.job t).counted ≡ true → (b : Bool) → (t == plan_job n) ≡ b → (all_bare t k + backs (v.job t).at ≤ 0) × ((r : Party) → same_party r q ≡ false → all_bare t (w.stack r) ≤ 0)
    by t c true e = subst (λ t. (all_bare t k + backs (v.job t).at ≤ 0) × ((r : Party) → same_party r q ≡ false → all_bare t (w.stack r) ≤ 0)) (sym (eqb-true t (plan_job n) e)) (own (is_gather n) refl, others (is_gather n) refl)
    by t c false e = (
      (let a : all_bare t (after_move (next_of (w.shape.pool (count_pool q (plan_count n))) q (RaiseCount n) Done) fs) + backs ((raised_world w q n fs).job t).at + raised_hand t n ≤ hand_plan t n + bare_in t fs + backs (w.job t).at = bound t in
          let b : all_bare t (w.stack q) ≡ (hand_plan t n + bare_in t fs) = stack t in
          let d : all_bare t (w.stack q) + backs (w.job t).at ≤ 0 = h.bare q t (sym (same t e) ∙ c) in omega (arith, a, b, d)),
      λ r y. (let d : all_bare t (w.stack r) + backs (w.job t).at ≤ 0 = h.bare r t (sym (same t e) ∙ c) in omega (arith, d)),
    )

pub unpaid : (t : ℕ) (x : Place) → is_tally x ≡ false → paid t x ≡ 0
unpaid t (LowerCount (OfPool p) s n) z = cc
unpaid t (LowerCount (OfScope c o) Body n) z = refl
unpaid t (LowerCount (OfScope c o) PoolValue n) z = cc
unpaid t (LowerCount (OfScope c o) (OfJob u) n) z = cc
unpaid t (LowerCount (OfCast c o) s n) z = cc
unpaid t (LowerForAll c) z = cc
unpaid t _ z = refl

-- each act
raise_either : (w : World) (q : Party) (n : Plan) (fs : List Place) → w.stack q ≡ record { top = RaiseCount n; below = fs } → ReturnsHold w → (done : Seen × Part) → (SharesHold (world_after w q (RaiseCount n) fs done) → ReturnsHold (world_after w q (RaiseCount n) fs done)) → (b : Bool) → IfSome (if b then Some (Refused, place_part w q (RaiseCount n)) else Some done) (λ r. SharesHold (world_after w q (RaiseCount n) fs r) → ReturnsHold (world_after w q (RaiseCount n) fs r))
raise_either w q n fs z h done f true = plain_returns w q (RaiseCount n) fs (Refused, place_part w q (RaiseCount n)) z (same_untallied (place_part w q (RaiseCount n)) Refused) (omega arith) refl (λ t. refl) h
raise_either w q n fs z h done f false = f

value_returns : (w : World) (q : Party) (p : ℕ) (n : Then) (fs : List Place) (e : Seen) → w.stack q ≡ record { top = LowerCount (OfPool p) PoolValue n; below = fs } → ReturnsHold w → SharesHold (lowered_world w q (OfPool p) PoolValue n fs e) → ReturnsHold (lowered_world w q (OfPool p) PoolValue n fs e)
value_returns w q p n fs e z h s = returns_keep w (lowered_world w q (OfPool p) PoolValue n fs e) q (after_move (next_of (w.shape.pool p) q (LowerCount (OfPool p) PoolValue n) e) fs) (λ i. refl)
    (λ t c. (
      sym (same t) ∙ c,
      (let a : all_bare t (after_move (next_of (w.shape.pool p) q (LowerCount (OfPool p) PoolValue n) e) fs) + backs ((lowered_world w q (OfPool p) PoolValue n fs e).job t).at ≤ bare_move t (next_of (w.shape.pool p) q (LowerCount (OfPool p) PoolValue n) e) + handed t (next_of (w.shape.pool p) q (LowerCount (OfPool p) PoolValue n) e) + bare_in t fs + backs (put w.job 0 (w.job 0) t).at = land_bare q t (next_of (w.shape.pool p) q (LowerCount (OfPool p) PoolValue n) e) fs (put w.job 0 (w.job 0)) in
          let b : backs (put w.job 0 (w.job 0) t).at ≤ backs (w.job t).at = put_backs w.job 0 (w.job 0) t (omega arith) in
          let d : bare_move t (next_of (w.shape.pool p) q (LowerCount (OfPool p) PoolValue n) e) ≤ bare t (LowerCount (OfPool p) PoolValue n) + 0 = bares (w.shape.pool p) q t (LowerCount (OfPool p) PoolValue n) e in
          let f : all_bare t (w.stack q) ≡ (bare t (LowerCount (OfPool p) PoolValue n) + bare_in t fs) = ap (all_bare t) z in
          let g : handed t (next_of (w.shape.pool p) q (LowerCount (OfPool p) PoolValue n) e) ≡ 0 = none_handed t (next_of (w.shape.pool p) q (LowerCount (OfPool p) PoolValue n) e) (lower_steady (w.shape.pool p) q (OfPool p) PoolValue n e) in omega (arith, a, b, d, f, g)),
    )) h s
  where
    same : (t : ℕ) → ((lowered_world w q (OfPool p) PoolValue n fs e).job t).counted ≡ (w.job t).counted
    same t = let a : (put w.job 0 (w.job 0) t).counted ≡ (w.job t).counted = put_same (λ j. j.counted) w.job 0 (w.job 0) t refl in
        after_shares w q (LowerCount (OfPool p) PoolValue n) fs (w.shape.pool p) e z (h.shares).unraised (lower_steady (w.shape.pool p) q (OfPool p) PoolValue n e) (put w.job 0 (w.job 0)) t (λ y. a ∙ y) ∙ a

plain_act : (w : World) (q : Party) (x : Place) (fs : List Place) → w.stack q ≡ record { top = x; below = fs } → is_tally x ≡ false → ReturnsHold w → IfSome (outcome w q (record { top = x; below = fs })) (λ r. SharesHold (world_after w q x fs r) → ReturnsHold (world_after w q x fs r))
plain_act w q x fs z y h = if_some_map (λ r. Untallied (place_part w q x) r × (Unbacked (place_part w q x) r × (is_sharing (next_of (w.shape.pool (target_pool q (act_of q x))) q x (r.0)) ≡ false))) (λ r. SharesHold (world_after w q x fs r) → ReturnsHold (world_after w q x fs r)) (λ r f. plain_returns w q x fs r z (f.0) ((f.1).0) ((f.1).1) (λ t. unpaid t x y) h) (outcome w q (record { top = x; below = fs }))
    (if_some_and (Untallied (place_part w q x)) (λ r. Unbacked (place_part w q x) r × (is_sharing (next_of (w.shape.pool (target_pool q (act_of q x))) q x (r.0)) ≡ false)) (outcome w q (record { top = x; below = fs })) (act_untallied w.shape q (counts_at w (target_pool q (act_of q x))) (place_part w q x) x y)
    (if_some_and (Unbacked (place_part w q x)) (λ r. is_sharing (next_of (w.shape.pool (target_pool q (act_of q x))) q x (r.0)) ≡ false) (outcome w q (record { top = x; below = fs })) (act_unbacked w.shape q (counts_at w (target_pool q (act_of q x))) (place_part w q x) x y) (no_steady w.shape (w.shape.pool (target_pool q (act_of q x))) q (counts_at w (target_pool q (act_of q x))) (place_part w q x) x y)))

-- pieces get shares that their party alone has in hand
shared_returns : (w v : World) (q : Party) (c : Pieces) (x : Place) (k : Stack) (fs : List Place) → w.stack q ≡ record { top = x; below = fs } → ((t : ℕ) → bare t x ≡ one (is_piece c t)) → ((r : Party) → v.stack r ≡ put_stack w.stack q k r) → ((t : ℕ) → all_bare t k ≤ bare_in t fs) → ((t : ℕ) → is_piece c t ≡ true → backs (v.job t).at ≤ backs (w.job t).at) → ((t : ℕ) → is_piece c t ≡ false → ((v.job t).counted ≡ (w.job t).counted) × (backs (v.job t).at ≤ backs (w.job t).at)) → ReturnsHold w → SharesHold v → ReturnsHold v
shared_returns w v q c x k fs z ba st le ne same h s = returns_by w v q k st (λ t d. by t d (is_piece c t) refl) s
  where
    stack : (t : ℕ) → all_bare t (w.stack q) ≡ (one (is_piece c t) + bare_in t fs)
    stack t = let a : all_bare t (w.stack q) ≡ (bare t x + bare_in t fs) = ap (all_bare t) z in let b : bare t x ≡ one (is_piece c t) = ba t in omega (arith, a, b)

    in_hand : (t : ℕ) → held t (w.stack q) ≡ is_loc (Hand q) (loc_at (w.job t))
    in_hand t = ((((h.shares).calls).jobs).ok).placed (Hand q) t

    mine : (t : ℕ) → is_piece c t ≡ true → loc_at (w.job t) ≡ Some (Hand q)
    mine t e = where_is (Hand q) (loc_at (w.job t)) (let a : all_bare t (w.stack q) ≤ held t (w.stack q) = bare_held t (w.stack q) in let b : held t (w.stack q) ≡ is_loc (Hand q) (loc_at (w.job t)) = in_hand t in let d : all_bare t (w.stack q) ≡ (one (is_piece c t) + bare_in t fs) = stack t in let f : one (is_piece c t) ≡ 1 = ap one e in omega (arith, a, b, d, f))

    not_back : (y : Whereabouts) (m : ℕ) → loc_of y m ≡ Some (Hand q) → backs y ≤ 0
    not_back HandedBack m e = cc
    not_back Spent m e = cc
    not_back _ m e = omega arith

    one_bound : (b : Bool) → one b ≤ 1
    one_bound true = omega arith
    one_bound false = omega arith

    own : (t : ℕ) → is_piece c t ≡ true → all_bare t k + backs (v.job t).at ≤ 0
    own t e =
        let a : all_bare t (w.stack q) ≡ (one (is_piece c t) + bare_in t fs) = stack t in
        let b : one (is_piece c t) ≡ 1 = ap one e in
        let d : all_bare t (w.stack q) ≤ held t (w.stack q) = bare_held t (w.stack q) in
        let f : held t (w.stack q) ≡ is_loc (Hand q) (loc_at (w.job t)) = in_hand t in
        let g : is_loc (Hand q) (loc_at (w.job t)) ≡ one (same_party q q) = ap (is_loc (Hand q)) (mine t e) in
        let i : one (same_party q q) ≤ 1 = one_bound (same_party q q) in
        let j : backs (w.job t).at ≤ 0 = not_back ((w.job t).at) ((w.job t).runs) (mine t e) in
        let l : backs (v.job t).at ≤ backs (w.job t).at = ne t e in
        let m : all_bare t k ≤ bare_in t fs = le t in omega (arith, a, b, d, f, g, i, j, l, m)

    others : (t : ℕ) → is_piece c t ≡ true → (r : Party) → same_party r q ≡ false → all_bare t (w.stack r) ≤ 0
    others t e r y = let a : all_bare t (w.stack r) ≤ held t (w.stack r) = bare_held t (w.stack r) in
        let b : held t (w.stack r) ≡ is_loc (Hand r) (loc_at (w.job t)) = ((((h.shares).calls).jobs).ok).placed (Hand r) t in
        let d : is_loc (Hand r) (loc_at (w.job t)) ≡ one (same_party r q) = ap (is_loc (Hand r)) (mine t e) in
        let f : one (same_party r q) ≡ 0 = ap one y in omega (arith, a, b, d, f)

    by : (t : ℕ) → (v.job t).counted ≡ true → (b : Bool) → is_piece c t ≡ b → (all_bare t k + backs (v.job t).at ≤ 0) × ((r : Party) → same_party r q ≡ false → all_bare t (w.stack r) ≤ 0)
    by t d true e = (own t e, others t e)
    by t d false e = (
      (let a : all_bare t (w.stack q) ≡ (one (is_piece c t) + bare_in t fs) = stack t in
          let b : backs (v.job t).at ≤ backs (w.job t).at = (same t e).1 in
          let g : all_bare t k ≤ bare_in t fs = le t in
          let f : all_bare t (w.stack q) + backs (w.job t).at ≤ 0 = h.bare q t (sym ((same t e).0) ∙ d) in omega (arith, a, b, f, g)),
      λ r y. (let f : all_bare t (w.stack r) + backs (w.job t).at ≤ 0 = h.bare r t (sym ((same t e).0) ∙ d) in omega (arith, f)),
    )

raised_returns : (w : World) (q : Party) (c : Pieces) (fs : List Place) → w.stack q ≡ record { top = RaiseForAll c; below = fs } → ReturnsHold w → SharesHold (all_raised w q c fs) → ReturnsHold (all_raised w q c fs)
raised_returns w q c fs z h s = shared_returns w v q c (RaiseForAll c) (record { top = begin_cast c.count c; below = fs }) fs z (λ t. refl) (λ r. refl) (λ t. (let a : bare t (begin_cast c.count c) ≤ 0 = bare_begins t c c.count in omega (arith, a))) new (λ t e. (ap (λ j. j.counted) (same t e), (let a : backs (v.job t).at ≡ backs (w.job t).at = ap (λ j. backs (j.at)) (same t e) in omega (arith, a)))) h s
  where
    v : World
    v = all_raised w q c fs

    same : (t : ℕ) → is_piece c t ≡ false → v.job t ≡ w.job t
    same t e = piece_old c (marked Counted c.pool) (put w.job 0 (w.job 0)) t e ∙ put_same (λ j. j) w.job 0 (w.job 0) t refl

    new : (t : ℕ) → is_piece c t ≡ true → backs (v.job t).at ≤ backs (w.job t).at
    new t e = let l : backs (v.job t).at ≡ backs (w.job t).at = ap (λ j. backs (j.at)) (piece_new c (marked Counted c.pool) (put w.job 0 (w.job 0)) t e) ∙ ap (λ j. backs (j.at)) (put_same (λ j. j) w.job 0 (w.job 0) t refl) in omega (arith, l)

-- those of a broadcast that waits, where they come into their lists
dealt_returns : (w : World) (q : Party) (g : Gathering) (fs : List Place) (m : Part) → m.job ≡ (place_part w q (DealPieces g)).job → w.stack q ≡ record { top = DealPieces g; below = fs } → ReturnsHold w → SharesHold (world_after w q (DealPieces g) fs (Done, m)) → ReturnsHold (world_after w q (DealPieces g) fs (Done, m))
dealt_returns w q g fs m ej z h s = shared_returns w v q (g.pieces) (DealPieces g) (after_move (next_of (w.shape.pool (target_pool q (act_of q (DealPieces g)))) q (DealPieces g) Done) fs) fs z (λ t. refl) (λ r. refl) (λ t. omega arith) new (λ t e. (ap (λ j. j.counted) (same t e), (let a : backs (v.job t).at ≡ backs (w.job t).at = ap (λ j. backs (j.at)) (same t e) in omega (arith, a)))) h s
  where
    v : World
    v = world_after w q (DealPieces g) fs (Done, m)

    J : ℕ → Job
    J = put w.job (job_at w q (act_of q (DealPieces g))) m.job

    same : (t : ℕ) → is_piece g.pieces t ≡ false → v.job t ≡ w.job t
    same t e = piece_old g.pieces (marked Dealt g.pieces.pool) J t e ∙ put_same (λ j. j) w.job (job_at w q (act_of q (DealPieces g))) m.job t ej

    new : (t : ℕ) → is_piece g.pieces t ≡ true → backs (v.job t).at ≤ backs (w.job t).at
    new t e = let l : backs (v.job t).at ≡ 0 = ap (λ j. backs (j.at)) (piece_new g.pieces (marked Dealt g.pieces.pool) J t e) in omega (arith, l)

-- what is handed back of a broadcast has no share
pub returned_none : (w : World) (c : Pieces) (n0 : ℕ) (j0 : Job) → j0 ≡ w.job n0 → (t : ℕ) → (mark_pieces c Returned (put w.job n0 j0) t).counted ≡ true → (is_piece c t ≡ false) × ((w.job t).counted ≡ true)
returned_none w c n0 j0 y t d = by (is_piece c t) refl d
  where
    by : (b : Bool) → is_piece c t ≡ b → (if b then marked Returned c.pool (t - c.first) (put w.job n0 j0 t) else put w.job n0 j0 t).counted ≡ true → (b ≡ false) × ((w.job t).counted ≡ true)
    by true e d = absurd (cc)
    by false e d = (refl, sym (put_same (λ j. j.counted) w.job n0 j0 t (ap (λ j. j.counted) y)) ∙ d)

handed_none : (g : PoolShape) (q : Party) (c : Pieces) (t : ℕ) (e : Seen) → is_piece c t ≡ false → handed t (next_of g q (LowerForAll c) e) ≡ 0
handed_none g q c t Yes z = ap one z
handed_none g q c t _ z = refl

lowered_returns : (w : World) (q : Party) (c : Pieces) (fs : List Place) (e : Seen) → w.stack q ≡ record { top = LowerForAll c; below = fs } → ReturnsHold w → SharesHold (all_lowered w q c fs e) → ReturnsHold (all_lowered w q c fs e)
lowered_returns w q c fs e z h s = returns_keep w v q k (λ i. refl) (λ t d. each t (returned_none w c 0 (w.job 0) refl t (ap (λ g. (g t).counted) (sym (returned_jobs (w.shape.pool (count_pool q c.count)) q c e J)) ∙ d))) h s
  where
    v : World
    v = all_lowered w q c fs e

    J : ℕ → Job
    J = put w.job 0 (w.job 0)

    g : Move
    g = next_of (w.shape.pool (count_pool q c.count)) q (LowerForAll c) e

    k : Stack
    k = after_move (next_of (w.shape.pool (count_pool q c.count)) q (LowerForAll c) e) fs

    each : (t : ℕ) → (is_piece c t ≡ false) × ((w.job t).counted ≡ true) → ((w.job t).counted ≡ true) × (all_bare t k + backs (v.job t).at ≤ all_bare t (w.stack q) + backs (w.job t).at)
    each t p = (
      p.1,
      (let a : all_bare t k + backs (v.job t).at ≤ bare_move t g + handed t g + bare_in t fs + backs (J t).at = land_bare q t g fs J in
          let b : bare_move t g ≤ 0 + one (is_piece c t) = bares (w.shape.pool (count_pool q c.count)) q t (LowerForAll c) e in
          let d : handed t g ≡ 0 = handed_none (w.shape.pool (count_pool q c.count)) q c t e (p.0) in
          let f : one (is_piece c t) ≡ 0 = ap one (p.0) in
          let i : all_bare t (w.stack q) ≡ (0 + bare_in t fs) = ap (all_bare t) z in
          let j : backs (J t).at ≡ backs (w.job t).at = put_same (λ j. backs (j.at)) w.job 0 (w.job 0) t refl in omega (arith, a, b, d, f, i, j)),
    )

back_returns : (w : World) (q : Party) (c : Pieces) (fs : List Place) → w.stack q ≡ record { top = RaiseForAll c; below = fs } → ReturnsHold w → SharesHold (world_after w q (RaiseForAll c) fs (Refused, place_part w q (RaiseForAll c))) → (world_after w q (RaiseForAll c) fs (Refused, place_part w q (RaiseForAll c))).job ≡ mark_pieces c Returned (put w.job 0 (w.job 0)) → ReturnsHold (world_after w q (RaiseForAll c) fs (Refused, place_part w q (RaiseForAll c)))
back_returns w q c fs z h s jo = steady_returns w q (RaiseForAll c) fs (Refused, place_part w q (RaiseForAll c)) z (λ t d. ((returned_none w c 0 (w.job 0) refl t (ap (λ g. (g t).counted) (sym jo) ∙ d)).1, refl)) (omega arith) (λ t d. refl) h s

all_either : (w : World) (q : Party) (c : Pieces) (fs : List Place) → (SharesHold (world_after w q (RaiseForAll c) fs (Refused, place_part w q (RaiseForAll c))) → ReturnsHold (world_after w q (RaiseForAll c) fs (Refused, place_part w q (RaiseForAll c)))) → (done : Seen × Part) → (SharesHold (world_after w q (RaiseForAll c) fs done) → ReturnsHold (world_after w q (RaiseForAll c) fs done)) → (b : Bool) → IfSome (if b then Some (Refused, place_part w q (RaiseForAll c)) else Some done) (λ r. SharesHold (world_after w q (RaiseForAll c) fs r) → ReturnsHold (world_after w q (RaiseForAll c) fs r))
all_either w q c fs none done f true = none
all_either w q c fs none done f false = f

go_by : (w : World) (q : Party) (x : Place) (fs : List Place) → w.stack q ≡ record { top = x; below = fs } → ReturnsHold w → IfSome (outcome w q (record { top = x; below = fs })) (λ r. SharesHold (world_after w q x fs r) → ReturnsHold (world_after w q x fs r))
go_by w (Worker a b) (RaiseCount n) fs z h = raise_either w (Worker a b) n fs z h _ (raise_returns w (Worker a b) n fs z h) (count_in (place_part w (Worker a b) (RaiseCount n)) (plan_count n) == 0)
go_by w (Worker a b) (LowerCount (OfPool r) (OfJob u) n) fs z h = lower_returns w (Worker a b) (OfPool r) u n fs (if count_in (place_part w (Worker a b) (LowerCount (OfPool r) (OfJob u) n)) (OfPool r) == 1 then Yes else No) z h
go_by w (Worker a b) (LowerCount (OfScope x o) (OfJob u) n) fs z h = lower_returns w (Worker a b) (OfScope x o) u n fs (if count_in (place_part w (Worker a b) (LowerCount (OfScope x o) (OfJob u) n)) (OfScope x o) == 1 then Yes else No) z h
go_by w (Worker a b) (LowerCount (OfPool r) PoolValue n) fs z h = value_returns w (Worker a b) r n fs (if count_in (place_part w (Worker a b) (LowerCount (OfPool r) PoolValue n)) (OfPool r) == 1 then Yes else No) z h
go_by w (Worker a b) (LowerCount (OfPool r) Body n) fs z h = absurd (let s : SaysThen w (Worker a b) n × SaysShare w (OfPool r) Body n = top_says w (Worker a b) (LowerCount (OfPool r) Body n) fs ((h.shares).calls) z in s.1)
go_by w (Worker a b) (LowerCount (OfCast x o) (OfJob u) n) fs z h = lower_returns w (Worker a b) (OfCast x o) u n fs (if count_in (place_part w (Worker a b) (LowerCount (OfCast x o) (OfJob u) n)) (OfCast x o) == 1 then Yes else No) z h
go_by w (Worker a b) (LowerCount (OfCast x o) PoolValue n) fs z h = absurd (let s : SaysThen w (Worker a b) n × SaysShare w (OfCast x o) PoolValue n = top_says w (Worker a b) (LowerCount (OfCast x o) PoolValue n) fs ((h.shares).calls) z in s.1)
go_by w (Worker a b) (LowerCount (OfCast x o) Body n) fs z h = absurd (let s : SaysThen w (Worker a b) n × SaysShare w (OfCast x o) Body n = top_says w (Worker a b) (LowerCount (OfCast x o) Body n) fs ((h.shares).calls) z in s.1)
go_by w (Worker a b) (LowerCount (OfScope x o) PoolValue n) fs z h = absurd (let s : SaysThen w (Worker a b) n × SaysShare w (OfScope x o) PoolValue n = top_says w (Worker a b) (LowerCount (OfScope x o) PoolValue n) fs ((h.shares).calls) z in s.1)
go_by w (Worker a b) (LowerCount (OfScope x o) Body n) fs z h = plain_act w (Worker a b) (LowerCount (OfScope x o) Body n) fs z refl h
go_by w (Caller c) (RaiseCount n) fs z h = raise_either w (Caller c) n fs z h _ (raise_returns w (Caller c) n fs z h) (count_in (place_part w (Caller c) (RaiseCount n)) (plan_count n) == 0)
go_by w (Caller c) (LowerCount (OfPool r) (OfJob u) n) fs z h = lower_returns w (Caller c) (OfPool r) u n fs (if count_in (place_part w (Caller c) (LowerCount (OfPool r) (OfJob u) n)) (OfPool r) == 1 then Yes else No) z h
go_by w (Caller c) (LowerCount (OfScope x o) (OfJob u) n) fs z h = lower_returns w (Caller c) (OfScope x o) u n fs (if count_in (place_part w (Caller c) (LowerCount (OfScope x o) (OfJob u) n)) (OfScope x o) == 1 then Yes else No) z h
go_by w (Caller c) (LowerCount (OfPool r) PoolValue n) fs z h = value_returns w (Caller c) r n fs (if count_in (place_part w (Caller c) (LowerCount (OfPool r) PoolValue n)) (OfPool r) == 1 then Yes else No) z h
go_by w (Caller c) (LowerCount (OfPool r) Body n) fs z h = absurd (let s : SaysThen w (Caller c) n × SaysShare w (OfPool r) Body n = top_says w (Caller c) (LowerCount (OfPool r) Body n) fs ((h.shares).calls) z in s.1)
go_by w (Caller c) (LowerCount (OfCast x o) (OfJob u) n) fs z h = lower_returns w (Caller c) (OfCast x o) u n fs (if count_in (place_part w (Caller c) (LowerCount (OfCast x o) (OfJob u) n)) (OfCast x o) == 1 then Yes else No) z h
go_by w (Caller c) (LowerCount (OfCast x o) PoolValue n) fs z h = absurd (let s : SaysThen w (Caller c) n × SaysShare w (OfCast x o) PoolValue n = top_says w (Caller c) (LowerCount (OfCast x o) PoolValue n) fs ((h.shares).calls) z in s.1)
go_by w (Caller c) (LowerCount (OfCast x o) Body n) fs z h = absurd (let s : SaysThen w (Caller c) n × SaysShare w (OfCast x o) Body n = top_says w (Caller c) (LowerCount (OfCast x o) Body n) fs ((h.shares).calls) z in s.1)
go_by w (Caller c) (LowerCount (OfScope x o) PoolValue n) fs z h = absurd (let s : SaysThen w (Caller c) n × SaysShare w (OfScope x o) PoolValue n = top_says w (Caller c) (LowerCount (OfScope x o) PoolValue n) fs ((h.shares).calls) z in s.1)
go_by w (Caller c) (LowerCount (OfScope x o) Body n) fs z h = plain_act w (Caller c) (LowerCount (OfScope x o) Body n) fs z refl h
go_by w (Worker a b) (RaiseForAll c) fs z h = all_either w (Worker a b) c fs (λ s. back_returns w (Worker a b) c fs z h s refl) _ (raised_returns w (Worker a b) c fs z h) (count_in (place_part w (Worker a b) (RaiseForAll c)) c.count == 0)
go_by w (Worker a b) (LowerForAll c) fs z h = lowered_returns w (Worker a b) c fs (if count_in (place_part w (Worker a b) (LowerForAll c)) c.count == c.workers then Yes else No) z h
go_by w (Caller g) (RaiseForAll c) fs z h = all_either w (Caller g) c fs (λ s. back_returns w (Caller g) c fs z h s refl) _ (raised_returns w (Caller g) c fs z h) (count_in (place_part w (Caller g) (RaiseForAll c)) c.count == 0)
go_by w (Caller g) (LowerForAll c) fs z h = lowered_returns w (Caller g) c fs (if count_in (place_part w (Caller g) (LowerForAll c)) c.count == c.workers then Yes else No) z h
go_by w (Worker a b) (DealPieces g) fs z h = dealt_returns w (Worker a b) g fs _ refl z h
go_by w (Caller c) (DealPieces g) fs z h = dealt_returns w (Caller c) g fs _ refl z h
go_by w q x fs z h = plain_act w q x fs z refl h

-- a party goes on, and no job is touched
moved_returns : (w u : World) (q : Party) (k : Stack) → ((r : Party) → u.stack r ≡ put_stack w.stack q k r) → ((t : ℕ) → u.job t ≡ w.job t) → ((t : ℕ) → all_bare t k ≤ all_bare t (w.stack q)) → ReturnsHold w → SharesHold u → ReturnsHold u
moved_returns w u q k st jo le h s = returns_keep w u q k st (λ t c. (sym (ap (λ j. j.counted) (jo t)) ∙ c, (let a : backs (u.job t).at ≡ backs (w.job t).at = ap (λ j. backs (j.at)) (jo t) in let b : all_bare t k ≤ all_bare t (w.stack q) = le t in omega (arith, a, b)))) h s

seen_returns : (w : World) (q : Party) (g : PoolShape) (x : Place) (fs : List Place) (e : Seen) → w.stack q ≡ record { top = x; below = fs } → is_tally x ≡ false → ReturnsHold w → SharesHold (record w { stack = put_stack w.stack q (after_move (next_of g q x e) fs) }) → ReturnsHold (record w { stack = put_stack w.stack q (after_move (next_of g q x e) fs) })
seen_returns w q g x fs e z y h s = moved_returns w (record w { stack = put_stack w.stack q (after_move (next_of g q x e) fs) }) q (after_move (next_of g q x e) fs) (λ r. refl) (λ t. refl)
    (λ t. (let i : all_bare t (after_move (next_of g q x e) fs) ≤ bare_move t (next_of g q x e) + bare_in t fs = land_only t (next_of g q x e) fs in
    let b : bare_move t (next_of g q x e) ≤ bare t x + paid t x = bares g q t x e in let c : paid t x ≡ 0 = unpaid t x y in let d : all_bare t (w.stack q) ≡ (bare t x + bare_in t fs) = ap (all_bare t) z in omega (arith, i, b, c, d))) h s

dealt_refused : (w : World) (q : Party) (g : Gathering) (fs : List Place) → w.stack q ≡ record { top = DealPieces g; below = fs } → ReturnsHold w → SharesHold (record w { stack = put_stack w.stack q (after_move (next_of (w.shape.pool (own_pool q)) q (DealPieces g) Refused) fs) }) → ReturnsHold (record w { stack = put_stack w.stack q (after_move (next_of (w.shape.pool (own_pool q)) q (DealPieces g) Refused) fs) })
dealt_refused w q g fs z h s = moved_returns w (record w { stack = put_stack w.stack q (after_move (next_of (w.shape.pool (own_pool q)) q (DealPieces g) Refused) fs) }) q (after_move (next_of (w.shape.pool (own_pool q)) q (DealPieces g) Refused) fs) (λ r. refl) (λ t. refl)
    (λ t. (let d : all_bare t (w.stack q) ≡ (one (is_piece g.pieces t) + bare_in t fs) = ap (all_bare t) z in omega (arith, d))) h s

from_returns : (w : World) (q : Party) (x : Place) (fs : List Place) (v : ℕ) → w.stack q ≡ record { top = x; below = fs } → ReturnsHold w → IfSome (after_choice w q (record { top = x; below = fs }) x v) (λ u. SharesHold u → ReturnsHold u)
from_returns w q (PickVictim k) fs v z h = if_cond (λ u. SharesHold u → ReturnsHold u) (nat_lt v (w.shape.pool (own_pool q)).workers) _ (λ y a. seen_returns w q (w.shape.pool (own_pool q)) (PickVictim k) fs (Start v) z refl h a)
from_returns w q YieldPick fs v z h = if_cond (λ u. SharesHold u → ReturnsHold u) (nat_lt v (w.shape.pool (own_pool q)).workers) _ (λ y a. seen_returns w q (w.shape.pool (own_pool q)) YieldPick fs (Start v) z refl h a)
from_returns w q _ fs v z h = tt

refuse_returns : (w : World) (q : Party) (x : Place) (fs : List Place) → w.stack q ≡ record { top = x; below = fs } → ReturnsHold w → IfSome (after_refusal w q (record { top = x; below = fs })) (λ u. SharesHold u → ReturnsHold u)
refuse_returns w q (GrowCall n) fs z h = λ a. seen_returns w q (w.shape.pool (own_pool q)) (GrowCall n) fs Refused z refl h a
refuse_returns w q (GrowScope o) fs z h = λ a. seen_returns w q (w.shape.pool (own_pool q)) (GrowScope o) fs Refused z refl h a
refuse_returns w q (OpenSlot o) fs z h = λ a. seen_returns w q (w.shape.pool (own_pool q)) (OpenSlot o) fs Refused z refl h a
refuse_returns w q (AddToFifo f) fs z h = λ a. seen_returns w q (w.shape.pool (own_pool q)) (AddToFifo f) fs Refused z refl h a
refuse_returns w q (PushToken f v) fs z h = λ a. seen_returns w q (w.shape.pool (own_pool q)) (PushToken f v) fs Refused z refl h a
refuse_returns w q (OpenForAll c) fs z h = λ a. seen_returns w q (w.shape.pool (own_pool q)) (OpenForAll c) fs Refused z refl h a
refuse_returns w q (GrowCast g) fs z h = λ a. seen_returns w q (w.shape.pool (own_pool q)) (GrowCast g) fs Refused z refl h a
refuse_returns w q (DealPieces g) fs z h = λ a. dealt_refused w q g fs z h a
refuse_returns w q (PushForAll c) fs z h = λ a. seen_returns w q (w.shape.pool (own_pool q)) (PushForAll c) fs Refused z refl h a
refuse_returns w q (PushJob n v) fs z h = λ a. seen_returns w q (w.shape.pool (own_pool q)) (PushJob n v) fs Refused z refl h a
refuse_returns w q _ fs z h = tt

miss_returns : (w : World) (q : Party) (x : Place) (fs : List Place) → w.stack q ≡ record { top = x; below = fs } → ReturnsHold w → IfSome (after_miss w q (record { top = x; below = fs }) x) (λ u. SharesHold u → ReturnsHold u)
miss_returns w (Worker a b) (StealFrom k n) fs z h = if_cond (λ u. SharesHold u → ReturnsHold u) (can_miss w a k.victim) _ (λ y d. seen_returns w (Worker a b) (w.shape.pool a) (StealFrom k n) fs Missing z refl h d)
miss_returns w (Worker a b) (YieldSteal v n) fs z h = if_cond (λ u. SharesHold u → ReturnsHold u) (can_miss w a v) _ (λ y d. seen_returns w (Worker a b) (w.shape.pool a) (YieldSteal v n) fs Missing z refl h d)
miss_returns w (Worker a b) _ fs z h = tt
miss_returns w (Caller n) _ fs z h = tt

end_returns : (w : World) (q : Party) (d : Ending) (x : Place) (fs : List Place) → w.stack q ≡ record { top = x; below = fs } → ReturnsHold w → IfSome (after_end w q d (record { top = x; below = fs }) x) (λ u. SharesHold u → ReturnsHold u)
end_returns w q d (Run t k) fs z h = λ s. returns_keep w (ended_world w q d t k fs) q (after_close t k d fs) (λ r. refl)
    (λ i c. (sym (put_same (λ j. j.counted) w.job t (at_job (w.job t) (Over d)) i refl) ∙ c, (let a : all_bare i (after_close t k d fs) ≤ bare_in i fs = closed_bare i t k d fs in let b : backs (put w.job t (at_job (w.job t) (Over d)) i).at ≤ backs (w.job i).at = put_backs w.job t (at_job (w.job t) (Over d)) i (omega arith) in let e : all_bare i (w.stack q) ≡ (0 + bare_in i fs) = ap (all_bare i) z in omega (arith, a, b, e)))) h s
end_returns w q d _ fs z h = tt

-- a call begins: its jobs are new, and have no share yet
made_returns : (w : World) (q : Party) (n : Plan) (C : ℕ → Call) (J : ℕ → Job) (c j : ℕ) (l : List Scope) → ((t : ℕ) → t + 1 ≤ w.jobs → hand_plan t n ≤ 0) → ((t : ℕ) → (J t).counted ≡ (w.job t).counted) → ((t : ℕ) → backs (J t).at ≤ backs (w.job t).at) → ReturnsHold w → SharesHold (record (calling w q n C J c j) { scopes = l }) → ReturnsHold (record (calling w q n C J c j) { scopes = l })
made_returns w q n C J c j l new co ba h s = returns_keep w (record (calling w q n C J c j) { scopes = l }) q (after_call (w.stack q) (RaiseCount n)) (λ r. refl) (λ t e. (sym (co t) ∙ e, (let a : hand_plan t n ≤ 0 = new t (old t (sym (co t) ∙ e)) in let b : backs (J t).at ≤ backs (w.job t).at = ba t in omega (arith, a, b)))) h s
  where
    old : (t : ℕ) → (w.job t).counted ≡ true → t + 1 ≤ w.jobs
    old t e = elim (either (ltb t w.jobs)) [ inl y ↦ (let b : t < w.jobs = ltb-true t w.jobs y in omega (arith, b)) | inr y ↦ absurd (let b : (w.job t).counted ≡ false = (h.shares).unmade t (ltb-false t w.jobs y) in cc) ]

new_hand : (t n : ℕ) → t + 1 ≤ n → one (t == n) ≤ 0
new_hand t n b = let a : one (t == n) ≡ 0 = ap one (below_new t n b) in omega (arith, a)

new_counted : (w : World) (q : Party) (p : ℕ) (k : JobKind) → ReturnsHold w → (t : ℕ) → (put w.job w.jobs (new_job q p k) t).counted ≡ (w.job t).counted
new_counted w q p k h t = put_same (λ j. j.counted) w.job w.jobs (new_job q p k) t (sym ((h.shares).unmade w.jobs (omega arith)))

spawn_returns : (w : World) (q : Party) (p : ℕ) → ReturnsHold w → IfSome (after_spawn w q p (w.stack q)) (λ u. SharesHold u → ReturnsHold u)
spawn_returns w q p h = if_cond (λ u. SharesHold u → ReturnsHold u) (is_free ((w.stack q).top) && is_pool w.shape p) _ (λ f s. made_returns w q (Detach p w.jobs) w.call (put w.job w.jobs (new_job q p (Detached p))) w.calls (w.jobs + 1) w.scopes (λ t b. new_hand t w.jobs b) (new_counted w q p (Detached p) h) (λ t. put_backs w.job w.jobs (new_job q p (Detached p)) t (omega arith)) h s)

sent_returns : (w : World) (q : Party) (p : ℕ) (b : Bool) → ReturnsHold w → SharesHold (after_send w q p (w.stack q) b) → ReturnsHold (after_send w q p (w.stack q) b)
sent_returns w q p true h s = made_returns w q (Here p w.jobs) w.call (put w.job w.jobs (new_job q p Direct)) w.calls (w.jobs + 1) w.scopes (λ t b. new_hand t w.jobs b) (new_counted w q p Direct h) (λ t. put_backs w.job w.jobs (new_job q p Direct) t (omega arith)) h s
sent_returns w q p false h s = made_returns w q (Send (record { number = w.calls; pool = p; job = w.jobs })) (put w.call w.calls (new_call None w.jobs)) (put w.job w.jobs (new_job q p (Stored w.calls q))) (w.calls + 1) (w.jobs + 1) w.scopes (λ t b. new_hand t w.jobs b) (new_counted w q p (Stored w.calls q) h) (λ t. put_backs w.job w.jobs (new_job q p (Stored w.calls q)) t (omega arith)) h s

scope_returns : (w : World) (q : Party) (p : ℕ) → ReturnsHold w → IfSome (after_scope w q p (w.stack q)) (λ u. SharesHold u → ReturnsHold u)
scope_returns w q p h = if_cond (λ u. SharesHold u → ReturnsHold u) (is_free ((w.stack q).top) && is_pool w.shape p) _ (λ f s. made_returns w q (Open (record { number = w.calls; pool = p; job = w.jobs })) (put w.call w.calls (new_call None w.jobs)) (put w.job w.jobs (new_job q p (BodyOf w.calls q))) (w.calls + 1) (w.jobs + 1) (w.scopes ++ record { call = w.calls; pool = p; owner = q } ∷ []) (λ t b. new_hand t w.jobs b) (new_counted w q p (BodyOf w.calls q) h) (λ t. put_backs w.job w.jobs (new_job q p (BodyOf w.calls q)) t (omega arith)) h s)

enter_returns : (w : World) (q : Party) (z : Scope) → ReturnsHold w → IfSome (after_enter w q (w.stack q) (Some z)) (λ u. SharesHold u → ReturnsHold u)
enter_returns w q z h = if_cond (λ u. SharesHold u → ReturnsHold u) (is_free ((w.stack q).top) && holds z.call (w.stack q)) _ (λ f s. made_returns w q (Enter (record { call = z.call; owner = z.owner; pool = z.pool; job = w.jobs })) w.call (put w.job w.jobs (new_job q z.pool (Scoped z.call z.owner))) w.calls (w.jobs + 1) w.scopes (λ t b. new_hand t w.jobs b) (new_counted w q (z.pool) (Scoped z.call z.owner) h) (λ t. put_backs w.job w.jobs (new_job q z.pool (Scoped z.call z.owner)) t (omega arith)) h s)

into_returns : (w : World) (q : Party) (n : ℕ) → ReturnsHold w → IfSome (after_into w q n (w.stack q)) (λ u. SharesHold u → ReturnsHold u)
into_returns w q n h = into_cases (λ u. SharesHold u → ReturnsHold u) w q n (λ z e free held. enter_returns w q z h)

install_returns : (w : World) (q : Party) (p : ℕ) → ReturnsHold w → IfSome (after_install w q p (w.stack q)) (λ u. SharesHold u → ReturnsHold u)
install_returns w q p h = if_cond (λ u. SharesHold u → ReturnsHold u) (is_free ((w.stack q).top) && is_pool w.shape p) _ (λ f s. sent_returns w q p (is_member q p) h s)

join_returns : (w : World) (q : Party) → ReturnsHold w → IfSome (after_join w q (w.stack q)) (λ u. SharesHold u → ReturnsHold u)
join_returns w (Caller n) h = tt
join_returns w (Worker p i) h = if_cond (λ u. SharesHold u → ReturnsHold u) (is_free ((w.stack (Worker p i)).top)) _ (λ f s. made_returns w (Worker p i) (Fork (record { number = w.calls; pool = p; job = w.jobs + 1 }) w.jobs) (put w.call w.calls (new_call (Some w.jobs) (w.jobs + 1))) (put (put w.job w.jobs (new_job (Worker p i) p Direct)) (w.jobs + 1) (new_job (Worker p i) p (Stored w.calls (Worker p i)))) (w.calls + 1) (w.jobs + 2) w.scopes new counted back h s)
  where
    J1 : ℕ → Job
    J1 = put w.job w.jobs (new_job (Worker p i) p Direct)

    new : (t : ℕ) → t + 1 ≤ w.jobs → one (t == w.jobs) + one (t == (w.jobs + 1)) ≤ 0
    new t b = let a : one (t == w.jobs) ≤ 0 = new_hand t w.jobs b in let d : one (t == (w.jobs + 1)) ≤ 0 = new_hand t (w.jobs + 1) (omega (arith, b)) in omega (arith, a, d)

    counted : (t : ℕ) → (put J1 (w.jobs + 1) (new_job (Worker p i) p (Stored w.calls (Worker p i))) t).counted ≡ (w.job t).counted
    counted t = put_same (λ j. j.counted) J1 (w.jobs + 1) (new_job (Worker p i) p (Stored w.calls (Worker p i))) t (sym (new_counted w (Worker p i) p Direct h (w.jobs + 1) ∙ (h.shares).unmade (w.jobs + 1) (omega arith))) ∙ new_counted w (Worker p i) p Direct h t

    back : (t : ℕ) → backs (put J1 (w.jobs + 1) (new_job (Worker p i) p (Stored w.calls (Worker p i))) t).at ≤ backs (w.job t).at
    back t = let a : backs (put J1 (w.jobs + 1) (new_job (Worker p i) p (Stored w.calls (Worker p i))) t).at ≤ backs (J1 t).at = put_backs J1 (w.jobs + 1) (new_job (Worker p i) p (Stored w.calls (Worker p i))) t (omega arith) in let b : backs (J1 t).at ≤ backs (w.job t).at = put_backs w.job w.jobs (new_job (Worker p i) p Direct) t (omega arith) in omega (arith, a, b)

-- the pieces of a broadcast are new
pieces_counted : (w : World) (q : Party) (c : Pieces) → w.jobs ≤ c.first → ReturnsHold w → (t : ℕ) → (put_pieces c (λ i j. new_piece q c.count c.pool i) w.job t).counted ≡ (w.job t).counted
pieces_counted w q c l h t = by (is_piece c t) refl
  where
    by : (b : Bool) → is_piece c t ≡ b → (if b then new_piece q c.count c.pool (t - c.first) else w.job t).counted ≡ (w.job t).counted
    by true e = sym ((h.shares).unmade t (let a : c.first ≤ t = (piece_range c t e).0 in omega (arith, a, l)))
    by false e = refl

pieces_backs : (q : Party) (c : Pieces) (J : ℕ → Job) (t : ℕ) → backs (put_pieces c (λ i j. new_piece q c.count c.pool i) J t).at ≤ backs (J t).at
pieces_backs q c J t = by (is_piece c t)
  where
    by : (b : Bool) → backs (if b then new_piece q c.count c.pool (t - c.first) else J t).at ≤ backs (J t).at
    by true = omega arith
    by false = omega arith

deal_returns : (w : World) (q : Party) (d : Count) (p : ℕ) → ReturnsHold w → SharesHold (after_deal w q d p (w.stack q)) → ReturnsHold (after_deal w q d p (w.stack q))
deal_returns w q d p h s = returns_keep w u q (after_call (w.stack q) (RaiseForAll c)) (λ r. refl) (λ t e. each t (is_piece c t) refl e) h s
  where
    c : Pieces
    c = record { count = d; pool = p; first = w.jobs; workers = (w.shape.pool p).workers }

    u : World
    u = after_deal w q d p (w.stack q)

    each : (t : ℕ) (b : Bool) → is_piece c t ≡ b → (if b then new_piece q d p (t - c.first) else w.job t).counted ≡ true → ((w.job t).counted ≡ true) × (all_bare t (after_call (w.stack q) (RaiseForAll c)) + backs (if b then new_piece q d p (t - c.first) else w.job t).at ≤ all_bare t (w.stack q) + backs (w.job t).at)
    each t true e y = absurd (cc)
    each t false e y = (y, (let a : one (is_piece c t) ≡ 0 = ap one e in omega (arith, a)))

cast_returns : (w : World) (q : Party) (p : ℕ) → ReturnsHold w → IfSome (after_cast w q p (w.stack q)) (λ u. SharesHold u → ReturnsHold u)
cast_returns w q p h = if_cond (λ u. SharesHold u → ReturnsHold u) (is_free ((w.stack q).top) && is_pool w.shape p) _ (λ f s. deal_returns w q (OfPool p) p h s)

into_cast_returns : (w : World) (q : Party) (n : ℕ) → ReturnsHold w → IfSome (after_into_cast w q n (w.stack q)) (λ u. SharesHold u → ReturnsHold u)
into_cast_returns w q n h = into_cast_cases (λ u. SharesHold u → ReturnsHold u) w q n (λ z e free held s. deal_returns w q (OfScope z.call z.owner) z.pool h s)

-- and with those of one that waits the number that stands for it
gather_returns : (w : World) (q : Party) (p : ℕ) → ReturnsHold w → IfSome (after_broadcast w q p (w.stack q)) (λ u. SharesHold u → ReturnsHold u)
gather_returns w q p h = if_cond (λ u. SharesHold u → ReturnsHold u) (is_free ((w.stack q).top) && is_pool w.shape p) _ (λ f s. made_returns w q n (put w.call w.calls (new_gathering c.workers t0)) (put J1 t0 (new_whole q p w.calls)) (w.calls + 1) (t0 + 1) w.scopes new counted back h s)
  where
    c : Pieces
    c = record { count = OfCast w.calls q; pool = p; first = w.jobs; workers = (w.shape.pool p).workers }

    t0 : ℕ
    t0 = w.jobs + c.workers

    n : Plan
    n = Gather (record { call = record { number = w.calls; pool = p; job = t0 }; pieces = c })

    J1 : ℕ → Job
    J1 = put_pieces c (λ i j. new_piece q (OfCast w.calls q) p i) w.job

    new : (t : ℕ) → t + 1 ≤ w.jobs → one (is_piece c t) ≤ 0
    new t l = let a : one (is_piece c t) ≡ 0 = ap one (piece_out c t (omega (arith, l))) in omega (arith, a)

    counted1 : (t : ℕ) → (J1 t).counted ≡ (w.job t).counted
    counted1 t = pieces_counted w q c (omega arith) h t

    counted : (t : ℕ) → (put J1 t0 (new_whole q p w.calls) t).counted ≡ (w.job t).counted
    counted t = put_same (λ j. j.counted) J1 t0 (new_whole q p w.calls) t (sym (counted1 t0 ∙ (h.shares).unmade t0 (omega arith))) ∙ counted1 t

    back : (t : ℕ) → backs (put J1 t0 (new_whole q p w.calls) t).at ≤ backs (w.job t).at
    back t = let a : backs (put J1 t0 (new_whole q p w.calls) t).at ≤ backs (J1 t).at = put_backs J1 t0 (new_whole q p w.calls) t (omega arith) in let b : backs (J1 t).at ≤ backs (w.job t).at = pieces_backs q c w.job t in omega (arith, a, b)

feed_returns : (w : World) (d : Count) (p i : ℕ) → ReturnsHold w → SharesHold (after_feed w d p i (w.stack (Worker p i))) → ReturnsHold (after_feed w d p i (w.stack (Worker p i)))
feed_returns w d p i h s = made_returns w (Worker p i) (Feed (record { count = d; pool = p; job = w.jobs; token = w.jobs + 1 })) w.call (put J1 (w.jobs + 1) token) w.calls (w.jobs + 2) w.scopes new counted back h s
  where
    token : Job
    token = new_job (Worker p i) p (TokenOf i (count_book d))

    J1 : ℕ → Job
    J1 = put w.job w.jobs (new_job (Worker p i) p (count_kind d))

    new : (t : ℕ) → t + 1 ≤ w.jobs → one (t == w.jobs) + one (t == (w.jobs + 1)) ≤ 0
    new t b = let a : one (t == w.jobs) ≤ 0 = new_hand t w.jobs b in let d : one (t == (w.jobs + 1)) ≤ 0 = new_hand t (w.jobs + 1) (omega (arith, b)) in omega (arith, a, d)

    counted : (t : ℕ) → (put J1 (w.jobs + 1) token t).counted ≡ (w.job t).counted
    counted t = put_same (λ j. j.counted) J1 (w.jobs + 1) token t (sym (new_counted w (Worker p i) p (count_kind d) h (w.jobs + 1) ∙ (h.shares).unmade (w.jobs + 1) (omega arith))) ∙ new_counted w (Worker p i) p (count_kind d) h t

    back : (t : ℕ) → backs (put J1 (w.jobs + 1) token t).at ≤ backs (w.job t).at
    back t = let a : backs (put J1 (w.jobs + 1) token t).at ≤ backs (J1 t).at = put_backs J1 (w.jobs + 1) token t (omega arith) in let b : backs (J1 t).at ≤ backs (w.job t).at = put_backs w.job w.jobs (new_job (Worker p i) p (count_kind d)) t (omega arith) in omega (arith, a, b)

yield_returns : (w : World) (q : Party) (x : Place) → ((t : ℕ) → bare t x ≡ 0) → ReturnsHold w → IfSome (after_yield w q (w.stack q) x) (λ u. SharesHold u → ReturnsHold u)
yield_returns w (Worker a b) x n h = if_cond (λ u. SharesHold u → ReturnsHold u) (is_free ((w.stack (Worker a b)).top)) _ (λ f s. moved_returns w (record w { stack = put_stack w.stack (Worker a b) (after_call (w.stack (Worker a b)) x) }) (Worker a b) (after_call (w.stack (Worker a b)) x) (λ r. refl) (λ t. refl) (λ t. (let c : bare t x ≡ 0 = n t in omega (arith, c))) h s)
yield_returns w (Caller c) x n h = tt

give_returns : (w : World) (q : Party) (p : ℕ) → ReturnsHold w → IfSome (after_end_pool w q p (w.stack q)) (λ u. SharesHold u → ReturnsHold u)
give_returns w q p h = if_cond (λ u. SharesHold u → ReturnsHold u) (is_free ((w.stack q).top) && (is_pool w.shape p && (w.pool p).held)) _ (λ f s. moved_returns w (record w { stack = put_stack w.stack q (after_call (w.stack q) (LowerCount (OfPool p) PoolValue Resume)); pool = put w.pool p (record (w.pool p) { held = false }) }) q (after_call (w.stack q) (LowerCount (OfPool p) PoolValue Resume)) (λ r. refl) (λ t. refl) (λ t. omega arith) h s)

go_returns : (w : World) (q : Party) → ReturnsHold w → IfSome (step w (Go q)) (λ u. SharesHold u → ReturnsHold u)
go_returns w q h = acted_keeps w q (w.stack q) (target_pool q (act_of q ((w.stack q).top))) (target_worker q (act_of q ((w.stack q).top))) (target_call (act_of q ((w.stack q).top))) (job_at w q (act_of q ((w.stack q).top))) (outcome w q (w.stack q)) (λ u. SharesHold u → ReturnsHold u) (go_by w q ((w.stack q).top) ((w.stack q).below) refl h)

each_returns : (w : World) (e : Event) → ReturnsHold w → IfSome (step w e) (λ u. SharesHold u → ReturnsHold u)
each_returns w (Go q) h = go_returns w q h
each_returns w (From q v) h = from_returns w q ((w.stack q).top) ((w.stack q).below) v refl h
each_returns w (Refuse q) h = refuse_returns w q ((w.stack q).top) ((w.stack q).below) refl h
each_returns w (Miss q) h = miss_returns w q ((w.stack q).top) ((w.stack q).below) refl h
each_returns w (End q d) h = end_returns w q d ((w.stack q).top) ((w.stack q).below) refl h
each_returns w (Spawn q p) h = spawn_returns w q p h
each_returns w (Fifo q p) h = fifo_cases (λ u. SharesHold u → ReturnsHold u) w q p (spawn_returns w q p h) (λ i free s. feed_returns w (OfPool p) p i h s)
each_returns w (Cast q p) h = cast_returns w q p h
each_returns w (Install q p) h = install_returns w q p h
each_returns w (Join q) h = join_returns w q h
each_returns w (OpenScope q p) h = scope_returns w q p h
each_returns w (IntoSpawn q n) h = into_returns w q n h
each_returns w (IntoFifo q n) h = into_fifo_cases (λ u. SharesHold u → ReturnsHold u) w q n (λ z e free held. enter_returns w q z h) (λ z i e free held s. feed_returns w (OfScope z.call z.owner) z.pool i h s)
each_returns w (IntoCast q n) h = into_cast_returns w q n h
each_returns w (Broadcast q p) h = gather_returns w q p h
each_returns w (Yield q) h = yield_returns w q YieldPop (λ t. refl) h
each_returns w (YieldLocal q) h = yield_returns w q LocalPop (λ t. refl) h
each_returns w (EndPool q p) h = give_returns w q p h

pub step_returns : (w : World) (e : Event) → ReturnsHold w → IfSome (step w e) ReturnsHold
step_returns w e h = if_some_map (λ u. SharesHold u × (SharesHold u → ReturnsHold u)) ReturnsHold (λ u f. f.1 (f.0)) (step w e) (if_some_and SharesHold (λ u. SharesHold u → ReturnsHold u) (step w e) (step_shares w e (h.shares)) (each_returns w e h))

pub first_returns : (h : Shape) → ReturnsHold (start h)
first_returns h = record { shares = first_shares h; bare = λ q t c. absurd (let a : false ≡ true = c in cc) }

pub always_returns : (h : Shape) (es : List Event) (w : World) → IsRun (start h) es w → ReturnsHold w
always_returns h es w r = run_keeps ReturnsHold step_returns (start h) w es (first_returns h) r

-- what a party has without a share is not in the count
uncounted : (b : Bool) → (b ≡ true → ⊥) → b ≡ false
uncounted true f = absurd (f refl)
uncounted false f = refl

some_then : {a b : Then} → Some a ≡ Some b → a ≡ b
some_then e = cc

settles_bare : (t : ℕ) (x : Place) (n : Then) → after_settling x ≡ Some n → bare t x ≡ bare_then t n
settles_bare t (SetLatch k) n z = ap (bare_then t) (some_then z)
settles_bare t (SetLockLatch c k) n z = ap (bare_then t) (some_then z)
settles_bare t (LockToSettle k) n z = ap (bare_then t) (some_then z)
settles_bare t (WakeSettled k) n z = ap (bare_then t) (some_then z)
settles_bare t (UnlockSettled k) n z = ap (bare_then t) (some_then z)
settles_bare t _ n z = cc

going : (w : World) → ReturnsHold w → (q : Party) (n : Plan) → ((t : ℕ) → hand_plan t n ≤ all_bare t (w.stack q)) → AllJobs (λ t. (w.job t).counted ≡ false) n
going w h q n f = each n f
  where
    job : (t : ℕ) → 1 ≤ all_bare t (w.stack q) → (w.job t).counted ≡ false
    job t b = uncounted ((w.job t).counted) (λ c. absurd (let a : all_bare t (w.stack q) + backs (w.job t).at ≤ 0 = h.bare q t c in omega (arith, a, b)))

    each : (n : Plan) → ((t : ℕ) → hand_plan t n ≤ all_bare t (w.stack q)) → AllJobs (λ t. (w.job t).counted ≡ false) n
    each (Detach p t) f = job t (let a : one (t == t) ≤ all_bare t (w.stack q) = f t in let b : one (t == t) ≡ 1 = self_one t in omega (arith, a, b))
    each (Here p t) f = job t (let a : one (t == t) ≤ all_bare t (w.stack q) = f t in let b : one (t == t) ≡ 1 = self_one t in omega (arith, a, b))
    each (Send o) f = job (o.job) (let a : one (o.job == o.job) ≤ all_bare (o.job) (w.stack q) = f (o.job) in let b : one (o.job == o.job) ≡ 1 = self_one (o.job) in omega (arith, a, b))
    each (Open o) f = job (o.job) (let a : one (o.job == o.job) ≤ all_bare (o.job) (w.stack q) = f (o.job) in let b : one (o.job == o.job) ≡ 1 = self_one (o.job) in omega (arith, a, b))
    each (Gather g) f = λ t e. job t (let a : one (is_piece g.pieces t) ≤ all_bare t (w.stack q) = f t in let b : one (is_piece g.pieces t) ≡ 1 = ap one e in omega (arith, a, b))
    each (Enter o) f = job (o.job) (let a : one (o.job == o.job) ≤ all_bare (o.job) (w.stack q) = f (o.job) in let b : one (o.job == o.job) ≡ 1 = self_one (o.job) in omega (arith, a, b))
    each (Feed d) f = (
      job (d.job) (let a : one (d.job == d.job) + one (d.job == d.token) ≤ all_bare (d.job) (w.stack q) = f (d.job) in let b : one (d.job == d.job) ≡ 1 = self_one (d.job) in omega (arith, a, b)),
      job (d.token) (let a : one (d.token == d.job) + one (d.token == d.token) ≤ all_bare (d.token) (w.stack q) = f (d.token) in let b : one (d.token == d.token) ≡ 1 = self_one (d.token) in omega (arith, a, b)),
    )
    each (Fork o s) f = (
      job s (let a : one (s == s) + one (s == o.job) ≤ all_bare s (w.stack q) = f s in let b : one (s == s) ≡ 1 = self_one s in omega (arith, a, b)),
      job (o.job) (let a : one (o.job == s) + one (o.job == o.job) ≤ all_bare (o.job) (w.stack q) = f (o.job) in let b : one (o.job == o.job) ≡ 1 = self_one (o.job) in omega (arith, a, b)),
    )

pub returned_so : (w : World) → ReturnsHold w → IsReturned w
returned_so w h = record {
  going = λ q n z. going w h q n (λ t. (let a : bare t ((w.stack q).top) ≡ hand_plan t n = settles_bare t ((w.stack q).top) (GiveBack n) z in omega (arith, a)));
  gone = λ t z. uncounted ((w.job t).counted) (λ c. absurd (let a : all_bare t (w.stack (Caller 0)) + backs (w.job t).at ≤ 0 = h.bare (Caller 0) t c in let b : backs (w.job t).at ≡ 1 = ap backs z in omega (arith, a, b)));
}
