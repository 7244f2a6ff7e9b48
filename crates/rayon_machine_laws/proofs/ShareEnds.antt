-- the end of a run and the making of calls keep the shares; each step does; and so no pool ends early
use Rattle.rayon_machine_places.specs.declared.place.Count.TheVariants.{OfPool, OfScope, OfCast}
use Rattle.rayon_machine_places.specs.declared.place.Count.{Count}
use Rattle.rayon_machine_laws.proofs.Raisers.{unmade_raises}
use Rattle.rayon_machine_places.specs.declared.place.Pieces.{Pieces}
use Rattle.rayon_machine_runs.specs.declared.state.Scope.{Scope}
use Rattle.std.proofs.Common.{arith, refl, sym, ◌∙◌, ap, subst, inl, inr}
use Rattle.std.specs.Prelude.{ℕ, Bool, true, false, ◌&&◌, ◌+◌, ◌==◌, ◌≤◌, ◌<◌, nat_lt, if◌then◌else◌, Some, None, List, [], ◌∷◌, ◌≡◌, IfSome, ◌-◌, ◌++◌, zero, suc}
use Rattle.std.proofs.lemmas.Bool.{eqb-true, ltb-true, ltb-false}
use Rattle.std.proofs.Math.Dec.{ltb}
use Rattle.rayon_machine_places.specs.declared.place.Party.{Party}
use Rattle.rayon_machine_places.specs.declared.place.Party.TheVariants.{Worker, Caller}
use Rattle.rayon_machine_places.specs.declared.place.Ending.{Ending}
use Rattle.rayon_machine_places.specs.declared.place.Ending.TheVariants.{Fine, Fault}
use Rattle.rayon_machine_places.specs.declared.place.JobKind.{JobKind}
use Rattle.rayon_machine_places.specs.declared.place.JobKind.TheVariants.{Detached, Stored, Direct, TokenOf, Scoped, BodyOf, PieceOf, WholeOf}
use Rattle.rayon_machine_places.specs.declared.place.Target.TheVariants.{Termination}
use Rattle.rayon_machine_places.specs.declared.place.Plan.{Plan}
use Rattle.rayon_machine_places.specs.declared.place.Plan.TheVariants.{Detach, Here, Send, Fork, Feed, Open, Enter, Gather}
use Rattle.rayon_machine_places.specs.declared.place.Place.{Place}
use Rattle.rayon_machine_places.specs.declared.place.Place.TheVariants.{ProbeWorking, YieldPop, LocalPop, Run, RaiseCount, FirstSide, SecondSide, AtOnce, Free, Stopped, RaiseForAll}
use Rattle.rayon_machine_runs.specs.declared.event.Event.{Event}
use Rattle.rayon_machine_runs.specs.declared.event.Event.TheVariants.{Go, From, Refuse, Miss, End, Spawn, Fifo, Install, Join, Yield, YieldLocal, EndPool, Cast, Scope as OpenScope, IntoSpawn, IntoFifo, IntoCast, Broadcast}
use Rattle.rayon_machine_runs.specs.declared.state.Whereabouts.TheVariants.{Nowhere, Running, Over}
use Rattle.rayon_machine_runs.specs.declared.state.Job.{Job}
use Rattle.rayon_machine_runs.specs.declared.state.Call.{Call}
use Rattle.rayon_machine_places.specs.Places.{same_party, is_member, plan_job, fresh, act_of, goes_on, is_free, count_kind, count_book}
use Rattle.rayon_machine_runs.specs.World.{Shape, World, at_job}
use Rattle.rayon_machine_places.specs.Targets.{target_pool, target_worker, target_call}
use Rattle.rayon_machine_runs.specs.Steps.{put, put_stack, after_close, after_end, after_call, is_pool, new_job, new_call, after_spawn, after_fifo, after_send, after_install, after_join, step, after_cast, put_pieces, new_piece, is_piece, after_scope, after_into, holds}
use Rattle.rayon_machine_runs.specs.Steps.{after_feed, after_deal, after_enter, after_into_fifo, after_into_cast, after_broadcast, new_whole, new_gathering}
use Rattle.rayon_machine_runs.specs.Runs.{first_place, start, IsRun}
use Rattle.rayon_machine_laws.specs.Once.{one, runs_in}
use Rattle.rayon_machine_laws.specs.Shares.{share, shares_in, shares, is_busy, IsGone, is_scoped}
use Rattle.rayon_machine_laws.proofs.Frame.{either, fifo_cases, same_party_true, if_cond, acted_keeps, put_same, put_new, put_old, stack_mine, piece_range, piece_old, piece_out, into_cases, into_fifo_cases, into_cast_cases}
use Rattle.rayon_machine_laws.proofs.Ties.{job_at, outcome}
use Rattle.rayon_machine_laws.proofs.Events.{run_keeps}
use Rattle.rayon_machine_laws.proofs.Hands.{worked}
use Rattle.rayon_machine_laws.proofs.Located.{loc_at, is_loc, where_is, at_work, Work}
use Rattle.rayon_machine_laws.proofs.Claims.{is_detached, SaysRun}
use Rattle.rayon_machine_laws.proofs.ClaimRuns.{CallsHold, top_says}
use Rattle.rayon_machine_laws.proofs.ClaimEvents.{ended_world}
use Rattle.rayon_machine_laws.proofs.ClaimMakes.{calling, below_new, step_calls, first_calls}
use Rattle.rayon_machine_laws.proofs.Amounts.{raises, values, raises_in, values_in, all_raises, all_values, waiting}
use Rattle.rayon_machine_laws.proofs.Tokens.{sum_below, sum_same, sum_least, sum_more, sum_tail}
use Rattle.rayon_machine_laws.proofs.ShareActs.{with_job, tally, SharesHold, one_most, one_not}
use Rattle.rayon_machine_laws.proofs.ShareRuns.{other_le, still_hold}
use Rattle.rayon_machine_laws.proofs.ShareSteps.{tally_same, self_one, tally_off, tally_on}
use Rattle.rayon_machine_laws.proofs.ShareEvents.{go_shares, with_calls, from_shares, refuse_shares, miss_shares, above, raises_called, yield_shares, give_shares}

-- the share that the end of a run of a detached job, or of one of a scope, brings to the stack
abbrev pub freed : ℕ → ℕ → JobKind → ℕ
freed s t (Detached p) = one (s == t)
freed s t (Scoped c o) = one (s == t)
freed s t (PieceOf c o) = one (s == t)
freed s t _ = 0

goes_on_shares : (s : ℕ) (f : Place) (e : Ending) → (share s (goes_on f e) ≡ share s f) × (values s (goes_on f e) ≡ values s f) × (raises s (goes_on f e) ≡ raises s f)
goes_on_shares s (FirstSide o a) Fine = (omega arith, omega arith, omega arith)
goes_on_shares s (FirstSide o a) Fault = (omega arith, omega arith, omega arith)
goes_on_shares s (SecondSide o) e = (omega arith, omega arith, omega arith)
goes_on_shares s (AtOnce p t) e = (omega arith, omega arith, omega arith)
goes_on_shares s f e = (omega arith, omega arith, omega arith)

pub closed_shares : (s t : ℕ) (k : JobKind) (e : Ending) (fs : List Place) → (shares s (after_close t k e fs) ≡ freed s t k + shares_in s fs) × (all_values s (after_close t k e fs) ≡ values_in s fs) × (all_raises s (after_close t k e fs) ≡ raises_in s fs)
closed_shares s t (Detached p) e fs = (omega arith, omega arith, omega arith)
closed_shares s t (Stored c o) e fs = (omega arith, omega arith, omega arith)
closed_shares s t (Scoped c o) e fs = (omega arith, omega arith, omega arith)
closed_shares s t (PieceOf c o) e fs = (omega arith, omega arith, omega arith)
closed_shares s t Direct e [] = (omega arith, omega arith, omega arith)
closed_shares s t (TokenOf i9 b8) e [] = (omega arith, omega arith, omega arith)
closed_shares s t (BodyOf c9 o9) e [] = (omega arith, omega arith, omega arith)
closed_shares s t (WholeOf c9 o9) e [] = (omega arith, omega arith, omega arith)
closed_shares s t Direct e (f ∷ fs) = (
  (let a : share s (goes_on f e) ≡ share s f = (goes_on_shares s f e).0 in omega (arith, a)),
  (let a : values s (goes_on f e) ≡ values s f = (goes_on_shares s f e).1 in omega (arith, a)),
  (let a : raises s (goes_on f e) ≡ raises s f = (goes_on_shares s f e).2 in omega (arith, a)),
)
closed_shares s t (TokenOf i9 b8) e (f ∷ fs) = (
  (let a : share s (goes_on f e) ≡ share s f = (goes_on_shares s f e).0 in omega (arith, a)),
  (let a : values s (goes_on f e) ≡ values s f = (goes_on_shares s f e).1 in omega (arith, a)),
  (let a : raises s (goes_on f e) ≡ raises s f = (goes_on_shares s f e).2 in omega (arith, a)),
)
closed_shares s t (BodyOf c9 o9) e (f ∷ fs) = (
  (let a : share s (goes_on f e) ≡ share s f = (goes_on_shares s f e).0 in omega (arith, a)),
  (let a : values s (goes_on f e) ≡ values s f = (goes_on_shares s f e).1 in omega (arith, a)),
  (let a : raises s (goes_on f e) ≡ raises s f = (goes_on_shares s f e).2 in omega (arith, a)),
)
closed_shares s t (WholeOf c9 o9) e (f ∷ fs) = (
  (let a : share s (goes_on f e) ≡ share s f = (goes_on_shares s f e).0 in omega (arith, a)),
  (let a : values s (goes_on f e) ≡ values s f = (goes_on_shares s f e).1 in omega (arith, a)),
  (let a : raises s (goes_on f e) ≡ raises s f = (goes_on_shares s f e).2 in omega (arith, a)),
)

and_none : (b : Bool) → one (b && false) ≡ 0
and_none true = refl
and_none false = refl

freed_had : (w : World) (q : Party) (s t : ℕ) (k : JobKind) → (s == t) ≡ true → SaysRun w t k → (w.job t).at ≡ Running q → freed s t k ≤ with_job (w.job s)
freed_had w q s t (Detached p) e r a = let i : s ≡ t = eqb-true s t e in let b : one (s == t) ≡ 1 = ap one e in let c : with_job (w.job s) ≡ with_job (w.job t) = ap (λ n. with_job (w.job n)) i in
    let d : with_job (w.job t) ≡ 1 = ap (λ k. one (is_detached k && is_busy (w.job t).at)) (r.1) ∙ ap (λ v. one (is_busy v)) a in omega (arith, b, c, d)
freed_had w q s t (Scoped c o) e r a = let i : s ≡ t = eqb-true s t e in let b : one (s == t) ≡ 1 = ap one e in let c : with_job (w.job s) ≡ with_job (w.job t) = ap (λ n. with_job (w.job n)) i in
    let d : with_job (w.job t) ≡ 1 = ap (λ k. one (is_detached k && is_busy (w.job t).at)) (r.1) ∙ ap (λ v. one (is_busy v)) a in omega (arith, b, c, d)
freed_had w q s t (PieceOf c o) e r a = let i : s ≡ t = eqb-true s t e in let b : one (s == t) ≡ 1 = ap one e in let c : with_job (w.job s) ≡ with_job (w.job t) = ap (λ n. with_job (w.job n)) i in
    let d : with_job (w.job t) ≡ 1 = ap (λ k. one (is_detached k && is_busy (w.job t).at)) (r.1) ∙ ap (λ v. one (is_busy v)) a in omega (arith, b, c, d)
freed_had w q s t (Stored c o) e r a = omega arith
freed_had w q s t Direct e r a = omega arith
freed_had w q s t (TokenOf i9 b8) e r a = omega arith
freed_had w q s t (BodyOf c9 o9) e r a = omega arith
freed_had w q s t (WholeOf c9 o9) e r a = omega arith

pub freed_none : (s t : ℕ) (k : JobKind) → (s == t) ≡ false → freed s t k ≡ 0
freed_none s t (Detached p) e = ap one e
freed_none s t (Scoped c o) e = ap one e
freed_none s t (PieceOf c o) e = ap one e
freed_none s t (Stored c o) e = refl
freed_none s t Direct e = refl
freed_none s t (TokenOf i9 b8) e = refl
freed_none s t (BodyOf c9 o9) e = refl
freed_none s t (WholeOf c9 o9) e = refl

end_shares : (w : World) (q : Party) (d : Ending) (x : Place) (fs : List Place) → w.stack q ≡ record { top = x; below = fs } → SharesHold w → IfSome (after_end w q d (record { top = x; below = fs }) x) (λ u. CallsHold u → SharesHold u)
end_shares w q d (Run t k) fs z h = λ ch. still_hold w (ended_world w q d t k fs) q (after_close t k d fs) ch (λ s. refl) (omega arith) counted (λ p. refl)
    (λ p. (let a : sum_below w.jobs (λ s. tally p ((ended_world w q d t k fs).job s)) ≡ sum_below w.jobs (λ s. tally p (w.job s)) = sum_same w.jobs (λ s. tally p ((ended_world w q d t k fs).job s)) (λ s. tally p (w.job s))
    (λ s b. tally_same p ((ended_world w q d t k fs).job s) (w.job s) (counted s) (put_same (λ j. j.kind) w.job t (at_job (w.job t) (Over d)) s refl) (put_same (λ j. j.pool) w.job t (at_job (w.job t) (Over d)) s refl)) in omega (arith, a)))
    (λ p. refl) (λ s. line s (s == t) refl)
    (λ p. (let a : all_values p (put_stack w.stack q (after_close t k d fs) q) ≡ all_values p (after_close t k d fs) = ap (all_values p) (stack_mine w.stack q (after_close t k d fs)) in let b : all_values p (after_close t k d fs) ≡ values_in p fs = (closed_shares p t k d fs).1 in
    let c : all_values p (w.stack q) ≡ (0 + values_in p fs) = ap (all_values p) z in omega (arith, a, b, c)))
    (λ s r. raised s r (same_party r q) refl) h
  where
    counted : (s : ℕ) → ((ended_world w q d t k fs).job s).counted ≡ (w.job s).counted
    counted s = put_same (λ j. j.counted) w.job t (at_job (w.job t) (Over d)) s refl

    running : (w.job t).at ≡ Running q
    running = (at_work ((w.job t).at) ((w.job t).runs) q (where_is (Work q) (loc_at (w.job t)) (let a : worked t (w.stack q) ≡ is_loc (Work q) (loc_at (w.job t)) = (((h.calls).jobs).ok).placed (Work q) t in let b : worked t (w.stack q) ≡ (one (t == t) + runs_in t fs) = ap (worked t) z in
        let c : one (t == t) ≡ 1 = self_one t in omega (arith, a, b, c)))).1

    mine : (s : ℕ) → shares s (put_stack w.stack q (after_close t k d fs) q) ≤ freed s t k + shares s (w.stack q)
    mine s = let a : shares s (put_stack w.stack q (after_close t k d fs) q) ≡ shares s (after_close t k d fs) = ap (shares s) (stack_mine w.stack q (after_close t k d fs)) in let b : shares s (after_close t k d fs) ≡ freed s t k + shares_in s fs = (closed_shares s t k d fs).0 in
        let c : shares s (w.stack q) ≡ (0 + shares_in s fs) = ap (shares s) z in omega (arith, a, b, c)

    line : (s : ℕ) (b : Bool) → (s == t) ≡ b → shares s (put_stack w.stack q (after_close t k d fs) q) + with_job (if b then at_job (w.job t) (Over d) else w.job s) ≤ shares s (w.stack q) + with_job (w.job s)
    line s true e = let a : shares s (put_stack w.stack q (after_close t k d fs) q) ≤ freed s t k + shares s (w.stack q) = mine s in let b : with_job (at_job (w.job t) (Over d)) ≡ 0 = and_none (is_detached (w.job t).kind) in let c : freed s t k ≤ with_job (w.job s) =
        freed_had w q s t k e (top_says w q (Run t k) fs (h.calls) z) running in omega (arith, a, b, c)
    line s false e = let a : shares s (put_stack w.stack q (after_close t k d fs) q) ≤ freed s t k + shares s (w.stack q) = mine s in let b : freed s t k ≡ 0 = freed_none s t k e in omega (arith, a, b)

    raised : (s : ℕ) (r : Party) (b : Bool) → same_party r q ≡ b → all_raises s (put_stack w.stack q (after_close t k d fs) r) + one (w.job s).counted ≤ 1
    raised s r true e = subst (λ r. all_raises s (put_stack w.stack q (after_close t k d fs) r) + one (w.job s).counted ≤ 1) (sym (same_party_true r q e))
        (let a : all_raises s (put_stack w.stack q (after_close t k d fs) q) ≡ all_raises s (after_close t k d fs) = ap (all_raises s) (stack_mine w.stack q (after_close t k d fs)) in let b : all_raises s (after_close t k d fs) ≡ raises_in s fs = (closed_shares s t k d fs).2 in
        let c : all_raises s (w.stack q) ≡ (0 + raises_in s fs) = ap (all_raises s) z in let f : all_raises s (w.stack q) + one (w.job s).counted ≤ 1 = h.unraised q s in omega (arith, a, b, c, f))
    raised s r false e = let a : all_raises s (put_stack w.stack q (after_close t k d fs) r) ≤ all_raises s (w.stack r) = other_le (all_raises s) w q (after_close t k d fs) r e in let f : all_raises s (w.stack r) + one (w.job s).counted ≤ 1 = h.unraised r s in omega (arith, a, f)
end_shares w q d _ fs z h = tt

-- a call begins: its jobs are new, and have no share yet
begun_shares : (w : World) (q : Party) (n : Plan) (C : ℕ → Call) (J : ℕ → Job) (c j : ℕ) (l : List Scope) → ((t : ℕ) → 1 ≤ raises t (RaiseCount n) → w.jobs ≤ t) → ((t : ℕ) → raises t (RaiseCount n) ≤ 1) → w.jobs ≤ j → ((t : ℕ) → (J t).counted ≡ (w.job t).counted)
    → ((p : ℕ) → sum_below j (λ t. tally p (J t)) ≡ sum_below w.jobs (λ t. tally p (w.job t))) → ((t : ℕ) → with_job (J t) ≤ with_job (w.job t)) → SharesHold w → CallsHold (record (calling w q n C J c j) { scopes = l }) → SharesHold (record (calling w q n C J c j) { scopes = l })
begun_shares w q n C J c j l new most more co su wi h ch = still_hold w (record (calling w q n C J c j) { scopes = l }) q (after_call (w.stack q) (RaiseCount n)) ch (λ s. refl) more co (λ p. refl) su (λ p. refl)
    (λ t. (let a : shares t (put_stack w.stack q (after_call (w.stack q) (RaiseCount n)) q) ≡ (0 + shares t (w.stack q)) = above (share t) (shares_in t) (shares t) w q (RaiseCount n) (λ k. refl) (λ y ys. refl) in let b : with_job (J t) ≤ with_job (w.job t) = wi t in omega (arith, a, b)))
    (λ p. (let a : all_values p (put_stack w.stack q (after_call (w.stack q) (RaiseCount n)) q) ≡ (0 + all_values p (w.stack q)) = above (values p) (values_in p) (all_values p) w q (RaiseCount n) (λ k. refl) (λ y ys. refl) in omega (arith, a)))
    (λ t s. raised t s (raises t (RaiseCount n)) refl) h
  where
    raised : (t : ℕ) (s : Party) (b : ℕ) → raises t (RaiseCount n) ≡ b → all_raises t (put_stack w.stack q (after_call (w.stack q) (RaiseCount n)) s) + one (w.job t).counted ≤ 1
    raised t s (suc b) e = let y : w.jobs ≤ t = new t (let g : 1 ≤ raises t (RaiseCount n) = omega (arith, e) in g) in
        let a : all_raises t (put_stack w.stack q (after_call (w.stack q) (RaiseCount n)) s) ≤ raises t (RaiseCount n) + all_raises t (w.stack s) = raises_called w q (RaiseCount n) t s in
        let d : raises t (RaiseCount n) ≤ 1 = most t in
        let f : all_raises t (w.stack s) ≡ 0 = unmade_raises w (h.calls) s t y in
        let l : one (w.job t).counted ≡ 0 = ap one (h.unmade t y) in omega (arith, a, d, f, l)
    raised t s zero e = let a : all_raises t (put_stack w.stack q (after_call (w.stack q) (RaiseCount n)) s) ≤ raises t (RaiseCount n) + all_raises t (w.stack s) = raises_called w q (RaiseCount n) t s in
        let f : all_raises t (w.stack s) + one (w.job t).counted ≤ 1 = h.unraised s t in omega (arith, a, e, f)

-- one that makes no broadcast
made_shares : (w : World) (q : Party) (n : Plan) (C : ℕ → Call) (J : ℕ → Job) (c j : ℕ) (l : List Scope) → ((t : ℕ) → waiting t n ≡ 0) → w.jobs ≤ plan_job n → w.jobs ≤ j → ((t : ℕ) → (J t).counted ≡ (w.job t).counted)
    → ((p : ℕ) → sum_below j (λ t. tally p (J t)) ≡ sum_below w.jobs (λ t. tally p (w.job t))) → ((t : ℕ) → with_job (J t) ≤ with_job (w.job t)) → SharesHold w → CallsHold (record (calling w q n C J c j) { scopes = l }) → SharesHold (record (calling w q n C J c j) { scopes = l })
made_shares w q n C J c j l none new more co su wi h ch = begun_shares w q n C J c j l (λ t m. at t (t == plan_job n) refl m) (λ t. (let a : one (t == plan_job n) ≤ 1 = one_most (t == plan_job n) in let b : waiting t n ≡ 0 = none t in omega (arith, a, b))) more co su wi h ch
  where
    at : (t : ℕ) (b : Bool) → (t == plan_job n) ≡ b → 1 ≤ one (t == plan_job n) + waiting t n → w.jobs ≤ t
    at t true e m = let i : t ≡ plan_job n = eqb-true t (plan_job n) e in omega (arith, i, new)
    at t false e m = absurd (let a : one (t == plan_job n) ≡ 0 = ap one e in let b : waiting t n ≡ 0 = none t in omega (arith, a, b, m))

new_with : (q : Party) (p : ℕ) (k : JobKind) (n : ℕ) → with_job (new_job q p k) ≤ n
new_with q p k n = let a : with_job (new_job q p k) ≡ 0 = and_none (is_detached k) in omega (arith, a)

one_made : (w : World) (q : Party) (p : ℕ) (k : JobKind) → SharesHold w → ((t : ℕ) → (put w.job w.jobs (new_job q p k) t).counted ≡ (w.job t).counted) × ((t : ℕ) → with_job (put w.job w.jobs (new_job q p k) t) ≤ with_job (w.job t))
    × ((r : ℕ) → sum_below (w.jobs + 1) (λ t. tally r (put w.job w.jobs (new_job q p k) t)) ≡ sum_below w.jobs (λ t. tally r (w.job t)))
one_made w q p k h = (
  λ t. put_same (λ j. j.counted) w.job w.jobs (new_job q p k) t (sym (h.unmade w.jobs (omega arith))),
  λ t. with_it t (t == w.jobs),
  λ r.
      (let a : sum_below (w.jobs + 1) (λ t. tally r (put w.job w.jobs (new_job q p k) t)) ≡ sum_below w.jobs (λ t. tally r (put w.job w.jobs (new_job q p k) t)) = sum_more w.jobs (λ t. tally r (put w.job w.jobs (new_job q p k) t)) (ap (λ j. tally r j) (put_new w.job w.jobs (new_job q p k))) in
      let b : sum_below w.jobs (λ t. tally r (put w.job w.jobs (new_job q p k) t)) ≡ sum_below w.jobs (λ t. tally r (w.job t)) =
      sum_same w.jobs (λ t. tally r (put w.job w.jobs (new_job q p k) t)) (λ t. tally r (w.job t)) (λ t z. ap (λ j. tally r j) (put_old w.job w.jobs (new_job q p k) t (below_new t w.jobs z))) in omega (arith, a, b)),
)
  where
    with_it : (t : ℕ) (b : Bool) → with_job (if b then new_job q p k else w.job t) ≤ with_job (w.job t)
    with_it t true = new_with q p k (with_job (w.job t))
    with_it t false = omega arith

spawn_shares : (w : World) (q : Party) (p : ℕ) → SharesHold w → IfSome (after_spawn w q p (w.stack q)) (λ u. CallsHold u → SharesHold u)
spawn_shares w q p h = if_cond (λ u. CallsHold u → SharesHold u) (is_free ((w.stack q).top) && is_pool w.shape p) _
    (λ f ch. (let m = one_made w q p (Detached p) h in made_shares w q (Detach p w.jobs) w.call (put w.job w.jobs (new_job q p (Detached p))) w.calls (w.jobs + 1) w.scopes (λ t. refl) (omega arith) (omega arith) (m.0) (m.2) (m.1) h ch))

sent_shares : (w : World) (q : Party) (p : ℕ) (b : Bool) → SharesHold w → CallsHold (after_send w q p (w.stack q) b) → SharesHold (after_send w q p (w.stack q) b)
sent_shares w q p true h ch = let m = one_made w q p Direct h in made_shares w q (Here p w.jobs) w.call (put w.job w.jobs (new_job q p Direct)) w.calls (w.jobs + 1) w.scopes (λ t. refl) (omega arith) (omega arith) (m.0) (m.2) (m.1) h ch
sent_shares w q p false h ch = let m = one_made w q p (Stored w.calls q) h in made_shares w q (Send (record { number = w.calls; pool = p; job = w.jobs })) (put w.call w.calls (new_call None w.jobs)) (put w.job w.jobs (new_job q p (Stored w.calls q))) (w.calls + 1) (w.jobs + 1) w.scopes
    (λ t. refl) (omega arith) (omega arith) (m.0) (m.2) (m.1) h ch

scope_shares : (w : World) (q : Party) (p : ℕ) → SharesHold w → IfSome (after_scope w q p (w.stack q)) (λ u. CallsHold u → SharesHold u)
scope_shares w q p h = if_cond (λ u. CallsHold u → SharesHold u) (is_free ((w.stack q).top) && is_pool w.shape p) _
    (λ f ch. (let m = one_made w q p (BodyOf w.calls q) h in made_shares w q (Open (record { number = w.calls; pool = p; job = w.jobs })) (put w.call w.calls (new_call None w.jobs)) (put w.job w.jobs (new_job q p (BodyOf w.calls q))) (w.calls + 1) (w.jobs + 1)
    (w.scopes ++ record { call = w.calls; pool = p; owner = q } ∷ []) (λ t. refl) (omega arith) (omega arith) (m.0) (m.2) (m.1) h ch))

enter_shares : (w : World) (q : Party) (z : Scope) → SharesHold w → IfSome (after_enter w q (w.stack q) (Some z)) (λ u. CallsHold u → SharesHold u)
enter_shares w q z h = if_cond (λ u. CallsHold u → SharesHold u) (is_free ((w.stack q).top) && holds z.call (w.stack q)) _
    (λ f ch. (let m = one_made w q (z.pool) (Scoped z.call z.owner) h in made_shares w q (Enter (record { call = z.call; owner = z.owner; pool = z.pool; job = w.jobs })) w.call (put w.job w.jobs (new_job q z.pool (Scoped z.call z.owner))) w.calls (w.jobs + 1) w.scopes (λ t. refl) (omega arith)
    (omega arith) (m.0) (m.2) (m.1) h ch))

into_shares : (w : World) (q : Party) (n : ℕ) → SharesHold w → IfSome (after_into w q n (w.stack q)) (λ u. CallsHold u → SharesHold u)
into_shares w q n h = into_cases (λ u. CallsHold u → SharesHold u) w q n (λ z e free held. enter_shares w q z h)

install_shares : (w : World) (q : Party) (p : ℕ) → SharesHold w → IfSome (after_install w q p (w.stack q)) (λ u. CallsHold u → SharesHold u)
install_shares w q p h = if_cond (λ u. CallsHold u → SharesHold u) (is_free ((w.stack q).top) && is_pool w.shape p) _ (λ f ch. sent_shares w q p (is_member q p) h ch)

-- the shares where two jobs are new
two_made : (w : World) (q : Party) (p : ℕ) (d k : JobKind) → SharesHold w → ((t : ℕ) → (put (put w.job w.jobs (new_job q p d)) (w.jobs + 1) (new_job q p k) t).counted ≡ (w.job t).counted)
    × ((t : ℕ) → with_job (put (put w.job w.jobs (new_job q p d)) (w.jobs + 1) (new_job q p k) t) ≤ with_job (w.job t)) × ((r : ℕ) → sum_below (w.jobs + 2) (λ t. tally r (put (put w.job w.jobs (new_job q p d)) (w.jobs + 1) (new_job q p k) t)) ≡ sum_below w.jobs (λ t. tally r (w.job t)))
two_made w q p d k h = (counted, withs, sums)
  where
    J1 : ℕ → Job
    J1 = put w.job w.jobs (new_job q p d)

    J2 : ℕ → Job
    J2 = put (put w.job w.jobs (new_job q p d)) (w.jobs + 1) (new_job q p k)

    m : ((t : ℕ) → (J1 t).counted ≡ (w.job t).counted) × ((t : ℕ) → with_job (J1 t) ≤ with_job (w.job t)) × ((r : ℕ) → sum_below (w.jobs + 1) (λ t. tally r (J1 t)) ≡ sum_below w.jobs (λ t. tally r (w.job t)))
    m = one_made w q p d h

    counted : (t : ℕ) → (J2 t).counted ≡ (w.job t).counted
    counted t = put_same (λ j. j.counted) J1 (w.jobs + 1) (new_job q p k) t (sym (m.0 (w.jobs + 1) ∙ h.unmade (w.jobs + 1) (omega arith))) ∙ m.0 t

    withs : (t : ℕ) → with_job (J2 t) ≤ with_job (w.job t)
    withs t = by (t == (w.jobs + 1))
      where
        by : (b : Bool) → with_job (if b then new_job q p k else J1 t) ≤ with_job (w.job t)
        by true = new_with q p k (with_job (w.job t))
        by false = m.1 t

    sums : (r : ℕ) → sum_below (w.jobs + 2) (λ t. tally r (J2 t)) ≡ sum_below w.jobs (λ t. tally r (w.job t))
    sums r = let a : sum_below ((w.jobs + 1) + 1) (λ t. tally r (J2 t)) ≡ sum_below (w.jobs + 1) (λ t. tally r (J2 t)) = sum_more (w.jobs + 1) (λ t. tally r (J2 t)) (ap (λ j. tally r j) (put_new J1 (w.jobs + 1) (new_job q p k))) in
        let b : sum_below (w.jobs + 1) (λ t. tally r (J2 t)) ≡ sum_below (w.jobs + 1) (λ t. tally r (J1 t)) = sum_same (w.jobs + 1) (λ t. tally r (J2 t)) (λ t. tally r (J1 t)) (λ t z. ap (λ j. tally r j) (put_old J1 (w.jobs + 1) (new_job q p k) t (below_new t (w.jobs + 1) z))) in
        let c : sum_below (w.jobs + 1) (λ t. tally r (J1 t)) ≡ sum_below w.jobs (λ t. tally r (w.job t)) = m.2 r in
        let d : sum_below (w.jobs + 2) (λ t. tally r (J2 t)) ≡ sum_below ((w.jobs + 1) + 1) (λ t. tally r (J2 t)) = ap (λ n. sum_below n (λ t. tally r (J2 t))) (let g : w.jobs + 2 ≡ (w.jobs + 1) + 1 = omega arith in g) in omega (arith, a, b, c, d)

join_shares : (w : World) (q : Party) → SharesHold w → IfSome (after_join w q (w.stack q)) (λ u. CallsHold u → SharesHold u)
join_shares w (Caller n) h = tt
join_shares w (Worker p i) h = if_cond (λ u. CallsHold u → SharesHold u) (is_free ((w.stack (Worker p i)).top)) _
    (λ f ch. (let m = two_made w (Worker p i) p Direct (Stored w.calls (Worker p i)) h in made_shares w (Worker p i) (Fork (record { number = w.calls; pool = p; job = w.jobs + 1 }) w.jobs) (put w.call w.calls (new_call (Some w.jobs) (w.jobs + 1)))
    (put (put w.job w.jobs (new_job (Worker p i) p Direct)) (w.jobs + 1) (new_job (Worker p i) p (Stored w.calls (Worker p i)))) (w.calls + 1) (w.jobs + 2) w.scopes (λ t. refl) (omega arith) (omega arith) (m.0) (m.2) (m.1) h ch))

feed_shares : (w : World) (k : Count) (p i : ℕ) → SharesHold w → CallsHold (after_feed w k p i (w.stack (Worker p i))) → SharesHold (after_feed w k p i (w.stack (Worker p i)))
feed_shares w k p i h ch = let m = two_made w (Worker p i) p (count_kind k) (TokenOf i (count_book k)) h in made_shares w (Worker p i) (Feed (record { count = k; pool = p; job = w.jobs; token = w.jobs + 1 })) w.call
    (put (put w.job w.jobs (new_job (Worker p i) p (count_kind k))) (w.jobs + 1) (new_job (Worker p i) p (TokenOf i (count_book k)))) w.calls (w.jobs + 2) w.scopes (λ t. refl) (omega arith) (omega arith) (m.0) (m.2) (m.1) h ch

fifo_shares : (w : World) (q : Party) (p : ℕ) → SharesHold w → IfSome (after_fifo w q p (w.stack q)) (λ u. CallsHold u → SharesHold u)
fifo_shares w q p h = fifo_cases (λ u. CallsHold u → SharesHold u) w q p (spawn_shares w q p h) (λ i free ch. feed_shares w (OfPool p) p i h ch)

into_fifo_shares : (w : World) (q : Party) (n : ℕ) → SharesHold w → IfSome (after_into_fifo w q n (w.stack q)) (λ u. CallsHold u → SharesHold u)
into_fifo_shares w q n h = into_fifo_cases (λ u. CallsHold u → SharesHold u) w q n (λ z e free held. enter_shares w q z h) (λ z i e free held ch. feed_shares w (OfScope z.call z.owner) z.pool i h ch)

-- the pieces of a broadcast are new, and have no shares yet
pieces_idle : (q : Party) (c : Pieces) (J : ℕ → Job) (t : ℕ) → with_job (put_pieces c (λ i j. new_piece q c.count c.pool i) J t) ≤ with_job (J t)
pieces_idle q c J t = by (is_piece c t)
  where
    by : (b : Bool) → with_job (if b then new_piece q c.count c.pool (t - c.first) else J t) ≤ with_job (J t)
    by true = let a : with_job (new_piece q c.count c.pool (t - c.first)) ≡ 0 = and_none (is_detached (count_kind c.count)) in omega (arith, a)
    by false = omega arith

pieces_uncounted : (w : World) (q : Party) (c : Pieces) → w.jobs ≤ c.first → SharesHold w → (t : ℕ) → (put_pieces c (λ i j. new_piece q c.count c.pool i) w.job t).counted ≡ (w.job t).counted
pieces_uncounted w q c l h t = by (is_piece c t) refl
  where
    by : (b : Bool) → is_piece c t ≡ b → (if b then new_piece q c.count c.pool (t - c.first) else w.job t).counted ≡ (w.job t).counted
    by true e = sym (h.unmade t (let a : c.first ≤ t = (piece_range c t e).0 in omega (arith, a, l)))
    by false e = refl

-- a broadcast begins
deal_shares : (w : World) (q : Party) (d : Count) (p : ℕ) → SharesHold w → CallsHold (after_deal w q d p (w.stack q)) → SharesHold (after_deal w q d p (w.stack q))
deal_shares w q d p h ch = still_hold w u q (after_call (w.stack q) (RaiseForAll c)) ch (λ s. refl) (omega arith) (pieces_uncounted w q c (omega arith) h) (λ r. refl) sums (λ r. refl)
    (λ t. (let a : shares t (put_stack w.stack q (after_call (w.stack q) (RaiseForAll c)) q) ≡ (0 + shares t (w.stack q)) = above (share t) (shares_in t) (shares t) w q (RaiseForAll c) (λ k. refl) (λ y ys. refl) in let b : with_job (J t) ≤ with_job (w.job t) = pieces_idle q c w.job t in
    omega (arith, a, b)))
    (λ r. (let a : all_values r (put_stack w.stack q (after_call (w.stack q) (RaiseForAll c)) q) ≡ (0 + all_values r (w.stack q)) = above (values r) (values_in r) (all_values r) w q (RaiseForAll c) (λ k. refl) (λ y ys. refl) in omega (arith, a)))
    (λ t s. raised t s (is_piece c t) refl) h
  where
    c : Pieces
    c = record { count = d; pool = p; first = w.jobs; workers = (w.shape.pool p).workers }

    J : ℕ → Job
    J = put_pieces c (λ i j. new_piece q d p i) w.job

    u : World
    u = after_deal w q d p (w.stack q)

    sums : (r : ℕ) → sum_below (w.jobs + c.workers) (λ t. tally r (J t)) ≡ sum_below w.jobs (λ t. tally r (w.job t))
    sums r = sum_tail w.jobs c.workers (λ t. tally r (J t)) (λ t y. tally_off r (J t) (pieces_uncounted w q c (omega arith) h t ∙ h.unmade t y))
        ∙ sum_same w.jobs (λ t. tally r (J t)) (λ t. tally r (w.job t)) (λ t y. ap (tally r) (piece_old c (λ i j. new_piece q d p i) w.job t (piece_out c t (omega (arith, y)))))

    raised : (t : ℕ) (s : Party) (b : Bool) → is_piece c t ≡ b → all_raises t (put_stack w.stack q (after_call (w.stack q) (RaiseForAll c)) s) + one (w.job t).counted ≤ 1
    raised t s true e = let b : w.jobs ≤ t = (piece_range c t e).0 in
        let a : all_raises t (put_stack w.stack q (after_call (w.stack q) (RaiseForAll c)) s) ≤ one (is_piece c t) + all_raises t (w.stack s) = raises_called w q (RaiseForAll c) t s in
        let d : one (is_piece c t) ≤ 1 = one_most (is_piece c t) in
        let f : all_raises t (w.stack s) ≡ 0 = unmade_raises w (h.calls) s t b in
        let l : one (w.job t).counted ≡ 0 = ap one (h.unmade t b) in omega (arith, a, d, f, l)
    raised t s false e = let a : all_raises t (put_stack w.stack q (after_call (w.stack q) (RaiseForAll c)) s) ≤ one (is_piece c t) + all_raises t (w.stack s) = raises_called w q (RaiseForAll c) t s in
        let d : one (is_piece c t) ≡ 0 = ap one e in let f : all_raises t (w.stack s) + one (w.job t).counted ≤ 1 = h.unraised s t in omega (arith, a, d, f)

cast_shares : (w : World) (q : Party) (p : ℕ) → SharesHold w → IfSome (after_cast w q p (w.stack q)) (λ u. CallsHold u → SharesHold u)
cast_shares w q p h = if_cond (λ u. CallsHold u → SharesHold u) (is_free ((w.stack q).top) && is_pool w.shape p) _ (λ f ch. deal_shares w q (OfPool p) p h ch)

into_cast_shares : (w : World) (q : Party) (n : ℕ) → SharesHold w → IfSome (after_into_cast w q n (w.stack q)) (λ u. CallsHold u → SharesHold u)
into_cast_shares w q n h = into_cast_cases (λ u. CallsHold u → SharesHold u) w q n (λ z e free held ch. deal_shares w q (OfScope z.call z.owner) z.pool h ch)

-- one that waits, with the number that stands for it
gather_shares : (w : World) (q : Party) (p : ℕ) → SharesHold w → IfSome (after_broadcast w q p (w.stack q)) (λ u. CallsHold u → SharesHold u)
gather_shares w q p h = if_cond (λ u. CallsHold u → SharesHold u) (is_free ((w.stack q).top) && is_pool w.shape p) _
    (λ f ch. begun_shares w q n (put w.call w.calls (new_gathering c.workers t0)) J (w.calls + 1) (t0 + 1) w.scopes (λ t m. new t (is_piece c t) (t == t0) refl refl m) (λ t. most t (is_piece c t) (t == t0) refl refl) (omega arith) counted sums idle h ch)
  where
    c : Pieces
    c = record { count = OfCast w.calls q; pool = p; first = w.jobs; workers = (w.shape.pool p).workers }

    t0 : ℕ
    t0 = w.jobs + c.workers

    n : Plan
    n = Gather (record { call = record { number = w.calls; pool = p; job = t0 }; pieces = c })

    J1 : ℕ → Job
    J1 = put_pieces c (λ i j. new_piece q (OfCast w.calls q) p i) w.job

    J : ℕ → Job
    J = put J1 t0 (new_whole q p w.calls)

    counted1 : (t : ℕ) → (J1 t).counted ≡ (w.job t).counted
    counted1 t = pieces_uncounted w q c (omega arith) h t

    counted : (t : ℕ) → (J t).counted ≡ (w.job t).counted
    counted t = put_same (λ j. j.counted) J1 t0 (new_whole q p w.calls) t (sym (counted1 t0 ∙ h.unmade t0 (omega arith))) ∙ counted1 t

    idle : (t : ℕ) → with_job (J t) ≤ with_job (w.job t)
    idle t = by (t == t0)
      where
        by : (b : Bool) → with_job (if b then new_whole q p w.calls else J1 t) ≤ with_job (w.job t)
        by true = omega arith
        by false = pieces_idle q c w.job t

    old : (t : ℕ) → t + 1 ≤ w.jobs → J t ≡ w.job t
    old t l = put_old J1 t0 (new_whole q p w.calls) t (below_new t t0 (omega (arith, l))) ∙ piece_old c (λ i j. new_piece q (OfCast w.calls q) p i) w.job t (piece_out c t (omega (arith, l)))

    sums : (r : ℕ) → sum_below (t0 + 1) (λ t. tally r (J t)) ≡ sum_below w.jobs (λ t. tally r (w.job t))
    sums r = let a : sum_below (w.jobs + (c.workers + 1)) (λ t. tally r (J t)) ≡ sum_below w.jobs (λ t. tally r (J t)) = sum_tail w.jobs (c.workers + 1) (λ t. tally r (J t)) (λ t y. tally_off r (J t) (counted t ∙ h.unmade t y)) in
        let b : sum_below w.jobs (λ t. tally r (J t)) ≡ sum_below w.jobs (λ t. tally r (w.job t)) = sum_same w.jobs (λ t. tally r (J t)) (λ t. tally r (w.job t)) (λ t y. ap (tally r) (old t y)) in
        let d : sum_below (t0 + 1) (λ t. tally r (J t)) ≡ sum_below (w.jobs + (c.workers + 1)) (λ t. tally r (J t)) = ap (λ m. sum_below m (λ t. tally r (J t))) (let e : t0 + 1 ≡ w.jobs + (c.workers + 1) = omega arith in e) in omega (arith, a, b, d)

    new : (t : ℕ) (b d : Bool) → is_piece c t ≡ b → (t == t0) ≡ d → 1 ≤ one (t == t0) + one (is_piece c t) → w.jobs ≤ t
    new t true d e f m = (piece_range c t e).0
    new t false true e f m = let i : t ≡ t0 = eqb-true t t0 f in omega (arith, i)
    new t false false e f m = absurd (let a : one (is_piece c t) ≡ 0 = ap one e in let b : one (t == t0) ≡ 0 = ap one f in omega (arith, a, b, m))

    most : (t : ℕ) (b d : Bool) → is_piece c t ≡ b → (t == t0) ≡ d → one (t == t0) + one (is_piece c t) ≤ 1
    most t true true e f = absurd (let i : t ≡ t0 = eqb-true t t0 f in let r : t < c.first + c.workers = (piece_range c t e).1 in omega (arith, i, r))
    most t false d e f = let a : one (is_piece c t) ≡ 0 = ap one e in let b : one (t == t0) ≤ 1 = one_most (t == t0) in omega (arith, a, b)
    most t true false e f = let a : one (is_piece c t) ≤ 1 = one_most (is_piece c t) in let b : one (t == t0) ≡ 0 = ap one f in omega (arith, a, b)

-- each step keeps the shares
pub step_shares : (w : World) (e : Event) → SharesHold w → IfSome (step w e) SharesHold
step_shares w (Go q) h = acted_keeps w q (w.stack q) (target_pool q (act_of q ((w.stack q).top))) (target_worker q (act_of q ((w.stack q).top))) (target_call (act_of q ((w.stack q).top))) (job_at w q (act_of q ((w.stack q).top))) (outcome w q (w.stack q)) SharesHold (go_shares w q h)
step_shares w (From q v) h = with_calls w (step w (From q v)) (step_calls w (From q v) (h.calls)) (from_shares w q ((w.stack q).top) ((w.stack q).below) v refl h)
step_shares w (Refuse q) h = with_calls w (step w (Refuse q)) (step_calls w (Refuse q) (h.calls)) (refuse_shares w q ((w.stack q).top) ((w.stack q).below) refl h)
step_shares w (Miss q) h = with_calls w (step w (Miss q)) (step_calls w (Miss q) (h.calls)) (miss_shares w q ((w.stack q).top) ((w.stack q).below) refl h)
step_shares w (End q d) h = with_calls w (step w (End q d)) (step_calls w (End q d) (h.calls)) (end_shares w q d ((w.stack q).top) ((w.stack q).below) refl h)
step_shares w (Spawn q p) h = with_calls w (step w (Spawn q p)) (step_calls w (Spawn q p) (h.calls)) (spawn_shares w q p h)
step_shares w (Fifo q p) h = with_calls w (step w (Fifo q p)) (step_calls w (Fifo q p) (h.calls)) (fifo_shares w q p h)
step_shares w (Cast q p) h = with_calls w (step w (Cast q p)) (step_calls w (Cast q p) (h.calls)) (cast_shares w q p h)
step_shares w (Install q p) h = with_calls w (step w (Install q p)) (step_calls w (Install q p) (h.calls)) (install_shares w q p h)
step_shares w (Join q) h = with_calls w (step w (Join q)) (step_calls w (Join q) (h.calls)) (join_shares w q h)
step_shares w (OpenScope q p) h = with_calls w (step w (OpenScope q p)) (step_calls w (OpenScope q p) (h.calls)) (scope_shares w q p h)
step_shares w (IntoSpawn q n) h = with_calls w (step w (IntoSpawn q n)) (step_calls w (IntoSpawn q n) (h.calls)) (into_shares w q n h)
step_shares w (IntoFifo q n) h = with_calls w (step w (IntoFifo q n)) (step_calls w (IntoFifo q n) (h.calls)) (into_fifo_shares w q n h)
step_shares w (IntoCast q n) h = with_calls w (step w (IntoCast q n)) (step_calls w (IntoCast q n) (h.calls)) (into_cast_shares w q n h)
step_shares w (Broadcast q p) h = with_calls w (step w (Broadcast q p)) (step_calls w (Broadcast q p) (h.calls)) (gather_shares w q p h)
step_shares w (Yield q) h = with_calls w (step w (Yield q)) (step_calls w (Yield q) (h.calls)) (yield_shares w q YieldPop (λ t. (refl, refl)) (λ p. refl) h)
step_shares w (YieldLocal q) h = with_calls w (step w (YieldLocal q)) (step_calls w (YieldLocal q) (h.calls)) (yield_shares w q LocalPop (λ t. (refl, refl)) (λ p. refl) h)
step_shares w (EndPool q p) h = with_calls w (step w (EndPool q p)) (step_calls w (EndPool q p) (h.calls)) (give_shares w q p h)

first_amounts : (h : Shape) (t : ℕ) (q : Party) → (share t (first_place h q) ≡ 0) × (values t (first_place h q) ≡ 0) × (raises t (first_place h q) ≡ 0)
first_amounts h t (Caller n) = at (nat_lt n h.callers)
  where
    at : (z : Bool) → (share t (if z then Free else Stopped) ≡ 0) × (values t (if z then Free else Stopped) ≡ 0) × (raises t (if z then Free else Stopped) ≡ 0)
    at true = (refl, refl, refl)
    at false = (refl, refl, refl)
first_amounts h t (Worker p i) = at (nat_lt i (h.pool p).workers) ((h.pool p).callers_own && (i == 0))
  where
    at : (y z : Bool) → (share t (if y then (if z then Free else ProbeWorking (fresh Termination)) else Stopped) ≡ 0) × (values t (if y then (if z then Free else ProbeWorking (fresh Termination)) else Stopped) ≡ 0)
        × (raises t (if y then (if z then Free else ProbeWorking (fresh Termination)) else Stopped) ≡ 0)
    at true true = (refl, refl, refl)
    at true false = (refl, refl, refl)
    at false z = (refl, refl, refl)

pub first_shares : (h : Shape) → SharesHold (start h)
first_shares h = record {
  calls = first_calls h;
  jobs = λ t. record { alone = λ q. (let a : share t (first_place h q) ≡ 0 = (first_amounts h t q).0 in omega (arith, a)); apart = λ q r z. (let a : share t (first_place h q) ≡ 0 = (first_amounts h t q).0 in let b : share t (first_place h r) ≡ 0 = (first_amounts h t r).0 in omega (arith, a, b)) };
  values = λ p. record {
    alone = λ q. (let a : values p (first_place h q) ≡ 0 = (first_amounts h p q).1 in omega (arith, a));
    apart = λ q r z. (let a : values p (first_place h q) ≡ 0 = (first_amounts h p q).1 in let b : values p (first_place h r) ≡ 0 = (first_amounts h p r).1 in omega (arith, a, b));
  };
  unraised = λ q t. (let a : raises t (first_place h q) ≡ 0 = (first_amounts h t q).2 in omega (arith, a));
  unmade = λ t b. refl;
  sums = λ p. omega arith;
}

pub always_shares : (h : Shape) (es : List Event) (w : World) → IsRun (start h) es w → SharesHold w
always_shares h es w r = run_keeps SharesHold step_shares (start h) w es (first_shares h) r

-- a pool whose count is 0 has no share: neither its value nor a job of no scope has one
pub value_uncounted : (w : World) (p : ℕ) → SharesHold w → (w.pool p).count ≡ 0 → one (w.pool p).counted ≤ 0
value_uncounted w p h z = let a : sum_below w.jobs (λ t. tally p (w.job t)) + one (w.pool p).counted ≡ (w.pool p).count = h.sums p in omega (arith, a, z)

pub job_uncounted : (w : World) (p : ℕ) → SharesHold w → (w.pool p).count ≡ 0 → (t : ℕ) → (w.job t).pool ≡ p → is_scoped (w.job t).kind ≡ false → (w.job t).counted ≡ false
job_uncounted w p h z t e k = elim (either (ltb t w.jobs)) [ inl y ↦ (let b : t < w.jobs = ltb-true t w.jobs y in below (let c : t + 1 ≤ w.jobs = omega (arith, b) in c)) | inr y ↦ h.unmade t (ltb-false t w.jobs y) ]
  where
    below : t + 1 ≤ w.jobs → (w.job t).counted ≡ false
    below b = by ((w.job t).counted) refl
      where
        by : (c : Bool) → (w.job t).counted ≡ c → c ≡ false
        by false y = refl
        by true y = absurd (let a : sum_below w.jobs (λ t. tally p (w.job t)) + one (w.pool p).counted ≡ (w.pool p).count = h.sums p in
            let c : tally p (w.job t) ≤ sum_below w.jobs (λ t. tally p (w.job t)) = sum_least w.jobs (λ t. tally p (w.job t)) t b in
            let d : tally p (w.job t) ≡ one (p == p) = tally_on p p (w.job t) y k e in
            let f : one (p == p) ≡ 1 = self_one p in omega (arith, a, c, d, f, z))

-- it has ended, if no job of a scope has a share either
pub gone : (w : World) (p : ℕ) → SharesHold w → (w.pool p).count ≡ 0 → ((t : ℕ) → (w.job t).pool ≡ p → is_scoped (w.job t).kind ≡ true → (w.job t).counted ≡ false) → IsGone w p
gone w p h z scoped = record {
  held = one_not ((w.pool p).held) (let a : all_values p (w.stack (Caller 0)) + one (w.pool p).held ≤ one (w.pool p).counted = (h.values p).alone (Caller 0) in let b : one (w.pool p).counted ≤ 0 = value_uncounted w p h z in omega (arith, a, b));
  counted = one_not ((w.pool p).counted) (value_uncounted w p h z);
  calls = λ q t e. (let a : shares t (w.stack q) + with_job (w.job t) ≤ one (w.job t).counted = (h.jobs t).alone q in let b : one (w.job t).counted ≡ 0 = ap one (job t e) in omega (arith, a, b));
  jobs = job;
  detached = λ t e. idle t e (is_busy (w.job t).at) refl;
}
  where
    job : (t : ℕ) → (w.job t).pool ≡ p → (w.job t).counted ≡ false
    job t e = elim (either (is_scoped (w.job t).kind)) [ inl y ↦ scoped t e y | inr y ↦ job_uncounted w p h z t e y ]

    idle : (t : ℕ) → (w.job t).kind ≡ Detached p → (b : Bool) → is_busy (w.job t).at ≡ b → b ≡ false
    idle t e false y = refl
    idle t e true y = absurd (let m : t + 1 ≤ w.jobs = elim (either (ltb t w.jobs)) [
      | inl g ↦ (let b : t < w.jobs = ltb-true t w.jobs g in omega (arith, b))
      | inr g ↦ absurd
          (let n : (w.job t).at ≡ Nowhere = ((h.calls).jobs).unmade t (ltb-false t w.jobs g) in let k : is_busy (w.job t).at ≡ false = ap is_busy n in cc)
    ] in
        let c : (w.job t).counted ≡ false = job t ((h.calls).pools t m p e) in
        let a : shares t (w.stack (Caller 0)) + with_job (w.job t) ≤ one (w.job t).counted = (h.jobs t).alone (Caller 0) in
        let b : with_job (w.job t) ≡ 1 = ap (λ k. one (is_detached k && is_busy (w.job t).at)) e ∙ ap one y in
        let d : one (w.job t).counted ≡ 0 = ap one c in omega (arith, a, b, d))
