-- what events leave of the counts of scopes
use Rattle.rayon_machine_laws.proofs.Lost.{is_dealt}
use Rattle.std.proofs.Common.{arith, refl, sym, ◌∙◌, ap, subst, inl, inr}
use Rattle.std.specs.Prelude.{ℕ, zero, suc, Bool, true, false, ◌&&◌, ◌+◌, ◌-◌, ◌==◌, ◌≤◌, ◌<◌, nat_lt, if◌then◌else◌, Option, Some, None, List, [], ◌∷◌, ◌++◌, ◌≡◌, IfSome}
use Rattle.std.proofs.lemmas.Bool.{eqb-true, ltb-true, ltb-false, eq-eqb}
use Rattle.std.proofs.Math.Dec.{ltb}
use Rattle.rayon_machine_places.specs.declared.place.Party.{Party}
use Rattle.rayon_machine_places.specs.declared.place.Party.TheVariants.{Worker, Caller}
use Rattle.rayon_machine_places.specs.declared.place.Ending.{Ending}
use Rattle.rayon_machine_places.specs.declared.place.JobKind.{JobKind}
use Rattle.rayon_machine_places.specs.declared.place.JobKind.TheVariants.{Detached, Stored, Direct, Scoped, TokenOf, BodyOf, PieceOf, WholeOf}
use Rattle.rayon_machine_places.specs.declared.place.Plan.{Plan}
use Rattle.rayon_machine_places.specs.declared.place.Plan.TheVariants.{Detach, Here, Send, Fork, Feed, Open, Enter, Gather}
use Rattle.rayon_machine_places.specs.declared.place.Count.{Count}
use Rattle.rayon_machine_places.specs.declared.place.Count.TheVariants.{OfPool, OfScope, OfCast}
use Rattle.rayon_machine_places.specs.declared.place.Share.TheVariants.{PoolValue}
use Rattle.rayon_machine_places.specs.declared.place.Then.TheVariants.{Resume}
use Rattle.rayon_machine_places.specs.declared.place.Pieces.{Pieces}
use Rattle.rayon_machine_places.specs.declared.place.Place.{Place}
use Rattle.rayon_machine_places.specs.declared.place.Place.TheVariants.{ProbeWorking, PickVictim, StealFrom, YieldPop, YieldPick, YieldSteal, LocalPop, Run, RaiseCount, LowerCount, RaiseForAll, Free, Stopped}
use Rattle.rayon_machine_places.specs.declared.act.Seen.{Seen}
use Rattle.rayon_machine_places.specs.declared.act.Seen.TheVariants.{Refused, Missing, Start}
use Rattle.rayon_machine_runs.specs.declared.event.Event.{Event}
use Rattle.rayon_machine_runs.specs.declared.event.Event.TheVariants.{Go, From, Refuse, Miss, End, Spawn, Fifo, Cast, Install, Join, Scope as OpenScope, IntoSpawn, Yield, YieldLocal, EndPool, IntoFifo, IntoCast, Broadcast}
use Rattle.rayon_machine_runs.specs.declared.state.Whereabouts.{Whereabouts}
use Rattle.rayon_machine_runs.specs.declared.state.Whereabouts.TheVariants.{Nowhere, Made, InDeque, Injected, InFifo, InCast, Retaken, Running, Over, HandedBack, Spent}
use Rattle.rayon_machine_runs.specs.declared.state.Job.{Job}
use Rattle.rayon_machine_runs.specs.declared.state.Call.{Call}
use Rattle.rayon_machine_runs.specs.declared.state.Scope.{Scope}
use Rattle.rayon_machine_places.specs.declared.shape.PoolShape.{PoolShape}
use Rattle.rayon_machine_places.specs.declared.place.Target.TheVariants.{Termination}
use Rattle.rayon_machine_places.specs.Places.{same_party, own_pool, is_member, act_of, next_of, is_free, is_refusable, fresh, count_kind, count_book}
use Rattle.rayon_machine_runs.specs.World.{Shape, Stack, World, at_job}
use Rattle.rayon_machine_places.specs.Targets.{target_pool, target_worker, target_call}
use Rattle.rayon_machine_runs.specs.Steps.{put, put_stack, put_pieces, new_piece, is_piece, after_move, after_choice, after_refusal, can_miss, after_miss, after_close, after_end, after_call, is_pool, new_job, new_call, after_spawn, after_fifo, after_cast, after_send}
use Rattle.rayon_machine_runs.specs.Steps.{after_install, after_join, after_scope, after_into, holds, after_yield, after_end_pool, step, after_feed, after_deal, after_enter, after_gather, after_broadcast, after_into_fifo, after_into_cast, new_whole, new_gathering}
use Rattle.rayon_machine_runs.specs.Readers.{is_done}
use Rattle.rayon_machine_runs.specs.Runs.{first_place, start, IsRun}
use Rattle.rayon_machine_laws.specs.Once.{one}
use Rattle.rayon_machine_laws.specs.Counted.{is_of_scope}
use Rattle.rayon_machine_laws.proofs.Frame.{either, same_party_true, if_some_and, if_some_map, if_cond, acted_keeps, put_same, put_new, put_old, piece_new, piece_old, piece_out, fifo_cases, into_cases, into_fifo_cases, into_cast_cases}
use Rattle.rayon_machine_laws.proofs.Ties.{job_at, outcome}
use Rattle.rayon_machine_laws.proofs.Events.{run_keeps}
use Rattle.rayon_machine_laws.proofs.PlacedEvents.{IsFinal, Advance}
use Rattle.rayon_machine_laws.proofs.PlacedRuns.{step_advance}
use Rattle.rayon_machine_laws.proofs.Claims.{is_part}
use Rattle.rayon_machine_laws.proofs.ClaimRuns.{world_after, unqueued}
use Rattle.rayon_machine_laws.proofs.ClaimEvents.{ended_world}
use Rattle.rayon_machine_laws.proofs.ClaimMakes.{calling, below_new}
use Rattle.rayon_machine_laws.proofs.Tokens.{Tokens, tokens_keep, tokens_gain, sum_below, sum_same, sum_more, sum_tail}
use Rattle.rayon_machine_laws.proofs.ShareActs.{SharesHold, one_most}
use Rattle.rayon_machine_laws.proofs.ShareRuns.{other_le}
use Rattle.rayon_machine_laws.proofs.ShareEvents.{ready, above}
use Rattle.rayon_machine_laws.proofs.ShareEnds.{step_shares, first_shares}
use Rattle.rayon_machine_laws.proofs.Bodies.{plan_body, body, bodies_in, all_bodies, spent, closed_body}
use Rattle.rayon_machine_laws.proofs.ScopeCounts.{piece_call, piece_in, entry, is_closed, Closed, SomePiece, ScopesHold, PartsOn, fresh_on, some_on, closed_on, parts_made, entry_same, entry_off, bodies_still, unopened_still, old_call, scopes_keep, le_after}
use Rattle.rayon_machine_laws.proofs.ScopeActs.{go_by}

-- what is over stays so
final_done : (a b : Whereabouts) → IsFinal a b → is_done a ≡ true → is_done b ≡ true
final_done (Over e) b f d = ap is_done f
final_done (Made q) b f d = cc
final_done (Running q) b f d = cc
final_done (InDeque p i) b f d = cc
final_done (Injected p) b f d = cc
final_done (InFifo p i b7) b f d = cc
final_done (InCast p i) b f d = cc
final_done (Retaken r) b f d = cc
final_done HandedBack b f d = cc
final_done Spent b f d = cc
final_done Nowhere b f d = cc

-- a party goes on as if its act had seen this
seen_scopes : (w : World) (q : Party) (g : PoolShape) (x : Place) (fs : List Place) (e : Seen) → w.stack q ≡ record { top = x; below = fs } → ScopesHold w → SharesHold (record w { stack = put_stack w.stack q (after_move (next_of g q x e) fs) })
    → ScopesHold (record w { stack = put_stack w.stack q (after_move (next_of g q x e) fs) })
seen_scopes w q g x fs e z h s = scopes_keep w (record w { stack = put_stack w.stack q (after_move (next_of g q x e) fs) }) q (after_move (next_of g q x e) fs) (λ r. refl) (omega arith) (λ c. refl) (λ c. refl) (λ c. refl) (λ c. refl)
    (λ c. (let a : all_bodies c (after_move (next_of g q x e) fs) + spent c x ≤ all_bodies c (w.stack q) = le_after w q x fs g e c z in omega (arith, a))) (λ c b y. record { made = y.made; closed = y.closed })
    (record { jobs = omega arith; shape = refl; kinds = λ t b. refl; pools = λ t b. refl; back = λ t m p l. (m, l) }) h s

-- what an event that is no act leaves of calls whose own shares are given back
closed_event : (w u : World) → Advance w u → PartsOn w u → ((c : ℕ) → c + 1 ≤ w.calls → (u.call c).job ≡ (w.call c).job) → (c : ℕ) → c + 1 ≤ w.calls → Closed w c → Closed u c
closed_event w u a n ta c b x = record {
  made = (let d : (w.call c).job + 1 ≤ w.jobs = x.made in let f : w.jobs ≤ u.jobs = n.jobs in let e : (u.call c).job ≡ (w.call c).job = ta c b in omega (arith, d, e, f));
  closed = ap (λ t. is_closed (u.job t)) (ta c b) ∙ closed_on (w.job (w.call c).job) (u.job (w.call c).job) (n.kinds ((w.call c).job) (x.made)) (final_done ((w.job (w.call c).job).at) ((u.job (w.call c).job).at) (a.final ((w.call c).job))) (x.closed);
}

abbrev pub Then_scopes : World → World → Type 0
Then_scopes w u = SharesHold u → Advance w u → ScopesHold u

from_scopes : (w : World) (q : Party) (x : Place) (fs : List Place) (v : ℕ) → w.stack q ≡ record { top = x; below = fs } → ScopesHold w → IfSome (after_choice w q (record { top = x; below = fs }) x v) (Then_scopes w)
from_scopes w q (PickVictim k) fs v z h = if_cond (Then_scopes w) (nat_lt v (w.shape.pool (own_pool q)).workers) _ (λ y s a. seen_scopes w q (w.shape.pool (own_pool q)) (PickVictim k) fs (Start v) z h s)
from_scopes w q YieldPick fs v z h = if_cond (Then_scopes w) (nat_lt v (w.shape.pool (own_pool q)).workers) _ (λ y s a. seen_scopes w q (w.shape.pool (own_pool q)) YieldPick fs (Start v) z h s)
from_scopes w q _ fs v z h = tt

refuse_scopes : (w : World) (q : Party) (x : Place) (fs : List Place) → w.stack q ≡ record { top = x; below = fs } → ScopesHold w → IfSome (after_refusal w q (record { top = x; below = fs })) (Then_scopes w)
refuse_scopes w q x fs z h = if_cond (Then_scopes w) (is_refusable x) _ (λ y s a. seen_scopes w q (w.shape.pool (own_pool q)) x fs Refused z h s)

miss_scopes : (w : World) (q : Party) (x : Place) (fs : List Place) → w.stack q ≡ record { top = x; below = fs } → ScopesHold w → IfSome (after_miss w q (record { top = x; below = fs }) x) (Then_scopes w)
miss_scopes w (Worker a b) (StealFrom k n) fs z h = if_cond (Then_scopes w) (can_miss w a k.victim) _ (λ y s d. seen_scopes w (Worker a b) (w.shape.pool a) (StealFrom k n) fs Missing z h s)
miss_scopes w (Worker a b) (YieldSteal v n) fs z h = if_cond (Then_scopes w) (can_miss w a v) _ (λ y s d. seen_scopes w (Worker a b) (w.shape.pool a) (YieldSteal v n) fs Missing z h s)
miss_scopes w (Worker a b) _ fs z h = tt
miss_scopes w (Caller n) _ fs z h = tt

end_scopes : (w : World) (q : Party) (d : Ending) (x : Place) (fs : List Place) → w.stack q ≡ record { top = x; below = fs } → ScopesHold w → IfSome (after_end w q d (record { top = x; below = fs }) x) (Then_scopes w)
end_scopes w q d (Run t k) fs z h = λ s a. scopes_keep w u q (after_close t k d fs) (λ r. refl) (omega arith) (λ c. refl) (λ c. refl) (λ c. refl)
    (λ c. sum_same w.jobs (λ i. entry c (u.job i)) (λ i. entry c (w.job i)) (λ i b. entry_same c (u.job i) (w.job i) (put_same (λ j. j.counted) w.job t (at_job (w.job t) (Over d)) i refl) (kinds i)))
    (λ c. (let b : all_bodies c (after_close t k d fs) ≤ bodies_in c fs = closed_body c t k d fs in let e : all_bodies c (w.stack q) ≡ (0 + bodies_in c fs) = ap (all_bodies c) z in omega (arith, b, e)))
    (closed_event w u a parts (λ c b. refl)) parts h s
  where
    u : World
    u = ended_world w q d t k fs

    kinds : (i : ℕ) → (u.job i).kind ≡ (w.job i).kind
    kinds i = put_same (λ j. j.kind) w.job t (at_job (w.job t) (Over d)) i refl

    back : (i : ℕ) (b : Bool) → is_dealt (if b then at_job (w.job t) (Over d) else w.job i).at ≡ false → is_dealt (w.job i).at ≡ false
    back i true e = cc
    back i false e = e

    parts : PartsOn w u
    parts = record { jobs = omega arith; shape = refl; kinds = λ i b. kinds i; pools = λ i b. put_same (λ j. j.pool) w.job t (at_job (w.job t) (Over d)) i refl; back = λ i m p l. (m, back i (i == t) l) }
end_scopes w q d _ fs z h = tt

-- a call begins that is no scope: its jobs are new, and have no share yet
made_scopes : (w : World) (q : Party) (n : Plan) (C : ℕ → Call) (J : ℕ → Job) (c j : ℕ) → w.calls ≤ c → ((i : ℕ) → (C i).counted ≡ (w.call i).counted) → ((i : ℕ) → (C i).count ≡ (w.call i).count) → ((i : ℕ) → (C i).undealt ≡ (w.call i).undealt)
    → ((i : ℕ) → i + 1 ≤ w.calls → (C i).job ≡ (w.call i).job) → ((i : ℕ) → sum_below j (λ t. entry i (J t)) ≡ sum_below w.jobs (λ t. entry i (w.job t))) → ((i : ℕ) → plan_body i n ≡ 0) → PartsOn w (calling w q n C J c j) → ScopesHold w → Then_scopes w (calling w q n C J c j)
made_scopes w q n C J c j more co cn un ta su none on h s a = scopes_keep w (calling w q n C J c j) q (after_call (w.stack q) (RaiseCount n)) (λ r. refl) more co cn un su
    (λ i. (let b : plan_body i n ≡ 0 = none i in omega (arith, b)))
    (closed_event w (calling w q n C J c j) a on ta) on h s

-- where one job is new, and where two are
parts_one : (w u : World) (q : Party) (p : ℕ) (k : JobKind) → u.shape ≡ w.shape → u.job ≡ put w.job w.jobs (new_job q p k) → u.jobs ≡ w.jobs + 1 → is_part k ≡ false → PartsOn w u
parts_one w u q p k sh jo ju z = parts_made w u (omega (arith, ju)) sh (λ t b. ap (λ J. J t) jo ∙ put_old w.job w.jobs (new_job q p k) t (below_new t w.jobs b))
    (λ t l m. (let i : t ≡ w.jobs = omega (arith, l, m, ju) in ap (λ n. is_part (u.job n).kind) i ∙ ap (λ J. is_part (J w.jobs).kind) jo ∙ ap (λ j. is_part j.kind) (put_new w.job w.jobs (new_job q p k)) ∙ z))

parts_two : (w u : World) (q : Party) (p : ℕ) (d k : JobKind) → u.shape ≡ w.shape → u.job ≡ put (put w.job w.jobs (new_job q p d)) (w.jobs + 1) (new_job q p k) → u.jobs ≡ w.jobs + 2 → is_part d ≡ false → is_part k ≡ false → PartsOn w u
parts_two w u q p d k sh jo ju x z = parts_made w u (omega (arith, ju)) sh (λ t b. ap (λ J. J t) jo ∙ put_old (put w.job w.jobs (new_job q p d)) (w.jobs + 1) (new_job q p k) t (below_new t (w.jobs + 1) (omega (arith, b))) ∙ put_old w.job w.jobs (new_job q p d) t (below_new t w.jobs b))
    (λ t l m. ap (λ J. is_part (J t).kind) jo ∙ by t (t == (w.jobs + 1)) (t == w.jobs) refl refl l (let e : t + 1 ≤ w.jobs + 2 = omega (arith, m, ju) in e))
  where
    by : (t : ℕ) (a b : Bool) → (t == (w.jobs + 1)) ≡ a → (t == w.jobs) ≡ b → w.jobs ≤ t → t + 1 ≤ w.jobs + 2 → is_part (if a then new_job q p k else (if b then new_job q p d else w.job t)).kind ≡ false
    by t true b e f l m = z
    by t false true e f l m = x
    by t false false e f l m = absurd (elim (either (ltb t (w.jobs + 1))) [
      | inl y ↦ (let g : t < w.jobs + 1 = ltb-true t (w.jobs + 1) y in let i : t ≡ w.jobs = omega (arith, g, l) in let a : (t == w.jobs) ≡ true = eq-eqb t w.jobs i in cc)
      | inr y ↦ (let g : w.jobs + 1 ≤ t = ltb-false t (w.jobs + 1) y in let i : t ≡ w.jobs + 1 = omega (arith, g, m) in let a : (t == (w.jobs + 1)) ≡ true = eq-eqb t (w.jobs + 1) i in cc)
    ])

one_entries : (w : World) (q : Party) (p : ℕ) (k : JobKind) (c : ℕ) → sum_below (w.jobs + 1) (λ t. entry c (put w.job w.jobs (new_job q p k) t)) ≡ sum_below w.jobs (λ t. entry c (w.job t))
one_entries w q p k c = let a : sum_below (w.jobs + 1) (λ t. entry c (put w.job w.jobs (new_job q p k) t)) ≡ sum_below w.jobs (λ t. entry c (put w.job w.jobs (new_job q p k) t)) =
    sum_more w.jobs (λ t. entry c (put w.job w.jobs (new_job q p k) t)) (ap (λ j. entry c j) (put_new w.job w.jobs (new_job q p k))) in
    let b : sum_below w.jobs (λ t. entry c (put w.job w.jobs (new_job q p k) t)) ≡ sum_below w.jobs (λ t. entry c (w.job t)) =
    sum_same w.jobs (λ t. entry c (put w.job w.jobs (new_job q p k) t)) (λ t. entry c (w.job t)) (λ t z. ap (λ j. entry c j) (put_old w.job w.jobs (new_job q p k) t (below_new t w.jobs z))) in omega (arith, a, b)

two_entries : (w : World) (q : Party) (p : ℕ) (d k : JobKind) (c : ℕ) → sum_below (w.jobs + 2) (λ t. entry c (put (put w.job w.jobs (new_job q p d)) (w.jobs + 1) (new_job q p k) t)) ≡ sum_below w.jobs (λ t. entry c (w.job t))
two_entries w q p d k c = let a : sum_below ((w.jobs + 1) + 1) (λ t. entry c (J2 t)) ≡ sum_below (w.jobs + 1) (λ t. entry c (J2 t)) = sum_more (w.jobs + 1) (λ t. entry c (J2 t)) (ap (λ j. entry c j) (put_new J1 (w.jobs + 1) (new_job q p k))) in
    let b : sum_below (w.jobs + 1) (λ t. entry c (J2 t)) ≡ sum_below (w.jobs + 1) (λ t. entry c (J1 t)) = sum_same (w.jobs + 1) (λ t. entry c (J2 t)) (λ t. entry c (J1 t)) (λ t z. ap (λ j. entry c j) (put_old J1 (w.jobs + 1) (new_job q p k) t (below_new t (w.jobs + 1) z))) in
    let e : sum_below (w.jobs + 1) (λ t. entry c (J1 t)) ≡ sum_below w.jobs (λ t. entry c (w.job t)) = one_entries w q p d c in
    let f : sum_below (w.jobs + 2) (λ t. entry c (J2 t)) ≡ sum_below ((w.jobs + 1) + 1) (λ t. entry c (J2 t)) = ap (λ n. sum_below n (λ t. entry c (J2 t))) (let g : w.jobs + 2 ≡ (w.jobs + 1) + 1 = omega arith in g) in omega (arith, a, b, e, f)
  where
    J1 : ℕ → Job
    J1 = put w.job w.jobs (new_job q p d)

    J2 : ℕ → Job
    J2 = put (put w.job w.jobs (new_job q p d)) (w.jobs + 1) (new_job q p k)

-- no job is of the call that is made next
none_next : (w : World) → ScopesHold w → (n : ℕ) → n ≤ w.jobs → sum_below n (λ t. entry w.calls (w.job t)) ≡ 0
none_next w h zero b = refl
none_next w h (suc n) b = let a : sum_below n (λ t. entry w.calls (w.job t)) ≡ 0 = none_next w h n (omega (arith, b)) in let e : entry w.calls (w.job n) ≡ 0 = out n (omega (arith, b)) in omega (arith, a, e)
  where
    out : (n : ℕ) → n + 1 ≤ w.jobs → entry w.calls (w.job n) ≡ 0
    out n b = by ((w.job n).kind) refl
      where
        none_of : (k : JobKind) → is_of_scope w.calls k ≡ false → (w.job n).kind ≡ k → entry w.calls (w.job n) ≡ 0
        none_of k z e = ap (λ v. one ((w.job n).counted && is_of_scope w.calls v)) e ∙ ap (λ d. one ((w.job n).counted && d)) z ∙ zero_and ((w.job n).counted)
          where
            zero_and : (d : Bool) → one (d && false) ≡ 0
            zero_and true = refl
            zero_and false = refl

        by : (k : JobKind) → (w.job n).kind ≡ k → entry w.calls (w.job n) ≡ 0
        by (Scoped c o) e = none_of (Scoped c o) (elim (either (w.calls == c)) [ inl y ↦ absurd (let i : w.calls ≡ c = eqb-true w.calls c y in let a : c + 1 ≤ w.calls = (((h.shares).calls).entries n b c o e).number in omega (arith, i, a)) | inr y ↦ y ]) e
        by (PieceOf c o) e = none_of (PieceOf c o) (elim (either (w.calls == c)) [ inl y ↦ absurd (let i : w.calls ≡ c = eqb-true w.calls c y in let a : c + 1 ≤ w.calls = (((h.shares).calls).parts n b c o e).number in omega (arith, i, a)) | inr y ↦ y ]) e
        by (Detached p) e = none_of (Detached p) refl e
        by (Stored c o) e = none_of (Stored c o) refl e
        by Direct e = none_of Direct refl e
        by (TokenOf i b8) e = none_of (TokenOf i b8) refl e
        by (BodyOf c9 o9) e = none_of (BodyOf c9 o9) refl e
        by (WholeOf c9 o9) e = none_of (WholeOf c9 o9) refl e

-- the call that is made next has a count of 1 already, of which its body's share is not given back
next_count : (w : World) → ScopesHold w → (f : Option ℕ) (t : ℕ) → ((c : ℕ) → (put w.call w.calls (new_call f t) c).counted ≡ (w.call c).counted) × ((c : ℕ) → (put w.call w.calls (new_call f t) c).count ≡ (w.call c).count)
    × ((c : ℕ) → (put w.call w.calls (new_call f t) c).undealt ≡ (w.call c).undealt)
next_count w h f t = (
  λ c. put_same (λ a. a.counted) w.call w.calls (new_call f t) c (sym (h.whole w.calls (omega arith))),
  λ c. put_same (λ a. a.count) w.call w.calls (new_call f t) c (sym next),
  λ c. put_same (λ a. a.undealt) w.call w.calls (new_call f t) c (sym (h.blank w.calls (omega arith))),
)
  where
    next : (w.call w.calls).count ≡ 1
    next = let a : sum_below w.jobs (λ t. entry w.calls (w.job t)) + (one (w.call w.calls).counted + (w.call w.calls).undealt) ≡ (w.call w.calls).count = h.sums w.calls in let b : one (w.call w.calls).counted ≡ 1 = ap one (h.whole w.calls (omega arith)) in let u : (w.call w.calls).undealt ≡ 0 =
        h.blank w.calls (omega arith) in let c : sum_below w.jobs (λ t. entry w.calls (w.job t)) ≡ 0 = none_next w h w.jobs (omega arith) in omega (arith, a, b, c, u)

old_target : (w : World) (f : Option ℕ) (t i : ℕ) → i + 1 ≤ w.calls → (put w.call w.calls (new_call f t) i).job ≡ (w.call i).job
old_target w f t i b = ap (λ a. a.job) (put_old w.call w.calls (new_call f t) i (below_new i w.calls b))

spawn_scopes : (w : World) (q : Party) (p : ℕ) → ScopesHold w → IfSome (after_spawn w q p (w.stack q)) (Then_scopes w)
spawn_scopes w q p h = if_cond (Then_scopes w) (is_free ((w.stack q).top) && is_pool w.shape p) _ (λ f. made_scopes w q (Detach p w.jobs) w.call (put w.job w.jobs (new_job q p (Detached p))) w.calls (w.jobs + 1) (omega arith) (λ i. refl) (λ i. refl) (λ i. refl) (λ i b. refl)
    (one_entries w q p (Detached p)) (λ i. refl) (parts_one w _ q p (Detached p) refl refl refl refl) h)

sent_scopes : (w : World) (q : Party) (p : ℕ) (b : Bool) → ScopesHold w → Then_scopes w (after_send w q p (w.stack q) b)
sent_scopes w q p true h = made_scopes w q (Here p w.jobs) w.call (put w.job w.jobs (new_job q p Direct)) w.calls (w.jobs + 1) (omega arith) (λ i. refl) (λ i. refl) (λ i. refl) (λ i b. refl) (one_entries w q p Direct) (λ i. refl) (parts_one w _ q p Direct refl refl refl refl) h
sent_scopes w q p false h = made_scopes w q (Send (record { number = w.calls; pool = p; job = w.jobs })) (put w.call w.calls (new_call None w.jobs)) (put w.job w.jobs (new_job q p (Stored w.calls q))) (w.calls + 1) (w.jobs + 1) (omega arith) ((next_count w h None w.jobs).0)
    ((next_count w h None w.jobs).1) ((next_count w h None w.jobs).2) (old_target w None w.jobs) (one_entries w q p (Stored w.calls q)) (λ i. refl) (parts_one w _ q p (Stored w.calls q) refl refl refl refl) h

install_scopes : (w : World) (q : Party) (p : ℕ) → ScopesHold w → IfSome (after_install w q p (w.stack q)) (Then_scopes w)
install_scopes w q p h = if_cond (Then_scopes w) (is_free ((w.stack q).top) && is_pool w.shape p) _ (λ f. sent_scopes w q p (is_member q p) h)

join_scopes : (w : World) (q : Party) → ScopesHold w → IfSome (after_join w q (w.stack q)) (Then_scopes w)
join_scopes w (Caller n) h = tt
join_scopes w (Worker p i) h = if_cond (Then_scopes w) (is_free ((w.stack (Worker p i)).top)) _ (λ f. made_scopes w (Worker p i) (Fork (record { number = w.calls; pool = p; job = w.jobs + 1 }) w.jobs) (put w.call w.calls (new_call (Some w.jobs) (w.jobs + 1)))
    (put (put w.job w.jobs (new_job (Worker p i) p Direct)) (w.jobs + 1) (new_job (Worker p i) p (Stored w.calls (Worker p i)))) (w.calls + 1) (w.jobs + 2) (omega arith) ((next_count w h (Some w.jobs) (w.jobs + 1)).0) ((next_count w h (Some w.jobs) (w.jobs + 1)).1)
    ((next_count w h (Some w.jobs) (w.jobs + 1)).2) (old_target w (Some w.jobs) (w.jobs + 1)) (two_entries w (Worker p i) p Direct (Stored w.calls (Worker p i))) (λ i. refl) (parts_two w _ (Worker p i) p Direct (Stored w.calls (Worker p i)) refl refl refl refl refl) h)

feed_scopes : (w : World) (k : Count) (p i : ℕ) → is_part (count_kind k) ≡ false → ScopesHold w → Then_scopes w (after_feed w k p i (w.stack (Worker p i)))
feed_scopes w k p i z h = made_scopes w (Worker p i) (Feed (record { count = k; pool = p; job = w.jobs; token = w.jobs + 1 })) w.call (put (put w.job w.jobs (new_job (Worker p i) p (count_kind k))) (w.jobs + 1) (new_job (Worker p i) p (TokenOf i (count_book k)))) w.calls (w.jobs + 2)
    (omega arith) (λ i. refl) (λ i. refl) (λ i. refl) (λ i b. refl) (two_entries w (Worker p i) p (count_kind k) (TokenOf i (count_book k))) (λ i. refl) (parts_two w _ (Worker p i) p (count_kind k) (TokenOf i (count_book k)) refl refl refl z refl) h

fifo_scopes : (w : World) (q : Party) (p : ℕ) → ScopesHold w → IfSome (after_fifo w q p (w.stack q)) (Then_scopes w)
fifo_scopes w q p h = fifo_cases (Then_scopes w) w q p (spawn_scopes w q p h) (λ i free. feed_scopes w (OfPool p) p i refl h)

enter_scopes : (w : World) (q : Party) (z : Scope) → ScopesHold w → IfSome (after_enter w q (w.stack q) (Some z)) (Then_scopes w)
enter_scopes w q z h = if_cond (Then_scopes w) (is_free ((w.stack q).top) && holds z.call (w.stack q)) _ (λ f. made_scopes w q (Enter (record { call = z.call; owner = z.owner; pool = z.pool; job = w.jobs })) w.call (put w.job w.jobs (new_job q z.pool (Scoped z.call z.owner))) w.calls
    (w.jobs + 1) (omega arith) (λ i. refl) (λ i. refl) (λ i. refl) (λ i b. refl) (one_entries w q (z.pool) (Scoped z.call z.owner)) (λ i. refl) (parts_one w _ q (z.pool) (Scoped z.call z.owner) refl refl refl refl) h)

into_scopes : (w : World) (q : Party) (n : ℕ) → ScopesHold w → IfSome (after_into w q n (w.stack q)) (Then_scopes w)
into_scopes w q n h = into_cases (Then_scopes w) w q n (λ z e free held. enter_scopes w q z h)

into_fifo_scopes : (w : World) (q : Party) (n : ℕ) → ScopesHold w → IfSome (after_into_fifo w q n (w.stack q)) (Then_scopes w)
into_fifo_scopes w q n h = into_fifo_cases (Then_scopes w) w q n (λ z e free held. enter_scopes w q z h) (λ z i e free held. feed_scopes w (OfScope z.call z.owner) z.pool i refl h)

-- the pieces of a broadcast are new, and have no shares yet
pieces_entries : (w : World) (q : Party) (b : Pieces) → b.first ≡ w.jobs → ScopesHold w → (c : ℕ) → sum_below (w.jobs + b.workers) (λ t. entry c (put_pieces b (λ i j. new_piece q b.count b.pool i) w.job t)) ≡ sum_below w.jobs (λ t. entry c (w.job t))
pieces_entries w q b f h c = sum_tail w.jobs b.workers (λ t. entry c (put_pieces b (λ i j. new_piece q b.count b.pool i) w.job t)) (λ t y. none t (is_piece b t) y)
    ∙ sum_same w.jobs (λ t. entry c (put_pieces b (λ i j. new_piece q b.count b.pool i) w.job t)) (λ t. entry c (w.job t)) (λ t y. ap (entry c) (piece_old b (λ i j. new_piece q b.count b.pool i) w.job t (piece_out b t (omega (arith, y, f)))))
  where
    none : (t : ℕ) (z : Bool) → w.jobs ≤ t → entry c (if z then new_piece q b.count b.pool (t - b.first) else w.job t) ≡ 0
    none t true y = refl
    none t false y = entry_off c (w.job t) ((h.shares).unmade t y)

-- a broadcast that does not wait begins
deal_begins : (w : World) (q : Party) (d : Count) (p : ℕ) → is_part (count_kind d) ≡ false → ScopesHold w → Then_scopes w (after_deal w q d p (w.stack q))
deal_begins w q d p x h s a = scopes_keep w u q (after_call (w.stack q) (RaiseForAll b)) (λ r. refl) (omega arith) (λ c. refl) (λ c. refl) (λ c. refl) (pieces_entries w q b refl h) (λ c. omega arith) (closed_event w u a parts (λ c y. refl)) parts h s
  where
    b : Pieces
    b = record { count = d; pool = p; first = w.jobs; workers = (w.shape.pool p).workers }

    u : World
    u = after_deal w q d p (w.stack q)

    new : (t : ℕ) (z : Bool) → is_piece b t ≡ z → w.jobs ≤ t → t + 1 ≤ w.jobs + b.workers → is_part (if z then new_piece q d p (t - b.first) else w.job t).kind ≡ false
    new t true e l m = x
    new t false e l m = absurd (let y : is_piece b t ≡ true = piece_in b t l (omega (arith, m)) in cc)

    parts : PartsOn w u
    parts = parts_made w u (omega arith) refl (λ t y. piece_old b (λ i j. new_piece q d p i) w.job t (piece_out b t (omega (arith, y)))) (λ t l m. new t (is_piece b t) refl l m)

cast_scopes : (w : World) (q : Party) (p : ℕ) → ScopesHold w → IfSome (after_cast w q p (w.stack q)) (Then_scopes w)
cast_scopes w q p h = if_cond (Then_scopes w) (is_free ((w.stack q).top) && is_pool w.shape p) _ (λ f. deal_begins w q (OfPool p) p refl h)

into_cast_scopes : (w : World) (q : Party) (n : ℕ) → ScopesHold w → IfSome (after_into_cast w q n (w.stack q)) (Then_scopes w)
into_cast_scopes w q n h = into_cast_cases (Then_scopes w) w q n (λ z e free held. deal_begins w q (OfScope z.call z.owner) z.pool refl h)

-- one that waits begins: its count is the number of its pieces
gather_scopes : (w : World) (q : Party) (p : ℕ) → ScopesHold w → IfSome (after_broadcast w q p (w.stack q)) (Then_scopes w)
gather_scopes w q p h = if_cond (Then_scopes w) (is_free ((w.stack q).top) && is_pool w.shape p) _ (λ f s a. record {
  shares = s;
  bodies = λ c. held c (c == w.calls) refl;
  unopened = λ c y. unopened_still w u q k (λ r. refl) h c (omega (arith, y)) (le c);
  whole = λ c y. ap (λ v. v.counted) (old c (above c y)) ∙ h.whole c (omega (arith, y));
  blank = λ c y. ap (λ v. v.undealt) (old c (above c y)) ∙ h.blank c (omega (arith, y));
  sums = λ c. sums c (c == w.calls) refl;
  over = λ c y e. over a c y (c == w.calls) refl e;
  fresh = λ t m c o e l. fresh t m c o (c == w.calls) refl e l;
  some = λ c m. some c (c == w.calls) refl m;
})
  where
    b : Pieces
    b = record { count = OfCast w.calls q; pool = p; first = w.jobs; workers = (w.shape.pool p).workers }

    t0 : ℕ
    t0 = w.jobs + b.workers

    y : Place
    y = RaiseCount (Gather (record { call = record { number = w.calls; pool = p; job = t0 }; pieces = b }))

    k : Stack
    k = after_call (w.stack q) y

    u : World
    u = after_gather w q p (w.stack q)

    J1 : ℕ → Job
    J1 = put_pieces b (λ i j. new_piece q (OfCast w.calls q) p i) w.job

    le : (c : ℕ) → all_bodies c k ≤ all_bodies c (w.stack q)
    le c = omega arith

    old : (c : ℕ) → (c == w.calls) ≡ false → u.call c ≡ w.call c
    old c e = put_old w.call w.calls (new_gathering b.workers t0) c e

    new : u.call w.calls ≡ new_gathering b.workers t0
    new = put_new w.call w.calls (new_gathering b.workers t0)

    above : (c : ℕ) → w.calls + 1 ≤ c → (c == w.calls) ≡ false
    above c l = elim (either (c == w.calls)) [ inl e ↦ absurd (let i : c ≡ w.calls = eqb-true c w.calls e in omega (arith, i, l)) | inr e ↦ e ]

    below : (c : ℕ) → c + 1 ≤ w.calls → (c == w.calls) ≡ false
    below c l = elim (either (c == w.calls)) [ inl e ↦ absurd (let i : c ≡ w.calls = eqb-true c w.calls e in omega (arith, i, l)) | inr e ↦ e ]

    held : (c : ℕ) (z : Bool) → (c == w.calls) ≡ z → Tokens (λ r. all_bodies c (u.stack r)) 0 (one (u.call c).counted)
    held c true e = record {
      alone = λ r. (let x : all_bodies c (u.stack r) ≡ 0 = unopened_still w u q k (λ r. refl) h c (let i : c ≡ w.calls = eqb-true c w.calls e in omega (arith, i)) (le c) r in omega (arith, x));
      apart = λ r t d. (let x : all_bodies c (u.stack r) ≡ 0 = unopened_still w u q k (λ r. refl) h c (let i : c ≡ w.calls = eqb-true c w.calls e in omega (arith, i)) (le c) r in
          let v : all_bodies c (u.stack t) ≡ 0 = unopened_still w u q k (λ r. refl) h c (let i : c ≡ w.calls = eqb-true c w.calls e in omega (arith, i)) (le c) t in omega (arith, x, v));
    }
    held c false e = bodies_still w u q k (λ r. refl) h c (ap (λ v. v.counted) (old c e)) (le c)

    entries : (c : ℕ) → sum_below (t0 + 1) (λ t. entry c (u.job t)) ≡ sum_below w.jobs (λ t. entry c (w.job t))
    entries c = let x : sum_below (t0 + 1) (λ t. entry c (u.job t)) ≡ sum_below t0 (λ t. entry c (u.job t)) = sum_more t0 (λ t. entry c (u.job t)) (ap (entry c) (put_new J1 t0 (new_whole q p w.calls))) in
        let v : sum_below t0 (λ t. entry c (u.job t)) ≡ sum_below t0 (λ t. entry c (J1 t)) = sum_same t0 (λ t. entry c (u.job t)) (λ t. entry c (J1 t)) (λ t l. ap (entry c) (put_old J1 t0 (new_whole q p w.calls) t (below_new t t0 l))) in
        let g : sum_below t0 (λ t. entry c (J1 t)) ≡ sum_below w.jobs (λ t. entry c (w.job t)) = pieces_entries w q b refl h c in omega (arith, x, v, g)

    sums : (c : ℕ) (z : Bool) → (c == w.calls) ≡ z → sum_below (t0 + 1) (λ t. entry c (u.job t)) + (one (u.call c).counted + (u.call c).undealt) ≡ (u.call c).count
    sums c true e = let i : c ≡ w.calls = eqb-true c w.calls e in subst (λ c. sum_below (t0 + 1) (λ t. entry c (u.job t)) + (one (u.call c).counted + (u.call c).undealt) ≡ (u.call c).count) (sym i)
        (let x : sum_below (t0 + 1) (λ t. entry w.calls (u.job t)) ≡ sum_below w.jobs (λ t. entry w.calls (w.job t)) = entries w.calls in
        let v : sum_below w.jobs (λ t. entry w.calls (w.job t)) ≡ 0 = none_next w h w.jobs (omega arith) in
        let f : one (u.call w.calls).counted ≡ 0 = ap (λ v. one v.counted) new in
        let g : (u.call w.calls).undealt ≡ b.workers = ap (λ v. v.undealt) new in
        let m : (u.call w.calls).count ≡ b.workers = ap (λ v. v.count) new in omega (arith, x, v, f, g, m))
    sums c false e = let x : sum_below (t0 + 1) (λ t. entry c (u.job t)) ≡ sum_below w.jobs (λ t. entry c (w.job t)) = entries c in
        let v : sum_below w.jobs (λ t. entry c (w.job t)) + (one (w.call c).counted + (w.call c).undealt) ≡ (w.call c).count = h.sums c in
        let f : one (u.call c).counted ≡ one (w.call c).counted = ap (λ v. one v.counted) (old c e) in
        let g : (u.call c).undealt ≡ (w.call c).undealt = ap (λ v. v.undealt) (old c e) in
        let m : (u.call c).count ≡ (w.call c).count = ap (λ v. v.count) (old c e) in omega (arith, x, v, f, g, m)

    stays : (t : ℕ) → t + 1 ≤ w.jobs → u.job t ≡ w.job t
    stays t l = put_old J1 t0 (new_whole q p w.calls) t (below_new t t0 (omega (arith, l))) ∙ piece_old b (λ i j. new_piece q (OfCast w.calls q) p i) w.job t (piece_out b t (omega (arith, l)))

    over : Advance w u → (c : ℕ) → c + 1 ≤ w.calls + 1 → (z : Bool) → (c == w.calls) ≡ z → (u.call c).counted ≡ false → Closed u c
    over a c l true e f = let i : c ≡ w.calls = eqb-true c w.calls e in subst (Closed u) (sym i) (record {
      made = (let g : (u.call w.calls).job ≡ t0 = ap (λ v. v.job) new in omega (arith, g));
      closed = ap (λ v. is_closed (u.job v.job)) new ∙ ap is_closed (put_new J1 t0 (new_whole q p w.calls));
    })
    over a c l false e f =
        let m : c + 1 ≤ w.calls = old_call w h c (sym (ap (λ v. v.counted) (old c e)) ∙ f) in
        let x : Closed w c = h.over c m (sym (ap (λ v. v.counted) (old c e)) ∙ f) in record {
          made = (let g : (u.call c).job ≡ (w.call c).job = ap (λ v. v.job) (old c e) in let j : (w.call c).job + 1 ≤ w.jobs = x.made in omega (arith, g, j));
          closed = ap (λ v. is_closed (u.job v.job)) (old c e) ∙ ap is_closed (stays ((w.call c).job) (x.made)) ∙ x.closed;
        }

    fresh : (t : ℕ) → t + 1 ≤ t0 + 1 → (c : ℕ) (o : Party) (z : Bool) → (c == w.calls) ≡ z → (u.job t).kind ≡ PieceOf c o → is_dealt (u.job t).at ≡ false → (u.call c).undealt ≡ (w.shape.pool (u.job t).pool).workers
    fresh t m c o z e r l = elim (either (ltb t w.jobs)) [
      | inl x ↦ (let g : t < w.jobs = ltb-true t w.jobs x in was t (let v : t + 1 ≤ w.jobs = omega (arith, g) in v) c o r l)
      | inr x ↦ made t (ltb-false t w.jobs x) m c o (t == t0) refl r
    ]
      where
        was : (t : ℕ) → t + 1 ≤ w.jobs → (c : ℕ) (o : Party) → (u.job t).kind ≡ PieceOf c o → is_dealt (u.job t).at ≡ false → (u.call c).undealt ≡ (w.shape.pool (u.job t).pool).workers
        was t g c o r l =
            let r2 : (w.job t).kind ≡ PieceOf c o = ap (λ j. j.kind) (sym (stays t g)) ∙ r in
            ap (λ v. v.undealt) (old c (below c ((((h.shares).calls).parts t g c o r2).number))) ∙ h.fresh t g c o r2 (ap (λ j. is_dealt j.at) (sym (stays t g)) ∙ l) ∙ ap (λ j. (w.shape.pool j.pool).workers) (sym (stays t g))

        made : (t : ℕ) → w.jobs ≤ t → t + 1 ≤ t0 + 1 → (c : ℕ) (o : Party) (d : Bool) → (t == t0) ≡ d → (u.job t).kind ≡ PieceOf c o → (u.call c).undealt ≡ (w.shape.pool (u.job t).pool).workers
        made t l m c o true d r = absurd (let i : t ≡ t0 = eqb-true t t0 d in let g : WholeOf w.calls q ≡ PieceOf c o = sym (ap (λ n. (u.job n).kind) i ∙ ap (λ j. j.kind) (put_new J1 t0 (new_whole q p w.calls))) ∙ r in cc)
        made t l m c o false d r =
            let i : is_piece b t ≡ true = piece_in b t l (elim (either (ltb t t0)) [ inl x ↦ ltb-true t t0 x | inr x ↦ absurd (let g : t0 ≤ t = ltb-false t t0 x in let n : t ≡ t0 = omega (arith, g, m) in let v : (t == t0) ≡ true = eq-eqb t t0 n in cc) ]) in
            let j : u.job t ≡ new_piece q (OfCast w.calls q) p (t - b.first) = put_old J1 t0 (new_whole q p w.calls) t d ∙ piece_new b (λ i j. new_piece q (OfCast w.calls q) p i) w.job t i in
            let g : PieceOf w.calls q ≡ PieceOf c o = sym (ap (λ v. v.kind) j) ∙ r in
            let n : w.calls ≡ c = ap piece_call g in
            ap (λ v. (u.call v).undealt) (sym n) ∙ ap (λ v. v.undealt) new ∙ ap (λ v. (w.shape.pool v.pool).workers) (sym j)

    some : (c : ℕ) (z : Bool) → (c == w.calls) ≡ z → 1 ≤ (u.call c).undealt → SomePiece u c
    some c true e m = let i : c ≡ w.calls = eqb-true c w.calls e in subst (SomePiece u) (sym i)
        (let g : (u.call w.calls).undealt ≡ b.workers = ap (λ v. v.undealt) new in
        let n : 1 ≤ b.workers = (let v : (u.call c).undealt ≡ (u.call w.calls).undealt = ap (λ n. (u.call n).undealt) i in omega (arith, v, g, m)) in
        record {
          job = w.jobs;
          owner = q;
          made = omega (arith, n);
          kind = ap (λ j. j.kind) (put_old J1 t0 (new_whole q p w.calls) w.jobs (below_new w.jobs t0 (omega (arith, n)))
              ∙ piece_new b (λ i j. new_piece q (OfCast w.calls q) p i) w.job w.jobs (piece_in b w.jobs (omega arith) (omega (arith, n))));
        })
    some c false e m = let x : SomePiece w c = h.some c (let v : (u.call c).undealt ≡ (w.call c).undealt = ap (λ v. v.undealt) (old c e) in omega (arith, v, m)) in
        record { job = x.job; owner = x.owner; made = (let g : x.job + 1 ≤ w.jobs = x.made in omega (arith, g)); kind = ap (λ j. j.kind) (stays (x.job) (x.made)) ∙ x.kind }

-- a scope begins: its body has a share
opened_scopes : (w : World) (q : Party) (p : ℕ) (l : List Scope) → ScopesHold w → Then_scopes w (record (calling w q (Open (record { number = w.calls; pool = p; job = w.jobs })) (put w.call w.calls (new_call None w.jobs)) (put w.job w.jobs (new_job q p (BodyOf w.calls q))) (w.calls + 1)
    (w.jobs + 1)) { scopes = l })
opened_scopes w q p l h s a = record {
  shares = s;
  bodies = λ c. held c (c == w.calls) refl;
  unopened = λ c b r. unopened c b r (same_party r q) refl;
  whole = λ c b. (next_count w h None w.jobs).0 c ∙ h.whole c (omega (arith, b));
  blank = λ c b. (next_count w h None w.jobs).2 c ∙ h.blank c (omega (arith, b));
  sums = λ c. (let e : sum_below w.jobs (λ t. entry c (w.job t)) + (one (w.call c).counted + (w.call c).undealt) ≡ (w.call c).count = h.sums c in let b : one (v.call c).counted ≡ one (w.call c).counted = ap one ((next_count w h None w.jobs).0 c) in
      let u : (v.call c).undealt ≡ (w.call c).undealt = (next_count w h None w.jobs).2 c in let d : (v.call c).count ≡ (w.call c).count = (next_count w h None w.jobs).1 c in let f : sum_below (w.jobs + 1) (λ t. entry c (v.job t)) ≡ sum_below w.jobs (λ t. entry c (w.job t)) =
      one_entries w q p (BodyOf w.calls q) c in omega (arith, e, b, d, f, u));
  over = λ c b e. (let z : (w.call c).counted ≡ false = sym ((next_count w h None w.jobs).0 c) ∙ e in let d : c + 1 ≤ w.calls = old_call w h c z in closed_event w v a parts (old_target w None w.jobs) c d (h.over c d z));
  fresh = fresh_on w v parts ((next_count w h None w.jobs).2) h;
  some = some_on w v parts ((next_count w h None w.jobs).2) h;
}
  where
    n : Plan
    n = Open (record { number = w.calls; pool = p; job = w.jobs })

    v : World
    v = record (calling w q n (put w.call w.calls (new_call None w.jobs)) (put w.job w.jobs (new_job q p (BodyOf w.calls q))) (w.calls + 1) (w.jobs + 1)) { scopes = l }

    parts : PartsOn w v
    parts = parts_one w v q p (BodyOf w.calls q) refl refl refl refl

    mine : (c : ℕ) → all_bodies c (put_stack w.stack q (after_call (w.stack q) (RaiseCount n)) q) ≡ (one (c == w.calls) + all_bodies c (w.stack q))
    mine c = above (body c) (bodies_in c) (all_bodies c) w q (RaiseCount n) (λ k. refl) (λ y ys. refl)

    other : (c : ℕ) → w.calls + 1 ≤ c → (c == w.calls) ≡ false
    other c b = elim (either (c == w.calls)) [ inl y ↦ absurd (let i : c ≡ w.calls = eqb-true c w.calls y in omega (arith, i, b)) | inr y ↦ y ]

    unopened : (c : ℕ) → w.calls + 1 ≤ c → (r : Party) (d : Bool) → same_party r q ≡ d → all_bodies c (v.stack r) ≡ 0
    unopened c b r true e = ap (λ m. all_bodies c (v.stack m)) (same_party_true r q e) ∙ (let f : all_bodies c (v.stack q) ≡ (one (c == w.calls) + all_bodies c (w.stack q)) = mine c in let z : all_bodies c (w.stack q) ≡ 0 = h.unopened c (omega (arith, b)) q in
        let g : one (c == w.calls) ≡ 0 = ap one (other c b) in omega (arith, f, z, g))
    unopened c b r false e = let f : all_bodies c (v.stack r) ≤ all_bodies c (w.stack r) = other_le (all_bodies c) w q (after_call (w.stack q) (RaiseCount n)) r e in let z : all_bodies c (w.stack r) ≡ 0 = h.unopened c (omega (arith, b)) r in omega (arith, f, z)

    held : (c : ℕ) (b : Bool) → (c == w.calls) ≡ b → Tokens (λ r. all_bodies c (v.stack r)) 0 (one (v.call c).counted)
    held c true y = subst (λ d. Tokens (λ r. all_bodies c (v.stack r)) 0 (one d)) (sym ((next_count w h None w.jobs).0 c ∙ h.whole c new))
        (tokens_gain (λ r. all_bodies c (w.stack r)) (λ r. all_bodies c (v.stack r)) 0 0 q (λ r e. other_le (all_bodies c) w q (after_call (w.stack q) (RaiseCount n)) r e)
        (let f : all_bodies c (v.stack q) ≡ (one (c == w.calls) + all_bodies c (w.stack q)) = mine c in let g : one (c == w.calls) ≤ 1 = one_most (c == w.calls) in omega (arith, f, g)) (omega arith)
        (record { alone = λ r. (let z : all_bodies c (w.stack r) ≡ 0 = h.unopened c new r in omega (arith, z)); apart = λ r t e. (let z : all_bodies c (w.stack r) ≡ 0 = h.unopened c new r in let x : all_bodies c (w.stack t) ≡ 0 = h.unopened c new t in omega (arith, z, x)) }))
      where
        new : w.calls ≤ c
        new = let i : c ≡ w.calls = eqb-true c w.calls y in omega (arith, i)
    held c false y = subst (λ d. Tokens (λ r. all_bodies c (v.stack r)) 0 (one d)) (sym ((next_count w h None w.jobs).0 c))
        (tokens_keep (λ r. all_bodies c (w.stack r)) (λ r. all_bodies c (v.stack r)) 0 0 (one (w.call c).counted) q (one_most ((w.call c).counted)) (λ r e. other_le (all_bodies c) w q (after_call (w.stack q) (RaiseCount n)) r e)
        (let f : all_bodies c (v.stack q) ≡ (one (c == w.calls) + all_bodies c (w.stack q)) = mine c in let g : one (c == w.calls) ≡ 0 = ap one y in omega (arith, f, g)) (h.bodies c))

scope_scopes : (w : World) (q : Party) (p : ℕ) → ScopesHold w → IfSome (after_scope w q p (w.stack q)) (Then_scopes w)
scope_scopes w q p h = if_cond (Then_scopes w) (is_free ((w.stack q).top) && is_pool w.shape p) _ (λ f. opened_scopes w q p (w.scopes ++ record { call = w.calls; pool = p; owner = q } ∷ []) h)

yield_scopes : (w : World) (q : Party) (x : Place) → ((c : ℕ) → body c x ≡ 0) → ScopesHold w → IfSome (after_yield w q (w.stack q) x) (Then_scopes w)
yield_scopes w (Worker a b) x none h = if_cond (Then_scopes w) (is_free ((w.stack (Worker a b)).top)) _ (λ f s d. scopes_keep w (record w { stack = put_stack w.stack (Worker a b) (after_call (w.stack (Worker a b)) x) }) (Worker a b) (after_call (w.stack (Worker a b)) x) (λ r. refl)
    (omega arith) (λ c. refl) (λ c. refl) (λ c. refl) (λ c. refl) (λ c. (let e : body c x ≡ 0 = none c in omega (arith, e))) (λ c e y. record { made = y.made; closed = y.closed }) (record { jobs = omega arith; shape = refl; kinds = λ t b. refl; pools = λ t b. refl; back = λ t m p l. (m, l) }) h s)
yield_scopes w (Caller n) x none h = tt

give_scopes : (w : World) (q : Party) (p : ℕ) → ScopesHold w → IfSome (after_end_pool w q p (w.stack q)) (Then_scopes w)
give_scopes w q p h = if_cond (Then_scopes w) (is_free ((w.stack q).top) && (is_pool w.shape p && (w.pool p).held)) _
    (λ f s d. scopes_keep w (record w { stack = put_stack w.stack q (after_call (w.stack q) (LowerCount (OfPool p) PoolValue Resume)); pool = put w.pool p (record (w.pool p) { held = false }) }) q (after_call (w.stack q) (LowerCount (OfPool p) PoolValue Resume)) (λ r. refl) (omega arith)
    (λ c. refl) (λ c. refl) (λ c. refl) (λ c. refl) (λ c. omega arith) (λ c e y. record { made = y.made; closed = y.closed }) (record { jobs = omega arith; shape = refl; kinds = λ t b. refl; pools = λ t b. refl; back = λ t m p l. (m, l) }) h s)

go_scopes : (w : World) (q : Party) → ScopesHold w → IfSome (step w (Go q)) (Then_scopes w)
go_scopes w q h = acted_keeps w q (w.stack q) (target_pool q (act_of q ((w.stack q).top))) (target_worker q (act_of q ((w.stack q).top))) (target_call (act_of q ((w.stack q).top))) (job_at w q (act_of q ((w.stack q).top))) (outcome w q (w.stack q)) (Then_scopes w)
    (if_some_map (λ r. SharesHold (world_after w q ((w.stack q).top) ((w.stack q).below) r) → ScopesHold (world_after w q ((w.stack q).top) ((w.stack q).below) r)) (λ r. Then_scopes w (world_after w q ((w.stack q).top) ((w.stack q).below) r)) (λ r f s a. f s) (outcome w q (w.stack q))
    (go_by w q ((w.stack q).top) ((w.stack q).below) refl h (ready w q (h.shares))))

each_scopes : (w : World) (e : Event) → ScopesHold w → IfSome (step w e) (Then_scopes w)
each_scopes w (Go q) h = go_scopes w q h
each_scopes w (From q v) h = from_scopes w q ((w.stack q).top) ((w.stack q).below) v refl h
each_scopes w (Refuse q) h = refuse_scopes w q ((w.stack q).top) ((w.stack q).below) refl h
each_scopes w (Miss q) h = miss_scopes w q ((w.stack q).top) ((w.stack q).below) refl h
each_scopes w (End q d) h = end_scopes w q d ((w.stack q).top) ((w.stack q).below) refl h
each_scopes w (Spawn q p) h = spawn_scopes w q p h
each_scopes w (Fifo q p) h = fifo_scopes w q p h
each_scopes w (Cast q p) h = cast_scopes w q p h
each_scopes w (Install q p) h = install_scopes w q p h
each_scopes w (Join q) h = join_scopes w q h
each_scopes w (OpenScope q p) h = scope_scopes w q p h
each_scopes w (IntoSpawn q n) h = into_scopes w q n h
each_scopes w (IntoFifo q n) h = into_fifo_scopes w q n h
each_scopes w (IntoCast q n) h = into_cast_scopes w q n h
each_scopes w (Broadcast q p) h = gather_scopes w q p h
each_scopes w (Yield q) h = yield_scopes w q YieldPop (λ c. refl) h
each_scopes w (YieldLocal q) h = yield_scopes w q LocalPop (λ c. refl) h
each_scopes w (EndPool q p) h = give_scopes w q p h

pub step_scopes : (w : World) (e : Event) → ScopesHold w → IfSome (step w e) ScopesHold
step_scopes w e h = if_some_map (λ u. (SharesHold u × Advance w u) × Then_scopes w u) ScopesHold (λ u f. f.1 ((f.0).0) ((f.0).1)) (step w e)
    (if_some_and (λ u. SharesHold u × Advance w u) (Then_scopes w) (step w e) (if_some_and SharesHold (Advance w) (step w e) (step_shares w e (h.shares))
    (step_advance w e (unqueued w ((h.shares).calls)) ((((h.shares).calls).jobs).feeds) ((((h.shares).calls).jobs).ok) ((((h.shares).calls).jobs).unmade))) (each_scopes w e h))

first_bodies : (h : Shape) (c : ℕ) (q : Party) → body c (first_place h q) ≡ 0
first_bodies h c (Caller n) = at (nat_lt n h.callers)
  where
    at : (z : Bool) → body c (if z then Free else Stopped) ≡ 0
    at true = refl
    at false = refl
first_bodies h c (Worker p i) = at (nat_lt i (h.pool p).workers) ((h.pool p).callers_own && (i == 0))
  where
    at : (y z : Bool) → body c (if y then (if z then Free else ProbeWorking (fresh Termination)) else Stopped) ≡ 0
    at true true = refl
    at true false = refl
    at false z = refl

pub first_scopes : (h : Shape) → ScopesHold (start h)
first_scopes h = record {
  shares = first_shares h;
  bodies = λ c. record { alone = λ q. (let a : body c (first_place h q) ≡ 0 = first_bodies h c q in omega (arith, a)); apart = λ q r z. (let a : body c (first_place h q) ≡ 0 = first_bodies h c q in let b : body c (first_place h r) ≡ 0 = first_bodies h c r in omega (arith, a, b)) };
  unopened = λ c b q. (let a : body c (first_place h q) ≡ 0 = first_bodies h c q in omega (arith, a));
  whole = λ c b. refl;
  blank = λ c b. refl;
  sums = λ c. omega arith;
  over = λ c b. absurd (omega (arith, b));
  fresh = λ t b. absurd (omega (arith, b));
  some = λ c b. absurd (omega (arith, b));
}

pub always_scopes : (h : Shape) (es : List Event) (w : World) → IsRun (start h) es w → ScopesHold w
always_scopes h es w r = run_keeps ScopesHold step_scopes (start h) w es (first_scopes h) r
