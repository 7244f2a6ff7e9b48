-- what holds of the count of each scope: it is the number of its shares, and the body's is in it until the body is over
use Rattle.rayon_machine_laws.proofs.Lost.{is_dealt}
use Rattle.std.proofs.Common.{arith, refl, sym, ◌∙◌, ap, inl, inr}
use Rattle.std.specs.Prelude.{ℕ, zero, suc, Bool, true, false, ◌&&◌, ◌+◌, ◌==◌, ◌≤◌, ◌<◌, if◌then◌else◌, List, ◌≡◌, IfSome, ◌||◌}
use Rattle.std.proofs.lemmas.Bool.{eqb-true, ltb-true, ltb-false}
use Rattle.std.proofs.Math.Dec.{ltb}
use Rattle.rayon_machine_places.specs.declared.place.Party.{Party}
use Rattle.rayon_machine_places.specs.declared.place.Party.TheVariants.{Caller}
use Rattle.rayon_machine_places.specs.declared.place.JobKind.{JobKind}
use Rattle.rayon_machine_places.specs.declared.place.JobKind.TheVariants.{Detached, Stored, Direct, Scoped, TokenOf, BodyOf, PieceOf, WholeOf}
use Rattle.rayon_machine_places.specs.declared.place.Count.TheVariants.{OfScope}
use Rattle.rayon_machine_places.specs.declared.place.Share.TheVariants.{OfJob}
use Rattle.rayon_machine_places.specs.declared.place.Then.{Then}
use Rattle.rayon_machine_places.specs.declared.place.Place.{Place}
use Rattle.rayon_machine_places.specs.declared.place.Place.TheVariants.{LowerCount}
use Rattle.rayon_machine_runs.specs.declared.state.Whereabouts.{Whereabouts}
use Rattle.rayon_machine_runs.specs.declared.state.Whereabouts.TheVariants.{InDeque, Injected, InCast, Running, Over}
use Rattle.rayon_machine_runs.specs.declared.state.Job.{Job}
use Rattle.rayon_machine_runs.specs.World.{World, count_below}
use Rattle.rayon_machine_runs.specs.Readers.{is_done}
use Rattle.rayon_machine_laws.specs.Once.{one}
use Rattle.rayon_machine_laws.specs.Shares.{shares, is_busy, share_then, shares_in}
use Rattle.rayon_machine_laws.specs.Counted.{is_scoped, is_of_scope, has_entry, ScopesCounted, ScopeEnded, is_detached, has_body}
use Rattle.rayon_machine_laws.proofs.Frame.{either}
use Rattle.rayon_machine_laws.proofs.Ties.{outcome}
use Rattle.rayon_machine_laws.proofs.Claims.{SaysThen, SaysShare, PartOf, Tied}
use Rattle.rayon_machine_laws.proofs.ClaimRuns.{top_says, world_after}
use Rattle.rayon_machine_laws.proofs.Tokens.{sum_below, sum_least}
use Rattle.rayon_machine_laws.proofs.ShareActs.{with_job, SharesHold, one_is, one_not}
use Rattle.rayon_machine_laws.proofs.ShareSteps.{self_one}
use Rattle.rayon_machine_laws.proofs.ShareLowers.{share_made}
use Rattle.rayon_machine_laws.proofs.ShareEvents.{ready}
use Rattle.rayon_machine_laws.proofs.ScopeCounts.{is_whole, is_closed, share_entry}
pub use Rattle.rayon_machine_laws.proofs.ScopeCounts.{entry, Closed, SomePiece, ScopesHold, PartsOn, entry_on, old_call, scopes_keep, is_counting, Uncalled, same_uncalled, act_uncalled}
use Rattle.rayon_machine_laws.proofs.ScopeActs.{go_by}
pub use Rattle.rayon_machine_laws.proofs.ScopeEvents.{Then_scopes, step_scopes, first_scopes, always_scopes}

-- a scope whose count is 0
scope_uncounted : (w : World) → ScopesHold w → (c : ℕ) → (w.call c).count ≡ 0 → (w.call c).counted ≡ false
scope_uncounted w h c z = one_not ((w.call c).counted) (let a : sum_below w.jobs (λ t. entry c (w.job t)) + (one (w.call c).counted + (w.call c).undealt) ≡ (w.call c).count = h.sums c in omega (arith, a, z))

-- its body is over, if it is no broadcast
pub scope_over : (w : World) → ScopesHold w → (c : ℕ) → c + 1 ≤ w.calls → (w.call c).count ≡ 0 → (is_whole (w.job (w.call c).job).kind || is_done (w.job (w.call c).job).at) ≡ true
scope_over w h c b z = (h.over c b (scope_uncounted w h c z)).closed

-- a job of a scope, or a piece of a broadcast, that is queued or runs has its share itself
scoped_detached : (k : JobKind) → is_scoped k ≡ true → is_detached k ≡ true
scoped_detached (Scoped c o) e = refl
scoped_detached (PieceOf c o) e = refl
scoped_detached _ e = cc

of_scoped : (c : ℕ) (k : JobKind) → is_of_scope c k ≡ true → is_scoped k ≡ true
of_scoped c (Scoped d o) e = refl
of_scoped c (PieceOf d o) e = refl
of_scoped c _ e = cc

pub entry_kept : (w : World) → ScopesHold w → (t : ℕ) → is_scoped (w.job t).kind ≡ true → is_busy (w.job t).at ≡ true → (w.job t).counted ≡ true
entry_kept w h t k y = one_is ((w.job t).counted) (let a : shares t (w.stack (Caller 0)) + with_job (w.job t) ≤ one (w.job t).counted = ((h.shares).jobs t).alone (Caller 0) in
    let b : with_job (w.job t) ≡ 1 = ap (λ v. one (v && is_busy (w.job t).at)) (scoped_detached ((w.job t).kind) k) ∙ ap one y in omega (arith, a, b))

entry_gone : (w : World) → ScopesHold w → (c : ℕ) → (w.call c).count ≡ 0 → (t : ℕ) → is_of_scope c (w.job t).kind ≡ true → (w.job t).counted ≡ false
entry_gone w h c z t k = by ((w.job t).counted) refl
  where
    by : (b : Bool) → (w.job t).counted ≡ b → b ≡ false
    by false y = refl
    by true y = absurd (let m : t + 1 ≤ w.jobs = elim (either (ltb t w.jobs)) [ inl g ↦ (let b : t < w.jobs = ltb-true t w.jobs g in omega (arith, b)) | inr g ↦ absurd (let n : (w.job t).counted ≡ false = (h.shares).unmade t (ltb-false t w.jobs g) in cc) ] in
        let a : sum_below w.jobs (λ t. entry c (w.job t)) + (one (w.call c).counted + (w.call c).undealt) ≡ (w.call c).count = h.sums c in
        let d : entry c (w.job t) ≤ sum_below w.jobs (λ t. entry c (w.job t)) = sum_least w.jobs (λ t. entry c (w.job t)) t m in
        let e : entry c (w.job t) ≡ 1 = entry_on c (w.job t) ((w.job t).kind) y refl ∙ ap one k in omega (arith, a, d, e, z))

-- a call that is no broadcast, and whose own share is given back, has a body that is over
body_done : (j : Job) → is_closed j ≡ true → has_body j.kind ≡ true → is_done j.at ≡ true
body_done j e = by (j.kind) (is_done j.at) e
  where
    by : (k : JobKind) (b : Bool) → (is_whole k || b) ≡ true → has_body k ≡ true → b ≡ true
    by (WholeOf c o) b e f = cc
    by (Detached p) b e f = e
    by (Stored c o) b e f = e
    by Direct b e f = e
    by (TokenOf i l) b e f = e
    by (Scoped c o) b e f = e
    by (BodyOf c o) b e f = e
    by (PieceOf c o) b e f = e

idle_if : (b : Bool) → (b ≡ true → true ≡ false) → b ≡ false
idle_if true f = f refl
idle_if false f = refl

count_sum : (n : ℕ) (f : ℕ → Bool) → count_below n f ≡ sum_below n (λ t. one (f t))
count_sum zero f = refl
count_sum (suc n) f = by (f n) (count_sum n f)
  where
    by : (b : Bool) → count_below n f ≡ sum_below n (λ t. one (f t)) → (if b then 1 + count_below n f else count_below n f) ≡ (one b + sum_below n (λ t. one (f t)))
    by true e = omega (arith, e)
    by false e = omega (arith, e)

-- shares wait in the count of a broadcast alone
none_waits : (w : World) → ScopesHold w → (c : ℕ) → has_body (w.job (w.call c).job).kind ≡ true → (n : ℕ) → (w.call c).undealt ≡ n → (w.call c).undealt ≡ 0
none_waits w h c f zero e = e
none_waits w h c f (suc n) e = absurd (let x : SomePiece w c = h.some c (let a : 1 ≤ (w.call c).undealt = omega (arith, e) in a) in
    let p : PartOf w (x.job) c (x.owner) = ((h.shares).calls).parts (x.job) (x.made) c (x.owner) (x.kind) in
    let k : has_body (w.job (w.call c).job).kind ≡ false = ap has_body (p.kind) in
    let z : true ≡ false = sym f ∙ k in cc)

-- a piece that was dealt, and has no share, is over
dealt_over : (v : Whereabouts) → is_dealt v ≡ true → is_busy v ≡ false → is_done v ≡ true
dealt_over (Over e) d b = refl
dealt_over (InDeque p i) d b = cc
dealt_over (Injected p) d b = cc
dealt_over (InCast p i) d b = cc
dealt_over (Running q) d b = cc
dealt_over _ d b = cc

-- where the count of a broadcast is 0 its pieces were dealt, and are over
piece_over : (w : World) → ScopesHold w → (c : ℕ) → (w.call c).count ≡ 0 → has_body (w.job (w.call c).job).kind ≡ false → (t : ℕ) → t + 1 ≤ w.jobs → is_of_scope c (w.job t).kind ≡ true → is_done (w.job t).at ≡ true
piece_over w h c z f t m k = by ((w.job t).kind) refl k
  where
    idle : is_busy (w.job t).at ≡ false
    idle = idle_if (is_busy (w.job t).at) (λ y. sym (entry_kept w h t (of_scoped c ((w.job t).kind) k) y) ∙ entry_gone w h c z t k)

    undealt : (w.call c).undealt ≡ 0
    undealt = let a : sum_below w.jobs (λ t. entry c (w.job t)) + (one (w.call c).counted + (w.call c).undealt) ≡ (w.call c).count = h.sums c in omega (arith, a, z)

    dealt : (o : Party) → (w.job t).kind ≡ PieceOf c o → (b : Bool) → is_dealt (w.job t).at ≡ b → b ≡ true
    dealt o e true y = refl
    dealt o e false y = absurd (let a : (w.call c).undealt ≡ (w.shape.pool (w.job t).pool).workers = h.fresh t m c o e y in
        let p : PartOf w t c o = ((h.shares).calls).parts t m c o e in
        let b : (w.shape.pool (w.job t).pool).workers ≡ (w.shape.pool (w.job (w.call c).job).pool).workers = ap (λ n. (w.shape.pool n).workers) (p.pool) in
        let d : t + 1 ≤ (w.call c).job = p.below in
        let g : (w.call c).job ≤ t + (w.shape.pool (w.job (w.call c).job).pool).workers = p.above in omega (arith, a, b, d, g, undealt))

    by : (d : JobKind) → (w.job t).kind ≡ d → is_of_scope c d ≡ true → is_done (w.job t).at ≡ true
    by (PieceOf d o) e y = let k2 : (w.job t).kind ≡ PieceOf c o = e ∙ ap (λ n. PieceOf n o) (sym (eqb-true c d y)) in dealt_over ((w.job t).at) (dealt o k2 (is_dealt (w.job t).at) refl) idle
    by (Scoped d o) e y = absurd (let x : Tied w d o = ((h.shares).calls).entries t m d o e in let i : c ≡ d = eqb-true c d y in let a : has_body (w.job (w.call c).job).kind ≡ true = ap (λ n. has_body (w.job (w.call n).job).kind) i ∙ ap has_body (x.kind) in let n : true ≡ false = sym a ∙ f in cc)
    by _ e y = cc

-- what is known of a call whose count is 0 from the shares alone
pub record CountOver (w : World) (c : ℕ) : Type 0 where
  pub body : has_body (w.job (w.call c).job).kind ≡ true → is_done (w.job (w.call c).job).at ≡ true
  pub jobs : (t : ℕ) → is_of_scope c (w.job t).kind ≡ true → (w.job t).counted ≡ false
  pub idle : (t : ℕ) → is_of_scope c (w.job t).kind ≡ true → is_busy (w.job t).at ≡ false
  pub over : has_body (w.job (w.call c).job).kind ≡ false → (t : ℕ) → t + 1 ≤ w.jobs → is_of_scope c (w.job t).kind ≡ true → is_done (w.job t).at ≡ true

-- a body that has given its share back is over
pub body_over : (w : World) → ScopesHold w → (c : ℕ) → c + 1 ≤ w.calls → (w.call c).counted ≡ false → has_body (w.job (w.call c).job).kind ≡ true → is_done (w.job (w.call c).job).at ≡ true
body_over w h c b e f = body_done (w.job (w.call c).job) ((h.over c b e).closed) f

pub count_over : (w : World) → ScopesHold w → (c : ℕ) → c + 1 ≤ w.calls → (w.call c).count ≡ 0 → CountOver w c
count_over w h c b z = record {
  body = λ f. body_over w h c b (scope_uncounted w h c z) f;
  jobs = entry_gone w h c z;
  idle = λ t k. idle_if (is_busy (w.job t).at) (λ y. sym (entry_kept w h t (of_scoped c ((w.job t).kind) k) y) ∙ entry_gone w h c z t k);
  over = λ f t m k. piece_over w h c z f t m k;
}

pub scopes_counted : (w : World) → ScopesHold w → ((c : ℕ) → c + 1 ≤ w.calls → (w.call c).count ≡ 0 → ScopeEnded w c) → ScopesCounted w
scopes_counted w h ended = record {
  count = λ c. (let a : sum_below w.jobs (λ t. entry c (w.job t)) + (one (w.call c).counted + (w.call c).undealt) ≡ (w.call c).count = h.sums c in
      let b : count_below w.jobs (λ t. has_entry c (w.job t)) ≡ sum_below w.jobs (λ t. entry c (w.job t)) = count_sum w.jobs (λ t. has_entry c (w.job t)) in omega (arith, a, b));
  none = λ c f. none_waits w h c f ((w.call c).undealt) refl;
  body = λ c b e f. body_over w h c b e f;
  undealt = λ t b c o k m. h.fresh t b c o k (ap is_dealt m);
  kept = entry_kept w h;
  ended = ended;
}

-- each act, by what its party stands at
pub acts_scopes : (w : World) (q : Party) → ScopesHold w → IfSome (outcome w q (w.stack q)) (λ r. SharesHold (world_after w q ((w.stack q).top) ((w.stack q).below) r) → ScopesHold (world_after w q ((w.stack q).top) ((w.stack q).below) r))
acts_scopes w q h = go_by w q ((w.stack q).top) ((w.stack q).below) refl h (ready w q (h.shares))

-- where a job gives back the last share of a scope's count, the body's is given back already
pub last_entry : (w : World) (q : Party) (d : ℕ) (o : Party) (u : ℕ) (n : Then) (fs : List Place) → ScopesHold w → w.stack q ≡ record { top = LowerCount (OfScope d o) (OfJob u) n; below = fs } → (w.call d).count ≡ 1 → (w.call d).counted ≡ false
last_entry w q d o u n fs h z one_left = one_not ((w.call d).counted)
    (let a : sum_below w.jobs (λ t. entry d (w.job t)) + (one (w.call d).counted + (w.call d).undealt) ≡ (w.call d).count = h.sums d in
    let m : entry d (w.job u) ≤ sum_below w.jobs (λ t. entry d (w.job t)) = sum_least w.jobs (λ t. entry d (w.job t)) u (share_made w (OfScope d o) u n (said.1)) in
    let e : entry d (w.job u) ≡ one (d == d) = share_entry w q (OfScope d o) u d n (said.0) (said.1) had in
    let f : one (d == d) ≡ 1 = self_one d in omega (arith, a, m, e, f, one_left))
  where
    said : SaysThen w q n × SaysShare w (OfScope d o) (OfJob u) n
    said = top_says w q (LowerCount (OfScope d o) (OfJob u) n) fs ((h.shares).calls) z

    had : (w.job u).counted ≡ true
    had = one_is ((w.job u).counted) (let a : shares u (w.stack q) ≡ ((one (u == u) + share_then u n) + shares_in u fs) = ap (shares u) z in let b : one (u == u) ≡ 1 = self_one u in let c : shares u (w.stack q) + with_job (w.job u) ≤ one (w.job u).counted = ((h.shares).jobs u).alone q in
        omega (arith, a, b, c))
