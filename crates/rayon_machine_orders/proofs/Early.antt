-- a scope keeps its share of its pool's count while a job of it has one of the scope's: so no pool ends before the
-- scopes at it
--
-- A count of 0 says that no job but those of scopes has a share of the pool. That none of these has one stands on three
-- facts:
-- - A scope's body has a kind of its own. So no end of a queued job sets the scope's latch. A set one means that the
--   count is 0 (`IsReady`).
-- - Who gives the body's share back has seen that latch set (`seen_set`, at the Lower after a Take too). Or the call is
--   refused, and then its body is as it was made (`Feeds`).
-- - A job comes into a scope only by who holds it (`Holder`): who runs the body, whose frame has the body's share, or a
--   job of the scope.
-- So while a scope's count is not 0 its body keeps its share of the pool (`not_given` of EarlyActs). Then the pool's
-- count is not 0.
use Rattle.std.proofs.Common.{arith, refl, sym, ◌∙◌, ap, inl, inr}
use Rattle.rayon_machine_orders.proofs.Words.{ℕ, zero, suc, Bool, true, false, ◌+◌, ◌==◌, ◌≤◌, ◌<◌, List, ◌≡◌, ◌⊎◌, IfSome, eqb-true, ltb-true, ltb-false, ltb, Party, JobKind, Scoped, PieceOf, Event, Go, Shape, World, step, start, IsRun, one, is_busy, ScopeEnded, has_body, is_of_scope, is_done}
use Rattle.rayon_machine_laws.specs.Shares.{is_scoped, NoEarlyEnd}
use Rattle.rayon_machine_laws.proofs.Frame.{either, if_some_and, if_some_map}
use Rattle.rayon_machine_laws.proofs.Events.{run_keeps}
use Rattle.rayon_machine_laws.proofs.PlacedRuns.{step_advance}
use Rattle.rayon_machine_laws.proofs.PlacedEvents.{Advance}
use Rattle.rayon_machine_laws.proofs.Claims.{PartOf}
use Rattle.rayon_machine_laws.proofs.ClaimRuns.{unqueued}
use Rattle.rayon_machine_laws.proofs.Tokens.{sum_below, sum_least}
use Rattle.rayon_machine_laws.proofs.ShareActs.{SharesHold}
use Rattle.rayon_machine_laws.proofs.ShareSteps.{self_one}
use Rattle.rayon_machine_laws.proofs.ShareEnds.{gone, job_uncounted}
use Rattle.rayon_machine_laws.proofs.Scoping.{ScopesHold, entry, entry_on, entry_kept}
use Rattle.rayon_machine_laws.proofs.Enters.{EntersHold}
use Rattle.rayon_machine_laws.proofs.Spawned.{through}
use Rattle.rayon_machine_orders.proofs.FilledStates.{FilledHold, done_ended, unmade_ended}
use Rattle.rayon_machine_orders.proofs.Filled.{step_fills, first_fills}
use Rattle.rayon_machine_orders.proofs.CallSteps.{go_all}
use Rattle.rayon_machine_orders.proofs.EarlyStates.{Entered, EarlyHold}
use Rattle.rayon_machine_orders.proofs.EarlyEvents.{early_cases, early_next, Next}
use Rattle.rayon_machine_orders.proofs.EarlyActs.{go_early}
use Rattle.rayon_machine_orders.proofs.EventCases.{by_cases}

event_next : (w : World) (e : Event) → EarlyHold w → IfSome (step w e) (Next w) → IfSome (step w e) EarlyHold
event_next w e h n = if_some_map (λ u. (FilledHold u × Advance w u) × Next w u) EarlyHold (λ u d. early_next w u h ((d.0).0) ((d.0).1) (d.1)) (step w e)
    (if_some_and (λ u. FilledHold u × Advance w u) (Next w) (step w e)
    (if_some_and FilledHold (Advance w) (step w e) (step_fills w e (h.fills)) (step_advance w e (unqueued w (((h.fills).hold).calls)) (((((h.fills).hold).calls).jobs).feeds) (((((h.fills).hold).calls).jobs).ok) (((((h.fills).hold).calls).jobs).unmade))) n)

pub step_early : (w : World) (e : Event) → EarlyHold w → IfSome (step w e) EarlyHold
step_early w (Go q) h = go_all EarlyHold w q (go_early w q h)
step_early w e h = event_next w e h (by_cases w (Next w) (early_cases w h) e refl)

pub first_early : (h : Shape) → EarlyHold (start h)
first_early h = record {
  fills = first_fills h;
  entered = λ t l c o k. absurd (omega (arith, l));
  listed = λ n z e. absurd (cc);
  kept = λ t l c o k m. absurd (omega (arith, l));
  alone = λ t l c o k. absurd (omega (arith, l));
  dealt = λ t l c o k m. absurd (omega (arith, l));
}

pub always_early : (h : Shape) (es : List Event) (w : World) → IsRun (start h) es w → EarlyHold w
always_early h es w r = run_keeps EarlyHold step_early (start h) w es (first_early h) r

-- no pool ends early: a job of a scope that has a share would keep the scope's, and a piece of a broadcast the broadcast's
scope_of : (k : JobKind) → is_scoped k ≡ true → ((c : ℕ) × ((o : Party) × (k ≡ Scoped c o))) ⊎ ((c : ℕ) × ((o : Party) × (k ≡ PieceOf c o)))
scope_of (Scoped c o) e = inl (c, (o, refl))
scope_of (PieceOf c o) e = inr (c, (o, refl))
scope_of _ e = absurd (cc)

pub no_early_end : (w : World) → EarlyHold w → NoEarlyEnd w
no_early_end w h p i z = gone w p hold none (λ t e k. scoped t e k ((w.job t).counted) refl)
  where
    hold : SharesHold w
    hold = (h.fills).hold

    none : (w.pool p).count ≡ 0
    none = (hold.calls).ends p i z

    scoped : (t : ℕ) → (w.job t).pool ≡ p → is_scoped (w.job t).kind ≡ true → (b : Bool) → (w.job t).counted ≡ b → b ≡ false
    scoped t e k false y = refl
    scoped t e k true y = absurd (elim (scope_of ((w.job t).kind) k) [ inl s ↦ of_scope t e y (s.0) ((s.1).0) ((s.1).1) | inr s ↦ of_cast t e y (s.0) ((s.1).0) ((s.1).1) ])
      where
        is_made : (t : ℕ) → (w.job t).counted ≡ true → t + 1 ≤ w.jobs
        is_made t y = elim (either (ltb t w.jobs)) [ inl g ↦ (let b : t < w.jobs = ltb-true t w.jobs g in omega (arith, b)) | inr g ↦ absurd (let n : (w.job t).counted ≡ false = hold.unmade t (ltb-false t w.jobs g) in let x : true ≡ false = sym y ∙ n in cc) ]

        of_cast : (t : ℕ) → (w.job t).pool ≡ p → (w.job t).counted ≡ true → (c : ℕ) (o : Party) → (w.job t).kind ≡ PieceOf c o → ⊥
        of_cast t e y c o k =
            let n : PartOf w t c o = (hold.calls).parts t (is_made t y) c o k in
            let v : (w.job (w.call c).job).counted ≡ true = h.dealt t (is_made t y) c o k y in
            let x : (w.job (w.call c).job).counted ≡ false = job_uncounted w p hold none ((w.call c).job) (sym (n.pool) ∙ e) (ap is_scoped (n.kind)) in
            let z : true ≡ false = sym v ∙ x in cc

        of_scope : (t : ℕ) → (w.job t).pool ≡ p → (w.job t).counted ≡ true → (c : ℕ) (o : Party) → (w.job t).kind ≡ Scoped c o → ⊥
        of_scope t e y c o k =
            let m : t + 1 ≤ w.jobs = is_made t y in
            let n : Entered w t c o = h.entered t m c o k in
            let a : sum_below w.jobs (λ t. entry c (w.job t)) + (one (w.call c).counted + (w.call c).undealt) ≡ (w.call c).count = ((h.fills).scopes).sums c in
            let d : entry c (w.job t) ≤ sum_below w.jobs (λ t. entry c (w.job t)) = sum_least w.jobs (λ t. entry c (w.job t)) t m in
            let g : entry c (w.job t) ≡ one (c == c) = entry_on c (w.job t) (Scoped c o) y k in
            let f : one (c == c) ≡ 1 = self_one c in
            let v : (w.job (w.call c).job).counted ≡ true = h.kept t m c o k (omega (arith, a, d, g, f)) in
            let x : (w.job (w.call c).job).counted ≡ false = job_uncounted w p hold none ((w.call c).job) (sym (n.pool) ∙ e) (ap is_scoped (n.body)) in
            let z : true ≡ false = sym v ∙ x in cc

-- a scope whose body is over and has given back its share of the pool's count has ended
pub scope_ended : (w : World) → EarlyHold w → EntersHold w → (c t : ℕ) → (w.call c).job ≡ t → is_done (w.job t).at ≡ true → (w.job t).counted ≡ false → ScopeEnded w c
scope_ended w h enters c t i d n = record {
  body = λ f. over;
  jobs = λ j k. unshared j k ((w.job j).counted) refl;
  idle = λ j k. idle j k (is_busy (w.job j).at) refl;
  over = λ f j m k. absurd (whole f);
  spawned = λ j o m k. through w hold enters c (empty j o m k ((w.call c).count) refl) j o m k;
}
  where
    hold : ScopesHold w
    hold = (h.fills).scopes

    over : is_done (w.job (w.call c).job).at ≡ true
    over = ap (λ j. is_done (w.job j).at) i ∙ d

    -- what stands for a broadcast is never over
    whole : has_body (w.job (w.call c).job).kind ≡ false → ⊥
    whole f = let m : (w.call c).job + 1 ≤ w.jobs = unmade_ended w ((((h.fills).hold).calls).jobs) ((w.call c).job) (done_ended ((w.job (w.call c).job).at) over) in
        let a : is_done (w.job (w.call c).job).at ≡ false = ap is_done ((h.fills).wholes ((w.call c).job) m f) in let x : true ≡ false = sym over ∙ a in cc

    -- a scope whose body has given its share of the pool's count back has none of its own left
    empty : (j : ℕ) (o : Party) → j + 1 ≤ w.jobs → (w.job j).kind ≡ Scoped c o → (a : ℕ) → (w.call c).count ≡ a → a ≡ 0
    empty j o m k zero e = refl
    empty j o m k (suc l) e = absurd (let v : (w.job (w.call c).job).counted ≡ true = h.kept j m c o k (omega (arith, e)) in let x : true ≡ false = sym v ∙ ap (λ v. (w.job v).counted) i ∙ n in cc)

    is_made : (j : ℕ) → (w.job j).counted ≡ true → j + 1 ≤ w.jobs
    is_made j y = elim (either (ltb j w.jobs)) [ inl g ↦ (let b : j < w.jobs = ltb-true j w.jobs g in omega (arith, b)) | inr g ↦ absurd (let z : (w.job j).counted ≡ false = (hold.shares).unmade j (ltb-false j w.jobs g) in let x : true ≡ false = sym y ∙ z in cc) ]

    none : (j : ℕ) (k : JobKind) → (w.job j).kind ≡ k → is_of_scope c k ≡ true → (w.job j).counted ≡ true → ⊥
    none j (Scoped b o) e k y = absurd (
        let m : j + 1 ≤ w.jobs = is_made j y in
        let s : (w.job j).kind ≡ Scoped c o = e ∙ ap (λ n. Scoped n o) (sym (eqb-true c b k)) in
        let a : sum_below w.jobs (λ t. entry c (w.job t)) + (one (w.call c).counted + (w.call c).undealt) ≡ (w.call c).count = hold.sums c in
        let l : entry c (w.job j) ≤ sum_below w.jobs (λ t. entry c (w.job t)) = sum_least w.jobs (λ t. entry c (w.job t)) j m in
        let g : entry c (w.job j) ≡ one (c == c) = entry_on c (w.job j) (Scoped c o) y s in
        let f : one (c == c) ≡ 1 = self_one c in
        let v : (w.job (w.call c).job).counted ≡ true = h.kept j m c o s (omega (arith, a, l, g, f)) in
        let x : true ≡ false = sym v ∙ ap (λ v. (w.job v).counted) i ∙ n in cc)
    none j (PieceOf b o) e k y = whole (ap has_body (((hold.shares).calls).parts j (is_made j y) c o (e ∙ ap (λ n. PieceOf n o) (sym (eqb-true c b k)))).kind)
    none j _ e k y = cc

    unshared : (j : ℕ) → is_of_scope c (w.job j).kind ≡ true → (b : Bool) → (w.job j).counted ≡ b → b ≡ false
    unshared j k false y = refl
    unshared j k true y = absurd (none j ((w.job j).kind) refl k y)

    scoped : (k : JobKind) → is_of_scope c k ≡ true → is_scoped k ≡ true
    scoped (Scoped b o) e = refl
    scoped (PieceOf b o) e = refl
    scoped _ e = cc

    idle : (j : ℕ) → is_of_scope c (w.job j).kind ≡ true → (b : Bool) → is_busy (w.job j).at ≡ b → b ≡ false
    idle j k false y = refl
    idle j k true y = sym (entry_kept w hold j (scoped ((w.job j).kind) k) y) ∙ unshared j k ((w.job j).counted) refl
