-- what has been made stays what it was made as, over each step
use Rattle.std.proofs.Common.{arith, refl, ◌∙◌, ap, subst, inl, inr}
use Rattle.std.specs.Prelude.{ℕ, Bool, true, false, ◌+◌, ◌==◌, ◌≤◌, ◌<◌, Some, ◌≡◌, IfSome}
use Rattle.std.proofs.lemmas.Bool.{eqb-true}
use Rattle.rayon_machine_places.specs.declared.place.Count.TheVariants.{OfPool, OfScope, OfCast}
use Rattle.rayon_machine_places.specs.declared.place.Pieces.{Pieces}
use Rattle.rayon_machine_places.specs.declared.place.Party.{Party}
use Rattle.rayon_machine_places.specs.declared.act.Seen.{Seen}
use Rattle.rayon_machine_runs.specs.declared.event.Event.{Event}
use Rattle.rayon_machine_runs.specs.declared.event.Event.TheVariants.{Go}
use Rattle.rayon_machine_runs.specs.declared.state.Whereabouts.TheVariants.{Over}
use Rattle.rayon_machine_runs.specs.declared.state.Job.{Job}
use Rattle.rayon_machine_places.specs.Places.{act_of}
use Rattle.rayon_machine_runs.specs.World.{Stack, World, Part, at_job}
use Rattle.rayon_machine_places.specs.Targets.{target_pool, target_worker, target_call}
use Rattle.rayon_machine_runs.specs.Steps.{put, put_pieces, after_gather, after_send, new_piece, new_whole, step, after_deal}
use Rattle.rayon_machine_places.specs.declared.place.Count.{Count}
use Rattle.rayon_machine_laws.proofs.Cases.{is_act, event_cases}
use Rattle.rayon_machine_laws.proofs.Calm.{part_at, counts_seen, next_at}
use Rattle.rayon_machine_laws.proofs.Frame.{after_kind, after_pool, after_bound, acted_keeps, either, if_some_map, piece_old, piece_out, put_old, put_same}
use Rattle.rayon_machine_laws.proofs.Later.{Static, act_static}
use Rattle.rayon_machine_laws.proofs.Ties.{job_at, outcome, result}

-- a job or a token is as before what it was made as
pub record StaysMade (w v : World) (t : ℕ) : Type 0 where
  pub kind : (v.job t).kind ≡ (w.job t).kind
  pub pool : (v.job t).pool ≡ (w.job t).pool
  pub bound : (v.job t).bound ≡ (w.job t).bound

-- each number that was given out stays what it is
abbrev FixedOn : World → World → Type 0
FixedOn w u = (t : ℕ) → t + 1 ≤ w.jobs → StaysMade w u t

same_fixed : (w u : World) (t : ℕ) → u.job t ≡ w.job t → StaysMade w u t
same_fixed w u t e = record { kind = ap (λ j. j.kind) e; pool = ap (λ j. j.pool) e; bound = ap (λ j. j.bound) e }

go_fixed : (w : World) (q : Party) → IfSome (outcome w q (w.stack q)) (λ r. FixedOn w (result w q (w.stack q) r))
go_fixed w q =
    let k : Stack = w.stack q in let n : ℕ = job_at w q (act_of q k.top) in
    if_some_map {A = Seen × Part} (Static (part_at w q k)) (λ r. FixedOn w (result w q k r))
    (λ r s t l. record {
      kind = after_kind q (next_at w q k (r.0)) (put w.job n (r.1.job)) t ∙ put_same (λ j. j.kind) w.job n (r.1.job) t (s.kind);
      pool = after_pool q (next_at w q k (r.0)) (put w.job n (r.1.job)) t ∙ put_same (λ j. j.pool) w.job n (r.1.job) t (s.pool);
      bound = after_bound q (next_at w q k (r.0)) (put w.job n (r.1.job)) t ∙ put_same (λ j. j.bound) w.job n (r.1.job) t (s.bound);
    })
    (outcome w q k) (act_static w.shape q (counts_seen w q k) (part_at w q k) k.top)

pub apart : (t n : ℕ) → t + 1 ≤ n → (t == n) ≡ false
apart t n l = elim (either (t == n)) [ inl e ↦ absurd (let k : t ≡ n = eqb-true t n e in omega (arith, k, l)) | inr e ↦ e ]

-- a number that is given out now is none of these
pub made_old : (w : World) (u : ℕ) (j : Job) → w.jobs ≤ u → (t : ℕ) → t + 1 ≤ w.jobs → put w.job u j t ≡ w.job t
made_old w u j l t m = put_old w.job u j t (apart t u (omega (arith, l, m)))

pub two_old : (w : World) (j k : Job) (t : ℕ) → t + 1 ≤ w.jobs → put (put w.job w.jobs j) (w.jobs + 1) k t ≡ w.job t
two_old w j k t m = put_old (put w.job w.jobs j) (w.jobs + 1) k t (apart t (w.jobs + 1) (omega (arith, m))) ∙ made_old w w.jobs j (omega arith) t m

pub deal_old : (w : World) (c : Pieces) (f : ℕ → Job → Job) → c.first ≡ w.jobs → (t : ℕ) → t + 1 ≤ w.jobs → put_pieces c f w.job t ≡ w.job t
deal_old w c f is t m = piece_old c f w.job t (piece_out c t (omega (arith, is, m)))

gather_fixed : (w : World) (q : Party) (p : ℕ) → FixedOn w (after_gather w q p (w.stack q))
gather_fixed w q p t m = same_fixed w (after_gather w q p (w.stack q)) t (put_old (put_pieces c (λ i j. new_piece q c.count p i) w.job) (w.jobs + c.workers) (new_whole q p w.calls) t (apart t (w.jobs + c.workers) (omega (arith, m))) ∙ deal_old w c (λ i j. new_piece q c.count p i) refl t m)
  where
    c : Pieces
    c = record { count = OfCast w.calls q; pool = p; first = w.jobs; workers = (w.shape.pool p).workers }

sent_fixed : (w : World) (q : Party) (p : ℕ) (b : Bool) → FixedOn w (after_send w q p (w.stack q) b)
sent_fixed w q p true t m = same_fixed w (after_send w q p (w.stack q) true) t (made_old w w.jobs _ (omega arith) t m)
sent_fixed w q p false t m = same_fixed w (after_send w q p (w.stack q) false) t (made_old w w.jobs _ (omega arith) t m)

event_fixed : (w : World) (e : Event) → is_act e ≡ false → IfSome (step w e) (FixedOn w)
event_fixed w = event_cases (FixedOn w) w (record {
  turned = λ q a fs z t m. same_fixed w _ t refl;
  ended = λ q d n k fs z t m. record {
    kind = put_same (λ j. j.kind) w.job n (at_job (w.job n) (Over d)) t refl;
    pool = put_same (λ j. j.pool) w.job n (at_job (w.job n) (Over d)) t refl;
    bound = put_same (λ j. j.bound) w.job n (at_job (w.job n) (Over d)) t refl;
  };
  spawned = λ q p f t m. same_fixed w _ t (made_old w w.jobs _ (omega arith) t m);
  fed = λ p i f t m. same_fixed w _ t (two_old w _ _ t m);
  dealt = λ q p f. deals q (OfPool p) p;
  sent = λ q p b e f. sent_fixed w q p b;
  joined = λ p i f t m. same_fixed w _ t (two_old w _ _ t m);
  scoped = λ q p f t m. same_fixed w _ t (made_old w w.jobs _ (omega arith) t m);
  entered = λ q z k t m. same_fixed w _ t (made_old w w.jobs _ (omega arith) t m);
  fed_into = λ i z k t m. same_fixed w _ t (two_old w _ _ t m);
  dealt_into = λ q z k. deals q (OfScope z.call z.owner) z.pool;
  gathered = λ q p f. gather_fixed w q p;
  yielded = λ p i f t m. same_fixed w _ t refl;
  yielded_local = λ p i f t m. same_fixed w _ t refl;
  given = λ q p f held t m. same_fixed w _ t refl;
})
  where
    deals : (q : Party) (k : Count) (p : ℕ) → FixedOn w (after_deal w q k p (w.stack q))
    deals q k p t m = same_fixed w _ t (deal_old w (record { count = k; pool = p; first = w.jobs; workers = (w.shape.pool p).workers }) (λ i j. new_piece q k p i) refl t m)

step_fixed : (w : World) (e : Event) → IfSome (step w e) (FixedOn w)
step_fixed w (Go q) = acted_keeps w q (w.stack q) (target_pool q (act_of q (w.stack q).top)) (target_worker q (act_of q (w.stack q).top)) (target_call (act_of q (w.stack q).top)) (job_at w q (act_of q (w.stack q).top)) (outcome w q (w.stack q)) (FixedOn w) (go_fixed w q)
step_fixed w e = event_fixed w e refl

pub made_law : (w v : World) (e : Event) (t : ℕ) → step w e ≡ Some v → t < w.jobs → StaysMade w v t
made_law w v e t s l = (let f : IfSome (Some v) (FixedOn w) = subst (λ o. IfSome o (FixedOn w)) s (step_fixed w e) in f) t (omega (arith, l))
