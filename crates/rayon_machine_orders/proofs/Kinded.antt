-- what has been made keeps its kind
use Rattle.std.proofs.Common.{arith, refl, ◌∙◌, ap, inl, inr}
use Rattle.rayon_machine_orders.proofs.Words.{ℕ, Bool, true, false, ◌&&◌, ◌+◌, ◌-◌, ◌==◌, ◌≤◌, nat_lt, if◌then◌else◌, ◌≡◌, IfSome, eqb-true, Count, OfPool, OfScope, OfCast, Pieces, Party, Worker, Caller, Ending, Place, PickVictim, StealFrom, YieldPop, YieldPick, YieldSteal, LocalPop, Run, Seen}
use Rattle.rayon_machine_orders.proofs.Words.{Event, Go, From, Refuse, Miss, End, Spawn, Fifo, Install, Join, Yield, YieldLocal, EndPool, Cast, OpenScope, IntoSpawn, IntoFifo, IntoCast, Broadcast, Over, Job, act_of, is_free, is_member, Stack, World, Part, at_job, target_pool, target_worker}
use Rattle.rayon_machine_orders.proofs.Words.{target_call, put, put_pieces, jobs_after, after_cast, after_choice, after_end, after_gather, after_join, after_miss, after_send, after_yield, is_piece, is_pool, new_piece, new_whole, step}
use Rattle.rayon_machine_laws.proofs.Calm.{part_at, counts_seen, next_at}
use Rattle.rayon_machine_laws.proofs.Frame.{after_kind, acted_keeps, either, fifo_cases, if_cond, if_some_map, into_cases, into_cast_cases, into_fifo_cases, piece_old, piece_out, put_old, put_same}
use Rattle.rayon_machine_laws.proofs.Later.{Static, act_static}
use Rattle.rayon_machine_laws.proofs.Ties.{job_at, outcome, result}

-- each number that was given out is of the same kind
abbrev pub KindsOn : World → World → Type 0
KindsOn w u = (t : ℕ) → t + 1 ≤ w.jobs → (u.job t).kind ≡ (w.job t).kind

go_kinds : (w : World) (q : Party) → IfSome (outcome w q (w.stack q)) (λ r. KindsOn w (result w q (w.stack q) r))
go_kinds w q =
    let k : Stack = w.stack q in let n : ℕ = job_at w q (act_of q k.top) in
    if_some_map {A = Seen × Part} (Static (part_at w q k)) (λ r. KindsOn w (result w q k r))
    (λ r s t l. after_kind q (next_at w q k (r.0)) (put w.job n (r.1.job)) t ∙ put_same (λ j. j.kind) w.job n (r.1.job) t (s.kind))
    (outcome w q k) (act_static w.shape q (counts_seen w q k) (part_at w q k) k.top)

apart : (t n : ℕ) → t + 1 ≤ n → (t == n) ≡ false
apart t n l = elim (either (t == n)) [ inl e ↦ absurd (let k : t ≡ n = eqb-true t n e in omega (arith, k, l)) | inr e ↦ e ]

-- a number that is given out now is none of these
made_kinds : (w : World) (u : ℕ) (j : Job) → w.jobs ≤ u → (t : ℕ) → t + 1 ≤ w.jobs → (put w.job u j t).kind ≡ (w.job t).kind
made_kinds w u j l t m = ap (λ a. a.kind) (put_old w.job u j t (apart t u (omega (arith, l, m))))

two_kinds : (w : World) (j k : Job) (t : ℕ) → t + 1 ≤ w.jobs → (put (put w.job w.jobs j) (w.jobs + 1) k t).kind ≡ (w.job t).kind
two_kinds w j k t m = ap (λ a. a.kind) (put_old (put w.job w.jobs j) (w.jobs + 1) k t (apart t (w.jobs + 1) (omega (arith, m)))) ∙ made_kinds w w.jobs j (omega arith) t m

deal_kinds : (w : World) (c : Pieces) (f : ℕ → Job → Job) → c.first ≡ w.jobs → (t : ℕ) → t + 1 ≤ w.jobs → (put_pieces c f w.job t).kind ≡ (w.job t).kind
deal_kinds w c f is t m = ap (λ a. a.kind) (piece_old c f w.job t (piece_out c t (omega (arith, is, m))))

gather_kinds : (w : World) (q : Party) (p : ℕ) → KindsOn w (after_gather w q p (w.stack q))
gather_kinds w q p t m = ap (λ a. a.kind) (put_old (put_pieces c (λ i j. new_piece q c.count p i) w.job) (w.jobs + c.workers) (new_whole q p w.calls) t (apart t (w.jobs + c.workers) (omega (arith, m)))) ∙ deal_kinds w c (λ i j. new_piece q c.count p i) refl t m
  where
    c : Pieces
    c = record { count = OfCast w.calls q; pool = p; first = w.jobs; workers = (w.shape.pool p).workers }

from_kinds : (w : World) (q : Party) (s : Stack) (x : Place) (v : ℕ) → IfSome (after_choice w q s x v) (KindsOn w)
from_kinds w q s (PickVictim k) v = if_cond (KindsOn w) _ _ (λ b t m. refl)
from_kinds w q s YieldPick v = if_cond (KindsOn w) _ _ (λ b t m. refl)
from_kinds w q s _ v = tt

miss_kinds : (w : World) (q : Party) (s : Stack) (x : Place) → IfSome (after_miss w q s x) (KindsOn w)
miss_kinds w (Worker a b) s (StealFrom k n) = if_cond (KindsOn w) _ _ (λ b t m. refl)
miss_kinds w (Worker a b) s (YieldSteal v n) = if_cond (KindsOn w) _ _ (λ b t m. refl)
miss_kinds w _ s _ = tt

end_kinds : (w : World) (q : Party) (d : Ending) (s : Stack) (x : Place) → IfSome (after_end w q d s x) (KindsOn w)
end_kinds w q d s (Run n k) = λ t m. put_same (λ j. j.kind) w.job n (at_job (w.job n) (Over d)) t refl
end_kinds w q d s _ = tt

sent_kinds : (w : World) (q : Party) (p : ℕ) (b : Bool) → KindsOn w (after_send w q p (w.stack q) b)
sent_kinds w q p true t m = made_kinds w w.jobs _ (omega arith) t m
sent_kinds w q p false t m = made_kinds w w.jobs _ (omega arith) t m

join_kinds : (w : World) (q : Party) → IfSome (after_join w q (w.stack q)) (KindsOn w)
join_kinds w (Caller n) = tt
join_kinds w (Worker a b) = if_cond (KindsOn w) (is_free (w.stack (Worker a b)).top) _ (λ z t m. two_kinds w _ _ t m)

yield_kinds : (w : World) (q : Party) (x : Place) → IfSome (after_yield w q (w.stack q) x) (KindsOn w)
yield_kinds w (Worker a b) x = if_cond (KindsOn w) _ _ (λ b t m. refl)
yield_kinds w (Caller n) x = tt

pub step_kinds : (w : World) (e : Event) → IfSome (step w e) (KindsOn w)
step_kinds w (Go q) = acted_keeps w q (w.stack q) (target_pool q (act_of q (w.stack q).top)) (target_worker q (act_of q (w.stack q).top)) (target_call (act_of q (w.stack q).top)) (job_at w q (act_of q (w.stack q).top)) (outcome w q (w.stack q)) (KindsOn w) (go_kinds w q)
step_kinds w (From q v) = from_kinds w q (w.stack q) (w.stack q).top v
step_kinds w (Miss q) = miss_kinds w q (w.stack q) (w.stack q).top
step_kinds w (End q d) = end_kinds w q d (w.stack q) (w.stack q).top
step_kinds w (Spawn q p) = if_cond (KindsOn w) _ _ (λ b t m. made_kinds w w.jobs _ (omega arith) t m)
step_kinds w (Fifo q p) = fifo_cases (KindsOn w) w q p (if_cond (KindsOn w) _ _ (λ b t m. made_kinds w w.jobs _ (omega arith) t m)) (λ i free t m. two_kinds w _ _ t m)
step_kinds w (Cast q p) = if_cond (KindsOn w) (is_free ((w.stack q).top) && is_pool w.shape p) _ (λ b t m. deal_kinds w (record { count = OfPool p; pool = p; first = w.jobs; workers = (w.shape.pool p).workers }) (λ i j. new_piece q (OfPool p) p i) refl t m)
step_kinds w (Install q p) = if_cond (KindsOn w) _ _ (λ b. sent_kinds w q p (is_member q p))
step_kinds w (Join q) = join_kinds w q
step_kinds w (OpenScope q p) = if_cond (KindsOn w) _ _ (λ b t m. made_kinds w w.jobs _ (omega arith) t m)
step_kinds w (IntoSpawn q n) = into_cases (KindsOn w) w q n (λ z e free held. if_cond (KindsOn w) _ _ (λ b t m. made_kinds w w.jobs _ (omega arith) t m))
step_kinds w (IntoFifo q n) = into_fifo_cases (KindsOn w) w q n (λ z e free held. if_cond (KindsOn w) _ _ (λ b t m. made_kinds w w.jobs _ (omega arith) t m)) (λ z i e free held t m. two_kinds w _ _ t m)
step_kinds w (IntoCast q n) = into_cast_cases (KindsOn w) w q n (λ z e free held t m. deal_kinds w (record { count = OfScope z.call z.owner; pool = z.pool; first = w.jobs; workers = (w.shape.pool z.pool).workers }) (λ i j. new_piece q (OfScope z.call z.owner) z.pool i) refl t m)
step_kinds w (Broadcast q p) = if_cond (KindsOn w) (is_free ((w.stack q).top) && is_pool w.shape p) _ (λ b. gather_kinds w q p)
step_kinds w (Yield q) = yield_kinds w q YieldPop
step_kinds w (YieldLocal q) = yield_kinds w q LocalPop
step_kinds w _ = if_cond (KindsOn w) _ _ (λ b t m. refl)
