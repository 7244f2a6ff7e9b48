-- a job that has begun stays so: no step takes a begin back
use Rattle.rayon_machine_places.specs.declared.place.Count.{Count}
use Rattle.rayon_machine_orders.proofs.Words.{OfPool, OfScope, OfCast, Pieces, Marking, Counted, Returned, arith, refl, ap, subst, ℕ, Bool, true, false, ◌+◌, ◌==◌, ◌≤◌, if◌then◌else◌, ◌≡◌, IfSome, ◌-◌, ◌&&◌, eqb-true, Party, Worker, Caller, Ending, Detach, Here, Send, Fork, Feed, Open, Enter}
use Rattle.rayon_machine_orders.proofs.Words.{Gather, Place, PickVictim, StealFrom, YieldPop, YieldPick, YieldSteal, LocalPop, Run, Move, StartRun, HandBack, Discard, HandIn, Mark, HandAllBack, Event, Go, From, Miss, End, Spawn, Fifo, Install, Join, Yield, YieldLocal, Cast, OpenScope, IntoSpawn}
use Rattle.rayon_machine_orders.proofs.Words.{IntoFifo, IntoCast, Broadcast, HandedBack, Spent, Over, Job, act_of, is_free, is_member, Shape, Stack, World, Counts, Part, at_job, begun, effect, target_pool, target_worker, target_call, put, jobs_after, after_choice, after_miss, after_end}
use Rattle.rayon_machine_orders.proofs.Words.{after_send, after_join, after_yield, step, mark_pieces, marked, put_pieces, after_cast, after_gather, new_piece, new_whole, is_piece, is_pool}
use Rattle.rayon_machine_laws.proofs.Calm.{part_at, counts_seen, next_at}
use Rattle.rayon_machine_laws.proofs.Frame.{if_some_map, if_cond, acted_keeps, fifo_cases, pieces_same, piece_range, into_cases, into_fifo_cases, into_cast_cases}
use Rattle.rayon_machine_laws.proofs.Located.{fits}
use Rattle.rayon_machine_laws.proofs.PlacedRuns.{JobsHold}
use Rattle.rayon_machine_laws.proofs.Ties.{job_at, outcome, result}
use Rattle.rayon_machine_orders.proofs.Spared.{Spared, act_spared}

-- each job has begun at least as often
abbrev pub BeginsOn : World → World → Type 0
BeginsOn w u = (t : ℕ) → (w.job t).runs ≤ (u.job t).runs

act_runs : (h : Shape) (q : Party) (c : Counts) (m : Part) (x : Place) → IfSome (effect (act_of q x) h q c m) (λ r. m.job.runs ≤ r.1.job.runs)
act_runs h q c m x = if_some_map (Spared (act_of q x) m) (λ r. m.job.runs ≤ r.1.job.runs) (λ r s. s.runs) (effect (act_of q x) h q c m) (act_spared (act_of q x) h q c m)

put_runs : (f : ℕ → Job) (u : ℕ) (j : Job) → (f u).runs ≤ j.runs → (t : ℕ) → (f t).runs ≤ (put f u j t).runs
put_runs f u j l t = at (t == u) refl
  where
    at : (b : Bool) → (t == u) ≡ b → (f t).runs ≤ (if b then j else f t).runs
    at true e = let k : (f t).runs ≡ (f u).runs = ap (λ n. (f n).runs) (eqb-true t u e) in omega (arith, k, l)
    at false e = omega arith

two_back : (f : ℕ → Job) (u v t : ℕ) → (f t).runs ≤ (put (put f u (at_job (f u) HandedBack)) v (at_job (f v) HandedBack) t).runs
two_back f u v t = second (t == v) refl
  where
    second : (b : Bool) → (t == v) ≡ b → (f t).runs ≤ (if b then at_job (f v) HandedBack else put f u (at_job (f u) HandedBack) t).runs
    second true e = let k : (f t).runs ≡ (f v).runs = ap (λ n. (f n).runs) (eqb-true t v e) in omega (arith, k)
    second false e = put_runs f u (at_job (f u) HandedBack) (omega arith) t

marked_runs : (k : Marking) (p i : ℕ) (j : Job) → (marked k p i j).runs ≡ j.runs
marked_runs Counted p i j = refl
marked_runs _ p i j = refl

after_runs : (q : Party) (g : Move) (f : ℕ → Job) (t : ℕ) → (f t).runs ≤ (jobs_after q g f t).runs
after_runs q (HandIn y k) f t = put_runs f k (at_job (f k) Spent) (omega arith) t
after_runs q (Discard k) f t = put_runs f k (at_job (f k) Spent) (omega arith) t
after_runs q (HandBack (Feed d)) f t = two_back f d.job d.token t
after_runs q (Mark y c k) f t = let a : (mark_pieces c k f t).runs ≡ (f t).runs = pieces_same (λ j. j.runs) c (marked k c.pool) f t (marked_runs k c.pool) in omega (arith, a)
after_runs q (HandAllBack c) f t = let a : (mark_pieces c Returned f t).runs ≡ (f t).runs = pieces_same (λ j. j.runs) c (marked Returned c.pool) f t (marked_runs Returned c.pool) in omega (arith, a)
after_runs q (StartRun x u) f t = put_runs f u (begun q (f u)) (omega arith) t
after_runs q (HandBack (Detach p u)) f t = put_runs f u (at_job (f u) HandedBack) (omega arith) t
after_runs q (HandBack (Here p u)) f t = put_runs f u (at_job (f u) HandedBack) (omega arith) t
after_runs q (HandBack (Send o)) f t = put_runs f o.job (at_job (f o.job) HandedBack) (omega arith) t
after_runs q (HandBack (Open o)) f t = put_runs f o.job (at_job (f o.job) HandedBack) (omega arith) t
after_runs q (HandBack (Enter o)) f t = put_runs f o.job (at_job (f o.job) HandedBack) (omega arith) t
after_runs q (HandBack (Fork o u)) f t = two_back f u o.job t
after_runs q (HandBack (Gather g)) f t = let a : (mark_pieces g.pieces Returned f t).runs ≡ (f t).runs = pieces_same (λ j. j.runs) g.pieces (marked Returned g.pieces.pool) f t (marked_runs Returned g.pieces.pool) in omega (arith, a)
after_runs q _ f t = omega arith

go_runs : (w : World) (q : Party) → IfSome (outcome w q (w.stack q)) (λ r. BeginsOn w (result w q (w.stack q) r))
go_runs w q =
    let k : Stack = w.stack q in
    let n : ℕ = job_at w q (act_of q k.top) in
    if_some_map (λ r. (w.job n).runs ≤ r.1.job.runs) (λ r. BeginsOn w (result w q k r))
    (λ r l t. (let a : (w.job t).runs ≤ (put w.job n (r.1.job) t).runs = put_runs w.job n (r.1.job) l t in let b : (put w.job n (r.1.job) t).runs ≤ (jobs_after q (next_at w q k (r.0)) (put w.job n (r.1.job)) t).runs = after_runs q (next_at w q k (r.0)) (put w.job n (r.1.job)) t in
    omega (arith, a, b)))
    (outcome w q k) (act_runs w.shape q (counts_seen w q k) (part_at w q k) k.top)

-- the numbers not given out have no begins
unmade_runs : (w : World) → JobsHold w → (t : ℕ) → w.jobs ≤ t → (w.job t).runs ≡ 0
unmade_runs w h t l = subst (λ v. fits v ((w.job t).runs)) (h.unmade t l) (((h.ok).fit) t)

make_runs : (w : World) → JobsHold w → (u : ℕ) (j : Job) → w.jobs ≤ u → (t : ℕ) → (w.job t).runs ≤ (put w.job u j t).runs
make_runs w h u j l t = put_runs w.job u j (let z : (w.job u).runs ≡ 0 = unmade_runs w h u l in omega (arith, z)) t

from_runs : (w : World) (q : Party) (s : Stack) (x : Place) (v : ℕ) → IfSome (after_choice w q s x v) (BeginsOn w)
from_runs w q s (PickVictim k) v = if_cond (BeginsOn w) _ _ (λ b t. omega arith)
from_runs w q s YieldPick v = if_cond (BeginsOn w) _ _ (λ b t. omega arith)
from_runs w q s _ v = tt

miss_runs : (w : World) (q : Party) (s : Stack) (x : Place) → IfSome (after_miss w q s x) (BeginsOn w)
miss_runs w (Worker a b) s (StealFrom k n) = if_cond (BeginsOn w) _ _ (λ b t. omega arith)
miss_runs w (Worker a b) s (YieldSteal v n) = if_cond (BeginsOn w) _ _ (λ b t. omega arith)
miss_runs w _ s _ = tt

end_runs : (w : World) (q : Party) (d : Ending) (s : Stack) (x : Place) → IfSome (after_end w q d s x) (BeginsOn w)
end_runs w q d s (Run n k) = λ t. put_runs w.job n (at_job (w.job n) (Over d)) (omega arith) t
end_runs w q d s _ = tt

sent_runs : (w : World) (q : Party) (p : ℕ) (b : Bool) → JobsHold w → BeginsOn w (after_send w q p (w.stack q) b)
sent_runs w q p true h t = make_runs w h w.jobs _ (omega arith) t
sent_runs w q p false h t = make_runs w h w.jobs _ (omega arith) t

two_runs : (w : World) → JobsHold w → (j k : Job) (t : ℕ) → (w.job t).runs ≤ (put (put w.job w.jobs j) (w.jobs + 1) k t).runs
two_runs w h j k t = at (t == (w.jobs + 1)) refl
  where
    at : (y : Bool) → (t == (w.jobs + 1)) ≡ y → (w.job t).runs ≤ (if y then k else put w.job w.jobs j t).runs
    at true e = let l : t ≡ w.jobs + 1 = eqb-true t (w.jobs + 1) e in let z : (w.job t).runs ≡ 0 = unmade_runs w h t (omega (arith, l)) in omega (arith, z)
    at false e = make_runs w h w.jobs j (omega arith) t

join_runs : (w : World) (q : Party) → JobsHold w → IfSome (after_join w q (w.stack q)) (BeginsOn w)
join_runs w (Caller n) h = tt
join_runs w (Worker a b) h = if_cond (BeginsOn w) (is_free (w.stack (Worker a b)).top) _ (λ z t. two_runs w h _ _ t)

yield_runs : (w : World) (q : Party) (x : Place) → IfSome (after_yield w q (w.stack q) x) (BeginsOn w)
yield_runs w (Worker a b) x = if_cond (BeginsOn w) _ _ (λ b t. omega arith)
yield_runs w (Caller n) x = tt

-- the pieces of a broadcast
deal_runs : (w : World) (q : Party) (k : Count) (p : ℕ) (c : Pieces) → c.first ≡ w.jobs → JobsHold w → (t : ℕ) → (w.job t).runs ≤ (put_pieces c (λ i j. new_piece q k p i) w.job t).runs
deal_runs w q k p c is h t = at (is_piece c t) refl
  where
    at : (b : Bool) → is_piece c t ≡ b → (w.job t).runs ≤ (if b then new_piece q k p (t - c.first) else w.job t).runs
    at true e = let l : c.first ≤ t = (piece_range c t e).0 in let z : (w.job t).runs ≡ 0 = unmade_runs w h t (omega (arith, is, l)) in omega (arith, z)
    at false e = omega arith

-- and the number that stands for it
gather_runs : (w : World) (q : Party) (p : ℕ) → JobsHold w → BeginsOn w (after_gather w q p (w.stack q))
gather_runs w q p h t = at (t == (w.jobs + c.workers)) refl
  where
    c : Pieces
    c = record { count = OfCast w.calls q; pool = p; first = w.jobs; workers = (w.shape.pool p).workers }

    at : (b : Bool) → (t == (w.jobs + c.workers)) ≡ b → (w.job t).runs ≤ (if b then new_whole q p w.calls else put_pieces c (λ i j. new_piece q c.count p i) w.job t).runs
    at true e = let l : t ≡ w.jobs + c.workers = eqb-true t (w.jobs + c.workers) e in let z : (w.job t).runs ≡ 0 = unmade_runs w h t (omega (arith, l)) in omega (arith, z)
    at false e = deal_runs w q c.count p c refl h t

cast_runs : (w : World) (q : Party) (p : ℕ) → JobsHold w → IfSome (after_cast w q p (w.stack q)) (BeginsOn w)
cast_runs w q p h = if_cond (BeginsOn w) (is_free ((w.stack q).top) && is_pool w.shape p) _ (λ b. deal_runs w q (OfPool p) p (record { count = OfPool p; pool = p; first = w.jobs; workers = (w.shape.pool p).workers }) refl h)

pub step_runs : (w : World) (e : Event) → JobsHold w → IfSome (step w e) (BeginsOn w)
step_runs w (Go q) h = acted_keeps w q (w.stack q) (target_pool q (act_of q (w.stack q).top)) (target_worker q (act_of q (w.stack q).top)) (target_call (act_of q (w.stack q).top)) (job_at w q (act_of q (w.stack q).top)) (outcome w q (w.stack q)) (BeginsOn w) (go_runs w q)
step_runs w (From q v) h = from_runs w q (w.stack q) (w.stack q).top v
step_runs w (Miss q) h = miss_runs w q (w.stack q) (w.stack q).top
step_runs w (End q d) h = end_runs w q d (w.stack q) (w.stack q).top
step_runs w (Spawn q p) h = if_cond (BeginsOn w) _ _ (λ b t. make_runs w h w.jobs _ (omega arith) t)
step_runs w (Fifo q p) h = fifo_cases (BeginsOn w) w q p (if_cond (BeginsOn w) _ _ (λ b t. make_runs w h w.jobs _ (omega arith) t)) (λ i free t. two_runs w h _ _ t)
step_runs w (Cast q p) h = cast_runs w q p h
step_runs w (Install q p) h = if_cond (BeginsOn w) _ _ (λ b. sent_runs w q p (is_member q p) h)
step_runs w (Join q) h = join_runs w q h
step_runs w (OpenScope q p) h = if_cond (BeginsOn w) _ _ (λ b t. make_runs w h w.jobs _ (omega arith) t)
step_runs w (IntoSpawn q n) h = into_cases (BeginsOn w) w q n (λ z e free held. if_cond (BeginsOn w) _ _ (λ b t. make_runs w h w.jobs _ (omega arith) t))
step_runs w (IntoFifo q n) h = into_fifo_cases (BeginsOn w) w q n (λ z e free held. if_cond (BeginsOn w) _ _ (λ b t. make_runs w h w.jobs _ (omega arith) t)) (λ z i e free held t. two_runs w h _ _ t)
step_runs w (IntoCast q n) h = into_cast_cases (BeginsOn w) w q n (λ z e free held. deal_runs w q (OfScope z.call z.owner) z.pool (record { count = OfScope z.call z.owner; pool = z.pool; first = w.jobs; workers = (w.shape.pool z.pool).workers }) refl h)
step_runs w (Broadcast q p) h = if_cond (BeginsOn w) (is_free ((w.stack q).top) && is_pool w.shape p) _ (λ b. gather_runs w q p h)
step_runs w (Yield q) h = yield_runs w q YieldPop
step_runs w (YieldLocal q) h = yield_runs w q LocalPop
step_runs w _ h = if_cond (BeginsOn w) _ _ (λ b t. omega arith)
