-- a job's number in a book is filled only where the job is over
use Rattle.std.proofs.Common.{arith, refl, sym, ap, subst, inl, inr}
use Rattle.rayon_machine_orders.proofs.Words.{ℕ, Bool, true, false, ◌&&◌, ◌+◌, ◌-◌, ◌==◌, ◌≤◌, if◌then◌else◌, List, ◌≡◌, ◌⊎◌, IfSome, eqb-true, Party, Worker, Caller, Ending, Count, OfPool, OfScope, OfCast, Pieces, Marking, Counted, Returned, Detach, Here, Send, Fork, Feed, Open, Enter, Gather}
use Rattle.rayon_machine_orders.proofs.Words.{Place, ProbeWorking, PickVictim, StealFrom, YieldPop, YieldPick, YieldSteal, LocalPop, Run, StoreSlot, StorePiece, Move, StartRun, HandBack, Discard, HandIn, Mark, HandAllBack, Seen, Event, Go, From, Miss, End, Spawn, Fifo, Install, Join, Yield}
use Rattle.rayon_machine_orders.proofs.Words.{YieldLocal, Cast, OpenScope, IntoSpawn, IntoFifo, IntoCast, Broadcast, Whereabouts, HandedBack, Spent, Over, Job, act_of, is_free, is_member, Shape, Stack, World, Counts, Part, at_job, begun, effect, target_pool, target_worker, target_call, put}
use Rattle.rayon_machine_orders.proofs.Words.{jobs_after, after_choice, after_miss, after_end, after_send, after_join, after_yield, step, mark_pieces, marked, put_pieces, after_gather, new_piece, new_whole, is_piece, is_pool, is_done, start, IsRun, BeginTask, LookQueue, PushJob, plan_pool}
use Rattle.rayon_machine_orders.proofs.Words.{plan_job, plan_book}
use Rattle.rayon_machine_laws.proofs.Calm.{part_at, counts_seen, next_at}
use Rattle.rayon_machine_laws.proofs.Frame.{if_some_all, if_some_and, if_some_map, if_cond, acted_keeps, fifo_cases, into_cases, into_fifo_cases, into_cast_cases, put_same}
use Rattle.rayon_machine_laws.proofs.Events.{run_keeps}
use Rattle.rayon_machine_laws.proofs.PlacedRuns.{step_advance}
use Rattle.rayon_machine_laws.proofs.PlacedEvents.{Advance, IsFinal}
use Rattle.rayon_machine_laws.proofs.Claims.{Says}
use Rattle.rayon_machine_laws.proofs.ClaimRuns.{CallsHold, unqueued}
use Rattle.rayon_machine_laws.proofs.ClaimMakes.{step_calls, first_calls}
use Rattle.rayon_machine_laws.proofs.Ties.{job_at, outcome, result}
use Rattle.rayon_machine_orders.proofs.Spared.{Spared, act_spared, begins, fills, fills_slot, looks, pushes}

-- each number that is filled was so, or its job was over
abbrev FillsOn : World → World → Type 0
FillsOn w u = (t : ℕ) → (fills (u.job t).slot ≤ fills (w.job t).slot) ⊎ (is_done (w.job t).at ≡ true)

-- the places whose acts fill a number
abbrev is_filling : Place → Bool
is_filling (StoreSlot c o t e) = true
is_filling (StorePiece c o t e) = true
is_filling _ = false

filling_act : (q : Party) (x : Place) → is_filling x ≡ false → fills_slot (act_of q x) ≡ false
filling_act (Worker a b) (ProbeWorking k) z = z
filling_act (Worker a b) (BeginTask t) z = begins fills_slot t (λ n. refl) (λ k i d. refl)
filling_act (Worker a b) (LookQueue n) z = looks fills_slot (Worker a b) (plan_pool n) refl refl
filling_act (Worker a b) (PushJob n v) z = pushes fills_slot (Worker a b) (plan_pool n) (plan_job n) (plan_book n) refl refl
filling_act (Worker a b) _ z = z
filling_act (Caller c) (BeginTask t) z = begins fills_slot t (λ n. refl) (λ k i d. refl)
filling_act (Caller c) (LookQueue n) z = looks fills_slot (Caller c) (plan_pool n) refl refl
filling_act (Caller c) (PushJob n v) z = pushes fills_slot (Caller c) (plan_pool n) (plan_job n) (plan_book n) refl refl
filling_act (Caller c) _ z = z

act_fills : (h : Shape) (q : Party) (c : Counts) (m : Part) (x : Place) → is_filling x ≡ false → IfSome (effect (act_of q x) h q c m) (λ r. fills r.1.job.slot ≤ fills m.job.slot)
act_fills h q c m x z = if_some_map (Spared (act_of q x) m) (λ r. fills r.1.job.slot ≤ fills m.job.slot) (λ r s. s.fills (filling_act q x z)) (effect (act_of q x) h q c m) (act_spared (act_of q x) h q c m)

-- where a job's number is filled the job is over
filling_done : (w : World) (q : Party) (x : Place) → Says w q x → is_filling x ≡ true → is_done (w.job (job_at w q (act_of q x))).at ≡ true
filling_done w (Worker a b) (StoreSlot c o t e) s z = ap is_done (s.3)
filling_done w (Caller a) (StoreSlot c o t e) s z = ap is_done (s.3)
filling_done w (Worker a b) (StorePiece c o t e) s z = ap is_done (s.3)
filling_done w (Caller a) (StorePiece c o t e) s z = ap is_done (s.3)
filling_done w q _ s z = cc

-- a job that is put somewhere else keeps its number
put_fills : (f : ℕ → Job) (u : ℕ) (v : Whereabouts) (t : ℕ) → fills (put f u (at_job (f u) v) t).slot ≤ fills (f t).slot
put_fills f u v t = let a : (put f u (at_job (f u) v) t).slot ≡ (f t).slot = put_same (λ j. j.slot) f u (at_job (f u) v) t refl in let b : fills (put f u (at_job (f u) v) t).slot ≡ fills (f t).slot = ap fills a in omega (arith, b)

two_fills : (f : ℕ → Job) (u v t : ℕ) → fills (put (put f u (at_job (f u) HandedBack)) v (at_job (f v) HandedBack) t).slot ≤ fills (f t).slot
two_fills f u v t = second (t == v) refl
  where
    second : (b : Bool) → (t == v) ≡ b → fills (if b then at_job (f v) HandedBack else put f u (at_job (f u) HandedBack) t).slot ≤ fills (f t).slot
    second true e = let k : fills (f t).slot ≡ fills (f v).slot = ap (λ n. fills (f n).slot) (eqb-true t v e) in omega (arith, k)
    second false e = put_fills f u HandedBack t

marked_fills : (k : Marking) (p i : ℕ) (j : Job) → fills (marked k p i j).slot ≤ fills j.slot
marked_fills Counted p i j = omega arith
marked_fills _ p i j = omega arith

pieces_fill : (c : Pieces) (k : Marking) (f : ℕ → Job) (t : ℕ) → fills (mark_pieces c k f t).slot ≤ fills (f t).slot
pieces_fill c k f t = at (is_piece c t)
  where
    at : (b : Bool) → fills (if b then marked k c.pool (t - c.first) (f t) else f t).slot ≤ fills (f t).slot
    at true = marked_fills k c.pool (t - c.first) (f t)
    at false = omega arith

begun_fills : (q : Party) (f : ℕ → Job) (u t : ℕ) → fills (put f u (begun q (f u)) t).slot ≤ fills (f t).slot
begun_fills q f u t = let a : (put f u (begun q (f u)) t).slot ≡ (f t).slot = put_same (λ j. j.slot) f u (begun q (f u)) t refl in let b : fills (put f u (begun q (f u)) t).slot ≡ fills (f t).slot = ap fills a in omega (arith, b)

-- no move fills a number
after_fills : (q : Party) (g : Move) (f : ℕ → Job) (t : ℕ) → fills (jobs_after q g f t).slot ≤ fills (f t).slot
after_fills q (HandIn y k) f t = put_fills f k Spent t
after_fills q (Discard k) f t = put_fills f k Spent t
after_fills q (Mark y c k) f t = pieces_fill c k f t
after_fills q (HandAllBack c) f t = pieces_fill c Returned f t
after_fills q (StartRun x u) f t = begun_fills q f u t
after_fills q (HandBack (Detach p u)) f t = put_fills f u HandedBack t
after_fills q (HandBack (Here p u)) f t = put_fills f u HandedBack t
after_fills q (HandBack (Send o)) f t = put_fills f o.job HandedBack t
after_fills q (HandBack (Open o)) f t = put_fills f o.job HandedBack t
after_fills q (HandBack (Enter o)) f t = put_fills f o.job HandedBack t
after_fills q (HandBack (Feed d)) f t = two_fills f d.job d.token t
after_fills q (HandBack (Fork o u)) f t = two_fills f u o.job t
after_fills q (HandBack (Gather g)) f t = pieces_fill g.pieces Returned f t
after_fills q _ f t = omega arith

-- what an act leaves of the job that it touches, it leaves of all
acted_fills : (w : World) (q : Party) (r : Seen × Part) → fills r.1.job.slot ≤ fills (w.job (job_at w q (act_of q (w.stack q).top))).slot → (t : ℕ) → fills ((result w q (w.stack q) r).job t).slot ≤ fills (w.job t).slot
acted_fills w q r l t =
    let n : ℕ = job_at w q (act_of q (w.stack q).top) in
    let a : fills (put w.job n (r.1.job) t).slot ≤ fills (w.job t).slot = at (t == n) refl in
    let b : fills (jobs_after q (next_at w q (w.stack q) (r.0)) (put w.job n (r.1.job)) t).slot ≤ fills (put w.job n (r.1.job) t).slot = after_fills q (next_at w q (w.stack q) (r.0)) (put w.job n (r.1.job)) t in omega (arith, a, b)
  where
    at : (b : Bool) → (t == job_at w q (act_of q (w.stack q).top)) ≡ b → fills (if b then r.1.job else w.job t).slot ≤ fills (w.job t).slot
    at true e = let k : fills (w.job t).slot ≡ fills (w.job (job_at w q (act_of q (w.stack q).top))).slot = ap (λ i. fills (w.job i).slot) (eqb-true t (job_at w q (act_of q (w.stack q).top)) e) in omega (arith, k, l)
    at false e = omega arith

-- one that fills a number does so for its own job alone
stored_fills : (w : World) (q : Party) (r : Seen × Part) → is_done (w.job (job_at w q (act_of q (w.stack q).top))).at ≡ true → FillsOn w (result w q (w.stack q) r)
stored_fills w q r d t = at (t == job_at w q (act_of q (w.stack q).top)) refl
  where
    n : ℕ
    n = job_at w q (act_of q (w.stack q).top)

    at : (b : Bool) → (t == n) ≡ b → (fills ((result w q (w.stack q) r).job t).slot ≤ fills (w.job t).slot) ⊎ (is_done (w.job t).at ≡ true)
    at true e = inr (subst (λ i. is_done (w.job i).at ≡ true) (sym (eqb-true t n e)) d)
    at false e = inl (let a : fills (put w.job n (r.1.job) t).slot ≡ fills (w.job t).slot = ap (λ b. fills (if b then r.1.job else w.job t).slot) e in
        let b : fills (jobs_after q (next_at w q (w.stack q) (r.0)) (put w.job n (r.1.job)) t).slot ≤ fills (put w.job n (r.1.job) t).slot = after_fills q (next_at w q (w.stack q) (r.0)) (put w.job n (r.1.job)) t in omega (arith, a, b))

go_fills : (w : World) (q : Party) → CallsHold w → IfSome (outcome w q (w.stack q)) (λ r. FillsOn w (result w q (w.stack q) r))
go_fills w q h = by (is_filling (w.stack q).top) refl
  where
    by : (b : Bool) → is_filling (w.stack q).top ≡ b → IfSome (outcome w q (w.stack q)) (λ r. FillsOn w (result w q (w.stack q) r))
    by true z = if_some_all {A = Seen × Part} (λ r. FillsOn w (result w q (w.stack q) r)) (λ r. stored_fills w q r (filling_done w q ((w.stack q).top) ((h.says q).top) z)) (outcome w q (w.stack q))
    by false z = if_some_map {A = Seen × Part} (λ r. fills r.1.job.slot ≤ fills (w.job (job_at w q (act_of q (w.stack q).top))).slot) (λ r. FillsOn w (result w q (w.stack q) r)) (λ r l t. inl (acted_fills w q r l t)) (outcome w q (w.stack q))
        (act_fills w.shape q (counts_seen w q (w.stack q)) (part_at w q (w.stack q)) ((w.stack q).top) z)

-- a number that is given out now has no number of a book
same_fills : (w : World) → FillsOn w w
same_fills w t = inl (omega arith)

make_fills : (f : ℕ → Job) (u : ℕ) (j : Job) → fills j.slot ≡ 0 → (t : ℕ) → fills (put f u j t).slot ≤ fills (f t).slot
make_fills f u j z t = at (t == u)
  where
    at : (b : Bool) → fills (if b then j else f t).slot ≤ fills (f t).slot
    at true = omega (arith, z)
    at false = omega arith

twice_fills : (f : ℕ → Job) (u v : ℕ) (j k : Job) → fills j.slot ≡ 0 → fills k.slot ≡ 0 → (t : ℕ) → fills (put (put f u j) v k t).slot ≤ fills (f t).slot
twice_fills f u v j k y z t = let a : fills (put (put f u j) v k t).slot ≤ fills (put f u j t).slot = make_fills (put f u j) v k z t in let b : fills (put f u j t).slot ≤ fills (f t).slot = make_fills f u j y t in omega (arith, a, b)

deal_fills : (f : ℕ → Job) (q : Party) (k : Count) (p : ℕ) (c : Pieces) (t : ℕ) → fills (put_pieces c (λ i j. new_piece q k p i) f t).slot ≤ fills (f t).slot
deal_fills f q k p c t = at (is_piece c t)
  where
    at : (b : Bool) → fills (if b then new_piece q k p (t - c.first) else f t).slot ≤ fills (f t).slot
    at true = omega arith
    at false = omega arith

gather_fills : (w : World) (q : Party) (p : ℕ) → FillsOn w (after_gather w q p (w.stack q))
gather_fills w q p t = inl (let a : fills (put J o (new_whole q p w.calls) t).slot ≤ fills (J t).slot = make_fills J o (new_whole q p w.calls) refl t in let b : fills (J t).slot ≤ fills (w.job t).slot = deal_fills w.job q c.count p c t in omega (arith, a, b))
  where
    c : Pieces
    c = record { count = OfCast w.calls q; pool = p; first = w.jobs; workers = (w.shape.pool p).workers }

    o : ℕ
    o = w.jobs + c.workers

    J : ℕ → Job
    J = put_pieces c (λ i j. new_piece q c.count p i) w.job

from_fills : (w : World) (q : Party) (s : Stack) (x : Place) (v : ℕ) → IfSome (after_choice w q s x v) (FillsOn w)
from_fills w q s (PickVictim k) v = if_cond (FillsOn w) _ _ (λ b t. inl (omega arith))
from_fills w q s YieldPick v = if_cond (FillsOn w) _ _ (λ b t. inl (omega arith))
from_fills w q s _ v = tt

miss_fills : (w : World) (q : Party) (s : Stack) (x : Place) → IfSome (after_miss w q s x) (FillsOn w)
miss_fills w (Worker a b) s (StealFrom k n) = if_cond (FillsOn w) _ _ (λ b t. inl (omega arith))
miss_fills w (Worker a b) s (YieldSteal v n) = if_cond (FillsOn w) _ _ (λ b t. inl (omega arith))
miss_fills w _ s _ = tt

end_fills : (w : World) (q : Party) (d : Ending) (s : Stack) (x : Place) → IfSome (after_end w q d s x) (FillsOn w)
end_fills w q d s (Run n k) = λ t. inl (put_fills w.job n (Over d) t)
end_fills w q d s _ = tt

sent_fills : (w : World) (q : Party) (p : ℕ) (b : Bool) → FillsOn w (after_send w q p (w.stack q) b)
sent_fills w q p true t = inl (make_fills w.job w.jobs _ refl t)
sent_fills w q p false t = inl (make_fills w.job w.jobs _ refl t)

join_fills : (w : World) (q : Party) → IfSome (after_join w q (w.stack q)) (FillsOn w)
join_fills w (Caller n) = tt
join_fills w (Worker a b) = if_cond (FillsOn w) (is_free (w.stack (Worker a b)).top) _ (λ z t. inl (twice_fills w.job w.jobs (w.jobs + 1) _ _ refl refl t))

yield_fills : (w : World) (q : Party) (x : Place) → IfSome (after_yield w q (w.stack q) x) (FillsOn w)
yield_fills w (Worker a b) x = if_cond (FillsOn w) _ _ (λ z t. inl (omega arith))
yield_fills w (Caller n) x = tt

step_fills : (w : World) (e : Event) → CallsHold w → IfSome (step w e) (FillsOn w)
step_fills w (Go q) h = acted_keeps w q (w.stack q) (target_pool q (act_of q (w.stack q).top)) (target_worker q (act_of q (w.stack q).top)) (target_call (act_of q (w.stack q).top)) (job_at w q (act_of q (w.stack q).top)) (outcome w q (w.stack q)) (FillsOn w) (go_fills w q h)
step_fills w (From q v) h = from_fills w q (w.stack q) (w.stack q).top v
step_fills w (Miss q) h = miss_fills w q (w.stack q) (w.stack q).top
step_fills w (End q d) h = end_fills w q d (w.stack q) (w.stack q).top
step_fills w (Spawn q p) h = if_cond (FillsOn w) _ _ (λ b t. inl (make_fills w.job w.jobs _ refl t))
step_fills w (Fifo q p) h = fifo_cases (FillsOn w) w q p (if_cond (FillsOn w) _ _ (λ b t. inl (make_fills w.job w.jobs _ refl t))) (λ i free t. inl (twice_fills w.job w.jobs (w.jobs + 1) _ _ refl refl t))
step_fills w (Cast q p) h = if_cond (FillsOn w) (is_free ((w.stack q).top) && is_pool w.shape p) _ (λ b t. inl (deal_fills w.job q (OfPool p) p (record { count = OfPool p; pool = p; first = w.jobs; workers = (w.shape.pool p).workers }) t))
step_fills w (Install q p) h = if_cond (FillsOn w) _ _ (λ b. sent_fills w q p (is_member q p))
step_fills w (Join q) h = join_fills w q
step_fills w (OpenScope q p) h = if_cond (FillsOn w) _ _ (λ b t. inl (make_fills w.job w.jobs _ refl t))
step_fills w (IntoSpawn q n) h = into_cases (FillsOn w) w q n (λ z e free held. if_cond (FillsOn w) _ _ (λ b t. inl (make_fills w.job w.jobs _ refl t)))
step_fills w (IntoFifo q n) h = into_fifo_cases (FillsOn w) w q n (λ z e free held. if_cond (FillsOn w) _ _ (λ b t. inl (make_fills w.job w.jobs _ refl t))) (λ z i e free held t. inl (twice_fills w.job w.jobs (w.jobs + 1) _ _ refl refl t))
step_fills w (IntoCast q n) h = into_cast_cases (FillsOn w) w q n (λ z e free held t. inl (deal_fills w.job q (OfScope z.call z.owner) z.pool (record { count = OfScope z.call z.owner; pool = z.pool; first = w.jobs; workers = (w.shape.pool z.pool).workers }) t))
step_fills w (Broadcast q p) h = if_cond (FillsOn w) (is_free ((w.stack q).top) && is_pool w.shape p) _ (λ b. gather_fills w q p)
step_fills w (Yield q) h = yield_fills w q YieldPop
step_fills w (YieldLocal q) h = yield_fills w q LocalPop
step_fills w _ h = if_cond (FillsOn w) _ _ (λ b t. inl (omega arith))

-- where a number is filled, its job is over
pub record SlotsHold (w : World) : Type 0 where
  pub calls : CallsHold w
  pub over : (t : ℕ) → 1 ≤ fills (w.job t).slot → is_done (w.job t).at ≡ true

-- what is over stays so
done_final : (a b : Whereabouts) → IsFinal a b → is_done a ≡ true → is_done b ≡ true
done_final (Over e) b f z = ap is_done f
done_final _ b f z = cc

step_slots : (w : World) (e : Event) → SlotsHold w → IfSome (step w e) SlotsHold
step_slots w e h = if_some_map (λ u. CallsHold u × (Advance w u × FillsOn w u)) SlotsHold (λ u f. record { calls = f.0; over = λ t l. over u (f.1) t l }) (step w e)
    (if_some_and CallsHold (λ u. Advance w u × FillsOn w u) (step w e) (step_calls w e h.calls)
    (if_some_and (Advance w) (FillsOn w) (step w e) (step_advance w e (unqueued w h.calls) ((h.calls.jobs).feeds) ((h.calls.jobs).ok) ((h.calls.jobs).unmade)) (step_fills w e h.calls)))
  where
    over : (u : World) → Advance w u × FillsOn w u → (t : ℕ) → 1 ≤ fills (u.job t).slot → is_done (u.job t).at ≡ true
    over u (a, f) t l = done_final ((w.job t).at) ((u.job t).at) (a.final t) (elim (f t) [ inl y ↦ h.over t (omega (arith, l, y)) | inr y ↦ y ])

first_slots : (h : Shape) → SlotsHold (start h)
first_slots h = record { calls = first_calls h; over = λ t l. absurd (omega (arith, l)) }

pub always_slots : (h : Shape) (es : List Event) (w : World) → IsRun (start h) es w → SlotsHold w
always_slots h es w r = run_keeps SlotsHold step_slots (start h) w es (first_slots h) r
