-- what a step keeps of the calls and jobs that a call names
--
-- A spawned job that is queued or running has its share, so nobody hands it back (`queued_on`). A job that is over is
-- in nobody's hand, so nobody takes a share for it again (`unshared_on`).
use Rattle.rayon_machine_laws.proofs.ShareLowers.{returned_jobs}
use Rattle.rayon_machine_orders.proofs.Words.{Counted, Returned, Dealt, Pieces, Marking, arith, refl, ◌∙◌, ap, subst, inl, inr, sym, ℕ, Bool, true, false, ◌&&◌, ◌||◌, ◌+◌, ◌==◌, ◌≤◌, if◌then◌else◌, Option, Some, List, ◌≡◌, IfSome, ◌⊎◌, zero, suc, ◌-◌, eqb-true, eq-eqb, Party, Worker, Caller}
use Rattle.rayon_machine_orders.proofs.Words.{Plan, Detach, Here, Send, Fork, Feed, Open, Enter, Gather, Count, PoolValue, OfJob, Body, Then, Place, YieldPop, LocalPop, RaiseCount, LowerCount, TakeFromFifo, RaiseForAll, LowerForAll, DealPieces, Seen, Done, Refused, Task, Yes, No, Event, Go}
use Rattle.rayon_machine_orders.proofs.Words.{From, Refuse, Miss, End, Spawn, Fifo, Install, Join, OpenScope, IntoSpawn, Yield, YieldLocal, EndPool, Cast, IntoFifo, IntoCast, Broadcast, Whereabouts, Nowhere, Made, InDeque, Injected, InFifo, Running, Over, HandedBack, Spent, Retaken, InCast}
use Rattle.rayon_machine_orders.proofs.Words.{plan_job, plan_count, count_book, act_of, next_of, same_party, taken_number, Stack, World, Part, count_in, count_pool, raised, counts_at, target_pool, target_worker, target_call, at_job, begun, is_token, last_of, or_none, effect, put, put_stack}
use Rattle.rayon_machine_orders.proofs.Words.{step, jobs_after, is_piece, mark_pieces, marked, is_queued, is_running, is_done, one, in_fifo, times, is_busy, share, shares_in, shares, Back, Discard, EnterAbove as Enter, HandBack, HandIn, StartRun, Stay, Mark, HandAllBack, Detached, Direct}
use Rattle.rayon_machine_orders.proofs.Words.{Scoped, Stored, TokenOf, BodyOf, PieceOf, WholeOf, Feeding, PoolShape, Job, JobKind, Move, Taken}
use Rattle.rayon_machine_laws.proofs.Frame.{if_some_map, acted_keeps, put_same, after_kind, after_bound, and_parts, either, if_some_all, if_some_and, is_sharing, piece_old, same_party_true, stack_mine, stack_other}
use Rattle.rayon_machine_laws.proofs.Ties.{job_at, outcome, result}
use Rattle.rayon_machine_laws.proofs.Located.{is_left}
use Rattle.rayon_machine_laws.proofs.PlacedRuns.{JobsHold, once}
use Rattle.rayon_machine_laws.proofs.PlacedEvents.{Advance, IsFinal, final_left}
use Rattle.rayon_machine_laws.proofs.Claims.{is_body, is_detached}
use Rattle.rayon_machine_laws.proofs.Later.{Static, act_static}
use Rattle.rayon_machine_laws.proofs.ClaimRuns.{place_part, world_after}
use Rattle.rayon_machine_laws.proofs.Bares.{all_bare, backs}
use Rattle.rayon_machine_laws.proofs.ShareActs.{SharesHold, with_job, Untallied, act_untallied, one_most, one_is}
use Rattle.rayon_machine_laws.proofs.Returns.{ReturnsHold, Unbacked, act_unbacked, put_backs}
use Rattle.rayon_machine_orders.proofs.CallPlaces.{Stage, Going, Gone, Paid, Undone, Repaid, Ended, Known, KnownJob, AllOver, NoneLeft, is_scope_body, Added, Withdrawing}
use Rattle.rayon_machine_orders.proofs.CallActs.{Queued, Sofar, Unshared, HandedOn, TokenOn}
use Rattle.rayon_machine_orders.proofs.CallEvents.{Turned, from_turned, refuse_turned, miss_turned, end_turned, spawn_turned, install_turned, join_turned, scope_turned, into_turned, into_fifo_turned, into_cast_turned, gather_turned, yield_turned, give_turned, fifo_turned, cast_turned}
use Rattle.rayon_machine_orders.proofs.Keeping.{BusyAfter, all_busy}
use Rattle.rayon_machine_laws.proofs.Feeders.{FeedersHold, feeds_now, waits}
use Rattle.rayon_machine_laws.proofs.ClaimActs.{Learned, act_learned}
use Rattle.rayon_machine_laws.proofs.ShareSteps.{Ready, no_steady, raise_steady, lower_steady}
use Rattle.rayon_machine_laws.proofs.ShareRuns.{StartsAwaited, after_shares, raises_all}
use Rattle.rayon_machine_laws.proofs.Feeds.{all_fed, fed, fed_in, fed_move, feds}
use Rattle.rayon_machine_laws.proofs.ShareEvents.{ready}
use Rattle.rayon_machine_laws.proofs.Amounts.{regained, pushed, raises, all_raises, raises_in, waiting}
use Rattle.rayon_machine_orders.proofs.EventCases.{is_act}

-- calls keep their first side and the job that they wait for, and jobs their kind and what they are bound to
pub record Carries (w u : World) : Type 0 where
  pub sides : (c : ℕ) → c + 1 ≤ w.calls → (c + 1 ≤ u.calls) × ((u.call c).first ≡ (w.call c).first) × ((u.call c).job ≡ (w.call c).job)
  pub made : (t : ℕ) → t + 1 ≤ w.jobs → (t + 1 ≤ u.jobs) × ((u.job t).kind ≡ (w.job t).kind)
  pub bound : (t : ℕ) → t + 1 ≤ w.jobs → (u.job t).bound ≡ (w.job t).bound

act_carries : (w : World) (q : Party) (x : Place) (fs : List Place) (r : Seen × Part) → Static (place_part w q x) r → Carries w (world_after w q x fs r)
act_carries w q x fs r s = record {
  sides = λ c l. (l, put_same (λ k. k.first) w.call (target_call (act_of q x)) (r.1.call) c s.side, put_same (λ k. k.job) w.call (target_call (act_of q x)) (r.1.call) c s.target);
  made = λ t l. (l, after_kind q (next_of (w.shape.pool (target_pool q (act_of q x))) q x (r.0)) (put w.job (job_at w q (act_of q x)) (r.1.job)) t ∙ put_same (λ j. j.kind) w.job (job_at w q (act_of q x)) (r.1.job) t s.kind);
  bound = λ t l. after_bound q (next_of (w.shape.pool (target_pool q (act_of q x))) q x (r.0)) (put w.job (job_at w q (act_of q x)) (r.1.job)) t ∙ put_same (λ j. j.bound) w.job (job_at w q (act_of q x)) (r.1.job) t s.bound;
}

turned_carries : (w u : World) (q : Party) (e : Event) → Turned w u q e → Carries w u
turned_carries w u q e t = record { sides = t.sides; made = λ n l. ((t.made n l).0, ((t.made n l).1).0); bound = λ n l. ((t.made n l).1).2 }

-- the party that an event moves
abbrev pub mover : Event → Party
mover (Go q) = q
mover (From q v) = q
mover (Refuse q) = q
mover (Miss q) = q
mover (End q d) = q
mover (Spawn q p) = q
mover (Fifo q p) = q
mover (Cast q p) = q
mover (Install q p) = q
mover (Join q) = q
mover (OpenScope q p) = q
mover (IntoSpawn q n) = q
mover (IntoFifo q n) = q
mover (IntoCast q n) = q
mover (Broadcast q p) = q
mover (Yield q) = q
mover (YieldLocal q) = q
mover (EndPool q p) = q

pub turns : (w : World) (e : Event) → is_act e ≡ false → IfSome (step w e) (λ u. Turned w u (mover e) e)
turns w (Go q) z = absurd (let a : true ≡ false = z in cc)
turns w (From q v) z = from_turned w q ((w.stack q).top) ((w.stack q).below) v refl
turns w (Refuse q) z = refuse_turned w q ((w.stack q).top) ((w.stack q).below) refl
turns w (Miss q) z = miss_turned w q ((w.stack q).top) ((w.stack q).below) refl
turns w (End q d) z = end_turned w q d ((w.stack q).top) ((w.stack q).below) refl
turns w (Spawn q p) z = spawn_turned w q p
turns w (Fifo q p) z = fifo_turned w q p
turns w (Cast q p) z = cast_turned w q p
turns w (Install q p) z = install_turned w q p
turns w (Join q) z = join_turned w q
turns w (OpenScope q p) z = scope_turned w q p
turns w (IntoSpawn q n) z = into_turned w q n
turns w (IntoFifo q n) z = into_fifo_turned w q n
turns w (IntoCast q n) z = into_cast_turned w q n
turns w (Broadcast q p) z = gather_turned w q p
turns w (Yield q) z = yield_turned w q YieldPop (Yield q) (λ r s. refl) (λ t. omega arith)
turns w (YieldLocal q) z = yield_turned w q LocalPop (YieldLocal q) (λ r s. refl) (λ t. omega arith)
turns w (EndPool q p) z = give_turned w q p

pub go_all : (P : World → Type 0) (w : World) (q : Party) → IfSome (outcome w q (w.stack q)) (λ r. P (result w q (w.stack q) r)) → IfSome (step w (Go q)) P
go_all P w q h = acted_keeps w q (w.stack q) (target_pool q (act_of q (w.stack q).top)) (target_worker q (act_of q (w.stack q).top)) (target_call (act_of q (w.stack q).top)) (job_at w q (act_of q (w.stack q).top)) (outcome w q (w.stack q)) P h

by_act : (P : World → Type 0) (w : World) (e : Event) → ((q : Party) → IfSome (outcome w q (w.stack q)) (λ r. P (result w q (w.stack q) r))) → ((u : World) → Turned w u (mover e) e → P u) → (b : Bool) → is_act e ≡ b → IfSome (step w e) P
by_act P w e go turn false z = if_some_map (λ u. Turned w u (mover e) e) P turn (step w e) (turns w e z)
by_act P w (Go q) go turn true z = go_all P w q (go q)
by_act P w _ go turn true z = absurd (let a : false ≡ true = z in cc)

pub step_carries : (w : World) (e : Event) → IfSome (step w e) (Carries w)
step_carries w e = by_act (Carries w) w e
    (λ q. if_some_map (Static (place_part w q ((w.stack q).top))) (λ r. Carries w (result w q (w.stack q) r)) (λ r s. act_carries w q ((w.stack q).top) ((w.stack q).below) r s) (outcome w q (w.stack q))
    (act_static w.shape q (counts_at w (target_pool q (act_of q ((w.stack q).top)))) (place_part w q ((w.stack q).top)) ((w.stack q).top))) (λ u t. turned_carries w u (mover e) e t) (is_act e) refl

-- what is known of the job of a call that waits stays so
job_on : (w u : World) → Carries w u → (t : ℕ) (f : JobKind → Bool) (b : Bool) → KnownJob w t f b → KnownJob u t f b
job_on w u c t f b k = record { made = (c.made t k.made).0; sort = ap f ((c.made t k.made).1) ∙ k.sort }

pub known_on : (w u : World) → Carries w u → (n : Plan) → Known w n → Known u n
known_on w u c (Detach p t) k = ((c.made t (k.0)).0, ap is_detached ((c.made t (k.0)).1) ∙ k.1)
known_on w u c (Feed f) k = (((c.made f.job ((k.0).0)).0, ap is_detached ((c.made f.job ((k.0).0)).1) ∙ (k.0).1), ((c.made f.token ((k.1).0)).0, ap is_token ((c.made f.token ((k.1).0)).1) ∙ (k.1).1))
known_on w u c (Here p t) k = tt
known_on w u c (Open o) k = ((c.sides (o.number) (k.0)).0, (c.sides (o.number) (k.0)).1 ∙ k.1, job_on w u c o.job is_scope_body true (k.2))
known_on w u c (Enter e) k = ((c.made e.job (k.0)).0, ap is_detached ((c.made e.job (k.0)).1) ∙ k.1)
known_on w u c (Send o) k = ((c.sides (o.number) (k.0)).0, (c.sides (o.number) (k.0)).1 ∙ k.1, job_on w u c o.job is_body false (k.2))
known_on w u c (Fork o a) k = ((c.sides (o.number) (k.0)).0, (c.sides (o.number) (k.0)).1 ∙ k.1, job_on w u c o.job is_body false (k.2))
known_on w u c (Gather g) k = record {
  number = (c.sides g.call.number k.number).0;
  alone = (c.sides g.call.number k.number).1 ∙ k.alone;
  owner = k.owner;
  made = (c.made g.call.job k.made).0;
  whole = (c.made g.call.job k.made).1 ∙ k.whole;
  pieces = λ t e. ((c.made t ((k.pieces t e).0)).0, (c.made t ((k.pieces t e).0)).1 ∙ (k.pieces t e).1);
}

-- a job whose share no party has keeps it
self : (t : ℕ) → one (t == t) ≡ 1
self t = ap one (eq-eqb t t refl)

pub raise_counts : (w : World) (n : Plan) (t : ℕ) (g h : Part) → g.job.counted ≡ (w.job (plan_job n)).counted → h.job.counted ≡ true → (w.job t).counted ≡ true → (b : Bool) → IfSome {T = Seen × Part} (if b then Some (Refused, g) else Some (Done, h))
    (λ r. (put w.job (plan_job n) (r.1.job) t).counted ≡ true)
raise_counts w n t g h i k c true = put_same (λ j. j.counted) w.job (plan_job n) g.job t i ∙ c
raise_counts w n t g h i k c false = by (t == plan_job n)
  where
    by : (z : Bool) → (if z then h.job else w.job t).counted ≡ true
    by true = k
    by false = c

lower_counts : (w : World) (q : Party) (p : Count) (u : ℕ) (n : Then) (fs : List Place) (t : ℕ) → w.stack q ≡ record { top = LowerCount p (OfJob u) n; below = fs } → shares t (w.stack q) ≡ 0 → (w.job t).counted ≡ true → (put w.job u (record (w.job u) { counted = false }) t).counted ≡ true
lower_counts w q p u n fs t z none c = by (t == u) refl
  where
    by : (b : Bool) → (t == u) ≡ b → (if b then record (w.job u) { counted = false } else w.job t).counted ≡ true
    by true e = absurd (let a : shares t (w.stack q) ≡ (share t (LowerCount p (OfJob u) n) + shares_in t fs) = ap (shares t) z in let b : one (t == u) ≡ 1 = ap one e in omega (arith, a, b, none))
    by false e = c

pub counts_on : (w : World) (q : Party) (x : Place) (fs : List Place) (r : Seen × Part) (t : ℕ) → w.stack q ≡ record { top = x; below = fs } → ((s : Party) (i : ℕ) → all_raises i (w.stack s) + one (w.job i).counted ≤ 1)
    → is_sharing (next_of (w.shape.pool (target_pool q (act_of q x))) q x (r.0)) ≡ false → (w.job t).counted ≡ true → (put w.job (job_at w q (act_of q x)) (r.1.job) t).counted ≡ true → ((world_after w q x fs r).job t).counted ≡ true
counts_on w q x fs r t z un st k c = after_shares w q x fs (w.shape.pool (target_pool q (act_of q x))) (r.0) z un st (put w.job (job_at w q (act_of q x)) (r.1.job)) t (λ y. absurd (let a : true ≡ false = sym k ∙ y in cc)) ∙ c

-- places whose acts give shares to all pieces of a broadcast, or take them
abbrev pub is_all : Place → Bool
is_all (RaiseForAll c) = true
is_all (LowerForAll c) = true
is_all (DealPieces g) = true
is_all _ = false

put_counts : (w : World) (q : Party) (x : Place) (fs : List Place) (t : ℕ) → is_all x ≡ false → w.stack q ≡ record { top = x; below = fs } → shares t (w.stack q) ≡ 0 → (w.job t).counted ≡ true → IfSome (outcome w q (record { top = x; below = fs }))
    (λ r. (put w.job (job_at w q (act_of q x)) (r.1.job) t).counted ≡ true)
put_counts w (Worker a b) (RaiseCount n) fs t y z none c = raise_counts w n t _ _ refl refl c (count_in (place_part w (Worker a b) (RaiseCount n)) (plan_count n) == 0)
put_counts w (Caller i) (RaiseCount n) fs t y z none c = raise_counts w n t _ _ refl refl c (count_in (place_part w (Caller i) (RaiseCount n)) (plan_count n) == 0)
put_counts w (Worker a b) (LowerCount p (OfJob u) n) fs t y z none c = lower_counts w (Worker a b) p u n fs t z none c
put_counts w (Caller i) (LowerCount p (OfJob u) n) fs t y z none c = lower_counts w (Caller i) p u n fs t z none c
put_counts w (Worker a b) (LowerCount p PoolValue n) fs t y z none c = put_same (λ j. j.counted) w.job 0 (w.job 0) t refl ∙ c
put_counts w (Caller i) (LowerCount p PoolValue n) fs t y z none c = put_same (λ j. j.counted) w.job 0 (w.job 0) t refl ∙ c
put_counts w (Worker a b) (LowerCount p Body n) fs t y z none c = put_same (λ j. j.counted) w.job 0 (w.job 0) t refl ∙ c
put_counts w (Caller i) (LowerCount p Body n) fs t y z none c = put_same (λ j. j.counted) w.job 0 (w.job 0) t refl ∙ c
put_counts w q (RaiseForAll b) fs t y z none c = cc
put_counts w q (LowerForAll b) fs t y z none c = cc
put_counts w q (DealPieces b) fs t y z none c = cc
put_counts w q x fs t y z none c = if_some_map (Untallied (place_part w q x)) (λ r. (put w.job (job_at w q (act_of q x)) (r.1.job) t).counted ≡ true) (λ r k. put_same (λ j. j.counted) w.job (job_at w q (act_of q x)) (r.1.job) t k.job ∙ c) (outcome w q (record { top = x; below = fs }))
    (act_untallied w.shape q (counts_at w (target_pool q (act_of q x))) (place_part w q x) x refl)

-- an act that is not leaves who has a share as the act has it
pub all_steady : (w : World) (q : Party) (x : Place) → is_all x ≡ false → IfSome (effect (act_of q x) w.shape q (counts_at w (target_pool q (act_of q x))) (place_part w q x)) (λ r. is_sharing (next_of (w.shape.pool (target_pool q (act_of q x))) q x (r.0)) ≡ false)
all_steady w q (RaiseCount n) y = if_some_all {A = Seen × Part} (λ r. is_sharing (next_of (w.shape.pool (target_pool q (act_of q (RaiseCount n)))) q (RaiseCount n) (r.0)) ≡ false) (λ r. by (r.0))
    (effect (act_of q (RaiseCount n)) w.shape q (counts_at w (target_pool q (act_of q (RaiseCount n)))) (place_part w q (RaiseCount n)))
  where
    by : (e : Seen) → is_sharing (next_of (w.shape.pool (target_pool q (act_of q (RaiseCount n)))) q (RaiseCount n) e) ≡ false
    by Done = raise_steady n
    by _ = refl
all_steady w q (LowerCount p s n) y = if_some_all {A = Seen × Part} (λ r. is_sharing (next_of (w.shape.pool (target_pool q (act_of q (LowerCount p s n)))) q (LowerCount p s n) (r.0)) ≡ false) (λ r. lower_steady (w.shape.pool (target_pool q (act_of q (LowerCount p s n)))) q p s n (r.0))
    (effect (act_of q (LowerCount p s n)) w.shape q (counts_at w (target_pool q (act_of q (LowerCount p s n)))) (place_part w q (LowerCount p s n)))
all_steady w q (RaiseForAll c) y = cc
all_steady w q (LowerForAll c) y = cc
all_steady w q (DealPieces g) y = cc
all_steady w q x y = no_steady w.shape (w.shape.pool (target_pool q (act_of q x))) q (counts_at w (target_pool q (act_of q x))) (place_part w q x) x refl

-- a broadcast gives its pieces shares, and takes back those that it gave
not_piece : (c : Pieces) (t n : ℕ) → one (is_piece c t) + n ≤ 0 → is_piece c t ≡ false
not_piece c t n l = by (is_piece c t) l
  where
    by : (b : Bool) → one b + n ≤ 0 → b ≡ false
    by true l = absurd (omega (arith, l))
    by false l = refl

pub all_cases : (P : Seen × Part → Type 0) (none done : Seen × Part) → P none → P done → (b : Bool) → IfSome (if b then Some none else Some done) P
all_cases P none done x y true = x
all_cases P none done x y false = y

back_counts : (w : World) (q : Party) (c : Pieces) (fs : List Place) (t : ℕ) → w.stack q ≡ record { top = RaiseForAll c; below = fs } → (w.job t).counted ≡ true → all_raises t (w.stack q) + one (w.job t).counted ≤ 1 → (mark_pieces c Returned (put w.job 0 (w.job 0)) t).counted ≡ true
back_counts w q c fs t z k l = ap (λ j. j.counted) (piece_old c (marked Returned c.pool) (put w.job 0 (w.job 0)) t none) ∙ put_same (λ j. j.counted) w.job 0 (w.job 0) t refl ∙ k
  where
    none : is_piece c t ≡ false
    none = not_piece c t (raises_in t fs) (let a : all_raises t (w.stack q) ≡ (one (is_piece c t) + raises_in t fs) = ap (all_raises t) z in let b : one (w.job t).counted ≡ 1 = ap one k in omega (arith, a, b, l))

mark_counts : (c : Pieces) (k : Marking) (f : ℕ → Job) (t : ℕ) → ((p i : ℕ) (j : Job) → (marked k p i j).counted ≡ true) → (f t).counted ≡ true → (mark_pieces c k f t).counted ≡ true
mark_counts c k f t m n = by (is_piece c t)
  where
    by : (b : Bool) → (if b then marked k c.pool (t - c.first) (f t) else f t).counted ≡ true
    by true = m c.pool (t - c.first) (f t)
    by false = n

lowered_counts : (w : World) (q : Party) (c : Pieces) (fs : List Place) (t : ℕ) (g : PoolShape) (e : Seen) → w.stack q ≡ record { top = LowerForAll c; below = fs } → shares t (w.stack q) ≡ 0 → (w.job t).counted ≡ true
    → (jobs_after q (next_of g q (LowerForAll c) e) (put w.job 0 (w.job 0)) t).counted ≡ true
lowered_counts w q c fs t g e z n k = ap (λ g. (g t).counted) (returned_jobs g q c e (put w.job 0 (w.job 0))) ∙ ap (λ j. j.counted) (piece_old c (marked Returned c.pool) (put w.job 0 (w.job 0)) t none) ∙ put_same (λ j. j.counted) w.job 0 (w.job 0) t refl ∙ k
  where
    none : is_piece c t ≡ false
    none = not_piece c t (shares_in t fs) (let a : shares t (w.stack q) ≡ (one (is_piece c t) + shares_in t fs) = ap (shares t) z in omega (arith, a, n))

act_counts : (w : World) (q : Party) (x : Place) (fs : List Place) (t : ℕ) → w.stack q ≡ record { top = x; below = fs } → ((s : Party) (i : ℕ) → all_raises i (w.stack s) + one (w.job i).counted ≤ 1) → shares t (w.stack q) ≡ 0 → (w.job t).counted ≡ true
    → IfSome (outcome w q (record { top = x; below = fs })) (λ r. ((world_after w q x fs r).job t).counted ≡ true)
act_counts w (Worker a b) (RaiseForAll c) fs t z un n k = all_cases (λ r. ((world_after w (Worker a b) (RaiseForAll c) fs r).job t).counted ≡ true) (Refused, place_part w (Worker a b) (RaiseForAll c)) _ (back_counts w (Worker a b) c fs t z k (un (Worker a b) t))
    (mark_counts c Counted (put w.job 0 (w.job 0)) t (λ p i j. refl) (put_same (λ j. j.counted) w.job 0 (w.job 0) t refl ∙ k)) (count_in (place_part w (Worker a b) (RaiseForAll c)) c.count == 0)
act_counts w (Caller g) (RaiseForAll c) fs t z un n k = all_cases (λ r. ((world_after w (Caller g) (RaiseForAll c) fs r).job t).counted ≡ true) (Refused, place_part w (Caller g) (RaiseForAll c)) _ (back_counts w (Caller g) c fs t z k (un (Caller g) t))
    (mark_counts c Counted (put w.job 0 (w.job 0)) t (λ p i j. refl) (put_same (λ j. j.counted) w.job 0 (w.job 0) t refl ∙ k)) (count_in (place_part w (Caller g) (RaiseForAll c)) c.count == 0)
act_counts w (Worker a b) (LowerForAll c) fs t z un n k = lowered_counts w (Worker a b) c fs t (w.shape.pool (count_pool (Worker a b) c.count)) (if count_in (place_part w (Worker a b) (LowerForAll c)) c.count == c.workers then Yes else No) z n k
act_counts w (Caller g) (LowerForAll c) fs t z un n k = lowered_counts w (Caller g) c fs t (w.shape.pool (count_pool (Caller g) c.count)) (if count_in (place_part w (Caller g) (LowerForAll c)) c.count == c.workers then Yes else No) z n k
act_counts w (Worker a b) (DealPieces g) fs t z un n k = mark_counts g.pieces Dealt (put w.job 0 (w.job 0)) t (λ p i j. refl) (put_same (λ j. j.counted) w.job 0 (w.job 0) t refl ∙ k)
act_counts w (Caller i) (DealPieces g) fs t z un n k = mark_counts g.pieces Dealt (put w.job 0 (w.job 0)) t (λ p i j. refl) (put_same (λ j. j.counted) w.job 0 (w.job 0) t refl ∙ k)
act_counts w q x fs t z un n k = if_some_map (λ r. ((put w.job (job_at w q (act_of q x)) (r.1.job) t).counted ≡ true) × (is_sharing (next_of (w.shape.pool (target_pool q (act_of q x))) q x (r.0)) ≡ false)) (λ r. ((world_after w q x fs r).job t).counted ≡ true)
    (λ r f. counts_on w q x fs r t z un (f.1) k (f.0)) (outcome w q (record { top = x; below = fs }))
    (if_some_and (λ r. (put w.job (job_at w q (act_of q x)) (r.1.job) t).counted ≡ true) (λ r. is_sharing (next_of (w.shape.pool (target_pool q (act_of q x))) q x (r.0)) ≡ false) (outcome w q (record { top = x; below = fs })) (put_counts w q x fs t refl z n k) (all_steady w q x refl))

pub step_counts : (w : World) (e : Event) (t : ℕ) → t + 1 ≤ w.jobs → ((q : Party) (i : ℕ) → all_raises i (w.stack q) + one (w.job i).counted ≤ 1) → ((q : Party) → shares t (w.stack q) ≡ 0) → (w.job t).counted ≡ true → IfSome (step w e) (λ u. (u.job t).counted ≡ true)
step_counts w e t l ra none c = by_act (λ u. (u.job t).counted ≡ true) w e (λ q. act_counts w q ((w.stack q).top) ((w.stack q).below) t refl ra (none q) c) (λ u m. ((m.made t l).1).1 ∙ c) (is_act e) refl

-- a job that is over stays over, and one that is handed back stays handed back
pub ended_on : (w u : World) → Advance w u → (t : ℕ) → Ended w t → Ended u t
ended_on w u a t z = by ((w.job t).at) (a.final t) z
  where
    by : (v : Whereabouts) → IsFinal v ((u.job t).at) → is_done v ≡ true → is_done ((u.job t).at) ≡ true
    by (Over e) f d = ap is_done f
    by _ f d = cc

-- a job in a FIFO list can be taken back by its call
lined_apart : (w : World) → JobsHold w → (p i : ℕ) (b : Option ℕ) (t : ℕ) → 1 ≤ times t ((w.seat p i).fifo b) → is_left (w.job t).at ≡ true → ⊥
lined_apart w h p i b t n l = by ((w.job t).at) (let a : times t ((w.seat p i).fifo b) ≡ one (in_fifo p i b (w.job t).at) = (once w h).fifo p i b t in omega (arith, a, n)) l
  where
    by : (v : Whereabouts) → 1 ≤ one (in_fifo p i b v) → is_left v ≡ true → ⊥
    by (InFifo r j c) e l = cc
    by _ e l = absurd (omega (arith, e))

-- an act takes job t back from no FIFO list
abbrev Untaken : World → ℕ → Type 0
Untaken w t = (q : Party) → IfSome (outcome w q (w.stack q)) (λ r. regained t ((w.stack q).top) (r.0) ≡ 0)

-- so it is, if who takes a job back takes another
untaken : (w : World) (t : ℕ) → ((a b : ℕ) (f : Feeding) (fs : List Place) (y : Taken) (m : Part) → w.stack (Worker a b) ≡ record { top = TakeFromFifo f; below = fs } → Learned w.shape (Worker a b) (place_part w (Worker a b) (TakeFromFifo f)) (TakeFromFifo f) (Task y, m)
    → (t == taken_number y) ≡ false) → Untaken w t
untaken w t g q = by q ((w.stack q).top) ((w.stack q).below) refl
  where
    at : (a b : ℕ) (f : Feeding) (fs : List Place) → w.stack (Worker a b) ≡ record { top = TakeFromFifo f; below = fs } → (r : Seen × Part) → Learned w.shape (Worker a b) (place_part w (Worker a b) (TakeFromFifo f)) (TakeFromFifo f) r → regained t (TakeFromFifo f) (r.0) ≡ 0
    at a b f fs z (Task y, m) l = ap one (g a b f fs y m z l)
    at a b f fs z (e, m) l = refl

    by : (q : Party) (x : Place) (fs : List Place) → w.stack q ≡ record { top = x; below = fs } → IfSome (outcome w q (record { top = x; below = fs })) (λ r. regained t x (r.0) ≡ 0)
    by (Worker a b) (TakeFromFifo f) fs z = if_some_map (Learned w.shape (Worker a b) (place_part w (Worker a b) (TakeFromFifo f)) (TakeFromFifo f)) (λ r. regained t (TakeFromFifo f) (r.0) ≡ 0) (λ r l. at a b f fs z r l)
        (outcome w (Worker a b) (record { top = TakeFromFifo f; below = fs })) (act_learned w.shape (Worker a b) (counts_at w a) (place_part w (Worker a b) (TakeFromFifo f)) (TakeFromFifo f))
    by (Caller c) (TakeFromFifo f) fs z = tt
    by q x fs z = if_some_all {A = Seen × Part} (λ r. regained t x (r.0) ≡ 0) (λ r. refl) (outcome w q (record { top = x; below = fs }))

-- who has left its call is in no FIFO list
pub left_untaken : (w : World) → JobsHold w → (t : ℕ) → is_left (w.job t).at ≡ true → Untaken w t
left_untaken w h t l = untaken w t (λ a b f fs y m z k. elim (either (t == taken_number y)) [ inl e ↦ absurd (lined_apart w h a b (count_book f.count) (taken_number y) (k.1) (ap (λ n. is_left (w.job n).at) (sym (eqb-true t (taken_number y) e)) ∙ l)) | inr e ↦ e ])

-- and a call takes its own job back, whose token it still has
paired_untaken : (w : World) → JobsHold w → FeedersHold w → (t k : ℕ) → k ≡ t + 1 → is_left (w.job k).at ≡ true → Untaken w t
paired_untaken w h fe t k pair l = untaken w t (λ a b f fs y m z j. elim (either (t == taken_number y)) [ inl e ↦ absurd (same a b f fs y m z j (eqb-true t (taken_number y) e)) | inr e ↦ e ])
  where
    same : (a b : ℕ) (f : Feeding) (fs : List Place) (y : Taken) (m : Part) → w.stack (Worker a b) ≡ record { top = TakeFromFifo f; below = fs } → Learned w.shape (Worker a b) (place_part w (Worker a b) (TakeFromFifo f)) (TakeFromFifo f) (Task y, m) → t ≡ taken_number y → ⊥
    same a b f fs y m z j e =
        let last : last_of ((w.seat a b).fifo (count_book f.count)) ≡ Some f.job = (fe.feeds a b f (ap (λ k. waits (k.top)) z)).1 in
        let own : f.job ≡ taken_number y = sym (ap or_none last) ∙ j.0 in
        let two : f.token ≡ f.job + 1 = fe.pairs (Worker a b) f (ap (λ k. feeds_now (k.top)) z) in
        let is : k ≡ f.token = pair ∙ ap (λ n. n + 1) (e ∙ sym own) ∙ sym two in
        let made : (w.job f.token).at ≡ Made (Worker a b) = h.feeds (Worker a b) f.token (let c : all_fed f.token (w.stack (Worker a b)) ≡ (one (f.token == f.token) + fed_in f.token fs) = ap (all_fed f.token) z in let o : one (f.token == f.token) ≡ 1 = self f.token in omega (arith, c, o)) in
        let c : is_left (w.job k).at ≡ false = ap (λ n. is_left (w.job n).at) is ∙ ap is_left made in
        let d : true ≡ false = sym l ∙ c in cc

-- what keeps its share itself does so still, or is over
abbrev KeptOn : World → ℕ → Type 0
KeptOn u t = backs (u.job t).at ≤ 0 → HandedOn (u.job t)

busy_on : (v : Whereabouts) → is_busy v ≡ true → (is_queued v || (is_running v || is_done v)) ≡ true
busy_on (InDeque p i) e = refl
busy_on (Injected p) e = refl
busy_on (InFifo p i b) e = refl
busy_on (InCast p i) e = refl
busy_on (Running q) e = refl
busy_on _ e = cc

done_on : (v : Whereabouts) → is_done v ≡ true → (is_queued v || (is_running v || is_done v)) ≡ true
done_on (Over d) e = refl
done_on _ e = cc

busy_act : (w : World) (t : ℕ) → SharesHold w → with_job (w.job t) ≡ 1 → Untaken w t → (q : Party) → IfSome (outcome w q (w.stack q)) (λ r. KeptOn (result w q (w.stack q) r) t)
busy_act w t h own un q =
    let x : Place = (w.stack q).top in let fs : List Place = (w.stack q).below in
    if_some_map (λ r. BusyAfter w q x fs r × (regained t x (r.0) ≡ 0)) (λ r. KeptOn (result w q (w.stack q) r) t)
    (λ r f b. busy_on (((result w q (w.stack q) r).job t).at) ((and_parts (is_detached ((result w q (w.stack q) r).job t).kind) (is_busy ((result w q (w.stack q) r).job t).at) (one_is (is_detached ((result w q (w.stack q) r).job t).kind && is_busy ((result w q (w.stack q) r).job t).at)
    (let a : with_job (w.job t) + pushed t x (r.0) ≤ with_job ((result w q (w.stack q) r).job t) + regained t x (r.0) = f.0 t b in let c : regained t x (r.0) ≡ 0 = f.1 in omega (arith, a, c, own)))).1))
    (outcome w q (w.stack q)) (if_some_and (BusyAfter w q x fs) (λ r. regained t x (r.0) ≡ 0) (outcome w q (w.stack q)) (all_busy w q x fs refl h (ready w q h)) (un q))

-- a detached job that is queued, in a hand or running has its share, so it is not handed back
pub handed_on : (w u : World) (e : Event) → step w e ≡ Some u → SharesHold w → ReturnsHold u → Advance w u → (t : ℕ) → t + 1 ≤ w.jobs → is_detached (w.job t).kind ≡ true → Untaken w t → HandedOn (w.job t) → HandedOn (u.job t)
handed_on w u e made h r a t l k un z = by ((w.job t).at) refl z (a.final t)
  where
    busy : is_busy (w.job t).at ≡ true → HandedOn (u.job t)
    busy y =
        let own : with_job (w.job t) ≡ 1 = ap (λ b. one (b && is_busy (w.job t).at)) k ∙ ap one y in
        let counted : (w.job t).counted ≡ true = one_is ((w.job t).counted) (let b : shares t (w.stack (mover e)) + with_job (w.job t) ≤ one (w.job t).counted = (h.jobs t).alone (mover e) in omega (arith, b, own)) in
        let none : (q : Party) → shares t (w.stack q) ≡ 0 = λ q. (let b : shares t (w.stack q) + with_job (w.job t) ≤ one (w.job t).counted = (h.jobs t).alone q in let d : one (w.job t).counted ≤ 1 = one_most ((w.job t).counted) in omega (arith, b, d, own)) in
        let now : (u.job t).counted ≡ true = (let f : IfSome (Some u) (λ v. (v.job t).counted ≡ true) = subst (λ o. IfSome o (λ v. (v.job t).counted ≡ true)) made (step_counts w e t l h.unraised none counted) in f) in
        let kept : KeptOn u t = (let f : IfSome (Some u) (λ v. KeptOn v t) = subst (λ o. IfSome o (λ v. KeptOn v t)) made (by_act (λ v. KeptOn v t) w e (busy_act w t h own un) (λ v m. turned v m) (is_act e) refl) in f) in
        kept (let b : all_bare t (u.stack (mover e)) + backs (u.job t).at ≤ 0 = r.bare (mover e) t now in omega (arith, b))
      where
        turned : (v : World) → Turned w v (mover e) e → KeptOn v t
        turned v m b = elim (m.ats t l) [ inl s ↦ ap (λ x. is_queued x || (is_running x || is_done x)) s ∙ z | inr d ↦ done_on ((v.job t).at) d ]

    by : (v : Whereabouts) → (w.job t).at ≡ v → (is_queued v || (is_running v || is_done v)) ≡ true → IsFinal v ((u.job t).at) → HandedOn (u.job t)
    by (Over d) i y f = ap (λ v. is_queued v || (is_running v || is_done v)) f
    by (Made q) i y f = cc
    by (Retaken q) i y f = cc
    by HandedBack i y f = cc
    by Spent i y f = cc
    by Nowhere i y f = cc
    by _ i y f = busy (ap is_busy i)

-- a token that has left its call is not handed back
token_kinds : (k : JobKind) → is_detached k ≡ true → is_token k ≡ true → ⊥
token_kinds (Detached p) d e = cc
token_kinds _ d e = cc

put_handed : (J : ℕ → Job) (a k : ℕ) → one (k == a) ≤ 0 → backs (J k).at ≤ 0 → backs (put J a (at_job (J a) HandedBack) k).at ≤ 0
put_handed J a k n b = by (k == a) n
  where
    by : (z : Bool) → one z ≤ 0 → backs (if z then at_job (J a) HandedBack else J k).at ≤ 0
    by true c = absurd (omega (arith, c))
    by false c = b

put_other : (J : ℕ → Job) (a k : ℕ) (j : Job) → backs j.at ≤ 0 → backs (J k).at ≤ 0 → backs (put J a j k).at ≤ 0
put_other J a k j n b = by (k == a)
  where
    by : (z : Bool) → backs (if z then j else J k).at ≤ 0
    by true = n
    by false = b

pieces_kept : (w : World) (c : Pieces) (m : Marking) (J : ℕ → Job) (k : ℕ) → ((t : ℕ) → is_piece c t ≡ true → is_detached (w.job t).kind ≡ true) → is_token (w.job k).kind ≡ true → backs (J k).at ≤ 0 → backs (mark_pieces c m J k).at ≤ 0
pieces_kept w c m J k s t b = by (is_piece c k) refl
  where
    by : (z : Bool) → is_piece c k ≡ z → backs (if z then marked m c.pool (k - c.first) (J k) else J k).at ≤ 0
    by true e = absurd (token_kinds ((w.job k).kind) (s k e) t)
    by false e = b

land_kept : (w : World) (q : Party) (g : Move) (J : ℕ → Job) (k : ℕ) → StartsAwaited w g → is_token (w.job k).kind ≡ true → fed_move k g ≤ 0 → backs (J k).at ≤ 0 → backs (jobs_after q g J k).at ≤ 0
land_kept w q (HandIn y m) J k s t f b = put_other J m k (at_job (J m) Spent) (omega arith) b
land_kept w q (Discard m) J k s t f b = put_other J m k (at_job (J m) Spent) (omega arith) b
land_kept w q (Mark y c m) J k s t f b = pieces_kept w c m J k s t b
land_kept w q (HandAllBack c) J k s t f b = pieces_kept w c Returned J k s t b
land_kept w q (StartRun x m) J k s t f b = put_other J m k (begun q (J m)) (omega arith) b
land_kept w q (HandBack (Detach p a)) J k s t f b = put_handed J a k f b
land_kept w q (HandBack (Here p a)) J k s t f b = put_handed J a k f b
land_kept w q (HandBack (Send o)) J k s t f b = put_handed J (o.job) k f b
land_kept w q (HandBack (Open o)) J k s t f b = put_handed J (o.job) k f b
land_kept w q (HandBack (Enter o)) J k s t f b = put_handed J (o.job) k f b
land_kept w q (HandBack (Gather g)) J k s t f b = by (is_piece g.pieces k) refl
  where
    by : (z : Bool) → is_piece g.pieces k ≡ z → backs (if z then marked Returned g.pieces.pool (k - g.pieces.first) (J k) else J k).at ≤ 0
    by true e = absurd (let c : one (is_piece g.pieces k) ≡ 1 = ap one e in omega (arith, c, f))
    by false e = b
land_kept w q (HandBack (Fork o a)) J k s t f b = by (k == o.job) refl
  where
    by : (z : Bool) → (k == o.job) ≡ z → backs (if z then at_job (J o.job) HandedBack else put J a (at_job (J a) HandedBack) k).at ≤ 0
    by true e = absurd (let c : one (k == o.job) ≡ 1 = ap one e in omega (arith, c, f))
    by false e = put_handed J a k (omega (arith, f)) b
land_kept w q (HandBack (Feed d)) J k s t f b = by (k == d.token) refl
  where
    apart : (z : Bool) → (k == d.job) ≡ z → backs (if z then at_job (J d.job) HandedBack else J k).at ≤ 0
    apart true e = absurd (token_kinds ((w.job k).kind) (ap (λ n. is_detached (w.job n).kind) (eqb-true k d.job e) ∙ s.0) t)
    apart false e = b

    by : (z : Bool) → (k == d.token) ≡ z → backs (if z then at_job (J d.token) HandedBack else put J d.job (at_job (J d.job) HandedBack) k).at ≤ 0
    by true e = absurd (let c : one (k == d.token) ≡ 1 = ap one e in omega (arith, c, f))
    by false e = apart (k == d.job) refl
land_kept w q _ J k s t f b = b

all_unbacked : (w : World) (q : Party) (x : Place) (fs : List Place) → IfSome (outcome w q (record { top = x; below = fs })) (Unbacked (place_part w q x))
all_unbacked w (Worker a b) (RaiseCount n) fs = by (count_in (place_part w (Worker a b) (RaiseCount n)) (plan_count n) == 0)
  where
    by : (z : Bool) → IfSome {T = Seen × Part} (if z then Some (Refused, place_part w (Worker a b) (RaiseCount n)) else Some (Done, raised (place_part w (Worker a b) (RaiseCount n)) (plan_count n))) (Unbacked (place_part w (Worker a b) (RaiseCount n)))
    by true = omega arith
    by false = omega arith
all_unbacked w (Caller c) (RaiseCount n) fs = by (count_in (place_part w (Caller c) (RaiseCount n)) (plan_count n) == 0)
  where
    by : (z : Bool) → IfSome {T = Seen × Part} (if z then Some (Refused, place_part w (Caller c) (RaiseCount n)) else Some (Done, raised (place_part w (Caller c) (RaiseCount n)) (plan_count n))) (Unbacked (place_part w (Caller c) (RaiseCount n)))
    by true = omega arith
    by false = omega arith
all_unbacked w (Worker a b) (LowerCount p PoolValue n) fs = omega arith
all_unbacked w (Worker a b) (LowerCount p (OfJob u) n) fs = omega arith
all_unbacked w (Caller c) (LowerCount p PoolValue n) fs = omega arith
all_unbacked w (Worker a b) (LowerCount p Body n) fs = omega arith
all_unbacked w (Caller c) (LowerCount p Body n) fs = omega arith
all_unbacked w (Caller c) (LowerCount p (OfJob u) n) fs = omega arith
all_unbacked w (Worker a b) (RaiseForAll c) fs = all_cases (Unbacked (place_part w (Worker a b) (RaiseForAll c))) (Refused, place_part w (Worker a b) (RaiseForAll c)) _ (omega arith) (omega arith) (count_in (place_part w (Worker a b) (RaiseForAll c)) c.count == 0)
all_unbacked w (Worker a b) (LowerForAll c) fs = omega arith
all_unbacked w (Caller g) (RaiseForAll c) fs = all_cases (Unbacked (place_part w (Caller g) (RaiseForAll c))) (Refused, place_part w (Caller g) (RaiseForAll c)) _ (omega arith) (omega arith) (count_in (place_part w (Caller g) (RaiseForAll c)) c.count == 0)
all_unbacked w (Caller g) (LowerForAll c) fs = omega arith
all_unbacked w (Worker a b) (DealPieces g) fs = omega arith
all_unbacked w (Caller c) (DealPieces g) fs = omega arith
all_unbacked w q x fs = act_unbacked w.shape q (counts_at w (target_pool q (act_of q x))) (place_part w q x) x refl

token_act : (w : World) (k : ℕ) → SharesHold w → is_token (w.job k).kind ≡ true → is_left (w.job k).at ≡ true → backs (w.job k).at ≤ 0 → (q : Party) → IfSome (outcome w q (w.stack q)) (λ r. backs ((result w q (w.stack q) r).job k).at ≤ 0)
token_act w k h t l b q =
    let x : Place = (w.stack q).top in let fs : List Place = (w.stack q).below in
    if_some_map (λ r. Ready w q x fs r × Unbacked (place_part w q x) r) (λ r. backs ((result w q (w.stack q) r).job k).at ≤ 0)
    (λ r f. land_kept w q (next_of (w.shape.pool (target_pool q (act_of q x))) q x (r.0)) (put w.job (job_at w q (act_of q x)) (r.1.job)) k ((f.0).starts) t
    (let a : fed_move k (next_of (w.shape.pool (target_pool q (act_of q x))) q x (r.0)) ≤ fed k x = feds (w.shape.pool (target_pool q (act_of q x))) q k x (r.0) in let c : fed k x ≤ 0 = unfed in omega (arith, a, c))
    (let a : backs (put w.job (job_at w q (act_of q x)) (r.1.job) k).at ≤ backs (w.job k).at = put_backs w.job (job_at w q (act_of q x)) (r.1.job) k (f.1) in omega (arith, a, b)))
    (outcome w q (w.stack q)) (if_some_and (Ready w q x fs) (Unbacked (place_part w q x)) (outcome w q (w.stack q)) (ready w q h) (all_unbacked w q x fs))
  where
    unfed : fed k ((w.stack q).top) ≤ 0
    unfed = by (fed k ((w.stack q).top)) refl
      where
        by : (n : ℕ) → fed k ((w.stack q).top) ≡ n → fed k ((w.stack q).top) ≤ 0
        by zero e = omega (arith, e)
        by (suc n) e = absurd (let a : (w.job k).at ≡ Made q = ((h.calls).jobs).feeds q k (omega (arith, e)) in let c : is_left (w.job k).at ≡ false = ap is_left a in let d : true ≡ false = sym l ∙ c in cc)

token_on : (w u : World) (e : Event) → step w e ≡ Some u → SharesHold w → Advance w u → (k : ℕ) → k + 1 ≤ w.jobs → is_token (w.job k).kind ≡ true → TokenOn (w.job k) → TokenOn (u.job k)
token_on w u e made h a k l t z = (left, by ((u.job k).at) left unbacked)
  where
    left : is_left (u.job k).at ≡ true
    left = final_left ((w.job k).at) ((u.job k).at) (a.final k) (z.0)

    before : backs (w.job k).at ≤ 0
    before = elim (z.1) [ inl y ↦ known ((w.job k).at) y | inr y ↦ (let b : backs (w.job k).at ≡ 0 = ap backs y in omega (arith, b)) ]
      where
        known : (v : Whereabouts) → (is_queued v || (is_running v || is_done v)) ≡ true → backs v ≤ 0
        known HandedBack y = cc
        known _ y = omega arith

    unbacked : backs (u.job k).at ≤ 0
    unbacked = let f : IfSome (Some u) (λ v. backs (v.job k).at ≤ 0) = subst (λ o. IfSome o (λ v. backs (v.job k).at ≤ 0)) made (by_act (λ v. backs (v.job k).at ≤ 0) w e (token_act w k h t (z.0) before) (λ v m. turned v m) (is_act e) refl) in f
      where
        finished : (x : Whereabouts) → is_done x ≡ true → backs x ≤ 0
        finished (Over d) y = omega arith
        finished _ y = cc

        turned : (v : World) → Turned w v (mover e) e → backs (v.job k).at ≤ 0
        turned v m = elim (m.ats k l) [ inl s ↦ (let b : backs (v.job k).at ≡ backs (w.job k).at = ap backs s in omega (arith, b, before)) | inr d ↦ finished ((v.job k).at) d ]

    by : (v : Whereabouts) → is_left v ≡ true → backs v ≤ 0 → ((is_queued v || (is_running v || is_done v)) ≡ true) ⊎ (v ≡ Spent)
    by (Made q) y b = cc
    by Nowhere y b = cc
    by (InFifo p i c) y b = cc
    by (Retaken q) y b = cc
    by HandedBack y b = absurd (omega (arith, b))
    by Spent y b = inr refl
    by _ y b = inl refl

-- a spawned job that is queued, in a hand, running or over is so still
pub queued_on : (w u : World) (e : Event) → step w e ≡ Some u → SharesHold w → FeedersHold w → ReturnsHold u → Advance w u → (n : Plan) → Known w n → Queued w.job n → Queued u.job n
queued_on w u e made h fe r a (Enter x) k z = (final_left ((w.job x.job).at) ((u.job x.job).at) (a.final x.job) (z.0), handed_on w u e made h r a x.job (k.0) (k.1) (left_untaken w ((h.calls).jobs) x.job (z.0)) (z.1))
queued_on w u e made h fe r a (Detach p t) k z = (final_left ((w.job t).at) ((u.job t).at) (a.final t) (z.0), handed_on w u e made h r a t (k.0) (k.1) (left_untaken w ((h.calls).jobs) t (z.0)) (z.1))
queued_on w u e made h fe r a (Feed d) k z = (handed_on w u e made h r a d.job ((k.0).0) ((k.0).1) (paired_untaken w ((h.calls).jobs) fe d.job d.token (z.2) ((z.1).0)) (z.0), token_on w u e made h a d.token ((k.1).0) ((k.1).1) (z.1), z.2)
queued_on w u e made h fe r a _ k z = tt

-- nobody comes to raise a count for a job that is there
raises_on : (w : World) (q : Party) (k : Stack) (u : World) (t : ℕ) → ((r : Party) → u.stack r ≡ put_stack w.stack q k r) → all_raises t k ≤ all_raises t (w.stack q) → (r : Party) → all_raises t (u.stack r) ≤ all_raises t (w.stack r)
raises_on w q k u t st l r = by (same_party r q) refl
  where
    is : all_raises t (u.stack r) ≡ all_raises t (put_stack w.stack q k r)
    is = ap (all_raises t) (st r)

    by : (b : Bool) → same_party r q ≡ b → all_raises t (u.stack r) ≤ all_raises t (w.stack r)
    by true y = let i : r ≡ q = same_party_true r q y in let a : all_raises t (put_stack w.stack q k r) ≡ all_raises t k = ap (λ s. all_raises t (put_stack w.stack q k s)) i ∙ ap (all_raises t) (stack_mine w.stack q k) in
        let c : all_raises t (w.stack r) ≡ all_raises t (w.stack q) = ap (λ s. all_raises t (w.stack s)) i in omega (arith, is, a, c, l)
    by false y = let a : all_raises t (put_stack w.stack q k r) ≡ all_raises t (w.stack r) = ap (all_raises t) (stack_other w.stack q k r y) in omega (arith, is, a)

step_raises : (w : World) (e : Event) (t : ℕ) → t + 1 ≤ w.jobs → IfSome (step w e) (λ u. (r : Party) → all_raises t (u.stack r) ≤ all_raises t (w.stack r))
step_raises w e t l = by_act (λ u. (r : Party) → all_raises t (u.stack r) ≤ all_raises t (w.stack r)) w e
    (λ q. if_some_all {A = Seen × Part} (λ v. (r : Party) → all_raises t ((result w q (w.stack q) v).stack r) ≤ all_raises t (w.stack r)) (λ v r. raises_all w q ((w.stack q).top) ((w.stack q).below) (w.shape.pool (target_pool q (act_of q ((w.stack q).top)))) (v.0) t refl r)
    (outcome w q (w.stack q))) (λ u m. raises_on w (mover e) m.to u t m.stack (m.raises t l)) (is_act e) refl

-- a job that nobody raises has no share after an act either
raise_uncounts : (w : World) (n : Plan) (t : ℕ) (g h : Part) → g.job.counted ≡ (w.job (plan_job n)).counted → ((t == plan_job n) ≡ true → ⊥) → (w.job t).counted ≡ false → (b : Bool) → IfSome {T = Seen × Part} (if b then Some (Refused, g) else Some (Done, h))
    (λ r. (put w.job (plan_job n) (r.1.job) t).counted ≡ false)
raise_uncounts w n t g h i k c true = put_same (λ j. j.counted) w.job (plan_job n) g.job t i ∙ c
raise_uncounts w n t g h i k c false = by (t == plan_job n) refl
  where
    by : (z : Bool) → (t == plan_job n) ≡ z → (if z then h.job else w.job t).counted ≡ false
    by true e = absurd (k e)
    by false e = c

lower_uncounts : (w : World) (u t : ℕ) → (w.job t).counted ≡ false → (put w.job u (record (w.job u) { counted = false }) t).counted ≡ false
lower_uncounts w u t c = by (t == u)
  where
    by : (b : Bool) → (if b then record (w.job u) { counted = false } else w.job t).counted ≡ false
    by true = refl
    by false = c

unraised_apart : (w : World) (q : Party) (n : Plan) (fs : List Place) (t : ℕ) → w.stack q ≡ record { top = RaiseCount n; below = fs } → all_raises t (w.stack q) ≤ 0 → (t == plan_job n) ≡ true → ⊥
unraised_apart w q n fs t z r e = let a : all_raises t (w.stack q) ≡ ((one (t == plan_job n) + waiting t n) + raises_in t fs) = ap (all_raises t) z in let b : one (t == plan_job n) ≡ 1 = ap one e in omega (arith, a, b, r)

put_uncounts : (w : World) (q : Party) (x : Place) (fs : List Place) (t : ℕ) → is_all x ≡ false → w.stack q ≡ record { top = x; below = fs } → all_raises t (w.stack q) ≤ 0 → (w.job t).counted ≡ false → IfSome (outcome w q (record { top = x; below = fs }))
    (λ r. (put w.job (job_at w q (act_of q x)) (r.1.job) t).counted ≡ false)
put_uncounts w (Worker a b) (RaiseCount n) fs t y z d c = raise_uncounts w n t _ _ refl (unraised_apart w (Worker a b) n fs t z d) c (count_in (place_part w (Worker a b) (RaiseCount n)) (plan_count n) == 0)
put_uncounts w (Caller i) (RaiseCount n) fs t y z d c = raise_uncounts w n t _ _ refl (unraised_apart w (Caller i) n fs t z d) c (count_in (place_part w (Caller i) (RaiseCount n)) (plan_count n) == 0)
put_uncounts w (Worker a b) (LowerCount p (OfJob u) n) fs t y z d c = lower_uncounts w u t c
put_uncounts w (Caller i) (LowerCount p (OfJob u) n) fs t y z d c = lower_uncounts w u t c
put_uncounts w (Worker a b) (LowerCount p PoolValue n) fs t y z d c = put_same (λ j. j.counted) w.job 0 (w.job 0) t refl ∙ c
put_uncounts w (Caller i) (LowerCount p PoolValue n) fs t y z d c = put_same (λ j. j.counted) w.job 0 (w.job 0) t refl ∙ c
put_uncounts w (Worker a b) (LowerCount p Body n) fs t y z d c = put_same (λ j. j.counted) w.job 0 (w.job 0) t refl ∙ c
put_uncounts w (Caller i) (LowerCount p Body n) fs t y z d c = put_same (λ j. j.counted) w.job 0 (w.job 0) t refl ∙ c
put_uncounts w q (RaiseForAll b) fs t y z d c = cc
put_uncounts w q (LowerForAll b) fs t y z d c = cc
put_uncounts w q (DealPieces b) fs t y z d c = cc
put_uncounts w q x fs t y z d c = if_some_map (Untallied (place_part w q x)) (λ r. (put w.job (job_at w q (act_of q x)) (r.1.job) t).counted ≡ false) (λ r k. put_same (λ j. j.counted) w.job (job_at w q (act_of q x)) (r.1.job) t k.job ∙ c) (outcome w q (record { top = x; below = fs }))
    (act_untallied w.shape q (counts_at w (target_pool q (act_of q x))) (place_part w q x) x refl)

-- nor after a broadcast has given its pieces shares, or taken them
mark_uncounts : (w : World) (c : Pieces) (k : Marking) (t : ℕ) → ((p i : ℕ) (j : Job) → j.counted ≡ false → (marked k p i j).counted ≡ false) → (w.job t).counted ≡ false → (mark_pieces c k (put w.job 0 (w.job 0)) t).counted ≡ false
mark_uncounts w c k t f n = by (is_piece c t)
  where
    was : (put w.job 0 (w.job 0) t).counted ≡ false
    was = put_same (λ j. j.counted) w.job 0 (w.job 0) t refl ∙ n

    by : (b : Bool) → (if b then marked k c.pool (t - c.first) (put w.job 0 (w.job 0) t) else put w.job 0 (w.job 0) t).counted ≡ false
    by true = f c.pool (t - c.first) (put w.job 0 (w.job 0) t) was
    by false = was

off_uncounts : (w : World) (c : Pieces) (k : Marking) (t : ℕ) → is_piece c t ≡ false → (w.job t).counted ≡ false → (mark_pieces c k (put w.job 0 (w.job 0)) t).counted ≡ false
off_uncounts w c k t e n = ap (λ j. j.counted) (piece_old c (marked k c.pool) (put w.job 0 (w.job 0)) t e) ∙ put_same (λ j. j.counted) w.job 0 (w.job 0) t refl ∙ n

unraised_piece : (w : World) (q : Party) (c : Pieces) (x : Place) (fs : List Place) (t : ℕ) → w.stack q ≡ record { top = x; below = fs } → raises t x ≡ one (is_piece c t) → all_raises t (w.stack q) ≤ 0 → is_piece c t ≡ false
unraised_piece w q c x fs t z e r = not_piece c t (raises_in t fs) (let a : all_raises t (w.stack q) ≡ (raises t x + raises_in t fs) = ap (all_raises t) z in omega (arith, a, e, r))

act_uncounts : (w : World) (q : Party) (x : Place) (fs : List Place) (t : ℕ) → w.stack q ≡ record { top = x; below = fs } → ((s : Party) (i : ℕ) → all_raises i (w.stack s) + one (w.job i).counted ≤ 1) → all_raises t (w.stack q) ≤ 0 → (w.job t).counted ≡ false
    → IfSome (outcome w q (record { top = x; below = fs })) (λ r. ((world_after w q x fs r).job t).counted ≡ false)
act_uncounts w (Worker a b) (RaiseForAll c) fs t z un d n = all_cases (λ r. ((world_after w (Worker a b) (RaiseForAll c) fs r).job t).counted ≡ false) (Refused, place_part w (Worker a b) (RaiseForAll c)) _ (mark_uncounts w c Returned t (λ p i j e. refl) n)
    (off_uncounts w c Counted t (unraised_piece w (Worker a b) c (RaiseForAll c) fs t z refl d) n) (count_in (place_part w (Worker a b) (RaiseForAll c)) c.count == 0)
act_uncounts w (Caller g) (RaiseForAll c) fs t z un d n = all_cases (λ r. ((world_after w (Caller g) (RaiseForAll c) fs r).job t).counted ≡ false) (Refused, place_part w (Caller g) (RaiseForAll c)) _ (mark_uncounts w c Returned t (λ p i j e. refl) n)
    (off_uncounts w c Counted t (unraised_piece w (Caller g) c (RaiseForAll c) fs t z refl d) n) (count_in (place_part w (Caller g) (RaiseForAll c)) c.count == 0)
act_uncounts w (Worker a b) (LowerForAll c) fs t z un d n = ap (λ g. (g t).counted) (returned_jobs (w.shape.pool (count_pool (Worker a b) c.count)) (Worker a b) c (if count_in (place_part w (Worker a b) (LowerForAll c)) c.count == c.workers then Yes else No) (put w.job 0 (w.job 0)))
    ∙ mark_uncounts w c Returned t (λ p i j e. refl) n
act_uncounts w (Caller g) (LowerForAll c) fs t z un d n = ap (λ g. (g t).counted) (returned_jobs (w.shape.pool (count_pool (Caller g) c.count)) (Caller g) c (if count_in (place_part w (Caller g) (LowerForAll c)) c.count == c.workers then Yes else No) (put w.job 0 (w.job 0)))
    ∙ mark_uncounts w c Returned t (λ p i j e. refl) n
act_uncounts w (Worker a b) (DealPieces g) fs t z un d n = off_uncounts w g.pieces Dealt t (unraised_piece w (Worker a b) g.pieces (DealPieces g) fs t z refl d) n
act_uncounts w (Caller i) (DealPieces g) fs t z un d n = off_uncounts w g.pieces Dealt t (unraised_piece w (Caller i) g.pieces (DealPieces g) fs t z refl d) n
act_uncounts w q x fs t z un d n = if_some_map (λ r. ((put w.job (job_at w q (act_of q x)) (r.1.job) t).counted ≡ false) × (is_sharing (next_of (w.shape.pool (target_pool q (act_of q x))) q x (r.0)) ≡ false)) (λ r. ((world_after w q x fs r).job t).counted ≡ false)
    (λ r f. after_shares w q x fs (w.shape.pool (target_pool q (act_of q x))) (r.0) z un (f.1) (put w.job (job_at w q (act_of q x)) (r.1.job)) t (λ y. f.0) ∙ f.0) (outcome w q (record { top = x; below = fs }))
    (if_some_and (λ r. (put w.job (job_at w q (act_of q x)) (r.1.job) t).counted ≡ false) (λ r. is_sharing (next_of (w.shape.pool (target_pool q (act_of q x))) q x (r.0)) ≡ false) (outcome w q (record { top = x; below = fs })) (put_uncounts w q x fs t refl z d n) (all_steady w q x refl))

step_uncounts : (w : World) (e : Event) (t : ℕ) → SharesHold w → Unshared w t → IfSome (step w e) (λ u. (u.job t).counted ≡ false)
step_uncounts w e t h k = by_act (λ u. (u.job t).counted ≡ false) w e (λ q. act_uncounts w q ((w.stack q).top) ((w.stack q).below) t refl h.unraised (k.raised q) k.none) (λ u m. ((m.made t k.made).1).1 ∙ k.none) (is_act e) refl

-- a job that has no share, and for which nobody is to take one, has none for ever
unshared_on : (w u : World) (e : Event) → step w e ≡ Some u → SharesHold w → (t : ℕ) → Unshared w t → Unshared u t
unshared_on w u e made h t k = record {
  made = (let f : IfSome (Some u) (Carries w) = subst (λ o. IfSome o (Carries w)) made (step_carries w e) in f.made t k.made).0;
  none = (let f : IfSome (Some u) (λ v. (v.job t).counted ≡ false) = subst (λ o. IfSome o (λ v. (v.job t).counted ≡ false)) made (step_uncounts w e t h k) in f);
  raised = λ r. (let f : IfSome (Some u) (λ v. (r : Party) → all_raises t (v.stack r) ≤ all_raises t (w.stack r)) = subst (λ o. IfSome o (λ v. (r : Party) → all_raises t (v.stack r) ≤ all_raises t (w.stack r))) made (step_raises w e t k.made) in
      let a : all_raises t (u.stack r) ≤ all_raises t (w.stack r) = f r in let b : all_raises t (w.stack r) ≤ 0 = k.raised r in omega (arith, a, b));
}

over_on : (w u : World) → Advance w u → (n : Plan) → AllOver w.job n → AllOver u.job n
over_on w u a (Here p t) z = ended_on w u a t z
over_on w u a (Send o) z = ended_on w u a o.job z
over_on w u a (Open o) z = ended_on w u a o.job z
over_on w u a (Fork o b) z = (ended_on w u a b (z.0), ended_on w u a o.job (z.1))
over_on w u a (Gather g) z = λ t e. ended_on w u a t (z t e)
over_on w u a _ z = tt

-- a count of 0 stays so
step_spent : (w : World) (e : Event) (c : ℕ) → c + 1 ≤ w.calls → SharesHold w → (w.call c).count ≡ 0 → IfSome (step w e) (λ u. (u.call c).count ≡ 0)
step_spent w e c l h z = by_act (λ u. (u.call c).count ≡ 0) w e (λ q. if_some_map {A = Seen × Part} (Ready w q ((w.stack q).top) ((w.stack q).below)) (λ r. ((result w q (w.stack q) r).call c).count ≡ 0) (λ r f. f.last.later.spent c l z) (outcome w q (w.stack q)) (ready w q h))
    (λ u m. m.counts c l ∙ z) (is_act e) refl

left_on : (w u : World) (e : Event) → step w e ≡ Some u → SharesHold w → (n : Plan) → Known w n → NoneLeft w n → NoneLeft u n
left_on w u e made h (Gather g) k z = let f : IfSome (Some u) (λ v. (v.call g.call.number).count ≡ 0) = subst (λ o. IfSome o (λ v. (v.call g.call.number).count ≡ 0)) made (step_spent w e g.call.number k.number h z) in f
left_on w u e made h _ k z = tt

pub sofar_on : (w u : World) (e : Event) → step w e ≡ Some u → SharesHold w → FeedersHold w → ReturnsHold u → Advance w u → (n : Plan) → Known w n → (s : Stage) → Sofar w s n → Sofar u s n
sofar_on w u e made h fe r a n k Paid z = (unshared_on w u e made h (plan_job n) (z.0), over_on w u a n (z.1), left_on w u e made h n k (z.2))
sofar_on w u e made h fe r a n k Repaid z = unshared_on w u e made h (plan_job n) z
sofar_on w u e made h fe r a n k Gone z = queued_on w u e made h fe r a n k z
sofar_on w u e made h fe r a n k _ z = tt
