-- the turn between an Announce and a TryAdd
--
-- `Segment` is what holds of each world from an Announce on.
use Rattle.std.proofs.Common.{rules, arith, refl, sym, ◌∙◌, ap, subst, inl, inr, ◌≢◌}
use Rattle.rayon_machine_sleep_laws.proofs.Words.{ℕ, suc, Bool, true, false, ◌&&◌, ◌+◌, ◌%◌, ◌==◌, ◌<◌, ◌≤◌, nat_lt, if◌then◌else◌, Some, List, [], ◌∷◌, ◌≡◌, IfSome, eqb-true, eq-eqb, ltb-true, ltb-false, Party, Worker, Caller, Termination, Answer, Latch, Terminate, OfCall, Rounds, Failed}
use Rattle.rayon_machine_sleep_laws.proofs.Words.{Announced, Plan, Then, BeginFound, LeaveWait, Await, RunFirst, Gathers, Place, ProbeIdle, PopInjected, AnnounceSelf, LoadCounters, AddSleeping, TellNews, SetLatch, UnlockSettled, Move, Stay, Seen, Done, Refused, Yes, Task, Event, Go, PoolShape}
use Rattle.rayon_machine_sleep_laws.proofs.Words.{Wait, Settling, same_party, plan_pool, awaits, finish, after_set, act_of, after_failure, next_of, Shape, Pool, Stack, World, Counts, counts_at, is_even, jec, Part, target_pool, target_worker, target_call, effect, after_move, step, IsRunWithout}
use Rattle.rayon_machine_sleep_laws.proofs.Words.{is_announcing, is_announce, Act, News}
use Rattle.std.specs.Prelude.{◌*◌, ◌/◌, ◌^◌}
use Rattle.std.proofs.Math.Nat.{div-add-mod, mul-le-mul_left, mul-suc}
use Rattle.rayon_machine_laws.specs.Turn.{is_adding, is_added, tells_news, is_news, TurnLaw}
use Rattle.rayon_machine_laws.proofs.Asides.{Aside, one_step}
use Rattle.rayon_machine_laws.proofs.Attended.{Awake, aside_frames, step_awake, always_awake, step_shape, always_shape}
use Rattle.rayon_machine_laws.proofs.Calm.{part_at, counts_seen, next_at, top_then}
use Rattle.rayon_machine_laws.proofs.Frame.{either, and_parts, same_refl, same_party_true, if_some_all, if_some_and, if_some_map, acted_keeps}
use Rattle.rayon_machine_laws.proofs.Holding.{go_frames}
use Rattle.rayon_machine_laws.proofs.Kept.{is_announced, announced, kept_at, KeepsOn, frame_unannounced}
use Rattle.rayon_machine_laws.proofs.Locks.{tops_map}
use Rattle.rayon_machine_laws.proofs.Pushing.{tell_pool}
use Rattle.rayon_machine_laws.proofs.Seats.{is_frame}
use Rattle.rayon_machine_laws.proofs.Ties.{job_at, shape_at, outcome, result}
use Rattle.rayon_machine_laws.proofs.Tops.{Tops, FramesOk}
use Rattle.rayon_machine_sleep_laws.proofs.Parities.{Turned, act_turned, turned}
use Rattle.rayon_machine_places.specs.declared.act.Act.TheVariants.{Announce}

settled_keeps : (h : PoolShape) (q : Party) (s : Settling) (n : ℕ) → Tops (KeepsOn n) (after_set h q s s.latch)
settled_keeps h q s n = tops_map (λ y. announced y ≡ false) (KeepsOn n) (λ y e z. absurd (cc)) (after_set h q s s.latch) (by_latch s.latch)
  where
    finish_calm : (t : Then) → Tops (λ y. announced y ≡ false) (finish q t)
    finish_calm (BeginFound Termination t) = refl
    finish_calm (BeginFound (Answer o f) t) = refl
    finish_calm (LeaveWait Termination) = refl
    finish_calm (LeaveWait (Answer o f)) = refl
    finish_calm (Await o) = awaiting q
      where
        awaiting : (q : Party) → announced (awaits q o) ≡ false
        awaiting (Worker i j) = refl
        awaiting (Caller c) = refl
    finish_calm (RunFirst o a) = refl
    finish_calm (Gathers o) = awaiting q
      where
        awaiting : (q : Party) → announced (awaits q o) ≡ false
        awaiting (Worker i j) = refl
        awaiting (Caller c) = refl
    finish_calm _ = tt

    settle_if : (b : Bool) (y : Place) (g : Move) → announced y ≡ false → Tops (λ y. announced y ≡ false) g → Tops (λ y. announced y ≡ false) (if b then Stay y else g)
    settle_if true y g a t = a
    settle_if false y g a t = t

    by_latch : (l : Latch) → Tops (λ y. announced y ≡ false) (after_set h q s l)
    by_latch Terminate = settle_if (nat_lt (s.worker + 1) h.workers) (SetLatch (record { latch = Terminate; pool = s.pool; worker = s.worker + 1; then = s.then })) (finish q s.then) refl (finish_calm s.then)
    by_latch (OfCall c) = finish_calm s.then

set_keeps_on : (h : PoolShape) (q : Party) (s : Settling) (n : ℕ) (e : Seen) → Tops (KeepsOn n) (next_of h q (SetLatch s) e)
set_keeps_on h q s n Yes = λ z. absurd (cc)
set_keeps_on h q s n _ = settled_keeps h q s n

failed_keeps : (h : PoolShape) (k : Wait) (n : ℕ) (r : Rounds) → k.rounds ≡ r → KeepsOn n (PopInjected k) → KeepsOn n (after_failure h k r)
failed_keeps h k n (Failed m) e f = at (nat_lt m h.limit)
  where
    at : (b : Bool) → KeepsOn n (if b then ProbeIdle (record k { rounds = Failed (m + 1) }) else AnnounceSelf k)
    at true = λ z. absurd (cc)
    at false = λ z. absurd (cc)
failed_keeps h k n Announced e f = λ z. f (ap is_announced e)

searched_keeps : (h : PoolShape) (q : Party) (k : Wait) (n : ℕ) (e : Seen) → KeepsOn n (PopInjected k) → Tops (KeepsOn n) (next_of h q (PopInjected k) e)
searched_keeps h q k n (Task t) f = λ z. absurd (cc)
searched_keeps h q k n _ f = failed_keeps h k n k.rounds refl f

-- no act of the wait but Announce changes what is kept
pub kept_on : (h : Shape) (g : PoolShape) (p i n : ℕ) (c : Counts) (m : Part) (x : Place) → is_announcing x ≡ false → KeepsOn n x → IfSome (effect (act_of (Worker p i) x) h (Worker p i) c m) (λ r. Tops (KeepsOn n) (next_of g (Worker p i) x (r.0)))
kept_on h g p i n c m (AnnounceSelf k) z ok = cc
kept_on h g p i n c m (PopInjected k) z ok = if_some_all {A = Seen × Part} (λ r. Tops (KeepsOn n) (next_of g (Worker p i) (PopInjected k) (r.0))) (λ r. searched_keeps g (Worker p i) k n (r.0) ok) (effect (act_of (Worker p i) (PopInjected k)) h (Worker p i) c m)
kept_on h g p i n c m (SetLatch s) z ok = if_some_all {A = Seen × Part} (λ r. Tops (KeepsOn n) (next_of g (Worker p i) (SetLatch s) (r.0))) (λ r. set_keeps_on g (Worker p i) s n (r.0)) (effect (act_of (Worker p i) (SetLatch s)) h (Worker p i) c m)
kept_on h g p i n c m (UnlockSettled s) z ok = if_some_all {A = Seen × Part} (λ r. Tops (KeepsOn n) (next_of g (Worker p i) (UnlockSettled s) (r.0))) (λ r. settled_keeps g (Worker p i) s n) (effect (act_of (Worker p i) (UnlockSettled s)) h (Worker p i) c m)
kept_on h g p i n c m _ z ok = search (rules, arith)

-- no turn goes back
turned_up : (a : Act) (n : ℕ) → n ≤ turned a n
turned_up Announce n = by (is_even n)
  where
    by : (b : Bool) → n ≤ (if b then n else n + 1)
    by true = omega arith
    by false = omega arith
turned_up (News p e) n = by (is_even n)
  where
    by : (b : Bool) → n ≤ (if b then n + 1 else n)
    by true = omega arith
    by false = omega arith
turned_up _ n = omega arith

pub turn_up : (h : Shape) (q : Party) (c : Counts) (m : Part) (x : Place) → IfSome (effect (act_of q x) h q c m) (λ r. m.pool.turn ≤ r.1.pool.turn)
turn_up h q c m x = if_some_map (Turned (act_of q x) m) (λ r. m.pool.turn ≤ r.1.pool.turn) (λ r e. subst (λ n. m.pool.turn ≤ n) (sym e) (turned_up (act_of q x) m.pool.turn)) (effect (act_of q x) h q c m)
    (act_turned (act_of q x) h q c m)

-- equal remainders less than a whole turn apart are of one number
pub same_rest : (a b n : ℕ) → a ≤ b → b < a + n → a % n ≡ b % n → b ≡ a
same_rest a b n le lt e = at (nat_lt (a / n) (b / n)) refl
  where
    one : n * (a / n) + a % n ≡ a
    one = div-add-mod a n

    two : n * (b / n) + b % n ≡ b
    two = div-add-mod b n

    at : (z : Bool) → nat_lt (a / n) (b / n) ≡ z → b ≡ a
    at true h = absurd (let l : a / n < b / n = ltb-true (a / n) (b / n) h in let l2 : suc (a / n) ≤ b / n = omega arith in let m : n * suc (a / n) ≤ n * (b / n) = mul-le-mul_left n l2 in let k : n * suc (a / n) ≡ n * (a / n) + n = mul-suc n (a / n) in omega (arith, one, two, m, k))
    at false h = let l : b / n ≤ a / n = ltb-false (a / n) (b / n) h in let m : n * (b / n) ≤ n * (a / n) = mul-le-mul_left n l in omega (arith, one, two, m)

-- what holds of each world between an Announce and the next
pub record Segment (h : Shape) (n p i t : ℕ) (w : World) : Type 0 where
  pub shape : w.shape ≡ h
  pub frames : FramesOk w
  pub kept : KeepsOn n (w.stack (Worker p i)).top
  pub turn : t ≤ (w.pool p).turn

turn_put : (f : ℕ → Pool) (p0 : ℕ) (v : Pool) (p : ℕ) (b : Bool) → (p == p0) ≡ b → (f p0).turn ≤ v.turn → (f p).turn ≤ (if b then v else f p).turn
turn_put f p0 v p true e h = let s : (f p).turn ≡ (f p0).turn = ap (λ n. (f n).turn) (eqb-true p p0 e) in let k : (f p0).turn ≤ v.turn = h in omega arith
turn_put f p0 v p false e h = omega arith

-- a step's turn
pub turn_step : (w : World) (q : Party) (k : Stack) (p : ℕ) → IfSome (outcome w q k) (λ r. (w.pool p).turn ≤ ((result w q k r).pool p).turn)
turn_step w q k p = if_some_map (λ r. (w.pool (target_pool q (act_of q k.top))).turn ≤ r.1.pool.turn) (λ r. (w.pool p).turn ≤ ((result w q k r).pool p).turn) (λ r h. turn_put w.pool (target_pool q (act_of q k.top)) (r.1.pool) p (p == target_pool q (act_of q k.top)) refl h) (outcome w q k)
    (turn_up w.shape q (counts_seen w q k) (part_at w q k) k.top)

frame_keeps : (n : ℕ) (f : Place) → is_frame f ≡ true → KeepsOn n f
frame_keeps n f e z = absurd (let k : announced f ≡ false = frame_unannounced f e in cc)

kept_put : (w : World) (q : Party) (p i n : ℕ) (b : Bool) → same_party (Worker p i) q ≡ b → (b && is_announcing (w.stack q).top) ≡ false → FramesOk w → KeepsOn n (w.stack (Worker p i)).top → IfSome (outcome w q (w.stack q))
    (λ r. KeepsOn n ((if b then after_move (next_at w q (w.stack q) (r.0)) (w.stack q).below else w.stack (Worker p i)).top))
kept_put w q p i n true eb calm fr k =
    let is : Worker p i ≡ q = same_party_true (Worker p i) q eb in
    let F : Party → Type 0 = λ z. (is_announcing (w.stack z).top ≡ false) → IfSome (outcome w z (w.stack z)) (λ r. KeepsOn n ((after_move (next_at w z (w.stack z) (r.0)) (w.stack z).below).top)) in
    let base : F (Worker p i) = λ c. if_some_map (λ r. Tops (KeepsOn n) (next_at w (Worker p i) (w.stack (Worker p i)) (r.0))) (λ r. KeepsOn n ((after_move (next_at w (Worker p i) (w.stack (Worker p i)) (r.0)) (w.stack (Worker p i)).below).top))
    (λ r t. top_then (KeepsOn n) w (Worker p i) (w.stack (Worker p i)) (r.0) refl fr (frame_keeps n) t) (outcome w (Worker p i) (w.stack (Worker p i)))
    (kept_on w.shape (shape_at w (Worker p i) (w.stack (Worker p i))) p i n (counts_seen w (Worker p i) (w.stack (Worker p i))) (part_at w (Worker p i) (w.stack (Worker p i))) (w.stack (Worker p i)).top c k) in
    subst F is base calm
kept_put w q p i n false eb calm fr k = if_some_all (λ (r : Seen × Part). KeepsOn n (w.stack (Worker p i)).top) (λ r. k) (outcome w q (w.stack q))

segment_go : (w : World) (q : Party) (h : Shape) (n p i t : ℕ) → (same_party (Worker p i) q && is_announcing (w.stack q).top) ≡ false → Segment h n p i t w → IfSome (outcome w q (w.stack q)) (λ r. Segment h n p i t (result w q (w.stack q) r))
segment_go w q h n p i t calm s =
    let k : Stack = w.stack q in
    if_some_map (λ r. FramesOk (result w q k r) × (KeepsOn n ((result w q k r).stack (Worker p i)).top × ((w.pool p).turn ≤ ((result w q k r).pool p).turn))) (λ r. Segment h n p i t (result w q k r))
    (λ r a. record { shape = s.shape; frames = a.0; kept = (a.1).0; turn = (let x : (w.pool p).turn ≤ ((result w q k r).pool p).turn = (a.1).1 in let y : t ≤ (w.pool p).turn = s.turn in omega arith) })
    (outcome w q k)
    (if_some_and (λ r. FramesOk (result w q k r)) (λ r. KeepsOn n ((result w q k r).stack (Worker p i)).top × ((w.pool p).turn ≤ ((result w q k r).pool p).turn)) (outcome w q k)
    (go_frames w q k refl s.frames)
    (if_some_and (λ r. KeepsOn n ((result w q k r).stack (Worker p i)).top) (λ r. (w.pool p).turn ≤ ((result w q k r).pool p).turn) (outcome w q k)
    (kept_put w q p i n (same_party (Worker p i) q) refl calm s.frames s.kept)
    (turn_step w q k p)))

segment_aside : (h : Shape) (n p i t : ℕ) (w : World) → Segment h n p i t w → (u : World) → Aside w u → Segment h n p i t u
segment_aside h n p i t w s u m = record {
  shape = m.shape ∙ s.shape;
  frames = aside_frames w u m s.frames;
  kept = subst (λ z. KeepsOn n (z.top)) (sym (m.stack (Worker p i))) (at (same_party (Worker p i) (m.party)) refl);
  turn = (let a : (u.pool p).turn ≡ (w.pool p).turn = m.turn p in let b : t ≤ (w.pool p).turn = s.turn in omega arith);
}
  where
    at : (b : Bool) → same_party (Worker p i) (m.party) ≡ b → KeepsOn n ((if b then m.to else w.stack (Worker p i)).top)
    at true e = m.keeps n (s.frames (m.party)) (subst (λ z. KeepsOn n (w.stack z).top) (same_party_true (Worker p i) (m.party) e) (s.kept))
    at false e = s.kept

pub segment_step : (h : Shape) (n p i t : ℕ) (w : World) (e : Event) → is_announce p i w e ≡ false → Segment h n p i t w → IfSome (step w e) (Segment h n p i t)
segment_step h n p i t w e calm s = one_step (Segment h n p i t) w s.frames e (λ q is. segment_go w q h n p i t (ap (is_announce p i w) (sym is) ∙ calm) s) (segment_aside h n p i t w s)

pub segment_run : (h : Shape) (n p i t : ℕ) (w u : World) (es : List Event) → Segment h n p i t w → IsRunWithout (is_announce p i) w es u → Segment h n p i t u
segment_run h n p i t w u [] s r = subst (Segment h n p i t) (sym r) s
segment_run h n p i t w u (e ∷ es) s (v, calm, one, rest) = segment_run h n p i t v u es (let k : IfSome (Some v) (Segment h n p i t) = subst (λ o. IfSome o (Segment h n p i t)) one (segment_step h n p i t w e calm s) in k) rest

self : (n : ℕ) → (n == n) ≡ true
self n = eq-eqb n n refl

-- where the turn is even and News comes, it is higher
tell_raises : (h : Shape) (q : Party) (c : Counts) (m : Part) (n : Plan) (v : Bool) → is_even m.pool.turn ≡ true → IfSome (effect (act_of q (TellNews n v)) h q c m) (λ r. m.pool.turn < r.1.pool.turn)
tell_raises h (Worker a b) c m n v e = rw e (omega arith)
tell_raises h (Caller a) c m n v e = rw e (omega arith)

news_go : (w : World) (q : Party) (x : Place) (fs : List Place) (p : ℕ) → tells_news p x ≡ true → is_even (w.pool p).turn ≡ true → IfSome (outcome w q (record { top = x; below = fs })) (λ r. (w.pool p).turn < ((result w q (record { top = x; below = fs }) r).pool p).turn)
news_go w q (TellNews n v) fs p is even =
    let k : Stack = record { top = TellNews n v; below = fs } in
    let at : target_pool q (act_of q (TellNews n v)) ≡ p = tell_pool q n v ∙ eqb-true (plan_pool n) p is in
    let yes : (p == target_pool q (act_of q (TellNews n v))) ≡ true = eq-eqb p (target_pool q (act_of q (TellNews n v))) (sym at) in
    if_some_map (λ r. (w.pool (target_pool q (act_of q (TellNews n v)))).turn < r.1.pool.turn) (λ r. (w.pool p).turn < ((result w q k r).pool p).turn)
    (λ r l. (let z : (w.pool p).turn < r.1.pool.turn = subst (λ z. (w.pool z).turn < r.1.pool.turn) at l in rw yes z)) (outcome w q k)
    (tell_raises w.shape q (counts_seen w q k) (part_at w q k) n v (ap (λ z. is_even (w.pool z).turn) at ∙ even))
news_go w q _ fs p is even = cc

news_raises : (w : World) (e : Event) (p : ℕ) → is_news p w e ≡ true → is_even (w.pool p).turn ≡ true → IfSome (step w e) (λ u. (w.pool p).turn < (u.pool p).turn)
news_raises w (Go q) p is even = acted_keeps w q (w.stack q) (target_pool q (act_of q (w.stack q).top)) (target_worker q (act_of q (w.stack q).top)) (target_call (act_of q (w.stack q).top)) (job_at w q (act_of q (w.stack q).top)) (outcome w q (w.stack q))
    (λ u. (w.pool p).turn < (u.pool p).turn) (news_go w q (w.stack q).top (w.stack q).below p is even)
news_raises w _ p is even = cc

same_turn : (a b c : ℕ) → a ≤ b → b ≤ c → c ≡ a → b ≡ a
same_turn a b c x y z = omega arith

pub no_news : (h : Shape) (n p i t : ℕ) (w u : World) (es : List Event) → Segment h n p i t w → is_even t ≡ true → IsRunWithout (is_announce p i) w es u → (u.pool p).turn ≡ t → IsRunWithout (is_news p) w es u
no_news h n p i t w u [] s even r last = r
no_news h n p i t w u (e ∷ es) s even (v, calm, one, rest) last =
    let next : Segment h n p i t v = (let k : IfSome (Some v) (Segment h n p i t) = subst (λ o. IfSome o (Segment h n p i t)) one (segment_step h n p i t w e calm s) in k) in
    let here : Segment h n p i ((v.pool p).turn) v = record { shape = next.shape; frames = next.frames; kept = next.kept; turn = omega arith } in
    let up : (v.pool p).turn ≤ (u.pool p).turn = (segment_run h n p i ((v.pool p).turn) v u es here rest).turn in
    let whole : Segment h n p i ((w.pool p).turn) w = record { shape = s.shape; frames = s.frames; kept = s.kept; turn = omega arith } in
    let all : (w.pool p).turn ≤ (u.pool p).turn = (segment_run h n p i ((w.pool p).turn) w u (e ∷ es) whole (v, calm, one, rest)).turn in
    let is : (w.pool p).turn ≡ t = same_turn t ((w.pool p).turn) ((u.pool p).turn) (s.turn) all last in
    let calm' : is_news p w e ≡ false = elim (either (is_news p w e)) [
      | inl y ↦ absurd (let k : (w.pool p).turn < (v.pool p).turn = subst (λ o. IfSome o (λ u. (w.pool p).turn < (u.pool p).turn)) one (news_raises w e p y (ap is_even is ∙ even)) in omega arith)
      | inr z ↦ z
    ] in
    (v, calm', one, no_news h n p i t v u es next even rest last)

even_turn : (n : ℕ) (b : Bool) → is_even n ≡ b → is_even (if b then n else n + 1) ≡ true
even_turn n true e = e
even_turn n false e = let a : n % 2 ≢ 0 = λ z. (let y : is_even n ≡ true = eq-eqb (n % 2) 0 z in cc) in eq-eqb ((n + 1) % 2) 0 (omega arith)

-- the Announce
announce_first : (w : World) (p i : ℕ) (x : Place) (fs : List Place) → is_announcing x ≡ true → IfSome (outcome w (Worker p i) (record { top = x; below = fs }))
    (λ r. KeepsOn (jec w.shape (((result w (Worker p i) (record { top = x; below = fs }) r).pool p).turn)) (((result w (Worker p i) (record { top = x; below = fs }) r).stack (Worker p i)).top) × (is_even (((result w (Worker p i) (record { top = x; below = fs }) r).pool p).turn) ≡ true))
announce_first w p i (AnnounceSelf k) fs is =
    let me : ((p == p) && (i == i)) ≡ true = same_refl p i in
    let mine : (p == p) ≡ true = self p in
    (λ h. (rw (me, mine)), rw mine (even_turn (w.pool p).turn (is_even (w.pool p).turn) refl))
announce_first w p i _ fs is = cc

-- the TryAdd that is done
try_last : (u : World) (p i : ℕ) (x : Place) (fs : List Place) → is_adding x ≡ true → IfSome (outcome u (Worker p i) (record { top = x; below = fs }))
    (λ r. is_added (((result u (Worker p i) (record { top = x; below = fs }) r).stack (Worker p i)).top) ≡ true → kept_at x ≡ jec u.shape (u.pool p).turn)
try_last u p i (AddSleeping k) fs is = at ((k.sleeping == (counts_at u p).sleeping) && (k.inactive == (counts_at u p).inactive) && (k.kept == jec u.shape (u.pool p).turn)) refl
  where
    s : Stack
    s = record { top = AddSleeping k; below = fs }

    me : ((p == p) && (i == i)) ≡ true
    me = same_refl p i

    at : (b : Bool) → ((k.sleeping == (counts_at u p).sleeping) && (k.inactive == (counts_at u p).inactive) && (k.kept == jec u.shape (u.pool p).turn)) ≡ b
        → IfSome (if b then Some (Done, record (part_at u (Worker p i) s) { seat = record (u.seat p i) { asleep = true } }) else Some (Refused, part_at u (Worker p i) s)) (λ r. is_added (((result u (Worker p i) s r).stack (Worker p i)).top) ≡ true → k.kept ≡ jec u.shape (u.pool p).turn)
    at true t = λ h. eqb-true k.kept (jec u.shape (u.pool p).turn) ((and_parts ((k.sleeping == (counts_at u p).sleeping) && (k.inactive == (counts_at u p).inactive)) (k.kept == jec u.shape (u.pool p).turn) t).1)
    at false t = λ h. absurd (let n : is_added ((if ((p == p) && (i == i)) then record { top = LoadCounters k; below = fs } else u.stack (Worker p i)).top) ≡ false = rw me in cc)
try_last u p i _ fs is = cc

adding_announced : (x : Place) → is_adding x ≡ true → announced x ≡ true
adding_announced (AddSleeping k) e = refl
adding_announced _ e = cc

pub turn_law : TurnLaw
turn_law shape before p i w v u z es first run last lt =
    let sw : w.shape ≡ shape = always_shape shape before w first.reached in
    let fw : Awake w = always_awake shape before w first.reached in
    let fv : FramesOk v = (let k : IfSome (Some v) Awake = subst (λ o. IfSome o Awake) first.made (step_awake w (Go (Worker p i)) fw) in k.frames) in
    let sv : v.shape ≡ shape = (let k : IfSome (Some v) (λ u. u.shape ≡ shape) = subst (λ o. IfSome o (λ u. u.shape ≡ shape)) first.made (step_shape shape w (Go (Worker p i)) fw.frames sw) in k) in
    let N : World → Type 0 = λ v. KeepsOn (jec w.shape ((v.pool p).turn)) ((v.stack (Worker p i)).top) × (is_even ((v.pool p).turn) ≡ true) in
    let me : Party = Worker p i in
    let one : N v = (let k : IfSome (Some v) N = subst (λ o. IfSome o N) first.made
    (acted_keeps w me (w.stack me) (target_pool me (act_of me (w.stack me).top)) (target_worker me (act_of me (w.stack me).top)) (target_call (act_of me (w.stack me).top)) (job_at w me (act_of me (w.stack me).top)) (outcome w me (w.stack me)) N
    (announce_first w p i (w.stack me).top (w.stack me).below first.place)) in k) in
    let n : ℕ = jec shape ((v.pool p).turn) in
    let t : ℕ = (v.pool p).turn in
    let begin : Segment shape n p i t v = record { shape = sv; frames = fv; kept = subst (λ h. KeepsOn (jec h ((v.pool p).turn)) ((v.stack (Worker p i)).top)) sw (one.0); turn = omega arith } in
    let end : Segment shape n p i t u = segment_run shape n p i t v u es begin run in
    let T : World → Type 0 = λ z. is_added ((z.stack (Worker p i)).top) ≡ true → kept_at ((u.stack (Worker p i)).top) ≡ jec u.shape (u.pool p).turn in
    let added : kept_at ((u.stack (Worker p i)).top) ≡ jec u.shape
    (u.pool p).turn = (let k : IfSome (Some z) T = subst (λ o. IfSome o T) last.made
    (acted_keeps u me (u.stack me) (target_pool me (act_of me (u.stack me).top)) (target_worker me (act_of me (u.stack me).top)) (target_call (act_of me (u.stack me).top)) (job_at u me (act_of me (u.stack me).top)) (outcome u me (u.stack me)) T
    (try_last u p i (u.stack me).top (u.stack me).below last.place)) in k last.done) in
    let kept : kept_at ((u.stack (Worker p i)).top) ≡ n = end.kept (adding_announced ((u.stack (Worker p i)).top) last.place) in
    let rest : (v.pool p).turn % (2 ^ shape.jec_bits) ≡ (u.pool p).turn % (2 ^ shape.jec_bits) = sym kept ∙ added ∙ ap (λ h. jec h (u.pool p).turn) (end.shape) in
    let same : (u.pool p).turn ≡ (v.pool p).turn = same_rest ((v.pool p).turn) ((u.pool p).turn) (2 ^ shape.jec_bits) (end.turn) lt rest in
    (same, no_news shape n p i t v u es begin (one.1) run same)
