-- what happens at the one worker of a pool is what each step does to the worker's FIFO lists: no other party has a
-- token of them
use Rattle.std.proofs.Common.{rules, arith, refl, sym, ◌∙◌, ap, subst, inl, inr}
use Rattle.rayon_machine_orders.proofs.Words.{Plan, Here, HandBack, Begun, Done, PoolShape, ℕ, zero, suc, Bool, true, false, ◌&&◌, ◌==◌, ◌<◌, nat_lt, if◌then◌else◌, Option, Some, None, List, [], ◌∷◌, ◌++◌, ◌≡◌, ◌⊎◌, IfSome, eqb-true, eq-eqb, ltb-true, OfPool, OfScope, OfCast, Count, Party}
use Rattle.rayon_machine_orders.proofs.Words.{Worker, Caller, Place, BeginTask, ProbeWorking, Stopped, Free, PopWorking, PopIdle, JoinPop, YieldPop, LocalPop, TakeCastWorking, TakeCastIdle, StealFrom, PopInjected, JoinTakeCast, YieldTakeCast, YieldSteal, YieldPopInjected, LocalTakeCast}
use Rattle.rayon_machine_orders.proofs.Words.{BeginHere, RaiseCount, Termination, Taken, Plain, Token, Act, FifoIn, FifoUndo, FifoOut, Idle, Seen, Event, Go, same_party, own_pool, own_index, act_of, next_of, fresh, Counts, Shape, Stack, World, Part, but_last, effect, same_list, target_pool}
use Rattle.rayon_machine_orders.proofs.Words.{target_worker, target_call, step, after_move, IsRun, start, Happening, Adds, Queues, Retakes, Begins, Redeems, act_happens, happening, Change, Changes, Joins, Leaves, Comes, change, change_of, run_at}
use Rattle.rayon_machine_laws.proofs.Attended.{aside_frames}
use Rattle.rayon_machine_laws.proofs.Redeems.{StocksHold, first_stocks, step_stocks, redeems}
use Rattle.rayon_machine_laws.proofs.Asides.{steps_aside}
use Rattle.rayon_machine_laws.proofs.Calm.{part_at, counts_seen, next_at, top_then}
use Rattle.rayon_machine_laws.proofs.Events.{run_keeps}
use Rattle.rayon_machine_laws.proofs.Frame.{either, if_some_all, if_some_and, if_some_each, if_some_map, same_party_true, same_refl, acted_keeps}
use Rattle.rayon_machine_laws.proofs.Holding.{go_frames}
use Rattle.rayon_machine_laws.proofs.Ties.{AllFrames, job_at, shape_at, outcome, result}
use Rattle.rayon_machine_laws.proofs.Tops.{FramesOk}
use Rattle.rayon_machine_orders.proofs.Lone.{NoThief, Turns, frame_honest, is_stopped, is_thief, stays_honest, taken, turns, turns_thief}
use Rattle.rayon_machine_orders.proofs.Dealt.{FreeOf, elsewhere, hand_on, is_here, is_start, lands_free, stays_free}
use Rattle.rayon_machine_orders.proofs.Queued.{Steps, step_queued, steps_on}

-- what happens to list b
abbrev pub told : Option ℕ → Option Happening → Option Change
told b (Some (Queues c by t)) = if same_list b c then Some (Joins t) else None
told b (Some (Retakes c)) = if same_list b c then Some Leaves else None
told b (Some (Redeems k c r)) = if same_list b c then Some (Comes r) else None
told b _ = None

-- a step changes each list of the worker as what happens says
abbrev pub Lined : ℕ → World → World → Option Happening → Type 0
Lined p w v h = (b : Option ℕ) → Changes ((w.seat p 0).fifo b) (told b h) ((v.seat p 0).fifo b)

-- a token
abbrev pub has_token : Option Taken → Bool
has_token (Some (Token k i b8)) = true
has_token _ = false

-- an outside caller does not steal, and takes no token
abbrev Plainly : Place → Type 0
Plainly x = (is_thief x ≡ false) × (has_token (taken x) ≡ false)

-- what it begins
begun_plainly : (g : PoolShape) (q : Party) (x : Place) (fs : List Place) (e : Seen) → AllFrames fs → is_start x ≡ true → has_token (taken x) ≡ false → has_token (taken ((after_move (next_of g q x e) fs).top)) ≡ false
begun_plainly g q (BeginTask (Plain t)) fs (Begun d) a z n = refl
begun_plainly g q (BeginTask (Plain t)) fs _ a z n = refl
begun_plainly g q (BeginTask (Token k i b8)) fs e a z n = cc
begun_plainly g q (BeginHere t) fs e a z n = refl
begun_plainly g q _ fs e a z n = absurd (cc)

raised_plainly : (g : PoolShape) (q : Party) (n : Plan) (fs : List Place) (e : Seen) → AllFrames fs → is_here n ≡ true → has_token (taken ((after_move (next_of g q (RaiseCount n) e) fs).top)) ≡ false
raised_plainly g q (Here p t) fs Done a z = refl
raised_plainly g q (Here p t) fs _ a z = ap has_token (lands_free (HandBack (Here p t)) fs a tt)
raised_plainly g q _ fs e a z = absurd (cc)

none_token : (x : Option Taken) → x ≡ None → has_token x ≡ false
none_token x e = ap has_token e

kept : (y : Bool) (b d : Option Taken) → y ≡ false → has_token b ≡ false → ((b ≡ None) × ((d ≡ None) ⊎ (y ≡ true))) ⊎ (d ≡ b) → has_token d ≡ false
kept y b d n f (inl (i, inl j)) = none_token d j
kept y b d n f (inl (i, inr j)) = absurd (cc)
kept y b d n f (inr j) = ap has_token j ∙ f

caller_next : (h : Shape) (g : PoolShape) (n : ℕ) (c : Counts) (m : Part) (x : Place) (fs : List Place) → AllFrames fs → has_token (taken x) ≡ false → IfSome (effect (act_of (Caller n) x) h (Caller n) c m) (λ r. has_token (taken ((after_move (next_of g (Caller n) x (r.0)) fs).top)) ≡ false)
caller_next h g n c m (PopWorking k) fs a z = tt
caller_next h g n c m (PopIdle k) fs a z = tt
caller_next h g n c m (JoinPop o) fs a z = tt
caller_next h g n c m YieldPop fs a z = tt
caller_next h g n c m LocalPop fs a z = tt
caller_next h g n c m (TakeCastWorking k) fs a z = tt
caller_next h g n c m (TakeCastIdle k) fs a z = tt
caller_next h g n c m (StealFrom k v) fs a z = tt
caller_next h g n c m (PopInjected k) fs a z = tt
caller_next h g n c m (JoinTakeCast o) fs a z = tt
caller_next h g n c m YieldTakeCast fs a z = tt
caller_next h g n c m (YieldSteal v d) fs a z = tt
caller_next h g n c m YieldPopInjected fs a z = tt
caller_next h g n c m LocalTakeCast fs a z = tt
caller_next h g n c m (BeginTask y) fs a z = if_some_all {A = Seen × Part} (λ r. has_token (taken ((after_move (next_of g (Caller n) (BeginTask y) (r.0)) fs).top)) ≡ false) (λ r. begun_plainly g (Caller n) (BeginTask y) fs (r.0) a refl z) (effect (act_of (Caller n) (BeginTask y)) h (Caller n) c m)
caller_next h g n c m (BeginHere t) fs a z = refl
caller_next h g n c m (RaiseCount d) fs a z = elim (either (is_here d)) [
  | inl y ↦ if_some_all {A = Seen × Part} (λ r. has_token (taken ((after_move (next_of g (Caller n) (RaiseCount d) (r.0)) fs).top)) ≡ false) (λ r. raised_plainly g (Caller n) d fs (r.0) a y) (effect (act_of (Caller n) (RaiseCount d)) h (Caller n) c m)
  | inr y ↦ if_some_map {A = Seen × Part} (λ r. FreeOf (next_of g (Caller n) (RaiseCount d) (r.0))) (λ r. has_token (taken ((after_move (next_of g (Caller n) (RaiseCount d) (r.0)) fs).top)) ≡ false)
      (λ r t. none_token (taken ((after_move (next_of g (Caller n) (RaiseCount d) (r.0)) fs).top)) (lands_free (next_of g (Caller n) (RaiseCount d) (r.0)) fs a t)) (effect (act_of (Caller n) (RaiseCount d)) h (Caller n) c m) (stays_free h g (Caller n) c m (RaiseCount d) refl y refl refl)
]
caller_next h g n c m x fs a z = if_some_map {A = Seen × Part} (λ r. ((taken x ≡ None) × ((taken ((after_move (next_of g (Caller n) x (r.0)) fs).top) ≡ None) ⊎ (elsewhere x ≡ true))) ⊎ (taken ((after_move (next_of g (Caller n) x (r.0)) fs).top) ≡ taken x))
    (λ r. has_token (taken ((after_move (next_of g (Caller n) x (r.0)) fs).top)) ≡ false) (λ r t. kept (elsewhere x) (taken x) (taken ((after_move (next_of g (Caller n) x (r.0)) fs).top)) refl z t) (effect (act_of (Caller n) x) h (Caller n) c m) (hand_on h g (Caller n) c m x fs a refl refl)

caller_honest : (h : Shape) (g : PoolShape) (n : ℕ) (c : Counts) (m : Part) (x : Place) → is_thief x ≡ false → IfSome (effect (act_of (Caller n) x) h (Caller n) c m) (λ r. NoThief (next_of g (Caller n) x (r.0)))
caller_honest h g n c m (TakeCastIdle k) z = tt
caller_honest h g n c m YieldTakeCast z = tt
caller_honest h g n c m x z = stays_honest h g (Caller n) c m x z (λ e. (let k : turns_thief x ≡ false = refl in absurd (cc)))

-- all callers, and the workers beyond the pool's one
pub record Apart (p : ℕ) (w : World) : Type 0 where
  pub callers : (n : ℕ) → Plainly (w.stack (Caller n)).top
  pub beyond : (i : ℕ) → is_stopped (w.stack (Worker p (suc i))).top ≡ true

-- one party's own act
caller_own : (w : World) (n : ℕ) → FramesOk w → Plainly (w.stack (Caller n)).top → IfSome (outcome w (Caller n) (w.stack (Caller n))) (λ r. Plainly ((after_move (next_at w (Caller n) (w.stack (Caller n)) (r.0)) (w.stack (Caller n)).below).top))
caller_own w n fr a =
    let q : Party = Caller n in let k : Stack = w.stack q in
    if_some_and {A = Seen × Part} (λ r. is_thief ((after_move (next_at w q k (r.0)) k.below).top) ≡ false) (λ r. has_token (taken ((after_move (next_at w q k (r.0)) k.below).top)) ≡ false) (outcome w q k)
    (if_some_map {A = Seen × Part} (λ r. NoThief (next_at w q k (r.0))) (λ r. is_thief ((after_move (next_at w q k (r.0)) k.below).top) ≡ false) (λ r t. top_then (λ y. is_thief y ≡ false) w q k (r.0) refl fr frame_honest t) (outcome w q k)
    (caller_honest w.shape (shape_at w q k) n (counts_seen w q k) (part_at w q k) k.top (a.0)))
    (caller_next w.shape (shape_at w q k) n (counts_seen w q k) (part_at w q k) k.top k.below (fr q) (a.1))

caller_put : (w : World) (q : Party) (n : ℕ) (b : Bool) → same_party (Caller n) q ≡ b → FramesOk w → Plainly (w.stack (Caller n)).top → IfSome (outcome w q (w.stack q)) (λ r. Plainly ((if b then after_move (next_at w q (w.stack q) (r.0)) (w.stack q).below else w.stack (Caller n)).top))
caller_put w q n true eb fr a =
    let F : Party → Type 0 = λ z. IfSome (outcome w z (w.stack z)) (λ r. Plainly ((after_move (next_at w z (w.stack z) (r.0)) (w.stack z).below).top)) in
    subst F (same_party_true (Caller n) q eb) (caller_own w n fr a)
caller_put w q n false eb fr a = if_some_all {A = Seen × Part} (λ r. Plainly (w.stack (Caller n)).top) (λ r. a) (outcome w q (w.stack q))

-- who has stopped makes no act
stopped_idle : (w : World) (q : Party) (x : Place) (fs : List Place) (P : Seen × Part → Type 0) → is_stopped x ≡ true → IfSome (outcome w q (record { top = x; below = fs })) P
stopped_idle w (Worker a b) Stopped fs P e = tt
stopped_idle w (Caller n) Stopped fs P e = tt
stopped_idle w q _ fs P e = absurd (cc)

beyond_put : (w : World) (q : Party) (p i : ℕ) (b : Bool) → same_party (Worker p (suc i)) q ≡ b → is_stopped (w.stack (Worker p (suc i))).top ≡ true → IfSome (outcome w q (w.stack q))
    (λ r. is_stopped ((if b then after_move (next_at w q (w.stack q) (r.0)) (w.stack q).below else w.stack (Worker p (suc i))).top) ≡ true)
beyond_put w q p i true eb a = stopped_idle w q (w.stack q).top (w.stack q).below (λ r. is_stopped ((after_move (next_at w q (w.stack q) (r.0)) (w.stack q).below).top) ≡ true) (ap (λ z. is_stopped (w.stack z).top) (sym (same_party_true (Worker p (suc i)) q eb)) ∙ a)
beyond_put w q p i false eb a = if_some_all {A = Seen × Part} (λ r. is_stopped (w.stack (Worker p (suc i))).top ≡ true) (λ r. a) (outcome w q (w.stack q))

turn_apart : (p : ℕ) (w u : World) → Turns w u → Apart p w → Apart p u
turn_apart p w u m a = record {
  callers = λ n. subst (λ s. Plainly s.top) (sym (m.stack (Caller n))) (called n (same_party (Caller n) m.party) refl);
  beyond = λ i. ap (λ s. is_stopped s.top) (m.stack (Worker p (suc i))) ∙ at i (same_party (Worker p (suc i)) m.party) refl;
}
  where
    called : (n : ℕ) (b : Bool) → same_party (Caller n) m.party ≡ b → Plainly ((if b then m.to else w.stack (Caller n)).top)
    called n true e = let h : (is_thief m.to.top ≡ false) × (taken m.to.top ≡ None) = m.honest (ap (λ z. is_thief ((w.stack z).top)) (sym (same_party_true (Caller n) m.party e)) ∙ (a.callers n).0) in (h.0, none_token (taken m.to.top) (h.1))
    called n false e = a.callers n

    at : (i : ℕ) (b : Bool) → same_party (Worker p (suc i)) m.party ≡ b → is_stopped ((if b then m.to else w.stack (Worker p (suc i))).top) ≡ true
    at i true e = absurd (let x : is_stopped (w.stack m.party).top ≡ true = ap (λ z. is_stopped (w.stack z).top) (sym (same_party_true (Worker p (suc i)) m.party e)) ∙ a.beyond i in let y : is_stopped (w.stack m.party).top ≡ false = (m.empty).1 in cc)
    at i false e = a.beyond i

step_apart : (p : ℕ) (w : World) (e : Event) → FramesOk w → Apart p w → IfSome (step w e) (Apart p)
step_apart p w (Go q) fr a = acted_keeps w q (w.stack q) (target_pool q (act_of q (w.stack q).top)) (target_worker q (act_of q (w.stack q).top)) (target_call (act_of q (w.stack q).top)) (job_at w q (act_of q (w.stack q).top)) (outcome w q (w.stack q)) (Apart p)
    (if_some_map {A = Seen × Part} (λ r. ((n : ℕ) → Plainly ((result w q (w.stack q) r).stack (Caller n)).top) × ((i : ℕ) → is_stopped ((result w q (w.stack q) r).stack (Worker p (suc i))).top ≡ true)) (λ r. Apart p (result w q (w.stack q) r))
    (λ r t. record { callers = t.0; beyond = t.1 }) (outcome w q (w.stack q))
    (if_some_and {A = Seen × Part} (λ r. (n : ℕ) → Plainly ((result w q (w.stack q) r).stack (Caller n)).top) (λ r. (i : ℕ) → is_stopped ((result w q (w.stack q) r).stack (Worker p (suc i))).top ≡ true) (outcome w q (w.stack q))
    (if_some_each {I = ℕ} (λ n r. Plainly ((result w q (w.stack q) r).stack (Caller n)).top) (outcome w q (w.stack q)) (λ n. caller_put w q n (same_party (Caller n) q) refl fr (a.callers n)))
    (if_some_each {I = ℕ} (λ i r. is_stopped ((result w q (w.stack q) r).stack (Worker p (suc i))).top ≡ true) (outcome w q (w.stack q)) (λ i. beyond_put w q p i (same_party (Worker p (suc i)) q) refl (a.beyond i)))))
step_apart p w e fr a = if_some_map (Turns w) (Apart p) (λ u m. turn_apart p w u m a) (step w e) (turns w fr e refl)

one_beyond : (n i : ℕ) → n ≡ 1 → nat_lt (suc i) n ≡ false
one_beyond n i e = elim (either (nat_lt (suc i) n)) [ inl y ↦ absurd (let k : suc i < n = ltb-true (suc i) n y in omega (arith, k, e)) | inr y ↦ y ]

-- the FIFO lists of workers beyond the pool's one
abbrev Empty : ℕ → World → Type 0
Empty p w = (i : ℕ) (b : Option ℕ) → (w.seat p (suc i)).fifo b ≡ []

-- who adds a job to a list is the list's worker
joins_own : (p j : ℕ) (b : Option ℕ) (q : Party) (a : Act) (y : Place) (t : ℕ) → change_of p j b q a y ≡ Some (Joins t) → ((p == own_pool q) ≡ true) × ((j == own_index q) ≡ true)
joins_own p j b q (FifoIn u c) y t e = by (p == own_pool q) (j == own_index q) (same_list b c) e
  where
    by : (x z d : Bool) → (if x && (z && d) then Some (Joins u) else None) ≡ Some (Joins t) → (x ≡ true) × (z ≡ true)
    by true true d e = (refl, refl)
    by true false d e = absurd (cc)
    by false z d e = absurd (cc)
joins_own p j b q (FifoUndo c) y t e = by ((p == own_pool q) && ((j == own_index q) && same_list b c)) e
  where
    by : (x : Bool) → (if x then Some Leaves else None) ≡ Some (Joins t) → ((p == own_pool q) ≡ true) × ((j == own_index q) ≡ true)
    by true e = absurd (cc)
    by false e = absurd (cc)
joins_own p j b q (FifoOut k i c) y t e = by ((p == own_pool q) && ((j == i) && same_list b c)) e
  where
    by : (x : Bool) → (if x then Some (Comes (run_at y)) else None) ≡ Some (Joins t) → ((p == own_pool q) ≡ true) × ((j == own_index q) ≡ true)
    by true e = absurd (cc)
    by false e = absurd (cc)
joins_own p j b q _ y t e = absurd (cc)

stopped_act : (q : Party) (x : Place) → is_stopped x ≡ true → act_of q x ≡ Idle
stopped_act (Worker a b) Stopped e = refl
stopped_act (Caller n) Stopped e = refl
stopped_act q _ e = absurd (cc)

-- a worker beyond the pool's one makes no act
beyond_act : (p : ℕ) (w : World) (q : Party) (i : ℕ) → Apart p w → (p == own_pool q) ≡ true → (suc i == own_index q) ≡ true → act_of q (w.stack q).top ≡ Idle
beyond_act p w (Worker a b) i h e d =
    let k : p ≡ a = eqb-true p a e in let n : suc i ≡ b = eqb-true (suc i) b d in
    let same : Worker p (suc i) ≡ Worker a b = ap (λ z. Worker z (suc i)) k ∙ ap (λ z. Worker a z) n in
    stopped_act (Worker a b) (w.stack (Worker a b)).top (ap (λ z. is_stopped (w.stack z).top) (sym same) ∙ h.beyond i)
beyond_act p w (Caller n) i h e d = absurd (let k : suc i ≡ 0 = eqb-true (suc i) 0 d in omega (arith, k))

stays_empty : (o : Option Change) (l m : List ℕ) → ((t : ℕ) → o ≡ Some (Joins t) → ⊥) → l ≡ [] → Changes l o m → m ≡ []
stays_empty None l m n e k = k ∙ e
stays_empty (Some (Joins t)) l m n e k = absurd (n t refl)
stays_empty (Some Leaves) l m n e k = k ∙ ap but_last e
stays_empty (Some (Comes r)) l m n e (t, a, k) = absurd (let d : t ∷ m ≡ [] = sym k ∙ e in cc)

empty_step : (p : ℕ) (w v : World) (e : Event) → Apart p w → Empty p w → Steps w e v → Empty p v
empty_step p w v e a h k i b = stays_empty (change p (suc i) b w e v) ((w.seat p (suc i)).fifo b) ((v.seat p (suc i)).fifo b) (by e) (h i b) (k p (suc i) b)
  where
    by : (e : Event) (t : ℕ) → change p (suc i) b w e v ≡ Some (Joins t) → ⊥
    by (Go q) t d =
        let own : ((p == own_pool q) ≡ true) × ((suc i == own_index q) ≡ true) = joins_own p (suc i) b q (act_of q (w.stack q).top) (v.stack q).top t d in
        let idle : act_of q (w.stack q).top ≡ Idle = beyond_act p w q i a (own.0) (own.1) in
        let n : None ≡ Some (Joins t) = ap (λ z. change_of p (suc i) b q z (v.stack q).top) (sym idle) ∙ d in cc
    by _ t d = cc

-- in every world of every run of a shape with such a pool of one
pub record Alone (p : ℕ) (w : World) : Type 0 where
  pub stocks : StocksHold w
  pub frames : FramesOk w
  pub apart : Apart p w
  pub empty : Empty p w

step_alone : (p : ℕ) (w : World) (e : Event) → Alone p w → IfSome (step w e) (Alone p)
step_alone p w e a = if_some_map (λ v. StocksHold v × (FramesOk v × (Apart p v × Empty p v))) (Alone p) (λ v t. record { stocks = t.0; frames = (t.1).0; apart = ((t.1).1).0; empty = ((t.1).1).1 }) (step w e)
    (if_some_and StocksHold (λ v. FramesOk v × (Apart p v × Empty p v)) (step w e) (step_stocks w e a.stocks)
    (if_some_and FramesOk (λ v. Apart p v × Empty p v) (step w e) (steps_aside FramesOk w a.frames (λ q. go_frames w q (w.stack q) refl a.frames) (λ v m. aside_frames w v m a.frames) e)
    (if_some_and (Apart p) (Empty p) (step w e) (step_apart p w e a.frames a.apart)
    (if_some_map (Steps w e) (Empty p) (λ v k. empty_step p w v e a.apart a.empty k) (step w e) (step_queued w e a.frames (redeems w a.stocks))))))

always_alone : (h : Shape) (p : ℕ) → (h.pool p).workers ≡ 1 → (es : List Event) (w : World) → IsRun (start h) es w → Alone p w
always_alone h p one es w r = run_keeps (Alone p) (step_alone p) (start h) w es first r
  where
    at : (b : Bool) → Plainly (if b then Free else Stopped)
    at true = (refl, refl)
    at false = (refl, refl)

    past : (i : ℕ) (b : Bool) → b ≡ false → is_stopped (if b then (if (h.pool p).callers_own && (suc i == 0) then Free else ProbeWorking (fresh Termination)) else Stopped) ≡ true
    past i true e = cc
    past i false e = refl

    first : Alone p (start h)
    first = record { stocks = first_stocks h; frames = λ q. tt; apart = record { callers = λ n. at (nat_lt n h.callers); beyond = λ i. past i (nat_lt (suc i) (h.pool p).workers) (one_beyond (h.pool p).workers i one) }; empty = λ i b. refl }

-- what happens is what the step does to the lists
mine_told : (p : ℕ) (b : Option ℕ) (a : Act) (fs : List Place) (y : Place) → ((k j : ℕ) (c : Option ℕ) → a ≡ FifoOut k j c → (0 == j) ≡ true) → change_of p 0 b (Worker p 0) a y ≡ told b (act_happens a fs (run_at y))
mine_told p b (FifoIn t c) fs y z = let e : (p == p) ≡ true = eq-eqb p p refl in rw e refl
mine_told p b (FifoUndo c) fs y z = let e : (p == p) ≡ true = eq-eqb p p refl in rw e refl
mine_told p b (FifoOut k j c) fs y z = let e : (p == p) ≡ true = eq-eqb p p refl in let d : (0 == j) ≡ true = z k j c refl in rw e (rw d refl)
mine_told p b _ fs y z = refl

-- another party changes no list of the worker
caller_told : (p n : ℕ) (b : Option ℕ) (x y : Place) → has_token (taken x) ≡ false → change_of p 0 b (Caller n) (act_of (Caller n) x) y ≡ None
caller_told p n b (BeginTask (Plain t)) y z = refl
caller_told p n b (BeginTask (Token k j c)) y z = absurd (cc)
caller_told p n b _ y z = refl

away_told : (p : ℕ) (b : Option ℕ) (q : Party) (a : Act) (y : Place) → (p == own_pool q) ≡ false → change_of p 0 b q a y ≡ None
away_told p b q (FifoIn t c) y z = rw z refl
away_told p b q (FifoUndo c) y z = rw z refl
away_told p b q (FifoOut k j c) y z = rw z refl
away_told p b q _ y z = refl

other_told : (p : ℕ) (w : World) (q : Party) (b : Option ℕ) (y : Place) → Apart p w → same_party (Worker p 0) q ≡ false → change_of p 0 b q (act_of q (w.stack q).top) y ≡ None
other_told p w (Caller n) b y a e = caller_told p n b (w.stack (Caller n)).top y ((a.callers n).1)
other_told p w (Worker r zero) b y a e = by (p == r) refl e
  where
    by : (z : Bool) → (p == r) ≡ z → (z && (0 == 0)) ≡ false → change_of p 0 b (Worker r 0) (act_of (Worker r 0) (w.stack (Worker r 0)).top) y ≡ None
    by true d f = cc
    by false d f = away_told p b (Worker r 0) (act_of (Worker r 0) (w.stack (Worker r 0)).top) y d
other_told p w (Worker r (suc i)) b y a e = by (p == r) refl
  where
    by : (z : Bool) → (p == r) ≡ z → change_of p 0 b (Worker r (suc i)) (act_of (Worker r (suc i)) (w.stack (Worker r (suc i))).top) y ≡ None
    by true d = ap (λ k. change_of p 0 b (Worker r (suc i)) k y) (beyond_act p w (Worker r (suc i)) i a d (eq-eqb (suc i) (suc i) refl))
    by false d = away_told p b (Worker r (suc i)) (act_of (Worker r (suc i)) (w.stack (Worker r (suc i))).top) y d

-- a token that the worker redeems is of a list of its own
own_token : (p : ℕ) (w : World) (k j : ℕ) (c : Option ℕ) → Alone p w → act_of (Worker p 0) (w.stack (Worker p 0)).top ≡ FifoOut k j c → (0 == j) ≡ true
own_token p w k zero c a e = refl
own_token p w k (suc i) c a e = absurd (redeems w a.stocks (Worker p 0) k (suc i) c e (a.empty i c))

agrees : (p : ℕ) (w v : World) (e : Event) (b : Option ℕ) → Alone p w → change p 0 b w e v ≡ told b (happening p w e v)
agrees p w v (Go q) b a = by (same_party (Worker p 0) q) refl
  where
    by : (z : Bool) → same_party (Worker p 0) q ≡ z → change_of p 0 b q (act_of q (w.stack q).top) (v.stack q).top ≡ told b (if z then act_happens (act_of q (w.stack q).top) (w.stack q).below (run_at (v.stack q).top) else None)
    by true d =
        let F : Party → Type 0 = λ z. change_of p 0 b z (act_of z (w.stack z).top) (v.stack z).top ≡ told b (act_happens (act_of z (w.stack z).top) (w.stack z).below (run_at (v.stack z).top)) in
        let base : F (Worker p 0) = mine_told p b (act_of (Worker p 0) (w.stack (Worker p 0)).top) (w.stack (Worker p 0)).below (v.stack (Worker p 0)).top (λ k j c i. own_token p w k j c a i) in
        subst F (same_party_true (Worker p 0) q d) base
    by false d = other_told p w q b (v.stack q).top a.apart d
agrees p w v _ b a = refl

pub lined_on : (h : Shape) (p : ℕ) → (h.pool p).workers ≡ 1 → (w v : World) (e : Event) (es : List Event) → IsRun (start h) es w → step w e ≡ Some v → Lined p w v (happening p w e v)
lined_on h p one w v e es run s b = subst (λ z. Changes ((w.seat p 0).fifo b) z ((v.seat p 0).fifo b)) (agrees p w v e b (always_alone h p one es w run)) (steps_on h es w v e run s p 0 b)
