-- what happens at a worker that makes no call but spawns, and where each step leads it
--
-- What happens is `Orderly` (Walks): the run below a push is the one that began last. Runs do not nest without other
-- calls (`Stands` of Standing). A job begins once and is added once. A search looks at the injector only after the own
-- deque was empty.
use Rattle.std.proofs.Common.{arith, refl, sym, ◌∙◌, ap, subst, inl, inr}
use Rattle.rayon_machine_orders.proofs.Words.{ℕ, Bool, true, false, ◌&&◌, ◌==◌, ◌≤◌, nat_lt, if◌then◌else◌, Option, Some, None, List, [], ◌∷◌, ◌≡◌, ⊤, IfSome, slice_get, ◌+◌, eqb-true, eq-eqb, Party, Worker, Caller, Ending, Count, OfPool, OfScope, Feeding, Scope, Plan, Detach, Here, Send, Fork}
use Rattle.rayon_machine_orders.proofs.Words.{Feed, Open, Enter, Gather, Place, ProbeWorking, PickVictim, StealFrom, YieldPick, YieldSteal, YieldPop, LocalPop, BeginTask, BeginHere, Run, RaiseCount, GrowCall, PushJob, Free, AddToFifo, PushToken, TakeFromFifo, PushForAll, GrowScope, OpenSlot}
use Rattle.rayon_machine_orders.proofs.Words.{OpenForAll, GrowCast, DealPieces, PushOwn, PushInj, Seen, Refused, Event, Go, From, Refuse, Miss, End, Spawn, Fifo, Install, Join, Yield, YieldLocal, EndPool, Cast, OpenScope, IntoSpawn, IntoFifo, IntoCast, Broadcast, same_party, own_pool, is_member}
use Rattle.rayon_machine_orders.proofs.Words.{plan_pool, plan_job, act_of, is_free, is_refusable, plan_book, count_book, Stack, World, Part, head_of, or_none, target_pool, target_worker, target_call, put_stack, part_of, back, after_call, after_move, after_choice, after_refusal, after_miss}
use Rattle.rayon_machine_orders.proofs.Words.{after_end, after_send, after_join, after_yield, after_fifo, after_enter, after_enter_fifo, after_into, after_into_fifo, is_pool, can_miss, step, after_feed, after_spawn, holds, one, Happening, Adds, Queues, Retakes, Begins, Redeems, act_happens}
use Rattle.rayon_machine_orders.proofs.Words.{happening, run_at, Plain, Token}
use Rattle.rayon_machine_orders.specs.Order.{caller_of}
use Rattle.rayon_machine_orders.proofs.Dealing.{nothing, runs_after}
use Rattle.rayon_machine_laws.proofs.Calm.{next_at}
use Rattle.rayon_machine_orders.proofs.Dealt.{is_line, is_push, is_start, silent}
use Rattle.rayon_machine_laws.proofs.Frame.{either, if_some_all, if_some_map, if_cond, same_party_true, stack_mine, acted_keeps, out_sees, into_cases, into_cast_cases}
use Rattle.rayon_machine_laws.proofs.Hands.{hand, hand_plan}
use Rattle.rayon_machine_laws.proofs.Claims.{Says, SaysQueue}
use Rattle.rayon_machine_orders.proofs.Lone.{is_act, turn_target, turns_thief}
use Rattle.rayon_machine_orders.proofs.Standing.{Above, AllBase, IsLight, IsSpawn, Stands, StandsAt, back_base, stands_next, stands_begun, stands_closed, stands_caller, token_caller}
use Rattle.rayon_machine_laws.proofs.Ties.{job_at, shape_at, outcome}

-- the run that began last, after what happens
abbrev pub next_run : Option ℕ → Option Happening → Option ℕ
next_run r (Some (Begins t)) = Some t
next_run r (Some (Redeems k b (Some t))) = Some t
next_run r _ = r

-- what is pushed was in hand, and the run that pushes is the one that began last
plan_hand : (w : World) (q : Party) (n : Plan) → SaysQueue w q n → 1 ≤ hand_plan (plan_job n) n
plan_hand w q (Detach p t) s = let e : one (t == t) ≡ 1 = ap one (eq-eqb t t refl) in omega (arith, e)
plan_hand w q (Send o) s = let e : one (o.job == o.job) ≡ 1 = ap one (eq-eqb o.job o.job refl) in omega (arith, e)
plan_hand w q (Enter o) s = let e : one (o.job == o.job) ≡ 1 = ap one (eq-eqb o.job o.job refl) in omega (arith, e)
plan_hand w q (Fork o a) s = let e : one (o.job == o.job) ≡ 1 = ap one (eq-eqb o.job o.job refl) in omega (arith, e)
plan_hand w q _ s = absurd s

-- only a push adds to the deque, and only a place of a FIFO list to that
start_adds : (q : Party) (x : Place) (fs : List Place) (o by : Option ℕ) (s : ℕ) → is_start x ≡ true → act_happens (act_of q x) fs o ≡ Some (Adds by s) → ⊥
start_adds (Worker a b) (BeginTask (Plain t)) fs o by s z e = cc
start_adds (Worker a b) (BeginTask (Token k i b8)) fs o by s z e = cc
start_adds (Worker a b) (BeginHere t) fs o by s z e = cc
start_adds (Caller a) (BeginTask (Plain t)) fs o by s z e = cc
start_adds (Caller a) (BeginTask (Token k i b8)) fs o by s z e = cc
start_adds (Caller a) (BeginHere t) fs o by s z e = cc
start_adds q _ fs o by s z e = cc

line_adds : (q : Party) (x : Place) (fs : List Place) (o by : Option ℕ) (s : ℕ) → is_line x ≡ true → act_happens (act_of q x) fs o ≡ Some (Adds by s) → ⊥
line_adds (Worker a b) (AddToFifo f) fs o by s z e = cc
line_adds (Worker a b) (TakeFromFifo f) fs o by s z e = cc
line_adds (Caller a) (AddToFifo f) fs o by s z e = cc
line_adds (Caller a) (TakeFromFifo f) fs o by s z e = cc
line_adds q _ fs o by s z e = cc

pub adds_push : (q : Party) (x : Place) (fs : List Place) (o by : Option ℕ) (s : ℕ) → act_happens (act_of q x) fs o ≡ Some (Adds by s) → is_push x ≡ true
adds_push q x fs o by s e = elim (either (is_push x)) [
  | inl y ↦ y
  | inr y ↦ elim (either (is_start x)) [
    | inl z ↦ absurd (start_adds q x fs o by s z e)
    | inr z ↦ elim (either (is_line x)) [
      | inl l ↦ absurd (line_adds q x fs o by s l e)
      | inr l ↦ absurd (let k : act_happens (act_of q x) fs o ≡ None = silent q x fs o y z l in cc)
    ]
  ]
]

push_adds : (q : Party) (n : Plan) (v : Bool) (fs : List Place) (o by : Option ℕ) (s : ℕ) → act_happens (act_of q (PushJob n v)) fs o ≡ Some (Adds by s) → (by ≡ caller_of fs) × (s ≡ plan_job n)
push_adds (Worker a b) n v fs o by s e = at (a == plan_pool n) e
  where
    at : (z : Bool) → act_happens (if z then PushOwn (plan_job n) (plan_book n) else PushInj (plan_pool n) (plan_job n) (plan_book n)) fs o ≡ Some (Adds by s) → (by ≡ caller_of fs) × (s ≡ plan_job n)
    at true d = (cc, cc)
    at false d = absurd (cc)
push_adds (Caller c) n v fs o by s e = absurd (cc)

pub token_adds : (q : Party) (f : Feeding) (v : Bool) (fs : List Place) (o by : Option ℕ) (s : ℕ) → act_happens (act_of q (PushToken f v)) fs o ≡ Some (Adds by s) → (by ≡ caller_of fs) × (s ≡ f.token)
token_adds (Worker a b) f v fs o by s e = (cc, cc)
token_adds (Caller c) f v fs o by s e = absurd (cc)

pub adds_hand : (w : World) (q : Party) (x : Place) (fs : List Place) (o by : Option ℕ) (s : ℕ) → Says w q x → act_happens (act_of q x) fs o ≡ Some (Adds by s) → 1 ≤ hand s x
adds_hand w q x fs o by s st e = at x st e (adds_push q x fs o by s e)
  where
    at : (x : Place) → Says w q x → act_happens (act_of q x) fs o ≡ Some (Adds by s) → is_push x ≡ true → 1 ≤ hand s x
    at (PushJob n v) a d z = subst (λ t. 1 ≤ hand_plan t n) (sym ((push_adds q n v fs o by s d).1)) (plan_hand w q n a)
    at (PushToken f v) a d z = let e : one (s == f.token) ≡ 1 = ap one (eq-eqb s f.token ((token_adds q f v fs o by s d).1)) in omega (arith, e)
    at _ a d z = absurd (cc)

-- a job is added to a FIFO list where it is in hand
pub queues_place : (q : Party) (x : Place) (fs : List Place) (o c by : Option ℕ) (s : ℕ) → act_happens (act_of q x) fs o ≡ Some (Queues c by s) → (f : Feeding) × (x ≡ AddToFifo f) × (s ≡ f.job) × (c ≡ count_book f.count) × (by ≡ caller_of fs)
queues_place q x fs o c by s e = elim (either (is_line x)) [
  | inl l ↦ line q x l e
  | inr l ↦ elim (either (is_push x)) [
    | inl y ↦ absurd (push q x y e)
    | inr y ↦ elim (either (is_start x)) [
      | inl z ↦ absurd (starts q x z e)
      | inr z ↦ absurd (let k : act_happens (act_of q x) fs o ≡ None = silent q x fs o y z l in cc)
    ]
  ]
]
  where
    line : (q : Party) (x : Place) → is_line x ≡ true → act_happens (act_of q x) fs o ≡ Some (Queues c by s) → (f : Feeding) × (x ≡ AddToFifo f) × (s ≡ f.job) × (c ≡ count_book f.count) × (by ≡ caller_of fs)
    line (Worker a b) (AddToFifo f) l e = (f, refl, cc, cc, cc)
    line (Caller a) (AddToFifo f) l e = absurd (cc)
    line (Worker a b) (TakeFromFifo f) l e = absurd (cc)
    line (Caller a) (TakeFromFifo f) l e = absurd (cc)
    line q _ l e = absurd (cc)

    push : (q : Party) (x : Place) → is_push x ≡ true → act_happens (act_of q x) fs o ≡ Some (Queues c by s) → ⊥
    push (Worker a b) (PushJob n v) y e = at (a == plan_pool n) e
      where
        at : (z : Bool) → act_happens (if z then PushOwn (plan_job n) (plan_book n) else PushInj (plan_pool n) (plan_job n) (plan_book n)) fs o ≡ Some (Queues c by s) → ⊥
        at true d = cc
        at false d = cc
    push (Caller a) (PushJob n v) y e = cc
    push (Worker a b) (PushToken f v) y e = cc
    push (Caller a) (PushToken f v) y e = cc
    push q _ y e = cc

    starts : (q : Party) (x : Place) → is_start x ≡ true → act_happens (act_of q x) fs o ≡ Some (Queues c by s) → ⊥
    starts (Worker a b) (BeginTask (Plain t)) z e = cc
    starts (Worker a b) (BeginTask (Token k i n)) z e = cc
    starts (Worker a b) (BeginHere t) z e = cc
    starts (Caller a) (BeginTask (Plain t)) z e = cc
    starts (Caller a) (BeginTask (Token k i n)) z e = cc
    starts (Caller a) (BeginHere t) z e = cc
    starts q _ z e = cc

pub queues_hand : (q : Party) (x : Place) (fs : List Place) (o c by : Option ℕ) (s : ℕ) → act_happens (act_of q x) fs o ≡ Some (Queues c by s) → 1 ≤ hand s x
queues_hand q x fs o c by s e = at (queues_place q x fs o c by s e)
  where
    at : ((f : Feeding) × (x ≡ AddToFifo f) × (s ≡ f.job) × (c ≡ count_book f.count) × (by ≡ caller_of fs)) → 1 ≤ hand s x
    at (f, i, j, k, l) = subst (λ y. 1 ≤ hand s y) (sym i) (let d : one (s == f.job) ≡ 1 = ap one (eq-eqb s f.job j) in omega (arith, d))

pub adds_caller : (Q : Plan → Type 0) (q : Party) (x : Place) (fs : List Place) (r o by : Option ℕ) (s : ℕ) → Stands Q r x fs → act_happens (act_of q x) fs o ≡ Some (Adds by s) → by ≡ r
adds_caller Q q x fs r o by s st e = at x e st (adds_push q x fs o by s e)
  where
    at : (x : Place) → act_happens (act_of q x) fs o ≡ Some (Adds by s) → Stands Q r x fs → is_push x ≡ true → by ≡ r
    at (PushJob n v) d a z = (push_adds q n v fs o by s d).0 ∙ stands_caller Q r n v fs a
    at (PushToken f v) d a z = (token_adds q f v fs o by s d).0 ∙ token_caller Q r f v fs a
    at _ d a z = absurd (cc)

-- what happens at an event is what the worker's act is
pub event_acts : (p : ℕ) (w : World) (e : Event) (v : World) (h : Happening) → happening p w e v ≡ Some h → act_happens (act_of (Worker p 0) (w.stack (Worker p 0)).top) (w.stack (Worker p 0)).below (run_at (v.stack (Worker p 0)).top) ≡ Some h
event_acts p w (Go q) v h e = at (same_party (Worker p 0) q) refl e
  where
    at : (b : Bool) → same_party (Worker p 0) q ≡ b → (if b then act_happens (act_of q (w.stack q).top) (w.stack q).below (run_at (v.stack q).top) else None) ≡ Some h → act_happens (act_of (Worker p 0) (w.stack (Worker p 0)).top) (w.stack (Worker p 0)).below
        (run_at (v.stack (Worker p 0)).top) ≡ Some h
    at true eb d = subst (λ z. act_happens (act_of z (w.stack z).top) (w.stack z).below (run_at (v.stack z).top) ≡ Some h) (sym (same_party_true (Worker p 0) q eb)) d
    at false eb d = absurd (cc)
event_acts p w _ v h e = absurd (cc)

-- the worker's stack over each step
turned : (w : World) (p : ℕ) (Q : Plan → Type 0) (r : Option ℕ) (q : Party) (to : Stack) → StandsAt Q r (w.stack (Worker p 0)) → (same_party (Worker p 0) q ≡ true → StandsAt Q r to) → StandsAt Q r (put_stack w.stack q to (Worker p 0))
turned w p Q r q to s f = at (same_party (Worker p 0) q) refl
  where
    at : (b : Bool) → same_party (Worker p 0) q ≡ b → StandsAt Q r (if b then to else w.stack (Worker p 0))
    at true e = f e
    at false e = s

abbrev pub Stood : (Plan → Type 0) → World → ℕ → Option ℕ → World → Type 0
Stood Q w p r u = StandsAt Q r (u.stack (Worker p 0))

from_stands : (w : World) (p : ℕ) (Q : Plan → Type 0) (r : Option ℕ) (q : Party) (x : Place) (fs : List Place) (v : ℕ) → StandsAt Q r (w.stack (Worker p 0)) → (same_party (Worker p 0) q ≡ true → Stands Q r x fs) → IfSome (after_choice w q (record { top = x; below = fs }) x v) (Stood Q w p r)
from_stands w p Q r q (PickVictim k) fs v s f = if_cond (Stood Q w p r) (nat_lt v (w.shape.pool (own_pool q)).workers) _ (λ b. turned w p Q r q _ s (λ z. absurd (f z)))
from_stands w p Q r q YieldPick fs v s f = if_cond (Stood Q w p r) (nat_lt v (w.shape.pool (own_pool q)).workers) _ (λ b. turned w p Q r q _ s (λ z. absurd (f z)))
from_stands w p Q r q _ fs v s f = tt

miss_stands : (w : World) (p : ℕ) (Q : Plan → Type 0) (r : Option ℕ) (q : Party) (x : Place) (fs : List Place) → StandsAt Q r (w.stack (Worker p 0)) → (same_party (Worker p 0) q ≡ true → Stands Q r x fs) → IfSome (after_miss w q (record { top = x; below = fs }) x) (Stood Q w p r)
miss_stands w p Q r (Worker a b) (StealFrom k n) fs s f = if_cond (Stood Q w p r) (can_miss w a k.victim) _ (λ z. turned w p Q r (Worker a b) _ s (λ z. absurd (f z)))
miss_stands w p Q r (Worker a b) (YieldSteal v n) fs s f = if_cond (Stood Q w p r) (can_miss w a v) _ (λ z. turned w p Q r (Worker a b) _ s (λ z. absurd (f z)))
miss_stands w p Q r _ _ fs s f = tt

refusable_calm : (x : Place) → is_refusable x ≡ true → (is_start x ≡ false) × (turns_thief x ≡ false)
refusable_calm (GrowCall n) e = (refl, refl)
refusable_calm (PushJob n v) e = (refl, refl)
refusable_calm (AddToFifo f) e = (refl, refl)
refusable_calm (GrowScope o) e = (refl, refl)
refusable_calm (OpenSlot x) e = (refl, refl)
refusable_calm (PushToken f v) e = (refl, refl)
refusable_calm (PushForAll c) e = (refl, refl)
refusable_calm (OpenForAll c) e = (refl, refl)
refusable_calm (GrowCast g) e = (refl, refl)
refusable_calm (DealPieces g) e = (refl, refl)
refusable_calm _ e = absurd (cc)

refuse_stands : (w : World) (p : ℕ) (Q : Plan → Type 0) (r : Option ℕ) (q : Party) → StandsAt Q r (w.stack (Worker p 0)) → (same_party (Worker p 0) q ≡ true → StandsAt Q r (w.stack q)) → IfSome (after_refusal w q (w.stack q)) (Stood Q w p r)
refuse_stands w p Q r q s f = if_cond (Stood Q w p r) (is_refusable (w.stack q).top) _
    (λ b. turned w p Q r q _ s (λ z. stands_next Q (w.shape.pool (own_pool q)) q (w.stack q).top Refused r (w.stack q).below (f z) ((refusable_calm (w.stack q).top b).0) (λ y. absurd (let k : turns_thief (w.stack q).top ≡ false = (refusable_calm (w.stack q).top b).1 in cc))))

end_stands : (w : World) (p : ℕ) (Q : Plan → Type 0) (r : Option ℕ) (q : Party) (d : Ending) (x : Place) (fs : List Place) → StandsAt Q r (w.stack (Worker p 0)) → (same_party (Worker p 0) q ≡ true → Stands Q r x fs) → IfSome (after_end w q d (record { top = x; below = fs }) x) (Stood Q w p r)
end_stands w p Q r q d (Run t k) fs s f = turned w p Q r q _ s (λ z. stands_closed Q r t k d fs ((f z).1))
end_stands w p Q r q d _ fs s f = tt

free_above : (Q : Plan → Type 0) (r : Option ℕ) (x : Place) (fs : List Place) → is_free x ≡ true → Stands Q r x fs → Above r (x ∷ fs)
free_above Q r (Run t k) fs e s = s
free_above Q r Free fs e s = absurd s
free_above Q r _ fs e s = absurd (cc)

and_left : (a b : Bool) → (a && b) ≡ true → a ≡ true
and_left true b e = refl
and_left false b e = cc

-- an event of another party
never : (b : Bool) → b ≡ false → b ≡ true → ⊥
never true e f = cc
never false e f = cc

-- a party that makes a call which is one of these
called : (w : World) (p : ℕ) (Q : Plan → Type 0) (r : Option ℕ) (q : Party) (n : Plan) → StandsAt Q r (w.stack (Worker p 0)) → is_free ((w.stack q).top) ≡ true → (same_party (Worker p 0) q ≡ true → Q n × IsLight n)
    → StandsAt Q r (put_stack w.stack q (after_call (w.stack q) (RaiseCount n)) (Worker p 0))
called w p Q r q n s free f = turned w p Q r q (after_call (w.stack q) (RaiseCount n)) s (λ z. (f z, free_above Q r (w.stack q).top (w.stack q).below free (subst (λ y. StandsAt Q r (w.stack y)) (same_party_true (Worker p 0) q z) s)))

-- what a spawn of the worker may be
abbrev pub Spawns : (Plan → Type 0) → ℕ → World → Event → Type 0
Spawns Q p w (Spawn q n) = same_party (Worker p 0) q ≡ true → Q (Detach n w.jobs)
Spawns Q p w (Fifo q n) = same_party (Worker p 0) q ≡ true → (n ≡ p) × Q (Feed (record { count = OfPool p; pool = p; job = w.jobs; token = w.jobs + 1 }))
Spawns Q p w (IntoSpawn q n) = same_party (Worker p 0) q ≡ true → (z : Scope) → slice_get w.scopes n ≡ Some z → Q (Enter (record { call = z.call; owner = z.owner; pool = z.pool; job = w.jobs }))
Spawns Q p w (IntoFifo q n) = same_party (Worker p 0) q ≡ true → (z : Scope) → slice_get w.scopes n ≡ Some z → (z.pool ≡ p) × Q (Feed (record { count = OfScope z.call z.owner; pool = z.pool; job = w.jobs; token = w.jobs + 1 }))
Spawns Q p w (Install q n) = same_party (Worker p 0) q ≡ false
Spawns Q p w (Join q) = same_party (Worker p 0) q ≡ false
Spawns Q p w (Cast q n) = same_party (Worker p 0) q ≡ false
Spawns Q p w (IntoCast q n) = same_party (Worker p 0) q ≡ false
Spawns Q p w (Broadcast q n) = same_party (Worker p 0) q ≡ false
Spawns Q p w (OpenScope q n) = same_party (Worker p 0) q ≡ false
Spawns Q p w (Yield q) = same_party (Worker p 0) q ≡ false
Spawns Q p w (YieldLocal q) = same_party (Worker p 0) q ≡ false
Spawns Q p w (EndPool q n) = same_party (Worker p 0) q ≡ false
Spawns Q p w _ = ⊤

spawn_stands : (w : World) (p : ℕ) (Q : Plan → Type 0) (r : Option ℕ) (q : Party) (n : ℕ) → StandsAt Q r (w.stack (Worker p 0)) → (same_party (Worker p 0) q ≡ true → Q (Detach n w.jobs)) → IfSome (after_spawn w q n (w.stack q)) (Stood Q w p r)
spawn_stands w p Q r q n s f = if_cond (Stood Q w p r) (is_free ((w.stack q).top) && is_pool w.shape n) _ (λ b. called w p Q r q (Detach n w.jobs) s (and_left (is_free ((w.stack q).top)) (is_pool w.shape n) b) (λ z. (f z, tt)))

enter_stands : (w : World) (p : ℕ) (Q : Plan → Type 0) (r : Option ℕ) (q : Party) (i : Scope) → StandsAt Q r (w.stack (Worker p 0)) → is_free ((w.stack q).top) ≡ true → (same_party (Worker p 0) q ≡ true → Q (Enter (record { call = i.call; owner = i.owner; pool = i.pool; job = w.jobs })))
    → IfSome (after_enter w q (w.stack q) (Some i)) (Stood Q w p r)
enter_stands w p Q r q i s free f = if_cond (Stood Q w p r) (is_free ((w.stack q).top) && holds i.call (w.stack q)) _ (λ b. called w p Q r q (Enter (record { call = i.call; owner = i.owner; pool = i.pool; job = w.jobs })) s free (λ z. (f z, tt)))

into_stands : (w : World) (p : ℕ) (Q : Plan → Type 0) (r : Option ℕ) (q : Party) (n : ℕ) → StandsAt Q r (w.stack (Worker p 0)) → Spawns Q p w (IntoSpawn q n) → IfSome (after_into w q n (w.stack q)) (Stood Q w p r)
into_stands w p Q r q n s f = into_cases (Stood Q w p r) w q n (λ i e free held. enter_stands w p Q r q i s free (λ z. f z i e))

fed_stands : (w : World) (p : ℕ) (Q : Plan → Type 0) (r : Option ℕ) (k : Count) (m i : ℕ) → StandsAt Q r (w.stack (Worker p 0)) → is_free ((w.stack (Worker m i)).top) ≡ true
    → (same_party (Worker p 0) (Worker m i) ≡ true → Q (Feed (record { count = k; pool = m; job = w.jobs; token = w.jobs + 1 }))) → Stood Q w p r (after_feed w k m i (w.stack (Worker m i)))
fed_stands w p Q r k m i s free f = called w p Q r (Worker m i) (Feed (record { count = k; pool = m; job = w.jobs; token = w.jobs + 1 })) s free (λ z. (f z, tt))

fifo_stands : (w : World) (p : ℕ) (Q : Plan → Type 0) (r : Option ℕ) (q : Party) (n : ℕ) → StandsAt Q r (w.stack (Worker p 0)) → Spawns Q p w (Fifo q n) → IfSome (after_fifo w q n (w.stack q)) (Stood Q w p r)
fifo_stands w p Q r (Caller c) n s f = spawn_stands w p Q r (Caller c) n s (λ z. absurd (cc))
fifo_stands w p Q r (Worker m i) n s f = by (m == n) refl
  where
    by : (z : Bool) → (m == n) ≡ z → IfSome (if z then (if is_free ((w.stack (Worker m i)).top) && is_pool w.shape n then Some (after_feed w (OfPool n) n i (w.stack (Worker m i))) else None) else after_spawn w (Worker m i) n (w.stack (Worker m i))) (Stood Q w p r)
    by true e = subst (λ k. IfSome (if is_free ((w.stack (Worker k i)).top) && is_pool w.shape n then Some (after_feed w (OfPool n) n i (w.stack (Worker k i))) else None) (Stood Q w p r)) (sym (eqb-true m n e))
        (if_cond (Stood Q w p r) (is_free ((w.stack (Worker n i)).top) && is_pool w.shape n) _
        (λ b. fed_stands w p Q r (OfPool n) n i s (and_left (is_free ((w.stack (Worker n i)).top)) (is_pool w.shape n) b)
        (λ z. (let g : (n ≡ p) × Q (Feed (record { count = OfPool p; pool = p; job = w.jobs; token = w.jobs + 1 })) = f (ap (λ k. same_party (Worker p 0) (Worker k i)) (eqb-true m n e) ∙ z) in
        subst (λ k. Q (Feed (record { count = OfPool k; pool = k; job = w.jobs; token = w.jobs + 1 }))) (sym (g.0)) (g.1)))))
    by false e = spawn_stands w p Q r (Worker m i) n s (λ z. absurd (let g : n ≡ p = (f z).0 in let same : Worker p 0 ≡ Worker m i = same_party_true (Worker p 0) (Worker m i) z in let k : m ≡ p = ap own_pool (sym same) in let d : (m == n) ≡ true = eq-eqb m n (k ∙ sym g) in cc))

into_fifo_stands : (w : World) (p : ℕ) (Q : Plan → Type 0) (r : Option ℕ) (q : Party) (n : ℕ) → StandsAt Q r (w.stack (Worker p 0)) → Spawns Q p w (IntoFifo q n) → IfSome (after_into_fifo w q n (w.stack q)) (Stood Q w p r)
into_fifo_stands w p Q r q n s f = by q f (slice_get w.scopes n) refl
  where
    by : (q : Party) → Spawns Q p w (IntoFifo q n) → (o : Option Scope) → slice_get w.scopes n ≡ o → IfSome (after_enter_fifo w q (w.stack q) o) (Stood Q w p r)
    by q f None e = tt
    by (Caller c) f (Some i) e = if_cond (Stood Q w p r) (is_free ((w.stack (Caller c)).top) && holds i.call (w.stack (Caller c))) _
        (λ b. called w p Q r (Caller c) (Enter (record { call = i.call; owner = i.owner; pool = i.pool; job = w.jobs })) s (and_left (is_free ((w.stack (Caller c)).top)) (holds i.call (w.stack (Caller c))) b) (λ z. absurd (cc)))
    by (Worker m j) f (Some i) e = at (m == i.pool) refl
      where
        at : (z : Bool) → (m == i.pool) ≡ z → IfSome (if z then (if is_free ((w.stack (Worker m j)).top) && holds i.call (w.stack (Worker m j)) then Some (after_feed w (OfScope i.call i.owner) i.pool j (w.stack (Worker m j))) else None) else after_enter w (Worker m j)
            (w.stack (Worker m j)) (Some i)) (Stood Q w p r)
        at true d = subst (λ k. IfSome (if is_free ((w.stack (Worker k j)).top) && holds i.call (w.stack (Worker k j)) then Some (after_feed w (OfScope i.call i.owner) i.pool j (w.stack (Worker k j))) else None) (Stood Q w p r)) (sym (eqb-true m i.pool d))
            (if_cond (Stood Q w p r) (is_free ((w.stack (Worker i.pool j)).top) && holds i.call (w.stack (Worker i.pool j))) _
            (λ b. fed_stands w p Q r (OfScope i.call i.owner) i.pool j s (and_left (is_free ((w.stack (Worker i.pool j)).top)) (holds i.call (w.stack (Worker i.pool j))) b) (λ z. (f (ap (λ k. same_party (Worker p 0) (Worker k j)) (eqb-true m i.pool d) ∙ z) i e).1)))
        at false d = if_cond (Stood Q w p r) (is_free ((w.stack (Worker m j)).top) && holds i.call (w.stack (Worker m j))) _
            (λ b. called w p Q r (Worker m j) (Enter (record { call = i.call; owner = i.owner; pool = i.pool; job = w.jobs })) s (and_left (is_free ((w.stack (Worker m j)).top)) (holds i.call (w.stack (Worker m j))) b)
            (λ z. absurd (let g : i.pool ≡ p = (f z i e).0 in let same : Worker p 0 ≡ Worker m j = same_party_true (Worker p 0) (Worker m j) z in let k : m ≡ p = ap own_pool (sym same) in let y : (m == i.pool) ≡ true = eq-eqb m i.pool (k ∙ sym g) in cc)))

-- another party's call
other_stands : (w : World) (p : ℕ) (Q : Plan → Type 0) (r : Option ℕ) (q : Party) (to : Stack) → StandsAt Q r (w.stack (Worker p 0)) → same_party (Worker p 0) q ≡ false → StandsAt Q r (put_stack w.stack q to (Worker p 0))
other_stands w p Q r q to s c = turned w p Q r q to s (λ z. absurd (never (same_party (Worker p 0) q) c z))

sent_stands : (w : World) (p : ℕ) (Q : Plan → Type 0) (r : Option ℕ) (q : Party) (n : ℕ) (b : Bool) → StandsAt Q r (w.stack (Worker p 0)) → same_party (Worker p 0) q ≡ false → Stood Q w p r (after_send w q n (w.stack q) b)
sent_stands w p Q r q n true s c = other_stands w p Q r q _ s c
sent_stands w p Q r q n false s c = other_stands w p Q r q _ s c

join_stands : (w : World) (p : ℕ) (Q : Plan → Type 0) (r : Option ℕ) (q : Party) → StandsAt Q r (w.stack (Worker p 0)) → same_party (Worker p 0) q ≡ false → IfSome (after_join w q (w.stack q)) (Stood Q w p r)
join_stands w p Q r (Worker a b) s c = if_cond (Stood Q w p r) (is_free (w.stack (Worker a b)).top) _ (λ y. other_stands w p Q r (Worker a b) _ s c)
join_stands w p Q r (Caller n) s c = tt

yield_stands : (w : World) (p : ℕ) (Q : Plan → Type 0) (r : Option ℕ) (q : Party) (x : Place) → StandsAt Q r (w.stack (Worker p 0)) → same_party (Worker p 0) q ≡ false → IfSome (after_yield w q (w.stack q) x) (Stood Q w p r)
yield_stands w p Q r (Worker a b) x s c = if_cond (Stood Q w p r) (is_free (w.stack (Worker a b)).top) _ (λ y. other_stands w p Q r (Worker a b) _ s c)
yield_stands w p Q r (Caller n) x s c = tt

run_same : (q : Party) (x : Place) (fs : List Place) (r o : Option ℕ) → is_start x ≡ false → next_run r (act_happens (act_of q x) fs o) ≡ r
run_same q x fs r o z = elim (either (is_push x)) [
  | inl y ↦ at x y
  | inr y ↦ elim (either (is_line x)) [
    | inl l ↦ line x l
    | inr l ↦ ap (next_run r) (silent q x fs o y z l)
  ]
]
  where
    by_act : (n : Plan) (b : Bool) → next_run r (act_happens (if b then PushOwn (plan_job n) (plan_book n) else PushInj (plan_pool n) (plan_job n) (plan_book n)) fs o) ≡ r
    by_act n true = refl
    by_act n false = refl

    mine : (q : Party) (n : Plan) (v : Bool) → next_run r (act_happens (act_of q (PushJob n v)) fs o) ≡ r
    mine (Worker a b) n v = by_act n (a == plan_pool n)
    mine (Caller c) n v = refl

    token : (q : Party) (f : Feeding) (v : Bool) → next_run r (act_happens (act_of q (PushToken f v)) fs o) ≡ r
    token (Worker a b) f v = refl
    token (Caller c) f v = refl

    at : (x : Place) → is_push x ≡ true → next_run r (act_happens (act_of q x) fs o) ≡ r
    at (PushJob n v) y = mine q n v
    at (PushToken f v) y = token q f v
    at _ y = absurd (cc)

    added : (q : Party) (f : Feeding) → next_run r (act_happens (act_of q (AddToFifo f)) fs o) ≡ r
    added (Worker a b) f = refl
    added (Caller c) f = refl

    retaken : (q : Party) (f : Feeding) → next_run r (act_happens (act_of q (TakeFromFifo f)) fs o) ≡ r
    retaken (Worker a b) f = refl
    retaken (Caller c) f = refl

    line : (x : Place) → is_line x ≡ true → next_run r (act_happens (act_of q x) fs o) ≡ r
    line (AddToFifo f) y = added q f
    line (TakeFromFifo f) y = retaken q f
    line _ y = absurd (cc)

-- after its own act
abbrev OwnStands : (Plan → Type 0) → World → ℕ → Place → List Place → Option ℕ → Seen × Part → Type 0
OwnStands Q w p x fs r d = StandsAt Q (next_run r (act_happens (act_of (Worker p 0) x) fs (run_at (after_move (next_at w (Worker p 0) (record { top = x; below = fs }) (d.0)) fs).top))) (after_move (next_at w (Worker p 0) (record { top = x; below = fs }) (d.0)) fs)

-- a token that gave no job leads back
base_run : (fs : List Place) → AllBase fs → run_at (back fs).top ≡ None
base_run [] a = refl
base_run (ProbeWorking k ∷ fs) a = refl
base_run (_ ∷ fs) a = absurd (a.0)

begin_stands : (w : World) (p : ℕ) (Q : Plan → Type 0) (x : Place) (fs : List Place) (r : Option ℕ) → is_start x ≡ true → Stands Q r x fs → IfSome (outcome w (Worker p 0) (record { top = x; below = fs })) (OwnStands Q w p x fs r)
begin_stands w p Q (BeginTask (Token k i c)) fs r z a = out_sees (OwnStands Q w p (BeginTask (Token k i c)) fs r) (Worker p 0) (part_of w p i 0 (or_none (head_of ((w.seat p i).fifo c)))) c
    (subst (λ o. StandsAt Q (next_run r (Some (Redeems k c o))) (back fs)) (sym (base_run fs a)) (back_base Q r fs a))
    (λ u us e. (refl, a))
begin_stands w p Q (BeginTask (Plain t)) fs r z a = stands_begun Q (w.shape.pool p) (Worker p 0) t (w.job t).kind r fs a
begin_stands w p Q (BeginHere t) fs r z a = absurd a
begin_stands w p Q _ fs r z a = absurd (cc)

own_stands : (w : World) (p : ℕ) (Q : Plan → Type 0) (x : Place) (fs : List Place) (r : Option ℕ) → (w.shape.pool p).workers ≡ 1 → Stands Q r x fs → IfSome (outcome w (Worker p 0) (record { top = x; below = fs })) (OwnStands Q w p x fs r)
own_stands w p Q x fs r one s = elim (either (is_start x)) [
  | inl z ↦ begin_stands w p Q x fs r z s
  | inr z ↦ if_some_all {A = Seen × Part} (OwnStands Q w p x fs r)
      (λ d. subst (λ n. StandsAt Q n (after_move (next_at w (Worker p 0) (record { top = x; below = fs }) (d.0)) fs)) (sym (run_same (Worker p 0) x fs r (run_at (after_move (next_at w (Worker p 0) (record { top = x; below = fs }) (d.0)) fs).top) z))
      (stands_next Q (shape_at w (Worker p 0) (record { top = x; below = fs })) (Worker p 0) x (d.0) r fs s z (λ y. ap (λ n. (w.shape.pool n).workers) (turn_target p 0 x y) ∙ one))) (outcome w (Worker p 0) (record { top = x; below = fs }))
]

abbrev After : (Plan → Type 0) → World → Event → ℕ → Option ℕ → World → Type 0
After Q w e p r u = Stood Q w p (next_run r (happening p w e u)) u

go_stands : (w : World) (q : Party) (p : ℕ) (Q : Plan → Type 0) (r : Option ℕ) (b : Bool) → same_party (Worker p 0) q ≡ b → (w.shape.pool p).workers ≡ 1 → StandsAt Q r (w.stack (Worker p 0)) → IfSome (outcome w q (w.stack q))
    (λ d. StandsAt Q (next_run r (if b then act_happens (act_of q (w.stack q).top) (w.stack q).below (runs_after w q d) else None)) (if b then after_move (next_at w q (w.stack q) (d.0)) (w.stack q).below else w.stack (Worker p 0)))
go_stands w q p Q r true eb one s =
    let me : Party = Worker p 0 in
    let F : Party → Type 0 = λ z. IfSome (outcome w z (w.stack z)) (λ d. StandsAt Q (next_run r (act_happens (act_of z (w.stack z).top) (w.stack z).below (runs_after w z d))) (after_move (next_at w z (w.stack z) (d.0)) (w.stack z).below)) in
    let base : F me = if_some_map {A = Seen × Part} (OwnStands Q w p (w.stack me).top (w.stack me).below r) (λ d. StandsAt Q (next_run r (act_happens (act_of me (w.stack me).top) (w.stack me).below (runs_after w me d))) (after_move (next_at w me (w.stack me) (d.0)) (w.stack me).below))
    (λ d h. subst (λ k. StandsAt Q (next_run r (act_happens (act_of me (w.stack me).top) (w.stack me).below (run_at k.top))) (after_move (next_at w me (w.stack me) (d.0)) (w.stack me).below)) (sym (stack_mine w.stack me (after_move (next_at w me (w.stack me) (d.0)) (w.stack me).below))) h)
    (outcome w me (w.stack me)) (own_stands w p Q (w.stack me).top (w.stack me).below r one s) in
    subst F (same_party_true me q eb) base
go_stands w q p Q r false eb one s = if_some_all {A = Seen × Part} (λ d. StandsAt Q r (w.stack (Worker p 0))) (λ d. s) (outcome w q (w.stack q))

-- an event that is no act
still : (w : World) (e : Event) (p : ℕ) (Q : Plan → Type 0) (r : Option ℕ) → is_act e ≡ false → IfSome (step w e) (Stood Q w p r) → IfSome (step w e) (After Q w e p r)
still w e p Q r n k = if_some_map (Stood Q w p r) (After Q w e p r) (λ u h. subst (λ z. Stood Q w p (next_run r z) u) (sym (nothing p w e u n)) h) (step w e) k

pub step_stands : (w : World) (e : Event) (p : ℕ) (Q : Plan → Type 0) (r : Option ℕ) → (w.shape.pool p).workers ≡ 1 → Spawns Q p w e → StandsAt Q r (w.stack (Worker p 0)) → IfSome (step w e) (After Q w e p r)
step_stands w (Go q) p Q r one calm s = acted_keeps w q (w.stack q) (target_pool q (act_of q (w.stack q).top)) (target_worker q (act_of q (w.stack q).top)) (target_call (act_of q (w.stack q).top)) (job_at w q (act_of q (w.stack q).top)) (outcome w q (w.stack q)) (After Q w (Go q) p r)
    (go_stands w q p Q r (same_party (Worker p 0) q) refl one s)
step_stands w (From q v) p Q r one calm s = still w (From q v) p Q r refl (from_stands w p Q r q (w.stack q).top (w.stack q).below v s (λ z. subst (λ y. StandsAt Q r (w.stack y)) (same_party_true (Worker p 0) q z) s))
step_stands w (Refuse q) p Q r one calm s = still w (Refuse q) p Q r refl (refuse_stands w p Q r q s (λ z. subst (λ y. StandsAt Q r (w.stack y)) (same_party_true (Worker p 0) q z) s))
step_stands w (Miss q) p Q r one calm s = still w (Miss q) p Q r refl (miss_stands w p Q r q (w.stack q).top (w.stack q).below s (λ z. subst (λ y. StandsAt Q r (w.stack y)) (same_party_true (Worker p 0) q z) s))
step_stands w (End q d) p Q r one calm s = still w (End q d) p Q r refl (end_stands w p Q r q d (w.stack q).top (w.stack q).below s (λ z. subst (λ y. StandsAt Q r (w.stack y)) (same_party_true (Worker p 0) q z) s))
step_stands w (Spawn q n) p Q r one calm s = still w (Spawn q n) p Q r refl (spawn_stands w p Q r q n s calm)
step_stands w (Fifo q n) p Q r one calm s = still w (Fifo q n) p Q r refl (fifo_stands w p Q r q n s calm)
step_stands w (Cast q n) p Q r one calm s = still w (Cast q n) p Q r refl (if_cond (Stood Q w p r) (is_free ((w.stack q).top) && is_pool w.shape n) _ (λ b. other_stands w p Q r q _ s calm))
step_stands w (Install q n) p Q r one calm s = still w (Install q n) p Q r refl (if_cond (Stood Q w p r) (is_free ((w.stack q).top) && is_pool w.shape n) _ (λ b. sent_stands w p Q r q n (is_member q n) s calm))
step_stands w (Join q) p Q r one calm s = still w (Join q) p Q r refl (join_stands w p Q r q s calm)
step_stands w (OpenScope q n) p Q r one calm s = still w (OpenScope q n) p Q r refl (if_cond (Stood Q w p r) (is_free ((w.stack q).top) && is_pool w.shape n) _ (λ b. other_stands w p Q r q _ s calm))
step_stands w (IntoSpawn q n) p Q r one calm s = still w (IntoSpawn q n) p Q r refl (into_stands w p Q r q n s calm)
step_stands w (IntoFifo q n) p Q r one calm s = still w (IntoFifo q n) p Q r refl (into_fifo_stands w p Q r q n s calm)
step_stands w (IntoCast q n) p Q r one calm s = still w (IntoCast q n) p Q r refl (into_cast_cases (Stood Q w p r) w q n (λ i e free held. other_stands w p Q r q _ s calm))
step_stands w (Broadcast q n) p Q r one calm s = still w (Broadcast q n) p Q r refl (if_cond (Stood Q w p r) (is_free ((w.stack q).top) && is_pool w.shape n) _ (λ b. other_stands w p Q r q _ s calm))
step_stands w (Yield q) p Q r one calm s = still w (Yield q) p Q r refl (yield_stands w p Q r q YieldPop s calm)
step_stands w (YieldLocal q) p Q r one calm s = still w (YieldLocal q) p Q r refl (yield_stands w p Q r q LocalPop s calm)
step_stands w (EndPool q n) p Q r one calm s = still w (EndPool q n) p Q r refl (if_cond (Stood Q w p r) (is_free ((w.stack q).top) && (is_pool w.shape n && (w.pool n).held)) _ (λ b. other_stands w p Q r q _ s calm))
