-- a worker that is alone in its pool, and makes no call but spawns in order for one of its FIFO lists, begins jobs
-- level by level
--
-- The law is `level_law`; `level_step` says that each step keeps to the list.
use Rattle.std.proofs.Common.{arith, refl, sym, ◌∙◌, ap, subst, inl, inr, ◌≢◌}
use Rattle.rayon_machine_orders.proofs.Words.{ℕ, Bool, true, false, not, ◌&&◌, ◌+◌, ◌==◌, ◌≤◌, ◌<◌, nat_lt, if◌then◌else◌, Option, Some, None, List, [], ◌∷◌, ◌++◌, ◌≡◌, ◌⊎◌, ⊤, IfSome, length, slice_get, eqb-true, eq-eqb, ltb-true, ltb-false, ltb, Order, OldestFirst, Feeding, JobKind, TokenOf}
use Rattle.rayon_machine_orders.proofs.Words.{Party, Worker, Caller, Place, AddToFifo, BeginHere, BeginTask, LeaveSearch, LockToSettle, LockToWake, LookForToken, LowerCount, PushJob, PushToken, Run, SetLatch, SetLockLatch, TakeFromFifo, UnlockSettled, UnlockWoken, WakeSettled, WakeWorker, Act}
use Rattle.rayon_machine_orders.proofs.Words.{Begin, FifoIn, FifoOut, FifoUndo, PushOwn, Plan, Feed, Taken, Plain, Token, Event, Go, From, Refuse, Miss, End, Spawn, Fifo, Install, Join, Yield, YieldLocal, EndPool, Cast, OpenScope, IntoSpawn, IntoFifo, IntoCast, Broadcast, Scope, Nowhere}
use Rattle.rayon_machine_orders.proofs.Words.{same_party, act_of, count_book, taken_number, Shape, World, but_last, same_list, taken_as, step, IsRun, start, one, run_of, times, worked, IsRunWithout, Happening, Adds, Queues, Retakes, Begins, Redeems, act_happens, happening, happened, and_next}
use Rattle.rayon_machine_orders.proofs.Words.{happenings, Hands, IsWalk, in_line, Changes, Joins, Leaves, Comes, run_at}
use Rattle.rayon_machine_laws.specs.Once.{IsOnce, runs_with}
use Rattle.rayon_machine_laws.proofs.ClaimMakes.{always_once}
use Rattle.rayon_machine_laws.proofs.ClaimRuns.{CallsHold}
use Rattle.rayon_machine_laws.proofs.Claims.{Says}
use Rattle.rayon_machine_laws.proofs.Frame.{and_parts, either, same_list_refl, same_list_true}
use Rattle.rayon_machine_laws.proofs.Hands.{hand, held, held_in}
use Rattle.rayon_machine_laws.proofs.Located.{Deck, Hand, Loc, is_loc, loc_at, loc_of}
use Rattle.rayon_machine_laws.proofs.PlacedRuns.{JobsHold}
use Rattle.rayon_machine_orders.specs.Order.{caller_of, AreTokens, LevelLaw, is_of_list, is_unlisted, stays}
use Rattle.rayon_machine_orders.proofs.Dealing.{Deals, kinds}
use Rattle.rayon_machine_orders.proofs.Dealt.{elsewhere, is_push}
use Rattle.rayon_machine_orders.proofs.Handed.{Reached, reach_on, reached_calls, reached_jobs, reached_lists, reached_shape, in_line_once, none_some, some_same, taken_once, deals_on}
use Rattle.rayon_machine_orders.proofs.Kinded.{KindsOn, step_kinds}
use Rattle.rayon_machine_orders.proofs.Lined.{Lined, lined_on, told}
use Rattle.rayon_machine_orders.proofs.Lone.{taken}
use Rattle.rayon_machine_orders.proofs.Standing.{IsSpawn, Stands, StandsAt, above_caller, stands_emptied}
use Rattle.rayon_machine_orders.proofs.Stocking.{Full, Unpushed, full_step, grasped, tokens, unpushed}
use Rattle.rayon_machine_orders.proofs.Unpushed.{Owed, step_owes}
use Rattle.rayon_machine_orders.proofs.Walked.{Spawns, Stood, adds_push, adds_hand, event_acts, next_run, queues_place, step_stands, token_adds}
use Rattle.rayon_machine_orders.proofs.Walking.{absent_run, begun_step}
use Rattle.rayon_machine_orders.proofs.Walks.{Absent, Grown, Orderly, grown, hands_times}

-- a number that stands somewhere has been given out
made : (w : World) (l : Loc) (t : ℕ) → JobsHold w → 1 ≤ is_loc l (loc_at (w.job t)) → t + 1 ≤ w.jobs
made w l t h e = elim (either (ltb t w.jobs)) [
  | inl y ↦ (let k : t < w.jobs = ltb-true t w.jobs y in omega (arith, k))
  | inr y ↦ absurd (let k : w.jobs ≤ t = ltb-false t w.jobs y in let n : is_loc l (loc_at (w.job t)) ≡ 0 = ap (λ v. is_loc l (loc_of v (w.job t).runs)) (h.unmade t k) in omega (arith, n, e))
]

own_made : (w : World) (p i t : ℕ) → JobsHold w → 1 ≤ times t (w.seat p i).own → t + 1 ≤ w.jobs
own_made w p i t h e = made w (Deck p i) t h (let a : times t (w.seat p i).own ≡ is_loc (Deck p i) (loc_at (w.job t)) = ((h.ok).placed) (Deck p i) t in omega (arith, a, e))

hand_made : (w : World) (q : Party) (t : ℕ) → JobsHold w → 1 ≤ hand t (w.stack q).top → t + 1 ≤ w.jobs
hand_made w q t h e = made w (Hand q) t h (let a : held t (w.stack q) ≡ is_loc (Hand q) (loc_at (w.job t)) = ((h.ok).placed) (Hand q) t in omega (arith, a, e))

-- what each step of a run gives
kinds_on : (w v : World) (e : Event) → step w e ≡ Some v → KindsOn w v
kinds_on w v e s = let k : IfSome (Some v) (KindsOn w) = subst (λ o. IfSome o (KindsOn w)) s (step_kinds w e) in k

own_kinds : (w v : World) (p : ℕ) (e : Event) → JobsHold w → step w e ≡ Some v → (t : ℕ) → 1 ≤ times t (w.seat p 0).own → (v.job t).kind ≡ (w.job t).kind
own_kinds w v p e h s t l = kinds_on w v e s t (own_made w p 0 t h l)

added_kinds : (w v : World) (p : ℕ) (e : Event) → CallsHold w → step w e ≡ Some v → (by : Option ℕ) (t : ℕ) → happening p w e v ≡ Some (Adds by t) → (v.job t).kind ≡ (w.job t).kind
added_kinds w v p e c s by t d = kinds_on w v e s t (hand_made w (Worker p 0) t c.jobs (adds_hand w (Worker p 0) (w.stack (Worker p 0)).top (w.stack (Worker p 0)).below (run_at (v.stack (Worker p 0)).top) by t ((c.says (Worker p 0)).top) (event_acts p w e v (Adds by t) d)))

owed_on : (h : Shape) (p : ℕ) (b : Option ℕ) (w v : World) (e : Event) → Reached h w → step w e ≡ Some v → Owed p b w e v
owed_on h p b w v e r s = let k : IfSome (Some v) (Owed p b w e) = subst (λ o. IfSome o (Owed p b w e)) s (step_owes w e p b ((reached_lists h w r).frames) (((reached_calls h w r).says (Worker p 0)).top)) in k

full_on : (h : Shape) (p : ℕ) (b : Option ℕ) → (h.pool p).workers ≡ 1 → (w v : World) (e : Event) → Reached h w → step w e ≡ Some v → Full p b w → Full p b v
full_on h p b one w v e r s f = full_step (h.pool p).order p b w v (happening p w e v) (deals_on h p one w v e r s) (lined_on h p one w v e r.events r.run s) (own_kinds w v p e (reached_jobs h w r) s) (added_kinds w v p e (reached_calls h w r) s) (owed_on h p b w v e r s) f

full_run : (h : Shape) (p : ℕ) (b : Option ℕ) → (h.pool p).workers ≡ 1 → (w u : World) (es : List Event) → Reached h w → Full p b w → IsRun w es u → Full p b u
full_run h p b one w u [] r f e = subst (Full p b) (sym e) f
full_run h p b one w u (e ∷ es) r f (v, s, rest) = full_run h p b one v u es (reach_on h w v e r s) (full_on h p b one w v e r s f) rest

always_full : (h : Shape) (p : ℕ) (b : Option ℕ) → (h.pool p).workers ≡ 1 → (w : World) → Reached h w → Full p b w
always_full h p b one w r = full_run h p b one (start h) w r.events (record { events = []; run = refl }) (omega arith) r.run

-- the spawns in order for list b
abbrev IsFed : Option ℕ → Plan → Type 0
IsFed b (Feed f) = count_book f.count ≡ b
IsFed b _ = ⊥

not_both : (z : Bool) → z ≡ false → z ≡ true → ⊥
not_both true e f = cc
not_both false e f = cc

listed : (x y : Bool) → (x && not y) ≡ false → x ≡ true → y ≡ true
listed true true e f = refl
listed true false e f = cc
listed false y e f = cc

fed : (p : ℕ) (b : Option ℕ) (w : World) (e : Event) → is_unlisted p b w e ≡ false → Spawns (IsFed b) p w e
fed p b w (Go q) c = tt
fed p b w (From q v) c = tt
fed p b w (Refuse q) c = tt
fed p b w (Miss q) c = tt
fed p b w (End q d) c = tt
fed p b w (Fifo q n) c = λ z. (let k : ((n == p) ≡ true) × (same_list b None ≡ true) = and_parts (n == p) (same_list b None) (listed (same_party (Worker p 0) q) ((n == p) && same_list b None) c z) in (eqb-true n p (k.0), sym (same_list_true b None (k.1))))
fed p b w (IntoFifo q n) c = λ z i e. of i (subst (λ o. is_of_list p b o ≡ true) e (listed (same_party (Worker p 0) q) (is_of_list p b (slice_get w.scopes n)) c z))
  where
    of : (i : Scope) → is_of_list p b (Some i) ≡ true → (i.pool ≡ p) × (Some i.call ≡ b)
    of i d = let k : ((i.pool == p) ≡ true) × (same_list b (Some i.call) ≡ true) = and_parts (i.pool == p) (same_list b (Some i.call)) d in (eqb-true i.pool p (k.0), sym (same_list_true b (Some i.call) (k.1)))
fed p b w (Spawn q n) c = λ z. absurd (not_both (same_party (Worker p 0) q) c z)
fed p b w (IntoSpawn q n) c = λ z i e. absurd (not_both (same_party (Worker p 0) q) c z)
fed p b w _ c = c

-- what the worker pushes is a token of the list, and what it adds to the list is added by the run that began last
pushes : (b : Option ℕ) (w : World) (p : ℕ) (x : Place) (fs : List Place) (r o by : Option ℕ) (t : ℕ) → Says w (Worker p 0) x → Stands (IsFed b) r x fs → act_happens (act_of (Worker p 0) x) fs o ≡ Some (Adds by t) → (w.job t).kind ≡ TokenOf 0 b
pushes b w p x fs r o by t says st e = at x says st e (adds_push (Worker p 0) x fs o by t e)
  where
    at : (x : Place) → Says w (Worker p 0) x → Stands (IsFed b) r x fs → act_happens (act_of (Worker p 0) x) fs o ≡ Some (Adds by t) → is_push x ≡ true → (w.job t).kind ≡ TokenOf 0 b
    at (PushJob n v) s a d z = absurd (neither n (a.0))
      where
        neither : (n : Plan) → (IsFed b n × IsSpawn n) → ⊥
        neither (Feed f) k = k.1
        neither _ k = k.0
    at (PushToken f v) s a d z = ap (λ u. (w.job u).kind) ((token_adds (Worker p 0) f v fs o by t d).1) ∙ (s.1).kind ∙ ap (TokenOf 0) (a.0)
    at _ s a d z = absurd (cc)

queues_caller : (b : Option ℕ) (p : ℕ) (x : Place) (fs : List Place) (r o c by : Option ℕ) (t : ℕ) → Stands (IsFed b) r x fs → act_happens (act_of (Worker p 0) x) fs o ≡ Some (Queues c by t) → by ≡ r
queues_caller b p x fs r o c by t st e = at (queues_place (Worker p 0) x fs o c by t e)
  where
    at : ((f : Feeding) × (x ≡ AddToFifo f) × (t ≡ f.job) × (c ≡ count_book f.count) × (by ≡ caller_of fs)) → by ≡ r
    at (f, i, j, k, l) = l ∙ above_caller r fs ((subst (λ y. Stands (IsFed b) r y fs) i st).1)

-- the call that is under way: it has added a job that is not yet in the list for good
abbrev Under : Option ℕ → ℕ → List ℕ → World → Option ℕ → List Happening → Type 0
Under b p l w r pre = ((pre ≡ []) × (l ≡ (w.seat p 0).fifo b) × (unpushed b (w.stack (Worker p 0)).top ≡ 0)) ⊎ ((t : ℕ) × (pre ≡ Queues b r t ∷ []) × ((w.seat p 0).fifo b ≡ l ++ t ∷ []) × (unpushed b (w.stack (Worker p 0)).top ≡ 1))

-- what the worker has taken: nothing, or a token of the list, or what came from elsewhere, and then deque and list are
-- empty
abbrev Grasps : Option ℕ → ℕ → World → Type 0
Grasps b p w = (taken (w.stack (Worker p 0)).top ≡ None) ⊎ ((((w.seat p 0).own ≡ []) × ((w.seat p 0).fifo b ≡ [])) ⊎ ((k : ℕ) × (taken (w.stack (Worker p 0)).top ≡ Some (Token k 0 b))))

abbrev Tokens : Option ℕ → ℕ → World → Type 0
Tokens b p w = (t : ℕ) → 1 ≤ times t (w.seat p 0).own → (w.job t).kind ≡ TokenOf 0 b

abbrev Level : Option ℕ → Option ℕ → List ℕ → List Happening → List ℕ → Type 0
Level b r l hs left = Orderly OldestFirst r l (in_line b hs) left

-- how the order goes on at each thing that happens
same_here : (b : Option ℕ) → same_list b b ≡ true
same_here b = same_list_refl b

-- the job stays in the list
stayed : (b r : Option ℕ) (t : ℕ) (hs : List Happening) → stays hs ≡ true → in_line b (Queues b r t ∷ hs) ≡ Adds r t ∷ in_line b hs
stayed b r t hs e = ap (λ z. if z && stays hs then Adds r t ∷ in_line b hs else in_line b hs) (same_here b) ∙ ap (λ z. if z then Adds r t ∷ in_line b hs else in_line b hs) e

went : (b r : Option ℕ) (t : ℕ) (hs : List Happening) → stays hs ≡ false → in_line b (Queues b r t ∷ hs) ≡ in_line b hs
went b r t hs e = ap (λ z. if z && stays hs then Adds r t ∷ in_line b hs else in_line b hs) (same_here b) ∙ ap (λ z. if z then Adds r t ∷ in_line b hs else in_line b hs) e

-- a job of another list
passed : (b c r : Option ℕ) (t : ℕ) (hs : List Happening) → same_list b c ≡ false → in_line b (Queues c r t ∷ hs) ≡ in_line b hs
passed b c r t hs e = ap (λ z. if z && stays hs then Adds r t ∷ in_line b hs else in_line b hs) e

absent_if : (t s : ℕ) (by : Option ℕ) (hs : List Happening) (z : Bool) → t ≢ s → Absent t hs → Absent t (if z then Adds by s ∷ hs else hs)
absent_if t s by hs true n a = (n, a)
absent_if t s by hs false n a = a

absent_line : (b : Option ℕ) (t : ℕ) (hs : List Happening) → Absent t hs → Absent t (in_line b hs)
absent_line b t [] a = tt
absent_line b t (Adds by s ∷ hs) a = absent_line b t hs (a.1)
absent_line b t (Queues c by s ∷ hs) a = absent_if t s by (in_line b hs) (same_list b c && stays hs) (a.0) (absent_line b t hs (a.1))
absent_line b t (Retakes c ∷ hs) a = absent_line b t hs a
absent_line b t (Begins s ∷ hs) a = (a.0, absent_line b t hs (a.1))
absent_line b t (Redeems k c (Some s) ∷ hs) a = (a.0, absent_line b t hs (a.1))
absent_line b t (Redeems k c None ∷ hs) a = absent_line b t hs a

-- a list that a job stands first in has it no more after
first_once : (t : ℕ) (l m : List ℕ) → l ≡ t ∷ m → times t l ≤ 1 → times t m ≡ 0
first_once t l m e n = let a : times t l ≡ one (t == t) + times t m = ap (times t) e in let c : one (t == t) ≡ 1 = ap one (eq-eqb t t refl) in omega (arith, a, c, n)

drop_last : (l : List ℕ) (t : ℕ) → but_last (l ++ t ∷ []) ≡ l
drop_last (u ∷ v ∷ l) t = ap (λ z. u ∷ z) (drop_last (v ∷ l) t)
drop_last _ t = refl

one_same : (b c : Option ℕ) → one (same_list b c) ≡ 1 → same_list b c ≡ true
one_same b c = by (same_list b c)
  where
    by : (z : Bool) → one z ≡ 1 → z ≡ true
    by true e = refl
    by false e = absurd (omega (arith, e))

none_same : (b c : Option ℕ) → one (same_list b c) ≡ 0 → same_list b c ≡ false
none_same b c = by (same_list b c)
  where
    by : (z : Bool) → one z ≡ 0 → z ≡ false
    by true e = absurd (omega (arith, e))
    by false e = refl

empty_list : (l : List ℕ) → length l ≤ 0 → l ≡ []
empty_list [] e = refl
empty_list (t ∷ ts) e = absurd (omega (arith, e))

-- where a token is of the list, what it is taken as
taken_token : (b : Option ℕ) (t : ℕ) (k : JobKind) → k ≡ TokenOf 0 b → taken_as t k ≡ Token t 0 b
taken_token b t k e = ap (taken_as t) e

-- what one step has to know
record Here (h : Shape) (p : ℕ) (b r : Option ℕ) (w v : World) (hs : List Happening) (hp : Option Happening) : Type 0 where
  deals : Deals (h.pool p).order p 0 w v hp
  lined : Lined p w v hp
  owed : Unpushed (kinds w) b (w.stack (Worker p 0)).top (v.stack (Worker p 0)).top hp
  jobs : JobsHold w
  full : Full p b w
  emptied : elsewhere (w.stack (Worker p 0)).top ≡ true → (w.seat p 0).own ≡ []
  kind : (t : ℕ) → 1 ≤ times t (w.seat p 0).own → (v.job t).kind ≡ (w.job t).kind
  pushed : (by : Option ℕ) (t : ℕ) → hp ≡ Some (Adds by t) → (v.job t).kind ≡ TokenOf 0 b
  caller : (c by : Option ℕ) (t : ℕ) → hp ≡ Some (Queues c by t) → by ≡ r
  begun : (t : ℕ) → hp ≡ Some (Begins t) → Absent t hs
  drawn_once : (k t : ℕ) (c : Option ℕ) → hp ≡ Some (Redeems k c (Some t)) → Absent t hs
  lasting : (c : Option ℕ) (t : ℕ) → 1 ≤ times t ((w.seat p 0).fifo c) → times t ((w.seat p 0).fifo c) ≤ 1

-- the tokens of the deque after a step
kept_tokens : (b : Option ℕ) (p : ℕ) (w v : World) → Tokens b p w → ((t : ℕ) → 1 ≤ times t (w.seat p 0).own → (v.job t).kind ≡ (w.job t).kind) → (v.seat p 0).own ≡ (w.seat p 0).own → Tokens b p v
kept_tokens b p w v n k e t l = let a : 1 ≤ times t (w.seat p 0).own = subst (λ z. 1 ≤ times t z) e l in k t a ∙ n t a

times_add : (s t : ℕ) (l : List ℕ) → 1 ≤ times s (l ++ t ∷ []) → (s ≡ t) ⊎ (1 ≤ times s l)
times_add s t [] e = elim (either (s == t)) [ inl y ↦ inl (eqb-true s t y) | inr y ↦ absurd (let k : one (s == t) ≡ 0 = ap one y in omega (arith, k, e)) ]
times_add s t (u ∷ l) e = elim (either (s == u)) [
  | inl y ↦ inr (let k : one (s == u) ≡ 1 = ap one y in omega (arith, k))
  | inr y ↦ more (times_add s t l (let k : one (s == u) ≡ 0 = ap one y in omega (arith, k, e)))
]
  where
    more : (s ≡ t) ⊎ (1 ≤ times s l) → (s ≡ t) ⊎ (1 ≤ times s (u ∷ l))
    more (inl i) = inl i
    more (inr i) = inr (omega (arith, i))

else_zero : (b : Option ℕ) (x : Place) → elsewhere x ≡ true → unpushed b x ≡ 0
else_zero b (LookForToken f) e = absurd (cc)
else_zero b (PushToken f v) e = absurd (cc)
else_zero b (TakeFromFifo f) e = absurd (cc)
else_zero b _ e = refl

else_empty : (x : Place) → elsewhere x ≡ true → taken x ≡ None
else_empty (LeaveSearch k) e = absurd (cc)
else_empty (LockToWake k) e = absurd (cc)
else_empty (WakeWorker k) e = absurd (cc)
else_empty (UnlockWoken k) e = absurd (cc)
else_empty (LowerCount c s n) e = absurd (cc)
else_empty (SetLatch s) e = absurd (cc)
else_empty (SetLockLatch c n) e = absurd (cc)
else_empty (LockToSettle s) e = absurd (cc)
else_empty (WakeSettled s) e = absurd (cc)
else_empty (UnlockSettled s) e = absurd (cc)
else_empty (BeginTask t) e = absurd (cc)
else_empty (BeginHere t) e = absurd (cc)
else_empty _ e = refl

-- where the deque is empty and nothing is in hand or under way, so is the list
emptied_list : (b : Option ℕ) (p : ℕ) (w : World) → Full p b w → (w.seat p 0).own ≡ [] → taken (w.stack (Worker p 0)).top ≡ None → unpushed b (w.stack (Worker p 0)).top ≡ 0 → (w.seat p 0).fifo b ≡ []
emptied_list b p w f o n u = empty_list ((w.seat p 0).fifo b) (few (length ((w.seat p 0).fifo b)) (tokens (kinds w) b (w.seat p 0).own) (grasped b (taken (w.stack (Worker p 0)).top)) (unpushed b (w.stack (Worker p 0)).top) (ap (tokens (kinds w) b) o) (ap (grasped b) n) u f)
  where
    few : (l t g x : ℕ) → t ≡ 0 → g ≡ 0 → x ≡ 0 → l ≤ (t + g) + x → l ≤ 0
    few l t g x a b c d = omega (arith, a, b, c, d)

abbrev Next : Option ℕ → ℕ → World → Option ℕ → List Happening → List ℕ → Type 0
Next b p v r hs left = (m : List ℕ) (pre : List Happening) → Tokens b p v → Grasps b p v → Under b p m v r pre → Level b r m (pre ++ hs) left

none_grasps : (b : Option ℕ) (p : ℕ) (w v : World) (z : Bool) → ((z ≡ true) → ((w.seat p 0).own ≡ []) × ((w.seat p 0).fifo b ≡ [])) → (v.seat p 0).own ≡ (w.seat p 0).own → (v.seat p 0).fifo b ≡ (w.seat p 0).fifo b
    → ((taken (w.stack (Worker p 0)).top ≡ None) × ((taken (v.stack (Worker p 0)).top ≡ None) ⊎ (z ≡ true))) ⊎ (taken (v.stack (Worker p 0)).top ≡ taken (w.stack (Worker p 0)).top) → Grasps b p w → Grasps b p v
none_grasps b p w v z f o l (inl (n, inl y)) g = inl y
none_grasps b p w v z f o l (inl (n, inr y)) g = inr (inl (o ∙ (f y).0, l ∙ (f y).1))
none_grasps b p w v z f o l (inr k) (inl n) = inl (k ∙ n)
none_grasps b p w v z f o l (inr k) (inr (inl (c, d))) = inr (inl (o ∙ c, l ∙ d))
none_grasps b p w v z f o l (inr k) (inr (inr (j, e))) = inr (inr (j, k ∙ e))

-- the call that is under way, where nothing happens
none_under : (b : Option ℕ) (p : ℕ) (l : List ℕ) (w v : World) (r : Option ℕ) (pre : List Happening) → (v.seat p 0).fifo b ≡ (w.seat p 0).fifo b → unpushed b (w.stack (Worker p 0)).top ≡ unpushed b (v.stack (Worker p 0)).top → Under b p l w r pre → Under b p l v r pre
none_under b p l w v r pre e u (inl (a, c, d)) = inl (a, c ∙ sym e, sym u ∙ d)
none_under b p l w v r pre e u (inr (t, a, c, d)) = inr (t, a, e ∙ c, sym u ∙ d)

zero_one : {A : Type 0} (n : ℕ) → n ≡ 0 → n ≡ 1 → A
zero_one n a b = absurd (omega (arith, a, b))

popped_tokens : (b : Option ℕ) (p : ℕ) (w v : World) (o : Order) (t : ℕ) → Tokens b p w → ((s : ℕ) → 1 ≤ times s (w.seat p 0).own → (v.job s).kind ≡ (w.job s).kind) → Hands o (w.seat p 0).own t (v.seat p 0).own → Tokens b p v
popped_tokens b p w v o t n k h s l = let c : times s (w.seat p 0).own ≡ one (s == t) + times s (v.seat p 0).own = hands_times o (w.seat p 0).own (v.seat p 0).own t s h in let a : 1 ≤ times s (w.seat p 0).own = omega (arith, c, l) in k s a ∙ n s a

handed_first : (w : World) (p : ℕ) (o : Order) (t : ℕ) (m : List ℕ) → Hands o (w.seat p 0).own t m → 1 ≤ times t (w.seat p 0).own
handed_first w p o t m h = let c : times t (w.seat p 0).own ≡ one (t == t) + times t m = hands_times o (w.seat p 0).own m t t h in let d : one (t == t) ≡ 1 = ap one (eq-eqb t t refl) in omega (arith, c, d)

grown_tokens : (b : Option ℕ) (p : ℕ) (w v : World) (t : ℕ) → Tokens b p w → ((s : ℕ) → 1 ≤ times s (w.seat p 0).own → (v.job s).kind ≡ (w.job s).kind) → (v.seat p 0).own ≡ (w.seat p 0).own ++ t ∷ [] → (v.job t).kind ≡ TokenOf 0 b → Tokens b p v
grown_tokens b p w v t n k e d s l = at (times_add s t (w.seat p 0).own (subst (λ z. 1 ≤ times s z) e l))
  where
    at : (s ≡ t) ⊎ (1 ≤ times s (w.seat p 0).own) → (v.job s).kind ≡ TokenOf 0 b
    at (inl i) = ap (λ z. (v.job z).kind) i ∙ d
    at (inr i) = k s i ∙ n s i

-- a job begins that is none of the list's: the list is empty
comes_line : (b : Option ℕ) (r : Option ℕ) (t : ℕ) (l : List ℕ) (hs : List Happening) (left : List ℕ) → l ≡ [] → Absent t hs → Level b (Some t) [] hs left → Orderly OldestFirst r l (Begins t ∷ in_line b hs) left
comes_line b r t l hs left e a k = inr (e, (refl, absent_line b t hs a), k)

draws_line : (b : Option ℕ) (r : Option ℕ) (t : ℕ) (l m : List ℕ) (hs : List Happening) (left : List ℕ) → l ≡ t ∷ m → times t m ≡ 0 → Absent t hs → Level b (Some t) m hs left → Orderly OldestFirst r l (Begins t ∷ in_line b hs) left
draws_line b r t l m hs left e n a k = inl (m, e, (n, absent_line b t hs a), k)

-- one step
level_none : (h : Shape) (p : ℕ) (b r : Option ℕ) (w v : World) (l : List ℕ) (pre hs : List Happening) (left : List ℕ) → Here h p b r w v hs None → Tokens b p w → Grasps b p w → Under b p l w r pre → Next b p v r hs left → Level b r l (pre ++ hs) left
level_none h p b r w v l pre hs left x n g u rec = at x.deals
  where
    list : (v.seat p 0).fifo b ≡ (w.seat p 0).fifo b
    list = x.lined b

    at : Deals (h.pool p).order p 0 w v None → Level b r l (pre ++ hs) left
    at (inl (same, k)) = rec l pre (kept_tokens b p w v n x.kind same)
        (none_grasps b p w v (elsewhere (w.stack (Worker p 0)).top) (λ z. (x.emptied z, emptied_list b p w x.full (x.emptied z) (else_empty (w.stack (Worker p 0)).top z) (else_zero b (w.stack (Worker p 0)).top z))) same list k g) (none_under b p l w v r pre list x.owed u)
    at (inr (t, hd, m, y)) = rec l pre (popped_tokens b p w v (h.pool p).order t n x.kind hd) (inr (inr (t, y ∙ ap Some (taken_token b t (w.job t).kind (n t (handed_first w p (h.pool p).order t (v.seat p 0).own hd)))))) (none_under b p l w v r pre list x.owed u)

level_adds : (h : Shape) (p : ℕ) (b r : Option ℕ) (w v : World) (l : List ℕ) (pre hs : List Happening) (left : List ℕ) (c : Option ℕ) (t : ℕ) → Here h p b r w v hs (Some (Adds c t)) → Tokens b p w → Under b p l w r pre → Next b p v r hs left → Level b r l (pre ++ Adds c t ∷ hs) left
level_adds h p b r w v l pre hs left c t x n u rec = at x.deals u
  where
    list : (v.seat p 0).fifo b ≡ (w.seat p 0).fifo b
    list = x.lined b

    at : Deals (h.pool p).order p 0 w v (Some (Adds c t)) → Under b p l w r pre → Level b r l (pre ++ Adds c t ∷ hs) left
    at (grow, m, y) (inl (pe, le, z)) = subst (λ q. Level b r l (q ++ Adds c t ∷ hs) left) (sym pe) (rec l [] (grown_tokens b p w v t n x.kind grow (x.pushed c t refl)) (inl y) (inl (refl, le ∙ sym list, (x.owed).1)))
    at (grow, m, y) (inr (s, pe, fe, z)) = subst (λ q. Level b r l (q ++ Adds c t ∷ hs) left) (sym pe)
        (subst (λ q. Orderly OldestFirst r l q left) (sym (stayed b r s (Adds c t ∷ hs) refl)) (refl, rec (l ++ s ∷ []) [] (grown_tokens b p w v t n x.kind grow (x.pushed c t refl)) (inl y) (inl (refl, sym fe ∙ sym list, (x.owed).1))))

level_queues : (h : Shape) (p : ℕ) (b r : Option ℕ) (w v : World) (l : List ℕ) (pre hs : List Happening) (left : List ℕ) (c by : Option ℕ) (t : ℕ) → Here h p b r w v hs (Some (Queues c by t)) → Tokens b p w → Under b p l w r pre → Next b p v r hs left → Level b r l (pre ++ Queues c by t ∷ hs) left
level_queues h p b r w v l pre hs left c by t x n u rec = at x.deals u
  where
    to : (z : Bool) → same_list b c ≡ z → Changes ((w.seat p 0).fifo b) (if z then Some (Joins t) else None) ((v.seat p 0).fifo b) → (v.seat p 0).own ≡ (w.seat p 0).own → taken (v.stack (Worker p 0)).top ≡ None → l ≡ (w.seat p 0).fifo b → Level b r l (Queues c by t ∷ hs) left
    to true e k same y le =
        let d : b ≡ c = same_list_true b c e in let one_is : unpushed b (v.stack (Worker p 0)).top ≡ 1 = (x.owed).1 ∙ ap one e in
        subst (λ q. Level b r l (Queues q by t ∷ hs) left) d (subst (λ q. Level b r l (Queues b q t ∷ hs) left) (sym (x.caller c by t refl)) (rec l (Queues b r t ∷ []) (kept_tokens b p w v n x.kind same) (inl y) (inr (t, refl, k ∙ ap (λ q. q ++ t ∷ []) (sym le), one_is))))
    to false e k same y le = subst (λ q. Orderly OldestFirst r l q left) (sym (passed b c by t hs e)) (rec l [] (kept_tokens b p w v n x.kind same) (inl y) (inl (refl, le ∙ sym k, (x.owed).1 ∙ ap one e)))

    at : Deals (h.pool p).order p 0 w v (Some (Queues c by t)) → Under b p l w r pre → Level b r l (pre ++ Queues c by t ∷ hs) left
    at (same, m, y) (inl (pe, le, z)) = subst (λ q. Level b r l (q ++ Queues c by t ∷ hs) left) (sym pe) (to (same_list b c) refl (x.lined b) same y le)
    at (same, m, y) (inr (s, pe, fe, z)) = zero_one (unpushed b (w.stack (Worker p 0)).top) ((x.owed).0) z

level_retakes : (h : Shape) (p : ℕ) (b r : Option ℕ) (w v : World) (l : List ℕ) (pre hs : List Happening) (left : List ℕ) (c : Option ℕ) → Here h p b r w v hs (Some (Retakes c)) → Tokens b p w → Under b p l w r pre → Next b p v r hs left → Level b r l (pre ++ Retakes c ∷ hs) left
level_retakes h p b r w v l pre hs left c x n u rec = at x.deals u
  where
    gone : same_list b c ≡ false → (v.seat p 0).fifo b ≡ (w.seat p 0).fifo b
    gone e = subst (λ z. Changes ((w.seat p 0).fifo b) (if z then Some Leaves else None) ((v.seat p 0).fifo b)) e (x.lined b)

    back : same_list b c ≡ true → (v.seat p 0).fifo b ≡ but_last ((w.seat p 0).fifo b)
    back e = subst (λ z. Changes ((w.seat p 0).fifo b) (if z then Some Leaves else None) ((v.seat p 0).fifo b)) e (x.lined b)

    at : Deals (h.pool p).order p 0 w v (Some (Retakes c)) → Under b p l w r pre → Level b r l (pre ++ Retakes c ∷ hs) left
    at (same, m, y) (inl (pe, le, z)) = subst (λ q. Level b r l (q ++ Retakes c ∷ hs) left) (sym pe) (rec l [] (kept_tokens b p w v n x.kind same) (inl y) (inl (refl, le ∙ sym (gone (none_same b c (sym ((x.owed).0) ∙ z))), (x.owed).1)))
    at (same, m, y) (inr (s, pe, fe, z)) = subst (λ q. Level b r l (q ++ Retakes c ∷ hs) left) (sym pe)
        (subst (λ q. Orderly OldestFirst r l q left) (sym (went b r s (Retakes c ∷ hs) refl)) (rec l [] (kept_tokens b p w v n x.kind same) (inl y) (inl (refl, sym (back (one_same b c (sym ((x.owed).0) ∙ z)) ∙ ap but_last fe ∙ drop_last l s), (x.owed).1))))

level_begins : (h : Shape) (p : ℕ) (b r : Option ℕ) (w v : World) (l : List ℕ) (pre hs : List Happening) (left : List ℕ) (t : ℕ) → Here h p b r w v hs (Some (Begins t)) → Tokens b p w → Grasps b p w → Under b p l w r pre → Next b p v (Some t) hs left → Level b r l (pre ++ Begins t ∷ hs) left
level_begins h p b r w v l pre hs left t x n g u rec = at x.deals g u
  where
    list : (v.seat p 0).fifo b ≡ (w.seat p 0).fifo b
    list = x.lined b

    at : Deals (h.pool p).order p 0 w v (Some (Begins t)) → Grasps b p w → Under b p l w r pre → Level b r l (pre ++ Begins t ∷ hs) left
    at (same, y, z) g (inr (s, pe, fe, o)) = zero_one (unpushed b (w.stack (Worker p 0)).top) ((x.owed).0) o
    at (same, y, z) (inl m) (inl (pe, le, o)) = none_some (taken (w.stack (Worker p 0)).top) (Plain t) m y
    at (same, y, z) (inr (inr (k, e))) (inl (pe, le, o)) = absurd (let d : Some (Plain t) ≡ Some (Token k 0 b) = sym y ∙ e in cc)
    at (same, y, z) (inr (inl (d, f))) (inl (pe, le, o)) = subst (λ q. Level b r l (q ++ Begins t ∷ hs) left) (sym pe) (comes_line b r t l hs left (le ∙ f) (x.begun t refl) (rec [] [] (kept_tokens b p w v n x.kind same) (inl z) (inl (refl, sym (list ∙ f), (x.owed).1))))

level_redeems : (h : Shape) (p : ℕ) (b r : Option ℕ) (w v : World) (l : List ℕ) (pre hs : List Happening) (left : List ℕ) (k : ℕ) (c : Option ℕ) (t : ℕ) → Here h p b r w v hs (Some (Redeems k c (Some t))) → Tokens b p w → Grasps b p w → Under b p l w r pre → Next b p v (Some t) hs left
    → Level b r l (pre ++ Redeems k c (Some t) ∷ hs) left
level_redeems h p b r w v l pre hs left k c t x n g u rec = at x.deals g u
  where
    -- a token of the list
    mine : Changes ((w.seat p 0).fifo b) (Some (Comes (Some t))) ((v.seat p 0).fifo b) → l ≡ (w.seat p 0).fifo b → (v.seat p 0).own ≡ (w.seat p 0).own → taken (v.stack (Worker p 0)).top ≡ None → Level b r l (Redeems k c (Some t) ∷ hs) left
    mine (s, e, f) le same z =
        let i : s ≡ t = (let d : Some t ≡ Some s = e in cc) in
        let first : (w.seat p 0).fifo b ≡ t ∷ (v.seat p 0).fifo b = f ∙ ap (λ q. q ∷ (v.seat p 0).fifo b) i in
        let has : 1 ≤ times t ((w.seat p 0).fifo b) = subst (λ q. 1 ≤ times t q) (sym first) (let d : one (t == t) ≡ 1 = ap one (eq-eqb t t refl) in omega (arith, d)) in
        draws_line b r t l ((v.seat p 0).fifo b) hs left (le ∙ first) (first_once t ((w.seat p 0).fifo b) ((v.seat p 0).fifo b) first (x.lasting b t has)) (x.drawn_once k t c refl) (rec ((v.seat p 0).fifo b) [] (kept_tokens b p w v n x.kind same) (inl z) (inl (refl, refl, (x.owed).1)))

    -- one of another list came from elsewhere
    other : same_list b c ≡ false → (v.seat p 0).fifo b ≡ (w.seat p 0).fifo b → (v.seat p 0).own ≡ (w.seat p 0).own → ((i : ℕ) × (taken (w.stack (Worker p 0)).top ≡ Some (Token k i c))) → taken (v.stack (Worker p 0)).top ≡ None → l ≡ (w.seat p 0).fifo b → Grasps b p w
        → Level b r l (Redeems k c (Some t) ∷ hs) left
    other e list same (i, y) z le (inl m) = none_some (taken (w.stack (Worker p 0)).top) (Token k i c) m y
    other e list same (i, y) z le (inr (inr (j, d))) = absurd (let q : Some (Token j 0 b) ≡ Some (Token k i c) = sym d ∙ y in let bc : b ≡ c = cc in let s : same_list b c ≡ true = ap (same_list b) (sym bc) ∙ same_list_refl b in cc)
    other e list same (i, y) z le (inr (inl (d, f))) = comes_line b r t l hs left (le ∙ f) (x.drawn_once k t c refl) (rec [] [] (kept_tokens b p w v n x.kind same) (inl z) (inl (refl, sym (list ∙ f), (x.owed).1)))

    to : (q : Bool) → same_list b c ≡ q → Changes ((w.seat p 0).fifo b) (if q then Some (Comes (Some t)) else None) ((v.seat p 0).fifo b) → (v.seat p 0).own ≡ (w.seat p 0).own → ((i : ℕ) × (taken (w.stack (Worker p 0)).top ≡ Some (Token k i c))) → taken (v.stack (Worker p 0)).top ≡ None
        → l ≡ (w.seat p 0).fifo b → Level b r l (Redeems k c (Some t) ∷ hs) left
    to true e f same y z le = mine f le same z
    to false e f same y z le = other e f same y z le g

    at : Deals (h.pool p).order p 0 w v (Some (Redeems k c (Some t))) → Grasps b p w → Under b p l w r pre → Level b r l (pre ++ Redeems k c (Some t) ∷ hs) left
    at (same, y, z) g (inr (s, pe, fe, o)) = zero_one (unpushed b (w.stack (Worker p 0)).top) ((x.owed).0) o
    at (same, y, z) g (inl (pe, le, o)) = subst (λ q. Level b r l (q ++ Redeems k c (Some t) ∷ hs) left) (sym pe) (to (same_list b c) refl (x.lined b) same y z le)

level_step : (h : Shape) (p : ℕ) (b r : Option ℕ) (w v : World) (l : List ℕ) (pre hs : List Happening) (left : List ℕ) (hp : Option Happening) → Here h p b r w v hs hp → Tokens b p w → Grasps b p w → Under b p l w r pre → Next b p v (next_run r hp) hs left → Level b r l (pre ++ and_next hp hs) left
level_step h p b r w v l pre hs left None x n g u rec = level_none h p b r w v l pre hs left x n g u rec
level_step h p b r w v l pre hs left (Some (Adds c t)) x n g u rec = level_adds h p b r w v l pre hs left c t x n u rec
level_step h p b r w v l pre hs left (Some (Queues c by t)) x n g u rec = level_queues h p b r w v l pre hs left c by t x n u rec
level_step h p b r w v l pre hs left (Some (Retakes c)) x n g u rec = level_retakes h p b r w v l pre hs left c x n u rec
level_step h p b r w v l pre hs left (Some (Begins t)) x n g u rec = level_begins h p b r w v l pre hs left t x n g u rec
level_step h p b r w v l pre hs left (Some (Redeems k c (Some t))) x n g u rec = level_redeems h p b r w v l pre hs left k c t x n g u rec
level_step h p b r w v l pre hs left (Some (Redeems k c None)) x n g u rec = absurd (runs_one ((w.seat p 0).fifo c) ((v.seat p 0).fifo c) (subst (λ z. Changes ((w.seat p 0).fifo c) (if z then Some (Comes None) else None) ((v.seat p 0).fifo c)) (same_list_refl c) (x.lined c)))
  where
    runs_one : (a d : List ℕ) → Changes a (Some (Comes None)) d → ⊥
    runs_one a d (t, e, f) = cc

-- a job that a party runs has begun
runs_once : (w : World) (q : Party) (t : ℕ) → IsOnce w → run_at (w.stack q).top ≡ Some t → 1 ≤ (w.job t).runs
runs_once w q t h e =
    let a : 1 ≤ run_of t (w.stack q).top = at (w.stack q).top e in
    let c : worked t (w.stack q) ≡ one (runs_with q (w.job t).at && ((w.job t).runs == 1)) = h.running q t in
    both (runs_with q (w.job t).at) ((w.job t).runs == 1) refl (omega (arith, a, c))
  where
    at : (x : Place) → run_at x ≡ Some t → 1 ≤ run_of t x
    at (Run u k) d = let i : u ≡ t = cc in let o : one (t == u) ≡ 1 = ap one (eq-eqb t u (sym i)) in omega (arith, o)
    at _ d = absurd (cc)

    both : (x y : Bool) → ((w.job t).runs == 1) ≡ y → 1 ≤ one (x && y) → 1 ≤ (w.job t).runs
    both true true d l = let i : (w.job t).runs ≡ 1 = eqb-true (w.job t).runs 1 d in omega (arith, i)
    both true false d l = absurd (omega (arith, l))
    both false y d l = absurd (omega (arith, l))

redeems_run : (a : Act) (fs : List Place) (o c r : Option ℕ) (k : ℕ) → act_happens a fs o ≡ Some (Redeems k c r) → o ≡ r
redeems_run (FifoOut m i d) fs o c r k e = cc
redeems_run _ fs o c r k e = absurd (cc)

here_on : (h : Shape) (p : ℕ) (b r : Option ℕ) → (h.pool p).workers ≡ 1 → (w v u : World) (e : Event) (es : List Event) → Reached h w → step w e ≡ Some v → IsRunWithout (is_unlisted p b) v es u → StandsAt (IsFed b) r (w.stack (Worker p 0)) → Here h p b r w v (happenings p (Some v) es)
    (happening p w e v)
here_on h p b r single w v u e es x s rest st = record {
  deals = deals_on h p single w v e x s;
  lined = lined_on h p single w v e x.events x.run s;
  owed = owed_on h p b w v e x s;
  jobs = reached_jobs h w x;
  full = always_full h p b single w x;
  emptied = λ z. (reached_lists h w x).emptied p 0 (stands_emptied (IsFed b) r (w.stack me).top (w.stack me).below st z);
  kind = own_kinds w v p e (reached_jobs h w x) s;
  pushed = λ c t d. added_kinds w v p e (reached_calls h w x) s c t d ∙ pushes b w p (w.stack me).top (w.stack me).below r (run_at (v.stack me).top) c t (((reached_calls h w x).says me).top) st (event_acts p w e v (Adds c t) d);
  caller = λ c d t k. queues_caller b p (w.stack me).top (w.stack me).below r (run_at (v.stack me).top) c d t st (event_acts p w e v (Queues c d t) k);
  begun = λ t d. absent_run h p single (is_unlisted p b) v u es t y (let z : IfSome (Some v) (λ q. 1 ≤ (q.job t).runs) = subst (λ o. IfSome o (λ q. 1 ≤ (q.job t).runs)) s (begun_step w v p e t d) in z) rest;
  drawn_once = λ k t c d. absent_run h p single (is_unlisted p b) v u es t y (runs_once v me t (always_once h y.events v y.run) (redeems_run (act_of me (w.stack me).top) (w.stack me).below (run_at (v.stack me).top) c (Some t) k (event_acts p w e v (Redeems k c (Some t)) d))) rest;
  lasting = λ c t l. least _ _ ((always_once h x.events w x.run).fifo p 0 c t);
}
  where
    me : Party
    me = Worker p 0

    y : Reached h v
    y = reach_on h w v e x s

    least : (n : ℕ) (z : Bool) → n ≡ one z → n ≤ 1
    least n true i = omega (arith, i)
    least n false i = omega (arith, i)

level_run : (h : Shape) (p : ℕ) (b : Option ℕ) → (h.pool p).workers ≡ 1 → (w u : World) (es : List Event) (l : List ℕ) (r : Option ℕ) (pre : List Happening) → Reached h w → StandsAt (IsFed b) r (w.stack (Worker p 0)) → Tokens b p w → Grasps b p w → Under b p l w r pre
    → IsRunWithout (is_unlisted p b) w es u → Level b r l (pre ++ happenings p (Some w) es) ((u.seat p 0).fifo b)
level_run h p b one w u [] l r pre x st n g (inl (pe, le, z)) e = subst (λ q. Level b r l (q ++ []) ((u.seat p 0).fifo b)) (sym pe) (ap (λ q. (q.seat p 0).fifo b) e ∙ sym le)
level_run h p b one w u [] l r pre x st n g (inr (t, pe, fe, z)) e = subst (λ q. Level b r l (q ++ []) ((u.seat p 0).fifo b)) (sym pe) (subst (λ q. Orderly OldestFirst r l q ((u.seat p 0).fifo b)) (sym (stayed b r t [] refl)) (refl, ap (λ q. (q.seat p 0).fifo b) e ∙ fe))
level_run h p b one w u (e ∷ es) l r pre x st n g k (v, calm, s, rest) =
    let me : Party = Worker p 0 in
    let y : Reached h v = reach_on h w v e x s in
    let next : StandsAt (IsFed b) (next_run r (happening p w e v))
    (v.stack me) = (let z : IfSome (Some v) (λ q. Stood (IsFed b) w p (next_run r (happening p w e q)) q) = subst (λ o. IfSome o (λ q. Stood (IsFed b) w p (next_run r (happening p w e q)) q)) s
    (step_stands w e p (IsFed b) r (ap (λ z. (z.pool p).workers) (reached_shape h w x) ∙ one) (fed p b w e calm) st) in z) in
    subst (λ z. Level b r l (pre ++ and_next (happened p w e z) (happenings p z es)) ((u.seat p 0).fifo b)) (sym s)
    (level_step h p b r w v l pre (happenings p (Some v) es) ((u.seat p 0).fifo b) (happening p w e v) (here_on h p b r one w v u e es x s rest st) n g k
    (λ m q a c d. level_run h p b one v u es m (next_run r (happening p w e v)) q y next a c d rest))

all_tokens : (w : World) (b : Option ℕ) (l : List ℕ) → AreTokens w b l → (t : ℕ) → 1 ≤ times t l → (w.job t).kind ≡ TokenOf 0 b
all_tokens w b [] a t e = absurd (omega (arith, e))
all_tokens w b (s ∷ ss) a t e = elim (either (t == s)) [
  | inl y ↦ ap (λ z. (w.job z).kind) (eqb-true t s y) ∙ a.0
  | inr y ↦ all_tokens w b ss (a.1) t (let k : one (t == s) ≡ 0 = ap one y in omega (arith, k, e))
]

pub level_law : LevelLaw
level_law shape before p b w u es one first between full run = at (level_run shape p b one w u es ((w.seat p 0).fifo b) None [] (record { events = before; run = first }) (subst (StandsAt (IsFed b) None) (sym between) (refl, tt)) (all_tokens w b (w.seat p 0).own full)
    (inl (ap (λ k. taken k.top) between)) (inl (refl, refl, ap (λ k. unpushed b k.top) between)) run)
  where
    at : Level b None ((w.seat p 0).fifo b) (happenings p (Some w) es) ((u.seat p 0).fifo b) → IsWalk OldestFirst ((w.seat p 0).fifo b) (in_line b (happenings p (Some w) es)) ((u.seat p 0).fifo b)
    at a =
        let g : Grown OldestFirst None ((w.seat p 0).fifo b) (in_line b (happenings p (Some w) es)) ((u.seat p 0).fifo b) = grown OldestFirst None ((w.seat p 0).fifo b) (in_line b (happenings p (Some w) es)) ((u.seat p 0).fifo b) tt a in
        record { standing = g.standing; arrived = g.arrived; top = g.top; below = (g.below, g.later); order = g.order }
