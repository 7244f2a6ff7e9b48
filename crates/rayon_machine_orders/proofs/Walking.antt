-- a worker that is alone in its pool, and makes no call but spawns, begins jobs in the order of the walk of the trees
-- of spawns
--
-- The law is `tree_law`.
use Rattle.std.proofs.Common.{arith, refl, sym, ◌∙◌, ap, subst, inl, inr, ◌≢◌}
use Rattle.rayon_machine_orders.proofs.Words.{ℕ, Bool, true, false, ◌≤◌, Option, Some, None, List, [], ◌∷◌, ◌++◌, ◌≡◌, ◌⊎◌, ◌+◌, ◌==◌, if◌then◌else◌, IfSome, ◌&&◌, ⊤, Order, Party, Worker, Caller, Place, BeginTask, BeginHere, PushJob, PushToken, AddToFifo, TakeFromFifo, PushOwn, PushInj, Event}
use Rattle.rayon_machine_orders.proofs.Words.{Go, From, Refuse, Miss, End, Spawn, Fifo, Install, Join, Yield, YieldLocal, EndPool, Cast, OpenScope, IntoSpawn, IntoFifo, IntoCast, Broadcast, same_party, plan_pool, plan_job, act_of, plan_book, taken_number, Shape, World, begun, taken_as}
use Rattle.rayon_machine_orders.proofs.Words.{target_pool, target_worker, target_call, put, step, one, times, Taken, run_at, eq-eqb, Happening, Adds, Queues, Retakes, Begins, Redeems, happening, happened, and_next, happenings, Hands, act_happens, IsLeft, IsWalk, IsRunWithout, Act, Plain, Token}
use Rattle.rayon_machine_laws.proofs.ClaimRuns.{CallsHold}
use Rattle.rayon_machine_laws.proofs.Placed.{same_number}
use Rattle.rayon_machine_orders.proofs.Lined.{Lined, lined_on}
use Rattle.rayon_machine_orders.specs.Order.{is_other, TreeLaw, is_redeem}
use Rattle.rayon_machine_laws.proofs.Ties.{job_at, outcome, result}
use Rattle.rayon_machine_orders.proofs.Begun.{BeginsOn, step_runs}
use Rattle.rayon_machine_orders.proofs.Dealing.{Deals}
use Rattle.rayon_machine_orders.proofs.Dealt.{elsewhere, is_line, is_push, is_start, silent}
use Rattle.rayon_machine_laws.proofs.Frame.{either, acted_keeps, put_new, same_party_true}
use Rattle.rayon_machine_orders.proofs.Handed.{Drawn, Reached, reach_on, reached_calls, reached_jobs, reached_lists, reached_shape, drawn, in_hand, in_line_once, taken_once, none_some, some_same, left_of, deals_on}
use Rattle.rayon_machine_orders.proofs.Lone.{taken}
use Rattle.rayon_machine_laws.proofs.PlacedRuns.{JobsHold}
use Rattle.rayon_machine_orders.proofs.Standing.{IsSpawn, Stands, StandsAt, stands_emptied}
use Rattle.rayon_machine_orders.proofs.Walked.{Spawns, next_run, event_acts, adds_hand, adds_caller, queues_hand, Stood, step_stands}
use Rattle.rayon_machine_orders.proofs.Walks.{Absent, Orderly, Grown, grown}

-- a job that is added, or begins, had not begun before
adds_unbegun : (p : ℕ) (w v : World) (e : Event) (by : Option ℕ) (s : ℕ) → CallsHold w → happening p w e v ≡ Some (Adds by s) → (w.job s).runs ≡ 0
adds_unbegun p w v e by s c d = (in_hand w (Worker p 0) s c.jobs (adds_hand w (Worker p 0) (w.stack (Worker p 0)).top (w.stack (Worker p 0)).below (run_at (v.stack (Worker p 0)).top) by s ((c.says (Worker p 0)).top) (event_acts p w e v (Adds by s) d))).0

queues_unbegun : (p : ℕ) (w v : World) (e : Event) (b by : Option ℕ) (s : ℕ) → JobsHold w → happening p w e v ≡ Some (Queues b by s) → (w.job s).runs ≡ 0
queues_unbegun p w v e b by s j d = (in_hand w (Worker p 0) s j (queues_hand (Worker p 0) (w.stack (Worker p 0)).top (w.stack (Worker p 0)).below (run_at (v.stack (Worker p 0)).top) b by s (event_acts p w e v (Queues b by s) d))).0

drawn_unbegun : (p : ℕ) (w v : World) (k s : ℕ) (c : Option ℕ) → JobsHold w → Lined p w v (Some (Redeems k c (Some s))) → (w.job s).runs ≡ 0
drawn_unbegun p w v k s c j d =
    let x : Drawn p (w.seat p 0).fifo w v c (Some s) = drawn p (w.seat p 0).fifo w v k c (Some s) d (λ b. refl) in
    let same : s ≡ x.job = (let e : Some s ≡ Some x.job = x.runs in cc) in
    in_line_once w p 0 c s j (subst (λ l. 1 ≤ times s l) (sym x.first) (let one_is : one (s == x.job) ≡ 1 = ap one (eq-eqb s x.job same) in omega (arith, one_is)))

unlike : (w : World) (s t : ℕ) → (w.job s).runs ≡ 0 → 1 ≤ (w.job t).runs → t ≢ s
unlike w s t z n = λ same. (let y : (w.job t).runs ≡ (w.job s).runs = ap (λ m. (w.job m).runs) same in omega (arith, z, y, n))

absent_step : (o : Order) (p : ℕ) (w v : World) (e : Event) (t : ℕ) (hp : Option Happening) (hs : List Happening) → happening p w e v ≡ hp → Deals o p 0 w v hp → Lined p w v hp → CallsHold w → 1 ≤ (w.job t).runs → Absent t hs → Absent t (and_next hp hs)
absent_step o p w v e t None hs is d l c n a = a
absent_step o p w v e t (Some (Adds by s)) hs is d l c n a = (unlike w s t (adds_unbegun p w v e by s c is) n, a)
absent_step o p w v e t (Some (Queues b by s)) hs is d l c n a = (unlike w s t (queues_unbegun p w v e b by s c.jobs is) n, a)
absent_step o p w v e t (Some (Retakes b)) hs is d l c n a = a
absent_step o p w v e t (Some (Redeems k b None)) hs is d l c n a = a
absent_step o p w v e t (Some (Redeems k b (Some s))) hs is d l c n a = (unlike w s t (drawn_unbegun p w v k s b c.jobs l) n, a)
absent_step o p w v e t (Some (Begins s)) hs is (k, y, z) l c n a = (unlike w s t ((taken_once w (Worker p 0) (Plain s) c.jobs y).0) n, a)

-- a job that has begun is neither added nor begun again
pub absent_run : (h : Shape) (p : ℕ) → (h.pool p).workers ≡ 1 → (test : World → Event → Bool) (w u : World) (es : List Event) (t : ℕ) → Reached h w → 1 ≤ (w.job t).runs → IsRunWithout test w es u → Absent t (happenings p (Some w) es)
absent_run h p one test w u [] t r n e = tt
absent_run h p one test w u (e ∷ es) t r n (v, calm, s, rest) =
    let up : BeginsOn w v = (let k : IfSome (Some v) (BeginsOn w) = subst (λ o. IfSome o (BeginsOn w)) s (step_runs w e (reached_jobs h w r)) in k) in
    let more : 1 ≤ (v.job t).runs = (let a : (w.job t).runs ≤ (v.job t).runs = up t in omega (arith, a, n)) in
    subst (λ z. Absent t (and_next (happened p w e z) (happenings p z es))) (sym s)
    (absent_step (h.pool p).order p w v e t (happening p w e v) (happenings p (Some v) es) refl (deals_on h p one w v e r s) (lined_on h p one w v e r.events r.run s) (reached_calls h w r) n
    (absent_run h p one test v u es t (reach_on h w v e r s) more rest))

-- the token list is the deque, where the worker has taken no job or the deque is empty; or it has one job more, which
-- the worker has taken
abbrev Stocked : Order → ℕ → List ℕ → World → Type 0
Stocked o p l w = ((l ≡ (w.seat p 0).own) × ((taken (w.stack (Worker p 0)).top ≡ None) ⊎ ((w.seat p 0).own ≡ []))) ⊎ ((x : Taken) × Hands o l (taken_number x) (w.seat p 0).own × (taken (w.stack (Worker p 0)).top ≡ Some x))

abbrev Grows : Order → Option ℕ → ℕ → World → List ℕ → List Happening → Type 0
Grows o r p u l hs = (left : List ℕ) × Orderly o r l hs left × IsLeft u p left

add_grows : (o : Order) (r by : Option ℕ) (p : ℕ) (u : World) (t : ℕ) (l : List ℕ) (hs : List Happening) → by ≡ r → Grows o r p u (l ++ t ∷ []) hs → Grows o r p u l (Adds by t ∷ hs)
add_grows o r by p u t l hs e (left, a, b) = (left, (e, a), b)

hand_grows : (o : Order) (r : Option ℕ) (p : ℕ) (u : World) (t : ℕ) (l rest : List ℕ) (hs : List Happening) → Hands o l t rest → times t rest ≡ 0 → Absent t hs → Grows o (Some t) p u rest hs → Grows o r p u l (Begins t ∷ hs)
hand_grows o r p u t l rest hs h z n (left, a, b) = (left, inl (rest, h, (z, n), a), b)

come_grows : (o : Order) (r : Option ℕ) (p : ℕ) (u : World) (t : ℕ) (l : List ℕ) (hs : List Happening) → l ≡ [] → Absent t hs → Grows o (Some t) p u [] hs → Grows o r p u l (Begins t ∷ hs)
come_grows o r p u t l hs e n (left, a, b) = (left, inr (e, (refl, n), a), b)

-- what a TreeLaw's worker does not do
abbrev Nothing : Option Happening → Type 0
Nothing (Some (Queues b by t)) = ⊤
Nothing (Some (Retakes b)) = ⊤
Nothing (Some (Redeems k b r)) = ⊤
Nothing _ = ⊥

tree_step : (o : Order) (r : Option ℕ) (p : ℕ) (w v u : World) (l : List ℕ) (hs : List Happening) (hp : Option Happening) → Deals o p 0 w v hp → JobsHold w → (elsewhere (w.stack (Worker p 0)).top ≡ true → (w.seat p 0).own ≡ []) → ((by : Option ℕ) (t : ℕ) → hp ≡ Some (Adds by t) → by ≡ r)
    → ((t : ℕ) → hp ≡ Some (Begins t) → Absent t hs) → (Nothing hp → ⊥) →
    Stocked o p l w → ((m : List ℕ) → Stocked o p m v → Grows o (next_run r hp) p u m hs) → Grows o r p u l (and_next hp hs)
tree_step o r p w v u l hs None (inl (same, inl (n, inl y))) j em by ab nr (inl (e, a)) rec = rec l (inl (e ∙ sym same, inl y))
tree_step o r p w v u l hs None (inl (same, inl (n, inr z))) j em by ab nr (inl (e, a)) rec = rec l (inl (e ∙ sym same, inr (same ∙ em z)))
tree_step o r p w v u l hs None (inl (same, inr y)) j em by ab nr (inl (e, inl n)) rec = rec l (inl (e ∙ sym same, inl (y ∙ n)))
tree_step o r p w v u l hs None (inl (same, inr y)) j em by ab nr (inl (e, inr z)) rec = rec l (inl (e ∙ sym same, inr (same ∙ z)))
tree_step o r p w v u l hs None (inr (t, h, n, y)) j em by ab nr (inl (e, a)) rec = rec l
    (inr (taken_as t (w.job t).kind, subst (λ z. Hands o z (taken_number (taken_as t (w.job t).kind)) (v.seat p 0).own) (sym e) (subst (λ z. Hands o (w.seat p 0).own z (v.seat p 0).own) (sym (same_number t (w.job t).kind)) h), y))
tree_step o r p w v u l hs None (inl (same, inl (n, k))) j em by ab nr (inr (t, h, e)) rec = none_some (taken (w.stack (Worker p 0)).top) t n e
tree_step o r p w v u l hs None (inl (same, inr k)) j em by ab nr (inr (t, h, e)) rec = rec l (inr (t, subst (Hands o l (taken_number t)) (sym same) h, k ∙ e))
tree_step o r p w v u l hs None (inr (s, g, n, y)) j em by ab nr (inr (t, h, e)) rec = none_some (taken (w.stack (Worker p 0)).top) t n e
tree_step o r p w v u l hs (Some (Adds c t)) (grow, n, z) j em by ab nr (inl (e, a)) rec = add_grows o r c p u t l hs (by c t refl) (rec (l ++ t ∷ []) (inl (ap (λ z. z ++ t ∷ []) e ∙ sym grow, inl z)))
tree_step o r p w v u l hs (Some (Adds c t)) (grow, n, z) j em by ab nr (inr (s, h, e)) rec = none_some (taken (w.stack (Worker p 0)).top) s n e
tree_step o r p w v u l hs (Some (Begins t)) (same, y, z) j em by ab nr (inl (e, inl n)) rec = none_some (taken (w.stack (Worker p 0)).top) (Plain t) n y
tree_step o r p w v u l hs (Some (Begins t)) (same, y, z) j em by ab nr (inl (e, inr k)) rec = come_grows o r p u t l hs (e ∙ k) (ab t refl) (rec [] (inl (sym (same ∙ k), inl z)))
tree_step o r p w v u l hs (Some (Begins t)) (same, y, z) j em by ab nr (inr (s, h, e)) rec = hand_grows o r p u t l (w.seat p 0).own hs (subst (λ z. Hands o l (taken_number z) (w.seat p 0).own) (some_same (taken (w.stack (Worker p 0)).top) s (Plain t) e y) h)
    ((taken_once w (Worker p 0) (Plain t) j y).1 p 0) (ab t refl) (rec (w.seat p 0).own (inl (sym same, inl z)))
tree_step o r p w v u l hs (Some (Redeems k b x)) d j em by ab nr st rec = absurd (nr tt)
tree_step o r p w v u l hs (Some (Queues b c t)) d j em by ab nr st rec = absurd (nr tt)
tree_step o r p w v u l hs (Some (Retakes b)) d j em by ab nr st rec = absurd (nr tt)

-- what the list still has at the end
stocked_left : (h : Shape) (p : ℕ) (w : World) (l : List ℕ) → Reached h w → Stocked (h.pool p).order p l w → IsLeft w p l
stocked_left h p w l r (inl (e, a)) = left_of h p w l r (inl e)
stocked_left h p w l r (inr (t, a, e)) = left_of h p w l r (inr (t, a, e))

push_begins : (q : Party) (x : Place) (fs : List Place) (o : Option ℕ) (t : ℕ) → is_push x ≡ true → act_happens (act_of q x) fs o ≡ Some (Begins t) → ⊥
push_begins (Worker a b) (PushJob n v) fs o t z e = at (a == plan_pool n) e
  where
    at : (y : Bool) → act_happens (if y then PushOwn (plan_job n) (plan_book n) else PushInj (plan_pool n) (plan_job n) (plan_book n)) fs o ≡ Some (Begins t) → ⊥
    at true d = cc
    at false d = cc
push_begins (Caller c) (PushJob n v) fs o t z e = cc
push_begins (Worker a b) (PushToken f v) fs o t z e = cc
push_begins (Caller c) (PushToken f v) fs o t z e = cc
push_begins q _ fs o t z e = cc

line_begins : (q : Party) (x : Place) (fs : List Place) (o : Option ℕ) (t : ℕ) → is_line x ≡ true → act_happens (act_of q x) fs o ≡ Some (Begins t) → ⊥
line_begins (Worker a b) (AddToFifo f) fs o t z e = cc
line_begins (Caller c) (AddToFifo f) fs o t z e = cc
line_begins (Worker a b) (TakeFromFifo f) fs o t z e = cc
line_begins (Caller c) (TakeFromFifo f) fs o t z e = cc
line_begins q _ fs o t z e = cc

begins_start : (q : Party) (x : Place) (fs : List Place) (o : Option ℕ) (t : ℕ) → act_happens (act_of q x) fs o ≡ Some (Begins t) → is_start x ≡ true
begins_start q x fs o t e = elim (either (is_start x)) [
  | inl y ↦ y
  | inr y ↦ elim (either (is_push x)) [
    | inl z ↦ absurd (push_begins q x fs o t z e)
    | inr z ↦ elim (either (is_line x)) [
      | inl l ↦ absurd (line_begins q x fs o t l e)
      | inr l ↦ absurd (let k : act_happens (act_of q x) fs o ≡ None = silent q x fs o z y l in cc)
    ]
  ]
]

put_begun : (w : World) (q : Party) (s t : ℕ) → s ≡ t → 1 ≤ (put w.job s (begun q (w.job s)) t).runs
put_begun w q s t e = subst (λ z. 1 ≤ (put w.job s (begun q (w.job s)) z).runs) e (let k : (put w.job s (begun q (w.job s)) s).runs ≡ (w.job s).runs + 1 = ap (λ j. j.runs) (put_new w.job s (begun q (w.job s))) in omega (arith, k))

-- a job that begins has begun
begin_runs : (w : World) (p : ℕ) (x : Place) (fs : List Place) (o : Option ℕ) (t : ℕ) → act_happens (act_of (Worker p 0) x) fs o ≡ Some (Begins t) → IfSome (outcome w (Worker p 0) (record { top = x; below = fs })) (λ d. 1 ≤ ((result w (Worker p 0) (record { top = x; below = fs }) d).job t).runs)
begin_runs w p x fs o t e = at x e (begins_start (Worker p 0) x fs o t e)
  where
    at : (x : Place) → act_happens (act_of (Worker p 0) x) fs o ≡ Some (Begins t) → is_start x ≡ true → IfSome (outcome w (Worker p 0) (record { top = x; below = fs })) (λ d. 1 ≤ ((result w (Worker p 0) (record { top = x; below = fs }) d).job t).runs)
    at (BeginTask (Plain s)) d z = put_begun w (Worker p 0) s t (cc)
    at (BeginTask (Token k i c)) d z = absurd (cc)
    at (BeginHere s) d z = put_begun w (Worker p 0) s t (cc)
    at _ d z = absurd (cc)

pub begun_step : (w v : World) (p : ℕ) (e : Event) (t : ℕ) → happening p w e v ≡ Some (Begins t) → IfSome (step w e) (λ u. 1 ≤ (u.job t).runs)
begun_step w v p (Go q) t e = acted_keeps w q (w.stack q) (target_pool q (act_of q (w.stack q).top)) (target_worker q (act_of q (w.stack q).top)) (target_call (act_of q (w.stack q).top)) (job_at w q (act_of q (w.stack q).top)) (outcome w q (w.stack q)) (λ u. 1 ≤ (u.job t).runs)
    (at (same_party (Worker p 0) q) refl e)
  where
    at : (b : Bool) → same_party (Worker p 0) q ≡ b → (if b then act_happens (act_of q (w.stack q).top) (w.stack q).below (run_at (v.stack q).top) else None) ≡ Some (Begins t) → IfSome (outcome w q (w.stack q)) (λ d. 1 ≤ ((result w q (w.stack q) d).job t).runs)
    at true eb d =
        let me : Party = Worker p 0 in
        let F : Party → Type 0 = λ z. act_happens (act_of z (w.stack z).top) (w.stack z).below (run_at (v.stack z).top) ≡ Some (Begins t) → IfSome (outcome w z (w.stack z)) (λ d. 1 ≤ ((result w z (w.stack z) d).job t).runs) in
        let base : F me = begin_runs w p (w.stack me).top (w.stack me).below (run_at (v.stack me).top) t in
        subst F (same_party_true me q eb) base d
    at false eb d = absurd (cc)
begun_step w v p _ t e = absurd (cc)

-- the worker's act is none of a FIFO list
spawn_act : (q : Party) (x : Place) (fs : List Place) (r o : Option ℕ) → Stands IsSpawn r x fs → is_redeem (act_of q x) ≡ false → Nothing (act_happens (act_of q x) fs o) → ⊥
spawn_act (Worker a b) (BeginTask (Plain t)) fs r o s c n = n
spawn_act (Worker a b) (BeginTask (Token k i d)) fs r o s c n = cc
spawn_act (Caller a) (BeginTask (Plain t)) fs r o s c n = n
spawn_act (Caller a) (BeginTask (Token k i d)) fs r o s c n = cc
spawn_act q (AddToFifo f) fs r o s c n = absurd (s.0)
spawn_act q (TakeFromFifo f) fs r o s c n = absurd (s.0)
spawn_act q (BeginHere t) fs r o s c n = absurd s
spawn_act q (PushToken f v) fs r o s c n = absurd (s.0)
spawn_act (Worker a b) (PushJob d v) fs r o s c n = at (a == plan_pool d) n
  where
    at : (y : Bool) → Nothing (act_happens (if y then PushOwn (plan_job d) (plan_book d) else PushInj (plan_pool d) (plan_job d) (plan_book d)) fs o) → ⊥
    at true n = n
    at false n = n
spawn_act (Caller a) (PushJob d v) fs r o s c n = n
spawn_act q x fs r o s c n = subst Nothing (silent q x fs o refl refl refl) n

nothing_step : (p : ℕ) (w v : World) (e : Event) (r : Option ℕ) → StandsAt IsSpawn r (w.stack (Worker p 0)) → is_other p w e ≡ false → Nothing (happening p w e v) → ⊥
nothing_step p w v (Go q) r s calm n = by (same_party (Worker p 0) q) refl calm n
  where
    by : (b : Bool) → same_party (Worker p 0) q ≡ b → (b && is_redeem (act_of q (w.stack q).top)) ≡ false → Nothing (if b then act_happens (act_of q (w.stack q).top) (w.stack q).below (run_at (v.stack q).top) else None) → ⊥
    by true e c n = spawn_act q (w.stack q).top (w.stack q).below r (run_at (v.stack q).top) (subst (λ z. StandsAt IsSpawn r (w.stack z)) (same_party_true (Worker p 0) q e) s) c n
    by false e c n = n
nothing_step p w v _ r s calm n = n

not_both : (b : Bool) → b ≡ false → b ≡ true → ⊥
not_both true e f = cc
not_both false e f = cc

-- what it may call
spawns : (p : ℕ) (w : World) (e : Event) → is_other p w e ≡ false → Spawns IsSpawn p w e
spawns p w (Go q) c = tt
spawns p w (From q v) c = tt
spawns p w (Refuse q) c = tt
spawns p w (Miss q) c = tt
spawns p w (End q d) c = tt
spawns p w (Spawn q n) c = λ z. tt
spawns p w (IntoSpawn q n) c = λ z i e. tt
spawns p w (Fifo q n) c = λ z. absurd (not_both (same_party (Worker p 0) q) c z)
spawns p w (IntoFifo q n) c = λ z i e. absurd (not_both (same_party (Worker p 0) q) c z)
spawns p w _ c = c

tree_run : (h : Shape) (p : ℕ) → (h.pool p).workers ≡ 1 → (w u : World) (es : List Event) (l : List ℕ) (r : Option ℕ) → Reached h w → StandsAt IsSpawn r (w.stack (Worker p 0)) → Stocked (h.pool p).order p l w → IsRunWithout (is_other p) w es u → Grows (h.pool p).order r p u l
    (happenings p (Some w) es)
tree_run h p one w u [] l r x st k e = (l, refl, subst (λ z. IsLeft z p l) (sym e) (stocked_left h p w l x k))
tree_run h p one w u (e ∷ es) l r x st k (v, calm, s, rest) =
    let me : Party = Worker p 0 in
    let y : Reached h v = reach_on h w v e x s in
    let next : StandsAt IsSpawn (next_run r (happening p w e v))
    (v.stack me) = (let z : IfSome (Some v) (λ q. Stood IsSpawn w p (next_run r (happening p w e q)) q) = subst (λ o. IfSome o (λ q. Stood IsSpawn w p (next_run r (happening p w e q)) q)) s
    (step_stands w e p IsSpawn r (ap (λ z. (z.pool p).workers) (reached_shape h w x) ∙ one) (spawns p w e calm) st) in z) in
    subst (λ z. Grows (h.pool p).order r p u l (and_next (happened p w e z) (happenings p z es))) (sym s)
    (tree_step (h.pool p).order r p w v u l (happenings p (Some v) es) (happening p w e v) (deals_on h p one w v e x s) (reached_jobs h w x)
    (λ z. (reached_lists h w x).emptied p 0 (stands_emptied IsSpawn r (w.stack me).top (w.stack me).below st z))
    (λ c t d. adds_caller IsSpawn me (w.stack me).top (w.stack me).below r (run_at (v.stack me).top) c t st (event_acts p w e v (Adds c t) d))
    (λ t d. absent_run h p one (is_other p) v u es t y (let z : IfSome (Some v) (λ q. 1 ≤ (q.job t).runs) = subst (λ o. IfSome o (λ q. 1 ≤ (q.job t).runs)) s (begun_step w v p e t d) in z) rest)
    (nothing_step p w v e r st calm)
    k (λ m a. tree_run h p one v u es m (next_run r (happening p w e v)) y next a rest))

pub tree_law : TreeLaw
tree_law shape before p w u es one first between run = at (tree_run shape p one w u es (w.seat p 0).own None (record { events = before; run = first }) (subst (StandsAt IsSpawn None) (sym between) (refl, tt)) (inl (refl, inl (ap (λ k. taken k.top) between))) run)
  where
    at : Grows (shape.pool p).order None p u (w.seat p 0).own (happenings p (Some w) es) → (left : List ℕ) × IsWalk (shape.pool p).order (w.seat p 0).own (happenings p (Some w) es) left × IsLeft u p left
    at (left, a, b) =
        let g : Grown (shape.pool p).order None (w.seat p 0).own (happenings p (Some w) es) left = grown (shape.pool p).order None (w.seat p 0).own (happenings p (Some w) es) left tt a in
        (left, record { standing = g.standing; arrived = g.arrived; top = g.top; below = (g.below, g.later); order = g.order }, b)
