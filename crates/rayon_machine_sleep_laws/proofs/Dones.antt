-- no completion of a scope, of a broadcast or of a pool is lost: each step keeps that, where the count is 0, the latch
-- is set or a party comes to set it
--
-- `Nearly` is of scopes and broadcasts, `Coming` of pools.
use Rattle.std.proofs.Common.{arith, refl, sym, ◌∙◌, ap, subst, inl, inr, ◌≢◌}
use Rattle.rayon_machine_sleep_laws.proofs.Words.{ℕ, Bool, true, false, ◌&&◌, ◌+◌, ◌==◌, ◌≤◌, ◌<◌, nat_lt, nat_le, if◌then◌else◌, Some, List, [], ◌∷◌, ◌++◌, ◌≡◌, ◌⊎◌, IfSome, eqb-true, eq-eqb, lt-ltb, le-leb, Party, Worker, Caller, Latch, Terminate, OfCall, Settling, Place, SetLatch}
use Rattle.rayon_machine_sleep_laws.proofs.Words.{LockToSettle, WakeSettled, UnlockSettled, SetLockLatch, Set, Seen, Event, Go, IsSet, act_of, next_of, same_party, Shape, World, Part, counts_at, target_pool, target_call, after_move, step, IsRun, start, sets, SetsSo, comes_to}
use Rattle.rayon_machine_laws.specs.Latch.{is_set_by}
use Rattle.rayon_machine_laws.proofs.Attended.{always_shape}
use Rattle.rayon_machine_laws.proofs.ClaimRuns.{place_part}
use Rattle.rayon_machine_laws.proofs.Frame.{either, and_parts, if_some_all, if_some_map, same_party_true}
use Rattle.rayon_machine_laws.proofs.Pushing.{top_is}
use Rattle.rayon_machine_laws.proofs.ScopeCounts.{ScopesHold}
use Rattle.rayon_machine_laws.proofs.Scoping.{always_scopes}
use Rattle.rayon_machine_laws.proofs.SetLaws.{sets_law}
use Rattle.rayon_machine_laws.proofs.Setters.{is_of, is_end, walks, unset_from, passed}
use Rattle.rayon_machine_laws.proofs.Ties.{outcome, result}
use Rattle.rayon_machine_sleep_laws.specs.Done.{IsScopeDone, is_terminate, IsPoolDone}
use Rattle.rayon_machine_sleep_laws.proofs.Rests.{acted, stepped, goes, Rests, not_both, is_act, rests}
use Rattle.rayon_machine_sleep_laws.proofs.Zeros.{Zeroes, zeroes, not_short, sets_now, led_leads, Comes, ended_comes, walk_comes}

-- one step more
pub run_more : (w u v : World) (es : List Event) (e : Event) → IsRun w es u → step u e ≡ Some v → IsRun w (es ++ e ∷ []) v
run_more w u v [] e r s = (v, subst (λ x. step x e ≡ Some v) r s, refl)
run_more w u v (d ∷ es) e (x, one, rest) s = (x, one, run_more x u v es e rest s)

-- what each step of a run from the start keeps
abbrev pub Keeps : Shape → (World → Type 0) → Type 0
Keeps h P = (es : List Event) (w v : World) (e : Event) → IsRun (start h) es w → step w e ≡ Some v → P w → P v

keeps_on : (h : Shape) (P : World → Type 0) → Keeps h P → (es fs : List Event) (w u : World) → IsRun (start h) es w → P w → IsRun w fs u → P u
keeps_on h P f es [] w u r p z = subst P (sym z) p
keeps_on h P f es (e ∷ fs) w u r p (v, one, rest) = keeps_on h P f (es ++ e ∷ []) fs v u (run_more (start h) w v es e r one) (f es w v e r one p) rest

-- holds in every world of every run
pub always_kept : (h : Shape) (P : World → Type 0) → P (start h) → Keeps h P → (es : List Event) (w : World) → IsRun (start h) es w → P w
always_kept h P p f es w r = keeps_on h P f [] es (start h) w refl p r

-- the event is this party's act
abbrev pub acts : Party → Event → Bool
acts s (Go q) = same_party s q
acts s e = false

pub act_is : (s : Party) (e : Event) → acts s e ≡ true → e ≡ Go s
act_is s (Go q) z = ap Go (sym (same_party_true s q z))
act_is s e z = cc

-- a party that goes stands while others move
pub stands_go : (w : World) (q s : Party) → same_party s q ≡ false → IfSome (outcome w q (w.stack q)) (λ r. (result w q (w.stack q) r).stack s ≡ w.stack s)
stands_go w q s n = if_some_all {A = Seen × Part} (λ r. (result w q (w.stack q) r).stack s ≡ w.stack s) (λ r. rw n refl) (outcome w q (w.stack q))

stands_step : (w : World) (e : Event) (s : Party) → goes (w.stack s).top ≡ true → acts s e ≡ false → IfSome (step w e) (λ v. v.stack s ≡ w.stack s)
stands_step w (Go q) s g n = acted w q (λ v. v.stack s ≡ w.stack s) (stands_go w q s n)
stands_step w e s g n = if_some_map (Rests w) (λ v. v.stack s ≡ w.stack s) (λ v m. m.stands s g) (step w e) (rests w e refl)

pub stands : (w v : World) (e : Event) (s : Party) → goes (w.stack s).top ≡ true → acts s e ≡ false → step w e ≡ Some v → v.stack s ≡ w.stack s
stands w v e s g n z = stepped w v e (λ u. u.stack s ≡ w.stack s) z (stands_step w e s g n)

-- what an act does of which a count is 0 after it, and what a walk over the terminate latches does
record Ends (w : World) (q : Party) (v : World) : Type 0 where
  calls : (c : ℕ) → (v.call c).count ≡ 0 → ((w.call c).count ≡ 0) ⊎ (sets_now c (v.stack q).top ≡ true)
  pools : (p i : ℕ) → (v.pool p).count ≡ 0 → i < (w.shape.pool p).workers → ((w.pool p).count ≡ 0) ⊎ Comes p i (v.stack q).top
  walked : (p i : ℕ) → walks p (w.stack q).top ≡ true → passed (w.stack q).top ≤ i → i < (w.shape.pool p).workers → Comes p i (v.stack q).top

-- a walk touches its own pool
walk_pool : (q : Party) (x : Place) (p : ℕ) → walks p x ≡ true → target_pool q (act_of q x) ≡ p
walk_pool (Worker a b) (SetLatch k) p e = sym (eqb-true p k.pool ((and_parts (is_end k.latch) (p == k.pool) e).1))
walk_pool (Worker a b) (LockToSettle k) p e = sym (eqb-true p k.pool ((and_parts (is_end k.latch) (p == k.pool) e).1))
walk_pool (Worker a b) (WakeSettled k) p e = sym (eqb-true p k.pool ((and_parts (is_end k.latch) (p == k.pool) e).1))
walk_pool (Worker a b) (UnlockSettled k) p e = sym (eqb-true p k.pool ((and_parts (is_end k.latch) (p == k.pool) e).1))
walk_pool (Caller n) (SetLatch k) p e = sym (eqb-true p k.pool ((and_parts (is_end k.latch) (p == k.pool) e).1))
walk_pool (Caller n) (LockToSettle k) p e = sym (eqb-true p k.pool ((and_parts (is_end k.latch) (p == k.pool) e).1))
walk_pool (Caller n) (WakeSettled k) p e = sym (eqb-true p k.pool ((and_parts (is_end k.latch) (p == k.pool) e).1))
walk_pool (Caller n) (UnlockSettled k) p e = sym (eqb-true p k.pool ((and_parts (is_end k.latch) (p == k.pool) e).1))
walk_pool q x p e = cc

go_ends : (w : World) (q : Party) → ScopesHold w → IfSome (outcome w q (w.stack q)) (λ r. Ends w q (result w q (w.stack q) r))
go_ends w q h = if_some_map (Zeroes q m x) (λ r. Ends w q (result w q (w.stack q) r)) (λ r f. record { calls = calls r f; pools = pools r f; walked = walked r }) (outcome w q (w.stack q)) (zeroes w.shape q (counts_at w t) m x)
  where
    x : Place
    x = (w.stack q).top

    fs : List Place
    fs = (w.stack q).below

    m : Part
    m = place_part w q x

    t : ℕ
    t = target_pool q (act_of q x)

    d : ℕ
    d = target_call (act_of q x)

    to : (r : Seen × Part) → ((result w q (w.stack q) r).stack q).top ≡ (after_move (next_of (w.shape.pool t) q x (r.0)) fs).top
    to r = top_is w q (w.stack q) r

    calls : (r : Seen × Part) → Zeroes q m x r → (c : ℕ) → ((result w q (w.stack q) r).call c).count ≡ 0 → ((w.call c).count ≡ 0) ⊎ (sets_now c ((result w q (w.stack q) r).stack q).top ≡ true)
    calls r f c = by (c == d) refl
      where
        by : (b : Bool) → (c == d) ≡ b → (if b then r.1.call else w.call c).count ≡ 0 → ((w.call c).count ≡ 0) ⊎ (sets_now c ((result w q (w.stack q) r).stack q).top ≡ true)
        by false e z = inl z
        by true e z = elim (f.call z) [
          | inl a ↦ inl (ap (λ n. (w.call n).count) (eqb-true c d e) ∙ a)
          | inr a ↦ elim a [
            | inl y ↦ inr (ap (sets_now c) (to r) ∙ led_leads (w.shape.pool t) q x (r.0) fs c (y ∙ ap Some (sym (eqb-true c d e))))
            | inr s ↦ absurd (not_short w q x fs h refl s)
          ]
        ]

    pools : (r : Seen × Part) → Zeroes q m x r → (p i : ℕ) → ((result w q (w.stack q) r).pool p).count ≡ 0 → i < (w.shape.pool p).workers → ((w.pool p).count ≡ 0) ⊎ Comes p i ((result w q (w.stack q) r).stack q).top
    pools r f p i = by (p == t) refl
      where
        by : (b : Bool) → (p == t) ≡ b → (if b then r.1.pool else w.pool p).count ≡ 0 → i < (w.shape.pool p).workers → ((w.pool p).count ≡ 0) ⊎ Comes p i ((result w q (w.stack q) r).stack q).top
        by false e z l = inl z
        by true e z l = elim (f.pool z) [
          | inl a ↦ inl (ap (λ n. (w.pool n).count) (eqb-true p t e) ∙ a)
          | inr a ↦ elim a [
            | inl y ↦ inr (subst (Comes p i) (sym (to r)) (ended_comes (w.shape.pool t) q x (r.0) fs p i (y ∙ ap Some (sym (eqb-true p t e))) (subst (λ n. i < (w.shape.pool n).workers) (eqb-true p t e) l)))
            | inr s ↦ absurd (not_short w q x fs h refl s)
          ]
        ]

    walked : (r : Seen × Part) → (p i : ℕ) → walks p x ≡ true → passed x ≤ i → i < (w.shape.pool p).workers → Comes p i ((result w q (w.stack q) r).stack q).top
    walked r p i y a l = subst (Comes p i) (sym (to r)) (walk_comes (w.shape.pool t) q x (r.0) fs p i y a (subst (λ n. i < (w.shape.pool n).workers) (sym (walk_pool q x p y)) l))

go_step : (w v : World) (q : Party) → ScopesHold w → step w (Go q) ≡ Some v → Ends w q v
go_step w v q h z = stepped w v (Go q) (Ends w q) z (acted w q (Ends w q) (go_ends w q h))

rest_step : (w v : World) (e : Event) → is_act e ≡ false → step w e ≡ Some v → Rests w v
rest_step w v e n z = stepped w v e (Rests w) z (rests w e n)

-- a place that sets the latch of a call goes, and its act does so
now_goes : (c : ℕ) (x : Place) → sets_now c x ≡ true → goes x ≡ true
now_goes c (SetLatch k) e = refl
now_goes c (SetLockLatch d t) e = refl
now_goes c x e = cc

latch_now : (c p i r j : ℕ) (l : Latch) → is_of c l ≡ true → sets p i (OfCall c) (Set l r j) ≡ true
latch_now c p i r j Terminate e = cc
latch_now c p i r j (OfCall d) e = e

pub now_sets : (c p i : ℕ) (q : Party) (x : Place) → sets_now c x ≡ true → sets p i (OfCall c) (act_of q x) ≡ true
now_sets c p i (Worker a b) (SetLatch k) e = latch_now c p i k.pool k.worker k.latch e
now_sets c p i (Caller n) (SetLatch k) e = latch_now c p i k.pool k.worker k.latch e
now_sets c p i (Worker a b) (SetLockLatch d t) e = e
now_sets c p i (Caller n) (SetLockLatch d t) e = e
now_sets c p i q x e = cc

-- a call whose latch is set, or is about to be
abbrev pub Nearly : World → ℕ → Type 0
Nearly w c = ((w.call c).latch ≡ IsSet) ⊎ ((s : Party) × (sets_now c (w.stack s).top ≡ true))

-- stays so
pub nearly_on : (w v : World) (e : Event) (c : ℕ) → ((p i : ℕ) (l : Latch) → SetsSo w v e p i l) → step w e ≡ Some v → Nearly w c → Nearly v c
nearly_on w v e c so z (inl a) = inl ((so 0 0 (OfCall c)).stays a)
nearly_on w v e c so z (inr (s, n)) = by (acts s e) refl
  where
    by : (b : Bool) → acts s e ≡ b → Nearly v c
    by true y = inl ((so 0 0 (OfCall c)).set (ap (λ d. is_set_by w d 0 0 (OfCall c)) (act_is s e y) ∙ now_sets c 0 0 s (w.stack s).top n))
    by false y = inr (s, ap (λ k. sets_now c (k.top)) (stands w v e s (now_goes c (w.stack s).top n) y z) ∙ n)

-- each call whose count is 0
abbrev AllNearly : World → Type 0
AllNearly w = (c : ℕ) → (w.call c).count ≡ 0 → Nearly w c

abbrev Sos : World → World → Event → Type 0
Sos w v e = (p i : ℕ) (l : Latch) → SetsSo w v e p i l

calls_step : (w v : World) (e : Event) → ScopesHold w → Sos w v e → step w e ≡ Some v → AllNearly w → AllNearly v
calls_step w v (Go q) h so z a c n = elim ((go_step w v q h z).calls c n) [
  | inl y ↦ nearly_on w v (Go q) c so z (a c y)
  | inr y ↦ inr (q, y)
]
calls_step w v e h so z a c n = nearly_on w v e c so z (a c ((rest_step w v e refl z).calls c n))

calls_keep : (h : Shape) → Keeps h AllNearly
calls_keep h es w v e r z a = calls_step w v e (always_scopes h es w r) (λ p i l. sets_law h es w v e p i l r z) z a

pub always_nearly : (h : Shape) (es : List Event) (w : World) → IsRun (start h) es w → AllNearly w
always_nearly h es w r = always_kept h AllNearly (λ c n. absurd (omega (arith, n))) (calls_keep h) es w r

pub scope_done : (w : World) → AllNearly w → IsScopeDone w
scope_done w a c n = elim (a c n) [ inl y ↦ inl y | inr y ↦ inr (record { party = y.0; next = now_sets c 0 0 (y.0) (w.stack (y.0)).top (y.1) }) ]

-- a walk goes; at a worker's latch its act sets that one, or it has not passed the worker
walk_goes : (p : ℕ) (x : Place) → walks p x ≡ true → goes x ≡ true
walk_goes p (SetLatch k) e = refl
walk_goes p (LockToSettle k) e = refl
walk_goes p (WakeSettled k) e = refl
walk_goes p (UnlockSettled k) e = refl
walk_goes p x e = cc

latch_end : (p i r j : ℕ) (l : Latch) → (is_end l && (p == r)) ≡ true → (i == j) ≡ true → sets p i Terminate (Set l r j) ≡ true
latch_end p i r j Terminate e f = rw (e, f) refl
latch_end p i r j (OfCall c) e f = cc

set_or_on : (p i : ℕ) (k : Settling) → (is_end k.latch && (p == k.pool)) ≡ true → k.worker ≤ i → (sets p i Terminate (Set k.latch k.pool k.worker) ≡ true) ⊎ (k.worker + 1 ≤ i)
set_or_on p i k e l = elim (either (i == k.worker)) [
  | inl y ↦ inl (latch_end p i k.pool k.worker k.latch e y)
  | inr y ↦ inr (let d : i ≢ k.worker = λ s. not_both (i == k.worker) (eq-eqb i k.worker s) y in omega (arith, d, l))
]

sets_or_on : (q : Party) (x : Place) (p i : ℕ) → walks p x ≡ true → unset_from x ≤ i → (sets p i Terminate (act_of q x) ≡ true) ⊎ (passed x ≤ i)
sets_or_on (Worker a b) (SetLatch k) p i e l = set_or_on p i k e l
sets_or_on (Caller n) (SetLatch k) p i e l = set_or_on p i k e l
sets_or_on q (LockToSettle k) p i e l = inr l
sets_or_on q (WakeSettled k) p i e l = inr l
sets_or_on q (UnlockSettled k) p i e l = inr l
sets_or_on q x p i e l = cc

-- a terminate latch that is set, or that a walk comes to
abbrev Coming : World → ℕ → ℕ → Type 0
Coming w p i = ((w.seat p i).latch ≡ IsSet) ⊎ ((s : Party) × Comes p i (w.stack s).top)

abbrev AllComing : World → Type 0
AllComing w = (p i : ℕ) → (w.pool p).count ≡ 0 → i < (w.shape.pool p).workers → Coming w p i

-- the party that walks moves itself
walker_on : (w v : World) (s : Party) (p i : ℕ) → ScopesHold w → Sos w v (Go s) → step w (Go s) ≡ Some v → i < (w.shape.pool p).workers → Comes p i (w.stack s).top → Coming v p i
walker_on w v s p i h so z l n = elim (sets_or_on s (w.stack s).top p i (n.0) (n.1)) [
  | inl y ↦ inl ((so p i Terminate).set y)
  | inr y ↦ inr (s, (go_step w v s h z).walked p i (n.0) y l)
]

coming_on : (w v : World) (e : Event) (p i : ℕ) → ScopesHold w → Sos w v e → step w e ≡ Some v → i < (w.shape.pool p).workers → Coming w p i → Coming v p i
coming_on w v e p i h so z l (inl a) = inl ((so p i Terminate).stays a)
coming_on w v e p i h so z l (inr (s, n)) = by (acts s e) refl
  where
    by : (b : Bool) → acts s e ≡ b → Coming v p i
    by true y = let f : e ≡ Go s = act_is s e y in walker_on w v s p i h (subst (Sos w v) f so) (subst (λ d. step w d ≡ Some v) f z) l n
    by false y = inr (s, subst (λ k. Comes p i (k.top)) (sym (stands w v e s (walk_goes p (w.stack s).top (n.0)) y z)) n)

pools_step : (w v : World) (e : Event) → ScopesHold w → Sos w v e → step w e ≡ Some v → v.shape ≡ w.shape → AllComing w → AllComing v
pools_step w v (Go q) h so z g a p i n l =
    let m : i < (w.shape.pool p).workers = subst (λ s. i < (s.pool p).workers) g l in
    elim ((go_step w v q h z).pools p i n m) [ inl y ↦ coming_on w v (Go q) p i h so z m (a p i y m) | inr y ↦ inr (q, y) ]
pools_step w v e h so z g a p i n l =
    let m : i < (w.shape.pool p).workers = subst (λ s. i < (s.pool p).workers) g l in
    coming_on w v e p i h so z m (a p i (sym ((rest_step w v e refl z).pools p) ∙ n) m)

pools_keep : (h : Shape) → Keeps h AllComing
pools_keep h es w v e r z a = pools_step w v e (always_scopes h es w r) (λ p i l. sets_law h es w v e p i l r z) z (always_shape h (es ++ e ∷ []) v (run_more (start h) w v es e r z) ∙ sym (always_shape h es w r)) a

pub always_coming : (h : Shape) (es : List Event) (w : World) → IsRun (start h) es w → AllComing w
always_coming h es w r = always_kept h AllComing (λ p i n l. absurd (omega (arith, n))) (pools_keep h) es w r

-- in the words of the law
told : (p : ℕ) (k : Settling) (b : Bool) → (is_end k.latch && (p == k.pool)) ≡ true → b ≡ true → (is_terminate k.latch && ((p == k.pool) && b)) ≡ true
told p k b e f = by k.latch refl
  where
    by : (l : Latch) → k.latch ≡ l → (is_terminate k.latch && ((p == k.pool) && b)) ≡ true
    by Terminate y = let a : (p == k.pool) ≡ true = (and_parts (is_end k.latch) (p == k.pool) e).1 in ap (λ l. is_terminate l && ((p == k.pool) && b)) y ∙ rw (a, f) refl
    by (OfCall c) y = absurd (not_both (is_end k.latch) ((and_parts (is_end k.latch) (p == k.pool) e).0) (ap is_end y))

comes_told : (p i : ℕ) (x : Place) → Comes p i x → comes_to p i x ≡ true
comes_told p i (SetLatch k) n = told p k (nat_le k.worker i) (n.0) (le-leb k.worker i (n.1))
comes_told p i (LockToSettle k) n = told p k (nat_lt k.worker i) (n.0) (lt-ltb k.worker i (let a : k.worker + 1 ≤ i = n.1 in omega (arith, a)))
comes_told p i (WakeSettled k) n = told p k (nat_lt k.worker i) (n.0) (lt-ltb k.worker i (let a : k.worker + 1 ≤ i = n.1 in omega (arith, a)))
comes_told p i (UnlockSettled k) n = told p k (nat_lt k.worker i) (n.0) (lt-ltb k.worker i (let a : k.worker + 1 ≤ i = n.1 in omega (arith, a)))
comes_told p i x n = absurd (not_both false (n.0) refl)

pub pool_done : (w : World) → AllComing w → IsPoolDone w
pool_done w a p i n l = elim (a p i n l) [ inl y ↦ inl y | inr y ↦ inr (record { party = y.0; comes = comes_told p i (w.stack (y.0)).top (y.1) }) ]
