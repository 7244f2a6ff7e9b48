-- the faults that calls keep, over each act
use Rattle.std.proofs.Common.{◌∙◌, ap, inl, inr, refl, subst, sym}
use Rattle.rayon_machine_orders.proofs.Words.{eqb-true, ◌⊎◌, ◌≡◌, ◌==◌, ◌+◌, ◌≤◌, ℕ, if◌then◌else◌, Bool, IfSome, List, None, Option, Some, false, true, is_of_scope, follows, IsStoredFor, stored_by, act_of, next_of, same_party, after_move, put, Counts, Outcome, Part, World, counts_at}
use Rattle.rayon_machine_orders.proofs.Words.{target_call, target_pool, told, Seen, Found, Ending, Fault, Fine, JobKind, Scoped, WholeOf, OpenCall, Party, Caller, Worker, Place, StoreBody, StorePiece, StoreResult, StoreSlot, TakeResult, Then, Answers, Await, BeginFound, Called, Gathers}
use Rattle.rayon_machine_orders.proofs.Words.{GiveBack, LeaveWait, Missing as NoResult, Ran, Resume, RunFirst, Over}
use Rattle.rayon_machine_laws.proofs.ClaimActs.{Lasting, Written, act_written, stores}
use Rattle.rayon_machine_laws.proofs.ClaimRuns.{CallsHold, place_part, top_says, world_after}
use Rattle.rayon_machine_laws.proofs.Claims.{EndsAs, FirstEnds, IsReady, Opened, Says, SaysThen, call_kind, is_body}
use Rattle.rayon_machine_laws.proofs.Endings.{follows_says}
use Rattle.rayon_machine_laws.proofs.Frame.{either, if_some_and, if_some_map, same_party_refl, same_party_true, stack_mine, stack_other}
use Rattle.rayon_machine_laws.proofs.ShareEvents.{ready}
use Rattle.rayon_machine_laws.proofs.ShareSteps.{Ready}
use Rattle.rayon_machine_laws.proofs.Ties.{AllFrames, job_at, outcome, result}
use Rattle.rayon_machine_laws.proofs.Tops.{Tops, top_after}
use Rattle.rayon_machine_orders.proofs.FaultPlaces.{NoEnd, On, Told, act_end, answer_of, answers_on, frame_on, is_storing, moved_end, sees_answer, then_answer, told_of}
use Rattle.rayon_machine_orders.proofs.Faults.{Answered, FaultOf, FaultsHold, FirstOf, KeepsFor, StoredSo, TakesOf, act_first, act_takes, call_bodied, call_matches, hold_of, is_whole, keeps_fault, keeps_new, keeps_none, keeps_on, keeps_quiet, keeps_told, puts, puts_counts, puts_says}
use Rattle.rayon_machine_orders.proofs.Faults.{puts_stored, stored_none, stored_now, stored_so}
use Rattle.rayon_machine_orders.proofs.FilledStates.{FilledHold}
use Rattle.rayon_machine_orders.proofs.Takes.{seen_set}

-- what an act leaves of the faults
record Act (w : World) (q : Party) (x : Place) (fs : List Place) (r : Seen × Part) : Type 0 where
  last : Lasting w (world_after w q x fs r)
  written : Written (place_part w q x) x r
  end : NoEnd (place_part w q x) r
  first : FirstOf w q x r
  takes : TakesOf w x r
  goes : Tops (On (sees_answer x (r.0))) (next_of (w.shape.pool (target_pool q (act_of q x))) q x (r.0))

-- an answer stays while its call keeps what it keeps
pub answered_on : (w u : World) (o : OpenCall) (e : Ending) → ((d : Ending) → (w.job o.job).at ≡ Over d → (u.job o.job).at ≡ Over d) → (u.job o.job).kind ≡ (w.job o.job).kind → (u.call o.number).fault ≡ (w.call o.number).fault → ((w.call o.number).count ≡ 0 → (u.call o.number).count ≡ 0)
    → Answered w o e → Answered u o e
answered_on w u o e over kind fault count a = record {
  own = a.own;
  at = λ b. over a.own (a.at (ap is_whole (sym kind) ∙ b));
  is = a.is ∙ ap (λ k. told k a.own) (sym fault);
  count = λ b. count (a.count (ap is_body (sym kind) ∙ b));
  fine = λ b n. a.fine (ap is_body (sym kind) ∙ b) (sym fault ∙ n);
}

answer_then : (t : Then) (o : OpenCall) (f : Option Ending) (e : Ending) → then_answer t ≡ Some (o, (f, e)) → t ≡ Answers o f e
answer_then (Answers a g d) o f e z = let i : ◌≡◌ {A = Told} (a, (g, d)) (o, (f, e)) = cc in ap (λ v. Answers (v.0) ((v.1).0) ((v.1).1)) i
answer_then _ o f e z = cc

answer_follows : (k : Option Then) (o : OpenCall) (f : Option Ending) (e : Ending) → told_of k ≡ Some (o, (f, e)) → k ≡ Some (Answers o f e)
answer_follows None o f e z = cc
answer_follows (Some t) o f e z = ap Some (answer_then t o f e z)

pub answer_says : (w : World) (q : Party) (o : OpenCall) (f : Option Ending) (e : Ending) → CallsHold w → answer_of (w.stack q).top ≡ Some (o, (f, e)) → SaysThen w q (Answers o f e)
answer_says w q o f e h z = follows_says w q ((w.stack q).top) (Answers o f e) (answer_follows (follows (w.stack q).top) o f e z) ((h.says q).top)

-- a place that answers stores nothing
answer_quiet : (x : Place) (a : Told) → answer_of x ≡ Some a → is_storing x ≡ false
answer_quiet (StoreBody o e) a z = cc
answer_quiet (StoreSlot c o t e) a z = cc
answer_quiet (StorePiece c o t e) a z = cc
answer_quiet _ a z = refl

sees_cases : (x : Place) (s : Seen) (a : Told) → sees_answer x s ≡ Some a → (answer_of x ≡ Some a) ⊎ ((o : OpenCall) × ((f : Option Ending) × ((d : Ending) × ((x ≡ TakeResult o f) × ((s ≡ Found d) × ((o, (f, d)) ≡ a))))))
sees_cases (TakeResult o f) (Found d) a z = inr (o, (f, (d, (refl, (refl, (let i : ◌≡◌ {A = Told} (o, (f, d)) a = cc in i))))))
sees_cases x s a z = inl z

-- the count of a scope, or of a broadcast, whose latch its call has seen set
pub taken_count : (w : World) (q : Party) (o : OpenCall) (f : Option Ending) → FaultsHold w → (w.stack q).top ≡ TakeResult o f → is_body (w.job o.job).kind ≡ true → (w.call o.number).count ≡ 0
taken_count w q o f h z b = by ((calls.latches (o.number) ((h.fills).seen q (o.number) (ap seen_set z))).1)
  where
    calls : CallsHold w
    calls = hold_of w h

    says : Opened w q o × FirstEnds w (w.call o.number).first f
    says = subst (Says w q) z ((calls.says q).top)

    by : IsReady w o.number → (w.call o.number).count ≡ 0
    by (inl a) = absurd (let i : is_body (w.job (w.call o.number).job).kind ≡ true = ap (λ n. is_body (w.job n).kind) ((says.0).target) ∙ b in let c : true ≡ false = sym i ∙ (a.0).1 in cc)
    by (inr a) = a

party_is : (c d : ℕ) (q r : Party) → ◌≡◌ {A = Option (ℕ × Party)} (Some (c, q)) (Some (d, r)) → q ≡ r
party_is c d q r e = let i : ◌≡◌ {A = ℕ × Party} (c, q) (d, r) = cc in ap (λ v. v.1) i

-- nobody stores anything for a call that answers
unstored : (w : World) (q r : Party) (o : OpenCall) (f : Option Ending) (e : Ending) → FaultsHold w → same_party r q ≡ false → answer_of (w.stack r).top ≡ Some (o, (f, e)) → stored_by w o.number (act_of q (w.stack q).top) ≡ None
unstored w q r o f e h d z = by (stored_by w o.number (act_of q (w.stack q).top)) refl
  where
    calls : CallsHold w
    calls = hold_of w h

    mine : Opened w r o
    mine = (answer_says w r o f e calls z).0

    body_apart : (p : OpenCall) → Opened w q p → p.number ≡ o.number → ⊥
    body_apart p s i =
        let j : p.job ≡ o.job = sym s.target ∙ ap (λ n. (w.call n).job) i ∙ mine.target in
        let k : q ≡ r = party_is p.number o.number q r (sym s.kind ∙ ap (λ n. call_kind (w.job n).kind) j ∙ mine.kind) in
        absurd (let a : same_party r q ≡ true = ap (same_party r) k ∙ same_party_refl r in let b : true ≡ false = sym a ∙ d in cc)

    job_apart : (t : ℕ) (x : Ending) → puts (w.stack q).top ≡ Some (o.number, (t, x)) → ⊥
    job_apart t x y =
        let s : (t + 1 ≤ w.jobs) × (is_of_scope o.number (w.job t).kind ≡ true) = puts_says w q ((w.stack q).top) o.number t x ((calls.says q).top) y in
        let k : is_body (w.job o.job).kind ≡ true = ap (λ m. is_body (w.job m).kind) (sym mine.target) ∙ (call_bodied w calls t o.number (s.0) (s.1)).1 in
        puts_counts w h q o.number t x y ((h.answers r o f e z).count k)

    stored : (t : ℕ) (x : Ending) → StoredSo w q (w.stack q).top o.number t x → ⊥
    stored t x s = elim s.place [
      | inl p ↦ body_apart (p.0) (((subst (Says w q) ((p.1).0) ((calls.says q).top)).0).0) ((p.1).1)
      | inr p ↦ job_apart t x p
    ]

    by : (k : Option (ℕ × Ending)) → stored_by w o.number (act_of q (w.stack q).top) ≡ k → k ≡ None
    by None y = refl
    by (Some (t, x)) y = absurd (stored t x (stored_so w h q ((w.stack q).top) o.number t x ((calls.says q).top) y))

-- who fills the cell of a scope, or of a broadcast, with a fault has it keep one
pub some_end : (a b : Ending) → Some a ≡ Some b → a ≡ b
some_end a b e = cc

store_fault : (w : World) (q : Party) (x : Place) (c : ℕ) → stores x ≡ Some Fault → c ≡ target_call (act_of q x) → is_body (w.job (w.call c).job).kind ≡ true → Says w q x → ((t : ℕ) → stored_by w c (act_of q x) ≡ Some (t, Fault) → ⊥) → ⊥
store_fault w (Worker i j) (StoreResult d o e) c z y b s f = absurd (let a : is_body (w.job (w.call c).job).kind ≡ false = ap (λ n. is_body (w.job (w.call n).job).kind) y ∙ (s.2).1 in let k : true ≡ false = sym b ∙ a in cc)
store_fault w (Caller m) (StoreResult d o e) c z y b s f = absurd (let a : is_body (w.job (w.call c).job).kind ≡ false = ap (λ n. is_body (w.job (w.call n).job).kind) y ∙ (s.2).1 in let k : true ≡ false = sym b ∙ a in cc)
store_fault w (Worker i j) (StoreBody o e) c z y b s f = f ((w.call o.number).job) (stored_now c o.number ((w.call o.number).job) ((w.call o.number).job) e y refl (some_end e Fault z))
store_fault w (Caller m) (StoreBody o e) c z y b s f = f ((w.call o.number).job) (stored_now c o.number ((w.call o.number).job) ((w.call o.number).job) e y refl (some_end e Fault z))
store_fault w (Worker i j) (StorePiece d o u e) c z y b s f = f u (stored_now c d u u e y refl (some_end e Fault z))
store_fault w (Caller m) (StorePiece d o u e) c z y b s f = f u (stored_now c d u u e y refl (some_end e Fault z))
store_fault w q _ c z y b s f = absurd (cc)

-- whose endings are stored for a call stays so
pub stored_for_on : (w u : World) (c t : ℕ) (k : JobKind) → (u.call c).job ≡ (w.call c).job → (u.job t).kind ≡ (w.job t).kind → IsStoredFor w c t k → IsStoredFor u c t k
stored_for_on w u c t (WholeOf d p) i j s = (s.0, j ∙ s.1)
stored_for_on w u c t _ i j s = own s
  where
    own : (t ≡ (w.call c).job) ⊎ ((o : Party) × ((w.job t).kind ≡ Scoped c o)) → (t ≡ (u.call c).job) ⊎ ((o : Party) × ((u.job t).kind ≡ Scoped c o))
    own (inl e) = inl (e ∙ sym i)
    own (inr e) = inr (e.0, j ∙ e.1)

-- how a call's own job ended, whose cell tells it, if that is one that runs
pub cell_ended : (w : World) → CallsHold w → (c : ℕ) (e : Ending) → is_whole (w.job (w.call c).job).kind ≡ false → (w.call c).cell ≡ Some e → (w.job (w.call c).job).at ≡ Over e
cell_ended w h c e n z = by (h.cells c e z)
  where
    by : EndsAs w (w.call c).job c e → (w.job (w.call c).job).at ≡ Over e
    by (inl a) = a
    by (inr p) = absurd (let a : is_whole (w.job (w.call c).job).kind ≡ true = ap is_whole ((h.parts (p.job) (p.made) c (p.owner) (p.kind)).kind) in let b : true ≡ false = sym a ∙ n in cc)

-- an act
faults_act : (w : World) (q : Party) (x : Place) (fs : List Place) (r : Seen × Part) → FaultsHold w → w.stack q ≡ record { top = x; below = fs } → Act w q x fs r → FilledHold (world_after w q x fs r) → FaultsHold (world_after w q x fs r)
faults_act w q x fs r h z d g = record {
  fills = g;
  kept = λ c t e. kept c t (keeps_new (call_sort c) (w.call c).fault (stored_by w c (act_of q x)) (u.call c).fault t (d.first c) e);
  untold = λ t c l s a. (let i : is_of_scope c (w.job t).kind ≡ true = ap (is_of_scope c) (sym (lasts.kinds t)) ∙ s in subst (λ j. KeepsFor j (u.call c).fault t ⊎ ((p : Party) × (puts (u.stack p).top ≡ Some (c, (t, Fault))))) (sym (lasts.kinds t))
      (untold t c l i (h.untold t c l i (ended t Fault a))));
  whole = λ t c o l k. (lasts.later).gone t (h.whole t c o l (sym (lasts.kinds t) ∙ k));
  body = λ c l b e n. body c l (sym (ap is_body (lasts.kinds ((u.call c).job) ∙ ap (λ m. (w.job m).kind) (lasts.targets c))) ∙ b) n (c == target_call (act_of q x)) refl e;
  first = λ c l. (subst (λ m. m + 1 ≤ w.jobs) (sym (lasts.targets c)) ((h.first c l).0), λ b. (lasts.later).side c l ∙ (h.first c l).1 (sym (ap is_body (lasts.kinds ((u.call c).job) ∙ ap (λ m. (w.job m).kind) (lasts.targets c))) ∙ b));
  answers = λ s o f e y. answers s o f e y (same_party s q) refl;
}
  where
    u : World
    u = world_after w q x fs r

    lasts : Lasting w u
    lasts = d.last

    calls : CallsHold w
    calls = hold_of w h

    top : (w.stack q).top ≡ x
    top = ap (λ k. k.top) z

    says : Says w q x
    says = top_says w q x fs calls z

    over : (t : ℕ) (e : Ending) → (w.job t).at ≡ Over e → (u.job t).at ≡ Over e
    over = (lasts.later).over

    ended : (t : ℕ) (e : Ending) → (u.job t).at ≡ Over e → (w.job t).at ≡ Over e
    ended t e a = by (t == job_at w q (act_of q x)) refl (moved_end q (next_of (w.shape.pool (target_pool q (act_of q x))) q x (r.0)) (put w.job (job_at w q (act_of q x)) (r.1.job)) t e a)
      where
        by : (b : Bool) → (t == job_at w q (act_of q x)) ≡ b → (if b then r.1.job else w.job t).at ≡ Over e → (w.job t).at ≡ Over e
        by true y k = ap (λ n. (w.job n).at) (eqb-true t (job_at w q (act_of q x)) y) ∙ d.end e k
        by false y k = k

    call_sort : ℕ → JobKind
    call_sort c = (w.job (w.call c).job).kind

    sort_on : (c : ℕ) → (u.job (u.call c).job).kind ≡ call_sort c
    sort_on c = lasts.kinds ((u.call c).job) ∙ ap (λ m. (w.job m).kind) (lasts.targets c)

    was_none : (c : ℕ) → (u.call c).fault ≡ None → (w.call c).fault ≡ None
    was_none c n = keeps_none (call_sort c) (w.call c).fault (stored_by w c (act_of q x)) (u.call c).fault (d.first c) n

    inside : (c t : ℕ) → IsStoredFor w c t (call_sort c) → IsStoredFor u c t (u.job (u.call c).job).kind
    inside c t i = subst (IsStoredFor u c t) (sym (sort_on c)) (stored_for_on w u c t (call_sort c) (lasts.targets c) (lasts.kinds t) i)

    -- another party's top stays
    stays_put : (p : Party) (c t : ℕ) → same_party p q ≡ false → puts (w.stack p).top ≡ Some (c, (t, Fault)) → puts (u.stack p).top ≡ Some (c, (t, Fault))
    stays_put p c t i y = ap (λ k. puts k.top) (stack_other w.stack q (after_move (next_of (w.shape.pool (target_pool q (act_of q x))) q x (r.0)) fs) p i) ∙ y

    untold : (t c : ℕ) → t + 1 ≤ w.jobs → is_of_scope c (w.job t).kind ≡ true → KeepsFor (w.job t).kind (w.call c).fault t ⊎ ((p : Party) × (puts (w.stack p).top ≡ Some (c, (t, Fault)))) → KeepsFor (w.job t).kind (u.call c).fault t ⊎ ((p : Party) × (puts (u.stack p).top ≡ Some (c, (t, Fault))))
    untold t c l s (inl k) = inl (keeps_on (w.job t).kind (call_sort c) (w.call c).fault (stored_by w c (act_of q x)) (u.call c).fault t (call_matches w calls t c l s) (d.first c) k)
    untold t c l s (inr (p, y)) = elim (either (same_party p q)) [
      | inl i ↦ inl (keeps_told (w.job t).kind (call_sort c) (w.call c).fault (stored_by w c (act_of q x)) (u.call c).fault t (call_matches w calls t c l s) (puts_stored w q x c t (ap puts (sym top) ∙ ap (λ k. puts (w.stack k).top) (sym (same_party_true p q i)) ∙ y)) (d.first c))
      | inr i ↦ inr (p, stays_put p c t i y)
    ]

    kept : (c t : ℕ) → ((w.call c).fault ≡ Some t) ⊎ (stored_by w c (act_of q x) ≡ Some (t, Fault)) → FaultOf u c t
    kept c t (inl e) = let a : FaultOf w c t = h.kept c t e in record { call = a.call; made = a.made; at = over t Fault a.at; inside = inside c t a.inside }
    kept c t (inr e) = let a : StoredSo w q x c t Fault = stored_so w h q x c t Fault says e in record { call = a.call; made = a.made; at = over t Fault a.at; inside = inside c t a.inside }

    body : (c : ℕ) → c + 1 ≤ w.calls → is_body (w.job (w.call c).job).kind ≡ true → (u.call c).fault ≡ None → (b : Bool) → (c == target_call (act_of q x)) ≡ b → (if b then r.1.call else w.call c).cell ≡ Some Fault → ⊥
    body c l b n false y e = h.body c l b e (was_none c n)
    body c l b n true y e = elim ((d.written).cell Fault e) [
      | inl a ↦ h.body c l b (ap (λ m. (w.call m).cell) (eqb-true c (target_call (act_of q x)) y) ∙ a) (was_none c n)
      | inr a ↦ store_fault w q x c a (eqb-true c (target_call (act_of q x)) y) b says (λ t k. keeps_fault (call_sort c) (w.call c).fault (stored_by w c (act_of q x)) (u.call c).fault t k (d.first c) n)
    ]

    same : (c : ℕ) → stored_by w c (act_of q x) ≡ None → (u.call c).fault ≡ (w.call c).fault
    same c e = keeps_quiet (call_sort c) (w.call c).fault (stored_by w c (act_of q x)) (u.call c).fault e (d.first c)

    stays : (s : Party) (o : OpenCall) (f : Option Ending) (e : Ending) → answer_of (w.stack s).top ≡ Some (o, (f, e)) → stored_by w o.number (act_of q x) ≡ None → Answered u o e
    stays s o f e y n = answered_on w u o e (over o.job) (lasts.kinds o.job) (same o.number n) ((lasts.later).spent o.number (((answer_says w s o f e calls y).0).number)) (h.answers s o f e y)

    taken : (o : OpenCall) (f : Option Ending) (e : Ending) → x ≡ TakeResult o f → r.0 ≡ Found e → Answered u o e
    taken o f e y s = now (d.takes o f y e s)
      where
        open_call : Opened w q o
        open_call = (subst (Says w q) y says).0

        n : stored_by w o.number (act_of q x) ≡ None
        n = stored_none w o.number q x (ap is_storing y)

        now : (own : Ending) × (((w.call o.number).cell ≡ Some own) × (e ≡ told (w.call o.number).fault own)) → Answered u o e
        now (own, (c, i)) = record {
          own = own;
          at = λ b. over o.job own (at (ap is_whole (sym (lasts.kinds o.job)) ∙ b));
          is = i ∙ ap (λ k. told k own) (sym (same o.number n));
          count = λ b. (lasts.later).spent o.number (open_call.number) (taken_count w q o f h (top ∙ y) (ap is_body (sym (lasts.kinds o.job)) ∙ b));
          fine = λ b k. fine (ap is_body (sym (lasts.kinds o.job)) ∙ b) (was_none o.number k) own c;
        }
          where
            at : is_whole (w.job o.job).kind ≡ false → (w.job o.job).at ≡ Over own
            at b = ap (λ m. (w.job m).at) (sym (open_call.target)) ∙ cell_ended w calls o.number own (ap (λ m. is_whole (w.job m).kind) (open_call.target) ∙ b) c

            fine : is_body (w.job o.job).kind ≡ true → (w.call o.number).fault ≡ None → (v : Ending) → (w.call o.number).cell ≡ Some v → v ≡ Fine
            fine b k Fine v = refl
            fine b k Fault v = absurd (h.body o.number (open_call.number) (ap (λ m. is_body (w.job m).kind) (open_call.target) ∙ b) v k)

    found_so : {a : Told} → (p : OpenCall) × ((g : Option Ending) × ((v : Ending) × ((x ≡ TakeResult p g) × ((r.0 ≡ Found v) × ((p, (g, v)) ≡ a))))) → Answered u (a.0) ((a.1).1)
    found_so (p, (g, (v, (i, (j, k))))) = subst (λ n. Answered u (n.0) ((n.1).1)) k (taken p g v i j)

    mine : (o : OpenCall) (f : Option Ending) (e : Ending) → sees_answer x (r.0) ≡ Some (o, (f, e)) → Answered u o e
    mine o f e y = elim (sees_cases x (r.0) (o, (f, e)) y) [
      | inl a ↦ stays q o f e (ap answer_of top ∙ a) (stored_none w o.number q x (answer_quiet x (o, (f, e)) a))
      | inr a ↦ found_so a
    ]

    own_top : On (sees_answer x (r.0)) ((after_move (next_of (w.shape.pool (target_pool q (act_of q x))) q x (r.0)) fs).top)
    own_top = top_after (On (sees_answer x (r.0))) (next_of (w.shape.pool (target_pool q (act_of q x))) q x (r.0)) fs (d.goes) (frame_on (sees_answer x (r.0))) (subst (λ k. AllFrames (k.below)) z ((h.fills).frames q))

    answers : (s : Party) (o : OpenCall) (f : Option Ending) (e : Ending) → answer_of (u.stack s).top ≡ Some (o, (f, e)) → (b : Bool) → same_party s q ≡ b → Answered u o e
    answers s o f e y true i = mine o f e (own_top (o, (f, e)) (ap (λ k. answer_of k.top) (sym (stack_mine w.stack q (after_move (next_of (w.shape.pool (target_pool q (act_of q x))) q x (r.0)) fs))) ∙ subst (λ k. answer_of (u.stack k).top ≡ Some (o, (f, e))) (same_party_true s q i) y))
    answers s o f e y false i =
        let j : answer_of (w.stack s).top ≡ Some (o, (f, e)) = ap (λ k. answer_of k.top) (sym (stack_other w.stack q (after_move (next_of (w.shape.pool (target_pool q (act_of q x))) q x (r.0)) fs) s i)) ∙ y in
        stays s o f e j (ap (λ k. stored_by w o.number (act_of q k)) (sym top) ∙ unstored w q s o f e h i j)

-- of the world after an act whose cells are well
abbrev pub Onward : World → Party → Seen × Part → Type 0
Onward w q r = FilledHold (result w q (w.stack q) r) → FaultsHold (result w q (w.stack q) r)

pub go_faults : (w : World) (q : Party) → FaultsHold w → IfSome (outcome w q (w.stack q)) (Onward w q)
go_faults w q h =
    let x : Place = (w.stack q).top in let fs : List Place = (w.stack q).below in let m : Part = place_part w q x in
    let o : Outcome = outcome w q (w.stack q) in let n : Counts = counts_at w (target_pool q (act_of q x)) in
    let on : Seen × Part → Type 0 = λ r. Tops (On (sees_answer x (r.0))) (next_of (w.shape.pool (target_pool q (act_of q x))) q x (r.0)) in
    if_some_map (λ r. (Ready w q x fs r × (Written m x r × NoEnd m r)) × ((FirstOf w q x r × TakesOf w x r) × on r)) (Onward w q)
    (λ r d. faults_act w q x fs r h refl (record { last = ((d.0).0).last; written = ((d.0).1).0; end = ((d.0).1).1; first = ((d.1).0).0; takes = ((d.1).0).1; goes = (d.1).1 })) o
    (if_some_and (λ r. Ready w q x fs r × (Written m x r × NoEnd m r)) (λ r. (FirstOf w q x r × TakesOf w x r) × on r) o
    (if_some_and (Ready w q x fs) (λ r. Written m x r × NoEnd m r) o (ready w q ((h.fills).hold))
    (if_some_and (Written m x) (NoEnd m) o (act_written w.shape q n m x) (act_end w.shape q n m x)))
    (if_some_and (λ r. FirstOf w q x r × TakesOf w x r) on o
    (if_some_and (FirstOf w q x) (TakesOf w x) o (act_first w q x fs h (((hold_of w h).says q).top)) (act_takes w q x fs))
    (answers_on w.shape (w.shape.pool (target_pool q (act_of q x))) q n m x)))
