-- which call each event begins, with its plan, and what the law says of it
--
-- Which call an event begins, and the numbers that it gives out, is `begun_by`.
use Rattle.std.proofs.Common.{arith, refl, sym, ◌∙◌, ap, subst, inl, inr}
use Rattle.rayon_machine_orders.proofs.Words.{ℕ, Bool, true, false, ◌&&◌, ◌||◌, ◌+◌, ◌-◌, ◌==◌, ◌≤◌, ◌<◌, if◌then◌else◌, Option, Some, None, [], ◌≡◌, IfSome, ◌⊎◌, slice_get, eqb-true, eq-eqb, Party, Worker, Caller, Detached, TokenOf, Scoped, Stored, Direct, BodyOf, Plan, Detach, Here, Send}
use Rattle.rayon_machine_orders.proofs.Words.{Fork, Feed, Open, Enter, Gather, Fine, Fault, Count, OfPool, OfScope, OfCast, RaiseCount, Event, Spawn, Fifo, Install, Join, OpenScope, IntoSpawn, IntoFifo, Broadcast, Whereabouts, Nowhere, Made, InDeque, Injected, InFifo, Running, Over, HandedBack}
use Rattle.rayon_machine_orders.proofs.Words.{Spent, Retaken, InCast, OpenCall, Pieces, Gathering, Scope, Job, is_member, plan_job, count_kind, count_book, is_free, World, is_token, after_call, is_pool, new_job, new_call, after_spawn, after_send, after_install, after_join, after_scope}
use Rattle.rayon_machine_orders.proofs.Words.{after_into, after_into_fifo, after_enter, after_enter_fifo, after_gather, after_broadcast, holds, step, after_feed, after_fifo, put, put_pieces, new_piece, new_whole, new_gathering, is_piece, is_done, HasEnded, Verdict, AllFine, LastFault, AllJobs}
use Rattle.rayon_machine_orders.proofs.Words.{ScopeTakes, CastTakes, ScopeEnded, TakesFault, TakesLowest, caller_of, scope_pool, fed_jobs, numbers_of, is_awaited, is_scope, LowersSo, HoldsEnding, IsHandedOn, IsSpent}
use Rattle.rayon_machine_laws.specs.End.{FirstFault}
use Rattle.rayon_machine_laws.proofs.Scoping.{count_over}
use Rattle.rayon_machine_laws.proofs.Enters.{EntersHold}
use Rattle.rayon_machine_laws.proofs.Spawned.{scope_ended as zero_ended}
use Rattle.rayon_machine_orders.specs.Calls.{jobs_of, is_join, is_broadcast, IsPrecedent, ScopeAnswers, CastAnswers, TakesSo, HasRun, LeavesJob}
use Rattle.rayon_machine_laws.proofs.Frame.{either, if_cond, put_new, stack_mine, put_old, piece_in, piece_new, piece_range}
use Rattle.rayon_machine_laws.proofs.PlacedRuns.{JobsHold, once}
use Rattle.rayon_machine_laws.proofs.Claims.{counts_detached, is_detached, is_body}
use Rattle.rayon_machine_orders.proofs.CallPlaces.{Going, is_detach, Ended, Known, KnownGather, NoneLeft, is_scope_body}
use Rattle.rayon_machine_orders.proofs.EarlyStates.{EarlyHold}
use Rattle.rayon_machine_orders.proofs.Early.{scope_ended}
use Rattle.rayon_machine_orders.proofs.CallEvents.{whole}
use Rattle.rayon_machine_orders.proofs.CallStretch.{Inside, Unrefused}

-- the jobs of a plan
abbrev pub IsOf : ℕ → Plan → Type 0
IsOf t (Detach p a) = t ≡ a
IsOf t (Here p a) = t ≡ a
IsOf t (Feed f) = (t ≡ f.job) ⊎ (t ≡ f.token)
IsOf t (Send o) = t ≡ o.job
IsOf t (Open o) = t ≡ o.job
IsOf t (Enter e) = t ≡ e.job
IsOf t (Fork o a) = (t ≡ a) ⊎ (t ≡ o.job)
IsOf t (Gather g) = is_piece g.pieces t ≡ true

pub all_of : (P : ℕ → Type 0) (t : ℕ) (n : Plan) → IsOf t n → AllJobs P n → P t
all_of P t (Feed f) (inl e) z = subst P (sym e) (z.0)
all_of P t (Feed f) (inr e) z = subst P (sym e) (z.1)
all_of P t (Fork o a) (inl e) z = subst P (sym e) (z.0)
all_of P t (Fork o a) (inr e) z = subst P (sym e) (z.1)
all_of P t (Gather g) e z = z t e
all_of P t _ e z = subst P (sym e) z

has_run : (u : World) → JobsHold u → (t : ℕ) → Ended u t → HasRun u t
has_run u h t z = record { over = z; runs = by ((u.job t).at) refl z }
  where
    by : (v : Whereabouts) → (u.job t).at ≡ v → is_done v ≡ true → (u.job t).runs ≡ 1
    by (Over e) i d = (once u h).over t e i
    by _ i d = cc

-- what a call of this plan answers, by how its jobs ended
abbrev pub PlanAnswers : World → Plan → Verdict → Type 0
PlanAnswers u (Detach p t) x = ⊥
PlanAnswers u (Feed f) x = ⊥
PlanAnswers u (Enter e) x = ⊥
PlanAnswers u (Here p t) FirstFault = ⊥
PlanAnswers u (Here p t) LastFault = HasEnded u t Fault
PlanAnswers u (Here p t) AllFine = HasEnded u t Fine
PlanAnswers u (Send o) FirstFault = ⊥
PlanAnswers u (Send o) LastFault = HasEnded u o.job Fault
PlanAnswers u (Send o) AllFine = HasEnded u o.job Fine
PlanAnswers u (Open o) FirstFault = ⊥
PlanAnswers u (Open o) LastFault = ((u.call o.number).job ≡ o.job) × ScopeTakes u o.number Fault
PlanAnswers u (Open o) AllFine = ((u.call o.number).job ≡ o.job) × ScopeTakes u o.number Fine
PlanAnswers u (Gather g) FirstFault = ⊥
PlanAnswers u (Gather g) LastFault = ((u.call g.call.number).job ≡ g.call.job) × CastTakes u g.call.number Fault
PlanAnswers u (Gather g) AllFine = ((u.call g.call.number).job ≡ g.call.job) × CastTakes u g.call.number Fine
PlanAnswers u (Fork o a) FirstFault = HasEnded u a Fault
PlanAnswers u (Fork o a) LastFault = HasEnded u o.job Fault × HasEnded u a Fine
PlanAnswers u (Fork o a) AllFine = HasEnded u o.job Fine × HasEnded u a Fine

one_answer : (w u : World) (e : Event) (p t l : ℕ) → is_join e ≡ false → t ≡ l → (x : Verdict) → PlanAnswers u (Here p t) x → IsPrecedent e u w.jobs l (Some x)
one_answer w u e p t l j i FirstFault y = absurd y
one_answer w u e p t l j i LastFault y = (subst (λ v. HasEnded u v Fault) i y, λ z. absurd (let a : true ≡ false = sym z ∙ j in cc))
one_answer w u e p t l j i AllFine y = (subst (λ v. HasEnded u v Fine) i y, λ z. absurd (let a : true ≡ false = sym z ∙ j in cc))

sent_answer : (u : World) (o : OpenCall) (x : Verdict) → PlanAnswers u (Send o) x → PlanAnswers u (Here 0 o.job) x
sent_answer u o FirstFault y = y
sent_answer u o _ y = y

open_answer : (u : World) (o : OpenCall) (l : ℕ) → o.job ≡ l → (x : Verdict) → PlanAnswers u (Open o) x → ScopeAnswers u o.number l (Some x)
open_answer u o l i FirstFault y = absurd y
open_answer u o l i _ y = (y.0 ∙ i, y.1)

cast_answer : (u : World) (g : Gathering) (l : ℕ) → g.call.job ≡ l → (x : Verdict) → PlanAnswers u (Gather g) x → CastAnswers u g.call.number l (Some x)
cast_answer u g l i FirstFault y = absurd y
cast_answer u g l i _ y = (y.0 ∙ i, y.1)

two_answer : (u : World) (q : Party) (o : OpenCall) (a l : ℕ) → o.job ≡ l → (x : Verdict) → PlanAnswers u (Fork o a) x → IsPrecedent (Join q) u a l (Some x)
two_answer u q o a l i FirstFault y = (refl, y)
two_answer u q o a l i LastFault y = (subst (λ v. HasEnded u v Fault) i (y.0), λ z. y.1)
two_answer u q o a l i AllFine y = (subst (λ v. HasEnded u v Fine) i (y.0), λ z. y.1)

-- what a call of this plan finds where it is to take
abbrev pub PlanTakes : World → Plan → ℕ → Type 0
PlanTakes u (Send o) c = HoldsEnding u c o.job
PlanTakes u (Fork o a) c = HoldsEnding u c o.job
PlanTakes u (Open o) c = HoldsEnding u c o.job × TakesFault u c
PlanTakes u (Gather g) c = TakesLowest u c
PlanTakes u _ c = ⊥

-- a call with a count of its own begins: it waits for a job, a scope's body or the number of a broadcast
pub record CountBegun (w v : World) (n : Plan) : Type 0 where
  pub calls : w.calls + 1 ≤ v.calls
  pub target : (v.call w.calls).job ≡ plan_job n
  pub awaited : is_detach n ≡ false
  pub ended : (u : World) → EarlyHold u → EntersHold u → (u.call w.calls).job ≡ plan_job n → Known u n → Unrefused u n → NoneLeft u n → (u.job (plan_job n)).counted ≡ false → ScopeEnded u w.calls

-- a call has begun, with its plan
pub record Begun (w v : World) (q : Party) (e : Event) : Type 0 where
  pub plan : Plan
  pub made : v.jobs ≡ w.jobs + numbers_of w e
  pub inside : Inside v q (w.stack q) plan false
  pub numbers : (t : ℕ) → w.jobs ≤ t → t < w.jobs + jobs_of w e → IsOf t plan
  pub last : is_detach plan ≡ false → plan_job plan ≡ v.jobs - 1
  pub awaited : is_awaited e ≡ true → is_detach plan ≡ false
  pub answer : (u : World) (p : ℕ) (x : Verdict) → PlanAnswers u plan x → LowersSo e (OfPool p) u w.calls w.jobs (v.jobs - 1) (Some x)
  pub body : (u : World) → JobsHold u → (o : OpenCall) (c : ℕ) (r : Party) → plan ≡ Open o → o.number ≡ c → Ended u o.job → LowersSo e (OfScope c r) u w.calls w.jobs (v.jobs - 1) None
  pub scope : (is_scope e || is_broadcast e) ≡ true → CountBegun w v plan
  pub takes : (u : World) (c : ℕ) → PlanTakes u plan c → TakesSo e u c (v.jobs - 1)
  pub bound : is_broadcast e ≡ true → (t : ℕ) → w.jobs ≤ t → t < w.jobs + jobs_of w e → (t + 1 ≤ v.jobs) × ((v.job t).bound ≡ Some (t - w.jobs))
  pub leaves : (u : World) → JobsHold u → (t : ℕ) → IsOf t plan → Unrefused u plan → LeavesJob e u t

first_inside : (w v : World) (q : Party) (n : Plan) → v.stack q ≡ after_call (w.stack q) (RaiseCount n) → Known v n → Inside v q (w.stack q) n false
first_inside w v q n z k = record { stage = Going; stands = record { above = []; place = RaiseCount n; is = ap whole z; part = (refl, refl) }; sofar = tt; known = k; flag = refl }

-- the event of a spawn that makes one job
record OneSpawned (w : World) (e : Event) : Type 0 where
  one : jobs_of w e ≡ 1
  same : numbers_of w e ≡ jobs_of w e
  free : is_awaited e ≡ false
  flat : (is_scope e || is_broadcast e) ≡ false
  wide : is_broadcast e ≡ false
  leaves : (u : World) (t : ℕ) → IsHandedOn u t → LeavesJob e u t

one_of : (w : World) (e : Event) (t : ℕ) → jobs_of w e ≡ 1 → w.jobs ≤ t → t < w.jobs + jobs_of w e → t ≡ w.jobs
one_of w e t i l m = omega (arith, i, l, m)

spawn_as : (w : World) (q : Party) (p : ℕ) (e : Event) → OneSpawned w e → IfSome (after_spawn w q p (w.stack q)) (λ v. Begun w v q e)
spawn_as w q p e s = if_cond (λ v. Begun w v q e) (is_free ((w.stack q).top) && is_pool w.shape p) _ (λ b. record {
  plan = Detach p w.jobs;
  made = ap (λ n. w.jobs + n) (sym (s.same ∙ s.one));
  inside = first_inside w _ q (Detach p w.jobs) (stack_mine w.stack q (after_call (w.stack q) (RaiseCount (Detach p w.jobs)))) ((omega arith), ap (λ j. is_detached j.kind) (put_new w.job w.jobs (new_job q p (Detached p))));
  numbers = λ t l m. one_of w e t s.one l m;
  last = λ z. omega arith;
  awaited = λ z. absurd (let a : true ≡ false = sym z ∙ s.free in cc);
  answer = λ u r x y. absurd y;
  body = λ u h o c r k m z. absurd (cc);
  scope = λ z. absurd (let a : true ≡ false = sym z ∙ s.flat in cc);
  takes = λ u c y. absurd y;
  bound = λ z. absurd (let a : true ≡ false = sym z ∙ s.wide in cc);
  leaves = λ u h t i z. s.leaves u t (subst (λ x. IsHandedOn u x) (sym i) z);
})

spawn_begun : (w : World) (q : Party) (p : ℕ) → IfSome (after_spawn w q p (w.stack q)) (λ v. Begun w v q (Spawn q p))
spawn_begun w q p = spawn_as w q p (Spawn q p) (record { one = refl; same = refl; free = refl; flat = refl; wide = refl; leaves = λ u t z. z })

-- the numbers that a call with two gives out
two_of : (n t : ℕ) → n ≤ t → t < n + 2 → (b : Bool) → (t == n) ≡ b → (t ≡ n) ⊎ (t ≡ n + 1)
two_of n t l m true e = inl (eqb-true t n e)
two_of n t l m false e = inr (let o : t ≡ n → ⊥ = λ z. (let k : (t == n) ≡ true = eq-eqb t n z in cc) in omega (arith, l, m, o))

feed_known : (w : World) (k : Count) (p i : ℕ) → Known (after_feed w k p i (w.stack (Worker p i))) (Feed (record { count = k; pool = p; job = w.jobs; token = w.jobs + 1 }))
feed_known w k p i = ((omega arith, ap (λ j. is_detached j.kind) first ∙ counts_detached k), (omega arith, ap (λ j. is_token j.kind) (put_new (put w.job w.jobs (new_job (Worker p i) p (count_kind k))) (w.jobs + 1) (new_job (Worker p i) p (TokenOf i (count_book k))))))
  where
    apart : (w.jobs == (w.jobs + 1)) ≡ false
    apart = elim (either (w.jobs == (w.jobs + 1))) [ inl e ↦ absurd (let z : w.jobs ≡ w.jobs + 1 = eqb-true w.jobs (w.jobs + 1) e in omega (arith, z)) | inr e ↦ e ]

    first : put (put w.job w.jobs (new_job (Worker p i) p (count_kind k))) (w.jobs + 1) (new_job (Worker p i) p (TokenOf i (count_book k))) w.jobs ≡ new_job (Worker p i) p (count_kind k)
    first = put_old (put w.job w.jobs (new_job (Worker p i) p (count_kind k))) (w.jobs + 1) (new_job (Worker p i) p (TokenOf i (count_book k))) w.jobs apart ∙ put_new w.job w.jobs (new_job (Worker p i) p (count_kind k))

-- the event of a spawn in order that makes a job and its token
record TwoSpawned (w : World) (e : Event) : Type 0 where
  two : jobs_of w e ≡ 2
  same : numbers_of w e ≡ jobs_of w e
  free : is_awaited e ≡ false
  flat : (is_scope e || is_broadcast e) ≡ false
  wide : is_broadcast e ≡ false
  leaves : (u : World) (t : ℕ) → IsHandedOn u t ⊎ IsSpent u t → LeavesJob e u t

feed_as : (w : World) (k : Count) (p i : ℕ) (e : Event) → TwoSpawned w e → Begun w (after_feed w k p i (w.stack (Worker p i))) (Worker p i) e
feed_as w k p i e s = record {
  plan = Feed (record { count = k; pool = p; job = w.jobs; token = w.jobs + 1 });
  made = ap (λ n. w.jobs + n) (sym (s.same ∙ s.two));
  inside = first_inside w _ (Worker p i) (Feed (record { count = k; pool = p; job = w.jobs; token = w.jobs + 1 })) (stack_mine w.stack (Worker p i) (after_call (w.stack (Worker p i)) (RaiseCount (Feed (record { count = k; pool = p; job = w.jobs; token = w.jobs + 1 }))))) (feed_known w k p i);
  numbers = λ t l m. two_of w.jobs t l (ends t m) (t == w.jobs) refl;
  last = λ z. absurd (let a : true ≡ false = z in cc);
  awaited = λ z. absurd (let a : true ≡ false = sym z ∙ s.free in cc);
  answer = λ u r x y. absurd y;
  body = λ u h o c r n m z. absurd (cc);
  scope = λ z. absurd (let a : true ≡ false = sym z ∙ s.flat in cc);
  takes = λ u c y. absurd y;
  bound = λ z. absurd (let a : true ≡ false = sym z ∙ s.wide in cc);
  leaves = λ u h t j z. s.leaves u t (by u t j z);
}
  where
    ends : (t : ℕ) → t < w.jobs + jobs_of w e → t < w.jobs + 2
    ends t m = let a : jobs_of w e ≡ 2 = s.two in omega (arith, a, m)

    by : (u : World) (t : ℕ) → (t ≡ w.jobs) ⊎ (t ≡ w.jobs + 1) → IsHandedOn u w.jobs × (IsHandedOn u (w.jobs + 1) ⊎ IsSpent u (w.jobs + 1)) → IsHandedOn u t ⊎ IsSpent u t
    by u t (inl e) z = inl (subst (λ x. IsHandedOn u x) (sym e) (z.0))
    by u t (inr e) z = subst (λ x. IsHandedOn u x ⊎ IsSpent u x) (sym e) (z.1)

fifo_begun : (w : World) (q : Party) (p : ℕ) → IfSome (after_fifo w q p (w.stack q)) (λ v. Begun w v q (Fifo q p))
fifo_begun w (Caller c) p = spawn_as w (Caller c) p (Fifo (Caller c) p) (record { one = refl; same = refl; free = refl; flat = refl; wide = refl; leaves = λ u t z. inl z })
fifo_begun w (Worker r i) p = by (r == p) refl
  where
    by : (z : Bool) → (r == p) ≡ z → IfSome (if z then (if is_free ((w.stack (Worker r i)).top) && is_pool w.shape p then Some (after_feed w (OfPool p) p i (w.stack (Worker r i))) else None) else after_spawn w (Worker r i) p (w.stack (Worker r i))) (λ v. Begun w v (Worker r i) (Fifo (Worker r i) p))
    by true z = subst (λ n. IfSome (if is_free ((w.stack (Worker n i)).top) && is_pool w.shape p then Some (after_feed w (OfPool p) p i (w.stack (Worker n i))) else None) (λ v. Begun w v (Worker n i) (Fifo (Worker n i) p))) (sym (eqb-true r p z))
        (if_cond (λ v. Begun w v (Worker p i) (Fifo (Worker p i) p)) (is_free ((w.stack (Worker p i)).top) && is_pool w.shape p) _
        (λ b. feed_as w (OfPool p) p i (Fifo (Worker p i) p) (record { two = ap (λ x. if x then 2 else 1) (eq-eqb p p refl); same = refl; free = refl; flat = refl; wide = refl; leaves = λ u t y. y })))
    by false z = spawn_as w (Worker r i) p (Fifo (Worker r i) p) (record { one = ap (λ b. if b then 2 else 1) z; same = refl; free = refl; flat = refl; wide = refl; leaves = λ u t y. inl y })

sent_begun : (w : World) (q : Party) (p : ℕ) (b : Bool) → Begun w (after_send w q p (w.stack q) b) q (Install q p)
sent_begun w q p true = record {
  plan = Here p w.jobs;
  made = refl;
  inside = first_inside w _ q (Here p w.jobs) (stack_mine w.stack q (after_call (w.stack q) (RaiseCount (Here p w.jobs)))) tt;
  numbers = λ t l m. omega (arith, l, m);
  last = λ z. omega arith;
  awaited = λ z. refl;
  answer = λ u r x y. one_answer w u (Install q p) p w.jobs (w.jobs + 1 - 1) refl (omega arith) x y;
  body = λ u h o c r k m z. absurd (cc);
  scope = λ z. absurd (cc);
  takes = λ u c y. absurd y;
  bound = λ z. absurd (cc);
  leaves = λ u h t i z. has_run u h t (subst (λ x. Ended u x) (sym i) z);
}
sent_begun w q p false = record {
  plan = Send (record { number = w.calls; pool = p; job = w.jobs });
  made = refl;
  inside = first_inside w _ q (Send (record { number = w.calls; pool = p; job = w.jobs })) (stack_mine w.stack q (after_call (w.stack q) (RaiseCount (Send (record { number = w.calls; pool = p; job = w.jobs })))))
      ((omega arith), ap (λ k. k.first) (put_new w.call w.calls (new_call None w.jobs)), record { made = omega arith; sort = ap (λ j. is_body j.kind) (put_new w.job w.jobs (new_job q p (Stored w.calls q))) });
  numbers = λ t l m. omega (arith, l, m);
  last = λ z. omega arith;
  awaited = λ z. refl;
  answer = λ u r x y. one_answer w u (Install q p) 0 w.jobs (w.jobs + 1 - 1) refl (omega arith) x (sent_answer u (record { number = w.calls; pool = p; job = w.jobs }) x y);
  body = λ u h o c r k m z. absurd (cc);
  scope = λ z. absurd (cc);
  takes = λ u c y. subst (HoldsEnding u c) (omega arith) y;
  bound = λ z. absurd (cc);
  leaves = λ u h t i z. has_run u h t (subst (λ x. Ended u x) (sym i) z);
}

install_begun : (w : World) (q : Party) (p : ℕ) → IfSome (after_install w q p (w.stack q)) (λ v. Begun w v q (Install q p))
install_begun w q p = if_cond (λ v. Begun w v q (Install q p)) (is_free ((w.stack q).top) && is_pool w.shape p) _ (λ b. sent_begun w q p (is_member q p))

join_begun : (w : World) (q : Party) → IfSome (after_join w q (w.stack q)) (λ v. Begun w v q (Join q))
join_begun w (Worker p i) = if_cond (λ v. Begun w v (Worker p i) (Join (Worker p i))) (is_free ((w.stack (Worker p i)).top)) _ (λ b. record {
  plan = Fork (record { number = w.calls; pool = p; job = w.jobs + 1 }) w.jobs;
  made = refl;
  inside = first_inside w _ (Worker p i) (Fork (record { number = w.calls; pool = p; job = w.jobs + 1 }) w.jobs) (stack_mine w.stack (Worker p i) (after_call (w.stack (Worker p i)) (RaiseCount (Fork (record { number = w.calls; pool = p; job = w.jobs + 1 }) w.jobs))))
      ((omega arith), ap (λ k. k.first) (put_new w.call w.calls (new_call (Some w.jobs) (w.jobs + 1))), record { made = omega arith; sort = ap (λ j. is_body j.kind) (put_new (put w.job w.jobs (new_job (Worker p i) p Direct)) (w.jobs + 1) (new_job (Worker p i) p (Stored w.calls (Worker p i)))) });
  numbers = λ t l m. two t l m (t == w.jobs) refl;
  last = λ z. omega arith;
  awaited = λ z. refl;
  answer = λ u r x y. two_answer u (Worker p i) (record { number = w.calls; pool = p; job = w.jobs + 1 }) w.jobs (w.jobs + 2 - 1) (omega arith) x y;
  body = λ u h o c r k m z. absurd (cc);
  scope = λ z. absurd (cc);
  takes = λ u c y. subst (HoldsEnding u c) (omega arith) y;
  bound = λ z. absurd (cc);
  leaves = λ u h t i z. has_run u h t (all_of (Ended u) t (Fork (record { number = w.calls; pool = p; job = w.jobs + 1 }) w.jobs) i z);
})
  where
    two : (t : ℕ) → w.jobs ≤ t → t < w.jobs + 2 → (b : Bool) → (t == w.jobs) ≡ b → (t ≡ w.jobs) ⊎ (t ≡ w.jobs + 1)
    two t l m true e = inl (eqb-true t w.jobs e)
    two t l m false e = inr (let n : t ≡ w.jobs → ⊥ = λ z. (let k : (t == w.jobs) ≡ true = eq-eqb t w.jobs z in cc) in omega (arith, l, m, n))
join_begun w (Caller c) = tt

scope_begun : (w : World) (q : Party) (p : ℕ) → IfSome (after_scope w q p (w.stack q)) (λ v. Begun w v q (OpenScope q p))
scope_begun w q p = if_cond (λ v. Begun w v q (OpenScope q p)) (is_free ((w.stack q).top) && is_pool w.shape p) _ (λ b. record {
  plan = Open (record { number = w.calls; pool = p; job = w.jobs });
  made = refl;
  inside = first_inside w _ q (Open (record { number = w.calls; pool = p; job = w.jobs })) (stack_mine w.stack q (after_call (w.stack q) (RaiseCount (Open (record { number = w.calls; pool = p; job = w.jobs })))))
      ((omega arith), ap (λ k. k.first) (put_new w.call w.calls (new_call None w.jobs)), record { made = omega arith; sort = ap (λ j. is_scope_body j.kind) (put_new w.job w.jobs (new_job q p (BodyOf w.calls q))) });
  numbers = λ t l m. omega (arith, l, m);
  last = λ z. omega arith;
  awaited = λ z. refl;
  answer = λ u r x y. open_answer u (record { number = w.calls; pool = p; job = w.jobs }) (w.jobs + 1 - 1) (omega arith) x y;
  body = λ u h o c r k m z. (sym m ∙ own_number (record { number = w.calls; pool = p; job = w.jobs }) o k, subst (λ t. HasRun u t) (omega arith) (has_run u h w.jobs (subst (λ t. Ended u t) (own_job (record { number = w.calls; pool = p; job = w.jobs }) o k) z)));
  scope = λ z. record { calls = omega arith; target = ap (λ k. k.job) (put_new w.call w.calls (new_call None w.jobs)); awaited = refl; ended = λ u h e i k y m n. scope_ended u h e w.calls w.jobs i y n };
  takes = λ u c y. (subst (HoldsEnding u c) (omega arith) (y.0), y.1);
  bound = λ z. absurd (cc);
  leaves = λ u h t i z. has_run u h t (subst (λ x. Ended u x) (sym i) z);
})
  where
    own_job : (a b : OpenCall) → Open a ≡ Open b → b.job ≡ a.job
    own_job a b e = (let i : a ≡ b = cc in ap (λ o. o.job) (sym i))

    own_number : (a b : OpenCall) → Open a ≡ Open b → b.number ≡ a.number
    own_number a b e = (let i : a ≡ b = cc in ap (λ o. o.number) (sym i))

-- a spawn into a scope
enter_as : (w : World) (q : Party) (z : Scope) (e : Event) → OneSpawned w e → IfSome (after_enter w q (w.stack q) (Some z)) (λ v. Begun w v q e)
enter_as w q z e s = if_cond (λ v. Begun w v q e) (is_free ((w.stack q).top) && holds z.call (w.stack q)) _ (λ b. record {
  plan = Enter (record { call = z.call; owner = z.owner; pool = z.pool; job = w.jobs });
  made = ap (λ n. w.jobs + n) (sym (s.same ∙ s.one));
  inside = first_inside w _ q (Enter (record { call = z.call; owner = z.owner; pool = z.pool; job = w.jobs })) (stack_mine w.stack q (after_call (w.stack q) (RaiseCount (Enter (record { call = z.call; owner = z.owner; pool = z.pool; job = w.jobs })))))
      ((omega arith), ap (λ j. is_detached j.kind) (put_new w.job w.jobs (new_job q z.pool (Scoped z.call z.owner))));
  numbers = λ t l m. one_of w e t s.one l m;
  last = λ y. omega arith;
  awaited = λ y. absurd (let a : true ≡ false = sym y ∙ s.free in cc);
  answer = λ u r x y. absurd y;
  body = λ u h o c r k m y. absurd (cc);
  scope = λ y. absurd (let a : true ≡ false = sym y ∙ s.flat in cc);
  takes = λ u c y. absurd y;
  bound = λ y. absurd (let a : true ≡ false = sym y ∙ s.wide in cc);
  leaves = λ u h t j y. s.leaves u t (subst (λ x. IsHandedOn u x) (sym j) y);
})

into_begun : (w : World) (q : Party) (i : ℕ) → IfSome (after_into w q i (w.stack q)) (λ v. Begun w v q (IntoSpawn q i))
into_begun w q i = by (slice_get w.scopes i)
  where
    by : (o : Option Scope) → IfSome (after_enter w q (w.stack q) o) (λ v. Begun w v q (IntoSpawn q i))
    by None = tt
    by (Some z) = enter_as w q z (IntoSpawn q i) (record { one = refl; same = refl; free = refl; flat = refl; wide = refl; leaves = λ u t y. y })

-- and one in order
into_fifo_begun : (w : World) (q : Party) (i : ℕ) → IfSome (after_into_fifo w q i (w.stack q)) (λ v. Begun w v q (IntoFifo q i))
into_fifo_begun w q i = by q (slice_get w.scopes i) refl
  where
    own : (z : Scope) (j r : ℕ) → Option World
    own z j r = if is_free ((w.stack (Worker r j)).top) && holds z.call (w.stack (Worker r j)) then Some (after_feed w (OfScope z.call z.owner) z.pool j (w.stack (Worker r j))) else None

    count : (q : Party) (z : Scope) (b : Bool) → slice_get w.scopes i ≡ Some z → is_member q z.pool ≡ b → jobs_of w (IntoFifo q i) ≡ (if b then 2 else 1)
    count q z b e m = ap (λ o. fed_jobs q (scope_pool o)) e ∙ ap (λ x. if x then 2 else 1) m

    one : (q : Party) (z : Scope) → slice_get w.scopes i ≡ Some z → is_member q z.pool ≡ false → OneSpawned w (IntoFifo q i)
    one q z e m = record { one = count q z false e m; same = refl; free = refl; flat = refl; wide = refl; leaves = λ u t y. inl y }

    mine : (z : Scope) (j r : ℕ) → slice_get w.scopes i ≡ Some z → (b : Bool) → (r == z.pool) ≡ b → IfSome (if b then own z j r else after_enter w (Worker r j) (w.stack (Worker r j)) (Some z)) (λ v. Begun w v (Worker r j) (IntoFifo (Worker r j) i))
    mine z j r e true m = subst (λ k. IfSome (own z j k) (λ v. Begun w v (Worker k j) (IntoFifo (Worker k j) i))) (sym (eqb-true r z.pool m))
        (if_cond (λ v. Begun w v (Worker z.pool j) (IntoFifo (Worker z.pool j) i)) (is_free ((w.stack (Worker z.pool j)).top) && holds z.call (w.stack (Worker z.pool j))) _
        (λ b. feed_as w (OfScope z.call z.owner) z.pool j (IntoFifo (Worker z.pool j) i) (record { two = count (Worker z.pool j) z true e (eq-eqb z.pool z.pool refl); same = refl; free = refl; flat = refl; wide = refl; leaves = λ u t y. y })))
    mine z j r e false m = enter_as w (Worker r j) z (IntoFifo (Worker r j) i) (one (Worker r j) z e m)

    by : (q : Party) (o : Option Scope) → slice_get w.scopes i ≡ o → IfSome (after_enter_fifo w q (w.stack q) o) (λ v. Begun w v q (IntoFifo q i))
    by q None e = tt
    by (Caller c) (Some z) e = enter_as w (Caller c) z (IntoFifo (Caller c) i) (one (Caller c) z e refl)
    by (Worker r j) (Some z) e = mine z j r e (r == z.pool) refl

-- a broadcast that waits: once its count is 0 each piece of it is over
gather_ended : (u : World) → EarlyHold u → EntersHold u → (c : ℕ) → c + 1 ≤ u.calls → (u.call c).count ≡ 0 → ScopeEnded u c
gather_ended u h e c l z = zero_ended u (h.fills).scopes e c z (count_over u (h.fills).scopes c l z)

gather_begun : (w : World) (q : Party) (p : ℕ) → IfSome (after_broadcast w q p (w.stack q)) (λ v. Begun w v q (Broadcast q p))
gather_begun w q p = if_cond (λ v. Begun w v q (Broadcast q p)) (is_free ((w.stack q).top) && is_pool w.shape p) _ (λ b. record {
  plan = Gather g;
  made = omega arith;
  inside = first_inside w v q (Gather g) (stack_mine w.stack q (after_call (w.stack q) (RaiseCount (Gather g)))) known;
  numbers = λ t l m. piece_in c t l m;
  last = λ z. omega arith;
  awaited = λ z. refl;
  answer = λ u r x y. cast_answer u g (w.jobs + c.workers + 1 - 1) (omega arith) x y;
  body = λ u h o d r k m z. absurd (cc);
  scope = λ z. record { calls = omega arith; target = ap (λ k. k.job) call; awaited = refl; ended = λ u h e i k y m n. gather_ended u h e w.calls k.number m };
  takes = λ u d y. y;
  bound = λ z t l m. ((let a : t + 1 ≤ w.jobs + c.workers + 1 = omega (arith, m) in a), ap (λ j. j.bound) (piece t (piece_in c t l m)));
  leaves = λ u h t i z. has_run u h t (z t i);
})
  where
    c : Pieces
    c = record { count = OfCast w.calls q; pool = p; first = w.jobs; workers = (w.shape.pool p).workers }

    g : Gathering
    g = record { call = record { number = w.calls; pool = p; job = w.jobs + c.workers }; pieces = c }

    v : World
    v = after_gather w q p (w.stack q)

    dealt : ℕ → Job
    dealt = put_pieces c (λ i j. new_piece q c.count p i) w.job

    call : v.call w.calls ≡ new_gathering c.workers (w.jobs + c.workers)
    call = put_new w.call w.calls (new_gathering c.workers (w.jobs + c.workers))

    whole : v.job (w.jobs + c.workers) ≡ new_whole q p w.calls
    whole = put_new dealt (w.jobs + c.workers) (new_whole q p w.calls)

    apart : (t : ℕ) → t < w.jobs + c.workers → (t == (w.jobs + c.workers)) ≡ false
    apart t l = elim (either (t == (w.jobs + c.workers))) [ inl e ↦ absurd (let i : t ≡ w.jobs + c.workers = eqb-true t (w.jobs + c.workers) e in omega (arith, i, l)) | inr e ↦ e ]

    piece : (t : ℕ) → is_piece c t ≡ true → v.job t ≡ new_piece q c.count p (t - c.first)
    piece t e = put_old dealt (w.jobs + c.workers) (new_whole q p w.calls) t (apart t ((piece_range c t e).1)) ∙ piece_new c (λ i j. new_piece q c.count p i) w.job t e

    known : KnownGather v g
    known = record {
      number = omega arith;
      alone = ap (λ k. k.first) call;
      owner = q;
      made = omega arith;
      whole = ap (λ j. j.kind) whole;
      pieces = λ t e. ((let r : t < w.jobs + c.workers = (piece_range c t e).1 in let a : t + 1 ≤ w.jobs + c.workers + 1 = omega (arith, r) in a), ap (λ j. j.kind) (piece t e));
    }

some_party : {q r : Party} → Some q ≡ Some r → q ≡ r
some_party e = cc

pub begun_by : (w : World) (q : Party) (e : Event) → caller_of e ≡ Some q → IfSome (step w e) (λ v. Begun w v q e)
begun_by w q (Spawn r p) z = subst (λ x. IfSome (step w (Spawn r p)) (λ v. Begun w v x (Spawn r p))) (some_party z) (spawn_begun w r p)
begun_by w q (Fifo r p) z = subst (λ x. IfSome (step w (Fifo r p)) (λ v. Begun w v x (Fifo r p))) (some_party z) (fifo_begun w r p)
begun_by w q (Install r p) z = subst (λ x. IfSome (step w (Install r p)) (λ v. Begun w v x (Install r p))) (some_party z) (install_begun w r p)
begun_by w q (Join r) z = subst (λ x. IfSome (step w (Join r)) (λ v. Begun w v x (Join r))) (some_party z) (join_begun w r)
begun_by w q (OpenScope r p) z = subst (λ x. IfSome (step w (OpenScope r p)) (λ v. Begun w v x (OpenScope r p))) (some_party z) (scope_begun w r p)
begun_by w q (IntoSpawn r i) z = subst (λ x. IfSome (step w (IntoSpawn r i)) (λ v. Begun w v x (IntoSpawn r i))) (some_party z) (into_begun w r i)
begun_by w q (IntoFifo r i) z = subst (λ x. IfSome (step w (IntoFifo r i)) (λ v. Begun w v x (IntoFifo r i))) (some_party z) (into_fifo_begun w r i)
begun_by w q (Broadcast r p) z = subst (λ x. IfSome (step w (Broadcast r p)) (λ v. Begun w v x (Broadcast r p))) (some_party z) (gather_begun w r p)
begun_by w q _ z = absurd (cc)
