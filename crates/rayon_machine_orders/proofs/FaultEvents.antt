-- the faults that calls keep, over the events that are no acts
use Rattle.std.proofs.Common.{◌∙◌, ap, arith, inl, inr, refl, subst, sym}
use Rattle.rayon_machine_orders.proofs.Words.{ltb, eq-eqb, eqb-true, ltb-false, ltb-true, ◌⊎◌, ◌≡◌, ◌==◌, ◌+◌, ◌-◌, ◌≤◌, ◌<◌, ◌∷◌, ℕ, [], if◌then◌else◌, Bool, IfSome, List, None, Option, Some, false, true, is_detached, is_of_scope, one, runs_in, IsStoredFor, count_book, count_kind, end_cast}
use Rattle.rayon_machine_orders.proofs.Words.{goes_on, is_free, next_steal, next_victim, next_yield, not_self, own_index, own_pool, plan_book, same_party, withdraw, after_call, after_close, after_deal, after_feed, after_resume, after_send, is_piece, new_call, new_gathering, new_job, new_piece}
use Rattle.rayon_machine_orders.proofs.Words.{new_whole, put, put_pieces, put_stack, step, with_stack, Stack, World, at_job, told, Event, Count, OfCast, OfPool, OfScope, Ending, Fault, Fine, JobKind, BodyOf, Detached, Direct, PieceOf, Scoped, Stored, TokenOf, WholeOf, OpenCall, Party, Worker}
use Rattle.rayon_machine_orders.proofs.Words.{Pieces, Place, AddToFifo, AtOnce, DealPieces, FirstSide, Free, GrowCall, GrowCast, GrowScope, JoinProbe, LocalPop, LowerCount, OpenForAll, OpenSlot, PopInjected, ProbeWorking, PushForAll, PushJob, PushToken, RaiseCount, RaiseForAll, Run, ScopeBody}
use Rattle.rayon_machine_orders.proofs.Words.{SecondSide, StealFrom, Stopped, YieldPop, YieldPopInjected, YieldSteal, Plan, Detach, Enter, Feed, Fork, Gather, Here, Open, Send, PoolValue, Answer, Resume, Wait, PoolShape, Call, Job, Nowhere, Over, Running, Spent, after_gather, is_refusable}
use Rattle.rayon_machine_orders.proofs.Words.{Refused}
use Rattle.rayon_machine_laws.proofs.ClaimEvents.{ended_world}
use Rattle.rayon_machine_laws.proofs.ClaimRuns.{CallsHold, top_says}
use Rattle.rayon_machine_laws.proofs.Claims.{AllSay, FirstEnds, Linked, Opened, SaysRun, SaysTarget, is_body, relink}
use Rattle.rayon_machine_laws.proofs.Frame.{either, piece_in, piece_new, piece_old, piece_out, piece_range, put_new, put_old, put_same, same_party_true, stack_mine, stack_other}
use Rattle.rayon_machine_laws.proofs.Hands.{worked}
use Rattle.rayon_machine_laws.proofs.Located.{Work, at_work, is_loc, loc_at, where_is}
use Rattle.rayon_machine_laws.proofs.PlacedEvents.{Advance, IsFinal}
use Rattle.rayon_machine_laws.proofs.Seats.{is_frame}
use Rattle.rayon_machine_laws.proofs.ShareSteps.{self_one}
use Rattle.rayon_machine_laws.proofs.Ties.{AllFrames}
use Rattle.rayon_machine_orders.proofs.FaultActs.{answer_says, answered_on, stored_for_on}
use Rattle.rayon_machine_orders.proofs.FaultPlaces.{Told, answer_of}
use Rattle.rayon_machine_orders.proofs.Faults.{Answered, FaultOf, FaultsHold, KeepsFor, call_bodied, hold_of, is_whole, of_scope, over_is, puts}
use Rattle.rayon_machine_orders.proofs.FilledStates.{FilledHold}
use Rattle.rayon_machine_orders.proofs.EventCases.{Cases, by_cases, is_act}
use Rattle.rayon_machine_runs.specs.Steps.{seeing}

-- a call that an event makes
pub record NewCall (w u : World) (c : ℕ) : Type 0 where
  pub new : w.calls ≤ c
  pub fault : (u.call c).fault ≡ None
  pub cell : (u.call c).cell ≡ None
  pub made : (u.call c).job + 1 ≤ u.jobs
  pub first : is_body (u.job (u.call c).job).kind ≡ true → (u.call c).first ≡ None

-- a job's run ends, and its party is to store how, if the job is of a scope or a piece of a broadcast
pub record JobEnds (w : World) (t : ℕ) (e : Ending) (y : Place) : Type 0 where
  pub made : t + 1 ≤ w.jobs
  pub puts : (c : ℕ) → is_of_scope c (w.job t).kind ≡ true → puts y ≡ Some (c, (t, e))

-- what an event that is no act leaves
pub record Still (w u : World) : Type 0 where
  pub party : Party
  pub to : Stack
  pub stack : (r : Party) → u.stack r ≡ put_stack w.stack party to r
  pub quiet : puts (w.stack party).top ≡ None
  pub more : w.jobs ≤ u.jobs
  pub kind : (t : ℕ) → t + 1 ≤ w.jobs → (u.job t).kind ≡ (w.job t).kind
  pub call : (c : ℕ) → (u.call c ≡ w.call c) ⊎ NewCall w u c
  pub known : (c : ℕ) → c + 1 ≤ u.calls → (c + 1 ≤ w.calls) ⊎ NewCall w u c
  pub calls : w.calls ≤ u.calls
  pub ended : (t : ℕ) (e : Ending) → (u.job t).at ≡ Over e → ((w.job t).at ≡ Over e) ⊎ JobEnds w t e to.top
  pub whole : (t c : ℕ) (o : Party) → w.jobs ≤ t → t + 1 ≤ u.jobs → (u.job t).kind ≡ WholeOf c o → (u.job t).at ≡ Spent
  pub top : (o : OpenCall) (f : Option Ending) (e : Ending) → answer_of to.top ≡ Some (o, (f, e)) → Answered u o e

pub less_or : (t n : ℕ) → (t + 1 ≤ n) ⊎ (n ≤ t)
less_or t n = elim (either (ltb t n)) [ inl y ↦ inl (let i : t < n = ltb-true t n y in omega (arith, i)) | inr y ↦ inr (ltb-false t n y) ]

pub still_faults : (w u : World) → FaultsHold w → FilledHold u → Advance w u → Still w u → FaultsHold u
still_faults w u h g ad st = record {
  fills = g;
  kept = λ c t e. kept c t e (st.call c);
  untold = λ t c l s a. untold t c s (st.ended t Fault a);
  whole = λ t c o l k. whole t c o l k (less_or t w.jobs);
  body = λ c l i e n. body c i e n (st.call c) (st.known c l);
  first = λ c l. first c (st.known c l);
  answers = λ s o f e y. answers s o f e y (same_party s (st.party)) refl;
}
  where
    over : (t : ℕ) (e : Ending) → (w.job t).at ≡ Over e → (u.job t).at ≡ Over e
    over t e z = subst (λ v. IsFinal v ((u.job t).at)) z (ad.final t)

    -- who stood over a job's end was to be made
    old : (t : ℕ) (e : Ending) → (w.job t).at ≡ Over e → t + 1 ≤ w.jobs
    old t e a = elim (less_or t w.jobs) [ inl y ↦ y | inr y ↦ absurd (let i : Over e ≡ Nowhere = sym a ∙ ((hold_of w h).jobs).unmade t y in cc) ]

    same : (c : ℕ) → c + 1 ≤ w.calls → (u.call c ≡ w.call c) ⊎ NewCall w u c → u.call c ≡ w.call c
    same c l (inl y) = y
    same c l (inr y) = absurd (let b : w.calls ≤ c = y.new in omega (arith, l, b))

    sort_on : (c : ℕ) → c + 1 ≤ w.calls → (u.job (u.call c).job).kind ≡ (w.job (w.call c).job).kind
    sort_on c l = ap (λ v. (u.job v.job).kind) (same c l (st.call c)) ∙ st.kind ((w.call c).job) ((h.first c l).0)

    kept : (c t : ℕ) → (u.call c).fault ≡ Some t → (u.call c ≡ w.call c) ⊎ NewCall w u c → FaultOf u c t
    kept c t e (inl y) = let a : FaultOf w c t = h.kept c t (ap (λ v. v.fault) (sym y) ∙ e) in record {
      call = (let l : c + 1 ≤ w.calls = a.call in let m : w.calls ≤ u.calls = st.calls in omega (arith, l, m));
      made = (let l : t + 1 ≤ w.jobs = a.made in let m : w.jobs ≤ u.jobs = st.more in omega (arith, l, m));
      at = over t Fault a.at;
      inside = subst (IsStoredFor u c t) (sym (sort_on c a.call)) (stored_for_on w u c t ((w.job (w.call c).job).kind) (ap (λ v. v.job) y) (st.kind t a.made) a.inside);
    }
    kept c t e (inr y) = absurd (let i : None ≡ Some t = sym y.fault ∙ e in cc)

    -- who stores does not move
    stays_put : (p : Party) (c t : ℕ) → puts (w.stack p).top ≡ Some (c, (t, Fault)) → puts (u.stack p).top ≡ Some (c, (t, Fault))
    stays_put p c t y = elim (either (same_party p (st.party))) [
      | inl i ↦ absurd (let a : puts (w.stack p).top ≡ None = ap (λ k. puts (w.stack k).top) (same_party_true p (st.party) i) ∙ st.quiet in let b : Some (c, (t, Fault)) ≡ None = sym y ∙ a in cc)
      | inr i ↦ ap (λ k. puts k.top) (st.stack p ∙ stack_other w.stack (st.party) (st.to) p i) ∙ y
    ]

    untold : (t c : ℕ) → is_of_scope c (u.job t).kind ≡ true → ((w.job t).at ≡ Over Fault) ⊎ JobEnds w t Fault (st.to).top → KeepsFor (u.job t).kind (u.call c).fault t ⊎ ((p : Party) × (puts (u.stack p).top ≡ Some (c, (t, Fault))))
    untold t c s (inl a) = elim (h.untold t c l i a) [
      | inl k ↦ inl (subst (λ v. KeepsFor (u.job t).kind v t) (sym (ap (λ v. v.fault) (same c ((call_bodied w (hold_of w h) t c l i).0) (st.call c)))) (subst (λ j. KeepsFor j (w.call c).fault t) (sym (st.kind t l)) k))
      | inr y ↦ inr (y.0, stays_put (y.0) c t (y.1))
    ]
      where
        l : t + 1 ≤ w.jobs
        l = old t Fault a

        i : is_of_scope c (w.job t).kind ≡ true
        i = ap (is_of_scope c) (sym (st.kind t l)) ∙ s
    untold t c s (inr b) = inr (st.party, ap (λ k. puts k.top) (st.stack (st.party) ∙ stack_mine w.stack (st.party) (st.to)) ∙ b.puts c (ap (is_of_scope c) (sym (st.kind t (b.made))) ∙ s))

    whole : (t c : ℕ) (o : Party) → t + 1 ≤ u.jobs → (u.job t).kind ≡ WholeOf c o → (t + 1 ≤ w.jobs) ⊎ (w.jobs ≤ t) → (u.job t).at ≡ Spent
    whole t c o l k (inl m) = subst (λ v. IsFinal v ((u.job t).at)) (h.whole t c o m (sym (st.kind t m) ∙ k)) (ad.final t)
    whole t c o l k (inr m) = st.whole t c o m l k

    was_body : (c : ℕ) → c + 1 ≤ w.calls → is_body (u.job (u.call c).job).kind ≡ true → is_body (w.job (w.call c).job).kind ≡ true
    was_body c l i = ap is_body (sym (sort_on c l)) ∙ i

    body : (c : ℕ) → is_body (u.job (u.call c).job).kind ≡ true → (u.call c).cell ≡ Some Fault → (u.call c).fault ≡ None → (u.call c ≡ w.call c) ⊎ NewCall w u c → (c + 1 ≤ w.calls) ⊎ NewCall w u c → ⊥
    body c i e n (inr y) l = absurd (let j : None ≡ Some Fault = sym y.cell ∙ e in cc)
    body c i e n (inl y) (inr l) = absurd (let j : None ≡ Some Fault = sym l.cell ∙ e in cc)
    body c i e n (inl y) (inl l) = h.body c l (was_body c l i) (ap (λ v. v.cell) (sym y) ∙ e) (ap (λ v. v.fault) (sym y) ∙ n)

    first : (c : ℕ) → (c + 1 ≤ w.calls) ⊎ NewCall w u c → ((u.call c).job + 1 ≤ u.jobs) × (is_body (u.job (u.call c).job).kind ≡ true → (u.call c).first ≡ None)
    first c (inl l) = (subst (λ n. n + 1 ≤ u.jobs) (sym (ap (λ v. v.job) y)) (let m : (w.call c).job + 1 ≤ w.jobs = (h.first c l).0 in let n : w.jobs ≤ u.jobs = st.more in omega (arith, m, n)), λ i. ap (λ v. v.first) y ∙ (h.first c l).1 (was_body c l i))
      where
        y : u.call c ≡ w.call c
        y = same c l (st.call c)
    first c (inr y) = (y.made, y.first)

    answers : (s : Party) (o : OpenCall) (f : Option Ending) (e : Ending) → answer_of (u.stack s).top ≡ Some (o, (f, e)) → (b : Bool) → same_party s (st.party) ≡ b → Answered u o e
    answers s o f e y true i = st.top o f e (ap (λ k. answer_of k.top) (sym (stack_mine w.stack (st.party) (st.to))) ∙ ap (λ k. answer_of k.top) (sym (st.stack (st.party))) ∙ ap (λ n. answer_of (u.stack n).top) (sym (same_party_true s (st.party) i)) ∙ y)
    answers s o f e y false i = on (same o.number mine.number (st.call o.number))
      where
        was : answer_of (w.stack s).top ≡ Some (o, (f, e))
        was = ap (λ v. answer_of v.top) (sym (st.stack s ∙ stack_other w.stack (st.party) (st.to) s i)) ∙ y

        mine : Opened w s o
        mine = (answer_says w s o f e (hold_of w h) was).0

        on : u.call o.number ≡ w.call o.number → Answered u o e
        on v = answered_on w u o e (over o.job) (st.kind o.job mine.made) (ap (λ k. k.fault) v) (λ n. ap (λ k. k.count) v ∙ n) (h.answers s o f e was)

-- a job that an event makes: it is not over, and spent if it stands for a broadcast
record Fresh (j : Job) : Type 0 where
  unended : (e : Ending) → j.at ≡ Over e → ⊥
  whole : (c : ℕ) (o : Party) → j.kind ≡ WholeOf c o → j.at ≡ Spent

-- the jobs after an event that makes some
record NewJobs (w : World) (g : ℕ → Job) (n : ℕ) : Type 0 where
  more : w.jobs ≤ n
  old : (t : ℕ) → t + 1 ≤ w.jobs → g t ≡ w.job t
  new : (t : ℕ) → w.jobs ≤ t → t + 1 ≤ n → Fresh (g t)
  beyond : (t : ℕ) → n ≤ t → g t ≡ w.job t

no_jobs : (w : World) → NewJobs w w.job w.jobs
no_jobs w = record {
  more = omega arith;
  old = λ t l. refl;
  new = λ t m l. absurd (omega (arith, l, m));
  beyond = λ t l. refl;
}

apart_from : (a b : ℕ) → (a ≡ b → ⊥) → (a == b) ≡ false
apart_from a b f = elim (either (a == b)) [ inl y ↦ absurd (f (eqb-true a b y)) | inr y ↦ y ]

-- one more
put_jobs : (w : World) (g : ℕ → Job) (n : ℕ) (j : Job) → NewJobs w g n → Fresh j → NewJobs w (put g n j) (n + 1)
put_jobs w g n j k f = record {
  more = (let m : w.jobs ≤ n = k.more in omega (arith, m));
  old = λ t l. put_old g n j t (apart_from t n (λ i. (let m : w.jobs ≤ n = k.more in omega (arith, l, i, m)))) ∙ k.old t l;
  new = λ t m l. new t m l (t == n) refl;
  beyond = λ t l. put_old g n j t (apart_from t n (λ i. omega (arith, l, i))) ∙ k.beyond t (omega (arith, l));
}
  where
    new : (t : ℕ) → w.jobs ≤ t → t + 1 ≤ n + 1 → (b : Bool) → (t == n) ≡ b → Fresh (if b then j else g t)
    new t m l true y = f
    new t m l false y = k.new t m (below (less_or t n))
      where
        below : (t + 1 ≤ n) ⊎ (n ≤ t) → t + 1 ≤ n
        below (inl z) = z
        below (inr z) = absurd (let i : (t == n) ≡ true = eq-eqb t n (omega (arith, z, l)) in let v : true ≡ false = sym i ∙ y in cc)

fresh_job : (q : Party) (p : ℕ) (k : JobKind) → is_whole k ≡ false → Fresh (new_job q p k)
fresh_job q p k z = record { unended = λ e y. cc; whole = λ c o y. absurd (let i : is_whole k ≡ true = ap is_whole y in let j : true ≡ false = sym i ∙ z in cc) }

one_job : (w : World) (q : Party) (p : ℕ) (k : JobKind) → is_whole k ≡ false → NewJobs w (put w.job w.jobs (new_job q p k)) (w.jobs + 1)
one_job w q p k z = put_jobs w w.job w.jobs (new_job q p k) (no_jobs w) (fresh_job q p k z)

two_jobs : (w : World) (q : Party) (p : ℕ) (k j : JobKind) → is_whole k ≡ false → is_whole j ≡ false → NewJobs w (put (put w.job w.jobs (new_job q p k)) (w.jobs + 1) (new_job q p j)) (w.jobs + 2)
two_jobs w q p k j z y = subst (NewJobs w (put (put w.job w.jobs (new_job q p k)) (w.jobs + 1) (new_job q p j))) (let e : (w.jobs + 1) + 1 ≡ w.jobs + 2 = omega arith in e) (put_jobs w (put w.job w.jobs (new_job q p k)) (w.jobs + 1) (new_job q p j) (one_job w q p k z) (fresh_job q p j y))

count_no_whole : (k : Count) → is_whole (count_kind k) ≡ false
count_no_whole (OfPool p) = refl
count_no_whole _ = refl

-- a piece for each worker of a pool
pieces_jobs : (w : World) (c : Pieces) (q : Party) (k : Count) (p : ℕ) → c.first ≡ w.jobs → NewJobs w (put_pieces c (λ i j. new_piece q k p i) w.job) (w.jobs + c.workers)
pieces_jobs w c q k p e = record {
  more = omega arith;
  old = λ t l. piece_old c (λ i j. new_piece q k p i) w.job t (piece_out c t (omega (arith, l, e)));
  new = λ t m l. subst Fresh (sym (piece_new c (λ i j. new_piece q k p i) w.job t (piece_in c t (omega (arith, m, e)) (omega (arith, l, e))))) (piece (t - c.first));
  beyond = λ t l. piece_old c (λ i j. new_piece q k p i) w.job t (apart t l (is_piece c t) refl);
}
  where
    piece : (i : ℕ) → Fresh (new_piece q k p i)
    piece i = record { unended = λ e y. cc; whole = λ d o y. absurd (let a : is_whole (count_kind k) ≡ true = ap is_whole y in let b : true ≡ false = sym a ∙ count_no_whole k in cc) }

    apart : (t : ℕ) → w.jobs + c.workers ≤ t → (b : Bool) → is_piece c t ≡ b → b ≡ false
    apart t l false y = refl
    apart t l true y = absurd (let r : (c.first ≤ t) × (t < c.first + c.workers) = piece_range c t y in let a : t < c.first + c.workers = r.1 in omega (arith, l, e, a))

-- the events that are no acts: where no call is made
free_puts : (x : Place) → is_free x ≡ true → puts x ≡ None
free_puts (Run t k) e = refl
free_puts Free e = refl
free_puts _ e = cc

ended_old : (w u : World) (y : Place) → NewJobs w u.job u.jobs → (t : ℕ) (e : Ending) → (u.job t).at ≡ Over e → ((w.job t).at ≡ Over e) ⊎ JobEnds w t e y
ended_old w u y n t e z = by (less_or t w.jobs) (less_or t u.jobs)
  where
    by : (t + 1 ≤ w.jobs) ⊎ (w.jobs ≤ t) → (t + 1 ≤ u.jobs) ⊎ (u.jobs ≤ t) → ((w.job t).at ≡ Over e) ⊎ JobEnds w t e y
    by (inl l) m = inl (ap (λ j. j.at) (sym (n.old t l)) ∙ z)
    by (inr l) (inl m) = absurd ((n.new t l m).unended e z)
    by (inr l) (inr m) = inl (ap (λ j. j.at) (sym (n.beyond t m)) ∙ z)

calm : (w u : World) (q : Party) (k : Stack) → ((r : Party) → u.stack r ≡ put_stack w.stack q k r) → puts (w.stack q).top ≡ None → NewJobs w u.job u.jobs → u.calls ≡ w.calls → ((c : ℕ) → u.call c ≡ w.call c) → answer_of k.top ≡ None → Still w u
calm w u q k s z j n c a = record {
  party = q;
  to = k;
  stack = s;
  quiet = z;
  more = j.more;
  kind = λ t l. ap (λ v. v.kind) (j.old t l);
  call = λ i. inl (c i);
  known = λ i l. inl (omega (arith, n, l));
  calls = omega (arith, n);
  ended = λ t e y. ended_old w u k.top j t e y;
  whole = λ t d o l m y. (j.new t l m).whole d o y;
  top = λ o f e y. absurd (let i : None ≡ Some (o, (f, e)) = sym a ∙ y in cc);
}

-- and where one is
made_call : (w u : World) (q : Party) (k : Stack) (v : Call) → ((r : Party) → u.stack r ≡ put_stack w.stack q k r) → puts (w.stack q).top ≡ None → NewJobs w u.job u.jobs → u.calls ≡ w.calls + 1 → ((c : ℕ) → u.call c ≡ put w.call w.calls v c) → v.fault ≡ None → v.cell ≡ None
    → v.job + 1 ≤ u.jobs → (is_body (u.job v.job).kind ≡ true → v.first ≡ None) → answer_of k.top ≡ None → Still w u
made_call w u q k v s z j n c f g m b a = record {
  party = q;
  to = k;
  stack = s;
  quiet = z;
  more = j.more;
  kind = λ t l. ap (λ x. x.kind) (j.old t l);
  call = λ i. by i (i == w.calls) refl;
  known = λ i l. at i l (less_or i w.calls);
  calls = omega (arith, n);
  ended = λ t e y. ended_old w u k.top j t e y;
  whole = λ t d o l y i. (j.new t l y).whole d o i;
  top = λ o d e y. absurd (let i : None ≡ Some (o, (d, e)) = sym a ∙ y in cc);
}
  where
    new : (i : ℕ) → i ≡ w.calls → NewCall w u i
    new i e = record {
      new = omega (arith, e);
      fault = ap (λ x. x.fault) is ∙ f;
      cell = ap (λ x. x.cell) is ∙ g;
      made = subst (λ x. x + 1 ≤ u.jobs) (sym (ap (λ x. x.job) is)) m;
      first = λ y. ap (λ x. x.first) is ∙ b (ap (λ x. is_body (u.job x).kind) (sym (ap (λ x. x.job) is)) ∙ y);
    }
      where
        is : u.call i ≡ v
        is = c i ∙ ap (put w.call w.calls v) e ∙ put_new w.call w.calls v

    by : (i : ℕ) (y : Bool) → (i == w.calls) ≡ y → (u.call i ≡ w.call i) ⊎ NewCall w u i
    by i true e = inr (new i (eqb-true i w.calls e))
    by i false e = inl (c i ∙ put_old w.call w.calls v i e)

    at : (i : ℕ) → i + 1 ≤ u.calls → (i + 1 ≤ w.calls) ⊎ (w.calls ≤ i) → (i + 1 ≤ w.calls) ⊎ NewCall w u i
    at i l (inl y) = inl y
    at i l (inr y) = inr (new i (omega (arith, l, n, y)))

-- from one place to another, as if the act had seen this
turned : (w : World) (q : Party) (k : Stack) → puts (w.stack q).top ≡ None → answer_of k.top ≡ None → Still w (with_stack w q k)
turned w q k z n = calm w (with_stack w q k) q k (λ r. refl) z (no_jobs w) refl (λ c. refl) n

steal_none : (g : PoolShape) (q : Party) (k : Wait) (n : ℕ) → answer_of (next_steal g q k n) ≡ None
steal_none g q k n = by (n == 0)
  where
    by : (b : Bool) → answer_of (if b then PopInjected k else StealFrom (record k { victim = not_self g.workers (own_index q) (next_victim g.workers k.victim) }) (n - 1)) ≡ None
    by true = refl
    by false = refl

yield_none : (g : PoolShape) (q : Party) (v n : ℕ) → answer_of (next_yield g q v n) ≡ None
yield_none g q v n = by (n == 0)
  where
    by : (b : Bool) → answer_of (if b then YieldPopInjected else YieldSteal (not_self g.workers (own_index q) (next_victim g.workers v)) (n - 1)) ≡ None
    by true = refl
    by false = refl

withdraw_none : (b : Option ℕ) (n : Plan) → answer_of (withdraw b n) ≡ None
withdraw_none None n = refl
withdraw_none (Some c) n = refl

uncast_none : (k : Count) (c : Pieces) → answer_of (end_cast k c) ≡ None
uncast_none (OfPool p) c = refl
uncast_none _ c = refl

refuse_still : (w : World) (q : Party) (x : Place) (fs : List Place) → puts (w.stack q).top ≡ puts x → is_refusable x ≡ true → Still w (seeing w q (record { top = x; below = fs }) (own_pool q) Refused)
refuse_still w q (GrowCall n) fs z e = turned w q _ z refl
refuse_still w q (GrowScope o) fs z e = turned w q _ z refl
refuse_still w q (GrowCast g) fs z e = turned w q _ z refl
refuse_still w q (DealPieces g) fs z e = turned w q _ z refl
refuse_still w q (OpenSlot n) fs z e = turned w q _ z refl
refuse_still w q (PushJob n v) fs z e = turned w q _ z (withdraw_none (plan_book n) n)
refuse_still w q (AddToFifo f) fs z e = turned w q _ z (withdraw_none (plan_book (Feed f)) (Feed f))
refuse_still w q (PushToken f v) fs z e = turned w q _ z refl
refuse_still w q (PushForAll c) fs z e = turned w q _ z (uncast_none c.count c)
refuse_still w q (OpenForAll c) fs z e = turned w q _ z refl
refuse_still w q _ fs z e = absurd (let a : false ≡ true = e in cc)

-- a call begins above a free place
begun : (w u : World) (q : Party) (x : Place) → is_free (w.stack q).top ≡ true → ((r : Party) → u.stack r ≡ put_stack w.stack q (after_call (w.stack q) x) r) → NewJobs w u.job u.jobs → u.calls ≡ w.calls → ((c : ℕ) → u.call c ≡ w.call c) → answer_of x ≡ None → Still w u
begun w u q x free s j n c a = calm w u q (after_call (w.stack q) x) s (free_puts ((w.stack q).top) free) j n c a

feed_still : (w : World) (k : Count) (p i : ℕ) → is_free ((w.stack (Worker p i)).top) ≡ true → Still w (after_feed w k p i (w.stack (Worker p i)))
feed_still w k p i free = begun w (after_feed w k p i (w.stack (Worker p i))) (Worker p i) (RaiseCount (Feed (record { count = k; pool = p; job = w.jobs; token = w.jobs + 1 }))) free (λ r. refl) (two_jobs w (Worker p i) p (count_kind k) (TokenOf i (count_book k)) (count_no_whole k) refl)
    refl (λ c. refl) refl

deal_still : (w : World) (q : Party) (k : Count) (p : ℕ) → is_free ((w.stack q).top) ≡ true → Still w (after_deal w q k p (w.stack q))
deal_still w q k p free = begun w (after_deal w q k p (w.stack q)) q (RaiseForAll b) free (λ r. refl) (pieces_jobs w b q k p refl) refl (λ c. refl) refl
  where
    b : Pieces
    b = record { count = k; pool = p; first = w.jobs; workers = (w.shape.pool p).workers }

-- a broadcast that waits
gather_still : (w : World) (q : Party) (p : ℕ) → is_free ((w.stack q).top) ≡ true → Still w (after_gather w q p (w.stack q))
gather_still w q p free = made_call w _ q (after_call (w.stack q) (RaiseCount (Gather (record { call = o; pieces = b })))) (new_gathering b.workers o.job) (λ r. refl) (free_puts ((w.stack q).top) free) jobs refl (λ c. refl) refl refl
    (let l : o.job + 1 ≤ o.job + 1 = omega arith in l) (λ y. refl) refl
  where
    b : Pieces
    b = record { count = OfCast w.calls q; pool = p; first = w.jobs; workers = (w.shape.pool p).workers }

    o : OpenCall
    o = record { number = w.calls; pool = p; job = w.jobs + b.workers }

    jobs : NewJobs w (put (put_pieces b (λ i j. new_piece q b.count p i) w.job) o.job (new_whole q p w.calls)) (o.job + 1)
    jobs = put_jobs w (put_pieces b (λ i j. new_piece q b.count p i) w.job) o.job (new_whole q p w.calls) (pieces_jobs w b q b.count p refl) (record { unended = λ e y. cc; whole = λ c d y. refl })

sent_still : (w : World) (q : Party) (p : ℕ) (b : Bool) → is_free ((w.stack q).top) ≡ true → Still w (after_send w q p (w.stack q) b)
sent_still w q p true free = begun w _ q (RaiseCount (Here p w.jobs)) free (λ r. refl) (one_job w q p Direct refl) refl (λ c. refl) refl
sent_still w q p false free = made_call w _ q (after_call (w.stack q) (RaiseCount (Send (record { number = w.calls; pool = p; job = w.jobs })))) (new_call None w.jobs) (λ r. refl) (free_puts ((w.stack q).top) free) (one_job w q p (Stored w.calls q) refl) refl (λ c. refl) refl refl
    (let l : w.jobs + 1 ≤ w.jobs + 1 = omega arith in l) (λ z. refl) refl

-- the frame of a join whose second side runs
abbrev is_second : Place → Bool
is_second (SecondSide o) = true
is_second _ = false

-- the end of a run
goes_none : (f : Place) (d : Ending) → is_frame f ≡ true → is_second f ≡ false → answer_of (goes_on f d) ≡ None
goes_none (FirstSide o a) Fine m n = refl
goes_none (FirstSide o a) Fault m n = refl
goes_none (ProbeWorking k) d m n = refl
goes_none (JoinProbe o) d m n = refl
goes_none (ScopeBody o) d m n = refl
goes_none (AtOnce p t) d m n = refl
goes_none (Run t k) d m n = refl
goes_none Free d m n = refl
goes_none Stopped d m n = refl
goes_none _ d m n = cc

-- a call with a first side is no scope, and no broadcast
sided : (w : World) (q : Party) (o : OpenCall) → FaultsHold w → Opened w q o → FirstEnds w (w.call o.number).first (Some Fine) → is_body (w.job o.job).kind ≡ true → ⊥
sided w q o h s f b = subst (λ a. FirstEnds w a (Some Fine)) ((h.first o.number s.number).1 (ap (λ n. is_body (w.job n).kind) s.target ∙ b)) f

pub whole_body : (k : JobKind) → is_whole k ≡ true → is_body k ≡ true
whole_body (WholeOf c o) e = refl
whole_body _ e = cc

second_told : (w : World) (q : Party) (o : OpenCall) (d : Ending) → FaultsHold w → Opened w q o → FirstEnds w (w.call o.number).first (Some Fine) → (w.job o.job).at ≡ Running q → (k : Option ℕ) → (w.call o.number).fault ≡ k → d ≡ told k d
second_told w q o d h s f r None z = refl
second_told w q o d h s f r (Some t) z = absurd (by ((w.job (w.call o.number).job).kind) refl a.inside)
  where
    a : FaultOf w o.number t
    a = h.kept o.number t z

    no_body : is_body (w.job (w.call o.number).job).kind ≡ true → ⊥
    no_body b = sided w q o h s f (ap (λ n. is_body (w.job n).kind) (sym s.target) ∙ b)

    own : (t ≡ (w.call o.number).job) ⊎ ((p : Party) × ((w.job t).kind ≡ Scoped o.number p)) → ⊥
    own (inl i) = absurd (let j : Over Fault ≡ Running q = sym a.at ∙ ap (λ n. (w.job n).at) (i ∙ s.target) ∙ r in cc)
    own (inr i) = no_body (ap is_body (((hold_of w h).entries t a.made o.number (i.0) (i.1)).kind))

    by : (k : JobKind) → (w.job (w.call o.number).job).kind ≡ k → IsStoredFor w o.number t k → ⊥
    by (WholeOf c p) i y = no_body (ap is_body i)
    by k i y = other (either (is_whole k))
      where
        other : (is_whole k ≡ true) ⊎ (is_whole k ≡ false) → ⊥
        other (inl v) = no_body (ap is_body i ∙ whole_body k v)
        other (inr v) = own (of_scope w o.number t k v y)

second_answers : (w : World) (q : Party) (d : Ending) (t : ℕ) (k : JobKind) (fs : List Place) (o : OpenCall) → FaultsHold w → (w.job t).at ≡ Running q → t ≡ o.job → SaysTarget w q (Answer o (Some Fine)) → Answered (ended_world w q d t k fs) o d
second_answers w q d t k fs o h r i s = record {
  own = d;
  at = λ b. ap (λ n. (put w.job t (at_job (w.job t) (Over d)) n).at) (sym i) ∙ ap (λ j. j.at) (put_new w.job t (at_job (w.job t) (Over d)));
  is = second_told w q o d h (s.0) (s.1) (ap (λ n. (w.job n).at) (sym i) ∙ r) ((w.call o.number).fault) refl;
  count = λ b. absurd (sided w q o h (s.0) (s.1) (was b));
  fine = λ b n. absurd (sided w q o h (s.0) (s.1) (was b));
}
  where
    was : is_body (put w.job t (at_job (w.job t) (Over d)) o.job).kind ≡ true → is_body (w.job o.job).kind ≡ true
    was b = ap is_body (sym (put_same (λ j. j.kind) w.job t (at_job (w.job t) (Over d)) o.job refl)) ∙ b

pub some_number : (a b : ℕ) → Some a ≡ Some b → a ≡ b
some_number a b e = cc

told_is : (u : World) (p o : OpenCall) (g f : Option Ending) (d e : Ending) → Answered u p d → ◌≡◌ {A = Option Told} (Some (p, (g, d))) (Some (o, (f, e))) → Answered u o e
told_is u p o g f d e a z = let i : ◌≡◌ {A = Told} (p, (g, d)) (o, (f, e)) = cc in subst (λ v. Answered u (v.0) ((v.1).1)) i a

resumed_answers : (w : World) (q : Party) (d : Ending) (t : ℕ) (k : JobKind) (gs fs : List Place) → FaultsHold w → (w.job t).at ≡ Running q → Linked (Run t Direct) fs → AllSay w q fs → AllFrames fs → (o : OpenCall) (f : Option Ending) (e : Ending)
    → answer_of ((after_resume fs d).top) ≡ Some (o, (f, e)) → Answered (ended_world w q d t k gs) o e
resumed_answers w q d t k gs [] h r l s a o f e z = absurd (cc)
resumed_answers w q d t k gs (SecondSide p ∷ fs) h r l s a o f e z = told_is (ended_world w q d t k gs) p o (Some Fine) f d e (second_answers w q d t k gs p h r (some_number t (p.job) ((l.0) (p.job) refl)) (s.0)) z
resumed_answers w q d t k gs (y ∷ fs) h r l s a o f e z = absurd (let i : None ≡ Some (o, (f, e)) = sym (goes_none y d (a.0) refl) ∙ z in cc)

of_scope_detached : (c : ℕ) (k : JobKind) → is_of_scope c k ≡ true → is_detached k ≡ true
of_scope_detached c (Scoped d o) i = refl
of_scope_detached c (PieceOf d o) i = refl
of_scope_detached c _ i = cc

awaited_out : (w : World) (t c : ℕ) → is_detached (w.job t).kind ≡ false → is_of_scope c (w.job t).kind ≡ true → ⊥
awaited_out w t c z i = absurd (let a : true ≡ false = sym (of_scope_detached c (w.job t).kind i) ∙ z in cc)

-- the end of the run of a job of a scope, or of a piece
ends_puts : (w : World) (t : ℕ) (k : JobKind) (d : Ending) (fs : List Place) (c : ℕ) → SaysRun w t k → is_of_scope c (w.job t).kind ≡ true → puts ((after_close t k d fs).top) ≡ Some (c, (t, d))
ends_puts w t (Scoped e o) d fs c s i = ap (λ n. Some (n, (t, d))) (sym (eqb-true c e (sym (ap (is_of_scope c) (s.1)) ∙ i)))
ends_puts w t (PieceOf e o) d fs c s i = ap (λ n. Some (n, (t, d))) (sym (eqb-true c e (sym (ap (is_of_scope c) (s.1)) ∙ i)))
ends_puts w t (Detached p) d fs c s i = absurd (let a : is_of_scope c (w.job t).kind ≡ false = ap (is_of_scope c) (s.1) in let b : true ≡ false = sym i ∙ a in cc)
ends_puts w t (Stored e o) d fs c s i = absurd (let a : is_of_scope c (w.job t).kind ≡ false = ap (is_of_scope c) (s.1) in let b : true ≡ false = sym i ∙ a in cc)
ends_puts w t _ d fs c s i = absurd (awaited_out w t c s.kind i)

end_still : (w : World) (q : Party) (d : Ending) (t : ℕ) (k : JobKind) (fs : List Place) → w.stack q ≡ record { top = Run t k; below = fs } → FaultsHold w → Still w (ended_world w q d t k fs)
end_still w q d t k fs z h = record {
  party = q;
  to = after_close t k d fs;
  stack = λ r. refl;
  quiet = ap (λ v. puts v.top) z;
  more = (let l : w.jobs ≤ w.jobs = omega arith in l);
  kind = λ s l. put_same (λ j. j.kind) w.job t (at_job (w.job t) (Over d)) s refl;
  call = λ c. inl refl;
  known = λ c l. inl l;
  calls = (let l : w.calls ≤ w.calls = omega arith in l);
  ended = λ s e a. ended s e (s == t) refl a;
  whole = λ s c o l m y. absurd (let n : s + 1 ≤ w.jobs = m in omega (arith, l, n));
  top = λ o f e y. closed k (subst (λ v. Linked v.top v.below) z ((calls.says q).links)) o f e y;
}
  where
    calls : CallsHold w
    calls = hold_of w h

    running : (w.job t).at ≡ Running q
    running = (at_work ((w.job t).at) ((w.job t).runs) q
        (where_is (Work q) (loc_at (w.job t)) (let a : worked t (w.stack q) ≡ is_loc (Work q) (loc_at (w.job t)) = (((calls).jobs).ok).placed (Work q) t in let b : worked t (w.stack q) ≡ (one (t == t) + runs_in t fs) = ap (worked t) z in let c : one (t == t) ≡ 1 = self_one t in
        omega (arith, a, b, c)))).1

    frames : AllFrames fs
    frames = subst (λ v. AllFrames v.below) z ((h.fills).frames q)

    says : AllSay w q fs
    says = subst (λ v. AllSay w q v.below) z ((calls.says q).below)

    made : t + 1 ≤ w.jobs
    made = elim (less_or t w.jobs) [ inl y ↦ y | inr y ↦ absurd (let i : Running q ≡ Nowhere = sym running ∙ (calls.jobs).unmade t y in cc) ]

    ends : JobEnds w t d ((after_close t k d fs).top)
    ends = record { made = made; puts = λ c i. ends_puts w t k d fs c (top_says w q (Run t k) fs calls z) i }

    ended : (s : ℕ) (e : Ending) (b : Bool) → (s == t) ≡ b → (if b then at_job (w.job t) (Over d) else w.job s).at ≡ Over e → ((w.job s).at ≡ Over e) ⊎ JobEnds w s e ((after_close t k d fs).top)
    ended s e true y a = inr (subst (λ v. JobEnds w s v ((after_close t k d fs).top)) (over_is d e a) (subst (λ n. JobEnds w n d ((after_close t k d fs).top)) (sym (eqb-true s t y)) ends))
    ended s e false y a = inl a

    closed : (j : JobKind) → Linked (Run t j) fs → (o : OpenCall) (f : Option Ending) (e : Ending) → answer_of ((after_close t j d fs).top) ≡ Some (o, (f, e)) → Answered (ended_world w q d t k fs) o e
    closed Direct l o f e y = resumed_answers w q d t k fs fs h running l says frames o f e y
    closed (TokenOf i b) l o f e y = resumed_answers w q d t k fs fs h running (relink (Run t (TokenOf i b)) (Run t Direct) fs (λ v n. n) l) says frames o f e y
    closed (BodyOf c p) l o f e y = resumed_answers w q d t k fs fs h running (relink (Run t (BodyOf c p)) (Run t Direct) fs (λ v n. n) l) says frames o f e y
    closed (WholeOf c p) l o f e y = resumed_answers w q d t k fs fs h running (relink (Run t (WholeOf c p)) (Run t Direct) fs (λ v n. n) l) says frames o f e y
    closed _ l o f e y = absurd (cc)

-- the events
at_yield : (x : Place) → (x ≡ YieldPop) ⊎ (x ≡ LocalPop) → answer_of x ≡ None
at_yield x (inl e) = ap answer_of e
at_yield x (inr e) = ap answer_of e

fault_cases : (w : World) → FaultsHold w → Cases w (Still w)
fault_cases w h = record {
  picks = λ q k fs v z. turned w q _ (ap (λ s. puts s.top) z) refl;
  yield_picks = λ q fs v z. turned w q _ (ap (λ s. puts s.top) z) refl;
  misses = λ q k n fs z. turned w q _ (ap (λ s. puts s.top) z) (steal_none (w.shape.pool (own_pool q)) q k n);
  yield_misses = λ q v n fs z. turned w q _ (ap (λ s. puts s.top) z) (yield_none (w.shape.pool (own_pool q)) q v n);
  refuses = λ q x fs z e. refuse_still w q x fs (ap (λ s. puts s.top) z) e;
  ends = λ q d t k fs z. end_still w q d t k fs z h;
  spawns = λ q p f. begun w _ q (RaiseCount (Detach p w.jobs)) (f.0) (λ r. refl) (one_job w q p (Detached p) refl) refl (λ c. refl) refl;
  feeds = λ p i f. feed_still w (OfPool p) p i f;
  deals = λ q p f. deal_still w q (OfPool p) p (f.0);
  sends = λ q p b f. sent_still w q p b (f.0);
  joins = λ p i f. made_call w _ (Worker p i) (after_call (w.stack (Worker p i)) (RaiseCount (Fork (record { number = w.calls; pool = p; job = w.jobs + 1 }) w.jobs))) (new_call (Some w.jobs) (w.jobs + 1)) (λ r. refl) (free_puts ((w.stack (Worker p i)).top) f)
      (two_jobs w (Worker p i) p Direct (Stored w.calls (Worker p i)) refl refl) refl (λ c. refl) refl refl (let l : (w.jobs + 1) + 1 ≤ w.jobs + 2 = omega arith in l)
      (λ z. absurd (let a : is_body (put (put w.job w.jobs (new_job (Worker p i) p Direct)) (w.jobs + 1) (new_job (Worker p i) p (Stored w.calls (Worker p i))) (w.jobs + 1)).kind ≡ false = ap (λ j. is_body (j.kind))
      (put_new (put w.job w.jobs (new_job (Worker p i) p Direct)) (w.jobs + 1) (new_job (Worker p i) p (Stored w.calls (Worker p i)))) in let b : true ≡ false = sym z ∙ a in cc))
      refl;
  opens = λ q p f. made_call w _ q (after_call (w.stack q) (RaiseCount (Open (record { number = w.calls; pool = p; job = w.jobs })))) (new_call None w.jobs) (λ r. refl) (free_puts ((w.stack q).top) (f.0))
      (one_job w q p (BodyOf w.calls q) refl) refl (λ c. refl) refl refl (let l : w.jobs + 1 ≤ w.jobs + 1 = omega arith in l) (λ z. refl) refl;
  gathers = λ q p f. gather_still w q p (f.0);
  enters = λ q n z f. begun w _ q (RaiseCount (Enter (record { call = z.call; owner = z.owner; pool = z.pool; job = w.jobs }))) (f.1) (λ r. refl) (one_job w q z.pool (Scoped z.call z.owner) refl) refl (λ c. refl) refl;
  feeds_in = λ i n z f. feed_still w (OfScope z.call z.owner) z.pool i (f.1);
  deals_in = λ q n z f. deal_still w q (OfScope z.call z.owner) z.pool (f.1);
  yields = λ p i x y f. turned w (Worker p i) (after_call (w.stack (Worker p i)) x) (free_puts ((w.stack (Worker p i)).top) f) (at_yield x y);
  gives = λ q p f. begun w _ q (LowerCount (OfPool p) PoolValue Resume) (f.0) (λ r. refl) (no_jobs w) refl (λ c. refl) refl;
}

pub event_still : (w : World) (e : Event) → is_act e ≡ false → FaultsHold w → IfSome (step w e) (Still w)
event_still w e n h = by_cases w (Still w) (fault_cases w h) e n
