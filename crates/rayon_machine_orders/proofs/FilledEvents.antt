-- what the events that are no acts leave of the cells of calls
use Rattle.rayon_machine_laws.proofs.Scoping.{ScopesHold, old_call as known_call, step_scopes}
use Rattle.rayon_machine_orders.proofs.Words.{OfPool, OfScope, OfCast, Count, arith, refl, sym, ◌∙◌, ap, subst, inl, inr, ℕ, Bool, true, false, ◌+◌, ◌-◌, ◌==◌, ◌≤◌, ◌<◌, if◌then◌else◌, Option, Some, None, List, [], ◌∷◌, ◌≡◌, ◌⊎◌, IfSome, eqb-true, eq-eqb, ltb-true, ltb-false, ltb, Party, Worker}
use Rattle.rayon_machine_orders.proofs.Words.{Ending, Fine, Fault, JobKind, Detached, Stored, Direct, TokenOf, Scoped, BodyOf, PieceOf, WholeOf, Target, Termination, Answer, Plan, Detach, Here, Send, Fork, Feed, Open, Enter, Gather, PoolValue, OfJob, Then, LeaveWait, Resume, Answers, GiveBack}
use Rattle.rayon_machine_orders.proofs.Words.{Pieces, Job, Place, ProbeWorking, PickVictim, StealFrom, PopInjected, LeaveSearch, JoinProbe, YieldPick, YieldSteal, YieldPopInjected, Run, RaiseCount, GrowCall, PushJob, LockToWake, WakeWorker, UnlockWoken, TakeResult, LowerCount, SetLatch}
use Rattle.rayon_machine_orders.proofs.Words.{LockToSettle, WakeSettled, UnlockSettled, SetLockLatch, FirstSide, SecondSide, AtOnce, Free, Stopped, AddToFifo, PushToken, TakeFromFifo, RaiseForAll, PushForAll, LowerForAll, GrowScope, OpenSlot, ScopeBody, OpenForAll, GrowCast, DealPieces, Event}
use Rattle.rayon_machine_orders.proofs.Words.{Unset, IsSet, Whereabouts, Running, Over, Spent, PoolShape, Wait, Call, same_party, own_pool, own_index, undo, next_victim, not_self, next_steal, next_yield, goes_on, is_free, after_push, plan_count, plan_job, plan_book, count_book, count_kind}
use Rattle.rayon_machine_orders.proofs.Words.{withdraw, end_cast, Stack, World, at_job, put, put_stack, with_stack, after_close, after_call, new_call, after_send, step, new_job, new_piece, new_whole, new_gathering, put_pieces, is_piece, after_feed, after_deal, one, runs_in, has_body, share}
use Rattle.rayon_machine_orders.proofs.Words.{shares_in, shares, Taken, after_gather, Refused, LocalPop, YieldPop}
use Rattle.rayon_machine_laws.proofs.Frame.{either, if_some_and, if_some_map, put_same, put_new, put_old, piece_old, piece_out}
use Rattle.rayon_machine_laws.proofs.Ties.{AllFrames}
use Rattle.rayon_machine_laws.proofs.Tops.{FramesOk}
use Rattle.rayon_machine_laws.proofs.Holding.{go_frames}
use Rattle.rayon_machine_laws.proofs.Asides.{steps_aside}
use Rattle.rayon_machine_laws.proofs.Attended.{aside_frames}
use Rattle.rayon_machine_laws.proofs.Seats.{is_frame}
use Rattle.rayon_machine_laws.proofs.Owners.{target_number}
use Rattle.rayon_machine_laws.proofs.Hands.{worked}
use Rattle.rayon_machine_laws.proofs.Located.{loc_at, is_loc, where_is, at_work, Work}
use Rattle.rayon_machine_laws.proofs.PlacedRuns.{step_advance}
use Rattle.rayon_machine_laws.proofs.PlacedEvents.{Advance, IsFinal}
use Rattle.rayon_machine_laws.proofs.Claims.{SaysTarget, SaysThen, Says, call_kind}
use Rattle.rayon_machine_laws.proofs.ClaimRuns.{unqueued}
use Rattle.rayon_machine_laws.proofs.ClaimMakes.{below_new}
use Rattle.rayon_machine_laws.proofs.Amounts.{paid}
use Rattle.rayon_machine_laws.proofs.ShareActs.{SharesHold}
use Rattle.rayon_machine_laws.proofs.ShareSteps.{self_one}
use Rattle.rayon_machine_laws.proofs.ShareEnds.{freed, closed_shares, step_shares}
use Rattle.rayon_machine_orders.proofs.Takes.{set_found, set_then, set_lower, seen_set, lowers_now, sets_now, is_grown_well, says_missing, number_is}
use Rattle.rayon_machine_orders.proofs.FilledStates.{IsSettled, IsNamed, IsTaken, FilledHold, is_ended, now_ended, settled_ended, unmade_ended, is_in}
use Rattle.rayon_machine_orders.proofs.EventCases.{Cases, FreeAt}
use Rattle.rayon_machine_runs.specs.Steps.{seeing}
use Rattle.rayon_machine_orders.proofs.Words.{is_refusable}
use Rattle.rayon_machine_laws.proofs.ClaimEvents.{ended_world}

-- a call whose latch a place has seen set is given out
target_known : (w : World) (q : Party) (c : ℕ) (g : Target) → target_number g ≡ Some c → SaysTarget w q g → c + 1 ≤ w.calls
target_known w q c Termination e s = cc
target_known w q c (Answer o f) e s = subst (λ n. n + 1 ≤ w.calls) (number_is (o.number) c e) ((s.0).number)

found_known : (w : World) (q : Party) (c : ℕ) (g : Target) (o : Option Taken) → set_found g o ≡ Some c → SaysTarget w q g → c + 1 ≤ w.calls
found_known w q c g None e s = target_known w q c g e s
found_known w q c g (Some t) e s = cc

then_known : (w : World) (q : Party) (c : ℕ) (n : Then) → set_then n ≡ Some c → SaysThen w q n → c + 1 ≤ w.calls
then_known w q c (LeaveWait g) e s = target_known w q c g e s
then_known w q c _ e s = absurd (cc)

lower_known : (w : World) (q : Party) (c : ℕ) (n : Then) → set_lower n ≡ Some c → SaysThen w q n → c + 1 ≤ w.calls
lower_known w q c (LeaveWait g) e s = target_known w q c g e s
lower_known w q c (Answers o None d) e s = subst (λ n. n + 1 ≤ w.calls) (number_is (o.number) c e) ((s.0).number)
lower_known w q c (Answers o (Some a) d) e s = absurd (cc)
lower_known w q c _ e s = absurd (cc)

seen_known : (w : World) (q : Party) (c : ℕ) (x : Place) → seen_set x ≡ Some c → Says w q x → c + 1 ≤ w.calls
seen_known w q c (LeaveSearch k) e s = found_known w q c k.target k.found e (s.0)
seen_known w q c (LockToWake k) e s = then_known w q c k.then e s
seen_known w q c (WakeWorker k) e s = then_known w q c k.then e s
seen_known w q c (UnlockWoken k) e s = then_known w q c k.then e s
seen_known w q c (TakeResult o f) e s = subst (λ n. n + 1 ≤ w.calls) (number_is (o.number) c e) ((s.0).number)
seen_known w q c (LowerCount p a n) e s = lower_known w q c n e (s.0)
seen_known w q c (SetLatch k) e s = then_known w q c k.then e (s.1)
seen_known w q c (SetLockLatch d n) e s = then_known w q c n e (s.1)
seen_known w q c (LockToSettle k) e s = then_known w q c k.then e (s.1)
seen_known w q c (WakeSettled k) e s = then_known w q c k.then e (s.1)
seen_known w q c (UnlockSettled k) e s = then_known w q c k.then e (s.1)
seen_known w q c _ e s = absurd (cc)

-- a place that has seen no latch set, is not about to set one, and answers nothing
abbrev pub IsPlain : Place → Type 0
IsPlain x = (seen_set x ≡ None) × (sets_now x ≡ None) × (is_grown_well x ≡ true) × (says_missing x ≡ false)

-- a call that was there is as it was, and a new one has a latch that is not set
abbrev IsOldCall : World → World → ℕ → Type 0
IsOldCall w u c = (u.call c ≡ w.call c) ⊎ (((u.call c).latch ≡ Unset) × (w.calls ≤ c) × (((u.call c).counted ≡ true) ⊎ (has_body (u.job (u.call c).job).kind ≡ false)))

-- the jobs that were there are of their kind, and a new one that stands for a broadcast runs nowhere
pub record JobsOn (w : World) (J : ℕ → Job) (n : ℕ) : Type 0 where
  pub same : (t : ℕ) → t + 1 ≤ w.jobs → (J t).kind ≡ (w.job t).kind
  pub fresh : (t : ℕ) → w.jobs ≤ t → t + 1 ≤ n → has_body (J t).kind ≡ false → (J t).at ≡ Spent

pub none_new : (n t : ℕ) → n ≤ t → t + 1 ≤ n → ⊥
none_new n t a b = absurd (omega (arith, a, b))

jobs_same : (w : World) → JobsOn w (w.job) (w.jobs)
jobs_same w = record { same = λ t b. refl; fresh = λ t l m e. absurd (none_new w.jobs t l m) }

not_next : (t n : ℕ) → (t == n) ≡ false → n ≤ t → t + 1 ≤ n + 1 → ⊥
not_next t n e l m = let i : t ≡ n = omega (arith, l, m) in let y : (t == n) ≡ true = eq-eqb t n i in let z : true ≡ false = sym y ∙ e in cc

-- one job more, which has a body, or a run of its own
jobs_more : (w : World) (J : ℕ → Job) (n : ℕ) (j : Job) → w.jobs ≤ n → (has_body (j.kind) ≡ false → j.at ≡ Spent) → JobsOn w J n → JobsOn w (put J n j) (n + 1)
jobs_more w J n j more f o = record { same = λ t b. ap (λ i. i.kind) (put_old J n j t (below_new t n (omega (arith, b, more)))) ∙ o.same t b; fresh = λ t l m e. by t l m (t == n) refl e }
  where
    by : (t : ℕ) → w.jobs ≤ t → t + 1 ≤ n + 1 → (b : Bool) → (t == n) ≡ b → has_body ((if b then j else J t).kind) ≡ false → (if b then j else J t).at ≡ Spent
    by t l m true z e = f e
    by t l m false z e = elim (either (ltb t n)) [
      | inl y ↦ o.fresh t l (let b : t < n = ltb-true t n y in omega (arith, b)) e
      | inr y ↦ absurd (not_next t n z (ltb-false t n y) m)
    ]

jobs_one : (w : World) (q : Party) (p : ℕ) (k : JobKind) → has_body k ≡ true → JobsOn w (put w.job w.jobs (new_job q p k)) (w.jobs + 1)
jobs_one w q p k hb = jobs_more w (w.job) (w.jobs) (new_job q p k) (omega arith) (λ e. absurd (let z : true ≡ false = sym hb ∙ e in cc)) (jobs_same w)

jobs_two : (w : World) (q : Party) (p : ℕ) (d k : JobKind) → has_body d ≡ true → has_body k ≡ true → JobsOn w (put (put w.job w.jobs (new_job q p d)) (w.jobs + 1) (new_job q p k)) (w.jobs + 2)
jobs_two w q p d k hd hk = subst (λ n. JobsOn w (put (put w.job w.jobs (new_job q p d)) (w.jobs + 1) (new_job q p k)) n) (let e : (w.jobs + 1) + 1 ≡ w.jobs + 2 = omega arith in e)
    (jobs_more w (put w.job w.jobs (new_job q p d)) (w.jobs + 1) (new_job q p k) (omega arith) (λ e. absurd (let z : true ≡ false = sym hk ∙ e in cc)) (jobs_one w q p d hd))

counts_body : (k : Count) → has_body (count_kind k) ≡ true
counts_body (OfPool p) = refl
counts_body _ = refl

jobs_pieces : (w : World) (q : Party) (k : Count) (p n : ℕ) → JobsOn w (put_pieces (record { count = k; pool = p; first = w.jobs; workers = n }) (λ i j. new_piece q k p i) w.job) (w.jobs + n)
jobs_pieces w q k p n = record { same = λ t b. ap (λ i. i.kind) (piece_old c (λ i j. new_piece q k p i) w.job t (piece_out c t (omega (arith, b)))); fresh = λ t l m e. by t l m (is_piece c t) refl e }
  where
    c : Pieces
    c = record { count = k; pool = p; first = w.jobs; workers = n }

    by : (t : ℕ) → w.jobs ≤ t → t + 1 ≤ w.jobs + n → (b : Bool) → is_piece c t ≡ b → has_body ((if b then new_piece q k p (t - c.first) else w.job t).kind) ≡ false → (if b then new_piece q k p (t - c.first) else w.job t).at ≡ Spent
    by t l m true z e = absurd (let y : true ≡ false = sym (counts_body k) ∙ e in cc)
    by t l m false z e = absurd (let a : is_piece c t ≡ true = is_in c t l (omega (arith, m)) in let y : true ≡ false = sym a ∙ z in cc)

-- an event that is no act: one party's stack is another, with no share more but one that it is about to give back
pub record Beside (w u : World) : Type 0 where
  pub party : Party
  pub to : Stack
  pub stack : (r : Party) → u.stack r ≡ put_stack w.stack party to r
  pub call : (c : ℕ) → IsOldCall w u c
  pub jobs : JobsOn w (u.job) (u.jobs)
  pub plain : IsPlain to.top
  pub unpaid : (t : ℕ) → paid t (w.stack party).top ≡ 0
  pub line : (t : ℕ) → is_ended (w.job t).at ≡ true → shares t to ≤ shares t (w.stack party) + paid t to.top

beside_fills : (w u : World) → FilledHold w → ScopesHold u → SharesHold u × FramesOk u → Advance w u → Beside w u → FilledHold u
beside_fills w u h sc n adv m = record {
  hold = n.0;
  scopes = sc;
  frames = n.1;
  seen = λ q c e. seen q c (m.call c) (old_seen q c (same_party q (m.party)) refl (ap (λ k. seen_set (k.top)) (sym (m.stack q)) ∙ e));
  wholes = λ t b e. wholes t b e;
  taken = λ q c i s e. taken q c e (named c i) (settled c s (m.call c));
  grown = λ q. ap (λ k. is_grown_well (k.top)) (m.stack q) ∙ grown q (same_party q (m.party)) refl;
  found = λ q. ap (λ k. says_missing (k.top)) (m.stack q) ∙ found q (same_party q (m.party)) refl;
}
  where
    grown : (q : Party) (b : Bool) → same_party q (m.party) ≡ b → is_grown_well ((if b then m.to else w.stack q).top) ≡ true
    grown q true e = (m.plain).2
    grown q false e = h.grown q

    found : (q : Party) (b : Bool) → same_party q (m.party) ≡ b → says_missing ((if b then m.to else w.stack q).top) ≡ false
    found q true e = (m.plain).3
    found q false e = h.found q

    old_seen : (q : Party) (c : ℕ) (b : Bool) → same_party q (m.party) ≡ b → seen_set ((if b then m.to else w.stack q).top) ≡ Some c → seen_set (w.stack q).top ≡ Some c
    old_seen q c true e z = absurd (let a : seen_set ((m.to).top) ≡ None = (m.plain).0 in cc)
    old_seen q c false e z = z

    old_sets : (q : Party) (c : ℕ) (b : Bool) → same_party q (m.party) ≡ b → sets_now ((if b then m.to else w.stack q).top) ≡ Some c → sets_now (w.stack q).top ≡ Some c
    old_sets q c true e z = absurd (let a : sets_now ((m.to).top) ≡ None = (m.plain).1 in cc)
    old_sets q c false e z = z

    seen : (q : Party) (c : ℕ) → IsOldCall w u c → seen_set (w.stack q).top ≡ Some c → (u.call c).latch ≡ IsSet
    seen q c (inl b) e = ap (λ k. k.latch) b ∙ h.seen q c e
    seen q c (inr b) e = absurd (let k : c + 1 ≤ w.calls = seen_known w q c ((w.stack q).top) e ((((h.hold).calls).says q).top) in let l : w.calls ≤ c = b.1 in omega (arith, k, l))

    setter : (q : Party) (c : ℕ) → sets_now (u.stack q).top ≡ Some c → sets_now (w.stack q).top ≡ Some c
    setter q c e = old_sets q c (same_party q (m.party)) refl (ap (λ k. sets_now (k.top)) (sym (m.stack q)) ∙ e)

    spent : (t : ℕ) → (w.job t).at ≡ Spent → (u.job t).at ≡ Spent
    spent t e = subst (λ v. IsFinal v ((u.job t).at)) e (adv.final t)

    wholes : (t : ℕ) → t + 1 ≤ u.jobs → has_body (u.job t).kind ≡ false → (u.job t).at ≡ Spent
    wholes t b e = elim (either (ltb t w.jobs)) [
      | inl y ↦ (let l : t < w.jobs = ltb-true t w.jobs y in let a : t + 1 ≤ w.jobs = omega (arith, l) in spent t (h.wholes t a (ap has_body (sym ((m.jobs).same t a)) ∙ e)))
      | inr y ↦ (m.jobs).fresh t (ltb-false t w.jobs y) b e
    ]

    kind_same : (c : ℕ) → u.call c ≡ w.call c → (w.call c).job + 1 ≤ w.jobs → (u.job (u.call c).job).kind ≡ (w.job (w.call c).job).kind
    kind_same c b l = ap (λ k. (u.job (k.job)).kind) b ∙ (m.jobs).same ((w.call c).job) l

    settled : (c : ℕ) → IsSettled u c → IsOldCall w u c → (u.call c ≡ w.call c) × IsSettled w c
    settled c (inl a) (inl b) = (b, inl (ap (λ k. k.latch) (sym b) ∙ a))
    settled c (inr (inl s)) (inl b) = (b, inr (inl (s.0, setter (s.0) c (s.1))))
    settled c (inr (inr y)) (inl b) = (b, inr (inr (here, ap has_body (sym (kind_same c b ((((h.scopes).over c (known_call w (h.scopes) c here) here)).made))) ∙ y.1)))
      where
        here : (w.call c).counted ≡ false
        here = ap (λ k. k.counted) (sym b) ∙ y.0
    settled c (inr (inr y)) (inr b) = absurd (elim (b.2) [ inl a ↦ (let k : true ≡ false = sym a ∙ y.0 in cc) | inr a ↦ (let k : true ≡ false = sym (y.1) ∙ a in cc) ])
    settled c (inl a) (inr b) = absurd (let k : Unset ≡ IsSet = sym (b.0) ∙ a in cc)
    settled c (inr (inl s)) (inr b) = absurd (let k : c + 1 ≤ w.calls = (now_ended w (h.scopes) (h.wholes) (s.0) c ((w.stack (s.0)).top) (setter (s.0) c (s.1)) ((((h.hold).calls).says (s.0)).top)).0 in let l : w.calls ≤ c = b.1 in omega (arith, k, l))

    named : (c : ℕ) → IsNamed u c → (u.call c ≡ w.call c) × IsSettled w c → IsNamed w c
    named c i s = (i.0, ap call_kind (sym (kind_same c (s.0) (unmade_ended w (((h.hold).calls).jobs) ((w.call c).job) (settled_ended w (h.scopes) (h.wholes) c (s.1))))) ∙ i.1)

    at : (t : ℕ) (q : Party) (b : Bool) → same_party q (m.party) ≡ b → is_ended (w.job t).at ≡ true → ((r : Party) → shares t (w.stack r) ≤ paid t ((w.stack r).top)) → shares t (if b then m.to else w.stack q) ≤ paid t ((if b then m.to else w.stack q).top)
    at t q true e o f = let a : shares t (m.to) ≤ shares t (w.stack (m.party)) + paid t ((m.to).top) = m.line t o in let b : shares t (w.stack (m.party)) ≤ paid t ((w.stack (m.party)).top) = f (m.party) in let c : paid t ((w.stack (m.party)).top) ≡ 0 = m.unpaid t in omega (arith, a, b, c)
    at t q false e o f = f q

    taken : (q : Party) (c : ℕ) → (u.call c).cell ≡ None → ((u.call c ≡ w.call c) × IsSettled w c → IsNamed w c) → (u.call c ≡ w.call c) × IsSettled w c → IsTaken u q c
    taken q c e i s = subst (λ t. shares t (u.stack q) ≤ paid t ((u.stack q).top)) (ap (λ k. k.job) (sym (s.0)))
        (subst (λ k. shares ((w.call c).job) k ≤ paid ((w.call c).job) (k.top)) (sym (m.stack q)) (at ((w.call c).job) q (same_party q (m.party)) refl (settled_ended w (h.scopes) (h.wholes) c (s.1)) (λ r. h.taken r c (i s) (s.1) (ap (λ k. k.cell) (sym (s.0)) ∙ e))))

-- from one place to another
turn_beside : (w : World) (q : Party) (x y : Place) (fs : List Place) → w.stack q ≡ record { top = x; below = fs } → IsPlain y → ((t : ℕ) → (paid t x ≡ 0) × (share t y ≤ share t x)) → Beside w (with_stack w q (record { top = y; below = fs }))
turn_beside w q x y fs z p l = record {
  party = q;
  to = record { top = y; below = fs };
  stack = λ r. refl;
  call = λ c. inl refl;
  jobs = jobs_same w;
  plain = p;
  unpaid = λ t. ap (λ k. paid t (k.top)) z ∙ (l t).0;
  line = λ t dn. (let a : shares t (w.stack q) ≡ (share t x + shares_in t fs) = ap (shares t) z in let b : share t y ≤ share t x = (l t).1 in omega (arith, a, b));
}

-- a refused call gives back its share, and first takes back its number of a book
lowers_none : (k : Count) (t : ℕ) (n : Plan) → lowers_now k (OfJob t) (GiveBack n) ≡ None
lowers_none (OfPool p) t n = refl
lowers_none _ t n = refl

drawn_plain : (b : Option ℕ) (n : Plan) → IsPlain (withdraw b n)
drawn_plain None n = (refl, lowers_none (plan_count n) (plan_job n) n, refl, refl)
drawn_plain (Some c) n = (refl, refl, refl, refl)

drawn_share : (t : ℕ) (b : Option ℕ) (n : Plan) → share t (withdraw b n) ≤ one (t == plan_job n)
drawn_share t None n = omega arith
drawn_share t (Some c) n = omega arith

cast_plain : (k : Count) (c : Pieces) → IsPlain (end_cast k c)
cast_plain (OfPool p) c = (refl, refl, refl, refl)
cast_plain _ c = (refl, refl, refl, refl)

cast_share : (t : ℕ) (k : Count) (c : Pieces) → share t (end_cast k c) ≤ one (is_piece c t)
cast_share t (OfPool p) c = omega arith
cast_share t _ c = omega arith

refuse_beside : (w : World) (q : Party) (x : Place) (fs : List Place) → w.stack q ≡ record { top = x; below = fs } → is_refusable x ≡ true → Beside w (seeing w q (record { top = x; below = fs }) (own_pool q) Refused)
refuse_beside w q (GrowCall n) fs z e = turn_beside w q (GrowCall n) (undo n) fs z (drawn_plain None n) (λ t. (refl, drawn_share t None n))
refuse_beside w q (AddToFifo f) fs z e = turn_beside w q (AddToFifo f) (after_push (Feed f)) fs z (drawn_plain (count_book f.count) (Feed f)) (λ t. (refl, drawn_share t (count_book f.count) (Feed f)))
refuse_beside w q (PushToken f v) fs z e = turn_beside w q (PushToken f v) (TakeFromFifo f) fs z (refl, refl, refl, refl) (λ t. (refl, omega arith))
refuse_beside w q (PushForAll c) fs z e = turn_beside w q (PushForAll c) (end_cast c.count c) fs z (cast_plain c.count c) (λ t. (refl, cast_share t c.count c))
refuse_beside w q (OpenForAll c) fs z e = turn_beside w q (OpenForAll c) (LowerForAll c) fs z (refl, refl, refl, refl) (λ t. (refl, omega arith))
refuse_beside w q (GrowCast g) fs z e = turn_beside w q (GrowCast g) (undo (Gather g)) fs z (refl, refl, refl, refl) (λ t. (refl, omega arith))
refuse_beside w q (DealPieces g) fs z e = turn_beside w q (DealPieces g) (undo (Gather g)) fs z (refl, refl, refl, refl) (λ t. (refl, omega arith))
refuse_beside w q (GrowScope o) fs z e = turn_beside w q (GrowScope o) (undo (Open o)) fs z (refl, refl, refl, refl) (λ t. (refl, omega arith))
refuse_beside w q (OpenSlot x) fs z e = turn_beside w q (OpenSlot x) (undo x) fs z (drawn_plain None x) (λ t. (refl, drawn_share t None x))
refuse_beside w q (PushJob n v) fs z e = turn_beside w q (PushJob n v) (after_push n) fs z (drawn_plain (plan_book n) n) (λ t. (refl, drawn_share t (plan_book n) n))
refuse_beside w q _ fs z e = absurd (let a : false ≡ true = e in cc)

steal_beside : (w : World) (q : Party) (k : Wait) (n : ℕ) (g : PoolShape) (fs : List Place) → w.stack q ≡ record { top = StealFrom k n; below = fs } → Beside w (with_stack w q (record { top = next_steal g q k n; below = fs }))
steal_beside w q k n g fs z = at (n == 0)
  where
    at : (b : Bool) → Beside w (with_stack w q (record { top = (if b then PopInjected k else StealFrom (record k { victim = not_self g.workers (own_index q) (next_victim g.workers k.victim) }) (n - 1)); below = fs }))
    at true = turn_beside w q (StealFrom k n) (PopInjected k) fs z (refl, refl, refl, refl) (λ t. (refl, omega arith))
    at false = turn_beside w q (StealFrom k n) (StealFrom (record k { victim = not_self g.workers (own_index q) (next_victim g.workers k.victim) }) (n - 1)) fs z (refl, refl, refl, refl) (λ t. (refl, omega arith))

skip_beside : (w : World) (q : Party) (v n : ℕ) (g : PoolShape) (fs : List Place) → w.stack q ≡ record { top = YieldSteal v n; below = fs } → Beside w (with_stack w q (record { top = next_yield g q v n; below = fs }))
skip_beside w q v n g fs z = at (n == 0)
  where
    at : (b : Bool) → Beside w (with_stack w q (record { top = (if b then YieldPopInjected else YieldSteal (not_self g.workers (own_index q) (next_victim g.workers v)) (n - 1)); below = fs }))
    at true = turn_beside w q (YieldSteal v n) YieldPopInjected fs z (refl, refl, refl, refl) (λ t. (refl, omega arith))
    at false = turn_beside w q (YieldSteal v n) (YieldSteal (not_self g.workers (own_index q) (next_victim g.workers v)) (n - 1)) fs z (refl, refl, refl, refl) (λ t. (refl, omega arith))

-- the end of a run
goes_on_plain : (f : Place) (e : Ending) → is_frame f ≡ true → IsPlain (goes_on f e)
goes_on_plain (FirstSide o a) Fine m = (refl, refl, refl, refl)
goes_on_plain (FirstSide o a) Fault m = (refl, refl, refl, refl)
goes_on_plain (ProbeWorking k) e m = (refl, refl, refl, refl)
goes_on_plain (JoinProbe o) e m = (refl, refl, refl, refl)
goes_on_plain (SecondSide o) e m = (refl, refl, refl, refl)
goes_on_plain (ScopeBody o) e m = (refl, refl, refl, refl)
goes_on_plain (AtOnce p t) e m = (refl, refl, refl, refl)
goes_on_plain (Run t k) e m = (refl, refl, refl, refl)
goes_on_plain Free e m = (refl, refl, refl, refl)
goes_on_plain Stopped e m = (refl, refl, refl, refl)
goes_on_plain _ e m = cc

closed_plain : (t : ℕ) (k : JobKind) (d : Ending) (fs : List Place) → AllFrames fs → IsPlain ((after_close t k d fs).top)
closed_plain t Direct d [] a = (refl, refl, refl, refl)
closed_plain t (TokenOf i b8) d [] a = (refl, refl, refl, refl)
closed_plain t (WholeOf c9 o9) d [] a = (refl, refl, refl, refl)
closed_plain t (BodyOf c9 o9) d [] a = (refl, refl, refl, refl)
closed_plain t Direct d (f ∷ fs) a = goes_on_plain f d (a.0)
closed_plain t (TokenOf i b8) d (f ∷ fs) a = goes_on_plain f d (a.0)
closed_plain t (WholeOf c9 o9) d (f ∷ fs) a = goes_on_plain f d (a.0)
closed_plain t (BodyOf c9 o9) d (f ∷ fs) a = goes_on_plain f d (a.0)
closed_plain t _ d fs a = (refl, refl, refl, refl)

freed_paid : (v : Whereabouts) (q : Party) (s t : ℕ) (k : JobKind) (d : Ending) (fs : List Place) → v ≡ Running q → (s ≡ t → is_ended v ≡ true) → freed s t k ≤ paid s ((after_close t k d fs).top)
freed_paid v q s t (Scoped c o) d fs r y = by (s == t) refl
  where
    by : (b : Bool) → (s == t) ≡ b → one b ≤ 0
    by true e = absurd (let a : is_ended v ≡ true = y (eqb-true s t e) in let b : is_ended v ≡ false = ap is_ended r in cc)
    by false e = omega arith
freed_paid v q s t (PieceOf c o) d fs r y = by (s == t) refl
  where
    by : (b : Bool) → (s == t) ≡ b → one b ≤ 0
    by true e = absurd (let a : is_ended v ≡ true = y (eqb-true s t e) in let b : is_ended v ≡ false = ap is_ended r in cc)
    by false e = omega arith
freed_paid v q s t _ d fs r y = omega arith

end_beside : (w : World) (q : Party) (d : Ending) (t : ℕ) (k : JobKind) (fs : List Place) → w.stack q ≡ record { top = Run t k; below = fs } → AllFrames fs → FilledHold w → Beside w (ended_world w q d t k fs)
end_beside w q d t k fs z a h = record {
  party = q;
  to = after_close t k d fs;
  stack = λ r. refl;
  call = λ c. inl refl;
  jobs = record { same = λ i b. put_same (λ j. j.kind) w.job t (at_job (w.job t) (Over d)) i refl; fresh = λ i l m e. absurd (none_new w.jobs i l m) };
  plain = closed_plain t k d fs a;
  unpaid = λ s. ap (λ n. paid s (n.top)) z;
  line = λ s y. (let b : shares s (w.stack q) ≡ (0 + shares_in s fs) = ap (shares s) z in let c : shares s (after_close t k d fs) ≡ freed s t k + shares_in s fs = (closed_shares s t k d fs).0 in
      let e : freed s t k ≤ paid s ((after_close t k d fs).top) = freed_paid ((w.job t).at) q s t k d fs running (λ i. ap (λ n. is_ended (w.job n).at) (sym i) ∙ y) in omega (arith, b, c, e));
}
  where
    running : (w.job t).at ≡ Running q
    running = (at_work ((w.job t).at) ((w.job t).runs) q
        (where_is (Work q) (loc_at (w.job t)) (let a : worked t (w.stack q) ≡ is_loc (Work q) (loc_at (w.job t)) = ((((h.hold).calls).jobs).ok).placed (Work q) t in let b : worked t (w.stack q) ≡ (one (t == t) + runs_in t fs) = ap (worked t) z in let c : one (t == t) ≡ 1 = self_one t in
        omega (arith, a, b, c)))).1

-- a call begins above a free place
free_unpaid : (x : Place) (t : ℕ) → is_free x ≡ true → paid t x ≡ 0
free_unpaid (LowerCount p s n) t e = cc
free_unpaid (LowerForAll c) t e = cc
free_unpaid _ t e = refl

begin_beside : (w u : World) (q : Party) (y : Place) → is_free (w.stack q).top ≡ true → ((r : Party) → u.stack r ≡ put_stack w.stack q (after_call (w.stack q) y) r) → ((c : ℕ) → IsOldCall w u c) → JobsOn w (u.job) (u.jobs) → IsPlain y → ((t : ℕ) → share t y ≡ 0) → Beside w u
begin_beside w u q y f s c j p n = record {
  party = q;
  to = after_call (w.stack q) y;
  stack = s;
  call = c;
  jobs = j;
  plain = p;
  unpaid = λ t. free_unpaid ((w.stack q).top) t f;
  line = λ t dn. (let a : share t y ≡ 0 = n t in omega (arith, a));
}

deal_beside : (w : World) (q : Party) (d : Count) (p : ℕ) → is_free ((w.stack q).top) ≡ true → Beside w (after_deal w q d p (w.stack q))
deal_beside w q d p f = begin_beside w _ q (RaiseForAll (record { count = d; pool = p; first = w.jobs; workers = (w.shape.pool p).workers })) f (λ r. refl) (λ c. inl refl) (jobs_pieces w q d p ((w.shape.pool p).workers)) (refl, refl, refl, refl) (λ t. refl)

feed_beside : (w : World) (d : Count) (p i : ℕ) → is_free ((w.stack (Worker p i)).top) ≡ true → Beside w (after_feed w d p i (w.stack (Worker p i)))
feed_beside w d p i f = begin_beside w _ (Worker p i) (RaiseCount (Feed (record { count = d; pool = p; job = w.jobs; token = w.jobs + 1 }))) f (λ r. refl) (λ c. inl refl) (jobs_two w (Worker p i) p (count_kind d) (TokenOf i (count_book d)) (counts_body d) refl) (refl, refl, refl, refl) (λ t. refl)

-- the calls after a new one
old_call : (w : World) (v : Call) (J : ℕ → Job) (c : ℕ) → v.latch ≡ Unset → (v.counted ≡ true) ⊎ (has_body (J (v.job)).kind ≡ false) → (put w.call w.calls v c ≡ w.call c) ⊎
    (((put w.call w.calls v c).latch ≡ Unset) × (w.calls ≤ c) × (((put w.call w.calls v c).counted ≡ true) ⊎ (has_body (J ((put w.call w.calls v c).job)).kind ≡ false)))
old_call w v J c l k = at (c == w.calls) refl
  where
    at : (b : Bool) → (c == w.calls) ≡ b → ((if b then v else w.call c) ≡ w.call c) ⊎ (((if b then v else w.call c).latch ≡ Unset) × (w.calls ≤ c) × (((if b then v else w.call c).counted ≡ true) ⊎ (has_body (J ((if b then v else w.call c).job)).kind ≡ false)))
    at true e = inr (l, (let i : c ≡ w.calls = eqb-true c w.calls e in omega (arith, i)), k)
    at false e = inl refl

sent_beside : (w : World) (q : Party) (p : ℕ) (b : Bool) → is_free ((w.stack q).top) ≡ true → Beside w (after_send w q p (w.stack q) b)
sent_beside w q p true e = begin_beside w _ q (RaiseCount (Here p w.jobs)) e (λ r. refl) (λ c. inl refl) (jobs_one w q p Direct refl) (refl, refl, refl, refl) (λ t. refl)
sent_beside w q p false e = begin_beside w _ q (RaiseCount (Send (record { number = w.calls; pool = p; job = w.jobs }))) e (λ r. refl) (λ c. old_call w (new_call None w.jobs) (put w.job w.jobs (new_job q p (Stored w.calls q))) c refl (inl refl)) (jobs_one w q p (Stored w.calls q) refl)
    (refl, refl, refl, refl) (λ t. refl)

gather_beside : (w : World) (q : Party) (p : ℕ) → FreeAt w q p → Beside w (after_gather w q p (w.stack q))
gather_beside w q p f = begin_beside w _ q (RaiseCount (Gather (record { call = record { number = w.calls; pool = p; job = t0 }; pieces = c }))) (f.0) (λ r. refl)
    (λ i. old_call w (new_gathering n t0) J i refl (inr (ap (λ j. has_body (j.kind)) (put_new J1 t0 (new_whole q p w.calls)))))
    (jobs_more w J1 t0 (new_whole q p w.calls) (omega arith) (λ e. refl) (jobs_pieces w q (OfCast w.calls q) p n)) (refl, refl, f.1, refl) (λ t. refl)
  where
    n : ℕ
    n = (w.shape.pool p).workers

    c : Pieces
    c = record { count = OfCast w.calls q; pool = p; first = w.jobs; workers = n }

    t0 : ℕ
    t0 = w.jobs + n

    J1 : ℕ → Job
    J1 = put_pieces c (λ i j. new_piece q (OfCast w.calls q) p i) w.job

    J : ℕ → Job
    J = put J1 t0 (new_whole q p w.calls)

yield_plain : (x : Place) → (x ≡ YieldPop) ⊎ (x ≡ LocalPop) → IsPlain x × ((t : ℕ) → share t x ≡ 0)
yield_plain x (inl e) = subst (λ y. IsPlain y × ((t : ℕ) → share t y ≡ 0)) (sym e) ((refl, refl, refl, refl), λ t. refl)
yield_plain x (inr e) = subst (λ y. IsPlain y × ((t : ℕ) → share t y ≡ 0)) (sym e) ((refl, refl, refl, refl), λ t. refl)

pub filled_cases : (w : World) → FilledHold w → Cases w (Beside w)
filled_cases w h = record {
  picks = λ q k fs v z. turn_beside w q (PickVictim k) (StealFrom (record k { victim = not_self (w.shape.pool (own_pool q)).workers (own_index q) v }) ((w.shape.pool (own_pool q)).workers - 2)) fs z (refl, refl, refl, refl) (λ t. (refl, omega arith));
  yield_picks = λ q fs v z. turn_beside w q YieldPick (YieldSteal (not_self (w.shape.pool (own_pool q)).workers (own_index q) v) ((w.shape.pool (own_pool q)).workers - 2)) fs z (refl, refl, refl, refl) (λ t. (refl, omega arith));
  misses = λ q k n fs z. steal_beside w q k n (w.shape.pool (own_pool q)) fs z;
  yield_misses = λ q v n fs z. skip_beside w q v n (w.shape.pool (own_pool q)) fs z;
  refuses = λ q x fs z e. refuse_beside w q x fs z e;
  ends = λ q d t k fs z. end_beside w q d t k fs z (subst (λ s. AllFrames (s.below)) z (h.frames q)) h;
  spawns = λ q p f. begin_beside w _ q (RaiseCount (Detach p w.jobs)) (f.0) (λ r. refl) (λ c. inl refl) (jobs_one w q p (Detached p) refl) (refl, refl, refl, refl) (λ t. refl);
  feeds = λ p i f. feed_beside w (OfPool p) p i f;
  deals = λ q p f. deal_beside w q (OfPool p) p (f.0);
  sends = λ q p b f. sent_beside w q p b (f.0);
  joins = λ p i f. begin_beside w _ (Worker p i) (RaiseCount (Fork (record { number = w.calls; pool = p; job = w.jobs + 1 }) w.jobs)) f (λ r. refl)
      (λ c. old_call w (new_call (Some w.jobs) (w.jobs + 1)) (put (put w.job w.jobs (new_job (Worker p i) p Direct)) (w.jobs + 1) (new_job (Worker p i) p (Stored w.calls (Worker p i)))) c refl (inl refl))
      (jobs_two w (Worker p i) p Direct (Stored w.calls (Worker p i)) refl refl) (refl, refl, refl, refl) (λ t. refl);
  opens = λ q p f. begin_beside w _ q (RaiseCount (Open (record { number = w.calls; pool = p; job = w.jobs }))) (f.0) (λ r. refl)
      (λ c. old_call w (new_call None w.jobs) (put w.job w.jobs (new_job q p (BodyOf w.calls q))) c refl (inl refl)) (jobs_one w q p (BodyOf w.calls q) refl) (refl, refl, refl, refl) (λ t. refl);
  gathers = λ q p f. gather_beside w q p f;
  enters = λ q n z f. begin_beside w _ q (RaiseCount (Enter (record { call = z.call; owner = z.owner; pool = z.pool; job = w.jobs }))) (f.1) (λ r. refl) (λ c. inl refl)
      (jobs_one w q z.pool (Scoped z.call z.owner) refl) (refl, refl, refl, refl) (λ t. refl);
  feeds_in = λ i n z f. feed_beside w (OfScope z.call z.owner) z.pool i (f.1);
  deals_in = λ q n z f. deal_beside w q (OfScope z.call z.owner) z.pool (f.1);
  yields = λ p i x y f. begin_beside w _ (Worker p i) x f (λ r. refl) (λ c. inl refl) (jobs_same w) ((yield_plain x y).0) ((yield_plain x y).1);
  gives = λ q p f. begin_beside w _ q (LowerCount (OfPool p) PoolValue Resume) (f.0) (λ r. refl) (λ c. inl refl) (jobs_same w) (refl, refl, refl, refl) (λ t. refl);
}

-- each step keeps what the cells hold
pub step_beside : (w : World) (e : Event) → FilledHold w → IfSome (step w e) (Beside w) → IfSome (step w e) FilledHold
step_beside w e h b = if_some_map (λ u. ((ScopesHold u × (SharesHold u × FramesOk u)) × Advance w u) × Beside w u) FilledHold (λ u f. beside_fills w u h (((f.0).0).0) (((f.0).0).1) ((f.0).1) (f.1)) (step w e)
    (if_some_and (λ u. (ScopesHold u × (SharesHold u × FramesOk u)) × Advance w u) (Beside w) (step w e)
    (if_some_and (λ u. ScopesHold u × (SharesHold u × FramesOk u)) (Advance w) (step w e)
    (if_some_and ScopesHold (λ u. SharesHold u × FramesOk u) (step w e) (step_scopes w e (h.scopes))
    (if_some_and SharesHold FramesOk (step w e) (step_shares w e (h.hold)) (steps_aside FramesOk w (h.frames) (λ q. go_frames w q (w.stack q) refl (h.frames)) (λ u m. aside_frames w u m (h.frames)) e)))
    (step_advance w e (unqueued w ((h.hold).calls)) ((((h.hold).calls).jobs).feeds) ((((h.hold).calls).jobs).ok) ((((h.hold).calls).jobs).unmade))) b)
