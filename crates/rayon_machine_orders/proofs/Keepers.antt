-- each share that is in the count has a keeper: what a party or the share's owner keeps, no act loses
--
-- `HasKeeper` is the other half of `Tokens`: where a share is counted, some party or its owner has it. One party moves
-- at a time. What it and the owner have together is no less after the move (`keepers_by`).
-- Two things could take a share away without a Lower. The one is a detached job that ceases to be queued or to run. No
-- act does that (`act_busies`); its end brings the share to the party's Lower (`end_keepers`, Keeping); a job that is
-- handed back has no share (`ReturnsHold`).
-- The other is a push by a call that no push is made for: an install that runs its job at once queues none
-- (`SaysQueue`).
use Rattle.rayon_machine_places.specs.declared.place.Mark.{Mark as Marking}
use Rattle.rayon_machine_orders.proofs.Words.{Counted, Queued, Returned, Numbered, Dealt, Unnumbered, Pieces, arith, refl, sym, ◌∙◌, ap, subst, inl, inr, ℕ, zero, suc, Bool, true, false, ◌&&◌, ◌+◌, ◌==◌, ◌≤◌, if◌then◌else◌, Option, Some, None, List, [], ◌∷◌, ◌≡◌, IfSome, ⊤, ◌-◌, eqb-true, Party}
use Rattle.rayon_machine_orders.proofs.Words.{Worker, Caller, Plan, Detach, Here, Send, Fork, Feed, Open, Enter, Gather, Place, PopWorking, TakeCastWorking, PopIdle, TakeCastIdle, StealFrom, PopInjected, JoinPop, JoinTakeCast, YieldPop, YieldTakeCast, YieldSteal, YieldPopInjected, LocalPop}
use Rattle.rayon_machine_orders.proofs.Words.{LocalTakeCast, BeginTask, BeginHere, PushJob, TakeFromFifo, AddToFifo, PushToken, PushForAll, OpenForAll, CloseForAll, GrowCast, DealPieces, StorePiece, Move, Stay, EnterAbove as Enter, StartRun, Back, HandBack, Discard, HandIn, Mark, HandAllBack}
use Rattle.rayon_machine_orders.proofs.Words.{PushInj, PushOwn, Seen, HandedBack, Spent, Job, same_party, is_member, plan_pool, plan_job, act_of, next_of, plan_book, count_book, Shape, Stack, World, Counts, Part, target_pool, at_job, begun, popped, take_cast, pop_injector, effect, is_open, put}
use Rattle.rayon_machine_orders.proofs.Words.{put_stack, jobs_after, mark_pieces, marked, is_piece, one, is_detached, all_values, shares, is_busy, Feeding, Plain, Token, Task}
use Rattle.rayon_machine_laws.proofs.Frame.{same_party_true, if_some_map, stack_mine, stack_other, either, undo_sees, out_sees, if_cond}
use Rattle.rayon_machine_laws.proofs.Ties.{job_at}
use Rattle.rayon_machine_laws.proofs.Lists.{SameJobs, quiet_same}
use Rattle.rayon_machine_laws.proofs.ClaimActs.{Lasting}
use Rattle.rayon_machine_laws.proofs.ClaimRuns.{world_after, place_part}
use Rattle.rayon_machine_laws.proofs.ShareActs.{with_job, one_most}
use Rattle.rayon_machine_laws.proofs.Bares.{backs}
use Rattle.rayon_machine_laws.proofs.Returns.{ReturnsHold}
use Rattle.rayon_machine_laws.proofs.ShareRuns.{StartsAwaited}

-- what a keeper has of a share
abbrev pub kept_by : (Party → ℕ) → ℕ → Option Party → ℕ
kept_by f own None = own
kept_by f own (Some q) = f q

abbrev pub HasKeeper : (Party → ℕ) → ℕ → ℕ → Type 0
HasKeeper f own cap = (o : Option Party) × (cap ≤ kept_by f own o)

-- what a party and the owner have together, one of them has
one_of_two : (g : Party → ℕ) (new cap : ℕ) (q : Party) → cap ≤ 1 → cap ≤ g q + new → HasKeeper g new cap
one_of_two g new cap q c h = by new refl
  where
    by : (n : ℕ) → new ≡ n → HasKeeper g new cap
    by zero e = (Some q, (let a : cap ≤ g q = omega (arith, h, e) in a))
    by (suc n) e = (None, (let a : cap ≤ new = omega (arith, c, e) in a))

-- where a party and the owner have together no less than before, and the others the same, a keeper stays
pub keeper_stays : (f g : Party → ℕ) (own new cap : ℕ) (q : Party) → cap ≤ 1 → ((r : Party) → same_party r q ≡ false → g r ≡ f r) → f q + own ≤ g q + new → HasKeeper f own cap → HasKeeper g new cap
keeper_stays f g own new cap q c other mine (None, h) = let k : cap ≤ own = h in one_of_two g new cap q c (omega (arith, mine, k))
keeper_stays f g own new cap q c other mine (Some r, h) = by (same_party r q) refl
  where
    has : cap ≤ f r
    has = h

    by : (z : Bool) → same_party r q ≡ z → HasKeeper g new cap
    by true z = let e : f r ≡ f q = ap f (same_party_true r q z) in let k : cap ≤ f r = has in one_of_two g new cap q c (omega (arith, mine, k, e))
    by false z = (Some r, (let e : g r ≡ f r = other r z in let k : cap ≤ f r = has in let a : cap ≤ g r = omega (arith, k, e) in a))

-- each share that is in the count has a keeper
pub record KeepersHold (w : World) : Type 0 where
  pub returns : ReturnsHold w
  pub jobs : (t : ℕ) → HasKeeper (λ q. shares t (w.stack q)) (with_job (w.job t)) (one (w.job t).counted)
  pub values : (p : ℕ) → HasKeeper (λ q. all_values p (w.stack q)) (one (w.pool p).held) (one (w.pool p).counted)

-- one party has moved: a share that is in the count was so before, or has come to it now
pub keepers_by : (w u : World) (q : Party) (k : Stack) → ((r : Party) → u.stack r ≡ put_stack w.stack q k r) → ((t : ℕ) → (u.job t).counted ≡ true → (g : ℕ) × ((one (w.job t).counted + g) ≡ 1) × (shares t (w.stack q) + with_job (w.job t) + g ≤ shares t k + with_job (u.job t)))
    → ((p : ℕ) → (u.pool p).counted ≡ true → ((w.pool p).counted ≡ true) × (all_values p (w.stack q) + one (w.pool p).held ≤ all_values p k + one (u.pool p).held)) → KeepersHold w → ReturnsHold u → KeepersHold u
keepers_by w u q k st fj fp h s = record { returns = s; jobs = λ t. job t ((u.job t).counted) refl; values = λ p. value p ((u.pool p).counted) refl }
  where
    mine : (f : Stack → ℕ) → f (u.stack q) ≡ f k
    mine f = ap f (st q ∙ stack_mine w.stack q k)

    others : (f : Stack → ℕ) (r : Party) → same_party r q ≡ false → f (u.stack r) ≡ f (w.stack r)
    others f r e = ap f (st r ∙ stack_other w.stack q k r e)

    job : (t : ℕ) (b : Bool) → (u.job t).counted ≡ b → HasKeeper (λ r. shares t (u.stack r)) (with_job (u.job t)) (one b)
    job t false e = (None, omega arith)
    job t true e = by ((w.job t).counted) refl (fj t e)
      where
        by : (b : Bool) → (w.job t).counted ≡ b → (g : ℕ) × ((one (w.job t).counted + g) ≡ 1) × (shares t (w.stack q) + with_job (w.job t) + g ≤ shares t k + with_job (u.job t)) → HasKeeper (λ r. shares t (u.stack r)) (with_job (u.job t)) 1
        by true z (g, one_now, kept) = keeper_stays (λ r. shares t (w.stack r)) (λ r. shares t (u.stack r)) (with_job (w.job t)) (with_job (u.job t)) 1 q (omega arith) (λ r x. others (shares t) r x)
            (let a : shares t (u.stack q) ≡ shares t k = mine (shares t) in let b : shares t (w.stack q) + with_job (w.job t) + g ≤ shares t k + with_job (u.job t) = kept in omega (arith, a, b))
            (subst (λ c. HasKeeper (λ r. shares t (w.stack r)) (with_job (w.job t)) (one c)) z (h.jobs t))
        by false z (g, one_now, kept) = one_of_two (λ r. shares t (u.stack r)) (with_job (u.job t)) 1 q (omega arith)
            (let a : shares t (u.stack q) ≡ shares t k = mine (shares t) in let b : shares t (w.stack q) + with_job (w.job t) + g ≤ shares t k + with_job (u.job t) = kept in let c : (one (w.job t).counted + g) ≡ 1 = one_now in let e : one (w.job t).counted ≡ 0 = ap one z in
            omega (arith, a, b, c, e))

    value : (p : ℕ) (b : Bool) → (u.pool p).counted ≡ b → HasKeeper (λ r. all_values p (u.stack r)) (one (u.pool p).held) (one b)
    value p false e = (None, omega arith)
    value p true e = keeper_stays (λ r. all_values p (w.stack r)) (λ r. all_values p (u.stack r)) (one (w.pool p).held) (one (u.pool p).held) 1 q (omega arith) (λ r x. others (all_values p) r x)
        (let a : all_values p (u.stack q) ≡ all_values p k = mine (all_values p) in let b : all_values p (w.stack q) + one (w.pool p).held ≤ all_values p k + one (u.pool p).held = (fp p e).1 in omega (arith, a, b))
        (subst (λ c. HasKeeper (λ r. all_values p (w.stack r)) (one (w.pool p).held) (one c)) ((fp p e).0) (h.values p))

-- an act leaves a job that is queued, in a hand or running so
abbrev pub StaysBusy : Part → Seen × Part → Type 0
StaysBusy m r = one (is_busy m.job.at) ≤ one (is_busy r.1.job.at)

pop_busies : (q : Party) (m : Part) (rest : List ℕ) (o : Option ℕ) → IfSome (popped q m rest o) (StaysBusy m)
pop_busies q m rest None = omega arith
pop_busies q m rest (Some t) = one_most (is_busy m.job.at)

cast_busies : (q : Party) (m : Part) (l : List ℕ) → IfSome (take_cast q m l) (StaysBusy m)
cast_busies q m [] = omega arith
cast_busies q m (t ∷ ts) = one_most (is_busy m.job.at)

inj_busies : (q : Party) (m : Part) (l : List ℕ) → IfSome (pop_injector q m l) (StaysBusy m)
inj_busies q m [] = omega arith
inj_busies q m (t ∷ ts) = one_most (is_busy m.job.at)

push_busies : (h : Shape) (q : Party) (c : Counts) (m : Part) (p t : ℕ) (b : Option ℕ) (z : Bool) → IfSome (effect (if z then PushOwn t b else PushInj p t b) h q c m) (λ r. is_busy r.1.job.at ≡ true)
push_busies h q c m p t b true = refl
push_busies h q c m p t b false = refl

pub act_pushes : (h : Shape) (q : Party) (c : Counts) (m : Part) (n : Plan) (v : Bool) → IfSome (effect (act_of q (PushJob n v)) h q c m) (λ r. is_busy r.1.job.at ≡ true)
act_pushes h (Caller e) c m n v = refl
act_pushes h (Worker a b) c m n v = push_busies h (Worker a b) c m (plan_pool n) (plan_job n) (plan_book n) (is_member (Worker a b) (plan_pool n))

-- a place whose act takes a job back out of a FIFO list
abbrev pub is_retake : Place → Bool
is_retake (TakeFromFifo f) = true
is_retake _ = false

pub act_busies : (h : Shape) (q : Party) (c : Counts) (m : Part) (x : Place) → is_retake x ≡ false → IfSome (effect (act_of q x) h q c m) (StaysBusy m)
act_busies h (Worker a b) c m (PopWorking k) z = pop_busies (Worker a b) m _ _
act_busies h (Caller n) c m (PopWorking k) z = tt
act_busies h (Worker a b) c m (PopIdle k) z = pop_busies (Worker a b) m _ _
act_busies h (Caller n) c m (PopIdle k) z = tt
act_busies h (Worker a b) c m (JoinPop o) z = pop_busies (Worker a b) m _ _
act_busies h (Caller n) c m (JoinPop o) z = tt
act_busies h (Worker a b) c m YieldPop z = pop_busies (Worker a b) m _ _
act_busies h (Caller n) c m YieldPop z = tt
act_busies h (Worker a b) c m LocalPop z = pop_busies (Worker a b) m _ _
act_busies h (Caller n) c m LocalPop z = tt
act_busies h (Worker a b) c m (StealFrom k n) z = pop_busies (Worker a b) m _ _
act_busies h (Caller e) c m (StealFrom k n) z = tt
act_busies h (Worker a b) c m (YieldSteal v n) z = pop_busies (Worker a b) m _ _
act_busies h (Caller e) c m (YieldSteal v n) z = tt
act_busies h (Worker a b) c m (PopInjected k) z = inj_busies (Worker a b) m _
act_busies h (Caller n) c m (PopInjected k) z = tt
act_busies h (Worker a b) c m YieldPopInjected z = inj_busies (Worker a b) m _
act_busies h (Caller n) c m YieldPopInjected z = tt
act_busies h (Worker a b) c m (TakeCastWorking k) z = cast_busies (Worker a b) m _
act_busies h (Caller n) c m (TakeCastWorking k) z = tt
act_busies h (Worker a b) c m (TakeCastIdle k) z = cast_busies (Worker a b) m _
act_busies h (Caller n) c m (TakeCastIdle k) z = tt
act_busies h (Worker a b) c m (JoinTakeCast o) z = cast_busies (Worker a b) m _
act_busies h (Caller n) c m (JoinTakeCast o) z = tt
act_busies h (Worker a b) c m YieldTakeCast z = cast_busies (Worker a b) m _
act_busies h (Caller n) c m YieldTakeCast z = tt
act_busies h (Worker a b) c m LocalTakeCast z = cast_busies (Worker a b) m _
act_busies h (Caller n) c m LocalTakeCast z = tt
act_busies h q c m (BeginTask (Plain t)) z = one_most (is_busy m.job.at)
act_busies h q c m (BeginTask (Token k i b8)) z = out_sees (StaysBusy m) q m b8 (omega arith) (λ u us e. one_most (is_busy m.job.at))
act_busies h (Worker a b) c m (AddToFifo f) z = if_cond (StaysBusy m) (is_open (Worker a b) (m.seat.feeder (count_book f.count))) _ (λ o. one_most (is_busy m.job.at))
act_busies h (Caller n) c m (AddToFifo f) z = tt
act_busies h (Worker a b) c m (PushToken f v) z = one_most (is_busy m.job.at)
act_busies h (Caller n) c m (PushToken f v) z = tt
act_busies h q c m (TakeFromFifo f) z = cc
act_busies h q c m (BeginHere t) z = one_most (is_busy m.job.at)
act_busies h q c m (PushForAll b) z = omega arith
act_busies h q c m (DealPieces g) z = omega arith
act_busies h q c m (PushJob n v) z = if_some_map (λ r. is_busy r.1.job.at ≡ true) (StaysBusy m) (λ r e. (let a : one (is_busy m.job.at) ≤ 1 = one_most (is_busy m.job.at) in let b : one (is_busy r.1.job.at) ≡ 1 = ap one e in omega (arith, a, b))) (effect (act_of q (PushJob n v)) h q c m)
    (act_pushes h q c m n v)
act_busies h q c m x z = if_some_map (SameJobs m) (StaysBusy m) (λ r s. (let a : one (is_busy r.1.job.at) ≡ one (is_busy m.job.at) = ap (λ v. one (is_busy v)) (s.at) in omega (arith, a))) (effect (act_of q x) h q c m) (quiet_same h q c m x refl)

-- where none is taken back, the job that is touched stays as it was
abbrev pub StaysUntaken : Part → Seen × Part → Type 0
StaysUntaken m (Task y, n) = ⊤
StaysUntaken m r = StaysBusy m r

pub retake_busies : (h : Shape) (a b : ℕ) (c : Counts) (m : Part) (f : Feeding) → IfSome (effect (act_of (Worker a b) (TakeFromFifo f)) h (Worker a b) c m) (StaysUntaken m)
retake_busies h a b c m f = undo_sees (StaysUntaken m) (Worker a b) m (count_book f.count) (omega arith) (λ u e. tt)

-- and so does a move, but for what it hands back
back_stays : (J : ℕ → Job) (n t : ℕ) → backs (put J n (at_job (J n) HandedBack) t).at ≤ 0 → one (is_busy (J t).at) ≤ one (is_busy (put J n (at_job (J n) HandedBack) t).at)
back_stays J n t = by (t == n)
  where
    by : (z : Bool) → backs (if z then at_job (J n) HandedBack else J t).at ≤ 0 → one (is_busy (J t).at) ≤ one (is_busy (if z then at_job (J n) HandedBack else J t).at)
    by true h = absurd (omega (arith, h))
    by false h = omega arith

spent_stays : (J : ℕ → Job) (n t : ℕ) → (t == n) ≡ false → one (is_busy (J t).at) ≤ one (is_busy (put J n (at_job (J n) Spent) t).at)
spent_stays J n t e = by (t == n) e
  where
    by : (z : Bool) → z ≡ false → one (is_busy (J t).at) ≤ one (is_busy (if z then at_job (J n) Spent else J t).at)
    by true e = cc
    by false e = omega arith

-- a move spends another number
abbrev pub SpendsOther : ℕ → Move → Type 0
SpendsOther t (HandIn y k) = (t == k) ≡ false
SpendsOther t (Discard k) = (t == k) ≡ false
SpendsOther t _ = ⊤

-- a detached job is no token
other : (w : World) (t k : ℕ) → is_detached (w.job k).kind ≡ false → is_detached (w.job t).kind ≡ true → (t == k) ≡ false
other w t k s e = elim (either (t == k)) [ inl y ↦ absurd (let i : t ≡ k = eqb-true t k y in let a : is_detached (w.job t).kind ≡ false = ap (λ n. is_detached (w.job n).kind) i ∙ s in cc) | inr z ↦ z ]

pub spends_other : (w : World) (t : ℕ) (g : Move) → StartsAwaited w g → is_detached (w.job t).kind ≡ true → SpendsOther t g
spends_other w t (HandIn y k) s e = other w t k s e
spends_other w t (Discard k) s e = other w t k s e
spends_other w t _ s e = tt

marked_stays : (c : Pieces) (k : Marking) (J : ℕ → Job) (t : ℕ) → backs (mark_pieces c k J t).at ≤ 0 → one (is_busy (J t).at) ≤ one (is_busy (mark_pieces c k J t).at)
marked_stays c k J t = by (is_piece c t)
  where
    each : (k : Marking) → backs (marked k c.pool (t - c.first) (J t)).at ≤ 0 → one (is_busy (J t).at) ≤ one (is_busy (marked k c.pool (t - c.first) (J t)).at)
    each Queued h = one_most (is_busy (J t).at)
    each Dealt h = one_most (is_busy (J t).at)
    each Returned h = absurd (omega (arith, h))
    each _ h = omega arith

    by : (z : Bool) → backs (if z then marked k c.pool (t - c.first) (J t) else J t).at ≤ 0 → one (is_busy (J t).at) ≤ one (is_busy (if z then marked k c.pool (t - c.first) (J t) else J t).at)
    by true h = each k h
    by false h = omega arith

pub moved_stays : (q : Party) (g : Move) (J : ℕ → Job) (t : ℕ) → SpendsOther t g → backs (jobs_after q g J t).at ≤ 0 → one (is_busy (J t).at) ≤ one (is_busy (jobs_after q g J t).at)
moved_stays q (HandIn y k) J t n h = spent_stays J k t n
moved_stays q (Discard k) J t n h = spent_stays J k t n
moved_stays q (Mark y c k) J t n h = marked_stays c k J t h
moved_stays q (HandAllBack c) J t n h = marked_stays c Returned J t h
moved_stays q (StartRun f n) J t e h = by (t == n)
  where
    by : (z : Bool) → one (is_busy (J t).at) ≤ one (is_busy (if z then begun q (J n) else J t).at)
    by true = one_most (is_busy (J t).at)
    by false = omega arith
moved_stays q (HandBack (Detach p n)) J t e h = back_stays J n t h
moved_stays q (HandBack (Here p n)) J t e h = back_stays J n t h
moved_stays q (HandBack (Send o)) J t n h = back_stays J (o.job) t h
moved_stays q (HandBack (Open o)) J t n h = back_stays J (o.job) t h
moved_stays q (HandBack (Enter x)) J t n h = back_stays J (x.job) t h
moved_stays q (HandBack (Gather g)) J t n h = marked_stays (g.pieces) Returned J t h
moved_stays q (HandBack (Feed d)) J t e h = by (t == d.token) h
  where
    by : (z : Bool) → backs (if z then at_job (J (d.token)) HandedBack else put J (d.job) (at_job (J (d.job)) HandedBack) t).at ≤ 0 → one (is_busy (J t).at) ≤ one (is_busy (if z then at_job (J (d.token)) HandedBack else put J (d.job) (at_job (J (d.job)) HandedBack) t).at)
    by true h = absurd (omega (arith, h))
    by false h = back_stays J (d.job) t h
moved_stays q (HandBack (Fork o n)) J t e h = by (t == o.job) h
  where
    by : (z : Bool) → backs (if z then at_job (J (o.job)) HandedBack else put J n (at_job (J n) HandedBack) t).at ≤ 0 → one (is_busy (J t).at) ≤ one (is_busy (if z then at_job (J (o.job)) HandedBack else put J n (at_job (J n) HandedBack) t).at)
    by true h = absurd (omega (arith, h))
    by false h = back_stays J n t h
moved_stays q _ J t n h = omega arith

pub both_le : (d e b c : Bool) → e ≡ d → one b ≤ one c → one (d && b) ≤ one (e && c)
both_le true true b c z h = h
both_le true false b c z h = cc
both_le false e b c z h = omega arith

-- a job that keeps its share keeps it after an act that pushes none
pub busy_kept : (w : World) (q : Party) (x : Place) (fs : List Place) (r : Seen × Part) → Lasting w (world_after w q x fs r) → StartsAwaited w (next_of (w.shape.pool (target_pool q (act_of q x))) q x (r.0)) → StaysBusy (place_part w q x) r → (t : ℕ)
    → backs ((world_after w q x fs r).job t).at ≤ 0 → with_job (w.job t) ≤ with_job ((world_after w q x fs r).job t)
busy_kept w q x fs r l sa st t b = by (is_detached (w.job t).kind) refl
  where
    touched : (z : Bool) → (t == job_at w q (act_of q x)) ≡ z → one (is_busy (w.job t).at) ≤ one (is_busy (if z then r.1.job else w.job t).at)
    touched false e = omega arith
    touched true e = subst (λ n. one (is_busy (w.job n).at) ≤ one (is_busy r.1.job.at)) (sym (eqb-true t (job_at w q (act_of q x)) e)) st

    still : SpendsOther t (next_of (w.shape.pool (target_pool q (act_of q x))) q x (r.0)) → one (is_busy (w.job t).at) ≤ one (is_busy ((world_after w q x fs r).job t).at)
    still n = let c : one (is_busy (w.job t).at) ≤ one (is_busy (put w.job (job_at w q (act_of q x)) (r.1.job) t).at) = touched (t == job_at w q (act_of q x)) refl in
        let d : one (is_busy (put w.job (job_at w q (act_of q x)) (r.1.job) t).at) ≤ one (is_busy ((world_after w q x fs r).job t).at) = moved_stays q (next_of (w.shape.pool (target_pool q (act_of q x))) q x (r.0)) (put w.job (job_at w q (act_of q x)) (r.1.job)) t n b in omega (arith, c, d)

    by : (d : Bool) → is_detached (w.job t).kind ≡ d → one (d && is_busy (w.job t).at) ≤ with_job ((world_after w q x fs r).job t)
    by true e = both_le true (is_detached ((world_after w q x fs r).job t).kind) (is_busy (w.job t).at) (is_busy ((world_after w q x fs r).job t).at) (ap is_detached (l.kinds t) ∙ e) (still (spends_other w t (next_of (w.shape.pool (target_pool q (act_of q x))) q x (r.0)) sa e))
    by false e = omega arith
