-- what one step does to a call's place, and what it keeps of the call's jobs
--
-- Six acts decide more than their place does: Raise, Grow, Slot, a push, Take and Lower (`call_goes`). So do those on a
-- FIFO list.
use Rattle.std.proofs.Common.{rules, arith, refl, sym, ◌∙◌, ap, subst, inl, inr}
use Rattle.rayon_machine_orders.proofs.Words.{eqb-true, eq-eqb, ℕ, Bool, true, false, ◌||◌, ◌+◌, ◌==◌, ◌≤◌, zero, suc, nat_lt, if◌then◌else◌, Option, Some, None, List, ◌≡◌, IfSome, ⊤, ◌⊎◌, Party, Worker, Caller, Ending, Plan, Detach, Here, Send, Fork, Feed, Open, Enter, Gather, Count, OfPool}
use Rattle.rayon_machine_orders.proofs.Words.{OfScope, OfCast, Share, PoolValue, Body, OfJob, Then, BeginFound, LeaveWait, Resume, Await, RunFirst, Answers, Missing, Ran, GiveBack, Called, Gathers, Terminate, Place, RaiseCount, GrowCall, PushJob, TakeResult, LowerCount, SetLatch, AddToFifo}
use Rattle.rayon_machine_orders.proofs.Words.{BeginTask, PushToken, TakeFromFifo, GrowScope, OpenSlot, ScopeBody, GrowCast, DealPieces, Move, Stay, Back, StartRun, HandBack, Mark, Act, PushInj, PushOwn, Seen, Done, Refused, Yes, No, PoolShape, Whereabouts, InDeque, Injected, InFifo, Spent}
use Rattle.rayon_machine_orders.proofs.Words.{OpenCall, Job, own_pool, own_index, is_member, plan_pool, plan_job, plan_count, plan_book, count_book, gather_all, same_party, finish, settle, act_of, next_of, World, Part as Piece, count_in, count_pool, target_pool, target_worker, target_call}
use Rattle.rayon_machine_orders.proofs.Words.{counts_at, at_job, found, effect, but_last, fifo_back, is_open, last_of, or_none, put, put_stack, part_of, jobs_after, after, after_move, is_queued, is_running, is_done, count_of, is_raise_refused, Feeding, Plain, Token, in_fifo, times, one, shares}
use Rattle.rayon_machine_orders.proofs.Words.{shares_in, follows, Gathering, Dealt}
use Rattle.rayon_machine_runs.specs.World.{count_call, call_less}
use Rattle.rayon_machine_laws.proofs.Frame.{if_some_all, put_new, put_same, either, if_cond, put_old, same_party_true, stack_mine, stack_other}
use Rattle.rayon_machine_laws.proofs.Ties.{job_at, outcome}
use Rattle.rayon_machine_laws.proofs.Claims.{Says, SaysThen}
use Rattle.rayon_machine_laws.proofs.ClaimRuns.{place_part, world_after}
use Rattle.rayon_machine_laws.proofs.ShareLowers.{lowered_world, share_made}
use Rattle.rayon_machine_orders.proofs.CallPlaces.{Stage, Going, Gone, Paid, Undone, Repaid, is_undone, Part, PartBody, PartOwed, Known, Knows, AllOver, Leads, raised_leads, lower_leads, is_decisive, part_leads, plan_open, open_job, open_over, here_over, open_none, here_none, NoneLeft, is_sent}
use Rattle.rayon_machine_orders.proofs.CallPlaces.{told, Added, Withdrawing, slot_part, withdraw_part}
use Rattle.rayon_machine_laws.proofs.Feeders.{FeedersHold, feeds_now, waits}
use Rattle.rayon_machine_laws.proofs.PlacedRuns.{JobsHold, once}
use Rattle.rayon_machine_laws.proofs.Located.{is_left}
use Rattle.rayon_machine_laws.proofs.Lists.{times_drop}
use Rattle.rayon_machine_laws.proofs.Amounts.{all_raises, raises_in, raises_move, waiting, land_raises}
use Rattle.rayon_machine_laws.proofs.Raisers.{one_raiser, raiser_made}
use Rattle.rayon_machine_laws.proofs.ShareRuns.{after_shares, raises_all}
use Rattle.rayon_machine_laws.proofs.ShareSteps.{lower_steady}
use Rattle.rayon_machine_laws.proofs.ShareActs.{SharesHold, one_not, with_job}
use Rattle.rayon_machine_laws.specs.Shares.{share_then}

-- a job is queued, in a hand, running or over
abbrev pub HandedOn : Job → Type 0
HandedOn j = (is_queued j.at || (is_running j.at || is_done j.at)) ≡ true

-- a token is, or was given for a job
abbrev pub TokenOn : Job → Type 0
TokenOn j = (is_left j.at ≡ true) × (HandedOn j ⊎ (j.at ≡ Spent))

-- what is known of a spawned job once it is queued
abbrev pub Queued : (ℕ → Job) → Plan → Type 0
Queued f (Detach p t) = (is_left (f t).at ≡ true) × HandedOn (f t)
Queued f (Enter e) = (is_left (f e.job).at ≡ true) × HandedOn (f e.job)
Queued f (Feed d) = HandedOn (f d.job) × TokenOn (f d.token) × (d.token ≡ d.job + 1)
Queued f _ = ⊤

-- a job has no share, and no party is to take one for it
pub record Unshared (w : World) (t : ℕ) : Type 0 where
  pub made : t + 1 ≤ w.jobs
  pub none : (w.job t).counted ≡ false
  pub raised : (r : Party) → all_raises t (w.stack r) ≤ 0

-- what is known of a plan's job by how far its call has come
abbrev pub Sofar : World → Stage → Plan → Type 0
Sofar w Gone n = Queued w.job n
Sofar w Paid n = Unshared w (plan_job n) × AllOver w.job n × NoneLeft w n
Sofar w Repaid n = Unshared w (plan_job n)
Sofar w _ n = ⊤

-- the call's own act has moved it: to a place of it, or out of the call
pub record Went (w u : World) (n : Plan) (s : Stage) (b : Bool) (g : Move) : Type 0 where
  pub stage : Stage
  pub leads : Leads w n stage g
  pub sofar : Sofar u s n → Sofar u stage n
  pub flag : is_undone stage ≡ (is_undone s || b)

pub or_false : (b : Bool) → b ≡ (b || false)
or_false true = refl
or_false false = refl

not_raised : (w : World) (q : Party) (x : Place) → is_decisive x ≡ false → is_raise_refused w (act_of q x) ≡ false
not_raised w q (RaiseCount m) d = absurd (let a : true ≡ false = d in cc)
not_raised w q (GrowCall m) d = absurd (let a : true ≡ false = d in cc)
not_raised w q (PushJob m e) d = absurd (let a : true ≡ false = d in cc)
not_raised w q (AddToFifo f) d = absurd (let a : true ≡ false = d in cc)
not_raised w q (PushToken f e) d = absurd (let a : true ≡ false = d in cc)
not_raised w q (TakeFromFifo f) d = absurd (let a : true ≡ false = d in cc)
not_raised w q (BeginTask (Plain t)) d = search (rules, arith)
not_raised w q (BeginTask (Token k i b)) d = search (rules, arith)
not_raised w q (TakeResult o f) d = absurd (let a : true ≡ false = d in cc)
not_raised w q (LowerCount p h t) d = absurd (let a : true ≡ false = d in cc)
not_raised w q (GrowScope o) d = absurd (let a : true ≡ false = d in cc)
not_raised w q (OpenSlot e) d = absurd (let a : true ≡ false = d in cc)
not_raised w q (GrowCast g) d = absurd (let a : true ≡ false = d in cc)
not_raised w q (DealPieces g) d = absurd (let a : true ≡ false = d in cc)
not_raised w (Worker i j) x d = search (rules, arith)
not_raised w (Caller c) x d = search (rules, arith)

pub or_true : (b : Bool) → true ≡ (b || true)
or_true true = refl
or_true false = refl

-- where an act's answer leads from a place of the call
abbrev pub Goes : World → Party → Plan → Stage → Place → List Place → Type 0
Goes w q n s x fs = IfSome (outcome w q (record { top = x; below = fs })) (λ r. Went w (world_after w q x fs r) n s (is_raise_refused w (act_of q x)) (next_of (w.shape.pool (target_pool q (act_of q x))) q x (r.0)))

-- the count that a call raises is that of its part
pub raise_count : (w : World) (q : Party) (m : Plan) → count_in (place_part w q (RaiseCount m)) (plan_count m) ≡ count_of w (plan_count m)
raise_count w (Worker a b) m = by (plan_count m) (plan_job m)
  where
    by : (k : Count) (t : ℕ) → count_in (part_of w (count_pool (Worker a b) k) b (count_call k) t) k ≡ count_of w k
    by (OfPool p) t = refl
    by _ t = refl
raise_count w (Caller n) m = by (plan_count m) (plan_job m)
  where
    by : (k : Count) (t : ℕ) → count_in (part_of w (count_pool (Caller n) k) 0 (count_call k) t) k ≡ count_of w k
    by (OfPool p) t = refl
    by _ t = refl

-- a job whose count is raised has no share, and who raises it is the only one to do so
raise_alone : (w : World) (q : Party) (m : Plan) (fs : List Place) → w.stack q ≡ record { top = RaiseCount m; below = fs } → SharesHold w → (plan_job m + 1 ≤ w.jobs) × (((w.job (plan_job m)).counted ≡ false) × ((waiting (plan_job m) m ≤ 0) × (raises_in (plan_job m) fs ≤ 0)))
raise_alone w q m fs z h = (raiser_made w h.calls q t (omega (arith, is, own)), (one_not ((w.job t).counted) (omega (arith, is, own, most)), ((let a : waiting t m ≤ 0 = omega (arith, is, own, most) in a), (let a : raises_in t fs ≤ 0 = omega (arith, is, own, most) in a))))
  where
    t : ℕ
    t = plan_job m

    is : all_raises t (w.stack q) ≡ ((one (t == t) + waiting t m) + raises_in t fs)
    is = ap (all_raises t) z

    own : one (t == t) ≡ 1
    own = ap one (eq-eqb t t refl)

    most : all_raises t (w.stack q) + one (w.job t).counted ≤ 1
    most = h.unraised q t

-- where the raise is refused, nobody raises it any more
raise_none : (w : World) (q : Party) (m : Plan) (fs : List Place) → w.stack q ≡ record { top = RaiseCount m; below = fs } → SharesHold w → Unshared (world_after w q (RaiseCount m) fs (Refused, place_part w q (RaiseCount m))) (plan_job m)
raise_none w q m fs z h = record {
  made = (raise_alone w q m fs z h).0;
  none = after_shares w q (RaiseCount m) fs (w.shape.pool (target_pool q (act_of q (RaiseCount m)))) Refused z h.unraised refl (put w.job (job_at w q (act_of q (RaiseCount m))) ((place_part w q (RaiseCount m)).job)) t (λ y. same ∙ y) ∙ same ∙ ((raise_alone w q m fs z h).1).0;
  raised = λ r. by r (same_party r q) refl;
}
  where
    t : ℕ
    t = plan_job m

    same : (put w.job (job_at w q (act_of q (RaiseCount m))) ((place_part w q (RaiseCount m)).job) t).counted ≡ (w.job t).counted
    same = put_same (λ j. j.counted) w.job (job_at w q (act_of q (RaiseCount m))) ((place_part w q (RaiseCount m)).job) t refl

    mine : all_raises t (after_move (HandBack m) fs) ≤ 0
    mine = let a : all_raises t (after_move (HandBack m) fs) ≤ raises_move t (HandBack m) + raises_in t fs = land_raises t (HandBack m) fs in let b : waiting t m ≤ 0 = (((raise_alone w q m fs z h).1).1).0 in let c : raises_in t fs ≤ 0 = (((raise_alone w q m fs z h).1).1).1 in omega (arith, a, b, c)

    other : (r : Party) → same_party r q ≡ false → (k : ℕ) → all_raises t (w.stack r) ≡ k → all_raises t (w.stack r) ≤ 0
    other r y zero e = omega (arith, e)
    other r y (suc k) e = absurd (one_raiser w h.calls q r t y (let a : all_raises t (w.stack q) ≡ ((one (t == t) + waiting t m) + raises_in t fs) = ap (all_raises t) z in let b : one (t == t) ≡ 1 = ap one (eq-eqb t t refl) in omega (arith, a, b)) (omega (arith, e)))

    by : (r : Party) (b : Bool) → same_party r q ≡ b → all_raises t (put_stack w.stack q (after_move (HandBack m) fs) r) ≤ 0
    by r true y = subst (λ v. all_raises t (put_stack w.stack q (after_move (HandBack m) fs) v) ≤ 0) (sym (same_party_true r q y)) (subst (λ k. all_raises t k ≤ 0) (sym (stack_mine w.stack q (after_move (HandBack m) fs))) mine)
    by r false y = subst (λ k. all_raises t k ≤ 0) (sym (stack_other w.stack q (after_move (HandBack m) fs) r y)) (other r y (all_raises t (w.stack r)) refl)

raise_goes : (w : World) (q : Party) (n : Plan) (s : Stage) (m : Plan) (fs : List Place) (h : Piece) → w.stack q ≡ record { top = RaiseCount m; below = fs } → SharesHold w → Known w n → (m ≡ n) × (s ≡ Going) → (b : Bool) → (count_of w (plan_count m) == 0) ≡ b
    → IfSome (if b then Some (Refused, place_part w q (RaiseCount m)) else Some (Done, h)) (λ r. Went w (world_after w q (RaiseCount m) fs r) n s (count_of w (plan_count m) == 0) (next_of (w.shape.pool (target_pool q (act_of q (RaiseCount m)))) q (RaiseCount m) (r.0)))
raise_goes w q n s m fs h st sh k y true e = record
    { stage = Repaid; leads = (y.0, refl); sofar = λ z. subst (λ v. Unshared (world_after w q (RaiseCount m) fs (Refused, place_part w q (RaiseCount m))) (plan_job v)) (y.0) (raise_none w q m fs st sh); flag = or_true (is_undone s) ∙ ap (λ v. is_undone s || v) (sym e) }
raise_goes w q n s m fs h st sh k y false e = record { stage = s; leads = raised_leads w n s m k y; sofar = λ z. z; flag = or_false (is_undone s) ∙ ap (λ v. is_undone s || v) (sym e) }

-- a spawn's job is queued by its push
queued_now : (f g : ℕ → Job) (n m : Plan) (a : Whereabouts) → m ≡ n → is_sent m ≡ true → is_left a ≡ true → (is_queued a || (is_running a || is_done a)) ≡ true → g (plan_job m) ≡ at_job (f (plan_job m)) a → Queued g n
queued_now f g n (Detach p t) a e s l z i = subst (λ v. Queued g v) e (ap (λ j. is_left j.at) i ∙ l, ap (λ j. is_queued j.at || (is_running j.at || is_done j.at)) i ∙ z)
queued_now f g n (Feed d) a e s l z i = absurd (let b : false ≡ true = s in cc)
queued_now f g n (Enter x) a e s l z i = subst (λ v. Queued g v) e (ap (λ j. is_left j.at) i ∙ l, ap (λ j. is_queued j.at || (is_running j.at || is_done j.at)) i ∙ z)
queued_now f g n (Gather x) a e s l z i = absurd (let b : false ≡ true = s in cc)
queued_now f g n _ a e s l z i = subst (λ v. Queued g v) e tt

pub sent_told : (n m : Plan) → m ≡ n → is_sent m ≡ true → n ≡ told n
sent_told (Feed f) m e s = absurd (let a : is_sent m ≡ false = ap is_sent e in let b : true ≡ false = sym s ∙ a in cc)
sent_told _ m e s = refl

push_goes : (w : World) (q : Party) (n : Plan) (s : Stage) (m : Plan) (v : Bool) (fs : List Place) → Part n s (PushJob m v) → (b : Bool)
    → (λ (a : Act). IfSome (effect a w.shape q (counts_at w (target_pool q a)) (part_of w (target_pool q a) (target_worker q a) (target_call a) (job_at w q a)))
    (λ r. Went w (after w q (record { top = PushJob m v; below = fs }) (target_pool q a) (target_worker q a) (target_call a) (job_at w q a) r) n s (is_raise_refused w a) (next_of (w.shape.pool (target_pool q a)) q (PushJob m v) (r.0))))
    (if b then PushOwn (plan_job m) (plan_book m) else PushInj (plan_pool m) (plan_job m) (plan_book m))
push_goes w q n s m v fs y true = record {
  stage = Gone;
  leads = (y.0 ∙ sent_told n m (y.0) (y.2), refl, y.2);
  sofar = λ z. queued_now w.job (put w.job (plan_job m) (at_job (w.job (plan_job m)) (InDeque (own_pool q) (own_index q)))) n m (InDeque (own_pool q) (own_index q)) (y.0) (y.2) refl refl
      (put_new w.job (plan_job m) (at_job (w.job (plan_job m)) (InDeque (own_pool q) (own_index q))));
  flag = ap is_undone (sym (y.1)) ∙ or_false (is_undone s);
}
push_goes w q n s m v fs y false = record {
  stage = Gone;
  leads = (y.0 ∙ sent_told n m (y.0) (y.2), refl, y.2);
  sofar = λ z. queued_now w.job (put w.job (plan_job m) (at_job (w.job (plan_job m)) (Injected (plan_pool m)))) n m (Injected (plan_pool m)) (y.0) (y.2) refl refl
      (put_new w.job (plan_job m) (at_job (w.job (plan_job m)) (Injected (plan_pool m))));
  flag = ap is_undone (sym (y.1)) ∙ or_false (is_undone s);
}

-- a scope's body begins
grown_goes : (w : World) (q : Party) (n : Plan) (s : Stage) (o : OpenCall) (u : World) → Part n s (GrowScope o) → Went w u n s false (StartRun (ScopeBody o) o.job)
grown_goes w q n s o u y = record { stage = Gone; leads = (y.0, refl); sofar = λ z. subst (λ m. Queued u.job m) (sym (y.0)) tt; flag = ap is_undone (sym (y.1)) ∙ or_false (is_undone s) }

-- a broadcast deals its pieces, and calls all then
dealt_goes : (w : World) (q : Party) (n : Plan) (s : Stage) (g : Gathering) (h : PoolShape) (u : World) → Part n s (DealPieces g) → Went w u n s false (Mark (gather_all h g.call) g.pieces Dealt)
dealt_goes w q n s g h u y = record { stage = Gone; leads = (ap plan_open (y.0), refl); sofar = λ z. subst (λ m. Queued u.job m) (sym (y.0)) tt; flag = ap is_undone (sym (y.1)) ∙ or_false (is_undone s) }

-- a spawn into a scope opens a number of the book
slot_goes : (w : World) (q : Party) (n : Plan) (s : Stage) (m : Plan) (fs : List Place) → Part n s (OpenSlot m) → (b : Bool) (p : Piece) → IfSome (if b then Some (Done, p) else None)
    (λ r. Went w (world_after w q (OpenSlot m) fs r) n s false (next_of (w.shape.pool (target_pool q (act_of q (OpenSlot m)))) q (OpenSlot m) (r.0)))
slot_goes w q n s m fs y b p = if_cond (λ r. Went w (world_after w q (OpenSlot m) fs r) n s false (next_of (w.shape.pool (target_pool q (act_of q (OpenSlot m)))) q (OpenSlot m) (r.0))) b (Done, p) (λ o. record { stage = s; leads = slot_part n s m y; sofar = λ z. z; flag = or_false (is_undone s) })

-- the acts of a call for a FIFO list
add_goes : (w : World) (a b : ℕ) (n : Plan) (s : Stage) (f : Feeding) (fs : List Place) → Part n s (AddToFifo f) → Goes w (Worker a b) n s (AddToFifo f) fs
add_goes w a b n s f fs y = if_cond (λ r. Went w (world_after w (Worker a b) (AddToFifo f) fs r) n s false (next_of (w.shape.pool a) (Worker a b) (AddToFifo f) (r.0))) (is_open (Worker a b) ((w.seat a b).feeder (count_book f.count))) _
    (λ o. record { stage = Added; leads = (y.0, refl); sofar = λ z. tt; flag = ap is_undone (sym (y.1)) ∙ or_false (is_undone s) })

-- its job stands in the list, and its token in the deque
token_goes : (w : World) (a b : ℕ) (n : Plan) (s : Stage) (f : Feeding) (v : Bool) (fs : List Place) → w.stack (Worker a b) ≡ record { top = PushToken f v; below = fs } → FeedersHold w → JobsHold w → Part n s (PushToken f v) → Goes w (Worker a b) n s (PushToken f v) fs
token_goes w a b n s f v fs z fe h y = record { stage = Gone; leads = (ap told (sym (y.0)), refl, refl); sofar = λ k. subst (λ m. Queued J m) (sym (y.0)) (in_line, now, pair); flag = ap is_undone (sym (y.1)) ∙ or_false (is_undone s) }
  where
    J : ℕ → Job
    J = put w.job f.token (at_job (w.job f.token) (InDeque a b))

    pair : f.token ≡ f.job + 1
    pair = fe.pairs (Worker a b) f (ap (λ k. feeds_now (k.top)) z)

    now : TokenOn (J f.token)
    now = let e : J f.token ≡ at_job (w.job f.token) (InDeque a b) = put_new w.job f.token (at_job (w.job f.token) (InDeque a b)) in subst TokenOn (sym e) (refl, inl refl)

    apart : (f.job == f.token) ≡ false
    apart = elim (either (f.job == f.token)) [ inl e ↦ absurd (let i : f.job ≡ f.token = eqb-true f.job f.token e in omega (arith, i, pair)) | inr e ↦ e ]

    line : List ℕ
    line = (w.seat a b).fifo (count_book f.count)

    listed : 1 ≤ times f.job line
    listed = let e : last_of line ≡ Some f.job = (fe.feeds a b f (ap (λ k. waits (k.top)) z)).1 in let c : times f.job line ≡ (one (f.job == f.job) + times f.job (but_last line)) = times_drop line f.job f.job e in let d : one (f.job == f.job) ≡ 1 = ap one (eq-eqb f.job f.job refl) in
        omega (arith, c, d)

    in_line : HandedOn (J f.job)
    in_line = ap (λ j. is_queued j.at || (is_running j.at || is_done j.at)) (put_old w.job f.token (at_job (w.job f.token) (InDeque a b)) f.job apart)
        ∙ by ((w.job f.job).at) (let e : times f.job line ≡ one (in_fifo a b (count_book f.count) (w.job f.job).at) = (once w h).fifo a b (count_book f.count) f.job in omega (arith, e, listed))
      where
        by : (x : Whereabouts) → 1 ≤ one (in_fifo a b (count_book f.count) x) → (is_queued x || (is_running x || is_done x)) ≡ true
        by (InFifo r j d) e = refl
        by _ e = absurd (omega (arith, e))

-- its job comes back to it
back_goes : (w : World) (a b : ℕ) (n : Plan) (s : Stage) (f : Feeding) (fs : List Place) → w.stack (Worker a b) ≡ record { top = TakeFromFifo f; below = fs } → FeedersHold w → Part n s (TakeFromFifo f) → Goes w (Worker a b) n s (TakeFromFifo f) fs
back_goes w a b n s f fs z fe y = by (is_open (Worker a b) ((w.seat a b).feeder (count_book f.count)))
  where
    P : Seen × Piece → Type 0
    P r = Went w (world_after w (Worker a b) (TakeFromFifo f) fs r) n s false (next_of (w.shape.pool a) (Worker a b) (TakeFromFifo f) (r.0))

    line : List ℕ
    line = (w.seat a b).fifo (count_book f.count)

    last : last_of line ≡ Some f.job
    last = (fe.feeds a b f (ap (λ k. waits (k.top)) z)).1

    own : (u : ℕ) → Some u ≡ Some f.job → Feed (record f { job = u }) ≡ n
    own u e = (let i : u ≡ f.job = cc in ap (λ v. Feed (record f { job = v })) i) ∙ sym (y.0)

    taken : (o : Option ℕ) → last_of line ≡ o → IfSome (fifo_back (Worker a b) (part_of w a b 0 (or_none (last_of line))) (count_book f.count) o) P
    taken None e = absurd (let c : Some f.job ≡ None = sym last ∙ e in cc)
    taken (Some u) e = record { stage = Undone; leads = withdraw_part n (Feed (record f { job = u })) (count_book f.count) (own u (sym e ∙ last)); sofar = λ k. tt; flag = ap is_undone (sym (y.1)) ∙ or_false (is_undone s) }

    by : (c : Bool) → IfSome (if c then fifo_back (Worker a b) (part_of w a b 0 (or_none (last_of line))) (count_book f.count) (last_of line) else None) P
    by true = taken (last_of line) refl
    by false = tt

take_goes : (w : World) (q : Party) (n : Plan) (s : Stage) (o : OpenCall) (f : Option Ending) (fs : List Place) → Part n s (TakeResult o f) → (c : Option Ending) → (c ≡ None → ⊥) → IfSome (found (place_part w q (TakeResult o f)) c)
    (λ r. Went w (world_after w q (TakeResult o f) fs r) n s false (next_of (w.shape.pool (target_pool q (act_of q (TakeResult o f)))) q (TakeResult o f) (r.0)))
take_goes w q n s o f fs y None g = absurd (g refl)
take_goes w q n s o f fs y (Some e) g = record { stage = s; leads = (open_job n o (y.0), y); sofar = λ z. z; flag = or_false (is_undone s) }

-- the call's own Lower gives its share back
settle_jobs : (g : PoolShape) (q : Party) (p i : ℕ) (t : Then) (f : ℕ → Job) → finish q t ≡ Back → jobs_after q (settle g q p i t) f ≡ f
settle_jobs g q p i t f z = by (nat_lt i g.workers)
  where
    by : (b : Bool) → jobs_after q (if b then Stay (SetLatch (record { latch = Terminate; pool = p; worker = i; then = t })) else finish q t) f ≡ f
    by true = refl
    by false = ap (λ m. jobs_after q m f) z

lower_jobs : (g : PoolShape) (q : Party) (p : Count) (h : Share) (t : Then) (e : Seen) (f : ℕ → Job) → finish q t ≡ Back → jobs_after q (next_of g q (LowerCount p h t) e) f ≡ f
lower_jobs g q (OfPool p) h t Yes f z = settle_jobs g q p 0 t f z
lower_jobs g q (OfScope c o) h t Yes f z = refl
lower_jobs g q (OfCast c o) h t Yes f z = refl
lower_jobs g q p h t _ f z = ap (λ m. jobs_after q m f) z

-- the job has no share any more, and nobody is to take one for it
lowered_none : (w : World) (q : Party) (u : ℕ) (p : Count) (t : Then) (fs : List Place) (e : Seen) → w.stack q ≡ record { top = LowerCount p (OfJob u) t; below = fs } → SharesHold w → Says w q (LowerCount p (OfJob u) t) → Unshared (lowered_world w q p (OfJob u) t fs e) u
lowered_none w q u p t fs e z h s = record {
  made = share_made w p u t (s.1);
  none = after_shares w q (LowerCount p (OfJob u) t) fs (w.shape.pool (count_pool q p)) e z h.unraised (lower_steady (w.shape.pool (count_pool q p)) q p (OfJob u) t e) (put w.job u (record (w.job u) { counted = false })) u (λ y. ap (λ j. j.counted) new) ∙ ap (λ j. j.counted) new;
  raised = λ r. (let a : all_raises u (put_stack w.stack q (after_move (next_of (w.shape.pool (count_pool q p)) q (LowerCount p (OfJob u) t) e) fs) r) ≤ all_raises u (w.stack r) = raises_all w q (LowerCount p (OfJob u) t) fs (w.shape.pool (count_pool q p)) e u z r in
      let b : all_raises u (w.stack r) + one (w.job u).counted ≤ 1 = h.unraised r u in omega (arith, a, b, has));
}
  where
    new : put w.job u (record (w.job u) { counted = false }) u ≡ record (w.job u) { counted = false }
    new = put_new w.job u (record (w.job u) { counted = false })

    has : 1 ≤ one (w.job u).counted
    has = let a : shares u (w.stack q) + with_job (w.job u) ≤ one (w.job u).counted = (h.jobs u).alone q in let b : shares u (w.stack q) ≡ ((one (u == u) + share_then u t) + shares_in u fs) = ap (shares u) z in let c : one (u == u) ≡ 1 = ap one (eq-eqb u u refl) in omega (arith, a, b, c)

-- jobs that are over stay so where no job is anywhere else
over_same : (f g : ℕ → Job) → ((t : ℕ) → (g t).at ≡ (f t).at) → (n : Plan) → AllOver f n → AllOver g n
over_same f g e (Here p t) a = ap is_done (e t) ∙ a
over_same f g e (Send o) a = ap is_done (e o.job) ∙ a
over_same f g e (Open o) a = ap is_done (e o.job) ∙ a
over_same f g e (Fork o t) a = (ap is_done (e t) ∙ a.0, ap is_done (e o.job) ∙ a.1)
over_same f g e (Gather x) a = λ t p. ap is_done (e t) ∙ a t p
over_same f g e _ a = tt

lowered_so : (w : World) (q : Party) (n : Plan) (p : Count) (t : Then) (fs : List Place) (e : Seen) → finish q t ≡ Back → w.stack q ≡ record { top = LowerCount p (OfJob (plan_job n)) t; below = fs } → SharesHold w → Says w q (LowerCount p (OfJob (plan_job n)) t) → AllOver w.job n
    → NoneLeft w n → Sofar (lowered_world w q p (OfJob (plan_job n)) t fs e) Paid n
lowered_so w q n p t fs e f z h s d c = (lowered_none w q (plan_job n) p t fs e z h s, over_same w.job ((lowered_world w q p (OfJob (plan_job n)) t fs e).job) same n d, left n c)
  where
    j : Job
    j = record (w.job (plan_job n)) { counted = false }

    u : World
    u = lowered_world w q p (OfJob (plan_job n)) t fs e

    less : (k : Count) (a : ℕ) → a ≡ 0 → call_less k 1 a ≡ 0
    less (OfPool r) a i = i
    less _ a i = omega (arith, i)

    none : (c : ℕ) → (w.call c).count ≡ 0 → (u.call c).count ≡ 0
    none c i = by (c == count_call p) refl
      where
        by : (b : Bool) → (c == count_call p) ≡ b → (if b then record (w.call (count_call p)) { count = call_less p 1 (w.call (count_call p)).count; counted = (w.call (count_call p)).counted } else w.call c).count ≡ 0
        by true y = less p ((w.call (count_call p)).count) (ap (λ x. (w.call x).count) (sym (eqb-true c (count_call p) y)) ∙ i)
        by false y = i

    left : (m : Plan) → NoneLeft w m → NoneLeft u m
    left (Gather g) i = none g.call.number i
    left _ i = tt

    same : (i : ℕ) → ((lowered_world w q p (OfJob (plan_job n)) t fs e).job i).at ≡ (w.job i).at
    same i = ap (λ v. (v i).at) (lower_jobs (w.shape.pool (count_pool q p)) q p (OfJob (plan_job n)) t e (put w.job (plan_job n) j) f) ∙ put_same (λ v. v.at) w.job (plan_job n) j i refl

lower_went : (w : World) (q : Party) (n : Plan) (s : Stage) (p : Count) (t : Then) (fs : List Place) (e : Seen) → w.stack q ≡ record { top = LowerCount p (OfJob (plan_job n)) t; below = fs } → SharesHold w
    → ((o : OpenCall) (f : Option Ending) (d : Ending) → t ≡ Answers o f d → Knows w o f d) → Known w n → Says w q (LowerCount p (OfJob (plan_job n)) t) → PartOwed n s t → Went w (lowered_world w q p (OfJob (plan_job n)) t fs e) n s false
    (next_of (w.shape.pool (count_pool q p)) q (LowerCount p (OfJob (plan_job n)) t) e)
lower_went w q n s p (Answers o f d) fs e st sh kn k z y = record {
  stage = Paid;
  leads = lower_leads w (w.shape.pool (count_pool q p)) q n Paid p (OfJob (plan_job n)) (Answers o f d) e k (z.0) (y.0, refl);
  sofar = λ v. lowered_so w q n p (Answers o f d) fs e refl st sh z (open_over w n o f d k (kn o f d refl) (y.0)) (open_none w n o f d k (kn o f d refl) (y.0));
  flag = ap is_undone (sym (y.1)) ∙ or_false (is_undone s);
}
lower_went w q n s p (Ran t d) fs e st sh kn k z y = record {
  stage = Paid;
  leads = lower_leads w (w.shape.pool (count_pool q p)) q n Paid p (OfJob (plan_job n)) (Ran t d) e k (z.0) (y.0, refl);
  sofar = λ v. lowered_so w q n p (Ran t d) fs e refl st sh z (here_over w n t d (z.0) (y.0)) (here_none w n t (y.0));
  flag = ap is_undone (sym (y.1)) ∙ or_false (is_undone s);
}
lower_went w q n s p (GiveBack m) fs e st sh kn k z y = record {
  stage = Repaid;
  leads = lower_leads w (w.shape.pool (count_pool q p)) q n Repaid p (OfJob (plan_job n)) (GiveBack m) e k (z.0) (y.0, refl);
  sofar = λ v. lowered_none w q (plan_job n) p (GiveBack m) fs e st sh z;
  flag = ap is_undone (sym (y.1)) ∙ or_false (is_undone s);
}
lower_went w q n s p _ fs e st sh kn k z y = absurd y

-- a scope's own Lower gives its body's share back, and the call waits next
body_went : (w : World) (q : Party) (n : Plan) (s : Stage) (p : Count) (t : Then) (fs : List Place) (e : Seen) (u : World) → Known w n → SaysThen w q t → PartBody n s t → Went w u n s false (next_of (w.shape.pool (count_pool q p)) q (LowerCount p Body t) e)
body_went w q n s p (Await o) fs e u k z y = record { stage = s; leads = lower_leads w (w.shape.pool (count_pool q p)) q n s p Body (Await o) e k z (ap plan_open (y.0), y.1); sofar = λ v. v; flag = or_false (is_undone s) }
body_went w q n s p _ fs e u k z y = absurd y

plain_goes : (w : World) (q : Party) (n : Plan) (s : Stage) (x : Place) (fs : List Place) → is_decisive x ≡ false → Known w n → Says w q x → Part n s x → Goes w q n s x fs
plain_goes w q n s x fs d k z y = if_some_all (λ r. Went w (world_after w q x fs r) n s (is_raise_refused w (act_of q x)) (next_of (w.shape.pool (target_pool q (act_of q x))) q x (r.0)))
    (λ r. record { stage = s; leads = part_leads w (w.shape.pool (target_pool q (act_of q x))) q n s x (r.0) d k z y; sofar = λ v. v; flag = or_false (is_undone s) ∙ ap (λ v. is_undone s || v) (sym (not_raised w q x d)) }) (outcome w q (record { top = x; below = fs }))

pub call_goes : (w : World) (q : Party) (n : Plan) (s : Stage) (x : Place) (fs : List Place) → ((o : OpenCall) (f : Option Ending) → x ≡ TakeResult o f → (w.call o.number).cell ≡ None → ⊥)
    → ((o : OpenCall) (f : Option Ending) (d : Ending) → follows x ≡ Some (Answers o f d) → Knows w o f d) → w.stack q ≡ record { top = x; below = fs } → FeedersHold w → SharesHold w → Known w n → Says w q x → Part n s x → Goes w q n s x fs
call_goes w (Worker a b) n s (RaiseCount m) fs g kn st fe h k z y = raise_goes w (Worker a b) n s m fs _ st h k y (count_in (place_part w (Worker a b) (RaiseCount m)) (plan_count m) == 0) (ap (λ v. v == 0) (sym (raise_count w (Worker a b) m)))
call_goes w (Caller c) n s (RaiseCount m) fs g kn st fe h k z y = raise_goes w (Caller c) n s m fs _ st h k y (count_in (place_part w (Caller c) (RaiseCount m)) (plan_count m) == 0) (ap (λ v. v == 0) (sym (raise_count w (Caller c) m)))
call_goes w (Worker a b) n s (GrowCall m) fs g kn st fe h k z y = record { stage = s; leads = y; sofar = λ v. v; flag = or_false (is_undone s) }
call_goes w (Caller c) n s (GrowCall m) fs g kn st fe h k z y = record { stage = s; leads = y; sofar = λ v. v; flag = or_false (is_undone s) }
call_goes w (Worker a b) n s (GrowCast m) fs g kn st fe h k z y = record { stage = s; leads = y; sofar = λ v. v; flag = or_false (is_undone s) }
call_goes w (Caller c) n s (GrowCast m) fs g kn st fe h k z y = record { stage = s; leads = y; sofar = λ v. v; flag = or_false (is_undone s) }
call_goes w (Worker a b) n s (DealPieces m) fs g kn st fe h k z y = dealt_goes w (Worker a b) n s m (w.shape.pool m.pieces.pool) _ y
call_goes w (Caller c) n s (DealPieces m) fs g kn st fe h k z y = dealt_goes w (Caller c) n s m (w.shape.pool m.pieces.pool) _ y
call_goes w (Worker a b) n s (PushJob m v) fs g kn st fe h k z y = push_goes w (Worker a b) n s m v fs y (is_member (Worker a b) (plan_pool m))
call_goes w (Caller c) n s (PushJob m v) fs g kn st fe h k z y = push_goes w (Caller c) n s m v fs y false
call_goes w (Worker a b) n s (TakeResult o f) fs g kn st fe h k z y = take_goes w (Worker a b) n s o f fs y ((w.call o.number).cell) (g o f refl)
call_goes w (Caller c) n s (TakeResult o f) fs g kn st fe h k z y = take_goes w (Caller c) n s o f fs y ((w.call o.number).cell) (g o f refl)
call_goes w (Worker a b) n s (LowerCount p PoolValue t) fs g kn st fe h k z y = absurd y
call_goes w (Worker a b) n s (LowerCount p Body t) fs g kn st fe h k z y = body_went w (Worker a b) n s p t fs (if count_in (place_part w (Worker a b) (LowerCount p Body t)) p == 1 then Yes else No) _ k (z.0) y
call_goes w (Worker a b) n s (LowerCount p (OfJob d) t) fs g kn st fe h k z y = subst (λ i. w.stack (Worker a b) ≡ record { top = LowerCount p (OfJob i) t; below = fs } → Says w (Worker a b) (LowerCount p (OfJob i) t) → Goes w (Worker a b) n s (LowerCount p (OfJob i) t) fs) (sym (y.0))
    (λ i v. lower_went w (Worker a b) n s p t fs (if count_in (place_part w (Worker a b) (LowerCount p (OfJob (plan_job n)) t)) p == 1 then Yes else No) i h (λ o f e m. kn o f e (ap Some m)) k v (y.1)) st z
call_goes w (Caller c) n s (LowerCount p PoolValue t) fs g kn st fe h k z y = absurd y
call_goes w (Caller c) n s (LowerCount p Body t) fs g kn st fe h k z y = body_went w (Caller c) n s p t fs (if count_in (place_part w (Caller c) (LowerCount p Body t)) p == 1 then Yes else No) _ k (z.0) y
call_goes w (Caller c) n s (LowerCount p (OfJob d) t) fs g kn st fe h k z y = subst (λ i. w.stack (Caller c) ≡ record { top = LowerCount p (OfJob i) t; below = fs } → Says w (Caller c) (LowerCount p (OfJob i) t) → Goes w (Caller c) n s (LowerCount p (OfJob i) t) fs) (sym (y.0))
    (λ i v. lower_went w (Caller c) n s p t fs (if count_in (place_part w (Caller c) (LowerCount p (OfJob (plan_job n)) t)) p == 1 then Yes else No) i h (λ o f e m. kn o f e (ap Some m)) k v (y.1)) st z
call_goes w (Worker a b) n s (GrowScope o) fs g kn st fe h k z y = grown_goes w (Worker a b) n s o _ y
call_goes w (Caller c) n s (GrowScope o) fs g kn st fe h k z y = grown_goes w (Caller c) n s o _ y
call_goes w (Worker a b) n s (OpenSlot m) fs g kn st fe h k z y = slot_goes w (Worker a b) n s m fs y (is_open (Worker a b) ((w.call (count_call (plan_count m))).writer)) _
call_goes w (Caller c) n s (OpenSlot m) fs g kn st fe h k z y = slot_goes w (Caller c) n s m fs y (is_open (Caller c) ((w.call (count_call (plan_count m))).writer)) _
call_goes w (Worker a b) n s (AddToFifo f) fs g kn st fe h k z y = add_goes w a b n s f fs y
call_goes w (Caller c) n s (AddToFifo f) fs g kn st fe h k z y = tt
call_goes w (Worker a b) n s (PushToken f v) fs g kn st fe h k z y = token_goes w a b n s f v fs st fe ((h.calls).jobs) y
call_goes w (Caller c) n s (PushToken f v) fs g kn st fe h k z y = tt
call_goes w (Worker a b) n s (TakeFromFifo f) fs g kn st fe h k z y = back_goes w a b n s f fs st fe y
call_goes w (Caller c) n s (TakeFromFifo f) fs g kn st fe h k z y = tt
call_goes w q n s x fs g kn st fe h k z y = plain_goes w q n s x fs refl k z y
