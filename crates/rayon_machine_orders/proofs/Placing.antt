-- a call that nothing refused has queued its jobs once, where they belong
--
-- The law is `placed_law`, by what each step queues (`Queues`). That of broadcasts is `dealt_law` in Casts.
use Rattle.std.proofs.Common.{refl, sym, ◌∙◌, ap, subst, inl, inr}
use Rattle.rayon_machine_orders.proofs.Words.{ℕ, Bool, true, false, ◌&&◌, ◌||◌, ◌+◌, ◌==◌, if◌then◌else◌, Option, Some, None, List, [], ◌∷◌, ◌++◌, ◌≡◌, IfSome, ◌⊎◌, slice_get, eqb-true, eq-eqb, append_assoc, Party, Worker, Caller, Direct, Plan, Detach, Here, Send, Fork, Feed, Open, Enter}
use Rattle.rayon_machine_orders.proofs.Words.{Gather, OfPool, OfScope, OfCast, Gathering, Place, RaiseCount, Run, Move, Stay, EnterAbove as Enter, StartRun, Back, HandBack, Mark, Act, FifoIn, PushOwn, Seen, Event, Go, Spawn, Fifo, Install, Join, OpenScope, IntoSpawn, IntoFifo, Broadcast, Scope}
use Rattle.rayon_machine_orders.proofs.Words.{act_of, is_free, is_member, next_of, same_party, Part as Piece, Shape, Stack, World, target_pool, after_call, after_enter, after_enter_fifo, after_feed, after_fifo, after_into, after_into_fifo, after_join, after_move, after_send, after_spawn, holds}
use Rattle.rayon_machine_orders.proofs.Words.{is_pool, step, IsRun, start, caller_of, IsRunUntil, is_any, is_at_call, is_raise_refused, is_refusal, scope_pool, scope_list, belongs, own_push, push_in, pushes_of}
use Rattle.rayon_machine_orders.specs.Placed.{fed_once, PlacedLaw, queued_once}
use Rattle.rayon_machine_laws.proofs.Frame.{if_cond, if_some_all, if_some_map, into_cases, same_party_refl, same_party_true, stack_mine, stack_other}
use Rattle.rayon_machine_laws.proofs.Claims.{Says}
use Rattle.rayon_machine_laws.proofs.ClaimRuns.{unqueued, world_after}
use Rattle.rayon_machine_laws.proofs.PlacedEvents.{Advance}
use Rattle.rayon_machine_laws.proofs.PlacedRuns.{step_advance}
use Rattle.rayon_machine_laws.proofs.Ties.{outcome, result}
use Rattle.rayon_machine_orders.proofs.CallEvents.{at_call_no, at_call_yes, CallStands, Stood, Turned, whole}
use Rattle.rayon_machine_orders.proofs.CallMakes.{Begun, begun_by}
use Rattle.rayon_machine_orders.proofs.CallPlaces.{Going, is_undone, Known, Leads, Part, Returns, Stage}
use Rattle.rayon_machine_orders.proofs.Calls.{ground_of, run_more, stands_apart}
use Rattle.rayon_machine_orders.proofs.CallSteps.{go_all, mover, turns}
use Rattle.rayon_machine_orders.proofs.EventCases.{is_act}
use Rattle.rayon_machine_orders.proofs.CallStretch.{climbs, Ground, Inside, Stays, step_stays}
use Rattle.rayon_machine_orders.proofs.Filled.{takes_filled}
use Rattle.rayon_machine_orders.proofs.Pushed.{act_sent, all_pushes, nil_right, pushed, returns_all, same_spot, Sent, stands_same}

-- a step that does not refuse the call queues what it should: the call goes on, or it is over
record Queues (w v : World) (q : Party) (s : Stack) (n : Plan) (st : Stage) (e : Event) : Type 0 where
  on : (t : Stage) → CallStands n t s (v.stack q) → pushed q n t ≡ pushed q n st ++ own_push q s w e
  back : v.stack q ≡ s → all_pushes q n ≡ pushed q n st ++ own_push q s w e

-- the call stands as it did
same_queues : (w v : World) (q : Party) (s : Stack) (n : Plan) (st : Stage) (e : Event) → CallStands n st s (v.stack q) → own_push q s w e ≡ [] → Queues w v q s n st e
same_queues w v q s n st e c i = record {
  on = λ t k. ap (pushed q n) (stands_same n t st s (v.stack q) k c) ∙ nil_right (pushed q n st) ∙ ap (λ l. pushed q n st ++ l) (sym i);
  back = λ z. absurd (stands_apart n st s (v.stack q) c z);
}

-- what the call's own act leads to: it stands, or it returns
landed : (w : World) (n : Plan) (s k : Stack) (t : Stage) (g : Move) → is_undone t ≡ false → Leads w n t g → k ≡ after_move g (whole s) → CallStands n t s k ⊎ ((k ≡ s) × Returns n t)
landed w n s k t (Stay y) d l z = inl (record { above = []; place = y; is = ap whole z; part = l })
landed w n s k t (Mark y c m) d l z = inl (record { above = []; place = y; is = ap whole z; part = l })
landed w n s k t (Enter x y) d l z = inl (record { above = y ∷ []; place = x; is = ap whole z; part = l })
landed w n s k t (StartRun x u) d l z = inl (record { above = Run u Direct ∷ []; place = x; is = ap whole z; part = l })
landed w n s k t Back d l z = inr (z, l)
landed w n s k t (HandBack m) d l z = absurd (let a : is_undone t ≡ true = ap is_undone (l.1) in let b : true ≡ false = sym a ∙ d in cc)
landed w n s k t _ d l z = absurd l

own_queues : (w v : World) (q : Party) (s : Stack) (n : Plan) (st : Stage) (x : Place) (g : Move) → own_push q s w (Go q) ≡ push_in (act_of q x) → Sent w q n st x g → v.stack q ≡ after_move g (whole s) → Queues w v q s n st (Go q)
own_queues w v q s n st x g i h z = by (landed w n s (v.stack q) h.stage g h.going h.leads z)
  where
    all : pushed q n h.stage ≡ pushed q n st ++ own_push q s w (Go q)
    all = h.pushes ∙ ap (λ l. pushed q n st ++ l) (sym i)

    by : CallStands n h.stage s (v.stack q) ⊎ ((v.stack q ≡ s) × Returns n h.stage) → Queues w v q s n st (Go q)
    by (inl c) = record { on = λ t k. ap (pushed q n) (stands_same n t h.stage s (v.stack q) k c) ∙ all; back = λ y. absurd (stands_apart n h.stage s (v.stack q) c y) }
    by (inr c) = record { on = λ t k. absurd (stands_apart n t s (v.stack q) k (c.0)); back = λ y. sym (returns_all q n h.stage (c.1)) ∙ all }

-- what the party's own act is to its call
mine_yes : (w : World) (q : Party) (s : Stack) (x : Place) (fs : List Place) → w.stack q ≡ record { top = x; below = fs } → fs ≡ whole s → (own_push q s w (Go q) ≡ push_in (act_of q x)) × (is_refusal q s w (Go q) ≡ is_raise_refused w (act_of q x))
mine_yes w q s x fs z e = (rw a (rw b (ap (λ k. push_in (act_of q k.top)) z)), rw a (rw b (ap (λ k. is_raise_refused w (act_of q k.top)) z)))
  where
    a : same_party q q ≡ true
    a = same_party_refl q

    b : is_at_call s (w.stack q) ≡ true
    b = at_call_yes s (w.stack q) (ap (λ k. k.below) z ∙ e)

mine_no : (w : World) (q : Party) (s : Stack) (x : Place) (fs gs : List Place) (p : Place) → w.stack q ≡ record { top = x; below = fs } → fs ≡ gs ++ (p ∷ whole s) → own_push q s w (Go q) ≡ []
mine_no w q s x fs gs p z e = let a : same_party q q ≡ true = same_party_refl q in let b : is_at_call s (w.stack q) ≡ false = at_call_no s (w.stack q) gs p (ap (λ k. k.below) z ∙ e) in rw a (rw b refl)

party_queues : (w : World) (q : Party) (s : Stack) (n : Plan) (st : Stage) (x : Place) (fs above : List Place) (p : Place) → w.stack q ≡ record { top = x; below = fs } → x ∷ fs ≡ above ++ (p ∷ whole s) → Ground w → Part n st p → Known w n → is_undone st ≡ false →
    is_refusal q s w (Go q) ≡ false → IfSome (outcome w q (record { top = x; below = fs })) (λ r. Queues w (world_after w q x fs r) q s n st (Go q))
party_queues w q s n st x fs [] p z e g h k d f = if_some_map (λ r. Sent w q n st x (move r)) (λ r. Queues w (world_after w q x fs r) q s n st (Go q)) lands (outcome w q (record { top = x; below = fs }))
    (act_sent w q n st x fs (λ o y i c. takes_filled w g.filled q o y (ap (λ v. v.top) z ∙ i) c) (sym (both.1) ∙ f) d k (subst (λ v. Says w q (v.top)) z ((g.calls.says q).top)) (subst (λ v. Part n st v) (sym at) h))
  where
    at : x ≡ p
    at = cc

    rest : fs ≡ whole s
    rest = cc

    both : (own_push q s w (Go q) ≡ push_in (act_of q x)) × (is_refusal q s w (Go q) ≡ is_raise_refused w (act_of q x))
    both = mine_yes w q s x fs z rest

    move : Seen × Piece → Move
    move r = next_of (w.shape.pool (target_pool q (act_of q x))) q x (r.0)

    lands : (r : Seen × Piece) → Sent w q n st x (move r) → Queues w (world_after w q x fs r) q s n st (Go q)
    lands r y = own_queues w (world_after w q x fs r) q s n st x (move r) (both.0) y (stack_mine w.stack q (after_move (move r) fs) ∙ ap (λ l. after_move (move r) l) rest)
party_queues w q s n st x fs (b ∷ gs) p z e g h k d f = if_some_all (λ r. Queues w (world_after w q x fs r) q s n st (Go q)) lands (outcome w q (record { top = x; below = fs }))
  where
    rest : fs ≡ gs ++ (p ∷ whole s)
    rest = cc

    move : Seen × Piece → Move
    move r = next_of (w.shape.pool (target_pool q (act_of q x))) q x (r.0)

    lands : (r : Seen × Piece) → Queues w (world_after w q x fs r) q s n st (Go q)
    lands r = same_queues w (world_after w q x fs r) q s n st (Go q) (subst (λ y. CallStands n st s y) (sym (stack_mine w.stack q (after_move (move r) fs) ∙ ap (λ y. after_move (move r) y) rest)) (climbs n st s (move r) gs p h)) (mine_no w q s x fs gs p z rest)

go_queues : (w : World) (g q : Party) (s : Stack) (n : Plan) → Ground w → (i : Inside w q s n false) → is_refusal q s w (Go g) ≡ false → (b : Bool) → same_party q g ≡ b → IfSome (step w (Go g)) (λ v. Queues w v q s n i.stage (Go g))
go_queues w g q s n d i f true z = subst (λ p. is_refusal q s w (Go p) ≡ false → IfSome (step w (Go p)) (λ v. Queues w v q s n i.stage (Go p))) (same_party_true q g z)
    (λ f. go_all (λ v. Queues w v q s n i.stage (Go q)) w q (party_queues w q s n i.stage ((w.stack q).top) ((w.stack q).below) i.stands.above i.stands.place refl i.stands.is d i.stands.part i.known i.flag f)) f
go_queues w g q s n d i f false z = go_all (λ v. Queues w v q s n i.stage (Go g)) w g
    (if_some_all (λ r. Queues w (result w g (w.stack g) r) q s n i.stage (Go g)) (λ r. same_queues w (result w g (w.stack g) r) q s n i.stage (Go g) (subst (λ k. CallStands n i.stage s k) (sym (still r)) i.stands) none) (outcome w g (w.stack g)))
  where
    still : (r : Seen × Piece) → (result w g (w.stack g) r).stack q ≡ w.stack q
    still r = stack_other w.stack g (after_move (next_of (w.shape.pool (target_pool g (act_of g ((w.stack g).top)))) g ((w.stack g).top) (r.0)) ((w.stack g).below)) q z

    none : own_push q s w (Go g) ≡ []
    none = ap (λ b. if b && is_at_call s (w.stack q) then push_in (act_of q (w.stack q).top) else []) z

-- an event that is no act queues nothing
no_push : (q : Party) (s : Stack) (w : World) (e : Event) → is_act e ≡ false → own_push q s w e ≡ []
no_push q s w (Go r) z = cc
no_push q s w _ z = refl

turn_queues : (w v : World) (e : Event) (q : Party) (s : Stack) (n : Plan) → is_act e ≡ false → (i : Inside w q s n false) → is_refusal q s w e ≡ false → Turned w v (mover e) e → (b : Bool) → same_party q (mover e) ≡ b → Queues w v q s n i.stage e
turn_queues w v e q s n a i f t true z = same_queues w v q s n i.stage e (by (subst (λ p. Turned w v p e) (sym (same_party_true q (mover e) z)) t)) (no_push q s w e a)
  where
    by : Turned w v q e → CallStands n i.stage s (v.stack q)
    by t = let st : Stood v n i.stage s t.to (is_refusal q s w e) = t.stood n i.stage s i.stands in
        subst (λ k. CallStands n i.stage s k) (sym (t.stack q ∙ stack_mine w.stack q t.to)) (subst (λ r. CallStands n r s t.to) (st.same f) st.stands)
turn_queues w v e q s n a i f t false z = same_queues w v q s n i.stage e (subst (λ k. CallStands n i.stage s k) (sym (t.stack q ∙ stack_other w.stack (mover e) t.to q z)) i.stands) (no_push q s w e a)

step_queues : (w : World) (e : Event) (q : Party) (s : Stack) (n : Plan) → Ground w → (i : Inside w q s n false) → is_refusal q s w e ≡ false → IfSome (step w e) (λ v. Queues w v q s n i.stage e)
step_queues w (Go g) q s n d i f = go_queues w g q s n d i f (same_party q g) refl
step_queues w e q s n d i f = if_some_map (λ v. Turned w v (mover e) e) (λ v. Queues w v q s n i.stage e) (λ v t. turn_queues w v e q s n refl i f t (same_party q (mover e)) refl) (step w e) (turns w e refl)

or_none : (a b : Bool) → (a || b) ≡ false → (a ≡ false) × (b ≡ false)
or_none false b z = (refl, z)
or_none true b z = cc

-- from the call's event to its end
queues_on : (h : Shape) (before : List Event) (w : World) (q : Party) (s : Stack) (n : Plan) (u : World) (es : List Event) → IsRun (start h) before w → (i : Inside w q s n false) → IsRunUntil q s w es u → u.stack q ≡ s → is_any (is_refusal q s) (Some w) es ≡ false →
    pushed q n i.stage ++ pushes_of q s (Some w) es ≡ all_pushes q n
queues_on h before w q s n u [] run i same back none = absurd (stands_apart n i.stage s (w.stack q) i.stands (ap (λ x. x.stack q) (sym same) ∙ back))
queues_on h before w q s n u (e ∷ es) run i (v, opened, one, rest) back none = elim (st one (ground_of h (before ++ (e ∷ [])) v next) adv) [
  | inl j ↦ (let m : Inside v q s n false = subst (λ b. Inside v q s n b) (both.0) j in goes m (queues_on h (before ++ (e ∷ [])) v q s n u es next m rest back (ap (λ o. is_any (is_refusal q s) o es) (sym one) ∙ both.1)))
  | inr j ↦ ends j.back es rest
]
  where
    both : (is_refusal q s w e ≡ false) × (is_any (is_refusal q s) (step w e) es ≡ false)
    both = or_none (is_refusal q s w e) (is_any (is_refusal q s) (step w e) es) none

    next : IsRun (start h) (before ++ (e ∷ [])) v
    next = run_more (start h) w v before e run one

    d : Ground w
    d = ground_of h before w run

    adv : Advance w v
    adv = let f : IfSome (Some v) (Advance w) = subst (λ o. IfSome o (Advance w)) one (step_advance w e (unqueued w d.calls) ((d.calls.jobs).feeds) ((d.calls.jobs).ok) ((d.calls.jobs).unmade)) in f

    st : Stays w e q s n false v
    st = let f : IfSome (Some v) (Stays w e q s n false) = subst (λ o. IfSome o (Stays w e q s n false)) one (step_stays w e q s n false d i) in f

    k : Queues w v q s n i.stage e
    k = let f : IfSome (Some v) (λ x. Queues w x q s n i.stage e) = subst (λ o. IfSome o (λ x. Queues w x q s n i.stage e)) one (step_queues w e q s n d i (both.0)) in f

    own : List Act
    own = own_push q s w e

    goes : (j : Inside v q s n false) → pushed q n j.stage ++ pushes_of q s (Some v) es ≡ all_pushes q n → pushed q n i.stage ++ (own ++ pushes_of q s (step w e) es) ≡ all_pushes q n
    goes j more = ap (λ o. pushed q n i.stage ++ (own ++ pushes_of q s o es)) one ∙ sym (append_assoc (pushed q n i.stage) own (pushes_of q s (Some v) es)) ∙ ap (λ l. l ++ pushes_of q s (Some v) es) (sym (k.on j.stage j.stands)) ∙ more

    ends : v.stack q ≡ s → (es : List Event) → IsRunUntil q s v es u → pushed q n i.stage ++ (own ++ pushes_of q s (step w e) es) ≡ all_pushes q n
    ends z [] same = ap (λ o. pushed q n i.stage ++ (own ++ pushes_of q s o [])) one ∙ ap (λ l. pushed q n i.stage ++ l) (sym (nil_right own)) ∙ sym (k.back z)
    ends z (a ∷ gs) (x, opens, two, more) = absurd (opens z)

-- the call begins with a plan whose pushes belong where the event says
record FirstPush (w v : World) (q : Party) (e : Event) : Type 0 where
  plan : Plan
  stack : v.stack q ≡ after_call (w.stack q) (RaiseCount plan)
  pushes : all_pushes q plan ≡ belongs w e

spawn_first : (w : World) (q : Party) (p : ℕ) (e : Event) → queued_once q p w.jobs None ≡ belongs w e → IfSome (after_spawn w q p (w.stack q)) (λ v. FirstPush w v q e)
spawn_first w q p e i = if_cond (λ v. FirstPush w v q e) (is_free ((w.stack q).top) && is_pool w.shape p) _ (λ b. record { plan = Detach p w.jobs; stack = stack_mine w.stack q (after_call (w.stack q) (RaiseCount (Detach p w.jobs))); pushes = i })

-- a job in order by a party that is no worker of the pool
fed_other : (q : Party) (p t : ℕ) (b : Option ℕ) → is_member q p ≡ false → queued_once q p t b ≡ fed_once q p t b
fed_other q p t b z = rw z

fed_own : (p i t : ℕ) (b : Option ℕ) → FifoIn t b ∷ PushOwn (t + 1) b ∷ [] ≡ fed_once (Worker p i) p t b
fed_own p i t b = let z : (p == p) ≡ true = eq-eqb p p refl in rw z

fifo_first : (w : World) (q : Party) (p : ℕ) → IfSome (after_fifo w q p (w.stack q)) (λ v. FirstPush w v q (Fifo q p))
fifo_first w (Caller c) p = spawn_first w (Caller c) p (Fifo (Caller c) p) refl
fifo_first w (Worker r i) p = by (r == p) refl
  where
    own : ℕ → Option World
    own n = if is_free ((w.stack (Worker n i)).top) && is_pool w.shape p then Some (after_feed w (OfPool p) p i (w.stack (Worker n i))) else None

    mine : IfSome (own p) (λ v. FirstPush w v (Worker p i) (Fifo (Worker p i) p))
    mine = if_cond (λ v. FirstPush w v (Worker p i) (Fifo (Worker p i) p)) (is_free ((w.stack (Worker p i)).top) && is_pool w.shape p) _
        (λ b. record { plan = Feed (record { count = OfPool p; pool = p; job = w.jobs; token = w.jobs + 1 }); stack = stack_mine w.stack (Worker p i) _; pushes = fed_own p i w.jobs None })

    by : (z : Bool) → (r == p) ≡ z → IfSome (if z then own r else after_spawn w (Worker r i) p (w.stack (Worker r i))) (λ v. FirstPush w v (Worker r i) (Fifo (Worker r i) p))
    by true z = subst (λ n. IfSome (own n) (λ v. FirstPush w v (Worker n i) (Fifo (Worker n i) p))) (sym (eqb-true r p z)) mine
    by false z = spawn_first w (Worker r i) p (Fifo (Worker r i) p) (fed_other (Worker r i) p w.jobs None z)

sent_first : (w : World) (q : Party) (p : ℕ) (b : Bool) → is_member q p ≡ b → FirstPush w (after_send w q p (w.stack q) b) q (Install q p)
sent_first w q p true z = record { plan = Here p w.jobs; stack = stack_mine w.stack q (after_call (w.stack q) (RaiseCount (Here p w.jobs))); pushes = rw z }
sent_first w q p false z = record { plan = Send (record { number = w.calls; pool = p; job = w.jobs }); stack = stack_mine w.stack q (after_call (w.stack q) (RaiseCount (Send (record { number = w.calls; pool = p; job = w.jobs })))); pushes = rw z }

join_first : (w : World) (q : Party) → IfSome (after_join w q (w.stack q)) (λ v. FirstPush w v q (Join q))
join_first w (Worker p i) = if_cond (λ v. FirstPush w v (Worker p i) (Join (Worker p i))) (is_free ((w.stack (Worker p i)).top)) _
    (λ b. record { plan = Fork (record { number = w.calls; pool = p; job = w.jobs + 1 }) w.jobs; stack = stack_mine w.stack (Worker p i) _; pushes = (let z : (p == p) ≡ true = eq-eqb p p refl in rw z) })
join_first w (Caller c) = tt

enter_first : (w : World) (q : Party) (z : Scope) (e : Event) → queued_once q z.pool w.jobs (Some z.call) ≡ belongs w e → IfSome (after_enter w q (w.stack q) (Some z)) (λ v. FirstPush w v q e)
enter_first w q z e i = if_cond (λ v. FirstPush w v q e) (is_free ((w.stack q).top) && holds z.call (w.stack q)) _ (λ b. record { plan = Enter (record { call = z.call; owner = z.owner; pool = z.pool; job = w.jobs }); stack = stack_mine w.stack q _; pushes = i })

into_first : (w : World) (q : Party) (n : ℕ) → IfSome (after_into w q n (w.stack q)) (λ v. FirstPush w v q (IntoSpawn q n))
into_first w q n = into_cases (λ v. FirstPush w v q (IntoSpawn q n)) w q n (λ z i free held. enter_first w q z (IntoSpawn q n) (ap (λ o. queued_once q (scope_pool o) w.jobs (scope_list o)) (sym i)))

into_fifo_first : (w : World) (q : Party) (n : ℕ) → IfSome (after_into_fifo w q n (w.stack q)) (λ v. FirstPush w v q (IntoFifo q n))
into_fifo_first w q n = by q (slice_get w.scopes n) refl
  where
    fed : (q : Party) (z : Scope) → slice_get w.scopes n ≡ Some z → fed_once q z.pool w.jobs (Some z.call) ≡ belongs w (IntoFifo q n)
    fed q z i = ap (λ o. fed_once q (scope_pool o) w.jobs (scope_list o)) (sym i)

    plain : (q : Party) (z : Scope) → slice_get w.scopes n ≡ Some z → is_member q z.pool ≡ false → IfSome (after_enter w q (w.stack q) (Some z)) (λ v. FirstPush w v q (IntoFifo q n))
    plain q z i m = enter_first w q z (IntoFifo q n) (fed_other q z.pool w.jobs (Some z.call) m ∙ fed q z i)

    own : (z : Scope) (j r : ℕ) → Option World
    own z j r = if is_free ((w.stack (Worker r j)).top) && holds z.call (w.stack (Worker r j)) then Some (after_feed w (OfScope z.call z.owner) z.pool j (w.stack (Worker r j))) else None

    own_first : (z : Scope) (j : ℕ) → slice_get w.scopes n ≡ Some z → IfSome (own z j z.pool) (λ v. FirstPush w v (Worker z.pool j) (IntoFifo (Worker z.pool j) n))
    own_first z j i = if_cond (λ v. FirstPush w v (Worker z.pool j) (IntoFifo (Worker z.pool j) n)) (is_free ((w.stack (Worker z.pool j)).top) && holds z.call (w.stack (Worker z.pool j))) _
        (λ b. record { plan = Feed (record { count = OfScope z.call z.owner; pool = z.pool; job = w.jobs; token = w.jobs + 1 }); stack = stack_mine w.stack (Worker z.pool j) _; pushes = fed_own z.pool j w.jobs (Some z.call) ∙ fed (Worker z.pool j) z i })

    mine : (z : Scope) (j r : ℕ) → slice_get w.scopes n ≡ Some z → (b : Bool) → (r == z.pool) ≡ b → IfSome (if b then own z j r else after_enter w (Worker r j) (w.stack (Worker r j)) (Some z)) (λ v. FirstPush w v (Worker r j) (IntoFifo (Worker r j) n))
    mine z j r i true m = subst (λ k. IfSome (own z j k) (λ v. FirstPush w v (Worker k j) (IntoFifo (Worker k j) n))) (sym (eqb-true r z.pool m)) (own_first z j i)
    mine z j r i false m = plain (Worker r j) z i m

    by : (q : Party) (o : Option Scope) → slice_get w.scopes n ≡ o → IfSome (after_enter_fifo w q (w.stack q) o) (λ v. FirstPush w v q (IntoFifo q n))
    by q None i = tt
    by (Caller c) (Some z) i = plain (Caller c) z i refl
    by (Worker r j) (Some z) i = mine z j r i (r == z.pool) refl

first_push : (w : World) (e : Event) (q : Party) → caller_of e ≡ Some q → IfSome (step w e) (λ v. FirstPush w v q e)
first_push w e q z = by e z
  where
    to : (r q : Party) → Some r ≡ Some q → r ≡ q
    to r q z = cc

    gathering : Party → ℕ → Gathering
    gathering r p = record {
      call = record { number = w.calls; pool = p; job = w.jobs + (w.shape.pool p).workers };
      pieces = record { count = OfCast w.calls r; pool = p; first = w.jobs; workers = (w.shape.pool p).workers };
    }

    by : (e : Event) → caller_of e ≡ Some q → IfSome (step w e) (λ v. FirstPush w v q e)
    by (Spawn r p) z = subst (λ x. IfSome (step w (Spawn r p)) (λ v. FirstPush w v x (Spawn r p))) (to r q z) (spawn_first w r p (Spawn r p) refl)
    by (Fifo r p) z = subst (λ x. IfSome (step w (Fifo r p)) (λ v. FirstPush w v x (Fifo r p))) (to r q z) (fifo_first w r p)
    by (Install r p) z = subst (λ x. IfSome (step w (Install r p)) (λ v. FirstPush w v x (Install r p))) (to r q z) (if_cond (λ v. FirstPush w v r (Install r p)) (is_free ((w.stack r).top) && is_pool w.shape p) _ (λ b. sent_first w r p (is_member r p) refl))
    by (Join r) z = subst (λ x. IfSome (step w (Join r)) (λ v. FirstPush w v x (Join r))) (to r q z) (join_first w r)
    by (OpenScope r p) z = subst (λ x. IfSome (step w (OpenScope r p)) (λ v. FirstPush w v x (OpenScope r p))) (to r q z)
        (if_cond (λ v. FirstPush w v r (OpenScope r p)) (is_free ((w.stack r).top) && is_pool w.shape p) _ (λ b. record { plan = Open (record { number = w.calls; pool = p; job = w.jobs }); stack = stack_mine w.stack r _; pushes = refl }))
    by (IntoSpawn r n) z = subst (λ x. IfSome (step w (IntoSpawn r n)) (λ v. FirstPush w v x (IntoSpawn r n))) (to r q z) (into_first w r n)
    by (IntoFifo r n) z = subst (λ x. IfSome (step w (IntoFifo r n)) (λ v. FirstPush w v x (IntoFifo r n))) (to r q z) (into_fifo_first w r n)
    by (Broadcast r p) z = subst (λ x. IfSome (step w (Broadcast r p)) (λ v. FirstPush w v x (Broadcast r p))) (to r q z)
        (if_cond (λ v. FirstPush w v r (Broadcast r p)) (is_free ((w.stack r).top) && is_pool w.shape p) _ (λ b. record { plan = Gather (gathering r p); stack = stack_mine w.stack r _; pushes = refl }))
    by _ z = absurd (cc)

pub placed_law : PlacedLaw
placed_law h before q e w v u between b run back none = nothing ∙ queues_on h (before ++ (e ∷ [])) v q s n u between next i run back none ∙ ap (all_pushes q) (sym (start_part.0)) ∙ first.pushes
  where
    s : Stack
    s = w.stack q

    begun : Begun w v q e
    begun = let f : IfSome (Some v) (λ x. Begun w x q e) = subst (λ o. IfSome o (λ x. Begun w x q e)) b.made (begun_by w q e b.caller) in f

    first : FirstPush w v q e
    first = let f : IfSome (Some v) (λ x. FirstPush w x q e) = subst (λ o. IfSome o (λ x. FirstPush w x q e)) b.made (first_push w e q b.caller) in f

    next : IsRun (start h) (before ++ (e ∷ [])) v
    next = run_more (start h) w v before e b.reached b.made

    n : Plan
    n = begun.plan

    i : Inside v q s n false
    i = begun.inside

    spot : i.stands.place ≡ RaiseCount first.plan
    spot = same_spot (whole s) i.stands.above [] i.stands.place (RaiseCount first.plan) (sym i.stands.is ∙ ap whole first.stack)

    start_part : (first.plan ≡ n) × (i.stage ≡ Going)
    start_part = subst (λ x. Part n i.stage x) spot i.stands.part

    nothing : pushes_of q s (Some v) between ≡ pushed q n i.stage ++ pushes_of q s (Some v) between
    nothing = sym (ap (λ t. pushed q n t ++ pushes_of q s (Some v) between) (start_part.1))
