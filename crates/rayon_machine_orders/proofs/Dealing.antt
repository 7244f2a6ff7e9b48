-- what each step does to the own deque of a worker that is alone in its pool, and what it has taken from it
use Rattle.std.proofs.Common.{refl, sym, ◌∙◌, ap, subst, inl, inr}
use Rattle.rayon_machine_orders.proofs.Words.{eqb-true, ℕ, Bool, true, false, ◌==◌, if◌then◌else◌, Option, Some, None, List, [], ◌∷◌, ◌++◌, ◌≡◌, ◌⊎◌, IfSome, Order, Party, Worker, Plan, Place, PopWorking, PopIdle, JoinPop, YieldPop, LocalPop, JoinProbe, SecondSide, BeginTask, BeginHere, PushJob}
use Rattle.rayon_machine_orders.proofs.Words.{PushToken, AddToFifo, TakeFromFifo, EnterAbove as Enter, Discard, Act, PushOwn, PushInj, Seen, Task, PoolShape, OpenCall, same_party, plan_pool, plan_job, act_of, next_of, after_begin, is_taken, plan_book, count_book, Stack, World, counts_at, Part}
use Rattle.rayon_machine_orders.proofs.Words.{own_of, own_left, popped, target_pool, target_worker, target_call, effect, head_of, left_by, or_none, put_list, taken_as, put_seat, part_of, after_move, step, Happening, act_happens, happening, Hands, Event, Go, Plain, Token, Taken, run_at, JobKind}
use Rattle.rayon_machine_places.specs.declared.act.Seen.TheVariants.{Missing}
use Rattle.rayon_machine_laws.proofs.Calm.{part_at, counts_seen, next_at}
use Rattle.rayon_machine_laws.proofs.Frame.{either, if_some_and, if_some_map, same_party_true, acted_keeps, out_sees}
use Rattle.rayon_machine_orders.proofs.Lone.{Honest, Turns, is_act, is_thief, taken, turns}
use Rattle.rayon_machine_laws.proofs.Ties.{AllFrames, job_at, shape_at, outcome, result}
use Rattle.rayon_machine_laws.proofs.Tops.{FramesOk}
use Rattle.rayon_machine_orders.proofs.Dealt.{is_pop, elsewhere, is_start, is_push, is_line, Dealt, FreeOf, own_hands, hand_on, silent, seat_mine, seat_own, stays_free, quiet_own, other_own, lands_free}

-- the kinds of jobs and tokens
abbrev pub kinds : World → ℕ → JobKind
kinds w t = (w.job t).kind

-- what a step does to a worker's deque, between two worlds
abbrev pub Deals : Order → ℕ → ℕ → World → World → Option Happening → Type 0
Deals o p i w u h = Dealt o (kinds w) (w.stack (Worker p i)).top (w.seat p i).own (u.seat p i).own (u.stack (Worker p i)).top h

-- over the worker's own act, after which it runs this job
abbrev Own : World → ℕ → ℕ → Place → List Place → (Seen × Part → Option ℕ) → Type 0
Own w p i x fs o = IfSome (outcome w (Worker p i) (record { top = x; below = fs }))
    (λ r. Dealt (w.shape.pool p).order (kinds w) x (w.seat p i).own ((result w (Worker p i) (record { top = x; below = fs }) r).seat p i).own (after_move (next_at w (Worker p i) (record { top = x; below = fs }) (r.0)) fs).top (act_happens (act_of (Worker p i) x) fs (o r)))

-- a look in the own deque, by what it leads to
popped_deals : (w : World) (p i : ℕ) (x : Place) (fs : List Place) (m : Part) (j : Option ℕ) → own_of (w.shape.pool p).order (w.seat p i).own ≡ j → m.seat ≡ w.seat p i → m.job ≡ w.job (or_none (own_of (w.shape.pool p).order (w.seat p i).own)) → taken x ≡ None
    → (taken ((after_move (next_of (w.shape.pool p) (Worker p i) x Missing) fs).top) ≡ None) → ((t : Taken) → taken ((after_move (next_of (w.shape.pool p) (Worker p i) x (Task t)) fs).top) ≡ Some t) →
    IfSome (popped (Worker p i) m (own_left (w.shape.pool p).order (w.seat p i).own) j) (λ r. Dealt (w.shape.pool p).order (kinds w) x (w.seat p i).own (put_seat w.seat p i (r.1.seat) p i).own (after_move (next_of (w.shape.pool p) (Worker p i) x (r.0)) fs).top None)
popped_deals w p i x fs m None e s d n a b = inl (ap (λ z. z.own) (seat_mine w.seat p i m.seat ∙ s), inl (n, inl a))
popped_deals w p i x fs m (Some t) e s d n a b =
    let k : m.job.kind ≡ (w.job t).kind = ap (λ j. j.kind) d ∙ ap (λ z. (w.job (or_none z)).kind) e in
    inr (
      t,
      subst (λ z. Hands (w.shape.pool p).order (w.seat p i).own t z) (sym (ap (λ z. z.own) (seat_mine w.seat p i (record (m.seat) { own = own_left (w.shape.pool p).order (w.seat p i).own })))) (own_hands (w.shape.pool p).order (w.seat p i).own t e),
      n,
      b (taken_as t (m.job.kind))
          ∙ ap (λ z. Some (taken_as t z)) k,
    )

join_taken : (h : PoolShape) (q : Party) (o : OpenCall) (t : Taken) (fs : List Place) → taken ((after_move (next_of h q (JoinPop o) (Task t)) fs).top) ≡ Some t
join_taken h q o t fs = at (is_taken t o.job) refl
  where
    is : (t : Taken) → is_taken t o.job ≡ true → Plain o.job ≡ t
    is (Plain u) e = ap Plain (sym (eqb-true u o.job e))
    is (Token k i b8) e = cc

    at : (b : Bool) → is_taken t o.job ≡ b → taken ((after_move (if b then Enter (SecondSide o) (BeginHere o.job) else Enter (JoinProbe o) (BeginTask t)) fs).top) ≡ Some t
    at true e = ap Some (is t e)
    at false e = refl

pop_deals : (w : World) (p i : ℕ) (x : Place) (fs : List Place) (o : Seen × Part → Option ℕ) → is_pop x ≡ true → Own w p i x fs o
pop_deals w p i (PopWorking k) fs o z = popped_deals w p i (PopWorking k) fs (part_at w (Worker p i) (record { top = PopWorking k; below = fs })) (own_of (w.shape.pool p).order (w.seat p i).own) refl refl refl refl refl (λ t. refl)
pop_deals w p i (PopIdle k) fs o z = popped_deals w p i (PopIdle k) fs (part_at w (Worker p i) (record { top = PopIdle k; below = fs })) (own_of (w.shape.pool p).order (w.seat p i).own) refl refl refl refl refl (λ t. refl)
pop_deals w p i (JoinPop c) fs o z = popped_deals w p i (JoinPop c) fs (part_at w (Worker p i) (record { top = JoinPop c; below = fs })) (own_of (w.shape.pool p).order (w.seat p i).own) refl refl refl refl refl (λ t. join_taken (w.shape.pool p) (Worker p i) c t fs)
pop_deals w p i YieldPop fs o z = popped_deals w p i YieldPop fs (part_at w (Worker p i) (record { top = YieldPop; below = fs })) (own_of (w.shape.pool p).order (w.seat p i).own) refl refl refl refl refl (λ t. refl)
pop_deals w p i LocalPop fs o z = popped_deals w p i LocalPop fs (part_at w (Worker p i) (record { top = LocalPop; below = fs })) (own_of (w.shape.pool p).order (w.seat p i).own) refl refl refl refl refl (λ t. refl)
pop_deals w p i _ fs o z = cc

-- a begin
start_deals : (w : World) (p i : ℕ) (x : Place) (fs : List Place) (o : Seen × Part → Option ℕ) → AllFrames fs → is_start x ≡ true → Own w p i x fs o
start_deals w p i (BeginTask (Plain t)) fs o a z = (ap (λ s. s.own) (seat_mine w.seat p i (w.seat p i)), refl, refl)
start_deals w p i (BeginTask (Token k j b)) fs o a z = out_sees P (Worker p i) (part_of w p j 0 (or_none (head_of ((w.seat p j).fifo b)))) b
    (seat_own w.seat p j p i (w.seat p j) refl, (j, refl), lands_free (Discard k) fs a tt)
    (λ u us e. (seat_own w.seat p j p i (record (w.seat p j) { fifo = put_list (w.seat p j).fifo b us }) refl, (j, refl), refl))
  where
    P : Seen × Part → Type 0
    P r = ((put_seat w.seat p j (r.1.seat) p i).own ≡ (w.seat p i).own) × ((n : ℕ) × (Some (Token k j b) ≡ Some (Token k n b))) × (taken ((after_move (after_begin (Token k j b) (r.0)) fs).top) ≡ None)
start_deals w p i (BeginHere t) fs o a z = (ap (λ s. s.own) (seat_mine w.seat p i (w.seat p i)), refl, refl)
start_deals w p i _ fs o a z = cc

-- a push, onto the own deque or elsewhere
push_deals : (w : World) (p i : ℕ) (n : Plan) (v : Bool) (fs : List Place) (o : Seen × Part → Option ℕ) → Own w p i (PushJob n v) fs o
push_deals w p i n v fs o = at (p == plan_pool n)
  where
    me : Party
    me = Worker p i

    ByAct : Act → Type 0
    ByAct a = IfSome (effect a w.shape me (counts_at w (target_pool me a)) (part_of w (target_pool me a) (target_worker me a) (target_call a) (job_at w me a)))
        (λ r. Dealt (w.shape.pool p).order (kinds w) (PushJob n v) (w.seat p i).own (put_seat w.seat (target_pool me a) (target_worker me a) (r.1.seat) p i).own (after_move (next_of (w.shape.pool (target_pool me a)) me (PushJob n v) (r.0)) fs).top (act_happens a fs (o r)))

    at : (z : Bool) → ByAct (if z then PushOwn (plan_job n) (plan_book n) else PushInj (plan_pool n) (plan_job n) (plan_book n))
    at true = (ap (λ s. s.own) (seat_mine w.seat p i (record (w.seat p i) { own = (w.seat p i).own ++ plan_job n ∷ []; feeder = put_list (w.seat p i).feeder (plan_book n) (left_by (Worker p i) ((w.seat p i).feeder (plan_book n))) })), refl, refl)
    at false = inl (seat_own w.seat (plan_pool n) i p i (w.seat (plan_pool n) i) refl, inl (refl, inl refl))

push_own : (w : World) (p i : ℕ) (x : Place) (fs : List Place) (o : Seen × Part → Option ℕ) → is_push x ≡ true → Own w p i x fs o
push_own w p i (PushJob n v) fs o z = push_deals w p i n v fs o
push_own w p i (PushToken f v) fs o z = (ap (λ s. s.own) (seat_mine w.seat p i (record (w.seat p i) { own = (w.seat p i).own ++ f.token ∷ []; feeder = put_list (w.seat p i).feeder (count_book f.count) (left_by (Worker p i) ((w.seat p i).feeder (count_book f.count))) })), refl, refl)
push_own w p i _ fs o z = cc

-- an act on a FIFO list leaves the deque
line_deals : (w : World) (p i : ℕ) (x : Place) (fs : List Place) (o : Seen × Part → Option ℕ) → AllFrames fs → is_line x ≡ true → Own w p i x fs o
line_deals w p i (AddToFifo f) fs o a z = if_some_map {A = Seen × Part} (λ r. (((result w (Worker p i) (record { top = AddToFifo f; below = fs }) r).seat p i).own ≡ (w.seat p i).own) × FreeOf (next_at w (Worker p i) (record { top = AddToFifo f; below = fs }) (r.0)))
    (λ r. (((result w (Worker p i) (record { top = AddToFifo f; below = fs }) r).seat p i).own ≡ (w.seat p i).own) × (None ≡ None) × (taken ((after_move (next_at w (Worker p i) (record { top = AddToFifo f; below = fs }) (r.0)) fs).top) ≡ None))
    (λ r t. (t.0, refl, lands_free (next_at w (Worker p i) (record { top = AddToFifo f; below = fs }) (r.0)) fs a (t.1)))
    (outcome w (Worker p i) (record { top = AddToFifo f; below = fs }))
    (if_some_and {A = Seen × Part} (λ r. ((result w (Worker p i) (record { top = AddToFifo f; below = fs }) r).seat p i).own ≡ (w.seat p i).own) (λ r. FreeOf (next_at w (Worker p i) (record { top = AddToFifo f; below = fs }) (r.0))) (outcome w (Worker p i) (record { top = AddToFifo f; below = fs }))
    (quiet_own w (Worker p i) (record { top = AddToFifo f; below = fs }) p i refl refl refl)
    (stays_free w.shape (w.shape.pool p) (Worker p i) (counts_seen w (Worker p i) (record { top = AddToFifo f; below = fs })) (part_at w (Worker p i) (record { top = AddToFifo f; below = fs })) (AddToFifo f) refl refl refl refl))
line_deals w p i (TakeFromFifo f) fs o a z = if_some_map {A = Seen × Part} (λ r. (((result w (Worker p i) (record { top = TakeFromFifo f; below = fs }) r).seat p i).own ≡ (w.seat p i).own) × FreeOf (next_at w (Worker p i) (record { top = TakeFromFifo f; below = fs }) (r.0)))
    (λ r. (((result w (Worker p i) (record { top = TakeFromFifo f; below = fs }) r).seat p i).own ≡ (w.seat p i).own) × (None ≡ None) × (taken ((after_move (next_at w (Worker p i) (record { top = TakeFromFifo f; below = fs }) (r.0)) fs).top) ≡ None))
    (λ r t. (t.0, refl, lands_free (next_at w (Worker p i) (record { top = TakeFromFifo f; below = fs }) (r.0)) fs a (t.1)))
    (outcome w (Worker p i) (record { top = TakeFromFifo f; below = fs }))
    (if_some_and {A = Seen × Part} (λ r. ((result w (Worker p i) (record { top = TakeFromFifo f; below = fs }) r).seat p i).own ≡ (w.seat p i).own) (λ r. FreeOf (next_at w (Worker p i) (record { top = TakeFromFifo f; below = fs }) (r.0)))
    (outcome w (Worker p i) (record { top = TakeFromFifo f; below = fs }))
    (quiet_own w (Worker p i) (record { top = TakeFromFifo f; below = fs }) p i refl refl refl)
    (stays_free w.shape (w.shape.pool p) (Worker p i) (counts_seen w (Worker p i) (record { top = TakeFromFifo f; below = fs })) (part_at w (Worker p i) (record { top = TakeFromFifo f; below = fs })) (TakeFromFifo f) refl refl refl refl))
line_deals w p i _ fs o a z = cc

quiet_deals : (w : World) (p i : ℕ) (x : Place) (fs : List Place) (o : Seen × Part → Option ℕ) → AllFrames fs → is_pop x ≡ false → is_thief x ≡ false → is_push x ≡ false → is_start x ≡ false → is_line x ≡ false → Own w p i x fs o
quiet_deals w p i x fs o a y z s b l =
    let me : Party = Worker p i in
    let k : Stack = record { top = x; below = fs } in
    let Hand : Seen × Part → Type 0 = λ r. ((taken x ≡ None) × ((taken ((after_move (next_at w me k (r.0)) fs).top) ≡ None) ⊎ (elsewhere x ≡ true))) ⊎ (taken ((after_move (next_at w me k (r.0)) fs).top) ≡ taken x) in
    let Mine : Seen × Part → Type 0 = λ r. ((result w me k r).seat p i).own ≡ (w.seat p i).own in
    let D : Seen × Part → Option Happening → Type 0 = λ r h. Dealt (w.shape.pool p).order (kinds w) x (w.seat p i).own ((result w me k r).seat p i).own (after_move (next_at w me k (r.0)) fs).top h in
    if_some_map {A = Seen × Part} (λ r. Mine r × Hand r) (λ r. D r (act_happens (act_of me x) fs (o r))) (λ r h. subst (D r) (sym (silent me x fs (o r) s b l)) (inl (h.0, h.1))) (outcome w me k)
    (if_some_and Mine Hand (outcome w me k) (quiet_own w me k p i y z s) (hand_on w.shape (shape_at w me k) me (counts_seen w me k) (part_at w me k) x fs a y b))

own_deals : (w : World) (p i : ℕ) (x : Place) (fs : List Place) (o : Seen × Part → Option ℕ) → AllFrames fs → is_thief x ≡ false → Own w p i x fs o
own_deals w p i x fs o a z = elim (either (is_pop x)) [
  | inl y ↦ pop_deals w p i x fs o y
  | inr y ↦ elim (either (is_start x)) [
    | inl b ↦ start_deals w p i x fs o a b
    | inr b ↦ elim (either (is_push x)) [
      | inl s ↦ push_own w p i x fs o s
      | inr s ↦ elim (either (is_line x)) [
        | inl l ↦ line_deals w p i x fs o a l
        | inr l ↦ quiet_deals w p i x fs o a y z s b l
      ]
    ]
  ]
]

-- the job that a party runs after its act
abbrev pub runs_after : World → Party → Seen × Part → Option ℕ
runs_after w q r = run_at (((result w q (w.stack q) r).stack q).top)

go_deals : (w : World) (q : Party) (p : ℕ) (b : Bool) → same_party (Worker p 0) q ≡ b → FramesOk w → Honest p w → IfSome (outcome w q (w.stack q))
    (λ r. Dealt (w.shape.pool p).order (kinds w) (w.stack (Worker p 0)).top (w.seat p 0).own ((result w q (w.stack q) r).seat p 0).own ((if b then after_move (next_at w q (w.stack q) (r.0)) (w.stack q).below else w.stack (Worker p 0)).top)
    (if b then act_happens (act_of q (w.stack q).top) (w.stack q).below (runs_after w q r) else None))
go_deals w q p true eb fr ok =
    let me : Party = Worker p 0 in
    let F : Party → Type 0 = λ z. IfSome (outcome w z (w.stack z))
    (λ r. Dealt (w.shape.pool p).order (kinds w) (w.stack me).top (w.seat p 0).own ((result w z (w.stack z) r).seat p 0).own ((after_move (next_at w z (w.stack z) (r.0)) (w.stack z).below).top) (act_happens (act_of z (w.stack z).top) (w.stack z).below (runs_after w z r))) in
    let base : F me = own_deals w p 0 (w.stack me).top (w.stack me).below (runs_after w me) (fr me) (ok 0) in
    subst F (same_party_true me q eb) base
go_deals w q p false eb fr ok = if_some_map {A = Seen × Part} (λ r. ((result w q (w.stack q) r).seat p 0).own ≡ (w.seat p 0).own)
    (λ r. Dealt (w.shape.pool p).order (kinds w) (w.stack (Worker p 0)).top (w.seat p 0).own ((result w q (w.stack q) r).seat p 0).own ((w.stack (Worker p 0)).top) None) (λ r e. inl (e, inr refl)) (outcome w q (w.stack q))
    (other_own w q (w.stack q).top (w.stack q).below p 0 eb (λ b is. ap (λ z. is_thief ((w.stack z).top)) is ∙ ok b))

pub nothing : (p : ℕ) (w : World) (e : Event) (v : World) → is_act e ≡ false → happening p w e v ≡ None
nothing p w (Go q) v z = cc
nothing p w _ v z = refl

turn_deals : (w u : World) (p : ℕ) → Turns w u → Honest p w → Deals (w.shape.pool p).order p 0 w u None
turn_deals w u p m ok = inl (
  ap (λ s. s.own) (m.seat p 0),
  subst (λ k. ((taken (w.stack (Worker p 0)).top ≡ None) × ((taken (k.top) ≡ None) ⊎ (elsewhere (w.stack (Worker p 0)).top ≡ true))) ⊎ (taken (k.top) ≡ taken (w.stack (Worker p 0)).top)) (sym (m.stack (Worker p 0))) (at (same_party (Worker p 0) (m.party)) refl),
)
  where
    at : (b : Bool) → same_party (Worker p 0) (m.party) ≡ b → ((taken (w.stack (Worker p 0)).top ≡ None) × ((taken ((if b then m.to else w.stack (Worker p 0)).top) ≡ None) ⊎ (elsewhere (w.stack (Worker p 0)).top ≡ true))) ⊎
        (taken ((if b then m.to else w.stack (Worker p 0)).top) ≡ taken (w.stack (Worker p 0)).top)
    at true e = let is : Worker p 0 ≡ m.party = same_party_true (Worker p 0) (m.party) e in inl (ap (λ z. taken ((w.stack z).top)) is ∙ (m.empty).0, inl ((m.honest (ap (λ z. is_thief ((w.stack z).top)) (sym is) ∙ ok 0)).1))
    at false e = inr refl

-- what each step does to the deque of the pool's one worker
pub step_deals : (p : ℕ) (w : World) (e : Event) → FramesOk w → Honest p w → IfSome (step w e) (λ u. Deals (w.shape.pool p).order p 0 w u (happening p w e u))
step_deals p w (Go q) fr ok = acted_keeps w q (w.stack q) (target_pool q (act_of q (w.stack q).top)) (target_worker q (act_of q (w.stack q).top)) (target_call (act_of q (w.stack q).top)) (job_at w q (act_of q (w.stack q).top)) (outcome w q (w.stack q))
    (λ u. Deals (w.shape.pool p).order p 0 w u (happening p w (Go q) u)) (go_deals w q p (same_party (Worker p 0) q) refl fr ok)
step_deals p w e fr ok = if_some_map (Turns w) (λ u. Deals (w.shape.pool p).order p 0 w u (happening p w e u)) (λ u m. subst (Deals (w.shape.pool p).order p 0 w u) (sym (nothing p w e u refl)) (turn_deals w u p m ok)) (step w e) (turns w fr e refl)
