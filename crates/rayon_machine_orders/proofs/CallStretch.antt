-- a call from its event on: in each world until it is over a place of it stands right above what its party did
--
-- From its event to its end a call has one place in its party's stack. Right below it stands the stack as it was
-- (`CallStands`, CallEvents). Above it may run whatever a wait has taken. An act of that leaves the place, and what is
-- below it, alone (`climbs`).
-- The first world in which the stack is the old one again is the one after a move back: before it the stack is longer.
use Rattle.std.proofs.Common.{refl, sym, ◌∙◌, ap, subst, inl, inr}
use Rattle.rayon_machine_orders.proofs.Words.{ℕ, Bool, true, false, ◌&&◌, ◌||◌, ◌==◌, if◌then◌else◌, Option, Some, List, [], ◌∷◌, ◌++◌, ◌≡◌, IfSome, ◌⊎◌, Party, Direct, WholeOf, JobKind, has_body, Plan, Detach, Here, Send, Fork, Feed, Open, Enter, Gather, Place, Run, Move, Stay}
use Rattle.rayon_machine_orders.proofs.Words.{EnterAbove as Enter, StartRun, Back, HandBack, Discard, HandIn, Mark, HandAllBack, Seen, Event, Go, HandedBack, Job, plan_job, same_party, act_of, next_of, Stack, World, Part as Piece, target_pool, at_job, put, after_move, is_piece, marked}
use Rattle.rayon_machine_orders.proofs.Words.{jobs_after, step, AllJobs, follows, is_at_call, is_raise_refused, is_refusal, IsHandedOn, IsSpent, OpenCall, Ending, Answers, Returned as HandedOut}
use Rattle.rayon_machine_orders.proofs.FaultPlaces.{told_of}
use Rattle.rayon_machine_runs.specs.Steps.{handed_back}
use Rattle.rayon_machine_laws.proofs.Frame.{if_some_all, if_some_map, put_new, piece_new, same_party_true, same_party_refl, stack_mine, stack_other}
use Rattle.rayon_machine_laws.proofs.Ties.{job_at, outcome, result}
use Rattle.rayon_machine_laws.proofs.PlacedEvents.{Advance}
use Rattle.rayon_machine_laws.proofs.Claims.{Says, SaysTaken, Opened, FirstEnds, is_body}
use Rattle.rayon_machine_laws.proofs.ClaimRuns.{CallsHold, world_after}
use Rattle.rayon_machine_laws.proofs.Returns.{ReturnsHold}
use Rattle.rayon_machine_orders.proofs.FilledStates.{FilledHold}
use Rattle.rayon_machine_orders.proofs.Filled.{takes_filled}
use Rattle.rayon_machine_orders.proofs.CallPlaces.{Stage, Paid, Repaid, is_undone, is_detach, Part, Ended, Returns, Known, Knows, NoneLeft, Gone}
use Rattle.rayon_machine_orders.proofs.CallActs.{Sofar, Went, call_goes, or_false}
use Rattle.rayon_machine_orders.proofs.CallEvents.{whole, CallStands, Stood, Turned, at_call_yes, at_call_no}
use Rattle.rayon_machine_laws.proofs.Enters.{EntersHold}
use Rattle.rayon_machine_orders.proofs.Fillings.{SlotsHold}
use Rattle.rayon_machine_orders.proofs.CallSteps.{Carries, mover, turns, go_all, step_carries, known_on, sofar_on}
use Rattle.rayon_machine_laws.proofs.Feeders.{FeedersHold}
use Rattle.rayon_machine_laws.proofs.Endings.{follows_says}
use Rattle.rayon_machine_orders.proofs.Books.{BooksHold}
use Rattle.rayon_machine_orders.proofs.Faults.{FaultsHold}
use Rattle.rayon_machine_orders.proofs.FaultSteps.{takes_so}

-- what holds of every world
pub record Ground (w : World) : Type 0 where
  pub calls : CallsHold w
  pub filled : FilledHold w
  pub returns : ReturnsHold w
  pub feeders : FeedersHold w
  pub faults : FaultsHold w
  pub books : BooksHold w
  pub slots : SlotsHold w
  pub enters : EntersHold w

-- the call goes on
pub record Inside (u : World) (q : Party) (s : Stack) (n : Plan) (r : Bool) : Type 0 where
  pub stage : Stage
  pub stands : CallStands n stage s (u.stack q)
  pub sofar : Sofar u stage n
  pub known : Known u n
  pub flag : is_undone stage ≡ r

-- what a call that nothing refused leaves
abbrev pub Unrefused : World → Plan → Type 0
Unrefused u (Detach p t) = IsHandedOn u t
Unrefused u (Feed f) = IsHandedOn u f.job × (IsHandedOn u f.token ⊎ IsSpent u f.token)
Unrefused u (Open o) = Ended u o.job
Unrefused u (Enter e) = IsHandedOn u e.job
Unrefused u (Here p t) = Ended u t
Unrefused u (Send o) = Ended u o.job
Unrefused u (Fork o a) = Ended u a × Ended u o.job
Unrefused u (Gather g) = (t : ℕ) → is_piece g.pieces t ≡ true → Ended u t

-- the call is over
pub record Returned (u : World) (q : Party) (s : Stack) (n : Plan) (r : Bool) : Type 0 where
  pub back : u.stack q ≡ s
  pub ends : r ≡ false → Unrefused u n
  pub paid : is_detach n ≡ false → (u.job (plan_job n)).counted ≡ false
  pub refused : r ≡ true → AllJobs (λ t. (u.job t).at ≡ HandedBack) n
  pub left : r ≡ false → NoneLeft u n

abbrev pub After : World → Party → Stack → Plan → Bool → Type 0
After u q s n r = Inside u q s n r ⊎ Returned u q s n r

-- a call returns
left_so : (u : World) (n : Plan) (s : Stage) → Known u n → Returns n s → Sofar u s n → Unrefused u n
left_so u (Detach p t) s k y z = (let b : Sofar u Gone (Detach p t) = subst (λ v. Sofar u v (Detach p t)) y z in b.1)
left_so u (Feed f) s k y z = (let b : Sofar u Gone (Feed f) = subst (λ v. Sofar u v (Feed f)) y z in (b.0, elim ((b.1).1) [ inl c ↦ inl c | inr c ↦ inr (record { token = (k.1).1; at = c }) ]))
left_so u (Enter e) s k y z = (let b : Sofar u Gone (Enter e) = subst (λ v. Sofar u v (Enter e)) y z in b.1)
left_so u (Open o) s k y z = (let b : Sofar u Paid (Open o) = subst (λ v. Sofar u v (Open o)) y z in b.1)
left_so u (Here p t) s k y z = (let b : Sofar u Paid (Here p t) = subst (λ v. Sofar u v (Here p t)) y z in b.1)
left_so u (Send o) s k y z = (let b : Sofar u Paid (Send o) = subst (λ v. Sofar u v (Send o)) y z in b.1)
left_so u (Fork o a) s k y z = (let b : Sofar u Paid (Fork o a) = subst (λ v. Sofar u v (Fork o a)) y z in b.1)
left_so u (Gather g) s k y z = (let b : Sofar u Paid (Gather g) = subst (λ v. Sofar u v (Gather g)) y z in b.1)

paid_so : (u : World) (n : Plan) (s : Stage) → Returns n s → is_detach n ≡ false → Sofar u s n → (u.job (plan_job n)).counted ≡ false
paid_so u (Open o) s y d z = (let k : Sofar u Paid (Open o) = subst (λ v. Sofar u v (Open o)) y z in (k.0).none)
paid_so u (Here p t) s y d z = (let k : Sofar u Paid (Here p t) = subst (λ v. Sofar u v (Here p t)) y z in (k.0).none)
paid_so u (Send o) s y d z = (let k : Sofar u Paid (Send o) = subst (λ v. Sofar u v (Send o)) y z in (k.0).none)
paid_so u (Fork o b) s y d z = (let k : Sofar u Paid (Fork o b) = subst (λ v. Sofar u v (Fork o b)) y z in (k.0).none)
paid_so u (Gather g) s y d z = (let k : Sofar u Paid (Gather g) = subst (λ v. Sofar u v (Gather g)) y z in (k.0).none)
paid_so u _ s y d z = absurd (let a : true ≡ false = d in cc)

none_so : (u : World) (n : Plan) (s : Stage) → Returns n s → Sofar u s n → NoneLeft u n
none_so u (Gather g) s y z = (let k : Sofar u Paid (Gather g) = subst (λ v. Sofar u v (Gather g)) y z in k.2)
none_so u _ s y z = tt

not_undone : (n : Plan) (s : Stage) → Returns n s → is_undone s ≡ false
not_undone (Detach p t) s y = ap is_undone y
not_undone _ s y = ap is_undone y

two_handed : (f : ℕ → Job) (a b : ℕ) → ((put (put f a (at_job (f a) HandedBack)) b (at_job (f b) HandedBack) a).at ≡ HandedBack) × ((put (put f a (at_job (f a) HandedBack)) b (at_job (f b) HandedBack) b).at ≡ HandedBack)
two_handed f a b = (by (a == b), ap (λ j. j.at) (put_new (put f a (at_job (f a) HandedBack)) b (at_job (f b) HandedBack)))
  where
    by : (z : Bool) → (if z then at_job (f b) HandedBack else put f a (at_job (f a) HandedBack) a).at ≡ HandedBack
    by true = refl
    by false = ap (λ j. j.at) (put_new f a (at_job (f a) HandedBack))

handed_all : (f : ℕ → Job) (m : Plan) → AllJobs (λ t. (handed_back m f t).at ≡ HandedBack) m
handed_all f (Detach p t) = ap (λ j. j.at) (put_new f t (at_job (f t) HandedBack))
handed_all f (Here p t) = ap (λ j. j.at) (put_new f t (at_job (f t) HandedBack))
handed_all f (Send o) = ap (λ j. j.at) (put_new f (o.job) (at_job (f (o.job)) HandedBack))
handed_all f (Open o) = ap (λ j. j.at) (put_new f (o.job) (at_job (f (o.job)) HandedBack))
handed_all f (Enter e) = ap (λ j. j.at) (put_new f (e.job) (at_job (f (e.job)) HandedBack))
handed_all f (Fork o a) = two_handed f a o.job
handed_all f (Feed d) = two_handed f d.job d.token
handed_all f (Gather g) = λ t e. ap (λ j. j.at) (piece_new g.pieces (marked HandedOut g.pieces.pool) f t e)

-- where the call's own act leads
landed : (w u : World) (q : Party) (s : Stack) (n : Plan) (st : Stage) (b : Bool) (g : Move) (f : ℕ → Job) → u.stack q ≡ after_move g (whole s) → u.job ≡ jobs_after q g f → Went w u n st b g → Sofar u st n → Known u n → After u q s n (is_undone st || b)
landed w u q s n st b (Stay y) f z j h so k = inl (record { stage = h.stage; stands = record { above = []; place = y; is = ap whole z; part = h.leads }; sofar = h.sofar so; known = k; flag = h.flag })
landed w u q s n st b (Mark y c m) f z j h so k = inl (record { stage = h.stage; stands = record { above = []; place = y; is = ap whole z; part = h.leads }; sofar = h.sofar so; known = k; flag = h.flag })
landed w u q s n st b (Enter x y) f z j h so k = inl (record { stage = h.stage; stands = record { above = y ∷ []; place = x; is = ap whole z; part = h.leads }; sofar = h.sofar so; known = k; flag = h.flag })
landed w u q s n st b (StartRun x t) f z j h so k = inl (record { stage = h.stage; stands = record { above = Run t Direct ∷ []; place = x; is = ap whole z; part = h.leads }; sofar = h.sofar so; known = k; flag = h.flag })
landed w u q s n st b Back f z j h so k = inr
    (record {
      back = z;
      ends = λ e. left_so u n h.stage k h.leads (h.sofar so);
      paid = λ d. paid_so u n h.stage h.leads d (h.sofar so);
      refused = λ e. absurd (let c : is_undone h.stage ≡ false = not_undone n h.stage h.leads in let d : is_undone h.stage ≡ true = h.flag ∙ e in cc);
      left = λ e. none_so u n h.stage h.leads (h.sofar so);
    })
landed w u q s n st b (HandBack m) f z j h so k = inr
    (record {
      back = z;
      ends = λ e. absurd (let c : is_undone h.stage ≡ true = ap is_undone ((h.leads).1) in let d : is_undone h.stage ≡ false = h.flag ∙ e in cc);
      paid = λ d. (let c : Sofar u Repaid n = subst (λ v. Sofar u v n) ((h.leads).1) (h.sofar so) in c.none);
      refused = λ e. subst
          (λ v. AllJobs (λ t. (u.job t).at ≡ HandedBack) v) ((h.leads).0) (subst (λ v. AllJobs (λ t. (v t).at ≡ HandedBack) m) (sym j) (handed_all f m));
      left = λ e. absurd (let c : is_undone h.stage ≡ true = ap is_undone ((h.leads).1) in let d : is_undone h.stage ≡ false = h.flag ∙ e in cc);
    })
landed w u q s n st b _ f z j h so k = absurd h.leads

-- what goes on above the call's place
pub climbs : (n : Plan) (st : Stage) (s : Stack) (g : Move) (gs : List Place) (p : Place) → Part n st p → CallStands n st s (after_move g (gs ++ (p ∷ whole s)))
climbs n st s (Stay y) gs p h = record { above = y ∷ gs; place = p; is = refl; part = h }
climbs n st s (HandIn y token) gs p h = record { above = y ∷ gs; place = p; is = refl; part = h }
climbs n st s (Mark y b9 m9) gs p h = record { above = y ∷ gs; place = p; is = refl; part = h }
climbs n st s (Enter x y) gs p h = record { above = y ∷ (x ∷ gs); place = p; is = refl; part = h }
climbs n st s (StartRun x t) gs p h = record { above = Run t Direct ∷ (x ∷ gs); place = p; is = refl; part = h }
climbs n st s Back [] p h = record { above = []; place = p; is = refl; part = h }
climbs n st s Back (b ∷ bs) p h = record { above = b ∷ bs; place = p; is = refl; part = h }
climbs n st s (HandAllBack c) [] p h = record { above = []; place = p; is = refl; part = h }
climbs n st s (HandAllBack c) (b ∷ bs) p h = record { above = b ∷ bs; place = p; is = refl; part = h }
climbs n st s (HandBack m) [] p h = record { above = []; place = p; is = refl; part = h }
climbs n st s (Discard m) [] p h = record { above = []; place = p; is = refl; part = h }
climbs n st s (HandBack m) (b ∷ bs) p h = record { above = b ∷ bs; place = p; is = refl; part = h }
climbs n st s (Discard m) (b ∷ bs) p h = record { above = b ∷ bs; place = p; is = refl; part = h }

-- what each step leaves of a call
abbrev pub Stays : World → Event → Party → Stack → Plan → Bool → World → Type 0
Stays w e q s n r u = step w e ≡ Some u → Ground u → Advance w u → After u q s n (r || is_refusal q s w e)

-- what the step keeps of what is known
keeps_known : (w u : World) (e : Event) → step w e ≡ Some u → (n : Plan) → Known w n → Known u n
keeps_known w u e made n k = known_on w u (let f : IfSome (Some u) (λ v. Carries w v) = subst (λ o. IfSome o (λ v. Carries w v)) made (step_carries w e) in f) n k

-- the party does nothing
idle : (w u : World) (e : Event) (q : Party) (s : Stack) (n : Plan) (r : Bool) → Ground w → Inside w q s n r → u.stack q ≡ w.stack q → is_refusal q s w e ≡ false → Stays w e q s n r u
idle w u e q s n r g i z c made h a = inl (record {
  stage = i.stage;
  stands = subst (λ k. CallStands n i.stage s k) (sym z) i.stands;
  sofar = sofar_on w u e made (g.returns.shares) g.feeders h.returns a n i.known i.stage i.sofar;
  known = keeps_known w u e made n i.known;
  flag = i.flag ∙ or_false r ∙ ap (λ v. r || v) (sym c);
})

-- it makes no act
turned : (w u : World) (e : Event) (q : Party) (s : Stack) (n : Plan) (r : Bool) → Ground w → Inside w q s n r → Turned w u q e → Stays w e q s n r u
turned w u e q s n r g i t made h a =
    let st : Stood u n i.stage s t.to (is_refusal q s w e) = t.stood n i.stage s i.stands in
    let z : u.stack q ≡ t.to = t.stack q ∙ stack_mine w.stack q t.to in
    inl (record {
      stage = st.stage;
      stands = subst (λ k. CallStands n st.stage s k) (sym z) st.stands;
      sofar = st.sofar (sofar_on w u e made (g.returns.shares) g.feeders h.returns a n i.known i.stage i.sofar);
      known = keeps_known w u e made n i.known;
      flag = st.flag ∙ ap (λ v. v || is_refusal q s w e) i.flag;
    })

by_turn : (w u : World) (e : Event) (q : Party) (s : Stack) (n : Plan) (r : Bool) → Ground w → Inside w q s n r → Turned w u (mover e) e → (b : Bool) → same_party q (mover e) ≡ b → Stays w e q s n r u
by_turn w u e q s n r g i t true z = turned w u e q s n r g i (subst (λ v. Turned w u v e) (sym (same_party_true q (mover e) z)) t)
by_turn w u e q s n r g i t false z = idle w u e q s n r g i (t.stack q ∙ stack_other w.stack (mover e) t.to q z) (t.quiet q s z)

whole_body : (k : JobKind) → has_body k ≡ false → is_body k ≡ true
whole_body (WholeOf c o) b = refl
whole_body _ b = cc

-- what a call knows that is to answer
pub knows : (w : World) (q : Party) (x : Place) (fs : List Place) (o : OpenCall) (f : Option Ending) (d : Ending) → w.stack q ≡ record { top = x; below = fs } → Ground w → follows x ≡ Some (Answers o f d) → Knows w o f d
knows w q x fs o f d z g i = record { own = (s.0).target; side = s.1; took = takes_so w g.faults q o f d is; count = λ b. (g.faults.answers q o f d (ap told_of is)).count (whole_body ((w.job o.job).kind) b) }
  where
    is : follows (w.stack q).top ≡ Some (Answers o f d)
    is = ap (λ k. follows k.top) z ∙ i

    s : Opened w q o × FirstEnds w (w.call o.number).first f × SaysTaken w o.job o.number d
    s = follows_says w q (w.stack q).top (Answers o f d) is ((g.calls.says q).top)

-- its act is the call's own
own_act : (w : World) (q : Party) (s : Stack) (n : Plan) (r : Bool) (st : Stage) (x : Place) (fs : List Place) → w.stack q ≡ record { top = x; below = fs } → fs ≡ whole s → Ground w → Part n st x → Sofar w st n → Known w n → is_undone st ≡ r
    → IfSome (outcome w q (record { top = x; below = fs })) (λ z. Stays w (Go q) q s n r (world_after w q x fs z))
own_act w q s n r st x fs z e g p so k fl = if_some_map (λ v. Went w (world_after w q x fs v) n st (is_raise_refused w (act_of q x)) (next_of (w.shape.pool (target_pool q (act_of q x))) q x (v.0))) (λ v. Stays w (Go q) q s n r (world_after w q x fs v)) (λ v h made d a. lands v h made d a)
    (outcome w q (record { top = x; below = fs }))
    (call_goes w q n st x fs (λ o f i c. takes_filled w g.filled q o f (ap (λ v. v.top) z ∙ i) c) (λ o f d i. knows w q x fs o f d z g i) z g.feeders (g.returns.shares) k (subst (λ v. Says w q (v.top)) z ((g.calls.says q).top)) p)
  where
    refuses : is_refusal q s w (Go q) ≡ is_raise_refused w (act_of q x)
    refuses = let a : same_party q q ≡ true = same_party_refl q in let b : is_at_call s (w.stack q) ≡ true = at_call_yes s (w.stack q) (ap (λ v. v.below) z ∙ e) in rw a (rw b (ap (λ v. is_raise_refused w (act_of q v.top)) z))

    lands : (v : Seen × Piece) → Went w (world_after w q x fs v) n st (is_raise_refused w (act_of q x)) (next_of (w.shape.pool (target_pool q (act_of q x))) q x (v.0)) → Stays w (Go q) q s n r (world_after w q x fs v)
    lands v h made d a = subst (λ c. After (world_after w q x fs v) q s n c) (ap (λ c. c || is_raise_refused w (act_of q x)) fl ∙ ap (λ c. r || c) (sym refuses))
        (landed w (world_after w q x fs v) q s n st (is_raise_refused w (act_of q x)) (next_of (w.shape.pool (target_pool q (act_of q x))) q x (v.0)) (put w.job (job_at w q (act_of q x)) (v.1.job))
        (stack_mine w.stack q (after_move (next_of (w.shape.pool (target_pool q (act_of q x))) q x (v.0)) fs) ∙ ap (λ c. after_move (next_of (w.shape.pool (target_pool q (act_of q x))) q x (v.0)) c) e) refl h
        (sofar_on w (world_after w q x fs v) (Go q) made (g.returns.shares) g.feeders d.returns a n k st so) (keeps_known w (world_after w q x fs v) (Go q) made n k))

-- its act is of what runs inside the call
inner_act : (w : World) (q : Party) (s : Stack) (n : Plan) (r : Bool) (st : Stage) (x : Place) (fs gs : List Place) (p : Place) → w.stack q ≡ record { top = x; below = fs } → fs ≡ gs ++ (p ∷ whole s) → Ground w → Part n st p → Sofar w st n → Known w n → is_undone st ≡ r
    → (v : Seen × Piece) → Stays w (Go q) q s n r (world_after w q x fs v)
inner_act w q s n r st x fs gs p z e g h so k fl v made d a =
    let move : Move = next_of (w.shape.pool (target_pool q (act_of q x))) q x (v.0) in
    let refuses : is_refusal q s w (Go q) ≡ false = (let b : same_party q q ≡ true = same_party_refl q in let c : is_at_call s (w.stack q) ≡ false = at_call_no s (w.stack q) gs p (ap (λ y. y.below) z ∙ e) in rw b (rw c refl)) in
    inl (record {
      stage = st;
      stands = subst (λ y. CallStands n st s y) (sym (stack_mine w.stack q (after_move move fs) ∙ ap (λ y. after_move move y) e)) (climbs n st s move gs p h);
      sofar = sofar_on w (world_after w q x fs v) (Go q) made (g.returns.shares) g.feeders d.returns a n k st so;
      known = keeps_known w (world_after w q x fs v) (Go q) made n k;
      flag = fl ∙ or_false r ∙ ap (λ y. r || y) (sym refuses);
    })

party_act : (w : World) (q : Party) (s : Stack) (n : Plan) (r : Bool) (st : Stage) (x : Place) (fs above : List Place) (p : Place) → w.stack q ≡ record { top = x; below = fs } → x ∷ fs ≡ above ++ (p ∷ whole s) → Ground w → Part n st p → Sofar w st n → Known w n → is_undone st ≡ r
    → IfSome (outcome w q (record { top = x; below = fs })) (λ v. Stays w (Go q) q s n r (world_after w q x fs v))
party_act w q s n r st x fs [] p z e g h so k fl = own_act w q s n r st x fs z (let a : fs ≡ whole s = cc in a) g (let a : x ≡ p = cc in subst (λ v. Part n st v) (sym a) h) so k fl
party_act w q s n r st x fs (b ∷ gs) p z e g h so k fl = if_some_all (λ v. Stays w (Go q) q s n r (world_after w q x fs v)) (λ v. inner_act w q s n r st x fs gs p z (let a : fs ≡ gs ++ (p ∷ whole s) = cc in a) g h so k fl v) (outcome w q (record { top = x; below = fs }))

go_by : (w : World) (g : Party) (q : Party) (s : Stack) (n : Plan) (r : Bool) → Ground w → Inside w q s n r → (b : Bool) → same_party q g ≡ b → IfSome (step w (Go g)) (Stays w (Go g) q s n r)
go_by w g q s n r d i true z = subst (λ v. IfSome (step w (Go v)) (Stays w (Go v) q s n r)) (same_party_true q g z)
    (go_all (Stays w (Go q) q s n r) w q (party_act w q s n r i.stage ((w.stack q).top) ((w.stack q).below) i.stands.above i.stands.place refl i.stands.is d i.stands.part i.sofar i.known i.flag))
go_by w g q s n r d i false z = go_all (Stays w (Go g) q s n r) w g
    (if_some_all (λ v. Stays w (Go g) q s n r (result w g (w.stack g) v)) (λ v. idle w (result w g (w.stack g) v) (Go g) q s n r d i (stack_other w.stack g (after_move (next_of (w.shape.pool (target_pool g (act_of g ((w.stack g).top)))) g ((w.stack g).top) (v.0)) ((w.stack g).below)) q z)
    (ap (λ c. c && (is_at_call s (w.stack q) && is_raise_refused w (act_of q ((w.stack q).top)))) z)) (outcome w g (w.stack g)))

-- a call goes on, or it is over
pub step_stays : (w : World) (e : Event) (q : Party) (s : Stack) (n : Plan) (r : Bool) → Ground w → Inside w q s n r → IfSome (step w e) (Stays w e q s n r)
step_stays w (Go g) q s n r d i = go_by w g q s n r d i (same_party q g) refl
step_stays w e q s n r d i = if_some_map (λ u. Turned w u (mover e) e) (Stays w e q s n r) (λ u t. by_turn w u e q s n r d i t (same_party q (mover e)) refl) (step w e) (turns w e refl)
