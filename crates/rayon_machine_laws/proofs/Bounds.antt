-- each piece of a broadcast stands for its own worker alone, and no other worker takes or runs it
--
-- `BoundsHold` says: a piece is a detached job, and stands where its own worker alone may have it (`is_own_place`,
-- specs/Once). What a call queues else is bound to no worker (`MadeAs`).
use Rattle.rayon_machine_runs.specs.declared.state.Scope.{Scope}
use Rattle.rayon_machine_places.specs.declared.place.Gathering.{Gathering}
use Rattle.rayon_machine_places.specs.declared.place.Count.TheVariants.{OfPool, OfScope, OfCast}
use Rattle.rayon_machine_places.specs.declared.place.Count.{Count}
use Rattle.std.proofs.Common.{arith, refl, sym, ◌∙◌, ap, subst, inl, inr}
use Rattle.std.specs.Prelude.{ℕ, Bool, true, false, ◌&&◌, ◌+◌, ◌-◌, ◌==◌, nat_lt, if◌then◌else◌, Option, Some, None, List, [], ◌∷◌, ◌≡◌, IfSome, ⊤, ◌⊎◌}
use Rattle.std.proofs.lemmas.Bool.{eqb-true, eq-eqb}
use Rattle.rayon_machine_places.specs.declared.shape.Order.{Order}
use Rattle.rayon_machine_places.specs.declared.place.Party.{Party}
use Rattle.rayon_machine_places.specs.declared.place.Party.TheVariants.{Worker, Caller}
use Rattle.rayon_machine_places.specs.declared.place.Pieces.{Pieces}
use Rattle.rayon_machine_places.specs.declared.place.Ending.{Ending}
use Rattle.rayon_machine_places.specs.declared.place.JobKind.TheVariants.{Detached, Stored, Direct, Scoped, TokenOf, BodyOf}
use Rattle.rayon_machine_places.specs.declared.place.Mark.TheVariants.{Counted, Queued, Returned, Numbered, Dealt, Unnumbered}
use Rattle.rayon_machine_places.specs.declared.place.Mark.{Mark as Marking}
use Rattle.rayon_machine_places.specs.declared.place.Plan.{Plan}
use Rattle.rayon_machine_places.specs.declared.place.Plan.TheVariants.{Detach, Here, Send, Fork, Feed, Open, Enter, Gather}
use Rattle.rayon_machine_places.specs.declared.place.Taken.TheVariants.{Plain, Token}
use Rattle.rayon_machine_places.specs.declared.place.Place.{Place}
use Rattle.rayon_machine_places.specs.declared.place.Place.TheVariants.{PopWorking, TakeCastWorking, PopIdle, TakeCastIdle, StealFrom, PopInjected, JoinPop, JoinTakeCast, YieldPop, YieldTakeCast, YieldSteal, YieldPopInjected, LocalPop, LocalTakeCast, BeginTask, BeginHere, PushJob, PushToken, AddToFifo, TakeFromFifo, PushForAll, PickVictim, YieldPick, Run, DealPieces}
use Rattle.rayon_machine_places.specs.declared.place.Move.{Move}
use Rattle.rayon_machine_places.specs.declared.place.Move.TheVariants.{Stay, Enter, StartRun, Back, HandBack, Discard, HandIn, Mark, HandAllBack}
use Rattle.rayon_machine_places.specs.declared.act.Act.TheVariants.{PushInj, PushOwn}
use Rattle.rayon_machine_places.specs.declared.act.Seen.{Seen}
use Rattle.rayon_machine_places.specs.declared.act.Seen.TheVariants.{Done, Missing}
use Rattle.rayon_machine_runs.specs.declared.event.Event.{Event}
use Rattle.rayon_machine_runs.specs.declared.event.Event.TheVariants.{Go, From, Refuse, Miss, End, Spawn, Fifo, Cast, Install, Join, Scope as OpenScope, IntoSpawn, Yield, YieldLocal, EndPool, IntoFifo, IntoCast, Broadcast}
use Rattle.rayon_machine_runs.specs.declared.state.Whereabouts.{Whereabouts}
use Rattle.rayon_machine_runs.specs.declared.state.Whereabouts.TheVariants.{Made, InDeque, Injected, InFifo, InCast, Retaken, Running, Over, HandedBack, Spent}
use Rattle.rayon_machine_runs.specs.declared.state.Job.{Job}
use Rattle.rayon_machine_places.specs.Places.{same_party, is_member, is_free, is_refusable, plan_book, plan_job, plan_pool, act_of, next_of, own_pool, own_index, count_book, count_kind}
use Rattle.rayon_machine_runs.specs.World.{Shape, Stack, World, Part, counts_at, effect, at_job, begun, popped, take_cast, pop_injector, own_of, own_left, head_of, last_of, but_first, but_last, is_open}
use Rattle.rayon_machine_places.specs.Sleepers.{Counts}
use Rattle.rayon_machine_places.specs.Targets.{target_pool, target_worker, target_call, or_none}
use Rattle.rayon_machine_runs.specs.Steps.{put, part_of, jobs_after, is_piece, mark_pieces, marked, put_pieces, new_piece, new_job, after_choice, after_miss, after_end, after_spawn, after_cast, after_send, after_install, after_join, after_scope, after_into, after_yield, can_miss, holds, is_pool, step, after_deal, after_feed, after_broadcast, after_into_fifo, after_into_cast, after_enter, new_whole}
use Rattle.rayon_machine_runs.specs.Runs.{IsRun, start}
use Rattle.rayon_machine_laws.specs.Once.{IsOnce, IsBound, is_own_place, in_deque, in_injector, in_fifo, in_cast, is_with, one, times, held, held_in}
use Rattle.rayon_machine_laws.proofs.Frame.{and_parts, fifo_cases, into_cases, if_cond, if_some_and, if_some_map, acted_keeps, out_sees, undo_sees, put_same, same_index, same_party_true, after_kind, after_bound, into_fifo_cases, into_cast_cases}
use Rattle.rayon_machine_laws.proofs.Ties.{job_at, outcome, result}
use Rattle.rayon_machine_laws.proofs.Events.{run_keeps}
use Rattle.rayon_machine_laws.proofs.Lists.{SameJobs, moves_no_job, quiet_same, times_first, times_own, times_drop}
use Rattle.rayon_machine_laws.proofs.Located.{is_left}
use Rattle.rayon_machine_laws.proofs.Placed.{outcome_of}
use Rattle.rayon_machine_laws.proofs.PlacedEvents.{is_dealing, no_deals}
use Rattle.rayon_machine_laws.proofs.PlacedRuns.{once}
use Rattle.rayon_machine_laws.proofs.Claims.{call_undetached, Says, SaysPlan, SaysPieces, queue_plan, is_detached, counts_detached}
use Rattle.rayon_machine_laws.proofs.Later.{Static, act_static}
use Rattle.rayon_machine_laws.proofs.ClaimRuns.{world_after, place_part}
use Rattle.rayon_machine_laws.proofs.Stocked.{one_set}
use Rattle.rayon_machine_laws.proofs.ShareActs.{SharesHold}
use Rattle.rayon_machine_laws.proofs.ShareRuns.{StartsAwaited}
use Rattle.rayon_machine_laws.proofs.ShareSteps.{Ready}
use Rattle.rayon_machine_laws.proofs.ShareEvents.{ready}
use Rattle.rayon_machine_laws.proofs.ShareEnds.{step_shares, first_shares}

-- a piece is a detached job, and stands where its worker alone may have it
pub record BoundsHold (w : World) : Type 0 where
  pub shares : SharesHold w
  pub kind : (t i : ℕ) → (w.job t).bound ≡ Some i → is_detached (w.job t).kind ≡ true
  pub own : IsBound w

-- an act leaves a piece where its worker alone may have it
abbrev Moves : Part → Seen × Part → Type 0
Moves m r = (i : ℕ) → m.job.bound ≡ Some i → is_detached m.job.kind ≡ true → is_own_place m.job.pool i m.job.at ≡ true → is_own_place m.job.pool i r.1.job.at ≡ true

same_moves : (m : Part) (r : Seen × Part) → r.1.job.at ≡ m.job.at → Moves m r
same_moves m r e i b k y = ap (is_own_place m.job.pool i) e ∙ y

-- a list of which a piece is never
abbrev Shut : Whereabouts → Type 0
Shut v = (p i : ℕ) → is_own_place p i v ≡ false

shut_none : {A : Type 0} (m : Part) → Shut m.job.at → (i : ℕ) → is_own_place m.job.pool i m.job.at ≡ true → A
shut_none m s i y = absurd (let a : is_own_place m.job.pool i m.job.at ≡ false = s m.job.pool i in let c : true ≡ false = sym y ∙ a in cc)

free_none : {A : Type 0} (m : Part) → m.job.bound ≡ None → (i : ℕ) → m.job.bound ≡ Some i → A
free_none m s i b = absurd (let c : Some i ≡ None = sym b ∙ s in cc)

other_none : {A : Type 0} (m : Part) → is_detached m.job.kind ≡ false → is_detached m.job.kind ≡ true → A
other_none m s k = absurd (let c : true ≡ false = sym k ∙ s in cc)

deck_shut : (r j : ℕ) (v : Whereabouts) → in_deque r j v ≡ true → Shut v
deck_shut r j (InDeque a b) e p i = refl
deck_shut r j _ e p i = absurd (cc)

inj_shut : (r : ℕ) (v : Whereabouts) → in_injector r v ≡ true → Shut v
inj_shut r (Injected a) e p i = refl
inj_shut r _ e p i = absurd (cc)

fifo_shut : (r j : ℕ) (b : Option ℕ) (v : Whereabouts) → in_fifo r j b v ≡ true → Shut v
fifo_shut r j b (InFifo a k d) e p i = refl
fifo_shut r j b _ e p i = absurd (cc)

cast_own : (r j p i : ℕ) (v : Whereabouts) → in_cast r j v ≡ true → is_own_place p i v ≡ true → is_own_place p i (Running (Worker r j)) ≡ true
cast_own r j p i (InCast a b) e y = let k : (r ≡ a) × (j ≡ b) = same_index r j a b e in ap (λ n. (p == n) && (i == j)) (k.0) ∙ ap (λ n. (p == a) && (i == n)) (k.1) ∙ y
cast_own r j p i _ e y = absurd (cc)

-- what stands in a list, its record says to be there
pub own_at : (w : World) → IsOnce w → (b : Order) (a i t : ℕ) → own_of b (w.seat a i).own ≡ Some t → in_deque a i (w.job (or_none (own_of b (w.seat a i).own))).at ≡ true
own_at w h b a i t e = subst (λ o. in_deque a i (w.job (or_none o)).at ≡ true) (sym e) (one_set (in_deque a i (w.job t).at)
    (let d : times t (w.seat a i).own ≡ one (in_deque a i (w.job t).at) = h.deque a i t in let k : times t (w.seat a i).own ≡ (one (t == t) + times t (own_left b (w.seat a i).own)) = times_own b ((w.seat a i).own) t t e in let c : one (t == t) ≡ 1 = ap one (eq-eqb t t refl) in omega
    (arith, d, k, c)))

own_in : (w : World) → IsOnce w → (b : Order) (a i t : ℕ) → own_of b (w.seat a i).own ≡ Some t → Shut (w.job (or_none (own_of b (w.seat a i).own))).at
own_in w h b a i t e = deck_shut a i (w.job (or_none (own_of b (w.seat a i).own))).at (own_at w h b a i t e)

pub head_at : (w : World) → IsOnce w → (a i t : ℕ) → head_of (w.seat a i).own ≡ Some t → in_deque a i (w.job (or_none (head_of (w.seat a i).own))).at ≡ true
head_at w h a i t e = subst (λ o. in_deque a i (w.job (or_none o)).at ≡ true) (sym e) (one_set (in_deque a i (w.job t).at)
    (let d : times t (w.seat a i).own ≡ one (in_deque a i (w.job t).at) = h.deque a i t in let k : times t (w.seat a i).own ≡ (one (t == t) + times t (but_first (w.seat a i).own)) = times_first ((w.seat a i).own) t t e in let c : one (t == t) ≡ 1 = ap one (eq-eqb t t refl) in omega
    (arith, d, k, c)))

head_in : (w : World) → IsOnce w → (a i t : ℕ) → head_of (w.seat a i).own ≡ Some t → Shut (w.job (or_none (head_of (w.seat a i).own))).at
head_in w h a i t e = deck_shut a i (w.job (or_none (head_of (w.seat a i).own))).at (head_at w h a i t e)

pub inj_at : (w : World) → IsOnce w → (a t : ℕ) → head_of (w.pool a).injector ≡ Some t → in_injector a (w.job (or_none (head_of (w.pool a).injector))).at ≡ true
inj_at w h a t e = subst (λ o. in_injector a (w.job (or_none o)).at ≡ true) (sym e) (one_set (in_injector a (w.job t).at)
    (let d : times t (w.pool a).injector ≡ one (in_injector a (w.job t).at) = h.injector a t in let k : times t (w.pool a).injector ≡ (one (t == t) + times t (but_first (w.pool a).injector)) = times_first ((w.pool a).injector) t t e in let c : one (t == t) ≡ 1 = ap one
    (eq-eqb t t refl) in omega (arith, d, k, c)))

inj_in : (w : World) → IsOnce w → (a t : ℕ) → head_of (w.pool a).injector ≡ Some t → Shut (w.job (or_none (head_of (w.pool a).injector))).at
inj_in w h a t e = inj_shut a (w.job (or_none (head_of (w.pool a).injector))).at (inj_at w h a t e)

pub first_at : (w : World) → IsOnce w → (a i : ℕ) (b : Option ℕ) (t : ℕ) → head_of ((w.seat a i).fifo b) ≡ Some t → in_fifo a i b (w.job (or_none (head_of ((w.seat a i).fifo b)))).at ≡ true
first_at w h a i b t e = subst (λ o. in_fifo a i b (w.job (or_none o)).at ≡ true) (sym e) (one_set (in_fifo a i b (w.job t).at)
    (let d : times t ((w.seat a i).fifo b) ≡ one (in_fifo a i b (w.job t).at) = h.fifo a i b t in let k : times t ((w.seat a i).fifo b) ≡ (one (t == t) + times t (but_first ((w.seat a i).fifo b))) = times_first ((w.seat a i).fifo b) t t e in let c : one (t == t) ≡ 1 = ap one
    (eq-eqb t t refl) in omega (arith, d, k, c)))

first_in : (w : World) → IsOnce w → (a i : ℕ) (b : Option ℕ) (t : ℕ) → head_of ((w.seat a i).fifo b) ≡ Some t → Shut (w.job (or_none (head_of ((w.seat a i).fifo b)))).at
first_in w h a i b t e = fifo_shut a i b (w.job (or_none (head_of ((w.seat a i).fifo b)))).at (first_at w h a i b t e)

pub last_at : (w : World) → IsOnce w → (a i : ℕ) (b : Option ℕ) (t : ℕ) → last_of ((w.seat a i).fifo b) ≡ Some t → in_fifo a i b (w.job (or_none (last_of ((w.seat a i).fifo b)))).at ≡ true
last_at w h a i b t e = subst (λ o. in_fifo a i b (w.job (or_none o)).at ≡ true) (sym e) (one_set (in_fifo a i b (w.job t).at)
    (let d : times t ((w.seat a i).fifo b) ≡ one (in_fifo a i b (w.job t).at) = h.fifo a i b t in let k : times t ((w.seat a i).fifo b) ≡ (one (t == t) + times t (but_last ((w.seat a i).fifo b))) = times_drop ((w.seat a i).fifo b) t t e in let c : one (t == t) ≡ 1 = ap one
    (eq-eqb t t refl) in omega (arith, d, k, c)))

last_in : (w : World) → IsOnce w → (a i : ℕ) (b : Option ℕ) (t : ℕ) → last_of ((w.seat a i).fifo b) ≡ Some t → Shut (w.job (or_none (last_of ((w.seat a i).fifo b)))).at
last_in w h a i b t e = fifo_shut a i b (w.job (or_none (last_of ((w.seat a i).fifo b)))).at (last_at w h a i b t e)

pub cast_in : (w : World) → IsOnce w → (a i t : ℕ) → head_of ((w.pool a).casts i) ≡ Some t → in_cast a i (w.job (or_none (head_of ((w.pool a).casts i)))).at ≡ true
cast_in w h a i t e = subst (λ o. in_cast a i (w.job (or_none o)).at ≡ true) (sym e) (one_set (in_cast a i (w.job t).at)
    (let d : times t ((w.pool a).casts i) ≡ one (in_cast a i (w.job t).at) = h.cast a i t in let k : times t ((w.pool a).casts i) ≡ (one (t == t) + times t (but_first ((w.pool a).casts i))) = times_first ((w.pool a).casts i) t t e in let c : one (t == t) ≡ 1 = ap one
    (eq-eqb t t refl) in omega (arith, d, k, c)))

pop_moves : (q : Party) (m : Part) (rest : List ℕ) (o : Option ℕ) → ((t : ℕ) → o ≡ Some t → Shut m.job.at) → IfSome (popped q m rest o) (Moves m)
pop_moves q m rest None f = same_moves m (Missing, m) refl
pop_moves q m rest (Some t) f = λ i b k y. shut_none m (f t refl) i y

inj_moves : (q : Party) (m : Part) (l : List ℕ) → ((t : ℕ) → head_of l ≡ Some t → Shut m.job.at) → IfSome (pop_injector q m l) (Moves m)
inj_moves q m [] f = same_moves m (Missing, m) refl
inj_moves q m (t ∷ ts) f = λ i b k y. shut_none m (f t refl) i y

cast_moves : (a b : ℕ) (m : Part) (l : List ℕ) → ((t : ℕ) → head_of l ≡ Some t → in_cast a b m.job.at ≡ true) → IfSome (take_cast (Worker a b) m l) (Moves m)
cast_moves a b m [] f = same_moves m (Missing, m) refl
cast_moves a b m (t ∷ ts) f = λ i e k y. cast_own a b m.job.pool i m.job.at (f t refl) y

-- what a party begins it has already
begin_own : (q : Party) (p i : ℕ) (v : Whereabouts) (n : ℕ) → is_left v ≡ true → (is_with q v && (n == 0)) ≡ true → is_own_place p i v ≡ true → is_own_place p i (Running q) ≡ true
begin_own q p i (Running r) n l e y = let a : same_party q r ≡ true = (and_parts (same_party q r) (n == 0) e).0 in ap (same_party (Worker p i)) (same_party_true q r a) ∙ y
begin_own q p i (Made r) n l e y = absurd (cc)
begin_own q p i (Retaken r) n l e y = absurd (cc)
begin_own q p i _ n l e y = absurd (cc)

plan_none : {A : Type 0} (w : World) (q : Party) (n : Plan) (m : Part) → m.job ≡ w.job (plan_job n) → SaysPlan w q n → (i : ℕ) → m.job.bound ≡ Some i → is_detached m.job.kind ≡ true → A
plan_none w q (Detach p t) m e s i b k = free_none m (ap (λ j. j.bound) e ∙ s.bound) i b
plan_none w q (Here p t) m e s i b k = free_none m (ap (λ j. j.bound) e ∙ s.bound) i b
plan_none w q (Feed f) m e s i b k = free_none m (ap (λ j. j.bound) e ∙ (s.0).bound) i b
plan_none w q (Send o) m e s i b k = other_none m (ap (λ j. is_detached (j.kind)) e ∙ call_undetached ((w.job o.job).kind) (o.number, q) ((s.0).kind)) k
plan_none w q (Open o) m e s i b k = other_none m (ap (λ j. is_detached (j.kind)) e ∙ call_undetached ((w.job o.job).kind) (o.number, q) ((s.0).kind)) k
plan_none w q (Enter x) m e s i b k = free_none m (ap (λ j. j.bound) e ∙ (s.0).bound) i b
plan_none w q (Gather g) m e s i b k = other_none m (ap (λ j. is_detached (j.kind)) e ∙ ap is_detached (s.whole)) k
plan_none w q (Fork o a) m e s i b k = other_none m (ap (λ j. is_detached (j.kind)) e ∙ call_undetached ((w.job o.job).kind) (o.number, q) ((s.0).kind)) k

push_moves : (w : World) (q : Party) (n : Plan) (z : Bool) → SaysPlan w q n → IfSome (outcome_of w q (if z then PushOwn (plan_job n) (plan_book n) else PushInj (plan_pool n) (plan_job n) (plan_book n))) (Moves (part_of w (target_pool q (if z then PushOwn (plan_job n) (plan_book n) else PushInj (plan_pool n) (plan_job n) (plan_book n))) (target_worker q (if z then PushOwn (plan_job n) (plan_book n) else PushInj (plan_pool n) (plan_job n) (plan_book n))) (target_call (if z then PushOwn (plan_job n) (plan_book n) else PushInj (plan_pool n) (plan_job n) (plan_book n))) (job_at w q (if z then PushOwn (plan_job n) (plan_book n) else PushInj (plan_pool n) (plan_job n) (plan_book n)))))
push_moves w q n true s = λ i b k y. plan_none w q n (part_of w (own_pool q) (own_index q) (or_none (plan_book n)) (plan_job n)) refl s i b k
push_moves w q n false s = λ i b k y. plan_none w q n (part_of w (plan_pool n) (own_index q) (or_none (plan_book n)) (plan_job n)) refl s i b k

quiet_moves : (h : Shape) (q : Party) (c : Counts) (m : Part) (x : Place) → moves_no_job x ≡ true → IfSome (effect (act_of q x) h q c m) (Moves m)
quiet_moves h q c m x z = if_some_map (SameJobs m) (Moves m) (λ r s. same_moves m r (s.at)) (effect (act_of q x) h q c m) (quiet_same h q c m x z)

act_moves : (w : World) (q : Party) (x : Place) (fs : List Place) → w.stack q ≡ record { top = x; below = fs } → IsOnce w → Says w q x → IfSome (effect (act_of q x) w.shape q (counts_at w (target_pool q (act_of q x))) (place_part w q x)) (Moves (place_part w q x))
act_moves w (Worker a b) (PopWorking k) fs z h s = pop_moves (Worker a b) (place_part w (Worker a b) (PopWorking k)) _ _ (λ t e. own_in w h ((w.shape.pool a).order) a b t e)
act_moves w (Caller c) (PopWorking k) fs z h s = tt
act_moves w (Worker a b) (PopIdle k) fs z h s = pop_moves (Worker a b) (place_part w (Worker a b) (PopIdle k)) _ _ (λ t e. own_in w h ((w.shape.pool a).order) a b t e)
act_moves w (Caller c) (PopIdle k) fs z h s = tt
act_moves w (Worker a b) (JoinPop o) fs z h s = pop_moves (Worker a b) (place_part w (Worker a b) (JoinPop o)) _ _ (λ t e. own_in w h ((w.shape.pool a).order) a b t e)
act_moves w (Caller c) (JoinPop o) fs z h s = tt
act_moves w (Worker a b) YieldPop fs z h s = pop_moves (Worker a b) (place_part w (Worker a b) YieldPop) _ _ (λ t e. own_in w h ((w.shape.pool a).order) a b t e)
act_moves w (Caller c) YieldPop fs z h s = tt
act_moves w (Worker a b) LocalPop fs z h s = pop_moves (Worker a b) (place_part w (Worker a b) LocalPop) _ _ (λ t e. own_in w h ((w.shape.pool a).order) a b t e)
act_moves w (Caller c) LocalPop fs z h s = tt
act_moves w (Worker a b) (StealFrom k n) fs z h s = pop_moves (Worker a b) (place_part w (Worker a b) (StealFrom k n)) _ _ (λ t e. head_in w h a (k.victim) t e)
act_moves w (Caller c) (StealFrom k n) fs z h s = tt
act_moves w (Worker a b) (YieldSteal v n) fs z h s = pop_moves (Worker a b) (place_part w (Worker a b) (YieldSteal v n)) _ _ (λ t e. head_in w h a v t e)
act_moves w (Caller c) (YieldSteal v n) fs z h s = tt
act_moves w (Worker a b) (PopInjected k) fs z h s = inj_moves (Worker a b) (place_part w (Worker a b) (PopInjected k)) _ (λ t e. inj_in w h a t e)
act_moves w (Caller c) (PopInjected k) fs z h s = tt
act_moves w (Worker a b) YieldPopInjected fs z h s = inj_moves (Worker a b) (place_part w (Worker a b) YieldPopInjected) _ (λ t e. inj_in w h a t e)
act_moves w (Caller c) YieldPopInjected fs z h s = tt
act_moves w (Worker a b) (TakeCastWorking k) fs z h s = cast_moves a b (place_part w (Worker a b) (TakeCastWorking k)) _ (λ t e. cast_in w h a b t e)
act_moves w (Caller c) (TakeCastWorking k) fs z h s = tt
act_moves w (Worker a b) (TakeCastIdle k) fs z h s = cast_moves a b (place_part w (Worker a b) (TakeCastIdle k)) _ (λ t e. cast_in w h a b t e)
act_moves w (Caller c) (TakeCastIdle k) fs z h s = tt
act_moves w (Worker a b) (JoinTakeCast o) fs z h s = cast_moves a b (place_part w (Worker a b) (JoinTakeCast o)) _ (λ t e. cast_in w h a b t e)
act_moves w (Caller c) (JoinTakeCast o) fs z h s = tt
act_moves w (Worker a b) YieldTakeCast fs z h s = cast_moves a b (place_part w (Worker a b) YieldTakeCast) _ (λ t e. cast_in w h a b t e)
act_moves w (Caller c) YieldTakeCast fs z h s = tt
act_moves w (Worker a b) LocalTakeCast fs z h s = cast_moves a b (place_part w (Worker a b) LocalTakeCast) _ (λ t e. cast_in w h a b t e)
act_moves w (Caller c) LocalTakeCast fs z h s = tt
act_moves w q (BeginTask (Plain t)) fs z h s = λ i b k y. begin_own q (w.job t).pool i (w.job t).at (w.job t).runs s (one_set (is_with q (w.job t).at && ((w.job t).runs == 0))
    (let a : held t (w.stack q) ≡ one (is_with q (w.job t).at && ((w.job t).runs == 0)) = h.hand q t in let c : held t (w.stack q) ≡ (one (t == t) + held_in t fs) = ap (held t) z in let d : one (t == t) ≡ 1 = ap one (eq-eqb t t refl) in omega (arith, a, c, d))) y
act_moves w (Worker a b) (BeginTask (Token k i b8)) fs z h s = out_sees (Moves (place_part w (Worker a b) (BeginTask (Token k i b8)))) (Worker a b) (place_part w (Worker a b) (BeginTask (Token k i b8))) b8 (λ i b k y. y)
    (λ u us e j c d y. shut_none (place_part w (Worker a b) (BeginTask (Token k i b8))) (first_in w h a i b8 u (ap head_of e)) j y)
act_moves w (Caller c) (BeginTask (Token k i b8)) fs z h s = out_sees (Moves (place_part w (Caller c) (BeginTask (Token k i b8)))) (Caller c) (place_part w (Caller c) (BeginTask (Token k i b8))) b8 (λ i b k y. y)
    (λ u us e j d n y. shut_none (place_part w (Caller c) (BeginTask (Token k i b8))) (first_in w h 0 i b8 u (ap head_of e)) j y)
act_moves w (Worker a b) (PushToken f v) fs z h s = λ i c d y. free_none (place_part w (Worker a b) (PushToken f v)) ((s.1).bound) i c
act_moves w (Caller c) (PushToken f v) fs z h s = tt
act_moves w (Worker a b) (AddToFifo f) fs z h s = if_cond (Moves (place_part w (Worker a b) (AddToFifo f))) (is_open (Worker a b) ((w.seat a b).feeder (count_book f.count))) _ (λ o i c d y. free_none (place_part w (Worker a b) (AddToFifo f)) ((s.0).bound) i c)
act_moves w (Caller c) (AddToFifo f) fs z h s = tt
act_moves w (Worker a b) (TakeFromFifo f) fs z h s = undo_sees (Moves (place_part w (Worker a b) (TakeFromFifo f))) (Worker a b) (place_part w (Worker a b) (TakeFromFifo f)) (count_book f.count) (λ i b k y. y)
    (λ u e j c d y. shut_none (place_part w (Worker a b) (TakeFromFifo f)) (last_in w h a b (count_book f.count) u e) j y)
act_moves w (Caller c) (TakeFromFifo f) fs z h s = tt
act_moves w q (BeginHere t) fs z h s = λ i b k y. other_none (place_part w q (BeginHere t)) (s.kind) k
act_moves w q (PushForAll c) fs z h s = λ i b k y. y
act_moves w q (DealPieces g) fs z h s = λ i b k y. y
act_moves w q (PushJob n v) fs z h s = push_moves w q n (is_member q (plan_pool n)) (queue_plan w q n s)
act_moves w q x fs z h s = quiet_moves w.shape q (counts_at w (target_pool q (act_of q x))) (place_part w q x) x refl

-- what a move says of the jobs that it begins or deals
abbrev pub Good : (ℕ → Job) → Move → Type 0
Good J (StartRun f a) = is_detached (J a).kind ≡ false
Good J (Mark y c Queued) = (t : ℕ) → is_piece c t ≡ true → ((J t).pool ≡ c.pool) × ((J t).bound ≡ Some (t - c.first))
Good J (Mark y c Dealt) = (t : ℕ) → is_piece c t ≡ true → ((J t).pool ≡ c.pool) × ((J t).bound ≡ Some (t - c.first))
Good J _ = ⊤

good_move : (w : World) (J : ℕ → Job) (g : Move) → ((t : ℕ) → (J t).kind ≡ (w.job t).kind) → StartsAwaited w g → is_dealing g ≡ false → Good J g
good_move w J (StartRun f a) k s d = ap is_detached (k a) ∙ s
good_move w J (Mark y c Queued) k s d = cc
good_move w J (Mark y c Dealt) k s d = cc
good_move w J _ k s d = tt

-- a job's own place, by its record
abbrev Own : Job → ℕ → Type 0
Own j i = is_own_place j.pool i j.at ≡ true

back_own : (J : ℕ → Job) (n t i : ℕ) → Own (J t) i → Own (put J n (at_job (J n) HandedBack) t) i
back_own J n t i y = by (t == n)
  where
    by : (b : Bool) → Own (if b then at_job (J n) HandedBack else J t) i
    by true = refl
    by false = y

spent_own : (J : ℕ → Job) (n t i : ℕ) → Own (J t) i → Own (put J n (at_job (J n) Spent) t) i
spent_own J n t i y = by (t == n)
  where
    by : (b : Bool) → Own (if b then at_job (J n) Spent else J t) i
    by true = refl
    by false = y

two_own : (J : ℕ → Job) (n m t i : ℕ) → Own (J t) i → Own (put (put J n (at_job (J n) HandedBack)) m (at_job (J m) HandedBack) t) i
two_own J n m t i y = by (t == m)
  where
    by : (b : Bool) → Own (if b then at_job (J m) HandedBack else put J n (at_job (J n) HandedBack) t) i
    by true = refl
    by false = back_own J n t i y

-- pieces come into their lists
abbrev deals : Marking → Bool
deals Queued = true
deals Dealt = true
deals _ = false

pieces_own : (c : Pieces) (k : Marking) (J : ℕ → Job) (t i : ℕ) → (deals k ≡ true → is_piece c t ≡ true → ((J t).pool ≡ c.pool) × ((J t).bound ≡ Some (t - c.first))) → (J t).bound ≡ Some i → Own (J t) i → Own (mark_pieces c k J t) i
pieces_own c k J t i d b y = by (is_piece c t) refl
  where
    dealt : ((J t).pool ≡ c.pool) × ((J t).bound ≡ Some (t - c.first)) → is_own_place (J t).pool i (InCast c.pool (t - c.first)) ≡ true
    dealt p = let e : i ≡ t - c.first = (let f : Some i ≡ Some (t - c.first) = sym b ∙ p.1 in let g : i ≡ t - c.first = cc in g) in ap (λ n. ((J t).pool == c.pool) && n) (eq-eqb i (t - c.first) e) ∙ ap (λ n. n && true) (eq-eqb ((J t).pool) c.pool (p.0))

    each : (k : Marking) → (deals k ≡ true → ((J t).pool ≡ c.pool) × ((J t).bound ≡ Some (t - c.first))) → Own (marked k c.pool (t - c.first) (J t)) i
    each Counted d = y
    each (Numbered n) d = y
    each Unnumbered d = y
    each Returned d = refl
    each Queued d = dealt (d refl)
    each Dealt d = dealt (d refl)

    by : (z : Bool) → is_piece c t ≡ z → Own (if z then marked k c.pool (t - c.first) (J t) else J t) i
    by true e = each k (λ z. d z e)
    by false e = y

after_own : (q : Party) (g : Move) (J : ℕ → Job) (t i : ℕ) → Good J g → (J t).bound ≡ Some i → is_detached (J t).kind ≡ true → Own (J t) i → Own (jobs_after q g J t) i
after_own q (Stay y) J t i g b k o = o
after_own q (HandIn y n) J t i g b k o = spent_own J n t i o
after_own q (Discard n) J t i g b k o = spent_own J n t i o
after_own q (Enter f y) J t i g b k o = o
after_own q Back J t i g b k o = o
after_own q (StartRun f a) J t i g b k o = by (t == a) refl
  where
    by : (z : Bool) → (t == a) ≡ z → Own (if z then begun q (J a) else J t) i
    by true e = absurd (let n : t ≡ a = eqb-true t a e in let c : is_detached (J t).kind ≡ false = ap (λ n. is_detached (J n).kind) n ∙ g in let d : true ≡ false = sym k ∙ c in cc)
    by false e = o
after_own q (HandBack (Detach p a)) J t i g b k o = back_own J a t i o
after_own q (HandBack (Here p a)) J t i g b k o = back_own J a t i o
after_own q (HandBack (Send a)) J t i g b k o = back_own J a.job t i o
after_own q (HandBack (Open a)) J t i g b k o = back_own J a.job t i o
after_own q (HandBack (Enter a)) J t i g b k o = back_own J a.job t i o
after_own q (HandBack (Feed d)) J t i g b k o = two_own J d.job d.token t i o
after_own q (HandBack (Fork d a)) J t i g b k o = two_own J a d.job t i o
after_own q (HandBack (Gather d)) J t i g b k o = pieces_own d.pieces Returned J t i (λ z. absurd (cc)) b o
after_own q (Mark y c (Numbered n)) J t i g b k o = pieces_own c (Numbered n) J t i (λ z. absurd (cc)) b o
after_own q (Mark y c Unnumbered) J t i g b k o = pieces_own c Unnumbered J t i (λ z. absurd (cc)) b o
after_own q (Mark y c Dealt) J t i g b k o = pieces_own c Dealt J t i (λ z e. g t e) b o
after_own q (Mark y c Counted) J t i g b k o = pieces_own c Counted J t i (λ z. absurd (cc)) b o
after_own q (Mark y c Returned) J t i g b k o = pieces_own c Returned J t i (λ z. absurd (cc)) b o
after_own q (Mark y c Queued) J t i g b k o = pieces_own c Queued J t i (λ z e. g t e) b o
after_own q (HandAllBack c) J t i g b k o = pieces_own c Returned J t i (λ z. absurd (cc)) b o

push_good : (w : World) (q : Party) (c : Pieces) (r : Seen × Part) → SaysPieces w c → Static (place_part w q (PushForAll c)) r → (e : Seen) → Good (put w.job (job_at w q (act_of q (PushForAll c))) (r.1.job)) (next_of (w.shape.pool (target_pool q (act_of q (PushForAll c)))) q (PushForAll c) e)
push_good w q c r s st Done = λ t z. (put_same (λ j. j.pool) w.job (job_at w q (act_of q (PushForAll c))) (r.1.job) t st.pool ∙ (s t z).pool, put_same (λ j. j.bound) w.job (job_at w q (act_of q (PushForAll c))) (r.1.job) t st.bound ∙ (s t z).bound)
push_good w q c r s st _ = tt

deal_good : (w : World) (q : Party) (c : Gathering) (r : Seen × Part) → SaysPieces w c.pieces → Static (place_part w q (DealPieces c)) r → (e : Seen)
    → Good (put w.job (job_at w q (act_of q (DealPieces c))) (r.1.job)) (next_of (w.shape.pool (target_pool q (act_of q (DealPieces c)))) q (DealPieces c) e)
deal_good w q c r s st Done = λ t z. (put_same (λ j. j.pool) w.job (job_at w q (act_of q (DealPieces c))) (r.1.job) t st.pool ∙ (s t z).pool, put_same (λ j. j.bound) w.job (job_at w q (act_of q (DealPieces c))) (r.1.job) t st.bound ∙ (s t z).bound)
deal_good w q c r s st _ = tt

abbrev Known : World → Party → Place → List Place → Seen × Part → Type 0
Known w q x fs r = Static (place_part w q x) r × StartsAwaited w (next_of (w.shape.pool (target_pool q (act_of q x))) q x (r.0))

go_good : (w : World) (q : Party) (x : Place) (fs : List Place) → Says w q x → IfSome (outcome w q (record { top = x; below = fs })) (Known w q x fs)
    → IfSome (outcome w q (record { top = x; below = fs })) (λ r. Good (put w.job (job_at w q (act_of q x)) (r.1.job)) (next_of (w.shape.pool (target_pool q (act_of q x))) q x (r.0)))
go_good w q (PushForAll c) fs s k = if_some_map (Known w q (PushForAll c) fs) (λ r. Good (put w.job (job_at w q (act_of q (PushForAll c))) (r.1.job)) (next_of (w.shape.pool (target_pool q (act_of q (PushForAll c)))) q (PushForAll c) (r.0))) (λ r f. push_good w q c r (s.0) (f.0) (r.0)) _ k
go_good w q (DealPieces c) fs s k = if_some_map (Known w q (DealPieces c) fs) (λ r. Good (put w.job (job_at w q (act_of q (DealPieces c))) (r.1.job)) (next_of (w.shape.pool (target_pool q (act_of q (DealPieces c)))) q (DealPieces c) (r.0))) (λ r f. deal_good w q c r (s.pieces) (f.0) (r.0)) _ k
go_good w q x fs s k = if_some_map (λ r. Known w q x fs r × (is_dealing (next_of (w.shape.pool (target_pool q (act_of q x))) q x (r.0)) ≡ false)) (λ r. Good (put w.job (job_at w q (act_of q x)) (r.1.job)) (next_of (w.shape.pool (target_pool q (act_of q x))) q x (r.0)))
    (λ r f. good_move w (put w.job (job_at w q (act_of q x)) (r.1.job)) (next_of (w.shape.pool (target_pool q (act_of q x))) q x (r.0)) (λ t. put_same (λ j. j.kind) w.job (job_at w q (act_of q x)) (r.1.job) t (((f.0).0).kind)) ((f.0).1) (f.1)) _
    (if_some_and (Known w q x fs) (λ r. is_dealing (next_of (w.shape.pool (target_pool q (act_of q x))) q x (r.0)) ≡ false) (outcome w q (record { top = x; below = fs })) k
    (no_deals w.shape (w.shape.pool (target_pool q (act_of q x))) q (counts_at w (target_pool q (act_of q x))) (place_part w q x) x refl))

-- what each step leaves of the pieces
abbrev Kept : World → Type 0
Kept u = ((t i : ℕ) → (u.job t).bound ≡ Some i → is_detached (u.job t).kind ≡ true) × IsBound u

act_kept : (w : World) (q : Party) (x : Place) (fs : List Place) (r : Seen × Part) → BoundsHold w → Static (place_part w q x) r → Moves (place_part w q x) r → Good (put w.job (job_at w q (act_of q x)) (r.1.job)) (next_of (w.shape.pool (target_pool q (act_of q x))) q x (r.0))
    → Kept (world_after w q x fs r)
act_kept w q x fs r h st mo go = (λ t i b. ap is_detached (kinds t) ∙ h.kind t i (sym (bounds t) ∙ b), λ t i b. owns t i (sym (bounds t) ∙ b))
  where
    g : Move
    g = next_of (w.shape.pool (target_pool q (act_of q x))) q x (r.0)

    n : ℕ
    n = job_at w q (act_of q x)

    J : ℕ → Job
    J = put w.job n (r.1.job)

    kinds : (t : ℕ) → ((world_after w q x fs r).job t).kind ≡ (w.job t).kind
    kinds t = after_kind q g J t ∙ put_same (λ j. j.kind) w.job n (r.1.job) t st.kind

    bounds : (t : ℕ) → ((world_after w q x fs r).job t).bound ≡ (w.job t).bound
    bounds t = after_bound q g J t ∙ put_same (λ j. j.bound) w.job n (r.1.job) t st.bound

    touched : (t i : ℕ) → (w.job t).bound ≡ Some i → (z : Bool) → (t == n) ≡ z → Own (if z then r.1.job else w.job t) i
    touched t i b false e = h.own t i b
    touched t i b true e = let y : t ≡ n = eqb-true t n e in ap (λ p. is_own_place p i r.1.job.at) st.pool ∙ mo i (ap (λ m. (w.job m).bound) (sym y) ∙ b) (ap (λ m. is_detached (w.job m).kind) (sym y) ∙ h.kind t i b) (ap (λ m. is_own_place (w.job m).pool i (w.job m).at) (sym y) ∙ h.own t i b)

    owns : (t i : ℕ) → (w.job t).bound ≡ Some i → is_own_place ((world_after w q x fs r).job t).pool i ((world_after w q x fs r).job t).at ≡ true
    owns t i b = after_own q g J t i go (put_same (λ j. j.bound) w.job n (r.1.job) t st.bound ∙ b) (ap is_detached (put_same (λ j. j.kind) w.job n (r.1.job) t st.kind) ∙ h.kind t i b) (touched t i b (t == n) refl)

-- what is known of each act and of its move
pub goods : (w : World) (q : Party) → SharesHold w → IfSome (outcome w q (w.stack q)) (λ r. Static (place_part w q (w.stack q).top) r × Good (put w.job (job_at w q (act_of q (w.stack q).top)) (r.1.job)) (next_of (w.shape.pool (target_pool q (act_of q (w.stack q).top))) q (w.stack q).top (r.0)))
goods w q h =
    let x : Place = (w.stack q).top in let fs : List Place = (w.stack q).below in
    let known : IfSome (outcome w q (w.stack q)) (Known w q x fs) = if_some_map (λ r. Static (place_part w q x) r × Ready w q x fs r) (Known w q x fs) (λ r f. (f.0, (f.1).starts)) (outcome w q (w.stack q))
    (if_some_and (Static (place_part w q x)) (Ready w q x fs) (outcome w q (w.stack q)) (act_static w.shape q (counts_at w (target_pool q (act_of q x))) (place_part w q x) x) (ready w q h)) in
    if_some_map (λ r. Known w q x fs r × Good (put w.job (job_at w q (act_of q x)) (r.1.job)) (next_of (w.shape.pool (target_pool q (act_of q x))) q x (r.0))) (λ r. Static (place_part w q x) r × Good (put w.job (job_at w q (act_of q x)) (r.1.job)) (next_of (w.shape.pool (target_pool q (act_of q x))) q x (r.0))) (λ r f. ((f.0).0, f.1)) (outcome w q (w.stack q))
    (if_some_and (Known w q x fs) (λ r. Good (put w.job (job_at w q (act_of q x)) (r.1.job)) (next_of (w.shape.pool (target_pool q (act_of q x))) q x (r.0))) (outcome w q (w.stack q)) known (go_good w q x fs ((h.calls).says q).top known))

go_kept : (w : World) (q : Party) → BoundsHold w → IfSome (outcome w q (w.stack q)) (λ r. Kept (result w q (w.stack q) r))
go_kept w q h =
    let x : Place = (w.stack q).top in let fs : List Place = (w.stack q).below in
    if_some_map (λ r. (Static (place_part w q x) r × Good (put w.job (job_at w q (act_of q x)) (r.1.job)) (next_of (w.shape.pool (target_pool q (act_of q x))) q x (r.0))) × Moves (place_part w q x) r) (λ r. Kept (result w q (w.stack q) r)) (λ r f. act_kept w q x fs r h ((f.0).0) (f.1) ((f.0).1)) (outcome w q (w.stack q))
    (if_some_and (λ r. Static (place_part w q x) r × Good (put w.job (job_at w q (act_of q x)) (r.1.job)) (next_of (w.shape.pool (target_pool q (act_of q x))) q x (r.0))) (Moves (place_part w q x)) (outcome w q (w.stack q))
    (goods w q h.shares)
    (act_moves w q x fs refl (once w (((h.shares).calls).jobs)) ((((h.shares).calls).says q).top)))

-- events that are no acts
fresh_kept : (w : World) (J : ℕ → Job) → BoundsHold w → ((t : ℕ) (i : ℕ) → (J t).bound ≡ Some i → (J t ≡ w.job t) ⊎ ((is_detached (J t).kind ≡ true) × Own (J t) i)) → ((t i : ℕ) → (J t).bound ≡ Some i → is_detached (J t).kind ≡ true) × ((t i : ℕ) → (J t).bound ≡ Some i → Own (J t) i)
fresh_kept w J h f = (
  λ t i b. elim (f t i b) [ inl e ↦ ap (λ j. is_detached (j.kind)) e ∙ h.kind t i (ap (λ j. j.bound) (sym e) ∙ b) | inr p ↦ p.0 ],
  λ t i b. elim (f t i b) [ inl e ↦ ap (λ j. is_own_place j.pool i j.at) e ∙ h.own t i (ap (λ j. j.bound) (sym e) ∙ b) | inr p ↦ p.1 ],
)

same_kept : (w : World) → BoundsHold w → Kept w
same_kept w h = (h.kind, h.own)

put_kept : (w : World) (n : ℕ) (j : Job) → BoundsHold w → j.bound ≡ None → ((t i : ℕ) → (put w.job n j t).bound ≡ Some i → is_detached (put w.job n j t).kind ≡ true) × ((t i : ℕ) → (put w.job n j t).bound ≡ Some i → Own (put w.job n j t) i)
put_kept w n j h e = fresh_kept w (put w.job n j) h (λ t i b. by t i (t == n) b)
  where
    by : (t i : ℕ) (z : Bool) → (if z then j else w.job t).bound ≡ Some i → ((if z then j else w.job t) ≡ w.job t) ⊎ ((is_detached (if z then j else w.job t).kind ≡ true) × Own (if z then j else w.job t) i)
    by t i true b = absurd (let c : Some i ≡ None = sym b ∙ e in cc)
    by t i false b = inl refl

both_kept : (w : World) (n m : ℕ) (j k : Job) → BoundsHold w → j.bound ≡ None → k.bound ≡ None → ((t i : ℕ) → (put (put w.job n j) m k t).bound ≡ Some i → is_detached (put (put w.job n j) m k t).kind ≡ true) × ((t i : ℕ) → (put (put w.job n j) m k t).bound ≡ Some i
    → Own (put (put w.job n j) m k t) i)
both_kept w n m j k h e d = fresh_kept w (put (put w.job n j) m k) h (λ t i b. by t i (t == m) (t == n) b)
  where
    by : (t i : ℕ) (y z : Bool) → (if y then k else (if z then j else w.job t)).bound ≡ Some i → ((if y then k else (if z then j else w.job t)) ≡ w.job t) ⊎ ((is_detached (if y then k else (if z then j else w.job t)).kind ≡ true) × Own (if y then k else (if z then j else w.job t)) i)
    by t i true z b = absurd (let c : Some i ≡ None = sym b ∙ d in cc)
    by t i false true b = absurd (let c : Some i ≡ None = sym b ∙ e in cc)
    by t i false false b = inl refl

from_kept : (w : World) (q : Party) (k : Stack) (x : Place) (v : ℕ) → BoundsHold w → IfSome (after_choice w q k x v) Kept
from_kept w q k (PickVictim n) v h = if_cond Kept (nat_lt v (w.shape.pool (own_pool q)).workers) _ (λ b. same_kept w h)
from_kept w q k YieldPick v h = if_cond Kept (nat_lt v (w.shape.pool (own_pool q)).workers) _ (λ b. same_kept w h)
from_kept w q k _ v h = tt

miss_kept : (w : World) (q : Party) (k : Stack) (x : Place) → BoundsHold w → IfSome (after_miss w q k x) Kept
miss_kept w (Worker a b) k (StealFrom c n) h = if_cond Kept (can_miss w a c.victim) _ (λ y. same_kept w h)
miss_kept w (Worker a b) k (YieldSteal v n) h = if_cond Kept (can_miss w a v) _ (λ y. same_kept w h)
miss_kept w (Worker a b) k _ h = tt
miss_kept w (Caller c) k _ h = tt

end_kept : (w : World) (q : Party) (d : Ending) (k : Stack) (x : Place) → BoundsHold w → IfSome (after_end w q d k x) Kept
end_kept w q d k (Run u c) h = (
  λ t i b. (put_same (λ j. is_detached (j.kind)) w.job u (at_job (w.job u) (Over d)) t refl ∙ h.kind t i (sym (put_same (λ j. j.bound) w.job u (at_job (w.job u) (Over d)) t refl) ∙ b)),
  λ t i b. by t i (t == u) (sym (put_same (λ j. j.bound) w.job u (at_job (w.job u) (Over d)) t refl) ∙ b),
)
  where
    by : (t i : ℕ) (z : Bool) → (w.job t).bound ≡ Some i → Own (if z then at_job (w.job u) (Over d) else w.job t) i
    by t i true b = refl
    by t i false b = h.own t i b
end_kept w q d k _ h = tt

spawn_kept : (w : World) (q : Party) (r : ℕ) → BoundsHold w → IfSome (after_spawn w q r (w.stack q)) Kept
spawn_kept w q r h = if_cond Kept (is_free ((w.stack q).top) && is_pool w.shape r) _ (λ b. put_kept w w.jobs (new_job q r (Detached r)) h refl)

deal_kept : (w : World) (q : Party) (d : Count) (r : ℕ) → BoundsHold w → Kept (after_deal w q d r (w.stack q))
deal_kept w q d r h = fresh_kept w (put_pieces c (λ i j. new_piece q d r i) w.job) h (λ t i e. by t i (is_piece c t) e)
  where
    c : Pieces
    c = record { count = d; pool = r; first = w.jobs; workers = (w.shape.pool r).workers }

    by : (t i : ℕ) (z : Bool) → (if z then new_piece q d r (t - c.first) else w.job t).bound ≡ Some i
        → ((if z then new_piece q d r (t - c.first) else w.job t) ≡ w.job t) ⊎ ((is_detached (if z then new_piece q d r (t - c.first) else w.job t).kind ≡ true) × Own (if z then new_piece q d r (t - c.first) else w.job t) i)
    by t i true e = inr (counts_detached d, refl)
    by t i false e = inl refl

cast_kept : (w : World) (q : Party) (r : ℕ) → BoundsHold w → IfSome (after_cast w q r (w.stack q)) Kept
cast_kept w q r h = if_cond Kept (is_free ((w.stack q).top) && is_pool w.shape r) _ (λ b. deal_kept w q (OfPool r) r h)

gather_kept : (w : World) (q : Party) (r : ℕ) → BoundsHold w → IfSome (after_broadcast w q r (w.stack q)) Kept
gather_kept w q r h = if_cond Kept (is_free ((w.stack q).top) && is_pool w.shape r) _ (λ b. fresh_kept w (put (put_pieces c (λ i j. new_piece q (OfCast w.calls q) r i) w.job) (w.jobs + c.workers) (new_whole q r w.calls)) h (λ t i e. by t i (t == (w.jobs + c.workers)) (is_piece c t) e))
  where
    c : Pieces
    c = record { count = OfCast w.calls q; pool = r; first = w.jobs; workers = (w.shape.pool r).workers }

    by : (t i : ℕ) (y z : Bool) → (if y then new_whole q r w.calls else (if z then new_piece q (OfCast w.calls q) r (t - c.first) else w.job t)).bound ≡ Some i
        → ((if y then new_whole q r w.calls else (if z then new_piece q (OfCast w.calls q) r (t - c.first) else w.job t)) ≡ w.job t) ⊎ ((is_detached (if y then new_whole q r w.calls else (if z then new_piece q (OfCast w.calls q) r (t - c.first) else w.job t)).kind ≡ true) × Own (if y then new_whole q r w.calls else (if z then new_piece q (OfCast w.calls q) r (t - c.first) else w.job t)) i)
    by t i true z e = absurd (cc)
    by t i false true e = inr (refl, refl)
    by t i false false e = inl refl

sent_kept : (w : World) (q : Party) (r : ℕ) (b : Bool) → BoundsHold w → Kept (after_send w q r (w.stack q) b)
sent_kept w q r true h = put_kept w w.jobs (new_job q r Direct) h refl
sent_kept w q r false h = put_kept w w.jobs (new_job q r (Stored w.calls q)) h refl

install_kept : (w : World) (q : Party) (r : ℕ) → BoundsHold w → IfSome (after_install w q r (w.stack q)) Kept
install_kept w q r h = if_cond Kept (is_free ((w.stack q).top) && is_pool w.shape r) _ (λ e. sent_kept w q r (is_member q r) h)

join_kept : (w : World) (q : Party) → BoundsHold w → IfSome (after_join w q (w.stack q)) Kept
join_kept w (Worker a b) h = if_cond Kept (is_free ((w.stack (Worker a b)).top)) _ (λ z. both_kept w w.jobs (w.jobs + 1) (new_job (Worker a b) a Direct) (new_job (Worker a b) a (Stored w.calls (Worker a b))) h refl refl)
join_kept w (Caller n) h = tt

scope_kept : (w : World) (q : Party) (r : ℕ) → BoundsHold w → IfSome (after_scope w q r (w.stack q)) Kept
scope_kept w q r h = if_cond Kept (is_free ((w.stack q).top) && is_pool w.shape r) _ (λ b. put_kept w w.jobs (new_job q r (BodyOf w.calls q)) h refl)

enter_kept : (w : World) (q : Party) (z : Scope) → BoundsHold w → IfSome (after_enter w q (w.stack q) (Some z)) Kept
enter_kept w q z h = if_cond Kept (is_free ((w.stack q).top) && holds z.call (w.stack q)) _ (λ b. put_kept w w.jobs (new_job q z.pool (Scoped z.call z.owner)) h refl)

feed_kept : (w : World) (k : Count) (p i : ℕ) → BoundsHold w → Kept (after_feed w k p i (w.stack (Worker p i)))
feed_kept w k p i h = both_kept w w.jobs (w.jobs + 1) (new_job (Worker p i) p (count_kind k)) (new_job (Worker p i) p (TokenOf i (count_book k))) h refl refl

into_kept : (w : World) (q : Party) (n : ℕ) → BoundsHold w → IfSome (after_into w q n (w.stack q)) Kept
into_kept w q n h = into_cases Kept w q n (λ z e free held. enter_kept w q z h)

into_fifo_kept : (w : World) (q : Party) (n : ℕ) → BoundsHold w → IfSome (after_into_fifo w q n (w.stack q)) Kept
into_fifo_kept w q n h = into_fifo_cases Kept w q n (λ z e free held. enter_kept w q z h) (λ z i e free held. feed_kept w (OfScope z.call z.owner) z.pool i h)

into_cast_kept : (w : World) (q : Party) (n : ℕ) → BoundsHold w → IfSome (after_into_cast w q n (w.stack q)) Kept
into_cast_kept w q n h = into_cast_cases Kept w q n (λ z e free held. deal_kept w q (OfScope z.call z.owner) z.pool h)

yield_kept : (w : World) (q : Party) (x : Place) → BoundsHold w → IfSome (after_yield w q (w.stack q) x) Kept
yield_kept w (Worker a b) x h = if_cond Kept (is_free ((w.stack (Worker a b)).top)) _ (λ z. same_kept w h)
yield_kept w (Caller c) x h = tt

each_kept : (w : World) (e : Event) → BoundsHold w → IfSome (step w e) Kept
each_kept w (Go q) h = acted_keeps w q (w.stack q) (target_pool q (act_of q ((w.stack q).top))) (target_worker q (act_of q ((w.stack q).top))) (target_call (act_of q ((w.stack q).top))) (job_at w q (act_of q ((w.stack q).top))) (outcome w q (w.stack q)) Kept (go_kept w q h)
each_kept w (From q v) h = from_kept w q (w.stack q) ((w.stack q).top) v h
each_kept w (Refuse q) h = if_cond Kept (is_refusable ((w.stack q).top)) _ (λ b. same_kept w h)
each_kept w (Miss q) h = miss_kept w q (w.stack q) ((w.stack q).top) h
each_kept w (End q d) h = end_kept w q d (w.stack q) ((w.stack q).top) h
each_kept w (Spawn q p) h = spawn_kept w q p h
each_kept w (Fifo q p) h = fifo_cases Kept w q p (spawn_kept w q p h) (λ i free. feed_kept w (OfPool p) p i h)
each_kept w (Cast q p) h = cast_kept w q p h
each_kept w (Install q p) h = install_kept w q p h
each_kept w (Join q) h = join_kept w q h
each_kept w (OpenScope q p) h = scope_kept w q p h
each_kept w (IntoSpawn q n) h = into_kept w q n h
each_kept w (IntoFifo q n) h = into_fifo_kept w q n h
each_kept w (IntoCast q n) h = into_cast_kept w q n h
each_kept w (Broadcast q p) h = gather_kept w q p h
each_kept w (Yield q) h = yield_kept w q YieldPop h
each_kept w (YieldLocal q) h = yield_kept w q LocalPop h
each_kept w (EndPool q p) h = if_cond Kept (is_free ((w.stack q).top) && (is_pool w.shape p && (w.pool p).held)) _ (λ b. same_kept w h)

step_bounds : (w : World) (e : Event) → BoundsHold w → IfSome (step w e) BoundsHold
step_bounds w e h = if_some_map (λ u. SharesHold u × Kept u) BoundsHold (λ u f. record { shares = f.0; kind = (f.1).0; own = (f.1).1 }) (step w e) (if_some_and SharesHold Kept (step w e) (step_shares w e h.shares) (each_kept w e h))

first_bounds : (h : Shape) → BoundsHold (start h)
first_bounds h = record { shares = first_shares h; kind = λ t i b. cc; own = λ t i b. cc }

pub always_bound : (h : Shape) (es : List Event) (w : World) → IsRun (start h) es w → IsBound w
always_bound h es w r = (run_keeps BoundsHold step_bounds (start h) w es (first_bounds h) r).own
