-- where each step brings a job, by the rows of `leads`
--
-- An act that takes, pushes or begins writes one job itself, which is where its list, or its party's hand, says
-- (`loud`). After any other the move alone writes jobs (`moved`): who hands a job back has it as its call has made it,
-- or has taken it back from a FIFO list; a job that was taken to be run has its share itself, and whose share is given
-- back, or who has none, is not handed back.
use Rattle.std.proofs.Common.{rules, arith, refl, ◌∙◌, sym, ap, subst, inl, inr}
use Rattle.std.specs.Prelude.{ℕ, Bool, true, false, ◌&&◌, ◌+◌, ◌-◌, ◌==◌, ◌≤◌, ◌<◌, nat_lt, if◌then◌else◌, Option, Some, None, ◌≡◌, ◌⊎◌, IfSome, ⊤, List, [], ◌∷◌, slice_get}
use Rattle.std.proofs.lemmas.Bool.{eqb-true, eq-eqb}
use Rattle.rayon_machine_places.specs.declared.shape.Order.{Order}
use Rattle.rayon_machine_places.specs.declared.place.Party.{Party}
use Rattle.rayon_machine_places.specs.declared.place.Party.TheVariants.{Worker, Caller}
use Rattle.rayon_machine_places.specs.declared.place.Ending.{Ending}
use Rattle.rayon_machine_places.specs.declared.place.JobKind.{JobKind}
use Rattle.rayon_machine_places.specs.declared.place.JobKind.TheVariants.{Detached, Scoped, Direct, Stored}
use Rattle.rayon_machine_places.specs.declared.place.Taken.{Taken}
use Rattle.rayon_machine_places.specs.declared.place.Taken.TheVariants.{Plain, Token}
use Rattle.rayon_machine_places.specs.declared.place.Pieces.{Pieces}
use Rattle.rayon_machine_places.specs.declared.place.Count.{Count}
use Rattle.rayon_machine_places.specs.declared.place.Count.TheVariants.{OfPool, OfScope, OfCast}
use Rattle.rayon_machine_places.specs.declared.place.Latch.{Latch}
use Rattle.rayon_machine_places.specs.declared.place.Latch.TheVariants.{Terminate, OfCall}
use Rattle.rayon_machine_places.specs.declared.place.Settling.{Settling}
use Rattle.rayon_machine_places.specs.declared.place.Then.{Then}
use Rattle.rayon_machine_places.specs.declared.place.Then.TheVariants.{BeginFound, LeaveWait, Resume, Await, RunFirst, Answers, Missing as NoAnswer, Ran, GiveBack, Called, Gathers}
use Rattle.rayon_machine_places.specs.declared.place.Mark.{Mark as Marking}
use Rattle.rayon_machine_places.specs.declared.place.Mark.TheVariants.{Counted, Numbered, Queued, Dealt, Unnumbered, Returned}
use Rattle.rayon_machine_places.specs.declared.place.Plan.{Plan}
use Rattle.rayon_machine_places.specs.declared.place.Plan.TheVariants.{Detach, Here, Send, Fork, Feed, Open, Enter as Entered, Gather}
use Rattle.rayon_machine_places.specs.declared.place.Place.{Place}
use Rattle.rayon_machine_places.specs.declared.place.Place.TheVariants.{JoinProbe, SecondSide, ProbeWorking, PopWorking, TakeCastWorking, PopIdle, TakeCastIdle, PickVictim, StealFrom, PopInjected, JoinPop, JoinTakeCast, YieldPop, YieldTakeCast, YieldPick, YieldSteal}
use Rattle.rayon_machine_places.specs.declared.place.Place.TheVariants.{YieldPopInjected, LocalPop, LocalTakeCast, BeginTask, BeginHere, Run, PushJob, AddToFifo, PushToken, TakeFromFifo, PushForAll, DealPieces, LowerCount, LowerForAll, SetLatch, UnlockSettled}
use Rattle.rayon_machine_places.specs.declared.place.Move.{Move}
use Rattle.rayon_machine_places.specs.declared.place.Move.TheVariants.{Stay, Enter, StartRun, Back, HandBack, Discard, HandIn, Mark, HandAllBack}
use Rattle.rayon_machine_places.specs.declared.act.Act.{Act}
use Rattle.rayon_machine_places.specs.declared.act.Act.TheVariants.{PushOwn, PushInj, FifoOut, FifoUndo}
use Rattle.rayon_machine_places.specs.declared.act.Seen.{Seen}
use Rattle.rayon_machine_places.specs.declared.act.Seen.TheVariants.{Task, Missing, Yes}
use Rattle.rayon_machine_runs.specs.declared.event.Event.{Event}
use Rattle.rayon_machine_runs.specs.declared.event.Event.TheVariants.{Go, From, Refuse, Miss, End, Spawn, Fifo, Install, Join, Yield, YieldLocal, EndPool, Cast, Scope as OpenScope, IntoSpawn, IntoFifo, IntoCast, Broadcast}
use Rattle.rayon_machine_runs.specs.declared.state.Whereabouts.{Whereabouts}
use Rattle.rayon_machine_runs.specs.declared.state.Whereabouts.TheVariants.{Made, InDeque, Injected, InFifo, InCast, Retaken, Running, Over, HandedBack, Spent}
use Rattle.rayon_machine_places.specs.declared.shape.PoolShape.{PoolShape}
use Rattle.rayon_machine_runs.specs.declared.state.Job.{Job}
use Rattle.rayon_machine_places.specs.Places.{same_party, act_of, next_of, own_pool, own_index, finish, after_set, plan_book, plan_job, plan_pool, count_book, is_free, is_member, is_taken}
use Rattle.rayon_machine_runs.specs.World.{Shape, Stack, World, Part, Outcome, counts_at, at_job, begun, head_of, last_of, but_last, is_open, own_of, own_left, pop_injector, popped, take_cast, effect}
use Rattle.rayon_machine_places.specs.Sleepers.{Counts}
use Rattle.rayon_machine_places.specs.Targets.{target_pool, target_worker, target_call, or_none, taken_as}
use Rattle.rayon_machine_runs.specs.Steps.{put, put_pieces, put_stack, after_close, jobs_after, marked, mark_pieces, handed_back, is_piece, after_choice, after_end}
use Rattle.rayon_machine_runs.specs.Steps.{after_miss, after_yield, after_send, after_join, after_gather, after_deal, after_feed, new_job, new_piece, new_whole, is_pool, step}
use Rattle.rayon_machine_runs.specs.Runs.{IsRun, start}
use Rattle.rayon_machine_laws.specs.Once.{IsOnce, one, times, in_deque, in_injector, in_fifo, in_cast, is_with, run_of, runs_with, hand, hand_plan, held, worked}
use Rattle.rayon_machine_laws.specs.Counted.{is_detached, keeps_own}
use Rattle.rayon_machine_laws.specs.Shares.{is_busy, share, shares}
use Rattle.rayon_machine_laws.specs.Near.{IsNear, has_line, is_near}
use Rattle.rayon_machine_laws.specs.Moves.{ByAct, ByEnd, MovesLaw, MovesSo, leads}
use Rattle.rayon_machine_laws.proofs.Frame.{acted_keeps, and_parts, either, fifo_cases, if_cond, if_some_all, if_some_and, if_some_each, if_some_map, into_cases, into_cast_cases}
use Rattle.rayon_machine_laws.proofs.Frame.{into_fifo_cases, out_sees, piece_range, pieces_same, put_new, put_old, put_same, same_party_refl, same_party_true, undo_sees, after_kind}
use Rattle.rayon_machine_laws.proofs.Ties.{outcome, result, job_at, shape_at}
use Rattle.rayon_machine_laws.proofs.Calm.{counts_seen, next_at, part_at}
use Rattle.rayon_machine_laws.proofs.Hands.{got, given, starts, hand_move, is_gather, queues_whole, table}
use Rattle.rayon_machine_laws.proofs.Feeds.{fed, fed_back, fed_move, all_fed, feds}
use Rattle.rayon_machine_laws.proofs.Bares.{backs, bare, bare_move, all_bare, bares}
use Rattle.rayon_machine_laws.proofs.Amounts.{paid}
use Rattle.rayon_machine_laws.proofs.Lists.{SameJobs, moves_no_job, quiet_same, times_first, times_own, times_drop}
use Rattle.rayon_machine_laws.proofs.Located.{is_left}
use Rattle.rayon_machine_laws.proofs.Placed.{Feeds, Kept, is_dealer, outcome_of}
use Rattle.rayon_machine_laws.proofs.PlacedEvents.{go_kept, is_dealing, no_deals}
use Rattle.rayon_machine_laws.proofs.Records.{push_by}
use Rattle.rayon_machine_laws.proofs.Claims.{Says, SaysMove, SaysBack, Left, Awaited, says_next}
use Rattle.rayon_machine_laws.proofs.Later.{Static, act_static, later_says}
use Rattle.rayon_machine_laws.proofs.ClaimActs.{Lasting, lasting, Learned, act_learned}
use Rattle.rayon_machine_laws.proofs.ClaimRuns.{CallsHold, learns, place_part, unqueued, world_after}
use Rattle.rayon_machine_laws.proofs.ClaimMakes.{always_calls, always_once}
use Rattle.rayon_machine_laws.proofs.ShareActs.{SharesHold, one_is, with_job}
use Rattle.rayon_machine_laws.proofs.Returns.{ReturnsHold, always_returns}
use Rattle.rayon_machine_laws.proofs.NearEvents.{always_near}
use Rattle.rayon_machine_laws.proofs.Stops.{made}

-- a job stays, or is brought on by this party's act
abbrev Led : Party → Whereabouts → Whereabouts → Type 0
Led q a b = (b ≡ a) ⊎ (leads q a b ≡ true)

made_leads : (q : Party) (a b : Whereabouts) → a ≡ Made q → leads q (Made q) b ≡ true → Led q a b
made_leads q a b e l = inr (subst (λ v. leads q v b ≡ true) (sym e) l)

back_led : (q : Party) (a : Whereabouts) → is_with q a ≡ true → ((r : Party) → a ≡ Running r → ⊥) → Led q a HandedBack
back_led q (Made r) h n = inr h
back_led q (Retaken r) h n = inr h
back_led q (Running r) h n = absurd (n r refl)
back_led q _ h n = cc

start_led : (q : Party) (a : Whereabouts) → is_with q a ≡ true → ((r : Party) → a ≡ Retaken r → ⊥) → Led q a (Running q)
start_led q (Made r) h n = let k : same_party q r ≡ true = h in let e : same_party q q ≡ true = same_party_refl q in inr (rw k e)
start_led q (Running r) h n = inl (ap Running (same_party_true q r h))
start_led q (Retaken r) h n = absurd (n r refl)
start_led q _ h n = cc

left_running : (q : Party) (a : Whereabouts) → is_with q a ≡ true → is_left a ≡ true → a ≡ Running q
left_running q (Running r) h l = ap Running (sym (same_party_true q r h))
left_running q (Made r) h l = cc
left_running q (Retaken r) h l = cc
left_running q _ h l = cc

spent_led : (q : Party) (a : Whereabouts) → a ≡ Running q → Led q a Spent
spent_led q a e = inr (subst (λ v. leads q v Spent ≡ true) (sym e) (same_party_refl q))

deck_leads : (q : Party) (p i : ℕ) (a : Whereabouts) → in_deque p i a ≡ true → leads q a (Running q) ≡ true
deck_leads q p i (InDeque r j) h = same_party_refl q
deck_leads q p i _ h = cc

inj_leads : (q : Party) (p : ℕ) (a : Whereabouts) → in_injector p a ≡ true → leads q a (Running q) ≡ true
inj_leads q p (Injected r) h = same_party_refl q
inj_leads q p _ h = cc

cast_leads : (q : Party) (p i : ℕ) (a : Whereabouts) → in_cast p i a ≡ true → leads q a (Running q) ≡ true
cast_leads q p i (InCast r j) h = same_party_refl q
cast_leads q p i _ h = cc

line_leads : (q : Party) (p i : ℕ) (b : Option ℕ) (a : Whereabouts) → in_fifo p i b a ≡ true → (leads q a (Running q) ≡ true) × (leads q a (Retaken q) ≡ true)
line_leads q p i b (InFifo r j c) h = (same_party_refl q, same_party_refl q)
line_leads q p i b _ h = cc

one_self : (t : ℕ) → one (t == t) ≡ 1
one_self t = ap one (eq-eqb t t refl)

first_in : (l : List ℕ) (t : ℕ) → head_of l ≡ Some t → 1 ≤ times t l
first_in (u ∷ us) t e = let s : t ≡ u = cc in let o : one (t == u) ≡ 1 = ap (λ n. one (t == n)) (sym s) ∙ one_self t in omega (arith, o)
first_in [] t e = cc

own_in : (b : Order) (l : List ℕ) (t : ℕ) → own_of b l ≡ Some t → 1 ≤ times t l
own_in b l t e = let a : times t l ≡ (one (t == t) + times t (own_left b l)) = times_own b l t t e in let o : one (t == t) ≡ 1 = one_self t in omega (arith, a, o)

last_in : (l : List ℕ) (t : ℕ) → last_of l ≡ Some t → 1 ≤ times t l
last_in l t e = let a : times t l ≡ (one (t == t) + times t (but_last l)) = times_drop l t t e in let o : one (t == t) ≡ 1 = one_self t in omega (arith, a, o)

deck_led : (w : World) → IsOnce w → (q : Party) (p i t : ℕ) → 1 ≤ times t (w.seat p i).own → leads q (w.job t).at (Running q) ≡ true
deck_led w h q p i t l = deck_leads q p i ((w.job t).at) (one_is (in_deque p i (w.job t).at) (let a : times t (w.seat p i).own ≡ one (in_deque p i (w.job t).at) = h.deque p i t in omega (arith, a, l)))

inj_led : (w : World) → IsOnce w → (q : Party) (p t : ℕ) → 1 ≤ times t (w.pool p).injector → leads q (w.job t).at (Running q) ≡ true
inj_led w h q p t l = inj_leads q p ((w.job t).at) (one_is (in_injector p (w.job t).at) (let a : times t (w.pool p).injector ≡ one (in_injector p (w.job t).at) = h.injector p t in omega (arith, a, l)))

cast_led : (w : World) → IsOnce w → (q : Party) (p i t : ℕ) → 1 ≤ times t ((w.pool p).casts i) → leads q (w.job t).at (Running q) ≡ true
cast_led w h q p i t l = cast_leads q p i ((w.job t).at) (one_is (in_cast p i (w.job t).at) (let a : times t ((w.pool p).casts i) ≡ one (in_cast p i (w.job t).at) = h.cast p i t in omega (arith, a, l)))

line_led : (w : World) → IsOnce w → (q : Party) (p i : ℕ) (b : Option ℕ) (t : ℕ) → 1 ≤ times t ((w.seat p i).fifo b) → (leads q (w.job t).at (Running q) ≡ true) × (leads q (w.job t).at (Retaken q) ≡ true)
line_led w h q p i b t l = line_leads q p i b ((w.job t).at) (one_is (in_fifo p i b (w.job t).at) (let a : times t ((w.seat p i).fifo b) ≡ one (in_fifo p i b (w.job t).at) = h.fifo p i b t in omega (arith, a, l)))

with_hand : (w : World) → IsOnce w → (q : Party) (t : ℕ) → 1 ≤ hand t (w.stack q).top → is_with q (w.job t).at ≡ true
with_hand w h q t l = (and_parts (is_with q (w.job t).at) ((w.job t).runs == 0) (one_is (is_with q (w.job t).at && ((w.job t).runs == 0)) (let a : held t (w.stack q) ≡ one (is_with q (w.job t).at && ((w.job t).runs == 0)) = h.hand q t in omega (arith, a, l)))).0

fed_made : (w : World) → Feeds w → (q : Party) (t : ℕ) → 1 ≤ fed t (w.stack q).top → (w.job t).at ≡ Made q
fed_made w f q t l = f q t (let n : 1 ≤ fed t (w.stack q).top = l in omega (arith, n))

put_led : (q : Party) (J : ℕ → Job) (n : ℕ) (j : Job) → Led q (J n).at j.at → (t : ℕ) → Led q (J t).at (put J n j t).at
put_led q J n j l t = by (t == n) refl
  where
    by : (z : Bool) → (t == n) ≡ z → Led q (J t).at (if z then j else J t).at
    by true e = subst (λ m. Led q (J m).at j.at) (sym (eqb-true t n e)) l
    by false e = inl refl

-- a move that writes no job
abbrev is_idle : Move → Bool
is_idle (Stay y) = true
is_idle (Enter f y) = true
is_idle Back = true
is_idle _ = false

idle_jobs : (q : Party) (g : Move) (J : ℕ → Job) (t : ℕ) → is_idle g ≡ true → jobs_after q g J t ≡ J t
idle_jobs q (Stay y) J t e = refl
idle_jobs q (Enter f y) J t e = refl
idle_jobs q Back J t e = refl
idle_jobs q _ J t e = cc

idle_led : (q : Party) (J : ℕ → Job) (n : ℕ) (j : Job) (g : Move) → is_idle g ≡ true → Led q (J n).at j.at → (t : ℕ) → Led q (J t).at (jobs_after q g (put J n j) t).at
idle_led q J n j g i l t = subst (λ v. Led q (J t).at v) (ap (λ k. k.at) (sym (idle_jobs q g (put J n j) t i))) (put_led q J n j l t)

-- the places whose acts take from a list
abbrev takes : Place → Bool
takes (PopWorking k) = true
takes (TakeCastWorking k) = true
takes (PopIdle k) = true
takes (TakeCastIdle k) = true
takes (StealFrom k n) = true
takes (PopInjected k) = true
takes (JoinPop o) = true
takes (JoinTakeCast o) = true
takes YieldPop = true
takes YieldTakeCast = true
takes (YieldSteal v n) = true
takes YieldPopInjected = true
takes LocalPop = true
takes LocalTakeCast = true
takes _ = false

if_idle : (z : Bool) (a b : Move) → is_idle a ≡ true → is_idle b ≡ true → is_idle (if z then a else b) ≡ true
if_idle true a b x y = x
if_idle false a b x y = y

takes_idle : (g : PoolShape) (q : Party) (x : Place) (e : Seen) → takes x ≡ true → is_idle (next_of g q x e) ≡ true
takes_idle g q (PopWorking k) (Task t) z = refl
takes_idle g q (PopWorking k) _ z = refl
takes_idle g q (TakeCastWorking k) (Task t) z = refl
takes_idle g q (TakeCastWorking k) _ z = refl
takes_idle g q (PopIdle k) (Task t) z = refl
takes_idle g q (PopIdle k) _ z = refl
takes_idle g q (TakeCastIdle k) (Task t) z = refl
takes_idle g q (TakeCastIdle k) _ z = if_idle (g.workers == 1) (Stay (PopInjected k)) (Stay (PickVictim k)) refl refl
takes_idle g q (StealFrom k n) (Task t) z = refl
takes_idle g q (StealFrom k n) _ z = refl
takes_idle g q (PopInjected k) (Task t) z = refl
takes_idle g q (PopInjected k) _ z = refl
takes_idle g q (JoinPop o) (Task t) z = by (is_taken t o.job)
  where
    by : (b : Bool) → is_idle (if b then Enter (SecondSide o) (BeginHere o.job) else Enter (JoinProbe o) (BeginTask t)) ≡ true
    by true = refl
    by false = refl
takes_idle g q (JoinPop o) _ z = refl
takes_idle g q (JoinTakeCast o) (Task t) z = refl
takes_idle g q (JoinTakeCast o) _ z = refl
takes_idle g q YieldPop (Task t) z = refl
takes_idle g q YieldPop _ z = refl
takes_idle g q YieldTakeCast (Task t) z = refl
takes_idle g q YieldTakeCast _ z = if_idle (g.workers == 1) (Stay YieldPopInjected) (Stay YieldPick) refl refl
takes_idle g q (YieldSteal v n) (Task t) z = refl
takes_idle g q (YieldSteal v n) _ z = refl
takes_idle g q YieldPopInjected (Task t) z = refl
takes_idle g q YieldPopInjected _ z = refl
takes_idle g q LocalPop (Task t) z = refl
takes_idle g q LocalPop _ z = refl
takes_idle g q LocalTakeCast (Task t) z = refl
takes_idle g q LocalTakeCast _ z = refl
takes_idle g q x e z = cc

-- what a take leaves of each job, whatever follows that writes none
pop_jobs : (q : Party) (J : ℕ → Job) (m : Part) (rest : List ℕ) (o : Option ℕ) (f : Seen → Move) → m.job ≡ J (or_none o) → ((e : Seen) → is_idle (f e) ≡ true) → ((t : ℕ) → o ≡ Some t → leads q (J t).at (Running q) ≡ true)
    → IfSome (popped q m rest o) (λ r. (t : ℕ) → Led q (J t).at (jobs_after q (f (r.0)) (put J (or_none o) (r.1.job)) t).at)
pop_jobs q J m rest None f e i l = idle_led q J 0 m.job (f Missing) (i Missing) (inl (ap (λ j. j.at) e))
pop_jobs q J m rest (Some t) f e i l = idle_led q J t (at_job m.job (Running q)) (f (Task (taken_as t m.job.kind))) (i (Task (taken_as t m.job.kind))) (inr (l t refl))

inj_jobs : (q : Party) (J : ℕ → Job) (m : Part) (c : List ℕ) (f : Seen → Move) → m.job ≡ J (or_none (head_of c)) → ((e : Seen) → is_idle (f e) ≡ true) → ((t : ℕ) → head_of c ≡ Some t → leads q (J t).at (Running q) ≡ true)
    → IfSome (pop_injector q m c) (λ r. (t : ℕ) → Led q (J t).at (jobs_after q (f (r.0)) (put J (or_none (head_of c)) (r.1.job)) t).at)
inj_jobs q J m [] f e i l = idle_led q J 0 m.job (f Missing) (i Missing) (inl (ap (λ j. j.at) e))
inj_jobs q J m (t ∷ ts) f e i l = idle_led q J t (at_job m.job (Running q)) (f (Task (taken_as t m.job.kind))) (i (Task (taken_as t m.job.kind))) (inr (l t refl))

cast_jobs : (q : Party) (J : ℕ → Job) (m : Part) (c : List ℕ) (f : Seen → Move) → m.job ≡ J (or_none (head_of c)) → ((e : Seen) → is_idle (f e) ≡ true) → ((t : ℕ) → head_of c ≡ Some t → leads q (J t).at (Running q) ≡ true)
    → IfSome (take_cast q m c) (λ r. (t : ℕ) → Led q (J t).at (jobs_after q (f (r.0)) (put J (or_none (head_of c)) (r.1.job)) t).at)
cast_jobs q J m [] f e i l = idle_led q J 0 m.job (f Missing) (i Missing) (inl (ap (λ j. j.at) e))
cast_jobs q J m (t ∷ ts) f e i l = idle_led q J t (at_job m.job (Running q)) (f (Task (taken_as t m.job.kind))) (i (Task (taken_as t m.job.kind))) (inr (l t refl))

-- what an act leaves of each job
abbrev LedBy : World → Party → Place → Act → Seen × Part → Type 0
LedBy w q x a r = (t : ℕ) → Led q (w.job t).at (jobs_after q (next_of (w.shape.pool (target_pool q a)) q x (r.0)) (put w.job (job_at w q a) (r.1.job)) t).at

abbrev AllLed : World → Party → Place → Seen × Part → Type 0
AllLed w q x r = LedBy w q x (act_of q x) r

-- a job that a call queues is one that it has in hand
plan_own : (n : Plan) → is_gather n ≡ false → 1 ≤ hand_plan (plan_job n) n
plan_own (Gather g) e = cc
plan_own (Detach p t) e = let o : one (t == t) ≡ 1 = one_self t in omega (arith, o)
plan_own (Here p t) e = let o : one (t == t) ≡ 1 = one_self t in omega (arith, o)
plan_own (Send c) e = let o : one (c.job == c.job) ≡ 1 = one_self c.job in omega (arith, o)
plan_own (Open c) e = let o : one (c.job == c.job) ≡ 1 = one_self c.job in omega (arith, o)
plan_own (Entered c) e = let o : one (c.job == c.job) ≡ 1 = one_self c.job in omega (arith, o)
plan_own (Feed c) e = let o : one (c.job == c.job) ≡ 1 = one_self c.job in omega (arith, o)
plan_own (Fork c a) e = let o : one (c.job == c.job) ≡ 1 = one_self c.job in omega (arith, o)

line_detached : (k : JobKind) → has_line k ≡ true → is_detached k ≡ false → ⊥
line_detached (Detached p) e n = cc
line_detached (Scoped c o) e n = cc
line_detached _ e n = cc

-- what was taken back from a FIFO list is waited for by no call
unretaken : (w : World) → IsNear w → (t : ℕ) → is_detached (w.job t).kind ≡ false → (r : Party) → (w.job t).at ≡ Retaken r → ⊥
unretaken w h t n r e = line_detached ((w.job t).kind) (subst (λ v. is_near (w.job t).kind (w.job t).pool (w.job t).bound v ≡ true) e (h t)) n

-- one more record is written, in place of one that was left or brought on
settle_jobs : (q : Party) (J K : ℕ → Job) (k : ℕ) (x : Whereabouts) → ((t : ℕ) → Led q (J t).at (K t).at) → Led q (J k).at x → (t : ℕ) → Led q (J t).at (put K k (at_job (K k) x) t).at
settle_jobs q J K k x f l t = by (t == k) refl
  where
    by : (z : Bool) → (t == k) ≡ z → Led q (J t).at (if z then at_job (K k) x else K t).at
    by true e = subst (λ m. Led q (J m).at x) (sym (eqb-true t k e)) l
    by false e = f t

pieces_jobs : (q : Party) (J K : ℕ → Job) (c : Pieces) (k : Marking) → ((t : ℕ) → Led q (J t).at (K t).at) → ((t : ℕ) → is_piece c t ≡ true → Led q (J t).at (marked k c.pool (t - c.first) (K t)).at) → (t : ℕ) → Led q (J t).at (mark_pieces c k K t).at
pieces_jobs q J K c k f m t = by (is_piece c t) refl
  where
    by : (z : Bool) → is_piece c t ≡ z → Led q (J t).at (if z then marked k c.pool (t - c.first) (K t) else K t).at
    by true e = m t e
    by false e = f t

-- a job that the act touches is left as it was
same_jobs : (q : Party) (J : ℕ → Job) (n : ℕ) (t : ℕ) → Led q (J t).at (put J n (J n) t).at
same_jobs q J n t = put_led q J n (J n) (inl refl) t

-- what a refused call hands back
put_job : (J : ℕ → Job) (a t : ℕ) → ((put J a (at_job (J a) HandedBack) t).at ≡ (J t).at) ⊎ (((put J a (at_job (J a) HandedBack) t).at ≡ HandedBack) × (1 ≤ one (t == a)))
put_job J a t = by (t == a)
  where
    by : (z : Bool) → ((if z then at_job (J a) HandedBack else J t).at ≡ (J t).at) ⊎ (((if z then at_job (J a) HandedBack else J t).at ≡ HandedBack) × (1 ≤ one z))
    by true = inr (refl, omega arith)
    by false = inl refl

two_jobs : (J : ℕ → Job) (a c t : ℕ) → ((put (put J a (at_job (J a) HandedBack)) c (at_job (J c) HandedBack) t).at ≡ (J t).at) ⊎ (((put (put J a (at_job (J a) HandedBack)) c (at_job (J c) HandedBack) t).at ≡ HandedBack) × (1 ≤ one (t == a) + one (t == c)))
two_jobs J a c t = by (t == c)
  where
    by : (z : Bool) → ((if z then at_job (J c) HandedBack else put J a (at_job (J a) HandedBack) t).at ≡ (J t).at) ⊎ (((if z then at_job (J c) HandedBack else put J a (at_job (J a) HandedBack) t).at ≡ HandedBack) × (1 ≤ one (t == a) + one z))
    by true = inr (refl, omega arith)
    by false = elim (put_job J a t) [ inl i ↦ inl i | inr b ↦ inr (b.0, let l : 1 ≤ one (t == a) = b.1 in omega (arith, l)) ]

all_jobs : (c : Pieces) (J : ℕ → Job) (t : ℕ) → ((mark_pieces c Returned J t).at ≡ (J t).at) ⊎ (((mark_pieces c Returned J t).at ≡ HandedBack) × (1 ≤ one (is_piece c t)))
all_jobs c J t = by (is_piece c t)
  where
    by : (z : Bool) → ((if z then marked Returned c.pool (t - c.first) (J t) else J t).at ≡ (J t).at) ⊎ (((if z then marked Returned c.pool (t - c.first) (J t) else J t).at ≡ HandedBack) × (1 ≤ one z))
    by true = inr (refl, omega arith)
    by false = inl refl

handed_job : (n : Plan) (J : ℕ → Job) (t : ℕ) → ((handed_back n J t).at ≡ (J t).at) ⊎ (((handed_back n J t).at ≡ HandedBack) × (1 ≤ hand_plan t n))
handed_job (Detach p a) J t = put_job J a t
handed_job (Here p a) J t = put_job J a t
handed_job (Send o) J t = put_job J o.job t
handed_job (Open o) J t = put_job J o.job t
handed_job (Entered o) J t = put_job J o.job t
handed_job (Fork o a) J t = two_jobs J a o.job t
handed_job (Feed d) J t = two_jobs J d.job d.token t
handed_job (Gather g) J t = all_jobs g.pieces J t

-- what gives a share back keeps it
paid_share : (t : ℕ) (x : Place) → paid t x ≤ share t x
paid_share t (LowerCount k s n) = omega arith
paid_share t (LowerForAll c) = omega arith
paid_share t _ = omega arith

-- a move that spends a token
abbrev is_spending : Move → Bool
is_spending (HandIn y k) = true
is_spending (Discard k) = true
is_spending _ = false

finish_spends : (q : Party) (t : Then) → is_spending (finish q t) ≡ false
finish_spends q (BeginFound g t) = refl
finish_spends q (LeaveWait g) = refl
finish_spends q Resume = refl
finish_spends q Called = refl
finish_spends q (Gathers o) = refl
finish_spends q (Await o) = refl
finish_spends q (RunFirst o a) = refl
finish_spends q (Answers o f e) = refl
finish_spends q (NoAnswer o f) = refl
finish_spends q (Ran t e) = refl
finish_spends q (GiveBack n) = refl

settled_spends : (h : PoolShape) (q : Party) (s : Settling) (l : Latch) → is_spending (after_set h q s l) ≡ false
settled_spends h q s Terminate = by (nat_lt (s.worker + 1) h.workers)
  where
    by : (b : Bool) → is_spending (if b then Stay (SetLatch (record { latch = Terminate; pool = s.pool; worker = s.worker + 1; then = s.then })) else finish q s.then) ≡ false
    by true = refl
    by false = finish_spends q s.then
settled_spends h q s (OfCall c) = finish_spends q s.then

set_spends : (h : PoolShape) (q : Party) (s : Settling) (e : Seen) → is_spending (next_of h q (SetLatch s) e) ≡ false
set_spends h q s Yes = refl
set_spends h q s _ = settled_spends h q s s.latch

abbrev is_begin : Place → Bool
is_begin (BeginTask t) = true
is_begin _ = false

-- only the act that redeems a token spends one
no_spends : (h : Shape) (g : PoolShape) (q : Party) (c : Counts) (m : Part) (x : Place) → is_begin x ≡ false → IfSome (effect (act_of q x) h q c m) (λ r. is_spending (next_of g q x (r.0)) ≡ false)
no_spends h g (Worker i j) c m (ProbeWorking k) z = search (rules, arith)
no_spends h g q c m (BeginTask t) z = cc
no_spends h g q c m (SetLatch s) z = if_some_all {A = Seen × Part} (λ r. is_spending (next_of g q (SetLatch s) (r.0)) ≡ false) (λ r. set_spends g q s (r.0)) (effect (act_of q (SetLatch s)) h q c m)
no_spends h g q c m (UnlockSettled s) z = if_some_all {A = Seen × Part} (λ r. is_spending (next_of g q (UnlockSettled s) (r.0)) ≡ false) (λ r. settled_spends g q s s.latch) (effect (act_of q (UnlockSettled s)) h q c m)
no_spends h g (Worker i j) c m _ z = search (rules, arith)
no_spends h g (Caller n) c m _ z = search (rules, arith)

quiet_begins : (x : Place) → moves_no_job x ≡ true → (is_begin x ≡ false) × (is_dealer x ≡ false)
quiet_begins (BeginTask t) z = cc
quiet_begins (PushForAll c) z = cc
quiet_begins (DealPieces g) z = cc
quiet_begins _ z = (refl, refl)

quiet_gives : (t : ℕ) (x : Place) → moves_no_job x ≡ true → given t x ≡ 0
quiet_gives t (BeginTask u) z = cc
quiet_gives t (BeginHere u) z = cc
quiet_gives t (PushJob n e) z = cc
quiet_gives t (PushToken f e) z = cc
quiet_gives t (AddToFifo f) z = cc
quiet_gives t _ z = refl

-- what a quiet act's move takes from its place, in the world after it
record Moving (u : World) (q : Party) (x : Place) (g : Move) : Type 0 where
  hands : (t : ℕ) → hand_move t g ≡ hand t x
  feeding : (t : ℕ) → fed_move t g ≤ fed t x
  sharing : (t : ℕ) → bare_move t g ≤ bare t x + paid t x
  deals : is_dealing g ≡ false
  spends : is_spending g ≡ false
  says : SaysMove u q g

module _ (w : World) (calls : CallsHold w) (h : IsOnce w) (near : IsNear w) (ret : ReturnsHold w) where
  fed_at : (q : Party) (x : Place) (t : ℕ) → (w.stack q).top ≡ x → 1 ≤ fed t x → (w.job t).at ≡ Made q
  fed_at q x t e l = fed_made w ((calls.jobs).feeds) q t (subst (λ y. 1 ≤ fed t y) (sym e) l)

  with_at : (q : Party) (x : Place) (t : ℕ) → (w.stack q).top ≡ x → 1 ≤ hand t x → is_with q (w.job t).at ≡ true
  with_at q x t e l = with_hand w h q t (subst (λ y. 1 ≤ hand t y) (sym e) l)

  says_at : (q : Party) (x : Place) → (w.stack q).top ≡ x → Says w q x
  says_at q x e = subst (λ y. Says w q y) e ((calls.says q).top)

  queued : (q : Party) (n : Plan) (v : Bool) → (w.stack q).top ≡ PushJob n v → (w.job (plan_job n)).at ≡ Made q
  queued q n v e = fed_at q (PushJob n v) (plan_job n) e (plan_own n (ap queues_whole (sym e) ∙ unqueued w calls q))

  pushed : (q : Party) (n : Plan) (v z : Bool) → (w.stack q).top ≡ PushJob n v → IfSome (outcome_of w q (push_by n z)) (LedBy w q (PushJob n v) (push_by n z))
  pushed q n v true e = put_led q w.job (plan_job n) (at_job (w.job (plan_job n)) (InDeque (own_pool q) (own_index q))) (made_leads q ((w.job (plan_job n)).at) (InDeque (own_pool q) (own_index q)) (queued q n v e) (same_party_refl q))
  pushed q n v false e = put_led q w.job (plan_job n) (at_job (w.job (plan_job n)) (Injected (plan_pool n))) (made_leads q ((w.job (plan_job n)).at) (Injected (plan_pool n)) (queued q n v e) (same_party_refl q))

  token_runs : (q : Party) (k i : ℕ) (o : Option ℕ) → (w.stack q).top ≡ BeginTask (Token k i o) → (w.job k).at ≡ Running q
  token_runs q k i o e = left_running q ((w.job k).at) (with_at q (BeginTask (Token k i o)) k e (let n : one (k == k) ≡ 1 = one_self k in omega (arith, n))) ((says_at q (BeginTask (Token k i o)) e).0)

  plain_led : (q : Party) (t : ℕ) → (w.stack q).top ≡ BeginTask (Plain t) → Led q (w.job t).at (Running q)
  plain_led q t e = inl (sym (left_running q ((w.job t).at) (with_at q (BeginTask (Plain t)) t e (let n : one (t == t) ≡ 1 = one_self t in omega (arith, n))) (says_at q (BeginTask (Plain t)) e)))

  here_led : (q : Party) (t : ℕ) → (w.stack q).top ≡ BeginHere t → Led q (w.job t).at (Running q)
  here_led q t e = start_led q ((w.job t).at) (with_at q (BeginHere t) t e (let n : one (t == t) ≡ 1 = one_self t in omega (arith, n))) (unretaken w near t ((says_at q (BeginHere t) e).kind))

  loud : (q : Party) (x : Place) → (w.stack q).top ≡ x → moves_no_job x ≡ false → (fs : List Place) → IfSome (outcome w q (record { top = x; below = fs })) (AllLed w q x)
  loud (Worker a b) (PopWorking k) e z fs = pop_jobs (Worker a b) w.job (part_at w (Worker a b) (record { top = PopWorking k; below = fs })) _ _ (λ e. next_of (w.shape.pool a) (Worker a b) (PopWorking k) e) refl
      (λ e. takes_idle (w.shape.pool a) (Worker a b) (PopWorking k) e refl) (λ t l. deck_led w h (Worker a b) a b t (own_in ((w.shape.pool a).order) ((w.seat a b).own) t l))
  loud (Caller c) (PopWorking k) e z fs = tt
  loud (Worker a b) (PopIdle k) e z fs = pop_jobs (Worker a b) w.job (part_at w (Worker a b) (record { top = PopIdle k; below = fs })) _ _ (λ e. next_of (w.shape.pool a) (Worker a b) (PopIdle k) e) refl (λ e. takes_idle (w.shape.pool a) (Worker a b) (PopIdle k) e refl)
      (λ t l. deck_led w h (Worker a b) a b t (own_in ((w.shape.pool a).order) ((w.seat a b).own) t l))
  loud (Caller c) (PopIdle k) e z fs = tt
  loud (Worker a b) (JoinPop k) e z fs = pop_jobs (Worker a b) w.job (part_at w (Worker a b) (record { top = JoinPop k; below = fs })) _ _ (λ e. next_of (w.shape.pool a) (Worker a b) (JoinPop k) e) refl (λ e. takes_idle (w.shape.pool a) (Worker a b) (JoinPop k) e refl)
      (λ t l. deck_led w h (Worker a b) a b t (own_in ((w.shape.pool a).order) ((w.seat a b).own) t l))
  loud (Caller c) (JoinPop k) e z fs = tt
  loud (Worker a b) YieldPop e z fs = pop_jobs (Worker a b) w.job (part_at w (Worker a b) (record { top = YieldPop; below = fs })) _ _ (λ e. next_of (w.shape.pool a) (Worker a b) YieldPop e) refl (λ e. takes_idle (w.shape.pool a) (Worker a b) YieldPop e refl)
      (λ t l. deck_led w h (Worker a b) a b t (own_in ((w.shape.pool a).order) ((w.seat a b).own) t l))
  loud (Caller c) YieldPop e z fs = tt
  loud (Worker a b) LocalPop e z fs = pop_jobs (Worker a b) w.job (part_at w (Worker a b) (record { top = LocalPop; below = fs })) _ _ (λ e. next_of (w.shape.pool a) (Worker a b) LocalPop e) refl (λ e. takes_idle (w.shape.pool a) (Worker a b) LocalPop e refl)
      (λ t l. deck_led w h (Worker a b) a b t (own_in ((w.shape.pool a).order) ((w.seat a b).own) t l))
  loud (Caller c) LocalPop e z fs = tt
  loud (Worker a b) (StealFrom k n) e z fs = pop_jobs (Worker a b) w.job (part_at w (Worker a b) (record { top = StealFrom k n; below = fs })) _ _ (λ e. next_of (w.shape.pool a) (Worker a b) (StealFrom k n) e) refl
      (λ e. takes_idle (w.shape.pool a) (Worker a b) (StealFrom k n) e refl) (λ t l. deck_led w h (Worker a b) a (k.victim) t (first_in ((w.seat a (k.victim)).own) t l))
  loud (Caller c) (StealFrom k n) e z fs = tt
  loud (Worker a b) (YieldSteal v n) e z fs = pop_jobs (Worker a b) w.job (part_at w (Worker a b) (record { top = YieldSteal v n; below = fs })) _ _ (λ e. next_of (w.shape.pool a) (Worker a b) (YieldSteal v n) e) refl
      (λ e. takes_idle (w.shape.pool a) (Worker a b) (YieldSteal v n) e refl) (λ t l. deck_led w h (Worker a b) a v t (first_in ((w.seat a v).own) t l))
  loud (Caller c) (YieldSteal v n) e z fs = tt
  loud (Worker a b) (PopInjected k) e z fs = inj_jobs (Worker a b) w.job (part_at w (Worker a b) (record { top = PopInjected k; below = fs })) _ (λ e. next_of (w.shape.pool a) (Worker a b) (PopInjected k) e) refl
      (λ e. takes_idle (w.shape.pool a) (Worker a b) (PopInjected k) e refl) (λ t l. inj_led w h (Worker a b) a t (first_in ((w.pool a).injector) t l))
  loud (Caller c) (PopInjected k) e z fs = tt
  loud (Worker a b) YieldPopInjected e z fs = inj_jobs (Worker a b) w.job (part_at w (Worker a b) (record { top = YieldPopInjected; below = fs })) _ (λ e. next_of (w.shape.pool a) (Worker a b) YieldPopInjected e) refl
      (λ e. takes_idle (w.shape.pool a) (Worker a b) YieldPopInjected e refl) (λ t l. inj_led w h (Worker a b) a t (first_in ((w.pool a).injector) t l))
  loud (Caller c) YieldPopInjected e z fs = tt
  loud (Worker a b) (TakeCastWorking k) e z fs = cast_jobs (Worker a b) w.job (part_at w (Worker a b) (record { top = TakeCastWorking k; below = fs })) _ (λ e. next_of (w.shape.pool a) (Worker a b) (TakeCastWorking k) e) refl
      (λ e. takes_idle (w.shape.pool a) (Worker a b) (TakeCastWorking k) e refl) (λ t l. cast_led w h (Worker a b) a b t (first_in ((w.pool a).casts b) t l))
  loud (Caller c) (TakeCastWorking k) e z fs = tt
  loud (Worker a b) (TakeCastIdle k) e z fs = cast_jobs (Worker a b) w.job (part_at w (Worker a b) (record { top = TakeCastIdle k; below = fs })) _ (λ e. next_of (w.shape.pool a) (Worker a b) (TakeCastIdle k) e) refl
      (λ e. takes_idle (w.shape.pool a) (Worker a b) (TakeCastIdle k) e refl) (λ t l. cast_led w h (Worker a b) a b t (first_in ((w.pool a).casts b) t l))
  loud (Caller c) (TakeCastIdle k) e z fs = tt
  loud (Worker a b) (JoinTakeCast k) e z fs = cast_jobs (Worker a b) w.job (part_at w (Worker a b) (record { top = JoinTakeCast k; below = fs })) _ (λ e. next_of (w.shape.pool a) (Worker a b) (JoinTakeCast k) e) refl
      (λ e. takes_idle (w.shape.pool a) (Worker a b) (JoinTakeCast k) e refl) (λ t l. cast_led w h (Worker a b) a b t (first_in ((w.pool a).casts b) t l))
  loud (Caller c) (JoinTakeCast k) e z fs = tt
  loud (Worker a b) YieldTakeCast e z fs = cast_jobs (Worker a b) w.job (part_at w (Worker a b) (record { top = YieldTakeCast; below = fs })) _ (λ e. next_of (w.shape.pool a) (Worker a b) YieldTakeCast e) refl
      (λ e. takes_idle (w.shape.pool a) (Worker a b) YieldTakeCast e refl) (λ t l. cast_led w h (Worker a b) a b t (first_in ((w.pool a).casts b) t l))
  loud (Caller c) YieldTakeCast e z fs = tt
  loud (Worker a b) LocalTakeCast e z fs = cast_jobs (Worker a b) w.job (part_at w (Worker a b) (record { top = LocalTakeCast; below = fs })) _ (λ e. next_of (w.shape.pool a) (Worker a b) LocalTakeCast e) refl
      (λ e. takes_idle (w.shape.pool a) (Worker a b) LocalTakeCast e refl) (λ t l. cast_led w h (Worker a b) a b t (first_in ((w.pool a).casts b) t l))
  loud (Caller c) LocalTakeCast e z fs = tt
  loud (Worker a b) (BeginTask (Plain t)) e z fs = put_led (Worker a b) w.job t (begun (Worker a b) (w.job t)) (plain_led (Worker a b) t e)
  loud (Worker a b) (BeginHere t) e z fs = put_led (Worker a b) w.job t (begun (Worker a b) (w.job t)) (here_led (Worker a b) t e)
  loud (Worker a b) (BeginTask (Token k i o)) e z fs = out_sees (AllLed w (Worker a b) (BeginTask (Token k i o))) (Worker a b) (part_at w (Worker a b) (record { top = BeginTask (Token k i o); below = fs })) o
      (settle_jobs (Worker a b) w.job (put w.job (job_at w (Worker a b) (FifoOut k i o)) (w.job (job_at w (Worker a b) (FifoOut k i o)))) k Spent (same_jobs (Worker a b) w.job (job_at w (Worker a b) (FifoOut k i o))) (spent_led (Worker a b) ((w.job k).at) (token_runs
      (Worker a b) k i o e)))
      (λ u us l. settle_jobs (Worker a b) w.job (put w.job (job_at w (Worker a b) (FifoOut k i o)) (begun (Worker a b) (w.job (job_at w (Worker a b) (FifoOut k i o))))) k Spent (put_led (Worker a b) w.job (job_at w (Worker a b) (FifoOut k i o)) (begun (Worker a b) (w.job
      (job_at w (Worker a b) (FifoOut k i o)))) (inr (subst (λ y. leads (Worker a b) (w.job (or_none (head_of y))).at (Running (Worker a b)) ≡ true) (sym l) ((line_led w h (Worker a b) a i o u (first_in ((w.seat a i).fifo o) u (ap head_of l))).0))))
      (spent_led (Worker a b) ((w.job k).at) (token_runs (Worker a b) k i o e)))
  loud (Worker a b) (PushJob n v) e z fs = pushed (Worker a b) n v (is_member (Worker a b) (plan_pool n)) e
  loud (Worker a b) (PushForAll c) e z fs = pieces_jobs (Worker a b) w.job (put w.job 0 (w.job 0)) c Queued (same_jobs (Worker a b) w.job 0)
      (λ t y. made_leads (Worker a b) ((w.job t).at) (InCast c.pool (t - c.first)) (fed_at (Worker a b) (PushForAll c) t e (let n : one (is_piece c t) ≡ 1 = ap one y in omega (arith, n))) (same_party_refl (Worker a b)))
  loud (Worker a b) (DealPieces g) e z fs = pieces_jobs (Worker a b) w.job (put w.job 0 (w.job 0)) g.pieces Dealt (same_jobs (Worker a b) w.job 0)
      (λ t y. made_leads (Worker a b) ((w.job t).at) (InCast g.pieces.pool (t - g.pieces.first)) (fed_at (Worker a b) (DealPieces g) t e (let n : one (is_piece g.pieces t) ≡ 1 = ap one y in omega (arith, n))) (same_party_refl (Worker a b)))
  loud (Caller c) (BeginTask (Plain t)) e z fs = put_led (Caller c) w.job t (begun (Caller c) (w.job t)) (plain_led (Caller c) t e)
  loud (Caller c) (BeginHere t) e z fs = put_led (Caller c) w.job t (begun (Caller c) (w.job t)) (here_led (Caller c) t e)
  loud (Caller c) (BeginTask (Token k i o)) e z fs = out_sees (AllLed w (Caller c) (BeginTask (Token k i o))) (Caller c) (part_at w (Caller c) (record { top = BeginTask (Token k i o); below = fs })) o
      (settle_jobs (Caller c) w.job (put w.job (job_at w (Caller c) (FifoOut k i o)) (w.job (job_at w (Caller c) (FifoOut k i o)))) k Spent (same_jobs (Caller c) w.job (job_at w (Caller c) (FifoOut k i o))) (spent_led (Caller c) ((w.job k).at) (token_runs
      (Caller c) k i o e)))
      (λ u us l. settle_jobs (Caller c) w.job (put w.job (job_at w (Caller c) (FifoOut k i o)) (begun (Caller c) (w.job (job_at w (Caller c) (FifoOut k i o))))) k Spent (put_led (Caller c) w.job (job_at w (Caller c) (FifoOut k i o)) (begun (Caller c) (w.job (job_at w
      (Caller c) (FifoOut k i o)))) (inr (subst (λ y. leads (Caller c) (w.job (or_none (head_of y))).at (Running (Caller c)) ≡ true) (sym l) ((line_led w h (Caller c) 0 i o u (first_in ((w.seat 0 i).fifo o) u (ap head_of l))).0))))
      (spent_led (Caller c) ((w.job k).at) (token_runs (Caller c) k i o e)))
  loud (Caller c) (PushJob n v) e z fs = pushed (Caller c) n v (is_member (Caller c) (plan_pool n)) e
  loud (Caller n) (PushForAll c) e z fs = pieces_jobs (Caller n) w.job (put w.job 0 (w.job 0)) c Queued (same_jobs (Caller n) w.job 0)
      (λ t y. made_leads (Caller n) ((w.job t).at) (InCast c.pool (t - c.first)) (fed_at (Caller n) (PushForAll c) t e (let n : one (is_piece c t) ≡ 1 = ap one y in omega (arith, n))) (same_party_refl (Caller n)))
  loud (Caller c) (DealPieces g) e z fs = pieces_jobs (Caller c) w.job (put w.job 0 (w.job 0)) g.pieces Dealt (same_jobs (Caller c) w.job 0)
      (λ t y. made_leads (Caller c) ((w.job t).at) (InCast g.pieces.pool (t - g.pieces.first)) (fed_at (Caller c) (DealPieces g) t e (let n : one (is_piece g.pieces t) ≡ 1 = ap one y in omega (arith, n))) (same_party_refl (Caller c)))
  loud (Worker a b) (PushToken f v) e z fs = put_led (Worker a b) w.job f.token (at_job (w.job f.token) (InDeque a b))
      (made_leads (Worker a b) ((w.job f.token).at) (InDeque a b) (fed_at (Worker a b) (PushToken f v) f.token e (let n : one (f.token == f.token) ≡ 1 = one_self f.token in omega (arith, n))) (same_party_refl (Worker a b)))
  loud (Caller c) (PushToken f v) e z fs = tt
  loud (Worker a b) (AddToFifo f) e z fs = if_cond (AllLed w (Worker a b) (AddToFifo f)) (is_open (Worker a b) ((w.seat a b).feeder (count_book f.count))) _
      (λ o. put_led (Worker a b) w.job f.job (at_job (w.job f.job) (InFifo a b (count_book f.count))) (made_leads (Worker a b) ((w.job f.job).at) (InFifo a b (count_book f.count)) (fed_at (Worker a b) (AddToFifo f) f.job e (let n : one
      (f.job == f.job) ≡ 1 = one_self f.job in omega (arith, n))) (same_party_refl (Worker a b))))
  loud (Caller c) (AddToFifo f) e z fs = tt
  loud (Worker a b) (TakeFromFifo f) e z fs = undo_sees (AllLed w (Worker a b) (TakeFromFifo f)) (Worker a b) (part_at w (Worker a b) (record { top = TakeFromFifo f; below = fs })) (count_book f.count)
      (settle_jobs (Worker a b) w.job (put w.job (job_at w (Worker a b) (FifoUndo (count_book f.count))) (w.job (job_at w (Worker a b) (FifoUndo (count_book f.count))))) f.token HandedBack (same_jobs (Worker a b) w.job (job_at w (Worker a b) (FifoUndo (count_book f.count))))
      (made_leads (Worker a b) ((w.job f.token).at) HandedBack (fed_at (Worker a b) (TakeFromFifo f) f.token e (let n : one (f.token == f.token) ≡ 1 = one_self f.token in omega (arith, n))) (same_party_refl (Worker a b))))
      (λ u l. put_led (Worker a b) w.job (job_at w (Worker a b) (FifoUndo (count_book f.count))) (at_job (w.job (job_at w (Worker a b) (FifoUndo (count_book f.count)))) (Retaken (Worker a b))) (inr (subst (λ y. leads (Worker a b) (w.job (or_none y)).at (Retaken
      (Worker a b)) ≡ true) (sym l) ((line_led w h (Worker a b) a b (count_book f.count) u (last_in ((w.seat a b).fifo (count_book f.count)) u l)).1))))
  loud (Caller c) (TakeFromFifo f) e z fs = tt
  loud q _ e z fs = cc

  -- a detached job that was taken to be run has its share itself: no party is to give it back, or has it without one
  unshared : (q : Party) (x : Place) (t : ℕ) (r : Party) → (w.stack q).top ≡ x → is_detached (w.job t).kind ≡ true → (w.job t).at ≡ Running r → 1 ≤ bare t x + paid t x → ⊥
  unshared q x t r e d a l = absurd (
      let own : keeps_own (w.job t) ≡ true = both in
      let one_own : with_job (w.job t) ≡ 1 = ap one own in
      let alone : shares t (w.stack q) + with_job (w.job t) ≤ one (w.job t).counted = ((ret.shares).jobs t).alone q in
      let has : (w.job t).counted ≡ true = one_is ((w.job t).counted) (omega (arith, alone, one_own)) in
      let cap : one (w.job t).counted ≡ 1 = ap one has in
      let none : all_bare t (w.stack q) + backs (w.job t).at ≤ 0 = ret.bare q t has in
      let top : bare t (w.stack q).top ≡ bare t x = ap (bare t) e in
      let gives : share t (w.stack q).top ≡ share t x = ap (share t) e in
      let kept : paid t x ≤ share t x = paid_share t x in
      omega (arith, alone, one_own, cap, none, top, gives, kept, l))
    where
      both : (is_detached (w.job t).kind && is_busy (w.job t).at) ≡ true
      both = let b : is_busy (w.job t).at ≡ true = ap is_busy a in rw d b

module _ (w : World) (calls : CallsHold w) (h : IsOnce w) (near : IsNear w) (ret : ReturnsHold w) (u : World) (kinds : (t : ℕ) → (u.job t).kind ≡ (w.job t).kind) (q : Party) (x : Place) (e : (w.stack q).top ≡ x) where
  unmade : (t : ℕ) (r : Party) → (w.job t).at ≡ Running r → 1 ≤ fed t x → ⊥
  unmade t r a l = absurd (let c : Made q ≡ Running r = sym (fed_at w calls h near ret q x t e l) ∙ a in cc)

  unrun : (n : Plan) (t : ℕ) (r : Party) → SaysBack u n → fed_back t n ≤ fed t x → hand_plan t n ≤ bare t x + paid t x → 1 ≤ hand_plan t n → (w.job t).at ≡ Running r → ⊥
  unrun (Feed d) t r s f b l a = by (t == d.job) refl
    where
      by : (z : Bool) → (t == d.job) ≡ z → ⊥
      by true y = unshared w calls h near ret q x t r e (ap is_detached (sym (kinds t)) ∙ ap (λ i. is_detached (u.job i).kind) (eqb-true t d.job y) ∙ s.0) a (omega (arith, b, l))
      by false y = unmade t r a (let o : one (t == d.job) ≡ 0 = ap one y in omega (arith, f, l, o))
  unrun (Detach p j) t r s f b l a = unmade t r a (omega (arith, f, l))
  unrun (Here p j) t r s f b l a = unmade t r a (omega (arith, f, l))
  unrun (Send o) t r s f b l a = unmade t r a (omega (arith, f, l))
  unrun (Open o) t r s f b l a = unmade t r a (omega (arith, f, l))
  unrun (Entered o) t r s f b l a = unmade t r a (omega (arith, f, l))
  unrun (Fork o j) t r s f b l a = unmade t r a (omega (arith, f, l))
  unrun (Gather g) t r s f b l a = unmade t r a (omega (arith, f, l))

  returns : (c : Pieces) (J : ℕ → Job) → ((t : ℕ) → (J t).at ≡ (w.job t).at) → ((t : ℕ) → one (is_piece c t) ≤ fed t x) → (t : ℕ) → Led q (w.job t).at (mark_pieces c Returned J t).at
  returns c J s f t = pieces_jobs q w.job J c Returned (λ t. inl (s t)) (λ t y. made_leads q ((w.job t).at) HandedBack (fed_at w calls h near ret q x t e (let n : one (is_piece c t) ≡ 1 = ap one y in let l : one (is_piece c t) ≤ fed t x = f t in omega (arith, n, l)))
      (same_party_refl q)) t

  moved : (g : Move) → Moving u q x g → (J : ℕ → Job) → ((t : ℕ) → (J t).at ≡ (w.job t).at) → (t : ℕ) → Led q (w.job t).at (jobs_after q g J t).at
  moved (Stay y) m J s t = inl (s t)
  moved (Enter f y) m J s t = inl (s t)
  moved Back m J s t = inl (s t)
  moved (HandIn y k) m J s t = absurd (let z : true ≡ false = m.spends in cc)
  moved (Discard k) m J s t = absurd (let z : true ≡ false = m.spends in cc)
  moved (Mark y c Queued) m J s t = absurd (let z : true ≡ false = m.deals in cc)
  moved (Mark y c Dealt) m J s t = absurd (let z : true ≡ false = m.deals in cc)
  moved (Mark y c Counted) m J s t = inl (pieces_same (λ j. j.at) c (marked Counted c.pool) J t (λ i j. refl) ∙ s t)
  moved (Mark y c (Numbered n)) m J s t = inl (pieces_same (λ j. j.at) c (marked (Numbered n) c.pool) J t (λ i j. refl) ∙ s t)
  moved (Mark y c Unnumbered) m J s t = inl (pieces_same (λ j. j.at) c (marked Unnumbered c.pool) J t (λ i j. refl) ∙ s t)
  moved (Mark y c Returned) m J s t = returns c J s (λ t. let f : fed t y + one (is_piece c t) ≤ fed t x = m.feeding t in omega (arith, f)) t
  moved (HandAllBack c) m J s t = returns c J s (λ t. m.feeding t) t
  moved (HandBack n) m J s t = elim (handed_job n J t) [
    | inl i ↦ inl (i ∙ s t)
    | inr b ↦ subst (λ v. Led q (w.job t).at v) (sym (b.0)) (back_led q ((w.job t).at) (with_at w calls h near ret q x t e (let a : hand_plan t n ≡ hand t x = m.hands t in let l : 1 ≤ hand_plan t n = b.1 in omega (arith, a, l)))
        (λ r a. unrun n t r (m.says) (m.feeding t) (m.sharing t) (b.1) a))
  ]
  moved (StartRun f a) m J s t = by (t == a) refl
    where
      by : (z : Bool) → (t == a) ≡ z → Led q (w.job t).at (if z then begun q (J a) else J t).at
      by true y = start_led q ((w.job t).at) (with_at w calls h near ret q x t e (let n : one (t == a) ≡ 1 = ap one y in let l : one (t == a) + hand t f ≡ hand t x = m.hands t in omega (arith, n, l)))
          (unretaken w near t (ap is_detached (sym (kinds t)) ∙ ap (λ i. is_detached (u.job i).kind) (eqb-true t a y) ∙ ((m.says).2).kind))
      by false y = inl (s t)

-- what is known of an act where it writes no job itself
record Known (w : World) (q : Party) (r : Seen × Part) : Type 0 where
  same : SameJobs (part_at w q (w.stack q)) r
  tables : (t : ℕ) → (hand_move t (next_at w q (w.stack q) (r.0)) + given t (w.stack q).top) ≡ (hand t (w.stack q).top + got t (r.0))
  deals : is_dealing (next_at w q (w.stack q) (r.0)) ≡ false
  spends : is_spending (next_at w q (w.stack q) (r.0)) ≡ false
  static : Static (place_part w q (w.stack q).top) r
  learned : Learned w.shape q (place_part w q (w.stack q).top) (w.stack q).top r
  kept : Kept w (result w q (w.stack q) r)

module _ (w : World) (calls : CallsHold w) (h : IsOnce w) (near : IsNear w) (ret : ReturnsHold w) where
  quiet : (q : Party) (r : Seen × Part) → moves_no_job (w.stack q).top ≡ true → Known w q r → AllLed w q (w.stack q).top r
  quiet q r z k = moved w calls h near ret u (last.kinds) q x refl g (record {
    hands = λ t. (let a : hand_move t g + given t x ≡ hand t x + got t (r.0) = k.tables t in let b : got t (r.0) ≡ 0 = ((k.same).nothing t).0 in let c : given t x ≡ 0 = quiet_gives t x z in omega (arith, a, b, c));
    feeding = λ t. feds (w.shape.pool (target_pool q (act_of q x))) q t x (r.0);
    sharing = λ t. bares (w.shape.pool (target_pool q (act_of q x))) q t x (r.0);
    deals = k.deals;
    spends = k.spends;
    says = says_next u (w.shape.pool (target_pool q (act_of q x))) q x (r.0) (learns w q x (w.stack q).below r calls refl (k.kept) last (k.learned)) (later_says w u (last.later) q x ((calls.says q).top));
  }) (put w.job (job_at w q (act_of q x)) (r.1.job)) (λ t. put_same (λ j. j.at) w.job (job_at w q (act_of q x)) (r.1.job) t ((k.same).at))
    where
      x : Place
      x = (w.stack q).top

      g : Move
      g = next_at w q (w.stack q) (r.0)

      u : World
      u = result w q (w.stack q) r

      last : Lasting w u
      last = lasting w q (w.stack q) (target_pool q (act_of q x)) (target_worker q (act_of q x)) (target_call (act_of q x)) (job_at w q (act_of q x)) r (k.static) (k.kept)

  known : (q : Party) → moves_no_job (w.stack q).top ≡ true → IfSome (outcome w q (w.stack q)) (Known w q)
  known q z = if_some_map (λ r. (SameJobs m r × ((t : ℕ) → (hand_move t (next_at w q k (r.0)) + given t k.top) ≡ (hand t k.top + got t (r.0)))) × (((is_dealing (next_at w q k (r.0)) ≡ false) × (is_spending (next_at w q k (r.0)) ≡ false)) ×
      ((Static m r × Learned w.shape q m k.top r) × Kept w (result w q k r)))) (Known w q)
      (λ r f. record { same = (f.0).0; tables = (f.0).1; deals = ((f.1).0).0; spends = ((f.1).0).1; static = (((f.1).1).0).0; learned = (((f.1).1).0).1; kept = ((f.1).1).1 }) o
      (if_some_and (λ r. SameJobs m r × ((t : ℕ) → (hand_move t (next_at w q k (r.0)) + given t k.top) ≡ (hand t k.top + got t (r.0)))) (λ r. ((is_dealing (next_at w q k (r.0)) ≡ false) × (is_spending (next_at w q k (r.0)) ≡ false)) ×
      ((Static m r × Learned w.shape q m k.top r) × Kept w (result w q k r))) o
      (if_some_and (SameJobs m) (λ r. (t : ℕ) → (hand_move t (next_at w q k (r.0)) + given t k.top) ≡ (hand t k.top + got t (r.0))) o (quiet_same w.shape q (counts_seen w q k) m k.top z)
      (if_some_each (λ t r. (hand_move t (next_at w q k (r.0)) + given t k.top) ≡ (hand t k.top + got t (r.0))) o (λ t. table w.shape (shape_at w q k) q (counts_seen w q k) m t k.top)))
      (if_some_and (λ r. (is_dealing (next_at w q k (r.0)) ≡ false) × (is_spending (next_at w q k (r.0)) ≡ false)) (λ r. (Static m r × Learned w.shape q m k.top r) × Kept w (result w q k r)) o
      (if_some_and (λ r. is_dealing (next_at w q k (r.0)) ≡ false) (λ r. is_spending (next_at w q k (r.0)) ≡ false) o (no_deals w.shape (shape_at w q k) q (counts_seen w q k) m k.top ((quiet_begins k.top z).1)) (no_spends w.shape (shape_at w q k) q (counts_seen w q k) m k.top
      ((quiet_begins k.top z).0)))
      (if_some_and (λ r. Static m r × Learned w.shape q m k.top r) (λ r. Kept w (result w q k r)) o
      (if_some_and (Static m) (Learned w.shape q m k.top) o (act_static w.shape q (counts_seen w q k) m k.top) (act_learned w.shape q (counts_seen w q k) m k.top))
      (go_kept w q (unqueued w calls q) ((calls.jobs).feeds) ((calls.jobs).ok)))))
    where
      k : Stack
      k = w.stack q

      m : Part
      m = part_at w q k

      o : Outcome
      o = outcome w q k

  go_led : (q : Party) → IfSome (outcome w q (w.stack q)) (AllLed w q (w.stack q).top)
  go_led q = elim (either (moves_no_job (w.stack q).top)) [
    | inl z ↦ if_some_map (Known w q) (AllLed w q (w.stack q).top) (λ r k. quiet q r z k) (outcome w q (w.stack q)) (known q z)
    | inr z ↦ loud w calls h near ret q (w.stack q).top refl z (w.stack q).below
  ]

-- a step for each job that was made before it
abbrev AllMoves : World → Event → World → Type 0
AllMoves w e v = (t : ℕ) → t < w.jobs → MovesSo w v e t

go_moves : (w : World) → CallsHold w → IsOnce w → IsNear w → ReturnsHold w → (q : Party) → IfSome (step w (Go q)) (AllMoves w (Go q))
go_moves w c h n r q = acted_keeps w q k (target_pool q (act_of q k.top)) (target_worker q (act_of q k.top)) (target_call (act_of q k.top)) (job_at w q (act_of q k.top)) (outcome w q k) (AllMoves w (Go q))
    (if_some_map (AllLed w q k.top) (λ r. AllMoves w (Go q) (result w q k r)) (λ r f t l. elim (f t) [ inl e ↦ inl e | inr y ↦ inr (inl (record { party = q; act = refl; row = y })) ]) (outcome w q k) (go_led w c h n r q))
  where
    k : Stack
    k = w.stack q

-- an event that is no act, and ends no run, moves no job that was made before it
abbrev Rests : World → World → Type 0
Rests w v = (t : ℕ) → t < w.jobs → (v.job t).at ≡ (w.job t).at

-- a number that was given out before is none of those from here on
old_job : (t n k : ℕ) → t < n → (t == (n + k)) ≡ true → ⊥
old_job t n k l e = absurd (let s : t ≡ n + k = eqb-true t (n + k) e in omega (arith, l, s))

one_rests : (w : World) (j : Job) (t : ℕ) → t < w.jobs → (put w.job w.jobs j t).at ≡ (w.job t).at
one_rests w j t l = by (t == w.jobs) refl
  where
    by : (z : Bool) → (t == w.jobs) ≡ z → (if z then j else w.job t).at ≡ (w.job t).at
    by true e = absurd (let s : t ≡ w.jobs = eqb-true t w.jobs e in omega (arith, l, s))
    by false e = refl

two_rests : (w : World) (j k : Job) (t : ℕ) → t < w.jobs → (put (put w.job w.jobs j) (w.jobs + 1) k t).at ≡ (w.job t).at
two_rests w j k t l = by (t == (w.jobs + 1)) refl
  where
    by : (z : Bool) → (t == (w.jobs + 1)) ≡ z → (if z then k else put w.job w.jobs j t).at ≡ (w.job t).at
    by true e = absurd (old_job t w.jobs 1 l e)
    by false e = one_rests w j t l

deal_rests : (w : World) (c : Pieces) (f : ℕ → Job → Job) (t : ℕ) → c.first ≡ w.jobs → t < w.jobs → (put_pieces c f w.job t).at ≡ (w.job t).at
deal_rests w c f t is l = by (is_piece c t) refl
  where
    by : (z : Bool) → is_piece c t ≡ z → (if z then f (t - c.first) (w.job t) else w.job t).at ≡ (w.job t).at
    by true e = absurd (let a : c.first ≤ t = (piece_range c t e).0 in omega (arith, a, is, l))
    by false e = refl

gather_rests : (w : World) (q : Party) (p : ℕ) → Rests w (after_gather w q p (w.stack q))
gather_rests w q p t l = by (t == (w.jobs + c.workers)) refl
  where
    c : Pieces
    c = record { count = OfCast w.calls q; pool = p; first = w.jobs; workers = (w.shape.pool p).workers }

    by : (z : Bool) → (t == (w.jobs + c.workers)) ≡ z → (if z then new_whole q p w.calls else put_pieces c (λ i j. new_piece q c.count p i) w.job t).at ≡ (w.job t).at
    by true e = absurd (old_job t w.jobs (c.workers) l e)
    by false e = deal_rests w c (λ i j. new_piece q c.count p i) t refl l

from_rests : (w : World) (q : Party) (s : Stack) (x : Place) (v : ℕ) → IfSome (after_choice w q s x v) (Rests w)
from_rests w q s (PickVictim k) v = if_cond (Rests w) _ _ (λ b t l. refl)
from_rests w q s YieldPick v = if_cond (Rests w) _ _ (λ b t l. refl)
from_rests w q s _ v = tt

miss_rests : (w : World) (q : Party) (s : Stack) (x : Place) → IfSome (after_miss w q s x) (Rests w)
miss_rests w (Worker a b) s (StealFrom k n) = if_cond (Rests w) _ _ (λ b t l. refl)
miss_rests w (Worker a b) s (YieldSteal v n) = if_cond (Rests w) _ _ (λ b t l. refl)
miss_rests w (Worker a b) s _ = tt
miss_rests w (Caller n) s _ = tt

sent_rests : (w : World) (q : Party) (p : ℕ) (b : Bool) → Rests w (after_send w q p (w.stack q) b)
sent_rests w q p true t l = one_rests w (new_job q p Direct) t l
sent_rests w q p false t l = one_rests w (new_job q p (Stored w.calls q)) t l

join_rests : (w : World) (q : Party) → IfSome (after_join w q (w.stack q)) (Rests w)
join_rests w (Caller n) = tt
join_rests w (Worker a b) = if_cond (Rests w) (is_free (w.stack (Worker a b)).top) _ (λ z t l. two_rests w _ _ t l)

yield_rests : (w : World) (q : Party) (x : Place) → IfSome (after_yield w q (w.stack q) x) (Rests w)
yield_rests w (Worker a b) x = if_cond (Rests w) _ _ (λ b t l. refl)
yield_rests w (Caller n) x = tt

feed_rests : (w : World) (k : Count) (p i : ℕ) → Rests w (after_feed w k p i (w.stack (Worker p i)))
feed_rests w k p i t l = two_rests w _ _ t l

dealt_rests : (w : World) (q : Party) (k : Count) (p : ℕ) → Rests w (after_deal w q k p (w.stack q))
dealt_rests w q k p t l = deal_rests w (record { count = k; pool = p; first = w.jobs; workers = (w.shape.pool p).workers }) (λ i j. new_piece q k p i) t refl l

-- who runs a job has it by its record
runs_at : (w : World) → IsOnce w → (q : Party) (n : ℕ) (k : JobKind) → (w.stack q).top ≡ Run n k → (w.job n).at ≡ Running q
runs_at w h q n k e = by ((w.job n).at) (and_parts (runs_with q (w.job n).at) ((w.job n).runs == 1) (one_is (runs_with q (w.job n).at && ((w.job n).runs == 1)) (
    let a : worked n (w.stack q) ≡ one (runs_with q (w.job n).at && ((w.job n).runs == 1)) = h.running q n in
    let b : run_of n (w.stack q).top ≡ one (n == n) = ap (run_of n) e in
    let d : one (n == n) ≡ 1 = one_self n in
    omega (arith, a, b, d)))).0
  where
    by : (v : Whereabouts) → runs_with q v ≡ true → v ≡ Running q
    by (Running r) z = ap Running (sym (same_party_true q r z))
    by _ z = cc

end_moves : (w : World) → IsOnce w → (q : Party) (d : Ending) (x : Place) → (w.stack q).top ≡ x → IfSome (after_end w q d (w.stack q) x) (AllMoves w (End q d))
end_moves w h q d (Run n k) e = λ t l. by t (t == n) refl
  where
    v : World
    v = record w { stack = put_stack w.stack q (after_close n k d (w.stack q).below); job = put w.job n (at_job (w.job n) (Over d)) }

    by : (t : ℕ) (z : Bool) → (t == n) ≡ z → MovesSo w v (End q d) t
    by t true z = inr (inr (record {
      party = q;
      ending = d;
      event = refl;
      before = ap (λ m. (w.job m).at) (eqb-true t n z) ∙ runs_at w h q n k e;
      after = ap (λ m. (put w.job n (at_job (w.job n) (Over d)) m).at) (eqb-true t n z) ∙ ap (λ j. j.at) (put_new w.job n (at_job
          (w.job n) (Over d)));
    }))
    by t false z = inl (ap (λ j. j.at) (put_old w.job n (at_job (w.job n) (Over d)) t z))
end_moves w h q d _ e = tt

-- a step that moves none
rested : (w : World) (e : Event) (o : Option World) → IfSome o (Rests w) → IfSome o (AllMoves w e)
rested w e o f = if_some_map (Rests w) (AllMoves w e) (λ v r t l. inl (r t l)) o f

each_moves : (w : World) → CallsHold w → IsOnce w → IsNear w → ReturnsHold w → (e : Event) → IfSome (step w e) (AllMoves w e)
each_moves w c h n r (Go q) = go_moves w c h n r q
each_moves w c h n r (End q d) = end_moves w h q d (w.stack q).top refl
each_moves w c h n r (From q v) = rested w (From q v) (step w (From q v)) (from_rests w q (w.stack q) (w.stack q).top v)
each_moves w c h n r (Refuse q) = rested w (Refuse q) (step w (Refuse q)) (if_cond (Rests w) _ _ (λ b t l. refl))
each_moves w c h n r (Miss q) = rested w (Miss q) (step w (Miss q)) (miss_rests w q (w.stack q) (w.stack q).top)
each_moves w c h n r (Spawn q p) = rested w (Spawn q p) (step w (Spawn q p)) (if_cond (Rests w) _ _ (λ b t l. one_rests w _ t l))
each_moves w c h n r (Fifo q p) = rested w (Fifo q p) (step w (Fifo q p)) (fifo_cases (Rests w) w q p (if_cond (Rests w) _ _ (λ b t l. one_rests w _ t l)) (λ i free. feed_rests w (OfPool p) p i))
each_moves w c h n r (Cast q p) = rested w (Cast q p) (step w (Cast q p)) (if_cond (Rests w) (is_free ((w.stack q).top) && is_pool w.shape p) _ (λ b. dealt_rests w q (OfPool p) p))
each_moves w c h n r (Install q p) = rested w (Install q p) (step w (Install q p)) (if_cond (Rests w) _ _ (λ b. sent_rests w q p (is_member q p)))
each_moves w c h n r (Join q) = rested w (Join q) (step w (Join q)) (join_rests w q)
each_moves w c h n r (OpenScope q p) = rested w (OpenScope q p) (step w (OpenScope q p)) (if_cond (Rests w) _ _ (λ b t l. one_rests w _ t l))
each_moves w c h n r (IntoSpawn q k) = rested w (IntoSpawn q k) (step w (IntoSpawn q k)) (into_cases (Rests w) w q k (λ z e free held. if_cond (Rests w) _ _ (λ b t l. one_rests w _ t l)))
each_moves w c h n r (IntoFifo q k) = rested w (IntoFifo q k) (step w (IntoFifo q k)) (into_fifo_cases (Rests w) w q k (λ z e free held. if_cond (Rests w) _ _ (λ b t l. one_rests w _ t l)) (λ z i e free held. feed_rests w (OfScope z.call z.owner) z.pool i))
each_moves w c h n r (IntoCast q k) = rested w (IntoCast q k) (step w (IntoCast q k)) (into_cast_cases (Rests w) w q k (λ z e free held. dealt_rests w q (OfScope z.call z.owner) z.pool))
each_moves w c h n r (Broadcast q p) = rested w (Broadcast q p) (step w (Broadcast q p)) (if_cond (Rests w) (is_free ((w.stack q).top) && is_pool w.shape p) _ (λ b. gather_rests w q p))
each_moves w c h n r (Yield q) = rested w (Yield q) (step w (Yield q)) (yield_rests w q YieldPop)
each_moves w c h n r (YieldLocal q) = rested w (YieldLocal q) (step w (YieldLocal q)) (yield_rests w q LocalPop)
each_moves w c h n r (EndPool q p) = rested w (EndPool q p) (step w (EndPool q p)) (if_cond (Rests w) _ _ (λ b t l. refl))

pub moves_law : MovesLaw
moves_law h es w v e t r s l = made (AllMoves w e) w v e s (each_moves w (always_calls h es w r) (always_once h es w r) (always_near h es w r) (always_returns h es w r) e) t l
