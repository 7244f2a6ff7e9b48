-- each job is in its one place, once, in every world of every run
--
-- `JobsHold` says: each job is in the one place that its record names, once; how often it was begun fits where it is;
-- each number given out has a job, and no other number has.
-- The end of a run: `end_kept`. A call that makes one job, two jobs, pieces: `make_one`, `make_two`, `cast_kept`.
use Rattle.rayon_machine_places.specs.declared.place.Count.TheVariants.{OfPool, OfScope, OfCast}
use Rattle.rayon_machine_places.specs.declared.place.Count.{Count}
use Rattle.rayon_machine_places.specs.declared.place.Pieces.{Pieces}
use Rattle.rayon_machine_runs.specs.declared.state.Scope.{Scope}
use Rattle.std.proofs.Common.{arith, refl, sym, ◌∙◌, ap, subst, inl, inr}
use Rattle.std.specs.Prelude.{ℕ, Bool, true, false, ◌&&◌, ◌+◌, ◌==◌, ◌≤◌, ◌<◌, nat_lt, if◌then◌else◌, Some, None, List, [], ◌∷◌, ◌≡◌, IfSome, suc, zero, ◌-◌, ◌++◌, Option}
use Rattle.std.proofs.lemmas.Bool.{eqb-true, eq-eqb, ltb-true, ltb-false}
use Rattle.std.proofs.Math.Dec.{ltb}
use Rattle.rayon_machine_places.specs.declared.place.Party.{Party}
use Rattle.rayon_machine_places.specs.declared.place.Party.TheVariants.{Worker, Caller}
use Rattle.rayon_machine_places.specs.declared.place.Ending.{Ending}
use Rattle.rayon_machine_places.specs.declared.place.Ending.TheVariants.{Fine, Fault}
use Rattle.rayon_machine_places.specs.declared.place.JobKind.{JobKind}
use Rattle.rayon_machine_places.specs.declared.place.JobKind.TheVariants.{Detached, Stored, Direct, TokenOf, Scoped, BodyOf, PieceOf, WholeOf}
use Rattle.rayon_machine_places.specs.declared.place.Target.TheVariants.{Termination}
use Rattle.rayon_machine_places.specs.declared.place.Plan.{Plan}
use Rattle.rayon_machine_places.specs.declared.place.Plan.TheVariants.{Detach, Here, Send, Fork, Feed, Open, Enter, Gather}
use Rattle.rayon_machine_places.specs.declared.place.Place.{Place}
use Rattle.rayon_machine_places.specs.declared.place.Place.TheVariants.{ProbeWorking, YieldPop, LocalPop, Run, RaiseCount, FirstSide, Free, Stopped, RaiseForAll}
use Rattle.rayon_machine_places.specs.declared.act.Seen.{Seen}
use Rattle.rayon_machine_runs.specs.declared.event.Event.{Event}
use Rattle.rayon_machine_runs.specs.declared.event.Event.TheVariants.{Go}
use Rattle.rayon_machine_runs.specs.declared.state.Whereabouts.{Whereabouts}
use Rattle.rayon_machine_runs.specs.declared.state.Whereabouts.TheVariants.{Nowhere, Made, InDeque, Injected, InFifo, Retaken, Running, Over, HandedBack, Spent, InCast}
use Rattle.rayon_machine_runs.specs.declared.state.Job.{Job}
use Rattle.rayon_machine_runs.specs.declared.state.Call.{Call}
use Rattle.rayon_machine_places.specs.Places.{same_party, fresh, act_of, next_of, goes_on, count_kind, count_book}
use Rattle.rayon_machine_runs.specs.World.{Shape, World, Part, at_job}
use Rattle.rayon_machine_places.specs.Targets.{target_pool, target_worker, target_call}
use Rattle.rayon_machine_runs.specs.Steps.{put, put_stack, after_move, after_close, after_call, new_job, new_call, after_send, step, is_piece, new_piece, put_pieces, after_deal, new_whole, new_gathering, after_feed, after_gather}
use Rattle.rayon_machine_runs.specs.Runs.{first_place, start}
use Rattle.rayon_machine_laws.specs.Once.{one, in_deque, in_fifo, in_injector, runs_with, is_with, is_known, may_begin, run_of, runs_in, IsOnce, in_cast}
use Rattle.rayon_machine_laws.proofs.Cases.{is_act, event_cases}
use Rattle.rayon_machine_laws.proofs.Frame.{either, same_party_true, if_some_map, acted_keeps, piece_in, piece_new, piece_range}
use Rattle.rayon_machine_laws.proofs.Ties.{job_at, shape_at, outcome, result}
use Rattle.rayon_machine_laws.proofs.Hands.{hand_plan, hand, held_in, held, worked}
use Rattle.rayon_machine_laws.proofs.Feeds.{fed, fed_in, all_fed, fed_held, fed_after, fed_stacks}
use Rattle.rayon_machine_laws.proofs.Located.{Loc, same_loc, loc_of, loc_at, is_loc, weight, IsPlaced, JobsPlaced, and_true, and_false, make_ok, fits, onward_loc, at_work, Hand, Work, Deck, Cast, Inj, Line}
use Rattle.rayon_machine_laws.proofs.Placed.{Kept, JobsOk, Feeds, job_new, job_old, gone_ok, Unqueued}
use Rattle.rayon_machine_laws.proofs.PlacedEvents.{go_kept, Unmade, Known, IsFinal, Advance, FedLess, kept_advance, yield_kept, give_kept, turn_kept}

hand_goes_on : (t : ℕ) (f : Place) (e : Ending) → (hand t (goes_on f e) ≡ hand t f) × (run_of t (goes_on f e) ≡ run_of t f)
hand_goes_on t (FirstSide o a) Fine = (refl, refl)
hand_goes_on t (FirstSide o a) Fault = (refl, refl)
hand_goes_on t f e = (refl, refl)

closed_none : (t u : ℕ) (k : JobKind) (e : Ending) (fs : List Place) → (held t (after_close u k e fs) ≡ held_in t fs) × (worked t (after_close u k e fs) ≡ runs_in t fs)
closed_none t u (Detached p) e fs = (omega arith, omega arith)
closed_none t u (Stored c o) e fs = (omega arith, omega arith)
closed_none t u (Scoped c o) e fs = (omega arith, omega arith)
closed_none t u (PieceOf c o) e fs = (omega arith, omega arith)
closed_none t u Direct e [] = (refl, refl)
closed_none t u (TokenOf i b8) e [] = (refl, refl)
closed_none t u (BodyOf c9 o9) e [] = (refl, refl)
closed_none t u (WholeOf c9 o9) e [] = (refl, refl)
closed_none t u Direct e (f ∷ fs) = (ap (λ z. z + held_in t fs) ((hand_goes_on t f e).0), ap (λ z. z + runs_in t fs) ((hand_goes_on t f e).1))
closed_none t u (TokenOf i b8) e (f ∷ fs) = (ap (λ z. z + held_in t fs) ((hand_goes_on t f e).0), ap (λ z. z + runs_in t fs) ((hand_goes_on t f e).1))
closed_none t u (WholeOf c9 o9) e (f ∷ fs) = (ap (λ z. z + held_in t fs) ((hand_goes_on t f e).0), ap (λ z. z + runs_in t fs) ((hand_goes_on t f e).1))
closed_none t u (BodyOf c9 o9) e (f ∷ fs) = (ap (λ z. z + held_in t fs) ((hand_goes_on t f e).0), ap (λ z. z + runs_in t fs) ((hand_goes_on t f e).1))

fed_goes_on : (t : ℕ) (f : Place) (e : Ending) → fed t (goes_on f e) ≤ fed t f
fed_goes_on t (FirstSide o a) Fine = omega arith
fed_goes_on t (FirstSide o a) Fault = omega arith
fed_goes_on t f e = omega arith

fed_closed : (t u : ℕ) (k : JobKind) (e : Ending) (fs : List Place) → all_fed t (after_close u k e fs) ≤ fed_in t fs
fed_closed t u (Detached p) e fs = omega arith
fed_closed t u (Stored c o) e fs = omega arith
fed_closed t u (Scoped c o) e fs = omega arith
fed_closed t u (PieceOf c o) e fs = omega arith
fed_closed t u Direct e [] = omega arith
fed_closed t u (TokenOf i b8) e [] = omega arith
fed_closed t u (BodyOf c9 o9) e [] = omega arith
fed_closed t u (WholeOf c9 o9) e [] = omega arith
fed_closed t u Direct e (f ∷ fs) = let a : fed t (goes_on f e) ≤ fed t f = fed_goes_on t f e in omega (arith, a)
fed_closed t u (TokenOf i b8) e (f ∷ fs) = let a : fed t (goes_on f e) ≤ fed t f = fed_goes_on t f e in omega (arith, a)
fed_closed t u (WholeOf c9 o9) e (f ∷ fs) = let a : fed t (goes_on f e) ≤ fed t f = fed_goes_on t f e in omega (arith, a)
fed_closed t u (BodyOf c9 o9) e (f ∷ fs) = let a : fed t (goes_on f e) ≤ fed t f = fed_goes_on t f e in omega (arith, a)

-- a run's end: the job is over, and in no place
end_kept : (w : World) (q : Party) (d : Ending) (u : ℕ) (k : JobKind) (fs : List Place) → w.stack q ≡ record { top = Run u k; below = fs } → JobsOk w → Unmade w → Advance w (record w { stack = put_stack w.stack q (after_close u k d fs); job = put w.job u (at_job (w.job u) (Over d)) })
end_kept w q d u k fs e ok un = kept_advance w (record w { stack = put_stack w.stack q (after_close u k d fs); job = put w.job u (at_job (w.job u) (Over d)) }) (omega arith) un (fed_stacks w q (after_close u k d fs) closed_fed)
    (gone_ok w (record w { stack = put_stack w.stack q (after_close u k d fs); job = put w.job u (at_job (w.job u) (Over d)) }) u (at_job (w.job u) (Over d)) (Work q) None refl shift (job_new w u (at_job (w.job u) (Over d))) (job_old w u (at_job (w.job u) (Over d))) refl
    (λ z. (refl, (at_work ((w.job u).at) ((w.job u).runs) q z).0, onward_loc ((w.job u).at) (Over d) ((w.job u).runs) (Work q) z refl)) ok)
  where
    closed_fed : (t : ℕ) → all_fed t (after_close u k d fs) ≤ all_fed t (w.stack q)
    closed_fed t = let a : all_fed t (after_close u k d fs) ≤ fed_in t fs = fed_closed t u k d fs in let b : all_fed t (w.stack q) ≡ (0 + fed_in t fs) = ap (all_fed t) e in omega (arith, a, b)

    shift : (a : Loc) (t : ℕ) → weight (record w { stack = put_stack w.stack q (after_close u k d fs); job = put w.job u (at_job (w.job u) (Over d)) }) a t + one (same_loc a (Work q) && (t == u)) ≡ weight w a t + 0
    shift (Hand g) t = by (same_party g q) refl
      where
        by : (z : Bool) → same_party g q ≡ z → held t (if z then after_close u k d fs else w.stack g) + 0 ≡ held t (w.stack g) + 0
        by true z = let a : held t (after_close u k d fs) ≡ held_in t fs = (closed_none t u k d fs).0 in
            let b : held t (w.stack g) ≡ (0 + held_in t fs) = ap (held t) (ap w.stack (same_party_true g q z) ∙ e) in omega (arith, a, b)
        by false z = omega arith
    shift (Work g) t = by (same_party g q) refl
      where
        by : (z : Bool) → same_party g q ≡ z → worked t (if z then after_close u k d fs else w.stack g) + one (z && (t == u)) ≡ worked t (w.stack g) + 0
        by true z = let a : worked t (after_close u k d fs) ≡ runs_in t fs = (closed_none t u k d fs).1 in
            let b : worked t (w.stack g) ≡ (one (t == u) + runs_in t fs) = ap (worked t) (ap w.stack (same_party_true g q z) ∙ e) in omega (arith, a, b)
        by false z = omega arith
    shift (Deck p i) t = omega arith
    shift (Cast p i) t = omega arith
    shift (Inj p) t = omega arith
    shift (Line p i b7) t = omega arith

-- the weights where a party's call has new jobs
called_weight : (w : World) (q : Party) (n : Plan) (l : Loc) (t : ℕ) → weight (record w { stack = put_stack w.stack q (after_call (w.stack q) (RaiseCount n)) }) l t ≡ weight w l t + (if same_loc l (Hand q) then hand_plan t n else 0)
called_weight w q n (Hand g) t = by (same_party g q) refl
  where
    by : (z : Bool) → same_party g q ≡ z → held t (if z then after_call (w.stack q) (RaiseCount n) else w.stack g) ≡ held t (w.stack g) + (if z then hand_plan t n else 0)
    by true z = subst (λ g. held t (after_call (w.stack q) (RaiseCount n)) ≡ held t (w.stack g) + hand_plan t n) (sym (same_party_true g q z)) (omega arith)
    by false z = omega arith
called_weight w q n (Work g) t = by (same_party g q) refl
  where
    by : (z : Bool) → same_party g q ≡ z → worked t (if z then after_call (w.stack q) (RaiseCount n) else w.stack g) ≡ worked t (w.stack g) + 0
    by true z = subst (λ g. worked t (after_call (w.stack q) (RaiseCount n)) ≡ worked t (w.stack g) + 0) (sym (same_party_true g q z)) (omega arith)
    by false z = omega arith
called_weight w q n (Deck p i) t = omega arith
called_weight w q n (Cast p i) t = omega arith
called_weight w q n (Inj p) t = omega arith
called_weight w q n (Line p i b7) t = omega arith

pub not_new : (n t : ℕ) → n + 1 ≤ t → (t == n) ≡ false
not_new n t h = elim (either (t == n)) [ inl y ↦ absurd (let z : t ≡ n = eqb-true t n y in omega (arith, z)) | inr z ↦ z ]

-- a number below the next is that or lower
old_below : (n t : ℕ) → (t == n) ≡ false → t + 1 ≤ n + 1 → t + 1 ≤ n
old_below n t e b = elim (either (ltb t n)) [ inl y ↦ (let a : t < n = ltb-true t n y in omega (arith, a)) | inr y ↦ absurd (let a : n ≤ t = ltb-false t n y in let c : t ≡ n = omega (arith, a, b) in let d : (t == n) ≡ true = eq-eqb t n c in cc) ]

final_same : (a : Whereabouts) → IsFinal a a
final_same (Over e) = refl
final_same HandedBack = refl
final_same Spent = refl
final_same (Made q) = tt
final_same Nowhere = tt
final_same (InFifo p i b7) = refl
final_same (Retaken q) = refl
final_same _ = refl

-- what was made before has another number than what is made now
known_old : (w : World) (t : ℕ) → Unmade w → is_known (w.job t).at ≡ true → (t == w.jobs) ≡ false
known_old w t un k = elim (either (t == w.jobs)) [ inl y ↦ absurd (let z : t ≡ w.jobs = eqb-true t w.jobs y in let n : (w.job t).at ≡ Nowhere = un t (omega (arith, z)) in let b : is_known (w.job t).at ≡ false = ap is_known n in cc) | inr z ↦ z ]

known_next : (w : World) (t : ℕ) → Unmade w → is_known (w.job t).at ≡ true → (t == (w.jobs + 1)) ≡ false
known_next w t un k = elim (either (t == (w.jobs + 1))) [ inl y ↦ absurd (let z : t ≡ w.jobs + 1 = eqb-true t (w.jobs + 1) y in let n : (w.job t).at ≡ Nowhere = un t (omega (arith, z)) in let b : is_known (w.job t).at ≡ false = ap is_known n in cc) | inr z ↦ z ]

one_new : (w : World) (q : Party) (t p : ℕ) (k : JobKind) → 1 ≤ one (t == w.jobs) → (put w.job w.jobs (new_job q p k) t).at ≡ Made q
one_new w q t p k b = by (t == w.jobs) b
  where
    by : (z : Bool) → 1 ≤ one z → (if z then new_job q p k else w.job t).at ≡ Made q
    by true f = refl
    by false f = absurd (omega (arith, f))

-- a call that has begun has its jobs as it has made them
new_feeds : (w : World) (q : Party) (n : Plan) (J : ℕ → Job) → ((t : ℕ) → 1 ≤ hand_plan t n → (J t).at ≡ Made q) → ((t : ℕ) → is_known (w.job t).at ≡ true → (J t).at ≡ (w.job t).at) → Feeds w → Feeds (record w { stack = put_stack w.stack q (after_call (w.stack q) (RaiseCount n)); job = J })
new_feeds w q n J new old fe r t h = by (same_party r q) refl h
  where
    before : (s : Party) → 1 ≤ all_fed t (w.stack s) → (J t).at ≡ Made s
    before s f = let a : (w.job t).at ≡ Made s = fe s t f in old t (ap is_known a) ∙ a

    mine : (m : ℕ) → hand_plan t n ≡ m → 1 ≤ m + all_fed t (w.stack q) → (J t).at ≡ Made q
    mine zero e f = before q (omega (arith, f))
    mine (suc m) e f = new t (omega (arith, e))

    by : (z : Bool) → same_party r q ≡ z → 1 ≤ all_fed t (if z then after_call (w.stack q) (RaiseCount n) else w.stack r) → (J t).at ≡ Made r
    by true z f = mine (hand_plan t n) refl f ∙ ap Made (sym (same_party_true r q z))
    by false z f = before r f

-- a call that makes one job
make_one : (w : World) (q : Party) (n : Plan) (p : ℕ) (k : JobKind) (C : ℕ → Call) (c : ℕ) → ((t : ℕ) → hand_plan t n ≡ one (t == w.jobs)) → JobsOk w → Unmade w
    → Advance w (record w { stack = put_stack w.stack q (after_call (w.stack q) (RaiseCount n)); call = C; job = put w.job w.jobs (new_job q p k); calls = c; jobs = w.jobs + 1 })
make_one w q n p k C c h ok un = record {
  feeds = λ fe. new_feeds w q n (put w.job w.jobs (new_job q p k)) (λ t b. one_new w q t p k (let f : hand_plan t n ≡ one (t == w.jobs) = h t in omega (arith, f, b))) (λ t e. ap (λ j. j.at) (job_old w w.jobs (new_job q p k) t (known_old w t un e))) fe;
  placed = make_ok (weight w) (weight (record w { stack = put_stack w.stack q (after_call (w.stack q) (RaiseCount n)) })) (λ t. loc_at (w.job t)) (λ t. loc_at (put w.job w.jobs (new_job q p k) t)) w.jobs q none le (ok.placed) (ap (λ x. loc_at x) (job_new w w.jobs (new_job q p k)))
      (λ t e. ap (λ x. loc_at x) (job_old w w.jobs (new_job q p k) t e));
  fit = λ t. fit_by t (t == w.jobs);
  final = λ t. fin_by t (t == w.jobs) refl;
  unmade = λ t b. (let e : (t == w.jobs) ≡ false = not_new w.jobs t b in rw e (un t (omega (arith, b))));
  known = λ f t b. known_by f t b (t == w.jobs) refl;
}
  where
    none : loc_at (w.job w.jobs) ≡ None
    none = ap (λ x. loc_of x ((w.job w.jobs).runs)) (un w.jobs (omega arith))

    le : (l : Loc) (t : ℕ) → weight (record w { stack = put_stack w.stack q (after_call (w.stack q) (RaiseCount n)) }) l t ≡ weight w l t + one (same_loc l (Hand q) && (t == w.jobs))
    le l t = let a : weight (record w { stack = put_stack w.stack q (after_call (w.stack q) (RaiseCount n)) }) l t ≡ weight w l t + (if same_loc l (Hand q) then hand_plan t n else 0) = called_weight w q n l t in
        let b : (if same_loc l (Hand q) then hand_plan t n else 0) ≡ one (same_loc l (Hand q) && (t == w.jobs)) = by (same_loc l (Hand q)) in omega (arith, a, b)
      where
        by : (z : Bool) → (if z then hand_plan t n else 0) ≡ one (z && (t == w.jobs))
        by true = h t
        by false = refl

    fit_by : (t : ℕ) (z : Bool) → fits ((if z then new_job q p k else w.job t).at) ((if z then new_job q p k else w.job t).runs)
    fit_by t true = refl
    fit_by t false = (ok.fit) t

    known_by : Known w → (t : ℕ) → t + 1 ≤ w.jobs + 1 → (z : Bool) → (t == w.jobs) ≡ z → is_known ((if z then new_job q p k else w.job t).at) ≡ true
    known_by f t b true z = refl
    known_by f t b false z = f t (old_below w.jobs t z b)

    fin_by : (t : ℕ) (z : Bool) → (t == w.jobs) ≡ z → IsFinal ((w.job t).at) ((if z then new_job q p k else w.job t).at)
    fin_by t true z = subst (λ v. IsFinal v (Made q)) (sym (un t (let e : t ≡ w.jobs = eqb-true t w.jobs z in omega (arith, e)))) tt
    fin_by t false z = final_same ((w.job t).at)

sent_kept : (w : World) (q : Party) (p : ℕ) (b : Bool) → JobsOk w → Unmade w → Advance w (after_send w q p (w.stack q) b)
sent_kept w q p true ok un = make_one w q (Here p w.jobs) p Direct w.call w.calls (λ t. refl) ok un
sent_kept w q p false ok un = make_one w q (Send (record { number = w.calls; pool = p; job = w.jobs })) p (Stored w.calls q) (put w.call w.calls (new_call None w.jobs)) (w.calls + 1) (λ t. refl) ok un

-- the weights with one new job
abbrev pub mid_of : World → Party → Loc → ℕ → ℕ
mid_of w q l t = weight w l t + one (same_loc l (Hand q) && (t == w.jobs))

-- a call that makes two
make_two : (w : World) (q : Party) (n : Plan) (p : ℕ) (d k : JobKind) (C : ℕ → Call) (c : ℕ) → ((t : ℕ) → hand_plan t n ≡ one (t == w.jobs) + one (t == (w.jobs + 1))) → JobsOk w → Unmade w
    → Advance w (record w { stack = put_stack w.stack q (after_call (w.stack q) (RaiseCount n)); call = C; job = put (put w.job w.jobs (new_job q p d)) (w.jobs + 1) (new_job q p k); calls = c; jobs = w.jobs + 2 })
make_two w q n p d k C c is ok un = record {
  feeds = λ fe. new_feeds w q n (put one_made (w.jobs + 1) (new_job q p k))
      (λ t b. two_new t (t == (w.jobs + 1)) refl (let f : hand_plan t n ≡ one (t == w.jobs) + one (t == (w.jobs + 1)) = is t in omega (arith, f, b)))
      (λ t e. ap (λ j. j.at) (job_old (record w { job = one_made }) (w.jobs + 1) (new_job q p k) t (known_next w t un e) ∙ job_old w w.jobs (new_job q p d) t (known_old w t un e))) fe;
  placed = make_ok (mid_of w q) (weight v) (λ t. loc_at (one_made t)) (λ t. loc_at (put one_made (w.jobs + 1) (new_job q p k) t)) (w.jobs + 1) q none2 le first (ap (λ x. loc_at x) (job_new (record w { job = one_made }) (w.jobs + 1) (new_job q p k)))
      (λ t e. ap (λ x. loc_at x) (job_old (record w { job = one_made }) (w.jobs + 1) (new_job q p k) t e));
  fit = λ t. fit_by t (t == (w.jobs + 1)) (t == w.jobs);
  final = λ t. fin_by t (t == (w.jobs + 1)) (t == w.jobs) refl refl;
  unmade = λ t b. (let e : (t == w.jobs) ≡ false = not_new w.jobs t (omega (arith, b)) in let d : (t == (w.jobs + 1)) ≡ false = not_new (w.jobs + 1) t (omega (arith, b)) in rw (d, e) (un t (omega (arith, b))));
  known = λ f t b. known_by f t b (t == (w.jobs + 1)) (t == w.jobs) refl refl;
}
  where
    v : World
    v = record w { stack = put_stack w.stack q (after_call (w.stack q) (RaiseCount n)) }

    one_made : ℕ → Job
    one_made = put w.job w.jobs (new_job q p d)

    two_new : (t : ℕ) (z : Bool) → (t == (w.jobs + 1)) ≡ z → 1 ≤ one (t == w.jobs) + one (t == (w.jobs + 1)) → (if z then new_job q p k else one_made t).at ≡ Made q
    two_new t true z b = refl
    two_new t false z b = one_new w q t p d (let a : one (t == (w.jobs + 1)) ≡ 0 = ap one z in omega (arith, a, b))

    none : loc_at (w.job w.jobs) ≡ None
    none = ap (λ x. loc_of x ((w.job w.jobs).runs)) (un w.jobs (omega arith))

    none2 : loc_at (one_made (w.jobs + 1)) ≡ None
    none2 = ap (λ x. loc_at x) (job_old w w.jobs (new_job q p d) (w.jobs + 1) (not_new w.jobs (w.jobs + 1) (omega arith))) ∙ ap (λ x. loc_of x ((w.job (w.jobs + 1)).runs)) (un (w.jobs + 1) (omega arith))

    first : IsPlaced (mid_of w q) (λ t. loc_at (one_made t))
    first = make_ok (weight w) (mid_of w q) (λ t. loc_at (w.job t)) (λ t. loc_at (one_made t)) w.jobs q none (λ l t. omega arith) (ok.placed) (ap (λ x. loc_at x) (job_new w w.jobs (new_job q p d))) (λ t e. ap (λ x. loc_at x) (job_old w w.jobs (new_job q p d) t e))

    le : (l : Loc) (t : ℕ) → weight v l t ≡ mid_of w q l t + one (same_loc l (Hand q) && (t == (w.jobs + 1)))
    le l t = let a : weight v l t ≡ weight w l t + (if same_loc l (Hand q) then hand_plan t n else 0) = called_weight w q n l t in
        let b : (if same_loc l (Hand q) then hand_plan t n else 0) ≡ (one (same_loc l (Hand q) && (t == w.jobs)) + one (same_loc l (Hand q) && (t == (w.jobs + 1)))) = by (same_loc l (Hand q)) in omega (arith, a, b)
      where
        by : (z : Bool) → (if z then hand_plan t n else 0) ≡ (one (z && (t == w.jobs)) + one (z && (t == (w.jobs + 1))))
        by true = is t
        by false = refl

    fit_by : (t : ℕ) (y z : Bool) → fits ((if y then new_job q p k else (if z then new_job q p d else w.job t)).at) ((if y then new_job q p k else (if z then new_job q p d else w.job t)).runs)
    fit_by t true z = refl
    fit_by t false true = refl
    fit_by t false false = (ok.fit) t

    known_by : Known w → (t : ℕ) → t + 1 ≤ w.jobs + 2 → (y z : Bool) → (t == (w.jobs + 1)) ≡ y → (t == w.jobs) ≡ z → is_known ((if y then new_job q p k else (if z then new_job q p d else w.job t)).at) ≡ true
    known_by f t b true z d e = refl
    known_by f t b false true d e = refl
    known_by f t b false false d e = f t (old_below w.jobs t e (old_below (w.jobs + 1) t d (let c : t + 1 ≤ (w.jobs + 1) + 1 = omega (arith, b) in c)))

    fin_by : (t : ℕ) (y z : Bool) → (t == (w.jobs + 1)) ≡ y → (t == w.jobs) ≡ z → IsFinal ((w.job t).at) ((if y then new_job q p k else (if z then new_job q p d else w.job t)).at)
    fin_by t true z d e = subst (λ v. IsFinal v (Made q)) (sym (un t (let f : t ≡ w.jobs + 1 = eqb-true t (w.jobs + 1) d in omega (arith, f)))) tt
    fin_by t false true d e = subst (λ v. IsFinal v (Made q)) (sym (un t (let f : t ≡ w.jobs = eqb-true t w.jobs e in omega (arith, f)))) tt
    fin_by t false false d e = final_same ((w.job t).at)

-- a list of scopes that is another changes no job
rescoped : (w u : World) (l : List Scope) → Advance w u → Advance w (record u { scopes = l })
rescoped w u l a = record { feeds = a.feeds; placed = a.placed; fit = a.fit; final = a.final; unmade = a.unmade; known = a.known }

-- a worker of a pool makes a job with a share of this count for its FIFO list, and a token
feed_kept : (w : World) (k : Count) (p i : ℕ) → JobsOk w → Unmade w → Advance w (after_feed w k p i (w.stack (Worker p i)))
feed_kept w k p i ok un = make_two w (Worker p i) (Feed (record { count = k; pool = p; job = w.jobs; token = w.jobs + 1 })) p (count_kind k) (TokenOf i (count_book k)) w.call w.calls (λ t. refl) ok un

-- a call that makes a piece for each worker of a pool
pieces_kept : (w : World) (q : Party) (k : Count) (p : ℕ) (x : Place) → ((t : ℕ) → hand t x ≡ one (is_piece (record { count = k; pool = p; first = w.jobs; workers = (w.shape.pool p).workers }) t)) → ((t : ℕ) → run_of t x ≡ 0)
    → ((t : ℕ) → fed t x ≡ one (is_piece (record { count = k; pool = p; first = w.jobs; workers = (w.shape.pool p).workers }) t)) → JobsOk w → Unmade w
    → Advance w (record w { stack = put_stack w.stack q (after_call (w.stack q) x); job = put_pieces (record { count = k; pool = p; first = w.jobs; workers = (w.shape.pool p).workers }) (λ i j. new_piece q k p i) w.job; jobs = w.jobs + (w.shape.pool p).workers })
pieces_kept w q k p x ha ra fa ok un = record {
  feeds = feeds;
  placed = placed;
  fit = λ t. fit_by t (is_piece c t);
  final = λ t. fin_by t (is_piece c t) refl;
  unmade = λ t b. (let off : is_piece c t ≡ false = beyond t b in rw off (un t (omega (arith, b))));
  known = λ f t b. known_by f t b (is_piece c t) refl;
}
  where
    c : Pieces
    c = record { count = k; pool = p; first = w.jobs; workers = (w.shape.pool p).workers }

    J : ℕ → Job
    J = put_pieces c (λ i j. new_piece q k p i) w.job

    u : World
    u = record w { stack = put_stack w.stack q (after_call (w.stack q) x); job = J; jobs = w.jobs + c.workers }

    beyond : (t : ℕ) → w.jobs + c.workers ≤ t → is_piece c t ≡ false
    beyond t b = elim (either (is_piece c t)) [ inl y ↦ absurd (let r : (w.jobs ≤ t) × (t < w.jobs + c.workers) = piece_range c t y in let l : t < w.jobs + c.workers = r.1 in omega (arith, l, b)) | inr y ↦ y ]

    made : (t : ℕ) → is_piece c t ≡ true → (w.job t).at ≡ Nowhere
    made t y = let r : (w.jobs ≤ t) × (t < w.jobs + c.workers) = piece_range c t y in un t (r.0)

    fit_by : (t : ℕ) (z : Bool) → fits ((if z then new_piece q k p (t - w.jobs) else w.job t).at) ((if z then new_piece q k p (t - w.jobs) else w.job t).runs)
    fit_by t true = refl
    fit_by t false = (ok.fit) t

    fin_by : (t : ℕ) (z : Bool) → is_piece c t ≡ z → IsFinal ((w.job t).at) ((if z then new_piece q k p (t - w.jobs) else w.job t).at)
    fin_by t true z = subst (λ v. IsFinal v (Made q)) (sym (made t z)) tt
    fin_by t false z = final_same ((w.job t).at)

    known_by : Known w → (t : ℕ) → t + 1 ≤ w.jobs + c.workers → (z : Bool) → is_piece c t ≡ z → is_known ((if z then new_piece q k p (t - w.jobs) else w.job t).at) ≡ true
    known_by f t b true z = refl
    known_by f t b false z = f t (elim (either (ltb t w.jobs)) [ inl y ↦ (let l : t < w.jobs = ltb-true t w.jobs y in omega (arith, l)) | inr y ↦ absurd (let l : w.jobs ≤ t = ltb-false t w.jobs y in let in_it : is_piece c t ≡ true = piece_in c t l (omega (arith, b)) in cc) ])

    weights : (l : Loc) (t : ℕ) → weight u l t ≡ weight w l t + one (same_loc l (Hand q) && is_piece c t)
    weights (Hand g) t = by (same_party g q) refl
      where
        by : (z : Bool) → same_party g q ≡ z → held t (if z then after_call (w.stack q) (x) else w.stack g) ≡ held t (w.stack g) + one (z && is_piece c t)
        by true z = subst (λ g. held t (after_call (w.stack q) x) ≡ held t (w.stack g) + one (is_piece c t)) (sym (same_party_true g q z)) (let h : hand t x ≡ one (is_piece c t) = ha t in omega (arith, h))
        by false z = omega arith
    weights (Work g) t = by (same_party g q) refl
      where
        by : (z : Bool) → same_party g q ≡ z → worked t (if z then after_call (w.stack q) (x) else w.stack g) ≡ worked t (w.stack g) + 0
        by true z = subst (λ g. worked t (after_call (w.stack q) x) ≡ worked t (w.stack g) + 0) (sym (same_party_true g q z)) (let h : run_of t x ≡ 0 = ra t in omega (arith, h))
        by false z = omega arith
    weights (Deck p i) t = omega arith
    weights (Cast p i) t = omega arith
    weights (Inj p) t = omega arith
    weights (Line p i b7) t = omega arith

    placed : (l : Loc) (t : ℕ) → weight u l t ≡ is_loc l (loc_at (J t))
    placed l t = by (is_piece c t) refl
      where
        by : (z : Bool) → is_piece c t ≡ z → weight u l t ≡ is_loc l (loc_at (if z then new_piece q k p (t - w.jobs) else w.job t))
        by true z =
            let a : weight u l t ≡ weight w l t + one (same_loc l (Hand q) && true) = subst (λ b. weight u l t ≡ weight w l t + one (same_loc l (Hand q) && b)) z (weights l t) in
            let x : one (same_loc l (Hand q) && true) ≡ one (same_loc l (Hand q)) = ap one (and_true (same_loc l (Hand q))) in
            let o : weight w l t ≡ is_loc l (loc_at (w.job t)) = (ok.placed) l t in
            let n : is_loc l (loc_at (w.job t)) ≡ 0 = ap (λ v. is_loc l (loc_of v ((w.job t).runs))) (made t z) in omega (arith, a, x, o, n)
        by false z =
            let a : weight u l t ≡ weight w l t + one (same_loc l (Hand q) && false) = subst (λ b. weight u l t ≡ weight w l t + one (same_loc l (Hand q) && b)) z (weights l t) in
            let x : one (same_loc l (Hand q) && false) ≡ 0 = ap one (and_false (same_loc l (Hand q))) in
            let o : weight w l t ≡ is_loc l (loc_at (w.job t)) = (ok.placed) l t in omega (arith, a, x, o)

    feeds : Feeds w → Feeds u
    feeds fe r t h = by (same_party r q) refl h
      where
        before : (s : Party) → 1 ≤ all_fed t (w.stack s) → (J t).at ≡ Made s
        before s f = at (is_piece c t) refl
          where
            a : (w.job t).at ≡ Made s
            a = fe s t f

            at : (z : Bool) → is_piece c t ≡ z → (if z then new_piece q k p (t - w.jobs) else w.job t).at ≡ Made s
            at true z = absurd (let n : (w.job t).at ≡ Nowhere = made t z in let k : Made s ≡ Nowhere = sym a ∙ n in cc)
            at false z = a

        mine : (z : Bool) → is_piece c t ≡ z → 1 ≤ one z + all_fed t (w.stack q) → (J t).at ≡ Made q
        mine true z f = ap (λ j. j.at) (piece_new c (λ i j. new_piece q k p i) w.job t z)
        mine false z f = before q (omega (arith, f))

        by : (z : Bool) → same_party r q ≡ z → 1 ≤ all_fed t (if z then after_call (w.stack q) (x) else w.stack r) → (J t).at ≡ Made r
        by true z f = mine (is_piece c t) refl (let h : fed t x ≡ one (is_piece c t) = fa t in omega (arith, f, h)) ∙ ap Made (sym (same_party_true r q z))
        by false z f = before r f

deal_kept : (w : World) (q : Party) (k : Count) (p : ℕ) → JobsOk w → Unmade w → Advance w (after_deal w q k p (w.stack q))
deal_kept w q k p ok un = pieces_kept w q k p (RaiseForAll (record { count = k; pool = p; first = w.jobs; workers = (w.shape.pool p).workers })) (λ t. refl) (λ t. refl) (λ t. refl) ok un

-- one number more, which stands for a broadcast and is in no place
whole_kept : (w u : World) (v : Job) (C : ℕ → Call) (n : ℕ) → v.at ≡ Spent → v.runs ≡ 0 → w.jobs ≤ u.jobs → Unmade w → Advance w u → Advance w (record u { job = put u.job u.jobs v; call = C; calls = n; jobs = u.jobs + 1 })
whole_kept w u v C n at runs more un a = record {
  placed = λ l t. placed l t (t == u.jobs) refl;
  fit = λ t. fit t (t == u.jobs);
  final = λ t. final t (t == u.jobs) refl;
  unmade = λ t b. (let e : (t == u.jobs) ≡ false = not_new u.jobs t b in rw e (a.unmade t (omega (arith, b))));
  known = λ f t b. known f t b (t == u.jobs) refl;
  feeds = λ f r t b. feeds (a.feeds f) r t b (t == u.jobs) refl;
}
  where
    gone : (m : ℕ) → loc_of v.at m ≡ None
    gone m = ap (λ x. loc_of x m) at

    here : (t : ℕ) → (t == u.jobs) ≡ true → (u.job t).at ≡ Nowhere
    here t z = a.unmade t (let e : t ≡ u.jobs = eqb-true t u.jobs z in omega (arith, e))

    placed : (l : Loc) (t : ℕ) (z : Bool) → (t == u.jobs) ≡ z → weight u l t ≡ is_loc l (loc_at (if z then v else u.job t))
    placed l t true z = a.placed l t ∙ ap (λ x. is_loc l (loc_of x ((u.job t).runs))) (here t z) ∙ ap (is_loc l) (sym (gone v.runs))
    placed l t false z = a.placed l t

    fit : (t : ℕ) (z : Bool) → fits (if z then v else u.job t).at (if z then v else u.job t).runs
    fit t true = subst (λ x. fits x v.runs) (sym at) runs
    fit t false = a.fit t

    final : (t : ℕ) (z : Bool) → (t == u.jobs) ≡ z → IsFinal ((w.job t).at) ((if z then v else u.job t).at)
    final t true z = subst (λ x. IsFinal x v.at) (sym (un t (let e : t ≡ u.jobs = eqb-true t u.jobs z in omega (arith, e, more)))) tt
    final t false z = a.final t

    known : Known w → (t : ℕ) → t + 1 ≤ u.jobs + 1 → (z : Bool) → (t == u.jobs) ≡ z → is_known ((if z then v else u.job t).at) ≡ true
    known f t b true z = ap is_known at
    known f t b false z = a.known f t (old_below u.jobs t z b)

    feeds : Feeds u → (r : Party) (t : ℕ) → 1 ≤ all_fed t (u.stack r) → (z : Bool) → (t == u.jobs) ≡ z → (if z then v else u.job t).at ≡ Made r
    feeds f r t b true z = absurd (let m : (u.job t).at ≡ Made r = f r t b in let k : Nowhere ≡ Made r = sym (here t z) ∙ m in cc)
    feeds f r t b false z = f r t b

gather_kept : (w : World) (q : Party) (p : ℕ) → JobsOk w → Unmade w → Advance w (after_gather w q p (w.stack q))
gather_kept w q p ok un = whole_kept w _ (new_whole q p w.calls) (put w.call w.calls (new_gathering ((w.shape.pool p).workers) (w.jobs + (w.shape.pool p).workers))) (w.calls + 1) refl refl (omega arith) un
    (pieces_kept w q (OfCast w.calls q) p (RaiseCount (Gather (record { call = record { number = w.calls; pool = p; job = w.jobs + (w.shape.pool p).workers }; pieces = record { count = OfCast w.calls q; pool = p; first = w.jobs; workers = (w.shape.pool p).workers } }))) (λ t. refl) (λ t. refl)
    (λ t. refl) ok un)

pub go_fed : (w : World) (q : Party) (r : Seen × Part) → FedLess w (result w q (w.stack q) r)
go_fed w q r = fed_stacks w q (after_move (next_of (shape_at w q (w.stack q)) q ((w.stack q).top) (r.0)) ((w.stack q).below)) (λ t. fed_after (shape_at w q (w.stack q)) q t ((w.stack q).top) ((w.stack q).below) (r.0))

event_advances : (w : World) → JobsOk w → Unmade w → (e : Event) → is_act e ≡ false → IfSome (step w e) (Advance w)
event_advances w ok un = event_cases (Advance w) w (record {
  turned = λ q t fs e. turn_kept w q t fs e ok un;
  ended = λ q d t k fs e. end_kept w q d t k fs e ok un;
  spawned = λ q p f. make_one w q (Detach p w.jobs) p (Detached p) w.call w.calls (λ t. refl) ok un;
  fed = λ p i f. feed_kept w (OfPool p) p i ok un;
  dealt = λ q p f. deal_kept w q (OfPool p) p ok un;
  sent = λ q p b e f. sent_kept w q p b ok un;
  joined = λ p i f. make_two w (Worker p i) (Fork (record { number = w.calls; pool = p; job = w.jobs + 1 }) w.jobs) p Direct (Stored w.calls (Worker p i)) (put w.call w.calls (new_call (Some w.jobs) (w.jobs + 1))) (w.calls + 1) (λ t. refl) ok un;
  scoped = λ q p f. rescoped w _ (w.scopes ++ record { call = w.calls; pool = p; owner = q } ∷ []) (make_one w q (Open (record { number = w.calls; pool = p; job = w.jobs })) p (BodyOf w.calls q) (put w.call w.calls (new_call None w.jobs)) (w.calls + 1) (λ t. refl) ok un);
  entered = λ q s k. make_one w q (Enter (record { call = s.call; owner = s.owner; pool = s.pool; job = w.jobs })) s.pool (Scoped s.call s.owner) w.call w.calls (λ t. refl) ok un;
  fed_into = λ i z k. feed_kept w (OfScope z.call z.owner) z.pool i ok un;
  dealt_into = λ q z k. deal_kept w q (OfScope z.call z.owner) z.pool ok un;
  gathered = λ q p f. gather_kept w q p ok un;
  yielded = λ p i f. yield_kept w (Worker p i) YieldPop (λ t. refl) (λ t. refl) (λ t. refl) ok un;
  yielded_local = λ p i f. yield_kept w (Worker p i) LocalPop (λ t. refl) (λ t. refl) (λ t. refl) ok un;
  given = λ q p f held. give_kept w q p ok un;
})

-- each event keeps each job in its one place
pub step_advance : (w : World) (e : Event) → Unqueued w → Feeds w → JobsOk w → Unmade w → IfSome (step w e) (Advance w)
step_advance w (Go q) uq fe ok un = acted_keeps w q (w.stack q) (target_pool q (act_of q ((w.stack q).top))) (target_worker q (act_of q ((w.stack q).top))) (target_call (act_of q ((w.stack q).top))) (job_at w q (act_of q ((w.stack q).top))) (outcome w q (w.stack q)) (Advance w)
    (if_some_map (λ r. Kept w (result w q (w.stack q) r)) (λ r. Advance w (result w q (w.stack q) r)) (λ r k. kept_advance w (result w q (w.stack q) r) (omega arith) un (go_fed w q r) k) (outcome w q (w.stack q)) (go_kept w q (uq q) fe ok))
step_advance w e uq fe ok un = event_advances w ok un e refl

-- what holds of the jobs of every world
pub record JobsHold (w : World) : Type 0 where
  pub ok : JobsOk w
  pub unmade : Unmade w
  pub known : Known w
  pub feeds : Feeds w

pub jobs_advance : (w u : World) → JobsHold w → Advance w u → JobsHold u
jobs_advance w u h a = record { ok = record { placed = a.placed; fit = a.fit }; unmade = a.unmade; known = a.known (h.known); feeds = a.feeds (h.feeds) }

first_hand : (h : Shape) (q : Party) (t : ℕ) → (hand t (first_place h q) ≡ 0) × (run_of t (first_place h q) ≡ 0)
first_hand h (Caller n) t = at (nat_lt n h.callers)
  where
    at : (z : Bool) → (hand t (if z then Free else Stopped) ≡ 0) × (run_of t (if z then Free else Stopped) ≡ 0)
    at true = (refl, refl)
    at false = (refl, refl)
first_hand h (Worker p i) t = at (nat_lt i (h.pool p).workers) ((h.pool p).callers_own && (i == 0))
  where
    at : (y z : Bool) → (hand t (if y then (if z then Free else ProbeWorking (fresh Termination)) else Stopped) ≡ 0) × (run_of t (if y then (if z then Free else ProbeWorking (fresh Termination)) else Stopped) ≡ 0)
    at true true = (refl, refl)
    at true false = (refl, refl)
    at false z = (refl, refl)

first_placed : (h : Shape) → JobsPlaced (start h)
first_placed h (Hand q) t = let a : hand t (first_place h q) ≡ 0 = (first_hand h q t).0 in omega (arith, a)
first_placed h (Work q) t = let a : run_of t (first_place h q) ≡ 0 = (first_hand h q t).1 in omega (arith, a)
first_placed h (Deck p i) t = omega arith
first_placed h (Cast p i) t = omega arith
first_placed h (Inj p) t = omega arith
first_placed h (Line p i b7) t = omega arith

pub first_jobs : (h : Shape) → JobsHold (start h)
first_jobs h = record {
  ok = record { placed = first_placed h; fit = λ t. refl };
  unmade = λ t b. refl;
  known = λ t b. absurd (omega (arith, b));
  feeds = λ q t n. absurd (let a : all_fed t ((start h).stack q) ≤ held t ((start h).stack q) = fed_held t ((start h).stack q) in let b : hand t (first_place h q) ≡ 0 = (first_hand h q t).0 in omega (arith, a, b, n));
}

-- from there to the law
begun_once : (v : Whereabouts) (n : ℕ) → fits v n → n ≤ 1
begun_once (Over e) n f = omega (arith, f)
begun_once (Running q) n f = f
begun_once (Made q) n f = omega (arith, f)
begun_once (InDeque p i) n f = omega (arith, f)
begun_once (Injected p) n f = omega (arith, f)
begun_once (InFifo p i b7) n f = omega (arith, f)
begun_once (InCast p i) n f = omega (arith, f)
begun_once (Retaken q) n f = omega (arith, f)
begun_once HandedBack n f = omega (arith, f)
begun_once Spent n f = omega (arith, f)
begun_once Nowhere n f = omega (arith, f)

not_begun : (v : Whereabouts) (n : ℕ) → may_begin v ≡ false → fits v n → n ≡ 0
not_begun (Over e) n z f = cc
not_begun (Running q) n z f = cc
not_begun (Made q) n z f = f
not_begun (InDeque p i) n z f = f
not_begun (Injected p) n z f = f
not_begun (InFifo p i b7) n z f = f
not_begun (InCast p i) n z f = f
not_begun (Retaken q) n z f = f
not_begun HandedBack n z f = f
not_begun Spent n z f = f
not_begun Nowhere n z f = f

-- a place that a record names while its job is not begun
loc_if : (l m : Loc) (n : ℕ) → is_loc l (if n == 0 then Some m else None) ≡ one (same_loc l m && (n == 0))
loc_if l m n = by (n == 0)
  where
    by : (b : Bool) → is_loc l (if b then Some m else None) ≡ one (same_loc l m && b)
    by true = sym (ap one (and_true (same_loc l m)))
    by false = sym (ap one (and_false (same_loc l m)))

-- one that it does not name
loc_none : (l m : Loc) (n : ℕ) → same_loc l m ≡ false → is_loc l (if n == 0 then Some m else None) ≡ 0
loc_none l m n z = loc_if l m n ∙ ap (λ b. one (b && (n == 0))) z

-- the hand or the run of a party that has taken a job
loc_run : (l m k : Loc) (n : ℕ) → is_loc l (if n == 0 then Some m else (if n == 1 then Some k else None)) ≡ (one (same_loc l m && (n == 0)) + one (same_loc l k && (n == 1)))
loc_run l m k n = by (n == 0) (n == 1) refl refl
  where
    by : (b d : Bool) → (n == 0) ≡ b → (n == 1) ≡ d → is_loc l (if b then Some m else (if d then Some k else None)) ≡ (one (same_loc l m && b) + one (same_loc l k && d))
    by true true e f = absurd (let x : n ≡ 0 = eqb-true n 0 e in let y : n ≡ 1 = eqb-true n 1 f in omega (arith, x, y))
    by true false e f = let x : one (same_loc l m && true) ≡ one (same_loc l m) = ap one (and_true (same_loc l m)) in let y : one (same_loc l k && false) ≡ 0 = ap one (and_false (same_loc l k)) in omega (arith, x, y)
    by false true e f = let x : one (same_loc l k && true) ≡ one (same_loc l k) = ap one (and_true (same_loc l k)) in let y : one (same_loc l m && false) ≡ 0 = ap one (and_false (same_loc l m)) in omega (arith, x, y)
    by false false e f = let x : one (same_loc l k && false) ≡ 0 = ap one (and_false (same_loc l k)) in let y : one (same_loc l m && false) ≡ 0 = ap one (and_false (same_loc l m)) in omega (arith, x, y)

-- what is queued was not begun
loc_fits : (l m : Loc) (n : ℕ) → n ≡ 0 → is_loc l (if n == 0 then Some m else None) ≡ one (same_loc l m)
loc_fits l m n e = loc_if l m n ∙ ap (λ n. one (same_loc l m && (n == 0))) e ∙ ap one (and_true (same_loc l m))

deck_in : (p i : ℕ) (v : Whereabouts) (n : ℕ) → fits v n → is_loc (Deck p i) (loc_of v n) ≡ one (in_deque p i v)
deck_in p i (InDeque r j) n f = loc_fits (Deck p i) (Deck r j) n f
deck_in p i (Made q) n f = loc_none (Deck p i) (Hand q) n refl
deck_in p i (Injected r) n f = loc_none (Deck p i) (Inj r) n refl
deck_in p i (InFifo r j b7) n f = loc_none (Deck p i) (Line r j b7) n refl
deck_in p i (InCast r j) n f = loc_none (Deck p i) (Cast r j) n refl
deck_in p i (Retaken q) n f = loc_none (Deck p i) (Hand q) n refl
deck_in p i (Running q) n f = loc_run (Deck p i) (Hand q) (Work q) n
deck_in p i _ n f = refl

inj_in : (p : ℕ) (v : Whereabouts) (n : ℕ) → fits v n → is_loc (Inj p) (loc_of v n) ≡ one (in_injector p v)
inj_in p (Injected r) n f = loc_fits (Inj p) (Inj r) n f
inj_in p (InFifo r j b7) n f = loc_none (Inj p) (Line r j b7) n refl
inj_in p (InCast r j) n f = loc_none (Inj p) (Cast r j) n refl
inj_in p (Retaken q) n f = loc_none (Inj p) (Hand q) n refl
inj_in p (Made q) n f = loc_none (Inj p) (Hand q) n refl
inj_in p (InDeque r j) n f = loc_none (Inj p) (Deck r j) n refl
inj_in p (Running q) n f = loc_run (Inj p) (Hand q) (Work q) n
inj_in p _ n f = refl

line_in : (p i : ℕ) (b7 : Option ℕ) (v : Whereabouts) (n : ℕ) → fits v n → is_loc (Line p i b7) (loc_of v n) ≡ one (in_fifo p i b7 v)
line_in p i b7 (InFifo r j b6) n f = loc_fits (Line p i b7) (Line r j b6) n f
line_in p i b7 (InCast r j) n f = loc_none (Line p i b7) (Cast r j) n refl
line_in p i b7 (InDeque r j) n f = loc_none (Line p i b7) (Deck r j) n refl
line_in p i b7 (Made q) n f = loc_none (Line p i b7) (Hand q) n refl
line_in p i b7 (Retaken q) n f = loc_none (Line p i b7) (Hand q) n refl
line_in p i b7 (Injected r) n f = loc_none (Line p i b7) (Inj r) n refl
line_in p i b7 (Running q) n f = loc_run (Line p i b7) (Hand q) (Work q) n
line_in p i b7 _ n f = refl

cast_in : (p i : ℕ) (v : Whereabouts) (n : ℕ) → fits v n → is_loc (Cast p i) (loc_of v n) ≡ one (in_cast p i v)
cast_in p i (InCast r j) n f = loc_fits (Cast p i) (Cast r j) n f
cast_in p i (InFifo r j b7) n f = loc_none (Cast p i) (Line r j b7) n refl
cast_in p i (InDeque r j) n f = loc_none (Cast p i) (Deck r j) n refl
cast_in p i (Made q) n f = loc_none (Cast p i) (Hand q) n refl
cast_in p i (Retaken q) n f = loc_none (Cast p i) (Hand q) n refl
cast_in p i (Injected r) n f = loc_none (Cast p i) (Inj r) n refl
cast_in p i (Running q) n f = loc_run (Cast p i) (Hand q) (Work q) n
cast_in p i _ n f = refl

hand_in : (q : Party) (v : Whereabouts) (n : ℕ) → is_loc (Hand q) (loc_of v n) ≡ one (is_with q v && (n == 0))
hand_in q (Made r) n = loc_if (Hand q) (Hand r) n
hand_in q (Running r) n = let a : is_loc (Hand q) (loc_of (Running r) n) ≡ (one (same_party q r && (n == 0)) + one (false && (n == 1))) = loc_run (Hand q) (Hand r) (Work r) n in omega (arith, a)
hand_in q (InDeque r j) n = loc_none (Hand q) (Deck r j) n refl
hand_in q (Injected r) n = loc_none (Hand q) (Inj r) n refl
hand_in q (InCast r j) n = loc_none (Hand q) (Cast r j) n refl
hand_in q (InFifo r j b7) n = loc_none (Hand q) (Line r j b7) n refl
hand_in q (Retaken r) n = loc_if (Hand q) (Hand r) n
hand_in q _ n = refl

work_in : (q : Party) (v : Whereabouts) (n : ℕ) → is_loc (Work q) (loc_of v n) ≡ one (runs_with q v && (n == 1))
work_in q (Running r) n = let a : is_loc (Work q) (loc_of (Running r) n) ≡ (one (false && (n == 0)) + one (same_party q r && (n == 1))) = loc_run (Work q) (Hand r) (Work r) n in omega (arith, a)
work_in q (Made r) n = loc_none (Work q) (Hand r) n refl
work_in q (InDeque r j) n = loc_none (Work q) (Deck r j) n refl
work_in q (Injected r) n = loc_none (Work q) (Inj r) n refl
work_in q (InCast r j) n = loc_none (Work q) (Cast r j) n refl
work_in q (InFifo r j b7) n = loc_none (Work q) (Line r j b7) n refl
work_in q (Retaken r) n = loc_none (Work q) (Hand r) n refl
work_in q _ n = refl

pub once : (w : World) → JobsHold w → IsOnce w
once w h = record {
  known = λ t b. h.known t (omega (arith, b));
  unknown = h.unmade;
  runs = λ t. begun_once ((w.job t).at) ((w.job t).runs) (((h.ok).fit) t);
  over = λ t e z. subst (λ v. fits v ((w.job t).runs)) z (((h.ok).fit) t);
  unbegun = λ t z. not_begun ((w.job t).at) ((w.job t).runs) z (((h.ok).fit) t);
  deque = λ p i t. ((h.ok).placed) (Deck p i) t ∙ deck_in p i ((w.job t).at) ((w.job t).runs) (((h.ok).fit) t);
  injector = λ p t. ((h.ok).placed) (Inj p) t ∙ inj_in p ((w.job t).at) ((w.job t).runs) (((h.ok).fit) t);
  fifo = λ p i b t. ((h.ok).placed) (Line p i b) t ∙ line_in p i b ((w.job t).at) ((w.job t).runs) (((h.ok).fit) t);
  cast = λ p i t. ((h.ok).placed) (Cast p i) t ∙ cast_in p i ((w.job t).at) ((w.job t).runs) (((h.ok).fit) t);
  hand = λ q t. ((h.ok).placed) (Hand q) t ∙ hand_in q ((w.job t).at) ((w.job t).runs);
  running = λ q t. ((h.ok).placed) (Work q) t ∙ work_in q ((w.job t).at) ((w.job t).runs);
}
