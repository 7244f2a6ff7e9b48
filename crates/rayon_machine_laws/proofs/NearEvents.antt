-- where each job is in every world of every run
use Rattle.std.proofs.Common.{arith, refl, ◌∙◌, sym, ap, subst, inl, inr}
use Rattle.std.specs.Prelude.{ℕ, Bool, true, false, not, ◌&&◌, ◌||◌, ◌+◌, ◌-◌, ◌==◌, ◌<◌, ◌≤◌, nat_lt, if◌then◌else◌, Option, Some, None, ◌≡◌, ◌⊎◌, IfSome, List, [], ◌∷◌}
use Rattle.std.proofs.lemmas.Bool.{eqb-true, eq-eqb}
use Rattle.rayon_machine_places.specs.declared.place.Party.{Party}
use Rattle.rayon_machine_places.specs.declared.place.Party.TheVariants.{Worker, Caller}
use Rattle.rayon_machine_places.specs.declared.place.Ending.{Ending}
use Rattle.rayon_machine_places.specs.declared.place.Ending.TheVariants.{Fine, Fault}
use Rattle.rayon_machine_places.specs.declared.place.JobKind.{JobKind}
use Rattle.rayon_machine_places.specs.declared.place.JobKind.TheVariants.{Detached, Stored, Direct, Scoped, BodyOf, PieceOf, WholeOf, TokenOf}
use Rattle.rayon_machine_places.specs.declared.place.Target.TheVariants.{Termination}
use Rattle.rayon_machine_places.specs.declared.place.Count.{Count}
use Rattle.rayon_machine_places.specs.declared.place.Count.TheVariants.{OfPool, OfScope, OfCast}
use Rattle.rayon_machine_places.specs.declared.place.Share.TheVariants.{PoolValue}
use Rattle.rayon_machine_places.specs.declared.place.Then.{Then}
use Rattle.rayon_machine_places.specs.declared.place.Then.TheVariants.{Resume, RunFirst}
use Rattle.rayon_machine_places.specs.declared.place.Mark.TheVariants.{Counted, Numbered, Queued, Dealt, Unnumbered, Returned}
use Rattle.rayon_machine_places.specs.declared.place.Pieces.{Pieces}
use Rattle.rayon_machine_places.specs.declared.place.OpenCall.{OpenCall}
use Rattle.rayon_machine_places.specs.declared.place.Plan.{Plan}
use Rattle.rayon_machine_places.specs.declared.place.Plan.TheVariants.{Detach, Here, Send, Fork, Feed, Open, Enter, Gather}
use Rattle.rayon_machine_places.specs.declared.place.Place.{Place}
use Rattle.rayon_machine_places.specs.declared.place.Place.TheVariants.{ProbeWorking, JoinProbe, JoinPop, YieldPop, LocalPop, BeginTask, BeginHere, Run, RaiseCount, GrowCall, GrowScope, OpenSlot, LookQueue, PushJob, RaiseForAll, TellNews, LockToWake, WakeWorker, UnlockWoken, LowerCount, SetLatch, LockToSettle, WakeSettled, UnlockSettled, SetLockLatch, FirstSide, SecondSide, ScopeBody, AtOnce, Free, Stopped}
use Rattle.rayon_machine_places.specs.declared.place.Move.{Move}
use Rattle.rayon_machine_places.specs.declared.place.Move.TheVariants.{Stay, Enter, StartRun, Back, HandBack, Discard, HandIn, Mark, HandAllBack}
use Rattle.rayon_machine_places.specs.declared.act.Seen.{Seen}
use Rattle.rayon_machine_runs.specs.declared.event.Event.{Event}
use Rattle.rayon_machine_runs.specs.declared.event.Event.TheVariants.{Go}
use Rattle.rayon_machine_places.specs.declared.shape.PoolShape.{PoolShape}
use Rattle.rayon_machine_runs.specs.declared.state.Whereabouts.{Whereabouts}
use Rattle.rayon_machine_runs.specs.declared.state.Whereabouts.TheVariants.{Made, InDeque, Retaken, Running, Over}
use Rattle.rayon_machine_runs.specs.declared.state.Job.{Job}
use Rattle.rayon_machine_places.specs.Places.{same_party, is_member, act_of, next_of, count_book, count_kind, is_taken, goes_on, fresh}
use Rattle.rayon_machine_runs.specs.World.{Shape, Stack, World, Part, Outcome, counts_at, at_job, begun, popped, own_of}
use Rattle.rayon_machine_places.specs.Targets.{target_pool, target_worker, target_call, or_none, taken_as}
use Rattle.rayon_machine_runs.specs.Steps.{put, put_stack, put_pieces, with_stack, after_move, after_resume, after_close, after_call, is_piece, after_feed, after_deal, after_gather, after_send, new_job, new_piece, new_whole, step}
use Rattle.rayon_machine_runs.specs.Runs.{IsRun, start, first_place}
use Rattle.rayon_machine_laws.specs.Once.{IsOnce, in_deque, is_with}
use Rattle.rayon_machine_laws.specs.Near.{IsNear, has_line, is_body, is_direct, is_for, is_near}
use Rattle.rayon_machine_laws.proofs.Cases.{Turn, NoScope, turn_to, with_join, is_free_at, event_cases}
use Rattle.rayon_machine_laws.proofs.Frame.{acted_keeps, either, if_some_and, if_some_map, put_new, put_old, put_same, same_party_true, stack_mine, stack_other}
use Rattle.rayon_machine_laws.proofs.Ties.{job_at, outcome, result}
use Rattle.rayon_machine_laws.proofs.Calm.{next_at}
use Rattle.rayon_machine_laws.proofs.Claims.{Says}
use Rattle.rayon_machine_laws.proofs.Later.{Static}
use Rattle.rayon_machine_laws.proofs.ClaimRuns.{place_part}
use Rattle.rayon_machine_laws.proofs.ClaimMakes.{always_once}
use Rattle.rayon_machine_laws.proofs.ShareActs.{SharesHold}
use Rattle.rayon_machine_laws.proofs.ShareEnds.{always_shares}
use Rattle.rayon_machine_laws.proofs.Bounds.{Good, goods, own_at}
use Rattle.rayon_machine_laws.proofs.Fixed.{apart, deal_old, made_law, made_old, two_old}
use Rattle.rayon_machine_laws.proofs.Posts.{is_live}
use Rattle.rayon_machine_laws.proofs.PostEvents.{AllLive, Based, is_act}
use Rattle.rayon_machine_laws.proofs.Stops.{always_stops, made, run_has}
use Rattle.rayon_machine_laws.proofs.Records.{Markings, Starts, after_each}
use Rattle.rayon_machine_laws.proofs.Kindly.{KindMove, Kinds, PlanKinds, StartKinds, ThenKinds, is_made, is_stored, kinds_next}
use Rattle.rayon_machine_laws.proofs.Near.{Goes, Moves, Near, act_moves, both, in_hand}

-- what is said of the jobs of a place stays so, while kinds stay and nothing comes to be made
module _ (J K : ℕ → Job) (n m : ℕ) (l : n ≤ m) (kinds : (t : ℕ) → t < n → (K t).kind ≡ (J t).kind) (makes : (t : ℕ) → t < n → is_made (J t).at ≡ false → is_made (K t).at ≡ false) where
  up : (t : ℕ) → t < n → t < m
  up t a = omega (arith, a, l)

  plan_later : (p : Plan) → PlanKinds J n p → PlanKinds K m p
  plan_later (Here p t) d = (up t (d.0), kinds t (d.0) ∙ d.1)
  plan_later (Send o) d = (up o.job (d.0), ap is_stored (kinds o.job (d.0)) ∙ d.1)
  plan_later (Fork o a) d = (up o.job (d.0), ap is_stored (kinds o.job (d.0)) ∙ d.1, up a (d.2), kinds a (d.2) ∙ d.3)
  plan_later (Open o) d = (up o.job (d.0), ap is_body (kinds o.job (d.0)) ∙ d.1)
  plan_later (Detach p t) d = tt
  plan_later (Feed f) d = tt
  plan_later (Enter e) d = tt
  plan_later (Gather g) d = tt

  then_later : (t : Then) → ThenKinds J n t → ThenKinds K m t
  then_later (RunFirst o a) d = (up a (d.0), kinds a (d.0) ∙ d.1)
  then_later _ d = tt

  kinds_later : (y : Place) → Kinds J n y → Kinds K m y
  kinds_later (RaiseCount p) d = plan_later p d
  kinds_later (GrowCall p) d = plan_later p d
  kinds_later (GrowScope o) d = plan_later (Open o) d
  kinds_later (OpenSlot p) d = plan_later p d
  kinds_later (LookQueue p) d = plan_later p d
  kinds_later (PushJob p e) d = plan_later p d
  kinds_later (TellNews p e) d = plan_later p d
  kinds_later (LockToWake k) d = then_later k.then d
  kinds_later (WakeWorker k) d = then_later k.then d
  kinds_later (UnlockWoken k) d = then_later k.then d
  kinds_later (LowerCount c s t) d = then_later t d
  kinds_later (SetLatch s) d = then_later s.then d
  kinds_later (LockToSettle s) d = then_later s.then d
  kinds_later (WakeSettled s) d = then_later s.then d
  kinds_later (UnlockSettled s) d = then_later s.then d
  kinds_later (SetLockLatch c t) d = then_later t d
  kinds_later (BeginHere t) d = (up t (d.0), elim (d.1) [ inl e ↦ inl (kinds t (d.0) ∙ e) | inr e ↦ inr (makes t (d.0) e) ])
  kinds_later _ d = tt

frame_kinds : (J : ℕ → Job) (n : ℕ) (f : Place) → is_live f ≡ true → Kinds J n f
frame_kinds J n (ProbeWorking k) e = tt
frame_kinds J n (JoinProbe o) e = tt
frame_kinds J n (FirstSide o a) e = tt
frame_kinds J n (SecondSide o) e = tt
frame_kinds J n (ScopeBody o) e = tt
frame_kinds J n (AtOnce p t) e = tt
frame_kinds J n (Run t k) e = tt
frame_kinds J n Free e = tt
frame_kinds J n _ e = absurd (cc)

-- where a move leads
land_kinds : (J : ℕ → Job) (n : ℕ) (x : Place) (g : Move) (fs : List Place) → AllLive fs → KindMove J n x g → Kinds J n (after_move g fs).top
land_kinds J n x (Stay y) fs a d = d
land_kinds J n x (HandIn y k) fs a d = d
land_kinds J n x (Mark y b m) fs a d = d
land_kinds J n x (Enter f y) fs a d = d
land_kinds J n x (StartRun f t) fs a d = tt
land_kinds J n x Back [] a d = tt
land_kinds J n x (HandBack p) [] a d = tt
land_kinds J n x (Discard k) [] a d = tt
land_kinds J n x (HandAllBack b) [] a d = tt
land_kinds J n x Back (f ∷ fs) a d = frame_kinds J n f (a.0)
land_kinds J n x (HandBack p) (f ∷ fs) a d = frame_kinds J n f (a.0)
land_kinds J n x (Discard k) (f ∷ fs) a d = frame_kinds J n f (a.0)
land_kinds J n x (HandAllBack b) (f ∷ fs) a d = frame_kinds J n f (a.0)

-- a worker takes the second side of its join from its own deque, so it is made no longer
taken_is : (t u : ℕ) (k : JobKind) → is_taken (taken_as t k) u ≡ true → t ≡ u
taken_is t u (TokenOf i b) e = absurd (cc)
taken_is t u Direct e = eqb-true t u e
taken_is t u (Detached p) e = eqb-true t u e
taken_is t u (Stored c o) e = eqb-true t u e
taken_is t u (Scoped c o) e = eqb-true t u e
taken_is t u (BodyOf c o) e = eqb-true t u e
taken_is t u (PieceOf c o) e = eqb-true t u e
taken_is t u (WholeOf c o) e = eqb-true t u e

deck_unmade : (p i : ℕ) (v : Whereabouts) → in_deque p i v ≡ true → is_made v ≡ false
deck_unmade p i (InDeque a b) e = refl
deck_unmade p i _ e = absurd (cc)

pop_kinds : (J : ℕ → Job) (n : ℕ) (g : PoolShape) (q : Party) (o : OpenCall) (m : Part) (rest : List ℕ) (f : Option ℕ) → o.job < n → ((t : ℕ) → f ≡ Some t → is_made (J t).at ≡ false) → IfSome (popped q m rest f) (λ r. KindMove J n (JoinPop o) (next_of g q (JoinPop o) (r.0)))
pop_kinds J n g q o m rest None l u = tt
pop_kinds J n g q o m rest (Some t) l u = by (is_taken (taken_as t m.job.kind) o.job) refl
  where
    by : (z : Bool) → is_taken (taken_as t m.job.kind) o.job ≡ z → KindMove J n (JoinPop o) (if z then Enter (SecondSide o) (BeginHere o.job) else Enter (JoinProbe o) (BeginTask (taken_as t m.job.kind)))
    by true e = (l, inr (subst (λ k. is_made (J k).at ≡ false) (taken_is t o.job m.job.kind e) (u t refl)))
    by false e = tt

-- what a job is that its party runs at once
direct_member : (k : JobKind) (p : ℕ) (b : Option ℕ) (q : Party) (v : Whereabouts) → k ≡ Direct → is_with q v ≡ true → is_near k p b v ≡ true → is_member q p ≡ true
direct_member k p b q (Made r) d e n = ap (λ z. is_member z p) (same_party_true q r e) ∙ subst (λ z. (not (is_direct z) || is_member r p) ≡ true) d n
direct_member k p b q (Running r) d e n = ap (λ z. is_member z p) (same_party_true q r e) ∙ subst (λ z. (is_body z || is_member r p) ≡ true) d n
direct_member k p b q (Retaken r) d e n = absurd (let f : has_line k ≡ true = n in let g : has_line k ≡ false = ap has_line d in let h : true ≡ false = sym f ∙ g in cc)
direct_member k p b q _ d e n = absurd (cc)

or_left : (a b : Bool) → a ≡ true → (a || b) ≡ true
or_left true b e = refl
or_left false b e = cc

or_right : (a b : Bool) → b ≡ true → (a || b) ≡ true
or_right true b e = refl
or_right false b e = e

-- what holds of each world
pub record NearHold (w : World) : Type 0 where
  pub near : IsNear w
  pub kinds : (q : Party) → Kinds w.job w.jobs (w.stack q).top

module _ (w : World) (q : Party) (r : Seen × Part) (h : NearHold w) (once : IsOnce w) (live : AllLive (w.stack q).below) (st : Static (place_part w q (w.stack q).top) r) (mv : Moves (place_part w q (w.stack q).top) r) where
  abbrev x : Place
  x = (w.stack q).top

  abbrev n0 : ℕ
  n0 = job_at w q (act_of q x)

  abbrev g : Move
  g = next_at w q (w.stack q) (r.0)

  abbrev J : ℕ → Job
  J = put w.job n0 (r.1.job)

  abbrev after_it : World
  after_it = result w q (w.stack q) r

  touched : (t : ℕ) (z : Bool) → (t == n0) ≡ z → Goes (w.job t) (if z then r.1.job else w.job t)
  touched t true e = subst (λ k. Goes (w.job k) r.1.job) (sym (eqb-true t n0 e)) mv
  touched t false e = (λ k. k, λ k. k)

  kind_same : (t : ℕ) → (J t).kind ≡ (w.job t).kind
  kind_same t = put_same (λ j. j.kind) w.job n0 (r.1.job) t (st.kind)

  pool_same : (t : ℕ) → (J t).pool ≡ (w.job t).pool
  pool_same t = put_same (λ j. j.pool) w.job n0 (r.1.job) t (st.pool)

  starts : (f : Place) (a : ℕ) → StartKinds w.job w.jobs x a → Goes (J a) (begun q (J a))
  starts f a k = (
    λ z. elim (k.1) [
      | inl b ↦ or_left (is_body (J a).kind) (is_member q (J a).pool) (ap is_body (kind_same a) ∙ b)
      | inr b ↦ or_right (is_body (J a).kind) (is_member q (J a).pool) (ap (is_member q) (pool_same a) ∙ direct_member (w.job a).kind (w.job a).pool (w.job a).bound q (w.job a).at (b.0) (in_hand w once q x (w.stack q).below a refl (b.1)) (h.near a))
    ],
    λ z. refl,
  )

  all_starts : (g : Move) → KindMove w.job w.jobs x g → Starts Goes q g J
  all_starts (StartRun f a) k = starts f a k
  all_starts _ k = tt

  cast_at : (c : Pieces) (t : ℕ) → ((J t).pool ≡ c.pool) × ((J t).bound ≡ Some (t - c.first)) → (((J t).pool == c.pool) && is_for (t - c.first) (J t).bound) ≡ true
  cast_at c t e = both ((J t).pool == c.pool) (is_for (t - c.first) (J t).bound) (eq-eqb ((J t).pool) c.pool (e.0)) (ap (is_for (t - c.first)) (e.1) ∙ eq-eqb (t - c.first) (t - c.first) refl)

  all_marks : (g : Move) → Good J g → Markings Goes g J
  all_marks (Mark y c Counted) k = λ t z. (λ m. m, λ m. m)
  all_marks (Mark y c (Numbered i)) k = λ t z. (λ m. m, λ m. m)
  all_marks (Mark y c Unnumbered) k = λ t z. (λ m. m, λ m. m)
  all_marks (Mark y c Returned) k = λ t z. (λ m. refl, λ m. refl)
  all_marks (Mark y c Queued) k = λ t z. (λ m. cast_at c t (k t z), λ m. refl)
  all_marks (Mark y c Dealt) k = λ t z. (λ m. cast_at c t (k t z), λ m. refl)
  all_marks _ k = tt

  goes : Good J g → KindMove w.job w.jobs x g → (t : ℕ) → Goes (w.job t) (after_it.job t)
  goes gd k t = let a : Goes (w.job t) (J t) = touched t (t == n0) refl in
      let b : Goes (J t) (after_it.job t) = after_each Goes (λ j. (λ m. m, λ m. m)) (λ j. (λ m. refl, λ m. refl)) (λ j. (λ m. refl, λ m. refl)) (λ p i j. (λ m. refl, λ m. refl)) q g J (all_starts g k) (all_marks g gd) t in
      (λ m. b.0 (a.0 m), λ m. b.1 (a.1 m))

-- a party's act, from w to v
record ActNear (w : World) (q : Party) (v : World) : Type 0 where
  others : (s : Party) → same_party s q ≡ false → v.stack s ≡ w.stack s
  jobs : v.jobs ≡ w.jobs
  goes : (t : ℕ) → Goes (w.job t) (v.job t)
  kinds : Kinds w.job w.jobs (v.stack q).top

second_made : (w : World) (q : Party) (o : OpenCall) → Says w q (JoinPop o) → o.job < w.jobs
second_made w q o s = let a : o.job + 1 ≤ w.jobs = (s.0).made in omega (arith, a)

moved_kinds : (w : World) (q : Party) (x : Place) (fs : List Place) → IsOnce w → Says w q x → Kinds w.job w.jobs x → IfSome (outcome w q (record { top = x; below = fs })) (λ r. KindMove w.job w.jobs x (next_of (w.shape.pool (target_pool q (act_of q x))) q x (r.0)))
moved_kinds w (Worker a b) (JoinPop o) fs h s d = pop_kinds w.job w.jobs (w.shape.pool a) (Worker a b) o _ _ (own_of (w.shape.pool a).order (w.seat a b).own) (second_made w (Worker a b) o s)
    (λ t e. deck_unmade a b (w.job t).at (ap (λ f. in_deque a b (w.job (or_none f)).at) (sym e) ∙ own_at w h ((w.shape.pool a).order) a b t e))
moved_kinds w (Caller c) (JoinPop o) fs h s d = tt
moved_kinds w q x fs h s d = kinds_next w.job w.jobs w.shape (w.shape.pool (target_pool q (act_of q x))) q (counts_at w (target_pool q (act_of q x))) (place_part w q x) x refl d

go_near : (w : World) (q : Party) → NearHold w → IsOnce w → SharesHold w → Based (w.stack q) → IfSome (step w (Go q)) (ActNear w q)
go_near w q h once sh b = acted_keeps w q k (target_pool q (act_of q k.top)) (target_worker q (act_of q k.top)) (target_call (act_of q k.top)) (job_at w q (act_of q k.top)) o (ActNear w q)
    (if_some_map Facts (λ r. ActNear w q (result w q k r)) (λ r f. record {
      others = λ s e. stack_other w.stack q (after_move (next_at w q k (r.0)) k.below) s e;
      jobs = refl;
      goes = goes w q r h once (b.0) (((f.0).0).0) ((f.0).1) (((f.0).0).1) (f.1);
      kinds = subst (λ s. Kinds w.job w.jobs (s.top)) (sym (stack_mine w.stack q (after_move (next_at w q k (r.0)) k.below))) (land_kinds w.job w.jobs k.top (next_at w q k (r.0)) k.below (b.0) (f.1));
    }) o
    (if_some_and (λ r. Known r × Moves (place_part w q k.top) r) (λ r. KindMove w.job w.jobs k.top (next_at w q k (r.0))) o
    (if_some_and Known (Moves (place_part w q k.top)) o known (act_moves w q k.top k.below refl once h.near says (h.kinds q) (if_some_map Known (Static (place_part w q k.top)) (λ r f. f.0) o known)))
    (moved_kinds w q k.top k.below once says (h.kinds q))))
  where
    k : Stack
    k = w.stack q

    o : Outcome
    o = outcome w q (w.stack q)

    Known : Seen × Part → Type 0
    Known r = Static (place_part w q (w.stack q).top) r × Good (put w.job (job_at w q (act_of q (w.stack q).top)) (r.1.job)) (next_of (w.shape.pool (target_pool q (act_of q (w.stack q).top))) q (w.stack q).top (r.0))

    Facts : Seen × Part → Type 0
    Facts r = (Known r × Moves (place_part w q (w.stack q).top) r) × KindMove w.job w.jobs (w.stack q).top (next_at w q (w.stack q) (r.0))

    known : IfSome o Known
    known = goods w q sh

    says : Says w q (w.stack q).top
    says = ((sh.calls).says q).top

act_near : (w v : World) (q : Party) → ((t : ℕ) → t < w.jobs → (v.job t).kind ≡ (w.job t).kind) → ActNear w q v → NearHold w → NearHold v
act_near w v q kinds a h = record {
  near = λ t. (a.goes t).0 (h.near t);
  kinds = λ s. kinds_later w.job v.job w.jobs v.jobs (let e : v.jobs ≡ w.jobs = a.jobs in omega (arith, e)) kinds (λ t l n. (a.goes t).1 n) (v.stack s).top (at s (either (same_party s q)));
}
  where
    at : (s : Party) → (same_party s q ≡ true) ⊎ (same_party s q ≡ false) → Kinds w.job w.jobs (v.stack s).top
    at s (inl e) = subst (λ z. Kinds w.job w.jobs (v.stack z).top) (sym (same_party_true s q e)) a.kinds
    at s (inr e) = subst (λ z. Kinds w.job w.jobs (z.top)) (sym (a.others s e)) (h.kinds s)

-- an event that is no act
record NearTurn (w u : World) : Type 0 where
  party : Party
  to : Stack
  stack : (s : Party) → u.stack s ≡ put_stack w.stack party to s
  jobs : w.jobs ≤ u.jobs
  near : (t : ℕ) → Near (w.job t) → Near (u.job t)
  makes : (t : ℕ) → t < w.jobs → is_made (w.job t).at ≡ false → is_made (u.job t).at ≡ false
  kinds : Based (w.stack party) → Kinds u.job u.jobs to.top

turn_near : (w u : World) → ((q : Party) → Based (w.stack q)) → ((t : ℕ) → t < w.jobs → (u.job t).kind ≡ (w.job t).kind) → NearTurn w u → NearHold w → NearHold u
turn_near w u b kinds m h = record {
  near = λ t. m.near t (h.near t);
  kinds = λ s. subst (λ z. Kinds u.job u.jobs (z.top)) (sym (m.stack s)) (at s (same_party s m.party) refl);
}
  where
    at : (s : Party) (z : Bool) → same_party s m.party ≡ z → Kinds u.job u.jobs (if z then m.to else w.stack s).top
    at s true e = m.kinds (b m.party)
    at s false e = kinds_later w.job u.job w.jobs u.jobs m.jobs kinds m.makes (w.stack s).top (h.kinds s)

-- where only the party's stack is another
turn_at : (w : World) (q : Party) (k : Stack) → Kinds w.job w.jobs k.top → NearTurn w (with_stack w q k)
turn_at w q k d = record { party = q; to = k; stack = λ s. refl; jobs = omega arith; near = λ t n. n; makes = λ t l n. n; kinds = λ b. d }

turn_kinds : (J : ℕ → Job) (n : ℕ) (t : Turn) → Kinds J n (turn_to t)
turn_kinds J n (NoScope o) = tt
turn_kinds J n _ = tt

on_kinds : (J : ℕ → Job) (n : ℕ) (f : Place) (d : Ending) → is_live f ≡ true → Kinds J n (goes_on f d)
on_kinds J n (FirstSide o a) Fine e = tt
on_kinds J n (FirstSide o a) Fault e = tt
on_kinds J n (SecondSide o) d e = tt
on_kinds J n (ScopeBody o) d e = tt
on_kinds J n (AtOnce p t) d e = tt
on_kinds J n (ProbeWorking k) d e = tt
on_kinds J n (JoinProbe o) d e = tt
on_kinds J n (Run t k) d e = tt
on_kinds J n Free d e = tt
on_kinds J n _ d e = absurd (cc)

resumed_kinds : (J : ℕ → Job) (n : ℕ) (fs : List Place) (d : Ending) → AllLive fs → Kinds J n (after_resume fs d).top
resumed_kinds J n [] d a = tt
resumed_kinds J n (f ∷ fs) d a = on_kinds J n f d (a.0)

closed_kinds : (J : ℕ → Job) (n t : ℕ) (k : JobKind) (d : Ending) (fs : List Place) → AllLive fs → Kinds J n (after_close t k d fs).top
closed_kinds J n t (Detached p) d fs a = tt
closed_kinds J n t (Stored c o) d fs a = tt
closed_kinds J n t (Scoped c o) d fs a = tt
closed_kinds J n t (PieceOf c o) d fs a = tt
closed_kinds J n t Direct d fs a = resumed_kinds J n fs d a
closed_kinds J n t (TokenOf i b) d fs a = resumed_kinds J n fs d a
closed_kinds J n t (BodyOf c o) d fs a = resumed_kinds J n fs d a
closed_kinds J n t (WholeOf c o) d fs a = resumed_kinds J n fs d a

end_near : (w : World) (q : Party) (d : Ending) (t : ℕ) (k : JobKind) (fs : List Place) → w.stack q ≡ record { top = Run t k; below = fs } → NearTurn w (record w { stack = put_stack w.stack q (after_close t k d fs); job = put w.job t (at_job (w.job t) (Over d)) })
end_near w q d t k fs z = record {
  party = q;
  to = after_close t k d fs;
  stack = λ s. refl;
  jobs = omega arith;
  near = λ u n. near u (u == t) n;
  makes = λ u l n. unmade u (u == t) n;
  kinds = λ b. (let a : Based (record { top = Run t k; below = fs }) = subst Based z b in closed_kinds (put w.job t (at_job (w.job t) (Over d))) w.jobs t k d fs (a.0));
}
  where
    near : (u : ℕ) (z : Bool) → Near (w.job u) → Near (if z then at_job (w.job t) (Over d) else w.job u)
    near u true n = refl
    near u false n = n

    unmade : (u : ℕ) (z : Bool) → is_made (w.job u).at ≡ false → is_made (if z then at_job (w.job t) (Over d) else w.job u).at ≡ false
    unmade u true n = refl
    unmade u false n = n

-- a call begins
begin_near : (w u : World) (q : Party) (y : Place) → ((s : Party) → u.stack s ≡ put_stack w.stack q (after_call (w.stack q) y) s) → w.jobs ≤ u.jobs → ((t : ℕ) → t + 1 ≤ w.jobs → u.job t ≡ w.job t) → ((t : ℕ) → Near (w.job t) → Near (u.job t)) → Kinds u.job u.jobs y → NearTurn w u
begin_near w u q y s l old near d = record {
  party = q;
  to = after_call (w.stack q) y;
  stack = s;
  jobs = l;
  near = near;
  makes = λ t a n. ap (λ j. is_made (j.at)) (old t (omega (arith, a))) ∙ n;
  kinds = λ b. d;
}

one_near : (w : World) (j : Job) → Near j → (t : ℕ) → Near (w.job t) → Near (put w.job w.jobs j t)
one_near w j n t m = by (t == w.jobs)
  where
    by : (z : Bool) → Near (if z then j else w.job t)
    by true = n
    by false = m

two_near : (w : World) (j k : Job) → Near j → Near k → (t : ℕ) → Near (w.job t) → Near (put (put w.job w.jobs j) (w.jobs + 1) k t)
two_near w j k n i t m = by (t == (w.jobs + 1))
  where
    by : (z : Bool) → Near (if z then k else put w.job w.jobs j t)
    by true = i
    by false = one_near w j n t m

deal_near : (w : World) (c : Pieces) (f : ℕ → Job → Job) → ((i : ℕ) (j : Job) → Near (f i j)) → (t : ℕ) → Near (w.job t) → Near (put_pieces c f w.job t)
deal_near w c f n t m = by (is_piece c t)
  where
    by : (z : Bool) → Near (if z then f (t - c.first) (w.job t) else w.job t)
    by true = n (t - c.first) (w.job t)
    by false = m

one_old : (w : World) (j : Job) (t : ℕ) → t + 1 ≤ w.jobs → put w.job w.jobs j t ≡ w.job t
one_old w j t l = made_old w w.jobs j (omega arith) t l

counted_near : (k : Count) (q : Party) (p : ℕ) (b : Option ℕ) → is_near (count_kind k) p b (Made q) ≡ true
counted_near (OfPool r) q p b = refl
counted_near (OfScope c o) q p b = refl
counted_near (OfCast c o) q p b = refl

feed_near : (w : World) (k : Count) (p i : ℕ) → NearTurn w (after_feed w k p i (w.stack (Worker p i)))
feed_near w k p i = begin_near w (after_feed w k p i (w.stack (Worker p i))) (Worker p i) (RaiseCount (Feed (record { count = k; pool = p; job = w.jobs; token = w.jobs + 1 }))) (λ s. refl) (omega arith) (two_old w _ _)
    (two_near w (new_job (Worker p i) p (count_kind k)) (new_job (Worker p i) p (TokenOf i (count_book k))) (counted_near k (Worker p i) p None) refl) tt

deals_near : (w : World) (q : Party) (k : Count) (p : ℕ) → NearTurn w (after_deal w q k p (w.stack q))
deals_near w q k p = begin_near w (after_deal w q k p (w.stack q)) q (RaiseForAll c) (λ s. refl) (omega arith) (deal_old w c (λ i j. new_piece q k p i) refl) (deal_near w c (λ i j. new_piece q k p i) (λ i j. counted_near k q p (Some i))) tt
  where
    c : Pieces
    c = record { count = k; pool = p; first = w.jobs; workers = (w.shape.pool p).workers }

gathers_near : (w : World) (q : Party) (p : ℕ) → NearTurn w (after_gather w q p (w.stack q))
gathers_near w q p = begin_near w (after_gather w q p (w.stack q)) q (RaiseCount (Gather (record { call = o; pieces = c }))) (λ s. refl) (omega arith) old near tt
  where
    c : Pieces
    c = record { count = OfCast w.calls q; pool = p; first = w.jobs; workers = (w.shape.pool p).workers }

    o : OpenCall
    o = record { number = w.calls; pool = p; job = w.jobs + c.workers }

    old : (t : ℕ) → t + 1 ≤ w.jobs → put (put_pieces c (λ i j. new_piece q c.count p i) w.job) o.job (new_whole q p w.calls) t ≡ w.job t
    old t l = put_old (put_pieces c (λ i j. new_piece q c.count p i) w.job) o.job (new_whole q p w.calls) t (apart t o.job (omega (arith, l))) ∙ deal_old w c (λ i j. new_piece q c.count p i) refl t l

    near : (t : ℕ) → Near (w.job t) → Near (put (put_pieces c (λ i j. new_piece q c.count p i) w.job) o.job (new_whole q p w.calls) t)
    near t m = by (t == o.job)
      where
        by : (z : Bool) → Near (if z then new_whole q p w.calls else put_pieces c (λ i j. new_piece q c.count p i) w.job t)
        by true = refl
        by false = deal_near w c (λ i j. new_piece q c.count p i) (λ i j. refl) t m

sent_near : (w : World) (q : Party) (p : ℕ) (z : Bool) → is_member q p ≡ z → is_free_at w q → NearTurn w (after_send w q p (w.stack q) z)
sent_near w q p true e f = begin_near w (after_send w q p (w.stack q) true) q (RaiseCount (Here p w.jobs)) (λ s. refl) (omega arith) (one_old w _) (one_near w (new_job q p Direct) e) (omega arith, ap (λ j. j.kind) (put_new w.job w.jobs (new_job q p Direct)))
sent_near w q p false e f = begin_near w (after_send w q p (w.stack q) false) q (RaiseCount (Send (record { number = w.calls; pool = p; job = w.jobs }))) (λ s. refl) (omega arith) (one_old w _) (one_near w (new_job q p (Stored w.calls q)) refl)
    (omega arith, ap (λ j. is_stored (j.kind)) (put_new w.job w.jobs (new_job q p (Stored w.calls q))))

join_near : (w : World) (a b : ℕ) → NearTurn w (with_join w a b)
join_near w a b = begin_near w (with_join w a b) (Worker a b) (RaiseCount (Fork (record { number = w.calls; pool = a; job = w.jobs + 1 }) w.jobs)) (λ s. refl) (omega arith) (two_old w _ _) (two_near w first second (eq-eqb a a refl) refl)
    (omega arith, ap (λ j. is_stored (j.kind)) (put_new (put w.job w.jobs first) (w.jobs + 1) second), omega arith, ap (λ j. j.kind) (put_old (put w.job w.jobs first) (w.jobs + 1) second w.jobs (below w.jobs) ∙ put_new w.job w.jobs first))
  where
    first : Job
    first = new_job (Worker a b) a Direct

    second : Job
    second = new_job (Worker a b) a (Stored w.calls (Worker a b))

    below : (n : ℕ) → (n == (n + 1)) ≡ false
    below n = apart n (n + 1) (omega arith)

turns_near : (w : World) (e : Event) → is_act e ≡ false → IfSome (step w e) (NearTurn w)
turns_near w = event_cases (NearTurn w) w (record {
  turned = λ q t fs z. turn_at w q (record { top = turn_to t; below = fs }) (turn_kinds w.job w.jobs t);
  ended = end_near w;
  spawned = λ q p f. begin_near w _ q (RaiseCount (Detach p w.jobs)) (λ s. refl) (omega arith) (one_old w _) (one_near w (new_job q p (Detached p)) refl) tt;
  fed = λ p i f. feed_near w (OfPool p) p i;
  dealt = λ q p f. deals_near w q (OfPool p) p;
  sent = sent_near w;
  joined = λ p i f. join_near w p i;
  scoped = λ q p f. begin_near w _ q (RaiseCount (Open (record { number = w.calls; pool = p; job = w.jobs }))) (λ s. refl) (omega arith) (one_old w _) (one_near w (new_job q p (BodyOf w.calls q)) refl)
      (omega arith, ap (λ j. is_body (j.kind)) (put_new w.job w.jobs (new_job q p (BodyOf w.calls q))));
  entered = λ q z k. begin_near w _ q (RaiseCount (Enter (record { call = z.call; owner = z.owner; pool = z.pool; job = w.jobs }))) (λ s. refl) (omega arith) (one_old w _)
      (one_near w (new_job q z.pool (Scoped z.call z.owner)) refl) tt;
  fed_into = λ i z k. feed_near w (OfScope z.call z.owner) z.pool i;
  dealt_into = λ q z k. deals_near w q (OfScope z.call z.owner) z.pool;
  gathered = λ q p f. gathers_near w q p;
  yielded = λ p i f. turn_at w (Worker p i) (after_call (w.stack (Worker p i)) YieldPop) tt;
  yielded_local = λ p i f. turn_at w (Worker p i) (after_call (w.stack (Worker p i)) LocalPop) tt;
  given = λ q p f held. record { party = q; to = after_call (w.stack q) (LowerCount (OfPool p) PoolValue Resume); stack = λ s. refl; jobs = omega arith; near = λ t m. m; makes = λ t l m. m; kinds = λ k. tt };
})

step_near : (h : Shape) (es : List Event) (w v : World) (e : Event) → IsRun (start h) es w → step w e ≡ Some v → NearHold w → NearHold v
step_near h es w v e r s k = by e s
  where
    kinds : (e : Event) → step w e ≡ Some v → (t : ℕ) → t < w.jobs → (v.job t).kind ≡ (w.job t).kind
    kinds e s t l = (made_law w v e t s l).kind

    based : (q : Party) → Based (w.stack q)
    based = (always_stops h es w r).based

    by : (e : Event) → step w e ≡ Some v → NearHold v
    by (Go q) s = act_near w v q (kinds (Go q) s) (made (ActNear w q) w v (Go q) s (go_near w q k (always_once h es w r) (always_shares h es w r) (based q))) k
    by e s = turn_near w v based (kinds e s) (made (NearTurn w) w v e s (turns_near w e refl)) k

first_near : (h : Shape) → NearHold (start h)
first_near h = record { near = λ t. refl; kinds = λ q. kinds q }
  where
    own : (b d : Bool) → Kinds (start h).job 0 (if b then (if d then Free else ProbeWorking (fresh Termination)) else Stopped)
    own true true = tt
    own true false = tt
    own false d = tt

    out : (b : Bool) → Kinds (start h).job 0 (if b then Free else Stopped)
    out true = tt
    out false = tt

    kinds : (q : Party) → Kinds (start h).job 0 (first_place h q)
    kinds (Worker p i) = own (nat_lt i (h.pool p).workers) ((h.pool p).callers_own && (i == 0))
    kinds (Caller c) = out (nat_lt c h.callers)

pub always_near : (h : Shape) (es : List Event) (w : World) → IsRun (start h) es w → IsNear w
always_near h es w r = (run_has h NearHold (step_near h) (first_near h) es w r).near
