-- the acts that take a share or give it back, and those that do neither
--
-- A Raise takes a share that nobody had (`raise_hold`). A Lower gives one back that the party had (`lower_job` and
-- `lower_value` of ShareLowers). Every other act moves it or leaves it (`plain_hold`).
-- The two acts of a broadcast do so for all pieces at once (`raise_all_hold`, and `lower_all_hold` of ShareLowers).
use Rattle.rayon_machine_places.specs.declared.place.Gathering.{Gathering}
use Rattle.rayon_machine_laws.proofs.Raisers.{one_raiser}
use Rattle.rayon_machine_places.specs.declared.place.Party.TheVariants.{Worker, Caller}
use Rattle.rayon_machine_places.specs.declared.place.Then.TheVariants.{Resume, BeginFound, LeaveWait, Await, RunFirst, Answers, Missing as NoAnswer, Ran, GiveBack, Called, Gathers}
use Rattle.rayon_machine_places.specs.declared.place.Mark.TheVariants.{Counted, Returned, Dealt}
use Rattle.rayon_machine_places.specs.declared.place.Move.TheVariants.{Stay}
use Rattle.rayon_machine_places.specs.declared.shape.PoolShape.{PoolShape}
use Rattle.rayon_machine_places.specs.declared.place.Latch.TheVariants.{Terminate, OfCall}
use Rattle.rayon_machine_places.specs.declared.place.Latch.{Latch}
use Rattle.rayon_machine_places.specs.declared.place.Settling.{Settling}
use Rattle.rayon_machine_places.specs.declared.place.Share.{Share}
use Rattle.rayon_machine_places.specs.declared.place.Share.TheVariants.{PoolValue, OfJob, Body}
use Rattle.rayon_machine_places.specs.declared.place.Then.{Then}
use Rattle.rayon_machine_places.specs.declared.place.Pieces.{Pieces}
use Rattle.rayon_machine_laws.specs.Counted.{is_scoped, is_detached}
use Rattle.rayon_machine_places.specs.declared.place.Count.TheVariants.{OfPool, OfScope, OfCast}
use Rattle.rayon_machine_places.specs.declared.place.Count.{Count}
use Rattle.std.proofs.Common.{arith, refl, sym, ◌∙◌, ap, subst, rules}
use Rattle.std.specs.Prelude.{ℕ, Bool, true, false, ◌&&◌, ◌+◌, ◌==◌, ◌≤◌, if◌then◌else◌, List, ◌≡◌, ◌-◌, IfSome, nat_lt, not, zero, suc}
use Rattle.std.proofs.lemmas.Bool.{eqb-true, eq-eqb}
use Rattle.rayon_machine_places.specs.declared.place.Party.{Party}
use Rattle.rayon_machine_places.specs.declared.place.Plan.{Plan}
use Rattle.rayon_machine_places.specs.declared.place.Plan.TheVariants.{Detach, Here, Send, Fork, Feed, Open, Enter, Gather}
use Rattle.rayon_machine_places.specs.declared.place.Place.{Place}
use Rattle.rayon_machine_places.specs.declared.place.Place.TheVariants.{RaiseCount, RaiseForAll, LowerForAll, LowerCount, SetLatch, UnlockSettled, SetLockLatch, ProbeWorking, DealPieces}
use Rattle.rayon_machine_places.specs.declared.act.Seen.{Seen}
use Rattle.rayon_machine_places.specs.declared.act.Seen.TheVariants.{Done, Refused, Yes}
use Rattle.rayon_machine_runs.specs.declared.state.Job.{Job}
use Rattle.rayon_machine_places.specs.Places.{same_party, own_index, plan_pool, plan_job, act_of, next_of, finish, after_set, after_raise, plan_count, count_kind}
use Rattle.rayon_machine_runs.specs.World.{Stack, World, Part, Shape, effect, raised, count_call, pool_more, Pool, all_raised as all_shared}
use Rattle.rayon_machine_places.specs.Targets.{target_pool, count_pool}
use Rattle.rayon_machine_places.specs.Sleepers.{Counts}
use Rattle.rayon_machine_runs.specs.Steps.{put, put_stack, part_of, after_move, after, is_piece, mark_pieces, marked}
use Rattle.rayon_machine_laws.specs.Once.{one}
use Rattle.rayon_machine_laws.specs.Shares.{shares, is_busy}
use Rattle.rayon_machine_laws.proofs.Frame.{same_party_true, put_same, put_new, put_old, after_counted, is_sharing, if_some_all, piece_new, piece_old, gives_pieces, no_bare}
use Rattle.rayon_machine_laws.proofs.Ties.{job_at}
use Rattle.rayon_machine_laws.proofs.Claims.{call_unscoped, SaysPlan, SaysPieces, KnownCount, SaysCast, SaysGather, is_part}
use Rattle.rayon_machine_laws.proofs.ClaimActs.{Lasting}
use Rattle.rayon_machine_laws.proofs.ClaimRuns.{CallsHold, top_says, world_after, place_part}
use Rattle.rayon_machine_laws.proofs.Amounts.{values, raises_in, all_raises, all_values, gained, pushed, paid, regained}
use Rattle.rayon_machine_laws.proofs.Tokens.{Tokens, tokens_keep, tokens_gain, sum_below, sum_same, sum_change, sum_both, pieces_below, tokens_own}
use Rattle.rayon_machine_laws.proofs.ShareActs.{with_job, tally, SharesHold, one_most, one_not, Untallied, is_tally}
use Rattle.rayon_machine_laws.proofs.Lost.{is_dealt}
use Rattle.rayon_machine_laws.proofs.ShareRuns.{StartsAwaited, shares_mine, other_le, values_mine, raises_mine, raises_all, still_hold, after_shares}

-- an act, with what is known of it
pub record Ready (w : World) (q : Party) (x : Place) (fs : List Place) (r : Seen × Part) : Type 0 where
  pub hold : SharesHold w
  pub stack : w.stack q ≡ record { top = x; below = fs }
  pub last : Lasting w (world_after w q x fs r)
  pub calls : CallsHold (world_after w q x fs r)
  pub starts : StartsAwaited w (next_of (w.shape.pool (target_pool q (act_of q x))) q x (r.0))
  pub busy : (t : ℕ) → with_job ((world_after w q x fs r).job t) ≤ with_job (w.job t) + pushed t x (r.0)
  pub regains : (t : ℕ) → with_job ((world_after w q x fs r).job t) + regained t x (r.0) ≤ with_job (w.job t) + pushed t x (r.0)
  pub pools : (t : ℕ) → ((world_after w q x fs r).job t).pool ≡ (w.job t).pool
  pub dealt : (t : ℕ) → is_part (w.job t).kind ≡ true → is_dealt (w.job t).at ≡ true → is_dealt ((world_after w q x fs r).job t).at ≡ true
  pub held : (p : ℕ) → ((world_after w q x fs r).pool p).held ≡ (w.pool p).held

abbrev pub stack_after : World → Party → Place → List Place → Seen → Stack
stack_after w q x fs e = after_move (next_of (w.shape.pool (target_pool q (act_of q x))) q x e) fs

pub tally_same : (p : ℕ) (j i : Job) → j.counted ≡ i.counted → j.kind ≡ i.kind → j.pool ≡ i.pool → tally p j ≡ tally p i
tally_same p j i a k b = ap (λ c. one (c && (not (is_scoped j.kind) && (p == j.pool)))) a ∙ ap (λ v. one (i.counted && (not (is_scoped v) && (p == j.pool)))) k ∙ ap (λ n. one (i.counted && (not (is_scoped i.kind) && (p == n)))) b

-- a job without a share, one of no scope, and one of a scope
pub tally_off : (p : ℕ) (j : Job) → j.counted ≡ false → tally p j ≡ 0
tally_off p j a = ap (λ c. one (c && (not (is_scoped j.kind) && (p == j.pool)))) a

pub tally_on : (p r : ℕ) (j : Job) → j.counted ≡ true → is_scoped j.kind ≡ false → j.pool ≡ r → tally p j ≡ one (p == r)
tally_on p r j a k b = ap (λ c. one (c && (not (is_scoped j.kind) && (p == j.pool)))) a ∙ ap (λ v. one (not v && (p == j.pool))) k ∙ ap (λ n. one (p == n)) b

pub tally_scoped : (p : ℕ) (j : Job) → is_scoped j.kind ≡ true → tally p j ≡ 0
tally_scoped p j k = ap (λ v. one (j.counted && (not v && (p == j.pool)))) k ∙ none j.counted
  where
    none : (b : Bool) → one (b && false) ≡ 0
    none true = refl
    none false = refl

-- what a share of a count is of this pool's
abbrev pub weigh : Count → Bool → ℕ
weigh (OfPool r) b = one b
weigh (OfScope c o) b = 0
weigh (OfCast c o) b = 0

-- whether it is one of a pool's
abbrev pub weighs : Count → Bool → Bool
weighs (OfPool r) b = b
weighs (OfScope c o) b = false
weighs (OfCast c o) b = false

pub weigh_is : (k : Count) (b : Bool) → weigh k b ≡ one (weighs k b)
weigh_is (OfPool r) b = refl
weigh_is (OfScope c o) b = refl
weigh_is (OfCast c o) b = refl

-- what a job with a share of a known count has in a pool's
pub count_tally : (w : World) (q : Party) (k : Count) (r p : ℕ) (j : Job) → KnownCount w k r → j.counted ≡ true → j.kind ≡ count_kind k → j.pool ≡ r → tally p j ≡ weigh k (p == count_pool q k)
count_tally w q (OfPool n) r p j s a k b = let e : n ≡ r = s in tally_on p n j a (ap is_scoped k) (b ∙ sym e)
count_tally w q (OfScope c o) r p j s a k b = tally_scoped p j (ap is_scoped k)
count_tally w q (OfCast c o) r p j s a k b = absurd s

-- what the job of a plan has in a pool's count, once its share is taken
pub plan_tally : (w : World) (q : Party) (n : Plan) (p : ℕ) (j : Job) → SaysPlan w q n → j.counted ≡ true → j.kind ≡ (w.job (plan_job n)).kind → j.pool ≡ (w.job (plan_job n)).pool → tally p j ≡ weigh (plan_count n) (p == count_pool q (plan_count n))
plan_tally w q (Detach r t) p j s a k b = tally_on p r j a (ap is_scoped k ∙ ap is_scoped (s.kind)) (b ∙ s.pool)
plan_tally w q (Here r t) p j s a k b = tally_on p r j a (ap is_scoped k ∙ ap is_scoped (s.kind)) (b ∙ s.pool)
plan_tally w q (Send o) p j s a k b = tally_on p (o.pool) j a (ap is_scoped k ∙ call_unscoped ((w.job o.job).kind) (o.number, q) ((s.0).kind)) (b ∙ (s.0).pool)
plan_tally w q (Open o) p j s a k b = tally_on p (o.pool) j a (ap is_scoped k ∙ call_unscoped ((w.job o.job).kind) (o.number, q) ((s.0).kind)) (b ∙ (s.0).pool)
plan_tally w q (Fork o x) p j s a k b = tally_on p (o.pool) j a (ap is_scoped k ∙ call_unscoped ((w.job o.job).kind) (o.number, q) ((s.0).kind)) (b ∙ (s.0).pool)
plan_tally w q (Feed f) p j s a k b = count_tally w q f.count f.pool p j (s.3) a (k ∙ (s.0).kind) (b ∙ (s.0).pool)
plan_tally w q (Gather g) p j s a k b = tally_on p (g.call.pool) j a (ap is_scoped k ∙ ap is_scoped (s.whole)) (b ∙ (s.call).pool)
plan_tally w q (Enter e) p j s a k b = tally_scoped p j (ap is_scoped k ∙ ap is_scoped ((s.0).kind))

pub more_by : (k : Count) (n : ℕ) → pool_more k 1 n ≡ n + weigh k true
more_by (OfPool r) n = refl
more_by (OfScope c o) n = omega arith
more_by (OfCast c o) n = omega arith

pub weigh_none : (k : Count) (b : Bool) → b ≡ false → weigh k b ≡ 0
weigh_none (OfPool r) b e = ap one e
weigh_none (OfScope c o) b e = refl
weigh_none (OfCast c o) b e = refl

pub counted_now : (w : World) (q : Party) (x : Place) (fs : List Place) (r : Seen × Part) → w.stack q ≡ record { top = x; below = fs } → SharesHold w → r.1.job.counted ≡ (w.job (job_at w q (act_of q x))).counted
    → is_sharing (next_of (w.shape.pool (target_pool q (act_of q x))) q x (r.0)) ≡ false → (t : ℕ) → ((world_after w q x fs r).job t).counted ≡ (w.job t).counted
counted_now w q x fs r z h un st t = let a : (put w.job (job_at w q (act_of q x)) (r.1.job) t).counted ≡ (w.job t).counted = put_same (λ j. j.counted) w.job (job_at w q (act_of q x)) (r.1.job) t un in
    after_shares w q x fs (w.shape.pool (target_pool q (act_of q x))) (r.0) z h.unraised st (put w.job (job_at w q (act_of q x)) (r.1.job)) t (λ e. a ∙ e) ∙ a

-- what a party does after its last acts gives no shares and takes none
pub finish_steady : (q : Party) (t : Then) → is_sharing (finish q t) ≡ false
finish_steady q (BeginFound g t) = refl
finish_steady q (LeaveWait g) = refl
finish_steady q Resume = refl
finish_steady q Called = refl
finish_steady q (Await o) = refl
finish_steady q (Gathers o) = refl
finish_steady q (RunFirst o a) = refl
finish_steady q (Answers o f e) = refl
finish_steady q (NoAnswer o f) = refl
finish_steady q (Ran t e) = refl
finish_steady q (GiveBack n) = refl

settled_steady : (h : PoolShape) (q : Party) (s : Settling) (l : Latch) → is_sharing (after_set h q s l) ≡ false
settled_steady h q s Terminate = by (nat_lt (s.worker + 1) h.workers)
  where
    by : (b : Bool) → is_sharing (if b then Stay (SetLatch (record { latch = Terminate; pool = s.pool; worker = s.worker + 1; then = s.then })) else finish q s.then) ≡ false
    by true = refl
    by false = finish_steady q s.then
settled_steady h q s (OfCall c) = finish_steady q s.then

pub lower_steady : (g : PoolShape) (q : Party) (k : Count) (s : Share) (n : Then) (e : Seen) → is_sharing (next_of g q (LowerCount k s n) e) ≡ false
lower_steady g q (OfPool p) s n Yes = by (nat_lt 0 g.workers)
  where
    by : (b : Bool) → is_sharing (if b then Stay (SetLatch (record { latch = Terminate; pool = p; worker = 0; then = n })) else finish q n) ≡ false
    by true = refl
    by false = finish_steady q n
lower_steady g q (OfScope c o) s n Yes = refl
lower_steady g q (OfCast c o) s n Yes = refl
lower_steady g q k s n _ = finish_steady q n

-- no act but those on the count gives shares or takes them
set_steady : (h : PoolShape) (q : Party) (s : Settling) (e : Seen) → is_sharing (next_of h q (SetLatch s) e) ≡ false
set_steady h q s Yes = refl
set_steady h q s _ = settled_steady h q s s.latch

pub no_steady : (h : Shape) (g : PoolShape) (q : Party) (c : Counts) (m : Part) (x : Place) → is_tally x ≡ false → IfSome (effect (act_of q x) h q c m) (λ r. is_sharing (next_of g q x (r.0)) ≡ false)
no_steady h g (Worker i j) c m (ProbeWorking k) z = search (rules, arith)
no_steady h g q c m (RaiseCount n) z = cc
no_steady h g q c m (LowerCount (OfPool p) s n) z = cc
no_steady h g q c m (LowerCount (OfScope d o) PoolValue n) z = cc
no_steady h g q c m (LowerCount (OfScope d o) (OfJob t) n) z = cc
no_steady h g q c m (LowerCount (OfCast d o) PoolValue n) z = cc
no_steady h g q c m (LowerCount (OfCast d o) (OfJob t) n) z = cc
no_steady h g q c m (DealPieces b) z = cc
no_steady h g q c m (LowerCount (OfScope d o) Body n) z = if_some_all {A = Seen × Part} (λ r. is_sharing (next_of g q (LowerCount (OfScope d o) Body n) (r.0)) ≡ false) (λ r. lower_steady g q (OfScope d o) Body n (r.0)) (effect (act_of q (LowerCount (OfScope d o) Body n)) h q c m)
no_steady h g q c m (LowerCount (OfCast d o) Body n) z = cc
no_steady h g q c m (RaiseForAll b) z = cc
no_steady h g q c m (LowerForAll b) z = cc
no_steady h g q c m (SetLatch s) z = if_some_all {A = Seen × Part} (λ r. is_sharing (next_of g q (SetLatch s) (r.0)) ≡ false) (λ r. set_steady g q s (r.0)) (effect (act_of q (SetLatch s)) h q c m)
no_steady h g q c m (UnlockSettled s) z = if_some_all {A = Seen × Part} (λ r. is_sharing (next_of g q (UnlockSettled s) (r.0)) ≡ false) (λ r. settled_steady g q s s.latch) (effect (act_of q (UnlockSettled s)) h q c m)
no_steady h g q c m (SetLockLatch d n) z = if_some_all {A = Seen × Part} (λ r. is_sharing (next_of g q (SetLockLatch d n) (r.0)) ≡ false) (λ r. finish_steady q n) (effect (act_of q (SetLockLatch d n)) h q c m)
no_steady h g (Worker i j) c m _ z = search (rules, arith)
no_steady h g (Caller n) c m _ z = search (rules, arith)

pub raise_steady : (n : Plan) → is_sharing (after_raise n) ≡ false
raise_steady (Detach p t) = refl
raise_steady (Here p t) = refl
raise_steady (Send o) = refl
raise_steady (Fork o a) = refl
raise_steady (Feed f) = refl
raise_steady (Open o) = refl
raise_steady (Enter e) = refl
raise_steady (Gather g) = refl

-- and hands no broadcast back
pub raise_plain : (n : Plan) → gives_pieces (after_raise n) ≡ false
raise_plain (Detach p t) = refl
raise_plain (Here p t) = refl
raise_plain (Send o) = refl
raise_plain (Fork o a) = refl
raise_plain (Feed f) = refl
raise_plain (Open o) = refl
raise_plain (Enter e) = refl
raise_plain (Gather g) = refl

-- an act that takes no share and gives none back
pub steady_hold : (w : World) (q : Party) (x : Place) (fs : List Place) (r : Seen × Part) → Ready w q x fs r → ((p : ℕ) → ((world_after w q x fs r).pool p).counted ≡ (w.pool p).counted) → ((p : ℕ) → ((world_after w q x fs r).pool p).count ≡ (w.pool p).count)
    → ((t : ℕ) → ((world_after w q x fs r).job t).counted ≡ (w.job t).counted) → ((t : ℕ) → gained t x (r.0) ≡ 0) → SharesHold (world_after w q x fs r)
steady_hold w q x fs r d pc pn counted none = still_hold w (world_after w q x fs r) q (stack_after w q x fs (r.0)) (d.calls) (λ s. refl) (omega arith) counted
    pc
    (λ p. (let a : sum_below w.jobs (λ t. tally p ((world_after w q x fs r).job t)) ≡ sum_below w.jobs (λ t. tally p (w.job t)) = sum_same w.jobs (λ t. tally p ((world_after w q x fs r).job t)) (λ t. tally p (w.job t))
    (λ t b. tally_same p ((world_after w q x fs r).job t) (w.job t) (counted t) ((d.last).kinds t) (d.pools t)) in omega (arith, a)))
    pn
    (λ t. (let a : shares t (put_stack w.stack q (stack_after w q x fs (r.0)) q) + (pushed t x (r.0) + paid t x) ≡ shares t (w.stack q) + (gained t x (r.0) + regained t x (r.0)) = shares_mine w q x fs (w.shape.pool (target_pool q (act_of q x))) (r.0) t (d.stack) in
    let b : with_job ((world_after w q x fs r).job t) + regained t x (r.0) ≤ with_job (w.job t) + pushed t x (r.0) = d.regains t in let c : gained t x (r.0) ≡ 0 = none t in omega (arith, a, b, c)))
    (λ p. (let a : all_values p (put_stack w.stack q (stack_after w q x fs (r.0)) q) + values p x ≡ all_values p (w.stack q) = values_mine w q x fs (w.shape.pool (target_pool q (act_of q x))) (r.0) p (d.stack) in
    let b : one ((world_after w q x fs r).pool p).held ≡ one (w.pool p).held = ap one (d.held p) in omega (arith, a, b)))
    (λ t s. (let a : all_raises t (put_stack w.stack q (stack_after w q x fs (r.0)) s) ≤ all_raises t (w.stack s) = raises_all w q x fs (w.shape.pool (target_pool q (act_of q x))) (r.0) t (d.stack) s in let b : all_raises t (w.stack s) + one (w.job t).counted ≤ 1 = ((d.hold).unraised) s t in
    omega (arith, a, b)))
    (d.hold)

pub plain_hold : (w : World) (q : Party) (x : Place) (fs : List Place) (r : Seen × Part) → Ready w q x fs r → Untallied (place_part w q x) r → is_sharing (next_of (w.shape.pool (target_pool q (act_of q x))) q x (r.0)) ≡ false → ((t : ℕ) → gained t x (r.0) ≡ 0) → SharesHold (world_after w q x fs r)
plain_hold w q x fs r d un st none = steady_hold w q x fs r d (λ p. put_same (λ v. v.counted) w.pool (target_pool q (act_of q x)) (r.1.pool) p (un.pool)) (λ p. put_same (λ v. v.count) w.pool (target_pool q (act_of q x)) (r.1.pool) p (un.count)) counted none
  where
    counted : (t : ℕ) → ((world_after w q x fs r).job t).counted ≡ (w.job t).counted
    counted t = counted_now w q x fs r d.stack d.hold un.job st t

-- who takes a share for a job raised the count for it: it had none
pub ungiven : (w : World) → SharesHold w → (q : Party) (x : Place) (fs : List Place) (g : PoolShape) (e : Seen) → w.stack q ≡ record { top = x; below = fs } → (t : ℕ) → 1 ≤ gained t x e → (w.job t).counted ≡ false
ungiven w h q x fs g e z t n = one_not ((w.job t).counted) (let a : all_raises t (put_stack w.stack q (after_move (next_of g q x e) fs) q) + gained t x e ≤ all_raises t (w.stack q) = raises_mine w q x fs g e t z in let b : all_raises t (w.stack q) + one (w.job t).counted ≤ 1 = h.unraised q t in
    omega (arith, a, b, n))

-- and nobody raises it for that job any more
pub none_raise : (w : World) → SharesHold w → (q : Party) (x : Place) (fs : List Place) (g : PoolShape) (e : Seen) → w.stack q ≡ record { top = x; below = fs } → (t : ℕ) → 1 ≤ gained t x e → (s : Party) → all_raises t (put_stack w.stack q (after_move (next_of g q x e) fs) s) ≤ 0
none_raise w h q x fs g e z t n s = by (same_party s q) refl
  where
    mine : all_raises t (put_stack w.stack q (after_move (next_of g q x e) fs) q) + gained t x e ≤ all_raises t (w.stack q)
    mine = raises_mine w q x fs g e t z

    none : same_party s q ≡ false → (k : ℕ) → all_raises t (w.stack s) ≡ k → all_raises t (w.stack s) ≤ 0
    none y zero v = omega (arith, v)
    none y (suc k) v = absurd (one_raiser w h.calls q s t y (let a : 1 ≤ all_raises t (w.stack q) = omega (arith, mine, n) in a) (let a : 1 ≤ all_raises t (w.stack s) = omega (arith, v) in a))

    by : (b : Bool) → same_party s q ≡ b → all_raises t (put_stack w.stack q (after_move (next_of g q x e) fs) s) ≤ 0
    by true y = subst (λ r. all_raises t (put_stack w.stack q (after_move (next_of g q x e) fs) r) ≤ 0) (sym (same_party_true s q y)) (let b : all_raises t (w.stack q) + one (w.job t).counted ≤ 1 = h.unraised q t in omega (arith, mine, b, n))
    by false y = let a : all_raises t (put_stack w.stack q (after_move (next_of g q x e) fs) s) ≤ all_raises t (w.stack s) = other_le (all_raises t) w q (after_move (next_of g q x e) fs) s y in let b : all_raises t (w.stack s) ≤ 0 = none y (all_raises t (w.stack s)) refl in omega (arith, a, b)

-- what is known of the job that a plan makes
pub plan_made : (w : World) (q : Party) (n : Plan) → SaysPlan w q n → (plan_job n + 1 ≤ w.jobs) × ((w.job (plan_job n)).pool ≡ plan_pool n)
plan_made w q (Detach p t) s = (s.made, s.pool)
plan_made w q (Here p t) s = (s.made, s.pool)
plan_made w q (Send o) s = ((s.0).made, (s.0).pool)
plan_made w q (Feed f) s = ((s.0).made, (s.0).pool)
plan_made w q (Fork o a) s = ((s.0).made, (s.0).pool)
plan_made w q (Open o) s = ((s.0).made, (s.0).pool)
plan_made w q (Enter e) s = ((s.0).made, (s.0).pool)
plan_made w q (Gather g) s = ((s.call).made, (s.call).pool)

pub self_one : (t : ℕ) → one (t == t) ≡ 1
self_one t = ap one (eq-eqb t t refl)

-- the world after a share is taken
abbrev pub raised_world : World → Party → Plan → List Place → World
raised_world w q n fs = after w q (record { top = RaiseCount n; below = fs }) (count_pool q (plan_count n)) (own_index q) (count_call (plan_count n)) (plan_job n) (Done, raised (part_of w (count_pool q (plan_count n)) (own_index q) (count_call (plan_count n)) (plan_job n)) (plan_count n))

pub raise_hold : (w : World) (q : Party) (n : Plan) (fs : List Place) → SharesHold w → w.stack q ≡ record { top = RaiseCount n; below = fs } → CallsHold (raised_world w q n fs) → ((t : ℕ) → with_job ((raised_world w q n fs).job t) ≤ with_job (w.job t))
    → ((t : ℕ) → ((raised_world w q n fs).job t).kind ≡ (w.job t).kind) → ((t : ℕ) → ((raised_world w q n fs).job t).pool ≡ (w.job t).pool) → ((p : ℕ) → ((raised_world w q n fs).pool p).held ≡ (w.pool p).held) → SharesHold (raised_world w q n fs)
raise_hold w q n fs h z ch busy kinds pools keeps = record {
  calls = ch;
  jobs = λ t. jobs t (t == plan_job n) refl;
  values = λ p. subst (λ c. Tokens (λ s. all_values p ((raised_world w q n fs).stack s)) (one ((raised_world w q n fs).pool p).held) (one c)) (sym (put_same (λ v. v.counted) w.pool p0 more p refl))
      (tokens_keep (λ s. all_values p (w.stack s)) (λ s. all_values p ((raised_world w q n fs).stack s)) (one (w.pool p).held) (one ((raised_world w q n fs).pool p).held) (one (w.pool p).counted) q (one_most ((w.pool p).counted)) (λ s e. other_le (all_values p) w q k s e)
      (let a : all_values p (put_stack w.stack q k q) + values p (RaiseCount n) ≡ all_values p (w.stack q) = values_mine w q (RaiseCount n) fs (w.shape.pool p0) Done p z in let b : one ((raised_world w q n fs).pool p).held ≡ one (w.pool p).held = ap one (keeps p) in omega (arith, a, b))
      (h.values p));
  unraised = λ s t. unraised s t (t == plan_job n) refl;
  unmade = λ t b. unmade t b (t == plan_job n) refl;
  sums = λ p. sums p (p == p0) refl;
}
  where
    p0 : ℕ
    p0 = count_pool q (plan_count n)

    more : Pool
    more = record (w.pool p0) { count = pool_more (plan_count n) 1 (w.pool p0).count }

    k : Stack
    k = after_move (next_of (w.shape.pool p0) q (RaiseCount n) Done) fs

    said : (plan_job n + 1 ≤ w.jobs) × ((w.job (plan_job n)).pool ≡ plan_pool n)
    said = plan_made w q n (top_says w q (RaiseCount n) fs (h.calls) z)

    counted : (t : ℕ) → ((raised_world w q n fs).job t).counted ≡ (put w.job (plan_job n) (record (w.job (plan_job n)) { counted = true }) t).counted
    counted t = after_counted q (next_of (w.shape.pool p0) q (RaiseCount n) Done) (put w.job (plan_job n) (record (w.job (plan_job n)) { counted = true })) t (raise_steady n)
        (no_bare (next_of (w.shape.pool p0) q (RaiseCount n) Done) (put w.job (plan_job n) (record (w.job (plan_job n)) { counted = true })) t (raise_plain n))

    now : ((raised_world w q n fs).job (plan_job n)).counted ≡ true
    now = counted (plan_job n) ∙ ap (λ j. j.counted) (put_new w.job (plan_job n) (record (w.job (plan_job n)) { counted = true }))

    same : (t : ℕ) → (t == plan_job n) ≡ false → ((raised_world w q n fs).job t).counted ≡ (w.job t).counted
    same t e = counted t ∙ ap (λ j. j.counted) (put_old w.job (plan_job n) (record (w.job (plan_job n)) { counted = true }) t e)

    gain : 1 ≤ gained (plan_job n) (RaiseCount n) Done
    gain = let a : one (plan_job n == plan_job n) ≡ 1 = self_one (plan_job n) in omega (arith, a)

    before : (w.job (plan_job n)).counted ≡ false
    before = ungiven w h q (RaiseCount n) fs (w.shape.pool p0) Done z (plan_job n) gain

    line : (t : ℕ) → shares t (put_stack w.stack q k q) ≤ shares t (w.stack q) + one (t == plan_job n)
    line t = let a : shares t (put_stack w.stack q k q) + (0 + 0) ≡ shares t (w.stack q) + (one (t == plan_job n) + 0) = shares_mine w q (RaiseCount n) fs (w.shape.pool p0) Done t z in omega (arith, a)

    jobs : (t : ℕ) (b : Bool) → (t == plan_job n) ≡ b → Tokens (λ s. shares t ((raised_world w q n fs).stack s)) (with_job ((raised_world w q n fs).job t)) (one ((raised_world w q n fs).job t).counted)
    jobs t true e = subst (λ t. Tokens (λ s. shares t ((raised_world w q n fs).stack s)) (with_job ((raised_world w q n fs).job t)) (one ((raised_world w q n fs).job t).counted)) (sym (eqb-true t (plan_job n) e))
        (subst (λ c. Tokens (λ s. shares (plan_job n) ((raised_world w q n fs).stack s)) (with_job ((raised_world w q n fs).job (plan_job n))) (one c)) (sym now)
        (tokens_gain (λ s. shares (plan_job n) (w.stack s)) (λ s. shares (plan_job n) ((raised_world w q n fs).stack s)) (with_job (w.job (plan_job n))) (with_job ((raised_world w q n fs).job (plan_job n))) q (λ s y. other_le (shares (plan_job n)) w q k s y)
        (let a : shares (plan_job n) (put_stack w.stack q k q) ≤ shares (plan_job n) (w.stack q) + one (plan_job n == plan_job n) = line (plan_job n) in let b : one (plan_job n == plan_job n) ≡ 1 = self_one (plan_job n) in omega (arith, a, b))
        (busy (plan_job n)) (subst (λ c. Tokens (λ s. shares (plan_job n) (w.stack s)) (with_job (w.job (plan_job n))) (one c)) before (h.jobs (plan_job n)))))
    jobs t false e = subst (λ c. Tokens (λ s. shares t ((raised_world w q n fs).stack s)) (with_job ((raised_world w q n fs).job t)) (one c)) (sym (same t e))
        (tokens_keep (λ s. shares t (w.stack s)) (λ s. shares t ((raised_world w q n fs).stack s)) (with_job (w.job t)) (with_job ((raised_world w q n fs).job t)) (one (w.job t).counted) q (one_most ((w.job t).counted)) (λ s y. other_le (shares t) w q k s y)
        (let a : shares t (put_stack w.stack q k q) ≤ shares t (w.stack q) + one (t == plan_job n) = line t in let b : with_job ((raised_world w q n fs).job t) ≤ with_job (w.job t) = busy t in let c : one (t == plan_job n) ≡ 0 = ap one e in omega (arith, a, b, c)) (h.jobs t))

    unraised : (s : Party) (t : ℕ) (b : Bool) → (t == plan_job n) ≡ b → all_raises t ((raised_world w q n fs).stack s) + one ((raised_world w q n fs).job t).counted ≤ 1
    unraised s t true e = subst (λ t. all_raises t ((raised_world w q n fs).stack s) + one ((raised_world w q n fs).job t).counted ≤ 1) (sym (eqb-true t (plan_job n) e))
        (let a : all_raises (plan_job n) ((raised_world w q n fs).stack s) ≤ 0 = none_raise w h q (RaiseCount n) fs (w.shape.pool p0) Done z (plan_job n) gain s in
        let b : one ((raised_world w q n fs).job (plan_job n)).counted ≤ 1 = one_most (((raised_world w q n fs).job (plan_job n)).counted) in omega (arith, a, b))
    unraised s t false e = let a : all_raises t (put_stack w.stack q k s) ≤ all_raises t (w.stack s) = raises_all w q (RaiseCount n) fs (w.shape.pool p0) Done t z s in let b : all_raises t (w.stack s) + one (w.job t).counted ≤ 1 = h.unraised s t in
        let c : one ((raised_world w q n fs).job t).counted ≡ one (w.job t).counted = ap one (same t e) in omega (arith, a, b, c)

    unmade : (t : ℕ) → w.jobs ≤ t → (b : Bool) → (t == plan_job n) ≡ b → ((raised_world w q n fs).job t).counted ≡ false
    unmade t y true e = absurd (let i : t ≡ plan_job n = eqb-true t (plan_job n) e in let m : plan_job n + 1 ≤ w.jobs = said.0 in omega (arith, i, m, y))
    unmade t y false e = same t e ∙ h.unmade t y

    change : (p : ℕ) → (sum_below w.jobs (λ t. tally p ((raised_world w q n fs).job t)) + tally p (w.job (plan_job n))) ≡ (sum_below w.jobs (λ t. tally p (w.job t)) + tally p ((raised_world w q n fs).job (plan_job n)))
    change p = sum_change w.jobs (λ t. tally p (w.job t)) (λ t. tally p ((raised_world w q n fs).job t)) (plan_job n) (said.0) (λ t e. sym (tally_same p ((raised_world w q n fs).job t) (w.job t) (same t e) (kinds t) (pools t)))

    new_tally : (p : ℕ) → tally p ((raised_world w q n fs).job (plan_job n)) ≡ weigh (plan_count n) (p == p0)
    new_tally p = plan_tally w q n p ((raised_world w q n fs).job (plan_job n)) (top_says w q (RaiseCount n) fs (h.calls) z) now (kinds (plan_job n)) (pools (plan_job n))

    sums : (p : ℕ) (b : Bool) → (p == p0) ≡ b → sum_below w.jobs (λ t. tally p ((raised_world w q n fs).job t)) + one (if b then more else w.pool p).counted ≡ (if b then more else w.pool p).count
    sums p true e = let i : p ≡ p0 = eqb-true p p0 e in
        let a : sum_below w.jobs (λ t. tally p (w.job t)) + one (w.pool p).counted ≡ (w.pool p).count = h.sums p in
        let b : (sum_below w.jobs (λ t. tally p ((raised_world w q n fs).job t)) + tally p (w.job (plan_job n))) ≡ (sum_below w.jobs (λ t. tally p (w.job t)) + tally p ((raised_world w q n fs).job (plan_job n))) = change p in
        let c : tally p ((raised_world w q n fs).job (plan_job n)) ≡ weigh (plan_count n) true = new_tally p ∙ ap (weigh (plan_count n)) e in
        let d : pool_more (plan_count n) 1 (w.pool p0).count ≡ (w.pool p0).count + weigh (plan_count n) true = more_by (plan_count n) ((w.pool p0).count) in
        let f : one (w.pool p0).counted ≡ one (w.pool p).counted = ap (λ m. one (w.pool m).counted) (sym i) in
        let g : (w.pool p0).count ≡ (w.pool p).count = ap (λ m. (w.pool m).count) (sym i) in
        let old : tally p (w.job (plan_job n)) ≡ 0 = tally_off p (w.job (plan_job n)) before in omega (arith, a, b, c, d, f, g, old)
    sums p false e = let a : sum_below w.jobs (λ t. tally p (w.job t)) + one (w.pool p).counted ≡ (w.pool p).count = h.sums p in
        let b : (sum_below w.jobs (λ t. tally p ((raised_world w q n fs).job t)) + tally p (w.job (plan_job n))) ≡ (sum_below w.jobs (λ t. tally p (w.job t)) + tally p ((raised_world w q n fs).job (plan_job n))) = change p in
        let c : tally p ((raised_world w q n fs).job (plan_job n)) ≡ weigh (plan_count n) (p == p0) = new_tally p in
        let d : weigh (plan_count n) (p == p0) ≡ 0 = weigh_none (plan_count n) (p == p0) e in
        let old : tally p (w.job (plan_job n)) ≡ 0 = tally_off p (w.job (plan_job n)) before in omega (arith, a, b, c, d, old)

-- what a broadcast says of its pieces
pub pieces_made : (w : World) (c : Pieces) → SaysPieces w c → (t : ℕ) → is_piece c t ≡ true → t + 1 ≤ w.jobs
pieces_made w c s t e = (s t e).made

-- a broadcast that finds its pool ended has taken no share
pub back_counted : (w : World) (q : Party) (c : Pieces) (fs : List Place) → SharesHold w → w.stack q ≡ record { top = RaiseForAll c; below = fs } → (t : ℕ) → (mark_pieces c Returned (put w.job 0 (w.job 0)) t).counted ≡ (w.job t).counted
back_counted w q c fs h z t = by (is_piece c t) refl
  where
    by : (b : Bool) → is_piece c t ≡ b → (if b then marked Returned c.pool (t - c.first) (put w.job 0 (w.job 0) t) else put w.job 0 (w.job 0) t).counted ≡ (w.job t).counted
    by true e = sym (one_not ((w.job t).counted) (let a : all_raises t (w.stack q) ≡ (one (is_piece c t) + raises_in t fs) = ap (all_raises t) z in let b : one (is_piece c t) ≡ 1 = ap one e in let d : all_raises t (w.stack q) + one (w.job t).counted ≤ 1 = h.unraised q t in omega (arith, a, b, d)))
    by false e = put_same (λ j. j.counted) w.job 0 (w.job 0) t refl

pub refused_hold : (w : World) (q : Party) (c : Pieces) (fs : List Place) → Ready w q (RaiseForAll c) fs (Refused, place_part w q (RaiseForAll c)) → (world_after w q (RaiseForAll c) fs (Refused, place_part w q (RaiseForAll c))).job ≡ mark_pieces c Returned (put w.job 0 (w.job 0))
    → SharesHold (world_after w q (RaiseForAll c) fs (Refused, place_part w q (RaiseForAll c)))
refused_hold w q c fs d jo = steady_hold w q (RaiseForAll c) fs (Refused, place_part w q (RaiseForAll c)) d
    (λ p. put_same (λ v. v.counted) w.pool (target_pool q (act_of q (RaiseForAll c))) (w.pool (target_pool q (act_of q (RaiseForAll c)))) p refl)
    (λ p. put_same (λ v. v.count) w.pool (target_pool q (act_of q (RaiseForAll c))) (w.pool (target_pool q (act_of q (RaiseForAll c)))) p refl)
    (λ t. ap (λ J. (J t).counted) jo ∙ back_counted w q c fs d.hold d.stack t) (λ t. refl)

-- the world after a broadcast has taken its shares
abbrev pub all_raised : World → Party → Pieces → List Place → World
all_raised w q c fs = after w q (record { top = RaiseForAll c; below = fs }) (count_pool q c.count) (own_index q) (count_call c.count) 0 (Done, all_shared (part_of w (count_pool q c.count) (own_index q) (count_call c.count) 0) c)

pub more_all : (k : Count) (n m : ℕ) → weighs k true ≡ true → pool_more k n m ≡ m + n
more_all (OfPool r) n m e = refl
more_all (OfScope c o) n m e = cc
more_all (OfCast c o) n m e = cc

pub more_none : (k : Count) (n m : ℕ) → weighs k true ≡ false → pool_more k n m ≡ m
more_none (OfPool r) n m e = cc
more_none (OfScope c o) n m e = refl
more_none (OfCast c o) n m e = refl

pub weighs_none : (k : Count) → weighs k false ≡ false
weighs_none (OfPool r) = refl
weighs_none (OfScope c o) = refl
weighs_none (OfCast c o) = refl

pub raise_all_hold : (w : World) (q : Party) (c : Pieces) (fs : List Place) → SharesHold w → w.stack q ≡ record { top = RaiseForAll c; below = fs } → CallsHold (all_raised w q c fs) → ((t : ℕ) → with_job ((all_raised w q c fs).job t) ≤ with_job (w.job t))
    → ((t : ℕ) → ((all_raised w q c fs).job t).kind ≡ (w.job t).kind) → ((t : ℕ) → ((all_raised w q c fs).job t).pool ≡ (w.job t).pool) → ((p : ℕ) → ((all_raised w q c fs).pool p).held ≡ (w.pool p).held) → SharesHold (all_raised w q c fs)
raise_all_hold w q c fs h z ch busy kinds pools keeps = record {
  calls = ch;
  jobs = λ t. jobs t (is_piece c t) refl;
  values = λ p. subst (λ d. Tokens (λ s. all_values p (v.stack s)) (one (v.pool p).held) (one d)) (sym (put_same (λ a. a.counted) w.pool p0 more p refl))
      (tokens_keep (λ s. all_values p (w.stack s)) (λ s. all_values p (v.stack s)) (one (w.pool p).held) (one (v.pool p).held) (one (w.pool p).counted) q (one_most ((w.pool p).counted)) (λ s e. other_le (all_values p) w q k s e)
      (let a : all_values p (put_stack w.stack q k q) + 0 ≡ all_values p (w.stack q) = values_mine w q (RaiseForAll c) fs (w.shape.pool p0) Done p z in let b : one (v.pool p).held ≡ one (w.pool p).held = ap one (keeps p) in omega (arith, a, b)) (h.values p));
  unraised = λ s t. unraised s t (is_piece c t) refl;
  unmade = λ t b. unmade t b (is_piece c t) refl;
  sums = λ p. sums p (p == p0) refl;
}
  where
    p0 : ℕ
    p0 = count_pool q c.count

    more : Pool
    more = record (w.pool p0) { count = pool_more c.count c.workers (w.pool p0).count }

    v : World
    v = all_raised w q c fs

    k : Stack
    k = after_move (next_of (w.shape.pool p0) q (RaiseForAll c) Done) fs

    claim : SaysCast w c
    claim = top_says w q (RaiseForAll c) fs (h.calls) z

    said : SaysPieces w c
    said = claim.0

    now : (t : ℕ) → is_piece c t ≡ true → (v.job t).counted ≡ true
    now t e = ap (λ j. j.counted) (piece_new c (marked Counted c.pool) (put w.job 0 (w.job 0)) t e)

    same : (t : ℕ) → is_piece c t ≡ false → (v.job t).counted ≡ (w.job t).counted
    same t e = ap (λ j. j.counted) (piece_old c (marked Counted c.pool) (put w.job 0 (w.job 0)) t e) ∙ put_same (λ j. j.counted) w.job 0 (w.job 0) t refl

    gain : (t : ℕ) → is_piece c t ≡ true → 1 ≤ gained t (RaiseForAll c) Done
    gain t e = let a : one (is_piece c t) ≡ 1 = ap one e in omega (arith, a)

    before : (t : ℕ) → is_piece c t ≡ true → (w.job t).counted ≡ false
    before t e = ungiven w h q (RaiseForAll c) fs (w.shape.pool p0) Done z t (gain t e)

    line : (t : ℕ) → shares t (put_stack w.stack q k q) ≤ shares t (w.stack q) + one (is_piece c t)
    line t = let a : shares t (put_stack w.stack q k q) + (0 + 0) ≡ shares t (w.stack q) + (one (is_piece c t) + 0) = shares_mine w q (RaiseForAll c) fs (w.shape.pool p0) Done t z in omega (arith, a)

    jobs : (t : ℕ) (b : Bool) → is_piece c t ≡ b → Tokens (λ s. shares t (v.stack s)) (with_job (v.job t)) (one (v.job t).counted)
    jobs t true e = subst (λ d. Tokens (λ s. shares t (v.stack s)) (with_job (v.job t)) (one d)) (sym (now t e))
        (tokens_gain (λ s. shares t (w.stack s)) (λ s. shares t (v.stack s)) (with_job (w.job t)) (with_job (v.job t)) q (λ s y. other_le (shares t) w q k s y)
        (let a : shares t (put_stack w.stack q k q) ≤ shares t (w.stack q) + one (is_piece c t) = line t in let b : one (is_piece c t) ≡ 1 = ap one e in omega (arith, a, b))
        (busy t) (subst (λ d. Tokens (λ s. shares t (w.stack s)) (with_job (w.job t)) (one d)) (before t e) (h.jobs t)))
    jobs t false e = subst (λ d. Tokens (λ s. shares t (v.stack s)) (with_job (v.job t)) (one d)) (sym (same t e))
        (tokens_keep (λ s. shares t (w.stack s)) (λ s. shares t (v.stack s)) (with_job (w.job t)) (with_job (v.job t)) (one (w.job t).counted) q (one_most ((w.job t).counted)) (λ s y. other_le (shares t) w q k s y)
        (let a : shares t (put_stack w.stack q k q) ≤ shares t (w.stack q) + one (is_piece c t) = line t in let b : with_job (v.job t) ≤ with_job (w.job t) = busy t in let d : one (is_piece c t) ≡ 0 = ap one e in omega (arith, a, b, d)) (h.jobs t))

    unraised : (s : Party) (t : ℕ) (b : Bool) → is_piece c t ≡ b → all_raises t (v.stack s) + one (v.job t).counted ≤ 1
    unraised s t true e = let a : all_raises t (v.stack s) ≤ 0 = none_raise w h q (RaiseForAll c) fs (w.shape.pool p0) Done z t (gain t e) s in let b : one (v.job t).counted ≤ 1 = one_most ((v.job t).counted) in omega (arith, a, b)
    unraised s t false e = let a : all_raises t (put_stack w.stack q k s) ≤ all_raises t (w.stack s) = raises_all w q (RaiseForAll c) fs (w.shape.pool p0) Done t z s in let b : all_raises t (w.stack s) + one (w.job t).counted ≤ 1 = h.unraised s t in
        let d : one (v.job t).counted ≡ one (w.job t).counted = ap one (same t e) in omega (arith, a, b, d)

    unmade : (t : ℕ) → w.jobs ≤ t → (b : Bool) → is_piece c t ≡ b → (v.job t).counted ≡ false
    unmade t y true e = absurd (let m : t + 1 ≤ w.jobs = pieces_made w c said t e in omega (arith, m, y))
    unmade t y false e = same t e ∙ h.unmade t y

    new_tally : (p t : ℕ) → is_piece c t ≡ true → tally p (v.job t) ≡ one (weighs c.count (p == p0))
    new_tally p t e = count_tally w q c.count c.pool p (v.job t) (claim.1) (now t e) (kinds t ∙ (said t e).kind) (pools t ∙ (said t e).pool) ∙ weigh_is c.count (p == p0)

    gains : (p t : ℕ) (b : Bool) → is_piece c t ≡ b → weighs c.count (p == p0) ≡ true → tally p (v.job t) ≡ tally p (w.job t) + one (is_piece c t)
    gains p t true e y = let a : tally p (v.job t) ≡ 1 = new_tally p t e ∙ ap one y in let b : tally p (w.job t) ≡ 0 = tally_off p (w.job t) (before t e) in let d : one (is_piece c t) ≡ 1 = ap one e in omega (arith, a, b, d)
    gains p t false e y = let a : tally p (v.job t) ≡ tally p (w.job t) = tally_same p (v.job t) (w.job t) (same t e) (kinds t) (pools t) in let d : one (is_piece c t) ≡ 0 = ap one e in omega (arith, a, d)

    stays : (p t : ℕ) (b : Bool) → is_piece c t ≡ b → weighs c.count (p == p0) ≡ false → tally p (v.job t) ≡ tally p (w.job t)
    stays p t true e y = let a : tally p (v.job t) ≡ 0 = new_tally p t e ∙ ap one y in let b : tally p (w.job t) ≡ 0 = tally_off p (w.job t) (before t e) in omega (arith, a, b)
    stays p t false e y = tally_same p (v.job t) (w.job t) (same t e) (kinds t) (pools t)

    kept : (p : ℕ) → weighs c.count (p == p0) ≡ false → sum_below w.jobs (λ t. tally p (v.job t)) ≡ sum_below w.jobs (λ t. tally p (w.job t))
    kept p y = sum_same w.jobs (λ t. tally p (v.job t)) (λ t. tally p (w.job t)) (λ t l. stays p t (is_piece c t) refl y)

    at : (p : ℕ) → (p == p0) ≡ true → (d : Bool) → weighs c.count true ≡ d → sum_below w.jobs (λ t. tally p (v.job t)) + one (w.pool p0).counted ≡ pool_more c.count c.workers (w.pool p0).count
    at p e true y = let i : p ≡ p0 = eqb-true p p0 e in
        let a : sum_below w.jobs (λ t. tally p (w.job t)) + one (w.pool p).counted ≡ (w.pool p).count = h.sums p in
        let b : sum_below w.jobs (λ t. tally p (v.job t)) ≡ sum_below w.jobs (λ t. tally p (w.job t)) + sum_below w.jobs (λ t. one (is_piece c t)) =
        sum_both w.jobs (λ t. tally p (w.job t)) (λ t. tally p (v.job t)) (λ t. one (is_piece c t)) (λ t l. gains p t (is_piece c t) refl (ap (weighs c.count) e ∙ y)) in
        let d : sum_below w.jobs (λ t. one (is_piece c t)) ≡ c.workers = pieces_below w.jobs c (pieces_made w c said) in
        let f : one (w.pool p0).counted ≡ one (w.pool p).counted = ap (λ m. one (w.pool m).counted) (sym i) in
        let g : (w.pool p0).count ≡ (w.pool p).count = ap (λ m. (w.pool m).count) (sym i) in
        let j : pool_more c.count c.workers (w.pool p0).count ≡ (w.pool p0).count + c.workers = more_all c.count c.workers ((w.pool p0).count) y in omega (arith, a, b, d, f, g, j)
    at p e false y = let i : p ≡ p0 = eqb-true p p0 e in
        let a : sum_below w.jobs (λ t. tally p (w.job t)) + one (w.pool p).counted ≡ (w.pool p).count = h.sums p in
        let b : sum_below w.jobs (λ t. tally p (v.job t)) ≡ sum_below w.jobs (λ t. tally p (w.job t)) = kept p (ap (weighs c.count) e ∙ y) in
        let f : one (w.pool p0).counted ≡ one (w.pool p).counted = ap (λ m. one (w.pool m).counted) (sym i) in
        let g : (w.pool p0).count ≡ (w.pool p).count = ap (λ m. (w.pool m).count) (sym i) in
        let j : pool_more c.count c.workers (w.pool p0).count ≡ (w.pool p0).count = more_none c.count c.workers ((w.pool p0).count) y in omega (arith, a, b, f, g, j)

    sums : (p : ℕ) (b : Bool) → (p == p0) ≡ b → sum_below w.jobs (λ t. tally p (v.job t)) + one (if b then more else w.pool p).counted ≡ (if b then more else w.pool p).count
    sums p true e = at p e (weighs c.count true) refl
    sums p false e = let a : sum_below w.jobs (λ t. tally p (w.job t)) + one (w.pool p).counted ≡ (w.pool p).count = h.sums p in
        let b : sum_below w.jobs (λ t. tally p (v.job t)) ≡ sum_below w.jobs (λ t. tally p (w.job t)) = kept p (ap (weighs c.count) e ∙ weighs_none c.count) in omega (arith, a, b)

-- the pieces of a broadcast that waits come into their lists, each with its share
pub deal_hold : (w : World) (q : Party) (g : Gathering) (fs : List Place) (m : Part) → m.pool.counted ≡ (place_part w q (DealPieces g)).pool.counted → m.pool.count ≡ (place_part w q (DealPieces g)).pool.count → m.job.counted ≡ (place_part w q (DealPieces g)).job.counted
    → Ready w q (DealPieces g) fs (Done, m) → SharesHold (world_after w q (DealPieces g) fs (Done, m))
deal_hold w q g fs m ec en ej d = record {
  calls = d.calls;
  jobs = λ t. jobs t (is_piece c t) refl;
  values = λ p. subst (λ b. Tokens (λ s. all_values p (v.stack s)) (one (v.pool p).held) (one b)) (sym (put_same (λ a. a.counted) w.pool p0 m.pool p ec))
      (tokens_keep (λ s. all_values p (w.stack s)) (λ s. all_values p (v.stack s)) (one (w.pool p).held) (one (v.pool p).held) (one (w.pool p).counted) q (one_most ((w.pool p).counted)) (λ s e. other_le (all_values p) w q k s e)
      (let a : all_values p (put_stack w.stack q k q) + 0 ≡ all_values p (w.stack q) = values_mine w q (DealPieces g) fs (w.shape.pool p0) Done p z in let b : one (v.pool p).held ≡ one (w.pool p).held = ap one (d.held p) in omega (arith, a, b)) (h.values p));
  unraised = λ s t. unraised s t (is_piece c t) refl;
  unmade = λ t b. unmade t b (is_piece c t) refl;
  sums = λ p. (let a : sum_below w.jobs (λ t. tally p (w.job t)) + one (w.pool p).counted ≡ (w.pool p).count = h.sums p in
      let b : sum_below w.jobs (λ t. tally p (v.job t)) ≡ sum_below w.jobs (λ t. tally p (w.job t)) = sum_same w.jobs (λ t. tally p (v.job t)) (λ t. tally p (w.job t)) (λ t l. stays p t (is_piece c t) refl) in
      let e : one (v.pool p).counted ≡ one (w.pool p).counted = ap one (put_same (λ a. a.counted) w.pool p0 m.pool p ec) in
      let f : (v.pool p).count ≡ (w.pool p).count = put_same (λ a. a.count) w.pool p0 m.pool p en in omega (arith, a, b, e, f));
}
  where
    c : Pieces
    c = g.pieces

    h : SharesHold w
    h = d.hold

    z : w.stack q ≡ record { top = DealPieces g; below = fs }
    z = d.stack

    p0 : ℕ
    p0 = target_pool q (act_of q (DealPieces g))

    v : World
    v = world_after w q (DealPieces g) fs (Done, m)

    k : Stack
    k = after_move (next_of (w.shape.pool p0) q (DealPieces g) Done) fs

    claim : SaysGather w q g
    claim = top_says w q (DealPieces g) fs (h.calls) z

    said : SaysPieces w c
    said = claim.pieces

    J : ℕ → Job
    J = put w.job (job_at w q (act_of q (DealPieces g))) m.job

    now : (t : ℕ) → is_piece c t ≡ true → (v.job t).counted ≡ true
    now t e = ap (λ j. j.counted) (piece_new c (marked Dealt c.pool) J t e)

    same : (t : ℕ) → is_piece c t ≡ false → (v.job t).counted ≡ (w.job t).counted
    same t e = ap (λ j. j.counted) (piece_old c (marked Dealt c.pool) J t e) ∙ put_same (λ j. j.counted) w.job (job_at w q (act_of q (DealPieces g))) m.job t ej

    gain : (t : ℕ) → is_piece c t ≡ true → 1 ≤ gained t (DealPieces g) Done
    gain t e = let a : one (is_piece c t) ≡ 1 = ap one e in omega (arith, a)

    before : (t : ℕ) → is_piece c t ≡ true → (w.job t).counted ≡ false
    before t e = ungiven w h q (DealPieces g) fs (w.shape.pool p0) Done z t (gain t e)

    line : (t : ℕ) → shares t (put_stack w.stack q k q) ≤ shares t (w.stack q)
    line t = let a : shares t (put_stack w.stack q k q) + (one (is_piece c t) + 0) ≡ shares t (w.stack q) + (one (is_piece c t) + 0) = shares_mine w q (DealPieces g) fs (w.shape.pool p0) Done t z in omega (arith, a)

    jobs : (t : ℕ) (b : Bool) → is_piece c t ≡ b → Tokens (λ s. shares t (v.stack s)) (with_job (v.job t)) (one (v.job t).counted)
    jobs t true e = subst (λ b. Tokens (λ s. shares t (v.stack s)) (with_job (v.job t)) (one b)) (sym (now t e))
        (tokens_own (λ s. shares t (w.stack s)) (λ s. shares t (v.stack s)) (with_job (w.job t)) (with_job (v.job t)) (one_most (is_detached (v.job t).kind && is_busy (v.job t).at)) (λ s. less s (same_party s q) refl)
        (subst (λ b. Tokens (λ s. shares t (w.stack s)) (with_job (w.job t)) (one b)) (before t e) (h.jobs t)))
      where
        less : (s : Party) (b : Bool) → same_party s q ≡ b → shares t (put_stack w.stack q k s) ≤ shares t (w.stack s)
        less s true y = subst (λ r. shares t (put_stack w.stack q k r) ≤ shares t (w.stack r)) (sym (same_party_true s q y)) (line t)
        less s false y = other_le (shares t) w q k s y
    jobs t false e = subst (λ b. Tokens (λ s. shares t (v.stack s)) (with_job (v.job t)) (one b)) (sym (same t e))
        (tokens_keep (λ s. shares t (w.stack s)) (λ s. shares t (v.stack s)) (with_job (w.job t)) (with_job (v.job t)) (one (w.job t).counted) q (one_most ((w.job t).counted)) (λ s y. other_le (shares t) w q k s y)
        (let a : shares t (put_stack w.stack q k q) ≤ shares t (w.stack q) = line t in let b : with_job (v.job t) ≤ with_job (w.job t) + one (is_piece c t) = d.busy t in let f : one (is_piece c t) ≡ 0 = ap one e in omega (arith, a, b, f)) (h.jobs t))

    unraised : (s : Party) (t : ℕ) (b : Bool) → is_piece c t ≡ b → all_raises t (v.stack s) + one (v.job t).counted ≤ 1
    unraised s t true e = let a : all_raises t (v.stack s) ≤ 0 = none_raise w h q (DealPieces g) fs (w.shape.pool p0) Done z t (gain t e) s in let b : one (v.job t).counted ≤ 1 = one_most ((v.job t).counted) in omega (arith, a, b)
    unraised s t false e = let a : all_raises t (put_stack w.stack q k s) ≤ all_raises t (w.stack s) = raises_all w q (DealPieces g) fs (w.shape.pool p0) Done t z s in let b : all_raises t (w.stack s) + one (w.job t).counted ≤ 1 = h.unraised s t in
        let f : one (v.job t).counted ≡ one (w.job t).counted = ap one (same t e) in omega (arith, a, b, f)

    unmade : (t : ℕ) → w.jobs ≤ t → (b : Bool) → is_piece c t ≡ b → (v.job t).counted ≡ false
    unmade t y true e = absurd (let n : t + 1 ≤ w.jobs = pieces_made w c said t e in omega (arith, n, y))
    unmade t y false e = same t e ∙ h.unmade t y

    stays : (p t : ℕ) (b : Bool) → is_piece c t ≡ b → tally p (v.job t) ≡ tally p (w.job t)
    stays p t true e = let a : tally p (v.job t) ≡ 0 = tally_scoped p (v.job t) (ap is_scoped ((d.last).kinds t ∙ (said t e).kind ∙ ap count_kind (claim.count))) in let b : tally p (w.job t) ≡ 0 = tally_off p (w.job t) (before t e) in omega (arith, a, b)
    stays p t false e = tally_same p (v.job t) (w.job t) (same t e) ((d.last).kinds t) (d.pools t)
