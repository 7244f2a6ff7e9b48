-- who spawns or broadcasts into a scope holds it until what it makes is queued or handed back, and so the scope's count
-- is not 0; where it is 0 each job of the scope is over or handed back
--
-- `EntersHold` says besides that a token alone is spent. So each job of a scope whose count is 0 is over or was handed
-- back (`through`, Spawned).
use Rattle.std.proofs.Common.{arith, refl, sym, ◌∙◌, ap, subst, inl, inr}
use Rattle.std.specs.Prelude.{ℕ, Bool, true, false, ◌&&◌, ◌+◌, ◌-◌, ◌==◌, ◌≤◌, nat_lt, if◌then◌else◌, Some, List, [], ◌∷◌, ◌≡◌, IfSome, zero, suc}
use Rattle.std.proofs.lemmas.Bool.{eqb-true}
use Rattle.rayon_machine_places.specs.declared.place.Party.{Party}
use Rattle.rayon_machine_places.specs.declared.place.Party.TheVariants.{Worker, Caller}
use Rattle.rayon_machine_places.specs.declared.place.Ending.{Ending}
use Rattle.rayon_machine_places.specs.declared.place.Ending.TheVariants.{Fine, Fault}
use Rattle.rayon_machine_places.specs.declared.place.JobKind.{JobKind}
use Rattle.rayon_machine_places.specs.declared.place.JobKind.TheVariants.{Detached, Stored, Direct, Scoped, TokenOf, BodyOf, PieceOf, WholeOf}
use Rattle.rayon_machine_places.specs.declared.place.Target.TheVariants.{Termination}
use Rattle.rayon_machine_places.specs.declared.place.Count.{Count}
use Rattle.rayon_machine_places.specs.declared.place.Count.TheVariants.{OfPool, OfScope, OfCast}
use Rattle.rayon_machine_places.specs.declared.place.Share.TheVariants.{PoolValue}
use Rattle.rayon_machine_places.specs.declared.place.Pieces.{Pieces}
use Rattle.rayon_machine_places.specs.declared.place.Mark.{Mark as Marking}
use Rattle.rayon_machine_places.specs.declared.place.Mark.TheVariants.{Counted, Queued, Returned, Numbered, Dealt, Unnumbered}
use Rattle.rayon_machine_places.specs.declared.place.Plan.TheVariants.{Detach, Here, Send, Fork, Feed, Open, Enter, Gather}
use Rattle.rayon_machine_places.specs.declared.place.Then.TheVariants.{Resume}
use Rattle.rayon_machine_places.specs.declared.place.Place.{Place}
use Rattle.rayon_machine_places.specs.declared.place.Place.TheVariants.{ProbeWorking, PickVictim, StealFrom, YieldPop, YieldPick, YieldSteal, LocalPop, Run, Free, Stopped, RaiseCount, RaiseForAll, LowerCount, FirstSide}
use Rattle.rayon_machine_places.specs.declared.place.Move.{Move}
use Rattle.rayon_machine_places.specs.declared.place.Move.TheVariants.{Stay, Enter as EnterAbove, StartRun, Back, HandBack, Discard, HandIn, Mark, HandAllBack}
use Rattle.rayon_machine_places.specs.declared.act.Seen.{Seen}
use Rattle.rayon_machine_places.specs.declared.act.Seen.TheVariants.{Refused, Missing, Start}
use Rattle.rayon_machine_runs.specs.declared.event.Event.{Event}
use Rattle.rayon_machine_runs.specs.declared.event.Event.TheVariants.{Go, From, Refuse, Miss, End, Spawn, Fifo, Install, Join, Yield, YieldLocal, EndPool, Cast, Scope as OpenScope, IntoSpawn, IntoFifo, IntoCast, Broadcast}
use Rattle.rayon_machine_runs.specs.declared.state.Whereabouts.{Whereabouts}
use Rattle.rayon_machine_runs.specs.declared.state.Whereabouts.TheVariants.{HandedBack, Spent, Over}
use Rattle.rayon_machine_runs.specs.declared.state.Job.{Job}
use Rattle.rayon_machine_runs.specs.declared.state.Scope.{Scope}
use Rattle.rayon_machine_places.specs.Places.{same_party, act_of, next_of, own_pool, is_free, is_member, holds_scope, goes_on, fresh, count_kind, count_book}
use Rattle.rayon_machine_runs.specs.World.{Shape, Stack, World, Part, at_job, begun, effect, counts_at}
use Rattle.rayon_machine_places.specs.Sleepers.{Counts}
use Rattle.rayon_machine_places.specs.Targets.{target_pool, target_worker, target_call}
use Rattle.rayon_machine_runs.specs.Steps.{put, put_stack, after_move, after_call, after_close, after_resume, jobs_after, after_choice, after_miss, after_end, after_send, after_join, after_yield, after_feed, after_enter, seeing, step, mark_pieces, marked, put_pieces}
use Rattle.rayon_machine_runs.specs.Steps.{after_gather, new_job, new_piece, new_whole, is_piece, is_pool, holds, holds_in}
use Rattle.rayon_machine_runs.specs.Runs.{start, first_place, IsRun}
use Rattle.rayon_machine_laws.specs.Once.{one}
use Rattle.rayon_machine_laws.proofs.Lists.{is_settled, Onward, act_on}
use Rattle.rayon_machine_laws.proofs.Seats.{is_frame}
use Rattle.rayon_machine_laws.proofs.Ties.{AllFrames, job_at, outcome, result}
use Rattle.rayon_machine_laws.proofs.Tops.{FramesOk}
use Rattle.rayon_machine_laws.proofs.Frame.{if_some_and, if_some_map, if_cond, acted_keeps, fifo_cases, into_cases, into_fifo_cases, into_cast_cases, same_party_true, stack_mine, stack_other}
use Rattle.rayon_machine_laws.proofs.Events.{run_keeps}
use Rattle.rayon_machine_laws.proofs.Holding.{go_frames}
use Rattle.rayon_machine_laws.proofs.Asides.{steps_aside}
use Rattle.rayon_machine_laws.proofs.Attended.{aside_frames}
use Rattle.rayon_machine_laws.proofs.Claims.{is_detached}
use Rattle.rayon_machine_laws.proofs.ClaimRuns.{place_part}
use Rattle.rayon_machine_laws.proofs.ShareActs.{SharesHold, one_is}
use Rattle.rayon_machine_laws.proofs.ShareRuns.{StartsAwaited}
use Rattle.rayon_machine_laws.proofs.ShareSteps.{Ready}
use Rattle.rayon_machine_laws.proofs.ShareEvents.{ready}
use Rattle.rayon_machine_laws.proofs.ShareEnds.{step_shares, first_shares}
use Rattle.rayon_machine_laws.proofs.ScopeCounts.{or_second}
use Rattle.rayon_machine_laws.proofs.Entering.{within, entering, entering_move, enters_on}

-- who stands at a place of a spawn, or of a broadcast, into a scope that has not queued what it makes holds the scope
abbrev Inside : World → Type 0
Inside w = (q : Party) (m : ℕ) → 1 ≤ entering m (w.stack q).top → holds_in m (w.stack q).below ≡ true

-- what is spent is no job with a share of its own
abbrev Undetached : (ℕ → Job) → Type 0
Undetached f = (t : ℕ) → (f t).at ≡ Spent → is_detached (f t).kind ≡ false

pub record EntersHold (w : World) : Type 0 where
  pub shares : SharesHold w
  pub frames : FramesOk w
  pub enters : Inside w
  pub spent : Undetached w.job

frame_enters : (m : ℕ) (f : Place) → is_frame f ≡ true → entering m f ≡ 0
frame_enters m (ProbeWorking k) e = refl
frame_enters m _ e = cc

none_enters : {A : Type 0} (m : ℕ) (f : Place) → is_frame f ≡ true → 1 ≤ entering m f → A
none_enters m f e z = absurd (let a : entering m f ≡ 0 = frame_enters m f e in omega (arith, a, z))

land_inside : (m : ℕ) (g : Move) (fs : List Place) → AllFrames fs → (1 ≤ entering_move m g → holds_in m fs ≡ true) → 1 ≤ entering m ((after_move g fs).top) → holds_in m ((after_move g fs).below) ≡ true
land_inside m (Stay y) fs a f z = f z
land_inside m (HandIn y k) fs a f z = f z
land_inside m (Mark y c k) fs a f z = f z
land_inside m (EnterAbove x y) fs a f z = or_second (holds_scope m x) (holds_in m fs) (f z)
land_inside m (StartRun x u) fs a f z = absurd (omega (arith, z))
land_inside m Back [] a f z = absurd (omega (arith, z))
land_inside m Back (x ∷ fs) a f z = none_enters m x (a.0) z
land_inside m (HandBack n) [] a f z = absurd (omega (arith, z))
land_inside m (HandBack n) (x ∷ fs) a f z = none_enters m x (a.0) z
land_inside m (Discard k) [] a f z = absurd (omega (arith, z))
land_inside m (Discard k) (x ∷ fs) a f z = none_enters m x (a.0) z
land_inside m (HandAllBack c) [] a f z = absurd (omega (arith, z))
land_inside m (HandAllBack c) (x ∷ fs) a f z = none_enters m x (a.0) z

-- one party has moved
moved_inside : (w u : World) (q : Party) (k : Stack) → ((r : Party) → u.stack r ≡ put_stack w.stack q k r) → Inside w → ((m : ℕ) → 1 ≤ entering m k.top → holds_in m k.below ≡ true) → Inside u
moved_inside w u q k st h f r m = by (same_party r q) refl
  where
    by : (b : Bool) → same_party r q ≡ b → 1 ≤ entering m (u.stack r).top → holds_in m (u.stack r).below ≡ true
    by true e z = let i : u.stack r ≡ k = st r ∙ ap (put_stack w.stack q k) (same_party_true r q e) ∙ stack_mine w.stack q k in ap (λ s. holds_in m (s.below)) i ∙ f m (subst (λ s. 1 ≤ entering m (s.top)) i z)
    by false e z = let i : u.stack r ≡ w.stack r = st r ∙ stack_other w.stack q k r e in ap (λ s. holds_in m (s.below)) i ∙ h r m (subst (λ s. 1 ≤ entering m (s.top)) i z)

-- by its table, whatever its act has seen
next_inside : (w : World) (q : Party) (p : ℕ) (e : Seen) → EntersHold w → (m : ℕ) → 1 ≤ entering m ((after_move (next_of (w.shape.pool p) q (w.stack q).top e) (w.stack q).below).top) → holds_in m ((after_move (next_of (w.shape.pool p) q (w.stack q).top e) (w.stack q).below).below) ≡ true
next_inside w q p e h m = land_inside m (next_of (w.shape.pool p) q (w.stack q).top e) (w.stack q).below (h.frames q)
    (λ z. h.enters q m (let a : entering_move m (next_of (w.shape.pool p) q (w.stack q).top e) ≤ entering m (w.stack q).top = enters_on (w.shape.pool p) q m ((w.stack q).top) e in omega (arith, a, z)))

-- 1 for what is spent
abbrev spends : Whereabouts → ℕ
spends Spent = 1
spends _ = 0

is_spent : (v : Whereabouts) → 1 ≤ spends v → v ≡ Spent
is_spent Spent z = refl
is_spent _ z = absurd (omega (arith, z))

-- no act itself spends anything
abbrev Unspent : Part → Seen × Part → Type 0
Unspent m r = spends r.1.job.at ≤ spends m.job.at

unsettled_unspent : (v : Whereabouts) → is_settled v ≡ false → spends v ≡ 0
unsettled_unspent Spent e = cc
unsettled_unspent _ e = refl

act_unspent : (h : Shape) (q : Party) (c : Counts) (m : Part) (x : Place) → IfSome (effect (act_of q x) h q c m) (Unspent m)
act_unspent h q c m x = if_some_map (Onward m) (Unspent m) (λ r o. elim o [
  | inl e ↦ (let s : spends r.1.job.at ≡ spends m.job.at = ap spends e in omega (arith, s))
  | inr e ↦ (let z : spends r.1.job.at ≡ 0 = unsettled_unspent r.1.job.at e in omega (arith, z))
]) (effect (act_of q x) h q c m) (act_on h q c m x)

-- a move spends the token in hand
abbrev spent_by : ℕ → Move → ℕ
spent_by t (HandIn y k) = one (t == k)
spent_by t (Discard k) = one (t == k)
spent_by t _ = 0

spender : (w : World) (t : ℕ) (g : Move) → StartsAwaited w g → 1 ≤ spent_by t g → is_detached (w.job t).kind ≡ false
spender w t (HandIn y k) s z = ap (λ n. is_detached (w.job n).kind) (eqb-true t k (one_is (t == k) z)) ∙ s
spender w t (Discard k) s z = ap (λ n. is_detached (w.job n).kind) (eqb-true t k (one_is (t == k) z)) ∙ s
spender w t _ s z = absurd (omega (arith, z))

put_spends : (f : ℕ → Job) (a : ℕ) (v : Whereabouts) (t : ℕ) → spends v ≡ 0 → spends (put f a (at_job (f a) v) t).at ≤ spends (f t).at
put_spends f a v t e = by (t == a)
  where
    by : (z : Bool) → spends (if z then at_job (f a) v else f t).at ≤ spends (f t).at
    by true = omega (arith, e)
    by false = omega arith

two_spends : (f : ℕ → Job) (a b t : ℕ) → spends (put (put f a (at_job (f a) HandedBack)) b (at_job (f b) HandedBack) t).at ≤ spends (f t).at
two_spends f a b t = by (t == b)
  where
    by : (z : Bool) → spends (if z then at_job (f b) HandedBack else put f a (at_job (f a) HandedBack) t).at ≤ spends (f t).at
    by true = omega arith
    by false = put_spends f a HandedBack t refl

hand_spends : (f : ℕ → Job) (k t : ℕ) → spends (put f k (at_job (f k) Spent) t).at ≤ one (t == k) + spends (f t).at
hand_spends f k t = by (t == k)
  where
    by : (z : Bool) → spends (if z then at_job (f k) Spent else f t).at ≤ one z + spends (f t).at
    by true = omega arith
    by false = omega arith

mark_spends : (c : Pieces) (k : Marking) (f : ℕ → Job) (t : ℕ) → spends (mark_pieces c k f t).at ≤ spends (f t).at
mark_spends c k f t = by (is_piece c t)
  where
    each : (k : Marking) → spends (marked k c.pool (t - c.first) (f t)).at ≤ spends (f t).at
    each Counted = omega arith
    each Queued = omega arith
    each Returned = omega arith
    each (Numbered n) = omega arith
    each Dealt = omega arith
    each Unnumbered = omega arith

    by : (z : Bool) → spends (if z then marked k c.pool (t - c.first) (f t) else f t).at ≤ spends (f t).at
    by true = each k
    by false = omega arith

start_spends : (q : Party) (f : ℕ → Job) (a t : ℕ) → spends (put f a (begun q (f a)) t).at ≤ spends (f t).at
start_spends q f a t = by (t == a)
  where
    by : (z : Bool) → spends (if z then begun q (f a) else f t).at ≤ spends (f t).at
    by true = omega arith
    by false = omega arith

land_spends : (q : Party) (g : Move) (f : ℕ → Job) (t : ℕ) → spends (jobs_after q g f t).at ≤ spent_by t g + spends (f t).at
land_spends q (Stay y) f t = omega arith
land_spends q (HandIn y k) f t = hand_spends f k t
land_spends q (Discard k) f t = hand_spends f k t
land_spends q (Mark y c k) f t = let a : spends (jobs_after q (Mark y c k) f t).at ≤ spends (f t).at = mark_spends c k f t in omega (arith, a)
land_spends q (HandAllBack c) f t = let a : spends (jobs_after q (HandAllBack c) f t).at ≤ spends (f t).at = mark_spends c Returned f t in omega (arith, a)
land_spends q (EnterAbove x y) f t = omega arith
land_spends q Back f t = omega arith
land_spends q (StartRun x a) f t = let a : spends (jobs_after q (StartRun x a) f t).at ≤ spends (f t).at = start_spends q f a t in omega (arith, a)
land_spends q (HandBack (Detach p a)) f t = let a : spends (jobs_after q (HandBack (Detach p a)) f t).at ≤ spends (f t).at = put_spends f a HandedBack t refl in omega (arith, a)
land_spends q (HandBack (Here p a)) f t = let a : spends (jobs_after q (HandBack (Here p a)) f t).at ≤ spends (f t).at = put_spends f a HandedBack t refl in omega (arith, a)
land_spends q (HandBack (Send o)) f t = let a : spends (jobs_after q (HandBack (Send o)) f t).at ≤ spends (f t).at = put_spends f o.job HandedBack t refl in omega (arith, a)
land_spends q (HandBack (Open o)) f t = let a : spends (jobs_after q (HandBack (Open o)) f t).at ≤ spends (f t).at = put_spends f o.job HandedBack t refl in omega (arith, a)
land_spends q (HandBack (Enter o)) f t = let a : spends (jobs_after q (HandBack (Enter o)) f t).at ≤ spends (f t).at = put_spends f o.job HandedBack t refl in omega (arith, a)
land_spends q (HandBack (Feed d)) f t = let a : spends (jobs_after q (HandBack (Feed d)) f t).at ≤ spends (f t).at = two_spends f d.job d.token t in omega (arith, a)
land_spends q (HandBack (Fork o a)) f t = let a : spends (jobs_after q (HandBack (Fork o a)) f t).at ≤ spends (f t).at = two_spends f a o.job t in omega (arith, a)
land_spends q (HandBack (Gather g)) f t = let a : spends (jobs_after q (HandBack (Gather g)) f t).at ≤ spends (f t).at = mark_spends g.pieces Returned f t in omega (arith, a)

-- what holds after a step
record Keeps (u : World) : Type 0 where
  inside : Inside u
  undetached : Undetached u.job

moved_keeps : (w u : World) (q : Party) (k : Stack) → ((r : Party) → u.stack r ≡ put_stack w.stack q k r) → Inside w → ((m : ℕ) → 1 ≤ entering m k.top → holds_in m k.below ≡ true) → Undetached u.job → Keeps u
moved_keeps w u q k st h f d = record { inside = moved_inside w u q k st h f; undetached = d }

go_keeps : (w : World) (q : Party) → EntersHold w → IfSome (outcome w q (w.stack q)) (λ r. Keeps (result w q (w.stack q) r))
go_keeps w q h = if_some_map (λ r. Ready w q ((w.stack q).top) ((w.stack q).below) r × Unspent (place_part w q ((w.stack q).top)) r) (λ r. Keeps (result w q (w.stack q) r))
    (λ r f. moved_keeps w (result w q (w.stack q) r) q (after_move (next_of (w.shape.pool (target_pool q (act_of q (w.stack q).top))) q (w.stack q).top (r.0)) (w.stack q).below) (λ s. refl) h.enters (next_inside w q (target_pool q (act_of q (w.stack q).top)) (r.0) h) (λ t. spent r (f.0) (f.1) t))
    (outcome w q (w.stack q)) (if_some_and (λ r. Ready w q ((w.stack q).top) ((w.stack q).below) r) (Unspent (place_part w q ((w.stack q).top))) (outcome w q (w.stack q)) (ready w q h.shares)
    (act_unspent w.shape q (counts_at w (target_pool q (act_of q (w.stack q).top))) (place_part w q ((w.stack q).top)) ((w.stack q).top)))
  where
    n : ℕ
    n = job_at w q (act_of q (w.stack q).top)

    touched : (r : Seen × Part) → Unspent (place_part w q ((w.stack q).top)) r → (t : ℕ) → spends (put w.job n (r.1.job) t).at ≤ spends (w.job t).at
    touched r l t = by (t == n) refl
      where
        by : (b : Bool) → (t == n) ≡ b → spends (if b then r.1.job else w.job t).at ≤ spends (w.job t).at
        by true e = let k : spends (w.job t).at ≡ spends (w.job n).at = ap (λ i. spends (w.job i).at) (eqb-true t n e) in omega (arith, k, l)
        by false e = omega arith

    spent : (r : Seen × Part) → Ready w q ((w.stack q).top) ((w.stack q).below) r → Unspent (place_part w q ((w.stack q).top)) r → (t : ℕ) → ((result w q (w.stack q) r).job t).at ≡ Spent → is_detached ((result w q (w.stack q) r).job t).kind ≡ false
    spent r k l t z = ap is_detached (k.last.kinds t) ∙ by (spends (w.job t).at) refl
      where
        g : Move
        g = next_of (w.shape.pool (target_pool q (act_of q (w.stack q).top))) q (w.stack q).top (r.0)

        some : 1 ≤ spent_by t g + spends (w.job t).at
        some = let a : spends (jobs_after q g (put w.job n (r.1.job)) t).at ≤ spent_by t g + spends (put w.job n (r.1.job) t).at = land_spends q g (put w.job n (r.1.job)) t in let b : spends (put w.job n (r.1.job) t).at ≤ spends (w.job t).at = touched r l t in
            let c : spends (jobs_after q g (put w.job n (r.1.job)) t).at ≡ 1 = ap spends z in omega (arith, a, b, c)

        by : (i : ℕ) → spends (w.job t).at ≡ i → is_detached (w.job t).kind ≡ false
        by zero e = spender w t g k.starts (omega (arith, some, e))
        by (suc i) e = h.spent t (is_spent ((w.job t).at) (omega (arith, e)))

-- a number that is given out is made
put_undetached : (f : ℕ → Job) (a : ℕ) (j : Job) → (j.at ≡ Spent → is_detached j.kind ≡ false) → Undetached f → Undetached (put f a j)
put_undetached f a j e h t = by (t == a)
  where
    by : (b : Bool) → (if b then j else f t).at ≡ Spent → is_detached (if b then j else f t).kind ≡ false
    by true z = e z
    by false z = h t z

deal_undetached : (f : ℕ → Job) (q : Party) (k : Count) (p : ℕ) (c : Pieces) → Undetached f → Undetached (put_pieces c (λ i j. new_piece q k p i) f)
deal_undetached f q k p c h t = by (is_piece c t)
  where
    by : (b : Bool) → (if b then new_piece q k p (t - c.first) else f t).at ≡ Spent → is_detached (if b then new_piece q k p (t - c.first) else f t).kind ≡ false
    by true z = absurd (cc)
    by false z = h t z

-- a call stands above what the party did, which holds the scope if it is one into a scope
begins_keeps : (w u : World) (q : Party) (x : Place) → ((r : Party) → u.stack r ≡ put_stack w.stack q (after_call (w.stack q) x) r) → Inside w → ((m : ℕ) → 1 ≤ entering m x → holds m (w.stack q) ≡ true) → Undetached u.job → Keeps u
begins_keeps w u q x st h f d = moved_keeps w u q (after_call (w.stack q) x) st h f d

same_scope : (w : World) (q : Party) (m c : ℕ) → holds c (w.stack q) ≡ true → 1 ≤ one (m == c) → holds m (w.stack q) ≡ true
same_scope w q m c h z = ap (λ n. holds n (w.stack q)) (eqb-true m c (one_is (m == c) z)) ∙ h

seen_keeps : (w : World) (q : Party) (p : ℕ) (e : Seen) → EntersHold w → Keeps (seeing w q (w.stack q) p e)
seen_keeps w q p e h = moved_keeps w (seeing w q (w.stack q) p e) q (after_move (next_of (w.shape.pool p) q (w.stack q).top e) (w.stack q).below) (λ r. refl) h.enters (next_inside w q p e h) h.spent

from_keeps : (w : World) (q : Party) (x : Place) (v : ℕ) → EntersHold w → IfSome (after_choice w q (w.stack q) x v) Keeps
from_keeps w q (PickVictim k) v h = if_cond Keeps _ _ (λ b. seen_keeps w q (own_pool q) (Start v) h)
from_keeps w q YieldPick v h = if_cond Keeps _ _ (λ b. seen_keeps w q (own_pool q) (Start v) h)
from_keeps w q _ v h = tt

miss_keeps : (w : World) (q : Party) (x : Place) → EntersHold w → IfSome (after_miss w q (w.stack q) x) Keeps
miss_keeps w (Worker a b) (StealFrom k n) h = if_cond Keeps _ _ (λ z. seen_keeps w (Worker a b) a Missing h)
miss_keeps w (Worker a b) (YieldSteal v n) h = if_cond Keeps _ _ (λ z. seen_keeps w (Worker a b) a Missing h)
miss_keeps w (Worker a b) _ h = tt
miss_keeps w (Caller n) _ h = tt

-- what goes on after the end of a run is no such place
goes_enters : (m : ℕ) (f : Place) (e : Ending) → is_frame f ≡ true → entering m (goes_on f e) ≡ 0
goes_enters m (ProbeWorking k) e z = refl
goes_enters m (FirstSide o a) Fine z = refl
goes_enters m (FirstSide o a) Fault z = refl
goes_enters m _ e z = cc

resume_enters : (m : ℕ) (fs : List Place) (e : Ending) → AllFrames fs → entering m ((after_resume fs e).top) ≡ 0
resume_enters m [] e a = refl
resume_enters m (f ∷ fs) e a = goes_enters m f e (a.0)

close_enters : (m t : ℕ) (k : JobKind) (e : Ending) (fs : List Place) → AllFrames fs → entering m ((after_close t k e fs).top) ≡ 0
close_enters m t (Detached p) e fs a = refl
close_enters m t (Stored c o) e fs a = refl
close_enters m t (Scoped c o) e fs a = refl
close_enters m t (PieceOf c o) e fs a = refl
close_enters m t Direct e fs a = resume_enters m fs e a
close_enters m t (BodyOf c o) e fs a = resume_enters m fs e a
close_enters m t (WholeOf c o) e fs a = resume_enters m fs e a
close_enters m t (TokenOf i b) e fs a = resume_enters m fs e a

end_keeps : (w : World) (q : Party) (d : Ending) (x : Place) → EntersHold w → IfSome (after_end w q d (w.stack q) x) Keeps
end_keeps w q d (Run n k) h = moved_keeps w _ q (after_close n k d (w.stack q).below) (λ r. refl) h.enters (λ m z. absurd (let a : entering m ((after_close n k d (w.stack q).below).top) ≡ 0 = close_enters m n k d ((w.stack q).below) (h.frames q) in omega (arith, a, z)))
    (put_undetached w.job n (at_job (w.job n) (Over d)) (λ e. absurd (cc)) h.spent)
end_keeps w q d _ h = tt

-- a call that makes one job, which goes into no scope
one_keeps : (w u : World) (q : Party) (p : ℕ) (k : JobKind) (x : Place) → ((r : Party) → u.stack r ≡ put_stack w.stack q (after_call (w.stack q) x) r) → ((t : ℕ) → u.job t ≡ put w.job w.jobs (new_job q p k) t) → EntersHold w → ((m : ℕ) → 1 ≤ entering m x → holds m (w.stack q) ≡ true) → Keeps u
one_keeps w u q p k x st jo h f = begins_keeps w u q x st h.enters f (λ t z. ap (λ j. is_detached j.kind) (jo t) ∙ put_undetached w.job w.jobs (new_job q p k) (λ e. absurd (cc)) h.spent t (ap (λ j. j.at) (sym (jo t)) ∙ z))

sent_keeps : (w : World) (q : Party) (p : ℕ) (b : Bool) → EntersHold w → Keeps (after_send w q p (w.stack q) b)
sent_keeps w q p true h = one_keeps w (after_send w q p (w.stack q) true) q p Direct (RaiseCount (Here p w.jobs)) (λ r. refl) (λ t. refl) h (λ m z. absurd (omega (arith, z)))
sent_keeps w q p false h = one_keeps w (after_send w q p (w.stack q) false) q p (Stored w.calls q) (RaiseCount (Send (record { number = w.calls; pool = p; job = w.jobs }))) (λ r. refl) (λ t. refl) h (λ m z. absurd (omega (arith, z)))

join_keeps : (w : World) (q : Party) → EntersHold w → IfSome (after_join w q (w.stack q)) Keeps
join_keeps w (Caller n) h = tt
join_keeps w (Worker a b) h = if_cond Keeps (is_free (w.stack (Worker a b)).top) _ (λ y. begins_keeps w _ (Worker a b) (RaiseCount (Fork (record { number = w.calls; pool = a; job = w.jobs + 1 }) w.jobs)) (λ r. refl) h.enters (λ m z. absurd (omega (arith, z)))
    (put_undetached (put w.job w.jobs (new_job (Worker a b) a Direct)) (w.jobs + 1) (new_job (Worker a b) a (Stored w.calls (Worker a b))) (λ e. absurd (cc)) (put_undetached w.job w.jobs (new_job (Worker a b) a Direct) (λ e. absurd (cc)) h.spent)))

feed_keeps : (w : World) (k : Count) (p i : ℕ) → EntersHold w → ((m : ℕ) → 1 ≤ within m k → holds m (w.stack (Worker p i)) ≡ true) → Keeps (after_feed w k p i (w.stack (Worker p i)))
feed_keeps w k p i h f = begins_keeps w (after_feed w k p i (w.stack (Worker p i))) (Worker p i) (RaiseCount (Feed (record { count = k; pool = p; job = w.jobs; token = w.jobs + 1 }))) (λ r. refl) h.enters f
    (put_undetached (put w.job w.jobs (new_job (Worker p i) p (count_kind k))) (w.jobs + 1) (new_job (Worker p i) p (TokenOf i (count_book k))) (λ e. absurd (cc)) (put_undetached w.job w.jobs (new_job (Worker p i) p (count_kind k)) (λ e. absurd (cc)) h.spent))

deal_keeps : (w : World) (q : Party) (k : Count) (p : ℕ) (c : Pieces) (u : World) → c.count ≡ k → ((r : Party) → u.stack r ≡ put_stack w.stack q (after_call (w.stack q) (RaiseForAll c)) r) → ((t : ℕ) → u.job t ≡ put_pieces c (λ i j. new_piece q k p i) w.job t) → EntersHold w
    → ((m : ℕ) → 1 ≤ within m k → holds m (w.stack q) ≡ true) → Keeps u
deal_keeps w q k p c u i st jo h f = begins_keeps w u q (RaiseForAll c) st h.enters (λ m z. f m (subst (λ n. 1 ≤ within m n) i z)) (λ t z. ap (λ j. is_detached j.kind) (jo t) ∙ deal_undetached w.job q k p c h.spent t (ap (λ j. j.at) (sym (jo t)) ∙ z))

gather_keeps : (w : World) (q : Party) (p : ℕ) → EntersHold w → Keeps (after_gather w q p (w.stack q))
gather_keeps w q p h = begins_keeps w (after_gather w q p (w.stack q)) q (RaiseCount (Gather (record { call = record { number = w.calls; pool = p; job = w.jobs + c.workers }; pieces = c }))) (λ r. refl) h.enters (λ m z. absurd (omega (arith, z)))
    (put_undetached (put_pieces c (λ i j. new_piece q c.count p i) w.job) (w.jobs + c.workers) (new_whole q p w.calls) (λ e. refl) (deal_undetached w.job q c.count p c h.spent))
  where
    c : Pieces
    c = record { count = OfCast w.calls q; pool = p; first = w.jobs; workers = (w.shape.pool p).workers }

enter_keeps : (w : World) (q : Party) (z : Scope) → EntersHold w → holds z.call (w.stack q) ≡ true → IfSome (after_enter w q (w.stack q) (Some z)) Keeps
enter_keeps w q z h held = if_cond Keeps (is_free ((w.stack q).top) && holds z.call (w.stack q)) _ (λ b. one_keeps w _ q z.pool (Scoped z.call z.owner) (RaiseCount (Enter (record { call = z.call; owner = z.owner; pool = z.pool; job = w.jobs }))) (λ r. refl) (λ t. refl) h
    (λ m y. same_scope w q m z.call held y))

yield_keeps : (w : World) (q : Party) (x : Place) → ((m : ℕ) → entering m x ≡ 0) → EntersHold w → IfSome (after_yield w q (w.stack q) x) Keeps
yield_keeps w (Worker a b) x f h = if_cond Keeps _ _ (λ y. begins_keeps w _ (Worker a b) x (λ r. refl) h.enters (λ m z. absurd (let e : entering m x ≡ 0 = f m in omega (arith, e, z))) h.spent)
yield_keeps w (Caller n) x f h = tt

step_keeps : (w : World) (e : Event) → EntersHold w → IfSome (step w e) Keeps
step_keeps w (Go q) h = acted_keeps w q (w.stack q) (target_pool q (act_of q (w.stack q).top)) (target_worker q (act_of q (w.stack q).top)) (target_call (act_of q (w.stack q).top)) (job_at w q (act_of q (w.stack q).top)) (outcome w q (w.stack q)) Keeps (go_keeps w q h)
step_keeps w (From q v) h = from_keeps w q ((w.stack q).top) v h
step_keeps w (Refuse q) h = if_cond Keeps _ _ (λ b. seen_keeps w q (own_pool q) Refused h)
step_keeps w (Miss q) h = miss_keeps w q ((w.stack q).top) h
step_keeps w (End q d) h = end_keeps w q d ((w.stack q).top) h
step_keeps w (Spawn q p) h = if_cond Keeps _ _ (λ b. one_keeps w _ q p (Detached p) (RaiseCount (Detach p w.jobs)) (λ r. refl) (λ t. refl) h (λ m z. absurd (omega (arith, z))))
step_keeps w (Fifo q p) h = fifo_cases Keeps w q p (if_cond Keeps _ _ (λ b. one_keeps w _ q p (Detached p) (RaiseCount (Detach p w.jobs)) (λ r. refl) (λ t. refl) h (λ m z. absurd (omega (arith, z))))) (λ i free. feed_keeps w (OfPool p) p i h (λ m z. absurd (omega (arith, z))))
step_keeps w (Cast q p) h = if_cond Keeps (is_free ((w.stack q).top) && is_pool w.shape p) _ (λ b. deal_keeps w q (OfPool p) p (record { count = OfPool p; pool = p; first = w.jobs; workers = (w.shape.pool p).workers }) _ refl (λ r. refl) (λ t. refl) h (λ m z. absurd (omega (arith, z))))
step_keeps w (Install q p) h = if_cond Keeps _ _ (λ b. sent_keeps w q p (is_member q p) h)
step_keeps w (Join q) h = join_keeps w q h
step_keeps w (OpenScope q p) h = if_cond Keeps _ _ (λ b. one_keeps w _ q p (BodyOf w.calls q) (RaiseCount (Open (record { number = w.calls; pool = p; job = w.jobs }))) (λ r. refl) (λ t. refl) h (λ m z. absurd (omega (arith, z))))
step_keeps w (IntoSpawn q n) h = into_cases Keeps w q n (λ z e free held. enter_keeps w q z h held)
step_keeps w (IntoFifo q n) h = into_fifo_cases Keeps w q n (λ z e free held. enter_keeps w q z h held) (λ z i e free held. feed_keeps w (OfScope z.call z.owner) z.pool i h (λ m y. same_scope w (Worker z.pool i) m z.call held y))
step_keeps w (IntoCast q n) h = into_cast_cases Keeps w q n (λ z e free held. deal_keeps w q (OfScope z.call z.owner) z.pool (record { count = OfScope z.call z.owner; pool = z.pool; first = w.jobs; workers = (w.shape.pool z.pool).workers }) _ refl (λ r. refl) (λ t. refl) h
    (λ m y. same_scope w q m z.call held y))
step_keeps w (Broadcast q p) h = if_cond Keeps (is_free ((w.stack q).top) && is_pool w.shape p) _ (λ b. gather_keeps w q p h)
step_keeps w (Yield q) h = yield_keeps w q YieldPop (λ m. refl) h
step_keeps w (YieldLocal q) h = yield_keeps w q LocalPop (λ m. refl) h
step_keeps w (EndPool q p) h = if_cond Keeps _ _ (λ b. begins_keeps w _ q (LowerCount (OfPool p) PoolValue Resume) (λ r. refl) h.enters (λ m z. absurd (omega (arith, z))) h.spent)

step_enters : (w : World) (e : Event) → EntersHold w → IfSome (step w e) EntersHold
step_enters w e h = if_some_map (λ u. (SharesHold u × FramesOk u) × Keeps u) EntersHold (λ u f. record { shares = (f.0).0; frames = (f.0).1; enters = f.1.inside; spent = f.1.undetached }) (step w e)
    (if_some_and (λ u. SharesHold u × FramesOk u) Keeps (step w e)
    (if_some_and SharesHold FramesOk (step w e) (step_shares w e h.shares) (steps_aside FramesOk w h.frames (λ q. go_frames w q (w.stack q) refl h.frames) (λ u m. aside_frames w u m h.frames) e))
    (step_keeps w e h))

first_outside : (h : Shape) (q : Party) (m : ℕ) → entering m (first_place h q) ≡ 0
first_outside h (Worker p i) m = at (nat_lt i (h.pool p).workers) ((h.pool p).callers_own && (i == 0))
  where
    at : (b d : Bool) → entering m (if b then (if d then Free else ProbeWorking (fresh Termination)) else Stopped) ≡ 0
    at true true = refl
    at true false = refl
    at false d = refl
first_outside h (Caller c) m = at (nat_lt c h.callers)
  where
    at : (b : Bool) → entering m (if b then Free else Stopped) ≡ 0
    at true = refl
    at false = refl

first_enters : (h : Shape) → EntersHold (start h)
first_enters h = record { shares = first_shares h; frames = λ q. tt; enters = λ q m z. absurd (let a : entering m (first_place h q) ≡ 0 = first_outside h q m in omega (arith, a, z)); spent = λ t z. absurd (cc) }

pub always_enters : (h : Shape) (es : List Event) (w : World) → IsRun (start h) es w → EntersHold w
always_enters h es w r = run_keeps EntersHold step_enters (start h) w es (first_enters h) r
