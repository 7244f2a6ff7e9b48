-- what places, cells and latches say holds in every world of every run
--
-- `CallsHold` says: what each place of each stack says is so, and what cells, call latches and terminate latches say; a
-- job's kind names its call.
-- Why what each act writes is right:
-- - Store: the run of the call's job has just ended so (`says_closed`, ClaimEvents).
-- - Set of a call's latch: the job is over since the Store before it (`set_call_says`).
-- - Set of a terminate latch: the Lower before it found the last share (`set_seat_says`).
-- - Take: what a cell holds is how the job ended; else the Take sees a fault (`took`).
use Rattle.rayon_machine_places.specs.declared.place.Plan.{Plan}
use Rattle.rayon_machine_places.specs.declared.place.Feeding.{Feeding}
use Rattle.rayon_machine_places.specs.declared.place.Count.{Count}
use Rattle.rayon_machine_places.specs.declared.place.Mark.TheVariants.{Counted, Queued, Returned, Numbered, Dealt, Unnumbered}
use Rattle.rayon_machine_places.specs.declared.place.Mark.{Mark as Marking}
use Rattle.rayon_machine_places.specs.declared.place.Pieces.{Pieces}
use Rattle.rayon_machine_runs.specs.declared.state.Scope.{Scope}
use Rattle.rayon_machine_places.specs.declared.place.Count.TheVariants.{OfPool, OfScope, OfCast}
use Rattle.std.proofs.Common.{arith, refl, sym, ◌∙◌, ap, subst, inl, inr}
use Rattle.std.specs.Prelude.{ℕ, Bool, true, false, not, ◌&&◌, ◌+◌, ◌==◌, ◌≤◌, ◌<◌, if◌then◌else◌, Option, Some, List, ◌≡◌, IfSome, zero, suc, ◌-◌, slice_get, None}
use Rattle.std.proofs.lemmas.Bool.{eqb-true, eq-eqb, ltb-true, ltb-false}
use Rattle.std.proofs.Math.Dec.{ltb}
use Rattle.rayon_machine_places.specs.declared.place.Party.{Party}
use Rattle.rayon_machine_places.specs.declared.place.Party.TheVariants.{Worker, Caller}
use Rattle.rayon_machine_places.specs.declared.place.Ending.{Ending}
use Rattle.rayon_machine_places.specs.declared.place.JobKind.TheVariants.{Detached, Stored, TokenOf, Scoped, PieceOf, BodyOf}
use Rattle.rayon_machine_places.specs.declared.place.Latch.{Latch}
use Rattle.rayon_machine_places.specs.declared.place.Latch.TheVariants.{Terminate, OfCall}
use Rattle.rayon_machine_places.specs.declared.place.Plan.TheVariants.{Detach, Here, Send, Fork, Feed, Open, Enter, Gather}
use Rattle.rayon_machine_places.specs.declared.place.Taken.TheVariants.{Plain, Token}
use Rattle.rayon_machine_places.specs.declared.place.Place.{Place}
use Rattle.rayon_machine_places.specs.declared.place.Place.TheVariants.{PopWorking, TakeCastWorking, PopIdle, TakeCastIdle, StealFrom, PopInjected, JoinPop, JoinTakeCast, YieldPop, YieldTakeCast, YieldSteal, YieldPopInjected, LocalPop, LocalTakeCast, BeginTask, BeginHere, Run}
use Rattle.rayon_machine_places.specs.declared.place.Place.TheVariants.{TakeResult, LowerCount, StoreResult, SetLatch, SetLockLatch, AddToFifo, TakeFromFifo, LowerForAll, StoreBody, StorePiece, PushJob}
use Rattle.rayon_machine_places.specs.declared.place.Move.{Move}
use Rattle.rayon_machine_places.specs.declared.place.Move.TheVariants.{Stay, Enter, StartRun, Back, HandBack, Discard, HandIn, Mark, HandAllBack}
use Rattle.rayon_machine_places.specs.declared.act.Seen.{Seen}
use Rattle.rayon_machine_places.specs.declared.act.Seen.TheVariants.{Yes, Task, Begun, Found, Handed}
use Rattle.rayon_machine_runs.specs.declared.state.Letter.TheVariants.{Set as IsSet}
use Rattle.rayon_machine_runs.specs.declared.state.Whereabouts.TheVariants.{Nowhere, Over, HandedBack, Spent}
use Rattle.rayon_machine_places.specs.declared.shape.PoolShape.{PoolShape}
use Rattle.rayon_machine_places.specs.declared.place.OpenCall.{OpenCall}
use Rattle.rayon_machine_runs.specs.declared.state.Job.{Job}
use Rattle.rayon_machine_places.specs.Places.{same_party, act_of, next_of, taken_number, count_kind, count_book, own_pool}
use Rattle.rayon_machine_runs.specs.World.{Stack, World, counts_at, Part, at_job, begun, same_list, count_in, count_call, told}
use Rattle.rayon_machine_places.specs.Targets.{target_pool, target_worker, call_of, target_call, count_pool}
use Rattle.rayon_machine_runs.specs.Steps.{put, put_stack, part_of, after_move, jobs_after, after, is_piece, mark_pieces, marked}
use Rattle.rayon_machine_laws.specs.Once.{one, times}
use Rattle.rayon_machine_laws.proofs.Frame.{either, after_kind, same_index, same_party_true, if_some_and, if_some_map, put_new, if_some_each, same_list_true}
use Rattle.rayon_machine_laws.proofs.Ties.{job_at, outcome, result}
use Rattle.rayon_machine_laws.proofs.Hands.{held_in, held, is_gather, queues_whole}
use Rattle.rayon_machine_laws.proofs.Feeds.{fed, fed_in, all_fed, fed_after, fed_stacks}
use Rattle.rayon_machine_laws.proofs.Located.{is_left, IsOnward}
use Rattle.rayon_machine_laws.proofs.Placed.{Kept, Unqueued}
use Rattle.rayon_machine_laws.proofs.PlacedEvents.{go_kept, Advance, kept_advance}
use Rattle.rayon_machine_laws.proofs.PlacedRuns.{JobsHold, jobs_advance}
use Rattle.rayon_machine_laws.proofs.Claims.{Opened, Left, Taking, SaysLatch, Says, StackSays, PassMove, none_passes, land_says, Learns, says_next, MadeAs, Tied, PartOf, EndsAs, KnownCount, SaysPlan, IsZero, SaysQueue, SaysTaken}
use Rattle.rayon_machine_laws.proofs.Later.{Later, later_says, later_all, later_stack, Static, act_static, later_made, later_latch, later_as, later_tied, later_part}
use Rattle.rayon_machine_laws.proofs.ClaimActs.{Lasting, lasting, Took, Learned, act_learned, made_held, stores, is_call, sets_call, sets_seat, Written, act_written, made_lined, lined, Lines, line_table}
use Rattle.rayon_machine_places.specs.declared.place.Taken.{Taken}

-- a job in a FIFO list of its pool, that of a scope or that of detached jobs
abbrev pub LinedAs : World → ℕ → ℕ → Option ℕ → Type 0
LinedAs w t p None = MadeAs w t p (Detached p)
LinedAs w t p (Some c) = (o : Party) × MadeAs w t p (Scoped c o)

pub later_lined : (w u : World) → Later w u → (t p : ℕ) (b : Option ℕ) → LinedAs w t p b → LinedAs u t p b
later_lined w u l t p None s = later_made w u l t p (Detached p) s
later_lined w u l t p (Some c) s = (s.0, later_made w u l t p (Scoped c (s.0)) (s.1))

-- what holds of the calls of every world
pub record CallsHold (w : World) : Type 0 where
  pub jobs : JobsHold w
  pub says : (q : Party) → StackSays w q (w.stack q)
  pub ties : (t : ℕ) → t + 1 ≤ w.jobs → (c : ℕ) (o : Party) → (w.job t).kind ≡ Stored c o → (c + 1 ≤ w.calls) × ((w.call c).job ≡ t)
  pub pools : (t : ℕ) → t + 1 ≤ w.jobs → (p : ℕ) → (w.job t).kind ≡ Detached p → (w.job t).pool ≡ p
  pub cells : (c : ℕ) (e : Ending) → (w.call c).cell ≡ Some e → EndsAs w (w.call c).job c e
  pub latches : (c : ℕ) → (w.call c).latch ≡ IsSet → SaysLatch w 0 (OfCall c)
  pub entries : (t : ℕ) → t + 1 ≤ w.jobs → (c : ℕ) (o : Party) → (w.job t).kind ≡ Scoped c o → Tied w c o
  pub parts : (t : ℕ) → t + 1 ≤ w.jobs → (c : ℕ) (o : Party) → (w.job t).kind ≡ PieceOf c o → PartOf w t c o
  pub scopes : (n : ℕ) (z : Scope) → slice_get w.scopes n ≡ Some z → Tied w z.call z.owner
  pub ends : (p i : ℕ) → (w.seat p i).latch ≡ IsSet → (w.pool p).count ≡ 0
  pub lines : (p i : ℕ) (b : Option ℕ) (t : ℕ) → 1 ≤ times t ((w.seat p i).fifo b) → LinedAs w t p b

-- no broadcast queues a job of its own
pub unqueued : (w : World) → CallsHold w → Unqueued w
unqueued w h q = by ((w.stack q).top) ((h.says q).top)
  where
    plan : (n : Plan) → SaysQueue w q n → is_gather n ≡ false
    plan (Gather g) s = absurd s
    plan _ s = refl

    by : (x : Place) → Says w q x → queues_whole x ≡ false
    by (PushJob n v) s = plan n s
    by _ s = refl

-- the stacks after one party has another
pub all_says : (w u : World) → Later w u → (q : Party) (k : Stack) → StackSays u q k → ((r : Party) → StackSays w r (w.stack r)) → (r : Party) → StackSays u r (put_stack w.stack q k r)
all_says w u l q k s h r = by (same_party r q) refl
  where
    by : (z : Bool) → same_party r q ≡ z → StackSays u r (if z then k else w.stack r)
    by true z = subst (λ g. StackSays u g k) (sym (same_party_true r q z)) s
    by false z = later_stack w u l r (w.stack r) (h r)

-- what is run for the frame below is passed on
next_passes : (g : PoolShape) (q : Party) (x : Place) (e : Seen) → PassMove x (next_of g q x e)
next_passes g q (BeginHere t) e = λ u z. z
next_passes g q (Run t k) e = λ u z. z
next_passes g q x e = none_passes x (next_of g q x e) refl

-- a party's stack after a move, where its place and the answer tell of the new world
pub moved_says : (w u : World) → Later w u → (g : PoolShape) (q : Party) (k : Stack) (e : Seen) → Learns u k.top e → StackSays w q k → StackSays u q (after_move (next_of g q k.top e) k.below)
moved_says w u l g q k e n s = land_says u q k.top (next_of g q k.top e) k.below (says_next u g q k.top e n (later_says w u l q k.top (s.top))) (next_passes g q k.top e) (later_all w u l q k.below (s.below)) (s.links)

-- the top of a party's stack is known
pub top_says : (w : World) (q : Party) (x : Place) (fs : List Place) → CallsHold w → w.stack q ≡ record { top = x; below = fs } → Says w q x
top_says w q x fs h z = subst (λ k. Says w q (k.top)) z ((h.says q).top)

-- what an act's answer tells of its part, told of the new world
abbrev pub world_after : World → Party → Place → List Place → Seen × Part → World
world_after w q x fs r = after w q (record { top = x; below = fs }) (target_pool q (act_of q x)) (target_worker q (act_of q x)) (target_call (act_of q x)) (job_at w q (act_of q x)) r

abbrev pub place_part : World → Party → Place → Part
place_part w q x = part_of w (target_pool q (act_of q x)) (target_worker q (act_of q x)) (target_call (act_of q x)) (job_at w q (act_of q x))

begun_held : (w : World) → JobsHold w → (q : Party) (t : ℕ) (fs : List Place) → w.stack q ≡ record { top = BeginTask (Plain t); below = fs } → t + 1 ≤ w.jobs
begun_held w h q t fs z = made_held w h q t (let a : held t (w.stack q) ≡ (one (t == t) + held_in t fs) = ap (held t) z in let b : one (t == t) ≡ 1 = ap one (eq-eqb t t refl) in omega (arith, a, b))

took : (w u : World) (q : Party) (o : OpenCall) (f : Option Ending) (e : Ending) → CallsHold w → Lasting w u → Opened w q o → (d : Ending) × (((w.call o.number).cell ≡ Some d) × (e ≡ told (w.call o.number).fault d)) → SaysTaken u o.job o.number e
took w u q o f e h l s (d, (y, i)) = by ((w.call o.number).fault) refl
  where
    over : EndsAs u o.job o.number d
    over = later_as w u (l.later) (o.job) (o.number) d (subst (λ t. EndsAs w t o.number d) (s.target) (h.cells (o.number) d y))

    by : (k : Option ℕ) → (w.call o.number).fault ≡ k → SaysTaken u o.job o.number e
    by None z = inl (subst (λ x. EndsAs u o.job o.number x) (sym (i ∙ ap (λ k. told k d) z)) over)
    by (Some t) z = inr (d, (over, i ∙ ap (λ k. told k d) z))

put_left : (J : ℕ → Job) (a : ℕ) (j : Job) (t : ℕ) → is_left (j.at) ≡ true → is_left (J t).at ≡ true → is_left (put J a j t).at ≡ true
put_left J a j t y z = by (t == a)
  where
    by : (b : Bool) → is_left (if b then j else J t).at ≡ true
    by true = y
    by false = z

marks_left : (c : Pieces) (k : Marking) (J : ℕ → Job) (t : ℕ) → is_left (J t).at ≡ true → is_left (mark_pieces c k J t).at ≡ true
marks_left c k J t z = by (is_piece c t)
  where
    mark : (k : Marking) → is_left (marked k c.pool (t - c.first) (J t)).at ≡ true
    mark Counted = z
    mark (Numbered n) = z
    mark Queued = refl
    mark Dealt = refl
    mark Unnumbered = z
    mark Returned = refl

    by : (b : Bool) → is_left (if b then marked k c.pool (t - c.first) (J t) else J t).at ≡ true
    by true = mark k
    by false = z

after_left : (q : Party) (g : Move) (J : ℕ → Job) (t : ℕ) → is_left (J t).at ≡ true → is_left (jobs_after q g J t).at ≡ true
after_left q (Stay y) J t z = z
after_left q (HandIn y k) J t z = put_left J k (at_job (J k) Spent) t refl z
after_left q (Discard k) J t z = put_left J k (at_job (J k) Spent) t refl z
after_left q (HandBack (Gather g)) J t z = marks_left g.pieces Returned J t z
after_left q (HandBack (Feed d)) J t z = put_left (put J (d.job) (at_job (J (d.job)) HandedBack)) (d.token) (at_job (J (d.token)) HandedBack) t refl (put_left J (d.job) (at_job (J (d.job)) HandedBack) t refl z)
after_left q (Enter f y) J t z = z
after_left q Back J t z = z
after_left q (StartRun f a) J t z = put_left J a (begun q (J a)) t refl z
after_left q (HandBack (Detach p a)) J t z = put_left J a (at_job (J a) HandedBack) t refl z
after_left q (HandBack (Here p a)) J t z = put_left J a (at_job (J a) HandedBack) t refl z
after_left q (HandBack (Send o)) J t z = put_left J (o.job) (at_job (J (o.job)) HandedBack) t refl z
after_left q (HandBack (Open o)) J t z = put_left J (o.job) (at_job (J (o.job)) HandedBack) t refl z
after_left q (HandBack (Enter o)) J t z = put_left J (o.job) (at_job (J (o.job)) HandedBack) t refl z
after_left q (HandBack (Fork o a)) J t z = put_left (put J a (at_job (J a) HandedBack)) (o.job) (at_job (J (o.job)) HandedBack) t refl (put_left J a (at_job (J a) HandedBack) t refl z)
after_left q (Mark y c k) J t z = marks_left c k J t z
after_left q (HandAllBack c) J t z = marks_left c Returned J t z

left_now : (w : World) (q : Party) (x : Place) (fs : List Place) (t : Taken) (e : Seen) (m : Part) → Took w.shape q (place_part w q x) x t m → Left (world_after w q x fs (e, m)) (taken_number t)
left_now w q x fs t e m k = after_left q (next_of (w.shape.pool (target_pool q (act_of q x))) q x e) (put w.job (job_at w q (act_of q x)) (m.job)) (taken_number t)
    (subst (λ n. is_left (put w.job (job_at w q (act_of q x)) (m.job) n).at ≡ true) (k.0) (ap (λ j. is_left (j.at)) (put_new w.job (job_at w q (act_of q x)) (m.job)) ∙ k.1))

-- what has left its call was made before
left_made : (w u : World) → JobsHold w → Kept w u → (t : ℕ) → Left u t → t + 1 ≤ w.jobs
left_made w u h k t z = elim (either (ltb t w.jobs)) [
  | inl y ↦ (let b : t < w.jobs = ltb-true t w.jobs y in omega (arith, b))
  | inr n ↦ absurd
      (let a : (w.job t).at ≡ Nowhere = (h.unmade) t (ltb-false t w.jobs n) in let c : (u.job t).at ≡ Nowhere = subst (λ v. IsOnward v ((u.job t).at)) a (k.onward t) in let d : is_left (u.job t).at ≡ false = ap is_left c in cc)
]

taking_now : (w : World) (q : Party) (x : Place) (fs : List Place) (t : Taken) (e : Seen) (m : Part) → JobsHold w → Kept w (world_after w q x fs (e, m)) → Took w.shape q (place_part w q x) x t m → Taking (world_after w q x fs (e, m)) t
taking_now w q x fs (Plain t) e m h o k = left_now w q x fs (Plain t) e m k
taking_now w q x fs (Token t i b8) e m h o k = (
  left_now w q x fs (Token t i b8) e m k,
  left_made w (world_after w q x fs (e, m)) h o t (left_now w q x fs (Token t i b8) e m k),
  after_kind q (next_of (w.shape.pool (target_pool q (act_of q x))) q x e) (put w.job (job_at w q (act_of q x)) (m.job)) t ∙ subst (λ n. (put w.job (job_at w q (act_of q x)) (m.job) n).kind ≡ TokenOf i b8) (k.0) (ap (λ j. j.kind) (put_new w.job (job_at w q (act_of q x)) (m.job)) ∙ k.2),
)

-- the count is 0 in the world too
zero_now : (w : World) (q : Party) (x : Place) (fs : List Place) (m : Part) (b : Pieces) (k : Count) → target_call (act_of q x) ≡ count_call b.count → target_pool q (act_of q x) ≡ count_pool q b.count → b.count ≡ k → count_in m k ≡ 0 → IsZero (world_after w q x fs (Yes, m)) k
zero_now w q x fs m b (OfPool p) c r e z = ap (λ n. (put w.pool (target_pool q (act_of q x)) (m.pool) n).count) (sym (r ∙ ap (count_pool q) e)) ∙ ap (λ v. v.count) (put_new w.pool (target_pool q (act_of q x)) (m.pool)) ∙ z
zero_now w q x fs m b (OfScope d o) c r e z = ap (λ n. (put w.call (target_call (act_of q x)) (m.call) n).count) (sym (c ∙ ap count_call e)) ∙ ap (λ v. v.count) (put_new w.call (target_call (act_of q x)) (m.call)) ∙ z
zero_now w q x fs m b (OfCast d o) c r e z = ap (λ n. (put w.call (target_call (act_of q x)) (m.call) n).count) (sym (c ∙ ap count_call e)) ∙ ap (λ v. v.count) (put_new w.call (target_call (act_of q x)) (m.call)) ∙ z

-- a scope has one owner
one_owner : (w : World) (c : ℕ) (o r : Party) → Tied w c o → Tied w c r → o ≡ r
one_owner w c o r a b = let e : BodyOf c o ≡ BodyOf c r = sym (a.kind) ∙ b.kind in cc

-- a job in the list of a count's jobs is as one of the count's
from_line : (w : World) (k : Count) (t p r : ℕ) → CallsHold w → p ≡ r → KnownCount w k r → LinedAs w t p (count_book k) → MadeAs w t r (count_kind k)
from_line w (OfPool n) t p r h e s l = let g : n ≡ r = s in subst (λ m. MadeAs w t r (Detached m)) (sym g) (subst (λ m. MadeAs w t m (Detached m)) e l)
from_line w (OfScope c o) t p r h e s l = let m : MadeAs w t p (Scoped c (l.0)) = l.1 in
    let is : l.0 ≡ o = one_owner w c (l.0) o (h.entries t (m.made) c (l.0) (m.kind)) s in
    subst (λ n. MadeAs w t n (Scoped c o)) e (subst (λ g. MadeAs w t p (Scoped c g)) is m)
from_line w (OfCast c o) t p r h e s l = absurd s

pub learns : (w : World) (q : Party) (x : Place) (fs : List Place) (r : Seen × Part) → CallsHold w → w.stack q ≡ record { top = x; below = fs } → Kept w (world_after w q x fs r) → Lasting w (world_after w q x fs r) → Learned w.shape q (place_part w q x) x r → Learns (world_after w q x fs r) x (r.0)
learns w (Worker a b) (PopWorking k) fs (Task t, m) h z o l y = taking_now w (Worker a b) (PopWorking k) fs t (Task t) m (h.jobs) o y
learns w (Worker a b) (TakeCastWorking k) fs (Task t, m) h z o l y = taking_now w (Worker a b) (TakeCastWorking k) fs t (Task t) m (h.jobs) o y
learns w (Worker a b) (PopIdle k) fs (Task t, m) h z o l y = taking_now w (Worker a b) (PopIdle k) fs t (Task t) m (h.jobs) o y
learns w (Worker a b) (TakeCastIdle k) fs (Task t, m) h z o l y = taking_now w (Worker a b) (TakeCastIdle k) fs t (Task t) m (h.jobs) o y
learns w (Worker a b) (StealFrom k v) fs (Task t, m) h z o l y = taking_now w (Worker a b) (StealFrom k v) fs t (Task t) m (h.jobs) o y
learns w (Worker a b) (PopInjected k) fs (Task t, m) h z o l y = taking_now w (Worker a b) (PopInjected k) fs t (Task t) m (h.jobs) o y
learns w (Worker a b) (JoinPop o) fs (Task t, m) h z k l y = taking_now w (Worker a b) (JoinPop o) fs t (Task t) m (h.jobs) k y
learns w (Worker a b) (JoinTakeCast o) fs (Task t, m) h z k l y = taking_now w (Worker a b) (JoinTakeCast o) fs t (Task t) m (h.jobs) k y
learns w (Worker a b) YieldPop fs (Task t, m) h z o l y = taking_now w (Worker a b) YieldPop fs t (Task t) m (h.jobs) o y
learns w (Worker a b) YieldTakeCast fs (Task t, m) h z o l y = taking_now w (Worker a b) YieldTakeCast fs t (Task t) m (h.jobs) o y
learns w (Worker a b) (YieldSteal v j) fs (Task t, m) h z o l y = taking_now w (Worker a b) (YieldSteal v j) fs t (Task t) m (h.jobs) o y
learns w (Worker a b) YieldPopInjected fs (Task t, m) h z o l y = taking_now w (Worker a b) YieldPopInjected fs t (Task t) m (h.jobs) o y
learns w (Worker a b) LocalPop fs (Task t, m) h z o l y = taking_now w (Worker a b) LocalPop fs t (Task t) m (h.jobs) o y
learns w (Worker a b) LocalTakeCast fs (Task t, m) h z o l y = taking_now w (Worker a b) LocalTakeCast fs t (Task t) m (h.jobs) o y
learns w (Caller c) (PopWorking k) fs (Task t, m) h z o l y = taking_now w (Caller c) (PopWorking k) fs t (Task t) m (h.jobs) o y
learns w (Caller c) (TakeCastWorking k) fs (Task t, m) h z o l y = taking_now w (Caller c) (TakeCastWorking k) fs t (Task t) m (h.jobs) o y
learns w (Caller c) (PopIdle k) fs (Task t, m) h z o l y = taking_now w (Caller c) (PopIdle k) fs t (Task t) m (h.jobs) o y
learns w (Caller c) (TakeCastIdle k) fs (Task t, m) h z o l y = taking_now w (Caller c) (TakeCastIdle k) fs t (Task t) m (h.jobs) o y
learns w (Caller c) (StealFrom k v) fs (Task t, m) h z o l y = taking_now w (Caller c) (StealFrom k v) fs t (Task t) m (h.jobs) o y
learns w (Caller c) (PopInjected k) fs (Task t, m) h z o l y = taking_now w (Caller c) (PopInjected k) fs t (Task t) m (h.jobs) o y
learns w (Caller c) (JoinPop o) fs (Task t, m) h z k l y = taking_now w (Caller c) (JoinPop o) fs t (Task t) m (h.jobs) k y
learns w (Caller c) (JoinTakeCast o) fs (Task t, m) h z k l y = taking_now w (Caller c) (JoinTakeCast o) fs t (Task t) m (h.jobs) k y
learns w (Caller c) YieldPop fs (Task t, m) h z o l y = taking_now w (Caller c) YieldPop fs t (Task t) m (h.jobs) o y
learns w (Caller c) YieldTakeCast fs (Task t, m) h z o l y = taking_now w (Caller c) YieldTakeCast fs t (Task t) m (h.jobs) o y
learns w (Caller c) (YieldSteal v j) fs (Task t, m) h z o l y = taking_now w (Caller c) (YieldSteal v j) fs t (Task t) m (h.jobs) o y
learns w (Caller c) YieldPopInjected fs (Task t, m) h z o l y = taking_now w (Caller c) YieldPopInjected fs t (Task t) m (h.jobs) o y
learns w (Caller c) LocalPop fs (Task t, m) h z o l y = taking_now w (Caller c) LocalPop fs t (Task t) m (h.jobs) o y
learns w (Caller c) LocalTakeCast fs (Task t, m) h z o l y = taking_now w (Caller c) LocalTakeCast fs t (Task t) m (h.jobs) o y
learns w (Worker a b) (TakeResult o f) fs (Found d, m) h z k l y = took w (world_after w (Worker a b) (TakeResult o f) fs (Found d, m)) (Worker a b) o f d h l ((top_says w (Worker a b) (TakeResult o f) fs h z).0) y
learns w (Worker a b) (LowerCount (OfPool p) s k) fs (Yes, m) h z o l y = ap (λ v. v.count) (put_new w.pool p (m.pool)) ∙ y
learns w (Worker a b) (LowerCount (OfCast c g) s k) fs (Yes, m) h z o l y = ap (λ v. v.count) (put_new w.call c (m.call)) ∙ y
learns w (Worker a b) (LowerCount (OfScope c g) s k) fs (Yes, m) h z o l y = ap (λ v. v.count) (put_new w.call c (m.call)) ∙ y
learns w (Worker a b) (LowerForAll n) fs (Yes, m) h z o l y = zero_now w (Worker a b) (LowerForAll n) fs m n n.count refl refl refl y
learns w (Worker a b) (TakeFromFifo f) fs (Task x, m) h z o l y = later_made w (world_after w (Worker a b) (TakeFromFifo f) fs (Task x, m)) (l.later) (taken_number x) f.pool (count_kind f.count)
    (from_line w f.count (taken_number x) a f.pool h (sym ((top_says w (Worker a b) (TakeFromFifo f) fs h z).2)) ((top_says w (Worker a b) (TakeFromFifo f) fs h z).3) (h.lines a b (count_book f.count) (taken_number x) (y.1)))
learns w (Worker a b) (BeginTask (Plain t)) fs (Begun d, m) h z o l y = (begun_held w (h.jobs) (Worker a b) t fs z, l.kinds t ∙ y)
learns w (Worker a b) (BeginTask (Token k i b8)) fs (Handed t d, m) h z o l y = (made_lined w (h.jobs) a i b8 t (y.1), l.kinds t ∙ ap (λ n. (w.job n).kind) (sym (y.0)) ∙ y.2)
learns w (Caller v) (TakeResult o f) fs (Found d, m) h z k l y = took w (world_after w (Caller v) (TakeResult o f) fs (Found d, m)) (Caller v) o f d h l ((top_says w (Caller v) (TakeResult o f) fs h z).0) y
learns w (Caller v) (LowerCount (OfPool p) s k) fs (Yes, m) h z o l y = ap (λ v. v.count) (put_new w.pool p (m.pool)) ∙ y
learns w (Caller v) (LowerCount (OfCast c g) s k) fs (Yes, m) h z o l y = ap (λ v. v.count) (put_new w.call c (m.call)) ∙ y
learns w (Caller v) (LowerCount (OfScope c g) s k) fs (Yes, m) h z o l y = ap (λ v. v.count) (put_new w.call c (m.call)) ∙ y
learns w (Caller v) (LowerForAll n) fs (Yes, m) h z o l y = zero_now w (Caller v) (LowerForAll n) fs m n n.count refl refl refl y
learns w (Caller v) (TakeFromFifo f) fs (Task x, m) h z o l y = later_made w (world_after w (Caller v) (TakeFromFifo f) fs (Task x, m)) (l.later) (taken_number x) f.pool (count_kind f.count)
    (from_line w f.count (taken_number x) 0 f.pool h (sym ((top_says w (Caller v) (TakeFromFifo f) fs h z).2)) ((top_says w (Caller v) (TakeFromFifo f) fs h z).3) (h.lines 0 0 (count_book f.count) (taken_number x) (y.1)))
learns w (Caller v) (BeginTask (Plain t)) fs (Begun d, m) h z o l y = (begun_held w (h.jobs) (Caller v) t fs z, l.kinds t ∙ y)
learns w (Caller v) (BeginTask (Token k i b8)) fs (Handed t d, m) h z o l y = (made_lined w (h.jobs) 0 i b8 t (y.1), l.kinds t ∙ ap (λ n. (w.job n).kind) (sym (y.0)) ∙ y.2)
learns w q x fs (e, m) h z o l y = tt

-- who writes a cell or sets a latch knows that the job is over, or that the pool has ended
store_says : (w : World) (q : Party) (x : Place) (e : Ending) → stores x ≡ Some e → Says w q x → EndsAs w (w.call (target_call (act_of q x))).job (target_call (act_of q x)) e
store_says w (Worker a b) (StorePiece c o t d) e z s = let k : d ≡ e = cc in inr (record { job = t; owner = o; made = s.0; kind = s.1; at = s.3 ∙ ap Over k })
store_says w (Worker a b) (StoreResult c o d) e z s = let k : d ≡ e = cc in inl (s.1 ∙ ap Over k)
store_says w (Caller v) (StorePiece c o t d) e z s = let k : d ≡ e = cc in inr (record { job = t; owner = o; made = s.0; kind = s.1; at = s.3 ∙ ap Over k })
store_says w (Caller v) (StoreResult c o d) e z s = let k : d ≡ e = cc in inl (s.1 ∙ ap Over k)
store_says w (Worker a b) (StoreBody o d) e z s = let k : d ≡ e = cc in inl (ap (λ t. (w.job t).at) (((s.0).0).target) ∙ s.1 ∙ ap Over k)
store_says w (Caller v) (StoreBody o d) e z s = let k : d ≡ e = cc in inl (ap (λ t. (w.job t).at) (((s.0).0).target) ∙ s.1 ∙ ap Over k)
store_says w q _ e z s = cc

call_latch_says : (w : World) (p : ℕ) (l : Latch) → is_call l ≡ true → SaysLatch w p l → SaysLatch w 0 (OfCall (call_of l))
call_latch_says w p Terminate z s = cc
call_latch_says w p (OfCall c) z s = s

seat_latch_says : (w : World) (p : ℕ) (l : Latch) → not (is_call l) ≡ true → SaysLatch w p l → (w.pool p).count ≡ 0
seat_latch_says w p Terminate z s = s
seat_latch_says w p (OfCall c) z s = cc

set_call_says : (w : World) (q : Party) (x : Place) → sets_call x ≡ true → Says w q x → SaysLatch w 0 (OfCall (target_call (act_of q x)))
set_call_says w (Worker a b) (SetLatch k) z s = call_latch_says w k.pool k.latch z (s.0)
set_call_says w (Caller v) (SetLatch k) z s = call_latch_says w k.pool k.latch z (s.0)
set_call_says w (Worker a b) (SetLockLatch c n) z s = s.0
set_call_says w (Caller v) (SetLockLatch c n) z s = s.0
set_call_says w q _ z s = cc

set_seat_says : (w : World) (q : Party) (x : Place) → sets_seat x ≡ true → Says w q x → (w.pool (target_pool q (act_of q x))).count ≡ 0
set_seat_says w (Worker a b) (SetLatch k) z s = seat_latch_says w k.pool k.latch z (s.0)
set_seat_says w (Caller v) (SetLatch k) z s = seat_latch_says w k.pool k.latch z (s.0)
set_seat_says w q _ z s = cc

-- what comes to a FIFO list is a detached job of its pool
same_number_one : (t u : ℕ) → 1 ≤ one (t == u) → t ≡ u
same_number_one t u k = by (t == u) refl k
  where
    by : (z : Bool) → (t == u) ≡ z → 1 ≤ one z → t ≡ u
    by true e b = eqb-true t u e
    by false e b = absurd (omega (arith, b))

and_one : (a b : Bool) → 1 ≤ one (a && b) → (a ≡ true) × (1 ≤ one b)
and_one true b h = (refl, h)
and_one false b h = absurd (omega (arith, h))

line_count : (w : World) (q : Party) (t p r : ℕ) (k : Count) → p ≡ r → KnownCount w k p → MadeAs w t p (count_kind k) → LinedAs w t r (count_book k)
line_count w q t p r (OfPool n) e s m = let g : n ≡ p = s in subst (λ a. MadeAs w t a (Detached a)) e (subst (λ a. MadeAs w t p (Detached a)) g m)
line_count w q t p r (OfScope c o) e s m = (o, subst (λ a. MadeAs w t a (Scoped c o)) e m)
line_count w q t p r (OfCast c o) e s m = absurd s

line_fed : (w : World) (q : Party) (f : Feeding) (v : Option ℕ) (t : ℕ) → 1 ≤ one (same_list v (count_book f.count) && (t == f.job)) → SaysPlan w q (Feed f) → LinedAs w t (own_pool q) v
line_fed w q f v t k s =
    let a : (same_list v (count_book f.count) ≡ true) × (1 ≤ one (t == f.job)) = and_one (same_list v (count_book f.count)) (t == f.job) k in
    subst (LinedAs w t (own_pool q)) (sym (same_list_true v (count_book f.count) (a.0))) (subst (λ n. LinedAs w n (own_pool q) (count_book f.count)) (sym (same_number_one t f.job (a.1))) (line_count w q f.job f.pool (own_pool q) f.count (s.2) (s.3) (s.0)))

line_says : (w : World) (q : Party) (x : Place) (v : Option ℕ) (t : ℕ) → 1 ≤ lined v t x → Says w q x → LinedAs w t (target_pool q (act_of q x)) v
line_says w (Worker a b) (AddToFifo f) v t k s = line_fed w (Worker a b) f v t k s
line_says w (Caller c) (AddToFifo f) v t k s = line_fed w (Caller c) f v t k s
line_says w q _ v t k s = absurd (omega (arith, k))

-- one act
pub act_calls : (w : World) (q : Party) (x : Place) (fs : List Place) (r : Seen × Part) → CallsHold w → w.stack q ≡ record { top = x; below = fs } → Static (place_part w q x) r → Kept w (world_after w q x fs r) → Learned w.shape q (place_part w q x) x r → Written (place_part w q x) x r
    → ((v : Option ℕ) (t : ℕ) → Lines (place_part w q x) v t x r) → CallsHold (world_after w q x fs r)
act_calls w q x fs r h z st ke le wr li = record {
  jobs = jobs;
  says = all_says w u (l.later) q (after_move (next_of (w.shape.pool (target_pool q (act_of q x))) q x (r.0)) fs)
      (moved_says w u (l.later) (w.shape.pool (target_pool q (act_of q x))) q (record { top = x; below = fs }) (r.0) (learns w q x fs r h z ke l le) (subst (λ k. StackSays w q k) z (h.says q))) (h.says);
  ties = λ t b c o k. (let a : (c + 1 ≤ w.calls) × ((w.call c).job ≡ t) = h.ties t b c o (sym (l.kinds t) ∙ k) in (a.0, l.targets c ∙ a.1));
  pools = λ t b p k. (l.later).pool t b ∙ h.pools t b p (sym (l.kinds t) ∙ k);
  cells = λ c e k. cells c e (c == target_call (act_of q x)) refl k;
  latches = λ c k. latches c (c == target_call (act_of q x)) refl k;
  entries = λ t b c o k. later_tied w u (l.later) c o (h.entries t b c o (sym (l.kinds t) ∙ k));
  parts = λ t b c o k. later_part w u (l.later) t c o (h.parts t b c o (sym (l.kinds t) ∙ k));
  scopes = λ n s e. later_tied w u (l.later) s.call s.owner (h.scopes n s e);
  ends = λ p i k. ends p i ((p == target_pool q (act_of q x)) && (i == target_worker q (act_of q x))) refl k;
  lines = λ p i v t b. later_lined w u (l.later) t p v (lines p i v t ((p == target_pool q (act_of q x)) && (i == target_worker q (act_of q x))) refl b);
}
  where
    u : World
    u = world_after w q x fs r

    l : Lasting w (world_after w q x fs r)
    l = lasting w q (record { top = x; below = fs }) (target_pool q (act_of q x)) (target_worker q (act_of q x)) (target_call (act_of q x)) (job_at w q (act_of q x)) r st ke

    jobs : JobsHold (world_after w q x fs r)
    jobs = let a : Advance w (world_after w q x fs r) = kept_advance w (world_after w q x fs r) (omega arith) ((h.jobs).unmade)
        (fed_stacks w q (after_move (next_of (w.shape.pool (target_pool q (act_of q x))) q x (r.0)) fs) (λ t. let f : all_fed t (after_move (next_of (w.shape.pool (target_pool q (act_of q x))) q x (r.0)) fs) ≤ fed t x + fed_in t fs = fed_after
        (w.shape.pool (target_pool q (act_of q x))) q t x fs (r.0) in let g : all_fed t (w.stack q) ≡ (fed t x + fed_in t fs) = ap (all_fed t) z in omega (arith, f, g))) ke in jobs_advance w (world_after w q x fs r) (h.jobs) a

    over_now : (c : ℕ) (e : Ending) → EndsAs w (w.call c).job c e → EndsAs (world_after w q x fs r) ((world_after w q x fs r).call c).job c e
    over_now c e k = subst (λ t. EndsAs (world_after w q x fs r) t c e) (sym (l.targets c)) (later_as w (world_after w q x fs r) (l.later) ((w.call c).job) c e k)

    cells : (c : ℕ) (e : Ending) (b : Bool) → (c == target_call (act_of q x)) ≡ b → (if b then r.1.call else w.call c).cell ≡ Some e → EndsAs (world_after w q x fs r) ((world_after w q x fs r).call c).job c e
    cells c e false y k = over_now c e (h.cells c e k)
    cells c e true y k = over_now c e (subst (λ d. EndsAs w (w.call d).job d e) (sym (eqb-true c (target_call (act_of q x)) y))
        (elim (wr.cell e k) [ inl a ↦ h.cells (target_call (act_of q x)) e a | inr a ↦ store_says w q x e a (top_says w q x fs h z) ]))

    latches : (c : ℕ) (b : Bool) → (c == target_call (act_of q x)) ≡ b → (if b then r.1.call else w.call c).latch ≡ IsSet → SaysLatch (world_after w q x fs r) 0 (OfCall c)
    latches c false y k = later_latch w (world_after w q x fs r) (l.later) 0 (OfCall c) (h.latches c k)
    latches c true y k = later_latch w (world_after w q x fs r) (l.later) 0 (OfCall c) (subst (λ d. SaysLatch w 0 (OfCall d)) (sym (eqb-true c (target_call (act_of q x)) y))
        (elim (wr.call k) [ inl a ↦ h.latches (target_call (act_of q x)) a | inr a ↦ set_call_says w q x a (top_says w q x fs h z) ]))

    lines : (p i : ℕ) (v : Option ℕ) (t : ℕ) (b : Bool) → ((p == target_pool q (act_of q x)) && (i == target_worker q (act_of q x))) ≡ b → 1 ≤ times t ((if b then r.1.seat else w.seat p i).fifo v) → LinedAs w t p v
    lines p i v t false y k = h.lines p i v t k
    lines p i v t true y k = subst (λ n. LinedAs w t n v) (sym ((same_index p i (target_pool q (act_of q x)) (target_worker q (act_of q x)) y).0)) (by (times t ((w.seat (target_pool q (act_of q x)) (target_worker q (act_of q x))).fifo v)) refl)
      where
        by : (n : ℕ) → times t ((w.seat (target_pool q (act_of q x)) (target_worker q (act_of q x))).fifo v) ≡ n → LinedAs w t (target_pool q (act_of q x)) v
        by zero e = line_says w q x v t (let a : times t (r.1.seat.fifo v) ≤ times t ((w.seat (target_pool q (act_of q x)) (target_worker q (act_of q x))).fifo v) + lined v t x = li v t in omega (arith, a, e, k)) (top_says w q x fs h z)
        by (suc n) e = h.lines (target_pool q (act_of q x)) (target_worker q (act_of q x)) v t (omega (arith, e))

    ends : (p i : ℕ) (b : Bool) → ((p == target_pool q (act_of q x)) && (i == target_worker q (act_of q x))) ≡ b → (if b then r.1.seat else w.seat p i).latch ≡ IsSet → ((world_after w q x fs r).pool p).count ≡ 0
    ends p i false y k = (l.later).ended p (h.ends p i k)
    ends p i true y k = (l.later).ended p (subst (λ d. (w.pool d).count ≡ 0) (sym ((same_index p i (target_pool q (act_of q x)) (target_worker q (act_of q x)) y).0))
        (elim (wr.seat k) [ inl a ↦ h.ends (target_pool q (act_of q x)) (target_worker q (act_of q x)) a | inr a ↦ set_seat_says w q x a (top_says w q x fs h z) ]))

pub go_calls : (w : World) (q : Party) → CallsHold w → IfSome (outcome w q (w.stack q)) (λ r. CallsHold (result w q (w.stack q) r))
go_calls w q h =
    let k = w.stack q in let x = k.top in
    if_some_map (λ r. ((i : Option ℕ × ℕ) → Lines (place_part w q x) (i.0) (i.1) x r) × ((Static (place_part w q x) r × Learned w.shape q (place_part w q x) x r) × (Written (place_part w q x) x r × Kept w (result w q k r)))) (λ r. CallsHold (result w q k r))
    (λ r f. act_calls w q x (k.below) r h refl (((f.1).0).0) (((f.1).1).1) (((f.1).0).1) (((f.1).1).0) (λ v t. f.0 (v, t)))
    (outcome w q k)
    (if_some_and (λ r. (i : Option ℕ × ℕ) → Lines (place_part w q x) (i.0) (i.1) x r) (λ r. (Static (place_part w q x) r × Learned w.shape q (place_part w q x) x r) × (Written (place_part w q x) x r × Kept w (result w q k r))) (outcome w q k)
    (if_some_each {I = Option ℕ × ℕ} (λ i r. Lines (place_part w q x) (i.0) (i.1) x r) (outcome w q k) (λ i. line_table w.shape q (counts_at w (target_pool q (act_of q x))) (place_part w q x) (i.0) (i.1) x))
    (if_some_and (λ r. Static (place_part w q x) r × Learned w.shape q (place_part w q x) x r) (λ r. Written (place_part w q x) x r × Kept w (result w q k r)) (outcome w q k)
    (if_some_and (Static (place_part w q x)) (Learned w.shape q (place_part w q x) x) (outcome w q k) (act_static w.shape q (counts_at w (target_pool q (act_of q x))) (place_part w q x) x) (act_learned w.shape q (counts_at w (target_pool q (act_of q x))) (place_part w q x) x))
    (if_some_and (Written (place_part w q x) x) (λ r. Kept w (result w q k r)) (outcome w q k) (act_written w.shape q (counts_at w (target_pool q (act_of q x))) (place_part w q x) x) (go_kept w q (unqueued w h q) ((h.jobs).feeds) ((h.jobs).ok)))))
