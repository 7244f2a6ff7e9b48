-- each act keeps what the places say, and what cells and latches hold
use Rattle.rayon_machine_places.specs.declared.place.Ending.TheVariants.{Fine, Fault}
use Rattle.rayon_machine_places.specs.declared.place.Pieces.{Pieces}
use Rattle.rayon_machine_places.specs.declared.place.Count.TheVariants.{OfPool, OfScope, OfCast}
use Rattle.rayon_machine_places.specs.declared.place.Count.{Count}
use Rattle.std.proofs.Common.{arith, refl, sym, ◌∙◌, ap, subst, inl, inr}
use Rattle.std.specs.Prelude.{ℕ, Bool, true, false, not, ◌+◌, ◌-◌, ◌==◌, ◌≤◌, ◌<◌, if◌then◌else◌, Option, Some, None, List, [], ◌∷◌, ◌≡◌, IfSome, ◌⊎◌, ⊤, ◌++◌, ◌&&◌}
use Rattle.std.proofs.lemmas.Bool.{eqb-true, ltb-true, ltb-false, eq-eqb}
use Rattle.std.proofs.Math.Dec.{ltb}
use Rattle.rayon_machine_places.specs.declared.place.Party.{Party}
use Rattle.rayon_machine_places.specs.declared.place.Party.TheVariants.{Worker, Caller}
use Rattle.rayon_machine_places.specs.declared.place.Ending.{Ending}
use Rattle.rayon_machine_places.specs.declared.place.Latch.{Latch}
use Rattle.rayon_machine_places.specs.declared.place.Latch.TheVariants.{Terminate, OfCall}
use Rattle.rayon_machine_places.specs.declared.place.Share.{Share}
use Rattle.rayon_machine_places.specs.declared.place.Then.{Then}
use Rattle.rayon_machine_places.specs.declared.place.Taken.TheVariants.{Plain, Token}
use Rattle.rayon_machine_places.specs.declared.act.Act.TheVariants.{FifoOut, FifoUndo, PushOwn, PushInj}
use Rattle.rayon_machine_places.specs.declared.place.Place.{Place}
use Rattle.rayon_machine_places.specs.declared.place.Place.TheVariants.{PopWorking, TakeCastWorking, PopIdle, TakeCastIdle, StealFrom, PopInjected, GetSleepy, FallAsleep, WakeUp, JoinPop, JoinTakeCast, YieldPop, YieldTakeCast, YieldSteal, YieldPopInjected, LocalPop}
use Rattle.rayon_machine_places.specs.declared.place.Place.TheVariants.{LocalTakeCast, BeginTask, GrowCall, TakeResult, LowerCount, StoreResult, SetLatch, SetLockLatch, TakeFromFifo, AddToFifo, PushToken, PushJob, BeginHere, PushForAll, LowerForAll, GrowScope, StoreBody}
use Rattle.rayon_machine_places.specs.declared.place.Place.TheVariants.{GrowCast, DealPieces, StorePiece}
use Rattle.rayon_machine_places.specs.declared.act.Seen.{Seen}
use Rattle.rayon_machine_places.specs.declared.act.Seen.TheVariants.{Yes, No, Task, Missing, Begun, Found, Handed}
use Rattle.rayon_machine_runs.specs.declared.state.Letter.{Letter}
use Rattle.rayon_machine_runs.specs.declared.state.Letter.TheVariants.{Sleeping, Set as IsSet}
use Rattle.rayon_machine_places.specs.declared.place.OpenCall.{OpenCall}
use Rattle.rayon_machine_places.specs.declared.place.Settling.{Settling}
use Rattle.rayon_machine_places.specs.Places.{latch_of, act_of, next_of, taken_number, plan_job, plan_pool, is_member, plan_book, count_book}
use Rattle.rayon_machine_runs.specs.World.{Shape, Stack, World, Part, head_of, own_of, target_job, Outcome, letter, with_letter, set_latch, found, popped, take_cast, pop_injector, lowered, effect, is_open, but_last, at_job, count_in, put_body}
use Rattle.rayon_machine_places.specs.Sleepers.{Counts}
use Rattle.rayon_machine_places.specs.Targets.{or_none, taken_as}
use Rattle.rayon_machine_runs.specs.World.{same_list, put_list, all_lowered, pool_less, call_less, put_piece, with_piece, told}
use Rattle.rayon_machine_runs.specs.Steps.{put, part_of, after}
use Rattle.rayon_machine_laws.proofs.Acts.{Cell, CallLetter, SeatLetter, writes_at, keeps}
use Rattle.rayon_machine_laws.proofs.Frame.{either, if_some_all, if_some_map, put_same, after_kind, after_pool, out_sees, undo_sees, if_cond, after_bound, book_sees, same_list_true}
use Rattle.rayon_machine_laws.proofs.Hands.{held}
use Rattle.rayon_machine_laws.specs.Once.{one, times}
use Rattle.rayon_machine_laws.proofs.Lists.{SameJobs, quiet_same, times_push, times_drop}
use Rattle.rayon_machine_laws.proofs.Located.{loc_of, loc_at, is_loc, is_left, IsOnward, onward_left, Hand, Line}
use Rattle.rayon_machine_laws.proofs.Placed.{Kept, same_number}
use Rattle.rayon_machine_laws.proofs.PlacedRuns.{JobsHold}
use Rattle.rayon_machine_laws.proofs.Later.{Later, Static}
use Rattle.rayon_machine_laws.proofs.Letters.{sleepy_keeps, asleep_keeps, wake_keeps}
use Rattle.rayon_machine_runs.specs.declared.state.Job.{Job}
use Rattle.rayon_machine_places.specs.declared.place.JobKind.{JobKind}
use Rattle.rayon_machine_places.specs.declared.place.Taken.{Taken}
use Rattle.rayon_machine_runs.specs.declared.state.Whereabouts.TheVariants.{Running}
use Rattle.rayon_machine_places.specs.declared.place.JobKind.TheVariants.{TokenOf}

-- what an act keeps of a world's fixed things
pub record Lasting (w u : World) : Type 0 where
  pub later : Later w u
  pub kinds : (t : ℕ) → (u.job t).kind ≡ (w.job t).kind
  pub targets : (c : ℕ) → (u.call c).job ≡ (w.call c).job

pub lasting : (w : World) (q : Party) (k : Stack) (p i c n : ℕ) (r : Seen × Part) → Static (part_of w p i c n) r → Kept w (after w q k p i c n r) → Lasting w (after w q k p i c n r)
lasting w q k p i c n r s o = record {
  later = record {
    jobs = omega arith;
    calls = omega arith;
    over = λ t e z. subst (λ v. IsOnward v ((after w q k p i c n r).job t).at) z (o.onward t);
    left = λ t z. onward_left ((w.job t).at) (((after w q k p i c n r).job t).at) (o.onward t) z;
    kind = λ t b. kinds t;
    pool = λ t b. after_pool q (next_of (w.shape.pool p) q k.top (r.0)) (put w.job n (r.1.job)) t ∙ put_same (λ j. j.pool) w.job n (r.1.job) t (s.pool);
    bound = λ t b. after_bound q (next_of (w.shape.pool p) q k.top (r.0)) (put w.job n (r.1.job)) t ∙ put_same (λ j. j.bound) w.job n (r.1.job) t (s.bound);
    target = λ d b. targets d;
    side = λ d b. put_same (λ j. j.first) w.call c (r.1.call) d (s.side);
    ended = λ a z. ends a (a == p) refl z;
    spent = λ d b z. spents d (d == c) refl z;
    given = λ a z. put_same (λ j. j.held) w.pool p (r.1.pool) a (s.held) ∙ z;
    shape = refl;
    gone = λ t z. subst (λ v. IsOnward v ((after w q k p i c n r).job t).at) z (o.onward t);
  };
  kinds = kinds;
  targets = targets;
}
  where
    kinds : (t : ℕ) → ((after w q k p i c n r).job t).kind ≡ (w.job t).kind
    kinds t = after_kind q (next_of (w.shape.pool p) q k.top (r.0)) (put w.job n (r.1.job)) t ∙ put_same (λ j. j.kind) w.job n (r.1.job) t (s.kind)

    targets : (d : ℕ) → ((after w q k p i c n r).call d).job ≡ (w.call d).job
    targets d = put_same (λ j. j.job) w.call c (r.1.call) d (s.target)

    spents : (d : ℕ) (z : Bool) → (d == c) ≡ z → (w.call d).count ≡ 0 → (if z then r.1.call else w.call d).count ≡ 0
    spents d true z e = s.spent (ap (λ b. (w.call b).count) (sym (eqb-true d c z)) ∙ e)
    spents d false z e = e

    ends : (a : ℕ) (z : Bool) → (a == p) ≡ z → (w.pool a).count ≡ 0 → (if z then r.1.pool else w.pool a).count ≡ 0
    ends a true z e = s.ended (ap (λ b. (w.pool b).count) (sym (eqb-true a p z)) ∙ e)
    ends a false z e = e

-- what an act's answer tells of its part. Of a task: that it is the job that is touched, and is taken
-- a token's record says whose it is
abbrev pub KindOf : Job → Taken → Type 0
KindOf j (Plain t) = ⊤
KindOf j (Token k i b8) = j.kind ≡ TokenOf i b8

kind_of : (t : ℕ) (d : JobKind) (j : Job) → j.kind ≡ d → KindOf j (taken_as t d)
kind_of t (TokenOf i b8) j e = e
kind_of t _ j e = tt

abbrev pub Took : Shape → Party → Part → Place → Taken → Part → Type 0
Took h q m x t n = (target_job h q (act_of q x) m.pool m.seat ≡ taken_number t) × (is_left n.job.at ≡ true) × KindOf n.job t

abbrev pub Learned : Shape → Party → Part → Place → Seen × Part → Type 0
Learned h q m (PopWorking k) (Task t, n) = Took h q m (PopWorking k) t n
Learned h q m (TakeCastWorking k) (Task t, n) = Took h q m (TakeCastWorking k) t n
Learned h q m (PopIdle k) (Task t, n) = Took h q m (PopIdle k) t n
Learned h q m (TakeCastIdle k) (Task t, n) = Took h q m (TakeCastIdle k) t n
Learned h q m (StealFrom k v) (Task t, n) = Took h q m (StealFrom k v) t n
Learned h q m (PopInjected k) (Task t, n) = Took h q m (PopInjected k) t n
Learned h q m (JoinPop o) (Task t, n) = Took h q m (JoinPop o) t n
Learned h q m (JoinTakeCast o) (Task t, n) = Took h q m (JoinTakeCast o) t n
Learned h q m YieldPop (Task t, n) = Took h q m YieldPop t n
Learned h q m YieldTakeCast (Task t, n) = Took h q m YieldTakeCast t n
Learned h q m (YieldSteal v j) (Task t, n) = Took h q m (YieldSteal v j) t n
Learned h q m YieldPopInjected (Task t, n) = Took h q m YieldPopInjected t n
Learned h q m LocalPop (Task t, n) = Took h q m LocalPop t n
Learned h q m LocalTakeCast (Task t, n) = Took h q m LocalTakeCast t n
Learned h q m (TakeResult o f) (Found e, n) = (d : Ending) × ((m.call.cell ≡ Some d) × (e ≡ told m.call.fault d))
Learned h q m (LowerCount p s k) (Yes, n) = count_in n p ≡ 0
Learned h q m (LowerForAll b) (Yes, n) = count_in n b.count ≡ 0
Learned h q m (BeginTask (Plain t)) (Begun k, n) = m.job.kind ≡ k
Learned h q m (BeginTask (Token k i b8)) (Handed t d, n) = (target_job h q (FifoOut k i b8) m.pool m.seat ≡ t) × (1 ≤ times t (m.seat.fifo b8)) × (m.job.kind ≡ d)
Learned h q m (TakeFromFifo f) (Task x, n) = (target_job h q (FifoUndo (count_book f.count)) m.pool m.seat ≡ taken_number x) × (1 ≤ times (taken_number x) (m.seat.fifo (count_book f.count)))
Learned h q m _ _ = ⊤

take_learned : (h : Shape) (q : Party) (m : Part) (o : OpenCall) (f : Option Ending) (x : Option Ending) → m.call.cell ≡ x → IfSome (found m x) (Learned h q m (TakeResult o f))
take_learned h q m o f None e = tt
take_learned h q m o f (Some d) e = (d, (e, refl))

lower_learned : (h : Shape) (q : Party) (m : Part) (p : Count) (s : Share) (k : Then) → Learned h q m (LowerCount p s k) ((if count_in m p == 1 then Yes else No), lowered m p s)
lower_learned h q m p s k = by p (count_in m p == 1) refl
  where
    zero_left : (j : Count) → count_in m j ≡ 1 → count_in (lowered m j s) j ≡ 0
    zero_left (OfPool r) e = let n : m.pool.count ≡ 1 = e in let g : m.pool.count - 1 ≡ 0 = omega (arith, n) in g
    zero_left (OfCast c o) e = let n : m.call.count ≡ 1 = e in let g : m.call.count - 1 ≡ 0 = omega (arith, n) in g
    zero_left (OfScope c o) e = let n : m.call.count ≡ 1 = e in let g : m.call.count - 1 ≡ 0 = omega (arith, n) in g

    by : (j : Count) (z : Bool) → (count_in m j == 1) ≡ z → Learned h q m (LowerCount j s k) ((if z then Yes else No), lowered m j s)
    by j true e = zero_left j (eqb-true (count_in m j) 1 e)
    by j false e = tt

lower_all_learned : (h : Shape) (q : Party) (m : Part) (b : Pieces) → Learned h q m (LowerForAll b) ((if count_in m b.count == b.workers then Yes else No), all_lowered m b)
lower_all_learned h q m b = by (count_in m b.count == b.workers) refl
  where
    zero : (n k : ℕ) → n ≡ k → n - k ≡ 0
    zero n k e = omega (arith, e)

    left : (j : Count) → b.count ≡ j → count_in m j ≡ b.workers → count_in (all_lowered m b) j ≡ 0
    left (OfPool p) k e = ap (λ v. pool_less v b.workers m.pool.count) k ∙ zero (m.pool.count) b.workers e
    left (OfScope c o) k e = ap (λ v. call_less v b.workers m.call.count) k ∙ zero (m.call.count) b.workers e
    left (OfCast c o) k e = ap (λ v. call_less v b.workers m.call.count) k ∙ zero (m.call.count) b.workers e

    by : (z : Bool) → (count_in m b.count == b.workers) ≡ z → Learned h q m (LowerForAll b) ((if z then Yes else No), all_lowered m b)
    by true e = left b.count refl (eqb-true (count_in m b.count) b.workers e)
    by false e = tt

-- what the three kinds of takes tell
abbrev pub TookIt : ℕ → Seen × Part → Type 0
TookIt n (Task t, m) = (n ≡ taken_number t) × (is_left m.job.at ≡ true) × KindOf m.job t
TookIt n _ = ⊤

pop_took : (q : Party) (m : Part) (rest : List ℕ) (o : Option ℕ) → IfSome (popped q m rest o) (TookIt (or_none o))
pop_took q m rest None = tt
pop_took q m rest (Some t) = (sym (same_number t (m.job.kind)), refl, kind_of t (m.job.kind) (at_job (m.job) (Running q)) refl)

cast_took : (q : Party) (m : Part) (l : List ℕ) → IfSome (take_cast q m l) (TookIt (or_none (head_of l)))
cast_took q m [] = tt
cast_took q m (t ∷ ts) = (sym (same_number t (m.job.kind)), refl, kind_of t (m.job.kind) (at_job (m.job) (Running q)) refl)

inj_took : (q : Party) (m : Part) (l : List ℕ) → IfSome (pop_injector q m l) (TookIt (or_none (head_of l)))
inj_took q m [] = tt
inj_took q m (t ∷ ts) = (sym (same_number t (m.job.kind)), refl, kind_of t (m.job.kind) (at_job (m.job) (Running q)) refl)

-- a place whose act is a take
abbrev pub is_take : Place → Bool
is_take (PopWorking k) = true
is_take (TakeCastWorking k) = true
is_take (PopIdle k) = true
is_take (TakeCastIdle k) = true
is_take (StealFrom k v) = true
is_take (PopInjected k) = true
is_take (JoinPop o) = true
is_take (JoinTakeCast o) = true
is_take YieldPop = true
is_take YieldTakeCast = true
is_take (YieldSteal v j) = true
is_take YieldPopInjected = true
is_take LocalPop = true
is_take LocalTakeCast = true
is_take _ = false

as_learned : (h : Shape) (q : Party) (m : Part) (x : Place) (n : ℕ) → is_take x ≡ true → target_job h q (act_of q x) m.pool m.seat ≡ n → (r : Seen × Part) → TookIt n r → Learned h q m x r
as_learned h q m (PopWorking w) n z e (Task t, j) k = (e ∙ k.0, k.1, k.2)
as_learned h q m (PopWorking w) n z e (_, j) k = tt
as_learned h q m (TakeCastWorking w) n z e (Task t, j) k = (e ∙ k.0, k.1, k.2)
as_learned h q m (TakeCastWorking w) n z e (_, j) k = tt
as_learned h q m (PopIdle w) n z e (Task t, j) k = (e ∙ k.0, k.1, k.2)
as_learned h q m (PopIdle w) n z e (_, j) k = tt
as_learned h q m (TakeCastIdle w) n z e (Task t, j) k = (e ∙ k.0, k.1, k.2)
as_learned h q m (TakeCastIdle w) n z e (_, j) k = tt
as_learned h q m (StealFrom w v) n z e (Task t, j) k = (e ∙ k.0, k.1, k.2)
as_learned h q m (StealFrom w v) n z e (_, j) k = tt
as_learned h q m (PopInjected w) n z e (Task t, j) k = (e ∙ k.0, k.1, k.2)
as_learned h q m (PopInjected w) n z e (_, j) k = tt
as_learned h q m (JoinPop o) n z e (Task t, j) k = (e ∙ k.0, k.1, k.2)
as_learned h q m (JoinPop o) n z e (_, j) k = tt
as_learned h q m (JoinTakeCast o) n z e (Task t, j) k = (e ∙ k.0, k.1, k.2)
as_learned h q m (JoinTakeCast o) n z e (_, j) k = tt
as_learned h q m YieldPop n z e (Task t, j) k = (e ∙ k.0, k.1, k.2)
as_learned h q m YieldPop n z e (_, j) k = tt
as_learned h q m YieldTakeCast n z e (Task t, j) k = (e ∙ k.0, k.1, k.2)
as_learned h q m YieldTakeCast n z e (_, j) k = tt
as_learned h q m (YieldSteal v i) n z e (Task t, j) k = (e ∙ k.0, k.1, k.2)
as_learned h q m (YieldSteal v i) n z e (_, j) k = tt
as_learned h q m YieldPopInjected n z e (Task t, j) k = (e ∙ k.0, k.1, k.2)
as_learned h q m YieldPopInjected n z e (_, j) k = tt
as_learned h q m LocalPop n z e (Task t, j) k = (e ∙ k.0, k.1, k.2)
as_learned h q m LocalPop n z e (_, j) k = tt
as_learned h q m LocalTakeCast n z e (Task t, j) k = (e ∙ k.0, k.1, k.2)
as_learned h q m LocalTakeCast n z e (_, j) k = tt
as_learned h q m _ n z e r k = cc

pub act_learned : (h : Shape) (q : Party) (c : Counts) (m : Part) (x : Place) → IfSome (effect (act_of q x) h q c m) (Learned h q m x)
act_learned h (Worker a b) c m (PopWorking k) = if_some_map (TookIt (or_none (own_of ((h.pool a).order) m.seat.own))) (Learned h (Worker a b) m (PopWorking k)) (λ r tk. as_learned h (Worker a b) m (PopWorking k) (or_none (own_of ((h.pool a).order) m.seat.own)) refl refl r tk) _
    (pop_took (Worker a b) m _ (own_of ((h.pool a).order) m.seat.own))
act_learned h (Worker a b) c m (PopIdle k) = if_some_map (TookIt (or_none (own_of ((h.pool a).order) m.seat.own))) (Learned h (Worker a b) m (PopIdle k)) (λ r tk. as_learned h (Worker a b) m (PopIdle k) (or_none (own_of ((h.pool a).order) m.seat.own)) refl refl r tk) _
    (pop_took (Worker a b) m _ (own_of ((h.pool a).order) m.seat.own))
act_learned h (Worker a b) c m (JoinPop o) = if_some_map (TookIt (or_none (own_of ((h.pool a).order) m.seat.own))) (Learned h (Worker a b) m (JoinPop o)) (λ r tk. as_learned h (Worker a b) m (JoinPop o) (or_none (own_of ((h.pool a).order) m.seat.own)) refl refl r tk) _
    (pop_took (Worker a b) m _ (own_of ((h.pool a).order) m.seat.own))
act_learned h (Worker a b) c m YieldPop = if_some_map (TookIt (or_none (own_of ((h.pool a).order) m.seat.own))) (Learned h (Worker a b) m YieldPop) (λ r tk. as_learned h (Worker a b) m YieldPop (or_none (own_of ((h.pool a).order) m.seat.own)) refl refl r tk) _
    (pop_took (Worker a b) m _ (own_of ((h.pool a).order) m.seat.own))
act_learned h (Worker a b) c m LocalPop = if_some_map (TookIt (or_none (own_of ((h.pool a).order) m.seat.own))) (Learned h (Worker a b) m LocalPop) (λ r tk. as_learned h (Worker a b) m LocalPop (or_none (own_of ((h.pool a).order) m.seat.own)) refl refl r tk) _
    (pop_took (Worker a b) m _ (own_of ((h.pool a).order) m.seat.own))
act_learned h (Worker a b) c m (StealFrom k n) = if_some_map (TookIt (or_none (head_of m.seat.own))) (Learned h (Worker a b) m (StealFrom k n)) (λ r tk. as_learned h (Worker a b) m (StealFrom k n) (or_none (head_of m.seat.own)) refl refl r tk) _ (pop_took (Worker a b) m _ (head_of m.seat.own))
act_learned h (Worker a b) c m (YieldSteal v n) = if_some_map (TookIt (or_none (head_of m.seat.own))) (Learned h (Worker a b) m (YieldSteal v n)) (λ r tk. as_learned h (Worker a b) m (YieldSteal v n) (or_none (head_of m.seat.own)) refl refl r tk) _ (pop_took (Worker a b) m _ (head_of m.seat.own))
act_learned h (Worker a b) c m (PopInjected k) = if_some_map (TookIt (or_none (head_of m.pool.injector))) (Learned h (Worker a b) m (PopInjected k)) (λ r tk. as_learned h (Worker a b) m (PopInjected k) (or_none (head_of m.pool.injector)) refl refl r tk) _ (inj_took (Worker a b) m m.pool.injector)
act_learned h (Worker a b) c m YieldPopInjected = if_some_map (TookIt (or_none (head_of m.pool.injector))) (Learned h (Worker a b) m YieldPopInjected) (λ r tk. as_learned h (Worker a b) m YieldPopInjected (or_none (head_of m.pool.injector)) refl refl r tk) _ (inj_took (Worker a b) m m.pool.injector)
act_learned h (Worker a b) c m (TakeCastWorking k) = if_some_map (TookIt (or_none (head_of (m.pool.casts b)))) (Learned h (Worker a b) m (TakeCastWorking k)) (λ r tk. as_learned h (Worker a b) m (TakeCastWorking k) (or_none (head_of (m.pool.casts b))) refl refl r tk) _
    (cast_took (Worker a b) m (m.pool.casts b))
act_learned h (Worker a b) c m (TakeCastIdle k) = if_some_map (TookIt (or_none (head_of (m.pool.casts b)))) (Learned h (Worker a b) m (TakeCastIdle k)) (λ r tk. as_learned h (Worker a b) m (TakeCastIdle k) (or_none (head_of (m.pool.casts b))) refl refl r tk) _
    (cast_took (Worker a b) m (m.pool.casts b))
act_learned h (Worker a b) c m (JoinTakeCast o) = if_some_map (TookIt (or_none (head_of (m.pool.casts b)))) (Learned h (Worker a b) m (JoinTakeCast o)) (λ r tk. as_learned h (Worker a b) m (JoinTakeCast o) (or_none (head_of (m.pool.casts b))) refl refl r tk) _
    (cast_took (Worker a b) m (m.pool.casts b))
act_learned h (Worker a b) c m YieldTakeCast = if_some_map (TookIt (or_none (head_of (m.pool.casts b)))) (Learned h (Worker a b) m YieldTakeCast) (λ r tk. as_learned h (Worker a b) m YieldTakeCast (or_none (head_of (m.pool.casts b))) refl refl r tk) _ (cast_took (Worker a b) m (m.pool.casts b))
act_learned h (Worker a b) c m LocalTakeCast = if_some_map (TookIt (or_none (head_of (m.pool.casts b)))) (Learned h (Worker a b) m LocalTakeCast) (λ r tk. as_learned h (Worker a b) m LocalTakeCast (or_none (head_of (m.pool.casts b))) refl refl r tk) _ (cast_took (Worker a b) m (m.pool.casts b))
act_learned h (Worker a b) c m (TakeResult o f) = take_learned h (Worker a b) m o f m.call.cell refl
act_learned h (Worker a b) c m (LowerCount p s k) = lower_learned h (Worker a b) m p s k
act_learned h (Worker a b) c m (LowerForAll n) = lower_all_learned h (Worker a b) m n
act_learned h (Worker a b) c m (BeginTask (Plain t)) = refl
act_learned h (Worker a b) c m (BeginTask (Token k i b8)) = out_sees (Learned h (Worker a b) m (BeginTask (Token k i b8))) (Worker a b) m b8 tt
    (λ u us e. (ap (λ l. or_none (head_of l)) e, (let a : times u (m.seat.fifo b8) ≡ (one (u == u) + times u us) = ap (times u) e in let b : one (u == u) ≡ 1 = ap one (eq-eqb u u refl) in omega (arith, a, b)), refl))
act_learned h (Worker a b) c m (TakeFromFifo f) = undo_sees (Learned h (Worker a b) m (TakeFromFifo f)) (Worker a b) m (count_book f.count) tt
    (λ u e. (ap or_none e, (let a : times u (m.seat.fifo (count_book f.count)) ≡ (one (u == u) + times u (but_last (m.seat.fifo (count_book f.count)))) = times_drop (m.seat.fifo (count_book f.count)) u u e in let b : one (u == u) ≡ 1 = ap one (eq-eqb u u refl) in omega (arith, a, b))))
act_learned h (Worker a b) c m x = if_some_all (Learned h (Worker a b) m x) (λ r. tt) (effect (act_of (Worker a b) x) h (Worker a b) c m)
act_learned h (Caller g) c m (TakeResult o f) = take_learned h (Caller g) m o f m.call.cell refl
act_learned h (Caller g) c m (LowerCount p s k) = lower_learned h (Caller g) m p s k
act_learned h (Caller g) c m (LowerForAll n) = lower_all_learned h (Caller g) m n
act_learned h (Caller g) c m (BeginTask (Plain t)) = refl
act_learned h (Caller g) c m (BeginTask (Token k i b8)) = out_sees (Learned h (Caller g) m (BeginTask (Token k i b8))) (Caller g) m b8 tt
    (λ u us e. (ap (λ l. or_none (head_of l)) e, (let a : times u (m.seat.fifo b8) ≡ (one (u == u) + times u us) = ap (times u) e in let b : one (u == u) ≡ 1 = ap one (eq-eqb u u refl) in omega (arith, a, b)), refl))
act_learned h (Caller g) c m (PopWorking w) = tt
act_learned h (Caller g) c m (TakeCastWorking w) = tt
act_learned h (Caller g) c m (PopIdle w) = tt
act_learned h (Caller g) c m (TakeCastIdle w) = tt
act_learned h (Caller g) c m (StealFrom w v) = tt
act_learned h (Caller g) c m (PopInjected w) = tt
act_learned h (Caller g) c m (JoinPop o) = tt
act_learned h (Caller g) c m (JoinTakeCast o) = tt
act_learned h (Caller g) c m YieldPop = tt
act_learned h (Caller g) c m YieldTakeCast = tt
act_learned h (Caller g) c m (YieldSteal v i) = tt
act_learned h (Caller g) c m YieldPopInjected = tt
act_learned h (Caller g) c m LocalPop = tt
act_learned h (Caller g) c m LocalTakeCast = tt
act_learned h (Caller g) c m (TakeFromFifo f) = tt
act_learned h (Caller g) c m x = if_some_all (Learned h (Caller g) m x) (λ r. tt) (effect (act_of (Caller g) x) h (Caller g) c m)

-- a job that a party has in hand was made
pub made_held : (w : World) → JobsHold w → (q : Party) (t : ℕ) → 1 ≤ held t (w.stack q) → t + 1 ≤ w.jobs
made_held w h q t b = elim (either (ltb t w.jobs)) [ inl y ↦ (let z : t < w.jobs = ltb-true t w.jobs y in omega (arith, z)) | inr n ↦ absurd (none (ltb-false t w.jobs n)) ]
  where
    none : w.jobs ≤ t → ⊥
    none z = let a : held t (w.stack q) ≡ is_loc (Hand q) (loc_at (w.job t)) = ((h.ok).placed) (Hand q) t in
        let e : is_loc (Hand q) (loc_at (w.job t)) ≡ 0 = ap (λ v. is_loc (Hand q) (loc_of v ((w.job t).runs))) ((h.unmade) t z) in omega (arith, a, e, b)

-- what comes to a FIFO list
abbrev pub lined : Option ℕ → ℕ → Place → ℕ
lined b t (AddToFifo f) = one (same_list b (count_book f.count) && (t == f.job))
lined b t _ = 0

-- no act brings more to one
abbrev pub Lines : Part → Option ℕ → ℕ → Place → Seen × Part → Type 0
Lines m b t x r = times t (r.1.seat.fifo b) ≤ times t (m.seat.fifo b) + lined b t x

pop_lined : (q : Party) (m : Part) (v : Option ℕ) (t : ℕ) (rest : List ℕ) (o : Option ℕ) → IfSome (popped q m rest o) (λ r. times t (r.1.seat.fifo v) ≤ times t (m.seat.fifo v) + 0)
pop_lined q m v t rest None = omega arith
pop_lined q m v t rest (Some u) = omega arith

inj_lined : (q : Party) (m : Part) (v : Option ℕ) (t : ℕ) (l : List ℕ) → IfSome (pop_injector q m l) (λ r. times t (r.1.seat.fifo v) ≤ times t (m.seat.fifo v) + 0)
inj_lined q m v t [] = omega arith
inj_lined q m v t (u ∷ us) = omega arith

cast_lined : (q : Party) (m : Part) (v : Option ℕ) (t : ℕ) (l : List ℕ) → IfSome (take_cast q m l) (λ r. times t (r.1.seat.fifo v) ≤ times t (m.seat.fifo v) + 0)
cast_lined q m v t [] = omega arith
cast_lined q m v t (u ∷ us) = omega arith

push_lined : (h : Shape) (q : Party) (c : Counts) (m : Part) (v : Option ℕ) (t u p : ℕ) (k : Option ℕ) (z : Bool) → IfSome (effect (if z then PushOwn u k else PushInj p u k) h q c m) (λ r. times t (r.1.seat.fifo v) ≤ times t (m.seat.fifo v) + 0)
push_lined h q c m v t u p k true = omega arith
push_lined h q c m v t u p k false = omega arith

line_more : (f : Option ℕ → List ℕ) (b v : Option ℕ) (t u : ℕ) → times t (put_list f b (f b ++ u ∷ []) v) ≤ times t (f v) + one (same_list v b && (t == u))
line_more f b v t u = by (same_list v b) refl
  where
    by : (z : Bool) → same_list v b ≡ z → times t (if z then f b ++ u ∷ [] else f v) ≤ times t (f v) + one (z && (t == u))
    by true z = let a : times t (f v) ≡ times t (f b) = ap (λ l. times t (f l)) (same_list_true v b z) in let k : times t (f b ++ u ∷ []) ≡ (times t (f b) + one (t == u)) = times_push (f b) t u in omega (arith, a, k)
    by false z = omega arith

line_less : (f : Option ℕ → List ℕ) (b : Option ℕ) (l : List ℕ) (v : Option ℕ) (t : ℕ) → times t l ≤ times t (f b) → times t (put_list f b l v) ≤ times t (f v) + 0
line_less f b l v t e = by (same_list v b) refl
  where
    by : (z : Bool) → same_list v b ≡ z → times t (if z then l else f v) ≤ times t (f v) + 0
    by true z = let a : times t (f v) ≡ times t (f b) = ap (λ n. times t (f n)) (same_list_true v b z) in omega (arith, a, e)
    by false z = omega arith

pub line_table : (h : Shape) (q : Party) (c : Counts) (m : Part) (v : Option ℕ) (t : ℕ) (x : Place) → IfSome (effect (act_of q x) h q c m) (Lines m v t x)
line_table h (Worker a b) c m v t (PopWorking k) = pop_lined (Worker a b) m v t _ _
line_table h (Caller n) c m v t (PopWorking k) = tt
line_table h (Worker a b) c m v t (PopIdle k) = pop_lined (Worker a b) m v t _ _
line_table h (Caller n) c m v t (PopIdle k) = tt
line_table h (Worker a b) c m v t (JoinPop o) = pop_lined (Worker a b) m v t _ _
line_table h (Caller n) c m v t (JoinPop o) = tt
line_table h (Worker a b) c m v t YieldPop = pop_lined (Worker a b) m v t _ _
line_table h (Caller n) c m v t YieldPop = tt
line_table h (Worker a b) c m v t LocalPop = pop_lined (Worker a b) m v t _ _
line_table h (Caller n) c m v t LocalPop = tt
line_table h (Worker a b) c m v t (StealFrom k n) = pop_lined (Worker a b) m v t _ _
line_table h (Caller g) c m v t (StealFrom k n) = tt
line_table h (Worker a b) c m v t (YieldSteal k n) = pop_lined (Worker a b) m v t _ _
line_table h (Caller g) c m v t (YieldSteal k n) = tt
line_table h (Worker a b) c m v t (PopInjected k) = inj_lined (Worker a b) m v t m.pool.injector
line_table h (Caller n) c m v t (PopInjected k) = tt
line_table h (Worker a b) c m v t YieldPopInjected = inj_lined (Worker a b) m v t m.pool.injector
line_table h (Caller n) c m v t YieldPopInjected = tt
line_table h (Worker a b) c m v t (TakeCastWorking k) = cast_lined (Worker a b) m v t (m.pool.casts b)
line_table h (Caller n) c m v t (TakeCastWorking k) = tt
line_table h (Worker a b) c m v t (TakeCastIdle k) = cast_lined (Worker a b) m v t (m.pool.casts b)
line_table h (Caller n) c m v t (TakeCastIdle k) = tt
line_table h (Worker a b) c m v t (JoinTakeCast o) = cast_lined (Worker a b) m v t (m.pool.casts b)
line_table h (Caller n) c m v t (JoinTakeCast o) = tt
line_table h (Worker a b) c m v t YieldTakeCast = cast_lined (Worker a b) m v t (m.pool.casts b)
line_table h (Caller n) c m v t YieldTakeCast = tt
line_table h (Worker a b) c m v t LocalTakeCast = cast_lined (Worker a b) m v t (m.pool.casts b)
line_table h (Caller n) c m v t LocalTakeCast = tt
line_table h (Worker a b) c m v t (PushJob n v9) = push_lined h (Worker a b) c m v t (plan_job n) (plan_pool n) (plan_book n) (is_member (Worker a b) (plan_pool n))
line_table h (Caller g) c m v t (PushJob n v9) = push_lined h (Caller g) c m v t (plan_job n) (plan_pool n) (plan_book n) (is_member (Caller g) (plan_pool n))
line_table h (Worker a b) c m v t (PushToken f v9) = omega arith
line_table h (Caller g) c m v t (PushToken f v9) = tt
line_table h (Worker a b) c m v t (AddToFifo f) = if_cond (Lines m v t (AddToFifo f)) (is_open (Worker a b) (m.seat.feeder (count_book f.count))) _ (λ z. line_more m.seat.fifo (count_book f.count) v t f.job)
line_table h (Caller g) c m v t (AddToFifo f) = tt
line_table h (Worker a b) c m v t (TakeFromFifo f) = undo_sees (Lines m v t (TakeFromFifo f)) (Worker a b) m (count_book f.count) (omega arith)
    (λ u e. let k : times t (m.seat.fifo (count_book f.count)) ≡ (one (t == u) + times t (but_last (m.seat.fifo (count_book f.count)))) = times_drop (m.seat.fifo (count_book f.count)) t u e in
    line_less m.seat.fifo (count_book f.count) (but_last (m.seat.fifo (count_book f.count))) v t (omega (arith, k)))
line_table h (Caller g) c m v t (TakeFromFifo f) = tt
line_table h q c m v t (BeginTask (Plain u)) = omega arith
line_table h q c m v t (BeginTask (Token k i b8)) = out_sees (Lines m v t (BeginTask (Token k i b8))) q m b8 (omega arith) (λ u us e. let k : times t (m.seat.fifo b8) ≡ (one (t == u) + times t us) = ap (times t) e in line_less m.seat.fifo b8 us v t (omega (arith, k)))
line_table h q c m v t (BeginHere u) = omega arith
line_table h q c m v t (PushForAll b) = omega arith
line_table h q c m v t (DealPieces b) = omega arith
line_table h q c m v t x = if_some_map (SameJobs m) (Lines m v t x) (λ r s. let k : times t (r.1.seat.fifo v) ≡ times t (m.seat.fifo v) = ap (λ f. times t (f v)) (s.fifo) in omega (arith, k)) (effect (act_of q x) h q c m) (quiet_same h q c m x refl)

-- a job in a FIFO list was made
pub made_lined : (w : World) → JobsHold w → (p i : ℕ) (b7 : Option ℕ) (t : ℕ) → 1 ≤ times t ((w.seat p i).fifo b7) → t + 1 ≤ w.jobs
made_lined w h p i b7 t b = elim (either (ltb t w.jobs)) [ inl y ↦ (let z : t < w.jobs = ltb-true t w.jobs y in omega (arith, z)) | inr n ↦ absurd (none (ltb-false t w.jobs n)) ]
  where
    none : w.jobs ≤ t → ⊥
    none z = let a : times t ((w.seat p i).fifo b7) ≡ is_loc (Line p i b7) (loc_at (w.job t)) = ((h.ok).placed) (Line p i b7) t in
        let e : is_loc (Line p i b7) (loc_at (w.job t)) ≡ 0 = ap (λ v. is_loc (Line p i b7) (loc_of v ((w.job t).runs))) ((h.unmade) t z) in omega (arith, a, e, b)

-- the acts that write a cell or set a latch
abbrev pub stores : Place → Option Ending
stores (StoreResult c o e) = Some e
stores (StoreBody o e) = Some e
stores (StorePiece c o t e) = Some e
stores _ = None

abbrev pub is_call : Latch → Bool
is_call (OfCall c) = true
is_call Terminate = false

abbrev pub sets_call : Place → Bool
sets_call (SetLatch k) = is_call k.latch
sets_call (SetLockLatch c n) = true
sets_call _ = false

abbrev pub sets_seat : Place → Bool
sets_seat (SetLatch k) = not (is_call k.latch)
sets_seat _ = false

pub record Written (m : Part) (x : Place) (r : Seen × Part) : Type 0 where
  pub cell : (e : Ending) → r.1.call.cell ≡ Some e → (m.call.cell ≡ Some e) ⊎ (stores x ≡ Some e)
  pub call : r.1.call.latch ≡ IsSet → (m.call.latch ≡ IsSet) ⊎ (sets_call x ≡ true)
  pub seat : r.1.seat.latch ≡ IsSet → (m.seat.latch ≡ IsSet) ⊎ (sets_seat x ≡ true)

pub record Unwritten (m : Part) (r : Seen × Part) : Type 0 where
  pub cell : r.1.call.cell ≡ m.call.cell
  pub call : r.1.call.latch ≡ m.call.latch
  pub seat : r.1.seat.latch ≡ m.seat.latch

written : (m : Part) (x : Place) (o : Outcome) → IfSome o (Unwritten m) → IfSome o (Written m x)
written m x o u = if_some_map (Unwritten m) (Written m x) (λ r s. record { cell = λ e z. inl (sym (s.cell) ∙ z); call = λ z. inl (sym (s.call) ∙ z); seat = λ z. inl (sym (s.seat) ∙ z) }) o u

-- a latch that is written, but not set
unset_written : (m : Part) (x : Place) (l : Latch) (e : Seen) (y : Letter) → (y ≡ IsSet → ⊥) → Written m x (e, with_letter l m y)
unset_written m x Terminate e y n = record { cell = λ d z. inl z; call = λ z. inl z; seat = λ z. absurd (n z) }
unset_written m x (OfCall c) e y n = record { cell = λ d z. inl z; call = λ z. absurd (n z); seat = λ z. inl z }

same_written : (m : Part) (x : Place) (e : Seen) → Written m x (e, m)
same_written m x e = record { cell = λ d z. inl z; call = λ z. inl z; seat = λ z. inl z }

set_written : (m : Part) (k : Settling) → IfSome (set_latch k.latch m (letter k.latch m)) (Written m (SetLatch k))
set_written m k = by k.latch refl (letter k.latch m)
  where
    one_set : (l : Latch) → k.latch ≡ l → (e : Seen) → Written m (SetLatch k) (e, with_letter l m IsSet)
    one_set Terminate z e = record { cell = λ d y. inl y; call = λ y. inl y; seat = λ y. inr (ap (λ a. not (is_call a)) z) }
    one_set (OfCall c) z e = record { cell = λ d y. inl y; call = λ y. inr (ap is_call z); seat = λ y. inl y }

    by : (l : Latch) → k.latch ≡ l → (x : Letter) → IfSome (set_latch l m x) (Written m (SetLatch k))
    by l z Sleeping = one_set l z Yes
    by l z _ = one_set l z No

found_written : (m : Part) (p : Place) (x : Option Ending) → IfSome (found m x) (Written m p)
found_written m p None = same_written m p Missing
found_written m p (Some d) = record { cell = λ e z. cc; call = λ z. inl z; seat = λ z. inl z }

body_written : (q : Party) (m : Part) (o : OpenCall) (d : Ending) → IfSome (put_body q m d) (Written m (StoreBody o d))
body_written q m o d = book_sees (Written m (StoreBody o d)) q m _ (record { cell = λ e z. inr z; call = λ z. inl z; seat = λ z. inl z })

piece_written : (m : Part) (c : ℕ) (o : Party) (t : ℕ) (d : Ending) (s : Seen) → Written m (StorePiece c o t d) (s, put_piece m t d)
piece_written m c o t d s = record { cell = λ e z. by m.call.cell e refl z; call = λ z. inl z; seat = λ z. inl z }
  where
    by : (x : Option Ending) (e : Ending) → m.call.cell ≡ x → Some (with_piece x d) ≡ Some e → (m.call.cell ≡ Some e) ⊎ (Some d ≡ Some e)
    by None e y z = inr z
    by (Some Fine) e y z = inr z
    by (Some Fault) e y z = inl (y ∙ z)

none_written : (h : Shape) (q : Party) (c : Counts) (m : Part) (x : Place) → writes_at x (Cell ∷ CallLetter ∷ SeatLetter ∷ []) ≡ false → IfSome (effect (act_of q x) h q c m) (Written m x)
none_written h q c m x n = written m x (effect (act_of q x) h q c m) (keeps h q c m Unwritten (Cell ∷ CallLetter ∷ SeatLetter ∷ []) x n (λ r k. record { cell = k.0; call = k.1.0; seat = k.1.1.0 }))

pub act_written : (h : Shape) (q : Party) (c : Counts) (m : Part) (x : Place) → IfSome (effect (act_of q x) h q c m) (Written m x)
act_written h (Worker a b) c m (GetSleepy k) = sleepy_keeps (latch_of k.target) (λ v r. Written v (GetSleepy k) r) (λ v e. same_written v (GetSleepy k) e) (λ v e y n. unset_written v (GetSleepy k) (latch_of k.target) e y n) m (letter (latch_of k.target) m)
act_written h (Worker a b) c m (FallAsleep k) = asleep_keeps (latch_of k.target) (λ v r. Written v (FallAsleep k) r) (λ v e. same_written v (FallAsleep k) e) (λ v e y n. unset_written v (FallAsleep k) (latch_of k.target) e y n) m (letter (latch_of k.target) m)
act_written h (Worker a b) c m (WakeUp k) = wake_keeps (latch_of k.target) (λ v r. Written v (WakeUp k) r) (λ v e. same_written v (WakeUp k) e) (λ v e y n. unset_written v (WakeUp k) (latch_of k.target) e y n) m (letter (latch_of k.target) m)
act_written h (Caller n) c m (GetSleepy k) = tt
act_written h (Caller n) c m (FallAsleep k) = tt
act_written h (Caller n) c m (WakeUp k) = tt
act_written h q c m (SetLatch k) = set_written m k
act_written h q c m (SetLockLatch i n) = record { cell = λ e z. inl z; call = λ z. inr refl; seat = λ z. inl z }
act_written h q c m (StoreResult i o e) = record { cell = λ d z. inr z; call = λ z. inl z; seat = λ z. inl z }
act_written h q c m (TakeResult o f) = found_written m (TakeResult o f) m.call.cell
act_written h q c m (GrowCall n) = record { cell = λ e z. cc; call = λ z. cc; seat = λ z. inl z }
act_written h q c m (GrowCast n) = record { cell = λ e z. cc; call = λ z. cc; seat = λ z. inl z }
act_written h q c m (GrowScope n) = record { cell = λ e z. cc; call = λ z. cc; seat = λ z. inl z }
act_written h q c m (StorePiece i o t d) = piece_written m i o t d _
act_written h q c m (StoreBody o d) = body_written q m o d
act_written h q c m x = none_written h q c m x refl
