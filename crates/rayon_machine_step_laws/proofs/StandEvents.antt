-- where each party can stand, over the events that are no acts and over each step of each run
--
-- This is `StandsHold`, and `always_stands` says it of every world.
use Rattle.std.proofs.Common.{refl, ◌∙◌, sym, ap, subst}
use Rattle.rayon_machine_sleep_laws.proofs.Words.{ℕ, Bool, true, false, not, ◌&&◌, ◌+◌, ◌-◌, ◌==◌, nat_lt, if◌then◌else◌, Some, ◌≡◌, IfSome, List, [], ◌∷◌, Party, Worker, Caller, Ending, Fine, Fault, JobKind, Detached, Stored, Direct, Scoped, BodyOf, PieceOf, WholeOf, TokenOf, Termination, Plan}
use Rattle.rayon_machine_sleep_laws.proofs.Words.{Detach, Here, Send, Fork, Feed, Open, Enter, Gather, Count, OfPool, OfScope, OfCast, PoolValue, Pieces, OpenCall, Wait, Resume, Place, ProbeWorking, PickVictim, StealFrom, PopInjected, YieldPop, YieldPick, YieldSteal, YieldPopInjected, LocalPop}
use Rattle.rayon_machine_sleep_laws.proofs.Words.{Run, RaiseCount, GrowCall, GrowScope, OpenSlot, PushJob, AddToFifo, PushToken, TakeFromFifo, RaiseForAll, OpenForAll, PushForAll, LowerForAll, GrowCast, DealPieces, LowerCount, FirstSide, SecondSide, ScopeBody, AtOnce, Free, Stopped, Stay, Event}
use Rattle.rayon_machine_sleep_laws.proofs.Words.{Go, From, Refuse, Miss, End, Spawn, Fifo, Install, Join, Yield, YieldLocal, EndPool, Cast, OpenScope, IntoSpawn, IntoFifo, IntoCast, Broadcast, Scope, PoolShape, act_of, own_pool, own_index, same_party, is_free, is_member, not_self, next_victim}
use Rattle.rayon_machine_sleep_laws.proofs.Words.{next_steal, next_yield, plan_book, undo, end_cast, goes_on, fresh, Shape, Stack, World, target_pool, target_worker, target_call, put_stack, with_stack, after_move, after_resume, after_close, after_call, after_choice, after_refusal, after_miss}
use Rattle.rayon_machine_sleep_laws.proofs.Words.{after_end, after_spawn, after_feed, after_deal, after_gather, after_broadcast, after_send, after_join, after_scope, after_enter, after_yield, can_miss, holds, is_pool, step, IsRun, start}
use Rattle.rayon_machine_places.specs.Places.{after_push}
use Rattle.rayon_machine_laws.proofs.Frame.{acted_keeps, and_parts, fifo_cases, if_cond, if_some_and, if_some_map, into_cases, into_fifo_cases, into_cast_cases, same_party_true}
use Rattle.rayon_machine_laws.proofs.Ties.{outcome, result, job_at, shape_at}
use Rattle.rayon_machine_laws.proofs.Calm.{counts_seen, part_at, next_at}
use Rattle.rayon_machine_laws.proofs.Posts.{Steers, steers}
use Rattle.rayon_machine_laws.proofs.PostEvents.{Based}
use Rattle.rayon_machine_laws.proofs.Stops.{always_stops, made, run_has}
use Rattle.rayon_machine_step_laws.proofs.Stands.{Frames, Goes, Sound, caller_stands, end_cast_goes, fits, goes, is_aside, is_common, is_loose, move_sound, no_bottom, plan_at, stands, stay_frames, undo_stands, withdraw_stands}

-- a step: one party's stack is another, and is as it can be where it was so
pub record Moved (w u : World) : Type 0 where
  pub party : Party
  pub to : Stack
  pub shape : u.shape ≡ w.shape
  pub stack : (r : Party) → u.stack r ≡ put_stack w.stack party to r
  pub sound : Based (w.stack party) → Sound w.shape.callers party (w.stack party) → Sound w.shape.callers party to

-- from one place to another
turn_at : (w : World) (q : Party) (x y : Place) (fs : List Place) → w.stack q ≡ record { top = x; below = fs } → (stands w.shape.callers q x ≡ true → Goes w.shape.callers q (is_loose x) (Stay y)) → Moved w (with_stack w q (record { top = y; below = fs }))
turn_at w q x y fs z f = record {
  party = q;
  to = record { top = y; below = fs };
  shape = refl;
  stack = λ r. refl;
  sound = λ b s. (let a : Sound w.shape.callers q (record { top = x; below = fs }) = subst (Sound w.shape.callers q) z s in let g : Goes w.shape.callers q (is_loose x) (Stay y) = f (a.0) in (g.0, stay_frames w.shape.callers q (is_loose x) (is_loose y) fs (g.1) (a.1)));
}

-- a worker's place leads to another
worker_goes : (n : ℕ) (q : Party) (x y : Place) → ((c : ℕ) → caller_stands n c x ≡ false) → is_aside y ≡ false → stands n q x ≡ true → Goes n q false (Stay y)
worker_goes n (Worker p i) x y f a e = (ap not a, refl)
worker_goes n (Caller c) x y f a e = absurd (let z : true ≡ false = sym e ∙ f c in cc)

from_moved : (w : World) (q : Party) (x : Place) (fs : List Place) (v : ℕ) → w.stack q ≡ record { top = x; below = fs } → IfSome (after_choice w q (record { top = x; below = fs }) x v) (Moved w)
from_moved w q (PickVictim k) fs v z = if_cond (Moved w) (nat_lt v (w.shape.pool (own_pool q)).workers) _
    (λ b. turn_at w q (PickVictim k) (StealFrom (record k { victim = not_self (w.shape.pool (own_pool q)).workers (own_index q) v }) ((w.shape.pool (own_pool q)).workers - 2)) fs z
    (worker_goes w.shape.callers q (PickVictim k) (StealFrom (record k { victim = not_self (w.shape.pool (own_pool q)).workers (own_index q) v }) ((w.shape.pool (own_pool q)).workers - 2)) (λ c. refl) refl))
from_moved w q YieldPick fs v z = if_cond (Moved w) (nat_lt v (w.shape.pool (own_pool q)).workers) _
    (λ b. turn_at w q YieldPick (YieldSteal (not_self (w.shape.pool (own_pool q)).workers (own_index q) v) ((w.shape.pool (own_pool q)).workers - 2)) fs z
    (worker_goes w.shape.callers q YieldPick (YieldSteal (not_self (w.shape.pool (own_pool q)).workers (own_index q) v) ((w.shape.pool (own_pool q)).workers - 2)) (λ c. refl) refl))
from_moved w q _ fs v z = tt

-- a refused act
add_refused : (n : ℕ) (q : Party) (o : Plan) (x : Place) → ((c : ℕ) → caller_stands n c x ≡ false) → stands n q x ≡ true → Goes n q false (Stay (after_push o))
add_refused n (Worker p i) o x f e = withdraw_stands n (Worker p i) (plan_book o) o refl
add_refused n (Caller c) o x f e = absurd (let z : true ≡ false = sym e ∙ f c in cc)

lowered : (n : ℕ) (q : Party) (c : Pieces) → Goes n q false (Stay (LowerForAll c))
lowered n (Worker p i) c = (refl, refl)
lowered n (Caller a) c = (refl, refl)

refuse_moved : (w : World) (q : Party) (x : Place) (fs : List Place) → w.stack q ≡ record { top = x; below = fs } → IfSome (after_refusal w q (record { top = x; below = fs })) (Moved w)
refuse_moved w q (GrowCall m) fs z = turn_at w q (GrowCall m) (undo m) fs z (λ e. (undo_stands w.shape.callers q m, refl))
refuse_moved w q (GrowScope o) fs z = turn_at w q (GrowScope o) (undo (Open o)) fs z (λ e. (undo_stands w.shape.callers q (Open o), refl))
refuse_moved w q (OpenSlot m) fs z = turn_at w q (OpenSlot m) (undo m) fs z (λ e. (undo_stands w.shape.callers q m, refl))
refuse_moved w q (PushToken f v) fs z = turn_at w q (PushToken f v) (TakeFromFifo f) fs z (worker_goes w.shape.callers q (PushToken f v) (TakeFromFifo f) (λ c. refl) refl)
refuse_moved w q (OpenForAll c) fs z = turn_at w q (OpenForAll c) (LowerForAll c) fs z (λ e. lowered w.shape.callers q c)
refuse_moved w q (GrowCast g) fs z = turn_at w q (GrowCast g) (undo (Gather g)) fs z (λ e. (undo_stands w.shape.callers q (Gather g), refl))
refuse_moved w q (DealPieces g) fs z = turn_at w q (DealPieces g) (undo (Gather g)) fs z (λ e. (undo_stands w.shape.callers q (Gather g), refl))
refuse_moved w q (PushForAll c) fs z = turn_at w q (PushForAll c) (end_cast c.count c) fs z (λ e. end_cast_goes w.shape.callers q c c.count)
refuse_moved w q (AddToFifo f) fs z = turn_at w q (AddToFifo f) (after_push (Feed f)) fs z (add_refused w.shape.callers q (Feed f) (AddToFifo f) (λ c. refl))
refuse_moved w q (PushJob m v) fs z = turn_at w q (PushJob m v) (after_push m) fs z (λ e. withdraw_stands w.shape.callers q (plan_book m) m (plan_at w.shape.callers q (PushJob m v) m (λ c. refl) e))
refuse_moved w q _ fs z = tt

-- a steal that misses
steal_moved : (w : World) (a b : ℕ) (k : Wait) (n : ℕ) (g : PoolShape) (fs : List Place) → w.stack (Worker a b) ≡ record { top = StealFrom k n; below = fs } → Moved w (with_stack w (Worker a b) (record { top = next_steal g (Worker a b) k n; below = fs }))
steal_moved w a b k n g fs z = at (n == 0)
  where
    at : (d : Bool) → Moved w (with_stack w (Worker a b) (record { top = (if d then PopInjected k else StealFrom (record k { victim = not_self g.workers b (next_victim g.workers k.victim) }) (n - 1)); below = fs }))
    at true = turn_at w (Worker a b) (StealFrom k n) (PopInjected k) fs z (λ e. (refl, refl))
    at false = turn_at w (Worker a b) (StealFrom k n) (StealFrom (record k { victim = not_self g.workers b (next_victim g.workers k.victim) }) (n - 1)) fs z (λ e. (refl, refl))

skip_moved : (w : World) (a b v n : ℕ) (g : PoolShape) (fs : List Place) → w.stack (Worker a b) ≡ record { top = YieldSteal v n; below = fs } → Moved w (with_stack w (Worker a b) (record { top = next_yield g (Worker a b) v n; below = fs }))
skip_moved w a b v n g fs z = at (n == 0)
  where
    at : (d : Bool) → Moved w (with_stack w (Worker a b) (record { top = (if d then YieldPopInjected else YieldSteal (not_self g.workers b (next_victim g.workers v)) (n - 1)); below = fs }))
    at true = turn_at w (Worker a b) (YieldSteal v n) YieldPopInjected fs z (λ e. (refl, refl))
    at false = turn_at w (Worker a b) (YieldSteal v n) (YieldSteal (not_self g.workers b (next_victim g.workers v)) (n - 1)) fs z (λ e. (refl, refl))

miss_moved : (w : World) (q : Party) (x : Place) (fs : List Place) → w.stack q ≡ record { top = x; below = fs } → IfSome (after_miss w q (record { top = x; below = fs }) x) (Moved w)
miss_moved w (Worker a b) (StealFrom k n) fs z = if_cond (Moved w) (can_miss w a k.victim) _ (λ y. steal_moved w a b k n (w.shape.pool a) fs z)
miss_moved w (Worker a b) (YieldSteal v n) fs z = if_cond (Moved w) (can_miss w a v) _ (λ y. skip_moved w a b v n (w.shape.pool a) fs z)
miss_moved w _ _ fs z = tt

-- where the frame below a run goes on
on_sound : (n : ℕ) (q : Party) (f : Place) (d : Ending) (fs : List Place) → fits n q true f ≡ true → Frames n q (is_loose f) fs → Sound n q (record { top = goes_on f d; below = fs })
on_sound n (Worker p i) (FirstSide o a) Fine fs e r = (refl, r)
on_sound n (Worker p i) (FirstSide o a) Fault fs e r = (refl, r)
on_sound n (Worker p i) (SecondSide o) d fs e r = (refl, r)
on_sound n (Caller c) (FirstSide o a) d fs e r = cc
on_sound n (Caller c) (SecondSide o) d fs e r = cc
on_sound n (Worker p i) (ScopeBody o) d fs e r = (refl, r)
on_sound n (Caller c) (ScopeBody o) d fs e r = (refl, r)
on_sound n (Worker p i) (AtOnce a t) d fs e r = (refl, r)
on_sound n (Caller c) (AtOnce a t) d fs e r = (refl, r)
on_sound n q _ d fs e r = (e, r)

resumed : (n : ℕ) (q : Party) (t : ℕ) (k : JobKind) (fs : List Place) (d : Ending) → Based (record { top = Run t k; below = fs }) → Frames n q true fs → Sound n q (after_resume fs d)
resumed n q t k [] d b r = no_bottom (Run t k) refl (b.1)
resumed n q t k (f ∷ fs) d b r = on_sound n q f d fs (r.0) (r.1)

closed : (n : ℕ) (q : Party) (t : ℕ) (k : JobKind) (d : Ending) (fs : List Place) → Based (record { top = Run t k; below = fs }) → Sound n q (record { top = Run t k; below = fs }) → Sound n q (after_close t k d fs)
closed n (Worker p i) t (Detached r) d fs b s = (refl, s.1)
closed n (Worker p i) t (Stored c o) d fs b s = (refl, s.1)
closed n (Worker p i) t (Scoped c o) d fs b s = (refl, s.1)
closed n (Worker p i) t (PieceOf c o) d fs b s = (refl, s.1)
closed n (Caller a) t (Detached r) d fs b s = (refl, s.1)
closed n (Caller a) t (Stored c o) d fs b s = (refl, s.1)
closed n (Caller a) t (Scoped c o) d fs b s = (refl, s.1)
closed n (Caller a) t (PieceOf c o) d fs b s = (refl, s.1)
closed n q t Direct d fs b s = resumed n q t Direct fs d b (s.1)
closed n q t (TokenOf i h) d fs b s = resumed n q t (TokenOf i h) fs d b (s.1)
closed n q t (BodyOf c o) d fs b s = resumed n q t (BodyOf c o) fs d b (s.1)
closed n q t (WholeOf c o) d fs b s = resumed n q t (WholeOf c o) fs d b (s.1)

end_moved : (w : World) (q : Party) (d : Ending) (x : Place) (fs : List Place) → w.stack q ≡ record { top = x; below = fs } → IfSome (after_end w q d (record { top = x; below = fs }) x) (Moved w)
end_moved w q d (Run t k) fs z = record {
  party = q;
  to = after_close t k d fs;
  shape = refl;
  stack = λ r. refl;
  sound = λ b s. closed w.shape.callers q t k d fs (subst Based z b) (subst (Sound w.shape.callers q) z s);
}
end_moved w q d _ fs z = tt

-- a call begins above a free place
free_fits : (n : ℕ) (q : Party) (b : Bool) (x : Place) → is_free x ≡ true → fits n q b x ≡ stands n q x
free_fits n q b (Run t k) e = refl
free_fits n q b Free e = refl
free_fits n q b _ e = cc

begin_moved : (w u : World) (q : Party) (y : Place) → is_free (w.stack q).top ≡ true → u.shape ≡ w.shape → ((r : Party) → u.stack r ≡ put_stack w.stack q (after_call (w.stack q) y) r) → stands w.shape.callers q y ≡ true → Moved w u
begin_moved w u q y f h s e = record {
  party = q;
  to = after_call (w.stack q) y;
  shape = h;
  stack = s;
  sound = λ b a. (e, (free_fits w.shape.callers q (is_loose y) (w.stack q).top f ∙ a.0, a.1));
}

common : (n : ℕ) (q : Party) (m : Plan) → is_common m ≡ true → stands n q (RaiseCount m) ≡ true
common n (Worker p i) m e = refl
common n (Caller c) m e = e

dealt : (n : ℕ) (q : Party) (c : Pieces) → stands n q (RaiseForAll c) ≡ true
dealt n (Worker p i) c = refl
dealt n (Caller a) c = refl

given : (n : ℕ) (q : Party) (p : ℕ) → stands n q (LowerCount (OfPool p) PoolValue Resume) ≡ true
given n (Worker a b) p = refl
given n (Caller c) p = refl

spawn_moved : (w : World) (q : Party) (p : ℕ) → IfSome (after_spawn w q p (w.stack q)) (Moved w)
spawn_moved w q p = if_cond (Moved w) (is_free ((w.stack q).top) && is_pool w.shape p) _
    (λ b. begin_moved w _ q (RaiseCount (Detach p w.jobs)) ((and_parts (is_free ((w.stack q).top)) (is_pool w.shape p) b).0) refl (λ r. refl) (common w.shape.callers q (Detach p w.jobs) refl))

deal_moved : (w : World) (q : Party) (k : Count) (p : ℕ) → is_free ((w.stack q).top) ≡ true → Moved w (after_deal w q k p (w.stack q))
deal_moved w q k p e = begin_moved w (after_deal w q k p (w.stack q)) q (RaiseForAll (record { count = k; pool = p; first = w.jobs; workers = (w.shape.pool p).workers })) e refl (λ r. refl) (dealt w.shape.callers q (record { count = k; pool = p; first = w.jobs; workers = (w.shape.pool p).workers }))

feed_moved : (w : World) (k : Count) (p i : ℕ) → is_free ((w.stack (Worker p i)).top) ≡ true → Moved w (after_feed w k p i (w.stack (Worker p i)))
feed_moved w k p i free = begin_moved w (after_feed w k p i (w.stack (Worker p i))) (Worker p i) (RaiseCount (Feed (record { count = k; pool = p; job = w.jobs; token = w.jobs + 1 }))) free refl (λ r. refl) refl

sent_moved : (w : World) (q : Party) (p : ℕ) (b : Bool) → is_free ((w.stack q).top) ≡ true → Moved w (after_send w q p (w.stack q) b)
sent_moved w q p true e = begin_moved w (after_send w q p (w.stack q) true) q (RaiseCount (Here p w.jobs)) e refl (λ r. refl) (common w.shape.callers q (Here p w.jobs) refl)
sent_moved w q p false e = begin_moved w (after_send w q p (w.stack q) false) q (RaiseCount (Send (record { number = w.calls; pool = p; job = w.jobs }))) e refl (λ r. refl) (common w.shape.callers q (Send (record { number = w.calls; pool = p; job = w.jobs })) refl)

enter_moved : (w : World) (q : Party) (z : Scope) → is_free ((w.stack q).top) ≡ true → IfSome (after_enter w q (w.stack q) (Some z)) (Moved w)
enter_moved w q z free = if_cond (Moved w) (is_free ((w.stack q).top) && holds z.call (w.stack q)) _
    (λ b. begin_moved w _ q (RaiseCount (Enter (record { call = z.call; owner = z.owner; pool = z.pool; job = w.jobs }))) free refl (λ r. refl) (common w.shape.callers q (Enter (record { call = z.call; owner = z.owner; pool = z.pool; job = w.jobs })) refl))

scope_moved : (w : World) (q : Party) (p : ℕ) → IfSome (after_scope w q p (w.stack q)) (Moved w)
scope_moved w q p = if_cond (Moved w) (is_free ((w.stack q).top) && is_pool w.shape p) _
    (λ b. begin_moved w _ q (RaiseCount (Open (record { number = w.calls; pool = p; job = w.jobs }))) ((and_parts (is_free ((w.stack q).top)) (is_pool w.shape p) b).0) refl (λ r. refl) (common w.shape.callers q (Open (record { number = w.calls; pool = p; job = w.jobs })) refl))

gather_moved : (w : World) (q : Party) (p : ℕ) → IfSome (after_broadcast w q p (w.stack q)) (Moved w)
gather_moved w q p = if_cond (Moved w) (is_free ((w.stack q).top) && is_pool w.shape p) _
    (λ b. begin_moved w (after_gather w q p (w.stack q)) q (RaiseCount (Gather (record { call = o; pieces = c }))) ((and_parts (is_free ((w.stack q).top)) (is_pool w.shape p) b).0) refl (λ r. refl) (common w.shape.callers q (Gather (record { call = o; pieces = c })) refl))
  where
    c : Pieces
    c = record { count = OfCast w.calls q; pool = p; first = w.jobs; workers = (w.shape.pool p).workers }

    o : OpenCall
    o = record { number = w.calls; pool = p; job = w.jobs + c.workers }

join_moved : (w : World) (q : Party) → IfSome (after_join w q (w.stack q)) (Moved w)
join_moved w (Worker a b) = if_cond (Moved w) (is_free ((w.stack (Worker a b)).top)) _ (λ z. begin_moved w _ (Worker a b) (RaiseCount (Fork (record { number = w.calls; pool = a; job = w.jobs + 1 }) w.jobs)) z refl (λ r. refl) refl)
join_moved w (Caller n) = tt

yield_moved : (w : World) (q : Party) (x : Place) → is_aside x ≡ false → IfSome (after_yield w q (w.stack q) x) (Moved w)
yield_moved w (Worker a b) x m = if_cond (Moved w) (is_free ((w.stack (Worker a b)).top)) _ (λ z. begin_moved w _ (Worker a b) x z refl (λ r. refl) (ap not m))
yield_moved w (Caller c) x m = tt

-- every party stands where it can
abbrev pub StandsHold : World → Type 0
StandsHold w = (q : Party) → Sound w.shape.callers q (w.stack q)

go_moved : (w : World) (q : Party) → Sound w.shape.callers q (w.stack q) → IfSome (step w (Go q)) (Moved w)
go_moved w q s = acted_keeps w q k (target_pool q (act_of q k.top)) (target_worker q (act_of q k.top)) (target_call (act_of q k.top)) (job_at w q (act_of q k.top)) (outcome w q k) (Moved w)
    (if_some_map (λ r. Steers k.top (next_at w q k (r.0)) × Goes w.shape.callers q (is_loose k.top) (next_at w q k (r.0))) (λ r. Moved w (result w q k r))
    (λ r f. record {
      party = q;
      to = after_move (next_at w q k (r.0)) k.below;
      shape = refl;
      stack = λ g. refl;
      sound = λ b a. move_sound w.shape.callers q k.top (next_at w q k (r.0)) k.below (f.0) (b.1) (f.1) (a.1);
    }) (outcome w q k)
    (if_some_and (λ r. Steers k.top (next_at w q k (r.0))) (λ r. Goes w.shape.callers q (is_loose k.top) (next_at w q k (r.0))) (outcome w q k)
    (steers w.shape (shape_at w q k) q (counts_seen w q k) (part_at w q k) k.top)
    (goes w.shape.callers w.shape (shape_at w q k) q (counts_seen w q k) (part_at w q k) k.top (s.0))))
  where
    k : Stack
    k = w.stack q

moved : (w : World) (e : Event) → StandsHold w → IfSome (step w e) (Moved w)
moved w (Go q) h = go_moved w q (h q)
moved w (From q v) h = from_moved w q ((w.stack q).top) ((w.stack q).below) v refl
moved w (Refuse q) h = refuse_moved w q ((w.stack q).top) ((w.stack q).below) refl
moved w (Miss q) h = miss_moved w q ((w.stack q).top) ((w.stack q).below) refl
moved w (End q d) h = end_moved w q d ((w.stack q).top) ((w.stack q).below) refl
moved w (Spawn q p) h = spawn_moved w q p
moved w (Fifo q p) h = fifo_cases (Moved w) w q p (spawn_moved w q p) (λ i free. feed_moved w (OfPool p) p i free)
moved w (Cast q p) h = if_cond (Moved w) (is_free ((w.stack q).top) && is_pool w.shape p) _ (λ b. deal_moved w q (OfPool p) p ((and_parts (is_free ((w.stack q).top)) (is_pool w.shape p) b).0))
moved w (Install q p) h = if_cond (Moved w) (is_free ((w.stack q).top) && is_pool w.shape p) _ (λ e. sent_moved w q p (is_member q p) ((and_parts (is_free ((w.stack q).top)) (is_pool w.shape p) e).0))
moved w (Join q) h = join_moved w q
moved w (OpenScope q p) h = scope_moved w q p
moved w (IntoSpawn q k) h = into_cases (Moved w) w q k (λ z e free held. enter_moved w q z free)
moved w (IntoFifo q k) h = into_fifo_cases (Moved w) w q k (λ z e free held. enter_moved w q z free) (λ z i e free held. feed_moved w (OfScope z.call z.owner) z.pool i free)
moved w (IntoCast q k) h = into_cast_cases (Moved w) w q k (λ z e free held. deal_moved w q (OfScope z.call z.owner) z.pool free)
moved w (Broadcast q p) h = gather_moved w q p
moved w (Yield q) h = yield_moved w q YieldPop refl
moved w (YieldLocal q) h = yield_moved w q LocalPop refl
moved w (EndPool q p) h = if_cond (Moved w) (is_free ((w.stack q).top) && (is_pool w.shape p && (w.pool p).held)) _
    (λ b. begin_moved w _ q (LowerCount (OfPool p) PoolValue Resume) ((and_parts (is_free ((w.stack q).top)) (is_pool w.shape p && (w.pool p).held) b).0) refl (λ r. refl) (given w.shape.callers q p))

-- over each step
moved_stands : (w v : World) → ((q : Party) → Based (w.stack q)) → Moved w v → StandsHold w → StandsHold v
moved_stands w v b m h q = subst (λ z. Sound z.callers q (v.stack q)) (sym m.shape) (subst (Sound w.shape.callers q) (sym (m.stack q)) (by (same_party q m.party) refl))
  where
    by : (z : Bool) → same_party q m.party ≡ z → Sound w.shape.callers q (if z then m.to else w.stack q)
    by true e = subst (λ r. Sound w.shape.callers r m.to) (sym (same_party_true q m.party e)) (m.sound (b m.party) (h m.party))
    by false e = h q

step_stands : (h : Shape) (es : List Event) (w v : World) (e : Event) → IsRun (start h) es w → step w e ≡ Some v → StandsHold w → StandsHold v
step_stands h es w v e r s k = moved_stands w v ((always_stops h es w r).based) (made (Moved w) w v e s (moved w e k)) k

first_stands : (h : Shape) → StandsHold (start h)
first_stands h (Worker p i) = (at (nat_lt i (h.pool p).workers) ((h.pool p).callers_own && (i == 0)), tt)
  where
    at : (b d : Bool) → stands h.callers (Worker p i) (if b then (if d then Free else ProbeWorking (fresh Termination)) else Stopped) ≡ true
    at true true = refl
    at true false = refl
    at false d = refl
first_stands h (Caller c) = (at (nat_lt c h.callers) refl, tt)
  where
    at : (b : Bool) → nat_lt c h.callers ≡ b → stands h.callers (Caller c) (if b then Free else Stopped) ≡ true
    at true e = refl
    at false e = ap not e

pub always_stands : (h : Shape) (es : List Event) (w : World) → IsRun (start h) es w → StandsHold w
always_stands h es w r = run_has h StandsHold (step_stands h) (first_stands h) es w r
