-- what stands lowest on each stack, over the events that are no acts and over each step of each run
--
-- This is `LowestHold`, and `always_lowest` says it of every world.
use Rattle.std.proofs.Common.{refl, ◌∙◌, sym, subst}
use Rattle.std.specs.Prelude.{ℕ, Bool, true, false, ◌&&◌, ◌+◌, ◌-◌, ◌==◌, nat_lt, if◌then◌else◌, Some, None, ◌≡◌, IfSome, List, [], ◌∷◌, Option}
use Rattle.rayon_machine_places.specs.declared.place.Party.{Party}
use Rattle.rayon_machine_places.specs.declared.place.Party.TheVariants.{Worker, Caller}
use Rattle.rayon_machine_places.specs.declared.place.Ending.{Ending}
use Rattle.rayon_machine_places.specs.declared.place.Ending.TheVariants.{Fine, Fault}
use Rattle.rayon_machine_places.specs.declared.place.JobKind.{JobKind}
use Rattle.rayon_machine_places.specs.declared.place.JobKind.TheVariants.{Detached, Stored, Direct, Scoped, BodyOf, PieceOf, WholeOf, TokenOf}
use Rattle.rayon_machine_places.specs.declared.place.Target.TheVariants.{Termination}
use Rattle.rayon_machine_places.specs.declared.place.Plan.TheVariants.{Detach, Here, Send, Fork, Feed, Open, Enter, Gather}
use Rattle.rayon_machine_places.specs.declared.place.Count.{Count}
use Rattle.rayon_machine_places.specs.declared.place.Count.TheVariants.{OfPool, OfScope, OfCast}
use Rattle.rayon_machine_places.specs.declared.place.Share.TheVariants.{PoolValue}
use Rattle.rayon_machine_places.specs.declared.place.Pieces.{Pieces}
use Rattle.rayon_machine_places.specs.declared.place.OpenCall.{OpenCall}
use Rattle.rayon_machine_places.specs.declared.place.Then.TheVariants.{Resume}
use Rattle.rayon_machine_places.specs.declared.place.Place.{Place}
use Rattle.rayon_machine_places.specs.declared.place.Place.TheVariants.{ProbeWorking, PickVictim, StealFrom, YieldPop, YieldPick, YieldSteal, LocalPop, Run, RaiseCount, GrowCall, GrowScope, OpenSlot, PushJob, AddToFifo, PushToken, TakeFromFifo, RaiseForAll, OpenForAll, PushForAll, LowerForAll, GrowCast, DealPieces, LowerCount, FirstSide, SecondSide, ScopeBody, AtOnce, Free, Stopped, WaitForLock, BeginTask, LookQueue}
use Rattle.rayon_machine_runs.specs.declared.event.Event.{Event}
use Rattle.rayon_machine_runs.specs.declared.event.Event.TheVariants.{Go, From, Refuse, Miss, End, Spawn, Fifo, Install, Join, Yield, YieldLocal, EndPool, Cast, Scope as OpenScope, IntoSpawn, IntoFifo, IntoCast, Broadcast}
use Rattle.rayon_machine_runs.specs.declared.state.Scope.{Scope}
use Rattle.rayon_machine_places.specs.Places.{act_of, own_pool, own_index, same_party, is_free, is_member, not_self, next_steal, next_yield, plan_book, undo, after_push, end_cast, goes_on, fresh, plan_pool, plan_job}
use Rattle.rayon_machine_runs.specs.World.{Shape, Stack, World, Part}
use Rattle.rayon_machine_places.specs.Targets.{target_pool, target_worker, target_call}
use Rattle.rayon_machine_runs.specs.Steps.{put_stack, with_stack, after_move, after_resume, after_close, after_call, after_choice, after_refusal, after_miss, after_end, after_spawn, after_feed, after_deal, after_gather, after_broadcast, after_send, after_join, after_scope, after_enter, after_yield, can_miss, holds, is_pool, step}
use Rattle.rayon_machine_runs.specs.Runs.{IsRun, start}
use Rattle.rayon_machine_places.specs.declared.act.Act.TheVariants.{LockWait, LookOwn, LookInj, PushOwn, PushInj}
use Rattle.rayon_machine_places.specs.declared.act.Seen.{Seen}
use Rattle.rayon_machine_places.specs.declared.place.Taken.TheVariants.{Plain, Token}
use Rattle.rayon_machine_laws.proofs.Events.{run_keeps}
use Rattle.rayon_machine_laws.proofs.Frame.{acted_keeps, fifo_cases, if_cond, if_some_all, if_some_map, into_cases, into_fifo_cases, into_cast_cases, same_party_true}
use Rattle.rayon_machine_laws.proofs.Ties.{outcome, result, job_at, shape_at}
use Rattle.rayon_machine_laws.proofs.Calm.{next_at}
use Rattle.rayon_machine_step_laws.specs.Enabled.{is_worker}
use Rattle.rayon_machine_step_laws.specs.Lowest.{BlocksCallers, IsFounded, Lowest, NoCall, PoolWait, StandsOn, lowest_at, lowest_of}
use Rattle.rayon_machine_step_laws.proofs.Lowest.{Fits, Founded, fits_on, is_lock_wait, leads, move_founded, steal_leads, uncast_leads, withdraw_leads, yield_leads}

abbrev Rests : World → Party → Stack → Type 0
Rests w q k = Founded q (lowest_of w.shape q) k.top k.below

-- a step: one party's stack is another, and stands on what it stood on
record Turned (w u : World) : Type 0 where
  party : Party
  to : Stack
  shape : u.shape ≡ w.shape
  stack : (r : Party) → u.stack r ≡ put_stack w.stack party to r
  founded : Rests w party (w.stack party) → Rests w party to

-- from one place to another
turn_at : (w : World) (q : Party) (x y : Place) (fs : List Place) → w.stack q ≡ record { top = x; below = fs } → Fits q (lowest_at x) y → Turned w (with_stack w q (record { top = y; below = fs }))
turn_at w q x y fs z f = record {
  party = q;
  to = record { top = y; below = fs };
  shape = refl;
  stack = λ r. refl;
  founded = λ a. fits_on q (lowest_of w.shape q) x y fs f (subst (Rests w q) z a);
}

from_turned : (w : World) (q : Party) (x : Place) (fs : List Place) (v : ℕ) → w.stack q ≡ record { top = x; below = fs } → IfSome (after_choice w q (record { top = x; below = fs }) x v) (Turned w)
from_turned w q (PickVictim k) fs v z = if_cond (Turned w) (nat_lt v (w.shape.pool (own_pool q)).workers) _
    (λ b. turn_at w q (PickVictim k) (StealFrom (record k { victim = not_self (w.shape.pool (own_pool q)).workers (own_index q) v }) ((w.shape.pool (own_pool q)).workers - 2)) fs z (refl, refl))
from_turned w q YieldPick fs v z = if_cond (Turned w) (nat_lt v (w.shape.pool (own_pool q)).workers) _
    (λ b. turn_at w q YieldPick (YieldSteal (not_self (w.shape.pool (own_pool q)).workers (own_index q) v) ((w.shape.pool (own_pool q)).workers - 2)) fs z (refl, refl))
from_turned w q _ fs v z = tt

-- a refused act
refuse_turned : (w : World) (q : Party) (x : Place) (fs : List Place) → w.stack q ≡ record { top = x; below = fs } → IfSome (after_refusal w q (record { top = x; below = fs })) (Turned w)
refuse_turned w q (GrowCall m) fs z = turn_at w q (GrowCall m) (undo m) fs z (refl, refl)
refuse_turned w q (GrowScope o) fs z = turn_at w q (GrowScope o) (undo (Open o)) fs z (refl, refl)
refuse_turned w q (OpenSlot m) fs z = turn_at w q (OpenSlot m) (undo m) fs z (refl, refl)
refuse_turned w q (PushToken f v) fs z = turn_at w q (PushToken f v) (TakeFromFifo f) fs z (refl, refl)
refuse_turned w q (OpenForAll c) fs z = turn_at w q (OpenForAll c) (LowerForAll c) fs z (refl, refl)
refuse_turned w q (GrowCast g) fs z = turn_at w q (GrowCast g) (undo (Gather g)) fs z (refl, refl)
refuse_turned w q (DealPieces g) fs z = turn_at w q (DealPieces g) (undo (Gather g)) fs z (refl, refl)
refuse_turned w q (PushForAll c) fs z = turn_at w q (PushForAll c) (end_cast c.count c) fs z (uncast_leads q c c.count)
refuse_turned w q (AddToFifo f) fs z = turn_at w q (AddToFifo f) (after_push (Feed f)) fs z (withdraw_leads q (plan_book (Feed f)) (Feed f))
refuse_turned w q (PushJob m v) fs z = turn_at w q (PushJob m v) (after_push m) fs z (withdraw_leads q (plan_book m) m)
refuse_turned w q _ fs z = tt

-- a steal that misses
miss_turned : (w : World) (q : Party) (x : Place) (fs : List Place) → w.stack q ≡ record { top = x; below = fs } → IfSome (after_miss w q (record { top = x; below = fs }) x) (Turned w)
miss_turned w (Worker a b) (StealFrom k n) fs z = if_cond (Turned w) (can_miss w a k.victim) _ (λ y. turn_at w (Worker a b) (StealFrom k n) (next_steal (w.shape.pool a) (Worker a b) k n) fs z (steal_leads (w.shape.pool a) (Worker a b) k n))
miss_turned w (Worker a b) (YieldSteal v n) fs z = if_cond (Turned w) (can_miss w a v) _ (λ y. turn_at w (Worker a b) (YieldSteal v n) (next_yield (w.shape.pool a) (Worker a b) v n) fs z (yield_leads (w.shape.pool a) (Worker a b) v n))
miss_turned w (Worker a b) _ fs z = tt
miss_turned w (Caller n) _ fs z = tt

-- where the frame below a run goes on
on_fits : (q : Party) (f : Place) (d : Ending) → (is_lock_wait f && is_worker q) ≡ false → Fits q (lowest_at f) (goes_on f d)
on_fits q (FirstSide o a) Fine e = (refl, refl)
on_fits q (FirstSide o a) Fault e = (refl, refl)
on_fits q (SecondSide o) d e = (refl, refl)
on_fits q (ScopeBody o) d e = (refl, refl)
on_fits q (AtOnce a t) d e = (refl, refl)
on_fits q _ d e = (refl, e)

lock_free : (q : Party) (g : Lowest) (f : Place) (fs : List Place) → Founded q g f fs → (is_lock_wait f && is_worker q) ≡ false
lock_free q g f [] a = a.1
lock_free q g f (x ∷ fs) a = a.0.1

resumed : (q : Party) (g : Lowest) (t : ℕ) (k : JobKind) (fs : List Place) (d : Ending) → Founded q g (Run t k) fs → Founded q g ((after_resume fs d).top) ((after_resume fs d).below)
resumed q g t k [] d a = absurd (let b : None ≡ Some g = a.0 in cc)
resumed q g t k (f ∷ fs) d a = fits_on q g f (goes_on f d) fs (on_fits q f d (lock_free q g f fs (a.1))) (a.1)

closed : (q : Party) (g : Lowest) (t : ℕ) (k : JobKind) (d : Ending) (fs : List Place) → Founded q g (Run t k) fs → Founded q g ((after_close t k d fs).top) ((after_close t k d fs).below)
closed q g t (Detached r) d fs a = fits_on q g (Run t (Detached r)) ((after_close t (Detached r) d fs).top) fs (refl, refl) a
closed q g t (Stored c o) d fs a = fits_on q g (Run t (Stored c o)) ((after_close t (Stored c o) d fs).top) fs (refl, refl) a
closed q g t (Scoped c o) d fs a = fits_on q g (Run t (Scoped c o)) ((after_close t (Scoped c o) d fs).top) fs (refl, refl) a
closed q g t (PieceOf c o) d fs a = fits_on q g (Run t (PieceOf c o)) ((after_close t (PieceOf c o) d fs).top) fs (refl, refl) a
closed q g t Direct d fs a = resumed q g t Direct fs d a
closed q g t (TokenOf i h) d fs a = resumed q g t (TokenOf i h) fs d a
closed q g t (BodyOf c o) d fs a = resumed q g t (BodyOf c o) fs d a
closed q g t (WholeOf c o) d fs a = resumed q g t (WholeOf c o) fs d a

end_turned : (w : World) (q : Party) (d : Ending) (x : Place) (fs : List Place) → w.stack q ≡ record { top = x; below = fs } → IfSome (after_end w q d (record { top = x; below = fs }) x) (Turned w)
end_turned w q d (Run t k) fs z = record {
  party = q;
  to = after_close t k d fs;
  shape = refl;
  stack = λ r. refl;
  founded = λ a. closed q (lowest_of w.shape q) t k d fs (subst (Rests w q) z a);
}
end_turned w q d _ fs z = tt

-- a call begins above a free place
begin_turned : (w u : World) (q : Party) (y : Place) → u.shape ≡ w.shape → ((r : Party) → u.stack r ≡ put_stack w.stack q (after_call (w.stack q) y) r) → Fits q None y → Turned w u
begin_turned w u q y h s e = record {
  party = q;
  to = after_call (w.stack q) y;
  shape = h;
  stack = s;
  founded = λ a. (e, a);
}

spawn_turned : (w : World) (q : Party) (p : ℕ) → IfSome (after_spawn w q p (w.stack q)) (Turned w)
spawn_turned w q p = if_cond (Turned w) (is_free ((w.stack q).top) && is_pool w.shape p) _ (λ b. begin_turned w _ q (RaiseCount (Detach p w.jobs)) refl (λ r. refl) (refl, refl))

deal_turned : (w : World) (q : Party) (k : Count) (p : ℕ) → Turned w (after_deal w q k p (w.stack q))
deal_turned w q k p = begin_turned w (after_deal w q k p (w.stack q)) q (RaiseForAll (record { count = k; pool = p; first = w.jobs; workers = (w.shape.pool p).workers })) refl (λ r. refl) (refl, refl)

feed_turned : (w : World) (k : Count) (p i : ℕ) → Turned w (after_feed w k p i (w.stack (Worker p i)))
feed_turned w k p i = begin_turned w (after_feed w k p i (w.stack (Worker p i))) (Worker p i) (RaiseCount (Feed (record { count = k; pool = p; job = w.jobs; token = w.jobs + 1 }))) refl (λ r. refl) (refl, refl)

sent_turned : (w : World) (q : Party) (p : ℕ) (b : Bool) → Turned w (after_send w q p (w.stack q) b)
sent_turned w q p true = begin_turned w (after_send w q p (w.stack q) true) q (RaiseCount (Here p w.jobs)) refl (λ r. refl) (refl, refl)
sent_turned w q p false = begin_turned w (after_send w q p (w.stack q) false) q (RaiseCount (Send (record { number = w.calls; pool = p; job = w.jobs }))) refl (λ r. refl) (refl, refl)

enter_turned : (w : World) (q : Party) (z : Scope) → IfSome (after_enter w q (w.stack q) (Some z)) (Turned w)
enter_turned w q z = if_cond (Turned w) (is_free ((w.stack q).top) && holds z.call (w.stack q)) _
    (λ b. begin_turned w _ q (RaiseCount (Enter (record { call = z.call; owner = z.owner; pool = z.pool; job = w.jobs }))) refl (λ r. refl) (refl, refl))

scope_turned : (w : World) (q : Party) (p : ℕ) → IfSome (after_scope w q p (w.stack q)) (Turned w)
scope_turned w q p = if_cond (Turned w) (is_free ((w.stack q).top) && is_pool w.shape p) _ (λ b. begin_turned w _ q (RaiseCount (Open (record { number = w.calls; pool = p; job = w.jobs }))) refl (λ r. refl) (refl, refl))

gather_turned : (w : World) (q : Party) (p : ℕ) → IfSome (after_broadcast w q p (w.stack q)) (Turned w)
gather_turned w q p = if_cond (Turned w) (is_free ((w.stack q).top) && is_pool w.shape p) _ (λ b. begin_turned w (after_gather w q p (w.stack q)) q (RaiseCount (Gather (record { call = o; pieces = c }))) refl (λ r. refl) (refl, refl))
  where
    c : Pieces
    c = record { count = OfCast w.calls q; pool = p; first = w.jobs; workers = (w.shape.pool p).workers }

    o : OpenCall
    o = record { number = w.calls; pool = p; job = w.jobs + c.workers }

join_turned : (w : World) (q : Party) → IfSome (after_join w q (w.stack q)) (Turned w)
join_turned w (Worker a b) = if_cond (Turned w) (is_free ((w.stack (Worker a b)).top)) _ (λ z. begin_turned w _ (Worker a b) (RaiseCount (Fork (record { number = w.calls; pool = a; job = w.jobs + 1 }) w.jobs)) refl (λ r. refl) (refl, refl))
join_turned w (Caller n) = tt

yield_turned : (w : World) (q : Party) (x : Place) → Fits q None x → IfSome (after_yield w q (w.stack q) x) (Turned w)
yield_turned w (Worker a b) x m = if_cond (Turned w) (is_free ((w.stack (Worker a b)).top)) _ (λ z. begin_turned w _ (Worker a b) x refl (λ r. refl) m)
yield_turned w (Caller c) x m = tt

go_turned : (w : World) (q : Party) → IfSome (step w (Go q)) (Turned w)
go_turned w q = acted_keeps w q k (target_pool q (act_of q k.top)) (target_worker q (act_of q k.top)) (target_call (act_of q k.top)) (job_at w q (act_of q k.top)) (outcome w q k) (Turned w)
    (if_some_all {A = Seen × Part} (λ r. Turned w (result w q k r)) (λ r. record {
      party = q;
      to = after_move (next_at w q k (r.0)) k.below;
      shape = refl;
      stack = λ g. refl;
      founded = λ a. move_founded q (lowest_of w.shape q) k.top (next_at w q k (r.0)) k.below (leads (shape_at w q k) q k.top (r.0)) a;
    }) (outcome w q k))
  where
    k : Stack
    k = w.stack q

turned : (w : World) (e : Event) → IfSome (step w e) (Turned w)
turned w (Go q) = go_turned w q
turned w (From q v) = from_turned w q ((w.stack q).top) ((w.stack q).below) v refl
turned w (Refuse q) = refuse_turned w q ((w.stack q).top) ((w.stack q).below) refl
turned w (Miss q) = miss_turned w q ((w.stack q).top) ((w.stack q).below) refl
turned w (End q d) = end_turned w q d ((w.stack q).top) ((w.stack q).below) refl
turned w (Spawn q p) = spawn_turned w q p
turned w (Fifo q p) = fifo_cases (Turned w) w q p (spawn_turned w q p) (λ i free. feed_turned w (OfPool p) p i)
turned w (Cast q p) = if_cond (Turned w) (is_free ((w.stack q).top) && is_pool w.shape p) _ (λ b. deal_turned w q (OfPool p) p)
turned w (Install q p) = if_cond (Turned w) (is_free ((w.stack q).top) && is_pool w.shape p) _ (λ e. sent_turned w q p (is_member q p))
turned w (Join q) = join_turned w q
turned w (OpenScope q p) = scope_turned w q p
turned w (IntoSpawn q k) = into_cases (Turned w) w q k (λ z e free held. enter_turned w q z)
turned w (IntoFifo q k) = into_fifo_cases (Turned w) w q k (λ z e free held. enter_turned w q z) (λ z i e free held. feed_turned w (OfScope z.call z.owner) z.pool i)
turned w (IntoCast q k) = into_cast_cases (Turned w) w q k (λ z e free held. deal_turned w q (OfScope z.call z.owner) z.pool)
turned w (Broadcast q p) = gather_turned w q p
turned w (Yield q) = yield_turned w q YieldPop (refl, refl)
turned w (YieldLocal q) = yield_turned w q LocalPop (refl, refl)
turned w (EndPool q p) = if_cond (Turned w) (is_free ((w.stack q).top) && (is_pool w.shape p && (w.pool p).held)) _ (λ b. begin_turned w _ q (LowerCount (OfPool p) PoolValue Resume) refl (λ r. refl) (refl, refl))

-- every stack stands on what it stood on at the start
abbrev pub LowestHold : World → Type 0
LowestHold w = (q : Party) → Rests w q (w.stack q)

-- over each step
turned_lowest : (w v : World) → LowestHold w → Turned w v → LowestHold v
turned_lowest w v h m q = subst (λ z. Founded q (lowest_of z q) ((v.stack q).top) ((v.stack q).below)) (sym m.shape) (subst (Rests w q) (sym (m.stack q)) (by (same_party q m.party) refl))
  where
    by : (z : Bool) → same_party q m.party ≡ z → Rests w q (if z then m.to else w.stack q)
    by true e = subst (λ r. Rests w r m.to) (sym (same_party_true q m.party e)) (m.founded (h m.party))
    by false e = h q

step_lowest : (w : World) (e : Event) → LowestHold w → IfSome (step w e) LowestHold
step_lowest w e h = if_some_map (Turned w) LowestHold (λ v m. turned_lowest w v h m) (step w e) (turned w e)

first_lowest : (h : Shape) → LowestHold (start h)
first_lowest h (Worker p i) = at (nat_lt i (h.pool p).workers) ((h.pool p).callers_own && (i == 0))
  where
    at : (b d : Bool) → Fits (Worker p i) (Some (if b && d then NoCall else PoolWait)) (if b then (if d then Free else ProbeWorking (fresh Termination)) else Stopped)
    at true true = (refl, refl)
    at true false = (refl, refl)
    at false d = (refl, refl)
first_lowest h (Caller c) = at (nat_lt c h.callers)
  where
    at : (b : Bool) → Fits (Caller c) (Some (if b then NoCall else PoolWait)) (if b then Free else Stopped)
    at true = (refl, refl)
    at false = (refl, refl)

pub always_lowest : (h : Shape) (es : List Event) (w : World) → IsRun (start h) es w → LowestHold w
always_lowest h es w r = run_keeps LowestHold step_lowest (start h) w es (first_lowest h) r

-- what the law says of it
stands_on : (q : Party) (g : Lowest) (x : Place) (fs : List Place) → Founded q g x fs → StandsOn g x fs
stands_on q g x [] a = a.0
stands_on q g x (f ∷ fs) a = (a.0.0, stands_on q g f fs (a.1))

pub is_founded : (w : World) → LowestHold w → IsFounded w
is_founded w h q = stands_on q (lowest_of w.shape q) ((w.stack q).top) ((w.stack q).below) (h q)

-- a worker's act is no wait for a lock latch
act_blocks : (q : Party) (x : Place) (c : ℕ) → (is_lock_wait x && is_worker q) ≡ false → act_of q x ≡ LockWait c → is_worker q ≡ false
act_blocks (Caller n) x c f e = refl
act_blocks (Worker p i) (WaitForLock o) c f e = cc
act_blocks (Worker p i) (BeginTask (Plain t)) c f e = absurd (cc)
act_blocks (Worker p i) (BeginTask (Token k j b)) c f e = absurd (cc)
act_blocks (Worker p i) (LookQueue m) c f e = absurd (looks (is_member (Worker p i) (plan_pool m)) (plan_pool m) e)
  where
    looks : (b : Bool) (r : ℕ) → (if b then LookOwn else LookInj r) ≡ LockWait c → ⊥
    looks true r z = cc
    looks false r z = cc
act_blocks (Worker p i) (PushJob m v) c f e = absurd (pushes (is_member (Worker p i) (plan_pool m)) (plan_pool m) (plan_job m) (plan_book m) e)
  where
    pushes : (b : Bool) (r t : ℕ) (k : Option ℕ) → (if b then PushOwn t k else PushInj r t k) ≡ LockWait c → ⊥
    pushes true r t k z = cc
    pushes false r t k z = cc
act_blocks (Worker p i) _ c f e = absurd (cc)

pub blocks_callers : (w : World) → LowestHold w → BlocksCallers w
blocks_callers w h q c e = act_blocks q ((w.stack q).top) c (lock_free q (lowest_of w.shape q) ((w.stack q).top) ((w.stack q).below) (h q)) e
