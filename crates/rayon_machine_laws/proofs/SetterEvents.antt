-- the events that are no acts, and who is to set which latch in every world of every run
use Rattle.std.proofs.Common.{arith, refl, sym, ◌∙◌, ap, subst, inl, inr}
use Rattle.std.specs.Prelude.{ℕ, zero, suc, Bool, true, false, ◌&&◌, ◌+◌, ◌-◌, ◌==◌, ◌≤◌, ◌<◌, nat_lt, if◌then◌else◌, Some, None, List, [], ◌∷◌, ◌++◌, ◌≡◌, ◌⊎◌, IfSome, slice_get}
use Rattle.std.proofs.lemmas.Bool.{eqb-true, ltb-true, ltb-false}
use Rattle.std.proofs.Math.Dec.{ltb}
use Rattle.rayon_machine_places.specs.declared.place.Party.{Party}
use Rattle.rayon_machine_places.specs.declared.place.Party.TheVariants.{Worker, Caller}
use Rattle.rayon_machine_places.specs.declared.place.Ending.{Ending}
use Rattle.rayon_machine_places.specs.declared.place.JobKind.{JobKind}
use Rattle.rayon_machine_places.specs.declared.place.JobKind.TheVariants.{Detached, Stored, Direct, TokenOf, Scoped, BodyOf, PieceOf, WholeOf}
use Rattle.rayon_machine_places.specs.declared.place.Target.TheVariants.{Termination}
use Rattle.rayon_machine_places.specs.declared.place.Count.{Count}
use Rattle.rayon_machine_places.specs.declared.place.Count.TheVariants.{OfPool, OfScope, OfCast}
use Rattle.rayon_machine_places.specs.declared.place.Share.TheVariants.{PoolValue}
use Rattle.rayon_machine_places.specs.declared.place.Pieces.{Pieces}
use Rattle.rayon_machine_places.specs.declared.place.Plan.TheVariants.{Detach, Here, Send, Fork, Feed, Open, Enter, Gather}
use Rattle.rayon_machine_places.specs.declared.place.Then.TheVariants.{Resume}
use Rattle.rayon_machine_places.specs.declared.place.Place.{Place}
use Rattle.rayon_machine_places.specs.declared.place.Place.TheVariants.{ProbeWorking, PickVictim, StealFrom, PopInjected, YieldPop, YieldPick, YieldSteal, YieldPopInjected, LocalPop, Run, Free, Stopped, RaiseCount, GrowCall, GrowScope, OpenSlot, PushJob, AddToFifo, PushToken, RaiseForAll, OpenForAll, PushForAll, GrowCast, DealPieces, LowerCount}
use Rattle.rayon_machine_places.specs.declared.place.Wait.{Wait}
use Rattle.rayon_machine_places.specs.declared.act.Seen.{Seen}
use Rattle.rayon_machine_places.specs.declared.act.Seen.TheVariants.{Refused, Missing, Start}
use Rattle.rayon_machine_runs.specs.declared.event.Event.{Event}
use Rattle.rayon_machine_runs.specs.declared.event.Event.TheVariants.{Go, From, Refuse, Miss, End, Spawn, Fifo, Install, Join, Yield, YieldLocal, EndPool, Cast, Scope as OpenScope, IntoSpawn, IntoFifo, IntoCast, Broadcast}
use Rattle.rayon_machine_runs.specs.declared.state.Letter.TheVariants.{Unset, Set as IsSet}
use Rattle.rayon_machine_runs.specs.declared.state.Whereabouts.TheVariants.{Running, Over}
use Rattle.rayon_machine_runs.specs.declared.state.Job.{Job}
use Rattle.rayon_machine_runs.specs.declared.state.Call.{Call}
use Rattle.rayon_machine_runs.specs.declared.state.Scope.{Scope}
use Rattle.rayon_machine_places.specs.declared.shape.PoolShape.{PoolShape}
use Rattle.rayon_machine_places.specs.Places.{fresh, own_pool, own_index, is_member, act_of, next_of, count_kind, count_book, plan_book, is_free, next_victim, next_steal, next_yield, not_self, same_party}
use Rattle.rayon_machine_runs.specs.World.{Shape, Pool, Stack, World, at_job}
use Rattle.rayon_machine_places.specs.Targets.{target_worker, target_pool, target_call}
use Rattle.rayon_machine_runs.specs.Steps.{put, put_stack, put_pieces, after_move, after_choice, after_refusal, can_miss, after_miss, after_close, after_end, after_resume, after_call, is_pool, new_job, new_call, new_piece, new_whole, new_gathering, after_spawn, after_send, after_install, after_join, after_yield, after_end_pool, step, after_feed, after_scope, holds, after_enter, after_deal, after_broadcast}
use Rattle.rayon_machine_runs.specs.Readers.{is_done}
use Rattle.rayon_machine_runs.specs.Runs.{first_place, start, IsRun}
use Rattle.rayon_machine_laws.specs.Once.{one, runs_in}
use Rattle.rayon_machine_laws.proofs.Frame.{either, and_parts, same_party_true, if_some_and, if_some_map, if_cond, acted_keeps, put_same, put_new, put_old, fifo_cases, into_cases, into_fifo_cases, into_cast_cases, piece_old, piece_out}
use Rattle.rayon_machine_laws.proofs.Ties.{AllFrames, job_at, outcome}
use Rattle.rayon_machine_laws.proofs.Events.{run_keeps}
use Rattle.rayon_machine_laws.proofs.Hands.{worked}
use Rattle.rayon_machine_laws.proofs.Located.{loc_at, is_loc, where_is, at_work, Work}
use Rattle.rayon_machine_laws.proofs.Claims.{SaysRun, IsReady, is_body}
use Rattle.rayon_machine_laws.proofs.ClaimRuns.{top_says}
use Rattle.rayon_machine_laws.proofs.ClaimMakes.{below_new}
use Rattle.rayon_machine_laws.proofs.ShareSteps.{self_one}
use Rattle.rayon_machine_laws.proofs.Bodies.{body, bodies_in, all_bodies, spent, closed_body}
use Rattle.rayon_machine_laws.proofs.ScopeCounts.{is_whole, le_after}
use Rattle.rayon_machine_laws.proofs.Gathered.{GathersHold, calls_of}
use Rattle.rayon_machine_laws.proofs.Gathers.{step_gathers, first_gathers}
use Rattle.rayon_machine_laws.proofs.Setters.{means, walks, unset_from, is_fit, IsApart, Onto, apart_on, on_apart, drawn_apart, unpushed_on, not_true}
use Rattle.rayon_machine_laws.proofs.SetterActs.{SetsHold, means_ready, undone_unready, go_sets}

-- an event that is no act: one party's stack is another, no latch that was made is another, and the party does not come
-- to set one, but that of a call whose job has ended with that
pub record Shifts (w u : World) : Type 0 where
  pub party : Party
  pub to : Stack
  pub stack : (r : Party) → u.stack r ≡ put_stack w.stack party to r
  pub shape : u.shape ≡ w.shape
  pub kinds : (c : ℕ) → c + 1 ≤ w.calls → (u.job (u.call c).job).kind ≡ (w.job (w.call c).job).kind
  pub calls : (c : ℕ) → c + 1 ≤ w.calls → (u.call c).latch ≡ (w.call c).latch
  pub latch : (c : ℕ) → (u.call c).latch ≡ IsSet → (w.call c).latch ≡ IsSet
  pub seat : (p i : ℕ) → u.seat p i ≡ w.seat p i
  pub bodies : (c : ℕ) → 1 ≤ all_bodies c to → (1 ≤ all_bodies c (w.stack party)) ⊎ (is_body (u.job (u.call c).job).kind ≡ true)
  pub comes : (c : ℕ) → means c to.top ≡ true → IsReady w c → ⊥
  pub apart : (p : ℕ) → walks p to.top ≡ false
  pub fit : is_fit to.top ≡ true
  pub pools : (n : ℕ) (z : Scope) → slice_get u.scopes n ≡ Some z → (slice_get w.scopes n ≡ Some z) ⊎ (nat_lt 0 (w.shape.pool z.pool).workers ≡ true)

shift_sets : (w u : World) → SetsHold w → Shifts w u → GathersHold u → SetsHold u
shift_sets w u h m g = record {
  gathers = g;
  bodies = λ s c b. bodies s c (same_party s m.party) refl (subst (λ k. 1 ≤ all_bodies c k) (m.stack s) b);
  fit = λ s. ap (λ k. is_fit (k.top)) (m.stack s) ∙ fit s (same_party s m.party) refl;
  pools = λ n z e. ap (λ i. nat_lt 0 (i.pool z.pool).workers) m.shape ∙ elim (m.pools n z e) [ inl a ↦ h.pools n z a | inr a ↦ a ];
  unset = λ s c a b. unset s c (same_party s m.party) refl (ap (λ k. means c (k.top)) (sym (m.stack s)) ∙ a) (m.latch c b);
  one = λ s t c a b. alone s t c (same_party s m.party) (same_party t m.party) refl refl (ap (λ k. means c (k.top)) (sym (m.stack s)) ∙ a) (ap (λ k. means c (k.top)) (sym (m.stack t)) ∙ b);
  ends = λ s p i a b e. ends s p i (same_party s m.party) refl (ap (λ k. walks p (k.top)) (sym (m.stack s)) ∙ a) (let f : unset_from ((u.stack s).top) ≡ unset_from ((put_stack w.stack m.party m.to s).top) = ap (λ k. unset_from (k.top)) (m.stack s) in omega (arith, b, f)) (ap (λ k. k.latch) (sym (m.seat p i)) ∙ e);
  walker = λ s t p a b. walker s t p (same_party s m.party) (same_party t m.party) refl refl (ap (λ k. walks p (k.top)) (sym (m.stack s)) ∙ a) (ap (λ k. walks p (k.top)) (sym (m.stack t)) ∙ b);
}
  where
    -- a call of which a share of a body is kept was there
    known : (s : Party) (c : ℕ) → 1 ≤ all_bodies c (w.stack s) → c + 1 ≤ w.calls
    known s c b = elim (either (ltb c w.calls)) [
      | inl y ↦ (let a : c < w.calls = ltb-true c w.calls y in omega (arith, a))
      | inr y ↦ absurd (let a : all_bodies c (w.stack s) ≡ 0 = ((h.gathers).scopes).unopened c (ltb-false c w.calls y) s in omega (arith, a, b))
    ]

    same : (s : Party) (c : ℕ) → 1 ≤ all_bodies c (w.stack s) → is_body (u.job (u.call c).job).kind ≡ true
    same s c b = ap is_body (m.kinds c (known s c b)) ∙ h.bodies s c b

    bodies : (s : Party) (c : ℕ) (d : Bool) → same_party s m.party ≡ d → 1 ≤ all_bodies c (if d then m.to else w.stack s) → is_body (u.job (u.call c).job).kind ≡ true
    bodies s c false y b = same s c b
    bodies s c true y b = elim (m.bodies c b) [ inl a ↦ same m.party c a | inr a ↦ a ]

    fit : (s : Party) (d : Bool) → same_party s m.party ≡ d → is_fit ((if d then m.to else w.stack s).top) ≡ true
    fit s true y = m.fit
    fit s false y = h.fit s

    ready : (s : Party) (c : ℕ) → means c (w.stack s).top ≡ true → IsReady w c
    ready s c a = means_ready w s c ((w.stack s).top) a (((calls_of w (h.gathers)).says s).top)

    unset : (s : Party) (c : ℕ) (d : Bool) → same_party s m.party ≡ d → means c ((if d then m.to else w.stack s).top) ≡ true → (w.call c).latch ≡ IsSet → ⊥
    unset s c false y a b = h.unset s c a b
    unset s c true y a b = m.comes c a (((calls_of w (h.gathers)).latches c b).1)

    alone : (s t : Party) (c : ℕ) (d e : Bool) → same_party s m.party ≡ d → same_party t m.party ≡ e → means c ((if d then m.to else w.stack s).top) ≡ true → means c ((if e then m.to else w.stack t).top) ≡ true → s ≡ t
    alone s t c true true y v a b = same_party_true s m.party y ∙ sym (same_party_true t m.party v)
    alone s t c false false y v a b = h.one s t c a b
    alone s t c true false y v a b = absurd (m.comes c a (ready t c b))
    alone s t c false true y v a b = absurd (m.comes c b (ready s c a))

    ends : (s : Party) (p i : ℕ) (d : Bool) → same_party s m.party ≡ d → walks p ((if d then m.to else w.stack s).top) ≡ true → unset_from ((if d then m.to else w.stack s).top) ≤ i → (w.seat p i).latch ≡ IsSet → ⊥
    ends s p i false y a b e = h.ends s p i a b e
    ends s p i true y a b e = not_true (walks p ((m.to).top)) (m.apart p) a

    walker : (s t : Party) (p : ℕ) (d e : Bool) → same_party s m.party ≡ d → same_party t m.party ≡ e → walks p ((if d then m.to else w.stack s).top) ≡ true → walks p ((if e then m.to else w.stack t).top) ≡ true → s ≡ t
    walker s t p true true y v a b = same_party_true s m.party y ∙ sym (same_party_true t m.party v)
    walker s t p false false y v a b = h.walker s t p a b
    walker s t p true false y v a b = absurd (not_true (walks p ((m.to).top)) (m.apart p) a)
    walker s t p false true y v a b = absurd (not_true (walks p ((m.to).top)) (m.apart p) b)

-- a place that its party comes to by no act sets nothing
set_none : (x : Place) (y : Place) → is_fit x ≡ true → Onto None None (λ p. false) 0 (is_fit x) y → ((c : ℕ) → means c y ≡ true → ⊥) × ((p : ℕ) → walks p y ≡ false) × (is_fit y ≡ true)
set_none x y f o = (
  λ c e. absurd (let a : None ≡ Some c = o.0 c e in cc),
  λ p. elim (either (walks p y)) [ inl a ↦ absurd (elim (o.1 p a) [ inl b ↦ (let n : false ≡ true = b.0 in cc) | inr b ↦ (let n : None ≡ Some p = b in cc) ]) | inr a ↦ a ],
  o.2 f,
)

-- a party goes on as if its act had seen this
seen_shifts : (w : World) (q : Party) (g : PoolShape) (x : Place) (fs : List Place) (e : Seen) → w.stack q ≡ record { top = x; below = fs } → SetsHold w → Onto None None (λ p. false) 0 (is_fit x) (after_move (next_of g q x e) fs).top → Shifts w (record w { stack = put_stack w.stack q (after_move (next_of g q x e) fs) })
seen_shifts w q g x fs e z h o = record {
  party = q;
  to = after_move (next_of g q x e) fs;
  stack = λ r. refl;
  shape = refl;
  kinds = λ c b. refl;
  calls = λ c b. refl;
  latch = λ c a. a;
  seat = λ p i. refl;
  bodies = λ c b. inl (let a : all_bodies c (after_move (next_of g q x e) fs) + spent c x ≤ all_bodies c (w.stack q) = le_after w q x fs g e c z in omega (arith, a, b));
  comes = λ c a r. none.0 c a;
  apart = none.1;
  fit = none.2;
  pools = λ n s a. inl a;
}
  where
    none : ((c : ℕ) → means c (after_move (next_of g q x e) fs).top ≡ true → ⊥) × ((p : ℕ) → walks p (after_move (next_of g q x e) fs).top ≡ false) × (is_fit (after_move (next_of g q x e) fs).top ≡ true)
    none = set_none x ((after_move (next_of g q x e) fs).top) (ap (λ k. is_fit (k.top)) (sym z) ∙ h.fit q) o

from_shifts : (w : World) (q : Party) (x : Place) (fs : List Place) (v : ℕ) → w.stack q ≡ record { top = x; below = fs } → SetsHold w → IfSome (after_choice w q (record { top = x; below = fs }) x v) (Shifts w)
from_shifts w q (PickVictim k) fs v z h = if_cond (Shifts w) (nat_lt v (w.shape.pool (own_pool q)).workers) _ (λ y. seen_shifts w q (w.shape.pool (own_pool q)) (PickVictim k) fs (Start v) z h (apart_on None None (λ p. false) 0 true ((after_move (next_of (w.shape.pool (own_pool q)) q (PickVictim k) (Start v)) fs).top) (λ c. refl, λ p. refl, refl)))
from_shifts w q YieldPick fs v z h = if_cond (Shifts w) (nat_lt v (w.shape.pool (own_pool q)).workers) _ (λ y. seen_shifts w q (w.shape.pool (own_pool q)) YieldPick fs (Start v) z h (apart_on None None (λ p. false) 0 true ((after_move (next_of (w.shape.pool (own_pool q)) q YieldPick (Start v)) fs).top) (λ c. refl, λ p. refl, refl)))
from_shifts w q _ fs v z h = tt

-- where a refused act leads
refused_on : (h : PoolShape) (q : Party) (x : Place) (fs : List Place) (fit : Bool) → IsApart ((after_move (next_of h q x Refused) fs).top) → Onto None None (λ p. false) 0 fit ((after_move (next_of h q x Refused) fs).top)
refused_on h q x fs fit a = apart_on None None (λ p. false) 0 fit ((after_move (next_of h q x Refused) fs).top) a

refuse_shifts : (w : World) (q : Party) (x : Place) (fs : List Place) → w.stack q ≡ record { top = x; below = fs } → SetsHold w → IfSome (after_refusal w q (record { top = x; below = fs })) (Shifts w)
refuse_shifts w q (GrowCall n) fs z h = seen_shifts w q (w.shape.pool (own_pool q)) (GrowCall n) fs Refused z h (refused_on (w.shape.pool (own_pool q)) q (GrowCall n) fs (is_fit (GrowCall n)) (λ c. refl, λ p. refl, refl))
refuse_shifts w q (GrowScope o) fs z h = seen_shifts w q (w.shape.pool (own_pool q)) (GrowScope o) fs Refused z h (refused_on (w.shape.pool (own_pool q)) q (GrowScope o) fs true (λ c. refl, λ p. refl, refl))
refuse_shifts w q (OpenSlot n) fs z h = seen_shifts w q (w.shape.pool (own_pool q)) (OpenSlot n) fs Refused z h (refused_on (w.shape.pool (own_pool q)) q (OpenSlot n) fs true (λ c. refl, λ p. refl, refl))
refuse_shifts w q (AddToFifo f) fs z h = seen_shifts w q (w.shape.pool (own_pool q)) (AddToFifo f) fs Refused z h (refused_on (w.shape.pool (own_pool q)) q (AddToFifo f) fs true (drawn_apart (count_book f.count) (Feed f)))
refuse_shifts w q (PushToken f v) fs z h = seen_shifts w q (w.shape.pool (own_pool q)) (PushToken f v) fs Refused z h (refused_on (w.shape.pool (own_pool q)) q (PushToken f v) fs true (λ c. refl, λ p. refl, refl))
refuse_shifts w q (OpenForAll b) fs z h = seen_shifts w q (w.shape.pool (own_pool q)) (OpenForAll b) fs Refused z h (λ c e. absurd (cc), λ p e. absurd (cc), λ u. u)
refuse_shifts w q (PushForAll b) fs z h = seen_shifts w q (w.shape.pool (own_pool q)) (PushForAll b) fs Refused z h (unpushed_on b b.count)
refuse_shifts w q (GrowCast g) fs z h = seen_shifts w q (w.shape.pool (own_pool q)) (GrowCast g) fs Refused z h (refused_on (w.shape.pool (own_pool q)) q (GrowCast g) fs (is_fit (GrowCast g)) (λ c. refl, λ p. refl, refl))
refuse_shifts w q (DealPieces g) fs z h = seen_shifts w q (w.shape.pool (own_pool q)) (DealPieces g) fs Refused z h (refused_on (w.shape.pool (own_pool q)) q (DealPieces g) fs true (λ c. refl, λ p. refl, refl))
refuse_shifts w q (PushJob n v) fs z h = seen_shifts w q (w.shape.pool (own_pool q)) (PushJob n v) fs Refused z h (refused_on (w.shape.pool (own_pool q)) q (PushJob n v) fs true (drawn_apart (plan_book n) n))
refuse_shifts w q _ fs z h = tt

steal_apart : (g : PoolShape) (q : Party) (k : Wait) (n : ℕ) → IsApart (next_steal g q k n)
steal_apart g q k n = by (n == 0)
  where
    by : (b : Bool) → IsApart (if b then PopInjected k else StealFrom (record k { victim = not_self g.workers (own_index q) (next_victim g.workers k.victim) }) (n - 1))
    by true = (λ c. refl, λ p. refl, refl)
    by false = (λ c. refl, λ p. refl, refl)

yield_apart : (g : PoolShape) (q : Party) (v n : ℕ) → IsApart (next_yield g q v n)
yield_apart g q v n = by (n == 0)
  where
    by : (b : Bool) → IsApart (if b then YieldPopInjected else YieldSteal (not_self g.workers (own_index q) (next_victim g.workers v)) (n - 1))
    by true = (λ c. refl, λ p. refl, refl)
    by false = (λ c. refl, λ p. refl, refl)

miss_shifts : (w : World) (q : Party) (x : Place) (fs : List Place) → w.stack q ≡ record { top = x; below = fs } → SetsHold w → IfSome (after_miss w q (record { top = x; below = fs }) x) (Shifts w)
miss_shifts w (Worker a b) (StealFrom k n) fs z h = if_cond (Shifts w) (can_miss w a k.victim) _ (λ y. seen_shifts w (Worker a b) (w.shape.pool a) (StealFrom k n) fs Missing z h (apart_on None None (λ p. false) 0 true (next_steal (w.shape.pool a) (Worker a b) k n) (steal_apart (w.shape.pool a) (Worker a b) k n)))
miss_shifts w (Worker a b) (YieldSteal v n) fs z h = if_cond (Shifts w) (can_miss w a v) _ (λ y. seen_shifts w (Worker a b) (w.shape.pool a) (YieldSteal v n) fs Missing z h (apart_on None None (λ p. false) 0 true (next_yield (w.shape.pool a) (Worker a b) v n) (yield_apart (w.shape.pool a) (Worker a b) v n)))
miss_shifts w (Worker a b) _ fs z h = tt
miss_shifts w (Caller n) _ fs z h = tt

-- the end of a run: that of the job that a call waits for leads to its store
abbrev ClosedTop : JobKind → Place → Type 0
ClosedTop k y = ((c : ℕ) → means c y ≡ true → (o : Party) × (k ≡ Stored c o)) × ((p : ℕ) → walks p y ≡ false) × (is_fit y ≡ true)

closed_apart : (k : JobKind) (y : Place) → IsApart y → ClosedTop k y
closed_apart k y a = (λ c e. absurd (not_true (means c y) (a.0 c) e), a.1, a.2)

resumed_apart : (e : Ending) (fs : List Place) → AllFrames fs → IsApart (after_resume fs e).top
resumed_apart e [] a = (λ c. refl, λ p. refl, refl)
resumed_apart e (f ∷ fs) a = on_apart f e (a.0)

closed_top : (t : ℕ) (k : JobKind) (e : Ending) (fs : List Place) → AllFrames fs → ClosedTop k (after_close t k e fs).top
closed_top t (Stored c o) e fs a = (λ d y. (o, ap (λ n. Stored n o) (sym (eqb-true d c y))), λ p. refl, refl)
closed_top t (Detached p) e fs a = closed_apart (Detached p) ((after_close t (Detached p) e fs).top) (λ c. refl, λ p. refl, refl)
closed_top t (Scoped c o) e fs a = closed_apart (Scoped c o) ((after_close t (Scoped c o) e fs).top) (λ c. refl, λ p. refl, refl)
closed_top t (PieceOf c o) e fs a = closed_apart (PieceOf c o) ((after_close t (PieceOf c o) e fs).top) (λ c. refl, λ p. refl, refl)
closed_top t Direct e fs a = closed_apart Direct ((after_close t Direct e fs).top) (resumed_apart e fs a)
closed_top t (BodyOf c o) e fs a = closed_apart (BodyOf c o) ((after_close t (BodyOf c o) e fs).top) (resumed_apart e fs a)
closed_top t (WholeOf c o) e fs a = closed_apart (WholeOf c o) ((after_close t (WholeOf c o) e fs).top) (resumed_apart e fs a)
closed_top t (TokenOf i b) e fs a = closed_apart (TokenOf i b) ((after_close t (TokenOf i b) e fs).top) (resumed_apart e fs a)

-- while that job runs, its call's latch cannot be set
run_unready : (w : World) (q : Party) (t c : ℕ) (k : JobKind) (o : Party) (fs : List Place) → SetsHold w → w.stack q ≡ record { top = Run t k; below = fs } → k ≡ Stored c o → IsReady w c → ⊥
run_unready w q t c k o fs h z i y = undone_unready w c h (tie.0) (ap (λ n. is_whole (w.job n).kind) (tie.1) ∙ ap is_whole (said.1)) undone y
  where
    stands : w.stack q ≡ record { top = Run t (Stored c o); below = fs }
    stands = z ∙ ap (λ v. record { top = Run t v; below = fs }) i

    said : SaysRun w t (Stored c o)
    said = top_says w q (Run t (Stored c o)) fs (calls_of w (h.gathers)) stands

    tie : (c + 1 ≤ w.calls) × ((w.call c).job ≡ t)
    tie = (calls_of w (h.gathers)).ties t (said.0) c o (said.1)

    running : (w.job t).at ≡ Running q
    running = (at_work ((w.job t).at) ((w.job t).runs) q (where_is (Work q) (loc_at (w.job t)) (let a : worked t (w.stack q) ≡ is_loc (Work q) (loc_at (w.job t)) = (((calls_of w (h.gathers)).jobs).ok).placed (Work q) t in let b : worked t (w.stack q) ≡ (one (t == t) + runs_in t fs) = ap (worked t) z in let d : one (t == t) ≡ 1 = self_one t in omega (arith, a, b, d)))).1

    undone : is_done (w.job (w.call c).job).at ≡ false
    undone = ap (λ n. is_done (w.job n).at) (tie.1) ∙ ap is_done running

end_shifts : (w : World) (q : Party) (d : Ending) (x : Place) (fs : List Place) → w.stack q ≡ record { top = x; below = fs } → SetsHold w → IfSome (after_end w q d (record { top = x; below = fs }) x) (Shifts w)
end_shifts w q d (Run t k) fs z h = record {
  party = q;
  to = after_close t k d fs;
  stack = λ r. refl;
  shape = refl;
  kinds = λ c b. put_same (λ j. j.kind) w.job t (at_job (w.job t) (Over d)) ((w.call c).job) refl;
  calls = λ c b. refl;
  latch = λ c a. a;
  seat = λ p i. refl;
  bodies = λ c b. inl (let a : all_bodies c (after_close t k d fs) ≤ bodies_in c fs = closed_body c t k d fs in let e : all_bodies c (w.stack q) ≡ (0 + bodies_in c fs) = ap (all_bodies c) z in omega (arith, a, b, e));
  comes = λ c a r. (let o : (o : Party) × (k ≡ Stored c o) = top.0 c a in run_unready w q t c k (o.0) fs h z (o.1) r);
  apart = top.1;
  fit = top.2;
  pools = λ n s a. inl a;
}
  where
    top : ClosedTop k (after_close t k d fs).top
    top = closed_top t k d fs (subst (λ j. AllFrames (j.below)) z ((h.gathers).frames q))
end_shifts w q d _ fs z h = tt

-- a call begins: its latch is not set
call_unset : (w : World) (v : Call) → v.latch ≡ Unset → (i : ℕ) → (put w.call w.calls v i).latch ≡ IsSet → (w.call i).latch ≡ IsSet
call_unset w v n i = by (i == w.calls)
  where
    by : (b : Bool) → (if b then v else w.call i).latch ≡ IsSet → (w.call i).latch ≡ IsSet
    by true a = absurd (let e : Unset ≡ IsSet = sym n ∙ a in cc)
    by false a = a

call_old : (w : World) (v : Call) (i : ℕ) → i + 1 ≤ w.calls → put w.call w.calls v i ≡ w.call i
call_old w v i b = put_old w.call w.calls v i (below_new i w.calls b)

one_old : (w : World) (v : Job) (t : ℕ) → t + 1 ≤ w.jobs → put w.job w.jobs v t ≡ w.job t
one_old w v t b = put_old w.job w.jobs v t (below_new t w.jobs b)

two_old : (w : World) (v y : Job) (t : ℕ) → t + 1 ≤ w.jobs → put (put w.job w.jobs v) (w.jobs + 1) y t ≡ w.job t
two_old w v y t b = put_old (put w.job w.jobs v) (w.jobs + 1) y t (below_new t (w.jobs + 1) (omega (arith, b))) ∙ one_old w v t b

-- a body's share above a party's stack, or in it
some_body : (a b : ℕ) → 1 ≤ a + b → (1 ≤ a) ⊎ (1 ≤ b)
some_body zero b l = inr (omega (arith, l))
some_body (suc a) b l = inl (omega arith)

called_shifts : (w : World) (q : Party) (y : Place) (C : ℕ → Call) (J : ℕ → Job) (c j : ℕ) (l : List Scope) → SetsHold w → IsApart y → ((t : ℕ) → t + 1 ≤ w.jobs → J t ≡ w.job t) → ((i : ℕ) → i + 1 ≤ w.calls → C i ≡ w.call i) → ((i : ℕ) → (C i).latch ≡ IsSet → (w.call i).latch ≡ IsSet) → ((i : ℕ) → 1 ≤ body i y → is_body (J (C i).job).kind ≡ true) → ((n : ℕ) (z : Scope) → slice_get l n ≡ Some z → (slice_get w.scopes n ≡ Some z) ⊎ (nat_lt 0 (w.shape.pool z.pool).workers ≡ true)) → Shifts w (record w { stack = put_stack w.stack q (after_call (w.stack q) y); call = C; job = J; calls = c; jobs = j; scopes = l })
called_shifts w q y C J c j l h a jo ca la bo po = record {
  party = q;
  to = after_call (w.stack q) y;
  stack = λ r. refl;
  shape = refl;
  kinds = λ i b. ap (λ v. (J v.job).kind) (ca i b) ∙ ap (λ v. v.kind) (jo ((w.call i).job) ((h.gathers).target i b));
  calls = λ i b. ap (λ v. v.latch) (ca i b);
  latch = la;
  seat = λ p i. refl;
  bodies = λ i b. elim (some_body (body i y) (all_bodies i (w.stack q)) b) [ inl e ↦ inr (bo i e) | inr e ↦ inl e ];
  comes = λ i e r. not_true (means i y) (a.0 i) e;
  apart = a.1;
  fit = a.2;
  pools = po;
}

-- a call that is no scope, and makes no call's latch
plain_shifts : (w : World) (q : Party) (y : Place) (J : ℕ → Job) (j : ℕ) → SetsHold w → IsApart y → ((i : ℕ) → body i y ≡ 0) → ((t : ℕ) → t + 1 ≤ w.jobs → J t ≡ w.job t) → Shifts w (record w { stack = put_stack w.stack q (after_call (w.stack q) y); call = w.call; job = J; calls = w.calls; jobs = j; scopes = w.scopes })
plain_shifts w q y J j h a n jo = called_shifts w q y w.call J w.calls j w.scopes h a jo (λ i b. refl) (λ i e. e) (λ i b. absurd (let e : body i y ≡ 0 = n i in omega (arith, b, e))) (λ n z e. inl e)

spawn_shifts : (w : World) (q : Party) (p : ℕ) → SetsHold w → IfSome (after_spawn w q p (w.stack q)) (Shifts w)
spawn_shifts w q p h = if_cond (Shifts w) (is_free ((w.stack q).top) && is_pool w.shape p) _ (λ f. plain_shifts w q (RaiseCount (Detach p w.jobs)) (put w.job w.jobs (new_job q p (Detached p))) (w.jobs + 1) h (λ c. refl, λ p. refl, refl) (λ i. refl) (one_old w (new_job q p (Detached p))))

sent_shifts : (w : World) (q : Party) (p : ℕ) (b : Bool) → SetsHold w → Shifts w (after_send w q p (w.stack q) b)
sent_shifts w q p true h = plain_shifts w q (RaiseCount (Here p w.jobs)) (put w.job w.jobs (new_job q p Direct)) (w.jobs + 1) h (λ c. refl, λ p. refl, refl) (λ i. refl) (one_old w (new_job q p Direct))
sent_shifts w q p false h = called_shifts w q (RaiseCount (Send (record { number = w.calls; pool = p; job = w.jobs }))) (put w.call w.calls (new_call None w.jobs)) (put w.job w.jobs (new_job q p (Stored w.calls q))) (w.calls + 1) (w.jobs + 1) w.scopes h (λ c. refl, λ p. refl, refl) (one_old w (new_job q p (Stored w.calls q))) (call_old w (new_call None w.jobs)) (call_unset w (new_call None w.jobs) refl) (λ i b. absurd (omega (arith, b))) (λ n z e. inl e)

install_shifts : (w : World) (q : Party) (p : ℕ) → SetsHold w → IfSome (after_install w q p (w.stack q)) (Shifts w)
install_shifts w q p h = if_cond (Shifts w) (is_free ((w.stack q).top) && is_pool w.shape p) _ (λ f. sent_shifts w q p (is_member q p) h)

join_shifts : (w : World) (q : Party) → SetsHold w → IfSome (after_join w q (w.stack q)) (Shifts w)
join_shifts w (Caller n) h = tt
join_shifts w (Worker p i) h = if_cond (Shifts w) (is_free ((w.stack (Worker p i)).top)) _ (λ f. called_shifts w (Worker p i) (RaiseCount (Fork (record { number = w.calls; pool = p; job = w.jobs + 1 }) w.jobs)) (put w.call w.calls (new_call (Some w.jobs) (w.jobs + 1))) (put (put w.job w.jobs (new_job (Worker p i) p Direct)) (w.jobs + 1) (new_job (Worker p i) p (Stored w.calls (Worker p i)))) (w.calls + 1) (w.jobs + 2) w.scopes h (λ c. refl, λ p. refl, refl) (two_old w (new_job (Worker p i) p Direct) (new_job (Worker p i) p (Stored w.calls (Worker p i)))) (call_old w (new_call (Some w.jobs) (w.jobs + 1))) (call_unset w (new_call (Some w.jobs) (w.jobs + 1)) refl) (λ i b. absurd (omega (arith, b))) (λ n z e. inl e))

-- the scopes after one more
more_scopes : (l : List Scope) (s : Scope) (n : ℕ) (z : Scope) → slice_get (l ++ s ∷ []) n ≡ Some z → (slice_get l n ≡ Some z) ⊎ (s ≡ z)
more_scopes [] s zero z e = inr (cc)
more_scopes [] s (suc n) z e = absurd (cc)
more_scopes (y ∷ ys) s zero z e = inl e
more_scopes (y ∷ ys) s (suc n) z e = more_scopes ys s n z e

scope_shifts : (w : World) (q : Party) (p : ℕ) → SetsHold w → IfSome (after_scope w q p (w.stack q)) (Shifts w)
scope_shifts w q p h = if_cond (Shifts w) (is_free ((w.stack q).top) && is_pool w.shape p) _ (λ f. called_shifts w q (RaiseCount (Open (record { number = w.calls; pool = p; job = w.jobs }))) (put w.call w.calls (new_call None w.jobs)) (put w.job w.jobs (new_job q p (BodyOf w.calls q))) (w.calls + 1) (w.jobs + 1) (w.scopes ++ new ∷ []) h (λ c. refl, λ p. refl, refl) (one_old w (new_job q p (BodyOf w.calls q))) (call_old w (new_call None w.jobs)) (call_unset w (new_call None w.jobs) refl)
    (λ i b. own i (i == w.calls) refl b)
    (λ n z e. elim (more_scopes w.scopes new n z e) [ inl a ↦ inl a | inr a ↦ inr (ap (λ (s : Scope). nat_lt 0 (w.shape.pool s.pool).workers) (sym a) ∙ (and_parts (is_free ((w.stack q).top)) (is_pool w.shape p) f).1) ]))
  where
    new : Scope
    new = record { call = w.calls; pool = p; owner = q }

    own : (i : ℕ) (b : Bool) → (i == w.calls) ≡ b → 1 ≤ one b → is_body (put w.job w.jobs (new_job q p (BodyOf w.calls q)) (put w.call w.calls (new_call None w.jobs) i).job).kind ≡ true
    own i true e b = ap (λ n. is_body (put w.job w.jobs (new_job q p (BodyOf w.calls q)) (put w.call w.calls (new_call None w.jobs) n).job).kind) (eqb-true i w.calls e) ∙ ap (λ v. is_body (put w.job w.jobs (new_job q p (BodyOf w.calls q)) v.job).kind) (put_new w.call w.calls (new_call None w.jobs)) ∙ ap (λ j. is_body j.kind) (put_new w.job w.jobs (new_job q p (BodyOf w.calls q)))
    own i false e b = absurd (omega (arith, b))

enter_shifts : (w : World) (q : Party) (z : Scope) → SetsHold w → IfSome (after_enter w q (w.stack q) (Some z)) (Shifts w)
enter_shifts w q z h = if_cond (Shifts w) (is_free ((w.stack q).top) && holds z.call (w.stack q)) _ (λ f. plain_shifts w q (RaiseCount (Enter (record { call = z.call; owner = z.owner; pool = z.pool; job = w.jobs }))) (put w.job w.jobs (new_job q z.pool (Scoped z.call z.owner))) (w.jobs + 1) h (λ c. refl, λ p. refl, refl) (λ i. refl) (one_old w (new_job q z.pool (Scoped z.call z.owner))))

feed_shifts : (w : World) (k : Count) (p i : ℕ) → SetsHold w → Shifts w (after_feed w k p i (w.stack (Worker p i)))
feed_shifts w k p i h = plain_shifts w (Worker p i) (RaiseCount (Feed (record { count = k; pool = p; job = w.jobs; token = w.jobs + 1 }))) (put (put w.job w.jobs (new_job (Worker p i) p (count_kind k))) (w.jobs + 1) (new_job (Worker p i) p (TokenOf i (count_book k)))) (w.jobs + 2) h (λ c. refl, λ p. refl, refl) (λ i. refl) (two_old w (new_job (Worker p i) p (count_kind k)) (new_job (Worker p i) p (TokenOf i (count_book k))))

deal_shifts : (w : World) (q : Party) (d : Count) (p : ℕ) → SetsHold w → nat_lt 0 (w.shape.pool p).workers ≡ true → Shifts w (after_deal w q d p (w.stack q))
deal_shifts w q d p h n = plain_shifts w q (RaiseForAll c) (put_pieces c (λ i j. new_piece q d p i) w.job) (w.jobs + c.workers) h (λ c. refl, λ p. refl, n) (λ i. refl) (λ t b. piece_old c (λ i j. new_piece q d p i) w.job t (piece_out c t (omega (arith, b))))
  where
    c : Pieces
    c = record { count = d; pool = p; first = w.jobs; workers = (w.shape.pool p).workers }

gather_shifts : (w : World) (q : Party) (p : ℕ) → SetsHold w → IfSome (after_broadcast w q p (w.stack q)) (Shifts w)
gather_shifts w q p h = if_cond (Shifts w) (is_free ((w.stack q).top) && is_pool w.shape p) _ (λ f. called_shifts w q (RaiseCount (Gather (record { call = record { number = w.calls; pool = p; job = n }; pieces = c }))) (put w.call w.calls (new_gathering c.workers n)) (put dealt n (new_whole q p w.calls)) (w.calls + 1) (n + 1) w.scopes h (λ c. refl, λ p. refl, (and_parts (is_free ((w.stack q).top)) (is_pool w.shape p) f).1) old (call_old w (new_gathering c.workers n)) (call_unset w (new_gathering c.workers n) refl) (λ i b. absurd (omega (arith, b))) (λ n z e. inl e))
  where
    c : Pieces
    c = record { count = OfCast w.calls q; pool = p; first = w.jobs; workers = (w.shape.pool p).workers }

    n : ℕ
    n = w.jobs + c.workers

    dealt : ℕ → Job
    dealt = put_pieces c (λ i j. new_piece q (OfCast w.calls q) p i) w.job

    old : (t : ℕ) → t + 1 ≤ w.jobs → put dealt n (new_whole q p w.calls) t ≡ w.job t
    old t b = put_old dealt n (new_whole q p w.calls) t (below_new t n (omega (arith, b))) ∙ piece_old c (λ i j. new_piece q (OfCast w.calls q) p i) w.job t (piece_out c t (omega (arith, b)))

-- one party goes elsewhere, and nothing else is changed but pools
moved_shifts : (w : World) (q : Party) (y : Place) (P : ℕ → Pool) → IsApart y → ((c : ℕ) → body c y ≡ 0) → Shifts w (record w { stack = put_stack w.stack q (after_call (w.stack q) y); pool = P })
moved_shifts w q y P a n = record {
  party = q;
  to = after_call (w.stack q) y;
  stack = λ r. refl;
  shape = refl;
  kinds = λ c b. refl;
  calls = λ c b. refl;
  latch = λ c e. e;
  seat = λ p i. refl;
  bodies = λ c b. inl (let e : body c y ≡ 0 = n c in omega (arith, b, e));
  comes = λ c e r. not_true (means c y) (a.0 c) e;
  apart = a.1;
  fit = a.2;
  pools = λ n s e. inl e;
}

yield_shifts : (w : World) (q : Party) (y : Place) → IsApart y → ((c : ℕ) → body c y ≡ 0) → IfSome (after_yield w q (w.stack q) y) (Shifts w)
yield_shifts w (Worker a b) y n o = if_cond (Shifts w) (is_free ((w.stack (Worker a b)).top)) _ (λ f. moved_shifts w (Worker a b) y w.pool n o)
yield_shifts w (Caller c) y n o = tt

give_shifts : (w : World) (q : Party) (p : ℕ) → IfSome (after_end_pool w q p (w.stack q)) (Shifts w)
give_shifts w q p = if_cond (Shifts w) (is_free ((w.stack q).top) && (is_pool w.shape p && (w.pool p).held)) _ (λ f. moved_shifts w q (LowerCount (OfPool p) PoolValue Resume) (put w.pool p (record (w.pool p) { held = false })) (λ c. refl, λ p. refl, refl) (λ c. refl))

-- an act, and each other event
abbrev pub is_go : Event → Bool
is_go (Go q) = true
is_go _ = false

pub shift_of : (w : World) (e : Event) → SetsHold w → is_go e ≡ false → IfSome (step w e) (Shifts w)
shift_of w (Go q) h n = cc
shift_of w (From q v) h n = from_shifts w q ((w.stack q).top) ((w.stack q).below) v refl h
shift_of w (Refuse q) h n = refuse_shifts w q ((w.stack q).top) ((w.stack q).below) refl h
shift_of w (Miss q) h n = miss_shifts w q ((w.stack q).top) ((w.stack q).below) refl h
shift_of w (End q d) h n = end_shifts w q d ((w.stack q).top) ((w.stack q).below) refl h
shift_of w (Spawn q p) h n = spawn_shifts w q p h
shift_of w (Fifo q p) h n = fifo_cases (Shifts w) w q p (spawn_shifts w q p h) (λ i free. feed_shifts w (OfPool p) p i h)
shift_of w (Cast q p) h n = if_cond (Shifts w) (is_free ((w.stack q).top) && is_pool w.shape p) _ (λ b. deal_shifts w q (OfPool p) p h ((and_parts (is_free ((w.stack q).top)) (is_pool w.shape p) b).1))
shift_of w (Install q p) h n = install_shifts w q p h
shift_of w (Join q) h n = join_shifts w q h
shift_of w (OpenScope q p) h n = scope_shifts w q p h
shift_of w (IntoSpawn q i) h n = into_cases (Shifts w) w q i (λ z e free held. enter_shifts w q z h)
shift_of w (IntoFifo q k) h n = into_fifo_cases (Shifts w) w q k (λ z e free held. enter_shifts w q z h) (λ z i e free held. feed_shifts w (OfScope z.call z.owner) z.pool i h)
shift_of w (IntoCast q i) h n = into_cast_cases (Shifts w) w q i (λ z e free held. deal_shifts w q (OfScope z.call z.owner) z.pool h (h.pools i z e))
shift_of w (Broadcast q p) h n = gather_shifts w q p h
shift_of w (Yield q) h n = yield_shifts w q YieldPop (λ c. refl, λ p. refl, refl) (λ c. refl)
shift_of w (YieldLocal q) h n = yield_shifts w q LocalPop (λ c. refl, λ p. refl, refl) (λ c. refl)
shift_of w (EndPool q p) h n = give_shifts w q p

each_sets : (w : World) (e : Event) → SetsHold w → IfSome (step w e) (λ u. GathersHold u → SetsHold u)
each_sets w (Go q) h = acted_keeps w q (w.stack q) (target_pool q (act_of q ((w.stack q).top))) (target_worker q (act_of q ((w.stack q).top))) (target_call (act_of q ((w.stack q).top))) (job_at w q (act_of q ((w.stack q).top))) (outcome w q (w.stack q)) (λ u. GathersHold u → SetsHold u) (go_sets w q h)
each_sets w e h = if_some_map (Shifts w) (λ u. GathersHold u → SetsHold u) (λ u m. shift_sets w u h m) (step w e) (shift_of w e h refl)

pub step_sets : (w : World) (e : Event) → SetsHold w → IfSome (step w e) SetsHold
step_sets w e h = if_some_map (λ u. GathersHold u × (GathersHold u → SetsHold u)) SetsHold (λ u f. f.1 (f.0)) (step w e)
    (if_some_and GathersHold (λ u. GathersHold u → SetsHold u) (step w e) (step_gathers w e (h.gathers)) (each_sets w e h))

first_apart : (h : Shape) (q : Party) → IsApart (first_place h q)
first_apart h (Caller n) = at (nat_lt n h.callers)
  where
    at : (z : Bool) → IsApart (if z then Free else Stopped)
    at true = (λ c. refl, λ p. refl, refl)
    at false = (λ c. refl, λ p. refl, refl)
first_apart h (Worker p i) = at (nat_lt i (h.pool p).workers) ((h.pool p).callers_own && (i == 0))
  where
    at : (y z : Bool) → IsApart (if y then (if z then Free else ProbeWorking (fresh Termination)) else Stopped)
    at true true = (λ c. refl, λ p. refl, refl)
    at true false = (λ c. refl, λ p. refl, refl)
    at false z = (λ c. refl, λ p. refl, refl)

first_bodies : (h : Shape) (c : ℕ) (q : Party) → all_bodies c ((start h).stack q) ≡ 0
first_bodies h c q = ((first_gathers h).scopes).unopened c (omega arith) q

pub first_sets : (h : Shape) → SetsHold (start h)
first_sets h = record {
  gathers = first_gathers h;
  bodies = λ q c b. absurd (let a : all_bodies c ((start h).stack q) ≡ 0 = first_bodies h c q in omega (arith, a, b));
  fit = λ q. (first_apart h q).2;
  pools = λ n z e. absurd (cc);
  unset = λ q c a b. not_true (means c (first_place h q)) ((first_apart h q).0 c) a;
  one = λ q r c a b. absurd (not_true (means c (first_place h q)) ((first_apart h q).0 c) a);
  ends = λ q p i a b e. not_true (walks p (first_place h q)) ((first_apart h q).1 p) a;
  walker = λ q r p a b. absurd (not_true (walks p (first_place h q)) ((first_apart h q).1 p) a);
}

pub always_sets : (h : Shape) (es : List Event) (w : World) → IsRun (start h) es w → SetsHold w
always_sets h es w r = run_keeps SetsHold step_sets (start h) w es (first_sets h) r
