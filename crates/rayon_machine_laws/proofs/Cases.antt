-- every event that is no act, by what it does: a property of the world after a step holds if it does in each of these
-- cases. An invariant gives them as a record
use Rattle.std.proofs.Common.{refl, ap}
use Rattle.std.specs.Prelude.{ℕ, Bool, true, false, ◌&&◌, ◌+◌, ◌-◌, ◌++◌, ◌==◌, nat_lt, if◌then◌else◌, Option, Some, None, ◌≡◌, IfSome, List, [], ◌∷◌, slice_get}
use Rattle.rayon_machine_places.specs.declared.place.Party.{Party}
use Rattle.rayon_machine_places.specs.declared.place.Party.TheVariants.{Worker, Caller}
use Rattle.rayon_machine_places.specs.declared.place.Ending.{Ending}
use Rattle.rayon_machine_places.specs.declared.place.JobKind.{JobKind}
use Rattle.rayon_machine_places.specs.declared.place.JobKind.TheVariants.{Detached, Stored, Direct, Scoped, BodyOf}
use Rattle.rayon_machine_places.specs.declared.place.OpenCall.{OpenCall}
use Rattle.rayon_machine_places.specs.declared.place.Wait.{Wait}
use Rattle.rayon_machine_places.specs.declared.place.Pieces.{Pieces}
use Rattle.rayon_machine_places.specs.declared.place.Gathering.{Gathering}
use Rattle.rayon_machine_places.specs.declared.place.Feeding.{Feeding}
use Rattle.rayon_machine_places.specs.declared.place.Plan.{Plan}
use Rattle.rayon_machine_places.specs.declared.place.Plan.TheVariants.{Detach, Fork, Feed, Open, Enter, Gather}
use Rattle.rayon_machine_places.specs.declared.place.Count.{Count}
use Rattle.rayon_machine_places.specs.declared.place.Count.TheVariants.{OfPool, OfScope, OfCast}
use Rattle.rayon_machine_places.specs.declared.place.Share.TheVariants.{PoolValue}
use Rattle.rayon_machine_places.specs.declared.place.Then.TheVariants.{Resume}
use Rattle.rayon_machine_places.specs.declared.place.Place.{Place}
use Rattle.rayon_machine_places.specs.declared.place.Place.TheVariants.{PickVictim, StealFrom, YieldPick, YieldSteal, YieldPop, LocalPop, Run, RaiseCount, LowerCount, GrowCall, GrowScope, GrowCast, OpenSlot, CloseSlot, OpenForAll, PushJob, PushForAll, CloseForAll, LowerForAll}
use Rattle.rayon_machine_places.specs.declared.place.Place.TheVariants.{PushToken, TakeFromFifo, AddToFifo, DealPieces, PopInjected, YieldPopInjected}
use Rattle.rayon_machine_runs.specs.declared.event.Event.{Event}
use Rattle.rayon_machine_runs.specs.declared.event.Event.TheVariants.{Go, From, Refuse, Miss, End, Spawn, Fifo, Cast, Install, Join, Scope as OpenScope, IntoSpawn, IntoFifo, IntoCast, Broadcast, Yield, YieldLocal, EndPool}
use Rattle.rayon_machine_runs.specs.declared.state.Scope.{Scope}
use Rattle.rayon_machine_runs.specs.declared.state.Whereabouts.TheVariants.{Over}
use Rattle.rayon_machine_places.specs.declared.shape.PoolShape.{PoolShape}
use Rattle.rayon_machine_places.specs.Places.{after_push, count_book, end_cast, is_free, is_member, next_steal, next_victim, next_yield, not_self, own_index, own_pool, plan_book, undo, withdraw}
use Rattle.rayon_machine_runs.specs.Steps.{after_call, after_close, after_join, after_end_pool, after_deal, after_end, after_feed, after_gather, after_miss, after_choice, after_refusal, after_send, after_enter, after_yield, can_miss, holds, is_pool, new_call, new_job, put}
use Rattle.rayon_machine_runs.specs.Steps.{put_stack, step, with_stack}
use Rattle.rayon_machine_runs.specs.World.{World, at_job}
use Rattle.rayon_machine_laws.proofs.Frame.{and_parts, fifo_cases, if_cond, into_cases, into_fifo_cases, into_cast_cases}

-- how a party turns from one place to another with no act: it chooses a victim, a steal of it misses, or it is refused
pub data Turn : Type 0 where
  Picks : Wait → ℕ → ℕ → Turn
  Misses : Wait → ℕ → ℕ → ℕ → Turn
  GivesUp : Wait → ℕ → Turn
  YieldPicks : ℕ → ℕ → Turn
  YieldMisses : ℕ → ℕ → ℕ → ℕ → Turn
  YieldGivesUp : ℕ → ℕ → Turn
  NoCall : Plan → Turn
  NoScope : OpenCall → Turn
  NoSlot : Plan → Turn
  NoCast : Gathering → Turn
  NoDeal : Gathering → Turn
  NoToken : Feeding → Bool → Turn
  NoSlots : Pieces → Turn
  NoPush : (n : Plan) → Bool → plan_book n ≡ None → Turn
  NoPushIn : (n : Plan) → Bool → (c : ℕ) → plan_book n ≡ Some c → Turn
  NoFifo : (f : Feeding) → count_book f.count ≡ None → Turn
  NoFifoIn : (f : Feeding) → (c : ℕ) → count_book f.count ≡ Some c → Turn
  NoPushes : (c : Pieces) → count_book c.count ≡ None → Turn
  NoPushesIn : (c : Pieces) → (n : ℕ) → count_book c.count ≡ Some n → Turn

abbrev pub turn_from : Turn → Place
turn_from (Picks k v n) = PickVictim k
turn_from (Misses k n v m) = StealFrom k n
turn_from (GivesUp k n) = StealFrom k n
turn_from (YieldPicks v n) = YieldPick
turn_from (YieldMisses v n u m) = YieldSteal v n
turn_from (YieldGivesUp v n) = YieldSteal v n
turn_from (NoCall n) = GrowCall n
turn_from (NoScope o) = GrowScope o
turn_from (NoSlot n) = OpenSlot n
turn_from (NoCast g) = GrowCast g
turn_from (NoDeal g) = DealPieces g
turn_from (NoToken f v) = PushToken f v
turn_from (NoSlots c) = OpenForAll c
turn_from (NoPush n v e) = PushJob n v
turn_from (NoPushIn n v c e) = PushJob n v
turn_from (NoFifo f e) = AddToFifo f
turn_from (NoFifoIn f c e) = AddToFifo f
turn_from (NoPushes c e) = PushForAll c
turn_from (NoPushesIn c n e) = PushForAll c

abbrev pub turn_to : Turn → Place
turn_to (Picks k v n) = StealFrom (record k { victim = v }) n
turn_to (Misses k n v m) = StealFrom (record k { victim = v }) m
turn_to (GivesUp k n) = PopInjected k
turn_to (YieldPicks v n) = YieldSteal v n
turn_to (YieldMisses v n u m) = YieldSteal u m
turn_to (YieldGivesUp v n) = YieldPopInjected
turn_to (NoCall n) = undo n
turn_to (NoScope o) = undo (Open o)
turn_to (NoSlot n) = undo n
turn_to (NoCast g) = undo (Gather g)
turn_to (NoDeal g) = undo (Gather g)
turn_to (NoToken f v) = TakeFromFifo f
turn_to (NoSlots c) = LowerForAll c
turn_to (NoPush n v e) = undo n
turn_to (NoPushIn n v c e) = CloseSlot n
turn_to (NoFifo f e) = undo (Feed f)
turn_to (NoFifoIn f c e) = CloseSlot (Feed f)
turn_to (NoPushes c e) = LowerForAll c
turn_to (NoPushesIn c n e) = CloseForAll c

-- a job is made by a party's call, of this plan's place
abbrev pub with_job : World → Party → ℕ → JobKind → Place → World
with_job w q p k x = record w { stack = put_stack w.stack q (after_call (w.stack q) x); job = put w.job w.jobs (new_job q p k); jobs = w.jobs + 1 }

abbrev pub with_scope : World → Party → ℕ → World
with_scope w q p = record w {
  stack = put_stack w.stack q (after_call (w.stack q) (RaiseCount (Open (record { number = w.calls; pool = p; job = w.jobs }))));
  job = put w.job w.jobs (new_job q p (BodyOf w.calls q));
  call = put w.call w.calls (new_call None w.jobs);
  jobs = w.jobs + 1;
  calls = w.calls + 1;
  scopes = w.scopes ++ record { call = w.calls; pool = p; owner = q } ∷ [];
}

abbrev pub with_join : World → ℕ → ℕ → World
with_join w p i = record w {
  stack = put_stack w.stack (Worker p i) (after_call (w.stack (Worker p i)) (RaiseCount (Fork (record { number = w.calls; pool = p; job = w.jobs + 1 }) w.jobs)));
  job = put (put w.job w.jobs (new_job (Worker p i) p Direct)) (w.jobs + 1) (new_job (Worker p i) p (Stored w.calls (Worker p i)));
  call = put w.call w.calls (new_call (Some w.jobs) (w.jobs + 1));
  jobs = w.jobs + 2;
  calls = w.calls + 1;
}

abbrev pub is_free_at : World → Party → Type 0
is_free_at w q = is_free (w.stack q).top ≡ true

-- a scope that is there, and that the free party holds
pub record Holds (w : World) (q : Party) (z : Scope) : Type 0 where
  pub number : ℕ
  pub there : slice_get w.scopes number ≡ Some z
  pub free : is_free_at w q
  pub held : holds z.call (w.stack q) ≡ true

pub record Cases (w : World) (P : World → Type 0) : Type 0 where
  pub turned : (q : Party) (t : Turn) (fs : List Place) → w.stack q ≡ record { top = turn_from t; below = fs } → P (with_stack w q (record { top = turn_to t; below = fs }))
  pub ended : (q : Party) (d : Ending) (t : ℕ) (k : JobKind) (fs : List Place) → w.stack q ≡ record { top = Run t k; below = fs }
      → P (record w { stack = put_stack w.stack q (after_close t k d fs); job = put w.job t (at_job (w.job t) (Over d)) })
  pub spawned : (q : Party) (p : ℕ) → is_free_at w q → P (with_job w q p (Detached p) (RaiseCount (Detach p w.jobs)))
  pub fed : (p i : ℕ) → is_free_at w (Worker p i) → P (after_feed w (OfPool p) p i (w.stack (Worker p i)))
  pub dealt : (q : Party) (p : ℕ) → is_free_at w q → P (after_deal w q (OfPool p) p (w.stack q))
  pub sent : (q : Party) (p : ℕ) (b : Bool) → is_member q p ≡ b → is_free_at w q → P (after_send w q p (w.stack q) b)
  pub joined : (p i : ℕ) → is_free_at w (Worker p i) → P (with_join w p i)
  pub scoped : (q : Party) (p : ℕ) → is_free_at w q → P (with_scope w q p)
  pub entered : (q : Party) (z : Scope) → Holds w q z
      → P (with_job w q z.pool (Scoped z.call z.owner) (RaiseCount (Enter (record { call = z.call; owner = z.owner; pool = z.pool; job = w.jobs }))))
  pub fed_into : (i : ℕ) (z : Scope) → Holds w (Worker z.pool i) z → P (after_feed w (OfScope z.call z.owner) z.pool i (w.stack (Worker z.pool i)))
  pub dealt_into : (q : Party) (z : Scope) → Holds w q z → P (after_deal w q (OfScope z.call z.owner) z.pool (w.stack q))
  pub gathered : (q : Party) (p : ℕ) → is_free_at w q → P (after_gather w q p (w.stack q))
  pub yielded : (p i : ℕ) → is_free_at w (Worker p i) → P (with_stack w (Worker p i) (after_call (w.stack (Worker p i)) YieldPop))
  pub yielded_local : (p i : ℕ) → is_free_at w (Worker p i) → P (with_stack w (Worker p i) (after_call (w.stack (Worker p i)) LocalPop))
  pub given : (q : Party) (p : ℕ) → is_free_at w q → (w.pool p).held ≡ true
      → P (record w { stack = put_stack w.stack q (after_call (w.stack q) (LowerCount (OfPool p) PoolValue Resume)); pool = put w.pool p (record (w.pool p) { held = false }) })

-- the event is an act
abbrev pub is_act : Event → Bool
is_act (Go q) = true
is_act e = false

module _ (P : World → Type 0) (w : World) (c : Cases w P) where
  chosen : (q : Party) (x : Place) (fs : List Place) (v : ℕ) → w.stack q ≡ record { top = x; below = fs } → IfSome (after_choice w q (record { top = x; below = fs }) x v) P
  chosen q (PickVictim k) fs v e = if_cond P (nat_lt v (w.shape.pool (own_pool q)).workers) _ (λ b. c.turned q (Picks k _ _) fs e)
  chosen q YieldPick fs v e = if_cond P (nat_lt v (w.shape.pool (own_pool q)).workers) _ (λ b. c.turned q (YieldPicks _ _) fs e)
  chosen q _ fs v e = tt

  steals_on : (g : PoolShape) (q : Party) (k : Wait) (n : ℕ) (fs : List Place) → w.stack q ≡ record { top = StealFrom k n; below = fs } → P (with_stack w q (record { top = next_steal g q k n; below = fs }))
  steals_on g q k n fs e = at (n == 0)
    where
      at : (b : Bool) → P (with_stack w q (record { top = (if b then PopInjected k else StealFrom (record k { victim = not_self g.workers (own_index q) (next_victim g.workers k.victim) }) (n - 1)); below = fs }))
      at true = c.turned q (GivesUp k n) fs e
      at false = c.turned q (Misses k n _ _) fs e

  yields_on : (g : PoolShape) (q : Party) (v n : ℕ) (fs : List Place) → w.stack q ≡ record { top = YieldSteal v n; below = fs } → P (with_stack w q (record { top = next_yield g q v n; below = fs }))
  yields_on g q v n fs e = at (n == 0)
    where
      at : (b : Bool) → P (with_stack w q (record { top = (if b then YieldPopInjected else YieldSteal (not_self g.workers (own_index q) (next_victim g.workers v)) (n - 1)); below = fs }))
      at true = c.turned q (YieldGivesUp v n) fs e
      at false = c.turned q (YieldMisses v n _ _) fs e

  missed : (q : Party) (x : Place) (fs : List Place) → w.stack q ≡ record { top = x; below = fs } → IfSome (after_miss w q (record { top = x; below = fs }) x) P
  missed (Worker p i) (StealFrom k n) fs e = if_cond P (can_miss w p k.victim) _ (λ b. steals_on (w.shape.pool p) (Worker p i) k n fs e)
  missed (Worker p i) (YieldSteal v n) fs e = if_cond P (can_miss w p v) _ (λ b. yields_on (w.shape.pool p) (Worker p i) v n fs e)
  missed (Worker p i) _ fs e = tt
  missed (Caller n) _ fs e = tt

  -- a call with a number of a book takes it back first
  withdraws : (q : Party) (n : Plan) (fs : List Place) → (plan_book n ≡ None → P (with_stack w q (record { top = undo n; below = fs }))) → ((d : ℕ) → plan_book n ≡ Some d → P (with_stack w q (record { top = CloseSlot n; below = fs }))) → P (with_stack w q (record { top = after_push n; below = fs }))
  withdraws q n fs f g = by (plan_book n) refl
    where
      by : (o : Option ℕ) → plan_book n ≡ o → P (with_stack w q (record { top = withdraw o n; below = fs }))
      by None e = f e
      by (Some d) e = g d e

  uncasts : (q : Party) (b : Pieces) (k : Count) (fs : List Place) → b.count ≡ k → w.stack q ≡ record { top = PushForAll b; below = fs } → P (with_stack w q (record { top = end_cast k b; below = fs }))
  uncasts q b (OfPool p) fs s e = c.turned q (NoPushes b (ap count_book s)) fs e
  uncasts q b (OfScope n o) fs s e = c.turned q (NoPushesIn b n (ap count_book s)) fs e
  uncasts q b (OfCast n o) fs s e = c.turned q (NoPushes b (ap count_book s)) fs e

  refused : (q : Party) (x : Place) (fs : List Place) → w.stack q ≡ record { top = x; below = fs } → IfSome (after_refusal w q (record { top = x; below = fs })) P
  refused q (GrowCall n) fs e = c.turned q (NoCall n) fs e
  refused q (GrowScope o) fs e = c.turned q (NoScope o) fs e
  refused q (OpenSlot n) fs e = c.turned q (NoSlot n) fs e
  refused q (GrowCast g) fs e = c.turned q (NoCast g) fs e
  refused q (DealPieces g) fs e = c.turned q (NoDeal g) fs e
  refused q (PushToken f v) fs e = c.turned q (NoToken f v) fs e
  refused q (OpenForAll b) fs e = c.turned q (NoSlots b) fs e
  refused q (PushForAll b) fs e = uncasts q b b.count fs refl e
  refused q (PushJob n v) fs e = withdraws q n fs (λ o. c.turned q (NoPush n v o) fs e) (λ d o. c.turned q (NoPushIn n v d o) fs e)
  refused q (AddToFifo f) fs e = withdraws q (Feed f) fs (λ o. c.turned q (NoFifo f o) fs e) (λ d o. c.turned q (NoFifoIn f d o) fs e)
  refused q _ fs e = tt

  closed : (q : Party) (d : Ending) (x : Place) (fs : List Place) → w.stack q ≡ record { top = x; below = fs } → IfSome (after_end w q d (record { top = x; below = fs }) x) P
  closed q d (Run t k) fs e = c.ended q d t k fs e
  closed q d _ fs e = tt

  -- a call at a pool that there is, by a free party
  at_pool : (q : Party) (p : ℕ) (u : World) → (is_free_at w q → P u) → IfSome (if is_free (w.stack q).top && is_pool w.shape p then Some u else None) P
  at_pool q p u f = if_cond P (is_free (w.stack q).top && is_pool w.shape p) u (λ b. f ((and_parts (is_free (w.stack q).top) (is_pool w.shape p) b).0))

  enters : (q : Party) (n : ℕ) (z : Scope) → slice_get w.scopes n ≡ Some z → is_free_at w q → holds z.call (w.stack q) ≡ true → IfSome (after_enter w q (w.stack q) (Some z)) P
  enters q n z e f h = if_cond P (is_free (w.stack q).top && holds z.call (w.stack q)) _ (λ b. c.entered q z (record { number = n; there = e; free = f; held = h }))

  joins : (q : Party) → IfSome (after_join w q (w.stack q)) P
  joins (Worker p i) = if_cond P (is_free (w.stack (Worker p i)).top) _ (λ f. c.joined p i f)
  joins (Caller n) = tt

  yields : (q : Party) (x : Place) → ((p i : ℕ) → is_free_at w (Worker p i) → P (with_stack w (Worker p i) (after_call (w.stack (Worker p i)) x))) → IfSome (after_yield w q (w.stack q) x) P
  yields (Worker p i) x f = if_cond P (is_free (w.stack (Worker p i)).top) _ (λ e. f p i e)
  yields (Caller n) x f = tt

  gives : (q : Party) (p : ℕ) → IfSome (after_end_pool w q p (w.stack q)) P
  gives q p = if_cond P (is_free (w.stack q).top && (is_pool w.shape p && (w.pool p).held)) _ (λ b. (let a : (is_free (w.stack q).top ≡ true) × ((is_pool w.shape p && (w.pool p).held) ≡ true) = and_parts _ _ b in c.given q p (a.0) ((and_parts (is_pool w.shape p) ((w.pool p).held) (a.1)).1)))

  pub event_cases : (e : Event) → is_act e ≡ false → IfSome (step w e) P
  event_cases (Go q) n = cc
  event_cases (From q v) n = chosen q (w.stack q).top (w.stack q).below v refl
  event_cases (Refuse q) n = refused q (w.stack q).top (w.stack q).below refl
  event_cases (Miss q) n = missed q (w.stack q).top (w.stack q).below refl
  event_cases (End q d) n = closed q d (w.stack q).top (w.stack q).below refl
  event_cases (Spawn q p) n = at_pool q p _ (c.spawned q p)
  event_cases (Fifo q p) n = fifo_cases P w q p (at_pool q p _ (c.spawned q p)) (λ i f. c.fed p i f)
  event_cases (Cast q p) n = at_pool q p _ (c.dealt q p)
  event_cases (Install q p) n = at_pool q p _ (c.sent q p (is_member q p) refl)
  event_cases (Join q) n = joins q
  event_cases (OpenScope q p) n = at_pool q p _ (c.scoped q p)
  event_cases (IntoSpawn q k) n = into_cases P w q k (enters q k)
  event_cases (IntoFifo q k) n = into_fifo_cases P w q k (enters q k) (λ z i e f h. c.fed_into i z (record { number = k; there = e; free = f; held = h }))
  event_cases (IntoCast q k) n = into_cast_cases P w q k (λ z e f h. c.dealt_into q z (record { number = k; there = e; free = f; held = h }))
  event_cases (Broadcast q p) n = at_pool q p _ (c.gathered q p)
  event_cases (Yield q) n = yields q YieldPop c.yielded
  event_cases (YieldLocal q) n = yields q LocalPop c.yielded_local
  event_cases (EndPool q p) n = gives q p
