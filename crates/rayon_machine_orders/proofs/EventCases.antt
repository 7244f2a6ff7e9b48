-- each event that is no act, with its guard taken apart: what the worlds after a step owe, once for each form of event
use Rattle.rayon_machine_laws.proofs.Frame.{and_parts, fifo_cases, if_cond, into_cases, into_cast_cases, into_fifo_cases}
use Rattle.rayon_machine_orders.proofs.Words.{ℕ, Bool, true, false, ◌&&◌, ◌+◌, Some, None, List, [], ◌∷◌, ◌++◌, ◌≡◌, IfSome, slice_get, refl, inl, inr, if◌then◌else◌, ◌⊎◌, nat_lt, is_member, own_pool, is_free, is_refusable, step, put, put_stack, is_pool, holds, after_miss, after_send}
use Rattle.rayon_machine_orders.proofs.Words.{after_choice, after_end, after_yield, can_miss, after_enter, after_call, after_feed, new_job, after_deal, after_gather, new_call, with_stack, World, Refused, Start, Event, Go, Spawn, End, OpenScope, Refuse, Fifo, IntoSpawn, Install, Join, Broadcast}
use Rattle.rayon_machine_orders.proofs.Words.{Cast, EndPool, IntoFifo, IntoCast, Miss, From, YieldLocal, Yield, OfPool, OfScope, Ending, JobKind, Scoped, BodyOf, Direct, Detached, Stored, Party, Worker, Caller, Place, LowerCount, RaiseCount, StealFrom, Run, YieldPop, YieldSteal, LocalPop}
use Rattle.rayon_machine_orders.proofs.Words.{PickVictim, YieldPick, Enter, Detach, Fork, Open, PoolValue, Resume, Scope, Wait}
use Rattle.rayon_machine_runs.specs.Steps.{seeing}
use Rattle.rayon_machine_places.specs.declared.act.Seen.TheVariants.{Missing as Lacks}
use Rattle.rayon_machine_laws.proofs.ClaimEvents.{ended_world}

-- the events that are acts
abbrev pub is_act : Event → Bool
is_act (Go q) = true
is_act _ = false

-- the worlds after calls
abbrev pub spawned : World → Party → ℕ → World
spawned w q p = record w { stack = put_stack w.stack q (after_call (w.stack q) (RaiseCount (Detach p w.jobs))); job = put w.job w.jobs (new_job q p (Detached p)); jobs = w.jobs + 1 }

abbrev pub entered : World → Party → Scope → World
entered w q z = record w {
  stack = put_stack w.stack q (after_call (w.stack q) (RaiseCount (Enter (record { call = z.call; owner = z.owner; pool = z.pool; job = w.jobs }))));
  job = put w.job w.jobs (new_job q z.pool (Scoped z.call z.owner));
  jobs = w.jobs + 1;
}

abbrev pub joined : World → ℕ → ℕ → World
joined w p i = record w {
  stack = put_stack w.stack (Worker p i) (after_call (w.stack (Worker p i)) (RaiseCount (Fork (record { number = w.calls; pool = p; job = w.jobs + 1 }) w.jobs)));
  job = put (put w.job w.jobs (new_job (Worker p i) p Direct)) (w.jobs + 1) (new_job (Worker p i) p (Stored w.calls (Worker p i)));
  call = put w.call w.calls (new_call (Some w.jobs) (w.jobs + 1));
  jobs = w.jobs + 2;
  calls = w.calls + 1;
}

abbrev pub opened : World → Party → ℕ → World
opened w q p = record w {
  stack = put_stack w.stack q (after_call (w.stack q) (RaiseCount (Open (record { number = w.calls; pool = p; job = w.jobs }))));
  job = put w.job w.jobs (new_job q p (BodyOf w.calls q));
  call = put w.call w.calls (new_call None w.jobs);
  jobs = w.jobs + 1;
  calls = w.calls + 1;
  scopes = w.scopes ++ record { call = w.calls; pool = p; owner = q } ∷ [];
}

abbrev pub given : World → Party → ℕ → World
given w q p = record w { stack = put_stack w.stack q (after_call (w.stack q) (LowerCount (OfPool p) PoolValue Resume)); pool = put w.pool p (record (w.pool p) { held = false }) }

-- a party can begin a call at a pool, into a scope that it holds, or at all
abbrev pub FreeAt : World → Party → ℕ → Type 0
FreeAt w q p = (is_free (w.stack q).top ≡ true) × (is_pool w.shape p ≡ true)

abbrev pub FreeIn : World → Party → ℕ → Scope → Type 0
FreeIn w q n z = (slice_get w.scopes n ≡ Some z) × (is_free (w.stack q).top ≡ true) × (holds z.call (w.stack q) ≡ true)

pub record Cases (w : World) (P : World → Type 0) : Type 0 where
  pub picks : (q : Party) (k : Wait) (fs : List Place) (v : ℕ) → w.stack q ≡ record { top = PickVictim k; below = fs } → P (seeing w q (record { top = PickVictim k; below = fs }) (own_pool q) (Start v))
  pub yield_picks : (q : Party) (fs : List Place) (v : ℕ) → w.stack q ≡ record { top = YieldPick; below = fs } → P (seeing w q (record { top = YieldPick; below = fs }) (own_pool q) (Start v))
  pub misses : (q : Party) (k : Wait) (n : ℕ) (fs : List Place) → w.stack q ≡ record { top = StealFrom k n; below = fs } → P (seeing w q (record { top = StealFrom k n; below = fs }) (own_pool q) Lacks)
  pub yield_misses : (q : Party) (v n : ℕ) (fs : List Place) → w.stack q ≡ record { top = YieldSteal v n; below = fs } → P (seeing w q (record { top = YieldSteal v n; below = fs }) (own_pool q) Lacks)
  pub refuses : (q : Party) (x : Place) (fs : List Place) → w.stack q ≡ record { top = x; below = fs } → is_refusable x ≡ true → P (seeing w q (record { top = x; below = fs }) (own_pool q) Refused)
  pub ends : (q : Party) (d : Ending) (t : ℕ) (k : JobKind) (fs : List Place) → w.stack q ≡ record { top = Run t k; below = fs } → P (ended_world w q d t k fs)
  pub spawns : (q : Party) (p : ℕ) → FreeAt w q p → P (spawned w q p)
  pub feeds : (p i : ℕ) → is_free (w.stack (Worker p i)).top ≡ true → P (after_feed w (OfPool p) p i (w.stack (Worker p i)))
  pub deals : (q : Party) (p : ℕ) → FreeAt w q p → P (after_deal w q (OfPool p) p (w.stack q))
  pub sends : (q : Party) (p : ℕ) (b : Bool) → FreeAt w q p → P (after_send w q p (w.stack q) b)
  pub joins : (p i : ℕ) → is_free (w.stack (Worker p i)).top ≡ true → P (joined w p i)
  pub opens : (q : Party) (p : ℕ) → FreeAt w q p → P (opened w q p)
  pub gathers : (q : Party) (p : ℕ) → FreeAt w q p → P (after_gather w q p (w.stack q))
  pub enters : (q : Party) (n : ℕ) (z : Scope) → FreeIn w q n z → P (entered w q z)
  pub feeds_in : (i n : ℕ) (z : Scope) → FreeIn w (Worker z.pool i) n z → P (after_feed w (OfScope z.call z.owner) z.pool i (w.stack (Worker z.pool i)))
  pub deals_in : (q : Party) (n : ℕ) (z : Scope) → FreeIn w q n z → P (after_deal w q (OfScope z.call z.owner) z.pool (w.stack q))
  pub yields : (p i : ℕ) (x : Place) → (x ≡ YieldPop) ⊎ (x ≡ LocalPop) → is_free (w.stack (Worker p i)).top ≡ true → P (with_stack w (Worker p i) (after_call (w.stack (Worker p i)) x))
  pub gives : (q : Party) (p : ℕ) → FreeAt w q p → P (given w q p)

chosen : (w : World) (P : World → Type 0) → Cases w P → (q : Party) (x : Place) (fs : List Place) (v : ℕ) → w.stack q ≡ record { top = x; below = fs } → IfSome (after_choice w q (record { top = x; below = fs }) x v) P
chosen w P c q (PickVictim k) fs v z = if_cond P (nat_lt v (w.shape.pool (own_pool q)).workers) _ (λ b. c.picks q k fs v z)
chosen w P c q YieldPick fs v z = if_cond P (nat_lt v (w.shape.pool (own_pool q)).workers) _ (λ b. c.yield_picks q fs v z)
chosen w P c q _ fs v z = tt

missed : (w : World) (P : World → Type 0) → Cases w P → (q : Party) (x : Place) (fs : List Place) → w.stack q ≡ record { top = x; below = fs } → IfSome (after_miss w q (record { top = x; below = fs }) x) P
missed w P c (Worker a b) (StealFrom k n) fs z = if_cond P (can_miss w a k.victim) _ (λ y. c.misses (Worker a b) k n fs z)
missed w P c (Worker a b) (YieldSteal v n) fs z = if_cond P (can_miss w a v) _ (λ y. c.yield_misses (Worker a b) v n fs z)
missed w P c (Worker a b) _ fs z = tt
missed w P c (Caller n) _ fs z = tt

over : (w : World) (P : World → Type 0) → Cases w P → (q : Party) (d : Ending) (x : Place) (fs : List Place) → w.stack q ≡ record { top = x; below = fs } → IfSome (after_end w q d (record { top = x; below = fs }) x) P
over w P c q d (Run t k) fs z = c.ends q d t k fs z
over w P c q d _ fs z = tt

at_pool : (w : World) (P : World → Type 0) (q : Party) (p : ℕ) (u : World) → (FreeAt w q p → P u) → IfSome (if is_free ((w.stack q).top) && is_pool w.shape p then Some u else None) P
at_pool w P q p u f = if_cond P (is_free ((w.stack q).top) && is_pool w.shape p) u (λ b. f (and_parts (is_free ((w.stack q).top)) (is_pool w.shape p) b))

in_scope : (w : World) (P : World → Type 0) → Cases w P → (q : Party) (n : ℕ) (z : Scope) → FreeIn w q n z → IfSome (after_enter w q (w.stack q) (Some z)) P
in_scope w P c q n z f = if_cond P (is_free ((w.stack q).top) && holds z.call (w.stack q)) _ (λ b. c.enters q n z f)

yielded : (w : World) (P : World → Type 0) → Cases w P → (q : Party) (x : Place) → (x ≡ YieldPop) ⊎ (x ≡ LocalPop) → IfSome (after_yield w q (w.stack q) x) P
yielded w P c (Worker a b) x e = if_cond P (is_free ((w.stack (Worker a b)).top)) _ (c.yields a b x e)
yielded w P c (Caller n) x e = tt

-- a property of the world after an event that is no act
pub by_cases : (w : World) (P : World → Type 0) → Cases w P → (e : Event) → is_act e ≡ false → IfSome (step w e) P
by_cases w P c (Go q) n = absurd (let a : true ≡ false = n in cc)
by_cases w P c (From q v) n = chosen w P c q ((w.stack q).top) ((w.stack q).below) v refl
by_cases w P c (Refuse q) n = if_cond P (is_refusable ((w.stack q).top)) _ (λ b. c.refuses q ((w.stack q).top) ((w.stack q).below) refl b)
by_cases w P c (Miss q) n = missed w P c q ((w.stack q).top) ((w.stack q).below) refl
by_cases w P c (End q d) n = over w P c q d ((w.stack q).top) ((w.stack q).below) refl
by_cases w P c (Spawn q p) n = at_pool w P q p (spawned w q p) (c.spawns q p)
by_cases w P c (Fifo q p) n = fifo_cases P w q p (at_pool w P q p (spawned w q p) (c.spawns q p)) (c.feeds p)
by_cases w P c (Cast q p) n = at_pool w P q p (after_deal w q (OfPool p) p (w.stack q)) (c.deals q p)
by_cases w P c (Install q p) n = at_pool w P q p (after_send w q p (w.stack q) (is_member q p)) (c.sends q p (is_member q p))
by_cases w P c (Join (Worker a b)) n = if_cond P (is_free ((w.stack (Worker a b)).top)) _ (c.joins a b)
by_cases w P c (Join (Caller m)) n = tt
by_cases w P c (OpenScope q p) n = at_pool w P q p (opened w q p) (c.opens q p)
by_cases w P c (IntoSpawn q m) n = into_cases P w q m (λ z e f h. in_scope w P c q m z (e, f, h))
by_cases w P c (IntoFifo q m) n = into_fifo_cases P w q m (λ z e f h. in_scope w P c q m z (e, f, h)) (λ z i e f h. c.feeds_in i m z (e, f, h))
by_cases w P c (IntoCast q m) n = into_cast_cases P w q m (λ z e f h. c.deals_in q m z (e, f, h))
by_cases w P c (Broadcast q p) n = at_pool w P q p (after_gather w q p (w.stack q)) (c.gathers q p)
by_cases w P c (Yield q) n = yielded w P c q YieldPop (inl refl)
by_cases w P c (YieldLocal q) n = yielded w P c q LocalPop (inr refl)
by_cases w P c (EndPool q p) n = if_cond P (is_free ((w.stack q).top) && (is_pool w.shape p && (w.pool p).held)) _
    (λ b. let a : (is_free ((w.stack q).top) ≡ true) × ((is_pool w.shape p && (w.pool p).held) ≡ true) = and_parts (is_free ((w.stack q).top)) (is_pool w.shape p && (w.pool p).held) b in c.gives q p (a.0, (and_parts (is_pool w.shape p) ((w.pool p).held) (a.1)).0))
