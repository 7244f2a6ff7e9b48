-- filled injectors are attended: what no act but a few can lose
use Rattle.std.proofs.Common.{arith, refl, sym, ◌∙◌, ap, subst, inl, inr}
use Rattle.std.specs.Prelude.{ℕ, Bool, true, false, not, ◌&&◌, ◌||◌, ◌+◌, ◌==◌, ◌<◌, ◌≤◌, nat_lt, nat_le, if◌then◌else◌, List, [], ◌∷◌, ◌≡◌, ◌⊎◌, IfSome}
use Rattle.std.proofs.lemmas.Bool.{eqb-true, ltb-true, lt-ltb, le-leb}
use Rattle.rayon_machine_places.specs.declared.place.Party.{Party}
use Rattle.rayon_machine_places.specs.declared.place.Party.TheVariants.{Worker, Caller}
use Rattle.rayon_machine_places.specs.declared.place.Then.{Then}
use Rattle.rayon_machine_places.specs.declared.place.Place.{Place}
use Rattle.rayon_machine_places.specs.declared.place.Place.TheVariants.{PopInjected, YieldPopInjected, PushJob, TellNews, LockToWake, WakeWorker, UnlockWoken}
use Rattle.rayon_machine_places.specs.declared.act.Act.{Act}
use Rattle.rayon_machine_places.specs.declared.act.Act.TheVariants.{PopInj}
use Rattle.rayon_machine_places.specs.declared.act.Seen.{Seen}
use Rattle.rayon_machine_places.specs.declared.shape.PoolShape.{PoolShape}
use Rattle.rayon_machine_places.specs.declared.place.Walk.{Walk}
use Rattle.rayon_machine_places.specs.Places.{same_party, walk, act_of}
use Rattle.rayon_machine_runs.specs.World.{Shape, Pool, Stack, World, Part, pop_injector, effect}
use Rattle.rayon_machine_places.specs.Sleepers.{Counts}
use Rattle.rayon_machine_places.specs.Targets.{target_pool}
use Rattle.rayon_machine_runs.specs.Steps.{after_move}
use Rattle.rayon_machine_laws.specs.Committed.{is_committed}
use Rattle.rayon_machine_laws.specs.Attended.{is_filled, HasLooker, has_pushed, owes_wake, HasWaker, IsInjectorAttended}
use Rattle.rayon_machine_laws.proofs.Acts.{Injector, writes_at, keeps}
use Rattle.rayon_machine_laws.proofs.Calm.{is_quiet, part_at, counts_seen, next_at, Quiet, quiet_go}
use Rattle.rayon_machine_laws.proofs.Frame.{and_parts, or_parts, same_party_true, if_some_and, if_some_map}
use Rattle.rayon_machine_laws.proofs.Ties.{outcome, result}
use Rattle.rayon_machine_laws.proofs.Tops.{FramesOk}

-- the party has pushed into the pool and not yet told of it, or owes it a wake and has not passed this worker
abbrev pub owes : Party → Place → ℕ → ℕ → Bool
owes q x p i = has_pushed q x p || owes_wake x p i

-- a party that owes beside a committed worker
pub record HasOwing (w : World) (p : ℕ) : Type 0 where
  pub party : Party
  pub worker : ℕ
  pub below : worker < (w.shape.pool p).workers
  pub committed : is_committed w p worker ≡ true
  pub owing : owes party (w.stack party).top p worker ≡ true

abbrev pub AttendedAt : World → ℕ → Type 0
AttendedAt w p = (i : ℕ) → i < (w.shape.pool p).workers → is_filled (w.pool p).injector ≡ true → is_committed w p i ≡ true → HasLooker w p ⊎ HasOwing w p

abbrev pub Attended : World → Type 0
Attended w = (p : ℕ) → AttendedAt w p

-- who owes is a waker
pub waker_of : (w : World) (p : ℕ) → HasOwing w p → HasWaker w p
waker_of w p o = record { party = o.party; wakes = elim (or_parts (has_pushed (o.party) (w.stack (o.party)).top p) (owes_wake (w.stack (o.party)).top p (o.worker)) (o.owing)) [ inl a ↦ inl a | inr b ↦ inr (record { worker = o.worker; below = o.below; committed = o.committed; owed = b }) ] }

pub attended_injectors : (w : World) → Attended w → IsInjectorAttended w
attended_injectors w a p i below filled has = elim (a p i below filled has) [ inl l ↦ inl l | inr o ↦ inr (waker_of w p o) ]

-- nothing that matters to a pool is lost
pub record Same (w u : World) (p : ℕ) : Type 0 where
  pub workers : (u.shape.pool p).workers ≡ (w.shape.pool p).workers
  pub injector : is_filled (u.pool p).injector ≡ true → is_filled (w.pool p).injector ≡ true
  pub quiet : (i : ℕ) → Quiet w u p i
  pub owing : (g : Party) (i : ℕ) → i < (w.shape.pool p).workers → owes g (w.stack g).top p i ≡ true → owes g (u.stack g).top p i ≡ true

pub looks_from : (a b : Bool) → a ≡ true → b ≡ false → (a && not b) ≡ true
looks_from a b e f = rw (e, f)

pub looks_parts : (a b : Bool) → (a && not b) ≡ true → (a ≡ true) × (b ≡ false)
looks_parts true false e = (refl, refl)
looks_parts true true e = cc
looks_parts false b e = cc

pub attended_same : (w u : World) (p : ℕ) → Same w u p → AttendedAt w p → AttendedAt u p
attended_same w u p s a i below filled has =
    elim (a i (subst (λ n. i < n) s.workers below) (s.injector filled) (sym ((s.quiet i).1) ∙ has)) [
      | inl l ↦ inl (let ps : ((w.seat p (l.worker)).inactive ≡ true) × (is_committed w p (l.worker) ≡ false) = looks_parts ((w.seat p (l.worker)).inactive) (is_committed w p (l.worker)) (l.looks) in
          record { worker = l.worker; below = subst (λ n. l.worker < n) (sym s.workers) (l.below); looks = looks_from ((u.seat p (l.worker)).inactive) (is_committed u p (l.worker)) ((s.quiet (l.worker)).0 (ps.0)) ((s.quiet (l.worker)).1 ∙ ps.1) })
      | inr k ↦ inr (record { party = k.party; worker = k.worker; below = subst (λ n. k.worker < n) (sym s.workers) (k.below); committed = (s.quiet (k.worker)).1 ∙ k.committed; owing = s.owing (k.party) (k.worker) (k.below) (k.owing) })
    ]

pub owing_put : (w : World) (q : Party) (x y : Stack) (g : Party) (p i : ℕ) (b : Bool) → same_party g q ≡ b → w.stack q ≡ x → (owes q x.top p i ≡ true → owes q y.top p i ≡ true) → owes g (w.stack g).top p i ≡ true → owes g (if b then y else w.stack g).top p i ≡ true
owing_put w q x y g p i true eb e f h = let is : g ≡ q = same_party_true g q eb in subst (λ z. owes z y.top p i ≡ true) (sym is) (f (ap (λ z. owes q (z.top) p i) (sym e) ∙ subst (λ z. owes z (w.stack z).top p i ≡ true) is h))
owing_put w q x y g p i false eb e f h = h

pub filled_put : (w : World) (p0 : ℕ) (v : Pool) (p : ℕ) (b : Bool) → (p == p0) ≡ b → (p ≡ p0 → is_filled v.injector ≡ true → is_filled (w.pool p0).injector ≡ true) → is_filled (if b then v else w.pool p).injector ≡ true → is_filled (w.pool p).injector ≡ true
filled_put w p0 v p true eb f h = subst (λ n. is_filled (w.pool n).injector ≡ true) (sym (eqb-true p p0 eb)) (f (eqb-true p p0 eb) h)
filled_put w p0 v p false eb f h = h

-- a quiet act
pub same_quiet : (w : World) (q : Party) (k : Stack) → w.stack q ≡ k → (r : Seen × Part) (p : ℕ) → ((i : ℕ) → Quiet w (result w q k r) p i) → (p ≡ target_pool q (act_of q k.top) → is_filled (r.1.pool.injector) ≡ true → is_filled (w.pool (target_pool q (act_of q k.top))).injector ≡ true)
    → ((i : ℕ) → i < (w.shape.pool p).workers → owes q k.top p i ≡ true → owes q ((after_move (next_at w q k (r.0)) k.below).top) p i ≡ true) → Same w (result w q k r) p
same_quiet w q k e r p quiet inj owe = record {
  workers = refl;
  injector = filled_put w (target_pool q (act_of q k.top)) (r.1.pool) p (p == target_pool q (act_of q k.top)) refl inj;
  quiet = quiet;
  owing = λ g i b. owing_put w q k (after_move (next_at w q k (r.0)) k.below) g p i (same_party g q) refl e (owe i b);
}

abbrev pub is_push : Place → Bool
is_push (PushJob n e) = true
is_push _ = false

-- where an act leaves an injector filled, it was
abbrev pub Shrinks : Act → Shape → Party → Counts → Part → Type 0
Shrinks a h q c m = IfSome (effect a h q c m) (λ r. is_filled (r.1.pool.injector) ≡ true → is_filled m.pool.injector ≡ true)

abbrev pops_injector : Place → Bool
pops_injector (PopInjected k) = true
pops_injector YieldPopInjected = true
pops_injector _ = false

pop_shrinks : (h : Shape) (q : Party) (c : Counts) (m : Part) → Shrinks PopInj h q c m
pop_shrinks h q c m = popped (m.pool.injector) refl
  where
    popped : (l : List ℕ) → m.pool.injector ≡ l → IfSome (pop_injector q m l) (λ r. is_filled (r.1.pool.injector) ≡ true → is_filled m.pool.injector ≡ true)
    popped [] e = λ h. h
    popped (y ∷ ys) e = λ h. ap is_filled e

push_writes : (x : Place) → is_push x ≡ false → pops_injector x ≡ false → writes_at x (Injector ∷ []) ≡ false
push_writes (PopInjected k) z e = cc
push_writes _ z e = cc

injector_left : (h : Shape) (q : Party) (c : Counts) (m : Part) (x : Place) → writes_at x (Injector ∷ []) ≡ false → Shrinks (act_of q x) h q c m
injector_left h q c m x n = keeps h q c m (λ v r. is_filled (r.1.pool.injector) ≡ true → is_filled v.pool.injector ≡ true) (Injector ∷ []) x n (λ r k e. sym (ap is_filled (k.0)) ∙ e)

-- only a push fills an injector
pub shrinks : (h : Shape) (q : Party) (c : Counts) (m : Part) (x : Place) → is_push x ≡ false → Shrinks (act_of q x) h q c m
shrinks h q c m (PushJob n e) z = cc
shrinks h (Worker i j) c m (PopInjected k) z = pop_shrinks h (Worker i j) c m
shrinks h (Worker i j) c m YieldPopInjected z = pop_shrinks h (Worker i j) c m
shrinks h (Caller n) c m (PopInjected k) z = tt
shrinks h (Caller n) c m YieldPopInjected z = tt
shrinks h q c m x z = injector_left h q c m x (push_writes x z refl)

-- places that can owe
abbrev pub is_owing : Place → Bool
is_owing (TellNews n e) = true
is_owing (LockToWake k) = true
is_owing (WakeWorker k) = true
is_owing (UnlockWoken k) = true
is_owing _ = false

pub owes_nothing : (q : Party) (x : Place) (p i : ℕ) → is_owing x ≡ false → owes q x p i ≡ false
owes_nothing q (TellNews n e) p i z = cc
owes_nothing q (LockToWake k) p i z = cc
owes_nothing q (WakeWorker k) p i z = cc
owes_nothing q (UnlockWoken k) p i z = cc
owes_nothing q _ p i z = refl

-- what a walk owes
pub owes_walk : (h : PoolShape) (q : Party) (r n j : ℕ) (t : Then) (fs : List Place) (p i : ℕ) → (r == p) ≡ true → nat_lt 0 n ≡ true → j ≤ i → i < h.workers → owes q ((after_move (walk h q r n j t) fs).top) p i ≡ true
owes_walk h q r n j t fs p i same some at below =
    let a : nat_lt j h.workers ≡ true = lt-ltb j h.workers (omega arith) in
    let b : nat_le j i ≡ true = le-leb j i at in
    rw (some, a, same, some, b)

-- leaving the lock of a worker that it has passed, a walk owes the later ones what it did
pub unlock_owes : (w : World) (q : Party) (n : Walk) (fs : List Place) (p i : ℕ) → i < (w.shape.pool p).workers → owes q (UnlockWoken n) p i ≡ true → owes q ((after_move (walk (w.shape.pool (target_pool q (act_of q (UnlockWoken n)))) q n.pool n.owed (n.worker + 1) n.then) fs).top) p i ≡ true
unlock_owes w q n fs p i below o =
    let a : (((n.pool == p) && nat_lt 0 n.owed) ≡ true) × (nat_lt n.worker i ≡ true) = and_parts ((n.pool == p) && nat_lt 0 n.owed) (nat_lt n.worker i) o in
    let b : ((n.pool == p) ≡ true) × (nat_lt 0 n.owed ≡ true) = and_parts (n.pool == p) (nat_lt 0 n.owed) (a.0) in
    owes_walk (w.shape.pool (target_pool q (act_of q (UnlockWoken n)))) q n.pool n.owed (n.worker + 1) n.then fs p i (b.0) (b.1) (let k : n.worker < i = ltb-true n.worker i (a.1) in omega arith) (subst (λ z. i < (w.shape.pool z).workers) (sym (unlock_pool q n ∙ eqb-true n.pool p (b.0))) below)
  where
    unlock_pool : (q : Party) (n : Walk) → target_pool q (act_of q (UnlockWoken n)) ≡ n.pool
    unlock_pool (Worker x y) n = refl
    unlock_pool (Caller c) n = refl

-- the plain cases: a quiet act that pushes nothing, where what was owed is still owed
pub quiet_attends : (w : World) (q : Party) (k : Stack) → w.stack q ≡ k → FramesOk w → Attended w → is_quiet k.top ≡ true → is_push k.top ≡ false → ((e : Seen) (p i : ℕ) → i < (w.shape.pool p).workers → owes q k.top p i ≡ true → owes q ((after_move (next_at w q k e) k.below).top) p i ≡ true)
    → IfSome (outcome w q k) (λ r. Attended (result w q k r))
quiet_attends w q k e fr a z np owe =
    if_some_map (λ r. ((p i : ℕ) → Quiet w (result w q k r) p i) × (is_filled (r.1.pool.injector) ≡ true → is_filled (w.pool (target_pool q (act_of q k.top))).injector ≡ true)) (λ r. Attended (result w q k r))
    (λ r h p. attended_same w (result w q k r) p (same_quiet w q k e r p (h.0 p) (λ is. h.1) (λ i b. owe (r.0) p i b)) (a p))
    (outcome w q k)
    (if_some_and (λ r. (p i : ℕ) → Quiet w (result w q k r) p i) (λ r. is_filled (r.1.pool.injector) ≡ true → is_filled (w.pool (target_pool q (act_of q k.top))).injector ≡ true) (outcome w q k)
    (quiet_go w q k e fr z)
    (shrinks w.shape q (counts_seen w q k) (part_at w q k) k.top np))
