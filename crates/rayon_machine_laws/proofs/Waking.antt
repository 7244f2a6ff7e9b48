-- a wake takes from the committed only a worker that looks then
use Rattle.std.proofs.Common.{arith, refl, sym, ◌∙◌, ap, subst, inl, inr, ◌≢◌}
use Rattle.std.specs.Prelude.{ℕ, Bool, true, false, ◌&&◌, ◌||◌, ◌==◌, ◌<◌, ◌≤◌, nat_lt, nat_le, if◌then◌else◌, Some, List, ◌≡◌, ◌⊎◌, IfSome}
use Rattle.std.proofs.lemmas.Bool.{eqb-true, eq-eqb, lt-ltb, leb-true}
use Rattle.rayon_machine_places.specs.declared.place.Party.{Party}
use Rattle.rayon_machine_places.specs.declared.place.Party.TheVariants.{Worker, Caller}
use Rattle.rayon_machine_places.specs.declared.place.Place.{Place}
use Rattle.rayon_machine_places.specs.declared.place.Place.TheVariants.{BlockSelf, WakeWorker, UnlockWoken, WakeSettled}
use Rattle.rayon_machine_places.specs.declared.act.Seen.{Seen}
use Rattle.rayon_machine_places.specs.declared.act.Seen.TheVariants.{Yes, No}
use Rattle.rayon_machine_places.specs.declared.place.Walk.{Walk}
use Rattle.rayon_machine_places.specs.declared.place.Settling.{Settling}
use Rattle.rayon_machine_places.specs.Places.{same_party, act_of}
use Rattle.rayon_machine_runs.specs.World.{Shape, Seat, Stack, World, Part, effect}
use Rattle.rayon_machine_places.specs.Sleepers.{Counts}
use Rattle.rayon_machine_places.specs.Targets.{target_pool, target_worker}
use Rattle.rayon_machine_runs.specs.Steps.{after_move}
use Rattle.rayon_machine_laws.specs.Committed.{is_blocking, is_committed, is_looking}
use Rattle.rayon_machine_laws.specs.Attended.{is_filled, HasLooker}
use Rattle.rayon_machine_laws.proofs.Attend.{owes, HasOwing, Attended, looks_from, looks_parts, filled_put}
use Rattle.rayon_machine_laws.proofs.Calm.{frame_awake, stays_awake, part_at, counts_seen, next_at, top_then}
use Rattle.rayon_machine_laws.proofs.Frame.{either, and_parts, same_index, same_refl, same_party_true, if_some_and, if_some_map, stack_other}
use Rattle.rayon_machine_laws.proofs.Holding.{LocksOk}
use Rattle.rayon_machine_laws.proofs.Locks.{holds}
use Rattle.rayon_machine_laws.proofs.Pushing.{owing_here, top_is, awake}
use Rattle.rayon_machine_laws.proofs.Seats.{Mode, Lies, mode, inactive_in, lies_in}
use Rattle.rayon_machine_laws.proofs.Sleepers.{committed_holds}
use Rattle.rayon_machine_laws.proofs.Ties.{SeatsOk, shape_at, outcome, result}
use Rattle.rayon_machine_laws.proofs.Tops.{Tops, FramesOk}

-- a seat after a wake: the same sets, or it was blocked and is not
abbrev pub WokeSeat : Seat → Seat → Type 0
WokeSeat s t = (t ≡ s) ⊎ ((s.blocked ≡ true) × (t.blocked ≡ false) × (t.inactive ≡ s.inactive))

-- what a wake does: it wakes the worker if that is blocked, and says so
pub record Woke (m : Part) (r : Seen × Part) : Type 0 where
  pub seat : WokeSeat m.seat (r.1.seat)
  pub injector : r.1.pool.injector ≡ m.pool.injector
  pub no : m.seat.blocked ≡ false → r.0 ≡ No
  pub yes : m.seat.blocked ≡ true → r.1.seat.blocked ≡ false

woke_if : (m : Part) (b : Bool) → m.seat.blocked ≡ b → IfSome (if b then Some (Yes, record m { seat = record (m.seat) { blocked = false; asleep = false } }) else Some (No, m)) (Woke m)
woke_if m true e = record { seat = inr (e, refl, refl); injector = refl; no = λ f. absurd (cc); yes = λ f. refl }
woke_if m false e = record { seat = inl refl; injector = refl; no = λ f. refl; yes = λ f. absurd (cc) }

abbrev pub wakes_at : Place → Bool
wakes_at (WakeWorker k) = true
wakes_at (WakeSettled s) = true
wakes_at _ = false

pub wake_seen : (h : Shape) (q : Party) (c : Counts) (m : Part) (x : Place) → wakes_at x ≡ true → IfSome (effect (act_of q x) h q c m) (Woke m)
wake_seen h (Worker i j) c m (WakeWorker k) e = woke_if m m.seat.blocked refl
wake_seen h (Caller n) c m (WakeWorker k) e = woke_if m m.seat.blocked refl
wake_seen h (Worker i j) c m (WakeSettled s) e = woke_if m m.seat.blocked refl
wake_seen h (Caller n) c m (WakeSettled s) e = woke_if m m.seat.blocked refl
wake_seen h q c m _ e = cc

wakes_awake : (x : Place) → wakes_at x ≡ true → is_blocking x ≡ false
wakes_awake (BlockSelf k) e = cc
wakes_awake _ e = refl

lies_only : (x : Mode) → lies_in x ≡ true → inactive_in x ≡ true
lies_only Lies e = refl
lies_only _ e = cc

lies_awake : (x : Place) → lies_in (mode x) ≡ true → is_blocking x ≡ false
lies_awake (BlockSelf k) e = cc
lies_awake _ e = refl

-- each worker is as committed and as blocked as before, or looks now
pub record Woken (w u : World) (p i : ℕ) : Type 0 where
  pub inactive : (w.seat p i).inactive ≡ true → (u.seat p i).inactive ≡ true
  pub either_way : ((is_committed u p i ≡ is_committed w p i) × ((u.seat p i).blocked ≡ (w.seat p i).blocked)) ⊎ (is_looking u p i ≡ true)

woken_at : (w : World) (q : Party) (k : Stack) → w.stack q ≡ k → SeatsOk w → FramesOk w → wakes_at k.top ≡ true → (r : Seen × Part) → Woke (part_at w q k) r → Tops (λ y. is_blocking y ≡ false) (next_at w q k (r.0)) → (p i : ℕ) → Woken w (result w q k r) p i
woken_at w q k e ok fr z r s t p i = at (same_party (Worker p i) q) ((p == p0) && (i == i0)) refl refl
  where
    p0 : ℕ
    p0 = target_pool q (act_of q k.top)

    i0 : ℕ
    i0 = target_worker q (act_of q k.top)

    x : Place
    x = (w.stack (Worker p i)).top

    here : ((p == p0) && (i == i0)) ≡ true → w.seat p0 i0 ≡ w.seat p i
    here d = let at : (p ≡ p0) × (i ≡ i0) = same_index p i p0 i0 d in ap (λ n. w.seat n i0) (sym (at.0)) ∙ ap (λ n. w.seat p n) (sym (at.1))

    top : (b : Bool) → same_party (Worker p i) q ≡ b → is_blocking ((if b then after_move (next_at w q k (r.0)) k.below else w.stack (Worker p i)).top) ≡ is_blocking x
    top true eb = top_then (λ y. is_blocking y ≡ false) w q k (r.0) e fr frame_awake t ∙ sym (ap (λ n. is_blocking ((w.stack n).top)) (same_party_true (Worker p i) q eb) ∙ ap (λ n. is_blocking (n.top)) e ∙ wakes_awake k.top z)
    top false eb = refl

    at : (b d : Bool) → same_party (Worker p i) q ≡ b → ((p == p0) && (i == i0)) ≡ d → Woken w (result w q k r) p i
    at b false eb ed = record {
      inactive = λ h. (rw ed h);
      either_way = inl ((rw ed (ap (λ n. n || (w.seat p i).blocked) (top (same_party (Worker p i) q) refl))), (rw ed refl));
    }
    at b true eb ed = elim (s.seat) [
      | inl same ↦ (let is : r.1.seat ≡ w.seat p i = same ∙ here ed in record {
        inactive = λ h. (rw ed (ap (λ n. n.inactive) is ∙ h));
        either_way = inl ((rw ed (ap (λ n. is_blocking ((if same_party (Worker p i) q then after_move (next_at w q k (r.0)) k.below else w.stack (Worker p i)).top) || n.blocked) is ∙ ap (λ n. n || (w.seat p i).blocked) (top (same_party (Worker p i) q) refl))), (rw ed (ap (λ n. n.blocked) is)));
      })
      | inr woke ↦ (
          let was : (w.seat p i).blocked ≡ true = ap (λ n. n.blocked) (sym (here ed)) ∙ woke.0 in
          let lies : lies_in (mode x) ≡ true = ((ok p i).top).blocked was in
          let ina : r.1.seat.inactive ≡ true = (woke.2) ∙ ap (λ n. n.inactive) (here ed) ∙ ((ok p i).top).inactive ∙ lies_only (mode x) lies in
          record {
            inactive = λ h. (rw ed ina);
            either_way = inr (looks_from (((result w q k r).seat p i).inactive) (is_committed (result w q k r) p i) (rw ed ina) (rw ed (ap (λ n. n || r.1.seat.blocked) (top (same_party (Worker p i) q) refl ∙ lies_awake x lies) ∙ woke.1)));
          })
    ]

abbrev pub AllWoken : World → World → Type 0
AllWoken w u = (p i : ℕ) → Woken w u p i

looker_there : (w u : World) → u.shape ≡ w.shape → AllWoken w u → (p j : ℕ) → j < (w.shape.pool p).workers → (w.seat p j).inactive ≡ true → is_committed w p j ≡ false → HasLooker u p
looker_there w u sh all p j below ina con = record { worker = j; below = subst (λ n. j < (n.pool p).workers) (sym sh) below; looks = elim ((all p j).either_way) [ inl same ↦ looks_from ((u.seat p j).inactive) (is_committed u p j) ((all p j).inactive ina) (same.0 ∙ con) | inr l ↦ l ] }

-- what the party owed before its wake it owes still, or somebody looks
abbrev pub Lost : World → Party → Stack → Seen × Part → Type 0
Lost w q k r = (p i : ℕ) → i < (w.shape.pool p).workers → owes q k.top p i ≡ true → is_committed w p i ≡ true → HasLooker (result w q k r) p ⊎ (owes q ((after_move (next_at w q k (r.0)) k.below).top) p i ≡ true)

-- after a wake
woken_attends : (w : World) (q : Party) (k : Stack) (r : Seen × Part) → w.stack q ≡ k → Attended w → r.1.pool.injector ≡ (w.pool (target_pool q (act_of q k.top))).injector → AllWoken w (result w q k r) → Lost w q k r → Attended (result w q k r)
woken_attends w q k r e a inj all lost p i below filled has =
    elim ((all p i).either_way) [
      | inr l ↦ absurd (let k : is_committed (result w q k r) p i ≡ false = (looks_parts (((result w q k r).seat p i).inactive) (is_committed (result w q k r) p i) l).1 in cc)
      | inl same ↦ elim (a p i below (filled_put w (target_pool q (act_of q k.top)) (r.1.pool) p (p == target_pool q (act_of q k.top)) refl (λ is h. ap is_filled (sym inj) ∙ h) filled) (sym (same.0) ∙ has)) [
        | inl l ↦ inl (let ps : ((w.seat p (l.worker)).inactive ≡ true) × (is_committed w p (l.worker) ≡ false) = looks_parts ((w.seat p (l.worker)).inactive) (is_committed w p (l.worker)) (l.looks) in looker_there w (result w q k r) refl all p (l.worker) (l.below) (ps.0) (ps.1))
        | inr o ↦ elim ((all p (o.worker)).either_way) [
          | inr l ↦ inl (record { worker = o.worker; below = o.below; looks = l })
          | inl same' ↦ by_party o (same'.0 ∙ o.committed) (same_party (o.party) q) refl
        ]
      ]
    ]
  where
    by_party : (o : HasOwing w p) → is_committed (result w q k r) p (o.worker) ≡ true → (b : Bool) → same_party (o.party) q ≡ b → HasLooker (result w q k r) p ⊎ HasOwing (result w q k r) p
    by_party o con false eb = inr (record {
      party = o.party;
      worker = o.worker;
      below = o.below;
      committed = con;
      owing = (let s : (result w q k r).stack (o.party) ≡ w.stack (o.party) = stack_other w.stack q (after_move (next_at w q k (r.0)) k.below) (o.party) eb in ap (λ y. owes (o.party) (y.top) p (o.worker)) s ∙ o.owing);
    })
    by_party o con true eb = let is : o.party ≡ q = same_party_true (o.party) q eb in elim (lost p (o.worker) (o.below) (ap (λ y. owes q (y.top) p (o.worker)) (sym e) ∙ subst (λ z. owes z (w.stack z).top p (o.worker) ≡ true) is (o.owing)) (o.committed)) [
      | inl l ↦ inl l
      | inr n ↦ inr (owing_here w q ((after_move (next_at w q k (r.0)) k.below).top) (result w q k r) p (o.worker) (top_is w q k r) (o.below) con n)
    ]

some_same : (q r : Party) → Some q ≡ Some r → q ≡ r
some_same q r e = cc

-- who makes a Wake holds the lock, so no worker that it finds awake there is committed
pub not_committed : (w : World) (q : Party) (k : Stack) (r j : ℕ) → w.stack q ≡ k → SeatsOk w → LocksOk w → holds k.top r j ≡ true → is_blocking k.top ≡ false → (w.seat r j).blocked ≡ false → is_committed w r j ≡ false
not_committed w q k r j e ok locks h awake b = elim (either (is_committed w r j)) [
  | inr f ↦ f
  | inl con ↦ absurd (elim (committed_holds w r j ok con) [
    | inr bl ↦ cc
    | inl mine ↦ (let its : (w.seat r j).lock ≡ Some q = locks q r j (ap (λ y. holds (y.top) r j) e ∙ h) in
        let is : Worker r j ≡ q = some_same (Worker r j) q (sym mine ∙ its) in
        let top : is_blocking (w.stack (Worker r j)).top ≡ false = ap (λ n. is_blocking ((w.stack n).top)) is ∙ ap (λ n. is_blocking (n.top)) e ∙ awake in
        let z : is_committed w r j ≡ false = (rw (top, b)) in cc)
  ])
]

-- the wake of one whose latch was set
pub settled_attends : (w : World) (q : Party) (s : Settling) (fs : List Place) → w.stack q ≡ record { top = WakeSettled s; below = fs } → SeatsOk w → FramesOk w → Attended w
    → IfSome (outcome w q (record { top = WakeSettled s; below = fs })) (λ r. Attended (result w q (record { top = WakeSettled s; below = fs }) r))
settled_attends w q s fs e ok fr a =
    if_some_map (λ r. Woke (part_at w q k) r × Tops (λ y. is_blocking y ≡ false) (next_at w q k (r.0))) (λ r. Attended (result w q k r))
    (λ r h. woken_attends w q k r e a ((h.0).injector) (woken_at w q k e ok fr refl r (h.0) (h.1)) (λ p i below o has. cc))
    (outcome w q k)
    (if_some_and (Woke (part_at w q k)) (λ r. Tops (λ y. is_blocking y ≡ false) (next_at w q k (r.0))) (outcome w q k)
    (wake_seen w.shape q (counts_seen w q k) (part_at w q k) (WakeSettled s) refl)
    (stays_awake w.shape (shape_at w q k) q (counts_seen w q k) (part_at w q k) (WakeSettled s) refl))
  where
    k : Stack
    k = record { top = WakeSettled s; below = fs }

target_wake : (q : Party) (n : Walk) → (target_pool q (act_of q (WakeWorker n)) ≡ n.pool) × (target_worker q (act_of q (WakeWorker n)) ≡ n.worker)
target_wake (Worker i j) n = (refl, refl)
target_wake (Caller c) n = (refl, refl)

-- a waker's wake
pub wake_attends : (w : World) (q : Party) (n : Walk) (fs : List Place) → w.stack q ≡ record { top = WakeWorker n; below = fs } → SeatsOk w → FramesOk w → LocksOk w → Attended w
    → IfSome (outcome w q (record { top = WakeWorker n; below = fs })) (λ r. Attended (result w q (record { top = WakeWorker n; below = fs }) r))
wake_attends w q n fs e ok fr locks a =
    if_some_map (λ r. Woke (part_at w q k) r × Tops (λ y. is_blocking y ≡ false) (next_at w q k (r.0))) (λ r. Attended (result w q k r))
    (λ r h. woken_attends w q k r e a ((h.0).injector) (woken_at w q k e ok fr refl r (h.0) (h.1)) (lost r (h.0) (woken_at w q k e ok fr refl r (h.0) (h.1)) ((w.seat n.pool n.worker).blocked) refl))
    (outcome w q k)
    (if_some_and (Woke (part_at w q k)) (λ r. Tops (λ y. is_blocking y ≡ false) (next_at w q k (r.0))) (outcome w q k)
    (wake_seen w.shape q (counts_seen w q k) (part_at w q k) (WakeWorker n) refl)
    (stays_awake w.shape (shape_at w q k) q (counts_seen w q k) (part_at w q k) (WakeWorker n) refl))
  where
    k : Stack
    k = record { top = WakeWorker n; below = fs }

    seat : (part_at w q k).seat ≡ w.seat n.pool n.worker
    seat = ap (λ z. w.seat z (target_worker q (act_of q (WakeWorker n)))) ((target_wake q n).0) ∙ ap (λ z. w.seat n.pool z) ((target_wake q n).1)

    parts : (p i : ℕ) → owes q (WakeWorker n) p i ≡ true → (n.pool ≡ p) × (nat_lt 0 n.owed ≡ true) × (n.worker ≤ i)
    parts p i o = let a : (((n.pool == p) && nat_lt 0 n.owed) ≡ true) × (nat_le n.worker i ≡ true) = and_parts ((n.pool == p) && nat_lt 0 n.owed) (nat_le n.worker i) o in let b : ((n.pool == p) ≡ true) × (nat_lt 0 n.owed ≡ true) = and_parts (n.pool == p) (nat_lt 0 n.owed) (a.0) in
        (eqb-true n.pool p (b.0), b.1, leb-true n.worker i (a.1))

    free : (r : Seen × Part) → r.1.seat.blocked ≡ false → ((result w q k r).seat n.pool n.worker).blocked ≡ false
    free r f = let at : ((n.pool == target_pool q (act_of q (WakeWorker n))) && (n.worker == target_worker q (act_of q (WakeWorker n)))) ≡ true =
        ap (λ z. (n.pool == z) && (n.worker == target_worker q (act_of q (WakeWorker n)))) ((target_wake q n).0) ∙ ap (λ z. (n.pool == n.pool) && (n.worker == z)) ((target_wake q n).1) ∙ same_refl n.pool n.worker in rw at f

    lost : (r : Seen × Part) → Woke (part_at w q k) r → AllWoken w (result w q k r) → (b : Bool) → (w.seat n.pool n.worker).blocked ≡ b → Lost w q k r
    lost r s all true b p i below o has =
        let h : (n.pool ≡ p) × (nat_lt 0 n.owed ≡ true) × (n.worker ≤ i) = parts p i o in
        let l : n.worker < (w.shape.pool n.pool).workers = (let z : i < (w.shape.pool n.pool).workers = subst (λ m. i < (w.shape.pool m).workers) (sym (h.0)) below in let h2 : n.worker ≤ i = h.2 in omega arith) in
        let now : ((result w q k r).seat n.pool n.worker).blocked ≡ false = free r (s.yes (ap (λ z. z.blocked) seat ∙ b)) in
        inl (subst (λ m. HasLooker (result w q k r) m) (h.0)
        (record { worker = n.worker; below = l; looks = elim ((all n.pool n.worker).either_way) [ inl same ↦ absurd (let z : false ≡ true = sym now ∙ same.1 ∙ b in cc) | inr l ↦ l ] }))
    lost r s all false b p i below o has =
        let h : (n.pool ≡ p) × (nat_lt 0 n.owed ≡ true) × (n.worker ≤ i) = parts p i o in
        let free : is_committed w n.pool n.worker ≡ false = not_committed w q k n.pool n.worker e ok locks (same_refl n.pool n.worker) refl b in
        let apart : n.worker ≢ i = λ same. (let con : is_committed w n.pool n.worker ≡ true = subst (λ z. is_committed w z n.worker ≡ true) (sym (h.0)) (subst (λ z. is_committed w p z ≡ true) (sym same) has) in cc) in
        let l : n.worker < i = (let h2 : n.worker ≤ i = h.2 in omega arith) in
        let top : ((after_move (next_at w q k (r.0)) fs).top) ≡ UnlockWoken n = ap (λ z. (after_move (next_at w q k z) fs).top) (s.no (ap (λ z. z.blocked) seat ∙ b)) in
        let some : nat_lt 0 n.owed ≡ true = h.1 in
        let same : (n.pool == p) ≡ true = eq-eqb n.pool p (h.0) in
        let less : nat_lt n.worker i ≡ true = lt-ltb n.worker i l in
        inr (ap (λ z. owes q z p i) top ∙ rw (same, some, less))
