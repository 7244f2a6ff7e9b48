-- acts after which the same workers are committed, and none has ceased to be inactive
--
-- The lemma of such an act is `quiet_go`.
use Rattle.std.proofs.Common.{rules, arith, refl, sym, ◌∙◌, ap, subst}
use Rattle.std.specs.Prelude.{ℕ, Bool, true, false, ◌&&◌, ◌||◌, ◌==◌, if◌then◌else◌, ◌≡◌, [], ◌∷◌, IfSome}
use Rattle.rayon_machine_places.specs.declared.place.Party.{Party}
use Rattle.rayon_machine_places.specs.declared.place.Party.TheVariants.{Worker, Caller}
use Rattle.rayon_machine_places.specs.declared.place.Place.{Place}
use Rattle.rayon_machine_places.specs.declared.place.Place.TheVariants.{ProbeWorking, LookAtInjector, BlockSelf, LeaveSearch, WakeWorker, SetLatch, WakeSettled, UnlockSettled, BecomeInactive}
use Rattle.rayon_machine_places.specs.declared.place.Move.{Move}
use Rattle.rayon_machine_places.specs.declared.act.Seen.{Seen}
use Rattle.rayon_machine_places.specs.declared.act.Seen.TheVariants.{Yes}
use Rattle.rayon_machine_places.specs.declared.shape.PoolShape.{PoolShape}
use Rattle.rayon_machine_places.specs.declared.place.Settling.{Settling}
use Rattle.rayon_machine_places.specs.Places.{same_party, after_set, act_of, next_of}
use Rattle.rayon_machine_runs.specs.World.{Shape, Seat, Stack, World, counts_at, Part, effect}
use Rattle.rayon_machine_places.specs.Sleepers.{Counts}
use Rattle.rayon_machine_places.specs.Targets.{target_pool, target_worker, target_call}
use Rattle.rayon_machine_runs.specs.Steps.{part_of, after_move}
use Rattle.rayon_machine_laws.specs.Committed.{is_blocking, is_committed}
use Rattle.rayon_machine_laws.proofs.Acts.{Inactive, Blocked, writes_at, keeps}
use Rattle.rayon_machine_laws.proofs.Frame.{same_index, same_party_true, if_some_all, if_some_and, if_some_map}
use Rattle.rayon_machine_laws.proofs.Locks.{tops_map}
use Rattle.rayon_machine_laws.proofs.Seats.{is_frame}
use Rattle.rayon_machine_laws.proofs.Ties.{AllFrames, job_at, shape_at, outcome, result}
use Rattle.rayon_machine_laws.proofs.Tops.{Tops, top_after, FramesOk, is_light, frame_light, settled_leads, leads_tops}

-- no worker ceases to be inactive, and the same are blocked
pub record SameSets (s t : Seat) : Type 0 where
  pub inactive : s.inactive ≡ true → t.inactive ≡ true
  pub blocked : t.blocked ≡ s.blocked

abbrev is_becoming : Place → Bool
is_becoming (BecomeInactive k) = true
is_becoming _ = false

-- the places at which a party neither commits itself, nor ceases to be inactive, nor wakes
abbrev pub is_quiet : Place → Bool
is_quiet (LookAtInjector k) = false
is_quiet (BlockSelf k) = false
is_quiet (LeaveSearch k) = false
is_quiet (WakeWorker k) = false
is_quiet (WakeSettled s) = false
is_quiet _ = true

pub quiet_awake : (x : Place) → is_quiet x ≡ true → is_blocking x ≡ false
quiet_awake (BlockSelf k) e = cc
quiet_awake _ e = refl

pub light_awake : (x : Place) → is_light x ≡ true → is_blocking x ≡ false
light_awake (BlockSelf k) e = cc
light_awake _ e = refl

pub frame_awake : (f : Place) → is_frame f ≡ true → is_blocking f ≡ false
frame_awake f e = light_awake f (frame_light f e)

quiet_writes : (x : Place) → is_quiet x ≡ true → is_becoming x ≡ false → writes_at x (Inactive ∷ Blocked ∷ []) ≡ false
quiet_writes (BlockSelf k) z n = cc
quiet_writes _ z n = cc

seat_left : (h : Shape) (q : Party) (c : Counts) (m : Part) (x : Place) → writes_at x (Inactive ∷ Blocked ∷ []) ≡ false → IfSome (effect (act_of q x) h q c m) (λ r. SameSets m.seat (r.1.seat))
seat_left h q c m x n = keeps h q c m (λ v r. SameSets v.seat (r.1.seat)) (Inactive ∷ Blocked ∷ []) x n (λ r k. record { inactive = λ e. k.0 ∙ e; blocked = (k.1).0 })

-- what a quiet act does to a seat
pub seat_same : (h : Shape) (q : Party) (c : Counts) (m : Part) (x : Place) → is_quiet x ≡ true → IfSome (effect (act_of q x) h q c m) (λ r. SameSets m.seat (r.1.seat))
seat_same h (Worker i j) c m (BecomeInactive k) z = record { inactive = λ e. refl; blocked = refl }
seat_same h (Caller n) c m (BecomeInactive k) z = tt
seat_same h q c m x z = seat_left h q c m x (quiet_writes x z refl)

settled_awake : (h : PoolShape) (q : Party) (s : Settling) → Tops (λ y. is_blocking y ≡ false) (after_set h q s s.latch)
settled_awake h q s = tops_map (λ y. is_light y ≡ true) (λ y. is_blocking y ≡ false) light_awake (after_set h q s s.latch) (leads_tops (after_set h q s s.latch) (settled_leads false h q s s.latch))

set_awake : (h : PoolShape) (q : Party) (s : Settling) (e : Seen) → Tops (λ y. is_blocking y ≡ false) (next_of h q (SetLatch s) e)
set_awake h q s Yes = refl
set_awake h q s _ = settled_awake h q s

abbrev looks_last : Place → Bool
looks_last (LookAtInjector k) = true
looks_last _ = false

-- only from the last look at the injector does a party come to block itself
pub stays_awake : (h : Shape) (g : PoolShape) (q : Party) (c : Counts) (m : Part) (x : Place) → looks_last x ≡ false → IfSome (effect (act_of q x) h q c m) (λ r. Tops (λ y. is_blocking y ≡ false) (next_of g q x (r.0)))
stays_awake h g (Worker i j) c m (ProbeWorking k) z = search (rules, arith)
stays_awake h g q c m (LookAtInjector k) z = cc
stays_awake h g q c m (SetLatch s) z = if_some_all {A = Seen × Part} (λ r. Tops (λ y. is_blocking y ≡ false) (next_of g q (SetLatch s) (r.0))) (λ r. set_awake g q s (r.0)) (effect (act_of q (SetLatch s)) h q c m)
stays_awake h g q c m (UnlockSettled s) z = if_some_all {A = Seen × Part} (λ r. Tops (λ y. is_blocking y ≡ false) (next_of g q (UnlockSettled s) (r.0))) (λ r. settled_awake g q s) (effect (act_of q (UnlockSettled s)) h q c m)
stays_awake h g (Worker i j) c m _ z = search (rules, arith)
stays_awake h g (Caller n) c m _ z = search (rules, arith)

pub quiet_looks : (x : Place) → is_quiet x ≡ true → looks_last x ≡ false
quiet_looks (LookAtInjector k) e = cc
quiet_looks _ e = refl

-- the act of a party at the top of its stack, with all that it touches
abbrev pub part_at : World → Party → Stack → Part
part_at w q k = part_of w (target_pool q (act_of q k.top)) (target_worker q (act_of q k.top)) (target_call (act_of q k.top)) (job_at w q (act_of q k.top))

abbrev pub counts_seen : World → Party → Stack → Counts
counts_seen w q k = counts_at w (target_pool q (act_of q k.top))

-- where the party goes
abbrev pub next_at : World → Party → Stack → Seen → Move
next_at w q k e = next_of (shape_at w q k) q k.top e

-- the party's top after its act, where a relation holds of it and of each frame
pub top_then : (R : Place → Type 0) (w : World) (q : Party) (k : Stack) (e : Seen) → w.stack q ≡ k → FramesOk w → ((f : Place) → is_frame f ≡ true → R f) → Tops R (next_at w q k e) → R ((after_move (next_at w q k e) k.below).top)
top_then R w q k e is fr frame t = top_after R (next_at w q k e) k.below t frame (subst (λ z. AllFrames (z.below)) is (fr q))

-- the same workers of each pool are committed, and none has ceased to be inactive
abbrev pub Quiet : World → World → ℕ → ℕ → Type 0
Quiet w u p i = ((w.seat p i).inactive ≡ true → (u.seat p i).inactive ≡ true) × (is_committed u p i ≡ is_committed w p i)

quiet_at : (w : World) (q : Party) (k : Stack) → w.stack q ≡ k → FramesOk w → is_blocking k.top ≡ false → (r : Seen × Part) → SameSets ((part_at w q k).seat) (r.1.seat) → Tops (λ y. is_blocking y ≡ false) (next_at w q k (r.0)) → (p i : ℕ) (b d : Bool) → same_party (Worker p i) q ≡ b
    → ((p == target_pool q (act_of q k.top)) && (i == target_worker q (act_of q k.top))) ≡ d → ((w.seat p i).inactive ≡ true → (if d then r.1.seat else w.seat p i).inactive ≡ true)
    × ((is_blocking ((if b then after_move (next_at w q k (r.0)) k.below else w.stack (Worker p i)).top) || (if d then r.1.seat else w.seat p i).blocked) ≡ is_committed w p i)
quiet_at w q k e fr awake r s t p i b d eb ed = (seat d ed, ap (λ n. n || (if d then r.1.seat else w.seat p i).blocked) (top b eb) ∙ ap (λ n. is_blocking (w.stack (Worker p i)).top || n) (blocked d ed))
  where
    here : (p == target_pool q (act_of q k.top)) && (i == target_worker q (act_of q k.top)) ≡ true → (part_at w q k).seat ≡ w.seat p i
    here z = let at : (p ≡ target_pool q (act_of q k.top)) × (i ≡ target_worker q (act_of q k.top)) = same_index p i (target_pool q (act_of q k.top)) (target_worker q (act_of q k.top)) z in ap (λ n. w.seat n (target_worker q (act_of q k.top))) (sym (at.0)) ∙ ap (λ n. w.seat p n) (sym (at.1))

    seat : (d : Bool) → ((p == target_pool q (act_of q k.top)) && (i == target_worker q (act_of q k.top))) ≡ d → (w.seat p i).inactive ≡ true → (if d then r.1.seat else w.seat p i).inactive ≡ true
    seat true z h = s.inactive (ap (λ n. n.inactive) (here z) ∙ h)
    seat false z h = h

    blocked : (d : Bool) → ((p == target_pool q (act_of q k.top)) && (i == target_worker q (act_of q k.top))) ≡ d → (if d then r.1.seat else w.seat p i).blocked ≡ (w.seat p i).blocked
    blocked true z = s.blocked ∙ ap (λ n. n.blocked) (here z)
    blocked false z = refl

    top : (b : Bool) → same_party (Worker p i) q ≡ b → is_blocking ((if b then after_move (next_at w q k (r.0)) k.below else w.stack (Worker p i)).top) ≡ is_blocking (w.stack (Worker p i)).top
    top true z = top_then (λ y. is_blocking y ≡ false) w q k (r.0) e fr frame_awake t ∙ sym (ap (λ n. is_blocking ((w.stack n).top)) (same_party_true (Worker p i) q z) ∙ ap (λ n. is_blocking (n.top)) e ∙ awake)
    top false z = refl

-- a quiet act
pub quiet_go : (w : World) (q : Party) (k : Stack) → w.stack q ≡ k → FramesOk w → is_quiet k.top ≡ true → IfSome (outcome w q k) (λ r. (p i : ℕ) → Quiet w (result w q k r) p i)
quiet_go w q k e fr z =
    if_some_map (λ r. SameSets ((part_at w q k).seat) (r.1.seat) × Tops (λ y. is_blocking y ≡ false) (next_at w q k (r.0))) (λ r. (p i : ℕ) → Quiet w (result w q k r) p i)
    (λ r h p i. quiet_at w q k e fr (quiet_awake k.top z) r (h.0) (h.1) p i (same_party (Worker p i) q) ((p == target_pool q (act_of q k.top)) && (i == target_worker q (act_of q k.top))) refl refl)
    (outcome w q k)
    (if_some_and (λ r. SameSets ((part_at w q k).seat) (r.1.seat)) (λ r. Tops (λ y. is_blocking y ≡ false) (next_at w q k (r.0))) (outcome w q k)
    (seat_same w.shape q (counts_seen w q k) (part_at w q k) k.top z)
    (stays_awake w.shape (shape_at w q k) q (counts_seen w q k) (part_at w q k) k.top (quiet_looks k.top z)))
