-- who commits itself has seen an empty injector, and who leaves its search beside a sleeper wakes one
use Rattle.std.proofs.Common.{arith, refl, sym, ◌∙◌, ap, subst, inr}
use Rattle.std.specs.Prelude.{ℕ, Bool, true, false, ◌&&◌, ◌||◌, ◌==◌, ◌<◌, min, if◌then◌else◌, None, List, [], ◌∷◌, ◌≡◌, IfSome}
use Rattle.std.proofs.lemmas.Bool.{eqb-true, eq-eqb, lt-ltb}
use Rattle.rayon_machine_places.specs.declared.place.Party.{Party}
use Rattle.rayon_machine_places.specs.declared.place.Party.TheVariants.{Worker}
use Rattle.rayon_machine_places.specs.declared.place.Then.{Then}
use Rattle.rayon_machine_places.specs.declared.place.Place.{Place}
use Rattle.rayon_machine_places.specs.declared.place.Place.TheVariants.{LookAtInjector, BlockSelf, RelockOwn, LeaveSearch}
use Rattle.rayon_machine_places.specs.declared.act.Seen.{Seen}
use Rattle.rayon_machine_places.specs.declared.act.Seen.TheVariants.{Done, Wakes}
use Rattle.rayon_machine_places.specs.declared.shape.PoolShape.{PoolShape}
use Rattle.rayon_machine_places.specs.declared.place.Wait.{Wait}
use Rattle.rayon_machine_places.specs.Places.{walk, after_found, next_of}
use Rattle.rayon_machine_runs.specs.World.{Seat, Stack, World, count_below, counts_at, Part, empty_seen}
use Rattle.rayon_machine_runs.specs.Steps.{after_move}
use Rattle.rayon_machine_laws.specs.Committed.{is_blocking, is_committed}
use Rattle.rayon_machine_laws.specs.Attended.{is_filled}
use Rattle.rayon_machine_laws.proofs.Attend.{AttendedAt, Attended, attended_same, filled_put, same_quiet, owes_walk}
use Rattle.rayon_machine_laws.proofs.Calm.{light_awake, frame_awake, part_at}
use Rattle.rayon_machine_laws.proofs.Counting.{count_some}
use Rattle.rayon_machine_laws.proofs.Frame.{same_index, same_party_true}
use Rattle.rayon_machine_laws.proofs.Locks.{tops_map}
use Rattle.rayon_machine_laws.proofs.Pushing.{owing_here, top_is}
use Rattle.rayon_machine_laws.proofs.Sleepers.{committed_sleeps}
use Rattle.rayon_machine_laws.proofs.Ties.{AllFrames, SeatsOk, outcome, result}
use Rattle.rayon_machine_laws.proofs.Tops.{top_after, FramesOk, is_light, walk_leads, leads_tops}

-- a worker's own act on its own seat, under the one test that finds them
abbrev Own : World → ℕ → ℕ → ℕ → ℕ → Bool → Stack → Seat → Type 0
Own w c d p i b y s = ((w.seat p i).inactive ≡ true → (if b then s else w.seat p i).inactive ≡ true) × ((is_blocking ((if b then y else w.stack (Worker p i)).top) || (if b then s else w.seat p i).blocked) ≡ is_committed w p i)

-- the last look at the injector: who sees it empty commits itself, and nothing is filled there
look_still : (h : PoolShape) (q : Party) (j : Wait) (fs : List Place) (l : List ℕ) → is_filled l ≡ true → is_blocking ((after_move (next_of h q (LookAtInjector j) (empty_seen l)) fs).top) ≡ false
look_still h q j fs [] f = cc
look_still h q j fs (y ∷ ys) f = refl

pub look_attends : (w : World) (c d : ℕ) (j : Wait) (fs : List Place) → w.stack (Worker c d) ≡ record { top = LookAtInjector j; below = fs } → Attended w
    → IfSome (outcome w (Worker c d) (record { top = LookAtInjector j; below = fs })) (λ r. Attended (result w (Worker c d) (record { top = LookAtInjector j; below = fs }) r))
look_attends w c d j fs e a p i below filled has =
    let r : Seen × Part = (empty_seen (w.pool c).injector, part_at w (Worker c d) k) in
    let filled' : is_filled (w.pool p).injector ≡ true = filled_put w c (w.pool c) p (p == c) refl (λ is h. h) filled in
    attended_same w (result w (Worker c d) k r) p (same_quiet w (Worker c d) k e r p (λ n. at p n ((p == c) && (n == d)) refl (λ is. subst (λ n. is_filled (w.pool n).injector ≡ true) is filled')) (λ is h. h) (λ n b o. cc)) (a p) i below filled has
  where
    k : Stack
    k = record { top = LookAtInjector j; below = fs }

    at : (p i : ℕ) (b : Bool) → ((p == c) && (i == d)) ≡ b → (p ≡ c → is_filled (w.pool c).injector ≡ true) → Own w c d p i b (after_move (next_of (w.shape.pool c) (Worker c d) (LookAtInjector j) (empty_seen (w.pool c).injector)) fs) (w.seat c d)
    at p i true eb f =
        let me : (p ≡ c) × (i ≡ d) = same_index p i c d eb in
        let seat : w.seat c d ≡ w.seat p i = ap (λ n. w.seat n d) (sym (me.0)) ∙ ap (λ n. w.seat p n) (sym (me.1)) in
        let top : is_blocking (w.stack (Worker p i)).top ≡ false = ap (λ n. is_blocking ((w.stack n).top)) (same_party_true (Worker p i) (Worker c d) eb) ∙ ap (λ n. is_blocking (n.top)) e in
        (λ h. ap (λ s. s.inactive) seat ∙ h, ap (λ n. n || (w.seat c d).blocked) (look_still (w.shape.pool c) (Worker c d) j fs (w.pool c).injector (f (me.0)) ∙ sym top) ∙ ap (λ s. is_blocking (w.stack (Worker p i)).top || s.blocked) seat)
    at p i false eb f = (λ h. h, refl)

-- a worker that blocks itself was committed, and is
pub block_attends : (w : World) (c d : ℕ) (j : Wait) (fs : List Place) → w.stack (Worker c d) ≡ record { top = BlockSelf j; below = fs } → Attended w
    → IfSome (outcome w (Worker c d) (record { top = BlockSelf j; below = fs })) (λ r. Attended (result w (Worker c d) (record { top = BlockSelf j; below = fs }) r))
block_attends w c d j fs e a p =
    let r : Seen × Part = (Done, record (part_at w (Worker c d) k) { seat = record (w.seat c d) { blocked = true; lock = None } }) in
    attended_same w (result w (Worker c d) k r) p (same_quiet w (Worker c d) k e r p (λ n. at p n ((p == c) && (n == d)) refl) (λ is h. h) (λ n b o. cc)) (a p)
  where
    k : Stack
    k = record { top = BlockSelf j; below = fs }

    at : (p i : ℕ) (b : Bool) → ((p == c) && (i == d)) ≡ b → Own w c d p i b (record { top = RelockOwn j; below = fs }) (record (w.seat c d) { blocked = true; lock = None })
    at p i true eb =
        let me : (p ≡ c) × (i ≡ d) = same_index p i c d eb in
        let seat : w.seat c d ≡ w.seat p i = ap (λ n. w.seat n d) (sym (me.0)) ∙ ap (λ n. w.seat p n) (sym (me.1)) in
        let top : is_blocking (w.stack (Worker p i)).top ≡ true = ap (λ n. is_blocking ((w.stack n).top)) (same_party_true (Worker p i) (Worker c d) eb) ∙ ap (λ n. is_blocking (n.top)) e in
        (λ h. ap (λ s. s.inactive) seat ∙ h, (rw top refl))
    at p i false eb = (λ h. h, refl)

some_wakes : (n : ℕ) → 0 < n → 0 < min 2 n
some_wakes n h = omega arith

walk_awake : (h : PoolShape) (q : Party) (r n j : ℕ) (t : Then) (fs : List Place) → AllFrames fs → is_blocking ((after_move (walk h q r n j t) fs).top) ≡ false
walk_awake h q r n j t fs a = top_after (λ y. is_blocking y ≡ false) (walk h q r n j t) fs (tops_map (λ y. is_light y ≡ true) (λ y. is_blocking y ≡ false) light_awake (walk h q r n j t) (leads_tops (walk h q r n j t) (walk_leads false h q r n j t))) frame_awake a

-- who leaves its search wakes one if anybody sleeps
pub leave_attends : (w : World) (c d : ℕ) (j : Wait) (fs : List Place) → w.stack (Worker c d) ≡ record { top = LeaveSearch j; below = fs } → SeatsOk w → FramesOk w → Attended w
    → IfSome (outcome w (Worker c d) (record { top = LeaveSearch j; below = fs })) (λ r. Attended (result w (Worker c d) (record { top = LeaveSearch j; below = fs }) r))
leave_attends w c d j fs e ok fr a p = by_pool p (p == c) refl
  where
    k : Stack
    k = record { top = LeaveSearch j; below = fs }

    number : ℕ
    number = min 2 (counts_at w c).sleeping

    r : Seen × Part
    r = (Wakes number, record (part_at w (Worker c d) k) { seat = record (w.seat c d) { inactive = false } })

    to : Stack
    to = after_move (walk (w.shape.pool c) (Worker c d) c number 0 (after_found j.target j.found)) fs

    frames : AllFrames fs
    frames = subst (λ z. AllFrames (z.below)) e (fr (Worker c d))

    at : (p i : ℕ) (b : Bool) → ((p == c) && (i == d)) ≡ b → ((p ≡ c → ⊥) → (w.seat p i).inactive ≡ true → (if b then record (w.seat c d) { inactive = false } else w.seat p i).inactive ≡ true)
        × ((is_blocking ((if b then to else w.stack (Worker p i)).top) || (if b then record (w.seat c d) { inactive = false } else w.seat p i).blocked) ≡ is_committed w p i)
    at p i true eb =
        let me : (p ≡ c) × (i ≡ d) = same_index p i c d eb in
        let seat : w.seat c d ≡ w.seat p i = ap (λ n. w.seat n d) (sym (me.0)) ∙ ap (λ n. w.seat p n) (sym (me.1)) in
        let top : is_blocking (w.stack (Worker p i)).top ≡ false = ap (λ n. is_blocking ((w.stack n).top)) (same_party_true (Worker p i) (Worker c d) eb) ∙ ap (λ n. is_blocking (n.top)) e in
        (λ f h. absurd (f (me.0)), ap (λ n. n || (w.seat c d).blocked) (walk_awake (w.shape.pool c) (Worker c d) c number 0 (after_found j.target j.found) fs frames ∙ sym top) ∙ ap (λ s. is_blocking (w.stack (Worker p i)).top || s.blocked) seat)
    at p i false eb = (λ f h. h, refl)

    by_pool : (p : ℕ) (b : Bool) → (p == c) ≡ b → AttendedAt (result w (Worker c d) k r) p
    by_pool p true eb i below filled has =
        let is : p ≡ c = eqb-true p c eb in
        let con : is_committed w p i ≡ true = sym ((at p i ((p == c) && (i == d)) refl).1) ∙ has in
        let some : 0 < count_below (w.shape.pool p).workers (λ i. (w.seat p i).asleep) = count_some (w.shape.pool p).workers (λ i. (w.seat p i).asleep) i below (committed_sleeps w p i ok con) in
        let some' : 0 < (counts_at w c).sleeping = subst (λ n. 0 < (counts_at w n).sleeping) is some in
        inr (owing_here w (Worker c d) (to.top) (result w (Worker c d) k r) p i (top_is w (Worker c d) k r) below has
        (owes_walk (w.shape.pool c) (Worker c d) c number 0 (after_found j.target j.found) fs p i (eq-eqb c p (sym is)) (lt-ltb 0 number (some_wakes ((counts_at w c).sleeping) some')) (omega arith) (subst (λ n. i < (w.shape.pool n).workers) is below)))
    by_pool p false eb i below filled has = attended_same w (result w (Worker c d) k r) p (same_quiet w (Worker c d) k e r p
        (λ n. let q : ((p ≡ c → ⊥) → (w.seat p n).inactive ≡ true → ((result w (Worker c d) k r).seat p n).inactive ≡ true) × (is_committed (result w (Worker c d) k r) p n ≡ is_committed w p n) = at p n ((p == c) && (n == d)) refl in
        (q.0 (λ is. let t : (p == c) ≡ true = eq-eqb p c is in cc), q.1)) (λ is h. h) (λ n b o. cc)) (a p) i below filled has
