-- a performed deed is the step of the specification
use Rattle.std.proofs.Common.{◌≡◌, ℕ, refl, sym, ◌∙◌, ap, subst}
use Rattle.std.specs.Prelude.{Some, None, Result, Ok, Err, OnErr}
use Rattle.rayon_machine_places.specs.declared.place.Party.{Party}
use Rattle.rayon_machine_places.specs.declared.place.Place.{Place}
use Rattle.rayon_machine_places.specs.declared.place.Move.{Move}
use Rattle.rayon_machine_places.specs.declared.act.Act.{Act}
use Rattle.rayon_machine_parts.specs.declared.deed.Deed.{Deed}
use Rattle.rayon_machine_runs.specs.declared.event.Event.TheVariants.{Go}
use Rattle.rayon_machine_world.specs.declared.world.World.{World as StoredWorld}
use Rattle.rayon_machine_places.specs.Places.{act_of, next_of}
use Rattle.rayon_machine_runs.specs.World.{Outcome, Stack, World}
use Rattle.rayon_machine_runs.specs.Steps.{after_outcome, after, step}
use Rattle.rayon_machine_numbers.specs.Numbers.{part_queued, with_touched}
use Rattle.rayon_machine_parts.specs.State.{IsDeed, IsNoDeed, part_at_spot, shape_of, spot_of}
use Rattle.rayon_machine_world.specs.Running.{IsPerformed, world_of}

-- two worlds that agree everywhere are the same
pub world-path : (u w : World) → u.shape ≡ w.shape → ((q : Party) → u.stack q ≡ w.stack q) → ((p i : ℕ) → u.seat p i ≡ w.seat p i) → ((p : ℕ) → u.pool p ≡ w.pool p) → ((n : ℕ) → u.call n ≡ w.call n) → ((n : ℕ) → u.job n ≡ w.job n) → u.calls ≡ w.calls → u.jobs ≡ w.jobs → u.scopes ≡ w.scopes → u ≡ w
world-path u w a b c d e f g k l = λ j. record { shape = a j; stack = λ q. b q j; seat = λ p i. c p i j; pool = λ p. d p j; call = λ n. e n j; job = λ n. f n j; calls = g j; jobs = k j; scopes = l j }

-- what is so is so where an answer is an error
pub on-err : {A E : Type 0} (r : Result A E) {P : Type 0} → P → OnErr r P
on-err (Ok a) p = tt
on-err (Err e) p = p

-- the party stands at its stack's top
at-top : (w u : StoredWorld) (q : Party) (d : Deed) (m : Move) → IsDeed (shape_of w.shapes) w.parts q (act_of q ((world_of w).stack q).top) d → m ≡ next_of ((shape_of w.shapes).pool (d.spot.pool)) q ((world_of w).stack q).top (d.seen) → IsPerformed w u q d m → step (world_of w) (Go q) ≡ Some (world_of u)
at-top w u q d m is to did =
    let h = shape_of w.shapes in
    let s = (world_of w).stack q in
    let a = act_of q s.top in
    let spot = spot_of h w.parts q a in
    let deed : Deed = record { act = a; spot = spot; order = d.order; seen = d.seen; after = d.after } in
    let same : d ≡ deed = λ j. record { act = is.act j; spot = is.spot j; order = d.order; seen = d.seen; after = d.after } in
    let move : m ≡ next_of (h.pool (spot.pool)) q s.top (d.seen) = to ∙ ap (λ z. next_of (h.pool (z.pool)) q s.top (d.seen)) is.spot in
    let there : IsPerformed w u q deed (next_of (h.pool (spot.pool)) q s.top (d.seen)) = subst (λ (n : Move). IsPerformed w u q deed n) move (subst (λ (z : Deed). IsPerformed w u q z m) same did) in
    let done = after (world_of w) q s (spot.pool) (spot.worker) (spot.call) (spot.job) (d.seen, part_queued (d.order) a q (with_touched (part_at_spot w.parts spot) (d.after))) in
    let alike : world_of u ≡ done = world-path (world_of u) done there.shape there.stack there.seat there.pool there.call there.job there.calls there.jobs there.scopes in
    ap (after_outcome (world_of w) q s (spot.pool) (spot.worker) (spot.call) (spot.job)) is.effect ∙ ap (λ z. Some z) (sym alike)

pub went : (w u : StoredWorld) (q : Party) (x : Place) (d : Deed) (m : Move) → x ≡ ((world_of w).stack q).top → IsDeed (shape_of w.shapes) w.parts q (act_of q x) d → m ≡ next_of ((shape_of w.shapes).pool (d.spot.pool)) q x (d.seen) → IsPerformed w u q d m → step (world_of w) (Go q) ≡ Some (world_of u)
went w u q x d m top is to did = at-top w u q d m (subst (λ (z : Place). IsDeed (shape_of w.shapes) w.parts q (act_of q z) d) top is) (to ∙ ap (λ z. next_of ((shape_of w.shapes).pool (d.spot.pool)) q z (d.seen)) top) did

-- a world comes after each outcome of an act
acted-enabled : (w : World) (q : Party) (s : Stack) (p i c n : ℕ) (o : Outcome) → ¬ (o ≡ None) → ¬ (after_outcome w q s p i c n o ≡ None)
acted-enabled w q s p i c n None some none = some refl
acted-enabled w q s p i c n (Some r) some none = cc

-- a party whose act is not enabled cannot go
pub cannot-go : (w : StoredWorld) (q : Party) (a : Act) (x : Place) → a ≡ act_of q x → x ≡ ((world_of w).stack q).top → IsNoDeed (shape_of w.shapes) w.parts q a → step (world_of w) (Go q) ≡ None
cannot-go w q a x ea ex none =
    let h = shape_of w.shapes in
    let s = (world_of w).stack q in
    let b = act_of q s.top in
    let spot = spot_of h w.parts q b in
    let there : IsNoDeed h w.parts q b = subst (λ (z : Act). IsNoDeed h w.parts q z) (ea ∙ ap (act_of q) ex) none in
    ap (after_outcome (world_of w) q s (spot.pool) (spot.worker) (spot.call) (spot.job)) there

-- a party whose act is enabled can go
pub can-go : (w : StoredWorld) (q : Party) (a : Act) (x : Place) → a ≡ act_of q x → x ≡ ((world_of w).stack q).top → ¬ (IsNoDeed (shape_of w.shapes) w.parts q a) → ¬ (step (world_of w) (Go q) ≡ None)
can-go w q a x ea ex some =
    let h = shape_of w.shapes in
    let s = (world_of w).stack q in
    let b = act_of q s.top in
    let spot = spot_of h w.parts q b in
    let there : ¬ (IsNoDeed h w.parts q b) = subst (λ (z : Act). ¬ (IsNoDeed h w.parts q z)) (ea ∙ ap (act_of q) ex) some in
    acted-enabled (world_of w) q s (spot.pool) (spot.worker) (spot.call) (spot.job) _ there
