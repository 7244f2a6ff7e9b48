-- broadcasts that wait for nothing, each from the event that begins it to the world in which its party's stack is again
-- what it was
--
-- Broken by the wrong machines `broadcast_skips_the_last_worker` and `broadcast_into_a_scope_skips_the_last_worker` of
-- GatherTeeth, and by `refused_pieces_keep_their_numbers` of PieceTeeth.
use Rattle.std.specs.Prelude.{ℕ, Bool, true, false, ◌&&◌, ◌+◌, ◌-◌, ◌==◌, ◌≤◌, ◌<◌, Option, Some, None, List, ◌≡◌, ◌⊎◌, slice_get}
use Rattle.rayon_machine_places.specs.declared.place.Party.{Party}
use Rattle.rayon_machine_places.specs.declared.act.Act.{Act}
use Rattle.rayon_machine_places.specs.declared.act.Act.TheVariants.{RaiseAll}
use Rattle.rayon_machine_runs.specs.declared.event.Event.{Event}
use Rattle.rayon_machine_runs.specs.declared.event.Event.TheVariants.{Go, Refuse, Cast, IntoCast}
use Rattle.rayon_machine_places.specs.Places.{same_party, act_of}
use Rattle.rayon_machine_runs.specs.World.{Shape, Stack, World}
use Rattle.rayon_machine_runs.specs.Steps.{step}
use Rattle.rayon_machine_runs.specs.Runs.{IsRun, start}
use Rattle.rayon_machine_orders.specs.Calls.{IsRunUntil, is_at_call, is_any, count_of, scope_pool, IsHandedOn, IsGivenBack, StandsOn}

-- the party that begins a broadcast by this event, at a pool or into a scope
abbrev pub caster_of : Event → Option Party
caster_of (Cast q p) = Some q
caster_of (IntoCast q n) = Some q
caster_of _ = None

-- the pool whose workers get its pieces: of a broadcast into a scope, the scope's
abbrev pub cast_pool : World → Event → ℕ
cast_pool w (Cast q p) = p
cast_pool w (IntoCast q n) = scope_pool (slice_get w.scopes n)
cast_pool w _ = 0

-- a party begins a broadcast (from w to v), in some world of a run from a start
pub record BeginsCast (shape : Shape) (before : List Event) (q : Party) (e : Event) (w v : World) : Type 0 where
  pub reached : IsRun (start shape) before w
  pub caster : caster_of e ≡ Some q
  pub made : step w e ≡ Some v

-- an act that is to raise a count of 0 for all pieces is refused
abbrev pub is_cast_refused : World → Act → Bool
is_cast_refused w (RaiseAll c) = count_of w c.count == 0
is_cast_refused w _ = false

-- the event is a refusal of the broadcast's own step
abbrev pub is_cast_refusal : Party → Stack → World → Event → Bool
is_cast_refusal q s w (Refuse r) = same_party q r && is_at_call s (w.stack q)
is_cast_refusal q s w (Go r) = same_party q r && (is_at_call s (w.stack q) && is_cast_refused w (act_of q (w.stack q).top))
is_cast_refusal q s w _ = false

-- a broadcast that the party q began by the event e (from w to v), in a world u that the events between lead to; its
-- pieces are the numbers that the event gave out, one for each worker of the pool, and each is bound to its own: the
-- first to the first worker, and so on. Until it is over the party's stack stands on what it was. Once it is over,
-- either nothing refused it and each piece is queued, in a hand, running or over, or a step of it was refused and each
-- piece is given back: it has no share of the pool's or the scope's count, and no number of the scope's book
pub record CastGoes (q : Party) (e : Event) (w v u : World) (between : List Event) : Type 0 where
  pub made : v.jobs ≡ w.jobs + (w.shape.pool (cast_pool w e)).workers
  pub bound : (t : ℕ) → w.jobs ≤ t → t < v.jobs → (u.job t).bound ≡ Some (t - w.jobs)
  pub stands : StandsOn (w.stack q) (u.stack q) ⊎ (u.stack q ≡ w.stack q)
  pub ends : u.stack q ≡ w.stack q → is_any (is_cast_refusal q (w.stack q)) (Some v) between ≡ false → (t : ℕ) → w.jobs ≤ t → t < v.jobs → IsHandedOn u t
  pub refused : u.stack q ≡ w.stack q → is_any (is_cast_refusal q (w.stack q)) (Some v) between ≡ true → (t : ℕ) → w.jobs ≤ t → t < v.jobs → IsGivenBack u t

-- each broadcast goes so, in every run from a start, up to the first world in which its party's stack is again what it
-- was before the event
abbrev pub CastLaw : Type 0
CastLaw = (shape : Shape) (before : List Event) (q : Party) (e : Event) (w v u : World) (between : List Event) →
    BeginsCast shape before q e w v → IsRunUntil q (w.stack q) v between u → CastGoes q e w v u between
