-- where a call queues what it makes
--
-- So in the clauses `trees` and `levels` no job of a worker's own spawn comes to it from elsewhere. Broken by the wrong
-- machines of PlaceTeeth.
use Rattle.std.specs.Prelude.{ℕ, false, ◌&&◌, ◌+◌, if◌then◌else◌, Option, Some, None, List, [], ◌∷◌, ◌++◌, ◌≡◌, slice_get}
use Rattle.rayon_machine_places.specs.declared.place.Party.{Party}
use Rattle.rayon_machine_places.specs.declared.place.Count.{Count}
use Rattle.rayon_machine_places.specs.declared.place.Count.TheVariants.{OfPool, OfScope, OfCast}
use Rattle.rayon_machine_places.specs.declared.act.Act.{Act}
use Rattle.rayon_machine_places.specs.declared.act.Act.TheVariants.{PushInj, PushOwn, FifoIn, PushCast}
use Rattle.rayon_machine_runs.specs.declared.event.Event.{Event}
use Rattle.rayon_machine_runs.specs.declared.event.Event.TheVariants.{Go, Spawn, Fifo, Cast, Install, Join, IntoSpawn, IntoFifo, IntoCast, Broadcast}
use Rattle.rayon_machine_runs.specs.declared.state.Scope.{Scope}
use Rattle.rayon_machine_places.specs.Places.{same_party, is_member, act_of}
use Rattle.rayon_machine_runs.specs.World.{Shape, Stack, World}
use Rattle.rayon_machine_runs.specs.Steps.{step}
use Rattle.rayon_machine_orders.specs.Calls.{BeginsCall, IsRunUntil, is_at_call, is_refusal, is_any, scope_pool}
use Rattle.rayon_machine_orders.specs.Casts.{BeginsCast, is_cast_refusal}
use Rattle.rayon_machine_orders.specs.Makes.{scope_list}

-- an act, if it queues something: onto a deque, into an injector, into a FIFO list, or into broadcast lists
abbrev pub push_in : Act → List Act
push_in (PushOwn t b) = PushOwn t b ∷ []
push_in (PushInj p t b) = PushInj p t b ∷ []
push_in (FifoIn t b) = FifoIn t b ∷ []
push_in (PushCast c) = PushCast c ∷ []
push_in _ = []

-- what an event queues, where it is an act of the call itself: the party's stack has exactly one frame more than before
abbrev pub own_push : Party → Stack → World → Event → List Act
own_push q s w (Go r) = if same_party q r && is_at_call s (w.stack q) then push_in (act_of q (w.stack q).top) else []
own_push q s w _ = []

-- all that a call queues in a run, in its order
abbrev pub pushes_of : Party → Stack → Option World → List Event → List Act
pushes_of q s None es = []
pushes_of q s (Some w) [] = []
pushes_of q s (Some w) (e ∷ es) = own_push q s w e ++ pushes_of q s (step w e) es

-- where a job of a pool belongs, once: a worker of the pool pushes it onto its own deque, others into the pool's injector
abbrev pub queued_once : Party → ℕ → ℕ → Option ℕ → List Act
queued_once q p t b = (if is_member q p then PushOwn t b else PushInj p t b) ∷ []

-- where a job in order belongs: a worker of the pool adds it to that FIFO list of its own, and pushes its token, which
-- has the next number, onto its deque; others push it into the injector
abbrev pub fed_once : Party → ℕ → ℕ → Option ℕ → List Act
fed_once q p t b = if is_member q p then FifoIn t b ∷ PushOwn (t + 1) b ∷ [] else PushInj p t b ∷ []

-- the count of a scope
abbrev pub scope_count : Option Scope → Count
scope_count None = OfPool 0
scope_count (Some z) = OfScope z.call z.owner

-- where the pieces of a broadcast with shares of this count belong: each into the broadcast list of its worker, all at
-- once, from the next number on
abbrev pub cast_once : World → Count → ℕ → List Act
cast_once w k p = PushCast (record { count = k; pool = p; first = w.jobs; workers = (w.shape.pool p).workers }) ∷ []

-- what a call or a broadcast queues, by the event that begins it: an install by a worker of the pool and a scope nothing,
-- a join its second side
abbrev pub belongs : World → Event → List Act
belongs w (Spawn q p) = queued_once q p w.jobs None
belongs w (Fifo q p) = fed_once q p w.jobs None
belongs w (Install q p) = if is_member q p then [] else PushInj p w.jobs None ∷ []
belongs w (Join q) = PushOwn (w.jobs + 1) None ∷ []
belongs w (IntoSpawn q n) = queued_once q (scope_pool (slice_get w.scopes n)) w.jobs (scope_list (slice_get w.scopes n))
belongs w (IntoFifo q n) = fed_once q (scope_pool (slice_get w.scopes n)) w.jobs (scope_list (slice_get w.scopes n))
belongs w (Broadcast q p) = cast_once w (OfCast w.calls q) p
belongs w (Cast q p) = cast_once w (OfPool p) p
belongs w (IntoCast q n) = cast_once w (scope_count (slice_get w.scopes n)) (scope_pool (slice_get w.scopes n))
belongs w _ = []

-- a call that nothing refused, and that is over, has queued just what belongs there by its own acts, in every run from a
-- start
abbrev pub PlacedLaw : Type 0
PlacedLaw = (shape : Shape) (before : List Event) (q : Party) (e : Event) (w v u : World) (between : List Event) →
    BeginsCall shape before q e w v → IsRunUntil q (w.stack q) v between u → u.stack q ≡ w.stack q → is_any (is_refusal q (w.stack q)) (Some v) between ≡ false →
    pushes_of q (w.stack q) (Some v) between ≡ belongs w e

-- so it is of a broadcast that waits for nothing
abbrev pub DealtLaw : Type 0
DealtLaw = (shape : Shape) (before : List Event) (q : Party) (e : Event) (w v u : World) (between : List Event) →
    BeginsCast shape before q e w v → IsRunUntil q (w.stack q) v between u → u.stack q ≡ w.stack q → is_any (is_cast_refusal q (w.stack q)) (Some v) between ≡ false →
    pushes_of q (w.stack q) (Some v) between ≡ belongs w e
