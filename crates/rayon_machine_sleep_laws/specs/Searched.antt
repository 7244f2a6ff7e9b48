-- whole searches: what a worker has looked at between its last Announce and its Block
--
-- Each look is of the list as it was at its own step.
use Rattle.std.specs.Prelude.{ℕ, zero, suc, Bool, true, false, ◌-◌, ◌==◌, ◌<◌, if◌then◌else◌, Option, Some, None, List, [], ◌∷◌, ◌++◌, ◌≡◌}
use Rattle.rayon_machine_places.specs.declared.place.Party.TheVariants.{Worker}
use Rattle.rayon_machine_places.specs.declared.place.Place.{Place}
use Rattle.rayon_machine_places.specs.declared.place.Place.TheVariants.{PopIdle, TakeCastIdle, StealFrom, PopInjected}
use Rattle.rayon_machine_runs.specs.declared.event.Event.{Event}
use Rattle.rayon_machine_runs.specs.declared.event.Event.TheVariants.{Go, Miss}
use Rattle.rayon_machine_places.specs.Places.{next_victim, not_self, same_party}
use Rattle.rayon_machine_runs.specs.World.{Shape, World}
use Rattle.rayon_machine_runs.specs.Steps.{step}
use Rattle.rayon_machine_laws.specs.Committed.{is_blocking}
use Rattle.rayon_machine_laws.specs.Attended.{is_filled}
use Rattle.rayon_machine_laws.specs.Turn.{Announces, IsRunWithout, is_announce}

-- where a search looks: the worker's own deque, its broadcast list, another worker's deque, the injector
pub data Spot : Type 0 where
  OwnDeque : Spot
  OwnCast : Spot
  Deque : (worker : ℕ) → Spot
  Injector : Spot

-- a look, and whether it found a task
pub record Look : Type 0 where
  pub spot : Spot
  pub found : Bool

-- what a worker that stands here looks at: the list as it is in this world
abbrev pub look_at : World → ℕ → ℕ → Place → Option Look
look_at w p i (PopIdle k) = Some (record { spot = OwnDeque; found = is_filled (w.seat p i).own })
look_at w p i (TakeCastIdle k) = Some (record { spot = OwnCast; found = is_filled ((w.pool p).casts i) })
look_at w p i (StealFrom k n) = Some (record { spot = Deque k.victim; found = is_filled (w.seat p k.victim).own })
look_at w p i (PopInjected k) = Some (record { spot = Injector; found = is_filled (w.pool p).injector })
look_at w p i _ = None

-- a steal that misses the one task of a deque finds nothing
abbrev pub missed_look : Place → Option Look
missed_look (StealFrom k n) = Some (record { spot = Deque k.victim; found = false })
missed_look _ = None

-- the look of that worker that an event is
abbrev pub look_of : ℕ → ℕ → World → Event → Option Look
look_of p i w (Go q) = if same_party (Worker p i) q then look_at w p i (w.stack q).top else None
look_of p i w (Miss q) = if same_party (Worker p i) q then missed_look (w.stack q).top else None
look_of p i w _ = None

abbrev pub and_then : Option Look → List Look → List Look
and_then None l = l
and_then (Some a) l = a ∷ l

-- that worker's looks in a run, in their order
abbrev pub looks_in : ℕ → ℕ → Option World → List Event → List Look
looks_in p i None es = []
looks_in p i (Some w) [] = []
looks_in p i (Some w) (e ∷ es) = and_then (look_of p i w e) (looks_in p i (step w e) es)

-- looks that found nothing, at so many other workers' deques: from this one upward and round, without the worker itself
abbrev pub others : (workers own : ℕ) → (left victim : ℕ) → List Look
others n i zero v = []
others n i (suc m) v = record { spot = Deque v; found = false } ∷ others n i m (not_self n i (next_victim n v))

-- a whole search that found nothing: the own deque, the own broadcast list, each other worker's deque from some other worker upward and round, the injector
abbrev pub whole_search : (workers own : ℕ) → (start : ℕ) → List Look
whole_search n i v = record { spot = OwnDeque; found = false } ∷ record { spot = OwnCast; found = false } ∷ (others n i (n - 1) v ++ record { spot = Injector; found = false } ∷ [])

-- a worker's looks end with a whole search that found nothing, which begins its round at another worker, if there is one
pub record EndsSearched (workers own : ℕ) (looks : List Look) : Type 0 where
  pub earlier : List Look
  pub start : ℕ
  pub within : 1 < workers → start < workers
  pub other : 1 < workers → (start == own) ≡ false
  pub is : looks ≡ earlier ++ whole_search workers own start

-- between a worker's last Announce and its Block its last looks are a whole search of its own that found nothing
abbrev pub SearchLaw : Type 0
SearchLaw = (shape : Shape) (before : List Event) (p i : ℕ) (w v u : World) (between : List Event) → i < (shape.pool p).workers →
    Announces shape before w v p i → IsRunWithout (is_announce p i) v between u → is_blocking (u.stack (Worker p i)).top ≡ true →
    EndsSearched (shape.pool p).workers i (looks_in p i (Some v) between)
