-- yields: what a worker that yields looks at, and in which order
--
-- Broken by `yield_skips_injector`, `yield_skips_the_other`, `yield_leaves_its_task` and `local_looks_further` of
-- StepTeeth.
use Rattle.std.specs.Prelude.{ℕ, Bool, true, false, ◌==◌, ◌<◌, if◌then◌else◌, Option, Some, None, List, [], ◌∷◌, ◌++◌, ◌≡◌, ◌⊎◌}
use Rattle.rayon_machine_places.specs.declared.place.Party.{Party}
use Rattle.rayon_machine_places.specs.declared.place.Party.TheVariants.{Worker}
use Rattle.rayon_machine_places.specs.declared.place.Taken.{Taken}
use Rattle.rayon_machine_places.specs.declared.place.Place.{Place}
use Rattle.rayon_machine_places.specs.declared.place.Place.TheVariants.{YieldPop, YieldTakeCast, YieldPick, YieldSteal, YieldPopInjected, LocalPop, LocalTakeCast, BeginTask}
use Rattle.rayon_machine_runs.specs.declared.event.Event.{Event}
use Rattle.rayon_machine_runs.specs.declared.event.Event.TheVariants.{Go, Miss, Yield, YieldLocal}
use Rattle.rayon_machine_places.specs.Places.{same_party}
use Rattle.rayon_machine_runs.specs.World.{Stack, World}
use Rattle.rayon_machine_runs.specs.Steps.{after_call, step}
use Rattle.rayon_machine_laws.specs.Attended.{is_filled}
use Rattle.rayon_machine_sleep_laws.specs.Searched.{Spot, OwnDeque, OwnCast, Deque, Injector, Look, and_then, whole_search}

-- a place of a yield
abbrev pub is_yielding : Place → Bool
is_yielding YieldPop = true
is_yielding YieldTakeCast = true
is_yielding YieldPick = true
is_yielding (YieldSteal v n) = true
is_yielding YieldPopInjected = true
is_yielding LocalPop = true
is_yielding LocalTakeCast = true
is_yielding _ = false

-- what a worker that stands here in a yield looks at: the list as it is in this world
abbrev pub yield_look_at : World → ℕ → ℕ → Place → Option Look
yield_look_at w p i YieldPop = Some (record { spot = OwnDeque; found = is_filled (w.seat p i).own })
yield_look_at w p i YieldTakeCast = Some (record { spot = OwnCast; found = is_filled ((w.pool p).casts i) })
yield_look_at w p i (YieldSteal v n) = Some (record { spot = Deque v; found = is_filled (w.seat p v).own })
yield_look_at w p i YieldPopInjected = Some (record { spot = Injector; found = is_filled (w.pool p).injector })
yield_look_at w p i LocalPop = Some (record { spot = OwnDeque; found = is_filled (w.seat p i).own })
yield_look_at w p i LocalTakeCast = Some (record { spot = OwnCast; found = is_filled ((w.pool p).casts i) })
yield_look_at w p i _ = None

-- a steal that misses the one task of a deque finds nothing
abbrev pub yield_missed : Place → Option Look
yield_missed (YieldSteal v n) = Some (record { spot = Deque v; found = false })
yield_missed _ = None

-- the look in a yield of that worker that an event is
abbrev pub yield_look_of : ℕ → ℕ → World → Event → Option Look
yield_look_of p i w (Go q) = if same_party (Worker p i) q then yield_look_at w p i (w.stack q).top else None
yield_look_of p i w (Miss q) = if same_party (Worker p i) q then yield_missed (w.stack q).top else None
yield_look_of p i w _ = None

-- that worker's looks in a run, in their order
abbrev pub yield_looks_in : ℕ → ℕ → Option World → List Event → List Look
yield_looks_in p i None es = []
yield_looks_in p i (Some w) [] = []
yield_looks_in p i (Some w) (e ∷ es) = and_then (yield_look_of p i w e) (yield_looks_in p i (step w e) es)

-- a stretch of a run in which the party stands in a yield, in each world but perhaps the last
abbrev pub IsYieldRun : Party → World → List Event → World → Type 0
IsYieldRun q v [] u = u ≡ v
IsYieldRun q v (e ∷ es) u = (is_yielding (v.stack q).top ≡ true) × (z : World) × (step v e ≡ Some z) × IsYieldRun q z es u

-- the looks so far and those that are left are a whole search, which begins its round at another worker, if there is one
pub record IsPart (whole : ℕ → List Look) (workers own : ℕ) (so_far left : List Look) : Type 0 where
  pub start : ℕ
  pub within : 1 < workers → start < workers
  pub other : 1 < workers → (start == own) ≡ false
  pub is : so_far ++ left ≡ whole start

-- the yield goes on: the worker stands in it, and each of its looks so far found nothing
pub record GoesOn (whole : ℕ → List Look) (n i : ℕ) (base now : Stack) (looks : List Look) : Type 0 where
  pub place : Place
  pub left : List Look
  pub yields : is_yielding place ≡ true
  pub stands : now ≡ after_call base place
  pub searched : IsPart whole n i looks left

-- it is over and has found nothing: the worker is where it was, and has made the whole search
pub record IsBack (whole : ℕ → List Look) (n i : ℕ) (base now : Stack) (looks : List Look) : Type 0 where
  pub stands : now ≡ base
  pub searched : IsPart whole n i looks []

-- its last look found a task, which the worker is to begin next; each look before found nothing
pub record HasFound (whole : ℕ → List Look) (n i : ℕ) (base now : Stack) (looks : List Look) : Type 0 where
  pub task : Taken
  pub spot : Spot
  pub before : List Look
  pub left : List Look
  pub stands : now ≡ after_call base (BeginTask task)
  pub last : looks ≡ before ++ record { spot = spot; found = true } ∷ []
  pub searched : IsPart whole n i before (record { spot = spot; found = false } ∷ left)

-- how far a yield has come that began above this stack
abbrev pub YieldsSo : (ℕ → List Look) → ℕ → ℕ → Stack → Stack → List Look → Type 0
YieldsSo whole n i base now looks = GoesOn whole n i base now looks ⊎ (IsBack whole n i base now looks ⊎ HasFound whole n i base now looks)

-- the search of a yield that is local: the own deque and the own broadcast list
abbrev pub local_search : ℕ → List Look
local_search v = record { spot = OwnDeque; found = false } ∷ record { spot = OwnCast; found = false } ∷ []

-- from its event on a yield is one search in order, up to the first look that finds a task: the own deque, the own broadcast
-- list, each other worker's deque from some other worker upward and round, the injector; a local one the first two
abbrev pub YieldLaw : Type 0
YieldLaw = (w v u : World) (p i : ℕ) (between : List Event) → i < (w.shape.pool p).workers → step w (Yield (Worker p i)) ≡ Some v → IsYieldRun (Worker p i) v between u →
    YieldsSo (whole_search (w.shape.pool p).workers i) (w.shape.pool p).workers i (w.stack (Worker p i)) (u.stack (Worker p i)) (yield_looks_in p i (Some v) between)

abbrev pub LocalLaw : Type 0
LocalLaw = (w v u : World) (p i : ℕ) (between : List Event) → i < (w.shape.pool p).workers → step w (YieldLocal (Worker p i)) ≡ Some v → IsYieldRun (Worker p i) v between u →
    YieldsSo local_search (w.shape.pool p).workers i (w.stack (Worker p i)) (u.stack (Worker p i)) (yield_looks_in p i (Some v) between)
