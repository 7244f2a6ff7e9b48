-- What a worker's look for a task leaves, which does not begin the task that it has found, and what a push does.
use Rattle.std.specs.Prelude.{◌≡◌, ◌⊎◌, ◌++◌, [], ◌∷◌, ℕ, Some, slice_get}
use Rattle.rayon_queues.specs.Deques.{Deque, Popped, SameDeque, Unmoved}
use Rattle.rayon_tasks.specs.Tasks.{TaskOf}
use Rattle.rayon_performers.specs.Hands.{Hands, StolenBy, TakenBy}

module _ {X : Type 0} where
  -- the task stands last in what the own pass has pushed and in what is left to it, and none was taken
  abbrev pub StandsLast : Deque (TaskOf X) → TaskOf X → Deque (TaskOf X) → Type 0
  StandsLast d t e = (e.pushed ≡ d.pushed ++ t ∷ []) × (e.taken ≡ d.taken) × (e.left ≡ d.left ++ t ∷ [])

module _ {X G O F : Type 0} where
  -- no pass has taken a task: neither the own deque's nor the injector's
  abbrev pub Kept : Hands X G O F → Hands X G O F → Type 0
  Kept s u = SameDeque s.own u.own × Unmoved s.own u.own × (u.inlet ≡ s.inlet)

  -- the own pass took the task, from the end that the deque's order says, and the injector's took none
  abbrev pub FoundOwn : TaskOf X → Hands X G O F → Hands X G O F → Type 0
  FoundOwn t s u = SameDeque s.own u.own × Popped s.own t u.own × (u.inlet ≡ s.inlet)

  -- a new pass of another's deque took the task, and the own pass and the injector's took none
  abbrev pub FoundOther : TaskOf X → Hands X G O F → Hands X G O F → Type 0
  FoundOther t s u = (v : ℕ) × StolenBy (slice_get s.deques v) (Some t) u.thief × Kept s u

  -- the pass of the injector took the task, and the own pass took none
  abbrev pub FoundInjected : TaskOf X → Hands X G O F → Hands X G O F → Type 0
  FoundInjected t s u = TakenBy s.inlet (Some t) u.inlet × SameDeque s.own u.own × Unmoved s.own u.own

  -- the task came from the worker's broadcast list: no pass took a task, and none of another's deque was made
  abbrev pub FoundCast : TaskOf X → Hands X G O F → Hands X G O F → Type 0
  FoundCast t s u = Kept s u × (u.thief ≡ s.thief)

  -- the task came from one of the queues, and no other pass took a task; or from the broadcast list
  abbrev pub Found : TaskOf X → Hands X G O F → Hands X G O F → Type 0
  Found t s u = FoundOwn t s u ⊎ (FoundOther t s u ⊎ (FoundInjected t s u ⊎ FoundCast t s u))
