-- How a wait ends: with a task that begins above it, with its latch set, or with the result of the call that it waits for;
-- and how a join's look for its own second side does.
use Rattle.std.specs.Prelude.{◌≡◌, ◌⊎◌, ◌-◌, ℕ, Some, if◌then◌else◌}
use Rattle.rayon_machine_places.specs.declared.place.Ending.TheVariants.{Fine}
use Rattle.rayon_machine_places.specs.declared.place.OpenCall.{OpenCall}
use Rattle.rayon_machine_places.specs.declared.place.Target.{Target}
use Rattle.rayon_machine_places.specs.declared.place.Target.TheVariants.{Termination, Answer}
use Rattle.rayon_machine_places.specs.declared.place.Place.{Place}
use Rattle.rayon_machine_places.specs.declared.place.Place.TheVariants as at
use Rattle.rayon_machine_places.specs.declared.place.Move.{Move}
use Rattle.rayon_machine_places.specs.declared.place.Move.TheVariants.{Stay, Enter, Back}
use Rattle.rayon_machine_places.specs.Places.{fresh}
use Rattle.rayon_atomics.specs.declared.views.Guard.{Guard}
use Rattle.rayon_performers.specs.declared.reclaimed.Reclaimed.{Reclaimed}
use Rattle.rayon_performers.specs.declared.reclaimed.Reclaimed.TheVariants.{Other, Answered}
use Rattle.rayon_performers.specs.Hands.{Hands, HasTask}
use Rattle.rayon_shared.specs.AtHand.{HasTicket}
use Rattle.rayon_tasks.specs.Tickets.{TicketOf}

-- a task that was in a queue begins
abbrev pub IsTaken : Place → Type 0
IsTaken (at.BeginTask t) = Unit {0}
IsTaken _ = ⊥

-- a wait for the pool's end is left where the worker has stopped, and one for a call goes on with its result. Either may
-- find a task before, and goes on anew after its run
abbrev pub Waited : Target → Move → Type 0
Waited g (Enter f p) = (f ≡ at.ProbeWorking (fresh g)) × IsTaken p
Waited Termination (Stay p) = p ≡ at.Stopped
Waited (Answer o f) Back = Unit {0}
Waited g m = ⊥

-- a join that did not find its own second side found another task, which begins above it, waits for the thief's answer
-- and found a task meanwhile, or has the result
abbrev pub Rejoined : OpenCall → Move → Type 0
Rejoined o (Enter f p) = ((f ≡ at.JoinProbe o) ⊎ (f ≡ at.ProbeWorking (fresh (Answer o (Some Fine))))) × IsTaken p
Rejoined o Back = Unit {0}
Rejoined o m = ⊥

-- where a join that looked for its own second side in vain goes on after it found this: another task's run begins, after
-- which it waits for the thief's answer or looks again, or it has the result
abbrev pub rejoins : OpenCall → Reclaimed → Move
rejoins o (Other t waits) = Enter (if waits then at.ProbeWorking (fresh (Answer o (Some Fine))) else at.JoinProbe o) (at.BeginTask t)
rejoins o Answered = Back

-- the units of the terminate count that the worker's calls hold where a wait, or a join's look, has moved so: a call that
-- has its result has given its unit back
abbrev pub units_after : Move → ℕ → ℕ
units_after Back n = n - 1
units_after m n = n

module _ {X G O F : Type 0} where
  -- what one worker of one pool has at hand, before and after
  abbrev pub SameSeat : Hands X G O F → Hands X G O F → Type 0
  SameSeat s t = (t.index ≡ s.index) × (t.shape ≡ s.shape)

  -- the other task that a join found is in hand, and the join's own call too
  abbrev pub FoundSo : OpenCall → Hands X G O F → Reclaimed → Type 0
  FoundSo o s (Other t waits) = HasTask s.task (Some t) × HasTicket s.call (Some o.number)
  FoundSo o s Answered = Unit {0}

  -- the same worker, where a seat that knows this stands for that of its terminate latch
  abbrev pub waiting_on : Guard → Hands X G O F → Hands X G O F
  waiting_on v s = record s { guards = record { own = v; call = s.guards.call } }

  -- the same worker, where a call that it keeps beside what is at hand is at hand too
  abbrev pub holding : TicketOf → Guard → Hands X G O F → Hands X G O F
  holding c l s = record s { call = Some c; guards = record { own = s.guards.own; call = Some l } }
