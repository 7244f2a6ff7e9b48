use Rattle.std.proofs.Common.{◌≡◌, Some}
use Rattle.rayon_machine_places.specs.declared.place.Move.{Move}
use Rattle.rayon_machine_places.specs.declared.place.Move.TheVariants.{Stay}
use Rattle.rayon_machine_places.specs.declared.place.Party.TheVariants.{Worker}
use Rattle.rayon_machine_places.specs.declared.place.Place.TheVariants as at
use Rattle.rayon_drive.specs.declared.trace.Log.{Log}
use Rattle.rayon_tasks.specs.Calls.{ticket_in}
use Rattle.rayon_shared.specs.AtHand.{HasTicket}
use Rattle.rayon_registry.specs.Acts.{Worked}
use Rattle.rayon_registry.proofs.worker_thread.WorkerThread.look_again.Given as goal

-- what follows goes on from the acts so far
abbrev pub invariant-loop : goal.invariant-loop
invariant-loop g l =
    (goal.iterator-loop g).can_next l.iterator' × (goal.iterator-loop g).is_finite l.iterator'
    × (l.self.levels ≡ l.initial.self.levels)
    × (l.self.id ≡ l.initial.self.id)
    × (l.self.units ≡ l.initial.self.units)
    × (l.self.shape ≡ l.initial.self.shape)
    × HasTicket (ticket_in l.held) (Some l.call.number)
    × ((w : Log) (n : Move) → Worked l.initial.self.shape (Worker 0 l.initial.self.id.index) (Stay (at.JoinProbe l.call)) l.self.acts w n → Worked l.initial.self.shape (Worker 0 l.initial.self.id.index) (Stay (at.JoinProbe l.call)) l.initial.self.acts w n)
