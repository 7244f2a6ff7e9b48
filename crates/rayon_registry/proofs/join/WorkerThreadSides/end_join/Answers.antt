use Rattle.std.proofs.Common.{◌≡◌, rules, subst}
use Rattle.rayon_machine_places.specs.declared.place.Move.TheVariants.{Back, Stay}
use Rattle.rayon_machine_places.specs.declared.place.Party.TheVariants.{Worker}
use Rattle.rayon_machine_places.specs.declared.place.Place.TheVariants.{FirstSide}
use Rattle.rayon_machine_places.specs.Places.{goes_on}
use Rattle.rayon_performers.specs.Calls.{own_call}
use Rattle.rayon_registry.specs.Acts.{Met, ended_so}
use Rattle.rayon_registry.proofs.Made.{worked_as}
use Rattle.rayon_registry.proofs.join.WorkerThreadSides.end_join.Goals as goal

pub returns-clause-path : goal.returns-clause-path
returns-clause-path g c =
    let s = c.take_back.new.self in
    let w = c.meet.new.self in
    let n = c.fork.inside.call.ticket.number in
    let e = ended_so c.args.first_faulted in
    let index : s.id.index ≡ w.id.index = search rules in
    let shape : s.shape ≡ w.shape = search rules in
    let met = worked_as s.shape w.shape s.id.index w.id.index (Stay (goes_on (FirstSide (own_call n) n) e)) s.acts w.acts Back index shape c.meet.ensures.path in
    (s.acts, c.take_back.ensures.run, subst (λ f. Met w.shape (Worker 0 w.id.index) f.ticket.number e s.acts w.acts) c.fork.view_is met)
