use Rattle.rayon_machine_places.specs.declared.place.Move.TheVariants.{Stay}
use Rattle.rayon_drive.specs.Paths.{Driven}
use Rattle.rayon_drive.proofs.drive.walk.Given as goal

abbrev pub invariant-loop : goal.invariant-loop
invariant-loop g l =
    (goal.iterator-loop g).can_next l.iterator' × (goal.iterator-loop g).is_finite l.iterator' × Driven g.P.Perform.performed g.P.Perform.trace l.fn.shape l.fn.party (Stay l.fn.place) l.fn.performer l.performer (Stay l.place) × g.P.Perform.stands l.performer l.fn.party (Stay l.place)
