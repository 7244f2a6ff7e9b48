use Rattle.rayon_machine_places.specs.declared.place.Move.TheVariants.{Stay}
use Rattle.rayon_machine_places.specs.declared.place.Place.TheVariants as at
use Rattle.rayon_performers.proofs.Finds.{IsYield, Missed}
use Rattle.rayon_performers.proofs.Stretches.{So}
use Rattle.rayon_performers.proofs.bench.Bench.find_work.Given as goal

abbrev pub invariant-loop : goal.invariant-loop
invariant-loop g l =
    (goal.iterator-loop g).can_next l.iterator' × (goal.iterator-loop g).is_finite l.iterator' × So l.fn.self.shape l.fn.self.index (Stay at.YieldPop) l.fn.self (Stay l.place) l.self × Missed l.fn.self l.self × IsYield l.place l.fn.self l.self
