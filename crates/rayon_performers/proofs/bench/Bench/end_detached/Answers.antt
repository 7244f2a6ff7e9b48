use Rattle.std.proofs.Common.{◌≡◌, rules}
use Rattle.rayon_machine_places.specs.declared.place.Count.TheVariants.{OfPool}
use Rattle.rayon_machine_places.specs.declared.place.Move.TheVariants.{Stay, Back}
use Rattle.rayon_machine_places.specs.declared.place.Place.TheVariants as at
use Rattle.rayon_machine_places.specs.declared.place.Share.TheVariants.{OfJob}
use Rattle.rayon_machine_places.specs.declared.place.Then.TheVariants.{Resume}
use Rattle.rayon_performers.proofs.Spawns.{went_with}
use Rattle.rayon_performers.proofs.bench.Bench.end_detached.Goals as goal

pub returns-clause-path : goal.returns-clause-path
returns-clause-path g c =
    let u = c.lower_then.new.self in
    let none : u.holds ≡ 0 = search rules in
    went_with (Stay (at.LowerCount (OfPool 0) (OfJob c.args.job) Resume)) 1 0 c.exchange_units-kept.result c.args.self.now c.exchange_units-kept.new.self u c.exchange_units.new.self Back c.exchange_units-kept.ensures.bench none c.exchange_units.ensures.bench c.lower_then.ensures.path
