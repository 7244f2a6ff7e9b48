use Rattle.std.proofs.Common.{Some, refl}
use Rattle.rayon_machine_places.specs.declared.place.Count.TheVariants.{OfPool}
use Rattle.rayon_machine_places.specs.declared.place.Ending.TheVariants.{Fine}
use Rattle.rayon_machine_places.specs.declared.place.Move.TheVariants.{Back, Stay}
use Rattle.rayon_machine_places.specs.declared.place.Party.TheVariants.{Worker}
use Rattle.rayon_machine_places.specs.declared.place.Place.TheVariants as at
use Rattle.rayon_machine_places.specs.declared.place.Share.TheVariants.{OfJob}
use Rattle.rayon_machine_places.specs.declared.place.Then.TheVariants.{Answers}
use Rattle.rayon_machine_places.specs.declared.act.Seen.TheVariants.{Yes, No}
use Rattle.rayon_machine_places.specs.Places.{settle}
use Rattle.rayon_performers.proofs.Stretches.{first_act}
use Rattle.rayon_performers.proofs.Drives.{then_at}
use Rattle.rayon_performers.proofs.bench.Bench.lower_joined.Goals as goal

pub returns-then-lower-clause-path : goal.returns-then-lower-clause-path
returns-then-lower-clause-path g c =
    let h = c.args.self.now.shape in
    let i = c.args.self.now.index in
    let next = Answers c.args.call (Some Fine) c.args.last in
    let first = Stay (at.LowerCount (OfPool 0) (OfJob c.args.call.job) next) in
    let s = c.args.self.now in
    then_at first (λ k j. settle k (Worker 0 j) 0 0 next) Back s c.lower.new.self c.end_join.new.self
    (first_act h i first s c.lower.new.self Yes refl c.if-lower.ensures.does c.if-lower.ensures.adds) c.end_join.ensures.path

pub returns-else-lower-clause-path : goal.returns-else-lower-clause-path
returns-else-lower-clause-path g c =
    let h = c.args.self.now.shape in
    let i = c.args.self.now.index in
    let first = Stay (at.LowerCount (OfPool 0) (OfJob c.args.call.job) (Answers c.args.call (Some Fine) c.args.last)) in
    let s = c.args.self.now in
    first_act h i first s c.lower.new.self No refl c.if-lower.ensures.does c.if-lower.ensures.adds
