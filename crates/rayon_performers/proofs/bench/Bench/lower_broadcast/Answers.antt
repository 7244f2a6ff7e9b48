use Rattle.std.proofs.Common.{refl, subst}
use Rattle.rayon_machine_places.specs.declared.place.Count.TheVariants.{OfCast}
use Rattle.rayon_machine_places.specs.declared.place.Move.TheVariants.{Back, Stay}
use Rattle.rayon_machine_places.specs.declared.place.Place.TheVariants as at
use Rattle.rayon_machine_places.specs.declared.place.Share.TheVariants.{OfJob}
use Rattle.rayon_machine_places.specs.declared.place.Then.TheVariants.{Resume}
use Rattle.rayon_machine_places.specs.declared.act.Seen.TheVariants.{Yes, No}
use Rattle.rayon_machine_places.specs.Places.{set_call}
use Rattle.rayon_performers.proofs.Stretches.{So, first_act, and_then}
use Rattle.rayon_performers.proofs.bench.Bench.lower_broadcast.Goals as goal

pub returns-then-lower_part-clause-path : goal.returns-then-lower_part-clause-path
returns-then-lower_part-clause-path g c =
    let s = c.args.self.now in
    let h = s.shape in
    let i = s.index in
    let first = Stay (at.LowerCount (OfCast c.args.call c.args.owner) (OfJob c.args.name) Resume) in
    let sets = Stay (set_call c.args.call c.args.owner Resume) in
    and_then h i first s sets Back c.lower_part.new.self c.finish_from.new.self
    (first_act h i first s c.lower_part.new.self Yes refl c.if-lower_part.ensures.does c.if-lower_part.ensures.adds)
    (subst (λ v. So v.shape v.index sets c.lower_part.new.self Back c.finish_from.new.self) c.self.view_is c.finish_from.ensures.path)

pub returns-else-lower_part-clause-path : goal.returns-else-lower_part-clause-path
returns-else-lower_part-clause-path g c =
    let s = c.args.self.now in
    let h = s.shape in
    let i = s.index in
    let first = Stay (at.LowerCount (OfCast c.args.call c.args.owner) (OfJob c.args.name) Resume) in
    first_act h i first s c.lower_part.new.self No refl c.if-lower_part.ensures.does c.if-lower_part.ensures.adds
