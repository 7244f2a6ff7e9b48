use Rattle.std.proofs.Common.{refl, subst}
use Rattle.rayon_machine_places.specs.declared.place.Move.TheVariants.{Stay, Back}
use Rattle.rayon_machine_places.specs.declared.place.Place.TheVariants as at
use Rattle.rayon_machine_places.specs.declared.place.Then.TheVariants.{Resume}
use Rattle.rayon_machine_places.specs.declared.act.Seen.TheVariants.{Done}
use Rattle.rayon_machine_places.specs.Places.{set_call}
use Rattle.rayon_performers.proofs.Stretches.{So, first_act, and_then}
use Rattle.rayon_performers.proofs.bench.Bench.tell.Goals as goal

pub returns-clause-path : goal.returns-clause-path
returns-clause-path g c =
    let h = c.args.self.now.shape in
    let i = c.args.self.now.index in
    let first = Stay (at.StoreResult c.args.call c.args.owner c.args.ending) in
    let s = c.args.self.now in
    and_then h i first s (Stay (set_call c.args.call c.args.owner Resume)) Back c.store.new.self c.finish_from.new.self
    (first_act h i first s c.store.new.self Done refl c.store.ensures.does c.store.ensures.adds)
    (subst (λ v. So v.shape v.index (Stay (set_call c.args.call c.args.owner Resume)) c.store.new.self Back c.finish_from.new.self) c.self.view_is c.finish_from.ensures.path)
