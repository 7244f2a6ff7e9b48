use Rattle.std.proofs.Common.{refl, subst}
use Rattle.rayon_machine_places.specs.declared.place.Count.TheVariants.{OfScope}
use Rattle.rayon_machine_places.specs.declared.place.Move.TheVariants.{Stay}
use Rattle.rayon_machine_places.specs.declared.place.Party.TheVariants.{Worker}
use Rattle.rayon_machine_places.specs.declared.place.Place.TheVariants as at
use Rattle.rayon_machine_places.specs.declared.act.Seen.TheVariants.{Yes, No}
use Rattle.rayon_machine_places.specs.Places.{finish, set_call}
use Rattle.rayon_performers.proofs.Stretches.{So, first_act, and_then}
use Rattle.rayon_performers.proofs.bench.Bench.lower_scope_then.Goals as goal

pub returns-then-lower_scope-clause-path : goal.returns-then-lower_scope-clause-path
returns-then-lower_scope-clause-path g c =
    let h = c.args.self.now.shape in
    let i = c.args.self.now.index in
    let first = Stay (at.LowerCount (OfScope c.args.call c.args.owner) c.args.share c.args.then) in
    let s = c.args.self.now in
    and_then h i first s (Stay (set_call c.args.call c.args.owner c.args.then)) (finish (Worker 0 i) c.args.then) c.lower_scope.new.self c.finish_from.new.self
    (first_act h i first s c.lower_scope.new.self Yes refl c.if-lower_scope.ensures.does c.if-lower_scope.ensures.adds)
    (subst (λ v. So v.shape v.index (Stay (set_call c.args.call c.args.owner c.args.then)) c.lower_scope.new.self (finish (Worker 0 v.index) c.args.then) c.finish_from.new.self) c.self.view_is c.finish_from.ensures.path)

pub returns-else-lower_scope-clause-path : goal.returns-else-lower_scope-clause-path
returns-else-lower_scope-clause-path g c =
    let h = c.args.self.now.shape in
    let i = c.args.self.now.index in
    let first = Stay (at.LowerCount (OfScope c.args.call c.args.owner) c.args.share c.args.then) in
    let s = c.args.self.now in
    first_act h i first s c.lower_scope.new.self No refl c.if-lower_scope.ensures.does c.if-lower_scope.ensures.adds
