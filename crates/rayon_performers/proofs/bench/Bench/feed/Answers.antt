use Rattle.std.proofs.Common.{◌∙◌, ℕ, ap, subst}
use Rattle.rayon_machine_places.specs.Places.{after_push}
use Rattle.rayon_machine_places.specs.declared.place.Feeding.{Feeding}
use Rattle.rayon_machine_places.specs.declared.place.Move.TheVariants.{Back, Stay}
use Rattle.rayon_machine_places.specs.declared.place.Place.TheVariants as at
use Rattle.rayon_machine_places.specs.declared.place.Plan.TheVariants.{Detach, Feed}
use Rattle.rayon_performers.specs.Fifos.{feeding}
use Rattle.rayon_performers.proofs.Stretches.{So}
use Rattle.rayon_performers.proofs.Drives.{then_goes}
use Rattle.rayon_performers.proofs.bench.Bench.feed.Goals as goal

pub returns-in-Ok-clause-path : goal.returns-in-Ok-clause-path
returns-in-Ok-clause-path g c =
    let s = c.args.self.now in
    let u = c.enlist-listed.new.self in
    let v = c.tell_pushed.new.self in
    let k = c.args.share.number in
    let first = Stay (at.AddToFifo (feeding c.args.name k)) in
    let told = Stay (at.TellNews (Detach 0 k) c.in-Ok.was_empty) in
    let lists = subst (λ (f : Feeding). So s.shape s.index (Stay (at.AddToFifo f)) s (Stay (at.TellNews (Detach f.pool f.token) c.in-Ok.was_empty)) u) (c.feeding_of.ensures ∙ ap (λ m. feeding c.args.name m) c.number-token.ensures) c.in-Ok.ensures.path in
    let tells = subst (λ (m : ℕ). So u.shape u.index (Stay (at.TellNews (Detach 0 m) c.in-Ok.was_empty)) u Back v) c.number-token.ensures c.tell_pushed.ensures.path in
    then_goes first told Back s u v lists tells

pub returns-in-Err-clause-path : goal.returns-in-Err-clause-path
returns-in-Err-clause-path g c =
    let s = c.args.self.now in
    let k = c.args.share.number in
    let u = c.enlist-listed.new.self in
    subst (λ (f : Feeding). So s.shape s.index (Stay (at.AddToFifo f)) s (Stay (after_push (Feed f))) u) (c.feeding_of.ensures ∙ ap (λ m. feeding c.args.name m) c.number-token.ensures) c.in-Err.ensures.path
