use Rattle.std.proofs.Common.{refl, subst}
use Rattle.rayon_machine_places.specs.declared.place.Feeding.{Feeding}
use Rattle.rayon_machine_places.specs.declared.place.Move.TheVariants.{Stay}
use Rattle.rayon_machine_places.specs.declared.place.Place.TheVariants as at
use Rattle.rayon_machine_places.specs.declared.place.Plan.TheVariants.{Detach, Feed}
use Rattle.rayon_machine_places.specs.Places.{after_push}
use Rattle.rayon_machine_places.specs.declared.act.Seen.TheVariants.{Done, Refused}
use Rattle.rayon_performers.specs.Scopes.{into}
use Rattle.rayon_performers.proofs.Stretches.{So, by_act, first_act}
use Rattle.rayon_performers.proofs.Drives.{then_goes}
use Rattle.rayon_performers.proofs.bench.Bench.number_in_order.Goals as goal

pub returns-in-Err-clause-path : goal.returns-in-Err-clause-path
returns-in-Err-clause-path g c =
    let s = c.args.self.now in
    first_act s.shape s.index (Stay (at.OpenSlot (Feed (into c.args.entry c.args.token)))) s c.add.new.self Refused refl (c.add.ensures.same, tt) c.add.ensures.adds

pub returns-in-Ok-enlist-clause-path : goal.returns-in-Ok-enlist-clause-path
returns-in-Ok-enlist-clause-path g c =
    let s = c.args.self.now in
    let e = c.args.entry in
    let k = c.args.token in
    let t = c.add-2.new.self in
    let u = c.enlist.new.self in
    let first = Stay (at.OpenSlot (Feed (into e k))) in
    let adds = Stay (at.AddToFifo (into e k)) in
    let tells = Stay (at.TellNews (Detach 0 k) c.in-Ok-enlist.was_empty) in
    let path = subst (λ (f : Feeding). So t.shape t.index (Stay (at.AddToFifo f)) t (Stay (at.TellNews (Detach f.pool f.token) c.in-Ok-enlist.was_empty)) u) c.feeding_into.ensures c.in-Ok-enlist.ensures.path in
    then_goes first adds tells s t u (first_act s.shape s.index first s t Done refl (c.add-2.ensures.same, tt) c.add-2.ensures.adds) path

pub returns-in-Err-enlist-clause-path : goal.returns-in-Err-enlist-clause-path
returns-in-Err-enlist-clause-path g c =
    let s = c.args.self.now in
    let e = c.args.entry in
    let k = c.args.token in
    let t = c.add-2.new.self in
    let u = c.enlist.new.self in
    let v = c.add-in-Err-enlist.new.self in
    let first = Stay (at.OpenSlot (Feed (into e k))) in
    let adds = Stay (at.AddToFifo (into e k)) in
    let closes = Stay (after_push (Feed (into e k))) in
    let path = subst (λ (f : Feeding). So t.shape t.index (Stay (at.AddToFifo f)) t (Stay (after_push (Feed f))) u) c.feeding_into.ensures c.in-Err-enlist.ensures.path in
    let unlisted = then_goes first adds closes s t u (first_act s.shape s.index first s t Done refl (c.add-2.ensures.same, tt) c.add-2.ensures.adds) path in
    by_act s.shape s.index first s (Stay (at.CloseSlot (Feed (into e k)))) u v Done refl unlisted (c.add-in-Err-enlist.ensures.same, tt) c.add-in-Err-enlist.ensures.adds
