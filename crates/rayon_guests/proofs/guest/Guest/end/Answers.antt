use Rattle.std.proofs.Common.{subst, true}
use Rattle.rayon_atomics.specs.Tallies.{teller}
use Rattle.rayon_machine_places.specs.declared.place.Count.TheVariants.{OfPool}
use Rattle.rayon_machine_places.specs.declared.place.Move.TheVariants.{Stay, Back}
use Rattle.rayon_machine_places.specs.declared.place.Place.TheVariants as at
use Rattle.rayon_machine_places.specs.declared.place.Share.TheVariants.{PoolValue}
use Rattle.rayon_machine_places.specs.declared.place.Then.TheVariants.{Resume}
use Rattle.rayon_guests.proofs.Visits.{So}
use Rattle.rayon_guests.proofs.guest.Guest.end.Goals as goal

pub returns-clause-path : goal.returns-clause-path
returns-clause-path g c =
    let m = Stay (at.LowerCount (OfPool 0) PoolValue Resume) in
    let s = c.args.self.now in
    let from = subst (λ v. So v.shape m (record v { holds = true; marks = record { set = v.marks.set; count = teller c.spend.result } }) Back c.drive.new.self) c.self.view_is c.in-Back.ensures.path in
    subst (λ t. So s.shape m (record s { holds = true; marks = record { set = s.marks.set; count = t } }) Back c.drive.new.self) c.spend.ensures.seat from
