use Rattle.std.proofs.Common.{refl}
use Rattle.rayon_machine_places.specs.declared.place.Count.TheVariants.{OfCast}
use Rattle.rayon_machine_places.specs.declared.place.Move.TheVariants.{Stay, Back}
use Rattle.rayon_machine_places.specs.declared.place.Place.TheVariants as at
use Rattle.rayon_machine_places.specs.declared.place.Share.TheVariants.{OfJob}
use Rattle.rayon_machine_places.specs.declared.place.Then.TheVariants.{Resume}
use Rattle.rayon_machine_places.specs.declared.act.Seen.TheVariants.{Done}
use Rattle.rayon_performers.proofs.Stretches.{first_act}
use Rattle.rayon_performers.proofs.Drives.{then_goes}
use Rattle.rayon_performers.proofs.bench.Bench.end_piece.Goals as goal

pub returns-clause-path : goal.returns-clause-path
returns-clause-path g c =
    let s = c.args.self.now in
    let u = c.store_piece.new.self in
    let v = c.lower_broadcast.new.self in
    let first = Stay (at.StorePiece c.args.call c.args.owner c.args.name c.args.ending) in
    let lower = Stay (at.LowerCount (OfCast c.args.call c.args.owner) (OfJob c.args.name) Resume) in
    then_goes first lower Back s u v (first_act s.shape s.index first s u Done refl c.store_piece.ensures.does c.store_piece.ensures.adds) c.lower_broadcast.ensures.path
