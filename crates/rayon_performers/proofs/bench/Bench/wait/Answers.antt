use Rattle.rayon_machine_places.specs.declared.place.Move.TheVariants.{Stay}
use Rattle.rayon_machine_places.specs.declared.place.Party.TheVariants.{Worker}
use Rattle.rayon_machine_places.specs.declared.place.Place.TheVariants as at
use Rattle.rayon_machine_places.specs.Places.{fresh}
use Rattle.rayon_performers.proofs.Drives.{drive_ends, drive_stays, rests_there}
use Rattle.rayon_performers.proofs.Waits.{EndsWait, wait_begins}
use Rattle.rayon_performers.proofs.bench.Bench.wait.Goals as goal

pub returns : goal.returns
returns g c =
    let s = c.args.self.now in
    let u = c.first_looks.new.self in
    let r = c.first_looks.result in
    let o = c.args.target in
    let first = Stay (at.ProbeWorking (fresh o)) in
    let goes = c.first_looks.ensures.path in
    let ends = drive_ends (EndsWait s.holds o) s.shape s.index first s u r (wait_begins s.index s o c.requires.ticket c.requires.rests) goes c.first_looks.ensures.stops in
    record {
      path = goes;
      stands = c.first_looks.ensures.stands;
      rests = rests_there (Worker 0 u.index) u r c.first_looks.ensures.stops c.first_looks.ensures.stands;
      ends = ends.0.0;
      units = ends.0.1;
      seat = drive_stays s.shape s.index first s u r goes;
    }
