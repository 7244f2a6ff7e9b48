use Rattle.std.proofs.Common.{None, refl, subst, ℕ}
use Rattle.rayon_machine_places.specs.Places.{gather_all}
use Rattle.rayon_machine_places.specs.declared.place.Mark.TheVariants.{Dealt}
use Rattle.rayon_machine_places.specs.declared.place.Move.TheVariants.{Stay}
use Rattle.rayon_machine_places.specs.declared.place.Place.TheVariants as at
use Rattle.rayon_machine_places.specs.declared.place.Target.TheVariants.{Answer}
use Rattle.rayon_machine_places.specs.declared.place.Then.TheVariants.{Gathers}
use Rattle.rayon_machine_places.specs.declared.place.Move.{Move}
use Rattle.rayon_performers.proofs.Broadcasts.{calls_wait, waits_from_mark}
use Rattle.rayon_performers.proofs.Drives.{drive_ends, drive_stays}
use Rattle.rayon_performers.proofs.Stretches.{So}
use Rattle.rayon_performers.proofs.Waits.{EndsWait}
use Rattle.rayon_performers.proofs.bench.Bench.call_pieces.Goals as goal

pub returns : goal.returns
returns g c =
    let s = c.args.self.now in
    let t = c.drive.new.self in
    let r = c.drive.result in
    let o = c.args.call in
    let calls : ℕ → Move = λ w. Stay (at.LockToWake (record { pool = o.pool; owed = w; worker = 0; then = Gathers o })) in
    let goes = subst (λ v. So s.shape s.index (calls v.shape.workers) s r t) c.self.view_is c.drive.ensures.path in
    let ends = drive_ends (EndsWait s.holds (Answer o None)) s.shape s.index (calls s.shape.workers) s t r (calls_wait s.index s.shape.workers o s c.requires.ticket c.requires.rests) goes c.drive.ensures.stops in
    record {
      path = λ k. waits_from_mark s.shape s.index o (gather_all s.shape o) k Dealt s t r refl ends.0.0 goes;
      stands = c.drive.ensures.stands;
      rests = c.drive.ensures.rests;
      ends = ends.0.0;
      units = ends.0.1;
      seat = drive_stays s.shape s.index (calls s.shape.workers) s t r goes;
    }
