use Rattle.std.proofs.Common.{refl, subst}
use Rattle.rayon_machine_places.specs.Places.{call_all}
use Rattle.rayon_machine_places.specs.declared.place.Mark.TheVariants.{Queued}
use Rattle.rayon_machine_places.specs.declared.place.Move.TheVariants.{Back, Stay}
use Rattle.rayon_machine_places.specs.declared.place.Place.TheVariants as at
use Rattle.rayon_machine_places.specs.declared.place.Then.TheVariants.{Called}
use Rattle.rayon_performers.proofs.Casts.{from_mark}
use Rattle.rayon_performers.proofs.Stretches.{So}
use Rattle.rayon_performers.proofs.bench.Bench.call_all.Goals as goal

pub returns-clause-path : goal.returns-clause-path
returns-clause-path g c =
    let s = c.args.self.now in
    let t = c.finish_at.new.self in
    from_mark s.shape s.index (call_all s.shape c.args.pieces) c.args.pieces Queued s t refl
    (subst (λ v. So s.shape s.index (Stay (at.LockToWake (record { pool = c.args.pieces.pool; owed = v.shape.workers; worker = 0; then = Called }))) s Back t) c.self.view_is c.finish_at.ensures.path)
