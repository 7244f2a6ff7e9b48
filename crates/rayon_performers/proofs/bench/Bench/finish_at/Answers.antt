use Rattle.std.proofs.Common.{subst, ◌≡◌}
use Rattle.rayon_machine_places.specs.declared.place.Move.{Move}
use Rattle.rayon_machine_places.specs.declared.place.Move.TheVariants.{Back, Stay}
use Rattle.rayon_performers.specs.Stands.{hand}
use Rattle.rayon_performers.proofs.Drives.{drive_counts, drive_ends, told_by}
use Rattle.rayon_performers.proofs.Stretches.{So}
use Rattle.rayon_performers.proofs.bench.Bench.finish_at.Goals as goal

pub returns-clause-path : goal.returns-clause-path
returns-clause-path g c =
    let s = c.args.self.now in
    let first = Stay c.args.place in
    let end = drive_ends (λ m u. (m ≡ Back) × (u ≡ hand s)) s.shape s.index first s c.drive.new.self c.drive.result c.requires.ends c.drive.ensures.path c.drive.ensures.stops in
    subst (λ (m : Move). So s.shape s.index first s m c.drive.new.self) end.0.0 c.drive.ensures.path

pub returns-clause-same : goal.returns-clause-same
returns-clause-same g c =
    let s = c.args.self.now in
    told_by s c.drive.new.self
    (drive_ends (λ m u. (m ≡ Back) × (u ≡ hand s)) s.shape s.index (Stay c.args.place) s c.drive.new.self c.drive.result c.requires.ends c.drive.ensures.path c.drive.ensures.stops).0.1

pub returns-clause-count : goal.returns-clause-count
returns-clause-count g c =
    let s = c.args.self.now in
    let first = Stay c.args.place in
    let end = drive_ends (λ m u. (m ≡ Back) × (u ≡ hand s)) s.shape s.index first s c.drive.new.self c.drive.result c.requires.ends c.drive.ensures.path c.drive.ensures.stops in
    drive_counts (λ m u. (m ≡ Back) × (u ≡ hand s)) s.shape s.index first s c.drive.new.self c.drive.result c.requires.ends c.drive.ensures.path end.0.1
