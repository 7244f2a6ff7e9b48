use Rattle.std.proofs.Common.{subst, ◌≡◌}
use Rattle.rayon_machine_places.specs.declared.place.Move.{Move}
use Rattle.rayon_machine_places.specs.declared.place.Party.TheVariants.{Worker}
use Rattle.rayon_machine_places.specs.Places.{finish, next_of}
use Rattle.rayon_performers.specs.Stands.{hand}
use Rattle.rayon_performers.proofs.Drives.{drive_counts, drive_ends, told_by}
use Rattle.rayon_performers.proofs.Stretches.{So}
use Rattle.rayon_performers.proofs.bench.Bench.finish_from.Goals as goal

pub returns-clause-path : goal.returns-clause-path
returns-clause-path g c =
    let s = c.args.self.now in
    let first = next_of c.args.shape (Worker 0 c.args.index) c.args.place c.args.seen in
    let last = finish (Worker 0 c.args.index) c.args.then in
    let end = drive_ends (λ m u. (m ≡ last) × (u ≡ hand s)) c.args.shape c.args.index first s c.go_on_from.new.self c.go_on_from.result c.requires.ends c.go_on_from.ensures.path c.go_on_from.ensures.stops in
    subst (λ (m : Move). So c.args.shape c.args.index first s m c.go_on_from.new.self) end.0.0 c.go_on_from.ensures.path

pub returns-clause-same : goal.returns-clause-same
returns-clause-same g c =
    let s = c.args.self.now in
    let first = next_of c.args.shape (Worker 0 c.args.index) c.args.place c.args.seen in
    let last = finish (Worker 0 c.args.index) c.args.then in
    told_by s c.go_on_from.new.self
    (drive_ends (λ m u. (m ≡ last) × (u ≡ hand s)) c.args.shape c.args.index first s c.go_on_from.new.self c.go_on_from.result c.requires.ends c.go_on_from.ensures.path c.go_on_from.ensures.stops).0.1

pub returns-clause-count : goal.returns-clause-count
returns-clause-count g c =
    let s = c.args.self.now in
    let first = next_of c.args.shape (Worker 0 c.args.index) c.args.place c.args.seen in
    let last = finish (Worker 0 c.args.index) c.args.then in
    let end = drive_ends (λ m u. (m ≡ last) × (u ≡ hand s)) c.args.shape c.args.index first s c.go_on_from.new.self c.go_on_from.result c.requires.ends c.go_on_from.ensures.path c.go_on_from.ensures.stops in
    drive_counts (λ m u. (m ≡ last) × (u ≡ hand s)) c.args.shape c.args.index first s c.go_on_from.new.self c.go_on_from.result c.requires.ends c.go_on_from.ensures.path end.0.1
