use Rattle.std.proofs.Common.{ℕ, sym, subst}
use Rattle.rayon_machine_places.specs.declared.place.Move.TheVariants.{Stay}
use Rattle.rayon_machine_places.specs.declared.place.Party.{Party}
use Rattle.rayon_machine_places.specs.declared.place.Party.TheVariants.{Worker}
use Rattle.rayon_drive.specs.Paths.{Driven}
use Rattle.rayon_performers.specs.Hands.{Does}
use Rattle.rayon_performers.specs.Stands.{Anyhow, At}
use Rattle.rayon_performers.proofs.Drives.{drive_stays, rests_there}
use Rattle.rayon_performers.proofs.bench.Bench.drive.Goals as goal

pub returns-clause-stands : goal.returns-clause-stands
returns-clause-stands g c =
    let h = c.self.inside.shape in
    let s = c.args.self.now in
    let u = c.drive.new.performer in
    let first = Stay c.args.place in
    let path = subst (λ (q : Party). Driven (λ a x y b. Does x y a b) (λ a. a.trace) h q first s u c.drive.result) c.party-party.ensures c.drive.ensures.path in
    subst (λ (k : ℕ). At Anyhow (Worker 0 k) u c.drive.result) (sym (drive_stays h s.index first s u c.drive.result path).0)
    (subst (λ (q : Party). At Anyhow q u c.drive.result) c.party-party.ensures c.drive.ensures.stands.1)

pub returns-clause-rests : goal.returns-clause-rests
returns-clause-rests g c = rests_there c.party-party.result c.drive.new.performer c.drive.result c.drive.ensures.stops c.drive.ensures.stands.1
