use Rattle.std.proofs.Common.{ℕ, sym, subst}
use Rattle.rayon_machine_places.specs.declared.place.Party.TheVariants.{Worker}
use Rattle.rayon_machine_places.specs.Places.{next_of}
use Rattle.rayon_performers.specs.Stands.{Anyhow, At}
use Rattle.rayon_performers.proofs.Drives.{drive_stays}
use Rattle.rayon_performers.proofs.Stretches.{So}
use Rattle.rayon_performers.proofs.bench.Bench.go_on_waiting.Goals as goal

pub go_on_from-requires : goal.go_on_from-requires
go_on_from-requires g c = record { hands = subst (λ v. At Anyhow (Worker 0 v.index) c.args.self.now (next_of v.shape (Worker 0 v.index) c.args.place c.args.seen)) (sym c.self.view_is) c.requires }

pub returns-clause-stands : goal.returns-clause-stands
returns-clause-stands g c =
    let s = c.args.self.now in
    let u = c.go_on_from.new.self in
    let r = c.go_on_from.result in
    let goes = subst (λ v. So v.shape v.index (next_of v.shape (Worker 0 v.index) c.args.place c.args.seen) s r u) c.self.view_is c.go_on_from.ensures.path in
    let stands = subst (λ v. At Anyhow (Worker 0 v.index) u r) c.self.view_is c.go_on_from.ensures.stands in
    subst (λ (k : ℕ). At Anyhow (Worker 0 k) u r) (sym (drive_stays s.shape s.index (next_of s.shape (Worker 0 s.index) c.args.place c.args.seen) s u r goes).0) stands
