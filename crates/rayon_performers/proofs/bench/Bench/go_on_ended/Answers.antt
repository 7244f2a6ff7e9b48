use Rattle.std.proofs.Common.{None, subst, sym, ℕ}
use Rattle.rayon_machine_places.specs.declared.place.Move.TheVariants.{Stay}
use Rattle.rayon_machine_places.specs.declared.place.Target.TheVariants.{Answer}
use Rattle.rayon_machine_places.specs.declared.place.Then.TheVariants.{Await}
use Rattle.rayon_machine_places.specs.Places.{set_call}
use Rattle.rayon_machine_places.specs.declared.place.Party.TheVariants.{Worker}
use Rattle.rayon_performers.specs.Stands.{Anyhow, At}
use Rattle.rayon_performers.proofs.Drives.{drive_ends, drive_stays}
use Rattle.rayon_performers.proofs.Scopes.{ended_waits}
use Rattle.rayon_performers.proofs.Stretches.{So}
use Rattle.rayon_performers.proofs.Waits.{EndsWait}
use Rattle.rayon_performers.proofs.bench.Bench.go_on_ended.Goals as goal

pub returns : goal.returns
returns g c =
    let s = c.args.self.now in
    let t = c.go_on_from.new.self in
    let r = c.go_on_from.result in
    let o = c.args.call in
    let m = Stay (set_call o.number c.args.owner (Await o)) in
    let goes = subst (λ v. So v.shape v.index m s r t) c.self.view_is c.go_on_from.ensures.path in
    let same = drive_stays s.shape s.index m s t r goes in
    let ends = drive_ends (EndsWait s.holds (Answer o None)) s.shape s.index m s t r (ended_waits s.index o c.args.owner s c.requires.scope c.requires.ticket c.requires.rests) goes c.go_on_from.ensures.stops in
    record {
      path = goes;
      stands = subst (λ (k : ℕ). At Anyhow (Worker 0 k) t r) (sym same.0) (subst (λ v. At Anyhow (Worker 0 v.index) t r) c.self.view_is c.go_on_from.ensures.stands);
      rests = c.go_on_from.ensures.rests;
      ends = ends.0.0;
      units = ends.0.1;
      seat = same;
    }
