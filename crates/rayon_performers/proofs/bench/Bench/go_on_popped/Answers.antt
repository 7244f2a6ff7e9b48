use Rattle.std.proofs.Common.{◌≡◌, sym, subst}
use Rattle.rayon_machine_places.specs.declared.place.Party.TheVariants.{Worker}
use Rattle.rayon_machine_places.specs.declared.place.Place.TheVariants as at
use Rattle.rayon_machine_places.specs.Places.{next_of}
use Rattle.rayon_performers.specs.Stands.{Anyhow, At}
use Rattle.rayon_performers.specs.Waits.{units_after}
use Rattle.rayon_performers.proofs.Drives.{drive_ends, drive_stays}
use Rattle.rayon_performers.proofs.Stretches.{So}
use Rattle.rayon_performers.proofs.Waits.{EndsJoin, found_so, popped_ends}
use Rattle.rayon_performers.proofs.bench.Bench.go_on_popped.Goals as goal

pub found_by-requires : goal.found_by-requires
found_by-requires g c =
    let h = c.args.self.now.shape in
    let i = c.args.self.now.index in
    let o = c.args.call in
    let s = c.args.self.now in
    let t = c.go_on_from.new.self in
    let m = next_of h (Worker 0 i) (at.JoinPop o) c.args.popped in
    let goes = subst (λ v. So v.shape v.index (next_of v.shape (Worker 0 v.index) (at.JoinPop o) c.args.popped) c.args.self.now c.go_on_from.result t) c.self.view_is c.go_on_from.ensures.path in
    (drive_ends (EndsJoin s.holds o) h i m s t c.go_on_from.result (popped_ends h i s o c.args.popped c.requires.other c.requires.hands) goes c.go_on_from.ensures.stops).0.0

pub returns : goal.returns
returns g c =
    let h = c.args.self.now.shape in
    let i = c.args.self.now.index in
    let o = c.args.call in
    let s = c.args.self.now in
    let t = c.go_on_from.new.self in
    let m = next_of h (Worker 0 i) (at.JoinPop o) c.args.popped in
    let goes = subst (λ v. So v.shape v.index (next_of v.shape (Worker 0 v.index) (at.JoinPop o) c.args.popped) s c.go_on_from.result t) c.self.view_is c.go_on_from.ensures.path in
    let ends = drive_ends (EndsJoin s.holds o) h i m s t c.go_on_from.result (popped_ends h i s o c.args.popped c.requires.other c.requires.hands) goes c.go_on_from.ensures.stops in
    record {
      path = subst (λ z. So h i m s z t) (sym c.found_by.ensures) goes;
      found = found_so (Worker 0 c.self.inside.index) t o c.found_by.result (subst (λ z. At Anyhow (Worker 0 c.self.inside.index) t z) (sym c.found_by.ensures) c.go_on_from.ensures.stands);
      units = subst (λ z. t.holds ≡ units_after z s.holds) (sym c.found_by.ensures) ends.0.1;
      same = drive_stays h i m s t c.go_on_from.result goes;
      rests = c.go_on_from.ensures.rests;
    }
