use Rattle.std.proofs.Common.{inl, inr, refl}
use Rattle.rayon_machine_places.specs.declared.place.Mark.TheVariants.{Counted}
use Rattle.rayon_machine_places.specs.declared.place.Move.TheVariants.{Mark, Stay}
use Rattle.rayon_machine_places.specs.declared.place.Place.TheVariants as at
use Rattle.rayon_machine_places.specs.declared.act.Seen.TheVariants.{Done, Opened, Refused}
use Rattle.rayon_performers.proofs.ScopeCasts.{numbered_not_pushed, numbered_pushed}
use Rattle.rayon_performers.proofs.Stretches.{by_act, first_act}
use Rattle.rayon_performers.proofs.bench.Bench.number_each.Goals as goal

pub returns-in-Err-clause-path : goal.returns-in-Err-clause-path
returns-in-Err-clause-path g c =
    let s = c.args.self.now in
    let t = c.add.new.self in
    inl (first_act s.shape s.index (Mark (at.OpenForAll c.args.pieces) c.args.pieces Counted) s t Refused refl (c.add.ensures.same, tt) c.add.ensures.adds)

pub returns-in-Ok-push_numbered-clause-path : goal.returns-in-Ok-push_numbered-clause-path
returns-in-Ok-push_numbered-clause-path g c =
    let s = c.args.self.now in
    let t = c.add-2.new.self in
    let u = c.push_numbered.new.self in
    let p = c.args.pieces in (
      t,
      first_act s.shape s.index (Mark (at.OpenForAll p) p Counted) s t (Opened _) refl (c.add-2.ensures.same, tt) c.add-2.ensures.adds,
      numbered_pushed s.shape s.index p t u u _ c.push_numbered.ensures.same c.in-Ok-push_numbered.ensures.adds,
    )

pub returns-in-Err-push_numbered-clause-path : goal.returns-in-Err-push_numbered-clause-path
returns-in-Err-push_numbered-clause-path g c =
    let s = c.args.self.now in
    let h = s.shape in
    let i = s.index in
    let t = c.add-2.new.self in
    let u = c.push_numbered.new.self in
    let v = c.add-in-Err-push_numbered.new.self in
    let p = c.args.pieces in
    let first = Mark (at.OpenForAll p) p Counted in
    let numbered = first_act h i first s t (Opened _) refl (c.add-2.ensures.same, tt) c.add-2.ensures.adds in
    let refused = numbered_not_pushed h i p s t u first _ c.args.ticket.now.scope c.requires.count numbered c.push_numbered.ensures.same c.in-Err-push_numbered.ensures.adds in
    inr (by_act h i first s (Stay (at.CloseForAll p)) u v Done refl refused (c.add-in-Err-push_numbered.ensures.same, tt) c.add-in-Err-push_numbered.ensures.adds)
