use Rattle.std.proofs.Common.{inl, inr, refl, sym, subst}
use Rattle.rayon_machine_places.specs.Places.{ends_count}
use Rattle.rayon_machine_places.specs.declared.place.Count.{Count}
use Rattle.rayon_machine_places.specs.declared.place.Count.TheVariants.{OfPool}
use Rattle.rayon_machine_places.specs.declared.place.Mark.TheVariants.{Returned}
use Rattle.rayon_machine_places.specs.declared.place.Move.TheVariants.{Back, Mark, Stay}
use Rattle.rayon_machine_places.specs.declared.place.Place.TheVariants as at
use Rattle.rayon_machine_places.specs.declared.act.Seen.TheVariants.{No, Yes}
use Rattle.rayon_performers.proofs.Casts.{from_mark}
use Rattle.rayon_performers.proofs.Stretches.{So, first_act}
use Rattle.rayon_performers.proofs.Drives.{then_goes}
use Rattle.rayon_performers.proofs.bench.Bench.hand_back.Goals as goal

pub returns-then-lower_all-clause-path : goal.returns-then-lower_all-clause-path
returns-then-lower_all-clause-path g c =
    let s = c.args.self.now in
    let u = c.lower_all.new.self in
    let v = c.finish_at.new.self in
    let p = c.args.pieces in
    let sets = from_mark u.shape u.index (ends_count (OfPool 0)) p Returned u v refl c.finish_at.ensures.path in
    let ends = subst (λ (k : Count). So u.shape u.index (Mark (ends_count k) p Returned) u Back v) (sym c.requires.count) sets in
    inr (then_goes (Stay (at.LowerForAll p)) (Mark (ends_count p.count) p Returned) Back s u v (first_act s.shape s.index (Stay (at.LowerForAll p)) s u Yes refl c.if-lower_all.ensures.does c.if-lower_all.ensures.adds) ends)

pub returns-else-lower_all-clause-path : goal.returns-else-lower_all-clause-path
returns-else-lower_all-clause-path g c =
    let s = c.args.self.now in
    inl (first_act s.shape s.index (Stay (at.LowerForAll c.args.pieces)) s c.lower_all.new.self No refl c.if-lower_all.ensures.does c.if-lower_all.ensures.adds)
