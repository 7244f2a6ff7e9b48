use Rattle.std.proofs.Common.{◌≡◌, ◌-◌, ◌==◌, true, false, refl, sym, subst, ap}
use Rattle.rayon_atomics.specs.declared.views.Teller.{Teller}
use Rattle.rayon_machine_places.specs.declared.place.Count.TheVariants.{OfPool}
use Rattle.rayon_machine_places.specs.declared.place.Move.TheVariants.{Stay}
use Rattle.rayon_machine_places.specs.declared.place.Party.TheVariants.{Worker}
use Rattle.rayon_machine_places.specs.declared.place.Place.TheVariants as at
use Rattle.rayon_machine_places.specs.declared.place.Share.TheVariants.{OfJob}
use Rattle.rayon_machine_places.specs.declared.act.Seen.TheVariants.{Yes, No}
use Rattle.rayon_machine_places.specs.Places.{finish, settle}
use Rattle.rayon_performers.proofs.Stretches.{So, first_act, and_then}
use Rattle.rayon_performers.specs.Keeps.{settle_at}
use Rattle.rayon_shared.specs.Marks.{GivesUnit}
use Rattle.rayon_performers.specs.Stands.{Anyhow, At, EndsIn, hand}
use Rattle.rayon_performers.proofs.Drives.{follows}
use Rattle.rayon_performers.proofs.bench.Bench.lower_then.Goals as goal

pub returns-then-lower-clause-path : goal.returns-then-lower-clause-path
returns-then-lower-clause-path g c =
    let h = c.args.self.now.shape in
    let i = c.args.self.now.index in
    let first = Stay (at.LowerCount (OfPool 0) (OfJob c.args.job) c.args.then) in
    let s = c.args.self.now in
    and_then h i first s (settle h (Worker 0 i) 0 0 c.args.then) (finish (Worker 0 i) c.args.then) c.lower.new.self c.end_count.new.self
    (first_act h i first s c.lower.new.self Yes refl c.if-lower.ensures.does c.if-lower.ensures.adds)
    (subst (λ v. So v.shape v.index (settle v.shape (Worker 0 v.index) 0 0 c.args.then) c.lower.new.self (finish (Worker 0 v.index) c.args.then) c.end_count.new.self) c.if-lower.ensures.left c.end_count.ensures.path)

pub returns-else-lower-clause-path : goal.returns-else-lower-clause-path
returns-else-lower-clause-path g c =
    let h = c.args.self.now.shape in
    let i = c.args.self.now.index in
    let first = Stay (at.LowerCount (OfPool 0) (OfJob c.args.job) c.args.then) in
    let s = c.args.self.now in
    first_act h i first s c.lower.new.self No refl c.if-lower.ensures.does c.if-lower.ensures.adds

pub end_count-requires-clause-hands : goal.end_count-requires-clause-hands
end_count-requires-clause-hands g c =
    let s = c.args.self.now in
    let u = c.lower.new.self in
    subst (λ v. At Anyhow (Worker 0 v.index) u (settle v.shape (Worker 0 v.index) 0 0 c.args.then)) (sym c.if-lower.ensures.left)
    (settle_at Anyhow u s.shape 0 s.index 0 0 c.args.then (follows Anyhow s u (s.holds - 1) s.tally 0 s.index c.args.then (ap hand c.if-lower.ensures.left) c.requires.last c.requires.rests tt))

pub end_count-requires-clause-ends : goal.end_count-requires-clause-ends
end_count-requires-clause-ends g c =
    let s = c.args.self.now in
    let u = c.lower.new.self in
    let last = finish (Worker 0 s.index) c.args.then in
    subst (λ v. EndsIn (Worker 0 v.index) (finish (Worker 0 v.index) c.args.then) u (settle v.shape (Worker 0 v.index) 0 0 c.args.then)) (sym c.if-lower.ensures.left)
    (settle_at (λ m v. (m ≡ last) × (v ≡ hand u)) u s.shape 0 s.index 0 0 c.args.then (follows (λ m v. (m ≡ last) × (v ≡ hand u)) s u (s.holds - 1) s.tally 0 s.index c.args.then (ap hand c.if-lower.ensures.left) c.requires.last c.requires.rests (refl, refl)))

pub returns-then-lower-clause-unit : goal.returns-then-lower-clause-unit
returns-then-lower-clause-unit g c =
    let s = c.args.self.now in
    (true, subst (λ (z : Teller). GivesUnit (s.holds == 1) true s.marks.count z) (sym c.end_count.ensures.count) c.if-lower.ensures.does.1)

pub returns-else-lower-clause-unit : goal.returns-else-lower-clause-unit
returns-else-lower-clause-unit g c = (false, c.if-lower.ensures.does.1)
