use Rattle.std.proofs.Common.{◌≡◌, inl, refl}
use Rattle.rayon_machine_places.specs.declared.place.Move.TheVariants.{Back, Stay}
use Rattle.rayon_machine_places.specs.declared.place.Place.TheVariants as at
use Rattle.rayon_machine_places.specs.declared.act.Seen.TheVariants.{No}
use Rattle.rayon_performers.specs.Stands.{Anyhow, hand}
use Rattle.rayon_performers.proofs.ScopeCasts.{scope_ends, shares_ended}
use Rattle.rayon_performers.proofs.Stretches.{first_act}
use Rattle.rayon_performers.proofs.bench.Bench.hand_shares_back.Goals as goal

pub finish_at-requires-clause-hands : goal.finish_at-requires-clause-hands
finish_at-requires-clause-hands g c =
    let u = c.lower_shares.new.self in
    scope_ends c.args.pieces c.args.self.now u c.requires.count c.lower_shares.ensures.left c.requires.rests Anyhow u.index c.ends.result c.ends.ensures tt

pub finish_at-requires-clause-ends : goal.finish_at-requires-clause-ends
finish_at-requires-clause-ends g c =
    let u = c.lower_shares.new.self in
    scope_ends c.args.pieces c.args.self.now u c.requires.count c.lower_shares.ensures.left c.requires.rests (λ k v. (k ≡ Back) × (v ≡ hand u)) u.index c.ends.result c.ends.ensures (refl, refl)

pub returns-then-lower_shares-clause-path : goal.returns-then-lower_shares-clause-path
returns-then-lower_shares-clause-path g c =
    let u = c.lower_shares.new.self in
    shares_ended c.args.pieces c.args.self.now u c.requires.count c.lower_shares.ensures.left c.requires.rests c.finish_at.new.self c.ends.result c.ends.ensures c.if-lower_shares.ensures.does c.if-lower_shares.ensures.adds c.finish_at.ensures.path

pub returns-else-lower_shares-clause-path : goal.returns-else-lower_shares-clause-path
returns-else-lower_shares-clause-path g c =
    let s = c.args.self.now in
    inl (first_act s.shape s.index (Stay (at.LowerForAll c.args.pieces)) s c.lower_shares.new.self No refl c.if-lower_shares.ensures.does c.if-lower_shares.ensures.adds)
