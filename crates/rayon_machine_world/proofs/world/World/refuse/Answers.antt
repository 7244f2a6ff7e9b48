use Rattle.std.proofs.Common.{rules, ◌≡◌, ◌∙◌, true, ap}
use Rattle.rayon_machine_places.specs.declared.act.Seen.TheVariants.{Refused}
use Rattle.rayon_machine_places.specs.Places.{is_refusable, next_of, own_pool}
use Rattle.rayon_machine_world.specs.Running.{world_of}
use Rattle.rayon_machine_world.proofs.Made.{made-is}
use Rattle.rayon_machine_world.proofs.Turning.{refused-turn}
use Rattle.rayon_machine_world.proofs.world.World.refuse.Goals as goal

pub returns : goal.returns
returns c =
    let w = world_of c.args.self.now in
    let q = c.args.party in
    let x = c.top-place.result in
    let shape : c.pool-shape.result ≡ w.shape.pool (own_pool q) = c.pool-shape.ensures ∙ ap (λ n. w.shape.pool n) c.pool.ensures in
    let can : is_refusable x ≡ true = search (rules, c.refusable.ensures, c.if-not-refusable.false) in
    made-is (refused-turn w q x c.next.result c.top-place.ensures can (c.next.ensures ∙ ap (λ s. next_of s q x Refused) shape)) c.turn.ensures
