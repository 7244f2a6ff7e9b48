use Rattle.std.proofs.Common.{rules, arith, ◌≡◌, ◌∙◌, true, ap, sym}
use Rattle.std.specs.Prelude.{nat_lt}
use Rattle.rayon_machine_places.specs.declared.act.Seen.TheVariants.{Start}
use Rattle.rayon_machine_places.specs.Places.{next_of, own_pool, is_pick}
use Rattle.rayon_machine_world.specs.Running.{world_of}
use Rattle.rayon_machine_world.proofs.Made.{made-is}
use Rattle.rayon_machine_world.proofs.Turning.{chosen-turn}
use Rattle.rayon_machine_world.proofs.world.World.choose.Goals as goal

pub returns : goal.returns
returns c =
    let w = world_of c.args.self.now in
    let q = c.args.party in
    let x = c.top-place.result in
    let v = c.args.victim in
    let shape : c.pool-shape.result ≡ w.shape.pool (own_pool q) = c.pool-shape.ensures ∙ ap (λ n. w.shape.pool n) c.pool.ensures in
    let can : is_pick x ≡ true = search (rules, c.picks.ensures, c.if-not-picks.false) in
    let lt : nat_lt v c.pool-shape.result.workers ≡ true = search (rules, arith, c.if-victim-shape.false) in
    let small : nat_lt v (w.shape.pool (own_pool q)).workers ≡ true = ap (λ s. nat_lt v s.workers) (sym shape) ∙ lt in
    made-is (chosen-turn w q v x c.next.result c.top-place.ensures can small (c.next.ensures ∙ ap (λ s. next_of s q x (Start v)) shape)) c.turn.ensures
