use Rattle.std.proofs.Common.{rules, ◌≡◌, ◌∙◌, true, ap, sym}
use Rattle.rayon_machine_places.specs.Places.{is_free}
use Rattle.rayon_machine_runs.specs.Steps.{is_pool}
use Rattle.rayon_machine_world.specs.Running.{world_of}
use Rattle.rayon_machine_world.proofs.Made.{made-is}
use Rattle.rayon_machine_world.proofs.Calling.{given-is}
use Rattle.rayon_machine_world.proofs.world.World.end_pool.Goals as goal

pub returns : goal.returns
returns c =
    let w = world_of c.args.self.now in
    let q = c.args.party in
    let p = c.args.pool in
    let x = c.top-frame.result in
    let free : is_free x ≡ true = search (rules, c.can_call.ensures, c.if-not-can_call.false) in
    let known : is_pool w.shape p ≡ true = search (rules, c.has_pool.ensures, c.if-not-has_pool.false) in
    let held : (w.pool p).held ≡ true = sym (ap (λ n. n.held) c.numbers-held.ensures) ∙ c.if-not-held.false in
    made-is (given-is w q p x c.top-frame.ensures free known held) c.let_go.ensures
