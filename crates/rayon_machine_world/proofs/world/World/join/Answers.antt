use Rattle.std.proofs.Common.{rules, ◌≡◌, ◌∙◌, true, ap}
use Rattle.rayon_machine_places.specs.declared.place.Party.TheVariants.{Worker}
use Rattle.rayon_machine_places.specs.Places.{is_free}
use Rattle.rayon_machine_world.specs.Running.{world_of}
use Rattle.rayon_machine_world.proofs.Made.{made-is}
use Rattle.rayon_machine_world.proofs.Calling.{joined-is}
use Rattle.rayon_machine_world.proofs.world.World.join.Goals as goal

pub returns : goal.returns
returns c =
    let w = world_of c.args.self.now in
    let p = c.in-Worker.pool in
    let i = c.in-Worker.index in
    let x = c.top-frame.result in
    let free : is_free x ≡ true = search (rules, c.can_call.ensures, c.if-not-can_call.false) in
    let there : x ≡ (w.stack (Worker p i)).top = c.top-frame.ensures ∙ ap (λ r. (w.stack r).top) c.in-Worker.is in
    rw c.in-Worker.is (made-is (joined-is w p i x c.made-first.result c.made-second.result there free c.made-first.ensures c.made-second.ensures) c.open_join.ensures)
