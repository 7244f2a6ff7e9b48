use Rattle.std.proofs.Common.{◌≡◌, ◌∙◌, true, ap, sym}
use Rattle.rayon_machine_places.specs.declared.place.Party.TheVariants.{Worker}
use Rattle.rayon_machine_places.specs.Places.{is_free}
use Rattle.rayon_machine_world.specs.Running.{world_of}
use Rattle.rayon_machine_world.proofs.Made.{made-is}
use Rattle.rayon_machine_world.proofs.Turning.{yield-turn}
use Rattle.rayon_machine_world.proofs.world.World.give_way.Goals as goal

pub returns-then-can_call : goal.returns-then-can_call
returns-then-can_call c =
    let w = world_of c.args.self.now in
    let p = c.in-Worker.pool in
    let i = c.in-Worker.index in
    let x = c.top-frame.result in
    let can : is_free x ≡ true = sym c.can_call.ensures ∙ c.if-can_call.true in
    let there : x ≡ (w.stack (Worker p i)).top = c.top-frame.ensures ∙ ap (λ r. (w.stack r).top) c.in-Worker.is in
    rw c.in-Worker.is (made-is (yield-turn w p i x c.args.place there can) (rw c.in-Worker.is at c.turn.ensures))
