use Rattle.std.proofs.Common.{rules, ◌≡◌, ◌∙◌, ap, true}
use Rattle.rayon_machine_places.specs.declared.place.Pieces.{Pieces}
use Rattle.rayon_machine_places.specs.declared.place.Count.TheVariants.{OfPool}
use Rattle.rayon_machine_places.specs.Places.{is_free}
use Rattle.rayon_machine_runs.specs.Steps.{is_pool}
use Rattle.rayon_machine_world.specs.Running.{world_of}
use Rattle.rayon_machine_world.proofs.Made.{made-is}
use Rattle.rayon_machine_world.proofs.Calling.{cast-is}
use Rattle.rayon_machine_world.proofs.world.World.cast.Goals as goal

pub returns : goal.returns
returns c =
    let w = world_of c.args.self.now in
    let q = c.args.party in
    let p = c.args.pool in
    let x = c.top-frame.result in
    let b : Pieces = record { count = OfPool p; pool = p; first = c.args.self.now.jobs; workers = c.pool.result.workers } in
    let free : is_free x ≡ true = search (rules, c.can_call.ensures, c.if-not-can_call.false) in
    let known : is_pool w.shape p ≡ true = search (rules, c.has_pool.ensures, c.if-not-has_pool.false) in
    let all : b ≡ record { count = OfPool p; pool = p; first = w.jobs; workers = (w.shape.pool p).workers } = ap (λ s. record { count = OfPool p; pool = p; first = w.jobs; workers = s.workers }) c.pool.ensures in
    made-is (cast-is w q p x b c.top-frame.ensures free known all) c.open_cast.ensures
