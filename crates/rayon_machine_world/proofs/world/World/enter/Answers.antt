use Rattle.std.proofs.Common.{rules, ◌≡◌, true}
use Rattle.rayon_machine_places.specs.Places.{is_free}
use Rattle.rayon_machine_runs.specs.Steps.{holds}
use Rattle.rayon_machine_world.specs.Running.{world_of}
use Rattle.rayon_machine_world.proofs.Made.{made-is}
use Rattle.rayon_machine_world.proofs.Calling.{entered-is}
use Rattle.rayon_machine_world.proofs.world.World.enter.Goals as goal

pub returns : goal.returns
returns c =
    let w = world_of c.args.self.now in
    let q = c.args.party in
    let z = c.args.scope in
    let x = c.top-frame.result in
    let free : is_free x ≡ true = search (rules, c.can_call.ensures, c.if-not-can_call.false) in
    let held : holds z.call (w.stack q) ≡ true = search (rules, c.holds.ensures, c.if-not-holds.false) in
    made-is (entered-is w q z x c.made.result c.top-frame.ensures free held c.made.ensures) c.open_job.ensures
