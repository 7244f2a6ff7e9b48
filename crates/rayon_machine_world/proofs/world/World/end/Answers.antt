use Rattle.std.proofs.Common.{◌∙◌, sym}
use Rattle.rayon_machine_world.specs.Running.{world_of}
use Rattle.rayon_machine_world.proofs.Made.{made-is}
use Rattle.rayon_machine_world.proofs.Calling.{ended-is}
use Rattle.rayon_machine_world.proofs.world.World.end.Goals as goal

pub returns-in-Run : goal.returns-in-Run
returns-in-Run c =
    let w = world_of c.args.self.now in
    made-is (ended-is w c.args.party c.args.ending c.in-Run.job c.in-Run.kind (sym c.in-Run.is ∙ c.top.ensures)) c.close.ensures
