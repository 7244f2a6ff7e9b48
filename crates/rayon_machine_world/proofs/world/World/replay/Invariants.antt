use Rattle.std.proofs.Common.{take}
use Rattle.rayon_machine_runs.specs.Runs.{IsRun}
use Rattle.rayon_machine_world.specs.Running.{world_of}
use Rattle.rayon_machine_world.proofs.world.World.replay.Given as goal

abbrev pub invariant-loop-index : goal.invariant-loop-index
invariant-loop-index l = IsRun (world_of l.fn.self) (take l.index l.events) (world_of l.self)
