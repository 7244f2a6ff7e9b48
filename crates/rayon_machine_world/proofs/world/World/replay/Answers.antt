use Rattle.std.proofs.Common.{suc, ◌+◌, ◌≡◌, None, take, sym, subst, arith}
use Rattle.rayon_machine_runs.specs.World.{World}
use Rattle.rayon_machine_runs.specs.Runs.{IsRun}
use Rattle.rayon_machine_runs.specs.Steps.{step}
use Rattle.rayon_machine_world.specs.Running.{world_of}
use Rattle.rayon_machine_runs.specs.declared.event.Event.TheVariants.{Go}
use Rattle.rayon_machine_places.specs.declared.place.Party.TheVariants.{Worker}
use Rattle.rayon_machine_world.proofs.Running.{run-next, run-all, holds-there}
use Rattle.rayon_machine_world.proofs.world.World.replay.Goals as goal

pub returns-in-Err-clause-before : goal.returns-in-Err-clause-before
returns-in-Err-clause-before c = subst (λ (x : World). IsRun (world_of c.args.self.now) (take c.loop-index.index c.args.events.now) x) (sym c.in-Err.ensures.err) c.loop-index.invariant

pub returns-in-Err-clause-not_enabled : goal.returns-in-Err-clause-not_enabled
returns-in-Err-clause-not_enabled c refused = holds-there (λ w event. step w event ≡ None) c.args.events.now c.loop-index.index (Go (Worker 0 0)) (world_of c.loop-index.self) (world_of c.step.new.self) c.loop-index-test.true c.in-Err.ensures.err (c.in-Err.ensures.not_enabled refused)

pub returns-in-Err-clause-enabled : goal.returns-in-Err-clause-enabled
returns-in-Err-clause-enabled c refused = holds-there (λ w event. ¬ (step w event ≡ None)) c.args.events.now c.loop-index.index (Go (Worker 0 0)) (world_of c.loop-index.self) (world_of c.step.new.self) c.loop-index-test.true c.in-Err.ensures.err (c.in-Err.ensures.enabled refused)

pub loop-index-preserved : goal.loop-index-preserved
loop-index-preserved c = let e : suc c.loop-index.index ≡ c.loop-index.index + 1 = omega arith in subst (λ n. IsRun (world_of c.args.self.now) (take n c.args.events.now) (world_of c.step.new.self)) e (run-next (world_of c.args.self.now) c.args.events.now c.loop-index.index (Go (Worker 0 0)) (world_of c.loop-index.self) (world_of c.step.new.self) c.loop-index-test.true c.loop-index.invariant c.in-Ok.ensures.ok)

pub returns-clause-run : goal.returns-clause-run
returns-clause-run c = let t = c.loop-index-test.false in run-all (world_of c.args.self.now) c.args.events.now c.loop-index.index (world_of c.loop-index.self) (omega arith) c.loop-index.invariant
