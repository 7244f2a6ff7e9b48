use Rattle.rayon_performers.proofs.Recounts.{not_sets, sets}
use Rattle.rayon_performers.proofs.bench.Bench.set.Goals as goal

pub returns-then-strike-clause-does : goal.returns-then-strike-clause-does
returns-then-strike-clause-does g c = sets c.args.self.now c.strike.new.self c.add.new.self c.add.ensures.same c.args.latch c.args.pool c.args.worker c.strike.result c.add.result c.if-strike.true c.add.ensures.seen c.strike.ensures.same c.strike.ensures.step

pub returns-else-strike-clause-does : goal.returns-else-strike-clause-does
returns-else-strike-clause-does g c = not_sets c.args.self.now c.strike.new.self c.add-else-strike.new.self c.add-else-strike.ensures.same c.args.latch c.args.pool c.args.worker c.strike.result c.add-else-strike.result c.if-strike.false c.add-else-strike.ensures.seen c.strike.ensures.same c.strike.ensures.step
