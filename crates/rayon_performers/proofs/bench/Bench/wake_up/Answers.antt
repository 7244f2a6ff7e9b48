use Rattle.rayon_performers.proofs.Letters.{wakes}
use Rattle.rayon_performers.proofs.bench.Bench.wake_up.Goals as goal

pub returns-clause-does : goal.returns-clause-does
returns-clause-does g c = wakes c.args.latch c.args.self.now c.rise.new.self c.add.new.self c.rise.ensures.same c.add.result c.rise.ensures.step c.add.ensures.same
