use Rattle.rayon_performers.proofs.Letters.{asleep, not_asleep}
use Rattle.rayon_performers.proofs.bench.Bench.fall_asleep.Goals as goal

pub returns-then-try_asleep-clause-does : goal.returns-then-try_asleep-clause-does
returns-then-try_asleep-clause-does g c = asleep c.args.latch c.args.self.now c.try_asleep.new.self c.add.new.self c.try_asleep.ensures.same c.try_asleep.result c.add.result c.if-try_asleep.true c.add.ensures.seen c.try_asleep.ensures.step c.add.ensures.same

pub returns-else-try_asleep-clause-does : goal.returns-else-try_asleep-clause-does
returns-else-try_asleep-clause-does g c = not_asleep c.args.latch c.args.self.now c.try_asleep.new.self c.add-else-try_asleep.new.self c.try_asleep.ensures.same c.try_asleep.result c.add-else-try_asleep.result c.if-try_asleep.false c.add-else-try_asleep.ensures.seen c.try_asleep.ensures.step c.add-else-try_asleep.ensures.same
