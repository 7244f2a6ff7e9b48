use Rattle.rayon_performers.proofs.Letters.{sleepy, not_sleepy}
use Rattle.rayon_performers.proofs.bench.Bench.get_sleepy.Goals as goal

pub returns-then-try_sleepy-clause-does : goal.returns-then-try_sleepy-clause-does
returns-then-try_sleepy-clause-does g c = sleepy c.args.latch c.args.self.now c.try_sleepy.new.self c.add.new.self c.try_sleepy.ensures.same c.try_sleepy.result c.add.result c.if-try_sleepy.true c.add.ensures.seen c.try_sleepy.ensures.step c.add.ensures.same

pub returns-else-try_sleepy-clause-does : goal.returns-else-try_sleepy-clause-does
returns-else-try_sleepy-clause-does g c = not_sleepy c.args.latch c.args.self.now c.try_sleepy.new.self c.add-else-try_sleepy.new.self c.try_sleepy.ensures.same c.try_sleepy.result c.add-else-try_sleepy.result c.if-try_sleepy.false c.add-else-try_sleepy.ensures.seen c.try_sleepy.ensures.step c.add-else-try_sleepy.ensures.same
