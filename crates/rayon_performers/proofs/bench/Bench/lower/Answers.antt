use Rattle.rayon_performers.proofs.Recounts.{lowers}
use Rattle.rayon_performers.proofs.bench.Bench.lower.Goals as goal

pub returns-clause-does : goal.returns-clause-does
returns-clause-does g c = lowers c.args.self.now c.give-was_last.new.self c.add.new.self c.add.ensures.same c.args.pool c.args.share c.give-was_last.result c.give-was_last.ensures.same c.give-was_last.ensures.step
