use Rattle.rayon_performers.proofs.Offers.{begun}
use Rattle.rayon_performers.proofs.bench.Bench.begin_here.Goals as goal

pub returns-clause-path : goal.returns-clause-path
returns-clause-path g c = begun c.args.self.now.shape c.args.self.now.index c.args.name c.args.self.now c.begin.new.self c.begin.result c.begin.ensures.does c.begin.ensures.adds
