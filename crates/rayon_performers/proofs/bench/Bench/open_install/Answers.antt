use Rattle.rayon_performers.proofs.Offers.{install_raised}
use Rattle.rayon_performers.proofs.Recounts.{raised_unit}
use Rattle.rayon_performers.proofs.bench.Bench.open_install.Goals as goal

pub returns-clause-path : goal.returns-clause-path
returns-clause-path g c = install_raised c.args.self.now.shape c.args.self.now.index c.args.name c.args.self.now c.raise.new.self c.raise.result c.raise.ensures.does c.raise.ensures.adds

pub returns-clause-unit : goal.returns-clause-unit
returns-clause-unit g c = raised_unit c.args.name c.args.self.now c.raise.new.self c.raise.result c.raise.ensures.does
