use Rattle.rayon_performers.proofs.Letters.{probes}
use Rattle.rayon_performers.proofs.bench.Bench.probe.Goals as goal

pub returns-clause-does : goal.returns-clause-does
returns-clause-does g c = probes c.args.latch c.args.self.now c.look_at-is_set.new.self c.saw.new.self c.look_at-is_set.ensures.same c.look_at-is_set.result c.look_at-is_set.ensures.step c.saw.ensures.same
