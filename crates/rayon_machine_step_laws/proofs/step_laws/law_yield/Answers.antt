use Rattle.rayon_machine_step_laws.proofs.Yielding.{local_law, yield_law}
use Rattle.rayon_machine_step_laws.proofs.step_laws.law_yield.Goals as goal

pub returns-clause-search : goal.returns-clause-search
returns-clause-search c = yield_law

pub returns-clause-local : goal.returns-clause-local
returns-clause-local c = local_law
