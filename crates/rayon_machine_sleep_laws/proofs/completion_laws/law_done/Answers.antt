use Rattle.rayon_machine_sleep_laws.proofs.Dones.{always_coming, always_nearly, pool_done, scope_done}
use Rattle.rayon_machine_sleep_laws.proofs.Waited.{always_close, job_done}
use Rattle.rayon_machine_sleep_laws.proofs.completion_laws.law_done.Goals as goal

pub returns-clause-job : goal.returns-clause-job
returns-clause-job c h es w r = job_done w (always_close h es w r)

pub returns-clause-scope : goal.returns-clause-scope
returns-clause-scope c h es w r = scope_done w (always_nearly h es w r)

pub returns-clause-pool : goal.returns-clause-pool
returns-clause-pool c h es w r = pool_done w (always_coming h es w r)
