use Rattle.rayon_machine_orders.proofs.Exact.{always_counted}
use Rattle.rayon_machine_orders.proofs.call_laws.law_count.Goals as goal

pub returns : goal.returns
returns c h es w r = always_counted h es w r
