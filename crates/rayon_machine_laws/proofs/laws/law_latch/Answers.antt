use Rattle.rayon_machine_laws.proofs.Scoping.{always_scopes}
use Rattle.rayon_machine_laws.proofs.Enters.{always_enters}
use Rattle.rayon_machine_laws.proofs.Endings.{latched}
use Rattle.rayon_machine_laws.proofs.Gathers.{always_gathers, gathered}
use Rattle.rayon_machine_laws.proofs.SetterEvents.{always_sets}
use Rattle.rayon_machine_laws.proofs.SetLaws.{set_once, sets_law}
use Rattle.rayon_machine_laws.proofs.laws.law_latch.Goals as goal

pub returns-clause-latched : goal.returns-clause-latched
returns-clause-latched c h es w r = latched w (always_scopes h es w r) (always_enters h es w r)

pub returns-clause-gathered : goal.returns-clause-gathered
returns-clause-gathered c h es w r = gathered w (always_gathers h es w r)

pub returns-clause-once : goal.returns-clause-once
returns-clause-once c h es w r = set_once w (always_sets h es w r)

pub returns-clause-sets : goal.returns-clause-sets
returns-clause-sets c = sets_law
