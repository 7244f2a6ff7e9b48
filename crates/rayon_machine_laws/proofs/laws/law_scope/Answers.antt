use Rattle.rayon_machine_laws.proofs.Scoping.{always_scopes}
use Rattle.rayon_machine_laws.proofs.Enters.{always_enters}
use Rattle.rayon_machine_laws.proofs.Spawned.{scopes_so}
use Rattle.rayon_machine_laws.proofs.laws.law_scope.Goals as goal

pub returns : goal.returns
returns c h es w r = scopes_so w (always_scopes h es w r) (always_enters h es w r)
