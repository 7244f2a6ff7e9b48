use Rattle.rayon_machine_laws.proofs.Bounds.{always_bound}
use Rattle.rayon_machine_laws.proofs.ClaimMakes.{always_once}
use Rattle.rayon_machine_laws.proofs.SlotEvents.{fixed_law}
use Rattle.rayon_machine_laws.proofs.Records.{ends_law}
use Rattle.rayon_machine_laws.proofs.NearEvents.{always_near}
use Rattle.rayon_machine_laws.proofs.Redeems.{always_stocks, redeems}
use Rattle.rayon_machine_laws.proofs.Stays.{stays_law}
use Rattle.rayon_machine_laws.proofs.Moves.{moves_law}
use Rattle.rayon_machine_laws.proofs.laws.law_once.Goals as goal

pub returns-clause-once : goal.returns-clause-once
returns-clause-once c h es w r = always_once h es w r

pub returns-clause-redeemed : goal.returns-clause-redeemed
returns-clause-redeemed c h es w r = redeems w (always_stocks h es w r)

pub returns-clause-bound : goal.returns-clause-bound
returns-clause-bound c h es w r = always_bound h es w r

pub returns-clause-fixed : goal.returns-clause-fixed
returns-clause-fixed c = fixed_law

pub returns-clause-ends : goal.returns-clause-ends
returns-clause-ends c = ends_law

pub returns-clause-stays : goal.returns-clause-stays
returns-clause-stays c = stays_law

pub returns-clause-moves : goal.returns-clause-moves
returns-clause-moves c = moves_law

pub returns-clause-near : goal.returns-clause-near
returns-clause-near c h es w r = always_near h es w r
