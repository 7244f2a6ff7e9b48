use Rattle.rayon_machine_sleep_laws.proofs.Parities.{raise_law}
use Rattle.rayon_machine_sleep_laws.proofs.Turns.{turn_law}
use Rattle.rayon_machine_sleep_laws.proofs.sleep_laws.law_turn.Goals as goal

pub returns-clause-turn : goal.returns-clause-turn
returns-clause-turn c = turn_law

pub returns-clause-raises : goal.returns-clause-raises
returns-clause-raises c = raise_law
