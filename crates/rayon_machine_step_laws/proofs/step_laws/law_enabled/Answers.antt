use Rattle.rayon_machine_laws.proofs.FeederEvents.{always_feeders}
use Rattle.rayon_machine_laws.proofs.Held.{always_holds}
use Rattle.rayon_machine_step_laws.proofs.Alone.{others_law}
use Rattle.rayon_machine_step_laws.proofs.Allows.{allows_acts, allows_holders, allows_refusals}
use Rattle.rayon_machine_step_laws.proofs.LowestEvents.{always_lowest, blocks_callers, is_founded}
use Rattle.rayon_machine_step_laws.proofs.StandEvents.{always_stands}
use Rattle.rayon_machine_step_laws.proofs.Steps.{allows_calls, allows_choices, allows_ends, allows_go}
use Rattle.rayon_machine_step_laws.proofs.step_laws.law_enabled.Goals as goal

pub returns-clause-acts : goal.returns-clause-acts
returns-clause-acts c h es w r = allows_acts w (always_stands h es w r)

pub returns-clause-lowest : goal.returns-clause-lowest
returns-clause-lowest c h es w r = is_founded w (always_lowest h es w r)

pub returns-clause-blocks : goal.returns-clause-blocks
returns-clause-blocks c h es w r = blocks_callers w (always_lowest h es w r)

pub returns-clause-goes : goal.returns-clause-goes
returns-clause-goes c h es w r = allows_go w (always_holds h es w r) (always_feeders h es w r)

pub returns-clause-holders : goal.returns-clause-holders
returns-clause-holders c h es w r = allows_holders w (always_stands h es w r) (always_holds h es w r) (always_feeders h es w r)

pub returns-clause-refusals : goal.returns-clause-refusals
returns-clause-refusals c h es w r = allows_refusals w (always_stands h es w r)

pub returns-clause-ends : goal.returns-clause-ends
returns-clause-ends c h es w r = allows_ends w

pub returns-clause-choices : goal.returns-clause-choices
returns-clause-choices c h es w r = allows_choices w

pub returns-clause-calls : goal.returns-clause-calls
returns-clause-calls c h es w r = allows_calls w

pub returns-clause-others : goal.returns-clause-others
returns-clause-others c = others_law
