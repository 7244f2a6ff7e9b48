use Rattle.std.proofs.Common.{ap}
use Rattle.rayon_machine_laws.proofs.ClaimMakes.{always_calls}
use Rattle.rayon_machine_laws.proofs.Endings.{ends_so, refused_so}
use Rattle.rayon_machine_orders.proofs.FilledStates.{FilledHold}
use Rattle.rayon_machine_orders.proofs.Filled.{always_filled, takes_filled, none_missing}
use Rattle.rayon_machine_orders.proofs.Takes.{seen_set}
use Rattle.rayon_machine_laws.proofs.Returns.{always_returns, returned_so}
use Rattle.rayon_machine_orders.proofs.Early.{always_early, no_early_end}
use Rattle.rayon_machine_orders.proofs.BookEvents.{always_books, is_booked}
use Rattle.rayon_machine_orders.proofs.FaultSteps.{always_faults, takes_so, is_kept, fault_law}
use Rattle.rayon_machine_orders.proofs.Calls.{call_law}
use Rattle.rayon_machine_orders.proofs.Casts.{cast_law}
use Rattle.rayon_machine_orders.proofs.Looking.{number_law}
use Rattle.rayon_machine_orders.proofs.Making.{make_law}
use Rattle.rayon_machine_orders.proofs.Values.{value_law}
use Rattle.rayon_machine_orders.proofs.call_laws.law_end.Goals as goal

pub returns-clause-ends : goal.returns-clause-ends
returns-clause-ends c h es w r = let f : FilledHold w = always_filled h es w r in ends_so w (always_calls h es w r) (takes_so w (always_faults h es w r)) (takes_filled w f) (none_missing w f)

pub returns-clause-latched : goal.returns-clause-latched
returns-clause-latched c h es w r q o f e = (always_filled h es w r).seen q o.number (ap seen_set e)

pub returns-clause-refused : goal.returns-clause-refused
returns-clause-refused c h es w r = refused_so w ((always_calls h es w r).jobs)

pub returns-clause-returned : goal.returns-clause-returned
returns-clause-returned c h es w r = returned_so w (always_returns h es w r)

pub returns-clause-early : goal.returns-clause-early
returns-clause-early c h es w r = no_early_end w (always_early h es w r)

pub returns-clause-value : goal.returns-clause-value
returns-clause-value c = value_law

pub returns-clause-calls : goal.returns-clause-calls
returns-clause-calls c = call_law

pub returns-clause-casts : goal.returns-clause-casts
returns-clause-casts c = cast_law

pub returns-clause-makes : goal.returns-clause-makes
returns-clause-makes c = make_law

pub returns-clause-books : goal.returns-clause-books
returns-clause-books c h es w r = is_booked w (always_books h es w r)

pub returns-clause-numbers : goal.returns-clause-numbers
returns-clause-numbers c = number_law

pub returns-clause-faults : goal.returns-clause-faults
returns-clause-faults c h es w r = is_kept w (always_faults h es w r)

pub returns-clause-first : goal.returns-clause-first
returns-clause-first c = fault_law
