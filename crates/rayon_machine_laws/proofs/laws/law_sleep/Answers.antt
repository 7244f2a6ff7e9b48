use Rattle.rayon_machine_laws.proofs.Events.{always_seats}
use Rattle.rayon_machine_laws.proofs.Sleepers.{sleeper, committed_sleeps, committed_holds, seated}
use Rattle.rayon_machine_laws.proofs.Seats.{mode}
use Rattle.rayon_machine_laws.proofs.Stops.{always_stops, stops_on_set}
use Rattle.rayon_machine_laws.proofs.Lettered.{always_letters, always_owned, lettered}
use Rattle.rayon_machine_laws.proofs.FeederEvents.{always_feeders}
use Rattle.rayon_machine_laws.proofs.Held.{always_holds, holder_law, holding}
use Rattle.rayon_machine_places.specs.declared.place.Party.TheVariants.{Worker}
use Rattle.rayon_machine_laws.proofs.laws.law_sleep.Goals as goal

pub returns-clause-inactive : goal.returns-clause-inactive
returns-clause-inactive c h es w r p i = sleeper p i (mode ((w.stack (Worker p i)).top)) (w.seat p i) ((always_seats h es w r p i).top)

pub returns-clause-asleep : goal.returns-clause-asleep
returns-clause-asleep c h es w r p i = committed_sleeps w p i (always_seats h es w r)

pub returns-clause-held : goal.returns-clause-held
returns-clause-held c h es w r p i = committed_holds w p i (always_seats h es w r)

pub returns-clause-seated : goal.returns-clause-seated
returns-clause-seated c h es w r = seated w (always_seats h es w r)

pub returns-clause-stops : goal.returns-clause-stops
returns-clause-stops c h es w r = stops_on_set w (always_stops h es w r)

pub returns-clause-letters : goal.returns-clause-letters
returns-clause-letters c h es w r = lettered w (always_owned h es w r) (always_letters h es w r)

pub returns-clause-holders : goal.returns-clause-holders
returns-clause-holders c h es w r = holding w (always_holds h es w r) (always_feeders h es w r)

pub returns-clause-guards : goal.returns-clause-guards
returns-clause-guards c = holder_law
