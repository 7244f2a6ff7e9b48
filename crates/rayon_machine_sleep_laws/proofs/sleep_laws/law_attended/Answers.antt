use Rattle.rayon_machine_laws.proofs.Attend.{attended_injectors}
use Rattle.rayon_machine_laws.proofs.Attended.{always_awake}
use Rattle.rayon_machine_laws.proofs.Emptied.{always_lists, empty_handed}
use Rattle.rayon_machine_laws.proofs.Events.{always_seats}
use Rattle.rayon_machine_sleep_laws.proofs.Announcing.{announced_law}
use Rattle.rayon_machine_sleep_laws.proofs.Called.{always_hears, cast_attended}
use Rattle.rayon_machine_sleep_laws.proofs.Leavers.{leaver_law, teller_law}
use Rattle.rayon_machine_sleep_laws.proofs.Searching.{search_law}
use Rattle.rayon_machine_sleep_laws.proofs.Settled.{always_watched, latch_attended}
use Rattle.rayon_machine_sleep_laws.proofs.Strides.{walk_law}
use Rattle.rayon_machine_sleep_laws.proofs.sleep_laws.law_attended.Goals as goal

pub returns-clause-injector : goal.returns-clause-injector
returns-clause-injector c h es w r = attended_injectors w ((always_awake h es w r).attended)

pub returns-clause-latch : goal.returns-clause-latch
returns-clause-latch c h es w r = latch_attended w (always_watched h es w r)

pub returns-clause-cast : goal.returns-clause-cast
returns-clause-cast c h es w r = cast_attended w ((always_hears h es w r).casts)

pub returns-clause-own : goal.returns-clause-own
returns-clause-own c h es w r = empty_handed w (always_seats h es w r) (always_lists h es w r)

pub returns-clause-search : goal.returns-clause-search
returns-clause-search c = search_law

pub returns-clause-leavers : goal.returns-clause-leavers
returns-clause-leavers c = leaver_law

pub returns-clause-tellers : goal.returns-clause-tellers
returns-clause-tellers c = teller_law

pub returns-clause-walks : goal.returns-clause-walks
returns-clause-walks c = walk_law

pub returns-clause-announced : goal.returns-clause-announced
returns-clause-announced c = announced_law
