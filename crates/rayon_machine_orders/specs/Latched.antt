-- who is about to take its call's result has found the call's latch set
--
-- Store and Set are two acts of the job's worker. A call that took between them would leave, and then the latch of a call
-- that is over would be set.
-- Broken by the wrong machine `call_takes_before_its_latch` (LatchTeeth).
use Rattle.std.specs.Prelude.{Option, ◌≡◌}
use Rattle.rayon_machine_places.specs.declared.place.Party.{Party}
use Rattle.rayon_machine_places.specs.declared.place.Ending.{Ending}
use Rattle.rayon_machine_places.specs.declared.place.OpenCall.{OpenCall}
use Rattle.rayon_machine_places.specs.declared.place.Place.TheVariants.{TakeResult}
use Rattle.rayon_machine_runs.specs.declared.state.Letter.TheVariants.{Set as IsSet}
use Rattle.rayon_machine_runs.specs.World.{World}

-- where a party's next act takes what its call's cell holds, the call's latch is set
abbrev pub TakesOnSet : World → Type 0
TakesOnSet w = (q : Party) (o : OpenCall) (first : Option Ending) → (w.stack q).top ≡ TakeResult o first → (w.call o.number).latch ≡ IsSet
