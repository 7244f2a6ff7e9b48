-- How an outside caller broadcasts and waits for all pieces.
use Rattle.std.specs.Prelude.{ℕ}
use Rattle.rayon_machine_places.specs.declared.place.Count.TheVariants.{OfCast}
use Rattle.rayon_machine_places.specs.declared.place.Gathering.{Gathering}
use Rattle.rayon_machine_places.specs.declared.place.Party.TheVariants.{Caller}
use Rattle.rayon_machine_places.specs.declared.place.Plan.{Plan}
use Rattle.rayon_machine_places.specs.declared.place.Plan.TheVariants.{Gather}
use Rattle.rayon_guests.specs.Visits.{call_of}

-- the broadcast of the call of this name to the one pool that there is, of so many workers. Its pieces have names in a row, of
-- which this is the first, and shares of the call's own count
abbrev pub gathering_of : ℕ → ℕ → ℕ → Gathering
gathering_of n first w = record { call = call_of n; pieces = record { count = OfCast n (Caller 0); pool = 0; first = first; workers = w } }

-- the plan of such a call
abbrev pub gather_plan : ℕ → ℕ → ℕ → Plan
gather_plan n first w = Gather (gathering_of n first w)
