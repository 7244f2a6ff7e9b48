-- What a broadcast that waits is made of.
use Rattle.std.specs.Prelude.{ℕ}
use Rattle.rayon_machine_places.specs.declared.place.Count.TheVariants.{OfCast}
use Rattle.rayon_machine_places.specs.declared.place.Gathering.{Gathering}
use Rattle.rayon_machine_places.specs.declared.place.Party.TheVariants.{Worker}
use Rattle.rayon_machine_places.specs.declared.place.Pieces.{Pieces}
use Rattle.rayon_performers.specs.Calls.{own_call}

-- the pieces of the broadcast of this worker, under this name, to so many workers: they have names in a row of which this is
-- the first, and shares of the broadcast's own count
abbrev pub dealt : ℕ → ℕ → ℕ → ℕ → Pieces
dealt i n a w = record { count = OfCast n (Worker 0 i); pool = 0; first = a; workers = w }

-- the call of that broadcast, and its pieces
abbrev pub gathering : ℕ → ℕ → ℕ → ℕ → Gathering
gathering i n a w = record { call = own_call n; pieces = dealt i n a w }
