-- How an outside caller goes along the table of places. The pool is pool 0 of the table.
use Rattle.std.specs.Prelude.{◌≡◌, ◌⊎◌, Option, Some}
use Rattle.rayon_machine_places.specs.declared.place.Entry.{Entry}
use Rattle.rayon_machine_places.specs.declared.place.Move.{Move}
use Rattle.rayon_machine_places.specs.declared.place.Move.TheVariants.{Back, HandBack, Stay}
use Rattle.rayon_machine_places.specs.declared.place.Party.TheVariants.{Caller}
use Rattle.rayon_machine_places.specs.declared.place.Place.TheVariants.{RaiseCount}
use Rattle.rayon_machine_places.specs.declared.place.Plan.TheVariants.{Enter}
use Rattle.rayon_machine_places.specs.declared.shape.PoolShape.{PoolShape}
use Rattle.rayon_drive.specs.Paths.{Driven}
use Rattle.rayon_jobs.specs.Within.{Run}
use Rattle.rayon_tasks.specs.Tickets.{TicketOf}
use Rattle.rayon_guests.specs.declared.load.Load.{Load}
use Rattle.rayon_guests.specs.Visits.{Visit, Does}

module _ {X G O F H : Type 0} where
  -- an outside caller made the acts of a path of the table, and no other
  abbrev pub CallerGoes : Move → Visit X G O F H → Visit X G O F H → Move → Type 0
  CallerGoes m s t n = Driven (λ (u : Visit X G O F H) a x v. Does a x u v) (λ (u : Visit X G O F H). u.trace) s.shape (Caller 0) m s t n

  -- the same, in a pool of this shape
  abbrev pub CallerGoesIn : PoolShape → Move → Visit X G O F H → Visit X G O F H → Move → Type 0
  CallerGoesIn h m s t n = Driven (λ (u : Visit X G O F H) a x v. Does a x u v) (λ (u : Visit X G O F H). u.trace) h (Caller 0) m s t n

  -- an outside caller spawned the job of this entry into the scope whose ticket it has in hand, from the spawn's Raise to its end
  abbrev pub EntersHere : Entry → Visit X G O F H → Visit X G O F H → Type 0
  EntersHere e s t = (l : Load X G O F H) × (r d : Option (Run G O F)) × CallerGoes (Stay (RaiseCount (Enter e))) (record s { load = Some l }) (record t { first_done = r; done = d }) Back

  -- such a spawn was refused: from there to where it hands its job back
  abbrev pub EntersNoneHere : Entry → Visit X G O F H → Visit X G O F H → Type 0
  EntersNoneHere e s t = (l : Load X G O F H) × CallerGoes (Stay (RaiseCount (Enter e))) (record s { load = Some l }) (record t { load = Some l }) (HandBack (Enter e))

  -- the same, where this ticket of the scope stands for that of the call
  abbrev pub calling : Option TicketOf → Visit X G O F H → Visit X G O F H
  calling k s = record s { call = k }

  abbrev pub Enters : Option TicketOf → Entry → Visit X G O F H → Visit X G O F H → Type 0
  Enters k e s t = EntersHere e (calling k s) (calling k t)

  -- or it was refused before its Raise, when nothing was done
  abbrev pub EntersNone : Option TicketOf → Entry → Visit X G O F H → Visit X G O F H → Type 0
  EntersNone k e s t = (t ≡ s) ⊎ EntersNoneHere e (calling k s) (calling k t)
