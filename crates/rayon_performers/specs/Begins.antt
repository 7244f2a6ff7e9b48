-- How a task begins that was taken.
use Rattle.std.specs.Prelude.{Option, None, Some}
use Rattle.rayon_machine_places.specs.declared.place.Move.{Move}
use Rattle.rayon_machine_places.specs.declared.place.Move.TheVariants.{Stay, HandIn, Discard}
use Rattle.rayon_machine_places.specs.declared.place.Place.TheVariants.{Run}
use Rattle.rayon_machine_places.specs.declared.place.Taken.{Taken}
use Rattle.rayon_machine_places.specs.declared.place.Taken.TheVariants.{Plain, Token}
use Rattle.rayon_machine_places.specs.Places.{taken_number}
use Rattle.rayon_tasks.specs.Tasks.{HasJob, TaskOf}
use Rattle.rayon_tasks.specs.Tickets.{kind_in}

module _ {X : Type 0} where
  -- where the beginning of what was taken so leads, if this task is what begins: to its run, for which a token is spent; or
  -- nowhere, if there was none for the token
  abbrev pub begins_as : Taken → Option (TaskOf X) → Move
  begins_as k None = Discard (taken_number k)
  begins_as (Plain n) (Some x) = Stay (Run x.ticket.number (kind_in x.ticket))
  begins_as (Token n i b) (Some x) = HandIn (Run x.ticket.number (kind_in x.ticket)) n

  -- what begins brings a job
  abbrev pub BringsJob : Option (TaskOf X) → Type 0
  BringsJob None = Unit {0}
  BringsJob (Some x) = HasJob x.work
