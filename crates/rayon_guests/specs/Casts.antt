-- How an outside caller broadcasts and waits for nothing, or into a scope: all pieces are queued at once, and each worker is
-- called.
use Rattle.std.specs.Prelude.{◌≡◌, ◌⊎◌, ℕ, Option}
use Rattle.rayon_machine_places.specs.declared.act.Act.{Act}
use Rattle.rayon_machine_places.specs.declared.act.Seen.{Seen}
use Rattle.rayon_machine_places.specs.declared.place.Entry.{Entry}
use Rattle.rayon_machine_places.specs.declared.place.Mark.TheVariants.{Counted, Numbered, Queued, Returned, Unnumbered}
use Rattle.rayon_machine_places.specs.declared.place.Move.{Move}
use Rattle.rayon_machine_places.specs.declared.place.Move.TheVariants.{Back, HandAllBack, Mark, Stay}
use Rattle.rayon_machine_places.specs.declared.place.Pieces.{Pieces}
use Rattle.rayon_machine_places.specs.declared.place.Place.TheVariants as at
use Rattle.rayon_machine_places.specs.Places.{call_all, ends_count}
use Rattle.rayon_drive.specs.Traces.{Adds}
use Rattle.rayon_shared.specs.Casts.{cast_into}
use Rattle.rayon_tasks.specs.Tickets.{TicketOf}
use Rattle.rayon_guests.specs.Paths.{CallerGoes, CallerGoesIn, calling}
use Rattle.rayon_guests.specs.Visits.{Visit, Does, hand}

module _ {X G O F H : Type 0} where
  -- an act was made, and has the one entry that the trace has more
  abbrev pub Made : Act → Seen → Visit X G O F H → Visit X G O F H → Type 0
  Made a x s t = Does a x s t × Adds a x s.trace t.trace

  -- neither what is in hand nor the pool's shape nor its terminate count is another
  abbrev pub Same : Visit X G O F H → Visit X G O F H → Type 0
  Same s t = (hand t ≡ hand s) × (t.shape ≡ s.shape) × (t.count ≡ s.count)

  -- all pieces have units and stand in their workers' lists; and then each worker was called
  abbrev pub Casts : Pieces → Visit X G O F H → Visit X G O F H → Type 0
  Casts c s t = (u : Visit X G O F H) × CallerGoes (Stay (at.RaiseForAll c)) s u (Mark (call_all s.shape c) c Queued) × CallerGoes (Mark (call_all s.shape c) c Queued) u t Back

  -- from this move on the units were given back, and were not the last; or they were, and then each worker's terminate latch was
  -- set
  abbrev pub HandsBack : Move → Pieces → Visit X G O F H → Visit X G O F H → Type 0
  HandsBack m c s t = CallerGoes m s t (HandAllBack c) ⊎ ((u : Visit X G O F H) × CallerGoes m s u (Mark (ends_count c.count) c Returned) × CallerGoes (Mark (ends_count c.count) c Returned) u t Back)

  -- a broadcast was refused before its first act, when nothing was done; or at its units, or at its push
  abbrev pub CastsNone : Pieces → Visit X G O F H → Visit X G O F H → Type 0
  CastsNone c s t = (t ≡ s) ⊎ HandsBack (Stay (at.RaiseForAll c)) c s t

  -- it went from the first move to where these pieces have numbers of a scope's book, of which this is the first, and from there
  -- to the last
  abbrev pub GoesNumbered : Pieces → ℕ → Move → Visit X G O F H → Visit X G O F H → Move → Type 0
  GoesNumbered c n m s t l = (u : Visit X G O F H) × CallerGoes m s u (Mark (at.PushForAll c) c (Numbered n)) × CallerGoesIn s.shape (Mark (at.PushForAll c) c (Numbered n)) u t l

  -- pieces that have shares of a scope's count got no numbers of its book, or were not queued, and the numbers are taken back
  abbrev pub StayUnnumbered : Pieces → Visit X G O F H → Visit X G O F H → Type 0
  StayUnnumbered c s t = CallerGoes (Mark (at.OpenForAll c) c Counted) s t (Stay (at.LowerForAll c)) ⊎ CallerGoes (Mark (at.OpenForAll c) c Counted) s t (Mark (at.LowerForAll c) c Unnumbered)

  -- it broadcast these pieces into the scope whose ticket it has in hand, from the Raise for all of them to the end of its calls
  -- to all workers
  abbrev pub CastsInto : Pieces → ℕ → Visit X G O F H → Visit X G O F H → Type 0
  CastsInto c n s t = GoesNumbered c n (Stay (at.RaiseForAll c)) s t Back

  -- it broadcast into the scope that this ticket is of, to so many workers, and the pieces have numbers of its book, of which
  -- this is the first
  abbrev pub EntersForAll : Option TicketOf → Entry → ℕ → ℕ → Visit X G O F H → Visit X G O F H → Type 0
  EntersForAll k e w n s t = CastsInto (cast_into e w) n (calling k s) (calling k t)

  -- such a broadcast was refused: before its Raise, when nothing was done, or from there to where its pieces are handed back
  abbrev pub EntersForNone : Option TicketOf → Entry → ℕ → Visit X G O F H → Visit X G O F H → Type 0
  EntersForNone k e w s t = (t ≡ s) ⊎ HandsBack (Stay (at.RaiseForAll (cast_into e w))) (cast_into e w) (calling k s) (calling k t)
