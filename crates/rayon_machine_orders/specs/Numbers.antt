-- which numbers of a book are opened, and for which jobs
--
-- Broken by the wrong machine `pieces_are_numbered_back` of LookTeeth.
use Rattle.std.specs.Prelude.{ℕ, ◌+◌, ◌<◌, Some, List, ◌≡◌, ⊤}
use Rattle.rayon_machine_places.specs.declared.place.Party.{Party}
use Rattle.rayon_machine_places.specs.declared.place.Count.{Count}
use Rattle.rayon_machine_places.specs.declared.place.Count.TheVariants.{OfPool, OfScope, OfCast}
use Rattle.rayon_machine_places.specs.declared.place.Pieces.{Pieces}
use Rattle.rayon_machine_places.specs.declared.act.Act.{Act}
use Rattle.rayon_machine_places.specs.declared.act.Act.TheVariants.{Slot, SlotAll, PushCast}
use Rattle.rayon_machine_runs.specs.declared.event.Event.{Event}
use Rattle.rayon_machine_runs.specs.declared.event.Event.TheVariants.{Go}
use Rattle.rayon_machine_runs.specs.declared.state.Slot.TheVariants.{Open as IsOpen}
use Rattle.rayon_machine_places.specs.Places.{act_of, count_call}
use Rattle.rayon_machine_runs.specs.World.{Shape, World}
use Rattle.rayon_machine_runs.specs.Steps.{step}
use Rattle.rayon_machine_runs.specs.Runs.{IsRun, start}

-- the pieces of a broadcast have numbers from this one on, in the order of their workers
abbrev pub NumberedFrom : World → Pieces → ℕ → Type 0
NumberedFrom v c n = (i : ℕ) → i < c.workers → (v.job (c.first + i)).slot ≡ IsOpen (n + i)

-- pieces that are queued have their numbers from 0 on, if they are those of a broadcast that waits
abbrev pub DealtFrom : World → Pieces → Count → Type 0
DealtFrom v c (OfCast k o) = NumberedFrom v c 0
DealtFrom v c (OfPool p) = ⊤
DealtFrom v c (OfScope k o) = ⊤

-- an act that leads from w to v: a Slot opens the next number of the book for its job, a SlotAll the next ones for the
-- pieces of its broadcast, and the book's next number is as many more
abbrev pub OpensSo : World → Act → World → Type 0
OpensSo w (Slot c t) v = ((v.job t).slot ≡ IsOpen (w.call c).slots) × ((v.call c).slots ≡ (w.call c).slots + 1)
OpensSo w (SlotAll c) v = NumberedFrom v c (w.call (count_call c.count)).slots × ((v.call (count_call c.count)).slots ≡ (w.call (count_call c.count)).slots + c.workers)
OpensSo w (PushCast c) v = DealtFrom v c c.count
OpensSo w _ v = ⊤

-- so it is of each act of each run
abbrev pub NumberLaw : Type 0
NumberLaw = (shape : Shape) (before : List Event) (q : Party) (w v : World) → IsRun (start shape) before w → step w (Go q) ≡ Some v → OpensSo w (act_of q (w.stack q).top) v
