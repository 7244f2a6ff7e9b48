use Rattle.std.specs.Prelude.{Option, Some, None}
use Rattle.rayon_sleep.specs.Tickles.{Waiter}
use Rattle.rayon_latches.specs.declared.count_latch.CountLatchKind.{CountLatchKind}
use Rattle.rayon_latches.specs.declared.count_latch.CountLatchKind.TheVariants.{Stealing, Blocking}

-- who waits on the latch inside a count latch with a core latch
abbrev pub waiter_of : CountLatchKind → Option Waiter
waiter_of (Stealing s) = Some (record { worker = s.owner; latch = s.latch.value })
waiter_of (Blocking l) = None
