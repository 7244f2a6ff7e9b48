-- Count latches, and what the setting of the latch inside leaves.
use Rattle.std.specs.Prelude.{Option, Some, None}
use Rattle.rayon_atomics.specs.Tallies.{CountedFrom}
use Rattle.rayon_sleep.specs.Tickles.{Waiter, Tickles}
use Rattle.rayon_latches.specs.declared.count_latch.Settled.{Settled}
use Rattle.rayon_latches.specs.declared.count_latch.Settled.TheVariants.{Core, Lock}

-- a count latch as contracts see it: its count, and the worker who waits, or None of one that an outside caller waits on
pub record Awaited : Type 0 where
  pub count : CountedFrom
  pub owner : Option Waiter

-- the latch inside is set: the worker's, or the outside caller's
abbrev pub Settles : Option Waiter → Settled → Type 0
Settles None (Core t) = ⊥
Settles None Lock = Unit {0}
Settles (Some w) (Core t) = Tickles w t
Settles (Some w) Lock = ⊥
