-- what each step makes of a pool's turn: an Announce makes it even, a News odd
--
-- Broken by the wrong machine `news_raises_always` of SleepTeeth.
use Rattle.std.specs.Prelude.{ℕ, Bool, true, false, ◌+◌, ◌==◌, Some, List, ◌≡◌}
use Rattle.rayon_machine_places.specs.declared.place.Party.{Party}
use Rattle.rayon_machine_places.specs.declared.act.Act.{Act}
use Rattle.rayon_machine_places.specs.declared.act.Act.TheVariants.{Announce, News}
use Rattle.rayon_machine_runs.specs.declared.event.Event.{Event}
use Rattle.rayon_machine_runs.specs.declared.event.Event.TheVariants.{Go}
use Rattle.rayon_machine_places.specs.Places.{act_of, own_pool}
use Rattle.rayon_machine_runs.specs.World.{Shape, World}
use Rattle.rayon_machine_places.specs.Sleepers.{is_even}
use Rattle.rayon_machine_runs.specs.Steps.{step}
use Rattle.rayon_machine_runs.specs.Runs.{IsRun, start}

-- a party's act is an Announce in this pool
abbrev pub announces_in : ℕ → Party → Act → Bool
announces_in p q Announce = p == own_pool q
announces_in p q a = false

-- an act is a News of this pool
abbrev pub tells_of : ℕ → Act → Bool
tells_of p (News r b) = p == r
tells_of p a = false

-- the event is an Announce in this pool
abbrev pub is_announced_in : ℕ → World → Event → Bool
is_announced_in p w (Go q) = announces_in p q (act_of q (w.stack q).top)
is_announced_in p w e = false

-- the event is a News of this pool
abbrev pub is_told_of : ℕ → World → Event → Bool
is_told_of p w (Go q) = tells_of p (act_of q (w.stack q).top)
is_told_of p w e = false

-- a turn is even now, by one raise where it was odd and by none where it was even
pub record MadeEven (before after : ℕ) : Type 0 where
  pub even : is_even after ≡ true
  pub kept : is_even before ≡ true → after ≡ before
  pub raised : is_even before ≡ false → after ≡ before + 1

-- a turn is odd now, by one raise where it was even and by none where it was odd
pub record MadeOdd (before after : ℕ) : Type 0 where
  pub odd : is_even after ≡ false
  pub kept : is_even before ≡ false → after ≡ before
  pub raised : is_even before ≡ true → after ≡ before + 1

-- a step, for this pool's turn: an Announce in the pool makes it even, a News of the pool odd, and nothing else changes it
pub record TurnsSo (w v : World) (e : Event) (p : ℕ) : Type 0 where
  pub announced : is_announced_in p w e ≡ true → MadeEven (w.pool p).turn (v.pool p).turn
  pub told : is_told_of p w e ≡ true → MadeOdd (w.pool p).turn (v.pool p).turn
  pub kept : is_announced_in p w e ≡ false → is_told_of p w e ≡ false → (v.pool p).turn ≡ (w.pool p).turn

-- each step of each run changes each pool's turn so
abbrev pub RaiseLaw : Type 0
RaiseLaw = (shape : Shape) (before : List Event) (w v : World) (e : Event) (p : ℕ) → IsRun (start shape) before w → step w e ≡ Some v → TurnsSo w v e p
