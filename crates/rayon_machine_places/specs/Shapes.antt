-- the shapes that a pool can have
use Rattle.std.specs.Prelude.{Bool, true, false, ◌≤◌}
use Rattle.rayon_machine_places.specs.declared.shape.Order.{Order}
use Rattle.rayon_machine_places.specs.declared.shape.Order.TheVariants.{NewestFirst, OldestFirst}
use Rattle.rayon_machine_places.specs.declared.shape.PoolShape.{PoolShape}

-- a pool has 1 to 64 workers, and its limit of rounds is at most 32
abbrev pub IsPoolShape : PoolShape → Type 0
IsPoolShape s = (1 ≤ s.workers) × ((s.workers ≤ 64) × (s.limit ≤ 32))

abbrev pub is_newest_first : Order → Bool
is_newest_first NewestFirst = true
is_newest_first OldestFirst = false
