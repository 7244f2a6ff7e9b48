-- What a task brings that is no one job.
use Rattle.std.specs.Prelude.{ℕ, ◌<◌}
use Rattle.rayon_registry.specs.declared.parts.Brings.{Brings}
use Rattle.rayon_registry.specs.declared.parts.Brings.TheVariants.{Sides, Piece, Nothing}

-- the two sides of a join, a piece of a broadcast, or nothing once it was taken out
pub data PartsOf (J : Type 0) : Type 0 where
  TwoSides : J → J → PartsOf J
  OnePiece : PartsOf J
  Spent : PartsOf J

-- what there is to run, as contracts see it
abbrev pub brought : {J S : Type 0} → Brings J S → PartsOf J
brought (Sides a b) = TwoSides a b
brought (Piece s k) = OnePiece
brought Nothing = Spent

-- the levels that a worker value has to have that is lent for this: two for two sides, whose join lends it on, and one for a
-- piece
abbrev pub NeedsLevels : {J : Type 0} → PartsOf J → ℕ → Type 0
NeedsLevels (TwoSides a b) n = 1 < n
NeedsLevels OnePiece n = 0 < n
NeedsLevels Spent n = ⊥

-- the same once it was lent
abbrev pub NeedsBelow : {J : Type 0} → PartsOf J → ℕ → Type 0
NeedsBelow (TwoSides a b) n = 0 < n
NeedsBelow OnePiece n = Unit {0}
NeedsBelow Spent n = ⊥
