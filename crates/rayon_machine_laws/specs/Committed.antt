-- committed and looking workers, and the law of sleepers
use Rattle.std.specs.Prelude.{ℕ, Bool, true, false, not, ◌&&◌, ◌||◌, Some, ◌≡◌, ◌⊎◌}
use Rattle.rayon_machine_places.specs.declared.place.Party.TheVariants.{Worker}
use Rattle.rayon_machine_places.specs.declared.place.Place.{Place}
use Rattle.rayon_machine_places.specs.declared.place.Place.TheVariants.{BlockSelf}
use Rattle.rayon_machine_runs.specs.World.{World}

-- a worker that is about to block itself
abbrev pub is_blocking : Place → Bool
is_blocking (BlockSelf k) = true
is_blocking _ = false

-- a worker is committed to sleep when it is about to block itself, and while it is blocked
abbrev pub is_committed : World → ℕ → ℕ → Bool
is_committed w p i = is_blocking (w.stack (Worker p i)).top || (w.seat p i).blocked

-- a worker looks if it is inactive and not committed
abbrev pub is_looking : World → ℕ → ℕ → Bool
is_looking w p i = (w.seat p i).inactive && not (is_committed w p i)

-- each sleeping worker is inactive
abbrev pub SleepersAreInactive : World → Type 0
SleepersAreInactive w = (p i : ℕ) → (w.seat p i).asleep ≡ true → (w.seat p i).inactive ≡ true

-- each committed worker is counted as sleeping
abbrev pub CommittedSleep : World → Type 0
CommittedSleep w = (p i : ℕ) → is_committed w p i ≡ true → (w.seat p i).asleep ≡ true

-- each committed worker holds its own sleep lock, or is blocked
abbrev pub CommittedHold : World → Type 0
CommittedHold w = (p i : ℕ) → is_committed w p i ≡ true → ((w.seat p i).lock ≡ Some (Worker p i)) ⊎ ((w.seat p i).blocked ≡ true)
