-- What the setting of a worker's latch leaves.
use Rattle.std.specs.Prelude.{◌≡◌, ℕ, true, ◌==◌, MatchBool}
use Rattle.atomic_table.specs.Seated.{TableId}
use Rattle.rayon_atomics.specs.Latches.{guard}
use Rattle.rayon_drive.specs.declared.trace.Log.{Log}
use Rattle.rayon_drive.specs.declared.trace.Log.TheVariants.{Empty}
use Rattle.rayon_machine_places.specs.declared.place.Move.TheVariants.{Stay}
use Rattle.rayon_machine_places.specs.declared.place.Party.{Party}
use Rattle.rayon_machine_places.specs.declared.place.Place.TheVariants.{LockToSettle}
use Rattle.rayon_machine_places.specs.declared.place.Settling.{Settling}
use Rattle.rayon_machine_places.specs.declared.shape.PoolShape.{PoolShape}
use Rattle.rayon_machine_places.specs.Places.{after_set}
use Rattle.rayon_drive.specs.Paths.{Traced}
use Rattle.rayon_sleep.specs.declared.tickle.Tickle.{Tickle}

-- who waits on a core latch: the worker's index, and the name of the latch
pub record Waiter : Type 0 where
  pub worker : ℕ
  pub latch : TableId

-- a worker was woken that slept on a latch: the acts are a path of the table, from where that latch was set on
abbrev pub Wakes : ℕ → Log → Type 0
Wakes worker log =
    (h : PoolShape) (q : Party) (s : Settling) → s.pool ≡ 0 → s.worker ≡ worker → Traced h q (Stay (LockToSettle s)) Empty log (after_set h q s s.latch)

-- this latch was set, once, and its worker was woken exactly where it slept on it
pub record Tickles (w : Waiter) (t : Tickle) : Type 0 where
  pub table : t.seat.table_id ≡ w.latch
  pub sets : (guard t.seat).sets ≡ 1
  pub seen : (guard t.seat).seen ≡ true
  pub wakes : MatchBool ((guard t.seat).found == 2) (Wakes w.worker t.trace) (t.trace ≡ Empty)
