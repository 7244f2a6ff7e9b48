-- How a worker goes along the table of places. The pool is pool 0 of the table.
use Rattle.std.specs.Prelude.{ℕ}
use Rattle.rayon_machine_places.specs.declared.place.Party.TheVariants.{Worker}
use Rattle.rayon_machine_places.specs.declared.place.Move.{Move}
use Rattle.rayon_machine_places.specs.declared.shape.PoolShape.{PoolShape}
use Rattle.rayon_drive.specs.Paths.{Driven}
use Rattle.rayon_performers.specs.Hands.{Hands, Does}

module _ {X G O F : Type 0} where
  -- the worker of this index, in a pool of this shape, made the acts of a path of the table, and no other: from the first
  -- move and what it had there to the last
  abbrev pub WorkerGoesIn : PoolShape → ℕ → Move → Hands X G O F → Hands X G O F → Move → Type 0
  WorkerGoesIn h i m s t n = Driven (λ (u : Hands X G O F) a x v. Does a x u v) (λ (u : Hands X G O F). u.trace) h (Worker 0 i) m s t n

  -- the worker that has this index and its pool's shape at hand
  abbrev pub WorkerGoes : Move → Hands X G O F → Hands X G O F → Move → Type 0
  WorkerGoes m s t n = WorkerGoesIn s.shape s.index m s t n
