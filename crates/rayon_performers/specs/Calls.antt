-- Calls of the worker's own pool, which is pool 0 of the table.
use Rattle.std.specs.Prelude.{◌≡◌, ℕ}
use Rattle.rayon_machine_places.specs.declared.place.OpenCall.{OpenCall}
use Rattle.rayon_machine_places.specs.declared.place.Plan.{Plan}
use Rattle.rayon_machine_places.specs.declared.place.Plan.TheVariants.{Fork}
use Rattle.rayon_tasks.specs.Tasks.{WorkOf, NoJob, OneJob, OnePiece, TwoSides}

-- a call of the own pool, which has the name of the job that it waits for
abbrev pub own_call : ℕ → OpenCall
own_call n = record { number = n; pool = 0; job = n }

-- a join whose second side has this name
abbrev pub own_join : ℕ → Plan
own_join n = Fork (own_call n) n

module _ {X : Type 0} where
  -- there is one job to run
  abbrev pub IsOneJob : WorkOf X → Type 0
  IsOneJob (OneJob j) = Unit {0}
  IsOneJob (TwoSides a b t) = ⊥
  IsOneJob OnePiece = ⊥
  IsOneJob NoJob = ⊥

  -- it is this one
  abbrev pub IsJobOf : WorkOf X → X → Type 0
  IsJobOf (OneJob j) k = k ≡ j
  IsJobOf (TwoSides a b t) k = ⊥
  IsJobOf OnePiece k = ⊥
  IsJobOf NoJob k = ⊥
