-- What a task brings.
use Rattle.std.specs.Prelude.{Bool, true, false, Option, Some, None}
use Rattle.rayon_tasks.specs.declared.task.Load.{Load}
use Rattle.rayon_tasks.specs.declared.task.Load.TheVariants.{Inside, Injected, Piece, Token}
use Rattle.rayon_tasks.specs.Tasks.{TaskOf, WorkOf, NoJob, OneJob, OnePiece, sides_with}

-- whether its call was made outside the pool
abbrev pub is_injected : {J : Type 0} → Load J → Bool
is_injected (Inside j) = false
is_injected (Injected j) = true
is_injected (Piece p) = false
is_injected Token = false

-- it brings a job that is its own
abbrev pub BringsJob : {J : Type 0} → Load J → Type 0
BringsJob (Inside j) = Unit {0}
BringsJob (Injected j) = Unit {0}
BringsJob (Piece p) = ⊥
BringsJob Token = ⊥

-- what there is to run of this job, and of the first side's task if it is one of two sides
abbrev pub job_with : {J : Type 0} → J → Option (TaskOf J) → WorkOf J
job_with j None = OneJob j
job_with j (Some t) = sides_with j t

-- what there is to run of what the task brings, and of the first side's task if it is one of two sides
abbrev pub work_with : {J : Type 0} → Load J → Option (TaskOf J) → WorkOf J
work_with (Inside j) t = job_with j t
work_with (Injected j) t = job_with j t
work_with (Piece p) t = OnePiece
work_with Token t = NoJob
