use Rattle.std.specs.Prelude.{◌≡◌, ℕ, ◌+◌, ◌-◌, ◌*◌, ◌^◌, ◌<◌, ◌⊎◌, List, [], ◌∷◌, All, slice_get, min, nat_le, if◌then◌else◌, Option, Some, None, IfSome}
use Rattle.pool_script.specs.declared.script.Number.{Number}
use Rattle.pool_script.specs.declared.script.Call.{Call}
use Rattle.pool_script.specs.declared.script.Act.{Act}
use Rattle.pool_script.specs.declared.script.Act.TheVariants as act
use Rattle.pool_script.specs.declared.script.Deed.{Deed}
use Rattle.pool_script.specs.declared.script.JobPlan.{JobPlan}
use Rattle.pool_script.specs.declared.script.Script.{Script}

-- what a number is in the run with the number `own`, in this turn: a sum, at most 2 ^ 64 - 1, less what is taken off;
-- nothing where that would be below 0
abbrev pub number_at : Number → ℕ → ℕ → Option ℕ
number_at number own turn =
    let sum = min (number.own * own + number.turn * turn + number.plus) (2 ^ 64 - 1) in
    if nat_le number.minus sum then Some (sum - number.minus) else None

-- a number that is less than the run's own, whatever that and the turn are
abbrev pub IsLess : Number → Type 0
IsLess number = (own turn : ℕ) → IfSome (number_at number own turn) (λ n. n < own)

-- a call that a line of the job with this number may make: of a job further down, or of the same with a smaller number
abbrev pub GoesDown : ℕ → Call → Type 0
GoesDown job call = (job < call.job) ⊎ ((call.job ≡ job) × IsLess call.number)

-- the jobs that a line names
abbrev pub calls_of : Act → List Call
calls_of (act.Plain plain) = []
calls_of (act.One verb call) = call ∷ []
calls_of (act.Join first second) = first ∷ second ∷ []
calls_of (act.JoinWith plain second) = second ∷ []
calls_of (act.JoinInstall first second) = first ∷ second ∷ []
calls_of (act.Serve gate times) = []
calls_of (act.Scope shape body) = body ∷ []
calls_of (act.Into entry call) = call ∷ []

-- a line of the job with this number all of whose calls go down
abbrev pub GoDown : ℕ → Deed → Type 0
GoDown job deed = All (GoesDown job) (calls_of deed.act)

-- what is true of each place of a list and of the element there
abbrev pub AtEach : {X : Type 0} → (ℕ → X → Type 0) → List X → Type 0
AtEach P xs = (at : ℕ) → IfSome (slice_get xs at) (P at)

-- the job with this number, if all the calls of all its lines go down
abbrev pub GoesDownAt : ℕ → JobPlan → Type 0
GoesDownAt at job = All (GoDown at) job.deeds.items

-- a script that ends: each call of each line of each job goes down
abbrev pub Ends : Script → Type 0
Ends script = AtEach GoesDownAt script.jobs.items
