use Rattle.std.specs.Prelude.{◌≡◌, ℕ, zero, suc, ◌%◌, ◌^◌, Option, Some, None, IfSome, option_and_then, slice_get}
use Rattle.pool_script.specs.Sums.{sum_of}
use Rattle.pool_script.specs.declared.script.Script.{Script}

-- what a run of this job with this number answers that comes to its end, if the script says it
abbrev pub said : Script → ℕ → ℕ → Option ℕ
said script job number = option_and_then (λ plan. sum_of plan.deeds.items number) (slice_get script.jobs.items job)

-- an answer is the one that is said, if one is
abbrev pub says : Option ℕ → ℕ → Type 0
says sum answer = IfSome sum (λ s. answer ≡ s)

-- the number before this one, if there is one
abbrev pub before : ℕ → Option ℕ
before zero = None
before (suc n) = Some n

-- what a tag says that a run answers, if it says it: the number before the tag's remainder by 2 ^ 65
abbrev pub sum_in : ℕ → Option ℕ
sum_in tag = before (tag % 2 ^ 65)
