use Rattle.std.proofs.Common.{ℕ, ◌≡◌, ◌+◌, ◌-◌, vec_len}
use Rattle.rayon_machine_parts.specs.State.{job_at}
use Rattle.rayon_machine_parts.proofs.growth.grow_jobs.Given as goal

abbrev pub invariant-fill : goal.invariant-fill
invariant-fill l = (n : ℕ) → job_at l.jobs.items n ≡ job_at l.fn.jobs.items n

abbrev pub decreases-fill : goal.decreases-fill
decreases-fill l = l.number + 1 - vec_len l.jobs
