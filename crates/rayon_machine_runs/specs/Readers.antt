-- what a reader counts in a world
use Rattle.std.specs.Prelude.{ℕ, Bool, true, false, if◌then◌else◌}
use Rattle.rayon_machine_runs.specs.declared.state.Whereabouts.{Whereabouts}
use Rattle.rayon_machine_runs.specs.declared.state.Whereabouts.TheVariants.{InDeque, Injected, InFifo, InCast, Running, Over}
use Rattle.rayon_machine_runs.specs.declared.state.Job.{Job}
use Rattle.rayon_machine_runs.specs.World.{World, count_below}
use Rattle.rayon_machine_places.specs.Targets.{is_token}

-- a job in a deque, in an injector, in a FIFO list or in a broadcast list is queued
abbrev pub is_queued : Whereabouts → Bool
is_queued (InDeque p i) = true
is_queued (Injected p) = true
is_queued (InFifo p i b) = true
is_queued (InCast p i) = true
is_queued _ = false

-- a job that is taken or begun, and not ended, is running
abbrev pub is_running : Whereabouts → Bool
is_running (Running q) = true
is_running _ = false

-- a job whose run has ended is done
abbrev pub is_done : Whereabouts → Bool
is_done (Over e) = true
is_done _ = false

-- a job, and no token, is in such a state
unfoldable pub is_job_that : (Whereabouts → Bool) → Job → Bool
is_job_that f j = if is_token j.kind then false else f j.at

-- how many jobs of a world are in such a state
abbrev pub jobs_that : World → (Whereabouts → Bool) → ℕ
jobs_that w f = count_below w.jobs (λ t. is_job_that f (w.job t))
