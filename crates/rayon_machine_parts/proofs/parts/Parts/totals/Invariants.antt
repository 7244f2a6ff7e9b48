use Rattle.std.proofs.Common.{◌≡◌, ◌≤◌}
use Rattle.rayon_machine_runs.specs.World.{count_below}
use Rattle.rayon_machine_runs.specs.Readers.{is_done, is_job_that, is_queued, is_running}
use Rattle.rayon_machine_parts.specs.State.{job_at}
use Rattle.rayon_machine_parts.proofs.parts.Parts.totals.Given as goal

abbrev pub invariant-loop-number : goal.invariant-loop-number
invariant-loop-number l = record {
  queued : l.queued ≡ count_below l.number (λ t. is_job_that is_queued (job_at l.self.jobs.items t));
  running : l.running ≡ count_below l.number (λ t. is_job_that is_running (job_at l.self.jobs.items t));
  done : l.done ≡ count_below l.number (λ t. is_job_that is_done (job_at l.self.jobs.items t));
  few_queue : l.queued ≤ l.number;
  few_run : l.running ≤ l.number;
  few_done : l.done ≤ l.number;
}
