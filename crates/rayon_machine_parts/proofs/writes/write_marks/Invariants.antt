use Rattle.std.proofs.Common.{ℕ, ◌≡◌, vec_len}
use Rattle.rayon_machine_runs.specs.Steps.{mark_pieces}
use Rattle.rayon_machine_parts.specs.State.{job_at}
use Rattle.rayon_machine_parts.proofs.writes.write_marks.Given as goal

abbrev pub invariant-loop-index : goal.invariant-loop-index
invariant-loop-index l = record {
  written : (t : ℕ) → job_at l.jobs.items t ≡ mark_pieces (record l.pieces { workers = l.index }) l.mark (job_at l.fn.jobs.items) t;
  len : vec_len l.jobs ≡ vec_len l.fn.jobs;
}
