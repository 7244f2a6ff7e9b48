use Rattle.std.proofs.Common.{arith, ap, ◌≡◌, ◌∙◌, ◌+◌, ◌<◌, length}
use Rattle.rayon_machine_runs.specs.Steps.{marked}
use Rattle.rayon_machine_parts.specs.State.{job_at}
use Rattle.rayon_machine_parts.proofs.Dealt.{job-there, piece-before, piece-more}
use Rattle.rayon_machine_parts.proofs.writes.write_marks.Goals as goal

pub loop-index-preserved : goal.loop-index-preserved
loop-index-preserved c =
    let b = c.args.pieces in
    let k = c.loop-index.index in
    let m = marked c.args.mark b.pool in
    let g = job_at c.args.jobs.now.items in
    let was : c.index.result.now ≡ g (b.first + k) = c.index.ensures ∙ job-there c.loop-index.jobs.items (b.first + k) c.index.result.now (search (arith)) ∙ c.loop-index.invariant.written (b.first + k) ∙ piece-before b k m g in
    record {
      written = piece-more b k m g c.loop-index.jobs.items c.marked.result (search (arith)) c.loop-index.invariant.written (c.marked.ensures ∙ ap (m k) was);
      len = c.loop-index.invariant.len;
    }
