use Rattle.std.proofs.Common.{arith, refl, ◌≡◌, ◌+◌, ◌<◌, length, vec_len}
use Rattle.rayon_machine_runs.specs.Steps.{new_piece}
use Rattle.rayon_machine_parts.specs.State.{job_at}
use Rattle.rayon_machine_parts.proofs.Dealt.{piece-more}
use Rattle.rayon_machine_parts.proofs.writes.write_pieces.Goals as goal

pub loop-index-preserved : goal.loop-index-preserved
loop-index-preserved c =
    let b = c.args.pieces in
    record {
      written = piece-more b c.loop-index.index (λ i j. new_piece c.args.party b.count b.pool i) (job_at c.args.jobs.now.items) c.loop-index.jobs.items c.piece.result (search (arith)) c.loop-index.invariant.written c.piece.ensures;
      len = c.loop-index.invariant.len;
    }
