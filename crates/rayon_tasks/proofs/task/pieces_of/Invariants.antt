use Rattle.std.proofs.Common.{◌≡◌, ◌≤◌}
use Rattle.std.specs.Prelude.{vec_len, vec_capacity}
use Rattle.rayon_tasks.specs.Pieces.{pieces_for}
use Rattle.rayon_tasks.proofs.task.pieces_of.Given as goal

abbrev pub invariant-loop-index : goal.invariant-loop-index
invariant-loop-index g l =
    (l.index ≤ l.workers) × (l.pieces.items ≡ pieces_for l.ticket l.first l.index) × (vec_len l.pieces ≡ l.index) × (l.workers ≤ vec_capacity l.pieces)
