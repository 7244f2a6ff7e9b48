use Rattle.std.proofs.Common.{◌≡◌, ◌≤◌, ◌+◌, ◌^◌}
use Rattle.std.specs.Prelude.{vec_len, vec_capacity}
use Rattle.rayon_shared.specs.Casts.{numbered_pieces}
use Rattle.rayon_shared.proofs.pieces.numbered_pieces.Given as goal

abbrev pub invariant-loop-index : goal.invariant-loop-index
invariant-loop-index g l =
    (l.index ≤ l.workers) × (l.ready.items ≡ numbered_pieces l.ticket l.first l.slot l.index) × (vec_len l.ready ≡ l.index) × (l.workers ≤ vec_capacity l.ready) × (l.slot + l.index ≤ 2 ^ 64)
