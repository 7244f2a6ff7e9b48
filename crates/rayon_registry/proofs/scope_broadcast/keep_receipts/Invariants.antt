use Rattle.std.proofs.Common.{◌≡◌, ◌≤◌, ◌++◌, ◌+◌}
use Rattle.std.specs.Prelude.{vec_len, vec_capacity}
use Rattle.rayon_registry.specs.Scopes.{piece_receipts}
use Rattle.rayon_registry.proofs.scope_broadcast.keep_receipts.Given as goal

abbrev pub invariant-loop-index : goal.invariant-loop-index
invariant-loop-index g l =
    (l.index ≤ l.kept) × (l.receipts.items ≡ l.initial.receipts.items ++ piece_receipts (g.J.JobKind.tag_of l.job) l.first l.workers l.index) × (vec_len l.receipts ≡ vec_len l.initial.receipts + l.index) × (vec_capacity l.receipts ≡ vec_capacity l.initial.receipts)
