use Rattle.std.proofs.Common.{length}
use Rattle.rayon_broadcasts.proofs.Lists.{IsPushedTo}
use Rattle.rayon_broadcasts.proofs.broadcast_lists.push_reserved_each.Given as goal

abbrev pub invariant-loop-worker : goal.invariant-loop-worker
invariant-loop-worker g l =
    (goal.iterator-loop-worker g).can_next l.worker-iterator
    × (goal.iterator-loop-worker g).is_finite l.worker-iterator
    × IsPushedTo l.initial.lists l.fn.pieces.items l.lists (length l.yielded)
