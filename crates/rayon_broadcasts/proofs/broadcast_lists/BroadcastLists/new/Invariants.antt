use Rattle.std.proofs.Common.{◌≡◌, [], replicate, vec_len, vec_capacity}
use Rattle.rayon_broadcasts.specs.Lists.{items_of}
use Rattle.rayon_broadcasts.proofs.broadcast_lists.BroadcastLists.new.Given as goal

abbrev pub invariant-loop : goal.invariant-loop
invariant-loop g l =
    (items_of l.lists.items ≡ replicate l.counter [])
    × (vec_len l.lists ≡ l.counter)
    × (vec_capacity l.lists ≡ vec_capacity l.initial.lists)
