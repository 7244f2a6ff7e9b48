use Rattle.std.proofs.Common.{◌≡◌}
use Rattle.std.specs.List.{AllWithin}
use Rattle.rayon_broadcasts.specs.Lists.{items_of, HasRoom}
use Rattle.rayon_broadcasts.proofs.broadcast_lists.make_room.Given as goal

abbrev pub invariant-loop-list : goal.invariant-loop-list
invariant-loop-list g l =
    (items_of l.lists ≡ items_of l.initial.lists) × AllWithin HasRoom l.lists 0 l.list-index
