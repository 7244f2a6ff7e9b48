use Rattle.std.proofs.Common.{arith, ◌∙◌, ◌<◌, length}
use Rattle.std.proofs.lemmas.List.Elements.{AllWithin-more_set}
use Rattle.rayon_broadcasts.specs.Lists.{HasRoom}
use Rattle.rayon_broadcasts.proofs.Lists.{same_items}
use Rattle.rayon_broadcasts.proofs.broadcast_lists.make_room.Goals as goal

pub returns-then-is_err-clause-items : goal.returns-then-is_err-clause-items
returns-then-is_err-clause-items g c =
    let lt : c.loop-list.list-index < length c.loop-list.lists = grind arith in
    same_items c.loop-list.lists c.loop-list.list-index c.list-item.result c.reserve.new.self lt c.reserve.ensures.items ∙ c.loop-list.invariant.0

pub loop-list-preserved : goal.loop-list-preserved
loop-list-preserved g c =
    let lt : c.loop-list.list-index < length c.loop-list.lists = grind arith in
    let room : HasRoom c.reserve.new.self = grind arith in
    (same_items c.loop-list.lists c.loop-list.list-index c.list-item.result c.reserve.new.self lt c.reserve.ensures.items ∙ c.loop-list.invariant.0, AllWithin-more_set c.loop-list.lists c.loop-list.list-index c.reserve.new.self lt HasRoom c.loop-list.invariant.1 room)
