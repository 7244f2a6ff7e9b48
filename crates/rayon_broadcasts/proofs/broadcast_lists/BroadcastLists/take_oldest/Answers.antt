use Rattle.std.proofs.Common.{◌<◌, length, arith}
use Rattle.rayon_broadcasts.proofs.Lists.{taken, oldest}
use Rattle.rayon_broadcasts.proofs.broadcast_lists.BroadcastLists.take_oldest.Goals as goal

pub returns-clause-taken : goal.returns-clause-taken
returns-clause-taken g c =
    let qs = c.self.inside.lists.items in
    let at = c.in_ok-get_mut.ensures.value in
    let lt : c.args.worker < length qs = grind arith in
    taken qs c.args.worker c.in_ok-get_mut.field-0.now c.pop_front.new.self c.pop_front.result at lt c.args.self.now c.self.view_is c.pop_front.ensures.items c.pop_front.ensures.rest

pub returns-clause-oldest : goal.returns-clause-oldest
returns-clause-oldest g c =
    let qs = c.self.inside.lists.items in
    let at = c.in_ok-get_mut.ensures.value in
    let lt : c.args.worker < length qs = grind arith in
    oldest qs c.args.worker c.in_ok-get_mut.field-0.now c.pop_front.new.self c.pop_front.result at lt c.args.self.now c.self.view_is c.pop_front.ensures.items c.pop_front.ensures.rest
