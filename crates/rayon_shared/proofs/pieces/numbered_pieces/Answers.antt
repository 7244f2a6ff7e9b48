use Rattle.std.proofs.Common.{rules, arith}
use Rattle.rayon_shared.proofs.Shares.{one_numbered_more}
use Rattle.rayon_shared.proofs.pieces.numbered_pieces.Goals as goal

pub loop-index-preserved : goal.loop-index-preserved
loop-index-preserved g c = (
  omega arith,
  one_numbered_more c.args.ticket.now c.args.first c.args.slot c.loop-index.index c.loop-index.ready.items c.push_reserved.new.self.items c.task_of_piece.result
      c.loop-index.invariant.1 c.push_reserved.ensures.items (search rules),
  grind (arith),
  grind (arith),
  grind (arith),
)
