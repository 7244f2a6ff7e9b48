use Rattle.std.proofs.Common.{rules, arith}
use Rattle.rayon_registry.proofs.Receipts.{one_receipt_more}
use Rattle.rayon_registry.proofs.scope_broadcast.keep_receipts.Goals as goal

pub loop-index-preserved : goal.loop-index-preserved
loop-index-preserved g c = (
  omega arith,
  one_receipt_more _ c.args.first c.args.workers c.loop-index.index _ c.loop-index.receipts.items c.push_reserved.new.self.items _
      c.loop-index.invariant.1 c.push_reserved.ensures.items (search rules),
  grind (arith),
  grind (arith),
)
