use Rattle.std.specs.List.{AllWithin}
use Rattle.rayon_books.specs.Receipts.{IsMet}
use Rattle.rayon_books.proofs.receipt.are_met.Given as goal

abbrev pub invariant-loop-receipt : goal.invariant-loop-receipt
invariant-loop-receipt g l =
    AllWithin (IsMet g.J.Tag.PartialEq.eq l.outputs) l.receipts 0 l.receipt-index
