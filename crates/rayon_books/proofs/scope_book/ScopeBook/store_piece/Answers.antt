use Rattle.rayon_books.proofs.Pieces.{kept_piece}
use Rattle.rayon_books.proofs.scope_book.ScopeBook.store_piece.Goals as goal

pub invariant_of-self : goal.invariant_of-self
invariant_of-self g c =
    (c.self.invariant.0, c.self.invariant.1, kept_piece (record { slots = c.self.inside.slots.items; first = c.self.inside.first }) _ c.args.done _ _ c.settled_piece-slot.ensures.0 (rw c.take.ensures.value at c.settled_piece-slot.ensures.1) c.self.invariant.2)
