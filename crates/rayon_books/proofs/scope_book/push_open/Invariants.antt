use Rattle.std.proofs.Common.{◌≡◌, ◌+◌, ◌++◌, replicate, vec_len, vec_capacity}
use Rattle.rayon_books.specs.declared.slot.Slot.TheVariants.{Open}
use Rattle.rayon_books.proofs.scope_book.push_open.Given as goal

abbrev pub invariant-loop : goal.invariant-loop
invariant-loop g l =
    (l.slots.items ≡ l.initial.slots.items ++ replicate l.counter Open)
    × (vec_len l.slots ≡ vec_len l.initial.slots + l.counter)
    × (vec_capacity l.slots ≡ vec_capacity l.initial.slots)
