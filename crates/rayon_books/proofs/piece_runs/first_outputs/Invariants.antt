use Rattle.std.proofs.Common.{◌≡◌, length, map, vec_len, vec_capacity}
use Rattle.rayon_books.specs.declared.slot.Slot.TheVariants.{Filled}
use Rattle.rayon_books.proofs.piece_runs.first_outputs.Given as goal

abbrev pub invariant-loop-slot : goal.invariant-loop-slot
invariant-loop-slot g l =
    (map Filled l.ready.items ≡ l.yielded)
    × (vec_len l.ready ≡ length l.yielded)
    × (vec_capacity l.ready ≡ vec_capacity l.initial.ready)
