use Rattle.std.proofs.Common.{◌≡◌, length, vec_len, vec_capacity}
use Rattle.rayon_broadcasts.proofs.Books.{HasOutputs}
use Rattle.rayon_broadcasts.proofs.piece_outputs.in_order.Given as goal

abbrev pub invariant-loop-done : goal.invariant-loop-done
invariant-loop-done g l =
    (vec_len l.ready ≡ length l.yielded)
    × (vec_capacity l.ready ≡ vec_capacity l.initial.ready)
    × HasOutputs g.J.Tag.PartialEq.eq (g.J.JobKind.answers_on g.J.JobKind.answers l.tag) l.tag l.workers l.fn.runs.items l.ready.items
