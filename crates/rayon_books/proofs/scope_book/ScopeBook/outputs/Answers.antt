use Rattle.std.proofs.Common.{sym}
use Rattle.rayon_books.proofs.Books.{fine_outputs, is_open}
use Rattle.rayon_books.proofs.scope_book.ScopeBook.outputs.Goals as goal

pub returns-in-Some-Job-clause-given : goal.returns-in-Some-Job-clause-given
returns-in-Some-Job-clause-given g c =
    (c.in-Some-Job.done, rw (sym c.self.view_is) (sym (rw c.in-Some-Job.field-0-is at c.in-Some-Job.ensures.value)), c.fault_of.ensures.answer)

pub returns-in-Some-clause-fine : goal.returns-in-Some-clause-fine
returns-in-Some-clause-fine g c =
    fine_outputs (record { slots = c.self.inside.slots.items; first = c.self.inside.first }) c.in-Some.outputs.items (rw c.replace-slots.ensures.value at c.in-Some.ensures) c.self.invariant.2

pub returns-clause-given : goal.returns-clause-given
returns-clause-given g c =
    let s = c.in-None-taken_out.ensures in
    rw (sym c.self.view_is)
    (sym c.in-None.ensures.value, is_open (record { slots = c.self.inside.slots.items; first = c.self.inside.first }) s.0 (rw c.replace-slots.ensures.value at s.1) s.2 (sym c.in-None.ensures.value) c.self.invariant.2)
