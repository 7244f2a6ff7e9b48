use Rattle.std.proofs.Common.{rules, ◌≡◌, true}
use Rattle.std.proofs.lemmas.Result.{IfOk-weaker}
use Rattle.rayon_machine_runs.specs.World.{is_open}
use Rattle.rayon_machine_numbers.proofs.numbers.Touched.books.Goals as goal

pub returns-in-SlotAll-clause-ok : goal.returns-in-SlotAll-clause-ok
returns-in-SlotAll-clause-ok c =
    let free : is_open c.args.party c.args.self.call.writer ≡ true = search (rules, c.is_book_open_to.ensures, c.if-not-is_book_open_to.false) in
    IfOk-weaker c.open_slots.result _ _ (λ r f _ k b. rw c.in-SlotAll.is (f k b free)) c.open_slots.ensures.ok

pub returns-in-Slot-clause-ok : goal.returns-in-Slot-clause-ok
returns-in-Slot-clause-ok c =
    let free : is_open c.args.party c.args.self.call.writer ≡ true = search (rules, c.is_book_open_to.ensures, c.if-not-is_book_open_to.false) in
    IfOk-weaker c.open_slot.result _ _ (λ r f _ k b. rw c.in-Slot.is (f c.in-Slot.call c.in-Slot.job k b free)) c.open_slot.ensures.ok
