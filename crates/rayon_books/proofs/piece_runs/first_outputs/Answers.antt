use Rattle.std.proofs.Common.{◌≡◌, ◌∙◌, ap, length, take, map, Some, None, inl, inr, refl, sym, arith}
use Rattle.std.proofs.lemmas.List.{map-id}
use Rattle.std.proofs.lemmas.Iterator.Adapters.{YieldsList-from_vec}
use Rattle.std.proofs.lemmas.Iterator.Consumers.{YieldsList-end, YieldsList-so_far, YieldsList-turn}
use Rattle.std.proofs.lemmas.Option.{slice_get_read}
use Rattle.rayon_books.specs.Books.{is_filled}
use Rattle.rayon_books.specs.declared.slot.Slot.TheVariants.{Filled}
use Rattle.rayon_books.proofs.piece_runs.first_outputs.Goals as goal

pub returns-in-Open : goal.returns-in-Open
returns-in-Open g c =
    let slots = c.args.slots.items in
    let l = c.loop-slot in
    let all = YieldsList-from_vec slots (cc) (cc) in
    let t = YieldsList-turn all l.yielded l.slot-iterator l.yielded_by c.next.result c.next.new.self c.in-Some.slot c.in-Some.is c.next.ensures.steps in
    let number : length l.ready.items ≡ length l.yielded = omega (arith, l.ready.ok.0, l.invariant.1) in
    let so_far : l.yielded ≡ take (length l.yielded) slots = sym (map-id l.yielded) ∙ YieldsList-so_far all l.yielded l.slot-iterator l.yielded_by in
    let at = slice_get_read slots (length slots) (length l.yielded) c.in-Some.slot refl t.0 t.1 in
    record {
      outputs = rw number (l.invariant.0 ∙ so_far, inr (c.in-Some.slot, at, elim c.in-Open.is [ inl e ↦ ap is_filled e | inr e ↦ ap is_filled e ]));
      room = l.invariant.2;
    }

pub returns-clause-outputs : goal.returns-clause-outputs
returns-clause-outputs g c =
    let slots = c.args.slots.items in
    let l = c.loop-slot in
    let all = YieldsList-from_vec slots (cc) (cc) in
    let number : length l.ready.items ≡ length l.yielded = omega (arith, l.ready.ok.0, l.invariant.1) in
    let so_far : l.yielded ≡ take (length l.yielded) slots = sym (map-id l.yielded) ∙ YieldsList-so_far all l.yielded l.slot-iterator l.yielded_by in
    let end = YieldsList-end all l.yielded l.slot-iterator l.yielded_by c.next.result c.next.new.self c.in-None.is c.next.ensures.steps in
    (rw number (l.invariant.0 ∙ so_far), inl (number ∙ end.1))
