use Rattle.std.proofs.Common.{rules, arith, refl, sym, ◌≤◌, vec_len, vec_capacity}
use Rattle.rayon_books.proofs.Books.{kept_open}
use Rattle.rayon_books.proofs.scope_book.ScopeBook.open_slots.Goals as goal

pub invariant_of-self-2 : goal.invariant_of-self-2
invariant_of-self-2 g c =
    let room : vec_len c.push_open.new.slots ≤ vec_capacity c.make_room.new.list = omega (arith, c.push_open.ensures.len, c.make_room-2.ensures.len, c.in_ok-make_room.ensures.room, c.in-Some.ensures, c.len-len.ensures, c.make_room.ensures.len) in
    (rw c.make_room.ensures.items c.self.invariant.0, room, kept_open (record { slots = c.self.inside.slots.items; first = c.self.inside.first }) c.args.count _ (rw c.make_room-2.ensures.items at c.push_open.ensures.slots) c.self.invariant.2)

pub returns : goal.returns
returns g c =
    rw (sym c.self.view_is)
    (search (rules, c.len-len.ensures), rw c.push_open.ensures.slots (rw c.make_room-2.ensures.items refl))
