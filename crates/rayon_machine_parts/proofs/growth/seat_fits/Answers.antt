use Rattle.std.proofs.Common.{arith, ◌≡◌, ◌∙◌, ◌<◌, ap, length}
use Rattle.std.specs.VecDeque.{deque_capacity, deque_len}
use Rattle.rayon_machine_parts.specs.declared.parts.Seat.{Seat as StoredSeat}
use Rattle.rayon_machine_numbers.specs.Numbers.{act_list}
use Rattle.rayon_machine_parts.specs.State.{DequeFits, ListFits, seat_in, seat_of}
use Rattle.rayon_machine_parts.proofs.Listed.{on-both, seat-kept, seat-there, stored-holds}
use Rattle.rayon_machine_parts.proofs.growth.seat_fits.Goals as goal

pub returns-clause-same : goal.returns-clause-same
returns-clause-same c =
    let l = c.args.seats.now.items in
    let n = c.args.worker in
    let there : n < length l = search (arith) in
    let new : seat_of c.make_room.new.self ≡ seat_in l n = c.make_room.ensures.same ∙ ap seat_of c.index_mut.ensures.value ∙ seat-there l n _ there in
    seat-kept l n c.make_room.new.self there new

pub returns-clause-room : goal.returns-clause-room
returns-clause-room c =
    let l = c.args.seats.now.items in
    let n = c.args.worker in
    let a = c.args.act in
    let v : StoredSeat = c.make_room.new.self in
    let there : n < length l = search (arith) in
    on-both c.make_room.result (λ d r. stored-holds (λ (s : StoredSeat). DequeFits a (deque_len s.own) (deque_capacity s.own) × ListFits a s.detached s.scoped.items (act_list a)) l n v there (d, r)) c.make_room.ensures.deque c.make_room.ensures.list
