use Rattle.std.proofs.Common.{◌≡◌, ◌∙◌, ◌<◌, ℕ, ap, length}
use Rattle.std.specs.Prelude.{if◌then◌else◌, ◌==◌}
use Rattle.rayon_machine_runs.specs.World.{Seat}
use Rattle.rayon_machine_parts.specs.declared.parts.Seat.{Seat as StoredSeat}
use Rattle.rayon_machine_numbers.specs.Numbers.{act_list, seat_queued, with_flags}
use Rattle.rayon_machine_parts.specs.State.{DequeFits, ListFits, blank_seat, seat_in, seat_of}
use Rattle.rayon_machine_parts.proofs.AfterWrites.{read-set}
use Rattle.rayon_machine_parts.proofs.Listed.{is-stored, seat-there}
use Rattle.std.specs.VecDeque.{deque_capacity, deque_len}
use Rattle.rayon_machine_parts.proofs.writes.write_in.Goals as goal

pub returns : goal.returns
returns c =
    let l = c.args.seats.now.items in
    let n = c.args.worker in
    let a = c.args.act in
    let there : n < length l = is-stored (λ (s : StoredSeat). DequeFits a (deque_len s.own) (deque_capacity s.own) × ListFits a s.detached s.scoped.items (act_list a)) l n c.requires in
    let old : seat_of c.index_mut.result.now ≡ seat_in l n = ap seat_of c.index_mut.ensures.value ∙ seat-there l n _ there in
    let new : seat_of c.write.new.self ≡ seat_queued a c.args.order c.args.party (with_flags (seat_in l n) c.args.flags) = c.write.ensures ∙ ap (λ (s : Seat). seat_queued a c.args.order c.args.party (with_flags s c.args.flags)) old in
    λ i. read-set seat_of blank_seat l n i c.write.new.self there ∙ ap (λ (s : Seat). if i == n then s else seat_in l i) new
