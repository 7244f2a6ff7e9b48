use Rattle.std.proofs.Common.{rules, ◌≡◌, ◌∙◌, Bool, true, ap, sym, ℕ}
use Rattle.std.specs.Prelude.{Option, if◌then◌else◌}
use Rattle.rayon_machine_runs.specs.World.{Seat}
use Rattle.rayon_machine_numbers.specs.Numbers.{act_list, is_listing, seat_listed, seat_pushed, with_flags}
use Rattle.rayon_machine_parts.specs.State.{seat_of}
use Rattle.rayon_machine_parts.proofs.parts.Seat.write.Goals as goal

pub returns-then-touches_list : goal.returns-then-touches_list
returns-then-touches_list c =
    let a = c.args.act in
    let q = c.args.party in
    let s : Seat = seat_pushed a c.args.order (with_flags (seat_of c.args.self.now) c.args.flags) in
    let listing : is_listing a ≡ true = search (rules, c.touches_list.ensures, c.if-touches_list.true) in
    c.write_list.ensures
    ∙ ap (λ (b : Option ℕ). seat_listed a q b (seat_of c.write_own.new.self)) c.list_of.ensures
    ∙ ap (seat_listed a q (act_list a)) c.write_own.ensures.seat
    ∙ sym (ap (λ (z : Bool). if z then seat_listed a q (act_list a) s else s) listing)
