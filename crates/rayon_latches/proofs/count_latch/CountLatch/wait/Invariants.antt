use Rattle.std.proofs.Common.{◌≡◌, ◌≤◌, true}
use Rattle.rayon_atomics.specs.Tallies.{teller}
use Rattle.rayon_latches.proofs.count_latch.CountLatch.wait.Given as goal

-- the seat has made steps or none, and neither raised nor lowered
abbrev pub invariant-loop : goal.invariant-loop
invariant-loop g l =
    (goal.iterator-loop g).can_next l.iterator' × (goal.iterator-loop g).is_finite l.iterator' × (l.seat.table_id ≡ l.fn.seat.table_id)
    × ((teller l.seat).raised ≡ (teller l.fn.seat).raised) × ((teller l.seat).lowered ≡ (teller l.fn.seat).lowered)
    × ((teller l.fn.seat).steps ≤ (teller l.seat).steps) × ((teller l.fn.seat).seen ≡ true → (teller l.seat).seen ≡ true)
