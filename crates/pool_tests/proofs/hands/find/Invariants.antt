use Rattle.std.proofs.Common.{◌≡◌}
use Rattle.pool_tests.proofs.hands.find.Given as goal

abbrev pub invariant-loop : goal.invariant-loop
invariant-loop g l =
    (goal.iterator-loop g).can_next l.iterator' × (goal.iterator-loop g).is_finite l.iterator'
    × (l.w.levels ≡ l.initial.w.levels)
    × (l.w.id ≡ l.initial.w.id)
    × (l.w.units ≡ l.initial.w.units)
    × (l.w.shape ≡ l.initial.w.shape)
