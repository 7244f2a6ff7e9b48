use Rattle.std.proofs.Common.{◌≡◌}
use Rattle.bench_commands.proofs.spawns.spawn_all.Given as goal

abbrev pub invariant-loop : goal.invariant-loop
invariant-loop g l =
    (l.w.levels ≡ l.initial.w.levels)
    × (l.w.id ≡ l.initial.w.id)
    × (l.w.units ≡ l.initial.w.units)
    × (l.w.shape ≡ l.initial.w.shape)
