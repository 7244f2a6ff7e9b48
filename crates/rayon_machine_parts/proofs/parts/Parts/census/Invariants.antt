use Rattle.std.proofs.Common.{◌≡◌, ◌≤◌}
use Rattle.rayon_machine_runs.specs.World.{count_below}
use Rattle.rayon_machine_parts.specs.State.{seat_at}
use Rattle.rayon_machine_parts.proofs.parts.Parts.census.Given as goal

abbrev pub invariant-loop-index : goal.invariant-loop-index
invariant-loop-index l = record {
  sleeping : l.sleeping ≡ count_below l.index (λ i. (seat_at l.self.benches.items l.pool i).asleep);
  inactive : l.inactive ≡ count_below l.index (λ i. (seat_at l.self.benches.items l.pool i).inactive);
  few_sleep : l.sleeping ≤ l.index;
  few_rest : l.inactive ≤ l.index;
}
