use Rattle.std.proofs.Common.{ℕ, ◌≡◌, ◌≤◌, ◌+◌}
use Rattle.rayon_machine_runs.specs.World.{casts_with}
use Rattle.rayon_machine_parts.specs.State.{CastsFrom, cast_at}
use Rattle.rayon_machine_parts.proofs.writes.push_pieces.Given as goal

abbrev pub invariant-loop-index : goal.invariant-loop-index
invariant-loop-index l = record {
  written : (i : ℕ) → cast_at l.casts.items i ≡ casts_with (record l.pieces { workers = l.index }) (cast_at l.fn.casts.items) i;
  room : CastsFrom l.index l.pieces.workers l.casts.items;
}
