use Rattle.std.proofs.Common.{ℕ, ◌≡◌, ◌≤◌, vec_len}
use Rattle.rayon_machine_parts.specs.State.{CastsFrom, cast_at}
use Rattle.rayon_machine_parts.proofs.growth.reserve_casts.Given as goal

abbrev pub invariant-loop-index : goal.invariant-loop-index
invariant-loop-index l = record {
  same : (i : ℕ) → cast_at l.casts.items i ≡ cast_at l.fn.casts.items i;
  stored : l.workers ≤ vec_len l.casts;
  room : CastsFrom 0 l.index l.casts.items;
}
