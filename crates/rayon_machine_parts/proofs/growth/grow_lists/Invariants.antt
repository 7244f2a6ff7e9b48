use Rattle.std.proofs.Common.{ℕ, ◌≡◌, ◌+◌, ◌-◌, vec_len}
use Rattle.rayon_machine_parts.specs.State.{holder_in, jobs_in}
use Rattle.rayon_machine_parts.proofs.growth.grow_lists.Given as goal

abbrev pub invariant-fill : goal.invariant-fill
invariant-fill l = record {
  jobs : (c : ℕ) → jobs_in l.lists.items c ≡ jobs_in l.fn.lists.items c;
  holder : (c : ℕ) → holder_in l.lists.items c ≡ holder_in l.fn.lists.items c;
}

abbrev pub decreases-fill : goal.decreases-fill
decreases-fill l = l.call + 1 - vec_len l.lists
