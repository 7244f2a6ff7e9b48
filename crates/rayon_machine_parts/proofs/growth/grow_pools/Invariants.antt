use Rattle.std.proofs.Common.{ℕ, ◌≡◌, ◌+◌, ◌-◌, vec_len}
use Rattle.rayon_machine_parts.specs.State.{pool_at}
use Rattle.rayon_machine_parts.proofs.growth.grow_pools.Given as goal

abbrev pub invariant-fill : goal.invariant-fill
invariant-fill l = (p : ℕ) → pool_at l.pools.items p ≡ pool_at l.fn.pools.items p

abbrev pub decreases-fill : goal.decreases-fill
decreases-fill l = l.index + 1 - vec_len l.pools
