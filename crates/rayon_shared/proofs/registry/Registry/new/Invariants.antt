use Rattle.std.proofs.Common.{◌≡◌, ◌+◌, All, length, map}
use Rattle.rayon_queues.specs.Deques.{IsNew}
use Rattle.rayon_atomics.specs.Counted.{fresh}
use Rattle.rayon_shared.proofs.registry.Registry.new.Given as goal

abbrev pub invariant-loop : goal.invariant-loop
invariant-loop g l = (length l.stealers ≡ l.counter) × (map (λ d. d.id) l.deques.items ≡ l.stealers) × All (IsNew l.breadth_first 32) l.deques.items × (length l.deques.items ≡ l.counter) × (length l.chairs.items + l.counter ≡ l.num_threads) × All (λ c. c ≡ fresh l.num_threads 1) l.chairs.items × (length l.terminate.items ≡ l.counter)
