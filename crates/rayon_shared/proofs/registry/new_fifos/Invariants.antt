use Rattle.std.proofs.Common.{◌≡◌, length}
use Rattle.rayon_shared.proofs.registry.new_fifos.Given as goal

abbrev pub invariant-loop : goal.invariant-loop
invariant-loop g l = length l.fifos.items ≡ l.counter
