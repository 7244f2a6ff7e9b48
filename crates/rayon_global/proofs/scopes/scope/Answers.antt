use Rattle.std.proofs.Common.{Err, Ok, ap, false, inl, inr, true, true≢false}
use Rattle.rayon_global.proofs.scopes.scope.Goals as goal

pub returns-in-Ok-entered-clause-fault : goal.returns-in-Ok-entered-clause-fault
returns-in-Ok-entered-clause-fault g c f e = elim (c.scope_answer.ensures.fault f e) [
  | inl p ↦ absurd (true≢false (ap (λ r. elim r [ Ok x ↦ true | Err y ↦ false ]) p))
  | inr q ↦ rw q at c.end_scope_here-outputs.ensures.fault
]
