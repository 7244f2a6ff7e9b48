use Rattle.std.proofs.Common.{subst}
use Rattle.std.specs.Prelude.{IfOk}
use Rattle.rayon_registry.proofs.Installs.{not_refused, pair_answers}
use Rattle.rayon_registry.proofs.pool_ref.PoolRef.join.Goals as goal

pub returns-in-Ok-clause-answers : goal.returns-in-Ok-clause-answers
returns-in-Ok-clause-answers g c =
    let one = subst (λ t. IfOk c.claimed.result (λ r. g.J.JobKind.answers t r)) c.tag.ensures c.claimed.ensures.allowed in
    let two = subst (λ t. IfOk c.claimed-in-Ok.result (λ r. g.J.JobKind.answers t r)) c.tag-2.ensures c.claimed-in-Ok.ensures.allowed in
    pair_answers (λ r. g.J.JobKind.answers (g.J.JobKind.tag_of c.args.a) r) (λ r. g.J.JobKind.answers (g.J.JobKind.tag_of c.args.b) r) (c.args.a, c.args.b) c.claimed.result c.claimed-in-Ok.result c.pair_answer.result c.pair_answer.ensures one two

pub returns-in-Ok-clause-shallow : goal.returns-in-Ok-clause-shallow
returns-in-Ok-clause-shallow g c sides e = absurd (not_refused _ c.claimed.result c.claimed-in-Ok.result c.pair_answer.result _ sides c.pair_answer.ensures e)
