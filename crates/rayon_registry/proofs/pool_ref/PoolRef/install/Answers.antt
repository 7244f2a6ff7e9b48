use Rattle.std.proofs.Common.{subst}
use Rattle.std.specs.Prelude.{IfOk}
use Rattle.rayon_registry.proofs.Installs.{install_answers}
use Rattle.rayon_registry.proofs.pool_ref.PoolRef.install.Goals as goal

pub returns-in-Ok-clause-answers : goal.returns-in-Ok-clause-answers
returns-in-Ok-clause-answers g c =
    let allowed = subst (λ t. IfOk c.claimed.result (λ r. g.J.JobKind.answers t r)) c.tag-tag.ensures c.claimed.ensures.allowed in
    install_answers (λ r. g.J.JobKind.answers (g.J.JobKind.tag_of c.args.job) r) c.args.job c.claimed.result c.install_answer.result c.install_answer.ensures.same allowed
