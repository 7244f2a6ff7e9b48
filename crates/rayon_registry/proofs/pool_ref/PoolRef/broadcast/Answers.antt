use Rattle.std.proofs.Common.{◌≡◌, IfOk, rules, subst}
use Rattle.rayon_broadcasts.specs.Books.{IsAllowed}
use Rattle.rayon_broadcasts.specs.declared.piece_outputs.NoAnswers.{NoAnswers}
use Rattle.rayon_registry.specs.Answers.{AllAnswered}
use Rattle.rayon_registry.proofs.pool_ref.PoolRef.broadcast.Goals as goal

pub returns-in-Ok-Some-clause-ok : goal.returns-in-Ok-Some-clause-ok
returns-in-Ok-Some-clause-ok g c =
    let w : c.current_num_threads-workers.result ≡ c.args.self.now.workers = search rules in
    let r = c.broadcast_answer.result in
    let here = subst (λ n. IfOk r (λ v. AllAnswered (g.J.JobKind.answers_on g.J.JobKind.answers c.tag-tag.result) n v.items)) w c.broadcast_answer.ensures.ok in
    subst (λ t. IfOk r (λ v. AllAnswered (g.J.JobKind.answers_on g.J.JobKind.answers t) c.args.self.now.workers v.items)) c.tag-tag.ensures here

pub returns-in-Ok-Some-clause-fault : goal.returns-in-Ok-Some-clause-fault
returns-in-Ok-Some-clause-fault g c f e =
    let w : c.current_num_threads-workers.result ≡ c.args.self.now.workers = search rules in
    let here = subst (λ n. IsAllowed (g.J.JobKind.answers_on g.J.JobKind.answers c.tag-tag.result) n (NoAnswers.Fault f)) w (c.broadcast_answer.ensures.fault f e) in
    subst (λ t. IsAllowed (g.J.JobKind.answers_on g.J.JobKind.answers t) c.args.self.now.workers (NoAnswers.Fault f)) c.tag-tag.ensures here
