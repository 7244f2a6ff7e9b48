use Rattle.std.proofs.Common.{rules, ◌≡◌, subst}
use Rattle.rayon_broadcasts.specs.Books.{IsAllowed}
use Rattle.rayon_broadcasts.specs.declared.piece_outputs.NoAnswers.{NoAnswers}
use Rattle.rayon_global.proofs.broadcasts.OutsideGathers.broadcast_here.Goals as goal

pub returns-clause-fault : goal.returns-clause-fault
returns-clause-fault g c f e =
    let w : c.deref.result.now.workers ≡ c.args.self.now.workers = search rules in
    subst (λ n. IsAllowed (g.J.JobKind.answers_on g.J.JobKind.answers (g.J.JobKind.tag_of c.args.job)) n (NoAnswers.Fault f)) w (c.broadcast.ensures.fault f e)
