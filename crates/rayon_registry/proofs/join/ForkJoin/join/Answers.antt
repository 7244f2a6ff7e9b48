use Rattle.std.proofs.Common.{◌≡◌, inl, inr, Bool, false, rules, subst}
use Rattle.std.proofs.lemmas.Result.{IfOk-weaker}
use Rattle.std.specs.Result.{is_err}
use Rattle.rayon_registry.specs.Acts.{ended_so}
use Rattle.rayon_registry.proofs.Joins.{closure_join_answers, closure_join_made}
use Rattle.rayon_registry.specs.contracts.join.ForkJoin.join.A-FnOnce.{words}
use Rattle.rayon_registry.proofs.join.ForkJoin.join.Goals as goal

pub returns-clause-answers : goal.returns-clause-answers
returns-clause-answers g c =
    let post = (words g.row.Self g.row.J g.row.Self-Fork g.row.Self-Scope g.row.J-Tag g.row.J-Output g.row.J-Fault g.row.J-Handler g.row.R g.row.RA g.row.A g.A.FnOnce).post c.args.a in
    closure_join_answers post (λ ctx. ctx.now.migrated ≡ false) (λ r. g.J.JobKind.answers (g.J.JobKind.tag_of c.args.b) r) (c.args.a, c.args.b) _ _ _ _ c.a-first.result c.join_answer.result
    c.a-first.ensures c.new.ensures
    (IfOk-weaker c.join_answer.result _ _ (λ r h. (h.0, rw c.in-Ok.ensures.forked.0 at rw h.1 at c.end_join-second.ensures.ok)) c.join_answer.ensures.ok)
    (λ f e. elim (c.join_answer.ensures.fault f e) [
      | inl p ↦ inl p
      | inr q ↦ inr (q.0, rw c.in-Ok.ensures.forked.0 at rw q.1 at c.end_join-second.ensures.ok)
    ])
    (λ r sides e. absurd (c.join_answer.ensures.begun r sides e))

pub returns-clause-lost : goal.returns-clause-lost
returns-clause-lost g c e =
    let p = c.join_answer.ensures.lost e in
    (p.0, _, _, _, _, rw p.1 at c.a-first.ensures)

pub returns-clause-path : goal.returns-clause-path
returns-clause-path g c =
    let v = c.args.self.now in
    let w = c.end_join-second.new.self in
    let e = ended_so (is_err c.a-first.result) in
    let same : g.Self.Lends.id w ≡ g.Self.Lends.id v = search rules in
    let met = subst (λ (b : Bool). g.Self.Sides.met (ended_so b) c.in-Ok.fork w) c.is_err.ensures.value c.end_join-second.ensures.path in
    closure_join_made (λ e. g.Self.Sides.joined e v w) (g.Self.Sides.handed_back v w) c.a-first.result c.end_join-second.result c.join_answer.result c.join_answer.ensures.same
    (g.met.Self.Sides.joins e v w c.in-Ok.fork same c.in-Ok.ensures.path met)
