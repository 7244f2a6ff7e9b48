use Rattle.std.proofs.Common.{inl, inr}
use Rattle.std.proofs.lemmas.Result.{IfOk-weaker}
use Rattle.rayon_global.proofs.scopes.in_place_scope.Goals as goal

pub returns-clause-ok : goal.returns-clause-ok
returns-clause-ok g c = IfOk-weaker c.scope_answer.result _ _ (λ e h. (_, _, _, _, c.in-Ok.ensures.empty.0, c.in-Ok.ensures.empty.1, rw h.0 at c.body-answer.ensures, rw h.1 at c.end_scope_here-ended.ensures.met)) c.scope_answer.ensures.ok

pub returns-clause-fault : goal.returns-clause-fault
returns-clause-fault g c f e = elim (c.scope_answer.ensures.fault f e) [
  | inl p ↦ inl (_, _, _, _, rw p at c.body-answer.ensures)
  | inr q ↦ inr (rw q at c.end_scope_here-ended.ensures.fault)
]

pub returns-clause-missing : goal.returns-clause-missing
returns-clause-missing g c e =
    let m = c.scope_answer.ensures.missing e in
    (_, _, m.0, _, _, rw m.1 at c.body-answer.ensures)

pub returns-clause-foreign : goal.returns-clause-foreign
returns-clause-foreign g c e =
    let m = c.scope_answer.ensures.foreign e in
    let o = c.end_scope_here-ended.ensures.foreign m.1 in
    (_, _, m.0.0, _, _, o.0, rw m.0.1 at c.body-answer.ensures, o.1)
