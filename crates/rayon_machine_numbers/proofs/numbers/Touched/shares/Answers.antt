use Rattle.std.proofs.lemmas.Result.{IfOk-weaker}
use Rattle.rayon_machine_numbers.proofs.numbers.Touched.shares.Goals as goal

pub returns-in-Begin-clause-ok : goal.returns-in-Begin-clause-ok
returns-in-Begin-clause-ok c = IfOk-weaker c.begin.result _ _ (λ r f _ k b. rw c.in-Begin.is (f k b c.in-Begin.field-0)) c.begin.ensures.ok

pub returns-in-Lower-clause-ok : goal.returns-in-Lower-clause-ok
returns-in-Lower-clause-ok c = λ _ k b. rw c.in-Lower.is (c.lower.ensures c.args.party k b)

pub returns-in-Raise-clause-ok : goal.returns-in-Raise-clause-ok
returns-in-Raise-clause-ok c = IfOk-weaker c.raise.result _ _ (λ r f _ k b. rw c.in-Raise.is (f c.args.party k b c.in-Raise.job)) c.raise.ensures.ok

pub returns-in-LowerAll-clause-ok : goal.returns-in-LowerAll-clause-ok
returns-in-LowerAll-clause-ok c = λ _ k b. rw c.in-LowerAll.is (c.lower_all.ensures c.args.party k b)

pub returns-in-RaiseAll-clause-ok : goal.returns-in-RaiseAll-clause-ok
returns-in-RaiseAll-clause-ok c = IfOk-weaker c.raise_all.result _ _ (λ r f _ k b. rw c.in-RaiseAll.is (f c.args.party k b)) c.raise_all.ensures.ok
