use Rattle.std.proofs.lemmas.Result.{IfOk-weaker, IfErr-weaker}
use Rattle.rayon_machine_numbers.proofs.numbers.Touched.locks.Goals as goal

pub returns-in-Lock-clause-ok : goal.returns-in-Lock-clause-ok
returns-in-Lock-clause-ok c = IfOk-weaker c.lock.result _ _ (λ r f _ k b. rw c.in-Lock.is (f k b)) c.lock.ensures.ok

pub returns-in-Lock-clause-not_enabled : goal.returns-in-Lock-clause-not_enabled
returns-in-Lock-clause-not_enabled c = IfErr-weaker c.lock.result _ _ (λ e f _ k. rw c.in-Lock.is (f k)) c.lock.ensures.not_enabled

pub returns-in-Unlock-clause-ok : goal.returns-in-Unlock-clause-ok
returns-in-Unlock-clause-ok c = IfOk-weaker c.unlock.result _ _ (λ r f _ k b. rw c.in-Unlock.is (f k b c.in-Unlock.pool c.in-Unlock.worker)) c.unlock.ensures.ok

pub returns-in-Unlock-clause-not_enabled : goal.returns-in-Unlock-clause-not_enabled
returns-in-Unlock-clause-not_enabled c = IfErr-weaker c.unlock.result _ _ (λ e f _ k. rw c.in-Unlock.is (f k c.in-Unlock.pool c.in-Unlock.worker)) c.unlock.ensures.not_enabled

pub returns-in-Wake-clause-ok : goal.returns-in-Wake-clause-ok
returns-in-Wake-clause-ok c = λ _ k b. rw c.in-Wake.is (c.wake.ensures c.args.party k b c.in-Wake.pool c.in-Wake.worker)
