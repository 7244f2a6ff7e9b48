use Rattle.std.proofs.Common.{rules, ◌≡◌, true}
use Rattle.std.proofs.lemmas.Result.{IfOk-weaker}
use Rattle.rayon_machine_runs.specs.World.{is_open}
use Rattle.rayon_machine_numbers.proofs.numbers.Touched.feeds.Goals as goal

pub returns-in-FifoOut-clause-ok : goal.returns-in-FifoOut-clause-ok
returns-in-FifoOut-clause-ok c =
    let free : is_open c.args.party c.args.self.holder ≡ true = search (rules, c.is_open_to.ensures, c.if-not-is_open_to.false) in
    IfOk-weaker c.hand_out.result _ _ (λ r f _ k b o. rw c.in-FifoOut.is (f c.in-FifoOut.token c.in-FifoOut.worker c.in-FifoOut.scope k b o free)) c.hand_out.ensures.ok

pub returns-in-FifoUndo-clause-ok : goal.returns-in-FifoUndo-clause-ok
returns-in-FifoUndo-clause-ok c =
    let free : is_open c.args.party c.args.self.holder ≡ true = search (rules, c.is_open_to.ensures, c.if-not-is_open_to.false) in
    λ _ k b o. rw c.in-FifoUndo.is (c.take_back.ensures c.in-FifoUndo.field-0 k b o free)
