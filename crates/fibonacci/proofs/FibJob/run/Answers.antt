use Rattle.std.proofs.Common.{rules}
use Rattle.fibonacci.proofs.Fibs.{fault_of_join}
use Rattle.fibonacci.proofs.FibJob.run.Goals as goal

pub returns-in-Err-clause-answer : goal.returns-in-Err-clause-answer
returns-in-Err-clause-answer g c =
    let p = fault_of_join c.args.self.0 _ _ c.in-Err.error c.in-Err.is c.if-n-lt2.false c.join_jobs.ensures.answers in
    search (rules, p)
