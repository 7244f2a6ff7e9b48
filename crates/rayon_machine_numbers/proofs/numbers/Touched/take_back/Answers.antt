use Rattle.std.proofs.Common.{rules}
use Rattle.rayon_machine_numbers.proofs.Outcomes.{none-back, some-back}
use Rattle.rayon_machine_numbers.proofs.numbers.Touched.take_back.Goals as goal

pub returns-in-None : goal.returns-in-None
returns-in-None c = λ s k b o free. rw c.in-None.is (none-back o s c.args.party k b c.args.self free)

pub returns-in-Some : goal.returns-in-Some
returns-in-Some c = λ s k b o free. rw (c.in-Some.is, c.with_job_at.ensures) (some-back o c.in-Some.job s c.args.party k b c.args.self free)
