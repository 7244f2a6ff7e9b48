use Rattle.std.proofs.lemmas.Result.{IfOk-weaker}
use Rattle.rayon_machine_numbers.specs.Numbers.{census_counts}
use Rattle.rayon_machine_numbers.proofs.numbers.Touched.counters.Goals as goal

pub returns-in-Announce-clause-ok : goal.returns-in-Announce-clause-ok
returns-in-Announce-clause-ok c = IfOk-weaker c.announce.result _ _ (λ r f _ q. rw c.in-Announce.is (f q (census_counts c.args.census))) c.announce.ensures.ok

pub returns-in-TryAdd-clause-ok : goal.returns-in-TryAdd-clause-ok
returns-in-TryAdd-clause-ok c = λ _ q. rw c.in-TryAdd.is (c.try_add.ensures q)

pub returns-in-News-clause-ok : goal.returns-in-News-clause-ok
returns-in-News-clause-ok c = λ _ q. rw c.in-News.is (c.news.ensures q c.in-News.pool c.args.jec_bits)
