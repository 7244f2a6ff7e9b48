use Rattle.std.proofs.lemmas.Result.{IfOk-weaker}
use Rattle.rayon_machine_numbers.specs.Numbers.{census_counts}
use Rattle.rayon_machine_numbers.proofs.Outcomes.{booking-acts, counting-acts, handled-acts, sharing-acts}
use Rattle.rayon_machine_numbers.proofs.numbers.Touched.outcome.Goals as goal

pub returns-in-Queueing-clause-ok : goal.returns-in-Queueing-clause-ok
returns-in-Queueing-clause-ok c = λ o. rw c.handle.ensures (handled-acts o c.args.act c.args.party (census_counts c.args.census) c.args.jec_bits c.args.found c.args.self c.in-Queueing.ensures)

pub returns-in-Feeding-clause-ok : goal.returns-in-Feeding-clause-ok
returns-in-Feeding-clause-ok c = IfOk-weaker c.feeds.result _ _ (λ r f o. f c.in-Feeding.ensures (census_counts c.args.census) c.args.jec_bits o) c.feeds.ensures.ok

pub returns-in-Sharing-clause-ok : goal.returns-in-Sharing-clause-ok
returns-in-Sharing-clause-ok c = IfOk-weaker c.shares.result _ _ (λ r f o. sharing-acts o c.args.act c.args.party (census_counts c.args.census) c.args.jec_bits c.args.found c.args.self (r.0) (r.1) c.in-Sharing.ensures (f c.in-Sharing.ensures (census_counts c.args.census) c.args.jec_bits)) c.shares.ensures.ok

pub returns-in-Booking-clause-ok : goal.returns-in-Booking-clause-ok
returns-in-Booking-clause-ok c = IfOk-weaker c.books.result _ _ (λ r f o. booking-acts o c.args.act c.args.party (census_counts c.args.census) c.args.jec_bits c.args.found c.args.self (r.0) (r.1) c.in-Booking.ensures (f c.in-Booking.ensures (census_counts c.args.census) c.args.jec_bits)) c.books.ensures.ok

pub returns-in-Counting-clause-ok : goal.returns-in-Counting-clause-ok
returns-in-Counting-clause-ok c = IfOk-weaker c.counters.result _ _ (λ r f o. counting-acts o c.args.act c.args.party (census_counts c.args.census) c.args.jec_bits c.args.found c.args.self (r.0) (r.1) c.in-Counting.ensures (f c.in-Counting.ensures c.args.party)) c.counters.ensures.ok
