use Rattle.std.proofs.lemmas.Result.{MatchResult-weaker}
use Rattle.rayon_guests.proofs.Visits.{exchanged, unexchanged}
use Rattle.rayon_guests.proofs.guest.Guest.enter.Goals as goal

pub returns-clause-path : goal.returns-clause-path
returns-clause-path g c =
    let k = c.args.scope.now in
    let s = c.args.self.now in
    let u = c.exchange_call.new.self in
    let v = c.enter_at_hand-entered.new.self in
    let t = c.exchange_call-2.new.self in
    let same = c.enter_at_hand-entered.ensures.unit.1 in
    MatchResult-weaker c.enter_at_hand-entered.result c.enter_at_hand-entered.ensures.path
    (λ _ d. exchanged c.exchange_call.new.ticket k c.args.entry s u v t c.exchange_call.ensures.guest same c.exchange_call-2.ensures.guest d)
    (λ _ d. unexchanged c.exchange_call.new.ticket k c.args.entry s u v t c.exchange_call.ensures.ticket c.exchange_call.ensures.guest same c.exchange_call-2.ensures.guest d)
