use Rattle.std.proofs.lemmas.Result.{MatchResult-weaker}
use Rattle.rayon_guests.proofs.ScopeCasts.{exchanged_for_all, exchanged_for_none}
use Rattle.rayon_guests.proofs.guest.Guest.enter_for_all.Goals as goal

pub returns-clause-path : goal.returns-clause-path
returns-clause-path g c =
    let k = c.args.scope.now in
    let e = c.args.entry in
    let s = c.args.self.now in
    let u = c.exchange_call.new.self in
    let v = c.cast_at_hand-entered.new.self in
    let t = c.exchange_call-2.new.self in
    let same = c.cast_at_hand-entered.ensures.keeps.0.0 in
    MatchResult-weaker c.cast_at_hand-entered.result c.cast_at_hand-entered.ensures.path
    (λ r d. exchanged_for_all c.exchange_call.new.ticket k e r.0 s u v t c.exchange_call.ensures.guest same c.exchange_call-2.ensures.guest d)
    (λ _ d. exchanged_for_none c.exchange_call.new.ticket k e s u v t c.exchange_call.ensures.ticket c.exchange_call.ensures.guest same c.exchange_call-2.ensures.guest d)
