use Rattle.std.proofs.Common.{Some, inr, subst}
use Rattle.rayon_machine_places.specs.declared.place.Move.TheVariants.{Stay, HandBack}
use Rattle.rayon_machine_places.specs.declared.place.Place.TheVariants as at
use Rattle.rayon_machine_places.specs.declared.place.Plan.TheVariants.{Enter}
use Rattle.rayon_guests.specs.declared.load.Load.TheVariants.{Scoped}
use Rattle.rayon_guests.proofs.Visits.{So}
use Rattle.rayon_guests.proofs.guest.Guest.enter_at_hand.Goals as goal

pub returns-in-Ok-clause-path : goal.returns-in-Ok-clause-path
returns-in-Ok-clause-path g c = (_, c.in-Ok.field-0.0, c.in-Ok.field-0.1, c.in-Ok.ensures.path)

pub returns-in-Err-default-Scoped-clause-path : goal.returns-in-Err-default-Scoped-clause-path
returns-in-Err-default-Scoped-clause-path g c =
    let e = c.args.entry in
    let s = c.args.self.now in
    let t = c.call.new.self in
    let load = Scoped c.args.job c.numbered-ticket.result in
    inr (load, subst (λ l. So s.shape (Stay (at.RaiseCount (Enter e))) (record s { load = Some load }) (HandBack (Enter e)) (record t { load = Some l })) c.in-Err-default-Scoped.ensures.back c.in-Err-default-Scoped.ensures.path)
