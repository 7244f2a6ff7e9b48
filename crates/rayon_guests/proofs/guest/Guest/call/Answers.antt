use Rattle.std.proofs.Common.{Some, sym, subst, ◌∙◌}
use Rattle.rayon_machine_places.specs.declared.place.Move.TheVariants.{Stay, Back, HandBack}
use Rattle.rayon_machine_places.specs.declared.place.Place.TheVariants as at
use Rattle.rayon_guests.proofs.Visits.{So, answered, returned}
use Rattle.rayon_guests.proofs.guest.Guest.call.Goals as goal

pub returns-in-Back-clause-path : goal.returns-in-Back-clause-path
returns-in-Back-clause-path g c =
    let m = Stay (at.RaiseCount c.args.plan) in
    let s = record c.args.self.now { load = Some c.args.load } in
    let from = subst (λ v. So v.shape m (record v { load = Some c.args.load }) Back c.drive.new.self) c.self.view_is c.in-Back.ensures.path in
    let to = subst (λ v. So s.shape m s Back v) (sym c.self-2.view_is) from in
    answered s.shape m s _ c.take.result c.take-in-Back.result c.take.ensures.value c.take-in-Back.ensures.value to

pub returns-in-Some-clause-path : goal.returns-in-Some-clause-path
returns-in-Some-clause-path g c =
    let m = Stay (at.RaiseCount c.args.plan) in
    let s = record c.args.self.now { load = Some c.args.load } in
    let n = c.in-HandBack.field-0 in
    let from = subst (λ v. So v.shape m (record v { load = Some c.args.load }) (HandBack n) c.drive.new.self) c.self.view_is c.in-HandBack.ensures.path in
    let to = subst (λ v. So s.shape m s (HandBack n) v) (sym c.self-2.view_is) from in
    returned s.shape m s _ n c.args.plan (Some c.in-Some.load) c.in-HandBack.ensures.ends.0.0 (sym c.in-Some.is ∙ c.take-in-HandBack.ensures.value) to
