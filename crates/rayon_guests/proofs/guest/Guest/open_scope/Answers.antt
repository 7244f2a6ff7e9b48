use Rattle.std.proofs.Common.{MatchResult, subst, sym}
use Rattle.rayon_machine_places.specs.declared.place.Move.TheVariants.{HandBack, StartRun, Stay}
use Rattle.rayon_machine_places.specs.declared.place.Place.TheVariants as at
use Rattle.rayon_machine_places.specs.declared.place.Plan.TheVariants.{Open}
use Rattle.rayon_guests.specs.Visits.{call_of, opening}
use Rattle.rayon_guests.proofs.Visits.{So, begun, handed}
use Rattle.rayon_guests.proofs.guest.Guest.open_scope.Goals as goal
use Rattle.rayon_guests.proofs.guest.Guest.open_scope.Goals.{in-HandBack, in-StartRun}

pub returns-clause-path : goal.returns-clause-path
returns-clause-path g c =
    let s = c.args.self.now in
    let t = c.drive.new.self in
    let k = c.args.name in
    let o = c.open_call.result in
    let m = Stay (at.RaiseCount (opening k)) in
    let opened = So s.shape m s (StartRun (at.ScopeBody (call_of k)) k) t in
    let refused = So s.shape m s (HandBack (opening k)) t in
    elim c.match-drive.branch [
      | in-StartRun w ↦
          let n = StartRun w.in-StartRun.frame w.in-StartRun.job in
          let d = subst (λ v. So v.shape (Stay (at.RaiseCount (Open o))) v n t) c.self.view_is w.in-StartRun.ensures.path in
          subst (λ r. MatchResult r (λ _. opened) (λ _. refused)) (sym w.result-is) (begun s t o w.in-StartRun.frame w.in-StartRun.job k c.open_call.ensures w.in-StartRun.ensures.ends.0 d)
      | in-HandBack w ↦
          let n = HandBack w.in-HandBack.field-0 in
          let d = subst (λ v. So v.shape (Stay (at.RaiseCount (Open o))) v n t) c.self.view_is w.in-HandBack.ensures.path in
          subst (λ r. MatchResult r (λ _. opened) (λ _. refused)) (sym w.result-is) (handed s t o w.in-HandBack.field-0 k c.open_call.ensures w.in-HandBack.ensures.ends.0.0 d)
    ]
