use Rattle.std.proofs.Common.{inr, refl, subst}
use Rattle.rayon_machine_places.specs.declared.place.Count.TheVariants.{OfScope}
use Rattle.rayon_machine_places.specs.declared.place.Feeding.{Feeding}
use Rattle.rayon_machine_places.specs.declared.place.Move.TheVariants.{Stay, Back, HandBack}
use Rattle.rayon_machine_places.specs.declared.place.Place.TheVariants as at
use Rattle.rayon_machine_places.specs.declared.place.Plan.TheVariants.{Detach, Feed}
use Rattle.rayon_machine_places.specs.declared.place.Share.TheVariants.{OfJob}
use Rattle.rayon_machine_places.specs.declared.place.Then.TheVariants.{GiveBack}
use Rattle.rayon_machine_places.specs.Places.{undo}
use Rattle.rayon_machine_places.specs.declared.act.Seen.TheVariants.{Done, Refused}
use Rattle.rayon_performers.specs.Scopes.{into}
use Rattle.rayon_performers.proofs.Stretches.{So, first_act}
use Rattle.rayon_performers.proofs.Drives.{then_goes}
use Rattle.rayon_performers.proofs.bench.Bench.enter_list.Goals as goal

pub returns-in-Err-raise_scope-clause-path : goal.returns-in-Err-raise_scope-clause-path
returns-in-Err-raise_scope-clause-path g c =
    let s = c.args.self.now in
    let t = c.raise_scope.new.self in
    inr (first_act s.shape s.index (Stay (at.RaiseCount (Feed (into c.args.entry c.args.token)))) s t Refused refl c.in-Err-raise_scope.ensures.does c.in-Err-raise_scope.ensures.adds)

pub returns-in-Ok-number_and_list-clause-path : goal.returns-in-Ok-number_and_list-clause-path
returns-in-Ok-number_and_list-clause-path g c =
    let s = c.args.self.now in
    let h = s.shape in
    let i = s.index in
    let e = c.args.entry in
    let k = c.args.token in
    let t = c.raise_scope.new.self in
    let u = c.number_and_list.new.self in
    let v = c.tell_pushed.new.self in
    let first = Stay (at.RaiseCount (Feed (into e k))) in
    let numbers = Stay (at.OpenSlot (Feed (into e k))) in
    let tells = Stay (at.TellNews (Detach 0 k) c.in-Ok-number_and_list.was_empty) in
    then_goes first tells Back s u v
    (then_goes first numbers tells s t u (first_act s.shape s.index first s t Done refl c.in_default.ensures.does c.in_default.ensures.adds) c.in-Ok-number_and_list.ensures.path)
    c.tell_pushed.ensures.path

pub returns-in-Err-number_and_list-clause-path : goal.returns-in-Err-number_and_list-clause-path
returns-in-Err-number_and_list-clause-path g c =
    let s = c.args.self.now in
    let h = s.shape in
    let i = s.index in
    let e = c.args.entry in
    let k = c.args.token in
    let t = c.raise_scope.new.self in
    let u = c.number_and_list.new.self in
    let v = c.lower_scope_then.new.self in
    let first = Stay (at.RaiseCount (Feed (into e k))) in
    let numbers = Stay (at.OpenSlot (Feed (into e k))) in
    let undone = Stay (undo (Feed (into e k))) in
    let back = HandBack (Feed (into e k)) in
    let lowers = subst (λ (f : Feeding). So u.shape u.index (Stay (at.LowerCount (OfScope e.call e.owner) (OfJob e.job) (GiveBack (Feed f)))) u (HandBack (Feed f)) v) c.feeding_into.ensures c.lower_scope_then.ensures.path in
    inr (then_goes first undone back s u v
    (then_goes first numbers undone s t u (first_act s.shape s.index first s t Done refl c.in_default.ensures.does c.in_default.ensures.adds) c.in-Err-number_and_list.ensures.path)
    lowers)
