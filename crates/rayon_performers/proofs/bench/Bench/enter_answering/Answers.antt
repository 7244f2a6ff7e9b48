use Rattle.std.proofs.Common.{inr, refl, subst}
use Rattle.rayon_machine_places.specs.declared.place.Count.TheVariants.{OfScope}
use Rattle.rayon_machine_places.specs.declared.place.Entry.{Entry}
use Rattle.rayon_machine_places.specs.declared.place.Move.TheVariants.{Stay, Back, HandBack}
use Rattle.rayon_machine_places.specs.declared.place.Place.TheVariants as at
use Rattle.rayon_machine_places.specs.declared.place.Plan.TheVariants.{Enter}
use Rattle.rayon_machine_places.specs.declared.place.Share.TheVariants.{OfJob}
use Rattle.rayon_machine_places.specs.declared.place.Then.TheVariants.{GiveBack}
use Rattle.rayon_machine_places.specs.Places.{undo}
use Rattle.rayon_machine_places.specs.declared.act.Seen.TheVariants.{Done, Refused}
use Rattle.rayon_performers.specs.Scopes.{entering}
use Rattle.rayon_performers.proofs.Stretches.{So, first_act}
use Rattle.rayon_performers.proofs.Drives.{then_goes}
use Rattle.rayon_performers.proofs.bench.Bench.enter_answering.Goals as goal

pub returns-in-Err-raise_scope-clause-path : goal.returns-in-Err-raise_scope-clause-path
returns-in-Err-raise_scope-clause-path g c =
    let s = c.args.self.now in
    let t = c.raise_scope.new.self in
    inr (first_act s.shape s.index (Stay (at.RaiseCount (entering c.args.call c.args.owner c.args.name))) s t Refused refl c.in-Err-raise_scope.ensures.does c.in-Err-raise_scope.ensures.adds)

pub returns-in-Ok-numbered-clause-path : goal.returns-in-Ok-numbered-clause-path
returns-in-Ok-numbered-clause-path g c =
    let s = c.args.self.now in
    let h = s.shape in
    let i = s.index in
    let k = c.args.call in
    let q = c.args.owner in
    let n = c.args.name in
    let t = c.raise_scope.new.self in
    let u = c.number-numbered.new.self in
    let v = c.tell_entered.new.self in
    let first = Stay (at.RaiseCount (entering k q n)) in
    let numbers = Stay (at.OpenSlot (entering k q n)) in
    let tells = Stay (at.TellNews (entering k q n) c.in-Ok-numbered.was_empty) in
    then_goes first tells Back s u v
    (then_goes first numbers tells s t u (first_act s.shape s.index first s t Done refl c.in_default.ensures.does c.in_default.ensures.adds) c.in-Ok-numbered.ensures.path)
    c.tell_entered.ensures.path

pub returns-clause-path : goal.returns-clause-path
returns-clause-path g c =
    let s = c.args.self.now in
    let h = s.shape in
    let i = s.index in
    let k = c.args.call in
    let q = c.args.owner in
    let n = c.args.name in
    let t = c.raise_scope.new.self in
    let u = c.number-numbered.new.self in
    let v = c.lower_scope_then.new.self in
    let first = Stay (at.RaiseCount (entering k q n)) in
    let numbers = Stay (at.OpenSlot (entering k q n)) in
    let undone = Stay (undo (entering k q n)) in
    let back = HandBack (entering k q n) in
    let lowers = subst (λ (e : Entry). So u.shape u.index (Stay (at.LowerCount (OfScope k q) (OfJob n) (GiveBack (Enter e)))) u (HandBack (Enter e)) v) c.entry_of.ensures c.lower_scope_then.ensures.path in
    inr (then_goes first undone back s u v
    (then_goes first numbers undone s t u (first_act s.shape s.index first s t Done refl c.in_default.ensures.does c.in_default.ensures.adds) c.in-Err-numbered.ensures.path)
    lowers)
