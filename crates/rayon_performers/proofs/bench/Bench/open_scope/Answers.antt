use Rattle.std.proofs.Common.{refl, rules, ◌+◌, ◌==◌, ◌≡◌}
use Rattle.rayon_machine_places.specs.declared.place.Move.TheVariants.{Stay, HandBack}
use Rattle.rayon_machine_places.specs.declared.place.Place.TheVariants as at
use Rattle.rayon_machine_places.specs.declared.place.Plan.TheVariants.{Open}
use Rattle.rayon_machine_places.specs.Places.{undo}
use Rattle.rayon_machine_places.specs.declared.act.Seen.TheVariants.{Done, Refused}
use Rattle.rayon_performers.specs.Calls.{own_call}
use Rattle.rayon_performers.proofs.Recounts.{gave_back_at, missed_none}
use Rattle.rayon_performers.proofs.Stretches.{by_act, first_act}
use Rattle.rayon_performers.proofs.Drives.{then_goes}
use Rattle.rayon_performers.proofs.bench.Bench.open_scope.Goals as goal

pub returns-in-Err-clause-path : goal.returns-in-Err-clause-path
returns-in-Err-clause-path g c =
    let s = c.args.self.now in
    let t = c.raise.new.self in
    first_act s.shape s.index (Stay (at.RaiseCount (Open (own_call c.args.name)))) s t Refused refl c.in-Err.ensures.does c.in-Err.ensures.adds

pub returns-in-Err-clause-unit : goal.returns-in-Err-clause-unit
returns-in-Err-clause-unit g c = missed_none (c.args.self.now.holds == 0) c.args.self.now.marks.count c.raise.new.self.marks.count c.in-Err.ensures.does.1

pub returns-in-Ok-clause-path : goal.returns-in-Ok-clause-path
returns-in-Ok-clause-path g c =
    let s = c.args.self.now in
    let t = c.raise.new.self in
    let u = c.add.new.self in
    let n = c.args.name in
    let first = Stay (at.RaiseCount (Open (own_call n))) in
    let raised = first_act s.shape s.index first s t Done refl c.in_default.ensures.does c.in_default.ensures.adds in
    by_act s.shape s.index first s (Stay (at.GrowScope (own_call n))) t u Done refl raised (c.add.ensures.same, tt) c.add.ensures.adds

pub returns-in-Err-grow_scope-clause-path : goal.returns-in-Err-grow_scope-clause-path
returns-in-Err-grow_scope-clause-path g c =
    let s = c.args.self.now in
    let h = s.shape in
    let i = s.index in
    let t = c.raise.new.self in
    let u = c.add-in-Err-grow_scope.new.self in
    let v = c.lower_then.new.self in
    let n = c.args.name in
    let first = Stay (at.RaiseCount (Open (own_call n))) in
    let undone = Stay (undo (Open (own_call n))) in
    let back = HandBack (Open (own_call n)) in
    then_goes first undone back s u v
    (by_act h i first s (Stay (at.GrowScope (own_call n))) t u Refused refl (first_act h i first s t Done refl c.in_default.ensures.does c.in_default.ensures.adds) (c.add-in-Err-grow_scope.ensures.same, tt) c.add-in-Err-grow_scope.ensures.adds)
    c.lower_then.ensures.path

pub returns-in-Err-grow_scope-clause-unit : goal.returns-in-Err-grow_scope-clause-unit
returns-in-Err-grow_scope-clause-unit g c =
    let s = c.args.self.now in
    let t = c.raise.new.self in
    let u = c.add-in-Err-grow_scope.new.self in
    let held : u.holds ≡ s.holds + 1 = search rules in
    let counted : u.marks.count ≡ t.marks.count = search rules in
    gave_back_at s t u c.lower_then.new.self.marks.count c.in_default.ensures.does.1 held counted c.lower_then.ensures.unit
