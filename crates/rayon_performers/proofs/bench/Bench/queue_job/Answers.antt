use Rattle.std.proofs.Common.{refl, rules, subst, sym, ℕ, ◌+◌, ◌==◌, ◌≡◌}
use Rattle.rayon_atomics.specs.declared.views.Teller.{Teller}
use Rattle.rayon_machine_places.specs.declared.place.Move.TheVariants.{Stay, Back, HandBack}
use Rattle.rayon_machine_places.specs.declared.place.Place.TheVariants as at
use Rattle.rayon_machine_places.specs.declared.place.Plan.TheVariants.{Detach}
use Rattle.rayon_machine_places.specs.Places.{undo}
use Rattle.rayon_machine_places.specs.declared.act.Seen.TheVariants.{Done, Refused}
use Rattle.rayon_shared.specs.Marks.{TakesUnit}
use Rattle.rayon_performers.proofs.Recounts.{gave_back_at, missed_none}
use Rattle.rayon_performers.proofs.Stretches.{So, first_act}
use Rattle.rayon_performers.proofs.Drives.{then_goes}
use Rattle.rayon_performers.proofs.bench.Bench.queue_job.Goals as goal

pub returns-in-Err-clause-path : goal.returns-in-Err-clause-path
returns-in-Err-clause-path g c = first_act c.args.self.now.shape c.args.self.now.index (Stay (at.RaiseCount (Detach 0 c.args.name))) c.args.self.now c.raise.new.self Refused refl c.in-Err.ensures.does c.in-Err.ensures.adds

pub returns-in-Err-clause-unit : goal.returns-in-Err-clause-unit
returns-in-Err-clause-unit g c = missed_none (c.args.self.now.holds == 0) c.args.self.now.marks.count c.raise.new.self.marks.count c.in-Err.ensures.does.1

pub returns-in-Ok-clause-path : goal.returns-in-Ok-clause-path
returns-in-Ok-clause-path g c =
    let a = c.args.self.now in
    let n = c.args.name in
    let u = c.raise.new.self in
    let w = c.push.new.self in
    let first = Stay (at.RaiseCount (Detach 0 n)) in
    let queues = Stay (at.LookQueue (Detach 0 n)) in
    let pushed = subst (λ (m : ℕ). So u.shape u.index (Stay (at.LookQueue (Detach 0 m))) u Back w) c.requires.name c.in-Ok.ensures.path in
    then_goes first queues Back a u w (first_act a.shape a.index first a u Done refl c.in_default.ensures.does c.in_default.ensures.adds) pushed

pub returns-in-Err-push-clause-path : goal.returns-in-Err-push-clause-path
returns-in-Err-push-clause-path g c =
    let a = c.args.self.now in
    let n = c.args.name in
    let u = c.raise.new.self in
    let w = c.push.new.self in
    let x = c.lower_then.new.self in
    let first = Stay (at.RaiseCount (Detach 0 n)) in
    let queues = Stay (at.LookQueue (Detach 0 n)) in
    let undone = Stay (undo (Detach 0 n)) in
    let back = HandBack (Detach 0 n) in
    let pushed = subst (λ (m : ℕ). So u.shape u.index (Stay (at.LookQueue (Detach 0 m))) u (Stay (undo (Detach 0 m))) w) c.requires.name c.in-Err-push.ensures.path in
    then_goes first undone back a w x
    (then_goes first queues undone a u w (first_act a.shape a.index first a u Done refl c.in_default.ensures.does c.in_default.ensures.adds) pushed)
    c.lower_then.ensures.path

pub returns-in-Ok-clause-unit : goal.returns-in-Ok-clause-unit
returns-in-Ok-clause-unit g c =
    let a = c.args.self.now in
    subst (λ (q : Teller). TakesUnit (a.holds == 0) a.marks.count q) (sym c.push.ensures.count) c.in_default.ensures.does.1

pub returns-in-Err-push-clause-unit : goal.returns-in-Err-push-clause-unit
returns-in-Err-push-clause-unit g c =
    let a = c.args.self.now in
    let u = c.raise.new.self in
    let w = c.push.new.self in
    let held : w.holds ≡ a.holds + 1 = search rules in
    gave_back_at a u w c.lower_then.new.self.marks.count c.in_default.ensures.does.1 held c.push.ensures.count c.lower_then.ensures.unit
