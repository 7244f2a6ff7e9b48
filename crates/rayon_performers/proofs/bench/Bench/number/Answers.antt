use Rattle.std.proofs.Common.{refl}
use Rattle.rayon_machine_places.specs.declared.place.Move.TheVariants.{Stay}
use Rattle.rayon_machine_places.specs.declared.place.Place.TheVariants as at
use Rattle.rayon_machine_places.specs.declared.act.Seen.TheVariants.{Done, Refused}
use Rattle.rayon_performers.specs.Scopes.{entering}
use Rattle.rayon_performers.proofs.Scopes.{entered_looked}
use Rattle.rayon_performers.proofs.Stretches.{by_act, first_act}
use Rattle.rayon_performers.proofs.bench.Bench.number.Goals as goal

pub returns-in-Err-clause-path : goal.returns-in-Err-clause-path
returns-in-Err-clause-path g c =
    let s = c.args.self.now in
    first_act s.shape s.index (Stay (at.OpenSlot (entering c.args.call c.args.owner c.args.name))) s c.add.new.self Refused refl (c.add.ensures.same, tt) c.add.ensures.adds

pub returns-in_default-clause-path : goal.returns-in_default-clause-path
returns-in_default-clause-path g c =
    let s = c.args.self.now in
    let h = s.shape in
    let i = s.index in
    let q = c.args.owner in
    let k = c.args.call in
    let n = c.args.name in
    let a = c.add-2.new.self in
    let t = c.look_own-was_empty.new.self in
    let u = c.push_own.new.self in
    let z = c.look_own-was_empty.result in
    let first = Stay (at.OpenSlot (entering k q n)) in
    let looked = entered_looked h i k q n s a t first z (first_act h i first s a Done refl (c.add-2.ensures.same, tt) c.add-2.ensures.adds) c.look_own-was_empty.ensures.does c.look_own-was_empty.ensures.adds in
    by_act h i first s (Stay (at.PushJob (entering k q n) z)) t u Done refl looked (c.in_default.ensures.same.1, (c.task_of_job-task.result, c.in_default.ensures.pushed.0, c.in_default.ensures.same.0)) c.in_default.ensures.pushed.1

pub returns-clause-path : goal.returns-clause-path
returns-clause-path g c =
    let s = c.args.self.now in
    let h = s.shape in
    let i = s.index in
    let q = c.args.owner in
    let k = c.args.call in
    let n = c.args.name in
    let a = c.add-2.new.self in
    let t = c.look_own-was_empty.new.self in
    let u = c.push_own.new.self in
    let v = c.add-3.new.self in
    let z = c.look_own-was_empty.result in
    let first = Stay (at.OpenSlot (entering k q n)) in
    let looked = entered_looked h i k q n s a t first z (first_act h i first s a Done refl (c.add-2.ensures.same, tt) c.add-2.ensures.adds) c.look_own-was_empty.ensures.does c.look_own-was_empty.ensures.adds in
    let refused = by_act h i first s (Stay (at.PushJob (entering k q n) z)) t u Refused refl looked (c.in-Err-push_own.ensures.same.1, (c.in-Err-push_own.ensures.same.0, c.in-Err-push_own.ensures.pushed.1)) c.in-Err-push_own.ensures.pushed.2 in
    by_act h i first s (Stay (at.CloseSlot (entering k q n))) u v Done refl refused (c.add-3.ensures.same, tt) c.add-3.ensures.adds
