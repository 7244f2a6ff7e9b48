use Rattle.std.proofs.Common.{refl}
use Rattle.rayon_machine_places.specs.declared.place.Move.TheVariants.{Stay}
use Rattle.rayon_machine_places.specs.declared.place.Place.TheVariants as at
use Rattle.rayon_machine_places.specs.declared.act.Seen.TheVariants.{Task}
use Rattle.rayon_performers.proofs.Finds.{given, local_missed, local_took, missed_unmoved, missed_same, missed_left, none_left, not_popped, piece_left, piece_same, piece_unmoved}
use Rattle.rayon_performers.proofs.Stretches.{first_act}
use Rattle.rayon_performers.proofs.bench.Bench.take_local.Goals as goal

pub returns-in-Task-clause-path : goal.returns-in-Task-clause-path
returns-in-Task-clause-path g c =
    let h = c.args.self.now.shape in
    let i = c.args.self.now.index in
    let first = Stay at.LocalPop in
    let s = c.args.self.now in
    let t = c.pop_own.new.self in
    given h i first s t c.take_task.new.self c.in-Task.field-0 c.take_task.result c.take_task.ensures.given c.take_task.ensures.left c.in-Task.ensures.does.1.0
    (first_act h i first s t (Task c.in-Task.field-0) refl c.in-Task.ensures.does c.in-Task.ensures.adds)

pub returns-in-Task-clause-empty : goal.returns-in-Task-clause-empty
returns-in-Task-clause-empty g c = λ e. absurd (none_left c.args.self.now.own c.pop_own.new.self.own c.pop_own.new.self.task c.in-Task.ensures.does.1.1 e)

pub returns-in-Task-take_cast : goal.returns-in-Task-take_cast
returns-in-Task-take_cast g c =
    let h = c.args.self.now.shape in
    let i = c.args.self.now.index in
    let s = c.args.self.now in
    let t = c.pop_own.new.self in
    let u = c.take_cast.new.self in
    let v = c.take_task-in-Task-take_cast.new.self in
    let x = c.pop_own.result in
    let n = c.in-Task-take_cast.field-0 in
    let r = c.take_task-in-Task-take_cast.result in
    let k = c.in_default.not-Task in
    let d = c.pop_own.ensures.does in
    let e = c.in-Task-take_cast.ensures.does in
    let given_is = c.take_task-in-Task-take_cast.ensures.given in
    let f = c.take_task-in-Task-take_cast.ensures.left in
    let unmoved = piece_unmoved s t u v x (Task n) k d e f in
    record {
      path = given h i (Stay at.LocalPop) s u v n r given_is f e.1 (local_took s t u h i x n k d c.pop_own.ensures.adds e c.in-Task-take_cast.ensures.adds);
      popped = not_popped s.own v.own r unmoved;
      empty = λ _. unmoved;
      same = piece_same s t u v x (Task n) k d e f;
      left = piece_left s t u v x n r k d e given_is f;
    }

pub returns : goal.returns
returns g c =
    let s = c.args.self.now in
    let t = c.pop_own.new.self in
    let u = c.take_cast.new.self in
    let x = c.pop_own.result in
    let y = c.take_cast.result in
    let k = c.in_default.not-Task in
    let l = c.in_default-take_cast.not-Task in
    let d = c.pop_own.ensures.does in
    let e = c.take_cast.ensures.does in
    record {
      path = local_missed s t u c.args.self.now.shape c.args.self.now.index x y k l d c.pop_own.ensures.adds e c.take_cast.ensures.adds;
      popped = missed_unmoved s t u x y k d e;
      empty = λ _. missed_unmoved s t u x y k d e;
      same = missed_same s t u x y k d e;
      left = missed_left s t u x y k l d e;
    }
