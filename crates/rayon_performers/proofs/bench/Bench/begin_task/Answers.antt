use Rattle.std.proofs.Common.{◌≡◌, None, Some, subst, sym}
use Rattle.rayon_machine_places.specs.declared.place.Move.TheVariants.{Stay}
use Rattle.rayon_machine_places.specs.declared.place.Place.TheVariants as at
use Rattle.rayon_machine_places.specs.declared.place.Taken.{Taken}
use Rattle.rayon_machine_places.specs.declared.place.Taken.TheVariants.{Plain, Token}
use Rattle.rayon_performers.specs.Begins.{begins_as}
use Rattle.rayon_performers.specs.Hands.{HasTask}
use Rattle.rayon_performers.proofs.Begins.{begun}
use Rattle.rayon_performers.proofs.Stretches.{So}
use Rattle.rayon_performers.proofs.bench.Bench.begin_task.Goals as goal
use Rattle.rayon_performers.proofs.bench.Bench.begin_task.Goals.{in-Plain, in-Token}

pub returns-clause-path : goal.returns-clause-path
returns-clause-path g c =
    let s = c.args.self.now in
    let k = c.args.task in
    let v = c.take_task.new.self in
    let r = c.take_task.result in
    elim c.match-task.branch [
      | in-Plain w ↦
          let t = w.begin.new.self in
          let n = Plain w.in-Plain.name in
          let given = subst (λ z. r ≡ z.task) w.self-is c.take_task.ensures.given in
          let left = subst (λ z. v ≡ record z { task = None }) w.self-is c.take_task.ensures.left in
          let has = subst (λ (z : Taken). HasTask s.task (Some z)) w.in-Plain.is c.requires in
          subst (λ (z : Taken). So s.shape s.index (Stay (at.BeginTask z)) s (begins_as z r) (record v { task = r })) (sym w.in-Plain.is) (begun s.shape s.index s t v n w.begin.result r given left has w.begin.ensures.does w.begin.ensures.adds)
      | in-Token w ↦
          let t = w.redeem.new.self in
          let n = Token w.in-Token.number w.in-Token.worker w.in-Token.scope in
          let given = subst (λ z. r ≡ z.task) w.self-is c.take_task.ensures.given in
          let left = subst (λ z. v ≡ record z { task = None }) w.self-is c.take_task.ensures.left in
          let has = subst (λ (z : Taken). HasTask s.task (Some z)) w.in-Token.is c.requires in
          subst (λ (z : Taken). So s.shape s.index (Stay (at.BeginTask z)) s (begins_as z r) (record v { task = r })) (sym w.in-Token.is) (begun s.shape s.index s t v n w.redeem.result r given left has w.redeem.ensures.does w.redeem.ensures.adds)
    ]
