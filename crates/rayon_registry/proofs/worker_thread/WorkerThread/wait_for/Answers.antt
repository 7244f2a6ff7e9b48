use Rattle.std.proofs.Common.{ap, refl, rules, subst, sym}
use Rattle.rayon_machine_places.specs.declared.place.Move.TheVariants.{Enter, Stay}
use Rattle.rayon_machine_places.specs.declared.place.Party.TheVariants.{Worker}
use Rattle.rayon_machine_places.specs.declared.place.Place.TheVariants as at
use Rattle.rayon_machine_places.specs.Places.{fresh}
use Rattle.rayon_drive.specs.Paths.{Traced}
use Rattle.rayon_drive.proofs.Traced.{traced_as}
use Rattle.rayon_registry.specs.Acts.{Worked, wait_end}
use Rattle.rayon_registry.specs.Pushes.{acts_of, index_of, shape_at, units_of}
use Rattle.rayon_performers.proofs.Stretches.{traced}
use Rattle.rayon_registry.proofs.Made.{above, after_wait, around_task, has_ended, last}
use Rattle.rayon_registry.proofs.worker_thread.WorkerThread.wait_for.Goals as goal
use Rattle.rayon_registry.proofs.worker_thread.WorkerThread.wait_for.Goals.{in_default-via-in-Enter+in_default, in_default-via-in_default}

pub loop-preserved : goal.loop-preserved
unfolding acts_of index_of shape_at units_of
loop-preserved g c =
    let a = c.args.self.now in
    let l = c.loop.self in
    let b = c.self.inside.bench in
    let s = c.set_call.new.self in
    let u = c.wait.new.self in
    let r = c.wait.result in
    let k = c.args.target in
    let p = c.in-Enter-default-BeginTask.place in
    let first = Stay (at.ProbeWorking (fresh k)) in
    let mine = subst (λ z. Traced z.shape (Worker 0 z.index) first z.trace u.trace r) c.set_call.ensures (traced s.shape s.index first s u r c.wait.ensures.path) in
    let here = subst (λ v. Traced v.shape (Worker 0 v.id.index) first v.acts u.trace r) c.self.view_is mine in
    let found = traced_as l.shape a.shape l.id.index a.id.index first l.acts u.trace r (Enter (at.ProbeWorking (fresh k)) p) (ap (λ z. z.index) c.loop.invariant.3) c.loop.invariant.5 (above k c.in-Enter-default-BeginTask.frame p r c.in-Enter-default-BeginTask.is c.wait.ensures.ends) here in
    let t = c.take_call-held.new.self in
    let y = c.begin_task-begun.new.self in (
      tt,
      tt,
      search rules,
      search rules,
      search rules,
      search rules,
      search rules,
      λ w n x. c.loop.invariant.7 w n (around_task a.shape a.id.index (at.ProbeWorking (fresh k)) c.begin_task-begun.result t y c.in-Enter-default-BeginTask.name p first l.acts u.trace c.run_begun.new.self.acts w n (search rules) (search rules) (search rules) (search rules) (search rules) (search rules) (λ e. refl) found c.begin_task-begun.ensures.path c.run_begun.ensures.path x),
    )

pub returns-in_default-clause-path : goal.returns-in_default-clause-path
unfolding acts_of index_of shape_at units_of
returns-in_default-clause-path g c =
    let a = c.args.self.now in
    let l = c.loop.self in
    let b = c.self.inside.bench in
    let s = c.set_call.new.self in
    let u = c.wait.new.self in
    let r = c.wait.result in
    let k = c.args.target in
    let first = Stay (at.ProbeWorking (fresh k)) in
    let mine = subst (λ z. Traced z.shape (Worker 0 z.index) first z.trace u.trace r) c.set_call.ensures (traced s.shape s.index first s u r c.wait.ensures.path) in
    let here = subst (λ v. Traced v.shape (Worker 0 v.id.index) first v.acts u.trace r) c.self.view_is mine in
    elim c.in_default.branch [
      | in_default-via-in-Enter+in_default w ↦
          let ended = has_ended k r c.wait.ensures.ends (λ f n e. search rules) in
          let end = traced_as l.shape a.shape l.id.index a.id.index first l.acts u.trace r (wait_end k) (ap (λ z. z.index) c.loop.invariant.3) c.loop.invariant.5 ended here in
          subst (λ z. Worked a.shape (Worker 0 a.id.index) first a.acts z.trace (wait_end k)) (sym c.take_done.ensures.left)
          (c.loop.invariant.7 u.trace (wait_end k) (last a.shape (Worker 0 a.id.index) first l.acts u.trace (wait_end k) end))
      | in_default-via-in_default w ↦
          let ended = has_ended k r c.wait.ensures.ends (λ f n e. search rules) in
          let end = traced_as l.shape a.shape l.id.index a.id.index first l.acts u.trace r (wait_end k) (ap (λ z. z.index) c.loop.invariant.3) c.loop.invariant.5 ended here in
          subst (λ z. Worked a.shape (Worker 0 a.id.index) first a.acts z.trace (wait_end k)) (sym c.take_done.ensures.left)
          (c.loop.invariant.7 u.trace (wait_end k) (last a.shape (Worker 0 a.id.index) first l.acts u.trace (wait_end k) end))
    ]

pub returns-in_default-clause-after : goal.returns-in_default-clause-after
unfolding acts_of index_of shape_at units_of
returns-in_default-clause-after g c =
    let r = c.wait.result in
    let k = c.args.target in
    elim c.in_default.branch [
      | in_default-via-in-Enter+in_default w ↦
          let ended = has_ended k r c.wait.ensures.ends (λ f n e. search rules) in
          after_wait k r c.args.self.now _ ended (search rules) (search rules) (search rules) (search rules)
      | in_default-via-in_default w ↦
          let ended = has_ended k r c.wait.ensures.ends (λ f n e. search rules) in
          after_wait k r c.args.self.now _ ended (search rules) (search rules) (search rules) (search rules)
    ]
