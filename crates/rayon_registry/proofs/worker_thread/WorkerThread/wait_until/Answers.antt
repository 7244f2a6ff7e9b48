use Rattle.std.proofs.Common.{◌≡◌, true, ap, refl, rules, subst, sym}
use Rattle.rayon_machine_places.specs.declared.place.Move.TheVariants.{Enter, Stay}
use Rattle.rayon_machine_places.specs.declared.place.Party.TheVariants.{Worker}
use Rattle.rayon_machine_places.specs.declared.place.Place.TheVariants as at
use Rattle.rayon_machine_places.specs.declared.place.Target.TheVariants.{Termination}
use Rattle.rayon_machine_places.specs.Places.{fresh}
use Rattle.rayon_drive.specs.Paths.{Traced}
use Rattle.rayon_drive.proofs.Traced.{traced_as}
use Rattle.rayon_registry.specs.Acts.{Worked}
use Rattle.rayon_registry.specs.Pushes.{acts_of, saw_set, index_of, shape_at, units_of}
use Rattle.rayon_performers.proofs.Stretches.{traced}
use Rattle.rayon_registry.proofs.Made.{above, around_task, has_probed, has_seen, last}
use Rattle.rayon_registry.proofs.worker_thread.WorkerThread.wait_until.Goals as goal
use Rattle.rayon_registry.proofs.worker_thread.WorkerThread.wait_until.Goals.{in_default-via-in-Enter+in_default, in_default-via-in_default}

pub loop-preserved : goal.loop-preserved
unfolding acts_of saw_set index_of shape_at units_of
loop-preserved g c =
    let a = c.args.self.now in
    let l = c.loop.self in
    let b = c.self-in-loop.inside.bench in
    let u = c.wait_on.new.self in
    let r = c.wait_on.result in
    let f = c.in-Enter-default-BeginTask.frame in
    let p = c.in-Enter-default-BeginTask.place in
    let first = Stay (at.ProbeWorking (fresh Termination)) in
    let here = subst (λ v. Traced v.shape (Worker 0 v.id.index) first v.acts u.trace r) c.self-in-loop.view_is (traced b.shape b.index first _ _ r c.wait_on.ensures.path) in
    let found = traced_as l.shape a.shape l.id.index a.id.index first l.acts u.trace r (Enter (at.ProbeWorking (fresh Termination)) p) (ap (λ z. z.index) c.loop.invariant.3) c.loop.invariant.5 (above Termination f p r c.in-Enter-default-BeginTask.is c.wait_on.ensures.ends) here in
    let y = c.begin_task-begun.new.self in (
      tt,
      tt,
      search rules,
      search rules,
      search rules,
      search rules,
      λ w n k. c.loop.invariant.6 w n (around_task a.shape a.id.index (at.ProbeWorking (fresh Termination)) c.begin_task-begun.result u y c.in-Enter-default-BeginTask.name p first l.acts u.trace c.run_begun.new.self.acts w n (search rules) (search rules) (search rules) refl (search rules) (search rules) (λ e. refl) found c.begin_task-begun.ensures.path c.run_begun.ensures.path k),
    )

pub returns-in_default-clause-path : goal.returns-in_default-clause-path
unfolding acts_of saw_set index_of shape_at units_of
returns-in_default-clause-path g c =
    let a = c.args.self.now in
    let l = c.loop.self in
    let b = c.self-in-loop.inside.bench in
    let u = c.wait_on.new.self in
    let r = c.wait_on.result in
    let first = Stay (at.ProbeWorking (fresh Termination)) in
    let here = subst (λ v. Traced v.shape (Worker 0 v.id.index) first v.acts u.trace r) c.self-in-loop.view_is (traced b.shape b.index first _ _ r c.wait_on.ensures.path) in
    elim c.in_default.branch [
      | in_default-via-in-Enter+in_default w ↦
          let stopped : r ≡ Stay at.Stopped = search rules in
          let end = traced_as l.shape a.shape l.id.index a.id.index first l.acts u.trace r (Stay at.Stopped) (ap (λ z. z.index) c.loop.invariant.3) c.loop.invariant.5 stopped here in
          subst (λ z. Worked a.shape (Worker 0 a.id.index) first a.acts z.acts (Stay at.Stopped)) (sym w.self-is)
          (c.loop.invariant.6 u.trace (Stay at.Stopped) (last a.shape (Worker 0 a.id.index) first l.acts u.trace (Stay at.Stopped) end))
      | in_default-via-in_default w ↦
          let stopped : r ≡ Stay at.Stopped = search rules in
          let end = traced_as l.shape a.shape l.id.index a.id.index first l.acts u.trace r (Stay at.Stopped) (ap (λ z. z.index) c.loop.invariant.3) c.loop.invariant.5 stopped here in
          subst (λ z. Worked a.shape (Worker 0 a.id.index) first a.acts z.acts (Stay at.Stopped)) (sym w.self-is)
          (c.loop.invariant.6 u.trace (Stay at.Stopped) (last a.shape (Worker 0 a.id.index) first l.acts u.trace (Stay at.Stopped) end))
    ]

pub returns-in_default-clause-set : goal.returns-in_default-clause-set
unfolding acts_of saw_set index_of shape_at units_of
returns-in_default-clause-set g c =
    let u = c.wait_on.new.self in
    let r = c.wait_on.result in
    elim c.in_default.branch [
      | in_default-via-in-Enter+in_default w ↦
          let stopped : r ≡ Stay at.Stopped = search rules in
          subst (λ z. z.probed ≡ true) (sym w.self-is) (has_probed _ r stopped c.wait_on.ensures.stands)
      | in_default-via-in_default w ↦
          let stopped : r ≡ Stay at.Stopped = search rules in
          subst (λ z. z.probed ≡ true) (sym w.self-is) (has_probed _ r stopped c.wait_on.ensures.stands)
    ]

pub returns-in_default-clause-latch : goal.returns-in_default-clause-latch
returns-in_default-clause-latch g c =
    let r = c.wait_on.result in
    elim c.in_default.branch [
      | in_default-via-in-Enter+in_default w ↦
          let stopped : r ≡ Stay at.Stopped = search rules in
          has_seen _ r stopped c.wait_on.ensures.stands
      | in_default-via-in_default w ↦
          let stopped : r ≡ Stay at.Stopped = search rules in
          has_seen _ r stopped c.wait_on.ensures.stands
    ]
