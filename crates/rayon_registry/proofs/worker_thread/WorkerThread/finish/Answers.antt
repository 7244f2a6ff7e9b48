use Rattle.std.proofs.Common.{◌≡◌, ℕ, None, refl, rules, subst, sym, ◌∙◌}
use Rattle.rayon_machine_places.specs.declared.place.Move.{Move}
use Rattle.rayon_machine_places.specs.declared.place.Move.TheVariants.{Back, Stay}
use Rattle.rayon_machine_places.specs.declared.place.Party.TheVariants.{Worker}
use Rattle.rayon_machine_places.specs.declared.place.Place.TheVariants as at
use Rattle.rayon_machine_places.specs.declared.place.Target.TheVariants.{Answer}
use Rattle.rayon_machine_places.specs.Places.{fresh}
use Rattle.rayon_drive.specs.declared.trace.Log.{Log}
use Rattle.rayon_drive.specs.Paths.{Traced}
use Rattle.rayon_performers.specs.Calls.{own_call}
use Rattle.rayon_performers.proofs.Stretches.{traced}
use Rattle.rayon_registry.specs.Acts.{Worked}
use Rattle.rayon_registry.specs.Pushes.{acts_of, index_of, shape_at, units_of}
use Rattle.rayon_registry.proofs.Made.{above, around_task, has_ended, last, worked_as}
use Rattle.rayon_registry.proofs.worker_thread.WorkerThread.finish.Goals as goal
use Rattle.rayon_registry.proofs.worker_thread.WorkerThread.finish.Goals.{in_default-via-in-Enter+in_default, in_default-via-in_default}

pub returns-in-Enter-default-BeginTask-clause-path : goal.returns-in-Enter-default-BeginTask-clause-path
unfolding acts_of index_of shape_at units_of
returns-in-Enter-default-BeginTask-clause-path g c =
    let a = c.args.self.now in
    let s = c.set_scope.new.self in
    let u = c.end_body.new.self in
    let r = c.end_body.result in
    let o = own_call c.number-name.result in
    let k = Answer o None in
    let p = c.in-Enter-default-BeginTask.place in
    let first = Stay (at.StoreBody o c.args.ending) in
    let wait = at.ProbeWorking (fresh k) in
    let mine = subst (λ z. Traced z.shape (Worker 0 z.index) first z.trace u.trace r) c.set_call.ensures (subst (λ z. Traced z.shape (Worker 0 z.index) first z.trace u.trace r) c.set_scope.ensures (traced s.shape s.index first s u r c.end_body.ensures.path)) in
    let here = subst (λ v. Traced v.shape (Worker 0 v.id.index) first v.acts u.trace r) c.self.view_is mine in
    let found = subst (λ (m : Move). Traced a.shape (Worker 0 a.id.index) first a.acts u.trace m) (above k c.in-Enter-default-BeginTask.frame p r c.in-Enter-default-BeginTask.is c.end_body.ensures.ends) here in
    let t = c.take_call-held.new.self in
    let y = c.begin_task-begun.new.self in
    let x = c.run_begun.new.self in
    let w = c.wait_for-done.new.self in
    let index : x.id.index ≡ a.id.index = search rules in
    let shape : x.shape ≡ a.shape = search rules in
    let all = around_task a.shape a.id.index wait c.begin_task-begun.result t y c.in-Enter-default-BeginTask.name p first a.acts u.trace x.acts w.acts Back (search rules) (search rules) (search rules) (search rules) (search rules) (search rules) (λ e. refl) found c.begin_task-begun.ensures.path c.run_begun.ensures.path (worked_as x.shape a.shape x.id.index a.id.index (Stay wait) x.acts w.acts Back index shape c.wait_for-done.ensures.path) in
    let left = subst (λ z. Worked a.shape (Worker 0 a.id.index) first a.acts z.acts Back) (sym c.outcome.ensures.same) all in
    subst (λ (n : ℕ). Worked a.shape (Worker 0 a.id.index) (Stay (at.StoreBody (own_call n) c.args.ending)) a.acts c.outcome.new.self.acts Back) (c.number-name.ensures ∙ c.opening.view_is) left

pub returns-in_default-clause-path : goal.returns-in_default-clause-path
unfolding acts_of index_of shape_at units_of
returns-in_default-clause-path g c =
    let a = c.args.self.now in
    let s = c.set_scope.new.self in
    let u = c.end_body.new.self in
    let r = c.end_body.result in
    let o = own_call c.number-name.result in
    let k = Answer o None in
    let first = Stay (at.StoreBody o c.args.ending) in
    let mine = subst (λ z. Traced z.shape (Worker 0 z.index) first z.trace u.trace r) c.set_call.ensures (subst (λ z. Traced z.shape (Worker 0 z.index) first z.trace u.trace r) c.set_scope.ensures (traced s.shape s.index first s u r c.end_body.ensures.path)) in
    let here = subst (λ v. Traced v.shape (Worker 0 v.id.index) first v.acts u.trace r) c.self.view_is mine in
    elim c.in_default.branch [
      | in_default-via-in-Enter+in_default w ↦
          let ended = has_ended k r c.end_body.ensures.ends (λ f n e. search rules) in
          let all = last a.shape (Worker 0 a.id.index) first a.acts u.trace Back (subst (λ (m : Move). Traced a.shape (Worker 0 a.id.index) first a.acts u.trace m) ended here) in
          let same : c.outcome-in_default.new.self.acts ≡ u.trace = search rules in
          let left = subst (λ (l : Log). Worked a.shape (Worker 0 a.id.index) first a.acts l Back) (sym same) all in
          subst (λ (n : ℕ). Worked a.shape (Worker 0 a.id.index) (Stay (at.StoreBody (own_call n) c.args.ending)) a.acts c.outcome-in_default.new.self.acts Back) (c.number-name.ensures ∙ c.opening.view_is) left
      | in_default-via-in_default w ↦
          let ended = has_ended k r c.end_body.ensures.ends (λ f n e. search rules) in
          let all = last a.shape (Worker 0 a.id.index) first a.acts u.trace Back (subst (λ (m : Move). Traced a.shape (Worker 0 a.id.index) first a.acts u.trace m) ended here) in
          let same : c.outcome-in_default.new.self.acts ≡ u.trace = search rules in
          let left = subst (λ (l : Log). Worked a.shape (Worker 0 a.id.index) first a.acts l Back) (sym same) all in
          subst (λ (n : ℕ). Worked a.shape (Worker 0 a.id.index) (Stay (at.StoreBody (own_call n) c.args.ending)) a.acts c.outcome-in_default.new.self.acts Back) (c.number-name.ensures ∙ c.opening.view_is) left
    ]
