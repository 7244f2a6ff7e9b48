use Rattle.std.proofs.Common.{◌≡◌, ℕ, None, refl, rules, subst, sym}
use Rattle.rayon_machine_places.specs.Places.{fresh, gather_all}
use Rattle.rayon_machine_places.specs.declared.place.Mark.TheVariants.{Dealt}
use Rattle.rayon_machine_places.specs.declared.place.Move.{Move}
use Rattle.rayon_machine_places.specs.declared.place.Move.TheVariants.{Back, Mark, Stay}
use Rattle.rayon_machine_places.specs.declared.place.Party.TheVariants.{Worker}
use Rattle.rayon_machine_places.specs.declared.place.Place.TheVariants as at
use Rattle.rayon_machine_places.specs.declared.place.Target.TheVariants.{Answer}
use Rattle.rayon_drive.specs.declared.trace.Log.{Log}
use Rattle.rayon_drive.specs.Paths.{Traced}
use Rattle.rayon_performers.specs.Calls.{own_call}
use Rattle.rayon_performers.proofs.Stretches.{traced}
use Rattle.rayon_registry.specs.Acts.{GatherLeft}
use Rattle.rayon_registry.specs.Pushes.{acts_of, index_of, shape_at, units_of}
use Rattle.rayon_registry.proofs.Made.{above, around_task, has_ended, last, worked_as}
use Rattle.rayon_registry.proofs.worker_thread.WorkerThread.gather.Goals as goal
use Rattle.rayon_registry.proofs.worker_thread.WorkerThread.gather.Goals.{in_default-via-in-Enter+in_default, in_default-via-in_default}

pub returns-in-Enter-default-BeginTask-clause-path : goal.returns-in-Enter-default-BeginTask-clause-path
unfolding acts_of index_of shape_at units_of
returns-in-Enter-default-BeginTask-clause-path g c =
    let a = c.args.self.now in
    let s = c.set_call.new.self in
    let u = c.call_pieces.new.self in
    let r = c.call_pieces.result in
    let o = own_call c.number-name.result in
    let k = Answer o None in
    let p = c.in-Enter-default-BeginTask.place in
    let wait = at.ProbeWorking (fresh k) in
    let t = c.take_call-held.new.self in
    let y = c.begin_task-begun.new.self in
    let x = c.run_begun.new.self in
    let w = c.wait_for-done.new.self in
    let index : x.id.index ≡ a.id.index = search rules in
    let shape : x.shape ≡ a.shape = search rules in
    let all : GatherLeft a.shape a.id.index c.number-name.result a.acts w.acts = λ q.
    let mine = subst (λ z. Traced z.shape (Worker 0 z.index) (Mark (gather_all z.shape o) q Dealt) z.trace u.trace r) c.set_call.ensures (traced s.shape s.index (Mark (gather_all s.shape o) q Dealt) s u r (c.call_pieces.ensures.path q)) in
    let here = subst (λ v. Traced v.shape (Worker 0 v.id.index) (Mark (gather_all v.shape o) q Dealt) v.acts u.trace r) c.self.view_is mine in
    let found = subst (λ (m : Move). Traced a.shape (Worker 0 a.id.index) (Mark (gather_all a.shape o) q Dealt) a.acts u.trace m) (above k c.in-Enter-default-BeginTask.frame p r c.in-Enter-default-BeginTask.is c.call_pieces.ensures.ends) here in
    around_task a.shape a.id.index wait c.begin_task-begun.result t y c.in-Enter-default-BeginTask.name p (Mark (gather_all a.shape o) q Dealt) a.acts u.trace x.acts w.acts Back (search rules) (search rules) (search rules) (search rules) (search rules) (search rules) (λ e. refl) found c.begin_task-begun.ensures.path c.run_begun.ensures.path (worked_as x.shape a.shape x.id.index a.id.index (Stay wait) x.acts w.acts Back index shape c.wait_for-done.ensures.path) in
    let left = subst (λ z. GatherLeft a.shape a.id.index c.number-name.result a.acts z.acts) (sym c.outcome.ensures.same) all in
    subst (λ (n : ℕ). GatherLeft a.shape a.id.index n a.acts c.outcome.new.self.acts) c.number-name.ensures left

pub returns-in_default-clause-path : goal.returns-in_default-clause-path
unfolding acts_of index_of shape_at units_of
returns-in_default-clause-path g c =
    let a = c.args.self.now in
    let s = c.set_call.new.self in
    let u = c.call_pieces.new.self in
    let r = c.call_pieces.result in
    let o = own_call c.number-name.result in
    let k = Answer o None in
    let ended : r ≡ Back = elim c.in_default.branch [
      | in_default-via-in-Enter+in_default w ↦ has_ended k r c.call_pieces.ensures.ends (λ f n e. search rules)
      | in_default-via-in_default w ↦ has_ended k r c.call_pieces.ensures.ends (λ f n e. search rules)
    ] in
    let all : GatherLeft a.shape a.id.index c.number-name.result a.acts u.trace = λ q.
    let mine = subst (λ z. Traced z.shape (Worker 0 z.index) (Mark (gather_all z.shape o) q Dealt) z.trace u.trace r) c.set_call.ensures (traced s.shape s.index (Mark (gather_all s.shape o) q Dealt) s u r (c.call_pieces.ensures.path q)) in
    let here = subst (λ v. Traced v.shape (Worker 0 v.id.index) (Mark (gather_all v.shape o) q Dealt) v.acts u.trace r) c.self.view_is mine in
    last a.shape (Worker 0 a.id.index) (Mark (gather_all a.shape o) q Dealt) a.acts u.trace Back (subst (λ (m : Move). Traced a.shape (Worker 0 a.id.index) (Mark (gather_all a.shape o) q Dealt) a.acts u.trace m) ended here) in
    let same : c.outcome-in_default.new.self.acts ≡ u.trace = search rules in
    let left = subst (λ (l : Log). GatherLeft a.shape a.id.index c.number-name.result a.acts l) (sym same) all in
    subst (λ (n : ℕ). GatherLeft a.shape a.id.index n a.acts c.outcome-in_default.new.self.acts) c.number-name.ensures left
