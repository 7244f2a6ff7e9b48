use Rattle.std.proofs.Common.{◌≡◌, if◌then◌else◌, Some, refl, rules, subst, sym}
use Rattle.rayon_machine_places.specs.declared.place.Ending.TheVariants.{Fine}
use Rattle.rayon_machine_places.specs.declared.place.Move.TheVariants.{Back, Enter, Stay}
use Rattle.rayon_machine_places.specs.declared.place.Party.TheVariants.{Worker}
use Rattle.rayon_machine_places.specs.declared.place.Place.TheVariants as at
use Rattle.rayon_machine_places.specs.declared.place.Target.TheVariants.{Answer}
use Rattle.rayon_machine_places.specs.Places.{fresh}
use Rattle.rayon_drive.specs.Paths.{Traced}
use Rattle.rayon_registry.specs.Acts.{Worked}
use Rattle.rayon_registry.specs.Pushes.{acts_of, index_of, shape_at, units_of}
use Rattle.rayon_performers.specs.Waits.{holding, rejoins}
use Rattle.rayon_performers.proofs.Stretches.{traced}
use Rattle.rayon_registry.proofs.Made.{around_task, last, lowered_as, runs_second, stays, worked_as}
use Rattle.rayon_registry.proofs.worker_thread.WorkerThread.second_side.Goals as goal

pub returns-in-Ok-clause-path : goal.returns-in-Ok-clause-path
unfolding acts_of index_of shape_at units_of
returns-in-Ok-clause-path g c =
    let a = c.args.self.now in
    let s = holding c.args.held.ticket c.args.held.latch c.self.inside.bench in
    let u = c.reclaim.new.self in
    let o = c.args.call in
    let first = Stay (at.JoinProbe o) in
    let n = Enter (at.SecondSide o) (at.BeginHere o.job) in
    let mine = traced s.shape s.index first s (record (holding c.in-Ok.ended.ticket c.in-Ok.ended.latch u) { task = Some c.in-Ok.task }) n c.in-Ok.ensures.path in
    let found = subst (λ v. Traced v.shape (Worker 0 v.id.index) first v.acts u.trace n) c.self.view_is mine in
    let index : u.index ≡ a.id.index = search rules in
    let shape : u.shape ≡ a.shape = search rules in
    let w = c.run_second.new.self.acts in
    let lowered = lowered_as u.shape a.shape u.index a.id.index o u.trace w index shape c.run_second.ensures.path in
    runs_second a.shape (Worker 0 a.id.index) o a.acts u.trace w c.requires.pool found lowered

pub returns-in-Err-Other-clause-path : goal.returns-in-Err-Other-clause-path
unfolding acts_of index_of shape_at units_of
returns-in-Err-Other-clause-path g c =
    let a = c.args.self.now in
    let s = holding c.args.held.ticket c.args.held.latch c.self.inside.bench in
    let u = c.reclaim.new.self in
    let o = c.args.call in
    let first = Stay (at.JoinProbe o) in
    let x = c.in-Err-Other.field-0 in
    let p = at.BeginTask c.in-Err-Other.name in
    let frame = if c.in-Err-Other.waits then at.ProbeWorking (fresh (Answer o (Some Fine))) else at.JoinProbe o in
    let moved = subst (λ z. Traced s.shape (Worker 0 s.index) first s.trace u.trace (rejoins o z)) c.in-Err-Other.field-0-is (traced s.shape s.index first s u (rejoins o x) c.in-Err-Other.ensures.path) in
    let found = subst (λ v. Traced v.shape (Worker 0 v.id.index) first v.acts u.trace (Enter frame p)) c.self.view_is moved in
    let t = c.take_call-held.new.self in
    let y = c.begin_task-begun.new.self in
    let after = c.run_other.ensures.path in
    let w = c.run_other.new.self.acts in
    let index : y.index ≡ a.id.index = search rules in
    let shape : y.shape ≡ a.shape = search rules in
    around_task a.shape a.id.index frame c.begin_task-begun.result t y c.in-Err-Other.name p first a.acts u.trace after.0 w Back refl (search rules) (search rules) (search rules) index shape (stays o c.in-Err-Other.waits) found c.begin_task-begun.ensures.path after.1
    (worked_as y.shape a.shape y.index a.id.index (Stay frame) after.0 w Back index shape after.2)

pub returns-in-Err-Answered-clause-path : goal.returns-in-Err-Answered-clause-path
unfolding acts_of index_of shape_at units_of
returns-in-Err-Answered-clause-path g c =
    let a = c.args.self.now in
    let s = holding c.args.held.ticket c.args.held.latch c.self.inside.bench in
    let u = c.reclaim.new.self in
    let o = c.args.call in
    let first = Stay (at.JoinProbe o) in
    let x = c.in-Err-Answered.field-0 in
    let mine = subst (λ z. Traced s.shape (Worker 0 s.index) first s.trace u.trace (rejoins o z)) c.in-Err-Answered.field-0-is (traced s.shape s.index first s u (rejoins o x) c.in-Err-Answered.ensures.path) in
    let found = subst (λ v. Traced v.shape (Worker 0 v.id.index) first v.acts u.trace Back) c.self.view_is mine in
    subst (λ z. Worked a.shape (Worker 0 a.id.index) first a.acts z.acts Back) (sym c.claim_found.ensures.same)
    (last a.shape (Worker 0 a.id.index) first a.acts u.trace Back found)
