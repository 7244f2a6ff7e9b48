use Rattle.std.proofs.Common.{◌≡◌, Bool, true, false, if◌then◌else◌, Some, ap, refl, rules, subst, sym}
use Rattle.rayon_machine_places.specs.declared.place.Ending.TheVariants.{Fine}
use Rattle.rayon_machine_places.specs.declared.place.Move.TheVariants.{Back, Enter, Stay}
use Rattle.rayon_machine_places.specs.declared.place.Party.TheVariants.{Worker}
use Rattle.rayon_machine_places.specs.declared.place.Place.TheVariants as at
use Rattle.rayon_machine_places.specs.declared.place.Target.TheVariants.{Answer}
use Rattle.rayon_machine_places.specs.Places.{fresh}
use Rattle.rayon_drive.specs.declared.trace.Log.{Log}
use Rattle.rayon_drive.specs.Paths.{Traced}
use Rattle.rayon_drive.proofs.Traced.{traced_as}
use Rattle.rayon_registry.specs.Acts.{Lowered, Worked}
use Rattle.rayon_registry.specs.Pushes.{acts_of, index_of, shape_at, units_of}
use Rattle.rayon_performers.specs.Waits.{holding, rejoins}
use Rattle.rayon_performers.proofs.Stretches.{traced}
use Rattle.rayon_registry.proofs.Made.{around_task, last, lowered_as, runs_second, worked_as}
use Rattle.rayon_registry.proofs.worker_thread.WorkerThread.look_again.Goals as goal

pub returns-in-Ok-clause-path : goal.returns-in-Ok-clause-path
unfolding acts_of index_of shape_at units_of
returns-in-Ok-clause-path g c =
    let a = c.args.self.now in
    let l = c.loop.self in
    let b = c.self.inside.bench in
    let s = holding c.in-Some-held.waiting.ticket c.in-Some-held.waiting.latch b in
    let u = c.reclaim.new.self in
    let o = c.args.call in
    let first = Stay (at.JoinProbe o) in
    let n = Enter (at.SecondSide o) (at.BeginHere o.job) in
    let mine = traced s.shape s.index first s (record (holding c.in-Ok.ended.ticket c.in-Ok.ended.latch u) { task = Some c.in-Ok.task }) n c.in-Ok.ensures.path in
    let here = subst (λ v. Traced v.shape (Worker 0 v.id.index) first v.acts u.trace n) c.self.view_is mine in
    let found = traced_as l.shape a.shape l.id.index a.id.index first l.acts u.trace n n (ap (λ z. z.index) c.loop.invariant.3) c.loop.invariant.5 refl here in
    let index : u.index ≡ a.id.index = search rules in
    let shape : u.shape ≡ a.shape = search rules in
    let w = c.run_second.new.self.acts in
    let lowered = lowered_as u.shape a.shape u.index a.id.index o u.trace w index shape c.run_second.ensures.path in
    c.loop.invariant.7 w Back (runs_second a.shape (Worker 0 a.id.index) o l.acts u.trace w c.requires.pool found lowered)

pub returns-then-waits-clause-path : goal.returns-then-waits-clause-path
unfolding acts_of index_of shape_at units_of
returns-then-waits-clause-path g c =
    let p = at.BeginTask c.in-Err-Other.name in
    let wait = at.ProbeWorking (fresh (Answer c.args.call (Some Fine))) in
    let a = c.args.self.now in
    let l = c.loop.self in
    let b = c.self.inside.bench in
    let s = holding c.in-Some-held.waiting.ticket c.in-Some-held.waiting.latch b in
    let u = c.reclaim.new.self in
    let o = c.args.call in
    let first = Stay (at.JoinProbe o) in
    let n = Enter wait p in
    let waits : c.in-Err-Other.waits ≡ true = search rules in
    let moved = subst (λ (z : Bool). Traced s.shape (Worker 0 s.index) first s.trace u.trace (Enter (if z then wait else at.JoinProbe o) p)) waits (subst (λ z. Traced s.shape (Worker 0 s.index) first s.trace u.trace (rejoins o z)) c.in-Err-Other.field-0-is (traced s.shape s.index first s u (rejoins o c.in-Err-Other.field-0) c.in-Err-Other.ensures.path)) in
    let here = subst (λ v. Traced v.shape (Worker 0 v.id.index) first v.acts u.trace n) c.self.view_is moved in
    let found = traced_as l.shape a.shape l.id.index a.id.index first l.acts u.trace n n (ap (λ z. z.index) c.loop.invariant.3) c.loop.invariant.5 refl here in
    let x = c.run_begun.new.self in
    let w = c.wait_for_answer.new.self.acts in
    let index : x.id.index ≡ a.id.index = search rules in
    let shape : x.shape ≡ a.shape = search rules in
    let t = c.take_call-held.new.self in
    let y = c.begin_task-begun.new.self in
    c.loop.invariant.7 w Back (around_task a.shape a.id.index wait c.begin_task-begun.result t y c.in-Err-Other.name p first l.acts u.trace x.acts w Back refl (search rules) (search rules) (search rules) (search rules) (search rules) (λ e. refl) found c.begin_task-begun.ensures.path c.run_begun.ensures.path
    (worked_as x.shape a.shape x.id.index a.id.index (Stay wait) x.acts w Back index shape c.wait_for_answer.ensures.path))

pub loop-preserved : goal.loop-preserved
unfolding acts_of index_of shape_at units_of
loop-preserved g c =
    let p = at.BeginTask c.in-Err-Other.name in
    let a = c.args.self.now in
    let l = c.loop.self in
    let b = c.self.inside.bench in
    let s = holding c.in-Some-held.waiting.ticket c.in-Some-held.waiting.latch b in
    let u = c.reclaim.new.self in
    let o = c.args.call in
    let wait = at.ProbeWorking (fresh (Answer o (Some Fine))) in
    let first = Stay (at.JoinProbe o) in
    let n = Enter (at.JoinProbe o) p in
    let looks : c.in-Err-Other.waits ≡ false = search rules in
    let moved = subst (λ (z : Bool). Traced s.shape (Worker 0 s.index) first s.trace u.trace (Enter (if z then wait else at.JoinProbe o) p)) looks (subst (λ z. Traced s.shape (Worker 0 s.index) first s.trace u.trace (rejoins o z)) c.in-Err-Other.field-0-is (traced s.shape s.index first s u (rejoins o c.in-Err-Other.field-0) c.in-Err-Other.ensures.path)) in
    let here = subst (λ v. Traced v.shape (Worker 0 v.id.index) first v.acts u.trace n) c.self.view_is moved in
    let found = traced_as l.shape a.shape l.id.index a.id.index first l.acts u.trace n n (ap (λ z. z.index) c.loop.invariant.3) c.loop.invariant.5 refl here in
    let t = c.take_call-held.new.self in
    let y = c.begin_task-begun.new.self in (
      tt,
      tt,
      search rules,
      search rules,
      search rules,
      search rules,
      search rules,
      λ w m x. c.loop.invariant.7 w m (around_task a.shape a.id.index (at.JoinProbe o) c.begin_task-begun.result t y c.in-Err-Other.name p first l.acts u.trace c.run_begun.new.self.acts w m refl (search rules) (search rules) (search rules) (search rules) (search rules) (λ e. refl) found c.begin_task-begun.ensures.path c.run_begun.ensures.path x),
    )

pub returns-in-Err-Answered-clause-path : goal.returns-in-Err-Answered-clause-path
unfolding acts_of index_of shape_at units_of
returns-in-Err-Answered-clause-path g c =
    let a = c.args.self.now in
    let l = c.loop.self in
    let b = c.self.inside.bench in
    let s = holding c.in-Some-held.waiting.ticket c.in-Some-held.waiting.latch b in
    let u = c.reclaim.new.self in
    let o = c.args.call in
    let first = Stay (at.JoinProbe o) in
    let mine = subst (λ z. Traced s.shape (Worker 0 s.index) first s.trace u.trace (rejoins o z)) c.in-Err-Answered.field-0-is (traced s.shape s.index first s u (rejoins o c.in-Err-Answered.field-0) c.in-Err-Answered.ensures.path) in
    let here = subst (λ v. Traced v.shape (Worker 0 v.id.index) first v.acts u.trace Back) c.self.view_is mine in
    let found = traced_as l.shape a.shape l.id.index a.id.index first l.acts u.trace Back Back (ap (λ z. z.index) c.loop.invariant.3) c.loop.invariant.5 refl here in
    subst (λ z. Worked a.shape (Worker 0 a.id.index) first a.acts z.acts Back) (sym c.claim_found.ensures.same)
    (c.loop.invariant.7 u.trace Back (last a.shape (Worker 0 a.id.index) first l.acts u.trace Back found))
