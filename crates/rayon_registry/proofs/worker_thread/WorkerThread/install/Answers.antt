use Rattle.std.proofs.Common.{◌≡◌, ◌==◌, inr, refl, rules, subst}
use Rattle.rayon_machine_places.specs.declared.place.Count.TheVariants.{OfPool}
use Rattle.rayon_machine_places.specs.declared.place.Ending.{Ending}
use Rattle.rayon_jobs.specs.Endings.{ending_of}
use Rattle.rayon_machine_places.specs.declared.place.JobKind.TheVariants.{Direct}
use Rattle.rayon_machine_places.specs.declared.place.Move.TheVariants.{Back, Enter, HandBack, Stay}
use Rattle.rayon_machine_places.specs.declared.place.Party.TheVariants.{Worker}
use Rattle.rayon_machine_places.specs.declared.place.Place.TheVariants as at
use Rattle.rayon_machine_places.specs.declared.place.Plan.TheVariants.{Here}
use Rattle.rayon_machine_places.specs.declared.place.Share.TheVariants.{OfJob}
use Rattle.rayon_machine_places.specs.declared.place.Then.TheVariants.{Ran}
use Rattle.rayon_drive.specs.Paths.{Traced}
use Rattle.rayon_drive.proofs.Traced.{traced_as}
use Rattle.rayon_registry.specs.Acts.{Installed}
use Rattle.rayon_shared.specs.Marks.{KeepsUnits}
use Rattle.rayon_performers.proofs.Recounts.{missed_none}
use Rattle.rayon_registry.specs.Pushes.{acts_of, count_of, left_to, pushed_by, saw_set, index_of, shape_at, takes_oldest, units_of}
use Rattle.rayon_performers.proofs.Stretches.{traced}
use Rattle.rayon_registry.proofs.Made.{made_fault, made_fine}
use Rattle.rayon_registry.proofs.worker_thread.WorkerThread.install.Goals as goal
use Rattle.rayon_registry.proofs.worker_thread.WorkerThread.install.Goals.{in-Ok, in-Err-answer}

pub returns-in-Err-clause-path : goal.returns-in-Err-clause-path
unfolding acts_of index_of shape_at units_of
returns-in-Err-clause-path g c =
    let b = c.self.inside.bench in
    let u = c.open_install.new.self in
    let n = c.in-Some.name in
    let first = Stay (at.RaiseCount (Here 0 n)) in
    inr (n, subst (λ v. Traced v.shape (Worker 0 v.id.index) first v.acts u.trace (HandBack (Here 0 n))) c.self.view_is (traced b.shape b.index first b u (HandBack (Here 0 n)) c.in-Err.ensures.path))

pub returns-clause-path : goal.returns-clause-path
unfolding acts_of index_of shape_at units_of
returns-clause-path g c =
    let a = c.args.self.now in
    let b = c.self.inside.bench in
    let u = c.open_install.new.self in
    let x = c.begin_here.new.self in
    let w = c.run_job-answer.new.w in
    let s = c.self-2.inside.bench in
    let v = c.lower_then.new.self in
    let n = c.in-Some.name in
    let e = c.ending_of-ending.result in
    let first = Stay (at.RaiseCount (Here 0 n)) in
    let entered = Enter (at.AtOnce 0 n) (at.BeginHere n) in
    let run = Stay (at.Run n Direct) in
    let begins = Stay (at.BeginHere n) in
    let lowers = Stay (at.LowerCount (OfPool 0) (OfJob n) (Ran n e)) in
    let index : w.id.index ≡ a.id.index = search rules in
    let shape : w.shape ≡ a.shape = search rules in
    let begun = traced_as u.shape a.shape u.index a.id.index begins u.trace x.trace run run (search rules) (search rules) refl (traced u.shape u.index begins u x run c.begin_here.ensures.path) in
    let lowered = traced_as w.shape a.shape w.id.index a.id.index lowers w.acts v.trace Back Back index shape refl (subst (λ z. Traced z.shape (Worker 0 z.id.index) lowers z.acts v.trace Back) c.self-2.view_is (traced s.shape s.index lowers s v Back c.lower_then.ensures.path)) in
    let opened = subst (λ z. Traced z.shape (Worker 0 z.id.index) first z.acts u.trace entered) c.self.view_is (traced b.shape b.index first b u entered c.in_default-open_install.ensures.path) in
    let installed : Installed a.shape (Worker 0 a.id.index) e a.acts v.trace = (n, u.trace, x.trace, w.acts, opened, begun, c.run_job-answer.ensures.acts, lowered) in
    elim c.match-answer.branch [
      | in-Ok y ↦ made_fine _ _ _ c.match-answer.result _ y.result-is (subst (λ (z : Ending). Installed a.shape (Worker 0 a.id.index) z a.acts v.trace) (subst (λ r. e ≡ ending_of r) y.in-Ok.is c.ending_of-ending.ensures) installed)
      | in-Err-answer y ↦ made_fault _ _ _ c.match-answer.result _ y.result-is (subst (λ (z : Ending). Installed a.shape (Worker 0 a.id.index) z a.acts v.trace) (subst (λ r. e ≡ ending_of r) y.in-Err-answer.is c.ending_of-ending.ensures) installed)
    ]

pub returns-in-Err-clause-kept : goal.returns-in-Err-clause-kept
unfolding acts_of count_of left_to pushed_by saw_set index_of shape_at takes_oldest units_of
returns-in-Err-clause-kept g c r j e =
    let b = c.self.inside.bench in
    let u = c.open_install.new.self in
    (search rules, subst (λ v. KeepsUnits v.count u.marks.count) c.self.view_is (missed_none (b.holds == 0) b.marks.count u.marks.count c.in-Err.ensures.unit))
