use Rattle.std.proofs.Common.{◌≡◌, Some, refl, rules, subst}
use Rattle.rayon_machine_places.specs.declared.place.Count.TheVariants.{OfPool}
use Rattle.rayon_machine_places.specs.declared.place.Ending.TheVariants.{Fine}
use Rattle.rayon_machine_places.specs.declared.place.JobKind.TheVariants.{Direct}
use Rattle.rayon_machine_places.specs.declared.place.Move.TheVariants.{Back, Stay}
use Rattle.rayon_machine_places.specs.declared.place.Party.TheVariants.{Worker}
use Rattle.rayon_machine_places.specs.declared.place.Place.TheVariants as at
use Rattle.rayon_machine_places.specs.declared.place.Share.TheVariants.{OfJob}
use Rattle.rayon_machine_places.specs.declared.place.Then.TheVariants.{Answers}
use Rattle.rayon_drive.specs.Paths.{Traced}
use Rattle.rayon_drive.proofs.Traced.{traced_as}
use Rattle.rayon_registry.specs.Pushes.{acts_of, index_of, shape_at, units_of}
use Rattle.rayon_performers.proofs.Stretches.{traced}
use Rattle.rayon_registry.proofs.worker_thread.WorkerThread.run_second.Goals as goal

pub returns-clause-path : goal.returns-clause-path
unfolding acts_of index_of shape_at units_of
returns-clause-path g c =
    let a = c.args.self.now in
    let x = c.begin_here.new.self in
    let s = c.self-2.inside.bench in
    let w = c.run_to_done-done.new.self in
    let u = c.lower_joined.new.self in
    let begins = Stay (at.BeginHere c.args.call.job) in
    let run = Stay (at.Run c.args.call.job Direct) in
    let k = c.keep_call.new.self in
    let mine = subst (λ z. Traced z.shape (Worker 0 z.index) begins z.trace x.trace run) c.keep_call.ensures (traced k.shape k.index begins k x run c.begin_here.ensures.path) in
    let begun = subst (λ v. Traced v.shape (Worker 0 v.id.index) begins v.acts x.trace run) c.self.view_is mine in
    let first = Stay (at.LowerCount (OfPool 0) (OfJob c.args.call.job) (Answers c.args.call (Some Fine) c.ending.result)) in
    let here = subst (λ v. Traced v.shape (Worker 0 v.id.index) first v.acts u.trace Back) c.self-2.view_is (traced s.shape s.index first s u Back c.lower_joined.ensures.path) in
    let index : w.id.index ≡ a.id.index = search rules in
    let shape : w.shape ≡ a.shape = search rules in
    (c.ending.result, x.trace, w.acts, begun, c.run_to_done-done.ensures.acts, traced_as w.shape a.shape w.id.index a.id.index first w.acts u.trace Back Back index shape refl here)
