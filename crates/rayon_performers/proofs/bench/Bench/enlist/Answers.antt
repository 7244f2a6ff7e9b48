use Rattle.std.proofs.Common.{◌≡◌, ℕ, Option, ap, refl, rules, subst, ◌∙◌}
use Rattle.rayon_machine_places.specs.declared.act.Act.TheVariants.{FifoIn, FifoUndo, PushOwn}
use Rattle.rayon_machine_places.specs.declared.act.Seen.TheVariants.{Done, Refused, Task}
use Rattle.rayon_machine_places.specs.declared.place.Move.TheVariants.{Stay}
use Rattle.rayon_machine_places.specs.declared.place.Place.TheVariants as at
use Rattle.rayon_machine_places.specs.declared.place.Taken.TheVariants.{Plain}
use Rattle.rayon_queues.specs.Lists.{jobs_of}
use Rattle.rayon_queues.proofs.Lists.{same_again}
use Rattle.rayon_tasks.specs.Tasks.{taken_in}
use Rattle.rayon_drive.specs.Traces.{Adds}
use Rattle.rayon_performers.proofs.Fifos.{fed_looked, fed_undone}
use Rattle.rayon_performers.proofs.Stretches.{by_act, first_act}
use Rattle.rayon_performers.proofs.bench.Bench.enlist.Goals as goal

pub returns-in-Err-clause-path : goal.returns-in-Err-clause-path
returns-in-Err-clause-path g c =
    let s = c.args.self.now in
    let f = c.args.feeding in
    let u = c.add.new.self in
    let adds = subst (λ (b : Option ℕ). Adds (FifoIn f.job b) Refused s.trace u.trace) c.book-scope.ensures c.add.ensures.adds in
    first_act s.shape s.index (Stay (at.AddToFifo f)) s u Refused refl (c.add.ensures.same, tt) adds

pub unreachable-requires : goal.unreachable-requires
unreachable-requires g c = c.in_default-undo_last.not-Some c.args.task (c.undo_last.ensures.last c.args.task (jobs_of c.args.lists.now c.book-scope.result) c.in_default.ensures.0).0

pub unreachable-unreachable : goal.unreachable-unreachable
unreachable-unreachable g c = absurd (c.in_default-undo_last.not-Some c.args.task (c.undo_last.ensures.last c.args.task (jobs_of c.args.lists.now c.book-scope.result) c.in_default.ensures.0).0)

pub returns-in_default-push_own-clause-path : goal.returns-in_default-push_own-clause-path
returns-in_default-push_own-clause-path g c =
    let s = c.args.self.now in
    let h = s.shape in
    let i = s.index in
    let f = c.args.feeding in
    let a = c.add-2.new.self in
    let t = c.look_own-was_empty.new.self in
    let u = c.push_own.new.self in
    let z = c.look_own-was_empty.result in
    let first = Stay (at.AddToFifo f) in
    let added = subst (λ (b : Option ℕ). Adds (FifoIn f.job b) Done s.trace a.trace) c.book-scope.ensures c.add-2.ensures.adds in
    let pushed = subst (λ (b : Option ℕ). Adds (PushOwn f.token b) Done t.trace u.trace) c.book-scope.ensures c.in_default-push_own.ensures.pushed.1 in
    let looked = fed_looked h i f s a t first z (first_act h i first s a Done refl (c.add-2.ensures.same, tt) added) c.look_own-was_empty.ensures.does c.look_own-was_empty.ensures.adds in
    by_act h i first s (Stay (at.PushToken f z)) t u Done refl looked (c.in_default-push_own.ensures.same.1, (c.token_of.result, c.in_default-push_own.ensures.pushed.0, c.in_default-push_own.ensures.same.0)) pushed

pub returns-clause-path : goal.returns-clause-path
returns-clause-path g c =
    let s = c.args.self.now in
    let h = s.shape in
    let i = s.index in
    let f = c.args.feeding in
    let a = c.add-2.new.self in
    let t = c.look_own-was_empty.new.self in
    let u = c.push_own.new.self in
    let v = c.add-3.new.self in
    let z = c.look_own-was_empty.result in
    let first = Stay (at.AddToFifo f) in
    let added = subst (λ (b : Option ℕ). Adds (FifoIn f.job b) Done s.trace a.trace) c.book-scope.ensures c.add-2.ensures.adds in
    let pushed = subst (λ (b : Option ℕ). Adds (PushOwn f.token b) Refused t.trace u.trace) c.book-scope.ensures c.in-Err-push_own.ensures.pushed.2 in
    let undone = subst (λ (b : Option ℕ). Adds (FifoUndo b) (Task c.taken.result) u.trace v.trace) c.book-scope.ensures c.add-3.ensures.adds in
    let looked = fed_looked h i f s a t first z (first_act h i first s a Done refl (c.add-2.ensures.same, tt) added) c.look_own-was_empty.ensures.does c.look_own-was_empty.ensures.adds in
    let refused = by_act h i first s (Stay (at.PushToken f z)) t u Refused refl looked (c.in-Err-push_own.ensures.same.1, (c.in-Err-push_own.ensures.same.0, c.in-Err-push_own.ensures.pushed.1)) pushed in
    let back = (c.undo_last.ensures.last c.args.task (jobs_of c.args.lists.now c.book-scope.result) c.in_default.ensures.0).0 in
    let is : c.in-Some.task ≡ c.args.task = search rules in
    let taken : c.taken.result ≡ Plain f.job = c.taken.ensures ∙ ap (λ x. taken_in x) is ∙ c.requires.name in
    fed_undone h i f s u v first c.taken.result taken refused c.add-3.ensures.same undone

pub returns-clause-listed : goal.returns-clause-listed
returns-clause-listed g c =
    let l = c.args.lists.now in
    let b = c.book-scope.result in
    let taken = c.undo_last.ensures.last c.args.task (jobs_of l b) c.in_default.ensures.0 in
    let is : c.in-Some.task ≡ c.args.task = search rules in
    (is, same_again l c.push.new.self c.undo_last.new.self b _ c.in_default.ensures taken.1)
