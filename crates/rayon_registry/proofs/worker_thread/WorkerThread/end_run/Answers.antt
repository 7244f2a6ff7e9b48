use Rattle.std.proofs.Common.{refl, rules, subst, sym}
use Rattle.rayon_jobs.specs.Endings.{ending_of}
use Rattle.rayon_machine_places.specs.declared.place.JobKind.TheVariants.{Detached}
use Rattle.rayon_machine_places.specs.declared.place.Party.TheVariants.{Worker}
use Rattle.rayon_registry.specs.Acts.{Closes, HasRun}
use Rattle.rayon_registry.specs.Pushes.{acts_of, count_of, index_of, shape_at, units_of}
use Rattle.rayon_registry.proofs.Made.{closes, closes_so, has_run, own_pool}
use Rattle.rayon_registry.proofs.worker_thread.WorkerThread.end_run.Goals as goal

pub close-requires-clause-asks : goal.close-requires-clause-asks
close-requires-clause-asks g c = own_pool c.args.kind c.args.ticket c.in-Detached.pool c.requires c.in-Detached.is

pub returns-after-into_result-clause-path : goal.returns-after-into_result-clause-path
unfolding acts_of count_of index_of shape_at units_of
returns-after-into_result-clause-path g c =
    let a = c.args.self.now in
    let b = c.self.inside.bench in
    let u = c.close.new.self in
    let n = c.number-job.result in
    let e = c.ending-ending.result in
    let k = Detached c.in-Detached.pool in
    let here = subst (λ v. Closes v.shape (Worker 0 v.id.index) n k e v.acts u.trace) c.self.view_is (closes n b u k e tt c.close.ensures.path) in
    closes_so a.shape (Worker 0 a.id.index) n c.args.ticket.number k c.args.kind e (ending_of c.args.done.answer) a.acts u.trace (search rules) (sym c.in-Detached.is) (search rules) here

pub returns-in_default-clause-path : goal.returns-in_default-clause-path
unfolding acts_of count_of index_of shape_at units_of
returns-in_default-clause-path g c =
    let a = c.args.self.now in
    let s = c.set_reply.new.self in
    let u = c.close-in_default.new.self in
    let n = c.number-job.result in
    let e = c.ending-ending.result in
    let k = c.args.kind in
    let runs = subst (λ z. HasRun z) (sym c.requires) (has_run c.args.ticket) in
    let mine = subst (λ z. Closes z.shape (Worker 0 z.index) n k e z.trace u.trace) c.set_reply.ensures (closes n s u k e runs c.close-in_default.ensures.path) in
    let here = subst (λ v. Closes v.shape (Worker 0 v.id.index) n k e v.acts u.trace) c.self.view_is mine in
    closes_so a.shape (Worker 0 a.id.index) n c.args.ticket.number k k e (ending_of c.args.done.answer) a.acts u.trace (search rules) refl (search rules) here
