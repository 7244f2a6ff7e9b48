use Rattle.std.proofs.Common.{◌≡◌, rules, subst}
use Rattle.rayon_registry.proofs.Made.{closes_as}
use Rattle.rayon_jobs.specs.Endings.{ending_of}
use Rattle.rayon_machine_places.specs.declared.place.JobKind.{JobKind}
use Rattle.rayon_machine_places.specs.declared.place.Party.TheVariants.{Worker}
use Rattle.rayon_registry.specs.Acts.{Closes}
use Rattle.rayon_tasks.specs.Tickets.{kind_in}
use Rattle.rayon_registry.proofs.worker_thread.WorkerThread.run_task.Goals as goal

pub returns-clause-path : goal.returns-clause-path
returns-clause-path g c =
    let a = c.args.self.now in
    let w = c.run_work-done.new.self in
    let u = c.end_run.new.self in
    let e = ending_of c.run_work-done.result.0.answer in
    let index : w.id.index ≡ a.id.index = search rules in
    let shape : w.shape ≡ a.shape = search rules in
    let numbered : c.task_parts-work.result.2.number ≡ c.args.task.ticket.number = search rules in
    let kind : c.kind-kind.result ≡ kind_in c.args.task.ticket = search rules in
    let here = closes_as w.shape a.shape w.id.index a.id.index c.task_parts-work.result.2.number c.args.task.ticket.number c.kind-kind.result e w.acts u.acts index shape numbered c.end_run.ensures.path in
    (e, w.acts, c.run_work-done.ensures.acts, subst (λ (k : JobKind). Closes a.shape (Worker 0 a.id.index) c.args.task.ticket.number k e w.acts u.acts) kind here)
