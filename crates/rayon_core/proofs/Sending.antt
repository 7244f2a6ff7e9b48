-- What lies in a pool's queues may be sent to another thread, and shared, where its job may be sent and shared, and where a tag,
-- an output and a fault may be sent. A task reaches itself, through the first side of a pair, so the checker makes no such lemma.
use denote.RattleType.{RattleType}
use denote.Param.Send.{IsSend, IsSync, sendable}
use Rattle.std.proofs.Crossing.{crosses}
use Rattle.std.specs.declared.cmp.PartialEq as equal
use Rattle.rayon_jobs.specs.declared.kind.JobKind as kind
use Rattle.rayon_tasks.specs.contracts.task.Task as task
use Rattle.rayon_tasks.proofs.task.Task.TheLaws.TheKnot.{both_send-Task, both_sync-Task}
use Rattle.rayon_tasks.proofs.task.Load.TheSendSync as load
use Rattle.rayon_tasks.proofs.ticket.Ticket.TheSendSync as ticket

module _ (J T O F H : RattleType) (g : kind.Ghosts J.Denot T.Denot O.Denot F.Denot H.Denot) (e : equal.Ghosts T.Denot) where
  pub task_send : IsSend J → IsSync J → IsSend T → IsSend O → IsSend F → IsSend (task.the_row J T O F H g e)
  task_send s y a b c =
      both_send-Task J T O F H g e
      (load.the_send J s y) (ticket.the_send J T O F H g e a b c) (λ h p q. search (sendable, crosses) depth 20)
      (load.the_sync J s y) (ticket.the_sync J T O F H g e a b c) (λ h p q. search (sendable, crosses) depth 20)

  pub task_sync : IsSend J → IsSync J → IsSend T → IsSend O → IsSend F → IsSync (task.the_row J T O F H g e)
  task_sync s y a b c =
      both_sync-Task J T O F H g e
      (load.the_send J s y) (ticket.the_send J T O F H g e a b c) (λ h p q. search (sendable, crosses) depth 20)
      (load.the_sync J s y) (ticket.the_sync J T O F H g e a b c) (λ h p q. search (sendable, crosses) depth 20)
