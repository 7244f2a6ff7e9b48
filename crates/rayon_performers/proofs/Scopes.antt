-- A job is spawned into a scope, and a share of the scope's count is given back, act by act.
use Rattle.std.proofs.Common.{◌≡◌, ℕ, Bool, true, false, Option, Some, None, refl, sym, subst}
use Rattle.rayon_machine_places.specs.declared.act.Act.TheVariants as acts
use Rattle.rayon_machine_places.specs.declared.act.Seen.TheVariants.{Yes, No}
use Rattle.rayon_machine_places.specs.declared.place.Move.{Move}
use Rattle.rayon_machine_places.specs.declared.place.Move.TheVariants.{Stay}
use Rattle.rayon_machine_places.specs.declared.place.OpenCall.{OpenCall}
use Rattle.rayon_machine_places.specs.declared.place.Party.{Party}
use Rattle.rayon_machine_places.specs.declared.place.Party.TheVariants.{Worker}
use Rattle.rayon_machine_places.specs.declared.place.Place.TheVariants as at
use Rattle.rayon_machine_places.specs.declared.place.Target.TheVariants.{Answer}
use Rattle.rayon_machine_places.specs.declared.place.Then.TheVariants.{Await}
use Rattle.rayon_machine_places.specs.declared.shape.PoolShape.{PoolShape}
use Rattle.rayon_machine_places.specs.Places.{set_call}
use Rattle.rayon_drive.specs.Traces.{Adds}
use Rattle.rayon_tasks.specs.Tickets.{CoreOf, TicketOf, call_alone}
use Rattle.rayon_performers.specs.Hands.{Hands, Looks}
use Rattle.rayon_shared.specs.AtHand.{HasTicket, answer}
use Rattle.rayon_shared.specs.Marks.{IsScope, scope_in}
use Rattle.rayon_performers.specs.Keeps.{told_at}
use Rattle.rayon_performers.specs.Paths.{WorkerGoes}
use Rattle.rayon_performers.specs.Scopes.{answering, entering}
use Rattle.rayon_shared.specs.Seats.{Resting}
use Rattle.rayon_performers.specs.Stands.{Anyhow, At}
use Rattle.rayon_performers.proofs.Waits.{EndsWait}
use Rattle.rayon_performers.proofs.Stretches.{So, by_act}

-- the ticket of a scope answers for the scope's call
pub scope_ticket : (k : Option TicketOf) (c : ℕ) → IsScope (scope_in k) c → HasTicket k (Some c)
scope_ticket None c e = absurd e
scope_ticket (Some u) c e = by u.scope e
  where
    by : (z : Option CoreOf) → IsScope z c → elim z [ None ↦ call_alone u | Some s ↦ s.call ] ≡ c
    by None e = absurd e
    by (Some s) e = e

module _ {X G O F : Type 0} (h : PoolShape) (i c : ℕ) (o : Party) (n : ℕ) (s t u : Hands X G O F) where
  -- the own deque is looked at before the push
  pub entered_looked : (m : Move) (z : Bool) → So h i m s (Stay (at.LookQueue (entering c o n))) t → Looks t u → Adds acts.LookOwn (answer z) t.trace u.trace → So h i m s (Stay (at.PushJob (entering c o n) z)) u
  entered_looked m true a d e = by_act h i m s (Stay (at.LookQueue (entering c o n))) t u Yes refl a d e
  entered_looked m false a d e = by_act h i m s (Stay (at.LookQueue (entering c o n))) t u No refl a d e

module _ {X G O F : Type 0} where
  -- the scope's latch is set by who waits for it then
  pub ended_waits : (i : ℕ) (o : OpenCall) (q : Party) (s : Hands X G O F) → IsScope (scope_in s.reply) o.number → HasTicket s.call (Some o.number) → Resting s.chair → At (EndsWait s.holds (Answer o None)) (Worker 0 i) s (Stay (set_call o.number q (Await o)))
  ended_waits i o q s k b r = told_at (EndsWait s.holds (Answer o None)) s 0 i o.number q (Await o) (scope_ticket s.reply o.number k) ((b, λ v e. (tt, e), λ t v e. ((refl, tt), e)), r)

  pub ended_stands : (i : ℕ) (o : OpenCall) (q : Party) (s : Hands X G O F) → IsScope (scope_in s.reply) o.number → HasTicket s.call (Some o.number) → Resting s.chair → At Anyhow (Worker 0 i) s (Stay (set_call o.number q (Await o)))
  ended_stands i o q s k b r = told_at Anyhow s 0 i o.number q (Await o) (scope_ticket s.reply o.number k) ((b, λ v e. tt, λ t v e. tt), r)

  -- the ticket that stood for another is put back
  pub reply_back : (k l : Option TicketOf) (u v : Hands X G O F) → v ≡ answering l u → u.reply ≡ k → answering k v ≡ u
  reply_back k l u v e f = subst (λ (z : Hands X G O F). answering k z ≡ u) (sym e) (subst (λ (y : Option TicketOf). answering y u ≡ u) f refl)

  -- a path that was made with this ticket in its place
  pub went_answering : (m : Move) (k l : Option TicketOf) (s t u v : Hands X G O F) (n : Move) → t ≡ answering k s → u.reply ≡ k → v ≡ answering l u → WorkerGoes m t u n → WorkerGoes m (answering k s) (answering k v) n
  went_answering m k l s t u v n a b e d = subst (λ (z : Hands X G O F). WorkerGoes m (answering k s) z n) (sym (reply_back k l u v e b)) (subst (λ (z : Hands X G O F). WorkerGoes m z u n) a d)

  -- a step on the scope's count leaves the ticket that is to answer
  pub replied : (c : ℕ) (s u : Hands X G O F) → u ≡ record s { tally = u.tally; trace = u.trace } → IsScope (scope_in s.reply) c → HasTicket u.reply (Some c)
  replied c s u e k = subst (λ (z : Hands X G O F). HasTicket z.reply (Some c)) (sym e) (scope_ticket s.reply c k)
