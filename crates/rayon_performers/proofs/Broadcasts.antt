-- A broadcast that waits, act by act.
use Rattle.std.proofs.Common.{◌≡◌, ℕ, true, false, Option, Some, None, refl, subst, sym}
use Rattle.rayon_machine_places.specs.declared.place.Mark.{Mark as AnyMark}
use Rattle.rayon_machine_places.specs.declared.place.Move.{Move}
use Rattle.rayon_machine_places.specs.declared.place.Move.TheVariants.{Mark, Stay}
use Rattle.rayon_machine_places.specs.declared.place.OpenCall.{OpenCall}
use Rattle.rayon_machine_places.specs.declared.place.Party.TheVariants.{Worker}
use Rattle.rayon_machine_places.specs.declared.place.Pieces.{Pieces}
use Rattle.rayon_machine_places.specs.declared.place.Place.{Place}
use Rattle.rayon_machine_places.specs.declared.place.Place.TheVariants as at
use Rattle.rayon_machine_places.specs.declared.place.Target.TheVariants.{Answer}
use Rattle.rayon_machine_places.specs.declared.place.Then.TheVariants.{Gathers}
use Rattle.rayon_machine_places.specs.declared.shape.PoolShape.{PoolShape}
use Rattle.rayon_machine_places.specs.Places.{is_rest}
use Rattle.rayon_drive.proofs.Paths.{driven_from}
use Rattle.rayon_tasks.specs.Tickets.{CoreOf, TicketOf, call_alone}
use Rattle.rayon_performers.specs.Hands.{Hands, Does}
use Rattle.rayon_shared.specs.AtHand.{HasTicket}
use Rattle.rayon_shared.specs.Marks.{IsBroadcast, broadcast_in}
use Rattle.rayon_shared.specs.Seats.{Resting}
use Rattle.rayon_performers.specs.Stands.{Anyhow, At}
use Rattle.rayon_performers.specs.Waits.{Waited}
use Rattle.rayon_performers.proofs.Stretches.{So}
use Rattle.rayon_performers.proofs.Waits.{EndsWait}

-- a wait for a call ends at no place
waited_stays_not : (o : OpenCall) (m : Move) (y : Place) → Waited (Answer o None) m → m ≡ Stay y → is_rest y ≡ true
waited_stays_not o m y b e = absurd (subst (λ (k : Move). Waited (Answer o None) k) e b)

module _ {X G O F : Type 0} where
  -- pieces are marked on the way to a place, from where the call goes on to its wait's end
  pub waits_from_mark : (h : PoolShape) (i : ℕ) (o : OpenCall) (p : Place) (c : Pieces) (k : AnyMark) (s t : Hands X G O F) (m : Move) → is_rest p ≡ false → Waited (Answer o None) m → So h i (Stay p) s m t → So h i (Mark p c k) s m t
  waits_from_mark h i o p c k s t m r b d = driven_from (λ (a : Hands X G O F) x y z. Does x y a z) (λ (a : Hands X G O F). a.trace) h (Worker 0 i) (Mark p c k) p s t m refl r (λ y e. waited_stays_not o m y b e) d

  -- the workers are called by who waits for the pieces then
  pub calls_wait : (i w : ℕ) (o : OpenCall) (s : Hands X G O F) → HasTicket s.call (Some o.number) → Resting s.chair → At (EndsWait s.holds (Answer o None)) (Worker 0 i) s (Stay (at.LockToWake (record { pool = o.pool; owed = w; worker = 0; then = Gathers o })))
  calls_wait i w o s b r = (tt, ((b, λ v e. (tt, e), λ t v e. ((refl, tt), e)), r))

  pub calls_stand : (i w : ℕ) (o : OpenCall) (s : Hands X G O F) → HasTicket s.call (Some o.number) → Resting s.chair → At Anyhow (Worker 0 i) s (Stay (at.LockToWake (record { pool = o.pool; owed = w; worker = 0; then = Gathers o })))
  calls_stand i w o s b r = (tt, ((b, λ v e. tt, λ t v e. tt), r))

-- the ticket of a piece answers for the broadcast's call
pub piece_ticket : (k : Option TicketOf) (c : ℕ) → IsBroadcast (broadcast_in k) c → HasTicket k (Some c)
piece_ticket None c e = absurd e
piece_ticket (Some u) c e = by u.scope e
  where
    of : (y : Option CoreOf) → IsBroadcast y c → elim y [ None ↦ u.number | Some b ↦ b.call ] ≡ c
    of None e = absurd e
    of (Some b) e = e

    by : (z : Option CoreOf) → IsBroadcast (elim z [ None ↦ u.broadcast | Some s ↦ None ]) c → elim z [ None ↦ call_alone u | Some s ↦ s.call ] ≡ c
    by None e = of u.broadcast e
    by (Some s) e = absurd e

module _ {X G O F : Type 0} where
  -- a step on the broadcast's count leaves the ticket that is to answer
  pub part_replied : (c : ℕ) (s u : Hands X G O F) → u ≡ record s { tally = u.tally; trace = u.trace } → IsBroadcast (broadcast_in s.reply) c → HasTicket u.reply (Some c)
  part_replied c s u e k = subst (λ (z : Hands X G O F). HasTicket z.reply (Some c)) (sym e) (piece_ticket s.reply c k)
