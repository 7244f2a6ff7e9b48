-- A job goes into a FIFO list, and its token onto the own deque, act by act.
use Rattle.std.proofs.Common.{◌≡◌, Bool, true, false, ℕ, refl, subst}
use Rattle.rayon_machine_places.specs.declared.act.Act.TheVariants as acts
use Rattle.rayon_machine_places.specs.declared.act.Seen.TheVariants.{Yes, No, Task}
use Rattle.rayon_machine_places.specs.declared.place.Feeding.{Feeding}
use Rattle.rayon_machine_places.specs.declared.place.Move.{Move}
use Rattle.rayon_machine_places.specs.declared.place.Move.TheVariants.{Stay}
use Rattle.rayon_machine_places.specs.declared.place.Place.TheVariants as at
use Rattle.rayon_machine_places.specs.declared.place.Plan.TheVariants.{Feed}
use Rattle.rayon_machine_places.specs.declared.place.Taken.{Taken}
use Rattle.rayon_machine_places.specs.declared.place.Taken.TheVariants.{Plain}
use Rattle.rayon_machine_places.specs.declared.shape.PoolShape.{PoolShape}
use Rattle.rayon_machine_places.specs.Places.{after_push, count_book}
use Rattle.rayon_drive.specs.Traces.{Adds}
use Rattle.rayon_tasks.specs.Tasks.{WorkOf, OneJob, OnePiece, TwoSides, NoJob, HasJob, taken_by}
use Rattle.rayon_tasks.specs.Tickets.{TicketOf}
use Rattle.rayon_performers.specs.Hands.{Hands, Looks, Same}
use Rattle.rayon_shared.specs.AtHand.{answer}
use Rattle.rayon_performers.proofs.Stretches.{So, by_act}

-- what is seen of a task that brings a job is its name
pub taken_plain : {X : Type 0} (w : WorkOf X) (u : TicketOf) → HasJob w → taken_by w u ≡ Plain u.number
taken_plain (OneJob j) u h = refl
taken_plain (TwoSides a b t) u h = refl
taken_plain OnePiece u h = refl
taken_plain NoJob u h = absurd h

module _ {X G O F : Type 0} (h : PoolShape) (i : ℕ) (f : Feeding) (s t u : Hands X G O F) where
  -- the own deque is looked at before the push of the token
  pub fed_looked : (m : Move) (z : Bool) → So h i m s (Stay (at.LookForToken f)) t → Looks t u → Adds acts.LookOwn (answer z) t.trace u.trace → So h i m s (Stay (at.PushToken f z)) u
  fed_looked m true a d e = by_act h i m s (Stay (at.LookForToken f)) t u Yes refl a d e
  fed_looked m false a d e = by_act h i m s (Stay (at.LookForToken f)) t u No refl a d e

  -- the token was refused, and the job is taken back out of the list
  pub fed_undone : (m : Move) (x : Taken) → x ≡ Plain f.job → So h i m s (Stay (at.TakeFromFifo f)) t → Same t u → Adds (acts.FifoUndo (count_book f.count)) (Task x) t.trace u.trace → So h i m s (Stay (after_push (Feed f))) u
  fed_undone m x is a d e = by_act h i m s (Stay (at.TakeFromFifo f)) t u (Task (Plain f.job)) refl a (d, tt) (subst (λ (z : Taken). Adds (acts.FifoUndo (count_book f.count)) (Task z) t.trace u.trace) is e)
