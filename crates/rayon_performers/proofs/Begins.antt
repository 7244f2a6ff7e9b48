-- A task begins that was taken, and is given out of the hands.
use Rattle.std.proofs.Common.{◌≡◌, ℕ, Option, None, Some, refl, sym, subst, ap, ◌∙◌}
use Rattle.rayon_machine_places.specs.declared.place.JobKind.{JobKind}
use Rattle.rayon_machine_places.specs.declared.place.Move.TheVariants.{Stay, HandIn}
use Rattle.rayon_machine_places.specs.declared.place.Place.TheVariants as at
use Rattle.rayon_machine_places.specs.declared.place.Taken.{Taken}
use Rattle.rayon_machine_places.specs.declared.place.Taken.TheVariants.{Plain, Token}
use Rattle.rayon_machine_places.specs.declared.act.Seen.{Seen}
use Rattle.rayon_machine_places.specs.declared.act.Seen.TheVariants.{Handed, Missing}
use Rattle.rayon_machine_places.specs.declared.shape.PoolShape.{PoolShape}
use Rattle.rayon_machine_places.specs.Places.{begin_act, taken_number}
use Rattle.rayon_drive.specs.Traces.{Adds}
use Rattle.rayon_tasks.specs.Tasks.{HasJob, NoJob, OneJob, OnePiece, TaskOf, TwoSides, WorkOf, taken_by, taken_in}
use Rattle.rayon_tasks.specs.Tickets.{TicketOf, kind_in}
use Rattle.rayon_performers.specs.Begins.{begins_as}
use Rattle.rayon_performers.specs.Hands.{Hands, HasTask, Does, kind_of}
use Rattle.rayon_performers.proofs.Offers.{begun_task}
use Rattle.rayon_performers.proofs.Stretches.{So, first_act}

-- what was taken is a task
abbrev IsPlain : Taken → Type 0
IsPlain (Plain n) = Unit {0}
IsPlain (Token n i b) = ⊥

module _ {X : Type 0} where
  number_by : (w : WorkOf X) (u : TicketOf) → taken_number (taken_by w u) ≡ u.number
  number_by (OneJob j) u = refl
  number_by (TwoSides a b t) u = refl
  number_by OnePiece u = refl
  number_by NoJob u = refl

  -- a task has the number by which it is taken
  pub number_of : (x : TaskOf X) (k : Taken) → taken_in x ≡ k → x.ticket.number ≡ taken_number k
  number_of x k e = sym (number_by x.work x.ticket) ∙ ap taken_number e

  job_by : (w : WorkOf X) (u : TicketOf) → IsPlain (taken_by w u) → HasJob w
  job_by (OneJob j) u p = tt
  job_by (TwoSides a b t) u p = tt
  job_by OnePiece u p = tt
  job_by NoJob u p = absurd p

  -- what is no token brings a job
  pub job_of : (x : TaskOf X) (n : ℕ) → taken_in x ≡ Plain n → HasJob x.work
  job_of x n e = job_by x.work x.ticket (subst (λ (z : Taken). IsPlain z) (sym e) tt)

module _ {X G O F : Type 0} (h : PoolShape) (i : ℕ) (s t v : Hands X G O F) where
  -- what was given out of the hands is in them
  back_in : (r : Option (TaskOf X)) → r ≡ t.task → v ≡ record t { task = None } → t ≡ record v { task = r }
  back_in r e f = subst (λ (z : Hands X G O F). t ≡ record z { task = r }) (sym f) (ap (λ (z : Option (TaskOf X)). record t { task = z }) (sym e))

  plain_so : (n : ℕ) (r : Option (TaskOf X)) → HasTask r (Some (Plain n)) → So h i (Stay (at.BeginTask (Plain n))) s (Stay (at.Run n (kind_of r))) t → So h i (Stay (at.BeginTask (Plain n))) s (begins_as (Plain n) r) t
  plain_so n None k d = absurd k
  plain_so n (Some x) k d = subst (λ (z : ℕ). So h i (Stay (at.BeginTask (Plain n))) s (Stay (at.Run z (kind_in x.ticket))) t) (sym (number_of x (Plain n) k)) d

  token_so : (n j : ℕ) (b : Option ℕ) (m : ℕ) (d : JobKind) (r : Option (TaskOf X)) → HasTask r (Some (Plain m)) → d ≡ kind_of r → So h i (Stay (at.BeginTask (Token n j b))) s (HandIn (at.Run m d) n) t → So h i (Stay (at.BeginTask (Token n j b))) s (begins_as (Token n j b) r) t
  token_so n j b m d None k e a = absurd k
  token_so n j b m d (Some x) k e a =
      subst (λ (z : ℕ). So h i (Stay (at.BeginTask (Token n j b))) s (HandIn (at.Run z (kind_in x.ticket)) n) t) (sym (number_of x (Plain m) k))
      (subst (λ (z : JobKind). So h i (Stay (at.BeginTask (Token n j b))) s (HandIn (at.Run m z) n) t) e a)

  -- by its act, whichever it is
  acted : (k : Taken) (x : Seen) (r : Option (TaskOf X)) → r ≡ t.task → HasTask s.task (Some k) → Does (begin_act k) x s t → Adds (begin_act k) x s.trace t.trace → So h i (Stay (at.BeginTask k)) s (begins_as k r) t
  acted (Plain n) x r e k d a =
      let same : s.task ≡ r = sym (e ∙ ap (λ (z : Hands X G O F). z.task) d.0) in
      plain_so n r (subst (λ (z : Option (TaskOf X)). HasTask z (Some (Plain n))) same k) (subst (λ (z : Option (TaskOf X)). So h i (Stay (at.BeginTask (Plain n))) s (Stay (at.Run n (kind_of z))) t) same (begun_task h i n s t x d a))
  acted (Token n j b) (Handed m o) r e k d a =
      let path = first_act h i (Stay (at.BeginTask (Token n j b))) s t (Handed m o) refl d a in
      token_so n j b m o r (subst (λ (z : Option (TaskOf X)). HasTask z (Some (Plain m))) (sym e) d.1.0) (subst (λ (z : Option (TaskOf X)). o ≡ kind_of z) (sym e) d.1.1) path
  acted (Token n j b) Missing r e k d a =
      let path = first_act h i (Stay (at.BeginTask (Token n j b))) s t Missing refl d a in
      let none : r ≡ None = e ∙ d.1 in
      subst (λ (z : Option (TaskOf X)). So h i (Stay (at.BeginTask (Token n j b))) s (begins_as (Token n j b) z) t) (sym none) path
  acted (Token n j b) _ r e k d a = absurd d.1

  -- and is given out of the hands
  pub begun : (k : Taken) (x : Seen) (r : Option (TaskOf X)) → r ≡ t.task → v ≡ record t { task = None } → HasTask s.task (Some k) → Does (begin_act k) x s t → Adds (begin_act k) x s.trace t.trace → So h i (Stay (at.BeginTask k)) s (begins_as k r) (record v { task = r })
  begun k x r e f has d a = subst (λ (z : Hands X G O F). So h i (Stay (at.BeginTask k)) s (begins_as k r) z) (back_in r e f) (acted k x r e has d a)
