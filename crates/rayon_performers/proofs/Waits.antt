-- A wait ends with a task that begins above it, or with what it waits for; a join that does not find its own second side
-- finds another task, or ends as the wait for the thief's answer does.
use Rattle.std.proofs.Common.{◌≡◌, inl, inr, ℕ, Bool, true, false, ◌==◌, if◌then◌else◌, Some, refl, ap}
use Rattle.std.proofs.lemmas.Bool.{eqb-true}
use Rattle.rayon_machine_places.specs.declared.place.Ending.TheVariants.{Fine}
use Rattle.rayon_machine_places.specs.declared.place.OpenCall.{OpenCall}
use Rattle.rayon_machine_places.specs.declared.place.Party.{Party}
use Rattle.rayon_machine_places.specs.declared.place.Party.TheVariants.{Worker}
use Rattle.rayon_machine_places.specs.declared.place.Taken.TheVariants.{Plain, Token}
use Rattle.rayon_machine_places.specs.declared.place.Target.{Target}
use Rattle.rayon_machine_places.specs.declared.place.Target.TheVariants.{Termination, Answer}
use Rattle.rayon_machine_places.specs.declared.place.Place.TheVariants as at
use Rattle.rayon_machine_places.specs.declared.place.Move.{Move}
use Rattle.rayon_machine_places.specs.declared.place.Move.TheVariants.{Stay, Enter, Back}
use Rattle.rayon_machine_places.specs.declared.act.Act.TheVariants as acts
use Rattle.rayon_machine_places.specs.declared.act.Seen.{Seen}
use Rattle.rayon_machine_places.specs.declared.act.Seen.TheVariants.{Task}
use Rattle.rayon_machine_places.specs.declared.shape.PoolShape.{PoolShape}
use Rattle.rayon_machine_places.specs.Places.{fresh, latch_of, next_of}
use Rattle.rayon_drive.specs.Traces.{Adds}
use Rattle.rayon_performers.specs.declared.reclaimed.Reclaimed.{Reclaimed}
use Rattle.rayon_performers.specs.declared.reclaimed.Reclaimed.TheVariants.{Other, Answered}
use Rattle.rayon_performers.specs.Hands.{Does, Hands}
use Rattle.rayon_shared.specs.AtHand.{HasTicket, answer}
use Rattle.rayon_performers.specs.Keeps.{does_at}
use Rattle.rayon_shared.specs.Seats.{Resting}
use Rattle.rayon_performers.specs.Stands.{Anyhow, At, Hand, Joins, Left, call_to, hand}
use Rattle.rayon_performers.specs.Waits.{FoundSo, Rejoined, Waited, rejoins, units_after}
use Rattle.rayon_performers.proofs.Stretches.{So, first_act, by_act}

module _ {X G O F : Type 0} where
  -- so ends a wait, and so a join's look, that began with so many units
  abbrev pub EndsWait : ℕ → Target → Move → Hand X G O F → Type 0
  EndsWait n g m u = Waited g m × (u.holds ≡ units_after m n)

  abbrev pub EndsJoin : ℕ → OpenCall → Move → Hand X G O F → Type 0
  EndsJoin n o m u = Rejoined o m × (u.holds ≡ units_after m n)

  pub wait_begins : (i : ℕ) (s : Hands X G O F) (g : Target) → HasTicket s.call (call_to g) → Resting s.chair → At (EndsWait s.holds g) (Worker 0 i) s (Stay (at.ProbeWorking (fresh g)))
  wait_begins i s g k r = (k, ((k, left g, λ t u e. ((refl, tt), e)), r))
    where
      left : (l : Target) → Left (EndsWait s.holds l) l s.holds
      left Termination = λ u e. (refl, e)
      left (Answer o f) = λ u e. (tt, e)

  pub wait_stands : (i : ℕ) (s : Hands X G O F) (g : Target) → HasTicket s.call (call_to g) → Resting s.chair → At Anyhow (Worker 0 i) s (Stay (at.ProbeWorking (fresh g)))
  wait_stands i s g k r = (k, ((k, left g, λ t u e. tt), r))
    where
      left : (l : Target) → Left (Anyhow {X = X} {G = G} {O = O} {F = F}) l s.holds
      left Termination = λ u e. tt
      left (Answer o f) = λ u e. tt

  -- a join looks at its latch
  pub join_stands : (i : ℕ) (s : Hands X G O F) (o : OpenCall) → HasTicket s.call (Some o.number) → Resting s.chair → HasTicket s.call (Some o.number) × (Joins Anyhow o (hand s) × Resting s.chair)
  join_stands i s o k r = (k, (((k, λ u e. tt, λ t u e. tt), λ u e. tt, λ t u e. tt), r))

  -- it has seen that set
  pub set_ends : (i : ℕ) (s : Hands X G O F) (o : OpenCall) → At Anyhow (Worker 0 i) s (Stay (at.TakeResult o (Some Fine))) → At (EndsJoin s.holds o) (Worker 0 i) s (Stay (at.TakeResult o (Some Fine)))
  set_ends i s o a = (a.0, (a.1.0, λ u e. (tt, e), a.1.2))

  -- or has taken no task of its own deque, or not its own second side
  pub popped_ends : (h : PoolShape) (i : ℕ) (s : Hands X G O F) (o : OpenCall) (x : Seen) → (x ≡ Task (Plain o.job) → ⊥) → At Anyhow (Worker 0 i) s (next_of h (Worker 0 i) (at.JoinPop o) x) → At (EndsJoin s.holds o) (Worker 0 i) s (next_of h (Worker 0 i) (at.JoinPop o) x)
  popped_ends h i s o (Task (Token k j b)) n a = (((inl refl, tt), refl), a.1, a.2)
  popped_ends h i s o (Task (Plain t)) n a = by (t == o.job) refl a
    where
      by : (z : Bool) → (t == o.job) ≡ z → At Anyhow (Worker 0 i) s (if z then Enter (at.SecondSide o) (at.BeginHere o.job) else Enter (at.JoinProbe o) (at.BeginTask (Plain t))) → At (EndsJoin s.holds o) (Worker 0 i) s (if z then Enter (at.SecondSide o) (at.BeginHere o.job) else Enter (at.JoinProbe o) (at.BeginTask (Plain t)))
      by true e b = absurd (n (ap (λ (z : ℕ). Task (Plain z)) (eqb-true t o.job e)))
      by false e b = (((inl refl, tt), refl), b.1, b.2)
  popped_ends h i s o _ n a = (tt, (((a.1.0.0.0, λ u e. (tt, e), λ t u e. ((inr refl, tt), e)), λ t u e. ((inl refl, tt), e)), a.1.1))

  -- what a join has found is in hand
  pub found_so : (q : Party) (s : Hands X G O F) (o : OpenCall) (r : Reclaimed) → At Anyhow q s (rejoins o r) → FoundSo o s r
  found_so q s o (Other t true) a = (a.2.0, a.2.1)
  found_so q s o (Other t false) a = (a.2.0, a.2.1)
  found_so q s o Answered a = tt

-- a wait on no call's latch gives no unit back
pub stops_even : (h : ℕ) (m : Move) → Waited Termination m → units_after m h ≡ h
stops_even h Back a = absurd a
stops_even h _ a = refl

module _ {X G O F : Type 0} (h : PoolShape) (i : ℕ) (g : Target) (s t u : Hands X G O F) where
  -- a wait looks at its latch first
  pub working_probed : (z : Bool) → Does (acts.Probe (latch_of g)) (answer z) s t → Adds (acts.Probe (latch_of g)) (answer z) s.trace t.trace → So h i (Stay (at.ProbeWorking (fresh g))) s (next_of h (Worker 0 i) (at.ProbeWorking (fresh g)) (answer z)) t
  working_probed z d e = first_act h i (Stay (at.ProbeWorking (fresh g))) s t (answer z) refl d e

  -- and then into the own deque
  pub working_popped : (x : Seen) → So h i (Stay (at.ProbeWorking (fresh g))) s (Stay (at.PopWorking (fresh g))) t → Does acts.PopOwn x t u → Adds acts.PopOwn x t.trace u.trace → So h i (Stay (at.ProbeWorking (fresh g))) s (next_of h (Worker 0 i) (at.PopWorking (fresh g)) x) u
  working_popped x a d e = by_act h i (Stay (at.ProbeWorking (fresh g))) s (Stay (at.PopWorking (fresh g))) t u x refl a d e

  -- what it has at hand after the first look, and after both
  pub probed_stands : (z : Bool) → HasTicket s.call (call_to g) → Resting s.chair → Does (acts.Probe (latch_of g)) (answer z) s t → At Anyhow (Worker 0 i) t (next_of h (Worker 0 i) (at.ProbeWorking (fresh g)) (answer z))
  probed_stands z k r d = does_at Anyhow s t h 0 i (at.ProbeWorking (fresh g)) (answer z) (wait_stands i s g k r) d

  pub popped_stands : (x : Seen) → At Anyhow (Worker 0 i) t (Stay (at.PopWorking (fresh g))) → Does acts.PopOwn x t u → At Anyhow (Worker 0 i) u (next_of h (Worker 0 i) (at.PopWorking (fresh g)) x)
  popped_stands x a d = does_at Anyhow t u h 0 i (at.PopWorking (fresh g)) x a d
