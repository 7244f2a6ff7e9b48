-- The stretches of a join, of an install, and of the end of a run, act by act.
use Rattle.std.proofs.Common.{◌≡◌, true, false, Bool, ℕ, ◌≤◌, ◌&&◌, ◌==◌, nat_lt, if◌then◌else◌, Result, Ok, Err, MatchResult, ap, refl, sym, subst, arith, rules}
use Rattle.rayon_machine_places.specs.declared.place.Count.TheVariants.{OfPool}
use Rattle.rayon_machine_places.specs.declared.place.Taken.TheVariants.{Plain}
use Rattle.rayon_machine_places.specs.declared.place.Party.{Party}
use Rattle.rayon_machine_places.specs.declared.place.Party.TheVariants.{Worker}
use Rattle.rayon_machine_places.specs.declared.place.Latch.TheVariants.{OfCall}
use Rattle.rayon_machine_places.specs.declared.place.OpenCall.{OpenCall}
use Rattle.rayon_machine_places.specs.declared.place.JobKind.{JobKind}
use Rattle.rayon_machine_places.specs.declared.place.JobKind.TheVariants.{Direct}
use Rattle.rayon_machine_places.specs.declared.place.Plan.TheVariants.{Here}
use Rattle.rayon_machine_places.specs.declared.place.Then.{Then}
use Rattle.rayon_machine_places.specs.declared.place.Move.{Move}
use Rattle.rayon_machine_places.specs.declared.place.Move.TheVariants.{Stay, Enter, HandBack}
use Rattle.rayon_machine_places.specs.declared.place.Place.TheVariants as at
use Rattle.rayon_machine_places.specs.declared.act.Act.TheVariants as acts
use Rattle.rayon_machine_places.specs.declared.act.Seen.{Seen}
use Rattle.rayon_machine_places.specs.declared.act.Seen.TheVariants.{Begun, Done, Missing, Refused, Yes, No, Task}
use Rattle.rayon_machine_places.specs.declared.shape.PoolShape.{PoolShape}
use Rattle.rayon_machine_places.specs.Places.{next_of, walk, finish}
use Rattle.rayon_drive.specs.Traces.{Adds}
use Rattle.rayon_performers.specs.Calls.{own_join}
use Rattle.rayon_atomics.specs.declared.views.Guard.{Guard}
use Rattle.rayon_performers.specs.Hands.{Hands, Does, Looks, kind_of}
use Rattle.rayon_performers.specs.Waits.{holding}
use Rattle.rayon_tasks.specs.Tickets.{TicketOf}
use Rattle.rayon_shared.specs.AtHand.{answer}
use Rattle.rayon_performers.proofs.Stretches.{So, first_act, by_act}

module _ {X G O F : Type 0} (h : PoolShape) (i n : ℕ) (s t : Hands X G O F) where
  -- the unit of an install that runs its job at once is taken, or refused
  pub install_raised : {U E : Type 0} (r : Result U E) → MatchResult r (λ _. Does (acts.Raise (OfPool 0) n) Done s t) (λ _. Does (acts.Raise (OfPool 0) n) Refused s t) → MatchResult r (λ _. Adds (acts.Raise (OfPool 0) n) Done s.trace t.trace) (λ _. Adds (acts.Raise (OfPool 0) n) Refused s.trace t.trace) → MatchResult r (λ _. So h i (Stay (at.RaiseCount (Here 0 n))) s (Enter (at.AtOnce 0 n) (at.BeginHere n)) t) (λ _. So h i (Stay (at.RaiseCount (Here 0 n))) s (HandBack (Here 0 n)) t)
  install_raised (Ok u) d e = first_act h i (Stay (at.RaiseCount (Here 0 n))) s t Done refl d e
  install_raised (Err u) d e = first_act h i (Stay (at.RaiseCount (Here 0 n))) s t Refused refl d e

  pub begun : (x : Seen) → Does (acts.Begin n) x s t → Adds (acts.Begin n) x s.trace t.trace → So h i (Stay (at.BeginHere n)) s (Stay (at.Run n Direct)) t
  begun x d e = first_act h i (Stay (at.BeginHere n)) s t x refl d e

  pub begun_task : (x : Seen) → Does (acts.Begin n) x s t → Adds (acts.Begin n) x s.trace t.trace → So h i (Stay (at.BeginTask (Plain n))) s (Stay (at.Run n (kind_of s.task))) t
  begun_task (Begun k) d e = subst (λ (z : JobKind). So h i (Stay (at.BeginTask (Plain n))) s (Stay (at.Run n z)) t) d.1 (first_act h i (Stay (at.BeginTask (Plain n))) s t (Begun k) refl d e)
  begun_task _ d e = absurd d.1

module _ {X G O F : Type 0} (h : PoolShape) (i n : ℕ) (m : Move) (s t u : Hands X G O F) where
  pub join_looked : (z : Bool) → So h i m s (Stay (at.LookQueue (own_join n))) t → Looks t u → Adds acts.LookOwn (answer z) t.trace u.trace → So h i m s (Stay (at.PushJob (own_join n) z)) u
  join_looked true a d e = by_act h i m s (Stay (at.LookQueue (own_join n))) t u Yes refl a d e
  join_looked false a d e = by_act h i m s (Stay (at.LookQueue (own_join n))) t u No refl a d e

none_owed : (k : ℕ) → k ≤ 0 → nat_lt 0 k ≡ false
none_owed k e = let z : k ≡ 0 = omega arith in subst (λ (r : ℕ). nat_lt 0 r ≡ false) (sym z) refl

-- a walk with nothing owed is over
pub no_walk : (h : PoolShape) (q : Party) (p k i : ℕ) (t : Then) → k ≤ 0 → walk h q p k i t ≡ finish q t
no_walk h q p k i t e = subst (λ (z : Bool). (if z && nat_lt i h.workers then Stay (at.LockToWake (record { pool = p; owed = k; worker = i; then = t })) else finish q t) ≡ finish q t) (sym (none_owed k e)) refl

module _ {X G O F : Type 0} (h : PoolShape) (i : ℕ) (o : OpenCall) (s t u : Hands X G O F) where
  pub join_probed : (z : Bool) → Does (acts.Probe (OfCall o.number)) (answer z) s t → Adds (acts.Probe (OfCall o.number)) (answer z) s.trace t.trace → So h i (Stay (at.JoinProbe o)) s (next_of h (Worker 0 i) (at.JoinProbe o) (answer z)) t
  join_probed z d e = first_act h i (Stay (at.JoinProbe o)) s t (answer z) refl d e

  pub join_popped : (x : Seen) → So h i (Stay (at.JoinProbe o)) s (Stay (at.JoinPop o)) t → Does acts.PopOwn x t u → Adds acts.PopOwn x t.trace u.trace → So h i (Stay (at.JoinProbe o)) s (next_of h (Worker 0 i) (at.JoinPop o) x) u
  join_popped x a d e = by_act h i (Stay (at.JoinProbe o)) s (Stay (at.JoinPop o)) t u x refl a d e

  pub own_popped : (x : Seen) → x ≡ Task (Plain o.job) → So h i (Stay (at.JoinProbe o)) s (next_of h (Worker 0 i) (at.JoinPop o) x) u → So h i (Stay (at.JoinProbe o)) s (Enter (at.SecondSide o) (at.BeginHere o.job)) u
  own_popped x e a =
      let z : (o.job == o.job) ≡ true = search rules in
      subst (λ (r : Bool). So h i (Stay (at.JoinProbe o)) s (if r then Enter (at.SecondSide o) (at.BeginHere o.job) else Enter (at.JoinProbe o) (at.BeginTask (Plain o.job))) u) z
      (subst (λ (r : Seen). So h i (Stay (at.JoinProbe o)) s (next_of h (Worker 0 i) (at.JoinPop o) r) u) e a)

module _ {X G O F : Type 0} (c : TicketOf) (l : Guard) where
  -- a pop of the own deque leaves a call alone that is kept beside what is at hand
  pub pops_holding : (x : Seen) (s t : Hands X G O F) → Does acts.PopOwn x s t → Does acts.PopOwn x (holding c l s) (holding c l t)
  pops_holding (Task n) s t d = (ap (holding c l) d.0, d.1)
  pops_holding Missing s t d = (ap (holding c l) d.0, d.1)
  pops_holding _ s t d = absurd d.1
