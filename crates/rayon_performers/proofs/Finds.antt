-- The looks that run nothing, act by act: what was taken so far, and where the table leads.
use Rattle.std.proofs.Common.{◌≡◌, ◌⊎◌, inl, inr, ℕ, ◌-◌, ◌==◌, ◌≤◌, ◌++◌, [], ◌∷◌, List, ◌∙◌, Bool, true, false, if◌then◌else◌, Option, None, Some, MatchOption, slice_get, length, length-append, refl, sym, subst, ap, arith}
use Rattle.rayon_machine_places.specs.declared.place.Taken.{Taken}
use Rattle.rayon_machine_places.specs.declared.place.Party.{Party}
use Rattle.rayon_machine_places.specs.declared.place.Party.TheVariants.{Worker}
use Rattle.rayon_machine_places.specs.declared.place.Place.{Place}
use Rattle.rayon_machine_places.specs.declared.place.Place.TheVariants as at
use Rattle.rayon_machine_places.specs.declared.place.Plan.TheVariants.{Detach}
use Rattle.rayon_machine_places.specs.declared.place.Move.{Move}
use Rattle.rayon_machine_places.specs.declared.place.Move.TheVariants.{Stay, Back}
use Rattle.rayon_machine_places.specs.declared.act.Act.{Act}
use Rattle.rayon_machine_places.specs.declared.act.Act.TheVariants as acts
use Rattle.rayon_machine_places.specs.declared.act.Seen.{Seen}
use Rattle.rayon_machine_places.specs.declared.act.Seen.TheVariants.{Yes, No, Task, Missing, Start}
use Rattle.rayon_machine_places.specs.declared.shape.PoolShape.{PoolShape}
use Rattle.rayon_machine_places.specs.Places.{act_of, next_of, next_victim, not_self}
use Rattle.rayon_drive.specs.Paths.{goes}
use Rattle.rayon_drive.specs.Traces.{Adds}
use Rattle.rayon_queues.specs.Deques.{Deque, DequeId, Leaves, Popped, SameDeque, Thief, Unmoved, Visitor}
use Rattle.rayon_tasks.specs.Tasks.{TaskOf, taken_in}
use Rattle.rayon_performers.specs.Hands.{Hands, HasTask, Needs, Does, Same, Looks, PoppedFrom, StolenBy, TakenBy}
use Rattle.rayon_shared.specs.AtHand.{answer}
use Rattle.rayon_performers.specs.Finds.{Found, Kept}
use Rattle.rayon_performers.proofs.Stretches.{So, first_act, by_act}

-- no task was seen
abbrev pub NoTask : Seen → Type 0
NoTask x = (n : Taken) → x ≡ Task n → ⊥

local_goes : (h : PoolShape) (q : Party) (x : Seen) → NoTask x → next_of h q at.LocalPop x ≡ Stay at.LocalTakeCast
local_goes h q (Task n) k = absurd (k n refl)
local_goes h q _ k = refl

module _ {X G O F : Type 0} (s t u : Hands X G O F) where
  missed : (x : Seen) → NoTask x → Does acts.PopOwn x s t → Looks s t
  missed (Task n) k d = absurd (k n refl)
  missed Missing k d = d
  missed _ k d = absurd d.1

  no_cast : (y : Seen) → NoTask y → Does acts.TakeCast y t u → Same t u
  no_cast (Task n) k d = absurd (k n refl)
  no_cast Missing k d = d.0
  no_cast _ k d = absurd d.1

  local_ends : (h : PoolShape) (q : Party) (y : Seen) → NoTask y → next_of h q at.LocalTakeCast y ≡ Back
  local_ends h q (Task n) k = absurd (k n refl)
  local_ends h q _ k = refl

  -- the own deque had none
  local_looked : (h : PoolShape) (i : ℕ) (x : Seen) → NoTask x → Does acts.PopOwn x s t → Adds acts.PopOwn x s.trace t.trace → So h i (Stay at.LocalPop) s (Stay at.LocalTakeCast) t
  local_looked h i x k d a =
      let first = Stay at.LocalPop in
      subst (λ (m : Move). So h i first s m t) (local_goes h (Worker 0 i) x k) (first_act h i first s t x refl d a)

  -- the own deque and the broadcast list had none
  pub local_missed : (h : PoolShape) (i : ℕ) (x y : Seen) → NoTask x → NoTask y → Does acts.PopOwn x s t → Adds acts.PopOwn x s.trace t.trace → Does acts.TakeCast y t u → Adds acts.TakeCast y t.trace u.trace → So h i (Stay at.LocalPop) s Back u
  local_missed h i x y k l d a e b =
      let first = Stay at.LocalPop in
      subst (λ (m : Move). So h i first s m u) (local_ends h (Worker 0 i) y l) (by_act h i first s (Stay at.LocalTakeCast) t u y refl (local_looked h i x k d a) e b)

  -- the own deque had none, and the broadcast list had one
  pub local_took : (h : PoolShape) (i : ℕ) (x : Seen) (n : Taken) → NoTask x → Does acts.PopOwn x s t → Adds acts.PopOwn x s.trace t.trace → Does acts.TakeCast (Task n) t u → Adds acts.TakeCast (Task n) t.trace u.trace → So h i (Stay at.LocalPop) s (Stay (at.BeginTask n)) u
  local_took h i x n k d a e b = by_act h i (Stay at.LocalPop) s (Stay at.LocalTakeCast) t u (Task n) refl (local_looked h i x k d a) e b

  pub missed_unmoved : (x y : Seen) → NoTask x → Does acts.PopOwn x s t → Does acts.TakeCast y t u → Unmoved s.own u.own
  missed_unmoved x y k d e = subst (λ (z : Hands X G O F). Unmoved s.own z.own) (sym e.0) (missed x k d).1.1

  pub missed_same : (x y : Seen) → NoTask x → Does acts.PopOwn x s t → Does acts.TakeCast y t u → SameDeque s.own u.own
  missed_same x y k d e = subst (λ (z : Hands X G O F). SameDeque s.own z.own) (sym e.0) (missed x k d).1.0

  pub missed_left : (x y : Seen) → NoTask x → NoTask y → Does acts.PopOwn x s t → Does acts.TakeCast y t u → u ≡ record s { own = u.own; trace = u.trace }
  missed_left x y k l d e = subst (λ (z : Hands X G O F). z ≡ record s { own = z.own; trace = z.trace }) (sym (no_cast y l e)) (ap (λ (z : Hands X G O F). record z { trace = u.trace }) (missed x k d).0)

  -- only the own deque and the trace are others, and no task is in hand
  abbrev pub Gave : Hands X G O F → Type 0
  Gave v = v ≡ record s { own = v.own; task = None; trace = v.trace }

  -- the piece is given out of the hands
  took_left : (v : Hands X G O F) (x : Seen) (n : Taken) → NoTask x → Does acts.PopOwn x s t → Does acts.TakeCast (Task n) t u → v ≡ record u { task = None } → Gave v
  took_left v x n k d e f = subst (λ (z : Hands X G O F). Gave z) (sym f) (subst (λ (z : Hands X G O F). Gave (record z { task = None })) (sym e.0) (ap (λ (z : Hands X G O F). record z { task = None; trace = u.trace }) (missed x k d).0))

  pub piece_left : (v : Hands X G O F) (x : Seen) (n : Taken) (r : Option (TaskOf X)) → NoTask x → Does acts.PopOwn x s t → Does acts.TakeCast (Task n) t u → r ≡ u.task → v ≡ record u { task = None } → MatchOption r (v ≡ record s { own = v.own; trace = v.trace }) (λ _. Gave v)
  piece_left v x n None k d e g f = absurd (subst (λ (z : Option (TaskOf X)). HasTask z (Some n)) (sym g) e.1)
  piece_left v x n (Some r) k d e g f = took_left v x n k d e f

  pub piece_unmoved : (v : Hands X G O F) (x y : Seen) → NoTask x → Does acts.PopOwn x s t → Does acts.TakeCast y t u → v ≡ record u { task = None } → Unmoved s.own v.own
  piece_unmoved v x y k d e f = subst (λ (z : Hands X G O F). Unmoved s.own z.own) (sym f) (missed_unmoved x y k d e)

  pub piece_same : (v : Hands X G O F) (x y : Seen) → NoTask x → Does acts.PopOwn x s t → Does acts.TakeCast y t u → v ≡ record u { task = None } → SameDeque s.own v.own
  piece_same v x y k d e f = subst (λ (z : Hands X G O F). SameDeque s.own z.own) (sym f) (missed_same x y k d e)

module _ {X G O F : Type 0} (h : PoolShape) (i : ℕ) (m : Move) (s u v : Hands X G O F) where
  -- the task that was found is given out of the hands
  pub given : (n : Taken) (r : Option (TaskOf X)) → r ≡ u.task → v ≡ record u { task = None } → HasTask u.task (Some n) → So h i m s (Stay (at.BeginTask n)) u → MatchOption r (So h i m s Back v) (λ t. So h i m s (Stay (at.BeginTask (taken_in t))) (record v { task = Some t }))
  given n None e f k d = absurd (subst (λ (z : Option (TaskOf X)). HasTask z (Some n)) (sym e) k)
  given n (Some t) e f k d =
      let is : taken_in t ≡ n = subst (λ (z : Option (TaskOf X)). HasTask z (Some n)) (sym e) k in
      let same : u ≡ record v { task = Some t } = subst (λ (z : Hands X G O F). u ≡ record z { task = Some t }) (sym f) (ap (λ (z : Option (TaskOf X)). record u { task = z }) (sym e)) in
      subst (λ (z : Hands X G O F). So h i m s (Stay (at.BeginTask (taken_in t))) z) same (subst (λ (z : Taken). So h i m s (Stay (at.BeginTask z)) u) (sym is) d)

module _ {X G O F : Type 0} (h : PoolShape) (i n : ℕ) (s t u : Hands X G O F) where
  -- the own deque is looked at before the push
  pub push_looked : (z : Bool) → Looks s t → Adds acts.LookOwn (answer z) s.trace t.trace → So h i (Stay (at.LookQueue (Detach 0 n))) s (Stay (at.PushJob (Detach 0 n) z)) t
  push_looked true d a = first_act h i (Stay (at.LookQueue (Detach 0 n))) s t Yes refl d a
  push_looked false d a = first_act h i (Stay (at.LookQueue (Detach 0 n))) s t No refl d a

module _ {X : Type 0} where
  not_empty : (xs ys : List (TaskOf X)) (t : TaskOf X) → xs ++ t ∷ ys ≡ [] → ⊥
  not_empty xs ys t e = let whole = ap length e in absurd (omega (arith, whole, length-append xs (t ∷ ys)))

  -- nothing is popped where nothing is left
  pub none_left : (d e : Deque (TaskOf X)) (o : Option (TaskOf X)) → PoppedFrom d o e → d.left ≡ [] → ⊥
  none_left d e None p n = p
  none_left d e (Some t) p n = by d.oldest_first p.1.2
    where
      by : (z : Bool) → Leaves z d.left t e.left → ⊥
      by false q = not_empty e.left [] t (sym q ∙ n)
      by true q = not_empty q.0 e.left t (sym q.1 ∙ n)

  -- what is given did not come from the own deque
  pub not_popped : (d e : Deque (TaskOf X)) (o : Option (TaskOf X)) → Unmoved d e → MatchOption o (Unmoved d e) (λ t. Popped d t e ⊎ Unmoved d e)
  not_popped d e None m = m
  not_popped d e (Some t) m = inr m

  same_deque : (d e f : Deque (TaskOf X)) → SameDeque d e → SameDeque e f → SameDeque d f
  same_deque d e f a b =
      let x : d.room ≤ e.room = a.2 in
      let y : e.room ≤ f.room = b.2 in
      let z : d.room ≤ f.room = omega arith in
      (b.0 ∙ a.0, b.1 ∙ a.1, z)

  popped_on : (d e f : Deque (TaskOf X)) (t : TaskOf X) → SameDeque d e → Unmoved d e → Popped e t f → Popped d t f
  popped_on d e f t a b p = (p.0 ∙ b.0, p.1 ∙ ap (λ (z : List (TaskOf X)). z ++ t ∷ []) b.1, subst (λ (z : Bool). Leaves z d.left t f.left) a.1 (subst (λ (z : List (TaskOf X)). Leaves e.oldest_first z t f.left) b.2 p.2))

module _ {X G O F : Type 0} where
  -- only the passes, the task in hand and the trace are others
  abbrev pub Moved : Hands X G O F → Hands X G O F → Type 0
  Moved s u = u ≡ record s { own = u.own; inlet = u.inlet; thief = u.thief; task = u.task; trace = u.trace }

  -- nothing was taken so far
  abbrev pub Missed : Hands X G O F → Hands X G O F → Type 0
  Missed s u = Kept s u × (u ≡ record s { own = u.own; thief = u.thief; trace = u.trace })

  -- a place of a yield's look. Until the broadcast list was looked at no pass of another's deque was made
  abbrev pub IsYield : Place → Hands X G O F → Hands X G O F → Type 0
  IsYield at.YieldPop s u = u.thief ≡ s.thief
  IsYield at.YieldTakeCast s u = u.thief ≡ s.thief
  IsYield at.YieldPick s u = Unit {0}
  IsYield (at.YieldSteal v n) s u = Unit {0}
  IsYield at.YieldPopInjected s u = Unit {0}
  IsYield _ s u = ⊥

  yield_goes : (y : Place) (s u : Hands X G O F) → IsYield y s u → goes (Stay y) ≡ true
  yield_goes at.YieldPop s u l = refl
  yield_goes at.YieldTakeCast s u l = refl
  yield_goes at.YieldPick s u l = refl
  yield_goes (at.YieldSteal v n) s u l = refl
  yield_goes at.YieldPopInjected s u l = refl
  yield_goes _ s u l = absurd l

  -- the task in hand was found
  abbrev pub HasFound : Option (TaskOf X) → Hands X G O F → Hands X G O F → Type 0
  HasFound None s u = ⊥
  HasFound (Some t) s u = Found t s u

  -- what a look has made: it goes on or is over with nothing taken, or a task is in hand and not begun
  abbrev pub Looking : Hands X G O F → Hands X G O F → Move → Type 0
  Looking s u (Stay (at.BeginTask n)) = HasTask u.task (Some n) × HasFound u.task s u × Moved s u
  Looking s u (Stay y) = Missed s u × IsYield y s u
  Looking s u Back = Missed s u
  Looking s u m = ⊥

  moved_on : (s u v : Hands X G O F) → Missed s u → Moved u v → Moved s v
  moved_on s u v a b =
      let first : Moved s u = subst (λ (z : Hands X G O F). Moved s z) (sym a.1) refl in
      b ∙ ap (λ (z : Hands X G O F). record z { own = v.own; inlet = v.inlet; thief = v.thief; task = v.task; trace = v.trace }) first

  -- a look that missed
  looked : (s u v : Hands X G O F) → Missed s u → Looks u v → Missed s v
  looked s u v a d =
      let e = ap (λ (z : Hands X G O F). z.inlet) d.0 in
      ((same_deque s.own u.own v.own a.0.0 d.1.0, (d.1.1.0 ∙ a.0.1.0, d.1.1.1 ∙ a.0.1.1, d.1.1.2 ∙ a.0.1.2), e ∙ a.0.2), subst (λ (z : Hands X G O F). z ≡ record s { own = z.own; thief = z.thief; trace = z.trace }) (sym d.0) (ap (λ (z : Hands X G O F). record z { own = v.own; trace = v.trace }) a.1))

  same : (s u v : Hands X G O F) → Missed s u → Same u v → Missed s v
  same s u v a d = subst (λ (z : Hands X G O F). Missed s z) (sym d) (a.0, ap (λ (z : Hands X G O F). record z { trace = v.trace }) a.1)

  not_stolen : (s u v : Hands X G O F) → Missed s u → v ≡ record u { thief = v.thief; trace = v.trace } → Missed s v
  not_stolen s u v a d = subst (λ (z : Hands X G O F). Missed s z) (sym d) (a.0, ap (λ (z : Hands X G O F). record z { thief = v.thief; trace = v.trace }) a.1)

  -- a look that found a task
  found_own : (s u v : Hands X G O F) (o : Option (TaskOf X)) → Missed s u → PoppedFrom u.own o v.own → v.inlet ≡ u.inlet → HasFound o s v
  found_own s u v None a p e = absurd p
  found_own s u v (Some t) a p e = inl (same_deque s.own u.own v.own a.0.0 p.0, popped_on s.own u.own v.own t a.0.0 a.0.1 p.1, e ∙ a.0.2)

  found_other : (s u v : Hands X G O F) (k : ℕ) (o : Option (TaskOf X)) → Missed s u → StolenBy (slice_get u.deques k) o v.thief → Kept s v → HasFound o s v
  found_other s u v k None a p e = absurd (no_task (slice_get u.deques k) v.thief p)
    where
      no_task : (d : Option DequeId) (f : Option (Thief (TaskOf X))) → StolenBy d None f → ⊥
      no_task None f q = q
      no_task (Some d) f q = q
  found_other s u v k (Some t) a p e = inr (inl (k, subst (λ (z : List DequeId). StolenBy (slice_get z k) (Some t) v.thief) (ap (λ (z : Hands X G O F). z.deques) a.1) p, e))

  found_injected : (s u v : Hands X G O F) (o : Option (TaskOf X)) → Missed s u → TakenBy u.inlet o v.inlet → Kept s (record v { inlet = u.inlet }) → HasFound o s v
  found_injected s u v None a p e = absurd p
  found_injected s u v (Some t) a p e = inr (inr (inl (subst (λ (z : Visitor (TaskOf X)). TakenBy z (Some t) v.inlet) a.0.2 p, e.0, e.1)))

  found_piece : (s v : Hands X G O F) (n : Taken) (o : Option (TaskOf X)) → HasTask o (Some n) → Kept s v → v.thief ≡ s.thief → HasFound o s v
  found_piece s v n None h e f = absurd h
  found_piece s v n (Some t) h e f = inr (inr (inr (e, f)))

  either : (s u : Hands X G O F) (z : Bool) (m n : Move) → Looking s u m → Looking s u n → Looking s u (if z then m else n)
  either s u true m n a b = a
  either s u false m n a b = b

  either_place : (s u : Hands X G O F) (z : Bool) (m n : Place) → Looking s u (Stay m) → Looking s u (Stay n) → Looking s u (Stay (if z then m else n))
  either_place s u true m n a b = a
  either_place s u false m n a b = b

  -- one look more
  pub yield_on : (h : PoolShape) (i : ℕ) (s u v : Hands X G O F) (y : Place) (x : Seen) → IsYield y s u → Missed s u → Does (act_of (Worker 0 i) y) x u v → Looking s v (next_of h (Worker 0 i) y x)
  yield_on h i s u v at.YieldPop (Task n) l a d = (d.1.0, found_own s u v v.task a d.1.1 (ap (λ (z : Hands X G O F). z.inlet) d.0), moved_on s u v a (subst (λ (z : Hands X G O F). Moved u z) (sym d.0) refl))
  yield_on h i s u v at.YieldPop Missing l a d = (looked s u v a d, ap (λ (z : Hands X G O F). z.thief) d.0 ∙ l)
  yield_on h i s u v at.YieldPop _ l a d = absurd d.1
  yield_on h i s u v at.YieldTakeCast (Task n) l a d = (d.1, found_piece s v n v.task d.1 (subst (λ (z : Hands X G O F). Kept s z) (sym d.0) a.0) (ap (λ (z : Hands X G O F). z.thief) d.0 ∙ l), moved_on s u v a (subst (λ (z : Hands X G O F). Moved u z) (sym d.0) refl))
  yield_on h i s u v at.YieldTakeCast Missing l a d = either s v (h.workers == 1) (Stay at.YieldPopInjected) (Stay at.YieldPick) (same s u v a d.0, tt) (same s u v a d.0, tt)
  yield_on h i s u v at.YieldTakeCast _ l a d = absurd d.1
  yield_on h i s u v at.YieldPick (Start n) l a d = (same s u v a d.0, tt)
  yield_on h i s u v at.YieldPick _ l a d = (same s u v a d.0, tt)
  yield_on h i s u v (at.YieldSteal k m) (Task n) l a d = (d.1.0, found_other s u v k v.task a d.1.1 (subst (λ (z : Hands X G O F). Kept s z) (sym d.0) a.0), moved_on s u v a (subst (λ (z : Hands X G O F). Moved u z) (sym d.0) refl))
  yield_on h i s u v (at.YieldSteal k m) Missing l a d = either_place s v (m == 0) at.YieldPopInjected (at.YieldSteal (not_self h.workers i (next_victim h.workers k)) (m - 1)) (not_stolen s u v a d.0, tt) (not_stolen s u v a d.0, tt)
  yield_on h i s u v (at.YieldSteal k m) _ l a d = absurd d.1
  yield_on h i s u v at.YieldPopInjected (Task n) l a d = (d.1.0, found_injected s u v v.task a d.1.1 (subst (λ (z : Hands X G O F). Kept s (record z { inlet = u.inlet })) (sym d.0) a.0), moved_on s u v a (subst (λ (z : Hands X G O F). Moved u z) (sym d.0) refl))
  yield_on h i s u v at.YieldPopInjected Missing l a d = same s u v a d.0
  yield_on h i s u v at.YieldPopInjected _ l a d = absurd d.1
  yield_on h i s u v _ _ l a d = absurd l

  -- where it goes on nothing was taken
  pub still_looks : (s u : Hands X G O F) (y : Place) → ((n : Taken) → y ≡ at.BeginTask n → ⊥) → Looking s u (Stay y) → Missed s u × IsYield y s u
  still_looks s u (at.BeginTask n) k a = absurd (k n refl)
  still_looks s u _ k a = a

  -- what was found is given out of the hands
  pub given_found : (s u v : Hands X G O F) (n : Taken) (r : Option (TaskOf X)) → r ≡ u.task → v ≡ record u { task = None } → Looking s u (Stay (at.BeginTask n)) → MatchOption r (Kept s v) (λ t. Found t s v)
  given_found s u v n None e f k = absurd (subst (λ (z : Option (TaskOf X)). HasTask z (Some n)) (sym e) k.0)
  given_found s u v n (Some t) e f k = subst (λ (z : Hands X G O F). Found t s z) (sym f) (subst (λ (z : Option (TaskOf X)). HasFound z s u) (sym e) k.1)

  pub given_left : (s u v : Hands X G O F) (n : Taken) (r : Option (TaskOf X)) → r ≡ u.task → v ≡ record u { task = None } → Looking s u (Stay (at.BeginTask n)) → MatchOption r (v ≡ record s { own = v.own; thief = v.thief; trace = v.trace }) (λ _. v ≡ record s { own = v.own; inlet = v.inlet; thief = v.thief; task = None; trace = v.trace })
  given_left s u v n None e f k = absurd (subst (λ (z : Option (TaskOf X)). HasTask z (Some n)) (sym e) k.0)
  given_left s u v n (Some t) e f k = subst (λ (z : Hands X G O F). z ≡ record s { own = z.own; inlet = z.inlet; thief = z.thief; task = None; trace = z.trace }) (sym f) (ap (λ (z : Hands X G O F). record z { task = None }) k.2)

  -- where the look is over nothing was taken
  pub ended : (s u : Hands X G O F) (m : Move) → ((y : Place) → m ≡ Stay y → ⊥) → Looking s u m → (m ≡ Back) × Missed s u
  ended s u (Stay y) k a = absurd (k y refl)
  ended s u Back k a = (refl, a)
  ended s u _ k a = absurd a

  -- no look of a yield asks anything
  look_needs : (i : ℕ) (y : Place) (s u : Hands X G O F) → IsYield y s u → Needs (act_of (Worker 0 i) y) u
  look_needs i at.YieldPop s u l = tt
  look_needs i at.YieldTakeCast s u l = tt
  look_needs i at.YieldPick s u l = tt
  look_needs i (at.YieldSteal v n) s u l = tt
  look_needs i at.YieldPopInjected s u l = tt
  look_needs i _ s u l = absurd l

  pub yield_needs : (i : ℕ) (q : Party) (y : Place) (b : Act) (s u : Hands X G O F) → q ≡ Worker 0 i → b ≡ act_of q y → IsYield y s u → Needs b u
  yield_needs i q y b s u r e l =
      let act : b ≡ act_of (Worker 0 i) y = subst (λ (z : Party). b ≡ act_of z y) r e in
      subst (λ (z : Act). Needs z u) (sym act) (look_needs i y s u l)

  -- one look more: where the table leads, and what was found
  pub one_more : (h : PoolShape) (i : ℕ) (q : Party) (m : Move) (s u v : Hands X G O F) (y : Place) (x : Seen) (b : Act) (n : Move) →
      q ≡ Worker 0 i → b ≡ act_of q y → n ≡ next_of h q y x → So h i m s (Stay y) u → Missed s u → IsYield y s u → Does b x u v → Adds b x u.trace v.trace → So h i m s n v × Looking s v n
  one_more h i q m s u v y x b n r e f p a l d c =
      let act : b ≡ act_of (Worker 0 i) y = subst (λ (z : Party). b ≡ act_of z y) r e in
      let next : next_of h (Worker 0 i) y x ≡ n = sym (subst (λ (z : Party). n ≡ next_of h z y x) r f) in
      let does : Does (act_of (Worker 0 i) y) x u v = subst (λ (z : Act). Does z x u v) act d in
      let adds : Adds (act_of (Worker 0 i) y) x u.trace v.trace = subst (λ (z : Act). Adds z x u.trace v.trace) act c in
      (subst (λ (z : Move). So h i m s z v) next (by_act h i m s (Stay y) u v x (yield_goes y s u l) p does adds), subst (λ (z : Move). Looking s v z) next (yield_on h i s u v y x l a does))
