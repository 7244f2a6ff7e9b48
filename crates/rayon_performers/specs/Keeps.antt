-- At each place a worker has at hand what the act there asks, and after it what belongs to where the table leads.
use Rattle.std.specs.Prelude.{◌≡◌, ℕ, ◌+◌, ◌-◌, ◌==◌, nat_lt, ◌&&◌, if◌then◌else◌, Bool, true, false, not, Option, None, Some}
use Rattle.std.proofs.Common.{refl, sym, subst, ap}
use Rattle.std.proofs.lemmas.Bool.{eqb-true}
use Rattle.rayon_machine_places.specs.declared.place.Count.TheVariants.{OfPool}
use Rattle.rayon_machine_places.specs.declared.place.JobKind.TheVariants.{Direct}
use Rattle.rayon_machine_places.specs.declared.place.Party.{Party}
use Rattle.rayon_machine_places.specs.declared.place.Party.TheVariants.{Worker, Caller}
use Rattle.rayon_machine_places.specs.declared.place.Latch.{Latch}
use Rattle.rayon_machine_places.specs.declared.place.Latch.TheVariants.{Terminate, OfCall}
use Rattle.rayon_machine_places.specs.declared.place.Target.{Target}
use Rattle.rayon_machine_places.specs.declared.place.Target.TheVariants.{Termination, Answer}
use Rattle.rayon_machine_places.specs.declared.place.OpenCall.{OpenCall}
use Rattle.rayon_machine_places.specs.declared.place.Rounds.{Rounds}
use Rattle.rayon_machine_places.specs.declared.place.Rounds.TheVariants.{Failed, Announced}
use Rattle.rayon_machine_places.specs.declared.place.Then.{Then}
use Rattle.rayon_machine_places.specs.declared.place.Then.TheVariants.{Resume}
use Rattle.rayon_machine_places.specs.declared.place.Wait.{Wait}
use Rattle.rayon_machine_places.specs.declared.place.Settling.{Settling}
use Rattle.rayon_machine_places.specs.declared.place.Place.{Place}
use Rattle.rayon_machine_places.specs.declared.place.Place.TheVariants as at
use Rattle.rayon_machine_places.specs.declared.place.Taken.{Taken}
use Rattle.rayon_machine_places.specs.declared.place.Taken.TheVariants.{Plain, Token}
use Rattle.rayon_machine_places.specs.declared.place.Move.{Move}
use Rattle.rayon_machine_places.specs.declared.place.Move.TheVariants.{Stay, Enter, HandIn, Mark}
use Rattle.rayon_machine_places.specs.declared.act.Seen.{Seen}
use Rattle.rayon_machine_places.specs.declared.act.Seen.TheVariants.{Done, Yes, Task, Missing, Jec, Word, Start, Wakes, Begun, Handed, Found}
use Rattle.rayon_machine_places.specs.declared.shape.PoolShape.{PoolShape}
use Rattle.rayon_machine_places.specs.Places.{latch_of, act_of, next_of, after_wait, finish, walk, settle, after_set, after_found, is_taken, after_failure, set_call, next_victim, not_self, is_rest}
use Rattle.rayon_drive.specs.Moves.{stays_at}
use Rattle.rayon_drive.specs.Paths.{goes, place_of}
use Rattle.rayon_atomics.specs.declared.views.Watch.{Watch}
use Rattle.rayon_sleep.specs.Berths.{Rests, Searches, Sleeps}
use Rattle.rayon_performers.specs.Hands.{Hands, HasTask, Needs, Does, Sees, after}
use Rattle.rayon_shared.specs.AtHand.{HasTicket}
use Rattle.rayon_performers.specs.Seating.{begins, ends, held, loads, never, stays, stepped, wakes}
use Rattle.rayon_shared.specs.Seats.{AddsInactive, Announces, Loads, Relocks, Resting, Searching, SubsInactive, SubsSleeping, Tries}
use Rattle.rayon_performers.specs.Sights.{seen_set}
use Rattle.rayon_performers.specs.Stands.{Anyhow, At, Ended, Ends, Going, Hand, IsWorker, Joins, Left, Next, Runs, SawSet, Waits, Where, call_to, hand}

-- at what no drive leads to nothing stands
nowhere : (z : Bool) (A B : Type 0) → Where z ⊥ (A × B × ⊥) → ⊥
nowhere true A B a = a
nowhere false A B a = a.2

-- where a token was spent its job's run stands
handed : (z : Bool) (A B C D E : Type 0) → Where z ⊥ ((A × B) × C × D) → Where z E (B × C × D)
handed true A B C D E a = absurd a
handed false A B C D E a = (a.0.1, a.1, a.2)

module _ {X G O F : Type 0} (E : Move → Hand X G O F → Type 0) where
  pub at_stays : (q : Party) (s : Hands X G O F) (m : Move) (y : Place) → place_of m ≡ Some y → At E q s m → At E q s (Stay y)
  at_stays q s m y e a = stays_at (λ (v : Hands X G O F) (k : Move). At E q v k) (λ v z c k b. absurd (nowhere (not (is_rest z)) (E (Mark z c k) (hand v)) (Resting v.chair) b)) (λ v z n b. handed (not (is_rest z)) (E (HandIn z n) (hand v)) (E (Stay z) (hand v)) (Resting v.chair) (Ended (hand v) (Stay z)) (Going E q v (Stay z)) b) s m y e a

  -- the end that a drive has
  ends_so : (m : Move) (u : Hand X G O F) → Ends E m u → E m u
  ends_so (HandIn y k) u a = a.0
  ends_so _ u a = a

  -- where a program goes on it has what its act asks, and else it has ended
  pub going : (q : Party) (s : Hands X G O F) (m : Move) → goes m ≡ true → At E q s m → Going E q s m
  going q s m g a = subst (λ (z : Bool). Where z (Going E q s m) (Ends E m (hand s) × Resting s.chair × Ended (hand s) m)) g a

  pub ended : (q : Party) (s : Hands X G O F) (m : Move) → goes m ≡ false → At E q s m → E m (hand s) × Resting s.chair × Ended (hand s) m
  ended q s m g a =
      let e = subst (λ (z : Bool). Where z (Going E q s m) (Ends E m (hand s) × Resting s.chair × Ended (hand s) m)) g a in
      (ends_so m (hand s) e.0, e.1, e.2)

  -- what follows once workers were woken and latches set
  next_at : (s : Hands X G O F) (p i : ℕ) (m : Move) → Next E (hand s) m × Resting s.chair → At E (Worker p i) s m
  next_at s p i (Stay (at.ProbeWorking k)) a = (a.0.0, a)
  next_at s p i (Stay (at.TakeResult o f)) a = (a.0.0, (a.0.1, a.0.2, a.1))
  next_at s p i (Stay at.Stopped) a = (a.0.0, a.1, a.0.1)
  next_at s p i (Stay _) a = absurd a.0
  next_at s p i (Mark k c n) a = absurd a.0.1
  next_at s p i (HandIn k n) a = absurd a.0
  next_at s p i _ a = (a.0.0, a.1, a.0.1)

  pub walk_at : (s : Hands X G O F) (h : PoolShape) (p i r k j : ℕ) (t : Then) → Next E (hand s) (finish (Worker p i) t) × Resting s.chair → At E (Worker p i) s (walk h (Worker p i) r k j t)
  walk_at s h p i r k j t a = by (nat_lt 0 k && nat_lt j h.workers)
    where
      by : (z : Bool) → At E (Worker p i) s (if z then Stay (at.LockToWake (record { pool = r; owed = k; worker = j; then = t })) else finish (Worker p i) t)
      by true = (tt, a)
      by false = next_at s p i (finish (Worker p i) t) a

  pub settle_at : (s : Hands X G O F) (h : PoolShape) (p i r j : ℕ) (t : Then) → Next E (hand s) (finish (Worker p i) t) × Resting s.chair → At E (Worker p i) s (settle h (Worker p i) r j t)
  settle_at s h p i r j t a = by (nat_lt j h.workers)
    where
      by : (z : Bool) → At E (Worker p i) s (if z then Stay (at.SetLatch (record { latch = Terminate; pool = r; worker = j; then = t })) else finish (Worker p i) t)
      by true = (tt, a)
      by false = next_at s p i (finish (Worker p i) t) a

  after_set_at : (s : Hands X G O F) (h : PoolShape) (p i : ℕ) (x : Settling) (l : Latch) → Next E (hand s) (finish (Worker p i) x.then) × Resting s.chair → At E (Worker p i) s (after_set h (Worker p i) x l)
  after_set_at s h p i x Terminate a = settle_at s h p i x.pool (x.worker + 1) x.then a
  after_set_at s h p i x (OfCall c) a = next_at s p i (finish (Worker p i) x.then) a

  pub told_at : (s : Hands X G O F) (p i c : ℕ) (o : Party) (t : Then) → HasTicket s.reply (Some c) → Next E (hand s) (finish (Worker p i) t) × Resting s.chair → At E (Worker p i) s (Stay (set_call c o t))
  told_at s p i c (Worker r j) t k a = (k, a)
  told_at s p i c (Caller n) t k a = (k, a)

  -- a wait is left
  left_next : (s : Hand X G O F) (g : Target) → HasTicket s.call (call_to g) → Left E g s.holds → SawSet s (latch_of g) → Next E s (Stay (after_wait g))
  left_next s Termination k e z = (e s refl, z)
  left_next s (Answer o f) k e z = (k, z, e)

  failed_at : (s : Hands X G O F) (h : PoolShape) (p i : ℕ) (k : Wait) (r : Rounds) → Waits E k.target (hand s) × Searching s.chair → At E (Worker p i) s (Stay (after_failure h k r))
  failed_at s h p i k Announced a = (a.0.0, a)
  failed_at s h p i k (Failed n) a = by (nat_lt n h.limit)
    where
      by : (z : Bool) → At E (Worker p i) s (Stay (if z then at.ProbeIdle (record k { rounds = Failed (n + 1) }) else at.AnnounceSelf k))
      by true = (a.0.0, a)
      by false = (a.1, a)

  either : (q : Party) (s : Hands X G O F) (z : Bool) (m n : Move) → At E q s m → At E q s n → At E q s (if z then m else n)
  either q s true m n a b = a
  either q s false m n a b = b

  either_place : (q : Party) (s : Hands X G O F) (z : Bool) (m n : Place) → At E q s (Stay m) → At E q s (Stay n) → At E q s (Stay (if z then m else n))
  either_place q s true m n a b = a
  either_place q s false m n a b = b

  -- a task was found that begins
  begins_at : (s : Hands X G O F) (p i : ℕ) (n : Taken) → HasTask s.task (Some n) → Runs E s.holds → Resting s.chair → At E (Worker p i) s (Stay (at.BeginTask n))
  begins_at s p i (Plain n) t e r = (t, (e, r))
  begins_at s p i (Token k j b) t e r = (t, (e, r))

  -- a join has found its own second side, or another task
  joined_at : (s : Hands X G O F) (p i : ℕ) (o : OpenCall) (n : Taken) → HasTask s.task (Some n) → Joins E o (hand s) → Resting s.chair → At E (Worker p i) s (if is_taken n o.job then Enter (at.SecondSide o) (at.BeginHere o.job) else Enter (at.JoinProbe o) (at.BeginTask n))
  joined_at s p i o (Token k j b) t e r = (e.2 (Token k j b) (hand s) refl, r, (t, e.0.0))
  joined_at s p i o (Plain n) t e r = by (n == o.job) refl
    where
      by : (z : Bool) → (n == o.job) ≡ z → At E (Worker p i) s (if z then Enter (at.SecondSide o) (at.BeginHere o.job) else Enter (at.JoinProbe o) (at.BeginTask (Plain n)))
      by true is = (e.1 (hand s) refl, r, (subst (λ (k : ℕ). HasTask s.task (Some (Plain k))) (eqb-true n o.job is) t, e.0.0))
      by false is = (e.2 (Plain n) (hand s) refl, r, (t, e.0.0))

  -- after the act there is what belongs to where the table leads
  pub at_on : (s t : Hands X G O F) (h : PoolShape) (p i : ℕ) (y : Place) (x : Seen) → Going E (Worker p i) s (Stay y) → Sees (act_of (Worker p i) y) x s t → At E (Worker p i) (record (after (act_of (Worker p i) y) x t s) { trace = t.trace }) (next_of h (Worker p i) y x)
  at_on s t h p i (at.ProbeWorking k) Yes a d =
      let u : Hands X G O F = record s { guards = t.guards; probed = true; trace = t.trace } in
      next_at u p i (Stay (after_wait k.target)) (left_next (hand u) k.target a.0 a.1.0.1 (refl, seen_set s.guards t.guards (latch_of k.target) d), a.1.1)
  at_on s t h p i (at.ProbeWorking k) _ a d = (tt, a.1)
  at_on s t h p i (at.PopWorking k) (Task n) a d = (a.1.0.2 n _ refl, a.1.1, (d.0, a.1.0.0))
  at_on s t h p i (at.PopWorking k) _ a d = a
  at_on s t h p i (at.TakeCastWorking k) (Task n) a d = (a.1.0.2 n _ refl, a.1.1, (d, a.1.0.0))
  at_on s t h p i (at.TakeCastWorking k) _ a d = (a.1.1, a.1)
  at_on s t h p i (at.BecomeInactive k) _ a d = (a.1.0.0, (a.1.0, stepped AddsInactive Rests Searches s.chair t.chair begins a.0 d))
  at_on s t h p i (at.ProbeIdle k) Yes a d = (a.1.1, λ (c : Option Watch). left_next (hand (record s { guards = t.guards; probed = true; chair = c })) k.target a.0 a.1.0.1 (refl, seen_set s.guards t.guards (latch_of k.target) d))
  at_on s t h p i (at.ProbeIdle k) _ a d = (tt, a.1)
  at_on s t h p i (at.PopIdle k) (Task n) a d = (a.1.1, λ (c : Option Watch). (a.1.0.2 n _ refl, (d.0, a.1.0.0)))
  at_on s t h p i (at.PopIdle k) _ a d = a
  at_on s t h p i (at.TakeCastIdle k) (Task n) a d = (a.1.1, λ (c : Option Watch). (a.1.0.2 n _ refl, (d, a.1.0.0)))
  at_on s t h p i (at.TakeCastIdle k) _ a d = either (Worker p i) (record s { trace = t.trace }) (h.workers == 1) (Stay (at.PopInjected k)) (Stay (at.PickVictim k)) a a
  at_on s t h p i (at.PickVictim k) (Start n) a d = a
  at_on s t h p i (at.PickVictim k) _ a d = a
  at_on s t h p i (at.StealFrom k m) (Task n) a d = (a.1.1, λ (c : Option Watch). (a.1.0.2 n _ refl, (d.0, a.1.0.0)))
  at_on s t h p i (at.StealFrom k m) _ a d = either_place (Worker p i) (record s { thief = t.thief; trace = t.trace }) (m == 0) (at.PopInjected k) (at.StealFrom (record k { victim = not_self h.workers i (next_victim h.workers k.victim) }) (m - 1)) a a
  at_on s t h p i (at.PopInjected k) (Task n) a d = (a.1.1, λ (c : Option Watch). (a.1.0.2 n _ refl, (d.0, a.1.0.0)))
  at_on s t h p i (at.PopInjected k) _ a d = failed_at (record s { trace = t.trace }) h p i k k.rounds a.1
  at_on s t h p i (at.AnnounceSelf k) (Jec j) a d = (a.1.0.0, (a.1.0, stepped (Announces (Jec j)) Searches Searches s.chair t.chair (λ v w e b. stays v w e.0 b) a.0 d))
  at_on s t h p i (at.AnnounceSelf k) x a d = absurd (never (Announces x) s.chair t.chair (λ v w e. e) d)
  at_on s t h p i (at.GetSleepy k) Done a d = (tt, a.1)
  at_on s t h p i (at.GetSleepy k) _ a d = a
  at_on s t h p i (at.LockOwn k) _ a d = (a.1.0.0, (a.1.0, subst (λ (c : Option Watch). Searching c) (held Searches s.chair t.chair a.1.1 d) a.1.1))
  at_on s t h p i (at.FallAsleep k) Done a d = (a.1.1, a.1)
  at_on s t h p i (at.FallAsleep k) _ a d = (tt, a.1)
  at_on s t h p i (at.LoadCounters k) (Word n m j) a d =
      let e : Searching t.chair = stepped (Loads (Word n m j)) Searches Searches s.chair t.chair (loads n m j) a.0 d in
      either (Worker p i) (record s { chair = t.chair; trace = t.trace }) (j == k.kept) (Stay (at.AddSleeping (record k { sleeping = n; inactive = m }))) (Stay (at.WakeUp (record k { rounds = Failed h.limit }))) (e, (a.1.0, e)) (a.1.0.0, (a.1.0, e))
  at_on s t h p i (at.LoadCounters k) x a d = absurd (never (Loads x) s.chair t.chair (λ v w e. e) d)
  at_on s t h p i (at.AddSleeping k) Done a d = (tt, (a.1.0, stepped (Tries (record { sleeping = k.sleeping; inactive = k.inactive; jec = k.kept }) Done) Searches Sleeps s.chair t.chair (λ v w e b. subst (λ (z : Watch). Sleeps z) (sym e.0) (refl, refl, b.2)) a.0 d))
  at_on s t h p i (at.AddSleeping k) x a d =
      let e : Searching t.chair = stepped (Tries (record { sleeping = k.sleeping; inactive = k.inactive; jec = k.kept }) x) Searches Searches s.chair t.chair (λ v w e b. subst (λ (z : Watch). Searches z) (sym e) (refl, refl, b.2)) a.0 d in
      (e, (a.1.0, e))
  at_on s t h p i (at.LookAtCast k) Yes a d = a
  at_on s t h p i (at.LookAtCast k) _ a d = (a.1.1, a.1)
  at_on s t h p i (at.LookAtInjector k) Yes a d = (a.1.1, a.1)
  at_on s t h p i (at.LookAtInjector k) _ a d = (a.1.1, a.1)
  at_on s t h p i (at.BlockSelf k) _ a d = (tt, (a.1.0, refl))
  at_on s t h p i (at.RelockOwn k) _ a d = (a.1.0.0, (a.1.0, subst (λ (c : Option Watch). Relocks c t.chair) a.1.1 d))
  at_on s t h p i (at.UndoSleeping k) _ a d = (a.1.0.0, (a.1.0, stepped SubsSleeping Sleeps Searches s.chair t.chair wakes a.0 d))
  at_on s t h p i (at.WakeUp k) _ a d = (tt, a.1)
  at_on s t h p i (at.UnlockOwn k) _ a d = (a.1.0.0, a.1)
  at_on s t h p i (at.LeaveSearch k) (Wakes n) a d = walk_at (record s { chair = t.chair; trace = t.trace }) h p i p n 0 (after_found k.target k.found) (a.1 t.chair, stepped (SubsInactive (Wakes n)) Searches Rests s.chair t.chair (ends n) a.0 d)
  at_on s t h p i (at.LeaveSearch k) x a d = absurd (never (SubsInactive x) s.chair t.chair (λ v w e. e) d)
  at_on s t h p i (at.JoinProbe o) Yes a d = (a.0, ((refl, seen_set s.guards t.guards (OfCall o.number) d), a.1.0.0.1, a.1.1))
  at_on s t h p i (at.JoinProbe o) _ a d = (tt, a.1)
  at_on s t h p i (at.JoinPop o) (Task n) a d = joined_at (record s { own = t.own; task = t.task; trace = t.trace }) p i o n d.0 a.1.0 a.1.1
  at_on s t h p i (at.JoinPop o) _ a d = (tt, ((a.1.0.0, a.1.0.2), a.1.1))
  at_on s t h p i (at.JoinTakeCast o) (Task n) a d = (a.1.0.1 n _ refl, a.1.1, (d, a.1.0.0.0))
  at_on s t h p i (at.JoinTakeCast o) _ a d = (a.1.0.0.0, (a.1.0.0, a.1.1))
  at_on s t h p i at.YieldPop (Task n) a d = begins_at (record s { own = t.own; task = t.task; trace = t.trace }) p i n d.0 a.1.0 a.1.2
  at_on s t h p i at.YieldPop _ a d = a
  at_on s t h p i at.YieldTakeCast (Task n) a d = begins_at (record s { task = t.task; trace = t.trace }) p i n d a.1.0 a.1.2
  at_on s t h p i at.YieldTakeCast _ a d = either (Worker p i) (record s { trace = t.trace }) (h.workers == 1) (Stay at.YieldPopInjected) (Stay at.YieldPick) a a
  at_on s t h p i at.YieldPick (Start n) a d = a
  at_on s t h p i at.YieldPick _ a d = a
  at_on s t h p i (at.YieldSteal k m) (Task n) a d = begins_at (record s { thief = t.thief; task = t.task; trace = t.trace }) p i n d.0 a.1.0 a.1.2
  at_on s t h p i (at.YieldSteal k m) _ a d = either_place (Worker p i) (record s { thief = t.thief; trace = t.trace }) (m == 0) at.YieldPopInjected (at.YieldSteal (not_self h.workers i (next_victim h.workers k)) (m - 1)) a a
  at_on s t h p i at.YieldPopInjected (Task n) a d = begins_at (record s { inlet = t.inlet; task = t.task; trace = t.trace }) p i n d.0 a.1.0 a.1.2
  at_on s t h p i at.YieldPopInjected _ a d = (a.1.1 _ refl, a.1.2, tt)
  at_on s t h p i at.LocalPop (Task n) a d = begins_at (record s { own = t.own; task = t.task; trace = t.trace }) p i n d.0 a.1.0 a.1.2
  at_on s t h p i at.LocalPop _ a d = a
  at_on s t h p i at.LocalTakeCast (Task n) a d = begins_at (record s { task = t.task; trace = t.trace }) p i n d a.1.0 a.1.2
  at_on s t h p i at.LocalTakeCast _ a d = (a.1.1 _ refl, a.1.2, tt)
  at_on s t h p i (at.BeginTask (Plain n)) (Begun k) a d = (a.1.0.0 n k _ refl, a.1.1, a.0)
  at_on s t h p i (at.BeginTask (Plain n)) _ a d = absurd d
  at_on s t h p i (at.BeginTask (Token n j b)) (Handed m k) a d = ((a.1.0.1 m k n _ refl, a.1.0.0 m k _ refl), a.1.1, d.0)
  at_on s t h p i (at.BeginTask (Token n j b)) Missing a d = (a.1.0.2 n _ refl, a.1.1, tt)
  at_on s t h p i (at.BeginTask (Token n j b)) _ a d = absurd d
  at_on s t h p i (at.BeginHere n) _ a d = (a.1.0.0 n Direct _ refl, a.1.1, a.0)
  at_on s t h p i (at.LockToWake k) _ a d = (tt, subst (λ (c : Option Watch). Next E (record (hand s) { chair = c }) (finish (Worker p i) k.then) × Resting c) (held Rests s.chair t.chair a.1.1 d) a.1)
  at_on s t h p i (at.WakeWorker k) Yes a d = a
  at_on s t h p i (at.WakeWorker k) _ a d = a
  at_on s t h p i (at.UnlockWoken k) _ a d = walk_at (record s { trace = t.trace }) h p i k.pool k.owed (k.worker + 1) k.then a.1
  at_on s t h p i (at.TakeResult o f) (Found e) a d = (tt, ((a.1.1 _ refl, tt), a.1.2))
  at_on s t h p i (at.TakeResult o f) _ a d = (tt, ((a.1.1 _ refl, tt), a.1.2))
  at_on s t h p i (at.LowerCount (OfPool m) b n) Yes a d = settle_at (record s { holds = s.holds - 1; marks = record { set = s.marks.set; count = t.marks.count }; trace = t.trace }) h p i m 0 n a.1
  at_on s t h p i (at.LowerCount (OfPool m) b n) _ a d = next_at (record s { holds = s.holds - 1; marks = record { set = s.marks.set; count = t.marks.count }; trace = t.trace }) p i (finish (Worker p i) n) a.1
  at_on s t h p i (at.StoreResult c o e) _ a d = told_at (record s { done = None; trace = t.trace }) p i c o Resume a.0.0 ((a.1.0, tt), a.1.1)
  at_on s t h p i (at.SetLatch k) Yes a d = (tt, a.1)
  at_on s t h p i (at.SetLatch k) _ a d = after_set_at (record s { marks = record { set = t.marks.set; count = s.marks.count }; trace = t.trace }) h p i k k.latch a.1
  at_on s t h p i (at.LockToSettle k) _ a d = (tt, subst (λ (c : Option Watch). Next E (record (hand s) { chair = c }) (finish (Worker p i) k.then) × Resting c) (held Rests s.chair t.chair a.1.1 d) a.1)
  at_on s t h p i (at.WakeSettled k) _ a d = a
  at_on s t h p i (at.UnlockSettled k) _ a d = after_set_at (record s { trace = t.trace }) h p i k k.latch a.1
  at_on s t h p i (at.SetLockLatch c n) _ a d = next_at (record s { trace = t.trace }) p i (finish (Worker p i) n) a.1
  at_on s t h p i _ _ a d = absurd a.1

  pub does_at : (s t : Hands X G O F) (h : PoolShape) (p i : ℕ) (y : Place) (x : Seen) → Going E (Worker p i) s (Stay y) → Does (act_of (Worker p i) y) x s t → At E (Worker p i) t (next_of h (Worker p i) y x)
  does_at s t h p i y x a d = subst (λ (z : Hands X G O F). At E (Worker p i) z (next_of h (Worker p i) y x)) (sym d.0) (at_on s t h p i y x a d.1)

module _ {X G O F : Type 0} where
  -- the laws of the running performer, which is a worker
  pub bench_needs : (u : Hands X G O F) (q : Party) (y : Place) → is_rest y ≡ false → IsWorker q × At Anyhow q u (Stay y) → Needs (act_of q y) u
  bench_needs u q y r a = (going Anyhow q u (Stay y) (ap not r) a.1).0

  pub bench_stays : (u : Hands X G O F) (q : Party) (m : Move) (y : Place) → place_of m ≡ Some y → IsWorker q × At Anyhow q u m → IsWorker q × At Anyhow q u (Stay y)
  bench_stays u q m y e a = (a.0, at_stays Anyhow q u m y e a.1)

  pub bench_on : (u v : Hands X G O F) (h : PoolShape) (q : Party) (y : Place) (x : Seen) → is_rest y ≡ false → IsWorker q × At Anyhow q u (Stay y) → Does (act_of q y) x u v → IsWorker q × At Anyhow q v (next_of h q y x)
  bench_on u v h (Worker p i) y x r a d = (tt, does_at Anyhow u v h p i y x (going Anyhow (Worker p i) u (Stay y) (ap not r) a.1) d)
  bench_on u v h (Caller c) y x r a d = absurd a.0
