-- of what kind the jobs are that a call sends, forks or runs at once, over each act and move
use Rattle.std.proofs.Common.{rules, arith, refl, ◌∙◌, ap, inl, inr}
use Rattle.std.specs.Prelude.{ℕ, Bool, true, false, ◌&&◌, ◌+◌, ◌==◌, ◌<◌, nat_lt, if◌then◌else◌, Option, Some, None, ◌≡◌, ◌⊎◌, IfSome, ⊤}
use Rattle.std.proofs.lemmas.Bool.{eq-eqb}
use Rattle.rayon_machine_places.specs.declared.place.Party.{Party}
use Rattle.rayon_machine_places.specs.declared.place.Party.TheVariants.{Worker, Caller}
use Rattle.rayon_machine_places.specs.declared.place.JobKind.{JobKind}
use Rattle.rayon_machine_places.specs.declared.place.JobKind.TheVariants.{Direct, Stored}
use Rattle.rayon_machine_places.specs.declared.place.Target.{Target}
use Rattle.rayon_machine_places.specs.declared.place.Target.TheVariants.{Termination, Answer}
use Rattle.rayon_machine_places.specs.declared.place.Latch.{Latch}
use Rattle.rayon_machine_places.specs.declared.place.Latch.TheVariants.{Terminate, OfCall}
use Rattle.rayon_machine_places.specs.declared.place.Plan.{Plan}
use Rattle.rayon_machine_places.specs.declared.place.Plan.TheVariants.{Detach, Here, Send, Fork, Feed, Open, Enter, Gather}
use Rattle.rayon_machine_places.specs.declared.place.Count.{Count}
use Rattle.rayon_machine_places.specs.declared.place.Count.TheVariants.{OfPool, OfScope, OfCast}
use Rattle.rayon_machine_places.specs.declared.place.Share.{Share}
use Rattle.rayon_machine_places.specs.declared.place.Taken.{Taken}
use Rattle.rayon_machine_places.specs.declared.place.Taken.TheVariants.{Plain, Token}
use Rattle.rayon_machine_places.specs.declared.place.Then.{Then}
use Rattle.rayon_machine_places.specs.declared.place.Then.TheVariants.{BeginFound, LeaveWait, Resume, Await, RunFirst, Answers, Missing as NoResult, Ran, GiveBack, Called, Gathers}
use Rattle.rayon_machine_places.specs.declared.place.Place.{Place}
use Rattle.rayon_machine_places.specs.declared.place.Place.TheVariants.{ProbeWorking, LeaveSearch, JoinPop, BeginTask, BeginHere, RaiseCount, GrowCall, GrowScope, OpenSlot, LookQueue, PushJob, AddToFifo, TakeFromFifo, RaiseForAll, PushForAll, LowerForAll, TellNews, LockToWake, WakeWorker, UnlockWoken, LowerCount, StoreResult, SetLatch, LockToSettle, WakeSettled, UnlockSettled, SetLockLatch}
use Rattle.rayon_machine_places.specs.declared.place.Move.{Move}
use Rattle.rayon_machine_places.specs.declared.place.Move.TheVariants.{Stay, Enter, StartRun, Back, HandBack, Discard, HandIn, Mark, HandAllBack}
use Rattle.rayon_machine_places.specs.declared.act.Seen.{Seen}
use Rattle.rayon_machine_places.specs.declared.act.Seen.TheVariants.{Done, Yes, Task, Wakes, Begun, Handed}
use Rattle.rayon_machine_runs.specs.declared.state.Whereabouts.{Whereabouts}
use Rattle.rayon_machine_runs.specs.declared.state.Whereabouts.TheVariants.{Made}
use Rattle.rayon_machine_runs.specs.declared.state.Job.{Job}
use Rattle.rayon_machine_places.specs.declared.shape.PoolShape.{PoolShape}
use Rattle.rayon_machine_places.specs.declared.place.Feeding.{Feeding}
use Rattle.rayon_machine_places.specs.declared.place.Wait.{Wait}
use Rattle.rayon_machine_places.specs.declared.place.Walk.{Walk}
use Rattle.rayon_machine_places.specs.declared.place.OpenCall.{OpenCall}
use Rattle.rayon_machine_places.specs.declared.place.Pieces.{Pieces}
use Rattle.rayon_machine_places.specs.declared.place.Settling.{Settling}
use Rattle.rayon_machine_places.specs.Places.{own_pool, plan_book, count_book, after_news, after_wait, finish, walk, settle, after_set, after_found, after_slot, act_of, next_of, taken_number, withdraw, begin_feed, begin_cast, end_cast, ends_count, set_call, after_begin}
use Rattle.rayon_machine_runs.specs.World.{Shape, Part, effect}
use Rattle.rayon_machine_places.specs.Sleepers.{Counts}
use Rattle.rayon_machine_laws.specs.Once.{one, hand, hand_found, hand_then}
use Rattle.rayon_machine_laws.specs.Near.{is_body}
use Rattle.rayon_machine_laws.proofs.Frame.{if_some_all}

abbrev pub is_stored : JobKind → Bool
is_stored (Stored c o) = true
is_stored _ = false

abbrev pub is_made : Whereabouts → Bool
is_made (Made q) = true
is_made _ = false

-- of what kind a call's jobs are, of these jobs, of which there are so many
abbrev pub PlanKinds : (ℕ → Job) → ℕ → Plan → Type 0
PlanKinds J n (Here p t) = (t < n) × ((J t).kind ≡ Direct)
PlanKinds J n (Send o) = (o.job < n) × (is_stored (J o.job).kind ≡ true)
PlanKinds J n (Fork o a) = (o.job < n) × (is_stored (J o.job).kind ≡ true) × (a < n) × ((J a).kind ≡ Direct)
PlanKinds J n (Open o) = (o.job < n) × (is_body (J o.job).kind ≡ true)
PlanKinds J n _ = ⊤

abbrev pub ThenKinds : (ℕ → Job) → ℕ → Then → Type 0
ThenKinds J n (RunFirst o a) = (a < n) × ((J a).kind ≡ Direct)
ThenKinds J n _ = ⊤

abbrev pub Kinds : (ℕ → Job) → ℕ → Place → Type 0
Kinds J n (RaiseCount p) = PlanKinds J n p
Kinds J n (GrowCall p) = PlanKinds J n p
Kinds J n (GrowScope o) = PlanKinds J n (Open o)
Kinds J n (OpenSlot p) = PlanKinds J n p
Kinds J n (LookQueue p) = PlanKinds J n p
Kinds J n (PushJob p e) = PlanKinds J n p
Kinds J n (TellNews p e) = PlanKinds J n p
Kinds J n (LockToWake k) = ThenKinds J n k.then
Kinds J n (WakeWorker k) = ThenKinds J n k.then
Kinds J n (UnlockWoken k) = ThenKinds J n k.then
Kinds J n (LowerCount c s t) = ThenKinds J n t
Kinds J n (SetLatch s) = ThenKinds J n s.then
Kinds J n (LockToSettle s) = ThenKinds J n s.then
Kinds J n (WakeSettled s) = ThenKinds J n s.then
Kinds J n (UnlockSettled s) = ThenKinds J n s.then
Kinds J n (SetLockLatch c t) = ThenKinds J n t
Kinds J n (BeginHere t) = (t < n) × (((J t).kind ≡ Direct) ⊎ (is_made (J t).at ≡ false))
Kinds J n _ = ⊤

-- a run that is begun at once is a scope's body, or a job that its call has in hand
abbrev pub StartKinds : (ℕ → Job) → ℕ → Place → ℕ → Type 0
StartKinds J n x a = (a < n) × ((is_body (J a).kind ≡ true) ⊎ (((J a).kind ≡ Direct) × (hand a x ≡ 1)))

abbrev pub KindMove : (ℕ → Job) → ℕ → Place → Move → Type 0
KindMove J n x (Stay y) = Kinds J n y
KindMove J n x (HandIn y k) = Kinds J n y
KindMove J n x (Mark y b m) = Kinds J n y
KindMove J n x (Enter f y) = Kinds J n y
KindMove J n x (StartRun f a) = StartKinds J n x a
KindMove J n x Back = ⊤
KindMove J n x (HandBack p) = ⊤
KindMove J n x (Discard k) = ⊤
KindMove J n x (HandAllBack b) = ⊤

module _ (J : ℕ → Job) (n : ℕ) where
  hand_self : (a : ℕ) → one (a == a) ≡ 1
  hand_self a = ap one (eq-eqb a a refl)

  finish_kinds : (x : Place) (q : Party) (t : Then) → ((a : ℕ) → hand a x ≡ hand_then a t) → ThenKinds J n t → KindMove J n x (finish q t)
  finish_kinds x q (BeginFound g u) h k = tt
  finish_kinds x q (LeaveWait Termination) h k = tt
  finish_kinds x q (LeaveWait (Answer o f)) h k = tt
  finish_kinds x (Worker i j) (Await o) h k = tt
  finish_kinds x (Caller c) (Await o) h k = tt
  finish_kinds x (Worker i j) (Gathers o) h k = tt
  finish_kinds x (Caller c) (Gathers o) h k = tt
  finish_kinds x q (RunFirst o a) h k = (k.0, inr (k.1, h a ∙ hand_self a))
  finish_kinds x q Resume h k = tt
  finish_kinds x q Called h k = tt
  finish_kinds x q (Answers o f e) h k = tt
  finish_kinds x q (NoResult o f) h k = tt
  finish_kinds x q (Ran t e) h k = tt
  finish_kinds x q (GiveBack p) h k = tt

  walk_kinds : (x : Place) (g : PoolShape) (q : Party) (p k i : ℕ) (t : Then) → ((a : ℕ) → hand a x ≡ hand_then a t) → ThenKinds J n t → KindMove J n x (walk g q p k i t)
  walk_kinds x g q p k i t h d = by (nat_lt 0 k && nat_lt i g.workers)
    where
      by : (z : Bool) → KindMove J n x (if z then Stay (LockToWake (record { pool = p; owed = k; worker = i; then = t })) else finish q t)
      by true = d
      by false = finish_kinds x q t h d

  settle_kinds : (x : Place) (g : PoolShape) (q : Party) (p i : ℕ) (t : Then) → ((a : ℕ) → hand a x ≡ hand_then a t) → ThenKinds J n t → KindMove J n x (settle g q p i t)
  settle_kinds x g q p i t h d = by (nat_lt i g.workers)
    where
      by : (z : Bool) → KindMove J n x (if z then Stay (SetLatch (record { latch = Terminate; pool = p; worker = i; then = t })) else finish q t)
      by true = d
      by false = finish_kinds x q t h d

  settled_kinds : (x : Place) (g : PoolShape) (q : Party) (s : Settling) (l : Latch) → ((a : ℕ) → hand a x ≡ hand_then a s.then) → ThenKinds J n s.then → KindMove J n x (after_set g q s l)
  settled_kinds x g q s Terminate h d = settle_kinds x g q s.pool (s.worker + 1) s.then h d
  settled_kinds x g q s (OfCall c) h d = finish_kinds x q s.then h d

  set_kinds : (g : PoolShape) (q : Party) (s : Settling) (e : Seen) → ThenKinds J n s.then → KindMove J n (SetLatch s) (next_of g q (SetLatch s) e)
  set_kinds g q s Yes d = d
  set_kinds g q s _ d = settled_kinds (SetLatch s) g q s s.latch (λ a. refl) d

  call_kinds : (x : Place) (c : ℕ) (o : Party) (t : Then) → ThenKinds J n t → KindMove J n x (Stay (set_call c o t))
  call_kinds x c (Worker i j) t d = d
  call_kinds x c (Caller m) t d = d

  lower_kinds : (g : PoolShape) (q : Party) (k : Count) (s : Share) (t : Then) (e : Seen) → ThenKinds J n t → KindMove J n (LowerCount k s t) (next_of g q (LowerCount k s t) e)
  lower_kinds g q (OfPool p) s t Yes d = settle_kinds (LowerCount (OfPool p) s t) g q p 0 t (λ a. refl) d
  lower_kinds g q (OfScope c o) s t Yes d = call_kinds (LowerCount (OfScope c o) s t) c o t d
  lower_kinds g q (OfCast c o) s t Yes d = call_kinds (LowerCount (OfCast c o) s t) c o t d
  lower_kinds g q k s t _ d = finish_kinds (LowerCount k s t) q t (λ a. refl) d

  found_kinds : (g : Target) (o : Option Taken) → ThenKinds J n (after_found g o)
  found_kinds g None = tt
  found_kinds g (Some t) = tt

  found_hand : (g : Target) (o : Option Taken) (k : Wait) (a : ℕ) → k.target ≡ g → k.found ≡ o → hand a (LeaveSearch k) ≡ hand_then a (after_found g o)
  found_hand g None k a e f = ap (hand_found a) f
  found_hand g (Some t) k a e f = ap (hand_found a) f

  leave_kinds : (g : PoolShape) (q : Party) (k : Wait) (e : Seen) → KindMove J n (LeaveSearch k) (next_of g q (LeaveSearch k) e)
  leave_kinds g q k (Wakes m) = walk_kinds (LeaveSearch k) g q (own_pool q) m 0 (after_found k.target k.found) (λ a. found_hand k.target k.found k a refl refl) (found_kinds k.target k.found)
  leave_kinds g q k _ = tt

  news_kinds : (p : Plan) → PlanKinds J n p → ThenKinds J n (after_news p)
  news_kinds (Fork o a) d = (d.2, d.3)
  news_kinds (Detach p t) d = tt
  news_kinds (Here p t) d = tt
  news_kinds (Send o) d = tt
  news_kinds (Feed f) d = tt
  news_kinds (Open o) d = tt
  news_kinds (Enter e) d = tt
  news_kinds (Gather g) d = tt

  -- a token that is told of as a call's is in no hand; no such place leads to a run
  tell_kinds : (g : PoolShape) (q : Party) (p : Plan) (v : Bool) (e : Seen) → PlanKinds J n p → KindMove J n (TellNews p v) (next_of g q (TellNews p v) e)
  tell_kinds g q (Fork o a) v (Wakes m) d = walk_kinds (TellNews (Fork o a) v) g q o.pool m 0 (RunFirst o a) (λ b. refl) (d.2, d.3)
  tell_kinds g q (Detach p t) v (Wakes m) d = walk_kinds (TellNews (Detach p t) v) g q p m 0 Resume (λ b. refl) tt
  tell_kinds g q (Here p t) v (Wakes m) d = walk_kinds (TellNews (Here p t) v) g q p m 0 Resume (λ b. refl) tt
  tell_kinds g q (Send o) v (Wakes m) d = walk_kinds (TellNews (Send o) v) g q o.pool m 0 (Await o) (λ b. refl) tt
  tell_kinds g q (Feed f) v (Wakes m) d = walk_kinds (TellNews (Feed f) v) g q f.pool m 0 (GiveBack (Detach f.pool f.token)) (λ b. refl) tt
  tell_kinds g q (Open o) v (Wakes m) d = walk_kinds (TellNews (Open o) v) g q o.pool m 0 Resume (λ b. refl) tt
  tell_kinds g q (Enter x) v (Wakes m) d = walk_kinds (TellNews (Enter x) v) g q x.pool m 0 Resume (λ b. refl) tt
  tell_kinds g q (Gather x) v (Wakes m) d = walk_kinds (TellNews (Gather x) v) g q x.call.pool m 0 (Await x.call) (λ b. refl) tt
  tell_kinds g q p v _ d = d

  raise_kinds : (g : PoolShape) (q : Party) (p : Plan) (e : Seen) → PlanKinds J n p → KindMove J n (RaiseCount p) (next_of g q (RaiseCount p) e)
  raise_kinds g q (Detach p t) Done d = tt
  raise_kinds g q (Here p t) Done d = (d.0, inl (d.1))
  raise_kinds g q (Send o) Done d = d
  raise_kinds g q (Fork o a) Done d = d
  raise_kinds g q (Feed f) Done d = by f.count
    where
      by : (k : Count) → Kinds J n (begin_feed k f)
      by (OfPool p) = tt
      by (OfScope c o) = tt
      by (OfCast c o) = tt
  raise_kinds g q (Gather x) Done d = tt
  raise_kinds g q (Open o) Done d = d
  raise_kinds g q (Enter x) Done d = tt
  raise_kinds g q p _ d = tt

  pub drawn_kinds : (o : Option ℕ) (p : Plan) → Kinds J n (withdraw o p)
  drawn_kinds None p = tt
  drawn_kinds (Some c) p = tt

  push_kinds : (g : PoolShape) (q : Party) (p : Plan) (v : Bool) (e : Seen) → PlanKinds J n p → KindMove J n (PushJob p v) (next_of g q (PushJob p v) e)
  push_kinds g q p v Done d = d
  push_kinds g q p v _ d = drawn_kinds (plan_book p) p

  add_kinds : (g : PoolShape) (q : Party) (f : Feeding) (e : Seen) → KindMove J n (AddToFifo f) (next_of g q (AddToFifo f) e)
  add_kinds g q f Done = tt
  add_kinds g q f _ = drawn_kinds (count_book f.count) (Feed f)

  retake_kinds : (g : PoolShape) (q : Party) (f : Feeding) (e : Seen) → KindMove J n (TakeFromFifo f) (next_of g q (TakeFromFifo f) e)
  retake_kinds g q f (Task x) = drawn_kinds (count_book f.count) (Feed (record f { job = taken_number x }))
  retake_kinds g q f _ = tt

  slot_kinds : (p : Plan) → PlanKinds J n p → Kinds J n (after_slot p)
  slot_kinds (Feed f) d = tt
  slot_kinds (Detach p t) d = tt
  slot_kinds (Here p t) d = d
  slot_kinds (Send o) d = d
  slot_kinds (Fork o a) d = d
  slot_kinds (Open o) d = d
  slot_kinds (Enter x) d = tt
  slot_kinds (Gather x) d = tt

  open_kinds : (g : PoolShape) (q : Party) (p : Plan) (e : Seen) → PlanKinds J n p → KindMove J n (OpenSlot p) (next_of g q (OpenSlot p) e)
  open_kinds g q p Done d = slot_kinds p d
  open_kinds g q p _ d = tt

  grow_kinds : (g : PoolShape) (q : Party) (p : Plan) (e : Seen) → PlanKinds J n p → KindMove J n (GrowCall p) (next_of g q (GrowCall p) e)
  grow_kinds g q p Done d = d
  grow_kinds g q p _ d = tt

  begin_kinds : (x : Taken) (e : Seen) → KindMove J n (BeginTask x) (after_begin x e)
  begin_kinds (Plain t) (Begun d) = tt
  begin_kinds (Plain t) _ = tt
  begin_kinds (Token k i b) (Handed t d) = tt
  begin_kinds (Token k i b) _ = tt

  raise_all_kinds : (g : PoolShape) (q : Party) (c : Pieces) (e : Seen) → KindMove J n (RaiseForAll c) (next_of g q (RaiseForAll c) e)
  raise_all_kinds g q c Done = by c.count
    where
      by : (k : Count) → Kinds J n (begin_cast k c)
      by (OfPool p) = tt
      by (OfScope d o) = tt
      by (OfCast d o) = tt
  raise_all_kinds g q c _ = tt

  pub uncast_kinds : (c : Pieces) (k : Count) → Kinds J n (end_cast k c)
  uncast_kinds c (OfPool p) = tt
  uncast_kinds c (OfScope d o) = tt
  uncast_kinds c (OfCast d o) = tt

  push_all_kinds : (g : PoolShape) (q : Party) (c : Pieces) (e : Seen) → KindMove J n (PushForAll c) (next_of g q (PushForAll c) e)
  push_all_kinds g q c Done = tt
  push_all_kinds g q c _ = uncast_kinds c c.count

  lower_all_kinds : (g : PoolShape) (q : Party) (c : Pieces) (e : Seen) → KindMove J n (LowerForAll c) (next_of g q (LowerForAll c) e)
  lower_all_kinds g q c Yes = by c.count
    where
      by : (k : Count) → Kinds J n (ends_count k)
      by (OfPool p) = tt
      by (OfScope d (Worker a b)) = tt
      by (OfScope d (Caller a)) = tt
      by (OfCast d (Worker a b)) = tt
      by (OfCast d (Caller a)) = tt
  lower_all_kinds g q c _ = tt

  scope_kinds : (g : PoolShape) (q : Party) (o : OpenCall) (e : Seen) → PlanKinds J n (Open o) → KindMove J n (GrowScope o) (next_of g q (GrowScope o) e)
  scope_kinds g q o Done d = (d.0, inl (d.1))
  scope_kinds g q o _ d = tt

  look_kinds : (g : PoolShape) (q : Party) (p : Plan) (e : Seen) → PlanKinds J n p → KindMove J n (LookQueue p) (next_of g q (LookQueue p) e)
  look_kinds g q p Yes d = d
  look_kinds g q p _ d = d

  wake_kinds : (g : PoolShape) (q : Party) (k : Walk) → ThenKinds J n k.then → (e : Seen) → KindMove J n (WakeWorker k) (next_of g q (WakeWorker k) e)
  wake_kinds g q k d Yes = d
  wake_kinds g q k d _ = d

  probe_kinds : (g : PoolShape) (q : Party) (k : Wait) (e : Seen) → KindMove J n (ProbeWorking k) (next_of g q (ProbeWorking k) e)
  probe_kinds g q k Yes = by k.target
    where
      by : (t : Target) → Kinds J n (after_wait t)
      by Termination = tt
      by (Answer o f) = tt
  probe_kinds g q k _ = tt

  every : (h : Shape) (g : PoolShape) (q : Party) (c : Counts) (m : Part) (x : Place) → ((e : Seen) → KindMove J n x (next_of g q x e)) → IfSome (effect (act_of q x) h q c m) (λ r. KindMove J n x (next_of g q x (r.0)))
  every h g q c m x f = if_some_all {A = Seen × Part} (λ r. KindMove J n x (next_of g q x (r.0))) (λ r. f (r.0)) (effect (act_of q x) h q c m)

  abbrev pub is_pop : Place → Bool
  is_pop (JoinPop o) = true
  is_pop _ = false

  pub kinds_next : (h : Shape) (g : PoolShape) (q : Party) (c : Counts) (m : Part) (x : Place) → is_pop x ≡ false → Kinds J n x → IfSome (effect (act_of q x) h q c m) (λ r. KindMove J n x (next_of g q x (r.0)))
  kinds_next h g q c m (JoinPop o) z d = cc
  kinds_next h g q c m (RaiseCount p) z d = every h g q c m (RaiseCount p) (λ e. raise_kinds g q p e d)
  kinds_next h g q c m (GrowCall p) z d = every h g q c m (GrowCall p) (λ e. grow_kinds g q p e d)
  kinds_next h g q c m (GrowScope o) z d = every h g q c m (GrowScope o) (λ e. scope_kinds g q o e d)
  kinds_next h g q c m (OpenSlot p) z d = every h g q c m (OpenSlot p) (λ e. open_kinds g q p e d)
  kinds_next h g q c m (LookQueue p) z d = every h g q c m (LookQueue p) (λ e. look_kinds g q p e d)
  kinds_next h g q c m (PushJob p v) z d = every h g q c m (PushJob p v) (λ e. push_kinds g q p v e d)
  kinds_next h g q c m (TellNews p v) z d = every h g q c m (TellNews p v) (λ e. tell_kinds g q p v e d)
  kinds_next h g q c m (AddToFifo f) z d = every h g q c m (AddToFifo f) (add_kinds g q f)
  kinds_next h g q c m (TakeFromFifo f) z d = every h g q c m (TakeFromFifo f) (retake_kinds g q f)
  kinds_next h g q c m (RaiseForAll b) z d = every h g q c m (RaiseForAll b) (raise_all_kinds g q b)
  kinds_next h g q c m (PushForAll b) z d = every h g q c m (PushForAll b) (push_all_kinds g q b)
  kinds_next h g q c m (LowerForAll b) z d = every h g q c m (LowerForAll b) (lower_all_kinds g q b)
  kinds_next h g q c m (BeginTask x) z d = every h g q c m (BeginTask x) (begin_kinds x)
  kinds_next h g q c m (LeaveSearch k) z d = every h g q c m (LeaveSearch k) (leave_kinds g q k)
  kinds_next h g q c m (LockToWake k) z d = every h g q c m (LockToWake k) (λ e. d)
  kinds_next h g q c m (WakeWorker k) z d = every h g q c m (WakeWorker k) (wake_kinds g q k d)
  kinds_next h g q c m (UnlockWoken k) z d = every h g q c m (UnlockWoken k) (λ e. walk_kinds (UnlockWoken k) g q k.pool k.owed (k.worker + 1) k.then (λ a. refl) d)
  kinds_next h g q c m (LowerCount p s t) z d = every h g q c m (LowerCount p s t) (λ e. lower_kinds g q p s t e d)
  kinds_next h g q c m (SetLatch s) z d = every h g q c m (SetLatch s) (λ e. set_kinds g q s e d)
  kinds_next h g q c m (LockToSettle s) z d = every h g q c m (LockToSettle s) (λ e. d)
  kinds_next h g q c m (WakeSettled s) z d = every h g q c m (WakeSettled s) (λ e. d)
  kinds_next h g q c m (UnlockSettled s) z d = every h g q c m (UnlockSettled s) (λ e. settled_kinds (UnlockSettled s) g q s s.latch (λ a. refl) d)
  kinds_next h g q c m (SetLockLatch u t) z d = every h g q c m (SetLockLatch u t) (λ e. finish_kinds (SetLockLatch u t) q t (λ a. refl) d)
  kinds_next h g q c m (StoreResult u o e) z d = every h g q c m (StoreResult u o e) (λ s. call_kinds (StoreResult u o e) u o Resume tt)
  kinds_next h g (Worker i j) c m (ProbeWorking k) z d = every h g (Worker i j) c m (ProbeWorking k) (probe_kinds g (Worker i j) k)
  kinds_next h g (Worker i j) c m _ z d = search (rules, arith)
  kinds_next h g (Caller u) c m _ z d = search (rules, arith)
