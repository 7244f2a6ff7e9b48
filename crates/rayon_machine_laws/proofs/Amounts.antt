-- how each move changes the shares that a stack keeps, and that no move leads to a raise or to the giving up of a value
--
-- `amounts` is an equation. A stack keeps after a move what it kept, with what was raised. What went with a job or was
-- given back is less.
-- The pieces of a broadcast that waits come into the count with their call. They get their shares all at once where
-- they are dealt. So the table `raises` says of whom a party raises a count: of the job of its Raise, and of its pieces
-- until they are dealt.
use Rattle.rayon_machine_places.specs.declared.place.Pieces.{Pieces}
use Rattle.rayon_machine_places.specs.declared.place.Feeding.{Feeding}
use Rattle.rayon_machine_places.specs.declared.place.Count.TheVariants.{OfPool, OfScope, OfCast}
use Rattle.rayon_machine_places.specs.declared.place.Count.{Count}
use Rattle.std.proofs.Common.{arith, refl}
use Rattle.std.specs.Prelude.{ℕ, Bool, true, false, ◌&&◌, ◌+◌, ◌-◌, ◌==◌, nat_lt, if◌then◌else◌, Option, Some, None, List, [], ◌∷◌, ◌≡◌, ◌≤◌}
use Rattle.rayon_machine_places.specs.declared.place.Party.{Party}
use Rattle.rayon_machine_places.specs.declared.place.Party.TheVariants.{Worker, Caller}
use Rattle.rayon_machine_places.specs.declared.place.Target.{Target}
use Rattle.rayon_machine_places.specs.declared.place.Target.TheVariants.{Termination, Answer}
use Rattle.rayon_machine_places.specs.declared.place.Latch.{Latch}
use Rattle.rayon_machine_places.specs.declared.place.Latch.TheVariants.{Terminate, OfCall}
use Rattle.rayon_machine_places.specs.declared.place.Rounds.{Rounds}
use Rattle.rayon_machine_places.specs.declared.place.Rounds.TheVariants.{Failed, Announced}
use Rattle.rayon_machine_places.specs.declared.place.Plan.{Plan}
use Rattle.rayon_machine_places.specs.declared.place.Plan.TheVariants.{Detach, Here, Send, Fork, Feed, Open, Enter, Gather}
use Rattle.rayon_machine_places.specs.declared.place.Then.{Then}
use Rattle.rayon_machine_places.specs.declared.place.Then.TheVariants.{BeginFound, LeaveWait, Resume, Await, RunFirst, Answers, Missing, Ran, GiveBack, Called, Gathers}
use Rattle.rayon_machine_places.specs.declared.place.Taken.{Taken}
use Rattle.rayon_machine_places.specs.declared.place.Taken.TheVariants.{Plain, Token}
use Rattle.rayon_machine_places.specs.declared.place.Place.{Place}
use Rattle.rayon_machine_places.specs.declared.place.Place.TheVariants.{ProbeWorking, PopWorking, TakeCastWorking, ProbeIdle, PopIdle, TakeCastIdle, PickVictim, StealFrom, PopInjected, AnnounceSelf, GetSleepy, FallAsleep, LoadCounters, AddSleeping, LookAtCast, LookAtInjector}
use Rattle.rayon_machine_places.specs.declared.place.Place.TheVariants.{WakeUp, LeaveSearch, JoinProbe, JoinPop, JoinTakeCast, YieldPop, YieldTakeCast, YieldPick, YieldSteal, YieldPopInjected, LocalPop, LocalTakeCast, BeginTask, BeginHere, RaiseCount, GrowCall, LookQueue}
use Rattle.rayon_machine_places.specs.declared.place.Place.TheVariants.{PushJob, TellNews, LockToWake, WakeWorker, UnlockWoken, TakeResult, LowerCount, StoreResult, SetLatch, UnlockSettled, SecondSide, AddToFifo, LookForToken, PushToken, TakeFromFifo, RaiseForAll, PushForAll}
use Rattle.rayon_machine_places.specs.declared.place.Place.TheVariants.{LowerForAll, GrowScope, OpenSlot, SetLockLatch, OpenForAll, GrowCast, DealPieces, CloseSlot, LockToSettle, WakeSettled}
use Rattle.rayon_machine_places.specs.declared.place.Move.{Move}
use Rattle.rayon_machine_places.specs.declared.place.Move.TheVariants.{Stay, Enter, StartRun, Back, HandBack, Discard, HandIn, Mark, HandAllBack}
use Rattle.rayon_machine_places.specs.declared.act.Seen.{Seen}
use Rattle.rayon_machine_places.specs.declared.act.Seen.TheVariants.{Done, Yes, Task, Jec, Word, Start, Wakes, Begun, Found, Handed, Opened}
use Rattle.rayon_machine_places.specs.declared.shape.PoolShape.{PoolShape}
use Rattle.rayon_machine_places.specs.declared.place.OpenCall.{OpenCall}
use Rattle.rayon_machine_places.specs.declared.place.Wait.{Wait}
use Rattle.rayon_machine_places.specs.declared.place.Settling.{Settling}
use Rattle.rayon_machine_places.specs.Places.{own_pool, own_index, plan_pool, plan_job, after_wait, finish, walk, settle, after_set, after_found, after_news, after_raise, set_call, next_victim, not_self, after_failure, next_steal, next_yield, next_of, is_taken, taken_number}
use Rattle.rayon_machine_places.specs.Places.{settle_count, after_push, begin_feed, withdraw, plan_book, begin_cast, end_cast, ends_count, after_slot}
use Rattle.rayon_machine_runs.specs.World.{Stack}
use Rattle.rayon_machine_runs.specs.Steps.{after_move, is_piece}
use Rattle.rayon_machine_laws.specs.Once.{one}
pub use Rattle.rayon_machine_laws.specs.Counted.{values, values_in, all_values}
use Rattle.rayon_machine_laws.specs.Shares.{share_target, share_rest, share_then, share_of, share, shares_in, shares}

-- the pieces of a broadcast that waits, which have no share until they are dealt
abbrev pub waiting : ℕ → Plan → ℕ
waiting t (Gather g) = one (is_piece g.pieces t)
waiting t _ = 0

abbrev pub raise_then : ℕ → Then → ℕ
raise_then t (GiveBack n) = waiting t n
raise_then t _ = 0

-- a place that raises the count for job t, or has a piece that has no share and is never to have one before it is dealt
abbrev pub raises : ℕ → Place → ℕ
raises t (RaiseCount n) = one (t == plan_job n) + waiting t n
raises t (GrowCall n) = waiting t n
raises t (LookQueue n) = waiting t n
raises t (PushJob n e) = waiting t n
raises t (OpenSlot n) = waiting t n
raises t (CloseSlot n) = waiting t n
raises t (GrowCast g) = one (is_piece g.pieces t)
raises t (DealPieces g) = one (is_piece g.pieces t)
raises t (LockToWake k) = raise_then t k.then
raises t (WakeWorker k) = raise_then t k.then
raises t (UnlockWoken k) = raise_then t k.then
raises t (LowerCount p s n) = raise_then t n
raises t (SetLatch k) = raise_then t k.then
raises t (LockToSettle k) = raise_then t k.then
raises t (WakeSettled k) = raise_then t k.then
raises t (UnlockSettled k) = raise_then t k.then
raises t (SetLockLatch c n) = raise_then t n
raises t (RaiseForAll c) = one (is_piece c t)
raises t _ = 0

abbrev pub raises_in : ℕ → List Place → ℕ
raises_in t [] = 0
raises_in t (f ∷ fs) = raises t f + raises_in t fs

abbrev pub all_raises : ℕ → Stack → ℕ
all_raises t k = raises t k.top + raises_in t k.below

abbrev pub share_move : ℕ → Move → ℕ
share_move t (Stay y) = share t y
share_move t (HandIn y token) = share t y
share_move t (Mark y b9 m9) = share t y
share_move t (Enter f y) = share t y + share t f
share_move t (StartRun f a) = share t f
share_move t Back = 0
share_move t (HandBack n) = 0
share_move t (Discard n) = 0
share_move t (HandAllBack b9) = 0

abbrev pub raises_move : ℕ → Move → ℕ
raises_move t (Stay y) = raises t y
raises_move t (HandIn y token) = raises t y
raises_move t (Mark y b9 m9) = raises t y
raises_move t (Enter f y) = raises t y + raises t f
raises_move t (StartRun f a) = raises t f
raises_move t Back = 0
raises_move t (HandBack n) = waiting t n
raises_move t (Discard n) = 0
raises_move t (HandAllBack b9) = 0

abbrev pub values_move : ℕ → Move → ℕ
values_move p (Stay y) = values p y
values_move p (HandIn y token) = values p y
values_move p (Mark y b9 m9) = values p y
values_move p (Enter f y) = values p y + values p f
values_move p (StartRun f a) = values p f
values_move p Back = 0
values_move p (HandBack n) = 0
values_move p (Discard n) = 0
values_move p (HandAllBack b9) = 0

-- the share that a raise takes
abbrev pub gained : ℕ → Place → Seen → ℕ
gained t (RaiseCount n) Done = one (t == plan_job n)
gained t (RaiseForAll c) Done = one (is_piece c t)
gained t (DealPieces g) Done = one (is_piece g.pieces t)
gained t _ _ = 0

-- the share that goes with a job that is pushed and that no call waits for: a detached one, since an install that is
-- run at once pushes none
abbrev pub pushed : ℕ → Place → Seen → ℕ
pushed t (PushJob (Detach r j) v) Done = one (t == j)
pushed t (PushJob (Here r j) v) Done = one (t == j)
pushed t (PushJob (Feed f) v) Done = one (t == f.job)
pushed t (PushJob (Open o) v) Done = one (t == o.job)
pushed t (PushJob (Enter e) v) Done = one (t == e.job)
pushed t (AddToFifo f) Done = one (t == f.job)
pushed t (PushForAll c) Done = one (is_piece c t)
pushed t (DealPieces g) Done = one (is_piece g.pieces t)
pushed t _ _ = 0

-- the share that comes back to a call with the job that it takes back out of a FIFO list
abbrev pub regained : ℕ → Place → Seen → ℕ
regained t (TakeFromFifo f) (Task x) = one (t == taken_number x)
regained t _ _ = 0

-- the share that is given back
abbrev pub paid : ℕ → Place → ℕ
paid t (LowerCount r s n) = share_of t s
paid t (LowerForAll c) = one (is_piece c t)
paid t _ = 0

-- what a move leads to
abbrev pub Amount : ℕ → ℕ → Move → ℕ → Type 0
Amount t p g n = (share_move t g ≡ n) × (values_move p g ≡ 0)

am_left : (t p : ℕ) (g : Target) → Amount t p (Stay (after_wait g)) (share_target t g)
am_left t p Termination = (omega arith, refl)
am_left t p (Answer o f) = (omega arith, refl)

am_finish : (t p : ℕ) (q : Party) (n : Then) → Amount t p (finish q n) (share_then t n)
am_finish t p q (BeginFound g u) = (omega arith, refl)
am_finish t p q (LeaveWait g) = am_left t p g
am_finish t p q Resume = (omega arith, refl)
am_finish t p q Called = (omega arith, refl)
am_finish t p (Worker a b) (Await o) = (omega arith, refl)
am_finish t p (Caller c) (Await o) = (omega arith, refl)
am_finish t p (Worker a b) (Gathers o) = (omega arith, refl)
am_finish t p (Caller c) (Gathers o) = (omega arith, refl)
am_finish t p q (RunFirst o a) = (omega arith, refl)
am_finish t p q (Answers o f e) = (omega arith, refl)
am_finish t p q (Missing o f) = (omega arith, refl)
am_finish t p q (Ran u e) = (omega arith, refl)
am_finish t p q (GiveBack n) = (omega arith, refl)

am_walk : (t p : ℕ) (g : PoolShape) (q : Party) (r k i : ℕ) (n : Then) → Amount t p (walk g q r k i n) (share_then t n)
am_walk t p g q r k i n = by (nat_lt 0 k && nat_lt i g.workers)
  where
    by : (z : Bool) → Amount t p (if z then Stay (LockToWake (record { pool = r; owed = k; worker = i; then = n })) else finish q n) (share_then t n)
    by true = (omega arith, refl)
    by false = am_finish t p q n

am_settle : (t p : ℕ) (g : PoolShape) (q : Party) (r i : ℕ) (n : Then) → Amount t p (settle g q r i n) (share_then t n)
am_settle t p g q r i n = by (nat_lt i g.workers)
  where
    by : (z : Bool) → Amount t p (if z then Stay (SetLatch (record { latch = Terminate; pool = r; worker = i; then = n })) else finish q n) (share_then t n)
    by true = (omega arith, refl)
    by false = am_finish t p q n

am_settled : (t p : ℕ) (g : PoolShape) (q : Party) (k : Settling) (l : Latch) → Amount t p (after_set g q k l) (share_then t k.then)
am_settled t p g q k Terminate = am_settle t p g q k.pool (k.worker + 1) k.then
am_settled t p g q k (OfCall i) = am_finish t p q k.then

am_if : (t p n : ℕ) (x y : Place) (z : Bool) → Amount t p (Stay x) n → Amount t p (Stay y) n → Amount t p (if z then Stay x else Stay y) n
am_if t p n x y true a b = a
am_if t p n x y false a b = b

am_steal : (t p : ℕ) (g : PoolShape) (q : Party) (k : Wait) (n : ℕ) → Amount t p (Stay (next_steal g q k n)) (share_target t k.target)
am_steal t p g q k n = by (n == 0)
  where
    by : (z : Bool) → Amount t p (Stay (if z then PopInjected k else StealFrom (record k { victim = not_self g.workers (own_index q) (next_victim g.workers k.victim) }) (n - 1))) (share_target t k.target)
    by true = (omega arith, refl)
    by false = (omega arith, refl)

am_yield : (t p : ℕ) (g : PoolShape) (q : Party) (v n : ℕ) → Amount t p (Stay (next_yield g q v n)) 0
am_yield t p g q v n = by (n == 0)
  where
    by : (z : Bool) → Amount t p (Stay (if z then YieldPopInjected else YieldSteal (not_self g.workers (own_index q) (next_victim g.workers v)) (n - 1))) 0
    by true = (omega arith, refl)
    by false = (omega arith, refl)

am_failed : (t p : ℕ) (g : PoolShape) (k : Wait) (r : Rounds) → Amount t p (Stay (after_failure g k r)) (share_target t k.target)
am_failed t p g k (Failed n) = by (nat_lt n g.limit)
  where
    by : (z : Bool) → Amount t p (Stay (if z then ProbeIdle (record k { rounds = Failed (n + 1) }) else AnnounceSelf k)) (share_target t k.target)
    by true = (omega arith, refl)
    by false = (omega arith, refl)
am_failed t p g k Announced = (omega arith, refl)

am_fed : (t p : ℕ) (f : Feeding) (k : Count) → Amount t p (Stay (begin_feed k f)) (one (t == f.job))
am_fed t p f (OfPool r) = (omega arith, refl)
am_fed t p f (OfScope c o) = (omega arith, refl)
am_fed t p f (OfCast c o) = (omega arith, refl)

am_raised : (t p : ℕ) (n : Plan) → Amount t p (after_raise n) (one (t == plan_job n))
am_raised t p (Detach r u) = (omega arith, refl)
am_raised t p (Here r u) = (omega arith, refl)
am_raised t p (Send o) = (omega arith, refl)
am_raised t p (Fork o a) = (omega arith, refl)
am_raised t p (Feed f) = (let a : Amount t p (Stay (begin_feed f.count f)) (one (t == f.job)) = am_fed t p f f.count in let b : share t (begin_feed f.count f) ≡ one (t == f.job) = a.0 in omega (arith, b), (am_fed t p f f.count).1)
am_raised t p (Gather g) = (omega arith, refl)
am_raised t p (Open o) = (omega arith, refl)
am_raised t p (Enter e) = (omega arith, refl)

am_goes : (t : ℕ) (n : Plan) → share_then t (after_news n) ≡ share_rest t n
am_goes t (Detach r u) = omega arith
am_goes t (Here r u) = omega arith
am_goes t (Send o) = omega arith
am_goes t (Fork o a) = omega arith
am_goes t (Feed f) = omega arith
am_goes t (Open o) = omega arith
am_goes t (Enter e) = omega arith
am_goes t (Gather g) = omega arith

am_after : (t : ℕ) (g : Target) (o : Option Taken) → share_then t (after_found g o) ≡ share_target t g
am_after t g None = omega arith
am_after t g (Some u) = omega arith

am_pop : (t p : ℕ) (o : OpenCall) (u : Taken) → Amount t p (if is_taken u o.job then Enter (SecondSide o) (BeginHere o.job) else Enter (JoinProbe o) (BeginTask u)) (one (t == o.job))
am_pop t p o u = by (is_taken u o.job)
  where
    by : (z : Bool) → Amount t p (if z then Enter (SecondSide o) (BeginHere o.job) else Enter (JoinProbe o) (BeginTask u)) (one (t == o.job))
    by true = (omega arith, refl)
    by false = (omega arith, refl)

am_set : (t p : ℕ) (c : ℕ) (o : Party) (n : Then) → Amount t p (Stay (set_call c o n)) (share_then t n)
am_set t p c (Worker a b) n = (omega arith, refl)
am_set t p c (Caller m) n = (omega arith, refl)

am_count : (t p : ℕ) (g : PoolShape) (q : Party) (c : Count) (n : Then) → Amount t p (settle_count g q c n) (share_then t n)
am_count t p g q (OfPool r) n = am_settle t p g q r 0 n
am_count t p g q (OfScope c o) n = am_set t p c o n
am_count t p g q (OfCast c o) n = am_set t p c o n

am_ends : (t p : ℕ) (k : Count) → Amount t p (Stay (ends_count k)) 0
am_ends t p (OfPool r) = (omega arith, refl)
am_ends t p (OfScope c o) = am_set t p c o Resume
am_ends t p (OfCast c o) = am_set t p c o Resume

am_begins : (t p : ℕ) (c : Pieces) (k : Count) → Amount t p (Stay (begin_cast k c)) (one (is_piece c t))
am_begins t p c (OfPool r) = (omega arith, refl)
am_begins t p c (OfScope n o) = (omega arith, refl)
am_begins t p c (OfCast n o) = (omega arith, refl)

am_undoes : (t p : ℕ) (c : Pieces) (k : Count) → Amount t p (Stay (end_cast k c)) (one (is_piece c t))
am_undoes t p c (OfPool r) = (omega arith, refl)
am_undoes t p c (OfScope n o) = (omega arith, refl)
am_undoes t p c (OfCast n o) = (omega arith, refl)

am_slot : (t p : ℕ) (n : Plan) → Amount t p (Stay (after_slot n)) (one (t == plan_job n))
am_slot t p (Feed f) = (omega arith, refl)
am_slot t p (Detach r u) = (omega arith, refl)
am_slot t p (Here r u) = (omega arith, refl)
am_slot t p (Send o) = (omega arith, refl)
am_slot t p (Fork o a) = (omega arith, refl)
am_slot t p (Open o) = (omega arith, refl)
am_slot t p (Enter e) = (omega arith, refl)
am_slot t p (Gather g) = (omega arith, refl)

am_push : (t : ℕ) (n : Plan) (v : Bool) → share t (TellNews n v) + pushed t (PushJob n v) Done ≡ one (t == plan_job n)
am_push t (Detach r u) v = omega arith
am_push t (Here r u) v = omega arith
am_push t (Send o) v = omega arith
am_push t (Fork o a) v = omega arith
am_push t (Feed f) v = omega arith
am_push t (Open o) v = omega arith
am_push t (Enter e) v = omega arith
am_push t (Gather g) v = omega arith

abbrev pub is_done_seen : Seen → Bool
is_done_seen Done = true
is_done_seen _ = false

am_back : (t p : ℕ) (n : Plan) → Amount t p (Stay (after_push n)) (one (t == plan_job n))
am_back t p n = by (plan_book n)
  where
    by : (o : Option ℕ) → Amount t p (Stay (withdraw o n)) (one (t == plan_job n))
    by None = (omega arith, refl)
    by (Some c) = (omega arith, refl)

pub not_pushed : (t : ℕ) (n : Plan) (v : Bool) (e : Seen) → is_done_seen e ≡ false → pushed t (PushJob n v) e ≡ 0
not_pushed t (Detach r u) v Done z = cc
not_pushed t (Here r u) v Done z = cc
not_pushed t (Send o) v Done z = cc
not_pushed t (Fork o a) v Done z = cc
not_pushed t (Feed f) v Done z = cc
not_pushed t (Open o) v Done z = cc
not_pushed t (Enter x) v Done z = cc
not_pushed t (Gather g) v Done z = cc
not_pushed t (Detach r u) v _ z = refl
not_pushed t (Here r u) v _ z = refl
not_pushed t (Send o) v _ z = refl
not_pushed t (Fork o a) v _ z = refl
not_pushed t (Feed f) v _ z = refl
not_pushed t (Open o) v _ z = refl
not_pushed t (Enter x) v _ z = refl
not_pushed t (Gather g) v _ z = refl

-- over the whole table: what a stack keeps after a move is what it kept, with what was raised, less what went with a
-- job or was given back
pub amounts : (g : PoolShape) (q : Party) (t p : ℕ) (x : Place) (e : Seen) → (share_move t (next_of g q x e) + (pushed t x e + paid t x) ≡ share t x + (gained t x e + regained t x e)) × (values_move p (next_of g q x e) ≡ 0)
amounts g q t p (ProbeWorking k) Yes = (
  let a : Amount t p (Stay (after_wait k.target)) (share_target t k.target) = am_left t p k.target in let b : share_move t (Stay (after_wait k.target)) ≡ share_target t k.target = a.0 in
      omega (arith, b),
  (let a : Amount t p (Stay (after_wait k.target)) (share_target t k.target) = am_left t p k.target in a.1),
)
amounts g q t p (ProbeWorking k) _ = (omega arith, refl)
amounts g q t p (PopWorking k) (Task u) = (omega arith, refl)
amounts g q t p (PopWorking k) _ = (omega arith, refl)
amounts g q t p (TakeCastWorking k) (Task u) = (omega arith, refl)
amounts g q t p (TakeCastWorking k) _ = (omega arith, refl)
amounts g q t p (ProbeIdle k) Yes = (omega arith, refl)
amounts g q t p (ProbeIdle k) _ = (omega arith, refl)
amounts g q t p (PopIdle k) (Task u) = (omega arith, refl)
amounts g q t p (PopIdle k) _ = (omega arith, refl)
amounts g q t p (TakeCastIdle k) (Task u) = (omega arith, refl)
amounts g q t p (TakeCastIdle k) _ = (
  let a : Amount t p (if g.workers == 1 then Stay (PopInjected k) else Stay (PickVictim k)) (share_target t k.target) = am_if t p (share_target t k.target) (PopInjected k) (PickVictim k) (g.workers == 1) (omega arith, refl) (omega arith, refl) in
      let b : share_move t (if g.workers == 1 then Stay (PopInjected k) else Stay (PickVictim k)) ≡ share_target t k.target = a.0 in
      omega (arith, b),
  (let a : Amount t p (if g.workers == 1 then Stay (PopInjected k) else Stay (PickVictim k)) (share_target t k.target) = am_if t p (share_target t k.target) (PopInjected k) (PickVictim k) (g.workers == 1) (omega arith, refl) (omega arith, refl) in a.1),
)
amounts g q t p (PickVictim k) (Start v) = (omega arith, refl)
amounts g q t p (PickVictim k) _ = (omega arith, refl)
amounts g q t p (StealFrom k n) (Task u) = (omega arith, refl)
amounts g q t p (StealFrom k n) _ = (
  let a : Amount t p (Stay (next_steal g q k n)) (share_target t k.target) = am_steal t p g q k n in let b : share_move t (Stay (next_steal g q k n)) ≡ share_target t k.target = a.0 in
      omega (arith, b),
  (let a : Amount t p (Stay (next_steal g q k n)) (share_target t k.target) = am_steal t p g q k n in a.1),
)
amounts g q t p (PopInjected k) (Task u) = (omega arith, refl)
amounts g q t p (PopInjected k) _ = (
  let a : Amount t p (Stay (after_failure g k k.rounds)) (share_target t k.target) = am_failed t p g k k.rounds in let b : share_move t (Stay (after_failure g k k.rounds)) ≡ share_target t k.target = a.0 in
      omega (arith, b),
  (let a : Amount t p (Stay (after_failure g k k.rounds)) (share_target t k.target) = am_failed t p g k k.rounds in a.1),
)
amounts g q t p (AnnounceSelf k) (Jec j) = (omega arith, refl)
amounts g q t p (AnnounceSelf k) _ = (omega arith, refl)
amounts g q t p (GetSleepy k) Done = (omega arith, refl)
amounts g q t p (GetSleepy k) _ = (omega arith, refl)
amounts g q t p (FallAsleep k) Done = (omega arith, refl)
amounts g q t p (FallAsleep k) _ = (omega arith, refl)
amounts g q t p (AddSleeping k) Done = (omega arith, refl)
amounts g q t p (AddSleeping k) _ = (omega arith, refl)
amounts g q t p (LookAtCast k) Yes = (omega arith, refl)
amounts g q t p (LookAtCast k) _ = (omega arith, refl)
amounts g q t p (LookAtInjector k) Yes = (omega arith, refl)
amounts g q t p (LookAtInjector k) _ = (omega arith, refl)
amounts g q t p (LoadCounters k) (Word a1 b1 j) = (
  let a : Amount t p (if j == k.kept then Stay (AddSleeping (record k { sleeping = a1; inactive = b1 })) else Stay (WakeUp (record k { rounds = Failed g.limit }))) (share_target t k.target) = am_if t p (share_target t k.target)
      (AddSleeping (record k { sleeping = a1; inactive = b1 })) (WakeUp (record k { rounds = Failed g.limit })) (j == k.kept) (omega arith, refl) (omega arith, refl) in
      let b : share_move t (if j == k.kept then Stay (AddSleeping (record k { sleeping = a1; inactive = b1 })) else Stay (WakeUp (record k { rounds = Failed g.limit }))) ≡ share_target t k.target = a.0 in
      omega (arith, b),
  (let a : Amount t p (if j == k.kept then Stay (AddSleeping (record k { sleeping = a1; inactive = b1 })) else Stay (WakeUp (record k { rounds = Failed g.limit }))) (share_target t k.target) = am_if t p (share_target t k.target)
      (AddSleeping (record k { sleeping = a1; inactive = b1 })) (WakeUp (record k { rounds = Failed g.limit })) (j == k.kept) (omega arith, refl) (omega arith, refl) in a.1),
)
amounts g q t p (LoadCounters k) _ = (omega arith, refl)
amounts g q t p (LeaveSearch k) (Wakes n) = (
  let a : Amount t p (walk g q (own_pool q) n 0 (after_found k.target k.found)) (share_then t (after_found k.target k.found)) = am_walk t p g q (own_pool q) n 0 (after_found k.target k.found) in
      let b : share_move t (walk g q (own_pool q) n 0 (after_found k.target k.found)) ≡ share_then t (after_found k.target k.found) = a.0 in let c : share_then t (after_found k.target k.found) ≡ share_target t k.target = am_after t k.target k.found in
      omega (arith, b, c),
  (let a : Amount t p (walk g q (own_pool q) n 0 (after_found k.target k.found)) (share_then t (after_found k.target k.found)) = am_walk t p g q (own_pool q) n 0 (after_found k.target k.found) in a.1),
)
amounts g q t p (LeaveSearch k) _ = (omega arith, refl)
amounts g q t p (JoinProbe o) Yes = (omega arith, refl)
amounts g q t p (JoinProbe o) _ = (omega arith, refl)
amounts g q t p (JoinPop o) (Task u) = (
  let a : Amount t p (if is_taken u o.job then Enter (SecondSide o) (BeginHere o.job) else Enter (JoinProbe o) (BeginTask u)) (one (t == o.job)) = am_pop t p o u in
      let b : share_move t (if is_taken u o.job then Enter (SecondSide o) (BeginHere o.job) else Enter (JoinProbe o) (BeginTask u)) ≡ one (t == o.job) = a.0 in
      omega (arith, b),
  (let a : Amount t p (if is_taken u o.job then Enter (SecondSide o) (BeginHere o.job) else Enter (JoinProbe o) (BeginTask u)) (one (t == o.job)) = am_pop t p o u in a.1),
)
amounts g q t p (JoinPop o) _ = (omega arith, refl)
amounts g q t p (JoinTakeCast o) (Task u) = (omega arith, refl)
amounts g q t p (JoinTakeCast o) _ = (omega arith, refl)
amounts g q t p YieldPop (Task u) = (omega arith, refl)
amounts g q t p YieldPop _ = (omega arith, refl)
amounts g q t p YieldPopInjected (Task u) = (omega arith, refl)
amounts g q t p YieldPopInjected _ = (omega arith, refl)
amounts g q t p LocalPop (Task u) = (omega arith, refl)
amounts g q t p LocalPop _ = (omega arith, refl)
amounts g q t p LocalTakeCast (Task u) = (omega arith, refl)
amounts g q t p LocalTakeCast _ = (omega arith, refl)
amounts g q t p YieldTakeCast (Task u) = (omega arith, refl)
amounts g q t p YieldTakeCast _ = (
  let a : Amount t p (if g.workers == 1 then Stay YieldPopInjected else Stay YieldPick) (0) = am_if t p 0 YieldPopInjected YieldPick (g.workers == 1) (omega arith, refl) (omega arith, refl) in
      let b : share_move t (if g.workers == 1 then Stay YieldPopInjected else Stay YieldPick) ≡ 0 = a.0 in omega (arith, b),
  (let a : Amount t p (if g.workers == 1 then Stay YieldPopInjected else Stay YieldPick) (0) = am_if t p 0 YieldPopInjected YieldPick (g.workers == 1) (omega arith, refl) (omega arith, refl) in a.1),
)
amounts g q t p YieldPick (Start v) = (omega arith, refl)
amounts g q t p YieldPick _ = (omega arith, refl)
amounts g q t p (YieldSteal v n) (Task u) = (omega arith, refl)
amounts g q t p (YieldSteal v n) _ = (let a : Amount t p (Stay (next_yield g q v n)) (0) = am_yield t p g q v n in let b : share_move t (Stay (next_yield g q v n)) ≡ 0 = a.0 in omega (arith, b), (let a : Amount t p (Stay (next_yield g q v n)) (0) = am_yield t p g q v n in a.1))
amounts g q t p (BeginTask (Plain u)) (Begun d) = (omega arith, refl)
amounts g q t p (BeginTask (Plain u)) _ = (omega arith, refl)
amounts g q t p (BeginTask (Token k i b8)) (Handed u d) = (omega arith, refl)
amounts g q t p (BeginTask (Token k i b8)) _ = (omega arith, refl)
amounts g q t p (AddToFifo f) Done = (omega arith, refl)
amounts g q t p (AddToFifo f) _ = (let a : Amount t p (Stay (after_push (Feed f))) (one (t == f.job)) = am_back t p (Feed f) in let b : share t (after_push (Feed f)) ≡ one (t == f.job) = a.0 in omega (arith, b), (am_back t p (Feed f)).1)
amounts g q t p (LookForToken f) Yes = (omega arith, refl)
amounts g q t p (LookForToken f) _ = (omega arith, refl)
amounts g q t p (PushToken f v) Done = (omega arith, refl)
amounts g q t p (PushToken f v) _ = (omega arith, refl)
amounts g q t p (TakeFromFifo f) (Task x) = (
  let a : Amount t p (Stay (after_push (Feed (record f { job = taken_number x })))) (one (t == taken_number x)) = am_back t p (Feed (record f { job = taken_number x })) in
      let b : share t (after_push (Feed (record f { job = taken_number x }))) ≡ one (t == taken_number x) = a.0 in omega (arith, b),
  (am_back t p (Feed (record f { job = taken_number x }))).1,
)
amounts g q t p (TakeFromFifo f) _ = (omega arith, refl)
amounts g q t p (RaiseCount n) Done = (let b : share_move t (after_raise n) ≡ one (t == plan_job n) = (am_raised t p n).0 in omega (arith, b), (am_raised t p n).1)
amounts g q t p (RaiseCount n) _ = (omega arith, refl)
amounts g q t p (RaiseForAll c) Done = (let a : Amount t p (Stay (begin_cast c.count c)) (one (is_piece c t)) = am_begins t p c c.count in let b : share t (begin_cast c.count c) ≡ one (is_piece c t) = a.0 in omega (arith, b), (am_begins t p c c.count).1)
amounts g q t p (OpenForAll c) (Opened n) = (omega arith, refl)
amounts g q t p (OpenForAll c) _ = (omega arith, refl)
amounts g q t p (GrowCast d) Done = (omega arith, refl)
amounts g q t p (GrowCast d) _ = (omega arith, refl)
amounts g q t p (DealPieces d) Done = (omega arith, refl)
amounts g q t p (DealPieces d) _ = (omega arith, refl)
amounts g q t p (RaiseForAll c) _ = (omega arith, refl)
amounts g q t p (PushForAll c) Done = (omega arith, refl)
amounts g q t p (PushForAll c) _ = (let a : Amount t p (Stay (end_cast c.count c)) (one (is_piece c t)) = am_undoes t p c c.count in let b : share t (end_cast c.count c) ≡ one (is_piece c t) = a.0 in omega (arith, b), (am_undoes t p c c.count).1)
amounts g q t p (LowerForAll c) Yes = (let a : Amount t p (Stay (ends_count c.count)) 0 = am_ends t p c.count in let b : share t (ends_count c.count) ≡ 0 = a.0 in omega (arith, b), (am_ends t p c.count).1)
amounts g q t p (LowerForAll c) _ = (omega arith, refl)
amounts g q t p (GrowCall n) Done = (omega arith, refl)
amounts g q t p (GrowCall n) _ = (omega arith, refl)
amounts g q t p (LookQueue n) Yes = (omega arith, refl)
amounts g q t p (LookQueue n) _ = (omega arith, refl)
amounts g q t p (PushJob n v) Done = (let b : share t (TellNews n v) + pushed t (PushJob n v) Done ≡ one (t == plan_job n) = am_push t n v in omega (arith, b), refl)
amounts g q t p (PushJob n v) e = (
  let a : Amount t p (Stay (after_push n)) (one (t == plan_job n)) = am_back t p n in let c : share t (after_push n) ≡ one (t == plan_job n) = a.0 in let b : pushed t (PushJob n v) e ≡ 0 = not_pushed t n v e refl in
      omega (arith, b, c),
  (let a : Amount t p (Stay (after_push n)) (one (t == plan_job n)) = am_back t p n in a.1),
)
amounts g q t p (GrowScope o) Done = (omega arith, refl)
amounts g q t p (GrowScope o) _ = (omega arith, refl)
amounts g q t p (OpenSlot x) Done = (let a : Amount t p (Stay (after_slot x)) (one (t == plan_job x)) = am_slot t p x in let b : share t (after_slot x) ≡ one (t == plan_job x) = a.0 in omega (arith, b), (am_slot t p x).1)
amounts g q t p (OpenSlot x) _ = (omega arith, refl)
amounts g q t p (TellNews n v) (Wakes k) = (
  let a : Amount t p (walk g q (plan_pool n) k 0 (after_news n)) (share_then t (after_news n)) = am_walk t p g q (plan_pool n) k 0 (after_news n) in let b : share_move t (walk g q (plan_pool n) k 0 (after_news n)) ≡ share_then t (after_news n) = a.0 in
      let c : share_then t (after_news n) ≡ share_rest t n = am_goes t n in omega (arith, b, c),
  (let a : Amount t p (walk g q (plan_pool n) k 0 (after_news n)) (share_then t (after_news n)) = am_walk t p g q (plan_pool n) k 0 (after_news n) in a.1),
)
amounts g q t p (TellNews n v) _ = (omega arith, refl)
amounts g q t p (WakeWorker k) Yes = (omega arith, refl)
amounts g q t p (WakeWorker k) _ = (omega arith, refl)
amounts g q t p (UnlockWoken k) e = (
  let a : Amount t p (walk g q k.pool k.owed (k.worker + 1) k.then) (share_then t k.then) = am_walk t p g q k.pool k.owed (k.worker + 1) k.then in let b : share_move t (walk g q k.pool k.owed (k.worker + 1) k.then) ≡ share_then t k.then = a.0 in
      omega (arith, b),
  (let a : Amount t p (walk g q k.pool k.owed (k.worker + 1) k.then) (share_then t k.then) = am_walk t p g q k.pool k.owed (k.worker + 1) k.then in a.1),
)
amounts g q t p (TakeResult o f) (Found d) = (omega arith, refl)
amounts g q t p (TakeResult o f) _ = (omega arith, refl)
amounts g q t p (LowerCount r s n) Yes = (
  let a : Amount t p (settle_count g q r n) (share_then t n) = am_count t p g q r n in let b : share_move t (settle_count g q r n) ≡ share_then t n = a.0 in
      omega (arith, b),
  (let a : Amount t p (settle_count g q r n) (share_then t n) = am_count t p g q r n in a.1),
)
amounts g q t p (LowerCount r s n) _ = (let a : Amount t p (finish q n) (share_then t n) = am_finish t p q n in let b : share_move t (finish q n) ≡ share_then t n = a.0 in omega (arith, b), (let a : Amount t p (finish q n) (share_then t n) = am_finish t p q n in a.1))
amounts g q t p (StoreResult i o d) e = (let a : Amount t p (Stay (set_call i o Resume)) (0) = am_set t p i o Resume in let b : share_move t (Stay (set_call i o Resume)) ≡ 0 = a.0 in omega (arith, b), (let a : Amount t p (Stay (set_call i o Resume)) (0) = am_set t p i o Resume in a.1))
amounts g q t p (SetLatch k) Yes = (omega arith, refl)
amounts g q t p (SetLatch k) _ = (
  let a : Amount t p (after_set g q k k.latch) (share_then t k.then) = am_settled t p g q k k.latch in let b : share_move t (after_set g q k k.latch) ≡ share_then t k.then = a.0 in
      omega (arith, b),
  (let a : Amount t p (after_set g q k k.latch) (share_then t k.then) = am_settled t p g q k k.latch in a.1),
)
amounts g q t p (UnlockSettled k) e = (
  let a : Amount t p (after_set g q k k.latch) (share_then t k.then) = am_settled t p g q k k.latch in let b : share_move t (after_set g q k k.latch) ≡ share_then t k.then = a.0 in
      omega (arith, b),
  (let a : Amount t p (after_set g q k k.latch) (share_then t k.then) = am_settled t p g q k k.latch in a.1),
)
amounts g q t p (SetLockLatch c n) e = (let a : Amount t p (finish q n) (share_then t n) = am_finish t p q n in let b : share_move t (finish q n) ≡ share_then t n = a.0 in omega (arith, b), (let a : Amount t p (finish q n) (share_then t n) = am_finish t p q n in a.1))
amounts g q t p _ e = (omega arith, refl)

-- a move keeps what its places and the frames below them do
pub land_shares : (t : ℕ) (g : Move) (fs : List Place) → shares t (after_move g fs) ≡ share_move t g + shares_in t fs
land_shares t (Stay y) fs = omega arith
land_shares t (HandIn y token) fs = omega arith
land_shares t (Mark y b9 m9) fs = omega arith
land_shares t (Enter f y) fs = omega arith
land_shares t (StartRun f a) fs = omega arith
land_shares t Back [] = omega arith
land_shares t Back (f ∷ fs) = omega arith
land_shares t (HandBack n) [] = omega arith
land_shares t (Discard n) [] = omega arith
land_shares t (HandAllBack b9) [] = omega arith
land_shares t (HandBack n) (f ∷ fs) = omega arith
land_shares t (Discard n) (f ∷ fs) = omega arith
land_shares t (HandAllBack b9) (f ∷ fs) = omega arith

pub land_raises : (t : ℕ) (g : Move) (fs : List Place) → all_raises t (after_move g fs) ≤ raises_move t g + raises_in t fs
land_raises t (Stay y) fs = omega arith
land_raises t (HandIn y token) fs = omega arith
land_raises t (Mark y b9 m9) fs = omega arith
land_raises t (Enter f y) fs = omega arith
land_raises t (StartRun f a) fs = omega arith
land_raises t Back [] = omega arith
land_raises t Back (f ∷ fs) = omega arith
land_raises t (HandBack n) [] = omega arith
land_raises t (Discard n) [] = omega arith
land_raises t (HandAllBack b9) [] = omega arith
land_raises t (HandBack n) (f ∷ fs) = omega arith
land_raises t (Discard n) (f ∷ fs) = omega arith
land_raises t (HandAllBack b9) (f ∷ fs) = omega arith

pub land_values : (t : ℕ) (g : Move) (fs : List Place) → all_values t (after_move g fs) ≡ values_move t g + values_in t fs
land_values t (Stay y) fs = omega arith
land_values t (HandIn y token) fs = omega arith
land_values t (Mark y b9 m9) fs = omega arith
land_values t (Enter f y) fs = omega arith
land_values t (StartRun f a) fs = omega arith
land_values t Back [] = omega arith
land_values t Back (f ∷ fs) = omega arith
land_values t (HandBack n) [] = omega arith
land_values t (Discard n) [] = omega arith
land_values t (HandAllBack b9) [] = omega arith
land_values t (HandBack n) (f ∷ fs) = omega arith
land_values t (Discard n) (f ∷ fs) = omega arith
land_values t (HandAllBack b9) (f ∷ fs) = omega arith
