-- what a stack says of the world, and what acts and moves leave of it
--
-- For the party that moves, `says_next` goes over the table of moves. What the old place says, and what the act's
-- answer tells (`Learns`), give what is said of the next place.
-- Frames say the same as tops. `Link` ties a frame to what stands right above it: above a join's frame its first side
-- runs.
use Rattle.rayon_machine_places.specs.declared.place.Feeding.{Feeding}
use Rattle.rayon_machine_places.specs.declared.place.Pieces.{Pieces}
use Rattle.rayon_machine_places.specs.declared.place.Count.TheVariants.{OfPool, OfScope, OfCast}
use Rattle.rayon_machine_places.specs.declared.place.Count.{Count}
use Rattle.std.proofs.Common.{refl, sym, ap, subst, inl, inr, ◌∙◌}
use Rattle.std.specs.Prelude.{ℕ, Bool, true, false, ◌&&◌, ◌+◌, ◌-◌, ◌==◌, ◌≤◌, nat_lt, if◌then◌else◌, Option, Some, None, List, [], ◌∷◌, ◌≡◌, ⊤}
use Rattle.rayon_machine_places.specs.declared.place.Party.{Party}
use Rattle.rayon_machine_places.specs.declared.place.Party.TheVariants.{Worker, Caller}
use Rattle.rayon_machine_places.specs.declared.place.Ending.TheVariants.{Fine}
use Rattle.rayon_machine_places.specs.declared.place.JobKind.TheVariants.{Detached, Stored, Direct, TokenOf, Scoped, BodyOf, PieceOf, WholeOf}
use Rattle.rayon_machine_places.specs.declared.place.Target.{Target}
use Rattle.rayon_machine_places.specs.declared.place.Target.TheVariants.{Termination, Answer}
use Rattle.rayon_machine_places.specs.declared.place.Latch.{Latch}
use Rattle.rayon_machine_places.specs.declared.place.Latch.TheVariants.{Terminate, OfCall}
use Rattle.rayon_machine_places.specs.declared.place.Rounds.{Rounds}
use Rattle.rayon_machine_places.specs.declared.place.Rounds.TheVariants.{Failed, Announced}
use Rattle.rayon_machine_places.specs.declared.place.Plan.{Plan}
use Rattle.rayon_machine_places.specs.declared.place.Plan.TheVariants.{Detach, Here, Send, Fork, Feed, Open, Enter, Gather}
use Rattle.rayon_machine_places.specs.declared.place.Share.{Share}
use Rattle.rayon_machine_places.specs.declared.place.Share.TheVariants.{PoolValue, OfJob, Body}
use Rattle.rayon_machine_places.specs.declared.place.Then.{Then}
use Rattle.rayon_machine_places.specs.declared.place.Then.TheVariants.{BeginFound, LeaveWait, Resume, Await, RunFirst, Answers, Missing, Ran, GiveBack, Called, Gathers}
use Rattle.rayon_machine_places.specs.declared.place.Taken.{Taken}
use Rattle.rayon_machine_places.specs.declared.place.Taken.TheVariants.{Plain, Token}
use Rattle.rayon_machine_places.specs.declared.place.Place.{Place}
use Rattle.rayon_machine_places.specs.declared.place.Place.TheVariants.{ProbeWorking, PopWorking, TakeCastWorking, ProbeIdle, PopIdle, TakeCastIdle, PickVictim, StealFrom, PopInjected, AnnounceSelf, GetSleepy, FallAsleep, LoadCounters, AddSleeping, LookAtCast, LookAtInjector}
use Rattle.rayon_machine_places.specs.declared.place.Place.TheVariants.{WakeUp, LeaveSearch, JoinProbe, JoinPop, JoinTakeCast, YieldPop, YieldTakeCast, YieldPick, YieldSteal, YieldPopInjected, LocalPop, LocalTakeCast, BeginTask, BeginHere, Run, RaiseCount, GrowCall, LookQueue}
use Rattle.rayon_machine_places.specs.declared.place.Place.TheVariants.{PushJob, TellNews, LockToWake, WakeWorker, UnlockWoken, TakeResult, LowerCount, StoreResult, SetLatch, UnlockSettled, SetLockLatch, FirstSide, SecondSide, AtOnce, AddToFifo, LookForToken, PushToken}
use Rattle.rayon_machine_places.specs.declared.place.Place.TheVariants.{TakeFromFifo, RaiseForAll, PushForAll, LowerForAll, GrowScope, OpenSlot, CloseSlot, StoreBody, StoreSlot, ScopeBody, OpenForAll, CloseForAll, GrowCast, DealPieces, StorePiece}
use Rattle.rayon_machine_places.specs.declared.place.Move.{Move}
use Rattle.rayon_machine_places.specs.declared.place.Move.TheVariants.{Stay, Enter, StartRun, Back, HandBack, Discard, HandIn, Mark, HandAllBack}
use Rattle.rayon_machine_places.specs.declared.act.Seen.{Seen}
use Rattle.rayon_machine_places.specs.declared.act.Seen.TheVariants.{Done, Yes, Task, Jec, Word, Start, Wakes, Begun, Found, Handed, Opened as Slots}
use Rattle.rayon_machine_places.specs.declared.shape.PoolShape.{PoolShape}
use Rattle.rayon_machine_places.specs.declared.place.OpenCall.{OpenCall}
use Rattle.rayon_machine_places.specs.declared.place.Wait.{Wait}
use Rattle.rayon_machine_places.specs.declared.place.Settling.{Settling}
use Rattle.rayon_machine_places.specs.Places.{own_pool, own_index, plan_pool, after_wait, finish, walk, settle, after_set, after_found, after_news, after_raise, undo, set_call, next_victim, not_self, after_failure, next_steal, next_yield, next_of, is_taken, taken_number}
use Rattle.rayon_machine_places.specs.Places.{after_push, settle_count, count_kind, count_book, begin_feed, withdraw, after_slot, begin_cast, end_cast, ends_count}
use Rattle.rayon_machine_runs.specs.World.{Stack, World}
use Rattle.rayon_machine_runs.specs.Steps.{after_move}
use Rattle.rayon_machine_runs.specs.Readers.{is_done}
pub use Rattle.rayon_machine_laws.specs.Counted.{is_detached, is_scoped}
pub use Rattle.rayon_machine_laws.proofs.ClaimPlaces.{call_kind, is_body, call_undetached, call_unscoped, body_unscoped, is_part, counts_detached, Opened, MadeAs, Tied, PartOf, KnownCount, PieceAs, SaysPieces, SaysCast, SaysGather, PieceEnds, EndsAs, FirstEnds, SaysTarget, Left}
pub use Rattle.rayon_machine_laws.proofs.ClaimPlaces.{Taking, Spendable, Awaited, SaysFound, SaysPlan, SaysQueue, SaysSlot, SaysTold, queue_plan, SaysTaken, SaysThen, SaysOwner, SaysEntry, SaysBody, SaysShare, IsStored, IsReady, SaysLatch, IsZero, SaysRun, Says}

-- the job whose run a frame goes on from, and the job that a place begins or runs for its call
abbrev pub wants : Place → Option ℕ
wants (FirstSide o a) = Some a
wants (SecondSide o) = Some o.job
wants (ScopeBody o) = Some o.job
wants (AtOnce p t) = Some t
wants _ = None

abbrev pub here : Place → Option ℕ
here (BeginHere t) = Some t
here (Run t Direct) = Some t
here (Run t (TokenOf i b8)) = Some t
here (Run t (BodyOf c9 o9)) = Some t
here (Run t (WholeOf c9 o9)) = Some t
here _ = None

-- above a frame stands what it goes on from
abbrev pub Link : Place → Place → Type 0
Link f x = (t : ℕ) → wants f ≡ Some t → here x ≡ Some t

abbrev pub Linked : Place → List Place → Type 0
Linked x [] = ⊤
Linked x (f ∷ fs) = Link f x × Linked f fs

abbrev pub AllSay : World → Party → List Place → Type 0
AllSay w q [] = ⊤
AllSay w q (f ∷ fs) = Says w q f × AllSay w q fs

-- a party's whole stack
pub record StackSays (w : World) (q : Party) (k : Stack) : Type 0 where
  pub top : Says w q k.top
  pub below : AllSay w q k.below
  pub links : Linked k.top k.below

-- the job that a refused call has taken back, or never added to its FIFO list, is detached, and so no token; nor is it
-- a piece of a broadcast that waits
abbrev pub SaysBack : World → Plan → Type 0
SaysBack w (Feed f) = (is_detached (w.job f.job).kind ≡ true) × (is_part (w.job f.job).kind ≡ false)
SaysBack w (Gather g) = SaysPieces w g.pieces
SaysBack w _ = ⊤

known_part : (w : World) (k : Count) (p : ℕ) → KnownCount w k p → is_part (count_kind k) ≡ false
known_part w (OfPool r) p s = refl
known_part w (OfScope c o) p s = refl
known_part w (OfCast c o) p s = absurd s

says_back : (w : World) (q : Party) (n : Plan) → SaysPlan w q n → SaysBack w n
says_back w q (Feed f) s = (ap is_detached ((s.0).kind) ∙ counts_detached f.count, ap is_part ((s.0).kind) ∙ known_part w f.count f.pool (s.3))
says_back w q (Gather g) s = s.pieces
says_back w q (Detach p t) s = tt
says_back w q (Here p t) s = tt
says_back w q (Send o) s = tt
says_back w q (Open o) s = tt
says_back w q (Enter e) s = tt
says_back w q (Fork o a) s = tt

-- what is said of where a move leads
abbrev pub SaysMove : World → Party → Move → Type 0
SaysMove w q (Stay y) = Says w q y
SaysMove w q (HandIn y k) = Says w q y × Spendable w k
SaysMove w q (Enter f y) = Says w q f × Says w q y × Link f y
SaysMove w q (StartRun f a) = Says w q f × Link f (Run a Direct) × Awaited w a
SaysMove w q Back = ⊤
SaysMove w q (HandBack n) = SaysBack w n
SaysMove w q (Discard k) = Spendable w k
SaysMove w q (Mark y c k) = Says w q y × SaysPieces w c
SaysMove w q (HandAllBack c) = SaysPieces w c

-- what was run for a frame below is still so
abbrev pub PassMove : Place → Move → Type 0
PassMove x (Stay y) = (t : ℕ) → here x ≡ Some t → here y ≡ Some t
PassMove x (HandIn y token) = (t : ℕ) → here x ≡ Some t → here y ≡ Some t
PassMove x (Mark y b9 m9) = (t : ℕ) → here x ≡ Some t → here y ≡ Some t
PassMove x (Enter f y) = (t : ℕ) → here x ≡ Some t → here f ≡ Some t
PassMove x (StartRun f a) = (t : ℕ) → here x ≡ Some t → here f ≡ Some t
PassMove x _ = ⊤

pub none_passes : (x : Place) (g : Move) → here x ≡ None → PassMove x g
none_passes x (Stay y) e = λ t z. cc
none_passes x (HandIn y token) e = λ t z. cc
none_passes x (Mark y b9 m9) e = λ t z. cc
none_passes x (Enter f y) e = λ t z. cc
none_passes x (StartRun f a) e = λ t z. cc
none_passes x Back e = tt
none_passes x (HandBack n) e = tt
none_passes x (Discard n) e = tt
none_passes x (HandAllBack b9) e = tt

pub relink : (x y : Place) (fs : List Place) → ((t : ℕ) → here x ≡ Some t → here y ≡ Some t) → Linked x fs → Linked y fs
relink x y [] h k = tt
relink x y (f ∷ fs) h k = (λ t z. h t (k.0 t z), k.1)

pub land_says : (w : World) (q : Party) (x : Place) (g : Move) (fs : List Place) → SaysMove w q g → PassMove x g → AllSay w q fs → Linked x fs → StackSays w q (after_move g fs)
land_says w q x (Stay y) fs s p a k = record { top = s; below = a; links = relink x y fs p k }
land_says w q x (HandIn y token) fs s p a k = record { top = s.0; below = a; links = relink x y fs p k }
land_says w q x (Mark y b9 m9) fs s p a k = record { top = s.0; below = a; links = relink x y fs p k }
land_says w q x (Enter f y) fs s p a k = record { top = s.1; below = (s.0, a); links = (s.2, relink x f fs p k) }
land_says w q x (StartRun f u) fs s p a k = record { top = s.2; below = (s.0, a); links = (s.1, relink x f fs p k) }
land_says w q x Back [] s p a k = record { top = tt; below = tt; links = tt }
land_says w q x Back (f ∷ fs) s p a k = record { top = a.0; below = a.1; links = k.1 }
land_says w q x (HandBack n) [] s p a k = record { top = tt; below = tt; links = tt }
land_says w q x (Discard n) [] s p a k = record { top = tt; below = tt; links = tt }
land_says w q x (HandAllBack b9) [] s p a k = record { top = tt; below = tt; links = tt }
land_says w q x (HandBack n) (f ∷ fs) s p a k = record { top = a.0; below = a.1; links = k.1 }
land_says w q x (Discard n) (f ∷ fs) s p a k = record { top = a.0; below = a.1; links = k.1 }
land_says w q x (HandAllBack b9) (f ∷ fs) s p a k = record { top = a.0; below = a.1; links = k.1 }

-- what an act's answer tells of the world after it
abbrev pub Learns : World → Place → Seen → Type 0
Learns w (PopWorking k) (Task t) = Taking w t
Learns w (TakeCastWorking k) (Task t) = Taking w t
Learns w (PopIdle k) (Task t) = Taking w t
Learns w (TakeCastIdle k) (Task t) = Taking w t
Learns w (StealFrom k n) (Task t) = Taking w t
Learns w (PopInjected k) (Task t) = Taking w t
Learns w (JoinPop o) (Task t) = Taking w t
Learns w (JoinTakeCast o) (Task t) = Taking w t
Learns w YieldPop (Task t) = Taking w t
Learns w YieldTakeCast (Task t) = Taking w t
Learns w (YieldSteal v n) (Task t) = Taking w t
Learns w YieldPopInjected (Task t) = Taking w t
Learns w LocalPop (Task t) = Taking w t
Learns w LocalTakeCast (Task t) = Taking w t
Learns w (TakeResult o f) (Found e) = SaysTaken w o.job o.number e
Learns w (LowerCount k s n) Yes = IsZero w k
Learns w (LowerForAll c) Yes = IsZero w c.count
Learns w (BeginTask (Plain t)) (Begun k) = (t + 1 ≤ w.jobs) × ((w.job t).kind ≡ k)
Learns w (BeginTask (Token k i b8)) (Handed t d) = (t + 1 ≤ w.jobs) × ((w.job t).kind ≡ d)
Learns w (TakeFromFifo f) (Task x) = MadeAs w (taken_number x) f.pool (count_kind f.count)
Learns w _ _ = ⊤

says_left : (w : World) (q : Party) (g : Target) → SaysTarget w q g → Says w q (after_wait g)
says_left w q Termination s = tt
says_left w q (Answer o f) s = s

says_finish : (w : World) (q : Party) (n : Then) → SaysThen w q n → SaysMove w q (finish q n)
says_finish w q (BeginFound g t) s = (s.0, s.1, λ u z. cc)
says_finish w q (LeaveWait g) s = says_left w q g s
says_finish w q Resume s = tt
says_finish w q Called s = tt
says_finish w (Worker p i) (Await o) s = s
says_finish w (Caller c) (Await o) s = s
says_finish w (Worker p i) (Gathers o) s = s
says_finish w (Caller c) (Gathers o) s = s
says_finish w q (RunFirst o a) s = (s, (λ u z. z), s.2)
says_finish w q (Answers o f e) s = tt
says_finish w q (Missing o f) s = tt
says_finish w q (Ran t e) s = tt
says_finish w q (GiveBack n) s = says_back w q n s

says_walk : (w : World) (g : PoolShape) (q : Party) (p k i : ℕ) (n : Then) → SaysThen w q n → SaysMove w q (walk g q p k i n)
says_walk w g q p k i n s = by (nat_lt 0 k && nat_lt i g.workers)
  where
    by : (z : Bool) → SaysMove w q (if z then Stay (LockToWake (record { pool = p; owed = k; worker = i; then = n })) else finish q n)
    by true = s
    by false = says_finish w q n s

says_settle : (w : World) (g : PoolShape) (q : Party) (p i : ℕ) (n : Then) → (w.pool p).count ≡ 0 → SaysThen w q n → SaysMove w q (settle g q p i n)
says_settle w g q p i n c s = by (nat_lt i g.workers)
  where
    by : (z : Bool) → SaysMove w q (if z then Stay (SetLatch (record { latch = Terminate; pool = p; worker = i; then = n })) else finish q n)
    by true = (c, s)
    by false = says_finish w q n s

says_settled : (w : World) (g : PoolShape) (q : Party) (k : Settling) (l : Latch) → SaysLatch w k.pool l → SaysThen w q k.then → SaysMove w q (after_set g q k l)
says_settled w g q k Terminate c s = says_settle w g q k.pool (k.worker + 1) k.then c s
says_settled w g q k (OfCall i) c s = says_finish w q k.then s

says_if : (w : World) (q : Party) (x y : Place) (z : Bool) → Says w q x → Says w q y → SaysMove w q (if z then Stay x else Stay y)
says_if w q x y true a b = a
says_if w q x y false a b = b

says_steal : (w : World) (g : PoolShape) (q : Party) (k : Wait) (n : ℕ) → SaysTarget w q k.target → Says w q (next_steal g q k n)
says_steal w g q k n s = by (n == 0)
  where
    by : (z : Bool) → Says w q (if z then PopInjected k else StealFrom (record k { victim = not_self g.workers (own_index q) (next_victim g.workers k.victim) }) (n - 1))
    by true = s
    by false = s

says_yield : (w : World) (g : PoolShape) (q : Party) (v n : ℕ) → Says w q (next_yield g q v n)
says_yield w g q v n = by (n == 0)
  where
    by : (z : Bool) → Says w q (if z then YieldPopInjected else YieldSteal (not_self g.workers (own_index q) (next_victim g.workers v)) (n - 1))
    by true = tt
    by false = tt

says_failed : (w : World) (g : PoolShape) (q : Party) (k : Wait) (r : Rounds) → SaysTarget w q k.target → Says w q (after_failure g k r)
says_failed w g q k (Failed n) s = by (nat_lt n g.limit)
  where
    by : (z : Bool) → Says w q (if z then ProbeIdle (record k { rounds = Failed (n + 1) }) else AnnounceSelf k)
    by true = s
    by false = s
says_failed w g q k Announced s = s

says_after : (w : World) (q : Party) (g : Target) (o : Option Taken) → SaysTarget w q g × SaysFound w o → SaysThen w q (after_found g o)
says_after w q g None s = s.0
says_after w q g (Some t) s = (s.0, s.1)

says_fed : (w : World) (q : Party) (f : Feeding) (k : Count) → SaysPlan w q (Feed f) → Says w q (begin_feed k f)
says_fed w q f (OfPool p) s = s
says_fed w q f (OfScope c o) s = s
says_fed w q f (OfCast c o) s = s

says_raised : (w : World) (q : Party) (n : Plan) → SaysPlan w q n → SaysMove w q (after_raise n)
says_raised w q (Detach p t) s = s
says_raised w q (Here p t) s = (s, record { made = s.made; kind = ap is_detached (s.kind) }, λ u z. z)
says_raised w q (Send o) s = s
says_raised w q (Fork o a) s = s
says_raised w q (Feed f) s = says_fed w q f f.count s
says_raised w q (Gather g) s = s
says_raised w q (Open o) s = s
says_raised w q (Enter e) s = s

says_feed : (w : World) (q : Party) (f : Feeding) (k : Count) → f.count ≡ k → SaysPlan w q (Feed f) → SaysShare w k (OfJob f.job) (GiveBack (Feed f))
says_feed w q f (OfPool r) e s = let p : r ≡ f.pool = subst (λ k. KnownCount w k f.pool) e (s.3) in ((s.0).made, (s.0).pool ∙ sym p, (refl, e))
says_feed w q f (OfScope c o) e s = let t : Tied w c o = subst (λ k. KnownCount w k f.pool) e (s.3) in ((s.0).made, (s.0).kind ∙ ap count_kind e, t.number, refl)
says_feed w q f (OfCast c o) e s = absurd (subst (λ k. KnownCount w k f.pool) e (s.3))

says_undone : (w : World) (q : Party) (n : Plan) → SaysPlan w q n → Says w q (undo n)
says_undone w q (Detach p t) s = (s, (s.made, s.pool, (refl, refl)))
says_undone w q (Here p t) s = (s, (s.made, s.pool, (refl, refl)))
says_undone w q (Open o) s = (s, ((s.0).made, (s.0).pool, (refl, refl)))
says_undone w q (Enter e) s = (s, ((s.0).made, (s.0).kind, (s.1).number, refl))
says_undone w q (Gather g) s = (s, ((s.call).made, (s.call).pool, (refl, refl)))
says_undone w q (Send o) s = (s, ((s.0).made, (s.0).pool, (refl, refl)))
says_undone w q (Feed f) s = (s, says_feed w q f f.count refl s)
says_undone w q (Fork o a) s = (s, ((s.0).made, (s.0).pool, (refl, refl)))

says_goes : (w : World) (q : Party) (n : Plan) → SaysTold w q n → SaysThen w q (after_news n)
says_goes w q (Detach p t) s = tt
says_goes w q (Here p t) s = tt
says_goes w q (Send o) s = (s.0, subst (λ x. FirstEnds w x None) (sym (s.1)) tt)
says_goes w q (Fork o a) s = s
says_goes w q (Feed f) s = absurd s
says_goes w q (Open o) s = absurd s
says_goes w q (Gather g) s = absurd s
says_goes w q (Enter e) s = tt

says_told : (w : World) (q : Party) (n : Plan) → SaysQueue w q n → SaysTold w q n
says_told w q (Detach p t) s = (s.made, s.pool)
says_told w q (Here p t) s = absurd s
says_told w q (Feed f) s = absurd s
says_told w q (Open o) s = absurd s
says_told w q (Gather g) s = absurd s
says_told w q (Enter e) s = s
says_told w q (Send o) s = s
says_told w q (Fork o a) s = s

says_pop : (w : World) (q : Party) (o : OpenCall) (x : Taken) → Taking w x → SaysTarget w q (Answer o (Some Fine)) → SaysMove w q (if is_taken x o.job then Enter (SecondSide o) (BeginHere o.job) else Enter (JoinProbe o) (BeginTask x))
says_pop w q o x l s = by (is_taken x o.job)
  where
    by : (z : Bool) → SaysMove w q (if z then Enter (SecondSide o) (BeginHere o.job) else Enter (JoinProbe o) (BeginTask x))
    by true = (s, record { made = (s.0).made; kind = call_undetached ((w.job o.job).kind) (o.number, q) ((s.0).kind) }, λ u z. z)
    by false = (s, l, λ u z. cc)

says_set : (w : World) (q o : Party) (c : ℕ) (n : Then) → (c + 1 ≤ w.calls) × IsReady w c → SaysThen w q n → Says w q (set_call c o n)
says_set w q (Worker p i) c n s y = (s, y)
says_set w q (Caller i) c n s y = (s, y)

-- what follows once a count is 0
says_zero : (w : World) (g : PoolShape) (q : Party) (k : Count) (a : Share) (n : Then) → IsZero w k → SaysThen w q n → SaysShare w k a n → SaysMove w q (settle_count g q k n)
says_zero w g q (OfPool p) a n z s h = says_settle w g q p 0 n z s
says_zero w g q (OfScope c o) (OfJob t) n z s h = says_set w q o c n (h.2, inr z) s
says_zero w g q (OfScope c o) Body n z s h = says_set w q o c n (h.0, inr z) s
says_zero w g q (OfScope c o) PoolValue n z s h = absurd h
says_zero w g q (OfCast c o) (OfJob t) n z s h = says_set w q o c n (h.2, inr z) s
says_zero w g q (OfCast c o) Body n z s h = absurd h
says_zero w g q (OfCast c o) PoolValue n z s h = absurd h

-- where a call goes whose push was refused
says_unpushed : (w : World) (q : Party) (n : Plan) → SaysQueue w q n → Says w q (after_push n)
says_unpushed w q (Detach p t) s = says_undone w q (Detach p t) s
says_unpushed w q (Here p t) s = absurd s
says_unpushed w q (Send o) s = says_undone w q (Send o) s
says_unpushed w q (Fork o a) s = says_undone w q (Fork o a) s
says_unpushed w q (Feed f) s = absurd s
says_unpushed w q (Open o) s = absurd s
says_unpushed w q (Gather g) s = absurd s
says_unpushed w q (Enter e) s = s

says_drawn : (w : World) (q : Party) (f : Feeding) (o : Option ℕ) → SaysPlan w q (Feed f) → Says w q (withdraw o (Feed f))
says_drawn w q f None s = says_undone w q (Feed f) s
says_drawn w q f (Some c) s = s

-- and a spawn into a scope that has no number of its book
says_unslotted : (w : World) (q : Party) (n : Plan) → SaysSlot w q n → Says w q (undo n)
says_unslotted w q (Enter e) s = says_undone w q (Enter e) s
says_unslotted w q (Feed f) s = says_undone w q (Feed f) s
says_unslotted w q (Detach p t) s = absurd s
says_unslotted w q (Here p t) s = absurd s
says_unslotted w q (Send o) s = absurd s
says_unslotted w q (Fork o a) s = absurd s
says_unslotted w q (Open o) s = absurd s
says_unslotted w q (Gather g) s = absurd s

says_slotted : (w : World) (q : Party) (n : Plan) → SaysSlot w q n → Says w q (after_slot n)
says_slotted w q (Enter e) s = s
says_slotted w q (Feed f) s = s
says_slotted w q (Detach p t) s = absurd s
says_slotted w q (Here p t) s = absurd s
says_slotted w q (Send o) s = absurd s
says_slotted w q (Fork o a) s = absurd s
says_slotted w q (Open o) s = absurd s
says_slotted w q (Gather g) s = absurd s

says_begun : (w : World) (q : Party) (c : Pieces) (k : Count) → SaysCast w c → Says w q (begin_cast k c)
says_begun w q c (OfPool p) s = s
says_begun w q c (OfScope n o) s = s
says_begun w q c (OfCast n o) s = s

says_uncast : (w : World) (q : Party) (c : Pieces) (k : Count) → SaysCast w c → Says w q (end_cast k c)
says_uncast w q c (OfPool p) s = s
says_uncast w q c (OfScope n o) s = s
says_uncast w q c (OfCast n o) s = s

says_ends : (w : World) (q : Party) (p : ℕ) (k : Count) → KnownCount w k p → IsZero w k → Says w q (ends_count k)
says_ends w q p (OfPool r) s z = (z, tt)
says_ends w q p (OfScope c o) s z = says_set w q o c Resume (s.number, inr z) tt
says_ends w q p (OfCast c o) s z = absurd s

-- what a place says, and what its act's answer tells, gives what is said of the next place
pub says_next : (w : World) (g : PoolShape) (q : Party) (x : Place) (e : Seen) → Learns w x e → Says w q x → SaysMove w q (next_of g q x e)
says_next w g q (ProbeWorking k) Yes l s = says_left w q k.target s
says_next w g q (ProbeWorking k) _ l s = s
says_next w g q (PopWorking k) (Task t) l s = (s, l, λ u z. cc)
says_next w g q (PopWorking k) _ l s = s
says_next w g q (TakeCastWorking k) (Task t) l s = (s, l, λ u z. cc)
says_next w g q (TakeCastWorking k) _ l s = s
says_next w g q (ProbeIdle k) Yes l s = (s, tt)
says_next w g q (ProbeIdle k) _ l s = s
says_next w g q (PopIdle k) (Task t) l s = (s, l)
says_next w g q (PopIdle k) _ l s = s
says_next w g q (TakeCastIdle k) (Task t) l s = (s, l)
says_next w g q (TakeCastIdle k) _ l s = says_if w q (PopInjected k) (PickVictim k) (g.workers == 1) s s
says_next w g q (PickVictim k) (Start v) l s = s
says_next w g q (PickVictim k) _ l s = s
says_next w g q (StealFrom k n) (Task t) l s = (s, l)
says_next w g q (StealFrom k n) _ l s = says_steal w g q k n s
says_next w g q (PopInjected k) (Task t) l s = (s, l)
says_next w g q (PopInjected k) _ l s = says_failed w g q k k.rounds s
says_next w g q (AnnounceSelf k) (Jec j) l s = s
says_next w g q (AnnounceSelf k) _ l s = s
says_next w g q (GetSleepy k) Done l s = s
says_next w g q (GetSleepy k) _ l s = s
says_next w g q (FallAsleep k) Done l s = s
says_next w g q (FallAsleep k) _ l s = s
says_next w g q (LoadCounters k) (Word a b j) l s = says_if w q (AddSleeping (record k { sleeping = a; inactive = b })) (WakeUp (record k { rounds = Failed g.limit })) (j == k.kept) s s
says_next w g q (LoadCounters k) _ l s = s
says_next w g q (AddSleeping k) Done l s = s
says_next w g q (AddSleeping k) _ l s = s
says_next w g q (LookAtCast k) Yes l s = s
says_next w g q (LookAtCast k) _ l s = s
says_next w g q (LookAtInjector k) Yes l s = s
says_next w g q (LookAtInjector k) _ l s = s
says_next w g q (LeaveSearch k) (Wakes n) l s = says_walk w g q (own_pool q) n 0 (after_found k.target k.found) (says_after w q k.target k.found s)
says_next w g q (LeaveSearch k) _ l s = s
says_next w g q (JoinProbe o) Yes l s = s
says_next w g q (JoinProbe o) _ l s = s
says_next w g q (JoinPop o) (Task t) l s = says_pop w q o t l s
says_next w g q (JoinPop o) _ l s = s
says_next w g q (JoinTakeCast o) (Task t) l s = (s, l, λ u z. cc)
says_next w g q (JoinTakeCast o) _ l s = s
says_next w g q YieldPop (Task t) l s = l
says_next w g q YieldPop _ l s = tt
says_next w g q YieldTakeCast (Task t) l s = l
says_next w g q YieldTakeCast _ l s = says_if w q YieldPopInjected YieldPick (g.workers == 1) tt tt
says_next w g q YieldPick (Start v) l s = tt
says_next w g q YieldPick _ l s = tt
says_next w g q (YieldSteal v n) (Task t) l s = l
says_next w g q (YieldSteal v n) _ l s = says_yield w g q v n
says_next w g q YieldPopInjected (Task t) l s = l
says_next w g q YieldPopInjected _ l s = tt
says_next w g q LocalPop (Task t) l s = l
says_next w g q LocalPop _ l s = tt
says_next w g q LocalTakeCast (Task t) l s = l
says_next w g q LocalTakeCast _ l s = tt
says_next w g q (BeginTask (Plain t)) (Begun Direct) l s = record { made = l.0; kind = ap is_detached (l.1) }
says_next w g q (BeginTask (Plain t)) (Begun (TokenOf i b9)) l s = record { made = l.0; kind = ap is_detached (l.1) }
says_next w g q (BeginTask (Plain t)) (Begun (BodyOf c9 o9)) l s = record { made = l.0; kind = ap is_detached (l.1) }
says_next w g q (BeginTask (Plain t)) (Begun (WholeOf c9 o9)) l s = record { made = l.0; kind = ap is_detached (l.1) }
says_next w g q (BeginTask (Plain t)) (Begun (PieceOf c o)) l s = l
says_next w g q (BeginTask (Plain t)) (Begun (Detached p)) l s = l
says_next w g q (BeginTask (Plain t)) (Begun (Stored c o)) l s = l
says_next w g q (BeginTask (Plain t)) (Begun (Scoped c o)) l s = l
says_next w g q (BeginTask (Plain t)) _ l s = s
says_next w g q (BeginTask (Token k i b8)) (Handed t Direct) l s = (record { made = l.0; kind = ap is_detached (l.1) }, ap is_detached (s.2))
says_next w g q (BeginTask (Token k i b8)) (Handed t (TokenOf j b9)) l s = (record { made = l.0; kind = ap is_detached (l.1) }, ap is_detached (s.2))
says_next w g q (BeginTask (Token k i b8)) (Handed t (BodyOf c9 o9)) l s = (record { made = l.0; kind = ap is_detached (l.1) }, ap is_detached (s.2))
says_next w g q (BeginTask (Token k i b8)) (Handed t (WholeOf c9 o9)) l s = (record { made = l.0; kind = ap is_detached (l.1) }, ap is_detached (s.2))
says_next w g q (BeginTask (Token k i b8)) (Handed t (PieceOf c o)) l s = (l, ap is_detached (s.2))
says_next w g q (BeginTask (Token k i b8)) (Handed t (Detached p)) l s = (l, ap is_detached (s.2))
says_next w g q (BeginTask (Token k i b8)) (Handed t (Stored c o)) l s = (l, ap is_detached (s.2))
says_next w g q (BeginTask (Token k i b8)) (Handed t (Scoped c o)) l s = (l, ap is_detached (s.2))
says_next w g q (BeginTask (Token k i b8)) _ l s = ap is_detached (s.2)
says_next w g q (AddToFifo f) Done l s = s
says_next w g q (AddToFifo f) _ l s = says_drawn w q f (count_book f.count) s
says_next w g q (LookForToken f) Yes l s = s
says_next w g q (LookForToken f) _ l s = s
says_next w g q (PushToken f v) Done l s = ((s.1).made, (s.1).pool)
says_next w g q (PushToken f v) _ l s = s
says_next w g q (TakeFromFifo f) (Task x) l s = says_drawn w q (record f { job = taken_number x }) (count_book f.count) (l, s.1, s.2, s.3)
says_next w g q (TakeFromFifo f) _ l s = tt
says_next w g q (RaiseForAll c) Done l s = (says_begun w q c c.count s, s.0)
says_next w g q (RaiseForAll c) _ l s = s.0
says_next w g q (OpenForAll c) (Slots n) l s = (s, s.0)
says_next w g q (OpenForAll c) _ l s = s
says_next w g q (PushForAll c) Done l s = (tt, s.0)
says_next w g q (PushForAll c) _ l s = says_uncast w q c c.count s
says_next w g q (CloseForAll c) _ l s = (s, s.0)
says_next w g q (LowerForAll c) Yes l s = (says_ends w q c.pool c.count (s.1) l, s.0)
says_next w g q (LowerForAll c) _ l s = s.0
says_next w g q (GrowCast b) Done l s = s
says_next w g q (GrowCast b) _ l s = says_undone w q (Gather b) s
says_next w g q (DealPieces b) Done l s = ((s.call, subst (λ x. FirstEnds w x None) (sym (s.alone)) tt), s.pieces)
says_next w g q (DealPieces b) _ l s = says_undone w q (Gather b) s
says_next w g q (StorePiece c o t e) _ l s = (tt, (s.0, s.1, s.2, ap is_done (s.3), refl))
says_next w g q (BeginHere t) e l s = s
says_next w g q (RaiseCount n) Done l s = says_raised w q n s
says_next w g q (RaiseCount n) _ l s = says_back w q n s
says_next w g q (GrowCall n) Done l s = s
says_next w g q (GrowCall n) _ l s = says_undone w q n (queue_plan w q n s)
says_next w g q (LookQueue n) Yes l s = s
says_next w g q (LookQueue n) _ l s = s
says_next w g q (PushJob n v) Done l s = says_told w q n s
says_next w g q (PushJob n v) _ l s = says_unpushed w q n s
says_next w g q (TellNews n v) (Wakes k) l s = says_walk w g q (plan_pool n) k 0 (after_news n) (says_goes w q n s)
says_next w g q (TellNews n v) _ l s = s
says_next w g q (WakeWorker k) Yes l s = s
says_next w g q (WakeWorker k) _ l s = s
says_next w g q (UnlockWoken k) e l s = says_walk w g q k.pool k.owed (k.worker + 1) k.then s
says_next w g q (TakeResult o f) (Found e) l s = ((s.0, s.1, l), ((s.0).made, (s.0).pool, refl))
says_next w g q (TakeResult o f) _ l s = (s, ((s.0).made, (s.0).pool, refl))
says_next w g q (LowerCount k a n) Yes l s = says_zero w g q k a n l (s.0) (s.1)
says_next w g q (LowerCount k a n) _ l s = says_finish w q n (s.0)
says_next w g q (StoreResult c o e) _ l s = says_set w q o c Resume (s.0, inl (s.2, ap is_done (s.1))) tt
says_next w g q (StoreBody o e) _ l s = (s.0, (((s.0).0).number, ap (λ t. is_done (w.job t).at) (((s.0).0).target) ∙ ap is_done (s.1), refl))
says_next w g q (StoreSlot c o t e) _ l s = (tt, (s.0, s.1, s.2, ap is_done (s.3)))
says_next w g q (GrowScope o) Done l s = (((s.0), subst (λ x. FirstEnds w x None) (sym (s.1)) tt), (λ u z. z), record { made = (s.0).made; kind = call_undetached ((w.job o.job).kind) (o.number, q) ((s.0).kind) })
says_next w g q (GrowScope o) _ l s = says_undone w q (Open o) s
says_next w g q (OpenSlot n) Done l s = says_slotted w q n s
says_next w g q (OpenSlot n) _ l s = says_unslotted w q n s
says_next w g q (CloseSlot n) _ l s = says_unslotted w q n s
says_next w g q (SetLatch k) Yes l s = s
says_next w g q (SetLatch k) _ l s = says_settled w g q k k.latch (s.0) (s.1)
says_next w g q (UnlockSettled k) e l s = says_settled w g q k k.latch (s.0) (s.1)
says_next w g q (SetLockLatch c n) e l s = says_finish w q n (s.1)
says_next w g q _ e l s = s
