-- where a worker stands that waits for the end of its pool, runs jobs and spawns
use Rattle.rayon_machine_places.specs.declared.place.Count.TheVariants.{OfPool, OfScope, OfCast}
use Rattle.rayon_machine_orders.proofs.Words.{Count, rules, arith, refl, sym, subst, ℕ, Bool, true, false, ◌+◌, ◌==◌, nat_lt, if◌then◌else◌, Option, Some, None, List, [], ◌∷◌, ◌≡◌, ⊤, eq-eqb, Party, Worker, Caller, Ending, JobKind, Detached, Stored, Direct, TokenOf, Scoped, BodyOf, PieceOf}
use Rattle.rayon_machine_orders.proofs.Words.{WholeOf, Target, Termination, Answer, Rounds, Failed, Announced, Plan, Detach, Here, Send, Fork, Feed, Open, Enter, Gather, Then, BeginFound, LeaveWait, Resume, GiveBack, Called, Gathers, Place, ProbeWorking, PopWorking, TakeCastWorking}
use Rattle.rayon_machine_orders.proofs.Words.{BecomeInactive, ProbeIdle, PopIdle, TakeCastIdle, PickVictim, PopInjected, AnnounceSelf, GetSleepy, LockOwn, FallAsleep, LoadCounters, AddSleeping, LookAtCast, LookAtInjector, BlockSelf, RelockOwn, UndoSleeping, WakeUp, UnlockOwn, LeaveSearch}
use Rattle.rayon_machine_orders.proofs.Words.{BeginTask, Run, RaiseCount, LookQueue, PushJob, TellNews, LockToWake, WakeWorker, UnlockWoken, LowerCount, StoreResult, SetLatch, LockToSettle, WakeSettled, UnlockSettled, SetLockLatch, Stopped, OpenSlot, CloseSlot, StoreSlot, StorePiece, AddToFifo}
use Rattle.rayon_machine_orders.proofs.Words.{LookForToken, PushToken, TakeFromFifo, Move, Stay, Seen, Done, Yes, Task, Jec, Word, Wakes, Begun, PoolShape, Feeding, Settling, own_pool, after_wait, finish, walk, settle, after_set, after_found, after_news, plan_pool, plan_book, count_book}
use Rattle.rayon_machine_orders.proofs.Words.{next_of, after_failure, after_raise, after_slot, begin_feed, withdraw, settle_count, taken_number, Stack, back, after_move, after_close, Plain, Taken}
use Rattle.rayon_machine_orders.specs.Order.{caller_of}
use Rattle.rayon_machine_orders.proofs.Dealt.{is_start, elsewhere}
use Rattle.rayon_machine_laws.proofs.Kept.{is_emptied}
use Rattle.rayon_machine_orders.proofs.Lone.{settle_move, settled_move, turns_thief, walk_move}

-- frames of the wait for the end of the pool
abbrev pub IsBase : Place → Type 0
IsBase (ProbeWorking k) = k.target ≡ Termination
IsBase _ = ⊥

abbrev pub AllBase : List Place → Type 0
AllBase [] = ⊤
AllBase (f ∷ fs) = IsBase f × AllBase fs

-- a call stands above the run that began last
abbrev pub Above : Option ℕ → List Place → Type 0
Above r (Run t k ∷ fs) = (r ≡ Some t) × AllBase fs
Above r _ = ⊥

-- a spawn that queues its job itself
abbrev pub IsSpawn : Plan → Type 0
IsSpawn (Detach p t) = ⊤
IsSpawn (Enter e) = ⊤
IsSpawn _ = ⊥

-- a spawn, in order or not
abbrev pub IsLight : Plan → Type 0
IsLight (Feed f) = ⊤
IsLight n = IsSpawn n

-- above what a waker stands, by what follows
abbrev pub WakesAbove : Option ℕ → Then → List Place → Type 0
WakesAbove r (BeginFound g t) fs = (g ≡ Termination) × AllBase fs
WakesAbove r (LeaveWait g) fs = (g ≡ Termination) × AllBase fs
WakesAbove r Resume fs = Above r fs
WakesAbove r Called fs = Above r fs
WakesAbove r _ fs = ⊥

-- above what a party stands that gives a share back or sets latches, by what follows
abbrev pub EndsAbove : Option ℕ → Then → List Place → Type 0
EndsAbove r Resume fs = AllBase fs
EndsAbove r Called fs = AllBase fs
EndsAbove r (GiveBack n) fs = Above r fs
EndsAbove r _ fs = ⊥

-- a worker stands in its wait, in the run that began last, in a spawn that this run makes, which is one of these, or at
-- the end of a run
abbrev pub Stands : (Plan → Type 0) → Option ℕ → Place → List Place → Type 0
Stands Q r (ProbeWorking k) fs = (k.target ≡ Termination) × AllBase fs
Stands Q r (PopWorking k) fs = (k.target ≡ Termination) × AllBase fs
Stands Q r (TakeCastWorking k) fs = (k.target ≡ Termination) × AllBase fs
Stands Q r (BecomeInactive k) fs = (k.target ≡ Termination) × AllBase fs
Stands Q r (ProbeIdle k) fs = (k.target ≡ Termination) × AllBase fs
Stands Q r (PopIdle k) fs = (k.target ≡ Termination) × AllBase fs
Stands Q r (TakeCastIdle k) fs = (k.target ≡ Termination) × AllBase fs
Stands Q r (PopInjected k) fs = (k.target ≡ Termination) × AllBase fs
Stands Q r (AnnounceSelf k) fs = (k.target ≡ Termination) × AllBase fs
Stands Q r (GetSleepy k) fs = (k.target ≡ Termination) × AllBase fs
Stands Q r (LockOwn k) fs = (k.target ≡ Termination) × AllBase fs
Stands Q r (FallAsleep k) fs = (k.target ≡ Termination) × AllBase fs
Stands Q r (LoadCounters k) fs = (k.target ≡ Termination) × AllBase fs
Stands Q r (AddSleeping k) fs = (k.target ≡ Termination) × AllBase fs
Stands Q r (LookAtCast k) fs = (k.target ≡ Termination) × AllBase fs
Stands Q r (LookAtInjector k) fs = (k.target ≡ Termination) × AllBase fs
Stands Q r (BlockSelf k) fs = (k.target ≡ Termination) × AllBase fs
Stands Q r (RelockOwn k) fs = (k.target ≡ Termination) × AllBase fs
Stands Q r (UndoSleeping k) fs = (k.target ≡ Termination) × AllBase fs
Stands Q r (WakeUp k) fs = (k.target ≡ Termination) × AllBase fs
Stands Q r (UnlockOwn k) fs = (k.target ≡ Termination) × AllBase fs
Stands Q r (LeaveSearch k) fs = (k.target ≡ Termination) × AllBase fs
Stands Q r (BeginTask t) fs = AllBase fs
Stands Q r (Run t k) fs = (r ≡ Some t) × AllBase fs
Stands Q r (RaiseCount n) fs = (Q n × IsLight n) × Above r fs
Stands Q r (OpenSlot n) fs = (Q n × IsLight n) × Above r fs
Stands Q r (CloseSlot e) fs = Above r fs
Stands Q r (LookQueue n) fs = (Q n × IsSpawn n) × Above r fs
Stands Q r (PushJob n e) fs = (Q n × IsSpawn n) × Above r fs
Stands Q r (AddToFifo f) fs = Q (Feed f) × Above r fs
Stands Q r (LookForToken f) fs = Q (Feed f) × Above r fs
Stands Q r (PushToken f e) fs = Q (Feed f) × Above r fs
Stands Q r (TakeFromFifo f) fs = Q (Feed f) × Above r fs
Stands Q r (TellNews n e) fs = IsSpawn n × Above r fs
Stands Q r (LockToWake k) fs = WakesAbove r k.then fs
Stands Q r (WakeWorker k) fs = WakesAbove r k.then fs
Stands Q r (UnlockWoken k) fs = WakesAbove r k.then fs
Stands Q r (LowerCount p s n) fs = EndsAbove r n fs
Stands Q r (StoreResult c o e) fs = AllBase fs
Stands Q r (StoreSlot c o t e) fs = AllBase fs
Stands Q r (StorePiece c o t e) fs = AllBase fs
Stands Q r (SetLatch s) fs = EndsAbove r s.then fs
Stands Q r (LockToSettle s) fs = EndsAbove r s.then fs
Stands Q r (WakeSettled s) fs = EndsAbove r s.then fs
Stands Q r (UnlockSettled s) fs = EndsAbove r s.then fs
Stands Q r (SetLockLatch c n) fs = EndsAbove r n fs
Stands Q r Stopped fs = AllBase fs
Stands Q r _ fs = ⊥

abbrev pub StandsAt : (Plan → Type 0) → Option ℕ → Stack → Type 0
StandsAt Q r k = Stands Q r k.top k.below

-- after a move
abbrev pub Leads : (Plan → Type 0) → Option ℕ → List Place → Move → Type 0
Leads Q r fs g = StandsAt Q r (after_move g fs)

pub back_base : (Q : Plan → Type 0) (r : Option ℕ) (fs : List Place) → AllBase fs → StandsAt Q r (back fs)
back_base Q r [] a = tt
back_base Q r (ProbeWorking k ∷ fs) a = a
back_base Q r (_ ∷ fs) a = absurd (a.0)

back_above : (Q : Plan → Type 0) (r : Option ℕ) (fs : List Place) → Above r fs → StandsAt Q r (back fs)
back_above Q r (Run t k ∷ fs) a = a
back_above Q r _ a = absurd a

leaves : (Q : Plan → Type 0) (r : Option ℕ) (g : Target) (fs : List Place) → (g ≡ Termination) × AllBase fs → Stands Q r (after_wait g) fs
leaves Q r Termination fs a = a.1
leaves Q r (Answer o f) fs a = absurd (let k : Answer o f ≡ Termination = a.0 in cc)

finish_wait : (Q : Plan → Type 0) (r : Option ℕ) (q : Party) (n : Then) (fs : List Place) → WakesAbove r n fs → Leads Q r fs (finish q n)
finish_wait Q r q (BeginFound g t) fs a = a
finish_wait Q r q (LeaveWait g) fs a = leaves Q r g fs a
finish_wait Q r q Resume fs a = back_above Q r fs a
finish_wait Q r q Called fs a = back_above Q r fs a
finish_wait Q r q _ fs a = absurd a

finish_end : (Q : Plan → Type 0) (r : Option ℕ) (q : Party) (n : Then) (fs : List Place) → EndsAbove r n fs → Leads Q r fs (finish q n)
finish_end Q r q Resume fs a = back_base Q r fs a
finish_end Q r q Called fs a = back_base Q r fs a
finish_end Q r q (GiveBack n) fs a = back_above Q r fs a
finish_end Q r q _ fs a = absurd a

walks : (Q : Plan → Type 0) (r : Option ℕ) (g : PoolShape) (q : Party) (p n i : ℕ) (t : Then) (fs : List Place) → WakesAbove r t fs → Leads Q r fs (walk g q p n i t)
walks Q r g q p n i t fs a = walk_move (Leads Q r fs) g q p n i t (λ k e. subst (λ z. WakesAbove r z fs) (sym e) a) (finish_wait Q r q t fs a)

settles_on : (Q : Plan → Type 0) (r : Option ℕ) (g : PoolShape) (q : Party) (p i : ℕ) (t : Then) (fs : List Place) → EndsAbove r t fs → Leads Q r fs (settle g q p i t)
settles_on Q r g q p i t fs a = settle_move (Leads Q r fs) g q p i t (λ k e. subst (λ z. EndsAbove r z fs) (sym e) a) (finish_end Q r q t fs a)

settled_on : (Q : Plan → Type 0) (r : Option ℕ) (g : PoolShape) (q : Party) (s : Settling) (fs : List Place) → EndsAbove r s.then fs → Leads Q r fs (after_set g q s s.latch)
settled_on Q r g q s fs a = settled_move (Leads Q r fs) g q s s.latch (λ k e. subst (λ z. EndsAbove r z fs) (sym e) a) (finish_end Q r q s.then fs a)

found_above : (r : Option ℕ) (g : Target) (o : Option Taken) (fs : List Place) → (g ≡ Termination) × AllBase fs → WakesAbove r (after_found g o) fs
found_above r g None fs a = a
found_above r g (Some t) fs a = a

news_above : (r : Option ℕ) (n : Plan) (fs : List Place) → IsSpawn n × Above r fs → WakesAbove r (after_news n) fs
news_above r (Detach p t) fs a = a.1
news_above r (Enter e) fs a = a.1
news_above r _ fs a = absurd (a.0)

-- where a refused spawn goes
withdrawn : (Q : Plan → Type 0) (r : Option ℕ) (b : Option ℕ) (n : Plan) (fs : List Place) → Above r fs → Stands Q r (withdraw b n) fs
withdrawn Q r None n fs a = a
withdrawn Q r (Some c) n fs a = a

begun_feed : (Q : Plan → Type 0) (r : Option ℕ) (k : Count) (f : Feeding) (fs : List Place) → Q (Feed f) → Above r fs → Stands Q r (begin_feed k f) fs
begun_feed Q r (OfScope c o) f fs s a = ((s, tt), a)
begun_feed Q r _ f fs s a = (s, a)

raised : (Q : Plan → Type 0) (r : Option ℕ) (n : Plan) (fs : List Place) → (Q n × IsLight n) × Above r fs → Leads Q r fs (after_raise n)
raised Q r (Detach p t) fs a = (((a.0).0, tt), a.1)
raised Q r (Feed f) fs a = begun_feed Q r f.count f fs ((a.0).0) (a.1)
raised Q r (Enter e) fs a = (((a.0).0, tt), a.1)
raised Q r _ fs a = absurd ((a.0).1)

opened : (Q : Plan → Type 0) (r : Option ℕ) (n : Plan) (fs : List Place) → (Q n × IsLight n) × Above r fs → Stands Q r (after_slot n) fs
opened Q r (Detach p t) fs a = (((a.0).0, tt), a.1)
opened Q r (Feed f) fs a = ((a.0).0, a.1)
opened Q r (Enter e) fs a = (((a.0).0, tt), a.1)
opened Q r _ fs a = absurd ((a.0).1)

counts_on : (Q : Plan → Type 0) (r : Option ℕ) (g : PoolShape) (q : Party) (k : Count) (t : Then) (fs : List Place) → EndsAbove r t fs → Leads Q r fs (settle_count g q k t)
counts_on Q r g q (OfPool p) t fs a = settles_on Q r g q p 0 t fs a
counts_on Q r g q (OfScope c (Worker i j)) t fs a = a
counts_on Q r g q (OfScope c (Caller m)) t fs a = a
counts_on Q r g q (OfCast c (Worker i j)) t fs a = a
counts_on Q r g q (OfCast c (Caller m)) t fs a = a

-- from each such place an act leads to such a place
pub stands_next : (Q : Plan → Type 0) (g : PoolShape) (q : Party) (x : Place) (e : Seen) (r : Option ℕ) (fs : List Place) → Stands Q r x fs → is_start x ≡ false → (turns_thief x ≡ true → g.workers ≡ 1) → Leads Q r fs (next_of g q x e)
stands_next Q g q (ProbeWorking k) Yes r fs s z f = leaves Q r k.target fs s
stands_next Q g q (ProbeWorking k) _ r fs s z f = s
stands_next Q g q (PopWorking k) (Task t) r fs s z f = s
stands_next Q g q (PopWorking k) _ r fs s z f = s
stands_next Q g q (TakeCastWorking k) (Task t) r fs s z f = s
stands_next Q g q (TakeCastWorking k) _ r fs s z f = s
stands_next Q g q (BecomeInactive k) _ r fs s z f = s
stands_next Q g q (ProbeIdle k) Yes r fs s z f = s
stands_next Q g q (ProbeIdle k) _ r fs s z f = s
stands_next Q g q (PopIdle k) (Task t) r fs s z f = s
stands_next Q g q (PopIdle k) _ r fs s z f = s
stands_next Q g q (TakeCastIdle k) (Task t) r fs s z f = s
stands_next Q g q (TakeCastIdle k) _ r fs s z f = subst (λ b. Leads Q r fs (if b then Stay (PopInjected k) else Stay (PickVictim k))) (sym (eq-eqb g.workers 1 (f refl))) s
stands_next Q g q (PopInjected k) (Task t) r fs s z f = s
stands_next Q g q (PopInjected k) _ r fs s z f = failed k.rounds
  where
    failed : (n : Rounds) → Stands Q r (after_failure g k n) fs
    failed (Failed n) = at (nat_lt n g.limit)
      where
        at : (b : Bool) → Stands Q r (if b then ProbeIdle (record k { rounds = Failed (n + 1) }) else AnnounceSelf k) fs
        at true = s
        at false = s
    failed Announced = s
stands_next Q g q (AnnounceSelf k) (Jec j) r fs s z f = s
stands_next Q g q (AnnounceSelf k) _ r fs s z f = s
stands_next Q g q (GetSleepy k) Done r fs s z f = s
stands_next Q g q (GetSleepy k) _ r fs s z f = s
stands_next Q g q (LockOwn k) _ r fs s z f = s
stands_next Q g q (FallAsleep k) Done r fs s z f = s
stands_next Q g q (FallAsleep k) _ r fs s z f = s
stands_next Q g q (LoadCounters k) (Word a b j) r fs s z f = at (j == k.kept)
  where
    at : (c : Bool) → Leads Q r fs (if c then Stay (AddSleeping (record k { sleeping = a; inactive = b })) else Stay (WakeUp (record k { rounds = Failed g.limit })))
    at true = s
    at false = s
stands_next Q g q (LoadCounters k) _ r fs s z f = s
stands_next Q g q (AddSleeping k) Done r fs s z f = s
stands_next Q g q (AddSleeping k) _ r fs s z f = s
stands_next Q g q (LookAtCast k) Yes r fs s z f = s
stands_next Q g q (LookAtCast k) _ r fs s z f = s
stands_next Q g q (LookAtInjector k) Yes r fs s z f = s
stands_next Q g q (LookAtInjector k) _ r fs s z f = s
stands_next Q g q (BlockSelf k) _ r fs s z f = s
stands_next Q g q (RelockOwn k) _ r fs s z f = s
stands_next Q g q (UndoSleeping k) _ r fs s z f = s
stands_next Q g q (WakeUp k) _ r fs s z f = s
stands_next Q g q (UnlockOwn k) _ r fs s z f = s
stands_next Q g q (LeaveSearch k) (Wakes n) r fs s z f = walks Q r g q (own_pool q) n 0 (after_found k.target k.found) fs (found_above r k.target k.found fs s)
stands_next Q g q (LeaveSearch k) _ r fs s z f = s
stands_next Q g q (BeginTask t) e r fs s z f = cc
stands_next Q g q (Run t k) _ r fs s z f = s
stands_next Q g q (RaiseCount n) Done r fs s z f = raised Q r n fs s
stands_next Q g q (RaiseCount n) _ r fs s z f = back_above Q r fs (s.1)
stands_next Q g q (LookQueue n) Yes r fs s z f = s
stands_next Q g q (LookQueue n) _ r fs s z f = s
stands_next Q g q (PushJob n v) Done r fs s z f = ((s.0).1, s.1)
stands_next Q g q (PushJob n v) _ r fs s z f = withdrawn Q r (plan_book n) n fs (s.1)
stands_next Q g q (AddToFifo d) Done r fs s z f = s
stands_next Q g q (AddToFifo d) _ r fs s z f = withdrawn Q r (count_book d.count) (Feed d) fs (s.1)
stands_next Q g q (LookForToken d) Yes r fs s z f = s
stands_next Q g q (LookForToken d) _ r fs s z f = s
stands_next Q g q (PushToken d v) Done r fs s z f = (tt, s.1)
stands_next Q g q (PushToken d v) _ r fs s z f = s
stands_next Q g q (TakeFromFifo d) (Task t) r fs s z f = withdrawn Q r (count_book d.count) (Feed (record d { job = taken_number t })) fs (s.1)
stands_next Q g q (TakeFromFifo d) _ r fs s z f = back_above Q r fs (s.1)
stands_next Q g q (OpenSlot x) Done r fs s z f = opened Q r x fs s
stands_next Q g q (OpenSlot x) _ r fs s z f = s.1
stands_next Q g q (CloseSlot x) _ r fs s z f = s
stands_next Q g q (StorePiece c o t d) _ r fs s z f = s
stands_next Q g q (StoreSlot c o t d) _ r fs s z f = s
stands_next Q g q (TellNews n v) (Wakes k) r fs s z f = walks Q r g q (plan_pool n) k 0 (after_news n) fs (news_above r n fs s)
stands_next Q g q (TellNews n v) _ r fs s z f = s
stands_next Q g q (LockToWake k) _ r fs s z f = s
stands_next Q g q (WakeWorker k) Yes r fs s z f = s
stands_next Q g q (WakeWorker k) _ r fs s z f = s
stands_next Q g q (UnlockWoken k) _ r fs s z f = walks Q r g q k.pool k.owed (k.worker + 1) k.then fs s
stands_next Q g q (LowerCount p v n) Yes r fs s z f = counts_on Q r g q p n fs s
stands_next Q g q (LowerCount p v n) _ r fs s z f = finish_end Q r q n fs s
stands_next Q g q (StoreResult c (Worker a b) d) _ r fs s z f = s
stands_next Q g q (StoreResult c (Caller a) d) _ r fs s z f = s
stands_next Q g q (SetLatch k) Yes r fs s z f = s
stands_next Q g q (SetLatch k) _ r fs s z f = settled_on Q r g q k fs s
stands_next Q g q (LockToSettle k) _ r fs s z f = s
stands_next Q g q (WakeSettled k) _ r fs s z f = s
stands_next Q g q (UnlockSettled k) _ r fs s z f = settled_on Q r g q k fs s
stands_next Q g q (SetLockLatch c n) _ r fs s z f = finish_end Q r q n fs s
stands_next Q g q Stopped _ r fs s z f = s
stands_next Q g q _ e r fs s z f = absurd s

-- a task begins
pub stands_begun : (Q : Plan → Type 0) (g : PoolShape) (q : Party) (t : ℕ) (k : JobKind) (r : Option ℕ) (fs : List Place) → Stands Q r (BeginTask (Plain t)) fs → Leads Q (Some t) fs (next_of g q (BeginTask (Plain t)) (Begun k))
stands_begun Q g q t k r fs s = (refl, s)

-- a run ends
pub stands_closed : (Q : Plan → Type 0) (r : Option ℕ) (t : ℕ) (k : JobKind) (e : Ending) (fs : List Place) → AllBase fs → StandsAt Q r (after_close t k e fs)
stands_closed Q r t Direct e [] a = tt
stands_closed Q r t (TokenOf i b8) e [] a = tt
stands_closed Q r t (BodyOf c9 o9) e [] a = tt
stands_closed Q r t (WholeOf c9 o9) e [] a = tt
stands_closed Q r t Direct e (ProbeWorking k ∷ fs) a = a
stands_closed Q r t (TokenOf i b8) e (ProbeWorking k ∷ fs) a = a
stands_closed Q r t (BodyOf c9 o9) e (ProbeWorking k ∷ fs) a = a
stands_closed Q r t (WholeOf c9 o9) e (ProbeWorking k ∷ fs) a = a
stands_closed Q r t Direct e (_ ∷ fs) a = absurd (a.0)
stands_closed Q r t (TokenOf i b8) e (_ ∷ fs) a = absurd (a.0)
stands_closed Q r t (BodyOf c9 o9) e (_ ∷ fs) a = absurd (a.0)
stands_closed Q r t (WholeOf c9 o9) e (_ ∷ fs) a = absurd (a.0)
stands_closed Q r t _ e fs a = a

-- what such a worker comes by elsewhere it finds where its deque is known to be empty
pub stands_emptied : (Q : Plan → Type 0) (r : Option ℕ) (x : Place) (fs : List Place) → Stands Q r x fs → elsewhere x ≡ true → is_emptied x ≡ true
stands_emptied Q r (TakeCastWorking k) fs s e = refl
stands_emptied Q r (TakeCastIdle k) fs s e = refl
stands_emptied Q r (PopInjected k) fs s e = refl
stands_emptied Q r (RaiseCount (Detach p t)) fs s e = cc
stands_emptied Q r (RaiseCount (Here p t)) fs s e = absurd ((s.0).1)
stands_emptied Q r (RaiseCount (Send o)) fs s e = absurd ((s.0).1)
stands_emptied Q r (RaiseCount (Feed f)) fs s e = cc
stands_emptied Q r (RaiseCount (Gather g)) fs s e = absurd ((s.0).1)
stands_emptied Q r (RaiseCount (Open o)) fs s e = absurd ((s.0).1)
stands_emptied Q r (RaiseCount (Enter x)) fs s e = cc
stands_emptied Q r (RaiseCount (Fork o a)) fs s e = absurd ((s.0).1)
stands_emptied Q r _ fs s e = search (rules, arith)

pub above_caller : (r : Option ℕ) (fs : List Place) → Above r fs → caller_of fs ≡ r
above_caller r (Run t k ∷ fs) a = sym (a.0)
above_caller r _ a = absurd a

-- the run that makes a spawn is the one that began last
pub stands_caller : (Q : Plan → Type 0) (r : Option ℕ) (n : Plan) (v : Bool) (fs : List Place) → Stands Q r (PushJob n v) fs → caller_of fs ≡ r
stands_caller Q r n v fs s = above_caller r fs (s.1)

pub token_caller : (Q : Plan → Type 0) (r : Option ℕ) (f : Feeding) (v : Bool) (fs : List Place) → Stands Q r (PushToken f v) fs → caller_of fs ≡ r
token_caller Q r f v fs s = above_caller r fs (s.1)

pub line_caller : (Q : Plan → Type 0) (r : Option ℕ) (f : Feeding) (fs : List Place) → Stands Q r (AddToFifo f) fs → caller_of fs ≡ r
line_caller Q r f fs s = above_caller r fs (s.1)
