-- which events a world allows: what each act, and each other event, needs
--
-- The table is `needs`; that `is_open_to` is all of it is shown over each act, choice, end and call.
use Rattle.std.proofs.Common.{refl, ◌∙◌, sym, ap}
use Rattle.rayon_machine_sleep_laws.proofs.Words.{ℕ, Bool, true, false, not, ◌&&◌, ◌==◌, nat_lt, if◌then◌else◌, Option, Some, None, is_some, slice_get, ◌≡◌, List, [], ◌∷◌, Party, Worker, Caller, Ending, Latch, Plan, Feed, Enter, Count, OfPool, OfScope, OfCast, Plain, Token, Place, PickVictim}
use Rattle.rayon_machine_sleep_laws.proofs.Words.{StealFrom, UnlockOwn, YieldPop, YieldPick, YieldSteal, LocalPop, BeginTask, Run, CloseSlot, LookQueue, PushJob, AddToFifo, TakeFromFifo, CloseForAll, UnlockWoken, UnlockSettled, Act, Sleepy, Lock, Asleep, LookInj, LookOwn, Wakeup, Unlock, Wake}
use Rattle.rayon_machine_sleep_laws.proofs.Words.{PushInj, PushOwn, Set, Take, Letter, Unset, IsSleepy, Sleeping, IsSet, Scope, own_pool, own_index, act_of, count_call, count_book, plan_book, plan_count, plan_job, plan_pool, is_member, victim_of, is_free, same_party, Stack, World, Part, Outcome}
use Rattle.rayon_machine_sleep_laws.proofs.Words.{counts_at, target_pool, target_worker, target_call, effect, fall_asleep, popped, take_cast, pop_injector, is_own, is_held_by, same_list, part_of, after_choice, after_miss, after_end, after_spawn, after_fifo, after_enter, after_enter_fifo}
use Rattle.rayon_machine_sleep_laws.proofs.Words.{after_enter_cast, after_join, after_yield, after_feed, can_miss, holds, is_pool, locks_at, book_at}
use Rattle.rayon_machine_places.specs.declared.act.Act.TheVariants.{PopOwn, TakeCast, Steal, PopInj, TryAdd, FifoIn, FifoUndo, FifoOut, RaiseAll, LockWait, Raise, Slot, SlotUndo, SlotAll, SlotUndoAll, StoreBody as PutBody, StoreSlot as PutSlot}
use Rattle.rayon_machine_places.specs.Places.{is_pick}
use Rattle.rayon_machine_runs.specs.World.{sleepy, wake_up, set_latch, lock_wait, found, fifo_back, fifo_first, is_free_lock, is_open}
use Rattle.rayon_machine_runs.specs.Steps.{after_outcome, act_at}
use Rattle.rayon_machine_laws.proofs.Frame.{same_party_refl, same_refl, same_list_refl}
use Rattle.rayon_machine_laws.proofs.Feeders.{FeedersHold}
use Rattle.rayon_machine_laws.proofs.Held.{HoldersHold}
use Rattle.rayon_machine_laws.proofs.Posts.{has, is_booked}
use Rattle.rayon_machine_laws.proofs.Ties.{job_at}
use Rattle.rayon_machine_step_laws.specs.Enabled.{AllowsCalls, AllowsChoices, AllowsEnds, AllowsGo, holds_this, is_open_to, is_run, is_set_letter, is_worker, steal_misses}

-- an answer under a test
pub some_if : {A : Type 0} (b : Bool) (v : A) → is_some (if b then Some v else None) ≡ b
some_if true v = refl
some_if false v = refl

some_either : {A : Type 0} (b : Bool) (u v : A) → is_some (if b then Some u else Some v) ≡ true
some_either true u v = refl
some_either false u v = refl

some_under : {A : Type 0} (b : Bool) (o : Option A) → is_some o ≡ true → is_some (if b then o else None) ≡ b
some_under true o e = e
some_under false o e = refl

-- an act is enabled where its outcome is there
done_where : (w : World) (q : Party) (s : Stack) (p i c n : ℕ) (o : Outcome) → is_some (after_outcome w q s p i c n o) ≡ is_some o
done_where w q s p i c n None = refl
done_where w q s p i c n (Some r) = refl

-- what each part of an act always answers
some_sleepy : (l : Latch) (m : Part) (x : Letter) → is_some (sleepy l m x) ≡ true
some_sleepy l m Unset = refl
some_sleepy l m _ = refl

some_asleep : (l : Latch) (m : Part) (x : Letter) → is_some (fall_asleep l m x) ≡ true
some_asleep l m IsSleepy = refl
some_asleep l m _ = refl

some_woken : (l : Latch) (m : Part) (x : Letter) → is_some (wake_up l m x) ≡ true
some_woken l m IsSet = refl
some_woken l m _ = refl

some_set : (l : Latch) (m : Part) (x : Letter) → is_some (set_latch l m x) ≡ true
some_set l m Sleeping = refl
some_set l m _ = refl

some_waited : (m : Part) (x : Letter) → is_some (lock_wait m x) ≡ is_set_letter x
some_waited m IsSet = refl
some_waited m _ = refl

some_found : (m : Part) (o : Option Ending) → is_some (found m o) ≡ true
some_found m None = refl
some_found m (Some e) = refl

some_popped : (q : Party) (m : Part) (l : List ℕ) (o : Option ℕ) → is_some (popped q m l o) ≡ true
some_popped q m l None = refl
some_popped q m l (Some t) = refl

some_cast : (q : Party) (m : Part) (l : List ℕ) → is_some (take_cast q m l) ≡ true
some_cast q m [] = refl
some_cast q m (t ∷ ts) = refl

some_injected : (q : Party) (m : Part) (l : List ℕ) → is_some (pop_injector q m l) ≡ true
some_injected q m [] = refl
some_injected q m (t ∷ ts) = refl

some_back : (q : Party) (m : Part) (b o : Option ℕ) → is_some (fifo_back q m b o) ≡ true
some_back q m b None = refl
some_back q m b (Some t) = refl

some_first : (q : Party) (m : Part) (b : Option ℕ) (l : List ℕ) → is_some (fifo_first q m b l) ≡ true
some_first q m b [] = refl
some_first q m b (t ∷ ts) = refl

-- what an act needs, whoever makes it
abbrev needs : World → Party → Act → Bool
needs w q (Unlock p i) = is_held_by q (w.seat p i).lock
needs w q (FifoIn t b) = is_open q ((w.seat (own_pool q) (own_index q)).feeder b)
needs w q (FifoUndo b) = is_open q ((w.seat (own_pool q) (own_index q)).feeder b)
needs w q (SlotUndo c t) = is_open q (w.call c).writer
needs w q (SlotUndoAll b) = is_open q (w.call (count_call b.count)).writer
needs w q a = is_open_to w q a

-- the outcome of an act
abbrev Gives : World → Party → Act → Type 0
Gives w q a = is_some (effect a w.shape q (counts_at w (target_pool q a)) (part_of w (target_pool q a) (target_worker q a) (target_call a) (job_at w q a))) ≡ needs w q a

gives : (w : World) (q : Party) (a : Act) → Gives w q a
gives w q PopOwn = some_popped q _ _ _
gives w q TakeCast = some_cast q _ _
gives w q (Steal p v) = some_popped q _ _ _
gives w q PopInj = some_injected q _ _
gives w q (Sleepy l) = some_sleepy l _ _
gives w q (Lock p i) = some_if (is_free_lock (w.seat p i).lock && not (is_own q p i && (w.seat p i).blocked)) _
gives w q (Asleep l) = some_asleep l _ _
gives w q (TryAdd a b j) = some_either _ _ _
gives w q (Wakeup l) = some_woken l _ _
gives w q (Unlock p i) = some_if (is_held_by q (w.seat p i).lock) _
gives w q (Wake p i) = some_either _ _ _
gives w q (FifoIn t b) = some_if (is_open q ((w.seat (own_pool q) (own_index q)).feeder b)) _
gives w q (FifoUndo b) = some_under (is_open q ((w.seat (own_pool q) (own_index q)).feeder b)) _ (some_back q _ b _)
gives w q (FifoOut k i b) = some_under (is_open q ((w.seat (own_pool q) i).feeder b)) _ (some_first q _ b _)
gives w q (Set l p i) = some_set l _ _
gives w q (LockWait c) = some_waited _ (w.call c).latch
gives w q (Raise k t) = some_either _ _ _
gives w q (Slot c t) = some_if (is_open q (w.call c).writer) _
gives w q (SlotUndo c t) = some_if (is_open q (w.call c).writer) _
gives w q (PutBody c e) = some_if (is_open q (w.call c).writer) _
gives w q (PutSlot c t e) = some_if (is_open q (w.call c).writer) _
gives w q (RaiseAll b) = some_either _ _ _
gives w q (SlotAll b) = some_if (is_open q (w.call (count_call b.count)).writer) _
gives w q (SlotUndoAll b) = some_if (is_open q (w.call (count_call b.count)).writer) _
gives w q (Take c) = some_found _ (w.call c).cell
gives w q _ = refl

acts_where : (w : World) (q : Party) (s : Stack) (a : Act) → is_some (act_at w q s a) ≡ needs w q a
acts_where w q s a = done_where w q s (target_pool q a) (target_worker q a) (target_call a) (job_at w q a) _ ∙ gives w q a

-- who leaves a lock holds it; who takes a number of a book back holds the book; and a worker's own FIFO list is held by no
-- other party
held_open : (q : Party) (o : Option Party) → is_held_by q o ≡ true → is_open q o ≡ true
held_open q None e = cc
held_open q (Some r) e = e

own_open : (w : World) (p i : ℕ) (b : Option ℕ) → FeedersHold w → is_open (Worker p i) ((w.seat p i).feeder b) ≡ true
own_open w p i b f = by ((w.seat p i).feeder b) refl
  where
    by : (o : Option Party) → (w.seat p i).feeder b ≡ o → is_open (Worker p i) o ≡ true
    by None e = refl
    by (Some g) e = ap (same_party (Worker p i)) ((f.held p i b g e).0) ∙ same_party_refl (Worker p i)

count_has : (k : Count) → has (count_book k) ≡ true → count_book k ≡ Some (count_call k)
count_has (OfScope c o) e = refl
count_has _ e = cc

plan_has : (n : Plan) → has (plan_book n) ≡ true → plan_book n ≡ Some (count_call (plan_count n))
plan_has (Feed f) e = count_has f.count e
plan_has (Enter x) e = refl
plan_has _ e = cc

book_open : (w : World) (q : Party) (c : ℕ) → HoldersHold w → book_at (w.stack q).top ≡ Some c → is_open q (w.call c).writer ≡ true
book_open w q c h e = held_open q (w.call c).writer (h.books q c ∙ ap (λ o. same_list o (Some c)) e ∙ same_list_refl (Some c))

-- so the acts that need no more than this need nothing
met : (w : World) (q : Party) (x : Place) → (w.stack q).top ≡ x → HoldersHold w → FeedersHold w → needs w q (act_of q x) ≡ is_open_to w q (act_of q x)
met w (Worker p i) (UnlockOwn k) e h f = h.locks (Worker p i) p i ∙ ap (λ y. locks_at (Worker p i) y p i) e ∙ same_party_refl (Worker p i)
met w (Worker p i) (AddToFifo d) e h f = own_open w p i (count_book d.count) f
met w (Worker p i) (TakeFromFifo d) e h f = own_open w p i (count_book d.count) f
met w q (UnlockWoken k) e h f = h.locks q k.pool k.worker ∙ ap (λ y. locks_at q y k.pool k.worker) e ∙ same_refl k.pool k.worker
met w q (UnlockSettled k) e h f = h.locks q k.pool k.worker ∙ ap (λ y. locks_at q y k.pool k.worker) e ∙ same_refl k.pool k.worker
met w q (CloseSlot n) e h f = book_open w q (count_call (plan_count n)) h (ap book_at e ∙ plan_has n (sym (ap is_booked e) ∙ h.booked q))
met w q (CloseForAll c) e h f = book_open w q (count_call c.count) h (ap book_at e ∙ count_has c.count (sym (ap is_booked e) ∙ h.booked q))
met w q (BeginTask (Plain t)) e h f = refl
met w q (BeginTask (Token k i b)) e h f = refl
met w q (LookQueue n) e h f = by (is_member q (plan_pool n))
  where
    by : (z : Bool) → needs w q (if z then LookOwn else LookInj (plan_pool n)) ≡ is_open_to w q (if z then LookOwn else LookInj (plan_pool n))
    by true = refl
    by false = refl
met w q (PushJob n v) e h f = by (is_member q (plan_pool n))
  where
    by : (z : Bool) → needs w q (if z then PushOwn (plan_job n) (plan_book n) else PushInj (plan_pool n) (plan_job n) (plan_book n)) ≡ is_open_to w q (if z then PushOwn (plan_job n) (plan_book n) else PushInj (plan_pool n) (plan_job n) (plan_book n))
    by true = refl
    by false = refl
met w (Worker p i) _ e h f = refl
met w (Caller c) _ e h f = refl

pub allows_go : (w : World) → HoldersHold w → FeedersHold w → AllowsGo w
allows_go w h f q = acts_where w q (w.stack q) (act_of q (w.stack q).top) ∙ met w q (w.stack q).top refl h f

-- the ends of runs
ends_where : (w : World) (q : Party) (d : Ending) (s : Stack) (x : Place) → is_some (after_end w q d s x) ≡ is_run x
ends_where w q d s (Run t k) = refl
ends_where w q d s _ = refl

pub allows_ends : (w : World) → AllowsEnds w
allows_ends w q d = ends_where w q d (w.stack q) (w.stack q).top

-- choices and misses
from_where : (w : World) (q : Party) (s : Stack) (x : Place) (v : ℕ) → is_some (after_choice w q s x v) ≡ (is_pick x && nat_lt v (w.shape.pool (own_pool q)).workers)
from_where w q s (PickVictim k) v = some_if (nat_lt v (w.shape.pool (own_pool q)).workers) _
from_where w q s YieldPick v = some_if (nat_lt v (w.shape.pool (own_pool q)).workers) _
from_where w q s _ v = refl

miss_where : (w : World) (q : Party) (s : Stack) (x : Place) → is_some (after_miss w q s x) ≡ steal_misses w q (victim_of x)
miss_where w (Worker p i) s (StealFrom k n) = some_if (can_miss w p k.victim) _
miss_where w (Worker p i) s (YieldSteal v n) = some_if (can_miss w p v) _
miss_where w (Worker p i) s _ = refl
miss_where w (Caller c) s x = refl

pub allows_choices : (w : World) → AllowsChoices w
allows_choices w = record {
  from = λ q v. from_where w q (w.stack q) (w.stack q).top v;
  miss = λ q. miss_where w q (w.stack q) (w.stack q).top;
}

-- calls
spawn_where : (w : World) (q : Party) (p : ℕ) (s : Stack) → is_some (after_spawn w q p s) ≡ (is_free s.top && is_pool w.shape p)
spawn_where w q p s = some_if (is_free s.top && is_pool w.shape p) _

fifo_where : (w : World) (q : Party) (p : ℕ) (s : Stack) → is_some (after_fifo w q p s) ≡ (is_free s.top && is_pool w.shape p)
fifo_where w (Worker r i) p s = by (r == p)
  where
    by : (z : Bool) → is_some (if z then (if is_free s.top && is_pool w.shape p then Some (after_feed w (OfPool p) p i s) else None) else after_spawn w (Worker r i) p s) ≡ (is_free s.top && is_pool w.shape p)
    by true = some_if (is_free s.top && is_pool w.shape p) _
    by false = spawn_where w (Worker r i) p s
fifo_where w (Caller c) p s = spawn_where w (Caller c) p s

join_where : (w : World) (q : Party) (s : Stack) → is_some (after_join w q s) ≡ (is_worker q && is_free s.top)
join_where w (Worker p i) s = some_if (is_free s.top) _
join_where w (Caller c) s = refl

yield_where : (w : World) (q : Party) (s : Stack) (x : Place) → is_some (after_yield w q s x) ≡ (is_worker q && is_free s.top)
yield_where w (Worker p i) s x = some_if (is_free s.top) _
yield_where w (Caller c) s x = refl

never : (b : Bool) → false ≡ (b && false)
never true = refl
never false = refl

enter_where : (w : World) (q : Party) (z : Option Scope) → is_some (after_enter w q (w.stack q) z) ≡ (is_free (w.stack q).top && holds_this w q z)
enter_where w q None = never (is_free (w.stack q).top)
enter_where w q (Some z) = some_if (is_free (w.stack q).top && holds z.call (w.stack q)) _

enter_fifo_where : (w : World) (q : Party) (z : Option Scope) → is_some (after_enter_fifo w q (w.stack q) z) ≡ (is_free (w.stack q).top && holds_this w q z)
enter_fifo_where w q None = never (is_free (w.stack q).top)
enter_fifo_where w (Worker r i) (Some z) = by (r == z.pool)
  where
    own : Option World
    own = if is_free (w.stack (Worker r i)).top && holds z.call (w.stack (Worker r i)) then Some (after_feed w (OfScope z.call z.owner) z.pool i (w.stack (Worker r i))) else None

    by : (b : Bool) → is_some (if b then own else after_enter w (Worker r i) (w.stack (Worker r i)) (Some z)) ≡ (is_free (w.stack (Worker r i)).top && holds z.call (w.stack (Worker r i)))
    by true = some_if (is_free (w.stack (Worker r i)).top && holds z.call (w.stack (Worker r i))) _
    by false = enter_where w (Worker r i) (Some z)
enter_fifo_where w (Caller c) (Some z) = enter_where w (Caller c) (Some z)

enter_cast_where : (w : World) (q : Party) (z : Option Scope) → is_some (after_enter_cast w q (w.stack q) z) ≡ (is_free (w.stack q).top && holds_this w q z)
enter_cast_where w q None = never (is_free (w.stack q).top)
enter_cast_where w q (Some z) = some_if (is_free (w.stack q).top && holds z.call (w.stack q)) _

pub allows_calls : (w : World) → AllowsCalls w
allows_calls w = record {
  spawn = λ q p. spawn_where w q p (w.stack q);
  fifo = λ q p. fifo_where w q p (w.stack q);
  cast = λ q p. some_if (is_free (w.stack q).top && is_pool w.shape p) _;
  install = λ q p. some_if (is_free (w.stack q).top && is_pool w.shape p) _;
  open_scope = λ q p. some_if (is_free (w.stack q).top && is_pool w.shape p) _;
  broadcast = λ q p. some_if (is_free (w.stack q).top && is_pool w.shape p) _;
  join = λ q. join_where w q (w.stack q);
  yield = λ q. yield_where w q (w.stack q) YieldPop;
  yield_local = λ q. yield_where w q (w.stack q) LocalPop;
  into_spawn = λ q n. enter_where w q (slice_get w.scopes n);
  into_fifo = λ q n. enter_fifo_where w q (slice_get w.scopes n);
  into_cast = λ q n. enter_cast_where w q (slice_get w.scopes n);
  end_pool = λ q p. some_if (is_free (w.stack q).top && (is_pool w.shape p && (w.pool p).held)) _;
}
