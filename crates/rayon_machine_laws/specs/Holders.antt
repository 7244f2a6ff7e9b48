-- who holds each sleep lock, each scope's book and each FIFO list
--
-- Broken by the wrong machines, in `rayon_machine_orders/proofs`: `waker_keeps_the_lock`, `push_keeps_the_list` and
-- `held_lock_is_taken` for `IsHolding`, `lock_is_held` for `HolderLaw` (SeatTeeth).
use Rattle.std.specs.Prelude.{ℕ, Bool, false, not, ◌&&◌, ◌==◌, Option, Some, None, List, ◌≡◌}
use Rattle.rayon_machine_places.specs.declared.place.Party.{Party}
use Rattle.rayon_machine_places.specs.declared.place.Place.{Place}
use Rattle.rayon_machine_places.specs.declared.place.Place.TheVariants.{FallAsleep, LoadCounters, AddSleeping, LookAtCast, LookAtInjector, BlockSelf, UndoSleeping, WakeUp, UnlockOwn, WakeWorker, UnlockWoken, WakeSettled, UnlockSettled, LookQueue, PushJob, CloseSlot, AddToFifo, LookForToken, PushToken, TakeFromFifo, PushForAll, CloseForAll}
use Rattle.rayon_machine_places.specs.declared.act.Act.{Act}
use Rattle.rayon_machine_places.specs.declared.act.Act.TheVariants.{Lock, Unlock, FifoIn, FifoUndo, FifoOut, Slot, SlotUndo, SlotAll, SlotUndoAll, StoreBody as PutBody, StoreSlot as PutSlot}
use Rattle.rayon_machine_runs.specs.declared.event.Event.{Event}
use Rattle.rayon_machine_runs.specs.declared.event.Event.TheVariants.{Go}
use Rattle.rayon_machine_places.specs.Places.{act_of, plan_book, count_book, count_call, own_pool, own_index}
use Rattle.rayon_machine_runs.specs.World.{Shape, World, is_free_lock, is_held_by, is_open, same_list}
use Rattle.rayon_machine_places.specs.Targets.{is_own}
use Rattle.rayon_machine_runs.specs.Steps.{step}
use Rattle.rayon_machine_runs.specs.Runs.{IsRun, start}

-- where a party stands between its Lock of the sleep lock of worker i of pool p and its Unlock or Block: at its own lock,
-- or at that of a worker whom it wakes
abbrev pub locks_at : Party → Place → ℕ → ℕ → Bool
locks_at q (FallAsleep k) p i = is_own q p i
locks_at q (LoadCounters k) p i = is_own q p i
locks_at q (AddSleeping k) p i = is_own q p i
locks_at q (LookAtCast k) p i = is_own q p i
locks_at q (LookAtInjector k) p i = is_own q p i
locks_at q (BlockSelf k) p i = is_own q p i
locks_at q (UndoSleeping k) p i = is_own q p i
locks_at q (WakeUp k) p i = is_own q p i
locks_at q (UnlockOwn k) p i = is_own q p i
locks_at q (WakeWorker k) p i = (k.pool == p) && (k.worker == i)
locks_at q (UnlockWoken k) p i = (k.pool == p) && (k.worker == i)
locks_at q (WakeSettled s) p i = (s.pool == p) && (s.worker == i)
locks_at q (UnlockSettled s) p i = (s.pool == p) && (s.worker == i)
locks_at q _ p i = false

-- the scope whose book a party has, where it stands between the act by which it opened a number there and the push of its
-- job, or the act by which it takes the number back
abbrev pub book_at : Place → Option ℕ
book_at (LookQueue n) = plan_book n
book_at (PushJob n e) = plan_book n
book_at (CloseSlot n) = plan_book n
book_at (AddToFifo f) = count_book f.count
book_at (LookForToken f) = count_book f.count
book_at (PushToken f e) = count_book f.count
book_at (TakeFromFifo f) = count_book f.count
book_at (PushForAll c) = count_book c.count
book_at (CloseForAll c) = count_book c.count
book_at _ = None

-- where a worker has added a job to this FIFO list of its own, and has neither pushed a token for it nor taken it back
abbrev pub feeds_list : Option ℕ → Place → Bool
feeds_list b (LookForToken f) = same_list b (count_book f.count)
feeds_list b (PushToken f e) = same_list b (count_book f.count)
feeds_list b (TakeFromFifo f) = same_list b (count_book f.count)
feeds_list b _ = false

-- a party holds a sleep lock, a scope's book, or a FIFO list exactly where it stands so
pub record IsHolding (w : World) : Type 0 where
  pub locks : (q : Party) (p i : ℕ) → is_held_by q (w.seat p i).lock ≡ locks_at q (w.stack q).top p i
  pub books : (q : Party) (c : ℕ) → is_held_by q (w.call c).writer ≡ same_list (book_at (w.stack q).top) (Some c)
  pub lists : (q : Party) (p i : ℕ) (b : Option ℕ) → is_held_by q ((w.seat p i).feeder b) ≡ (is_own q p i && feeds_list b (w.stack q).top)

-- another party holds what the act is on: a book, a FIFO list, or a sleep lock that is to be taken; or a lock that is to be
-- left is not the party's
abbrev pub others_hold : World → Party → Act → Bool
others_hold w q (Lock p i) = not (is_free_lock (w.seat p i).lock)
others_hold w q (Unlock p i) = not (is_held_by q (w.seat p i).lock)
others_hold w q (Slot c t) = not (is_open q (w.call c).writer)
others_hold w q (SlotUndo c t) = not (is_open q (w.call c).writer)
others_hold w q (SlotAll b) = not (is_open q (w.call (count_call b.count)).writer)
others_hold w q (SlotUndoAll b) = not (is_open q (w.call (count_call b.count)).writer)
others_hold w q (PutBody c e) = not (is_open q (w.call c).writer)
others_hold w q (PutSlot c t e) = not (is_open q (w.call c).writer)
others_hold w q (FifoIn t b) = not (is_open q ((w.seat (own_pool q) (own_index q)).feeder b))
others_hold w q (FifoUndo b) = not (is_open q ((w.seat (own_pool q) (own_index q)).feeder b))
others_hold w q (FifoOut k i b) = not (is_open q ((w.seat (own_pool q) i).feeder b))
others_hold w q _ = false

-- no step of a run makes such an act
abbrev pub HolderLaw : Type 0
HolderLaw = (shape : Shape) (before : List Event) (w v : World) (q : Party) → IsRun (start shape) before w → step w (Go q) ≡ Some v → others_hold w q (act_of q (w.stack q).top) ≡ false
