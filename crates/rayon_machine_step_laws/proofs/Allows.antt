-- where a party has an act, can be refused it, and holds what others wait for
--
-- It stands on `HoldersHold`, `FeedersHold` and `StopsHold` of `rayon_machine_laws`: who leaves a lock holds it, and
-- who takes a number back holds the book; no other party holds a worker's own FIFO list.
use Rattle.std.proofs.Common.{refl, ◌∙◌, sym, ap}
use Rattle.rayon_machine_sleep_laws.proofs.Words.{ℕ, Bool, true, false, not, nat_lt, if◌then◌else◌, Option, Some, ◌≡◌, lt-ltb, Party, Worker, Caller, Plain, Token, Place, FallAsleep, LoadCounters, AddSleeping, LookAtCast, LookAtInjector, BlockSelf, UndoSleeping, WakeUp, UnlockOwn, BeginTask}
use Rattle.rayon_machine_sleep_laws.proofs.Words.{LookQueue, PushJob, CloseSlot, AddToFifo, PushToken, TakeFromFifo, PushForAll, CloseForAll, WakeWorker, UnlockWoken, WakeSettled, UnlockSettled, Stopped, LookInj, LookOwn, PushInj, PushOwn, act_of, is_member, is_rest, is_free, is_refusable}
use Rattle.rayon_machine_sleep_laws.proofs.Words.{plan_book, plan_job, plan_pool, World, is_own, same_list, book_at, locks_at}
use Rattle.rayon_machine_places.specs.declared.place.Place.TheVariants.{LookForToken}
use Rattle.rayon_machine_laws.specs.Holders.{IsHolding, feeds_list}
use Rattle.rayon_machine_laws.proofs.Feeders.{FeedersHold}
use Rattle.rayon_machine_laws.proofs.Frame.{and_parts}
use Rattle.rayon_machine_laws.proofs.Held.{HoldersHold, holding}
use Rattle.rayon_machine_step_laws.specs.Enabled.{AllowsActs, AllowsHolders, AllowsRefusals, can_refuse, has_act, is_open_to}
use Rattle.rayon_machine_step_laws.proofs.StandEvents.{StandsHold}
use Rattle.rayon_machine_step_laws.proofs.Stands.{stands}
use Rattle.rayon_machine_step_laws.proofs.Steps.{allows_go, some_if}

-- an act at each place that is none of rest
looks : (b : Bool) (p : ℕ) → has_act (if b then LookOwn else LookInj p) ≡ true
looks true p = refl
looks false p = refl

pushes : (b : Bool) (p t : ℕ) (k : Option ℕ) → has_act (if b then PushOwn t k else PushInj p t k) ≡ true
pushes true p t k = refl
pushes false p t k = refl

place_acts : (n : ℕ) (q : Party) (x : Place) → stands n q x ≡ true → is_rest x ≡ false → has_act (act_of q x) ≡ true
place_acts n (Worker p i) (BeginTask (Plain t)) z e = refl
place_acts n (Caller a) (BeginTask (Plain t)) z e = refl
place_acts n (Worker p i) (BeginTask (Token k j b)) z e = refl
place_acts n (Caller a) (BeginTask (Token k j b)) z e = refl
place_acts n (Worker p i) (LookQueue m) z e = looks (is_member (Worker p i) (plan_pool m)) (plan_pool m)
place_acts n (Caller a) (LookQueue m) z e = looks (is_member (Caller a) (plan_pool m)) (plan_pool m)
place_acts n (Worker p i) (PushJob m v) z e = pushes (is_member (Worker p i) (plan_pool m)) (plan_pool m) (plan_job m) (plan_book m)
place_acts n (Caller a) (PushJob m v) z e = pushes (is_member (Caller a) (plan_pool m)) (plan_pool m) (plan_job m) (plan_book m)
place_acts n (Worker p i) _ z e = cc
place_acts n (Caller c) _ z e = cc

place_rests : (n : ℕ) (q : Party) (x : Place) → stands n q x ≡ true → is_rest x ≡ true → is_free x ≡ false → x ≡ Stopped
place_rests n q Stopped z e f = refl
place_rests n (Worker p i) _ z e f = cc
place_rests n (Caller c) _ z e f = cc

pub allows_acts : (w : World) → StandsHold w → AllowsActs w
allows_acts w h = record {
  acts = λ q e. place_acts w.shape.callers q (w.stack q).top ((h q).0) e;
  rests = λ q e f. place_rests w.shape.callers q (w.stack q).top ((h q).0) e f;
  callers = λ c l e. (let a : stands w.shape.callers (Caller c) (w.stack (Caller c)).top ≡ true = (h (Caller c)).0 in let b : not (nat_lt c w.shape.callers) ≡ true = sym (ap (stands w.shape.callers (Caller c)) e) ∙ a in
      let d : false ≡ true = sym (ap not (lt-ltb c w.shape.callers l)) ∙ b in cc);
}

-- refusals
push_refused : (b : Bool) (p t : ℕ) (k : Option ℕ) → true ≡ can_refuse (if b then PushOwn t k else PushInj p t k)
push_refused true p t k = refl
push_refused false p t k = refl

look_stays : (b : Bool) (p : ℕ) → false ≡ can_refuse (if b then LookOwn else LookInj p)
look_stays true p = refl
look_stays false p = refl

place_refused : (n : ℕ) (q : Party) (x : Place) → stands n q x ≡ true → is_refusable x ≡ can_refuse (act_of q x)
place_refused n (Worker p i) (BeginTask (Plain t)) z = refl
place_refused n (Caller a) (BeginTask (Plain t)) z = refl
place_refused n (Worker p i) (BeginTask (Token k j b)) z = refl
place_refused n (Caller a) (BeginTask (Token k j b)) z = refl
place_refused n (Worker p i) (LookQueue m) z = look_stays (is_member (Worker p i) (plan_pool m)) (plan_pool m)
place_refused n (Caller a) (LookQueue m) z = look_stays (is_member (Caller a) (plan_pool m)) (plan_pool m)
place_refused n (Worker p i) (PushJob m v) z = push_refused (is_member (Worker p i) (plan_pool m)) (plan_pool m) (plan_job m) (plan_book m)
place_refused n (Caller a) (PushJob m v) z = push_refused (is_member (Caller a) (plan_pool m)) (plan_pool m) (plan_job m) (plan_book m)
place_refused n (Worker p i) _ z = refl
place_refused n (Caller c) _ z = cc

pub allows_refusals : (w : World) → StandsHold w → AllowsRefusals w
allows_refusals w h q = some_if (is_refusable (w.stack q).top) _ ∙ place_refused w.shape.callers q (w.stack q).top ((h q).0)

-- who holds what others wait for does not wait
lock_goes : (w : World) (q : Party) (x : Place) (p i : ℕ) → locks_at q x p i ≡ true → is_open_to w q (act_of q x) ≡ true
lock_goes w (Worker a b) (FallAsleep k) p i e = refl
lock_goes w (Worker a b) (LoadCounters k) p i e = refl
lock_goes w (Worker a b) (AddSleeping k) p i e = refl
lock_goes w (Worker a b) (LookAtCast k) p i e = refl
lock_goes w (Worker a b) (LookAtInjector k) p i e = refl
lock_goes w (Worker a b) (BlockSelf k) p i e = refl
lock_goes w (Worker a b) (UndoSleeping k) p i e = refl
lock_goes w (Worker a b) (WakeUp k) p i e = refl
lock_goes w (Worker a b) (UnlockOwn k) p i e = refl
lock_goes w (Worker a b) (WakeWorker k) p i e = refl
lock_goes w (Worker a b) (UnlockWoken k) p i e = refl
lock_goes w (Worker a b) (WakeSettled k) p i e = refl
lock_goes w (Worker a b) (UnlockSettled k) p i e = refl
lock_goes w (Caller c) (WakeWorker k) p i e = refl
lock_goes w (Caller c) (UnlockWoken k) p i e = refl
lock_goes w (Caller c) (WakeSettled k) p i e = refl
lock_goes w (Caller c) (UnlockSettled k) p i e = refl
lock_goes w (Worker a b) _ p i e = absurd (cc)
lock_goes w (Caller c) _ p i e = absurd (cc)

look_open : (w : World) (q : Party) (b : Bool) (p : ℕ) → is_open_to w q (if b then LookOwn else LookInj p) ≡ true
look_open w q true p = refl
look_open w q false p = refl

push_open : (w : World) (q : Party) (b : Bool) (p t : ℕ) (k : Option ℕ) → is_open_to w q (if b then PushOwn t k else PushInj p t k) ≡ true
push_open w q true p t k = refl
push_open w q false p t k = refl

book_goes : (n : ℕ) (w : World) (q : Party) (x : Place) (c : ℕ) → stands n q x ≡ true → same_list (book_at x) (Some c) ≡ true → is_open_to w q (act_of q x) ≡ true
book_goes n w (Worker p i) (LookQueue m) c z e = look_open w (Worker p i) (is_member (Worker p i) (plan_pool m)) (plan_pool m)
book_goes n w (Caller a) (LookQueue m) c z e = look_open w (Caller a) (is_member (Caller a) (plan_pool m)) (plan_pool m)
book_goes n w (Worker p i) (PushJob m v) c z e = push_open w (Worker p i) (is_member (Worker p i) (plan_pool m)) (plan_pool m) (plan_job m) (plan_book m)
book_goes n w (Caller a) (PushJob m v) c z e = push_open w (Caller a) (is_member (Caller a) (plan_pool m)) (plan_pool m) (plan_job m) (plan_book m)
book_goes n w (Worker a b) (CloseSlot m) c z e = refl
book_goes n w (Worker a b) (AddToFifo f) c z e = refl
book_goes n w (Worker a b) (LookForToken f) c z e = refl
book_goes n w (Worker a b) (PushToken f v) c z e = refl
book_goes n w (Worker a b) (TakeFromFifo f) c z e = refl
book_goes n w (Worker a b) (PushForAll k) c z e = refl
book_goes n w (Worker a b) (CloseForAll k) c z e = refl
book_goes n w (Caller a) (CloseSlot m) c z e = refl
book_goes n w (Caller a) (PushForAll k) c z e = refl
book_goes n w (Caller a) (CloseForAll k) c z e = refl
book_goes n w (Worker a b) _ c z e = absurd (cc)
book_goes n w (Caller a) _ c z e = absurd (cc)

list_goes : (w : World) (q : Party) (x : Place) (p i : ℕ) (b : Option ℕ) → is_own q p i ≡ true → feeds_list b x ≡ true → is_open_to w q (act_of q x) ≡ true
list_goes w (Worker a c) (LookForToken f) p i b o e = refl
list_goes w (Worker a c) (PushToken f v) p i b o e = refl
list_goes w (Worker a c) (TakeFromFifo f) p i b o e = refl
list_goes w _ _ p i b o e = absurd (cc)

pub allows_holders : (w : World) → StandsHold w → HoldersHold w → FeedersHold w → AllowsHolders w
allows_holders w s h f = record {
  locks = λ q p i e. allows_go w h f q ∙ lock_goes w q (w.stack q).top p i (sym (k.locks q p i) ∙ e);
  books = λ q c e. allows_go w h f q ∙ book_goes w.shape.callers w q (w.stack q).top c ((s q).0) (sym (k.books q c) ∙ e);
  lists = λ q p i b e. (let a : (is_own q p i ≡ true) × (feeds_list b (w.stack q).top ≡ true) = and_parts (is_own q p i) (feeds_list b (w.stack q).top) (sym (k.lists q p i b) ∙ e) in allows_go w h f q ∙ list_goes w q (w.stack q).top p i b (a.0) (a.1));
}
  where
    k : IsHolding w
    k = holding w h f
