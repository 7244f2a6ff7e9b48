-- a party holds a sleep lock, a scope's book and a FIFO list exactly where it stands so
use Rattle.std.proofs.Common.{refl, ◌∙◌, sym, ap, inl, inr}
use Rattle.std.specs.Prelude.{ℕ, Bool, true, false, not, ◌&&◌, ◌==◌, if◌then◌else◌, Option, Some, None, ◌≡◌, IfSome, ⊤, [], ◌∷◌, List}
use Rattle.std.proofs.lemmas.Bool.{eqb-true, eq-eqb}
use Rattle.rayon_machine_places.specs.declared.place.Party.{Party}
use Rattle.rayon_machine_places.specs.declared.place.Party.TheVariants.{Worker, Caller}
use Rattle.rayon_machine_places.specs.declared.place.Plan.{Plan}
use Rattle.rayon_machine_places.specs.declared.place.Plan.TheVariants.{Detach, Here, Send, Fork, Feed, Open, Enter, Gather}
use Rattle.rayon_machine_places.specs.declared.place.Count.{Count}
use Rattle.rayon_machine_places.specs.declared.place.Count.TheVariants.{OfPool, OfScope, OfCast}
use Rattle.rayon_machine_places.specs.declared.place.Feeding.{Feeding}
use Rattle.rayon_machine_places.specs.declared.place.Walk.{Walk}
use Rattle.rayon_machine_places.specs.declared.place.Settling.{Settling}
use Rattle.rayon_machine_places.specs.declared.place.Taken.TheVariants.{Plain}
use Rattle.rayon_machine_places.specs.declared.place.Place.{Place}
use Rattle.rayon_machine_places.specs.declared.place.Place.TheVariants.{LockOwn, FallAsleep, LoadCounters, AddSleeping, LookAtCast, LookAtInjector, BlockSelf, RelockOwn, UndoSleeping, WakeUp, UnlockOwn, LowerForAll, LockToWake, WakeWorker, UnlockWoken, LockToSettle, WakeSettled, UnlockSettled, GrowCall, OpenSlot, CloseSlot, LookQueue, PushJob, PushToken, TakeFromFifo, OpenForAll, PushForAll, CloseForAll, DealPieces, StoreSlot, StorePiece}
use Rattle.rayon_machine_places.specs.declared.act.Act.TheVariants.{Unlock, PushOwn, PushInj, FifoUndo}
use Rattle.rayon_machine_places.specs.declared.act.Seen.{Seen}
use Rattle.rayon_machine_places.specs.declared.act.Seen.TheVariants.{Done, Task}
use Rattle.rayon_machine_places.specs.declared.shape.PoolShape.{PoolShape}
use Rattle.rayon_machine_places.specs.Places.{act_of, next_of, plan_book, plan_count, plan_job, plan_pool, count_book, count_call, is_member, withdraw, after_slot, same_party}
use Rattle.rayon_machine_runs.specs.World.{Shape, Part, effect, is_free_lock, is_held_by, is_open, left_by, left_book, last_of, same_list, fifo_back}
use Rattle.rayon_machine_places.specs.Sleepers.{Counts}
use Rattle.rayon_machine_places.specs.Targets.{target_pool, target_worker, target_call, or_none, is_own}
use Rattle.rayon_machine_runs.specs.Steps.{after_move}
use Rattle.rayon_machine_laws.specs.Holders.{book_at, locks_at}
use Rattle.rayon_machine_laws.proofs.Acts.{Field, Locker, Writer, Number, Kept, writes_at, keeps}
use Rattle.rayon_machine_laws.proofs.Frame.{and_parts, either, if_cond, if_some_map, same_index, same_party_true, same_party_refl, same_refl, if_some_all, if_some_and}
use Rattle.rayon_machine_laws.proofs.Tops.{is_light, is_heavy}
use Rattle.rayon_machine_laws.proofs.Posts.{Locking, Unless, has, is_booked, locks_here, books_here}

-- tests the other way round
eqb_turn : (a b : ℕ) (z : Bool) → (a == b) ≡ z → (b == a) ≡ z
eqb_turn a b true e = eq-eqb b a (sym (eqb-true a b e))
eqb_turn a b false e = elim (either (b == a)) [ inl y ↦ absurd (let t : (a == b) ≡ true = eq-eqb a b (sym (eqb-true b a y)) in let u : true ≡ false = sym t ∙ e in cc) | inr n ↦ n ]

index_turn : (a b p i : ℕ) → ((p == a) && (i == b)) ≡ false → ((a == p) && (b == i)) ≡ false
index_turn a b p i e = elim (either ((a == p) && (b == i))) [
  | inl y ↦ absurd (let s : (a ≡ p) × (b ≡ i) = same_index a b p i y in let t : ((p == a) && (i == b)) ≡ true = ap (λ n. (n == a) && (i == b)) (sym (s.0)) ∙ ap (λ n. (a == a) && (n == b)) (sym (s.1)) ∙ same_refl a b in let u : true ≡ false = sym t ∙ e in cc)
  | inr n ↦ n
]

free_none : (o : Option Party) → is_free_lock o ≡ true → o ≡ None
free_none None e = refl
free_none (Some q) e = cc

held_some : (q : Party) (o : Option Party) → is_held_by q o ≡ true → o ≡ Some q
held_some q None e = cc
held_some q (Some r) e = ap Some (sym (same_party_true q r e))

-- who leaves a book, or a list, does not hold it, and nobody else does that did not
left_own : (q : Party) (o : Option Party) → is_held_by q (left_by q o) ≡ false
left_own q None = refl
left_own q (Some r) = by (same_party q r) refl
  where
    by : (b : Bool) → same_party q r ≡ b → is_held_by q (if b then None else Some r) ≡ false
    by true e = refl
    by false e = e

left_other : (q g : Party) (o : Option Party) → same_party g q ≡ false → is_held_by g (left_by q o) ≡ is_held_by g o
left_other q g None d = refl
left_other q g (Some r) d = by (same_party q r) refl
  where
    by : (b : Bool) → same_party q r ≡ b → is_held_by g (if b then None else Some r) ≡ same_party g r
    by true e = sym (ap (same_party g) (sym (same_party_true q r e)) ∙ d)
    by false e = refl

open_other : (q g : Party) (o : Option Party) → is_open q o ≡ true → same_party g q ≡ false → is_held_by g o ≡ false
open_other q g None e d = refl
open_other q g (Some r) e d = ap (same_party g) (sym (same_party_true q r e)) ∙ d

-- what an act of a party leaves of the lock and the book of its part, and where it leads
pub record Locked (q : Party) (x : Place) (m : Part) (r : Seen × Part) (y : Place) : Type 0 where
  pub own : is_held_by q m.seat.lock ≡ locks_at q x (target_pool q (act_of q x)) (target_worker q (act_of q x)) → is_held_by q r.1.seat.lock ≡ locks_at q y (target_pool q (act_of q x)) (target_worker q (act_of q x))
  pub other : (g : Party) → same_party g q ≡ false → is_held_by q m.seat.lock ≡ locks_at q x (target_pool q (act_of q x)) (target_worker q (act_of q x)) → is_held_by g r.1.seat.lock ≡ is_held_by g m.seat.lock
  pub away : (p i : ℕ) → ((p == target_pool q (act_of q x)) && (i == target_worker q (act_of q x))) ≡ false → locks_at q y p i ≡ locks_at q x p i

pub record Booked (q : Party) (x : Place) (m : Part) (r : Seen × Part) (y : Place) : Type 0 where
  pub own : is_held_by q m.call.writer ≡ same_list (book_at x) (Some (target_call (act_of q x))) → is_held_by q r.1.call.writer ≡ same_list (book_at y) (Some (target_call (act_of q x)))
  pub other : (g : Party) → same_party g q ≡ false → is_held_by g r.1.call.writer ≡ is_held_by g m.call.writer
  pub away : (c : ℕ) → (c == target_call (act_of q x)) ≡ false → same_list (book_at y) (Some c) ≡ same_list (book_at x) (Some c)

-- an act that takes or leaves no lock, or no book
same_locked : (q : Party) (x : Place) (m : Part) (r : Seen × Part) (y : Place) → Locking x y → r.1.seat.lock ≡ m.seat.lock → Locked q x m r y
same_locked q x m r y l e = record {
  own = λ h. ap (is_held_by q) e ∙ h ∙ sym (l q (target_pool q (act_of q x)) (target_worker q (act_of q x)));
  other = λ g d h. ap (is_held_by g) e;
  away = λ p i z. l q p i;
}

same_booked : (q : Party) (x : Place) (m : Part) (r : Seen × Part) (y : Place) → book_at y ≡ book_at x → r.1.call.writer ≡ m.call.writer → Booked q x m r y
same_booked q x m r y b e = record {
  own = λ h. ap (is_held_by q) e ∙ h ∙ ap (λ o. same_list o (Some (target_call (act_of q x)))) (sym b);
  other = λ g d. ap (is_held_by g) e;
  away = λ c z. ap (λ o. same_list o (Some c)) b;
}

-- one that takes a lock which is free
take_locked : (q : Party) (x : Place) (m : Part) (r : Seen × Part) (y : Place) (a b : ℕ) → target_pool q (act_of q x) ≡ a → target_worker q (act_of q x) ≡ b → is_free_lock m.seat.lock ≡ true → r.1.seat.lock ≡ Some q
    → ((p i : ℕ) → locks_at q x p i ≡ false) → ((p i : ℕ) → locks_at q y p i ≡ ((a == p) && (b == i))) → Locked q x m r y
take_locked q x m r y a b tp tw f e nx is = record {
  own = λ h. ap (is_held_by q) e ∙ same_party_refl q ∙ sym (ap (λ n. locks_at q y n (target_worker q (act_of q x))) tp ∙ ap (locks_at q y a) tw ∙ is a b ∙ same_refl a b);
  other = λ g d h. ap (is_held_by g) e ∙ d ∙ sym (ap (is_held_by g) (free_none m.seat.lock f));
  away = λ p i z. is p i ∙ index_turn a b p i (ap (λ n. (p == n) && (i == b)) (sym tp) ∙ ap (λ n. (p == target_pool q (act_of q x)) && (i == n)) (sym tw) ∙ z) ∙ sym (nx p i);
}

-- one that leaves a lock which the party holds
leave_locked : (q : Party) (x : Place) (m : Part) (r : Seen × Part) (y : Place) (a b : ℕ) → target_pool q (act_of q x) ≡ a → target_worker q (act_of q x) ≡ b → r.1.seat.lock ≡ None
    → ((p i : ℕ) → locks_at q y p i ≡ false) → ((p i : ℕ) → locks_at q x p i ≡ ((a == p) && (b == i))) → Locked q x m r y
leave_locked q x m r y a b tp tw e ny is = record {
  own = λ h. ap (is_held_by q) e ∙ sym (ny (target_pool q (act_of q x)) (target_worker q (act_of q x)));
  other = λ g d h. ap (is_held_by g) e ∙ sym (ap (is_held_by g) (held_some q m.seat.lock (h ∙ ap (λ n. locks_at q x n (target_worker q (act_of q x))) tp ∙ ap (locks_at q x a) tw ∙ is a b ∙ same_refl a b)) ∙ d);
  away = λ p i z. ny p i ∙ sym (is p i ∙ index_turn a b p i (ap (λ n. (p == n) && (i == b)) (sym tp) ∙ ap (λ n. (p == target_pool q (act_of q x)) && (i == n)) (sym tw) ∙ z));
}

-- where no lock is held
light_locks : (q : Party) (y : Place) → is_light y ≡ true → (p i : ℕ) → locks_at q y p i ≡ false
light_locks q (FallAsleep k) e p i = cc
light_locks q (LoadCounters k) e p i = cc
light_locks q (AddSleeping k) e p i = cc
light_locks q (LookAtCast k) e p i = cc
light_locks q (LookAtInjector k) e p i = cc
light_locks q (BlockSelf k) e p i = cc
light_locks q (UndoSleeping k) e p i = cc
light_locks q (WakeUp k) e p i = cc
light_locks q (UnlockOwn k) e p i = cc
light_locks q (WakeWorker k) e p i = cc
light_locks q (UnlockWoken k) e p i = cc
light_locks q (WakeSettled k) e p i = cc
light_locks q (UnlockSettled k) e p i = cc
light_locks q _ e p i = refl

-- the places whose acts write who holds a book
abbrev writers_here : Place → Bool
writers_here (OpenSlot n) = true
writers_here (CloseSlot n) = true
writers_here (PushJob n e) = true
writers_here (PushToken f e) = true
writers_here (OpenForAll c) = true
writers_here (PushForAll c) = true
writers_here (CloseForAll c) = true
writers_here (DealPieces g) = true
writers_here _ = false

-- the places whose acts write a job's number of a book
abbrev pub slots_here : Place → Bool
slots_here (OpenSlot n) = true
slots_here (CloseSlot n) = true
slots_here (StoreSlot c o t e) = true
slots_here (StorePiece c o t e) = true
slots_here _ = false

-- any other act leaves the holders of its part, and the number of its job
abbrev pub Same : Place → Part → Seen × Part → Type 0
Same x m r = Unless (locks_here x) (r.1.seat.lock ≡ m.seat.lock) × Unless (writers_here x) (r.1.call.writer ≡ m.call.writer) × Unless (slots_here x) (r.1.job.slot ≡ m.job.slot)

pub holders_same : (h : Shape) (q : Party) (c : Counts) (m : Part) (x : Place) → IfSome (effect (act_of q x) h q c m) (Same x m)
holders_same h q c m x =
    if_some_map (λ r. Unless (locks_here x) (Kept Locker m r) × (Unless (writers_here x) (Kept Writer m r) × Unless (slots_here x) (Kept Number m r))) (Same x m) (λ r k. (k.0, k.1.0, k.1.1)) (effect (act_of q x) h q c m)
    (if_some_and (λ r. Unless (locks_here x) (Kept Locker m r)) (λ r. Unless (writers_here x) (Kept Writer m r) × Unless (slots_here x) (Kept Number m r)) (effect (act_of q x) h q c m)
    (one Locker (locks_here x) (locks_only x))
    (if_some_and (λ r. Unless (writers_here x) (Kept Writer m r)) (λ r. Unless (slots_here x) (Kept Number m r)) (effect (act_of q x) h q c m) (one Writer (writers_here x) (writers_only x)) (one Number (slots_here x) (slots_only x))))
  where
    one : (f : Field) (b : Bool) → (b ≡ false → writes_at x (f ∷ []) ≡ false) → IfSome (effect (act_of q x) h q c m) (λ r. Unless b (Kept f m r))
    one f true e = if_some_all (λ r. Unless true (Kept f m r)) (λ r. tt) (effect (act_of q x) h q c m)
    one f false e = keeps h q c m (λ v r. Unless false (Kept f v r)) (f ∷ []) x (e refl) (λ r k. k.0)

    locks_only : (x : Place) → locks_here x ≡ false → writes_at x (Locker ∷ []) ≡ false
    locks_only (LockOwn k) e = cc
    locks_only _ e = cc

    writers_only : (x : Place) → writers_here x ≡ false → writes_at x (Writer ∷ []) ≡ false
    writers_only (OpenSlot n) e = cc
    writers_only _ e = cc

    slots_only : (x : Place) → slots_here x ≡ false → writes_at x (Number ∷ []) ≡ false
    slots_only (OpenSlot n) e = cc
    slots_only _ e = cc

-- where an act leads
abbrev pub Top : PoolShape → Party → Place → List Place → Seen → Place
Top g q x fs e = (after_move (next_of g q x e) fs).top

-- what is known of each act: what it leaves, and that it leads to where nothing of the sleep is half done
abbrev pub LockKnown : PoolShape → Party → Part → Place → List Place → Seen × Part → Type 0
LockKnown g q m x fs r = Same x m r × Unless (locks_here x) (Locking x (Top g q x fs (r.0))) × (is_heavy x ≡ false → is_light (Top g q x fs (r.0)) ≡ true)

abbrev pub Locks : PoolShape → Party → Part → Place → List Place → Seen × Part → Type 0
Locks g q m x fs r = Locked q x m r (Top g q x fs (r.0))

woken_locked : (h : Shape) (g : PoolShape) (q : Party) (c : Counts) (m : Part) (k : Walk) (fs : List Place) → IfSome (effect (Unlock k.pool k.worker) h q c m) (LockKnown g q m (UnlockWoken k) fs) → target_pool q (act_of q (UnlockWoken k)) ≡ k.pool
    → target_worker q (act_of q (UnlockWoken k)) ≡ k.worker → IfSome (effect (Unlock k.pool k.worker) h q c m) (Locks g q m (UnlockWoken k) fs)
woken_locked h g q c m k fs f a b = by (is_held_by q m.seat.lock) f
  where
    by : (z : Bool) → IfSome (if z then Some (Done, record m { seat = record (m.seat) { lock = None } }) else None) (LockKnown g q m (UnlockWoken k) fs) → IfSome (if z then Some (Done, record m { seat = record (m.seat) { lock = None } }) else None) (Locks g q m (UnlockWoken k) fs)
    by true f = leave_locked q (UnlockWoken k) m _ (Top g q (UnlockWoken k) fs Done) k.pool k.worker a b refl (light_locks q (Top g q (UnlockWoken k) fs Done) (f.2 refl)) (λ p i. refl)
    by false f = tt

settled_locked : (h : Shape) (g : PoolShape) (q : Party) (c : Counts) (m : Part) (k : Settling) (fs : List Place) → IfSome (effect (Unlock k.pool k.worker) h q c m) (LockKnown g q m (UnlockSettled k) fs) → target_pool q (act_of q (UnlockSettled k)) ≡ k.pool
    → target_worker q (act_of q (UnlockSettled k)) ≡ k.worker → IfSome (effect (Unlock k.pool k.worker) h q c m) (Locks g q m (UnlockSettled k) fs)
settled_locked h g q c m k fs f a b = by (is_held_by q m.seat.lock) f
  where
    by : (z : Bool) → IfSome (if z then Some (Done, record m { seat = record (m.seat) { lock = None } }) else None) (LockKnown g q m (UnlockSettled k) fs) → IfSome (if z then Some (Done, record m { seat = record (m.seat) { lock = None } }) else None) (Locks g q m (UnlockSettled k) fs)
    by true f = leave_locked q (UnlockSettled k) m _ (Top g q (UnlockSettled k) fs Done) k.pool k.worker a b refl (light_locks q (Top g q (UnlockSettled k) fs Done) (f.2 refl)) (λ p i. refl)
    by false f = tt

pub act_locked : (h : Shape) (g : PoolShape) (q : Party) (c : Counts) (m : Part) (x : Place) (fs : List Place) → IfSome (effect (act_of q x) h q c m) (LockKnown g q m x fs) → IfSome (effect (act_of q x) h q c m) (Locks g q m x fs)
act_locked h g (Worker i j) c m (LockOwn k) fs f = if_cond (Locks g (Worker i j) m (LockOwn k) fs) (is_free_lock m.seat.lock && not (is_own (Worker i j) i j && m.seat.blocked)) _
    (λ z. take_locked (Worker i j) (LockOwn k) m _ (FallAsleep k) i j refl refl ((and_parts (is_free_lock m.seat.lock) (not (is_own (Worker i j) i j && m.seat.blocked)) z).0) refl (λ p n. refl) (λ p n. refl))
act_locked h g (Worker i j) c m (RelockOwn k) fs f = if_cond (Locks g (Worker i j) m (RelockOwn k) fs) (is_free_lock m.seat.lock && not (is_own (Worker i j) i j && m.seat.blocked)) _
    (λ z. take_locked (Worker i j) (RelockOwn k) m _ (Top g (Worker i j) (RelockOwn k) fs Done) i j refl refl ((and_parts (is_free_lock m.seat.lock) (not (is_own (Worker i j) i j && m.seat.blocked)) z).0) refl (λ p n. refl) (λ p n. refl))
act_locked h g (Worker i j) c m (UnlockOwn k) fs f = if_cond (Locks g (Worker i j) m (UnlockOwn k) fs) (is_held_by (Worker i j) m.seat.lock) _ (λ z. leave_locked (Worker i j) (UnlockOwn k) m _ (Top g (Worker i j) (UnlockOwn k) fs Done) i j refl refl refl (λ p n. refl) (λ p n. refl))
act_locked h g (Worker i j) c m (BlockSelf k) fs f = leave_locked (Worker i j) (BlockSelf k) m _ (Top g (Worker i j) (BlockSelf k) fs Done) i j refl refl refl (λ p n. refl) (λ p n. refl)
act_locked h g (Caller n) c m (LockOwn k) fs f = tt
act_locked h g (Caller n) c m (RelockOwn k) fs f = tt
act_locked h g (Caller n) c m (UnlockOwn k) fs f = tt
act_locked h g (Caller n) c m (BlockSelf k) fs f = tt
act_locked h g (Worker i j) c m (LockToWake k) fs f = if_cond (Locks g (Worker i j) m (LockToWake k) fs) (is_free_lock m.seat.lock && not (is_own (Worker i j) k.pool k.worker && m.seat.blocked)) _
    (λ z. take_locked (Worker i j) (LockToWake k) m _ (WakeWorker k) k.pool k.worker refl refl ((and_parts (is_free_lock m.seat.lock) (not (is_own (Worker i j) k.pool k.worker && m.seat.blocked)) z).0) refl (λ p n. refl) (λ p n. refl))
act_locked h g (Caller n) c m (LockToWake k) fs f = if_cond (Locks g (Caller n) m (LockToWake k) fs) (is_free_lock m.seat.lock && not (is_own (Caller n) k.pool k.worker && m.seat.blocked)) _
    (λ z. take_locked (Caller n) (LockToWake k) m _ (WakeWorker k) k.pool k.worker refl refl ((and_parts (is_free_lock m.seat.lock) (not (is_own (Caller n) k.pool k.worker && m.seat.blocked)) z).0) refl (λ p n. refl) (λ p n. refl))
act_locked h g (Worker i j) c m (LockToSettle k) fs f = if_cond (Locks g (Worker i j) m (LockToSettle k) fs) (is_free_lock m.seat.lock && not (is_own (Worker i j) k.pool k.worker && m.seat.blocked)) _
    (λ z. take_locked (Worker i j) (LockToSettle k) m _ (WakeSettled k) k.pool k.worker refl refl ((and_parts (is_free_lock m.seat.lock) (not (is_own (Worker i j) k.pool k.worker && m.seat.blocked)) z).0) refl (λ p n. refl) (λ p n. refl))
act_locked h g (Caller n) c m (LockToSettle k) fs f = if_cond (Locks g (Caller n) m (LockToSettle k) fs) (is_free_lock m.seat.lock && not (is_own (Caller n) k.pool k.worker && m.seat.blocked)) _
    (λ z. take_locked (Caller n) (LockToSettle k) m _ (WakeSettled k) k.pool k.worker refl refl ((and_parts (is_free_lock m.seat.lock) (not (is_own (Caller n) k.pool k.worker && m.seat.blocked)) z).0) refl (λ p n. refl) (λ p n. refl))
act_locked h g (Worker i j) c m (UnlockWoken k) fs f = woken_locked h g (Worker i j) c m k fs f refl refl
act_locked h g (Caller n) c m (UnlockWoken k) fs f = woken_locked h g (Caller n) c m k fs f refl refl
act_locked h g (Worker i j) c m (UnlockSettled k) fs f = settled_locked h g (Worker i j) c m k fs f refl refl
act_locked h g (Caller n) c m (UnlockSettled k) fs f = settled_locked h g (Caller n) c m k fs f refl refl
act_locked h g q c m x fs f = if_some_map (LockKnown g q m x fs) (Locks g q m x fs) (λ r k. same_locked q x m r (Top g q x fs (r.0)) (k.1) ((k.0).0)) (effect (act_of q x) h q c m) f

-- the book of a plan is that of its count
book_count : (k : Count) → has (count_book k) ≡ true → count_book k ≡ Some (count_call k)
book_count (OfPool p) e = cc
book_count (OfScope c o) e = refl
book_count (OfCast c o) e = cc

plan_counts : (n : Plan) → has (plan_book n) ≡ true → plan_book n ≡ Some (count_call (plan_count n))
plan_counts (Feed f) e = book_count f.count e
plan_counts (Enter x) e = refl
plan_counts (Detach p t) e = cc
plan_counts (Here p t) e = cc
plan_counts (Send o) e = cc
plan_counts (Fork o a) e = cc
plan_counts (Open o) e = cc
plan_counts (Gather g) e = cc

slot_book : (n : Plan) → book_at (after_slot n) ≡ plan_book n
slot_book (Feed f) = refl
slot_book (Detach p t) = refl
slot_book _ = refl

-- an act that takes a book which is open
take_booked : (q : Party) (x : Place) (m : Part) (r : Seen × Part) (y : Place) (c : ℕ) → target_call (act_of q x) ≡ c → is_open q m.call.writer ≡ true → r.1.call.writer ≡ Some q → book_at x ≡ None → book_at y ≡ Some c → Booked q x m r y
take_booked q x m r y c t o e nx is = record {
  own = λ h. ap (is_held_by q) e ∙ same_party_refl q ∙ sym (ap (λ b. same_list b (Some (target_call (act_of q x)))) is ∙ ap (λ d. c == d) t ∙ eq-eqb c c refl);
  other = λ g d. ap (is_held_by g) e ∙ d ∙ sym (open_other q g m.call.writer o d);
  away = λ d z. ap (λ b. same_list b (Some d)) is ∙ eqb_turn d c false (ap (λ k. d == k) (sym t) ∙ z) ∙ sym (ap (λ b. same_list b (Some d)) nx);
}

-- one that leaves a book
leave_booked : (q : Party) (x : Place) (m : Part) (r : Seen × Part) (y : Place) (c : ℕ) → target_call (act_of q x) ≡ c → is_held_by q r.1.call.writer ≡ false → ((g : Party) → same_party g q ≡ false → is_held_by g r.1.call.writer ≡ is_held_by g m.call.writer) → book_at x ≡ Some c
    → book_at y ≡ None → Booked q x m r y
leave_booked q x m r y c t e o is ny = record {
  own = λ h. e ∙ sym (ap (λ b. same_list b (Some (target_call (act_of q x)))) ny);
  other = o;
  away = λ d z. ap (λ b. same_list b (Some d)) ny ∙ sym (ap (λ b. same_list b (Some d)) is ∙ eqb_turn d c false (ap (λ k. d == k) (sym t) ∙ z));
}

closed_other : (q g : Party) (o : Option Party) → is_open q o ≡ true → same_party g q ≡ false → is_held_by g None ≡ is_held_by g o
closed_other q g o e d = sym (open_other q g o e d)

-- a push leaves the book of a scope, and no other
push_booked : (q : Party) (x : Place) (m : Part) (r : Seen × Part) (y : Place) (b : Option ℕ) → target_call (act_of q x) ≡ or_none b → r.1.call.writer ≡ left_book q b m.call.writer → book_at x ≡ b → book_at y ≡ None → Booked q x m r y
push_booked q x m r y None t e is ny = same_booked q x m r y (ny ∙ sym is) e
push_booked q x m r y (Some c) t e is ny = leave_booked q x m r y c t (ap (is_held_by q) e ∙ left_own q m.call.writer) (λ g d. ap (is_held_by g) e ∙ left_other q g m.call.writer d) is ny

-- a broadcast's
cast_booked : (q : Party) (x : Place) (m : Part) (r : Seen × Part) (y : Place) (k : Count) → target_call (act_of q x) ≡ count_call k → r.1.call.writer ≡ left_book q (count_book k) m.call.writer → book_at x ≡ count_book k → book_at y ≡ None → Booked q x m r y
cast_booked q x m r y (OfPool p) t e is ny = same_booked q x m r y (ny ∙ sym is) e
cast_booked q x m r y (OfScope c o) t e is ny = push_booked q x m r y (Some c) t e is ny
cast_booked q x m r y (OfCast c o) t e is ny = same_booked q x m r y (ny ∙ sym is) e

-- what is known of each act
abbrev pub BookKnown : PoolShape → Party → Part → Place → List Place → Seen × Part → Type 0
BookKnown g q m x fs r = Same x m r × Unless (books_here x) (book_at (Top g q x fs (r.0)) ≡ book_at x)

abbrev pub Books : PoolShape → Party → Part → Place → List Place → Seen × Part → Type 0
Books g q m x fs r = Booked q x m r (Top g q x fs (r.0))

no_book : (o : Option ℕ) → not (has o) ≡ true → o ≡ None
no_book None e = refl
no_book (Some c) e = cc

drawn_book : (b : Option ℕ) (n : Plan) → plan_book n ≡ b → book_at (withdraw b n) ≡ b
drawn_book None n e = refl
drawn_book (Some c) n e = e

job_booked : (h : Shape) (g : PoolShape) (q : Party) (c : Counts) (m : Part) (n : Plan) (v : Bool) (fs : List Place) (z : Bool) → act_of q (PushJob n v) ≡ (if z then PushOwn (plan_job n) (plan_book n) else PushInj (plan_pool n) (plan_job n) (plan_book n))
    → IfSome (effect (if z then PushOwn (plan_job n) (plan_book n) else PushInj (plan_pool n) (plan_job n) (plan_book n)) h q c m) (Books g q m (PushJob n v) fs)
job_booked h g q c m n v fs true e = push_booked q (PushJob n v) m _ (Top g q (PushJob n v) fs Done) (plan_book n) (ap target_call e) refl refl refl
job_booked h g q c m n v fs false e = push_booked q (PushJob n v) m _ (Top g q (PushJob n v) fs Done) (plan_book n) (ap target_call e) refl refl refl

-- what a worker that takes its job back finds
taken_booked : (g : PoolShape) (a b : ℕ) (m : Part) (f : Feeding) (fs : List Place) (o : Option ℕ) → (o ≡ None → ⊥) → IfSome (fifo_back (Worker a b) m (count_book f.count) o) (Books g (Worker a b) m (TakeFromFifo f) fs)
taken_booked g a b m f fs None n = absurd (n refl)
taken_booked g a b m f fs (Some t) n = same_booked (Worker a b) (TakeFromFifo f) m _ (Top g (Worker a b) (TakeFromFifo f) fs (Task (Plain t))) (drawn_book (count_book f.count) (Feed (record f { job = t })) refl) refl

retake_booked : (h : Shape) (g : PoolShape) (a b : ℕ) (c : Counts) (m : Part) (f : Feeding) (fs : List Place) → (last_of (m.seat.fifo (count_book f.count)) ≡ None → ⊥) → IfSome (effect (FifoUndo (count_book f.count)) h (Worker a b) c m) (Books g (Worker a b) m (TakeFromFifo f) fs)
retake_booked h g a b c m f fs n = by (is_open (Worker a b) (m.seat.feeder (count_book f.count)))
  where
    by : (z : Bool) → IfSome (if z then fifo_back (Worker a b) m (count_book f.count) (last_of (m.seat.fifo (count_book f.count))) else None) (Books g (Worker a b) m (TakeFromFifo f) fs)
    by true = taken_booked g a b m f fs (last_of (m.seat.fifo (count_book f.count))) n
    by false = tt

-- where a worker is to take its job back, its list has one
abbrev pub Retakes : Party → Place → Part → Type 0
Retakes (Worker a b) (TakeFromFifo f) m = last_of (m.seat.fifo (count_book f.count)) ≡ None → ⊥
Retakes q _ m = ⊤

-- the pieces of a broadcast that waits are in no book
abbrev pub Deals : Place → Type 0
Deals (DealPieces d) = count_book (d.pieces).count ≡ None
Deals _ = ⊤

pub act_booked : (h : Shape) (g : PoolShape) (q : Party) (c : Counts) (m : Part) (x : Place) (fs : List Place) → is_booked x ≡ true → Retakes q x m → Deals x → IfSome (effect (act_of q x) h q c m) (BookKnown g q m x fs) → IfSome (effect (act_of q x) h q c m) (Books g q m x fs)
act_booked h g (Worker a b) c m (GrowCall n) fs z t d f = same_booked (Worker a b) (GrowCall n) m _ (LookQueue n) (no_book (plan_book n) z) refl
act_booked h g (Caller e) c m (GrowCall n) fs z t d f = same_booked (Caller e) (GrowCall n) m _ (LookQueue n) (no_book (plan_book n) z) refl
act_booked h g (Worker a b) c m (OpenSlot n) fs z t d f = if_cond (Books g (Worker a b) m (OpenSlot n) fs) (is_open (Worker a b) m.call.writer) _ (λ o. take_booked (Worker a b) (OpenSlot n) m _ (after_slot n) (count_call (plan_count n)) refl o refl refl (slot_book n ∙ plan_counts n z))
act_booked h g (Caller e) c m (OpenSlot n) fs z t d f = if_cond (Books g (Caller e) m (OpenSlot n) fs) (is_open (Caller e) m.call.writer) _ (λ o. take_booked (Caller e) (OpenSlot n) m _ (after_slot n) (count_call (plan_count n)) refl o refl refl (slot_book n ∙ plan_counts n z))
act_booked h g (Worker a b) c m (CloseSlot n) fs z t d f = if_cond (Books g (Worker a b) m (CloseSlot n) fs) (is_open (Worker a b) m.call.writer) _
    (λ o. leave_booked (Worker a b) (CloseSlot n) m _ (Top g (Worker a b) (CloseSlot n) fs Done) (count_call (plan_count n)) refl refl (λ s y. closed_other (Worker a b) s m.call.writer o y) (plan_counts n z) refl)
act_booked h g (Caller e) c m (CloseSlot n) fs z t d f = if_cond (Books g (Caller e) m (CloseSlot n) fs) (is_open (Caller e) m.call.writer) _
    (λ o. leave_booked (Caller e) (CloseSlot n) m _ (Top g (Caller e) (CloseSlot n) fs Done) (count_call (plan_count n)) refl refl (λ s y. closed_other (Caller e) s m.call.writer o y) (plan_counts n z) refl)
act_booked h g (Worker a b) c m (OpenForAll k) fs z t d f = if_cond (Books g (Worker a b) m (OpenForAll k) fs) (is_open (Worker a b) m.call.writer) _ (λ o. take_booked (Worker a b) (OpenForAll k) m _ (PushForAll k) (count_call k.count) refl o refl refl (book_count k.count z))
act_booked h g (Caller e) c m (OpenForAll k) fs z t d f = if_cond (Books g (Caller e) m (OpenForAll k) fs) (is_open (Caller e) m.call.writer) _ (λ o. take_booked (Caller e) (OpenForAll k) m _ (PushForAll k) (count_call k.count) refl o refl refl (book_count k.count z))
act_booked h g (Worker a b) c m (CloseForAll k) fs z t d f = if_cond (Books g (Worker a b) m (CloseForAll k) fs) (is_open (Worker a b) m.call.writer) _
    (λ o. leave_booked (Worker a b) (CloseForAll k) m _ (LowerForAll k) (count_call k.count) refl refl (λ s y. closed_other (Worker a b) s m.call.writer o y) (book_count k.count z) refl)
act_booked h g (Caller e) c m (CloseForAll k) fs z t d f = if_cond (Books g (Caller e) m (CloseForAll k) fs) (is_open (Caller e) m.call.writer) _
    (λ o. leave_booked (Caller e) (CloseForAll k) m _ (LowerForAll k) (count_call k.count) refl refl (λ s y. closed_other (Caller e) s m.call.writer o y) (book_count k.count z) refl)
act_booked h g (Worker a b) c m (PushJob n v) fs z t d f = job_booked h g (Worker a b) c m n v fs (is_member (Worker a b) (plan_pool n)) refl
act_booked h g (Caller e) c m (PushJob n v) fs z t d f = job_booked h g (Caller e) c m n v fs (is_member (Caller e) (plan_pool n)) refl
act_booked h g (Worker a b) c m (PushToken k v) fs z t d f = push_booked (Worker a b) (PushToken k v) m _ (Top g (Worker a b) (PushToken k v) fs Done) (count_book k.count) refl refl refl refl
act_booked h g (Caller e) c m (PushToken k v) fs z t d f = tt
act_booked h g (Worker a b) c m (TakeFromFifo k) fs z t d f = retake_booked h g a b c m k fs t
act_booked h g (Caller e) c m (TakeFromFifo k) fs z t d f = tt
act_booked h g (Worker a b) c m (PushForAll k) fs z t d f = cast_booked (Worker a b) (PushForAll k) m _ (Top g (Worker a b) (PushForAll k) fs Done) k.count refl refl refl refl
act_booked h g (Caller e) c m (PushForAll k) fs z t d f = cast_booked (Caller e) (PushForAll k) m _ (Top g (Caller e) (PushForAll k) fs Done) k.count refl refl refl refl
act_booked h g (Worker a b) c m (DealPieces k) fs z t d f = same_booked (Worker a b) (DealPieces k) m _ (Top g (Worker a b) (DealPieces k) fs Done) refl (ap (λ n. left_book (Worker a b) n m.call.writer) d)
act_booked h g (Caller e) c m (DealPieces k) fs z t d f = same_booked (Caller e) (DealPieces k) m _ (Top g (Caller e) (DealPieces k) fs Done) refl (ap (λ n. left_book (Caller e) n m.call.writer) d)
act_booked h g q c m x fs z t d f = if_some_map (BookKnown g q m x fs) (Books g q m x fs) (λ r k. same_booked q x m r (Top g q x fs (r.0)) (k.1) ((k.0).1)) (effect (act_of q x) h q c m) f
