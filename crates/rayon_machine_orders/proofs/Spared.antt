-- what each act leaves as it was: the deque, the call and the job that it touches, over the acts alone
use Rattle.rayon_machine_places.specs.declared.place.Taken.{Taken}
use Rattle.rayon_machine_orders.proofs.Words.{Plain, Token, arith, refl, sym, ◌∙◌, ℕ, Bool, true, false, ◌≤◌, if◌then◌else◌, Some, None, List, ◌∷◌, ◌≡◌, IfSome, Option, Party, Act, LookOwn, LookInj, PopOwn, Steal, PopInj, Set, Lock, Begin, PushInj, PushOwn, FifoIn, FifoUndo, FifoOut, Lower}
use Rattle.rayon_machine_orders.proofs.Words.{PushCast, PutSlot, Take, Idle, Seen, Ending, Latch, Terminate, OfCall, Shape, Counts, Part, Seat, Pool, effect, found, letter, popped, take_cast, pop_injector, fifo_back, left_book, count_book, is_member, Done, Refused, Yes, No, Count, Call, Letter}
use Rattle.rayon_machine_orders.proofs.Words.{IsSet, Whereabouts, Running, Retaken, Over, Slot as SlotState, Filled, [], Injected, InDeque, InFifo, own_pool, own_index, filled, IsOpen, Closed, own_left, own_of, but_first, head_of, last_of, is_open, count_in, not, ◌&&◌, ◌==◌}
use Rattle.rayon_machine_places.specs.declared.act.Act.TheVariants.{TakeCast, Sleepy, Asleep, Wakeup, Unlock, TryAdd, Wake, LockSet, LockWait, Raise, LowerAll, RaiseAll, Slot, SlotUndo, SlotAll, SlotUndoAll, StoreBody as PutBody, StorePiece as PutPiece, Grow, Store}
use Rattle.rayon_machine_runs.specs.World.{with_letter, fifo_first, lock_wait, is_free_lock, is_held_by, jec}
use Rattle.rayon_machine_places.specs.Targets.{is_own}
use Rattle.rayon_machine_places.specs.Places.{look_act, push_act, begin_act}
use Rattle.rayon_machine_places.specs.declared.act.Seen.TheVariants.{Missing}
use Rattle.rayon_machine_laws.proofs.Letters.{sleepy_keeps, asleep_keeps, wake_keeps, set_keeps}
use Rattle.rayon_machine_laws.proofs.Frame.{if_cond}

-- the acts that take from a deque or push into one
abbrev pub moves_own : Act → Bool
moves_own PopOwn = true
moves_own (Steal p v) = true
moves_own (PushOwn t b) = true
moves_own _ = false

-- the acts that store a fault, write a cell, and fill a number of a book
abbrev pub stores_fault : Act → Bool
stores_fault (PutBody k e) = true
stores_fault (PutSlot k t e) = true
stores_fault (PutPiece k t e) = true
stores_fault _ = false

abbrev pub puts_cell : Act → Bool
puts_cell (Grow k) = true
puts_cell (Store k e) = true
puts_cell (Take k) = true
puts_cell (PutBody k e) = true
puts_cell (PutPiece k t e) = true
puts_cell _ = false

abbrev pub fills_slot : Act → Bool
fills_slot (PutSlot k t e) = true
fills_slot (PutPiece k t e) = true
fills_slot _ = false

-- the acts that write a book, or leave one
abbrev pub is_of_book : Option ℕ → Bool
is_of_book None = false
is_of_book (Some c) = true

abbrev pub books : Act → Bool
books (Slot k t) = true
books (SlotUndo k t) = true
books (SlotAll b) = true
books (SlotUndoAll b) = true
books (PutSlot k t e) = true
books (PutPiece k t e) = true
books (PushOwn t b) = is_of_book b
books (PushInj p t b) = is_of_book b
books (PushCast b) = is_of_book (count_book b.count)
books _ = false

-- a number is filled
abbrev pub fills : SlotState → ℕ
fills (Filled n) = 1
fills _ = 0

-- what any other act leaves as it was, and what each act leaves
pub record Spared (a : Act) (m : Part) (r : Seen × Part) : Type 0 where
  pub own : moves_own a ≡ false → r.1.seat.own ≡ m.seat.own
  pub fault : stores_fault a ≡ false → r.1.call.fault ≡ m.call.fault
  pub cell : puts_cell a ≡ false → r.1.call.cell ≡ m.call.cell
  pub slot : books a ≡ false → r.1.job.slot ≡ m.job.slot
  pub writer : books a ≡ false → r.1.call.writer ≡ m.call.writer
  pub slots : books a ≡ false → r.1.call.slots ≡ m.call.slots
  pub fills : fills_slot a ≡ false → fills r.1.job.slot ≤ fills m.job.slot
  pub runs : m.job.runs ≤ r.1.job.runs
  pub ends : (e : Ending) → r.1.job.at ≡ Over e → m.job.at ≡ Over e

-- the seat and the pool alone are others
aside : (a : Act) (m : Part) (e : Seen) (s : Seat) (v : Pool) → s.own ≡ m.seat.own → Spared a m (e, record m { seat = s; pool = v })
aside a m e s v o = record { own = λ z. o; fault = λ z. refl; cell = λ z. refl; slot = λ z. refl; writer = λ z. refl; slots = λ z. refl; fills = λ z. omega arith; runs = omega arith; ends = λ d y. y }

-- the job is elsewhere, and its run may begin
moved : (a : Act) (m : Part) (e : Seen) (s : Seat) (v : Pool) (k : Option Party) (x : Whereabouts) (n : ℕ) → (moves_own a ≡ false → s.own ≡ m.seat.own) → (books a ≡ false → k ≡ m.call.writer) → m.job.runs ≤ n → ((d : Ending) → x ≡ Over d → m.job.at ≡ Over d)
    → Spared a m (e, record m { seat = s; pool = v; call = record (m.call) { writer = k }; job = record (m.job) { at = x; runs = n } })
moved a m e s v k x n o b r d = record { own = o; fault = λ z. refl; cell = λ z. refl; slot = λ z. refl; writer = b; slots = λ z. refl; fills = λ z. omega arith; runs = r; ends = d }

-- the call is another, but for its book, its cell and its fault; and shares may be others
called : (a : Act) (m : Part) (e : Seen) (v : Pool) (l : Letter) (n u : ℕ) (b d : Bool) → Spared a m (e, record m { pool = v; call = record (m.call) { latch = l; count = n; counted = b; undealt = u }; job = record (m.job) { counted = d } })
called a m e v l n u b d = record { own = λ z. refl; fault = λ z. refl; cell = λ z. refl; slot = λ z. refl; writer = λ z. refl; slots = λ z. refl; fills = λ z. omega arith; runs = omega arith; ends = λ d y. y }

-- a book or a cell is another
booked : (a : Act) (m : Part) (e : Seen) (k : Call) (s : SlotState) → (books a ≡ false → (s ≡ m.job.slot) × (k.writer ≡ m.call.writer) × (k.slots ≡ m.call.slots)) → (stores_fault a ≡ false → k.fault ≡ m.call.fault) → (puts_cell a ≡ false → k.cell ≡ m.call.cell)
    → (fills_slot a ≡ false → fills s ≤ fills m.job.slot) → Spared a m (e, record m { call = k; job = record (m.job) { slot = s } })
booked a m e k s b f c g = record { own = λ z. refl; fault = f; cell = c; slot = λ z. (b z).0; writer = λ z. (b z).1; slots = λ z. (b z).2; fills = g; runs = omega arith; ends = λ d y. y }

none : {A : Type 0} → true ≡ false → A
none e = absurd (let z : true ≡ false = e in cc)

letter_spared : (l : Latch) (a : Act) (m : Part) (e : Seen) (y : Letter) → Spared a m (e, with_letter l m y)
letter_spared Terminate a m e y = aside a m e _ _ refl
letter_spared (OfCall c) a m e y = called a m e _ _ _ _ _ _

either_spared : (a : Act) (m : Part) (b : Bool) (x y : Seen × Part) → Spared a m x → Spared a m y → IfSome {T = Seen × Part} (if b then Some x else Some y) (Spared a m)
either_spared a m true x y s t = s
either_spared a m false x y s t = t

popped_spared : (a : Act) (q : Party) (m : Part) (l : List ℕ) (o : Option ℕ) → moves_own a ≡ true → IfSome (popped q m l o) (Spared a m)
popped_spared a q m l None z = aside a m Missing _ _ refl
popped_spared a q m l (Some t) z = moved a m _ _ _ _ (Running q) _ (λ n. absurd (let y : true ≡ false = sym z ∙ n in cc)) (λ n. refl) (omega arith) (λ d y. cc)

cast_spared : (q : Party) (m : Part) (l : List ℕ) → IfSome (take_cast q m l) (Spared TakeCast m)
cast_spared q m [] = aside TakeCast m Missing _ _ refl
cast_spared q m (t ∷ ts) = moved TakeCast m _ _ _ _ (Running q) _ (λ n. refl) (λ n. refl) (omega arith) (λ d y. cc)

inject_spared : (q : Party) (m : Part) (l : List ℕ) → IfSome (pop_injector q m l) (Spared PopInj m)
inject_spared q m [] = aside PopInj m Missing _ _ refl
inject_spared q m (t ∷ ts) = moved PopInj m _ _ _ _ (Running q) _ (λ n. refl) (λ n. refl) (omega arith) (λ d y. cc)

back_spared : (a : Act) (q : Party) (m : Part) (b o : Option ℕ) → IfSome (fifo_back q m b o) (Spared a m)
back_spared a q m b None = aside a m Missing _ _ refl
back_spared a q m b (Some t) = moved a m _ _ _ _ (Retaken q) _ (λ n. refl) (λ n. refl) (omega arith) (λ d y. cc)

first_spared : (a : Act) (q : Party) (m : Part) (b : Option ℕ) (l : List ℕ) → IfSome (fifo_first q m b l) (Spared a m)
first_spared a q m b [] = aside a m Missing _ _ refl
first_spared a q m b (t ∷ ts) = moved a m _ _ _ _ (Running q) _ (λ n. refl) (λ n. refl) (omega arith) (λ d y. cc)

open_spared : (a : Act) (m : Part) (b : Bool) (o : Option (Seen × Part)) → IfSome o (Spared a m) → IfSome (if b then o else None) (Spared a m)
open_spared a m true o s = s
open_spared a m false o s = tt

found_spared : (k : ℕ) (m : Part) (o : Option Ending) → IfSome (found m o) (Spared (Take k) m)
found_spared k m None = aside (Take k) m Missing _ _ refl
found_spared k m (Some e) = booked (Take k) m _ _ m.job.slot (λ z. (refl, refl, refl)) (λ z. refl) none (λ z. omega arith)

wait_spared : (k : ℕ) (m : Part) (l : Letter) → IfSome (lock_wait m l) (Spared (LockWait k) m)
wait_spared k m IsSet = aside (LockWait k) m Done _ _ refl
wait_spared k m _ = tt

left_spared : (q : Party) (b : Option ℕ) (r : Option Party) → is_of_book b ≡ false → left_book q b r ≡ r
left_spared q None r z = refl
left_spared q (Some c) r z = cc

cast_left : (q : Party) (k : Count) (r : Option Party) → is_of_book (count_book k) ≡ false → left_book q (count_book k) r ≡ r
cast_left q k r z = left_spared q (count_book k) r z

pub act_spared : (a : Act) (h : Shape) (q : Party) (c : Counts) (m : Part) → IfSome (effect a h q c m) (Spared a m)
act_spared PopOwn h q c m = popped_spared PopOwn q m (own_left (h.pool (own_pool q)).order m.seat.own) (own_of (h.pool (own_pool q)).order m.seat.own) refl
act_spared (Steal p v) h q c m = popped_spared (Steal p v) q m (but_first m.seat.own) (head_of m.seat.own) refl
act_spared TakeCast h q c m = cast_spared q m (m.pool.casts (own_index q))
act_spared PopInj h q c m = inject_spared q m m.pool.injector
act_spared (Sleepy l) h q c m = sleepy_keeps l (Spared (Sleepy l)) (λ v e. aside (Sleepy l) v e _ _ refl) (λ v e y n. letter_spared l (Sleepy l) v e y) m (letter l m)
act_spared (Asleep l) h q c m = asleep_keeps l (Spared (Asleep l)) (λ v e. aside (Asleep l) v e _ _ refl) (λ v e y n. letter_spared l (Asleep l) v e y) m (letter l m)
act_spared (Wakeup l) h q c m = wake_keeps l (Spared (Wakeup l)) (λ v e. aside (Wakeup l) v e _ _ refl) (λ v e y n. letter_spared l (Wakeup l) v e y) m (letter l m)
act_spared (Set l p i) h q c m = set_keeps l (Spared (Set l p i)) (λ v e. letter_spared l (Set l p i) v e IsSet) m (letter l m)
act_spared (Lock p i) h q c m = if_cond (Spared (Lock p i) m) (is_free_lock m.seat.lock && not (is_own q p i && m.seat.blocked)) _ (λ o. aside (Lock p i) m Done _ _ refl)
act_spared (Unlock p i) h q c m = if_cond (Spared (Unlock p i) m) (is_held_by q m.seat.lock) _ (λ o. aside (Unlock p i) m Done _ _ refl)
act_spared (TryAdd i j k) h q c m = either_spared (TryAdd i j k) m ((i == c.sleeping) && (j == c.inactive) && (k == jec h m.pool.turn)) _ _ (aside (TryAdd i j k) m Done _ _ refl) (aside (TryAdd i j k) m Refused _ _ refl)
act_spared (Wake p i) h q c m = either_spared (Wake p i) m m.seat.blocked _ _ (aside (Wake p i) m Yes _ _ refl) (aside (Wake p i) m No _ _ refl)
act_spared (Begin t) h q c m = moved (Begin t) m _ _ _ _ (Running q) _ (λ n. refl) (λ n. refl) (omega arith) (λ d y. cc)
act_spared (PushInj p t b) h q c m = moved (PushInj p t b) m Done _ _ _ (Injected p) m.job.runs (λ n. refl) (left_spared q b m.call.writer) (omega arith) (λ d y. cc)
act_spared (PushOwn t b) h q c m = moved (PushOwn t b) m Done _ _ _ (InDeque (own_pool q) (own_index q)) m.job.runs (λ n. cc) (left_spared q b m.call.writer) (omega arith) (λ d y. cc)
act_spared (FifoIn t b) h q c m = if_cond (Spared (FifoIn t b) m) (is_open q (m.seat.feeder b)) _ (λ o. moved (FifoIn t b) m Done _ _ _ (InFifo (own_pool q) (own_index q) b) m.job.runs (λ n. refl) (λ n. refl) (omega arith) (λ d y. cc))
act_spared (FifoUndo b) h q c m = open_spared (FifoUndo b) m (is_open q (m.seat.feeder b)) (fifo_back q m b (last_of (m.seat.fifo b))) (back_spared (FifoUndo b) q m b (last_of (m.seat.fifo b)))
act_spared (FifoOut k i b) h q c m = open_spared (FifoOut k i b) m (is_open q (m.seat.feeder b)) (fifo_first q m b (m.seat.fifo b)) (first_spared (FifoOut k i b) q m b (m.seat.fifo b))
act_spared (LockSet k) h q c m = called (LockSet k) m Done _ _ _ _ _ _
act_spared (LockWait k) h q c m = wait_spared k m m.call.latch
act_spared (Lower k s) h q c m = called (Lower k s) m _ _ _ _ _ _ _
act_spared (Raise k t) h q c m = either_spared (Raise k t) m (count_in m k == 0) _ _ (aside (Raise k t) m Refused _ _ refl) (called (Raise k t) m Done _ _ _ _ _ _)
act_spared (LowerAll b) h q c m = called (LowerAll b) m _ _ _ _ _ _ _
act_spared (RaiseAll b) h q c m = either_spared (RaiseAll b) m (count_in m b.count == 0) _ _ (aside (RaiseAll b) m Refused _ _ refl) (called (RaiseAll b) m Done _ _ _ _ _ _)
act_spared (PushCast b) h q c m = record { own = λ z. refl; fault = λ z. refl; cell = λ z. refl; slot = λ z. refl; writer = cast_left q b.count m.call.writer; slots = λ z. refl; fills = λ z. omega arith; runs = omega arith; ends = λ d y. y }
act_spared (Slot k t) h q c m = if_cond (Spared (Slot k t) m) (is_open q m.call.writer) _ (λ o. booked (Slot k t) m Done _ (IsOpen m.call.slots) none (λ z. refl) (λ z. refl) (λ z. omega arith))
act_spared (SlotUndo k t) h q c m = if_cond (Spared (SlotUndo k t) m) (is_open q m.call.writer) _ (λ o. booked (SlotUndo k t) m Done _ Closed none (λ z. refl) (λ z. refl) (λ z. omega arith))
act_spared (SlotAll b) h q c m = if_cond (Spared (SlotAll b) m) (is_open q m.call.writer) _ (λ o. booked (SlotAll b) m _ _ m.job.slot none (λ z. refl) (λ z. refl) (λ z. omega arith))
act_spared (SlotUndoAll b) h q c m = if_cond (Spared (SlotUndoAll b) m) (is_open q m.call.writer) _ (λ o. booked (SlotUndoAll b) m Done _ m.job.slot none (λ z. refl) (λ z. refl) (λ z. omega arith))
act_spared (PutBody k e) h q c m = if_cond (Spared (PutBody k e) m) (is_open q m.call.writer) _ (λ o. booked (PutBody k e) m Done _ m.job.slot (λ z. (refl, refl, refl)) none none (λ z. omega arith))
act_spared (PutSlot k t e) h q c m = if_cond (Spared (PutSlot k t e) m) (is_open q m.call.writer) _ (λ o. booked (PutSlot k t e) m Done _ (filled m.job.slot) none none (λ z. refl) none)
act_spared (PutPiece k t e) h q c m = booked (PutPiece k t e) m Done _ (filled m.job.slot) none none none none
act_spared (Grow k) h q c m = booked (Grow k) m Done _ m.job.slot (λ z. (refl, refl, refl)) (λ z. refl) none (λ z. omega arith)
act_spared (Store k e) h q c m = booked (Store k e) m Done _ m.job.slot (λ z. (refl, refl, refl)) (λ z. refl) none (λ z. omega arith)
act_spared (Take k) h q c m = found_spared k m m.call.cell
act_spared Idle h q c m = tt
act_spared _ h q c m = aside _ m _ _ _ refl

-- the acts of a place that has one of two: a look, a push and a begin
pub looks : (f : Act → Bool) (q : Party) (p : ℕ) → f LookOwn ≡ false → f (LookInj p) ≡ false → f (look_act q p) ≡ false
looks f q p x y = by (is_member q p)
  where
    by : (b : Bool) → f (if b then LookOwn else LookInj p) ≡ false
    by true = x
    by false = y

pub pushes : (f : Act → Bool) (q : Party) (p t : ℕ) (b : Option ℕ) → f (PushOwn t b) ≡ false → f (PushInj p t b) ≡ false → f (push_act q p t b) ≡ false
pushes f q p t b x y = by (is_member q p)
  where
    by : (z : Bool) → f (if z then PushOwn t b else PushInj p t b) ≡ false
    by true = x
    by false = y

pub begins : (f : Act → Bool) (t : Taken) → ((n : ℕ) → f (Begin n) ≡ false) → ((k i : ℕ) (b : Option ℕ) → f (FifoOut k i b) ≡ false) → f (begin_act t) ≡ false
begins f (Plain n) x y = x n
begins f (Token k i b) x y = y k i b
