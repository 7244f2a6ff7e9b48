-- what a place says of letters, sleep locks and books, and of the bottom of its party's stack, and what each act and
-- move leaves of it
use Rattle.std.proofs.Common.{rules, arith, refl, ◌∙◌, sym, ap}
use Rattle.std.specs.Prelude.{ℕ, Bool, true, false, not, ◌&&◌, ◌+◌, nat_lt, if◌then◌else◌, Option, Some, None, ◌≡◌, IfSome, ⊤}
use Rattle.rayon_machine_places.specs.declared.place.Party.{Party}
use Rattle.rayon_machine_places.specs.declared.place.Party.TheVariants.{Worker, Caller}
use Rattle.rayon_machine_places.specs.declared.place.JobKind.TheVariants.{Direct}
use Rattle.rayon_machine_places.specs.declared.place.Target.{Target}
use Rattle.rayon_machine_places.specs.declared.place.Target.TheVariants.{Termination, Answer}
use Rattle.rayon_machine_places.specs.declared.place.Latch.{Latch}
use Rattle.rayon_machine_places.specs.declared.place.Latch.TheVariants.{Terminate, OfCall}
use Rattle.rayon_machine_places.specs.declared.place.Rounds.{Rounds}
use Rattle.rayon_machine_places.specs.declared.place.Rounds.TheVariants.{Failed, Announced}
use Rattle.rayon_machine_places.specs.declared.place.Plan.{Plan}
use Rattle.rayon_machine_places.specs.declared.place.Plan.TheVariants.{Detach, Here, Send, Fork, Feed, Open, Enter, Gather}
use Rattle.rayon_machine_places.specs.declared.place.Count.{Count}
use Rattle.rayon_machine_places.specs.declared.place.Count.TheVariants.{OfPool, OfScope, OfCast}
use Rattle.rayon_machine_places.specs.declared.place.Share.{Share}
use Rattle.rayon_machine_places.specs.declared.place.Taken.{Taken}
use Rattle.rayon_machine_places.specs.declared.place.Taken.TheVariants.{Plain, Token}
use Rattle.rayon_machine_places.specs.declared.place.Then.{Then}
use Rattle.rayon_machine_places.specs.declared.place.Then.TheVariants.{BeginFound, LeaveWait, Resume, Await, RunFirst, Answers, Missing as NoResult, Ran, GiveBack, Called, Gathers}
use Rattle.rayon_machine_places.specs.declared.place.Place.{Place}
use Rattle.rayon_machine_places.specs.declared.place.Place.TheVariants.{ProbeWorking, PopWorking, TakeCastWorking, BecomeInactive, ProbeIdle, PopIdle, TakeCastIdle, PickVictim, StealFrom, PopInjected, AnnounceSelf, GetSleepy, LockOwn, FallAsleep, LoadCounters, AddSleeping, LookAtCast, LookAtInjector, BlockSelf, RelockOwn, UndoSleeping, WakeUp, UnlockOwn, LeaveSearch, JoinProbe, BeginTask, Run, RaiseCount, GrowCall, OpenSlot, CloseSlot, PushJob, AddToFifo, PushToken, TakeFromFifo, RaiseForAll, OpenForAll, PushForAll, CloseForAll, LowerForAll, TellNews, LockToWake, WakeWorker, UnlockWoken, WaitForLock, TakeResult, LowerCount, StoreResult, SetLatch, LockToSettle, WakeSettled, UnlockSettled, SetLockLatch, FirstSide, SecondSide, ScopeBody, AtOnce, Free, Stopped}
use Rattle.rayon_machine_places.specs.declared.place.Mark.TheVariants.{Counted, Returned}
use Rattle.rayon_machine_places.specs.declared.place.Move.{Move}
use Rattle.rayon_machine_places.specs.declared.place.Move.TheVariants.{Stay, Enter, StartRun, Back, HandBack, Discard, HandIn, Mark, HandAllBack}
use Rattle.rayon_machine_places.specs.declared.act.Seen.{Seen}
use Rattle.rayon_machine_places.specs.declared.act.Seen.TheVariants.{Done, Yes, Task, Wakes, Begun, Handed}
use Rattle.rayon_machine_runs.specs.declared.state.Letter.TheVariants.{Unset}
use Rattle.rayon_machine_places.specs.declared.shape.PoolShape.{PoolShape}
use Rattle.rayon_machine_places.specs.declared.place.Feeding.{Feeding}
use Rattle.rayon_machine_places.specs.declared.place.Pieces.{Pieces}
use Rattle.rayon_machine_places.specs.declared.place.Wait.{Wait}
use Rattle.rayon_machine_places.specs.declared.place.Settling.{Settling}
use Rattle.rayon_machine_places.specs.Places.{own_pool, plan_pool, plan_book, count_book, latch_of, after_news, after_wait, finish, walk, settle, after_set, after_found, act_of, after_failure, next_of, taken_number, undo, withdraw, begin_feed, after_slot, begin_cast, end_cast, ends_count, set_call, after_begin, fresh}
use Rattle.rayon_machine_runs.specs.World.{Shape, Part, effect}
use Rattle.rayon_machine_places.specs.Sleepers.{Counts}
use Rattle.rayon_machine_laws.specs.Letters.{letter_for}
use Rattle.rayon_machine_laws.specs.Holders.{locks_at, book_at}
use Rattle.rayon_machine_laws.proofs.Frame.{if_some_all}

-- a wait for the end of the pool
abbrev pub is_last : Target → Bool
is_last Termination = true
is_last (Answer o f) = false

abbrev pub last_then : Then → Bool
last_then (BeginFound g t) = is_last g
last_then (LeaveWait g) = is_last g
last_then _ = false

-- what stands at the bottom of a stack: a wait for the end of the pool, or the place where a party is free or has stopped
abbrev pub is_base : Place → Bool
is_base (ProbeWorking k) = is_last k.target
is_base (PopWorking k) = is_last k.target
is_base (TakeCastWorking k) = is_last k.target
is_base (BecomeInactive k) = is_last k.target
is_base (ProbeIdle k) = is_last k.target
is_base (PopIdle k) = is_last k.target
is_base (TakeCastIdle k) = is_last k.target
is_base (PickVictim k) = is_last k.target
is_base (StealFrom k n) = is_last k.target
is_base (PopInjected k) = is_last k.target
is_base (AnnounceSelf k) = is_last k.target
is_base (GetSleepy k) = is_last k.target
is_base (LockOwn k) = is_last k.target
is_base (FallAsleep k) = is_last k.target
is_base (LoadCounters k) = is_last k.target
is_base (AddSleeping k) = is_last k.target
is_base (LookAtCast k) = is_last k.target
is_base (LookAtInjector k) = is_last k.target
is_base (BlockSelf k) = is_last k.target
is_base (RelockOwn k) = is_last k.target
is_base (UndoSleeping k) = is_last k.target
is_base (WakeUp k) = is_last k.target
is_base (UnlockOwn k) = is_last k.target
is_base (LeaveSearch k) = is_last k.target
is_base (LockToWake k) = last_then k.then
is_base (WakeWorker k) = last_then k.then
is_base (UnlockWoken k) = last_then k.then
is_base (LowerCount k s n) = last_then n
is_base (SetLatch s) = last_then s.then
is_base (LockToSettle s) = last_then s.then
is_base (WakeSettled s) = last_then s.then
is_base (UnlockSettled s) = last_then s.then
is_base (SetLockLatch c n) = last_then n
is_base Free = true
is_base Stopped = true
is_base _ = false

-- a frame that a party goes back to, and does not stop there
abbrev pub is_live : Place → Bool
is_live (ProbeWorking k) = true
is_live (JoinProbe o) = true
is_live (FirstSide o a) = true
is_live (SecondSide o) = true
is_live (ScopeBody o) = true
is_live (AtOnce p t) = true
is_live (Run t k) = true
is_live Free = true
is_live _ = false

-- the latch that is set where a party stands here
abbrev pub found_latch : Target → Option Taken → Option Latch
found_latch g None = Some (latch_of g)
found_latch g (Some t) = None

abbrev pub then_latch : Then → Option Latch
then_latch (LeaveWait g) = Some (latch_of g)
then_latch _ = None

abbrev pub set_at : Place → Option Latch
set_at (LeaveSearch k) = found_latch k.target k.found
set_at (LockToWake k) = then_latch k.then
set_at (WakeWorker k) = then_latch k.then
set_at (UnlockWoken k) = then_latch k.then
set_at (LowerCount k s n) = then_latch n
set_at (SetLatch s) = then_latch s.then
set_at (LockToSettle s) = then_latch s.then
set_at (WakeSettled s) = then_latch s.then
set_at (UnlockSettled s) = then_latch s.then
set_at (SetLockLatch c n) = then_latch n
set_at Stopped = Some Terminate
set_at _ = None

abbrev pub has : Option ℕ → Bool
has None = false
has (Some c) = true

-- a number of a book is opened and taken back only where there is a book, and a call's cell is made where there is none
abbrev pub is_booked : Place → Bool
is_booked (GrowCall n) = not (has (plan_book n))
is_booked (OpenSlot n) = has (plan_book n)
is_booked (CloseSlot n) = has (plan_book n)
is_booked (OpenForAll c) = has (count_book c.count)
is_booked (CloseForAll c) = has (count_book c.count)
is_booked _ = true

-- the places where a worker writes a letter, learns of one, takes or leaves a lock, and takes or leaves a book
abbrev pub letters_here : Place → Bool
letters_here (GetSleepy k) = true
letters_here (FallAsleep k) = true
letters_here (WakeUp k) = true
letters_here _ = false

abbrev pub probes_here : Place → Bool
probes_here (ProbeWorking k) = true
probes_here (ProbeIdle k) = true
probes_here _ = false

abbrev pub locks_here : Place → Bool
locks_here (LockOwn k) = true
locks_here (BlockSelf k) = true
locks_here (RelockOwn k) = true
locks_here (UnlockOwn k) = true
locks_here (LockToWake k) = true
locks_here (UnlockWoken k) = true
locks_here (LockToSettle s) = true
locks_here (UnlockSettled s) = true
locks_here _ = false

abbrev pub books_here : Place → Bool
books_here (GrowCall n) = true
books_here (OpenSlot n) = true
books_here (CloseSlot n) = true
books_here (PushJob n e) = true
books_here (PushToken f e) = true
books_here (TakeFromFifo f) = true
books_here (OpenForAll c) = true
books_here (PushForAll c) = true
books_here (CloseForAll c) = true
books_here _ = false

-- nothing is said there
abbrev pub Unless : Bool → Type 0 → Type 0
Unless true A = ⊤
Unless false A = A

unless_is : (b : Bool) {A : Type 0} → A → Unless b A
unless_is true a = tt
unless_is false a = a

unless_map : (b : Bool) (A B : Type 0) → (A → B) → Unless b A → Unless b B
unless_map true A B f u = tt
unless_map false A B f u = f u

-- from one place to another: the same letters, locks and books, but where they are written, taken or left; and no other
-- latch is said to be set
abbrev pub Letters : Place → Place → Type 0
Letters x y = (l : Latch) → letter_for l y ≡ letter_for l x

abbrev pub Saids : Place → Place → Type 0
Saids x y = (l : Latch) → set_at y ≡ Some l → set_at x ≡ Some l

abbrev pub Locking : Place → Place → Type 0
Locking x y = (q : Party) (p i : ℕ) → locks_at q y p i ≡ locks_at q x p i

abbrev pub Passes : Place → Place → Type 0
Passes x y = Unless (letters_here x) (Letters x y) × Unless (probes_here x) (Saids x y) × Unless (locks_here x) (Locking x y) × Unless (books_here x) (book_at y ≡ book_at x) × (is_booked y ≡ true)

-- and of a whole move; any frame to which it leads back is as one where a party is free
abbrev pub Steers : Place → Move → Type 0
Steers x (Stay y) = Passes x y × (is_base x ≡ true → is_base y ≡ true)
Steers x (HandIn y k) = Passes x y × (is_base x ≡ true → is_base y ≡ true)
Steers x (Mark y b m) = Passes x y × (is_base x ≡ true → is_base y ≡ true)
Steers x (Enter f y) = Passes x y × (is_live f ≡ true) × (is_base x ≡ true → is_base f ≡ true)
Steers x (StartRun f t) = Passes x (Run t Direct) × (is_live f ≡ true) × (is_base x ≡ true → is_base f ≡ true)
Steers x Back = Passes x Free × (is_base x ≡ false)
Steers x (HandBack n) = Passes x Free × (is_base x ≡ false)
Steers x (Discard k) = Passes x Free × (is_base x ≡ false)
Steers x (HandAllBack b) = Passes x Free × (is_base x ≡ false)

-- a place without any of that
abbrev pub Mild : Place → Type 0
Mild y = ((l : Latch) → letter_for l y ≡ Unset) × (set_at y ≡ None) × ((q : Party) (p i : ℕ) → locks_at q y p i ≡ false) × (book_at y ≡ None) × (is_booked y ≡ true)

-- one that has none, unless it is left there
abbrev Clear : Place → Type 0
Clear x = Unless (letters_here x) ((l : Latch) → letter_for l x ≡ Unset) × Unless (locks_here x) ((q : Party) (p i : ℕ) → locks_at q x p i ≡ false) × Unless (books_here x) (book_at x ≡ None)

no_latch : (o : Option Latch) (l : Latch) → o ≡ None → o ≡ Some l → ⊥
no_latch o l n s = let z : Some l ≡ None = sym s ∙ n in cc

mild_passes : (x y : Place) → Clear x → Mild y → Passes x y
mild_passes x y a m = (
  unless_map (letters_here x) ((l : Latch) → letter_for l x ≡ Unset) (Letters x y) (λ f l. m.0 l ∙ sym (f l)) (a.0),
  unless_is (probes_here x) (λ l s. absurd (no_latch (set_at y) l (m.1) s)),
  unless_map (locks_here x) ((q : Party) (p i : ℕ) → locks_at q x p i ≡ false) (Locking x y) (λ f q p i. m.2 q p i ∙ sym (f q p i)) (a.1),
  unless_map (books_here x) (book_at x ≡ None) (book_at y ≡ book_at x) (λ f. m.3 ∙ sym f) (a.2),
  m.4,
)

-- a place that says of a latch what another does
said_passes : (x y : Place) → Clear x → ((l : Latch) → letter_for l y ≡ Unset) → ((q : Party) (p i : ℕ) → locks_at q y p i ≡ false) → book_at y ≡ None → is_booked y ≡ true → set_at x ≡ set_at y → Passes x y
said_passes x y a ls ks b d e = (
  unless_map (letters_here x) ((l : Latch) → letter_for l x ≡ Unset) (Letters x y) (λ f l. ls l ∙ sym (f l)) (a.0),
  unless_is (probes_here x) (λ l s. e ∙ s),
  unless_map (locks_here x) ((q : Party) (p i : ℕ) → locks_at q x p i ≡ false) (Locking x y) (λ f q p i. ks q p i ∙ sym (f q p i)) (a.1),
  unless_map (books_here x) (book_at x ≡ None) (book_at y ≡ book_at x) (λ f. b ∙ sym f) (a.2),
  d,
)

no_base : (x : Place) (b : Bool) {A : Type 0} → is_base x ≡ false → is_base x ≡ true → A
no_base x b f t = absurd (let z : true ≡ false = sym t ∙ f in cc)

-- what follows once others are woken or latches are set
finish_steers : (x : Place) (q : Party) (t : Then) → Clear x → set_at x ≡ then_latch t → is_base x ≡ last_then t → Steers x (finish q t)
finish_steers x q (BeginFound g u) a m b = (mild_passes x (BeginTask u) a (λ l. refl, refl, λ r p i. refl, refl, refl), refl, λ z. sym b ∙ z)
finish_steers x q (LeaveWait Termination) a m b = (said_passes x Stopped a (λ l. refl) (λ r p i. refl) refl refl m, λ z. refl)
finish_steers x q (LeaveWait (Answer o f)) a m b = (mild_passes x (TakeResult o f) a (λ l. refl, refl, λ r p i. refl, refl, refl), λ z. no_base x true b z)
finish_steers x (Worker r j) (Await o) a m b = (mild_passes x (ProbeWorking (fresh (Answer o None))) a (λ l. refl, refl, λ r p i. refl, refl, refl), λ z. no_base x true b z)
finish_steers x (Caller n) (Await o) a m b = (mild_passes x (WaitForLock o) a (λ l. refl, refl, λ r p i. refl, refl, refl), λ z. no_base x true b z)
finish_steers x (Worker r j) (Gathers o) a m b = (mild_passes x (ProbeWorking (fresh (Answer o None))) a (λ l. refl, refl, λ r p i. refl, refl, refl), λ z. no_base x true b z)
finish_steers x (Caller n) (Gathers o) a m b = (mild_passes x (WaitForLock o) a (λ l. refl, refl, λ r p i. refl, refl, refl), λ z. no_base x true b z)
finish_steers x q (RunFirst o u) a m b = (mild_passes x (Run u Direct) a (λ l. refl, refl, λ r p i. refl, refl, refl), refl, λ z. no_base x true b z)
finish_steers x q Resume a m b = (mild_passes x Free a (λ l. refl, refl, λ r p i. refl, refl, refl), b)
finish_steers x q Called a m b = (mild_passes x Free a (λ l. refl, refl, λ r p i. refl, refl, refl), b)
finish_steers x q (Answers o f e) a m b = (mild_passes x Free a (λ l. refl, refl, λ r p i. refl, refl, refl), b)
finish_steers x q (NoResult o f) a m b = (mild_passes x Free a (λ l. refl, refl, λ r p i. refl, refl, refl), b)
finish_steers x q (Ran u e) a m b = (mild_passes x Free a (λ l. refl, refl, λ r p i. refl, refl, refl), b)
finish_steers x q (GiveBack n) a m b = (mild_passes x Free a (λ l. refl, refl, λ r p i. refl, refl, refl), b)

-- a walk of wakes, and one over the terminate latches
walk_steers : (x : Place) (h : PoolShape) (q : Party) (p k i : ℕ) (t : Then) → Clear x → set_at x ≡ then_latch t → is_base x ≡ last_then t → Steers x (walk h q p k i t)
walk_steers x h q p k i t a m b = by (nat_lt 0 k && nat_lt i h.workers)
  where
    by : (z : Bool) → Steers x (if z then Stay (LockToWake (record { pool = p; owed = k; worker = i; then = t })) else finish q t)
    by true = (said_passes x (LockToWake (record { pool = p; owed = k; worker = i; then = t })) a (λ l. refl) (λ r p i. refl) refl refl m, λ z. sym b ∙ z)
    by false = finish_steers x q t a m b

settle_steers : (x : Place) (h : PoolShape) (q : Party) (p i : ℕ) (t : Then) → Clear x → set_at x ≡ then_latch t → is_base x ≡ last_then t → Steers x (settle h q p i t)
settle_steers x h q p i t a m b = by (nat_lt i h.workers)
  where
    by : (z : Bool) → Steers x (if z then Stay (SetLatch (record { latch = Terminate; pool = p; worker = i; then = t })) else finish q t)
    by true = (said_passes x (SetLatch (record { latch = Terminate; pool = p; worker = i; then = t })) a (λ l. refl) (λ r p i. refl) refl refl m, λ z. sym b ∙ z)
    by false = finish_steers x q t a m b

settled_steers : (x : Place) (h : PoolShape) (q : Party) (s : Settling) (l : Latch) → Clear x → set_at x ≡ then_latch s.then → is_base x ≡ last_then s.then → Steers x (after_set h q s l)
settled_steers x h q s Terminate a m b = settle_steers x h q s.pool (s.worker + 1) s.then a m b
settled_steers x h q s (OfCall c) a m b = finish_steers x q s.then a m b

set_steers : (h : PoolShape) (q : Party) (s : Settling) (e : Seen) → Steers (SetLatch s) (next_of h q (SetLatch s) e)
set_steers h q s Yes = ((λ l. refl, λ l z. z, λ r p i. refl, refl, refl), λ z. z)
set_steers h q s _ = settled_steers (SetLatch s) h q s s.latch (λ l. refl, λ r p i. refl, refl) refl refl

-- the latch of a call is set
call_steers : (x : Place) (c : ℕ) (o : Party) (t : Then) → Clear x → set_at x ≡ then_latch t → is_base x ≡ last_then t → Steers x (Stay (set_call c o t))
call_steers x c (Worker r j) t a m b = (said_passes x (set_call c (Worker r j) t) a (λ l. refl) (λ q p i. refl) refl refl m, λ z. sym b ∙ z)
call_steers x c (Caller n) t a m b = (said_passes x (set_call c (Caller n) t) a (λ l. refl) (λ q p i. refl) refl refl m, λ z. sym b ∙ z)

lower_steers : (h : PoolShape) (q : Party) (k : Count) (s : Share) (t : Then) (e : Seen) → Steers (LowerCount k s t) (next_of h q (LowerCount k s t) e)
lower_steers h q (OfPool p) s t Yes = settle_steers (LowerCount (OfPool p) s t) h q p 0 t (λ l. refl, λ r p i. refl, refl) refl refl
lower_steers h q (OfScope c o) s t Yes = call_steers (LowerCount (OfScope c o) s t) c o t (λ l. refl, λ r p i. refl, refl) refl refl
lower_steers h q (OfCast c o) s t Yes = call_steers (LowerCount (OfCast c o) s t) c o t (λ l. refl, λ r p i. refl, refl) refl refl
lower_steers h q k s t _ = finish_steers (LowerCount k s t) q t (λ l. refl, λ r p i. refl, refl) refl refl

news_latch : (n : Plan) → then_latch (after_news n) ≡ None
news_latch (Detach p t) = refl
news_latch _ = refl

news_base : (n : Plan) → last_then (after_news n) ≡ false
news_base (Detach p t) = refl
news_base _ = refl

tell_steers : (h : PoolShape) (q : Party) (n : Plan) (v : Bool) (e : Seen) → Steers (TellNews n v) (next_of h q (TellNews n v) e)
tell_steers h q n v (Wakes m) = walk_steers (TellNews n v) h q (plan_pool n) m 0 (after_news n) (λ l. refl, λ r p i. refl, refl) (sym (news_latch n)) (sym (news_base n))
tell_steers h q n v _ = ((λ l. refl, λ l z. z, λ r p i. refl, refl, refl), λ z. z)

found_then : (g : Target) (o : Option Taken) → found_latch g o ≡ then_latch (after_found g o)
found_then g None = refl
found_then g (Some t) = refl

found_base : (g : Target) (o : Option Taken) → is_last g ≡ last_then (after_found g o)
found_base g None = refl
found_base g (Some t) = refl

leave_steers : (h : PoolShape) (q : Party) (k : Wait) (e : Seen) → Steers (LeaveSearch k) (next_of h q (LeaveSearch k) e)
leave_steers h q k (Wakes n) = walk_steers (LeaveSearch k) h q (own_pool q) n 0 (after_found k.target k.found) (λ l. refl, λ r p i. refl, refl) (found_then k.target k.found) (found_base k.target k.found)
leave_steers h q k _ = ((λ l. refl, λ l z. z, λ r p i. refl, refl, refl), λ z. z)

probe_steers : (h : PoolShape) (q : Party) (k : Wait) (e : Seen) → Steers (ProbeWorking k) (next_of h q (ProbeWorking k) e)
probe_steers h q k Yes = by k.target refl
  where
    by : (g : Target) → k.target ≡ g → Steers (ProbeWorking k) (Stay (after_wait g))
    by Termination e = ((λ l. refl, tt, λ r p i. refl, refl, refl), λ z. refl)
    by (Answer o f) e = ((λ l. refl, tt, λ r p i. refl, refl, refl), λ z. no_base (ProbeWorking k) true (ap is_last e) z)
probe_steers h q k _ = ((λ l. refl, tt, λ r p i. refl, refl, refl), λ z. z)

failed_steers : (h : PoolShape) (k : Wait) (r : Rounds) → Steers (PopInjected k) (Stay (after_failure h k r))
failed_steers h k (Failed n) = by (nat_lt n h.limit)
  where
    by : (b : Bool) → Steers (PopInjected k) (Stay (if b then ProbeIdle (record k { rounds = Failed (n + 1) }) else AnnounceSelf k))
    by true = ((λ l. refl, λ l z. z, λ r p i. refl, refl, refl), λ z. z)
    by false = ((λ l. refl, λ l z. z, λ r p i. refl, refl, refl), λ z. z)
failed_steers h k Announced = ((λ l. refl, λ l z. z, λ r p i. refl, refl, refl), λ z. z)

inject_steers : (h : PoolShape) (q : Party) (k : Wait) (e : Seen) → Steers (PopInjected k) (next_of h q (PopInjected k) e)
inject_steers h q k (Task t) = ((λ l. refl, λ l z. absurd (cc), λ r p i. refl, refl, refl), λ z. z)
inject_steers h q k _ = failed_steers h k k.rounds

-- how a call goes on
fed_steers : (f : Feeding) (k : Count) → f.count ≡ k → Steers (RaiseCount (Feed f)) (Stay (begin_feed k f))
fed_steers f (OfPool p) e = ((λ l. refl, λ l z. z, λ r p i. refl, ap count_book e, refl), λ z. z)
fed_steers f (OfScope c o) e = ((λ l. refl, λ l z. z, λ r p i. refl, refl, ap (λ n. has (count_book n)) e), λ z. z)
fed_steers f (OfCast c o) e = ((λ l. refl, λ l z. z, λ r p i. refl, ap count_book e, refl), λ z. z)

raise_steers : (h : PoolShape) (q : Party) (n : Plan) (e : Seen) → Steers (RaiseCount n) (next_of h q (RaiseCount n) e)
raise_steers h q (Detach p t) Done = ((λ l. refl, λ l z. z, λ r p i. refl, refl, refl), λ z. z)
raise_steers h q (Here p t) Done = ((λ l. refl, λ l z. z, λ r p i. refl, refl, refl), refl, λ z. z)
raise_steers h q (Send o) Done = ((λ l. refl, λ l z. z, λ r p i. refl, refl, refl), λ z. z)
raise_steers h q (Fork o a) Done = ((λ l. refl, λ l z. z, λ r p i. refl, refl, refl), λ z. z)
raise_steers h q (Feed f) Done = fed_steers f f.count refl
raise_steers h q (Gather g) Done = ((λ l. refl, λ l z. z, λ r p i. refl, refl, refl), λ z. z)
raise_steers h q (Open o) Done = ((λ l. refl, λ l z. z, λ r p i. refl, refl, refl), λ z. z)
raise_steers h q (Enter x) Done = ((λ l. refl, λ l z. z, λ r p i. refl, refl, refl), λ z. z)
raise_steers h q n _ = ((λ l. refl, λ l z. z, λ r p i. refl, refl, refl), refl)

-- a number of a book is to be taken back only where there is one
drawn_passes : (x : Place) (o : Option ℕ) (n : Plan) → plan_book n ≡ o → Unless (letters_here x) ((l : Latch) → letter_for l x ≡ Unset) → Unless (locks_here x) ((q : Party) (p i : ℕ) → locks_at q x p i ≡ false) → Unless (books_here x) (plan_book n ≡ book_at x) → Passes x (withdraw o n)
drawn_passes x None n e a b c = (
  unless_map (letters_here x) ((l : Latch) → letter_for l x ≡ Unset) (Letters x (undo n)) (λ f l. sym (f l)) a,
  unless_is (probes_here x) (λ l s. absurd (cc)),
  unless_map (locks_here x) ((q : Party) (p i : ℕ) → locks_at q x p i ≡ false) (Locking x (undo n)) (λ f q p i. sym (f q p i)) b,
  unless_map (books_here x) (plan_book n ≡ book_at x) (None ≡ book_at x) (λ f. sym e ∙ f) c,
  refl,
)
drawn_passes x (Some d) n e a b c = (
  unless_map (letters_here x) ((l : Latch) → letter_for l x ≡ Unset) (Letters x (CloseSlot n)) (λ f l. sym (f l)) a,
  unless_is (probes_here x) (λ l s. absurd (cc)),
  unless_map (locks_here x) ((q : Party) (p i : ℕ) → locks_at q x p i ≡ false) (Locking x (CloseSlot n)) (λ f q p i. sym (f q p i)) b,
  c,
  ap has e,
)

drawn_base : (x : Place) (o : Option ℕ) (n : Plan) → is_base x ≡ false → is_base x ≡ true → is_base (withdraw o n) ≡ true
drawn_base x o n f t = no_base x true f t

push_steers : (h : PoolShape) (q : Party) (n : Plan) (v : Bool) (e : Seen) → Steers (PushJob n v) (next_of h q (PushJob n v) e)
push_steers h q n v Done = ((λ l. refl, λ l z. z, λ r p i. refl, tt, refl), λ z. z)
push_steers h q n v _ = (drawn_passes (PushJob n v) (plan_book n) n refl (λ l. refl) (λ r p i. refl) tt, drawn_base (PushJob n v) (plan_book n) n refl)

add_steers : (h : PoolShape) (q : Party) (f : Feeding) (e : Seen) → Steers (AddToFifo f) (next_of h q (AddToFifo f) e)
add_steers h q f Done = ((λ l. refl, λ l z. z, λ r p i. refl, refl, refl), λ z. z)
add_steers h q f _ = (drawn_passes (AddToFifo f) (count_book f.count) (Feed f) refl (λ l. refl) (λ r p i. refl) refl, drawn_base (AddToFifo f) (count_book f.count) (Feed f) refl)

retake_steers : (h : PoolShape) (q : Party) (f : Feeding) (e : Seen) → Steers (TakeFromFifo f) (next_of h q (TakeFromFifo f) e)
retake_steers h q f (Task x) = (drawn_passes (TakeFromFifo f) (count_book f.count) (Feed (record f { job = taken_number x })) refl (λ l. refl) (λ r p i. refl) tt, drawn_base (TakeFromFifo f) (count_book f.count) (Feed (record f { job = taken_number x })) refl)
retake_steers h q f _ = ((λ l. refl, λ l z. z, λ r p i. refl, tt, refl), refl)

slot_steers : (n : Plan) → Steers (OpenSlot n) (Stay (after_slot n))
slot_steers (Feed f) = ((λ l. refl, λ l z. z, λ r p i. refl, tt, refl), λ z. z)
slot_steers _ = ((λ l. refl, λ l z. z, λ r p i. refl, tt, refl), λ z. z)

open_steers : (h : PoolShape) (q : Party) (n : Plan) (e : Seen) → Steers (OpenSlot n) (next_of h q (OpenSlot n) e)
open_steers h q n Done = slot_steers n
open_steers h q n _ = ((λ l. refl, λ l z. z, λ r p i. refl, tt, refl), λ z. z)

-- how a broadcast does
begun_steers : (c : Pieces) (k : Count) → c.count ≡ k → Steers (RaiseForAll c) (Mark (begin_cast k c) c Counted)
begun_steers c (OfPool p) e = ((λ l. refl, λ l z. z, λ r p i. refl, ap count_book e, refl), λ z. z)
begun_steers c (OfScope n o) e = ((λ l. refl, λ l z. z, λ r p i. refl, refl, ap (λ m. has (count_book m)) e), λ z. z)
begun_steers c (OfCast n o) e = ((λ l. refl, λ l z. z, λ r p i. refl, ap count_book e, refl), λ z. z)

raise_all_steers : (h : PoolShape) (q : Party) (c : Pieces) (e : Seen) → Steers (RaiseForAll c) (next_of h q (RaiseForAll c) e)
raise_all_steers h q c Done = begun_steers c c.count refl
raise_all_steers h q c _ = ((λ l. refl, λ l z. z, λ r p i. refl, refl, refl), refl)

pub uncast_passes : (c : Pieces) (k : Count) → c.count ≡ k → Steers (PushForAll c) (Stay (end_cast k c))
uncast_passes c (OfPool p) e = ((λ l. refl, λ l z. z, λ r p i. refl, tt, refl), λ z. z)
uncast_passes c (OfScope n o) e = ((λ l. refl, λ l z. z, λ r p i. refl, tt, ap (λ m. has (count_book m)) e), λ z. z)
uncast_passes c (OfCast n o) e = ((λ l. refl, λ l z. z, λ r p i. refl, tt, refl), λ z. z)

push_all_steers : (h : PoolShape) (q : Party) (c : Pieces) (e : Seen) → Steers (PushForAll c) (next_of h q (PushForAll c) e)
push_all_steers h q c Done = ((λ l. refl, λ l z. z, λ r p i. refl, tt, refl), λ z. z)
push_all_steers h q c _ = uncast_passes c c.count refl

lower_all_steers : (h : PoolShape) (q : Party) (c : Pieces) (e : Seen) → Steers (LowerForAll c) (next_of h q (LowerForAll c) e)
lower_all_steers h q c Yes = by c.count
  where
    by : (k : Count) → Steers (LowerForAll c) (Mark (ends_count k) c Returned)
    by (OfPool p) = ((λ l. refl, λ l z. z, λ r p i. refl, refl, refl), λ z. z)
    by (OfScope n (Worker a b)) = ((λ l. refl, λ l z. z, λ r p i. refl, refl, refl), λ z. z)
    by (OfScope n (Caller a)) = ((λ l. refl, λ l z. z, λ r p i. refl, refl, refl), λ z. z)
    by (OfCast n (Worker a b)) = ((λ l. refl, λ l z. z, λ r p i. refl, refl, refl), λ z. z)
    by (OfCast n (Caller a)) = ((λ l. refl, λ l z. z, λ r p i. refl, refl, refl), λ z. z)
lower_all_steers h q c _ = ((λ l. refl, λ l z. z, λ r p i. refl, refl, refl), refl)

grow_steers : (h : PoolShape) (q : Party) (n : Plan) (e : Seen) → Steers (GrowCall n) (next_of h q (GrowCall n) e)
grow_steers h q n Done = ((λ l. refl, λ l z. z, λ r p i. refl, tt, refl), λ z. z)
grow_steers h q n _ = ((λ l. refl, λ l z. z, λ r p i. refl, tt, refl), λ z. z)

begin_steers : (x : Taken) (e : Seen) → Steers (BeginTask x) (after_begin x e)
begin_steers (Plain t) (Begun d) = ((λ l. refl, λ l z. z, λ r p i. refl, refl, refl), λ z. z)
begin_steers (Plain t) _ = ((λ l. refl, λ l z. z, λ r p i. refl, refl, refl), λ z. z)
begin_steers (Token k i b) (Handed t d) = ((λ l. refl, λ l z. z, λ r p i. refl, refl, refl), λ z. z)
begin_steers (Token k i b) _ = ((λ l. refl, λ l z. z, λ r p i. refl, refl, refl), refl)

-- the place after an act
every : (h : Shape) (g : PoolShape) (q : Party) (c : Counts) (m : Part) (x : Place) → ((e : Seen) → Steers x (next_of g q x e)) → IfSome (effect (act_of q x) h q c m) (λ r. Steers x (next_of g q x (r.0)))
every h g q c m x f = if_some_all {A = Seen × Part} (λ r. Steers x (next_of g q x (r.0))) (λ r. f (r.0)) (effect (act_of q x) h q c m)

pub steers : (h : Shape) (g : PoolShape) (q : Party) (c : Counts) (m : Part) (x : Place) → IfSome (effect (act_of q x) h q c m) (λ r. Steers x (next_of g q x (r.0)))
steers h g q c m (ProbeWorking k) = every h g q c m (ProbeWorking k) (probe_steers g q k)
steers h g q c m (PopInjected k) = every h g q c m (PopInjected k) (inject_steers g q k)
steers h g q c m (LeaveSearch k) = every h g q c m (LeaveSearch k) (leave_steers g q k)
steers h g q c m (TellNews n v) = every h g q c m (TellNews n v) (tell_steers g q n v)
steers h g q c m (RaiseCount n) = every h g q c m (RaiseCount n) (raise_steers g q n)
steers h g q c m (StoreResult d o e) = every h g q c m (StoreResult d o e) (λ s. call_steers (StoreResult d o e) d o Resume (λ l. refl, λ r p i. refl, refl) refl refl)
steers h g q c m (LowerCount p s t) = every h g q c m (LowerCount p s t) (lower_steers g q p s t)
steers h g q c m (PushJob n v) = every h g q c m (PushJob n v) (push_steers g q n v)
steers h g q c m (GrowCall n) = every h g q c m (GrowCall n) (grow_steers g q n)
steers h g q c m (OpenSlot n) = every h g q c m (OpenSlot n) (open_steers g q n)
steers h g q c m (CloseSlot n) = every h g q c m (CloseSlot n) (λ e. ((λ l. refl, λ l z. z, λ r p i. refl, tt, refl), λ z. z))
steers h g q c m (AddToFifo f) = every h g q c m (AddToFifo f) (add_steers g q f)
steers h g q c m (TakeFromFifo f) = every h g q c m (TakeFromFifo f) (retake_steers g q f)
steers h g q c m (RaiseForAll b) = every h g q c m (RaiseForAll b) (raise_all_steers g q b)
steers h g q c m (PushForAll b) = every h g q c m (PushForAll b) (push_all_steers g q b)
steers h g q c m (LowerForAll b) = every h g q c m (LowerForAll b) (lower_all_steers g q b)
steers h g q c m (BeginTask x) = every h g q c m (BeginTask x) (begin_steers x)
steers h g q c m (SetLockLatch d t) = every h g q c m (SetLockLatch d t) (λ e. finish_steers (SetLockLatch d t) q t (λ l. refl, λ r p i. refl, refl) refl refl)
steers h g q c m (UnlockWoken k) = every h g q c m (UnlockWoken k) (λ e. walk_steers (UnlockWoken k) g q k.pool k.owed (k.worker + 1) k.then (λ l. refl, tt, refl) refl refl)
steers h g q c m (SetLatch s) = every h g q c m (SetLatch s) (set_steers g q s)
steers h g q c m (UnlockSettled s) = every h g q c m (UnlockSettled s) (λ e. settled_steers (UnlockSettled s) g q s s.latch (λ l. refl, tt, refl) refl refl)
steers h g (Worker i j) c m _ = search (rules, arith)
steers h g (Caller n) c m _ = search (rules, arith)
