-- each worker's seat fits the place where the worker stands
--
-- By `mode` a worker is out of any search, seeking, owning its lock, dozing, or lying blocked. `SeatOk` says of its
-- place and seat three facts, which every step keeps (`always_seats` of Events).
-- It is inactive exactly while it is in its search or asleep. It counts as sleeping exactly from its TryAdd until it
-- takes itself out or is woken. While it falls asleep it holds its own sleep lock.
use Rattle.std.proofs.Common.{rules, arith, refl, sym, ◌∙◌, ap, subst}
use Rattle.std.specs.Prelude.{ℕ, Bool, true, false, ◌&&◌, ◌||◌, ◌+◌, nat_lt, if◌then◌else◌, Some, ◌≡◌, IfSome, [], ◌∷◌}
use Rattle.rayon_machine_places.specs.declared.place.Party.{Party}
use Rattle.rayon_machine_places.specs.declared.place.Party.TheVariants.{Worker, Caller}
use Rattle.rayon_machine_places.specs.declared.place.JobKind.TheVariants.{Direct}
use Rattle.rayon_machine_places.specs.declared.place.Target.TheVariants.{Termination, Answer}
use Rattle.rayon_machine_places.specs.declared.place.Latch.{Latch}
use Rattle.rayon_machine_places.specs.declared.place.Latch.TheVariants.{Terminate, OfCall}
use Rattle.rayon_machine_places.specs.declared.place.Then.{Then}
use Rattle.rayon_machine_places.specs.declared.place.Then.TheVariants.{BeginFound, LeaveWait, Await}
use Rattle.rayon_machine_places.specs.declared.place.Place.{Place}
use Rattle.rayon_machine_places.specs.declared.place.Place.TheVariants.{ProbeWorking, PopWorking, TakeCastWorking, BecomeInactive, ProbeIdle, PopIdle, TakeCastIdle, PickVictim, StealFrom, PopInjected, AnnounceSelf, GetSleepy, LockOwn, FallAsleep, LoadCounters, AddSleeping}
use Rattle.rayon_machine_places.specs.declared.place.Place.TheVariants.{LookAtCast, LookAtInjector, BlockSelf, RelockOwn, UndoSleeping, WakeUp, UnlockOwn, LeaveSearch, JoinProbe, Run, LockToWake, WakeWorker, UnlockWoken, SetLatch, LockToSettle, WakeSettled, UnlockSettled}
use Rattle.rayon_machine_places.specs.declared.place.Place.TheVariants.{FirstSide, SecondSide, AtOnce, Free, Stopped, ScopeBody}
use Rattle.rayon_machine_places.specs.declared.place.Move.{Move}
use Rattle.rayon_machine_places.specs.declared.place.Move.TheVariants.{Stay, Enter, StartRun, Back, HandBack, Discard, HandIn, Mark, HandAllBack}
use Rattle.rayon_machine_places.specs.declared.act.Act.{Act}
use Rattle.rayon_machine_places.specs.declared.act.Act.TheVariants.{Lock, Unlock, Wake, Set}
use Rattle.rayon_machine_places.specs.declared.act.Seen.{Seen}
use Rattle.rayon_machine_places.specs.declared.act.Seen.TheVariants.{Yes}
use Rattle.rayon_machine_places.specs.declared.shape.PoolShape.{PoolShape}
use Rattle.rayon_machine_places.specs.declared.place.Settling.{Settling}
use Rattle.rayon_machine_laws.proofs.Acts.{Inactive, Asleep, Blocked, Locker, AllKept, writes_at, keeps}
use Rattle.rayon_machine_laws.proofs.Frame.{if_some_map}
use Rattle.rayon_machine_places.specs.Places.{act_of, finish, next_of, same_party, settle, after_set, walk}
use Rattle.rayon_machine_places.specs.Sleepers.{Counts}
use Rattle.rayon_machine_runs.specs.World.{Part, Seat, Shape, effect}

-- what a place says of its party's seat: nothing; inactive; holding its own lock too; asleep too; inactive and perhaps
-- blocked
pub data Mode : Type 0 where
  Out : Mode
  Seeks : Mode
  Owns : Mode
  Dozes : Mode
  Lies : Mode

abbrev pub mode : Place → Mode
mode (ProbeIdle _) = Seeks
mode (PopIdle _) = Seeks
mode (TakeCastIdle _) = Seeks
mode (PickVictim _) = Seeks
mode (StealFrom _ _) = Seeks
mode (PopInjected _) = Seeks
mode (AnnounceSelf _) = Seeks
mode (GetSleepy _) = Seeks
mode (LockOwn _) = Seeks
mode (FallAsleep _) = Owns
mode (LoadCounters _) = Owns
mode (AddSleeping _) = Owns
mode (LookAtCast _) = Dozes
mode (LookAtInjector _) = Dozes
mode (BlockSelf _) = Dozes
mode (RelockOwn _) = Lies
mode (UndoSleeping _) = Dozes
mode (WakeUp _) = Owns
mode (UnlockOwn _) = Owns
mode (LeaveSearch _) = Seeks
mode _ = Out

abbrev pub inactive_in : Mode → Bool
inactive_in Out = false
inactive_in _ = true

abbrev pub asleep_in : Mode → Bool
asleep_in Dozes = true
asleep_in _ = false

abbrev pub lies_in : Mode → Bool
lies_in Lies = true
lies_in _ = false

abbrev pub owns_in : Mode → Bool
owns_in Owns = true
owns_in Dozes = true
owns_in _ = false

pub record SeatOk (p i : ℕ) (x : Mode) (s : Seat) : Type 0 where
  pub inactive : s.inactive ≡ inactive_in x
  pub asleep : s.asleep ≡ (asleep_in x || s.blocked)
  pub blocked : s.blocked ≡ true → lies_in x ≡ true
  pub lock : owns_in x ≡ true → s.lock ≡ Some (Worker p i)

-- a seat that fits a place
abbrev pub OkAt : ℕ → ℕ → Seat → Place → Type 0
OkAt p i s y = SeatOk p i (mode y) s

-- what may stand below the top of a stack
abbrev pub is_frame : Place → Bool
is_frame (ProbeWorking w) = true
is_frame (JoinProbe o) = true
is_frame (FirstSide o a) = true
is_frame (SecondSide o) = true
is_frame (ScopeBody o) = true
is_frame (AtOnce p t) = true
is_frame (Run t k) = true
is_frame Free = true
is_frame Stopped = true
is_frame _ = false

pub frame_out : (f : Place) → is_frame f ≡ true → mode f ≡ Out
frame_out (ProbeWorking w) e = refl
frame_out _ e = cc

-- what a relation on places says of a move: what is left below is a frame, and any frame will do to go back to
abbrev pub Goes : (Place → Type 0) → Move → Type 0
Goes R (Stay y) = R y
Goes R (HandIn y token) = R y
Goes R (Mark y b9 m9) = R y
Goes R (Enter f y) = (is_frame f ≡ true) × R y
Goes R (StartRun f t) = (is_frame f ≡ true) × R (Run t Direct)
Goes R Back = (f : Place) → is_frame f ≡ true → mode f ≡ Out → R f
Goes R (HandBack n) = (f : Place) → is_frame f ≡ true → mode f ≡ Out → R f
Goes R (Discard n) = (f : Place) → is_frame f ≡ true → mode f ≡ Out → R f
Goes R (HandAllBack b9) = (f : Place) → is_frame f ≡ true → mode f ≡ Out → R f

-- the places of a worker's wait, whose acts touch its own seat
abbrev pub at_home : Place → Bool
at_home (ProbeWorking k) = true
at_home (PopWorking k) = true
at_home (TakeCastWorking k) = true
at_home (BecomeInactive k) = true
at_home (ProbeIdle k) = true
at_home (PopIdle k) = true
at_home (TakeCastIdle k) = true
at_home (PickVictim k) = true
at_home (PopInjected k) = true
at_home (AnnounceSelf k) = true
at_home (GetSleepy k) = true
at_home (LockOwn k) = true
at_home (FallAsleep k) = true
at_home (LoadCounters k) = true
at_home (AddSleeping k) = true
at_home (LookAtCast k) = true
at_home (LookAtInjector k) = true
at_home (BlockSelf k) = true
at_home (RelockOwn k) = true
at_home (UndoSleeping k) = true
at_home (WakeUp k) = true
at_home (UnlockOwn k) = true
at_home (LeaveSearch k) = true
at_home _ = false

abbrev pub Keeps : Act → Shape → Party → Counts → Part → (p i : ℕ) → Mode → Type 0
Keeps a h q c m p i x = IfSome (effect a h q c m) (λ r. SeatOk p i x (r.1.seat))

set_keeps : (l : Latch) (r j : ℕ) (h : Shape) (q : Party) (c : Counts) (m : Part) (p i : ℕ) (x : Mode) → SeatOk p i x m.seat → Keeps (Set l r j) h q c m p i x
set_keeps Terminate r j h q c m p i x ok = search (rules, arith)
set_keeps (OfCall n) r j h q c m p i x ok = search (rules, arith)

lock_keeps : (r j : ℕ) (h : Shape) (q : Party) (c : Counts) (m : Part) (p i : ℕ) (x : Mode) → SeatOk p i x m.seat → Keeps (Lock r j) h q c m p i x
lock_keeps r j h q c m p i x ok = search (rules, arith)

unlock_keeps : (r j : ℕ) (h : Shape) (q : Party) (c : Counts) (m : Part) (p i : ℕ) (x : Mode) → same_party q (Worker p i) ≡ false → SeatOk p i x m.seat → Keeps (Unlock r j) h q c m p i x
unlock_keeps r j h q c m p i x d ok = search (rules, arith)

-- of the party itself, outside of any search
rest_unlocks : (r j : ℕ) (h : Shape) (q : Party) (c : Counts) (m : Part) (p i : ℕ) → SeatOk p i Out m.seat → Keeps (Unlock r j) h q c m p i Out
rest_unlocks r j h q c m p i ok = search (rules, arith)

wake_keeps : (r j : ℕ) (h : Shape) (q : Party) (c : Counts) (m : Part) (p i : ℕ) (x : Mode) → SeatOk p i x m.seat → Keeps (Wake r j) h q c m p i x
wake_keeps r j h q c m p i Out ok = search (rules, arith)
wake_keeps r j h q c m p i _ ok = search (rules, arith)

pub out_goes : (p i : ℕ) (s : Seat) (g : Move) → Goes (λ y. mode y ≡ Out) g → SeatOk p i Out s → Goes (OkAt p i s) g
out_goes p i s (Stay y) e ok = subst (λ x. SeatOk p i x s) (sym e) ok
out_goes p i s (HandIn y token) e ok = subst (λ x. SeatOk p i x s) (sym e) ok
out_goes p i s (Mark y b9 m9) e ok = subst (λ x. SeatOk p i x s) (sym e) ok
out_goes p i s (Enter f y) e ok = (e.0, subst (λ x. SeatOk p i x s) (sym (e.1)) ok)
out_goes p i s (StartRun f t) e ok = (e.0, ok)
out_goes p i s Back e ok = λ f k o. subst (λ x. SeatOk p i x s) (sym o) ok
out_goes p i s (HandBack n) e ok = λ f k o. subst (λ x. SeatOk p i x s) (sym o) ok
out_goes p i s (Discard n) e ok = λ f k o. subst (λ x. SeatOk p i x s) (sym o) ok
out_goes p i s (HandAllBack b9) e ok = λ f k o. subst (λ x. SeatOk p i x s) (sym o) ok

-- what follows a walk or the setting of a latch is outside of any search
pub finish_out : (q : Party) (t : Then) → Goes (λ y. mode y ≡ Out) (finish q t)
finish_out q (BeginFound Termination t) = search (rules)
finish_out q (LeaveWait Termination) = refl
finish_out q (LeaveWait (Answer o f)) = refl
finish_out (Worker a b) (Await o) = refl
finish_out (Caller n) (Await o) = refl
finish_out q _ = search (rules)

pub walk_out : (h : PoolShape) (q : Party) (p k i : ℕ) (t : Then) → Goes (λ y. mode y ≡ Out) (walk h q p k i t)
walk_out h q p k i t = at (nat_lt 0 k && nat_lt i h.workers)
  where
    at : (b : Bool) → Goes (λ y. mode y ≡ Out) (if b then Stay (LockToWake (record { pool = p; owed = k; worker = i; then = t })) else finish q t)
    at true = refl
    at false = finish_out q t

pub settle_out : (h : PoolShape) (q : Party) (p i : ℕ) (t : Then) → Goes (λ y. mode y ≡ Out) (settle h q p i t)
settle_out h q p i t = at (nat_lt i h.workers)
  where
    at : (b : Bool) → Goes (λ y. mode y ≡ Out) (if b then Stay (SetLatch (record { latch = Terminate; pool = p; worker = i; then = t })) else finish q t)
    at true = refl
    at false = finish_out q t

pub settled_out : (h : PoolShape) (q : Party) (s : Settling) (l : Latch) → Goes (λ y. mode y ≡ Out) (after_set h q s l)
settled_out h q s Terminate = settle_out h q s.pool (s.worker + 1) s.then
settled_out h q s (OfCall c) = finish_out q s.then

pub set_goes : (g : PoolShape) (p i : ℕ) (s : Settling) (e : Seen) (u : Seat) → SeatOk p i Out u → Goes (OkAt p i u) (next_of g (Worker p i) (SetLatch s) e)
set_goes g p i s Yes u k = k
set_goes g p i s _ u k = out_goes p i u (after_set g (Worker p i) s s.latch) (settled_out g (Worker p i) s s.latch) k

-- a worker's own act leaves its seat fitting the place that it goes to
pub own_keeps : (h : Shape) (g : PoolShape) (p i : ℕ) (c : Counts) (m : Part) (x : Place) → SeatOk p i (mode x) m.seat → IfSome (effect (act_of (Worker p i) x) h (Worker p i) c m) (λ r. Goes (OkAt p i (r.1.seat)) (next_of g (Worker p i) x (r.0)))
own_keeps h g p i c m (ProbeWorking k) ok = search (rules, arith)
own_keeps h g p i c m (SetLatch s) ok = if_some_map (λ r. SeatOk p i Out (r.1.seat)) (λ r. Goes (OkAt p i (r.1.seat)) (next_of g (Worker p i) (SetLatch s) (r.0))) (λ r k. set_goes g p i s (r.0) (r.1.seat) k) (effect (act_of (Worker p i) (SetLatch s)) h (Worker p i) c m)
    (set_keeps s.latch s.pool s.worker h (Worker p i) c m p i Out ok)
own_keeps h g p i c m (UnlockSettled s) ok = if_some_map (λ r. SeatOk p i Out (r.1.seat)) (λ r. Goes (OkAt p i (r.1.seat)) (next_of g (Worker p i) (UnlockSettled s) (r.0))) (λ r k. out_goes p i (r.1.seat) (after_set g (Worker p i) s s.latch) (settled_out g (Worker p i) s s.latch) k)
    (effect (act_of (Worker p i) (UnlockSettled s)) h (Worker p i) c m) (rest_unlocks s.pool s.worker h (Worker p i) c m p i ok)
own_keeps h g p i c m _ ok = search (rules, arith)

-- a seat that is the same but for its lists and its latch
seat_kept : (p i : ℕ) (y : Mode) (m : Part) (r : Seen × Part) → AllKept (Inactive ∷ Asleep ∷ Blocked ∷ Locker ∷ []) m r → SeatOk p i y m.seat → SeatOk p i y (r.1.seat)
seat_kept p i y m r k ok = record { inactive = k.0 ∙ ok.inactive; asleep = k.1.0 ∙ ok.asleep ∙ ap (λ b. asleep_in y || b) (sym (k.1.1.0)); blocked = λ e. ok.blocked (sym (k.1.1.0) ∙ e); lock = λ e. k.1.1.1.0 ∙ ok.lock e }

-- the places at which a party touches another's lock, or wakes it
abbrev locks_or_wakes : Place → Bool
locks_or_wakes (LockToWake k) = true
locks_or_wakes (LockToSettle s) = true
locks_or_wakes (UnlockWoken k) = true
locks_or_wakes (UnlockSettled s) = true
locks_or_wakes (WakeWorker k) = true
locks_or_wakes (WakeSettled s) = true
locks_or_wakes _ = false

away_writes : (x : Place) → at_home x ≡ false → locks_or_wakes x ≡ false → writes_at x (Inactive ∷ Asleep ∷ Blocked ∷ Locker ∷ []) ≡ false
away_writes (LockToWake k) e n = cc
away_writes _ e n = cc

away_left : (h : Shape) (q : Party) (c : Counts) (m : Part) (x : Place) (p i : ℕ) (y : Mode) → SeatOk p i y m.seat → writes_at x (Inactive ∷ Asleep ∷ Blocked ∷ Locker ∷ []) ≡ false → IfSome (effect (act_of q x) h q c m) (λ r. SeatOk p i y (r.1.seat))
away_left h q c m x p i y ok n = keeps h q c m (λ v r. SeatOk p i y (r.1.seat)) (Inactive ∷ Asleep ∷ Blocked ∷ Locker ∷ []) x n (λ r k. seat_kept p i y m r k ok)

-- another party's act leaves a worker's seat fitting the worker's place
pub other_keeps : (h : Shape) (q : Party) (c : Counts) (m : Part) (x : Place) (p i : ℕ) (y : Place) → at_home x ≡ false → same_party q (Worker p i) ≡ false → SeatOk p i (mode y) m.seat → IfSome (effect (act_of q x) h q c m) (λ r. SeatOk p i (mode y) (r.1.seat))
other_keeps h (Worker a b) c m (LockToWake k) p i y away d ok = lock_keeps k.pool k.worker h (Worker a b) c m p i (mode y) ok
other_keeps h q c m (LockToWake k) p i y away d ok = lock_keeps k.pool k.worker h q c m p i (mode y) ok
other_keeps h q c m (LockToSettle s) p i y away d ok = lock_keeps s.pool s.worker h q c m p i (mode y) ok
other_keeps h q c m (UnlockWoken k) p i y away d ok = unlock_keeps k.pool k.worker h q c m p i (mode y) d ok
other_keeps h q c m (UnlockSettled s) p i y away d ok = unlock_keeps s.pool s.worker h q c m p i (mode y) d ok
other_keeps h q c m (WakeWorker k) p i y away d ok = wake_keeps k.pool k.worker h q c m p i (mode y) ok
other_keeps h q c m (WakeSettled s) p i y away d ok = wake_keeps s.pool s.worker h q c m p i (mode y) ok
other_keeps h q c m x p i y away d ok = away_left h q c m x p i (mode y) ok (away_writes x away refl)
