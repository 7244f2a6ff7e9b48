-- who holds a sleep lock
--
-- Who stands at a place with another's sleep lock holds it (`LocksOk`). No act takes a sleep lock from another party.
use Rattle.std.proofs.Common.{rules, arith, refl, sym, ◌∙◌, ap}
use Rattle.std.specs.Prelude.{ℕ, Bool, true, false, not, ◌&&◌, ◌==◌, if◌then◌else◌, Option, Some, None, ◌≡◌, [], ◌∷◌, IfSome}
use Rattle.rayon_machine_places.specs.declared.place.Party.{Party}
use Rattle.rayon_machine_places.specs.declared.place.Party.TheVariants.{Worker, Caller}
use Rattle.rayon_machine_places.specs.declared.place.JobKind.TheVariants.{Direct}
use Rattle.rayon_machine_places.specs.declared.place.Place.{Place}
use Rattle.rayon_machine_places.specs.declared.place.Place.TheVariants.{ProbeWorking, LockOwn, BlockSelf, RelockOwn, UnlockOwn, Run, LockToWake, WakeWorker, UnlockWoken, SetLatch, LockToSettle, WakeSettled, UnlockSettled}
use Rattle.rayon_machine_places.specs.declared.place.Move.{Move}
use Rattle.rayon_machine_places.specs.declared.place.Move.TheVariants.{Stay, Enter, StartRun, Back, HandBack, Discard, HandIn, Mark, HandAllBack}
use Rattle.rayon_machine_places.specs.declared.act.Act.{Act}
use Rattle.rayon_machine_places.specs.declared.act.Act.TheVariants.{Lock, Unlock}
use Rattle.rayon_machine_places.specs.declared.act.Seen.{Seen}
use Rattle.rayon_machine_places.specs.declared.act.Seen.TheVariants.{Yes}
use Rattle.rayon_machine_places.specs.declared.shape.PoolShape.{PoolShape}
use Rattle.rayon_machine_places.specs.declared.place.Settling.{Settling}
use Rattle.rayon_machine_places.specs.Places.{same_party, after_set, act_of, next_of}
use Rattle.rayon_machine_runs.specs.World.{Shape, Part, is_free_lock, effect}
use Rattle.rayon_machine_places.specs.Sleepers.{Counts}
use Rattle.rayon_machine_places.specs.Targets.{target_pool, target_worker, is_own}
use Rattle.rayon_machine_laws.specs.Committed.{is_blocking}
use Rattle.rayon_machine_laws.proofs.Acts.{Locker, writes_at, keeps}
use Rattle.rayon_machine_laws.proofs.Frame.{same_index, same_party_refl, if_some_all, if_some_map}
use Rattle.rayon_machine_laws.proofs.Tops.{Tops, is_light, settled_leads, leads_tops}

-- whose sleep lock a party at this place holds, beside its own
abbrev pub holds : Place → ℕ → ℕ → Bool
holds (WakeWorker k) a b = (k.pool == a) && (k.worker == b)
holds (UnlockWoken k) a b = (k.pool == a) && (k.worker == b)
holds (WakeSettled s) a b = (s.pool == a) && (s.worker == b)
holds (UnlockSettled s) a b = (s.pool == a) && (s.worker == b)
holds _ a b = false

pub light_holds : (x : Place) (a b : ℕ) → is_light x ≡ true → holds x a b ≡ false
light_holds (WakeWorker k) a b e = cc
light_holds (UnlockWoken k) a b e = cc
light_holds (WakeSettled s) a b e = cc
light_holds (UnlockSettled s) a b e = cc
light_holds _ a b e = refl

-- an act leaves the lock of this seat with this party
abbrev pub LockLeft : Act → Shape → Party → Counts → Part → Party → Type 0
LockLeft a h q c m g = IfSome (effect a h q c m) (λ r. r.1.seat.lock ≡ Some g)

lock_left : (r j : ℕ) (h : Shape) (q : Party) (c : Counts) (m : Part) (g : Party) → m.seat.lock ≡ Some g → LockLeft (Lock r j) h q c m g
lock_left r j h q c m g l = search (rules, arith)

unlock_left : (r j : ℕ) (h : Shape) (q : Party) (c : Counts) (m : Part) (g : Party) → same_party q g ≡ false → m.seat.lock ≡ Some g → LockLeft (Unlock r j) h q c m g
unlock_left r j h q c m g d l = search (rules, arith)

lock_stays : (h : Shape) (q g : Party) (c : Counts) (m : Part) (x : Place) → m.seat.lock ≡ Some g → writes_at x (Locker ∷ []) ≡ false → LockLeft (act_of q x) h q c m g
lock_stays h q g c m x l n = keeps h q c m (λ v r. r.1.seat.lock ≡ Some g) (Locker ∷ []) x n (λ r k. k.0 ∙ l)

-- an act takes no lock from another party
pub lock_kept : (h : Shape) (q g : Party) (c : Counts) (m : Part) (x : Place) → m.seat.lock ≡ Some g → same_party q g ≡ false → ((p i : ℕ) → q ≡ Worker p i → is_blocking x ≡ true → m.seat.lock ≡ Some q) → LockLeft (act_of q x) h q c m g
lock_kept h (Worker a z) g c m (BlockSelf k) l d own = absurd (let s : Worker a z ≡ g = (let f : m.seat.lock ≡ Some (Worker a z) = own a z refl refl in cc) in let k : same_party (Worker a z) g ≡ true = ap (same_party (Worker a z)) (sym s) ∙ same_party_refl (Worker a z) in cc)
lock_kept h (Worker a z) g c m (LockOwn k) l d own = lock_left a z h (Worker a z) c m g l
lock_kept h (Worker a z) g c m (RelockOwn k) l d own = lock_left a z h (Worker a z) c m g l
lock_kept h (Worker a z) g c m (UnlockOwn k) l d own = unlock_left a z h (Worker a z) c m g d l
lock_kept h (Caller n) g c m (BlockSelf k) l d own = tt
lock_kept h (Caller n) g c m (LockOwn k) l d own = tt
lock_kept h (Caller n) g c m (RelockOwn k) l d own = tt
lock_kept h (Caller n) g c m (UnlockOwn k) l d own = tt
lock_kept h q g c m (LockToWake k) l d own = lock_left k.pool k.worker h q c m g l
lock_kept h q g c m (UnlockWoken k) l d own = unlock_left k.pool k.worker h q c m g d l
lock_kept h q g c m (LockToSettle s) l d own = lock_left s.pool s.worker h q c m g l
lock_kept h q g c m (UnlockSettled s) l d own = unlock_left s.pool s.worker h q c m g d l
lock_kept h q g c m x l d own = lock_stays h q g c m x l refl

-- the act at a place that holds a lock next is on that worker, and leaves it with the lock
pub record Takes (q : Party) (x : Place) (a b : ℕ) (l : Option Party) : Type 0 where
  pub pool : target_pool q (act_of q x) ≡ a
  pub worker : target_worker q (act_of q x) ≡ b
  pub lock : l ≡ Some q

if_taken : {A : Type 0} (b : Bool) (P : A → Type 0) {v : A} → P v → IfSome (if b then Some v else None) P
if_taken true P h = h
if_taken false P h = tt

pub if_both : {A : Type 0} (b : Bool) (P : A → Type 0) {v u : A} → P v → P u → IfSome (if b then Some v else Some u) P
if_both true P h k = h
if_both false P h k = k

-- a relation on places that follows from another
pub tops_map : (P Q : Place → Type 0) → ((y : Place) → P y → Q y) → (g : Move) → Tops P g → Tops Q g
tops_map P Q f (Stay y) t = f y t
tops_map P Q f (HandIn y token) t = f y t
tops_map P Q f (Mark y b9 m9) t = f y t
tops_map P Q f (Enter x y) t = f y t
tops_map P Q f (StartRun x n) t = f (Run n Direct) t
tops_map P Q f Back t = tt
tops_map P Q f (HandBack n) t = tt
tops_map P Q f (Discard n) t = tt
tops_map P Q f (HandAllBack b9) t = tt

abbrev is_locking : Place → Bool
is_locking (LockToWake k) = true
is_locking (WakeWorker k) = true
is_locking (LockToSettle s) = true
is_locking (WakeSettled s) = true
is_locking _ = false

settled_holds : (h : PoolShape) (q : Party) (s : Settling) (a b : ℕ) → Tops (λ y. holds y a b ≡ false) (after_set h q s s.latch)
settled_holds h q s a b = tops_map (λ y. is_light y ≡ true) (λ y. holds y a b ≡ false) (λ y e. light_holds y a b e) (after_set h q s s.latch) (leads_tops (after_set h q s s.latch) (settled_leads false h q s s.latch))

set_holds : (h : PoolShape) (q : Party) (s : Settling) (e : Seen) (a b : ℕ) → Tops (λ y. holds y a b ≡ false) (next_of h q (SetLatch s) e)
set_holds h q s Yes a b = refl
set_holds h q s _ a b = settled_holds h q s a b

-- only a waker and who has set a latch come to hold another's lock
no_hold : (h : Shape) (g : PoolShape) (q : Party) (c : Counts) (m : Part) (x : Place) (a b : ℕ) → is_locking x ≡ false → IfSome (effect (act_of q x) h q c m) (λ r. Tops (λ y. holds y a b ≡ false) (next_of g q x (r.0)))
no_hold h g (Worker i j) c m (ProbeWorking k) a b z = search (rules, arith)
no_hold h g q c m (SetLatch s) a b z = if_some_all {A = Seen × Part} (λ r. Tops (λ y. holds y a b ≡ false) (next_of g q (SetLatch s) (r.0))) (λ r. set_holds g q s (r.0) a b) (effect (act_of q (SetLatch s)) h q c m)
no_hold h g q c m (UnlockSettled s) a b z = if_some_all {A = Seen × Part} (λ r. Tops (λ y. holds y a b ≡ false) (next_of g q (UnlockSettled s) (r.0))) (λ r. settled_holds g q s a b) (effect (act_of q (UnlockSettled s)) h q c m)
no_hold h g q c m (LockToWake k) a b z = cc
no_hold h g q c m (WakeWorker k) a b z = cc
no_hold h g q c m (LockToSettle s) a b z = cc
no_hold h g q c m (WakeSettled s) a b z = cc
no_hold h g (Worker i j) c m _ a b z = search (rules, arith)
no_hold h g (Caller n) c m _ a b z = search (rules, arith)

never_takes : (h : Shape) (g : PoolShape) (q : Party) (c : Counts) (m : Part) (x : Place) (a b : ℕ) → is_locking x ≡ false → IfSome (effect (act_of q x) h q c m) (λ r. Tops (λ y. holds y a b ≡ true → Takes q x a b (r.1.seat.lock)) (next_of g q x (r.0)))
never_takes h g q c m x a b z = if_some_map {A = Seen × Part} (λ r. Tops (λ y. holds y a b ≡ false) (next_of g q x (r.0))) (λ r. Tops (λ y. holds y a b ≡ true → Takes q x a b (r.1.seat.lock)) (next_of g q x (r.0)))
    (λ r t. tops_map (λ y. holds y a b ≡ false) (λ y. holds y a b ≡ true → Takes q x a b (r.1.seat.lock)) (λ y e f. absurd (cc)) (next_of g q x (r.0)) t) (effect (act_of q x) h q c m) (no_hold h g q c m x a b z)

pub lock_taken : (h : Shape) (g : PoolShape) (q : Party) (c : Counts) (m : Part) (x : Place) (a b : ℕ) → (holds x a b ≡ true → m.seat.lock ≡ Some q) → IfSome (effect (act_of q x) h q c m) (λ r. Tops (λ y. holds y a b ≡ true → Takes q x a b (r.1.seat.lock)) (next_of g q x (r.0)))
lock_taken h g (Worker i j) c m (LockToWake k) a b own = if_taken (is_free_lock m.seat.lock && not (is_own (Worker i j) k.pool k.worker && m.seat.blocked)) (λ (z : Seen × Part). ((k.pool == a) && (k.worker == b)) ≡ true → Takes (Worker i j) (LockToWake k) a b (z.1.seat.lock))
    (λ f. let s : (k.pool ≡ a) × (k.worker ≡ b) = same_index k.pool k.worker a b f in record { pool = s.0; worker = s.1; lock = refl })
lock_taken h g q c m (LockToWake k) a b own = if_taken (is_free_lock m.seat.lock && not (is_own q k.pool k.worker && m.seat.blocked)) (λ (z : Seen × Part). ((k.pool == a) && (k.worker == b)) ≡ true → Takes q (LockToWake k) a b (z.1.seat.lock))
    (λ f. let s : (k.pool ≡ a) × (k.worker ≡ b) = same_index k.pool k.worker a b f in record { pool = s.0; worker = s.1; lock = refl })
lock_taken h g q c m (LockToSettle k) a b own = if_taken (is_free_lock m.seat.lock && not (is_own q k.pool k.worker && m.seat.blocked)) (λ (z : Seen × Part). ((k.pool == a) && (k.worker == b)) ≡ true → Takes q (LockToSettle k) a b (z.1.seat.lock))
    (λ f. let s : (k.pool ≡ a) × (k.worker ≡ b) = same_index k.pool k.worker a b f in record { pool = s.0; worker = s.1; lock = refl })
lock_taken h g q c m (WakeWorker k) a b own = if_both m.seat.blocked (λ (z : Seen × Part). Tops (λ y. holds y a b ≡ true → Takes q (WakeWorker k) a b (z.1.seat.lock)) (next_of g q (WakeWorker k) (z.0)))
    (λ f. let s : (k.pool ≡ a) × (k.worker ≡ b) = same_index k.pool k.worker a b f in record { pool = s.0; worker = s.1; lock = own f }) (λ f. let s : (k.pool ≡ a) × (k.worker ≡ b) = same_index k.pool k.worker a b f in record { pool = s.0; worker = s.1; lock = own f })
lock_taken h g q c m (WakeSettled k) a b own = if_both m.seat.blocked (λ (z : Seen × Part). Tops (λ y. holds y a b ≡ true → Takes q (WakeSettled k) a b (z.1.seat.lock)) (next_of g q (WakeSettled k) (z.0)))
    (λ f. let s : (k.pool ≡ a) × (k.worker ≡ b) = same_index k.pool k.worker a b f in record { pool = s.0; worker = s.1; lock = own f }) (λ f. let s : (k.pool ≡ a) × (k.worker ≡ b) = same_index k.pool k.worker a b f in record { pool = s.0; worker = s.1; lock = own f })
lock_taken h g q c m x a b own = never_takes h g q c m x a b refl
