-- what each act leaves of the latches
use Rattle.rayon_machine_places.specs.declared.place.Gathering.{Gathering}
use Rattle.rayon_machine_places.specs.declared.place.Then.{Then}
use Rattle.rayon_machine_places.specs.declared.place.OpenCall.{OpenCall}
use Rattle.std.proofs.Common.{rules, arith, refl, ap, subst}
use Rattle.std.specs.Prelude.{ℕ, Bool, true, false, Option, Some, None, ◌≡◌, [], ◌∷◌, IfSome}
use Rattle.rayon_machine_places.specs.declared.place.Party.{Party}
use Rattle.rayon_machine_places.specs.declared.place.Party.TheVariants.{Worker, Caller}
use Rattle.rayon_machine_places.specs.declared.place.Latch.{Latch}
use Rattle.rayon_machine_places.specs.declared.place.Latch.TheVariants.{Terminate, OfCall}
use Rattle.rayon_machine_places.specs.declared.place.Plan.{Plan}
use Rattle.rayon_machine_places.specs.declared.place.Place.{Place}
use Rattle.rayon_machine_places.specs.declared.place.Place.TheVariants.{ProbeWorking, GetSleepy, FallAsleep, BlockSelf, WakeUp, GrowCall, SetLatch, SetLockLatch, GrowScope, GrowCast}
use Rattle.rayon_machine_places.specs.declared.act.Act.TheVariants.{Sleepy, Asleep, Wakeup, Set}
use Rattle.rayon_machine_places.specs.declared.act.Seen.{Seen}
use Rattle.rayon_machine_places.specs.declared.act.Seen.TheVariants.{Yes}
use Rattle.rayon_machine_runs.specs.declared.state.Letter.{Letter}
use Rattle.rayon_machine_runs.specs.declared.state.Letter.TheVariants.{Unset, Sleepy as IsSleepy, Sleeping, Set as IsSet}
use Rattle.rayon_machine_places.specs.declared.place.Settling.{Settling}
use Rattle.rayon_machine_places.specs.Places.{latch_of, act_of}
use Rattle.rayon_machine_runs.specs.World.{Shape, Part, letter, set_latch, effect, with_letter}
use Rattle.rayon_machine_places.specs.Sleepers.{Counts}
use Rattle.rayon_machine_laws.specs.Committed.{is_blocking}
use Rattle.rayon_machine_laws.proofs.Acts.{SeatLetter, CallLetter, writes_at, keeps}
use Rattle.rayon_machine_laws.proofs.Letters.{sleepy_keeps, asleep_keeps, wake_keeps}

-- an act leaves the letters of the latches that it touches
pub record SameLatches (m : Part) (r : Seen × Part) : Type 0 where
  pub seat : r.1.seat.latch ≡ m.seat.latch
  pub call : r.1.call.latch ≡ m.call.latch

-- the places at which a party writes a latch
abbrev pub is_latching : Place → Bool
is_latching (GetSleepy k) = true
is_latching (FallAsleep k) = true
is_latching (WakeUp k) = true
is_latching (GrowCall n) = true
is_latching (GrowScope o) = true
is_latching (GrowCast g) = true
is_latching (SetLatch s) = true
is_latching (SetLockLatch c t) = true
is_latching _ = false

pub latches_same : (h : Shape) (q : Party) (c : Counts) (m : Part) (x : Place) → is_latching x ≡ false → IfSome (effect (act_of q x) h q c m) (SameLatches m)
latches_same h q c m x z = keeps h q c m SameLatches (SeatLetter ∷ CallLetter ∷ []) x (writes_none x z) (λ r k. record { seat = k.0; call = k.1.0 })
  where
    writes_none : (x : Place) → is_latching x ≡ false → writes_at x (SeatLetter ∷ CallLetter ∷ []) ≡ false
    writes_none (SetLatch s) z = cc
    writes_none _ z = cc

-- an act on a latch writes no other: not the call's where it is the worker's own, and not the seat's where it is a call's
abbrev pub OneLatch : Latch → Part → Seen × Part → Type 0
OneLatch Terminate m r = r.1.call.latch ≡ m.call.latch
OneLatch (OfCall c) m r = r.1.seat.latch ≡ m.seat.latch

same_one : (l : Latch) (m : Part) (e : Seen) → OneLatch l m (e, m)
same_one Terminate m e = refl
same_one (OfCall c) m e = refl

letter_one : (l : Latch) (m : Part) (e : Seen) (y : Letter) → OneLatch l m (e, with_letter l m y)
letter_one Terminate m e y = refl
letter_one (OfCall c) m e y = refl

-- the latch that a waiting worker writes
abbrev pub writes : Place → Option Latch
writes (GetSleepy k) = Some (latch_of k.target)
writes (FallAsleep k) = Some (latch_of k.target)
writes (WakeUp k) = Some (latch_of k.target)
writes _ = None

abbrev pub or_terminate : Option Latch → Latch
or_terminate None = Terminate
or_terminate (Some l) = l

pub writes_one : (h : Shape) (q : Party) (c : Counts) (m : Part) (x : Place) (l : Latch) → writes x ≡ Some l → IfSome (effect (act_of q x) h q c m) (OneLatch l m)
writes_one h (Worker a b) c m (GetSleepy k) l e = subst (λ z. IfSome (effect (Sleepy (latch_of k.target)) h (Worker a b) c m) (OneLatch z m)) (ap (λ z. or_terminate z) e) (sleepy_keeps (latch_of k.target) (OneLatch (latch_of k.target)) (same_one (latch_of k.target)) (λ v d y n. letter_one (latch_of k.target) v d y) m (letter (latch_of k.target) m))
writes_one h (Worker a b) c m (FallAsleep k) l e = subst (λ z. IfSome (effect (Asleep (latch_of k.target)) h (Worker a b) c m) (OneLatch z m)) (ap (λ z. or_terminate z) e) (asleep_keeps (latch_of k.target) (OneLatch (latch_of k.target)) (same_one (latch_of k.target)) (λ v d y n. letter_one (latch_of k.target) v d y) m (letter (latch_of k.target) m))
writes_one h (Worker a b) c m (WakeUp k) l e = subst (λ z. IfSome (effect (Wakeup (latch_of k.target)) h (Worker a b) c m) (OneLatch z m)) (ap (λ z. or_terminate z) e) (wake_keeps (latch_of k.target) (OneLatch (latch_of k.target)) (same_one (latch_of k.target)) (λ v d y n. letter_one (latch_of k.target) v d y) m (letter (latch_of k.target) m))
writes_one h (Caller n) c m (GetSleepy k) l e = tt
writes_one h (Caller n) c m (FallAsleep k) l e = tt
writes_one h (Caller n) c m (WakeUp k) l e = tt
writes_one h q c m _ l e = cc

pub grow_one : (h : Shape) (q : Party) (c : Counts) (m : Part) (n : Plan) → IfSome (effect (act_of q (GrowCall n)) h q c m) (λ r. r.1.seat.latch ≡ m.seat.latch)
grow_one h (Worker a b) c m n = refl
grow_one h (Caller o) c m n = refl

pub scope_one : (h : Shape) (q : Party) (c : Counts) (m : Part) (n : OpenCall) → IfSome (effect (act_of q (GrowScope n)) h q c m) (λ r. r.1.seat.latch ≡ m.seat.latch)
scope_one h (Worker a b) c m n = refl
scope_one h (Caller o) c m n = refl

pub gather_one : (h : Shape) (q : Party) (c : Counts) (m : Part) (n : Gathering) → IfSome (effect (act_of q (GrowCast n)) h q c m) (λ r. r.1.seat.latch ≡ m.seat.latch)
gather_one h (Worker a b) c m n = refl
gather_one h (Caller o) c m n = refl

pub lock_one : (h : Shape) (q : Party) (c : Counts) (m : Part) (d : ℕ) (t : Then) → IfSome (effect (act_of q (SetLockLatch d t)) h q c m) (λ r. r.1.seat.latch ≡ m.seat.latch)
lock_one h (Worker a b) c m d t = refl
lock_one h (Caller o) c m d t = refl

-- who sets a latch finds out whether its worker slept
pub record Sets (l : Latch) (m : Part) (r : Seen × Part) : Type 0 where
  pub other : OneLatch l m r
  pub now : letter l (r.1) ≡ IsSet
  pub yes : letter l m ≡ Sleeping → r.0 ≡ Yes

set_if : (l : Latch) (m : Part) (x : Letter) → letter l m ≡ x → IfSome (set_latch l m x) (Sets l m)
set_if Terminate m Sleeping e = record { other = refl; now = refl; yes = λ z. refl }
set_if Terminate m Unset e = record { other = refl; now = refl; yes = λ z. absurd (cc) }
set_if Terminate m IsSleepy e = record { other = refl; now = refl; yes = λ z. absurd (cc) }
set_if Terminate m IsSet e = record { other = refl; now = refl; yes = λ z. absurd (cc) }
set_if (OfCall n) m Sleeping e = record { other = refl; now = refl; yes = λ z. refl }
set_if (OfCall n) m Unset e = record { other = refl; now = refl; yes = λ z. absurd (cc) }
set_if (OfCall n) m IsSleepy e = record { other = refl; now = refl; yes = λ z. absurd (cc) }
set_if (OfCall n) m IsSet e = record { other = refl; now = refl; yes = λ z. absurd (cc) }

pub set_one : (h : Shape) (q : Party) (c : Counts) (m : Part) (s : Settling) → IfSome (effect (act_of q (SetLatch s)) h q c m) (Sets s.latch m)
set_one h (Worker a b) c m s = set_if s.latch m (letter s.latch m) refl
set_one h (Caller o) c m s = set_if s.latch m (letter s.latch m) refl

set_blocks : (l : Latch) (r j : ℕ) (h : Shape) (q : Party) (c : Counts) (m : Part) → IfSome (effect (Set l r j) h q c m) (λ r. r.1.seat.blocked ≡ true → m.seat.blocked ≡ true)
set_blocks Terminate r j h q c m = search (rules, arith)
set_blocks (OfCall n) r j h q c m = search (rules, arith)

-- only its own act blocks a worker
pub blocks_not : (h : Shape) (q : Party) (c : Counts) (m : Part) (x : Place) → is_blocking x ≡ false → IfSome (effect (act_of q x) h q c m) (λ r. r.1.seat.blocked ≡ true → m.seat.blocked ≡ true)
blocks_not h (Worker a b) c m (ProbeWorking k) z = search (rules, arith)
blocks_not h q c m (BlockSelf k) z = cc
blocks_not h q c m (SetLatch s) z = set_blocks s.latch s.pool s.worker h q c m
blocks_not h (Worker a b) c m _ z = search (rules, arith)
blocks_not h (Caller n) c m _ z = search (rules, arith)
