-- What a worker's drive leads to, and how it ends.
use Rattle.std.proofs.Common.{◌≡◌, Option, ℕ, ◌≤◌, ◌-◌, ◌==◌, Bool, false, not, refl, sym, subst, ap, ◌∙◌, arith}
use Rattle.std.proofs.Math.Nat.{le_antisymm, le_refl, le_trans, sub-le}
use Rattle.rayon_machine_places.specs.declared.place.Party.{Party}
use Rattle.rayon_machine_places.specs.declared.place.Party.TheVariants.{Worker}
use Rattle.rayon_machine_places.specs.declared.place.Target.TheVariants.{Termination, Answer}
use Rattle.rayon_machine_places.specs.declared.place.Then.{Then}
use Rattle.rayon_machine_places.specs.declared.place.Then.TheVariants.{BeginFound, LeaveWait, Await, Gathers}
use Rattle.rayon_machine_places.specs.declared.place.Move.{Move}
use Rattle.rayon_machine_places.specs.declared.place.Move.TheVariants.{Stay}
use Rattle.rayon_machine_places.specs.declared.act.Act.{Act}
use Rattle.rayon_machine_places.specs.declared.act.Act.TheVariants as acts
use Rattle.rayon_machine_places.specs.declared.act.Seen.{Seen}
use Rattle.rayon_machine_places.specs.declared.shape.PoolShape.{PoolShape}
use Rattle.rayon_machine_places.specs.Places.{act_of, finish}
use Rattle.rayon_drive.specs.declared.trace.Log.{Log}
use Rattle.rayon_drive.specs.Paths.{goes}
use Rattle.rayon_drive.proofs.Paths.{driven_keeps}
use Rattle.rayon_atomics.specs.declared.views.Teller.{Teller}
use Rattle.rayon_machine_places.specs.declared.place.Count.{Count}
use Rattle.rayon_machine_places.specs.declared.place.Count.TheVariants.{OfPool, OfScope, OfCast}
use Rattle.rayon_performers.specs.Hands.{Hands, Does, Needs, Sees, Told, after, counted}
use Rattle.rayon_shared.specs.AtHand.{is_yes}
use Rattle.rayon_performers.specs.Keeps.{at_stays, does_at, ended, going}
use Rattle.rayon_shared.specs.Marks.{GivesUnit, Marks, Tally}
use Rattle.rayon_shared.specs.Seats.{Resting}
use Rattle.rayon_performers.specs.Stands.{Anyhow, At, Ended, Hand, Last, Next, hand}
use Rattle.rayon_performers.specs.Waits.{SameSeat}
use Rattle.rayon_performers.specs.Paths.{WorkerGoes}
use Rattle.rayon_performers.proofs.Stretches.{So, and_then}

module _ {X G O F : Type 0} where
  -- no step of a count changes whose bench it is
  counted_seat : (k : Count) (s t : Hands X G O F) → SameSeat s (counted k t s)
  counted_seat (OfPool p) s t = (refl, refl)
  counted_seat (OfScope c o) s t = (refl, refl)
  counted_seat (OfCast c o) s t = (refl, refl)

  -- and no act does
  after_seat : (a : Act) (x : Seen) (s t : Hands X G O F) → SameSeat s (after a x t s)
  after_seat (acts.Probe l) x s t = (refl, refl)
  after_seat (acts.Raise (OfPool p) n) x s t = (refl, refl)
  after_seat (acts.Raise (OfScope c o) n) x s t = (refl, refl)
  after_seat (acts.Raise (OfCast c o) n) x s t = (refl, refl)
  after_seat (acts.Lower (OfPool p) b) x s t = (refl, refl)
  after_seat (acts.Lower (OfScope c o) b) x s t = (refl, refl)
  after_seat (acts.Lower (OfCast c o) b) x s t = (refl, refl)
  after_seat (acts.RaiseAll c) x s t = counted_seat c.count s t
  after_seat (acts.LowerAll c) x s t = counted_seat c.count s t
  after_seat _ x s t = (refl, refl)

  pub does_stays : (a : Act) (x : Seen) (s t : Hands X G O F) → Does a x s t → SameSeat s t
  does_stays a x s t d = subst (λ (z : Hands X G O F). SameSeat s z) (sym d.0) (after_seat a x s t)

  pub seat_then : (s t u : Hands X G O F) → SameSeat s t → SameSeat t u → SameSeat s u
  seat_then s t u a b = (b.0 ∙ a.0, b.1 ∙ a.1)

  pub drive_stays : (h : PoolShape) (i : ℕ) (m : Move) (s u : Hands X G O F) (n : Move) → So h i m s n u → SameSeat s u
  drive_stays h i m s u n d = driven_keeps (λ (a : Hands X G O F) x y b. Does x y a b) (λ (a : Hands X G O F). a.trace) (λ (v : Hands X G O F) k. SameSeat s v) h (Worker 0 i) (λ v k y e b. b) (λ v w y x r b f. seat_then s v w b (does_stays (act_of (Worker 0 i) y) x v w f)) m s u n (refl, refl) d

  -- a path goes on by another of the same worker, from where the table leads in its pool: no act changes whose bench it is
  pub then_at : (m : Move) (n : PoolShape → ℕ → Move) (l : Move) (s t u : Hands X G O F) → WorkerGoes m s t (n s.shape s.index) → WorkerGoes (n t.shape t.index) t u l → WorkerGoes m s u l
  then_at m n l s t u a b =
      let same = drive_stays s.shape s.index m s t (n s.shape s.index) a in
      and_then s.shape s.index m s (n s.shape s.index) l t u a
      (subst (λ (z : ℕ). So s.shape z (n s.shape z) t l u) same.0 (subst (λ (z : PoolShape). So z t.index (n z t.index) t l u) same.1 b))

  -- the same from a move that is named by neither
  pub then_goes : (m n l : Move) (s t u : Hands X G O F) → WorkerGoes m s t n → WorkerGoes n t u l → WorkerGoes m s u l
  then_goes m n l s t u a b = then_at m (λ h i. n) l s t u a b

  pub rests_there : (q : Party) (s : Hands X G O F) (m : Move) → goes m ≡ false → At Anyhow q s m → Resting s.chair
  rests_there q s m g a = (ended Anyhow q s m g a).1

  -- with the same at hand only those seats and the trace are others
  abbrev pub whole : Hand X G O F → Marks → Log → Hands X G O F
  whole s k l = record { index = s.index; shape = s.shape; deques = s.deques; own = s.own; inlet = s.inlet; thief = s.thief; task = s.task; call = s.call; reply = s.reply; done = s.done; outcome = s.outcome; guards = s.guards; probed = s.probed; holds = s.holds; tally = s.tally; marks = k; chair = s.chair; trace = l }

  pub told_by : (s u : Hands X G O F) → hand u ≡ hand s → Told s u
  told_by s u e = ap (λ (z : Hand X G O F). whole z u.marks u.trace) e

module _ {X G O F : Type 0} (E : Move → Hand X G O F → Type 0) where
  -- a drive leads on to where it ends
  pub drive_ends : (h : PoolShape) (i : ℕ) (m : Move) (s u : Hands X G O F) (n : Move) → At E (Worker 0 i) s m → So h i m s n u → goes n ≡ false → E n (hand u) × Resting u.chair × Ended (hand u) n
  drive_ends h i m s u n a d g = ended E (Worker 0 i) u n g (driven_keeps (λ (b : Hands X G O F) x y c. Does x y b c) (λ (b : Hands X G O F). b.trace) (λ (v : Hands X G O F) k. At E (Worker 0 i) v k) h (Worker 0 i) (λ v k y e b. at_stays E (Worker 0 i) v k y e b) (λ v w y x r b f. does_at E v w h 0 i y x (going E (Worker 0 i) v (Stay y) (ap not r) b) f) m s u n a d)

  -- an end of a drive follows, in whose hand as many units are, and this seat of a scope's count
  last_next : (s : Hand X G O F) (n : ℕ) (y : Option Tally) (p i : ℕ) (t : Then) → Last s (finish (Worker p i) t) → E (finish (Worker p i) t) (record s { holds = n; tally = y }) → Next E (record s { holds = n; tally = y }) (finish (Worker p i) t)
  last_next s n y p i (BeginFound g k) l e = (e, l)
  last_next s n y p i (LeaveWait Termination) l e = (e, l)
  last_next s n y p i (LeaveWait (Answer o f)) l e = absurd l
  last_next s n y p i (Await o) l e = absurd l
  last_next s n y p i (Gathers o) l e = absurd l
  last_next s n y p i _ l e = (e, l)

  pub follows : (s u : Hands X G O F) (n : ℕ) (y : Option Tally) (p i : ℕ) (t : Then) → hand u ≡ record (hand s) { holds = n; tally = y } → Last (hand s) (finish (Worker p i) t) → Resting s.chair → E (finish (Worker p i) t) (hand u) → Next E (hand u) (finish (Worker p i) t) × Resting u.chair
  follows s u n y p i t e l r f = (subst (λ (z : Hand X G O F). Next E z (finish (Worker p i) t)) (sym e) (last_next (hand s) n y p i t l (subst (λ (z : Hand X G O F). E (finish (Worker p i) t) z) e f)), subst (λ (z : Hand X G O F). Resting z.chair) (sym e) r)

-- no unit of the pool's count is given back where as many stand for the worker's calls afterwards
gives_none : (n : ℕ) (b : Bool) (v w : Teller) → n - 1 ≡ n → GivesUnit (n == 1) b v w → w ≡ v
gives_none n b v w e g =
    let none : n ≡ 0 = omega arith in
    (subst (λ (z : ℕ). GivesUnit (z == 1) b v w) none g).0

module _ {X G O F : Type 0} where
  -- as many units or fewer stand for the worker's calls, and where as many do its seat of the terminate count is the same
  abbrev pub Counts : Hands X G O F → Hands X G O F → Type 0
  Counts s t = (t.holds ≤ s.holds) × (t.holds ≡ s.holds → t.marks.count ≡ s.marks.count)

  -- no act of a drive takes a unit
  after_counts : (a : Act) (x : Seen) (s t : Hands X G O F) → Needs a s → Sees a x s t → Counts s (record (after a x t s) { trace = t.trace })
  after_counts (acts.Lower (OfPool p) b) x s t k d = (sub-le s.holds 1, λ e. gives_none s.holds (is_yes x) s.marks.count t.marks.count e d)
  after_counts (acts.Lower (OfScope c o) b) x s t k d = absurd k
  after_counts (acts.Lower (OfCast c o) b) x s t k d = absurd k
  after_counts (acts.Raise k n) x s t a d = absurd a
  after_counts (acts.RaiseAll c) x s t a d = absurd a
  after_counts (acts.LowerAll c) x s t a d = absurd a
  after_counts _ x s t k d = (le_refl s.holds, λ e. refl)

  does_counts : (a : Act) (x : Seen) (s t : Hands X G O F) → Needs a s → Does a x s t → Counts s t
  does_counts a x s t k d = subst (λ (z : Hands X G O F). Counts s z) (sym d.0) (after_counts a x s t k d.1)

  counts_then : (s t u : Hands X G O F) → Counts s t → Counts t u → Counts s u
  counts_then s t u a b = (
    le_trans b.0 a.0,
    λ e.
        let same : t.holds ≡ s.holds = le_antisymm a.0 (subst (λ (z : ℕ). z ≤ t.holds) e b.0) in
        b.1 (e ∙ sym same) ∙ a.1 same,
  )

  -- a drive after which as many units stand for the worker's calls leaves its seat of the terminate count
  pub drive_counts : (E : Move → Hand X G O F → Type 0) (h : PoolShape) (i : ℕ) (m : Move) (s u : Hands X G O F) (n : Move) → At E (Worker 0 i) s m → So h i m s n u → hand u ≡ hand s → u.marks.count ≡ s.marks.count
  drive_counts E h i m s u n a d e = (driven_keeps (λ (b : Hands X G O F) x y c. Does x y b c) (λ (b : Hands X G O F). b.trace) (λ (v : Hands X G O F) k. At E (Worker 0 i) v k × Counts s v) h (Worker 0 i) (λ v k y e b. (at_stays E (Worker 0 i) v k y e b.0, b.1)) (λ v w y x r b f. let here = going E (Worker 0 i) v (Stay y) (ap not r) b.0 in (does_at E v w h 0 i y x here f, counts_then s v w b.1 (does_counts (act_of (Worker 0 i) y) x v w here.0 f))) m s u n (a, (le_refl s.holds, λ e. refl)) d).1.1 (ap (λ (z : Hand X G O F). z.holds) e)
