-- How an outside caller's broadcast goes, from act to act.
use Rattle.std.specs.Prelude.{ℕ, ◌+◌, ◌&&◌, nat_lt, if◌then◌else◌, Bool, List, [], ◌∷◌}
use Rattle.std.proofs.Common.{Option, Some, ◌≡◌, ◌⊎◌, inl, inr, true, false, true≢false, refl, sym, subst, ap, ◌∙◌}
use Rattle.rayon_machine_places.specs.declared.act.Act.{Act}
use Rattle.rayon_machine_places.specs.declared.act.Act.TheVariants as acts
use Rattle.rayon_machine_places.specs.declared.act.Seen.{Seen}
use Rattle.rayon_machine_places.specs.declared.act.Seen.TheVariants.{Done, Refused, Yes}
use Rattle.rayon_machine_places.specs.declared.place.Count.{Count}
use Rattle.rayon_machine_places.specs.declared.place.Count.TheVariants.{OfCast, OfPool, OfScope}
use Rattle.rayon_machine_places.specs.declared.place.Latch.{Latch}
use Rattle.rayon_machine_places.specs.declared.place.Latch.TheVariants.{OfCall, Terminate}
use Rattle.rayon_machine_places.specs.declared.place.Mark.TheVariants.{Counted, Queued, Returned}
use Rattle.rayon_machine_places.specs.declared.place.Move.{Move}
use Rattle.rayon_machine_places.specs.declared.place.Move.TheVariants.{Back, HandAllBack, Mark, Stay}
use Rattle.rayon_machine_places.specs.declared.place.Party.TheVariants.{Caller, Worker}
use Rattle.rayon_machine_places.specs.declared.place.Pieces.{Pieces}
use Rattle.rayon_machine_places.specs.declared.place.Place.{Place}
use Rattle.rayon_machine_places.specs.declared.place.Place.TheVariants as at
use Rattle.rayon_machine_places.specs.declared.place.Settling.{Settling}
use Rattle.rayon_machine_places.specs.declared.place.Then.{Then}
use Rattle.rayon_machine_places.specs.declared.place.Then.TheVariants.{Called, Resume}
use Rattle.rayon_machine_places.specs.declared.shape.PoolShape.{PoolShape}
use Rattle.rayon_machine_places.specs.Places.{act_of, after_set, begin_cast, call_all, end_cast, ends_count, finish, is_rest, next_of, settle, walk}
use Rattle.rayon_drive.specs.Moves.{stays_at}
use Rattle.rayon_drive.specs.declared.trace.Log.{Log}
use Rattle.rayon_drive.specs.Paths.{IsPath, Leads, act_at, goes, onward}
use Rattle.rayon_drive.specs.Traces.{Adds}
use Rattle.rayon_drive.proofs.Paths.{driven_from, driven_keeps, driven_then, goes_on, starts}
use Rattle.rayon_shared.specs.AtHand.{is_yes}
use Rattle.rayon_shared.specs.Casts.{AreTasksOf, TasksBy, cast_tasks, casting}
use Rattle.rayon_shared.specs.Marks.{Marks}
use Rattle.rayon_tasks.specs.Pieces.{pieces_for}
use Rattle.rayon_tasks.specs.Tasks.{TaskOf}
use Rattle.rayon_tasks.specs.Tickets.{TicketOf}
use Rattle.rayon_atomics.specs.declared.views.Teller.{Teller}
use Rattle.rayon_guests.specs.Casts.{Casts, HandsBack, Made, Same}
use Rattle.rayon_guests.specs.Visits.{Visit, CastsTo, Does, IsNewCast, LowersAll}
use Rattle.rayon_guests.proofs.Visits.{So}

-- after this an outside caller's call is over
abbrev Ends : Then → Type 0
Ends Called = Unit {0}
Ends Resume = Unit {0}
Ends _ = ⊥

-- workers are woken or latches are set, and then the call is over
abbrev ClosesAt : Place → Type 0
ClosesAt (at.LockToWake k) = Ends k.then
ClosesAt (at.WakeWorker k) = Ends k.then
ClosesAt (at.UnlockWoken k) = Ends k.then
ClosesAt (at.SetLatch x) = Ends x.then
ClosesAt (at.LockToSettle x) = Ends x.then
ClosesAt (at.WakeSettled x) = Ends x.then
ClosesAt (at.UnlockSettled x) = Ends x.then
ClosesAt (at.SetLockLatch c t) = Ends t
ClosesAt _ = ⊥

abbrev pub Closes : Move → Type 0
Closes (Stay y) = ClosesAt y
Closes (Mark y c k) = ClosesAt y
Closes Back = Unit {0}
Closes _ = ⊥

-- so it is where a count is 0
ends_closes : (c : Count) → Closes (Stay (ends_count c))
ends_closes (OfPool p) = tt
ends_closes (OfScope c (Worker p i)) = tt
ends_closes (OfScope c (Caller n)) = tt
ends_closes (OfCast c (Worker p i)) = tt
ends_closes (OfCast c (Caller n)) = tt

finish_closes : (t : Then) → Ends t → Closes (finish (Caller 0) t)
finish_closes Called e = tt
finish_closes Resume e = tt
finish_closes _ e = absurd e

walk_closes : (h : PoolShape) (r k j : ℕ) (t : Then) → Ends t → Closes (walk h (Caller 0) r k j t)
walk_closes h r k j t e = by (nat_lt 0 k && nat_lt j h.workers)
  where
    by : (z : Bool) → Closes (if z then Stay (at.LockToWake (record { pool = r; owed = k; worker = j; then = t })) else finish (Caller 0) t)
    by true = e
    by false = finish_closes t e

settle_closes : (h : PoolShape) (r j : ℕ) (t : Then) → Ends t → Closes (settle h (Caller 0) r j t)
settle_closes h r j t e = by (nat_lt j h.workers)
  where
    by : (z : Bool) → Closes (if z then Stay (at.SetLatch (record { latch = Terminate; pool = r; worker = j; then = t })) else finish (Caller 0) t)
    by true = e
    by false = finish_closes t e

after_set_closes : (h : PoolShape) (x : Settling) (l : Latch) → Ends x.then → Closes (after_set h (Caller 0) x l)
after_set_closes h x Terminate e = settle_closes h x.pool (x.worker + 1) x.then e
after_set_closes h x (OfCall c) e = finish_closes x.then e

closes_on : (h : PoolShape) (y : Place) (x : Seen) → Closes (Stay y) → Closes (next_of h (Caller 0) y x)
closes_on h (at.LockToWake k) _ a = a
closes_on h (at.WakeWorker k) Yes a = a
closes_on h (at.WakeWorker k) _ a = a
closes_on h (at.UnlockWoken k) _ a = walk_closes h k.pool k.owed (k.worker + 1) k.then a
closes_on h (at.SetLatch x) Yes a = a
closes_on h (at.SetLatch x) _ a = after_set_closes h x x.latch a
closes_on h (at.LockToSettle x) _ a = a
closes_on h (at.WakeSettled x) _ a = a
closes_on h (at.UnlockSettled x) _ a = after_set_closes h x x.latch a
closes_on h (at.SetLockLatch c t) _ a = finish_closes t a
closes_on h _ _ a = absurd a

-- the tasks of the pieces of a broadcast that waits for nothing
pub are_tasks : {X : Type 0} (c : Pieces) (f n : ℕ) (v : Log) (ts : List (TaskOf X)) → c ≡ casting f n → ts ≡ cast_tasks (Caller 0) c → AreTasksOf (Caller 0) v c ts
are_tasks c f n v ts e = subst (λ (z : Pieces). ts ≡ cast_tasks (Caller 0) z → AreTasksOf (Caller 0) v z ts) (sym e) (λ a. a)

-- and of one that waits, where each has a share of the call's ticket
pub are_shares : {X : Type 0} (c : Pieces) (k : Option TicketOf) (u : TicketOf) (v : Log) (ts : List (TaskOf X)) → CastsTo c k → k ≡ Some u → ts ≡ pieces_for u c.first c.workers → AreTasksOf (Caller 0) v c ts
are_shares c k u v ts a e is = subst (λ (z : Count). TasksBy z (Caller 0) v c ts) (sym a.1) (u, subst (λ (z : Option TicketOf). IsNewCast c.workers a.0 z) e a.2, is)

-- where a call is over, or pieces are handed back or marked, the table leads to no place alone
abbrev pub IsNoStay : Move → Type 0
IsNoStay (Stay y) = ⊥
IsNoStay _ = Unit {0}

pub no_stay : (m : Move) → IsNoStay m → (y : Place) → m ≡ Stay y → is_rest y ≡ true
no_stay m i y e = absurd (subst IsNoStay e i)

module _ {X G O F H : Type 0} where
  -- nothing is another but the trace, and the seat by which a latch was set last
  abbrev Left : Visit X G O F H → Visit X G O F H → Type 0
  Left s t = Same s t × (t.marks.count ≡ s.marks.count)

  left_by : (s t : Visit X G O F H) (y : Place) (x : Seen) → Closes (Stay y) → Does (act_of (Caller 0) y) x s t → Left s t
  left_by s t (at.LockToWake k) x a d = ((d.0, d.1, d.2), ap (λ (m : Marks). m.count) d.6)
  left_by s t (at.WakeWorker k) x a d = ((d.0, d.1, d.2), ap (λ (m : Marks). m.count) d.6)
  left_by s t (at.UnlockWoken k) x a d = ((d.0, d.1, d.2), ap (λ (m : Marks). m.count) d.6)
  left_by s t (at.SetLatch z) x a d = ((d.0, d.1, d.2), d.6.0)
  left_by s t (at.LockToSettle z) x a d = ((d.0, d.1, d.2), ap (λ (m : Marks). m.count) d.6)
  left_by s t (at.WakeSettled z) x a d = ((d.0, d.1, d.2), ap (λ (m : Marks). m.count) d.6)
  left_by s t (at.UnlockSettled z) x a d = ((d.0, d.1, d.2), ap (λ (m : Marks). m.count) d.6)
  left_by s t (at.SetLockLatch c n) x a d = ((d.0, d.1, d.2), ap (λ (m : Marks). m.count) d.6)
  left_by s t _ x a d = absurd a

  -- workers are woken or latches are set, and there is nothing else
  pub closed : (h : PoolShape) (m n : Move) (s u : Visit X G O F H) → Closes m → So h m s n u → Closes n × Left s u
  closed h m n s u c d = driven_keeps (λ (v : Visit X G O F H) x y w. Does x y v w) (λ (v : Visit X G O F H). v.trace) Stood h (Caller 0) (stays_at Stood (λ v y c k b. b) (λ v y k b. absurd b.0)) keeps m s u n (c, ((refl, refl, refl), refl)) d
    where
      Stood : Visit X G O F H → Move → Type 0
      Stood v k = Closes k × Left s v

      keeps : (v w : Visit X G O F H) (y : Place) (x : Seen) → is_rest y ≡ false → Closes (Stay y) × Left s v → Does (act_of (Caller 0) y) x v w → Closes (next_of h (Caller 0) y x) × Left s w
      keeps v w y x r b e =
          let k = left_by v w y x b.0 e in
          (closes_on h y x b.0, ((k.0.0 ∙ b.1.0.0, k.0.1 ∙ b.1.0.1, k.0.2 ∙ b.1.0.2), k.1 ∙ b.1.1))

  -- each worker is called
  pub called : (h : PoolShape) (c : Pieces) (s u : Visit X G O F H) → c.pool ≡ 0 → c.workers ≡ h.workers → So h (Stay (at.LockToWake (record { pool = 0; owed = c.workers; worker = 0; then = Called }))) s Back u → So h (Mark (call_all h c) c Queued) s Back u
  called h c s u pool all d =
      let each = subst (λ (k : ℕ). So h (Stay (at.LockToWake (record { pool = 0; owed = k; worker = 0; then = Called }))) s Back u) all d in
      let there = subst (λ (r : ℕ). So h (Stay (at.LockToWake (record { pool = r; owed = h.workers; worker = 0; then = Called }))) s Back u) (sym pool) each in
      driven_from (λ (v : Visit X G O F H) x y w. Does x y v w) (λ (v : Visit X G O F H). v.trace) h (Caller 0) (Mark (call_all h c) c Queued) (call_all h c) s u Back refl refl (no_stay Back tt) there

  -- a path of one act
  pub one : (m : Move) (x : Seen) (s t : Visit X G O F H) → goes m ≡ true → Made (act_at (Caller 0) m) x s t → So s.shape m s (onward s.shape (Caller 0) m x) t
  one m x s t g d =
      let none = starts (λ (v : Visit X G O F H) a y w. Does a y v w) (λ (v : Visit X G O F H). v.trace) s.shape (Caller 0) m s in
      goes_on (λ (v : Visit X G O F H) a y w. Does a y v w) (λ (v : Visit X G O F H). v.trace) s.shape (Caller 0) m s s m x t none g d.0 d.1

  -- one path after another
  pub joined : (h : PoolShape) (m k n : Move) (s u t : Visit X G O F H) → So h m s k u → So h k u n t → So h m s n t
  joined h m k n s u t d e = driven_then (λ (v : Visit X G O F H) x y w. Does x y v w) (λ (v : Visit X G O F H). v.trace) h (Caller 0) m s u k t n d e

  -- a path that ends where the program does not go on has a first act, or none
  begins : (h : PoolShape) (k m : Move) (s t : Visit X G O F H) → goes k ≡ true → goes m ≡ false → So h k s m t → (x : Seen) × (u : Visit X G O F H) × Made (act_at (Caller 0) k) x s u × So h (onward h (Caller 0) k x) u m t
  begins h k m s t g r d = by d.0 d.1 d.2
    where
      by : (xs : List (Act × Seen)) → Leads (λ (v : Visit X G O F H) a y w. Does a y v w) (λ (v : Visit X G O F H). v.trace) s xs t → IsPath h (Caller 0) k xs m → (x : Seen) × (u : Visit X G O F H) × Made (act_at (Caller 0) k) x s u × So h (onward h (Caller 0) k x) u m t
      by [] l is = absurd (true≢false (sym g ∙ ap goes is ∙ r))
      by (x ∷ xs) l is = (x.1, l.0, (subst (λ (a : Act). Does a x.1 s l.0) is.1 l.1, subst (λ (a : Act). Adds a x.1 s.trace l.0.trace) is.1 l.2), (xs, l.3, is.2))

  stopped : (h : PoolShape) (k m : Move) (s t : Visit X G O F H) → goes k ≡ false → So h k s m t → s ≡ t
  stopped h k m s t r d = by d.0 d.1 d.2
    where
      by : (xs : List (Act × Seen)) → Leads (λ (v : Visit X G O F H) a y w. Does a y v w) (λ (v : Visit X G O F H). v.trace) s xs t → IsPath h (Caller 0) k xs m → s ≡ t
      by [] l is = l
      by (x ∷ xs) l is = absurd (true≢false (sym is.0 ∙ r))

  -- the shares of all pieces are given back, and what is in hand is the same
  abbrev GivenBack : Pieces → Visit X G O F H → Visit X G O F H → Type 0
  GivenBack c s t = HandsBack (Stay (at.LowerForAll c)) c s t × ((b : Bool) × LowersAll c.count c.workers b s.marks.count t.marks.count) × Same s t

  -- they were not the last; or they were, and latches are set
  pub lowered : (c : Pieces) (s t : Visit X G O F H) (m : Move) → goes m ≡ false → (m ≡ Back) ⊎ ((w : Pieces) × (m ≡ HandAllBack w)) → So s.shape (Stay (at.LowerForAll c)) s m t → GivenBack c s t
  lowered c s t m r i d = by first.0 first.1 first.2 first.3
    where
      start : Move
      start = Stay (at.LowerForAll c)

      first : (x : Seen) × (u : Visit X G O F H) × Made (acts.LowerAll c) x s u × So s.shape (next_of s.shape (Caller 0) (at.LowerForAll c) x) u m t
      first = begins s.shape start m s t refl r d

      last : (u : Visit X G O F H) → (m ≡ Back) ⊎ ((w : Pieces) × (m ≡ HandAllBack w)) → Made (acts.LowerAll c) Yes s u → So s.shape (Mark (ends_count c.count) c Returned) u m t → GivenBack c s t
      last u (inl j) e f =
          let ends = subst (λ (n : Move). So s.shape (Mark (ends_count c.count) c Returned) u n t) j f in
          let k = (closed s.shape (Mark (ends_count c.count) c Returned) m u t (ends_closes c.count) f).1 in
          let units = subst (λ (v : Teller). LowersAll c.count c.workers true s.marks.count v) (sym k.1) e.0.6.1 in
          (inr (u, one start Yes s u refl e, subst (λ (h : PoolShape). So h (Mark (ends_count c.count) c Returned) u Back t) (sym e.0.1) ends), (true, units), (k.0.0 ∙ e.0.0, k.0.1 ∙ e.0.1, k.0.2 ∙ e.0.2))
      last u (inr j) e f = absurd (subst Closes j.1 (closed s.shape (Mark (ends_count c.count) c Returned) m u t (ends_closes c.count) f).0)

      by : (x : Seen) (u : Visit X G O F H) → Made (acts.LowerAll c) x s u → So s.shape (next_of s.shape (Caller 0) (at.LowerForAll c) x) u m t → GivenBack c s t
      by Yes u e f = last u i e f
      by x u e f = subst (λ (v : Visit X G O F H). GivenBack c s v) (stopped s.shape (HandAllBack c) m u t refl f) (inl (one start x s u refl e), (is_yes x, e.0.6.1), (e.0.0, e.0.1, e.0.2))

  -- the units are refused
  pub unraised : (c : Pieces) (s t : Visit X G O F H) → Made (acts.RaiseAll c) Refused s t → HandsBack (Stay (at.RaiseForAll c)) c s t
  unraised c s t d = inl (one (Stay (at.RaiseForAll c)) Refused s t refl d)

  -- pieces are handed back after what came before
  pub then_back : (c : Pieces) (m k : Move) (s u t : Visit X G O F H) → u.shape ≡ s.shape → So s.shape m s k u → HandsBack k c u t → HandsBack m c s t
  then_back c m k s u t same d (inl p) = inl (joined s.shape m k (HandAllBack c) s u t d (subst (λ (h : PoolShape). So h k u (HandAllBack c) t) same p))
  then_back c m k s u t same d (inr p) = inr (p.0, joined s.shape m k (Mark (ends_count c.count) c Returned) s u p.0 d (subst (λ (h : PoolShape). So h k u (Mark (ends_count c.count) c Returned) p.0) same p.1), p.2)

  -- the units are taken, and the push saw this
  raised_to : (c : Pieces) (s u v : Visit X G O F H) (x : Seen) → c.count ≡ OfPool 0 → Made (acts.RaiseAll c) Done s u → Made (acts.PushCast c) x u v → So s.shape (Stay (at.RaiseForAll c)) s (next_of s.shape (Caller 0) (at.PushForAll c) x) v
  raised_to c s u v x e a b =
      let counted = subst (λ (k : Count). So s.shape (Stay (at.RaiseForAll c)) s (Mark (begin_cast k c) c Counted) u) e (one (Stay (at.RaiseForAll c)) Done s u refl a) in
      goes_on (λ (k : Visit X G O F H) j y w. Does j y k w) (λ (k : Visit X G O F H). k.trace) s.shape (Caller 0) (Stay (at.RaiseForAll c)) s u (Mark (at.PushForAll c) c Counted) x v counted refl b.0 b.1

  -- all is done
  pub cast_done : (c : Pieces) (s u v t : Visit X G O F H) → c.count ≡ OfPool 0 → Made (acts.RaiseAll c) Done s u → Made (acts.PushCast c) Done u v → So v.shape (Mark (call_all v.shape c) c Queued) v Back t → Casts c s t
  cast_done c s u v t e a b d = (v, raised_to c s u v Done e a b, subst (λ (h : PoolShape). So v.shape (Mark (call_all h c) c Queued) v Back t) (b.0.1 ∙ a.0.1) d)

  -- the push is refused
  pub unpushed : (c : Pieces) (s u v t : Visit X G O F H) → c.count ≡ OfPool 0 → Made (acts.RaiseAll c) Done s u → Made (acts.PushCast c) Refused u v → HandsBack (Stay (at.LowerForAll c)) c v t → HandsBack (Stay (at.RaiseForAll c)) c s t
  unpushed c s u v t e a b d =
      let refused = subst (λ (k : Count). So s.shape (Stay (at.RaiseForAll c)) s (Stay (end_cast k c)) v) e (raised_to c s u v Refused e a b) in
      then_back c (Stay (at.RaiseForAll c)) (Stay (at.LowerForAll c)) s v t (b.0.1 ∙ a.0.1) refused d
