-- What an outside caller has at each place of its calls.
use Rattle.std.specs.Prelude.{◌≡◌, ℕ, ◌+◌, ◌<◌, ◌^◌, nat_lt, ◌&&◌, if◌then◌else◌, is_some, Bool, true, false, Option, None, Some}
use Rattle.std.proofs.Common.{refl, sym, subst, ap, ◌∙◌}
use Rattle.rayon_machine_places.specs.declared.place.Count.{Count}
use Rattle.rayon_machine_places.specs.declared.place.Count.TheVariants.{OfCast, OfPool, OfScope}
use Rattle.rayon_machine_places.specs.declared.place.Party.{Party}
use Rattle.rayon_machine_places.specs.declared.place.Party.TheVariants.{Worker, Caller}
use Rattle.rayon_machine_places.specs.declared.act.Act.TheVariants as acts
use Rattle.rayon_machine_places.specs.declared.place.Gathering.{Gathering}
use Rattle.rayon_machine_places.specs.declared.place.Latch.{Latch}
use Rattle.rayon_machine_places.specs.declared.place.Latch.TheVariants.{Terminate, OfCall}
use Rattle.rayon_machine_places.specs.declared.place.OpenCall.{OpenCall}
use Rattle.rayon_machine_places.specs.declared.place.Plan.{Plan}
use Rattle.rayon_machine_places.specs.declared.place.Plan.TheVariants.{Send, Detach, Here, Open, Enter, Gather}
use Rattle.rayon_machine_places.specs.declared.place.Then.{Then}
use Rattle.rayon_machine_places.specs.declared.place.Then.TheVariants.{Resume}
use Rattle.rayon_machine_places.specs.declared.place.Settling.{Settling}
use Rattle.rayon_machine_places.specs.declared.place.Place.{Place}
use Rattle.rayon_machine_places.specs.declared.place.Place.TheVariants as at
use Rattle.rayon_machine_places.specs.declared.place.Move.{Move}
use Rattle.rayon_machine_places.specs.declared.place.Move.TheVariants.{Stay, Back, HandAllBack, HandBack, Mark, StartRun}
use Rattle.rayon_machine_places.specs.declared.act.Seen.{Seen}
use Rattle.rayon_machine_places.specs.declared.act.Seen.TheVariants.{Done, Yes, Wakes, Found}
use Rattle.rayon_machine_places.specs.declared.shape.PoolShape.{PoolShape}
use Rattle.rayon_machine_places.specs.Places.{act_of, ends_count, next_of, finish, walk, set_call, settle, after_set, after_news, after_push, after_raise, after_slot, plan_call, plan_job, plan_pool, undo, is_rest}
use Rattle.rayon_drive.specs.Moves.{stays_at}
use Rattle.rayon_drive.specs.Paths.{place_of}
use Rattle.rayon_queues.specs.Deques.{Visitor}
use Rattle.rayon_tasks.specs.Tasks.{TaskOf}
use Rattle.rayon_tasks.specs.Tickets.{CoreOf, TicketOf, call_alone}
use Rattle.rayon_guests.specs.declared.load.Load.{Load}
use Rattle.rayon_guests.specs.declared.load.Load.TheVariants.{Cast, Job, Sides, Detached, Scoped}
use Rattle.rayon_shared.specs.AtHand.{HasTicket}
use Rattle.rayon_shared.specs.Marks.{IsScope, scope_in}
use Rattle.rayon_guests.specs.Visits.{Visit, Hand, hand, Needs, Does, Grown, GrownFor, HasCall, HasCount, IsCast, IsNewCast, IsNewScope, LentFor, Packed, after, detached_ticket, first_of, if_done, sent, ticket_of, unit_after}

-- who waits for a scope's end is a worker of the one pool that there is, or an outside caller
abbrev pub IsHere : Party → Type 0
IsHere (Worker r i) = r ≡ 0
IsHere (Caller n) = Unit {0}

-- so is who waits for this count to be 0
abbrev pub WaitsHere : Count → Type 0
WaitsHere (OfScope c q) = IsHere q
WaitsHere _ = Unit {0}

-- a call that waits for what it queues
abbrev pub IsSend : Plan → Type 0
IsSend (Send o) = Unit {0}
IsSend _ = ⊥

-- a call whose acts are all made in one drive: it opens no scope
abbrev pub IsWhole : Plan → Type 0
IsWhole (Open o) = ⊥
IsWhole _ = Unit {0}

-- a spawn into a scope
abbrev pub IsEnter : Plan → Type 0
IsEnter (Enter e) = Unit {0}
IsEnter _ = ⊥

-- pieces are handed back under this plan: no caller runs a job at once, so it stands for no other call
abbrev pub HandsAll : Plan → Type 0
HandsAll (Here p n) = Unit {0}
HandsAll _ = ⊥

-- whether a call holds a unit of the terminate count: a spawn into a scope has a share of the scope's count in its place
abbrev pub has_unit : Plan → Bool
has_unit (Enter e) = false
has_unit _ = true

-- the ticket is that of the call of a caller that opened this scope in the one pool that there is
abbrev pub OpensScope : OpenCall → Option TicketOf → Type 0
OpensScope o k = IsScope (scope_in k) o.number × HasCall o.number k × (o.pool ≡ 0)

-- a spawn into a scope has the scope's ticket in hand all along
abbrev pub KeepsCall : Plan → Option TicketOf → Option TicketOf → Type 0
KeepsCall (Enter e) k l = l ≡ k
KeepsCall _ k l = Unit {0}

-- a ticket of the scope of this call is one of that call
of_scope : (c : ℕ) (k : Option TicketOf) → IsScope (scope_in k) c → HasTicket k (Some c)
of_scope c None a = absurd a
of_scope c (Some u) a = by u.scope a
  where
    by : (z : Option CoreOf) → IsScope z c → elim z [ None ↦ call_alone u | Some w ↦ w.call ] ≡ c
    by None e = absurd e
    by (Some w) e = e

whole_as : (p n : Plan) → n ≡ p → IsWhole n → IsWhole p
whole_as p n e c = subst (λ (q : Plan). IsWhole q) e c

module _ {X G O F H : Type 0} where
  -- a load for whose results a call waits
  abbrev pub IsAwaited : Option (Load X G O F H) → Type 0
  IsAwaited (Some (Job j)) = Unit {0}
  IsAwaited (Some (Sides a b)) = Unit {0}
  IsAwaited _ = ⊥

  -- one that is detached, with this ticket
  abbrev pub IsDetached : TicketOf → Option (Load X G O F H) → Type 0
  IsDetached t (Some (Detached j k)) = k ≡ t
  IsDetached t _ = ⊥

  -- a job of a scope, which has no number yet
  abbrev pub IsScoped : Option (Load X G O F H) → Type 0
  IsScoped (Some (Scoped j k)) = (is_some k.scope ≡ true) × (k.slot ≡ 0)
  IsScoped _ = ⊥

  -- a call of this plan queues this load in a pool of so many workers, and has this ticket in hand: a spawn into a scope one of
  -- the scope. A broadcast is to all workers, and its pieces have shares of its own count
  abbrev pub Fits : ℕ → Plan → Option (Load X G O F H) → Option TicketOf → Type 0
  Fits w (Send o) l k = (o.pool ≡ 0) × (o.number ≡ o.job) × IsAwaited l
  Fits w (Detach p n) l k = (p ≡ 0) × IsDetached (detached_ticket n) l
  Fits w (Open o) l k = (o.pool ≡ 0) × (l ≡ None)
  Fits w (Enter e) l k = (e.pool ≡ 0) × IsHere e.owner × IsScoped l × IsScope (scope_in k) e.call
  Fits w (Gather g) l k = (g.call.pool ≡ 0) × IsCast l × (g.pieces.first + g.pieces.workers < 2 ^ 64) × (g.pieces.workers ≡ w) × (g.pieces.count ≡ OfCast g.call.number (Caller 0))
  Fits w _ l k = ⊥

  -- what is in hand where workers have been woken and latches set, in a call of this plan: the load was queued and the call
  -- waits, or is over; or it hands the load back
  abbrev pub Next : Plan → Hand X G O F H → Move → Type 0
  Next p s (Stay (at.WaitForLock o)) = HasCall o.number s.call × (o.pool ≡ 0) × (s.holds ≡ true) × (s.load ≡ None) × IsWhole p
  Next p s Back = (s.holds ≡ false) × (s.load ≡ None) × IsWhole p
  Next p s (HandBack n) = (n ≡ p) × (s.holds ≡ false) × Fits s.workers n s.load s.call
  Next p s _ = ⊥

  -- what is in hand beside what the act asks
  abbrev pub Holds : Plan → Hand X G O F H → Place → Type 0
  Holds p s (at.RaiseCount n) = (n ≡ p) × Fits s.workers n s.load s.call × (s.holds ≡ false)
  Holds p s (at.GrowCall n) = (n ≡ p) × Fits s.workers n s.load s.call × (s.holds ≡ true) × IsSend n
  Holds p s (at.GrowScope o) = (Open o ≡ p) × (o.pool ≡ 0) × (s.load ≡ None) × (s.holds ≡ true)
  Holds p s (at.GrowCast g) = (Gather g ≡ p) × Fits s.workers (Gather g) s.load s.call × (s.holds ≡ true)
  Holds p s (at.DealPieces g) = (Gather g ≡ p) × Fits s.workers (Gather g) s.load s.call × (s.holds ≡ true) × HasCall g.call.number s.call
  Holds p s (at.OpenSlot n) = (n ≡ p) × Fits s.workers n s.load s.call × (s.holds ≡ false) × IsEnter n
  Holds p s (at.CloseSlot n) = (n ≡ p) × Fits s.workers n s.load s.call × (s.holds ≡ false) × IsEnter n
  Holds p s (at.LookQueue n) = (n ≡ p) × Fits s.workers n s.load s.call × (s.holds ≡ has_unit n) × Needs (act_of (Caller 0) (at.PushJob n true)) s
  Holds p s (at.PushJob n e) = (n ≡ p) × Fits s.workers n s.load s.call × (s.holds ≡ has_unit n)
  Holds p s (at.TellNews n e) = Next p s (finish (Caller 0) (after_news n))
  Holds p s (at.LockToWake k) = Next p s (finish (Caller 0) k.then)
  Holds p s (at.WakeWorker k) = Next p s (finish (Caller 0) k.then)
  Holds p s (at.UnlockWoken k) = Next p s (finish (Caller 0) k.then)
  Holds p s (at.WaitForLock o) = (o.pool ≡ 0) × (s.holds ≡ true) × (s.load ≡ None) × IsWhole p
  Holds p s (at.TakeResult o f) = (o.pool ≡ 0) × (s.holds ≡ true) × (s.load ≡ None) × IsWhole p
  Holds p s (at.StoreBody o e) = Next p s (Stay (at.WaitForLock o))
  Holds p s (at.LowerCount (OfPool r) b t) = Next p (record s { holds = false }) (finish (Caller 0) t)
  Holds p s (at.LowerCount (OfScope c q) b t) = IsHere q × Next p s (finish (Caller 0) t)
  Holds p s (at.LowerForAll c) = HandsAll p × WaitsHere c.count × Next p s Back
  Holds p s (at.SetLatch x) = Next p s (finish (Caller 0) x.then)
  Holds p s (at.LockToSettle x) = Next p s (finish (Caller 0) x.then)
  Holds p s (at.WakeSettled x) = Next p s (finish (Caller 0) x.then)
  Holds p s (at.UnlockSettled x) = Next p s (finish (Caller 0) x.then)
  Holds p s (at.SetLockLatch c t) = Next p s (finish (Caller 0) t)
  Holds p s _ = ⊥

  -- the body of this scope runs: the call's ticket is in hand, and its unit
  abbrev pub InBody : OpenCall → Hand X G O F H → Type 0
  InBody o s = OpensScope o s.call × (s.holds ≡ true) × (s.load ≡ None)

  -- what is in hand where the body, a job of this name, of a scope begins to run that a call of this plan opened
  abbrev pub Opened : Plan → Hand X G O F H → ℕ → Place → Type 0
  Opened p s n (at.ScopeBody o) = (Open o ≡ p) × (n ≡ o.job) × InBody o s × (s.lent ≡ s.call)
  Opened p s n _ = ⊥

  -- what is in hand where a call of this plan has moved so
  abbrev pub At : Plan → Hand X G O F H → Move → Type 0
  At p s (Stay y) = Needs (act_of (Caller 0) y) s × Holds p s y
  At p s (Mark y c k) = Needs (act_of (Caller 0) y) s × Holds p s y
  At p s Back = Next p s Back
  At p s (HandBack n) = Next p s (HandBack n)
  At p s (HandAllBack c) = HandsAll p × Next p s Back
  At p s (StartRun y n) = Opened p s n y
  At p s _ = ⊥

  -- a call of some plan has moved so
  abbrev pub Stands : Hand X G O F H → Move → Type 0
  Stands s m = (p : Plan) × At p s m

  -- what became of the load of a call of this name, which began with that in hand and opened this number last: the very one is
  -- in hand, and nothing was pushed; or it was pushed, and nothing else
  abbrev pub KeptIn : ℕ → ℕ → Hand X G O F H → Option (Load X G O F H) → Visitor (TaskOf X) → Type 0
  KeptIn n m b (Some w) v = (Some w ≡ b.load) × (v ≡ b.inlet)
  KeptIn n m b None v = v ≡ sent n m b.load b.inlet

  abbrev pub Kept : ℕ → Hand X G O F H → Hand X G O F H → Type 0
  Kept n b s = KeptIn n s.slot b s.load s.inlet

  -- neither the pool's shape nor its terminate count nor the pass is another
  abbrev pub Keeps : Visit X G O F H → Visit X G O F H → Type 0
  Keeps s t = (t.shape ≡ s.shape) × (t.count ≡ s.count) × (t.inlet ≡ s.inlet)

  next_at : (p : Plan) (s : Hand X G O F H) (m : Move) → Next p s m → At p s m
  next_at p s (Stay (at.WaitForLock o)) a = (a.0, (a.1, a.2, a.3, a.4))
  next_at p s Back a = a
  next_at p s (HandBack n) a = a
  next_at p s _ a = absurd a

  walk_at : (p : Plan) (s : Hand X G O F H) (h : PoolShape) (r k j : ℕ) (t : Then) → r ≡ 0 → Next p s (finish (Caller 0) t) → At p s (walk h (Caller 0) r k j t)
  walk_at p s h r k j t e a = by (nat_lt 0 k && nat_lt j h.workers)
    where
      by : (z : Bool) → At p s (if z then Stay (at.LockToWake (record { pool = r; owed = k; worker = j; then = t })) else finish (Caller 0) t)
      by true = (e, a)
      by false = next_at p s (finish (Caller 0) t) a

  settle_at : (p : Plan) (s : Hand X G O F H) (h : PoolShape) (r j : ℕ) (t : Then) → r ≡ 0 → Next p s (finish (Caller 0) t) → At p s (settle h (Caller 0) r j t)
  settle_at p s h r j t e a = by (nat_lt j h.workers)
    where
      by : (z : Bool) → At p s (if z then Stay (at.SetLatch (record { latch = Terminate; pool = r; worker = j; then = t })) else finish (Caller 0) t)
      by true = ((e, tt), a)
      by false = next_at p s (finish (Caller 0) t) a

  after_set_at : (p : Plan) (s : Hand X G O F H) (h : PoolShape) (x : Settling) (l : Latch) → x.pool ≡ 0 → Next p s (finish (Caller 0) x.then) → At p s (after_set h (Caller 0) x l)
  after_set_at p s h x Terminate e a = settle_at p s h x.pool (x.worker + 1) x.then e a
  after_set_at p s h x (OfCall c) e a = next_at p s (finish (Caller 0) x.then) a

  -- the latch of a scope is set for who waits for its end
  set_call_at : (p : Plan) (s : Hand X G O F H) (c : ℕ) (q : Party) (t : Then) → IsScope (scope_in s.call) c → IsHere q → Next p s (finish (Caller 0) t) → At p s (Stay (set_call c q t))
  set_call_at p s c (Worker r i) t w e a = ((e, of_scope c s.call w), a)
  set_call_at p s c (Caller n) t w e a = (of_scope c s.call w, a)

  -- or of a pool's workers, or of a scope
  ends_at : (p : Plan) (s : Hand X G O F H) (c : Count) → HasCount c s.call → WaitsHere c → Next p s Back → At p s (Stay (ends_count c))
  ends_at p s (OfPool r) e i a = ((e, tt), a)
  ends_at p s (OfScope n q) e i a = set_call_at p s n q Resume e i a
  ends_at p s (OfCast n q) e i a = absurd e

  detached_packed : (n m : ℕ) (l : Option (Load X G O F H)) (k f : Option TicketOf) → IsDetached (detached_ticket n) l → Packed m l k f
  detached_packed n m (Some (Detached j t)) k f d = (ap (λ (z : TicketOf). z.detached) d, ap (λ (z : TicketOf). z.scope) d)
  detached_packed n m _ k f d = absurd d

  scoped_packed : (n : ℕ) (l : Option (Load X G O F H)) (k f : Option TicketOf) → IsScoped l → Packed n l k f
  scoped_packed n (Some (Scoped j t)) k f d = d
  scoped_packed n _ k f d = absurd d

  -- a call that has its unit, or its share of a scope's count, goes on
  raised_at : (p n : Plan) (s t : Hand X G O F H) → At p s (Stay (at.RaiseCount n)) → At p (after (act_of (Caller 0) (at.RaiseCount n)) Done t s) (after_raise n)
  raised_at p (Send o) s t a = (tt, (a.1.0, a.1.1, refl, tt))
  raised_at p (Detach r n) s t a = (a.1.1.0, (a.1.0, a.1.1, refl, (a.1.1.0, tt, detached_packed n n s.load s.call s.first a.1.1.1)))
  raised_at p (Open o) s t a = (tt, (a.1.0, a.1.1.0, a.1.1.1, refl))
  raised_at p (Enter e) s t a = (a.1.1.3, (a.1.0, a.1.1, a.1.2, tt))
  raised_at p (Gather g) s t a = (tt, (a.1.0, a.1.1, refl))
  raised_at p _ s t a = absurd a.1.1

  -- or was refused it
  unraised_at : (p n : Plan) (s t : Hand X G O F H) (x : Seen) → if_done x true s.holds ≡ s.holds → At p s (Stay (at.RaiseCount n)) → At p (after (act_of (Caller 0) (at.RaiseCount n)) x t s) (HandBack n)
  unraised_at p (Send o) s t x e a = subst (λ (b : Bool). Next p (record s { holds = b }) (HandBack (Send o))) (sym e) (a.1.0, a.1.2, a.1.1)
  unraised_at p (Detach r n) s t x e a = subst (λ (b : Bool). Next p (record s { holds = b }) (HandBack (Detach r n))) (sym e) (a.1.0, a.1.2, a.1.1)
  unraised_at p (Open o) s t x e a = subst (λ (b : Bool). Next p (record s { holds = b }) (HandBack (Open o))) (sym e) (a.1.0, a.1.2, a.1.1)
  unraised_at p (Enter y) s t x e a = (a.1.0, a.1.2, a.1.1)
  unraised_at p (Gather g) s t x e a = subst (λ (b : Bool). Next p (record s { holds = b }) (HandBack (Gather g))) (sym e) (a.1.0, a.1.2, a.1.1)
  unraised_at p _ s t x e a = absurd a.1.1

  -- it gives that back, since it was refused
  undo_at : (p n : Plan) (s : Hand X G O F H) → n ≡ p → Fits s.workers n s.load s.call → s.holds ≡ has_unit n → At p s (Stay (undo n))
  undo_at p (Send o) s e f h = ((f.0, h), (e, refl, f))
  undo_at p (Detach r n) s e f h = ((f.0, h), (e, refl, f))
  undo_at p (Open o) s e f h = ((f.0, h), (e, refl, f))
  undo_at p (Enter x) s e f h = (f.3, (f.1, (e, h, f)))
  undo_at p (Gather g) s e f h = ((f.0, h), (e, refl, f))
  undo_at p _ s e f h = absurd f

  unnumbered_at : (p n : Plan) (s : Hand X G O F H) → n ≡ p → Fits s.workers n s.load s.call → s.holds ≡ false → IsEnter n → At p s (Stay (undo n))
  unnumbered_at p (Enter x) s e f h i = undo_at p (Enter x) s e f h
  unnumbered_at p _ s e f h i = absurd i

  -- and before that its number of a book, where it has one
  unpushed_at : (p n : Plan) (s : Hand X G O F H) (e : Bool) → At p s (Stay (at.PushJob n e)) → At p s (Stay (after_push n))
  unpushed_at p (Send o) s e a = undo_at p (Send o) s a.1.0 a.1.1 a.1.2
  unpushed_at p (Detach r n) s e a = undo_at p (Detach r n) s a.1.0 a.1.1 a.1.2
  unpushed_at p (Open o) s e a = undo_at p (Open o) s a.1.0 a.1.1 a.1.2
  unpushed_at p (Enter x) s e a = (a.0.1, (a.1.0, a.1.1, a.1.2, tt))
  unpushed_at p (Gather g) s e a = undo_at p (Gather g) s a.1.0 a.1.1 a.1.2
  unpushed_at p _ s e a = absurd a.1.1

  -- the tickets of a call are made
  grown_at : (p n : Plan) (s : Hand X G O F H) (k m : Option TicketOf) → n ≡ p → Fits s.workers n s.load s.call → s.holds ≡ true → IsSend n → GrownFor s.workers (plan_call n) s.load k → At p (record s { call = k; first = first_of (plan_call n) s.load; lent = m }) (Stay (at.LookQueue n))
  grown_at p (Send o) s k m e f h i g = (f.0, (e, f, h, (f.0, tt, packed s.load f.2 g)))
    where
      same : (z : Option TicketOf) → z ≡ Some (ticket_of o.number) → z ≡ Some (ticket_of o.job)
      same z a = a ∙ ap (λ (c : ℕ). Some (ticket_of c)) f.1

      packed : (l : Option (Load X G O F H)) → IsAwaited l → GrownFor s.workers o.number l k → Packed o.job l k (first_of o.number l)
      packed (Some (Job j)) a b = same k b
      packed (Some (Sides x y)) a b = (same k b, same (Some (ticket_of o.number)) refl)
      packed _ a b = absurd a
  grown_at p _ s k m e f h i g = absurd i

  -- the tickets were refused
  ungrown_at : (p n : Plan) (s : Hand X G O F H) (k m : Option TicketOf) → k ≡ s.call → m ≡ s.lent → At p s (Stay (undo n)) → At p (record s { call = k; lent = m }) (Stay (undo n))
  ungrown_at p n s k m e f a = subst (λ (z : Option TicketOf). At p (record s { call = k; lent = z }) (Stay (undo n))) (sym f) (subst (λ (z : Option TicketOf). At p (record s { call = z }) (Stay (undo n))) (sym e) a)

  -- the ticket of a broadcast is made
  cast_at : (p : Plan) (s t : Hand X G O F H) (g : Gathering) → At p s (Stay (at.GrowCast g)) → GrownFor s.workers g.call.number s.load t.call → At p (after (acts.Grow g.call.number) Done t s) (Stay (at.DealPieces g))
  cast_at p s t g a m = ((a.1.1.1, a.1.1.2, (g.call.number, a.1.1.4, all)), (a.1.0, a.1.1, a.1.2, own t.call new))
    where
      by : (l : Option (Load X G O F H)) → IsCast l → GrownFor s.workers g.call.number l t.call → IsNewCast s.workers g.call.number t.call
      by (Some (Cast j)) i b = b
      by _ i b = absurd i

      new : IsNewCast s.workers g.call.number t.call
      new = by s.load a.1.1.1 m

      all : IsNewCast g.pieces.workers g.call.number t.call
      all = subst (λ (w : ℕ). IsNewCast w g.call.number t.call) (sym a.1.1.3) new

      own : (k : Option TicketOf) → IsNewCast s.workers g.call.number k → HasCall g.call.number k
      own (Some u) b = subst (λ (v : TicketOf). HasCall g.call.number (Some v)) (sym b.1) (b.2, refl, refl)
      own None b = absurd b

  -- the ticket of a scope is made, and its body begins to run
  opened_at : (p : Plan) (s : Hand X G O F H) (o : OpenCall) (k f m : Option TicketOf) → Open o ≡ p → o.pool ≡ 0 → s.load ≡ None → s.holds ≡ true → GrownFor s.workers o.number s.load k → LentFor s.load k s.lent m → Opened p (record s { call = k; first = f; lent = m }) o.job (at.ScopeBody o)
  opened_at p s o k f m q e l h g n = (q, refl, by k (subst (λ (z : Option (Load X G O F H)). GrownFor s.workers o.number z k) l g), subst (λ (z : Option (Load X G O F H)). LentFor z k s.lent m) l n)
    where
      by : (z : Option TicketOf) → IsNewScope o.number z → InBody o (record s { call = z; first = f; lent = m })
      by None a = absurd a
      by (Some u) a = subst (λ (v : TicketOf). InBody o (record s { call = Some v; first = f; lent = m })) (sym a.1) ((a.2, (a.2, refl, refl), e), h, l)

  -- the load was pushed
  pushed_at : (p n : Plan) (s : Hand X G O F H) (v : Visitor (TaskOf X)) (b e : Bool) → n ≡ p → Fits s.workers n s.load s.call → s.holds ≡ has_unit n →
      Packed (plan_job n) s.load s.call s.first → At p (record s { inlet = v; load = None; holds = unit_after s.load s.holds; held = b }) (Stay (at.TellNews n e))
  pushed_at p (Send o) s v b e q f h k = (f.0, by s.load f.2 k)
    where
      call : (z : Option TicketOf) → z ≡ Some (ticket_of o.job) → HasCall o.number z
      call z a = subst (λ (y : Option TicketOf). HasCall o.number y) (sym a) (sym f.1, refl, refl)

      by : (l : Option (Load X G O F H)) → IsAwaited l → Packed o.job l s.call s.first → Next p (record s { inlet = v; load = None; holds = unit_after l s.holds; held = b }) (Stay (at.WaitForLock o))
      by (Some (Job j)) a c = (call s.call c, f.0, h, refl, whole_as p (Send o) q tt)
      by (Some (Sides x y)) a c = (call s.call c.0, f.0, h, refl, whole_as p (Send o) q tt)
      by _ a c = absurd a
  pushed_at p (Detach r n) s v b e q f h k = (f.0, by s.load f.1)
    where
      by : (l : Option (Load X G O F H)) → IsDetached (detached_ticket n) l → Next p (record s { inlet = v; load = None; holds = unit_after l s.holds; held = b }) Back
      by (Some (Detached j t)) d = (refl, refl, whole_as p (Detach r n) q tt)
      by _ d = absurd d
  pushed_at p (Open o) s v b e q f h k = absurd (subst (λ (z : Option (Load X G O F H)). Packed o.job z s.call s.first) f.1 k)
  pushed_at p (Enter x) s v b e q f h k = (f.0, by s.load f.2)
    where
      by : (l : Option (Load X G O F H)) → IsScoped l → Next p (record s { inlet = v; load = None; holds = unit_after l s.holds; held = b }) Back
      by (Some (Scoped j t)) d = (h, refl, whole_as p (Enter x) q tt)
      by _ d = absurd d
  pushed_at p (Gather g) s v b e q f h k = absurd (none s.load f.1 k)
    where
      none : (l : Option (Load X G O F H)) → IsCast l → Packed g.call.job l s.call s.first → ⊥
      none (Some (Cast j)) a c = c
      none _ a c = absurd a
  pushed_at p _ s v b e q f h k = absurd f

  -- a number of the scope's book is opened
  numbered_at : (p n : Plan) (s : Hand X G O F H) (m : ℕ) → n ≡ p → Fits s.workers n s.load s.call → s.holds ≡ false → IsEnter n → At p (record s { slot = m; held = true }) (Stay (after_slot n))
  numbered_at p (Enter x) s m e f h i = (f.0, (e, f, h, (f.0, (f.3, refl), scoped_packed x.job s.load s.call s.first f.2)))
  numbered_at p _ s m e f h i = absurd i

  -- after each act there is what belongs to where the table leads
  pub at_on : (p : Plan) (s t : Hand X G O F H) (h : PoolShape) (y : Place) (x : Seen) → Grown (act_of (Caller 0) y) x s t → At p s (Stay y) → At p (after (act_of (Caller 0) y) x t s) (next_of h (Caller 0) y x)
  at_on p s t h (at.RaiseCount n) Done g a = raised_at p n s t a
  at_on p s t h (at.RaiseCount n) x g a = unraised_at p n s t x refl a
  at_on p s t h (at.GrowCall n) Done g a = grown_at p n s t.call t.lent a.1.0 a.1.1 a.1.2 a.1.3 g.0
  at_on p s t h (at.GrowCall n) _ g a = ungrown_at p n s t.call t.lent g.0 g.1 (undo_at p n s a.1.0 a.1.1 (unit n a.1.3 a.1.2))
    where
      unit : (m : Plan) → IsSend m → s.holds ≡ true → s.holds ≡ has_unit m
      unit (Send o) i e = e
      unit _ i e = absurd i
  at_on p s t h (at.GrowScope o) Done g a = opened_at p s o t.call (first_of o.number s.load) t.lent a.1.0 a.1.1 a.1.2 a.1.3 g.0 g.1
  at_on p s t h (at.GrowScope o) _ g a = ungrown_at p (Open o) s t.call t.lent g.0 g.1 (undo_at p (Open o) s a.1.0 (a.1.1, a.1.2) a.1.3)
  at_on p s t h (at.GrowCast k) Done g a = cast_at p s t k a g.0
  at_on p s t h (at.GrowCast k) _ g a = ungrown_at p (Gather k) s t.call t.lent g.0 g.1 (undo_at p (Gather k) s a.1.0 a.1.1 a.1.2)
  at_on p s t h (at.DealPieces k) Done g a = (a.1.1.0, (a.1.3, a.1.1.0, a.1.2, refl, whole_as p (Gather k) a.1.0 tt))
  at_on p s t h (at.DealPieces k) _ g a = undo_at p (Gather k) s a.1.0 a.1.1 a.1.2
  at_on p s t h (at.OpenSlot n) Done g a = numbered_at p n s t.slot a.1.0 a.1.1 a.1.2 a.1.3
  at_on p s t h (at.OpenSlot n) _ g a = unnumbered_at p n (record s { slot = t.slot }) a.1.0 a.1.1 a.1.2 a.1.3
  at_on p s t h (at.CloseSlot n) _ g a = unnumbered_at p n (record s { held = false }) a.1.0 a.1.1 a.1.2 a.1.3
  at_on p s t h (at.LookQueue n) Yes g a = (a.1.3, (a.1.0, a.1.1, a.1.2))
  at_on p s t h (at.LookQueue n) _ g a = (a.1.3, (a.1.0, a.1.1, a.1.2))
  at_on p s t h (at.PushJob n e) Done g a = pushed_at p n s (sent (plan_job n) s.slot s.load s.inlet) false e a.1.0 a.1.1 a.1.2 a.0.2
  at_on p s t h (at.PushJob n e) _ g a = unpushed_at p n s e a
  at_on p s t h (at.TellNews n e) (Wakes k) g a = walk_at p s h (plan_pool n) k 0 (after_news n) a.0 a.1
  at_on p s t h (at.TellNews n e) _ g a = a
  at_on p s t h (at.LockToWake k) _ g a = a
  at_on p s t h (at.WakeWorker k) Yes g a = a
  at_on p s t h (at.WakeWorker k) _ g a = a
  at_on p s t h (at.UnlockWoken k) _ g a = walk_at p s h k.pool k.owed (k.worker + 1) k.then a.0 a.1
  at_on p s t h (at.WaitForLock o) _ g a = a
  at_on p s t h (at.TakeResult o f) (Found e) g a = ((a.1.0, a.1.1), (refl, a.1.2, a.1.3))
  at_on p s t h (at.TakeResult o f) _ g a = ((a.1.0, a.1.1), (refl, a.1.2, a.1.3))
  at_on p s t h (at.StoreBody o e) _ g a = (a.0, (tt, a.1))
  at_on p s t h (at.LowerCount (OfPool r) b c) Yes g a = settle_at p (record s { holds = false }) h r 0 c a.0.0 a.1
  at_on p s t h (at.LowerCount (OfPool r) b c) _ g a = next_at p (record s { holds = false }) (finish (Caller 0) c) a.1
  at_on p s t h (at.LowerCount (OfScope n q) b c) Yes g a = set_call_at p s n q c a.0 a.1.0 a.1.1
  at_on p s t h (at.LowerCount (OfScope n q) b c) _ g a = next_at p s (finish (Caller 0) c) a.1.1
  at_on p s t h (at.LowerForAll c) Yes g a = ends_at p s c.count a.0 a.1.1 a.1.2
  at_on p s t h (at.LowerForAll c) _ g a = (a.1.0, a.1.2)
  at_on p s t h (at.SetLatch x) Yes g a = (a.0.0, a.1)
  at_on p s t h (at.SetLatch x) _ g a = after_set_at p s h x x.latch a.0.0 a.1
  at_on p s t h (at.LockToSettle x) _ g a = a
  at_on p s t h (at.WakeSettled x) _ g a = a
  at_on p s t h (at.UnlockSettled x) _ g a = after_set_at p s h x x.latch a.0 a.1
  at_on p s t h (at.SetLockLatch c n) _ g a = next_at p s (finish (Caller 0) n) a.1
  at_on p s t h (at.LowerCount _ b c) _ g a = absurd a.0
  at_on p s t h _ _ g a = absurd a.1

  -- the laws of the performer, which is an outside caller
  pub guest_needs : (u : Visit X G O F H) (q : Party) (y : Place) → is_rest y ≡ false → (q ≡ Caller 0) × Stands (hand u) (Stay y) → Needs (act_of q y) (hand u)
  guest_needs u q y r a = subst (λ (z : Party). Needs (act_of z y) (hand u)) (sym a.0) a.1.1.0

  pub guest_stays : (u : Visit X G O F H) (q : Party) (m : Move) (y : Place) → place_of m ≡ Some y → (q ≡ Caller 0) × Stands (hand u) m → (q ≡ Caller 0) × Stands (hand u) (Stay y)
  guest_stays u q m y e a = stays_at (λ (v : Visit X G O F H) k. (q ≡ Caller 0) × Stands (hand v) k) (λ v z c k b. b) (λ v z n b. absurd b.1.1) u m y e a

  pub guest_on : (u v : Visit X G O F H) (h : PoolShape) (q : Party) (y : Place) (x : Seen) → is_rest y ≡ false → (q ≡ Caller 0) × Stands (hand u) (Stay y) → Does (act_of q y) x u v → (q ≡ Caller 0) × Stands (hand v) (next_of h q y x)
  guest_on u v h q y x r a d =
      let own = subst (λ (z : Party). Does (act_of z y) x u v) a.0 d in
      let on = subst (λ (z : Hand X G O F H). At a.1.0 z (next_of h (Caller 0) y x)) (sym own.0) (at_on a.1.0 (hand u) (hand v) h y x own.3 a.1.1) in
      (a.0, subst (λ (z : Party). Stands (hand v) (next_of h z y x)) (sym a.0) (a.1.0, on))
