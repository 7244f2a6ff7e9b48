-- What a call of an outside caller leaves.
use Rattle.std.specs.Prelude.{ℕ}
use Rattle.std.proofs.Common.{◌≡◌, ◌⊎◌, inl, inr, true, false, true≢false, Option, None, Some, refl, sym, subst, ap, ◌∙◌}
use Rattle.rayon_machine_places.specs.declared.place.Count.{Count}
use Rattle.rayon_machine_places.specs.declared.place.Count.TheVariants.{OfPool}
use Rattle.rayon_machine_places.specs.declared.place.Party.TheVariants.{Caller}
use Rattle.rayon_machine_places.specs.declared.place.Entry.{Entry}
use Rattle.rayon_machine_places.specs.declared.place.OpenCall.{OpenCall}
use Rattle.rayon_machine_places.specs.declared.place.Plan.{Plan}
use Rattle.rayon_machine_places.specs.declared.place.Plan.TheVariants.{Detach, Enter, Gather, Here, Open, Send}
use Rattle.rayon_machine_places.specs.declared.place.Place.{Place}
use Rattle.rayon_machine_places.specs.declared.place.Place.TheVariants as at
use Rattle.rayon_machine_places.specs.declared.place.Move.{Move}
use Rattle.rayon_machine_places.specs.declared.place.Move.TheVariants.{Stay, Back, HandBack, StartRun}
use Rattle.rayon_machine_places.specs.declared.act.Act.TheVariants as acts
use Rattle.rayon_machine_places.specs.declared.act.Seen.{Seen}
use Rattle.rayon_machine_places.specs.declared.act.Seen.TheVariants.{Done}
use Rattle.rayon_machine_places.specs.declared.shape.PoolShape.{PoolShape}
use Rattle.rayon_machine_places.specs.Places.{act_of, next_of, plan_count, plan_job, is_rest}
use Rattle.rayon_drive.specs.Paths.{Driven}
use Rattle.rayon_drive.specs.Moves.{stays_at}
use Rattle.rayon_drive.proofs.Paths.{driven_keeps}
use Rattle.rayon_queues.specs.Deques.{Visitor}
use Rattle.rayon_tasks.specs.Tasks.{TaskOf}
use Rattle.rayon_tasks.specs.Tickets.{TicketOf}
use Rattle.rayon_jobs.specs.Within.{Run}
use Rattle.rayon_guests.specs.declared.load.Load.{Load}
use Rattle.rayon_guests.specs.declared.load.Load.TheVariants.{Cast}
use Rattle.rayon_guests.specs.Paths.{Enters, EntersHere, EntersNone, EntersNoneHere, calling}
use Rattle.rayon_guests.specs.Visits.{Visit, Hand, Does, IsCast, after, call_of, hand, opening, sent}
use Rattle.rayon_guests.specs.Visiting.{At, Fits, HandsAll, IsEnter, IsScoped, IsSend, KeepsCall, Kept, KeptIn, IsWhole, at_on}

-- a call that sends its load keeps no ticket of a scope
not_sent : (p n : Plan) (k l : Option TicketOf) → n ≡ p → IsSend n → KeepsCall p k l
not_sent p n k l e i = subst (λ (q : Plan). KeepsCall q k l) e (by n i)
  where
    by : (q : Plan) → IsSend q → KeepsCall q k l
    by (Send o) j = tt
    by _ j = absurd j

-- the call that opens a scope, if a plan is one
abbrev opened_call : Plan → OpenCall → OpenCall
opened_call (Open o) w = o
opened_call _ w = w

module _ {X G O F H : Type 0} where
  -- the caller's acts from this move to that one
  abbrev pub So : PoolShape → Move → Visit X G O F H → Move → Visit X G O F H → Type 0
  So h m s n t = Driven (λ (a : Visit X G O F H) x y b. Does x y a b) (λ (a : Visit X G O F H). a.trace) h (Caller 0) m s t n

  -- a push takes the load that is in hand, if it is still there
  kept_pushed : (p n : Plan) (m : ℕ) (b : Hand X G O F H) (l : Option (Load X G O F H)) (v : Visitor (TaskOf X)) → n ≡ p → KeptIn (plan_job p) m b l v → sent (plan_job n) m l v ≡ sent (plan_job p) m b.load b.inlet
  kept_pushed p n m b None v e k = k
  kept_pushed p n m b (Some w) v e k = subst (λ (q : Plan). sent (plan_job q) m (Some w) v ≡ sent (plan_job p) m b.load b.inlet) (sym e) (ap (λ (l : Option (Load X G O F H)). sent (plan_job p) m l v) k.0 ∙ ap (λ (u : Visitor (TaskOf X)). sent (plan_job p) m b.load u) k.1)

  -- and a push of pieces the job, of which the pass has nothing
  kept_dealt : (n m : ℕ) (b : Hand X G O F H) (l : Option (Load X G O F H)) (v : Visitor (TaskOf X)) → IsCast l → KeptIn n m b l v → v ≡ sent n m b.load b.inlet
  kept_dealt n m b (Some (Cast j)) v i k = k.1 ∙ ap (λ (l : Option (Load X G O F H)). sent n m l b.inlet) k.0
  kept_dealt n m b _ v i k = absurd i

  -- the number of a book matters to a load that was pushed alone
  kept_numbered : (p n : Plan) (b s : Hand X G O F H) (m : ℕ) → Fits s.workers n s.load s.call → IsEnter n → Kept (plan_job p) b s → KeptIn (plan_job p) m b s.load s.inlet
  kept_numbered p (Enter e) b s m f i k = by s.load f.2 k
    where
      by : (l : Option (Load X G O F H)) → IsScoped l → KeptIn (plan_job p) s.slot b l s.inlet → KeptIn (plan_job p) m b l s.inlet
      by (Some w) g c = c
      by None g c = absurd g
  kept_numbered p _ b s m f i k = absurd i

  -- the very load is in hand until it is pushed, and the pass has it once after
  kept_on : (p : Plan) (b s t : Hand X G O F H) (y : Place) (x : Seen) → At p s (Stay y) → Kept (plan_job p) b s → Kept (plan_job p) b (after (act_of (Caller 0) y) x t s)
  kept_on p b s t (at.RaiseCount n) x a k = by (plan_count n)
    where
      by : (c : Count) → Kept (plan_job p) b (after (acts.Raise c (plan_job n)) x t s)
      by (OfPool r) = k
      by _ = k
  kept_on p b s t (at.LowerCount (OfPool r) o n) x a k = k
  kept_on p b s t (at.LowerCount _ o n) x a k = k
  kept_on p b s t (at.OpenSlot n) x a k = kept_numbered p n b s t.slot a.1.1 a.1.3 k
  kept_on p b s t (at.PushJob n e) Done a k = kept_pushed p n s.slot b s.load s.inlet a.1.0 k
  kept_on p b s t (at.PushForAll c) x a k = absurd a.1
  kept_on p b s t (at.DealPieces g) Done a k = kept_dealt (plan_job p) s.slot b s.load s.inlet a.0.0 k
  kept_on p b s t (at.BeginTask n) x a k = absurd a.1
  kept_on p b s t _ _ a k = k

  -- so is the ticket of the scope that is spawned into
  call_kept : (p : Plan) (k : Option TicketOf) (s t : Hand X G O F H) (y : Place) (x : Seen) → At p s (Stay y) → KeepsCall p k s.call → KeepsCall p k (after (act_of (Caller 0) y) x t s).call
  call_kept p k s t (at.RaiseCount n) x a c = by (plan_count n)
    where
      by : (z : Count) → KeepsCall p k (after (acts.Raise z (plan_job n)) x t s).call
      by (OfPool r) = c
      by _ = c
  call_kept p k s t (at.LowerCount (OfPool r) o n) x a c = c
  call_kept p k s t (at.LowerCount _ o n) x a c = c
  call_kept p k s t (at.GrowCall n) x a c = not_sent p n k t.call a.1.0 a.1.3
  call_kept p k s t (at.GrowScope o) x a c = subst (λ (q : Plan). KeepsCall q k t.call) a.1.0 tt
  call_kept p k s t (at.GrowCast g) x a c = subst (λ (q : Plan). KeepsCall q k t.call) a.1.0 tt
  call_kept p k s t (at.BeginTask n) x a c = absurd a.1
  call_kept p k s t _ _ a c = c

  -- what a drive of a call keeps
  abbrev pub KeepsAll : Plan → Visit X G O F H → Visit X G O F H → Type 0
  KeepsAll p s u = Kept (plan_job p) (hand s) (hand u) × KeepsCall p s.call u.call × (u.shape ≡ s.shape) × (u.count ≡ s.count)

  -- where a drive of a call stands that began so
  abbrev pub Stood : Plan → Visit X G O F H → Visit X G O F H → Move → Type 0
  Stood p s u m = At p (hand u) m × KeepsAll p s u

  -- what a drive of a call leaves
  pub call_ends : (p : Plan) (h : PoolShape) (m : Move) (s u : Visit X G O F H) (n : Move) → At p (hand s) m → So h m s n u → At p (hand u) n × KeepsAll p s u
  call_ends p h m s u n a d =
      driven_keeps (λ (v : Visit X G O F H) x y w. Does x y v w) (λ (v : Visit X G O F H). v.trace) (Stood p s) h (Caller 0) (stays_at (Stood p s) (λ v y c k b. b) (λ v y k b. absurd b.0)) keeps m s u n (a, (start (hand s).load, own p, refl, refl)) d
    where
      start : (l : Option (Load X G O F H)) → KeptIn (plan_job p) s.slot (record (hand s) { load = l }) l s.inlet
      start None = refl
      start (Some w) = (refl, refl)

      own : (q : Plan) → KeepsCall q s.call s.call
      own (Enter e) = refl
      own _ = tt

      keeps : (v w : Visit X G O F H) (y : Place) (x : Seen) → is_rest y ≡ false → At p (hand v) (Stay y) × KeepsAll p s v → Does (act_of (Caller 0) y) x v w → At p (hand w) (next_of h (Caller 0) y x) × KeepsAll p s w
      keeps v w y x r b e = (
        subst (λ (z : Hand X G O F H). At p z (next_of h (Caller 0) y x)) (sym e.0) (at_on p (hand v) (hand w) h y x e.3 b.0),
        (
          subst (λ (z : Hand X G O F H). Kept (plan_job p) (hand s) z) (sym e.0) (kept_on p (hand s) (hand v) (hand w) y x b.0 b.1.0),
          subst (λ (z : Hand X G O F H). KeepsCall p s.call z.call) (sym e.0) (call_kept p s.call (hand v) (hand w) y x b.0 b.1.1),
          e.1 ∙ b.1.2,
          e.2 ∙ b.1.3,
        ),
      )

  -- a call that one drive makes to its end runs no body
  pub no_body : (p : Plan) (s : Hand X G O F H) (y : Place) (n : ℕ) → IsWhole p → At p s (StartRun y n) → ⊥
  no_body p s (at.ScopeBody o) n c a = subst (λ (q : Plan). IsWhole q) (sym a.0) c
  no_body p s _ n c a = absurd a

  -- such is one that queues a load
  pub load_whole : (w : ℕ) (p : Plan) (l : Load X G O F H) (k : Option TicketOf) → Fits w p (Some l) k → IsWhole p
  load_whole w (Open o) l k f = true≢false (ap (λ (z : Option (Load X G O F H)). elim z [ Some w ↦ true | None ↦ false ]) f.1)
  load_whole w (Send o) l k f = tt
  load_whole w (Detach r n) l k f = tt
  load_whole w (Enter e) l k f = tt
  load_whole w (Gather g) l k f = tt
  load_whole w _ l k f = absurd f

  -- and none hands pieces back
  pub hands_none : (w : ℕ) (p : Plan) (l : Load X G O F H) (k : Option TicketOf) → Fits w p (Some l) k → HandsAll p → ⊥
  hands_none w (Here r n) l k f h = f
  hands_none w _ l k f h = h

  -- a scope's body begins to run, under the name of its call
  pub begun : (s t : Visit X G O F H) (o : OpenCall) (y : Place) (n k : ℕ) → o ≡ call_of k → At (Open o) (hand t) (StartRun y n) → So s.shape (Stay (at.RaiseCount (Open o))) s (StartRun y n) t → So s.shape (Stay (at.RaiseCount (opening k))) s (StartRun (at.ScopeBody (call_of k)) k) t
  begun s t o (at.ScopeBody w) n k e a d =
      let same = ap (λ (p : Plan). opened_call p o) a.0 ∙ e in
      let name = a.1 ∙ ap (λ (z : OpenCall). z.job) same in
      let under = subst (λ (j : ℕ). So s.shape (Stay (at.RaiseCount (Open o))) s (StartRun (at.ScopeBody w) j) t) name d in
      let of = subst (λ (z : OpenCall). So s.shape (Stay (at.RaiseCount (Open o))) s (StartRun (at.ScopeBody z) k) t) same under in
      subst (λ (z : OpenCall). So s.shape (Stay (at.RaiseCount (Open z))) s (StartRun (at.ScopeBody (call_of k)) k) t) e of
  begun s t o _ n k e a d = absurd a

  -- a scope that is refused is the one that was to be opened
  pub handed : (s t : Visit X G O F H) (o : OpenCall) (n : Plan) (k : ℕ) → o ≡ call_of k → n ≡ Open o → So s.shape (Stay (at.RaiseCount (Open o))) s (HandBack n) t → So s.shape (Stay (at.RaiseCount (opening k))) s (HandBack (opening k)) t
  handed s t o n k e f d = subst (λ (z : OpenCall). So s.shape (Stay (at.RaiseCount (Open z))) s (HandBack (Open z)) t) e (subst (λ (q : Plan). So s.shape (Stay (at.RaiseCount (Open o))) s (HandBack q) t) f d)

  -- the ticket of a scope stands for that of the call while a caller spawns into the scope, and no longer
  pub own_call : (j k : Option TicketOf) (s u v t : Visit X G O F H) → u ≡ calling k s → v.call ≡ u.call → t ≡ calling j v → calling k t ≡ v
  own_call j k s u v t a b c = ap (λ (w : Visit X G O F H). calling k w) c ∙ ap (λ (z : Option TicketOf). calling z v) (sym (b ∙ ap (λ (w : Visit X G O F H). w.call) a))

  pub exchanged : (j k : Option TicketOf) (e : Entry) (s u v t : Visit X G O F H) → u ≡ calling k s → v.call ≡ u.call → t ≡ calling j v → EntersHere e u v → Enters k e s t
  exchanged j k e s u v t a b c d = subst (λ (w : Visit X G O F H). EntersHere e (calling k s) w) (sym (own_call j k s u v t a b c)) (subst (λ (w : Visit X G O F H). EntersHere e w v) a d)

  pub unexchanged : (j k : Option TicketOf) (e : Entry) (s u v t : Visit X G O F H) → j ≡ s.call → u ≡ calling k s → v.call ≡ u.call → t ≡ calling j v → (v ≡ u) ⊎ EntersNoneHere e u v → EntersNone k e s t
  unexchanged j k e s u v t o a b c (inl d) = inl (c ∙ ap (λ (w : Visit X G O F H). calling j w) (d ∙ a) ∙ ap (λ (z : Option TicketOf). calling z s) o)
  unexchanged j k e s u v t o a b c (inr d) = inr (subst (λ (w : Visit X G O F H). EntersNoneHere e (calling k s) w) (sym (own_call j k s u v t a b c)) (subst (λ (w : Visit X G O F H). EntersNoneHere e w v) a d))

  -- what was found is answered
  pub answered : (h : PoolShape) (m : Move) (s v : Visit X G O F H) (r d : Option (Run G O F)) → r ≡ v.first_done → d ≡ v.done → So h m s Back v → So h m s Back (record v { first_done = r; done = d })
  answered h m s v r d e f a = subst (λ (z : Option (Run G O F)). So h m s Back (record v { first_done = r; done = z })) (sym f) (subst (λ (z : Option (Run G O F)). So h m s Back (record v { first_done = z })) (sym e) a)

  -- and a load that comes back
  pub returned : (h : PoolShape) (m : Move) (s v : Visit X G O F H) (n p : Plan) (l : Option (Load X G O F H)) → n ≡ p → l ≡ v.load → So h m s (HandBack n) v → So h m s (HandBack p) (record v { load = l })
  returned h m s v n p l e f a = subst (λ (q : Plan). So h m s (HandBack q) (record v { load = l })) e (subst (λ (z : Option (Load X G O F H)). So h m s (HandBack n) (record v { load = z })) (sym f) a)
