-- How an outside caller's broadcast into a scope goes, from act to act.
use Rattle.std.specs.Prelude.{ℕ, Option}
use Rattle.std.proofs.Common.{Some, ◌≡◌, ◌⊎◌, inl, inr, refl, sym, subst, ap, ◌∙◌}
use Rattle.rayon_machine_places.specs.declared.act.Act.TheVariants as acts
use Rattle.rayon_machine_places.specs.declared.act.Seen.TheVariants.{Done, Opened, Refused}
use Rattle.rayon_machine_places.specs.declared.place.Count.{Count}
use Rattle.rayon_machine_places.specs.declared.place.Entry.{Entry}
use Rattle.rayon_machine_places.specs.declared.place.Mark.TheVariants.{Counted, Numbered, Queued, Returned, Unnumbered}
use Rattle.rayon_machine_places.specs.declared.place.Move.{Move}
use Rattle.rayon_machine_places.specs.declared.place.Move.TheVariants.{Back, HandAllBack, Mark, Stay}
use Rattle.rayon_machine_places.specs.declared.place.Party.TheVariants.{Caller}
use Rattle.rayon_machine_places.specs.declared.place.Pieces.{Pieces}
use Rattle.rayon_machine_places.specs.declared.place.Place.{Place}
use Rattle.rayon_machine_places.specs.declared.place.Place.TheVariants as at
use Rattle.rayon_machine_places.specs.declared.shape.PoolShape.{PoolShape}
use Rattle.rayon_machine_places.specs.Places.{begin_cast, call_all, end_cast, ends_count}
use Rattle.rayon_drive.proofs.Paths.{driven_from, goes_on}
use Rattle.rayon_shared.specs.Casts.{cast_into}
use Rattle.rayon_shared.specs.Marks.{IsCountOf, IsScope, scope_in}
use Rattle.rayon_shared.proofs.Shares.{of_scope}
use Rattle.rayon_tasks.specs.Tickets.{CoreOf, TicketOf}
use Rattle.rayon_guests.specs.Casts.{CastsInto, EntersForAll, EntersForNone, GoesNumbered, HandsBack, Made, StayUnnumbered}
use Rattle.rayon_guests.specs.Paths.{calling}
use Rattle.rayon_guests.specs.Visits.{Visit, Does, Hand, hand}
use Rattle.rayon_guests.proofs.Casts.{joined, no_stay, one, then_back}
use Rattle.rayon_guests.proofs.Visits.{So, own_call}

-- a share of the scope's ticket has the scope whose count the pieces have shares of
pub share_counts : (e : Entry) (n : ℕ) (c : Pieces) (k : Option TicketOf) (u : TicketOf) → k ≡ Some u → c ≡ cast_into e n → IsScope (scope_in k) e.call → IsCountOf u.scope c.count
share_counts e n c k u a b i = subst (λ (z : Pieces). IsCountOf u.scope z.count) (sym b) (subst (λ (z : Option TicketOf). IsScope (scope_in z) e.call) a i)

module _ {X G O F H : Type 0} where
  -- the pieces get numbers of the scope's book
  slots_opened : (c : Pieces) (k : ℕ) (s t : Visit X G O F H) → Made (acts.SlotAll c) (Opened k) s t → So s.shape (Mark (at.OpenForAll c) c Counted) s (Mark (at.PushForAll c) c (Numbered k)) t
  slots_opened c k s t d = one (Mark (at.OpenForAll c) c Counted) (Opened k) s t refl d

  -- or there were none for them
  pub slots_refused : (c : Pieces) (s t : Visit X G O F H) → Made (acts.SlotAll c) Refused s t → StayUnnumbered c s t
  slots_refused c s t d = inl (one (Mark (at.OpenForAll c) c Counted) Refused s t refl d)

  -- they are queued with these numbers
  pub numbered : (c : Pieces) (k : ℕ) (s t u : Visit X G O F H) → Made (acts.SlotAll c) (Opened k) s t → Made (acts.PushCast c) Done t u → GoesNumbered c k (Mark (at.OpenForAll c) c Counted) s u (Mark (call_all s.shape c) c Queued)
  numbered c k s t u a b =
      let pushed = one (Mark (at.PushForAll c) c (Numbered k)) Done t u refl b in
      (t, slots_opened c k s t a, subst (λ (h : PoolShape). So h (Mark (at.PushForAll c) c (Numbered k)) t (Mark (call_all h c) c Queued) u) a.0.1 pushed)

  -- or are not, and their numbers are taken back
  pub unnumbered : (c : Pieces) (k : ℕ) (z : Option CoreOf) (s t u v : Visit X G O F H) → IsCountOf z c.count → Made (acts.SlotAll c) (Opened k) s t → Made (acts.PushCast c) Refused t u → Made (acts.SlotUndoAll c) Done u v → StayUnnumbered c s v
  unnumbered c k z s t u v is a b d =
      let m = Mark (at.OpenForAll c) c Counted in
      let closes : end_cast c.count c ≡ at.CloseForAll c = of_scope (λ (q : Count). end_cast q c ≡ at.CloseForAll c) z c.count is (λ n o f. refl) in
      let refused = goes_on (λ (j : Visit X G O F H) y w q. Does y w j q) (λ (j : Visit X G O F H). j.trace) s.shape (Caller 0) m s t (Mark (at.PushForAll c) c (Numbered k)) Refused u (slots_opened c k s t a) refl b.0 b.1 in
      let there = subst (λ (p : Place). So s.shape m s (Stay p) u) closes refused in
      inr (goes_on (λ (j : Visit X G O F H) y w q. Does y w j q) (λ (j : Visit X G O F H). j.trace) s.shape (Caller 0) m s u (Stay (at.CloseForAll c)) Done v there refl d.0 d.1)

  -- shares are given back once the numbers are
  from_unnumbered : (c : Pieces) (s t : Visit X G O F H) → HandsBack (Stay (at.LowerForAll c)) c s t → HandsBack (Mark (at.LowerForAll c) c Unnumbered) c s t
  from_unnumbered c s t (inl d) = inl (driven_from (λ (j : Visit X G O F H) y w q. Does y w j q) (λ (j : Visit X G O F H). j.trace) s.shape (Caller 0) (Mark (at.LowerForAll c) c Unnumbered) (at.LowerForAll c) s t (HandAllBack c) refl refl (no_stay (HandAllBack c) tt) d)
  from_unnumbered c s t (inr d) =
      let ends = Mark (ends_count c.count) c Returned in
      let given = driven_from (λ (j : Visit X G O F H) y w q. Does y w j q) (λ (j : Visit X G O F H). j.trace) s.shape (Caller 0) (Mark (at.LowerForAll c) c Unnumbered) (at.LowerForAll c) s d.0 ends refl refl (no_stay ends tt) d.1 in
      inr (d.0, given, d.2)

  module _ (c : Pieces) (s t u v : Visit X G O F H) (is : IsCountOf (scope_in s.call) c.count) (left : u ≡ record t { trace = u.trace }) (raised : Made (acts.RaiseAll c) Done s t) where
    same : u.shape ≡ s.shape
    same = ap (λ (z : Visit X G O F H). z.shape) left ∙ raised.0.1

    -- a share is taken for each piece
    into_raised : So s.shape (Stay (at.RaiseForAll c)) s (Mark (at.OpenForAll c) c Counted) t
    into_raised =
        let opens = of_scope (λ (q : Count). begin_cast q c ≡ at.OpenForAll c) (scope_in s.call) c.count is (λ n o f. refl) in
        subst (λ (p : Place). So s.shape (Stay (at.RaiseForAll c)) s (Mark p c Counted) t) opens (one (Stay (at.RaiseForAll c)) Done s t refl raised)

    -- the pieces got numbers and were queued, and each worker was called
    pub cast_numbered : (k : ℕ) → GoesNumbered c k (Mark (at.OpenForAll c) c Counted) t u (Mark (call_all t.shape c) c Queued) → So u.shape (Mark (call_all u.shape c) c Queued) u Back v → CastsInto c k s v
    cast_numbered k g w =
        let first = Stay (at.RaiseForAll c) in
        let opens = Mark (at.OpenForAll c) c Counted in
        let pushes = Mark (at.PushForAll c) c (Numbered k) in
        let calls = Mark (call_all s.shape c) c Queued in
        let opened = subst (λ (h : PoolShape). So h opens t pushes g.0) raised.0.1 g.1 in
        let queued = subst (λ (h : PoolShape). So h pushes g.0 (Mark (call_all h c) c Queued) u) raised.0.1 g.2 in
        let called = subst (λ (h : PoolShape). So h (Mark (call_all h c) c Queued) u Back v) same w in
        (g.0, joined s.shape first opens pushes s t g.0 into_raised opened, joined s.shape pushes calls Back g.0 u v queued called)

    back_from : (k : Move) → So t.shape (Mark (at.OpenForAll c) c Counted) t k u → HandsBack k c u v → HandsBack (Stay (at.RaiseForAll c)) c s v
    back_from k g w = then_back c (Stay (at.RaiseForAll c)) k s u v same (joined s.shape (Stay (at.RaiseForAll c)) (Mark (at.OpenForAll c) c Counted) k s t u into_raised (subst (λ (h : PoolShape). So h (Mark (at.OpenForAll c) c Counted) t k u) raised.0.1 g)) w

    -- they got none, or were not queued, and their shares were given back
    pub cast_unnumbered : StayUnnumbered c t u → HandsBack (Stay (at.LowerForAll c)) c u v → HandsBack (Stay (at.RaiseForAll c)) c s v
    cast_unnumbered (inl g) w = back_from (Stay (at.LowerForAll c)) g w
    cast_unnumbered (inr g) w = back_from (Mark (at.LowerForAll c) c Unnumbered) g (from_unnumbered c u v w)

  -- the ticket of the scope stands for that of the call while a caller broadcasts into the scope, and no longer
  pub exchanged_for_all : (j k : Option TicketOf) (e : Entry) (n : ℕ) (s u v t : Visit X G O F H) → u ≡ calling k s → hand v ≡ hand u → t ≡ calling j v → CastsInto (cast_into e u.shape.workers) n u v → EntersForAll k e s.shape.workers n s t
  exchanged_for_all j k e n s u v t a b c d =
      let same = own_call j k s u v t a (ap (λ (z : Hand X G O F H). z.call) b) c in
      let into = subst (λ (z : Visit X G O F H). CastsInto (cast_into e z.shape.workers) n z v) a d in
      subst (λ (z : Visit X G O F H). CastsInto (cast_into e s.shape.workers) n (calling k s) z) (sym same) into

  pub exchanged_for_none : (j k : Option TicketOf) (e : Entry) (s u v t : Visit X G O F H) → j ≡ s.call → u ≡ calling k s → hand v ≡ hand u → t ≡ calling j v →
      (v ≡ u) ⊎ HandsBack (Stay (at.RaiseForAll (cast_into e u.shape.workers))) (cast_into e u.shape.workers) u v → EntersForNone k e s.shape.workers s t
  exchanged_for_none j k e s u v t o a b c (inl d) = inl (c ∙ ap (λ (z : Visit X G O F H). calling j z) (d ∙ a) ∙ ap (λ (z : Option TicketOf). calling z s) o)
  exchanged_for_none j k e s u v t o a b c (inr d) =
      let same = own_call j k s u v t a (ap (λ (z : Hand X G O F H). z.call) b) c in
      let back = subst (λ (z : Visit X G O F H). HandsBack (Stay (at.RaiseForAll (cast_into e z.shape.workers))) (cast_into e z.shape.workers) z v) a d in
      inr (subst (λ (z : Visit X G O F H). HandsBack (Stay (at.RaiseForAll (cast_into e s.shape.workers))) (cast_into e s.shape.workers) (calling k s) z) (sym same) back)
