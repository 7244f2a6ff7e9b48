-- A broadcast into a scope, act by act, and the shares of its count.
use Rattle.std.proofs.Common.{◌≡◌, Bool, true, false, true≢false, ℕ, Option, None, Some, refl, sym, subst, ap, inl, inr}
use Rattle.rayon_machine_places.specs.declared.act.Act.TheVariants as acts
use Rattle.rayon_machine_places.specs.declared.act.Seen.TheVariants.{Done, Refused, Yes}
use Rattle.rayon_machine_places.specs.declared.place.Count.{Count}
use Rattle.rayon_machine_places.specs.declared.place.Count.TheVariants.{OfCast, OfPool, OfScope}
use Rattle.rayon_machine_places.specs.declared.place.Entry.{Entry}
use Rattle.rayon_machine_places.specs.declared.place.Mark.TheVariants.{Counted, Numbered, Queued, Returned, Unnumbered}
use Rattle.rayon_machine_places.specs.declared.place.Move.{Move}
use Rattle.rayon_machine_places.specs.declared.place.Move.TheVariants.{Back, HandAllBack, Mark, Stay}
use Rattle.rayon_machine_places.specs.declared.place.Party.TheVariants.{Caller, Worker}
use Rattle.rayon_machine_places.specs.declared.place.Pieces.{Pieces}
use Rattle.rayon_machine_places.specs.declared.place.Place.{Place}
use Rattle.rayon_machine_places.specs.declared.place.Place.TheVariants as at
use Rattle.rayon_machine_places.specs.declared.place.Then.TheVariants.{Resume}
use Rattle.rayon_machine_places.specs.declared.shape.PoolShape.{PoolShape}
use Rattle.rayon_machine_places.specs.Places.{call_all, end_cast, ends_count, is_rest}
use Rattle.rayon_drive.specs.Paths.{place_of}
use Rattle.rayon_drive.specs.Traces.{Adds}
use Rattle.rayon_drive.proofs.Paths.{driven_from}
use Rattle.rayon_tasks.specs.Tickets.{CoreOf}
use Rattle.rayon_performers.specs.Casts.{CastsInto, GoesNumbered, HandsBack, StayUnnumbered}
use Rattle.rayon_shared.specs.Casts.{cast_into}
use Rattle.rayon_performers.specs.Hands.{Hands, Does, LowersAll, RaisesAll, Same, counted}
use Rattle.rayon_shared.specs.AtHand.{answer}
use Rattle.rayon_performers.specs.Keeps.{told_at}
use Rattle.rayon_shared.specs.Marks.{GivesShares, GivesUnits, IsCountOf, MissesShare, MissesUnits, TakesShares, TakesUnits, scope_in}
use Rattle.rayon_shared.specs.Seats.{Resting}
use Rattle.rayon_performers.specs.Stands.{At, Hand, hand}
use Rattle.rayon_shared.proofs.Shares.{of_scope}
use Rattle.rayon_performers.proofs.Casts.{from_mark, handed_back}
use Rattle.rayon_performers.proofs.Scopes.{replied}
use Rattle.rayon_performers.proofs.Stretches.{So, first_act, by_act, and_then, of_worker}
use Rattle.rayon_performers.proofs.Drives.{does_stays, drive_stays, seat_then, then_goes}

-- the latch that is set for a count is no place at rest
ends_goes : (k : Count) → is_rest (ends_count k) ≡ false
ends_goes (OfPool p) = refl
ends_goes (OfScope c (Worker p i)) = refl
ends_goes (OfScope c (Caller n)) = refl
ends_goes (OfCast c (Worker p i)) = refl
ends_goes (OfCast c (Caller n)) = refl

-- a move that hands pieces back leads to no place
hands_stay_not : (c : Pieces) (y : Place) → HandAllBack c ≡ Stay y → is_rest y ≡ true
hands_stay_not c y e = absurd (true≢false (sym (ap (λ (m : Move). elim (place_of m) [ None ↦ false | Some z ↦ true ]) e)))

module _ {X G O F : Type 0} (c : Pieces) (s t : Hands X G O F) where
  -- a step of the scope's count
  module _ (is : IsCountOf (scope_in s.reply) c.count) (left : t ≡ record s { tally = t.tally; trace = t.trace }) where
    pub shares_raised : TakesShares c.workers (scope_in s.reply) t.tally → Does (acts.RaiseAll c) Done s t
    shares_raised a = of_scope (λ (k : Count). (t ≡ record (counted k t s) { trace = t.trace }) × RaisesAll k c.workers Done s t) (scope_in s.reply) c.count is (λ n o e. (left, a))

    pub shares_missed : MissesShare (scope_in s.reply) t.tally → Does (acts.RaiseAll c) Refused s t
    shares_missed a = of_scope (λ (k : Count). (t ≡ record (counted k t s) { trace = t.trace }) × RaisesAll k c.workers Refused s t) (scope_in s.reply) c.count is (λ n o e. (left, a))

    pub shares_lowered : (b : Bool) → GivesShares c.workers (scope_in s.reply) b t.tally → Does (acts.LowerAll c) (answer b) s t
    shares_lowered true a = of_scope (λ (k : Count). (t ≡ record (counted k t s) { trace = t.trace }) × LowersAll k c.workers true s t) (scope_in s.reply) c.count is (λ n o e. (left, a))
    shares_lowered false a = of_scope (λ (k : Count). (t ≡ record (counted k t s) { trace = t.trace }) × LowersAll k c.workers false s t) (scope_in s.reply) c.count is (λ n o e. (left, a))

  -- a step of the terminate count
  module _ (is : c.count ≡ OfPool 0) (left : t ≡ record s { marks = record { set = s.marks.set; count = t.marks.count }; trace = t.trace }) where
    pub units_raised : TakesUnits c.workers s.marks.count t.marks.count → Does (acts.RaiseAll c) Done s t
    units_raised a = subst (λ (k : Count). (t ≡ record (counted k t s) { trace = t.trace }) × RaisesAll k c.workers Done s t) (sym is) (left, a)

    pub units_missed : MissesUnits s.marks.count t.marks.count → Does (acts.RaiseAll c) Refused s t
    units_missed a = subst (λ (k : Count). (t ≡ record (counted k t s) { trace = t.trace }) × RaisesAll k c.workers Refused s t) (sym is) (left, a)

    pub units_lowered : (b : Bool) → GivesUnits c.workers b s.marks.count t.marks.count → Does (acts.LowerAll c) (answer b) s t
    units_lowered true a = subst (λ (k : Count). (t ≡ record (counted k t s) { trace = t.trace }) × LowersAll k c.workers true s t) (sym is) (left, a)
    units_lowered false a = subst (λ (k : Count). (t ≡ record (counted k t s) { trace = t.trace }) × LowersAll k c.workers false s t) (sym is) (left, a)

module _ {X G O F : Type 0} (h : PoolShape) (i : ℕ) (c : Pieces) (s t u : Hands X G O F) where
  -- they are queued, or were refused
  pub numbered_pushed : (k : ℕ) → Same s t → Adds (acts.PushCast c) Done s.trace t.trace → So h i (Mark (at.PushForAll c) c (Numbered k)) s (Mark (call_all h c) c Queued) t
  numbered_pushed k d a = first_act h i (Mark (at.PushForAll c) c (Numbered k)) s t Done refl (d, tt) a

  pub numbered_not_pushed : (m : Move) (k : ℕ) (z : Option CoreOf) → IsCountOf z c.count → So h i m s (Mark (at.PushForAll c) c (Numbered k)) t → Same t u → Adds (acts.PushCast c) Refused t.trace u.trace → So h i m s (Stay (at.CloseForAll c)) u
  numbered_not_pushed m k z is b d a =
      let closes : end_cast c.count c ≡ at.CloseForAll c = of_scope (λ (q : Count). end_cast q c ≡ at.CloseForAll c) z c.count is (λ n o f. refl) in
      subst (λ (p : Place). So h i m s (Stay p) u) closes (by_act h i m s (Mark (at.PushForAll c) c (Numbered k)) t u Refused refl b (d, tt) a)

module _ {X G O F : Type 0} (c : Pieces) (s t : Hands X G O F) where
  -- shares are given back once the numbers are
  from_unnumbered : HandsBack (Stay (at.LowerForAll c)) c s t → HandsBack (Mark (at.LowerForAll c) c Unnumbered) c s t
  from_unnumbered (inl d) = inl (driven_from (λ (a : Hands X G O F) x y b. Does x y a b) (λ (a : Hands X G O F). a.trace) s.shape (Worker 0 s.index) (Mark (at.LowerForAll c) c Unnumbered) (at.LowerForAll c) s t (HandAllBack c) refl refl (hands_stay_not c) d)
  from_unnumbered (inr d) = inr (from_mark s.shape s.index (at.LowerForAll c) c Unnumbered s t refl d)

-- a broadcast into a scope whose pieces have shares of its count
module _ {X G O F : Type 0} (e : Entry) (n : ℕ) (s t u v : Hands X G O F) (d : Does (acts.RaiseAll (cast_into e n)) Done s t) (a : Adds (acts.RaiseAll (cast_into e n)) Done s.trace t.trace) where
  -- the pieces got numbers and were queued, and each worker was called
  pub cast_numbered : (k : ℕ) → GoesNumbered (cast_into e n) k (Mark (at.OpenForAll (cast_into e n)) (cast_into e n) Counted) t u (Mark (call_all t.shape (cast_into e n)) (cast_into e n) Queued) → So u.shape u.index (Mark (call_all u.shape (cast_into e n)) (cast_into e n) Queued) u Back v → CastsInto (cast_into e n) k s v
  cast_numbered k g w =
      let c = cast_into e n in
      let first = Stay (at.RaiseForAll c) in
      let opens = Mark (at.OpenForAll c) c Counted in
      let pushes = Mark (at.PushForAll c) c (Numbered k) in
      let calls = Mark (call_all s.shape c) c Queued in
      let x = g.0 in
      let raised = does_stays (acts.RaiseAll c) Done s t d in
      let numbered = seat_then s t x raised (drive_stays t.shape t.index opens t x pushes g.1) in
      let same = seat_then s x u numbered (drive_stays t.shape t.index pushes x u (Mark (call_all t.shape c) c Queued) g.2) in
      let queued = subst (λ (z : ℕ). So s.shape z pushes x calls u) raised.0 (subst (λ (z : PoolShape). So z t.index pushes x (Mark (call_all z c) c Queued) u) raised.1 g.2) in
      let called = of_worker s u v calls Back same.1 same.0 (subst (λ (z : PoolShape). So u.shape u.index (Mark (call_all z c) c Queued) u Back v) same.1 w) in (
        x,
        then_goes first opens pushes s t x (first_act s.shape s.index (Stay (at.RaiseForAll (cast_into e n))) s t Done refl d a) g.1,
        and_then s.shape s.index pushes x calls Back u v queued called,
      )

  -- they got none, or were not queued, and their shares were given back
  pub cast_unnumbered : StayUnnumbered (cast_into e n) t u → HandsBack (Stay (at.LowerForAll (cast_into e n))) (cast_into e n) u v → HandsBack (Stay (at.RaiseForAll (cast_into e n))) (cast_into e n) s v
  cast_unnumbered (inl g) w =
      let c = cast_into e n in
      let first = Stay (at.RaiseForAll c) in
      let opens = Mark (at.OpenForAll c) c Counted in
      let lowers = Stay (at.LowerForAll c) in
      handed_back first lowers c s u v (then_goes first opens lowers s t u (first_act s.shape s.index (Stay (at.RaiseForAll (cast_into e n))) s t Done refl d a) g) w
  cast_unnumbered (inr g) w =
      let c = cast_into e n in
      let first = Stay (at.RaiseForAll c) in
      let opens = Mark (at.OpenForAll c) c Counted in
      let lowers = Mark (at.LowerForAll c) c Unnumbered in
      handed_back first lowers c s u v (then_goes first opens lowers s t u (first_act s.shape s.index (Stay (at.RaiseForAll (cast_into e n))) s t Done refl d a) g) (from_unnumbered c u v w)

-- the shares of the pieces were the last of the scope's count: its latch is set
module _ {X G O F : Type 0} (c : Pieces) (s u : Hands X G O F) (is : IsCountOf (scope_in s.reply) c.count) (left : u ≡ record s { tally = u.tally; trace = u.trace }) (rests : Resting s.chair) where
  pub scope_ends : (E : Move → Hand X G O F → Type 0) (i : ℕ) (p : Place) → p ≡ ends_count c.count → E Back (hand u) → At E (Worker 0 i) u (Stay p)
  scope_ends E i p e b =
      let still : Resting u.chair = subst (λ (z : Hands X G O F). Resting z.chair) (sym left) rests in
      subst (λ (z : Place). At E (Worker 0 i) u (Stay z)) (sym e)
      (of_scope (λ (k : Count). At E (Worker 0 i) u (Stay (ends_count k))) (scope_in s.reply) c.count is (λ n o f. told_at E u 0 i n o Resume (replied n s u left f) ((b, tt), still)))

  -- and the worker goes back
  pub shares_ended : (v : Hands X G O F) (p : Place) → p ≡ ends_count c.count → Does (acts.LowerAll c) (answer true) s u → Adds (acts.LowerAll c) (answer true) s.trace u.trace → So u.shape u.index (Stay p) u Back v → HandsBack (Stay (at.LowerForAll c)) c s v
  shares_ended v p e d a w =
      let ends = Mark (ends_count c.count) c Returned in
      let sets = from_mark u.shape u.index (ends_count c.count) c Returned u v (ends_goes c.count) (subst (λ (z : Place). So u.shape u.index (Stay z) u Back v) e w) in
      inr (then_goes (Stay (at.LowerForAll c)) ends Back s u v (first_act s.shape s.index (Stay (at.LowerForAll c)) s u Yes refl d a) sets)
