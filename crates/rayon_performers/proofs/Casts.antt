-- A detached broadcast, act by act.
use Rattle.std.proofs.Common.{◌≡◌, true, false, true≢false, ℕ, None, Some, refl, sym, ap, inl, inr}
use Rattle.rayon_machine_places.specs.declared.act.Act.TheVariants as acts
use Rattle.rayon_machine_places.specs.declared.act.Seen.TheVariants.{Done, Refused}
use Rattle.rayon_machine_places.specs.declared.place.Mark.{Mark as AnyMark}
use Rattle.rayon_machine_places.specs.declared.place.Mark.TheVariants.{Counted, Queued}
use Rattle.rayon_machine_places.specs.declared.place.Move.{Move}
use Rattle.rayon_machine_places.specs.declared.place.Move.TheVariants.{Back, HandAllBack, Mark, Stay}
use Rattle.rayon_machine_places.specs.declared.place.Party.TheVariants.{Worker}
use Rattle.rayon_machine_places.specs.declared.place.Pieces.{Pieces}
use Rattle.rayon_machine_places.specs.declared.place.Place.{Place}
use Rattle.rayon_machine_places.specs.declared.place.Place.TheVariants as at
use Rattle.rayon_machine_places.specs.declared.shape.PoolShape.{PoolShape}
use Rattle.rayon_machine_places.specs.Places.{call_all, is_rest}
use Rattle.rayon_drive.specs.Paths.{place_of}
use Rattle.rayon_drive.specs.Traces.{Adds}
use Rattle.rayon_drive.proofs.Paths.{driven_from}
use Rattle.rayon_performers.specs.Casts.{Casts, HandsBack}
use Rattle.rayon_shared.specs.Casts.{casting}
use Rattle.rayon_performers.specs.Hands.{Hands, Does, Same}
use Rattle.rayon_performers.proofs.Stretches.{So, first_act, by_act}
use Rattle.rayon_performers.proofs.Drives.{then_at, then_goes}

-- a move that goes back leads to no place
back_stays_not : (y : Place) → Back ≡ Stay y → is_rest y ≡ true
back_stays_not y e = absurd (true≢false (sym (ap (λ (m : Move). elim (place_of m) [ None ↦ false | Some z ↦ true ]) e)))

module _ {X G O F : Type 0} (h : PoolShape) (i : ℕ) where
  -- pieces are marked on the way to a place, from which the worker goes back
  pub from_mark : (p : Place) (c : Pieces) (k : AnyMark) (s t : Hands X G O F) → is_rest p ≡ false → So h i (Stay p) s Back t → So h i (Mark p c k) s Back t
  from_mark p c k s t r d = driven_from (λ (a : Hands X G O F) x y b. Does x y a b) (λ (a : Hands X G O F). a.trace) h (Worker 0 i) (Mark p c k) p s t Back refl r back_stays_not d

module _ {X G O F : Type 0} where
  -- the pieces are handed back after what was done before
  pub handed_back : (m n : Move) (c : Pieces) (s t u : Hands X G O F) → So s.shape s.index m s n t → HandsBack n c t u → HandsBack m c s u
  handed_back m n c s t u a (inl d) = inl (then_goes m n (HandAllBack c) s t u a d)
  handed_back m n c s t u a (inr d) = inr (then_goes m n Back s t u a d)

-- a detached broadcast whose pieces have their units
module _ {X G O F : Type 0} (a n : ℕ) (s t u v : Hands X G O F) (d : Does (acts.RaiseAll (casting a n)) Done s t) (e : Adds (acts.RaiseAll (casting a n)) Done s.trace t.trace) (f : Same t u) where
  -- they were queued, and each worker was called
  pub cast_called : Adds (acts.PushCast (casting a n)) Done t.trace u.trace → So u.shape u.index (Mark (call_all u.shape (casting a n)) (casting a n) Queued) u Back v → Casts (casting a n) s v
  cast_called b w =
      let first = Stay (at.RaiseForAll (casting a n)) in
      then_at first (λ h i. Mark (call_all h (casting a n)) (casting a n) Queued) Back s u v
      (by_act s.shape s.index first s (Mark (at.PushForAll (casting a n)) (casting a n) Counted) t u Done refl (first_act s.shape s.index first s t Done refl d e) (f, tt) b) w

  -- they were refused, and their units were given back
  pub cast_withdrawn : Adds (acts.PushCast (casting a n)) Refused t.trace u.trace → HandsBack (Stay (at.LowerForAll (casting a n))) (casting a n) u v → HandsBack (Stay (at.RaiseForAll (casting a n))) (casting a n) s v
  cast_withdrawn b w =
      let first = Stay (at.RaiseForAll (casting a n)) in
      handed_back first (Stay (at.LowerForAll (casting a n))) (casting a n) s u v
      (by_act s.shape s.index first s (Mark (at.PushForAll (casting a n)) (casting a n) Counted) t u Refused refl (first_act s.shape s.index first s t Done refl d e) (f, tt) b) w
