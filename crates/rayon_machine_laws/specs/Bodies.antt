-- who keeps the share that a scope's body has of the scope's count
use Rattle.std.specs.Prelude.{ℕ, ◌+◌, ◌==◌, List, [], ◌∷◌}
use Rattle.rayon_machine_places.specs.declared.place.Count.{Count}
use Rattle.rayon_machine_places.specs.declared.place.Count.TheVariants.{OfPool, OfScope, OfCast}
use Rattle.rayon_machine_places.specs.declared.place.Share.TheVariants.{Body}
use Rattle.rayon_machine_places.specs.declared.place.Plan.{Plan}
use Rattle.rayon_machine_places.specs.declared.place.Plan.TheVariants.{Open}
use Rattle.rayon_machine_places.specs.declared.place.Then.{Then}
use Rattle.rayon_machine_places.specs.declared.place.Then.TheVariants.{GiveBack}
use Rattle.rayon_machine_places.specs.declared.place.Place.{Place}
use Rattle.rayon_machine_places.specs.declared.place.Place.TheVariants.{RaiseCount, GrowCall, GrowScope, OpenSlot, CloseSlot, LookQueue, PushJob, ScopeBody, StoreBody, LowerCount, SetLatch, LockToSettle, WakeSettled, UnlockSettled, SetLockLatch}
use Rattle.rayon_machine_runs.specs.World.{Stack}
use Rattle.rayon_machine_laws.specs.Once.{one}

-- a share of this count is one of call c's
abbrev pub in_scope : ℕ → Count → ℕ
in_scope c (OfPool p) = 0
in_scope c (OfScope d o) = one (c == d)
in_scope c (OfCast d o) = one (c == d)

-- a call that opens a scope keeps the share of the scope's body
abbrev pub plan_body : ℕ → Plan → ℕ
plan_body c (Open o) = one (c == o.number)
plan_body c _ = 0

-- a refused one keeps it until it hands the body back: then the call's record is of no use to anybody
abbrev pub body_then : ℕ → Then → ℕ
body_then c (GiveBack n) = plan_body c n
body_then c _ = 0

-- how often a place keeps the share that the body of call c has of its scope's count: from the scope's event to the Lower
-- at the body's end, or to the step that hands the body back
abbrev pub body : ℕ → Place → ℕ
body c (RaiseCount n) = plan_body c n
body c (GrowCall n) = plan_body c n
body c (OpenSlot n) = plan_body c n
body c (CloseSlot n) = plan_body c n
body c (LookQueue n) = plan_body c n
body c (PushJob n e) = plan_body c n
body c (GrowScope o) = one (c == o.number)
body c (ScopeBody o) = one (c == o.number)
body c (StoreBody o e) = one (c == o.number)
body c (LowerCount k Body n) = in_scope c k + body_then c n
body c (LowerCount k s n) = body_then c n
body c (SetLatch k) = body_then c k.then
body c (LockToSettle k) = body_then c k.then
body c (WakeSettled k) = body_then c k.then
body c (UnlockSettled k) = body_then c k.then
body c (SetLockLatch d n) = body_then c n
body c _ = 0

-- how often these places do
abbrev pub bodies_in : ℕ → List Place → ℕ
bodies_in c [] = 0
bodies_in c (f ∷ fs) = body c f + bodies_in c fs

-- how often a whole stack does
abbrev pub all_bodies : ℕ → Stack → ℕ
all_bodies c k = body c k.top + bodies_in c k.below
