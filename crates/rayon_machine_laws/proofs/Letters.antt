-- what holds of an act on a core latch: it leaves its part as it is, or changes the letter of that one latch
use Rattle.std.specs.Prelude.{◌≡◌, IfSome}
use Rattle.rayon_machine_places.specs.declared.place.Latch.{Latch}
use Rattle.rayon_machine_places.specs.declared.act.Seen.{Seen}
use Rattle.rayon_machine_places.specs.declared.act.Seen.TheVariants.{Done, Refused, Yes, No}
use Rattle.rayon_machine_runs.specs.declared.state.Letter.{Letter}
use Rattle.rayon_machine_runs.specs.declared.state.Letter.TheVariants.{Unset, Sleepy as IsSleepy, Sleeping, Set as IsSet}
use Rattle.rayon_machine_runs.specs.World.{Part, with_letter, sleepy, fall_asleep, wake_up, set_latch}

-- the three acts by which a worker waits write a letter that is not Set, or none
module _ (l : Latch) (P : Part → Seen × Part → Type 0) (same : (m : Part) (e : Seen) → P m (e, m)) (written : (m : Part) (e : Seen) (y : Letter) → (y ≡ IsSet → ⊥) → P m (e, with_letter l m y)) where
  pub sleepy_keeps : (m : Part) (x : Letter) → IfSome (sleepy l m x) (P m)
  sleepy_keeps m Unset = written m Done IsSleepy (λ z. cc)
  sleepy_keeps m _ = same m Refused

  pub asleep_keeps : (m : Part) (x : Letter) → IfSome (fall_asleep l m x) (P m)
  asleep_keeps m IsSleepy = written m Done Sleeping (λ z. cc)
  asleep_keeps m _ = same m Refused

  pub wake_keeps : (m : Part) (x : Letter) → IfSome (wake_up l m x) (P m)
  wake_keeps m IsSet = same m Done
  wake_keeps m _ = written m Done Unset (λ z. cc)

-- the act that sets a latch writes Set
module _ (l : Latch) (P : Part → Seen × Part → Type 0) (written : (m : Part) (e : Seen) → P m (e, with_letter l m IsSet)) where
  pub set_keeps : (m : Part) (x : Letter) → IfSome (set_latch l m x) (P m)
  set_keeps m Sleeping = written m Yes
  set_keeps m _ = written m No
