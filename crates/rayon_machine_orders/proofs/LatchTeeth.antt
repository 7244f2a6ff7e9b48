-- wrong machines of latches: replays, computed by the kernel, in which a latch is set twice, or two parties are to set
-- it, or a call takes before its latch is set
--
-- Edits of the code that make the same mistakes, each with the function at which the check refuses it:
-- - `body_and_job_set_the_latch` and `job_sets_the_latch_again`: `body_sets_the_latch_of_its_scope_at_once`, at
--   `Place::next_closing`.
-- - `end_sets_latches_again`: `end_sets_latches_at_once`, at `Place::next_closing`.
use Rattle.std.proofs.Common.{refl}
use Rattle.std.specs.Prelude.{Option, Some, None, List, [], ◌∷◌, ◌++◌, ◌≡◌, IfSome}
use Rattle.rayon_machine_places.specs.declared.place.Ending.{Ending}
use Rattle.rayon_machine_places.specs.declared.place.Ending.TheVariants.{Fine}
use Rattle.rayon_machine_places.specs.declared.place.Latch.{Latch}
use Rattle.rayon_machine_places.specs.declared.place.Latch.TheVariants.{Terminate, OfCall}
use Rattle.rayon_machine_places.specs.declared.place.Place.TheVariants.{JoinPop, TakeResult}
use Rattle.rayon_machine_places.specs.declared.act.Act.{Act}
use Rattle.rayon_machine_places.specs.declared.act.Act.TheVariants.{Probe}
use Rattle.rayon_machine_places.specs.declared.act.Seen.{Seen}
use Rattle.rayon_machine_places.specs.declared.act.Seen.TheVariants.{Yes, No}
use Rattle.rayon_machine_runs.specs.declared.event.Event.{Event}
use Rattle.rayon_machine_runs.specs.declared.event.Event.TheVariants.{Go, End, EndPool, Join, Scope as OpenScope, IntoSpawn, Spawn}
use Rattle.rayon_machine_places.specs.declared.place.Party.{Party}
use Rattle.rayon_machine_runs.specs.declared.state.Letter.TheVariants.{Unset, Set as IsSet}
use Rattle.rayon_machine_runs.specs.World.{Shape, World, Part, Outcome, effect}
use Rattle.rayon_machine_places.specs.Sleepers.{Counts}
use Rattle.rayon_machine_laws.specs.Attended.{letter_at}
use Rattle.rayon_machine_laws.specs.Latch.{setters}
use Rattle.rayon_machine_orders.proofs.WrongMachines.{doing, leading, run_by, times_go, two, a, b, c, right}
use Rattle.rayon_machine_orders.proofs.CountTeeth.{settles_at_once, one_job, sets_early}

-- the body of a scope ends, and has given its share back, and then a job of the scope that a worker runs
abbrev body_then_job : List Event
body_then_job = OpenScope c 0 ∷ times_go c 2 ++ IntoSpawn c 0 ∷ times_go c 5 ++ times_go b 12 ++ End c Fine ∷ times_go c 2 ++ End b Fine ∷ times_go b 2

-- two parties are to set the scope's latch, though one party alone may
record TwoSetters (w : World) : Type 0 where
  caller : setters 0 0 (OfCall 0) c (w.stack c) ≡ 1
  worker : setters 0 0 (OfCall 0) b (w.stack b) ≡ 1

body_and_job_set_the_latch : IfSome (run_by (leading sets_early) (two 32) body_then_job) TwoSetters
body_and_job_set_the_latch = record { caller = refl {a = 1}; worker = refl {a = 1} }

-- a party is to set a latch that is set
record SetsAgain (l : Latch) (q : Party) (w : World) : Type 0 where
  setter : setters 0 0 l q (w.stack q) ≡ 1
  latch : letter_at w 0 0 l ≡ IsSet

-- the caller sets it, and the worker sets it once more
job_sets_the_latch_again : IfSome (run_by (leading sets_early) (two 32) (body_then_job ++ times_go c 1)) (SetsAgain (OfCall 0) b)
job_sets_the_latch_again = record { setter = refl {a = 1}; latch = refl {a = IsSet} }

-- in the machine as it is the worker alone is to set it, and finds it unset
record OneSetter (w : World) : Type 0 where
  caller : setters 0 0 (OfCall 0) c (w.stack c) ≡ 0
  worker : setters 0 0 (OfCall 0) b (w.stack b) ≡ 1
  latch : letter_at w 0 0 (OfCall 0) ≡ Unset

job_sets_the_latch : IfSome (run_by right (two 32) body_then_job) OneSetter
job_sets_the_latch = record { caller = refl {a = 0}; worker = refl {a = 1}; latch = refl {a = Unset} }

-- a terminate latch that was set at the end of a job is set once more where the pool's value is given up
end_sets_latches_again : IfSome (run_by (leading settles_at_once) (two 32) (one_job ++ times_go b 1 ++ EndPool c 0 ∷ times_go c 1)) (SetsAgain Terminate c)
end_sets_latches_again = record { setter = refl {a = 1}; latch = refl {a = IsSet} }

-- a look at a call's latch says that it is set as soon as the call's cell is filled
abbrev seen_filled : Option Ending → Seen
seen_filled (Some e) = Yes
seen_filled None = No

abbrev looks_at_cell : Act → Shape → Party → Counts → Part → Outcome
looks_at_cell (Probe (OfCall k)) h q n m = Some (seen_filled m.call.cell, m)
looks_at_cell act h q n m = effect act h q n m

-- a job joins two, and another worker steals the second side and stores how it ended, before it sets the latch. Then the
-- first side ends, and the join looks
abbrev stolen_side : List Event
stolen_side = Spawn c 0 ∷ times_go c 4 ++ times_go a 12 ++ Join a ∷ times_go a 5 ++ times_go b 11 ++ End b Fine ∷ Go b ∷ End a Fine ∷ Go a ∷ []

-- the call is to take what its cell holds, and its latch is to be set yet
record TakesUnset (w : World) : Type 0 where
  place : (w.stack a).top ≡ TakeResult (record { number = 0; pool = 0; job = 2 }) (Some Fine)
  latch : (w.call 0).latch ≡ Unset

call_takes_before_its_latch : IfSome (run_by (doing looks_at_cell) (two 32) stolen_side) TakesUnset
call_takes_before_its_latch = record { place = refl; latch = refl {a = Unset} }

-- in the machine as it is it looks for its second side, and takes once the latch is set
call_looks_on : IfSome (run_by right (two 32) stolen_side) (λ w. (w.stack a).top ≡ JoinPop (record { number = 0; pool = 0; job = 2 }))
call_looks_on = refl
