-- wrong machines of where jobs go: replays, computed by the kernel, in which a job that is over runs again, one that was
-- taken to be run is handed back, or a pool's value is given up by another event than its own
use Rattle.std.proofs.Common.{refl}
use Rattle.std.specs.Prelude.{ℕ, Bool, true, false, not, ◌&&◌, if◌then◌else◌, Option, Some, None, List, [], ◌∷◌, ◌++◌, ◌≡◌, IfSome}
use Rattle.rayon_machine_places.specs.declared.place.Count.TheVariants.{OfPool}
use Rattle.rayon_machine_places.specs.declared.place.Ending.TheVariants.{Fine}
use Rattle.rayon_machine_places.specs.declared.place.JobKind.TheVariants.{Detached}
use Rattle.rayon_machine_places.specs.declared.place.Party.{Party}
use Rattle.rayon_machine_places.specs.declared.place.Share.TheVariants.{OfJob, PoolValue}
use Rattle.rayon_machine_places.specs.declared.place.Then.TheVariants.{Resume}
use Rattle.rayon_machine_places.specs.declared.place.Plan.TheVariants.{Detach}
use Rattle.rayon_machine_places.specs.declared.place.Taken.TheVariants.{Plain}
use Rattle.rayon_machine_places.specs.declared.place.Place.{Place}
use Rattle.rayon_machine_places.specs.declared.place.Place.TheVariants.{BeginTask, LowerCount, Run}
use Rattle.rayon_machine_places.specs.declared.place.Move.{Move}
use Rattle.rayon_machine_places.specs.declared.place.Move.TheVariants.{HandBack, Stay}
use Rattle.rayon_machine_places.specs.declared.act.Act.{Act}
use Rattle.rayon_machine_places.specs.declared.act.Act.TheVariants.{Begin, Lower}
use Rattle.rayon_machine_places.specs.declared.act.Seen.{Seen}
use Rattle.rayon_machine_places.specs.declared.act.Seen.TheVariants.{Done, No}
use Rattle.rayon_machine_runs.specs.declared.event.Event.{Event}
use Rattle.rayon_machine_runs.specs.declared.event.Event.TheVariants.{Go, End, Spawn, EndPool}
use Rattle.rayon_machine_places.specs.declared.shape.PoolShape.{PoolShape}
use Rattle.rayon_machine_runs.specs.declared.state.Whereabouts.TheVariants.{HandedBack, Over, Running}
use Rattle.rayon_machine_places.specs.Places.{act_of, is_free, next_of}
use Rattle.rayon_machine_runs.specs.World.{Shape, Stack, World, Part, Outcome, at_job, effect, lowered, target_job}
use Rattle.rayon_machine_places.specs.Sleepers.{Counts}
use Rattle.rayon_machine_runs.specs.Steps.{after_call, is_pool, put, put_stack, step}
use Rattle.rayon_machine_laws.specs.Moves.{leads}
use Rattle.rayon_machine_orders.specs.Values.{is_end_of}
use Rattle.rayon_machine_orders.proofs.WrongMachines.{Machine, doing, making, run_by, times_go, two, a, c, right}

-- a caller spawns a job, a worker finds it and begins it, and its run ends
abbrev one_ends : List Event
one_ends = Spawn c 0 ∷ times_go c 4 ++ times_go a 12 ++ End a Fine ∷ []

-- where a detached job's share is to be given back, its worker goes back to the run
abbrev lowers_none : Act → Shape → Party → Counts → Part → Outcome
lowers_none (Lower k (OfJob t)) h q n m = Some (No, record m { job = at_job (m.job) (Running q) })
lowers_none act h q n m = effect act h q n m

abbrev runs_again : PoolShape → Party → Place → Seen → Move
runs_again h q (LowerCount k (OfJob t) n) e = Stay (Run t (Detached 0))
runs_again h q x e = next_of h q x e

abbrev again : Machine
again = record { act = act_of; aims = target_job; does = lowers_none; next = runs_again; made = step }

-- a step that takes a job from over to its run
record Again (w v : World) : Type 0 where
  before : (w.job 0).at ≡ Over Fine
  after : (v.job 0).at ≡ Running a
  row : leads a (w.job 0).at (v.job 0).at ≡ false

over_runs_again : IfSome (run_by again (two 32) one_ends) (λ w. IfSome (run_by again (Some w) (Go a ∷ [])) (Again w))
over_runs_again = record { before = refl {a = Over Fine}; after = refl {a = Running a}; row = refl }

-- in the machine as it is the job is over before the step and after it
over_stays : IfSome (run_by right (two 32) one_ends) (λ w. IfSome (run_by right (Some w) (Go a ∷ [])) (λ v. ((w.job 0).at ≡ Over Fine) × ((v.job 0).at ≡ Over Fine)))
over_stays = (refl {a = Over Fine}, refl {a = Over Fine})

-- who is to begin a job that it has taken hands it back
abbrev begins_none : Act → Shape → Party → Counts → Part → Outcome
begins_none (Begin t) h q n m = Some (Done, m)
begins_none act h q n m = effect act h q n m

abbrev hands_back : PoolShape → Party → Place → Seen → Move
hands_back h q (BeginTask (Plain t)) e = HandBack (Detach 0 t)
hands_back h q x e = next_of h q x e

abbrev unbegun : Machine
unbegun = record { act = act_of; aims = target_job; does = begins_none; next = hands_back; made = step }

-- a caller spawns a job, and a worker has found it and is to begin it
abbrev one_taken : List Event
one_taken = Spawn c 0 ∷ times_go c 4 ++ times_go a 11

-- a step by which no act may bring a job
record Unled (w v : World) : Type 0 where
  before : (w.job 0).at ≡ Running a
  after : (v.job 0).at ≡ HandedBack
  row : leads a (w.job 0).at (v.job 0).at ≡ false

taken_is_handed_back : IfSome (run_by unbegun (two 32) one_taken) (λ w. IfSome (run_by unbegun (Some w) (Go a ∷ [])) (Unled w))
taken_is_handed_back = record { before = refl {a = Running a}; after = refl {a = HandedBack}; row = refl }

-- in the machine as it is it is in the worker's hand before the step, and runs after it
taken_runs : IfSome (run_by right (two 32) one_taken) (λ w. IfSome (run_by right (Some w) (Go a ∷ [])) (λ v. ((w.job 0).at ≡ Running a) × (((v.job 0).at ≡ Running a) × ((v.job 0).runs ≡ 1))))
taken_runs = (refl {a = Running a}, (refl {a = Running a}, refl {a = 1}))

-- the Lower of a job gives up the pool's value too
abbrev lowers_value : Act → Shape → Party → Counts → Part → Outcome
lowers_value (Lower k (OfJob t)) h q n m = Some (No, record (lowered m k (OfJob t)) { pool = record (m.pool) { held = false } })
lowers_value act h q n m = effect act h q n m

-- a step at which a pool's value is held before it and not after it, which the law forbids
record GivenUp (w v : World) (e : Event) (p : ℕ) : Type 0 where
  before : (w.pool p).held ≡ true
  after : (v.pool p).held ≡ false
  law : ((w.pool p).held && not (is_end_of p e)) ≡ true

lower_gives_up_value : IfSome (run_by (doing lowers_value) (two 32) one_ends) (λ w. IfSome (run_by (doing lowers_value) (Some w) (Go a ∷ [])) (λ v. GivenUp w v (Go a) 0))
lower_gives_up_value = record { before = refl; after = refl; law = refl }

-- in the machine as it is the value is held still
lower_leaves_value : IfSome (run_by right (two 32) one_ends) (λ w. IfSome (run_by right (Some w) (Go a ∷ [])) (λ v. ((w.pool 0).held ≡ true) × ((v.pool 0).held ≡ true)))
lower_leaves_value = (refl, refl)

-- an EndPool gives up pool 0's value, whichever pool it names
abbrev gives_up_first : World → Party → ℕ → Stack → Option World
gives_up_first w q p s =
    if is_free s.top && (is_pool w.shape p && (w.pool p).held)
    then Some (record w { stack = put_stack w.stack q (after_call s (LowerCount (OfPool p) PoolValue Resume)); pool = put w.pool 0 (record (w.pool 0) { held = false }) })
    else None

abbrev ends_first : World → Event → Option World
ends_first w (EndPool q p) = gives_up_first w q p (w.stack q)
ends_first w e = step w e

other_value_is_given_up : IfSome (two 32) (λ w. IfSome (run_by (making ends_first) (Some w) (EndPool c 1 ∷ [])) (λ v. GivenUp w v (EndPool c 1) 0))
other_value_is_given_up = record { before = refl; after = refl; law = refl }

-- in the machine as it is its own value is given up, and pool 0's is held
own_value_is_given_up : IfSome (run_by right (two 32) (EndPool c 1 ∷ [])) (λ v. ((v.pool 0).held ≡ true) × ((v.pool 1).held ≡ false))
own_value_is_given_up = (refl, refl)
