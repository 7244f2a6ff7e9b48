-- wrong machines of steps that are not one party's alone: a replay, computed by the kernel, in which a Wake moves the
-- worker that it wakes
use Rattle.std.proofs.Common.{refl}
use Rattle.std.specs.Prelude.{true, false, Option, Some, None, List, [], ◌∷◌, ◌++◌, ◌≡◌, IfSome}
use Rattle.rayon_machine_places.specs.declared.place.Target.TheVariants.{Termination}
use Rattle.rayon_machine_places.specs.declared.place.Place.TheVariants.{ProbeWorking}
use Rattle.rayon_machine_places.specs.declared.act.Act.TheVariants.{Wake}
use Rattle.rayon_machine_runs.specs.declared.event.Event.{Event}
use Rattle.rayon_machine_runs.specs.declared.event.Event.TheVariants.{Go, Spawn}
use Rattle.rayon_machine_places.specs.Places.{act_of, fresh, same_party}
use Rattle.rayon_machine_runs.specs.World.{World}
use Rattle.rayon_machine_runs.specs.Steps.{with_stack}
use Rattle.rayon_machine_laws.specs.Seats.{relocks_at}
use Rattle.rayon_machine_sleep_laws.proofs.Machines.{right, step_by, run_by, times_go, pool_of, a, c}
use Rattle.rayon_machine_step_laws.specs.Alone.{party_of}

-- a Wake moves the worker that it wakes
abbrev moved_on : Option World → Option World
moved_on None = None
moved_on (Some v) = Some (with_stack v a (record { top = ProbeWorking (fresh Termination); below = [] }))

-- a worker sleeps, a job is pushed, and who tells of it is to wake the worker
abbrev waking : List Event
waking = times_go a 21 ++ Spawn c 0 ∷ times_go c 5

-- the clause `others` is broken
wake_moves_the_woken : IfSome (run_by right (pool_of 1) waking) (λ w. IfSome (moved_on (step_by right w (Go c))) (λ v. (act_of c (w.stack c).top ≡ Wake 0 0) × (same_party a (party_of (Go c)) ≡ false) × (relocks_at (w.stack a).top ≡ true) × (relocks_at (v.stack a).top ≡ false)))
wake_moves_the_woken = (refl, refl, refl, refl)

-- in the machine as it is it stands where it stood
wake_leaves_the_woken : IfSome (run_by right (pool_of 1) waking) (λ w. IfSome (step_by right w (Go c)) (λ v. (relocks_at (w.stack a).top ≡ true) × (relocks_at (v.stack a).top ≡ true)))
wake_leaves_the_woken = (refl, refl)
