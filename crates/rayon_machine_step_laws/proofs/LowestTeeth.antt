-- wrong machines of stacks: replays, computed by the kernel, in which a worker waits as an outside caller does, or what
-- stands lowest on a stack is another place than it should be, or stands above too
--
-- An edit of the code that makes the same mistake as `call_waits_for_the_end`, with the function at which the check
-- refuses it: `wait_is_always_for_termination`, at `Target::wait`.
use Rattle.std.proofs.Common.{refl, sym, ◌∙◌}
use Rattle.std.specs.Prelude.{true, Some, None, List, [], ◌∷◌, ◌++◌, ◌≡◌, IfSome}
use Rattle.rayon_machine_places.specs.declared.place.Party.{Party}
use Rattle.rayon_machine_places.specs.declared.place.Target.{Target}
use Rattle.rayon_machine_places.specs.declared.place.Target.TheVariants.{Termination, Answer}
use Rattle.rayon_machine_places.specs.declared.place.OpenCall.{OpenCall}
use Rattle.rayon_machine_places.specs.declared.place.Place.{Place}
use Rattle.rayon_machine_places.specs.declared.place.Place.TheVariants.{ProbeWorking, TellNews, WaitForLock, LeaveSearch, SetLatch, Free}
use Rattle.rayon_machine_places.specs.declared.place.Move.{Move}
use Rattle.rayon_machine_places.specs.declared.place.Move.TheVariants.{Stay, Enter, Back}
use Rattle.rayon_machine_places.specs.declared.act.Act.TheVariants.{LockWait}
use Rattle.rayon_machine_places.specs.declared.act.Seen.{Seen}
use Rattle.rayon_machine_runs.specs.declared.event.Event.{Event}
use Rattle.rayon_machine_runs.specs.declared.event.Event.TheVariants.{Spawn, Install, EndPool}
use Rattle.rayon_machine_places.specs.declared.shape.PoolShape.{PoolShape}
use Rattle.rayon_machine_places.specs.Places.{act_of, fresh, next_of}
use Rattle.rayon_machine_sleep_laws.proofs.Machines.{right, leading, run_by, times_go, pool_of, a, c}
use Rattle.rayon_machine_step_laws.specs.Enabled.{is_worker}
use Rattle.rayon_machine_step_laws.specs.Lowest.{Lowest, NoCall, PoolWait, StandsOn, lowest_at, lowest_of}

-- an outside caller spawns a job, and the worker of a pool of one finds it and begins it
abbrev first_job : List Event
first_job = Spawn c 0 ∷ times_go c 4 ++ times_go a 10

-- the job installs another one at another pool, and is to wait for it
abbrev sent : List Event
sent = first_job ++ Install a 1 ∷ times_go a 5

abbrev other : OpenCall
other = record { number = 0; pool = 1; job = 1 }

-- a call of a worker waits for its lock latch
abbrev by_lock : Target → Move
by_lock (Answer o f) = Stay (WaitForLock o)
by_lock Termination = Stay (ProbeWorking (fresh Termination))

abbrev locked : Move → Move
locked (Stay (ProbeWorking k)) = by_lock k.target
locked m = m

abbrev waits_by_lock : PoolShape → Party → Place → Seen → Move
waits_by_lock h q (TellNews n v) e = locked (next_of h q (TellNews n v) e)
waits_by_lock h q x e = next_of h q x e

-- the clause `blocks` is broken
worker_waits_by_lock : IfSome (run_by (leading waits_by_lock) (pool_of 1) sent) (λ w. (act_of a (w.stack a).top ≡ LockWait 0) × (is_worker a ≡ true))
worker_waits_by_lock = (refl, refl)

-- the machine as it is waits as a worker does, above its job and its wait for the end of its pool
worker_works_meanwhile : IfSome (run_by right (pool_of 1) sent) (λ w. (w.stack a).top ≡ ProbeWorking (fresh (Answer other None)))
worker_works_meanwhile = refl

-- a worker that begins a task goes back to where it is free, and not to its wait
abbrev freed : Move → Move
freed (Enter (ProbeWorking k) y) = Enter Free y
freed m = m

abbrev begins_freed : PoolShape → Party → Place → Seen → Move
begins_freed h q (LeaveSearch k) e = freed (next_of h q (LeaveSearch k) e)
begins_freed h q x e = next_of h q x e

-- the clause `lowest` is broken: the lowest place of a worker is where it is free
worker_becomes_free : IfSome (run_by (leading begins_freed) (pool_of 1) first_job) (λ w. ((w.stack a).below ≡ Free ∷ []) × (lowest_of w.shape a ≡ PoolWait))
worker_becomes_free = (refl, refl)

no_wait : (x : Place) → StandsOn PoolWait x (Free ∷ []) → ⊥
no_wait x s = let e : Some NoCall ≡ Some PoolWait = s.1 in cc

-- in the machine as it is it is the wait
worker_goes_back_to_its_wait : IfSome (run_by right (pool_of 1) first_job) (λ w. (w.stack a).below ≡ ProbeWorking (fresh Termination) ∷ [])
worker_goes_back_to_its_wait = refl

-- a call of a worker waits for the end of the pool
abbrev ends : Move → Move
ends (Stay (ProbeWorking k)) = Stay (ProbeWorking (fresh Termination))
ends m = m

abbrev waits_for_end : PoolShape → Party → Place → Seen → Move
waits_for_end h q (TellNews n v) e = ends (next_of h q (TellNews n v) e)
waits_for_end h q x e = next_of h q x e

-- the clause `lowest` is broken: such a wait stands above the lowest place
call_waits_for_the_end : IfSome (run_by (leading waits_for_end) (pool_of 1) sent) (λ w. (lowest_at (w.stack a).top ≡ Some PoolWait) × (IfSome (run_by right (pool_of 1) sent) (λ v. lowest_at (v.stack a).top ≡ None)))
call_waits_for_the_end = (refl, refl)

none_above : (g : Lowest) (x f : Place) (fs : List Place) → lowest_at x ≡ Some PoolWait → StandsOn g x (f ∷ fs) → ⊥
none_above g x f fs e s = let k : None ≡ Some PoolWait = sym (s.0) ∙ e in cc

-- who has given up the value of a pool is free where it was not
abbrev stays_free : Move → Move
stays_free Back = Stay Free
stays_free m = m

abbrev ends_freely : PoolShape → Party → Place → Seen → Move
ends_freely h q (SetLatch s) e = stays_free (next_of h q (SetLatch s) e)
ends_freely h q x e = next_of h q x e

abbrev given_up : List Event
given_up = EndPool c 0 ∷ times_go c 2

-- the clause `lowest` is broken: it is free above the place where it is free
value_is_given_up_above : IfSome (run_by (leading ends_freely) (pool_of 1) given_up) (λ w. ((w.stack c).top ≡ Free) × ((w.stack c).below ≡ Free ∷ []))
value_is_given_up_above = (refl, refl)

not_twice : (g : Lowest) → StandsOn g Free (Free ∷ []) → ⊥
not_twice g s = let e : Some NoCall ≡ None = s.0 in cc

-- in the machine as it is it is where it was
value_is_given_up : IfSome (run_by right (pool_of 1) given_up) (λ w. ((w.stack c).top ≡ Free) × ((w.stack c).below ≡ []))
value_is_given_up = (refl, refl)
