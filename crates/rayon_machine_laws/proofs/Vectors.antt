-- stored replays, computed by the kernel
use Rattle.std.proofs.Common.{refl}
use Rattle.std.specs.Prelude.{ℕ, zero, suc, Bool, true, false, Option, Some, None, List, [], ◌∷◌, ◌++◌, ◌≡◌, IfSome, length}
use Rattle.rayon_machine_places.specs.declared.shape.Order.TheVariants.{NewestFirst, OldestFirst}
use Rattle.rayon_machine_places.specs.declared.place.Party.{Party}
use Rattle.rayon_machine_places.specs.declared.place.Party.TheVariants.{Worker, Caller}
use Rattle.rayon_machine_places.specs.declared.place.Ending.{Ending}
use Rattle.rayon_machine_places.specs.declared.place.Ending.TheVariants.{Fine, Fault}
use Rattle.rayon_machine_places.specs.declared.place.Latch.TheVariants.{Terminate}
use Rattle.rayon_machine_places.specs.declared.place.Place.TheVariants.{Free, Stopped}
use Rattle.rayon_machine_places.specs.declared.act.Act.{Act}
use Rattle.rayon_machine_places.specs.declared.act.Act.TheVariants.{Probe, TakeCast, PopInj, Lock, Wakeup, Begin, Idle}
use Rattle.rayon_machine_runs.specs.declared.event.Event.{Event}
use Rattle.rayon_machine_runs.specs.declared.event.Event.TheVariants.{Go, Refuse, Miss, End, Spawn, Fifo, Install, Join, Scope, IntoSpawn, YieldLocal, EndPool}
use Rattle.rayon_machine_runs.specs.declared.state.Whereabouts.TheVariants.{Over}
use Rattle.rayon_machine_places.specs.Places.{act_of, is_free}
use Rattle.rayon_machine_runs.specs.Readers.{is_done, is_job_that, is_queued, is_running, jobs_that}
use Rattle.rayon_machine_runs.specs.Runs.{start}
use Rattle.rayon_machine_runs.specs.Steps.{step}
use Rattle.rayon_machine_runs.specs.World.{Shape, World, counts_at}

abbrev then_step : Option World → Event → Option World
then_step None e = None
then_step (Some w) e = step w e

abbrev run : Option World → List Event → Option World
run o [] = o
run o (e ∷ es) = run (then_step o e) es

abbrev gos : Party → ℕ → List Event
gos q zero = []
gos q (suc n) = Go q ∷ gos q n

-- pools all of one shape
abbrev pools : (workers jec_bits : ℕ) → Shape
pools n k = record { pool = λ p. record { workers = n; limit = 0; order = NewestFirst; callers_own = false }; callers = 16; jec_bits = k }

-- worker 0 and worker 1 of pool 0, and an outside caller
abbrev a : Party
a = Worker 0 0

abbrev b : Party
b = Worker 0 1

abbrev c : Party
c = Caller 0

-- what a replay prints of a pool
record PoolLine (w : World) (p sleeping inactive turn injected count : ℕ) : Type 0 where
  sleeps : (counts_at w p).sleeping ≡ sleeping
  idles : (counts_at w p).inactive ≡ inactive
  turns : (w.pool p).turn ≡ turn
  holds : length (w.pool p).injector ≡ injected
  counts : (w.pool p).count ≡ count

-- what a replay prints of a worker: its deque's length, whether it is blocked, and its place or next act
record WorkerLine (w : World) (p i deque : ℕ) (blocked : Bool) (next : Act) : Type 0 where
  own : length (w.seat p i).own ≡ deque
  blocks : (w.seat p i).blocked ≡ blocked
  acts : act_of (Worker p i) ((w.stack (Worker p i)).top) ≡ next

-- what a replay prints of the jobs
record JobLine (w : World) (queued running done : ℕ) : Type 0 where
  waits : jobs_that w is_queued ≡ queued
  runs : jobs_that w is_running ≡ running
  ends : jobs_that w is_done ≡ done

-- one worker falls asleep
abbrev falls_asleep : List Event
falls_asleep = gos a 21

sleeper : IfSome (run (Some (start (pools 1 32))) falls_asleep) (λ w. PoolLine w 0 1 1 0 0 1 × WorkerLine w 0 0 0 true (Lock 0 0) × JobLine w 0 0 0)
unfolding is_job_that
sleeper = (record { sleeps = refl; idles = refl; turns = refl; holds = refl; counts = refl }, record { own = refl; blocks = refl; acts = refl }, record { waits = refl; runs = refl; ends = refl })

-- a blocked worker cannot go on
stays_blocked : run (Some (start (pools 1 32))) (falls_asleep ++ Go a ∷ []) ≡ None
stays_blocked = refl

-- a spawned job wakes it
abbrev woken_by_spawn : List Event
woken_by_spawn = falls_asleep ++ Spawn c 0 ∷ gos c 7

woken : IfSome (run (Some (start (pools 1 32))) woken_by_spawn) (λ w. PoolLine w 0 0 1 1 1 2 × WorkerLine w 0 0 0 false (Lock 0 0) × JobLine w 1 0 0)
unfolding is_job_that
woken = (record { sleeps = refl; idles = refl; turns = refl; holds = refl; counts = refl }, record { own = refl; blocks = refl; acts = refl }, record { waits = refl; runs = refl; ends = refl })

-- the job runs, the pool's value is given up, and the worker stops
stops : IfSome (run (Some (start (pools 1 32))) (woken_by_spawn ++ gos a 9 ++ End a Fine ∷ Go a ∷ EndPool c 0 ∷ gos c 2 ++ Go a ∷ [])) (λ w. PoolLine w 0 0 0 1 0 0 × WorkerLine w 0 0 0 false Idle × JobLine w 0 0 1 × ((w.stack a).top ≡ Stopped))
unfolding is_job_that
stops = (record { sleeps = refl; idles = refl; turns = refl; holds = refl; counts = refl }, record { own = refl; blocks = refl; acts = refl }, record { waits = refl; runs = refl; ends = refl }, refl)

-- with a counter of one bit the counter makes a whole turn, and the first worker falls asleep beside a new job
abbrev whole_turn : List Event
whole_turn = gos a 20 ++ gos b 10 ++ Spawn c 0 ∷ gos c 4 ++ Go b ∷ gos a 5

turned_round : IfSome (run (Some (start (pools 2 1))) whole_turn) (λ w. PoolLine w 0 0 2 2 1 2 × WorkerLine w 0 0 0 false (Wakeup Terminate) × WorkerLine w 0 1 0 false (Probe Terminate) × JobLine w 1 0 0)
unfolding is_job_that
turned_round = (record { sleeps = refl; idles = refl; turns = refl; holds = refl; counts = refl }, record { own = refl; blocks = refl; acts = refl }, record { own = refl; blocks = refl; acts = refl }, record { waits = refl; runs = refl; ends = refl })

-- with one of 32 bits it sees the difference
turned_not : IfSome (run (Some (start (pools 2 32))) whole_turn) (λ w. PoolLine w 0 0 2 2 1 2 × WorkerLine w 0 0 0 false TakeCast × WorkerLine w 0 1 0 false (Probe Terminate) × JobLine w 1 0 0)
unfolding is_job_that
turned_not = (record { sleeps = refl; idles = refl; turns = refl; holds = refl; counts = refl }, record { own = refl; blocks = refl; acts = refl }, record { own = refl; blocks = refl; acts = refl }, record { waits = refl; runs = refl; ends = refl })

-- an installed job joins two sides on one worker
abbrev until_join : List Event
until_join = Install c 0 ∷ gos c 5 ++ gos a 10 ++ Join a ∷ []

abbrev until_first_ends : Ending → List Event
until_first_ends e = until_join ++ gos a 5 ++ End a e ∷ gos a 3 ++ End a Fine ∷ Go a ∷ []

joined_both : IfSome (run (Some (start (pools 1 32))) (until_first_ends Fine ++ End a Fine ∷ gos a 2 ++ gos c 3)) (λ w. PoolLine w 0 0 0 1 0 1 × WorkerLine w 0 0 0 false (Probe Terminate) × JobLine w 0 0 3 × ((w.stack c).top ≡ Free))
unfolding is_job_that
joined_both = (record { sleeps = refl; idles = refl; turns = refl; holds = refl; counts = refl }, record { own = refl; blocks = refl; acts = refl }, record { waits = refl; runs = refl; ends = refl }, refl)

-- where the first side faults the second runs inside the wait, so the installed job cannot end yet
abbrev is_run : Option World → Bool
is_run None = false
is_run (Some w) = true

first_faults : is_run (run (Some (start (pools 1 32))) (until_first_ends Fault)) ≡ true
first_faults = refl

not_ended : run (Some (start (pools 1 32))) (until_first_ends Fault ++ End a Fine ∷ []) ≡ None
not_ended = refl

-- a join whose push is refused: its two jobs are handed back, and the job that called runs on
join_refused : IfSome (run (Some (start (pools 1 32))) (until_join ++ gos a 3 ++ Refuse a ∷ Go a ∷ [])) (λ w. PoolLine w 0 0 0 1 0 2 × WorkerLine w 0 0 0 false Idle × JobLine w 0 1 0 × (is_free (w.stack a).top ≡ true))
unfolding is_job_that
join_refused = (record { sleeps = refl; idles = refl; turns = refl; holds = refl; counts = refl }, record { own = refl; blocks = refl; acts = refl }, record { waits = refl; runs = refl; ends = refl }, refl)

-- two injected jobs, the second beside a worker that is about to leave its search: the leaving worker wakes the sleeper
abbrev two_spawns : List Event
two_spawns = gos a 25 ++ gos b 4 ++ Spawn c 0 ∷ Spawn (Caller 1) 0 ∷ gos c 2 ++ gos (Caller 1) 2 ++ gos c 2 ++ gos (Caller 1) 2

leaving_wakes : IfSome (run (Some (start (pools 2 32))) (two_spawns ++ gos b 10)) (λ w. PoolLine w 0 0 1 1 1 3 × WorkerLine w 0 0 0 false (Lock 0 0) × WorkerLine w 0 1 0 false (Begin 0) × JobLine w 1 1 0)
unfolding is_job_that
leaving_wakes = (record { sleeps = refl; idles = refl; turns = refl; holds = refl; counts = refl }, record { own = refl; blocks = refl; acts = refl }, record { own = refl; blocks = refl; acts = refl }, record { waits = refl; runs = refl; ends = refl })

-- before its last steps that worker has not woken it yet
not_yet_woken : IfSome (run (Some (start (pools 2 32))) (two_spawns ++ gos b 7)) (λ w. PoolLine w 0 1 1 1 1 3 × WorkerLine w 0 0 0 true (Lock 0 0) × WorkerLine w 0 1 0 false (Lock 0 0) × JobLine w 1 1 0)
unfolding is_job_that
not_yet_woken = (record { sleeps = refl; idles = refl; turns = refl; holds = refl; counts = refl }, record { own = refl; blocks = refl; acts = refl }, record { own = refl; blocks = refl; acts = refl }, record { waits = refl; runs = refl; ends = refl })

-- installs nested across two pools: each pool's worker waits for the other's
abbrev nested : List Event
nested = Spawn c 0 ∷ gos c 4 ++ gos a 10 ++ Install a 1 ∷ gos a 5 ++ gos (Worker 1 0) 10 ++ Install (Worker 1 0) 0 ∷ gos (Worker 1 0) 5 ++ gos a 10

across_pools : IfSome (run (Some (start (pools 1 32))) (nested ++ End a Fine ∷ gos a 2 ++ gos (Worker 1 0) 3 ++ End (Worker 1 0) Fine ∷ gos (Worker 1 0) 2 ++ gos a 3)) (λ w. PoolLine w 0 0 0 1 0 2 × WorkerLine w 0 0 0 false Idle × PoolLine w 1 0 0 1 0 1 × WorkerLine w 1 0 0 false (Probe Terminate) × JobLine w 0 1 2 × (is_free (w.stack a).top ≡ true))
unfolding is_job_that
across_pools = (record { sleeps = refl; idles = refl; turns = refl; holds = refl; counts = refl }, record { own = refl; blocks = refl; acts = refl }, record { sleeps = refl; idles = refl; turns = refl; holds = refl; counts = refl }, record { own = refl; blocks = refl; acts = refl }, record { waits = refl; runs = refl; ends = refl }, refl)

-- an outside caller opens a scope and spawns one job into it, which faults; it waits until that job is over
abbrev until_body_ends : List Event
until_body_ends = Scope c 0 ∷ gos c 2 ++ IntoSpawn c 0 ∷ gos c 5 ++ End c Fine ∷ gos c 2

scope_waited : IfSome (run (Some (start (pools 1 32))) (until_body_ends ++ gos a 10 ++ End a Fault ∷ gos a 3 ++ gos c 3)) (λ w. PoolLine w 0 0 0 1 0 1 × WorkerLine w 0 0 0 false (Probe Terminate) × JobLine w 0 0 2 × ((w.stack c).top ≡ Free))
unfolding is_job_that
scope_waited = (record { sleeps = refl; idles = refl; turns = refl; holds = refl; counts = refl }, record { own = refl; blocks = refl; acts = refl }, record { waits = refl; runs = refl; ends = refl }, refl)

-- before the job is over the scope's latch is not set, so the caller can't go on
scope_not_over : run (Some (start (pools 1 32))) (until_body_ends ++ Go c ∷ []) ≡ None
scope_not_over = refl

-- a spawn in order whose token is refused, and one that is not: the token begins the one job that the list has
in_order : IfSome (run (Some (start (pools 1 32))) (Spawn c 0 ∷ gos c 4 ++ gos a 10 ++ Fifo a 0 ∷ gos a 3 ++ Refuse a ∷ gos a 2 ++ Fifo a 0 ∷ gos a 5 ++ End a Fine ∷ gos a 4)) (λ w. PoolLine w 0 0 0 1 0 2 × WorkerLine w 0 0 0 false Idle × JobLine w 0 1 1 × (is_free (w.stack a).top ≡ true))
unfolding is_job_that
in_order = (record { sleeps = refl; idles = refl; turns = refl; holds = refl; counts = refl }, record { own = refl; blocks = refl; acts = refl }, record { waits = refl; runs = refl; ends = refl }, refl)

-- a steal misses the one task of its victim's deque
abbrev until_steal : List Event
until_steal = Spawn c 0 ∷ gos c 4 ++ gos a 12 ++ Spawn a 0 ∷ gos a 4 ++ gos b 8 ++ Miss b ∷ []

steal_missed : IfSome (run (Some (start (pools 2 32))) until_steal) (λ w. PoolLine w 0 0 1 1 0 3 × WorkerLine w 0 0 1 false Idle × WorkerLine w 0 1 0 false PopInj × JobLine w 1 1 0 × (is_free (w.stack a).top ≡ true))
unfolding is_job_that
steal_missed = (record { sleeps = refl; idles = refl; turns = refl; holds = refl; counts = refl }, record { own = refl; blocks = refl; acts = refl }, record { own = refl; blocks = refl; acts = refl }, record { waits = refl; runs = refl; ends = refl }, refl)

-- in a pool that is oldest first none does
no_miss : run (Some (start (record { pool = λ p. record { workers = 2; limit = 0; order = OldestFirst; callers_own = false }; callers = 16; jec_bits = 32 }))) until_steal ≡ None
no_miss = refl

-- the caller's own worker runs jobs only inside its calls
abbrev own_worker : Shape
own_worker = record { pool = λ p. record { workers = 1; limit = 0; order = OldestFirst; callers_own = true }; callers = 16; jec_bits = 32 }

own_spawns : IfSome (run (Some (start own_worker)) (Spawn a 0 ∷ gos a 4 ++ Spawn a 0 ∷ gos a 4)) (λ w. PoolLine w 0 0 0 1 0 3 × WorkerLine w 0 0 2 false Idle × JobLine w 2 0 0 × ((w.stack a).top ≡ Free))
unfolding is_job_that
own_spawns = (record { sleeps = refl; idles = refl; turns = refl; holds = refl; counts = refl }, record { own = refl; blocks = refl; acts = refl }, record { waits = refl; runs = refl; ends = refl }, refl)

own_yields : IfSome (run (Some (start own_worker)) (Spawn a 0 ∷ gos a 4 ++ Spawn a 0 ∷ gos a 4 ++ YieldLocal a ∷ gos a 2 ++ End a Fine ∷ Go a ∷ [])) (λ w. PoolLine w 0 0 0 1 0 2 × WorkerLine w 0 0 1 false Idle × JobLine w 1 0 1 × ((w.stack a).top ≡ Free) × ((w.job 0).at ≡ Over Fine))
unfolding is_job_that
own_yields = (record { sleeps = refl; idles = refl; turns = refl; holds = refl; counts = refl }, record { own = refl; blocks = refl; acts = refl }, record { waits = refl; runs = refl; ends = refl }, refl, refl)

no_end_when_free : run (Some (start own_worker)) (End a Fine ∷ []) ≡ None
no_end_when_free = refl
