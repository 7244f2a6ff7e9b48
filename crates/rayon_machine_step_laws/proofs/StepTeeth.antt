-- wrong machines of steps: replays, computed by the kernel, in which a changed step breaks a clause of law_enabled or
-- of law_yield, and that the machine as it is meets the clause there
use Rattle.std.proofs.Common.{refl}
use Rattle.rayon_machine_sleep_laws.proofs.Words.{ℕ, zero, suc, Bool, true, false, ◌==◌, nat_lt, if◌then◌else◌, Option, Some, None, is_some, List, [], ◌∷◌, ◌++◌, ◌≡◌, IfSome, NewestFirst, Party, Worker, Caller, Fine, Fault, Termination, Plain, Place, ProbeWorking, YieldPop, YieldTakeCast}
use Rattle.rayon_machine_sleep_laws.proofs.Words.{YieldPick, YieldPopInjected, LocalTakeCast, BeginTask, TellNews, AtOnce, Free, Stopped, Act, LookOwn, PushInj, News, Take, Event, Go, From, Refuse, Miss, End, Spawn, Fifo, Install, OpenScope, IntoSpawn, Yield, YieldLocal, EndPool, act_of, fresh}
use Rattle.rayon_machine_sleep_laws.proofs.Words.{is_free, is_rest, victim_of, Stack, World, is_held_by, is_pool, step, with_stack, start, Spot, OwnDeque, OwnCast, Injector, Look, and_then, whole_search}
use Rattle.rayon_machine_places.specs.declared.act.Act.TheVariants.{Load}
use Rattle.rayon_machine_runs.specs.Steps.{back}
use Rattle.rayon_machine_step_laws.specs.Yields.{local_search, yield_look_of}
use Rattle.rayon_machine_step_laws.specs.Enabled.{can_refuse, has_act, is_enabled, is_open_to, is_run, steal_misses}

-- a machine: its step. A run of it
abbrev Machine : Type 0
Machine = World → Event → Option World

abbrev then_by : Machine → Option World → Event → Option World
then_by m None e = None
then_by m (Some w) e = m w e

abbrev run_by : Machine → Option World → List Event → Option World
run_by m o [] = o
run_by m o (e ∷ es) = run_by m (then_by m o e) es

abbrev times_go : Party → ℕ → List Event
times_go q zero = []
times_go q (suc n) = Go q ∷ times_go q n

-- a pool of so many workers, the first of them the caller's own or not
abbrev pool_of : ℕ → Bool → Option World
pool_of n own = Some (start (record { pool = λ p. record { workers = n; limit = 0; order = NewestFirst; callers_own = own }; callers = 16; jec_bits = 32 }))

-- two workers and two outside callers
abbrev a : Party
a = Worker 0 0

abbrev b : Party
b = Worker 0 1

abbrev c : Party
c = Caller 0

abbrev d : Party
d = Caller 1

-- a party's place
abbrev top : World → Party → Place
top w q = (w.stack q).top

-- a machine in which some acts are never enabled
abbrev without : (Act → Bool) → Machine
without f w (Go q) = if f (act_of q (top w q)) then None else step w (Go q)
without f w e = step w e

-- a machine in which some acts lead elsewhere
abbrev redirected : Party → Place → Option World → Option World
redirected q y None = None
redirected q y (Some v) = Some (with_stack v q (record { top = y; below = (v.stack q).below }))

abbrev tells_news : Place → Bool
tells_news (TellNews n e) = true
tells_news x = false

abbrev telling : Place → Machine
telling y w (Go q) = if tells_news (top w q) then redirected q y (step w (Go q)) else step w (Go q)
telling y w e = step w e

-- a party need not wait for its act, and cannot make it
abbrev IsStuck : Machine → Party → World → Type 0
IsStuck m q w = (is_open_to w q (act_of q (top w q)) ≡ true) × (is_some (m w (Go q)) ≡ false)

-- no event is enabled
abbrev stands_still : Machine
stands_still w e = None

-- the clause of acts that can be made is broken
machine_stands_still : IfSome (run_by stands_still (pool_of 1 false) []) (IsStuck stands_still a)
machine_stands_still = (refl, refl)

machine_moves : IfSome (run_by step (pool_of 1 false) []) (λ w. is_enabled w (Go a) ≡ true)
machine_moves = refl

-- who has pushed a job cannot tell the news
abbrev is_news : Act → Bool
is_news (News p e) = true
is_news x = false

abbrev spawned : List Event
spawned = Spawn c 0 ∷ times_go c 3

news_are_stuck : IfSome (run_by (without is_news) (pool_of 1 false) spawned) (IsStuck (without is_news) c)
news_are_stuck = (refl, refl)

news_are_told : IfSome (run_by step (pool_of 1 false) spawned) (λ w. is_enabled w (Go c) ≡ true)
news_are_told = refl

-- who has waited cannot take what its call's cell holds
abbrev is_take : Act → Bool
is_take (Take n) = true
is_take x = false

abbrev installed : List Event
installed = Install c 0 ∷ times_go c 5 ++ times_go a 10 ++ End a Fine ∷ times_go a 2 ++ Go c ∷ []

take_is_stuck : IfSome (run_by (without is_take) (pool_of 1 false) installed) (IsStuck (without is_take) c)
take_is_stuck = (refl, refl)

take_is_made : IfSome (run_by step (pool_of 1 false) installed) (λ w. is_enabled w (Go c) ≡ true)
take_is_made = refl

-- who holds its own sleep lock cannot read the counters: the clause of holders is broken
abbrev is_load : Act → Bool
is_load Load = true
is_load x = false

lock_is_kept : IfSome (run_by (without is_load) (pool_of 1 false) (times_go a 16)) (λ w. (is_held_by a (w.seat 0 0).lock ≡ true) × (is_some (without is_load w (Go a)) ≡ false))
lock_is_kept = (refl, refl)

lock_is_left : IfSome (run_by step (pool_of 1 false) (times_go a 16)) (λ w. (is_held_by a (w.seat 0 0).lock ≡ true) × (is_enabled w (Go a) ≡ true))
lock_is_left = (refl, refl)

-- who holds the book of a scope cannot push its job
abbrev is_push : Act → Bool
is_push (PushInj p t k) = true
is_push x = false

abbrev entered : List Event
entered = OpenScope c 0 ∷ times_go c 2 ++ IntoSpawn c 0 ∷ times_go c 3

book_is_kept : IfSome (run_by (without is_push) (pool_of 1 false) entered) (λ w. (is_held_by c (w.call 0).writer ≡ true) × (is_some (without is_push w (Go c)) ≡ false))
book_is_kept = (refl, refl)

book_is_left : IfSome (run_by step (pool_of 1 false) entered) (λ w. (is_held_by c (w.call 0).writer ≡ true) × (is_enabled w (Go c) ≡ true))
book_is_left = (refl, refl)

-- who holds a FIFO list of its own cannot look at its deque
abbrev is_look : Act → Bool
is_look LookOwn = true
is_look x = false

abbrev fed : List Event
fed = Fifo a 0 ∷ times_go a 2

list_is_kept : IfSome (run_by (without is_look) (pool_of 1 true) fed) (λ w. (is_held_by a ((w.seat 0 0).feeder None) ≡ true) × (is_some (without is_look w (Go a)) ≡ false))
list_is_kept = (refl, refl)

list_is_left : IfSome (run_by step (pool_of 1 true) fed) (λ w. (is_held_by a ((w.seat 0 0).feeder None) ≡ true) × (is_enabled w (Go a) ≡ true))
list_is_left = (refl, refl)

-- an outside caller waits for its call as a worker does, and has no act there: the clause of acts is broken
abbrev waited : List Event
waited = Install c 0 ∷ times_go c 5

caller_waits_as_worker : IfSome (run_by (telling (ProbeWorking (fresh Termination))) (pool_of 1 false) waited) (λ w. (is_rest (top w c) ≡ false) × (has_act (act_of c (top w c)) ≡ false))
caller_waits_as_worker = (refl, refl)

caller_waits : IfSome (run_by step (pool_of 1 false) waited) (λ w. (is_rest (top w c) ≡ false) × (has_act (act_of c (top w c)) ≡ true))
caller_waits = (refl, refl)

-- a spawn ends at a frame, where nothing goes on
caller_stands_at_frame : IfSome (run_by (telling (AtOnce 0 0)) (pool_of 1 false) (Spawn c 0 ∷ times_go c 4)) (λ w. (is_rest (top w c) ≡ true) × (is_free (top w c) ≡ false) × (top w c ≡ AtOnce 0 0))
caller_stands_at_frame = (refl, refl, refl)

caller_is_free_again : IfSome (run_by step (pool_of 1 false) (Spawn c 0 ∷ times_go c 4)) (λ w. top w c ≡ Free)
caller_is_free_again = refl

-- an outside caller stops once it has spawned
caller_stops : IfSome (run_by (telling Stopped) (pool_of 1 false) (Spawn c 0 ∷ times_go c 4)) (λ w. (nat_lt 0 w.shape.callers ≡ true) × (top w c ≡ Stopped))
caller_stops = (refl, refl)

-- no act is ever refused: the clause of refusals is broken
abbrev never_refuses : Machine
never_refuses w (Refuse q) = None
never_refuses w e = step w e

abbrev looked : List Event
looked = Spawn c 0 ∷ times_go c 2

push_cannot_be_refused : IfSome (run_by never_refuses (pool_of 1 false) looked) (λ w. (can_refuse (act_of c (top w c)) ≡ true) × (is_some (never_refuses w (Refuse c)) ≡ false))
push_cannot_be_refused = (refl, refl)

push_can_be_refused : IfSome (run_by step (pool_of 1 false) looked) (λ w. (can_refuse (act_of c (top w c)) ≡ true) × (is_enabled w (Refuse c) ≡ true))
push_can_be_refused = (refl, refl)

-- any act can be refused, also the raise of a count
abbrev refuses_all : Machine
refuses_all w (Refuse q) = Some (with_stack w q (back (w.stack q).below))
refuses_all w e = step w e

raise_is_refused : IfSome (run_by refuses_all (pool_of 1 false) (Spawn c 0 ∷ [])) (λ w. (can_refuse (act_of c (top w c)) ≡ false) × (is_some (refuses_all w (Refuse c)) ≡ true))
raise_is_refused = (refl, refl)

raise_is_not_refused : IfSome (run_by step (pool_of 1 false) (Spawn c 0 ∷ [])) (λ w. (can_refuse (act_of c (top w c)) ≡ false) × (is_enabled w (Refuse c) ≡ false))
raise_is_not_refused = (refl, refl)

-- no run ends with a fault: the clause of ends is broken
abbrev never_faults : Machine
never_faults w (End q Fault) = None
never_faults w e = step w e

abbrev opened : List Event
opened = OpenScope c 0 ∷ times_go c 2

run_cannot_fault : IfSome (run_by never_faults (pool_of 1 false) opened) (λ w. (is_run (top w c) ≡ true) × (is_some (never_faults w (End c Fault)) ≡ false))
run_cannot_fault = (refl, refl)

run_can_fault : IfSome (run_by step (pool_of 1 false) opened) (λ w. (is_run (top w c) ≡ true) × (is_enabled w (End c Fault) ≡ true))
run_can_fault = (refl, refl)

-- a search begins at worker 0 alone: the clause of choices is broken
abbrev starts_at_first : Machine
starts_at_first w (From q v) = if v == 0 then step w (From q v) else None
starts_at_first w e = step w e

second_is_no_choice : IfSome (run_by starts_at_first (pool_of 2 false) (times_go a 7)) (λ w. (nat_lt 1 (w.shape.pool 0).workers ≡ true) × (is_some (starts_at_first w (From a 1)) ≡ false))
second_is_no_choice = (refl, refl)

second_is_a_choice : IfSome (run_by step (pool_of 2 false) (times_go a 7)) (λ w. is_enabled w (From a 1) ≡ true)
second_is_a_choice = refl

-- no steal ever misses
abbrev never_misses : Machine
never_misses w (Miss q) = None
never_misses w e = step w e

abbrev stealing : List Event
stealing = Spawn a 0 ∷ times_go a 3 ++ times_go b 8

steal_cannot_miss : IfSome (run_by never_misses (pool_of 2 true) stealing) (λ w. (steal_misses w b (victim_of (top w b)) ≡ true) × (is_some (never_misses w (Miss b)) ≡ false))
steal_cannot_miss = (refl, refl)

steal_can_miss : IfSome (run_by step (pool_of 2 true) stealing) (λ w. (steal_misses w b (victim_of (top w b)) ≡ true) × (is_enabled w (Miss b) ≡ true))
steal_can_miss = (refl, refl)

-- who runs a job cannot spawn: the clause of calls is broken
abbrev never_nests : Machine
never_nests w (Spawn q p) = if is_run (top w q) then None else step w (Spawn q p)
never_nests w e = step w e

body_cannot_spawn : IfSome (run_by never_nests (pool_of 1 false) opened) (λ w. (is_free (top w c) ≡ true) × (is_pool w.shape 0 ≡ true) × (is_some (never_nests w (Spawn c 0)) ≡ false))
body_cannot_spawn = (refl, refl, refl)

body_can_spawn : IfSome (run_by step (pool_of 1 false) opened) (λ w. is_enabled w (Spawn c 0) ≡ true)
body_can_spawn = refl

-- a pool's value is given up twice
abbrev gives_twice : Machine
gives_twice w (EndPool q p) = Some w
gives_twice w e = step w e

pool_ends_again : IfSome (run_by step (pool_of 1 false) (EndPool c 0 ∷ [])) (λ w. ((w.pool 0).held ≡ false) × (is_some (gives_twice w (EndPool d 0)) ≡ true))
pool_ends_again = (refl, refl)

pool_ends_once : IfSome (run_by step (pool_of 1 false) (EndPool c 0 ∷ [])) (λ w. ((w.pool 0).held ≡ false) × (is_enabled w (EndPool d 0) ≡ false))
pool_ends_once = (refl, refl)

-- a machine whose yield goes elsewhere from some places
abbrev restacked : Party → (Stack → Stack) → Option World → Option World
restacked q g None = None
restacked q g (Some v) = Some (with_stack v q (g (v.stack q)))

abbrev yielding : (Place → Bool) → (Stack → Stack) → Machine
yielding f g w (Go q) = if f (top w q) then restacked q g (step w (Go q)) else step w (Go q)
yielding f g w e = step w e

-- the looks of worker 0 in a machine's yield
abbrev looks_by : Machine → Option World → List Event → List Look
looks_by m None es = []
looks_by m (Some w) [] = []
looks_by m (Some w) (e ∷ es) = and_then (yield_look_of 0 0 w e) (looks_by m (m w e) es)

-- the worker has looked so since the start, and stands here
abbrev Looked : Machine → ℕ → List Event → List Look → Place → Type 0
Looked m n es l x = (looks_by m (pool_of n true) es ≡ l) × IfSome (run_by m (pool_of n true) es) (λ w. top w a ≡ x)

abbrev nothing_in : Spot → Look
nothing_in s = record { spot = s; found = false }

-- a yield looks at its own two lists and goes back, beside the injector
abbrev takes_cast : Place → Bool
takes_cast YieldTakeCast = true
takes_cast x = false

yield_skips_injector : Looked (yielding takes_cast (λ s. back s.below)) 1 (Yield a ∷ times_go a 2) (nothing_in OwnDeque ∷ nothing_in OwnCast ∷ []) Free
yield_skips_injector = (refl, refl)

yield_looks_at_injector : Looked step 1 (Yield a ∷ times_go a 3) (whole_search 1 0 0) Free
yield_looks_at_injector = (refl, refl)

-- beside another worker
abbrev picks : Place → Bool
picks YieldPick = true
picks x = false

yield_skips_the_other : Looked (yielding picks (λ s. record { top = YieldPopInjected; below = s.below })) 2 (Yield a ∷ times_go a 4) (nothing_in OwnDeque ∷ nothing_in OwnCast ∷ nothing_in Injector ∷ []) Free
yield_skips_the_other = (refl, refl)

yield_looks_at_the_other : Looked step 2 (Yield a ∷ times_go a 5) (whole_search 2 0 1) Free
yield_looks_at_the_other = (refl, refl)

-- a yield that finds a task looks on
abbrev pops : Place → Bool
pops YieldPop = true
pops x = false

abbrev task_there : List Event
task_there = Spawn a 0 ∷ times_go a 4 ++ Yield a ∷ Go a ∷ []

yield_leaves_its_task : Looked (yielding pops (λ s. record { top = YieldTakeCast; below = s.below })) 1 task_there (record { spot = OwnDeque; found = true } ∷ []) YieldTakeCast
yield_leaves_its_task = (refl, refl)

yield_begins_its_task : Looked step 1 task_there (record { spot = OwnDeque; found = true } ∷ []) (BeginTask (Plain 0))
yield_begins_its_task = (refl, refl)

-- a local yield looks at the injector too
abbrev takes_local : Place → Bool
takes_local LocalTakeCast = true
takes_local x = false

local_looks_further : Looked (yielding takes_local (λ s. record { top = YieldPopInjected; below = s.top ∷ s.below })) 1 (YieldLocal a ∷ times_go a 3) (whole_search 1 0 0) Free
local_looks_further = (refl, refl)

local_looks_twice : Looked step 1 (YieldLocal a ∷ times_go a 2) (local_search 0) Free
local_looks_twice = (refl, refl)
