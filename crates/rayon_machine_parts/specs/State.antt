-- what the stored parts of a world stand for, and what an act leaves of them
use Rattle.std.specs.Prelude.{ℕ, true, false, ◌+◌, ◌≤◌, ◌<◌, Option, Some, None, List, [], ◌≡◌, slice_get, reverse, length, IsSomeAnd, vec_len, vec_capacity}
use Rattle.rayon_machine_places.specs.declared.place.Party.{Party}
use Rattle.rayon_machine_places.specs.declared.act.Act.{Act}
use Rattle.rayon_machine_places.specs.declared.act.Act.TheVariants.{PushInj, PushOwn, FifoIn, PushCast}
use Rattle.rayon_machine_numbers.specs.declared.numbers.Touched.{Touched}
use Rattle.rayon_machine_numbers.specs.Numbers.{act_list, part_queued, numbers_of, flags_of, with_touched}
use Rattle.rayon_machine_parts.specs.declared.spot.Spot.{Spot}
use Rattle.rayon_machine_parts.specs.declared.deed.Deed.{Deed}
use Rattle.rayon_machine_places.specs.declared.place.Party.TheVariants.{Worker, Caller}
use Rattle.rayon_machine_places.specs.declared.place.Move.{Move}
use Rattle.rayon_machine_places.specs.declared.place.Pieces.{Pieces}
use Rattle.rayon_machine_places.specs.declared.place.Plan.{Plan}
use Rattle.rayon_machine_places.specs.declared.place.Plan.TheVariants.{Detach, Here, Send, Fork, Feed, Open, Enter, Gather}
use Rattle.rayon_machine_places.specs.declared.place.Mark.{Mark as Marking}
use Rattle.rayon_machine_places.specs.declared.place.Mark.TheVariants.{Numbered}
use Rattle.rayon_machine_places.specs.declared.place.Move.TheVariants.{StartRun, HandBack, HandIn, Discard, Mark, HandAllBack}
use Rattle.rayon_machine_places.specs.declared.shape.Order.TheVariants.{NewestFirst}
use Rattle.rayon_machine_places.specs.declared.shape.PoolShape.{PoolShape}
use Rattle.rayon_machine_runs.specs.declared.state.Letter.TheVariants.{Unset}
use Rattle.rayon_machine_runs.specs.declared.state.Job.{Job}
use Rattle.rayon_machine_runs.specs.declared.state.Call.{Call}
use Rattle.rayon_machine_parts.specs.declared.shapes.Shapes.{Shapes}
use Rattle.rayon_machine_parts.specs.declared.parties.Stack.{Stack as StoredStack}
use Rattle.rayon_machine_parts.specs.declared.parties.Crew.{Crew}
use Rattle.rayon_machine_parts.specs.declared.parties.Parties.{Parties}
use Rattle.rayon_machine_parts.specs.declared.parts.Pool.{Pool as StoredPool}
use Rattle.rayon_machine_parts.specs.declared.parts.CastList.{CastList}
use Rattle.rayon_machine_parts.specs.declared.parts.FifoList.{FifoList}
use Rattle.rayon_machine_parts.specs.declared.parts.Seat.{Seat as StoredSeat}
use Rattle.rayon_machine_parts.specs.declared.parts.Bench.{Bench}
use Rattle.rayon_machine_parts.specs.declared.parts.Parts.{Parts}
use Rattle.rayon_machine_places.specs.Places.{own_pool}
use Rattle.rayon_machine_runs.specs.Runs.{first_place}
use Rattle.rayon_machine_runs.specs.Steps.{blank_job, new_call}
use Rattle.std.specs.Option.{option_map_or}
use Rattle.std.specs.VecDeque.{deque_capacity, deque_len}
use Rattle.rayon_machine_runs.specs.World.{Shape, Seat, Pool, Stack, Part, count_below, target_job, effect}
use Rattle.rayon_machine_places.specs.Sleepers.{Counts}
use Rattle.rayon_machine_places.specs.Targets.{target_pool, target_worker, target_call}

-- a seat that no step has touched
abbrev pub blank_seat : Seat
blank_seat = record { own = []; fifo = λ b. []; feeder = λ b. None; inactive = false; asleep = false; blocked = false; latch = Unset; lock = None }

-- a pool that no step has touched
abbrev pub blank_pool : Pool
blank_pool = record { injector = []; casts = λ i. []; turn = 0; count = 1; held = true; counted = true }

-- a call whose number is not given out
abbrev pub blank_call : Call
blank_call = new_call None 0

-- the shape of a pool that a world lacks
abbrev pub no_pool : PoolShape
no_pool = record { workers = 0; limit = 0; order = NewestFirst; callers_own = false }

-- the shape of pools that are listed
abbrev pub listed : List PoolShape → ℕ → Shape
listed pools bits = record { pool = λ p. option_map_or (λ x. x) (slice_get pools p) no_pool; callers = 16; jec_bits = bits }

-- the shape of the stored shapes
abbrev pub shape_of : Shapes → Shape
shape_of h = listed h.pools.items h.jec_bits

-- a stored stack: the frame entered last stands at the end of its list
abbrev pub stack_of : StoredStack → Stack
stack_of s = record { top = s.top; below = reverse s.below.items }

-- a stack that no step has touched
abbrev pub first_stack : Shape → Party → Stack
first_stack h q = record { top = first_place h q; below = [] }

-- the stack of this index in a list of stacks; one that is not there is blank
abbrev pub stack_or : (ℕ → Stack) → List StoredStack → ℕ → Stack
stack_or blank stacks i = option_map_or stack_of (slice_get stacks i) (blank i)

-- the stack of a pool's worker, in the list of that pool's stacks
abbrev pub stack_at : Shape → ℕ → List StoredStack → ℕ → Stack
stack_at h p stacks i = stack_or (λ n. first_stack h (Worker p n)) stacks i

-- the stack of a worker
abbrev pub worker_in : Shape → List Crew → ℕ → ℕ → Stack
worker_in h crews p i = option_map_or (λ (crew : Crew). stack_at h p crew.stacks.items i) (slice_get crews p) (first_stack h (Worker p i))

-- the stack of an outside caller
abbrev pub caller_in : Shape → List StoredStack → ℕ → Stack
caller_in h callers c = stack_or (λ n. first_stack h (Caller n)) callers c

-- the stack of a party
abbrev pub stack_in : Shape → Parties → Party → Stack
stack_in h w (Worker p i) = worker_in h w.crews.items p i
stack_in h w (Caller c) = caller_in h w.callers.items c

-- the broadcast list of this worker; one that is not there is empty
abbrev pub cast_at : List CastList → ℕ → List ℕ
cast_at casts i = option_map_or (λ (c : CastList). c.tasks.items) (slice_get casts i) []

-- a stored pool's lists and numbers
abbrev pub pool_of : StoredPool → Pool
pool_of v = record { injector = v.injector.items; casts = cast_at v.casts.items; turn = v.numbers.turn; count = v.numbers.count; held = v.numbers.held; counted = v.numbers.counted }

-- the jobs of this one of some FIFO lists; one that is not there is empty
abbrev pub jobs_in : List FifoList → ℕ → List ℕ
jobs_in lists c = option_map_or (λ (l : FifoList). l.jobs.items) (slice_get lists c) []

-- who holds it; one that is not there is held by nobody
abbrev pub holder_in : List FifoList → ℕ → Option Party
holder_in lists c = option_map_or (λ (l : FifoList). l.holder) (slice_get lists c) None

-- the FIFO lists of a stored seat
abbrev pub fifo_of : FifoList → List FifoList → Option ℕ → List ℕ
fifo_of detached scoped None = detached.jobs.items
fifo_of detached scoped (Some c) = jobs_in scoped c

-- who holds each
abbrev pub feeder_of : FifoList → List FifoList → Option ℕ → Option Party
feeder_of detached scoped None = detached.holder
feeder_of detached scoped (Some c) = holder_in scoped c

-- a stored seat's deque, FIFO lists and flags
abbrev pub seat_of : StoredSeat → Seat
seat_of s = record { own = s.own.items; fifo = fifo_of s.detached s.scoped.items; feeder = feeder_of s.detached s.scoped.items; inactive = s.flags.inactive; asleep = s.flags.asleep; blocked = s.flags.blocked; latch = s.flags.latch; lock = s.flags.lock }

-- the pool of a number; one that is not there is blank
abbrev pub pool_at : List StoredPool → ℕ → Pool
pool_at pools p = option_map_or pool_of (slice_get pools p) blank_pool

-- the seat of this index in a list of seats; one that is not there is blank
abbrev pub seat_in : List StoredSeat → ℕ → Seat
seat_in seats i = option_map_or seat_of (slice_get seats i) blank_seat

-- the seat of a worker
abbrev pub seat_at : List Bench → ℕ → ℕ → Seat
seat_at benches p i = option_map_or (λ (bench : Bench). seat_in bench.seats.items i) (slice_get benches p) blank_seat

-- the call of a number; one that is not there is blank
abbrev pub call_at : List Call → ℕ → Call
call_at calls c = option_map_or (λ x. x) (slice_get calls c) blank_call

-- the job of a number; one that is not there is blank
abbrev pub job_at : List Job → ℕ → Job
job_at jobs t = option_map_or (λ x. x) (slice_get jobs t) blank_job

-- a stack of this index is stored, with room for one more frame
abbrev pub RoomAt : List StoredStack → ℕ → Type 0
RoomAt stacks i = IsSomeAnd (slice_get stacks i) (λ s. vec_len s.below < vec_capacity s.below)

-- a party's stack is stored, with room for one more frame
abbrev pub HasRoom : Parties → Party → Type 0
HasRoom w (Worker p i) = IsSomeAnd (slice_get w.crews.items p) (λ crew. RoomAt crew.stacks.items i)
HasRoom w (Caller c) = RoomAt w.callers.items c

-- a task that is injected, or pushed on a deque, finds room
abbrev pub InjectorFits : Act → ℕ → ℕ → Type 0
InjectorFits (PushInj p t b) len capacity = len < capacity
InjectorFits _ len capacity = Unit {0}

-- a task that is pushed on a deque finds room
abbrev pub DequeFits : Act → ℕ → ℕ → Type 0
DequeFits (PushOwn t b) len capacity = len < capacity
DequeFits _ len capacity = Unit {0}

-- a job that is added to a FIFO list finds room
abbrev pub FifoFits : Act → FifoList → Type 0
FifoFits (FifoIn t b) l = deque_len l.jobs < deque_capacity l.jobs
FifoFits _ l = Unit {0}

-- this one of a seat's FIFO lists is stored, with room for what the act adds to it
abbrev pub ListFits : Act → FifoList → List FifoList → Option ℕ → Type 0
ListFits a detached scoped None = FifoFits a detached
ListFits a detached scoped (Some c) = IsSomeAnd (slice_get scoped c) (λ l. FifoFits a l)

-- the lists of so many workers are stored, with room for one more task in those from this one upward
abbrev pub CastsFrom : ℕ → ℕ → List CastList → Type 0
CastsFrom i n casts = (n ≤ length casts) × ((k : ℕ) → i ≤ k → k < n → IsSomeAnd (slice_get casts k) (λ c. deque_len c.tasks < deque_capacity c.tasks))

-- the numbers of the pieces of a broadcast are none too large
abbrev pub NumbersFit : Pieces → Type 0
NumbersFit b = b.first + b.workers ≤ 18446744073709551615

-- the pieces of a broadcast that is pushed find room, and their numbers are none too large
abbrev pub CastsFit : Act → List CastList → Type 0
CastsFit (PushCast b) casts = NumbersFit b × CastsFrom 0 b.workers casts
CastsFit _ casts = Unit {0}

-- the numbers at a spot
abbrev pub touched_at : Parts → Spot → Touched
touched_at w s = record { pool = numbers_of (pool_at w.pools.items s.pool); worker = flags_of (seat_at w.benches.items s.pool s.worker); call = call_at w.calls.items s.call; job = job_at w.jobs.items s.job; holder = (seat_at w.benches.items s.pool s.worker).feeder s.list }

-- a pool of this index is stored, with room for what the act injects or puts into broadcast lists
abbrev pub HasPool : Act → List StoredPool → ℕ → Type 0
HasPool a pools p = IsSomeAnd (slice_get pools p) (λ v. InjectorFits a (deque_len v.injector) (deque_capacity v.injector) × CastsFit a v.casts.items)

-- a seat of this index is stored, with room for what the act pushes
abbrev pub SeatFits : Act → List StoredSeat → ℕ → Type 0
SeatFits a seats i = IsSomeAnd (slice_get seats i) (λ s. DequeFits a (deque_len s.own) (deque_capacity s.own) × ListFits a s.detached s.scoped.items (act_list a))

-- a seat of this pool and index is stored, with room for what the act pushes
abbrev pub HasSeat : Act → List Bench → ℕ → ℕ → Type 0
HasSeat a benches p i = IsSomeAnd (slice_get benches p) (λ bench. SeatFits a bench.seats.items i)

-- the counts of a pool
abbrev pub counts_in : Shape → Parts → ℕ → Counts
counts_in h w p = record {
  sleeping = count_below (h.pool p).workers (λ i. (seat_at w.benches.items p i).asleep);
  inactive = count_below (h.pool p).workers (λ i. (seat_at w.benches.items p i).inactive);
}

-- the part at a spot
abbrev pub part_at_spot : Parts → Spot → Part
part_at_spot w s = record { pool = pool_at w.pools.items s.pool; seat = seat_at w.benches.items s.pool s.worker; call = call_at w.calls.items s.call; job = job_at w.jobs.items s.job }

-- the spot that a party's act touches
abbrev pub spot_of : Shape → Parts → Party → Act → Spot
spot_of h w q a = record {
  pool = target_pool q a;
  worker = target_worker q a;
  call = target_call a;
  list = act_list a;
  job = target_job h q a (pool_at w.pools.items (target_pool q a)) (seat_at w.benches.items (target_pool q a) (target_worker q a));
}

-- the deed is what the party's act does here
pub record IsDeed (h : Shape) (w : Parts) (q : Party) (a : Act) (d : Deed) : Type 0 where
  pub act : d.act ≡ a
  pub spot : d.spot ≡ spot_of h w q a
  pub order : d.order ≡ (h.pool (own_pool q)).order
  pub effect : effect a h q (counts_in h w (target_pool q a)) (part_at_spot w (spot_of h w q a)) ≡ Some (d.seen, part_queued d.order a q (with_touched (part_at_spot w (spot_of h w q a)) d.after))

-- the party's act is not enabled here
abbrev pub IsNoDeed : Shape → Parts → Party → Act → Type 0
IsNoDeed h w q a = effect a h q (counts_in h w (target_pool q a)) (part_at_spot w (spot_of h w q a)) ≡ None

-- a call's jobs have numbers below this
abbrev pub PlanWithin : Plan → ℕ → Type 0
PlanWithin (Detach p t) n = t < n
PlanWithin (Here p t) n = t < n
PlanWithin (Send o) n = o.job < n
PlanWithin (Fork o a) n = (a < n) × (o.job < n)
PlanWithin (Feed f) n = (f.job < n) × (f.token < n)
PlanWithin (Open o) n = o.job < n
PlanWithin (Enter e) n = e.job < n
PlanWithin (Gather g) n = g.pieces.first + g.pieces.workers ≤ n

-- the jobs that a move begins or hands back, the tokens that it spends, and the pieces of a broadcast of which it makes
-- something, have numbers below this
abbrev pub MoveWithin : Move → ℕ → Type 0
MoveWithin (StartRun f t) n = t < n
MoveWithin (HandBack plan) n = PlanWithin plan n
MoveWithin (HandIn y k) n = k < n
MoveWithin (Discard k) n = k < n
MoveWithin (Mark y c k) n = c.first + c.workers ≤ n
MoveWithin (HandAllBack c) n = c.first + c.workers ≤ n
MoveWithin _ n = Unit {0}

-- the numbers of a book that pieces get are none too large
abbrev pub MarkFits : Pieces → Marking → Type 0
MarkFits c k = (n : ℕ) → k ≡ Numbered n → n + c.workers ≤ 18446744073709551615

-- the numbers of the pieces that a refused call hands back are none too large
abbrev pub PlanFits : Plan → Type 0
PlanFits (Gather g) = NumbersFit g.pieces
PlanFits _ = Unit {0}

-- the numbers of the pieces of which a move makes something are none too large, and the numbers that they get
abbrev pub PiecesFit : Move → Type 0
PiecesFit (HandBack plan) = PlanFits plan
PiecesFit (Mark y c k) = NumbersFit c × MarkFits c k
PiecesFit (HandAllBack c) = NumbersFit c
PiecesFit _ = Unit {0}

-- the number of runs of the job that a move begins can grow
abbrev pub RunsFit : Move → (ℕ → Job) → Type 0
RunsFit (StartRun f t) g = (g t).runs < 18446744073709551615
RunsFit _ g = Unit {0}
