-- machines whose table of moves or whose acts may be changed, and their replays
use Rattle.std.specs.Prelude.{ℕ, zero, suc, Bool, false, ◌||◌, if◌then◌else◌, Option, Some, None, List, [], ◌∷◌}
use Rattle.rayon_machine_sleep_laws.proofs.Words.{NewestFirst, Party, Worker, Caller, Place, Move, Act, Seen, Refused, Event, Go, Refuse, PoolShape, own_pool, act_of, next_of, is_refusable, Shape, Stack, World, Counts, Part, Outcome, counts_at, target_pool, target_worker, target_call, effect}
use Rattle.rayon_machine_sleep_laws.proofs.Words.{put, put_stack, part_of, after_move, jobs_after, step, start}
use Rattle.rayon_machine_runs.specs.World.{target_job}
use Rattle.rayon_machine_runs.specs.Steps.{put_seat}

-- a machine: what each act does, and where it leads
pub record Machine : Type 0 where
  pub does : Act → Shape → Party → Counts → Part → Outcome
  pub next : PoolShape → Party → Place → Seen → Move

-- the machine as it is, one whose acts do something else, and one whose acts lead elsewhere
abbrev pub right : Machine
right = record { does = effect; next = next_of }

abbrev pub doing : (Act → Shape → Party → Counts → Part → Outcome) → Machine
doing f = record { does = f; next = next_of }

abbrev pub leading : (PoolShape → Party → Place → Seen → Move) → Machine
leading f = record { does = effect; next = f }

-- a party's act, as `act_at` and `after` have it
abbrev pub done_by : Machine → World → Party → Stack → Act → Outcome → Option World
done_by m w q s a None = None
done_by m w q s a (Some r) = Some (record w {
  stack = put_stack w.stack q (after_move (m.next (w.shape.pool (target_pool q a)) q s.top (r.0)) s.below);
  seat = put_seat w.seat (target_pool q a) (target_worker q a) (r.1.seat);
  pool = put w.pool (target_pool q a) (r.1.pool);
  call = put w.call (target_call a) (r.1.call);
  job = jobs_after q (m.next (w.shape.pool (target_pool q a)) q s.top (r.0)) (put w.job (target_job w.shape q a (w.pool (target_pool q a)) (w.seat (target_pool q a) (target_worker q a))) (r.1.job));
})

abbrev pub act_by : Machine → World → Party → Stack → Act → Option World
act_by m w q s a = done_by m w q s a (m.does a w.shape q (counts_at w (target_pool q a)) (part_of w (target_pool q a) (target_worker q a) (target_call a) (target_job w.shape q a (w.pool (target_pool q a)) (w.seat (target_pool q a) (target_worker q a)))))

-- a party's next act is refused, as `after_refusal` has it
abbrev pub refused_by : Machine → World → Party → Stack → Option World
refused_by m w q s = if is_refusable s.top then Some (record w { stack = put_stack w.stack q (after_move (m.next (w.shape.pool (own_pool q)) q s.top Refused) s.below) }) else None

abbrev pub step_by : Machine → World → Event → Option World
step_by m w (Go q) = act_by m w q (w.stack q) (act_of q (w.stack q).top)
step_by m w (Refuse q) = refused_by m w q (w.stack q)
step_by m w e = step w e

abbrev pub then_by : Machine → Option World → Event → Option World
then_by m None e = None
then_by m (Some w) e = step_by m w e

abbrev pub run_by : Machine → Option World → List Event → Option World
run_by m o [] = o
run_by m o (e ∷ es) = run_by m (then_by m o e) es

-- some event of a machine's run passes the test
abbrev pub any_by : Machine → (World → Event → Bool) → Option World → List Event → Bool
any_by m test None es = false
any_by m test (Some w) [] = false
any_by m test (Some w) (e ∷ es) = test w e || any_by m test (step_by m w e) es

abbrev pub times_go : Party → ℕ → List Event
times_go q zero = []
times_go q (suc n) = Go q ∷ times_go q n

-- a pool of so many workers
abbrev pub pool_of : ℕ → Option World
pool_of n = Some (start (record { pool = λ p. record { workers = n; limit = 0; order = NewestFirst; callers_own = false }; callers = 16; jec_bits = 32 }))

abbrev pub a : Party
a = Worker 0 0

abbrev pub b : Party
b = Worker 0 1

abbrev pub c : Party
c = Caller 0

abbrev pub d : Party
d = Caller 1
