-- what a running world stands for, and what its steps leave
use Rattle.std.specs.Prelude.{ℕ, ◌&&◌, ◌+◌, if◌then◌else◌, Option, Some, None, List, [], ◌∷◌, ◌++◌, Result, ◌≡◌, IfErr, OnErr, OnOk}
use Rattle.rayon_machine_runs.specs.declared.error.StepError.{StepError}
use Rattle.rayon_machine_runs.specs.declared.error.StepError.TheVariants.{NotEnabled, NoRoom}
use Rattle.rayon_machine_places.specs.declared.place.Party.{Party}
use Rattle.rayon_machine_places.specs.declared.place.Party.TheVariants.{Worker}
use Rattle.rayon_machine_places.specs.declared.place.Place.{Place}
use Rattle.rayon_machine_places.specs.declared.place.Place.TheVariants.{RaiseCount, RaiseForAll}
use Rattle.rayon_machine_places.specs.declared.place.Move.{Move}
use Rattle.rayon_machine_places.specs.declared.place.Move.TheVariants.{Enter}
use Rattle.rayon_machine_places.specs.declared.place.Pieces.{Pieces}
use Rattle.rayon_machine_places.specs.declared.place.Plan.{Plan}
use Rattle.rayon_machine_places.specs.declared.place.Plan.TheVariants.{Gather}
use Rattle.rayon_machine_places.specs.declared.place.Gathering.{Gathering}
use Rattle.rayon_machine_places.specs.declared.place.Count.TheVariants.{OfPool, OfScope}
use Rattle.rayon_machine_runs.specs.declared.state.Job.{Job}
use Rattle.rayon_machine_runs.specs.declared.state.Scope.{Scope}
use Rattle.rayon_machine_parts.specs.declared.deed.Deed.{Deed}
use Rattle.rayon_machine_world.specs.declared.world.World.{World as StoredWorld}
use Rattle.rayon_machine_places.specs.Places.{is_free, own_index}
use Rattle.rayon_machine_runs.specs.Steps.{after_feed, holds, is_pool, jobs_after, new_call, new_gathering, new_piece, new_whole, put, put_pieces, put_seat, put_stack, after_move}
use Rattle.rayon_machine_runs.specs.World.{World}
use Rattle.rayon_machine_numbers.specs.Numbers.{pool_queued, seat_queued, with_flags, with_numbers}
use Rattle.rayon_machine_parts.specs.State.{call_at, job_at, pool_at, seat_at, shape_of, stack_in}

-- the specification's world that a running world stands for
abbrev pub world_of : StoredWorld → World
world_of w = record {
  shape = shape_of w.shapes;
  stack = stack_in (shape_of w.shapes) w.parties;
  seat = seat_at w.parts.benches.items;
  pool = pool_at w.parts.pools.items;
  call = call_at w.parts.calls.items;
  job = job_at w.parts.jobs.items;
  calls = w.calls;
  jobs = w.jobs;
  scopes = w.scopes.items;
}

-- what a step answers and leaves, where the relation says this of its event: the relation's next world; not enabled
-- exactly where it has none; no room only where it has one. A refusal leaves the world
pub record IsStepOf (next : Option World) (r : Result (Unit {0}) StepError) (w u : World) : Type 0 where
  pub ok : OnOk r (next ≡ Some u)
  pub not_enabled : IfErr r (λ e. e ≡ NotEnabled → next ≡ None)
  pub enabled : IfErr r (λ e. e ≡ NoRoom → ¬ (next ≡ None))
  pub err : OnErr r (u ≡ w)

-- what a step that is enabled answers and leaves, where this is the world after it: only room can be wanting, and a
-- refusal leaves the world
pub record IsMade (next : World) (r : Result (Unit {0}) StepError) (w u : World) : Type 0 where
  pub ok : OnOk r (u ≡ next)
  pub no_room : IfErr r (λ e. e ≡ NoRoom)
  pub err : OnErr r (u ≡ w)

-- the deed is done, and the party has moved on
pub record IsPerformed (w u : StoredWorld) (q : Party) (d : Deed) (m : Move) : Type 0 where
  pub shape : shape_of u.shapes ≡ shape_of w.shapes
  pub stack : (r : Party) → stack_in (shape_of u.shapes) u.parties r ≡ put_stack (stack_in (shape_of w.shapes) w.parties) q (after_move m (stack_in (shape_of w.shapes) w.parties q).below) r
  pub pool : (p : ℕ) → pool_at u.parts.pools.items p ≡ put (pool_at w.parts.pools.items) d.spot.pool (pool_queued d.act (own_index q) (with_numbers (pool_at w.parts.pools.items d.spot.pool) d.after.pool)) p
  pub seat : (p i : ℕ) → seat_at u.parts.benches.items p i ≡ put_seat (seat_at w.parts.benches.items) d.spot.pool d.spot.worker (seat_queued d.act d.order q (with_flags (seat_at w.parts.benches.items d.spot.pool d.spot.worker) d.after.worker)) p i
  pub call : (n : ℕ) → call_at u.parts.calls.items n ≡ put (call_at w.parts.calls.items) d.spot.call d.after.call n
  pub job : (n : ℕ) → job_at u.parts.jobs.items n ≡ jobs_after q m (put (job_at w.parts.jobs.items) d.spot.job d.after.job) n
  pub calls : u.calls ≡ w.calls
  pub jobs : u.jobs ≡ w.jobs
  pub scopes : u.scopes.items ≡ w.scopes.items

-- a join of two jobs has begun, above this frame
abbrev pub after_open_join : World → Party → Place → Plan → Job → Job → World
after_open_join w q frame plan first second = record w {
  stack = put_stack w.stack q (after_move (Enter frame (RaiseCount plan)) (w.stack q).below);
  job = put (put w.job w.jobs first) (w.jobs + 1) second;
  call = put w.call w.calls (new_call (Some w.jobs) (w.jobs + 1));
  jobs = w.jobs + 2;
  calls = w.calls + 1;
}

-- a call of a job and its token has begun, above this frame
abbrev pub after_open_feed : World → Party → Place → Plan → Job → Job → World
after_open_feed w q frame plan job token = record w {
  stack = put_stack w.stack q (after_move (Enter frame (RaiseCount plan)) (w.stack q).below);
  job = put (put w.job w.jobs job) (w.jobs + 1) token;
  jobs = w.jobs + 2;
}

-- a broadcast of these pieces has begun, above this frame
abbrev pub after_open_cast : World → Party → Place → Pieces → World
after_open_cast w q frame c = record w {
  stack = put_stack w.stack q (after_move (Enter frame (RaiseForAll c)) (w.stack q).below);
  job = put_pieces c (λ i j. new_piece q c.count c.pool i) w.job;
  jobs = w.jobs + c.workers;
}

-- a broadcast that waits has begun, above this frame
abbrev pub after_open_gather : World → Party → Place → Gathering → World
after_open_gather w q frame g = record w {
  stack = put_stack w.stack q (after_move (Enter frame (RaiseCount (Gather g))) (w.stack q).below);
  job = put (put_pieces g.pieces (λ i j. new_piece q g.pieces.count g.pieces.pool i) w.job) g.call.job (new_whole q g.call.pool g.call.number);
  call = put w.call w.calls (new_gathering g.pieces.workers g.call.job);
  jobs = g.call.job + 1;
  calls = w.calls + 1;
}

-- the world after a worker has begun a call for its own FIFO list
abbrev pub after_own_fifo : World → ℕ → ℕ → Option World
after_own_fifo w p i = if is_free (w.stack (Worker p i)).top && is_pool w.shape p then Some (after_feed w (OfPool p) p i (w.stack (Worker p i))) else None

-- the world after a worker of a scope's pool has begun a call for its own FIFO list that makes a job of the scope
abbrev pub after_own_enter : World → Scope → ℕ → Option World
after_own_enter w z i = if is_free (w.stack (Worker z.pool i)).top && holds z.call (w.stack (Worker z.pool i)) then Some (after_feed w (OfScope z.call z.owner) z.pool i (w.stack (Worker z.pool i))) else None

-- a call of one job has begun, above this frame
abbrev pub after_open_job : World → Party → Place → Plan → Job → World
after_open_job w q frame plan job = record w {
  stack = put_stack w.stack q (after_move (Enter frame (RaiseCount plan)) (w.stack q).below);
  job = put w.job w.jobs job;
  jobs = w.jobs + 1;
}

-- a call that waits for one job has begun, above this frame
abbrev pub after_open_call : World → Party → Place → Plan → Job → World
after_open_call w q frame plan job = record w {
  stack = put_stack w.stack q (after_move (Enter frame (RaiseCount plan)) (w.stack q).below);
  job = put w.job w.jobs job;
  call = put w.call w.calls (new_call None w.jobs);
  jobs = w.jobs + 1;
  calls = w.calls + 1;
}

-- a call that opens a scope has begun, above this frame
abbrev pub after_open_scope : World → Party → Place → Plan → Job → Scope → World
after_open_scope w q frame plan body scope = record w {
  stack = put_stack w.stack q (after_move (Enter frame (RaiseCount plan)) (w.stack q).below);
  job = put w.job w.jobs body;
  call = put w.call w.calls (new_call None w.jobs);
  jobs = w.jobs + 1;
  calls = w.calls + 1;
  scopes = w.scopes ++ scope ∷ [];
}
