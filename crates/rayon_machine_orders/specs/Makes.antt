-- what an event names is what it makes: the jobs and calls whose numbers it gives out, and the scope that it opens
--
-- Broken by the wrong machines of MakeTeeth.
use Rattle.std.specs.Prelude.{ℕ, ◌+◌, ◌-◌, ◌==◌, ◌≤◌, ◌<◌, nat_lt, if◌then◌else◌, Option, Some, None, List, [], ◌∷◌, ◌++◌, ◌≡◌, slice_get}
use Rattle.rayon_machine_places.specs.declared.place.JobKind.{JobKind}
use Rattle.rayon_machine_places.specs.declared.place.JobKind.TheVariants.{Detached, Stored, Direct, Scoped, BodyOf, PieceOf, WholeOf, TokenOf}
use Rattle.rayon_machine_runs.specs.declared.event.Event.{Event}
use Rattle.rayon_machine_runs.specs.declared.event.Event.TheVariants.{Spawn, Fifo, Cast, Install, Join, Scope as OpenScope, IntoSpawn, IntoFifo, IntoCast, Broadcast}
use Rattle.rayon_machine_runs.specs.declared.state.Job.{Job}
use Rattle.rayon_machine_runs.specs.declared.state.Scope.{Scope}
use Rattle.rayon_machine_places.specs.Places.{own_pool, own_index, is_member}
use Rattle.rayon_machine_runs.specs.World.{Shape, World}
use Rattle.rayon_machine_runs.specs.Steps.{step}
use Rattle.rayon_machine_runs.specs.Runs.{IsRun, start}
use Rattle.rayon_machine_orders.specs.Calls.{scope_pool, fed_jobs}

-- the kind of a job of a scope
abbrev pub scope_kind : Option Scope → JobKind
scope_kind None = Direct
scope_kind (Some z) = Scoped z.call z.owner

-- the FIFO list of a scope
abbrev pub scope_list : Option Scope → Option ℕ
scope_list None = None
scope_list (Some z) = Some z.call

-- how many numbers of jobs an event gives out: a join makes two sides, a spawn in order a token too where its party is a
-- worker of the pool, a broadcast a piece for each worker of the pool, and one that waits also the number of the whole
abbrev pub jobs_made : World → Event → ℕ
jobs_made w (Spawn q p) = 1
jobs_made w (Fifo q p) = fed_jobs q p
jobs_made w (Cast q p) = (w.shape.pool p).workers
jobs_made w (Install q p) = 1
jobs_made w (Join q) = 2
jobs_made w (OpenScope q p) = 1
jobs_made w (IntoSpawn q n) = 1
jobs_made w (IntoFifo q n) = fed_jobs q (scope_pool (slice_get w.scopes n))
jobs_made w (IntoCast q n) = (w.shape.pool (scope_pool (slice_get w.scopes n))).workers
jobs_made w (Broadcast q p) = (w.shape.pool p).workers + 1
jobs_made w _ = 0

-- how many numbers of calls: one where its party will wait, but for an install by a worker of the pool
abbrev pub calls_made : Event → ℕ
calls_made (Install q p) = if is_member q p then 0 else 1
calls_made (Join q) = 1
calls_made (OpenScope q p) = 1
calls_made (Broadcast q p) = 1
calls_made _ = 0

-- the scopes in the order of their openings: a scope is listed with its call, its pool and its owner
abbrev pub scopes_after : World → Event → List Scope
scopes_after w (OpenScope q p) = w.scopes ++ record { call = w.calls; pool = p; owner = q } ∷ []
scopes_after w e = w.scopes

-- the kind of the k-th of these jobs: those into a scope are the scope's, a token is for its worker's list of detached
-- jobs or of the scope, and what is waited for is of the call that the event opens
abbrev pub kind_made : World → Event → ℕ → JobKind
kind_made w (Spawn q p) k = Detached p
kind_made w (Fifo q p) k = if k == 0 then Detached p else TokenOf (own_index q) None
kind_made w (Cast q p) k = Detached p
kind_made w (Install q p) k = if is_member q p then Direct else Stored w.calls q
kind_made w (Join q) k = if k == 0 then Direct else Stored w.calls q
kind_made w (OpenScope q p) k = BodyOf w.calls q
kind_made w (IntoSpawn q n) k = scope_kind (slice_get w.scopes n)
kind_made w (IntoFifo q n) k = if k == 0 then scope_kind (slice_get w.scopes n) else TokenOf (own_index q) (scope_list (slice_get w.scopes n))
kind_made w (IntoCast q n) k = scope_kind (slice_get w.scopes n)
kind_made w (Broadcast q p) k = if nat_lt k (w.shape.pool p).workers then PieceOf w.calls q else WholeOf w.calls q
kind_made w _ k = Direct

-- the pool that they are made at: the one that the event names, a scope's, or of a join the worker's own
abbrev pub pool_made : World → Event → ℕ
pool_made w (Spawn q p) = p
pool_made w (Fifo q p) = p
pool_made w (Cast q p) = p
pool_made w (Install q p) = p
pool_made w (Join q) = own_pool q
pool_made w (OpenScope q p) = p
pool_made w (IntoSpawn q n) = scope_pool (slice_get w.scopes n)
pool_made w (IntoFifo q n) = scope_pool (slice_get w.scopes n)
pool_made w (IntoCast q n) = scope_pool (slice_get w.scopes n)
pool_made w (Broadcast q p) = p
pool_made w _ = 0

-- the worker that the k-th of them is bound to: of the pieces of a broadcast each to its own
abbrev pub bound_made : World → Event → ℕ → Option ℕ
bound_made w (Cast q p) k = Some k
bound_made w (IntoCast q n) k = Some k
bound_made w (Broadcast q p) k = if nat_lt k (w.shape.pool p).workers then Some k else None
bound_made w _ k = None

-- a job is the k-th that this event makes
pub record IsMadeSo (w : World) (e : Event) (k : ℕ) (j : Job) : Type 0 where
  pub kind : j.kind ≡ kind_made w e k
  pub pool : j.pool ≡ pool_made w e
  pub bound : j.bound ≡ bound_made w e k

-- an event leads from w to v: it gives out these numbers and no other, each number of a job is that of a job that it
-- names, and each scope keeps its place
pub record MakesSo (w : World) (e : Event) (v : World) : Type 0 where
  pub jobs : v.jobs ≡ w.jobs + jobs_made w e
  pub calls : v.calls ≡ w.calls + calls_made e
  pub scopes : v.scopes ≡ scopes_after w e
  pub made : (t : ℕ) → w.jobs ≤ t → t < v.jobs → IsMadeSo w e (t - w.jobs) (v.job t)

-- each step of each run does so
abbrev pub MakeLaw : Type 0
MakeLaw = (shape : Shape) (before : List Event) (w v : World) (e : Event) → IsRun (start shape) before w → step w e ≡ Some v → MakesSo w e v
