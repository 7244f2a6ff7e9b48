-- where a job may be: at its own pool, a piece with its own worker, and in the list of its own kind
--
-- Broken by the wrong machines, in `rayon_machine_orders/proofs`: `job_is_queued_elsewhere` (RecordTeeth).
use Rattle.std.specs.Prelude.{ℕ, Bool, true, false, not, ◌&&◌, ◌||◌, ◌==◌, Option, Some, None, ◌≡◌}
use Rattle.rayon_machine_places.specs.declared.place.JobKind.{JobKind}
use Rattle.rayon_machine_places.specs.declared.place.JobKind.TheVariants.{Detached, Stored, Direct, Scoped, BodyOf, TokenOf}
use Rattle.rayon_machine_runs.specs.declared.state.Whereabouts.{Whereabouts}
use Rattle.rayon_machine_runs.specs.declared.state.Whereabouts.TheVariants.{Made, InDeque, Injected, InFifo, InCast, Retaken, Running}
use Rattle.rayon_machine_places.specs.Places.{is_member}
use Rattle.rayon_machine_runs.specs.World.{World, same_list}

-- a job that is run at once, in no queue
abbrev pub is_direct : JobKind → Bool
is_direct Direct = true
is_direct _ = false

-- the body of a scope, which its party runs, worker of the pool or not
abbrev pub is_body : JobKind → Bool
is_body (BodyOf c o) = true
is_body _ = false

-- a job that a call queues: a detached one, one that a call waits for, and one of a scope
abbrev pub is_queued : JobKind → Bool
is_queued (Detached p) = true
is_queued (Stored c o) = true
is_queued (Scoped c o) = true
is_queued _ = false

-- what may stand in the deque of this worker: such a job, and a token of the worker
abbrev pub is_decked : ℕ → JobKind → Bool
is_decked i (TokenOf j b) = i == j
is_decked i k = is_queued k

-- a job that may stand in this FIFO list: a detached one in that of detached jobs, one of a scope in that of the scope
abbrev pub is_lined : Option ℕ → JobKind → Bool
is_lined b (Detached p) = same_list b None
is_lined b (Scoped c o) = same_list b (Some c)
is_lined b _ = false

-- a job that may stand in some FIFO list
abbrev pub has_line : JobKind → Bool
has_line (Detached p) = true
has_line (Scoped c o) = true
has_line _ = false

-- a piece for this worker
abbrev pub is_for : ℕ → Option ℕ → Bool
is_for i None = false
is_for i (Some j) = i == j

-- where a job of this kind may be that was made by a call at this pool and is bound to this worker, if it is a piece
abbrev pub is_near : JobKind → ℕ → Option ℕ → Whereabouts → Bool
is_near k p b (Made q) = not (is_direct k) || is_member q p
is_near k p b (InDeque r i) = (p == r) && is_decked i k
is_near k p b (Injected r) = (p == r) && is_queued k
is_near k p b (InFifo r i c) = (p == r) && is_lined c k
is_near k p b (InCast r i) = (p == r) && is_for i b
is_near k p b (Retaken q) = has_line k
is_near k p b (Running q) = is_body k || is_member q p
is_near k p b _ = true

-- each job is queued and run at its own pool, each piece in its own worker's broadcast list, and each job of a FIFO list
-- in that of its own kind; what is run at once is in no list, and is made by a worker of its pool
abbrev pub IsNear : World → Type 0
IsNear w = (t : ℕ) → is_near (w.job t).kind (w.job t).pool (w.job t).bound (w.job t).at ≡ true
