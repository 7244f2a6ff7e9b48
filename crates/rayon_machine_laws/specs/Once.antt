-- each job runs at most once, and stands exactly once where its record says, and so does each token
--
-- Broken by the wrong machines, in `rayon_machine_orders/proofs`:
-- - `IsOnce`: `push_drops_its_job` and `refused_call_loses_its_jobs` (WrongMachines), `broadcast_skips_its_last_worker`
--   (CastTeeth), `waiting_push_skips_the_last_worker` (GatherTeeth).
-- - `IsRedeemed`: `token_pushed_before_job` (FifoTeeth), `token_of_a_scope_before_its_job` and
--   `job_of_a_scope_in_the_detached_list` (ListTeeth).
use Rattle.rayon_machine_places.specs.declared.place.Party.TheVariants.{Worker}
use Rattle.std.specs.Prelude.{ℕ, Bool, true, false, ◌&&◌, ◌+◌, ◌==◌, ◌≤◌, ◌<◌, Option, Some, None, List, [], ◌∷◌, ◌≡◌}
use Rattle.rayon_machine_places.specs.declared.place.Party.{Party}
use Rattle.rayon_machine_places.specs.declared.place.Ending.{Ending}
use Rattle.rayon_machine_places.specs.declared.place.Plan.{Plan}
use Rattle.rayon_machine_places.specs.declared.place.Plan.TheVariants.{Detach, Here, Send, Fork, Feed, Open, Enter, Gather}
use Rattle.rayon_machine_places.specs.declared.place.Taken.{Taken}
use Rattle.rayon_machine_places.specs.declared.place.Then.{Then}
use Rattle.rayon_machine_places.specs.declared.place.Then.TheVariants.{BeginFound, RunFirst, GiveBack}
use Rattle.rayon_machine_places.specs.declared.place.Place.{Place}
use Rattle.rayon_machine_places.specs.declared.place.Place.TheVariants.{LeaveSearch, BeginTask, BeginHere, Run, RaiseCount, GrowCall, LookQueue, PushJob, AddToFifo, LookForToken, PushToken, TakeFromFifo, RaiseForAll, PushForAll, LowerForAll, TellNews, LockToWake, WakeWorker, UnlockWoken, LowerCount, SetLatch, LockToSettle, WakeSettled, UnlockSettled, GrowScope, OpenSlot, CloseSlot, SetLockLatch, OpenForAll, CloseForAll, GrowCast, DealPieces}
use Rattle.rayon_machine_runs.specs.declared.state.Whereabouts.{Whereabouts}
use Rattle.rayon_machine_runs.specs.declared.state.Whereabouts.TheVariants.{Nowhere, Made, InDeque, Injected, InFifo, InCast, Retaken, Running, Over}
use Rattle.rayon_machine_places.specs.declared.act.Act.TheVariants.{FifoOut}
use Rattle.rayon_machine_places.specs.Places.{same_party, taken_number, act_of, own_pool}
use Rattle.rayon_machine_runs.specs.World.{Stack, World, same_list}
use Rattle.rayon_machine_runs.specs.Steps.{is_piece}

-- 1 where the test holds, else 0
abbrev pub one : Bool → ℕ
one true = 1
one false = 0

-- how often a number stands in a list
abbrev pub times : ℕ → List ℕ → ℕ
times t [] = 0
times t (u ∷ us) = one (t == u) + times t us

-- a job's record says that it is in this worker's deque
abbrev pub in_deque : ℕ → ℕ → Whereabouts → Bool
in_deque p i (InDeque q j) = (p == q) && (i == j)
in_deque p i _ = false

-- a job's record says that it is in this pool's injector
abbrev pub in_injector : ℕ → Whereabouts → Bool
in_injector p (Injected q) = p == q
in_injector p _ = false

-- a job's record says that it is in this FIFO list of this worker, that of a scope or that of detached jobs
abbrev pub in_fifo : ℕ → ℕ → Option ℕ → Whereabouts → Bool
in_fifo p i b (InFifo q j c) = ((p == q) && (i == j)) && same_list b c
in_fifo p i b _ = false

-- a job's record says that it is in this worker's broadcast list
abbrev pub in_cast : ℕ → ℕ → Whereabouts → Bool
in_cast p i (InCast q j) = (p == q) && (i == j)
in_cast p i _ = false

-- a job's record says that this party has taken it or runs it
abbrev pub runs_with : Party → Whereabouts → Bool
runs_with q (Running r) = same_party q r
runs_with q _ = false

-- a job's record says that this party has it: its call has made it, or it has taken it or runs it
abbrev pub is_with : Party → Whereabouts → Bool
is_with q (Made r) = same_party q r
is_with q (Retaken r) = same_party q r
is_with q (Running r) = same_party q r
is_with q _ = false

-- a job's record says that it is somewhere
abbrev pub is_known : Whereabouts → Bool
is_known Nowhere = false
is_known _ = true

-- a job's record says that it was taken to be run, or is over
abbrev pub may_begin : Whereabouts → Bool
may_begin (Running q) = true
may_begin (Over e) = true
may_begin _ = false

-- how often a place is a run of this job
abbrev pub run_of : ℕ → Place → ℕ
run_of t (Run u k) = one (t == u)
run_of t _ = 0

-- how often these places are one
abbrev pub runs_in : ℕ → List Place → ℕ
runs_in t [] = 0
runs_in t (f ∷ fs) = run_of t f + runs_in t fs

-- how often a whole stack runs job t
abbrev pub worked : ℕ → Stack → ℕ
worked t k = run_of t k.top + runs_in t k.below

-- the jobs that a call has in hand before it queues one
abbrev pub hand_plan : ℕ → Plan → ℕ
hand_plan t (Detach p j) = one (t == j)
hand_plan t (Here p j) = one (t == j)
hand_plan t (Send o) = one (t == o.job)
hand_plan t (Fork o a) = one (t == a) + one (t == o.job)
hand_plan t (Feed f) = one (t == f.job) + one (t == f.token)
hand_plan t (Open o) = one (t == o.job)
hand_plan t (Enter e) = one (t == e.job)
hand_plan t (Gather g) = one (is_piece g.pieces t)

-- after the push a join still has its first side in hand, and a call for a FIFO list its token
abbrev pub hand_rest : ℕ → Plan → ℕ
hand_rest t (Fork o a) = one (t == a)
hand_rest t (Feed f) = one (t == f.token)
hand_rest t _ = 0

-- what follows keeps a found task, a first side, or the jobs of a refused call
abbrev pub hand_then : ℕ → Then → ℕ
hand_then t (BeginFound g x) = one (t == taken_number x)
hand_then t (RunFirst o a) = one (t == a)
hand_then t (GiveBack n) = hand_plan t n
hand_then t _ = 0

-- a task that a search has found
abbrev pub hand_found : ℕ → Option Taken → ℕ
hand_found t None = 0
hand_found t (Some x) = one (t == taken_number x)

-- how often a place has job t in hand: made by its call, or taken from a list, and neither queued nor begun since
abbrev pub hand : ℕ → Place → ℕ
hand t (LeaveSearch w) = hand_found t w.found
hand t (BeginTask x) = one (t == taken_number x)
hand t (BeginHere u) = one (t == u)
hand t (RaiseCount n) = hand_plan t n
hand t (GrowCall n) = hand_plan t n
hand t (GrowScope o) = one (t == o.job)
hand t (OpenSlot n) = hand_plan t n
hand t (CloseSlot n) = hand_plan t n
hand t (LookQueue n) = hand_plan t n
hand t (PushJob n e) = hand_plan t n
hand t (AddToFifo f) = one (t == f.job) + one (t == f.token)
hand t (LookForToken f) = one (t == f.token)
hand t (PushToken f e) = one (t == f.token)
hand t (TakeFromFifo f) = one (t == f.token)
hand t (RaiseForAll c) = one (is_piece c t)
hand t (OpenForAll c) = one (is_piece c t)
hand t (PushForAll c) = one (is_piece c t)
hand t (CloseForAll c) = one (is_piece c t)
hand t (LowerForAll c) = one (is_piece c t)
hand t (GrowCast g) = one (is_piece g.pieces t)
hand t (DealPieces g) = one (is_piece g.pieces t)
hand t (TellNews n e) = hand_rest t n
hand t (LockToWake k) = hand_then t k.then
hand t (WakeWorker k) = hand_then t k.then
hand t (UnlockWoken k) = hand_then t k.then
hand t (LowerCount p s n) = hand_then t n
hand t (SetLatch s) = hand_then t s.then
hand t (LockToSettle s) = hand_then t s.then
hand t (WakeSettled s) = hand_then t s.then
hand t (UnlockSettled s) = hand_then t s.then
hand t (SetLockLatch c n) = hand_then t n
hand t _ = 0

-- how often these places have it in hand
abbrev pub held_in : ℕ → List Place → ℕ
held_in t [] = 0
held_in t (f ∷ fs) = hand t f + held_in t fs

-- how often a whole stack has it in hand
abbrev pub held : ℕ → Stack → ℕ
held t k = hand t k.top + held_in t k.below

-- each number that is given out is a job or a token that is somewhere, and no other is. A job's run begins at most
-- once: a job that is over has run once, and one that was made, queued or handed back has not begun. A job stands in a
-- deque, in an injector, in a FIFO list, in a broadcast list, in hand or under a run once where its record says, and
-- nowhere else: in hand while its run has not begun, under the run from then on
pub record IsOnce (w : World) : Type 0 where
  pub known : (t : ℕ) → t < w.jobs → is_known (w.job t).at ≡ true
  pub unknown : (t : ℕ) → w.jobs ≤ t → (w.job t).at ≡ Nowhere
  pub runs : (t : ℕ) → (w.job t).runs ≤ 1
  pub over : (t : ℕ) (e : Ending) → (w.job t).at ≡ Over e → (w.job t).runs ≡ 1
  pub unbegun : (t : ℕ) → may_begin (w.job t).at ≡ false → (w.job t).runs ≡ 0
  pub deque : (p i t : ℕ) → times t (w.seat p i).own ≡ one (in_deque p i (w.job t).at)
  pub injector : (p t : ℕ) → times t (w.pool p).injector ≡ one (in_injector p (w.job t).at)
  pub fifo : (p i : ℕ) (b : Option ℕ) (t : ℕ) → times t ((w.seat p i).fifo b) ≡ one (in_fifo p i b (w.job t).at)
  pub cast : (p i t : ℕ) → times t ((w.pool p).casts i) ≡ one (in_cast p i (w.job t).at)
  pub hand : (q : Party) (t : ℕ) → held t (w.stack q) ≡ one (is_with q (w.job t).at && ((w.job t).runs == 0))
  pub running : (q : Party) (t : ℕ) → worked t (w.stack q) ≡ one (runs_with q (w.job t).at && ((w.job t).runs == 1))

-- no party that is to redeem a token finds the FIFO list of the token's worker empty
abbrev pub IsRedeemed : World → Type 0
IsRedeemed w = (q : Party) (token worker : ℕ) (b : Option ℕ) → act_of q (w.stack q).top ≡ FifoOut token worker b → (w.seat (own_pool q) worker).fifo b ≡ [] → ⊥

-- where a piece of a broadcast may be that is bound to worker i of pool p: in that worker's broadcast list, with that
-- worker once it is taken, or in no list and under no run
abbrev pub is_own_place : ℕ → ℕ → Whereabouts → Bool
is_own_place p i (InDeque q j) = false
is_own_place p i (Injected q) = false
is_own_place p i (InFifo q j b7) = false
is_own_place p i (Retaken q) = false
is_own_place p i (InCast q j) = (p == q) && (i == j)
is_own_place p i (Running q) = same_party (Worker p i) q
is_own_place p i _ = true

-- each piece of a broadcast is queued for its own worker alone, and no other worker takes or runs it
abbrev pub IsBound : World → Type 0
IsBound w = (t i : ℕ) → (w.job t).bound ≡ Some i → is_own_place (w.job t).pool i (w.job t).at ≡ true
