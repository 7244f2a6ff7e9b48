-- calls, each from the event that begins it to the world in which its party's stack is again what it was
--
-- Places are named by their acts alone. So a table that leaves a call too early breaks the law. It does so also by a
-- place that no other clause names.
-- Broken by the wrong machines of CallTeeth, and by these:
-- - of ScopeTeeth: `scope_is_over_before_its_job`, `scope_lowers_without_its_body`, `refused_spawn_keeps_its_job`,
--   `take_sees_the_body_alone`.
-- - of CountTeeth: `scope_ends_while_a_job_runs`, `wrong_number_is_taken_back`, `refused_number_is_filled`.
-- - of GatherTeeth: `waiting_broadcast_skips_the_last_worker`, `broadcast_answers_the_highest_fault`.
-- - of PieceTeeth: `broadcast_does_not_wait`.
use Rattle.rayon_machine_places.specs.declared.place.Count.TheVariants.{OfPool, OfScope, OfCast}
use Rattle.rayon_machine_places.specs.declared.place.Count.{Count}
use Rattle.std.specs.Prelude.{ℕ, Bool, true, false, ◌&&◌, ◌||◌, ◌+◌, ◌-◌, ◌==◌, ◌≤◌, ◌<◌, if◌then◌else◌, Option, Some, None, List, [], ◌∷◌, ◌++◌, ◌≡◌, ◌⊎◌, length, slice_get}
use Rattle.rayon_machine_places.specs.declared.place.Party.{Party}
use Rattle.rayon_machine_places.specs.declared.place.Ending.{Ending}
use Rattle.rayon_machine_places.specs.declared.place.Ending.TheVariants.{Fine, Fault}
use Rattle.rayon_machine_places.specs.declared.place.JobKind.TheVariants.{Scoped}
use Rattle.rayon_machine_places.specs.declared.place.Share.{Share}
use Rattle.rayon_machine_places.specs.declared.place.Then.{Then}
use Rattle.rayon_machine_places.specs.declared.place.Then.TheVariants.{Answers, Ran}
use Rattle.rayon_machine_places.specs.declared.place.Place.{Place}
use Rattle.rayon_machine_places.specs.declared.act.Act.{Act}
use Rattle.rayon_machine_places.specs.declared.act.Act.TheVariants.{Raise, Take, Lower}
use Rattle.rayon_machine_runs.specs.declared.event.Event.{Event}
use Rattle.rayon_machine_runs.specs.declared.event.Event.TheVariants.{Go, Refuse, Spawn, Fifo, Install, Join, Scope as OpenScope, IntoSpawn, IntoFifo, Broadcast}
use Rattle.rayon_machine_runs.specs.declared.state.Whereabouts.TheVariants.{HandedBack, Spent}
use Rattle.rayon_machine_runs.specs.declared.state.Scope.{Scope}
use Rattle.rayon_machine_places.specs.Places.{same_party, is_member, act_of}
use Rattle.rayon_machine_runs.specs.World.{Shape, Stack, World}
use Rattle.rayon_machine_places.specs.Targets.{is_token}
use Rattle.rayon_machine_runs.specs.Steps.{step}
use Rattle.rayon_machine_runs.specs.Runs.{IsRun, start}
use Rattle.rayon_machine_runs.specs.Readers.{is_queued, is_running, is_done}
use Rattle.rayon_machine_laws.specs.Counted.{ScopeEnded}
use Rattle.rayon_machine_laws.specs.End.{HasEnded, Verdict, AllFine, FirstFault, LastFault, answered, follows, IsUntouched, ScopeTakes, CastTakes}
use Rattle.rayon_machine_orders.specs.Books.{slot_number}
use Rattle.rayon_machine_orders.specs.Faults.{TakesFault, TakesLowest}

-- the party that begins a call by this event
abbrev pub caller_of : Event → Option Party
caller_of (Spawn q p) = Some q
caller_of (Fifo q p) = Some q
caller_of (Install q p) = Some q
caller_of (Join q) = Some q
caller_of (OpenScope q p) = Some q
caller_of (IntoSpawn q n) = Some q
caller_of (IntoFifo q n) = Some q
caller_of (Broadcast q p) = Some q
caller_of _ = None

-- the pool of a scope
abbrev pub scope_pool : Option Scope → ℕ
scope_pool None = 0
scope_pool (Some z) = z.pool

-- how many jobs a spawn in order makes: a worker of the pool makes a token beside its job
abbrev pub fed_jobs : Party → ℕ → ℕ
fed_jobs q p = if is_member q p then 2 else 1

-- how many jobs a call makes: a join has two sides, a spawn in order may have a token, and a broadcast has a piece for
-- each worker of the pool
abbrev pub jobs_of : World → Event → ℕ
jobs_of w (Join q) = 2
jobs_of w (Fifo q p) = fed_jobs q p
jobs_of w (IntoFifo q n) = fed_jobs q (scope_pool (slice_get w.scopes n))
jobs_of w (Broadcast q p) = (w.shape.pool p).workers
jobs_of w _ = 1

-- how many numbers a call gives out: those of its jobs, which come first, and of a broadcast one more, which stands for
-- it as a whole
abbrev pub numbers_of : World → Event → ℕ
numbers_of w (Broadcast q p) = jobs_of w (Broadcast q p) + 1
numbers_of w e = jobs_of w e

-- a call with two sides
abbrev pub is_join : Event → Bool
is_join (Join q) = true
is_join _ = false

-- a call that opens a scope
abbrev pub is_scope : Event → Bool
is_scope (OpenScope q p) = true
is_scope _ = false

-- a broadcast that waits for its pieces
abbrev pub is_broadcast : Event → Bool
is_broadcast (Broadcast q p) = true
is_broadcast _ = false

-- a call that its party waits for: an install, a join, a scope or a broadcast
abbrev pub is_awaited : Event → Bool
is_awaited (Spawn q p) = false
is_awaited (Fifo q p) = false
is_awaited (IntoSpawn q n) = false
is_awaited (IntoFifo q n) = false
is_awaited _ = true

-- a party begins a call (from w to v), in some world of a run from a start
pub record BeginsCall (shape : Shape) (before : List Event) (q : Party) (e : Event) (w v : World) : Type 0 where
  pub reached : IsRun (start shape) before w
  pub caller : caller_of e ≡ Some q
  pub made : step w e ≡ Some v

-- a run in which the party's stack is this one in no world before the last
abbrev pub IsRunUntil : Party → Stack → World → List Event → World → Type 0
IsRunUntil q s w [] u = u ≡ w
IsRunUntil q s w (e ∷ es) u = (v : World) × (w.stack q ≡ s → ⊥) × (step w e ≡ Some v) × IsRunUntil q s v es u

-- a stack has exactly one frame more than this one: the next step is that of the call itself, and of nothing that runs
-- inside it
abbrev pub is_at_call : Stack → Stack → Bool
is_at_call s k = length k.below == length s.below + 1

-- a count of the world
abbrev pub count_of : World → Count → ℕ
count_of w (OfPool p) = (w.pool p).count
count_of w (OfScope c o) = (w.call c).count
count_of w (OfCast c o) = (w.call c).count

-- an act that is to raise a count of 0 is refused
abbrev pub is_raise_refused : World → Act → Bool
is_raise_refused w (Raise k t) = count_of w k == 0
is_raise_refused w _ = false

-- the event is a refusal of the call's own step
abbrev pub is_refusal : Party → Stack → World → Event → Bool
is_refusal q s w (Refuse r) = same_party q r && is_at_call s (w.stack q)
is_refusal q s w (Go r) = same_party q r && (is_at_call s (w.stack q) && is_raise_refused w (act_of q (w.stack q).top))
is_refusal q s w _ = false

-- some event of a run passes the test
abbrev pub is_any : (World → Event → Bool) → Option World → List Event → Bool
is_any test None es = false
is_any test (Some w) [] = false
is_any test (Some w) (e ∷ es) = test w e || is_any test (step w e) es

-- a job has run once, and its run has ended
pub record HasRun (w : World) (t : ℕ) : Type 0 where
  pub over : is_done (w.job t).at ≡ true
  pub runs : (w.job t).runs ≡ 1

-- a job is queued, in a hand, running or over
abbrev pub IsHandedOn : World → ℕ → Type 0
IsHandedOn w t = (is_queued (w.job t).at || (is_running (w.job t).at || is_done (w.job t).at)) ≡ true

-- a token was given for a job
pub record IsSpent (w : World) (t : ℕ) : Type 0 where
  pub token : is_token (w.job t).kind ≡ true
  pub at : (w.job t).at ≡ Spent

-- what a call that nothing refused leaves of a job that it made: a spawn has handed it on, also one into a scope; an
-- install and a join have seen it run, a scope its body, and a broadcast each piece. A token is handed on as a job is,
-- and is spent in the end
abbrev pub LeavesJob : Event → World → ℕ → Type 0
LeavesJob (Spawn q p) w t = IsHandedOn w t
LeavesJob (Fifo q p) w t = IsHandedOn w t ⊎ IsSpent w t
LeavesJob (IntoSpawn q n) w t = IsHandedOn w t
LeavesJob (IntoFifo q n) w t = IsHandedOn w t ⊎ IsSpent w t
LeavesJob _ w t = HasRun w t

-- a job is handed back, stands in no list, has never run, and has no share of any count: of its pool's, its scope's or
-- its broadcast's. If it is a job of a scope, it has no number of the scope's book, neither an open nor a filled one
pub record IsGivenBack (w : World) (t : ℕ) : Type 0 where
  pub at : (w.job t).at ≡ HandedBack
  pub untouched : IsUntouched w t
  pub share : (w.job t).counted ≡ false
  pub number : (c n : ℕ) (o : Party) → (w.job t).kind ≡ Scoped c o → slot_number (w.job t).slot ≡ Some n → ⊥

-- a call's cell holds how this job ended
pub record HoldsEnding (w : World) (c t : ℕ) : Type 0 where
  pub ending : Ending
  pub cell : (w.call c).cell ≡ Some ending
  pub job : HasEnded w t ending

-- where a call is to take, its cell holds how the last of its jobs ended, and it takes that; but a scope takes a fault
-- where its book keeps one, and a broadcast where a piece of it ended with one
abbrev pub TakesSo : Event → World → (c last : ℕ) → Type 0
TakesSo (OpenScope q p) w c last = HoldsEnding w c last × TakesFault w c
TakesSo (Broadcast q p) w c last = TakesLowest w c
TakesSo e w c last = HoldsEnding w c last

-- what a party answers with its last acts of a call: the answers of calls that waited, and of an install that ran its
-- job at once
abbrev pub verdict_of : Option Then → Option Verdict
verdict_of (Some (Answers o first last)) = Some (answered first last)
verdict_of (Some (Ran t e)) = Some (answered None e)
verdict_of _ = None

-- a first side has ended without a fault, if the call has one
abbrev pub FirstFine : Event → World → ℕ → Type 0
FirstFine e w t = is_join e ≡ true → HasEnded w t Fine

-- a call answers the fault that takes precedence: that of its first job, if it is a join, and else that of its last
abbrev pub IsPrecedent : Event → World → (first last : ℕ) → Option Verdict → Type 0
IsPrecedent e w first last None = ⊥
IsPrecedent e w first last (Some FirstFault) = (is_join e ≡ true) × HasEnded w first Fault
IsPrecedent e w first last (Some LastFault) = HasEnded w last Fault × FirstFine e w first
IsPrecedent e w first last (Some AllFine) = HasEnded w last Fine × FirstFine e w first

-- a scope answers a fault exactly where its book keeps one
abbrev pub ScopeAnswers : World → (call last : ℕ) → Option Verdict → Type 0
ScopeAnswers w call last None = ⊥
ScopeAnswers w call last (Some FirstFault) = ⊥
ScopeAnswers w call last (Some LastFault) = ((w.call call).job ≡ last) × ScopeTakes w call Fault
ScopeAnswers w call last (Some AllFine) = ((w.call call).job ≡ last) × ScopeTakes w call Fine

-- a broadcast answers a fault exactly where a piece of it ended with one, and it is that of the lowest such piece
abbrev pub CastAnswers : World → (call last : ℕ) → Option Verdict → Type 0
CastAnswers w call last None = ⊥
CastAnswers w call last (Some FirstFault) = ⊥
CastAnswers w call last (Some LastFault) = ((w.call call).job ≡ last) × CastTakes w call Fault
CastAnswers w call last (Some AllFine) = ((w.call call).job ≡ last) × CastTakes w call Fine

-- where a call is to lower a count it has its answer. A scope, whose call has this number, lowers its own count too, for
-- its body: that has run then
abbrev pub LowersSo : Event → Count → World → (call first last : ℕ) → Option Verdict → Type 0
LowersSo (OpenScope q p) (OfScope c o) w call first last v = (c ≡ call) × HasRun w last
LowersSo (OpenScope q p) (OfPool r) w call first last v = ScopeAnswers w call last v
LowersSo (Broadcast q p) k w call first last v = CastAnswers w call last v
LowersSo e k w call first last v = IsPrecedent e w first last v

-- a stack stands on this one: it has all its frames below, and its top is another
pub record StandsOn (s k : Stack) : Type 0 where
  pub more : List Place
  pub is : k.below ≡ more ++ (s.top ∷ s.below)

-- a call that the party q began by the event e (from w to v), in a world u that the events between lead to; its jobs
-- are the numbers that the event gave out, but for the last of a broadcast, which stands for it. The pieces of a
-- broadcast are bound each to its own worker: the first to the first worker, and so on. Until the call is over the
-- party's stack stands on what it was. Where the call's own next act is to take from a cell, that holds how the last of
-- its jobs ended, or of a broadcast a fault exactly where a piece ended with one; where it is to lower the terminate
-- count, and nothing refused it, it has the answer, and the fault is the one that takes precedence, but a scope's is
-- the one that its book keeps, and a broadcast's that of the lowest piece; where a scope is to lower its own count, its
-- body has run. Once the call is over, either nothing refused it and it leaves each job as it should, or a step of it
-- was refused and each job is given back; and an install, a join, a scope and a broadcast have given back their share
-- of the terminate count, which the last number has. A scope or a broadcast that nothing refused has ended: no job or
-- piece of it has a share of its count, is queued or runs
pub record CallGoes (q : Party) (e : Event) (w v u : World) (between : List Event) : Type 0 where
  pub made : v.jobs ≡ w.jobs + numbers_of w e
  pub bound : is_broadcast e ≡ true → (t : ℕ) → w.jobs ≤ t → t < w.jobs + jobs_of w e → (u.job t).bound ≡ Some (t - w.jobs)
  pub stands : StandsOn (w.stack q) (u.stack q) ⊎ (u.stack q ≡ w.stack q)
  pub takes : (c : ℕ) → is_at_call (w.stack q) (u.stack q) ≡ true → act_of q (u.stack q).top ≡ Take c → TakesSo e u c (v.jobs - 1)
  pub answers : is_awaited e ≡ true → (k : Count) (h : Share) → is_at_call (w.stack q) (u.stack q) ≡ true → act_of q (u.stack q).top ≡ Lower k h → is_any (is_refusal q (w.stack q)) (Some v) between ≡ false → LowersSo e k u w.calls w.jobs (v.jobs - 1) (verdict_of (follows (u.stack q).top))
  pub pays : u.stack q ≡ w.stack q → is_awaited e ≡ true → (u.job (v.jobs - 1)).counted ≡ false
  pub ends : u.stack q ≡ w.stack q → is_any (is_refusal q (w.stack q)) (Some v) between ≡ false → (t : ℕ) → w.jobs ≤ t → t < w.jobs + jobs_of w e → LeavesJob e u t
  pub empties : u.stack q ≡ w.stack q → (is_scope e || is_broadcast e) ≡ true → is_any (is_refusal q (w.stack q)) (Some v) between ≡ false → ScopeEnded u w.calls
  pub refused : u.stack q ≡ w.stack q → is_any (is_refusal q (w.stack q)) (Some v) between ≡ true → (t : ℕ) → w.jobs ≤ t → t < w.jobs + jobs_of w e → IsGivenBack u t

-- each call goes so, in every run from a start, up to the first world in which its party's stack is again what it was
-- before the event
abbrev pub CallLaw : Type 0
CallLaw = (shape : Shape) (before : List Event) (q : Party) (e : Event) (w v u : World) (between : List Event) →
    BeginsCall shape before q e w v → IsRunUntil q (w.stack q) v between u → CallGoes q e w v u between
