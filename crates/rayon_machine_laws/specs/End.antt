-- how calls end
--
-- The clause of refused calls does not speak of a call whose Raise was refused: it hands its jobs back in that same
-- step. Once they are handed back it speaks of them too.
-- Broken by the wrong machines, in `rayon_machine_orders/proofs`:
-- - `IsEnd`: `caller_passes_a_latch_that_is_not_set` (WrongMachines), `join_skips_second_side` (CountTeeth),
--   `piece_is_stored_after_its_lower` (PieceTeeth).
-- - `IsRefused`: `refused_token_leaves_its_job` (ListTeeth).
use Rattle.rayon_machine_runs.specs.Steps.{is_piece}
use Rattle.rayon_machine_places.specs.declared.place.Pieces.{Pieces}
use Rattle.std.specs.Prelude.{ℕ, false, ◌+◌, Option, Some, None, ◌≡◌, ◌≤◌, ◌<◌, ◌⊎◌, ⊤, true}
use Rattle.rayon_machine_places.specs.declared.place.Party.{Party}
use Rattle.rayon_machine_places.specs.declared.place.Ending.{Ending}
use Rattle.rayon_machine_places.specs.declared.place.Ending.TheVariants.{Fine, Fault}
use Rattle.rayon_machine_places.specs.declared.place.JobKind.{JobKind}
use Rattle.rayon_machine_places.specs.declared.place.JobKind.TheVariants.{Scoped, BodyOf, PieceOf, WholeOf}
use Rattle.rayon_machine_places.specs.declared.place.Plan.{Plan}
use Rattle.rayon_machine_places.specs.declared.place.Plan.TheVariants.{Detach, Here, Send, Fork, Feed, Open, Enter, Gather}
use Rattle.rayon_machine_places.specs.declared.place.Then.{Then}
use Rattle.rayon_machine_places.specs.declared.place.Then.TheVariants.{Answers, Missing, Ran, GiveBack}
use Rattle.rayon_machine_places.specs.declared.place.Place.{Place}
use Rattle.rayon_machine_places.specs.declared.place.Place.TheVariants.{TakeResult, LowerCount, SetLatch, LockToSettle, WakeSettled, UnlockSettled, LowerForAll, SetLockLatch}
use Rattle.rayon_machine_runs.specs.declared.state.Whereabouts.TheVariants.{Over, HandedBack}
use Rattle.rayon_machine_places.specs.declared.place.OpenCall.{OpenCall}
use Rattle.rayon_machine_runs.specs.World.{World}
use Rattle.rayon_machine_laws.specs.Once.{times}

-- a job has run once, and its run has ended so
pub record HasEnded (w : World) (t : ℕ) (e : Ending) : Type 0 where
  pub at : (w.job t).at ≡ Over e
  pub runs : (w.job t).runs ≡ 1

-- the first side of a join has ended so; another call has no first side and says nothing of one
abbrev pub SideEnded : World → Option ℕ → Option Ending → Type 0
SideEnded w None None = ⊤
SideEnded w (Some a) (Some e) = HasEnded w a e
SideEnded w _ _ = ⊥

-- the first side, if there is one, has ended without a fault
abbrev pub SideFine : World → Option ℕ → Type 0
SideFine w None = ⊤
SideFine w (Some a) = HasEnded w a Fine

-- what a call can answer: no fault, its first side's, or that of the job that it waited for
pub data Verdict : Type 0 where
  AllFine : Verdict
  FirstFault : Verdict
  LastFault : Verdict

-- the answer, by how the first side and the own job ended: the first side's fault comes before the job's
abbrev pub answered : Option Ending → Ending → Verdict
answered (Some Fault) last = FirstFault
answered first Fault = LastFault
answered first Fine = AllFine

-- the book of a scope, by its call, keeps no fault: its body has ended without one, and so has each job of it that is
-- over
pub record ScopeFine (w : World) (c : ℕ) : Type 0 where
  pub kept : (w.call c).fault ≡ None
  pub body : HasEnded w (w.call c).job Fine
  pub jobs : (t : ℕ) (o : Party) (e : Ending) → (w.job t).kind ≡ Scoped c o → (w.job t).at ≡ Over e → e ≡ Fine

-- it keeps the fault of the scope's body or of a job of it, which has ended so; and the body has ended
pub record ScopeFaulted (w : World) (c : ℕ) : Type 0 where
  pub job : ℕ
  pub kept : (w.call c).fault ≡ Some job
  pub ended : HasEnded w job Fault
  pub inside : (job ≡ (w.call c).job) ⊎ ((o : Party) × ((w.job job).kind ≡ Scoped c o))
  pub last : Ending
  pub body : HasEnded w (w.call c).job last

-- what a scope takes: a fault exactly where its book keeps one
abbrev pub ScopeTakes : World → ℕ → Ending → Type 0
ScopeTakes w c Fine = ScopeFine w c
ScopeTakes w c Fault = ScopeFaulted w c

-- a broadcast that waited, by its call, keeps no fault: each piece of it has ended without one
pub record CastFine (w : World) (c : ℕ) : Type 0 where
  pub kept : (w.call c).fault ≡ None
  pub pieces : (t : ℕ) (o : Party) → t + 1 ≤ w.jobs → (w.job t).kind ≡ PieceOf c o → HasEnded w t Fine

-- it keeps the fault of the piece of the lowest number that ended with one; and each piece has ended
pub record CastFaulted (w : World) (c : ℕ) : Type 0 where
  pub job : ℕ
  pub kept : (w.call c).fault ≡ Some job
  pub ended : HasEnded w job Fault
  pub owner : Party
  pub piece : (w.job job).kind ≡ PieceOf c owner
  pub lower : (t : ℕ) (o : Party) → (w.job t).kind ≡ PieceOf c o → t < job → HasEnded w t Fine
  pub pieces : (t : ℕ) (o : Party) → t + 1 ≤ w.jobs → (w.job t).kind ≡ PieceOf c o → (e : Ending) × HasEnded w t e

-- what a broadcast takes: a fault exactly where a piece of it ended with one
abbrev pub CastTakes : World → ℕ → Ending → Type 0
CastTakes w c Fine = CastFine w c
CastTakes w c Fault = CastFaulted w c

-- what a call that waited for a job of this kind took: how that job ended, but of a scope, whose job is its body, and
-- of a broadcast, whose job stands for its pieces
abbrev pub Takes : World → OpenCall → JobKind → Ending → Type 0
Takes w o (BodyOf c q) e = ScopeTakes w o.number e
Takes w o (WholeOf c q) e = CastTakes w o.number e
Takes w o k e = HasEnded w o.job e

-- what each answer tells of the call's jobs
abbrev pub IsVerdict : World → OpenCall → Verdict → Type 0
IsVerdict w o FirstFault = SideEnded w (w.call o.number).first (Some Fault)
IsVerdict w o LastFault = Takes w o (w.job o.job).kind Fault × SideFine w (w.call o.number).first
IsVerdict w o AllFine = Takes w o (w.job o.job).kind Fine × SideFine w (w.call o.number).first

-- a call that waited: its job has run once and ended as the call took it, or, of a scope, the fault that it took is the
-- one that its book keeps, or, of a broadcast, all pieces have run once and the fault is that of the lowest; its first
-- side has run too, if it is a join; the answer's fault is the one that comes first
pub record CallEnds (w : World) (o : OpenCall) (first : Option Ending) (last : Ending) : Type 0 where
  pub own : (w.call o.number).job ≡ o.job
  pub job : Takes w o (w.job o.job).kind last
  pub side : SideEnded w (w.call o.number).first first
  pub fault : IsVerdict w o (answered first last)

-- what a party does after the last acts of a call
abbrev pub follows : Place → Option Then
follows (LowerCount p s n) = Some n
follows (SetLatch s) = Some s.then
follows (LockToSettle s) = Some s.then
follows (WakeSettled s) = Some s.then
follows (UnlockSettled s) = Some s.then
follows (SetLockLatch c n) = Some n
follows _ = None

-- the last steps of a call that was not refused: of one that waited, and of an install that ran its job at once. A call
-- that is about to take finds its cell filled, and no call answers that it took nothing
pub record IsEnd (w : World) : Type 0 where
  pub waited : (q : Party) (o : OpenCall) (first : Option Ending) (last : Ending) → follows (w.stack q).top ≡ Some (Answers o first last) → CallEnds w o first last
  pub once : (q : Party) (t : ℕ) (e : Ending) → follows (w.stack q).top ≡ Some (Ran t e) → HasEnded w t e
  pub filled : (q : Party) (o : OpenCall) (first : Option Ending) → (w.stack q).top ≡ TakeResult o first → (w.call o.number).cell ≡ None → ⊥
  pub missing : (q : Party) (o : OpenCall) (first : Option Ending) → follows (w.stack q).top ≡ Some (Missing o first) → ⊥

-- a job that stands in no list and whose run has never begun
pub record IsUntouched (w : World) (t : ℕ) : Type 0 where
  pub runs : (w.job t).runs ≡ 0
  pub deque : (p i : ℕ) → times t (w.seat p i).own ≡ 0
  pub fifo : (p i : ℕ) (b : Option ℕ) → times t ((w.seat p i).fifo b) ≡ 0
  pub cast : (p i : ℕ) → times t ((w.pool p).casts i) ≡ 0
  pub injector : (p : ℕ) → times t (w.pool p).injector ≡ 0

-- the jobs of a call
abbrev pub AllJobs : (ℕ → Type 0) → Plan → Type 0
AllJobs P (Detach p t) = P t
AllJobs P (Here p t) = P t
AllJobs P (Send o) = P o.job
AllJobs P (Fork o a) = P a × P o.job
AllJobs P (Feed f) = P f.job × P f.token
AllJobs P (Open o) = P o.job
AllJobs P (Enter e) = P e.job
AllJobs P (Gather g) = (t : ℕ) → is_piece g.pieces t ≡ true → P t

-- a refused call: until its last step its jobs stand in no list and have never run, and once they are handed back that
-- stays so. So it is of the pieces of a refused broadcast, up to the act that gives back their shares and hands them
-- back
pub record IsRefused (w : World) : Type 0 where
  pub going : (q : Party) (n : Plan) → follows (w.stack q).top ≡ Some (GiveBack n) → AllJobs (IsUntouched w) n
  pub cast : (q : Party) (c : Pieces) → (w.stack q).top ≡ LowerForAll c → (t : ℕ) → is_piece c t ≡ true → IsUntouched w t
  pub gone : (t : ℕ) → (w.job t).at ≡ HandedBack → IsUntouched w t

-- what a party does once it has set the latches after a Lower
abbrev pub after_settling : Place → Option Then
after_settling (SetLatch s) = Some s.then
after_settling (LockToSettle s) = Some s.then
after_settling (WakeSettled s) = Some s.then
after_settling (UnlockSettled s) = Some s.then
after_settling (SetLockLatch c n) = Some n
after_settling _ = None

-- the share that a refused call took is given back: no job of it has a share of the terminate count from the act after
-- its Lower to its last step, nor ever once it is handed back
pub record IsReturned (w : World) : Type 0 where
  pub going : (q : Party) (n : Plan) → after_settling (w.stack q).top ≡ Some (GiveBack n) → AllJobs (λ t. (w.job t).counted ≡ false) n
  pub gone : (t : ℕ) → (w.job t).at ≡ HandedBack → (w.job t).counted ≡ false
