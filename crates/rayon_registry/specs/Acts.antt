-- The acts that a worker made in a call, where runs of jobs lie between them.
use Rattle.rayon_machine_places.specs.declared.place.Count.TheVariants.{OfPool}
use Rattle.std.specs.Prelude.{ℕ, List, [], ◌∷◌, Bool, true, false, None, Some, MatchOption, Option, Result, Ok, Err, ◌≡◌, ◌⊎◌}
use Rattle.rayon_words.specs.declared.refusal.CallError.{CallError}
use Rattle.rayon_machine_places.specs.declared.place.Ending.{Ending}
use Rattle.rayon_machine_places.specs.declared.place.Ending.TheVariants.{Fine, Fault}
use Rattle.rayon_machine_places.specs.declared.place.JobKind.{JobKind}
use Rattle.rayon_machine_places.specs.declared.place.JobKind.TheVariants.{Direct, TokenOf, WholeOf}
use Rattle.rayon_machine_places.specs.declared.place.OpenCall.{OpenCall}
use Rattle.rayon_machine_places.specs.declared.place.Plan.{Plan}
use Rattle.rayon_machine_places.specs.declared.place.Plan.TheVariants.{Feed, Gather, Here, Open}
use Rattle.rayon_machine_places.specs.declared.place.Share.TheVariants.{OfJob}
use Rattle.rayon_machine_places.specs.declared.place.Then.TheVariants.{Answers, Ran as RanSo}
use Rattle.rayon_machine_places.specs.declared.place.Mark.TheVariants.{Dealt}
use Rattle.rayon_machine_places.specs.declared.place.Party.{Party}
use Rattle.rayon_machine_places.specs.declared.place.Party.TheVariants.{Worker}
use Rattle.rayon_machine_places.specs.declared.place.Pieces.{Pieces}
use Rattle.rayon_machine_places.specs.declared.place.Move.{Move}
use Rattle.rayon_machine_places.specs.declared.place.Move.TheVariants.{Stay, Enter, StartRun, Back, HandBack, HandAllBack, HandIn, Discard, Mark}
use Rattle.rayon_machine_places.specs.declared.shape.PoolShape.{PoolShape}
use Rattle.rayon_machine_places.specs.declared.place.Place.{Place}
use Rattle.rayon_machine_places.specs.declared.place.Place.TheVariants.{AddToFifo, AtOnce, BeginHere, FirstSide, LowerCount, RaiseCount, RaiseForAll, Run, ScopeBody, Stopped}
use Rattle.rayon_machine_places.specs.declared.place.Target.{Target}
use Rattle.rayon_machine_places.specs.declared.place.Target.TheVariants.{Termination, Answer}
use Rattle.rayon_machine_places.specs.Places.{gather_all, goes_on, undo}
use Rattle.rayon_drive.specs.declared.trace.Log.{Log}
use Rattle.rayon_drive.specs.Traces.{AddsRun}
use Rattle.rayon_drive.specs.Paths.{Traced}
use Rattle.rayon_performers.specs.Broadcasts.{dealt, gathering}
use Rattle.rayon_performers.specs.Calls.{own_call, own_join}
use Rattle.rayon_shared.specs.Casts.{casting}
use Rattle.rayon_performers.specs.Fifos.{feeding}
use Rattle.rayon_performers.specs.Spawns.{closing}
use Rattle.rayon_tasks.specs.Names.{IsRow}
use Rattle.rayon_tasks.specs.Tasks.{TaskOf}
use Rattle.rayon_tasks.specs.Tickets.{kind_in}

-- what lay above a frame of a program: the move by which it began; where that beginning led, to the run of a job that was in
-- no FIFO list, to that of the job that a token stands for, or nowhere, where a token's list was empty; how the run ended; and the
-- worker's acts when the job was lent the worker, and when it ended. What the job itself does with the worker stands apart from
-- these acts, and each call that it makes says its own
pub record Lay : Type 0 where
  pub begins : Move
  pub starts : Move
  pub ended : Ending
  pub lent : Log
  pub over : Log

-- the frame goes on above which a run was that ended so; one above which nothing ran stays as it is
abbrev pub resumed : Move → Place → Ending → Place
resumed (Discard k) f e = f
resumed m f e = goes_on f e

-- where the program below goes on: at the frame above which the run began
abbrev pub below : Move → Move → Ending → Move
below (Enter f p) s e = Stay (resumed s f e)
below (StartRun f t) s e = Stay (goes_on f e)
below m s e = m

-- whether a job of this kind has a run: a token has none, and the number that stands for a broadcast has none
abbrev pub HasRun : JobKind → Type 0
HasRun (WholeOf c o) = ⊥
HasRun (TokenOf i b) = ⊥
HasRun _ = Unit {0}

-- the acts that the end of a run of this job adds: those from the place where the end begins to the frame below, or none
-- where the call below goes on
abbrev pub Closes : PoolShape → Party → ℕ → JobKind → Ending → Log → Log → Type 0
Closes h q t k e v w = HasRun k × elim (closing k t e) [ None ↦ w ≡ v | Some p ↦ Traced h q (Stay p) v w Back ]

-- what a run of this job adds once it has begun: the entry of the run itself, and the acts of its end
abbrev pub Ran : PoolShape → Party → ℕ → JobKind → Lay → Log → Type 0
Ran h q t k r w = AddsRun r.lent r.over × Closes h q t k r.ended r.over w

-- what a worker adds once a task has begun: the entry of its run, and the acts of its end. Where a token has brought no job,
-- nothing
abbrev pub RunOf : {X : Type 0} → PoolShape → Party → Option (TaskOf X) → Log → Log → Type 0
RunOf h q x v w = MatchOption x (w ≡ v) (λ t. (e : Ending) × (o : Log) × AddsRun v o × Closes h q t.ticket.number (kind_in t.ticket) e o w)

-- what follows where a beginning has led: a run, for which a token may have been spent; or nothing, where a token got no job
abbrev pub Follows : PoolShape → Party → Move → Lay → Log → Type 0
Follows h q (Stay (Run t k)) r w = Ran h q t k r w
Follows h q (HandIn (Run t k) n) r w = Ran h q t k r w
Follows h q (Discard n) r w = w ≡ r.lent
Follows h q m r w = ⊥

-- what a run adds: the acts by which it begins, the entry of the run itself, and the acts of its end. The run of a first
-- side begins and ends with none
abbrev pub RunAdds : PoolShape → Party → Move → Lay → Log → Log → Type 0
RunAdds h q (Enter f p) r v w = Traced h q (Stay p) v r.lent r.starts × Follows h q r.starts r w
RunAdds h q (StartRun f t) r v w = AddsRun v w
RunAdds h q m r v w = ⊥

-- a stretch of the table leads to each of these runs, from where the program goes on after the one before it, and one
-- leads from the last of them to the last move
abbrev pub WorkedAround : PoolShape → Party → Move → Log → List Lay → Log → Move → Type 0
WorkedAround h q m v [] w n = Traced h q m v w n
WorkedAround h q m v (r ∷ rs) w n = (x : Log) × (y : Log) × Traced h q m v x r.begins × RunAdds h q r.begins r x y × WorkedAround h q (below r.begins r.starts r.ended) y rs w n

-- where a wait for this ends: the worker has stopped, or the call has its answer
abbrev pub wait_end : Target → Move
wait_end Termination = Stay Stopped
wait_end (Answer o f) = Back

-- the acts are those of a program of the table, from the first move to the last, with those of the runs that lay between
-- its stretches, and no other
abbrev pub Worked : PoolShape → Party → Move → Log → Log → Move → Type 0
Worked h q m v w n = (runs : List Lay) × WorkedAround h q m v runs w n

-- how a side ended that faulted, or did not
abbrev pub ended_so : Bool → Ending
ended_so true = Fault
ended_so false = Fine

-- the acts of a join's own second side that was taken back: its run begins, and after it the join's Lower, and what that sets
-- going
abbrev pub Lowered : PoolShape → Party → OpenCall → Log → Log → Type 0
Lowered h q o v w = (e : Ending) × (x : Log) × (y : Log) × Traced h q (Stay (BeginHere o.job)) v x (Stay (Run o.job Direct)) × AddsRun x y × Traced h q (Stay (LowerCount (OfPool 0) (OfJob o.job) (Answers o (Some Fine) e))) y w Back

-- the acts by which a join of this name offers its second side, from its Raise to the run of its first side
abbrev pub Offered : PoolShape → Party → ℕ → Log → Log → Type 0
Offered h q n v w = Traced h q (Stay (RaiseCount (own_join n))) v w (StartRun (FirstSide (own_call n) n) n)

-- the acts by which it goes on where its first side ended so, to its end
abbrev pub Met : PoolShape → Party → ℕ → Ending → Log → Log → Type 0
Met h q n e v w = Worked h q (Stay (goes_on (FirstSide (own_call n) n) e)) v w Back

-- the acts of a join whose first side ended so
abbrev pub Joined : PoolShape → Party → Ending → Log → Log → Type 0
Joined h q e v w = (n : ℕ) × (x : Log) × (y : Log) × Offered h q n v x × AddsRun x y × Met h q n e y w

-- the acts by which a scope of this name is opened, from its Raise to the run of its body
abbrev pub ScopeOpened : PoolShape → Party → ℕ → Log → Log → Type 0
ScopeOpened h q n v w = Traced h q (Stay (RaiseCount (Open (own_call n)))) v w (StartRun (ScopeBody (own_call n)) n)

-- the acts by which it goes on where its body ended so, to its end
abbrev pub ScopeLeft : PoolShape → Party → ℕ → Ending → Log → Log → Type 0
ScopeLeft h q n e v w = Worked h q (Stay (goes_on (ScopeBody (own_call n)) e)) v w Back

-- the acts of a scope whose body ended so
abbrev pub Scoped : PoolShape → Party → Ending → Log → Log → Type 0
Scoped h q e v w = (n : ℕ) × (x : Log) × (y : Log) × ScopeOpened h q n v x × AddsRun x y × ScopeLeft h q n e y w

-- the acts of an install by a worker of the pool, from its Raise to its end, whose job ended so: as far as the run, the run's
-- beginning, the run, and on from its end
abbrev pub Installed : PoolShape → Party → Ending → Log → Log → Type 0
Installed h q e v w = (n : ℕ) × (x : Log) × (y : Log) × (z : Log) × Traced h q (Stay (RaiseCount (Here 0 n))) v x (Enter (AtOnce 0 n) (BeginHere n)) × Traced h q (Stay (BeginHere n)) x y (Stay (Run n Direct)) × AddsRun y z × Traced h q (Stay (LowerCount (OfPool 0) (OfJob n) (RanSo n e))) z w Back

-- the acts of a refused call: none, or those of its plan from its Raise to where it hands its jobs back
abbrev pub HandedBack : PoolShape → Party → (ℕ → Plan) → Log → Log → Type 0
HandedBack h q plan v w = (w ≡ v) ⊎ ((n : ℕ) × Traced h q (Stay (RaiseCount (plan n))) v w (HandBack (plan n)))

-- the pieces of a broadcast that waits for nothing were handed back: before its first act, or from there to where they are;
-- where their shares of a count were given back and were the last, the latches are set that wait for it
abbrev pub PiecesBack : PoolShape → Party → (ℕ → Pieces) → Log → Log → Type 0
PiecesBack h q pieces v w = (w ≡ v) ⊎ ((n : ℕ) × (Traced h q (Stay (RaiseForAll (pieces n))) v w (HandAllBack (pieces n)) ⊎ Traced h q (Stay (RaiseForAll (pieces n))) v w Back))

-- so was a detached broadcast
abbrev pub CastBack : PoolShape → Party → Log → Log → Type 0
CastBack h q v w = PiecesBack h q (λ n. casting n h.workers) v w

-- the acts by which this worker opens a broadcast that waits, from its Raise to where its pieces are queued. They have the row
-- of names that belongs to the name of the call
abbrev pub GatherOpened : PoolShape → ℕ → ℕ → Log → Log → Type 0
GatherOpened h i n v w = (a : ℕ) × IsRow h.workers n (Some a) × Traced h (Worker 0 i) (Stay (RaiseCount (Gather (gathering i n a h.workers)))) v w (Mark (gather_all h (own_call n)) (dealt i n a h.workers) Dealt)

-- the acts by which it goes on, whichever pieces were queued: it calls the workers, and waits for the pieces
abbrev pub GatherLeft : PoolShape → ℕ → ℕ → Log → Log → Type 0
GatherLeft h i n v w = (c : Pieces) → Worked h (Worker 0 i) (Mark (gather_all h (own_call n)) c Dealt) v w Back

-- the acts of a broadcast that waits, from its Raise to its end
abbrev pub Gathered : PoolShape → ℕ → Log → Log → Type 0
Gathered h i v w = (n : ℕ) × (a : ℕ) × IsRow h.workers n (Some a) × Worked h (Worker 0 i) (Stay (RaiseCount (Gather (gathering i n a h.workers)))) v w Back

-- the acts of a broadcast that waits and was handed back: none, or those from its Raise to there
abbrev pub GatherBack : PoolShape → ℕ → Log → Log → Type 0
GatherBack h i v w = (w ≡ v) ⊎ ((n : ℕ) × (a : ℕ) × IsRow h.workers n (Some a) × Traced h (Worker 0 i) (Stay (RaiseCount (Gather (gathering i n a h.workers)))) v w (HandBack (Gather (gathering i n a h.workers))))

-- the acts of a task of this name that could not be added to the own FIFO list: none, or those of the adding as far as it was
-- taken back
abbrev pub Unlisted : PoolShape → Party → ℕ → Log → Log → Type 0
Unlisted h q n v w = (w ≡ v) ⊎ ((k : ℕ) × Traced h q (Stay (AddToFifo (feeding n k))) v w (Stay (undo (Feed (feeding n k)))))

-- a call has made these acts where it answers anything but a fault, these where it answers a fault, and these where it is
-- refused
abbrev pub CallMade : {O F B : Type 0} → Type 0 → Type 0 → Type 0 → Result O (CallError F B) → Type 0
CallMade fine fault refused (Ok x) = fine
CallMade fine fault refused (Err (CallError.Fault f)) = fault
CallMade fine fault refused (Err (CallError.Refused r b)) = refused
CallMade fine fault refused (Err CallError.Foreign) = fine
CallMade fine fault refused (Err CallError.Missing) = fine
