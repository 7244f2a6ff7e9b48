-- wrong machines of broadcasts that wait, and of broadcasts into scopes: replays, computed by the kernel, in which a
-- changed table, act or event breaks the clause of a law that forbids it
--
-- Edits of the code that make the same mistakes, each with the function at which the check refuses it:
-- - `broadcast_skips_the_last_worker`: `broadcast_makes_no_piece_for_the_last_worker`, at `World::cast`.
-- - `waiting_broadcast_skips_the_last_worker`: `waiting_broadcast_makes_no_piece_for_the_last_worker`, at
--   `World::broadcast`.
-- - `broadcast_into_a_scope_skips_the_last_worker`: `broadcast_into_a_scope_makes_no_piece_for_the_last_worker`, at
--   `World::cast_into`.
-- - `waiting_call_of_all_skips_a_worker`, at `OpenCall::gather_all`.
-- - `broadcast_keeps_the_highest_fault` and `broadcast_answers_the_highest_fault`:
--   `broadcast_keeps_the_fault_of_the_last_piece`, at `kept_of_pieces`.
use Rattle.std.proofs.Common.{refl}
use Rattle.rayon_machine_orders.proofs.Words.{ℕ, true, false, ◌||◌, ◌+◌, ◌-◌, nat_lt, if◌then◌else◌, Option, Some, None, List, ◌∷◌, ◌++◌, ◌≡◌, IfSome, Party, Ending, Fine, Fault, PieceOf, Dealt, Gathers, Place, DealPieces, LockToWake, Move, Mark, Act, Take, PushCast, Seen, Done, Event, End}
use Rattle.rayon_machine_orders.proofs.Words.{Cast, OpenScope, IntoCast, Broadcast, Over, PoolShape, act_of, next_of, Shape, World, Counts, Part, Outcome, put_piece, effect, step, one, times, in_cast, is_committed, is_filled, owes_cast, LastFault, follows, caller_of, numbers_of, is_at_call}
use Rattle.rayon_machine_orders.proofs.Words.{is_refusal, verdict_of, cast_pool}
use Rattle.rayon_machine_places.specs.declared.act.Act.TheVariants.{StorePiece as PutPiece}
use Rattle.rayon_machine_orders.proofs.WrongMachines.{Machine, doing, leading, making, step_by, run_by, times_go, two, a, b, c, right}
use Rattle.rayon_machine_orders.proofs.CallTeeth.{any_by, is_back}

-- a caller opens a scope
abbrev pub opened : List Event
opened = OpenScope c 0 ∷ times_go c 2

-- a broadcast makes no piece for the last worker of its pool
abbrev with_fewer : World → World
with_fewer w = record w { shape = record (w.shape) { pool = λ p. record (w.shape.pool p) { workers = (w.shape.pool p).workers - 1 } } }

abbrev in_shape : Shape → Option World → Option World
in_shape h None = None
in_shape h (Some v) = Some (record v { shape = h })

abbrev skips_last : World → Event → Option World
skips_last w (Cast q p) = in_shape w.shape (step (with_fewer w) (Cast q p))
skips_last w (IntoCast q n) = in_shape w.shape (step (with_fewer w) (IntoCast q n))
skips_last w (Broadcast q p) = in_shape w.shape (step (with_fewer w) (Broadcast q p))
skips_last w e = step w e

-- the clause of calls is broken: a broadcast that waits is to give out three numbers, and gives out two
waiting_broadcast_skips_the_last_worker : IfSome (two 32) (λ w. IfSome (step_by (making skips_last) w (Broadcast c 0)) (λ v. ((w.jobs + numbers_of w (Broadcast c 0)) ≡ 3) × (v.jobs ≡ 2)))
waiting_broadcast_skips_the_last_worker = (refl {a = 3}, refl {a = 2})

-- the clause of casts is broken: one that does not wait is to give out two, and gives out one
broadcast_skips_the_last_worker : IfSome (two 32) (λ w. IfSome (step_by (making skips_last) w (Cast c 0)) (λ v. ((w.jobs + (w.shape.pool (cast_pool w (Cast c 0))).workers) ≡ 2) × (v.jobs ≡ 1)))
broadcast_skips_the_last_worker = (refl {a = 2}, refl {a = 1})

-- and so it is of one into a scope
broadcast_into_a_scope_skips_the_last_worker : IfSome (run_by right (two 32) opened) (λ w. IfSome (step_by (making skips_last) w (IntoCast c 0)) (λ v. ((w.jobs + (w.shape.pool (cast_pool w (IntoCast c 0))).workers) ≡ 3) × (v.jobs ≡ 2)))
broadcast_into_a_scope_skips_the_last_worker = (refl {a = 3}, refl {a = 2})

-- the push of a broadcast that waits gives the last worker nothing
abbrev pushes_fewer : Act → Shape → Party → Counts → Part → Outcome
pushes_fewer (PushCast p) h q n m = effect (PushCast (record p { workers = p.workers - 1 })) h q n m
pushes_fewer act h q n m = effect act h q n m

-- the law of places is broken: the last piece's record says that it is queued, and it does not stand there
waiting_push_skips_the_last_worker : IfSome (run_by (doing pushes_fewer) (two 32) (Broadcast c 0 ∷ times_go c 3)) (λ w. (in_cast 0 1 (w.job 1).at ≡ true) × (times 1 ((w.pool 0).casts 1) ≡ 0))
waiting_push_skips_the_last_worker = (refl {a = true}, refl {a = 0})

-- whoever has put the pieces of a broadcast that waits into all lists begins its calls at worker 1
abbrev skips_first : PoolShape → Party → Place → Seen → Move
skips_first h q (DealPieces g) Done = Mark (LockToWake (record { pool = g.call.pool; owed = h.workers; worker = 1; then = Gathers g.call })) g.pieces Dealt
skips_first h q x e = next_of h q x e

-- a worker blocks itself, and a caller broadcasts and waits
abbrev asleep_run : List Event
asleep_run = times_go a 25 ++ Broadcast c 0 ∷ times_go c 3

-- the clause of broadcast lists is broken: worker 0 is committed, its list is filled, and nobody that ever moved is to
-- wake it
record Uncalled (w : World) : Type 0 where
  filled : is_filled ((w.pool 0).casts 0) ≡ true
  committed : is_committed w 0 0 ≡ true
  callers : (owes_cast (w.stack c).top 2 0 0 || (owes_cast (w.stack a).top 2 0 0 || owes_cast (w.stack b).top 2 0 0)) ≡ false

waiting_call_of_all_skips_a_worker : IfSome (run_by (leading skips_first) (two 32) asleep_run) Uncalled
waiting_call_of_all_skips_a_worker = record { filled = refl {a = true}; committed = refl {a = true}; callers = refl {a = false} }

-- in the machine as it is the caller is to wake it
waiting_call_of_all_begins_at_the_first : IfSome (run_by right (two 32) asleep_run) (λ w. (is_filled ((w.pool 0).casts 0) ≡ true) × (is_committed w 0 0 ≡ true) × (owes_cast (w.stack c).top 2 0 0 ≡ true))
waiting_call_of_all_begins_at_the_first = (refl {a = true}, refl {a = true}, refl {a = true})

-- both pieces of a broadcast that waits end with a fault, and its caller is to take
abbrev pub both_fault : List Event
both_fault = times_go c 9 ++ times_go a 4 ++ times_go b 4 ++ End a Fault ∷ times_go a 2 ++ End b Fault ∷ times_go b 3 ++ times_go c 1

-- it keeps the fault of the highest worker that has one
abbrev highest_fault : Option ℕ → ℕ → Ending → Option ℕ
highest_fault k t Fine = k
highest_fault None t Fault = Some t
highest_fault (Some u) t Fault = Some (if nat_lt u t then t else u)

abbrev keeps_highest : Act → Shape → Party → Counts → Part → Outcome
keeps_highest (PutPiece k t e) h q n m = Some (Done, record (put_piece m t e) { call = record ((put_piece m t e).call) { fault = highest_fault m.call.fault t e } })
keeps_highest act h q n m = effect act h q n m

-- a broadcast is to take, it keeps the fault of this piece, and the piece of the first worker has ended with one
record Keeps (t : ℕ) (w : World) : Type 0 where
  act : act_of c (w.stack c).top ≡ Take 0
  kept : (w.call 0).fault ≡ Some t
  kind : (w.job 0).kind ≡ PieceOf 0 c
  at : (w.job 0).at ≡ Over Fault

-- the clause of faults is broken: it is not the lowest
broadcast_keeps_the_highest_fault : IfSome (run_by (doing keeps_highest) (two 32) (Broadcast c 0 ∷ both_fault)) (Keeps 1)
broadcast_keeps_the_highest_fault = record { act = refl {a = Take 0}; kept = refl {a = Some 1}; kind = refl {a = PieceOf 0 c}; at = refl {a = Over Fault} }

-- and so is the clause of calls: the answer at the Lower is that fault
record AnswersSo (m : Machine) (between : List Event) (w v u : World) : Type 0 where
  caller : caller_of (Broadcast c 0) ≡ Some c
  until : any_by m (is_back c w) (Some v) between ≡ false
  refused : any_by m (is_refusal c (w.stack c)) (Some v) between ≡ false
  own : is_at_call (w.stack c) (u.stack c) ≡ true
  answer : verdict_of (follows (u.stack c).top) ≡ Some LastFault
  kept : (u.call w.calls).fault ≡ Some 1
  lower : (u.job w.jobs).at ≡ Over Fault

broadcast_answers_the_highest_fault : IfSome (two 32) (λ w. IfSome (step_by (doing keeps_highest) w (Broadcast c 0)) (λ v. IfSome (run_by (doing keeps_highest) (Some v) (both_fault ++ times_go c 1)) (AnswersSo (doing keeps_highest) (both_fault ++ times_go c 1) w v)))
broadcast_answers_the_highest_fault = record { caller = refl; until = refl {a = false}; refused = refl {a = false}; own = refl {a = true}; answer = refl {a = Some LastFault}; kept = refl {a = Some 1}; lower = refl {a = Over Fault} }

-- the machine as it is keeps the lowest
broadcast_keeps_the_lowest_fault : IfSome (run_by right (two 32) (Broadcast c 0 ∷ both_fault)) (Keeps 0)
broadcast_keeps_the_lowest_fault = record { act = refl {a = Take 0}; kept = refl {a = Some 0}; kind = refl {a = PieceOf 0 c}; at = refl {a = Over Fault} }

-- it keeps no fault
abbrev forgets_faults : Act → Shape → Party → Counts → Part → Outcome
forgets_faults (PutPiece k t e) h q n m = Some (Done, record (put_piece m t e) { call = record ((put_piece m t e).call) { fault = None } })
forgets_faults act h q n m = effect act h q n m

-- the clause of faults is broken: it is to take, keeps none, and the piece of the first worker has ended with one
record Forgets (w : World) : Type 0 where
  act : act_of c (w.stack c).top ≡ Take 0
  kept : (w.call 0).fault ≡ None
  kind : (w.job 0).kind ≡ PieceOf 0 c
  at : (w.job 0).at ≡ Over Fault

broadcast_forgets_a_fault : IfSome (run_by (doing forgets_faults) (two 32) (Broadcast c 0 ∷ both_fault)) Forgets
broadcast_forgets_a_fault = record { act = refl {a = Take 0}; kept = refl {a = None}; kind = refl {a = PieceOf 0 c}; at = refl {a = Over Fault} }
