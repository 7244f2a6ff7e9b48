-- wrong machines of the pieces of broadcasts, where they end and where they are refused: replays, computed by the
-- kernel, in which a changed table or event breaks the clause of a law that forbids it
--
-- Edits of the code that make the same mistakes, each with the function at which the check refuses it:
-- - `piece_is_stored_after_its_lower`: `piece_lowers_before_it_stores`, at `Parties::close`.
-- - `broadcast_does_not_wait`: `broadcast_goes_back_once_its_pieces_are_dealt`, at `Place::next_gathering`.
-- - `pieces_have_no_shares`: `pieces_that_are_waited_for_have_no_shares`, at `Place::next_gathering`.
-- - `refused_waiting_broadcast_keeps_its_share`: `refused_broadcast_that_waits_keeps_its_share` (there it goes round),
--   at `Place::next_gathering`.
-- - `refused_pieces_keep_their_numbers`, at `Pieces::undo`. `refused_pieces_keep_their_shares`:
--   `refused_numbers_keep_the_shares`, at `Place::next_casting`.
-- - `undo_takes_one_number`: `undo_of_pieces_takes_one_number`, at `Touched::closing_slots`.
-- - `dealt_shares_wait_still`: `dealt_pieces_leave_the_shares_with_their_call` (there the number stays), at
--   `Touched::dealing`.
use Rattle.std.proofs.Common.{refl}
use Rattle.rayon_machine_orders.proofs.Words.{ℕ, true, false, ◌+◌, Option, Some, None, List, [], ◌∷◌, ◌++◌, ◌≡◌, IfSome, Party, Ending, Fine, Fault, JobKind, PieceOf, OfCast, Queued, Dealt, Gather, OfJob, Resume, Ran, Place, Free, Run, PushForAll, DealPieces, CloseForAll, LowerForAll}
use Rattle.rayon_machine_orders.proofs.Words.{TakeResult, LowerCount, StorePiece, Move, Stay, EnterAbove as Enter, Back, HandBack, Mark, HandAllBack, Act, PushCast, Seen, Done, Yes, Event, Refuse, End, IntoCast, Broadcast, Closed, IsOpen, InCast, Over, HandedBack, PoolShape, call_all}
use Rattle.rayon_machine_orders.proofs.Words.{gather_all, set_call, act_of, next_of, Shape, Stack, World, count_below, Counts, Part, Outcome, casts_with, target_job, effect, put_stack, step, one, shares, has_entry, keeps_own}
use Rattle.rayon_machine_places.specs.declared.act.Act.TheVariants.{SlotUndoAll}
use Rattle.rayon_machine_orders.proofs.WrongMachines.{Machine, doing, leading, run_by, times_go, lone, two, a, c, right}
use Rattle.rayon_machine_orders.proofs.CallTeeth.{Ends}
use Rattle.rayon_machine_orders.proofs.GatherTeeth.{both_fault, opened}

-- how a piece ended is stored after the Lower of the broadcast's count, and after the call's latch is set
abbrev lowers_first : Ending → List Place → JobKind → ℕ → Option Stack
lowers_first e fs (PieceOf n o) t = Some (record { top = LowerCount (OfCast n o) (OfJob t) (Ran t e); below = fs })
lowers_first e fs k t = None

abbrev at_end : Option World → Party → Option Stack → Option World
at_end None q s = None
at_end (Some v) q None = Some v
at_end (Some v) q (Some s) = Some (record v { stack = put_stack v.stack q s })

abbrev end_of : World → Party → Ending → Stack → Place → Option World
end_of w q e s (Run t k) = at_end (step w (End q e)) q (lowers_first e s.below k t)
end_of w q e s x = step w (End q e)

abbrev ends_lowering : World → Event → Option World
ends_lowering w (End q e) = end_of w q e (w.stack q) (w.stack q).top
ends_lowering w e = step w e

abbrev stores_last : PoolShape → Party → Place → Seen → Move
stores_last h q (LowerCount (OfCast n o) s (Ran t e)) Yes = Enter (StorePiece n o t e) (set_call n o Resume)
stores_last h q (LowerCount (OfCast n o) s (Ran t e)) x = Stay (StorePiece n o t e)
stores_last h q (StorePiece n o t e) x = Back
stores_last h q x e = next_of h q x e

abbrev lowering : Machine
lowering = record { act = act_of; aims = target_job; does = effect; next = stores_last; made = ends_lowering }

-- the clause of ends is broken: in a pool of one worker the broadcast is to take, and its cell is empty
piece_is_stored_after_its_lower : IfSome (run_by lowering lone (Broadcast c 0 ∷ times_go c 6 ++ times_go a 4 ++ End a Fine ∷ times_go a 2 ++ times_go c 1)) (λ w. ((w.stack c).top ≡ TakeResult (record { number = 0; pool = 0; job = 1 }) None) × ((w.call 0).cell ≡ None))
piece_is_stored_after_its_lower = (refl {a = TakeResult (record { number = 0; pool = 0; job = 1 }) None}, refl {a = None})

-- in the machine as it is the cell is filled first
piece_is_stored_first : IfSome (run_by right lone (Broadcast c 0 ∷ times_go c 6 ++ times_go a 4 ++ End a Fine ∷ times_go a 3 ++ times_go c 1)) (λ w. ((w.stack c).top ≡ TakeResult (record { number = 0; pool = 0; job = 1 }) None) × ((w.call 0).cell ≡ Some Fine))
piece_is_stored_first = (refl {a = TakeResult (record { number = 0; pool = 0; job = 1 }) None}, refl {a = Some Fine})

-- a broadcast goes back once it has called all, as one does that waits for nothing
abbrev waits_for_nothing : PoolShape → Party → Place → Seen → Move
waits_for_nothing h q (DealPieces g) Done = Mark (call_all h g.pieces) g.pieces Dealt
waits_for_nothing h q x e = next_of h q x e

-- the clause of calls is broken: nothing refused the broadcast, it is over, and its first piece is queued
broadcast_does_not_wait : Ends (leading waits_for_nothing) [] c (Broadcast c 0) (times_go c 9) false 0 (InCast 0 0)
broadcast_does_not_wait = record { caller = refl; back = refl {a = record { top = Free; below = [] }}; until = refl {a = false}; refused = refl {a = false}; mine = refl {a = true}; at = refl {a = InCast 0 0} }

-- the machine as it is waits until its pieces are over
broadcast_ends : Ends right [] c (Broadcast c 0) (both_fault ++ times_go c 2) false 0 (Over Fault)
broadcast_ends = record { caller = refl; back = refl {a = record { top = Free; below = [] }}; until = refl {a = false}; refused = refl {a = false}; mine = refl {a = true}; at = refl {a = Over Fault} }

-- dealt pieces have no share of the broadcast's count
abbrev deals_uncounted : PoolShape → Party → Place → Seen → Move
deals_uncounted h q (DealPieces g) Done = Mark (gather_all h g.call) g.pieces Queued
deals_uncounted h q x e = next_of h q x e

-- the law of scopes is broken: the count is two more than its shares
pieces_have_no_shares : IfSome (run_by (leading deals_uncounted) (two 32) (Broadcast c 0 ∷ times_go c 3)) (λ w. ((w.call 0).count ≡ 2) × ((one (w.call 0).counted + (w.call 0).undealt) + count_below w.jobs (λ t. has_entry 0 (w.job t)) ≡ 0))
pieces_have_no_shares = (refl {a = 2}, refl {a = 0})

-- a refused broadcast that waits hands its pieces back, and keeps its share of the terminate count
abbrev keeps_share : PoolShape → Party → Place → Seen → Move
keeps_share h q (DealPieces g) Done = next_of h q (DealPieces g) Done
keeps_share h q (DealPieces g) e = HandBack (Gather g)
keeps_share h q x e = next_of h q x e

abbrev refused_deal : List Event
refused_deal = Broadcast c 0 ∷ times_go c 2 ++ Refuse c ∷ []

-- the law of the count is broken: a share is in the count that neither its party nor its owner keeps
record Unkept (w : World) : Type 0 where
  counted : (w.job 2).counted ≡ true
  party : shares 2 (w.stack c) ≡ 0
  owner : keeps_own (w.job 2) ≡ false
  number : (w.pool 0).count ≡ 2

refused_waiting_broadcast_keeps_its_share : IfSome (run_by (leading keeps_share) (two 32) refused_deal) Unkept
refused_waiting_broadcast_keeps_its_share = record { counted = refl {a = true}; party = refl {a = 0}; owner = refl {a = false}; number = refl {a = 2} }

-- the machine as it is gives it back, and hands the pieces back
refused_broadcast_undone : Ends right [] c (Broadcast c 0) (times_go c 2 ++ Refuse c ∷ times_go c 1) true 0 HandedBack × IfSome (run_by right (two 32) (refused_deal ++ times_go c 1)) (λ w. ((w.pool 0).count ≡ 1) × ((w.job 2).counted ≡ false))
refused_broadcast_undone = (record { caller = refl; back = refl {a = record { top = Free; below = [] }}; until = refl {a = false}; refused = refl {a = true}; mine = refl {a = true}; at = refl {a = HandedBack} }, (refl {a = 1}, refl {a = false}))

-- a refused broadcast into a scope keeps the numbers of its pieces
abbrev keeps_numbers : PoolShape → Party → Place → Seen → Move
keeps_numbers h q (PushForAll p) Done = next_of h q (PushForAll p) Done
keeps_numbers h q (PushForAll p) e = Stay (LowerForAll p)
keeps_numbers h q x e = next_of h q x e

-- the clause of casts is broken: a piece is handed back, and a number of the book is open for it
record KeepsNumber (w : World) : Type 0 where
  at : (w.job 1).at ≡ HandedBack
  slot : (w.job 1).slot ≡ IsOpen 0
  slots : (w.call 0).slots ≡ 2

refused_pieces_keep_their_numbers : IfSome (run_by (leading keeps_numbers) (two 32) (opened ++ IntoCast c 0 ∷ times_go c 2 ++ Refuse c ∷ times_go c 1)) KeepsNumber
refused_pieces_keep_their_numbers = record { at = refl {a = HandedBack}; slot = refl {a = IsOpen 0}; slots = refl {a = 2} }

-- it keeps the shares of its pieces
abbrev keeps_entries : PoolShape → Party → Place → Seen → Move
keeps_entries h q (CloseForAll p) e = HandAllBack p
keeps_entries h q x e = next_of h q x e

-- the law of scopes is broken: the count is two more than its shares, so the scope will never end
record Miscounted (w : World) : Type 0 where
  number : (w.call 0).count ≡ 3
  shares : (one (w.call 0).counted + (w.call 0).undealt) + count_below w.jobs (λ t. has_entry 0 (w.job t)) ≡ 1

refused_pieces_keep_their_shares : IfSome (run_by (leading keeps_entries) (two 32) (opened ++ IntoCast c 0 ∷ times_go c 2 ++ Refuse c ∷ times_go c 1)) Miscounted
refused_pieces_keep_their_shares = record { number = refl {a = 3}; shares = refl {a = 1} }

-- in the machine as it is the numbers and the shares are given back
record IsUndone (w : World) : Type 0 where
  at : (w.job 1).at ≡ HandedBack
  slot : (w.job 1).slot ≡ Closed
  counted : (w.job 1).counted ≡ false
  slots : (w.call 0).slots ≡ 0
  count : (w.call 0).count ≡ 1

refused_pieces_undone : IfSome (run_by right (two 32) (opened ++ IntoCast c 0 ∷ times_go c 2 ++ Refuse c ∷ times_go c 2)) IsUndone
refused_pieces_undone = record { at = refl {a = HandedBack}; slot = refl {a = Closed}; counted = refl {a = false}; slots = refl {a = 0}; count = refl {a = 1} }

-- the undo of a broadcast into a scope takes one number back, and the pieces had two
abbrev takes_one : Act → Shape → Party → Counts → Part → Outcome
takes_one (SlotUndoAll p) h q n m = effect (SlotUndoAll (record p { workers = 1 })) h q n m
takes_one act h q n m = effect act h q n m

-- the clause of books is broken: the book has a number, and no piece has one
record HasNobodys (w : World) : Type 0 where
  slots : (w.call 0).slots ≡ 1
  first : (w.job 1).slot ≡ Closed
  second : (w.job 2).slot ≡ Closed

undo_takes_one_number : IfSome (run_by (doing takes_one) (two 32) (opened ++ IntoCast c 0 ∷ times_go c 2 ++ Refuse c ∷ times_go c 1)) HasNobodys
undo_takes_one_number = record { slots = refl {a = 1}; first = refl {a = Closed}; second = refl {a = Closed} }

-- the pieces of a broadcast that waits get shares that are added to the count, and those that waited for them stay in it
abbrev adds_shares : Act → Shape → Party → Counts → Part → Outcome
adds_shares (PushCast p) h q n m = Some (Done, record m { pool = record (m.pool) { casts = casts_with p m.pool.casts }; call = record (m.call) { count = m.call.count + p.workers } })
adds_shares act h q n m = effect act h q n m

abbrev dealt_run : List Event
dealt_run = Broadcast c 0 ∷ times_go c 3

-- the law of the count is broken: the first piece is queued, and shares wait for it still, so the broadcast will never
-- end. The law of scopes is not: the number is that of the shares
record StillWaits (w : World) : Type 0 where
  kind : (w.job 0).kind ≡ PieceOf 0 c
  at : (w.job 0).at ≡ InCast 0 0
  waits : (w.call 0).undealt ≡ 2
  number : (w.call 0).count ≡ 4
  shares : (one (w.call 0).counted + (w.call 0).undealt) + count_below w.jobs (λ t. has_entry 0 (w.job t)) ≡ 4

dealt_shares_wait_still : IfSome (run_by (doing adds_shares) (two 32) dealt_run) StillWaits
dealt_shares_wait_still = record { kind = refl {a = PieceOf 0 c}; at = refl {a = InCast 0 0}; waits = refl {a = 2}; number = refl {a = 4}; shares = refl {a = 4} }

-- in the machine as it is none waits
none_waits : IfSome (run_by right (two 32) dealt_run) (λ w. ((w.call 0).undealt ≡ 0) × ((w.call 0).count ≡ 2))
none_waits = (refl {a = 0}, refl {a = 2})
