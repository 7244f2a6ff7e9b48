-- wrong machines of broadcasts: replays, computed by the kernel, in which a changed table or act breaks the clause of a
-- law that forbids it
--
-- Edits of the code that make the same mistakes, each with the function at which the check refuses it:
-- - `call_of_all_skips_a_worker`: `call_of_all_wakes_one_worker`, at `Pieces::call_all`.
-- - `broadcast_skips_its_last_worker`: `broadcast_gives_all_the_first_piece`, at `push_pieces`.
-- - `piece_forgets_its_worker`: `begun_piece_forgets_its_worker`, at `Touched::begin`.
-- - `refused_broadcast_keeps_its_shares`, at `Place::next_casting`.
-- Pieces that are made with no worker break the law of broadcasts: any of them may stand in any list.
use Rattle.std.proofs.Common.{refl}
use Rattle.rayon_machine_orders.proofs.Words.{true, false, ◌||◌, ◌+◌, ◌-◌, Some, None, List, [], ◌∷◌, ◌++◌, ◌≡◌, IfSome, Party, Queued, Called, Place, PushForAll, LockToWake, Move, Mark, HandAllBack, Act, PushCast, Begin, Seen, Done, Event, Cast, Refuse, PoolShape, next_of, Shape, World, Counts}
use Rattle.rayon_machine_orders.proofs.Words.{Part, Outcome, count_below, effect, one, times, in_cast, has_share, is_committed, is_filled, owes_cast}
use Rattle.rayon_machine_orders.proofs.WrongMachines.{run_by, times_go, two, a, b, c, right, doing, leading}

-- whoever has put tasks into all broadcast lists begins its calls at worker 1
abbrev skips_first : PoolShape → Party → Place → Seen → Move
skips_first h q (PushForAll p) Done = Mark (LockToWake (record { pool = p.pool; owed = h.workers; worker = 1; then = Called })) p Queued
skips_first h q x e = next_of h q x e

-- a worker blocks itself, and a caller broadcasts
abbrev asleep_run : List Event
asleep_run = times_go a 25 ++ Cast c 0 ∷ times_go c 2

-- the clause of broadcast lists is broken: worker 0 is committed, its list is filled, and nobody that ever moved is to
-- wake it
record Uncalled (w : World) : Type 0 where
  filled : is_filled ((w.pool 0).casts 0) ≡ true
  committed : is_committed w 0 0 ≡ true
  callers : (owes_cast (w.stack c).top 2 0 0 || (owes_cast (w.stack a).top 2 0 0 || owes_cast (w.stack b).top 2 0 0)) ≡ false

call_of_all_skips_a_worker : IfSome (run_by (leading skips_first) (two 32) asleep_run) Uncalled
call_of_all_skips_a_worker = record { filled = refl; committed = refl; callers = refl }

-- in the machine as it is the caller is to wake it
call_of_all_begins_at_the_first : IfSome (run_by right (two 32) asleep_run) (λ w. (is_filled ((w.pool 0).casts 0) ≡ true) × (is_committed w 0 0 ≡ true) × (owes_cast (w.stack c).top 2 0 0 ≡ true))
call_of_all_begins_at_the_first = (refl, refl, refl)

-- the push gives the last worker nothing
abbrev skips_last : Act → Shape → Party → Counts → Part → Outcome
skips_last (PushCast p) h q n m = effect (PushCast (record p { workers = p.workers - 1 })) h q n m
skips_last act h q n m = effect act h q n m

-- the law of places is broken: the last piece's record says that it is queued, and it does not stand there
broadcast_skips_its_last_worker : IfSome (run_by (doing skips_last) (two 32) (Cast c 0 ∷ times_go c 2)) (λ w. (in_cast 0 1 (w.job 1).at ≡ true) × (times 1 ((w.pool 0).casts 1) ≡ 0))
broadcast_skips_its_last_worker = (refl, refl)

-- in the machine as it is each piece is bound to its own worker from the event on, and may stand in no other's list
each_piece_has_its_worker : IfSome (run_by right (two 32) (Cast c 0 ∷ times_go c 2)) (λ w. ((w.job 0).bound ≡ Some 0) × ((w.job 1).bound ≡ Some 1))
each_piece_has_its_worker = (refl, refl)

-- a piece that begins to run forgets which worker it is bound to
abbrev unbound : Outcome → Outcome
unbound None = None
unbound (Some r) = Some (r.0, record (r.1) { job = record (r.1.job) { bound = None } })

abbrev forgets_worker : Act → Shape → Party → Counts → Part → Outcome
forgets_worker (Begin t) h q n m = unbound (effect (Begin t) h q n m)
forgets_worker act h q n m = effect act h q n m

-- a caller broadcasts, and a worker takes its piece
abbrev taken_run : List Event
taken_run = Cast c 0 ∷ times_go c 2 ++ times_go a 3

-- the law of once is broken, in its clause of what no step changes: the worker's next step frees the piece
piece_forgets_its_worker : IfSome (run_by (doing forgets_worker) (two 32) taken_run) (λ w. (w.job 0).bound ≡ Some 0) × IfSome (run_by (doing forgets_worker) (two 32) (taken_run ++ times_go a 1)) (λ w. (w.job 0).bound ≡ None)
piece_forgets_its_worker = (refl {a = Some 0}, refl {a = None})

-- in the machine as it is the piece stays its worker's
piece_keeps_its_worker : IfSome (run_by right (two 32) (taken_run ++ times_go a 1)) (λ w. (w.job 0).bound ≡ Some 0)
piece_keeps_its_worker = refl {a = Some 0}

-- a refused push hands the pieces back at once
abbrev keeps_shares : PoolShape → Party → Place → Seen → Move
keeps_shares h q (PushForAll p) Done = next_of h q (PushForAll p) Done
keeps_shares h q (PushForAll p) e = HandAllBack p
keeps_shares h q x e = next_of h q x e

-- the law of the count is broken: the number is two more than the shares, so this pool will never end
refused_broadcast_keeps_its_shares : IfSome (run_by (leading keeps_shares) (two 32) (Cast c 0 ∷ times_go c 1 ++ Refuse c ∷ [])) (λ w. ((w.pool 0).count ≡ 3) × ((one (w.pool 0).counted + count_below w.jobs (λ t. has_share 0 (w.job t))) ≡ 1))
refused_broadcast_keeps_its_shares = (refl, refl)
