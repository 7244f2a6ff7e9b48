-- which jobs a party has in hand or runs, by its places
--
-- The lemma `table` goes over all places. After a move a party has in hand what it had, with what it took, less what it
-- gave.
use Rattle.rayon_machine_places.specs.declared.place.Plan.{Plan}
use Rattle.rayon_machine_places.specs.declared.place.Plan.TheVariants.{Gather}
use Rattle.rayon_machine_places.specs.declared.place.Mark.TheVariants.{Counted, Queued, Returned, Numbered, Dealt, Unnumbered}
use Rattle.rayon_machine_places.specs.declared.place.Share.{Share}
use Rattle.rayon_machine_places.specs.declared.place.Count.TheVariants.{OfPool, OfScope, OfCast}
use Rattle.rayon_machine_places.specs.declared.place.Count.{Count}
use Rattle.std.proofs.Common.{rules, arith, refl}
use Rattle.std.specs.Prelude.{ℕ, Bool, true, false, ◌+◌, ◌==◌, nat_lt, if◌then◌else◌, List, [], ◌∷◌, ◌≡◌, IfSome}
use Rattle.rayon_machine_places.specs.declared.place.Party.{Party}
use Rattle.rayon_machine_places.specs.declared.place.Party.TheVariants.{Worker, Caller}
use Rattle.rayon_machine_places.specs.declared.place.Latch.{Latch}
use Rattle.rayon_machine_places.specs.declared.place.Latch.TheVariants.{Terminate, OfCall}
use Rattle.rayon_machine_places.specs.declared.place.Taken.TheVariants.{Plain, Token}
use Rattle.rayon_machine_places.specs.declared.place.Then.{Then}
use Rattle.rayon_machine_places.specs.declared.place.Then.TheVariants.{BeginFound}
use Rattle.rayon_machine_places.specs.declared.place.Place.{Place}
use Rattle.rayon_machine_places.specs.declared.place.Place.TheVariants.{ProbeWorking, BeginTask, BeginHere, RaiseCount, PushJob, AddToFifo, PushToken, SetLatch, UnlockSettled, RaiseForAll, LowerCount, SetLockLatch}
use Rattle.rayon_machine_places.specs.declared.place.Move.{Move}
use Rattle.rayon_machine_places.specs.declared.place.Move.TheVariants.{Stay, Enter, StartRun, Back, HandBack, Discard, HandIn, Mark, HandAllBack}
use Rattle.rayon_machine_places.specs.declared.act.Seen.{Seen}
use Rattle.rayon_machine_places.specs.declared.act.Seen.TheVariants.{Yes, No, Task, Handed}
use Rattle.rayon_machine_runs.specs.declared.state.Letter.{Letter}
use Rattle.rayon_machine_runs.specs.declared.state.Letter.TheVariants.{Unset, Sleepy as IsSleepy, Sleeping, Set as IsSet}
use Rattle.rayon_machine_places.specs.declared.shape.PoolShape.{PoolShape}
use Rattle.rayon_machine_places.specs.declared.place.Settling.{Settling}
use Rattle.rayon_machine_places.specs.Places.{plan_job, finish, settle, after_begin, after_set, act_of, next_of, taken_number, settle_count}
use Rattle.rayon_machine_runs.specs.World.{Shape, Stack, Part, is_held_by, letter, set_latch, effect, count_in}
use Rattle.rayon_machine_places.specs.Sleepers.{Counts}
use Rattle.rayon_machine_runs.specs.Steps.{back, is_piece}
use Rattle.rayon_machine_laws.specs.Once.{one, run_of, runs_in}
pub use Rattle.rayon_machine_laws.specs.Once.{hand_plan, hand_rest, hand_then, hand_found, hand, held_in, held, worked}
use Rattle.rayon_machine_laws.proofs.Frame.{if_cond, out_sees}

-- the stack after a move, before the run that it starts has begun, before the jobs of a refused call are handed back
-- and before a token is spent
abbrev pub paused : Move → List Place → Stack
paused (Stay y) fs = record { top = y; below = fs }
paused (HandIn y k) fs = record { top = y; below = BeginHere k ∷ fs }
paused (Mark y c Counted) fs = record { top = y; below = fs }
paused (Mark y c (Numbered n)) fs = record { top = y; below = fs }
paused (Mark y c Unnumbered) fs = record { top = y; below = fs }
paused (Mark y c k) fs = record { top = y; below = RaiseForAll c ∷ fs }
paused (Enter f y) fs = record { top = y; below = f ∷ fs }
paused (StartRun f a) fs = record { top = BeginHere a; below = f ∷ fs }
paused Back fs = back fs
paused (HandBack n) fs = record { top = RaiseCount n; below = fs }
paused (Discard k) fs = record { top = BeginHere k; below = fs }
paused (HandAllBack c) fs = record { top = RaiseForAll c; below = fs }

abbrev pub hand_move : ℕ → Move → ℕ
hand_move t (Stay y) = hand t y
hand_move t (HandIn y k) = hand t y + one (t == k)
hand_move t (Mark y c Counted) = hand t y
hand_move t (Mark y c (Numbered n)) = hand t y
hand_move t (Mark y c Unnumbered) = hand t y
hand_move t (Mark y c k) = hand t y + one (is_piece c t)
hand_move t (Enter f y) = hand t y + hand t f
hand_move t (StartRun f a) = one (t == a) + hand t f
hand_move t Back = 0
hand_move t (HandBack n) = hand_plan t n
hand_move t (Discard k) = one (t == k)
hand_move t (HandAllBack c) = one (is_piece c t)

abbrev pub run_move : ℕ → Move → ℕ
run_move t (Stay y) = run_of t y
run_move t (HandIn y k) = run_of t y
run_move t (Mark y b9 m9) = run_of t y
run_move t (Enter f y) = run_of t y + run_of t f
run_move t (StartRun f a) = run_of t f
run_move t Back = 0
run_move t (HandBack n) = 0
run_move t (Discard n) = 0
run_move t (HandAllBack b9) = 0

-- a move holds what its places and the frames below them do
pub land_held : (t : ℕ) (g : Move) (fs : List Place) → held t (paused g fs) ≡ (hand_move t g + held_in t fs)
land_held t (Stay y) fs = refl
land_held t (HandIn y k) fs = omega arith
land_held t (Mark y b9 Counted) fs = omega arith
land_held t (Mark y b9 (Numbered n)) fs = omega arith
land_held t (Mark y b9 Queued) fs = omega arith
land_held t (Mark y b9 Dealt) fs = omega arith
land_held t (Mark y b9 Unnumbered) fs = omega arith
land_held t (Mark y b9 Returned) fs = omega arith
land_held t (Enter f y) fs = omega arith
land_held t (StartRun f a) fs = omega arith
land_held t (HandBack n) fs = refl
land_held t (Discard n) fs = refl
land_held t (HandAllBack b9) fs = refl
land_held t Back [] = refl
land_held t Back (f ∷ fs) = omega arith

pub land_worked : (t : ℕ) (g : Move) (fs : List Place) → worked t (paused g fs) ≡ (run_move t g + runs_in t fs)
land_worked t (Stay y) fs = refl
land_worked t (HandIn y k) fs = omega arith
land_worked t (Mark y b9 Counted) fs = omega arith
land_worked t (Mark y b9 (Numbered n)) fs = omega arith
land_worked t (Mark y b9 Queued) fs = omega arith
land_worked t (Mark y b9 Dealt) fs = omega arith
land_worked t (Mark y b9 Unnumbered) fs = omega arith
land_worked t (Mark y b9 Returned) fs = omega arith
land_worked t (Enter f y) fs = omega arith
land_worked t (StartRun f a) fs = omega arith
land_worked t (HandBack n) fs = omega arith
land_worked t (Discard n) fs = omega arith
land_worked t (HandAllBack b9) fs = omega arith
land_worked t Back [] = refl
land_worked t Back (f ∷ fs) = omega arith

-- what an act takes and gives away
abbrev pub got : ℕ → Seen → ℕ
got t (Task x) = one (t == taken_number x)
got t _ = 0

-- what it begins for a token, out of a FIFO list
abbrev pub outs : ℕ → Seen → ℕ
outs t (Handed u d) = one (t == u)
outs t _ = 0

-- what it begins of what it has
abbrev pub starts : ℕ → Place → ℕ
starts t (BeginTask (Plain u)) = one (t == u)
starts t (BeginHere u) = one (t == u)
starts t _ = 0

-- a broadcast that waits queues no job of its own
abbrev pub is_gather : Plan → Bool
is_gather (Gather g) = true
is_gather _ = false

abbrev pub queues_whole : Place → Bool
queues_whole (PushJob n v) = is_gather n
queues_whole _ = false

abbrev pub given_plan : ℕ → Plan → ℕ
given_plan t (Gather g) = one (is_piece g.pieces t)
given_plan t n = one (t == plan_job n)

pub given_one : (t : ℕ) (n : Plan) → is_gather n ≡ false → given_plan t n ≡ one (t == plan_job n)
given_one t (Gather g) e = cc
given_one t _ e = refl

abbrev pub given : ℕ → Place → ℕ
given t (PushJob n e) = given_plan t n
given t (PushToken f e) = one (t == f.token)
given t (AddToFifo f) = one (t == f.job)
given t x = starts t x

-- the setting of a latch sees something, and changes no more than the latch
pub set_sees : (P : Seen → Type 0) (l : Latch) (m : Part) (x : Letter) → ((e : Seen) → ((t : ℕ) → (got t e ≡ 0) × (outs t e ≡ 0)) → P e) → IfSome (set_latch l m x) (λ r. P (r.0))
set_sees P l m Unset f = f No (λ t. (refl, refl))
set_sees P l m IsSleepy f = f No (λ t. (refl, refl))
set_sees P l m Sleeping f = f Yes (λ t. (refl, refl))
set_sees P l m IsSet f = f No (λ t. (refl, refl))

finish_hand : (t : ℕ) (q : Party) (n : Then) → (hand_move t (finish q n) ≡ hand_then t n) × (run_move t (finish q n) ≡ 0)
finish_hand t (Worker a b) (BeginFound g u) = (omega arith, omega arith)
finish_hand t (Worker a b) n = (search (rules, arith), search (rules, arith))
finish_hand t (Caller c) (BeginFound g u) = (omega arith, omega arith)
finish_hand t (Caller c) n = (search (rules, arith), search (rules, arith))

settle_hand : (t : ℕ) (g : PoolShape) (q : Party) (p i : ℕ) (n : Then) → (hand_move t (settle g q p i n) ≡ hand_then t n) × (run_move t (settle g q p i n) ≡ 0)
settle_hand t g q p i n = at (nat_lt i g.workers)
  where
    at : (z : Bool) → (hand_move t (if z then Stay (SetLatch (record { latch = Terminate; pool = p; worker = i; then = n })) else finish q n) ≡ hand_then t n) × (run_move t (if z then Stay (SetLatch (record { latch = Terminate; pool = p; worker = i; then = n })) else finish q n) ≡ 0)
    at true = (omega arith, omega arith)
    at false = finish_hand t q n

settled_hand : (t : ℕ) (g : PoolShape) (q : Party) (k : Settling) (l : Latch) → (hand_move t (after_set g q k l) ≡ hand_then t k.then) × (run_move t (after_set g q k l) ≡ 0)
settled_hand t g q k Terminate = settle_hand t g q k.pool (k.worker + 1) k.then
settled_hand t g q k (OfCall c) = finish_hand t q k.then

-- whatever the setting of a latch has seen
set_hand : (t : ℕ) (g : PoolShape) (q : Party) (k : Settling) (e : Seen) → (hand_move t (next_of g q (SetLatch k) e) ≡ hand_then t k.then) × (run_move t (next_of g q (SetLatch k) e) ≡ 0)
set_hand t g q k Yes = (omega arith, omega arith)
set_hand t g q k _ = settled_hand t g q k k.latch

-- whatever count is 0 now
zero_hand : (t : ℕ) (g : PoolShape) (q : Party) (k : Count) (n : Then) → (hand_move t (settle_count g q k n) ≡ hand_then t n) × (run_move t (settle_count g q k n) ≡ 0)
zero_hand t g q (OfPool p) n = settle_hand t g q p 0 n
zero_hand t g q (OfCast c (Worker a b)) n = (omega arith, omega arith)
zero_hand t g q (OfCast c (Caller i)) n = (omega arith, omega arith)
zero_hand t g q (OfScope c (Worker a b)) n = (omega arith, omega arith)
zero_hand t g q (OfScope c (Caller i)) n = (omega arith, omega arith)

lower_hand : (t : ℕ) (g : PoolShape) (q : Party) (k : Count) (u : Share) (n : Then) (z : Bool) → (hand_move t (next_of g q (LowerCount k u n) (if z then Yes else No)) + 0 ≡ hand_then t n + got t (if z then Yes else No)) × (run_move t (next_of g q (LowerCount k u n) (if z then Yes else No)) ≡ 0 + (0 + outs t (if z then Yes else No)))
lower_hand t g q k u n true = let a : (hand_move t (settle_count g q k n) ≡ hand_then t n) × (run_move t (settle_count g q k n) ≡ 0) = zero_hand t g q k n in let b : hand_move t (settle_count g q k n) ≡ hand_then t n = a.0 in let c : run_move t (settle_count g q k n) ≡ 0 = a.1 in (omega (arith, b), omega (arith, c))
lower_hand t g q k u n false = let a : (hand_move t (finish q n) ≡ hand_then t n) × (run_move t (finish q n) ≡ 0) = finish_hand t q n in let b : hand_move t (finish q n) ≡ hand_then t n = a.0 in let c : run_move t (finish q n) ≡ 0 = a.1 in (omega (arith, b), omega (arith, c))

after_hand : (t : ℕ) (q : Party) (n : Then) → (hand_move t (finish q n) + 0 ≡ hand_then t n + 0) × (run_move t (finish q n) ≡ 0 + (0 + 0))
after_hand t q n = let a : (hand_move t (finish q n) ≡ hand_then t n) × (run_move t (finish q n) ≡ 0) = finish_hand t q n in let b : hand_move t (finish q n) ≡ hand_then t n = a.0 in let c : run_move t (finish q n) ≡ 0 = a.1 in (omega (arith, b), omega (arith, c))

-- over the whole table: what a party has in hand after an act is what it had, with what it took, less what it gave
pub table : (h : Shape) (s : PoolShape) (q : Party) (c : Counts) (m : Part) (t : ℕ) (x : Place) → IfSome (effect (act_of q x) h q c m) (λ r. (hand_move t (next_of s q x (r.0)) + given t x) ≡ (hand t x + got t (r.0)))
table h s (Worker a b) c m t (ProbeWorking k) = search (rules, arith)
table h s (Worker a b) c m t (SetLatch k) = set_sees (λ e. hand_move t (next_of s (Worker a b) (SetLatch k) e) + 0 ≡ hand t (SetLatch k) + got t e) k.latch m (letter k.latch m) (λ e none. let both : (hand_move t (next_of s (Worker a b) (SetLatch k) e) ≡ hand_then t k.then) × (run_move t (next_of s (Worker a b) (SetLatch k) e) ≡ 0) = set_hand t s (Worker a b) k e in let b : hand_move t (next_of s (Worker a b) (SetLatch k) e) ≡ hand_then t k.then = both.0 in let z : got t e ≡ 0 = (none t).0 in omega (arith, b, z))
table h s (Worker a b) c m t (UnlockSettled k) = if_cond (λ r. hand_move t (next_of s (Worker a b) (UnlockSettled k) (r.0)) + 0 ≡ hand t (UnlockSettled k) + got t (r.0)) (is_held_by (Worker a b) m.seat.lock) _ (λ z. let both : (hand_move t (after_set s (Worker a b) k k.latch) ≡ hand_then t k.then) × (run_move t (after_set s (Worker a b) k k.latch) ≡ 0) = settled_hand t s (Worker a b) k k.latch in let b : hand_move t (after_set s (Worker a b) k k.latch) ≡ hand_then t k.then = both.0 in omega (arith, b))
table h s (Worker a b) c m t (BeginTask (Plain u)) = search (rules, arith)
table h s (Worker a b) c m t (BeginTask (Token k i b8)) = out_sees (λ r. hand_move t (after_begin (Token k i b8) (r.0)) + 0 ≡ one (t == k) + got t (r.0)) (Worker a b) m b8 (omega arith) (λ u us e. omega arith)
table h s (Worker a b) c m t (LowerCount k u j) = (lower_hand t s (Worker a b) k u j (count_in m k == 1)).0
table h s (Worker a b) c m t (SetLockLatch i j) = (after_hand t (Worker a b) j).0
table h s (Worker a b) c m t _ = search (rules, arith)
table h s (Caller n) c m t (ProbeWorking k) = search (rules, arith)
table h s (Caller n) c m t (SetLatch k) = set_sees (λ e. hand_move t (next_of s (Caller n) (SetLatch k) e) + 0 ≡ hand t (SetLatch k) + got t e) k.latch m (letter k.latch m) (λ e none. let both : (hand_move t (next_of s (Caller n) (SetLatch k) e) ≡ hand_then t k.then) × (run_move t (next_of s (Caller n) (SetLatch k) e) ≡ 0) = set_hand t s (Caller n) k e in let b : hand_move t (next_of s (Caller n) (SetLatch k) e) ≡ hand_then t k.then = both.0 in let z : got t e ≡ 0 = (none t).0 in omega (arith, b, z))
table h s (Caller n) c m t (UnlockSettled k) = if_cond (λ r. hand_move t (next_of s (Caller n) (UnlockSettled k) (r.0)) + 0 ≡ hand t (UnlockSettled k) + got t (r.0)) (is_held_by (Caller n) m.seat.lock) _ (λ z. let both : (hand_move t (after_set s (Caller n) k k.latch) ≡ hand_then t k.then) × (run_move t (after_set s (Caller n) k k.latch) ≡ 0) = settled_hand t s (Caller n) k k.latch in let b : hand_move t (after_set s (Caller n) k k.latch) ≡ hand_then t k.then = both.0 in omega (arith, b))
table h s (Caller n) c m t (BeginTask (Plain u)) = search (rules, arith)
table h s (Caller n) c m t (BeginTask (Token k i b8)) = out_sees (λ r. hand_move t (after_begin (Token k i b8) (r.0)) + 0 ≡ one (t == k) + got t (r.0)) (Caller n) m b8 (omega arith) (λ u us e. omega arith)
table h s (Caller n) c m t (LowerCount k u j) = (lower_hand t s (Caller n) k u j (count_in m k == 1)).0
table h s (Caller n) c m t (SetLockLatch i j) = (after_hand t (Caller n) j).0
table h s (Caller n) c m t _ = search (rules, arith)

-- and what it runs is what it ran, with what it began, of what it had or for a token
pub run_table : (h : Shape) (s : PoolShape) (q : Party) (c : Counts) (m : Part) (t : ℕ) (x : Place) → IfSome (effect (act_of q x) h q c m) (λ r. run_move t (next_of s q x (r.0)) ≡ run_of t x + (starts t x + outs t (r.0)))
run_table h s (Worker a b) c m t (ProbeWorking k) = search (rules, arith)
run_table h s (Worker a b) c m t (SetLatch k) = set_sees (λ e. run_move t (next_of s (Worker a b) (SetLatch k) e) ≡ run_of t (SetLatch k) + (starts t (SetLatch k) + outs t e)) k.latch m (letter k.latch m) (λ e none. let both : (hand_move t (next_of s (Worker a b) (SetLatch k) e) ≡ hand_then t k.then) × (run_move t (next_of s (Worker a b) (SetLatch k) e) ≡ 0) = set_hand t s (Worker a b) k e in let b : run_move t (next_of s (Worker a b) (SetLatch k) e) ≡ 0 = both.1 in let z : outs t e ≡ 0 = (none t).1 in omega (arith, b, z))
run_table h s (Worker a b) c m t (UnlockSettled k) = if_cond (λ r. run_move t (next_of s (Worker a b) (UnlockSettled k) (r.0)) ≡ run_of t (UnlockSettled k) + (starts t (UnlockSettled k) + outs t (r.0))) (is_held_by (Worker a b) m.seat.lock) _ (λ z. let both : (hand_move t (after_set s (Worker a b) k k.latch) ≡ hand_then t k.then) × (run_move t (after_set s (Worker a b) k k.latch) ≡ 0) = settled_hand t s (Worker a b) k k.latch in let b : run_move t (after_set s (Worker a b) k k.latch) ≡ 0 = both.1 in omega (arith, b))
run_table h s (Worker a b) c m t (BeginTask (Plain u)) = search (rules, arith)
run_table h s (Worker a b) c m t (BeginTask (Token k i b8)) = out_sees (λ r. run_move t (after_begin (Token k i b8) (r.0)) ≡ 0 + (0 + outs t (r.0))) (Worker a b) m b8 (omega arith) (λ u us e. omega arith)
run_table h s (Worker a b) c m t (LowerCount k u j) = (lower_hand t s (Worker a b) k u j (count_in m k == 1)).1
run_table h s (Worker a b) c m t (SetLockLatch i j) = (after_hand t (Worker a b) j).1
run_table h s (Worker a b) c m t _ = search (rules, arith)
run_table h s (Caller n) c m t (ProbeWorking k) = search (rules, arith)
run_table h s (Caller n) c m t (SetLatch k) = set_sees (λ e. run_move t (next_of s (Caller n) (SetLatch k) e) ≡ run_of t (SetLatch k) + (starts t (SetLatch k) + outs t e)) k.latch m (letter k.latch m) (λ e none. let both : (hand_move t (next_of s (Caller n) (SetLatch k) e) ≡ hand_then t k.then) × (run_move t (next_of s (Caller n) (SetLatch k) e) ≡ 0) = set_hand t s (Caller n) k e in let b : run_move t (next_of s (Caller n) (SetLatch k) e) ≡ 0 = both.1 in let z : outs t e ≡ 0 = (none t).1 in omega (arith, b, z))
run_table h s (Caller n) c m t (UnlockSettled k) = if_cond (λ r. run_move t (next_of s (Caller n) (UnlockSettled k) (r.0)) ≡ run_of t (UnlockSettled k) + (starts t (UnlockSettled k) + outs t (r.0))) (is_held_by (Caller n) m.seat.lock) _ (λ z. let both : (hand_move t (after_set s (Caller n) k k.latch) ≡ hand_then t k.then) × (run_move t (after_set s (Caller n) k k.latch) ≡ 0) = settled_hand t s (Caller n) k k.latch in let b : run_move t (after_set s (Caller n) k k.latch) ≡ 0 = both.1 in omega (arith, b))
run_table h s (Caller n) c m t (BeginTask (Plain u)) = search (rules, arith)
run_table h s (Caller n) c m t (BeginTask (Token k i b8)) = out_sees (λ r. run_move t (after_begin (Token k i b8) (r.0)) ≡ 0 + (0 + outs t (r.0))) (Caller n) m b8 (omega arith) (λ u us e. omega arith)
run_table h s (Caller n) c m t (LowerCount k u j) = (lower_hand t s (Caller n) k u j (count_in m k == 1)).1
run_table h s (Caller n) c m t (SetLockLatch i j) = (after_hand t (Caller n) j).1
run_table h s (Caller n) c m t _ = search (rules, arith)
