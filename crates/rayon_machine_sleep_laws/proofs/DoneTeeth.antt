-- wrong machines of completions: replays, computed by the kernel, in which a changed table breaks a clause of law_done:
-- the latch is not set, and none of the parties that ever moved comes to set it
use Rattle.std.proofs.Common.{refl}
use Rattle.rayon_machine_sleep_laws.proofs.Words.{Bool, true, false, ◌||◌, List, [], ◌∷◌, ◌++◌, ◌≡◌, IfSome, Party, Fine, Stored, OfCall, OfPool, OfScope, OfCast, Place, LowerCount, LowerForAll, StoreResult, SetLatch, Move, Back, HandAllBack, Seen, No, Yes, Event, Go, Refuse, End, Cast, Install}
use Rattle.rayon_machine_sleep_laws.proofs.Words.{OpenScope, Broadcast, EndPool, Unset, Over, PoolShape, act_of, finish, next_of, settle, World, sets, comes_to, stores_for, lowers_for}
use Rattle.rayon_machine_sleep_laws.proofs.Machines.{right, leading, run_by, times_go, pool_of, a, c, d}

-- whether a party's next act sets the latch of call 0, stores how its job ended, or gives that job's share back
abbrev setting : World → Party → Bool
setting w q = sets 0 0 (OfCall 0) (act_of q (w.stack q).top)

abbrev storing : World → Party → Bool
storing w q = stores_for 0 (act_of q (w.stack q).top)

abbrev lowering : World → Party → Bool
lowering w q = lowers_for 0 (act_of q (w.stack q).top)

-- the end of an install's job sets no latch
abbrev stores_and_goes : PoolShape → Party → Place → Seen → Move
stores_and_goes h q (StoreResult n o e) s = Back
stores_and_goes h q x s = next_of h q x s

-- a caller installs a job, a worker runs it, and stores how it ended
abbrev installed : List Event
installed = Install c 0 ∷ times_go c 5 ++ times_go a 10 ++ End a Fine ∷ Go a ∷ []

-- the job is over, and of the caller and the worker nobody comes to set the call's latch, stores, or gives the share back
record IsLost (w : World) : Type 0 where
  kind : (w.job 0).kind ≡ Stored 0 c
  at : (w.job 0).at ≡ Over Fine
  counted : (w.job 0).counted ≡ true
  latch : (w.call 0).latch ≡ Unset
  sets : (setting w a || setting w c) ≡ false
  stores : (storing w a || storing w c) ≡ false
  lowers : lowering w c ≡ false

-- the clause of jobs is broken
install_sets_no_latch : IfSome (run_by (leading stores_and_goes) (pool_of 1) installed) IsLost
install_sets_no_latch = record { kind = refl; at = refl; counted = refl; latch = refl {a = Unset}; sets = refl; stores = refl; lowers = refl }

-- the machine as it is goes the same way, and the worker's next act sets the latch
install_sets_its_latch : IfSome (run_by right (pool_of 1) installed) (λ w. ((w.job 0).at ≡ Over Fine) × (setting w a ≡ true))
install_sets_its_latch = (refl, refl)

-- the last Lower of a scope sets no latch
abbrev scope_ends_silently : PoolShape → Party → Place → Seen → Move
scope_ends_silently h q (LowerCount (OfScope n o) s t) e = finish q t
scope_ends_silently h q x e = next_of h q x e

abbrev scoped : List Event
scoped = OpenScope c 0 ∷ times_go c 2 ++ End c Fine ∷ times_go c 2

-- the clause of scopes is broken: the count is 0, and its caller, which alone has moved, does not come to set the latch
scope_sets_no_latch : IfSome (run_by (leading scope_ends_silently) (pool_of 1) scoped) (λ w. ((w.call 0).count ≡ 0) × ((w.call 0).latch ≡ Unset) × (setting w c ≡ false))
scope_sets_no_latch = (refl, refl {a = Unset}, refl)

scope_sets_its_latch : IfSome (run_by right (pool_of 1) scoped) (λ w. ((w.call 0).count ≡ 0) × (setting w c ≡ true))
scope_sets_its_latch = (refl, refl)

-- the last Lower of a broadcast that waits sets none
abbrev cast_ends_silently : PoolShape → Party → Place → Seen → Move
cast_ends_silently h q (LowerCount (OfCast n o) s t) e = finish q t
cast_ends_silently h q x e = next_of h q x e

-- a caller broadcasts and waits, and the one worker runs its piece
abbrev gathered : List Event
gathered = Broadcast c 0 ∷ times_go c 6 ++ times_go a 4 ++ End a Fine ∷ times_go a 2

-- the clause of scopes is broken so, too
broadcast_sets_no_latch : IfSome (run_by (leading cast_ends_silently) (pool_of 1) gathered) (λ w. ((w.call 0).count ≡ 0) × ((w.call 0).latch ≡ Unset) × ((setting w a || setting w c) ≡ false))
broadcast_sets_no_latch = (refl {a = 0}, refl {a = Unset}, refl {a = false})

broadcast_sets_its_latch : IfSome (run_by right (pool_of 1) gathered) (λ w. ((w.call 0).count ≡ 0) × (setting w a ≡ true))
broadcast_sets_its_latch = (refl {a = 0}, refl {a = true})

-- the last Lower of a pool sets no terminate latch
abbrev pool_ends_silently : PoolShape → Party → Place → Seen → Move
pool_ends_silently h q (LowerCount (OfPool p) s t) e = finish q t
pool_ends_silently h q x e = next_of h q x e

-- the clause of pools is broken: the count is 0, and who gave the value up, and alone has moved, sets nothing
pool_sets_no_latch : IfSome (run_by (leading pool_ends_silently) (pool_of 2) (EndPool c 0 ∷ Go c ∷ [])) (λ w. ((w.pool 0).count ≡ 0) × ((w.seat 0 0).latch ≡ Unset) × (comes_to 0 0 (w.stack c).top ≡ false))
pool_sets_no_latch = (refl, refl {a = Unset}, refl)

pool_sets_its_latches : IfSome (run_by right (pool_of 2) (EndPool c 0 ∷ Go c ∷ [])) (λ w. ((w.pool 0).count ≡ 0) × (comes_to 0 0 (w.stack c).top ≡ true) × (comes_to 0 1 (w.stack c).top ≡ true))
pool_sets_its_latches = (refl, refl, refl)

-- who sets the terminate latches stops after the first
abbrev sets_the_first : PoolShape → Party → Place → Seen → Move
sets_the_first h q (SetLatch s) No = finish q s.then
sets_the_first h q x e = next_of h q x e

-- the clause of pools is broken: nobody comes to set the second worker's
pool_sets_first_latch_alone : IfSome (run_by (leading sets_the_first) (pool_of 2) (EndPool c 0 ∷ times_go c 2)) (λ w. ((w.pool 0).count ≡ 0) × ((w.seat 0 1).latch ≡ Unset) × (comes_to 0 1 (w.stack c).top ≡ false))
pool_sets_first_latch_alone = (refl, refl {a = Unset}, refl)

pool_sets_second_latch : IfSome (run_by right (pool_of 2) (EndPool c 0 ∷ times_go c 2)) (λ w. ((w.pool 0).count ≡ 0) × (comes_to 0 1 (w.stack c).top ≡ true))
pool_sets_second_latch = (refl, refl)

-- who sets the terminate latches begins at the second worker's
abbrev leaves_out_the_first : PoolShape → Party → Place → Seen → Move
leaves_out_the_first h q (LowerCount (OfPool p) s t) Yes = settle h q p 1 t
leaves_out_the_first h q x e = next_of h q x e

-- the clause of pools is broken: nobody comes to set the first worker's
pool_leaves_out_first_latch : IfSome (run_by (leading leaves_out_the_first) (pool_of 2) (EndPool c 0 ∷ Go c ∷ [])) (λ w. ((w.pool 0).count ≡ 0) × ((w.seat 0 0).latch ≡ Unset) × (comes_to 0 0 (w.stack c).top ≡ false))
pool_leaves_out_first_latch = (refl, refl {a = Unset}, refl)

-- a refused broadcast that gives back the last shares sets none
abbrev refusal_ends_silently : PoolShape → Party → Place → Seen → Move
refusal_ends_silently h q (LowerForAll b) e = HandAllBack b
refusal_ends_silently h q x e = next_of h q x e

-- one caller broadcasts, another gives the pool's value up, and the push is refused
abbrev refused : List Event
refused = Cast d 0 ∷ Go d ∷ EndPool c 0 ∷ Go c ∷ Refuse d ∷ Go d ∷ []

-- the clause of pools is broken so, too
refused_broadcast_sets_no_latch : IfSome (run_by (leading refusal_ends_silently) (pool_of 1) refused) (λ w. ((w.pool 0).count ≡ 0) × ((w.seat 0 0).latch ≡ Unset) × ((comes_to 0 0 (w.stack c).top || comes_to 0 0 (w.stack d).top) ≡ false))
refused_broadcast_sets_no_latch = (refl, refl {a = Unset}, refl)

refused_broadcast_sets_its_latch : IfSome (run_by right (pool_of 1) refused) (λ w. ((w.pool 0).count ≡ 0) × (comes_to 0 0 (w.stack d).top ≡ true))
refused_broadcast_sets_its_latch = (refl, refl)
