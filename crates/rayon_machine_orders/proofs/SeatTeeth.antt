-- wrong machines of sleep: replays, computed by the kernel, in which a worker's sets, its latch or a lock are not as
-- the places say
use Rattle.std.proofs.Common.{refl}
use Rattle.rayon_machine_orders.proofs.Words.{ℕ, Bool, true, false, Some, None, List, [], ◌∷◌, ◌++◌, ◌≡◌, IfSome, min, Terminate, Party, Caller, Place, PopInjected, LeaveSearch, Stopped, Move, Stay, Act, SubInactive, Lock, PushOwn, Seen, Done, Wakes, Event, Go, Spawn, Fifo, PoolShape, Unset}
use Rattle.rayon_machine_orders.proofs.Words.{IsSleepy, InDeque, act_of, next_of, own_pool, own_index, Shape, World, Counts, Part, Outcome, at_job, effect, left_book}
use Rattle.rayon_machine_places.specs.declared.act.Act.TheVariants.{Sleepy, Unlock}
use Rattle.rayon_machine_places.specs.declared.act.Seen.TheVariants.{Missing}
use Rattle.rayon_machine_runs.specs.World.{is_held_by}
use Rattle.rayon_machine_laws.specs.Seats.{inactive_at}
use Rattle.rayon_machine_laws.specs.Letters.{letter_for}
use Rattle.rayon_machine_laws.specs.Holders.{feeds_list, locks_at, others_hold}
use Rattle.rayon_machine_orders.proofs.WrongMachines.{doing, leading, run_by, times_go, two, a, c, right}

abbrev d : Party
d = Caller 1

-- a caller spawns a job, and a worker finds it and begins it
abbrev first_job : List Event
first_job = Spawn c 0 ∷ times_go c 4 ++ times_go a 12

-- a worker that leaves its search stays counted as inactive
abbrev stays_inactive : Act → Shape → Party → Counts → Part → Outcome
stays_inactive SubInactive h q n m = Some (Wakes (min 2 n.sleeping), m)
stays_inactive act h q n m = effect act h q n m

-- the worker runs the job, and counts as looking
record Counted (w : World) : Type 0 where
  inactive : (w.seat 0 0).inactive ≡ true
  place : inactive_at (w.stack a).top ≡ false

busy_worker_is_inactive : IfSome (run_by (doing stays_inactive) (two 32) first_job) Counted
busy_worker_is_inactive = record { inactive = refl; place = refl }

-- in the machine as it is the worker does not
busy_worker_is_not : IfSome (run_by right (two 32) first_job) (λ w. ((w.seat 0 0).inactive ≡ false) × (inactive_at (w.stack a).top ≡ false))
busy_worker_is_not = (refl, refl)

-- a search that finds nothing leads out of the wait
abbrev gives_up : PoolShape → Party → Place → Seen → Move
gives_up h q (PopInjected k) Missing = Stay (LeaveSearch (record k { found = None }))
gives_up h q x e = next_of h q x e

-- the worker has stopped, and its terminate latch is unset
record StopsUnset (w : World) : Type 0 where
  place : (w.stack a).top ≡ Stopped
  latch : (w.seat 0 0).latch ≡ Unset

worker_stops_when_idle : IfSome (run_by (leading gives_up) (two 32) (times_go a 11)) StopsUnset
worker_stops_when_idle = record { place = refl {a = Stopped}; latch = refl {a = Unset} }

-- in the machine as it is it searches once more
worker_searches_on : IfSome (run_by right (two 32) (times_go a 11)) (λ w. inactive_at (w.stack a).top ≡ true)
worker_searches_on = refl

-- a worker does not make its latch sleepy
abbrev gets_not_sleepy : Act → Shape → Party → Counts → Part → Outcome
gets_not_sleepy (Sleepy l) h q n m = Some (Done, m)
gets_not_sleepy act h q n m = effect act h q n m

-- it is about to fall asleep, and its latch says nothing of it
record Unsaid (w : World) : Type 0 where
  place : letter_for Terminate (w.stack a).top ≡ IsSleepy
  latch : (w.seat 0 0).latch ≡ Unset

latch_is_left_unset : IfSome (run_by (doing gets_not_sleepy) (two 32) (times_go a 18)) Unsaid
latch_is_left_unset = record { place = refl {a = IsSleepy}; latch = refl {a = Unset} }

-- in the machine as it is the latch says so
latch_is_sleepy : IfSome (run_by right (two 32) (times_go a 18)) (λ w. (letter_for Terminate (w.stack a).top ≡ IsSleepy) × ((w.seat 0 0).latch ≡ IsSleepy))
latch_is_sleepy = (refl {a = IsSleepy}, refl {a = IsSleepy})

-- an Unlock leaves the lock with its party
abbrev keeps_lock : Act → Shape → Party → Counts → Part → Outcome
keeps_lock (Unlock p i) h q n m = Some (Done, m)
keeps_lock act h q n m = effect act h q n m

-- a caller wakes the worker that is blocked, and leaves its lock
abbrev waking : List Event
waking = times_go a 25 ++ Spawn c 0 ∷ times_go c 7

-- it is done, and holds the lock
record HoldsOn (w : World) : Type 0 where
  holder : is_held_by c (w.seat 0 0).lock ≡ true
  place : locks_at c (w.stack c).top 0 0 ≡ false

waker_keeps_the_lock : IfSome (run_by (doing keeps_lock) (two 32) waking) HoldsOn
waker_keeps_the_lock = record { holder = refl; place = refl }

-- in the machine as it is it does not
waker_leaves_the_lock : IfSome (run_by right (two 32) waking) (λ w. (is_held_by c (w.seat 0 0).lock ≡ false) × (locks_at c (w.stack c).top 0 0 ≡ false))
waker_leaves_the_lock = (refl, refl)

-- a push leaves its worker's FIFO list held
abbrev keeps_list : Act → Shape → Party → Counts → Part → Outcome
keeps_list (PushOwn t b) h q n m = Some (Done, record m { seat = record (m.seat) { own = m.seat.own ++ t ∷ [] }; call = record (m.call) { writer = left_book q b m.call.writer }; job = at_job (m.job) (InDeque (own_pool q) (own_index q)) })
keeps_list act h q n m = effect act h q n m

-- a job spawns one in order, up to the push of its token
abbrev in_order : List Event
in_order = first_job ++ Fifo a 0 ∷ times_go a 4

record FeedsOn (w : World) : Type 0 where
  holder : is_held_by a ((w.seat 0 0).feeder None) ≡ true
  place : feeds_list None (w.stack a).top ≡ false

push_keeps_the_list : IfSome (run_by (doing keeps_list) (two 32) in_order) FeedsOn
push_keeps_the_list = record { holder = refl; place = refl }

push_leaves_the_list : IfSome (run_by right (two 32) in_order) (λ w. (is_held_by a ((w.seat 0 0).feeder None) ≡ false) × (feeds_list None (w.stack a).top ≡ false))
push_leaves_the_list = (refl, refl)

-- a Lock takes a lock that another party holds
abbrev takes_held : Act → Shape → Party → Counts → Part → Outcome
takes_held (Lock p i) h q n m = Some (Done, record m { seat = record (m.seat) { lock = Some q } })
takes_held act h q n m = effect act h q n m

-- two callers are to wake the worker, and the first has taken its lock
abbrev two_wakers : List Event
two_wakers = times_go a 25 ++ Spawn c 0 ∷ times_go c 5 ++ Spawn d 0 ∷ times_go d 4

-- the second is to take it too
lock_is_held : IfSome (run_by (doing takes_held) (two 32) two_wakers) (λ w. others_hold w d (act_of d (w.stack d).top) ≡ true)
lock_is_held = refl

-- and does; then the first stands where it holds the lock, and does not
record Robbed (w : World) : Type 0 where
  holder : is_held_by c (w.seat 0 0).lock ≡ false
  place : locks_at c (w.stack c).top 0 0 ≡ true

held_lock_is_taken : IfSome (run_by (doing takes_held) (two 32) (two_wakers ++ Go d ∷ [])) Robbed
held_lock_is_taken = record { holder = refl; place = refl }

-- in the machine as it is the second waits
held_lock_is_left : run_by right (two 32) (two_wakers ++ Go d ∷ []) ≡ None
held_lock_is_left = refl
