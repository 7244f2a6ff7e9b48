-- wrong machines of looks and numbers: replays, computed by the kernel, in which a steal misses that cannot, a push is
-- not told or told wrong, or the pieces of a broadcast have their numbers the other way round
use Rattle.std.proofs.Common.{arith, refl, sym, ◌∙◌, ap}
use Rattle.rayon_machine_orders.proofs.Words.{ℕ, Bool, true, false, ◌-◌, Option, Some, None, List, [], ◌∷◌, ◌++◌, ◌≡◌, IfSome, Party, Worker, OfCast, Pieces, Fork, RunFirst, Place, GrowCall, LookQueue, PushJob, StealFrom, Move, Stay, Act, Idle, News, PushCast, PushInj, PushOwn, Steal, Seen}
use Rattle.rayon_machine_orders.proofs.Words.{Done, Event, Go, Miss, Spawn, Join, Broadcast, IsOpen, PoolShape, finish, act_of, next_of, Stack, World, put_pieces, step, MissesOne, is_look, flag_of, queue_of, TellsSo, is_empty, pool_of, DealtFrom}
use Rattle.rayon_machine_places.specs.declared.act.Seen.TheVariants.{Missing}
use Rattle.rayon_machine_runs.specs.Steps.{seeing}
use Rattle.rayon_machine_orders.specs.Looks.{HasLooked}
use Rattle.rayon_machine_orders.proofs.WrongMachines.{Machine, leading, making, right, run_by, step_by, times_go, two, a, b, c}
use Rattle.rayon_machine_orders.proofs.CallTeeth.{running}
use Rattle.rayon_machine_orders.proofs.ListTeeth.{stolen_run}

-- a steal may miss whatever stands in the deque
abbrev any_miss : World → Party → Stack → Place → Option World
any_miss w (Worker p i) s (StealFrom k n) = Some (seeing w (Worker p i) s p Missing)
any_miss w q s _ = None

abbrev misses_any : World → Event → Option World
misses_any w (Miss q) = any_miss w q (w.stack q) (w.stack q).top
misses_any w e = step w e

-- the clause is broken: two tasks stand in the deque that a thief misses
record MissesTwo (w : World) : Type 0 where
  act : act_of a (w.stack a).top ≡ Steal 0 1
  deque : (w.seat 0 1).own ≡ 1 ∷ 2 ∷ []
  enabled : IfSome (step_by (making misses_any) w (Miss a)) (λ v. v.jobs ≡ 3)

steal_misses_one_of_two : IfSome (run_by (making misses_any) (two 32) stolen_run) MissesTwo
steal_misses_one_of_two = record { act = refl; deque = refl; enabled = refl }

not_missed : (w : World) → MissesTwo w → MissesOne w a → ⊥
not_missed w m o = let v : Steal 0 o.victim ≡ Steal 0 1 = sym o.act ∙ m.act in let i : o.victim ≡ 1 = cc in
    let d : 1 ∷ 2 ∷ [] ≡ o.task ∷ [] = sym m.deque ∙ ap (λ k. (w.seat 0 k).own) (sym i) ∙ o.deque in cc

-- in the machine as it is no steal misses there
steal_misses_none_of_two : IfSome (run_by right (two 32) stolen_run) (λ w. step_by right w (Miss a) ≡ None)
steal_misses_none_of_two = refl

-- a join begins its first side once its second is pushed, and tells nobody
abbrev untold : PoolShape → Party → Place → Seen → Move
untold h q (PushJob (Fork o t) v) Done = finish q (RunFirst o t)
untold h q x e = next_of h q x e

-- a run joins, and is to push its second side
abbrev join_run : List Event
join_run = running ++ Join b ∷ times_go b 3

-- what a push that found its queue empty leads to
record Pushes (m : Machine) (act : Act) (w : World) : Type 0 where
  push : act_of b (w.stack b).top ≡ PushOwn 2 None
  flag : flag_of (w.stack b).top ≡ Some true
  after : IfSome (step_by m w (Go b)) (λ v. act_of b (v.stack b).top ≡ act)

-- the clause is broken: no news follows
join_tells_nobody : IfSome (run_by (leading untold) (two 32) join_run) (Pushes (leading untold) Idle)
join_tells_nobody = record { push = refl; flag = refl; after = refl }

not_told : (w v : World) → flag_of (w.stack b).top ≡ Some true → act_of b (v.stack b).top ≡ Idle → TellsSo w b v → ⊥
not_told w v f i t = let k : Idle ≡ News (pool_of b (act_of b (w.stack b).top)) true = sym i ∙ t.tells true f in cc

-- in the machine as it is it does
join_tells : IfSome (run_by right (two 32) join_run) (Pushes right (News 0 true))
join_tells = record { push = refl; flag = refl; after = refl }

-- who has looked takes each queue for an empty one
abbrev takes_for_empty : PoolShape → Party → Place → Seen → Move
takes_for_empty h q (LookQueue n) e = Stay (PushJob n true)
takes_for_empty h q x e = next_of h q x e

-- a caller is to look at the injector, where its first job stands
abbrev second_look : List Event
second_look = Spawn c 0 ∷ times_go c 4 ++ Spawn c 0 ∷ times_go c 1

-- whether the caller comes to its push with the queue for an empty one
record Looks (m : Machine) (empty : Bool) (w : World) : Type 0 where
  look : is_look (w.stack c).top ≡ true
  queue : (w.pool 0).injector ≡ 0 ∷ []
  after : IfSome (step_by m w (Go c)) (λ v. (act_of c (v.stack c).top ≡ PushInj 0 1 None) × (flag_of (v.stack c).top ≡ Some empty))

-- the clause is broken: it does
full_queue_is_taken_for_empty : IfSome (run_by (leading takes_for_empty) (two 32) second_look) (Looks (leading takes_for_empty) true)
full_queue_is_taken_for_empty = record { look = refl; queue = refl; after = (refl, refl) }

not_looked : (w v : World) → (w.pool 0).injector ≡ 0 ∷ [] → act_of c (v.stack c).top ≡ PushInj 0 1 None → flag_of (v.stack c).top ≡ Some true → HasLooked w c v → ⊥
not_looked w v q p f h = let i : Some (w.pool 0).injector ≡ Some h.queue = sym (ap (queue_of w c) p) ∙ h.goes in
    let j : h.queue ≡ 0 ∷ [] = (let k : (w.pool 0).injector ≡ h.queue = cc in sym k ∙ q) in
    let n : Some true ≡ Some false = sym f ∙ h.flag ∙ ap (λ l. Some (is_empty l)) j in cc

-- in the machine as it is it does not
full_queue_is_full : IfSome (run_by right (two 32) second_look) (Looks right false)
full_queue_is_full = record { look = refl; queue = refl; after = (refl, refl) }

-- a join comes to its push without a look
abbrev unlooked : PoolShape → Party → Place → Seen → Move
unlooked h q (GrowCall (Fork o t)) Done = Stay (PushJob (Fork o t) true)
unlooked h q x e = next_of h q x e

-- the flag that the party of a join has next, where it does not look
record Grows (m : Machine) (flag : Option Bool) (w : World) : Type 0 where
  look : is_look (w.stack b).top ≡ false
  after : IfSome (step_by m w (Go b)) (λ v. flag_of (v.stack b).top ≡ flag)

-- the clause is broken: it takes the queue for empty, and has not looked
join_pushes_unlooked : IfSome (run_by (leading unlooked) (two 32) (running ++ Join b ∷ times_go b 1)) (Grows (leading unlooked) (Some true))
join_pushes_unlooked = record { look = refl; after = refl }

not_come : (w v : World) → is_look (w.stack b).top ≡ false → flag_of (v.stack b).top ≡ Some true → TellsSo w b v → ⊥
not_come w v l f t = let n : true ≡ false = sym (t.comes true f) ∙ l in cc

-- in the machine as it is it looks first
join_looks : IfSome (run_by right (two 32) (running ++ Join b ∷ times_go b 1)) (Grows right None)
join_looks = record { look = refl; after = refl }

-- the pieces of a broadcast that waits get their numbers the other way round
abbrev numbered_back : Act → Option World → Option World
numbered_back (PushCast k) (Some v) = Some (record v { job = put_pieces k (λ i j. record j { slot = IsOpen (k.workers - 1 - i) }) v.job })
numbered_back _ o = o

-- a caller broadcasts and waits, and is to deal its pieces
abbrev deal_run : List Event
deal_run = Broadcast c 0 ∷ times_go c 2

abbrev dealt : Pieces
dealt = record { count = OfCast 0 c; pool = 0; first = 0; workers = 2 }

record Numbers (x y : ℕ) (v : World) : Type 0 where
  first : (v.job 0).slot ≡ IsOpen x
  second : (v.job 1).slot ≡ IsOpen y

-- the clause is broken: the first piece has number 1
pieces_are_numbered_back : IfSome (run_by right (two 32) deal_run) (λ w. (act_of c (w.stack c).top ≡ PushCast dealt) × IfSome (numbered_back (act_of c (w.stack c).top) (step w (Go c))) (Numbers 1 0))
pieces_are_numbered_back = (refl, record { first = refl; second = refl })

not_numbered : (v : World) → Numbers 1 0 v → DealtFrom v dealt dealt.count → ⊥
not_numbered v n d = let i : IsOpen 1 ≡ IsOpen 0 = sym n.first ∙ d 0 (omega arith) in cc

-- in the machine as it is it has number 0
pieces_are_numbered : IfSome (run_by right (two 32) deal_run) (λ w. IfSome (step w (Go c)) (Numbers 0 1))
pieces_are_numbered = record { first = refl; second = refl }
