-- runs of one worker, computed by the kernel: the order of its jobs
use Rattle.std.proofs.Common.{refl, inl, inr}
use Rattle.rayon_machine_orders.proofs.Words.{ℕ, zero, suc, false, Option, Some, None, List, [], ◌∷◌, ◌++◌, ◌≡◌, Order, NewestFirst, OldestFirst, Party, Worker, Caller, Fine, Event, Go, Refuse, End, Spawn, Fifo, YieldLocal, start, World, Happening, Adds, Queues, Retakes, Begins, Redeems}
use Rattle.rayon_machine_orders.proofs.Words.{happenings, begun_in, in_line, NoTree, Tree, IsWalk, TokenList}
use Rattle.rayon_machine_orders.specs.Order.{walk}

abbrev gos : Party → ℕ → List Event
gos q zero = []
gos q (suc n) = Go q ∷ gos q n

-- the worker, a second one in a pool of two, and an outside caller
abbrev a : Party
a = Worker 0 0

abbrev b : Party
b = Worker 0 1

abbrev c : Party
c = Caller 0

-- one worker, in a pool of either order
abbrev alone : Order → Option World
alone o = Some (start (record { pool = λ p. record { workers = 1; limit = 0; order = o; callers_own = false }; callers = 16; jec_bits = 32 }))

-- the worker spawns a job at its own pool
abbrev spawns : List Event
spawns = Spawn a 0 ∷ gos a 4

-- its run ends, and it begins the next job of its deque
abbrev ends : List Event
ends = End a Fine ∷ gos a 4

-- a caller's job 0 spawns 1, tries to spawn one more, which is refused, and spawns 3. Each of the next two spawns two
-- more; meanwhile the caller spawns job 4
abbrev tree_run : List Event
tree_run = Spawn c 0 ∷ gos c 4 ++ gos a 10 ++ spawns ++ Spawn a 0 ∷ gos a 2 ++ Refuse a ∷ Go a ∷ spawns ++ Spawn c 0 ∷ gos c 4 ++ ends ++ spawns ++ spawns ++ ends ++ spawns ++ spawns ++ ends ++ ends ++ ends ++ ends ++ End a Fine ∷ gos a 11

-- the newest first: a job comes before its children, the later child with all below it first
newest : happenings 0 (alone NewestFirst) tree_run ≡ Begins 0 ∷ Adds (Some 0) 1 ∷ Adds (Some 0) 3 ∷ Begins 3 ∷ Adds (Some 3) 5 ∷ Adds (Some 3) 6 ∷ Begins 6 ∷ Adds (Some 6) 7 ∷ Adds (Some 6) 8 ∷ Begins 8 ∷ Begins 7 ∷ Begins 5 ∷ Begins 1 ∷ Begins 4 ∷ []
newest = refl

newest_walk : IsWalk NewestFirst [] (happenings 0 (alone NewestFirst) tree_run) []
newest_walk = record {
  standing = NoTree;
  arrived = Tree 0 (Tree 1 NoTree (Tree 3 (Tree 5 NoTree (Tree 6 (Tree 7 NoTree (Tree 8 NoTree NoTree)) NoTree)) NoTree)) (Tree 4 NoTree NoTree);
  top = refl;
  below = (tt, (refl, ((refl, (tt, (refl, ((refl, (tt, (refl, ((refl, (tt, (refl, (tt, tt)))), tt)))), tt)))), (refl, (tt, tt)))));
  order = refl;
}

-- the oldest first: level by level
oldest : happenings 0 (alone OldestFirst) tree_run ≡ Begins 0 ∷ Adds (Some 0) 1 ∷ Adds (Some 0) 3 ∷ Begins 1 ∷ Adds (Some 1) 5 ∷ Adds (Some 1) 6 ∷ Begins 3 ∷ Adds (Some 3) 7 ∷ Adds (Some 3) 8 ∷ Begins 5 ∷ Begins 6 ∷ Begins 7 ∷ Begins 8 ∷ Begins 4 ∷ []
oldest = refl

oldest_walk : IsWalk OldestFirst [] (happenings 0 (alone OldestFirst) tree_run) []
oldest_walk = record {
  standing = NoTree;
  arrived = Tree 0 (Tree 1 (Tree 5 NoTree (Tree 6 NoTree NoTree)) (Tree 3 (Tree 7 NoTree (Tree 8 NoTree NoTree)) NoTree)) (Tree 4 NoTree NoTree);
  top = refl;
  below = (tt, (refl, ((refl, ((refl, (tt, (refl, (tt, tt)))), (refl, ((refl, (tt, (refl, (tt, tt)))), tt)))), (refl, (tt, tt)))));
  order = refl;
}

-- a stretch that is cut off: what is left comes as the deque would hand it out
cut_off : happenings 0 (alone NewestFirst) (Spawn c 0 ∷ gos c 4 ++ gos a 10 ++ spawns ++ spawns ++ ends) ≡ Begins 0 ∷ Adds (Some 0) 1 ∷ Adds (Some 0) 2 ∷ Begins 2 ∷ []
cut_off = refl

cut_walk : IsWalk NewestFirst [] (Begins 0 ∷ Adds (Some 0) 1 ∷ Adds (Some 0) 2 ∷ Begins 2 ∷ []) (1 ∷ [])
cut_walk = record { standing = NoTree; arrived = Tree 0 (Tree 1 NoTree (Tree 2 NoTree NoTree)) NoTree; top = refl; below = (tt, (refl, ((refl, (tt, (refl, (tt, tt)))), tt))); order = refl }

-- another order is no walk of these trees: the earlier child cannot come first
abbrev wrong_way : List Happening
wrong_way = Begins 0 ∷ Adds (Some 0) 1 ∷ Adds (Some 0) 2 ∷ Begins 1 ∷ Begins 2 ∷ []

wrong_walk : begun_in wrong_way ≡ walk NewestFirst (Tree 0 (Tree 1 NoTree (Tree 2 NoTree NoTree)) NoTree) → ⊥
wrong_walk e = cc

-- a run that yields locally begins the job that it has just spawned, and spawns one more: with other calls the order is
-- no walk
yielded : happenings 0 (alone NewestFirst) (Spawn c 0 ∷ gos c 4 ++ gos a 10 ++ spawns ++ YieldLocal a ∷ gos a 2 ++ End a Fine ∷ Go a ∷ spawns) ≡ Begins 0 ∷ Adds (Some 0) 1 ∷ Begins 1 ∷ Adds (Some 0) 2 ∷ []
yielded = refl

-- two workers, in a pool that is oldest first
abbrev beside_thief : Option World
beside_thief = Some (start (record { pool = λ p. record { workers = 2; limit = 0; order = OldestFirst; callers_own = false }; callers = 16; jec_bits = 32 }))

-- a thief takes the older of two jobs that a run has spawned, and the worker begins the other
abbrev after_theft : List Happening
after_theft = Begins 0 ∷ Adds (Some 0) 1 ∷ Adds (Some 0) 2 ∷ Begins 2 ∷ []

robbed : happenings 0 beside_thief (Spawn c 0 ∷ gos c 4 ++ gos a 12 ++ spawns ++ spawns ++ gos b 11 ++ ends) ≡ after_theft
robbed = refl

-- no token list hands the jobs out so
robbed_list : (left : List ℕ) (rest : Option ℕ → List ℕ) → TokenList OldestFirst [] (λ b. []) after_theft left rest → ⊥
robbed_list left rest (inl (m, h, more)) = cc
robbed_list left rest (inr (z, inl (m, h, more))) = cc
robbed_list left rest (inr (z, inr (y, more))) = cc

-- the worker spawns a job in order, and one whose token does not fit: it takes the job back
abbrev feeds : List Event
feeds = Fifo a 0 ∷ gos a 5

abbrev fails : List Event
fails = Fifo a 0 ∷ gos a 3 ++ Refuse a ∷ gos a 2

-- its run ends, and it redeems the next token of its deque
abbrev redeems : List Event
redeems = End a Fine ∷ gos a 4

-- a caller's job 0 spawns 1 in order, fails with 3, and spawns 5; each of these spawns one more
abbrev fifo_run : List Event
fifo_run = Spawn c 0 ∷ gos c 4 ++ gos a 10 ++ feeds ++ fails ++ feeds ++ redeems ++ feeds ++ redeems ++ feeds ++ redeems ++ redeems

-- the newest token comes first, and begins the oldest job
in_order : happenings 0 (alone NewestFirst) fifo_run ≡ Begins 0 ∷ Queues None (Some 0) 1 ∷ Adds (Some 0) 2 ∷ Queues None (Some 0) 3 ∷ Retakes None ∷ Queues None (Some 0) 5 ∷ Adds (Some 0) 6 ∷ Redeems 6 None (Some 1) ∷ Queues None (Some 1) 7 ∷ Adds (Some 1) 8 ∷ Redeems 8 None
    (Some 5) ∷ Queues None (Some 5) 9 ∷ Adds (Some 5) 10 ∷ Redeems 10 None (Some 7) ∷ Redeems 2 None (Some 9) ∷ []
in_order = refl

-- so the jobs begin level by level
level_walk : IsWalk OldestFirst [] (in_line None (happenings 0 (alone NewestFirst) fifo_run)) []
level_walk = record {
  standing = NoTree;
  arrived = Tree 0 (Tree 1 (Tree 7 NoTree NoTree) (Tree 5 (Tree 9 NoTree NoTree) NoTree)) NoTree;
  top = refl;
  below = (tt, (refl, ((refl, ((refl, (tt, tt)), (refl, ((refl, (tt, tt)), tt)))), tt)));
  order = refl;
}
