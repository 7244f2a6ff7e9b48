use Rattle.std.specs.Prelude.{ℕ, ℤ, pos, negsuc, List, [], ◌∷◌, map, Bool, true, false}
use Rattle.std.specs.List.{range_with_len}
use Rattle.spawn_orders.specs.declared.order.Order.{Order}
use Rattle.spawn_orders.specs.declared.order.Order.TheVariants.{Lifo, Fifo, LifoFifo, FifoLifo, Breadth, ScopeLifo, ScopeFifo, MixedLifoFifo, MixedFifoLifo}
use Rattle.spawn_orders.specs.declared.spawned.Work.{Work}
use Rattle.spawn_orders.specs.declared.spawned.Work.TheVariants.{Tens, Ten, Mixed, Scope, ScopeTen, Leaf}

-- -3 to 3
abbrev pub around_zero : List ℤ
around_zero = negsuc 2 ∷ negsuc 1 ∷ negsuc 0 ∷ map pos (range_with_len 0 4)

-- the numbers that the jobs of an order put into its list, ascending: 0 to 99, or -3 to 3
abbrev pub numbers_of : Order → List ℤ
numbers_of MixedLifoFifo = around_zero
numbers_of MixedFifoLifo = around_zero
numbers_of _ = map pos (range_with_len 0 100)

-- whether the worker takes its oldest job first
abbrev pub takes_oldest : Order → Bool
takes_oldest Breadth = true
takes_oldest _ = false

-- how many numbers a job, with the jobs below it, puts into the list
abbrev pub leaves_of : Work → ℕ
leaves_of (Tens outer inner) = 100
leaves_of (Ten ten call) = 10
leaves_of (Mixed below others) = 7
leaves_of (Scope call) = 100
leaves_of (ScopeTen ten call) = 10
leaves_of (Leaf number) = 1

-- how many jobs it spawns itself
abbrev pub children_of : Work → ℕ
children_of (Tens outer inner) = 10
children_of (Ten ten call) = 10
children_of (Mixed below others) = 7
children_of (Scope call) = 10
children_of (ScopeTen ten call) = 10
children_of (Leaf number) = 0
