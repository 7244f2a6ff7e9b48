use Rattle.std.specs.Prelude.{◌≡◌, ℕ, ℤ, pos, ◌≤◌, ◌<◌, ◌^◌, List, [], ◌∷◌, ◌++◌, map, Option, Some, None, ⊤}
use Rattle.rayon_core.specs.Environment.{Says, Writes, workers_for}
use Rattle.std.specs.Fmt.{decimal}
use Rattle.std.specs.List.Sorted.{IsPermutation}
use Rattle.fibonacci.specs.Fib.{fib}
use Rattle.spawn_orders.specs.Orders.{numbers_of}
use Rattle.spawn_orders.specs.declared.order.Order.{Order}
use Rattle.spawn_orders.specs.declared.order.Order.TheVariants.{Lifo, Fifo, LifoFifo, FifoLifo, Breadth, ScopeLifo, ScopeFifo, MixedLifoFifo, MixedFifoLifo}
use Rattle.rcore_commands.specs.Lines.{spaced}
use Rattle.rcore_commands.specs.Squares.{squares}
use Rattle.rcore_commands.specs.declared.command.Command.{Command}
use Rattle.rcore_commands.specs.declared.command.Command.TheVariants.{Fib, Broadcast, Threads, Replay}

-- the bytes of the word fib
abbrev pub fib_word : List ℕ
fib_word = 102 ∷ 105 ∷ 98 ∷ []

-- the bytes of the word order
abbrev pub order_word : List ℕ
order_word = 111 ∷ 114 ∷ 100 ∷ 101 ∷ 114 ∷ []

-- the bytes of the word for an order: lifo, fifo, lifo-fifo, fifo-lifo, breadth, scope-lifo, scope-fifo,
-- mixed-lifo-fifo, mixed-fifo-lifo
abbrev pub kind_word : Order → List ℕ
kind_word Lifo = 108 ∷ 105 ∷ 102 ∷ 111 ∷ []
kind_word Fifo = 102 ∷ 105 ∷ 102 ∷ 111 ∷ []
kind_word LifoFifo = 108 ∷ 105 ∷ 102 ∷ 111 ∷ 45 ∷ 102 ∷ 105 ∷ 102 ∷ 111 ∷ []
kind_word FifoLifo = 102 ∷ 105 ∷ 102 ∷ 111 ∷ 45 ∷ 108 ∷ 105 ∷ 102 ∷ 111 ∷ []
kind_word Breadth = 98 ∷ 114 ∷ 101 ∷ 97 ∷ 100 ∷ 116 ∷ 104 ∷ []
kind_word ScopeLifo = 115 ∷ 99 ∷ 111 ∷ 112 ∷ 101 ∷ 45 ∷ 108 ∷ 105 ∷ 102 ∷ 111 ∷ []
kind_word ScopeFifo = 115 ∷ 99 ∷ 111 ∷ 112 ∷ 101 ∷ 45 ∷ 102 ∷ 105 ∷ 102 ∷ 111 ∷ []
kind_word MixedLifoFifo = 109 ∷ 105 ∷ 120 ∷ 101 ∷ 100 ∷ 45 ∷ 108 ∷ 105 ∷ 102 ∷ 111 ∷ 45 ∷ 102 ∷ 105 ∷ 102 ∷ 111 ∷ []
kind_word MixedFifoLifo = 109 ∷ 105 ∷ 120 ∷ 101 ∷ 100 ∷ 45 ∷ 102 ∷ 105 ∷ 102 ∷ 111 ∷ 45 ∷ 108 ∷ 105 ∷ 102 ∷ 111 ∷ []

-- the bytes of the word broadcast
abbrev pub broadcast_word : List ℕ
broadcast_word = 98 ∷ 114 ∷ 111 ∷ 97 ∷ 100 ∷ 99 ∷ 97 ∷ 115 ∷ 116 ∷ []

-- the bytes of the word replay
abbrev pub replay_word : List ℕ
replay_word = 114 ∷ 101 ∷ 112 ∷ 108 ∷ 97 ∷ 121 ∷ []

-- the bytes of the word threads
abbrev pub threads_word : List ℕ
threads_word = 116 ∷ 104 ∷ 114 ∷ 101 ∷ 97 ∷ 100 ∷ 115 ∷ []

-- so many workers, and the index of a Fibonacci number, that may be asked for
abbrev pub InRange : ℕ → ℕ → Type 0
InRange workers n = (1 ≤ workers) × (workers ≤ 64) × (n ≤ 30)

-- three words that ask for the n-th Fibonacci number on so many workers: fib and the two numbers, each within its range
abbrev pub AsksForFib : List (List ℕ) → ℕ → ℕ → Type 0
AsksForFib words workers n =
    (w v : List ℕ) × (words ≡ fib_word ∷ w ∷ v ∷ []) × Writes w workers × Writes v n × InRange workers n

-- two words that ask for the n-th Fibonacci number on as many workers as the surroundings say: fib and the number
abbrev pub AsksForFibHere : List (List ℕ) → ℕ → Type 0
AsksForFibHere words n = (v : List ℕ) × (words ≡ fib_word ∷ v ∷ []) × Writes v n × (n ≤ 30)

-- so many workers that may be asked for
abbrev pub AreWorkers : ℕ → Type 0
AreWorkers workers = (1 ≤ workers) × (workers ≤ 64)

-- two words that ask for a broadcast to so many workers: broadcast and the number, within its range
abbrev pub AsksForBroadcast : List (List ℕ) → ℕ → Type 0
AsksForBroadcast words workers =
    (w : List ℕ) × (words ≡ broadcast_word ∷ w ∷ []) × Writes w workers × AreWorkers workers

-- so many workers has a pool for which so many were asked, by the environment's two words and so many processors
abbrev pub Counts : ℕ → List ℕ → List ℕ → ℕ → ℕ → Type 0
Counts asked first second processors count =
    (a b : Option ℕ) × Says first a × Says second b × (count ≡ workers_for asked a b processors)

-- five words that ask how many workers a pool has: threads, how many were asked for, the environment's two words, and how
-- many processors there are
abbrev pub AsksForThreads : List (List ℕ) → ℕ → Type 0
AsksForThreads words count =
    (w first second v : List ℕ) × (asked processors : ℕ) × (words ≡ threads_word ∷ w ∷ first ∷ second ∷ v ∷ []) × Writes w asked × (asked < 2 ^ 64) × Writes v processors × (processors < 2 ^ 64) × Counts asked first second processors count

-- what the words of a command line ask for
abbrev pub AsksFor : List (List ℕ) → Command → Type 0
AsksFor words (Fib (Some workers) n) = AsksForFib words workers n
AsksFor words (Fib None n) = AsksForFibHere words n
AsksFor words (Command.Order order) = words ≡ order_word ∷ kind_word order ∷ []
AsksFor words (Broadcast workers) = AsksForBroadcast words workers
AsksFor words (Threads count) = AsksForThreads words count
AsksFor words Replay = words ≡ replay_word ∷ []

-- the words of a command line are bad words
abbrev pub AskForNothing : List (List ℕ) → Type 0
AskForNothing words = (c : Command) → AsksFor words c → ⊥

-- what a command that is done has written, if the property says that this text was: its number's decimal and a line feed;
-- of an order each of its numbers once, in whatever order they came, with single spaces between, and a line feed; of a
-- broadcast the squares of the workers' indices, by index, with single spaces between, and a line feed; of the world that a
-- replay prints nothing is said
abbrev pub IsPrinted : Command → (List ℕ → Type 0) → Type 0
IsPrinted (Fib workers n) wrote = wrote (decimal (fib n) ++ 10 ∷ [])
IsPrinted (Command.Order order) wrote = (ns : List ℤ) × IsPermutation ns (numbers_of order) × wrote (spaced ns ++ 10 ∷ [])
IsPrinted (Broadcast workers) wrote = wrote (spaced (map pos (squares workers)) ++ 10 ∷ [])
IsPrinted (Threads count) wrote = wrote (decimal count ++ 10 ∷ [])
IsPrinted Replay wrote = ⊤
