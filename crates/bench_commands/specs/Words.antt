use Rattle.std.specs.Prelude.{◌≡◌, ℕ, ◌≤◌, List, [], ◌∷◌}
use Rattle.std.specs.Str.Parse.{IsNumeral, digits_value, without_leading_plus}
use Rattle.bench_commands.specs.declared.command.Command.{Command}
use Rattle.bench_commands.specs.declared.command.Command.TheVariants.{Values, Time}
use Rattle.bench_commands.specs.declared.command.Timed.{Timed}
use Rattle.bench_commands.specs.declared.command.Timed.TheVariants.{Join, Leaves, Sequential, Install, PoolJoin}
use Rattle.bench_commands.specs.declared.command.Timed.TheVariants.{Spawn, SpawnFifo, SpawnBroadcast, Broadcast, WorkerBroadcast}
use Rattle.bench_commands.specs.declared.command.Timed.TheVariants.{Scope, ScopeFifo, ScopeOutputs}
use Rattle.bench_commands.specs.declared.command.Timed.TheVariants.{InPlaceScope, Wake, Idle}

-- the bytes of the word that asks for this: join, leaves, sequential, install, pool_join, spawn,
-- spawn_fifo, spawn_broadcast, broadcast, worker_broadcast, scope, scope_fifo, scope_outputs,
-- in_place_scope, wake, idle
abbrev pub word_of : Timed → List ℕ
word_of Join = 106 ∷ 111 ∷ 105 ∷ 110 ∷ []
word_of Leaves = 108 ∷ 101 ∷ 97 ∷ 118 ∷ 101 ∷ 115 ∷ []
word_of Sequential = 115 ∷ 101 ∷ 113 ∷ 117 ∷ 101 ∷ 110 ∷ 116 ∷ 105 ∷ 97 ∷ 108 ∷ []
word_of Install = 105 ∷ 110 ∷ 115 ∷ 116 ∷ 97 ∷ 108 ∷ 108 ∷ []
word_of PoolJoin = 112 ∷ 111 ∷ 111 ∷ 108 ∷ 95 ∷ 106 ∷ 111 ∷ 105 ∷ 110 ∷ []
word_of Spawn = 115 ∷ 112 ∷ 97 ∷ 119 ∷ 110 ∷ []
word_of SpawnFifo = 115 ∷ 112 ∷ 97 ∷ 119 ∷ 110 ∷ 95 ∷ 102 ∷ 105 ∷ 102 ∷ 111 ∷ []
word_of SpawnBroadcast = 115 ∷ 112 ∷ 97 ∷ 119 ∷ 110 ∷ 95 ∷ 98 ∷ 114 ∷ 111 ∷ 97 ∷ 100 ∷ 99 ∷ 97 ∷ 115 ∷ 116 ∷ []
word_of Broadcast = 98 ∷ 114 ∷ 111 ∷ 97 ∷ 100 ∷ 99 ∷ 97 ∷ 115 ∷ 116 ∷ []
word_of WorkerBroadcast = 119 ∷ 111 ∷ 114 ∷ 107 ∷ 101 ∷ 114 ∷ 95 ∷ 98 ∷ 114 ∷ 111 ∷ 97 ∷ 100 ∷ 99 ∷ 97 ∷ 115 ∷ 116 ∷ []
word_of Scope = 115 ∷ 99 ∷ 111 ∷ 112 ∷ 101 ∷ []
word_of ScopeFifo = 115 ∷ 99 ∷ 111 ∷ 112 ∷ 101 ∷ 95 ∷ 102 ∷ 105 ∷ 102 ∷ 111 ∷ []
word_of ScopeOutputs = 115 ∷ 99 ∷ 111 ∷ 112 ∷ 101 ∷ 95 ∷ 111 ∷ 117 ∷ 116 ∷ 112 ∷ 117 ∷ 116 ∷ 115 ∷ []
word_of InPlaceScope = 105 ∷ 110 ∷ 95 ∷ 112 ∷ 108 ∷ 97 ∷ 99 ∷ 101 ∷ 95 ∷ 115 ∷ 99 ∷ 111 ∷ 112 ∷ 101 ∷ []
word_of Wake = 119 ∷ 97 ∷ 107 ∷ 101 ∷ []
word_of Idle = 105 ∷ 100 ∷ 108 ∷ 101 ∷ []

-- a word that writes a number: decimal digits, one or more, after a plus or none
abbrev pub Writes : List ℕ → ℕ → Type 0
Writes word n = IsNumeral 10 (without_leading_plus word) × (digits_value 10 (without_leading_plus word) ≡ n)

-- so many workers, and the index of a Fibonacci number, that may be asked for
abbrev pub InRange : ℕ → ℕ → Type 0
InRange workers n = (1 ≤ workers) × (workers ≤ 64) × (n ≤ 40)

-- what the words of a command line ask for
abbrev pub AsksFor : List (List ℕ) → Command → Type 0
AsksFor words Values = words ≡ []
AsksFor words (Time what workers n) =
    (u v : List ℕ) × (words ≡ word_of what ∷ u ∷ v ∷ []) × Writes u workers × Writes v n × InRange workers n

-- the words of a command line ask for nothing
abbrev pub AskForNothing : List (List ℕ) → Type 0
AskForNothing words = (c : Command) → AsksFor words c → ⊥
