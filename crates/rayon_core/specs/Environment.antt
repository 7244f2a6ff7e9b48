-- How many workers a pool has, by what its builder was told of the program's surroundings.
use Rattle.std.specs.Prelude.{◌≡◌, ℕ, ◌<◌, ◌≤◌, ◌^◌, ◌==◌, List, Option, Some, None, max, min, if◌then◌else◌}
use Rattle.std.specs.Str.Parse.{IsNumeral, digits_value, without_leading_plus}
use Rattle.rayon_core.specs.Settings.{Settings}

-- a word writes a number: decimal digits, one or more, after a plus or none
abbrev pub Writes : List ℕ → ℕ → Type 0
Writes word n = IsNumeral 10 (without_leading_plus word) × (digits_value 10 (without_leading_plus word) ≡ n)

-- what a word says: the number that it writes, where that has at most 64 bits
abbrev pub Says : List ℕ → Option ℕ → Type 0
Says word (Some n) = Writes word n × (n < 2 ^ 64)
Says word None = (n : ℕ) → Writes word n → 2 ^ 64 ≤ n

-- the first number, unless it is 0, then the second
abbrev pub unless_zero : ℕ → ℕ → ℕ
unless_zero n m = if n == 0 then m else n

-- what the second word leaves of the processors: its number, unless it is 0 or absent
abbrev pub by_second : Option ℕ → ℕ → ℕ
by_second None processors = processors
by_second (Some n) processors = unless_zero n processors

-- what the first word says: its number, where 0 stands for the processors whatever the second word says; where it is absent,
-- what the second leaves
abbrev pub by_first : Option ℕ → Option ℕ → ℕ → ℕ
by_first None second processors = by_second second processors
by_first (Some n) second processors = unless_zero n processors

-- how many workers a pool has for which so many were asked: these, else what the words say, of a program that has one
-- processor at least; and never more than 65,535
abbrev pub workers_for : ℕ → Option ℕ → Option ℕ → ℕ → ℕ
workers_for asked first second processors = min 65535 (unless_zero asked (by_first first second (max 1 processors)))

-- how many workers a pool of these settings has
abbrev pub workers_of : {H N S : Type 0} → Settings H N S → ℕ
workers_of s = workers_for s.num_threads s.first s.second s.processors
