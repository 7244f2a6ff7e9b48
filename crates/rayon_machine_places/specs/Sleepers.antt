-- who sleeps in a pool, and how many of them a new task wakes
use Rattle.std.specs.Prelude.{ℕ, Bool, not, ◌-◌, ◌%◌, ◌==◌, nat_lt, if◌then◌else◌}

-- the sizes of a pool's sets asleep and inactive
pub record Counts : Type 0 where
  pub sleeping : ℕ
  pub inactive : ℕ

abbrev pub is_even : ℕ → Bool
is_even n = (n % 2) == 0

-- how many to wake for one new task: nobody if nobody sleeps or, where the queue was empty, a worker is awake and idle
abbrev pub wakes_for_one : Bool → Counts → ℕ
wakes_for_one was_empty c =
    if c.sleeping == 0 then 0
    else if not was_empty then 1
    else if nat_lt (c.inactive - c.sleeping) 1 then 1 else 0
