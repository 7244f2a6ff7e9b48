-- Threads of workers, before they begin.
use Rattle.std.specs.Prelude.{ℕ, List, Option, ◌≡◌}
use Rattle.std.specs.List.{FoldsTo, range_with_len}
use Rattle.rayon_registry.specs.Worker.{Pool}

-- the thread of a worker that has not begun: the worker's pool, its index there, the bytes of the name that the thread is to
-- have, if it has one, and how many bytes its stack is to have, where none leaves them to the system
pub record Thread : Type 0 where
  pub pool : Pool
  pub index : ℕ
  pub name : Option (List ℕ)
  pub stack_size : Option ℕ

-- what names the threads and what starts them have gone, by such steps of theirs, from one state to another with the thread
-- of the worker of this index in this pool: it is to have the name that was answered for this index, and a stack of this size
abbrev pub Took : {N S : Type 0} → (N → ℕ → Option (List ℕ) → N → Type 0) → (S → Thread → S → Type 0) → Pool → Option ℕ → N × S → ℕ → N × S → Type 0
Took named taken pool stack old index new = (thread : Thread) × (thread.pool ≡ pool) × (thread.index ≡ index) × (thread.stack_size ≡ stack) × named old.0 index thread.name new.0 × taken old.1 thread new.1

-- by such steps they have gone from one state to another with the threads of the first workers of this pool, so many, each
-- once and in the order of their indices
abbrev pub TookFirst : {N S : Type 0} → (N → ℕ → Option (List ℕ) → N → Type 0) → (S → Thread → S → Type 0) → Pool → Option ℕ → N × S → ℕ → N × S → Type 0
TookFirst named taken pool stack old count new = FoldsTo (Took named taken pool stack) old (range_with_len 0 count) new
