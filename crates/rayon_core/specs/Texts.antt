-- The texts that say why no pool was made, and names of threads.
use Rattle.std.specs.Prelude.{ℕ, Bool, List, String, Option, Some, None, codes, ◌==◌}
use Rattle.std.specs.List.{list_any}
use Rattle.std.specs.String.{string_bytes}
use Rattle.rayon_core.specs.declared.build_error.ThreadPoolBuildError.{ThreadPoolBuildError}
use Rattle.rayon_core.specs.declared.build_error.ThreadPoolBuildError.TheVariants as cause

-- the fixed text of a cause that has one: of those that lie with the caller, and not with memory, threads or numbers
abbrev pub fixed_text : ThreadPoolBuildError → Option (List ℕ)
fixed_text cause.GlobalPoolAlreadyInitialized = Some (codes "The global thread pool has already been initialized.")
fixed_text cause.CurrentThreadAlreadyInPool = Some (codes "The current thread is already part of another thread pool.")
fixed_text e = None

-- whether a text has a NUL byte
abbrev pub has_nul : {A : Type 0} → String A → Bool
has_nul s = list_any (λ b. b == 0) (string_bytes s)
