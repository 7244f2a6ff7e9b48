-- A worker's lists of jobs, one for each scope and one for the detached ones, as contracts see them.
use Rattle.std.specs.Prelude.{◌≡◌, ◌≢◌, ℕ, eqb, if◌then◌else◌, List, [], ◌∷◌, All, Option, None, Some}

-- the list of one scope's jobs
pub record ScopeList (T : Type 0) : Type 0 where
  pub scope : ℕ
  pub jobs : List T

-- a worker's lists: the one of detached jobs, and those of scopes
pub record Lists (T : Type 0) : Type 0 where
  pub detached : List T
  pub scoped : List (ScopeList T)

module _ {T : Type 0} where
  -- the jobs of the first list of this scope
  abbrev pub jobs_in : List (ScopeList T) → ℕ → List T
  jobs_in [] scope = []
  jobs_in (x ∷ xs) scope = if eqb x.scope scope then x.jobs else jobs_in xs scope

  -- the jobs of the list of this scope, or of detached jobs; none where it has no list
  abbrev pub jobs_of : Lists T → Option ℕ → List T
  jobs_of l None = l.detached
  jobs_of l (Some scope) = jobs_in l.scoped scope

  -- the list of this scope has become this one, and all others are as before
  abbrev pub Becomes : Lists T → Option ℕ → List T → Lists T → Type 0
  Becomes l scope jobs m =
      (jobs_of m scope ≡ jobs) × ((other : Option ℕ) → other ≢ scope → jobs_of m other ≡ jobs_of l other)

  -- every list is as before
  abbrev pub SameLists : Lists T → Lists T → Type 0
  SameLists l m = (scope : Option ℕ) → jobs_of m scope ≡ jobs_of l scope

  -- no list is of this scope
  abbrev pub Lacks : List (ScopeList T) → ℕ → Type 0
  Lacks xs scope = All (λ x. x.scope ≢ scope) xs

  -- no two lists are of one scope
  abbrev pub Distinct : List (ScopeList T) → Type 0
  Distinct [] = Unit {0}
  Distinct (x ∷ xs) = Lacks xs x.scope × Distinct xs
