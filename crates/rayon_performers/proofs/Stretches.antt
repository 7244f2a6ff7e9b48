-- A stretch goes on by one act.
use Rattle.std.proofs.Common.{◌≡◌, true, ℕ, subst}
use Rattle.rayon_machine_places.specs.declared.place.Party.TheVariants.{Worker}
use Rattle.rayon_machine_places.specs.declared.place.Move.{Move}
use Rattle.rayon_machine_places.specs.declared.act.Seen.{Seen}
use Rattle.rayon_machine_places.specs.declared.shape.PoolShape.{PoolShape}
use Rattle.rayon_drive.specs.Paths.{goes, act_at, onward, Traced}
use Rattle.rayon_drive.specs.Traces.{Adds}
use Rattle.rayon_drive.proofs.Paths.{goes_on, starts, driven_then}
use Rattle.rayon_drive.proofs.Traced.{traced_of}
use Rattle.rayon_performers.specs.Hands.{Hands, Does}
use Rattle.rayon_performers.specs.Paths.{WorkerGoesIn}

module _ {X G O F : Type 0} (h : PoolShape) (i : ℕ) (m : Move) (s : Hands X G O F) where
  -- the worker's acts so far, from the first move to this one
  abbrev pub So : Move → Hands X G O F → Type 0
  So n t = WorkerGoesIn h i m s t n

  pub so_far : So m s
  so_far = starts (λ (a : Hands X G O F) x y b. Does x y a b) (λ (a : Hands X G O F). a.trace) h (Worker 0 i) m s

  pub by_act : (n : Move) (t u : Hands X G O F) (x : Seen) → goes n ≡ true → So n t → Does (act_at (Worker 0 i) n) x t u → Adds (act_at (Worker 0 i) n) x t.trace u.trace → So (onward h (Worker 0 i) n x) u
  by_act n t u x go a d e = goes_on (λ (b : Hands X G O F) x y c. Does x y b c) (λ (b : Hands X G O F). b.trace) h (Worker 0 i) m s t n x u a go d e

  -- a path of one act
  pub first_act : (u : Hands X G O F) (x : Seen) → goes m ≡ true → Does (act_at (Worker 0 i) m) x s u → Adds (act_at (Worker 0 i) m) x s.trace u.trace → So (onward h (Worker 0 i) m x) u
  first_act u x go a d = by_act m s u x go so_far a d

  pub and_then : (n l : Move) (t u : Hands X G O F) → So n t → WorkerGoesIn h i n t u l → So l u
  and_then n l t u a b = driven_then (λ (c : Hands X G O F) x y d. Does x y c d) (λ (c : Hands X G O F). c.trace) h (Worker 0 i) m s t n u l a b

module _ {X G O F : Type 0} where
  -- a drive is one of the same worker of the same pool, said of either
  pub of_worker : (s u v : Hands X G O F) (m n : Move) → u.shape ≡ s.shape → u.index ≡ s.index → So u.shape u.index m u n v → So s.shape s.index m u n v
  of_worker s u v m n e f d = subst (λ (z : ℕ). So s.shape z m u n v) f (subst (λ (z : PoolShape). So z u.index m u n v) e d)

  -- a worker's path is one of its trace
  pub traced : (h : PoolShape) (i : ℕ) (m : Move) (s t : Hands X G O F) (n : Move) → So h i m s n t → Traced h (Worker 0 i) m s.trace t.trace n
  traced h i m s t n d = traced_of (λ (a : Hands X G O F) x y b. Does x y a b) (λ (a : Hands X G O F). a.trace) h (Worker 0 i) m s t n d
