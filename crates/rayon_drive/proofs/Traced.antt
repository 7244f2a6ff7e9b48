-- Paths of a trace go on, by one act or by another path, and each performer's path is one of its trace.
use Rattle.std.proofs.Common.{ℕ, ◌≡◌, true, ◌∷◌, refl, subst}
use Rattle.rayon_machine_places.specs.declared.place.Party.{Party}
use Rattle.rayon_machine_places.specs.declared.place.Party.TheVariants.{Worker}
use Rattle.rayon_machine_places.specs.declared.place.Move.{Move}
use Rattle.rayon_machine_places.specs.declared.shape.PoolShape.{PoolShape}
use Rattle.rayon_machine_places.specs.declared.act.Act.{Act}
use Rattle.rayon_machine_places.specs.declared.act.Seen.{Seen}
use Rattle.rayon_drive.specs.declared.trace.Log.{Log}
use Rattle.rayon_drive.specs.Traces.{Adds}
use Rattle.rayon_drive.specs.Paths.{goes, act_at, onward, Driven, Traced}
use Rattle.rayon_drive.proofs.Paths.{starts, goes_on, driven_then, driven_read}

-- no act
pub traced_none : (h : PoolShape) (q : Party) (m : Move) (s : Log) → Traced h q m s s m
traced_none h q m s = starts (λ s a x t. Unit {0}) (λ l. l) h q m s

-- one path after another
pub traced_then : (h : PoolShape) (q : Party) (m : Move) (s t : Log) (n : Move) (u : Log) (l : Move) → Traced h q m s t n → Traced h q n t u l → Traced h q m s u l
traced_then h q m s t n u l d e = driven_then (λ s a x t. Unit {0}) (λ l. l) h q m s t n u l d e

-- one act more at the head
pub traced_by : (h : PoolShape) (q : Party) (m : Move) (s t u : Log) (x : Seen) (n : Move) → goes m ≡ true → Adds (act_at q m) x s t → Traced h q (onward h q m x) t u n → Traced h q m s u n
traced_by h q m s t u x n go adds d = ((act_at q m, x) ∷ d.0, (t, tt, adds, d.1), (go, refl, d.2))

-- one act more at the end
pub traced_on : (h : PoolShape) (q : Party) (m : Move) (s t u : Log) (n : Move) (x : Seen) → Traced h q m s t n → goes n ≡ true → Adds (act_at q n) x t u → Traced h q m s u (onward h q n x)
traced_on h q m s t u n x d go adds = goes_on (λ s a x t. Unit {0}) (λ l. l) h q m s t n x u d go tt adds

-- a path of a worker's trace, said of equals
pub traced_as : (h k : PoolShape) (i j : ℕ) (m : Move) (v u : Log) (r n : Move) → i ≡ j → h ≡ k → r ≡ n → Traced h (Worker 0 i) m v u r → Traced k (Worker 0 j) m v u n
traced_as h k i j m v u r n e f d a =
    subst (λ (z : Move). Traced k (Worker 0 j) m v u z) d
    (subst (λ (z : PoolShape). Traced z (Worker 0 j) m v u r) f
    (subst (λ (z : ℕ). Traced h (Worker 0 z) m v u r) e a))

-- of a performer's path
module _ {S : Type 0} (performed : S → Act → Seen → S → Type 0) (trace : S → Log) where
  pub traced_of : (h : PoolShape) (q : Party) (m : Move) (s t : S) (n : Move) → Driven performed trace h q m s t n → Traced h q m (trace s) (trace t) n
  traced_of h q m s t n d = driven_read performed trace (λ (v : Log) a x (w : Log). Unit {0}) (λ (v : Log). v) trace (λ u. refl) (λ u a x v e. tt) h q m s t n d
