-- The acts of a join are those before its first side and those after it.
use Rattle.std.specs.Prelude.{◌≡◌, ℕ}
use Rattle.std.proofs.Common.{subst}
use Rattle.rayon_machine_places.specs.declared.place.Ending.{Ending}
use Rattle.rayon_machine_places.specs.declared.place.Party.TheVariants.{Worker}
use Rattle.rayon_machine_places.specs.declared.shape.PoolShape.{PoolShape}
use Rattle.rayon_drive.specs.Traces.{AddsRun}
use Rattle.rayon_drive.specs.declared.trace.Log.{Log}
use Rattle.rayon_registry.specs.Acts.{Joined, Met, Offered}
use Rattle.rayon_registry.specs.Worker.{Worker as WorkerValue}

-- what leads from one value of a worker to its first side, and from there to a later value of it, leads from the one to the
-- other
pub joins_by : {T : Type 0} (e : Ending) (v w : WorkerValue T) (n : ℕ) (x : Log)
    → ◌≡◌ {A = ℕ × ℕ × PoolShape} (w.id.pool.number, w.id.index, w.shape) (v.id.pool.number, v.id.index, v.shape)
    → Offered v.shape (Worker 0 v.id.index) n v.acts x → (y : Log) × AddsRun x y × Met w.shape (Worker 0 w.id.index) n e y w.acts → Joined v.shape (Worker 0 v.id.index) e v.acts w.acts
joins_by e v w n x same a b = (n, x, b.0, a, b.1, subst (λ (z : ℕ × ℕ × PoolShape). Met z.2 (Worker 0 z.1) n e b.0 w.acts) same b.2)
