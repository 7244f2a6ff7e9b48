-- What a scope is to contracts, and its acts: those before its body and those after it.
use Rattle.std.specs.Prelude.{◌≡◌, ℕ, zero, suc, ◌+◌, ◌++◌, [], ◌∷◌, Bool, List, Option, Some}
use Rattle.std.proofs.Common.{subst}
use Rattle.rayon_books.specs.declared.receipt.Receipt.{Receipt}
use Rattle.rayon_machine_places.specs.declared.place.Ending.{Ending}
use Rattle.rayon_machine_places.specs.declared.place.Party.{Party}
use Rattle.rayon_machine_places.specs.declared.place.Party.TheVariants.{Worker}
use Rattle.rayon_machine_places.specs.declared.shape.PoolShape.{PoolShape}
use Rattle.rayon_drive.specs.Traces.{AddsRun}
use Rattle.rayon_drive.specs.declared.trace.Log.{Log}
use Rattle.rayon_tasks.specs.Tickets.{TicketOf}
use Rattle.rayon_registry.specs.declared.ids.PoolId.{PoolId}
use Rattle.rayon_registry.specs.Acts.{ScopeLeft, ScopeOpened, Scoped}
use Rattle.rayon_registry.specs.Worker.{Worker as WorkerValue}

-- a scope, as it is lent: its pool, the number of its call and whose call it is, a share of the call's ticket, whether it keeps
-- receipts, and those that it has kept
pub record ScopeValue (G : Type 0) : Type 0 where
  pub pool : PoolId
  pub call : ℕ
  pub owner : Party
  pub ticket : Option TicketOf
  pub keeps : Bool
  pub receipts : List (Receipt G)

-- the receipts of the first so many pieces of a broadcast of a job with this tag, to w workers: the piece for worker i has the
-- number n + i, and the place of worker i
abbrev pub piece_receipts : {G : Type 0} → G → ℕ → ℕ → ℕ → List (Receipt G)
piece_receipts g n w zero = []
piece_receipts g n w (suc i) = piece_receipts g n w i ++ record { number = n + i; tag = g; place = Some (i, w) } ∷ []

-- what leads from one value of a worker to the body of a scope, and from there to a later value of it, leads from the one to
-- the other
pub scopes_by : {T : Type 0} (e : Ending) (v w : WorkerValue T) (n : ℕ) (x : Log)
    → ◌≡◌ {A = ℕ × ℕ × PoolShape} (w.id.pool.number, w.id.index, w.shape) (v.id.pool.number, v.id.index, v.shape)
    → ScopeOpened v.shape (Worker 0 v.id.index) n v.acts x → (y : Log) × AddsRun x y × ScopeLeft w.shape (Worker 0 w.id.index) n e y w.acts → Scoped v.shape (Worker 0 v.id.index) e v.acts w.acts
scopes_by e v w n x same a b = (n, x, b.0, a, b.1, subst (λ (z : ℕ × ℕ × PoolShape). ScopeLeft z.2 (Worker 0 z.1) n e b.0 w.acts) same b.2)
