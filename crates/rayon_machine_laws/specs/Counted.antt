-- a pool's terminate count is the number of its shares, and each share is kept once
--
-- So the count is the sum of three: 1 for the value while it is counted; 1 for each detached job from its Raise to its
-- Lower; 1 for each waiting call from its Raise to its last Lower.
-- A share that is lost breaks this. So does one in the number that nobody is left to give back.
-- Where a scope's body has run, and its share is not given back, exactly one party is to do so.
-- Broken by the wrong machines, in `rayon_machine_orders/proofs`:
-- - `IsCounted`: `refused_push_keeps_its_share` and `lower_lowers_nothing` (WrongMachines),
--   `refused_broadcast_keeps_its_shares` (CastTeeth), `refused_spawn_keeps_its_share` (ScopeTeeth),
--   `body_leaves_out_its_lower` (CountTeeth), `dealt_shares_wait_still` and `refused_waiting_broadcast_keeps_its_share`
--   (PieceTeeth).
-- - `ScopesCounted`: `lower_lowers_no_scope` (ScopeTeeth), `scope_starts_at_zero` and `body_lowers_the_scope_twice`
--   (CountTeeth), `pieces_have_no_shares` and `refused_pieces_keep_their_shares` (PieceTeeth).
use Rattle.rayon_machine_runs.specs.declared.state.Whereabouts.{Whereabouts}
use Rattle.rayon_machine_runs.specs.declared.state.Whereabouts.TheVariants.{Made, Over, HandedBack}
use Rattle.rayon_machine_runs.specs.Readers.{is_done}
use Rattle.rayon_machine_places.specs.declared.place.Count.{Count}
use Rattle.rayon_machine_places.specs.declared.place.Count.TheVariants.{OfPool, OfScope, OfCast}
use Rattle.std.specs.Prelude.{ℕ, Bool, true, false, not, ◌&&◌, ◌||◌, ◌+◌, ◌==◌, ◌≤◌, Option, Some, None, List, [], ◌∷◌, ◌≡◌}
use Rattle.rayon_machine_places.specs.declared.place.Party.{Party}
use Rattle.rayon_machine_places.specs.declared.place.JobKind.{JobKind}
use Rattle.rayon_machine_places.specs.declared.place.JobKind.TheVariants.{Detached, Scoped, BodyOf, PieceOf, WholeOf}
use Rattle.rayon_machine_places.specs.declared.place.Share.TheVariants.{PoolValue}
use Rattle.rayon_machine_places.specs.declared.place.Place.{Place}
use Rattle.rayon_machine_places.specs.declared.place.Place.TheVariants.{LowerCount}
use Rattle.rayon_machine_runs.specs.declared.state.Job.{Job}
use Rattle.rayon_machine_places.specs.Places.{same_party}
use Rattle.rayon_machine_runs.specs.World.{Stack, World, count_below}
use Rattle.rayon_machine_laws.specs.Once.{one}
use Rattle.rayon_machine_laws.specs.Shares.{shares, is_busy}
pub use Rattle.rayon_machine_laws.specs.Shares.{is_scoped}
pub use Rattle.rayon_machine_laws.specs.Bodies.{in_scope, plan_body, body_then, body, bodies_in, all_bodies}

-- no call waits for a job of this kind alone: it is detached, of a scope, or a piece of a broadcast that waits
abbrev pub is_detached : JobKind → Bool
is_detached (Detached p) = true
is_detached (Scoped c o) = true
is_detached (PieceOf c o) = true
is_detached _ = false

-- a job keeps its share itself: a detached one that is queued, in a hand or running. Its call keeps the share before,
-- and the party that ran it after
abbrev pub keeps_own : Job → Bool
keeps_own j = is_detached j.kind && is_busy j.at

-- a job of this kind is of this call's scope, or a piece of this call's broadcast
abbrev pub is_of_scope : ℕ → JobKind → Bool
is_of_scope n (Scoped c o) = n == c
is_of_scope n (PieceOf c o) = n == c
is_of_scope n k = false

-- a job has a share of this pool's terminate count: one that has none of a call's count
abbrev pub has_share : ℕ → Job → Bool
has_share p j = j.counted && (not (is_scoped j.kind) && (p == j.pool))

-- a job has a share of the count of this call, a scope or a broadcast that waits
abbrev pub has_entry : ℕ → Job → Bool
has_entry c j = j.counted && is_of_scope c j.kind

-- the share of a pool's value is one of this pool's count
abbrev pub value_in : ℕ → Count → ℕ
value_in p (OfPool r) = one (p == r)
value_in p (OfScope c o) = 0
value_in p (OfCast c o) = 0

-- how often a place is the Lower that gives back the share of pool p's value
abbrev pub values : ℕ → Place → ℕ
values p (LowerCount k PoolValue n) = value_in p k
values p _ = 0

-- how often these places are
abbrev pub values_in : ℕ → List Place → ℕ
values_in p [] = 0
values_in p (f ∷ fs) = values p f + values_in p fs

-- how often a whole stack is to give it back
abbrev pub all_values : ℕ → Stack → ℕ
all_values p k = values p k.top + values_in p k.below

-- a keeper is a party, or none: then the share's owner keeps it itself
abbrev pub is_kept_by : Party → Option Party → Bool
is_kept_by q None = false
is_kept_by q (Some r) = same_party q r

-- whether the owner keeps it
abbrev pub is_kept_by_owner : Option Party → Bool
is_kept_by_owner None = true
is_kept_by_owner (Some r) = false

-- a share that is in the count has one keeper, which keeps it once; one that is not in the count is kept by nobody
abbrev pub KeptOnce : (Party → ℕ) → Bool → Bool → Type 0
KeptOnce parties owner true = (o : Option Party) × ((q : Party) → parties q ≡ one (is_kept_by q o)) × (owner ≡ is_kept_by_owner o)
KeptOnce parties owner false = ((q : Party) → parties q ≡ 0) × (owner ≡ false)

-- each pool's terminate count is 1 while its value's share is in it, and 1 more for each job with a share of it. The
-- share of the value is kept by the held value or by the one Lower that gives it back; the share of a job by the one
-- call that waits for it, from its Raise to its Lower, or, where no call waits, by its call before it is queued, by the
-- job itself, or by its Lower once it has run. The share of a scope's body, which is one of the scope's count, is kept by
-- the party that opened the scope, until its Lower; only where the body is handed back, since a step of the call was
-- refused, nobody is to give it back. Where a piece of a broadcast that waits is queued, in a hand, running or over, no
-- share waits in its call's count: each is a piece's own
pub record IsCounted (w : World) : Type 0 where
  pub count : (p : ℕ) → (w.pool p).count ≡ one (w.pool p).counted + count_below w.jobs (λ t. has_share p (w.job t))
  pub made : (t : ℕ) → w.jobs ≤ t → (w.job t).counted ≡ false
  pub value : (p : ℕ) → KeptOnce (λ q. all_values p (w.stack q)) (w.pool p).held (w.pool p).counted
  pub jobs : (t : ℕ) → KeptOnce (λ q. shares t (w.stack q)) (keeps_own (w.job t)) (w.job t).counted
  pub bodies : (t c : ℕ) (o : Party) → t + 1 ≤ w.jobs → (w.job t).kind ≡ BodyOf c o → ((w.job t).at ≡ HandedBack → ⊥) → KeptOnce (λ q. all_bodies c (w.stack q)) false (w.call c).counted
  pub dealt : (t : ℕ) → t + 1 ≤ w.jobs → (c : ℕ) (o : Party) → (w.job t).kind ≡ PieceOf c o → (is_busy (w.job t).at || is_done (w.job t).at) ≡ true → (w.call c).undealt ≡ 0

-- a call of a scope has a body; a broadcast that waits has none, and a job of this kind stands for it
abbrev pub has_body : JobKind → Bool
has_body (WholeOf c o) = false
has_body _ = true

-- a job is over, or its call was refused and has handed it back
abbrev pub is_through : Whereabouts → Bool
is_through (Over e) = true
is_through HandedBack = true
is_through _ = false

-- a call whose count is 0 has ended: its body is over, if it has one, and each piece of it, if it is a broadcast, and
-- no job of its scope, or piece of its broadcast, has a share of the count, is queued or runs. Each job of its scope,
-- be it spawned into it or a piece of a broadcast into it, is over, or was handed back
pub record ScopeEnded (w : World) (c : ℕ) : Type 0 where
  pub body : has_body (w.job (w.call c).job).kind ≡ true → is_done (w.job (w.call c).job).at ≡ true
  pub jobs : (t : ℕ) → is_of_scope c (w.job t).kind ≡ true → (w.job t).counted ≡ false
  pub idle : (t : ℕ) → is_of_scope c (w.job t).kind ≡ true → is_busy (w.job t).at ≡ false
  pub over : has_body (w.job (w.call c).job).kind ≡ false → (t : ℕ) → t + 1 ≤ w.jobs → is_of_scope c (w.job t).kind ≡ true → is_done (w.job t).at ≡ true
  pub spawned : (t : ℕ) (o : Party) → t + 1 ≤ w.jobs → (w.job t).kind ≡ Scoped c o → is_through (w.job t).at ≡ true

-- each scope's count is 1 while its body's share is in it, and 1 more for each job with a share of it; the body's share
-- is in it at least until the body is over, and a job's while the job is queued or runs. The count of a broadcast that
-- waits is the number of its pieces from the first: until they are dealt, as many shares wait in it as it has pieces,
-- and from then on each piece has its own. Those of one that was refused stay. No share waits in the count of a scope
pub record ScopesCounted (w : World) : Type 0 where
  pub count : (c : ℕ) → (w.call c).count ≡ (one (w.call c).counted + (w.call c).undealt) + count_below w.jobs (λ t. has_entry c (w.job t))
  pub none : (c : ℕ) → has_body (w.job (w.call c).job).kind ≡ true → (w.call c).undealt ≡ 0
  pub body : (c : ℕ) → c + 1 ≤ w.calls → (w.call c).counted ≡ false → has_body (w.job (w.call c).job).kind ≡ true → is_done (w.job (w.call c).job).at ≡ true
  pub undealt : (t : ℕ) → t + 1 ≤ w.jobs → (c : ℕ) (o : Party) → (w.job t).kind ≡ PieceOf c o → (w.job t).at ≡ Made o → (w.call c).undealt ≡ (w.shape.pool (w.job t).pool).workers
  pub kept : (t : ℕ) → is_scoped (w.job t).kind ≡ true → is_busy (w.job t).at ≡ true → (w.job t).counted ≡ true
  pub ended : (c : ℕ) → c + 1 ≤ w.calls → (w.call c).count ≡ 0 → ScopeEnded w c
