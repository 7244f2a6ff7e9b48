-- wrong machines of events: replays, computed by the kernel, in which an event makes another job than it names
use Rattle.std.proofs.Common.{arith, refl, sym, ◌∙◌, ap}
use Rattle.rayon_machine_orders.proofs.Words.{ℕ, ◌-◌, Option, Some, None, List, [], ◌∷◌, ◌++◌, ◌≡◌, IfSome, slice_get, Party, Fine, Detached, Scoped, Event, End, Spawn, OpenScope, IntoSpawn, InDeque, IsSet, Scope, World, after_spawn, step, scopes_after, MakesSo}
use Rattle.rayon_machine_orders.specs.Makes.{kind_made, pool_made}
use Rattle.rayon_machine_orders.proofs.WrongMachines.{making, right, run_by, step_by, times_go, two, b, c}
use Rattle.rayon_machine_orders.proofs.CallTeeth.{running}

-- a spawn into a scope makes a detached job of the scope's pool
abbrev plain_into : World → Party → Option Scope → Option World
plain_into w q None = None
plain_into w q (Some z) = after_spawn w q z.pool (w.stack q)

abbrev spawns_detached : World → Event → Option World
spawns_detached w (IntoSpawn q n) = plain_into w q (slice_get w.scopes n)
spawns_detached w e = step w e

-- a run opens a scope, whose body spawns into it
abbrev scope_opened : List Event
scope_opened = running ++ OpenScope b 0 ∷ times_go b 2

-- the clause is broken: the event names a job of the scope, and makes a detached one
record MakesDetached (w v : World) : Type 0 where
  names : kind_made w (IntoSpawn b 0) 0 ≡ Scoped 1 b
  makes : (v.job w.jobs).kind ≡ Detached 0
  jobs : (w.jobs ≡ 2) × (v.jobs ≡ 3)

scope_gets_a_detached_job : IfSome (run_by (making spawns_detached) (two 32) scope_opened) (λ w. IfSome (step_by (making spawns_detached) w (IntoSpawn b 0)) (MakesDetached w))
scope_gets_a_detached_job = record { names = refl; makes = refl; jobs = (refl, refl) }

not_named : (w v : World) → MakesDetached w v → MakesSo w (IntoSpawn b 0) v → ⊥
not_named w v d m = let k : (v.job w.jobs).kind ≡ kind_made w (IntoSpawn b 0) (w.jobs - w.jobs) = (m.made w.jobs (omega arith) (let i : w.jobs ≡ 2 = (d.jobs).0 in let j : v.jobs ≡ 3 = (d.jobs).1 in omega (arith, i, j))).kind in
    let z : w.jobs - w.jobs ≡ 0 = omega arith in let e : Detached 0 ≡ Scoped 1 b = sym d.makes ∙ k ∙ ap (kind_made w (IntoSpawn b 0)) z ∙ d.names in cc

-- so the scope ends, and the job that was spawned into it is queued
record WaitsForNothing (w : World) : Type 0 where
  count : (w.call 1).count ≡ 0
  latch : (w.call 1).latch ≡ IsSet
  queued : (w.job 2).at ≡ InDeque 0 1

scope_waits_for_nothing : IfSome (run_by (making spawns_detached) (two 32) (scope_opened ++ IntoSpawn b 0 ∷ times_go b 4 ++ End b Fine ∷ times_go b 3)) WaitsForNothing
scope_waits_for_nothing = record { count = refl; latch = refl; queued = refl }

-- in the machine as it is the job is the scope's
scope_gets_its_job : IfSome (run_by right (two 32) scope_opened) (λ w. IfSome (step_by right w (IntoSpawn b 0)) (λ v. ((v.job w.jobs).kind ≡ Scoped 1 b) × ((v.job w.jobs).pool ≡ 0)))
scope_gets_its_job = (refl {a = Scoped 1 b}, refl {a = 0})

-- a spawn goes to the first pool, whatever pool it names
abbrev spawns_at_first : World → Event → Option World
spawns_at_first w (Spawn q p) = after_spawn w q 0 (w.stack q)
spawns_at_first w e = step w e

-- the clause is broken: the job is made at another pool than the event names
spawn_goes_to_the_first_pool : IfSome (two 32) (λ w. IfSome (step_by (making spawns_at_first) w (Spawn c 1)) (λ v. ((v.job 0).pool ≡ 0) × (pool_made w (Spawn c 1) ≡ 1)))
spawn_goes_to_the_first_pool = (refl {a = 0}, refl {a = 1})

-- a scope that is opened is listed first
abbrev listed_first : World → Party → ℕ → Option World → Option World
listed_first w q p None = None
listed_first w q p (Some v) = Some (record v { scopes = record { call = w.calls; pool = p; owner = q } ∷ w.scopes })

abbrev lists_first : World → Event → Option World
lists_first w (OpenScope q p) = listed_first w q p (step w (OpenScope q p))
lists_first w e = step w e

-- the call of the first scope of a list
abbrev first_call : List Scope → Option ℕ
first_call [] = None
first_call (z ∷ zs) = Some z.call

-- the clause is broken: of two scopes the later one is listed first
later_scope_is_listed_first : IfSome (run_by (making lists_first) (two 32) (OpenScope c 0 ∷ times_go c 2)) (λ w. IfSome (step_by (making lists_first) w (OpenScope c 0)) (λ v. (first_call v.scopes ≡ Some 1) × (first_call (scopes_after w (OpenScope c 0)) ≡ Some 0)))
later_scope_is_listed_first = (refl, refl)

-- in the machine as it is the earlier one
earlier_scope_is_listed_first : IfSome (run_by right (two 32) (OpenScope c 0 ∷ times_go c 2 ++ OpenScope c 0 ∷ [])) (λ v. first_call v.scopes ≡ Some 0)
earlier_scope_is_listed_first = refl
