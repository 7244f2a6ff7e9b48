-- runs that grow by a step
use Rattle.std.proofs.Common.{◌≡◌, ◌<◌, ◌≤◌, ℕ, zero, suc, refl, sym, subst, List, [], ◌∷◌, Some, length, get_or, take, slice_get, IfSome, arith}
use Rattle.std.proofs.lemmas.Option.{slice_get-get_or}
use Rattle.rayon_machine_runs.specs.declared.event.Event.{Event}
use Rattle.rayon_machine_runs.specs.World.{World}
use Rattle.rayon_machine_runs.specs.Runs.{IsRun}
use Rattle.rayon_machine_runs.specs.Steps.{step}

-- a run of the first events, and a step of the next one
pub run-next : (w : World) (es : List Event) (i : ℕ) (d : Event) (u v : World) → i < length es → IsRun w (take i es) u → step u (get_or es i d) ≡ Some v → IsRun w (take (suc i) es) v
run-next w [] i d u v l r s = absurd (omega arith)
run-next w (a ∷ es) zero d u v l r s = (v, subst (λ (x : World). step x a ≡ Some v) r s, refl)
run-next w (a ∷ es) (suc i) d u v l r s = (r.0, r.1, run-next r.0 es i d u v (omega arith) r.2 s)

-- a run of as many events as there are is a run of all
pub run-all : (w : World) (es : List Event) (i : ℕ) (u : World) → length es ≤ i → IsRun w (take i es) u → IsRun w es u
run-all w [] zero u l r = r
run-all w [] (suc i) u l r = r
run-all w (a ∷ es) zero u l r = absurd (omega arith)
run-all w (a ∷ es) (suc i) u l r = (r.0, r.1, run-all r.0 es i u (omega arith) r.2)

-- what holds of an event holds of it where it stands in the list
pub holds-there : (P : World → Event → Type 0) (es : List Event) (i : ℕ) (d : Event) (u v : World) → i < length es → v ≡ u → P u (get_or es i d) → IfSome (slice_get es i) (P v)
holds-there P es i d u v l e h = subst (λ o. IfSome o (P v)) (sym (slice_get-get_or es i d l)) (subst (λ (x : World). P x (get_or es i d)) (sym e) h)
