-- What an act leaves with a worker's seat of the counters.
use Rattle.std.specs.Prelude.{◌≡◌, ℕ, ◌≤◌, Option, None, Some}
use Rattle.std.proofs.Common.{refl, sym, subst, ◌∙◌}
use Rattle.rayon_machine_places.specs.declared.act.Seen.TheVariants.{Wakes, Word}
use Rattle.rayon_atomics.specs.declared.views.Watch.{Watch}
use Rattle.rayon_atomics.specs.Counted.{Stays}
use Rattle.rayon_sleep.specs.Berths.{Rests, Searches, Sleeps}
use Rattle.rayon_shared.specs.Seats.{Has, Steps, AddsInactive, SubsInactive, Loads, SubsSleeping, Relocks}

-- what a step makes of the units
pub stepped : (R : Watch → Watch → Type 0) (C D : Watch → Type 0) (c e : Option Watch) → ((v w : Watch) → R v w → C v → D w) → Has C c → Steps R c e → Has D e
stepped R C D None e f a s = absurd a
stepped R C D (Some v) None f a s = absurd s
stepped R C D (Some v) (Some w) f a s = f v w s.0 a

pub never : (R : Watch → Watch → Type 0) (c e : Option Watch) → ((v w : Watch) → R v w → ⊥) → Steps R c e → ⊥
never R None e f s = s
never R (Some v) None f s = s
never R (Some v) (Some w) f s = f v w s.0

-- a lock leaves the seat as it is, where it is at hand
pub held : (C : Watch → Type 0) (c e : Option Watch) → Has C c → Relocks c e → c ≡ e
held C None e a s = absurd a
held C (Some v) e a s = sym s

pub begins : (v w : Watch) → AddsInactive v w → Rests v → Searches w
begins v w s a = subst (λ (z : Watch). Searches z) (sym s) (refl, a.1, a.2)

pub ends : (n : ℕ) (v w : Watch) → SubsInactive (Wakes n) v w → Searches v → Rests w
ends n v w s a = subst (λ (z : Watch). Rests z) (sym s.0) (refl, refl, a.2)

pub stays : (v w : Watch) → Stays v w → Searches v → Searches w
stays v w s a = (s.inactive ∙ a.0, s.sleeping ∙ a.1, subst (λ (n : ℕ). 1 ≤ n) (sym s.permits) a.2)

pub loads : (a b j : ℕ) (v w : Watch) → Loads (Word a b j) v w → Searches v → Searches w
loads a b j v w s d = subst (λ (z : Watch). Searches z) (sym s.0) d

pub wakes : (v w : Watch) → SubsSleeping v w → Sleeps v → Searches w
wakes v w s a = subst (λ (z : Watch). Searches z) (sym s) (a.0, refl, a.2)
