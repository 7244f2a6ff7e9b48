-- what a call's latch and cell tell
--
-- Broken by the wrong machines, in `rayon_machine_orders/proofs`:
-- - `IsLatched`: `scope_counts_its_jobs_alone` and `scope_ends_while_a_job_runs` (CountTeeth).
-- - `IsSetOnce`: `body_and_job_set_the_latch`, `job_sets_the_latch_again` and `end_sets_latches_again` (LatchTeeth).
use Rattle.rayon_machine_places.specs.declared.place.Party.{Party}
use Rattle.rayon_machine_places.specs.declared.place.JobKind.TheVariants.{BodyOf, PieceOf, WholeOf}
use Rattle.rayon_machine_laws.specs.Counted.{has_body, ScopeEnded}
use Rattle.rayon_machine_laws.specs.End.{CastTakes}
use Rattle.std.specs.Prelude.{ℕ, Bool, true, Some, ◌≡◌, false, ◌⊎◌, ◌+◌, ◌≤◌, ◌==◌, ◌&&◌, List, [], ◌∷◌}
use Rattle.rayon_machine_places.specs.declared.place.Ending.{Ending}
use Rattle.rayon_machine_places.specs.declared.place.Ending.TheVariants.{Fine}
use Rattle.rayon_machine_runs.specs.declared.state.Letter.TheVariants.{Set as IsSet}
use Rattle.rayon_machine_runs.specs.declared.state.Whereabouts.TheVariants.{Over}
use Rattle.rayon_machine_places.specs.declared.place.Latch.{Latch}
use Rattle.rayon_machine_places.specs.declared.place.Latch.TheVariants.{Terminate, OfCall}
use Rattle.rayon_machine_places.specs.declared.place.Place.{Place}
use Rattle.rayon_machine_places.specs.declared.act.Act.{Act}
use Rattle.rayon_machine_places.specs.declared.act.Act.TheVariants.{Set, LockSet}
use Rattle.rayon_machine_runs.specs.declared.event.Event.{Event}
use Rattle.rayon_machine_runs.specs.declared.event.Event.TheVariants.{Go}
use Rattle.rayon_machine_places.specs.Places.{act_of}
use Rattle.rayon_machine_runs.specs.World.{Shape, Stack, World, told}
use Rattle.rayon_machine_runs.specs.Steps.{step}
use Rattle.rayon_machine_runs.specs.Runs.{IsRun, start}
use Rattle.rayon_machine_laws.specs.Attended.{letter_at}
use Rattle.rayon_machine_laws.specs.Once.{one}
use Rattle.rayon_machine_runs.specs.Readers.{is_done}

-- a piece of this call's broadcast has ended so
pub record PieceEnded (w : World) (c : ℕ) (e : Ending) : Type 0 where
  pub job : ℕ
  pub owner : Party
  pub made : job + 1 ≤ w.jobs
  pub kind : (w.job job).kind ≡ PieceOf c owner
  pub at : (w.job job).at ≡ Over e

-- a call's latch is set only when the job that it counts is over; that of a scope only when no job of it has a share of
-- its count, is queued or runs, and that of a broadcast only when each piece of it is over, too; a call's cell holds an
-- ending only where its job, or a piece of its broadcast, ended so
pub record IsLatched (w : World) : Type 0 where
  pub latch : (c : ℕ) → (w.call c).latch ≡ IsSet → has_body (w.job (w.call c).job).kind ≡ true → is_done (w.job (w.call c).job).at ≡ true
  pub scope : (c n : ℕ) (o : Party) → (w.call c).latch ≡ IsSet → (w.job (w.call c).job).kind ≡ BodyOf n o → ScopeEnded w c
  pub pieces : (c : ℕ) → (w.call c).latch ≡ IsSet → has_body (w.job (w.call c).job).kind ≡ false → ScopeEnded w c
  pub cell : (c : ℕ) (e : Ending) → (w.call c).cell ≡ Some e → has_body (w.job (w.call c).job).kind ≡ true → (w.job (w.call c).job).at ≡ Over e
  pub ended : (c : ℕ) (e : Ending) → (w.call c).cell ≡ Some e → ((w.job (w.call c).job).at ≡ Over e) ⊎ PieceEnded w c e

-- a broadcast whose latch is set keeps no fault exactly where each piece of it has ended without one, and else that of
-- the lowest piece that ended with one. Where its cell holds an ending, its Take sees a fault exactly where one is kept
pub record IsGathered (w : World) : Type 0 where
  pub kept : (c n : ℕ) (o : Party) → (w.call c).latch ≡ IsSet → (w.job (w.call c).job).kind ≡ WholeOf n o → CastTakes w c (told (w.call c).fault Fine)
  pub sees : (c n : ℕ) (o : Party) (e : Ending) → (w.call c).latch ≡ IsSet → (w.job (w.call c).job).kind ≡ WholeOf n o → (w.call c).cell ≡ Some e → told (w.call c).fault e ≡ told (w.call c).fault Fine

-- an act sets this latch: that of a call, or the terminate latch of worker i of pool p
abbrev pub sets : ℕ → ℕ → Latch → Act → Bool
sets p i Terminate (Set Terminate r j) = (p == r) && (i == j)
sets p i (OfCall c) (Set (OfCall d) r j) = c == d
sets p i (OfCall c) (LockSet d) = c == d
sets p i l a = false

-- how many of these places of a party have an act that sets it
abbrev pub setters_in : ℕ → ℕ → Latch → Party → List Place → ℕ
setters_in p i l q [] = 0
setters_in p i l q (f ∷ fs) = one (sets p i l (act_of q f)) + setters_in p i l q fs

-- how many of a party's whole stack have
abbrev pub setters : ℕ → ℕ → Latch → Party → Stack → ℕ
setters p i l q k = one (sets p i l (act_of q k.top)) + setters_in p i l q k.below

-- who is to set a latch finds it unset, and is the only one: one place of one party's stack
pub record IsSetOnce (w : World) : Type 0 where
  pub unset : (q : Party) (p i : ℕ) (l : Latch) → 1 ≤ setters p i l q (w.stack q) → letter_at w p i l ≡ IsSet → ⊥
  pub once : (q : Party) (p i : ℕ) (l : Latch) → setters p i l q (w.stack q) ≤ 1
  pub alone : (q r : Party) (p i : ℕ) (l : Latch) → 1 ≤ setters p i l q (w.stack q) → 1 ≤ setters p i l r (w.stack r) → q ≡ r

-- the event is an act that sets this latch
abbrev pub is_set_by : World → Event → ℕ → ℕ → Latch → Bool
is_set_by w (Go q) p i l = sets p i l (act_of q (w.stack q).top)
is_set_by w e p i l = false

-- a step, for this latch: an act that sets it leaves it set; it stays set once it is, and comes to be set by such an act
-- alone
pub record SetsSo (w v : World) (e : Event) (p i : ℕ) (l : Latch) : Type 0 where
  pub set : is_set_by w e p i l ≡ true → letter_at v p i l ≡ IsSet
  pub stays : letter_at w p i l ≡ IsSet → letter_at v p i l ≡ IsSet
  pub by : letter_at v p i l ≡ IsSet → (letter_at w p i l ≡ IsSet) ⊎ (is_set_by w e p i l ≡ true)

-- each step of each run: with the above, no latch is set twice in a run
abbrev pub SetLaw : Type 0
SetLaw = (shape : Shape) (before : List Event) (w v : World) (e : Event) (p i : ℕ) (l : Latch) → IsRun (start shape) before w → step w e ≡ Some v → SetsSo w v e p i l
