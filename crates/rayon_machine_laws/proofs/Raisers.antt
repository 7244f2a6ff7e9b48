-- only one party raises the count for a job, or has a piece that waits for its share
--
-- No two parties raise a count for one job (`one_raiser`). So what is dealt had no share (`ungiven`, ShareSteps), and
-- what is handed back undealt had none (`back_bare`, ShareRuns).
use Rattle.std.proofs.Common.{arith, refl, sym, ◌∙◌, ap, subst, inl, inr}
use Rattle.std.specs.Prelude.{ℕ, true, false, zero, suc, ◌+◌, ◌==◌, ◌≤◌, Some, None, List, [], ◌∷◌, ◌≡◌, ◌⊎◌}
use Rattle.std.proofs.lemmas.Bool.{eqb-true}
use Rattle.rayon_machine_places.specs.declared.place.Party.{Party}
use Rattle.rayon_machine_places.specs.declared.place.Party.TheVariants.{Caller}
use Rattle.rayon_machine_places.specs.declared.place.Plan.{Plan}
use Rattle.rayon_machine_places.specs.declared.place.Plan.TheVariants.{Detach, Here, Send, Fork, Feed, Open, Enter, Gather}
use Rattle.rayon_machine_places.specs.declared.place.Then.{Then}
use Rattle.rayon_machine_places.specs.declared.place.Then.TheVariants.{GiveBack}
use Rattle.rayon_machine_places.specs.declared.place.Place.{Place}
use Rattle.rayon_machine_places.specs.declared.place.Place.TheVariants.{RaiseCount, GrowCall, LookQueue, PushJob, OpenSlot, CloseSlot, LockToWake, WakeWorker, UnlockWoken, LowerCount, SetLatch, LockToSettle, WakeSettled, UnlockSettled, SetLockLatch}
use Rattle.rayon_machine_places.specs.declared.place.JobKind.{JobKind}
use Rattle.rayon_machine_places.specs.declared.place.JobKind.TheVariants.{WholeOf}
use Rattle.rayon_machine_runs.specs.declared.state.Whereabouts.TheVariants.{Spent}
use Rattle.rayon_machine_places.specs.Places.{same_party}
use Rattle.rayon_machine_runs.specs.World.{World}
use Rattle.rayon_machine_laws.specs.Once.{one, hand_plan, hand_then}
use Rattle.rayon_machine_laws.proofs.Frame.{same_party_refl}
use Rattle.rayon_machine_laws.proofs.Hands.{hand, held_in, held}
use Rattle.rayon_machine_laws.proofs.Located.{loc_of, loc_at, is_loc, where_is, Hand}
use Rattle.rayon_machine_laws.proofs.Claims.{Says, AllSay}
use Rattle.rayon_machine_laws.proofs.ClaimActs.{made_held}
use Rattle.rayon_machine_laws.proofs.ClaimRuns.{CallsHold}
use Rattle.rayon_machine_laws.proofs.Amounts.{waiting, raise_then, raises, raises_in, all_raises}
use Rattle.rayon_machine_laws.proofs.ShareActs.{one_is}

-- the number of a broadcast that waits is in no hand, and the party that made it raises the pool's count for it
abbrev whole_at : ℕ → Place → ℕ
whole_at t (RaiseCount (Gather g)) = one (t == g.call.job)
whole_at t _ = 0

abbrev wholes_in : ℕ → List Place → ℕ
wholes_in t [] = 0
wholes_in t (f ∷ fs) = whole_at t f + wholes_in t fs

plan_waits : (t : ℕ) (n : Plan) → waiting t n ≤ hand_plan t n
plan_waits t (Gather g) = omega arith
plan_waits t _ = omega arith

then_waits : (t : ℕ) (n : Then) → raise_then t n ≤ hand_then t n
then_waits t (GiveBack n) = plan_waits t n
then_waits t _ = omega arith

-- who else raises a count for a job has it in hand
raises_hand : (t : ℕ) (x : Place) → raises t x ≤ hand t x + whole_at t x
raises_hand t (RaiseCount (Detach p u)) = omega arith
raises_hand t (RaiseCount (Here p u)) = omega arith
raises_hand t (RaiseCount (Send o)) = omega arith
raises_hand t (RaiseCount (Fork o a)) = omega arith
raises_hand t (RaiseCount (Feed f)) = omega arith
raises_hand t (RaiseCount (Open o)) = omega arith
raises_hand t (RaiseCount (Enter e)) = omega arith
raises_hand t (RaiseCount (Gather g)) = omega arith
raises_hand t (GrowCall n) = let a : waiting t n ≤ hand_plan t n = plan_waits t n in omega (arith, a)
raises_hand t (LookQueue n) = let a : waiting t n ≤ hand_plan t n = plan_waits t n in omega (arith, a)
raises_hand t (PushJob n e) = let a : waiting t n ≤ hand_plan t n = plan_waits t n in omega (arith, a)
raises_hand t (OpenSlot n) = let a : waiting t n ≤ hand_plan t n = plan_waits t n in omega (arith, a)
raises_hand t (CloseSlot n) = let a : waiting t n ≤ hand_plan t n = plan_waits t n in omega (arith, a)
raises_hand t (LockToWake k) = let a : raise_then t k.then ≤ hand_then t k.then = then_waits t k.then in omega (arith, a)
raises_hand t (WakeWorker k) = let a : raise_then t k.then ≤ hand_then t k.then = then_waits t k.then in omega (arith, a)
raises_hand t (UnlockWoken k) = let a : raise_then t k.then ≤ hand_then t k.then = then_waits t k.then in omega (arith, a)
raises_hand t (LowerCount p s n) = let a : raise_then t n ≤ hand_then t n = then_waits t n in omega (arith, a)
raises_hand t (SetLatch k) = let a : raise_then t k.then ≤ hand_then t k.then = then_waits t k.then in omega (arith, a)
raises_hand t (LockToSettle k) = let a : raise_then t k.then ≤ hand_then t k.then = then_waits t k.then in omega (arith, a)
raises_hand t (WakeSettled k) = let a : raise_then t k.then ≤ hand_then t k.then = then_waits t k.then in omega (arith, a)
raises_hand t (UnlockSettled k) = let a : raise_then t k.then ≤ hand_then t k.then = then_waits t k.then in omega (arith, a)
raises_hand t (SetLockLatch c n) = let a : raise_then t n ≤ hand_then t n = then_waits t n in omega (arith, a)
raises_hand t _ = omega arith

raises_held : (t : ℕ) (fs : List Place) → raises_in t fs ≤ held_in t fs + wholes_in t fs
raises_held t [] = omega arith
raises_held t (f ∷ fs) = let a : raises t f ≤ hand t f + whole_at t f = raises_hand t f in let b : raises_in t fs ≤ held_in t fs + wholes_in t fs = raises_held t fs in omega (arith, a, b)

-- a job that stands for a broadcast of this party
record Whole (w : World) (q : Party) (t : ℕ) : Type 0 where
  made : t + 1 ≤ w.jobs
  number : ℕ
  kind : (w.job t).kind ≡ WholeOf number q
  spent : (w.job t).at ≡ Spent

whole_says : (w : World) (q : Party) (t : ℕ) (x : Place) → Says w q x → 1 ≤ whole_at t x → Whole w q t
whole_says w q t (RaiseCount (Gather g)) s n = subst (Whole w q) (sym (eqb-true t g.call.job (one_is (t == g.call.job) n))) (record { made = (s.call).made; number = g.call.number; kind = s.whole; spent = s.spent })
whole_says w q t _ s n = absurd (omega (arith, n))

wholes_say : (w : World) (q : Party) (t : ℕ) (fs : List Place) → AllSay w q fs → 1 ≤ wholes_in t fs → Whole w q t
wholes_say w q t [] s n = absurd (omega (arith, n))
wholes_say w q t (f ∷ fs) s n = by (λ m. wholes_say w q t fs (s.1) m) (whole_at t f) refl
  where
    by : (1 ≤ wholes_in t fs → Whole w q t) → (k : ℕ) → whole_at t f ≡ k → Whole w q t
    by r zero e = r (let a : 1 ≤ wholes_in t fs = omega (arith, n, e) in a)
    by r (suc k) e = whole_says w q t f (s.0) (let a : 1 ≤ whole_at t f = omega (arith, e) in a)

raiser : (w : World) → CallsHold w → (q : Party) (t : ℕ) → 1 ≤ all_raises t (w.stack q) → (1 ≤ held t (w.stack q)) ⊎ Whole w q t
raiser w h q t n = by (held t (w.stack q)) refl
  where
    by : (k : ℕ) → held t (w.stack q) ≡ k → (1 ≤ held t (w.stack q)) ⊎ Whole w q t
    by (suc k) e = inl (let a : 1 ≤ held t (w.stack q) = omega (arith, e) in a)
    by zero e = inr (wholes_say w q t ((w.stack q).top ∷ (w.stack q).below) ((h.says q).top, (h.says q).below)
        (let a : raises t (w.stack q).top ≤ hand t (w.stack q).top + whole_at t (w.stack q).top = raises_hand t (w.stack q).top in let b : raises_in t (w.stack q).below ≤ held_in t (w.stack q).below + wholes_in t (w.stack q).below = raises_held t (w.stack q).below in omega (arith, a, b, n, e)))

-- what a party raises is made
pub raiser_made : (w : World) → CallsHold w → (q : Party) (t : ℕ) → 1 ≤ all_raises t (w.stack q) → t + 1 ≤ w.jobs
raiser_made w h q t n = elim (raiser w h q t n) [ inl a ↦ made_held w h.jobs q t a | inr v ↦ v.made ]

-- nobody raises what is not made
pub unmade_raises : (w : World) → CallsHold w → (q : Party) (t : ℕ) → w.jobs ≤ t → all_raises t (w.stack q) ≡ 0
unmade_raises w h q t b = by (all_raises t (w.stack q)) refl
  where
    by : (k : ℕ) → all_raises t (w.stack q) ≡ k → all_raises t (w.stack q) ≡ 0
    by zero e = e
    by (suc k) e = absurd (let a : t + 1 ≤ w.jobs = raiser_made w h q t (let c : 1 ≤ all_raises t (w.stack q) = omega (arith, e) in c) in omega (arith, a, b))

abbrev whole_party : JobKind → Party
whole_party (WholeOf c o) = o
whole_party _ = Caller 0

-- two parties never raise the count for one job
pub one_raiser : (w : World) → CallsHold w → (q s : Party) (t : ℕ) → same_party s q ≡ false → 1 ≤ all_raises t (w.stack q) → 1 ≤ all_raises t (w.stack s) → ⊥
one_raiser w h q s t e a b = elim (raiser w h q t a) [
  | inl n ↦ elim (raiser w h s t b) [
    | inl m ↦ absurd (let i : is_loc (Hand s) (loc_at (w.job t)) ≡ one (same_party s q) = ap (is_loc (Hand s)) (at q n) in let j : held t (w.stack s) ≡ is_loc (Hand s) (loc_at (w.job t)) = (((h.jobs).ok).placed) (Hand s) t in let k : one (same_party s q) ≡ 0 = ap one e in omega (arith, i, j, k, m))
    | inr v ↦ off q s n v
  ]
  | inr u ↦ elim (raiser w h s t b) [
    | inl m ↦ off s q m u
    | inr v ↦ absurd (let i : q ≡ s = ap whole_party (sym u.kind ∙ v.kind) in let j : same_party s q ≡ true = ap (same_party s) i ∙ same_party_refl s in cc)
  ]
]
  where
    at : (r : Party) → 1 ≤ held t (w.stack r) → loc_at (w.job t) ≡ Some (Hand r)
    at r n = where_is (Hand r) (loc_at (w.job t)) (let j : held t (w.stack r) ≡ is_loc (Hand r) (loc_at (w.job t)) = (((h.jobs).ok).placed) (Hand r) t in omega (arith, n, j))

    off : (r g : Party) → 1 ≤ held t (w.stack r) → Whole w g t → ⊥
    off r g n v = absurd (let i : loc_at (w.job t) ≡ Some (Hand r) = at r n in let j : loc_at (w.job t) ≡ None = ap (λ x. loc_of x (w.job t).runs) v.spent in let k : Some (Hand r) ≡ None = sym i ∙ j in cc)
