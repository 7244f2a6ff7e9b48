use Rattle.std.proofs.Common.{◌≡◌, ◌⊎◌, inl, inr, Result, Ok, Err, refl, sym, subst}
use Rattle.std.specs.Result.{is_err}
use Rattle.rayon_jobs.specs.declared.lost.Lost.{Lost}
use Rattle.rayon_jobs.specs.declared.lost.Lost.TheVariants.{Foreign, Missing}
use Rattle.rayon_machine_places.specs.declared.place.Ending.{Ending}
use Rattle.rayon_machine_places.specs.declared.place.Ending.TheVariants.{Fault, Fine}
use Rattle.rayon_words.specs.declared.refusal.CallError.{CallError}
use Rattle.rayon_registry.specs.Acts.{CallMade, ended_so}
use Rattle.rayon_registry.specs.Answers.{joined, JoinAnswers}
use Rattle.std.specs.Prelude.{IfOk}

-- a join of a closure and a job answers what it may, by a run of the closure, by what that was told, and by
-- what a job's run may answer
pub closure_join_answers : {X Y F B W C : Type 0} (post : W → C → Result X F → W → C → Type 0) (told : C → Type 0) (second : Result Y F → Type 0) (sides : B)
    (w v : W) (c k : C) (ended : Result X F) (r : Result (X × Y) (CallError F B))
    → post w c ended v k
    → told c
    → IfOk r (λ x. (ended ≡ Ok x.0) × second (Ok x.1))
    → ((f : F) → r ≡ Err (CallError.Fault f) → (ended ≡ Err f) ⊎ (((x : X) × (ended ≡ Ok x)) × second (Err f)))
    → ((e : _) (back : B) → r ≡ Err (CallError.Refused e back) → back ≡ sides)
    → JoinAnswers (λ a. (w : W) × (c : C) × (v : W) × (k : C) × post w c a v k × told c) second sides r
closure_join_answers post told second sides w v c k ended (Ok x) h t ok fault back = ((w, c, v, k, rw ok.0 at h, t), ok.1)
closure_join_answers post told second sides w v c k ended (Err (CallError.Fault f)) h t ok fault back =
    elim (fault f refl) [
      | inl p ↦ inl (w, c, v, k, rw p at h, t)
      | inr q ↦ inr ((q.0.0, (w, c, v, k, rw q.0.1 at h, t)), q.1)
    ]
closure_join_answers post told second sides w v c k ended (Err (CallError.Refused e b)) h t ok fault back = back e b refl
closure_join_answers post told second sides w v c k ended (Err CallError.Foreign) h t ok fault back = tt
closure_join_answers post told second sides w v c k ended (Err CallError.Missing) h t ok fault back = tt

-- a join has made the acts of one whose first side ended as it did, by what it answers
module _ {X Y F : Type 0} (made : Ending → Type 0) (back : Type 0) where
  made_by : (B : Type 0) (first : Result X F) (second : Result (Result Y F) Lost) → made (ended_so (is_err first)) → CallMade (made Fine) ((e : Ending) × made e) back (joined {B = B} first second)
  made_by B (Err f) s m = (Fault, m)
  made_by B (Ok x) (Err Missing) m = m
  made_by B (Ok x) (Err Foreign) m = m
  made_by B (Ok x) (Ok (Err f)) m = (Fine, m)
  made_by B (Ok x) (Ok (Ok y)) m = m

  pub closure_join_made : {B : Type 0} (first : Result X F) (second : Result (Result Y F) Lost) (r : Result (X × Y) (CallError F B)) → r ≡ joined first second → made (ended_so (is_err first)) → CallMade (made Fine) ((e : Ending) × made e) back r
  closure_join_made {B} first second r e m = subst (λ (z : Result (X × Y) (CallError F B)). CallMade (made Fine) ((e : Ending) × made e) back z) (sym e) (made_by B first second m)
