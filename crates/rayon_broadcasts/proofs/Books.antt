-- What the runs of a broadcast's pieces give, from the first on.
use Rattle.std.proofs.Common.{refl, ◌≡◌, ℕ, ◌+◌, ◌<◌, ◌≤◌, Bool, true, List, ◌∷◌, [], ◌++◌, length, get_or, slice_get, Result, Ok, Option, Some, None, inl, inr, ap, sym, ◌∙◌, subst, arith}
use Rattle.std.proofs.lemmas.Bool.{cases_eq}
use Rattle.std.proofs.lemmas.List.{get_or_append_left, get_or_push, length_push}
use Rattle.std.proofs.lemmas.Option.{none-some, slice_get_cases, slice_get_within, slice_get-get_or, slice_get_read, get_or_from_slice_get}
use Rattle.rayon_jobs.specs.Within.{Run, Within}
use Rattle.rayon_broadcasts.specs.declared.piece_outputs.NoAnswers.{NoAnswers}
use Rattle.rayon_broadcasts.specs.declared.piece_outputs.NoAnswers.TheVariants.{Missing, Foreign, Fault}
use Rattle.rayon_broadcasts.specs.Books.{IsOf, Answered, Bars, AnswersAt, AreOutputs, FineBelow, Lacks, LacksAt, IsAllowed}

module _ {T O F : Type 0} (same : T → T → Bool) (answers : T → Result O F → Type 0) (answers_on : T → ℕ → ℕ → Result O F → Type 0) where
  -- equal tags are one tag to both relations
  abbrev pub SameAnswers : Type 0
  SameAnswers = (t u : T) → same t u ≡ true → ((r : Result O F) → answers t r → answers u r) × ((i n : ℕ) (r : Result O F) → answers_on t i n r → answers_on u i n r)

  -- what a piece's run answered is allowed at an equal tag
  pub answered : SameAnswers → (tag : T) (n i : ℕ) (r : Run T O F) (answer : Result O F) → IsOf same tag n i r → r.answer ≡ answer → Within answers answers_on r → Answered same (answers_on tag) tag n i r answer
  answered law tag n i r answer is e within =
      let P : Option (ℕ × ℕ) → Type 0 = λ p. elim p [ None ↦ answers r.tag r.answer | Some q ↦ answers_on r.tag q.0 q.1 r.answer ] in
      let Q : Result O F → Type 0 = λ a. answers_on tag i n a in
      (is, e, subst Q e ((law r.tag tag is.0).1 i n r.answer (subst P is.1 within)))

module _ {T O F : Type 0} (same : T → T → Bool) (allows : ℕ → ℕ → Result O F → Type 0) (tag : T) (n : ℕ) (runs : List (Run T O F)) where
  -- these are outputs of the first pieces
  abbrev pub HasOutputs : List O → Type 0
  HasOutputs ready =
      (i : ℕ) (o : O) → slice_get ready i ≡ Some o → AnswersAt same allows tag n runs i (Ok o)

  -- none are
  pub no_outputs : (ready : List O) → ready ≡ [] → HasOutputs ready
  no_outputs ready e i o at =
      let P : List O → Type 0 = λ l. slice_get l i ≡ Some o in
      absurd (none-some o (subst P e at))

  -- each piece below their number answered an output
  pub fine_below : (ready : List O) (k : ℕ) → length ready ≡ k → HasOutputs ready → FineBelow same allows tag n runs k
  fine_below ready k len h i lt =
      elim (slice_get_cases ready i).1 [
        | inl c ↦ (c.0, h i c.0 c.2)
        | inr c ↦ absurd (omega (arith, c.0, lt, len))
      ]

  -- an output more, at the end
  with_last : (ready : List O) (k : ℕ) (o : O) → length ready ≡ k → AnswersAt same allows tag n runs k (Ok o) → HasOutputs ready → HasOutputs (ready ++ o ∷ [])
  with_last ready k o len at h i p e =
      let lt : i < length ready + 1 = omega (arith, length_push ready o, slice_get_within (ready ++ o ∷ []) i p e) in
      let is : get_or (ready ++ o ∷ []) i p ≡ p = get_or_from_slice_get (ready ++ o ∷ []) i p p e in
      elim (cases_eq i k) [
        | inl same_index ↦
            let o_is : o ≡ p = sym (get_or_push ready o p i (len ∙ sym same_index)) ∙ is in
            rw (sym o_is) (rw same_index at)
        | inr ne ↦
            let within : i < length ready = omega (arith, lt, len, ne) in
            h i p (slice_get-get_or ready i p within ∙ ap Some (sym (get_or_append_left ready (o ∷ []) p i within) ∙ is))
      ]

  module _ (ready : List O) (k i m : ℕ) (run : Run T O F) (len : length ready ≡ k) (ei : i ≡ k) (em : m ≡ n) (lt : k < length runs) (at : run ≡ get_or runs k run) (h : HasOutputs ready) where
    -- what the run after them answered is an output more
    pub one_more : (o : O) → Answered same allows tag m i run (Ok o) → HasOutputs (ready ++ o ∷ [])
    one_more o a =
        let P : ℕ → Type 0 = λ x. Answered same allows tag m x run (Ok o) in
        let Q : ℕ → Type 0 = λ x. Answered same allows tag x k run (Ok o) in
        with_last ready k o len (run, slice_get_read runs (length runs) k run refl lt at, subst Q em (subst P ei a)) h

    -- or says why there are none
    pub no_more : (e : NoAnswers F) → Bars same allows tag m i run e → LacksAt same allows tag n runs e
    no_more e b =
        let P : ℕ → Type 0 = λ x. Bars same allows tag m x run e in
        let Q : ℕ → Type 0 = λ x. Bars same allows tag x k run e in
        (k, run, fine_below ready k len h, slice_get_read runs (length runs) k run refl lt at, subst Q em (subst P ei b))

-- what is allowed of outputs, and of a fault
module _ {T O F : Type 0} (same : T → T → Bool) (allows : ℕ → ℕ → Result O F → Type 0) (tag : T) (n : ℕ) (runs : List (Run T O F)) where
  pub allowed : (outputs : List O) → AreOutputs same allows tag n runs outputs → (i : ℕ) (o : O) → slice_get outputs i ≡ Some o → allows i n (Ok o)
  allowed outputs h i o e = (h.1 i o e).2.2

  -- of no more runs than workers the first without an output says why there are none
  pub lacks : (e : NoAnswers F) → length runs ≤ n → LacksAt same allows tag n runs e → Lacks same allows tag n runs e
  lacks Missing len h = absurd h.4
  lacks Foreign len h = (len, h)
  lacks (Fault f) len h = (len, h)

  pub fault_allowed : (e : NoAnswers F) → Lacks same allows tag n runs e → IsAllowed allows n e
  fault_allowed Missing h = tt
  fault_allowed Foreign h = tt
  fault_allowed (Fault f) h =
      (h.1.0, omega (arith, h.0, slice_get_within runs h.1.0 h.1.1 h.1.3), h.1.4.2, λ i lt. let below = h.1.2 i lt in (below.0, below.1.2.2))
