-- The receipts of the pieces of a broadcast.
use Rattle.std.specs.Prelude.{◌≡◌, ℕ, ◌+◌, ◌++◌, [], ◌∷◌, List, Some}
use Rattle.std.proofs.Common.{ap, ◌∙◌}
use Rattle.std.proofs.lemmas.List.{append_assoc}
use native.Mathlib.Numerals.{unary_clauses}
use Rattle.rayon_books.specs.declared.receipt.Receipt.{Receipt}
use Rattle.rayon_registry.specs.Scopes.{piece_receipts}

module _ {G : Type 0} (g : G) (n w : ℕ) where
  -- the receipt of the piece of this worker
  abbrev receipt_of : ℕ → Receipt G
  receipt_of i = record { number = n + i; tag = g; place = Some (i, w) }

  next_receipt : (i : ℕ) → piece_receipts g n w i ++ receipt_of i ∷ [] ≡ piece_receipts g n w (i + 1)
  next_receipt i = simp unary_clauses

  -- those of one piece more
  pub one_receipt_more : (i : ℕ) (kept xs ys : List (Receipt G)) (r : Receipt G) → xs ≡ kept ++ piece_receipts g n w i → ys ≡ xs ++ r ∷ [] → r ≡ receipt_of i → ys ≡ kept ++ piece_receipts g n w (i + 1)
  one_receipt_more i kept xs ys r a b c =
      b
      ∙ ap (λ z. z ++ r ∷ []) a
      ∙ append_assoc kept (piece_receipts g n w i) (r ∷ [])
      ∙ ap (λ z. kept ++ (piece_receipts g n w i ++ z ∷ [])) c
      ∙ ap (λ z. kept ++ z) (next_receipt i)
