-- One piece more of a broadcast.
use Rattle.std.specs.Prelude.{◌≡◌, ℕ, ◌+◌, ◌++◌, [], ◌∷◌, List}
use Rattle.std.proofs.Common.{ap, ◌∙◌}
use native.Mathlib.Numerals.{unary_clauses}
use Rattle.rayon_tasks.specs.Pieces.{piece_with, pieces_for}
use Rattle.rayon_tasks.specs.Tasks.{TaskOf}
use Rattle.rayon_tasks.specs.Tickets.{TicketOf}

module _ {J : Type 0} where
  -- the pieces for one worker more
  next_piece : (u : TicketOf) (first n : ℕ) → pieces_for {J = J} u first n ++ piece_with u (first + n) ∷ [] ≡ pieces_for u first (n + 1)
  next_piece u first n = simp unary_clauses

  pub one_more : (u : TicketOf) (first n : ℕ) (xs ys : List (TaskOf J)) (x : TaskOf J) → xs ≡ pieces_for u first n → ys ≡ xs ++ x ∷ [] → x ≡ piece_with u (first + n) → ys ≡ pieces_for u first (n + 1)
  one_more u first n xs ys x a b c = b ∙ ap (λ zs. zs ++ x ∷ []) a ∙ ap (λ z. pieces_for u first n ++ z ∷ []) c ∙ next_piece u first n
