-- The count of a scope, and the pieces that have shares of it.
use Rattle.std.proofs.Common.{◌≡◌, ◌∙◌, ◌+◌, ◌++◌, [], ◌∷◌, List, ℕ, Option, None, Some, refl, ap}
use Rattle.std.specs.Prelude.{IsSome}
use native.Mathlib.Numerals.{unary_clauses}
use Rattle.rayon_machine_places.specs.declared.place.Count.{Count}
use Rattle.rayon_machine_places.specs.declared.place.Count.TheVariants.{OfCast, OfPool, OfScope}
use Rattle.rayon_machine_places.specs.declared.place.Party.{Party}
use Rattle.rayon_machine_places.specs.declared.place.Pieces.{Pieces}
use Rattle.rayon_drive.specs.declared.trace.Log.{Log}
use Rattle.rayon_tasks.specs.Tasks.{TaskOf}
use Rattle.rayon_tasks.specs.Tickets.{CoreOf, TicketOf}
use Rattle.rayon_shared.specs.Casts.{AreTasksOf, JustNumbered, TasksBy, numbered_piece, numbered_pieces}
use Rattle.rayon_shared.specs.Marks.{IsCountOf, IsScope}

-- what is so of the count of each scope that has this call is so of a count that is this scope's
pub of_scope : (P : Count → Type 0) (z : Option CoreOf) (k : Count) → IsCountOf z k → ((c : ℕ) (o : Party) → IsScope z c → P (OfScope c o)) → P k
of_scope P z (OfScope c o) e f = f c o e
of_scope P z (OfPool p) e f = absurd e
of_scope P z (OfCast c o) e f = absurd e

scope_there : (z : Option CoreOf) (c : ℕ) → IsScope z c → IsSome z
scope_there None c e = absurd e
scope_there (Some k) c e = refl

-- a scope whose count it is is there
pub scope_some : (z : Option CoreOf) (k : Count) → IsCountOf z k → IsSome z
scope_some z k e = of_scope (λ _. IsSome z) z k e (λ c o f. scope_there z c f)

-- pieces that are numbered as the last act says are those of a broadcast into the scope whose count they have shares of
pub are_numbered : {X : Type 0} (c : Pieces) (q : Party) (v : Log) (u : TicketOf) (k : ℕ) (ts : List (TaskOf X)) → IsCountOf u.scope c.count → JustNumbered c k v → ts ≡ numbered_pieces u c.first k c.workers → AreTasksOf q v c ts
are_numbered c q v u k ts is just made = of_scope (λ (z : Count). TasksBy z q v c ts) u.scope c.count is (λ n o e. (u, k, e, just, made))

module _ {X : Type 0} where
  -- the pieces for one worker more
  next_numbered : (u : TicketOf) (a k n : ℕ) → numbered_pieces {X = X} u a k n ++ numbered_piece u (a + n) (k + n) ∷ [] ≡ numbered_pieces u a k (n + 1)
  next_numbered u a k n = simp unary_clauses

  pub one_numbered_more : (u : TicketOf) (a k n : ℕ) (xs ys : List (TaskOf X)) (x : TaskOf X) → xs ≡ numbered_pieces u a k n → ys ≡ xs ++ x ∷ [] → x ≡ numbered_piece u (a + n) (k + n) → ys ≡ numbered_pieces u a k (n + 1)
  one_numbered_more u a k n xs ys x e f g = f ∙ ap (λ zs. zs ++ x ∷ []) e ∙ ap (λ z. numbered_pieces u a k n ++ z ∷ []) g ∙ next_numbered u a k n
