-- Threads that are taken one after the other.
use Rattle.std.proofs.Common.{◌≡◌, ℕ, zero, suc, ◌+◌, List, [], ◌∷◌, ◌++◌, Some, drop, slice_get, true, false, true≢false, ap, arith, Option}
use Rattle.std.specs.List.{range_with_len}
use Rattle.std.proofs.lemmas.Fn.{FoldsTo-push}
use Rattle.std.proofs.lemmas.List.{map-id}
use Rattle.std.proofs.lemmas.List.FromFn.{map-range_with_len_more}
use Rattle.rayon_core.specs.Threads.{Thread, Took, TookFirst}
use Rattle.rayon_registry.specs.Worker.{Pool}

-- a number more
range_more : (n : ℕ) → range_with_len 0 (n + 1) ≡ range_with_len 0 n ++ (n ∷ [])
range_more n =
    let whole = map-id (range_with_len 0 (n + 1)) in
    let front = map-id (range_with_len 0 n) in
    let more = map-range_with_len_more (λ (x : ℕ). x) 0 n n (omega arith) in
    rw front at (rw whole at more)

no_list : {D : Type 0} (x : D) (rest : List D) → [] ≡ x ∷ rest → ⊥
no_list x rest e = true≢false (ap (λ (l : List _). elim l [ [] ↦ true | y ∷ ys ↦ false ]) e)

-- of what comes by index from this one on, the first is the one of this index, and the others come from the next one on
pub next_of_row : {D : Type 0} (all : List D) (n : ℕ) (x : D) (rest : List D) → drop n all ≡ x ∷ rest → (slice_get all n ≡ Some x) × (drop (suc n) all ≡ rest)
next_of_row [] zero x rest e = absurd (no_list x rest e)
next_of_row [] (suc n) x rest e = absurd (no_list x rest e)
next_of_row (y ∷ ys) zero x rest e = (ap (λ l. slice_get l 0) e, ap (λ l. drop 1 l) e)
next_of_row (y ∷ ys) (suc n) x rest e = next_of_row ys n x rest e

-- what names threads, and what starts them
module _ {N S : Type 0} (named : N → ℕ → Option (List ℕ) → N → Type 0) (taken : S → Thread → S → Type 0) where
  -- the thread of the next index
  pub took_more : (pool : Pool) (stack : Option ℕ) (s t u : N × S) (n i m : ℕ) → i ≡ n → m ≡ n + 1 → TookFirst named taken pool stack s n t → Took named taken pool stack t i u → TookFirst named taken pool stack s m u
  took_more pool stack s t u n i m is more first next =
      let all = FoldsTo-push (Took named taken pool stack) s (range_with_len 0 n) t n u first (rw is at next) in
      rw more (rw (range_more n) all)

  -- of all workers of the pool
  pub took_all : (pool same : Pool) (stack : Option ℕ) (s u : N × S) (n : ℕ) → same ≡ pool → n ≡ pool.workers → TookFirst named taken pool stack s n u → TookFirst named taken same stack s same.workers u
  took_all pool same stack s u n is count first = rw is (rw count at first)
