-- How the workers' lists change where one queue does.
use Rattle.std.proofs.Common.{refl, ◌≡◌, ◌≢◌, ℕ, suc, ◌+◌, ◌<◌, ◌≤◌, List, [], ◌∷◌, ◌++◌, length, drop, get_or, set, Option, Some, None, MatchOption, option_to_list, sym, ◌∙◌, ap, inl, inr, zero-add, arith}
use Rattle.std.proofs.lemmas.List.{length-map, get_or-map, get_or-set_same, get_or-set_other, set-get_or, map-set, length-set, get_or_default}
use Rattle.std.proofs.lemmas.List.FromFn.{length-enumerate_from, get_or-enumerate_from}
use Rattle.std.specs.List.{enumerate_from}
use Rattle.std.proofs.lemmas.Option.{get_or_from_slice_get, slice_get_within}
use Rattle.std.proofs.lemmas.Bool.{cases_eq}
use Rattle.std.specs.declared.alloc.Global.{Global}
use Rattle.std.specs.declared.collections.VecDeque.{VecDeque}
use Rattle.rayon_broadcasts.specs.Lists.{list_of, items_of, PushedEach}

-- a list that its tail equals is empty
nil_from_tail : {T : Type 0} (xs : List T) → xs ≡ drop 1 xs → xs ≡ []
nil_from_tail [] e = refl
nil_from_tail (x ∷ xs) e =
    let h : suc (length xs) ≡ length xs = ap (λ l. length l) e in
    absurd (omega (arith, h))

-- what a take from a worker's list answers and leaves
abbrev pub IsTaken : {T : Type 0} → List (List T) → ℕ → Option T → List (List T) → Type 0
IsTaken xs w r ys = MatchOption r
    ((list_of xs w ≡ []) × (ys ≡ xs))
    (λ piece. (list_of xs w ≡ piece ∷ list_of ys w) × (ys ≡ set xs w (list_of ys w)))

-- the same of a list that is known
abbrev pub IsOldest : {T : Type 0} → List (List T) → ℕ → Option T → List (List T) → Type 0
IsOldest {T} xs w r ys =
    (piece : T) (rest : List T) → list_of xs w ≡ piece ∷ rest → (r ≡ Some piece) × (ys ≡ set xs w rest)

module _ {T : Type 0} (xs : List (List T)) (w : ℕ) (old new : List T) where
  -- what was the worker's list becomes this
  taken_of : (r : Option T) → w < length xs → list_of xs w ≡ old → old ≡ option_to_list r ++ new → new ≡ drop 1 old → IsTaken xs w r (set xs w new)
  taken_of None lt is e d =
      (is ∙ nil_from_tail old (e ∙ d), ap (λ l. set xs w l) (sym (is ∙ e)) ∙ set-get_or xs w [])
  taken_of (Some x) lt is e d =
      let at : list_of (set xs w new) w ≡ new = get_or-set_same xs w new [] lt in
      (is ∙ e ∙ ap (λ l. x ∷ l) (sym at), ap (λ l. set xs w l) (sym at))

  oldest_of : (r : Option T) → list_of xs w ≡ old → old ≡ option_to_list r ++ new → new ≡ drop 1 old → IsOldest xs w r (set xs w new)
  oldest_of None is e d piece rest h =
      let bad : piece ∷ rest ≡ [] = sym h ∙ is ∙ nil_from_tail old (e ∙ d) in
      absurd cc
  oldest_of (Some x) is e d piece rest h =
      let same : x ∷ new ≡ piece ∷ rest = sym e ∙ sym is ∙ h in
      let left : new ≡ rest = cc in
      (cc, ap (λ l. set xs w l) left)

module _ {T : Type 0} where
  -- the list of a worker whose queue this is
  pub list_of_queue : (qs : List (VecDeque T Global)) (w : ℕ) (q : VecDeque T Global) → w < length qs → list_of (items_of qs) w ≡ (get_or qs w q).items
  list_of_queue qs w q lt = get_or-map (λ q. q.items) qs w q [] lt

  module _ (qs : List (VecDeque T Global)) (w : ℕ) (q after : VecDeque T Global) (r : Option T) (at : q ≡ get_or qs w q) (lt : w < length qs) where
    -- what was the worker's queue becomes this
    module _ (v : List (List T)) (is : items_of qs ≡ v) (e : q.items ≡ option_to_list r ++ after.items) (d : after.items ≡ drop 1 q.items) where
      now : items_of (set qs w after) ≡ set (items_of qs) w after.items
      now = map-set (λ q. q.items) qs w after

      old : list_of (items_of qs) w ≡ q.items
      old = list_of_queue qs w q lt ∙ ap (λ q. q.items) (sym at)

      pub taken : IsTaken v w r (items_of (set qs w after))
      taken =
          let within : w < length (items_of qs) = rw (length-map qs (λ q. q.items)) lt in
          rw (sym is) (rw now (taken_of (items_of qs) w q.items after.items r within old e d))

      pub oldest : IsOldest v w r (items_of (set qs w after))
      oldest = rw (sym is) (rw now (oldest_of (items_of qs) w q.items after.items r old e d))

  -- a queue that holds the same leaves the lists as they were
  pub same_items : (qs : List (VecDeque T Global)) (w : ℕ) (q after : VecDeque T Global) → w < length qs → after.items ≡ (get_or qs w q).items → items_of (set qs w after) ≡ items_of qs
  same_items qs w q after lt e =
      map-set (λ q. q.items) qs w after
      ∙ ap (λ l. set (items_of qs) w l) (e ∙ sym (list_of_queue qs w q lt))
      ∙ set-get_or (items_of qs) w []

  -- the pair that an enumeration gives at an index: the index, and what the list has there
  pub turn_of : (xs : List T) (n i : ℕ) (x : T) → n < length (enumerate_from 0 xs) → (i, x) ≡ get_or (enumerate_from 0 xs) n (i, x) → (n < length xs) × (i ≡ n) × ((d : T) → x ≡ get_or xs n d)
  turn_of xs n i x lt e =
      let within : n < length xs = rw (sym (length-enumerate_from 0 xs)) lt in
      let p : (i, x) ≡ (0 + n, get_or xs n x) = e ∙ get_or-enumerate_from 0 xs n (i, x) within in
      (within, ap (λ q. q.0) p ∙ zero-add n, λ d. ap (λ q. q.1) p ∙ get_or_default xs n x d within)

  -- the first so many queues have their pieces, and the others are as before
  abbrev pub IsPushedTo : List (VecDeque T Global) → List T → List (VecDeque T Global) → ℕ → Type 0
  IsPushedTo before pieces now n =
      ((j : ℕ) (d : T) → j < n → list_of (items_of now) j ≡ list_of (items_of before) j ++ get_or pieces j d ∷ [])
      × ((j : ℕ) (q : VecDeque T Global) → n ≤ j → get_or now j q ≡ get_or before j q)

  module _ (before : List (VecDeque T Global)) (pieces : List T) (now : List (VecDeque T Global)) (same : length now ≡ length before) where
    -- one queue more has its piece
    pub pushed_more : (n : ℕ) (q after : VecDeque T Global) (piece : T) → n < length before → after.items ≡ (get_or now n q).items ++ piece ∷ [] → ((d : T) → piece ≡ get_or pieces n d) → IsPushedTo before pieces now n → IsPushedTo before pieces (set now n after) (n + 1)
    pushed_more n q after piece lt e is h =
        let in_now : n < length now = omega (arith, same) in
        let in_set : n < length (set now n after) = omega (arith, same, length-set now n after) in
        let old : list_of (items_of before) n ≡ (get_or now n q).items = list_of_queue before n q lt ∙ ap (λ q. q.items) (sym (h.1 n q (omega arith))) in
        let set_now : list_of (items_of (set now n after)) n ≡ after.items = list_of_queue (set now n after) n after in_set ∙ ap (λ q. q.items) (get_or-set_same now n after after in_now) in
        let new : (d : T) → list_of (items_of (set now n after)) n ≡ list_of (items_of before) n ++ get_or pieces n d ∷ [] = λ d. rw old (rw (sym (is d)) (set_now ∙ e)) in
        let other : (j : ℕ) → j ≢ n → list_of (items_of (set now n after)) j ≡ list_of (items_of now) j = λ j ne. ap (λ l. list_of l j) (map-set (λ q. q.items) now n after) ∙ get_or-set_other (items_of now) n j after.items [] ne in (
          λ j d l. elim (cases_eq j n) [
            | inl same_index ↦ rw same_index (new d)
            | inr ne ↦ other j ne ∙ h.0 j d (omega (arith, ne))
          ],
          λ j d l. get_or-set_other now n j after d (omega arith) ∙ h.1 j d (omega arith),
        )

    -- each queue has its piece
    pub pushed_all : length pieces ≡ length before → IsPushedTo before pieces now (length pieces) → PushedEach (items_of before) pieces (items_of now)
    pushed_all number h =
        let workers : length before ≡ length (items_of before) = sym (length-map before (λ q. q.items)) in
        (number ∙ workers, length-map now (λ q. q.items) ∙ same ∙ workers, λ w piece e. h.0 w piece (slice_get_within pieces w piece e) ∙ ap (λ p. list_of (items_of before) w ++ p ∷ []) (get_or_from_slice_get pieces w piece piece e))
