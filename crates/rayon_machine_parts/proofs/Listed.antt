-- a seat after a write to one of its FIFO lists, and a list of seats after a write to one of them
use Rattle.std.proofs.Common.{◌≡◌, ℕ, zero, suc, ◌<◌, Bool, true, false, List, [], ◌∷◌, length, refl, sym, ◌∙◌, ap, subst, arith}
use Rattle.std.specs.Prelude.{Option, Some, None, IsSomeAnd, OnOk, Result, Ok, Err, if◌then◌else◌, ◌==◌, get_or, slice_get, slice_set}
use Rattle.std.proofs.lemmas.Bool.{eq-eqb, eqb-true}
use Rattle.rayon_machine_places.specs.declared.place.Party.{Party}
use Rattle.rayon_machine_runs.specs.World.{put_list}
use Rattle.rayon_machine_parts.specs.declared.parts.FifoList.{FifoList}
use Rattle.rayon_machine_parts.specs.declared.parts.Seat.{Seat as StoredSeat}
use Rattle.rayon_machine_parts.specs.State.{blank_seat, feeder_of, fifo_of, holder_in, jobs_in, seat_in, seat_of}
use Rattle.rayon_machine_parts.proofs.AfterWrites.{get-set, read-set}

-- what is stored has an index below the length
pub is-stored : {X : Type 0} (P : X → Type 0) (xs : List X) (n : ℕ) → IsSomeAnd (slice_get xs n) P → n < length xs
is-stored P [] n h = absurd h
is-stored P (x ∷ xs) zero h = omega arith
is-stored P (x ∷ xs) (suc n) h = let a : n < length xs = is-stored P xs n h in omega (arith, a)

-- a FIFO list that is stored, by its index
pub jobs-there : (xs : List FifoList) (n : ℕ) (d : FifoList) → n < length xs → (get_or xs n d).jobs.items ≡ jobs_in xs n
jobs-there [] n d h = absurd (omega (arith, h))
jobs-there (x ∷ xs) zero d h = refl
jobs-there (x ∷ xs) (suc n) d h = jobs-there xs n d (omega (arith, h))

pub holder-there : (xs : List FifoList) (n : ℕ) (d : FifoList) → n < length xs → (get_or xs n d).holder ≡ holder_in xs n
holder-there [] n d h = absurd (omega (arith, h))
holder-there (x ∷ xs) zero d h = refl
holder-there (x ∷ xs) (suc n) d h = holder-there xs n d (omega (arith, h))

-- a seat that is stored, by its index
pub seat-there : (xs : List StoredSeat) (n : ℕ) (d : StoredSeat) → n < length xs → seat_of (get_or xs n d) ≡ seat_in xs n
seat-there [] n d h = absurd (omega (arith, h))
seat-there (x ∷ xs) zero d h = refl
seat-there (x ∷ xs) (suc n) d h = seat-there xs n d (omega (arith, h))

-- one list of a scope is another: so are the seat's lists
pub fifo-set : (d : FifoList) (xs : List FifoList) (n : ℕ) (v : FifoList) (new : List ℕ) → n < length xs → v.jobs.items ≡ new → (b : Option ℕ) → fifo_of d (slice_set xs n v) b ≡ put_list (fifo_of d xs) (Some n) new b
fifo-set d xs n v new h e None = refl
fifo-set d xs n v new h e (Some k) = read-set (λ (x : FifoList). x.jobs.items) [] xs n k v h ∙ ap (λ (z : List ℕ). if k == n then z else jobs_in xs k) e

pub feeder-set : (d : FifoList) (xs : List FifoList) (n : ℕ) (v : FifoList) (new : Option Party) → n < length xs → v.holder ≡ new → (b : Option ℕ) → feeder_of d (slice_set xs n v) b ≡ put_list (feeder_of d xs) (Some n) new b
feeder-set d xs n v new h e None = refl
feeder-set d xs n v new h e (Some k) = read-set (λ (x : FifoList). x.holder) None xs n k v h ∙ ap (λ (z : Option Party). if k == n then z else holder_in xs k) e

-- a seat that reads as before is put back
pub seat-kept : (xs : List StoredSeat) (n : ℕ) (v : StoredSeat) → n < length xs → seat_of v ≡ seat_in xs n → (i : ℕ) → seat_in (slice_set xs n v) i ≡ seat_in xs i
seat-kept xs n v h e i = read-set seat_of blank_seat xs n i v h ∙ by (i == n) refl
  where
    by : (z : Bool) → (i == n) ≡ z → (if z then seat_of v else seat_in xs i) ≡ seat_in xs i
    by true k = e ∙ ap (seat_in xs) (sym (eqb-true i n k))
    by false k = refl

-- what holds of an item holds of it where it is stored
pub stored-holds : {X : Type 0} (P : X → Type 0) (xs : List X) (n : ℕ) (v : X) → n < length xs → P v → IsSomeAnd (slice_get (slice_set xs n v) n) P
stored-holds P xs n v h p =
    let same : (n == n) ≡ true = eq-eqb n n refl in
    let there : slice_get (slice_set xs n v) n ≡ Some v = get-set xs n n v h ∙ ap (λ z. if z then Some v else slice_get xs n) same in
    subst (λ o. IsSomeAnd o P) (sym there) p

-- two things that hold where an answer is Ok, and what follows of both
pub on-both : {A E : Type 0} (r : Result A E) {P Q R : Type 0} → (P → Q → R) → OnOk r P → OnOk r Q → OnOk r R
on-both (Ok a) f p q = f p q
on-both (Err e) f p q = tt
