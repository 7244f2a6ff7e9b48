-- the pieces of a broadcast, written one after the other
use Rattle.std.proofs.Common.{◌≡◌, ℕ, zero, suc, ◌+◌, ◌-◌, ◌<◌, ◌≤◌, Bool, true, false, List, [], ◌∷◌, ◌++◌, length, refl, sym, ◌∙◌, ap, subst, arith, length-set}
use Rattle.std.specs.Prelude.{Some, IsSomeAnd, if◌then◌else◌, ◌==◌, ◌&&◌, get_or, nat_le, nat_lt, slice_get, slice_set}
use Rattle.std.proofs.lemmas.Bool.{eqb-true}
use Rattle.std.proofs.lemmas.Bool.Decides.{nat_tests}
use Rattle.rayon_machine_places.specs.declared.place.Pieces.{Pieces}
use Rattle.rayon_machine_runs.specs.declared.state.Job.{Job}
use Rattle.rayon_machine_runs.specs.Steps.{blank_job, put_pieces}
use Rattle.rayon_machine_runs.specs.World.{casts_with}
use Rattle.rayon_machine_parts.specs.declared.parts.CastList.{CastList}
use Rattle.rayon_machine_parts.specs.State.{CastsFrom, cast_at, job_at}
use Rattle.std.specs.VecDeque.{deque_capacity, deque_len}
use Rattle.rayon_machine_parts.proofs.AfterWrites.{get-set, read-set}

last-piece : (a k t : ℕ) → (t == (a + k)) ≡ true → (nat_le a t && nat_lt t (a + (k + 1))) ≡ true
last-piece a k t e = grind (arith, nat_tests)

no-piece : (a k t : ℕ) → (t == (a + k)) ≡ true → (nat_le a t && nat_lt t (a + k)) ≡ false
no-piece a k t e = grind (arith, nat_tests)

same-piece : (a k t : ℕ) → (t == (a + k)) ≡ false → (nat_le a t && nat_lt t (a + (k + 1))) ≡ (nat_le a t && nat_lt t (a + k))
same-piece a k t e = grind (arith, nat_tests)

place-of : (a k t : ℕ) → (t == (a + k)) ≡ true → t - a ≡ k
place-of a k t e = let is : t ≡ a + k = eqb-true t (a + k) e in omega (arith, is)

-- one more piece is written: all jobs are as where one piece more was put
pub piece-more : (c : Pieces) (k : ℕ) (m : ℕ → Job → Job) (g : ℕ → Job) (items : List Job) (v : Job) → c.first + k < length items → ((t : ℕ) → job_at items t ≡ put_pieces (record c { workers = k }) m g t) → v ≡ m k (g (c.first + k)) → (t : ℕ) → job_at (slice_set items (c.first + k) v) t ≡ put_pieces (record c { workers = k + 1 }) m g t
piece-more c k m g items v h done is t = read-set (λ x. x) blank_job items (c.first + k) t v h ∙ by (t == (c.first + k)) refl
  where
    by : (b : Bool) → (t == (c.first + k)) ≡ b → (if b then v else job_at items t) ≡ put_pieces (record c { workers = k + 1 }) m g t
    by true e = let here : (nat_le c.first t && nat_lt t (c.first + (k + 1))) ≡ true = last-piece c.first k t e in
        let n : t ≡ c.first + k = eqb-true t (c.first + k) e in
        let i : t - c.first ≡ k = place-of c.first k t e in
        rw here (is ∙ ap (λ n. m k (g n)) (sym n) ∙ ap (λ i. m i (g t)) (sym i))
    by false e = done t ∙ ap (λ b. if b then m (t - c.first) (g t) else g t) (sym (same-piece c.first k t e))

-- a piece that is not written yet is as before
pub piece-before : (c : Pieces) (k : ℕ) (m : ℕ → Job → Job) (g : ℕ → Job) → put_pieces (record c { workers = k }) m g (c.first + k) ≡ g (c.first + k)
piece-before c k m g = let e : (nat_le c.first (c.first + k) && nat_lt (c.first + k) (c.first + k)) ≡ false = grind (arith, nat_tests) in rw e

-- a job that is stored, by its index
pub job-there : (items : List Job) (n : ℕ) (d : Job) → n < length items → get_or items n d ≡ job_at items n
job-there [] n d h = absurd (omega (arith, h))
job-there (x ∷ xs) zero d h = refl
job-there (x ∷ xs) (suc n) d h = job-there xs n d (omega (arith, h))

-- a broadcast list that is stored, by its index
pub cast-there : (items : List CastList) (n : ℕ) (d : CastList) → n < length items → (get_or items n d).tasks.items ≡ cast_at items n
cast-there [] n d h = absurd (omega (arith, h))
cast-there (x ∷ xs) zero d h = refl
cast-there (x ∷ xs) (suc n) d h = cast-there xs n d (omega (arith, h))

last-list : (i k : ℕ) → (i == k) ≡ true → nat_lt i (k + 1) ≡ true
last-list i k e = grind (arith, nat_tests)

same-list : (i k : ℕ) → (i == k) ≡ false → nat_lt i (k + 1) ≡ nat_lt i k
same-list i k e = grind (arith, nat_tests)

-- one more list has its piece: all lists are as where one piece more was dealt
pub cast-more : (b : Pieces) (k : ℕ) (f : ℕ → List ℕ) (items : List CastList) (v : CastList) → k < length items → ((i : ℕ) → cast_at items i ≡ casts_with (record b { workers = k }) f i) → v.tasks.items ≡ f k ++ (b.first + k) ∷ [] → (i : ℕ) → cast_at (slice_set items k v) i ≡ casts_with (record b { workers = k + 1 }) f i
cast-more b k f items v h done is i = read-set (λ (c : CastList). c.tasks.items) [] items k i v h ∙ by (i == k) refl
  where
    by : (z : Bool) → (i == k) ≡ z → (if z then v.tasks.items else cast_at items i) ≡ casts_with (record b { workers = k + 1 }) f i
    by true e = let here : nat_lt i (k + 1) ≡ true = last-list i k e in let n : i ≡ k = eqb-true i k e in rw here (is ∙ ap (λ i. f i ++ (b.first + i) ∷ []) (sym n))
    by false e = done i ∙ ap (λ z. if z then f i ++ (b.first + i) ∷ [] else f i) (sym (same-list i k e))

-- a list that has no piece yet is as before
pub cast-before : (b : Pieces) (k : ℕ) (f : ℕ → List ℕ) → casts_with (record b { workers = k }) f k ≡ f k
cast-before b k f = let e : nat_lt k k ≡ false = grind (arith, nat_tests) in rw e

later-list : (i k : ℕ) → k + 1 ≤ i → (i == k) ≡ false
later-list i k h = grind (arith, nat_tests)

-- the later lists still have room
pub room-left : (items : List CastList) (k n : ℕ) (v : CastList) → k < length items → CastsFrom k n items → CastsFrom (k + 1) n (slice_set items k v)
room-left items k n v h room = (let e : length (slice_set items k v) ≡ length items = length-set items k v in let a : n ≤ length items = room.0 in omega (arith, e, a), λ i from to. let e : (i == k) ≡ false = later-list i k from in let g : slice_get (slice_set items k v) i ≡ slice_get items i = get-set items k i v h ∙ ap (λ z. if z then Some v else slice_get items i) e in subst (λ o. IsSomeAnd o (λ c. deque_len c.tasks < deque_capacity c.tasks)) (sym g) (room.1 i (omega (arith, from)) to))
