-- each job is in the one place that its record names, once
--
-- A `Loc` is a place where a job can be. `weight` counts how often it has a job, and `loc_of` reads a job's record as a
-- `Loc`.
-- The invariant is one equation: a place has a job as often as the record says, once or not at all. No lemma speaks of
-- two places at once.
-- An act moves at most one job from one `Loc` to another (`gone_ok` of Placed), or none (`same_ok` there). That the job
-- was where the act takes it from is a consequence (`was_at`).
use Rattle.std.proofs.Common.{arith, refl, sym, ◌∙◌, ap, subst}
use Rattle.std.specs.Prelude.{ℕ, Bool, true, false, ◌&&◌, ◌+◌, ◌==◌, ◌≤◌, if◌then◌else◌, Option, Some, None, ◌≡◌}
use Rattle.std.proofs.lemmas.Bool.{eqb-true, eq-eqb}
use Rattle.rayon_machine_places.specs.declared.place.Party.{Party}
use Rattle.rayon_machine_runs.specs.declared.state.Whereabouts.{Whereabouts}
use Rattle.rayon_machine_runs.specs.declared.state.Whereabouts.TheVariants.{Nowhere, Made, InDeque, Injected, InFifo, Retaken, Running, Over, HandedBack, Spent, InCast}
use Rattle.rayon_machine_runs.specs.declared.state.Job.{Job}
use Rattle.rayon_machine_places.specs.Places.{same_party}
use Rattle.rayon_machine_runs.specs.World.{World, same_list}
use Rattle.rayon_machine_laws.specs.Once.{one, times, is_known}
use Rattle.rayon_machine_laws.proofs.Frame.{same_index, same_refl, same_party_true, same_party_refl, same_list_true, same_list_refl, and_parts}
use Rattle.rayon_machine_laws.proofs.Hands.{held, worked}

-- the places where a job can be: in a party's hand, under a party's run, in a deque, a broadcast list, an injector, a
-- FIFO list
pub data Loc : Type 0 where
  Hand : Party → Loc
  Work : Party → Loc
  Deck : (pool worker : ℕ) → Loc
  Cast : (pool worker : ℕ) → Loc
  Inj : (pool : ℕ) → Loc
  Line : (pool worker : ℕ) (list : Option ℕ) → Loc

abbrev pub same_loc : Loc → Loc → Bool
same_loc (Hand q) (Hand r) = same_party q r
same_loc (Work q) (Work r) = same_party q r
same_loc (Deck p i) (Deck r j) = (p == r) && (i == j)
same_loc (Cast p i) (Cast r j) = (p == r) && (i == j)
same_loc (Inj p) (Inj r) = p == r
same_loc (Line p i b) (Line r j c) = ((p == r) && (i == j)) && same_list b c
same_loc _ _ = false

-- the place that a job's record names: where it is, and how often it was begun
abbrev pub loc_of : Whereabouts → ℕ → Option Loc
loc_of (Made q) n = if n == 0 then Some (Hand q) else None
loc_of (Running q) n = if n == 0 then Some (Hand q) else (if n == 1 then Some (Work q) else None)
loc_of (InDeque p i) n = if n == 0 then Some (Deck p i) else None
loc_of (Injected p) n = if n == 0 then Some (Inj p) else None
loc_of (Retaken q) n = if n == 0 then Some (Hand q) else None
loc_of (InFifo p i b7) n = if n == 0 then Some (Line p i b7) else None
loc_of (InCast p i) n = if n == 0 then Some (Cast p i) else None
loc_of _ n = None

abbrev pub loc_at : Job → Option Loc
loc_at j = loc_of j.at j.runs

-- 1 where the place is the one that is named
abbrev pub is_loc : Loc → Option Loc → ℕ
is_loc l None = 0
is_loc l (Some m) = one (same_loc l m)

-- how often a place has job t
abbrev pub weight : World → Loc → ℕ → ℕ
weight w (Hand q) t = held t (w.stack q)
weight w (Work q) t = worked t (w.stack q)
weight w (Deck p i) t = times t (w.seat p i).own
weight w (Cast p i) t = times t ((w.pool p).casts i)
weight w (Inj p) t = times t (w.pool p).injector
weight w (Line p i b) t = times t ((w.seat p i).fifo b)

abbrev pub IsPlaced : (Loc → ℕ → ℕ) → (ℕ → Option Loc) → Type 0
IsPlaced f at = (l : Loc) (t : ℕ) → f l t ≡ is_loc l (at t)

abbrev pub JobsPlaced : World → Type 0
JobsPlaced w = IsPlaced (weight w) (λ t. loc_at (w.job t))

one_true : (b : Bool) → 1 ≤ one b → b ≡ true
one_true true h = refl
one_true false h = absurd (omega arith)

same_loc_true : (l m : Loc) → same_loc l m ≡ true → l ≡ m
same_loc_true (Hand q) (Hand r) e = ap Hand (same_party_true q r e)
same_loc_true (Work q) (Work r) e = ap Work (same_party_true q r e)
same_loc_true (Deck p i) (Deck r j) e = let a : (p ≡ r) × (i ≡ j) = same_index p i r j e in cc
same_loc_true (Cast p i) (Cast r j) e = let a : (p ≡ r) × (i ≡ j) = same_index p i r j e in cc
same_loc_true (Inj p) (Inj r) e = ap Inj (eqb-true p r e)
same_loc_true (Line p i b) (Line r j c) e = let z : (((p == r) && (i == j)) ≡ true) × (same_list b c ≡ true) = and_parts ((p == r) && (i == j)) (same_list b c) e in let a : (p ≡ r) × (i ≡ j) = same_index p i r j (z.0) in let l : b ≡ c = same_list_true b c (z.1) in cc
same_loc_true (Line p i b7) (Hand r) e = cc
same_loc_true (Line p i b7) (Work r) e = cc
same_loc_true (Line p i b7) (Deck r j) e = cc
same_loc_true (Line p i b7) (Cast r j) e = cc
same_loc_true (Line p i b7) (Inj r) e = cc
same_loc_true (Hand q) (Line r j b7) e = cc
same_loc_true (Work q) (Line r j b7) e = cc
same_loc_true (Deck p i) (Line r j b7) e = cc
same_loc_true (Cast p i) (Line r j b7) e = cc
same_loc_true (Inj p) (Line r j b7) e = cc
same_loc_true (Hand q) (Work r) e = cc
same_loc_true (Hand q) (Deck r j) e = cc
same_loc_true (Hand q) (Cast r j) e = cc
same_loc_true (Hand q) (Inj r) e = cc
same_loc_true (Work q) (Hand r) e = cc
same_loc_true (Work q) (Deck r j) e = cc
same_loc_true (Work q) (Cast r j) e = cc
same_loc_true (Work q) (Inj r) e = cc
same_loc_true (Deck p i) (Hand r) e = cc
same_loc_true (Deck p i) (Work r) e = cc
same_loc_true (Deck p i) (Cast r j) e = cc
same_loc_true (Deck p i) (Inj r) e = cc
same_loc_true (Cast p i) (Hand r) e = cc
same_loc_true (Cast p i) (Work r) e = cc
same_loc_true (Cast p i) (Deck r j) e = cc
same_loc_true (Cast p i) (Inj r) e = cc
same_loc_true (Inj p) (Hand r) e = cc
same_loc_true (Inj p) (Work r) e = cc
same_loc_true (Inj p) (Deck r j) e = cc
same_loc_true (Inj p) (Cast r j) e = cc

pub same_loc_refl : (a : Loc) → same_loc a a ≡ true
same_loc_refl (Hand q) = same_party_refl q
same_loc_refl (Work q) = same_party_refl q
same_loc_refl (Deck p i) = same_refl p i
same_loc_refl (Cast p i) = same_refl p i
same_loc_refl (Inj p) = eq-eqb p p refl
same_loc_refl (Line p i b) = let a : ((p == p) && (i == i)) ≡ true = same_refl p i in let c : same_list b b ≡ true = same_list_refl b in rw (a, c) refl

-- a place that has a job is the one that is named
pub where_is : (a : Loc) (v : Option Loc) → 1 ≤ is_loc a v → v ≡ Some a
where_is a None h = absurd (omega arith)
where_is a (Some b) h = ap Some (sym (same_loc_true a b (one_true (same_loc a b) h)))

-- what comes to a place
abbrev pub comes : Loc → Option Loc → Bool → ℕ
comes l None z = 0
comes l (Some m) z = one (same_loc l m && z)

-- the job u goes from place a to place b, if to any, and nothing else
abbrev pub Shifts : (f g : Loc → ℕ → ℕ) → (u : ℕ) (a : Loc) (b : Option Loc) → Type 0
Shifts f g u a b = (l : Loc) (t : ℕ) → g l t + one (same_loc l a && (t == u)) ≡ f l t + comes l b (t == u)

-- where the job was
pub was_at : (f g : Loc → ℕ → ℕ) (at : ℕ → Option Loc) (u : ℕ) (a : Loc) (b : Option Loc) → comes a b true ≡ 0 → Shifts f g u a b → IsPlaced f at → at u ≡ Some a
was_at f g at u a b d s ok =
    let k : g a u + one (same_loc a a && (u == u)) ≡ f a u + comes a b (u == u) = s a u in
    let y : (same_loc a a && (u == u)) ≡ true = rw (same_loc_refl a) (eq-eqb u u refl) in
    let k1 : g a u + 1 ≡ f a u + comes a b (u == u) = subst (λ z. g a u + one z ≡ f a u + comes a b (u == u)) y k in
    let k2 : g a u + 1 ≡ f a u + comes a b true = subst (λ z. g a u + 1 ≡ f a u + comes a b z) (eq-eqb u u refl) k1 in
    let o : f a u ≡ is_loc a (at u) = ok a u in
    where_is a (at u) (omega (arith, k2, o, d))

pub and_true : (z : Bool) → (z && true) ≡ z
and_true true = refl
and_true false = refl

pub and_false : (z : Bool) → (z && false) ≡ false
and_false true = refl
and_false false = refl

pub comes_true : (l : Loc) (b : Option Loc) → comes l b true ≡ is_loc l b
comes_true l None = refl
comes_true l (Some m) = ap one (and_true (same_loc l m))

pub comes_false : (l : Loc) (b : Option Loc) → comes l b false ≡ 0
comes_false l None = refl
comes_false l (Some m) = ap one (and_false (same_loc l m))

-- the place of the job that goes is the new one, and of each other the old one
pub shift_ok : (f g : Loc → ℕ → ℕ) (at new : ℕ → Option Loc) (u : ℕ) (a : Loc) (b : Option Loc) → comes a b true ≡ 0 → Shifts f g u a b → IsPlaced f at → new u ≡ b → ((t : ℕ) → (t == u) ≡ false → new t ≡ at t) → IsPlaced g new
shift_ok f g at new u a b d s ok to rest l t = by (t == u) refl
  where
    was : at u ≡ Some a
    was = was_at f g at u a b d s ok

    by : (e : Bool) → (t == u) ≡ e → g l t ≡ is_loc l (new t)
    by true e =
        let k : g l t + one (same_loc l a && (t == u)) ≡ f l t + comes l b (t == u) = s l t in
        let k2 : g l t + one (same_loc l a && true) ≡ f l t + comes l b true = subst (λ z. g l t + one (same_loc l a && z) ≡ f l t + comes l b z) e k in
        let x : one (same_loc l a && true) ≡ one (same_loc l a) = ap one (and_true (same_loc l a)) in
        let y : comes l b true ≡ is_loc l b = comes_true l b in
        let o : f l t ≡ is_loc l (at t) = ok l t in
        let o2 : is_loc l (at t) ≡ one (same_loc l a) = ap (λ n. is_loc l (at n)) (eqb-true t u e) ∙ ap (is_loc l) was in
        let n : is_loc l (new t) ≡ is_loc l b = ap (λ n. is_loc l (new n)) (eqb-true t u e) ∙ ap (is_loc l) to in
        omega (arith, k2, x, y, o, o2, n)
    by false e =
        let k : g l t + one (same_loc l a && (t == u)) ≡ f l t + comes l b (t == u) = s l t in
        let k2 : g l t + one (same_loc l a && false) ≡ f l t + comes l b false = subst (λ z. g l t + one (same_loc l a && z) ≡ f l t + comes l b z) e k in
        let x : one (same_loc l a && false) ≡ 0 = ap one (and_false (same_loc l a)) in
        let y : comes l b false ≡ 0 = comes_false l b in
        let o : f l t ≡ is_loc l (at t) = ok l t in
        let n : is_loc l (new t) ≡ is_loc l (at t) = ap (is_loc l) (rest t e) in
        omega (arith, k2, x, y, o, n)

-- a new job, in the hand of the party that makes it
pub make_ok : (f g : Loc → ℕ → ℕ) (at new : ℕ → Option Loc) (u : ℕ) (q : Party) → at u ≡ None → ((l : Loc) (t : ℕ) → g l t ≡ f l t + one (same_loc l (Hand q) && (t == u))) → IsPlaced f at → new u ≡ Some (Hand q) → ((t : ℕ) → (t == u) ≡ false → new t ≡ at t) → IsPlaced g new
make_ok f g at new u q none s ok to rest l t = by (t == u) refl
  where
    by : (z : Bool) → (t == u) ≡ z → g l t ≡ is_loc l (new t)
    by true z =
        let k : g l t ≡ f l t + one (same_loc l (Hand q) && (t == u)) = s l t in
        let k2 : g l t ≡ f l t + one (same_loc l (Hand q) && true) = subst (λ b. g l t ≡ f l t + one (same_loc l (Hand q) && b)) z k in
        let x : one (same_loc l (Hand q) && true) ≡ one (same_loc l (Hand q)) = ap one (and_true (same_loc l (Hand q))) in
        let o : f l t ≡ is_loc l (at t) = ok l t in
        let o2 : is_loc l (at t) ≡ 0 = ap (λ n. is_loc l (at n)) (eqb-true t u z) ∙ ap (is_loc l) none in
        let n : is_loc l (new t) ≡ one (same_loc l (Hand q)) = ap (λ n. is_loc l (new n)) (eqb-true t u z) ∙ ap (is_loc l) to in
        omega (arith, k2, x, o, o2, n)
    by false z =
        let k : g l t ≡ f l t + one (same_loc l (Hand q) && (t == u)) = s l t in
        let k2 : g l t ≡ f l t + one (same_loc l (Hand q) && false) = subst (λ b. g l t ≡ f l t + one (same_loc l (Hand q) && b)) z k in
        let x : one (same_loc l (Hand q) && false) ≡ 0 = ap one (and_false (same_loc l (Hand q))) in
        let o : f l t ≡ is_loc l (at t) = ok l t in
        let n : is_loc l (new t) ≡ is_loc l (at t) = ap (is_loc l) (rest t z) in
        omega (arith, k2, x, o, n)

-- how often a job was begun fits where it is
abbrev pub fits : Whereabouts → ℕ → Type 0
fits (Over e) n = n ≡ 1
fits (Running q) n = n ≤ 1
fits _ n = n ≡ 0

abbrev pub JobsFit : World → Type 0
JobsFit w = (t : ℕ) → fits (w.job t).at (w.job t).runs

-- a job that was queued in a deque or an injector, begun or handed back: it has left the call that made it. One that is
-- added to a FIFO list has not, since the call can take it back
abbrev pub is_left : Whereabouts → Bool
is_left (Made q) = false
is_left Nowhere = false
is_left (InFifo p i b7) = false
is_left (Retaken q) = false
is_left _ = true

-- a job that was made, and is no longer as its call has made it
abbrev pub is_past : Whereabouts → Bool
is_past (Made q) = false
is_past Nowhere = false
is_past _ = true

-- what is over or handed back stays so, what has left its call does not come back to it, what is made is not lost, and
-- what is not made is made by an event alone
abbrev pub IsOnward : Whereabouts → Whereabouts → Type 0
IsOnward (Made q) b = is_known b ≡ true
IsOnward (InFifo p i b7) b = is_past b ≡ true
IsOnward (Retaken q) b = is_past b ≡ true
IsOnward (Over e) b = b ≡ Over e
IsOnward HandedBack b = b ≡ HandedBack
IsOnward Spent b = b ≡ Spent
IsOnward Nowhere b = b ≡ Nowhere
IsOnward _ b = is_left b ≡ true

pub onward_same : (a b : Whereabouts) → b ≡ a → IsOnward a b
onward_same (Made q) b e = ap is_known e
onward_same (Running q) b e = ap is_left e
onward_same (InDeque p i) b e = ap is_left e
onward_same (Injected p) b e = ap is_left e
onward_same (InFifo p i b7) b e = ap is_past e
onward_same (InCast p i) b e = ap is_left e
onward_same (Retaken q) b e = ap is_past e
onward_same (Over d) b e = e
onward_same HandedBack b e = e
onward_same Spent b e = e
onward_same Nowhere b e = e

pub past_known : (a : Whereabouts) → is_past a ≡ true → is_known a ≡ true
past_known (Made q) z = cc
past_known Nowhere z = cc
past_known _ z = refl

pub left_past : (a : Whereabouts) → is_left a ≡ true → is_past a ≡ true
left_past (Made q) z = cc
left_past Nowhere z = cc
left_past (InFifo p i b7) z = cc
left_past (Retaken q) z = cc
left_past _ z = refl

pub left_known : (a : Whereabouts) → is_left a ≡ true → is_known a ≡ true
left_known a z = past_known a (left_past a z)

pub onward_loc : (a b : Whereabouts) (n : ℕ) (l : Loc) → loc_of a n ≡ Some l → is_left b ≡ true → IsOnward a b
onward_loc (Made q) b n l e z = left_known b z
onward_loc (Running q) b n l e z = z
onward_loc (InDeque p i) b n l e z = z
onward_loc (Injected p) b n l e z = z
onward_loc (InFifo p i b7) b n l e z = left_past b z
onward_loc (InCast p i) b n l e z = z
onward_loc (Retaken q) b n l e z = left_past b z
onward_loc (Over d) b n l e z = cc
onward_loc HandedBack b n l e z = cc
onward_loc Spent b n l e z = cc
onward_loc Nowhere b n l e z = cc

-- what has left its call has still done so later
pub onward_left : (a b : Whereabouts) → IsOnward a b → is_left a ≡ true → is_left b ≡ true
onward_left (Made q) b h z = cc
onward_left Nowhere b h z = cc
onward_left (Over e) b h z = ap is_left h
onward_left HandedBack b h z = ap is_left h
onward_left Spent b h z = ap is_left h
onward_left (Running q) b h z = h
onward_left (InDeque p i) b h z = h
onward_left (Injected p) b h z = h
onward_left (InFifo p i b7) b h z = cc
onward_left (InCast p i) b h z = h
onward_left (Retaken q) b h z = cc

-- what is no longer as its call has made it does not become so again
pub onward_past : (a b : Whereabouts) → IsOnward a b → is_past a ≡ true → is_past b ≡ true
onward_past (Made q) b h z = cc
onward_past Nowhere b h z = cc
onward_past (Over e) b h z = ap is_past h
onward_past HandedBack b h z = ap is_past h
onward_past Spent b h z = ap is_past h
onward_past (Running q) b h z = left_past b h
onward_past (InDeque p i) b h z = left_past b h
onward_past (Injected p) b h z = left_past b h
onward_past (InFifo p i b7) b h z = h
onward_past (InCast p i) b h z = left_past b h
onward_past (Retaken q) b h z = h

-- nor is what was made lost later
pub onward_known : (a b : Whereabouts) → IsOnward a b → is_known a ≡ true → is_known b ≡ true
onward_known (Made q) b h z = h
onward_known Nowhere b h z = cc
onward_known (Over e) b h z = ap is_known h
onward_known HandedBack b h z = ap is_known h
onward_known Spent b h z = ap is_known h
onward_known (Running q) b h z = left_known b h
onward_known (InDeque p i) b h z = left_known b h
onward_known (Injected p) b h z = left_known b h
onward_known (InFifo p i b7) b h z = past_known b h
onward_known (InCast p i) b h z = left_known b h
onward_known (Retaken q) b h z = past_known b h

-- a party's hand
abbrev pub is_hand : Loc → Bool
is_hand (Hand q) = true
is_hand _ = false

abbrev pub in_hand : Option Loc → Bool
in_hand None = false
in_hand (Some l) = is_hand l

-- what is as its call has made it is in that party's hand
pub made_hand : (q : Party) (n : ℕ) (l : Loc) → loc_of (Made q) n ≡ Some l → is_hand l ≡ true
made_hand q n l e = by (n == 0) e
  where
    by : (b : Bool) → (if b then Some (Hand q) else None) ≡ Some l → is_hand l ≡ true
    by true g = let k : Hand q ≡ l = cc in ap is_hand (sym k)
    by false g = cc

-- what is in a FIFO list has a record that says so
pub at_line : (v : Whereabouts) (n p i : ℕ) (b7 : Option ℕ) → loc_of v n ≡ Some (Line p i b7) → v ≡ InFifo p i b7
at_line (InFifo r j b6) n p i b7 e = by (n == 0) e
  where
    by : (b : Bool) → (if b then Some (Line r j b6) else None) ≡ Some (Line p i b7) → InFifo r j b6 ≡ InFifo p i b7
    by true g = let k : Line r j b6 ≡ Line p i b7 = cc in let a : r ≡ p = cc in let c : j ≡ i = cc in let d : b6 ≡ b7 = cc in cc
    by false g = cc
at_line (Made q) n p i b7 e = by (n == 0) e
  where
    by : (b : Bool) → (if b then Some (Hand q) else None) ≡ Some (Line p i b7) → Made q ≡ InFifo p i b7
    by true g = cc
    by false g = cc
at_line (Retaken q) n p i b7 e = by (n == 0) e
  where
    by : (b : Bool) → (if b then Some (Hand q) else None) ≡ Some (Line p i b7) → Retaken q ≡ InFifo p i b7
    by true g = cc
    by false g = cc
at_line (InDeque r j) n p i b7 e = by (n == 0) e
  where
    by : (b : Bool) → (if b then Some (Deck r j) else None) ≡ Some (Line p i b7) → InDeque r j ≡ InFifo p i b7
    by true g = cc
    by false g = cc
at_line (InCast r j) n p i b7 e = by (n == 0) e
  where
    by : (b : Bool) → (if b then Some (Cast r j) else None) ≡ Some (Line p i b7) → InCast r j ≡ InFifo p i b7
    by true g = cc
    by false g = cc
at_line (Injected r) n p i b7 e = by (n == 0) e
  where
    by : (b : Bool) → (if b then Some (Inj r) else None) ≡ Some (Line p i b7) → Injected r ≡ InFifo p i b7
    by true g = cc
    by false g = cc
at_line (Running q) n p i b7 e = by (n == 0) (n == 1) e
  where
    by : (b d : Bool) → (if b then Some (Hand q) else (if d then Some (Work q) else None)) ≡ Some (Line p i b7) → Running q ≡ InFifo p i b7
    by true d g = cc
    by false true g = cc
    by false false g = cc
at_line (Over d) n p i b7 e = cc
at_line HandedBack n p i b7 e = cc
at_line Spent n p i b7 e = cc
at_line Nowhere n p i b7 e = cc

-- a job that is in a list or in hand was never begun
abbrev pub is_work : Loc → Bool
is_work (Work q) = true
is_work _ = false

pub unbegun : (v : Whereabouts) (n : ℕ) (l : Loc) → is_work l ≡ false → loc_of v n ≡ Some l → n ≡ 0
unbegun (Made q) n l z e = by (n == 0) refl e
  where
    by : (b : Bool) → (n == 0) ≡ b → (if b then Some (Hand q) else None) ≡ Some l → n ≡ 0
    by true f g = eqb-true n 0 f
    by false f g = cc
unbegun (Retaken q) n l z e = by (n == 0) refl e
  where
    by : (b : Bool) → (n == 0) ≡ b → (if b then Some (Hand q) else None) ≡ Some l → n ≡ 0
    by true f g = eqb-true n 0 f
    by false f g = cc
unbegun (InDeque p i) n l z e = by (n == 0) refl e
  where
    by : (b : Bool) → (n == 0) ≡ b → (if b then Some (Deck p i) else None) ≡ Some l → n ≡ 0
    by true f g = eqb-true n 0 f
    by false f g = cc
unbegun (Injected p) n l z e = by (n == 0) refl e
  where
    by : (b : Bool) → (n == 0) ≡ b → (if b then Some (Inj p) else None) ≡ Some l → n ≡ 0
    by true f g = eqb-true n 0 f
    by false f g = cc
unbegun (InFifo p i b7) n l z e = by (n == 0) refl e
  where
    by : (b : Bool) → (n == 0) ≡ b → (if b then Some (Line p i b7) else None) ≡ Some l → n ≡ 0
    by true f g = eqb-true n 0 f
    by false f g = cc
unbegun (InCast p i) n l z e = by (n == 0) refl e
  where
    by : (b : Bool) → (n == 0) ≡ b → (if b then Some (Cast p i) else None) ≡ Some l → n ≡ 0
    by true f g = eqb-true n 0 f
    by false f g = cc
unbegun (Running q) n l z e = by (n == 0) (n == 1) refl e
  where
    by : (b d : Bool) → (n == 0) ≡ b → (if b then Some (Hand q) else (if d then Some (Work q) else None)) ≡ Some l → n ≡ 0
    by true d f g = eqb-true n 0 f
    by false true f g = let k : Work q ≡ l = cc in absurd (let y : is_work l ≡ true = ap is_work (sym k) in cc)
    by false false f g = cc
unbegun (Over d) n l z e = cc
unbegun HandedBack n l z e = cc
unbegun Spent n l z e = cc
unbegun Nowhere n l z e = cc

-- a job under a party's run was begun once, and the party runs it
pub at_work : (v : Whereabouts) (n : ℕ) (q : Party) → loc_of v n ≡ Some (Work q) → (n ≡ 1) × (v ≡ Running q)
at_work (Made r) n q e = by (n == 0) e
  where
    by : (b : Bool) → (if b then Some (Hand r) else None) ≡ Some (Work q) → (n ≡ 1) × (Made r ≡ Running q)
    by true g = cc
    by false g = cc
at_work (Retaken r) n q e = by (n == 0) e
  where
    by : (b : Bool) → (if b then Some (Hand r) else None) ≡ Some (Work q) → (n ≡ 1) × (Retaken r ≡ Running q)
    by true g = cc
    by false g = cc
at_work (InDeque p i) n q e = by (n == 0) e
  where
    by : (b : Bool) → (if b then Some (Deck p i) else None) ≡ Some (Work q) → (n ≡ 1) × (InDeque p i ≡ Running q)
    by true g = cc
    by false g = cc
at_work (Injected p) n q e = by (n == 0) e
  where
    by : (b : Bool) → (if b then Some (Inj p) else None) ≡ Some (Work q) → (n ≡ 1) × (Injected p ≡ Running q)
    by true g = cc
    by false g = cc
at_work (InFifo p i b7) n q e = by (n == 0) e
  where
    by : (b : Bool) → (if b then Some (Line p i b7) else None) ≡ Some (Work q) → (n ≡ 1) × (InFifo p i b7 ≡ Running q)
    by true g = cc
    by false g = cc
at_work (InCast p i) n q e = by (n == 0) e
  where
    by : (b : Bool) → (if b then Some (Cast p i) else None) ≡ Some (Work q) → (n ≡ 1) × (InCast p i ≡ Running q)
    by true g = cc
    by false g = cc
at_work (Running r) n q e = by (n == 0) (n == 1) refl e
  where
    by : (b d : Bool) → (n == 1) ≡ d → (if b then Some (Hand r) else (if d then Some (Work r) else None)) ≡ Some (Work q) → (n ≡ 1) × (Running r ≡ Running q)
    by true d f g = cc
    by false true f g = let k : r ≡ q = cc in (eqb-true n 1 f, ap Running k)
    by false false f g = cc
at_work (Over d) n q e = cc
at_work HandedBack n q e = cc
at_work Spent n q e = cc
at_work Nowhere n q e = cc
