-- what a worker's looks since its Announce tell at each place of its search
use Rattle.std.proofs.Common.{arith, refl, sym, ◌∙◌, ap, inl, inr, ◌≢◌}
use Rattle.rayon_machine_sleep_laws.proofs.Words.{ℕ, suc, Bool, true, false, ◌+◌, ◌-◌, ◌==◌, ◌<◌, ◌≤◌, nat_lt, if◌then◌else◌, Option, Some, None, List, [], ◌∷◌, ◌++◌, ◌≡◌, ⊤, eqb-true, eq-eqb, ltb-true, ltb-false, append_assoc, Party, Place, TakeCastIdle, PickVictim, StealFrom, PopInjected}
use Rattle.rayon_machine_sleep_laws.proofs.Words.{GetSleepy, LockOwn, FallAsleep, LoadCounters, AddSleeping, LookAtCast, LookAtInjector, BlockSelf, PoolShape, Wait, own_index, next_victim, not_self, next_steal, OwnDeque, OwnCast, Deque, Injector, Look, and_then, others, EndsSearched}
use Rattle.rayon_machine_laws.proofs.Frame.{either}
use Rattle.rayon_machine_laws.proofs.Kept.{is_emptied}

abbrev mine_look : Look
mine_look = record { spot = OwnDeque; found = false }

abbrev cast_look : Look
cast_look = record { spot = OwnCast; found = false }

abbrev deck_look : ℕ → Look
deck_look v = record { spot = Deque v; found = false }

abbrev last_look : Look
last_look = record { spot = Injector; found = false }

-- the looks end with these
pub record EndsWith (looks part : List Look) : Type 0 where
  pub earlier : List Look
  pub is : looks ≡ earlier ++ part

-- the search has looked at the deques of some other workers, from a start on, and goes on at this one
pub record Stealing (n i v m : ℕ) (looks : List Look) : Type 0 where
  pub earlier : List Look
  pub start : ℕ
  pub done : List Look
  pub within : 1 < n → start < n
  pub other : 1 < n → (start == i) ≡ false
  pub is : looks ≡ earlier ++ (mine_look ∷ cast_look ∷ done)
  pub rest : done ++ others n i (suc m) v ≡ others n i (n - 1) start

-- the search has looked at every deque
pub record Stolen (n i : ℕ) (looks : List Look) : Type 0 where
  pub earlier : List Look
  pub start : ℕ
  pub within : 1 < n → start < n
  pub other : 1 < n → (start == i) ≡ false
  pub is : looks ≡ earlier ++ (mine_look ∷ cast_look ∷ others n i (n - 1) start)

-- what the looks so far say of a place
abbrev pub Stage : ℕ → ℕ → Place → List Look → Type 0
Stage n i (TakeCastIdle k) l = EndsWith l (mine_look ∷ [])
Stage n i (PickVictim k) l = (1 < n) × EndsWith l (mine_look ∷ cast_look ∷ [])
Stage n i (StealFrom k m) l = Stealing n i k.victim m l
Stage n i (PopInjected k) l = Stolen n i l
Stage n i (GetSleepy k) l = EndsSearched n i l
Stage n i (LockOwn k) l = EndsSearched n i l
Stage n i (FallAsleep k) l = EndsSearched n i l
Stage n i (LoadCounters k) l = EndsSearched n i l
Stage n i (AddSleeping k) l = EndsSearched n i l
Stage n i (LookAtCast k) l = EndsSearched n i l
Stage n i (LookAtInjector k) l = EndsSearched n i l
Stage n i (BlockSelf k) l = EndsSearched n i l
Stage n i _ l = ⊤

-- a place of no search says nothing
pub busy_stage : (n i : ℕ) (x : Place) (l : List Look) → is_emptied x ≡ false → Stage n i x l
busy_stage n i (TakeCastIdle k) l e = absurd (cc)
busy_stage n i (PickVictim k) l e = absurd (cc)
busy_stage n i (StealFrom k m) l e = absurd (cc)
busy_stage n i (PopInjected k) l e = absurd (cc)
busy_stage n i (GetSleepy k) l e = absurd (cc)
busy_stage n i (LockOwn k) l e = absurd (cc)
busy_stage n i (FallAsleep k) l e = absurd (cc)
busy_stage n i (LoadCounters k) l e = absurd (cc)
busy_stage n i (AddSleeping k) l e = absurd (cc)
busy_stage n i (LookAtCast k) l e = absurd (cc)
busy_stage n i (LookAtInjector k) l e = absurd (cc)
busy_stage n i (BlockSelf k) l e = absurd (cc)
busy_stage n i _ l e = tt

-- a look more
abbrev pub add_look : List Look → Option Look → List Look
add_look l None = l
add_look l (Some a) = l ++ a ∷ []

pub add_then : (l : List Look) (o : Option Look) (rest : List Look) → add_look l o ++ rest ≡ l ++ and_then o rest
add_then l None rest = refl
add_then l (Some a) rest = append_assoc l (a ∷ []) rest

pub one_more : (l e part : List Look) (a : Look) → l ≡ e ++ part → l ++ a ∷ [] ≡ e ++ (part ++ a ∷ [])
one_more l e part a s = ap (λ z. z ++ a ∷ []) s ∙ append_assoc e part (a ∷ [])

nothing_more : (l : List Look) → l ≡ [] ++ l
nothing_more l = refl

-- where a search begins its round
start_within : (n i v : ℕ) → 1 < n → v < n → i < n → not_self n i v < n
start_within n i v two a b = at (v == i) (nat_lt (v + 1) n) refl
  where
    at : (y z : Bool) → nat_lt (v + 1) n ≡ z → (if y then (if z then v + 1 else 0) else v) < n
    at true true e = ltb-true (v + 1) n e
    at true false e = omega arith
    at false z e = a

start_other : (n i v : ℕ) → 1 < n → v < n → i < n → (not_self n i v == i) ≡ false
start_other n i v two a b = at (v == i) (nat_lt (v + 1) n) refl refl
  where
    apart : (x : ℕ) → (x ≡ i → ⊥) → (x == i) ≡ false
    apart x f = elim (either (x == i)) [ inl e ↦ absurd (f (eqb-true x i e)) | inr e ↦ e ]

    at : (y z : Bool) → (v == i) ≡ y → nat_lt (v + 1) n ≡ z → ((if y then (if z then v + 1 else 0) else v) == i) ≡ false
    at true true ey e = apart (v + 1) (λ s. (let k : v ≡ i = eqb-true v i ey in omega arith))
    at true false ey e = apart 0 (λ s. (let k : v ≡ i = eqb-true v i ey in let l : n ≤ v + 1 = ltb-false (v + 1) n e in omega arith))
    at false z ey e = ey

-- a thief chooses where to begin
pub pick_stage : (n i v : ℕ) (k : Wait) (l : List Look) → v < n → i < n → Stage n i (PickVictim k) l → Stage n i (StealFrom (record k { victim = not_self n i v }) (n - 2)) l
pick_stage n i v k l a b s = record {
  earlier = (s.1).earlier;
  start = not_self n i v;
  done = [];
  within = λ two. start_within n i v two a b;
  other = λ two. start_other n i v two a b;
  is = (s.1).is;
  rest = (let two : 1 < n = s.0 in let m : suc (n - 2) ≡ n - 1 = omega arith in ap (λ z. others n i z (not_self n i v)) m);
}

-- a steal finds nothing
pub steal_stage : (n i : ℕ) (g : PoolShape) (q : Party) (k : Wait) (m : ℕ) (l : List Look) → g.workers ≡ n → own_index q ≡ i → Stage n i (StealFrom k m) l → Stage n i (next_steal g q k m) (l ++ deck_look k.victim ∷ [])
steal_stage n i g q k m l en ei s = at (m == 0) refl
  where
    more : l ++ deck_look k.victim ∷ [] ≡ s.earlier ++ (mine_look ∷ cast_look ∷ (s.done ++ deck_look k.victim ∷ []))
    more = one_more l s.earlier (mine_look ∷ cast_look ∷ s.done) (deck_look k.victim) s.is

    next : ℕ
    next = not_self g.workers (own_index q) (next_victim g.workers k.victim)

    same : next ≡ not_self n i (next_victim n k.victim)
    same = ap (λ z. not_self z (own_index q) (next_victim z k.victim)) en ∙ ap (λ z. not_self n z (next_victim n k.victim)) ei

    after : (s.done ++ deck_look k.victim ∷ []) ++ others n i m next ≡ others n i (n - 1) s.start
    after = append_assoc s.done (deck_look k.victim ∷ []) (others n i m next) ∙ ap (λ z. s.done ++ (deck_look k.victim ∷ others n i m z)) same ∙ s.rest

    at : (b : Bool) → (m == 0) ≡ b → Stage n i (if b then PopInjected k else StealFrom (record k { victim = next }) (m - 1)) (l ++ deck_look k.victim ∷ [])
    at true e = record {
      earlier = s.earlier;
      start = s.start;
      within = s.within;
      other = s.other;
      is = more ∙ ap (λ z. s.earlier ++ (mine_look ∷ cast_look ∷ z)) (let m0 : m ≡ 0 = eqb-true m 0 e in ap (λ z. s.done ++ (deck_look k.victim ∷ others n i z (not_self n i (next_victim n k.victim)))) (sym m0) ∙ s.rest);
    }
    at false e = record {
      earlier = s.earlier;
      start = s.start;
      done = s.done ++ deck_look k.victim ∷ [];
      within = s.within;
      other = s.other;
      is = more;
      rest = (let some : m ≢ 0 = λ z. (let y : (m == 0) ≡ true = eq-eqb m 0 z in cc) in let m1 : suc (m - 1) ≡ m = omega arith in ap (λ z. (s.done ++ deck_look k.victim ∷ []) ++ others n i z next) m1 ∙ after);
    }
