-- a yield is one search in order, up to the first look that finds a task
--
-- `Stage` is what the looks so far are at each place of a yield. The looks are those of specs/Searched of
-- `rayon_machine_sleep_laws`.
use Rattle.std.proofs.Common.{arith, refl, sym, ◌∙◌, ap, subst, inl, inr, ◌≢◌}
use Rattle.rayon_machine_sleep_laws.proofs.Words.{ℕ, suc, Bool, true, false, ◌+◌, ◌-◌, ◌==◌, ◌<◌, ◌≤◌, nat_lt, if◌then◌else◌, Option, Some, None, is_some, List, [], ◌∷◌, ◌++◌, ◌≡◌, ◌⊎◌, IfSome, eqb-true, eq-eqb, ltb-true, ltb-false, append_assoc, Order, NewestFirst, PoolShape, Party, Worker}
use Rattle.rayon_machine_sleep_laws.proofs.Words.{Place, PickVictim, StealFrom, YieldPop, YieldTakeCast, YieldPick, YieldSteal, YieldPopInjected, LocalPop, LocalTakeCast, Run, Free, Stay, Seen, Event, Go, From, Miss, Yield, YieldLocal, act_of, next_of, same_party, is_free, not_self, next_victim}
use Rattle.rayon_machine_sleep_laws.proofs.Words.{next_yield, Shape, Stack, World, Part, target_pool, target_worker, target_call, own_of, own_left, head_of, but_first, popped, take_cast, pop_injector, after_move, after_call, after_choice, after_miss, after_yield, can_miss, with_stack, step}
use Rattle.rayon_machine_sleep_laws.proofs.Words.{is_filled, Spot, OwnDeque, OwnCast, Deque, Injector, Look, and_then, others, whole_search}
use Rattle.rayon_machine_places.specs.declared.shape.Order.TheVariants.{OldestFirst}
use Rattle.rayon_machine_places.specs.Targets.{taken_as}
use Rattle.rayon_machine_laws.proofs.Calm.{part_at, next_at}
use Rattle.rayon_machine_laws.proofs.Emptied.{own_none}
use Rattle.rayon_machine_laws.proofs.Frame.{acted_keeps, either, if_cond, if_some_map, same_party_true, same_refl, stack_mine}
use Rattle.rayon_machine_laws.proofs.Stops.{made}
use Rattle.rayon_machine_laws.proofs.Ties.{outcome, result, job_at}
use Rattle.rayon_machine_step_laws.specs.Enabled.{is_enabled}
use Rattle.rayon_machine_step_laws.specs.Yields.{GoesOn, HasFound, IsBack, IsPart, IsYieldRun, LocalLaw, YieldLaw, YieldsSo, is_yielding, local_search, yield_look_at, yield_look_of, yield_looks_in, yield_missed}
use Rattle.rayon_machine_step_laws.proofs.Actors.{Leaves, actor, is_search, leaves, shut}

abbrev mine : Look
mine = record { spot = OwnDeque; found = false }

abbrev cast : Look
cast = record { spot = OwnCast; found = false }

abbrev deck : ℕ → Look
deck v = record { spot = Deque v; found = false }

abbrev last : Look
last = record { spot = Injector; found = false }

-- the whole search of a yield, and of a local one
abbrev whole : Bool → ℕ → ℕ → ℕ → List Look
whole true n i v = local_search v
whole false n i v = whole_search n i v

-- where a round can begin
record Start (n i : ℕ) : Type 0 where
  start : ℕ
  within : 1 < n → start < n
  other : 1 < n → (start == i) ≡ false

apart : (x i : ℕ) → (x ≡ i → ⊥) → (x == i) ≡ false
apart x i f = elim (either (x == i)) [ inl e ↦ absurd (f (eqb-true x i e)) | inr e ↦ e ]

begins_at : (n i v : ℕ) → v < n → i < n → Start n i
begins_at n i v a b = record { start = not_self n i v; within = λ two. within two (v == i) (nat_lt (v + 1) n) refl; other = λ two. other two (v == i) (nat_lt (v + 1) n) refl refl }
  where
    within : 1 < n → (y z : Bool) → nat_lt (v + 1) n ≡ z → (if y then (if z then v + 1 else 0) else v) < n
    within two true true e = ltb-true (v + 1) n e
    within two true false e = omega arith
    within two false z e = a

    other : 1 < n → (y z : Bool) → (v == i) ≡ y → nat_lt (v + 1) n ≡ z → ((if y then (if z then v + 1 else 0) else v) == i) ≡ false
    other two true true ey e = apart (v + 1) i (λ s. (let k : v ≡ i = eqb-true v i ey in omega arith))
    other two true false ey e = apart 0 i (λ s. (let k : v ≡ i = eqb-true v i ey in let l : n ≤ v + 1 = ltb-false (v + 1) n e in omega arith))
    other two false z ey e = ey

first_start : (n i : ℕ) → i < n → Start n i
first_start n i b = begins_at n i 0 (omega (arith, b)) b

-- the search has looked at the deques of some other workers, from a start on, and goes on at this one
record Stealing (n i v m : ℕ) (looks : List Look) : Type 0 where
  start : ℕ
  done : List Look
  within : 1 < n → start < n
  other : 1 < n → (start == i) ≡ false
  is : looks ≡ mine ∷ cast ∷ done
  rest : done ++ others n i (suc m) v ≡ others n i (n - 1) start

-- it has looked at every deque
record Stolen (n i : ℕ) (looks : List Look) : Type 0 where
  start : ℕ
  within : 1 < n → start < n
  other : 1 < n → (start == i) ≡ false
  is : looks ≡ mine ∷ cast ∷ others n i (n - 1) start

-- what the looks so far are at each place of a yield, and of a local one
abbrev Stage : Bool → ℕ → ℕ → Place → List Look → Type 0
Stage false n i YieldPop l = l ≡ []
Stage false n i YieldTakeCast l = l ≡ mine ∷ []
Stage false n i YieldPick l = (1 < n) × (l ≡ mine ∷ cast ∷ [])
Stage false n i (YieldSteal v m) l = Stealing n i v m l
Stage false n i YieldPopInjected l = Stolen n i l
Stage true n i LocalPop l = l ≡ []
Stage true n i LocalTakeCast l = l ≡ mine ∷ []
Stage b n i _ l = ⊥

-- where the party is after a step
abbrev Next : Bool → ℕ → ℕ → Stack → Stack → List Look → Type 0
Next b n i base now l = ((y : Place) × ((now ≡ after_call base y) × Stage b n i y l)) ⊎ (IsBack (whole b n i) n i base now l ⊎ HasFound (whole b n i) n i base now l)

-- a look more
abbrev add : List Look → Option Look → List Look
add l None = l
add l (Some a) = l ++ a ∷ []

add_then : (l : List Look) (o : Option Look) (rest : List Look) → add l o ++ rest ≡ l ++ and_then o rest
add_then l None rest = refl
add_then l (Some a) rest = append_assoc l (a ∷ []) rest

nil_right : (l : List Look) → l ++ [] ≡ l
nil_right [] = refl
nil_right (a ∷ l) = ap (λ z. a ∷ z) (nil_right l)

abbrev look_in : Spot → List ℕ → Look
look_in s l = record { spot = s; found = is_filled l }

-- what is left of a search
part_of_start : (b : Bool) (n i : ℕ) (s : Start n i) (l left : List Look) → l ++ left ≡ whole b n i s.start → IsPart (whole b n i) n i l left
part_of_start b n i s l left e = record { start = s.start; within = s.within; other = s.other; is = e }

part_of_steal : (n i v m : ℕ) (l : List Look) → Stealing n i v m l → IsPart (whole false n i) n i l (others n i (suc m) v ++ last ∷ [])
part_of_steal n i v m l s = record {
  start = s.start;
  within = s.within;
  other = s.other;
  is = ap (λ z. z ++ (others n i (suc m) v ++ last ∷ [])) s.is ∙ ap (λ z. mine ∷ cast ∷ z) (sym (append_assoc s.done (others n i (suc m) v) (last ∷ [])) ∙ ap (λ z. z ++ last ∷ []) s.rest);
}

part_of_stolen : (n i : ℕ) (l : List Look) → Stolen n i l → IsPart (whole false n i) n i l (last ∷ [])
part_of_stolen n i l s = record { start = s.start; within = s.within; other = s.other; is = ap (λ z. z ++ last ∷ []) s.is }

-- a round from the first start, then the injector; and the looks from the own broadcast list on
abbrev round_left : (n i : ℕ) → i < n → List Look
round_left n i k = others n i (n - 1) (first_start n i k).start ++ last ∷ []

abbrev cast_left : (n i : ℕ) → i < n → List Look
cast_left n i k = cast ∷ round_left n i k

from_first : (b : Bool) (n i : ℕ) (k : i < n) (l left so_far : List Look) → so_far ++ left ≡ whole b n i (first_start n i k).start → l ≡ so_far → IsPart (whole b n i) n i l left
from_first b n i k l left so_far e s = part_of_start b n i (first_start n i k) l left (ap (λ z. z ++ left) s ∙ e)

goes_on : (b : Bool) (n i : ℕ) (base now : Stack) (y : Place) (l : List Look) → i < n → now ≡ after_call base y → Stage b n i y l → GoesOn (whole b n i) n i base now l
goes_on false n i base now YieldPop l k e s = record { place = YieldPop; left = mine ∷ cast_left n i k; yields = refl; stands = e; searched = from_first false n i k l (mine ∷ cast_left n i k) [] refl s }
goes_on false n i base now YieldTakeCast l k e s = record { place = YieldTakeCast; left = cast_left n i k; yields = refl; stands = e; searched = from_first false n i k l (cast_left n i k) (mine ∷ []) refl s }
goes_on false n i base now YieldPick l k e s = record { place = YieldPick; left = round_left n i k; yields = refl; stands = e; searched = from_first false n i k l (round_left n i k) (mine ∷ cast ∷ []) refl (s.1) }
goes_on false n i base now (YieldSteal v m) l k e s = record { place = YieldSteal v m; left = others n i (suc m) v ++ last ∷ []; yields = refl; stands = e; searched = part_of_steal n i v m l s }
goes_on false n i base now YieldPopInjected l k e s = record { place = YieldPopInjected; left = last ∷ []; yields = refl; stands = e; searched = part_of_stolen n i l s }
goes_on true n i base now LocalPop l k e s = record { place = LocalPop; left = mine ∷ cast ∷ []; yields = refl; stands = e; searched = part_of_start true n i (first_start n i k) l _ (ap (λ z. z ++ (mine ∷ cast ∷ [])) s) }
goes_on true n i base now LocalTakeCast l k e s = record { place = LocalTakeCast; left = cast ∷ []; yields = refl; stands = e; searched = part_of_start true n i (first_start n i k) l _ (ap (λ z. z ++ (cast ∷ [])) s) }
goes_on _ n i base now _ l k e s = absurd s

-- the act at each place
own_some : (o : Order) (l : List ℕ) (t : ℕ) → own_of o l ≡ Some t → is_filled l ≡ true
own_some NewestFirst [] t e = cc
own_some OldestFirst [] t e = cc
own_some o (x ∷ xs) t e = refl

abbrev below : Stack → List Place
below base = base.top ∷ base.below

abbrev Led : Bool → PoolShape → ℕ → ℕ → Stack → Place → List Look → Seen × Part → Type 0
Led b g p i base x l r = Next b g.workers i base (after_move (next_of g (Worker p i) x (r.0)) (below base)) l

none_first : (o : Order) (l : List Look) (own : List ℕ) → l ≡ [] → own_of o own ≡ None → l ++ look_in OwnDeque own ∷ [] ≡ mine ∷ []
none_first o l own s e = ap (λ z. z ++ look_in OwnDeque own ∷ []) s ∙ ap (λ z. look_in OwnDeque z ∷ []) (own_none o own e)

some_first : (o : Order) (l : List Look) (own : List ℕ) (t : ℕ) → l ≡ [] → own_of o own ≡ Some t → l ++ look_in OwnDeque own ∷ [] ≡ [] ++ record { spot = OwnDeque; found = true } ∷ []
some_first o l own t s e = ap (λ z. z ++ look_in OwnDeque own ∷ []) s ∙ ap (λ z. record { spot = OwnDeque; found = z } ∷ []) (own_some o own t e)

pop_leads : (g : PoolShape) (p i : ℕ) (m : Part) (o : Order) (base : Stack) (l : List Look) (t : Option ℕ) → i < g.workers → own_of o m.seat.own ≡ t → l ≡ [] → IfSome (popped (Worker p i) m (own_left o m.seat.own) t) (Led false g p i base YieldPop (l ++ look_in OwnDeque m.seat.own ∷ []))
pop_leads g p i m o base l None k e s = inl (YieldTakeCast, (refl, none_first o l m.seat.own s e))
pop_leads g p i m o base l (Some t) k e s =
    inr (inr (record { task = taken_as t m.job.kind; spot = OwnDeque; before = []; left = cast_left g.workers i k; stands = refl; last = some_first o l m.seat.own t s e; searched = from_first false g.workers i k [] _ [] refl refl }))

local_leads : (g : PoolShape) (p i : ℕ) (m : Part) (o : Order) (base : Stack) (l : List Look) (t : Option ℕ) → i < g.workers → own_of o m.seat.own ≡ t → l ≡ [] → IfSome (popped (Worker p i) m (own_left o m.seat.own) t) (Led true g p i base LocalPop (l ++ look_in OwnDeque m.seat.own ∷ []))
local_leads g p i m o base l None k e s = inl (LocalTakeCast, (refl, none_first o l m.seat.own s e))
local_leads g p i m o base l (Some t) k e s = inr (inr (record { task = taken_as t m.job.kind; spot = OwnDeque; before = []; left = cast ∷ []; stands = refl; last = some_first o l m.seat.own t s e; searched = part_of_start true g.workers i (first_start g.workers i k) [] _ refl }))

cast_leads : (g : PoolShape) (p i : ℕ) (m : Part) (base : Stack) (l : List Look) (t : List ℕ) → i < g.workers → l ≡ mine ∷ [] → IfSome (take_cast (Worker p i) m t) (Led false g p i base YieldTakeCast (l ++ look_in OwnCast t ∷ []))
cast_leads g p i m base l (t ∷ ts) k s =
    inr (inr (record { task = taken_as t m.job.kind; spot = OwnCast; before = l; left = round_left g.workers i k; stands = refl; last = refl; searched = from_first false g.workers i k l (cast_left g.workers i k) (mine ∷ []) refl s }))
cast_leads g p i m base l [] k s = at (g.workers == 1) refl
  where
    first : Start g.workers i
    first = first_start g.workers i k

    two_looks : l ++ cast ∷ [] ≡ mine ∷ cast ∷ []
    two_looks = ap (λ z. z ++ cast ∷ []) s

    at : (b : Bool) → (g.workers == 1) ≡ b → Next false g.workers i base (after_move (if b then Stay YieldPopInjected else Stay YieldPick) (below base)) (l ++ cast ∷ [])
    at true e = inl (YieldPopInjected, (refl, record { start = first.start; within = first.within; other = first.other; is = two_looks ∙ ap (λ z. mine ∷ cast ∷ others g.workers i (z - 1) first.start) (sym (eqb-true g.workers 1 e)) }))
    at false e = let many : g.workers ≢ 1 = λ z. (let y : (g.workers == 1) ≡ true = eq-eqb g.workers 1 z in cc) in inl (YieldPick, (refl, (omega arith, two_looks)))

local_cast_leads : (g : PoolShape) (p i : ℕ) (m : Part) (base : Stack) (l : List Look) (t : List ℕ) → i < g.workers → l ≡ mine ∷ [] → IfSome (take_cast (Worker p i) m t) (Led true g p i base LocalTakeCast (l ++ look_in OwnCast t ∷ []))
local_cast_leads g p i m base l (t ∷ ts) k s = inr (inr (record { task = taken_as t m.job.kind; spot = OwnCast; before = l; left = []; stands = refl; last = refl; searched = part_of_start true g.workers i (first_start g.workers i k) l _ (ap (λ z. z ++ (cast ∷ [])) s) }))
local_cast_leads g p i m base l [] k s = inr (inl (record { stands = refl; searched = part_of_start true g.workers i (first_start g.workers i k) (l ++ cast ∷ []) [] (nil_right (l ++ cast ∷ []) ∙ ap (λ z. z ++ cast ∷ []) s) }))

-- the round begins at a worker
pick_leads : (n i v : ℕ) (base : Stack) (l : List Look) → v < n → i < n → Stage false n i YieldPick l → Next false n i base (after_call base (YieldSteal (not_self n i v) (n - 2))) l
unfolding begins_at
pick_leads n i v base l a b s = inl (
  YieldSteal (not_self n i v) (n - 2),
  (
    refl,
    record {
      start = not_self n i v;
      done = [];
      within = (begins_at n i v a b).within;
      other = (begins_at n i v a b).other;
      is = s.1;
      rest = (let two : 1 < n = s.0 in let m : suc (n - 2) ≡ n - 1 = omega arith in ap (λ z. others n i z (not_self n i v)) m);
    },
  ),
)

-- a steal finds nothing
skip_leads : (g : PoolShape) (p i v m : ℕ) (base : Stack) (l : List Look) → Stealing g.workers i v m l → Next false g.workers i base (after_call base (next_yield g (Worker p i) v m)) (l ++ deck v ∷ [])
skip_leads g p i v m base l s = at (m == 0) refl
  where
    n : ℕ
    n = g.workers

    next : ℕ
    next = not_self n i (next_victim n v)

    more : l ++ deck v ∷ [] ≡ mine ∷ cast ∷ (s.done ++ deck v ∷ [])
    more = ap (λ z. z ++ deck v ∷ []) s.is

    after : (s.done ++ deck v ∷ []) ++ others n i m next ≡ others n i (n - 1) s.start
    after = append_assoc s.done (deck v ∷ []) (others n i m next) ∙ s.rest

    at : (b : Bool) → (m == 0) ≡ b → Next false n i base (after_call base (if b then YieldPopInjected else YieldSteal next (m - 1))) (l ++ deck v ∷ [])
    at true e = inl (
      YieldPopInjected,
      (
        refl,
        record {
          start = s.start;
          within = s.within;
          other = s.other;
          is = more ∙ ap (λ z. mine ∷ cast ∷ z) (let m0 : m ≡ 0 = eqb-true m 0 e in ap (λ z. s.done ++ (deck v ∷ others n i z next)) (sym m0) ∙ s.rest);
        },
      ),
    )
    at false e = inl (
      YieldSteal next (m - 1),
      (
        refl,
        record {
          start = s.start;
          done = s.done ++ deck v ∷ [];
          within = s.within;
          other = s.other;
          is = more;
          rest = (let some : m ≢ 0 = λ z. (let y : (m == 0) ≡ true = eq-eqb m 0 z in cc) in let m1 : suc (m - 1) ≡ m = omega arith in ap (λ z. (s.done ++ deck v ∷ []) ++ others n i z next) m1 ∙ after);
        },
      ),
    )

steal_leads : (g : PoolShape) (p i v m : ℕ) (c : Part) (base : Stack) (l : List Look) (t : List ℕ) → Stealing g.workers i v m l → IfSome (popped (Worker p i) c (but_first t) (head_of t)) (Led false g p i base (YieldSteal v m) (l ++ look_in (Deque v) t ∷ []))
steal_leads g p i v m c base l (t ∷ ts) s = inr (inr (record { task = taken_as t c.job.kind; spot = Deque v; before = l; left = others g.workers i m (not_self g.workers i (next_victim g.workers v)) ++ last ∷ []; stands = refl; last = refl; searched = part_of_steal g.workers i v m l s }))
steal_leads g p i v m c base l [] s = skip_leads g p i v m base l s

last_leads : (g : PoolShape) (p i : ℕ) (m : Part) (base : Stack) (l : List Look) (t : List ℕ) → Stolen g.workers i l → IfSome (pop_injector (Worker p i) m t) (Led false g p i base YieldPopInjected (l ++ look_in Injector t ∷ []))
last_leads g p i m base l (t ∷ ts) s = inr (inr (record { task = taken_as t m.job.kind; spot = Injector; before = l; left = []; stands = refl; last = refl; searched = part_of_stolen g.workers i l s }))
last_leads g p i m base l [] s = inr (inl (record { stands = refl; searched = record { start = s.start; within = s.within; other = s.other; is = nil_right (l ++ last ∷ []) ∙ ap (λ z. z ++ last ∷ []) s.is } }))

leads_on : (b : Bool) (w : World) (p i : ℕ) (base : Stack) (y : Place) (l : List Look) → i < (w.shape.pool p).workers → Stage b (w.shape.pool p).workers i y l
    → IfSome (outcome w (Worker p i) (after_call base y)) (λ r. Next b (w.shape.pool p).workers i base (after_move (next_at w (Worker p i) (after_call base y) (r.0)) (below base)) (add l (yield_look_at w p i y)))
leads_on false w p i base YieldPop l k s = pop_leads (w.shape.pool p) p i (part_at w (Worker p i) (after_call base YieldPop)) (w.shape.pool p).order base l (own_of (w.shape.pool p).order (w.seat p i).own) k refl s
leads_on false w p i base YieldTakeCast l k s = cast_leads (w.shape.pool p) p i (part_at w (Worker p i) (after_call base YieldTakeCast)) base l ((w.pool p).casts i) k s
leads_on false w p i base YieldPick l k s = pick_leads (w.shape.pool p).workers i 0 base l (omega (arith, k)) k s
leads_on false w p i base (YieldSteal v m) l k s = steal_leads (w.shape.pool p) p i v m (part_at w (Worker p i) (after_call base (YieldSteal v m))) base l (w.seat p v).own s
leads_on false w p i base YieldPopInjected l k s = last_leads (w.shape.pool p) p i (part_at w (Worker p i) (after_call base YieldPopInjected)) base l (w.pool p).injector s
leads_on true w p i base LocalPop l k s = local_leads (w.shape.pool p) p i (part_at w (Worker p i) (after_call base LocalPop)) (w.shape.pool p).order base l (own_of (w.shape.pool p).order (w.seat p i).own) k refl s
leads_on true w p i base LocalTakeCast l k s = local_cast_leads (w.shape.pool p) p i (part_at w (Worker p i) (after_call base LocalTakeCast)) base l ((w.pool p).casts i) k s
leads_on _ w p i base _ l k s = absurd s

module _ (b : Bool) (w : World) (p i : ℕ) (base : Stack) (y : Place) (l : List Look) (small : i < (w.shape.pool p).workers) (is : w.stack (Worker p i) ≡ after_call base y) (s : Stage b (w.shape.pool p).workers i y l) where
  abbrev q : Party
  q = Worker p i

  -- where the party is after the event
  abbrev After : Event → World → Type 0
  After e u = Next b (w.shape.pool p).workers i base (u.stack q) (add l (yield_look_of p i w e))

  mine_now : (x : Stack) (k : List Look) → Next b (w.shape.pool p).workers i base x k → Next b (w.shape.pool p).workers i base ((with_stack w q x).stack q) k
  mine_now x k f = subst (λ z. Next b (w.shape.pool p).workers i base z k) (sym (stack_mine w.stack q x)) f

  look_mine : (o : Option Look) → (if same_party q q then o else None) ≡ o
  look_mine o = ap (λ z. if z then o else None) (same_refl p i)

  go_next : IfSome (step w (Go q)) (After (Go q))
  go_next = acted_keeps w q k (target_pool q (act_of q k.top)) (target_worker q (act_of q k.top)) (target_call (act_of q k.top)) (job_at w q (act_of q k.top)) (outcome w q k) (After (Go q))
      (if_some_map (λ r. Next b (w.shape.pool p).workers i base (after_move (next_at w q k (r.0)) k.below) (add l (yield_look_at w p i k.top))) (λ r. After (Go q) (result w q k r))
      (λ r f. subst (λ z. Next b (w.shape.pool p).workers i base z (add l (yield_look_of p i w (Go q)))) (sym (stack_mine w.stack q (after_move (next_at w q k (r.0)) k.below)))
      (subst (λ o. Next b (w.shape.pool p).workers i base (after_move (next_at w q k (r.0)) k.below) (add l o)) (sym (look_mine (yield_look_at w p i k.top))) f)) (outcome w q k)
      (subst (λ z. IfSome (outcome w q z) (λ r. Next b (w.shape.pool p).workers i base (after_move (next_at w q z (r.0)) z.below) (add l (yield_look_at w p i z.top)))) (sym is) (leads_on b w p i base y l small s)))
    where
      k : Stack
      k = w.stack q

choice_next : (b : Bool) (w : World) (p i : ℕ) (base : Stack) (y : Place) (l : List Look) (v : ℕ) → i < (w.shape.pool p).workers → Stage b (w.shape.pool p).workers i y l
    → IfSome (after_choice w (Worker p i) (after_call base y) y v) (λ u. Next b (w.shape.pool p).workers i base (u.stack (Worker p i)) l)
choice_next false w p i base YieldPick l v k s = if_cond (λ u. Next false (w.shape.pool p).workers i base (u.stack (Worker p i)) l) (nat_lt v (w.shape.pool p).workers) _
    (λ t. subst (λ z. Next false (w.shape.pool p).workers i base z l) (sym (stack_mine w.stack (Worker p i) _)) (pick_leads (w.shape.pool p).workers i v base l (ltb-true v (w.shape.pool p).workers t) k s))
choice_next false w p i base (PickVictim k) l v a s = absurd s
choice_next true w p i base (PickVictim k) l v a s = absurd s
choice_next true w p i base YieldPick l v a s = absurd s
choice_next false w p i base _ l v k s = tt
choice_next true w p i base _ l v k s = tt

missed_next : (b : Bool) (w : World) (p i : ℕ) (base : Stack) (y : Place) (l : List Look) → Stage b (w.shape.pool p).workers i y l → IfSome (after_miss w (Worker p i) (after_call base y) y) (λ u. Next b (w.shape.pool p).workers i base (u.stack (Worker p i)) (add l (yield_missed y)))
missed_next false w p i base (YieldSteal v m) l s = if_cond (λ u. Next false (w.shape.pool p).workers i base (u.stack (Worker p i)) (l ++ deck v ∷ [])) (can_miss w p v) _
    (λ t. subst (λ z. Next false (w.shape.pool p).workers i base z (l ++ deck v ∷ [])) (sym (stack_mine w.stack (Worker p i) _)) (skip_leads (w.shape.pool p) p i v m base l s))
missed_next false w p i base (StealFrom k m) l s = absurd s
missed_next true w p i base (StealFrom k m) l s = absurd s
missed_next true w p i base (YieldSteal v m) l s = absurd s
missed_next false w p i base _ l s = tt
missed_next true w p i base _ l s = tt

-- what another party's event leaves
no_look : (p i : ℕ) (w : World) (e : Event) → same_party (Worker p i) (actor e) ≡ false → yield_look_of p i w e ≡ None
no_look p i w (Go r) d = ap (λ z. if z then yield_look_at w p i (w.stack r).top else None) d
no_look p i w (Miss r) d = ap (λ z. if z then yield_missed (w.stack r).top else None) d
no_look p i w _ d = refl

stage_yields : (b : Bool) (n i : ℕ) (y : Place) (l : List Look) → Stage b n i y l → is_yielding y ≡ true
stage_yields false n i YieldPop l s = refl
stage_yields false n i YieldTakeCast l s = refl
stage_yields false n i YieldPick l s = refl
stage_yields false n i (YieldSteal v m) l s = refl
stage_yields false n i YieldPopInjected l s = refl
stage_yields true n i LocalPop l s = refl
stage_yields true n i LocalTakeCast l s = refl
stage_yields _ n i _ l s = absurd s

-- each event
yield_step : (b : Bool) (w v : World) (p i : ℕ) (base : Stack) (y : Place) (l : List Look) (e : Event) → i < (w.shape.pool p).workers → w.stack (Worker p i) ≡ after_call base y → Stage b (w.shape.pool p).workers i y l → step w e ≡ Some v
    → Next b (w.shape.pool p).workers i base (v.stack (Worker p i)) (add l (yield_look_of p i w e))
yield_step b w v p i base y l e small is s one = by (either (same_party (Worker p i) (actor e)))
  where
    q : Party
    q = Worker p i

    After : Event → World → Type 0
    After e u = Next b (w.shape.pool p).workers i base (u.stack (Worker p i)) (add l (yield_look_of p i w e))

    yields : is_yielding (w.stack (Worker p i)).top ≡ true
    yields = ap (λ z. is_yielding (z.top)) is ∙ stage_yields b (w.shape.pool p).workers i y l s

    never : (e : Event) → Worker p i ≡ actor e → is_search e ≡ false → step w e ≡ Some v → ⊥
    never e m n one = let a : is_enabled w e ≡ false = shut w e n (subst (λ r. is_yielding (w.stack r).top ≡ true) m yields) in let k : true ≡ false = sym (ap is_some one) ∙ a in cc

    own : (e : Event) → Worker p i ≡ actor e → step w e ≡ Some v → After e v
    own (Go r) m one = made (After (Go r)) w v (Go r) one (subst (λ z. IfSome (step w (Go z)) (After (Go z))) m (go_next b w p i base y l small is s))
    own (From r k) m one = made (After (From r k)) w v (From r k) one
        (subst (λ z. IfSome (step w (From z k)) (After (From z k))) m (subst (λ z. IfSome (after_choice w (Worker p i) z (z.top) k) (λ u. Next b (w.shape.pool p).workers i base (u.stack (Worker p i)) l)) (sym is) (choice_next b w p i base y l k small s)))
    own (Miss r) m one = made (After (Miss r)) w v (Miss r) one (subst (λ z. IfSome (step w (Miss z)) (After (Miss z))) m
        (subst (λ o. IfSome (step w (Miss (Worker p i))) (λ u. Next b (w.shape.pool p).workers i base (u.stack (Worker p i)) (add l o))) (sym (ap (λ z. if z then yield_missed (w.stack (Worker p i)).top else None) (same_refl p i)))
        (subst (λ z. IfSome (after_miss w (Worker p i) z (z.top)) (λ u. Next b (w.shape.pool p).workers i base (u.stack (Worker p i)) (add l (yield_missed (z.top))))) (sym is) (missed_next b w p i base y l s))))
    own e m one = absurd (never e m refl one)

    by : (same_party (Worker p i) (actor e) ≡ true) ⊎ (same_party (Worker p i) (actor e) ≡ false) → After e v
    by (inl t) = own e (same_party_true (Worker p i) (actor e) t) one
    by (inr d) = subst (λ o. Next b (w.shape.pool p).workers i base (v.stack (Worker p i)) (add l o)) (sym (no_look p i w e d))
        (inl (y, ((made (Leaves (actor e) w) w v e one (leaves w e)).others (Worker p i) d ∙ is, s)))

-- over a stretch
abbrev So : Bool → Shape → ℕ → ℕ → Stack → Stack → List Look → Type 0
So b h p i base now l = YieldsSo (whole b (h.pool p).workers i) (h.pool p).workers i base now l

at_last : (b : Bool) (n i : ℕ) (base now : Stack) (l : List Look) → i < n → Next b n i base now l → YieldsSo (whole b n i) n i base now l
at_last b n i base now l k (inl (y, (e, s))) = inl (goes_on b n i base now y l k e s)
at_last b n i base now l k (inr f) = inr f

free_still : (x : Place) → is_free x ≡ true → is_yielding x ≡ false
free_still (Run t k) e = refl
free_still Free e = refl
free_still _ e = absurd (cc)

run_yields : (b : Bool) (p i : ℕ) (base : Stack) (l : List Look) (z u : World) (es : List Event) → is_free base.top ≡ true → i < (z.shape.pool p).workers → Next b (z.shape.pool p).workers i base (z.stack (Worker p i)) l → IsYieldRun (Worker p i) z es u
    → So b z.shape p i base (u.stack (Worker p i)) (l ++ yield_looks_in p i (Some z) es)
run_yields b p i base l z u [] f k n r = subst (λ a. So b z.shape p i base (a.stack (Worker p i)) (l ++ [])) (sym r) (subst (So b z.shape p i base (z.stack (Worker p i))) (sym (nil_right l)) (at_last b (z.shape.pool p).workers i base (z.stack (Worker p i)) l k n))
run_yields b p i base l z u (e ∷ es) f k (inr (inl m)) (t, v, one, rest) = absurd (let a : is_yielding base.top ≡ true = sym (ap (λ s. is_yielding (s.top)) m.stands) ∙ t in let c : false ≡ true = sym (free_still base.top f) ∙ a in cc)
run_yields b p i base l z u (e ∷ es) f k (inr (inr m)) (t, v, one, rest) = absurd (let a : false ≡ true = sym (ap (λ s. is_yielding (s.top)) m.stands) ∙ t in cc)
run_yields b p i base l z u (e ∷ es) f k (inl (y, (is, s))) (t, v, one, rest) =
    let same : v.shape ≡ z.shape = (made (Leaves (actor e) z) z v e one (leaves z e)).shape in
    let next : Next b (z.shape.pool p).workers i base (v.stack (Worker p i)) (add l (yield_look_of p i z e)) = yield_step b z v p i base y l e k is s one in
    let here : So b v.shape p i base (u.stack (Worker p i)) (add l (yield_look_of p i z e) ++ yield_looks_in p i (Some v) es) = run_yields b p i base (add l (yield_look_of p i z e)) v u es f (subst (λ h. i < (h.pool p).workers) (sym same) k)
    (subst (λ h. Next b (h.pool p).workers i base (v.stack (Worker p i)) (add l (yield_look_of p i z e))) (sym same) next) rest in
    subst (So b z.shape p i base (u.stack (Worker p i))) (add_then l (yield_look_of p i z e) (yield_looks_in p i (Some v) es) ∙ ap (λ o. l ++ and_then (yield_look_of p i z e) (yield_looks_in p i o es)) (sym one))
    (subst (λ h. So b h p i base (u.stack (Worker p i)) (add l (yield_look_of p i z e) ++ yield_looks_in p i (Some v) es)) same here)

-- its beginning
abbrev Begun : World → Party → Place → World → Type 0
Begun w q x v = (is_free (w.stack q).top ≡ true) × (v.stack q ≡ after_call (w.stack q) x) × (v.shape ≡ w.shape)

begun : (w : World) (p i : ℕ) (x : Place) → IfSome (after_yield w (Worker p i) (w.stack (Worker p i)) x) (Begun w (Worker p i) x)
begun w p i x = if_cond (Begun w (Worker p i) x) (is_free (w.stack (Worker p i)).top) _ (λ t. (t, stack_mine w.stack (Worker p i) (after_call (w.stack (Worker p i)) x), refl))

law_of : (b : Bool) (x : Place) (w v u : World) (p i : ℕ) (es : List Event) → i < (w.shape.pool p).workers → Stage b (w.shape.pool p).workers i x [] → Begun w (Worker p i) x v → IsYieldRun (Worker p i) v es u
    → So b w.shape p i (w.stack (Worker p i)) (u.stack (Worker p i)) (yield_looks_in p i (Some v) es)
law_of b x w v u p i es k s (f, is, same) r = subst (λ h. So b h p i (w.stack (Worker p i)) (u.stack (Worker p i)) (yield_looks_in p i (Some v) es)) same
    (run_yields b p i (w.stack (Worker p i)) [] v u es f (subst (λ h. i < (h.pool p).workers) (sym same) k) (inl (x, (is, subst (λ h. Stage b (h.pool p).workers i x []) (sym same) s))) r)

pub yield_law : YieldLaw
yield_law w v u p i es k one r = law_of false YieldPop w v u p i es k refl (made (Begun w (Worker p i) YieldPop) w v (Yield (Worker p i)) one (begun w p i YieldPop)) r

pub local_law : LocalLaw
local_law w v u p i es k one r = law_of true LocalPop w v u p i es k refl (made (Begun w (Worker p i) LocalPop) w v (YieldLocal (Worker p i)) one (begun w p i LocalPop)) r
