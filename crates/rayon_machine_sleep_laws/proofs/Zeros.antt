-- the acts that bring a count to 0, and where they lead: to the acts that set the latches which wait for it
--
-- The places on the way to a latch are `goes` (Rests).
use Rattle.std.proofs.Common.{arith, refl, sym, ◌∙◌, ap, subst, inl, inr, ◌≢◌}
use Rattle.rayon_machine_sleep_laws.proofs.Words.{ℕ, zero, suc, Bool, true, false, ◌&&◌, ◌+◌, ◌-◌, ◌==◌, ◌≤◌, ◌<◌, nat_lt, if◌then◌else◌, Some, None, List, ◌≡◌, ◌⊎◌, IfSome, eqb-true, eq-eqb, lt-ltb, Party, Worker, Caller, Latch, Terminate, OfCall, Scoped, Count, OfPool, OfScope, OfCast, Share}
use Rattle.rayon_machine_sleep_laws.proofs.Words.{Then, Resume, Pieces, Place, RaiseCount, LowerCount, RaiseForAll, LowerForAll, PushForAll, DealPieces, StoreResult, SetLatch, LockToSettle, WakeSettled, UnlockSettled, SetLockLatch, Stay, Settling, Seen, Done, Refused, Yes, No, PoolShape, act_of}
use Rattle.rayon_machine_sleep_laws.proofs.Words.{next_of, finish, settle, after_set, set_call, ends_count, plan_count, count_call, count_kind, Shape, World, Counts, Part, Outcome, effect, raised, all_raised, target_pool, target_call, after_move, is_piece, one}
use Rattle.rayon_machine_runs.specs.World.{count_in, lowered, all_lowered, pool_less, call_less, pool_more, call_more}
use Rattle.rayon_machine_places.specs.Targets.{count_pool}
use Rattle.rayon_machine_laws.specs.Shares.{shares, shares_in}
use Rattle.rayon_machine_laws.proofs.Claims.{SaysCast, KnownCount}
use Rattle.rayon_machine_laws.proofs.ClaimRuns.{top_says, place_part}
use Rattle.rayon_machine_laws.proofs.Frame.{if_some_and, if_some_map}
use Rattle.rayon_machine_laws.proofs.ShareActs.{Untallied, act_untallied, one_is, with_job, tally}
use Rattle.rayon_machine_laws.proofs.ShareSteps.{count_tally, pieces_made, self_one, weigh}
use Rattle.rayon_machine_laws.proofs.ScopeCounts.{ScopesHold, Uncalled, act_uncalled, entry, entry_on}
use Rattle.rayon_machine_laws.proofs.Setters.{is_of, is_end, walks, unset_from, passed, call_at, pool_at, led, ended}
use Rattle.rayon_machine_laws.proofs.Storing.{number_is}
use Rattle.rayon_machine_laws.proofs.Tokens.{sum_below, pieces_below}
use Rattle.rayon_machine_sleep_laws.proofs.Rests.{not_both}

-- a broadcast gives back more shares than its count has
abbrev pub Short : Part → Place → Type 0
Short m (LowerForAll b) = count_in m b.count < b.workers
Short m x = ⊥

-- a count is 0 after an act only where it was before, or the act has seen that it gives the last share back
pub record Zeroes (q : Party) (m : Part) (x : Place) (r : Seen × Part) : Type 0 where
  pub pool : r.1.pool.count ≡ 0 → (m.pool.count ≡ 0) ⊎ ((ended x (r.0) ≡ Some (target_pool q (act_of q x))) ⊎ Short m x)
  pub call : r.1.call.count ≡ 0 → (m.call.count ≡ 0) ⊎ ((led x (r.0) ≡ Some (target_call (act_of q x))) ⊎ Short m x)

raise_zeroes : (q : Party) (m : Part) (x : Place) (k : Count) (b : Bool) → IfSome (if b then Some (Refused, m) else Some (Done, raised m k)) (Zeroes q m x)
raise_zeroes q m x k true = record { pool = λ z. inl z; call = λ z. inl z }
raise_zeroes q m x (OfPool p) false = record { pool = λ z. absurd (omega (arith, z)); call = λ z. inl z }
raise_zeroes q m x _ false = record { pool = λ z. inl z; call = λ z. absurd (omega (arith, z)) }

no_pool_more : (k : Count) (i n : ℕ) → pool_more k i n ≡ 0 → n ≡ 0
no_pool_more (OfPool p) i n z = omega (arith, z)
no_pool_more _ i n z = z

no_call_more : (k : Count) (i n : ℕ) → call_more k i n ≡ 0 → n ≡ 0
no_call_more (OfPool p) i n z = z
no_call_more _ i n z = omega (arith, z)

raise_all_zeroes : (q : Party) (m : Part) (x : Place) (c : Pieces) (b : Bool) → IfSome (if b then Some (Refused, m) else Some (Done, all_raised m c)) (Zeroes q m x)
raise_all_zeroes q m x c true = record { pool = λ z. inl z; call = λ z. inl z }
raise_all_zeroes q m x c false = record { pool = λ z. inl (no_pool_more c.count c.workers m.pool.count z); call = λ z. inl (no_call_more c.count c.workers m.call.count z) }

-- one share less is none only where there was one, or none
one_less : (n : ℕ) → (n == 1) ≡ false → n - 1 ≡ 0 → n ≡ 0
one_less n e z = let d : n ≢ 1 = λ s. not_both (n == 1) (eq-eqb n 1 s) e in omega (arith, d, z)

lower_zeroes : (q : Party) (m : Part) (k : Count) (s : Share) (t : Then) → Zeroes q m (LowerCount k s t) ((if count_in m k == 1 then Yes else No), lowered m k s)
lower_zeroes q m (OfPool p) s t = record { pool = at q (m.pool.count == 1) refl; call = λ z. inl z }
  where
    at : (q : Party) (b : Bool) → (m.pool.count == 1) ≡ b → m.pool.count - 1 ≡ 0 → (m.pool.count ≡ 0) ⊎ ((ended (LowerCount (OfPool p) s t) (if b then Yes else No) ≡ Some (target_pool q (act_of q (LowerCount (OfPool p) s t)))) ⊎ ⊥)
    at (Worker a b) true e z = inr (inl refl)
    at (Caller n) true e z = inr (inl refl)
    at q false e z = inl (one_less m.pool.count e z)
lower_zeroes q m (OfScope c o) s t = record { pool = λ z. inl z; call = at q (m.call.count == 1) refl }
  where
    at : (q : Party) (b : Bool) → (m.call.count == 1) ≡ b → m.call.count - 1 ≡ 0 → (m.call.count ≡ 0) ⊎ ((led (LowerCount (OfScope c o) s t) (if b then Yes else No) ≡ Some (target_call (act_of q (LowerCount (OfScope c o) s t)))) ⊎ ⊥)
    at (Worker a b) true e z = inr (inl refl)
    at (Caller n) true e z = inr (inl refl)
    at q false e z = inl (one_less m.call.count e z)
lower_zeroes q m (OfCast c o) s t = record { pool = λ z. inl z; call = at q (m.call.count == 1) refl }
  where
    at : (q : Party) (b : Bool) → (m.call.count == 1) ≡ b → m.call.count - 1 ≡ 0 → (m.call.count ≡ 0) ⊎ ((led (LowerCount (OfCast c o) s t) (if b then Yes else No) ≡ Some (target_call (act_of q (LowerCount (OfCast c o) s t)))) ⊎ ⊥)
    at (Worker a b) true e z = inr (inl refl)
    at (Caller n) true e z = inr (inl refl)
    at q false e z = inl (one_less m.call.count e z)

-- what the act of a refused broadcast touches
all_pool : (q : Party) (b : Pieces) → target_pool q (act_of q (LowerForAll b)) ≡ count_pool q b.count
all_pool (Worker i j) b = refl
all_pool (Caller n) b = refl

all_call : (q : Party) (b : Pieces) → target_call (act_of q (LowerForAll b)) ≡ count_call b.count
all_call (Worker i j) b = refl
all_call (Caller n) b = refl

fewer : (n k : ℕ) → (n == k) ≡ false → n - k ≡ 0 → n < k
fewer n k e z = let d : n ≢ k = λ s. not_both (n == k) (eq-eqb n k s) e in omega (arith, d, z)

lower_all_zeroes : (q : Party) (m : Part) (b : Pieces) → Zeroes q m (LowerForAll b) ((if count_in m b.count == b.workers then Yes else No), all_lowered m b)
lower_all_zeroes q m b = record { pool = pool b.count refl (count_in m b.count == b.workers) refl; call = call b.count refl (count_in m b.count == b.workers) refl }
  where
    pool : (k : Count) → b.count ≡ k → (z : Bool) → (count_in m k == b.workers) ≡ z → pool_less k b.workers m.pool.count ≡ 0 → (m.pool.count ≡ 0) ⊎ ((ended (LowerForAll b) (if z then Yes else No) ≡ Some (target_pool q (act_of q (LowerForAll b)))) ⊎ (count_in m b.count < b.workers))
    pool (OfPool p) i true e y = inr (inl (ap pool_at i ∙ sym (ap Some (all_pool q b ∙ ap (count_pool q) i))))
    pool (OfPool p) i false e y = inr (inr (subst (λ j. count_in m j < b.workers) (sym i) (fewer m.pool.count b.workers e y)))
    pool _ i z e y = inl y

    call : (k : Count) → b.count ≡ k → (z : Bool) → (count_in m k == b.workers) ≡ z → call_less k b.workers m.call.count ≡ 0 → (m.call.count ≡ 0) ⊎ ((led (LowerForAll b) (if z then Yes else No) ≡ Some (target_call (act_of q (LowerForAll b)))) ⊎ (count_in m b.count < b.workers))
    call (OfPool p) i z e y = inl y
    call _ i true e y = inr (inl (ap call_at i ∙ sym (ap Some (all_call q b ∙ ap count_call i))))
    call _ i false e y = inr (inr (subst (λ j. count_in m j < b.workers) (sym i) (fewer m.call.count b.workers e y)))

plain_zeroes : (q : Party) (m : Part) (x : Place) (o : Outcome) → IfSome o (Untallied m) → IfSome o (Uncalled m) → IfSome o (Zeroes q m x)
plain_zeroes q m x o t c = if_some_map (λ r. Untallied m r × Uncalled m r) (Zeroes q m x) (λ r f. record { pool = λ z. inl (sym ((f.0).count) ∙ z); call = λ z. inl (sym ((f.1).count) ∙ z) }) o (if_some_and (Untallied m) (Uncalled m) o t c)

pub zeroes : (h : Shape) (q : Party) (c : Counts) (m : Part) (x : Place) → IfSome (effect (act_of q x) h q c m) (Zeroes q m x)
zeroes h (Worker a b) c m (RaiseCount n) = raise_zeroes (Worker a b) m (RaiseCount n) (plan_count n) _
zeroes h (Caller n) c m (RaiseCount g) = raise_zeroes (Caller n) m (RaiseCount g) (plan_count g) _
zeroes h (Worker a b) c m (RaiseForAll n) = raise_all_zeroes (Worker a b) m (RaiseForAll n) n _
zeroes h (Caller n) c m (RaiseForAll g) = raise_all_zeroes (Caller n) m (RaiseForAll g) g _
zeroes h (Worker a b) c m (LowerCount k s t) = lower_zeroes (Worker a b) m k s t
zeroes h (Caller n) c m (LowerCount k s t) = lower_zeroes (Caller n) m k s t
zeroes h (Worker a b) c m (LowerForAll n) = lower_all_zeroes (Worker a b) m n
zeroes h (Caller n) c m (LowerForAll g) = lower_all_zeroes (Caller n) m g
zeroes h (Worker a b) c m (PushForAll n) = record { pool = λ z. inl z; call = λ z. inl z }
zeroes h (Caller n) c m (PushForAll g) = record { pool = λ z. inl z; call = λ z. inl z }
zeroes h (Worker a b) c m (DealPieces n) = record { pool = λ z. inl z; call = λ z. inl z }
zeroes h (Caller n) c m (DealPieces g) = record { pool = λ z. inl z; call = λ z. inl z }
zeroes h q c m x = plain_zeroes q m x (effect (act_of q x) h q c m) (act_untallied h q c m x refl) (act_uncalled h q c m x refl)

-- a sum is no more where each of its summands is no more
sum_most : (n : ℕ) (f g : ℕ → ℕ) → ((i : ℕ) → i + 1 ≤ n → f i ≤ g i) → sum_below n f ≤ sum_below n g
sum_most zero f g h = omega arith
sum_most (suc n) f g h = let a : f n ≤ g n = h n (omega arith) in let b : sum_below n f ≤ sum_below n g = sum_most n f g (λ i l. h i (omega (arith, l))) in omega (arith, a, b)

-- the count of a refused broadcast has the shares of its pieces
pub not_short : (w : World) (q : Party) (x : Place) (fs : List Place) → ScopesHold w → w.stack q ≡ record { top = x; below = fs } → Short (place_part w q x) x → ⊥
not_short w q (LowerForAll b) fs h z s = by b.count refl
  where
    claim : SaysCast w b
    claim = top_says w q (LowerForAll b) fs ((h.shares).calls) z

    had : (t : ℕ) → is_piece b t ≡ true → (w.job t).counted ≡ true
    had t y = one_is ((w.job t).counted) (
        let a : shares t (w.stack q) ≡ one (is_piece b t) + shares_in t fs = ap (shares t) z in
        let d : one (is_piece b t) ≡ 1 = ap one y in
        let e : shares t (w.stack q) + with_job (w.job t) ≤ one (w.job t).counted = ((h.shares).jobs t).alone q in omega (arith, a, d, e))

    tallied : (p t : ℕ) → b.count ≡ OfPool p → is_piece b t ≡ true → tally p (w.job t) ≡ 1
    tallied p t i y = count_tally w q b.count b.pool p (w.job t) (claim.1) (had t y) ((claim.0 t y).kind) ((claim.0 t y).pool) ∙ ap (λ k. weigh k (p == count_pool q k)) i ∙ self_one p

    entered : (c t : ℕ) (o : Party) → b.count ≡ OfScope c o → is_piece b t ≡ true → entry c (w.job t) ≡ 1
    entered c t o i y = entry_on c (w.job t) (Scoped c o) (had t y) ((claim.0 t y).kind ∙ ap count_kind i) ∙ self_one c

    pieces : sum_below w.jobs (λ t. one (is_piece b t)) ≡ b.workers
    pieces = pieces_below w.jobs b (pieces_made w b (claim.0))

    least : (f : ℕ → ℕ) → ((t : ℕ) → is_piece b t ≡ true → f t ≡ 1) → b.workers ≤ sum_below w.jobs f
    least f g = let a : sum_below w.jobs (λ t. one (is_piece b t)) ≤ sum_below w.jobs f = sum_most w.jobs (λ t. one (is_piece b t)) f (λ t l. under t (is_piece b t) refl) in omega (arith, a, pieces)
      where
        under : (t : ℕ) (d : Bool) → is_piece b t ≡ d → one d ≤ f t
        under t true e = let a : f t ≡ 1 = g t e in omega (arith, a)
        under t false e = omega arith

    by : (k : Count) → b.count ≡ k → ⊥
    by (OfPool p) i = absurd (
        let n : count_in (place_part w q (LowerForAll b)) b.count ≡ (w.pool p).count = ap (count_in (place_part w q (LowerForAll b))) i ∙ ap (λ r. (w.pool r).count) (all_pool q b ∙ ap (count_pool q) i) in
        let a : b.workers ≤ sum_below w.jobs (λ t. tally p (w.job t)) = least (λ t. tally p (w.job t)) (λ t y. tallied p t i y) in
        let d : sum_below w.jobs (λ t. tally p (w.job t)) + one (w.pool p).counted ≡ (w.pool p).count = (h.shares).sums p in omega (arith, n, a, d, s))
    by (OfScope c o) i = absurd (
        let n : count_in (place_part w q (LowerForAll b)) b.count ≡ (w.call c).count = ap (count_in (place_part w q (LowerForAll b))) i ∙ ap (λ r. (w.call r).count) (all_call q b ∙ ap count_call i) in
        let a : b.workers ≤ sum_below w.jobs (λ t. entry c (w.job t)) = least (λ t. entry c (w.job t)) (λ t y. entered c t o i y) in
        let d : sum_below w.jobs (λ t. entry c (w.job t)) + (one (w.call c).counted + (w.call c).undealt) ≡ (w.call c).count = h.sums c in omega (arith, n, a, d, s))
    by (OfCast c o) i = absurd (subst (λ k. KnownCount w k b.pool) i (claim.1))
not_short w q x fs h z s = absurd s

-- the place sets the latch of this call
abbrev pub sets_now : ℕ → Place → Bool
sets_now c (SetLatch s) = is_of c s.latch
sets_now c (SetLockLatch d t) = c == d
sets_now c x = false

call_now : (c d : ℕ) (o : Party) (t : Then) → d ≡ c → sets_now c (set_call d o t) ≡ true
call_now c d (Worker p i) t e = eq-eqb c d (sym e)
call_now c d (Caller n) t e = eq-eqb c d (sym e)

-- who has seen that a count is 0 comes to set the call's latch
pub led_leads : (g : PoolShape) (q : Party) (x : Place) (e : Seen) (fs : List Place) (c : ℕ) → led x e ≡ Some c → sets_now c ((after_move (next_of g q x e) fs).top) ≡ true
led_leads g q (StoreResult d o v) e fs c y = call_now c d o Resume (number_is d c y)
led_leads g q (LowerCount (OfPool p) s t) Yes fs c y = cc
led_leads g q (LowerCount (OfScope d o) s t) Yes fs c y = call_now c d o t (number_is d c y)
led_leads g q (LowerCount (OfCast d o) s t) Yes fs c y = call_now c d o t (number_is d c y)
led_leads g q (LowerForAll b) Yes fs c y = by b.count refl
  where
    by : (k : Count) → b.count ≡ k → sets_now c (ends_count b.count) ≡ true
    by (OfPool p) i = absurd (let n : None ≡ Some c = ap call_at (sym i) ∙ y in cc)
    by (OfScope d o) i = subst (λ j. sets_now c (ends_count j) ≡ true) (sym i) (call_now c d o Resume (number_is d c (ap call_at (sym i) ∙ y)))
    by (OfCast d o) i = subst (λ j. sets_now c (ends_count j) ≡ true) (sym i) (call_now c d o Resume (number_is d c (ap call_at (sym i) ∙ y)))
led_leads g q x e fs c y = cc

-- a place that sets the terminate latches of this pool one after the other, and has not passed this worker's
abbrev pub Comes : ℕ → ℕ → Place → Type 0
Comes p i y = (walks p y ≡ true) × (unset_from y ≤ i)

settle_comes : (g : PoolShape) (q : Party) (p r i j : ℕ) (t : Then) (fs : List Place) → p ≡ r → j ≤ i → i < g.workers → Comes p i ((after_move (settle g q r j t) fs).top)
settle_comes g q p r i j t fs e l m = by (nat_lt j g.workers) (lt-ltb j g.workers (omega (arith, l, m)))
  where
    by : (b : Bool) → b ≡ true → Comes p i ((after_move (if b then Stay (SetLatch (record { latch = Terminate; pool = r; worker = j; then = t })) else finish q t) fs).top)
    by true z = (eq-eqb p r e, l)
    by false z = cc

-- who has seen that a pool's is 0 comes to set each of its terminate latches
pub ended_comes : (g : PoolShape) (q : Party) (x : Place) (e : Seen) (fs : List Place) (p i : ℕ) → ended x e ≡ Some p → i < g.workers → Comes p i ((after_move (next_of g q x e) fs).top)
ended_comes g q (LowerCount (OfPool r) s t) Yes fs p i y l = settle_comes g q p r i 0 t fs (sym (number_is r p y)) (omega arith) l
ended_comes g q (LowerCount (OfScope d o) s t) Yes fs p i y l = cc
ended_comes g q (LowerCount (OfCast d o) s t) Yes fs p i y l = cc
ended_comes g q (LowerForAll b) Yes fs p i y l = by b.count refl
  where
    by : (k : Count) → b.count ≡ k → Comes p i (ends_count b.count)
    by (OfPool r) j = subst (λ k. Comes p i (ends_count k)) (sym j) (eq-eqb p r (sym (number_is r p (ap pool_at (sym j) ∙ y))), omega arith)
    by _ j = absurd (let n : None ≡ Some p = ap pool_at (sym j) ∙ y in cc)
ended_comes g q x e fs p i y l = cc

-- who walks over them goes on to the next worker's
set_comes : (g : PoolShape) (q : Party) (k : Settling) (l : Latch) (fs : List Place) (p i : ℕ) → (is_end l && (p == k.pool)) ≡ true → k.worker + 1 ≤ i → i < g.workers → Comes p i ((after_move (after_set g q k l) fs).top)
set_comes g q k Terminate fs p i e a l = settle_comes g q p k.pool i (k.worker + 1) k.then fs (eqb-true p k.pool e) a l
set_comes g q k (OfCall c) fs p i e a l = cc

pub walk_comes : (g : PoolShape) (q : Party) (x : Place) (e : Seen) (fs : List Place) (p i : ℕ) → walks p x ≡ true → passed x ≤ i → i < g.workers → Comes p i ((after_move (next_of g q x e) fs).top)
walk_comes g q (SetLatch k) Yes fs p i y a l = (y, a)
walk_comes g q (SetLatch k) e fs p i y a l = set_comes g q k k.latch fs p i y a l
walk_comes g q (LockToSettle k) e fs p i y a l = (y, a)
walk_comes g q (WakeSettled k) e fs p i y a l = (y, a)
walk_comes g q (UnlockSettled k) e fs p i y a l = set_comes g q k k.latch fs p i y a l
walk_comes g q x e fs p i y a l = cc
