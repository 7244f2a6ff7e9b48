-- each act keeps what holds of who is to set which latch: it finds the latch unset, and nobody else is to set it
--
-- That Lower found the count above 0, and the run from which the Store follows was running. So before it the call could
-- not be set (`led_by`, `undone_unready`). But who is to set a latch, and a latch that is set, says that it can
-- (`means_ready`; `IsReady` in ClaimPlaces). So nobody else was to set it, and it was not set.
use Rattle.std.proofs.Common.{arith, refl, sym, ◌∙◌, ap, subst, inl, inr}
use Rattle.std.specs.Prelude.{ℕ, Bool, true, false, not, ◌&&◌, ◌||◌, ◌+◌, ◌==◌, ◌≤◌, ◌<◌, nat_lt, if◌then◌else◌, Some, List, ◌≡◌, ◌⊎◌, IfSome, slice_get, ⊤}
use Rattle.std.proofs.lemmas.Bool.{eqb-true, eq-eqb, ltb-true}
use Rattle.rayon_machine_places.specs.declared.place.Party.{Party}
use Rattle.rayon_machine_places.specs.declared.place.Party.TheVariants.{Worker, Caller}
use Rattle.rayon_machine_places.specs.declared.place.Latch.{Latch}
use Rattle.rayon_machine_places.specs.declared.place.Latch.TheVariants.{Terminate, OfCall}
use Rattle.rayon_machine_places.specs.declared.place.Count.{Count}
use Rattle.rayon_machine_places.specs.declared.place.Count.TheVariants.{OfPool, OfScope, OfCast}
use Rattle.rayon_machine_places.specs.declared.place.Share.{Share}
use Rattle.rayon_machine_places.specs.declared.place.Share.TheVariants.{PoolValue, OfJob, Body}
use Rattle.rayon_machine_places.specs.declared.place.Then.{Then}
use Rattle.rayon_machine_places.specs.declared.place.Pieces.{Pieces}
use Rattle.rayon_machine_places.specs.declared.place.Place.{Place}
use Rattle.rayon_machine_places.specs.declared.place.Place.TheVariants.{LowerCount, LowerForAll, StoreResult, SetLatch, LockToSettle, WakeSettled, UnlockSettled, SetLockLatch}
use Rattle.rayon_machine_places.specs.declared.act.Seen.{Seen}
use Rattle.rayon_machine_places.specs.declared.act.Seen.TheVariants.{Yes, No}
use Rattle.rayon_machine_runs.specs.declared.state.Letter.TheVariants.{Set as IsSet}
use Rattle.rayon_machine_runs.specs.declared.state.Scope.{Scope}
use Rattle.rayon_machine_places.specs.Places.{same_party, act_of, next_of}
use Rattle.rayon_machine_runs.specs.World.{Shape, Stack, World, counts_at, Part, effect, count_in, count_call}
use Rattle.rayon_machine_places.specs.Sleepers.{Counts}
use Rattle.rayon_machine_places.specs.Targets.{target_pool, target_worker, target_call, call_of, count_pool}
use Rattle.rayon_machine_runs.specs.Steps.{put, after_move}
use Rattle.rayon_machine_runs.specs.Readers.{is_done}
use Rattle.rayon_machine_laws.specs.Bodies.{body_then}
use Rattle.rayon_machine_laws.specs.Once.{one}
use Rattle.rayon_machine_laws.proofs.Frame.{same_index, same_party_true, same_party_refl, if_some_all, if_some_and, if_some_map, put_same, after_kind}
use Rattle.rayon_machine_laws.proofs.Ties.{AllFrames, job_at, outcome, result}
use Rattle.rayon_machine_laws.proofs.Tops.{Tops, top_after}
use Rattle.rayon_machine_laws.proofs.Claims.{SaysThen, SaysShare, SaysLatch, SaysCast, Says, IsReady, Tied, PartOf, KnownCount, is_body}
use Rattle.rayon_machine_laws.proofs.Later.{Static, act_static}
use Rattle.rayon_machine_laws.proofs.ClaimActs.{Written, act_written, is_call, sets_call, sets_seat}
use Rattle.rayon_machine_laws.proofs.ClaimRuns.{top_says, place_part, world_after}
use Rattle.rayon_machine_laws.proofs.ShareActs.{one_not}
use Rattle.rayon_machine_laws.proofs.ShareSteps.{self_one}
use Rattle.rayon_machine_laws.proofs.Tokens.{sum_below}
use Rattle.rayon_machine_laws.proofs.Bodies.{bodies_in, all_bodies, spent}
use Rattle.rayon_machine_laws.proofs.ScopeCounts.{is_whole, is_closed, entry, le_after}
use Rattle.rayon_machine_laws.proofs.Storing.{number_is}
use Rattle.rayon_machine_laws.proofs.Gathered.{GathersHold, calls_of}
use Rattle.rayon_machine_laws.proofs.Setters.{not_true, is_of, is_end, means, walks, unset_from, passed, is_fit, call_at, pool_at, led, ended, Leading, apart_on, frame_apart, leads_on}

-- who is to set the latch of a call finds it unset and is the only one, and who sets the terminate latches of a pool
-- likewise, of those that are left. Whose body's share a scope's count has, waits for a body; the pool of a scope has a
-- worker
pub record SetsHold (w : World) : Type 0 where
  pub gathers : GathersHold w
  pub bodies : (q : Party) (c : ℕ) → 1 ≤ all_bodies c (w.stack q) → is_body (w.job (w.call c).job).kind ≡ true
  pub fit : (q : Party) → is_fit (w.stack q).top ≡ true
  pub pools : (n : ℕ) (z : Scope) → slice_get w.scopes n ≡ Some z → nat_lt 0 (w.shape.pool z.pool).workers ≡ true
  pub unset : (q : Party) (c : ℕ) → means c (w.stack q).top ≡ true → (w.call c).latch ≡ IsSet → ⊥
  pub one : (q r : Party) (c : ℕ) → means c (w.stack q).top ≡ true → means c (w.stack r).top ≡ true → q ≡ r
  pub ends : (q : Party) (p i : ℕ) → walks p (w.stack q).top ≡ true → unset_from (w.stack q).top ≤ i → (w.seat p i).latch ≡ IsSet → ⊥
  pub walker : (q r : Party) (p : ℕ) → walks p (w.stack q).top ≡ true → walks p (w.stack r).top ≡ true → q ≡ r

-- whoever is to set a latch, it can be set
of_ready : (w : World) (c p : ℕ) (l : Latch) → is_of c l ≡ true → SaysLatch w p l → IsReady w c
of_ready w c p Terminate e s = cc
of_ready w c p (OfCall d) e s = subst (IsReady w) (sym (eqb-true c d e)) (s.1)

pub means_ready : (w : World) (q : Party) (c : ℕ) (x : Place) → means c x ≡ true → Says w q x → IsReady w c
means_ready w q c (StoreResult d o e) z s = subst (IsReady w) (sym (eqb-true c d z)) (inl (s.2, ap is_done (s.1)))
means_ready w q c (SetLatch k) z s = of_ready w c k.pool k.latch z (s.0)
means_ready w q c (SetLockLatch d n) z s = of_ready w c 0 (OfCall d) z (s.0)
means_ready w q c _ z s = cc

end_zero : (w : World) (p r : ℕ) (l : Latch) → (is_end l && (p == r)) ≡ true → SaysLatch w r l → (w.pool p).count ≡ 0
end_zero w p r Terminate e s = subst (λ n. (w.pool n).count ≡ 0) (sym (eqb-true p r e)) s
end_zero w p r (OfCall d) e s = cc

pub walks_zero : (w : World) (q : Party) (p : ℕ) (x : Place) → walks p x ≡ true → Says w q x → (w.pool p).count ≡ 0
walks_zero w q p (SetLatch k) z s = end_zero w p k.pool k.latch z (s.0)
walks_zero w q p (LockToSettle k) z s = end_zero w p k.pool k.latch z (s.0)
walks_zero w q p (WakeSettled k) z s = end_zero w p k.pool k.latch z (s.0)
walks_zero w q p (UnlockSettled k) z s = end_zero w p k.pool k.latch z (s.0)
walks_zero w q p _ z s = cc

-- a call with a body, or a broadcast that waits, whose count is not 0
pub unready : (w : World) (c : ℕ) → is_body (w.job (w.call c).job).kind ≡ true → ((w.call c).count ≡ 0 → ⊥) → IsReady w c → ⊥
unready w c b n (inl s) = absurd (let e : true ≡ false = sym b ∙ (s.0).1 in cc)
unready w c b n (inr z) = n z

-- a call whose job is not over, and that is no broadcast
pub undone_unready : (w : World) (c : ℕ) → SetsHold w → c + 1 ≤ w.calls → is_whole (w.job (w.call c).job).kind ≡ false → is_done (w.job (w.call c).job).at ≡ false → IsReady w c → ⊥
undone_unready w c h m a d (inl s) = not_true (is_done (w.job (w.call c).job).at) d (s.1)
undone_unready w c h m a d (inr n) = not_true (is_closed (w.job (w.call c).job)) (ap (λ b. b || is_done (w.job (w.call c).job).at) a ∙ d) ((((h.gathers).scopes).over c m (one_not ((w.call c).counted) (let a : sum_below w.jobs (λ t. entry c (w.job t)) + (one (w.call c).counted + (w.call c).undealt) ≡ (w.call c).count = ((h.gathers).scopes).sums c in omega (arith, a, n)))).closed)

-- whose count is lowered waits for a body or for pieces
lower_body : (w : World) (q : Party) (k : Count) (a : Share) (n : Then) (fs : List Place) (c : ℕ) → SetsHold w → w.stack q ≡ record { top = LowerCount k a n; below = fs } → call_at k ≡ Some c → is_body (w.job (w.call c).job).kind ≡ true
lower_body w q (OfPool p) a n fs c h z e = cc
lower_body w q (OfScope d o) Body n fs c h z e = subst (λ i. is_body (w.job (w.call i).job).kind ≡ true) (number_is d c e) (h.bodies q d (let a : all_bodies d (w.stack q) ≡ ((one (d == d) + body_then d n) + bodies_in d fs) = ap (all_bodies d) z in let b : one (d == d) ≡ 1 = self_one d in omega (arith, a, b)))
lower_body w q (OfScope d o) (OfJob u) n fs c h z e =
    let y : SaysThen w q n × SaysShare w (OfScope d o) (OfJob u) n = top_says w q (LowerCount (OfScope d o) (OfJob u) n) fs (calls_of w (h.gathers)) z in
    let t : Tied w d o = (calls_of w (h.gathers)).entries u ((y.1).0) d o ((y.1).1) in
    subst (λ i. is_body (w.job (w.call i).job).kind ≡ true) (number_is d c e) (ap is_body (t.kind))
lower_body w q (OfScope d o) PoolValue n fs c h z e = absurd (let y : SaysThen w q n × SaysShare w (OfScope d o) PoolValue n = top_says w q (LowerCount (OfScope d o) PoolValue n) fs (calls_of w (h.gathers)) z in y.1)
lower_body w q (OfCast d o) (OfJob u) n fs c h z e =
    let y : SaysThen w q n × SaysShare w (OfCast d o) (OfJob u) n = top_says w q (LowerCount (OfCast d o) (OfJob u) n) fs (calls_of w (h.gathers)) z in
    let t : PartOf w u d o = (calls_of w (h.gathers)).parts u ((y.1).0) d o ((y.1).1) in
    subst (λ i. is_body (w.job (w.call i).job).kind ≡ true) (number_is d c e) (ap is_body (t.kind))
lower_body w q (OfCast d o) Body n fs c h z e = absurd (let y : SaysThen w q n × SaysShare w (OfCast d o) Body n = top_says w q (LowerCount (OfCast d o) Body n) fs (calls_of w (h.gathers)) z in y.1)
lower_body w q (OfCast d o) PoolValue n fs c h z e = absurd (let y : SaysThen w q n × SaysShare w (OfCast d o) PoolValue n = top_says w q (LowerCount (OfCast d o) PoolValue n) fs (calls_of w (h.gathers)) z in y.1)

lower_all_body : (w : World) (q : Party) (b : Pieces) (fs : List Place) (c : ℕ) (k : Count) → b.count ≡ k → SetsHold w → w.stack q ≡ record { top = LowerForAll b; below = fs } → call_at k ≡ Some c → is_body (w.job (w.call c).job).kind ≡ true
lower_all_body w q b fs c (OfPool p) i h z e = cc
lower_all_body w q b fs c (OfScope d o) i h z e =
    let y : SaysCast w b = top_says w q (LowerForAll b) fs (calls_of w (h.gathers)) z in
    let t : Tied w d o = subst (λ k. KnownCount w k b.pool) i (y.1) in
    subst (λ i. is_body (w.job (w.call i).job).kind ≡ true) (number_is d c e) (ap is_body (t.kind))
lower_all_body w q b fs c (OfCast d o) i h z e = absurd (let y : SaysCast w b = top_says w q (LowerForAll b) fs (calls_of w (h.gathers)) z in subst (λ k. KnownCount w k b.pool) i (y.1))

-- an act that sees that it has lowered a count to 0 found the last shares in it
abbrev LastShare : Part → Place → Seen → Type 0
LastShare m (LowerCount k s t) Yes = count_in m k ≡ 1
LastShare m (LowerForAll b) Yes = count_in m b.count ≡ b.workers
LastShare m x e = ⊤

lower_last : (m : Part) (k : Count) (s : Share) (t : Then) → LastShare m (LowerCount k s t) (if count_in m k == 1 then Yes else No)
lower_last m k s t = by (count_in m k == 1) refl
  where
    by : (z : Bool) → (count_in m k == 1) ≡ z → LastShare m (LowerCount k s t) (if z then Yes else No)
    by true e = eqb-true (count_in m k) 1 e
    by false e = tt

lower_all_last : (m : Part) (b : Pieces) → LastShare m (LowerForAll b) (if count_in m b.count == b.workers then Yes else No)
lower_all_last m b = by (count_in m b.count == b.workers) refl
  where
    by : (z : Bool) → (count_in m b.count == b.workers) ≡ z → LastShare m (LowerForAll b) (if z then Yes else No)
    by true e = eqb-true (count_in m b.count) b.workers e
    by false e = tt

last_share : (h : Shape) (q : Party) (c : Counts) (m : Part) (x : Place) → IfSome (effect (act_of q x) h q c m) (λ r. LastShare m x (r.0))
last_share h (Worker a b) c m (LowerCount k s t) = lower_last m k s t
last_share h (Caller n) c m (LowerCount k s t) = lower_last m k s t
last_share h (Worker a b) c m (LowerForAll d) = lower_all_last m d
last_share h (Caller n) c m (LowerForAll d) = lower_all_last m d
last_share h q c m x = if_some_all {A = Seen × Part} (λ r. LastShare m x (r.0)) (λ r. tt) (effect (act_of q x) h q c m)

-- what a Lower touches
lower_call : (q : Party) (k : Count) (s : Share) (t : Then) → target_call (act_of q (LowerCount k s t)) ≡ count_call k
lower_call (Worker a b) k s t = refl
lower_call (Caller n) k s t = refl

lower_pool : (q : Party) (k : Count) (s : Share) (t : Then) → target_pool q (act_of q (LowerCount k s t)) ≡ count_pool q k
lower_pool (Worker a b) k s t = refl
lower_pool (Caller n) k s t = refl

all_call : (q : Party) (b : Pieces) → target_call (act_of q (LowerForAll b)) ≡ count_call b.count
all_call (Worker i j) b = refl
all_call (Caller n) b = refl

all_pool : (q : Party) (b : Pieces) → target_pool q (act_of q (LowerForAll b)) ≡ count_pool q b.count
all_pool (Worker i j) b = refl
all_pool (Caller n) b = refl

call_number : (w : World) (q : Party) (x : Place) (k : Count) (c : ℕ) → target_call (act_of q x) ≡ count_call k → call_at k ≡ Some c → count_in (place_part w q x) k ≡ (w.call c).count
call_number w q x (OfPool p) c t e = cc
call_number w q x (OfScope d o) c t e = ap (λ n. (w.call n).count) (t ∙ number_is d c e)
call_number w q x (OfCast d o) c t e = ap (λ n. (w.call n).count) (t ∙ number_is d c e)

pool_number : (w : World) (q : Party) (x : Place) (k : Count) (p : ℕ) → target_pool q (act_of q x) ≡ count_pool q k → pool_at k ≡ Some p → count_in (place_part w q x) k ≡ (w.pool p).count
pool_number w q x (OfPool r) p t e = ap (λ n. (w.pool n).count) (t ∙ number_is r p e)
pool_number w q x (OfScope d o) p t e = cc
pool_number w q x (OfCast d o) p t e = cc

-- a broadcast that is about to give back the shares of its pieces has one
some_pieces : (w : World) (q : Party) (b : Pieces) (fs : List Place) → SetsHold w → w.stack q ≡ record { top = LowerForAll b; below = fs } → 1 ≤ b.workers
some_pieces w q b fs h z = let a : 0 < b.workers = ltb-true 0 b.workers (ap (λ k. is_fit (k.top)) (sym z) ∙ h.fit q) in omega (arith, a)

-- who comes to set the latch of a call stood at its store, or nobody could set it before
led_by : (w : World) (q : Party) (x : Place) (fs : List Place) (e : Seen) (c : ℕ) → SetsHold w → w.stack q ≡ record { top = x; below = fs } → LastShare (place_part w q x) x e → led x e ≡ Some c → (means c x ≡ true) ⊎ (IsReady w c → ⊥)
led_by w q (StoreResult d o v) fs e c h z l y = inl (eq-eqb c d (sym (number_is d c y)))
led_by w q (LowerCount k a n) fs Yes c h z l y = inr (unready w c (lower_body w q k a n fs c h z y) (λ i. (let b : count_in (place_part w q (LowerCount k a n)) k ≡ (w.call c).count = call_number w q (LowerCount k a n) k c (lower_call q k a n) y in let d : count_in (place_part w q (LowerCount k a n)) k ≡ 1 = l in absurd (omega (arith, b, d, i)))))
led_by w q (LowerForAll b) fs Yes c h z l y = inr (unready w c (lower_all_body w q b fs c b.count refl h z y) (λ i. (let a : count_in (place_part w q (LowerForAll b)) b.count ≡ (w.call c).count = call_number w q (LowerForAll b) b.count c (all_call q b) y in let d : count_in (place_part w q (LowerForAll b)) b.count ≡ b.workers = l in let e : 1 ≤ b.workers = some_pieces w q b fs h z in absurd (omega (arith, a, d, e, i)))))
led_by w q x fs e c h z l y = cc

-- who comes to set the terminate latches of a pool finds its count above 0
ended_by : (w : World) (q : Party) (x : Place) (fs : List Place) (e : Seen) (p : ℕ) → SetsHold w → w.stack q ≡ record { top = x; below = fs } → LastShare (place_part w q x) x e → ended x e ≡ Some p → (w.pool p).count ≡ 0 → ⊥
ended_by w q (LowerCount k a n) fs Yes p h z l y i = absurd (let b : count_in (place_part w q (LowerCount k a n)) k ≡ (w.pool p).count = pool_number w q (LowerCount k a n) k p (lower_pool q k a n) y in let d : count_in (place_part w q (LowerCount k a n)) k ≡ 1 = l in omega (arith, b, d, i))
ended_by w q (LowerForAll b) fs Yes p h z l y i = absurd (let a : count_in (place_part w q (LowerForAll b)) b.count ≡ (w.pool p).count = pool_number w q (LowerForAll b) b.count p (all_pool q b) y in let d : count_in (place_part w q (LowerForAll b)) b.count ≡ b.workers = l in let e : 1 ≤ b.workers = some_pieces w q b fs h z in omega (arith, a, d, e, i))
ended_by w q x fs e p h z l y i = cc

-- neither comes by an act that sets a latch
led_sets : (x : Place) (e : Seen) (c : ℕ) → led x e ≡ Some c → sets_call x ≡ true → ⊥
led_sets (SetLatch k) e c y l = cc
led_sets (SetLockLatch d n) e c y l = cc
led_sets x e c y l = cc

ended_sets : (x : Place) (e : Seen) (p : ℕ) → ended x e ≡ Some p → sets_seat x ≡ true → ⊥
ended_sets (SetLatch k) e p y l = cc
ended_sets x e p y l = cc

-- whose act sets the latch of a call means that one, and whose act sets a terminate latch walks over that pool's
pub of_self : (l : Latch) → is_call l ≡ true → is_of (call_of l) l ≡ true
of_self Terminate e = cc
of_self (OfCall c) e = eq-eqb c c refl

pub sets_means : (q : Party) (x : Place) → sets_call x ≡ true → means (target_call (act_of q x)) x ≡ true
sets_means (Worker a b) (SetLatch k) e = of_self k.latch e
sets_means (Caller n) (SetLatch k) e = of_self k.latch e
sets_means (Worker a b) (SetLockLatch d t) e = eq-eqb d d refl
sets_means (Caller n) (SetLockLatch d t) e = eq-eqb d d refl
sets_means q _ e = cc

pub is_both : (a b : Bool) → a ≡ true → b ≡ true → (a && b) ≡ true
is_both true true e f = refl
is_both true false e f = cc
is_both false b e f = cc

pub end_of : (l : Latch) → not (is_call l) ≡ true → is_end l ≡ true
end_of Terminate e = refl
end_of (OfCall c) e = cc

sets_walks : (q : Party) (x : Place) → sets_seat x ≡ true → (walks (target_pool q (act_of q x)) x ≡ true) × (passed x ≡ target_worker q (act_of q x) + 1)
sets_walks (Worker a b) (SetLatch k) e = (is_both (is_end k.latch) (k.pool == k.pool) (end_of k.latch e) (eq-eqb k.pool k.pool refl), refl)
sets_walks (Caller n) (SetLatch k) e = (is_both (is_end k.latch) (k.pool == k.pool) (end_of k.latch e) (eq-eqb k.pool k.pool refl), refl)
sets_walks q _ e = cc

from_passed : (x : Place) → unset_from x ≤ passed x
from_passed (SetLatch k) = omega arith
from_passed _ = omega arith

-- the latches that are set now were set before, but for one that the act sets
pub set_before : (w : World) (q : Party) (x : Place) (fs : List Place) (r : Seen × Part) → Written (place_part w q x) x r → (c : ℕ) → ((world_after w q x fs r).call c).latch ≡ IsSet → ((w.call c).latch ≡ IsSet) ⊎ ((c ≡ target_call (act_of q x)) × (sets_call x ≡ true))
set_before w q x fs r wr c = by (c == target_call (act_of q x)) refl
  where
    by : (b : Bool) → (c == target_call (act_of q x)) ≡ b → (if b then r.1.call else w.call c).latch ≡ IsSet → ((w.call c).latch ≡ IsSet) ⊎ ((c ≡ target_call (act_of q x)) × (sets_call x ≡ true))
    by false y a = inl a
    by true y a = elim (wr.call a) [ inl l ↦ inl (subst (λ n. (w.call n).latch ≡ IsSet) (sym (eqb-true c (target_call (act_of q x)) y)) l) | inr l ↦ inr (eqb-true c (target_call (act_of q x)) y, l) ]

pub ended_before : (w : World) (q : Party) (x : Place) (fs : List Place) (r : Seen × Part) → Written (place_part w q x) x r → (p i : ℕ) → ((world_after w q x fs r).seat p i).latch ≡ IsSet → ((w.seat p i).latch ≡ IsSet) ⊎ (((p ≡ target_pool q (act_of q x)) × (i ≡ target_worker q (act_of q x))) × (sets_seat x ≡ true))
ended_before w q x fs r wr p i = by ((p == target_pool q (act_of q x)) && (i == target_worker q (act_of q x))) refl
  where
    by : (b : Bool) → ((p == target_pool q (act_of q x)) && (i == target_worker q (act_of q x))) ≡ b → (if b then r.1.seat else w.seat p i).latch ≡ IsSet → ((w.seat p i).latch ≡ IsSet) ⊎ (((p ≡ target_pool q (act_of q x)) × (i ≡ target_worker q (act_of q x))) × (sets_seat x ≡ true))
    by false y a = inl a
    by true y a =
        let j : (p ≡ target_pool q (act_of q x)) × (i ≡ target_worker q (act_of q x)) = same_index p i (target_pool q (act_of q x)) (target_worker q (act_of q x)) y in
        elim (wr.seat a) [ inl l ↦ inl (ap (λ n. (w.seat n i).latch) (j.0) ∙ ap (λ n. (w.seat (target_pool q (act_of q x)) n).latch) (j.1) ∙ l) | inr l ↦ inr (j, l) ]

-- what is known of an act
record Deed (w : World) (q : Party) (x : Place) (r : Seen × Part) : Type 0 where
  leads : Tops (Leading x (r.0)) (next_of (w.shape.pool (target_pool q (act_of q x))) q x (r.0))
  static : Static (place_part w q x) r
  written : Written (place_part w q x) x r
  last : LastShare (place_part w q x) x (r.0)

act_sets : (w : World) (q : Party) (x : Place) (fs : List Place) (r : Seen × Part) → SetsHold w → w.stack q ≡ record { top = x; below = fs } → Deed w q x r → GathersHold (world_after w q x fs r) → SetsHold (world_after w q x fs r)
act_sets w q x fs r h z d g = record {
  gathers = g;
  bodies = λ s c b. bodies s c (same_party s q) refl b;
  fit = λ s. fit s (same_party s q) refl;
  pools = h.pools;
  unset = λ s c m a. unset s c (same_party s q) refl m (set_before w q x fs r (d.written) c a);
  one = λ s t c m n. alone s t c (same_party s q) (same_party t q) refl refl m n;
  ends = λ s p i m b a. ends s p i (same_party s q) refl m b (ended_before w q x fs r (d.written) p i a);
  walker = λ s t p m n. walker s t p (same_party s q) (same_party t q) refl refl m n;
}
  where
    u : World
    u = world_after w q x fs r

    k : Stack
    k = after_move (next_of (w.shape.pool (target_pool q (act_of q x))) q x (r.0)) fs

    new : Leading x (r.0) (k.top)
    new = top_after (Leading x (r.0)) (next_of (w.shape.pool (target_pool q (act_of q x))) q x (r.0)) fs (d.leads) (λ f y. apart_on (led x (r.0)) (ended x (r.0)) (λ p. walks p x) (passed x) (is_fit x) f (frame_apart f y)) (subst (λ s. AllFrames (s.below)) z ((h.gathers).frames q))

    kind_same : (c : ℕ) → (u.job (u.call c).job).kind ≡ (w.job (w.call c).job).kind
    kind_same c = ap (λ t. (u.job t).kind) (put_same (λ a. a.job) w.call (target_call (act_of q x)) (r.1.call) c ((d.static).target)) ∙ after_kind q (next_of (w.shape.pool (target_pool q (act_of q x))) q x (r.0)) (put w.job (job_at w q (act_of q x)) (r.1.job)) ((w.call c).job) ∙ put_same (λ j. j.kind) w.job (job_at w q (act_of q x)) (r.1.job) ((w.call c).job) ((d.static).kind)

    bodies : (s : Party) (c : ℕ) (b : Bool) → same_party s q ≡ b → 1 ≤ all_bodies c (if b then k else w.stack s) → is_body (u.job (u.call c).job).kind ≡ true
    bodies s c false y m = ap is_body (kind_same c) ∙ h.bodies s c m
    bodies s c true y m = ap is_body (kind_same c) ∙ h.bodies q c (let a : all_bodies c k + spent c x ≤ all_bodies c (w.stack q) = le_after w q x fs (w.shape.pool (target_pool q (act_of q x))) (r.0) c z in omega (arith, a, m))

    fit : (s : Party) (b : Bool) → same_party s q ≡ b → is_fit ((if b then k else w.stack s).top) ≡ true
    fit s true y = new.2 (ap (λ i. is_fit (i.top)) (sym z) ∙ h.fit q)
    fit s false y = h.fit s

    -- the party that moves is this one
    other : (s : Party) → same_party s q ≡ false → s ≡ q → ⊥
    other s y i = absurd (let a : same_party s q ≡ true = ap (λ v. same_party v q) i ∙ same_party_refl q in let n : true ≡ false = sym a ∙ y in cc)

    not_both : (t : Party) (c : ℕ) → same_party t q ≡ false → means c (w.stack t).top ≡ true → led x (r.0) ≡ Some c → ⊥
    not_both t c v n l = elim (led_by w q x fs (r.0) c h z (d.last) l) [
      | inl a ↦ other t v (h.one t q c n (ap (λ i. means c (i.top)) z ∙ a))
      | inr a ↦ a (means_ready w t c ((w.stack t).top) n (((calls_of w (h.gathers)).says t).top))
    ]

    unset : (s : Party) (c : ℕ) (b : Bool) → same_party s q ≡ b → means c ((if b then k else w.stack s).top) ≡ true → ((w.call c).latch ≡ IsSet) ⊎ ((c ≡ target_call (act_of q x)) × (sets_call x ≡ true)) → ⊥
    unset s c false y m (inl a) = h.unset s c m a
    unset s c false y m (inr a) = other s y (h.one s q c m (ap (λ v. means c (v.top)) z ∙ subst (λ n. means n x ≡ true) (sym (a.0)) (sets_means q x (a.1))))
    unset s c true y m (inl a) = elim (led_by w q x fs (r.0) c h z (d.last) (new.0 c m)) [ inl l ↦ h.unset q c (ap (λ v. means c (v.top)) z ∙ l) a | inr l ↦ l (((calls_of w (h.gathers)).latches c a).1) ]
    unset s c true y m (inr a) = led_sets x (r.0) c (new.0 c m) (a.1)

    alone : (s t : Party) (c : ℕ) (b e : Bool) → same_party s q ≡ b → same_party t q ≡ e → means c ((if b then k else w.stack s).top) ≡ true → means c ((if e then k else w.stack t).top) ≡ true → s ≡ t
    alone s t c true true y v m n = same_party_true s q y ∙ sym (same_party_true t q v)
    alone s t c false false y v m n = h.one s t c m n
    alone s t c true false y v m n = absurd (not_both t c v n (new.0 c m))
    alone s t c false true y v m n = absurd (not_both s c y m (new.0 c n))

    not_walk : (t : Party) (p : ℕ) → same_party t q ≡ false → walks p (w.stack t).top ≡ true → walks p (k.top) ≡ true → ⊥
    not_walk t p v n m = elim (new.1 p m) [
      | inl a ↦ other t v (h.walker t q p n (ap (λ i. walks p (i.top)) z ∙ a.0))
      | inr a ↦ ended_by w q x fs (r.0) p h z (d.last) a (walks_zero w t p ((w.stack t).top) n (((calls_of w (h.gathers)).says t).top))
    ]

    ends : (s : Party) (p i : ℕ) (b : Bool) → same_party s q ≡ b → walks p ((if b then k else w.stack s).top) ≡ true → unset_from ((if b then k else w.stack s).top) ≤ i → ((w.seat p i).latch ≡ IsSet) ⊎ (((p ≡ target_pool q (act_of q x)) × (i ≡ target_worker q (act_of q x))) × (sets_seat x ≡ true)) → ⊥
    ends s p i false y m l (inl a) = h.ends s p i m l a
    ends s p i false y m l (inr a) = other s y (h.walker s q p m (ap (λ v. walks p (v.top)) z ∙ subst (λ n. walks n x ≡ true) (sym ((a.0).0)) ((sets_walks q x (a.1)).0)))
    ends s p i true y m l (inl a) = elim (new.1 p m) [
      | inl v ↦ h.ends q p i (ap (λ n. walks p (n.top)) z ∙ v.0) (let b : unset_from ((w.stack q).top) ≡ unset_from x = ap (λ n. unset_from (n.top)) z in let e : unset_from x ≤ passed x = from_passed x in let f : passed x ≤ unset_from (k.top) = v.1 in omega (arith, b, e, f, l)) a
      | inr v ↦ ended_by w q x fs (r.0) p h z (d.last) v ((calls_of w (h.gathers)).ends p i a)
    ]
    ends s p i true y m l (inr a) = elim (new.1 p m) [
      | inl v ↦ absurd (let b : passed x ≡ target_worker q (act_of q x) + 1 = (sets_walks q x (a.1)).1 in let e : i ≡ target_worker q (act_of q x) = (a.0).1 in let f : passed x ≤ unset_from (k.top) = v.1 in omega (arith, b, e, f, l))
      | inr v ↦ ended_sets x (r.0) p v (a.1)
    ]

    walker : (s t : Party) (p : ℕ) (b e : Bool) → same_party s q ≡ b → same_party t q ≡ e → walks p ((if b then k else w.stack s).top) ≡ true → walks p ((if e then k else w.stack t).top) ≡ true → s ≡ t
    walker s t p true true y v m n = same_party_true s q y ∙ sym (same_party_true t q v)
    walker s t p false false y v m n = h.walker s t p m n
    walker s t p true false y v m n = absurd (not_walk t p v n m)
    walker s t p false true y v m n = absurd (not_walk s p y m n)

pub go_sets : (w : World) (q : Party) → SetsHold w → IfSome (outcome w q (w.stack q)) (λ r. GathersHold (result w q (w.stack q) r) → SetsHold (result w q (w.stack q) r))
go_sets w q h =
    let k = w.stack q in let x = k.top in let o = outcome w q k in let m = place_part w q x in let c = counts_at w (target_pool q (act_of q x)) in
    if_some_map (λ r. (Tops (Leading x (r.0)) (next_of (w.shape.pool (target_pool q (act_of q x))) q x (r.0)) × Static m r) × (Written m x r × LastShare m x (r.0))) (λ r. GathersHold (result w q k r) → SetsHold (result w q k r))
    (λ r f g. act_sets w q x (k.below) r h refl (record { leads = (f.0).0; static = (f.0).1; written = (f.1).0; last = (f.1).1 }) g) o
    (if_some_and (λ r. Tops (Leading x (r.0)) (next_of (w.shape.pool (target_pool q (act_of q x))) q x (r.0)) × Static m r) (λ r. Written m x r × LastShare m x (r.0)) o
    (if_some_and (λ r. Tops (Leading x (r.0)) (next_of (w.shape.pool (target_pool q (act_of q x))) q x (r.0))) (Static m) o (leads_on w.shape (w.shape.pool (target_pool q (act_of q x))) q c m x) (act_static w.shape q c m x))
    (if_some_and (Written m x) (λ r. LastShare m x (r.0)) o (act_written w.shape q c m x) (last_share w.shape q c m x)))
