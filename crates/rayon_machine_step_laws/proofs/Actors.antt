-- each event moves its own party alone, and a party that yields makes none but the looks and choices of its search
--
-- The first is `leaves`, and `shut` names the acts that are none of who yields. A yield needs no more.
use Rattle.std.proofs.Common.{refl, ◌∙◌, sym, ap, subst}
use Rattle.rayon_machine_sleep_laws.proofs.Words.{ℕ, Bool, true, false, ◌&&◌, ◌==◌, nat_lt, if◌then◌else◌, Option, Some, None, slice_get, ◌≡◌, IfSome, eqb-true, Party, Worker, Caller, Ending, Count, OfPool, OfScope, Place, PickVictim, StealFrom, YieldPop, YieldTakeCast, YieldPick, YieldSteal}
use Rattle.rayon_machine_sleep_laws.proofs.Words.{YieldPopInjected, LocalPop, LocalTakeCast, Run, Seen, Event, Go, From, Refuse, Miss, End, Spawn, Fifo, Install, Join, Yield, YieldLocal, EndPool, Cast, OpenScope, IntoSpawn, IntoFifo, IntoCast, Broadcast, Scope, act_of, own_pool, same_party}
use Rattle.rayon_machine_sleep_laws.proofs.Words.{is_free, is_member, is_refusable, Part, Stack, World, target_pool, target_worker, target_call, put_stack, with_stack, after_move, after_choice, after_miss, after_end, after_spawn, after_feed, after_fifo, after_deal, after_gather, after_send}
use Rattle.rayon_machine_sleep_laws.proofs.Words.{after_join, after_enter, after_enter_fifo, after_enter_cast, after_yield, can_miss, holds, is_pool, step}
use Rattle.rayon_machine_laws.proofs.Frame.{acted_keeps, if_cond, if_some_all, stack_other}
use Rattle.rayon_machine_laws.proofs.Ties.{outcome, result, job_at}
use Rattle.rayon_machine_laws.proofs.Calm.{next_at}
use Rattle.rayon_machine_step_laws.specs.Enabled.{holds_this, is_enabled, is_run, is_worker}
use Rattle.rayon_machine_step_laws.specs.Yields.{is_yielding}
use Rattle.rayon_machine_step_laws.proofs.Steps.{allows_calls, allows_ends, some_if}

-- the party of an event
abbrev pub actor : Event → Party
actor (Go q) = q
actor (From q v) = q
actor (Refuse q) = q
actor (Miss q) = q
actor (End q d) = q
actor (Spawn q p) = q
actor (Fifo q p) = q
actor (Cast q p) = q
actor (Install q p) = q
actor (Join q) = q
actor (OpenScope q p) = q
actor (IntoSpawn q n) = q
actor (IntoFifo q n) = q
actor (IntoCast q n) = q
actor (Broadcast q p) = q
actor (Yield q) = q
actor (YieldLocal q) = q
actor (EndPool q p) = q

-- a step of one party leaves the others where they stand
pub record Leaves (q : Party) (w u : World) : Type 0 where
  pub shape : u.shape ≡ w.shape
  pub others : (r : Party) → same_party r q ≡ false → u.stack r ≡ w.stack r

one_stack : (w u : World) (q : Party) (x : Stack) → u.shape ≡ w.shape → ((r : Party) → u.stack r ≡ put_stack w.stack q x r) → Leaves q w u
one_stack w u q x h f = record { shape = h; others = λ r e. f r ∙ stack_other w.stack q x r e }

with_leaves : (w : World) (q : Party) (x : Stack) → Leaves q w (with_stack w q x)
with_leaves w q x = one_stack w (with_stack w q x) q x refl (λ r. refl)

go_leaves : (w : World) (q : Party) → IfSome (step w (Go q)) (Leaves q w)
go_leaves w q = acted_keeps w q k (target_pool q (act_of q k.top)) (target_worker q (act_of q k.top)) (target_call (act_of q k.top)) (job_at w q (act_of q k.top)) (outcome w q k) (Leaves q w)
    (if_some_all {A = Seen × Part} (λ r. Leaves q w (result w q k r)) (λ r. one_stack w (result w q k r) q (after_move (next_at w q k (r.0)) k.below) refl (λ g. refl)) (outcome w q k))
  where
    k : Stack
    k = w.stack q

from_leaves : (w : World) (q : Party) (s : Stack) (x : Place) (v : ℕ) → IfSome (after_choice w q s x v) (Leaves q w)
from_leaves w q s (PickVictim k) v = if_cond (Leaves q w) (nat_lt v (w.shape.pool (own_pool q)).workers) _ (λ b. with_leaves w q _)
from_leaves w q s YieldPick v = if_cond (Leaves q w) (nat_lt v (w.shape.pool (own_pool q)).workers) _ (λ b. with_leaves w q _)
from_leaves w q s _ v = tt

miss_leaves : (w : World) (q : Party) (s : Stack) (x : Place) → IfSome (after_miss w q s x) (Leaves q w)
miss_leaves w (Worker p i) s (StealFrom k n) = if_cond (Leaves (Worker p i) w) (can_miss w p k.victim) _ (λ b. with_leaves w (Worker p i) _)
miss_leaves w (Worker p i) s (YieldSteal v n) = if_cond (Leaves (Worker p i) w) (can_miss w p v) _ (λ b. with_leaves w (Worker p i) _)
miss_leaves w (Worker p i) s _ = tt
miss_leaves w (Caller c) s x = tt

end_leaves : (w : World) (q : Party) (d : Ending) (s : Stack) (x : Place) → IfSome (after_end w q d s x) (Leaves q w)
end_leaves w q d s (Run t k) = one_stack w _ q _ refl (λ r. refl)
end_leaves w q d s _ = tt

spawn_leaves : (w : World) (q : Party) (p : ℕ) (s : Stack) → IfSome (after_spawn w q p s) (Leaves q w)
spawn_leaves w q p s = if_cond (Leaves q w) (is_free s.top && is_pool w.shape p) _ (λ b. one_stack w _ q _ refl (λ r. refl))

feed_leaves : (w : World) (k : Count) (p i r : ℕ) (s : Stack) → r ≡ p → Leaves (Worker r i) w (after_feed w k p i s)
feed_leaves w k p i r s e = subst (λ z. Leaves (Worker z i) w (after_feed w k p i s)) (sym e) (one_stack w (after_feed w k p i s) (Worker p i) _ refl (λ g. refl))

fifo_leaves : (w : World) (q : Party) (p : ℕ) (s : Stack) → IfSome (after_fifo w q p s) (Leaves q w)
fifo_leaves w (Worker r i) p s = by (r == p) refl
  where
    own : Option World
    own = if is_free s.top && is_pool w.shape p then Some (after_feed w (OfPool p) p i s) else None

    by : (z : Bool) → (r == p) ≡ z → IfSome (if z then own else after_spawn w (Worker r i) p s) (Leaves (Worker r i) w)
    by true e = if_cond (Leaves (Worker r i) w) (is_free s.top && is_pool w.shape p) _ (λ b. feed_leaves w (OfPool p) p i r s (eqb-true r p e))
    by false e = spawn_leaves w (Worker r i) p s
fifo_leaves w (Caller c) p s = spawn_leaves w (Caller c) p s

sent_leaves : (w : World) (q : Party) (p : ℕ) (s : Stack) (b : Bool) → Leaves q w (after_send w q p s b)
sent_leaves w q p s true = one_stack w (after_send w q p s true) q _ refl (λ r. refl)
sent_leaves w q p s false = one_stack w (after_send w q p s false) q _ refl (λ r. refl)

join_leaves : (w : World) (q : Party) (s : Stack) → IfSome (after_join w q s) (Leaves q w)
join_leaves w (Worker p i) s = if_cond (Leaves (Worker p i) w) (is_free s.top) _ (λ b. one_stack w _ (Worker p i) _ refl (λ r. refl))
join_leaves w (Caller c) s = tt

enter_leaves : (w : World) (q : Party) (s : Stack) (z : Option Scope) → IfSome (after_enter w q s z) (Leaves q w)
enter_leaves w q s None = tt
enter_leaves w q s (Some z) = if_cond (Leaves q w) (is_free s.top && holds z.call s) _ (λ b. one_stack w _ q _ refl (λ r. refl))

enter_fifo_leaves : (w : World) (q : Party) (s : Stack) (z : Option Scope) → IfSome (after_enter_fifo w q s z) (Leaves q w)
enter_fifo_leaves w q s None = tt
enter_fifo_leaves w (Worker r i) s (Some z) = by (r == z.pool) refl
  where
    own : Option World
    own = if is_free s.top && holds z.call s then Some (after_feed w (OfScope z.call z.owner) z.pool i s) else None

    by : (b : Bool) → (r == z.pool) ≡ b → IfSome (if b then own else after_enter w (Worker r i) s (Some z)) (Leaves (Worker r i) w)
    by true e = if_cond (Leaves (Worker r i) w) (is_free s.top && holds z.call s) _ (λ b. feed_leaves w (OfScope z.call z.owner) z.pool i r s (eqb-true r z.pool e))
    by false e = enter_leaves w (Worker r i) s (Some z)
enter_fifo_leaves w (Caller c) s (Some z) = enter_leaves w (Caller c) s (Some z)

enter_cast_leaves : (w : World) (q : Party) (s : Stack) (z : Option Scope) → IfSome (after_enter_cast w q s z) (Leaves q w)
enter_cast_leaves w q s None = tt
enter_cast_leaves w q s (Some z) = if_cond (Leaves q w) (is_free s.top && holds z.call s) _ (λ b. one_stack w (after_deal w q (OfScope z.call z.owner) z.pool s) q _ refl (λ r. refl))

yield_leaves : (w : World) (q : Party) (s : Stack) (x : Place) → IfSome (after_yield w q s x) (Leaves q w)
yield_leaves w (Worker p i) s x = if_cond (Leaves (Worker p i) w) (is_free s.top) _ (λ b. with_leaves w (Worker p i) _)
yield_leaves w (Caller c) s x = tt

pub leaves : (w : World) (e : Event) → IfSome (step w e) (Leaves (actor e) w)
leaves w (Go q) = go_leaves w q
leaves w (From q v) = from_leaves w q (w.stack q) (w.stack q).top v
leaves w (Refuse q) = if_cond (Leaves q w) (is_refusable (w.stack q).top) _ (λ b. with_leaves w q _)
leaves w (Miss q) = miss_leaves w q (w.stack q) (w.stack q).top
leaves w (End q d) = end_leaves w q d (w.stack q) (w.stack q).top
leaves w (Spawn q p) = spawn_leaves w q p (w.stack q)
leaves w (Fifo q p) = fifo_leaves w q p (w.stack q)
leaves w (Cast q p) = if_cond (Leaves q w) (is_free (w.stack q).top && is_pool w.shape p) _ (λ b. one_stack w (after_deal w q (OfPool p) p (w.stack q)) q _ refl (λ r. refl))
leaves w (Install q p) = if_cond (Leaves q w) (is_free (w.stack q).top && is_pool w.shape p) _ (λ b. sent_leaves w q p (w.stack q) (is_member q p))
leaves w (Join q) = join_leaves w q (w.stack q)
leaves w (OpenScope q p) = if_cond (Leaves q w) (is_free (w.stack q).top && is_pool w.shape p) _ (λ b. one_stack w _ q _ refl (λ r. refl))
leaves w (IntoSpawn q n) = enter_leaves w q (w.stack q) (slice_get w.scopes n)
leaves w (IntoFifo q n) = enter_fifo_leaves w q (w.stack q) (slice_get w.scopes n)
leaves w (IntoCast q n) = enter_cast_leaves w q (w.stack q) (slice_get w.scopes n)
leaves w (Broadcast q p) = if_cond (Leaves q w) (is_free (w.stack q).top && is_pool w.shape p) _ (λ b. one_stack w (after_gather w q p (w.stack q)) q _ refl (λ r. refl))
leaves w (Yield q) = yield_leaves w q (w.stack q) YieldPop
leaves w (YieldLocal q) = yield_leaves w q (w.stack q) LocalPop
leaves w (EndPool q p) = if_cond (Leaves q w) (is_free (w.stack q).top && (is_pool w.shape p && (w.pool p).held)) _ (λ b. one_stack w _ q _ refl (λ r. refl))

-- the events of a search
abbrev pub is_search : Event → Bool
is_search (Go q) = true
is_search (From q v) = true
is_search (Miss q) = true
is_search e = false

yield_busy : (x : Place) → is_yielding x ≡ true → (is_free x ≡ false) × (is_run x ≡ false) × (is_refusable x ≡ false)
yield_busy YieldPop e = (refl, refl, refl)
yield_busy YieldTakeCast e = (refl, refl, refl)
yield_busy YieldPick e = (refl, refl, refl)
yield_busy (YieldSteal v n) e = (refl, refl, refl)
yield_busy YieldPopInjected e = (refl, refl, refl)
yield_busy LocalPop e = (refl, refl, refl)
yield_busy LocalTakeCast e = (refl, refl, refl)
yield_busy _ e = absurd (cc)

and_false : (b : Bool) → (b && false) ≡ false
and_false true = refl
and_false false = refl

-- no other event of a party is enabled while it yields
pub shut : (w : World) (e : Event) → is_search e ≡ false → is_yielding (w.stack (actor e)).top ≡ true → is_enabled w e ≡ false
shut w (Refuse q) n y = some_if (is_refusable (w.stack q).top) _ ∙ (yield_busy (w.stack q).top y).2
shut w (End q d) n y = allows_ends w q d ∙ (yield_busy (w.stack q).top y).1
shut w (Spawn q p) n y = (allows_calls w).spawn q p ∙ ap (λ b. b && is_pool w.shape p) ((yield_busy (w.stack q).top y).0)
shut w (Fifo q p) n y = (allows_calls w).fifo q p ∙ ap (λ b. b && is_pool w.shape p) ((yield_busy (w.stack q).top y).0)
shut w (Cast q p) n y = (allows_calls w).cast q p ∙ ap (λ b. b && is_pool w.shape p) ((yield_busy (w.stack q).top y).0)
shut w (Install q p) n y = (allows_calls w).install q p ∙ ap (λ b. b && is_pool w.shape p) ((yield_busy (w.stack q).top y).0)
shut w (OpenScope q p) n y = (allows_calls w).open_scope q p ∙ ap (λ b. b && is_pool w.shape p) ((yield_busy (w.stack q).top y).0)
shut w (Broadcast q p) n y = (allows_calls w).broadcast q p ∙ ap (λ b. b && is_pool w.shape p) ((yield_busy (w.stack q).top y).0)
shut w (Join q) n y = (allows_calls w).join q ∙ ap (λ b. is_worker q && b) ((yield_busy (w.stack q).top y).0) ∙ and_false (is_worker q)
shut w (Yield q) n y = (allows_calls w).yield q ∙ ap (λ b. is_worker q && b) ((yield_busy (w.stack q).top y).0) ∙ and_false (is_worker q)
shut w (YieldLocal q) n y = (allows_calls w).yield_local q ∙ ap (λ b. is_worker q && b) ((yield_busy (w.stack q).top y).0) ∙ and_false (is_worker q)
shut w (IntoSpawn q k) n y = (allows_calls w).into_spawn q k ∙ ap (λ b. b && holds_this w q (slice_get w.scopes k)) ((yield_busy (w.stack q).top y).0)
shut w (IntoFifo q k) n y = (allows_calls w).into_fifo q k ∙ ap (λ b. b && holds_this w q (slice_get w.scopes k)) ((yield_busy (w.stack q).top y).0)
shut w (IntoCast q k) n y = (allows_calls w).into_cast q k ∙ ap (λ b. b && holds_this w q (slice_get w.scopes k)) ((yield_busy (w.stack q).top y).0)
shut w (EndPool q p) n y = (allows_calls w).end_pool q p ∙ ap (λ b. b && (is_pool w.shape p && (w.pool p).held)) ((yield_busy (w.stack q).top y).0)
shut w _ n y = cc
