-- the events that are no acts: a party that is about to set a latch stands, and no count comes to be 0
use Rattle.std.proofs.Common.{arith, refl, sym, ◌∙◌, ap, subst}
use Rattle.rayon_machine_sleep_laws.proofs.Words.{ℕ, Bool, true, false, ◌&&◌, ◌+◌, ◌==◌, ◌<◌, nat_lt, if◌then◌else◌, Some, None, List, ◌≡◌, IfSome, ltb-true, Party, Worker, Caller, Ending, Count, OfPool, OfScope, Place, PickVictim, StealFrom, YieldPop, YieldPick, YieldSteal, LocalPop, Run, Free}
use Rattle.rayon_machine_sleep_laws.proofs.Words.{LowerCount, StoreResult, SetLatch, LockToSettle, WakeSettled, UnlockSettled, SetLockLatch, Act, Event, Go, From, Refuse, Miss, End, Spawn, Fifo, Install, Join, Yield, YieldLocal, EndPool, Cast, OpenScope, IntoSpawn, IntoFifo, IntoCast, Broadcast}
use Rattle.rayon_machine_sleep_laws.proofs.Words.{Call, Job, Scope, own_pool, is_free, is_member, is_refusable, same_party, act_of, Stack, World, target_pool, target_worker, target_call, put, put_stack, can_miss, is_pool, holds, new_call, new_gathering, step, after_choice, after_refusal}
use Rattle.rayon_machine_sleep_laws.proofs.Words.{after_miss, after_end, after_spawn, after_feed, after_deal, after_broadcast, after_send, after_install, after_join, after_scope, after_enter, after_yield, after_end_pool}
use Rattle.rayon_machine_laws.proofs.Frame.{and_parts, if_cond, put_same, same_party_true, acted_keeps, fifo_cases, into_cases, into_fifo_cases, into_cast_cases}
use Rattle.rayon_machine_laws.proofs.Ties.{job_at, outcome, result}

-- a party that stands here goes on by its own act alone
abbrev pub goes : Place → Bool
goes (LowerCount k s t) = true
goes (StoreResult c o e) = true
goes (SetLatch s) = true
goes (LockToSettle s) = true
goes (WakeSettled s) = true
goes (UnlockSettled s) = true
goes (SetLockLatch c t) = true
goes _ = false

-- it stands where it stood, and of the counts only those of new calls are others, which are not 0
pub record Rests (w u : World) : Type 0 where
  pub shape : u.shape ≡ w.shape
  pub stands : (r : Party) → goes (w.stack r).top ≡ true → u.stack r ≡ w.stack r
  pub pools : (p : ℕ) → (u.pool p).count ≡ (w.pool p).count
  pub calls : (c : ℕ) → (u.call c).count ≡ 0 → (w.call c).count ≡ 0

-- what holds after each of a party's acts holds after its step, and so of the world that it leads to
pub acted : (w : World) (q : Party) (P : World → Type 0) → IfSome (outcome w q (w.stack q)) (λ r. P (result w q (w.stack q) r)) → IfSome (step w (Go q)) P
acted w q P f =
    let a : Act = act_of q (w.stack q).top in
    acted_keeps w q (w.stack q) (target_pool q a) (target_worker q a) (target_call a) (job_at w q a) (outcome w q (w.stack q)) P f

pub stepped : (w v : World) (e : Event) (P : World → Type 0) → step w e ≡ Some v → IfSome (step w e) P → P v
stepped w v e P z f = (let k : IfSome (Some v) P = subst (λ o. IfSome o P) z f in k)

pub not_both : (b : Bool) → b ≡ true → b ≡ false → ⊥
not_both b t f = let z : true ≡ false = sym t ∙ f in cc

-- who moves does not go
pub stands_on : (w : World) (q : Party) (k : Stack) → goes (w.stack q).top ≡ false → (r : Party) → goes (w.stack r).top ≡ true → put_stack w.stack q k r ≡ w.stack r
stands_on w q k n r g = by (same_party r q) refl
  where
    by : (b : Bool) → same_party r q ≡ b → (if b then k else w.stack r) ≡ w.stack r
    by true e = absurd (not_both (goes (w.stack q).top) (subst (λ s. goes (w.stack s).top ≡ true) (same_party_true r q e) g) n)
    by false e = refl

free_rests : (x : Place) → is_free x ≡ true → goes x ≡ false
free_rests (Run t k) e = refl
free_rests Free e = refl
free_rests _ e = cc

refusable_rests : (x : Place) → is_refusable x ≡ true → goes x ≡ false
refusable_rests (LowerCount k s t) e = cc
refusable_rests (StoreResult c o d) e = cc
refusable_rests (SetLatch s) e = cc
refusable_rests (LockToSettle s) e = cc
refusable_rests (WakeSettled s) e = cc
refusable_rests (UnlockSettled s) e = cc
refusable_rests (SetLockLatch c t) e = cc
refusable_rests _ e = refl

moved_rests : (w : World) (q : Party) (k : Stack) (J : ℕ → Job) → goes (w.stack q).top ≡ false → Rests w (record w { stack = put_stack w.stack q k; job = J })
moved_rests w q k J n = record { shape = refl; stands = stands_on w q k n; pools = λ p. refl; calls = λ c z. z }

-- a call begins
called_rests : (w : World) (q : Party) (k : Stack) (C : ℕ → Call) (J : ℕ → Job) (c j : ℕ) (l : List Scope) → is_free (w.stack q).top ≡ true → ((i : ℕ) → (C i).count ≡ 0 → (w.call i).count ≡ 0) → Rests w (record w { stack = put_stack w.stack q k; call = C; job = J; calls = c; jobs = j; scopes = l })
called_rests w q k C J c j l f e = record { shape = refl; stands = stands_on w q k (free_rests (w.stack q).top f); pools = λ p. refl; calls = e }

-- a new call's count is not 0
new_count : (w : World) (v : Call) → (v.count ≡ 0 → ⊥) → (i : ℕ) → (put w.call w.calls v i).count ≡ 0 → (w.call i).count ≡ 0
new_count w v n i = by (i == w.calls)
  where
    by : (b : Bool) → (if b then v else w.call i).count ≡ 0 → (w.call i).count ≡ 0
    by true z = absurd (n z)
    by false z = z

from_rests : (w : World) (q : Party) (x : Place) (fs : List Place) (v : ℕ) → w.stack q ≡ record { top = x; below = fs } → IfSome (after_choice w q (record { top = x; below = fs }) x v) (Rests w)
from_rests w q (PickVictim k) fs v z = if_cond (Rests w) (nat_lt v (w.shape.pool (own_pool q)).workers) _ (λ b. moved_rests w q _ w.job (ap (λ s. goes (s.top)) z))
from_rests w q YieldPick fs v z = if_cond (Rests w) (nat_lt v (w.shape.pool (own_pool q)).workers) _ (λ b. moved_rests w q _ w.job (ap (λ s. goes (s.top)) z))
from_rests w q _ fs v z = tt

refuse_rests : (w : World) (q : Party) → IfSome (after_refusal w q (w.stack q)) (Rests w)
refuse_rests w q = if_cond (Rests w) (is_refusable (w.stack q).top) _ (λ b. moved_rests w q _ w.job (refusable_rests (w.stack q).top b))

miss_rests : (w : World) (q : Party) (x : Place) (fs : List Place) → w.stack q ≡ record { top = x; below = fs } → IfSome (after_miss w q (record { top = x; below = fs }) x) (Rests w)
miss_rests w (Worker a b) (StealFrom k n) fs z = if_cond (Rests w) (can_miss w a k.victim) _ (λ d. moved_rests w (Worker a b) _ w.job (ap (λ s. goes (s.top)) z))
miss_rests w (Worker a b) (YieldSteal v n) fs z = if_cond (Rests w) (can_miss w a v) _ (λ d. moved_rests w (Worker a b) _ w.job (ap (λ s. goes (s.top)) z))
miss_rests w _ _ fs z = tt

end_rests : (w : World) (q : Party) (d : Ending) (x : Place) (fs : List Place) → w.stack q ≡ record { top = x; below = fs } → IfSome (after_end w q d (record { top = x; below = fs }) x) (Rests w)
end_rests w q d (Run t k) fs z = moved_rests w q _ _ (ap (λ s. goes (s.top)) z)
end_rests w q d _ fs z = tt

spawn_rests : (w : World) (q : Party) (p : ℕ) → IfSome (after_spawn w q p (w.stack q)) (Rests w)
spawn_rests w q p = if_cond (Rests w) (is_free (w.stack q).top && is_pool w.shape p) _ (λ b. called_rests w q _ w.call _ w.calls _ w.scopes ((and_parts (is_free (w.stack q).top) (is_pool w.shape p) b).0) (λ i e. e))

feed_rests : (w : World) (k : Count) (p i : ℕ) → is_free (w.stack (Worker p i)).top ≡ true → Rests w (after_feed w k p i (w.stack (Worker p i)))
feed_rests w k p i f = called_rests w (Worker p i) _ w.call _ w.calls _ w.scopes f (λ i e. e)

deal_rests : (w : World) (q : Party) (k : Count) (p : ℕ) → is_free (w.stack q).top ≡ true → Rests w (after_deal w q k p (w.stack q))
deal_rests w q k p f = called_rests w q _ w.call _ w.calls _ w.scopes f (λ i e. e)

sent_rests : (w : World) (q : Party) (p : ℕ) (b : Bool) → is_free (w.stack q).top ≡ true → Rests w (after_send w q p (w.stack q) b)
sent_rests w q p true f = called_rests w q _ w.call _ w.calls _ w.scopes f (λ i e. e)
sent_rests w q p false f = called_rests w q _ _ _ _ _ w.scopes f (new_count w (new_call None w.jobs) (λ e. absurd (omega (arith, e))))

install_rests : (w : World) (q : Party) (p : ℕ) → IfSome (after_install w q p (w.stack q)) (Rests w)
install_rests w q p = if_cond (Rests w) (is_free (w.stack q).top && is_pool w.shape p) _ (λ b. sent_rests w q p (is_member q p) ((and_parts (is_free (w.stack q).top) (is_pool w.shape p) b).0))

join_rests : (w : World) (q : Party) → IfSome (after_join w q (w.stack q)) (Rests w)
join_rests w (Worker p i) = if_cond (Rests w) (is_free (w.stack (Worker p i)).top) _ (λ f. called_rests w (Worker p i) _ _ _ _ _ w.scopes f (new_count w (new_call (Some w.jobs) (w.jobs + 1)) (λ e. absurd (omega (arith, e)))))
join_rests w (Caller n) = tt

scope_rests : (w : World) (q : Party) (p : ℕ) → IfSome (after_scope w q p (w.stack q)) (Rests w)
scope_rests w q p = if_cond (Rests w) (is_free (w.stack q).top && is_pool w.shape p) _ (λ b. called_rests w q _ _ _ _ _ _ ((and_parts (is_free (w.stack q).top) (is_pool w.shape p) b).0) (new_count w (new_call None w.jobs) (λ e. absurd (omega (arith, e)))))

enter_rests : (w : World) (q : Party) (z : Scope) → IfSome (after_enter w q (w.stack q) (Some z)) (Rests w)
enter_rests w q z = if_cond (Rests w) (is_free (w.stack q).top && holds z.call (w.stack q)) _ (λ b. called_rests w q _ w.call _ w.calls _ w.scopes ((and_parts (is_free (w.stack q).top) (holds z.call (w.stack q)) b).0) (λ i e. e))

-- a broadcast that waits has a piece
gather_rests : (w : World) (q : Party) (p : ℕ) → IfSome (after_broadcast w q p (w.stack q)) (Rests w)
gather_rests w q p = if_cond (Rests w) (is_free (w.stack q).top && is_pool w.shape p) _ (λ b.
    called_rests w q _ _ _ _ _ w.scopes ((and_parts (is_free (w.stack q).top) (is_pool w.shape p) b).0)
    (new_count w (new_gathering (w.shape.pool p).workers (w.jobs + (w.shape.pool p).workers)) (λ e. absurd (let a : 0 < (w.shape.pool p).workers = ltb-true 0 (w.shape.pool p).workers ((and_parts (is_free (w.stack q).top) (is_pool w.shape p) b).1) in omega (arith, a, e)))))

yield_rests : (w : World) (q : Party) (y : Place) → IfSome (after_yield w q (w.stack q) y) (Rests w)
yield_rests w (Worker a b) y = if_cond (Rests w) (is_free (w.stack (Worker a b)).top) _ (λ f. moved_rests w (Worker a b) _ w.job (free_rests (w.stack (Worker a b)).top f))
yield_rests w (Caller c) y = tt

give_rests : (w : World) (q : Party) (p : ℕ) → IfSome (after_end_pool w q p (w.stack q)) (Rests w)
give_rests w q p = if_cond (Rests w) (is_free (w.stack q).top && (is_pool w.shape p && (w.pool p).held)) _ (λ b. record {
  shape = refl;
  stands = stands_on w q _ (free_rests (w.stack q).top ((and_parts (is_free (w.stack q).top) (is_pool w.shape p && (w.pool p).held) b).0));
  pools = λ r. put_same (λ v. v.count) w.pool p (record (w.pool p) { held = false }) r refl;
  calls = λ c z. z;
})

-- an act, and each other event
abbrev pub is_act : Event → Bool
is_act (Go q) = true
is_act _ = false

pub rests : (w : World) (e : Event) → is_act e ≡ false → IfSome (step w e) (Rests w)
rests w (Go q) n = cc
rests w (From q v) n = from_rests w q (w.stack q).top (w.stack q).below v refl
rests w (Refuse q) n = refuse_rests w q
rests w (Miss q) n = miss_rests w q (w.stack q).top (w.stack q).below refl
rests w (End q d) n = end_rests w q d (w.stack q).top (w.stack q).below refl
rests w (Spawn q p) n = spawn_rests w q p
rests w (Fifo q p) n = fifo_cases (Rests w) w q p (spawn_rests w q p) (λ i free. feed_rests w (OfPool p) p i free)
rests w (Cast q p) n = if_cond (Rests w) (is_free (w.stack q).top && is_pool w.shape p) _ (λ b. deal_rests w q (OfPool p) p ((and_parts (is_free (w.stack q).top) (is_pool w.shape p) b).0))
rests w (Install q p) n = install_rests w q p
rests w (Join q) n = join_rests w q
rests w (OpenScope q p) n = scope_rests w q p
rests w (IntoSpawn q i) n = into_cases (Rests w) w q i (λ z e free held. enter_rests w q z)
rests w (IntoFifo q k) n = into_fifo_cases (Rests w) w q k (λ z e free held. enter_rests w q z) (λ z i e free held. feed_rests w (OfScope z.call z.owner) z.pool i free)
rests w (IntoCast q i) n = into_cast_cases (Rests w) w q i (λ z e free held. deal_rests w q (OfScope z.call z.owner) z.pool free)
rests w (Broadcast q p) n = gather_rests w q p
rests w (Yield q) n = yield_rests w q YieldPop
rests w (YieldLocal q) n = yield_rests w q LocalPop
rests w (EndPool q p) n = give_rests w q p
