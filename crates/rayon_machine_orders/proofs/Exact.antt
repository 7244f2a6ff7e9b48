-- each step leaves the share of a scope's body with a keeper, and no share that waits for pieces that are dealt; so
-- each share of each count is kept once
--
-- With `Tokens` this gives `KeptOnce` (`kept_once`). What is over was running (`end_exact`; `act_end` in FaultPlaces).
use Rattle.std.proofs.Common.{arith, refl, sym, ◌∙◌, ap, subst, inl, inr}
use Rattle.rayon_machine_orders.proofs.Words.{ℕ, zero, suc, Bool, true, false, ◌&&◌, ◌||◌, ◌+◌, ◌-◌, ◌==◌, ◌≤◌, ◌<◌, nat_lt, if◌then◌else◌, Some, None, List, [], ◌∷◌, ◌++◌, ◌≡◌, ◌⊎◌, IfSome, eqb-true, ltb-true, ltb-false, eq-eqb, ltb, Party, Worker, Caller, Ending, JobKind, Detached, Stored}
use Rattle.rayon_machine_orders.proofs.Words.{Direct, TokenOf, Scoped, BodyOf, PieceOf, WholeOf, Plan, Detach, Here, Send, Fork, Feed, Open, Enter, Gather, Count, OfPool, OfScope, OfCast, PoolValue, Resume, Pieces, Place, PickVictim, StealFrom, YieldPop, YieldPick, YieldSteal, LocalPop, Run}
use Rattle.rayon_machine_orders.proofs.Words.{RaiseCount, LowerCount, RaiseForAll, Seen, Refused, Start, Event, Go, From, Refuse, Miss, End, Spawn, Fifo, Install, Join, Yield, YieldLocal, EndPool, Cast, OpenScope, IntoSpawn, IntoFifo, IntoCast, Broadcast, Whereabouts, Running, Over, PoolShape}
use Rattle.rayon_machine_orders.proofs.Words.{Job, Call, Scope, own_pool, same_party, is_member, act_of, next_of, is_free, is_refusable, count_kind, count_book, Shape, Stack, World, count_below, target_pool, target_worker, target_call, at_job, put, put_stack, put_pieces, new_piece, is_piece}
use Rattle.rayon_machine_orders.proofs.Words.{after_move, after_choice, after_refusal, can_miss, after_miss, after_close, after_end, after_call, is_pool, new_job, new_call, new_whole, new_gathering, after_spawn, after_fifo, after_cast, after_send, after_install, after_join, after_scope}
use Rattle.rayon_machine_orders.proofs.Words.{after_into, holds, after_enter, after_yield, after_end_pool, after_feed, after_deal, after_broadcast, after_into_fifo, after_into_cast, step, start, IsRun, one, keeps_own, has_share, all_values, KeptOnce, IsCounted, shares, body, bodies_in}
use Rattle.rayon_machine_orders.proofs.Words.{all_bodies, runs_in, worked}
use Rattle.rayon_machine_places.specs.declared.act.Seen.TheVariants.{Missing}
use Rattle.rayon_machine_laws.proofs.Frame.{either, same_party_true, if_some_and, if_some_map, if_cond, acted_keeps, put_same, put_new, put_old, piece_old, piece_out, piece_in, fifo_cases, into_cases, into_fifo_cases, into_cast_cases}
use Rattle.rayon_machine_laws.proofs.Ties.{job_at, outcome}
use Rattle.rayon_machine_laws.proofs.Events.{run_keeps}
use Rattle.rayon_machine_laws.proofs.Located.{loc_at, is_loc, where_is, at_work, Work}
use Rattle.rayon_machine_laws.proofs.PlacedEvents.{Advance}
use Rattle.rayon_machine_laws.proofs.PlacedRuns.{step_advance}
use Rattle.rayon_machine_laws.proofs.ClaimRuns.{CallsHold, world_after, unqueued}
use Rattle.rayon_machine_laws.proofs.ClaimEvents.{ended_world}
use Rattle.rayon_machine_laws.proofs.ClaimMakes.{calling, below_new}
use Rattle.rayon_machine_laws.proofs.Tokens.{Tokens, sum_below}
use Rattle.rayon_machine_laws.proofs.ShareActs.{tally, one_is, one_not}
use Rattle.rayon_machine_laws.proofs.ShareSteps.{stack_after, self_one}
use Rattle.rayon_machine_laws.proofs.Bodies.{body_move, spent}
use Rattle.rayon_machine_laws.proofs.Scoping.{ScopesHold, step_scopes, first_scopes}
use Rattle.rayon_machine_orders.proofs.Keepers.{HasKeeper, KeepersHold}
use Rattle.rayon_machine_orders.proofs.Keeping.{step_keepers, first_keepers}
use Rattle.rayon_machine_orders.proofs.ExactMoves.{dropped, queues_body, more_bodies, land_more, closed_more, none_dropped}
use Rattle.rayon_machine_orders.proofs.ExactActs.{is_dealt_out, ExactHold, Passes, exact_keep, go_by, unopened}

-- what a step leaves
abbrev Then_exact : World → World → Type 0
Then_exact w u = ScopesHold u → Advance w u → ExactHold u

-- no act, and no call begins: the jobs and the calls are as they were
still_exact : (w u : World) (q : Party) (k : Stack) → ((r : Party) → u.stack r ≡ put_stack w.stack q k r) → u.call ≡ w.call → u.job ≡ w.job → u.calls ≡ w.calls → u.jobs ≡ w.jobs → ((c : ℕ) → all_bodies c (w.stack q) ≤ all_bodies c k) → ExactHold w → Then_exact w u
still_exact w u q k st ca jo cs js le h s a = exact_keep w u q k (record {
  stacks = st;
  calls = omega (arith, cs);
  jobs = omega (arith, js);
  kinds = λ t b. ap (λ f. (f t).kind) jo;
  targets = λ c b. ap (λ f. (f c).job) ca;
  counted = λ c b. (let e : one (u.call c).counted ≡ one (w.call c).counted = ap (λ f. one (f c).counted) ca in omega (arith, e));
  undealt = λ c b. (let e : (u.call c).undealt ≡ (w.call c).undealt = ap (λ f. (f c).undealt) ca in omega (arith, e));
  kept = λ t c o b e n z. le c;
  new = λ t c o b l e. absurd (omega (arith, b, l, js));
  live = λ t c o b e l. inl (ap (λ f. is_dealt_out (f t).at) (sym jo) ∙ l);
  made = λ t b l. absurd (omega (arith, b, l, js));
}) h s a

-- a party goes on as if its act had seen this
seen_exact : (w : World) (q : Party) (g : PoolShape) (x : Place) (fs : List Place) (e : Seen) → w.stack q ≡ record { top = x; below = fs } → queues_body x ≡ false → ((c : ℕ) → spent c x ≡ 0) → ((c : ℕ) → dropped c (next_of g q x e) ≤ 0) → ExactHold w
    → Then_exact w (record w { stack = put_stack w.stack q (after_move (next_of g q x e) fs) })
seen_exact w q g x fs e z qb sp dr h = still_exact w (record w { stack = put_stack w.stack q (after_move (next_of g q x e) fs) }) q (after_move (next_of g q x e) fs) (λ r. refl) refl refl refl refl
    (λ c. (let i : body c x ≤ (body_move c (next_of g q x e) + dropped c (next_of g q x e)) + spent c x = more_bodies g q c x e qb in
    let j : body_move c (next_of g q x e) + bodies_in c fs ≤ all_bodies c (after_move (next_of g q x e) fs) = land_more c (next_of g q x e) fs in
    let m : all_bodies c (w.stack q) ≡ (body c x + bodies_in c fs) = ap (all_bodies c) z in
    let y : spent c x ≡ 0 = sp c in let v : dropped c (next_of g q x e) ≤ 0 = dr c in omega (arith, i, j, m, y, v))) h

from_exact : (w : World) (q : Party) (x : Place) (fs : List Place) (v : ℕ) → w.stack q ≡ record { top = x; below = fs } → ExactHold w → IfSome (after_choice w q (record { top = x; below = fs }) x v) (Then_exact w)
from_exact w q (PickVictim k) fs v z h = if_cond (Then_exact w) (nat_lt v (w.shape.pool (own_pool q)).workers) _ (λ y. seen_exact w q (w.shape.pool (own_pool q)) (PickVictim k) fs (Start v) z refl (λ c. refl) (λ c. omega arith) h)
from_exact w q YieldPick fs v z h = if_cond (Then_exact w) (nat_lt v (w.shape.pool (own_pool q)).workers) _ (λ y. seen_exact w q (w.shape.pool (own_pool q)) YieldPick fs (Start v) z refl (λ c. refl) (λ c. omega arith) h)
from_exact w q _ fs v z h = tt

-- what can be refused gives no share of a body back
refused_unspent : (x : Place) (c : ℕ) → is_refusable x ≡ true → spent c x ≡ 0
refused_unspent (LowerCount k s n) c y = cc
refused_unspent _ c y = refl

refuse_exact : (w : World) (q : Party) (x : Place) (fs : List Place) → w.stack q ≡ record { top = x; below = fs } → queues_body x ≡ false → ExactHold w → IfSome (after_refusal w q (record { top = x; below = fs })) (Then_exact w)
refuse_exact w q x fs z qb h = if_cond (Then_exact w) (is_refusable x) _ (λ y. seen_exact w q (w.shape.pool (own_pool q)) x fs Refused z qb (λ c. refused_unspent x c y) (λ c. none_dropped (w.shape.pool (own_pool q)) q c x Refused y) h)

miss_exact : (w : World) (q : Party) (x : Place) (fs : List Place) → w.stack q ≡ record { top = x; below = fs } → ExactHold w → IfSome (after_miss w q (record { top = x; below = fs }) x) (Then_exact w)
miss_exact w (Worker a b) (StealFrom k n) fs z h = if_cond (Then_exact w) (can_miss w a k.victim) _ (λ y. seen_exact w (Worker a b) (w.shape.pool a) (StealFrom k n) fs Missing z refl (λ c. refl) (λ c. omega arith) h)
miss_exact w (Worker a b) (YieldSteal v n) fs z h = if_cond (Then_exact w) (can_miss w a v) _ (λ y. seen_exact w (Worker a b) (w.shape.pool a) (YieldSteal v n) fs Missing z refl (λ c. refl) (λ c. omega arith) h)
miss_exact w _ _ fs z h = tt

-- the end of a run: what is over was running
end_exact : (w : World) (q : Party) (d : Ending) (x : Place) (fs : List Place) → w.stack q ≡ record { top = x; below = fs } → ExactHold w → IfSome (after_end w q d (record { top = x; below = fs }) x) (Then_exact w)
end_exact w q d (Run t k) fs z h = exact_keep w (ended_world w q d t k fs) q (after_close t k d fs) (record {
  stacks = λ r. refl;
  calls = omega arith;
  jobs = omega arith;
  kinds = λ i b. put_same (λ j. j.kind) w.job t (at_job (w.job t) (Over d)) i refl;
  targets = λ c b. refl;
  counted = λ c b. omega arith;
  undealt = λ c b. omega arith;
  kept = λ i c o b e n y. (let m : bodies_in c fs ≤ all_bodies c (after_close t k d fs) = closed_more c t k d fs in let v : all_bodies c (w.stack q) ≡ (0 + bodies_in c fs) = ap (all_bodies c) z in omega (arith, m, v));
  new = λ i c o b l e. absurd (omega (arith, b, l));
  live = λ i c o b e l. inl (live i (i == t) refl l);
  made = λ i b l. absurd (omega (arith, b, l));
}) h
  where
    running : (w.job t).at ≡ Running q
    running = (at_work ((w.job t).at) ((w.job t).runs) q
        (where_is (Work q) (loc_at (w.job t)) (let a : worked t (w.stack q) ≡ is_loc (Work q) (loc_at (w.job t)) = (((((h.scopes).shares).calls).jobs).ok).placed (Work q) t in let b : worked t (w.stack q) ≡ (one (t == t) + runs_in t fs) = ap (worked t) z in
        let c : one (t == t) ≡ 1 = self_one t in omega (arith, a, b, c)))).1

    live : (i : ℕ) (b : Bool) → (i == t) ≡ b → is_dealt_out (if b then at_job (w.job t) (Over d) else w.job i).at ≡ true → is_dealt_out (w.job i).at ≡ true
    live i true e l = ap (λ n. is_dealt_out (w.job n).at) (eqb-true i t e) ∙ ap is_dealt_out running
    live i false e l = l
end_exact w q d _ fs z h = tt

-- a call begins: what was is as it was, and of what is new no piece is dealt
begin_exact : (w u : World) (q : Party) (k : Stack) → ((r : Party) → u.stack r ≡ put_stack w.stack q k r) → w.calls ≤ u.calls → w.jobs ≤ u.jobs → ((t : ℕ) → t + 1 ≤ w.jobs → u.job t ≡ w.job t) → ((c : ℕ) → c + 1 ≤ w.calls → u.call c ≡ w.call c)
    → ((c : ℕ) → all_bodies c (w.stack q) ≤ all_bodies c k) → ((t : ℕ) → w.jobs ≤ t → t + 1 ≤ u.jobs → is_dealt_out (u.job t).at ≡ false) → ((t c : ℕ) (o : Party) → w.jobs ≤ t → t + 1 ≤ u.jobs → (u.job t).kind ≡ BodyOf c o → (c + 1 ≤ u.calls) × ((u.call c).job ≡ t) × (1 ≤ all_bodies c k))
    → ExactHold w → Then_exact w u
begin_exact w u q k st cs js jo ca le ma ne h s a = exact_keep w u q k (record {
  stacks = st;
  calls = cs;
  jobs = js;
  kinds = λ t b. ap (λ j. j.kind) (jo t b);
  targets = λ c b. ap (λ j. j.job) (ca c b);
  counted = λ c b. (let e : one (u.call c).counted ≡ one (w.call c).counted = ap (λ j. one j.counted) (ca c b) in omega (arith, e));
  undealt = λ c b. (let e : (u.call c).undealt ≡ (w.call c).undealt = ap (λ j. j.undealt) (ca c b) in omega (arith, e));
  kept = λ t c o b e n z. le c;
  new = ne;
  live = λ t c o b e l. inl (ap (λ j. is_dealt_out (j.at)) (sym (jo t b)) ∙ l);
  made = ma;
}) h s a

-- the body of a scope
abbrev is_scope_body : JobKind → Bool
is_scope_body (BodyOf c o) = true
is_scope_body _ = false

-- a new job is in no list and under no run, and no scope's body
record IsNew (j : Job) : Type 0 where
  at : is_dealt_out j.at ≡ false
  kind : is_scope_body j.kind ≡ false

-- numbers given out one after the other
put_next : (f : ℕ → Job) (a n : ℕ) (j : Job) → IsNew j → ((t : ℕ) → n ≤ t → t + 1 ≤ a → IsNew (f t)) → (t : ℕ) → n ≤ t → t + 1 ≤ a + 1 → IsNew (put f a j t)
put_next f a n j p e t l m = by (t == a) refl
  where
    by : (b : Bool) → (t == a) ≡ b → IsNew (if b then j else f t)
    by true y = p
    by false y = e t l (elim (either (ltb t a)) [
      | inl x ↦ (let b : t < a = ltb-true t a x in omega (arith, b))
      | inr x ↦ absurd (let b : a ≤ t = ltb-false t a x in let i : t ≡ a = omega (arith, b, m) in let c : (t == a) ≡ true = eq-eqb t a i in cc)
    ])

nothing_new : (w : World) (f : ℕ → Job) (t : ℕ) → w.jobs ≤ t → t + 1 ≤ w.jobs → IsNew (f t)
nothing_new w f t l m = absurd (omega (arith, l, m))

one_new : (w : World) (j : Job) → IsNew j → (t : ℕ) → w.jobs ≤ t → t + 1 ≤ w.jobs + 1 → IsNew (put w.job w.jobs j t)
one_new w j p = put_next w.job w.jobs w.jobs j p (nothing_new w w.job)

two_new : (w : World) (i j : Job) → IsNew i → IsNew j → (t : ℕ) → w.jobs ≤ t → t + 1 ≤ w.jobs + 2 → IsNew (put (put w.job w.jobs i) (w.jobs + 1) j t)
two_new w i j p r t l m = put_next (put w.job w.jobs i) (w.jobs + 1) w.jobs j r (one_new w i p) t l (omega (arith, m))

one_old : (w : World) (j : Job) (t : ℕ) → t + 1 ≤ w.jobs → put w.job w.jobs j t ≡ w.job t
one_old w j t b = put_old w.job w.jobs j t (below_new t w.jobs b)

two_old : (w : World) (i j : Job) (t : ℕ) → t + 1 ≤ w.jobs → put (put w.job w.jobs i) (w.jobs + 1) j t ≡ w.job t
two_old w i j t b = put_old (put w.job w.jobs i) (w.jobs + 1) j t (below_new t (w.jobs + 1) (omega (arith, b))) ∙ one_old w i t b

call_old : (w : World) (x : Call) (c : ℕ) → c + 1 ≤ w.calls → put w.call w.calls x c ≡ w.call c
call_old w x c b = put_old w.call w.calls x c (below_new c w.calls b)

no_body : (w u : World) (k : Stack) → ((t : ℕ) → w.jobs ≤ t → t + 1 ≤ u.jobs → IsNew (u.job t)) → (t c : ℕ) (o : Party) → w.jobs ≤ t → t + 1 ≤ u.jobs → (u.job t).kind ≡ BodyOf c o → (c + 1 ≤ u.calls) × ((u.call c).job ≡ t) × (1 ≤ all_bodies c k)
no_body w u k p t c o l m e = absurd (let a : is_scope_body (u.job t).kind ≡ false = (p t l m).kind in let b : is_scope_body (u.job t).kind ≡ true = ap is_scope_body e in let z : true ≡ false = sym b ∙ a in cc)

-- one that opens no scope
made_exact : (w : World) (q : Party) (n : Plan) (C : ℕ → Call) (J : ℕ → Job) (c j : ℕ) → w.calls ≤ c → w.jobs ≤ j → ((t : ℕ) → t + 1 ≤ w.jobs → J t ≡ w.job t) → ((i : ℕ) → i + 1 ≤ w.calls → C i ≡ w.call i) → ((t : ℕ) → w.jobs ≤ t → t + 1 ≤ j → IsNew (J t)) → ExactHold w
    → Then_exact w (calling w q n C J c j)
made_exact w q n C J c j cs js jo ca p h = begin_exact w (calling w q n C J c j) q (after_call (w.stack q) (RaiseCount n)) (λ r. refl) cs js jo ca (λ i. omega arith) (λ t l m. (p t l m).at) (no_body w (calling w q n C J c j) (after_call (w.stack q) (RaiseCount n)) p) h

spawn_exact : (w : World) (q : Party) (p : ℕ) → ExactHold w → IfSome (after_spawn w q p (w.stack q)) (Then_exact w)
spawn_exact w q p h = if_cond (Then_exact w) (is_free ((w.stack q).top) && is_pool w.shape p) _
    (λ f. made_exact w q (Detach p w.jobs) w.call (put w.job w.jobs (new_job q p (Detached p))) w.calls (w.jobs + 1) (omega arith) (omega arith) (one_old w (new_job q p (Detached p))) (λ i b. refl) (one_new w (new_job q p (Detached p)) (record { at = refl; kind = refl })) h)

sent_exact : (w : World) (q : Party) (p : ℕ) (b : Bool) → ExactHold w → Then_exact w (after_send w q p (w.stack q) b)
sent_exact w q p true h = made_exact w q (Here p w.jobs) w.call (put w.job w.jobs (new_job q p Direct)) w.calls (w.jobs + 1) (omega arith) (omega arith) (one_old w (new_job q p Direct)) (λ i b. refl) (one_new w (new_job q p Direct) (record { at = refl; kind = refl })) h
sent_exact w q p false h = made_exact w q (Send (record { number = w.calls; pool = p; job = w.jobs })) (put w.call w.calls (new_call None w.jobs)) (put w.job w.jobs (new_job q p (Stored w.calls q))) (w.calls + 1) (w.jobs + 1) (omega arith) (omega arith)
    (one_old w (new_job q p (Stored w.calls q))) (call_old w (new_call None w.jobs)) (one_new w (new_job q p (Stored w.calls q)) (record { at = refl; kind = refl })) h

install_exact : (w : World) (q : Party) (p : ℕ) → ExactHold w → IfSome (after_install w q p (w.stack q)) (Then_exact w)
install_exact w q p h = if_cond (Then_exact w) (is_free ((w.stack q).top) && is_pool w.shape p) _ (λ f. sent_exact w q p (is_member q p) h)

join_exact : (w : World) (q : Party) → ExactHold w → IfSome (after_join w q (w.stack q)) (Then_exact w)
join_exact w (Caller n) h = tt
join_exact w (Worker p i) h = if_cond (Then_exact w) (is_free ((w.stack (Worker p i)).top)) _
    (λ f. made_exact w (Worker p i) (Fork (record { number = w.calls; pool = p; job = w.jobs + 1 }) w.jobs) (put w.call w.calls (new_call (Some w.jobs) (w.jobs + 1)))
    (put (put w.job w.jobs (new_job (Worker p i) p Direct)) (w.jobs + 1) (new_job (Worker p i) p (Stored w.calls (Worker p i)))) (w.calls + 1) (w.jobs + 2) (omega arith) (omega arith) (two_old w (new_job (Worker p i) p Direct) (new_job (Worker p i) p (Stored w.calls (Worker p i))))
    (call_old w (new_call (Some w.jobs) (w.jobs + 1))) (two_new w (new_job (Worker p i) p Direct) (new_job (Worker p i) p (Stored w.calls (Worker p i))) (record { at = refl; kind = refl }) (record { at = refl; kind = refl })) h)

-- a job of this count is no body
kind_new : (q : Party) (p : ℕ) (k : Count) → IsNew (new_job q p (count_kind k))
kind_new q p (OfPool r) = record { at = refl; kind = refl }
kind_new q p _ = record { at = refl; kind = refl }

feed_exact : (w : World) (d : Count) (p i : ℕ) → ExactHold w → Then_exact w (after_feed w d p i (w.stack (Worker p i)))
feed_exact w d p i h = made_exact w (Worker p i) (Feed (record { count = d; pool = p; job = w.jobs; token = w.jobs + 1 })) w.call (put (put w.job w.jobs (new_job (Worker p i) p (count_kind d))) (w.jobs + 1) (new_job (Worker p i) p (TokenOf i (count_book d)))) w.calls (w.jobs + 2)
    (omega arith) (omega arith) (two_old w (new_job (Worker p i) p (count_kind d)) (new_job (Worker p i) p (TokenOf i (count_book d)))) (λ j b. refl)
    (two_new w (new_job (Worker p i) p (count_kind d)) (new_job (Worker p i) p (TokenOf i (count_book d))) (kind_new (Worker p i) p d) (record { at = refl; kind = refl })) h

fifo_exact : (w : World) (q : Party) (p : ℕ) → ExactHold w → IfSome (after_fifo w q p (w.stack q)) (Then_exact w)
fifo_exact w q p h = fifo_cases (Then_exact w) w q p (spawn_exact w q p h) (λ i free. feed_exact w (OfPool p) p i h)

enter_exact : (w : World) (q : Party) (z : Scope) → ExactHold w → IfSome (after_enter w q (w.stack q) (Some z)) (Then_exact w)
enter_exact w q z h = if_cond (Then_exact w) (is_free ((w.stack q).top) && holds z.call (w.stack q)) _
    (λ f. made_exact w q (Enter (record { call = z.call; owner = z.owner; pool = z.pool; job = w.jobs })) w.call (put w.job w.jobs (new_job q z.pool (Scoped z.call z.owner))) w.calls (w.jobs + 1) (omega arith) (omega arith) (one_old w (new_job q z.pool (Scoped z.call z.owner)))
    (λ i b. refl) (one_new w (new_job q z.pool (Scoped z.call z.owner)) (record { at = refl; kind = refl })) h)

into_exact : (w : World) (q : Party) (n : ℕ) → ExactHold w → IfSome (after_into w q n (w.stack q)) (Then_exact w)
into_exact w q n h = into_cases (Then_exact w) w q n (λ z e free held. enter_exact w q z h)

into_fifo_exact : (w : World) (q : Party) (n : ℕ) → ExactHold w → IfSome (after_into_fifo w q n (w.stack q)) (Then_exact w)
into_fifo_exact w q n h = into_fifo_cases (Then_exact w) w q n (λ z e free held. enter_exact w q z h) (λ z i e free held. feed_exact w (OfScope z.call z.owner) z.pool i h)

-- the pieces of a broadcast are new
piece_new_of : (q : Party) (k : Count) (p i : ℕ) → IsNew (new_piece q k p i)
piece_new_of q (OfPool r) p i = record { at = refl; kind = refl }
piece_new_of q _ p i = record { at = refl; kind = refl }

pieces_new : (w : World) (q : Party) (b : Pieces) → b.first ≡ w.jobs → (t : ℕ) → w.jobs ≤ t → t + 1 ≤ w.jobs + b.workers → IsNew (put_pieces b (λ i j. new_piece q b.count b.pool i) w.job t)
pieces_new w q b f t l m = by (is_piece b t) refl
  where
    by : (z : Bool) → is_piece b t ≡ z → IsNew (if z then new_piece q b.count b.pool (t - b.first) else w.job t)
    by true e = piece_new_of q b.count b.pool (t - b.first)
    by false e = absurd (let y : is_piece b t ≡ true = piece_in b t (omega (arith, l, f)) (omega (arith, m, f)) in let z : true ≡ false = sym y ∙ e in cc)

pieces_old : (w : World) (q : Party) (b : Pieces) → b.first ≡ w.jobs → (t : ℕ) → t + 1 ≤ w.jobs → put_pieces b (λ i j. new_piece q b.count b.pool i) w.job t ≡ w.job t
pieces_old w q b f t l = piece_old b (λ i j. new_piece q b.count b.pool i) w.job t (piece_out b t (omega (arith, l, f)))

deal_exact : (w : World) (q : Party) (d : Count) (p : ℕ) → ExactHold w → Then_exact w (after_deal w q d p (w.stack q))
deal_exact w q d p h = begin_exact w u q (after_call (w.stack q) (RaiseForAll b)) (λ r. refl) (omega arith) (omega arith) (pieces_old w q b refl) (λ c y. refl) (λ c. omega arith) (λ t l m. (pieces_new w q b refl t l m).at)
    (no_body w u (after_call (w.stack q) (RaiseForAll b)) (pieces_new w q b refl)) h
  where
    b : Pieces
    b = record { count = d; pool = p; first = w.jobs; workers = (w.shape.pool p).workers }

    u : World
    u = after_deal w q d p (w.stack q)

cast_exact : (w : World) (q : Party) (p : ℕ) → ExactHold w → IfSome (after_cast w q p (w.stack q)) (Then_exact w)
cast_exact w q p h = if_cond (Then_exact w) (is_free ((w.stack q).top) && is_pool w.shape p) _ (λ f. deal_exact w q (OfPool p) p h)

into_cast_exact : (w : World) (q : Party) (n : ℕ) → ExactHold w → IfSome (after_into_cast w q n (w.stack q)) (Then_exact w)
into_cast_exact w q n h = into_cast_cases (Then_exact w) w q n (λ z e free held. deal_exact w q (OfScope z.call z.owner) z.pool h)

gather_exact : (w : World) (q : Party) (p : ℕ) → ExactHold w → IfSome (after_broadcast w q p (w.stack q)) (Then_exact w)
gather_exact w q p h = if_cond (Then_exact w) (is_free ((w.stack q).top) && is_pool w.shape p) _
    (λ f. made_exact w q (Gather (record { call = record { number = w.calls; pool = p; job = t0 }; pieces = b })) (put w.call w.calls (new_gathering b.workers t0)) (put J1 t0 (new_whole q p w.calls)) (w.calls + 1) (t0 + 1) (omega arith) (omega arith) old
    (call_old w (new_gathering b.workers t0)) (put_next J1 t0 w.jobs (new_whole q p w.calls) (record { at = refl; kind = refl }) (pieces_new w q b refl)) h)
  where
    b : Pieces
    b = record { count = OfCast w.calls q; pool = p; first = w.jobs; workers = (w.shape.pool p).workers }

    t0 : ℕ
    t0 = w.jobs + b.workers

    J1 : ℕ → Job
    J1 = put_pieces b (λ i j. new_piece q (OfCast w.calls q) p i) w.job

    old : (t : ℕ) → t + 1 ≤ w.jobs → put J1 t0 (new_whole q p w.calls) t ≡ w.job t
    old t l = put_old J1 t0 (new_whole q p w.calls) t (below_new t t0 (omega (arith, l))) ∙ pieces_old w q b refl t l

-- a scope is opened: its party has the body's share from then on
scope_exact : (w : World) (q : Party) (p : ℕ) → ExactHold w → IfSome (after_scope w q p (w.stack q)) (Then_exact w)
scope_exact w q p h = if_cond (Then_exact w) (is_free ((w.stack q).top) && is_pool w.shape p) _
    (λ f. begin_exact w u q k (λ r. refl) (omega arith) (omega arith) (one_old w j0) (call_old w (new_call None w.jobs)) (λ c. omega arith) (λ t l m. ap (λ n. is_dealt_out (put w.job w.jobs j0 n).at) (next t l m) ∙ ap (λ j. is_dealt_out (j.at)) (put_new w.job w.jobs j0)) mine h)
  where
    j0 : Job
    j0 = new_job q p (BodyOf w.calls q)

    k : Stack
    k = after_call (w.stack q) (RaiseCount (Open (record { number = w.calls; pool = p; job = w.jobs })))

    u : World
    u = record (calling w q (Open (record { number = w.calls; pool = p; job = w.jobs })) (put w.call w.calls (new_call None w.jobs)) (put w.job w.jobs j0) (w.calls + 1) (w.jobs + 1)) { scopes = w.scopes ++ record { call = w.calls; pool = p; owner = q } ∷ [] }

    next : (t : ℕ) → w.jobs ≤ t → t + 1 ≤ w.jobs + 1 → t ≡ w.jobs
    next t l m = omega (arith, l, m)

    mine : (t c : ℕ) (o : Party) → w.jobs ≤ t → t + 1 ≤ w.jobs + 1 → (put w.job w.jobs j0 t).kind ≡ BodyOf c o → (c + 1 ≤ w.calls + 1) × ((put w.call w.calls (new_call None w.jobs) c).job ≡ t) × (1 ≤ all_bodies c k)
    mine t c o l m e = let y : BodyOf w.calls q ≡ BodyOf c o = sym (ap (λ n. (put w.job w.jobs j0 n).kind) (next t l m) ∙ ap (λ j. j.kind) (put_new w.job w.jobs j0)) ∙ e in
        let i : w.calls ≡ c = cc in
        let x : one (c == w.calls) ≡ 1 = ap one (eq-eqb c w.calls (sym i)) in
        ((let g : c + 1 ≤ w.calls + 1 = omega (arith, i) in g), ap (λ n. (put w.call w.calls (new_call None w.jobs) n).job) (sym i) ∙ ap (λ v. v.job) (put_new w.call w.calls (new_call None w.jobs)) ∙ sym (next t l m), (let g : 1 ≤ all_bodies c k = omega (arith, x) in g))

yield_exact : (w : World) (q : Party) (x : Place) → ExactHold w → IfSome (after_yield w q (w.stack q) x) (Then_exact w)
yield_exact w (Worker a b) x h = if_cond (Then_exact w) (is_free ((w.stack (Worker a b)).top)) _
    (λ f. still_exact w (record w { stack = put_stack w.stack (Worker a b) (after_call (w.stack (Worker a b)) x) }) (Worker a b) (after_call (w.stack (Worker a b)) x) (λ r. refl) refl refl refl refl (λ c. omega arith) h)
yield_exact w (Caller n) x h = tt

give_exact : (w : World) (q : Party) (p : ℕ) → ExactHold w → IfSome (after_end_pool w q p (w.stack q)) (Then_exact w)
give_exact w q p h = if_cond (Then_exact w) (is_free ((w.stack q).top) && (is_pool w.shape p && (w.pool p).held)) _
    (λ f. still_exact w (record w { stack = put_stack w.stack q (after_call (w.stack q) (LowerCount (OfPool p) PoolValue Resume)); pool = put w.pool p (record (w.pool p) { held = false }) }) q (after_call (w.stack q) (LowerCount (OfPool p) PoolValue Resume)) (λ r. refl) refl refl refl refl
    (λ c. omega arith) h)

go_exact : (w : World) (q : Party) → ExactHold w → IfSome (step w (Go q)) (Then_exact w)
go_exact w q h = acted_keeps w q (w.stack q) (target_pool q (act_of q ((w.stack q).top))) (target_worker q (act_of q ((w.stack q).top))) (target_call (act_of q ((w.stack q).top))) (job_at w q (act_of q ((w.stack q).top))) (outcome w q (w.stack q)) (Then_exact w)
    (if_some_map (λ r. Passes w (world_after w q ((w.stack q).top) ((w.stack q).below) r) q (stack_after w q ((w.stack q).top) ((w.stack q).below) (r.0))) (λ r. Then_exact w (world_after w q ((w.stack q).top) ((w.stack q).below) r))
    (λ r p. exact_keep w (world_after w q ((w.stack q).top) ((w.stack q).below) r) q (stack_after w q ((w.stack q).top) ((w.stack q).below) (r.0)) p h) (outcome w q (w.stack q)) (go_by w q h))

each_exact : (w : World) (e : Event) → ExactHold w → IfSome (step w e) (Then_exact w)
each_exact w (Go q) h = go_exact w q h
each_exact w (From q v) h = from_exact w q ((w.stack q).top) ((w.stack q).below) v refl h
each_exact w (Refuse q) h = refuse_exact w q ((w.stack q).top) ((w.stack q).below) refl (unopened w q ((w.stack q).top) (((((h.scopes).shares).calls).says q).top)) h
each_exact w (Miss q) h = miss_exact w q ((w.stack q).top) ((w.stack q).below) refl h
each_exact w (End q d) h = end_exact w q d ((w.stack q).top) ((w.stack q).below) refl h
each_exact w (Spawn q p) h = spawn_exact w q p h
each_exact w (Fifo q p) h = fifo_exact w q p h
each_exact w (Cast q p) h = cast_exact w q p h
each_exact w (Install q p) h = install_exact w q p h
each_exact w (Join q) h = join_exact w q h
each_exact w (OpenScope q p) h = scope_exact w q p h
each_exact w (IntoSpawn q n) h = into_exact w q n h
each_exact w (IntoFifo q n) h = into_fifo_exact w q n h
each_exact w (IntoCast q n) h = into_cast_exact w q n h
each_exact w (Broadcast q p) h = gather_exact w q p h
each_exact w (Yield q) h = yield_exact w q YieldPop h
each_exact w (YieldLocal q) h = yield_exact w q LocalPop h
each_exact w (EndPool q p) h = give_exact w q p h

step_exact : (w : World) (e : Event) → ExactHold w → IfSome (step w e) ExactHold
step_exact w e h = if_some_map (λ u. (ScopesHold u × Advance w u) × Then_exact w u) ExactHold (λ u f. f.1 ((f.0).0) ((f.0).1)) (step w e)
    (if_some_and (λ u. ScopesHold u × Advance w u) (Then_exact w) (step w e) (if_some_and ScopesHold (Advance w) (step w e) (step_scopes w e (h.scopes)) (step_advance w e (unqueued w calls) ((calls.jobs).feeds) ((calls.jobs).ok) ((calls.jobs).unmade))) (each_exact w e h))
  where
    calls : CallsHold w
    calls = ((h.scopes).shares).calls

first_exact : (h : Shape) → ExactHold (start h)
first_exact h = record { scopes = first_scopes h; opened = λ t c o b. absurd (omega (arith, b)); bodies = λ t c o b. absurd (omega (arith, b)); dealt = λ t b. absurd (omega (arith, b)) }

-- with a share that has a keeper and is in at most one place, that keeper alone keeps it
kept_once : (f : Party → ℕ) (own b : Bool) → Tokens f (one own) (one b) → HasKeeper f (one own) (one b) → KeptOnce f own b
kept_once f own false t h = (λ q. (let a : f q + one own ≤ 0 = t.alone q in omega (arith, a)), one_not own (let a : f (Caller 0) + one own ≤ 0 = t.alone (Caller 0) in omega (arith, a)))
kept_once f own true t (None, h) = (None, λ q. (let a : f q + one own ≤ 1 = t.alone q in let b : 1 ≤ one own = h in omega (arith, a, b)), one_is own h)
kept_once f own true t (Some r, h) = (Some r, λ q. by q (same_party q r) refl, one_not own (let a : f r + one own ≤ 1 = t.alone r in let b : 1 ≤ f r = h in omega (arith, a, b)))
  where
    by : (q : Party) (z : Bool) → same_party q r ≡ z → f q ≡ one z
    by q true z = let e : f q ≡ f r = ap f (same_party_true q r z) in let a : f r + one own ≤ 1 = t.alone r in let b : 1 ≤ f r = h in omega (arith, a, b, e)
    by q false z = let a : f q + f r ≤ 1 = t.apart q r z in let b : 1 ≤ f r = h in omega (arith, a, b)

count_sum : (n : ℕ) (f : ℕ → Bool) → count_below n f ≡ sum_below n (λ t. one (f t))
count_sum zero f = refl
count_sum (suc n) f = by (f n) (count_sum n f)
  where
    by : (b : Bool) → count_below n f ≡ sum_below n (λ t. one (f t)) → (if b then 1 + count_below n f else count_below n f) ≡ (one b + sum_below n (λ t. one (f t)))
    by true a = omega (arith, a)
    by false a = omega (arith, a)

pub always_counted : (h : Shape) (es : List Event) (w : World) → IsRun (start h) es w → IsCounted w
always_counted h es w r = counted (run_keeps KeepersHold step_keepers (start h) w es (first_keepers h) r) (run_keeps ExactHold step_exact (start h) w es (first_exact h) r)
  where
    counted : KeepersHold w → ExactHold w → IsCounted w
    counted k x = record {
      count = λ p. (let a : sum_below w.jobs (λ t. tally p (w.job t)) + one (w.pool p).counted ≡ (w.pool p).count = ((k.returns).shares).sums p in
          let b : count_below w.jobs (λ t. has_share p (w.job t)) ≡ sum_below w.jobs (λ t. tally p (w.job t)) = count_sum w.jobs (λ t. has_share p (w.job t)) in omega (arith, a, b));
      made = ((k.returns).shares).unmade;
      value = λ p. kept_once (λ q. all_values p (w.stack q)) ((w.pool p).held) ((w.pool p).counted) (((k.returns).shares).values p) (k.values p);
      jobs = λ t. kept_once (λ q. shares t (w.stack q)) (keeps_own (w.job t)) ((w.job t).counted) (((k.returns).shares).jobs t) (k.jobs t);
      bodies = λ t c o m e n. kept_once (λ q. all_bodies c (w.stack q)) false ((w.call c).counted) ((x.scopes).bodies c) (x.bodies t c o m e n);
      dealt = x.dealt;
    }
