-- the events that are no acts: where their party goes, which jobs are over, and that a second side keeps its frame
use Rattle.std.proofs.Common.{arith, refl, sym, ◌∙◌, ap, subst, inl, inr}
use Rattle.rayon_machine_sleep_laws.proofs.Words.{ℕ, Bool, true, false, ◌&&◌, ◌+◌, ◌-◌, ◌==◌, ◌≤◌, nat_lt, if◌then◌else◌, Some, None, List, ◌∷◌, ◌++◌, [], ◌≡◌, ◌⊎◌, IfSome, eqb-true, Party, Worker, Caller, Ending, JobKind, Detached, Stored, Direct, Scoped, BodyOf, TokenOf, Count, OfPool}
use Rattle.rayon_machine_sleep_laws.proofs.Words.{OfScope, OfCast, PoolValue, Pieces, Detach, Here, Send, Fork, Feed, Open, Enter, Gather, Resume, Wait, Place, PickVictim, StealFrom, PopInjected, YieldPop, YieldPick, YieldSteal, YieldPopInjected, LocalPop, Run, RaiseCount, GrowCall, GrowScope}
use Rattle.rayon_machine_sleep_laws.proofs.Words.{OpenSlot, PushJob, AddToFifo, PushToken, RaiseForAll, OpenForAll, PushForAll, GrowCast, DealPieces, LowerCount, Seen, Refused, Event, Go, From, Refuse, Miss, End, Spawn, Fifo, Install, Join, Yield, YieldLocal, EndPool, Cast, OpenScope, IntoSpawn}
use Rattle.rayon_machine_sleep_laws.proofs.Words.{IntoFifo, IntoCast, Broadcast, Call, Job, Scope, Over, PoolShape, own_pool, own_index, is_free, is_member, next_of, next_victim, next_steal, next_yield, not_self, count_kind, count_book, Pool, Stack, World, at_job, put, put_stack, is_piece}
use Rattle.rayon_machine_sleep_laws.proofs.Words.{can_miss, is_pool, holds, new_call, new_gathering, after_move, after_call, after_close, step, after_choice, after_refusal, after_miss, after_end, after_spawn, after_feed, after_deal, after_broadcast, after_send, after_install, after_join}
use Rattle.rayon_machine_sleep_laws.proofs.Words.{after_scope, after_enter, after_yield, after_end_pool, is_done}
use Rattle.rayon_machine_places.specs.declared.act.Seen.TheVariants.{Missing, Start}
use Rattle.rayon_machine_runs.specs.Steps.{put_pieces, new_job, new_piece, new_whole}
use Rattle.rayon_machine_laws.proofs.Claims.{AllSay, here}
use Rattle.rayon_machine_laws.proofs.ClaimMakes.{below_new}
use Rattle.rayon_machine_laws.proofs.Frame.{if_cond, put_same, put_new, put_old, piece_out, fifo_cases, into_cases, into_fifo_cases, into_cast_cases}
use Rattle.rayon_machine_laws.proofs.Storing.{number_is}
use Rattle.rayon_machine_sleep_laws.proofs.Rests.{is_act, not_both}
use Rattle.rayon_machine_sleep_laws.proofs.Sides.{is_stored, Backed, Firsts, Turning, land_backed, calm_turns, closed_backed, backed_kinds, backed_on, push_turns, add_turns, push_all_turns}

-- a party's stack with its top first
abbrev pub places : Stack → List Place
places k = k.top ∷ k.below

-- the run of this job ends, on top of the party's stack
pub record RunEnds (w u : World) (q : Party) (to : Stack) (t : ℕ) : Type 0 where
  pub kind : JobKind
  pub ending : Ending
  pub top : (w.stack q).top ≡ Run t kind
  pub leads : to ≡ after_close t kind ending (w.stack q).below
  pub counted : (u.job t).counted ≡ (w.job t).counted

-- one party's stack is another, where second sides have their frames; a job is over only that was, or whose run ends
pub record Turns (w u : World) : Type 0 where
  pub party : Party
  pub to : Stack
  pub stack : (r : Party) → u.stack r ≡ put_stack w.stack party to r
  pub backed : AllSay w party (places (w.stack party)) → Backed w (places (w.stack party)) → Backed u (places to)
  pub firsts : Firsts w → Firsts u
  pub done : (t : ℕ) → is_done (u.job t).at ≡ true → (((w.job t).at ≡ (u.job t).at) × ((u.job t).counted ≡ (w.job t).counted)) ⊎ RunEnds w u party to t

-- only the stack is another
moved_turns : (w : World) (q : Party) (k : Stack) (P : ℕ → Pool) → (Backed w (places (w.stack q)) → Backed w (places k)) → Turns w (record w { stack = put_stack w.stack q k; pool = P })
moved_turns w q k P b = record { party = q; to = k; stack = λ r. refl; backed = λ a d. backed_kinds w (record w { stack = put_stack w.stack q k; pool = P }) (places k) (λ t. refl) (b d); firsts = λ f. f; done = λ t e. inl (refl, refl) }

seen_turns : (w : World) (q : Party) (g : PoolShape) (x : Place) (fs : List Place) (e : Seen) → w.stack q ≡ record { top = x; below = fs } → Turning w x (next_of g q x e) → Turns w (record w { stack = put_stack w.stack q (after_move (next_of g q x e) fs) })
seen_turns w q g x fs e z m = moved_turns w q (after_move (next_of g q x e) fs) w.pool (λ b. land_backed w x (next_of g q x e) fs m (subst (λ k. Backed w (places k)) z b))

from_turns : (w : World) (q : Party) (x : Place) (fs : List Place) (v : ℕ) → w.stack q ≡ record { top = x; below = fs } → IfSome (after_choice w q (record { top = x; below = fs }) x v) (Turns w)
from_turns w q (PickVictim k) fs v z = if_cond (Turns w) (nat_lt v (w.shape.pool (own_pool q)).workers) _ (λ b. seen_turns w q (w.shape.pool (own_pool q)) (PickVictim k) fs (Start v) z (λ t e s. absurd (cc)))
from_turns w q YieldPick fs v z = if_cond (Turns w) (nat_lt v (w.shape.pool (own_pool q)).workers) _ (λ b. seen_turns w q (w.shape.pool (own_pool q)) YieldPick fs (Start v) z (λ t e s. absurd (cc)))
from_turns w q _ fs v z = tt

refuse_turns : (w : World) (q : Party) (x : Place) (fs : List Place) → w.stack q ≡ record { top = x; below = fs } → IfSome (after_refusal w q (record { top = x; below = fs })) (Turns w)
refuse_turns w q (GrowCall n) fs z = seen_turns w q (w.shape.pool (own_pool q)) (GrowCall n) fs Refused z (λ t e s. absurd (cc))
refuse_turns w q (GrowScope o) fs z = seen_turns w q (w.shape.pool (own_pool q)) (GrowScope o) fs Refused z (λ t e s. absurd (cc))
refuse_turns w q (OpenSlot n) fs z = seen_turns w q (w.shape.pool (own_pool q)) (OpenSlot n) fs Refused z (λ t e s. absurd (cc))
refuse_turns w q (PushJob n v) fs z = seen_turns w q (w.shape.pool (own_pool q)) (PushJob n v) fs Refused z (push_turns w (w.shape.pool (own_pool q)) q n v Refused)
refuse_turns w q (AddToFifo f) fs z = seen_turns w q (w.shape.pool (own_pool q)) (AddToFifo f) fs Refused z (add_turns w (w.shape.pool (own_pool q)) q f Refused)
refuse_turns w q (PushToken f v) fs z = seen_turns w q (w.shape.pool (own_pool q)) (PushToken f v) fs Refused z (λ t e s. absurd (cc))
refuse_turns w q (OpenForAll b) fs z = seen_turns w q (w.shape.pool (own_pool q)) (OpenForAll b) fs Refused z (λ t e s. absurd (cc))
refuse_turns w q (PushForAll b) fs z = seen_turns w q (w.shape.pool (own_pool q)) (PushForAll b) fs Refused z (push_all_turns w (w.shape.pool (own_pool q)) q b Refused)
refuse_turns w q (GrowCast g) fs z = seen_turns w q (w.shape.pool (own_pool q)) (GrowCast g) fs Refused z (λ t e s. absurd (cc))
refuse_turns w q (DealPieces g) fs z = seen_turns w q (w.shape.pool (own_pool q)) (DealPieces g) fs Refused z (λ t e s. absurd (cc))
refuse_turns w q _ fs z = tt

steal_calm : (h : PoolShape) (q : Party) (k : Wait) (n : ℕ) → here (next_steal h q k n) ≡ None
steal_calm h q k n = by (n == 0)
  where
    by : (b : Bool) → here (if b then PopInjected k else StealFrom (record k { victim = not_self h.workers (own_index q) (next_victim h.workers k.victim) }) (n - 1)) ≡ None
    by true = refl
    by false = refl

yield_calm : (h : PoolShape) (q : Party) (v n : ℕ) → here (next_yield h q v n) ≡ None
yield_calm h q v n = by (n == 0)
  where
    by : (b : Bool) → here (if b then YieldPopInjected else YieldSteal (not_self h.workers (own_index q) (next_victim h.workers v)) (n - 1)) ≡ None
    by true = refl
    by false = refl

miss_turns : (w : World) (q : Party) (x : Place) (fs : List Place) → w.stack q ≡ record { top = x; below = fs } → IfSome (after_miss w q (record { top = x; below = fs }) x) (Turns w)
miss_turns w (Worker a b) (StealFrom k n) fs z = if_cond (Turns w) (can_miss w a k.victim) _ (λ d. seen_turns w (Worker a b) (w.shape.pool a) (StealFrom k n) fs Missing z (calm_turns w (StealFrom k n) (next_of (w.shape.pool a) (Worker a b) (StealFrom k n) Missing) (steal_calm
    (w.shape.pool a) (Worker a b) k n)))
miss_turns w (Worker a b) (YieldSteal v n) fs z = if_cond (Turns w) (can_miss w a v) _ (λ d. seen_turns w (Worker a b) (w.shape.pool a) (YieldSteal v n) fs Missing z (calm_turns w (YieldSteal v n) (next_of (w.shape.pool a) (Worker a b) (YieldSteal v n) Missing) (yield_calm
    (w.shape.pool a) (Worker a b) v n)))
miss_turns w _ _ fs z = tt

end_turns : (w : World) (q : Party) (d : Ending) (x : Place) (fs : List Place) → w.stack q ≡ record { top = x; below = fs } → IfSome (after_end w q d (record { top = x; below = fs }) x) (Turns w)
end_turns w q d (Run t k) fs z = record {
  party = q;
  to = after_close t k d fs;
  stack = λ r. refl;
  backed = λ a b. backed_kinds w (record w { stack = put_stack w.stack q (after_close t k d fs); job = J }) (places (after_close t k d fs)) (λ u. put_same (λ j. j.kind) w.job t (at_job (w.job t) (Over d)) u refl) (closed_backed w t k d fs ((subst (λ s. Backed w (places s)) z b).1));
  firsts = λ f c a e. ((f c a e).0, kind a (a == t) refl ∙ (f c a e).1);
  done = λ u e. done u (u == t) refl;
}
  where
    J : ℕ → Job
    J = put w.job t (at_job (w.job t) (Over d))

    kind : (a : ℕ) (b : Bool) → (a == t) ≡ b → is_stored ((if b then at_job (w.job t) (Over d) else w.job a).kind) ≡ is_stored (w.job a).kind
    kind a true e = ap (λ n. is_stored (w.job n).kind) (sym (eqb-true a t e))
    kind a false e = refl

    done : (u : ℕ) (b : Bool) → (u == t) ≡ b → (((w.job u).at ≡ (J u).at) × ((J u).counted ≡ (w.job u).counted)) ⊎ RunEnds w (record w { stack = put_stack w.stack q (after_close t k d fs); job = J }) q (after_close t k d fs) u
    done u true e = let i : u ≡ t = eqb-true u t e in inr (record {
      kind = k;
      ending = d;
      top = ap (λ s. s.top) z ∙ ap (λ n. Run n k) (sym i);
      leads = ap (λ n. after_close n k d fs) (sym i) ∙ ap (λ s. after_close u k d s.below) (sym z);
      counted = ap (λ n. (J n).counted) i ∙ ap (λ j. j.counted) (put_new w.job t (at_job (w.job t) (Over d))) ∙ ap (λ n. (w.job n).counted) (sym i);
    })
    done u false e = let i : J u ≡ w.job u = put_old w.job t (at_job (w.job t) (Over d)) u e in inl (ap (λ j. j.at) (sym i), ap (λ j. j.counted) i)
end_turns w q d _ fs z = tt

-- jobs after new ones were made, which are not over
record New (w : World) (J : ℕ → Job) : Type 0 where
  old : (t : ℕ) → t + 1 ≤ w.jobs → J t ≡ w.job t
  done : (t : ℕ) → is_done (J t).at ≡ true → J t ≡ w.job t

new_none : (w : World) → New w w.job
new_none w = record { old = λ t b. refl; done = λ t e. refl }

new_put : (w : World) (J : ℕ → Job) (n : ℕ) (j : Job) → New w J → w.jobs ≤ n → is_done j.at ≡ false → New w (put J n j)
new_put w J n j a l d = record { old = λ t b. put_old J n j t (below_new t n (omega (arith, b, l))) ∙ a.old t b; done = λ t e. done t (t == n) refl e }
  where
    done : (t : ℕ) (b : Bool) → (t == n) ≡ b → is_done ((if b then j else J t).at) ≡ true → (if b then j else J t) ≡ w.job t
    done t true y e = absurd (not_both (is_done j.at) e d)
    done t false y e = a.done t e

new_pieces : (w : World) (c : Pieces) (q : Party) (k : Count) (p : ℕ) → w.jobs ≤ c.first → New w (put_pieces c (λ i j. new_piece q k p i) w.job)
new_pieces w c q k p l = record { old = λ t b. old t (is_piece c t) refl b; done = λ t e. done t (is_piece c t) refl e }
  where
    old : (t : ℕ) (b : Bool) → is_piece c t ≡ b → t + 1 ≤ w.jobs → (if b then new_piece q k p (t - c.first) else w.job t) ≡ w.job t
    old t true y m = absurd (not_both (is_piece c t) y (piece_out c t (omega (arith, l, m))))
    old t false y m = refl

    done : (t : ℕ) (b : Bool) → is_piece c t ≡ b → is_done ((if b then new_piece q k p (t - c.first) else w.job t).at) ≡ true → (if b then new_piece q k p (t - c.first) else w.job t) ≡ w.job t
    done t true y e = cc
    done t false y e = refl

-- a call begins
called_turns : (w : World) (q : Party) (y : Place) (C : ℕ → Call) (J : ℕ → Job) (c j : ℕ) (l : List Scope) → here y ≡ None → New w J → w.jobs ≤ j → ((i a : ℕ) → (C i).first ≡ Some a → ((w.call i).first ≡ Some a) ⊎ ((a + 1 ≤ j) × (is_stored (J a).kind ≡ false))) → Turns w
    (record w { stack = put_stack w.stack q (after_call (w.stack q) y); call = C; job = J; calls = c; jobs = j; scopes = l })
called_turns w q y C J c j l n new m f = record {
  party = q;
  to = after_call (w.stack q) y;
  stack = λ r. refl;
  backed = λ a b. (λ t e s. absurd (let z : None ≡ Some t = sym n ∙ e in cc), backed_on w (record w { stack = put_stack w.stack q (after_call (w.stack q) y); call = C; job = J; calls = c; jobs = j; scopes = l }) q (places (w.stack q)) (λ t b. ap (λ d. d.kind) (new.old t b)) a b);
  firsts = λ g i a e. elim (f i a e) [
    | inl z ↦ ((let o : a + 1 ≤ w.jobs = (g i a z).0 in omega (arith, o, m)), ap (λ d. is_stored d.kind) (new.old a ((g i a z).0)) ∙ (g i a z).1)
    | inr z ↦ z
  ];
  done = λ t e. (let i : J t ≡ w.job t = new.done t e in inl (ap (λ d. d.at) (sym i), ap (λ d. d.counted) i));
}

plain_turns : (w : World) (q : Party) (y : Place) (J : ℕ → Job) (j : ℕ) → here y ≡ None → New w J → w.jobs ≤ j → Turns w (record w { stack = put_stack w.stack q (after_call (w.stack q) y); call = w.call; job = J; calls = w.calls; jobs = j; scopes = w.scopes })
plain_turns w q y J j n new m = called_turns w q y w.call J w.calls j w.scopes n new m (λ i a e. inl e)

-- a new call has no first side, but a join
sideless : (w : World) (v : Call) (j : ℕ) (J : ℕ → Job) → v.first ≡ None → (i a : ℕ) → (put w.call w.calls v i).first ≡ Some a → ((w.call i).first ≡ Some a) ⊎ ((a + 1 ≤ j) × (is_stored (J a).kind ≡ false))
sideless w v j J n i a = by (i == w.calls)
  where
    by : (b : Bool) → (if b then v else w.call i).first ≡ Some a → ((w.call i).first ≡ Some a) ⊎ ((a + 1 ≤ j) × (is_stored (J a).kind ≡ false))
    by true e = absurd (let z : None ≡ Some a = sym n ∙ e in cc)
    by false e = inl e

one_new : (w : World) (j : Job) → is_done j.at ≡ false → New w (put w.job w.jobs j)
one_new w j d = new_put w w.job w.jobs j (new_none w) (omega arith) d

two_new : (w : World) (j i : Job) → is_done j.at ≡ false → is_done i.at ≡ false → New w (put (put w.job w.jobs j) (w.jobs + 1) i)
two_new w j i d e = new_put w (put w.job w.jobs j) (w.jobs + 1) i (one_new w j d) (omega arith) e

spawn_turns : (w : World) (q : Party) (p : ℕ) → IfSome (after_spawn w q p (w.stack q)) (Turns w)
spawn_turns w q p = if_cond (Turns w) (is_free (w.stack q).top && is_pool w.shape p) _ (λ b. plain_turns w q (RaiseCount (Detach p w.jobs)) (put w.job w.jobs (new_job q p (Detached p))) (w.jobs + 1) refl (one_new w (new_job q p (Detached p)) refl) (omega arith))

feed_turns : (w : World) (k : Count) (p i : ℕ) → Turns w (after_feed w k p i (w.stack (Worker p i)))
feed_turns w k p i = plain_turns w (Worker p i) (RaiseCount (Feed (record { count = k; pool = p; job = w.jobs; token = w.jobs + 1 }))) (put (put w.job w.jobs (new_job (Worker p i) p (count_kind k))) (w.jobs + 1) (new_job (Worker p i) p (TokenOf i (count_book k))))
    (w.jobs + 2) refl (two_new w (new_job (Worker p i) p (count_kind k)) (new_job (Worker p i) p (TokenOf i (count_book k))) refl refl) (omega arith)

deal_turns : (w : World) (q : Party) (k : Count) (p : ℕ) → Turns w (after_deal w q k p (w.stack q))
deal_turns w q k p = plain_turns w q (RaiseForAll c) (put_pieces c (λ i j. new_piece q k p i) w.job) (w.jobs + c.workers) refl (new_pieces w c q k p (omega arith)) (omega arith)
  where
    c : Pieces
    c = record { count = k; pool = p; first = w.jobs; workers = (w.shape.pool p).workers }

sent_turns : (w : World) (q : Party) (p : ℕ) (b : Bool) → Turns w (after_send w q p (w.stack q) b)
sent_turns w q p true = plain_turns w q (RaiseCount (Here p w.jobs)) (put w.job w.jobs (new_job q p Direct)) (w.jobs + 1) refl (one_new w (new_job q p Direct) refl) (omega arith)
sent_turns w q p false = called_turns w q (RaiseCount (Send (record { number = w.calls; pool = p; job = w.jobs }))) (put w.call w.calls (new_call None w.jobs)) (put w.job w.jobs (new_job q p (Stored w.calls q))) (w.calls + 1) (w.jobs + 1) w.scopes refl (one_new w (new_job q p
    (Stored w.calls q)) refl) (omega arith) (sideless w (new_call None w.jobs) (w.jobs + 1) (put w.job w.jobs (new_job q p (Stored w.calls q))) refl)

install_turns : (w : World) (q : Party) (p : ℕ) → IfSome (after_install w q p (w.stack q)) (Turns w)
install_turns w q p = if_cond (Turns w) (is_free (w.stack q).top && is_pool w.shape p) _ (λ b. sent_turns w q p (is_member q p))

-- the first side of a join is waited for by no call
join_turns : (w : World) (q : Party) → IfSome (after_join w q (w.stack q)) (Turns w)
join_turns w (Worker p i) = if_cond (Turns w) (is_free (w.stack (Worker p i)).top) _ (λ b. called_turns w (Worker p i) (RaiseCount (Fork (record { number = w.calls; pool = p; job = w.jobs + 1 }) w.jobs)) (put w.call w.calls v) J (w.calls + 1) (w.jobs + 2) w.scopes refl
    (two_new w first other refl refl) (omega arith) (λ n a e. side n a (n == w.calls) e))
  where
    v : Call
    v = new_call (Some w.jobs) (w.jobs + 1)

    first : Job
    first = new_job (Worker p i) p Direct

    other : Job
    other = new_job (Worker p i) p (Stored w.calls (Worker p i))

    J : ℕ → Job
    J = put (put w.job w.jobs first) (w.jobs + 1) other

    direct : J w.jobs ≡ first
    direct = put_old (put w.job w.jobs first) (w.jobs + 1) other w.jobs (below_new w.jobs (w.jobs + 1) (omega arith)) ∙ put_new w.job w.jobs first

    side : (n a : ℕ) (b : Bool) → (if b then v else w.call n).first ≡ Some a → ((w.call n).first ≡ Some a) ⊎ ((a + 1 ≤ w.jobs + 2) × (is_stored (J a).kind ≡ false))
    side n a true e = let z : w.jobs ≡ a = number_is w.jobs a e in inr (omega (arith, z), ap (λ m. is_stored (J m).kind) (sym z) ∙ ap (λ j. is_stored j.kind) direct)
    side n a false e = inl e
join_turns w (Caller n) = tt

scope_turns : (w : World) (q : Party) (p : ℕ) → IfSome (after_scope w q p (w.stack q)) (Turns w)
scope_turns w q p = if_cond (Turns w) (is_free (w.stack q).top && is_pool w.shape p) _ (λ b. called_turns w q (RaiseCount (Open (record { number = w.calls; pool = p; job = w.jobs }))) (put w.call w.calls (new_call None w.jobs)) (put w.job w.jobs (new_job q p (BodyOf w.calls q)))
    (w.calls + 1) (w.jobs + 1) (w.scopes ++ record { call = w.calls; pool = p; owner = q } ∷ []) refl (one_new w (new_job q p (BodyOf w.calls q)) refl) (omega arith) (sideless w (new_call None w.jobs) (w.jobs + 1) (put w.job w.jobs (new_job q p (BodyOf w.calls q))) refl))

enter_turns : (w : World) (q : Party) (z : Scope) → IfSome (after_enter w q (w.stack q) (Some z)) (Turns w)
enter_turns w q z = if_cond (Turns w) (is_free (w.stack q).top && holds z.call (w.stack q)) _ (λ b. plain_turns w q (RaiseCount (Enter (record { call = z.call; owner = z.owner; pool = z.pool; job = w.jobs }))) (put w.job w.jobs (new_job q z.pool (Scoped z.call z.owner)))
    (w.jobs + 1) refl (one_new w (new_job q z.pool (Scoped z.call z.owner)) refl) (omega arith))

gather_turns : (w : World) (q : Party) (p : ℕ) → IfSome (after_broadcast w q p (w.stack q)) (Turns w)
gather_turns w q p = if_cond (Turns w) (is_free (w.stack q).top && is_pool w.shape p) _ (λ b. called_turns w q (RaiseCount (Gather (record { call = record { number = w.calls; pool = p; job = n }; pieces = c }))) (put w.call w.calls (new_gathering c.workers n)) (put dealt n
    (new_whole q p w.calls)) (w.calls + 1) (n + 1) w.scopes refl (new_put w dealt n (new_whole q p w.calls) (new_pieces w c q (OfCast w.calls q) p (omega arith)) (omega arith) refl) (omega arith) (sideless w (new_gathering c.workers n) (n + 1) (put dealt n
    (new_whole q p w.calls)) refl))
  where
    c : Pieces
    c = record { count = OfCast w.calls q; pool = p; first = w.jobs; workers = (w.shape.pool p).workers }

    n : ℕ
    n = w.jobs + c.workers

    dealt : ℕ → Job
    dealt = put_pieces c (λ i j. new_piece q (OfCast w.calls q) p i) w.job

above : (w : World) (q : Party) (y : Place) → here y ≡ None → Backed w (places (w.stack q)) → Backed w (places (after_call (w.stack q) y))
above w q y n b = (λ t e s. absurd (let z : None ≡ Some t = sym n ∙ e in cc), b)

yield_turns : (w : World) (q : Party) (y : Place) → here y ≡ None → IfSome (after_yield w q (w.stack q) y) (Turns w)
yield_turns w (Worker a b) y n = if_cond (Turns w) (is_free (w.stack (Worker a b)).top) _ (λ f. moved_turns w (Worker a b) (after_call (w.stack (Worker a b)) y) w.pool (above w (Worker a b) y n))
yield_turns w (Caller c) y n = tt

give_turns : (w : World) (q : Party) (p : ℕ) → IfSome (after_end_pool w q p (w.stack q)) (Turns w)
give_turns w q p = if_cond (Turns w) (is_free (w.stack q).top && (is_pool w.shape p && (w.pool p).held)) _ (λ b. moved_turns w q (after_call (w.stack q) (LowerCount (OfPool p) PoolValue Resume)) (put w.pool p (record (w.pool p) { held = false })) (above w q (LowerCount
    (OfPool p) PoolValue Resume) refl))

pub turns : (w : World) (e : Event) → is_act e ≡ false → IfSome (step w e) (Turns w)
turns w (Go q) n = cc
turns w (From q v) n = from_turns w q (w.stack q).top (w.stack q).below v refl
turns w (Refuse q) n = refuse_turns w q (w.stack q).top (w.stack q).below refl
turns w (Miss q) n = miss_turns w q (w.stack q).top (w.stack q).below refl
turns w (End q d) n = end_turns w q d (w.stack q).top (w.stack q).below refl
turns w (Spawn q p) n = spawn_turns w q p
turns w (Fifo q p) n = fifo_cases (Turns w) w q p (spawn_turns w q p) (λ i free. feed_turns w (OfPool p) p i)
turns w (Cast q p) n = if_cond (Turns w) (is_free (w.stack q).top && is_pool w.shape p) _ (λ b. deal_turns w q (OfPool p) p)
turns w (Install q p) n = install_turns w q p
turns w (Join q) n = join_turns w q
turns w (OpenScope q p) n = scope_turns w q p
turns w (IntoSpawn q i) n = into_cases (Turns w) w q i (λ z e free held. enter_turns w q z)
turns w (IntoFifo q k) n = into_fifo_cases (Turns w) w q k (λ z e free held. enter_turns w q z) (λ z i e free held. feed_turns w (OfScope z.call z.owner) z.pool i)
turns w (IntoCast q i) n = into_cast_cases (Turns w) w q i (λ z e free held. deal_turns w q (OfScope z.call z.owner) z.pool)
turns w (Broadcast q p) n = gather_turns w q p
turns w (Yield q) n = yield_turns w q YieldPop refl
turns w (YieldLocal q) n = yield_turns w q LocalPop refl
turns w (EndPool q p) n = give_turns w q p
