-- each event makes what it names
--
-- The law is `make_law`.
use Rattle.std.proofs.Common.{arith, refl, sym, ◌∙◌, ap, subst, inl, inr}
use Rattle.rayon_machine_orders.proofs.Words.{ℕ, Bool, true, false, ◌&&◌, ◌+◌, ◌-◌, ◌==◌, ◌≤◌, ◌<◌, nat_lt, if◌then◌else◌, Option, Some, None, ◌≡◌, IfSome, slice_get, eqb-true, eq-eqb, lt-ltb, ltb-true, ltb-false, ltb, Party, Worker, Caller, Ending, Detached, Stored, Direct, Scoped, BodyOf}
use Rattle.rayon_machine_orders.proofs.Words.{PieceOf, WholeOf, TokenOf, Count, OfPool, OfScope, OfCast, Pieces, Place, PickVictim, StealFrom, YieldPop, YieldPick, YieldSteal, LocalPop, Run, Act, Event, Go, From, Refuse, Miss, End, Spawn, Fifo, Cast, Install, Join, OpenScope, IntoSpawn}
use Rattle.rayon_machine_orders.proofs.Words.{IntoFifo, IntoCast, Broadcast, Yield, YieldLocal, EndPool, Job, Scope, own_pool, is_member, is_free, is_refusable, count_kind, count_book, act_of, Stack, World, target_pool, target_worker, target_call, put, put_pieces, new_job, new_piece, new_whole}
use Rattle.rayon_machine_orders.proofs.Words.{is_pool, holds, can_miss, after_choice, after_miss, after_end, after_spawn, after_feed, after_fifo, after_deal, after_gather, after_broadcast, after_send, after_join, after_scope, after_enter, after_enter_fifo, after_into, after_into_fifo}
use Rattle.rayon_machine_orders.proofs.Words.{after_into_cast, after_yield, step, fed_jobs, scope_pool, scope_list, scopes_after, MakesSo}
use Rattle.std.proofs.lemmas.Bool.{le-ltb}
use Rattle.rayon_machine_orders.specs.Makes.{scope_kind, jobs_made, calls_made, IsMadeSo, MakeLaw}
use Rattle.rayon_machine_laws.proofs.Frame.{either, if_cond, if_some_all, if_some_map, acted_keeps, put_new, put_old, piece_new, piece_in, into_cases, into_cast_cases}
use Rattle.rayon_machine_laws.proofs.Ties.{job_at, outcome}

-- a world that has the numbers and scopes of another
record Same (w v : World) : Type 0 where
  jobs : v.jobs ≡ w.jobs
  calls : v.calls ≡ w.calls
  scopes : v.scopes ≡ w.scopes

-- an event that opens no call, and makes so many jobs
record Makes (w : World) (e : Event) (n : ℕ) : Type 0 where
  jobs : jobs_made w e ≡ n
  calls : calls_made e ≡ 0
  scopes : scopes_after w e ≡ w.scopes

-- none
makes_none : (w : World) (e : Event) (v : World) → Makes w e 0 → Same w v → MakesSo w e v
makes_none w e v m s = record {
  jobs = let a : jobs_made w e ≡ 0 = m.jobs in let i : v.jobs ≡ w.jobs = s.jobs in omega (arith, a, i);
  calls = let b : calls_made e ≡ 0 = m.calls in let i : v.calls ≡ w.calls = s.calls in omega (arith, b, i);
  scopes = s.scopes ∙ sym m.scopes;
  made = λ t l k. absurd (let i : v.jobs ≡ w.jobs = s.jobs in omega (arith, i, l, k));
}

-- one job
makes_one : (w : World) (e : Event) (v : World) → jobs_made w e ≡ 1 → v.jobs ≡ w.jobs + 1 → v.calls ≡ w.calls + calls_made e → v.scopes ≡ scopes_after w e → IsMadeSo w e 0 (v.job w.jobs) → MakesSo w e v
makes_one w e v a b c d f = record {
  jobs = omega (arith, a, b);
  calls = c;
  scopes = d;
  made = λ t l m. by t (omega (arith, b, l, m));
}
  where
    by : (t : ℕ) → t ≡ w.jobs → IsMadeSo w e (t - w.jobs) (v.job t)
    by t i = let z : t - w.jobs ≡ 0 = omega (arith, i) in subst (λ k. IsMadeSo w e k (v.job t)) (sym z) (subst (λ x. IsMadeSo w e 0 (v.job x)) (sym i) f)

-- two
makes_two : (w : World) (e : Event) (v : World) → jobs_made w e ≡ 2 → v.jobs ≡ w.jobs + 2 → v.calls ≡ w.calls + calls_made e → v.scopes ≡ scopes_after w e → IsMadeSo w e 0 (v.job w.jobs) → IsMadeSo w e 1 (v.job (w.jobs + 1)) → MakesSo w e v
makes_two w e v a b c d f g = record {
  jobs = omega (arith, a, b);
  calls = c;
  scopes = d;
  made = λ t l m. by t l m (t == w.jobs) refl;
}
  where
    at : (t k x : ℕ) → t ≡ x → t - w.jobs ≡ k → IsMadeSo w e k (v.job x) → IsMadeSo w e (t - w.jobs) (v.job t)
    at t k x i z h = subst (λ k. IsMadeSo w e k (v.job t)) (sym z) (subst (λ x. IsMadeSo w e k (v.job x)) (sym i) h)

    by : (t : ℕ) → w.jobs ≤ t → t < v.jobs → (z : Bool) → (t == w.jobs) ≡ z → IsMadeSo w e (t - w.jobs) (v.job t)
    by t l m true z = let i : t ≡ w.jobs = eqb-true t w.jobs z in at t 0 w.jobs i (omega (arith, i)) f
    by t l m false z = let i : t ≡ w.jobs → ⊥ = λ x. (let k : (t == w.jobs) ≡ true = eq-eqb t w.jobs x in cc) in
        let n : t ≡ w.jobs + 1 = omega (arith, b, l, m, i) in at t 1 (w.jobs + 1) n (omega (arith, n)) g

no_calls : (w : World) (e : Event) (n : ℕ) → Makes w e n → w.calls ≡ w.calls + calls_made e
no_calls w e n m = let b : calls_made e ≡ 0 = m.calls in omega (arith, b)

spawned : (w : World) (q : Party) (p : ℕ) (e : Event) → Makes w e 1 → IsMadeSo w e 0 (new_job q p (Detached p)) → IfSome (after_spawn w q p (w.stack q)) (MakesSo w e)
spawned w q p e m f = if_cond (MakesSo w e) (is_free ((w.stack q).top) && is_pool w.shape p) _ (λ z. makes_one w e _ m.jobs refl (no_calls w e 1 m) (sym m.scopes) (subst (IsMadeSo w e 0) (sym (put_new w.job w.jobs (new_job q p (Detached p)))) f))

-- the first of two new jobs is not the second
first_of : (f : ℕ → Job) (n : ℕ) (j k : Job) → put (put f n j) (n + 1) k n ≡ j
first_of f n j k = put_old (put f n j) (n + 1) k n (by (n == (n + 1)) refl) ∙ put_new f n j
  where
    by : (z : Bool) → (n == (n + 1)) ≡ z → (n == (n + 1)) ≡ false
    by true z = absurd (let i : n ≡ n + 1 = eqb-true n (n + 1) z in omega (arith, i))
    by false z = z

-- a job and its token
fed : (w : World) (k : Count) (p i : ℕ) (e : Event) → Makes w e 2 → IsMadeSo w e 0 (new_job (Worker p i) p (count_kind k)) → IsMadeSo w e 1 (new_job (Worker p i) p (TokenOf i (count_book k))) → MakesSo w e (after_feed w k p i (w.stack (Worker p i)))
fed w k p i e m f g = makes_two w e (after_feed w k p i (w.stack (Worker p i))) m.jobs refl (no_calls w e 2 m) (sym m.scopes)
    (subst (IsMadeSo w e 0) (sym (first_of w.job w.jobs j t)) f) (subst (IsMadeSo w e 1) (sym (put_new (put w.job w.jobs j) (w.jobs + 1) t)) g)
  where
    j : Job
    j = new_job (Worker p i) p (count_kind k)

    t : Job
    t = new_job (Worker p i) p (TokenOf i (count_book k))

own_feeds : (p i : ℕ) → fed_jobs (Worker p i) p ≡ 2
own_feeds p i = ap (λ b. if b then 2 else 1) (eq-eqb p p refl)

fifo_makes : (w : World) (q : Party) (p : ℕ) → IfSome (after_fifo w q p (w.stack q)) (MakesSo w (Fifo q p))
fifo_makes w (Caller c) p = spawned w (Caller c) p (Fifo (Caller c) p) (record { jobs = refl; calls = refl; scopes = refl }) (record { kind = refl; pool = refl; bound = refl })
fifo_makes w (Worker r i) p = by (r == p) refl
  where
    own : ℕ → Option World
    own n = if is_free ((w.stack (Worker n i)).top) && is_pool w.shape p then Some (after_feed w (OfPool p) p i (w.stack (Worker n i))) else None

    mine : IfSome (own p) (MakesSo w (Fifo (Worker p i) p))
    mine = if_cond (MakesSo w (Fifo (Worker p i) p)) (is_free ((w.stack (Worker p i)).top) && is_pool w.shape p) _ (λ b.
        fed w (OfPool p) p i (Fifo (Worker p i) p) (record { jobs = own_feeds p i; calls = refl; scopes = refl }) (record { kind = refl; pool = refl; bound = refl }) (record { kind = refl; pool = refl; bound = refl }))

    by : (z : Bool) → (r == p) ≡ z → IfSome (if z then own r else after_spawn w (Worker r i) p (w.stack (Worker r i))) (MakesSo w (Fifo (Worker r i) p))
    by true z = subst (λ n. IfSome (own n) (MakesSo w (Fifo (Worker n i) p))) (sym (eqb-true r p z)) mine
    by false z = spawned w (Worker r i) p (Fifo (Worker r i) p) (record { jobs = ap (λ b. if b then 2 else 1) z; calls = refl; scopes = refl }) (record { kind = refl; pool = refl; bound = refl })

-- the pieces of a broadcast that waits for nothing
dealt : (w : World) (q : Party) (k : Count) (p : ℕ) (e : Event) → Makes w e (w.shape.pool p).workers → ((i : ℕ) → IsMadeSo w e i (new_piece q k p i)) → MakesSo w e (after_deal w q k p (w.stack q))
dealt w q k p e z f = record {
  jobs = ap (λ n. w.jobs + n) (sym z.jobs);
  calls = no_calls w e (w.shape.pool p).workers z;
  scopes = sym z.scopes;
  made = λ t l m. subst (IsMadeSo w e (t - w.jobs)) (sym (piece_new d (λ i j. new_piece q k p i) w.job t (piece_in d t l m))) (f (t - w.jobs));
}
  where
    d : Pieces
    d = record { count = k; pool = p; first = w.jobs; workers = (w.shape.pool p).workers }

-- an install
sent : (w : World) (q : Party) (p : ℕ) (b : Bool) → is_member q p ≡ b → MakesSo w (Install q p) (after_send w q p (w.stack q) b)
sent w q p b z = by b z
  where
    opening : Bool → ℕ
    opening b = if b then 0 else 1

    opens : (b : Bool) → is_member q p ≡ b → calls_made (Install q p) ≡ opening b
    opens b z = ap opening z

    kind : (b : Bool) → is_member q p ≡ b → (if b then Direct else Stored w.calls q) ≡ (if is_member q p then Direct else Stored w.calls q)
    kind b z = ap (λ x. if x then Direct else Stored w.calls q) (sym z)

    by : (b : Bool) → is_member q p ≡ b → MakesSo w (Install q p) (after_send w q p (w.stack q) b)
    by true z = makes_one w (Install q p) (after_send w q p (w.stack q) true) refl refl (let i : calls_made (Install q p) ≡ 0 = opens true z in omega (arith, i)) refl
        (subst (IsMadeSo w (Install q p) 0) (sym (put_new w.job w.jobs (new_job q p Direct))) (record { kind = kind true z; pool = refl; bound = refl }))
    by false z = makes_one w (Install q p) (after_send w q p (w.stack q) false) refl refl (let i : calls_made (Install q p) ≡ 1 = opens false z in omega (arith, i)) refl
        (subst (IsMadeSo w (Install q p) 0) (sym (put_new w.job w.jobs (new_job q p (Stored w.calls q)))) (record { kind = kind false z; pool = refl; bound = refl }))

join_makes : (w : World) (q : Party) → IfSome (after_join w q (w.stack q)) (MakesSo w (Join q))
join_makes w (Worker p i) = if_cond (MakesSo w (Join (Worker p i))) (is_free ((w.stack (Worker p i)).top)) _ (λ z. makes_two w (Join (Worker p i)) _ refl refl refl refl
    (subst (IsMadeSo w (Join (Worker p i)) 0) (sym (first_of w.job w.jobs a b)) (record { kind = refl; pool = refl; bound = refl }))
    (subst (IsMadeSo w (Join (Worker p i)) 1) (sym (put_new (put w.job w.jobs a) (w.jobs + 1) b)) (record { kind = refl; pool = refl; bound = refl })))
  where
    a : Job
    a = new_job (Worker p i) p Direct

    b : Job
    b = new_job (Worker p i) p (Stored w.calls (Worker p i))
join_makes w (Caller c) = tt

scope_makes : (w : World) (q : Party) (p : ℕ) → IfSome (after_scope w q p (w.stack q)) (MakesSo w (OpenScope q p))
scope_makes w q p = if_cond (MakesSo w (OpenScope q p)) (is_free ((w.stack q).top) && is_pool w.shape p) _ (λ z. makes_one w (OpenScope q p) _ refl refl refl refl
    (subst (IsMadeSo w (OpenScope q p) 0) (sym (put_new w.job w.jobs (new_job q p (BodyOf w.calls q)))) (record { kind = refl; pool = refl; bound = refl })))

-- a spawn into a scope
entered : (w : World) (q : Party) (z : Scope) (e : Event) → Makes w e 1 → IsMadeSo w e 0 (new_job q z.pool (Scoped z.call z.owner)) → IfSome (after_enter w q (w.stack q) (Some z)) (MakesSo w e)
entered w q z e m f = if_cond (MakesSo w e) (is_free ((w.stack q).top) && holds z.call (w.stack q)) _ (λ y. makes_one w e _ m.jobs refl (no_calls w e 1 m) (sym m.scopes)
    (subst (IsMadeSo w e 0) (sym (put_new w.job w.jobs (new_job q z.pool (Scoped z.call z.owner)))) f))

into_makes : (w : World) (q : Party) (n : ℕ) → IfSome (after_into w q n (w.stack q)) (MakesSo w (IntoSpawn q n))
into_makes w q n = into_cases (MakesSo w (IntoSpawn q n)) w q n (λ z i free held. entered w q z (IntoSpawn q n) (record { jobs = refl; calls = refl; scopes = refl }) (record { kind = ap scope_kind (sym i); pool = ap scope_pool (sym i); bound = refl }))

into_cast_makes : (w : World) (q : Party) (n : ℕ) → IfSome (after_into_cast w q n (w.stack q)) (MakesSo w (IntoCast q n))
into_cast_makes w q n = into_cast_cases (MakesSo w (IntoCast q n)) w q n (λ z i free held. dealt w q (OfScope z.call z.owner) z.pool (IntoCast q n)
    (record { jobs = ap (λ o. (w.shape.pool (scope_pool o)).workers) i; calls = refl; scopes = refl }) (λ k. record { kind = ap scope_kind (sym i); pool = ap scope_pool (sym i); bound = refl }))

into_fifo_makes : (w : World) (q : Party) (n : ℕ) → IfSome (after_into_fifo w q n (w.stack q)) (MakesSo w (IntoFifo q n))
into_fifo_makes w q n = by q (slice_get w.scopes n) refl
  where
    count : (q : Party) (z : Scope) (b : Bool) → slice_get w.scopes n ≡ Some z → is_member q z.pool ≡ b → jobs_made w (IntoFifo q n) ≡ (if b then 2 else 1)
    count q z b i m = ap (λ o. fed_jobs q (scope_pool o)) i ∙ ap (λ x. if x then 2 else 1) m

    plain : (q : Party) (z : Scope) → slice_get w.scopes n ≡ Some z → is_member q z.pool ≡ false → IfSome (after_enter w q (w.stack q) (Some z)) (MakesSo w (IntoFifo q n))
    plain q z i m = entered w q z (IntoFifo q n) (record { jobs = count q z false i m; calls = refl; scopes = refl }) (record { kind = ap scope_kind (sym i); pool = ap scope_pool (sym i); bound = refl })

    own : (z : Scope) (j r : ℕ) → Option World
    own z j r = if is_free ((w.stack (Worker r j)).top) && holds z.call (w.stack (Worker r j)) then Some (after_feed w (OfScope z.call z.owner) z.pool j (w.stack (Worker r j))) else None

    own_makes : (z : Scope) (j : ℕ) → slice_get w.scopes n ≡ Some z → IfSome (own z j z.pool) (MakesSo w (IntoFifo (Worker z.pool j) n))
    own_makes z j i = if_cond (MakesSo w (IntoFifo (Worker z.pool j) n)) (is_free ((w.stack (Worker z.pool j)).top) && holds z.call (w.stack (Worker z.pool j))) _ (λ b.
        fed w (OfScope z.call z.owner) z.pool j (IntoFifo (Worker z.pool j) n) (record { jobs = count (Worker z.pool j) z true i (eq-eqb z.pool z.pool refl); calls = refl; scopes = refl })
        (record { kind = ap scope_kind (sym i); pool = ap scope_pool (sym i); bound = refl }) (record { kind = ap (λ o. TokenOf j (scope_list o)) (sym i); pool = ap scope_pool (sym i); bound = refl }))

    mine : (z : Scope) (j r : ℕ) → slice_get w.scopes n ≡ Some z → (b : Bool) → (r == z.pool) ≡ b → IfSome (if b then own z j r else after_enter w (Worker r j) (w.stack (Worker r j)) (Some z)) (MakesSo w (IntoFifo (Worker r j) n))
    mine z j r i true m = subst (λ k. IfSome (own z j k) (MakesSo w (IntoFifo (Worker k j) n))) (sym (eqb-true r z.pool m)) (own_makes z j i)
    mine z j r i false m = plain (Worker r j) z i m

    by : (q : Party) (o : Option Scope) → slice_get w.scopes n ≡ o → IfSome (after_enter_fifo w q (w.stack q) o) (MakesSo w (IntoFifo q n))
    by q None i = tt
    by (Caller c) (Some z) i = plain (Caller c) z i refl
    by (Worker r j) (Some z) i = mine z j r i (r == z.pool) refl

-- a broadcast that waits
gather_makes : (w : World) (q : Party) (p : ℕ) → IfSome (after_broadcast w q p (w.stack q)) (MakesSo w (Broadcast q p))
gather_makes w q p = if_cond (MakesSo w (Broadcast q p)) (is_free ((w.stack q).top) && is_pool w.shape p) _ (λ b. record {
  jobs = omega arith;
  calls = refl;
  scopes = refl;
  made = λ t l m. by t l m (ltb t (w.jobs + n)) refl;
})
  where
    n : ℕ
    n = (w.shape.pool p).workers

    d : Pieces
    d = record { count = OfCast w.calls q; pool = p; first = w.jobs; workers = n }

    dealt : ℕ → Job
    dealt = put_pieces d (λ i j. new_piece q d.count p i) w.job

    v : World
    v = after_gather w q p (w.stack q)

    apart : (t : ℕ) → t < w.jobs + n → (t == (w.jobs + n)) ≡ false
    apart t l = elim (either (t == (w.jobs + n))) [ inl e ↦ absurd (let i : t ≡ w.jobs + n = eqb-true t (w.jobs + n) e in omega (arith, i, l)) | inr e ↦ e ]

    piece : (t : ℕ) → w.jobs ≤ t → t < w.jobs + n → IsMadeSo w (Broadcast q p) (t - w.jobs) (v.job t)
    piece t l m = let i : nat_lt (t - w.jobs) n ≡ true = lt-ltb (t - w.jobs) n (omega (arith, l, m)) in
        subst (IsMadeSo w (Broadcast q p) (t - w.jobs)) (sym (put_old dealt (w.jobs + n) (new_whole q p w.calls) t (apart t m) ∙ piece_new d (λ i j. new_piece q d.count p i) w.job t (piece_in d t l m)))
        (record { kind = ap (λ b. if b then PieceOf w.calls q else WholeOf w.calls q) (sym i); pool = refl; bound = ap (λ b. if b then Some (t - w.jobs) else None) (sym i) })

    whole : (t : ℕ) → t ≡ w.jobs + n → IsMadeSo w (Broadcast q p) (t - w.jobs) (v.job t)
    whole t i = let k : nat_lt (t - w.jobs) n ≡ false = le-ltb (t - w.jobs) n (omega (arith, i)) in
        subst (λ x. IsMadeSo w (Broadcast q p) (t - w.jobs) (v.job x)) (sym i) (subst (IsMadeSo w (Broadcast q p) (t - w.jobs)) (sym (put_new dealt (w.jobs + n) (new_whole q p w.calls)))
        (record { kind = ap (λ b. if b then PieceOf w.calls q else WholeOf w.calls q) (sym k); pool = refl; bound = ap (λ b. if b then Some (t - w.jobs) else None) (sym k) }))

    by : (t : ℕ) → w.jobs ≤ t → t < w.jobs + n + 1 → (z : Bool) → ltb t (w.jobs + n) ≡ z → IsMadeSo w (Broadcast q p) (t - w.jobs) (v.job t)
    by t l m true z = piece t l (ltb-true t (w.jobs + n) z)
    by t l m false z = whole t (let a : w.jobs + n ≤ t = ltb-false t (w.jobs + n) z in omega (arith, a, m))

-- an event that makes nothing leaves the numbers and the scopes
go_same : (w : World) (q : Party) → IfSome (step w (Go q)) (Same w)
go_same w q = acted_keeps w q (w.stack q) (target_pool q a) (target_worker q a) (target_call a) (job_at w q a) (outcome w q (w.stack q)) (Same w) (if_some_all _ (λ r. record { jobs = refl; calls = refl; scopes = refl }) (outcome w q (w.stack q)))
  where
    a : Act
    a = act_of q (w.stack q).top

choice_same : (w : World) (q : Party) (s : Stack) (x : Place) (v : ℕ) → IfSome (after_choice w q s x v) (Same w)
choice_same w q s (PickVictim k) v = if_cond (Same w) (nat_lt v (w.shape.pool (own_pool q)).workers) _ (λ b. record { jobs = refl; calls = refl; scopes = refl })
choice_same w q s YieldPick v = if_cond (Same w) (nat_lt v (w.shape.pool (own_pool q)).workers) _ (λ b. record { jobs = refl; calls = refl; scopes = refl })
choice_same w q s _ v = tt

miss_same : (w : World) (q : Party) (s : Stack) (x : Place) → IfSome (after_miss w q s x) (Same w)
miss_same w (Worker p i) s (StealFrom k n) = if_cond (Same w) (can_miss w p k.victim) _ (λ b. record { jobs = refl; calls = refl; scopes = refl })
miss_same w (Worker p i) s (YieldSteal v n) = if_cond (Same w) (can_miss w p v) _ (λ b. record { jobs = refl; calls = refl; scopes = refl })
miss_same w _ s _ = tt

end_same : (w : World) (q : Party) (d : Ending) (s : Stack) (x : Place) → IfSome (after_end w q d s x) (Same w)
end_same w q d s (Run t k) = record { jobs = refl; calls = refl; scopes = refl }
end_same w q d s _ = tt

yield_same : (w : World) (q : Party) (s : Stack) (x : Place) → IfSome (after_yield w q s x) (Same w)
yield_same w (Worker p i) s x = if_cond (Same w) (is_free s.top) _ (λ b. record { jobs = refl; calls = refl; scopes = refl })
yield_same w (Caller c) s x = tt

give_same : (w : World) (q : Party) (p : ℕ) → IfSome (step w (EndPool q p)) (Same w)
give_same w q p = if_cond (Same w) (is_free ((w.stack q).top) && (is_pool w.shape p && (w.pool p).held)) _ (λ b. record { jobs = refl; calls = refl; scopes = refl })

refuse_same : (w : World) (q : Party) → IfSome (step w (Refuse q)) (Same w)
refuse_same w q = if_cond (Same w) (is_refusable ((w.stack q).top)) _ (λ b. record { jobs = refl; calls = refl; scopes = refl })

none_all : (w : World) (e : Event) → Makes w e 0 → (o : Option World) → IfSome o (Same w) → IfSome o (MakesSo w e)
none_all w e m o h = if_some_map (Same w) (MakesSo w e) (λ v s. makes_none w e v m s) o h

step_makes : (w : World) (e : Event) → IfSome (step w e) (MakesSo w e)
step_makes w (Go q) = none_all w (Go q) (record { jobs = refl; calls = refl; scopes = refl }) (step w (Go q)) (go_same w q)
step_makes w (From q v) = none_all w (From q v) (record { jobs = refl; calls = refl; scopes = refl }) (step w (From q v)) (choice_same w q (w.stack q) ((w.stack q).top) v)
step_makes w (Refuse q) = none_all w (Refuse q) (record { jobs = refl; calls = refl; scopes = refl }) (step w (Refuse q)) (refuse_same w q)
step_makes w (Miss q) = none_all w (Miss q) (record { jobs = refl; calls = refl; scopes = refl }) (step w (Miss q)) (miss_same w q (w.stack q) ((w.stack q).top))
step_makes w (End q d) = none_all w (End q d) (record { jobs = refl; calls = refl; scopes = refl }) (step w (End q d)) (end_same w q d (w.stack q) ((w.stack q).top))
step_makes w (Spawn q p) = spawned w q p (Spawn q p) (record { jobs = refl; calls = refl; scopes = refl }) (record { kind = refl; pool = refl; bound = refl })
step_makes w (Fifo q p) = fifo_makes w q p
step_makes w (Cast q p) = if_cond (MakesSo w (Cast q p)) (is_free ((w.stack q).top) && is_pool w.shape p) _ (λ b. dealt w q (OfPool p) p (Cast q p) (record { jobs = refl; calls = refl; scopes = refl }) (λ k. record { kind = refl; pool = refl; bound = refl }))
step_makes w (Install q p) = if_cond (MakesSo w (Install q p)) (is_free ((w.stack q).top) && is_pool w.shape p) _ (λ b. sent w q p (is_member q p) refl)
step_makes w (Join q) = join_makes w q
step_makes w (OpenScope q p) = scope_makes w q p
step_makes w (IntoSpawn q n) = into_makes w q n
step_makes w (IntoFifo q n) = into_fifo_makes w q n
step_makes w (IntoCast q n) = into_cast_makes w q n
step_makes w (Broadcast q p) = gather_makes w q p
step_makes w (Yield q) = none_all w (Yield q) (record { jobs = refl; calls = refl; scopes = refl }) (step w (Yield q)) (yield_same w q (w.stack q) YieldPop)
step_makes w (YieldLocal q) = none_all w (YieldLocal q) (record { jobs = refl; calls = refl; scopes = refl }) (step w (YieldLocal q)) (yield_same w q (w.stack q) LocalPop)
step_makes w (EndPool q p) = none_all w (EndPool q p) (record { jobs = refl; calls = refl; scopes = refl }) (step w (EndPool q p)) (give_same w q p)

pub make_law : MakeLaw
make_law shape before w v e run s = let k : IfSome (Some v) (MakesSo w e) = subst (λ o. IfSome o (MakesSo w e)) s (step_makes w e) in k
