-- what the events that are no acts leave of scopes, of their jobs and of the pieces of broadcasts that wait
use Rattle.std.proofs.Common.{arith, refl, sym, ◌∙◌, ap, subst, inl, inr}
use Rattle.rayon_machine_orders.proofs.Words.{ℕ, Bool, true, false, ◌+◌, ◌-◌, ◌==◌, ◌≤◌, ◌<◌, if◌then◌else◌, Some, None, List, ◌≡◌, ◌⊎◌, slice_get, eq-eqb, ltb-true, ltb-false, ltb, Party, Worker, Ending, Detached, Stored, Direct, Scoped, BodyOf, TokenOf, PieceOf, Pieces, OfPool, OfScope}
use Rattle.rayon_machine_orders.proofs.Words.{OfCast, Place, Over, Job, Call, Scope, is_free, World, at_job, put, put_pieces, new_piece, new_job, new_call, after_feed, after_send, holds, after_deal, after_gather, new_whole, new_gathering, with_stack, Stack, JobKind, body}
use Rattle.rayon_machine_laws.specs.Shares.{is_scoped}
use Rattle.rayon_machine_laws.proofs.Frame.{either, put_same, put_new, put_old, piece_new, piece_old, piece_out, piece_in}
use Rattle.rayon_machine_laws.proofs.Located.{is_left}
use Rattle.rayon_machine_laws.proofs.PlacedEvents.{Advance, final_left}
use Rattle.rayon_machine_laws.proofs.Claims.{PartOf}
use Rattle.rayon_machine_laws.proofs.ClaimMakes.{below_new}
use Rattle.rayon_machine_laws.proofs.Owned.{added}
use Rattle.rayon_machine_orders.proofs.FilledStates.{FilledHold}
use Rattle.rayon_machine_orders.proofs.EarlyStates.{Entered, Listed, EarlyHold, holder_of, holder_gives, Steady, entered_on, listed_on, scope_pair, part_pair}
use Rattle.rayon_machine_orders.proofs.EventCases.{Cases, entered, given, joined, opened}
use Rattle.rayon_machine_laws.proofs.ClaimEvents.{ended_world}

-- what an event leaves that is no act: new jobs of scopes are known, and no share is taken or given
abbrev NewOnes : World → World → Type 0
NewOnes w u = (t : ℕ) → w.jobs ≤ t → t + 1 ≤ u.jobs → (c : ℕ) (o : Party) → (u.job t).kind ≡ Scoped c o → Entered u t c o × (1 ≤ (u.call c).count → (u.job (u.call c).job).counted ≡ true)

-- and those of broadcasts have no share yet
abbrev NewCasts : World → World → Type 0
NewCasts w u = (t : ℕ) → w.jobs ≤ t → t + 1 ≤ u.jobs → (c : ℕ) (o : Party) → (u.job t).kind ≡ PieceOf c o → ((u.call c).first ≡ None) × ((u.job t).counted ≡ false)

pub record Next (w u : World) : Type 0 where
  pub steady : Steady w u
  pub counted : (t : ℕ) → t + 1 ≤ w.jobs → (u.job t).counted ≡ (w.job t).counted
  pub count : (c : ℕ) → c + 1 ≤ w.calls → (u.call c).count ≡ (w.call c).count
  pub lists : (n : ℕ) (z : Scope) → slice_get u.scopes n ≡ Some z → (slice_get w.scopes n ≡ Some z) ⊎ Listed u z
  pub news : NewOnes w u
  pub casts : NewCasts w u

pub early_next : (w u : World) → EarlyHold w → FilledHold u → Advance w u → Next w u → EarlyHold u
early_next w u h f a n = record {
  fills = f;
  entered = λ t l c o k. entered t l c o k (ltb t w.jobs) refl;
  listed = λ i z e. elim (n.lists i z e) [ inl old ↦ listed_on w u (n.steady) z (h.listed i z old) | inr new ↦ new ];
  kept = λ t l c o k m. kept t l c o k m (ltb t w.jobs) refl;
  alone = λ t l c o k. alone t l c o k (ltb t w.jobs) refl;
  dealt = λ t l c o k m. dealt t l c o k m (ltb t w.jobs) refl;
}
  where
    below : (t : ℕ) → ltb t w.jobs ≡ true → t + 1 ≤ w.jobs
    below t y = let i : t < w.jobs = ltb-true t w.jobs y in omega (arith, i)

    was : (t : ℕ) → t + 1 ≤ w.jobs → (c : ℕ) (o : Party) → (u.job t).kind ≡ Scoped c o → (w.job t).kind ≡ Scoped c o
    was t l c o k = sym ((n.steady).kind t l) ∙ k

    entered : (t : ℕ) → t + 1 ≤ u.jobs → (c : ℕ) (o : Party) → (u.job t).kind ≡ Scoped c o → (b : Bool) → ltb t w.jobs ≡ b → Entered u t c o
    entered t l c o k true y = entered_on w u (n.steady) (λ s z. final_left ((w.job s).at) ((u.job s).at) (a.final s) z) t c o (below t y) (h.entered t (below t y) c o (was t (below t y) c o k))
    entered t l c o k false y = (n.news t (ltb-false t w.jobs y) l c o k).0

    kept : (t : ℕ) → t + 1 ≤ u.jobs → (c : ℕ) (o : Party) → (u.job t).kind ≡ Scoped c o → 1 ≤ (u.call c).count → (b : Bool) → ltb t w.jobs ≡ b → (u.job (u.call c).job).counted ≡ true
    kept t l c o k m true y =
        let e : Entered w t c o = h.entered t (below t y) c o (was t (below t y) c o k) in
        ap (λ s. (u.job s).counted) ((n.steady).target c (e.call)) ∙ n.counted ((w.call c).job) (e.made) ∙ h.kept t (below t y) c o (was t (below t y) c o k) (let v : (u.call c).count ≡ (w.call c).count = n.count c (e.call) in omega (arith, v, m))
    kept t l c o k m false y = (n.news t (ltb-false t w.jobs y) l c o k).1 m

    part : (t : ℕ) → (b : ltb t w.jobs ≡ true) (c : ℕ) (o : Party) → (u.job t).kind ≡ PieceOf c o → PartOf w t c o
    part t y c o k = (((h.fills).hold).calls).parts t (below t y) c o (sym ((n.steady).kind t (below t y)) ∙ k)

    alone : (t : ℕ) → t + 1 ≤ u.jobs → (c : ℕ) (o : Party) → (u.job t).kind ≡ PieceOf c o → (b : Bool) → ltb t w.jobs ≡ b → (u.call c).first ≡ None
    alone t l c o k true y = (n.steady).first c ((part t y c o k).number) ∙ h.alone t (below t y) c o (sym ((n.steady).kind t (below t y)) ∙ k)
    alone t l c o k false y = (n.casts t (ltb-false t w.jobs y) l c o k).0

    dealt : (t : ℕ) → t + 1 ≤ u.jobs → (c : ℕ) (o : Party) → (u.job t).kind ≡ PieceOf c o → (u.job t).counted ≡ true → (b : Bool) → ltb t w.jobs ≡ b → (u.job (u.call c).job).counted ≡ true
    dealt t l c o k m true y =
        let e : PartOf w t c o = part t y c o k in
        ap (λ s. (u.job s).counted) ((n.steady).target c (e.number)) ∙ n.counted ((w.call c).job) (e.made) ∙ h.dealt t (below t y) c o (sym ((n.steady).kind t (below t y)) ∙ k) (sym (n.counted t (below t y)) ∙ m)
    dealt t l c o k m false y = absurd (let a : true ≡ false = sym m ∙ (n.casts t (ltb-false t w.jobs y) l c o k).1 in cc)

none_new : (w u : World) → u.jobs ≤ w.jobs → NewOnes w u
none_new w u b = λ t a l c o k. absurd (omega (arith, a, l, b))

none_cast : (w u : World) → u.jobs ≤ w.jobs → NewCasts w u
none_cast w u b = λ t a l c o k. absurd (omega (arith, a, l, b))

unscoped_cast : (w u : World) → ((t : ℕ) → w.jobs ≤ t → t + 1 ≤ u.jobs → is_scoped (u.job t).kind ≡ false) → NewCasts w u
unscoped_cast w u f = λ t a l c o k. absurd (let e : true ≡ false = sym (ap is_scoped k) ∙ f t a l in cc)

unscoped_new : (w u : World) → ((t : ℕ) → w.jobs ≤ t → t + 1 ≤ u.jobs → is_scoped (u.job t).kind ≡ false) → NewOnes w u
unscoped_new w u f = λ t a l c o k. absurd (let e : true ≡ false = sym (ap is_scoped k) ∙ f t a l in cc)

alike : (w u : World) → w.jobs ≤ u.jobs → w.calls ≤ u.calls → ((t : ℕ) → t + 1 ≤ w.jobs → u.job t ≡ w.job t) → ((c : ℕ) → c + 1 ≤ w.calls → u.call c ≡ w.call c) → ((n : ℕ) (z : Scope) → slice_get u.scopes n ≡ Some z → (slice_get w.scopes n ≡ Some z) ⊎ Listed u z) → NewOnes w u
    → NewCasts w u → Next w u
alike w u a b j i l n d = record {
  steady = record { jobs = a; calls = b; kind = λ t m. ap (λ v. v.kind) (j t m); pool = λ t m. ap (λ v. v.pool) (j t m); target = λ c m. ap (λ v. v.job) (i c m); first = λ c m. ap (λ v. v.first) (i c m) };
  counted = λ t m. ap (λ v. v.counted) (j t m);
  count = λ c m. ap (λ v. v.count) (i c m);
  lists = l;
  news = n;
  casts = d;
}

quiet_next : (w u : World) → u.jobs ≤ w.jobs → w.jobs ≤ u.jobs → w.calls ≤ u.calls → ((t : ℕ) → t + 1 ≤ w.jobs → u.job t ≡ w.job t) → ((c : ℕ) → c + 1 ≤ w.calls → u.call c ≡ w.call c) → ((n : ℕ) (z : Scope) → slice_get u.scopes n ≡ Some z → (slice_get w.scopes n ≡ Some z) ⊎ Listed u z) → Next w u
quiet_next w u d a b j i l = alike w u a b j i l (none_new w u d) (none_cast w u d)

plain_next : (w u : World) → w.jobs ≤ u.jobs → w.calls ≤ u.calls → ((t : ℕ) → t + 1 ≤ w.jobs → u.job t ≡ w.job t) → ((c : ℕ) → c + 1 ≤ w.calls → u.call c ≡ w.call c) → ((n : ℕ) (z : Scope) → slice_get u.scopes n ≡ Some z → (slice_get w.scopes n ≡ Some z) ⊎ Listed u z)
    → ((t : ℕ) → w.jobs ≤ t → t + 1 ≤ u.jobs → is_scoped (u.job t).kind ≡ false) → Next w u
plain_next w u a b j i l f = alike w u a b j i l (unscoped_new w u f) (unscoped_cast w u f)

old_job : (w : World) (v : Job) (t : ℕ) → t + 1 ≤ w.jobs → put w.job w.jobs v t ≡ w.job t
old_job w v t l = put_old w.job w.jobs v t (below_new t w.jobs l)

old_call : (w : World) (v : Call) (c : ℕ) → c + 1 ≤ w.calls → put w.call w.calls v c ≡ w.call c
old_call w v c l = put_old w.call w.calls v c (below_new c w.calls l)

new_one : (w : World) (v : Job) (t : ℕ) → w.jobs ≤ t → t + 1 ≤ w.jobs + 1 → put w.job w.jobs v t ≡ v
new_one w v t a l = let i : t ≡ w.jobs = omega (arith, a, l) in subst (λ n. put w.job w.jobs v n ≡ v) (sym i) (put_new w.job w.jobs v)

old_two : (w : World) (a b : Job) (t : ℕ) → t + 1 ≤ w.jobs → put (put w.job w.jobs a) (w.jobs + 1) b t ≡ w.job t
old_two w a b t l = put_old (put w.job w.jobs a) (w.jobs + 1) b t (below_new t (w.jobs + 1) (omega (arith, l))) ∙ old_job w a t l

new_two : (w : World) (a b : Job) → is_scoped a.kind ≡ false → is_scoped b.kind ≡ false → (t : ℕ) → w.jobs ≤ t → t + 1 ≤ w.jobs + 2 → is_scoped (put (put w.job w.jobs a) (w.jobs + 1) b t).kind ≡ false
new_two w a b x y t m l = by (t == (w.jobs + 1)) (t == w.jobs) refl refl
  where
    by : (c d : Bool) → (t == (w.jobs + 1)) ≡ c → (t == w.jobs) ≡ d → is_scoped (if c then b else (if d then a else w.job t)).kind ≡ false
    by true d e f = y
    by false true e f = x
    by false false e f = elim (either (ltb t (w.jobs + 1))) [
      | inl g ↦ absurd (let i : t < w.jobs + 1 = ltb-true t (w.jobs + 1) g in let k : (t == w.jobs) ≡ true = eq-eqb t w.jobs (omega (arith, i, m)) in cc)
      | inr g ↦ absurd (let i : w.jobs + 1 ≤ t = ltb-false t (w.jobs + 1) g in let k : (t == (w.jobs + 1)) ≡ true = eq-eqb t (w.jobs + 1) (omega (arith, i, l)) in cc)
    ]

-- the events
end_next : (w : World) (q : Party) (d : Ending) (t : ℕ) (k : JobKind) (fs : List Place) → Next w (ended_world w q d t k fs)
end_next w q d t k fs = record {
  steady = record { jobs = omega arith; calls = omega arith; kind = λ s l. put_same (λ j. j.kind) w.job t (at_job (w.job t) (Over d)) s refl; pool = λ s l. put_same (λ j. j.pool) w.job t (at_job (w.job t) (Over d)) s refl; target = λ c l. refl; first = λ c l. refl };
  counted = λ s l. put_same (λ j. j.counted) w.job t (at_job (w.job t) (Over d)) s refl;
  count = λ c l. refl;
  lists = λ n z e. inl e;
  news = none_new w (ended_world w q d t k fs) (omega arith);
  casts = none_cast w (ended_world w q d t k fs) (omega arith);
}

-- detached jobs in order, and pieces
pool_feed : (w : World) (p i : ℕ) → Next w (after_feed w (OfPool p) p i (w.stack (Worker p i)))
pool_feed w p i = plain_next w (after_feed w (OfPool p) p i (w.stack (Worker p i))) (omega arith) (omega arith) (old_two w (new_job (Worker p i) p (Detached p)) (new_job (Worker p i) p (TokenOf i None))) (λ c l. refl) (λ n z e. inl e)
    ((new_two w (new_job (Worker p i) p (Detached p)) (new_job (Worker p i) p (TokenOf i None)) refl refl))

cast_next : (w : World) (q : Party) (p : ℕ) → Next w (after_deal w q (OfPool p) p (w.stack q))
cast_next w q p = plain_next w (after_deal w q (OfPool p) p (w.stack q)) (omega arith) (omega arith) (λ t l. piece_old b (λ i j. new_piece q (OfPool p) p i) w.job t (piece_out b t (omega (arith, l)))) (λ c l. refl)
    (λ n z e. inl e) (λ t a l. ap (λ j. is_scoped j.kind) (piece_new b (λ i j. new_piece q (OfPool p) p i) w.job t (piece_in b t a (omega (arith, l)))))
  where
    b : Pieces
    b = record { count = OfPool p; pool = p; first = w.jobs; workers = (w.shape.pool p).workers }

sent_next : (w : World) (q : Party) (p : ℕ) (b : Bool) → Next w (after_send w q p (w.stack q) b)
sent_next w q p true = plain_next w (after_send w q p (w.stack q) true) (omega arith) (omega arith) (old_job w (new_job q p Direct)) (λ c l. refl) (λ n z e. inl e) ((λ t a l. ap (λ j. is_scoped j.kind) (new_one w (new_job q p Direct) t a l)))
sent_next w q p false = plain_next w (after_send w q p (w.stack q) false) (omega arith) (omega arith) (old_job w (new_job q p (Stored w.calls q))) (old_call w (new_call None w.jobs)) (λ n z e. inl e) ((λ t a l. ap (λ j. is_scoped j.kind) (new_one w (new_job q p (Stored w.calls q)) t a l)))

join_next : (w : World) (p i : ℕ) → Next w (joined w p i)
join_next w p i = plain_next w (joined w p i) (omega arith) (omega arith) (old_two w (new_job (Worker p i) p Direct) (new_job (Worker p i) p (Stored w.calls (Worker p i)))) (old_call w (new_call (Some w.jobs) (w.jobs + 1))) (λ n z e. inl e)
    (new_two w (new_job (Worker p i) p Direct) (new_job (Worker p i) p (Stored w.calls (Worker p i))) refl refl)

scope_next : (w : World) (q : Party) (p : ℕ) → Next w (opened w q p)
scope_next w q p = plain_next w (opened w q p) (omega arith) (omega arith) (old_job w (new_job q p (BodyOf w.calls q))) (old_call w (new_call None w.jobs)) (λ n z e. elim (added w.scopes s n z e) [ inl old ↦ inl old | inr now ↦ inr (subst (Listed (opened w q p)) now mine) ])
    (λ t a l. ap (λ j. is_scoped j.kind) (new_one w (new_job q p (BodyOf w.calls q)) t a l))
  where
    s : Scope
    s = record { call = w.calls; pool = p; owner = q }

    target : ((opened w q p).call w.calls).job ≡ w.jobs
    target = ap (λ c. c.job) (put_new w.call w.calls (new_call None w.jobs))

    mine : Listed (opened w q p) s
    mine = record {
      call = omega arith;
      made = subst (λ n. n + 1 ≤ w.jobs + 1) (sym target) (omega arith);
      body = ap (λ n. ((opened w q p).job n).kind) target ∙ ap (λ j. j.kind) (put_new w.job w.jobs (new_job q p (BodyOf w.calls q)));
      pool = sym (ap (λ n. ((opened w q p).job n).pool) target ∙ ap (λ j. j.pool) (put_new w.job w.jobs (new_job q p (BodyOf w.calls q))));
    }

-- what is known of the scope that a party holds
abbrev Given : World → Scope → Type 0
Given w z = ((w.call z.call).first ≡ None) × (is_left (w.job (w.call z.call).job).at ≡ true) × (1 ≤ (w.call z.call).count → (w.job (w.call z.call).job).counted ≡ true)

held_gives : (w : World) (q : Party) (n : ℕ) (z : Scope) → EarlyHold w → is_free ((w.stack q).top) ≡ true → holds z.call (w.stack q) ≡ true → Given w z
held_gives w q n z h free held = holder_gives w q (z.call) h (holder_of w q (z.call) (((h.fills).hold).calls) ((h.fills).frames) free held)

-- new jobs, each of this scope and its pool, or of none
entering : (w u : World) (z : Scope) → Listed w z → Given w z → w.jobs ≤ u.jobs → w.calls ≤ u.calls → ((t : ℕ) → t + 1 ≤ w.jobs → u.job t ≡ w.job t) → ((c : ℕ) → c + 1 ≤ w.calls → u.call c ≡ w.call c)
    → ((n : ℕ) (z : Scope) → slice_get u.scopes n ≡ Some z → (slice_get w.scopes n ≡ Some z) ⊎ Listed u z) → ((t : ℕ) → w.jobs ≤ t → t + 1 ≤ u.jobs → (is_scoped (u.job t).kind ≡ false) ⊎ (((u.job t).kind ≡ Scoped z.call z.owner) × ((u.job t).pool ≡ z.pool))) → Next w u
entering w u z y g a b j i l f = alike w u a b j i l news (λ t m k c o e. elim (f t m k) [
  | inl v ↦ absurd (let x : true ≡ false = sym (ap is_scoped e) ∙ v in cc)
  | inr v ↦ absurd (let x : Scoped z.call z.owner ≡ PieceOf c o = sym (v.0) ∙ e in cc)
])
  where
    call : u.call z.call ≡ w.call z.call
    call = i (z.call) (y.call)

    old : u.job ((w.call z.call).job) ≡ w.job ((w.call z.call).job)
    old = j ((w.call z.call).job) (y.made)

    mine : (t : ℕ) → (u.job t).pool ≡ z.pool → Entered u t (z.call) (z.owner)
    mine t v = record {
      call = (let d : z.call + 1 ≤ w.calls = y.call in omega (arith, d, b));
      made = subst (λ n. n.job + 1 ≤ u.jobs) (sym call) (let d : (w.call z.call).job + 1 ≤ w.jobs = y.made in omega (arith, d, a));
      body = ap (λ n. (u.job (n.job)).kind) call ∙ ap (λ v. v.kind) old ∙ y.body;
      first = ap (λ n. n.first) call ∙ g.0;
      pool = v ∙ y.pool ∙ sym (ap (λ n. (u.job (n.job)).pool) call ∙ ap (λ v. v.pool) old);
      left = ap (λ n. is_left (u.job (n.job)).at) call ∙ ap (λ v. is_left v.at) old ∙ g.1;
    }

    keeps : 1 ≤ (u.call z.call).count → (u.job (u.call z.call).job).counted ≡ true
    keeps m = ap (λ n. (u.job (n.job)).counted) call ∙ ap (λ v. v.counted) old ∙ g.2 (let d : (u.call z.call).count ≡ (w.call z.call).count = ap (λ n. n.count) call in omega (arith, d, m))

    news : NewOnes w u
    news t m k c o e = elim (f t m k) [
      | inl v ↦ absurd (let x : true ≡ false = sym (ap is_scoped e) ∙ v in cc)
      | inr v ↦ (let p : (z.call, z.owner) ≡ (c, o) = ap scope_pair (sym (v.0) ∙ e) in subst (λ b. Entered u t (b.0) (b.1) × (1 ≤ (u.call (b.0)).count → (u.job (u.call (b.0)).job).counted ≡ true)) p (mine t (v.1), keeps))
    ]

enter_next : (w : World) (q : Party) (z : Scope) → Listed w z → Given w z → Next w (entered w q z)
enter_next w q z y g = entering w (entered w q z) z y g (omega arith) (omega arith) (old_job w v) (λ c l. refl) (λ n z e. inl e) (λ t a l. inr (ap (λ j. j.kind) (new_one w v t a l), ap (λ j. j.pool) (new_one w v t a l)))
  where
    v : Job
    v = new_job q z.pool (Scoped z.call z.owner)

scope_feed : (w : World) (z : Scope) (i : ℕ) → Listed w z → Given w z → Next w (after_feed w (OfScope z.call z.owner) z.pool i (w.stack (Worker z.pool i)))
scope_feed w z i y g = entering w (after_feed w (OfScope z.call z.owner) z.pool i (w.stack (Worker z.pool i))) z y g (omega arith) (omega arith) (old_two w a b) (λ c l. refl) (λ n z e. inl e) (λ t m l. by t m l (t == (w.jobs + 1)) refl)
  where
    a : Job
    a = new_job (Worker z.pool i) z.pool (Scoped z.call z.owner)

    b : Job
    b = new_job (Worker z.pool i) z.pool (TokenOf i (Some z.call))

    near : (t : ℕ) → (t == (w.jobs + 1)) ≡ false → w.jobs ≤ t → t + 1 ≤ w.jobs + 2 → t + 1 ≤ w.jobs + 1
    near t e m l = elim (either (ltb t (w.jobs + 1))) [
      | inl g ↦ (let i : t < w.jobs + 1 = ltb-true t (w.jobs + 1) g in omega (arith, i))
      | inr g ↦ absurd (let i : w.jobs + 1 ≤ t = ltb-false t (w.jobs + 1) g in let k : (t == (w.jobs + 1)) ≡ true = eq-eqb t (w.jobs + 1) (omega (arith, i, l)) in let x : true ≡ false = sym k ∙ e in cc)
    ]

    by : (t : ℕ) → w.jobs ≤ t → t + 1 ≤ w.jobs + 2 → (c : Bool) → (t == (w.jobs + 1)) ≡ c → (is_scoped ((if c then b else put w.job w.jobs a t).kind) ≡ false) ⊎ (((if c then b else put w.job w.jobs a t).kind ≡ Scoped z.call z.owner) × ((if c then b else put w.job w.jobs a t).pool ≡ z.pool))
    by t m l true e = inl refl
    by t m l false e = inr (ap (λ j. j.kind) (new_one w a t m (near t e m l)), ap (λ j. j.pool) (new_one w a t m (near t e m l)))

scope_deal : (w : World) (q : Party) (z : Scope) → Listed w z → Given w z → Next w (after_deal w q (OfScope z.call z.owner) z.pool (w.stack q))
scope_deal w q z y g = entering w (after_deal w q (OfScope z.call z.owner) z.pool (w.stack q)) z y g (omega arith) (omega arith) (λ t l. piece_old b (λ i j. new_piece q (OfScope z.call z.owner) z.pool i) w.job t (piece_out b t (omega (arith, l)))) (λ c l. refl) (λ n z e. inl e)
    (λ t a l. inr (ap (λ j. j.kind) (piece_new b (λ i j. new_piece q (OfScope z.call z.owner) z.pool i) w.job t (piece_in b t a (omega (arith, l)))), ap (λ j. j.pool) (piece_new b (λ i j. new_piece q (OfScope z.call z.owner) z.pool i) w.job t (piece_in b t a (omega (arith, l))))))
  where
    b : Pieces
    b = record { count = OfScope z.call z.owner; pool = z.pool; first = w.jobs; workers = (w.shape.pool z.pool).workers }

-- a broadcast that waits: its pieces are new, and so is its call
gather_next : (w : World) (q : Party) (p : ℕ) → Next w (after_gather w q p (w.stack q))
gather_next w q p = alike w (after_gather w q p (w.stack q)) (omega arith) (omega arith) (λ t l. put_old J1 t0 v t (below_new t t0 (omega (arith, l))) ∙ piece_old b (λ i j. new_piece q (OfCast w.calls q) p i) w.job t (piece_out b t (omega (arith, l)))) (old_call w (new_gathering n t0))
    (λ n z e. inl e)
    (λ t a l c o k. absurd (unscoped t a l c o (t == t0) refl k)) (λ t a l c o k. casts t a l c o (t == t0) refl k)
  where
    n : ℕ
    n = (w.shape.pool p).workers

    b : Pieces
    b = record { count = OfCast w.calls q; pool = p; first = w.jobs; workers = n }

    t0 : ℕ
    t0 = w.jobs + n

    J1 : ℕ → Job
    J1 = put_pieces b (λ i j. new_piece q (OfCast w.calls q) p i) w.job

    v : Job
    v = new_whole q p w.calls

    near : (t : ℕ) → (t == t0) ≡ false → t + 1 ≤ t0 + 1 → t + 1 ≤ t0
    near t e l = elim (either (ltb t t0)) [
      | inl g ↦ (let i : t < t0 = ltb-true t t0 g in omega (arith, i))
      | inr g ↦ absurd (let i : t0 ≤ t = ltb-false t t0 g in let k : (t == t0) ≡ true = eq-eqb t t0 (omega (arith, i, l)) in let x : true ≡ false = sym k ∙ e in cc)
    ]

    piece : (t : ℕ) → w.jobs ≤ t → t + 1 ≤ t0 → J1 t ≡ new_piece q (OfCast w.calls q) p (t - w.jobs)
    piece t a l = piece_new b (λ i j. new_piece q (OfCast w.calls q) p i) w.job t (piece_in b t a (omega (arith, l)))

    unscoped : (t : ℕ) → w.jobs ≤ t → t + 1 ≤ t0 + 1 → (c : ℕ) (o : Party) (d : Bool) → (t == t0) ≡ d → (if d then v else J1 t).kind ≡ Scoped c o → ⊥
    unscoped t a l c o true e k = cc
    unscoped t a l c o false e k = let x : PieceOf w.calls q ≡ Scoped c o = sym (ap (λ j. j.kind) (piece t a (near t e l))) ∙ k in cc

    casts : (t : ℕ) → w.jobs ≤ t → t + 1 ≤ t0 + 1 → (c : ℕ) (o : Party) (d : Bool) → (t == t0) ≡ d → (if d then v else J1 t).kind ≡ PieceOf c o → ((put w.call w.calls (new_gathering n t0) c).first ≡ None) × ((if d then v else J1 t).counted ≡ false)
    casts t a l c o true e k = absurd (cc)
    casts t a l c o false e k = (
      subst (λ i. (put w.call w.calls (new_gathering n t0) i).first ≡ None) (let x : (w.calls, q) ≡ (c, o) = ap part_pair (sym (ap (λ j. j.kind) (piece t a (near t e l))) ∙ k) in ap (λ i. i.0) x) (ap (λ i. i.first) (put_new w.call w.calls (new_gathering n t0))),
      ap (λ j. j.counted) (piece t a (near t e l)),
    )

quiet : (w : World) (q : Party) (s : Stack) → Next w (with_stack w q s)
quiet w q s = quiet_next w (with_stack w q s) (omega arith) (omega arith) (omega arith) (λ t l. refl) (λ c l. refl) (λ n z e. inl e)

pub early_cases : (w : World) → EarlyHold w → Cases w (Next w)
early_cases w h = record {
  picks = λ q k fs v z. quiet w q _;
  yield_picks = λ q fs v z. quiet w q _;
  misses = λ q k n fs z. quiet w q _;
  yield_misses = λ q v n fs z. quiet w q _;
  refuses = λ q x fs z e. quiet w q _;
  ends = λ q d t k fs z. end_next w q d t k fs;
  spawns = λ q p f. plain_next w _ (omega arith) (omega arith) (old_job w (new_job q p (Detached p))) (λ c l. refl) (λ n z e. inl e) (λ t a l. ap (λ j. is_scoped j.kind) (new_one w (new_job q p (Detached p)) t a l));
  feeds = λ p i f. pool_feed w p i;
  deals = λ q p f. cast_next w q p;
  sends = λ q p b f. sent_next w q p b;
  joins = λ p i f. join_next w p i;
  opens = λ q p f. scope_next w q p;
  gathers = λ q p f. gather_next w q p;
  enters = λ q n z f. enter_next w q z (h.listed n z (f.0)) (held_gives w q n z h (f.1) (f.2));
  feeds_in = λ i n z f. scope_feed w z i (h.listed n z (f.0)) (held_gives w (Worker z.pool i) n z h (f.1) (f.2));
  deals_in = λ q n z f. scope_deal w q z (h.listed n z (f.0)) (held_gives w q n z h (f.1) (f.2));
  yields = λ p i x y f. quiet w (Worker p i) _;
  gives = λ q p f. quiet_next w (given w q p) (omega arith) (omega arith) (omega arith) (λ t l. refl) (λ c l. refl) (λ n z e. inl e);
}
