-- what is said of scopes and of their jobs in every world, and who holds a scope
--
-- A job of a scope is at the pool of the scope's body, which has left its call.
use Rattle.std.proofs.Common.{arith, refl, sym, ◌∙◌, ap, subst, inl, inr}
use Rattle.rayon_machine_orders.proofs.Words.{ℕ, Bool, true, false, ◌||◌, ◌+◌, ◌==◌, ◌≤◌, Option, Some, None, List, [], ◌∷◌, ◌≡◌, ◌⊎◌, slice_get, eqb-true, eq-eqb, Party, Caller, JobKind, Direct, Scoped, BodyOf, TokenOf, PieceOf, WholeOf, OpenCall, Place, Run, ScopeBody, Free, Scope, is_free}
use Rattle.rayon_machine_orders.proofs.Words.{holds_scope, World, holds, holds_in, one, run_of, runs_in, share, shares_in, shares}
use Rattle.rayon_machine_laws.proofs.Ties.{AllFrames}
use Rattle.rayon_machine_laws.proofs.Tops.{FramesOk}
use Rattle.rayon_machine_laws.proofs.Seats.{is_frame}
use Rattle.rayon_machine_laws.proofs.Hands.{worked}
use Rattle.rayon_machine_laws.proofs.Located.{loc_at, is_loc, where_is, at_work, Work, is_left}
use Rattle.rayon_machine_laws.proofs.PlacedRuns.{JobsHold}
use Rattle.rayon_machine_laws.proofs.Claims.{Opened, FirstEnds, Says, AllSay, Link, Linked, here}
use Rattle.rayon_machine_laws.proofs.ClaimRuns.{CallsHold}
use Rattle.rayon_machine_laws.proofs.ShareActs.{with_job, one_is}
use Rattle.rayon_machine_laws.proofs.ShareSteps.{self_one}
use Rattle.rayon_machine_orders.proofs.FilledStates.{FilledHold}

-- a job of a scope: the scope's body has left its call, and is at the pool of the job
pub record Entered (w : World) (t c : ℕ) (o : Party) : Type 0 where
  pub call : c + 1 ≤ w.calls
  pub made : (w.call c).job + 1 ≤ w.jobs
  pub body : (w.job (w.call c).job).kind ≡ BodyOf c o
  pub first : (w.call c).first ≡ None
  pub pool : (w.job t).pool ≡ (w.job (w.call c).job).pool
  pub left : is_left (w.job (w.call c).job).at ≡ true

-- a scope of the list
pub record Listed (w : World) (z : Scope) : Type 0 where
  pub call : z.call + 1 ≤ w.calls
  pub made : (w.call z.call).job + 1 ≤ w.jobs
  pub body : (w.job (w.call z.call).job).kind ≡ BodyOf z.call z.owner
  pub pool : z.pool ≡ (w.job (w.call z.call).job).pool

-- where a scope has jobs and its count is not 0, its body has its share of the pool's count; and where a piece of a
-- broadcast that waits has a share, what stands for the broadcast has one
pub record EarlyHold (w : World) : Type 0 where
  pub fills : FilledHold w
  pub entered : (t : ℕ) → t + 1 ≤ w.jobs → (c : ℕ) (o : Party) → (w.job t).kind ≡ Scoped c o → Entered w t c o
  pub listed : (n : ℕ) (z : Scope) → slice_get w.scopes n ≡ Some z → Listed w z
  pub kept : (t : ℕ) → t + 1 ≤ w.jobs → (c : ℕ) (o : Party) → (w.job t).kind ≡ Scoped c o → 1 ≤ (w.call c).count → (w.job (w.call c).job).counted ≡ true
  pub alone : (t : ℕ) → t + 1 ≤ w.jobs → (c : ℕ) (o : Party) → (w.job t).kind ≡ PieceOf c o → (w.call c).first ≡ None
  pub dealt : (t : ℕ) → t + 1 ≤ w.jobs → (c : ℕ) (o : Party) → (w.job t).kind ≡ PieceOf c o → (w.job t).counted ≡ true → (w.job (w.call c).job).counted ≡ true

-- who holds a scope: who runs its body, or a job of it
pub record Runs (w : World) (q : Party) (c : ℕ) : Type 0 where
  pub opened : OpenCall
  pub number : opened.number ≡ c
  pub says : Opened w q opened
  pub first : (w.call opened.number).first ≡ None
  pub has : 1 ≤ shares (opened.job) (w.stack q)
  pub left : is_left (w.job opened.job).at ≡ true

pub record Works (w : World) (c : ℕ) : Type 0 where
  pub job : ℕ
  pub owner : Party
  pub made : job + 1 ≤ w.jobs
  pub kind : (w.job job).kind ≡ Scoped c owner

abbrev Holder : World → Party → ℕ → Type 0
Holder w q c = Runs w q c ⊎ Works w c

first_none : (w : World) (a : Option ℕ) → FirstEnds w a None → a ≡ None
first_none w None s = refl
first_none w (Some a) s = absurd s

-- what runs under a run has begun
run_left : (w : World) (q : Party) (t : ℕ) → JobsHold w → 1 ≤ worked t (w.stack q) → is_left (w.job t).at ≡ true
run_left w q t h m = ap is_left ((at_work ((w.job t).at) ((w.job t).runs) q (where_is (Work q) (loc_at (w.job t)) (let a : worked t (w.stack q) ≡ is_loc (Work q) (loc_at (w.job t)) = ((h.ok).placed) (Work q) t in omega (arith, a, m)))).1)

frame_left : (w : World) (q : Party) (f : Place) → JobsHold w → is_frame f ≡ true → ((t : ℕ) → run_of t f ≤ worked t (w.stack q)) → (t : ℕ) → here f ≡ Some t → is_left (w.job t).at ≡ true
frame_left w q (Run u Direct) h z m t e = let i : u ≡ t = cc in run_left w q t h (let a : run_of t (Run u Direct) ≤ worked t (w.stack q) = m t in let b : one (t == u) ≡ 1 = ap one (eq-eqb t u (sym i)) in omega (arith, a, b))
frame_left w q (Run u (TokenOf j b8)) h z m t e = let i : u ≡ t = cc in run_left w q t h (let a : run_of t (Run u (TokenOf j b8)) ≤ worked t (w.stack q) = m t in let b : one (t == u) ≡ 1 = ap one (eq-eqb t u (sym i)) in omega (arith, a, b))
frame_left w q (Run u (BodyOf c o)) h z m t e = let i : u ≡ t = cc in run_left w q t h (let a : run_of t (Run u (BodyOf c o)) ≤ worked t (w.stack q) = m t in let b : one (t == u) ≡ 1 = ap one (eq-eqb t u (sym i)) in omega (arith, a, b))
frame_left w q (Run u (WholeOf c o)) h z m t e = let i : u ≡ t = cc in run_left w q t h (let a : run_of t (Run u (WholeOf c o)) ≤ worked t (w.stack q) = m t in let b : one (t == u) ≡ 1 = ap one (eq-eqb t u (sym i)) in omega (arith, a, b))
frame_left w q _ h z m t e = cc

held_at : (w : World) (q : Party) (c : ℕ) (x f : Place) → ((t : ℕ) → here x ≡ Some t → is_left (w.job t).at ≡ true) → Link f x → Says w q f → ((t : ℕ) → share t f ≤ shares t (w.stack q)) → holds_scope c f ≡ true → Holder w q c
held_at w q c x (ScopeBody o) up k s m z = inl (record {
  opened = o;
  number = eqb-true (o.number) c z;
  says = s.0;
  first = first_none w ((w.call o.number).first) (s.1);
  has = (let a : share (o.job) (ScopeBody o) ≤ shares (o.job) (w.stack q) = m (o.job) in let b : one (o.job == o.job) ≡ 1 = self_one (o.job) in omega (arith, a, b));
  left = up (o.job) (k (o.job) refl);
})
held_at w q c x (Run t (Scoped d o)) up k s m z = inr (record { job = t; owner = o; made = s.0; kind = s.1 ∙ ap (λ n. Scoped n o) (eqb-true d c z) })
held_at w q c x _ up k s m z = cc

-- of two, one holds
held_or : (w : World) (q : Party) (c : ℕ) (f : Place) (fs : List Place) → (holds_scope c f ≡ true → Holder w q c) → (holds_in c fs ≡ true → Holder w q c) → (holds_scope c f || holds_in c fs) ≡ true → (b : Bool) → holds_scope c f ≡ b → Holder w q c
held_or w q c f fs g h y true z = g z
held_or w q c f fs g h y false z = h (ap (λ b. b || holds_in c fs) (sym z) ∙ y)

held_below : (w : World) (q : Party) (c : ℕ) (x : Place) (fs : List Place) → JobsHold w → ((t : ℕ) → here x ≡ Some t → is_left (w.job t).at ≡ true) → Linked x fs → AllSay w q fs → AllFrames fs → ((t : ℕ) → shares_in t fs ≤ shares t (w.stack q))
    → ((t : ℕ) → runs_in t fs ≤ worked t (w.stack q)) → holds_in c fs ≡ true → Holder w q c
held_below w q c x [] j up k a fr s r y = cc
held_below w q c x (f ∷ fs) j up k a fr s r y = held_or w q c f fs
    (λ z. held_at w q c x f up (k.0) (a.0) (λ t. (let b : share t f + shares_in t fs ≤ shares t (w.stack q) = s t in omega (arith, b))) z)
    (λ z. held_below w q c f fs j (frame_left w q f j (fr.0) (λ t. (let b : run_of t f + runs_in t fs ≤ worked t (w.stack q) = r t in omega (arith, b)))) (k.1) (a.1) (fr.1)
    (λ t. (let b : share t f + shares_in t fs ≤ shares t (w.stack q) = s t in omega (arith, b))) (λ t. (let b : run_of t f + runs_in t fs ≤ worked t (w.stack q) = r t in omega (arith, b))) z)
    y (holds_scope c f) refl

free_frame : (x : Place) → is_free x ≡ true → is_frame x ≡ true
free_frame (Run t k) e = refl
free_frame Free e = refl
free_frame _ e = cc

top_held : (w : World) (q : Party) (c : ℕ) (x : Place) → is_free x ≡ true → Says w q x → holds_scope c x ≡ true → Holder w q c
top_held w q c (Run t (Scoped d o)) e s z = inr (record { job = t; owner = o; made = s.0; kind = s.1 ∙ ap (λ n. Scoped n o) (eqb-true d c z) })
top_held w q c _ e s z = cc

pub holder_of : (w : World) (q : Party) (c : ℕ) → CallsHold w → FramesOk w → is_free ((w.stack q).top) ≡ true → holds c (w.stack q) ≡ true → Holder w q c
holder_of w q c h fr free y = by (holds_scope c ((w.stack q).top)) refl
  where
    by : (b : Bool) → holds_scope c ((w.stack q).top) ≡ b → Holder w q c
    by true z = top_held w q c ((w.stack q).top) free ((h.says q).top) z
    by false z = held_below w q c ((w.stack q).top) ((w.stack q).below) (h.jobs)
        (frame_left w q ((w.stack q).top) (h.jobs) (free_frame ((w.stack q).top) free) (λ t. (let a : worked t (w.stack q) ≡ (run_of t ((w.stack q).top) + runs_in t ((w.stack q).below)) = refl in omega (arith, a))))
        ((h.says q).links) ((h.says q).below) (fr q)
        (λ t. (let a : shares t (w.stack q) ≡ (share t ((w.stack q).top) + shares_in t ((w.stack q).below)) = refl in omega (arith, a)))
        (λ t. (let a : worked t (w.stack q) ≡ (run_of t ((w.stack q).top) + runs_in t ((w.stack q).below)) = refl in omega (arith, a)))
        (ap (λ b. b || holds_in c ((w.stack q).below)) (sym z) ∙ y)

-- what the body of a scope is that somebody holds
pub holder_gives : (w : World) (q : Party) (c : ℕ) → EarlyHold w → Holder w q c → ((w.call c).first ≡ None) × (is_left (w.job (w.call c).job).at ≡ true) × (1 ≤ (w.call c).count → (w.job (w.call c).job).counted ≡ true)
holder_gives w q c h (inr s) = let e : Entered w s.job c s.owner = h.entered s.job s.made c s.owner s.kind in (e.first, e.left, h.kept s.job s.made c s.owner s.kind)
holder_gives w q c h (inl s) = (
  ap (λ n. (w.call n).first) (sym s.number) ∙ s.first,
  subst (λ n. is_left (w.job n).at ≡ true) (sym target) s.left,
  (λ m. subst (λ n. (w.job n).counted ≡ true) (sym target)
      (one_is ((w.job s.opened.job).counted) (let a : shares (s.opened.job) (w.stack q) + with_job (w.job s.opened.job) ≤ one (w.job s.opened.job).counted = (((h.fills).hold).jobs (s.opened.job)).alone q in let b : 1 ≤ shares (s.opened.job) (w.stack q) = s.has in omega (arith, a, b)))),
)
  where
    target : (w.call c).job ≡ s.opened.job
    target = ap (λ n. (w.call n).job) (sym s.number) ∙ (s.says).target

-- what every step keeps
pub record Steady (w u : World) : Type 0 where
  pub jobs : w.jobs ≤ u.jobs
  pub calls : w.calls ≤ u.calls
  pub kind : (t : ℕ) → t + 1 ≤ w.jobs → (u.job t).kind ≡ (w.job t).kind
  pub pool : (t : ℕ) → t + 1 ≤ w.jobs → (u.job t).pool ≡ (w.job t).pool
  pub target : (c : ℕ) → c + 1 ≤ w.calls → (u.call c).job ≡ (w.call c).job
  pub first : (c : ℕ) → c + 1 ≤ w.calls → (u.call c).first ≡ (w.call c).first

pub entered_on : (w u : World) → Steady w u → ((t : ℕ) → is_left (w.job t).at ≡ true → is_left (u.job t).at ≡ true) → (t c : ℕ) (o : Party) → t + 1 ≤ w.jobs → Entered w t c o → Entered u t c o
entered_on w u s lf t c o l e = record {
  call = (let a : c + 1 ≤ w.calls = e.call in let b : w.calls ≤ u.calls = s.calls in omega (arith, a, b));
  made = subst (λ n. n + 1 ≤ u.jobs) (sym (s.target c (e.call))) (let a : (w.call c).job + 1 ≤ w.jobs = e.made in let b : w.jobs ≤ u.jobs = s.jobs in omega (arith, a, b));
  body = ap (λ n. (u.job n).kind) (s.target c (e.call)) ∙ s.kind ((w.call c).job) (e.made) ∙ e.body;
  first = s.first c (e.call) ∙ e.first;
  pool = s.pool t l ∙ e.pool ∙ sym (s.pool ((w.call c).job) (e.made)) ∙ ap (λ n. (u.job n).pool) (sym (s.target c (e.call)));
  left = subst (λ n. is_left (u.job n).at ≡ true) (sym (s.target c (e.call))) (lf ((w.call c).job) (e.left));
}

pub listed_on : (w u : World) → Steady w u → (z : Scope) → Listed w z → Listed u z
listed_on w u s z e = record {
  call = (let a : z.call + 1 ≤ w.calls = e.call in let b : w.calls ≤ u.calls = s.calls in omega (arith, a, b));
  made = subst (λ n. n + 1 ≤ u.jobs) (sym (s.target (z.call) (e.call))) (let a : (w.call z.call).job + 1 ≤ w.jobs = e.made in let b : w.jobs ≤ u.jobs = s.jobs in omega (arith, a, b));
  body = ap (λ n. (u.job n).kind) (s.target (z.call) (e.call)) ∙ s.kind ((w.call z.call).job) (e.made) ∙ e.body;
  pool = e.pool ∙ sym (s.pool ((w.call z.call).job) (e.made)) ∙ ap (λ n. (u.job n).pool) (sym (s.target (z.call) (e.call)));
}

abbrev pub scope_pair : JobKind → ℕ × Party
scope_pair (Scoped c o) = (c, o)
scope_pair _ = (0, Caller 0)

abbrev pub part_pair : JobKind → ℕ × Party
part_pair (PieceOf c o) = (c, o)
part_pair _ = (0, Caller 0)
