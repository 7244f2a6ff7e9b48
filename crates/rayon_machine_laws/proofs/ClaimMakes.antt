-- the end of a run and the making of calls keep what the places say; and so does each step
use Rattle.rayon_machine_laws.specs.Once.{IsOnce}
use Rattle.rayon_machine_places.specs.declared.place.Count.TheVariants.{OfPool, OfScope, OfCast}
use Rattle.rayon_machine_places.specs.declared.place.Count.{Count}
use Rattle.rayon_machine_places.specs.declared.place.Pieces.{Pieces}
use Rattle.rayon_machine_laws.proofs.Owned.{added}
use Rattle.rayon_machine_places.specs.declared.place.Latch.TheVariants.{OfCall}
use Rattle.rayon_machine_runs.specs.declared.state.Scope.{Scope}
use Rattle.std.proofs.Common.{arith, refl, sym, ◌∙◌, ap, subst, inl, inr}
use Rattle.std.specs.Prelude.{ℕ, Bool, true, false, ◌&&◌, ◌+◌, ◌==◌, ◌≤◌, ◌<◌, nat_lt, if◌then◌else◌, Some, None, List, [], ◌≡◌, IfSome, ◌-◌, slice_get, ◌++◌, ◌∷◌}
use Rattle.std.proofs.lemmas.Bool.{eqb-true, eq-eqb, ltb-true, ltb-false}
use Rattle.std.proofs.Math.Dec.{ltb}
use Rattle.rayon_machine_places.specs.declared.place.Party.{Party}
use Rattle.rayon_machine_places.specs.declared.place.Party.TheVariants.{Worker, Caller}
use Rattle.rayon_machine_places.specs.declared.place.Ending.{Ending}
use Rattle.rayon_machine_places.specs.declared.place.JobKind.{JobKind}
use Rattle.rayon_machine_places.specs.declared.place.JobKind.TheVariants.{Detached, Stored, Direct, TokenOf, Scoped, BodyOf, PieceOf}
use Rattle.rayon_machine_places.specs.declared.place.Target.TheVariants.{Termination}
use Rattle.rayon_machine_places.specs.declared.place.Plan.{Plan}
use Rattle.rayon_machine_places.specs.declared.place.Plan.TheVariants.{Detach, Here, Send, Fork, Feed, Open, Enter, Gather}
use Rattle.rayon_machine_places.specs.declared.place.Place.{Place}
use Rattle.rayon_machine_places.specs.declared.place.Place.TheVariants.{ProbeWorking, YieldPop, LocalPop, Run, RaiseCount, Free, Stopped, RaiseForAll}
use Rattle.rayon_machine_runs.specs.declared.event.Event.{Event}
use Rattle.rayon_machine_runs.specs.declared.event.Event.TheVariants.{Go, From, Refuse, Miss, End, Spawn, Fifo, Install, Join, Yield, YieldLocal, EndPool, Cast, Scope as OpenScope, IntoSpawn, IntoFifo, IntoCast, Broadcast}
use Rattle.rayon_machine_runs.specs.declared.state.Letter.TheVariants.{Set as IsSet, Unset}
use Rattle.rayon_machine_runs.specs.declared.state.Whereabouts.TheVariants.{Over, Spent}
use Rattle.rayon_machine_runs.specs.declared.state.Job.{Job}
use Rattle.rayon_machine_runs.specs.declared.state.Call.{Call}
use Rattle.rayon_machine_places.specs.Places.{is_member, fresh, act_of, is_free, count_kind, count_book}
use Rattle.rayon_machine_runs.specs.World.{Shape, World, at_job}
use Rattle.rayon_machine_places.specs.Targets.{target_pool, target_worker, target_call}
use Rattle.rayon_machine_runs.specs.Steps.{put, put_stack, after_close, after_end, after_call, is_pool, new_job, new_call, after_spawn, after_send, after_install, after_join, step, after_feed, after_fifo, after_cast, put_pieces, new_piece, is_piece, after_scope, after_into}
use Rattle.rayon_machine_runs.specs.Steps.{holds, after_enter, after_deal, after_into_fifo, after_into_cast, after_broadcast, after_gather, new_whole, new_gathering}
use Rattle.rayon_machine_runs.specs.Runs.{start, IsRun}
use Rattle.rayon_machine_laws.proofs.Frame.{either, and_parts, if_cond, acted_keeps, put_same, put_new, put_old, fifo_cases, piece_new, piece_old, piece_range, piece_in, piece_out, into_cases, into_fifo_cases, into_cast_cases}
use Rattle.rayon_machine_laws.proofs.Ties.{job_at, outcome}
use Rattle.rayon_machine_laws.proofs.Events.{run_keeps}
use Rattle.rayon_machine_laws.proofs.PlacedEvents.{IsFinal, final_left, Advance}
use Rattle.rayon_machine_laws.proofs.PlacedRuns.{jobs_advance, step_advance, first_jobs, once}
use Rattle.rayon_machine_laws.proofs.Claims.{call_kind, is_scoped, MadeAs, is_detached, SaysPlan, SaysRun, StackSays, SaysPieces, SaysLatch, Opened, Tied, PartOf, KnownCount, EndsAs}
use Rattle.rayon_machine_laws.proofs.Later.{Later, later_says, later_all, later_latch, later_stack, later_as, later_tied, later_part, later_known}
use Rattle.rayon_machine_laws.proofs.ClaimRuns.{CallsHold, all_says, go_calls, later_lined, unqueued}
use Rattle.rayon_machine_laws.proofs.ClaimEvents.{both, from_calls, refuse_calls, miss_calls, called_says, yield_calls, give_calls, ended_world, says_closed}

final_over : (w u : World) → Advance w u → (t : ℕ) (e : Ending) → (w.job t).at ≡ Over e → (u.job t).at ≡ Over e
final_over w u a t e z = subst (λ v. IsFinal v ((u.job t).at)) z (a.final t)

final_spent : (w u : World) → Advance w u → (t : ℕ) → (w.job t).at ≡ Spent → (u.job t).at ≡ Spent
final_spent w u a t z = subst (λ v. IsFinal v ((u.job t).at)) z (a.final t)

pub end_calls : (w : World) (q : Party) (d : Ending) (x : Place) (fs : List Place) → w.stack q ≡ record { top = x; below = fs } → CallsHold w → IfSome (after_end w q d (record { top = x; below = fs }) x) (λ u. Advance w u → CallsHold u)
end_calls w q d (Run t k) fs z h = λ a. done a
  where
    u : World
    u = ended_world w q d t k fs

    now : ((ended_world w q d t k fs).job t).at ≡ Over d
    now = ap (λ j. j.at) (put_new w.job t (at_job (w.job t) (Over d)))

    old : StackSays w q (record { top = Run t k; below = fs })
    old = subst (λ s. StackSays w q s) z (h.says q)

    later : Advance w (ended_world w q d t k fs) → Later w (ended_world w q d t k fs)
    later a = record {
      jobs = omega arith;
      calls = omega arith;
      over = final_over w (ended_world w q d t k fs) a;
      shape = refl;
      gone = final_spent w (ended_world w q d t k fs) a;
      left = λ s z. final_left ((w.job s).at) (((ended_world w q d t k fs).job s).at) (a.final s) z;
      kind = λ s b. put_same (λ j. j.kind) w.job t (at_job (w.job t) (Over d)) s refl;
      pool = λ s b. put_same (λ j. j.pool) w.job t (at_job (w.job t) (Over d)) s refl;
      bound = λ s b. put_same (λ j. j.bound) w.job t (at_job (w.job t) (Over d)) s refl;
      target = λ c b. refl;
      side =
          λ c b. refl;
      ended = λ p y. y;
      spent = λ c b y. y;
      given = λ p y. y;
    }

    detached : (p : ℕ) → k ≡ Detached p → (w.job t).pool ≡ p
    detached p e = let s : SaysRun w t (Detached p) = subst (λ k. SaysRun w t k) e (old.top) in h.pools t (s.0) p (s.1)

    done : Advance w (ended_world w q d t k fs) → CallsHold (ended_world w q d t k fs)
    done a = record {
      jobs = jobs_advance w (ended_world w q d t k fs) (h.jobs) a;
      says = all_says w (ended_world w q d t k fs) (later a) q (after_close t k d fs)
          (says_closed w (ended_world w q d t k fs) q d t k fs h (later a) (λ c. refl) now (put_same (λ j. j.pool) w.job t (at_job (w.job t) (Over d)) t refl) (later_says w (ended_world w q d t k fs) (later a) q (Run t k) (old.top)) (old.top) detached
          (later_all w (ended_world w q d t k fs) (later a) q fs (old.below)) (old.links)) (h.says);
      ties = λ s b c o y. h.ties s b c o (sym (put_same (λ j. j.kind) w.job t (at_job (w.job t) (Over d)) s refl) ∙ y);
      pools = λ s b p y. put_same (λ j. j.pool) w.job t (at_job (w.job t) (Over d)) s refl ∙ h.pools s b p (sym (put_same (λ j. j.kind) w.job t (at_job (w.job t) (Over d)) s refl) ∙ y);
      cells = λ c e y. later_as w (ended_world w q d t k fs) (later a) ((w.call c).job) c e (h.cells c e y);
      latches = λ c y. later_latch w (ended_world w q d t k fs) (later a) 0 (OfCall c) (h.latches c y);
      entries = λ s b c o y. later_tied w (ended_world w q d t k fs) (later a) c o (h.entries s b c o (sym (put_same (λ j. j.kind) w.job t (at_job (w.job t) (Over d)) s refl) ∙ y));
      parts = λ s b c o y. later_part w (ended_world w q d t k fs) (later a) s c o (h.parts s b c o (sym (put_same (λ j. j.kind) w.job t (at_job (w.job t) (Over d)) s refl) ∙ y));
      scopes = λ n z e. later_tied w (ended_world w q d t k fs) (later a) z.call z.owner (h.scopes n z e);
      ends = h.ends;
      lines = λ p i v s b. later_lined w (ended_world w q d t k fs) (later a) s p v (h.lines p i v s b);
    }
end_calls w q d _ fs z h = tt

-- the world in which a party's call has begun
abbrev pub calling : World → Party → Plan → (ℕ → Call) → (ℕ → Job) → ℕ → ℕ → World
calling w q n C J c j = record w { stack = put_stack w.stack q (after_call (w.stack q) (RaiseCount n)); call = C; job = J; calls = c; jobs = j }

-- what is to be shown of the new jobs and the new call
pub record Makes (w u : World) (q : Party) (n : Plan) : Type 0 where
  pub later : Later w u
  pub says : SaysPlan u q n
  pub ties : (t : ℕ) → t + 1 ≤ u.jobs → (c : ℕ) (o : Party) → (u.job t).kind ≡ Stored c o → (c + 1 ≤ u.calls) × ((u.call c).job ≡ t)
  pub pools : (t : ℕ) → t + 1 ≤ u.jobs → (p : ℕ) → (u.job t).kind ≡ Detached p → (u.job t).pool ≡ p
  pub cells : (c : ℕ) (e : Ending) → (u.call c).cell ≡ Some e → EndsAs u (u.call c).job c e
  pub latches : (c : ℕ) → (u.call c).latch ≡ IsSet → SaysLatch u 0 (OfCall c)
  pub entries : (t : ℕ) → t + 1 ≤ u.jobs → (c : ℕ) (o : Party) → (u.job t).kind ≡ Scoped c o → Tied u c o
  pub parts : (t : ℕ) → t + 1 ≤ u.jobs → (c : ℕ) (o : Party) → (u.job t).kind ≡ PieceOf c o → PartOf u t c o

made_calls : (w : World) (q : Party) (n : Plan) (C : ℕ → Call) (J : ℕ → Job) (c j : ℕ) → is_free (w.stack q).top ≡ true → CallsHold w → Makes w (calling w q n C J c j) q n → Advance w (calling w q n C J c j) → CallsHold (calling w q n C J c j)
made_calls w q n C J c j f h m a = record {
  jobs = jobs_advance w (calling w q n C J c j) (h.jobs) a;
  says = all_says w (calling w q n C J c j) (m.later) q (after_call (w.stack q) (RaiseCount n)) (called_says w (calling w q n C J c j) (m.later) q (RaiseCount n) f (m.says) h) (h.says);
  ties = m.ties;
  pools = m.pools;
  cells = m.cells;
  latches = m.latches;
  entries = m.entries;
  parts = m.parts;
  scopes = λ i z e. later_tied w (calling w q n C J c j) (m.later) z.call z.owner (h.scopes i z e);
  ends = h.ends;
  lines = λ p i v t b. later_lined w (calling w q n C J c j) (m.later) t p v (h.lines p i v t b);
}

-- a number below another is not it
pub below_new : (t n : ℕ) → t + 1 ≤ n → (t == n) ≡ false
below_new t n b = elim (either (t == n)) [ inl y ↦ absurd (let z : t ≡ n = eqb-true t n y in omega (arith, z, b)) | inr z ↦ z ]

below_or : (t n : ℕ) → (t == n) ≡ false → t + 1 ≤ n + 1 → t + 1 ≤ n
below_or t n e b = elim (either (ltb t n)) [ inl y ↦ (let z : t < n = ltb-true t n y in omega (arith, z)) | inr y ↦ absurd (let z : n ≤ t = ltb-false t n y in let k : t ≡ n = omega (arith, z, b) in let g : (t == n) ≡ true = eq-eqb t n k in cc) ]

-- a call that makes one job and waits for nobody
plain_makes : (w : World) (q : Party) (n : Plan) (p : ℕ) (k : JobKind) → ((c : ℕ) (o : Party) → k ≡ Stored c o → ⊥) → ((r : ℕ) → k ≡ Detached r → p ≡ r) → ((c : ℕ) (o : Party) → k ≡ Scoped c o → Tied w c o) → ((c : ℕ) (o : Party) → k ≡ PieceOf c o → ⊥)
    → ((u : World) → Later w u → MadeAs u w.jobs p k → SaysPlan u q n) → CallsHold w → Advance w (calling w q n w.call (put w.job w.jobs (new_job q p k)) w.calls (w.jobs + 1)) → Makes w (calling w q n w.call (put w.job w.jobs (new_job q p k)) w.calls (w.jobs + 1)) q n
plain_makes w q n p k ns dp en pn sp h a = record {
  later = later;
  says = sp (calling w q n w.call (put w.job w.jobs (new_job q p k)) w.calls (w.jobs + 1)) later (record {
    made = omega arith;
    kind = ap (λ j. j.kind) (put_new w.job w.jobs (new_job q p k));
    pool = ap (λ j. j.pool) (put_new w.job w.jobs (new_job q p k));
    bound = ap (λ j. j.bound) (put_new w.job w.jobs (new_job q p k));
  });
  ties = λ t b c o z. ties t b c o (t == w.jobs) refl z;
  pools = λ t b r z. pools t b r (t == w.jobs) refl z;
  cells = λ c e z. later_as w (calling w q n w.call (put w.job w.jobs (new_job q p k)) w.calls (w.jobs + 1)) later ((w.call c).job) c e (h.cells c e z);
  latches = λ c z. later_latch w (calling w q n w.call (put w.job w.jobs (new_job q p k)) w.calls (w.jobs + 1)) later 0 (OfCall c) (h.latches c z);
  entries = λ t b c o z. later_tied w (calling w q n w.call (put w.job w.jobs (new_job q p k)) w.calls (w.jobs + 1)) later c o (entries t b c o (t == w.jobs) refl z);
  parts = λ t b c o z. later_part w (calling w q n w.call (put w.job w.jobs (new_job q p k)) w.calls (w.jobs + 1)) later t c o (parts t b c o (t == w.jobs) refl z);
}
  where
    later : Later w (calling w q n w.call (put w.job w.jobs (new_job q p k)) w.calls (w.jobs + 1))
    later = record {
      jobs = omega arith;
      calls = omega arith;
      over = final_over w (calling w q n w.call (put w.job w.jobs (new_job q p k)) w.calls (w.jobs + 1)) a;
      shape = refl;
      gone = final_spent w (calling w q n w.call (put w.job w.jobs (new_job q p k)) w.calls (w.jobs + 1)) a;
      left = λ t z. final_left ((w.job t).at) ((((calling w q n w.call (put w.job w.jobs (new_job q p k)) w.calls (w.jobs + 1))).job t).at) (a.final t) z;
      kind = λ t b. ap (λ j. j.kind) (put_old w.job w.jobs (new_job q p k) t (below_new t w.jobs b));
      pool =
          λ t b. ap (λ j. j.pool) (put_old w.job w.jobs (new_job q p k) t (below_new t w.jobs b));
      bound = λ t b. ap (λ j. j.bound) (put_old w.job w.jobs (new_job q p k) t (below_new t w.jobs b));
      target = λ c b. refl;
      side = λ c b. refl;
      ended = λ r z. z;
      spent = λ c b z. z;
      given = λ r z. z;
    }

    ties : (t : ℕ) → t + 1 ≤ w.jobs + 1 → (c : ℕ) (o : Party) (z : Bool) → (t == w.jobs) ≡ z → (if z then new_job q p k else w.job t).kind ≡ Stored c o → (c + 1 ≤ w.calls) × ((w.call c).job ≡ t)
    ties t b c o true e y = absurd (ns c o y)
    ties t b c o false e y = h.ties t (below_or t w.jobs e b) c o y

    entries : (t : ℕ) → t + 1 ≤ w.jobs + 1 → (c : ℕ) (o : Party) (z : Bool) → (t == w.jobs) ≡ z → (if z then new_job q p k else w.job t).kind ≡ Scoped c o → Tied w c o
    entries t b c o true e y = en c o y
    entries t b c o false e y = h.entries t (below_or t w.jobs e b) c o y

    parts : (t : ℕ) → t + 1 ≤ w.jobs + 1 → (c : ℕ) (o : Party) (z : Bool) → (t == w.jobs) ≡ z → (if z then new_job q p k else w.job t).kind ≡ PieceOf c o → PartOf w t c o
    parts t b c o true e y = absurd (pn c o y)
    parts t b c o false e y = h.parts t (below_or t w.jobs e b) c o y

    pools : (t : ℕ) → t + 1 ≤ w.jobs + 1 → (r : ℕ) (z : Bool) → (t == w.jobs) ≡ z → (if z then new_job q p k else w.job t).kind ≡ Detached r → (if z then new_job q p k else w.job t).pool ≡ r
    pools t b r true e y = dp r y
    pools t b r false e y = h.pools t (below_or t w.jobs e b) r y

-- a new call's cell is empty and its latch unset
new_cells : (w u : World) (n : Call) → n.cell ≡ None → CallsHold w → Later w u → (c : ℕ) (e : Ending) → (put w.call w.calls n c).cell ≡ Some e → EndsAs u (put w.call w.calls n c).job c e
new_cells w u n m h l c e = by (c == w.calls)
  where
    by : (z : Bool) → (if z then n else w.call c).cell ≡ Some e → EndsAs u (if z then n else w.call c).job c e
    by true y = absurd (let k : None ≡ Some e = sym m ∙ y in cc)
    by false y = later_as w u l ((w.call c).job) c e (h.cells c e y)

new_latches : (w u : World) (n : Call) → n.latch ≡ Unset → CallsHold w → Later w u → (c : ℕ) → (put w.call w.calls n c).latch ≡ IsSet → SaysLatch u 0 (OfCall c)
new_latches w u n m h l c = by (c == w.calls)
  where
    by : (z : Bool) → (if z then n else w.call c).latch ≡ IsSet → SaysLatch u 0 (OfCall c)
    by true y = absurd (let k : Unset ≡ IsSet = sym m ∙ y in cc)
    by false y = later_latch w u l 0 (OfCall c) (h.latches c y)

-- a call that makes one job and waits for it
send_makes : (w : World) (q : Party) (p : ℕ) (n : Plan) (d : JobKind) → call_kind d ≡ Some (w.calls, q) → ((c : ℕ) (o : Party) → d ≡ Stored c o → w.calls ≡ c) → is_detached d ≡ false → is_scoped d ≡ false
    → ((u : World) → Opened u q (record { number = w.calls; pool = p; job = w.jobs }) × ((u.call w.calls).first ≡ None) → SaysPlan u q n) → CallsHold w → Advance w (calling w q n (put w.call w.calls (new_call None w.jobs)) (put w.job w.jobs (new_job q p d)) (w.calls + 1) (w.jobs + 1))
    → Makes w (calling w q n (put w.call w.calls (new_call None w.jobs)) (put w.job w.jobs (new_job q p d)) (w.calls + 1) (w.jobs + 1)) q n
send_makes w q p n d dk dt dd ds sp h a = record {
  later = later;
  says = sp (calling w q n (put w.call w.calls (new_call None w.jobs)) (put w.job w.jobs (new_job q p d)) (w.calls + 1) (w.jobs + 1)) (
    record { number = omega arith; made = omega arith; target = ap (λ c. c.job) (put_new w.call w.calls (new_call None w.jobs)); kind = ap (λ j. call_kind j.kind) (put_new w.job w.jobs (new_job q p d)) ∙ dk; pool = ap (λ j. j.pool) (put_new w.job w.jobs (new_job q p d)) },
    ap (λ c. c.first) (put_new w.call w.calls (new_call None w.jobs)),
  );
  ties = λ t b c o z. ties t b c o (t == w.jobs) refl z;
  pools = λ t b r z. pools t b r (t == w.jobs) refl z;
  cells = new_cells w (calling w q n (put w.call w.calls (new_call None w.jobs)) (put w.job w.jobs (new_job q p d)) (w.calls + 1) (w.jobs + 1)) (new_call None w.jobs) refl h later;
  latches = new_latches w (calling w q n (put w.call w.calls (new_call None w.jobs)) (put w.job w.jobs (new_job q p d)) (w.calls + 1) (w.jobs + 1)) (new_call None w.jobs) refl h later;
  entries = λ t b c o z. later_tied w (calling w q n (put w.call w.calls (new_call None w.jobs)) (put w.job w.jobs (new_job q p d)) (w.calls + 1) (w.jobs + 1)) later c o (entries t b c o (t == w.jobs) refl z);
  parts = λ t b c o z. later_part w (calling w q n (put w.call w.calls (new_call None w.jobs)) (put w.job w.jobs (new_job q p d)) (w.calls + 1) (w.jobs + 1)) later t c o (parts t b c o (t == w.jobs) refl z);
}
  where
    later : Later w (calling w q n (put w.call w.calls (new_call None w.jobs)) (put w.job w.jobs (new_job q p d)) (w.calls + 1) (w.jobs + 1))
    later = record {
      jobs = omega arith;
      calls = omega arith;
      over = final_over w (calling w q n (put w.call w.calls (new_call None w.jobs)) (put w.job w.jobs (new_job q p d)) (w.calls + 1) (w.jobs + 1)) a;
      shape = refl;
      gone = final_spent w (calling w q n (put w.call w.calls (new_call None w.jobs)) (put w.job w.jobs (new_job q p d)) (w.calls + 1) (w.jobs + 1)) a;
      left =
          λ t z. final_left ((w.job t).at) ((((calling w q n (put w.call w.calls (new_call None w.jobs)) (put w.job w.jobs (new_job q p d)) (w.calls + 1) (w.jobs + 1))).job t).at) (a.final t) z;
      kind = λ t b. ap (λ j. j.kind) (put_old w.job w.jobs (new_job q p d) t (below_new t w.jobs b));
      pool =
          λ t b. ap (λ j. j.pool) (put_old w.job w.jobs (new_job q p d) t (below_new t w.jobs b));
      bound = λ t b. ap (λ j. j.bound) (put_old w.job w.jobs (new_job q p d) t (below_new t w.jobs b));
      target =
          λ c b. ap (λ i. i.job) (put_old w.call w.calls (new_call None w.jobs) c (below_new c w.calls b));
      side = λ c b. ap (λ i. i.first) (put_old w.call w.calls (new_call None w.jobs) c (below_new c w.calls b));
      ended = λ r z. z;
      spent =
          λ c b z. ap (λ i. i.count) (put_old w.call w.calls (new_call None w.jobs) c (below_new c w.calls b)) ∙ z;
      given = λ r z. z;
    }

    ties : (t : ℕ) → t + 1 ≤ w.jobs + 1 → (c : ℕ) (o : Party) (z : Bool) → (t == w.jobs) ≡ z → (if z then new_job q p d else w.job t).kind ≡ Stored c o → (c + 1 ≤ w.calls + 1) × ((put w.call w.calls (new_call None w.jobs) c).job ≡ t)
    ties t b c o true e y = let k : w.calls ≡ c = dt c o y in ((let g : c + 1 ≤ w.calls + 1 = omega (arith, k) in g), ap (λ n. (put w.call w.calls (new_call None w.jobs) n).job) (sym k) ∙ ap (λ i. i.job) (put_new w.call w.calls (new_call None w.jobs)) ∙ sym (eqb-true t w.jobs e))
    ties t b c o false e y = let g : (c + 1 ≤ w.calls) × ((w.call c).job ≡ t) = h.ties t (below_or t w.jobs e b) c o y in let k : c + 1 ≤ w.calls = g.0 in
        ((let m : c + 1 ≤ w.calls + 1 = omega (arith, k) in m), ap (λ i. i.job) (put_old w.call w.calls (new_call None w.jobs) c (below_new c w.calls k)) ∙ g.1)

    entries : (t : ℕ) → t + 1 ≤ w.jobs + 1 → (c : ℕ) (o : Party) (z : Bool) → (t == w.jobs) ≡ z → (if z then new_job q p d else w.job t).kind ≡ Scoped c o → Tied w c o
    entries t b c o true e y = absurd (let f : true ≡ false = sym (ap is_scoped y) ∙ ds in cc)
    entries t b c o false e y = h.entries t (below_or t w.jobs e b) c o y

    parts : (t : ℕ) → t + 1 ≤ w.jobs + 1 → (c : ℕ) (o : Party) (z : Bool) → (t == w.jobs) ≡ z → (if z then new_job q p d else w.job t).kind ≡ PieceOf c o → PartOf w t c o
    parts t b c o true e y = absurd (let f : true ≡ false = sym (ap is_scoped y) ∙ ds in cc)
    parts t b c o false e y = h.parts t (below_or t w.jobs e b) c o y

    pools : (t : ℕ) → t + 1 ≤ w.jobs + 1 → (r : ℕ) (z : Bool) → (t == w.jobs) ≡ z → (if z then new_job q p d else w.job t).kind ≡ Detached r → (if z then new_job q p d else w.job t).pool ≡ r
    pools t b r true e y = absurd (let f : true ≡ false = sym (ap is_detached y) ∙ dd in cc)
    pools t b r false e y = h.pools t (below_or t w.jobs e b) r y

-- a join makes its two sides, and waits for the second
abbrev pub after_fork : World → ℕ → ℕ → World
after_fork w p i = record w {
  stack = put_stack w.stack (Worker p i) (after_call (w.stack (Worker p i)) (RaiseCount (Fork (record { number = w.calls; pool = p; job = w.jobs + 1 }) w.jobs)));
  job = put (put w.job w.jobs (new_job (Worker p i) p Direct)) (w.jobs + 1) (new_job (Worker p i) p (Stored w.calls (Worker p i)));
  call = put w.call w.calls (new_call (Some w.jobs) (w.jobs + 1));
  jobs = w.jobs + 2;
  calls = w.calls + 1;
}

fork_makes : (w : World) (p i : ℕ) → CallsHold w → Advance w (after_fork w p i) → Makes w (after_fork w p i) (Worker p i) (Fork (record { number = w.calls; pool = p; job = w.jobs + 1 }) w.jobs)
fork_makes w p i h a = record {
  later = later;
  says = (
    record { number = omega arith; made = omega arith; target = ap (λ c. c.job) (put_new w.call w.calls (new_call (Some w.jobs) (w.jobs + 1))); kind = ap (λ j. call_kind j.kind) second; pool = ap (λ j. j.pool) second },
    ap (λ c. c.first) (put_new w.call w.calls (new_call (Some w.jobs) (w.jobs + 1))),
    record { made = omega arith; kind = ap (λ j. is_detached (j.kind)) first },
  );
  ties = λ t b c o z. ties t b c o (t == (w.jobs + 1)) (t == w.jobs) refl refl z;
  pools = λ t b r z. pools t b r (t == (w.jobs + 1)) (t == w.jobs) refl refl z;
  cells = new_cells w (after_fork w p i) (new_call (Some w.jobs) (w.jobs + 1)) refl h later;
  latches = new_latches w (after_fork w p i) (new_call (Some w.jobs) (w.jobs + 1)) refl h later;
  entries = λ t b c o z. later_tied w (after_fork w p i) later c o (entries t b c o (t == (w.jobs + 1)) (t == w.jobs) refl refl z);
  parts = λ t b c o z. later_part w (after_fork w p i) later t c o (parts t b c o (t == (w.jobs + 1)) (t == w.jobs) refl refl z);
}
  where
    second : (after_fork w p i).job (w.jobs + 1) ≡ new_job (Worker p i) p (Stored w.calls (Worker p i))
    second = put_new (put w.job w.jobs (new_job (Worker p i) p Direct)) (w.jobs + 1) (new_job (Worker p i) p (Stored w.calls (Worker p i)))

    first : (after_fork w p i).job w.jobs ≡ new_job (Worker p i) p Direct
    first = put_old (put w.job w.jobs (new_job (Worker p i) p Direct)) (w.jobs + 1) (new_job (Worker p i) p (Stored w.calls (Worker p i))) w.jobs (below_new w.jobs (w.jobs + 1) (omega arith)) ∙ put_new w.job w.jobs (new_job (Worker p i) p Direct)

    old : (t : ℕ) → t + 1 ≤ w.jobs → (after_fork w p i).job t ≡ w.job t
    old t b = put_old (put w.job w.jobs (new_job (Worker p i) p Direct)) (w.jobs + 1) (new_job (Worker p i) p (Stored w.calls (Worker p i))) t (below_new t (w.jobs + 1) (omega (arith, b))) ∙ put_old w.job w.jobs (new_job (Worker p i) p Direct) t (below_new t w.jobs b)

    later : Later w (after_fork w p i)
    later = record {
      jobs = omega arith;
      calls = omega arith;
      over = final_over w (after_fork w p i) a;
      shape = refl;
      gone = final_spent w (after_fork w p i) a;
      left = λ t z. final_left ((w.job t).at) ((((after_fork w p i)).job t).at) (a.final t) z;
      kind = λ t b. ap (λ j. j.kind) (old t b);
      pool = λ t b. ap (λ j. j.pool) (old t b);
      bound = λ t b. ap (λ j. j.bound) (old t b);
      target = λ c b. ap (λ i. i.job) (put_old w.call w.calls (new_call (Some w.jobs) (w.jobs + 1)) c (below_new c w.calls b));
      side =
          λ c b. ap (λ i. i.first) (put_old w.call w.calls (new_call (Some w.jobs) (w.jobs + 1)) c (below_new c w.calls b));
      ended = λ r z. z;
      spent = λ c b z. ap (λ i. i.count) (put_old w.call w.calls (new_call (Some w.jobs) (w.jobs + 1)) c (below_new c w.calls b)) ∙ z;
      given = λ r z. z;
    }

    ties : (t : ℕ) → t + 1 ≤ w.jobs + 2 → (c : ℕ) (o : Party) (z v : Bool) → (t == (w.jobs + 1)) ≡ z → (t == w.jobs) ≡ v → (if z then new_job (Worker p i) p (Stored w.calls (Worker p i)) else (if v then new_job (Worker p i) p Direct else w.job t)).kind ≡ Stored c o
        → (c + 1 ≤ w.calls + 1) × ((put w.call w.calls (new_call (Some w.jobs) (w.jobs + 1)) c).job ≡ t)
    ties t b c o true v e d y = let k : w.calls ≡ c = cc in (
      (let g : c + 1 ≤ w.calls + 1 = omega (arith, k) in g),
      ap (λ n. (put w.call w.calls (new_call (Some w.jobs) (w.jobs + 1)) n).job) (sym k) ∙ ap (λ i. i.job) (put_new w.call w.calls (new_call (Some w.jobs) (w.jobs + 1)))
          ∙ sym (eqb-true t (w.jobs + 1) e),
    )
    ties t b c o false true e d y = cc
    ties t b c o false false e d y = let g : (c + 1 ≤ w.calls) × ((w.call c).job ≡ t) = h.ties t (below_or t w.jobs d (below_or t (w.jobs + 1) e (omega (arith, b)))) c o y in let k : c + 1 ≤ w.calls = g.0 in
        ((let m : c + 1 ≤ w.calls + 1 = omega (arith, k) in m), ap (λ i. i.job) (put_old w.call w.calls (new_call (Some w.jobs) (w.jobs + 1)) c (below_new c w.calls k)) ∙ g.1)

    entries : (t : ℕ) → t + 1 ≤ w.jobs + 2 → (c : ℕ) (o : Party) (z v : Bool) → (t == (w.jobs + 1)) ≡ z → (t == w.jobs) ≡ v → (if z then new_job (Worker p i) p (Stored w.calls (Worker p i)) else (if v then new_job (Worker p i) p Direct else w.job t)).kind ≡ Scoped c o → Tied w c o
    entries t b c o true v e d y = absurd (cc)
    entries t b c o false true e d y = absurd (cc)
    entries t b c o false false e d y = h.entries t (below_or t w.jobs d (below_or t (w.jobs + 1) e (omega (arith, b)))) c o y

    parts : (t : ℕ) → t + 1 ≤ w.jobs + 2 → (c : ℕ) (o : Party) (z v : Bool) → (t == (w.jobs + 1)) ≡ z → (t == w.jobs) ≡ v → (if z then new_job (Worker p i) p (Stored w.calls (Worker p i)) else (if v then new_job (Worker p i) p Direct else w.job t)).kind ≡ PieceOf c o → PartOf w t c o
    parts t b c o true v e d y = absurd (cc)
    parts t b c o false true e d y = absurd (cc)
    parts t b c o false false e d y = h.parts t (below_or t w.jobs d (below_or t (w.jobs + 1) e (omega (arith, b)))) c o y

    pools : (t : ℕ) → t + 1 ≤ w.jobs + 2 → (r : ℕ) (z v : Bool) → (t == (w.jobs + 1)) ≡ z → (t == w.jobs) ≡ v → (if z then new_job (Worker p i) p (Stored w.calls (Worker p i)) else (if v then new_job (Worker p i) p Direct else w.job t)).kind ≡ Detached r
        → (if z then new_job (Worker p i) p (Stored w.calls (Worker p i)) else (if v then new_job (Worker p i) p Direct else w.job t)).pool ≡ r
    pools t b r true v e d y = cc
    pools t b r false true e d y = cc
    pools t b r false false e d y = h.pools t (below_or t w.jobs d (below_or t (w.jobs + 1) e (omega (arith, b)))) r y

spawn_calls : (w : World) (q : Party) (p : ℕ) → CallsHold w → IfSome (after_spawn w q p (w.stack q)) (λ u. Advance w u → CallsHold u)
spawn_calls w q p h = if_cond (λ u. Advance w u → CallsHold u) (is_free ((w.stack q).top) && is_pool w.shape p) _ (λ f a. made_calls w q (Detach p w.jobs) w.call (put w.job w.jobs (new_job q p (Detached p))) w.calls (w.jobs + 1) ((and_parts (is_free ((w.stack q).top)) (is_pool w.shape p) f).0) h
    (plain_makes w q (Detach p w.jobs) p (Detached p) (λ c o z. cc) (λ r z. (let k : p ≡ r = cc in k)) (λ c o z. absurd (cc)) (λ c o z. absurd (cc)) (λ u l s. s) h a) a)

-- what is known of a count tells of the kind of its jobs
no_tie : (i : ℕ) (o : Party) (d : Count) → count_kind d ≡ Stored i o → ⊥
no_tie i o (OfPool r) y = cc
no_tie i o (OfScope e g) y = cc
no_tie i o (OfCast e g) y = cc

its_pool : (w : World) (p r : ℕ) (d : Count) → KnownCount w d p → count_kind d ≡ Detached r → p ≡ r
its_pool w p r (OfPool e) s y = let g : e ≡ p = s in let m : e ≡ r = cc in sym g ∙ m
its_pool w p r (OfScope e g) s y = cc
its_pool w p r (OfCast e g) s y = cc

its_scope : (w : World) (p i : ℕ) (o : Party) (d : Count) → KnownCount w d p → count_kind d ≡ Scoped i o → Tied w i o
its_scope w p i o (OfPool e) s y = absurd (cc)
its_scope w p i o (OfScope e g) s y = let m : e ≡ i = cc in let n : g ≡ o = cc in subst (λ x. Tied w x o) m (subst (λ x. Tied w e x) n s)
its_scope w p i o (OfCast e g) s y = absurd s

no_part : (w : World) (p i : ℕ) (o : Party) (d : Count) → KnownCount w d p → count_kind d ≡ PieceOf i o → ⊥
no_part w p i o (OfPool e) s y = cc
no_part w p i o (OfScope e g) s y = cc
no_part w p i o (OfCast e g) s y = s

-- the pieces of a broadcast, as they are made
made_pieces : (w u : World) (q : Party) (c : Pieces) → u.jobs ≡ u.jobs → c.first + c.workers ≤ u.jobs → ((t : ℕ) → is_piece c t ≡ true → u.job t ≡ new_piece q c.count c.pool (t - c.first)) → SaysPieces u c
made_pieces w u q c r b g t e = let a : (c.first ≤ t) × (t < c.first + c.workers) = piece_range c t e in let l : t < c.first + c.workers = a.1 in
    record { made = (let k : t + 1 ≤ u.jobs = omega (arith, b, l) in k); kind = ap (λ j. j.kind) (g t e); pool = ap (λ j. j.pool) (g t e); bound = ap (λ j. j.bound) (g t e) }

-- a call that makes a piece for each worker of a pool
deal_calls : (w : World) (q : Party) (k : Count) (p : ℕ) → KnownCount w k p → is_free ((w.stack q).top) ≡ true → CallsHold w → Advance w (after_deal w q k p (w.stack q)) → CallsHold (after_deal w q k p (w.stack q))
deal_calls w q k p known f h a = record {
  jobs = jobs_advance w u (h.jobs) a;
  says = all_says w u later q (after_call (w.stack q) (RaiseForAll c)) (called_says w u later q (RaiseForAll c) f (made_pieces w u q c refl (omega arith) (λ t e. piece_new c (λ i j. new_piece q k p i) w.job t e), later_known w u later k p known) h) (h.says);
  ties = λ t b i o z. ties t b i o (is_piece c t) refl z;
  pools = λ t b r z. pools t b r (is_piece c t) refl z;
  cells = λ i e z. later_as w u later ((w.call i).job) i e (h.cells i e z);
  latches = λ i z. later_latch w u later 0 (OfCall i) (h.latches i z);
  entries = λ t b i o z. later_tied w u later i o (entries t b i o (is_piece c t) refl z);
  parts = λ t b i o z. later_part w u later t i o (parts t b i o (is_piece c t) refl z);
  scopes = λ n z e. later_tied w u later z.call z.owner (h.scopes n z e);
  ends = h.ends;
  lines = λ r i v t b. later_lined w u later t r v (h.lines r i v t b);
}
  where
    c : Pieces
    c = record { count = k; pool = p; first = w.jobs; workers = (w.shape.pool p).workers }

    J : ℕ → Job
    J = put_pieces c (λ i j. new_piece q k p i) w.job

    u : World
    u = record w { stack = put_stack w.stack q (after_call (w.stack q) (RaiseForAll c)); job = J; jobs = w.jobs + c.workers }

    same : (t : ℕ) → t + 1 ≤ w.jobs → J t ≡ w.job t
    same t b = piece_old c (λ i j. new_piece q k p i) w.job t (piece_out c t (omega (arith, b)))

    later : Later w u
    later = record {
      jobs = omega arith;
      calls = omega arith;
      over = final_over w u a;
      shape = refl;
      gone = final_spent w u a;
      left = λ t z. final_left ((w.job t).at) ((u.job t).at) (a.final t) z;
      kind = λ t b. ap (λ j. j.kind) (same t b);
      pool = λ t b. ap (λ j. j.pool) (same t b);
      bound = λ t b. ap (λ j. j.bound) (same t b);
      target = λ c b. refl;
      side = λ c b. refl;
      ended = λ r z. z;
      spent = λ c b z. z;
      given = λ r z. z;
    }

    old : (t : ℕ) → t + 1 ≤ w.jobs + c.workers → is_piece c t ≡ false → t + 1 ≤ w.jobs
    old t b e = elim (either (ltb t w.jobs)) [ inl y ↦ (let z : t < w.jobs = ltb-true t w.jobs y in omega (arith, z)) | inr y ↦ absurd (let z : w.jobs ≤ t = ltb-false t w.jobs y in let v : is_piece c t ≡ true = piece_in c t z (omega (arith, b)) in cc) ]

    ties : (t : ℕ) → t + 1 ≤ w.jobs + c.workers → (i : ℕ) (o : Party) (z : Bool) → is_piece c t ≡ z → (if z then new_piece q k p (t - c.first) else w.job t).kind ≡ Stored i o → (i + 1 ≤ w.calls) × ((w.call i).job ≡ t)
    ties t b i o true e y = absurd (no_tie i o k y)
    ties t b i o false e y = h.ties t (old t b e) i o y

    pools : (t : ℕ) → t + 1 ≤ w.jobs + c.workers → (r : ℕ) (z : Bool) → is_piece c t ≡ z → (if z then new_piece q k p (t - c.first) else w.job t).kind ≡ Detached r → (if z then new_piece q k p (t - c.first) else w.job t).pool ≡ r
    pools t b r true e y = its_pool w p r k known y
    pools t b r false e y = h.pools t (old t b e) r y

    entries : (t : ℕ) → t + 1 ≤ w.jobs + c.workers → (i : ℕ) (o : Party) (z : Bool) → is_piece c t ≡ z → (if z then new_piece q k p (t - c.first) else w.job t).kind ≡ Scoped i o → Tied w i o
    entries t b i o true e y = its_scope w p i o k known y
    entries t b i o false e y = h.entries t (old t b e) i o y

    parts : (t : ℕ) → t + 1 ≤ w.jobs + c.workers → (i : ℕ) (o : Party) (z : Bool) → is_piece c t ≡ z → (if z then new_piece q k p (t - c.first) else w.job t).kind ≡ PieceOf i o → PartOf w t i o
    parts t b i o true e y = absurd (no_part w p i o k known y)
    parts t b i o false e y = h.parts t (old t b e) i o y

cast_calls : (w : World) (q : Party) (p : ℕ) → CallsHold w → IfSome (after_cast w q p (w.stack q)) (λ u. Advance w u → CallsHold u)
cast_calls w q p h = if_cond (λ u. Advance w u → CallsHold u) (is_free ((w.stack q).top) && is_pool w.shape p) _ (λ f a. deal_calls w q (OfPool p) p refl ((and_parts (is_free ((w.stack q).top)) (is_pool w.shape p) f).0) h a)

into_cast_calls : (w : World) (q : Party) (n : ℕ) → CallsHold w → IfSome (after_into_cast w q n (w.stack q)) (λ u. Advance w u → CallsHold u)
into_cast_calls w q n h = into_cast_cases (λ u. Advance w u → CallsHold u) w q n (λ z e free held a. deal_calls w q (OfScope z.call z.owner) z.pool (h.scopes n z e) free h a)

-- a broadcast that waits makes its pieces and the number that stands for it
gather_makes : (w : World) (q : Party) (p : ℕ) → CallsHold w → Advance w (after_gather w q p (w.stack q)) → Makes w (after_gather w q p (w.stack q)) q
    (Gather (record { call = record { number = w.calls; pool = p; job = w.jobs + (w.shape.pool p).workers }; pieces = record { count = OfCast w.calls q; pool = p; first = w.jobs; workers = (w.shape.pool p).workers } }))
gather_makes w q p h a = record {
  later = later;
  says = record {
    call = record { number = omega arith; made = omega arith; target = ap (λ i. i.job) now; kind = ap (λ j. call_kind j.kind) whole; pool = ap (λ j. j.pool) whole };
    alone = ap (λ i. i.first) now;
    pieces = made_pieces w u q c refl (omega arith) (λ t e. piece t e);
    count = refl;
    spent = ap (λ j. j.at) whole;
    whole = ap (λ j. j.kind) whole;
    last = refl;
    pool = refl;
    size = refl;
  };
  ties = λ t b i o z. ties t b i o (t == n) (is_piece c t) refl refl z;
  pools = λ t b r z. pools t b r (t == n) (is_piece c t) refl refl z;
  cells = new_cells w u (new_gathering c.workers n) refl h later;
  latches = new_latches w u (new_gathering c.workers n) refl h later;
  entries = λ t b i o z. later_tied w u later i o (entries t b i o (t == n) (is_piece c t) refl refl z);
  parts = λ t b i o z. parts t b i o (t == n) (is_piece c t) refl refl z;
}
  where
    c : Pieces
    c = record { count = OfCast w.calls q; pool = p; first = w.jobs; workers = (w.shape.pool p).workers }

    n : ℕ
    n = w.jobs + c.workers

    dealt : ℕ → Job
    dealt = put_pieces c (λ i j. new_piece q (OfCast w.calls q) p i) w.job

    u : World
    u = after_gather w q p (w.stack q)

    now : u.call w.calls ≡ new_gathering c.workers n
    now = put_new w.call w.calls (new_gathering c.workers n)

    whole : u.job n ≡ new_whole q p w.calls
    whole = put_new dealt n (new_whole q p w.calls)

    off : (t : ℕ) → t + 1 ≤ n → u.job t ≡ dealt t
    off t b = put_old dealt n (new_whole q p w.calls) t (below_new t n b)

    piece : (t : ℕ) → is_piece c t ≡ true → u.job t ≡ new_piece q (OfCast w.calls q) p (t - c.first)
    piece t e = off t (let r : (w.jobs ≤ t) × (t < w.jobs + c.workers) = piece_range c t e in let l : t < w.jobs + c.workers = r.1 in omega (arith, l)) ∙ piece_new c (λ i j. new_piece q (OfCast w.calls q) p i) w.job t e

    same : (t : ℕ) → t + 1 ≤ w.jobs → u.job t ≡ w.job t
    same t b = off t (omega (arith, b)) ∙ piece_old c (λ i j. new_piece q (OfCast w.calls q) p i) w.job t (piece_out c t (omega (arith, b)))

    call : (i : ℕ) → i + 1 ≤ w.calls → u.call i ≡ w.call i
    call i b = put_old w.call w.calls (new_gathering c.workers n) i (below_new i w.calls b)

    later : Later w u
    later = record {
      jobs = omega arith;
      calls = omega arith;
      over = final_over w u a;
      shape = refl;
      gone = final_spent w u a;
      left = λ t z. final_left ((w.job t).at) ((u.job t).at) (a.final t) z;
      kind = λ t b. ap (λ j. j.kind) (same t b);
      pool = λ t b. ap (λ j. j.pool) (same t b);
      bound = λ t b. ap (λ j. j.bound) (same t b);
      target = λ i b. ap (λ v. v.job) (call i b);
      side = λ i b. ap (λ v. v.first) (call i b);
      ended = λ r z. z;
      spent = λ i b z. ap (λ v. v.count) (call i b) ∙ z;
      given = λ r z. z;
    }

    old : (t : ℕ) → t + 1 ≤ n + 1 → (t == n) ≡ false → is_piece c t ≡ false → t + 1 ≤ w.jobs
    old t b d e = elim (either (ltb t w.jobs)) [ inl y ↦ (let z : t < w.jobs = ltb-true t w.jobs y in omega (arith, z)) | inr y ↦ absurd (let z : w.jobs ≤ t = ltb-false t w.jobs y in let k : t + 1 ≤ n = below_or t n d b in let v : is_piece c t ≡ true = piece_in c t z (omega (arith, k)) in cc) ]

    ties : (t : ℕ) → t + 1 ≤ n + 1 → (i : ℕ) (o : Party) (y z : Bool) → (t == n) ≡ y → is_piece c t ≡ z → (if y then new_whole q p w.calls else (if z then new_piece q (OfCast w.calls q) p (t - c.first) else w.job t)).kind ≡ Stored i o → (i + 1 ≤ w.calls + 1) × ((u.call i).job ≡ t)
    ties t b i o true z d e k = absurd (cc)
    ties t b i o false true d e k = absurd (cc)
    ties t b i o false false d e k = let g : (i + 1 ≤ w.calls) × ((w.call i).job ≡ t) = h.ties t (old t b d e) i o k in let m : i + 1 ≤ w.calls = g.0 in ((let v : i + 1 ≤ w.calls + 1 = omega (arith, m) in v), ap (λ v. v.job) (call i m) ∙ g.1)

    pools : (t : ℕ) → t + 1 ≤ n + 1 → (r : ℕ) (y z : Bool) → (t == n) ≡ y → is_piece c t ≡ z → (if y then new_whole q p w.calls else (if z then new_piece q (OfCast w.calls q) p (t - c.first) else w.job t)).kind ≡ Detached r
        → (if y then new_whole q p w.calls else (if z then new_piece q (OfCast w.calls q) p (t - c.first) else w.job t)).pool ≡ r
    pools t b r true z d e k = absurd (cc)
    pools t b r false true d e k = absurd (cc)
    pools t b r false false d e k = h.pools t (old t b d e) r k

    entries : (t : ℕ) → t + 1 ≤ n + 1 → (i : ℕ) (o : Party) (y z : Bool) → (t == n) ≡ y → is_piece c t ≡ z → (if y then new_whole q p w.calls else (if z then new_piece q (OfCast w.calls q) p (t - c.first) else w.job t)).kind ≡ Scoped i o → Tied w i o
    entries t b i o true z d e k = absurd (cc)
    entries t b i o false true d e k = absurd (cc)
    entries t b i o false false d e k = h.entries t (old t b d e) i o k

    new_part : (t : ℕ) → is_piece c t ≡ true → PartOf u t w.calls q
    new_part t e = let r : (w.jobs ≤ t) × (t < w.jobs + c.workers) = piece_range c t e in let l : t < w.jobs + c.workers = r.1 in let m : w.jobs ≤ t = r.0 in let j : (u.call w.calls).job ≡ n = ap (λ i. i.job) now in
        record {
          number = omega arith;
          made = (let g : (u.call w.calls).job + 1 ≤ n + 1 = omega (arith, j) in g);
          kind = ap (λ v. (u.job v).kind) j ∙ ap (λ v. v.kind) whole;
          below = (let g : t + 1 ≤ (u.call w.calls).job = omega (arith, j, l) in g);
          above = (let x : (w.shape.pool (u.job (u.call w.calls).job).pool).workers ≡ c.workers = ap (λ v. (w.shape.pool v).workers) (ap (λ v. (u.job v).pool) j ∙ ap (λ v. v.pool) whole) in
              let g : (u.call w.calls).job ≤ t + (w.shape.pool (u.job (u.call w.calls).job).pool).workers = omega (arith, j, m, x) in g);
          pool = ap (λ v. v.pool) (piece t e) ∙ sym (ap (λ v. (u.job v).pool) j ∙ ap (λ v. v.pool) whole);
        }

    parts : (t : ℕ) → t + 1 ≤ n + 1 → (i : ℕ) (o : Party) (y z : Bool) → (t == n) ≡ y → is_piece c t ≡ z → (if y then new_whole q p w.calls else (if z then new_piece q (OfCast w.calls q) p (t - c.first) else w.job t)).kind ≡ PieceOf i o → PartOf u t i o
    parts t b i o true z d e k = absurd (cc)
    parts t b i o false true d e k = let m : w.calls ≡ i = cc in let v : q ≡ o = cc in subst (λ x. PartOf u t x o) m (subst (λ x. PartOf u t w.calls x) v (new_part t e))
    parts t b i o false false d e k = later_part w u later t i o (h.parts t (old t b d e) i o k)

gather_calls : (w : World) (q : Party) (p : ℕ) → CallsHold w → IfSome (after_broadcast w q p (w.stack q)) (λ u. Advance w u → CallsHold u)
gather_calls w q p h = if_cond (λ u. Advance w u → CallsHold u) (is_free ((w.stack q).top) && is_pool w.shape p) _ (λ f a. made_calls w q _ _ _ (w.calls + 1) (w.jobs + (w.shape.pool p).workers + 1) ((and_parts (is_free ((w.stack q).top)) (is_pool w.shape p) f).0) h (gather_makes w q p h a) a)

-- a call that makes a job for a FIFO list, and a token of it
feed_calls : (w : World) (d : Count) (p i : ℕ) → KnownCount w d p → is_free (w.stack (Worker p i)).top ≡ true → CallsHold w → Advance w (after_feed w d p i (w.stack (Worker p i))) → CallsHold (after_feed w d p i (w.stack (Worker p i)))
feed_calls w d p i known free h a = made_calls w q n w.call J w.calls (w.jobs + 2) free h makes a
  where
    q : Party
    q = Worker p i

    n : Plan
    n = Feed (record { count = d; pool = p; job = w.jobs; token = w.jobs + 1 })

    first : ℕ → Job
    first = put w.job w.jobs (new_job q p (count_kind d))

    J : ℕ → Job
    J = put first (w.jobs + 1) (new_job q p (TokenOf i (count_book d)))

    u : World
    u = after_feed w d p i (w.stack q)

    same : (t : ℕ) → t + 1 ≤ w.jobs → J t ≡ w.job t
    same t b = put_old first (w.jobs + 1) (new_job q p (TokenOf i (count_book d))) t (below_new t (w.jobs + 1) (omega (arith, b))) ∙ put_old w.job w.jobs (new_job q p (count_kind d)) t (below_new t w.jobs b)

    mine : J w.jobs ≡ new_job q p (count_kind d)
    mine = put_old first (w.jobs + 1) (new_job q p (TokenOf i (count_book d))) w.jobs (below_new w.jobs (w.jobs + 1) (omega arith)) ∙ put_new w.job w.jobs (new_job q p (count_kind d))

    token : J (w.jobs + 1) ≡ new_job q p (TokenOf i (count_book d))
    token = put_new first (w.jobs + 1) (new_job q p (TokenOf i (count_book d)))

    later : Later w u
    later = record {
      jobs = omega arith;
      calls = omega arith;
      over = final_over w u a;
      shape = refl;
      gone = final_spent w u a;
      left = λ t z. final_left ((w.job t).at) ((u.job t).at) (a.final t) z;
      kind = λ t b. ap (λ j. j.kind) (same t b);
      pool = λ t b. ap (λ j. j.pool) (same t b);
      bound = λ t b. ap (λ j. j.bound) (same t b);
      target = λ c b. refl;
      side = λ c b. refl;
      given = λ r e. e;
      spent = λ c b z. z;
      ended = λ r e. e;
    }

    ties : (t : ℕ) (c : ℕ) (o : Party) (y z : Bool) → (t == (w.jobs + 1)) ≡ y → (t == w.jobs) ≡ z → t + 1 ≤ w.jobs + 2 → (if y then new_job q p (TokenOf i (count_book d)) else (if z then new_job q p (count_kind d) else w.job t)).kind ≡ Stored c o → (c + 1 ≤ w.calls) × ((w.call c).job ≡ t)
    ties t c o true z e f b k = absurd (cc)
    ties t c o false true e f b k = absurd (no_tie c o d k)
    ties t c o false false e f b k = h.ties t (below_or t w.jobs f (below_or t (w.jobs + 1) e (omega (arith, b)))) c o k

    pools : (t r : ℕ) (y z : Bool) → (t == (w.jobs + 1)) ≡ y → (t == w.jobs) ≡ z → t + 1 ≤ w.jobs + 2 → (if y then new_job q p (TokenOf i (count_book d)) else (if z then new_job q p (count_kind d) else w.job t)).kind ≡ Detached r
        → (if y then new_job q p (TokenOf i (count_book d)) else (if z then new_job q p (count_kind d) else w.job t)).pool ≡ r
    pools t r true z e f b k = absurd (cc)
    pools t r false true e f b k = its_pool w p r d known k
    pools t r false false e f b k = h.pools t (below_or t w.jobs f (below_or t (w.jobs + 1) e (omega (arith, b)))) r k

    entries : (t : ℕ) (c : ℕ) (o : Party) (y z : Bool) → (t == (w.jobs + 1)) ≡ y → (t == w.jobs) ≡ z → t + 1 ≤ w.jobs + 2 → (if y then new_job q p (TokenOf i (count_book d)) else (if z then new_job q p (count_kind d) else w.job t)).kind ≡ Scoped c o → Tied w c o
    entries t c o true z e f b k = absurd (cc)
    entries t c o false true e f b k = its_scope w p c o d known k
    entries t c o false false e f b k = h.entries t (below_or t w.jobs f (below_or t (w.jobs + 1) e (omega (arith, b)))) c o k

    parts : (t : ℕ) (c : ℕ) (o : Party) (y z : Bool) → (t == (w.jobs + 1)) ≡ y → (t == w.jobs) ≡ z → t + 1 ≤ w.jobs + 2 → (if y then new_job q p (TokenOf i (count_book d)) else (if z then new_job q p (count_kind d) else w.job t)).kind ≡ PieceOf c o → PartOf w t c o
    parts t c o true z e f b k = absurd (cc)
    parts t c o false true e f b k = absurd (no_part w p c o d known k)
    parts t c o false false e f b k = h.parts t (below_or t w.jobs f (below_or t (w.jobs + 1) e (omega (arith, b)))) c o k

    makes : Makes w u q n
    makes = record {
      later = later;
      says = (
        record { made = omega arith; kind = ap (λ j. j.kind) mine; pool = ap (λ j. j.pool) mine; bound = ap (λ j. j.bound) mine },
        record { made = omega arith; kind = ap (λ j. j.kind) token; pool = ap (λ j. j.pool) token; bound = ap (λ j. j.bound) token },
        refl,
        later_known w u later d p known,
      );
      ties = λ t b c o k. ties t c o (t == (w.jobs + 1)) (t == w.jobs) refl refl b k;
      pools = λ t b r k. pools t r (t == (w.jobs + 1)) (t == w.jobs) refl refl b k;
      cells = λ c e z. later_as w u later ((w.call c).job) c e (h.cells c e z);
      latches = λ c z. later_latch w u later 0 (OfCall c) (h.latches c z);
      entries = λ t b c o k. later_tied w u later c o (entries t c o (t == (w.jobs + 1)) (t == w.jobs) refl refl b k);
      parts = λ t b c o k. later_part w u later t c o (parts t c o (t == (w.jobs + 1)) (t == w.jobs) refl refl b k);
    }

fifo_calls : (w : World) (q : Party) (p : ℕ) → CallsHold w → IfSome (after_fifo w q p (w.stack q)) (λ u. Advance w u → CallsHold u)
fifo_calls w q p h = fifo_cases (λ u. Advance w u → CallsHold u) w q p (spawn_calls w q p h) (λ i free a. feed_calls w (OfPool p) p i refl free h a)

sent_calls : (w : World) (q : Party) (p : ℕ) (b : Bool) → is_free (w.stack q).top ≡ true → CallsHold w → Advance w (after_send w q p (w.stack q) b) → CallsHold (after_send w q p (w.stack q) b)
sent_calls w q p true f h a = made_calls w q (Here p w.jobs) w.call (put w.job w.jobs (new_job q p Direct)) w.calls (w.jobs + 1) f h (plain_makes w q (Here p w.jobs) p Direct (λ c o z. cc) (λ r z. cc) (λ c o z. absurd (cc)) (λ c o z. absurd (cc)) (λ u l s. s) h a) a
sent_calls w q p false f h a = made_calls w q (Send (record { number = w.calls; pool = p; job = w.jobs })) (put w.call w.calls (new_call None w.jobs)) (put w.job w.jobs (new_job q p (Stored w.calls q))) (w.calls + 1) (w.jobs + 1) f h
    (send_makes w q p (Send (record { number = w.calls; pool = p; job = w.jobs })) (Stored w.calls q) refl (λ c o z. cc) refl refl (λ u s. s) h a) a

install_calls : (w : World) (q : Party) (p : ℕ) → CallsHold w → IfSome (after_install w q p (w.stack q)) (λ u. Advance w u → CallsHold u)
install_calls w q p h = if_cond (λ u. Advance w u → CallsHold u) (is_free ((w.stack q).top) && is_pool w.shape p) _ (λ f a. sent_calls w q p (is_member q p) ((and_parts (is_free ((w.stack q).top)) (is_pool w.shape p) f).0) h a)

-- a list of scopes with more of them
rescoped_calls : (u : World) (l : List Scope) → ((n : ℕ) (z : Scope) → slice_get l n ≡ Some z → Tied u z.call z.owner) → CallsHold u → CallsHold (record u { scopes = l })
rescoped_calls u l b h = record {
  jobs = record { ok = record { placed = (h.jobs).ok.placed; fit = (h.jobs).ok.fit }; unmade = (h.jobs).unmade; known = (h.jobs).known; feeds = (h.jobs).feeds };
  says = λ q. later_stack u (record u { scopes = l }) same q (u.stack q) (h.says q);
  ties = h.ties;
  pools = h.pools;
  cells = λ c e z. later_as u (record u { scopes = l }) same ((u.call c).job) c e (h.cells c e z);
  latches = λ c z. later_latch u (record u { scopes = l }) same 0 (OfCall c) (h.latches c z);
  entries = λ t y c o z. later_tied u (record u { scopes = l }) same c o (h.entries t y c o z);
  parts = λ t y c o z. later_part u (record u { scopes = l }) same t c o (h.parts t y c o z);
  scopes = λ n z e. later_tied u (record u { scopes = l }) same z.call z.owner (b n z e);
  ends = h.ends;
  lines = λ p i v t z. later_lined u (record u { scopes = l }) same t p v (h.lines p i v t z);
}
  where
    same : Later u (record u { scopes = l })
    same = record { jobs = omega arith; calls = omega arith; over = λ t e z. z; left = λ t z. z; kind = λ t z. refl; pool = λ t z. refl; bound = λ t z. refl; target = λ c z. refl; side = λ c z. refl; shape = refl; gone = λ t z. z; ended = λ p z. z; spent = λ c z y. y; given = λ p z. z }

-- a scope is opened: its call is as one that waits for its body
scope_calls : (w : World) (q : Party) (p : ℕ) → CallsHold w → IfSome (after_scope w q p (w.stack q)) (λ u. Advance w u → CallsHold u)
scope_calls w q p h = if_cond (λ u. Advance w u → CallsHold u) (is_free ((w.stack q).top) && is_pool w.shape p) _
    (λ f a. rescoped_calls v l (more (plain a)) (made_calls w q n (put w.call w.calls (new_call None w.jobs)) (put w.job w.jobs (new_job q p (BodyOf w.calls q))) (w.calls + 1) (w.jobs + 1) ((and_parts (is_free ((w.stack q).top)) (is_pool w.shape p) f).0) h
    (send_makes w q p n (BodyOf w.calls q) refl (λ c o z. absurd (cc)) refl refl (λ u s. s) h (plain a)) (plain a)))
  where
    n : Plan
    n = Open (record { number = w.calls; pool = p; job = w.jobs })

    v : World
    v = calling w q n (put w.call w.calls (new_call None w.jobs)) (put w.job w.jobs (new_job q p (BodyOf w.calls q))) (w.calls + 1) (w.jobs + 1)

    s : Scope
    s = record { call = w.calls; pool = p; owner = q }

    l : List Scope
    l = w.scopes ++ s ∷ []

    plain : Advance w (record v { scopes = l }) → Advance w v
    plain a = record { feeds = a.feeds; placed = a.placed; fit = a.fit; final = a.final; unmade = a.unmade; known = a.known }

    mine : Tied v w.calls q
    mine = let j : (v.call w.calls).job ≡ w.jobs = ap (λ i. i.job) (put_new w.call w.calls (new_call None w.jobs)) in
        record { number = omega arith; made = (let g : (v.call w.calls).job + 1 ≤ w.jobs + 1 = omega (arith, j) in g); kind = ap (λ t. (v.job t).kind) j ∙ ap (λ i. i.kind) (put_new w.job w.jobs (new_job q p (BodyOf w.calls q))) }

    later : Advance w v → Later w v
    later a = (send_makes w q p n (BodyOf w.calls q) refl (λ c o z. absurd (cc)) refl refl (λ u s. s) h a).later

    more : Advance w v → (m : ℕ) (z : Scope) → slice_get l m ≡ Some z → Tied v z.call z.owner
    more a m z e = elim (added w.scopes s m z e) [ inl old ↦ later_tied w v (later a) z.call z.owner (h.scopes m z old) | inr now ↦ subst (λ (y : Scope). Tied v y.call y.owner) now mine ]

into_scope : (w : World) (q : Party) (n : ℕ) (z : Scope) → slice_get w.scopes n ≡ Some z → is_free ((w.stack q).top) ≡ true → CallsHold w → IfSome (after_enter w q (w.stack q) (Some z)) (λ u. Advance w u → CallsHold u)
into_scope w q n z e free h = if_cond (λ u. Advance w u → CallsHold u) (is_free ((w.stack q).top) && holds z.call (w.stack q)) _ (λ f a.
    let m : Plan = Enter (record { call = z.call; owner = z.owner; pool = z.pool; job = w.jobs }) in
    made_calls w q m w.call (put w.job w.jobs (new_job q z.pool (Scoped z.call z.owner))) w.calls (w.jobs + 1) free h
    (plain_makes w q m z.pool (Scoped z.call z.owner) (λ c o y. absurd (cc)) (λ r y. absurd (cc)) (λ c o y. its_scope w z.pool c o (OfScope z.call z.owner) (h.scopes n z e) y) (λ c o y. absurd (cc)) (λ u l s. (s, later_tied w u l z.call z.owner (h.scopes n z e))) h a) a)

into_calls : (w : World) (q : Party) (n : ℕ) → CallsHold w → IfSome (after_into w q n (w.stack q)) (λ u. Advance w u → CallsHold u)
into_calls w q n h = into_cases (λ u. Advance w u → CallsHold u) w q n (λ z e free held. into_scope w q n z e free h)

into_fifo_calls : (w : World) (q : Party) (n : ℕ) → CallsHold w → IfSome (after_into_fifo w q n (w.stack q)) (λ u. Advance w u → CallsHold u)
into_fifo_calls w q n h = into_fifo_cases (λ u. Advance w u → CallsHold u) w q n (λ z e free held. into_scope w q n z e free h) (λ z i e free held a. feed_calls w (OfScope z.call z.owner) z.pool i (h.scopes n z e) free h a)

join_calls : (w : World) (q : Party) → CallsHold w → IfSome (after_join w q (w.stack q)) (λ u. Advance w u → CallsHold u)
join_calls w (Caller n) h = tt
join_calls w (Worker p i) h = if_cond (λ u. Advance w u → CallsHold u) (is_free ((w.stack (Worker p i)).top)) _
    (λ f a. made_calls w (Worker p i) (Fork (record { number = w.calls; pool = p; job = w.jobs + 1 }) w.jobs) (put w.call w.calls (new_call (Some w.jobs) (w.jobs + 1))) (put (put w.job w.jobs (new_job (Worker p i) p Direct)) (w.jobs + 1) (new_job (Worker p i) p (Stored w.calls (Worker p i))))
    (w.calls + 1) (w.jobs + 2) f h (fork_makes w p i h a) a)

-- each step keeps what the places, cells and latches say
pub step_calls : (w : World) (e : Event) → CallsHold w → IfSome (step w e) CallsHold
step_calls w (Go q) h = acted_keeps w q (w.stack q) (target_pool q (act_of q ((w.stack q).top))) (target_worker q (act_of q ((w.stack q).top))) (target_call (act_of q ((w.stack q).top))) (job_at w q (act_of q ((w.stack q).top))) (outcome w q (w.stack q)) CallsHold (go_calls w q h)
step_calls w (From q v) h = both w (step w (From q v)) (step_advance w (From q v) (unqueued w h) ((h.jobs).feeds) ((h.jobs).ok) ((h.jobs).unmade)) (from_calls w q ((w.stack q).top) ((w.stack q).below) v refl h)
step_calls w (Refuse q) h = both w (step w (Refuse q)) (step_advance w (Refuse q) (unqueued w h) ((h.jobs).feeds) ((h.jobs).ok) ((h.jobs).unmade)) (refuse_calls w q ((w.stack q).top) ((w.stack q).below) refl h)
step_calls w (Miss q) h = both w (step w (Miss q)) (step_advance w (Miss q) (unqueued w h) ((h.jobs).feeds) ((h.jobs).ok) ((h.jobs).unmade)) (miss_calls w q ((w.stack q).top) ((w.stack q).below) refl h)
step_calls w (End q d) h = both w (step w (End q d)) (step_advance w (End q d) (unqueued w h) ((h.jobs).feeds) ((h.jobs).ok) ((h.jobs).unmade)) (end_calls w q d ((w.stack q).top) ((w.stack q).below) refl h)
step_calls w (Spawn q p) h = both w (step w (Spawn q p)) (step_advance w (Spawn q p) (unqueued w h) ((h.jobs).feeds) ((h.jobs).ok) ((h.jobs).unmade)) (spawn_calls w q p h)
step_calls w (Fifo q p) h = both w (step w (Fifo q p)) (step_advance w (Fifo q p) (unqueued w h) ((h.jobs).feeds) ((h.jobs).ok) ((h.jobs).unmade)) (fifo_calls w q p h)
step_calls w (Cast q p) h = both w (step w (Cast q p)) (step_advance w (Cast q p) (unqueued w h) ((h.jobs).feeds) ((h.jobs).ok) ((h.jobs).unmade)) (cast_calls w q p h)
step_calls w (Install q p) h = both w (step w (Install q p)) (step_advance w (Install q p) (unqueued w h) ((h.jobs).feeds) ((h.jobs).ok) ((h.jobs).unmade)) (install_calls w q p h)
step_calls w (Join q) h = both w (step w (Join q)) (step_advance w (Join q) (unqueued w h) ((h.jobs).feeds) ((h.jobs).ok) ((h.jobs).unmade)) (join_calls w q h)
step_calls w (OpenScope q p) h = both w (step w (OpenScope q p)) (step_advance w (OpenScope q p) (unqueued w h) ((h.jobs).feeds) ((h.jobs).ok) ((h.jobs).unmade)) (scope_calls w q p h)
step_calls w (IntoSpawn q n) h = both w (step w (IntoSpawn q n)) (step_advance w (IntoSpawn q n) (unqueued w h) ((h.jobs).feeds) ((h.jobs).ok) ((h.jobs).unmade)) (into_calls w q n h)
step_calls w (IntoFifo q n) h = both w (step w (IntoFifo q n)) (step_advance w (IntoFifo q n) (unqueued w h) ((h.jobs).feeds) ((h.jobs).ok) ((h.jobs).unmade)) (into_fifo_calls w q n h)
step_calls w (IntoCast q n) h = both w (step w (IntoCast q n)) (step_advance w (IntoCast q n) (unqueued w h) ((h.jobs).feeds) ((h.jobs).ok) ((h.jobs).unmade)) (into_cast_calls w q n h)
step_calls w (Broadcast q p) h = both w (step w (Broadcast q p)) (step_advance w (Broadcast q p) (unqueued w h) ((h.jobs).feeds) ((h.jobs).ok) ((h.jobs).unmade)) (gather_calls w q p h)
step_calls w (Yield q) h = both w (step w (Yield q)) (step_advance w (Yield q) (unqueued w h) ((h.jobs).feeds) ((h.jobs).ok) ((h.jobs).unmade)) (yield_calls w q YieldPop (λ u r. tt) h)
step_calls w (YieldLocal q) h = both w (step w (YieldLocal q)) (step_advance w (YieldLocal q) (unqueued w h) ((h.jobs).feeds) ((h.jobs).ok) ((h.jobs).unmade)) (yield_calls w q LocalPop (λ u r. tt) h)
step_calls w (EndPool q p) h = both w (step w (EndPool q p)) (step_advance w (EndPool q p) (unqueued w h) ((h.jobs).feeds) ((h.jobs).ok) ((h.jobs).unmade)) (give_calls w q p h)

first_says : (h : Shape) (q : Party) → StackSays (start h) q ((start h).stack q)
first_says h (Caller n) = at (nat_lt n h.callers)
  where
    at : (z : Bool) → StackSays (start h) (Caller n) (record { top = if z then Free else Stopped; below = [] })
    at true = record { top = tt; below = tt; links = tt }
    at false = record { top = tt; below = tt; links = tt }
first_says h (Worker p i) = at (nat_lt i (h.pool p).workers) ((h.pool p).callers_own && (i == 0))
  where
    at : (y z : Bool) → StackSays (start h) (Worker p i) (record { top = if y then (if z then Free else ProbeWorking (fresh Termination)) else Stopped; below = [] })
    at true true = record { top = tt; below = tt; links = tt }
    at true false = record { top = tt; below = tt; links = tt }
    at false z = record { top = tt; below = tt; links = tt }

pub first_calls : (h : Shape) → CallsHold (start h)
first_calls h = record {
  jobs = first_jobs h;
  says = first_says h;
  ties = λ t b c o z. cc;
  pools = λ t b p z. cc;
  cells = λ c e z. cc;
  latches = λ c z. absurd (cc);
  entries = λ t b c o z. absurd (cc);
  parts = λ t b c o z. absurd (cc);
  scopes = λ n z e. absurd (cc);
  ends = λ p i z. cc;
  lines = λ p i v t b. absurd (omega (arith, b));
}

pub always_calls : (h : Shape) (es : List Event) (w : World) → IsRun (start h) es w → CallsHold w
always_calls h es w r = run_keeps CallsHold step_calls (start h) w es (first_calls h) r

pub always_once : (h : Shape) (es : List Event) (w : World) → IsRun (start h) es w → IsOnce w
always_once h es w r = once w ((always_calls h es w r).jobs)
