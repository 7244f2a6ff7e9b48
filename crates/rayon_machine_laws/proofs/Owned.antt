-- in every world of every run what a party's places name are its own calls, and who sets a call's latch sets it for its
-- owner
--
-- `SetsFor` says for whom a latch is set.
use Rattle.rayon_machine_places.specs.declared.place.Count.{Count}
use Rattle.rayon_machine_places.specs.declared.place.Pieces.{Pieces}
use Rattle.rayon_machine_runs.specs.declared.state.Scope.{Scope}
use Rattle.rayon_machine_places.specs.declared.place.Count.TheVariants.{OfPool, OfScope, OfCast}
use Rattle.std.proofs.Common.{arith, refl, sym, ◌∙◌, ap, subst, inl, inr}
use Rattle.std.specs.Prelude.{ℕ, Bool, true, false, ◌&&◌, ◌+◌, ◌-◌, ◌==◌, ◌<◌, ◌≤◌, nat_lt, if◌then◌else◌, Option, Some, None, List, [], ◌∷◌, ◌≡◌, ◌⊎◌, IfSome, ◌++◌, slice_get, zero, suc}
use Rattle.std.proofs.lemmas.Bool.{eqb-true, ltb-true, ltb-false}
use Rattle.rayon_machine_places.specs.declared.place.Party.{Party}
use Rattle.rayon_machine_places.specs.declared.place.Party.TheVariants.{Worker, Caller}
use Rattle.rayon_machine_places.specs.declared.place.Ending.{Ending}
use Rattle.rayon_machine_places.specs.declared.place.Ending.TheVariants.{Fine, Fault}
use Rattle.rayon_machine_places.specs.declared.place.JobKind.{JobKind}
use Rattle.rayon_machine_places.specs.declared.place.JobKind.TheVariants.{Detached, Stored, Direct, TokenOf, Scoped, BodyOf, PieceOf, WholeOf}
use Rattle.rayon_machine_places.specs.declared.place.Target.TheVariants.{Termination}
use Rattle.rayon_machine_places.specs.declared.place.Plan.TheVariants.{Detach, Here, Send, Fork, Feed, Open, Enter, Gather}
use Rattle.rayon_machine_places.specs.declared.place.Share.TheVariants.{PoolValue, OfJob}
use Rattle.rayon_machine_places.specs.declared.place.Then.TheVariants.{Resume}
use Rattle.rayon_machine_places.specs.declared.place.Place.{Place}
use Rattle.rayon_machine_places.specs.declared.place.Place.TheVariants.{ProbeWorking, YieldPop, LocalPop, Run, RaiseCount, LowerCount, FirstSide, SecondSide, AtOnce, Free, Stopped, RaiseForAll, ScopeBody}
use Rattle.rayon_machine_runs.specs.declared.event.Event.{Event}
use Rattle.rayon_machine_runs.specs.declared.event.Event.TheVariants.{Go}
use Rattle.rayon_machine_runs.specs.declared.state.Whereabouts.TheVariants.{Over}
use Rattle.rayon_machine_runs.specs.declared.state.Job.{Job}
use Rattle.rayon_machine_places.specs.Places.{same_party, fresh, act_of, goes_on, count_kind, count_book}
use Rattle.rayon_machine_runs.specs.World.{Shape, Stack, World, at_job}
use Rattle.rayon_machine_places.specs.Targets.{target_pool, target_worker, target_call}
use Rattle.rayon_machine_runs.specs.Steps.{put, put_stack, with_stack, after_close, after_call, new_job, new_call, after_send, step, after_feed, is_piece, new_piece, put_pieces, after_deal, after_gather, new_whole, new_gathering}
use Rattle.rayon_machine_runs.specs.Runs.{first_place, start}
use Rattle.rayon_machine_laws.proofs.Cases.{Turn, NoCall, NoScope, NoCast, NoDeal, turn_from, turn_to, with_job, with_join, with_scope, is_act, event_cases}
use Rattle.rayon_machine_laws.proofs.Frame.{same_party_true, if_some_map, acted_keeps, either, put_same, put_new, put_old, piece_old, piece_out}
use Rattle.rayon_machine_laws.proofs.Owners.{own_call, sets_for, NamesFrom, plan_is, shown, count_sets}
use Rattle.rayon_machine_laws.proofs.Ties.{job_at, outcome}
use Rattle.rayon_machine_laws.proofs.OwnedActs.{SetsFor, owner_of, Mine, Names, StackNames, Owned, Grown, grown_mine, grown_sets, grown_stack, from_names, nameless, number_of, setter_of, owner_calls, some_shown, go_owned}

-- an event that is no act: one party's stack is another, which names only its own calls
record Bears (w u : World) : Type 0 where
  party : Party
  to : Stack
  stack : (r : Party) → u.stack r ≡ put_stack w.stack party to r
  grown : Grown w u
  kinds : (t c : ℕ) (o : Party) → owner_of (u.job t).kind ≡ Some (c, o) → Mine u o c
  called : (c : ℕ) → c < u.calls → (u.call c).job < u.jobs
  scopes : (n : ℕ) (z : Scope) → slice_get u.scopes n ≡ Some z → Mine u z.owner z.call
  named : StackNames u party to

bears_owned : (w u : World) → Owned w → Bears w u → Owned u
bears_owned w u ow m = record {
  kinds = m.kinds;
  called = m.called;
  scopes = m.scopes;
  named = λ r. subst (StackNames u r) (sym (m.stack r)) (at r (same_party r (m.party)) refl);
}
  where
    at : (r : Party) (b : Bool) → same_party r (m.party) ≡ b → StackNames u r (if b then m.to else w.stack r)
    at r true e = subst (λ z. StackNames u z (m.to)) (sym (same_party_true r (m.party) e)) (m.named)
    at r false e = grown_stack w u ow (m.grown) r (w.stack r) (ow.named r)

-- the calls and jobs are as they were
stands : (w : World) (f : Party → Stack) → Grown w (record w { stack = f })
stands w f = record { calls = omega arith; call = λ c l. refl; kind = λ t l. refl }

same_stack : (w : World) (q : Party) (x : Place) (fs : List Place) → Owned w → w.stack q ≡ record { top = x; below = fs } → StackNames w q (record { top = x; below = fs })
same_stack w q x fs ow e = subst (StackNames w q) e (ow.named q)

-- from one place to another that names no more
turn_bears : (w : World) (q : Party) (x y : Place) (fs : List Place) → Owned w → w.stack q ≡ record { top = x; below = fs } → NamesFrom x y → Bears w (with_stack w q (record { top = y; below = fs }))
turn_bears w q x y fs ow e f =
    let s : StackNames w q (record { top = x; below = fs }) = same_stack w q x fs ow e in
    let u : World = with_stack w q (record { top = y; below = fs }) in
    let g : Grown w u = stands w (put_stack w.stack q (record { top = y; below = fs })) in
    record {
      party = q;
      to = record { top = y; below = fs };
      stack = λ r. refl;
      grown = g;
      kinds = λ t c o k. grown_mine w u ow g o c (ow.kinds t c o k);
      called = ow.called;
      scopes = λ n z e. grown_mine w u ow g z.owner z.call (ow.scopes n z e);
      named = grown_stack w u ow g q (record { top = y; below = fs }) (record { top = from_names w q x y f s.top; below = s.below });
    }

turn_names : (t : Turn) → NamesFrom (turn_from t) (turn_to t)
turn_names (NoCall n) = (λ c z. plan_is n c z, λ c p z. z)
turn_names (NoScope o) = (λ c z. z, λ c p z. absurd (cc))
turn_names (NoCast g) = (λ c z. z, λ c p z. absurd (cc))
turn_names (NoDeal g) = (λ c z. z, λ c p z. absurd (cc))
turn_names _ = (λ c z. z, λ c p z. z)

goes_on_names : (w : World) (q : Party) (f : Place) (e : Ending) → Names w q f → Names w q (goes_on f e)
goes_on_names w q (FirstSide o a) Fine n = record { own = λ c z. n.own c z; sets = λ c p z. absurd (cc) }
goes_on_names w q (FirstSide o a) Fault n = record { own = λ c z. n.own c z; sets = λ c p z. absurd (cc) }
goes_on_names w q (SecondSide o) e n = record { own = λ c z. n.own c z; sets = λ c p z. absurd (cc) }
goes_on_names w q (ScopeBody o) e n = record { own = λ c z. n.own c z; sets = λ c p z. absurd (cc) }
goes_on_names w q (AtOnce p t) e n = record { own = λ c z. absurd (cc); sets = λ c p z. absurd (cc) }
goes_on_names w q (ProbeWorking k) e n = n
goes_on_names w q _ e n = n

closed_names : (w : World) (q : Party) (t : ℕ) (k : JobKind) (d : Ending) (fs : List Place) → StackNames w q (record { top = Run t k; below = fs }) → StackNames w q (after_close t k d fs)
closed_names w q t (Detached p) d fs s = record { top = nameless w q (LowerCount (OfPool p) (OfJob t) Resume) refl refl; below = s.below }
closed_names w q t (Stored c o) d fs s = record { top = record { own = λ c z. absurd (cc); sets = λ c p z. (s.top).sets c p z }; below = s.below }
closed_names w q t (Scoped c o) d fs s = record { top = record { own = λ c z. absurd (cc); sets = λ c p z. (s.top).sets c p z }; below = s.below }
closed_names w q t (PieceOf c o) d fs s = record { top = record { own = λ c z. absurd (cc); sets = λ c p z. (s.top).sets c p z }; below = s.below }
closed_names w q t (WholeOf c9 o9) d [] s = record { top = nameless w q Stopped refl refl; below = tt }
closed_names w q t (WholeOf c9 o9) d (f ∷ fs) s = record { top = goes_on_names w q f d ((s.below).0); below = (s.below).1 }
closed_names w q t Direct d [] s = record { top = nameless w q Stopped refl refl; below = tt }
closed_names w q t (TokenOf i b8) d [] s = record { top = nameless w q Stopped refl refl; below = tt }
closed_names w q t (BodyOf c9 o9) d [] s = record { top = nameless w q Stopped refl refl; below = tt }
closed_names w q t Direct d (f ∷ fs) s = record { top = goes_on_names w q f d ((s.below).0); below = (s.below).1 }
closed_names w q t (TokenOf i b8) d (f ∷ fs) s = record { top = goes_on_names w q f d ((s.below).0); below = (s.below).1 }
closed_names w q t (BodyOf c9 o9) d (f ∷ fs) s = record { top = goes_on_names w q f d ((s.below).0); below = (s.below).1 }

end_bears : (w : World) (q : Party) (d : Ending) (t : ℕ) (k : JobKind) (fs : List Place) → Owned w → w.stack q ≡ record { top = Run t k; below = fs } → Bears w (record w { stack = put_stack w.stack q (after_close t k d fs); job = put w.job t (at_job (w.job t) (Over d)) })
end_bears w q d t k fs ow e =
    let u : World = record w { stack = put_stack w.stack q (after_close t k d fs); job = put w.job t (at_job (w.job t) (Over d)) } in
    let same : (n : ℕ) → (u.job n).kind ≡ (w.job n).kind = λ n. put_same (λ j. j.kind) w.job t (at_job (w.job t) (Over d)) n refl in
    let g : Grown w u = record { calls = omega arith; call = λ c l. refl; kind = λ n l. same n } in
    record {
      party = q;
      to = after_close t k d fs;
      stack = λ r. refl;
      grown = g;
      kinds = λ n c o z. grown_mine w u ow g o c (ow.kinds n c o (ap owner_of (sym (same n)) ∙ z));
      called = ow.called;
      scopes = λ n z e. grown_mine w u ow g z.owner z.call (ow.scopes n z e);
      named = grown_stack w u ow g q (after_close t k d fs) (closed_names w q t k d fs (same_stack w q (Run t k) fs ow e));
    }

-- a new job, of a call that was there or of none
owned_job : (w : World) (q : Party) (t : ℕ) (v : Job) (f : Party → Stack) → Owned w → w.jobs ≤ t → ((c : ℕ) (o : Party) → owner_of v.kind ≡ Some (c, o) → Mine w o c) → (n : ℕ) → w.jobs ≤ n
    → Grown w (record w { stack = f; job = put w.job t v; jobs = n }) × ((u c : ℕ) (o : Party) → owner_of (put w.job t v u).kind ≡ Some (c, o) → Mine (record w { stack = f; job = put w.job t v; jobs = n }) o c)
owned_job w q t v f ow new own n more = (g, kinds)
  where
    u : World
    u = record w { stack = f; job = put w.job t v; jobs = n }

    old : (m : ℕ) → m < w.jobs → (put w.job t v m).kind ≡ (w.job m).kind
    old m l = at (m == t) refl
      where
        at : (b : Bool) → (m == t) ≡ b → (if b then v else w.job m).kind ≡ (w.job m).kind
        at true z = absurd (let s : m ≡ t = eqb-true m t z in omega arith)
        at false z = refl

    g : Grown w u
    g = record { calls = omega arith; call = λ c l. refl; kind = λ m l. old m l }

    kinds : (m c : ℕ) (o : Party) → owner_of (put w.job t v m).kind ≡ Some (c, o) → Mine u o c
    kinds m c o = at (m == t) refl
      where
        at : (b : Bool) → (m == t) ≡ b → owner_of (if b then v else w.job m).kind ≡ Some (c, o) → Mine u o c
        at true z h = grown_mine w u ow g o c (own c o h)
        at false z h = grown_mine w u ow g o c (ow.kinds m c o h)

called_names : (w u : World) (q : Party) (y : Place) → Owned w → Grown w u → Names u q y → StackNames u q (after_call (w.stack q) y)
called_names w u q y ow g n = let s : StackNames u q (w.stack q) = grown_stack w u ow g q (w.stack q) (ow.named q) in record { top = n; below = (s.top, s.below) }

spawn_bears : (w : World) (q : Party) (p : ℕ) → Owned w → Bears w (with_job w q p (Detached p) (RaiseCount (Detach p w.jobs)))
spawn_bears w q p ow =
    let y : Place = RaiseCount (Detach p w.jobs) in
    let v : Job = new_job q p (Detached p) in
    let h = owned_job w q w.jobs v (put_stack w.stack q (after_call (w.stack q) y)) ow (omega arith) (λ c o z. absurd (cc)) (w.jobs + 1) (omega arith) in
    let u : World = record w { stack = put_stack w.stack q (after_call (w.stack q) y); job = put w.job w.jobs v; jobs = w.jobs + 1 } in
    record {
      party = q;
      to = after_call (w.stack q) y;
      stack = λ r. refl;
      grown = h.0;
      kinds = h.1;
      called = λ c l. (let z : (w.call c).job < w.jobs = ow.called c l in omega arith);
      scopes = λ n z e. grown_mine w u ow (h.0) z.owner z.call (ow.scopes n z e);
      named = called_names w u q y ow (h.0) (nameless u q y refl refl);
    }

-- the call of a count is there, and its owner's
abbrev OwnsCount : World → Count → Type 0
OwnsCount w k = (c : ℕ) (o : Party) → owner_of (count_kind k) ≡ Some (c, o) → Mine w o c

pool_counts : (w : World) (p : ℕ) → OwnsCount w (OfPool p)
pool_counts w p = λ c o e. absurd (cc)

scope_counts : (w : World) (c : ℕ) (o : Party) → Mine w o c → OwnsCount w (OfScope c o)
scope_counts w c o m = λ d r e. subst (λ a. Mine w a d) (ap setter_of e) (subst (Mine w o) (ap number_of e) m)

count_names : (w : World) (k : Count) → OwnsCount w k → (c : ℕ) (p : Party) → count_sets k ≡ Some (c, p) → SetsFor w c p
count_names w (OfPool r) n c p e = absurd (cc)
count_names w (OfScope d o) n c p e = let m : Mine w o d = n d o refl in subst (SetsFor w c) (ap some_shown e) (subst (λ a. SetsFor w a (shown o)) (ap number_of e) (m.0, owner_calls (w.job (w.call d).job).kind d o (m.1)))
count_names w (OfCast d o) n c p e = let m : Mine w o d = n d o refl in subst (SetsFor w c) (ap some_shown e) (subst (λ a. SetsFor w a (shown o)) (ap number_of e) (m.0, owner_calls (w.job (w.call d).job).kind d o (m.1)))

feed_bears : (w : World) (k : Count) (p i : ℕ) → OwnsCount w k → Owned w → Bears w (after_feed w k p i (w.stack (Worker p i)))
feed_bears w k p i known ow = record {
  party = q;
  to = after_call (w.stack q) y;
  stack = λ r. refl;
  grown = g;
  kinds = λ n c o h. kinds n c o (n == (w.jobs + 1)) (n == w.jobs) h;
  called = λ c l. (let z : (w.call c).job < w.jobs = ow.called c l in omega arith);
  scopes = λ n z e. grown_mine w u ow g z.owner z.call (ow.scopes n z e);
  named = called_names w u q y ow g (record { own = λ c e. absurd (cc); sets = λ c p e. grown_sets w u ow g c p (count_names w k known c p e) });
}
  where
    q : Party
    q = Worker p i

    y : Place
    y = RaiseCount (Feed (record { count = k; pool = p; job = w.jobs; token = w.jobs + 1 }))

    u : World
    u = after_feed w k p i (w.stack q)

    old : (n : ℕ) → n < w.jobs → (b d : Bool) → (n == (w.jobs + 1)) ≡ b → (n == w.jobs) ≡ d → (if b then new_job q p (TokenOf i (count_book k)) else (if d then new_job q p (count_kind k) else w.job n)).kind ≡ (w.job n).kind
    old n l true d e f = absurd (let s : n ≡ w.jobs + 1 = eqb-true n (w.jobs + 1) e in omega arith)
    old n l false true e f = absurd (let s : n ≡ w.jobs = eqb-true n w.jobs f in omega arith)
    old n l false false e f = refl

    g : Grown w u
    g = record { calls = omega arith; call = λ c l. refl; kind = λ n l. old n l (n == (w.jobs + 1)) (n == w.jobs) refl refl }

    kinds : (n c : ℕ) (o : Party) (b d : Bool) → owner_of (if b then new_job q p (TokenOf i (count_book k)) else (if d then new_job q p (count_kind k) else w.job n)).kind ≡ Some (c, o) → Mine u o c
    kinds n c o true d h = absurd (cc)
    kinds n c o false true h = grown_mine w u ow g o c (known c o h)
    kinds n c o false false h = grown_mine w u ow g o c (ow.kinds n c o h)

deal_bears : (w : World) (q : Party) (k : Count) (p : ℕ) → OwnsCount w k → Owned w → Bears w (after_deal w q k p (w.stack q))
deal_bears w q k p known ow =
    let y : Place = RaiseForAll b in
    record {
      party = q;
      to = after_call (w.stack q) y;
      stack = λ r. refl;
      grown = g;
      kinds = kinds;
      called = λ c l. (let z : (w.call c).job < w.jobs = ow.called c l in omega (arith, z));
      scopes = λ n z e. grown_mine w u ow g z.owner z.call (ow.scopes n z e);
      named = called_names w u q y ow g (record { own = λ c e. absurd (cc); sets = λ c p e. grown_sets w u ow g c p (count_names w k known c p e) });
    }
  where
    b : Pieces
    b = record { count = k; pool = p; first = w.jobs; workers = (w.shape.pool p).workers }

    u : World
    u = record w { stack = put_stack w.stack q (after_call (w.stack q) (RaiseForAll b)); job = put_pieces b (λ i j. new_piece q k p i) w.job; jobs = w.jobs + b.workers }

    g : Grown w u
    g = record { calls = omega arith; call = λ c l. refl; kind = λ m l. ap (λ j. j.kind) (piece_old b (λ i j. new_piece q k p i) w.job m (piece_out b m l)) }

    kinds : (m c : ℕ) (o : Party) → owner_of (u.job m).kind ≡ Some (c, o) → Mine u o c
    kinds m c o = at (is_piece b m)
      where
        at : (z : Bool) → owner_of (if z then new_piece q k p (m - b.first) else w.job m).kind ≡ Some (c, o) → Mine u o c
        at true h = grown_mine w u ow g o c (known c o h)
        at false h = grown_mine w u ow g o c (ow.kinds m c o h)

here_bears : (w : World) (q : Party) (p : ℕ) → Owned w → Bears w (after_send w q p (w.stack q) true)
here_bears w q p ow =
    let y : Place = RaiseCount (Here p w.jobs) in
    let v : Job = new_job q p Direct in
    let h = owned_job w q w.jobs v (put_stack w.stack q (after_call (w.stack q) y)) ow (omega arith) (λ c o z. absurd (cc)) (w.jobs + 1) (omega arith) in
    let u : World = record w { stack = put_stack w.stack q (after_call (w.stack q) y); job = put w.job w.jobs v; jobs = w.jobs + 1 } in
    record {
      party = q;
      to = after_call (w.stack q) y;
      stack = λ r. refl;
      grown = h.0;
      kinds = h.1;
      called = λ c l. (let z : (w.call c).job < w.jobs = ow.called c l in omega arith);
      scopes = λ n z e. grown_mine w u ow (h.0) z.owner z.call (ow.scopes n z e);
      named = called_names w u q y ow (h.0) (nameless u q y refl refl);
    }

abbrev at_call : ℕ → Party → Option (ℕ × Party)
at_call c o = Some (c, o)

-- a new call of a party, with its job, above the jobs that were there
record NewCall (w u : World) (q : Party) (t : ℕ) : Type 0 where
  above : w.jobs ≤ t
  within : t < u.jobs
  calls : u.calls ≡ w.calls + 1
  call : (c : ℕ) → c < w.calls → (u.call c).job ≡ (w.call c).job
  new : (u.call w.calls).job ≡ t
  kind : owner_of (u.job t).kind ≡ Some (w.calls, q)
  old : (n : ℕ) → n < w.jobs → (u.job n).kind ≡ (w.job n).kind
  scopes : (n : ℕ) (z : Scope) → slice_get u.scopes n ≡ Some z → (slice_get w.scopes n ≡ Some z) ⊎ ((z.call ≡ w.calls) × (z.owner ≡ q))
  others : (n c : ℕ) (o : Party) → owner_of (u.job n).kind ≡ Some (c, o) → (at_call w.calls q ≡ Some (c, o)) ⊎ (owner_of (w.job n).kind ≡ Some (c, o))

new_grown : (w u : World) (q : Party) (t : ℕ) → NewCall w u q t → Grown w u
new_grown w u q t n = record { calls = (let z : u.calls ≡ w.calls + 1 = n.calls in omega arith); call = n.call; kind = n.old }

new_mine : (w u : World) (q : Party) (t : ℕ) → NewCall w u q t → Mine u q w.calls
new_mine w u q t n = (let z : u.calls ≡ w.calls + 1 = n.calls in omega arith, ap (λ m. owner_of (u.job m).kind) n.new ∙ n.kind)

abbrev option_or : Option ℕ → ℕ
option_or None = 0
option_or (Some a) = a

new_bears : (w u : World) (q : Party) (t : ℕ) (y : Place) → Owned w → NewCall w u q t → ((r : Party) → u.stack r ≡ put_stack w.stack q (after_call (w.stack q) y) r) → own_call y ≡ Some w.calls → sets_for y ≡ None → Bears w u
new_bears w u q t y ow n st own sets =
    let g : Grown w u = new_grown w u q t n in
    record {
      party = q;
      to = after_call (w.stack q) y;
      stack = st;
      grown = g;
      kinds = λ m c o z. elim (n.others m c o z) [
        | inl k ↦ (subst (λ a. Mine u a c) (ap setter_of k) (subst (Mine u q) (ap number_of k) (new_mine w u q t n)))
        | inr old ↦ grown_mine w u ow g o c (ow.kinds m c o old)
      ];
      called = λ c l. at c l (nat_lt c w.calls) refl;
      scopes = λ m z e. elim (n.scopes m z e) [
        | inl old ↦ grown_mine w u ow g z.owner z.call (ow.scopes m z old)
        | inr now ↦ subst (λ c. Mine u z.owner c) (sym (now.0)) (subst (λ o. Mine u o w.calls) (sym (now.1)) (new_mine w u q t n))
      ];
      named = called_names w u q y ow g (record { own = λ c e. subst (Mine u q) (let s : Some w.calls ≡ Some c = sym own ∙ e in ap (λ o. option_or o) s) (new_mine w u q t n); sets = λ c p e. absurd (let s : None ≡ Some (c, p) = sym sets ∙ e in cc) });
    }
  where
    at : (c : ℕ) → c < u.calls → (b : Bool) → nat_lt c w.calls ≡ b → (u.call c).job < u.jobs
    at c l true z = (let a : c < w.calls = ltb-true c w.calls z in let o : (w.call c).job < w.jobs = ow.called c a in let s : (u.call c).job ≡ (w.call c).job = n.call c a in let v : w.jobs ≤ t = n.above in let x : t < u.jobs = n.within in omega arith)
    at c l false z = (let a : w.calls ≤ c = ltb-false c w.calls z in let s : u.calls ≡ w.calls + 1 = n.calls in let is : c ≡ w.calls = omega arith in let v : (u.call c).job ≡ t = ap (λ a. (u.call a).job) is ∙ n.new in let x : t < u.jobs = n.within in omega arith)

-- a scope of a list with one more is an old one or that one
pub added : (l : List Scope) (s : Scope) (n : ℕ) (z : Scope) → slice_get (l ++ s ∷ []) n ≡ Some z → (slice_get l n ≡ Some z) ⊎ (s ≡ z)
added [] s zero z e = inr (cc)
added [] s (suc n) z e = absurd (cc)
added (y ∷ ys) s zero z e = inl e
added (y ∷ ys) s (suc n) z e = added ys s n z e

put_below : {A : Type 0} (f : ℕ → A) (k : ℕ) (v : A) (n : ℕ) → n < k → put f k v n ≡ f n
put_below f k v n l = put_old f k v n (elim (either (n == k)) [ inl z ↦ absurd (let s : n ≡ k = eqb-true n k z in omega arith) | inr z ↦ z ])

sent_bears : (w : World) (q : Party) (p : ℕ) → Owned w → Bears w (after_send w q p (w.stack q) false)
sent_bears w q p ow = new_bears w u q w.jobs y ow new (λ r. refl) refl refl
  where
    y : Place
    y = RaiseCount (Send (record { number = w.calls; pool = p; job = w.jobs }))

    u : World
    u = after_send w q p (w.stack q) false

    other : (n c : ℕ) (o : Party) (b : Bool) → (n == w.jobs) ≡ b → owner_of (if b then new_job q p (Stored w.calls q) else w.job n).kind ≡ Some (c, o) → (at_call w.calls q ≡ Some (c, o)) ⊎ (owner_of (w.job n).kind ≡ Some (c, o))
    other n c o true z h = inl h
    other n c o false z h = inr h

    new : NewCall w u q w.jobs
    new = record {
      above = omega arith;
      within = omega arith;
      calls = refl;
      call = λ c l. ap (λ a. a.job) (put_below w.call w.calls (new_call None w.jobs) c l);
      new = ap (λ a. a.job) (put_new w.call w.calls (new_call None w.jobs));
      kind = ap (λ a. owner_of a.kind) (put_new w.job w.jobs (new_job q p (Stored w.calls q)));
      old = λ n l. ap (λ a. a.kind) (put_below w.job w.jobs (new_job q p (Stored w.calls q)) n l);
      scopes = λ n z e. inl e;
      others = λ n c o h. other n c o (n == w.jobs) refl h;
    }

scope_bears : (w : World) (q : Party) (p : ℕ) → Owned w → Bears w (with_scope w q p)
scope_bears w q p ow = new_bears w u q w.jobs y ow new (λ r. refl) refl refl
  where
    y : Place
    y = RaiseCount (Open (record { number = w.calls; pool = p; job = w.jobs }))

    u : World
    u = record w {
      stack = put_stack w.stack q (after_call (w.stack q) y);
      job = put w.job w.jobs (new_job q p (BodyOf w.calls q));
      call = put w.call w.calls (new_call None w.jobs);
      jobs = w.jobs + 1;
      calls = w.calls + 1;
      scopes = w.scopes ++ record { call = w.calls; pool = p; owner = q } ∷ [];
    }

    other : (n c : ℕ) (o : Party) (b : Bool) → (n == w.jobs) ≡ b → owner_of (if b then new_job q p (BodyOf w.calls q) else w.job n).kind ≡ Some (c, o) → (at_call w.calls q ≡ Some (c, o)) ⊎ (owner_of (w.job n).kind ≡ Some (c, o))
    other n c o true z h = inl h
    other n c o false z h = inr h

    new : NewCall w u q w.jobs
    new = record {
      above = omega arith;
      within = omega arith;
      calls = refl;
      call = λ c l. ap (λ a. a.job) (put_below w.call w.calls (new_call None w.jobs) c l);
      new = ap (λ a. a.job) (put_new w.call w.calls (new_call None w.jobs));
      kind = ap (λ a. owner_of a.kind) (put_new w.job w.jobs (new_job q p (BodyOf w.calls q)));
      old = λ n l. ap (λ a. a.kind) (put_below w.job w.jobs (new_job q p (BodyOf w.calls q)) n l);
      scopes = λ n z e. elim (added w.scopes (record { call = w.calls; pool = p; owner = q }) n z e) [ inl old ↦ inl old | inr now ↦ inr (sym (ap (λ (a : Scope). a.call) now), sym (ap (λ (a : Scope). a.owner) now)) ];
      others = λ n c o h. other n c o (n == w.jobs) refl h;
    }

into_scope : (w : World) (q : Party) (n : ℕ) (z : Scope) → Owned w → slice_get w.scopes n ≡ Some z → Bears w (with_job w q z.pool (Scoped z.call z.owner) (RaiseCount (Enter (record { call = z.call; owner = z.owner; pool = z.pool; job = w.jobs }))))
into_scope w q n z ow e =
    let y : Place = RaiseCount (Enter (record { call = z.call; owner = z.owner; pool = z.pool; job = w.jobs })) in
    let v : Job = new_job q z.pool (Scoped z.call z.owner) in
    let own : Mine w z.owner z.call = ow.scopes n z e in
    let h = owned_job w q w.jobs v (put_stack w.stack q (after_call (w.stack q) y)) ow (omega arith) (λ c o k. subst (λ a. Mine w a c) (ap setter_of k) (subst (Mine w z.owner) (ap number_of k) own)) (w.jobs + 1) (omega arith) in
    let u : World = record w { stack = put_stack w.stack q (after_call (w.stack q) y); job = put w.job w.jobs v; jobs = w.jobs + 1 } in
    record {
      party = q;
      to = after_call (w.stack q) y;
      stack = λ r. refl;
      grown = h.0;
      kinds = h.1;
      called = λ c l. (let z : (w.call c).job < w.jobs = ow.called c l in omega arith);
      scopes = λ n z e. grown_mine w u ow (h.0) z.owner z.call (ow.scopes n z e);
      named = called_names w u q y ow (h.0) (record {
        own = λ c e. absurd (cc);
        sets = λ c p e. grown_sets w u ow (h.0) c p
            (subst (SetsFor w c) (ap some_shown e) (subst (λ a. SetsFor w a (shown z.owner)) (ap number_of e) (own.0, owner_calls (w.job (w.call z.call).job).kind z.call z.owner (own.1))));
      });
    }

gather_bears : (w : World) (q : Party) (p : ℕ) → Owned w → Bears w (after_gather w q p (w.stack q))
gather_bears w q p ow = new_bears w u q (w.jobs + b.workers) y ow new (λ r. refl) refl refl
  where
    b : Pieces
    b = record { count = OfCast w.calls q; pool = p; first = w.jobs; workers = (w.shape.pool p).workers }

    y : Place
    y = RaiseCount (Gather (record { call = record { number = w.calls; pool = p; job = w.jobs + b.workers }; pieces = b }))

    dealt : ℕ → Job
    dealt = put_pieces b (λ i j. new_piece q (OfCast w.calls q) p i) w.job

    u : World
    u = after_gather w q p (w.stack q)

    pieces : (n c : ℕ) (o : Party) (z : Bool) → owner_of (if z then new_piece q (OfCast w.calls q) p (n - b.first) else w.job n).kind ≡ Some (c, o) → (at_call w.calls q ≡ Some (c, o)) ⊎ (owner_of (w.job n).kind ≡ Some (c, o))
    pieces n c o true h = inl h
    pieces n c o false h = inr h

    other : (n c : ℕ) (o : Party) (z : Bool) → owner_of (if z then new_whole q p w.calls else dealt n).kind ≡ Some (c, o) → (at_call w.calls q ≡ Some (c, o)) ⊎ (owner_of (w.job n).kind ≡ Some (c, o))
    other n c o true h = inl h
    other n c o false h = pieces n c o (is_piece b n) h

    new : NewCall w u q (w.jobs + b.workers)
    new = record {
      above = omega arith;
      within = omega arith;
      calls = refl;
      call = λ c l. ap (λ a. a.job) (put_below w.call w.calls (new_gathering b.workers (w.jobs + b.workers)) c l);
      new = ap (λ a. a.job) (put_new w.call w.calls (new_gathering b.workers (w.jobs + b.workers)));
      kind = ap (λ a. owner_of a.kind) (put_new dealt (w.jobs + b.workers) (new_whole q p w.calls));
      old = λ n l. ap (λ a. a.kind) (put_below dealt (w.jobs + b.workers) (new_whole q p w.calls) n (omega (arith, l))) ∙ ap (λ j. j.kind) (piece_old b (λ i j. new_piece q (OfCast w.calls q) p i) w.job n (piece_out b n l));
      scopes = λ n z e. inl e;
      others = λ n c o h. other n c o (n == (w.jobs + b.workers)) h;
    }

join_bears : (w : World) (p i : ℕ) → Owned w → Bears w (with_join w p i)
join_bears w p i ow = new_bears w u q (w.jobs + 1) y ow new (λ r. refl) refl refl
  where
    q : Party
    q = Worker p i

    y : Place
    y = RaiseCount (Fork (record { number = w.calls; pool = p; job = w.jobs + 1 }) w.jobs)

    first : ℕ → Job
    first = put w.job w.jobs (new_job q p Direct)

    u : World
    u = record w {
      stack = put_stack w.stack q (after_call (w.stack q) y);
      job = put first (w.jobs + 1) (new_job q p (Stored w.calls q));
      call = put w.call w.calls (new_call (Some w.jobs) (w.jobs + 1));
      jobs = w.jobs + 2;
      calls = w.calls + 1;
    }

    other : (n c : ℕ) (o : Party) (b d : Bool) → (n == (w.jobs + 1)) ≡ b → (n == w.jobs) ≡ d → owner_of (if b then new_job q p (Stored w.calls q) else (if d then new_job q p Direct else w.job n)).kind ≡ Some (c, o) → (at_call w.calls q ≡ Some (c, o)) ⊎ (owner_of (w.job n).kind ≡ Some (c, o))
    other n c o true d z f h = inl h
    other n c o false true z f h = absurd (cc)
    other n c o false false z f h = inr h

    new : NewCall w u q (w.jobs + 1)
    new = record {
      above = omega arith;
      within = omega arith;
      calls = refl;
      call = λ c l. ap (λ a. a.job) (put_below w.call w.calls (new_call (Some w.jobs) (w.jobs + 1)) c l);
      new = ap (λ a. a.job) (put_new w.call w.calls (new_call (Some w.jobs) (w.jobs + 1)));
      kind = ap (λ a. owner_of a.kind) (put_new first (w.jobs + 1) (new_job q p (Stored w.calls q)));
      old = λ n l. ap (λ a. a.kind) (put_below first (w.jobs + 1) (new_job q p (Stored w.calls q)) n (omega arith)) ∙ ap (λ a. a.kind) (put_below w.job w.jobs (new_job q p Direct) n l);
      scopes = λ n z e. inl e;
      others = λ n c o h. other n c o (n == (w.jobs + 1)) (n == w.jobs) refl refl h;
    }

yield_bears : (w : World) (q : Party) (x : Place) → Owned w → own_call x ≡ None → sets_for x ≡ None → Bears w (with_stack w q (after_call (w.stack q) x))
yield_bears w q x ow a b =
    let u : World = with_stack w q (after_call (w.stack q) x) in
    let g : Grown w u = stands w (put_stack w.stack q (after_call (w.stack q) x)) in
    record { party = q; to = after_call (w.stack q) x; stack = λ r. refl; grown = g; kinds = λ t c o k. grown_mine w u ow g o c (ow.kinds t c o k); called = ow.called; scopes = λ n z e. grown_mine w u ow g z.owner z.call (ow.scopes n z e); named = called_names w u q x ow g (nameless u q x a b) }

give_bears : (w : World) (q : Party) (p : ℕ) → Owned w → Bears w (record w { stack = put_stack w.stack q (after_call (w.stack q) (LowerCount (OfPool p) PoolValue Resume)); pool = put w.pool p (record (w.pool p) { held = false }) })
give_bears w q p ow =
    let y : Place = LowerCount (OfPool p) PoolValue Resume in
    let u : World = record w { stack = put_stack w.stack q (after_call (w.stack q) y); pool = put w.pool p (record (w.pool p) { held = false }) } in
    let g : Grown w u = record { calls = omega arith; call = λ c l. refl; kind = λ t l. refl } in
    record {
      party = q;
      to = after_call (w.stack q) y;
      stack = λ r. refl;
      grown = g;
      kinds = λ t c o k. grown_mine w u ow g o c (ow.kinds t c o k);
      called = ow.called;
      scopes = λ n z e. grown_mine w u ow g z.owner z.call (ow.scopes n z e);
      named = called_names w u q y ow g (nameless u q y refl refl);
    }

event_bears : (w : World) → Owned w → (e : Event) → is_act e ≡ false → IfSome (step w e) (Bears w)
event_bears w ow = event_cases (Bears w) w (record {
  turned = λ q t fs z. turn_bears w q (turn_from t) (turn_to t) fs ow z (turn_names t);
  ended = λ q d t k fs z. end_bears w q d t k fs ow z;
  spawned = λ q p f. spawn_bears w q p ow;
  fed = λ p i f. feed_bears w (OfPool p) p i (pool_counts w p) ow;
  dealt = λ q p f. deal_bears w q (OfPool p) p (pool_counts w p) ow;
  sent = λ q p b e f. sent q p b;
  joined = λ p i f. join_bears w p i ow;
  scoped = λ q p f. scope_bears w q p ow;
  entered = λ q z k. into_scope w q k.number z ow k.there;
  fed_into = λ i z k. feed_bears w (OfScope z.call z.owner) z.pool i (scope_counts w z.call z.owner (ow.scopes k.number z k.there)) ow;
  dealt_into = λ q z k. deal_bears w q (OfScope z.call z.owner) z.pool (scope_counts w z.call z.owner (ow.scopes k.number z k.there)) ow;
  gathered = λ q p f. gather_bears w q p ow;
  yielded = λ p i f. yield_bears w (Worker p i) YieldPop ow refl refl;
  yielded_local = λ p i f. yield_bears w (Worker p i) LocalPop ow refl refl;
  given = λ q p f held. give_bears w q p ow;
})
  where
    sent : (q : Party) (p : ℕ) (b : Bool) → Bears w (after_send w q p (w.stack q) b)
    sent q p true = here_bears w q p ow
    sent q p false = sent_bears w q p ow

pub step_owned : (w : World) (e : Event) → Owned w → IfSome (step w e) Owned
step_owned w (Go q) ow = acted_keeps w q (w.stack q) (target_pool q (act_of q (w.stack q).top)) (target_worker q (act_of q (w.stack q).top)) (target_call (act_of q (w.stack q).top)) (job_at w q (act_of q (w.stack q).top)) (outcome w q (w.stack q)) Owned (go_owned w ow q)
step_owned w e ow = if_some_map (Bears w) Owned (λ u m. bears_owned w u ow m) (step w e) (event_bears w ow e refl)

first_nameless : (h : Shape) (q : Party) → Names (start h) q (first_place h q)
first_nameless h (Worker p i) = at (nat_lt i (h.pool p).workers) ((h.pool p).callers_own && (i == 0))
  where
    at : (b d : Bool) → Names (start h) (Worker p i) (if b then (if d then Free else ProbeWorking (fresh Termination)) else Stopped)
    at true true = nameless (start h) (Worker p i) Free refl refl
    at true false = nameless (start h) (Worker p i) (ProbeWorking (fresh Termination)) refl refl
    at false d = nameless (start h) (Worker p i) Stopped refl refl
first_nameless h (Caller c) = at (nat_lt c h.callers)
  where
    at : (b : Bool) → Names (start h) (Caller c) (if b then Free else Stopped)
    at true = nameless (start h) (Caller c) Free refl refl
    at false = nameless (start h) (Caller c) Stopped refl refl

pub first_owned : (h : Shape) → Owned (start h)
first_owned h = record { kinds = λ t c o e. absurd (cc); called = λ c l. absurd (omega arith); scopes = λ n z e. absurd (cc); named = λ q. record { top = first_nameless h q; below = tt } }
