-- who holds a FIFO list, over the events that are no acts and over each step of each run
use Rattle.rayon_machine_places.specs.declared.place.Count.{Count}
use Rattle.rayon_machine_places.specs.declared.place.Count.TheVariants.{OfPool, OfScope}
use Rattle.std.proofs.Common.{refl, sym, ◌∙◌, ap, subst, inl, inr, nat_lt}
use Rattle.std.specs.Prelude.{ℕ, Bool, true, false, ◌&&◌, ◌+◌, ◌==◌, if◌then◌else◌, Option, Some, None, List, [], ◌∷◌, ◌≡◌, IfSome, ◌⊎◌}
use Rattle.rayon_machine_places.specs.declared.place.Then.TheVariants.{Resume}
use Rattle.rayon_machine_places.specs.declared.place.Feeding.{Feeding}
use Rattle.rayon_machine_places.specs.declared.place.Place.{Place}
use Rattle.rayon_machine_runs.specs.declared.state.Whereabouts.TheVariants.{Over}
use Rattle.rayon_machine_laws.proofs.Cases.{Turn, NoToken, turn_from, turn_to, is_act, is_free_at, event_cases}
use Rattle.rayon_machine_laws.proofs.Tops.{FramesOk}
use Rattle.rayon_machine_laws.proofs.Ties.{AllFrames, outcome, job_at}
use Rattle.rayon_machine_places.specs.declared.place.Place.TheVariants.{RaiseCount, ProbeWorking, Run, FirstSide, Free, JoinProbe, TakeFromFifo, SecondSide, AtOnce, LocalPop, LowerCount, Stopped, YieldPop, RaiseForAll, ScopeBody}
use Rattle.rayon_machine_places.specs.declared.place.Ending.{Ending}
use Rattle.rayon_machine_places.specs.declared.place.JobKind.{JobKind}
use Rattle.rayon_machine_places.specs.declared.place.Party.{Party}
use Rattle.rayon_machine_runs.specs.World.{Shape, World, Stack, at_job}
use Rattle.rayon_machine_places.specs.Targets.{target_pool, target_call, target_worker}
use Rattle.rayon_machine_laws.proofs.Seats.{is_frame}
use Rattle.rayon_machine_places.specs.Places.{is_free, goes_on, same_party, act_of, fresh, is_member}
use Rattle.rayon_machine_runs.specs.declared.event.Event.{Event}
use Rattle.rayon_machine_places.specs.declared.place.Plan.TheVariants.{Feed, Here, Fork, Send, Detach, Open, Enter, Gather}
use Rattle.rayon_machine_places.specs.declared.place.Party.TheVariants.{Worker, Caller}
use Rattle.rayon_machine_runs.specs.Steps.{after_close, after_send, put_stack, with_stack, after_call, step, after_feed, put}
use Rattle.rayon_machine_runs.specs.Runs.{first_place, start, IsRun}
use Rattle.rayon_machine_places.specs.declared.place.JobKind.TheVariants.{Detached, Stored, Direct, TokenOf, Scoped, BodyOf, PieceOf, WholeOf}
use Rattle.rayon_machine_laws.proofs.Frame.{same_party_true, if_some_map, acted_keeps, if_some_and}
use Rattle.rayon_machine_places.specs.declared.place.Target.TheVariants.{Termination}
use Rattle.rayon_machine_runs.specs.declared.event.Event.TheVariants.{Go}
use Rattle.rayon_machine_laws.proofs.Events.{run_keeps}
use Rattle.rayon_machine_places.specs.declared.place.Ending.TheVariants.{Fault, Fine}
use Rattle.rayon_machine_places.specs.declared.place.Share.TheVariants.{PoolValue}
use Rattle.rayon_machine_laws.proofs.Attended.{aside_frames}
use Rattle.rayon_machine_laws.proofs.Holding.{go_frames}
use Rattle.rayon_machine_laws.proofs.Asides.{steps_aside}
use Rattle.rayon_machine_laws.proofs.Feeders.{FeedersHold, HeldLast, feeds_now, go_feeders, is_waiting, no_waits_at, some_feeding, waits, waits_at, waits_feeds}

-- an event that is no act
record Shifts (w u : World) : Type 0 where
  party : Party
  to : Stack
  stack : (r : Party) → u.stack r ≡ put_stack w.stack party to r
  seat : (p i : ℕ) → u.seat p i ≡ w.seat p i
  now : (f : Feeding) → feeds_now (to.top) ≡ Some f → (feeds_now ((w.stack party).top) ≡ Some f) ⊎ (f.token ≡ f.job + 1)
  wait : (f : Feeding) → waits (to.top) ≡ Some f → waits ((w.stack party).top) ≡ Some f
  hold : (v : Option ℕ) → waits_at v ((w.stack party).top) ≡ true → waits_at v (to.top) ≡ true

shift_feeders : (w u : World) → FeedersHold w → FramesOk u → Shifts w u → FeedersHold u
shift_feeders w u h fr m = record {
  frames = fr;
  feeds = λ p i f e. subst (λ s. HeldLast (Worker p i) s f) (sym (m.seat p i)) (h.feeds p i f (feeds (Worker p i) f (same_party (Worker p i) (m.party)) refl (ap (λ k. waits (k.top)) (sym (m.stack (Worker p i))) ∙ e)));
  held = λ p i v g e. (let a : (g ≡ Worker p i) × (waits_at v ((w.stack g).top) ≡ true) = h.held p i v g (ap (λ s. s.feeder v) (sym (m.seat p i)) ∙ e) in (a.0, ap (λ k. waits_at v (k.top)) (m.stack g) ∙ held v g (same_party g (m.party)) refl (a.1)));
  pairs = λ s f e. pairs s f (same_party s (m.party)) refl (ap (λ k. feeds_now (k.top)) (sym (m.stack s)) ∙ e);
}
  where
    feeds : (g : Party) (f : Feeding) (b : Bool) → same_party g (m.party) ≡ b → waits ((if b then m.to else w.stack g).top) ≡ Some f → waits ((w.stack g).top) ≡ Some f
    feeds g f true y e = ap (λ v. waits ((w.stack v).top)) (same_party_true g (m.party) y) ∙ m.wait f e
    feeds g f false y e = e

    held : (v : Option ℕ) (g : Party) (b : Bool) → same_party g (m.party) ≡ b → waits_at v ((w.stack g).top) ≡ true → waits_at v ((if b then m.to else w.stack g).top) ≡ true
    held v g true y e = m.hold v (ap (λ s. waits_at v ((w.stack s).top)) (sym (same_party_true g (m.party) y)) ∙ e)
    held v g false y e = e

    pairs : (s : Party) (f : Feeding) (b : Bool) → same_party s (m.party) ≡ b → feeds_now ((if b then m.to else w.stack s).top) ≡ Some f → f.token ≡ f.job + 1
    pairs s f true y e = elim (m.now f e) [ inl a ↦ h.pairs (m.party) f a | inr a ↦ a ]
    pairs s f false y e = h.pairs s f e

-- from a place that has nothing to do with FIFO lists to another, and from one that refuses
shift_at : (w : World) (q : Party) (x y : Place) (fs : List Place) → w.stack q ≡ record { top = x; below = fs } → is_waiting x ≡ false → feeds_now y ≡ None → Shifts w (with_stack w q (record { top = y; below = fs }))
shift_at w q x y fs z n e = record {
  party = q;
  to = record { top = y; below = fs };
  stack = λ r. refl;
  seat = λ p i. refl;
  now = λ f a. absurd (cc);
  wait = λ f a. absurd (let b : feeds_now y ≡ Some f = waits_feeds y f a in cc);
  hold = λ v a. absurd (let b : is_waiting ((w.stack q).top) ≡ false = ap (λ k. is_waiting (k.top)) z ∙ n in let c : true ≡ false = sym a ∙ no_waits_at v ((w.stack q).top) b in cc);
}

-- each turn but a refused token's, which stays with its list
turn_shifts : (w : World) (q : Party) (t : Turn) (fs : List Place) → w.stack q ≡ record { top = turn_from t; below = fs } → Shifts w (with_stack w q (record { top = turn_to t; below = fs }))
turn_shifts w q (NoToken f v) fs z = record {
  party = q;
  to = record { top = TakeFromFifo f; below = fs };
  stack = λ r. refl;
  seat = λ p i. refl;
  now = λ g a. inl (ap (λ k. feeds_now (k.top)) z ∙ a);
  wait = λ g a. ap (λ k. waits (k.top)) z ∙ a;
  hold = λ b a. sym (ap (λ k. waits_at b (k.top)) z) ∙ a;
}
turn_shifts w q t fs z = shift_at w q (turn_from t) (turn_to t) fs z refl refl

goes_on_free : (f : Place) (e : Ending) → is_frame f ≡ true → feeds_now (goes_on f e) ≡ None
goes_on_free (FirstSide o a) Fine m = refl
goes_on_free (FirstSide o a) Fault m = refl
goes_on_free (ProbeWorking k) e m = refl
goes_on_free (JoinProbe o) e m = refl
goes_on_free (SecondSide o) e m = refl
goes_on_free (ScopeBody o) e m = refl
goes_on_free (AtOnce p t) e m = refl
goes_on_free (Run t k) e m = refl
goes_on_free Free e m = refl
goes_on_free Stopped e m = refl
goes_on_free _ e m = cc

closed_free : (t : ℕ) (k : JobKind) (d : Ending) (fs : List Place) → AllFrames fs → feeds_now ((after_close t k d fs).top) ≡ None
closed_free t (Detached p) d fs a = refl
closed_free t (Stored c o) d fs a = refl
closed_free t (Scoped c o) d fs a = refl
closed_free t (PieceOf c o) d fs a = refl
closed_free t Direct d [] a = refl
closed_free t (TokenOf i b) d [] a = refl
closed_free t (BodyOf c o) d [] a = refl
closed_free t (WholeOf c o) d [] a = refl
closed_free t Direct d (f ∷ fs) a = goes_on_free f d (a.0)
closed_free t (TokenOf i b) d (f ∷ fs) a = goes_on_free f d (a.0)
closed_free t (BodyOf c o) d (f ∷ fs) a = goes_on_free f d (a.0)
closed_free t (WholeOf c o) d (f ∷ fs) a = goes_on_free f d (a.0)

end_shifts : (w : World) (q : Party) (d : Ending) (t : ℕ) (k : JobKind) (fs : List Place) → w.stack q ≡ record { top = Run t k; below = fs } → AllFrames fs
    → Shifts w (record w { stack = put_stack w.stack q (after_close t k d fs); job = put w.job t (at_job (w.job t) (Over d)) })
end_shifts w q d t k fs z a = record {
  party = q;
  to = after_close t k d fs;
  stack = λ r. refl;
  seat = λ p i. refl;
  now = λ f e. absurd (let b : feeds_now ((after_close t k d fs).top) ≡ None = closed_free t k d fs a in let c : Some f ≡ None = sym e ∙ b in cc);
  wait = λ f e. absurd (let b : feeds_now ((after_close t k d fs).top) ≡ None = closed_free t k d fs a in let g : feeds_now ((after_close t k d fs).top) ≡ Some f = waits_feeds ((after_close t k d fs).top) f e in let c : Some f ≡ None = sym g ∙ b in cc);
  hold = λ v e. absurd (let b : waits_at v ((w.stack q).top) ≡ false = ap (λ k. waits_at v (k.top)) z in let c : true ≡ false = sym e ∙ b in cc);
}

free_not_waiting : (x : Place) → is_free x ≡ true → is_waiting x ≡ false
free_not_waiting (Run t k) e = refl
free_not_waiting Free e = refl
free_not_waiting _ e = cc

-- a call begins above a free place
begin_shifts : (w u : World) (q : Party) (y : Place) → is_free (w.stack q).top ≡ true → ((r : Party) → u.stack r ≡ put_stack w.stack q (after_call (w.stack q) y) r) → ((p i : ℕ) → u.seat p i ≡ w.seat p i) → waits y ≡ None → ((f : Feeding) → feeds_now y ≡ Some f → f.token ≡ f.job + 1) → Shifts w u
begin_shifts w u q y f s c n e = record {
  party = q;
  to = after_call (w.stack q) y;
  stack = s;
  seat = c;
  now = λ g a. inr (e g a);
  wait = λ g a. absurd (cc);
  hold = λ v a. absurd (let b : waits_at v ((w.stack q).top) ≡ false = no_waits_at v ((w.stack q).top) (free_not_waiting ((w.stack q).top) f) in let k : true ≡ false = sym a ∙ b in cc);
}

-- a spawn in order begins
feed_shifts : (w : World) (k : Count) (p i : ℕ) → is_free_at w (Worker p i) → Shifts w (after_feed w k p i (w.stack (Worker p i)))
feed_shifts w k p i free = begin_shifts w _ (Worker p i) (RaiseCount (Feed n)) free (λ r. refl) (λ p i. refl) refl (λ f e. subst (λ g. g.token ≡ g.job + 1) (some_feeding n f e) refl)
  where
    n : Feeding
    n = record { count = k; pool = p; job = w.jobs; token = w.jobs + 1 }

-- any other call begins, which has nothing to do with FIFO lists
call_shifts : (w u : World) (q : Party) (y : Place) → is_free_at w q → ((r : Party) → u.stack r ≡ put_stack w.stack q (after_call (w.stack q) y) r) → ((p i : ℕ) → u.seat p i ≡ w.seat p i) → feeds_now y ≡ None → waits y ≡ None → Shifts w u
call_shifts w u q y free s c n m = begin_shifts w u q y free s c m (λ f e. absurd (let k : Some f ≡ None = sym e ∙ n in cc))

event_shifts : (w : World) → FramesOk w → (e : Event) → is_act e ≡ false → IfSome (step w e) (Shifts w)
event_shifts w fr = event_cases (Shifts w) w (record {
  turned = turn_shifts w;
  ended = λ q d t k fs z. end_shifts w q d t k fs z (subst (λ s. AllFrames (s.below)) z (fr q));
  spawned = λ q p f. call_shifts w _ q (RaiseCount (Detach p w.jobs)) f (λ r. refl) (λ p i. refl) refl refl;
  fed = λ p i f. feed_shifts w (OfPool p) p i f;
  dealt = λ q p f. call_shifts w _ q (RaiseForAll _) f (λ r. refl) (λ p i. refl) refl refl;
  sent = sent;
  joined = λ p i f. call_shifts w _ (Worker p i) (RaiseCount (Fork _ w.jobs)) f (λ r. refl) (λ p i. refl) refl refl;
  scoped = λ q p f. call_shifts w _ q (RaiseCount (Open _)) f (λ r. refl) (λ p i. refl) refl refl;
  entered = λ q z k. call_shifts w _ q (RaiseCount (Enter _)) k.free (λ r. refl) (λ p i. refl) refl refl;
  fed_into = λ i z k. feed_shifts w (OfScope z.call z.owner) z.pool i k.free;
  dealt_into = λ q z k. call_shifts w _ q (RaiseForAll _) k.free (λ r. refl) (λ p i. refl) refl refl;
  gathered = λ q p f. call_shifts w _ q (RaiseCount (Gather _)) f (λ r. refl) (λ p i. refl) refl refl;
  yielded = λ p i f. call_shifts w _ (Worker p i) YieldPop f (λ r. refl) (λ p i. refl) refl refl;
  yielded_local = λ p i f. call_shifts w _ (Worker p i) LocalPop f (λ r. refl) (λ p i. refl) refl refl;
  given = λ q p f held. call_shifts w _ q (LowerCount (OfPool p) PoolValue Resume) f (λ r. refl) (λ p i. refl) refl refl;
})
  where
    sent : (q : Party) (p : ℕ) (b : Bool) → is_member q p ≡ b → is_free_at w q → Shifts w (after_send w q p (w.stack q) b)
    sent q p true e f = call_shifts w _ q (RaiseCount (Here p w.jobs)) f (λ r. refl) (λ p i. refl) refl refl
    sent q p false e f = call_shifts w _ q (RaiseCount (Send _)) f (λ r. refl) (λ p i. refl) refl refl

step_shift : (w : World) (e : Event) → FeedersHold w → IfSome (step w e) (Shifts w) → IfSome (step w e) FeedersHold
step_shift w e h b = if_some_map (λ u. FramesOk u × Shifts w u) FeedersHold (λ u f. shift_feeders w u h (f.0) (f.1)) (step w e)
    (if_some_and FramesOk (Shifts w) (step w e) (steps_aside FramesOk w (h.frames) (λ q. go_frames w q (w.stack q) refl (h.frames)) (λ u m. aside_frames w u m (h.frames)) e) b)

pub step_feeders : (w : World) (e : Event) → FeedersHold w → IfSome (step w e) FeedersHold
step_feeders w (Go q) h = acted_keeps w q (w.stack q) (target_pool q (act_of q ((w.stack q).top))) (target_worker q (act_of q ((w.stack q).top))) (target_call (act_of q ((w.stack q).top))) (job_at w q (act_of q ((w.stack q).top))) (outcome w q (w.stack q)) FeedersHold (go_feeders w q h)
step_feeders w e h = step_shift w e h (event_shifts w h.frames e refl)

first_free : (h : Shape) (q : Party) → feeds_now (first_place h q) ≡ None
first_free h (Worker p i) = at (nat_lt i (h.pool p).workers) ((h.pool p).callers_own && (i == 0))
  where
    at : (b d : Bool) → feeds_now (if b then (if d then Free else ProbeWorking (fresh Termination)) else Stopped) ≡ None
    at true true = refl
    at true false = refl
    at false d = refl
first_free h (Caller c) = at (nat_lt c h.callers)
  where
    at : (b : Bool) → feeds_now (if b then Free else Stopped) ≡ None
    at true = refl
    at false = refl

pub first_feeders : (h : Shape) → FeedersHold (start h)
first_feeders h = record {
  frames = λ q. tt;
  feeds = λ p i f e. absurd (let a : feeds_now (first_place h (Worker p i)) ≡ None = first_free h (Worker p i) in let b : feeds_now (first_place h (Worker p i)) ≡ Some f = waits_feeds (first_place h (Worker p i)) f e in let c : Some f ≡ None = sym b ∙ a in cc);
  held = λ p i v g e. absurd (cc);
  pairs = λ q f e. absurd (let a : feeds_now (first_place h q) ≡ None = first_free h q in let c : Some f ≡ None = sym e ∙ a in cc);
}

pub always_feeders : (h : Shape) (es : List Event) (w : World) → IsRun (start h) es w → FeedersHold w
always_feeders h es w r = run_keeps FeedersHold step_feeders (start h) w es (first_feeders h) r
