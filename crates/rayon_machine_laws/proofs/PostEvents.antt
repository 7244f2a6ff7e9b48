-- what an event that is no act leaves of letters, locks and books, and that each stack has its bottom
use Rattle.std.proofs.Common.{arith, refl, ◌∙◌, sym, ap, subst, inl, inr}
use Rattle.std.specs.Prelude.{ℕ, Bool, true, false, ◌+◌, ◌==◌, ◌≤◌, ◌<◌, if◌then◌else◌, Some, None, ◌≡◌, ◌⊎◌, IfSome, ⊤, List, [], ◌∷◌}
use Rattle.std.proofs.lemmas.Bool.{eqb-true}
use Rattle.rayon_machine_places.specs.declared.place.Party.{Party}
use Rattle.rayon_machine_places.specs.declared.place.Party.TheVariants.{Worker}
use Rattle.rayon_machine_places.specs.declared.place.Ending.{Ending}
use Rattle.rayon_machine_places.specs.declared.place.Ending.TheVariants.{Fine, Fault}
use Rattle.rayon_machine_places.specs.declared.place.JobKind.{JobKind}
use Rattle.rayon_machine_places.specs.declared.place.JobKind.TheVariants.{Detached, Stored, Direct, Scoped, BodyOf, PieceOf, WholeOf, TokenOf}
use Rattle.rayon_machine_places.specs.declared.place.Plan.TheVariants.{Detach, Here, Send, Fork, Feed, Open, Enter, Gather}
use Rattle.rayon_machine_places.specs.declared.place.Count.TheVariants.{OfPool}
use Rattle.rayon_machine_places.specs.declared.place.Share.TheVariants.{PoolValue}
use Rattle.rayon_machine_places.specs.declared.place.Then.TheVariants.{Resume}
use Rattle.rayon_machine_places.specs.declared.place.Place.{Place}
use Rattle.rayon_machine_places.specs.declared.place.Place.TheVariants.{ProbeWorking, JoinProbe, YieldPop, LocalPop, Run, RaiseCount, RaiseForAll, LowerCount, FirstSide, SecondSide, ScopeBody, AtOnce, Free}
use Rattle.rayon_machine_places.specs.declared.place.Move.{Move}
use Rattle.rayon_machine_places.specs.declared.place.Move.TheVariants.{Stay, Enter, StartRun, Back, HandBack, Discard, HandIn, Mark, HandAllBack}
use Rattle.rayon_machine_runs.specs.declared.event.Event.{Event}
use Rattle.rayon_machine_runs.specs.declared.state.Call.{Call}
use Rattle.rayon_machine_runs.specs.declared.state.Letter.TheVariants.{Unset}
use Rattle.rayon_machine_places.specs.Places.{is_free, is_member, goes_on}
use Rattle.rayon_machine_runs.specs.World.{Stack, World, at_job}
use Rattle.rayon_machine_runs.specs.Steps.{put, put_stack, with_stack, after_move, after_resume, after_close, after_call, after_send, new_call, step}
use Rattle.rayon_machine_laws.specs.Holders.{book_at}
use Rattle.rayon_machine_runs.specs.declared.state.Whereabouts.TheVariants.{Over}
use Rattle.rayon_machine_laws.proofs.Cases.{Turn, NoCall, NoPush, NoPushIn, NoFifo, NoFifoIn, NoPushes, NoPushesIn, turn_from, turn_to, is_free_at, event_cases}
pub use Rattle.rayon_machine_laws.proofs.Cases.{is_act}
use Rattle.rayon_machine_laws.proofs.Owners.{own_call}
use Rattle.rayon_machine_laws.proofs.Posts.{Letters, Saids, Locking, Mild, Passes, Steers, is_base, is_booked, is_live, has}

-- the frames of a stack
abbrev pub AllLive : List Place → Type 0
AllLive [] = ⊤
AllLive (f ∷ fs) = (is_live f ≡ true) × AllLive fs

-- what stands at the bottom stands there
abbrev pub is_based : Place → List Place → Bool
is_based x [] = is_base x
is_based x (f ∷ fs) = is_based f fs

abbrev pub Based : Stack → Type 0
Based k = AllLive k.below × (is_based k.top k.below ≡ true)

pub live_mild : (f : Place) → is_live f ≡ true → Mild f
live_mild (ProbeWorking k) e = (λ l. refl, refl, λ r p i. refl, refl, refl)
live_mild (JoinProbe o) e = (λ l. refl, refl, λ r p i. refl, refl, refl)
live_mild (FirstSide o a) e = (λ l. refl, refl, λ r p i. refl, refl, refl)
live_mild (SecondSide o) e = (λ l. refl, refl, λ r p i. refl, refl, refl)
live_mild (ScopeBody o) e = (λ l. refl, refl, λ r p i. refl, refl, refl)
live_mild (AtOnce p t) e = (λ l. refl, refl, λ r p i. refl, refl, refl)
live_mild (Run t k) e = (λ l. refl, refl, λ r p i. refl, refl, refl)
live_mild Free e = (λ l. refl, refl, λ r p i. refl, refl, refl)
live_mild _ e = cc

based_on : (x y : Place) (fs : List Place) → (is_base x ≡ true → is_base y ≡ true) → is_based x fs ≡ true → is_based y fs ≡ true
based_on x y [] f b = f b
based_on x y (g ∷ fs) f b = b

no_bottom : (x : Place) {A : Type 0} → is_base x ≡ false → is_based x [] ≡ true → A
no_bottom x f t = absurd (let z : true ≡ false = sym t ∙ f in cc)

-- after a move too
pub land_based : (x : Place) (g : Move) (fs : List Place) → Steers x g → AllLive fs → is_based x fs ≡ true → Based (after_move g fs)
land_based x (Stay y) fs s a b = (a, based_on x y fs (s.1) b)
land_based x (HandIn y k) fs s a b = (a, based_on x y fs (s.1) b)
land_based x (Mark y c m) fs s a b = (a, based_on x y fs (s.1) b)
land_based x (Enter f y) fs s a b = ((s.1, a), based_on x f fs (s.2) b)
land_based x (StartRun f t) fs s a b = ((s.1, a), based_on x f fs (s.2) b)
land_based x Back [] s a b = no_bottom x (s.1) b
land_based x (HandBack n) [] s a b = no_bottom x (s.1) b
land_based x (Discard k) [] s a b = no_bottom x (s.1) b
land_based x (HandAllBack c) [] s a b = no_bottom x (s.1) b
land_based x Back (f ∷ fs) s a b = (a.1, b)
land_based x (HandBack n) (f ∷ fs) s a b = (a.1, b)
land_based x (Discard k) (f ∷ fs) s a b = (a.1, b)
land_based x (HandAllBack c) (f ∷ fs) s a b = (a.1, b)

-- where a move leads; a frame has none of the letters, locks and books
pub land : (x : Place) (R : Place → Type 0) (g : Move) (fs : List Place) → (Passes x Free → (f : Place) → is_live f ≡ true → R f) → ((y : Place) → Passes x y → R y) → Steers x g → AllLive fs → is_based x fs ≡ true → R ((after_move g fs).top)
land x R (Stay y) fs back on s a b = on y (s.0)
land x R (HandIn y k) fs back on s a b = on y (s.0)
land x R (Mark y c m) fs back on s a b = on y (s.0)
land x R (Enter f y) fs back on s a b = on y (s.0)
land x R (StartRun f t) fs back on s a b = on (Run t Direct) (s.0)
land x R Back [] back on s a b = no_bottom x (s.1) b
land x R (HandBack n) [] back on s a b = no_bottom x (s.1) b
land x R (Discard k) [] back on s a b = no_bottom x (s.1) b
land x R (HandAllBack c) [] back on s a b = no_bottom x (s.1) b
land x R Back (f ∷ fs) back on s a b = back (s.0) f (a.0)
land x R (HandBack n) (f ∷ fs) back on s a b = back (s.0) f (a.0)
land x R (Discard k) (f ∷ fs) back on s a b = back (s.0) f (a.0)
land x R (HandAllBack c) (f ∷ fs) back on s a b = back (s.0) f (a.0)

-- the same letters, locks and books, and no other latch that is said to be set
abbrev pub Same : Place → Place → Type 0
Same x y = Letters x y × Saids x y × Locking x y × (book_at y ≡ book_at x) × (is_booked y ≡ true)

mild_same : (x y : Place) → Mild x → Mild y → Same x y
mild_same x y a m = (λ l. m.0 l ∙ sym (a.0 l), λ l e. absurd (let z : None ≡ Some l = sym (m.1) ∙ e in cc), λ q p i. m.2 q p i ∙ sym (a.2 q p i), m.3 ∙ sym (a.3), m.4)

-- the calls that are there now and were not: the one that the party begins
abbrev NewCalls : ℕ → ℕ → Place → Type 0
NewCalls m n y = (m ≤ n) × ((c : ℕ) → m ≤ c → c < n → own_call y ≡ Some c)

no_new : (n : ℕ) (y : Place) → NewCalls n n y
no_new n y = (omega arith, λ c a b. absurd (omega (arith, a, b)))

one_new : (n : ℕ) (y : Place) → own_call y ≡ Some n → NewCalls n (n + 1) y
one_new n y e = (omega arith, λ c a b. (let s : n ≡ c = omega (arith, a, b) in e ∙ ap Some s))

-- an event that is no act: one party's stack is another, no seat is, and no call that was there
pub record Stepped (w u : World) : Type 0 where
  pub party : Party
  pub to : Stack
  pub shape : u.shape ≡ w.shape
  pub stack : (r : Party) → u.stack r ≡ put_stack w.stack party to r
  pub seat : (p i : ℕ) → u.seat p i ≡ w.seat p i
  pub same : Based (w.stack party) → Same (w.stack party).top to.top
  pub based : Based (w.stack party) → Based to
  pub calls : NewCalls w.calls u.calls to.top
  pub call : (c : ℕ) → (u.call c ≡ w.call c) ⊎ ((w.calls ≤ c) × ((u.call c).latch ≡ Unset) × ((u.call c).writer ≡ None))

-- from one place to another
turn_at : (w : World) (q : Party) (x y : Place) (fs : List Place) → w.stack q ≡ record { top = x; below = fs } → Same x y → (is_base x ≡ true → is_base y ≡ true) → Stepped w (with_stack w q (record { top = y; below = fs }))
turn_at w q x y fs z s b = record {
  party = q;
  to = record { top = y; below = fs };
  shape = refl;
  stack = λ r. refl;
  seat = λ p i. refl;
  same = λ k. subst (λ v. Same (v.top) y) (sym z) s;
  based = λ k. (let a : Based (record { top = x; below = fs }) = subst Based z k in (a.0, based_on x y fs b (a.1)));
  calls = no_new w.calls y;
  call = λ c. inl refl;
}

-- a call's turn back has the book that it had
turn_turns : (w : World) (q : Party) (t : Turn) (fs : List Place) → w.stack q ≡ record { top = turn_from t; below = fs } → Stepped w (with_stack w q (record { top = turn_to t; below = fs }))
turn_turns w q t fs z = turn_at w q (turn_from t) (turn_to t) fs z (same t) (base t)
  where
    same : (t : Turn) → Same (turn_from t) (turn_to t)
    same (NoPush n v e) = (λ l. refl, λ l s. s, λ r p i. refl, sym e, refl)
    same (NoPushIn n v c e) = (λ l. refl, λ l s. s, λ r p i. refl, refl, ap has e)
    same (NoFifo f e) = (λ l. refl, λ l s. s, λ r p i. refl, sym e, refl)
    same (NoFifoIn f c e) = (λ l. refl, λ l s. s, λ r p i. refl, refl, ap has e)
    same (NoPushes c e) = (λ l. refl, λ l s. s, λ r p i. refl, sym e, refl)
    same (NoPushesIn c n e) = (λ l. refl, λ l s. s, λ r p i. refl, refl, ap has e)
    same _ = (λ l. refl, λ l s. s, λ r p i. refl, refl, refl)

    base : (t : Turn) → is_base (turn_from t) ≡ true → is_base (turn_to t) ≡ true
    base (NoCall n) e = cc
    base _ e = cc

no_base : (x y : Place) → is_base x ≡ false → is_base x ≡ true → is_base y ≡ true
no_base x y f t = absurd (let z : true ≡ false = sym t ∙ f in cc)

-- where the frame below a run goes on
on_mild : (f : Place) (d : Ending) → is_live f ≡ true → Mild (goes_on f d)
on_mild (FirstSide o a) Fine e = (λ l. refl, refl, λ r p i. refl, refl, refl)
on_mild (FirstSide o a) Fault e = (λ l. refl, refl, λ r p i. refl, refl, refl)
on_mild (SecondSide o) d e = (λ l. refl, refl, λ r p i. refl, refl, refl)
on_mild (ScopeBody o) d e = (λ l. refl, refl, λ r p i. refl, refl, refl)
on_mild (AtOnce p t) d e = (λ l. refl, refl, λ r p i. refl, refl, refl)
on_mild (ProbeWorking k) d e = (λ l. refl, refl, λ r p i. refl, refl, refl)
on_mild (JoinProbe o) d e = (λ l. refl, refl, λ r p i. refl, refl, refl)
on_mild (Run t k) d e = (λ l. refl, refl, λ r p i. refl, refl, refl)
on_mild Free d e = (λ l. refl, refl, λ r p i. refl, refl, refl)
on_mild _ d e = cc

on_base : (f : Place) (d : Ending) → is_live f ≡ true → is_base f ≡ true → is_base (goes_on f d) ≡ true
on_base (ProbeWorking k) d e b = b
on_base Free d e b = refl
on_base (FirstSide o a) d e b = cc
on_base (SecondSide o) d e b = cc
on_base (ScopeBody o) d e b = cc
on_base (AtOnce p t) d e b = cc
on_base (JoinProbe o) d e b = cc
on_base (Run t k) d e b = cc
on_base _ d e b = absurd (cc)

resumed : (t : ℕ) (k : JobKind) (fs : List Place) (d : Ending) → Based (record { top = Run t k; below = fs }) → Mild (after_resume fs d).top × Based (after_resume fs d)
resumed t k [] d a = no_bottom (Run t k) refl (a.1)
resumed t k (f ∷ fs) d a = (on_mild f d ((a.0).0), ((a.0).1, based_on f (goes_on f d) fs (on_base f d ((a.0).0)) (a.1)))

closed : (t : ℕ) (k : JobKind) (d : Ending) (fs : List Place) → Based (record { top = Run t k; below = fs }) → Mild (after_close t k d fs).top × Based (after_close t k d fs)
closed t (Detached p) d fs a = ((λ l. refl, refl, λ r p i. refl, refl, refl), (a.0, based_on (Run t (Detached p)) (after_close t (Detached p) d fs).top fs (no_base (Run t (Detached p)) (after_close t (Detached p) d fs).top refl) (a.1)))
closed t (Stored c o) d fs a = ((λ l. refl, refl, λ r p i. refl, refl, refl), (a.0, based_on (Run t (Stored c o)) (after_close t (Stored c o) d fs).top fs (no_base (Run t (Stored c o)) (after_close t (Stored c o) d fs).top refl) (a.1)))
closed t (Scoped c o) d fs a = ((λ l. refl, refl, λ r p i. refl, refl, refl), (a.0, based_on (Run t (Scoped c o)) (after_close t (Scoped c o) d fs).top fs (no_base (Run t (Scoped c o)) (after_close t (Scoped c o) d fs).top refl) (a.1)))
closed t (PieceOf c o) d fs a = ((λ l. refl, refl, λ r p i. refl, refl, refl), (a.0, based_on (Run t (PieceOf c o)) (after_close t (PieceOf c o) d fs).top fs (no_base (Run t (PieceOf c o)) (after_close t (PieceOf c o) d fs).top refl) (a.1)))
closed t Direct d fs a = resumed t Direct fs d a
closed t (TokenOf i b) d fs a = resumed t (TokenOf i b) fs d a
closed t (BodyOf c o) d fs a = resumed t (BodyOf c o) fs d a
closed t (WholeOf c o) d fs a = resumed t (WholeOf c o) fs d a

end_turns : (w : World) (q : Party) (d : Ending) (t : ℕ) (k : JobKind) (fs : List Place) → w.stack q ≡ record { top = Run t k; below = fs } → Stepped w (record w { stack = put_stack w.stack q (after_close t k d fs); job = put w.job t (at_job (w.job t) (Over d)) })
end_turns w q d t k fs z = record {
  party = q;
  to = after_close t k d fs;
  shape = refl;
  stack = λ r. refl;
  seat = λ p i. refl;
  same = λ b. (let a : Mild (after_close t k d fs).top × Based (after_close t k d fs) = closed t k d fs (subst Based z b) in subst (λ v. Same (v.top) (after_close t k d fs).top) (sym z) (mild_same (Run t k) (after_close t k d fs).top (λ l. refl, refl, λ r p i. refl, refl, refl) (a.0)));
  based = λ b. (closed t k d fs (subst Based z b)).1;
  calls = no_new w.calls (after_close t k d fs).top;
  call = λ c. inl refl;
}

free_live : (x : Place) → is_free x ≡ true → is_live x ≡ true
free_live (Run t k) e = refl
free_live Free e = refl
free_live _ e = cc

-- a call begins above a free place
begin_turns : (w u : World) (q : Party) (y : Place) → is_free (w.stack q).top ≡ true → u.shape ≡ w.shape → ((r : Party) → u.stack r ≡ put_stack w.stack q (after_call (w.stack q) y) r) → ((p i : ℕ) → u.seat p i ≡ w.seat p i) → Mild y
    → (u.calls ≡ w.calls) ⊎ ((u.calls ≡ w.calls + 1) × (own_call y ≡ Some w.calls)) →
    ((c : ℕ) → (u.call c ≡ w.call c) ⊎ ((w.calls ≤ c) × ((u.call c).latch ≡ Unset) × ((u.call c).writer ≡ None))) → Stepped w u
begin_turns w u q y f h s c m l n = record {
  party = q;
  to = after_call (w.stack q) y;
  shape = h;
  stack = s;
  seat = c;
  same = λ b. mild_same (w.stack q).top y (live_mild (w.stack q).top (free_live (w.stack q).top f)) m;
  based = λ b. ((free_live (w.stack q).top f, b.0), b.1);
  calls = elim l [ inl e ↦ subst (λ n. NewCalls w.calls n y) (sym e) (no_new w.calls y) | inr e ↦ subst (λ n. NewCalls w.calls n y) (sym (e.0)) (one_new w.calls y (e.1)) ];
  call = n;
}

-- the call that begins is the next one
new_turns : (w : World) (v : Call) → v.latch ≡ Unset → v.writer ≡ None → (c : ℕ) → (put w.call w.calls v c ≡ w.call c) ⊎ ((w.calls ≤ c) × ((put w.call w.calls v c).latch ≡ Unset) × ((put w.call w.calls v c).writer ≡ None))
new_turns w v a b c = by (c == w.calls) refl
  where
    by : (z : Bool) → (c == w.calls) ≡ z → ((if z then v else w.call c) ≡ w.call c) ⊎ ((w.calls ≤ c) × ((if z then v else w.call c).latch ≡ Unset) × ((if z then v else w.call c).writer ≡ None))
    by true e = inr (let k : c ≡ w.calls = eqb-true c w.calls e in omega (arith, k), a, b)
    by false e = inl refl

-- a call that makes none that others wait for
call_turns : (w u : World) (q : Party) (y : Place) → is_free_at w q → u.shape ≡ w.shape → ((r : Party) → u.stack r ≡ put_stack w.stack q (after_call (w.stack q) y) r) → ((p i : ℕ) → u.seat p i ≡ w.seat p i) → Mild y → u.calls ≡ w.calls → ((c : ℕ) → u.call c ≡ w.call c) → Stepped w u
call_turns w u q y f h s c m e l = begin_turns w u q y f h s c m (inl e) (λ n. inl (l n))

pub turns : (w : World) (e : Event) → is_act e ≡ false → IfSome (step w e) (Stepped w)
turns w = event_cases (Stepped w) w (record {
  turned = turn_turns w;
  ended = end_turns w;
  spawned = λ q p f. call_turns w _ q (RaiseCount (Detach p w.jobs)) f refl (λ r. refl) (λ p i. refl) (λ l. refl, refl, λ r p i. refl, refl, refl) refl (λ c. refl);
  fed = λ p i f. call_turns w _ (Worker p i) (RaiseCount (Feed _)) f refl (λ r. refl) (λ p i. refl) (λ l. refl, refl, λ r p i. refl, refl, refl) refl (λ c. refl);
  dealt = λ q p f. call_turns w _ q (RaiseForAll _) f refl (λ r. refl) (λ p i. refl) (λ l. refl, refl, λ r p i. refl, refl, refl) refl (λ c. refl);
  sent = sent;
  joined = λ p i f. begin_turns w _ (Worker p i) (RaiseCount (Fork _ w.jobs)) f refl (λ r. refl) (λ p i. refl) (λ l. refl, refl, λ r p i. refl, refl, refl) (inr (refl, refl)) (new_turns w _ refl refl);
  scoped = λ q p f. begin_turns w _ q (RaiseCount (Open _)) f refl (λ r. refl) (λ p i. refl) (λ l. refl, refl, λ r p i. refl, refl, refl) (inr (refl, refl)) (new_turns w _ refl refl);
  entered = λ q z k. call_turns w _ q (RaiseCount (Enter _)) k.free refl (λ r. refl) (λ p i. refl) (λ l. refl, refl, λ r p i. refl, refl, refl) refl (λ c. refl);
  fed_into = λ i z k. call_turns w _ (Worker z.pool i) (RaiseCount (Feed _)) k.free refl (λ r. refl) (λ p i. refl) (λ l. refl, refl, λ r p i. refl, refl, refl) refl (λ c. refl);
  dealt_into = λ q z k. call_turns w _ q (RaiseForAll _) k.free refl (λ r. refl) (λ p i. refl) (λ l. refl, refl, λ r p i. refl, refl, refl) refl (λ c. refl);
  gathered = λ q p f. begin_turns w _ q (RaiseCount (Gather _)) f refl (λ r. refl) (λ p i. refl) (λ l. refl, refl, λ r p i. refl, refl, refl) (inr (refl, refl)) (new_turns w _ refl refl);
  yielded = λ p i f. call_turns w _ (Worker p i) YieldPop f refl (λ r. refl) (λ p i. refl) (λ l. refl, refl, λ r p i. refl, refl, refl) refl (λ c. refl);
  yielded_local = λ p i f. call_turns w _ (Worker p i) LocalPop f refl (λ r. refl) (λ p i. refl) (λ l. refl, refl, λ r p i. refl, refl, refl) refl (λ c. refl);
  given = λ q p f held. call_turns w _ q (LowerCount (OfPool p) PoolValue Resume) f refl (λ r. refl) (λ p i. refl) (λ l. refl, refl, λ r p i. refl, refl, refl) refl (λ c. refl);
})
  where
    sent : (q : Party) (p : ℕ) (b : Bool) → is_member q p ≡ b → is_free_at w q → Stepped w (after_send w q p (w.stack q) b)
    sent q p true e f = call_turns w _ q (RaiseCount (Here p w.jobs)) f refl (λ r. refl) (λ p i. refl) (λ l. refl, refl, λ r p i. refl, refl, refl) refl (λ c. refl)
    sent q p false e f = begin_turns w _ q (RaiseCount (Send _)) f refl (λ r. refl) (λ p i. refl) (λ l. refl, refl, λ r p i. refl, refl, refl) (inr (refl, refl)) (new_turns w (new_call None w.jobs) refl refl)
