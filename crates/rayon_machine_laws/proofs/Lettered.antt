-- each latch that is not set says what its worker has written there, by where the worker stands
use Rattle.std.proofs.Common.{refl, ◌∙◌, sym, ap, subst, inl, inr, arith}
use Rattle.std.specs.Prelude.{ℕ, Bool, true, false, ◌&&◌, ◌+◌, ◌==◌, ◌<◌, ◌≤◌, nat_lt, if◌then◌else◌, Some, None, ◌≡◌, ◌⊎◌, IfSome, List}
use Rattle.std.proofs.lemmas.Bool.{eqb-true, eq-eqb, ltb-true, ltb-false}
use Rattle.rayon_machine_places.specs.declared.place.Party.{Party}
use Rattle.rayon_machine_places.specs.declared.place.Party.TheVariants.{Worker, Caller}
use Rattle.rayon_machine_places.specs.declared.place.Target.{Target}
use Rattle.rayon_machine_places.specs.declared.place.Target.TheVariants.{Termination, Answer}
use Rattle.rayon_machine_places.specs.declared.place.Latch.{Latch}
use Rattle.rayon_machine_places.specs.declared.place.Latch.TheVariants.{Terminate, OfCall}
use Rattle.rayon_machine_places.specs.declared.place.Wait.{Wait}
use Rattle.rayon_machine_places.specs.declared.place.Place.{Place}
use Rattle.rayon_machine_places.specs.declared.place.Place.TheVariants.{ProbeWorking, GetSleepy, LockOwn, FallAsleep, LoadCounters, AddSleeping, LookAtCast, LookAtInjector, BlockSelf, RelockOwn, UndoSleeping, WakeUp, GrowCall, GrowScope, GrowCast, SetLatch, SetLockLatch, Free, Stopped}
use Rattle.rayon_machine_places.specs.declared.place.Move.{Move}
use Rattle.rayon_machine_places.specs.declared.act.Seen.{Seen}
use Rattle.rayon_machine_places.specs.declared.act.Seen.TheVariants.{Done, Refused}
use Rattle.rayon_machine_runs.specs.declared.event.Event.{Event}
use Rattle.rayon_machine_runs.specs.declared.event.Event.TheVariants.{Go}
use Rattle.rayon_machine_runs.specs.declared.state.Letter.{Letter}
use Rattle.rayon_machine_runs.specs.declared.state.Letter.TheVariants.{Unset, Sleepy as IsSleepy, Sleeping, Set as IsSet}
use Rattle.rayon_machine_places.specs.declared.shape.PoolShape.{PoolShape}
use Rattle.rayon_machine_places.specs.Places.{act_of, next_of, latch_of, own_pool, own_index, same_party, fresh}
use Rattle.rayon_machine_runs.specs.World.{Shape, Stack, World, Part, letter, effect, sleepy, fall_asleep, wake_up, with_letter}
use Rattle.rayon_machine_places.specs.Sleepers.{Counts}
use Rattle.rayon_machine_places.specs.Targets.{target_pool, target_worker, target_call, call_of}
use Rattle.rayon_machine_runs.specs.Steps.{after_move, step}
use Rattle.rayon_machine_runs.specs.Runs.{IsRun, start}
use Rattle.rayon_machine_laws.specs.Attended.{letter_at, same_latch}
use Rattle.rayon_machine_laws.specs.Latch.{SetsSo}
use Rattle.rayon_machine_laws.specs.Letters.{CallLettered, IsLettered, letter_for}
use Rattle.rayon_machine_laws.proofs.Frame.{acted_keeps, either, if_some_and, if_some_map, same_index, same_party_true, same_party_refl, same_refl, stack_mine, stack_other}
use Rattle.rayon_machine_laws.proofs.Seats.{at_home}
use Rattle.rayon_machine_laws.proofs.Ties.{home_pool, home_worker, outcome, result, job_at, shape_at}
use Rattle.rayon_machine_laws.proofs.Events.{run_keeps}
use Rattle.rayon_machine_laws.proofs.Calm.{counts_seen, part_at, next_at}
use Rattle.rayon_machine_laws.proofs.Latches.{SameLatches, Sets, latches_same, set_one}
use Rattle.rayon_machine_laws.proofs.Owners.{own_call, target_number}
use Rattle.rayon_machine_laws.proofs.OwnedActs.{Grown, Mine, Owned, go_grown, grown_mine, owner_of, setter_of}
use Rattle.rayon_machine_laws.proofs.Owned.{step_owned, first_owned}
use Rattle.rayon_machine_laws.proofs.ClaimRuns.{CallsHold}
use Rattle.rayon_machine_laws.proofs.ClaimMakes.{always_calls, step_calls}
use Rattle.rayon_machine_laws.proofs.Fixed.{made_law}
use Rattle.rayon_machine_laws.proofs.Posts.{Letters, Steers, Unless, is_live, letters_here, steers}
use Rattle.rayon_machine_laws.proofs.PostEvents.{Based, Stepped, land, live_mild, turns}
use Rattle.rayon_machine_laws.proofs.SetLaws.{sets_law}
use Rattle.rayon_machine_laws.proofs.Stops.{always_stops, made, run_has}

-- a latch says what a place says, or is set
abbrev pub Fits : Letter → Latch → Place → Type 0
Fits x l y = (x ≡ IsSet) ⊎ (x ≡ letter_for l y)

-- what an act of a party leaves of the letters of its part, and where it leads
record Fitting (q : Party) (x : Place) (m : Part) (r : Seen × Part) (y : Place) : Type 0 where
  seat : m.seat.latch ≡ letter_for Terminate x → Fits r.1.seat.latch Terminate y
  call : m.call.latch ≡ letter_for (OfCall (target_call (act_of q x))) x → Fits r.1.call.latch (OfCall (target_call (act_of q x))) y
  away : letters_here x ≡ false → letter_for Terminate y ≡ letter_for Terminate x
  aside : (c : ℕ) → (c == target_call (act_of q x)) ≡ false → letter_for (OfCall c) y ≡ letter_for (OfCall c) x
  seats : letters_here x ≡ false → (r.1.seat.latch ≡ m.seat.latch) ⊎ (r.1.seat.latch ≡ IsSet)
  calls : (own_call x ≡ Some (target_call (act_of q x)) → ⊥) → (r.1.call.latch ≡ m.call.latch) ⊎ (r.1.call.latch ≡ IsSet)
  home : letters_here x ≡ true → q ≡ Worker (own_pool q) (own_index q)

not_here : (x : Place) (q : Party) → letters_here x ≡ false → letters_here x ≡ true → q ≡ Worker (own_pool q) (own_index q)
not_here x q n y = absurd (let z : true ≡ false = sym y ∙ n in cc)

-- an act that writes no letter of a wait leads to where the same are written
same_fitting : (q : Party) (x : Place) (m : Part) (r : Seen × Part) (y : Place) → letters_here x ≡ false → Letters x y → SameLatches m r → Fitting q x m r y
same_fitting q x m r y n l s = record {
  home = not_here x q n;
  seat = λ e. inr (s.seat ∙ e ∙ sym (l Terminate));
  call = λ e. inr (s.call ∙ e ∙ sym (l (OfCall (target_call (act_of q x)))));
  away = λ z. l Terminate;
  aside = λ c z. l (OfCall c);
  seats = λ z. inl s.seat;
  calls = λ z. inl s.call;
}

-- a call's cell is made, and its latch is unset
grow_fitting : (q : Party) (x : Place) (m : Part) (r : Seen × Part) (y : Place) → letters_here x ≡ false → Letters x y → letter_for (OfCall (target_call (act_of q x))) x ≡ Unset → r.1.seat.latch ≡ m.seat.latch →
    r.1.call.latch ≡ Unset → own_call x ≡ Some (target_call (act_of q x)) → Fitting q x m r y
grow_fitting q x m r y n l u s c o = record {
  home = not_here x q n;
  seat = λ e. inr (s ∙ e ∙ sym (l Terminate));
  call = λ e. inr (c ∙ sym u ∙ sym (l (OfCall (target_call (act_of q x)))));
  away = λ z. l Terminate;
  aside = λ d z. l (OfCall d);
  seats = λ z. inl s;
  calls = λ z. absurd (z o);
}

-- a latch is set
set_fitting : (q : Party) (x : Place) (m : Part) (r : Seen × Part) (y : Place) → letters_here x ≡ false → Letters x y → (r.1.seat.latch ≡ m.seat.latch) ⊎ (r.1.seat.latch ≡ IsSet) → (r.1.call.latch ≡ m.call.latch) ⊎ (r.1.call.latch ≡ IsSet) → Fitting q x m r y
set_fitting q x m r y n l s c = record {
  home = not_here x q n;
  seat = λ e. elim s [ inl a ↦ inr (a ∙ e ∙ sym (l Terminate)) | inr a ↦ inl a ];
  call = λ e. elim c [ inl a ↦ inr (a ∙ e ∙ sym (l (OfCall (target_call (act_of q x))))) | inr a ↦ inl a ];
  away = λ z. l Terminate;
  aside = λ d z. l (OfCall d);
  seats = λ z. s;
  calls = λ z. c;
}

struck : (l : Latch) (m : Part) (r : Seen × Part) → Sets l m r → ((r.1.seat.latch ≡ m.seat.latch) ⊎ (r.1.seat.latch ≡ IsSet)) × ((r.1.call.latch ≡ m.call.latch) ⊎ (r.1.call.latch ≡ IsSet))
struck Terminate m r s = (inr s.now, inl s.other)
struck (OfCall c) m r s = (inl s.other, inr s.now)

-- what a worker says of each latch that has written this into its own
abbrev said : Latch → Letter → Latch → Letter
said l y d = if same_latch d l then y else Unset

self_latch : (c : ℕ) (x : Letter) → (if c == c then x else Unset) ≡ x
self_latch c x = let e : (c == c) ≡ true = eq-eqb c c refl in rw e refl

said_none : (l d : Latch) → said l Unset d ≡ Unset
said_none l d = by (same_latch d l)
  where
    by : (b : Bool) → (if b then Unset else Unset) ≡ Unset
    by true = refl
    by false = refl

-- an act on a latch, by what its worker said before it and says after it
record FitsAt (l : Latch) (a b : Letter) (m : Part) (r : Seen × Part) : Type 0 where
  seat : m.seat.latch ≡ said l a Terminate → r.1.seat.latch ≡ said l b Terminate
  call : m.call.latch ≡ said l a (OfCall (call_of l)) → r.1.call.latch ≡ said l b (OfCall (call_of l))
  aside : (c : ℕ) → (c == call_of l) ≡ false → said l b (OfCall c) ≡ said l a (OfCall c)
  calls : ((c : ℕ) → l ≡ OfCall c → ⊥) → r.1.call.latch ≡ m.call.latch

wrote : (l : Latch) (m : Part) (e : Seen) (a b : Letter) → FitsAt l a b m (e, with_letter l m b)
wrote Terminate m e a b = record { seat = λ s. refl; call = λ s. s; aside = λ c z. refl; calls = λ n. refl }
wrote (OfCall d) m e a b = record { seat = λ s. s; call = λ s. sym (self_latch d b); aside = λ c z. rw z refl; calls = λ n. absurd (n d refl) }

-- one that finds another letter there than its worker has written is none of a run
kept : (l : Latch) (m : Part) (e : Seen) (a b : Letter) → (letter l m ≡ a → ⊥) → FitsAt l a b m (e, m)
kept Terminate m e a b n = record { seat = λ s. absurd (n s); call = λ s. s; aside = λ c z. refl; calls = λ k. refl }
kept (OfCall d) m e a b n = record { seat = λ s. s; call = λ s. absurd (n (s ∙ self_latch d a)); aside = λ c z. rw z refl; calls = λ k. refl }

-- what the worker says then
abbrev got_sleepy : Seen → Letter
got_sleepy Done = IsSleepy
got_sleepy _ = Unset

abbrev fell_asleep : Seen → Letter
fell_asleep Done = Sleeping
fell_asleep _ = Unset

other_letter : (y z a : Letter) → y ≡ z → (z ≡ a → ⊥) → y ≡ a → ⊥
other_letter y z a e n s = n (sym e ∙ s)

sleepy_at : (l : Latch) (m : Part) (z : Letter) → letter l m ≡ z → IfSome (sleepy l m z) (λ r. FitsAt l Unset (got_sleepy (r.0)) m r)
sleepy_at l m Unset e = wrote l m Done Unset IsSleepy
sleepy_at l m IsSleepy e = kept l m Refused Unset Unset (other_letter (letter l m) IsSleepy Unset e (λ s. cc))
sleepy_at l m Sleeping e = kept l m Refused Unset Unset (other_letter (letter l m) Sleeping Unset e (λ s. cc))
sleepy_at l m IsSet e = kept l m Refused Unset Unset (other_letter (letter l m) IsSet Unset e (λ s. cc))

asleep_at : (l : Latch) (m : Part) (z : Letter) → letter l m ≡ z → IfSome (fall_asleep l m z) (λ r. FitsAt l IsSleepy (fell_asleep (r.0)) m r)
asleep_at l m IsSleepy e = wrote l m Done IsSleepy Sleeping
asleep_at l m Unset e = kept l m Refused IsSleepy Unset (other_letter (letter l m) Unset IsSleepy e (λ s. cc))
asleep_at l m Sleeping e = kept l m Refused IsSleepy Unset (other_letter (letter l m) Sleeping IsSleepy e (λ s. cc))
asleep_at l m IsSet e = kept l m Refused IsSleepy Unset (other_letter (letter l m) IsSet IsSleepy e (λ s. cc))

woken_at : (l : Latch) (m : Part) (z : Letter) → letter l m ≡ z → IfSome (wake_up l m z) (λ r. FitsAt l Sleeping Unset m r)
woken_at l m IsSet e = kept l m Done Sleeping Unset (other_letter (letter l m) IsSet Sleeping e (λ s. cc))
woken_at l m Unset e = wrote l m Done Sleeping Unset
woken_at l m IsSleepy e = wrote l m Done Sleeping Unset
woken_at l m Sleeping e = wrote l m Done Sleeping Unset

target_is : (g : Target) (c : ℕ) → latch_of g ≡ OfCall c → target_number g ≡ Some (call_of (latch_of g))
target_is Termination c e = cc
target_is (Answer o f) c e = refl

wait_fitting : (a b : ℕ) (x : Place) (k : Wait) (m : Part) (r : Seen × Part) (y : Place) (was will : Letter) → letters_here x ≡ true → own_call x ≡ target_number k.target → target_call (act_of (Worker a b) x) ≡ call_of (latch_of k.target)
    → ((d : Latch) → letter_for d x ≡ said (latch_of k.target) was d) → ((d : Latch) → letter_for d y ≡ said (latch_of k.target) will d)
    → FitsAt (latch_of k.target) was will m r → Fitting (Worker a b) x m r y
wait_fitting a b x k m r y was will h o t before later f = record {
  home = λ z. refl;
  seat = λ e. inr (f.seat (e ∙ before Terminate) ∙ sym (later Terminate));
  call = λ e. inr (f.call (e ∙ before (OfCall n) ∙ ap (λ c. said l was (OfCall c)) t) ∙ ap (λ c. said l will (OfCall c)) (sym t) ∙ sym (later (OfCall n)));
  away = λ z. absurd (let u : true ≡ false = sym h ∙ z in cc);
  aside = λ c z. later (OfCall c) ∙ f.aside c (ap (λ d. c == d) (sym t) ∙ z) ∙ sym (before (OfCall c));
  seats = λ z. absurd (let u : true ≡ false = sym h ∙ z in cc);
  calls = λ z. inl (f.calls (λ c e. z (o ∙ target_is k.target c e ∙ ap Some (sym t))));
}
  where
    l : Latch
    l = latch_of k.target

    n : ℕ
    n = target_call (act_of (Worker a b) x)

-- where an act leads
abbrev Top : PoolShape → Party → Place → List Place → Seen → Place
Top g q x fs e = (after_move (next_of g q x e) fs).top

sleepy_next : (g : PoolShape) (a b : ℕ) (k : Wait) (fs : List Place) (e : Seen) (d : Latch) → letter_for d (Top g (Worker a b) (GetSleepy k) fs e) ≡ said (latch_of k.target) (got_sleepy e) d
sleepy_next g a b k fs Done d = refl
sleepy_next g a b k fs _ d = sym (said_none (latch_of k.target) d)

asleep_next : (g : PoolShape) (a b : ℕ) (k : Wait) (fs : List Place) (e : Seen) (d : Latch) → letter_for d (Top g (Worker a b) (FallAsleep k) fs e) ≡ said (latch_of k.target) (fell_asleep e) d
asleep_next g a b k fs Done d = refl
asleep_next g a b k fs _ d = sym (said_none (latch_of k.target) d)

abbrev Fit : Shape → PoolShape → Party → Part → Place → List Place → Seen × Part → Type 0
Fit h g q m x fs r = Fitting q x m r (Top g q x fs (r.0))

-- each act, where it leads to the same letters unless it writes them
act_fitting : (h : Shape) (g : PoolShape) (q : Party) (c : Counts) (m : Part) (x : Place) (fs : List Place) → IfSome (effect (act_of q x) h q c m) (λ r. Unless (letters_here x) (Letters x (Top g q x fs (r.0)))) → IfSome (effect (act_of q x) h q c m) (Fit h g q m x fs)
act_fitting h g (Worker a b) c m (GetSleepy k) fs ls = if_some_map (λ r. FitsAt (latch_of k.target) Unset (got_sleepy (r.0)) m r) (Fit h g (Worker a b) m (GetSleepy k) fs)
    (λ r f. wait_fitting a b (GetSleepy k) k m r (Top g (Worker a b) (GetSleepy k) fs (r.0)) Unset (got_sleepy (r.0)) refl refl refl (λ d. sym (said_none (latch_of k.target) d)) (sleepy_next g a b k fs (r.0)) f)
    (effect (act_of (Worker a b) (GetSleepy k)) h (Worker a b) c m) (sleepy_at (latch_of k.target) m (letter (latch_of k.target) m) refl)
act_fitting h g (Worker a b) c m (FallAsleep k) fs ls = if_some_map (λ r. FitsAt (latch_of k.target) IsSleepy (fell_asleep (r.0)) m r) (Fit h g (Worker a b) m (FallAsleep k) fs)
    (λ r f. wait_fitting a b (FallAsleep k) k m r (Top g (Worker a b) (FallAsleep k) fs (r.0)) IsSleepy (fell_asleep (r.0)) refl refl refl (λ d. refl) (asleep_next g a b k fs (r.0)) f)
    (effect (act_of (Worker a b) (FallAsleep k)) h (Worker a b) c m) (asleep_at (latch_of k.target) m (letter (latch_of k.target) m) refl)
act_fitting h g (Worker a b) c m (WakeUp k) fs ls = if_some_map (λ r. FitsAt (latch_of k.target) Sleeping Unset m r) (Fit h g (Worker a b) m (WakeUp k) fs)
    (λ r f. wait_fitting a b (WakeUp k) k m r (Top g (Worker a b) (WakeUp k) fs (r.0)) Sleeping Unset refl refl refl (λ d. refl) (λ d. sym (said_none (latch_of k.target) d)) f)
    (effect (act_of (Worker a b) (WakeUp k)) h (Worker a b) c m) (woken_at (latch_of k.target) m (letter (latch_of k.target) m) refl)
act_fitting h g (Caller n) c m (GetSleepy k) fs ls = tt
act_fitting h g (Caller n) c m (FallAsleep k) fs ls = tt
act_fitting h g (Caller n) c m (WakeUp k) fs ls = tt
act_fitting h g (Worker a b) c m (GrowCall n) fs ls = grow_fitting (Worker a b) (GrowCall n) m _ _ refl ls refl refl refl refl
act_fitting h g (Caller d) c m (GrowCall n) fs ls = grow_fitting (Caller d) (GrowCall n) m _ _ refl ls refl refl refl refl
act_fitting h g (Worker a b) c m (GrowScope o) fs ls = grow_fitting (Worker a b) (GrowScope o) m _ _ refl ls refl refl refl refl
act_fitting h g (Caller d) c m (GrowScope o) fs ls = grow_fitting (Caller d) (GrowScope o) m _ _ refl ls refl refl refl refl
act_fitting h g (Worker a b) c m (GrowCast o) fs ls = grow_fitting (Worker a b) (GrowCast o) m _ _ refl ls refl refl refl refl
act_fitting h g (Caller d) c m (GrowCast o) fs ls = grow_fitting (Caller d) (GrowCast o) m _ _ refl ls refl refl refl refl
act_fitting h g q c m (SetLatch s) fs ls = if_some_map (λ r. Letters (SetLatch s) (Top g q (SetLatch s) fs (r.0)) × Sets s.latch m r) (Fit h g q m (SetLatch s) fs)
    (λ r f. set_fitting q (SetLatch s) m r (Top g q (SetLatch s) fs (r.0)) refl (f.0) ((struck s.latch m r (f.1)).0) ((struck s.latch m r (f.1)).1)) (effect (act_of q (SetLatch s)) h q c m)
    (if_some_and (λ r. Letters (SetLatch s) (Top g q (SetLatch s) fs (r.0))) (Sets s.latch m) (effect (act_of q (SetLatch s)) h q c m) ls (set_one h q c m s))
act_fitting h g (Worker a b) c m (SetLockLatch d t) fs ls = set_fitting (Worker a b) (SetLockLatch d t) m _ _ refl ls (inl refl) (inr refl)
act_fitting h g (Caller n) c m (SetLockLatch d t) fs ls = set_fitting (Caller n) (SetLockLatch d t) m _ _ refl ls (inl refl) (inr refl)
act_fitting h g q c m x fs ls = if_some_map (λ r. Letters x (Top g q x fs (r.0)) × SameLatches m r) (Fit h g q m x fs) (λ r f. same_fitting q x m r (Top g q x fs (r.0)) refl (f.0) (f.1)) (effect (act_of q x) h q c m)
    (if_some_and (λ r. Letters x (Top g q x fs (r.0))) (SameLatches m) (effect (act_of q x) h q c m) ls (latches_same h q c m x refl))

-- a frame says of no latch what it would be
letters_land : (x : Place) (g : Move) (fs : List Place) → Steers x g → Based (record { top = x; below = fs }) → Unless (letters_here x) (Letters x ((after_move g fs).top))
letters_land x g fs s b = land x (λ y. Unless (letters_here x) (Letters x y)) g fs (λ p f n. back (letters_here x) f n (p.0)) (λ y p. p.0) s (b.0) (b.1)
  where
    back : (z : Bool) (f : Place) → is_live f ≡ true → Unless z (Letters x Free) → Unless z (Letters x f)
    back true f n u = tt
    back false f n u = λ l. (live_mild f n).0 l ∙ u l

-- what holds of the latches of every world
pub record LettersHold (w : World) : Type 0 where
  pub seat : (p i : ℕ) → Fits (w.seat p i).latch Terminate (w.stack (Worker p i)).top
  pub call : (q : Party) (c : ℕ) → Mine w q c → Fits (w.call c).latch (OfCall c) (w.stack q).top
  pub fresh : (c : ℕ) → w.calls ≤ c → (w.call c).latch ≡ Unset
  pub owner : (c : ℕ) → c < w.calls → (q : Party) × Mine w q c

pub always_owned : (h : Shape) (es : List Event) (w : World) → IsRun (start h) es w → Owned w
always_owned h es w r = run_keeps Owned step_owned (start h) w es (first_owned h) r

-- a call has one owner
one_owner : (w : World) (q r : Party) (c : ℕ) → Mine w q c → Mine w r c → q ≡ r
one_owner w q r c a b = ap setter_of (sym (a.1) ∙ b.1)

-- the calls and jobs that were there have the owners that they had
abbrev Keepers : World → World → Type 0
Keepers w v = (q : Party) (c : ℕ) → c < w.calls → Mine v q c → Mine w q c

grown_keepers : (w v : World) → Owned w → Grown w v → Keepers w v
grown_keepers w v ow g q c l m = (l, ap owner_of (sym (g.kind ((w.call c).job) (ow.called c l))) ∙ ap (λ t. owner_of (v.job t).kind) (sym (g.call c l)) ∙ m.1)

-- a party's act, from w to v
record ActLetters (w : World) (q : Party) (v : World) : Type 0 where
  grown : Grown w v
  calls : v.calls ≡ w.calls
  others : (r : Party) → same_party r q ≡ false → v.stack r ≡ w.stack r
  seat : (p i : ℕ) → q ≡ Worker p i → (w.seat p i).latch ≡ letter_for Terminate (w.stack q).top → Fits (v.seat p i).latch Terminate (v.stack q).top
  seats : (p i : ℕ) → same_party (Worker p i) q ≡ false → ((v.seat p i).latch ≡ (w.seat p i).latch) ⊎ ((v.seat p i).latch ≡ IsSet)
  call : (c : ℕ) → (w.call c).latch ≡ letter_for (OfCall c) (w.stack q).top → Fits (v.call c).latch (OfCall c) (v.stack q).top
  other : (c : ℕ) → (own_call (w.stack q).top ≡ Some c → ⊥) → ((v.call c).latch ≡ (w.call c).latch) ⊎ ((v.call c).latch ≡ IsSet)

-- where a worker writes letters, its act is on its own seat
writes_home : (x : Place) → letters_here x ≡ true → at_home x ≡ true
writes_home (GetSleepy k) e = refl
writes_home (FallAsleep k) e = refl
writes_home (WakeUp k) e = refl
writes_home _ e = cc

module _ (w : World) (q : Party) (r : Seen × Part) (f : Fitting q (w.stack q).top (part_at w q (w.stack q)) r (Top (shape_at w q (w.stack q)) q (w.stack q).top (w.stack q).below (r.0))) where
  abbrev k : Stack
  k = w.stack q

  abbrev p0 : ℕ
  p0 = target_pool q (act_of q k.top)

  abbrev i0 : ℕ
  i0 = target_worker q (act_of q k.top)

  abbrev c0 : ℕ
  c0 = target_call (act_of q k.top)

  abbrev after_it : World
  after_it = result w q k r

  abbrev to : Stack
  to = after_move (next_at w q k (r.0)) k.below

  own : after_it.stack q ≡ to
  own = stack_mine w.stack q to

  touched : (p i : ℕ) → ((p == p0) && (i == i0)) ≡ true → (part_at w q k).seat ≡ w.seat p i
  touched p i z = let at : (p ≡ p0) × (i ≡ i0) = same_index p i p0 i0 z in ap (λ n. w.seat n i0) (sym (at.0)) ∙ ap (λ n. w.seat p n) (sym (at.1))

  -- an act that writes letters touches its worker's seat
  at_own : (p i : ℕ) → q ≡ Worker p i → letters_here k.top ≡ true → ((p == p0) && (i == i0)) ≡ true
  at_own p i is z =
      let x : Place = k.top in let h : at_home x ≡ true = writes_home x z in
      let a : p0 ≡ p = ap (λ s. target_pool s (act_of s x)) is ∙ home_pool p i x h in
      let b : i0 ≡ i = ap (λ s. target_worker s (act_of s x)) is ∙ home_worker p i x h in
      ap (λ n. (p == n) && (i == i0)) a ∙ ap (λ n. (p == p) && (i == n)) b ∙ same_refl p i

  seat_at : (p i : ℕ) → q ≡ Worker p i → (w.seat p i).latch ≡ letter_for Terminate k.top → (z : Bool) → ((p == p0) && (i == i0)) ≡ z → Fits (if z then r.1.seat else w.seat p i).latch Terminate to.top
  seat_at p i is e true z = f.seat (ap (λ s. s.latch) (touched p i z) ∙ e)
  seat_at p i is e false z = elim (either (letters_here k.top)) [
    | inl y ↦ absurd (let a : true ≡ false = sym (at_own p i is y) ∙ z in cc)
    | inr n ↦ inr (e ∙ sym (f.away n))
  ]

  -- of another worker
  seats_at : (p i : ℕ) → same_party (Worker p i) q ≡ false → (z : Bool) → ((p == p0) && (i == i0)) ≡ z → ((if z then r.1.seat else w.seat p i).latch ≡ (w.seat p i).latch) ⊎ ((if z then r.1.seat else w.seat p i).latch ≡ IsSet)
  seats_at p i d false z = inl refl
  seats_at p i d true z = elim (either (letters_here k.top)) [
    | inl y ↦ absurd (elsewhere (own_pool q) (own_index q) (f.home y) y)
    | inr n ↦ elim (f.seats n) [ inl a ↦ inl (a ∙ ap (λ s. s.latch) (touched p i z)) | inr a ↦ inr a ]
  ]
    where
      elsewhere : (a b : ℕ) → q ≡ Worker a b → letters_here k.top ≡ true → ⊥
      elsewhere a b is y =
          let m : (a ≡ p0) × (b ≡ i0) = same_index a b p0 i0 (at_own a b is y) in let n : (p ≡ p0) × (i ≡ i0) = same_index p i p0 i0 z in
          let s : Worker p i ≡ q = ap (λ n. Worker n i) (n.0 ∙ sym (m.0)) ∙ ap (λ n. Worker a n) (n.1 ∙ sym (m.1)) ∙ sym is in
          let t : true ≡ false = sym (ap (λ y. same_party y q) s ∙ same_party_refl q) ∙ d in cc

  call_at : (c : ℕ) → (w.call c).latch ≡ letter_for (OfCall c) k.top → (z : Bool) → (c == c0) ≡ z → Fits (if z then r.1.call else w.call c).latch (OfCall c) to.top
  call_at c e true z = let s : c ≡ c0 = eqb-true c c0 z in subst (λ n. Fits r.1.call.latch (OfCall n) to.top) (sym s) (f.call (ap (λ n. (w.call n).latch) (sym s) ∙ e ∙ ap (λ n. letter_for (OfCall n) k.top) s))
  call_at c e false z = inr (e ∙ sym (f.aside c z))

  other_at : (c : ℕ) → (own_call k.top ≡ Some c → ⊥) → (z : Bool) → (c == c0) ≡ z → ((if z then r.1.call else w.call c).latch ≡ (w.call c).latch) ⊎ ((if z then r.1.call else w.call c).latch ≡ IsSet)
  other_at c n false z = inl refl
  other_at c n true z = let s : c ≡ c0 = eqb-true c c0 z in elim (f.calls (λ e. n (e ∙ ap Some (sym s)))) [ inl a ↦ inl (a ∙ ap (λ n. (w.call n).latch) (sym s)) | inr a ↦ inr a ]

  acted : Grown w after_it → ActLetters w q after_it
  acted g = record {
    grown = g;
    calls = refl;
    others = λ s e. stack_other w.stack q to s e;
    seat = λ p i is e. subst (λ y. Fits (after_it.seat p i).latch Terminate (y.top)) (sym own) (seat_at p i is e ((p == p0) && (i == i0)) refl);
    seats = λ p i d. seats_at p i d ((p == p0) && (i == i0)) refl;
    call = λ c e. subst (λ y. Fits (after_it.call c).latch (OfCall c) (y.top)) (sym own) (call_at c e (c == c0) refl);
    other = λ c n. other_at c n (c == c0) refl;
  }

go_letters : (w : World) (q : Party) → Based (w.stack q) → IfSome (step w (Go q)) (ActLetters w q)
go_letters w q b = acted_keeps w q k (target_pool q (act_of q k.top)) (target_worker q (act_of q k.top)) (target_call (act_of q k.top)) (job_at w q (act_of q k.top)) (outcome w q k) (ActLetters w q)
    (if_some_map (λ r. Fit w.shape (shape_at w q k) q (part_at w q k) k.top k.below r × Grown w (result w q k r)) (λ r. ActLetters w q (result w q k r)) (λ r f. acted w q r (f.0) (f.1)) (outcome w q k)
    (if_some_and (Fit w.shape (shape_at w q k) q (part_at w q k) k.top k.below) (λ r. Grown w (result w q k r)) (outcome w q k)
    (act_fitting w.shape (shape_at w q k) q (counts_seen w q k) (part_at w q k) k.top k.below
    (if_some_map (λ r. Steers k.top (next_at w q k (r.0))) (λ r. Unless (letters_here k.top) (Letters k.top (Top (shape_at w q k) q k.top k.below (r.0)))) (λ r s. letters_land k.top (next_at w q k (r.0)) k.below s b) (outcome w q k)
    (steers w.shape (shape_at w q k) q (counts_seen w q k) (part_at w q k) k.top)))
    (go_grown w q)))
  where
    k : Stack
    k = w.stack q

-- only the owner of a call writes letters into its latch
letter_owns : (c : ℕ) (k : Wait) (y : Letter) → (target_number k.target ≡ Some c → ⊥) → said (latch_of k.target) y (OfCall c) ≡ Unset
letter_owns c k y n = by k.target n
  where
    at : (d : ℕ) (z : Bool) → (c == d) ≡ z → (Some d ≡ Some c → ⊥) → (if z then y else Unset) ≡ Unset
    at d true e n = absurd (n (ap Some (sym (eqb-true c d e))))
    at d false e n = refl

    by : (g : Target) → (target_number g ≡ Some c → ⊥) → said (latch_of g) y (OfCall c) ≡ Unset
    by Termination n = refl
    by (Answer o f) n = at o.number (c == o.number) refl n

no_letter : (c : ℕ) (x : Place) → (own_call x ≡ Some c → ⊥) → letter_for (OfCall c) x ≡ Unset
no_letter c (LockOwn k) n = letter_owns c k IsSleepy n
no_letter c (FallAsleep k) n = letter_owns c k IsSleepy n
no_letter c (LoadCounters k) n = letter_owns c k Sleeping n
no_letter c (AddSleeping k) n = letter_owns c k Sleeping n
no_letter c (LookAtCast k) n = letter_owns c k Sleeping n
no_letter c (LookAtInjector k) n = letter_owns c k Sleeping n
no_letter c (BlockSelf k) n = letter_owns c k Sleeping n
no_letter c (RelockOwn k) n = letter_owns c k Sleeping n
no_letter c (UndoSleeping k) n = letter_owns c k Sleeping n
no_letter c (WakeUp k) n = letter_owns c k Sleeping n
no_letter c _ n = refl

-- a party whose call this is not writes nothing there
not_mine : (w : World) (q : Party) (c : ℕ) → Owned w → (Mine w q c → ⊥) → own_call (w.stack q).top ≡ Some c → ⊥
not_mine w q c ow n e = n (((ow.named q).top).own c e)

below : (c n : ℕ) → (c < n) ⊎ (n ≤ c)
below c n = elim (either (nat_lt c n)) [ inl e ↦ inl (ltb-true c n e) | inr e ↦ inr (ltb-false c n e) ]

-- what stays set
abbrev Stays : World → World → Type 0
Stays w v = (p i : ℕ) (l : Latch) → letter_at w p i l ≡ IsSet → letter_at v p i l ≡ IsSet

act_letters : (w v : World) (q : Party) → Owned w → Stays w v → ((c : ℕ) → (v.call c).latch ≡ IsSet → c + 1 ≤ v.calls) → ActLetters w q v → LettersHold w → LettersHold v
act_letters w v q ow stays known a h = record {
  seat = λ p i. seat p i (h.seat p i) (either (same_party (Worker p i) q));
  call = λ s c m. call s c (grown_keepers w v ow a.grown s c (let l : c < v.calls = m.0 in subst (λ n. c < n) a.calls l) m) (either (same_party s q));
  fresh = λ c l. fresh c (subst (λ n. n ≤ c) a.calls l);
  owner = λ c l. (let o : (s : Party) × Mine w s c = h.owner c (subst (λ n. c < n) a.calls l) in (o.0, grown_mine w v ow a.grown (o.0) c (o.1)));
}
  where
    seat : (p i : ℕ) → Fits (w.seat p i).latch Terminate (w.stack (Worker p i)).top → (same_party (Worker p i) q ≡ true) ⊎ (same_party (Worker p i) q ≡ false) → Fits (v.seat p i).latch Terminate (v.stack (Worker p i)).top
    seat p i (inl s) m = inl (stays p i Terminate s)
    seat p i (inr s) (inl e) = let is : Worker p i ≡ q = same_party_true (Worker p i) q e in subst (λ z. Fits (v.seat p i).latch Terminate (v.stack z).top) (sym is) (a.seat p i (sym is) (s ∙ ap (λ z. letter_for Terminate (w.stack z).top) is))
    seat p i (inr s) (inr e) = elim (a.seats p i e) [ inl b ↦ inr (b ∙ s ∙ ap (λ z. letter_for Terminate (z.top)) (sym (a.others (Worker p i) e))) | inr b ↦ inl b ]

    call : (s : Party) (c : ℕ) → Mine w s c → (same_party s q ≡ true) ⊎ (same_party s q ≡ false) → Fits (v.call c).latch (OfCall c) (v.stack s).top
    call s c m e = elim (h.call s c m) [
      | inl z ↦ inl (stays 0 0 (OfCall c) z)
      | inr z ↦ elim e [
        | inl y ↦ (let is : s ≡ q = same_party_true s q y in subst (λ n. Fits (v.call c).latch (OfCall c) (v.stack n).top) (sym is) (a.call c (z ∙ ap (λ n. letter_for (OfCall c) (w.stack n).top) is)))
        | inr y ↦ elim (a.other c (not_mine w q c ow (λ o. let is : s ≡ q = one_owner w s q c m o in let u : true ≡ false = sym (ap (same_party s) (sym is) ∙ same_party_refl s) ∙ y in cc))) [ inl b ↦ inr (b ∙ z ∙ ap (λ n. letter_for (OfCall c) (n.top)) (sym (a.others s y))) | inr b ↦ inl b ]
      ]
    ]

    fresh : (c : ℕ) → w.calls ≤ c → (v.call c).latch ≡ Unset
    fresh c l = elim (a.other c (not_mine w q c ow (λ o. let m : c < w.calls = o.0 in omega (arith, m, l)))) [
      | inl b ↦ b ∙ h.fresh c l
      | inr b ↦ absurd (let m : c + 1 ≤ v.calls = known c b in let n : v.calls ≡ w.calls = a.calls in omega (arith, m, l, n))
    ]

-- an event that is no act
turn_letters : (w v : World) → Owned w → Owned v → ((q : Party) → Based (w.stack q)) → ((t : ℕ) → t < w.jobs → (v.job t).kind ≡ (w.job t).kind) → Stepped w v → LettersHold w → LettersHold v
turn_letters w v ow ov b kinds m h = record {
  seat = λ p i. subst (λ x. Fits x Terminate (v.stack (Worker p i)).top) (sym (ap (λ s. s.latch) (m.seat p i))) (at (w.seat p i).latch Terminate (Worker p i) (h.seat p i));
  call = λ q c o. elim (m.call c) [
    | inl e ↦ subst (λ x. Fits x (OfCall c) (v.stack q).top) (sym (ap (λ z. z.latch) e)) (at (w.call c).latch (OfCall c) q (old q c o e (below c w.calls)))
    | inr e ↦ inr (e.1 ∙ sym (here (OfCall c) q ∙ no_letter c (w.stack q).top (not_mine w q c ow (λ o. let a : c < w.calls = o.0 in let d : w.calls ≤ c = e.0 in omega (arith, a, d)))))
  ];
  fresh = λ c l. (let g : w.calls ≤ v.calls = m.calls.0 in let n : w.calls ≤ c = omega (arith, g, l) in elim (m.call c) [ inl e ↦ ap (λ z. z.latch) e ∙ h.fresh c n | inr e ↦ e.1 ]);
  owner = λ c l. owner c l (below c w.calls);
}
  where
    here : (l : Latch) (q : Party) → letter_for l (v.stack q).top ≡ letter_for l (w.stack q).top
    here l q = ap (λ z. letter_for l (z.top)) (m.stack q) ∙ by (same_party q m.party) refl
      where
        by : (z : Bool) → same_party q m.party ≡ z → letter_for l (if z then m.to else w.stack q).top ≡ letter_for l (w.stack q).top
        by true e = (m.same (b m.party)).0 l ∙ ap (λ z. letter_for l (w.stack z).top) (sym (same_party_true q m.party e))
        by false e = refl

    at : (x : Letter) (l : Latch) (q : Party) → Fits x l (w.stack q).top → Fits x l (v.stack q).top
    at x l q (inl e) = inl e
    at x l q (inr e) = inr (e ∙ sym (here l q))

    old : (q : Party) (c : ℕ) → Mine v q c → v.call c ≡ w.call c → (c < w.calls) ⊎ (w.calls ≤ c) → Fits (w.call c).latch (OfCall c) (w.stack q).top
    old q c o e (inl l) = h.call q c (l, ap owner_of (sym (kinds ((w.call c).job) (ow.called c l))) ∙ ap (λ z. owner_of (v.job (z.job)).kind) (sym e) ∙ o.1)
    old q c o e (inr l) = inr (h.fresh c l ∙ sym (no_letter c (w.stack q).top (not_mine w q c ow (λ o. let a : c < w.calls = o.0 in omega (arith, a, l)))))

    same : (c : ℕ) → c < w.calls → (v.call c ≡ w.call c) ⊎ ((w.calls ≤ c) × ((v.call c).latch ≡ Unset) × ((v.call c).writer ≡ None)) → (v.call c).job ≡ (w.call c).job
    same c n (inl e) = ap (λ z. z.job) e
    same c n (inr e) = absurd (let d : w.calls ≤ c = e.0 in omega (arith, n, d))

    owner : (c : ℕ) → c < v.calls → (c < w.calls) ⊎ (w.calls ≤ c) → (q : Party) × Mine v q c
    owner c l (inr n) = (m.party, ((ov.named m.party).top).own c (ap (λ z. own_call (z.top)) (m.stack m.party ∙ stack_mine w.stack m.party m.to) ∙ m.calls.1 c n l))
    owner c l (inl n) = let o : (q : Party) × Mine w q c = h.owner c n in (o.0, (l, ap owner_of (ap (λ z. (v.job z).kind) (same c n (m.call c)) ∙ kinds ((w.call c).job) (ow.called c n)) ∙ o.1.1))

step_letters : (h : Shape) (es : List Event) (w v : World) (e : Event) → IsRun (start h) es w → step w e ≡ Some v → LettersHold w → LettersHold v
step_letters h es w v e r s k = by e s
  where
    ow : Owned w
    ow = always_owned h es w r

    based : (q : Party) → Based (w.stack q)
    based = (always_stops h es w r).based

    stays : (e : Event) → step w e ≡ Some v → Stays w v
    stays e s p i l a = (let f : SetsSo w v e p i l = sets_law h es w v e p i l r s in f.stays) a

    by : (e : Event) → step w e ≡ Some v → LettersHold v
    by (Go q) s = act_letters w v q ow (stays (Go q) s) (λ c z. ((made CallsHold w v (Go q) s (step_calls w (Go q) (always_calls h es w r))).latches c z).0) (made (ActLetters w q) w v (Go q) s (go_letters w q (based q))) k
    by e s = turn_letters w v ow (made Owned w v e s (step_owned w e ow)) based (λ t l. (made_law w v e t s l).kind) (made (Stepped w) w v e s (turns w e refl)) k

first_letters : (h : Shape) → LettersHold (start h)
first_letters h = record {
  seat = λ p i. inr (sym (at (nat_lt i (h.pool p).workers) ((h.pool p).callers_own && (i == 0))));
  call = λ q c m. absurd (let l : c < 0 = m.0 in omega (arith, l));
  fresh = λ c l. refl;
  owner = λ c l. absurd (omega (arith, l));
}
  where
    at : (b d : Bool) → letter_for Terminate (if b then (if d then Free else ProbeWorking (fresh Termination)) else Stopped) ≡ Unset
    at true true = refl
    at true false = refl
    at false d = refl

pub always_letters : (h : Shape) (es : List Event) (w : World) → IsRun (start h) es w → LettersHold w
always_letters h es w r = run_has h LettersHold (step_letters h) (first_letters h) es w r

pub lettered : (w : World) → Owned w → LettersHold w → IsLettered w
lettered w ow h = record { terminate = h.seat; call = λ c. call c (below c w.calls) }
  where
    owned : (c : ℕ) (q : Party) → Mine w q c → Fits (w.call c).latch (OfCall c) (w.stack q).top → ((w.call c).latch ≡ IsSet) ⊎ CallLettered w c
    owned c q m (inl e) = inl e
    owned c q m (inr e) = inr (record {
      waiter = q;
      letter = e;
      others = λ r d. no_letter c (w.stack r).top (not_mine w r c ow (λ o. let s : r ≡ q = one_owner w r q c o m in let u : true ≡ false = sym (ap (λ n. same_party n q) s ∙ same_party_refl q) ∙ d in cc));
    })

    call : (c : ℕ) → (c < w.calls) ⊎ (w.calls ≤ c) → ((w.call c).latch ≡ IsSet) ⊎ CallLettered w c
    call c (inl l) = let o : (q : Party) × Mine w q c = h.owner c l in owned c (o.0) (o.1) (h.call (o.0) c (o.1))
    call c (inr l) = inr (record {
      waiter = Caller 0;
      letter = h.fresh c l ∙ sym (nothing (Caller 0));
      others = λ r d. nothing r;
    })
      where
        nothing : (r : Party) → letter_for (OfCall c) (w.stack r).top ≡ Unset
        nothing r = no_letter c (w.stack r).top (not_mine w r c ow (λ o. let a : c < w.calls = o.0 in omega (arith, a, l)))
