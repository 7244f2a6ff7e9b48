-- steps and runs: what each act and each other event keeps holds in every world of every run
--
-- Here are the events that are no acts (`Moved`). What each step keeps, every run has (`run_keeps`).
use Rattle.rayon_machine_places.specs.declared.place.Count.TheVariants.{OfPool}
use Rattle.rayon_machine_places.specs.declared.place.Plan.TheVariants.{Feed, Detach, Here, Send, Fork, Open, Enter, Gather}
use Rattle.std.proofs.Common.{refl, sym, ◌∙◌, subst}
use Rattle.std.specs.Prelude.{ℕ, Bool, true, false, ◌&&◌, ◌==◌, nat_lt, if◌then◌else◌, Some, None, List, [], ◌∷◌, ◌≡◌, IfSome}
use Rattle.rayon_machine_places.specs.declared.place.Party.{Party}
use Rattle.rayon_machine_places.specs.declared.place.Party.TheVariants.{Worker}
use Rattle.rayon_machine_places.specs.declared.place.Ending.{Ending}
use Rattle.rayon_machine_places.specs.declared.place.Ending.TheVariants.{Fine, Fault}
use Rattle.rayon_machine_places.specs.declared.place.JobKind.{JobKind}
use Rattle.rayon_machine_places.specs.declared.place.JobKind.TheVariants.{Detached, Stored, Direct, TokenOf, Scoped, BodyOf, PieceOf, WholeOf}
use Rattle.rayon_machine_places.specs.declared.place.Target.TheVariants.{Termination}
use Rattle.rayon_machine_places.specs.declared.place.Place.{Place}
use Rattle.rayon_machine_places.specs.declared.place.Place.TheVariants.{ProbeWorking, YieldPop, LocalPop, Run, FirstSide, Free, Stopped, RaiseCount, RaiseForAll, LowerCount}
use Rattle.rayon_machine_runs.specs.declared.event.Event.{Event}
use Rattle.rayon_machine_runs.specs.declared.event.Event.TheVariants.{Go}
use Rattle.rayon_machine_places.specs.declared.place.Share.TheVariants.{PoolValue}
use Rattle.rayon_machine_places.specs.declared.place.Then.TheVariants.{Resume}
use Rattle.rayon_machine_laws.proofs.Cases.{Turn, NoScope, turn_from, turn_to, is_free_at, is_act, event_cases}
use Rattle.rayon_machine_laws.proofs.Frame.{if_some_map, same_party_true}
use Rattle.rayon_machine_laws.proofs.Seats.{Out, SeatOk, frame_out, is_frame, mode}
use Rattle.rayon_machine_laws.proofs.Ties.{AllFrames, SeatsOk, StackOk, go_seats, job_at, outcome, result}
use Rattle.rayon_machine_places.specs.Places.{act_of, fresh, goes_on, is_free, same_party}
use Rattle.rayon_machine_runs.specs.Runs.{IsRun, start}
use Rattle.rayon_machine_runs.specs.Steps.{after_outcome, after_call, after_close, put_stack, after_resume, after_send, step}
use Rattle.rayon_machine_runs.specs.World.{Outcome, Seat, Shape, Stack, World}
use Rattle.rayon_machine_places.specs.Targets.{target_call, target_pool, target_worker}

--
-- Every event but `Go` moves one party, and changes no seat: it is a `Moved`. To show that each step
-- keeps a property of worlds, show that each act does (`outcome`, `result`) and that each `Moved` does,
-- and hand both to `each_step`; `run_keeps` takes it to all runs.

-- one party's stack is another, which fits its seat as the old one did; no seat is changed
pub record Moved (w u : World) : Type 0 where
  pub party : Party
  pub to : Stack
  pub shape : u.shape ≡ w.shape
  pub stack : (r : Party) → u.stack r ≡ put_stack w.stack party to r
  pub seat : (p i : ℕ) → u.seat p i ≡ w.seat p i
  pub fits : (p i : ℕ) (s : Seat) → StackOk p i (w.stack party) s → StackOk p i to s

-- places that say the same of the seat
same_mode : (p i : ℕ) (x y : Place) (fs : List Place) (k : Stack) (s : Seat) → k ≡ record { top = x; below = fs } → mode x ≡ mode y → StackOk p i k s → StackOk p i (record { top = y; below = fs }) s
same_mode p i x y fs k s e m ok = record { top = subst (λ z. SeatOk p i z s) m (subst (λ z. SeatOk p i (mode (z.top)) s) e (ok.top)); below = subst (λ z. AllFrames (z.below)) e (ok.below) }

plain_goes_on : (f : Place) (e : Ending) → is_frame f ≡ true → mode (goes_on f e) ≡ Out
plain_goes_on (FirstSide o a) Fine m = refl
plain_goes_on (FirstSide o a) Fault m = refl
plain_goes_on (ProbeWorking k) e m = refl
plain_goes_on _ e m = cc

pub free_frame : (x : Place) → is_free x ≡ true → is_frame x ≡ true
free_frame (Run t k) e = refl
free_frame Free e = refl
free_frame _ e = cc

-- back to a frame
fits_resumed : (p i : ℕ) (fs : List Place) (e : Ending) (s : Seat) → SeatOk p i Out s → AllFrames fs → StackOk p i (after_resume fs e) s
fits_resumed p i [] e s ok a = record { top = ok; below = tt }
fits_resumed p i (f ∷ fs) e s ok a = record { top = subst (λ z. SeatOk p i z s) (sym (plain_goes_on f e (a.0))) ok; below = a.1 }

fits_closed : (p i t : ℕ) (k : JobKind) (fs : List Place) (e : Ending) (s : Seat) → SeatOk p i Out s → AllFrames fs → StackOk p i (after_close t k e fs) s
fits_closed p i t (Detached r) fs e s ok a = record { top = ok; below = a }
fits_closed p i t (Stored c o) fs e s ok a = record { top = ok; below = a }
fits_closed p i t (Scoped c o) fs e s ok a = record { top = ok; below = a }
fits_closed p i t (PieceOf c o) fs e s ok a = record { top = ok; below = a }
fits_closed p i t Direct fs e s ok a = fits_resumed p i fs e s ok a
fits_closed p i t (TokenOf i9 b8) fs e s ok a = fits_resumed p i fs e s ok a
fits_closed p i t (BodyOf c9 o9) fs e s ok a = fits_resumed p i fs e s ok a
fits_closed p i t (WholeOf c9 o9) fs e s ok a = fits_resumed p i fs e s ok a

-- a call begins above a free place
fits_called : (p i : ℕ) (k : Stack) (y : Place) (s : Seat) → is_free (k.top) ≡ true → mode y ≡ Out → StackOk p i k s → StackOk p i (after_call k y) s
fits_called p i k y s f m ok = record { top = subst (λ z. SeatOk p i z s) (frame_out (k.top) (free_frame (k.top) f) ∙ sym m) (ok.top); below = (free_frame (k.top) f, ok.below) }

turn_mode : (t : Turn) → mode (turn_from t) ≡ mode (turn_to t)
turn_mode (NoScope o) = refl
turn_mode _ = refl

call_moves : (w u : World) (q : Party) (y : Place) → is_free_at w q → mode y ≡ Out → u.shape ≡ w.shape → ((r : Party) → u.stack r ≡ put_stack w.stack q (after_call (w.stack q) y) r) → ((p i : ℕ) → u.seat p i ≡ w.seat p i) → Moved w u
call_moves w u q y f m h s c = record { party = q; to = after_call (w.stack q) y; shape = h; stack = s; seat = c; fits = λ p i k ok. fits_called p i (w.stack q) y k f m ok }

event_moves : (w : World) (e : Event) → is_act e ≡ false → IfSome (step w e) (Moved w)
event_moves w = event_cases (Moved w) w (record {
  turned = λ q t fs z. record { party = q; to = record { top = turn_to t; below = fs }; shape = refl; stack = λ r. refl; seat = λ p i. refl; fits = λ p i s ok. same_mode p i (turn_from t) (turn_to t) fs (w.stack q) s z (turn_mode t) ok };
  ended = λ q d t k fs z. record {
    party = q;
    to = after_close t k d fs;
    shape = refl;
    stack = λ r. refl;
    seat = λ p i. refl;
    fits = λ p i s ok. (let o : StackOk p i (record { top = Run t k; below = fs }) s = subst (λ v. StackOk p i v s) z ok in fits_closed p i t k fs d s (o.top) (o.below));
  };
  spawned = λ q p f. call_moves w _ q (RaiseCount (Detach p w.jobs)) f refl refl (λ r. refl) (λ p i. refl);
  fed = λ p i f. call_moves w _ (Worker p i) (RaiseCount (Feed _)) f refl refl (λ r. refl) (λ p i. refl);
  dealt = λ q p f. call_moves w _ q (RaiseForAll _) f refl refl (λ r. refl) (λ p i. refl);
  sent = λ q p b e f. sent q p b f;
  joined = λ p i f. call_moves w _ (Worker p i) (RaiseCount (Fork _ w.jobs)) f refl refl (λ r. refl) (λ p i. refl);
  scoped = λ q p f. call_moves w _ q (RaiseCount (Open _)) f refl refl (λ r. refl) (λ p i. refl);
  entered = λ q z k. call_moves w _ q (RaiseCount (Enter _)) k.free refl refl (λ r. refl) (λ p i. refl);
  fed_into = λ i z k. call_moves w _ (Worker z.pool i) (RaiseCount (Feed _)) k.free refl refl (λ r. refl) (λ p i. refl);
  dealt_into = λ q z k. call_moves w _ q (RaiseForAll _) k.free refl refl (λ r. refl) (λ p i. refl);
  gathered = λ q p f. call_moves w _ q (RaiseCount (Gather _)) f refl refl (λ r. refl) (λ p i. refl);
  yielded = λ p i f. call_moves w _ (Worker p i) YieldPop f refl refl (λ r. refl) (λ p i. refl);
  yielded_local = λ p i f. call_moves w _ (Worker p i) LocalPop f refl refl (λ r. refl) (λ p i. refl);
  given = λ q p f held. call_moves w _ q (LowerCount (OfPool p) PoolValue Resume) f refl refl (λ r. refl) (λ p i. refl);
})
  where
    sent : (q : Party) (p : ℕ) (b : Bool) → is_free_at w q → Moved w (after_send w q p (w.stack q) b)
    sent q p true f = call_moves w _ q (RaiseCount (Here p w.jobs)) f refl refl (λ r. refl) (λ p i. refl)
    sent q p false f = call_moves w _ q (RaiseCount (Send _)) f refl refl (λ r. refl) (λ p i. refl)

-- a property holds after a step, if after each act and after each such move
pub each_step : (P : World → Type 0) (w : World) → ((q : Party) → IfSome (outcome w q (w.stack q)) (λ r. P (result w q (w.stack q) r))) → ((u : World) → Moved w u → P u) → (e : Event) → IfSome (step w e) P
each_step P w go move (Go q) = acted_all w q (w.stack q) (outcome w q (w.stack q)) (go q)
  where
    acted_all : (w : World) (q : Party) (k : Stack) (o : Outcome) → IfSome o (λ r. P (result w q k r)) → IfSome (after_outcome w q k (target_pool q (act_of q (k.top))) (target_worker q (act_of q (k.top))) (target_call (act_of q (k.top))) (job_at w q (act_of q (k.top))) o) P
    acted_all w q k None h = tt
    acted_all w q k (Some r) h = h
each_step P w go move e = if_some_map (Moved w) P move (step w e) (event_moves w e refl)

moved_seats : (w : World) → SeatsOk w → (u : World) → Moved w u → SeatsOk u
moved_seats w ok u m p i = subst (λ s. StackOk p i (u.stack (Worker p i)) s) (sym (m.seat p i)) (subst (λ k. StackOk p i k (w.seat p i)) (sym (m.stack (Worker p i))) (at (same_party (Worker p i) (m.party)) refl))
  where
    at : (b : Bool) → same_party (Worker p i) (m.party) ≡ b → StackOk p i (if b then m.to else w.stack (Worker p i)) (w.seat p i)
    at true e = m.fits p i (w.seat p i) (subst (λ q. StackOk p i (w.stack q) (w.seat p i)) (same_party_true (Worker p i) (m.party) e) (ok p i))
    at false e = ok p i

pub step_seats : (w : World) (e : Event) → SeatsOk w → IfSome (step w e) SeatsOk
step_seats w e ok = each_step SeatsOk w (λ q. go_seats w q (w.stack q) refl ok) (moved_seats w ok) e

-- what each step keeps holds at the end of a run, if at its beginning
pub run_keeps : (P : World → Type 0) → ((w : World) (e : Event) → P w → IfSome (step w e) P) → (w u : World) (es : List Event) → P w → IsRun w es u → P u
run_keeps P f w u [] h r = subst P (sym r) h
run_keeps P f w u (e ∷ es) h (v, one, rest) = run_keeps P f v u es (let k : IfSome (Some v) P = subst (λ o. IfSome o P) one (f w e h) in k) rest

pub first_seats : (h : Shape) → SeatsOk (start h)
first_seats h p i = record { top = at (nat_lt i (h.pool p).workers) ((h.pool p).callers_own && (i == 0)); below = tt }
  where
    at : (b d : Bool) → SeatOk p i (mode (if b then (if d then Free else ProbeWorking (fresh Termination)) else Stopped)) ((start h).seat p i)
    at true true = record { inactive = refl; asleep = refl; blocked = λ e. cc; lock = λ e. cc }
    at true false = record { inactive = refl; asleep = refl; blocked = λ e. cc; lock = λ e. cc }
    at false d = record { inactive = refl; asleep = refl; blocked = λ e. cc; lock = λ e. cc }

-- in every world of every run each worker's seat fits its place
pub always_seats : (h : Shape) (es : List Event) (w : World) → IsRun (start h) es w → SeatsOk w
always_seats h es w r = run_keeps SeatsOk step_seats (start h) w es (first_seats h) r
