-- in every world of every run the injectors are attended
--
-- Why a committed worker is never left alone with work, act by act. `go_attends` goes over all places, and names for
-- each the lemma. The counts are of Counting.
-- 1. A push fills the injector: its party is a waker until it tells the news. A push onto the own deque fills no
--    injector. `push_attends`, of Pushing.
-- 2. News. If a worker is committed, somebody sleeps (`count_some`). News wakes nobody only in two cases
--    (`wakes_none`): nobody sleeps, or the queue was seen empty and fewer workers sleep than are inactive. In the
--    second one is inactive and not sleeping (`count_more`), so not committed: it looks. Otherwise the party owes a
--    wake, and has passed nobody yet. `tell_attends`, of Pushing.
-- 3. A worker leaves its search: it found something, or its latch is set. It was perhaps the only one that looked. But
--    if a worker is committed, the sleeping count is above 0. So the leaver owes a wake to one or two, and is a waker
--    now. `leave_attends`, of Leaving.
-- 4. The last look commits a worker only if the injector is empty there: nothing to show. `look_attends`. Block changes
--    nothing: the worker was committed before. `block_attends`. Both are of Leaving.
-- 5. A Wake. If the worker there was blocked, it is inactive and no longer committed: it looks. If not, it is not about
--    to block itself either: then it would hold the lock that the waker holds (`not_committed` of Waking). So no
--    committed worker is passed unwoken. `wake_attends` for a walk, `settled_attends` for the Wake after a latch was
--    set; both of Waking.
-- 6. Every other act leaves the committed workers as they are, and makes no inactive one active (`quiet_go` of Calm).
--    It fills no injector (`shrinks`), and what was owed is still owed (`unlock_owes`, for a walk that leaves a lock).
--    `quiet_attends`, of Attend.
-- The events that are no acts change none of it (`aside_same`). `step_awake` adds them, and `always_awake` says it of
-- every world. The shape never changes.
use Rattle.std.proofs.Common.{refl, sym, ◌∙◌, ap, subst}
use Rattle.std.specs.Prelude.{ℕ, Bool, true, false, ◌&&◌, ◌||◌, ◌==◌, nat_lt, if◌then◌else◌, Option, Some, List, ◌≡◌, IfSome}
use Rattle.rayon_machine_places.specs.declared.place.Party.{Party}
use Rattle.rayon_machine_places.specs.declared.place.Party.TheVariants.{Worker, Caller}
use Rattle.rayon_machine_places.specs.declared.place.Target.TheVariants.{Termination}
use Rattle.rayon_machine_places.specs.declared.place.Place.{Place}
use Rattle.rayon_machine_places.specs.declared.place.Place.TheVariants.{ProbeWorking, LookAtInjector, BlockSelf, LeaveSearch, PushJob, TellNews, LockToWake, WakeWorker, UnlockWoken, WakeSettled, Free, Stopped}
use Rattle.rayon_machine_places.specs.declared.act.Seen.{Seen}
use Rattle.rayon_machine_runs.specs.declared.event.Event.{Event}
use Rattle.rayon_machine_places.specs.Places.{same_party, fresh}
use Rattle.rayon_machine_runs.specs.World.{Shape, Stack, World, Part}
use Rattle.rayon_machine_runs.specs.Steps.{step}
use Rattle.rayon_machine_runs.specs.Runs.{first_place, start, IsRun}
use Rattle.rayon_machine_laws.specs.Committed.{is_blocking}
use Rattle.rayon_machine_laws.specs.Attended.{is_filled}
use Rattle.rayon_machine_laws.proofs.Asides.{is_calm, Aside, steps_aside}
use Rattle.rayon_machine_laws.proofs.Attend.{owes, Attended, Same, looks_parts, attended_same, is_owing, owes_nothing, unlock_owes, quiet_attends}
use Rattle.rayon_machine_laws.proofs.Calm.{light_awake}
use Rattle.rayon_machine_laws.proofs.Events.{step_seats, run_keeps, first_seats}
use Rattle.rayon_machine_laws.proofs.Frame.{same_party_true, if_some_all, if_some_and, if_some_map}
use Rattle.rayon_machine_laws.proofs.Holding.{LocksOk, go_locks, go_frames}
use Rattle.rayon_machine_laws.proofs.Leaving.{look_attends, block_attends, leave_attends}
use Rattle.rayon_machine_laws.proofs.Locks.{holds, light_holds}
use Rattle.rayon_machine_laws.proofs.Pushing.{push_attends, tell_attends}
use Rattle.rayon_machine_laws.proofs.Ties.{AllFrames, SeatsOk, outcome, result, go_seats}
use Rattle.rayon_machine_laws.proofs.Tops.{FramesOk, is_light}
use Rattle.rayon_machine_laws.proofs.Waking.{settled_attends, wake_attends}

go_attends : (w : World) (q : Party) (x : Place) (fs : List Place) → w.stack q ≡ record { top = x; below = fs } → SeatsOk w → FramesOk w → LocksOk w → Attended w → IfSome (outcome w q (record { top = x; below = fs })) (λ r. Attended (result w q (record { top = x; below = fs }) r))
go_attends w (Worker c d) (LookAtInjector j) fs e ok fr locks a = look_attends w c d j fs e a
go_attends w (Worker c d) (BlockSelf j) fs e ok fr locks a = block_attends w c d j fs e a
go_attends w (Worker c d) (LeaveSearch j) fs e ok fr locks a = leave_attends w c d j fs e ok fr a
go_attends w (Caller n) (LookAtInjector j) fs e ok fr locks a = tt
go_attends w (Caller n) (BlockSelf j) fs e ok fr locks a = tt
go_attends w (Caller n) (LeaveSearch j) fs e ok fr locks a = tt
go_attends w q (PushJob n v) fs e ok fr locks a = push_attends w q n v fs e fr a
go_attends w q (TellNews n v) fs e ok fr locks a = tell_attends w q n v fs e ok fr a
go_attends w q (LockToWake n) fs e ok fr locks a = quiet_attends w q (record { top = LockToWake n; below = fs }) e fr a refl refl (λ seen p i below o. o)
go_attends w q (WakeWorker n) fs e ok fr locks a = wake_attends w q n fs e ok fr locks a
go_attends w q (UnlockWoken n) fs e ok fr locks a = quiet_attends w q (record { top = UnlockWoken n; below = fs }) e fr a refl refl (λ seen p i below o. unlock_owes w q n fs p i below o)
go_attends w q (WakeSettled s) fs e ok fr locks a = settled_attends w q s fs e ok fr a
go_attends w q x fs e ok fr locks a = quiet_attends w q (record { top = x; below = fs }) e fr a refl refl (λ seen p i below o. cc)

-- what holds in each world
pub record Awake (w : World) : Type 0 where
  pub seats : SeatsOk w
  pub frames : FramesOk w
  pub locks : LocksOk w
  pub attended : Attended w

four : {A : Type 0} (P Q R S : A → Type 0) (o : Option A) → IfSome o P → IfSome o Q → IfSome o R → IfSome o S → IfSome o (λ r. (P r × Q r) × (R r × S r))
four P Q R S o a b c d = if_some_and (λ r. P r × Q r) (λ r. R r × S r) o (if_some_and P Q o a b) (if_some_and R S o c d)

go_awake : (w : World) → Awake w → (q : Party) → IfSome (outcome w q (w.stack q)) (λ r. Awake (result w q (w.stack q) r))
go_awake w h q =
    let k : Stack = w.stack q in
    if_some_map (λ r. (SeatsOk (result w q k r) × FramesOk (result w q k r)) × (LocksOk (result w q k r) × Attended (result w q k r))) (λ r. Awake (result w q k r))
    (λ r a. record { seats = (a.0).0; frames = (a.0).1; locks = (a.1).0; attended = (a.1).1 }) (outcome w q k)
    (four (λ r. SeatsOk (result w q k r)) (λ r. FramesOk (result w q k r)) (λ r. LocksOk (result w q k r)) (λ r. Attended (result w q k r)) (outcome w q k)
    (go_seats w q k refl h.seats) (go_frames w q k refl h.frames) (go_locks w q k refl h.seats h.frames h.locks) (go_attends w q k.top k.below refl h.seats h.frames h.locks h.attended))

pub calm_parts : (x : Place) → is_calm x ≡ true → (is_light x ≡ true) × (is_owing x ≡ false)
calm_parts x e = looks_parts (is_light x) (is_owing x) e

pub aside_frames : (w u : World) → Aside w u → FramesOk w → FramesOk u
aside_frames w u m fr g = subst (λ z. AllFrames (z.below)) (sym (m.stack g)) (at (same_party g (m.party)) refl)
  where
    at : (b : Bool) → same_party g (m.party) ≡ b → AllFrames ((if b then m.to else w.stack g).below)
    at true e = m.frames (fr (m.party))
    at false e = fr g

aside_locks : (w u : World) → Aside w u → LocksOk w → LocksOk u
aside_locks w u m locks g a b h = ap (λ z. z.lock) (m.seat a b) ∙ at (same_party g (m.party)) refl (ap (λ z. holds (z.top) a b) (sym (m.stack g)) ∙ h)
  where
    at : (z : Bool) → same_party g (m.party) ≡ z → holds ((if z then m.to else w.stack g).top) a b ≡ true → (w.seat a b).lock ≡ Some g
    at true e h = absurd (let n : holds ((m.to).top) a b ≡ false = light_holds ((m.to).top) a b ((calm_parts ((m.to).top) (m.now)).0) in cc)
    at false e h = locks g a b h

aside_same : (w u : World) (m : Aside w u) (p : ℕ) → Same w u p
aside_same w u m p = record {
  workers = ap (λ z. (z.pool p).workers) (m.shape);
  injector = λ h. ap is_filled (sym (m.injector p)) ∙ h;
  quiet = λ i. (λ h. ap (λ z. z.inactive) (m.seat p i) ∙ h, ap (λ z. is_blocking (u.stack (Worker p i)).top || z.blocked) (m.seat p i) ∙ ap (λ z. z || (w.seat p i).blocked) (top i));
  owing = λ g i below h. ap (λ z. owes g (z.top) p i) (m.stack g) ∙ owed g i (same_party g (m.party)) refl h;
}
  where
    awake : (x : Place) → is_calm x ≡ true → is_blocking x ≡ false
    awake x e = light_awake x ((calm_parts x e).0)

    top_at : (i : ℕ) (b : Bool) → same_party (Worker p i) (m.party) ≡ b → is_blocking ((if b then m.to else w.stack (Worker p i)).top) ≡ is_blocking (w.stack (Worker p i)).top
    top_at i true e = awake ((m.to).top) (m.now) ∙ sym (ap (λ z. is_blocking ((w.stack z).top)) (same_party_true (Worker p i) (m.party) e) ∙ awake ((w.stack (m.party)).top) (m.was))
    top_at i false e = refl

    top : (i : ℕ) → is_blocking (u.stack (Worker p i)).top ≡ is_blocking (w.stack (Worker p i)).top
    top i = ap (λ z. is_blocking (z.top)) (m.stack (Worker p i)) ∙ top_at i (same_party (Worker p i) (m.party)) refl

    owed : (g : Party) (i : ℕ) (b : Bool) → same_party g (m.party) ≡ b → owes g (w.stack g).top p i ≡ true → owes g ((if b then m.to else w.stack g).top) p i ≡ true
    owed g i true e h = absurd (let is : g ≡ m.party = same_party_true g (m.party) e in let k : owes g (w.stack g).top p i ≡ false = owes_nothing g (w.stack g).top p i (ap (λ z. is_owing ((w.stack z).top)) is ∙ (calm_parts ((w.stack (m.party)).top) (m.was)).1) in cc)
    owed g i false e h = h

-- all but the seats
record Beside (w : World) : Type 0 where
  frames : FramesOk w
  locks : LocksOk w
  attended : Attended w

step_beside : (w : World) (e : Event) → Awake w → IfSome (step w e) Beside
step_beside w e h = steps_aside Beside w h.frames (λ q. if_some_map (λ r. Awake (result w q (w.stack q) r)) (λ r. Beside (result w q (w.stack q) r)) (λ r a. record { frames = a.frames; locks = a.locks; attended = a.attended }) (outcome w q (w.stack q)) (go_awake w h q))
    (λ u m. record { frames = aside_frames w u m h.frames; locks = aside_locks w u m h.locks; attended = λ p. attended_same w u p (aside_same w u m p) (h.attended p) }) e

pub step_awake : (w : World) (e : Event) → Awake w → IfSome (step w e) Awake
step_awake w e h = if_some_map (λ u. SeatsOk u × Beside u) Awake (λ u a. record { seats = a.0; frames = (a.1).frames; locks = (a.1).locks; attended = (a.1).attended }) (step w e) (if_some_and SeatsOk Beside (step w e) (step_seats w e h.seats) (step_beside w e h))

pub first_light : (h : Shape) (q : Party) → is_light (first_place h q) ≡ true
first_light h (Worker p i) = at (nat_lt i (h.pool p).workers) ((h.pool p).callers_own && (i == 0))
  where
    at : (b d : Bool) → is_light (if b then (if d then Free else ProbeWorking (fresh Termination)) else Stopped) ≡ true
    at true true = refl
    at true false = refl
    at false d = refl
first_light h (Caller c) = at (nat_lt c h.callers)
  where
    at : (b : Bool) → is_light (if b then Free else Stopped) ≡ true
    at true = refl
    at false = refl

pub first_awake : (h : Shape) → Awake (start h)
first_awake h = record {
  seats = first_seats h;
  frames = λ q. tt;
  locks = λ g a b e. absurd (let n : holds (first_place h g) a b ≡ false = light_holds (first_place h g) a b (first_light h g) in cc);
  attended = λ p i below filled has. cc;
}

pub always_awake : (h : Shape) (es : List Event) (w : World) → IsRun (start h) es w → Awake w
always_awake h es w r = run_keeps Awake step_awake (start h) w es (first_awake h) r

pub step_shape : (h : Shape) (w : World) (e : Event) → FramesOk w → w.shape ≡ h → IfSome (step w e) (λ u. u.shape ≡ h)
step_shape h w e fr s = steps_aside (λ u. u.shape ≡ h) w fr (λ q. if_some_all {A = Seen × Part} (λ r. (result w q (w.stack q) r).shape ≡ h) (λ r. s) (outcome w q (w.stack q))) (λ u m. m.shape ∙ s) e

-- the shape is the same in every world of a run
pub always_shape : (h : Shape) (es : List Event) (w : World) → IsRun (start h) es w → w.shape ≡ h
always_shape h es w r = (run_keeps (λ u. FramesOk u × (u.shape ≡ h)) (λ u e a. both u e a) (start h) w es ((λ q. tt), refl) r).1
  where
    both : (u : World) (e : Event) → FramesOk u × (u.shape ≡ h) → IfSome (step u e) (λ v. FramesOk v × (v.shape ≡ h))
    both u e a = if_some_and FramesOk (λ v. v.shape ≡ h) (step u e) (steps_aside FramesOk u (a.0) (λ q. go_frames u q (u.stack q) refl (a.0)) (λ v m. aside_frames u v m (a.0)) e) (step_shape h u e (a.0) (a.1))
