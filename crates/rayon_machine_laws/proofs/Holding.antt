-- who stands with a lock holds it, and below each party stand frames, over each act
use Rattle.std.proofs.Common.{refl, sym, ◌∙◌, ap, subst}
use Rattle.std.specs.Prelude.{ℕ, Bool, true, false, ◌&&◌, ◌==◌, if◌then◌else◌, Option, Some, None, ◌≡◌, IfSome}
use Rattle.std.proofs.lemmas.Bool.{eq-eqb}
use Rattle.rayon_machine_places.specs.declared.place.Party.{Party}
use Rattle.rayon_machine_places.specs.declared.place.Party.TheVariants.{Worker, Caller}
use Rattle.rayon_machine_places.specs.declared.place.Place.{Place}
use Rattle.rayon_machine_places.specs.declared.place.Place.TheVariants.{BlockSelf, WakeWorker, UnlockWoken, WakeSettled, UnlockSettled}
use Rattle.rayon_machine_places.specs.declared.act.Seen.{Seen}
use Rattle.rayon_machine_places.specs.Places.{same_party, act_of, next_of}
use Rattle.rayon_machine_runs.specs.World.{Stack, World, counts_at, Part}
use Rattle.rayon_machine_places.specs.Targets.{target_pool, target_worker, target_call}
use Rattle.rayon_machine_runs.specs.Steps.{part_of, after_move}
use Rattle.rayon_machine_laws.specs.Committed.{is_blocking}
use Rattle.rayon_machine_laws.proofs.Frame.{same_index, same_party_true, not_same, if_some_all, if_some_each, if_some_map}
use Rattle.rayon_machine_laws.proofs.Locks.{holds, light_holds, lock_kept, Takes, lock_taken}
use Rattle.rayon_machine_laws.proofs.Seats.{mode, owns_in, is_frame, at_home}
use Rattle.rayon_machine_laws.proofs.Sleepers.{blocking_dozes}
use Rattle.rayon_machine_laws.proofs.Ties.{AllFrames, SeatsOk, home_pool, home_worker, job_at, shape_at, outcome, result}
use Rattle.rayon_machine_laws.proofs.Tops.{Tops, top_after, below_after, FramesOk, is_heavy, frame_light, Leads, leads, leads_lowered}

-- each party that stands at a place with a lock holds it
abbrev pub LocksOk : World → Type 0
LocksOk w = (g : Party) (a b : ℕ) → holds (w.stack g).top a b ≡ true → (w.seat a b).lock ≡ Some g

pub hold_target : (q : Party) (x : Place) (a b : ℕ) → holds x a b ≡ true → (target_pool q (act_of q x) ≡ a) × (target_worker q (act_of q x) ≡ b)
hold_target (Worker i j) (WakeWorker k) a b e = same_index k.pool k.worker a b e
hold_target (Worker i j) (UnlockWoken k) a b e = same_index k.pool k.worker a b e
hold_target (Worker i j) (WakeSettled k) a b e = same_index k.pool k.worker a b e
hold_target (Worker i j) (UnlockSettled k) a b e = same_index k.pool k.worker a b e
hold_target (Caller n) (WakeWorker k) a b e = same_index k.pool k.worker a b e
hold_target (Caller n) (UnlockWoken k) a b e = same_index k.pool k.worker a b e
hold_target (Caller n) (WakeSettled k) a b e = same_index k.pool k.worker a b e
hold_target (Caller n) (UnlockSettled k) a b e = same_index k.pool k.worker a b e
hold_target q _ a b e = cc

pub blocking_home : (x : Place) → is_blocking x ≡ true → at_home x ≡ true
blocking_home (BlockSelf k) e = refl
blocking_home _ e = cc

pub frame_holds : (f : Place) (a b : ℕ) → is_frame f ≡ true → holds f a b ≡ false
frame_holds f a b e = light_holds f a b (frame_light f e)

-- an outcome's fact under a test
pub if_some_h : {A : Type 0} (b : Bool) (P : A → Type 0) (o : Option A) → (b ≡ true → IfSome o P) → IfSome o (λ r. b ≡ true → P r)
if_some_h b P None f = tt
if_some_h b P (Some r) f = f

-- the own lock of a worker that is about to block itself
pub own_lock : (w : World) (q : Party) (x : Place) → (w.stack q).top ≡ x → SeatsOk w → (p i : ℕ) → q ≡ Worker p i → is_blocking x ≡ true → (w.seat (target_pool q (act_of q x)) (target_worker q (act_of q x))).lock ≡ Some q
own_lock w q x e ok p i is blocks =
    let home : at_home x ≡ true = blocking_home x blocks in
    let base : (w.seat (target_pool (Worker p i) (act_of (Worker p i) x)) (target_worker (Worker p i) (act_of (Worker p i) x))).lock ≡ Some (Worker p i) =
    ap (λ n. (w.seat n (target_worker (Worker p i) (act_of (Worker p i) x))).lock) (home_pool p i x home) ∙ ap (λ n. (w.seat p n).lock) (home_worker p i x home) ∙ ((ok p i).top).lock (ap (λ z. owns_in (mode z)) (ap (λ z. (w.stack z).top) (sym is) ∙ e) ∙ ap owns_in (blocking_dozes x blocks)) in
    subst (λ z. (w.seat (target_pool z (act_of z x)) (target_worker z (act_of z x))).lock ≡ Some z) (sym is) base

at_lock : (w : World) (q : Party) (k : Stack) (g : Party) (a b : ℕ) (y d : Bool) → w.stack q ≡ k → SeatsOk w → FramesOk w → LocksOk w → same_party g q ≡ y → ((a == target_pool q (act_of q k.top)) && (b == target_worker q (act_of q k.top))) ≡ d
    → IfSome (outcome w q k) (λ r. holds ((if y then after_move (next_of (shape_at w q k) q k.top (r.0)) k.below else w.stack g).top) a b ≡ true → (if d then r.1.seat else w.seat a b).lock ≡ Some g)
at_lock w q k g a b true d e ok fr locks ey ed =
    let x : Place = k.top in
    let p0 = target_pool q (act_of q x) in
    let i0 = target_worker q (act_of q x) in
    let is : g ≡ q = same_party_true g q ey in
    let mine : (holds x a b ≡ true → (w.seat p0 i0).lock ≡ Some q) = λ h. (let t : (p0 ≡ a) × (i0 ≡ b) = hold_target q x a b h in let s : w.seat p0 i0 ≡ w.seat a b = ap (λ n. w.seat n i0) t.0 ∙ ap (λ n. w.seat a n) t.1 in ap (λ s. s.lock) s ∙ locks q a b (ap (λ z. holds (z.top) a b) e ∙ h)) in
    if_some_map (λ r. Tops (λ y. holds y a b ≡ true → Takes q x a b (r.1.seat.lock)) (next_of (shape_at w q k) q x (r.0))) (λ r. holds ((after_move (next_of (shape_at w q k) q x (r.0)) k.below).top) a b ≡ true → (if d then r.1.seat else w.seat a b).lock ≡ Some g)
    (λ r tops h.
    let t : Takes q x a b (r.1.seat.lock) = top_after (λ y. holds y a b ≡ true → Takes q x a b (r.1.seat.lock)) (next_of (shape_at w q k) q x (r.0)) k.below tops (λ f ff hh. absurd (let n : holds f a b ≡ false = frame_holds f a b ff in cc)) (subst (λ z. AllFrames (z.below)) e (fr q)) h in
    let yes : ((a == p0) && (b == i0)) ≡ true = rw (eq-eqb a p0 (sym (t.pool)), eq-eqb b i0 (sym (t.worker))) in
    let at : d ≡ true = sym ed ∙ yes in
    rw at (t.lock ∙ ap Some (sym is)))
    (outcome w q k) (lock_taken w.shape (shape_at w q k) q (counts_at w p0) (part_of w p0 i0 (target_call (act_of q x)) (job_at w q (act_of q x))) x a b mine)
at_lock w q k g a b false true e ok fr locks ey ed =
    let x : Place = k.top in
    let p0 = target_pool q (act_of q x) in
    let i0 = target_worker q (act_of q x) in
    let at : (a ≡ p0) × (b ≡ i0) = same_index a b p0 i0 ed in
    let s : w.seat p0 i0 ≡ w.seat a b = ap (λ n. w.seat n i0) (sym (at.0)) ∙ ap (λ n. w.seat a n) (sym (at.1)) in
    if_some_h (holds ((w.stack g).top) a b) (λ r. r.1.seat.lock ≡ Some g) (outcome w q k) (λ h.
    lock_kept w.shape q g (counts_at w p0) (part_of w p0 i0 (target_call (act_of q x)) (job_at w q (act_of q x))) x (ap (λ z. z.lock) s ∙ locks g a b h) (not_same q g ey)
    (λ p i is blocks. own_lock w q x (ap (λ z. z.top) e) ok p i is blocks))
at_lock w q k g a b false false e ok fr locks ey ed = if_some_all (λ (r : Seen × Part). holds ((w.stack g).top) a b ≡ true → (w.seat a b).lock ≡ Some g) (λ r. locks g a b) (outcome w q k)

pub go_locks : (w : World) (q : Party) (k : Stack) → w.stack q ≡ k → SeatsOk w → FramesOk w → LocksOk w → IfSome (outcome w q k) (λ r. LocksOk (result w q k r))
go_locks w q k e ok fr locks =
    if_some_each {I = Party} (λ g r. (a b : ℕ) → holds ((result w q k r).stack g).top a b ≡ true → ((result w q k r).seat a b).lock ≡ Some g) (outcome w q k) (λ g.
    if_some_each {I = ℕ} (λ a r. (b : ℕ) → holds ((result w q k r).stack g).top a b ≡ true → ((result w q k r).seat a b).lock ≡ Some g) (outcome w q k) (λ a.
    if_some_each {I = ℕ} (λ b r. holds ((result w q k r).stack g).top a b ≡ true → ((result w q k r).seat a b).lock ≡ Some g) (outcome w q k) (λ b.
    at_lock w q k g a b (same_party g q) ((a == target_pool q (act_of q k.top)) && (b == target_worker q (act_of q k.top))) e ok fr locks refl refl)))

at_frames : (w : World) (q : Party) (k : Stack) (g : Party) (y : Bool) → w.stack q ≡ k → FramesOk w → (r : Seen × Part) → Leads (is_heavy k.top) (next_of (shape_at w q k) q k.top (r.0)) → AllFrames ((if y then after_move (next_of (shape_at w q k) q k.top (r.0)) k.below else w.stack g).below)
at_frames w q k g true e fr r l = below_after (next_of (shape_at w q k) q k.top (r.0)) k.below (leads_lowered (is_heavy k.top) (next_of (shape_at w q k) q k.top (r.0)) l) (subst (λ z. AllFrames (z.below)) e (fr q))
at_frames w q k g false e fr r l = fr g

pub go_frames : (w : World) (q : Party) (k : Stack) → w.stack q ≡ k → FramesOk w → IfSome (outcome w q k) (λ r. FramesOk (result w q k r))
go_frames w q k e fr = if_some_map {A = Seen × Part} (λ r. Leads (is_heavy k.top) (next_of (shape_at w q k) q k.top (r.0))) (λ r. FramesOk (result w q k r)) (λ r l g. at_frames w q k g (same_party g q) e fr r l) (outcome w q k)
    (leads w.shape (shape_at w q k) q (counts_at w (target_pool q (act_of q k.top))) (part_of w (target_pool q (act_of q k.top)) (target_worker q (act_of q k.top)) (target_call (act_of q k.top)) (job_at w q (act_of q k.top))) k.top)
