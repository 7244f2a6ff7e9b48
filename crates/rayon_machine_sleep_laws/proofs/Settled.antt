-- in every world of every run a blocked worker on a set latch is on its setter's way
--
-- Why (`always_watched`, `latch_attended`): a worker makes its latch sleeping before it can be committed. From then on
-- only its setter changes it. The latch of a call is written by the call's own party, and set for its owner alone.
-- A Set that finds `Sleeping` goes to the worker's lock. Its Wake there finds the worker blocked, or not yet asleep in
-- its lock's keeping. In between the worker holds its own lock, so the setter waits.
use Rattle.std.proofs.Common.{rules, arith, refl, sym, ◌∙◌, ap, subst, inl, inr}
use Rattle.rayon_machine_sleep_laws.proofs.Words.{ℕ, Bool, true, false, ◌&&◌, ◌==◌, ◌<◌, if◌then◌else◌, Option, Some, None, List, ◌≡◌, ◌⊎◌, IfSome, eqb-true, eq-eqb, Party, Worker, Caller, Latch, Terminate, OfCall, Place, ProbeWorking, FallAsleep, RelockOwn, SetLatch, UnlockSettled, Seen, Yes}
use Rattle.rayon_machine_sleep_laws.proofs.Words.{Event, Letter, Unset, IsSleepy, Sleeping, IsSet, PoolShape, Wait, Settling, same_party, latch_of, after_set, act_of, next_of, Shape, Stack, World, Counts, Part, target_pool, target_worker, call_of, letter, fall_asleep, effect, after_move, step}
use Rattle.rayon_machine_sleep_laws.proofs.Words.{first_place, start, IsRun, is_blocking, letter_at, settles, HasSettler}
use Rattle.rayon_machine_laws.specs.Attended.{IsWaiting, IsLatchAttended}
use Rattle.rayon_machine_laws.proofs.Asides.{Aside, steps_aside}
use Rattle.rayon_machine_laws.proofs.Attend.{looks_parts, is_owing}
use Rattle.rayon_machine_laws.proofs.Attended.{Awake, step_awake, first_light, first_awake}
use Rattle.rayon_machine_laws.proofs.Calm.{part_at, counts_seen, next_at, top_then}
use Rattle.rayon_machine_laws.proofs.Events.{run_keeps}
use Rattle.rayon_machine_laws.proofs.Frame.{either, same_index, same_refl, same_party_true, if_some_all, if_some_each, if_some_and, if_some_map, if_none, stack_other}
use Rattle.rayon_machine_laws.proofs.Holding.{blocking_home, if_some_h}
use Rattle.rayon_machine_laws.proofs.Latches.{SameLatches, is_latching, latches_same, or_terminate, blocks_not}
use Rattle.rayon_machine_laws.proofs.Locks.{tops_map}
use Rattle.rayon_machine_laws.proofs.OwnedActs.{Mine, Owned}
use Rattle.rayon_machine_laws.proofs.Owned.{step_owned, first_owned}
use Rattle.rayon_machine_laws.proofs.Seats.{mode, lies_in, is_frame, at_home}
use Rattle.rayon_machine_laws.proofs.Ties.{home_pool, home_worker, home_caller, shape_at, outcome, result}
use Rattle.rayon_machine_laws.proofs.Tops.{Tops, FramesOk, is_light, frame_light, settled_leads, leads_tops}
use Rattle.rayon_machine_laws.proofs.Waking.{Woke, wakes_at, wake_seen}
use Rattle.rayon_machine_sleep_laws.proofs.Dozing.{dozes_on, lies_at, is_deep, DozeOk, Dozing, dozes_own, dozes_calm, dozes_unsettling, light_dozes, light_unsettling, letter_kept, letter_new, LetterChange, letters, other_settled}

abbrev falls_at : Place → Bool
falls_at (FallAsleep k) = true
falls_at _ = false

settled_dozes : (h : PoolShape) (q : Party) (s : Settling) (l : Latch) (R : Type 0) → Tops (λ y. dozes_on y ≡ Some l → R) (after_set h q s s.latch)
settled_dozes h q s l R = tops_map (λ y. is_light y ≡ true) (λ y. dozes_on y ≡ Some l → R) (λ y e f. absurd (light_dozes y l e f)) (after_set h q s s.latch) (leads_tops (after_set h q s s.latch) (settled_leads false h q s s.latch))

set_dozes : (h : PoolShape) (q : Party) (s : Settling) (l : Latch) (R : Type 0) (e : Seen) → Tops (λ y. dozes_on y ≡ Some l → R) (next_of h q (SetLatch s) e)
set_dozes h q s l R Yes = λ z. absurd (cc)
set_dozes h q s l R _ = settled_dozes h q s l R

-- a party that dozes did so before, on the same latch, unless it has just fallen asleep
abbrev DozedOn : Place → Latch → Place → Type 0
DozedOn x l y = dozes_on y ≡ Some l → (dozes_on x ≡ Some l) × (lies_at x ≡ false)

doze_from : (h : Shape) (g : PoolShape) (q : Party) (c : Counts) (m : Part) (x : Place) (l : Latch) → falls_at x ≡ false → IfSome (effect (act_of q x) h q c m) (λ r. Tops (DozedOn x l) (next_of g q x (r.0)))
doze_from h g (Worker i j) c m (ProbeWorking k) l z = search (rules, arith)
doze_from h g q c m (FallAsleep k) l z = cc
doze_from h g q c m (SetLatch s) l z = if_some_all {A = Seen × Part} (λ r. Tops (DozedOn (SetLatch s) l) (next_of g q (SetLatch s) (r.0))) (λ r. set_dozes g q s l ((dozes_on (SetLatch s) ≡ Some l) × (lies_at (SetLatch s) ≡ false)) (r.0)) (effect (act_of q (SetLatch s)) h q c m)
doze_from h g q c m (UnlockSettled s) l z = if_some_all {A = Seen × Part} (λ r. Tops (DozedOn (UnlockSettled s) l) (next_of g q (UnlockSettled s) (r.0))) (λ r. settled_dozes g q s l ((dozes_on (UnlockSettled s) ≡ Some l) × (lies_at (UnlockSettled s) ≡ false)))
    (effect (act_of q (UnlockSettled s)) h q c m)
doze_from h g (Worker i j) c m _ l z = search (rules, arith)
doze_from h g (Caller n) c m _ l z = search (rules, arith)

frame_dozes : (f : Place) (l : Latch) (R : Type 0) → is_frame f ≡ true → dozes_on f ≡ Some l → R
frame_dozes f l R e h = absurd (light_dozes f l (frame_light f e) h)

-- a worker's own act, once it dozes
own_settled : (w : World) (p i : ℕ) (x : Place) (fs : List Place) (l : Latch) → w.stack (Worker p i) ≡ record { top = x; below = fs } → falls_at x ≡ false → FramesOk w → Dozing w → IfSome (outcome w (Worker p i) (record { top = x; below = fs }))
    (λ r. dozes_on ((after_move (next_at w (Worker p i) (record { top = x; below = fs }) (r.0)) fs).top) ≡ Some l → DozeOk (result w (Worker p i) (record { top = x; below = fs }) r) p i l)
own_settled w p i x fs l e z fr doze = elim (either (is_latching x)) [
  | inl latching ↦ if_some_map {A = Seen × Part} (λ r. Tops (DozedOn x l) (next_at w q k (r.0))) (λ r. dozes_on ((after_move (next_at w q k (r.0)) fs).top) ≡ Some l → DozeOk (result w q k r) p i l)
      (λ r t on. absurd (let c : is_latching x ≡ false = dozes_calm x l ((dozed r t on).0) in cc)) (outcome w q k) table
  | inr calm ↦ if_some_map {A = Seen × Part} (λ r. Tops (DozedOn x l) (next_at w q k (r.0)) × SameLatches (part_at w q k) r) (λ r. dozes_on ((after_move (next_at w q k (r.0)) fs).top) ≡ Some l → DozeOk (result w q k r) p i l)
      (λ r a on. keep r (dozed r (a.0) on) (a.1)) (outcome w q k)
      (if_some_and (λ r. Tops (DozedOn x l) (next_at w q k (r.0))) (SameLatches (part_at w q k)) (outcome w q k) table (latches_same w.shape q (counts_seen w q k) (part_at w q k) x calm))
]
  where
    q : Party
    q = Worker p i

    k : Stack
    k = record { top = x; below = fs }

    table : IfSome (outcome w q k) (λ r. Tops (DozedOn x l) (next_at w q k (r.0)))
    table = doze_from w.shape (shape_at w q k) q (counts_seen w q k) (part_at w q k) x l z

    dozed : (r : Seen × Part) → Tops (DozedOn x l) (next_at w q k (r.0)) → dozes_on ((after_move (next_at w q k (r.0)) fs).top) ≡ Some l → (dozes_on x ≡ Some l) × (lies_at x ≡ false)
    dozed r t on = top_then (DozedOn x l) w q k (r.0) e fr (λ f ff. frame_dozes f l ((dozes_on x ≡ Some l) × (lies_at x ≡ false)) ff) t on

    keep : (r : Seen × Part) → (dozes_on x ≡ Some l) × (lies_at x ≡ false) → SameLatches (part_at w q k) r → DozeOk (result w q k r) p i l
    keep r was same =
        let ok : DozeOk w p i l = doze p i l (ap (λ s. dozes_on (s.top)) e ∙ was.0) in
        let is : letter_at (result w q k r) p i l ≡ letter_at w p i l = letter_kept w q k r p i l (λ lt ep ei. same.seat) (λ c lc ec. same.call) in
        record {
          deep = ap is_deep is ∙ ok.deep;
          settled = λ set waits. (let g : HasSettler w p i l = ok.settled (sym is ∙ set) (λ y. absurd (let n : lies_at (w.stack (Worker p i)).top ≡ false = ap (λ s. lies_at (s.top)) e ∙ was.1 in cc)) in
              record { party = g.party; settling = ap (λ s. settles (s.top) p i l) (stack_other w.stack q (after_move (next_at w q k (r.0)) fs) (g.party) (other g)) ∙ g.settling });
        }
      where
        other : (g : HasSettler w p i l) → same_party (g.party) q ≡ false
        other g = elim (either (same_party (g.party) q)) [
          | inr a ↦ a
          | inl a ↦ absurd (let s : settles (w.stack (g.party)).top p i l ≡ false = ap (λ v. settles (v.top) p i l) (ap w.stack (same_party_true (g.party) q a) ∙ e) ∙ dozes_unsettling x l l p i (was.0) in let t : settles (w.stack (g.party)).top p i l ≡ true = g.settling in cc)
        ]

-- the act that makes a worker's latch sleeping
fall_next : (g : PoolShape) (q : Party) (j : Wait) (n l : Latch) (m : Part) (x : Letter) → latch_of j.target ≡ n → IfSome (fall_asleep n m x) (λ r. Tops (λ y. dozes_on y ≡ Some l → (letter n (r.1) ≡ Sleeping) × (n ≡ l)) (next_of g q (FallAsleep j) (r.0)))
fall_next g q j Terminate l m IsSleepy e = λ z. (refl, sym e ∙ ap or_terminate z)
fall_next g q j (OfCall c) l m IsSleepy e = λ z. (refl, sym e ∙ ap or_terminate z)
fall_next g q j n l m _ e = λ z. absurd (cc)

own_falls : (w : World) (p i : ℕ) (j : Wait) (fs : List Place) (l : Latch) → w.stack (Worker p i) ≡ record { top = FallAsleep j; below = fs } → FramesOk w → IfSome (outcome w (Worker p i) (record { top = FallAsleep j; below = fs }))
    (λ r. dozes_on ((after_move (next_at w (Worker p i) (record { top = FallAsleep j; below = fs }) (r.0)) fs).top) ≡ Some l → DozeOk (result w (Worker p i) (record { top = FallAsleep j; below = fs }) r) p i l)
own_falls w p i j fs l e fr = if_some_map {A = Seen × Part} (λ r. Tops (λ y. dozes_on y ≡ Some l → (letter n (r.1) ≡ Sleeping) × (n ≡ l)) (next_at w q k (r.0))) (λ r. dozes_on ((after_move (next_at w q k (r.0)) fs).top) ≡ Some l → DozeOk (result w q k r) p i l)
    (λ r t on. slept r (top_then (λ y. dozes_on y ≡ Some l → (letter n (r.1) ≡ Sleeping) × (n ≡ l)) w q k (r.0) e fr (λ f ff. frame_dozes f l ((letter n (r.1) ≡ Sleeping) × (n ≡ l)) ff) t on))
    (outcome w q k) (fall_next (shape_at w q k) q j n l (part_at w q k) (letter n (part_at w q k)) refl)
  where
    q : Party
    q = Worker p i

    k : Stack
    k = record { top = FallAsleep j; below = fs }

    n : Latch
    n = latch_of j.target

    slept : (r : Seen × Part) → (letter n (r.1) ≡ Sleeping) × (n ≡ l) → DozeOk (result w q k r) p i l
    slept r a =
        let is : letter_at (result w q k r) p i l ≡ Sleeping = subst (λ y. letter_at (result w q k r) p i y ≡ Sleeping) (a.1) ((letter_new w q k r p i n refl refl refl).0 ∙ a.0) in
        record { deep = ap is_deep is; settled = λ set waits. absurd (let z : Sleeping ≡ IsSet = sym is ∙ set in cc) }

own_doze : (w : World) (p i : ℕ) (x : Place) (fs : List Place) (l : Latch) → w.stack (Worker p i) ≡ record { top = x; below = fs } → FramesOk w → Dozing w → IfSome (outcome w (Worker p i) (record { top = x; below = fs }))
    (λ r. dozes_on ((after_move (next_at w (Worker p i) (record { top = x; below = fs }) (r.0)) fs).top) ≡ Some l → DozeOk (result w (Worker p i) (record { top = x; below = fs }) r) p i l)
own_doze w p i (FallAsleep j) fs l e fr doze = own_falls w p i j fs l e fr
own_doze w p i x fs l e fr doze = own_settled w p i x fs l e refl fr doze

-- what a waiting worker's latch is, is its own call's
mine_of : (w : World) (p i : ℕ) (l : Latch) → Owned w → dozes_on (w.stack (Worker p i)).top ≡ Some l → (c : ℕ) → l ≡ OfCall c → Mine w (Worker p i) c
mine_of w p i l ow on c e = ((ow.named (Worker p i)).top).own c (dozes_own (w.stack (Worker p i)).top c (on ∙ ap Some e))

-- another party's act
other_doze : (w : World) (q : Party) (x : Place) (fs : List Place) (p i : ℕ) (l : Latch) → w.stack q ≡ record { top = x; below = fs } → same_party (Worker p i) q ≡ false → Awake w → Owned w → Dozing w → dozes_on (w.stack (Worker p i)).top ≡ Some l
    → IfSome (outcome w q (record { top = x; below = fs })) (λ r. DozeOk (result w q (record { top = x; below = fs }) r) p i l)
other_doze w q x fs p i l e d a ow doze on =
    if_some_map {A = Seen × Part} (λ r. LetterChange w q k p i l r × ((((result w q k r).seat p i).blocked ≡ true → (w.seat p i).blocked ≡ true) × (wakes_at x ≡ true → Woke (part_at w q k) r))) (λ r. DozeOk (result w q k r) p i l)
    (λ r h. other_settled w q x fs p i l r e d a.seats a.locks (doze p i l on) on (h.0) ((h.1).0) ((h.1).1))
    (outcome w q k)
    (if_some_and (LetterChange w q k p i l) (λ r. (((result w q k r).seat p i).blocked ≡ true → (w.seat p i).blocked ≡ true) × (wakes_at x ≡ true → Woke (part_at w q k) r)) (outcome w q k)
    (letters w q x fs p i l e d ow (mine_of w p i l ow on))
    (if_some_and (λ r. ((result w q k r).seat p i).blocked ≡ true → (w.seat p i).blocked ≡ true) (λ r. wakes_at x ≡ true → Woke (part_at w q k) r) (outcome w q k)
    (blocking ((p == target_pool q (act_of q x)) && (i == target_worker q (act_of q x))) refl)
    (if_some_h (wakes_at x) (Woke (part_at w q k)) (outcome w q k) (λ z. wake_seen w.shape q (counts_seen w q k) (part_at w q k) x z))))
  where
    k : Stack
    k = record { top = x; below = fs }

    not_mine : is_blocking x ≡ true → p ≡ target_pool q (act_of q x) → i ≡ target_worker q (act_of q x) → IfSome (outcome w q k) (λ r. r.1.seat.blocked ≡ true → (part_at w q k).seat.blocked ≡ true)
    not_mine b ep ei = by_party q refl
      where
        by_party : (g : Party) → q ≡ g → IfSome (outcome w q k) (λ r. r.1.seat.blocked ≡ true → (part_at w q k).seat.blocked ≡ true)
        by_party (Worker c f) s = absurd (
            let h : at_home x ≡ true = blocking_home x b in
            let tp : p ≡ c = ep ∙ ap (λ z. target_pool z (act_of z x)) s ∙ home_pool c f x h in
            let ti : i ≡ f = ei ∙ ap (λ z. target_worker z (act_of z x)) s ∙ home_worker c f x h in
            let is : Worker p i ≡ q = ap (λ z. Worker z i) tp ∙ ap (λ z. Worker c z) ti ∙ sym s in
            let y : same_party (Worker p i) q ≡ true = ap (same_party (Worker p i)) (sym is) ∙ same_refl p i in cc)
        by_party (Caller n) s = if_none (λ r. r.1.seat.blocked ≡ true → (part_at w q k).seat.blocked ≡ true) (outcome w q k) (ap (λ a. effect a w.shape q (counts_seen w q k) (part_at w q k)) (ap (λ z. act_of z x) s ∙ home_caller n x (blocking_home x b)))

    kept : p ≡ target_pool q (act_of q x) → i ≡ target_worker q (act_of q x) → IfSome (outcome w q k) (λ r. r.1.seat.blocked ≡ true → (part_at w q k).seat.blocked ≡ true)
    kept ep ei = elim (either (is_blocking x)) [ inl b ↦ not_mine b ep ei | inr b ↦ blocks_not w.shape q (counts_seen w q k) (part_at w q k) x b ]

    blocking : (b : Bool) → ((p == target_pool q (act_of q x)) && (i == target_worker q (act_of q x))) ≡ b → IfSome (outcome w q k) (λ r. (if b then r.1.seat else w.seat p i).blocked ≡ true → (w.seat p i).blocked ≡ true)
    blocking true z =
        let t : (p ≡ target_pool q (act_of q x)) × (i ≡ target_worker q (act_of q x)) = same_index p i (target_pool q (act_of q x)) (target_worker q (act_of q x)) z in
        if_some_map {A = Seen × Part} (λ r. r.1.seat.blocked ≡ true → (part_at w q k).seat.blocked ≡ true) (λ r. r.1.seat.blocked ≡ true → (w.seat p i).blocked ≡ true) (λ r f h. ap (λ n. (w.seat n i).blocked) (t.0) ∙ ap (λ n. (w.seat (target_pool q (act_of q x)) n).blocked) (t.1) ∙ f h)
        (outcome w q k) (kept (t.0) (t.1))
    blocking false z = if_some_all {A = Seen × Part} (λ r. (w.seat p i).blocked ≡ true → (w.seat p i).blocked ≡ true) (λ r h. h) (outcome w q k)

at_doze : (w : World) (q : Party) (p i : ℕ) (l : Latch) (b : Bool) → same_party (Worker p i) q ≡ b → Awake w → Owned w → Dozing w → IfSome (outcome w q (w.stack q))
    (λ r. dozes_on ((if b then after_move (next_at w q (w.stack q) (r.0)) (w.stack q).below else w.stack (Worker p i)).top) ≡ Some l → DozeOk (result w q (w.stack q) r) p i l)
at_doze w q p i l true eb a ow doze = subst (λ z. IfSome (outcome w z (w.stack z)) (λ r. dozes_on ((after_move (next_at w z (w.stack z) (r.0)) (w.stack z).below).top) ≡ Some l → DozeOk (result w z (w.stack z) r) p i l)) (same_party_true (Worker p i) q eb)
    (own_doze w p i (w.stack (Worker p i)).top (w.stack (Worker p i)).below l refl a.frames doze)
at_doze w q p i l false eb a ow doze = elim (is_dozing (dozes_on (w.stack (Worker p i)).top) l) [
  | inl on ↦ if_some_map {A = Seen × Part} (λ r. DozeOk (result w q (w.stack q) r) p i l) (λ r. dozes_on (w.stack (Worker p i)).top ≡ Some l → DozeOk (result w q (w.stack q) r) p i l) (λ r h z. h) (outcome w q (w.stack q)) (other_doze w q (w.stack q).top (w.stack q).below p i l refl eb a ow doze on)
  | inr off ↦ if_some_all {A = Seen × Part} (λ r. dozes_on (w.stack (Worker p i)).top ≡ Some l → DozeOk (result w q (w.stack q) r) p i l) (λ r z. absurd (off z)) (outcome w q (w.stack q))
]
  where
    is_dozing : (o : Option Latch) (l : Latch) → (o ≡ Some l) ⊎ (o ≡ Some l → ⊥)
    is_dozing None l = inr (λ z. cc)
    is_dozing (Some Terminate) Terminate = inl refl
    is_dozing (Some Terminate) (OfCall c) = inr (λ z. (let y : Terminate ≡ OfCall c = ap or_terminate z in cc))
    is_dozing (Some (OfCall d)) Terminate = inr (λ z. (let y : OfCall d ≡ Terminate = ap or_terminate z in cc))
    is_dozing (Some (OfCall d)) (OfCall c) = elim (either (d == c)) [
      | inl e ↦ inl (ap (λ n. Some (OfCall n)) (eqb-true d c e))
      | inr e ↦ inr (λ z. (let y : d ≡ c = ap (λ o. call_of (or_terminate o)) z in let t : (d == c) ≡ true = eq-eqb d c y in cc))
    ]

go_dozing : (w : World) (q : Party) → Awake w → Owned w → Dozing w → IfSome (outcome w q (w.stack q)) (λ r. Dozing (result w q (w.stack q) r))
go_dozing w q a ow doze =
    if_some_each {I = ℕ} (λ p r. (i : ℕ) (l : Latch) → dozes_on ((result w q (w.stack q) r).stack (Worker p i)).top ≡ Some l → DozeOk (result w q (w.stack q) r) p i l) (outcome w q (w.stack q)) (λ p.
    if_some_each {I = ℕ} (λ i r. (l : Latch) → dozes_on ((result w q (w.stack q) r).stack (Worker p i)).top ≡ Some l → DozeOk (result w q (w.stack q) r) p i l) (outcome w q (w.stack q)) (λ i.
    if_some_each {I = Latch} (λ l r. dozes_on ((result w q (w.stack q) r).stack (Worker p i)).top ≡ Some l → DozeOk (result w q (w.stack q) r) p i l) (outcome w q (w.stack q)) (λ l.
    at_doze w q p i l (same_party (Worker p i) q) refl a ow doze)))

aside_letter : (w u : World) → Aside w u → (p i : ℕ) (l : Latch) → ((c : ℕ) → l ≡ OfCall c → c < w.calls) → letter_at u p i l ≡ letter_at w p i l
aside_letter w u m p i Terminate f = ap (λ s. s.latch) (m.seat p i)
aside_letter w u m p i (OfCall c) f = m.letters c (f c refl)

aside_dozing : (w u : World) → Aside w u → Owned w → Dozing w → Dozing u
aside_dozing w u m ow doze p i l on = at (same_party (Worker p i) (m.party)) refl (ap (λ s. dozes_on (s.top)) (sym (m.stack (Worker p i))) ∙ on)
  where
    top_same : same_party (Worker p i) (m.party) ≡ false → u.stack (Worker p i) ≡ w.stack (Worker p i)
    top_same e = m.stack (Worker p i) ∙ stack_other w.stack (m.party) (m.to) (Worker p i) e

    settler : HasSettler w p i l → HasSettler u p i l
    settler g = elim (either (same_party (g.party) (m.party))) [
      | inl a ↦ absurd (let s : settles (w.stack (g.party)).top p i l ≡ false = ap (λ z. settles (w.stack z).top p i l) (same_party_true (g.party) (m.party) a)
          ∙ light_unsettling (w.stack (m.party)).top p i l ((looks_parts (is_light (w.stack (m.party)).top) (is_owing (w.stack (m.party)).top) (m.was)).0) in let t : settles (w.stack (g.party)).top p i l ≡ true = g.settling in cc)
      | inr b ↦ record { party = g.party; settling = ap (λ s. settles (s.top) p i l) (m.stack (g.party) ∙ stack_other w.stack (m.party) (m.to) (g.party) b) ∙ g.settling }
    ]

    at : (b : Bool) → same_party (Worker p i) (m.party) ≡ b → dozes_on ((if b then m.to else w.stack (Worker p i)).top) ≡ Some l → DozeOk u p i l
    at true e h = absurd (light_dozes ((m.to).top) l ((looks_parts (is_light ((m.to).top)) (is_owing ((m.to).top)) (m.now)).0) h)
    at false e h =
        let ok : DozeOk w p i l = doze p i l h in
        let is : letter_at u p i l ≡ letter_at w p i l = aside_letter w u m p i l (λ c lc. (mine_of w p i l ow h c lc).0) in
        record { deep = ap is_deep is ∙ ok.deep; settled = λ set waits. settler (ok.settled (sym is ∙ set) (λ z. ap (λ s. s.blocked) (sym (m.seat p i)) ∙ waits (ap (λ s. lies_at (s.top)) (top_same e) ∙ z))) }

-- what holds in each world
pub record Watched (w : World) : Type 0 where
  pub awake : Awake w
  pub owned : Owned w
  pub dozing : Dozing w

step_watched : (w : World) (e : Event) → Watched w → IfSome (step w e) Watched
step_watched w e h = if_some_map (λ u. Awake u × (Owned u × Dozing u)) Watched (λ u a. record { awake = a.0; owned = (a.1).0; dozing = (a.1).1 }) (step w e)
    (if_some_and Awake (λ u. Owned u × Dozing u) (step w e) (step_awake w e h.awake)
    (if_some_and Owned Dozing (step w e) (step_owned w e h.owned)
    (steps_aside Dozing w (h.awake.frames) (λ q. go_dozing w q h.awake h.owned h.dozing) (λ u m. aside_dozing w u m h.owned h.dozing) e)))

first_dozing : (h : Shape) → Dozing (start h)
first_dozing h p i l on = absurd (light_dozes (first_place h (Worker p i)) l (first_light h (Worker p i)) on)

pub always_watched : (h : Shape) (es : List Event) (w : World) → IsRun (start h) es w → Watched w
always_watched h es w r = run_keeps Watched step_watched (start h) w es (record { awake = first_awake h; owned = first_owned h; dozing = first_dozing h }) r

lying : (w : World) (p i : ℕ) (x : Place) → (w.stack (Worker p i)).top ≡ x → lies_in (mode x) ≡ true → IsWaiting w p i
lying w p i (RelockOwn k) e b = record { wait = k; place = e }
lying w p i _ e b = absurd (cc)

pub latch_attended : (w : World) → Watched w → IsLatchAttended w
latch_attended w h p i b =
    let k : IsWaiting w p i = lying w p i (w.stack (Worker p i)).top refl (((h.awake.seats p i).top).blocked b) in
    let on : dozes_on (w.stack (Worker p i)).top ≡ Some (latch_of (k.wait.target)) = ap dozes_on (k.place) in
    (k, λ set. (h.dozing p i (latch_of (k.wait.target)) on).settled set (λ z. b))
