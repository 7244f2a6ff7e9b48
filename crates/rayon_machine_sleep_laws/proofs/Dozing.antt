-- where the latch of a worker that falls asleep is set, its setter is on its way to wake it
--
-- A dozing worker's latch is sleeping or set.
use Rattle.rayon_machine_places.specs.declared.place.Gathering.{Gathering}
use Rattle.rayon_machine_sleep_laws.proofs.Words.{Then, OpenCall, refl, sym, ◌∙◌, ap, subst, inl, inr, ℕ, Bool, true, false, ◌&&◌, ◌==◌, if◌then◌else◌, Option, Some, None, List, ◌≡◌, ◌⊎◌, IfSome, eqb-true, eq-eqb, Party, Worker, Caller, Target, Termination, Answer, Latch, Terminate, OfCall}
use Rattle.rayon_machine_sleep_laws.proofs.Words.{Plan, Place, GetSleepy, FallAsleep, LoadCounters, AddSleeping, LookAtCast, LookAtInjector, BlockSelf, RelockOwn, WakeUp, GrowCall, SetLatch, LockToSettle, WakeSettled, SetLockLatch, GrowScope, GrowCast, Seen, Yes, Letter, Unset, IsSleepy}
use Rattle.rayon_machine_sleep_laws.proofs.Words.{Sleeping, IsSet, Settling, same_party, own_pool, own_index, latch_of, act_of, next_of, Stack, World, Part, target_pool, target_worker, call_of, target_call, letter, after_move, letter_at, settles, HasSettler}
use Rattle.rayon_machine_places.specs.Places.{plan_call}
use Rattle.rayon_machine_laws.specs.Attended.{same_latch}
use Rattle.rayon_machine_laws.proofs.Calm.{part_at, counts_seen, next_at}
use Rattle.rayon_machine_laws.proofs.Frame.{either, and_parts, same_index, same_refl, same_party_true, if_some_map, stack_other}
use Rattle.rayon_machine_laws.proofs.Holding.{LocksOk, hold_target}
use Rattle.rayon_machine_laws.proofs.Latches.{SameLatches, is_latching, latches_same, OneLatch, writes, or_terminate, writes_one, grow_one, lock_one, Sets, set_one, scope_one, gather_one}
use Rattle.rayon_machine_laws.proofs.Locks.{holds}
use Rattle.rayon_machine_laws.proofs.OwnedActs.{Mine, SetsFor, Names, Owned, setter_of, owner_calls}
use Rattle.rayon_machine_laws.proofs.Owners.{target_number, own_call, latch_call}
use Rattle.rayon_machine_laws.proofs.Pushing.{top_is}
use Rattle.rayon_machine_laws.proofs.Seats.{mode, owns_in}
use Rattle.rayon_machine_laws.proofs.Ties.{SeatsOk, shape_at, outcome, result}
use Rattle.rayon_machine_laws.proofs.Tops.{is_light}
use Rattle.rayon_machine_laws.proofs.Waking.{Woke, wakes_at}

-- the latch that a worker waits on from where it has made it sleeping until it has its lock again
abbrev pub dozes_on : Place → Option Latch
dozes_on (LoadCounters k) = Some (latch_of k.target)
dozes_on (AddSleeping k) = Some (latch_of k.target)
dozes_on (LookAtCast k) = Some (latch_of k.target)
dozes_on (LookAtInjector k) = Some (latch_of k.target)
dozes_on (BlockSelf k) = Some (latch_of k.target)
dozes_on (RelockOwn k) = Some (latch_of k.target)
dozes_on _ = None

-- the place of a blocked worker, or of one that has just been woken
abbrev pub lies_at : Place → Bool
lies_at (RelockOwn k) = true
lies_at _ = false

abbrev pub is_deep : Letter → Bool
is_deep Sleeping = true
is_deep IsSet = true
is_deep _ = false

-- a dozing worker's latch is sleeping or set, and where it is set and the worker not yet woken, somebody settles it
pub record DozeOk (w : World) (p i : ℕ) (l : Latch) : Type 0 where
  pub deep : is_deep (letter_at w p i l) ≡ true
  pub settled : letter_at w p i l ≡ IsSet → (lies_at (w.stack (Worker p i)).top ≡ true → (w.seat p i).blocked ≡ true) → HasSettler w p i l

abbrev pub Dozing : World → Type 0
Dozing w = (p i : ℕ) (l : Latch) → dozes_on (w.stack (Worker p i)).top ≡ Some l → DozeOk w p i l

abbrev latch_number : Option Latch → Option ℕ
latch_number None = None
latch_number (Some Terminate) = None
latch_number (Some (OfCall c)) = Some c

target_own : (g : Target) → latch_number (Some (latch_of g)) ≡ target_number g
target_own Termination = refl
target_own (Answer o f) = refl

pub dozes_own : (x : Place) (c : ℕ) → dozes_on x ≡ Some (OfCall c) → own_call x ≡ Some c
dozes_own (LoadCounters k) c e = sym (target_own k.target) ∙ ap latch_number e
dozes_own (AddSleeping k) c e = sym (target_own k.target) ∙ ap latch_number e
dozes_own (LookAtCast k) c e = sym (target_own k.target) ∙ ap latch_number e
dozes_own (LookAtInjector k) c e = sym (target_own k.target) ∙ ap latch_number e
dozes_own (BlockSelf k) c e = sym (target_own k.target) ∙ ap latch_number e
dozes_own (RelockOwn k) c e = sym (target_own k.target) ∙ ap latch_number e
dozes_own _ c e = absurd (cc)

writes_own : (x : Place) (c : ℕ) → writes x ≡ Some (OfCall c) → own_call x ≡ Some c
writes_own (GetSleepy k) c e = sym (target_own k.target) ∙ ap latch_number e
writes_own (FallAsleep k) c e = sym (target_own k.target) ∙ ap latch_number e
writes_own (WakeUp k) c e = sym (target_own k.target) ∙ ap latch_number e
writes_own _ c e = absurd (cc)

writes_target : (a b : ℕ) (x : Place) (l : Latch) → writes x ≡ Some l → (target_pool (Worker a b) (act_of (Worker a b) x) ≡ a) × (target_worker (Worker a b) (act_of (Worker a b) x) ≡ b) × (target_call (act_of (Worker a b) x) ≡ call_of l)
writes_target a b (GetSleepy k) l e = (refl, refl, ap (λ z. call_of (or_terminate z)) e)
writes_target a b (FallAsleep k) l e = (refl, refl, ap (λ z. call_of (or_terminate z)) e)
writes_target a b (WakeUp k) l e = (refl, refl, ap (λ z. call_of (or_terminate z)) e)
writes_target a b _ l e = absurd (cc)

pub dozes_calm : (x : Place) (l : Latch) → dozes_on x ≡ Some l → is_latching x ≡ false
dozes_calm (LoadCounters k) l e = refl
dozes_calm (AddSleeping k) l e = refl
dozes_calm (LookAtCast k) l e = refl
dozes_calm (LookAtInjector k) l e = refl
dozes_calm (BlockSelf k) l e = refl
dozes_calm (RelockOwn k) l e = refl
dozes_calm _ l e = absurd (cc)

pub dozes_unsettling : (x : Place) (l n : Latch) (p i : ℕ) → dozes_on x ≡ Some l → settles x p i n ≡ false
dozes_unsettling (LockToSettle s) l n p i e = absurd (cc)
dozes_unsettling (WakeSettled s) l n p i e = absurd (cc)
dozes_unsettling _ l n p i e = refl

dozes_owns : (x : Place) (l : Latch) → dozes_on x ≡ Some l → lies_at x ≡ false → owns_in (mode x) ≡ true
dozes_owns (LoadCounters k) l e f = refl
dozes_owns (AddSleeping k) l e f = refl
dozes_owns (LookAtCast k) l e f = refl
dozes_owns (LookAtInjector k) l e f = refl
dozes_owns (BlockSelf k) l e f = refl
dozes_owns (RelockOwn k) l e f = cc
dozes_owns _ l e f = absurd (cc)

pub light_dozes : (x : Place) (l : Latch) → is_light x ≡ true → dozes_on x ≡ Some l → ⊥
light_dozes (LoadCounters k) l e f = cc
light_dozes _ l e f = cc

pub light_unsettling : (x : Place) (p i : ℕ) (l : Latch) → is_light x ≡ true → settles x p i l ≡ false
light_unsettling (LockToSettle s) p i l e = cc
light_unsettling (WakeSettled s) p i l e = cc
light_unsettling _ p i l e = refl

-- the letter of a latch after an act that leaves it
pub letter_kept : (w : World) (q : Party) (k : Stack) (r : Seen × Part) (p i : ℕ) (l : Latch) → (l ≡ Terminate → p ≡ target_pool q (act_of q k.top) → i ≡ target_worker q (act_of q k.top) → r.1.seat.latch ≡ (part_at w q k).seat.latch)
    → ((c : ℕ) → l ≡ OfCall c → c ≡ target_call (act_of q k.top) → r.1.call.latch ≡ (part_at w q k).call.latch) → letter_at (result w q k r) p i l ≡ letter_at w p i l
letter_kept w q k r p i Terminate sf cf = at ((p == target_pool q (act_of q k.top)) && (i == target_worker q (act_of q k.top))) refl
  where
    at : (d : Bool) → ((p == target_pool q (act_of q k.top)) && (i == target_worker q (act_of q k.top))) ≡ d → (if d then r.1.seat else w.seat p i).latch ≡ (w.seat p i).latch
    at true e = let z : (p ≡ target_pool q (act_of q k.top)) × (i ≡ target_worker q (act_of q k.top)) = same_index p i (target_pool q (act_of q k.top)) (target_worker q (act_of q k.top)) e in
        sf refl (z.0) (z.1) ∙ ap (λ n. (w.seat n (target_worker q (act_of q k.top))).latch) (sym (z.0)) ∙ ap (λ n. (w.seat p n).latch) (sym (z.1))
    at false e = refl
letter_kept w q k r p i (OfCall c) sf cf = at (c == target_call (act_of q k.top)) refl
  where
    at : (d : Bool) → (c == target_call (act_of q k.top)) ≡ d → (if d then r.1.call else w.call c).latch ≡ (w.call c).latch
    at true e = let z : c ≡ target_call (act_of q k.top) = eqb-true c (target_call (act_of q k.top)) e in cf c refl z ∙ ap (λ n. (w.call n).latch) (sym z)
    at false e = refl

-- the letter of a latch that the act writes
pub letter_new : (w : World) (q : Party) (k : Stack) (r : Seen × Part) (p i : ℕ) (l : Latch) → p ≡ target_pool q (act_of q k.top) → i ≡ target_worker q (act_of q k.top) → call_of l ≡ target_call (act_of q k.top) → (letter_at (result w q k r) p i l ≡ letter l (r.1))
    × (letter_at w p i l ≡ letter l (part_at w q k))
letter_new w q k r p i Terminate ep ei ec = let yes : ((p == target_pool q (act_of q k.top)) && (i == target_worker q (act_of q k.top))) ≡ true = rw (eq-eqb p (target_pool q (act_of q k.top)) ep, eq-eqb i (target_worker q (act_of q k.top)) ei) in
    (ap (λ b. (if b then r.1.seat else w.seat p i).latch) yes, ap (λ n. (w.seat n i).latch) ep ∙ ap (λ n. (w.seat (target_pool q (act_of q k.top)) n).latch) ei)
letter_new w q k r p i (OfCall c) ep ei ec = let yes : (c == target_call (act_of q k.top)) ≡ true = eq-eqb c (target_call (act_of q k.top)) ec in (ap (λ b. (if b then r.1.call else w.call c).latch) yes, ap (λ n. (w.call n).latch) ec)

-- another party's act leaves a worker's latch, or sets it
pub record SetNow (w : World) (q : Party) (k : Stack) (r : Seen × Part) (p i : ℕ) (l : Latch) : Type 0 where
  pub setting : Settling
  pub place : k.top ≡ SetLatch setting
  pub settles : settles (LockToSettle setting) p i l ≡ true
  pub now : letter_at (result w q k r) p i l ≡ IsSet
  pub yes : letter_at w p i l ≡ Sleeping → r.0 ≡ Yes

abbrev pub LetterChange : World → Party → Stack → ℕ → ℕ → Latch → Seen × Part → Type 0
LetterChange w q k p i l r = (letter_at (result w q k r) p i l ≡ letter_at w p i l) ⊎ SetNow w q k r p i l

clash : (w : World) (q : Party) (p i c : ℕ) → same_party (Worker p i) q ≡ false → Mine w q c → Mine w (Worker p i) c → ⊥
clash w q p i c d a b = let k : Some (c, Worker p i) ≡ Some (c, q) = sym (b.1) ∙ a.1 in let s : Worker p i ≡ q = ap setter_of k in let l : same_party (Worker p i) q ≡ true = ap (same_party (Worker p i)) (sym s) ∙ same_refl p i in cc

set_clash : (w : World) (p i c : ℕ) (o : Party) → SetsFor w c o → Mine w (Worker p i) c → Worker p i ≡ o
set_clash w p i c o a b = ap setter_of (sym (owner_calls (w.job (w.call c).job).kind c (Worker p i) (b.1)) ∙ a.1)

same_latch_refl : (l : Latch) → same_latch l l ≡ true
same_latch_refl Terminate = refl
same_latch_refl (OfCall c) = eq-eqb c c refl

settles_here : (s : Settling) (p i : ℕ) (l : Latch) → s.pool ≡ p → s.worker ≡ i → s.latch ≡ l → settles (LockToSettle s) p i l ≡ true
settles_here s p i l a b c = let x : (s.pool == p) ≡ true = eq-eqb s.pool p a in let y : (s.worker == i) ≡ true = eq-eqb s.worker i b in let z : same_latch s.latch l ≡ true = ap (λ n. same_latch n l) c ∙ same_latch_refl l in rw (x, y, z)

written : (w : World) (a b : ℕ) (x : Place) (fs : List Place) (p i : ℕ) (l n : Latch) → w.stack (Worker a b) ≡ record { top = x; below = fs } → writes x ≡ Some n → same_party (Worker p i) (Worker a b) ≡ false → Owned w → ((c : ℕ) → l ≡ OfCall c → Mine w (Worker p i) c)
    → IfSome (outcome w (Worker a b) (record { top = x; below = fs })) (LetterChange w (Worker a b) (record { top = x; below = fs }) p i l)
written w a b x fs p i l n e wr d ow mine =
    if_some_map {A = Seen × Part} (OneLatch n (part_at w q k)) (LetterChange w q k p i l) (λ r one. inl (letter_kept w q k r p i l
    (λ lt ep ei. absurd (let yes : same_party (Worker p i) (Worker a b) ≡ true = rw (eq-eqb p a (ep ∙ t.0), eq-eqb i b (ei ∙ t.1)) in cc))
    (λ c lc ec. call n wr r one c lc (ec ∙ t.2)))) (outcome w q k) (writes_one w.shape q (counts_seen w q k) (part_at w q k) x n wr)
  where
    q : Party
    q = Worker a b

    k : Stack
    k = record { top = x; below = fs }

    t : (target_pool q (act_of q x) ≡ a) × (target_worker q (act_of q x) ≡ b) × (target_call (act_of q x) ≡ call_of n)
    t = writes_target a b x n wr

    call : (m : Latch) → writes x ≡ Some m → (r : Seen × Part) → OneLatch m (part_at w q k) r → (c : ℕ) → l ≡ OfCall c → c ≡ call_of m → r.1.call.latch ≡ (part_at w q k).call.latch
    call Terminate wr r one c lc ec = one
    call (OfCall v) wr r one c lc ec = absurd (clash w q p i c d (subst (Mine w q) (sym ec) ((subst (λ z. Names w q (z.top)) e ((ow.named q).top)).own v (writes_own x v wr))) (mine c lc))

target_set : (q : Party) (s : Settling) → (target_pool q (act_of q (SetLatch s)) ≡ s.pool) × (target_worker q (act_of q (SetLatch s)) ≡ s.worker) × (target_call (act_of q (SetLatch s)) ≡ call_of s.latch)
target_set (Worker a b) s = (refl, refl, refl)
target_set (Caller n) s = (refl, refl, refl)

target_grow : (q : Party) (n : Plan) → target_call (act_of q (GrowCall n)) ≡ plan_call n
target_grow (Worker a b) n = refl
target_grow (Caller o) n = refl

target_scope : (q : Party) (n : OpenCall) → target_call (act_of q (GrowScope n)) ≡ n.number
target_scope (Worker a b) n = refl
target_scope (Caller o) n = refl

target_gather : (q : Party) (n : Gathering) → target_call (act_of q (GrowCast n)) ≡ n.call.number
target_gather (Worker a b) n = refl
target_gather (Caller o) n = refl

target_lock : (q : Party) (c : ℕ) (t : Then) → target_call (act_of q (SetLockLatch c t)) ≡ c
target_lock (Worker a b) n t = refl
target_lock (Caller o) n t = refl

set_changes : (w : World) (q : Party) (s : Settling) (fs : List Place) (p i : ℕ) (l : Latch) → w.stack q ≡ record { top = SetLatch s; below = fs } → Owned w → ((c : ℕ) → l ≡ OfCall c → Mine w (Worker p i) c) → IfSome (outcome w q (record { top = SetLatch s; below = fs }))
    (LetterChange w q (record { top = SetLatch s; below = fs }) p i l)
set_changes w q s fs p i l e ow mine = if_some_map {A = Seen × Part} (Sets s.latch (part_at w q k)) (LetterChange w q k p i l) (λ r z. by_latches s.latch l refl refl r z) (outcome w q k) (set_one w.shape q (counts_seen w q k) (part_at w q k) s)
  where
    k : Stack
    k = record { top = SetLatch s; below = fs }

    t : (target_pool q (act_of q (SetLatch s)) ≡ s.pool) × (target_worker q (act_of q (SetLatch s)) ≡ s.worker) × (target_call (act_of q (SetLatch s)) ≡ call_of s.latch)
    t = target_set q s

    -- the very latch
    here : (r : Seen × Part) → Sets s.latch (part_at w q k) r → s.pool ≡ p → s.worker ≡ i → s.latch ≡ l → LetterChange w q k p i l r
    here r z ep ei el =
        let n : (letter_at (result w q k r) p i l ≡ letter l (r.1)) × (letter_at w p i l ≡ letter l (part_at w q k)) = letter_new w q k r p i l (sym ep ∙ sym (t.0)) (sym ei ∙ sym (t.1)) (ap call_of (sym el) ∙ sym (t.2)) in
        inr (record { setting = s; place = refl; settles = settles_here s p i l ep ei el; now = n.0 ∙ subst (λ y. letter y (r.1) ≡ IsSet) el (z.now); yes = λ y. z.yes (subst (λ v. letter v (part_at w q k) ≡ Sleeping) (sym el) (sym (n.1) ∙ y)) })

    by_latches : (n m : Latch) → s.latch ≡ n → l ≡ m → (r : Seen × Part) → Sets s.latch (part_at w q k) r → LetterChange w q k p i l r
    by_latches Terminate Terminate en em r z = elim (either ((s.pool == p) && (s.worker == i))) [
      | inl fits ↦ (let v : (s.pool ≡ p) × (s.worker ≡ i) = same_index s.pool s.worker p i fits in here r z (v.0) (v.1) (en ∙ sym em))
      | inr other ↦ inl (letter_kept w q k r p i l (λ lt ep ei. absurd (let yes : ((s.pool == p) && (s.worker == i)) ≡ true = rw (eq-eqb s.pool p (sym (ep ∙ t.0)), eq-eqb s.worker i (sym (ei ∙ t.1))) in cc)) (λ c lc ec. absurd (let v : Terminate ≡ OfCall c = sym em ∙ lc in cc)))
    ]
    by_latches Terminate (OfCall d) en em r z = inl (letter_kept w q k r p i l (λ lt ep ei. absurd (let v : Terminate ≡ OfCall d = sym lt ∙ em in cc)) (λ c lc ec. subst (λ y. OneLatch y (part_at w q k) r) en (z.other)))
    by_latches (OfCall d) Terminate en em r z = inl (letter_kept w q k r p i l (λ lt ep ei. subst (λ y. OneLatch y (part_at w q k) r) en (z.other)) (λ c lc ec. absurd (let v : Terminate ≡ OfCall c = sym em ∙ lc in cc)))
    by_latches (OfCall d) (OfCall c) en em r z = elim (either (d == c)) [
      | inr other ↦ inl (letter_kept w q k r p i l (λ lt ep ei. absurd (let v : Terminate ≡ OfCall c = sym lt ∙ em in cc))
          (λ b lb eb. absurd (let v : c ≡ b = ap call_of (sym em ∙ lb) in let y : d ≡ c = sym (ap call_of en) ∙ sym (t.2) ∙ sym eb ∙ sym v in let yes : (d == c) ≡ true = eq-eqb d c y in cc)))
      | inl fits ↦ (
          let same : d ≡ c = eqb-true d c fits in
          let sets : SetsFor w d (Worker s.pool s.worker) = (subst (λ z. Names w q (z.top)) e ((ow.named q).top)).sets d (Worker s.pool s.worker) (ap (latch_call s.pool s.worker) en) in
          let own : Worker p i ≡ Worker s.pool s.worker = set_clash w p i c (Worker s.pool s.worker) (subst (λ z. SetsFor w z (Worker s.pool s.worker)) same sets) (mine c em) in
          here r z (ap own_pool (sym own)) (ap own_index (sym own)) (en ∙ ap OfCall same ∙ sym em))
    ]

plain_changes : (w : World) (q : Party) (x : Place) (fs : List Place) (p i : ℕ) (l : Latch) → is_latching x ≡ false → IfSome (outcome w q (record { top = x; below = fs })) (LetterChange w q (record { top = x; below = fs }) p i l)
plain_changes w q x fs p i l z = if_some_map {A = Seen × Part} (SameLatches (part_at w q (record { top = x; below = fs }))) (LetterChange w q (record { top = x; below = fs }) p i l)
    (λ r s. inl (letter_kept w q (record { top = x; below = fs }) r p i l (λ lt ep ei. s.seat) (λ c lc ec. s.call))) (outcome w q (record { top = x; below = fs })) (latches_same w.shape q (counts_seen w q (record { top = x; below = fs })) (part_at w q (record { top = x; below = fs })) x z)

pub letters : (w : World) (q : Party) (x : Place) (fs : List Place) (p i : ℕ) (l : Latch) → w.stack q ≡ record { top = x; below = fs } → same_party (Worker p i) q ≡ false → Owned w → ((c : ℕ) → l ≡ OfCall c → Mine w (Worker p i) c) → IfSome (outcome w q (record { top = x; below = fs }))
    (LetterChange w q (record { top = x; below = fs }) p i l)
letters w (Worker a b) (GetSleepy k) fs p i l e d ow mine = written w a b (GetSleepy k) fs p i l (latch_of k.target) e refl d ow mine
letters w (Worker a b) (FallAsleep k) fs p i l e d ow mine = written w a b (FallAsleep k) fs p i l (latch_of k.target) e refl d ow mine
letters w (Worker a b) (WakeUp k) fs p i l e d ow mine = written w a b (WakeUp k) fs p i l (latch_of k.target) e refl d ow mine
letters w (Caller n) (GetSleepy k) fs p i l e d ow mine = tt
letters w (Caller n) (FallAsleep k) fs p i l e d ow mine = tt
letters w (Caller n) (WakeUp k) fs p i l e d ow mine = tt
letters w q (SetLatch s) fs p i l e d ow mine = set_changes w q s fs p i l e ow mine
letters w q (GrowCall n) fs p i l e d ow mine = if_some_map {A = Seen × Part} (λ r. r.1.seat.latch ≡ (part_at w q (record { top = GrowCall n; below = fs })).seat.latch) (LetterChange w q (record { top = GrowCall n; below = fs }) p i l)
    (λ r s. inl (letter_kept w q (record { top = GrowCall n; below = fs }) r p i l (λ lt ep ei. s) (λ c lc ec. absurd (clash w q p i c d (subst (Mine w q) (sym (ec ∙ target_grow q n)) ((subst (λ z. Names w q (z.top)) e ((ow.named q).top)).own (plan_call n) refl)) (mine c lc)))))
    (outcome w q (record { top = GrowCall n; below = fs })) (grow_one w.shape q (counts_seen w q (record { top = GrowCall n; below = fs })) (part_at w q (record { top = GrowCall n; below = fs })) n)
letters w q (GrowScope n) fs p i l e d ow mine = if_some_map {A = Seen × Part} (λ r. r.1.seat.latch ≡ (part_at w q (record { top = GrowScope n; below = fs })).seat.latch) (LetterChange w q (record { top = GrowScope n; below = fs }) p i l)
    (λ r s. inl (letter_kept w q (record { top = GrowScope n; below = fs }) r p i l (λ lt ep ei. s) (λ c lc ec. absurd (clash w q p i c d (subst (Mine w q) (sym (ec ∙ target_scope q n)) ((subst (λ z. Names w q (z.top)) e ((ow.named q).top)).own n.number refl)) (mine c lc)))))
    (outcome w q (record { top = GrowScope n; below = fs })) (scope_one w.shape q (counts_seen w q (record { top = GrowScope n; below = fs })) (part_at w q (record { top = GrowScope n; below = fs })) n)
letters w q (GrowCast n) fs p i l e d ow mine = if_some_map {A = Seen × Part} (λ r. r.1.seat.latch ≡ (part_at w q (record { top = GrowCast n; below = fs })).seat.latch) (LetterChange w q (record { top = GrowCast n; below = fs }) p i l)
    (λ r s. inl (letter_kept w q (record { top = GrowCast n; below = fs }) r p i l (λ lt ep ei. s) (λ c lc ec. absurd (clash w q p i c d (subst (Mine w q) (sym (ec ∙ target_gather q n)) ((subst (λ z. Names w q (z.top)) e ((ow.named q).top)).own n.call.number refl)) (mine c lc)))))
    (outcome w q (record { top = GrowCast n; below = fs })) (gather_one w.shape q (counts_seen w q (record { top = GrowCast n; below = fs })) (part_at w q (record { top = GrowCast n; below = fs })) n)
letters w q (SetLockLatch n t) fs p i l e d ow mine = if_some_map {A = Seen × Part} (λ r. r.1.seat.latch ≡ (part_at w q (record { top = SetLockLatch n t; below = fs })).seat.latch) (LetterChange w q (record { top = SetLockLatch n t; below = fs }) p i l)
    (λ r s. inl (letter_kept w q (record { top = SetLockLatch n t; below = fs }) r p i l (λ lt ep ei. s)
    (λ c lc ec. absurd (let v : Worker p i ≡ Caller 0 = set_clash w p i c (Caller 0) (subst (λ z. SetsFor w z (Caller 0)) (sym (ec ∙ target_lock q n t)) ((subst (λ z. Names w q (z.top)) e ((ow.named q).top)).sets n (Caller 0) refl)) (mine c lc) in cc))))
    (outcome w q (record { top = SetLockLatch n t; below = fs })) (lock_one w.shape q (counts_seen w q (record { top = SetLockLatch n t; below = fs })) (part_at w q (record { top = SetLockLatch n t; below = fs })) n t)
letters w q x fs p i l e d ow mine = plain_changes w q x fs p i l refl

-- a party that settles a latch goes on settling it until it has made its wake
settling_on : (w : World) (q : Party) (x : Place) (fs : List Place) (p i : ℕ) (l : Latch) → settles x p i l ≡ true → wakes_at x ≡ false → (e : Seen) → settles ((after_move (next_at w q (record { top = x; below = fs }) e) fs).top) p i l ≡ true
settling_on w q (LockToSettle s) fs p i l a b e = a
settling_on w q _ fs p i l a b e = cc

settling_holds : (x : Place) (p i : ℕ) (l : Latch) → settles x p i l ≡ true → wakes_at x ≡ true → holds x p i ≡ true
settling_holds (WakeSettled s) p i l a b = (and_parts ((s.pool == p) && (s.worker == i)) (same_latch s.latch l) a).0
settling_holds _ p i l a b = cc

set_unsettling : (s : Settling) (x : Place) (p i : ℕ) (l : Latch) → x ≡ SetLatch s → settles x p i l ≡ false
set_unsettling s x p i l e = ap (λ z. settles z p i l) e

lock_owner : (q r : Party) → Some q ≡ Some r → q ≡ r
lock_owner q r e = cc

-- what a Wake leaves of the seat of the worker whose lock its party holds
unblocks : (w : World) (q : Party) (k : Stack) (r : Seen × Part) (p i : ℕ) → holds k.top p i ≡ true → Woke (part_at w q k) r → ((result w q k r).seat p i).blocked ≡ false
unblocks w q k r p i h s =
    let t : (target_pool q (act_of q k.top) ≡ p) × (target_worker q (act_of q k.top) ≡ i) = hold_target q k.top p i h in
    let there : ((p == target_pool q (act_of q k.top)) && (i == target_worker q (act_of q k.top))) ≡ true = rw (eq-eqb p (target_pool q (act_of q k.top)) (sym (t.0)), eq-eqb i (target_worker q (act_of q k.top)) (sym (t.1))) in
    ap (λ b. (if b then r.1.seat else w.seat p i).blocked) there ∙ elim (either ((part_at w q k).seat.blocked)) [ inl b ↦ s.yes b | inr b ↦ elim (s.seat) [ inl same ↦ ap (λ z. z.blocked) same ∙ b | inr woke ↦ (woke.1) ] ]

-- another party's act leaves a worker as much settled as it was
pub other_settled : (w : World) (q : Party) (x : Place) (fs : List Place) (p i : ℕ) (l : Latch) (r : Seen × Part) → w.stack q ≡ record { top = x; below = fs } → same_party (Worker p i) q ≡ false → SeatsOk w → LocksOk w → DozeOk w p i l → dozes_on (w.stack (Worker p i)).top ≡ Some l
    → LetterChange w q (record { top = x; below = fs }) p i l r → (((result w q (record { top = x; below = fs }) r).seat p i).blocked ≡ true → (w.seat p i).blocked ≡ true) → (wakes_at x ≡ true → Woke (part_at w q (record { top = x; below = fs })) r)
    → DozeOk (result w q (record { top = x; below = fs }) r) p i l
other_settled w q x fs p i l r e d ok locks doze on change blocks wakes = record {
  deep = elim change [ inl same ↦ ap is_deep same ∙ doze.deep | inr new ↦ ap is_deep (new.now) ];
  settled = λ is waits. elim change [
    | inr new ↦ by_letter new (letter_at w p i l) refl waits
    | inl same ↦ still (doze.settled (sym same ∙ is) (λ z. blocks (waits (ap (λ s. lies_at (s.top)) mine ∙ z)))) waits
  ];
}
  where
    k : Stack
    k = record { top = x; below = fs }

    u : World
    u = result w q k r

    mine : u.stack (Worker p i) ≡ w.stack (Worker p i)
    mine = stack_other w.stack q (after_move (next_at w q k (r.0)) fs) (Worker p i) d

    other_party : (g : HasSettler w p i l) → same_party (g.party) q ≡ false → HasSettler u p i l
    other_party g z = record { party = g.party; settling = ap (λ s. settles (s.top) p i l) (stack_other w.stack q (after_move (next_at w q k (r.0)) fs) (g.party) z) ∙ g.settling }

    this_party : (g : HasSettler w p i l) → same_party (g.party) q ≡ true → settles x p i l ≡ true
    this_party g z = ap (λ s. settles (s.top) p i l) (sym (ap w.stack (same_party_true (g.party) q z) ∙ e)) ∙ g.settling

    not_waking : (wakes_at x ≡ true) → settles x p i l ≡ true → (lies_at (u.stack (Worker p i)).top ≡ true → (u.seat p i).blocked ≡ true) → ⊥
    not_waking wk st waits =
        let h : holds x p i ≡ true = settling_holds x p i l st wk in
        let free : (u.seat p i).blocked ≡ false = unblocks w q k r p i h (wakes wk) in
        elim (either (lies_at (w.stack (Worker p i)).top)) [
          | inl lies ↦ (let b : (u.seat p i).blocked ≡ true = waits (ap (λ s. lies_at (s.top)) mine ∙ lies) in let z : false ≡ true = sym free ∙ b in cc)
          | inr up ↦ (
              let own : (w.seat p i).lock ≡ Some (Worker p i) = ((ok p i).top).lock (dozes_owns (w.stack (Worker p i)).top l on up) in
              let its : (w.seat p i).lock ≡ Some q = locks q p i (ap (λ s. holds (s.top) p i) e ∙ h) in
              let is : Worker p i ≡ q = lock_owner (Worker p i) q (sym own ∙ its) in
              let z : same_party (Worker p i) q ≡ true = ap (same_party (Worker p i)) (sym is) ∙ same_refl p i in cc)
        ]

    still : HasSettler w p i l → (lies_at (u.stack (Worker p i)).top ≡ true → (u.seat p i).blocked ≡ true) → HasSettler u p i l
    still g waits = elim (either (same_party (g.party) q)) [
      | inr z ↦ other_party g z
      | inl z ↦ elim (either (wakes_at x)) [
        | inl wk ↦ absurd (not_waking wk (this_party g z) waits)
        | inr calm ↦ record { party = q; settling = ap (λ y. settles y p i l) (top_is w q k r) ∙ settling_on w q x fs p i l (this_party g z) calm (r.0) }
      ]
    ]

    by_letter : (n : SetNow w q k r p i l) → (m : Letter) → letter_at w p i l ≡ m → (lies_at (u.stack (Worker p i)).top ≡ true → (u.seat p i).blocked ≡ true) → HasSettler u p i l
    by_letter n Sleeping z waits = record { party = q; settling = ap (λ y. settles y p i l) (top_is w q k r ∙ ap (λ v. (after_move (next_of (shape_at w q k) q x v) fs).top) (n.yes z) ∙ ap (λ v. (after_move (next_of (shape_at w q k) q v Yes) fs).top) (n.place)) ∙ n.settles }
    by_letter n IsSet z waits = (let g : HasSettler w p i l = doze.settled z (λ y. blocks (waits (ap (λ s. lies_at (s.top)) mine ∙ y))) in
        elim (either (same_party (g.party) q)) [
          | inr a ↦ other_party g a
          | inl a ↦ absurd (let f : settles x p i l ≡ false = set_unsettling (n.setting) x p i l (n.place) in let y : settles x p i l ≡ true = this_party g a in cc)
        ])
    by_letter n _ z waits = absurd (let f : is_deep (letter_at w p i l) ≡ false = ap is_deep z in let y : is_deep (letter_at w p i l) ≡ true = doze.deep in cc)
