-- each latch is set once, by one party: what the act at a place makes of the latches, and what each step does
--
-- Of the clause `sets` there is one more case. The act that makes a call's cell unsets its latch; then its job is in a
-- hand, or its pieces wait in its count (`grow_unready`).
use Rattle.std.proofs.Common.{arith, refl, sym, ◌∙◌, ap, subst, inl, inr}
use Rattle.std.specs.Prelude.{ℕ, Bool, true, false, not, ◌&&◌, ◌+◌, ◌-◌, ◌==◌, ◌≤◌, ◌<◌, if◌then◌else◌, Option, Some, List, [], ◌∷◌, ◌≡◌, ◌⊎◌, IfSome}
use Rattle.std.proofs.lemmas.Bool.{eqb-true, eq-eqb, ltb-true}
use Rattle.rayon_machine_places.specs.declared.place.Party.{Party}
use Rattle.rayon_machine_places.specs.declared.place.Party.TheVariants.{Worker, Caller}
use Rattle.rayon_machine_places.specs.declared.place.JobKind.TheVariants.{PieceOf, WholeOf}
use Rattle.rayon_machine_places.specs.declared.place.JobKind.{JobKind}
use Rattle.rayon_machine_places.specs.declared.place.Latch.{Latch}
use Rattle.rayon_machine_places.specs.declared.place.Latch.TheVariants.{Terminate, OfCall}
use Rattle.rayon_machine_places.specs.declared.place.Settling.{Settling}
use Rattle.rayon_machine_places.specs.declared.place.OpenCall.{OpenCall}
use Rattle.rayon_machine_places.specs.declared.place.Gathering.{Gathering}
use Rattle.rayon_machine_places.specs.declared.place.Plan.{Plan}
use Rattle.rayon_machine_places.specs.declared.place.Plan.TheVariants.{Send, Fork}
use Rattle.rayon_machine_places.specs.declared.place.Taken.{Taken}
use Rattle.rayon_machine_places.specs.declared.place.Taken.TheVariants.{Plain, Token}
use Rattle.rayon_machine_places.specs.declared.place.Place.{Place}
use Rattle.rayon_machine_places.specs.declared.place.Place.TheVariants.{GetSleepy, FallAsleep, WakeUp, GrowCall, GrowScope, GrowCast, SetLatch, SetLockLatch, BeginTask, LookQueue, PushJob}
use Rattle.rayon_machine_places.specs.declared.act.Act.{Act}
use Rattle.rayon_machine_places.specs.declared.act.Act.TheVariants.{LookOwn, LookInj, PushOwn, PushInj, Set, LockSet}
use Rattle.rayon_machine_places.specs.declared.act.Seen.{Seen}
use Rattle.rayon_machine_places.specs.declared.act.Seen.TheVariants.{Done, Refused}
use Rattle.rayon_machine_runs.specs.declared.event.Event.{Event}
use Rattle.rayon_machine_runs.specs.declared.event.Event.TheVariants.{Go}
use Rattle.rayon_machine_runs.specs.declared.state.Letter.{Letter}
use Rattle.rayon_machine_runs.specs.declared.state.Letter.TheVariants.{Unset, Sleepy as IsSleepy, Sleeping, Set as IsSet}
use Rattle.rayon_machine_runs.specs.declared.state.Whereabouts.TheVariants.{Made, Spent}
use Rattle.rayon_machine_places.specs.Places.{act_of, begin_act, is_member, latch_of, look_act, plan_book, plan_call, plan_job, plan_pool, push_act, count_kind}
use Rattle.rayon_machine_runs.specs.World.{Shape, World, counts_at, Part, effect, letter, with_letter, sleepy, fall_asleep, wake_up}
use Rattle.rayon_machine_places.specs.Sleepers.{Counts}
use Rattle.rayon_machine_places.specs.Targets.{target_pool, target_worker, target_call, call_of}
use Rattle.rayon_machine_runs.specs.Steps.{is_piece, step}
use Rattle.rayon_machine_runs.specs.Readers.{is_done}
use Rattle.rayon_machine_laws.specs.Attended.{letter_at}
use Rattle.rayon_machine_laws.specs.Once.{one}
use Rattle.rayon_machine_laws.specs.Latch.{sets, setters_in, setters, IsSetOnce, is_set_by, SetsSo, SetLaw}
use Rattle.rayon_machine_laws.proofs.Frame.{same_index, same_refl, if_some_and, if_some_map, acted_keeps, piece_in}
use Rattle.rayon_machine_laws.proofs.Letters.{set_keeps}
use Rattle.rayon_machine_laws.proofs.Latches.{SameLatches, latches_same}
use Rattle.rayon_machine_laws.proofs.Seats.{is_frame}
use Rattle.rayon_machine_laws.proofs.Ties.{AllFrames, job_at, outcome, result}
use Rattle.rayon_machine_laws.proofs.Claims.{Opened, PieceAs, SaysQueue, SaysGather, IsReady, is_body}
use Rattle.rayon_machine_laws.proofs.ClaimActs.{Written, act_written, is_call, sets_call, sets_seat}
use Rattle.rayon_machine_laws.proofs.ClaimRuns.{top_says, place_part, world_after}
use Rattle.rayon_machine_laws.proofs.Feeds.{fed_in, all_fed}
use Rattle.rayon_machine_laws.proofs.Lost.{is_dealt}
use Rattle.rayon_machine_laws.proofs.Tokens.{sum_below}
use Rattle.rayon_machine_laws.proofs.ShareSteps.{self_one}
use Rattle.rayon_machine_laws.proofs.ScopeCounts.{is_whole, entry}
use Rattle.rayon_machine_laws.proofs.Gathered.{calls_of}
use Rattle.rayon_machine_laws.proofs.Setters.{is_of, is_end, means, walks, unset_from, waits_for, is_fit, not_true}
use Rattle.rayon_machine_laws.proofs.SetterActs.{SetsHold, unready, undone_unready, set_before, ended_before}
use Rattle.rayon_machine_laws.proofs.SetterEvents.{Shifts, is_go, shift_of, always_sets}

-- the acts that set a latch, and the places that have one
abbrev is_setting : Act → Bool
is_setting (Set l r j) = true
is_setting (LockSet d) = true
is_setting a = false

abbrev is_setter : Place → Bool
is_setter (SetLatch s) = true
is_setter (SetLockLatch d t) = true
is_setter x = false

sets_not : (p i : ℕ) (l : Latch) (a : Act) → is_setting a ≡ false → sets p i l a ≡ false
sets_not p i l (Set m r j) z = cc
sets_not p i l (LockSet d) z = cc
sets_not p i Terminate a z = refl
sets_not p i (OfCall c) a z = refl

plain_begin : (t : Taken) → is_setting (begin_act t) ≡ false
plain_begin (Plain t) = refl
plain_begin (Token t i b) = refl

plain_look : (q : Party) (p : ℕ) → is_setting (look_act q p) ≡ false
plain_look q p = by (is_member q p)
  where
    by : (b : Bool) → is_setting (if b then LookOwn else LookInj p) ≡ false
    by true = refl
    by false = refl

plain_push : (q : Party) (p t : ℕ) (b : Option ℕ) → is_setting (push_act q p t b) ≡ false
plain_push q p t b = by (is_member q p)
  where
    by : (z : Bool) → is_setting (if z then PushOwn t b else PushInj p t b) ≡ false
    by true = refl
    by false = refl

plain_act : (q : Party) (x : Place) → is_setting (act_of q x) ≡ is_setter x
plain_act (Worker a b) (BeginTask t) = plain_begin t
plain_act (Caller n) (BeginTask t) = plain_begin t
plain_act (Worker a b) (LookQueue n) = plain_look (Worker a b) (plan_pool n)
plain_act (Caller c) (LookQueue n) = plain_look (Caller c) (plan_pool n)
plain_act (Worker a b) (PushJob n e) = plain_push (Worker a b) (plan_pool n) (plan_job n) (plan_book n)
plain_act (Caller c) (PushJob n e) = plain_push (Caller c) (plan_pool n) (plan_job n) (plan_book n)
plain_act (Worker a b) x = refl
plain_act (Caller c) x = refl

plain_sets : (q : Party) (p i : ℕ) (l : Latch) (x : Place) → is_setter x ≡ false → sets p i l (act_of q x) ≡ false
plain_sets q p i l x z = sets_not p i l (act_of q x) (plain_act q x ∙ z)

-- whose act sets the latch of a call means that one
record CallSet (q : Party) (c : ℕ) (x : Place) : Type 0 where
  meant : means c x ≡ true
  target : c ≡ target_call (act_of q x)
  place : sets_call x ≡ true

set_of_call : (p i c r j : ℕ) (l : Latch) → sets p i (OfCall c) (Set l r j) ≡ true → l ≡ OfCall c
set_of_call p i c r j Terminate e = cc
set_of_call p i c r j (OfCall d) e = ap OfCall (sym (eqb-true c d e))

call_set : (q : Party) (p i c : ℕ) (x : Place) → sets p i (OfCall c) (act_of q x) ≡ true → CallSet q c x
call_set (Worker a b) p i c (SetLatch s) e = let l : s.latch ≡ OfCall c = set_of_call p i c s.pool s.worker s.latch e in record { meant = ap (is_of c) l ∙ eq-eqb c c refl; target = sym (ap call_of l); place = ap is_call l }
call_set (Caller n) p i c (SetLatch s) e = let l : s.latch ≡ OfCall c = set_of_call p i c s.pool s.worker s.latch e in record { meant = ap (is_of c) l ∙ eq-eqb c c refl; target = sym (ap call_of l); place = ap is_call l }
call_set (Worker a b) p i c (SetLockLatch d t) e = record { meant = e; target = eqb-true c d e; place = refl }
call_set (Caller n) p i c (SetLockLatch d t) e = record { meant = e; target = eqb-true c d e; place = refl }
call_set q p i c x e = absurd (not_true (sets p i (OfCall c) (act_of q x)) (plain_sets q p i (OfCall c) x refl) e)

-- and whose act sets a terminate latch walks there
record SeatSet (q : Party) (p i : ℕ) (x : Place) : Type 0 where
  walked : walks p x ≡ true
  from : unset_from x ≤ i
  pool : p ≡ target_pool q (act_of q x)
  worker : i ≡ target_worker q (act_of q x)
  place : sets_seat x ≡ true

set_of_seat : (p i r j : ℕ) (l : Latch) → sets p i Terminate (Set l r j) ≡ true → (l ≡ Terminate) × ((p ≡ r) × (i ≡ j))
set_of_seat p i r j Terminate e = (refl, same_index p i r j e)
set_of_seat p i r j (OfCall d) e = cc

walk_set : (p r : ℕ) (l : Latch) → l ≡ Terminate → p ≡ r → (is_end l && (p == r)) ≡ true
walk_set p r l e f = ap (λ m. is_end m && (p == r)) e ∙ eq-eqb p r f

seat_set : (q : Party) (p i : ℕ) (x : Place) → sets p i Terminate (act_of q x) ≡ true → SeatSet q p i x
seat_set (Worker a b) p i (SetLatch s) e = let l : (s.latch ≡ Terminate) × ((p ≡ s.pool) × (i ≡ s.worker)) = set_of_seat p i s.pool s.worker s.latch e in record { walked = walk_set p s.pool s.latch (l.0) ((l.1).0); from = (let m : i ≡ s.worker = (l.1).1 in omega (arith, m)); pool = (l.1).0; worker = (l.1).1; place = ap (λ m. not (is_call m)) (l.0) }
seat_set (Caller n) p i (SetLatch s) e = let l : (s.latch ≡ Terminate) × ((p ≡ s.pool) × (i ≡ s.worker)) = set_of_seat p i s.pool s.worker s.latch e in record { walked = walk_set p s.pool s.latch (l.0) ((l.1).0); from = (let m : i ≡ s.worker = (l.1).1 in omega (arith, m)); pool = (l.1).0; worker = (l.1).1; place = ap (λ m. not (is_call m)) (l.0) }
seat_set (Worker a b) p i (SetLockLatch d t) e = cc
seat_set (Caller n) p i (SetLockLatch d t) e = cc
seat_set q p i x e = absurd (not_true (sets p i Terminate (act_of q x)) (plain_sets q p i Terminate x refl) e)

-- and the other way about
sets_of : (p i r j : ℕ) (l : Latch) → is_call l ≡ true → sets p i (OfCall (call_of l)) (Set l r j) ≡ true
sets_of p i r j Terminate e = cc
sets_of p i r j (OfCall d) e = eq-eqb d d refl

sets_call_of : (q : Party) (p i : ℕ) (x : Place) → sets_call x ≡ true → sets p i (OfCall (target_call (act_of q x))) (act_of q x) ≡ true
sets_call_of (Worker a b) p i (SetLatch s) e = sets_of p i s.pool s.worker s.latch e
sets_call_of (Caller n) p i (SetLatch s) e = sets_of p i s.pool s.worker s.latch e
sets_call_of (Worker a b) p i (SetLockLatch d t) e = eq-eqb d d refl
sets_call_of (Caller n) p i (SetLockLatch d t) e = eq-eqb d d refl
sets_call_of q p i x e = cc

sets_at : (r j : ℕ) (l : Latch) → not (is_call l) ≡ true → sets r j Terminate (Set l r j) ≡ true
sets_at r j Terminate e = same_refl r j
sets_at r j (OfCall d) e = cc

sets_seat_of : (q : Party) (x : Place) → sets_seat x ≡ true → sets (target_pool q (act_of q x)) (target_worker q (act_of q x)) Terminate (act_of q x) ≡ true
sets_seat_of (Worker a b) (SetLatch s) e = sets_at s.pool s.worker s.latch e
sets_seat_of (Caller n) (SetLatch s) e = sets_at s.pool s.worker s.latch e
sets_seat_of q x e = cc

-- no frame sets a latch, so only the top of a party's stack does
frame_plain : (f : Place) → is_frame f ≡ true → is_setter f ≡ false
frame_plain (SetLatch s) z = cc
frame_plain (SetLockLatch d t) z = cc
frame_plain f z = refl

frames_set : (q : Party) (p i : ℕ) (l : Latch) (fs : List Place) → AllFrames fs → setters_in p i l q fs ≡ 0
frames_set q p i l [] a = refl
frames_set q p i l (f ∷ fs) a = let x : one (sets p i l (act_of q f)) ≡ 0 = ap one (plain_sets q p i l f (frame_plain f (a.0))) in let y : setters_in p i l q fs ≡ 0 = frames_set q p i l fs (a.1) in omega (arith, x, y)

one_true : (b : Bool) → 1 ≤ one b → b ≡ true
one_true true h = refl
one_true false h = absurd (omega arith)

one_most : (b : Bool) → one b ≤ 1
one_most true = omega arith
one_most false = omega arith

top_sets : (w : World) (q : Party) (p i : ℕ) (l : Latch) → SetsHold w → 1 ≤ setters p i l q (w.stack q) → sets p i l (act_of q (w.stack q).top) ≡ true
top_sets w q p i l h n = one_true (sets p i l (act_of q (w.stack q).top)) (let b : setters_in p i l q (w.stack q).below ≡ 0 = frames_set q p i l (w.stack q).below ((h.gathers).frames q) in omega (arith, b, n))

-- who is to set a latch finds it unset, and is the only one
pub set_once : (w : World) → SetsHold w → IsSetOnce w
set_once w h = record {
  unset = λ q p i l n e. unset q p i l (top_sets w q p i l h n) e;
  once = λ q p i l. (let b : setters_in p i l q (w.stack q).below ≡ 0 = frames_set q p i l (w.stack q).below ((h.gathers).frames q) in let m : one (sets p i l (act_of q (w.stack q).top)) ≤ 1 = one_most (sets p i l (act_of q (w.stack q).top)) in omega (arith, b, m));
  alone = λ q r p i l n m. alone q r p i l (top_sets w q p i l h n) (top_sets w r p i l h m);
}
  where
    unset : (q : Party) (p i : ℕ) (l : Latch) → sets p i l (act_of q (w.stack q).top) ≡ true → letter_at w p i l ≡ IsSet → ⊥
    unset q p i Terminate n e = let s : SeatSet q p i (w.stack q).top = seat_set q p i (w.stack q).top n in h.ends q p i (s.walked) (s.from) e
    unset q p i (OfCall c) n e = h.unset q c ((call_set q p i c (w.stack q).top n).meant) e

    alone : (q r : Party) (p i : ℕ) (l : Latch) → sets p i l (act_of q (w.stack q).top) ≡ true → sets p i l (act_of r (w.stack r).top) ≡ true → q ≡ r
    alone q r p i Terminate n m = h.walker q r p ((seat_set q p i (w.stack q).top n).walked) ((seat_set r p i (w.stack r).top m).walked)
    alone q r p i (OfCall c) n m = h.one q r c ((call_set q p i c (w.stack q).top n).meant) ((call_set r p i c (w.stack r).top m).meant)

-- the places that make a call's cell, whose latch is unset then
abbrev grows : Place → Bool
grows (GrowCall n) = true
grows (GrowScope o) = true
grows (GrowCast g) = true
grows x = false

-- what an act leaves set, and what it sets
record Strikes (m : Part) (x : Place) (r : Seen × Part) : Type 0 where
  call : m.call.latch ≡ IsSet → (r.1.call.latch ≡ IsSet) ⊎ (grows x ≡ true)
  seat : m.seat.latch ≡ IsSet → r.1.seat.latch ≡ IsSet
  calls : sets_call x ≡ true → r.1.call.latch ≡ IsSet
  seats : sets_seat x ≡ true → r.1.seat.latch ≡ IsSet

-- a place that sets none
kept_strikes : (m : Part) (x : Place) (r : Seen × Part) → sets_call x ≡ false → sets_seat x ≡ false → (m.call.latch ≡ IsSet → (r.1.call.latch ≡ IsSet) ⊎ (grows x ≡ true)) → (m.seat.latch ≡ IsSet → r.1.seat.latch ≡ IsSet) → Strikes m x r
kept_strikes m x r a b c s = record { call = c; seat = s; calls = λ z. absurd (not_true (sets_call x) a z); seats = λ z. absurd (not_true (sets_seat x) b z) }

same_strikes : (m : Part) (x : Place) (e : Seen) → sets_call x ≡ false → sets_seat x ≡ false → Strikes m x (e, m)
same_strikes m x e a b = kept_strikes m x (e, m) a b (λ z. inl z) (λ z. z)

letter_strikes : (m : Part) (x : Place) (l : Latch) (e : Seen) (y : Letter) → sets_call x ≡ false → sets_seat x ≡ false → (letter l m ≡ IsSet → ⊥) → Strikes m x (e, with_letter l m y)
letter_strikes m x Terminate e y a b n = kept_strikes m x (e, with_letter Terminate m y) a b (λ z. inl z) (λ z. absurd (n z))
letter_strikes m x (OfCall c) e y a b n = kept_strikes m x (e, with_letter (OfCall c) m y) a b (λ z. absurd (n z)) (λ z. z)

other_letter : (y z : Letter) → (z ≡ IsSet → ⊥) → y ≡ z → y ≡ IsSet → ⊥
other_letter y z n e s = n (sym e ∙ s)

sleepy_strikes : (m : Part) (x : Place) (l : Latch) (y : Letter) → sets_call x ≡ false → sets_seat x ≡ false → letter l m ≡ y → IfSome (sleepy l m y) (Strikes m x)
sleepy_strikes m x l Unset a b e = letter_strikes m x l Done IsSleepy a b (other_letter (letter l m) Unset (λ z. cc) e)
sleepy_strikes m x l _ a b e = same_strikes m x Refused a b

asleep_strikes : (m : Part) (x : Place) (l : Latch) (y : Letter) → sets_call x ≡ false → sets_seat x ≡ false → letter l m ≡ y → IfSome (fall_asleep l m y) (Strikes m x)
asleep_strikes m x l IsSleepy a b e = letter_strikes m x l Done Sleeping a b (other_letter (letter l m) IsSleepy (λ z. cc) e)
asleep_strikes m x l _ a b e = same_strikes m x Refused a b

wake_strikes : (m : Part) (x : Place) (l : Latch) (y : Letter) → sets_call x ≡ false → sets_seat x ≡ false → letter l m ≡ y → IfSome (wake_up l m y) (Strikes m x)
wake_strikes m x l IsSet a b e = same_strikes m x Done a b
wake_strikes m x l Unset a b e = letter_strikes m x l Done Unset a b (other_letter (letter l m) Unset (λ z. cc) e)
wake_strikes m x l IsSleepy a b e = letter_strikes m x l Done Unset a b (other_letter (letter l m) IsSleepy (λ z. cc) e)
wake_strikes m x l Sleeping a b e = letter_strikes m x l Done Unset a b (other_letter (letter l m) Sleeping (λ z. cc) e)

set_strikes : (m : Part) (s : Settling) (l : Latch) → s.latch ≡ l → (e : Seen) → Strikes m (SetLatch s) (e, with_letter l m IsSet)
set_strikes m s Terminate z e = record { call = λ y. inl y; seat = λ y. refl; calls = λ y. absurd (not_true (is_call s.latch) (ap is_call z) y); seats = λ y. refl }
set_strikes m s (OfCall c) z e = record { call = λ y. inl refl; seat = λ y. y; calls = λ y. refl; seats = λ y. absurd (not_true (not (is_call s.latch)) (ap (λ v. not (is_call v)) z) y) }

act_strikes : (h : Shape) (q : Party) (c : Counts) (m : Part) (x : Place) → IfSome (effect (act_of q x) h q c m) (Strikes m x)
act_strikes h (Worker a b) c m (GetSleepy k) = sleepy_strikes m (GetSleepy k) (latch_of k.target) (letter (latch_of k.target) m) refl refl refl
act_strikes h (Worker a b) c m (FallAsleep k) = asleep_strikes m (FallAsleep k) (latch_of k.target) (letter (latch_of k.target) m) refl refl refl
act_strikes h (Worker a b) c m (WakeUp k) = wake_strikes m (WakeUp k) (latch_of k.target) (letter (latch_of k.target) m) refl refl refl
act_strikes h (Caller n) c m (GetSleepy k) = tt
act_strikes h (Caller n) c m (FallAsleep k) = tt
act_strikes h (Caller n) c m (WakeUp k) = tt
act_strikes h (Worker a b) c m (GrowCall n) = record { call = λ z. inr refl; seat = λ z. z; calls = λ z. cc; seats = λ z. cc }
act_strikes h (Caller d) c m (GrowCall n) = record { call = λ z. inr refl; seat = λ z. z; calls = λ z. cc; seats = λ z. cc }
act_strikes h (Worker a b) c m (GrowScope o) = record { call = λ z. inr refl; seat = λ z. z; calls = λ z. cc; seats = λ z. cc }
act_strikes h (Caller d) c m (GrowScope o) = record { call = λ z. inr refl; seat = λ z. z; calls = λ z. cc; seats = λ z. cc }
act_strikes h (Worker a b) c m (GrowCast g) = record { call = λ z. inr refl; seat = λ z. z; calls = λ z. cc; seats = λ z. cc }
act_strikes h (Caller d) c m (GrowCast g) = record { call = λ z. inr refl; seat = λ z. z; calls = λ z. cc; seats = λ z. cc }
act_strikes h (Worker a b) c m (SetLatch s) = set_keeps s.latch (λ v r. Strikes v (SetLatch s) r) (λ v e. set_strikes v s s.latch refl e) m (letter s.latch m)
act_strikes h (Caller d) c m (SetLatch s) = set_keeps s.latch (λ v r. Strikes v (SetLatch s) r) (λ v e. set_strikes v s s.latch refl e) m (letter s.latch m)
act_strikes h (Worker a b) c m (SetLockLatch d t) = record { call = λ z. inl refl; seat = λ z. z; calls = λ z. refl; seats = λ z. cc }
act_strikes h (Caller n) c m (SetLockLatch d t) = record { call = λ z. inl refl; seat = λ z. z; calls = λ z. refl; seats = λ z. cc }
act_strikes h q c m x = if_some_map (SameLatches m) (Strikes m x) (λ r s. kept_strikes m x r refl refl (λ z. inl (s.call ∙ z)) (λ z. s.seat ∙ z)) (effect (act_of q x) h q c m) (latches_same h q c m x refl)

-- the job of a call whose cell is made is not begun, and that of a broadcast has pieces, which are not dealt: nobody can
-- set the latch yet
open_unready : (w : World) (q : Party) (o : OpenCall) → SetsHold w → Opened w q o → 1 ≤ all_fed o.job (w.stack q) → IsReady w o.number → ⊥
open_unready w q o h s f = undone_unready w o.number h (s.number) (ap (λ n. is_whole (w.job n).kind) (s.target) ∙ whole (is_whole (w.job o.job).kind) refl) (ap (λ n. is_done (w.job n).at) (s.target) ∙ ap is_done made)
  where
    made : (w.job o.job).at ≡ Made q
    made = ((calls_of w (h.gathers)).jobs).feeds q o.job f

    spent : (k : JobKind) → (w.job o.job).kind ≡ k → is_whole k ≡ true → ⊥
    spent (WholeOf c r) e z = let a : Made q ≡ Spent = sym made ∙ (h.gathers).spent o.job c r (s.made) e in cc
    spent _ e z = cc

    whole : (b : Bool) → is_whole (w.job o.job).kind ≡ b → is_whole (w.job o.job).kind ≡ false
    whole true e = absurd (spent (w.job o.job).kind refl e)
    whole false e = e

gather_unready : (w : World) (q : Party) (g : Gathering) → SetsHold w → SaysGather w q g → 1 ≤ g.pieces.workers → 1 ≤ all_fed g.pieces.first (w.stack q) → IsReady w g.call.number → ⊥
gather_unready w q g h s n f = unready w g.call.number (ap (λ t. is_body (w.job t).kind) ((s.call).target) ∙ ap is_body (s.whole)) (λ e. absurd (let a : sum_below w.jobs (λ t. entry g.call.number (w.job t)) + (one (w.call g.call.number).counted + (w.call g.call.number).undealt) ≡ (w.call g.call.number).count = ((h.gathers).scopes).sums g.call.number in omega (arith, a, undealt, n, e)))
  where
    piece : PieceAs w g.pieces.count g.pieces.first g.pieces.pool (g.pieces.first - g.pieces.first)
    piece = s.pieces g.pieces.first (piece_in g.pieces g.pieces.first (omega arith) (omega (arith, n)))

    kind : (w.job g.pieces.first).kind ≡ PieceOf g.call.number q
    kind = piece.kind ∙ ap count_kind (s.count)

    made : (w.job g.pieces.first).at ≡ Made q
    made = ((calls_of w (h.gathers)).jobs).feeds q g.pieces.first f

    undealt : (w.call g.call.number).undealt ≡ g.pieces.workers
    undealt = ((h.gathers).scopes).fresh g.pieces.first (piece.made) g.call.number q kind (ap is_dealt made) ∙ ap (λ p. (w.shape.pool p).workers) (piece.pool ∙ s.pool) ∙ sym (s.size)

grow_call : (q : Party) (n : Plan) → target_call (act_of q (GrowCall n)) ≡ plan_call n
grow_call (Worker a b) n = refl
grow_call (Caller c) n = refl

scope_call : (q : Party) (o : OpenCall) → target_call (act_of q (GrowScope o)) ≡ o.number
scope_call (Worker a b) o = refl
scope_call (Caller c) o = refl

cast_call : (q : Party) (g : Gathering) → target_call (act_of q (GrowCast g)) ≡ g.call.number
cast_call (Worker a b) g = refl
cast_call (Caller c) g = refl

plan_unready : (w : World) (q : Party) (n : Plan) (fs : List Place) → SetsHold w → w.stack q ≡ record { top = GrowCall n; below = fs } → SaysQueue w q n → waits_for n ≡ true → IsReady w (plan_call n) → ⊥
plan_unready w q (Send o) fs h z s e = open_unready w q o h (s.0) (let a : all_fed o.job (w.stack q) ≡ (one (o.job == o.job) + fed_in o.job fs) = ap (all_fed o.job) z in let b : one (o.job == o.job) ≡ 1 = self_one o.job in omega (arith, a, b))
plan_unready w q (Fork o t) fs h z s e = open_unready w q o h (s.0) (let a : all_fed o.job (w.stack q) ≡ ((one (o.job == t) + one (o.job == o.job)) + fed_in o.job fs) = ap (all_fed o.job) z in let b : one (o.job == o.job) ≡ 1 = self_one o.job in omega (arith, a, b))
plan_unready w q n fs h z s e = cc

grow_unready : (w : World) (q : Party) (x : Place) (fs : List Place) → SetsHold w → w.stack q ≡ record { top = x; below = fs } → grows x ≡ true → IsReady w (target_call (act_of q x)) → ⊥
grow_unready w q (GrowCall n) fs h z g i = plan_unready w q n fs h z (top_says w q (GrowCall n) fs (calls_of w (h.gathers)) z) (ap (λ k. is_fit (k.top)) (sym z) ∙ h.fit q) (subst (IsReady w) (grow_call q n) i)
grow_unready w q (GrowScope o) fs h z g i = open_unready w q o h ((top_says w q (GrowScope o) fs (calls_of w (h.gathers)) z).0) (let a : all_fed o.job (w.stack q) ≡ (one (o.job == o.job) + fed_in o.job fs) = ap (all_fed o.job) z in let b : one (o.job == o.job) ≡ 1 = self_one o.job in omega (arith, a, b)) (subst (IsReady w) (scope_call q o) i)
grow_unready w q (GrowCast g) fs h z v i = gather_unready w q g h (top_says w q (GrowCast g) fs (calls_of w (h.gathers)) z) some (let a : all_fed g.pieces.first (w.stack q) ≡ (one (is_piece g.pieces g.pieces.first) + fed_in g.pieces.first fs) = ap (all_fed g.pieces.first) z in let b : one (is_piece g.pieces g.pieces.first) ≡ 1 = ap one (piece_in g.pieces g.pieces.first (omega arith) (omega (arith, some))) in omega (arith, a, b)) (subst (IsReady w) (cast_call q g) i)
  where
    some : 1 ≤ g.pieces.workers
    some = let a : 0 < g.pieces.workers = ltb-true 0 g.pieces.workers (ap (λ k. is_fit (k.top)) (sym z) ∙ h.fit q) in omega (arith, a)
grow_unready w q x fs h z g i = cc

-- what an act does to each latch
call_stays : (w : World) (q : Party) (x : Place) (fs : List Place) (r : Seen × Part) → SetsHold w → w.stack q ≡ record { top = x; below = fs } → Strikes (place_part w q x) x r → (c : ℕ) → (w.call c).latch ≡ IsSet → ((world_after w q x fs r).call c).latch ≡ IsSet
call_stays w q x fs r h z st c a = by (c == target_call (act_of q x)) refl
  where
    by : (b : Bool) → (c == target_call (act_of q x)) ≡ b → (if b then r.1.call else w.call c).latch ≡ IsSet
    by false y = a
    by true y = let e : (w.call (target_call (act_of q x))).latch ≡ IsSet = ap (λ n. (w.call n).latch) (sym (eqb-true c (target_call (act_of q x)) y)) ∙ a in
        elim (st.call e) [ inl l ↦ l | inr g ↦ absurd (grow_unready w q x fs h z g (((calls_of w (h.gathers)).latches (target_call (act_of q x)) e).1)) ]

seat_stays : (w : World) (q : Party) (x : Place) (fs : List Place) (r : Seen × Part) → Strikes (place_part w q x) x r → (p i : ℕ) → (w.seat p i).latch ≡ IsSet → ((world_after w q x fs r).seat p i).latch ≡ IsSet
seat_stays w q x fs r st p i a = by ((p == target_pool q (act_of q x)) && (i == target_worker q (act_of q x))) refl
  where
    by : (b : Bool) → ((p == target_pool q (act_of q x)) && (i == target_worker q (act_of q x))) ≡ b → (if b then r.1.seat else w.seat p i).latch ≡ IsSet
    by false y = a
    by true y = let j : (p ≡ target_pool q (act_of q x)) × (i ≡ target_worker q (act_of q x)) = same_index p i (target_pool q (act_of q x)) (target_worker q (act_of q x)) y in
        st.seat (ap (λ n. (w.seat (target_pool q (act_of q x)) n).latch) (sym (j.1)) ∙ ap (λ n. (w.seat n i).latch) (sym (j.0)) ∙ a)

call_struck : (w : World) (q : Party) (x : Place) (fs : List Place) (r : Seen × Part) → Strikes (place_part w q x) x r → (p i c : ℕ) → sets p i (OfCall c) (act_of q x) ≡ true → ((world_after w q x fs r).call c).latch ≡ IsSet
call_struck w q x fs r st p i c a = by (c == target_call (act_of q x)) (eq-eqb c (target_call (act_of q x)) (k.target))
  where
    k : CallSet q c x
    k = call_set q p i c x a

    by : (b : Bool) → b ≡ true → (if b then r.1.call else w.call c).latch ≡ IsSet
    by true y = st.calls (k.place)
    by false y = cc

seat_struck : (w : World) (q : Party) (x : Place) (fs : List Place) (r : Seen × Part) → Strikes (place_part w q x) x r → (p i : ℕ) → sets p i Terminate (act_of q x) ≡ true → ((world_after w q x fs r).seat p i).latch ≡ IsSet
seat_struck w q x fs r st p i a = by ((p == target_pool q (act_of q x)) && (i == target_worker q (act_of q x))) (both (eq-eqb p (target_pool q (act_of q x)) (k.pool)) (eq-eqb i (target_worker q (act_of q x)) (k.worker)))
  where
    k : SeatSet q p i x
    k = seat_set q p i x a

    both : (p == target_pool q (act_of q x)) ≡ true → (i == target_worker q (act_of q x)) ≡ true → ((p == target_pool q (act_of q x)) && (i == target_worker q (act_of q x))) ≡ true
    both e f = rw (e, f) refl

    by : (b : Bool) → b ≡ true → (if b then r.1.seat else w.seat p i).latch ≡ IsSet
    by true y = st.seats (k.place)
    by false y = cc

act_so : (w : World) (q : Party) (r : Seen × Part) → SetsHold w → Written (place_part w q (w.stack q).top) (w.stack q).top r → Strikes (place_part w q (w.stack q).top) (w.stack q).top r → (p i : ℕ) (l : Latch) → SetsSo w (result w q (w.stack q) r) (Go q) p i l
act_so w q r h wr st p i (OfCall c) = let x = (w.stack q).top in let fs = (w.stack q).below in record {
  set = λ e. call_struck w q x fs r st p i c e;
  stays = λ e. call_stays w q x fs r h refl st c e;
  by = λ e. elim (set_before w q x fs r wr c e) [ inl a ↦ inl a | inr a ↦ inr (ap (λ n. sets p i (OfCall n) (act_of q x)) (a.0) ∙ sets_call_of q p i x (a.1)) ];
}
act_so w q r h wr st p i Terminate = let x = (w.stack q).top in let fs = (w.stack q).below in record {
  set = λ e. seat_struck w q x fs r st p i e;
  stays = λ e. seat_stays w q x fs r st p i e;
  by = λ e. elim (ended_before w q x fs r wr p i e) [
    | inl a ↦ inl a
    | inr a ↦ inr (ap (λ n. sets n i Terminate (act_of q x)) ((a.0).0) ∙ ap (λ n. sets (target_pool q (act_of q x)) n Terminate (act_of q x)) ((a.0).1) ∙ sets_seat_of q x (a.1))
  ];
}

-- each step does so to each latch
abbrev EachSo : World → Event → World → Type 0
EachSo w e v = (p i : ℕ) (l : Latch) → SetsSo w v e p i l

go_so : (w : World) (q : Party) → SetsHold w → IfSome (outcome w q (w.stack q)) (λ r. EachSo w (Go q) (result w q (w.stack q) r))
go_so w q h =
    let x = (w.stack q).top in let o = outcome w q (w.stack q) in let m = place_part w q x in let c = counts_at w (target_pool q (act_of q x)) in
    if_some_map (λ r. Written m x r × Strikes m x r) (λ r. EachSo w (Go q) (result w q (w.stack q) r)) (λ r f. act_so w q r h (f.0) (f.1)) o
    (if_some_and (Written m x) (Strikes m x) o (act_written w.shape q c m x) (act_strikes w.shape q c m x))

not_by : (w : World) (e : Event) (p i : ℕ) (l : Latch) → is_go e ≡ false → is_set_by w e p i l ≡ false
not_by w (Go q) p i l z = cc
not_by w e p i l z = refl

shift_so : (w u : World) (e : Event) → SetsHold w → Shifts w u → is_go e ≡ false → EachSo w e u
shift_so w u e h m z p i Terminate = record {
  set = λ s. absurd (not_true (is_set_by w e p i Terminate) (not_by w e p i Terminate z) s);
  stays = λ s. ap (λ k. k.latch) (m.seat p i) ∙ s;
  by = λ s. inl (ap (λ k. k.latch) (sym (m.seat p i)) ∙ s);
}
shift_so w u e h m z p i (OfCall c) = record {
  set = λ s. absurd (not_true (is_set_by w e p i (OfCall c)) (not_by w e p i (OfCall c) z) s);
  stays = λ s. m.calls c (((calls_of w (h.gathers)).latches c s).0) ∙ s;
  by = λ s. inl (m.latch c s);
}

step_so : (w : World) (e : Event) → SetsHold w → IfSome (step w e) (EachSo w e)
step_so w (Go q) h = acted_keeps w q (w.stack q) (target_pool q (act_of q ((w.stack q).top))) (target_worker q (act_of q ((w.stack q).top))) (target_call (act_of q ((w.stack q).top))) (job_at w q (act_of q ((w.stack q).top))) (outcome w q (w.stack q)) (EachSo w (Go q)) (go_so w q h)
step_so w e h = if_some_map (Shifts w) (EachSo w e) (λ u m. shift_so w u e h m refl) (step w e) (shift_of w e h refl)

pub sets_law : SetLaw
sets_law h es w v e p i l r s = (let f : IfSome (Some v) (EachSo w e) = subst (λ o. IfSome o (EachSo w e)) s (step_so w e (always_sets h es w r)) in f) p i l
