-- what the events that are no acts leave of a call's place in its party's stack
--
-- Where a call's place stands in its stack after such an event is `Turned`.
use Rattle.rayon_machine_places.specs.declared.place.Pieces.{Pieces}
use Rattle.rayon_machine_orders.proofs.Words.{arith, refl, sym, ◌∙◌, ap, subst, inl, inr, ℕ, Bool, true, false, ◌&&◌, ◌||◌, ◌+◌, ◌==◌, ◌≤◌, nat_lt, Some, None, List, [], ◌∷◌, ◌++◌, ◌≡◌, IfSome, length, ◌⊎◌, if◌then◌else◌, Option, slice_get, eqb-true, eq-eqb, length-append, Party, Worker, Caller}
use Rattle.rayon_machine_orders.proofs.Words.{Ending, Fine, Fault, JobKind, Detached, Stored, Direct, Scoped, TokenOf, BodyOf, PieceOf, WholeOf, Plan, Detach, Here, Send, Fork, Feed, Open, Enter, Gather, OfPool, OfScope, OfCast, PoolValue, OfJob, Resume, Place, PickVictim, StealFrom, YieldPick}
use Rattle.rayon_machine_orders.proofs.Words.{YieldSteal, Run, RaiseCount, GrowCall, PushJob, LowerCount, StoreResult, FirstSide, SecondSide, AtOnce, AddToFifo, PushToken, TakeFromFifo, RaiseForAll, PushForAll, LowerForAll, GrowScope, OpenSlot, StoreSlot, OpenForAll, GrowCast, DealPieces}
use Rattle.rayon_machine_orders.proofs.Words.{StorePiece, Event, From, Refuse, Miss, End, Spawn, Fifo, Install, Join, OpenScope, IntoSpawn, EndPool, Cast, IntoFifo, IntoCast, Broadcast, Over, own_pool, plan_book, count_book, count_kind, is_member, undo, withdraw, end_cast, next_of, next_steal}
use Rattle.rayon_machine_orders.proofs.Words.{next_yield, goes_on, is_free, same_party, Stack, World, at_job, put, put_stack, with_stack, after_choice, after_refusal, can_miss, after_miss, after_resume, after_close, after_end, after_call, is_pool, new_job, new_call, after_spawn, after_send}
use Rattle.rayon_machine_orders.proofs.Words.{after_install, after_join, after_yield, after_end_pool, after_feed, after_fifo, after_cast, after_scope, after_into, after_deal, after_gather, after_broadcast, after_into_cast, after_into_fifo, after_enter, after_enter_fifo, new_gathering, new_whole}
use Rattle.rayon_machine_orders.proofs.Words.{holds, is_piece, new_piece, put_pieces, after_move, is_at_call, is_refusal, Count, Scope, PoolShape, Seen, Refused, Start, one, Job, is_done}
use Rattle.rayon_machine_laws.proofs.Frame.{if_cond, into_cast_cases, put_same, put_old, same_party_refl, stack_mine, piece_old, piece_out}
use Rattle.rayon_machine_orders.proofs.CallPlaces.{Stage, Undone, Withdrawing, is_undone, Part, plan_open, plan_here, steal_part, open_job, here_job, undo_part, withdraw_part}
use Rattle.rayon_machine_orders.proofs.CallActs.{Sofar, or_false, or_true}
use Rattle.rayon_machine_places.specs.declared.act.Seen.TheVariants.{Missing}
use Rattle.rayon_machine_laws.proofs.Amounts.{raises, raises_in, all_raises, gained}
use Rattle.rayon_machine_laws.proofs.ShareRuns.{raises_mine}
use Rattle.rayon_machine_laws.proofs.ShareEnds.{closed_shares}

-- the frames of a stack and its top
abbrev pub whole : Stack → List Place
whole k = k.top ∷ k.below

-- in the stack k a place of the call stands right above the stack s
pub record CallStands (n : Plan) (r : Stage) (s k : Stack) : Type 0 where
  pub above : List Place
  pub place : Place
  pub is : whole k ≡ above ++ (place ∷ whole s)
  pub part : Part n r place

-- so it does after an event, which refused the call its step or did not
pub record Stood (u : World) (n : Plan) (r : Stage) (s k : Stack) (b : Bool) : Type 0 where
  pub stage : Stage
  pub stands : CallStands n stage s k
  pub sofar : Sofar u r n → Sofar u stage n
  pub flag : is_undone stage ≡ (is_undone r || b)
  pub same : b ≡ false → stage ≡ r

-- what an event that is no act changes: its party's stack, and no call or job that was there but for where the job is
pub record Turned (w u : World) (q : Party) (e : Event) : Type 0 where
  pub to : Stack
  pub stack : (r : Party) → u.stack r ≡ put_stack w.stack q to r
  pub sides : (c : ℕ) → c + 1 ≤ w.calls → (c + 1 ≤ u.calls) × ((u.call c).first ≡ (w.call c).first) × ((u.call c).job ≡ (w.call c).job)
  pub counts : (c : ℕ) → c + 1 ≤ w.calls → (u.call c).count ≡ (w.call c).count
  pub made : (t : ℕ) → t + 1 ≤ w.jobs → (t + 1 ≤ u.jobs) × (((u.job t).kind ≡ (w.job t).kind) × ((u.job t).counted ≡ (w.job t).counted) × ((u.job t).bound ≡ (w.job t).bound))
  pub ats : (t : ℕ) → t + 1 ≤ w.jobs → ((u.job t).at ≡ (w.job t).at) ⊎ (is_done (u.job t).at ≡ true)
  pub raises : (t : ℕ) → t + 1 ≤ w.jobs → all_raises t to ≤ all_raises t (w.stack q)
  pub stood : (n : Plan) (r : Stage) (s : Stack) → CallStands n r s (w.stack q) → Stood u n r s to (is_refusal q s w e)
  pub quiet : (r : Party) (s : Stack) → same_party r q ≡ false → is_refusal r s w e ≡ false

-- nothing is refused
same_stood : (u : World) (n : Plan) (r : Stage) (s k : Stack) → CallStands n r s k → Stood u n r s k false
same_stood u n r s k h = record { stage = r; stands = h; sofar = λ z. z; flag = or_false (is_undone r); same = λ z. refl }

-- another top, which is of the call if the old one was
retop : (n : Plan) (r z : Stage) (s : Stack) (x y : Place) (fs above : List Place) (place : Place) → x ∷ fs ≡ above ++ (place ∷ whole s) → Part n r place → r ≡ z → (Part n r x → Part n z y) → CallStands n z s (record { top = y; below = fs })
retop n r z s x y fs [] place e p i f = record { above = []; place = y; is = (let a : fs ≡ whole s = cc in ap (λ v. y ∷ v) a); part = f (let a : x ≡ place = cc in subst (λ v. Part n r v) (sym a) p) }
retop n r z s x y fs (a ∷ gs) place e p i f = record { above = y ∷ gs; place = place; is = (let b : fs ≡ gs ++ (place ∷ whole s) = cc in ap (λ v. y ∷ v) b); part = subst (λ v. Part n v place) i p }

topped : (n : Plan) (r : Stage) (s k : Stack) (x y : Place) (fs : List Place) → k ≡ record { top = x; below = fs } → (Part n r x → Part n r y) → CallStands n r s k → CallStands n r s (record { top = y; below = fs })
topped n r s k x y fs z f h = retop n r r s x y fs h.above h.place (ap whole (sym z) ∙ h.is) h.part refl f

-- a place above it all
called : (n : Plan) (r : Stage) (s k : Stack) (y : Place) → CallStands n r s k → CallStands n r s (after_call k y)
called n r s k y h = record { above = y ∷ h.above; place = h.place; is = ap (λ v. y ∷ v) h.is; part = h.part }

-- numbers that are given out have what they had
old_at : {A : Type 0} (f : ℕ → A) (k : ℕ) (v : A) (c : ℕ) → c + 1 ≤ k → put f k v c ≡ f c
old_at f k v c l = put_old f k v c (apart (c == k) refl)
  where
    apart : (b : Bool) → (c == k) ≡ b → (c == k) ≡ false
    apart true e = absurd (let i : c ≡ k = eqb-true c k e in omega (arith, i, l))
    apart false e = e

-- a move leads to no raise
moved_raises : (w : World) (q : Party) (x : Place) (fs : List Place) (g : PoolShape) (e : Seen) (t : ℕ) → w.stack q ≡ record { top = x; below = fs } → all_raises t (after_move (next_of g q x e) fs) ≤ all_raises t (w.stack q)
moved_raises w q x fs g e t z =
    let a : all_raises t (put_stack w.stack q (after_move (next_of g q x e) fs) q) + gained t x e ≤ all_raises t (w.stack q) = raises_mine w q x fs g e t z in
    let b : all_raises t (put_stack w.stack q (after_move (next_of g q x e) fs) q) ≡ all_raises t (after_move (next_of g q x e) fs) = ap (all_raises t) (stack_mine w.stack q (after_move (next_of g q x e) fs)) in omega (arith, a, b)

pub from_turned : (w : World) (q : Party) (x : Place) (fs : List Place) (v : ℕ) → w.stack q ≡ record { top = x; below = fs } → IfSome (after_choice w q (record { top = x; below = fs }) x v) (λ u. Turned w u q (From q v))
from_turned w q (PickVictim k) fs v z = if_cond (λ u. Turned w u q (From q v)) (nat_lt v (w.shape.pool (own_pool q)).workers) _
    (λ b. record {
      to = _;
      stack = λ r. refl;
      sides = λ c l. (l, refl, refl);
      counts = λ c l. refl;
      made = λ t l. (l, (refl, refl, refl));
      ats = λ t l. inl refl;
      raises = λ t l. moved_raises w q (PickVictim k) fs (w.shape.pool (own_pool q)) (Start v) t z;
      stood = λ n r s h. same_stood _ n r s _
          (topped n r s (w.stack q) (PickVictim k) _ fs z (λ y. y) h);
      quiet = λ r s d. refl;
    })
from_turned w q YieldPick fs v z = if_cond (λ u. Turned w u q (From q v)) (nat_lt v (w.shape.pool (own_pool q)).workers) _
    (λ b. record {
      to = _;
      stack = λ r. refl;
      sides = λ c l. (l, refl, refl);
      counts = λ c l. refl;
      made = λ t l. (l, (refl, refl, refl));
      ats = λ t l. inl refl;
      raises = λ t l. moved_raises w q YieldPick fs (w.shape.pool (own_pool q)) (Start v) t z;
      stood = λ n r s h. same_stood _ n r s _
          (topped n r s (w.stack q) YieldPick _ fs z (λ y. absurd y) h);
      quiet = λ r s d. refl;
    })
from_turned w q _ fs v z = tt

pub miss_turned : (w : World) (q : Party) (x : Place) (fs : List Place) → w.stack q ≡ record { top = x; below = fs } → IfSome (after_miss w q (record { top = x; below = fs }) x) (λ u. Turned w u q (Miss q))
miss_turned w (Worker a b) (StealFrom k m) fs z = if_cond (λ u. Turned w u (Worker a b) (Miss (Worker a b))) (can_miss w a k.victim) _
    (λ y. record {
      to = _;
      stack = λ r. refl;
      sides = λ c l. (l, refl, refl);
      counts = λ c l. refl;
      made = λ t l. (l, (refl, refl, refl));
      ats = λ t l. inl refl;
      raises = λ t l. moved_raises w (Worker a b) (StealFrom k m) fs (w.shape.pool a) Missing t z;
      stood = λ n r s h. same_stood _ n r s _
          (topped n r s (w.stack (Worker a b)) (StealFrom k m) (next_steal (w.shape.pool a) (Worker a b) k m) fs z (λ y. steal_part n r (w.shape.pool a) (Worker a b) k m y) h);
      quiet = λ r s d. refl;
    })
miss_turned w (Worker a b) (YieldSteal v m) fs z = if_cond (λ u. Turned w u (Worker a b) (Miss (Worker a b))) (can_miss w a v) _
    (λ y. record {
      to = _;
      stack = λ r. refl;
      sides = λ c l. (l, refl, refl);
      counts = λ c l. refl;
      made = λ t l. (l, (refl, refl, refl));
      ats = λ t l. inl refl;
      raises = λ t l. moved_raises w (Worker a b) (YieldSteal v m) fs (w.shape.pool a) Missing t z;
      stood = λ n r s h. same_stood _ n r s _
          (topped n r s (w.stack (Worker a b)) (YieldSteal v m) (next_yield (w.shape.pool a) (Worker a b) v m) fs z (λ y. absurd y) h);
      quiet = λ r s d. refl;
    })
miss_turned w _ _ fs z = tt

-- the call's own step, or one inside it
pub at_call_yes : (s k : Stack) → k.below ≡ whole s → is_at_call s k ≡ true
at_call_yes s k e = eq-eqb (length k.below) (length s.below + 1) (let a : length k.below ≡ length (whole s) = ap length e in omega (arith, a))

pub at_call_no : (s k : Stack) (gs : List Place) (p : Place) → k.below ≡ gs ++ (p ∷ whole s) → is_at_call s k ≡ false
at_call_no s k gs p e = apart (is_at_call s k) refl
  where
    apart : (b : Bool) → is_at_call s k ≡ b → is_at_call s k ≡ false
    apart true z = absurd (let i : length k.below ≡ length s.below + 1 = eqb-true (length k.below) (length s.below + 1) z in let a : length k.below ≡ length (gs ++ (p ∷ whole s)) = ap length e in
        let b : length (gs ++ (p ∷ whole s)) ≡ length gs + length (p ∷ whole s) = length-append gs (p ∷ whole s) in omega (arith, a, b, i))
    apart false z = z

-- a refused act of the call, or of what runs inside it
refused_at : (w u : World) (q : Party) (x y : Place) (fs : List Place) (n : Plan) (r v : Stage) (s : Stack) (above : List Place) (place : Place) → w.stack q ≡ record { top = x; below = fs } → is_undone v ≡ true → Sofar u v n → (Part n r x → Part n v y) → x ∷ fs ≡ above ++ (place ∷ whole s)
    → Part n r place → Stood u n r s (record { top = y; below = fs }) (same_party q q && is_at_call s (w.stack q))
refused_at w u q x y fs n r v s [] place z i o f e p = record {
  stage = v;
  stands = record { above = []; place = y; is = (let a : fs ≡ whole s = cc in ap (λ l. y ∷ l) a); part = f (let a : x ≡ place = cc in subst (λ l. Part n r l) (sym a) p) };
  sofar = λ k. o;
  flag = i ∙ or_true (is_undone r) ∙ ap (λ l. is_undone r || l) (sym (let a : same_party q q ≡ true = same_party_refl q in let b : fs ≡ whole s = cc in let d : is_at_call s (w.stack q) ≡ true = at_call_yes s (w.stack q) (ap (λ k. k.below) z ∙ b) in rw a d));
  same = λ m. absurd (let a : same_party q q ≡ true = same_party_refl q in let b : fs ≡ whole s = cc in let d : is_at_call s (w.stack q) ≡ true = at_call_yes s (w.stack q) (ap (λ k. k.below) z ∙ b) in
      let c : (same_party q q && is_at_call s (w.stack q)) ≡ true = rw a d in let j : true ≡ false = sym c ∙ m in cc);
}
refused_at w u q x y fs n r v s (a ∷ gs) place z i o f e p = record {
  stage = r;
  stands = record { above = y ∷ gs; place = place; is = (let b : fs ≡ gs ++ (place ∷ whole s) = cc in ap (λ l. y ∷ l) b); part = p };
  sofar = λ k. k;
  flag = or_false (is_undone r) ∙ ap (λ l. is_undone r || l) (sym (let a : same_party q q ≡ true = same_party_refl q in let b : fs ≡ gs ++ (place ∷ whole s) = cc in let d : is_at_call s (w.stack q) ≡ false = at_call_no s (w.stack q) gs place (ap (λ k. k.below) z ∙ b) in rw a d));
  same = λ m. refl;
}

-- a refused act that is no step of such a call: of a broadcast
kept_above : (w u : World) (q : Party) (x y : Place) (fs : List Place) (n : Plan) (r : Stage) (s : Stack) (above : List Place) (place : Place) → w.stack q ≡ record { top = x; below = fs } → (Part n r x → ⊥) → x ∷ fs ≡ above ++ (place ∷ whole s) → Part n r place
    → Stood u n r s (record { top = y; below = fs }) (same_party q q && is_at_call s (w.stack q))
kept_above w u q x y fs n r s [] place z f e p = absurd (f (let a : x ≡ place = cc in subst (λ v. Part n r v) (sym a) p))
kept_above w u q x y fs n r s (a ∷ gs) place z f e p = record {
  stage = r;
  stands = record { above = y ∷ gs; place = place; is = (let b : fs ≡ gs ++ (place ∷ whole s) = cc in ap (λ v. y ∷ v) b); part = p };
  sofar = λ y. y;
  flag = or_false (is_undone r) ∙ ap (λ v. is_undone r || v) (sym (let a : same_party q q ≡ true = same_party_refl q in let b : fs ≡ gs ++ (place ∷ whole s) = cc in let d : is_at_call s (w.stack q) ≡ false = at_call_no s (w.stack q) gs place (ap (λ k. k.below) z ∙ b) in rw a d));
  same = λ m. refl;
}

pub refuse_turned : (w : World) (q : Party) (x : Place) (fs : List Place) → w.stack q ≡ record { top = x; below = fs } → IfSome (after_refusal w q (record { top = x; below = fs })) (λ u. Turned w u q (Refuse q))
refuse_turned w q (GrowCall m) fs z = record {
  to = _;
  stack = λ r. refl;
  sides = λ c l. (l, refl, refl);
  counts = λ c l. refl;
  made = λ t l. (l, (refl, refl, refl));
  ats = λ t l. inl refl;
  raises = λ t l. moved_raises w q (GrowCall m) fs (w.shape.pool (own_pool q)) Refused t z;
  stood = λ n r s h. refused_at w
      (with_stack w q (record { top = undo m; below = fs })) q (GrowCall m) (undo m) fs n r Undone s h.above h.place z refl tt (λ y. undo_part n m (y.0)) (ap whole (sym z) ∙ h.is) h.part;
  quiet = λ r s d. ap (λ v. v && is_at_call s (w.stack r)) d;
}
refuse_turned w q (GrowScope o) fs z = record {
  to = _;
  stack = λ r. refl;
  sides = λ c l. (l, refl, refl);
  counts = λ c l. refl;
  made = λ t l. (l, (refl, refl, refl));
  ats = λ t l. inl refl;
  raises = λ t l. moved_raises w q (GrowScope o) fs (w.shape.pool (own_pool q)) Refused t z;
  stood = λ n r s h. refused_at w
      (with_stack w q (record { top = undo (Open o); below = fs })) q (GrowScope o) (undo (Open o)) fs n r Undone s h.above h.place z refl tt (λ y. undo_part n (Open o) (sym (y.0))) (ap whole (sym z) ∙ h.is) h.part;
  quiet = λ r s d. ap (λ v. v && is_at_call s (w.stack r)) d;
}
refuse_turned w q (GrowCast g) fs z = record {
  to = _;
  stack = λ r. refl;
  sides = λ c l. (l, refl, refl);
  counts = λ c l. refl;
  made = λ t l. (l, (refl, refl, refl));
  ats = λ t l. inl refl;
  raises = λ t l. moved_raises w q (GrowCast g) fs (w.shape.pool (own_pool q)) Refused t z;
  stood = λ n r s h. refused_at w
      (with_stack w q (record { top = undo (Gather g); below = fs })) q (GrowCast g) (undo (Gather g)) fs n r Undone s h.above h.place z refl tt (λ y. undo_part n (Gather g) (sym (y.0))) (ap whole (sym z) ∙ h.is) h.part;
  quiet = λ r s d. ap (λ v. v && is_at_call s (w.stack r)) d;
}
refuse_turned w q (DealPieces g) fs z = record {
  to = _;
  stack = λ r. refl;
  sides = λ c l. (l, refl, refl);
  counts = λ c l. refl;
  made = λ t l. (l, (refl, refl, refl));
  ats = λ t l. inl refl;
  raises = λ t l. moved_raises w q (DealPieces g) fs (w.shape.pool (own_pool q)) Refused t z;
  stood = λ n r s h. refused_at w
      (with_stack w q (record { top = undo (Gather g); below = fs })) q (DealPieces g) (undo (Gather g)) fs n r Undone s h.above h.place z refl tt (λ y. undo_part n (Gather g) (sym (y.0))) (ap whole (sym z) ∙ h.is) h.part;
  quiet = λ r s d. ap (λ v. v && is_at_call s (w.stack r)) d;
}
refuse_turned w q (OpenSlot m) fs z = record {
  to = _;
  stack = λ r. refl;
  sides = λ c l. (l, refl, refl);
  counts = λ c l. refl;
  made = λ t l. (l, (refl, refl, refl));
  ats = λ t l. inl refl;
  raises = λ t l. moved_raises w q (OpenSlot m) fs (w.shape.pool (own_pool q)) Refused t z;
  stood = λ n r s h. refused_at w
      (with_stack w q (record { top = undo m; below = fs })) q (OpenSlot m) (undo m) fs n r Undone s h.above h.place z refl tt (λ y. undo_part n m (y.0)) (ap whole (sym z) ∙ h.is) h.part;
  quiet = λ r s d. ap (λ v. v && is_at_call s (w.stack r)) d;
}
refuse_turned w q (PushJob m v) fs z = record {
  to = _;
  stack = λ r. refl;
  sides = λ c l. (l, refl, refl);
  counts = λ c l. refl;
  made = λ t l. (l, (refl, refl, refl));
  ats = λ t l. inl refl;
  raises = λ t l. moved_raises w q (PushJob m v) fs (w.shape.pool (own_pool q)) Refused t z;
  stood = λ n r s h. refused_at w
      (with_stack w q (record { top = withdraw (plan_book m) m; below = fs })) q (PushJob m v) (withdraw (plan_book m) m) fs n r Undone s h.above h.place z refl tt (λ y. withdraw_part n m (plan_book m) (y.0)) (ap whole (sym z) ∙ h.is) h.part;
  quiet = λ r s d. ap
      (λ v. v && is_at_call s (w.stack r)) d;
}
refuse_turned w q (AddToFifo f) fs z = record {
  to = _;
  stack = λ r. refl;
  sides = λ c l. (l, refl, refl);
  counts = λ c l. refl;
  made = λ t l. (l, (refl, refl, refl));
  ats = λ t l. inl refl;
  raises = λ t l. moved_raises w q (AddToFifo f) fs (w.shape.pool (own_pool q)) Refused t z;
  stood = λ n r s h. refused_at w
      (with_stack w q (record { top = withdraw (count_book f.count) (Feed f); below = fs })) q (AddToFifo f) (withdraw (count_book f.count) (Feed f)) fs n r Undone s h.above h.place z refl tt (λ y. withdraw_part n (Feed f) (count_book f.count) (sym (y.0)))
      (ap whole (sym z) ∙ h.is) h.part;
  quiet = λ r s d. ap (λ v. v && is_at_call s (w.stack r)) d;
}
refuse_turned w q (PushToken f v) fs z = record {
  to = _;
  stack = λ r. refl;
  sides = λ c l. (l, refl, refl);
  counts = λ c l. refl;
  made = λ t l. (l, (refl, refl, refl));
  ats = λ t l. inl refl;
  raises = λ t l. moved_raises w q (PushToken f v) fs (w.shape.pool (own_pool q)) Refused t z;
  stood = λ n r s h. refused_at w
      (with_stack w q (record { top = TakeFromFifo f; below = fs })) q (PushToken f v) (TakeFromFifo f) fs n r Withdrawing s h.above h.place z refl tt (λ y. (y.0, refl)) (ap whole (sym z) ∙ h.is) h.part;
  quiet = λ r s d. ap (λ v. v && is_at_call s (w.stack r)) d;
}
refuse_turned w q (PushForAll c) fs z = record {
  to = _;
  stack = λ r. refl;
  sides = λ c l. (l, refl, refl);
  counts = λ c l. refl;
  made = λ t l. (l, (refl, refl, refl));
  ats = λ t l. inl refl;
  raises = λ t l. moved_raises w q (PushForAll c) fs (w.shape.pool (own_pool q)) Refused t z;
  stood = λ n r s h. kept_above w
      (with_stack w q (record { top = end_cast c.count c; below = fs })) q (PushForAll c) (end_cast c.count c) fs n r s h.above h.place z (λ y. y) (ap whole (sym z) ∙ h.is) h.part;
  quiet = λ r s d. ap (λ v. v && is_at_call s (w.stack r)) d;
}
refuse_turned w q (OpenForAll c) fs z = record {
  to = _;
  stack = λ r. refl;
  sides = λ c l. (l, refl, refl);
  counts = λ c l. refl;
  made = λ t l. (l, (refl, refl, refl));
  ats = λ t l. inl refl;
  raises = λ t l. moved_raises w q (OpenForAll c) fs (w.shape.pool (own_pool q)) Refused t z;
  stood = λ n r s h. kept_above w
      (with_stack w q (record { top = LowerForAll c; below = fs })) q (OpenForAll c) (LowerForAll c) fs n r s h.above h.place z (λ y. y) (ap whole (sym z) ∙ h.is) h.part;
  quiet = λ r s d. ap (λ v. v && is_at_call s (w.stack r)) d;
}
refuse_turned w q _ fs z = tt

-- the end of a run
goes_on_part : (n : Plan) (r : Stage) (f : Place) (e : Ending) → Part n r f → Part n r (goes_on f e)
goes_on_part n r (FirstSide o a) Fine y = (ap plan_open (y.0), y.1)
goes_on_part n r (FirstSide o a) Fault y = (ap plan_open (y.0), y.1)
goes_on_part n r (SecondSide o) e y = (open_job n o (y.0), y)
goes_on_part n r (AtOnce p t) e y = (here_job n t (ap plan_here (y.0)), (ap plan_here (y.0), y.1))
goes_on_part n r f e y = y

resumed : (n : Plan) (r : Stage) (s : Stack) (e : Ending) (fs gs : List Place) (place : Place) → fs ≡ gs ++ (place ∷ whole s) → Part n r place → CallStands n r s (after_resume fs e)
resumed n r s e [] [] place z p = absurd (cc)
resumed n r s e [] (a ∷ gs) place z p = absurd (cc)
resumed n r s e (f ∷ fs) [] place z p = record { above = []; place = goes_on f e; is = (let a : fs ≡ whole s = cc in ap (λ v. goes_on f e ∷ v) a); part = goes_on_part n r f e (let a : f ≡ place = cc in subst (λ v. Part n r v) (sym a) p) }
resumed n r s e (f ∷ fs) (a ∷ gs) place z p = record { above = goes_on f e ∷ gs; place = place; is = (let b : fs ≡ gs ++ (place ∷ whole s) = cc in ap (λ v. goes_on f e ∷ v) b); part = p }

closed : (n : Plan) (r : Stage) (s : Stack) (t : ℕ) (k : JobKind) (e : Ending) (fs gs : List Place) (place : Place) → fs ≡ gs ++ (place ∷ whole s) → Part n r place → CallStands n r s (after_close t k e fs)
closed n r s t (Detached p) e fs gs place z y = record { above = LowerCount (OfPool p) (OfJob t) Resume ∷ gs; place = place; is = ap (λ v. LowerCount (OfPool p) (OfJob t) Resume ∷ v) z; part = y }
closed n r s t (Scoped c o) e fs gs place z y = record { above = StoreSlot c o t e ∷ gs; place = place; is = ap (λ v. StoreSlot c o t e ∷ v) z; part = y }
closed n r s t (Stored c o) e fs gs place z y = record { above = StoreResult c o e ∷ gs; place = place; is = ap (λ v. StoreResult c o e ∷ v) z; part = y }
closed n r s t (PieceOf c o) e fs gs place z y = record { above = StorePiece c o t e ∷ gs; place = place; is = ap (λ v. StorePiece c o t e ∷ v) z; part = y }
closed n r s t _ e fs gs place z y = resumed n r s e fs gs place z y

ended : (n : Plan) (r : Stage) (s : Stack) (t : ℕ) (k : JobKind) (e : Ending) (fs above : List Place) (place : Place) → Run t k ∷ fs ≡ above ++ (place ∷ whole s) → Part n r place → CallStands n r s (after_close t k e fs)
ended n r s t k e fs [] place z y = absurd (let a : Run t k ≡ place = cc in let b : Part n r (Run t k) = subst (λ v. Part n r v) (sym a) y in b)
ended n r s t k e fs (a ∷ gs) place z y = closed n r s t k e fs gs place (let b : fs ≡ gs ++ (place ∷ whole s) = cc in b) y

pub end_turned : (w : World) (q : Party) (d : Ending) (x : Place) (fs : List Place) → w.stack q ≡ record { top = x; below = fs } → IfSome (after_end w q d (record { top = x; below = fs }) x) (λ u. Turned w u q (End q d))
end_turned w q d (Run t k) fs z = record {
  to = after_close t k d fs;
  stack = λ r. refl;
  sides = λ c l. (l, refl, refl);
  counts = λ c l. refl;
  made = λ i l. (l, (put_same (λ j. j.kind) w.job t (at_job (w.job t) (Over d)) i refl, put_same (λ j. j.counted) w.job t (at_job (w.job t) (Over d)) i refl, put_same (λ j. j.bound) w.job t (at_job (w.job t) (Over d)) i refl));
  ats = λ i l. by i (i == t);
  raises = λ i l. (let a : all_raises i (after_close t k d fs) ≡ raises_in i fs = (closed_shares i t k d fs).2 in let b : all_raises i (w.stack q) ≡ (0 + raises_in i fs) = ap (all_raises i) z in omega (arith, a, b));
  stood = λ n r s h. same_stood _ n r s (after_close t k d fs) (ended n r s t k d fs h.above h.place (ap whole (sym z) ∙ h.is) h.part);
  quiet = λ r s e. refl;
}
  where
    by : (i : ℕ) (b : Bool) → ((if b then at_job (w.job t) (Over d) else w.job i).at ≡ (w.job i).at) ⊎ (is_done (if b then at_job (w.job t) (Over d) else w.job i).at ≡ true)
    by i true = inr refl
    by i false = inl refl
end_turned w q d _ fs z = tt

-- an event by which a call begins refuses nothing
abbrev pub Refuses : World → Event → Type 0
Refuses w e = (r : Party) (s : Stack) → is_refusal r s w e ≡ false

-- a call begins above what its party did, and changes no call and no job that was there
called_turned : (w u : World) (q : Party) (e : Event) (x : Place) → Refuses w e → ((r : Party) → u.stack r ≡ put_stack w.stack q (after_call (w.stack q) x) r) → w.calls ≤ u.calls → w.jobs ≤ u.jobs → ((c : ℕ) → c + 1 ≤ w.calls → u.call c ≡ w.call c)
    → ((t : ℕ) → t + 1 ≤ w.jobs → u.job t ≡ w.job t) → ((t : ℕ) → t + 1 ≤ w.jobs → raises t x ≤ 0) → Turned w u q e
called_turned w u q e x f st cs js call job none = record {
  to = after_call (w.stack q) x;
  stack = st;
  sides = λ c l. ((omega (arith, l, cs)), ap (λ k. k.first) (call c l), ap (λ k. k.job) (call c l));
  counts = λ c l. ap (λ k. k.count) (call c l);
  made = λ t l. ((omega (arith, l, js)), (ap (λ j. j.kind) (job t l), ap (λ j. j.counted) (job t l), ap (λ j. j.bound) (job t l)));
  ats = λ t l. inl (ap (λ j. j.at) (job t l));
  raises = λ t l. (let a : raises t x ≤ 0 = none t l in omega (arith, a));
  stood = λ n r s h. subst (λ v. Stood u n r s (after_call (w.stack q) x) v) (sym (f q s)) (same_stood u n r s (after_call (w.stack q) x) (called n r s (w.stack q) x h));
  quiet = λ r s d. f r s;
}

-- a number that is given out is not the new one
not_new : (t n k : ℕ) → t + 1 ≤ n → n ≤ k → one (t == k) ≤ 0
not_new t n k l m = by (t == k) refl
  where
    by : (b : Bool) → (t == k) ≡ b → one b ≤ 0
    by true e = absurd (let i : t ≡ k = eqb-true t k e in omega (arith, i, l, m))
    by false e = omega arith

-- nor one of the new pieces
not_cast : (c : Pieces) (t n : ℕ) → t + 1 ≤ n → n ≤ c.first → is_piece c t ≡ false
not_cast c t n l m = piece_out c t (omega (arith, l, m))

no_piece : (c : Pieces) (t n : ℕ) → t + 1 ≤ n → n ≤ c.first → one (is_piece c t) ≤ 0
no_piece c t n l m = let a : one (is_piece c t) ≡ 0 = ap one (not_cast c t n l m) in omega (arith, a)

spawned : (w : World) (q : Party) (p : ℕ) (e : Event) → Refuses w e → IfSome (after_spawn w q p (w.stack q)) (λ u. Turned w u q e)
spawned w q p e f = if_cond (λ u. Turned w u q e) (is_free ((w.stack q).top) && is_pool w.shape p) _
    (λ b. called_turned w _ q e (RaiseCount (Detach p w.jobs)) f (λ r. refl) (omega arith) (omega arith) (λ c l. refl) (λ t l. old_at w.job w.jobs (new_job q p (Detached p)) t l) (λ t l. (let a : one (t == w.jobs) ≤ 0 = not_new t w.jobs w.jobs l (omega arith) in omega (arith, a))))

pub spawn_turned : (w : World) (q : Party) (p : ℕ) → IfSome (after_spawn w q p (w.stack q)) (λ u. Turned w u q (Spawn q p))
spawn_turned w q p = spawned w q p (Spawn q p) (λ r s. refl)

-- a broadcast that waits for nothing
dealt_turned : (w : World) (q : Party) (k : Count) (p : ℕ) (e : Event) → Refuses w e → Turned w (after_deal w q k p (w.stack q)) q e
dealt_turned w q k p e f = called_turned w (after_deal w q k p (w.stack q)) q e (RaiseForAll c) f (λ r. refl) (omega arith) (omega arith) (λ i l. refl) (λ t l. piece_old c (λ i j. new_piece q k p i) w.job t (not_cast c t w.jobs l (omega arith))) (λ t l. no_piece c t w.jobs l (omega arith))
  where
    c : Pieces
    c = record { count = k; pool = p; first = w.jobs; workers = (w.shape.pool p).workers }

pub cast_turned : (w : World) (q : Party) (p : ℕ) → IfSome (after_cast w q p (w.stack q)) (λ u. Turned w u q (Cast q p))
cast_turned w q p = if_cond (λ u. Turned w u q (Cast q p)) (is_free ((w.stack q).top) && is_pool w.shape p) _ (λ b. dealt_turned w q (OfPool p) p (Cast q p) (λ r s. refl))

pub into_cast_turned : (w : World) (q : Party) (n : ℕ) → IfSome (after_into_cast w q n (w.stack q)) (λ u. Turned w u q (IntoCast q n))
into_cast_turned w q n = into_cast_cases (λ u. Turned w u q (IntoCast q n)) w q n (λ z e free held. dealt_turned w q (OfScope z.call z.owner) z.pool (IntoCast q n) (λ r s. refl))

-- a broadcast that waits
pub gather_turned : (w : World) (q : Party) (p : ℕ) → IfSome (after_broadcast w q p (w.stack q)) (λ u. Turned w u q (Broadcast q p))
gather_turned w q p = if_cond (λ u. Turned w u q (Broadcast q p)) (is_free ((w.stack q).top) && is_pool w.shape p) _
    (λ b. called_turned w (after_gather w q p (w.stack q)) q (Broadcast q p) (RaiseCount (Gather (record { call = record { number = w.calls; pool = p; job = w.jobs + c.workers }; pieces = c }))) (λ r s. refl) (λ r. refl) (omega arith) (omega arith)
    (λ i l. old_at w.call w.calls (new_gathering c.workers (w.jobs + c.workers)) i l)
    (λ t l. old_at dealt (w.jobs + c.workers) (new_whole q p w.calls) t (omega (arith, l)) ∙ piece_old c (λ i j. new_piece q c.count p i) w.job t (not_cast c t w.jobs l (omega arith)))
    (λ t l. (let a : one (t == (w.jobs + c.workers)) ≤ 0 = not_new t w.jobs (w.jobs + c.workers) l (omega arith) in let d : one (is_piece c t) ≤ 0 = no_piece c t w.jobs l (omega arith) in omega (arith, a, d))))
  where
    c : Pieces
    c = record { count = OfCast w.calls q; pool = p; first = w.jobs; workers = (w.shape.pool p).workers }

    dealt : ℕ → Job
    dealt = put_pieces c (λ i j. new_piece q c.count p i) w.job

-- two jobs are new
two_at : (w : World) (j k : Job) (t : ℕ) → t + 1 ≤ w.jobs → put (put w.job w.jobs j) (w.jobs + 1) k t ≡ w.job t
two_at w j k t l = old_at (put w.job w.jobs j) (w.jobs + 1) k t (omega (arith, l)) ∙ old_at w.job w.jobs j t l

fed_turned : (w : World) (k : Count) (p i : ℕ) (e : Event) → Refuses w e → Turned w (after_feed w k p i (w.stack (Worker p i))) (Worker p i) e
fed_turned w k p i e f = called_turned w (after_feed w k p i (w.stack (Worker p i))) (Worker p i) e (RaiseCount (Feed (record { count = k; pool = p; job = w.jobs; token = w.jobs + 1 }))) f (λ r. refl) (omega arith) (omega arith) (λ c l. refl)
    (λ t l. two_at w (new_job (Worker p i) p (count_kind k)) (new_job (Worker p i) p (TokenOf i (count_book k))) t l) (λ t l. (let a : one (t == w.jobs) ≤ 0 = not_new t w.jobs w.jobs l (omega arith) in omega (arith, a)))

pub fifo_turned : (w : World) (q : Party) (p : ℕ) → IfSome (after_fifo w q p (w.stack q)) (λ u. Turned w u q (Fifo q p))
fifo_turned w (Caller c) p = spawned w (Caller c) p (Fifo (Caller c) p) (λ r s. refl)
fifo_turned w (Worker r i) p = by (r == p) refl
  where
    by : (z : Bool) → (r == p) ≡ z → IfSome (if z then (if is_free ((w.stack (Worker r i)).top) && is_pool w.shape p then Some (after_feed w (OfPool p) p i (w.stack (Worker r i))) else None) else after_spawn w (Worker r i) p (w.stack (Worker r i)))
        (λ u. Turned w u (Worker r i) (Fifo (Worker r i) p))
    by true z = subst (λ n. IfSome (if is_free ((w.stack (Worker n i)).top) && is_pool w.shape p then Some (after_feed w (OfPool p) p i (w.stack (Worker n i))) else None) (λ u. Turned w u (Worker n i) (Fifo (Worker n i) p))) (sym (eqb-true r p z))
        (if_cond (λ u. Turned w u (Worker p i) (Fifo (Worker p i) p)) (is_free ((w.stack (Worker p i)).top) && is_pool w.shape p) _ (λ b. fed_turned w (OfPool p) p i (Fifo (Worker p i) p) (λ k s. refl)))
    by false z = spawned w (Worker r i) p (Fifo (Worker r i) p) (λ k s. refl)

-- one or two jobs and a call are new
sent_turned : (w : World) (q : Party) (p : ℕ) (b : Bool) → Turned w (after_send w q p (w.stack q) b) q (Install q p)
sent_turned w q p true = called_turned w (after_send w q p (w.stack q) true) q (Install q p) (RaiseCount (Here p w.jobs)) (λ r s. refl) (λ r. refl) (omega arith) (omega arith) (λ c l. refl) (λ t l. old_at w.job w.jobs (new_job q p Direct) t l)
    (λ t l. (let a : one (t == w.jobs) ≤ 0 = not_new t w.jobs w.jobs l (omega arith) in omega (arith, a)))
sent_turned w q p false = called_turned w (after_send w q p (w.stack q) false) q (Install q p) (RaiseCount (Send (record { number = w.calls; pool = p; job = w.jobs }))) (λ r s. refl) (λ r. refl) (omega arith) (omega arith) (λ c l. old_at w.call w.calls (new_call None w.jobs) c l)
    (λ t l. old_at w.job w.jobs (new_job q p (Stored w.calls q)) t l) (λ t l. (let a : one (t == w.jobs) ≤ 0 = not_new t w.jobs w.jobs l (omega arith) in omega (arith, a)))

pub install_turned : (w : World) (q : Party) (p : ℕ) → IfSome (after_install w q p (w.stack q)) (λ u. Turned w u q (Install q p))
install_turned w q p = if_cond (λ u. Turned w u q (Install q p)) (is_free ((w.stack q).top) && is_pool w.shape p) _ (λ b. sent_turned w q p (is_member q p))

pub scope_turned : (w : World) (q : Party) (p : ℕ) → IfSome (after_scope w q p (w.stack q)) (λ u. Turned w u q (OpenScope q p))
scope_turned w q p = if_cond (λ u. Turned w u q (OpenScope q p)) (is_free ((w.stack q).top) && is_pool w.shape p) _
    (λ b. called_turned w _ q (OpenScope q p) (RaiseCount (Open (record { number = w.calls; pool = p; job = w.jobs }))) (λ r s. refl) (λ r. refl) (omega arith) (omega arith) (λ c l. old_at w.call w.calls (new_call None w.jobs) c l)
    (λ t l. old_at w.job w.jobs (new_job q p (BodyOf w.calls q)) t l) (λ t l. (let a : one (t == w.jobs) ≤ 0 = not_new t w.jobs w.jobs l (omega arith) in omega (arith, a))))

-- a spawn into a scope
entered : (w : World) (q : Party) (z : Scope) (e : Event) → Refuses w e → IfSome (after_enter w q (w.stack q) (Some z)) (λ u. Turned w u q e)
entered w q z e f = if_cond (λ u. Turned w u q e) (is_free ((w.stack q).top) && holds z.call (w.stack q)) _
    (λ b. called_turned w _ q e (RaiseCount (Enter (record { call = z.call; owner = z.owner; pool = z.pool; job = w.jobs }))) f (λ r. refl) (omega arith) (omega arith) (λ c l. refl) (λ t l. old_at w.job w.jobs (new_job q z.pool (Scoped z.call z.owner)) t l)
    (λ t l. (let a : one (t == w.jobs) ≤ 0 = not_new t w.jobs w.jobs l (omega arith) in omega (arith, a))))

pub into_turned : (w : World) (q : Party) (i : ℕ) → IfSome (after_into w q i (w.stack q)) (λ u. Turned w u q (IntoSpawn q i))
into_turned w q i = by (slice_get w.scopes i)
  where
    by : (o : Option Scope) → IfSome (after_enter w q (w.stack q) o) (λ u. Turned w u q (IntoSpawn q i))
    by None = tt
    by (Some z) = entered w q z (IntoSpawn q i) (λ r s. refl)

pub into_fifo_turned : (w : World) (q : Party) (i : ℕ) → IfSome (after_into_fifo w q i (w.stack q)) (λ u. Turned w u q (IntoFifo q i))
into_fifo_turned w q i = by q (slice_get w.scopes i)
  where
    own : (z : Scope) (j r : ℕ) → Option World
    own z j r = if is_free ((w.stack (Worker r j)).top) && holds z.call (w.stack (Worker r j)) then Some (after_feed w (OfScope z.call z.owner) z.pool j (w.stack (Worker r j))) else None

    mine : (z : Scope) (j r : ℕ) (b : Bool) → (r == z.pool) ≡ b → IfSome (if b then own z j r else after_enter w (Worker r j) (w.stack (Worker r j)) (Some z)) (λ u. Turned w u (Worker r j) (IntoFifo (Worker r j) i))
    mine z j r true e = subst (λ k. IfSome (own z j k) (λ u. Turned w u (Worker k j) (IntoFifo (Worker k j) i))) (sym (eqb-true r z.pool e))
        (if_cond (λ u. Turned w u (Worker z.pool j) (IntoFifo (Worker z.pool j) i)) (is_free ((w.stack (Worker z.pool j)).top) && holds z.call (w.stack (Worker z.pool j))) _ (λ b. fed_turned w (OfScope z.call z.owner) z.pool j (IntoFifo (Worker z.pool j) i) (λ k s. refl)))
    mine z j r false e = entered w (Worker r j) z (IntoFifo (Worker r j) i) (λ k s. refl)

    by : (q : Party) (o : Option Scope) → IfSome (after_enter_fifo w q (w.stack q) o) (λ u. Turned w u q (IntoFifo q i))
    by q None = tt
    by (Caller c) (Some z) = entered w (Caller c) z (IntoFifo (Caller c) i) (λ k s. refl)
    by (Worker r j) (Some z) = mine z j r (r == z.pool) refl

pub join_turned : (w : World) (q : Party) → IfSome (after_join w q (w.stack q)) (λ u. Turned w u q (Join q))
join_turned w (Worker p i) = if_cond (λ u. Turned w u (Worker p i) (Join (Worker p i))) (is_free ((w.stack (Worker p i)).top)) _
    (λ b. called_turned w _ (Worker p i) (Join (Worker p i)) (RaiseCount (Fork (record { number = w.calls; pool = p; job = w.jobs + 1 }) w.jobs)) (λ r s. refl) (λ r. refl) (omega arith) (omega arith) (λ c l. old_at w.call w.calls (new_call (Some w.jobs) (w.jobs + 1)) c l)
    (λ t l. two_at w (new_job (Worker p i) p Direct) (new_job (Worker p i) p (Stored w.calls (Worker p i))) t l) (λ t l. (let a : one (t == (w.jobs + 1)) ≤ 0 = not_new t w.jobs (w.jobs + 1) l (omega arith) in omega (arith, a))))
join_turned w (Caller n) = tt

pub yield_turned : (w : World) (q : Party) (x : Place) (e : Event) → Refuses w e → ((t : ℕ) → raises t x ≤ 0) → IfSome (after_yield w q (w.stack q) x) (λ u. Turned w u q e)
yield_turned w (Worker a b) x e f n = if_cond (λ u. Turned w u (Worker a b) e) (is_free ((w.stack (Worker a b)).top)) _ (λ z. called_turned w _ (Worker a b) e x f (λ r. refl) (omega arith) (omega arith) (λ c l. refl) (λ t l. refl) (λ t l. n t))
yield_turned w (Caller c) x e f n = tt

pub give_turned : (w : World) (q : Party) (p : ℕ) → IfSome (after_end_pool w q p (w.stack q)) (λ u. Turned w u q (EndPool q p))
give_turned w q p = if_cond (λ u. Turned w u q (EndPool q p)) (is_free ((w.stack q).top) && (is_pool w.shape p && (w.pool p).held)) _
    (λ b. called_turned w _ q (EndPool q p) (LowerCount (OfPool p) PoolValue Resume) (λ r s. refl) (λ r. refl) (omega arith) (omega arith) (λ c l. refl) (λ t l. refl) (λ t l. omega arith))
