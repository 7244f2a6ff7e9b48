-- what is said of the cells of calls in every world, and what is known of a call while it is made and when it takes
--
-- A cell is empty before its Store and after its Take. The call's share tells both apart: a call has it from its Raise
-- to its Lower, and the Take is the last act before that.
-- `IsSettled` says that a call's latch is set or that a party is about to set it: so it is from the Store on. Of a
-- broadcast that waits it says that its count is 0.
-- At a Take the call has seen its latch set (`seen_set` and `follows_on` of Takes), and has its share. So its cell is
-- filled (`take_filled`).
-- Why each act keeps it:
-- - Store: the cell is filled now. Set of a call's latch: the call was settled before (`sets_touched`, Takes).
-- - Grow, which empties the cell: the job is in hand, so the call is not settled (`grow_unsettled`). Raise: the same
--   (`gained_hand`).
-- - Take, which empties the cell: nobody else has the share, and a Lower follows (`takes_last`, FilledActs).
-- - every other act: the cell stays (`act_cell`, Takes), and no share comes (`shares_mine`, ShareRuns).
use Rattle.rayon_machine_laws.proofs.Endings.{ready_over}
use Rattle.rayon_machine_orders.proofs.Words.{OfScope, OfCast, arith, refl, sym, ◌∙◌, ap, subst, inl, inr, ℕ, Bool, true, false, ◌+◌, ◌-◌, ◌==◌, ◌≤◌, ◌<◌, nat_lt, nat_le, Option, Some, None, List, ◌≡◌, ◌⊎◌, eqb-true, eq-eqb, ltb-true, ltb-false, lt-ltb, ltb, Party, Worker, Caller, Ending}
use Rattle.rayon_machine_orders.proofs.Words.{PieceOf, WholeOf, Latch, Terminate, OfCall, Plan, Detach, Here, Send, Fork, Feed, Open, Enter, Gather, OfJob, Body, Resume, Pieces, Gathering, Place, RaiseCount, GrowCall, TakeResult, LowerCount, SetLatch, SetLockLatch, RaiseForAll, GrowScope}
use Rattle.rayon_machine_orders.proofs.Words.{GrowCast, DealPieces, Seen, Done, IsSet, Whereabouts, Nowhere, Made, InDeque, Injected, InFifo, Running, Over, HandedBack, Spent, Retaken, InCast, OpenCall, act_of, count_kind, World, target_call, is_piece, is_done, one, has_body, is_of_scope}
use Rattle.rayon_machine_orders.proofs.Words.{shares_in, shares}
use Rattle.rayon_machine_laws.proofs.Scoping.{ScopesHold, old_call as known_call, body_over, count_over, entry}
use Rattle.std.proofs.lemmas.Bool.{le-leb}
use Rattle.rayon_machine_places.specs.Places.{plan_call}
use Rattle.rayon_machine_laws.proofs.Frame.{either}
use Rattle.rayon_machine_laws.proofs.Tops.{FramesOk}
use Rattle.rayon_machine_laws.proofs.Hands.{hand, held_in, held}
use Rattle.rayon_machine_laws.proofs.Located.{Loc, loc_of, loc_at, is_loc, where_is, Hand}
use Rattle.rayon_machine_laws.proofs.PlacedRuns.{JobsHold}
use Rattle.rayon_machine_laws.proofs.Claims.{Opened, FirstEnds, SaysLatch, Says, IsReady, SaysGather, PieceAs, PartOf, call_kind}
use Rattle.rayon_machine_laws.proofs.ClaimRuns.{top_says}
use Rattle.rayon_machine_laws.proofs.Tokens.{sum_below}
use Rattle.rayon_machine_laws.proofs.Amounts.{gained, paid}
use Rattle.rayon_machine_laws.proofs.ShareActs.{SharesHold, one_is, one_not}
use Rattle.rayon_machine_laws.proofs.ShareSteps.{self_one}
use Rattle.rayon_machine_orders.proofs.Takes.{seen_set, latch_number, sets_now, is_grown_well, says_missing, is_growing, number_is}

-- a call whose latch is set, or about to be; of whose count a piece's share is about to be given back, once the piece has
-- ended; or, of a scope, the share of whose body is given back
abbrev pub IsSettled : World → ℕ → Type 0
IsSettled w c = ((w.call c).latch ≡ IsSet) ⊎ (((r : Party) × (sets_now (w.stack r).top ≡ Some c)) ⊎ (((w.call c).counted ≡ false) × (has_body (w.job (w.call c).job).kind ≡ true)))

-- the job that a call waits for is of that call
abbrev pub IsNamed : World → ℕ → Type 0
IsNamed w c = (o : Party) × (call_kind (w.job (w.call c).job).kind ≡ Some (c, o))

-- what stands for a broadcast that waits runs nowhere
abbrev pub Wholes : World → Type 0
Wholes w = (t : ℕ) → t + 1 ≤ w.jobs → has_body (w.job t).kind ≡ false → (w.job t).at ≡ Spent

-- where a call's latch is set, or about to be, and its cell is empty, nobody has its share but to give it back: what
-- was stored has been taken
abbrev pub IsTaken : World → Party → ℕ → Type 0
IsTaken w q c = shares ((w.call c).job) (w.stack q) ≤ paid ((w.call c).job) ((w.stack q).top)

-- what holds of the cells of every world
pub record FilledHold (w : World) : Type 0 where
  pub hold : SharesHold w
  pub scopes : ScopesHold w
  pub frames : FramesOk w
  pub seen : (q : Party) (c : ℕ) → seen_set (w.stack q).top ≡ Some c → (w.call c).latch ≡ IsSet
  pub wholes : Wholes w
  pub taken : (q : Party) (c : ℕ) → IsNamed w c → IsSettled w c → (w.call c).cell ≡ None → IsTaken w q c
  pub grown : (q : Party) → is_grown_well (w.stack q).top ≡ true
  pub found : (q : Party) → says_missing (w.stack q).top ≡ false

-- a job that is over, or what stands for a broadcast
abbrev pub is_ended : Whereabouts → Bool
is_ended (Over e) = true
is_ended Spent = true
is_ended _ = false

pub done_ended : (v : Whereabouts) → is_done v ≡ true → is_ended v ≡ true
done_ended (Over e) z = refl
done_ended _ z = cc

-- whose latch is about to be set, has a job that is so
ready_ended : (w : World) → ScopesHold w → Wholes w → (c : ℕ) → c + 1 ≤ w.calls → IsReady w c → is_ended (w.job (w.call c).job).at ≡ true
ready_ended w h n c b y = elim (either (has_body (w.job (w.call c).job).kind)) [
  | inl f ↦ done_ended ((w.job (w.call c).job).at) (ready_over w h c b y f)
  | inr f ↦ bare f y
]
  where
    bare : has_body (w.job (w.call c).job).kind ≡ false → IsReady w c → is_ended (w.job (w.call c).job).at ≡ true
    bare f (inl d) = done_ended ((w.job (w.call c).job).at) (d.1)
    bare f (inr z) = ap is_ended (n ((w.call c).job) ((h.over c b (one_not ((w.call c).counted) (let a : sum_below w.jobs (λ t. entry c (w.job t)) + (one (w.call c).counted + (w.call c).undealt) ≡ (w.call c).count = h.sums c in omega (arith, a, z)))).made) f)

latch_ended : (w : World) → ScopesHold w → Wholes w → (c p : ℕ) (l : Latch) → latch_number l ≡ Some c → SaysLatch w p l → (c + 1 ≤ w.calls) × (is_ended (w.job (w.call c).job).at ≡ true)
latch_ended w h n c p Terminate e s = cc
latch_ended w h n c p (OfCall d) e s = subst (λ i. (i + 1 ≤ w.calls) × (is_ended (w.job (w.call i).job).at ≡ true)) (number_is d c e) (s.0, ready_ended w h n d (s.0) (s.1))

pub now_ended : (w : World) → ScopesHold w → Wholes w → (q : Party) (c : ℕ) (x : Place) → sets_now x ≡ Some c → Says w q x → (c + 1 ≤ w.calls) × (is_ended (w.job (w.call c).job).at ≡ true)
now_ended w h n q c (SetLatch k) e s = latch_ended w h n c k.pool k.latch e (s.0)
now_ended w h n q c (SetLockLatch d m) e s = latch_ended w h n c 0 (OfCall d) e (s.0)
now_ended w h n q c (LowerCount (OfScope d o) Body m) e s = subst (λ i. (i + 1 ≤ w.calls) × (is_ended (w.job (w.call i).job).at ≡ true)) (number_is d c e) ((s.1).0, done_ended ((w.job (w.call d).job).at) ((s.1).1))
now_ended w h n q c (LowerCount (OfCast d o) (OfJob u) Resume) e s = subst (λ i. (i + 1 ≤ w.calls) × (is_ended (w.job (w.call i).job).at ≡ true)) (number_is d c e)
    ((s.1).2, (let p : PartOf w u d o = ((h.shares).calls).parts u ((s.1).0) d o ((s.1).1) in ap is_ended (n ((w.call d).job) (p.made) (ap has_body (p.kind)))))
now_ended w h n q c _ e s = absurd (cc)

pub settled_ended : (w : World) → ScopesHold w → Wholes w → (c : ℕ) → IsSettled w c → is_ended (w.job (w.call c).job).at ≡ true
settled_ended w h n c (inl a) = let s : (c + 1 ≤ w.calls) × IsReady w c = ((h.shares).calls).latches c a in ready_ended w h n c (s.0) (s.1)
settled_ended w h n c (inr (inl s)) = (now_ended w h n (s.0) c ((w.stack (s.0)).top) (s.1) ((((h.shares).calls).says (s.0)).top)).1
settled_ended w h n c (inr (inr y)) = done_ended ((w.job (w.call c).job).at) (body_over w h c (known_call w h c (y.0)) (y.0) (y.1))

-- a job in hand is neither
hand_undone : (v : Whereabouts) (n : ℕ) (l : Loc) → loc_of v n ≡ Some l → is_ended v ≡ true → ⊥
hand_undone (Over d) n l e z = cc
hand_undone _ n l e z = cc

pub in_hand : (w : World) → JobsHold w → (q : Party) (t : ℕ) → 1 ≤ held t (w.stack q) → is_ended (w.job t).at ≡ true → ⊥
in_hand w h q t b z = let a : held t (w.stack q) ≡ is_loc (Hand q) (loc_at (w.job t)) = ((h.ok).placed) (Hand q) t in
    hand_undone ((w.job t).at) ((w.job t).runs) (Hand q) (where_is (Hand q) (loc_at (w.job t)) (omega (arith, a, b))) z

-- nor is one that is not made
pub unmade_ended : (w : World) → JobsHold w → (t : ℕ) → is_ended (w.job t).at ≡ true → t + 1 ≤ w.jobs
unmade_ended w h t e = elim (either (ltb t w.jobs)) [
  | inl y ↦ (let b : t < w.jobs = ltb-true t w.jobs y in omega (arith, b))
  | inr y ↦ absurd (let n : (w.job t).at ≡ Nowhere = h.unmade t (ltb-false t w.jobs y) in let k : is_ended (w.job t).at ≡ false = ap is_ended n in let z : true ≡ false = sym e ∙ k in cc)
]

-- the share of what stands for a broadcast is taken by its call, which does not have it in hand
abbrev pub whole_gain : ℕ → Place → ℕ
whole_gain t (RaiseCount (Gather g)) = one (t == g.call.job)
whole_gain t _ = 0

pub gained_hand : (t : ℕ) (x : Place) (e : Seen) → gained t x e ≤ hand t x + whole_gain t x
gained_hand t (RaiseCount (Detach p u)) Done = omega arith
gained_hand t (RaiseCount (Here p u)) Done = omega arith
gained_hand t (RaiseCount (Send o)) Done = omega arith
gained_hand t (RaiseCount (Fork o a)) Done = omega arith
gained_hand t (RaiseCount (Feed f)) Done = omega arith
gained_hand t (RaiseCount (Open o)) Done = omega arith
gained_hand t (RaiseCount (Enter x)) Done = omega arith
gained_hand t (RaiseCount (Gather g)) Done = omega arith
gained_hand t (RaiseCount n) _ = omega arith
gained_hand t (RaiseForAll c) Done = omega arith
gained_hand t (RaiseForAll c) _ = omega arith
gained_hand t (DealPieces g) Done = omega arith
gained_hand t (DealPieces g) _ = omega arith
gained_hand t _ e = omega arith

-- while a call is made, its latch is not set and nobody is about to set it
grow_target : (q : Party) (n : Plan) → target_call (act_of q (GrowCall n)) ≡ plan_call n
grow_target (Worker a b) n = refl
grow_target (Caller c) n = refl

scope_target : (q : Party) (o : OpenCall) → target_call (act_of q (GrowScope o)) ≡ o.number
scope_target (Worker a b) o = refl
scope_target (Caller c) o = refl

cast_target : (q : Party) (g : Gathering) → target_call (act_of q (GrowCast g)) ≡ g.call.number
cast_target (Worker a b) g = refl
cast_target (Caller c) g = refl

unsettled : (w : World) (q : Party) (o : OpenCall) → ScopesHold w → Wholes w → Opened w q o → 1 ≤ held (o.job) (w.stack q) → IsSettled w (o.number) → ⊥
unsettled w q o h n s b z = in_hand w (((h.shares).calls).jobs) q (o.job) b (subst (λ t. is_ended (w.job t).at ≡ true) (s.target) (settled_ended w h n (o.number) z))

pub is_in : (c : Pieces) (t : ℕ) → c.first ≤ t → t < c.first + c.workers → is_piece c t ≡ true
is_in c t l m = let a : nat_le c.first t ≡ true = le-leb c.first t l in let b : nat_lt t (c.first + c.workers) ≡ true = lt-ltb t (c.first + c.workers) m in rw (a, b) refl

-- a broadcast whose pieces are in hand: none of them is over
gather_unsettled : (w : World) (q : Party) (g : Gathering) → ScopesHold w → SaysGather w q g → nat_lt 0 (g.pieces).workers ≡ true → ((t : ℕ) → one (is_piece g.pieces t) ≤ held t (w.stack q)) → IsSettled w g.call.number → ⊥
gather_unsettled w q g h y n hands s = by s
  where
    target : (w.call g.call.number).job ≡ g.call.job
    target = (y.call).target

    -- a piece is not over
    piece : (t : ℕ) → is_piece g.pieces t ≡ true → is_done (w.job t).at ≡ true → ⊥
    piece t e d = in_hand w (((h.shares).calls).jobs) q t (let a : one (is_piece g.pieces t) ≤ held t (w.stack q) = hands t in let b : one (is_piece g.pieces t) ≡ 1 = ap one e in omega (arith, a, b)) (done_ended ((w.job t).at) d)

    some : is_piece g.pieces (g.pieces).first ≡ true
    some = is_in (g.pieces) ((g.pieces).first) (omega arith) (let a : 0 < (g.pieces).workers = ltb-true 0 (g.pieces).workers n in omega (arith, a))

    whole : (w.job (w.call g.call.number).job).kind ≡ WholeOf g.call.number q
    whole = ap (λ t. (w.job t).kind) target ∙ y.whole

    undone : is_done (w.job (w.call g.call.number).job).at ≡ true → ⊥
    undone d = let a : is_done (w.job (w.call g.call.number).job).at ≡ false = ap (λ t. is_done (w.job t).at) target ∙ ap is_done (y.spent) in let z : true ≡ false = sym d ∙ a in cc

    ready : IsReady w g.call.number → ⊥
    ready (inl d) = undone (d.1)
    ready (inr z) =
        let p : PieceAs w (g.pieces).count (g.pieces).first (g.pieces).pool ((g.pieces).first - (g.pieces).first) = y.pieces ((g.pieces).first) some in
        piece ((g.pieces).first) some ((count_over w h g.call.number ((y.call).number) z).over (ap has_body whole) ((g.pieces).first) (p.made) (ap (is_of_scope g.call.number) (p.kind ∙ ap count_kind (y.count)) ∙ eq-eqb g.call.number g.call.number refl))

    latch : (p : ℕ) (l : Latch) → latch_number l ≡ Some g.call.number → SaysLatch w p l → ⊥
    latch p Terminate e a = cc
    latch p (OfCall d) e a = ready (subst (IsReady w) (number_is d g.call.number e) (a.1))

    ended : (u : ℕ) (o : Party) → u + 1 ≤ w.jobs → (w.job u).kind ≡ PieceOf g.call.number o → is_done (w.job u).at ≡ true → ⊥
    ended u o m k d = piece u (is_in (g.pieces) u (omega (arith, above, last, size, pool, t)) (omega (arith, p.below, last, t))) d
      where
        p : PartOf w u g.call.number o
        p = ((h.shares).calls).parts u m g.call.number o k

        t : (w.call g.call.number).job ≡ g.call.job
        t = target

        above : (w.call g.call.number).job ≤ u + (w.shape.pool (w.job (w.call g.call.number).job).pool).workers
        above = p.above

        last : (g.pieces).first + (g.pieces).workers ≡ g.call.job
        last = y.last

        size : (g.pieces).workers ≡ (w.shape.pool g.call.pool).workers
        size = y.size

        pool : (w.shape.pool (w.job (w.call g.call.number).job).pool).workers ≡ (w.shape.pool g.call.pool).workers
        pool = ap (λ i. (w.shape.pool (w.job i).pool).workers) target ∙ ap (λ i. (w.shape.pool i).workers) ((y.call).pool)

    setter : (r : Party) (x : Place) → sets_now x ≡ Some g.call.number → Says w r x → ⊥
    setter r (SetLatch k) e a = latch k.pool k.latch e (a.0)
    setter r (SetLockLatch d m) e a = latch 0 (OfCall d) e (a.0)
    setter r (LowerCount (OfScope d o) Body m) e a = undone (subst (λ i. is_done (w.job (w.call i).job).at ≡ true) (number_is d g.call.number e) ((a.1).1))
    setter r (LowerCount (OfCast d o) (OfJob u) Resume) e a = ended u o ((a.1).0) ((a.1).1 ∙ ap (λ i. PieceOf i o) (number_is d g.call.number e)) ((a.1).3)
    setter r _ e a = absurd (cc)

    by : IsSettled w g.call.number → ⊥
    by (inl a) = ready ((((h.shares).calls).latches g.call.number a).1)
    by (inr (inl a)) = setter (a.0) ((w.stack (a.0)).top) (a.1) ((((h.shares).calls).says (a.0)).top)
    by (inr (inr a)) = let b : has_body (w.job (w.call g.call.number).job).kind ≡ false = ap has_body whole in let z : true ≡ false = sym (a.1) ∙ b in cc

-- nor where its share is taken
some_call : (c d : ℕ) (o q : Party) → ◌≡◌ {A = Option (ℕ × Party)} (Some (c, o)) (Some (d, q)) → c ≡ d
some_call c d o q e = ap (λ v. call_or v) e
  where
    call_or : Option (ℕ × Party) → ℕ
    call_or None = 0
    call_or (Some v) = v.0

pub whole_none : (w : World) (q : Party) (x : Place) (fs : List Place) (c : ℕ) → FilledHold w → w.stack q ≡ record { top = x; below = fs } → IsNamed w c → IsSettled w c → 1 ≤ whole_gain ((w.call c).job) x → ⊥
whole_none w q (RaiseCount (Gather g)) fs c h z n s m = gather_unsettled w q g (h.scopes) y (ap (λ k. is_grown_well (k.top)) (sym z) ∙ h.grown q) (λ t. (let a : held t (w.stack q) ≡ (one (is_piece g.pieces t) + held_in t fs) = ap (held t) z in omega (arith, a))) (subst (IsSettled w) same s)
  where
    y : SaysGather w q g
    y = top_says w q (RaiseCount (Gather g)) fs ((h.hold).calls) z

    mine : (w.call c).job ≡ g.call.job
    mine = eqb-true ((w.call c).job) g.call.job (one_is ((w.call c).job == g.call.job) m)

    same : c ≡ g.call.number
    same = some_call c g.call.number (n.0) q (sym (n.1) ∙ ap (λ t. call_kind (w.job t).kind) mine ∙ ap call_kind (y.whole))
whole_none w q x fs c h z n s m = absurd (omega (arith, m))

plan_unsettled : (w : World) (q : Party) (n : Plan) (fs : List Place) → FilledHold w → w.stack q ≡ record { top = GrowCall n; below = fs } → IsSettled w (plan_call n) → ⊥
plan_unsettled w q (Send o) fs h z s = unsettled w q o (h.scopes) (h.wholes) ((top_says w q (GrowCall (Send o)) fs ((h.hold).calls) z).0) (let a : held (o.job) (w.stack q) ≡ (one (o.job == o.job) + held_in (o.job) fs) = ap (held (o.job)) z in
    let b : one (o.job == o.job) ≡ 1 = self_one (o.job) in omega (arith, a, b)) s
plan_unsettled w q (Fork o f) fs h z s = unsettled w q o (h.scopes) (h.wholes) ((top_says w q (GrowCall (Fork o f)) fs ((h.hold).calls) z).0) (let a : held (o.job) (w.stack q) ≡ ((one (o.job == f) + one (o.job == o.job)) + held_in (o.job) fs) = ap (held (o.job)) z in
    let b : one (o.job == o.job) ≡ 1 = self_one (o.job) in omega (arith, a, b)) s
plan_unsettled w q _ fs h z s = absurd (let a : false ≡ true = ap (λ k. is_grown_well (k.top)) (sym z) ∙ h.grown q in cc)

pub grow_unsettled : (w : World) (q : Party) (x : Place) (fs : List Place) → FilledHold w → w.stack q ≡ record { top = x; below = fs } → is_growing x ≡ true → IsSettled w (target_call (act_of q x)) → ⊥
grow_unsettled w q (GrowCall n) fs h z g s = plan_unsettled w q n fs h z (subst (IsSettled w) (grow_target q n) s)
grow_unsettled w q (GrowScope o) fs h z g s = unsettled w q o (h.scopes) (h.wholes) ((top_says w q (GrowScope o) fs ((h.hold).calls) z).0) (let a : held (o.job) (w.stack q) ≡ (one (o.job == o.job) + held_in (o.job) fs) = ap (held (o.job)) z in
    let b : one (o.job == o.job) ≡ 1 = self_one (o.job) in omega (arith, a, b)) (subst (IsSettled w) (scope_target q o) s)
grow_unsettled w q (GrowCast i) fs h z g s = gather_unsettled w q i (h.scopes) (top_says w q (GrowCast i) fs ((h.hold).calls) z) (ap (λ k. is_grown_well (k.top)) (sym z) ∙ h.grown q)
    (λ t. (let a : held t (w.stack q) ≡ (one (is_piece i.pieces t) + held_in t fs) = ap (held t) z in omega (arith, a))) (subst (IsSettled w) (cast_target q i) s)
grow_unsettled w q _ fs h z g s = cc

pub take_target : (q : Party) (o : OpenCall) (f : Option Ending) → target_call (act_of q (TakeResult o f)) ≡ o.number
take_target (Worker a b) o f = refl
take_target (Caller c) o f = refl

-- what a call that is about to take knows of its cell
pub take_filled : (w : World) (q : Party) (o : OpenCall) (f : Option Ending) (fs : List Place) → FilledHold w → w.stack q ≡ record { top = TakeResult o f; below = fs } → (w.call o.number).cell ≡ None → ⊥
take_filled w q o f fs h z e =
    let s : Opened w q o × FirstEnds w (w.call o.number).first f = top_says w q (TakeResult o f) fs ((h.hold).calls) z in
    let t : shares (o.job) (w.stack q) ≤ paid (o.job) ((w.stack q).top) = subst (λ n. shares n (w.stack q) ≤ paid n ((w.stack q).top)) ((s.0).target)
    (h.taken q (o.number) (q, ap (λ t. call_kind (w.job t).kind) ((s.0).target) ∙ (s.0).kind) (inl (h.seen q (o.number) (ap (λ k. seen_set (k.top)) z))) e) in
    let a : shares (o.job) (w.stack q) ≡ (one (o.job == o.job) + shares_in (o.job) fs) = ap (shares (o.job)) z in
    let b : one (o.job == o.job) ≡ 1 = self_one (o.job) in
    let d : paid (o.job) ((w.stack q).top) ≡ 0 = ap (λ k. paid (o.job) (k.top)) z in
    absurd (omega (arith, t, a, b, d))
