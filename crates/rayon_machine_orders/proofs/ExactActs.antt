-- the share of a scope's body has a keeper while it is counted, and none waits for pieces that are dealt: each act
-- keeps this
--
-- Of the shares that wait it is enough that no act adds to them (`act_lessens`). A piece comes into a list only by the
-- act after which none waits (`deals`, over `pushed` of Amounts).
use Rattle.std.proofs.Common.{arith, refl, sym, ◌∙◌, ap, subst, inl, inr}
use Rattle.rayon_machine_orders.proofs.Words.{ℕ, zero, suc, Bool, true, false, ◌&&◌, ◌||◌, ◌+◌, ◌-◌, ◌==◌, ◌≤◌, ◌<◌, if◌then◌else◌, Some, None, List, ◌≡◌, ◌⊎◌, IfSome, eqb-true, ltb-true, ltb-false, ltb, Party, Worker, Caller, Ending, BodyOf, PieceOf, Plan, Detach, Here, Send, Fork, Feed, Open}
use Rattle.rayon_machine_orders.proofs.Words.{Enter, Gather, Count, OfPool, OfScope, OfCast, Share, PoolValue, OfJob, Body, Pieces, Gathering, OpenCall, Place, RaiseCount, LowerCount, PushJob, AddToFifo, RaiseForAll, LowerForAll, PushForAll, DealPieces, Move, HandBack, Seen, Done, Refused}
use Rattle.rayon_machine_orders.proofs.Words.{Whereabouts, Over, HandedBack, Job, PoolShape, same_party, act_of, next_of, count_call, count_kind, count_book, Shape, Stack, World, Counts, counts_at, Part, target_pool, target_call, at_job, lowered, raised, casts_with, left_book, effect, put}
use Rattle.rayon_machine_orders.proofs.Words.{put_stack, is_piece, after_move, jobs_after, is_done, one, is_detached, is_busy, body, bodies_in, all_bodies}
use Rattle.rayon_machine_runs.specs.World.{all_raised, undealt_after}
use Rattle.rayon_machine_laws.proofs.Frame.{either, if_some_and, if_some_map, if_some_all, put_new, stack_mine, stack_other}
use Rattle.rayon_machine_laws.proofs.Ties.{job_at, outcome}
use Rattle.rayon_machine_laws.proofs.PlacedEvents.{Advance, IsFinal}
use Rattle.rayon_machine_laws.proofs.Claims.{is_part, KnownCount, Opened, PartOf, PieceAs, SaysGather, SaysQueue, Says}
use Rattle.rayon_machine_laws.proofs.ClaimRuns.{top_says, world_after, place_part}
use Rattle.rayon_machine_laws.proofs.Amounts.{pushed}
use Rattle.rayon_machine_laws.proofs.ShareActs.{with_job, one_most, one_is}
use Rattle.rayon_machine_laws.proofs.ShareSteps.{Ready, stack_after, self_one}
use Rattle.rayon_machine_laws.proofs.ShareEvents.{ready}
use Rattle.rayon_machine_laws.proofs.Bodies.{body_move, spent}
use Rattle.rayon_machine_laws.proofs.Scoping.{ScopesHold, is_counting, Uncalled, act_uncalled}
use Rattle.rayon_machine_orders.proofs.Keepers.{HasKeeper, keeper_stays}
use Rattle.rayon_machine_orders.proofs.FaultPlaces.{NoEnd, act_end, moved_end}
use Rattle.rayon_machine_orders.proofs.ExactMoves.{dropped, queues_body, more_bodies, land_more, SaysDrop, says_drop}

-- a piece that is queued, in a hand, running or over
abbrev pub is_dealt_out : Whereabouts → Bool
is_dealt_out v = is_busy v || is_done v

-- a scope's body is its call's job, and the body's share, while it is counted, has a keeper, but where the body is handed
-- back. No share waits in the count of a broadcast that was dealt
pub record ExactHold (w : World) : Type 0 where
  pub scopes : ScopesHold w
  pub opened : (t c : ℕ) (o : Party) → t + 1 ≤ w.jobs → (w.job t).kind ≡ BodyOf c o → (c + 1 ≤ w.calls) × ((w.call c).job ≡ t)
  pub bodies : (t c : ℕ) (o : Party) → t + 1 ≤ w.jobs → (w.job t).kind ≡ BodyOf c o → ((w.job t).at ≡ HandedBack → ⊥) → HasKeeper (λ q. all_bodies c (w.stack q)) 0 (one (w.call c).counted)
  pub dealt : (t : ℕ) → t + 1 ≤ w.jobs → (c : ℕ) (o : Party) → (w.job t).kind ≡ PieceOf c o → is_dealt_out (w.job t).at ≡ true → (w.call c).undealt ≡ 0

-- what a step leaves of bodies' shares and of shares that wait: one party has moved, and is at this stack now
pub record Passes (w u : World) (q : Party) (k : Stack) : Type 0 where
  pub stacks : (r : Party) → u.stack r ≡ put_stack w.stack q k r
  pub calls : w.calls ≤ u.calls
  pub jobs : w.jobs ≤ u.jobs
  pub kinds : (t : ℕ) → t + 1 ≤ w.jobs → (u.job t).kind ≡ (w.job t).kind
  pub targets : (c : ℕ) → c + 1 ≤ w.calls → (u.call c).job ≡ (w.call c).job
  pub counted : (c : ℕ) → c + 1 ≤ w.calls → one (u.call c).counted ≤ one (w.call c).counted
  pub undealt : (c : ℕ) → c + 1 ≤ w.calls → (u.call c).undealt ≤ (w.call c).undealt
  pub kept : (t c : ℕ) (o : Party) → t + 1 ≤ w.jobs → (w.job t).kind ≡ BodyOf c o → ((u.job t).at ≡ HandedBack → ⊥) → (u.call c).counted ≡ true → all_bodies c (w.stack q) ≤ all_bodies c k
  pub new : (t c : ℕ) (o : Party) → w.jobs ≤ t → t + 1 ≤ u.jobs → (u.job t).kind ≡ BodyOf c o → (c + 1 ≤ u.calls) × ((u.call c).job ≡ t) × (1 ≤ all_bodies c k)
  pub live : (t c : ℕ) (o : Party) → t + 1 ≤ w.jobs → (w.job t).kind ≡ PieceOf c o → is_dealt_out (u.job t).at ≡ true → (is_dealt_out (w.job t).at ≡ true) ⊎ ((u.call c).undealt ≡ 0)
  pub made : (t : ℕ) → w.jobs ≤ t → t + 1 ≤ u.jobs → is_dealt_out (u.job t).at ≡ false

-- what holds goes on to hold
pub exact_keep : (w u : World) (q : Party) (k : Stack) → Passes w u q k → ExactHold w → ScopesHold u → Advance w u → ExactHold u
exact_keep w u q k p h s a = record {
  scopes = s;
  opened = λ t c o m e. elim (either (ltb t w.jobs)) [ inl y ↦ was t c o (below t y) e | inr y ↦ ((p.new t c o (ltb-false t w.jobs y) m e).0, (p.new t c o (ltb-false t w.jobs y) m e).1) ];
  bodies = λ t c o m e n. elim (either (ltb t w.jobs)) [ inl y ↦ old t c o (below t y) e n ((u.call c).counted) refl | inr y ↦ fresh c ((p.new t c o (ltb-false t w.jobs y) m e).2) ];
  dealt = λ t m c o e l. elim (either (ltb t w.jobs)) [ inl y ↦ none t c o (below t y) e (p.live t c o (below t y) (sym (p.kinds t (below t y)) ∙ e) l) | inr y ↦ absurd (let b : is_dealt_out (u.job t).at ≡ false = p.made t (ltb-false t w.jobs y) m in let z : true ≡ false = sym l ∙ b in cc) ];
}
  where
    below : (t : ℕ) → ltb t w.jobs ≡ true → t + 1 ≤ w.jobs
    below t y = let b : t < w.jobs = ltb-true t w.jobs y in omega (arith, b)

    known : (t c : ℕ) (o : Party) → t + 1 ≤ w.jobs → (u.job t).kind ≡ BodyOf c o → (c + 1 ≤ w.calls) × ((w.call c).job ≡ t)
    known t c o b e = h.opened t c o b (sym (p.kinds t b) ∙ e)

    was : (t c : ℕ) (o : Party) → t + 1 ≤ w.jobs → (u.job t).kind ≡ BodyOf c o → (c + 1 ≤ u.calls) × ((u.call c).job ≡ t)
    was t c o b e = let i : (c + 1 ≤ w.calls) × ((w.call c).job ≡ t) = known t c o b e in ((let j : c + 1 ≤ w.calls = i.0 in let m : w.calls ≤ u.calls = p.calls in let g : c + 1 ≤ u.calls = omega (arith, j, m) in g), p.targets c (i.0) ∙ i.1)

    others : (c : ℕ) (r : Party) → same_party r q ≡ false → all_bodies c (u.stack r) ≡ all_bodies c (w.stack r)
    others c r e = ap (all_bodies c) (p.stacks r ∙ stack_other w.stack q k r e)

    mine : (c : ℕ) → all_bodies c (u.stack q) ≡ all_bodies c k
    mine c = ap (all_bodies c) (p.stacks q ∙ stack_mine w.stack q k)

    fresh : (c : ℕ) → 1 ≤ all_bodies c k → HasKeeper (λ r. all_bodies c (u.stack r)) 0 (one (u.call c).counted)
    fresh c l = (Some q, (let b : all_bodies c (u.stack q) ≡ all_bodies c k = mine c in let d : one (u.call c).counted ≤ 1 = one_most ((u.call c).counted) in let g : one (u.call c).counted ≤ all_bodies c (u.stack q) = omega (arith, b, d, l) in g))

    old : (t c : ℕ) (o : Party) → t + 1 ≤ w.jobs → (u.job t).kind ≡ BodyOf c o → ((u.job t).at ≡ HandedBack → ⊥) → (b : Bool) → (u.call c).counted ≡ b → HasKeeper (λ r. all_bodies c (u.stack r)) 0 (one (u.call c).counted)
    old t c o b e n false z = subst (λ v. HasKeeper (λ r. all_bodies c (u.stack r)) 0 (one v)) (sym z) (None, omega arith)
    old t c o b e n true z = subst (λ v. HasKeeper (λ r. all_bodies c (u.stack r)) 0 (one v)) (sym z)
        (keeper_stays (λ r. all_bodies c (w.stack r)) (λ r. all_bodies c (u.stack r)) 0 0 1 q (omega arith) (λ r x. others c r x)
        (let i : all_bodies c (u.stack q) ≡ all_bodies c k = mine c in let j : all_bodies c (w.stack q) ≤ all_bodies c k = p.kept t c o b kind n z in omega (arith, i, j))
        (subst (λ v. HasKeeper (λ r. all_bodies c (w.stack r)) 0 (one v)) counts (h.bodies t c o b kind (λ y. n (subst (λ v. IsFinal v (u.job t).at) y (a.final t))))))
      where
        kind : (w.job t).kind ≡ BodyOf c o
        kind = sym (p.kinds t b) ∙ e

        counts : (w.call c).counted ≡ true
        counts = one_is ((w.call c).counted) (let i : one (u.call c).counted ≤ one (w.call c).counted = p.counted c ((known t c o b e).0) in let j : one (u.call c).counted ≡ 1 = ap one z in omega (arith, i, j))

    none : (t c : ℕ) (o : Party) → t + 1 ≤ w.jobs → (u.job t).kind ≡ PieceOf c o → (is_dealt_out (w.job t).at ≡ true) ⊎ ((u.call c).undealt ≡ 0) → (u.call c).undealt ≡ 0
    none t c o b e (inr z) = z
    none t c o b e (inl l) = let kind : (w.job t).kind ≡ PieceOf c o = sym (p.kinds t b) ∙ e in
        let x : PartOf w t c o = (((h.scopes).shares).calls).parts t b c o kind in
        let y : (u.call c).undealt ≤ (w.call c).undealt = p.undealt c (x.number) in
        let z : (w.call c).undealt ≡ 0 = h.dealt t b c o kind l in omega (arith, y, z)

-- no act adds a share of a body, or one that waits
record Lessens (m : Part) (r : Seen × Part) : Type 0 where
  counted : one r.1.call.counted ≤ one m.call.counted
  undealt : r.1.call.undealt ≤ m.call.undealt

raise_lessens : (m : Part) (k : Count) (b : Bool) → IfSome (if b then Some (Refused, m) else Some (Done, raised m k)) (Lessens m)
raise_lessens m k true = record { counted = omega arith; undealt = omega arith }
raise_lessens m k false = record { counted = omega arith; undealt = omega arith }

raise_all_lessens : (m : Part) (c : Pieces) (b : Bool) → IfSome (if b then Some (Refused, m) else Some (Done, all_raised m c)) (Lessens m)
raise_all_lessens m c true = record { counted = omega arith; undealt = omega arith }
raise_all_lessens m c false = record { counted = omega arith; undealt = omega arith }

lower_lessens : (m : Part) (k : Count) (s : Share) (e : Seen) → Lessens m (e, lowered m k s)
lower_lessens m k PoolValue e = record { counted = omega arith; undealt = omega arith }
lower_lessens m k _ e = record { counted = omega arith; undealt = omega arith }

deal_lessens : (k : Count) (n : ℕ) → undealt_after k n ≤ n
deal_lessens (OfPool p) n = omega arith
deal_lessens _ n = omega arith

act_lessens : (h : Shape) (q : Party) (c : Counts) (m : Part) (x : Place) → IfSome (effect (act_of q x) h q c m) (Lessens m)
act_lessens h (Worker a b) c m (RaiseCount n) = raise_lessens m _ _
act_lessens h (Worker a b) c m (RaiseForAll n) = raise_all_lessens m n _
act_lessens h (Worker a b) c m (LowerCount k s n) = lower_lessens m k s _
act_lessens h (Worker a b) c m (LowerForAll n) = record { counted = omega arith; undealt = omega arith }
act_lessens h (Worker a b) c m (PushForAll n) = record { counted = omega arith; undealt = deal_lessens n.count m.call.undealt }
act_lessens h (Worker a b) c m (DealPieces g) = record { counted = omega arith; undealt = deal_lessens (g.pieces).count m.call.undealt }
act_lessens h (Caller i) c m (RaiseCount n) = raise_lessens m _ _
act_lessens h (Caller i) c m (RaiseForAll n) = raise_all_lessens m n _
act_lessens h (Caller i) c m (LowerCount k s n) = lower_lessens m k s _
act_lessens h (Caller i) c m (LowerForAll n) = record { counted = omega arith; undealt = omega arith }
act_lessens h (Caller i) c m (PushForAll n) = record { counted = omega arith; undealt = deal_lessens n.count m.call.undealt }
act_lessens h (Caller i) c m (DealPieces g) = record { counted = omega arith; undealt = deal_lessens (g.pieces).count m.call.undealt }
act_lessens h q c m x = if_some_map (Uncalled m) (Lessens m) (λ r e. record { counted = (let i : one r.1.call.counted ≡ one m.call.counted = ap one (e.counted) in omega (arith, i)); undealt = (let i : r.1.call.undealt ≡ m.call.undealt = e.undealt in omega (arith, i)) })
    (effect (act_of q x) h q c m) (act_uncalled h q c m x refl)

-- the share of a body that is given back is not counted then
abbrev spends : Place → Bool
spends (LowerCount k Body n) = true
spends _ = false

abbrev Unspent : Place → Seen × Part → Type 0
Unspent x r = spends x ≡ true → r.1.call.counted ≡ false

act_spends : (h : Shape) (q : Party) (c : Counts) (m : Part) (x : Place) (b : Bool) → spends x ≡ b → IfSome (effect (act_of q x) h q c m) (Unspent x)
act_spends h q c m x false e = if_some_all (Unspent x) (λ r z. absurd (let i : true ≡ false = sym z ∙ e in cc)) (effect (act_of q x) h q c m)
act_spends h (Worker a b) c m (LowerCount k Body n) true e = λ z. refl
act_spends h (Caller i) c m (LowerCount k Body n) true e = λ z. refl
act_spends h q c m _ true e = cc

same_one : (a b : ℕ) → 1 ≤ one (a == b) → a ≡ b
same_one a b l = by (a == b) refl l
  where
    by : (z : Bool) → (a == b) ≡ z → 1 ≤ one z → a ≡ b
    by true e m = eqb-true a b e
    by false e m = absurd (omega (arith, m))

spent_at : (q : Party) (c : ℕ) (x : Place) → 1 ≤ spent c x → (spends x ≡ true) × (c ≡ target_call (act_of q x))
spent_at q c (LowerCount (OfPool p) Body n) l = absurd (omega (arith, l))
spent_at (Worker a b) c (LowerCount (OfScope d o) Body n) l = (refl, same_one c d l)
spent_at (Worker a b) c (LowerCount (OfCast d o) Body n) l = (refl, same_one c d l)
spent_at (Caller i) c (LowerCount (OfScope d o) Body n) l = (refl, same_one c d l)
spent_at (Caller i) c (LowerCount (OfCast d o) Body n) l = (refl, same_one c d l)
spent_at q c _ l = absurd (omega (arith, l))

-- what a move hands back is the body of the call that it drops
dropped_at : (w : World) (q : Party) (c : ℕ) (g : Move) → SaysDrop w q g → 1 ≤ dropped c g → (o : OpenCall) × (Opened w q o × ((c ≡ o.number) × (g ≡ HandBack (Open o))))
dropped_at w q c (HandBack (Open o)) s l = (o, (s, (same_one c o.number l, refl)))
dropped_at w q c _ s l = absurd (omega (arith, l))

pub unopened : (w : World) (q : Party) (x : Place) → Says w q x → queues_body x ≡ false
unopened w q (PushJob (Open o) v) s = absurd s
unopened w q _ s = refl

-- a place whose act deals the pieces of a broadcast that waits
abbrev is_dealer : Place → Bool
is_dealer (DealPieces g) = true
is_dealer _ = false

-- no other act queues one
part_count : (w : World) (k : Count) (p : ℕ) → KnownCount w k p → is_part (count_kind k) ≡ false
part_count w (OfCast c o) p s = absurd s
part_count w _ p s = refl

unlike : (w : World) (t j : ℕ) → is_part (w.job t).kind ≡ true → is_part (w.job j).kind ≡ false → one (t == j) ≡ 0
unlike w t j p d = by (t == j) refl
  where
    by : (b : Bool) → (t == j) ≡ b → one b ≡ 0
    by true e = absurd (let a : is_part (w.job j).kind ≡ true = ap (λ n. is_part (w.job n).kind) (sym (eqb-true t j e)) ∙ p in let z : true ≡ false = sym a ∙ d in cc)
    by false e = refl

push_none : (w : World) (q : Party) (n : Plan) (v : Bool) (e : Seen) (t : ℕ) → SaysQueue w q n → is_part (w.job t).kind ≡ true → pushed t (PushJob n v) e ≡ 0
push_none w q (Detach p j) v Done t s k = unlike w t j k (ap is_part (s.kind))
push_none w q (Detach p j) v _ t s k = refl
push_none w q (Enter x) v Done t s k = unlike w t (x.job) k (ap is_part ((s.0).kind))
push_none w q (Enter x) v _ t s k = refl
push_none w q (Send o) v e t s k = refl
push_none w q (Fork o a) v e t s k = refl
push_none w q _ v e t s k = absurd s

pushed_none : (w : World) (q : Party) (x : Place) (e : Seen) (t : ℕ) → is_dealer x ≡ false → Says w q x → is_part (w.job t).kind ≡ true → pushed t x e ≡ 0
pushed_none w q (PushJob n v) e t z s k = push_none w q n v e t s k
pushed_none w q (AddToFifo f) Done t z s k = unlike w t (f.job) k (ap is_part ((s.0).kind) ∙ part_count w f.count f.pool (s.3))
pushed_none w q (AddToFifo f) _ t z s k = refl
pushed_none w q (PushForAll c) Done t z s k = by (is_piece c t) refl
  where
    by : (b : Bool) → is_piece c t ≡ b → one b ≡ 0
    by false y = refl
    by true y = absurd (let a : is_part (w.job t).kind ≡ false = ap is_part ((s.0 t y).kind) ∙ part_count w c.count c.pool (s.1) in let i : true ≡ false = sym k ∙ a in cc)
pushed_none w q (PushForAll c) _ t z s k = refl
pushed_none w q (DealPieces g) e t z s k = cc
pushed_none w q _ e t z s k = refl

-- where a piece comes into its list no share waits for it
abbrev Deals : World → Party → Place → List Place → Seen × Part → Type 0
Deals w q x fs r = (t c : ℕ) (o : Party) → (w.job t).kind ≡ PieceOf c o → 1 ≤ pushed t x (r.0) → ((world_after w q x fs r).call c).undealt ≡ 0

deal_deals : (w : World) (q : Party) (g : Gathering) (fs : List Place) (m : Part) → SaysGather w q g → m.call.undealt ≡ undealt_after g.pieces.count (place_part w q (DealPieces g)).call.undealt → target_call (act_of q (DealPieces g)) ≡ count_call g.pieces.count
    → Deals w q (DealPieces g) fs (Done, m)
deal_deals w q g fs m s un nc t c o k l = by (is_piece g.pieces t) refl l
  where
    c0 : ℕ
    c0 = target_call (act_of q (DealPieces g))

    mine : (put w.call c0 m.call c0).undealt ≡ 0
    mine = ap (λ a. a.undealt) (put_new w.call c0 m.call) ∙ un ∙ ap (λ x. undealt_after x (place_part w q (DealPieces g)).call.undealt) (s.count)

    by : (b : Bool) → is_piece g.pieces t ≡ b → 1 ≤ one b → (put w.call c0 m.call c).undealt ≡ 0
    by false y n = absurd (omega (arith, n))
    by true y n = let p : PieceAs w g.pieces.count t g.pieces.pool (t - g.pieces.first) = s.pieces t y in
        let d : PieceOf c o ≡ PieceOf g.call.number q = sym k ∙ p.kind ∙ ap count_kind (s.count) in
        let i : c ≡ g.call.number = cc in
        ap (λ n. (put w.call c0 m.call n).undealt) (i ∙ sym (nc ∙ ap count_call (s.count))) ∙ mine

abbrev dealt_part : Party → Gathering → Part → Part
dealt_part q g m = record m { pool = record (m.pool) { casts = casts_with g.pieces m.pool.casts }; call = record (m.call) { writer = left_book q (count_book g.pieces.count) m.call.writer; undealt = undealt_after g.pieces.count m.call.undealt } }

deals : (w : World) (q : Party) (x : Place) (fs : List Place) → Says w q x → IfSome (outcome w q (record { top = x; below = fs })) (Deals w q x fs)
deals w (Worker a b) (DealPieces g) fs s = deal_deals w (Worker a b) g fs (dealt_part (Worker a b) g (place_part w (Worker a b) (DealPieces g))) s refl refl
deals w (Caller i) (DealPieces g) fs s = deal_deals w (Caller i) g fs (dealt_part (Caller i) g (place_part w (Caller i) (DealPieces g))) s refl refl
deals w q x fs s = if_some_all (Deals w q x fs) (λ r t c o k l. absurd (let a : pushed t x (r.0) ≡ 0 = pushed_none w q x (r.0) t refl s (ap is_part k) in omega (arith, a, l))) (outcome w q (record { top = x; below = fs }))

done_over : (v : Whereabouts) → is_done v ≡ true → (e : Ending) × (v ≡ Over e)
done_over (Over e) z = (e, refl)
done_over _ z = cc

or_idle : (b d : Bool) → (b || d) ≡ false → b ≡ false
or_idle false d e = refl
or_idle true d e = cc

or_rest : (b d : Bool) → b ≡ false → (b || d) ≡ true → d ≡ true
or_rest false d y e = e
or_rest true d y e = cc

over_out : (v : Whereabouts) (e : Ending) → v ≡ Over e → is_dealt_out v ≡ true
over_out v e y = ap is_dealt_out y

-- an act leaves it so
go_passes : (w : World) (q : Party) (x : Place) (fs : List Place) (r : Seen × Part) → ExactHold w → Ready w q x fs r → Lessens (place_part w q x) r → Unspent x r → NoEnd (place_part w q x) r → Deals w q x fs r → Passes w (world_after w q x fs r) q (stack_after w q x fs (r.0))
go_passes w q x fs r h d le un ne de = record {
  stacks = λ i. refl;
  calls = omega arith;
  jobs = omega arith;
  kinds = λ t b. (d.last).kinds t;
  targets = λ c b. (d.last).targets c;
  counted = λ c b. counted c (c == c0) refl;
  undealt = λ c b. undealt c (c == c0) refl;
  kept = λ t c o b k n z. (let i : body c x ≤ (body_move c g + dropped c g) + spent c x = more_bodies (w.shape.pool (target_pool q (act_of q x))) q c x (r.0) (unopened w q x says) in
      let j : body_move c g + bodies_in c fs ≤ all_bodies c (stack_after w q x fs (r.0)) = land_more c g fs in
      let m : all_bodies c (w.stack q) ≡ (body c x + bodies_in c fs) = ap (all_bodies c) (d.stack) in
      let y : spent c x ≤ 0 = unspent c z (spent c x) refl in
      let v : dropped c g ≤ 0 = undropped t c o b k n (dropped c g) refl in omega (arith, i, j, m, y, v));
  new = λ t c o a b e. absurd (omega (arith, a, b));
  live = λ t c o b k l. live t c o k l (is_dealt_out (w.job t).at) refl;
  made = λ t a b. absurd (omega (arith, a, b));
}
  where
    u : World
    u = world_after w q x fs r

    g : Move
    g = next_of (w.shape.pool (target_pool q (act_of q x))) q x (r.0)

    c0 : ℕ
    c0 = target_call (act_of q x)

    n0 : ℕ
    n0 = job_at w q (act_of q x)

    J : ℕ → Job
    J = put w.job n0 (r.1.job)

    says : Says w q x
    says = top_says w q x fs (((h.scopes).shares).calls) (d.stack)

    counted : (c : ℕ) (b : Bool) → (c == c0) ≡ b → one (if b then r.1.call else w.call c).counted ≤ one (w.call c).counted
    counted c true e = subst (λ n. one r.1.call.counted ≤ one (w.call n).counted) (sym (eqb-true c c0 e)) (le.counted)
    counted c false e = omega arith

    undealt : (c : ℕ) (b : Bool) → (c == c0) ≡ b → (if b then r.1.call else w.call c).undealt ≤ (w.call c).undealt
    undealt c true e = subst (λ n. r.1.call.undealt ≤ (w.call n).undealt) (sym (eqb-true c c0 e)) (le.undealt)
    undealt c false e = omega arith

    unspent : (c : ℕ) → (u.call c).counted ≡ true → (n : ℕ) → spent c x ≡ n → spent c x ≤ 0
    unspent c z zero e = omega (arith, e)
    unspent c z (suc n) e = absurd (let i : (spends x ≡ true) × (c ≡ c0) = spent_at q c x (let l : 1 ≤ spent c x = omega (arith, e) in l) in
        let j : (put w.call c0 (r.1.call) c).counted ≡ false = ap (λ n. (put w.call c0 (r.1.call) n).counted) (i.1) ∙ ap (λ a. a.counted) (put_new w.call c0 (r.1.call)) ∙ un (i.0) in
        let m : true ≡ false = sym z ∙ j in cc)

    undropped : (t c : ℕ) (o : Party) → t + 1 ≤ w.jobs → (w.job t).kind ≡ BodyOf c o → ((u.job t).at ≡ HandedBack → ⊥) → (n : ℕ) → dropped c g ≡ n → dropped c g ≤ 0
    undropped t c o b k n zero e = omega (arith, e)
    undropped t c o b k n (suc i) e = absurd (n (back (dropped_at w q c g (says_drop w (w.shape.pool (target_pool q (act_of q x))) q x (r.0) says) (let l : 1 ≤ dropped c g = omega (arith, e) in l))))
      where
        back : ((o : OpenCall) × (Opened w q o × ((c ≡ o.number) × (g ≡ HandBack (Open o))))) → (u.job t).at ≡ HandedBack
        back (v, (s, (j, y))) = let m : t ≡ v.job = sym ((h.opened t c o b k).1) ∙ ap (λ n. (w.call n).job) j ∙ s.target in
            ap (λ f. (jobs_after q f J t).at) y ∙ ap (λ n. (put J v.job (at_job (J v.job) HandedBack) n).at) m ∙ ap (λ a. a.at) (put_new J v.job (at_job (J v.job) HandedBack))

    live : (t c : ℕ) (o : Party) → (w.job t).kind ≡ PieceOf c o → is_dealt_out (u.job t).at ≡ true → (b : Bool) → is_dealt_out (w.job t).at ≡ b → (is_dealt_out (w.job t).at ≡ true) ⊎ ((u.call c).undealt ≡ 0)
    live t c o k l true y = inl y
    live t c o k l false y = by (is_busy (u.job t).at) refl
      where
        by : (b : Bool) → is_busy (u.job t).at ≡ b → (is_dealt_out (w.job t).at ≡ true) ⊎ ((u.call c).undealt ≡ 0)
        by true z = inr (de t c o k (let i : with_job (u.job t) ≤ with_job (w.job t) + pushed t x (r.0) = d.busy t in
            let j : with_job (u.job t) ≡ 1 = ap (λ v. one (is_detached v && is_busy (u.job t).at)) ((d.last).kinds t ∙ k) ∙ ap one z in
            let m : with_job (w.job t) ≡ 0 = ap (λ v. one (is_detached v && is_busy (w.job t).at)) k ∙ ap one (or_idle (is_busy (w.job t).at) (is_done (w.job t).at) y) in omega (arith, i, j, m)))
        by false z = absurd (ended (done_over ((u.job t).at) (or_rest (is_busy (u.job t).at) (is_done (u.job t).at) z l)))
          where
            touched : (e : Ending) (b : Bool) → (t == n0) ≡ b → (if b then r.1.job else w.job t).at ≡ Over e → (w.job t).at ≡ Over e
            touched e true i a = ap (λ n. (w.job n).at) (eqb-true t n0 i) ∙ ne e a
            touched e false i a = a

            ended : ((e : Ending) × ((u.job t).at ≡ Over e)) → ⊥
            ended (e, a) = let i : is_dealt_out (w.job t).at ≡ true = over_out ((w.job t).at) e (touched e (t == n0) refl (moved_end q g J t e a)) in let j : true ≡ false = sym i ∙ y in cc

pub go_by : (w : World) (q : Party) → ExactHold w → IfSome (outcome w q (w.stack q)) (λ r. Passes w (world_after w q ((w.stack q).top) ((w.stack q).below) r) q (stack_after w q ((w.stack q).top) ((w.stack q).below) (r.0)))
go_by w q h =
    let x = (w.stack q).top in let fs = (w.stack q).below in
    if_some_map (λ r. (Ready w q x fs r × Lessens (place_part w q x) r) × (Unspent x r × (NoEnd (place_part w q x) r × Deals w q x fs r))) (λ r. Passes w (world_after w q x fs r) q (stack_after w q x fs (r.0)))
    (λ r f. go_passes w q x fs r h ((f.0).0) ((f.0).1) ((f.1).0) (((f.1).1).0) (((f.1).1).1)) (outcome w q (w.stack q))
    (if_some_and (λ r. Ready w q x fs r × Lessens (place_part w q x) r) (λ r. Unspent x r × (NoEnd (place_part w q x) r × Deals w q x fs r)) (outcome w q (w.stack q))
    (if_some_and (Ready w q x fs) (Lessens (place_part w q x)) (outcome w q (w.stack q)) (ready w q ((h.scopes).shares)) (act_lessens w.shape q (counts_at w (target_pool q (act_of q x))) (place_part w q x) x))
    (if_some_and (Unspent x) (λ r. NoEnd (place_part w q x) r × Deals w q x fs r) (outcome w q (w.stack q)) (act_spends w.shape q (counts_at w (target_pool q (act_of q x))) (place_part w q x) x (spends x) refl)
    (if_some_and (NoEnd (place_part w q x)) (Deals w q x fs) (outcome w q (w.stack q)) (act_end w.shape q (counts_at w (target_pool q (act_of q x))) (place_part w q x) x) (deals w q x fs (top_says w q x fs (((h.scopes).shares).calls) refl)))))
