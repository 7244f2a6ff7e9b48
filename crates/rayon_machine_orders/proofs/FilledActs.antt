-- what acts leave of the cells of calls
use Rattle.rayon_machine_places.specs.declared.place.Share.{Share}
use Rattle.rayon_machine_orders.proofs.Words.{OfPool, OfScope, OfCast, Count, arith, refl, sym, ◌∙◌, ap, subst, inl, inr, ℕ, zero, suc, Bool, true, false, ◌&&◌, ◌+◌, ◌-◌, ◌==◌, ◌≤◌, if◌then◌else◌, Option, Some, None, List, ◌≡◌, ◌⊎◌, IfSome, eqb-true, Party, Worker, Caller, Ending, Plan}
use Rattle.rayon_machine_orders.proofs.Words.{PoolValue, OfJob, Body, Then, Pieces, Place, RaiseCount, GrowCall, TakeResult, LowerCount, StoreResult, TakeFromFifo, RaiseForAll, PushForAll, LowerForAll, GrowScope, StoreBody, GrowCast, DealPieces, StorePiece, Seen, Done, Found, Task, Refused, Yes}
use Rattle.rayon_machine_orders.proofs.Words.{No, IsSet, Whereabouts, Nowhere, Made, InDeque, Injected, InFifo, Running, Over, HandedBack, Spent, Retaken, InCast, PoolShape, OpenCall, same_party, act_of, next_of, taken_number, plan_count, count_kind, Shape, Stack, World, Counts, counts_at, Part}
use Rattle.rayon_machine_orders.proofs.Words.{target_pool, target_call, Outcome, effect, count_in, is_open, put, put_stack, after_move, is_piece, one, has_body, is_of_scope, shares_in, shares, is_busy}
use Rattle.rayon_machine_laws.proofs.Scoping.{ScopesHold, act_uncalled, acts_scopes, last_entry, is_counting, Uncalled, entry, entry_on}
use Rattle.rayon_machine_runs.specs.World.{count_call}
use Rattle.rayon_machine_laws.proofs.Frame.{either, if_some_all, if_some_and, if_some_map, if_cond, put_same, put_new, stack_mine}
use Rattle.rayon_machine_laws.proofs.Ties.{AllFrames, outcome, result}
use Rattle.rayon_machine_laws.proofs.Tops.{Tops, FramesOk, top_after}
use Rattle.rayon_machine_laws.proofs.Holding.{go_frames}
use Rattle.rayon_machine_laws.proofs.Hands.{hand, held_in, held}
use Rattle.rayon_machine_laws.proofs.PlacedRuns.{once}
use Rattle.rayon_machine_laws.proofs.Claims.{SaysThen, is_detached, SaysShare, SaysPieces, KnownCount, Tied, call_kind}
use Rattle.rayon_machine_laws.proofs.Later.{Static, act_static}
use Rattle.rayon_machine_laws.proofs.ClaimActs.{Written, act_written, Lasting}
use Rattle.rayon_machine_laws.proofs.ClaimRuns.{top_says, place_part, world_after}
use Rattle.rayon_machine_laws.proofs.Tokens.{sum_below, sum_both, pieces_below}
use Rattle.rayon_machine_laws.proofs.Amounts.{gained, pushed, paid, regained}
use Rattle.rayon_machine_laws.proofs.ShareActs.{with_job, SharesHold, one_most, one_is, one_not, Regains, act_regains}
use Rattle.rayon_machine_laws.proofs.ShareRuns.{shares_mine}
use Rattle.rayon_machine_laws.proofs.ShareSteps.{self_one, Ready, pieces_made}
use Rattle.rayon_machine_laws.proofs.ShareEvents.{go_shares, ready}
use Rattle.rayon_machine_orders.proofs.Takes.{seen_set, sees_set, count_number, lowers_now, sets_now, stores_now, is_grown_well, says_missing, finds_missing, Follows, frame_says, follows_on, is_growing, writes_cell, number_is, SeesSet, act_sees, StaysSet, act_stays_set, SameCell, act_cell}
use Rattle.rayon_machine_orders.proofs.Takes.{act_finds, sets_touched, sets_next}
use Rattle.rayon_machine_orders.proofs.FilledStates.{IsSettled, IsNamed, FilledHold, is_ended, settled_ended, in_hand, whole_gain, gained_hand, whole_none, grow_unsettled, take_target, take_filled}

-- what is known of an act
record Deed (w : World) (q : Party) (x : Place) (fs : List Place) (r : Seen × Part) : Type 0 where
  hold : SharesHold (world_after w q x fs r)
  scopes : ScopesHold (world_after w q x fs r)
  lowers : (c : ℕ) → sets_next x (r.0) ≡ Some c → (stores_now x ≡ Some c) ⊎ IsSettled w c
  counts : r.1.call.counted ≡ false → ((place_part w q x).call.counted ≡ false) ⊎ (sets_now x ≡ Some (target_call (act_of q x)))
  frames : FramesOk (world_after w q x fs r)
  follows : Tops (Follows x (r.0)) (next_of (w.shape.pool (target_pool q (act_of q x))) q x (r.0))
  static : Static (place_part w q x) r
  written : Written (place_part w q x) x r
  sees : SeesSet q (place_part w q x) x r
  stays : is_growing x ≡ false → StaysSet (place_part w q x) r
  cell : writes_cell x ≡ false → SameCell (place_part w q x) r
  stored : (c : ℕ) → stores_now x ≡ Some c → (target_call (act_of q x) ≡ c) × (r.1.call.cell ≡ None → ⊥)
  found : finds_missing x (r.0) ≡ true → ⊥
  regains : Regains w q x r
  last : Lasting w (world_after w q x fs r)

if_under : {A : Type 0} (b : Bool) (P : A → Type 0) (o : Option A) → (b ≡ false → IfSome o P) → IfSome o (λ r. b ≡ false → P r)
if_under b P None f = tt
if_under b P (Some r) f = f

stores_at : (h : Shape) (q : Party) (k : Counts) (m : Part) (x : Place) → IfSome (effect (act_of q x) h q k m) (λ r. (c : ℕ) → stores_now x ≡ Some c → (target_call (act_of q x) ≡ c) × (r.1.call.cell ≡ None → ⊥))
stores_at h (Worker a b) k m (StoreResult d o e) = λ c z. (number_is d c z, λ y. cc)
stores_at h (Caller n) k m (StoreResult d o e) = λ c z. (number_is d c z, λ y. cc)
stores_at h (Worker a b) k m (StoreBody o e) = if_cond (λ (r : Seen × Part). (c : ℕ) → stores_now (StoreBody o e) ≡ Some c → (o.number ≡ c) × (r.1.call.cell ≡ None → ⊥)) (is_open (Worker a b) m.call.writer) _ (λ w c z. (number_is (o.number) c z, λ y. cc))
stores_at h (Caller n) k m (StoreBody o e) = if_cond (λ (r : Seen × Part). (c : ℕ) → stores_now (StoreBody o e) ≡ Some c → (o.number ≡ c) × (r.1.call.cell ≡ None → ⊥)) (is_open (Caller n) m.call.writer) _ (λ w c z. (number_is (o.number) c z, λ y. cc))
stores_at h (Worker a b) k m (StorePiece d o t e) = λ c z. (number_is d c z, λ y. cc)
stores_at h (Caller n) k m (StorePiece d o t e) = λ c z. (number_is d c z, λ y. cc)
stores_at h q k m x = if_some_all (λ r. (c : ℕ) → stores_now x ≡ Some c → (target_call (act_of q x) ≡ c) × (r.1.call.cell ≡ None → ⊥)) (λ r c z. absurd (cc)) (effect (act_of q x) h q k m)

-- a scope has a body
entry_body : (w : World) (q : Party) (d : ℕ) (o : Party) (u : ℕ) (n : Then) (fs : List Place) → FilledHold w → w.stack q ≡ record { top = LowerCount (OfScope d o) (OfJob u) n; below = fs } → has_body (w.job (w.call d).job).kind ≡ true
entry_body w q d o u n fs h z = let y : SaysThen w q n × SaysShare w (OfScope d o) (OfJob u) n = top_says w q (LowerCount (OfScope d o) (OfJob u) n) fs ((h.hold).calls) z in let a : Tied w d o = ((h.hold).calls).entries u ((y.1).0) d o ((y.1).1) in ap has_body (a.kind)

-- whose latch is set next after a Lower is settled before
lowers_by : (w : World) (q : Party) (k : Count) (a : Share) (n : Then) (fs : List Place) → FilledHold w → w.stack q ≡ record { top = LowerCount k a n; below = fs } → (p : ℕ) (b : Bool) → (count_in (place_part w q (LowerCount k a n)) k == 1) ≡ b
    → target_call (act_of q (LowerCount k a n)) ≡ p → (c : ℕ) → sets_next (LowerCount k a n) (if b then Yes else No) ≡ Some c → (stores_now (LowerCount k a n) ≡ Some c) ⊎ IsSettled w c
lowers_by w q k a n fs h z p false e t c s = absurd (cc)
lowers_by w q (OfPool r) a n fs h z p true e t c s = absurd (cc)
lowers_by w q (OfScope d o) PoolValue n fs h z p true e t c s = absurd (let y : SaysThen w q n × SaysShare w (OfScope d o) PoolValue n = top_says w q (LowerCount (OfScope d o) PoolValue n) fs ((h.hold).calls) z in y.1)
lowers_by w q (OfScope d o) Body n fs h z p true e t c s = inr (inr (inl (q, ap (λ v. sets_now (v.top)) z ∙ s)))
lowers_by (w) (Worker i j) (OfScope d o) (OfJob u) n fs h z p true e t c s = inr
    (inr (inr (subst (λ v. ((w.call v).counted ≡ false) × (has_body (w.job (w.call v).job).kind ≡ true)) (number_is d c s) (last_entry w (Worker i j) d o u n fs (h.scopes) z (eqb-true ((w.call d).count) 1 e), entry_body w (Worker i j) d o u n fs h z))))
lowers_by (w) (Caller m) (OfScope d o) (OfJob u) n fs h z p true e t c s = inr
    (inr (inr (subst (λ v. ((w.call v).counted ≡ false) × (has_body (w.job (w.call v).job).kind ≡ true)) (number_is d c s) (last_entry w (Caller m) d o u n fs (h.scopes) z (eqb-true ((w.call d).count) 1 e), entry_body w (Caller m) d o u n fs h z))))
lowers_by w q (OfCast d o) PoolValue n fs h z p true e t c s = absurd (let y : SaysThen w q n × SaysShare w (OfCast d o) PoolValue n = top_says w q (LowerCount (OfCast d o) PoolValue n) fs ((h.hold).calls) z in y.1)
lowers_by w q (OfCast d o) Body n fs h z p true e t c s = absurd (let y : SaysThen w q n × SaysShare w (OfCast d o) Body n = top_says w q (LowerCount (OfCast d o) Body n) fs ((h.hold).calls) z in y.1)
lowers_by w q (OfCast d o) (OfJob u) n fs h z p true e t c s = inr
    (inr (inl (q, ap (λ v. sets_now (v.top)) z ∙ ap (λ m. lowers_now (OfCast d o) (OfJob u) m) (let y : SaysThen w q n × SaysShare w (OfCast d o) (OfJob u) n = top_says w q (LowerCount (OfCast d o) (OfJob u) n) fs ((h.hold).calls) z in (y.1).4) ∙ s)))

-- so it is with the shares of the pieces of a refused broadcast into a scope
last_pieces : (w : World) (q : Party) (b : Pieces) (d : ℕ) (o : Party) (fs : List Place) → ScopesHold w → w.stack q ≡ record { top = LowerForAll b; below = fs } → b.count ≡ OfScope d o → (w.call d).count ≡ b.workers → (w.call d).counted ≡ false
last_pieces w q b d o fs h z k all = one_not ((w.call d).counted)
    (let a : sum_below w.jobs (λ t. entry d (w.job t)) + (one (w.call d).counted + (w.call d).undealt) ≡ (w.call d).count = h.sums d in
    let e : sum_below w.jobs (λ t. entry d (w.job t)) ≡ sum_below w.jobs (λ t. entry d (w.job t) - one (is_piece b t)) + sum_below w.jobs (λ t. one (is_piece b t)) = sum_both w.jobs (λ t. entry d (w.job t) - one (is_piece b t)) (λ t. entry d (w.job t)) (λ t. one (is_piece b t))
    (λ t l. parted t (is_piece b t) refl) in
    let f : sum_below w.jobs (λ t. one (is_piece b t)) ≡ b.workers = pieces_below w.jobs b (pieces_made w b said) in omega (arith, a, e, f, all))
  where
    said : SaysPieces w b
    said = (top_says w q (LowerForAll b) fs ((h.shares).calls) z).0

    had : (t : ℕ) → is_piece b t ≡ true → (w.job t).counted ≡ true
    had t y = one_is ((w.job t).counted) (let a : shares t (w.stack q) ≡ (one (is_piece b t) + shares_in t fs) = ap (shares t) z in let e : one (is_piece b t) ≡ 1 = ap one y in let i : shares t (w.stack q) + with_job (w.job t) ≤ one (w.job t).counted = ((h.shares).jobs t).alone q in
        omega (arith, a, e, i))

    parted : (t : ℕ) (x : Bool) → is_piece b t ≡ x → entry d (w.job t) ≡ (entry d (w.job t) - one (is_piece b t)) + one (is_piece b t)
    parted t true y = let a : entry d (w.job t) ≡ one (d == d) = entry_on d (w.job t) (count_kind b.count) (had t y) ((said t y).kind) ∙ ap (λ v. one (is_of_scope d (count_kind v))) k in let e : one (d == d) ≡ 1 = self_one d in let f : one (is_piece b t) ≡ 1 = ap one y in omega (arith, a, e, f)
    parted t false y = let f : one (is_piece b t) ≡ 0 = ap one y in omega (arith, f)

lowers_all : (w : World) (q : Party) (b : Pieces) (fs : List Place) → FilledHold w → w.stack q ≡ record { top = LowerForAll b; below = fs } → (p : Bool) → (count_in (place_part w q (LowerForAll b)) b.count == b.workers) ≡ p → target_call (act_of q (LowerForAll b)) ≡ count_call b.count
    → (c : ℕ) → sets_next (LowerForAll b) (if p then Yes else No) ≡ Some c → (stores_now (LowerForAll b) ≡ Some c) ⊎ IsSettled w c
lowers_all w q b fs h z false e t c s = inl s
lowers_all w q b fs h z true e t c s = by b.count refl
  where
    said : KnownCount w b.count b.pool
    said = (top_says w q (LowerForAll b) fs ((h.hold).calls) z).1

    by : (k : Count) → b.count ≡ k → (stores_now (LowerForAll b) ≡ Some c) ⊎ IsSettled w c
    by (OfPool p) y = absurd (let a : None ≡ Some c = ap count_number (sym y) ∙ s in cc)
    by (OfCast d o) y = absurd (subst (λ k. KnownCount w k b.pool) y said)
    by (OfScope d o) y = inr (inr (inr (subst (λ v. ((w.call v).counted ≡ false) × (has_body (w.job (w.call v).job).kind ≡ true)) (number_is d c (ap count_number (sym y) ∙ s))
        (last_pieces w q b d o fs (h.scopes) z y counts, (let a : Tied w d o = subst (λ k. KnownCount w k b.pool) y said in ap has_body (a.kind))))))
      where
        counts : (w.call d).count ≡ b.workers
        counts = ap (λ n. (w.call n).count) (sym (t ∙ ap count_call y)) ∙ ap (λ k. count_in (place_part w q (LowerForAll b)) k) (sym y) ∙ eqb-true (count_in (place_part w q (LowerForAll b)) b.count) b.workers e

next_stores : (x : Place) (e : Seen) (c : ℕ) → is_counting x ≡ false → sets_next x e ≡ Some c → stores_now x ≡ Some c
next_stores (LowerCount k a n) e c z s = cc
next_stores (LowerForAll b) e c z s = cc
next_stores _ e c z s = s

lowers_at : (w : World) (q : Party) (x : Place) (fs : List Place) → FilledHold w → w.stack q ≡ record { top = x; below = fs } → IfSome (outcome w q (record { top = x; below = fs })) (λ r. (c : ℕ) → sets_next x (r.0) ≡ Some c → (stores_now x ≡ Some c) ⊎ IsSettled w c)
lowers_at w (Worker i j) (LowerCount k a n) fs h z = λ c s. lowers_by w (Worker i j) k a n fs h z _ (count_in (place_part w (Worker i j) (LowerCount k a n)) k == 1) refl refl c s
lowers_at w (Caller m) (LowerCount k a n) fs h z = λ c s. lowers_by w (Caller m) k a n fs h z _ (count_in (place_part w (Caller m) (LowerCount k a n)) k == 1) refl refl c s
lowers_at w q (RaiseCount n) fs h z = if_some_all (λ r. (c : ℕ) → sets_next (RaiseCount n) (r.0) ≡ Some c → (stores_now (RaiseCount n) ≡ Some c) ⊎ IsSettled w c) (λ r c s. inl s) (outcome w q (record { top = RaiseCount n; below = fs }))
lowers_at w q (RaiseForAll b) fs h z = if_some_all (λ r. (c : ℕ) → sets_next (RaiseForAll b) (r.0) ≡ Some c → (stores_now (RaiseForAll b) ≡ Some c) ⊎ IsSettled w c) (λ r c s. inl s) (outcome w q (record { top = RaiseForAll b; below = fs }))
lowers_at w (Worker i j) (LowerForAll b) fs h z = λ c s. lowers_all w (Worker i j) b fs h z (count_in (place_part w (Worker i j) (LowerForAll b)) b.count == b.workers) refl refl c s
lowers_at w (Caller m) (LowerForAll b) fs h z = λ c s. lowers_all w (Caller m) b fs h z (count_in (place_part w (Caller m) (LowerForAll b)) b.count == b.workers) refl refl c s
lowers_at w q (PushForAll b) fs h z = if_some_all (λ r. (c : ℕ) → sets_next (PushForAll b) (r.0) ≡ Some c → (stores_now (PushForAll b) ≡ Some c) ⊎ IsSettled w c) (λ r c s. inl s) (outcome w q (record { top = PushForAll b; below = fs }))
lowers_at w q (DealPieces g) fs h z = if_some_all (λ r. (c : ℕ) → sets_next (DealPieces g) (r.0) ≡ Some c → (stores_now (DealPieces g) ≡ Some c) ⊎ IsSettled w c) (λ r c s. inl s) (outcome w q (record { top = DealPieces g; below = fs }))
lowers_at w q x fs h z = if_some_all (λ r. (c : ℕ) → sets_next x (r.0) ≡ Some c → (stores_now x ≡ Some c) ⊎ IsSettled w c) (λ r c s. inl (next_stores x (r.0) c refl s)) (outcome w q (record { top = x; below = fs }))

-- the share of a scope's body goes with the one act that gives it back
counts_lower : (w : World) (q : Party) (k : Count) (a : Share) (n : Then) (fs : List Place) → FilledHold w → w.stack q ≡ record { top = LowerCount k a n; below = fs } → IfSome (outcome w q (record { top = LowerCount k a n; below = fs }))
    (λ r. r.1.call.counted ≡ false → ((place_part w q (LowerCount k a n)).call.counted ≡ false) ⊎ (sets_now (LowerCount k a n) ≡ Some (target_call (act_of q (LowerCount k a n)))))
counts_lower w (Worker i j) (OfScope d o) Body n fs h z = λ y. inr refl
counts_lower w (Worker i j) (OfCast d o) Body n fs h z = absurd (let y : SaysThen w (Worker i j) n × SaysShare w (OfCast d o) Body n = top_says w (Worker i j) (LowerCount (OfCast d o) Body n) fs ((h.hold).calls) z in y.1)
counts_lower w (Worker i j) (OfPool p) Body n fs h z = absurd (let y : SaysThen w (Worker i j) n × SaysShare w (OfPool p) Body n = top_says w (Worker i j) (LowerCount (OfPool p) Body n) fs ((h.hold).calls) z in y.1)
counts_lower w (Caller m) k PoolValue n fs h z = λ y. inl y
counts_lower w (Caller m) k (OfJob u) n fs h z = λ y. inl y
counts_lower w (Caller m) (OfScope d o) Body n fs h z = λ y. inr refl
counts_lower w (Caller m) (OfCast d o) Body n fs h z = absurd (let y : SaysThen w (Caller m) n × SaysShare w (OfCast d o) Body n = top_says w (Caller m) (LowerCount (OfCast d o) Body n) fs ((h.hold).calls) z in y.1)
counts_lower w (Caller m) (OfPool p) Body n fs h z = absurd (let y : SaysThen w (Caller m) n × SaysShare w (OfPool p) Body n = top_says w (Caller m) (LowerCount (OfPool p) Body n) fs ((h.hold).calls) z in y.1)
counts_lower w (Worker i j) k _ n fs h z = λ y. inl y

counts_raise : (w : World) (q : Party) (n : Plan) (done : Part) → done.call.counted ≡ (place_part w q (RaiseCount n)).call.counted → (b : Bool) → IfSome {T = Seen × Part} (if b then Some (Refused, place_part w q (RaiseCount n)) else Some (Done, done))
    (λ r. r.1.call.counted ≡ false → ((place_part w q (RaiseCount n)).call.counted ≡ false) ⊎ (sets_now (RaiseCount n) ≡ Some (target_call (act_of q (RaiseCount n)))))
counts_raise w q n done e true = λ y. inl y
counts_raise w q n done e false = λ y. inl (sym e ∙ y)

counts_all : (w : World) (q : Party) (b : Pieces) (done : Part) → done.call.counted ≡ (place_part w q (RaiseForAll b)).call.counted → (d : Bool) → IfSome {T = Seen × Part} (if d then Some (Refused, place_part w q (RaiseForAll b)) else Some (Done, done))
    (λ r. r.1.call.counted ≡ false → ((place_part w q (RaiseForAll b)).call.counted ≡ false) ⊎ (sets_now (RaiseForAll b) ≡ Some (target_call (act_of q (RaiseForAll b)))))
counts_all w q b done e true = λ y. inl y
counts_all w q b done e false = λ y. inl (sym e ∙ y)

counts_at_act : (w : World) (q : Party) (x : Place) (fs : List Place) → FilledHold w → w.stack q ≡ record { top = x; below = fs } → IfSome (outcome w q (record { top = x; below = fs }))
    (λ r. r.1.call.counted ≡ false → ((place_part w q x).call.counted ≡ false) ⊎ (sets_now x ≡ Some (target_call (act_of q x))))
counts_at_act w q (LowerCount k a n) fs h z = counts_lower w q k a n fs h z
counts_at_act w (Worker i j) (RaiseCount n) fs h z = counts_raise w (Worker i j) n _ refl (count_in (place_part w (Worker i j) (RaiseCount n)) (plan_count n) == 0)
counts_at_act w (Caller m) (RaiseCount n) fs h z = counts_raise w (Caller m) n _ refl (count_in (place_part w (Caller m) (RaiseCount n)) (plan_count n) == 0)
counts_at_act w (Worker i j) (RaiseForAll b) fs h z = counts_all w (Worker i j) b _ refl (count_in (place_part w (Worker i j) (RaiseForAll b)) b.count == 0)
counts_at_act w (Caller m) (RaiseForAll b) fs h z = counts_all w (Caller m) b _ refl (count_in (place_part w (Caller m) (RaiseForAll b)) b.count == 0)
counts_at_act w (Worker i j) (LowerForAll b) fs h z = λ y. inl y
counts_at_act w (Worker i j) (PushForAll b) fs h z = λ y. inl y
counts_at_act w (Worker i j) (DealPieces g) fs h z = λ y. inl y
counts_at_act w (Caller m) (LowerForAll b) fs h z = λ y. inl y
counts_at_act w (Caller m) (PushForAll b) fs h z = λ y. inl y
counts_at_act w (Caller m) (DealPieces g) fs h z = λ y. inl y
counts_at_act w q x fs h z = if_some_map (Uncalled (place_part w q x)) (λ r. r.1.call.counted ≡ false → ((place_part w q x).call.counted ≡ false) ⊎ (sets_now x ≡ Some (target_call (act_of q x)))) (λ r un y. inl (sym (un.counted) ∙ y)) (outcome w q (record { top = x; below = fs }))
    (act_uncalled w.shape q (counts_at w (target_pool q (act_of q x))) (place_part w q x) x refl)

-- no act finds that a result is missing
finds_at : (w : World) (q : Party) (x : Place) (fs : List Place) → FilledHold w → w.stack q ≡ record { top = x; below = fs } → IfSome (outcome w q (record { top = x; below = fs })) (λ r. finds_missing x (r.0) ≡ true → ⊥)
finds_at w (Worker a b) (TakeResult o f) fs h z = if_some_map (λ r. finds_missing (TakeResult o f) (r.0) ≡ true → (w.call o.number).cell ≡ None) (λ r. finds_missing (TakeResult o f) (r.0) ≡ true → ⊥) (λ r g e. take_filled w (Worker a b) o f fs h z (g e))
    (outcome w (Worker a b) (record { top = TakeResult o f; below = fs }))
    (act_finds w.shape (Worker a b) (counts_at w (target_pool (Worker a b) (act_of (Worker a b) (TakeResult o f)))) (place_part w (Worker a b) (TakeResult o f)) o f)
finds_at w (Caller n) (TakeResult o f) fs h z = if_some_map (λ r. finds_missing (TakeResult o f) (r.0) ≡ true → (w.call o.number).cell ≡ None) (λ r. finds_missing (TakeResult o f) (r.0) ≡ true → ⊥) (λ r g e. take_filled w (Caller n) o f fs h z (g e))
    (outcome w (Caller n) (record { top = TakeResult o f; below = fs }))
    (act_finds w.shape (Caller n) (counts_at w (target_pool (Caller n) (act_of (Caller n) (TakeResult o f)))) (place_part w (Caller n) (TakeResult o f)) o f)
finds_at w q x fs h z = if_some_all (λ r. finds_missing x (r.0) ≡ true → ⊥) (λ r e. absurd (let y : says_missing x ≡ false = ap (λ k. says_missing (k.top)) (sym z) ∙ h.found q in cc)) (outcome w q (record { top = x; below = fs }))

deed_of : (w : World) (q : Party) → FilledHold w → IfSome (outcome w q (w.stack q)) (λ r. Deed w q ((w.stack q).top) ((w.stack q).below) r)
deed_of w q h =
    let k : Stack = w.stack q in let x : Place = k.top in
    let c : Counts = counts_at w (target_pool q (act_of q x)) in let m : Part = place_part w q x in let o : Outcome = outcome w q k in
    let P : Seen × Part → Type 0 = λ r. ((SharesHold (result w q k r) × FramesOk (result w q k r)) × (Static m r × Written m x r))
    × (((Tops (Follows x (r.0)) (next_of (w.shape.pool (target_pool q (act_of q x))) q x (r.0)) × SeesSet q m x r) × ((is_growing x ≡ false → StaysSet m r) × (writes_cell x ≡ false → SameCell m r)))
    × (((d : ℕ) → stores_now x ≡ Some d → (target_call (act_of q x) ≡ d) × (r.1.call.cell ≡ None → ⊥)) × (finds_missing x (r.0) ≡ true → ⊥))) in
    let E : Seen × Part → Type 0 = λ r. ((SharesHold (world_after w q x (k.below) r) → ScopesHold (world_after w q x (k.below) r))
    × (((c : ℕ) → sets_next x (r.0) ≡ Some c → (stores_now x ≡ Some c) ⊎ IsSettled w c) × (r.1.call.counted ≡ false → ((place_part w q x).call.counted ≡ false) ⊎ (sets_now x ≡ Some (target_call (act_of q x)))))) in
    if_some_map (λ r. ((P r × Regains w q x r) × E r) × Ready w q x (k.below) r)
    (λ r. Deed w q x (k.below) r)
    (λ r f. let y = f.0 in let g = y.0 in record {
      last = (f.1).last;
      hold = (((g.0).0).0).0;
      scopes = (y.1).0 ((((g.0).0).0).0);
      lowers = ((y.1).1).0;
      counts = ((y.1).1).1;
      frames = (((g.0).0).0).1;
      static = (((g.0).0).1).0;
      written = (((g.0).0).1).1;
      follows = ((((g.0).1).0).0).0;
      sees = ((((g.0).1).0).0).1;
      stays = ((((g.0).1).0).1).0;
      cell = ((((g.0).1).0).1).1;
      stored = (((g.0).1).1).0;
      found = (((g.0).1).1).1;
      regains = g.1;
    })
    o
    (if_some_and (λ r. (P r × Regains w q x r) × E r) (Ready w q x (k.below)) o
    (if_some_and (λ r. P r × Regains w q x r) E o
    (if_some_and P (Regains w q x) o
    (if_some_and (λ r. (SharesHold (result w q k r) × FramesOk (result w q k r)) × (Static m r × Written m x r))
    (λ r. ((Tops (Follows x (r.0)) (next_of (w.shape.pool (target_pool q (act_of q x))) q x (r.0)) × SeesSet q m x r) × ((is_growing x ≡ false → StaysSet m r) × (writes_cell x ≡ false → SameCell m r)))
    × (((d : ℕ) → stores_now x ≡ Some d → (target_call (act_of q x) ≡ d) × (r.1.call.cell ≡ None → ⊥)) × (finds_missing x (r.0) ≡ true → ⊥))) o
    (if_some_and (λ r. SharesHold (result w q k r) × FramesOk (result w q k r)) (λ r. Static m r × Written m x r) o
    (if_some_and (λ r. SharesHold (result w q k r)) (λ r. FramesOk (result w q k r)) o (go_shares w q h.hold) (go_frames w q k refl h.frames))
    (if_some_and (Static m) (Written m x) o (act_static w.shape q c m x) (act_written w.shape q c m x)))
    (if_some_and (λ r. (Tops (Follows x (r.0)) (next_of (w.shape.pool (target_pool q (act_of q x))) q x (r.0)) × SeesSet q m x r) × ((is_growing x ≡ false → StaysSet m r) × (writes_cell x ≡ false → SameCell m r)))
    (λ r. ((d : ℕ) → stores_now x ≡ Some d → (target_call (act_of q x) ≡ d) × (r.1.call.cell ≡ None → ⊥)) × (finds_missing x (r.0) ≡ true → ⊥)) o
    (if_some_and (λ r. Tops (Follows x (r.0)) (next_of (w.shape.pool (target_pool q (act_of q x))) q x (r.0)) × SeesSet q m x r) (λ r. (is_growing x ≡ false → StaysSet m r) × (writes_cell x ≡ false → SameCell m r)) o
    (if_some_and (λ r. Tops (Follows x (r.0)) (next_of (w.shape.pool (target_pool q (act_of q x))) q x (r.0))) (SeesSet q m x) o (follows_on w.shape (w.shape.pool (target_pool q (act_of q x))) q c m x) (act_sees w.shape q c m x))
    (if_some_and (λ r. is_growing x ≡ false → StaysSet m r) (λ r. writes_cell x ≡ false → SameCell m r) o (if_under (is_growing x) (StaysSet m) o (act_stays_set w.shape q c m x)) (if_under (writes_cell x) (SameCell m) o (act_cell w.shape q c m x))))
    (if_some_and (λ r. (d : ℕ) → stores_now x ≡ Some d → (target_call (act_of q x) ≡ d) × (r.1.call.cell ≡ None → ⊥)) (λ r. finds_missing x (r.0) ≡ true → ⊥) o (stores_at w.shape q c m x) (finds_at w q x k.below h refl))))
    (act_regains w q x ((h.hold).calls) (once w (((h.hold).calls).jobs))))
    (if_some_and (λ r. SharesHold (world_after w q x (k.below) r) → ScopesHold (world_after w q x (k.below) r))
    (λ r. ((c : ℕ) → sets_next x (r.0) ≡ Some c → (stores_now x ≡ Some c) ⊎ IsSettled w c) × (r.1.call.counted ≡ false → ((place_part w q x).call.counted ≡ false) ⊎ (sets_now x ≡ Some (target_call (act_of q x))))) o (acts_scopes w q (h.scopes))
    (if_some_and (λ r. (c : ℕ) → sets_next x (r.0) ≡ Some c → (stores_now x ≡ Some c) ⊎ IsSettled w c) (λ r. r.1.call.counted ≡ false → ((place_part w q x).call.counted ≡ false) ⊎ (sets_now x ≡ Some (target_call (act_of q x)))) o (lowers_at w q x (k.below) h refl)
    (counts_at_act w q x (k.below) h refl))))
    (ready w q (h.hold)))

none_of : (n : ℕ) → (1 ≤ n → ⊥) → n ≤ 0
none_of zero f = omega arith
none_of (suc n) f = absurd (f (omega arith))

-- a call that takes has its share alone, and gives it back next
takes_last : (w : World) (q : Party) (o : OpenCall) (f : Option Ending) (fs : List Place) → SharesHold w → w.stack q ≡ record { top = TakeResult o f; below = fs } → (shares_in (o.job) fs ≤ 0) × ((s : Party) → same_party s q ≡ false → shares (o.job) (w.stack s) ≤ 0)
takes_last w q o f fs h z =
    let a : shares (o.job) (w.stack q) ≡ (one (o.job == o.job) + shares_in (o.job) fs) = ap (shares (o.job)) z in
    let b : one (o.job == o.job) ≡ 1 = self_one (o.job) in
    let c : one (w.job o.job).counted ≤ 1 = one_most ((w.job o.job).counted) in (
      (let d : shares (o.job) (w.stack q) + with_job (w.job o.job) ≤ one (w.job o.job).counted = (h.jobs (o.job)).alone q in omega (arith, a, b, c, d)),
      λ s e. (let d : shares (o.job) (w.stack s) + shares (o.job) (w.stack q) ≤ one (w.job o.job).counted = (h.jobs (o.job)).apart s q e in omega (arith, a, b, c, d)),
    )

takes_line : (t : ℕ) (g : PoolShape) (q : Party) (o : OpenCall) (f : Option Ending) (fs : List Place) (e : Seen) → shares_in t fs ≤ 0 → shares t (after_move (next_of g q (TakeResult o f) e) fs) ≤ paid t ((after_move (next_of g q (TakeResult o f) e) fs).top)
takes_line t g q o f fs (Found d) n = omega (arith, n)
takes_line t g q o f fs _ n = omega (arith, n)

-- a job that is taken back is not over
regained_none : (w : World) (q : Party) (x : Place) (r : Seen × Part) → Regains w q x r → (t : ℕ) → is_ended (w.job t).at ≡ true → regained t x (r.0) ≤ 0
regained_none w q (TakeFromFifo f) (Task y, m) g t e = by (t == taken_number y) refl
  where
    idle : (v : Whereabouts) → is_ended v ≡ true → is_busy v ≡ false
    idle (Over d) z = refl
    idle Spent z = refl
    idle _ z = cc

    and_none : (b : Bool) → one (b && false) ≡ 0
    and_none true = refl
    and_none false = refl

    by : (z : Bool) → (t == taken_number y) ≡ z → one (t == taken_number y) ≤ 0
    by true z = absurd (let a : with_job (w.job t) ≡ 1 = ap (λ n. with_job (w.job n)) (eqb-true t (taken_number y) z) ∙ g.1 in let b : with_job (w.job t) ≡ 0 = ap (λ v. one (is_detached (w.job t).kind && v)) (idle ((w.job t).at) e) ∙ and_none (is_detached (w.job t).kind) in omega (arith, a, b))
    by false z = let a : one (t == taken_number y) ≡ 0 = ap one z in omega (arith, a)
regained_none w q x r g t e = omega arith

act_fills : (w : World) (q : Party) (x : Place) (fs : List Place) (r : Seen × Part) → FilledHold w → w.stack q ≡ record { top = x; below = fs } → Deed w q x fs r → FilledHold (world_after w q x fs r)
act_fills w q x fs r h z d = record {
  hold = d.hold;
  scopes = d.scopes;
  frames = d.frames;
  seen = λ s c e. seen s c (same_party s q) refl e;
  wholes = λ t b e. ((d.last).later).gone t (h.wholes t b (ap has_body (sym ((d.last).kinds t)) ∙ e));
  taken = λ s c n a e. subst (λ t. shares t (u.stack s) ≤ paid t ((u.stack s).top)) (sym (targets c)) (taken s c (named c n) (settled c a e) (c == target_call (act_of q x)) refl e);
  grown = λ s. grown s (same_party s q) refl;
  found = λ s. found s (same_party s q) refl;
}
  where
    u : World
    u = world_after w q x fs r

    k : Stack
    k = after_move (next_of (w.shape.pool (target_pool q (act_of q x))) q x (r.0)) fs

    new : Follows x (r.0) (k.top)
    new = top_after (Follows x (r.0)) (next_of (w.shape.pool (target_pool q (act_of q x))) q x (r.0)) fs (d.follows) (λ f y. frame_says (sees_set x (r.0)) (sets_next x (r.0)) (is_grown_well x) (finds_missing x (r.0)) f y) (subst (λ s. AllFrames (s.below)) z (h.frames q))

    targets : (c : ℕ) → (u.call c).job ≡ (w.call c).job
    targets c = put_same (λ a. a.job) w.call (target_call (act_of q x)) (r.1.call) c ((d.static).target)

    kind_same : (c : ℕ) → (u.job (u.call c).job).kind ≡ (w.job (w.call c).job).kind
    kind_same c = ap (λ t. (u.job t).kind) (targets c) ∙ (d.last).kinds ((w.call c).job)

    named : (c : ℕ) → IsNamed u c → IsNamed w c
    named c n = (n.0, ap call_kind (sym (kind_same c)) ∙ n.1)

    grown : (s : Party) (b : Bool) → same_party s q ≡ b → is_grown_well ((if b then k else w.stack s).top) ≡ true
    grown s true y = new.2 (ap (λ i. is_grown_well (i.top)) (sym z) ∙ h.grown q)
    grown s false y = h.grown s

    found : (s : Party) (b : Bool) → same_party s q ≡ b → says_missing ((if b then k else w.stack s).top) ≡ false
    found s true y = elim (either (says_missing (k.top))) [ inl a ↦ absurd (d.found (new.3 a)) | inr a ↦ a ]
    found s false y = h.found s

    stay : (c : ℕ) (b : Bool) → (c == target_call (act_of q x)) ≡ b → (w.call c).latch ≡ IsSet → (if b then r.1.call else w.call c).latch ≡ IsSet
    stay c false y a = a
    stay c true y a =
        let l : (w.call (target_call (act_of q x))).latch ≡ IsSet = subst (λ n. (w.call n).latch ≡ IsSet) (eqb-true c (target_call (act_of q x)) y) a in
        elim (either (is_growing x)) [ inl g ↦ absurd (grow_unsettled w q x fs h z g (inl l)) | inr g ↦ d.stays g l ]

    seen : (s : Party) (c : ℕ) (b : Bool) → same_party s q ≡ b → seen_set ((if b then k else w.stack s).top) ≡ Some c → (u.call c).latch ≡ IsSet
    seen s c false y e = stay c (c == target_call (act_of q x)) refl (h.seen s c e)
    seen s c true y e = stay c (c == target_call (act_of q x)) refl (elim (d.sees c (new.0 c e)) [
      | inl a ↦ h.seen q c (ap (λ n. seen_set (n.top)) z ∙ a)
      | inr a ↦ subst (λ n. (w.call n).latch ≡ IsSet) (a.0) (a.1)
    ])

    settled : (c : ℕ) → IsSettled u c → (u.call c).cell ≡ None → IsSettled w c
    settled c (inl l) e = latch (c == target_call (act_of q x)) refl l
      where
        latch : (b : Bool) → (c == target_call (act_of q x)) ≡ b → (if b then r.1.call else w.call c).latch ≡ IsSet → IsSettled w c
        latch false y a = inl a
        latch true y a = subst (IsSettled w) (sym (eqb-true c (target_call (act_of q x)) y)) (elim ((d.written).call a) [ inl l ↦ inl l | inr l ↦ inr (inl (q, ap (λ n. sets_now (n.top)) z ∙ sets_touched q x l)) ])
    settled c (inr (inr y)) e = elim (back (c == target_call (act_of q x)) refl (y.0)) [ inl l ↦ inr (inr (l, ap has_body (sym (kind_same c)) ∙ y.1)) | inr l ↦ inr (inl (q, l)) ]
      where
        back : (b : Bool) → (c == target_call (act_of q x)) ≡ b → (if b then r.1.call else w.call c).counted ≡ false → ((w.call c).counted ≡ false) ⊎ (sets_now (w.stack q).top ≡ Some c)
        back false i a = inl a
        back true i a = subst (λ n. ((w.call n).counted ≡ false) ⊎ (sets_now (w.stack q).top ≡ Some n)) (sym (eqb-true c (target_call (act_of q x)) i)) (elim (d.counts a) [ inl l ↦ inl l | inr l ↦ inr (ap (λ n. sets_now (n.top)) z ∙ l) ])
    settled c (inr (inl s)) e = setter (same_party (s.0) q) refl (s.1)
      where
        stores : stores_now x ≡ Some c → IsSettled w c
        stores b = let t : (target_call (act_of q x) ≡ c) × (r.1.call.cell ≡ None → ⊥) = d.stored c b in
            absurd (t.1 (ap (λ n. n.cell) (sym (put_new w.call (target_call (act_of q x)) (r.1.call))) ∙ subst (λ n. (put w.call (target_call (act_of q x)) (r.1.call) n).cell ≡ None) (sym (t.0)) e))

        setter : (b : Bool) → same_party (s.0) q ≡ b → sets_now ((if b then k else w.stack (s.0)).top) ≡ Some c → IsSettled w c
        setter false y a = inr (inl (s.0, a))
        setter true y a = elim (d.lowers c (new.1 c a)) [ inl b ↦ stores b | inr b ↦ b ]

    -- where the cell was empty before, its share is given back and not taken
    still : (s : Party) (c : ℕ) → IsNamed w c → IsSettled w c → (w.call c).cell ≡ None → shares ((w.call c).job) (u.stack s) ≤ paid ((w.call c).job) ((u.stack s).top)
    still s c n a e = at (same_party s q) refl
      where
        t : ℕ
        t = (w.call c).job

        mine : shares t k ≤ 0
        mine = let l : shares t (put_stack w.stack q k q) + (pushed t x (r.0) + paid t x) ≡ shares t (w.stack q) + (gained t x (r.0) + regained t x (r.0)) = shares_mine w q x fs (w.shape.pool (target_pool q (act_of q x))) (r.0) t z in
            let y : regained t x (r.0) ≤ 0 = regained_none w q x r (d.regains) t (settled_ended w (h.scopes) (h.wholes) c a) in
            let m : shares t (put_stack w.stack q k q) ≡ shares t k = ap (shares t) (stack_mine w.stack q k) in
            let b : shares t (w.stack q) ≤ paid t ((w.stack q).top) = h.taken q c n a e in
            let p : paid t ((w.stack q).top) ≡ paid t x = ap (λ n. paid t (n.top)) z in
            let v : gained t x (r.0) ≤ hand t x + whole_gain t x = gained_hand t x (r.0) in
            let i : held t (w.stack q) ≡ (hand t x + held_in t fs) = ap (held t) z in
            let f : whole_gain t x ≤ 0 = none_of (whole_gain t x) (whole_none w q x fs c h z n a) in
            let j : hand t x ≤ 0 = none_of (hand t x) (λ y. in_hand w (((h.hold).calls).jobs) q t (omega (arith, i, y)) (settled_ended w (h.scopes) (h.wholes) c a)) in
            let g : gained t x (r.0) ≤ 0 = omega (arith, v, f, j) in
            omega (arith, l, m, b, p, g, y)

        at : (b : Bool) → same_party s q ≡ b → shares t (if b then k else w.stack s) ≤ paid t ((if b then k else w.stack s).top)
        at false y = h.taken s c n a e
        at true y = omega (arith, mine)

    -- where this act empties the cell, the call gives its share back next
    emptied : (s : Party) (y : Place) → x ≡ y → writes_cell y ≡ true → IsSettled w (target_call (act_of q x)) → r.1.call.cell ≡ None → shares ((w.call (target_call (act_of q x))).job) (u.stack s) ≤ paid ((w.call (target_call (act_of q x))).job) ((u.stack s).top)
    emptied s (GrowCall n) i y a e = absurd (grow_unsettled w q x fs h z (ap is_growing i) a)
    emptied s (GrowScope o) i y a e = absurd (grow_unsettled w q x fs h z (ap is_growing i) a)
    emptied s (GrowCast g) i y a e = absurd (grow_unsettled w q x fs h z (ap is_growing i) a)
    emptied s (StorePiece c o t v) i y a e = absurd ((d.stored c (ap stores_now i)).1 e)
    emptied s (StoreBody o v) i y a e = absurd ((d.stored (o.number) (ap stores_now i)).1 e)
    emptied s (StoreResult c o v) i y a e = absurd ((d.stored c (ap stores_now i)).1 e)
    emptied s (TakeResult o f) i y a e = subst (λ v. shares ((w.call (target_call (act_of q v))).job) ((world_after w q v fs r).stack s) ≤ paid ((w.call (target_call (act_of q v))).job) (((world_after w q v fs r).stack s).top)) (sym i) (at q s refl (z ∙ ap (λ v. record { top = v; below = fs }) i))
      where
        at : (g s : Party) → q ≡ g → w.stack q ≡ record { top = TakeResult o f; below = fs } → shares ((w.call (target_call (act_of q (TakeResult o f)))).job) ((world_after w q (TakeResult o f) fs r).stack s) ≤ paid ((w.call (target_call (act_of q (TakeResult o f)))).job)
            (((world_after w q (TakeResult o f) fs r).stack s).top)
        at g s ig zt = subst (λ c. shares ((w.call c).job) ((world_after w q (TakeResult o f) fs r).stack s) ≤ paid ((w.call c).job) (((world_after w q (TakeResult o f) fs r).stack s).top)) (sym (take_target q o f))
            (subst (λ t. shares t ((world_after w q (TakeResult o f) fs r).stack s) ≤ paid t (((world_after w q (TakeResult o f) fs r).stack s).top)) (sym (((top_says w q (TakeResult o f) fs ((h.hold).calls) zt).0).target)) (by (same_party s q) refl))
          where
            v : Stack
            v = after_move (next_of (w.shape.pool (target_pool q (act_of q (TakeResult o f)))) q (TakeResult o f) (r.0)) fs

            by : (b : Bool) → same_party s q ≡ b → shares (o.job) (if b then v else w.stack s) ≤ paid (o.job) ((if b then v else w.stack s).top)
            by true y = takes_line (o.job) (w.shape.pool (target_pool q (act_of q (TakeResult o f)))) q o f fs (r.0) ((takes_last w q o f fs (h.hold) zt).0)
            by false y = let n : shares (o.job) (w.stack s) ≤ 0 = (takes_last w q o f fs (h.hold) zt).1 s y in omega (arith, n)
    emptied s _ i y a e = cc

    taken : (s : Party) (c : ℕ) → IsNamed w c → IsSettled w c → (b : Bool) → (c == target_call (act_of q x)) ≡ b → (if b then r.1.call else w.call c).cell ≡ None → shares ((w.call c).job) (u.stack s) ≤ paid ((w.call c).job) ((u.stack s).top)
    taken s c n a false y e = still s c n a e
    taken s c n a true y e =
        let i : c ≡ target_call (act_of q x) = eqb-true c (target_call (act_of q x)) y in
        let ax : IsSettled w (target_call (act_of q x)) = subst (IsSettled w) i a in
        subst (λ n. shares ((w.call n).job) (u.stack s) ≤ paid ((w.call n).job) ((u.stack s).top)) (sym i) (elim (either (writes_cell x)) [
          | inl b ↦ emptied s x refl b ax e
          | inr b ↦ still s (target_call (act_of q x)) (subst (IsNamed w) i n) ax (sym (d.cell b) ∙ e)
        ])

pub go_fills : (w : World) (q : Party) → FilledHold w → IfSome (outcome w q (w.stack q)) (λ r. FilledHold (result w q (w.stack q) r))
go_fills w q h = if_some_map (λ r. Deed w q ((w.stack q).top) ((w.stack q).below) r) (λ r. FilledHold (result w q (w.stack q) r)) (λ r d. act_fills w q ((w.stack q).top) ((w.stack q).below) r h refl d) (outcome w q (w.stack q)) (deed_of w q h)
