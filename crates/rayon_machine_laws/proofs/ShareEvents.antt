-- each step keeps the shares, and a pool whose terminate latch is set has none left
use Rattle.rayon_machine_places.specs.declared.place.Gathering.{Gathering}
use Rattle.rayon_machine_places.specs.declared.place.Mark.TheVariants.{Queued, Dealt}
use Rattle.rayon_machine_places.specs.declared.place.Pieces.{Pieces}
use Rattle.rayon_machine_places.specs.declared.place.Count.TheVariants.{OfPool, OfScope, OfCast}
use Rattle.std.proofs.Common.{arith, refl, sym, ◌∙◌, ap, subst}
use Rattle.std.specs.Prelude.{ℕ, Bool, true, false, ◌&&◌, ◌+◌, ◌==◌, ◌≤◌, nat_lt, if◌then◌else◌, Option, Some, None, List, ◌∷◌, ◌≡◌, IfSome}
use Rattle.std.proofs.lemmas.Bool.{eqb-true}
use Rattle.rayon_machine_places.specs.declared.place.Party.{Party}
use Rattle.rayon_machine_places.specs.declared.place.Party.TheVariants.{Worker, Caller}
use Rattle.rayon_machine_places.specs.declared.place.Plan.{Plan}
use Rattle.rayon_machine_places.specs.declared.place.Plan.TheVariants.{Detach, Here, Send, Fork, Feed, Open, Enter, Gather}
use Rattle.rayon_machine_places.specs.declared.place.Share.TheVariants.{PoolValue, OfJob, Body}
use Rattle.rayon_machine_places.specs.declared.place.Then.TheVariants.{Resume}
use Rattle.rayon_machine_places.specs.declared.place.Place.{Place}
use Rattle.rayon_machine_places.specs.declared.place.Place.TheVariants.{PickVictim, StealFrom, YieldPick, YieldSteal, RaiseCount, GrowCall, PushJob, LowerCount, AddToFifo, PushToken, TakeFromFifo, RaiseForAll, PushForAll, LowerForAll, GrowScope, OpenSlot, OpenForAll, GrowCast, DealPieces}
use Rattle.rayon_machine_places.specs.declared.place.Move.{Move}
use Rattle.rayon_machine_places.specs.declared.place.Move.TheVariants.{Stay, Enter, StartRun, Back, HandBack, Discard, HandIn, Mark, HandAllBack}
use Rattle.rayon_machine_places.specs.declared.act.Seen.{Seen}
use Rattle.rayon_machine_places.specs.declared.act.Seen.TheVariants.{Refused, Yes, No, Missing, Start, Task, Done}
use Rattle.rayon_machine_places.specs.declared.shape.PoolShape.{PoolShape}
use Rattle.rayon_machine_places.specs.Places.{same_party, own_pool, act_of, next_of, is_free, taken_number, plan_count}
use Rattle.rayon_machine_runs.specs.World.{Stack, World, counts_at, Part, effect, count_in}
use Rattle.rayon_machine_places.specs.Targets.{target_pool, target_worker, target_call}
use Rattle.rayon_machine_runs.specs.Steps.{put, put_stack, after_move, after_choice, after_refusal, can_miss, after_miss, after_call, is_pool, after_yield, after_end_pool}
use Rattle.rayon_machine_laws.specs.Once.{one}
use Rattle.rayon_machine_laws.specs.Shares.{share, shares_in, shares}
use Rattle.rayon_machine_laws.proofs.Frame.{and_parts, same_party_true, if_some_and, if_some_map, if_cond, put_same, put_new, after_pool, stack_mine, if_some_each, is_sharing, if_some_all}
use Rattle.rayon_machine_laws.proofs.Ties.{job_at, outcome, result}
use Rattle.rayon_machine_laws.proofs.Placed.{Kept}
use Rattle.rayon_machine_laws.proofs.PlacedEvents.{go_kept, no_deals, is_dealing}
use Rattle.rayon_machine_laws.proofs.PlacedRuns.{once}
use Rattle.rayon_machine_laws.proofs.Claims.{is_detached, SaysMove, says_next, SaysThen, SaysShare, is_part}
use Rattle.rayon_machine_laws.proofs.Later.{later_says, Static, act_static}
use Rattle.rayon_machine_laws.proofs.ClaimActs.{Lasting, lasting, Learned, act_learned, Written, act_written, Lines, line_table}
use Rattle.rayon_machine_laws.proofs.ClaimRuns.{CallsHold, world_after, place_part, learns, act_calls, top_says, unqueued}
use Rattle.rayon_machine_laws.proofs.Amounts.{regained, raises, values, raises_in, values_in, all_raises, all_values, gained, pushed, paid}
use Rattle.rayon_machine_laws.proofs.ShareActs.{with_job, SharesHold, Regains, act_regains, is_tally, Untallied, same_untallied, act_untallied, Stays, act_stays}
use Rattle.rayon_machine_laws.proofs.Lost.{Unlost, act_unlost, dealt_stays}
use Rattle.rayon_machine_laws.proofs.ShareRuns.{StartsAwaited, says_starts, busy_step, shares_mine, other_le, values_mine, raises_all, still_hold, dealt}
use Rattle.rayon_machine_laws.proofs.ShareSteps.{Ready, plain_hold, raised_world, raise_hold, no_steady, refused_hold, raise_all_hold, all_raised, deal_hold}
use Rattle.rayon_machine_laws.proofs.ShareLowers.{lowered_world, lower_job, lower_value, lower_all_hold, all_lowered}

-- the share that comes back to a call was the job's own
regain : (w : World) (q : Party) (x : Place) (fs : List Place) (r : Seen × Part) → Regains w q x r → (t : ℕ) → with_job ((world_after w q x fs r).job t) ≤ with_job (w.job t) + pushed t x (r.0) → with_job ((world_after w q x fs r).job t) + regained t x (r.0) ≤ with_job (w.job t) + pushed t x (r.0)
regain w q (TakeFromFifo f) fs (Task y, m) g t b = by (t == taken_number y) refl
  where
    n0 : ℕ
    n0 = job_at w q (act_of q (TakeFromFifo f))

    now : (z : ℕ) → n0 ≡ z → put w.job n0 m.job z ≡ m.job
    now z e = subst (λ z. put w.job n0 m.job z ≡ m.job) e (put_new w.job n0 m.job)

    idle : with_job (put w.job n0 m.job (taken_number y)) ≡ 0
    idle = ap with_job (now (taken_number y) (g.0)) ∙ ap (λ v. one (is_detached m.job.kind && v)) (g.2) ∙ none (is_detached m.job.kind)
      where
        none : (z : Bool) → one (z && false) ≡ 0
        none true = refl
        none false = refl

    by : (z : Bool) → (t == taken_number y) ≡ z → with_job (put w.job n0 m.job t) + one (t == taken_number y) ≤ with_job (w.job t) + 0
    by true e = let i : t ≡ taken_number y = eqb-true t (taken_number y) e in let a : with_job (put w.job n0 m.job t) ≡ 0 = ap (λ n. with_job (put w.job n0 m.job n)) i ∙ idle in let c : with_job (w.job t) ≡ 1 = ap (λ n. with_job (w.job n)) i ∙ g.1 in let d : one (t == taken_number y) ≡ 1 =
        ap one e in omega (arith, a, c, d)
    by false e = let d : one (t == taken_number y) ≡ 0 = ap one e in omega (arith, b, d)
regain w q x fs r g t b = omega (arith, b)

-- what a move deals, the act has pushed
none_dealt : (t : ℕ) (g : Move) → is_dealing g ≡ false → dealt t g ≡ 0
none_dealt t (Mark y c Queued) e = absurd (cc)
none_dealt t (Mark y c Dealt) e = absurd (cc)
none_dealt t _ e = refl

push_dealt : (t : ℕ) (g : PoolShape) (q : Party) (c : Pieces) (e : Seen) → dealt t (next_of g q (PushForAll c) e) ≤ pushed t (PushForAll c) e
push_dealt t g q c Done = omega arith
push_dealt t g q c _ = omega arith

deal_dealt : (t : ℕ) (g : PoolShape) (q : Party) (b : Gathering) (e : Seen) → dealt t (next_of g q (DealPieces b) e) ≤ pushed t (DealPieces b) e
deal_dealt t g q b Done = omega arith
deal_dealt t g q b _ = omega arith

act_deals : (w : World) (q : Party) (x : Place) → IfSome (effect (act_of q x) w.shape q (counts_at w (target_pool q (act_of q x))) (place_part w q x)) (λ r. (t : ℕ) → dealt t (next_of (w.shape.pool (target_pool q (act_of q x))) q x (r.0)) ≤ pushed t x (r.0))
act_deals w q (PushForAll c) = if_some_all {A = Seen × Part} (λ r. (t : ℕ) → dealt t (next_of (w.shape.pool (target_pool q (act_of q (PushForAll c)))) q (PushForAll c) (r.0)) ≤ pushed t (PushForAll c) (r.0))
    (λ r t. push_dealt t (w.shape.pool (target_pool q (act_of q (PushForAll c)))) q c (r.0)) (effect (act_of q (PushForAll c)) w.shape q (counts_at w (target_pool q (act_of q (PushForAll c)))) (place_part w q (PushForAll c)))
act_deals w q (DealPieces b) = if_some_all {A = Seen × Part} (λ r. (t : ℕ) → dealt t (next_of (w.shape.pool (target_pool q (act_of q (DealPieces b)))) q (DealPieces b) (r.0)) ≤ pushed t (DealPieces b) (r.0))
    (λ r t. deal_dealt t (w.shape.pool (target_pool q (act_of q (DealPieces b)))) q b (r.0)) (effect (act_of q (DealPieces b)) w.shape q (counts_at w (target_pool q (act_of q (DealPieces b)))) (place_part w q (DealPieces b)))
act_deals w q x = if_some_map (λ r. is_dealing (next_of (w.shape.pool (target_pool q (act_of q x))) q x (r.0)) ≡ false) (λ r. (t : ℕ) → dealt t (next_of (w.shape.pool (target_pool q (act_of q x))) q x (r.0)) ≤ pushed t x (r.0))
    (λ r z t. (let a : dealt t (next_of (w.shape.pool (target_pool q (act_of q x))) q x (r.0)) ≡ 0 = none_dealt t (next_of (w.shape.pool (target_pool q (act_of q x))) q x (r.0)) z in omega (arith, a))) _
    (no_deals w.shape (w.shape.pool (target_pool q (act_of q x))) q (counts_at w (target_pool q (act_of q x))) (place_part w q x) x refl)

-- what an act deals, and that it hands nothing back itself
abbrev DealsLess : World → Party → Place → Seen × Part → Type 0
DealsLess w q x r = ((t : ℕ) → dealt t (next_of (w.shape.pool (target_pool q (act_of q x))) q x (r.0)) ≤ pushed t x (r.0)) × Unlost (place_part w q x) r

deals_less : (w : World) (q : Party) (x : Place) → IfSome (effect (act_of q x) w.shape q (counts_at w (target_pool q (act_of q x))) (place_part w q x)) (DealsLess w q x)
deals_less w q x = if_some_and (λ r. (t : ℕ) → dealt t (next_of (w.shape.pool (target_pool q (act_of q x))) q x (r.0)) ≤ pushed t x (r.0)) (Unlost (place_part w q x)) (effect (act_of q x) w.shape q (counts_at w (target_pool q (act_of q x))) (place_part w q x)) (act_deals w q x)
    (act_unlost w.shape q (counts_at w (target_pool q (act_of q x))) (place_part w q x) x)

pub ready : (w : World) (q : Party) → SharesHold w → IfSome (outcome w q (w.stack q)) (λ r. Ready w q ((w.stack q).top) ((w.stack q).below) r)
ready w q h =
    let k = w.stack q in let x = k.top in
    if_some_map (λ r. (((Static (place_part w q x) r × Learned w.shape q (place_part w q x) x r) × (Written (place_part w q x) x r × Kept w (result w q k r))) × Stays (place_part w q x) x (job_at w q (act_of q x)) r)
    × ((((i : Option ℕ × ℕ) → Lines (place_part w q x) (i.0) (i.1) x r) × Regains w q x r) × DealsLess w q x r)) (λ r. Ready w q x (k.below) r)
    (λ r g. (let f : ((Static (place_part w q x) r × Learned w.shape q (place_part w q x) x r) × (Written (place_part w q x) x r × Kept w (result w q k r))) × Stays (place_part w q x) x (job_at w q (act_of q x)) r = g.0 in
    let ch : CallsHold (world_after w q x (k.below) r) = act_calls w q x (k.below) r (h.calls) refl (((f.0).0).0) (((f.0).1).1) (((f.0).0).1) (((f.0).1).0) (λ v t. ((g.1).0).0 (v, t)) in
    let la : Lasting w (world_after w q x (k.below) r) = lasting w q k (target_pool q (act_of q x)) (target_worker q (act_of q x)) (target_call (act_of q x)) (job_at w q (act_of q x)) r (((f.0).0).0) (((f.0).1).1) in
    let sm : SaysMove (world_after w q x (k.below) r) q (next_of (w.shape.pool (target_pool q (act_of q x))) q x (r.0)) =
    says_next (world_after w q x (k.below) r) (w.shape.pool (target_pool q (act_of q x))) q x (r.0) (learns w q x (k.below) r (h.calls) refl (((f.0).1).1) la (((f.0).0).1)) (later_says w (world_after w q x (k.below) r) (la.later) q x (((h.calls).says q).top)) in
    let starts : StartsAwaited w (next_of (w.shape.pool (target_pool q (act_of q x))) q x (r.0)) = starts_back w (world_after w q x (k.below) r) la (next_of (w.shape.pool (target_pool q (act_of q x))) q x (r.0))
    (says_starts (world_after w q x (k.below) r) q (next_of (w.shape.pool (target_pool q (act_of q x))) q x (r.0)) sm) in
    let busy : (t : ℕ) → with_job ((world_after w q x (k.below) r).job t) ≤ with_job (w.job t) + pushed t x (r.0) = busy_step w q x (k.below) r (((f.0).1).1) la starts (f.1) (((g.1).1).0) in
    record {
      hold = h;
      stack = refl;
      last = la;
      calls = ch;
      starts = starts;
      busy = busy;
      regains = λ t. regain w q x (k.below) r (((g.1).0).1) t (busy t);
      pools = λ t. after_pool q (next_of (w.shape.pool (target_pool q (act_of q x))) q x (r.0)) (put w.job (job_at w q (act_of q x)) (r.1.job)) t ∙ put_same (λ j. j.pool) w.job (job_at w q (act_of q x)) (r.1.job) t ((((f.0).0).0).pool);
      dealt = dealt_stays w q x (k.below) r (h.calls) refl starts (((g.1).1).1) ((la.later).left);
      held = λ p. put_same (λ v. v.held) w.pool (target_pool q (act_of q x)) (r.1.pool) p ((((f.0).0).0).held);
    }))
    (outcome w q k)
    (if_some_and (λ r. ((Static (place_part w q x) r × Learned w.shape q (place_part w q x) x r) × (Written (place_part w q x) x r × Kept w (result w q k r))) × Stays (place_part w q x) x (job_at w q (act_of q x)) r)
    (λ r. (((i : Option ℕ × ℕ) → Lines (place_part w q x) (i.0) (i.1) x r) × Regains w q x r) × DealsLess w q x r) (outcome w q k)
    (if_some_and (λ r. (Static (place_part w q x) r × Learned w.shape q (place_part w q x) x r) × (Written (place_part w q x) x r × Kept w (result w q k r))) (Stays (place_part w q x) x (job_at w q (act_of q x))) (outcome w q k)
    (if_some_and (λ r. Static (place_part w q x) r × Learned w.shape q (place_part w q x) x r) (λ r. Written (place_part w q x) x r × Kept w (result w q k r)) (outcome w q k)
    (if_some_and (Static (place_part w q x)) (Learned w.shape q (place_part w q x) x) (outcome w q k) (act_static w.shape q (counts_at w (target_pool q (act_of q x))) (place_part w q x) x) (act_learned w.shape q (counts_at w (target_pool q (act_of q x))) (place_part w q x) x))
    (if_some_and (Written (place_part w q x) x) (λ r. Kept w (result w q k r)) (outcome w q k) (act_written w.shape q (counts_at w (target_pool q (act_of q x))) (place_part w q x) x) (go_kept w q (unqueued w (h.calls) q) (((h.calls).jobs).feeds) (((h.calls).jobs).ok))))
    (act_stays w q x (once w ((h.calls).jobs)) (((h.calls).says q).top)))
    (if_some_and (λ r. ((i : Option ℕ × ℕ) → Lines (place_part w q x) (i.0) (i.1) x r) × Regains w q x r) (λ r. DealsLess w q x r) (outcome w q k)
    (if_some_and (λ r. (i : Option ℕ × ℕ) → Lines (place_part w q x) (i.0) (i.1) x r) (Regains w q x) (outcome w q k)
    (if_some_each {I = Option ℕ × ℕ} (λ i r. Lines (place_part w q x) (i.0) (i.1) x r) (outcome w q k) (λ i. line_table w.shape q (counts_at w (target_pool q (act_of q x))) (place_part w q x) (i.0) (i.1) x))
    (act_regains w q x (h.calls) (once w ((h.calls).jobs))))
    (deals_less w q x)))
  where
    starts_back : (w u : World) → Lasting w u → (g : Move) → StartsAwaited u g → StartsAwaited w g
    starts_back w u l (StartRun f a) s = ap is_detached (sym (l.kinds a)) ∙ s
    starts_back w u l (Stay y) s = tt
    starts_back w u l (HandIn y k) s = ap is_detached (sym (l.kinds k)) ∙ s
    starts_back w u l (Enter f y) s = tt
    starts_back w u l (Mark y c m) s = λ t e. ap is_detached (sym (l.kinds t)) ∙ s t e
    starts_back w u l (HandAllBack c) s = λ t e. ap is_detached (sym (l.kinds t)) ∙ s t e
    starts_back w u l Back s = tt
    starts_back w u l (HandBack (Feed d)) s = (ap is_detached (sym (l.kinds d.job)) ∙ s.0, ap is_part (sym (l.kinds d.job)) ∙ s.1)
    starts_back w u l (HandBack (Detach p t)) s = tt
    starts_back w u l (HandBack (Here p t)) s = tt
    starts_back w u l (HandBack (Send o)) s = tt
    starts_back w u l (HandBack (Open o)) s = tt
    starts_back w u l (HandBack (Enter e)) s = tt
    starts_back w u l (HandBack (Fork o a)) s = tt
    starts_back w u l (HandBack (Gather g)) s = tt
    starts_back w u l (Discard k) s = ap is_detached (sym (l.kinds k)) ∙ s

-- the acts that raise a count, done or refused
raise_go : (w : World) (q : Party) (n : Plan) (fs : List Place) → ((r : Seen × Part) → Ready w q (RaiseCount n) fs r → Untallied (place_part w q (RaiseCount n)) r → is_sharing (next_of (w.shape.pool (target_pool q (act_of q (RaiseCount n)))) q (RaiseCount n) (r.0)) ≡ false
    → ((t : ℕ) → gained t (RaiseCount n) (r.0) ≡ 0) → SharesHold (world_after w q (RaiseCount n) fs r)) → (done : Seen × Part) → (Ready w q (RaiseCount n) fs done → SharesHold (world_after w q (RaiseCount n) fs done)) → (b : Bool)
    → IfSome (if b then Some (Refused, place_part w q (RaiseCount n)) else Some done) (Ready w q (RaiseCount n) fs) → IfSome (if b then Some (Refused, place_part w q (RaiseCount n)) else Some done) (λ r. SharesHold (world_after w q (RaiseCount n) fs r))
raise_go w q n fs plain done f true d = plain (Refused, place_part w q (RaiseCount n)) d (same_untallied (place_part w q (RaiseCount n)) Refused) refl (λ t. refl)
raise_go w q n fs plain done f false d = f d

pub ungained : (t : ℕ) (x : Place) (e : Seen) → is_tally x ≡ false → gained t x e ≡ 0
ungained t (RaiseCount n) e z = cc
ungained t (RaiseForAll c) e z = cc
ungained t (DealPieces b) e z = cc
ungained t _ e z = refl

plain_go : (w : World) (q : Party) (x : Place) (fs : List Place) → is_tally x ≡ false → IfSome (outcome w q (record { top = x; below = fs })) (Ready w q x fs) → IfSome (outcome w q (record { top = x; below = fs })) (λ r. SharesHold (world_after w q x fs r))
plain_go w q x fs z d = if_some_map (λ r. Ready w q x fs r × (Untallied (place_part w q x) r × (is_sharing (next_of (w.shape.pool (target_pool q (act_of q x))) q x (r.0)) ≡ false))) (λ r. SharesHold (world_after w q x fs r))
    (λ r f. plain_hold w q x fs r (f.0) ((f.1).0) ((f.1).1) (λ t. ungained t x (r.0) z)) (outcome w q (record { top = x; below = fs }))
    (if_some_and (Ready w q x fs) (λ r. Untallied (place_part w q x) r × (is_sharing (next_of (w.shape.pool (target_pool q (act_of q x))) q x (r.0)) ≡ false)) (outcome w q (record { top = x; below = fs })) d
    (if_some_and (Untallied (place_part w q x)) (λ r. is_sharing (next_of (w.shape.pool (target_pool q (act_of q x))) q x (r.0)) ≡ false) (outcome w q (record { top = x; below = fs })) (act_untallied w.shape q (counts_at w (target_pool q (act_of q x))) (place_part w q x) x z)
    (no_steady w.shape (w.shape.pool (target_pool q (act_of q x))) q (counts_at w (target_pool q (act_of q x))) (place_part w q x) x z)))

-- the acts of a broadcast on the count
raise_all_go : (w : World) (q : Party) (c : Pieces) (fs : List Place) → (Ready w q (RaiseForAll c) fs (Refused, place_part w q (RaiseForAll c)) → SharesHold (world_after w q (RaiseForAll c) fs (Refused, place_part w q (RaiseForAll c)))) → (done : Seen × Part)
    → (Ready w q (RaiseForAll c) fs done → SharesHold (world_after w q (RaiseForAll c) fs done)) → (b : Bool) → IfSome (if b then Some (Refused, place_part w q (RaiseForAll c)) else Some done) (Ready w q (RaiseForAll c) fs)
    → IfSome (if b then Some (Refused, place_part w q (RaiseForAll c)) else Some done) (λ r. SharesHold (world_after w q (RaiseForAll c) fs r))
raise_all_go w q c fs none done f true d = none d
raise_all_go w q c fs none done f false d = f d

go_by : (w : World) (q : Party) (x : Place) (fs : List Place) → w.stack q ≡ record { top = x; below = fs } → SharesHold w → IfSome (outcome w q (record { top = x; below = fs })) (Ready w q x fs) → IfSome (outcome w q (record { top = x; below = fs })) (λ r. SharesHold (world_after w q x fs r))
go_by w (Worker a b) (RaiseCount n) fs z h d = raise_go w (Worker a b) n fs (λ r y un st none. plain_hold w (Worker a b) (RaiseCount n) fs r y un st none) _
    (λ y. raise_hold w (Worker a b) n fs h z (y.calls) (λ t. (let e : with_job ((raised_world w (Worker a b) n fs).job t) ≤ with_job (w.job t) + 0 = y.busy t in omega (arith, e))) ((y.last).kinds) (y.pools) (y.held)) (count_in (place_part w (Worker a b) (RaiseCount n)) (plan_count n) == 0) d
go_by w (Worker a b) (LowerCount (OfPool r) (OfJob u) n) fs z h d = lower_job w (Worker a b) (OfPool r) u n fs (if count_in (place_part w (Worker a b) (LowerCount (OfPool r) (OfJob u) n)) (OfPool r) == 1 then Yes else No) h z (d.calls)
    (λ t. (let e : with_job ((lowered_world w (Worker a b) (OfPool r) (OfJob u) n fs (if count_in (place_part w (Worker a b) (LowerCount (OfPool r) (OfJob u) n)) (OfPool r) == 1 then Yes else No)).job t) ≤ with_job (w.job t) + 0 = d.busy t in omega (arith, e))) ((d.last).kinds) (d.pools) (d.held)
go_by w (Worker a b) (LowerCount (OfScope x o) (OfJob u) n) fs z h d = lower_job w (Worker a b) (OfScope x o) u n fs (if count_in (place_part w (Worker a b) (LowerCount (OfScope x o) (OfJob u) n)) (OfScope x o) == 1 then Yes else No) h z (d.calls)
    (λ t. (let e : with_job ((lowered_world w (Worker a b) (OfScope x o) (OfJob u) n fs (if count_in (place_part w (Worker a b) (LowerCount (OfScope x o) (OfJob u) n)) (OfScope x o) == 1 then Yes else No)).job t) ≤ with_job (w.job t) + 0 = d.busy t in omega (arith, e))) ((d.last).kinds)
    (d.pools) (d.held)
go_by w (Worker a b) (LowerCount (OfCast x o) (OfJob u) n) fs z h d = lower_job w (Worker a b) (OfCast x o) u n fs (if count_in (place_part w (Worker a b) (LowerCount (OfCast x o) (OfJob u) n)) (OfCast x o) == 1 then Yes else No) h z (d.calls)
    (λ t. (let e : with_job ((lowered_world w (Worker a b) (OfCast x o) (OfJob u) n fs (if count_in (place_part w (Worker a b) (LowerCount (OfCast x o) (OfJob u) n)) (OfCast x o) == 1 then Yes else No)).job t) ≤ with_job (w.job t) + 0 = d.busy t in omega (arith, e))) ((d.last).kinds) (d.pools)
    (d.held)
go_by w (Worker a b) (LowerCount (OfPool r) PoolValue n) fs z h d = lower_value w (Worker a b) r n fs (if count_in (place_part w (Worker a b) (LowerCount (OfPool r) PoolValue n)) (OfPool r) == 1 then Yes else No) h z (d.calls)
    (λ t. (let e : with_job ((lowered_world w (Worker a b) (OfPool r) PoolValue n fs (if count_in (place_part w (Worker a b) (LowerCount (OfPool r) PoolValue n)) (OfPool r) == 1 then Yes else No)).job t) ≤ with_job (w.job t) + 0 = d.busy t in omega (arith, e))) ((d.last).kinds) (d.pools) (d.held)
go_by w (Worker a b) (LowerCount (OfPool r) Body n) fs z h d = absurd (let s : SaysThen w (Worker a b) n × SaysShare w (OfPool r) Body n = top_says w (Worker a b) (LowerCount (OfPool r) Body n) fs (h.calls) z in s.1)
go_by w (Worker a b) (LowerCount (OfScope x o) PoolValue n) fs z h d = absurd (let s : SaysThen w (Worker a b) n × SaysShare w (OfScope x o) PoolValue n = top_says w (Worker a b) (LowerCount (OfScope x o) PoolValue n) fs (h.calls) z in s.1)
go_by w (Worker a b) (LowerCount (OfCast x o) PoolValue n) fs z h d = absurd (let s : SaysThen w (Worker a b) n × SaysShare w (OfCast x o) PoolValue n = top_says w (Worker a b) (LowerCount (OfCast x o) PoolValue n) fs (h.calls) z in s.1)
go_by w (Worker a b) (LowerCount (OfCast x o) Body n) fs z h d = absurd (let s : SaysThen w (Worker a b) n × SaysShare w (OfCast x o) Body n = top_says w (Worker a b) (LowerCount (OfCast x o) Body n) fs (h.calls) z in s.1)
go_by w (Worker a b) (LowerCount (OfScope x o) Body n) fs z h d = plain_go w (Worker a b) (LowerCount (OfScope x o) Body n) fs refl d
go_by w (Caller c) (RaiseCount n) fs z h d = raise_go w (Caller c) n fs (λ r y un st none. plain_hold w (Caller c) (RaiseCount n) fs r y un st none) _
    (λ y. raise_hold w (Caller c) n fs h z (y.calls) (λ t. (let e : with_job ((raised_world w (Caller c) n fs).job t) ≤ with_job (w.job t) + 0 = y.busy t in omega (arith, e))) ((y.last).kinds) (y.pools) (y.held)) (count_in (place_part w (Caller c) (RaiseCount n)) (plan_count n) == 0) d
go_by w (Caller c) (LowerCount (OfPool r) (OfJob u) n) fs z h d = lower_job w (Caller c) (OfPool r) u n fs (if count_in (place_part w (Caller c) (LowerCount (OfPool r) (OfJob u) n)) (OfPool r) == 1 then Yes else No) h z (d.calls)
    (λ t. (let e : with_job ((lowered_world w (Caller c) (OfPool r) (OfJob u) n fs (if count_in (place_part w (Caller c) (LowerCount (OfPool r) (OfJob u) n)) (OfPool r) == 1 then Yes else No)).job t) ≤ with_job (w.job t) + 0 = d.busy t in omega (arith, e))) ((d.last).kinds) (d.pools) (d.held)
go_by w (Caller c) (LowerCount (OfScope x o) (OfJob u) n) fs z h d = lower_job w (Caller c) (OfScope x o) u n fs (if count_in (place_part w (Caller c) (LowerCount (OfScope x o) (OfJob u) n)) (OfScope x o) == 1 then Yes else No) h z (d.calls)
    (λ t. (let e : with_job ((lowered_world w (Caller c) (OfScope x o) (OfJob u) n fs (if count_in (place_part w (Caller c) (LowerCount (OfScope x o) (OfJob u) n)) (OfScope x o) == 1 then Yes else No)).job t) ≤ with_job (w.job t) + 0 = d.busy t in omega (arith, e))) ((d.last).kinds) (d.pools)
    (d.held)
go_by w (Caller c) (LowerCount (OfCast x o) (OfJob u) n) fs z h d = lower_job w (Caller c) (OfCast x o) u n fs (if count_in (place_part w (Caller c) (LowerCount (OfCast x o) (OfJob u) n)) (OfCast x o) == 1 then Yes else No) h z (d.calls)
    (λ t. (let e : with_job ((lowered_world w (Caller c) (OfCast x o) (OfJob u) n fs (if count_in (place_part w (Caller c) (LowerCount (OfCast x o) (OfJob u) n)) (OfCast x o) == 1 then Yes else No)).job t) ≤ with_job (w.job t) + 0 = d.busy t in omega (arith, e))) ((d.last).kinds) (d.pools) (d.held)
go_by w (Worker a b) (RaiseForAll c) fs z h d = raise_all_go w (Worker a b) c fs (λ y. refused_hold w (Worker a b) c fs y refl) _
    (λ y. raise_all_hold w (Worker a b) c fs h z (y.calls) (λ t. (let e : with_job ((all_raised w (Worker a b) c fs).job t) ≤ with_job (w.job t) + 0 = y.busy t in omega (arith, e))) ((y.last).kinds) (y.pools) (y.held)) (count_in (place_part w (Worker a b) (RaiseForAll c)) c.count == 0) d
go_by w (Worker a b) (LowerForAll c) fs z h d = lower_all_hold w (Worker a b) c fs (if count_in (place_part w (Worker a b) (LowerForAll c)) c.count == c.workers then Yes else No) h z (d.calls)
    (λ t. (let e : with_job ((all_lowered w (Worker a b) c fs (if count_in (place_part w (Worker a b) (LowerForAll c)) c.count == c.workers then Yes else No)).job t) ≤ with_job (w.job t) + 0 = d.busy t in omega (arith, e))) ((d.last).kinds) (d.pools) (d.held)
go_by w (Worker a b) (DealPieces g) fs z h d = deal_hold w (Worker a b) g fs _ refl refl refl d
go_by w (Caller g) (RaiseForAll c) fs z h d = raise_all_go w (Caller g) c fs (λ y. refused_hold w (Caller g) c fs y refl) _
    (λ y. raise_all_hold w (Caller g) c fs h z (y.calls) (λ t. (let e : with_job ((all_raised w (Caller g) c fs).job t) ≤ with_job (w.job t) + 0 = y.busy t in omega (arith, e))) ((y.last).kinds) (y.pools) (y.held)) (count_in (place_part w (Caller g) (RaiseForAll c)) c.count == 0) d
go_by w (Caller g) (LowerForAll c) fs z h d = lower_all_hold w (Caller g) c fs (if count_in (place_part w (Caller g) (LowerForAll c)) c.count == c.workers then Yes else No) h z (d.calls)
    (λ t. (let e : with_job ((all_lowered w (Caller g) c fs (if count_in (place_part w (Caller g) (LowerForAll c)) c.count == c.workers then Yes else No)).job t) ≤ with_job (w.job t) + 0 = d.busy t in omega (arith, e))) ((d.last).kinds) (d.pools) (d.held)
go_by w (Caller g) (DealPieces b) fs z h d = deal_hold w (Caller g) b fs _ refl refl refl d
go_by w (Caller c) (LowerCount (OfPool r) PoolValue n) fs z h d = lower_value w (Caller c) r n fs (if count_in (place_part w (Caller c) (LowerCount (OfPool r) PoolValue n)) (OfPool r) == 1 then Yes else No) h z (d.calls)
    (λ t. (let e : with_job ((lowered_world w (Caller c) (OfPool r) PoolValue n fs (if count_in (place_part w (Caller c) (LowerCount (OfPool r) PoolValue n)) (OfPool r) == 1 then Yes else No)).job t) ≤ with_job (w.job t) + 0 = d.busy t in omega (arith, e))) ((d.last).kinds) (d.pools) (d.held)
go_by w (Caller c) (LowerCount (OfPool r) Body n) fs z h d = absurd (let s : SaysThen w (Caller c) n × SaysShare w (OfPool r) Body n = top_says w (Caller c) (LowerCount (OfPool r) Body n) fs (h.calls) z in s.1)
go_by w (Caller c) (LowerCount (OfScope x o) PoolValue n) fs z h d = absurd (let s : SaysThen w (Caller c) n × SaysShare w (OfScope x o) PoolValue n = top_says w (Caller c) (LowerCount (OfScope x o) PoolValue n) fs (h.calls) z in s.1)
go_by w (Caller c) (LowerCount (OfCast x o) PoolValue n) fs z h d = absurd (let s : SaysThen w (Caller c) n × SaysShare w (OfCast x o) PoolValue n = top_says w (Caller c) (LowerCount (OfCast x o) PoolValue n) fs (h.calls) z in s.1)
go_by w (Caller c) (LowerCount (OfCast x o) Body n) fs z h d = absurd (let s : SaysThen w (Caller c) n × SaysShare w (OfCast x o) Body n = top_says w (Caller c) (LowerCount (OfCast x o) Body n) fs (h.calls) z in s.1)
go_by w (Caller c) (LowerCount (OfScope x o) Body n) fs z h d = plain_go w (Caller c) (LowerCount (OfScope x o) Body n) fs refl d
go_by w q x fs z h d = plain_go w q x fs refl d

pub go_shares : (w : World) (q : Party) → SharesHold w → IfSome (outcome w q (w.stack q)) (λ r. SharesHold (result w q (w.stack q) r))
go_shares w q h = go_by w q ((w.stack q).top) ((w.stack q).below) refl h (ready w q h)

-- an event that may not be enabled
pub with_calls : (w : World) (o : Option World) → IfSome o CallsHold → IfSome o (λ u. CallsHold u → SharesHold u) → IfSome o SharesHold
with_calls w None a f = tt
with_calls w (Some u) a f = f a

-- a party goes on as if its act had seen this
seen_shares : (w : World) (q : Party) (g : PoolShape) (x : Place) (fs : List Place) (e : Seen) → w.stack q ≡ record { top = x; below = fs } → ((t : ℕ) → gained t x e + regained t x e ≡ 0) → SharesHold w → CallsHold (record w { stack = put_stack w.stack q (after_move (next_of g q x e) fs) })
    → SharesHold (record w { stack = put_stack w.stack q (after_move (next_of g q x e) fs) })
seen_shares w q g x fs e z none h ch = still_hold w (record w { stack = put_stack w.stack q (after_move (next_of g q x e) fs) }) q (after_move (next_of g q x e) fs) ch (λ s. refl) (omega arith) (λ t. refl) (λ p. refl) (λ p. omega arith) (λ p. refl)
    (λ t. (let a : shares t (put_stack w.stack q (after_move (next_of g q x e) fs) q) + (pushed t x e + paid t x) ≡ shares t (w.stack q) + (gained t x e + regained t x e) = shares_mine w q x fs g e t z in let b : gained t x e + regained t x e ≡ 0 = none t in omega (arith, a, b)))
    (λ p. (let a : all_values p (put_stack w.stack q (after_move (next_of g q x e) fs) q) + values p x ≡ all_values p (w.stack q) = values_mine w q x fs g e p z in omega (arith, a)))
    (λ t s. (let a : all_raises t (put_stack w.stack q (after_move (next_of g q x e) fs) s) ≤ all_raises t (w.stack s) = raises_all w q x fs g e t z s in let b : all_raises t (w.stack s) + one (w.job t).counted ≤ 1 = h.unraised s t in omega (arith, a, b))) h

pub from_shares : (w : World) (q : Party) (x : Place) (fs : List Place) (v : ℕ) → w.stack q ≡ record { top = x; below = fs } → SharesHold w → IfSome (after_choice w q (record { top = x; below = fs }) x v) (λ u. CallsHold u → SharesHold u)
from_shares w q (PickVictim k) fs v z h = if_cond (λ u. CallsHold u → SharesHold u) (nat_lt v (w.shape.pool (own_pool q)).workers) _ (λ y a. seen_shares w q (w.shape.pool (own_pool q)) (PickVictim k) fs (Start v) z (λ t. refl) h a)
from_shares w q YieldPick fs v z h = if_cond (λ u. CallsHold u → SharesHold u) (nat_lt v (w.shape.pool (own_pool q)).workers) _ (λ y a. seen_shares w q (w.shape.pool (own_pool q)) YieldPick fs (Start v) z (λ t. refl) h a)
from_shares w q _ fs v z h = tt

pub refuse_shares : (w : World) (q : Party) (x : Place) (fs : List Place) → w.stack q ≡ record { top = x; below = fs } → SharesHold w → IfSome (after_refusal w q (record { top = x; below = fs })) (λ u. CallsHold u → SharesHold u)
refuse_shares w q (GrowCall n) fs z h = λ a. seen_shares w q (w.shape.pool (own_pool q)) (GrowCall n) fs Refused z (λ t. refl) h a
refuse_shares w q (GrowScope o) fs z h = λ a. seen_shares w q (w.shape.pool (own_pool q)) (GrowScope o) fs Refused z (λ t. refl) h a
refuse_shares w q (OpenSlot o) fs z h = λ a. seen_shares w q (w.shape.pool (own_pool q)) (OpenSlot o) fs Refused z (λ t. refl) h a
refuse_shares w q (AddToFifo f) fs z h = λ a. seen_shares w q (w.shape.pool (own_pool q)) (AddToFifo f) fs Refused z (λ t. refl) h a
refuse_shares w q (PushToken f v) fs z h = λ a. seen_shares w q (w.shape.pool (own_pool q)) (PushToken f v) fs Refused z (λ t. refl) h a
refuse_shares w q (PushForAll c) fs z h = λ a. seen_shares w q (w.shape.pool (own_pool q)) (PushForAll c) fs Refused z (λ t. refl) h a
refuse_shares w q (OpenForAll c) fs z h = λ a. seen_shares w q (w.shape.pool (own_pool q)) (OpenForAll c) fs Refused z (λ t. refl) h a
refuse_shares w q (GrowCast b) fs z h = λ a. seen_shares w q (w.shape.pool (own_pool q)) (GrowCast b) fs Refused z (λ t. refl) h a
refuse_shares w q (DealPieces b) fs z h = λ a. seen_shares w q (w.shape.pool (own_pool q)) (DealPieces b) fs Refused z (λ t. refl) h a
refuse_shares w q (PushJob n v) fs z h = λ a. seen_shares w q (w.shape.pool (own_pool q)) (PushJob n v) fs Refused z (λ t. refl) h a
refuse_shares w q _ fs z h = tt

pub miss_shares : (w : World) (q : Party) (x : Place) (fs : List Place) → w.stack q ≡ record { top = x; below = fs } → SharesHold w → IfSome (after_miss w q (record { top = x; below = fs }) x) (λ u. CallsHold u → SharesHold u)
miss_shares w (Worker a b) (StealFrom k n) fs z h = if_cond (λ u. CallsHold u → SharesHold u) (can_miss w a k.victim) _ (λ y d. seen_shares w (Worker a b) (w.shape.pool a) (StealFrom k n) fs Missing z (λ t. refl) h d)
miss_shares w (Worker a b) (YieldSteal v n) fs z h = if_cond (λ u. CallsHold u → SharesHold u) (can_miss w a v) _ (λ y d. seen_shares w (Worker a b) (w.shape.pool a) (YieldSteal v n) fs Missing z (λ t. refl) h d)
miss_shares w (Worker a b) _ fs z h = tt
miss_shares w (Caller n) _ fs z h = tt

-- where a party has a new place above its stack
pub above : (f : Place → ℕ) (g : List Place → ℕ) (h : Stack → ℕ) (w : World) (q : Party) (x : Place) → ((k : Stack) → h k ≡ (f (k.top) + g (k.below))) → ((y : Place) (ys : List Place) → g (y ∷ ys) ≡ (f y + g ys)) → h (put_stack w.stack q (after_call (w.stack q) x) q) ≡ (f x + h (w.stack q))
above f g h w q x a b = ap h (stack_mine w.stack q (after_call (w.stack q) x)) ∙ a (after_call (w.stack q) x) ∙ ap (λ n. f x + n) (b ((w.stack q).top) ((w.stack q).below) ∙ sym (a (w.stack q)))

pub raises_called : (w : World) (q : Party) (x : Place) (t : ℕ) (s : Party) → all_raises t (put_stack w.stack q (after_call (w.stack q) x) s) ≤ raises t x + all_raises t (w.stack s)
raises_called w q x t s = by (same_party s q) refl
  where
    by : (b : Bool) → same_party s q ≡ b → all_raises t (put_stack w.stack q (after_call (w.stack q) x) s) ≤ raises t x + all_raises t (w.stack s)
    by true e = subst (λ s. all_raises t (put_stack w.stack q (after_call (w.stack q) x) s) ≤ raises t x + all_raises t (w.stack s)) (sym (same_party_true s q e))
        (let a : all_raises t (put_stack w.stack q (after_call (w.stack q) x) q) ≡ (raises t x + all_raises t (w.stack q)) = above (raises t) (raises_in t) (all_raises t) w q x (λ k. refl) (λ y ys. refl) in omega (arith, a))
    by false e = let a : all_raises t (put_stack w.stack q (after_call (w.stack q) x) s) ≤ all_raises t (w.stack s) = other_le (all_raises t) w q (after_call (w.stack q) x) s e in omega (arith, a)

pub yield_shares : (w : World) (q : Party) (x : Place) → ((t : ℕ) → (share t x ≡ 0) × (raises t x ≡ 0)) → ((p : ℕ) → values p x ≡ 0) → SharesHold w → IfSome (after_yield w q (w.stack q) x) (λ u. CallsHold u → SharesHold u)
yield_shares w (Worker a b) x sx vx h = if_cond (λ u. CallsHold u → SharesHold u) (is_free ((w.stack (Worker a b)).top)) _
    (λ f ch. still_hold w (record w { stack = put_stack w.stack (Worker a b) (after_call (w.stack (Worker a b)) x) }) (Worker a b) (after_call (w.stack (Worker a b)) x) ch (λ s. refl) (omega arith) (λ t. refl) (λ p. refl) (λ p. omega arith) (λ p. refl)
    (λ t. (let c : shares t (put_stack w.stack (Worker a b) (after_call (w.stack (Worker a b)) x) (Worker a b)) ≡ (share t x + shares t (w.stack (Worker a b))) = above (share t) (shares_in t) (shares t) w (Worker a b) x (λ k. refl) (λ y ys. refl) in let d : share t x ≡ 0 = (sx t).0 in
    omega (arith, c, d)))
    (λ p. (let c : all_values p (put_stack w.stack (Worker a b) (after_call (w.stack (Worker a b)) x) (Worker a b)) ≡ (values p x + all_values p (w.stack (Worker a b))) = above (values p) (values_in p) (all_values p) w (Worker a b) x (λ k. refl) (λ y ys. refl) in
    let d : values p x ≡ 0 = vx p in omega (arith, c, d)))
    (λ t s. (let c : all_raises t (put_stack w.stack (Worker a b) (after_call (w.stack (Worker a b)) x) s) ≤ raises t x + all_raises t (w.stack s) = raises_called w (Worker a b) x t s in let d : raises t x ≡ 0 = (sx t).1 in
    let e : all_raises t (w.stack s) + one (w.job t).counted ≤ 1 = h.unraised s t in omega (arith, c, d, e))) h)
yield_shares w (Caller n) x sx vx h = tt

pub give_shares : (w : World) (q : Party) (p : ℕ) → SharesHold w → IfSome (after_end_pool w q p (w.stack q)) (λ u. CallsHold u → SharesHold u)
give_shares w q p h = if_cond (λ u. CallsHold u → SharesHold u) (is_free ((w.stack q).top) && (is_pool w.shape p && (w.pool p).held)) _
    (λ f ch. still_hold w (record w { stack = put_stack w.stack q (after_call (w.stack q) (LowerCount (OfPool p) PoolValue Resume)); pool = put w.pool p (record (w.pool p) { held = false }) }) q (after_call (w.stack q) (LowerCount (OfPool p) PoolValue Resume)) ch (λ s. refl) (omega arith)
    (λ t. refl)
    (λ r. put_same (λ v. v.counted) w.pool p (record (w.pool p) { held = false }) r refl) (λ r. omega arith) (λ r. put_same (λ v. v.count) w.pool p (record (w.pool p) { held = false }) r refl)
    (λ t. (let c : shares t (put_stack w.stack q (after_call (w.stack q) (LowerCount (OfPool p) PoolValue Resume)) q) ≡ (0 + shares t (w.stack q)) = above (share t) (shares_in t) (shares t) w q (LowerCount (OfPool p) PoolValue Resume) (λ k. refl) (λ y ys. refl) in omega (arith, c)))
    (λ r. (let c : all_values r (put_stack w.stack q (after_call (w.stack q) (LowerCount (OfPool p) PoolValue Resume)) q) ≡ (one (r == p) + all_values r (w.stack q)) = above (values r) (values_in r) (all_values r) w q (LowerCount (OfPool p) PoolValue Resume) (λ k. refl) (λ y ys. refl) in
    let d : one (r == p) + one (put w.pool p (record (w.pool p) { held = false }) r).held ≤ one (w.pool r).held = given r (r == p) refl (and_held f) in omega (arith, c, d)))
    (λ t s. (let c : all_raises t (put_stack w.stack q (after_call (w.stack q) (LowerCount (OfPool p) PoolValue Resume)) s) ≤ 0 + all_raises t (w.stack s) = raises_called w q (LowerCount (OfPool p) PoolValue Resume) t s in
    let e : all_raises t (w.stack s) + one (w.job t).counted ≤ 1 = h.unraised s t in omega (arith, c, e))) h)
  where
    and_held : (is_free ((w.stack q).top) && (is_pool w.shape p && (w.pool p).held)) ≡ true → (w.pool p).held ≡ true
    and_held f = (and_parts (is_pool w.shape p) ((w.pool p).held) ((and_parts (is_free ((w.stack q).top)) (is_pool w.shape p && (w.pool p).held) f).1)).1

    given : (r : ℕ) (b : Bool) → (r == p) ≡ b → (w.pool p).held ≡ true → one b + one (if b then record (w.pool p) { held = false } else w.pool r).held ≤ one (w.pool r).held
    given r true e y = let a : one (w.pool r).held ≡ 1 = ap (λ n. one (w.pool n).held) (eqb-true r p e) ∙ ap one y in omega (arith, a)
    given r false e y = omega arith
