-- what acts leave of the shares of scopes and broadcasts: none goes while a job or a piece of it has one
--
-- A broadcast that waits is as a scope here. Its pieces are shares of its own count; what stands for it keeps the share
-- of the pool's while one of them has its own. The pieces get theirs all at once, as they come into their lists
-- (`gained_piece`). Meanwhile their call keeps the pool's share.
use Rattle.std.proofs.Common.{arith, refl, sym, ◌∙◌, ap, subst, inl, inr}
use Rattle.rayon_machine_orders.proofs.Words.{ℕ, Bool, true, false, ◌+◌, ◌-◌, ◌==◌, ◌≤◌, ◌<◌, if◌then◌else◌, Option, Some, None, List, ◌≡◌, ◌⊎◌, IfSome, eqb-true, ltb-true, ltb-false, ltb, Party, Worker, Caller, Ending, JobKind, Detached, Stored, Direct, Scoped, BodyOf, PieceOf, WholeOf}
use Rattle.rayon_machine_orders.proofs.Words.{OpenCall, Plan, Detach, Here, Send, Fork, Feed, Open, Enter, Gather, Pieces, Gathering, Marking, Counted, Returned, Dealt, Count, OfPool, OfScope, OfCast, PoolValue, OfJob, Body, Then, BeginFound, LeaveWait, Resume, Await, RunFirst, Answers, Missing}
use Rattle.rayon_machine_orders.proofs.Words.{Ran, GiveBack, Called, Gathers, Place, RaiseCount, LowerCount, RaiseForAll, LowerForAll, DealPieces, Seen, Done, Refused, Yes, No, Made, Spent, Job, plan_job, plan_count, act_of, next_of, count_kind, World, Part, counts_at, count_in, count_pool}
use Rattle.rayon_machine_orders.proofs.Words.{target_pool, put, is_piece, mark_pieces, marked, one, shares_in, shares, has_body}
use Rattle.rayon_machine_laws.proofs.Frame.{either, is_sharing, if_some_and, if_some_map, put_same, piece_old, piece_in}
use Rattle.rayon_machine_laws.proofs.Ties.{job_at, outcome, result}
use Rattle.rayon_machine_laws.proofs.Hands.{is_gather}
use Rattle.rayon_machine_laws.proofs.Located.{is_left}
use Rattle.rayon_machine_laws.proofs.Feeds.{fed_back, fed_in, all_fed}
use Rattle.rayon_machine_laws.proofs.Claims.{Opened, FirstEnds, SaysPieces, SaysPlan, SaysThen, SaysOwner, SaysShare, is_detached, is_body, is_part, call_kind, IsReady, PartOf, KnownCount, SaysCast, SaysGather, counts_detached}
use Rattle.rayon_machine_laws.proofs.ClaimActs.{Lasting}
use Rattle.rayon_machine_laws.proofs.ClaimRuns.{CallsHold, top_says, place_part, world_after}
use Rattle.rayon_machine_laws.proofs.OwnedActs.{number_of}
use Rattle.rayon_machine_laws.proofs.Tokens.{sum_below, sum_least}
use Rattle.rayon_machine_laws.proofs.Amounts.{gained, all_raises, raises_in}
use Rattle.rayon_machine_laws.proofs.ShareActs.{with_job, SharesHold, Untallied, act_untallied, one_is}
use Rattle.rayon_machine_laws.proofs.ShareSteps.{Ready, self_one}
use Rattle.rayon_machine_laws.proofs.ShareLowers.{returned_jobs}
use Rattle.rayon_machine_laws.proofs.ShareEvents.{ready}
use Rattle.rayon_machine_laws.proofs.Scoping.{entry, entry_on}
use Rattle.rayon_machine_orders.proofs.Takes.{seen_set, says_missing}
use Rattle.rayon_machine_orders.proofs.FilledActs.{go_fills}
use Rattle.rayon_machine_orders.proofs.FilledStates.{FilledHold}
use Rattle.rayon_machine_orders.proofs.Keeping.{gains_by}
use Rattle.rayon_machine_orders.proofs.CallSteps.{raise_counts, counts_on, is_all, all_steady, all_cases}
use Rattle.rayon_machine_orders.proofs.EarlyStates.{Entered, EarlyHold, Steady, entered_on, listed_on, part_pair}

-- a place does not give back, or take, the share of this job
abbrev pub NotGiven : Place → ℕ → Type 0
NotGiven x t = ((k : Count) (n : Then) → x ≡ LowerCount k (OfJob t) n → ⊥) × ((b : Pieces) → (x ≡ RaiseForAll b) ⊎ (x ≡ LowerForAll b) → is_piece b t ≡ false)

lower_stays : (w : World) (k : Count) (u : ℕ) (n : Then) (t : ℕ) → NotGiven (LowerCount k (OfJob u) n) t → (w.job t).counted ≡ true → (put w.job u (record (w.job u) { counted = false }) t).counted ≡ true
lower_stays w k u n t g c = by (t == u) refl
  where
    by : (b : Bool) → (t == u) ≡ b → (if b then record (w.job u) { counted = false } else w.job t).counted ≡ true
    by true e = absurd (g.0 k n (ap (λ v. LowerCount k (OfJob v) n) (sym (eqb-true t u e))))
    by false e = c

put_stays : (w : World) (q : Party) (x : Place) (fs : List Place) (t : ℕ) → is_all x ≡ false → NotGiven x t → (w.job t).counted ≡ true → IfSome (outcome w q (record { top = x; below = fs })) (λ r. (put w.job (job_at w q (act_of q x)) (r.1.job) t).counted ≡ true)
put_stays w (Worker a b) (RaiseCount n) fs t y g c = raise_counts w n t _ _ refl refl c (count_in (place_part w (Worker a b) (RaiseCount n)) (plan_count n) == 0)
put_stays w (Caller i) (RaiseCount n) fs t y g c = raise_counts w n t _ _ refl refl c (count_in (place_part w (Caller i) (RaiseCount n)) (plan_count n) == 0)
put_stays w (Worker a b) (LowerCount p (OfJob u) n) fs t y g c = lower_stays w p u n t g c
put_stays w (Caller i) (LowerCount p (OfJob u) n) fs t y g c = lower_stays w p u n t g c
put_stays w (Worker a b) (LowerCount p PoolValue n) fs t y g c = put_same (λ j. j.counted) w.job 0 (w.job 0) t refl ∙ c
put_stays w (Caller i) (LowerCount p PoolValue n) fs t y g c = put_same (λ j. j.counted) w.job 0 (w.job 0) t refl ∙ c
put_stays w (Worker a b) (LowerCount p Body n) fs t y g c = put_same (λ j. j.counted) w.job 0 (w.job 0) t refl ∙ c
put_stays w (Caller i) (LowerCount p Body n) fs t y g c = put_same (λ j. j.counted) w.job 0 (w.job 0) t refl ∙ c
put_stays w q (RaiseForAll b) fs t y g c = cc
put_stays w q (LowerForAll b) fs t y g c = cc
put_stays w q (DealPieces b) fs t y g c = cc
put_stays w q x fs t y g c = if_some_map (Untallied (place_part w q x)) (λ r. (put w.job (job_at w q (act_of q x)) (r.1.job) t).counted ≡ true) (λ r k. put_same (λ j. j.counted) w.job (job_at w q (act_of q x)) (r.1.job) t k.job ∙ c) (outcome w q (record { top = x; below = fs }))
    (act_untallied w.shape q (counts_at w (target_pool q (act_of q x))) (place_part w q x) x refl)

marked_stays : (w : World) (b : Pieces) (k : Marking) (t : ℕ) → is_piece b t ≡ false → (w.job t).counted ≡ true → (mark_pieces b k (put w.job 0 (w.job 0)) t).counted ≡ true
marked_stays w b k t n c = ap (λ j. j.counted) (piece_old b (marked k b.pool) (put w.job 0 (w.job 0)) t n) ∙ put_same (λ j. j.counted) w.job 0 (w.job 0) t refl ∙ c

-- the shares that the pieces of a broadcast that waits get are no others'
deal_stays : (w : World) (g : Gathering) (n : ℕ) (j : Job) (t : ℕ) → j.counted ≡ (w.job n).counted → (w.job t).counted ≡ true → (mark_pieces (g.pieces) Dealt (put w.job n j) t).counted ≡ true
deal_stays w g n j t e c = by (is_piece g.pieces t)
  where
    by : (b : Bool) → (if b then marked Dealt (g.pieces).pool (t - (g.pieces).first) (put w.job n j t) else put w.job n j t).counted ≡ true
    by true = refl
    by false = put_same (λ j. j.counted) w.job n j t e ∙ c

act_stays : (w : World) (q : Party) (x : Place) (fs : List Place) (t : ℕ) → w.stack q ≡ record { top = x; below = fs } → SharesHold w → NotGiven x t → (w.job t).counted ≡ true → IfSome (outcome w q (record { top = x; below = fs })) (λ r. ((world_after w q x fs r).job t).counted ≡ true)
act_stays w (Worker i j) (RaiseForAll b) fs t z h g c = all_cases (λ r. ((world_after w (Worker i j) (RaiseForAll b) fs r).job t).counted ≡ true) (Refused, place_part w (Worker i j) (RaiseForAll b)) _ (marked_stays w b Returned t (g.1 b (inl refl)) c)
    (marked_stays w b Counted t (g.1 b (inl refl)) c) (count_in (place_part w (Worker i j) (RaiseForAll b)) b.count == 0)
act_stays w (Caller m) (RaiseForAll b) fs t z h g c = all_cases (λ r. ((world_after w (Caller m) (RaiseForAll b) fs r).job t).counted ≡ true) (Refused, place_part w (Caller m) (RaiseForAll b)) _ (marked_stays w b Returned t (g.1 b (inl refl)) c)
    (marked_stays w b Counted t (g.1 b (inl refl)) c) (count_in (place_part w (Caller m) (RaiseForAll b)) b.count == 0)
act_stays w (Worker i j) (LowerForAll b) fs t z h g c = ap (λ v. (v t).counted) (returned_jobs (w.shape.pool (count_pool (Worker i j) b.count)) (Worker i j) b (if count_in (place_part w (Worker i j) (LowerForAll b)) b.count == b.workers then Yes else No) (put w.job 0 (w.job 0)))
    ∙ marked_stays w b Returned t (g.1 b (inr refl)) c
act_stays w (Caller m) (LowerForAll b) fs t z h g c = ap (λ v. (v t).counted) (returned_jobs (w.shape.pool (count_pool (Caller m) b.count)) (Caller m) b (if count_in (place_part w (Caller m) (LowerForAll b)) b.count == b.workers then Yes else No) (put w.job 0 (w.job 0)))
    ∙ marked_stays w b Returned t (g.1 b (inr refl)) c
act_stays w (Worker i j) (DealPieces d) fs t z h g c = deal_stays w d (job_at w (Worker i j) (act_of (Worker i j) (DealPieces d))) _ t refl c
act_stays w (Caller m) (DealPieces d) fs t z h g c = deal_stays w d (job_at w (Caller m) (act_of (Caller m) (DealPieces d))) _ t refl c
act_stays w q x fs t z h g c = if_some_map (λ r. ((put w.job (job_at w q (act_of q x)) (r.1.job) t).counted ≡ true) × (is_sharing (next_of (w.shape.pool (target_pool q (act_of q x))) q x (r.0)) ≡ false)) (λ r. ((world_after w q x fs r).job t).counted ≡ true)
    (λ r f. counts_on w q x fs r t z (h.unraised) (f.1) c (f.0)) (outcome w q (record { top = x; below = fs }))
    (if_some_and (λ r. (put w.job (job_at w q (act_of q x)) (r.1.job) t).counted ≡ true) (λ r. is_sharing (next_of (w.shape.pool (target_pool q (act_of q x))) q x (r.0)) ≡ false) (outcome w q (record { top = x; below = fs })) (put_stays w q x fs t refl g c) (all_steady w q x refl))

-- the jobs of a refused call, but for one that was in a FIFO list, are as it made them
given_fed : (w : World) (q : Party) (n : Plan) → is_gather n ≡ false → SaysPlan w q n → is_detached (w.job (plan_job n)).kind ≡ false → 1 ≤ fed_back (plan_job n) n
given_fed w q (Detach p t) e s d = let a : one (t == t) ≡ 1 = self_one t in omega (arith, a)
given_fed w q (Here p t) e s d = let a : one (t == t) ≡ 1 = self_one t in omega (arith, a)
given_fed w q (Send o) e s d = let a : one (o.job == o.job) ≡ 1 = self_one (o.job) in omega (arith, a)
given_fed w q (Open o) e s d = let a : one (o.job == o.job) ≡ 1 = self_one (o.job) in omega (arith, a)
given_fed w q (Enter x) e s d = let a : one (x.job == x.job) ≡ 1 = self_one (x.job) in omega (arith, a)
given_fed w q (Fork o f) e s d = let a : one (o.job == o.job) ≡ 1 = self_one (o.job) in omega (arith, a)
given_fed w q (Feed f) e s d = absurd (let a : true ≡ false = sym (ap is_detached ((s.0).kind) ∙ counts_detached f.count) ∙ d in cc)
given_fed w q (Gather g) e s d = cc

-- a scope with jobs, whose count is not 0, does not give its share of the pool's count back
not_given : (w : World) (q : Party) (t c : ℕ) (o : Party) (k : Count) (n : Then) (fs : List Place) → EarlyHold w → Entered w t c o → 1 ≤ (w.call c).count → w.stack q ≡ record { top = LowerCount k (OfJob ((w.call c).job)) n; below = fs } → SaysThen w q n → SaysShare w k (OfJob ((w.call c).job)) n → ⊥
not_given w q t c o (OfScope d r) n fs h e m z s y = let a : Scoped d r ≡ BodyOf c o = sym (y.1) ∙ e.body in cc
not_given w q t c o (OfCast d r) n fs h e m z s y = let a : PieceOf d r ≡ BodyOf c o = sym (y.1) ∙ e.body in cc
not_given w q t c o (OfPool p) n fs h e m z s y = by n z s (y.2)
  where
    job : ℕ
    job = (w.call c).job

    answers : (d : OpenCall) (f : Option Ending) (v : Ending) → w.stack q ≡ record { top = LowerCount (OfPool p) (OfJob job) (Answers d f v); below = fs } → Opened w q d → FirstEnds w (w.call d.number).first f → d.job ≡ job → ⊥
    answers d f v z s g i = ended f z (subst (λ a. FirstEnds w a f) (ap (λ b. (w.call b).first) same ∙ e.first) g)
      where
        same : d.number ≡ c
        same = ap number_of (sym (s.kind) ∙ ap (λ b. call_kind (w.job b).kind) i ∙ ap call_kind (e.body))

        unready : (c + 1 ≤ w.calls) × IsReady w c → ⊥
        unready (l, inl a) = absurd (let b : true ≡ false = sym (ap is_body (e.body)) ∙ (a.0).1 in cc)
        unready (l, inr a) = absurd (omega (arith, a, m))

        ended : (f : Option Ending) → w.stack q ≡ record { top = LowerCount (OfPool p) (OfJob job) (Answers d f v); below = fs } → FirstEnds w None f → ⊥
        ended (Some a) z g = g
        ended None z g = unready (subst (λ b. (b + 1 ≤ w.calls) × IsReady w b) same ((((h.fills).hold).calls).latches (d.number) ((h.fills).seen q (d.number) (ap (λ k. seen_set (k.top)) z))))

    plain : (g : Plan) → SaysPlan w q g → plan_job g ≡ job → is_gather g ≡ false
    plain (Gather g) s i = absurd (let a : WholeOf g.call.number q ≡ BodyOf c o = sym (s.whole) ∙ ap (λ b. (w.job b).kind) i ∙ e.body in cc)
    plain _ s i = refl

    by : (n : Then) → w.stack q ≡ record { top = LowerCount (OfPool p) (OfJob job) n; below = fs } → SaysThen w q n → SaysOwner w job p n → ⊥
    by Resume z s y = let a : Detached p ≡ BodyOf c o = sym (y.0) ∙ e.body in cc
    by Called z s y = let a : Detached p ≡ BodyOf c o = sym (y.0) ∙ e.body in cc
    by (Answers d f v) z s y = answers d f v z (s.0) (s.1) y
    by (Missing d f) z s y = let a : true ≡ false = ap (λ k. says_missing (k.top)) (sym z) ∙ (h.fills).found q in cc
    by (Ran u d) z s y = let a : Direct ≡ BodyOf c o = sym (y.1) ∙ e.body in cc
    by (GiveBack g) z s y =
        let d : is_detached (w.job (plan_job g)).kind ≡ false = ap (λ b. is_detached (w.job b).kind) (y.0) ∙ ap is_detached (e.body) in
        let f : 1 ≤ fed_back (plan_job g) g = given_fed w q g (plain g s (y.0)) s d in
        let k : all_fed (plan_job g) (w.stack q) ≡ (fed_back (plan_job g) g + fed_in (plan_job g) fs) = ap (all_fed (plan_job g)) z in
        let a : (w.job (plan_job g)).at ≡ Made q = ((((h.fills).hold).calls).jobs).feeds q (plan_job g) (omega (arith, f, k)) in
        let b : true ≡ false = sym (e.left) ∙ ap (λ b. is_left (w.job b).at) (sym (y.0)) ∙ ap is_left a in cc
    by _ z s y = y

-- nor does a broadcast a piece of which has a share
cast_given : (w : World) (q : Party) (t c : ℕ) (o : Party) (k : Count) (n : Then) (fs : List Place) → EarlyHold w → t + 1 ≤ w.jobs → (w.job t).kind ≡ PieceOf c o → (w.job t).counted ≡ true → w.stack q ≡ record { top = LowerCount k (OfJob ((w.call c).job)) n; below = fs } → SaysThen w q n
    → SaysShare w k (OfJob ((w.call c).job)) n → ⊥
cast_given w q t c o (OfScope d r) n fs h l e m z s y = let a : Scoped d r ≡ WholeOf c o = sym (y.1) ∙ ((((h.fills).hold).calls).parts t l c o e).kind in cc
cast_given w q t c o (OfCast d r) n fs h l e m z s y = let a : PieceOf d r ≡ WholeOf c o = sym (y.1) ∙ ((((h.fills).hold).calls).parts t l c o e).kind in cc
cast_given w q t c o (OfPool p) n fs h l e m z s y = by n z s (y.2)
  where
    job : ℕ
    job = (w.call c).job

    part : PartOf w t c o
    part = (((h.fills).hold).calls).parts t l c o e

    spent : (w.job job).at ≡ Spent
    spent = (h.fills).wholes job (part.made) (ap has_body (part.kind))

    unready : (c + 1 ≤ w.calls) × IsReady w c → ⊥
    unready (i, inl a) = absurd (let b : true ≡ false = sym (ap is_body (part.kind)) ∙ (a.0).1 in cc)
    unready (i, inr a) = absurd (
        let b : sum_below w.jobs (λ t. entry c (w.job t)) + (one (w.call c).counted + (w.call c).undealt) ≡ (w.call c).count = ((h.fills).scopes).sums c in
        let d : entry c (w.job t) ≤ sum_below w.jobs (λ t. entry c (w.job t)) = sum_least w.jobs (λ t. entry c (w.job t)) t l in
        let g : entry c (w.job t) ≡ one (c == c) = entry_on c (w.job t) (PieceOf c o) m e in
        let f : one (c == c) ≡ 1 = self_one c in omega (arith, a, b, d, g, f))

    answers : (d : OpenCall) (f : Option Ending) (v : Ending) → w.stack q ≡ record { top = LowerCount (OfPool p) (OfJob job) (Answers d f v); below = fs } → Opened w q d → FirstEnds w (w.call d.number).first f → d.job ≡ job → ⊥
    answers d f v z s g i = ended f z (subst (λ a. FirstEnds w a f) (ap (λ b. (w.call b).first) same ∙ h.alone t l c o e) g)
      where
        same : d.number ≡ c
        same = ap number_of (sym (s.kind) ∙ ap (λ b. call_kind (w.job b).kind) i ∙ ap call_kind (part.kind))

        ended : (f : Option Ending) → w.stack q ≡ record { top = LowerCount (OfPool p) (OfJob job) (Answers d f v); below = fs } → FirstEnds w None f → ⊥
        ended (Some a) z g = g
        ended None z g = unready (subst (λ b. (b + 1 ≤ w.calls) × IsReady w b) same ((((h.fills).hold).calls).latches (d.number) ((h.fills).seen q (d.number) (ap (λ k. seen_set (k.top)) z))))

    -- the pieces of a refused one have no share
    back : (g : Plan) (b : Bool) → is_gather g ≡ b → w.stack q ≡ record { top = LowerCount (OfPool p) (OfJob job) (GiveBack g); below = fs } → SaysPlan w q g → plan_job g ≡ job → ⊥
    back g false b z s i =
        let d : is_detached (w.job (plan_job g)).kind ≡ false = ap (λ b. is_detached (w.job b).kind) i ∙ ap is_detached (part.kind) in
        let f : 1 ≤ fed_back (plan_job g) g = given_fed w q g b s d in
        let k : all_fed (plan_job g) (w.stack q) ≡ (fed_back (plan_job g) g + fed_in (plan_job g) fs) = ap (all_fed (plan_job g)) z in
        let a : (w.job (plan_job g)).at ≡ Made q = ((((h.fills).hold).calls).jobs).feeds q (plan_job g) (omega (arith, f, k)) in
        let x : Spent ≡ Made q = sym spent ∙ ap (λ b. (w.job b).at) (sym i) ∙ a in cc
    back (Gather g) true b z s i = absurd (
        let a : all_raises t (w.stack q) + one (w.job t).counted ≤ 1 = ((h.fills).hold).unraised q t in
        let d : all_raises t (w.stack q) ≡ (one (is_piece g.pieces t) + raises_in t fs) = ap (all_raises t) z in
        let f : one (is_piece g.pieces t) ≡ 1 = ap one inside in
        let v : one (w.job t).counted ≡ 1 = ap one m in omega (arith, a, d, f, v))
      where
        at : g.call.job ≡ (w.call c).job
        at = i

        last : (g.pieces).first + (g.pieces).workers ≡ g.call.job
        last = s.last

        size : (g.pieces).workers ≡ (w.shape.pool g.call.pool).workers
        size = s.size

        pool : (w.shape.pool (w.job (w.call c).job).pool).workers ≡ (w.shape.pool g.call.pool).workers
        pool = ap (λ j. (w.shape.pool (w.job j).pool).workers) (sym at) ∙ ap (λ j. (w.shape.pool j).workers) ((s.call).pool)

        below : t + 1 ≤ (w.call c).job
        below = part.below

        above : (w.call c).job ≤ t + (w.shape.pool (w.job (w.call c).job).pool).workers
        above = part.above

        inside : is_piece g.pieces t ≡ true
        inside = piece_in (g.pieces) t (omega (arith, at, last, size, pool, above)) (omega (arith, at, last, below))
    back _ true b z s i = cc

    by : (n : Then) → w.stack q ≡ record { top = LowerCount (OfPool p) (OfJob job) n; below = fs } → SaysThen w q n → SaysOwner w job p n → ⊥
    by Resume z s y = let a : Detached p ≡ WholeOf c o = sym (y.0) ∙ part.kind in cc
    by Called z s y = let a : Detached p ≡ WholeOf c o = sym (y.0) ∙ part.kind in cc
    by (Answers d f v) z s y = answers d f v z (s.0) (s.1) y
    by (Missing d f) z s y = let a : true ≡ false = ap (λ k. says_missing (k.top)) (sym z) ∙ (h.fills).found q in cc
    by (Ran u d) z s y = let a : Direct ≡ WholeOf c o = sym (y.1) ∙ part.kind in cc
    by (GiveBack g) z s y = back g (is_gather g) refl z s (y.0)
    by _ z s y = y

bare_count : (k : Count) → is_body (count_kind k) ≡ false
bare_count (OfPool p) = refl
bare_count _ = refl

-- a job that no broadcast made
no_piece : (w : World) (b : Pieces) (t : ℕ) → SaysPieces w b → is_body (w.job t).kind ≡ true → (d : Bool) → is_piece b t ≡ d → d ≡ false
no_piece w b t s e false y = refl
no_piece w b t s e true y = absurd (let a : true ≡ false = sym e ∙ ap is_body ((s t y).kind) ∙ bare_count b.count in cc)

cast_stays : (w : World) (q : Party) (t c : ℕ) (o : Party) (x : Place) (fs : List Place) → EarlyHold w → t + 1 ≤ w.jobs → (w.job t).kind ≡ PieceOf c o → (w.job t).counted ≡ true → w.stack q ≡ record { top = x; below = fs } → NotGiven x ((w.call c).job)
cast_stays w q t c o x fs h l e m z = (
  (λ k n i. (let y : w.stack q ≡ record { top = LowerCount k (OfJob ((w.call c).job)) n; below = fs } = z ∙ ap (λ v. record { top = v; below = fs }) i in
      let s : SaysThen w q n × SaysShare w k (OfJob ((w.call c).job)) n = top_says w q (LowerCount k (OfJob ((w.call c).job)) n) fs (((h.fills).hold).calls) y in
      cast_given w q t c o k n fs h l e m y (s.0) (s.1))),
  (λ b i. elim i [
    | inl r ↦ no_piece w b ((w.call c).job) ((top_says w q (RaiseForAll b) fs (((h.fills).hold).calls) (z ∙ ap (λ v. record { top = v; below = fs }) r)).0) whole (is_piece b ((w.call c).job)) refl
    | inr r ↦ no_piece w b ((w.call c).job) ((top_says w q (LowerForAll b) fs (((h.fills).hold).calls) (z ∙ ap (λ v. record { top = v; below = fs }) r)).0) whole (is_piece b ((w.call c).job)) refl
  ]),
)
  where
    whole : is_body (w.job (w.call c).job).kind ≡ true
    whole = ap is_body (((((h.fills).hold).calls).parts t l c o e).kind)

body_stays : (w : World) (q : Party) (t c : ℕ) (o : Party) (x : Place) (fs : List Place) → EarlyHold w → Entered w t c o → 1 ≤ (w.call c).count → w.stack q ≡ record { top = x; below = fs } → NotGiven x ((w.call c).job)
body_stays w q t c o x fs h e m z = (
  (λ k n i. (let y : w.stack q ≡ record { top = LowerCount k (OfJob ((w.call c).job)) n; below = fs } = z ∙ ap (λ v. record { top = v; below = fs }) i in
      let s : SaysThen w q n × SaysShare w k (OfJob ((w.call c).job)) n = top_says w q (LowerCount k (OfJob ((w.call c).job)) n) fs (((h.fills).hold).calls) y in
      not_given w q t c o k n fs h e m y (s.0) (s.1))),
  (λ b i. elim i [
    | inl r ↦ no_piece w b ((w.call c).job) ((top_says w q (RaiseForAll b) fs (((h.fills).hold).calls) (z ∙ ap (λ v. record { top = v; below = fs }) r)).0) (ap is_body (e.body)) (is_piece b ((w.call c).job)) refl
    | inr r ↦ no_piece w b ((w.call c).job) ((top_says w q (LowerForAll b) fs (((h.fills).hold).calls) (z ∙ ap (λ v. record { top = v; below = fs }) r)).0) (ap is_body (e.body)) (is_piece b ((w.call c).job)) refl
  ]),
)

-- who has a share that it did not have before, has got it now
abbrev pub Gains : World → Party → Place → List Place → Seen × Part → Type 0
Gains w q x fs r = (t : ℕ) → ((world_after w q x fs r).job t).counted ≡ true → (one (w.job t).counted + gained t x (r.0)) ≡ 1

-- the pieces of a broadcast that waits get theirs where they come into their lists, while what stands for it has its own
open_apart : {n : ℕ × Party} (k : JobKind) → call_kind k ≡ Some n → is_part k ≡ false
open_apart (Stored c o) e = refl
open_apart (BodyOf c o) e = refl
open_apart (WholeOf c o) e = refl
open_apart _ e = absurd (cc)

known_apart : (w : World) (k : Count) (p : ℕ) → KnownCount w k p → is_part (count_kind k) ≡ false
known_apart w (OfCast c o) p s = absurd s
known_apart w _ p s = refl

plan_apart : (w : World) (q : Party) (n : Plan) → SaysPlan w q n → is_part (w.job (plan_job n)).kind ≡ false
plan_apart w q (Send o) s = open_apart ((w.job o.job).kind) ((s.0).kind)
plan_apart w q (Open o) s = open_apart ((w.job o.job).kind) ((s.0).kind)
plan_apart w q (Fork o a) s = open_apart ((w.job o.job).kind) ((s.0).kind)
plan_apart w q (Enter e) s = ap is_part ((s.0).kind)
plan_apart w q (Gather g) s = ap is_part (s.whole)
plan_apart w q (Feed f) s = ap is_part ((s.0).kind) ∙ known_apart w f.count f.pool (s.3)
plan_apart w q _ s = ap is_part (s.kind)

gained_piece : (w : World) (q : Party) (t c : ℕ) (o : Party) (x : Place) (fs : List Place) (e : Seen) → CallsHold w → SharesHold w → t + 1 ≤ w.jobs → (w.job t).kind ≡ PieceOf c o → w.stack q ≡ record { top = x; below = fs } → 1 ≤ gained t x e → (w.job (w.call c).job).counted ≡ true
gained_piece w q t c o (RaiseCount n) fs Done h s l k z m = absurd (let i : t ≡ plan_job n = eqb-true t (plan_job n) (one_is (t == plan_job n) m) in let a : true ≡ false = sym (ap is_part k) ∙ ap (λ b. is_part (w.job b).kind) i ∙ plan_apart w q n (top_says w q (RaiseCount n) fs h z) in cc)
gained_piece w q t c o (RaiseForAll b) fs Done h s l k z m = absurd (let y : SaysCast w b = top_says w q (RaiseForAll b) fs h z in let a : true ≡ false = sym (ap is_part k) ∙ ap is_part ((y.0 t (one_is (is_piece b t) m)).kind) ∙ known_apart w b.count b.pool (y.1) in cc)
gained_piece w q t c o (DealPieces g) fs Done h s l k z m = subst (λ b. (w.job b).counted ≡ true) (sym same)
    (one_is ((w.job g.call.job).counted) (let a : shares g.call.job (w.stack q) + with_job (w.job g.call.job) ≤ one (w.job g.call.job).counted = (s.jobs g.call.job).alone q in
    let b : shares g.call.job (w.stack q) ≡ (one (g.call.job == g.call.job) + shares_in g.call.job fs) = ap (shares g.call.job) z in let d : one (g.call.job == g.call.job) ≡ 1 = self_one g.call.job in omega (arith, a, b, d)))
  where
    y : SaysGather w q g
    y = top_says w q (DealPieces g) fs h z

    pair : ◌≡◌ {A = ℕ × Party} (g.call.number, q) (c, o)
    pair = ap part_pair (sym ((y.pieces t (one_is (is_piece g.pieces t) m)).kind ∙ ap count_kind (y.count)) ∙ k)

    same : (w.call c).job ≡ g.call.job
    same = ap (λ b. (w.call (b.0)).job) (sym pair) ∙ (y.call).target
gained_piece w q t c o x fs e h s l k z m = absurd (omega (arith, m))

-- an act
abbrev pub Stays : World → Party → Place → List Place → Seen × Part → Type 0
Stays w q x fs r = (t : ℕ) → NotGiven x t → (w.job t).counted ≡ true → ((world_after w q x fs r).job t).counted ≡ true

early_act : (w : World) (q : Party) (x : Place) (fs : List Place) (r : Seen × Part) → EarlyHold w → w.stack q ≡ record { top = x; below = fs } → FilledHold (world_after w q x fs r) → Lasting w (world_after w q x fs r) → Stays w q x fs r → Gains w q x fs r → EarlyHold (world_after w q x fs r)
early_act w q x fs r h z f l k gn = record {
  fills = f;
  entered = λ t m c o y. entered_on w u steady ((l.later).left) t c o m (h.entered t m c o (sym (l.kinds t) ∙ y));
  listed = λ n s e. listed_on w u steady s (h.listed n s e);
  kept = λ t m c o y a. (let e : Entered w t c o = h.entered t m c o (sym (l.kinds t) ∙ y) in
      let b : 1 ≤ (w.call c).count = more c (e.call) a in
      ap (λ s. (u.job s).counted) (l.targets c) ∙ k ((w.call c).job) (body_stays w q t c o x fs h e b z) (h.kept t m c o (sym (l.kinds t) ∙ y) b));
  alone = λ t m c o y. (l.later).side c (((((h.fills).hold).calls).parts t m c o (sym (l.kinds t) ∙ y)).number) ∙ h.alone t m c o (sym (l.kinds t) ∙ y);
  dealt = λ t m c o y a. ap (λ s. (u.job s).counted) (l.targets c) ∙ dealt t m c o (sym (l.kinds t) ∙ y) a ((w.job t).counted) refl;
}
  where
    u : World
    u = world_after w q x fs r

    steady : Steady w u
    steady = record { jobs = (l.later).jobs; calls = (l.later).calls; kind = (l.later).kind; pool = (l.later).pool; target = (l.later).target; first = (l.later).side }

    dealt : (t : ℕ) → t + 1 ≤ w.jobs → (c : ℕ) (o : Party) → (w.job t).kind ≡ PieceOf c o → (u.job t).counted ≡ true → (b : Bool) → (w.job t).counted ≡ b → (u.job ((w.call c).job)).counted ≡ true
    dealt t m c o y a true e = k ((w.call c).job) (cast_stays w q t c o x fs h m y e z) (h.dealt t m c o y e)
    dealt t m c o y a false e = k ((w.call c).job) new_stays (gained_piece w q t c o x fs (r.0) (((h.fills).hold).calls) ((h.fills).hold) m y z more_one)
      where
        more_one : 1 ≤ gained t x (r.0)
        more_one = let b : (one (w.job t).counted + gained t x (r.0)) ≡ 1 = gn t a in let d : one (w.job t).counted ≡ 0 = ap one e in omega (arith, b, d)

        new_stays : NotGiven x ((w.call c).job)
        new_stays = (
          (λ i n j. absurd (let b : 1 ≤ gained t (LowerCount i (OfJob ((w.call c).job)) n) (r.0) = subst (λ v. 1 ≤ gained t v (r.0)) j more_one in omega (arith, b))),
          (λ b i. elim i [
            | inl v ↦ no_piece w b ((w.call c).job) ((top_says w q (RaiseForAll b) fs (((h.fills).hold).calls) (z ∙ ap (λ v. record { top = v; below = fs }) v)).0) whole (is_piece b ((w.call c).job)) refl
            | inr v ↦ no_piece w b ((w.call c).job) ((top_says w q (LowerForAll b) fs (((h.fills).hold).calls) (z ∙ ap (λ v. record { top = v; below = fs }) v)).0) whole (is_piece b ((w.call c).job)) refl
          ]),
        )
          where
            whole : is_body (w.job (w.call c).job).kind ≡ true
            whole = ap is_body (((((h.fills).hold).calls).parts t m c o y).kind)

    more : (c : ℕ) → c + 1 ≤ w.calls → 1 ≤ (u.call c).count → 1 ≤ (w.call c).count
    more c m a = elim (either (ltb 0 (w.call c).count)) [
      | inl y ↦ (let b : 0 < (w.call c).count = ltb-true 0 (w.call c).count y in omega (arith, b))
      | inr y ↦ absurd (let b : (w.call c).count ≤ 0 = ltb-false 0 (w.call c).count y in let d : (u.call c).count ≡ 0 = (l.later).spent c m (omega (arith, b)) in omega (arith, a, d))
    ]

pub all_stays : (w : World) (q : Party) → SharesHold w → IfSome (outcome w q (w.stack q)) (Stays w q ((w.stack q).top) ((w.stack q).below))
all_stays w q h = stays (outcome w q (w.stack q)) (λ t g c. act_stays w q ((w.stack q).top) ((w.stack q).below) t refl h g c)
  where
    stays : (o : Option (Seen × Part)) → ((t : ℕ) → NotGiven ((w.stack q).top) t → (w.job t).counted ≡ true → IfSome o (λ r. ((world_after w q ((w.stack q).top) ((w.stack q).below) r).job t).counted ≡ true)) → IfSome o (Stays w q ((w.stack q).top) ((w.stack q).below))
    stays None f = tt
    stays (Some r) f = f

pub go_early : (w : World) (q : Party) → EarlyHold w → IfSome (outcome w q (w.stack q)) (λ r. EarlyHold (result w q (w.stack q) r))
go_early w q h = if_some_map (λ r. (FilledHold (result w q (w.stack q) r) × Ready w q ((w.stack q).top) ((w.stack q).below) r) × (Stays w q ((w.stack q).top) ((w.stack q).below) r × Gains w q ((w.stack q).top) ((w.stack q).below) r)) (λ r. EarlyHold (result w q (w.stack q) r))
    (λ r d. early_act w q ((w.stack q).top) ((w.stack q).below) r h refl ((d.0).0) (((d.0).1).last) ((d.1).0) ((d.1).1)) (outcome w q (w.stack q))
    (if_some_and (λ r. FilledHold (result w q (w.stack q) r) × Ready w q ((w.stack q).top) ((w.stack q).below) r) (λ r. Stays w q ((w.stack q).top) ((w.stack q).below) r × Gains w q ((w.stack q).top) ((w.stack q).below) r) (outcome w q (w.stack q))
    (if_some_and (λ r. FilledHold (result w q (w.stack q) r)) (Ready w q ((w.stack q).top) ((w.stack q).below)) (outcome w q (w.stack q)) (go_fills w q (h.fills)) (ready w q ((h.fills).hold)))
    (if_some_and (Stays w q ((w.stack q).top) ((w.stack q).below)) (Gains w q ((w.stack q).top) ((w.stack q).below)) (outcome w q (w.stack q)) (all_stays w q ((h.fills).hold)) (gains_by w q ((w.stack q).top) ((w.stack q).below) refl ((h.fills).hold))))
