-- each step leaves each share of a job or of a pool's value that is in the count with a keeper
use Rattle.rayon_machine_places.specs.declared.place.Mark.TheVariants.{Counted, Queued, Returned, Numbered, Dealt, Unnumbered}
use Rattle.rayon_machine_orders.proofs.Words.{Pieces, Scope, OfPool, OfScope, OfCast, Count, arith, refl, sym, ◌∙◌, ap, inl, inr, ℕ, zero, suc, Bool, true, false, ◌&&◌, ◌+◌, ◌-◌, ◌==◌, ◌≤◌, ◌<◌, nat_lt, if◌then◌else◌, Some, None, List, ◌≡◌, IfSome, ◌++◌, [], ◌∷◌, eqb-true, ltb-true, ltb-false}
use Rattle.rayon_machine_orders.proofs.Words.{ltb, Party, Worker, Caller, Ending, JobKind, Detached, Stored, Direct, TokenOf, Scoped, BodyOf, PieceOf, WholeOf, Plan, Detach, Here, Send, Fork, Feed, Open, Enter, Gather, PoolValue, OfJob, Body, Then, Resume, Place, PickVictim, StealFrom, YieldPop}
use Rattle.rayon_machine_orders.proofs.Words.{YieldPick, YieldSteal, LocalPop, Run, RaiseCount, GrowCall, PushJob, LowerCount, AddToFifo, PushToken, TakeFromFifo, RaiseForAll, PushForAll, LowerForAll, GrowScope, OpenSlot, OpenForAll, CloseForAll, GrowCast, DealPieces, StorePiece, PushInj}
use Rattle.rayon_machine_orders.proofs.Words.{PushOwn, Seen, Done, Refused, Yes, No, Start, Task, Event, Go, From, Refuse, Miss, End, Spawn, Fifo, Install, Join, Yield, YieldLocal, EndPool, Cast, OpenScope, IntoSpawn, IntoFifo, IntoCast, Broadcast, Over, PoolShape, Job, Call, same_party}
use Rattle.rayon_machine_orders.proofs.Words.{own_pool, is_member, plan_pool, plan_job, act_of, next_of, is_free, taken_number, plan_count, plan_book, count_kind, count_book, Shape, World, count_below, counts_at, Part, target_pool, target_worker, target_call, at_job, is_open, count_in}
use Rattle.rayon_machine_orders.proofs.Words.{count_pool, put, put_stack, after_move, after_choice, after_refusal, can_miss, after_miss, after_close, after_end, after_call, is_pool, new_job, new_call, after_spawn, after_send, after_install, after_join, after_yield, after_end_pool, step}
use Rattle.rayon_machine_orders.proofs.Words.{after_fifo, after_cast, put_pieces, new_piece, is_piece, mark_pieces, marked, after_scope, after_into, holds, after_enter, after_feed, after_deal, after_into_fifo, after_into_cast, after_broadcast, new_whole, new_gathering, start, IsRun, one}
use Rattle.rayon_machine_orders.proofs.Words.{is_detached, keeps_own, has_share, all_values, KeptOnce, IsCounted, share, shares_in, shares, is_busy, Feeding, Gathering}
use Rattle.rayon_machine_places.specs.declared.act.Seen.TheVariants.{Missing}
use Rattle.rayon_machine_runs.specs.World.{pool_more, pool_less}
use Rattle.rayon_machine_laws.specs.Counted.{values, values_in}
use Rattle.rayon_machine_laws.proofs.Frame.{either, same_party_true, if_some_and, if_some_map, if_cond, acted_keeps, put_same, put_old, stack_mine, after_counted, fifo_cases, is_sharing, piece_new, piece_old, piece_out, into_cases, into_fifo_cases, into_cast_cases, no_bare}
use Rattle.rayon_machine_laws.proofs.Ties.{job_at, outcome}
use Rattle.rayon_machine_laws.proofs.Events.{run_keeps}
use Rattle.rayon_machine_laws.proofs.Claims.{counts_detached, SaysQueue, SaysRun, MadeAs, SaysThen, SaysShare}
use Rattle.rayon_machine_laws.proofs.ClaimActs.{Lasting}
use Rattle.rayon_machine_laws.proofs.ClaimRuns.{top_says, world_after, place_part}
use Rattle.rayon_machine_laws.proofs.ClaimEvents.{ended_world}
use Rattle.rayon_machine_laws.proofs.ClaimMakes.{calling, below_new}
use Rattle.rayon_machine_laws.proofs.Amounts.{all_raises, raises_in, gained, pushed, paid, not_pushed, regained, waiting}
use Rattle.rayon_machine_laws.proofs.Tokens.{Tokens, sum_below}
use Rattle.rayon_machine_laws.proofs.ShareActs.{with_job, tally, SharesHold, one_most, one_is, one_not, is_tally, Untallied, same_untallied, act_untallied, Regains, act_regains}
use Rattle.rayon_machine_laws.proofs.ShareRuns.{shares_mine, values_mine, StartsAwaited, after_shares}
use Rattle.rayon_machine_laws.proofs.ShareSteps.{Ready, stack_after, counted_now, raised_world, no_steady, raise_steady, lower_steady, all_raised, raise_plain}
use Rattle.rayon_machine_laws.proofs.ShareLowers.{lowered_world, all_lowered, returned_jobs}
use Rattle.rayon_machine_laws.proofs.ShareEvents.{ready, ungained}
use Rattle.rayon_machine_laws.proofs.ShareEnds.{freed, closed_shares}
use Rattle.rayon_machine_laws.proofs.Bares.{all_bare, backs}
use Rattle.rayon_machine_laws.proofs.Returns.{ReturnsHold, unpaid, step_returns, first_returns, returned_none}
use Rattle.rayon_machine_orders.proofs.Keepers.{HasKeeper, KeepersHold, keepers_by, StaysBusy, act_pushes, act_busies, moved_stays, busy_kept, is_retake, StaysUntaken, spends_other, retake_busies}
use Rattle.rayon_machine_laws.proofs.PlacedRuns.{once}

-- the share of a job that is pushed goes with a detached job alone
pushed_most : (t : ℕ) (n : Plan) (v : Bool) (e : Seen) → pushed t (PushJob n v) e ≤ one (t == plan_job n)
pushed_most t (Detach p j) v Done = omega arith
pushed_most t (Detach p j) v _ = omega arith
pushed_most t (Here p j) v Done = omega arith
pushed_most t (Here p j) v _ = omega arith
pushed_most t (Open o) v Done = omega arith
pushed_most t (Open o) v _ = omega arith
pushed_most t (Enter x) v Done = omega arith
pushed_most t (Enter x) v _ = omega arith
pushed_most t (Send o) v e = omega arith
pushed_most t (Fork o a) v e = omega arith
pushed_most t (Feed f) v Done = omega arith
pushed_most t (Feed f) v _ = omega arith
pushed_most t (Gather g) v e = omega arith

plan_pushed : (w : World) (q : Party) (n : Plan) (v : Bool) (e : Seen) (t : ℕ) → SaysQueue w q n → (t == plan_job n) ≡ true → pushed t (PushJob n v) e ≤ one (is_detached (w.job t).kind)
plan_pushed w q (Detach p j) v e t s y = let a : pushed t (PushJob (Detach p j) v) e ≤ one (t == j) = pushed_most t (Detach p j) v e in let b : one (t == j) ≤ 1 = one_most (t == j) in
    let c : one (is_detached (w.job t).kind) ≡ 1 = ap (λ i. one (is_detached (w.job i).kind)) (eqb-true t j y) ∙ ap (λ k. one (is_detached k)) (s.kind) in omega (arith, a, b, c)
plan_pushed w q (Enter x) v e t s y = let a : pushed t (PushJob (Enter x) v) e ≤ one (t == x.job) = pushed_most t (Enter x) v e in let b : one (t == x.job) ≤ 1 = one_most (t == x.job) in
    let c : one (is_detached (w.job t).kind) ≡ 1 = ap (λ i. one (is_detached (w.job i).kind)) (eqb-true t x.job y) ∙ ap (λ k. one (is_detached k)) ((s.0).kind) in omega (arith, a, b, c)
plan_pushed w q (Send o) v e t s y = omega arith
plan_pushed w q (Fork o a) v e t s y = omega arith
plan_pushed w q _ v e t s y = absurd s

-- nor with one that is added to a FIFO list
added_most : (t : ℕ) (f : Feeding) (e : Seen) → pushed t (AddToFifo f) e ≤ one (t == f.job)
added_most t f Done = omega arith
added_most t f _ = omega arith

added_plan : (w : World) (t : ℕ) (f : Feeding) (e : Seen) → (t == f.job) ≡ true → MadeAs w f.job f.pool (count_kind f.count) → pushed t (AddToFifo f) e ≤ one (is_detached (w.job t).kind)
added_plan w t f e y s = let a : pushed t (AddToFifo f) e ≤ one (t == f.job) = added_most t f e in let b : one (t == f.job) ≤ 1 = one_most (t == f.job) in
    let c : one (is_detached (w.job t).kind) ≡ 1 = ap (λ i. one (is_detached (w.job i).kind)) (eqb-true t f.job y) ∙ ap (λ k. one (is_detached k)) (s.kind) ∙ ap one (counts_detached f.count) in omega (arith, a, b, c)

-- what a detached job keeps itself, it keeps after each act, but where its call takes it back; and one that is pushed
-- keeps its share from then on
abbrev pub BusyAfter : World → Party → Place → List Place → Seen × Part → Type 0
BusyAfter w q x fs r = (t : ℕ) → backs ((world_after w q x fs r).job t).at ≤ 0 → with_job (w.job t) + pushed t x (r.0) ≤ with_job ((world_after w q x fs r).job t) + regained t x (r.0)

push_job : (w : World) (q : Party) (n : Plan) (v : Bool) → job_at w q (act_of q (PushJob n v)) ≡ plan_job n
push_job w (Caller c) n v = refl
push_job w (Worker a b) n v = by (is_member (Worker a b) (plan_pool n))
  where
    by : (z : Bool) → job_at w (Worker a b) (if z then PushOwn (plan_job n) (plan_book n) else PushInj (plan_pool n) (plan_job n) (plan_book n)) ≡ plan_job n
    by true = refl
    by false = refl

-- where a place's act puts its job j into a list, of which it has the share
record Puts (w : World) (q : Party) (x : Place) (j : ℕ) (e : Seen) : Type 0 where
  pub most : (t : ℕ) → pushed t x e ≤ one (t == j)
  pub plan : (t : ℕ) → (t == j) ≡ true → pushed t x e ≤ one (is_detached (w.job t).kind)
  pub at : job_at w q (act_of q x) ≡ j
  pub share : (t : ℕ) → share t x ≡ one (t == j)

push_kept : (w : World) (q : Party) (x : Place) (j : ℕ) (fs : List Place) (r : Seen × Part) → SharesHold w → w.stack q ≡ record { top = x; below = fs } → Puts w q x j (r.0) → Lasting w (world_after w q x fs r)
    → StartsAwaited w (next_of (w.shape.pool (target_pool q (act_of q x))) q x (r.0)) → StaysBusy (place_part w q x) r → is_busy r.1.job.at ≡ true → BusyAfter w q x fs r
push_kept w q x j fs r h z pu l sa st bu t b = by (t == j) refl
  where
    still : with_job (w.job t) ≤ with_job ((world_after w q x fs r).job t)
    still = busy_kept w q x fs r l sa st t b

    by : (y : Bool) → (t == j) ≡ y → with_job (w.job t) + pushed t x (r.0) ≤ with_job ((world_after w q x fs r).job t) + regained t x (r.0)
    by false y = let a : pushed t x (r.0) ≤ one (t == j) = pu.most t in let c : one (t == j) ≡ 0 = ap one y in let d : with_job (w.job t) ≤ with_job ((world_after w q x fs r).job t) = still in omega (arith, a, c, d)
    by true y = let a : pushed t x (r.0) ≤ one (is_detached (w.job t).kind) = pu.plan t y in
        let c : shares t (w.stack q) + with_job (w.job t) ≤ one (w.job t).counted = (h.jobs t).alone q in
        let d : one (w.job t).counted ≤ 1 = one_most ((w.job t).counted) in
        let e : shares t (w.stack q) ≡ (share t x + shares_in t fs) = ap (shares t) z in
        let k : share t x ≡ one (t == j) = pu.share t in
        let f : one (t == j) ≡ 1 = ap one y in
        let g : with_job ((world_after w q x fs r).job t) ≡ one (is_detached (w.job t).kind) = own in omega (arith, a, c, d, e, f, g, k)
      where
        and_all : (c : Bool) → (c && true) ≡ c
        and_all true = refl
        and_all false = refl

        here : (t == job_at w q (act_of q x)) ≡ true
        here = ap (λ m. t == m) (pu.at) ∙ y

        now : is_detached (w.job t).kind ≡ true → is_busy ((world_after w q x fs r).job t).at ≡ true
        now de = one_is (is_busy ((world_after w q x fs r).job t).at)
            (let k : one (is_busy (put w.job (job_at w q (act_of q x)) (r.1.job) t).at) ≤ one (is_busy ((world_after w q x fs r).job t).at) = moved_stays q (next_of (w.shape.pool (target_pool q (act_of q x))) q x (r.0)) (put w.job (job_at w q (act_of q x)) (r.1.job)) t
            (spends_other w t (next_of (w.shape.pool (target_pool q (act_of q x))) q x (r.0)) sa de) b in
            let m : one (is_busy (put w.job (job_at w q (act_of q x)) (r.1.job) t).at) ≡ 1 = ap (λ c. one (is_busy (if c then r.1.job else w.job t).at)) here ∙ ap one bu in omega (arith, k, m))

        own : with_job ((world_after w q x fs r).job t) ≡ one (is_detached (w.job t).kind)
        own = ap (λ k. one (is_detached k && is_busy ((world_after w q x fs r).job t).at)) (l.kinds t) ∙ both (is_detached (w.job t).kind) refl
          where
            both : (c : Bool) → is_detached (w.job t).kind ≡ c → one (is_detached (w.job t).kind && is_busy ((world_after w q x fs r).job t).at) ≡ one (is_detached (w.job t).kind)
            both true de = ap (λ k. one (is_detached (w.job t).kind && k)) (now de) ∙ ap one (and_all (is_detached (w.job t).kind))
            both false de = ap (λ k. one (k && is_busy ((world_after w q x fs r).job t).at)) de ∙ sym (ap one de)

-- a job that is taken back: its share comes back to its call
retake_kept : (w : World) (q : Party) (f : Feeding) (fs : List Place) (r : Seen × Part) → Ready w q (TakeFromFifo f) fs r → Regains w q (TakeFromFifo f) r → StaysUntaken (place_part w q (TakeFromFifo f)) r → BusyAfter w q (TakeFromFifo f) fs r
retake_kept w q f fs (Task y, m) d g st t b = by (t == taken_number y) refl
  where
    n0 : ℕ
    n0 = job_at w q (act_of q (TakeFromFifo f))

    by : (z : Bool) → (t == taken_number y) ≡ z → with_job (w.job t) + 0 ≤ with_job (put w.job n0 m.job t) + one (t == taken_number y)
    by true e = let a : with_job (w.job t) ≤ 1 = one_most (keeps_own (w.job t)) in let c : one (t == taken_number y) ≡ 1 = ap one e in omega (arith, a, c)
    by false e = let a : with_job (put w.job n0 m.job t) ≡ with_job (w.job t) = ap with_job (put_old w.job n0 m.job t (ap (λ n. t == n) (g.0) ∙ e)) in omega (arith, a)
retake_kept w q f fs (e, m) d g st t b = let a : with_job (w.job t) ≤ with_job ((world_after w q (TakeFromFifo f) fs (e, m)).job t) = busy_kept w q (TakeFromFifo f) fs (e, m) (d.last) (d.starts) st t b in omega (arith, a)

-- places whose act puts no job into a list, and takes none back out of a FIFO list
abbrev is_push : Place → Bool
is_push (PushJob n v) = true
is_push (AddToFifo f) = true
is_push (TakeFromFifo f) = true
is_push (PushForAll c) = true
is_push (DealPieces g) = true
is_push _ = false

unpushed : (t : ℕ) (x : Place) (e : Seen) → is_push x ≡ false → pushed t x e ≡ 0
unpushed t (PushJob n v) e z = cc
unpushed t (AddToFifo f) e z = cc
unpushed t (PushForAll c) e z = cc
unpushed t (DealPieces g) e z = cc
unpushed t _ e z = refl

push_retakes : (x : Place) → is_push x ≡ false → is_retake x ≡ false
push_retakes (TakeFromFifo f) z = cc
push_retakes _ z = refl

plain_busy : (w : World) (q : Party) (x : Place) (fs : List Place) → is_push x ≡ false → IfSome (outcome w q (record { top = x; below = fs })) (Ready w q x fs) → IfSome (outcome w q (record { top = x; below = fs })) (BusyAfter w q x fs)
plain_busy w q x fs y d = if_some_map (λ r. Ready w q x fs r × StaysBusy (place_part w q x) r) (BusyAfter w q x fs)
    (λ r f t b. (let a : with_job (w.job t) ≤ with_job ((world_after w q x fs r).job t) = busy_kept w q x fs r ((f.0).last) ((f.0).starts) (f.1) t b in let c : pushed t x (r.0) ≡ 0 = unpushed t x (r.0) y in omega (arith, a, c)))
    (outcome w q (record { top = x; below = fs })) (if_some_and (Ready w q x fs) (StaysBusy (place_part w q x)) (outcome w q (record { top = x; below = fs })) d (act_busies w.shape q (counts_at w (target_pool q (act_of q x))) (place_part w q x) x (push_retakes x y)))

-- the pieces of a broadcast keep their shares from their push on
cast_busy : (w : World) (q : Party) (c : Pieces) (fs : List Place) (r : Seen × Part) → SharesHold w → w.stack q ≡ record { top = PushForAll c; below = fs } → Ready w q (PushForAll c) fs r → StaysBusy (place_part w q (PushForAll c)) r → BusyAfter w q (PushForAll c) fs r
cast_busy w q c fs (Done, m) h z d st t b = by (is_piece c t) refl
  where
    n0 : ℕ
    n0 = job_at w q (act_of q (PushForAll c))

    v : World
    v = world_after w q (PushForAll c) fs (Done, m)

    still : with_job (w.job t) ≤ with_job (v.job t)
    still = busy_kept w q (PushForAll c) fs (Done, m) (d.last) (d.starts) st t b

    by : (y : Bool) → is_piece c t ≡ y → with_job (w.job t) + one (is_piece c t) ≤ with_job (v.job t) + 0
    by false y = let a : with_job (w.job t) ≤ with_job (v.job t) = still in let e : one (is_piece c t) ≡ 0 = ap one y in omega (arith, a, e)
    by true y = let a : shares t (w.stack q) + with_job (w.job t) ≤ one (w.job t).counted = (h.jobs t).alone q in
        let e : one (w.job t).counted ≤ 1 = one_most ((w.job t).counted) in
        let g : shares t (w.stack q) ≡ (one (is_piece c t) + shares_in t fs) = ap (shares t) z in
        let i : one (is_piece c t) ≡ 1 = ap one y in
        let k : with_job (v.job t) ≡ 1 = ap (λ k. one (is_detached k && is_busy (v.job t).at)) ((d.last).kinds t ∙ ((top_says w q (PushForAll c) fs (h.calls) z).0 t y).kind) ∙ ap (λ b. one (b && is_busy (v.job t).at)) (counts_detached c.count)
        ∙ ap (λ j. one (is_busy (j.at))) (piece_new c (marked Queued c.pool) (put w.job n0 (m.job)) t y) in omega (arith, a, e, g, i, k)
cast_busy w q c fs (e, m) h z d st t b = let a : with_job (w.job t) ≤ with_job ((world_after w q (PushForAll c) fs (e, m)).job t) = busy_kept w q (PushForAll c) fs (e, m) (d.last) (d.starts) st t b in omega (arith, a)

-- and those of one that waits, which have none before
deal_busy : (w : World) (q : Party) (g : Gathering) (fs : List Place) (r : Seen × Part) → SharesHold w → w.stack q ≡ record { top = DealPieces g; below = fs } → Ready w q (DealPieces g) fs r → StaysBusy (place_part w q (DealPieces g)) r → BusyAfter w q (DealPieces g) fs r
deal_busy w q g fs (Done, m) h z d st t b = by (is_piece g.pieces t) refl
  where
    n0 : ℕ
    n0 = job_at w q (act_of q (DealPieces g))

    v : World
    v = world_after w q (DealPieces g) fs (Done, m)

    still : with_job (w.job t) ≤ with_job (v.job t)
    still = busy_kept w q (DealPieces g) fs (Done, m) (d.last) (d.starts) st t b

    by : (y : Bool) → is_piece g.pieces t ≡ y → with_job (w.job t) + one (is_piece g.pieces t) ≤ with_job (v.job t) + 0
    by false y = let a : with_job (w.job t) ≤ with_job (v.job t) = still in let e : one (is_piece g.pieces t) ≡ 0 = ap one y in omega (arith, a, e)
    by true y = let a : shares t (w.stack q) + with_job (w.job t) ≤ one (w.job t).counted = (h.jobs t).alone q in
        let e : all_raises t (w.stack q) + one (w.job t).counted ≤ 1 = h.unraised q t in
        let f : all_raises t (w.stack q) ≡ (one (is_piece g.pieces t) + raises_in t fs) = ap (all_raises t) z in
        let i : one (is_piece g.pieces t) ≡ 1 = ap one y in
        let k : with_job (v.job t) ≡ 1 = ap (λ k. one (is_detached k && is_busy (v.job t).at)) ((d.last).kinds t ∙ ((top_says w q (DealPieces g) fs (h.calls) z).pieces t y).kind) ∙ ap (λ b. one (b && is_busy (v.job t).at)) (counts_detached (g.pieces).count)
        ∙ ap (λ j. one (is_busy (j.at))) (piece_new (g.pieces) (marked Dealt (g.pieces).pool) (put w.job n0 (m.job)) t y) in omega (arith, a, e, f, i, k)
deal_busy w q g fs (e, m) h z d st t b = let a : with_job (w.job t) ≤ with_job ((world_after w q (DealPieces g) fs (e, m)).job t) = busy_kept w q (DealPieces g) fs (e, m) (d.last) (d.starts) st t b in omega (arith, a)

pub all_busy : (w : World) (q : Party) (x : Place) (fs : List Place) → w.stack q ≡ record { top = x; below = fs } → SharesHold w → IfSome (outcome w q (record { top = x; below = fs })) (Ready w q x fs) → IfSome (outcome w q (record { top = x; below = fs })) (BusyAfter w q x fs)
all_busy w q (PushJob n v) fs z h d = if_some_map (λ r. Ready w q (PushJob n v) fs r × (StaysBusy (place_part w q (PushJob n v)) r × (is_busy r.1.job.at ≡ true))) (BusyAfter w q (PushJob n v) fs)
    (λ r f. push_kept w q (PushJob n v) (plan_job n) fs r h z (record { most = λ t. pushed_most t n v (r.0); plan = λ t y. plan_pushed w q n v (r.0) t (top_says w q (PushJob n v) fs (h.calls) z) y; at = push_job w q n v; share = λ t. refl }) ((f.0).last) ((f.0).starts) ((f.1).0) ((f.1).1))
    (outcome w q (record { top = PushJob n v; below = fs }))
    (if_some_and (Ready w q (PushJob n v) fs) (λ r. StaysBusy (place_part w q (PushJob n v)) r × (is_busy r.1.job.at ≡ true)) (outcome w q (record { top = PushJob n v; below = fs })) d
    (if_some_and (StaysBusy (place_part w q (PushJob n v))) (λ r. is_busy r.1.job.at ≡ true) (outcome w q (record { top = PushJob n v; below = fs })) (act_busies w.shape q (counts_at w (target_pool q (act_of q (PushJob n v)))) (place_part w q (PushJob n v)) (PushJob n v) refl)
    (act_pushes w.shape q (counts_at w (target_pool q (act_of q (PushJob n v)))) (place_part w q (PushJob n v)) n v)))
all_busy w (Worker a b) (AddToFifo f) fs z h d = if_some_map (λ r. Ready w (Worker a b) (AddToFifo f) fs r × (StaysBusy (place_part w (Worker a b) (AddToFifo f)) r × (is_busy r.1.job.at ≡ true))) (BusyAfter w (Worker a b) (AddToFifo f) fs)
    (λ r g. push_kept w (Worker a b) (AddToFifo f) (f.job) fs r h z (record { most = λ t. added_most t f (r.0); plan = λ t y. added_plan w t f (r.0) y ((top_says w (Worker a b) (AddToFifo f) fs (h.calls) z).0); at = refl; share = λ t. refl }) ((g.0).last) ((g.0).starts) ((g.1).0) ((g.1).1))
    (outcome w (Worker a b) (record { top = AddToFifo f; below = fs }))
    (if_some_and (Ready w (Worker a b) (AddToFifo f) fs) (λ r. StaysBusy (place_part w (Worker a b) (AddToFifo f)) r × (is_busy r.1.job.at ≡ true)) (outcome w (Worker a b) (record { top = AddToFifo f; below = fs })) d
    (if_some_and (StaysBusy (place_part w (Worker a b) (AddToFifo f))) (λ r. is_busy r.1.job.at ≡ true) (outcome w (Worker a b) (record { top = AddToFifo f; below = fs })) (act_busies w.shape (Worker a b) (counts_at w a) (place_part w (Worker a b) (AddToFifo f)) (AddToFifo f) refl)
    (if_cond (λ (r : Seen × Part). is_busy r.1.job.at ≡ true) (is_open (Worker a b) ((w.seat a b).feeder (count_book f.count))) _ (λ o. refl))))
all_busy w (Caller c) (AddToFifo f) fs z h d = tt
all_busy w (Worker a b) (TakeFromFifo f) fs z h d = if_some_map (λ r. Ready w (Worker a b) (TakeFromFifo f) fs r × (Regains w (Worker a b) (TakeFromFifo f) r × StaysUntaken (place_part w (Worker a b) (TakeFromFifo f)) r)) (BusyAfter w (Worker a b) (TakeFromFifo f) fs)
    (λ r g. retake_kept w (Worker a b) f fs r (g.0) ((g.1).0) ((g.1).1))
    (outcome w (Worker a b) (record { top = TakeFromFifo f; below = fs }))
    (if_some_and (Ready w (Worker a b) (TakeFromFifo f) fs) (λ r. Regains w (Worker a b) (TakeFromFifo f) r × StaysUntaken (place_part w (Worker a b) (TakeFromFifo f)) r) (outcome w (Worker a b) (record { top = TakeFromFifo f; below = fs })) d
    (if_some_and (Regains w (Worker a b) (TakeFromFifo f)) (StaysUntaken (place_part w (Worker a b) (TakeFromFifo f))) (outcome w (Worker a b) (record { top = TakeFromFifo f; below = fs })) (act_regains w (Worker a b) (TakeFromFifo f) (h.calls) (once w ((h.calls).jobs)))
    (retake_busies w.shape a b (counts_at w a) (place_part w (Worker a b) (TakeFromFifo f)) f)))
all_busy w (Caller c) (TakeFromFifo f) fs z h d = tt
all_busy w q (PushForAll c) fs z h d = if_some_map (λ r. Ready w q (PushForAll c) fs r × StaysBusy (place_part w q (PushForAll c)) r) (BusyAfter w q (PushForAll c) fs) (λ r f. cast_busy w q c fs r h z (f.0) (f.1)) (outcome w q (record { top = PushForAll c; below = fs }))
    (if_some_and (Ready w q (PushForAll c) fs) (StaysBusy (place_part w q (PushForAll c))) (outcome w q (record { top = PushForAll c; below = fs })) d (act_busies w.shape q (counts_at w (target_pool q (act_of q (PushForAll c)))) (place_part w q (PushForAll c)) (PushForAll c) refl))
all_busy w q (DealPieces g) fs z h d = if_some_map (λ r. Ready w q (DealPieces g) fs r × StaysBusy (place_part w q (DealPieces g)) r) (BusyAfter w q (DealPieces g) fs) (λ r f. deal_busy w q g fs r h z (f.0) (f.1)) (outcome w q (record { top = DealPieces g; below = fs }))
    (if_some_and (Ready w q (DealPieces g) fs) (StaysBusy (place_part w q (DealPieces g))) (outcome w q (record { top = DealPieces g; below = fs })) d (act_busies w.shape q (counts_at w (target_pool q (act_of q (DealPieces g)))) (place_part w q (DealPieces g)) (DealPieces g) refl))
all_busy w q x fs z h d = plain_busy w q x fs refl d

-- an act, by what it says of the shares that are in the count after it
act_keepers : (w : World) (q : Party) (x : Place) (fs : List Place) (r : Seen × Part) → Ready w q x fs r → BusyAfter w q x fs r → ((t : ℕ) → ((world_after w q x fs r).job t).counted ≡ true → (paid t x ≡ 0) × ((one (w.job t).counted + gained t x (r.0)) ≡ 1))
    → ((p : ℕ) → ((world_after w q x fs r).pool p).counted ≡ true → ((w.pool p).counted ≡ true) × (values p x ≡ 0)) → KeepersHold w → ReturnsHold (world_after w q x fs r) → KeepersHold (world_after w q x fs r)
act_keepers w q x fs r d bu fj fp h s = keepers_by w (world_after w q x fs r) q (stack_after w q x fs (r.0)) (λ i. refl)
    (λ t c. (
      gained t x (r.0),
      (fj t c).1,
      (let a : shares t (put_stack w.stack q (stack_after w q x fs (r.0)) q) + (pushed t x (r.0) + paid t x) ≡ shares t (w.stack q) + (gained t x (r.0) + regained t x (r.0)) = shares_mine w q x fs (w.shape.pool (target_pool q (act_of q x))) (r.0) t (d.stack) in
          let b : shares t (put_stack w.stack q (stack_after w q x fs (r.0)) q) ≡ shares t (stack_after w q x fs (r.0)) = ap (shares t) (stack_mine w.stack q (stack_after w q x fs (r.0))) in
          let e : all_bare t ((world_after w q x fs r).stack q) + backs ((world_after w q x fs r).job t).at ≤ 0 = s.bare q t c in
          let f : with_job (w.job t) + pushed t x (r.0) ≤ with_job ((world_after w q x fs r).job t) + regained t x (r.0) = bu t (omega (arith, e)) in
          let g : paid t x ≡ 0 = (fj t c).0 in omega (arith, a, b, f, g)),
    ))
    (λ p c. (
      (fp p c).0,
      (let a : all_values p (put_stack w.stack q (stack_after w q x fs (r.0)) q) + values p x ≡ all_values p (w.stack q) = values_mine w q x fs (w.shape.pool (target_pool q (act_of q x))) (r.0) p (d.stack) in
          let b : all_values p (put_stack w.stack q (stack_after w q x fs (r.0)) q) ≡ all_values p (stack_after w q x fs (r.0)) = ap (all_values p) (stack_mine w.stack q (stack_after w q x fs (r.0))) in
          let e : values p x ≡ 0 = (fp p c).1 in let f : one ((world_after w q x fs r).pool p).held ≡ one (w.pool p).held = ap one (d.held p) in omega (arith, a, b, e, f)),
    )) h s

-- an act that neither takes a share nor gives one back
plain_keepers : (w : World) (q : Party) (x : Place) (fs : List Place) (r : Seen × Part) → Ready w q x fs r → BusyAfter w q x fs r → Untallied (place_part w q x) r → is_sharing (next_of (w.shape.pool (target_pool q (act_of q x))) q x (r.0)) ≡ false
    → ((t : ℕ) → (paid t x ≡ 0) × (gained t x (r.0) ≡ 0)) → ((p : ℕ) → values p x ≡ 0) → KeepersHold w → ReturnsHold (world_after w q x fs r) → KeepersHold (world_after w q x fs r)
plain_keepers w q x fs r d bu un st none still h s = act_keepers w q x fs r d bu
    (λ t c. ((none t).0, (let a : one (w.job t).counted ≡ 1 = ap one (sym (counted t) ∙ c) in let b : gained t x (r.0) ≡ 0 = (none t).1 in omega (arith, a, b))))
    (λ p c. (sym (put_same (λ v. v.counted) w.pool (target_pool q (act_of q x)) (r.1.pool) p (un.pool)) ∙ c, still p)) h s
  where
    counted : (t : ℕ) → ((world_after w q x fs r).job t).counted ≡ (w.job t).counted
    counted t = counted_now w q x fs r (d.stack) (d.hold) (un.job) st t

-- who has a share after one is taken, and after one is given back
raise_jobs : (w : World) (q : Party) (n : Plan) (fs : List Place) → SharesHold w → w.stack q ≡ record { top = RaiseCount n; below = fs } → (t : ℕ) → ((raised_world w q n fs).job t).counted ≡ true → (one (w.job t).counted + one (t == plan_job n)) ≡ 1
raise_jobs w q n fs h z t c = by (t == plan_job n) refl
  where
    by : (b : Bool) → (t == plan_job n) ≡ b → (one (w.job t).counted + one b) ≡ 1
    by true e = let a : all_raises t (w.stack q) + one (w.job t).counted ≤ 1 = h.unraised q t in let b : all_raises t (w.stack q) ≡ ((one (t == plan_job n) + waiting t n) + raises_in t fs) = ap (all_raises t) z in let d : one (t == plan_job n) ≡ 1 = ap one e in omega (arith, a, b, d)
    by false e = let a : one (w.job t).counted ≡ 1 = ap one
        (sym (after_counted q (next_of (w.shape.pool (count_pool q (plan_count n))) q (RaiseCount n) Done) (put w.job (plan_job n) (record (w.job (plan_job n)) { counted = true })) t (raise_steady n)
        (no_bare (next_of (w.shape.pool (count_pool q (plan_count n))) q (RaiseCount n) Done) (put w.job (plan_job n) (record (w.job (plan_job n)) { counted = true })) t (raise_plain n))
        ∙ ap (λ j. j.counted) (put_old w.job (plan_job n) (record (w.job (plan_job n)) { counted = true }) t e)) ∙ c) in omega (arith, a)

raise_pools : (w : World) (q : Party) (n : Plan) (fs : List Place) (p : ℕ) → ((raised_world w q n fs).pool p).counted ≡ true → (w.pool p).counted ≡ true
raise_pools w q n fs p c = sym (put_same (λ v. v.counted) w.pool (count_pool q (plan_count n)) (record (w.pool (count_pool q (plan_count n))) { count = pool_more (plan_count n) 1 (w.pool (count_pool q (plan_count n))).count }) p refl) ∙ c

lower_jobs : (w : World) (q : Party) (p : Count) (u : ℕ) (n : Then) (fs : List Place) (e : Seen) → SharesHold w → w.stack q ≡ record { top = LowerCount p (OfJob u) n; below = fs } → (t : ℕ) → ((lowered_world w q p (OfJob u) n fs e).job t).counted ≡ true → (one (t == u) ≡ 0)
    × ((one (w.job t).counted + 0) ≡ 1)
lower_jobs w q p u n fs e h z t c = by (t == u) refl
  where
    counted : ((lowered_world w q p (OfJob u) n fs e).job t).counted ≡ (put w.job u (record (w.job u) { counted = false }) t).counted
    counted = after_shares w q (LowerCount p (OfJob u) n) fs (w.shape.pool (count_pool q p)) e z h.unraised (lower_steady (w.shape.pool (count_pool q p)) q p (OfJob u) n e) (put w.job u (record (w.job u) { counted = false })) t (λ y. off (t == u) y)
      where
        off : (b : Bool) → (w.job t).counted ≡ false → (if b then record (w.job u) { counted = false } else w.job t).counted ≡ false
        off true y = refl
        off false y = y

    by : (b : Bool) → (t == u) ≡ b → (one b ≡ 0) × ((one (w.job t).counted + 0) ≡ 1)
    by true y = absurd (let a : (put w.job u (record (w.job u) { counted = false }) t).counted ≡ false = ap (λ b. (if b then record (w.job u) { counted = false } else w.job t).counted) y in let b : (put w.job u (record (w.job u) { counted = false }) t).counted ≡ true = sym counted ∙ c in
        let d : false ≡ true = sym a ∙ b in cc)
    by false y = (refl, (let a : one (w.job t).counted ≡ 1 = ap one (sym (counted ∙ ap (λ j. j.counted) (put_old w.job u (record (w.job u) { counted = false }) t y)) ∙ c) in omega (arith, a)))

lower_pools : (w : World) (q : Party) (p : Count) (u : ℕ) (n : Then) (fs : List Place) (e : Seen) (r : ℕ) → ((lowered_world w q p (OfJob u) n fs e).pool r).counted ≡ true → (w.pool r).counted ≡ true
lower_pools w q p u n fs e r c = sym (put_same (λ v. v.counted) w.pool (count_pool q p) (record (w.pool (count_pool q p)) { count = pool_less p 1 (w.pool (count_pool q p)).count }) r refl) ∙ c

value_jobs : (w : World) (q : Party) (p : ℕ) (n : Then) (fs : List Place) (e : Seen) → SharesHold w → w.stack q ≡ record { top = LowerCount (OfPool p) PoolValue n; below = fs } → (t : ℕ) → ((lowered_world w q (OfPool p) PoolValue n fs e).job t).counted ≡ true → (one (w.job t).counted + 0) ≡ 1
value_jobs w q p n fs e h z t c = let a : one (w.job t).counted ≡ 1 = ap one (sym (after_shares w q (LowerCount (OfPool p) PoolValue n) fs (w.shape.pool p) e z h.unraised (lower_steady (w.shape.pool p) q (OfPool p) PoolValue n e) (put w.job 0 (w.job 0)) t (λ y. same ∙ y) ∙ same) ∙ c) in
    omega (arith, a)
  where
    same : (put w.job 0 (w.job 0) t).counted ≡ (w.job t).counted
    same = put_same (λ j. j.counted) w.job 0 (w.job 0) t refl

value_pools : (w : World) (q : Party) (p : ℕ) (n : Then) (fs : List Place) (e : Seen) (r : ℕ) → ((lowered_world w q (OfPool p) PoolValue n fs e).pool r).counted ≡ true → ((w.pool r).counted ≡ true) × (one (r == p) ≡ 0)
value_pools w q p n fs e r c = by (r == p) refl c
  where
    by : (b : Bool) → (r == p) ≡ b → (if b then record (w.pool p) { count = (w.pool p).count - 1; counted = false } else w.pool r).counted ≡ true → ((w.pool r).counted ≡ true) × (one b ≡ 0)
    by true y c = absurd (let d : false ≡ true = c in cc)
    by false y c = (c, refl)

-- each act
raise_by : (w : World) (q : Party) (n : Plan) (fs : List Place) → KeepersHold w → (done : Seen × Part) → (Ready w q (RaiseCount n) fs done × BusyAfter w q (RaiseCount n) fs done → ReturnsHold (world_after w q (RaiseCount n) fs done) → KeepersHold (world_after w q (RaiseCount n) fs done))
    → (b : Bool) → IfSome (if b then Some (Refused, place_part w q (RaiseCount n)) else Some done) (λ r. Ready w q (RaiseCount n) fs r × BusyAfter w q (RaiseCount n) fs r) → IfSome (if b then Some (Refused, place_part w q (RaiseCount n)) else Some done)
    (λ r. ReturnsHold (world_after w q (RaiseCount n) fs r) → KeepersHold (world_after w q (RaiseCount n) fs r))
raise_by w q n fs h done f true d = plain_keepers w q (RaiseCount n) fs (Refused, place_part w q (RaiseCount n)) (d.0) (d.1) (same_untallied (place_part w q (RaiseCount n)) Refused) refl (λ t. (refl, refl)) (λ p. refl) h
raise_by w q n fs h done f false d = f d

unvalued : (p : ℕ) (x : Place) → is_tally x ≡ false → values p x ≡ 0
unvalued p (LowerCount (OfPool r) s n) z = cc
unvalued p (LowerCount (OfScope c o) Body n) z = refl
unvalued p (LowerCount (OfScope c o) PoolValue n) z = cc
unvalued p (LowerCount (OfScope c o) (OfJob u) n) z = cc
unvalued p (LowerCount (OfCast c o) Body n) z = refl
unvalued p (LowerCount (OfCast c o) PoolValue n) z = cc
unvalued p (LowerCount (OfCast c o) (OfJob u) n) z = cc
unvalued p _ z = refl

plain_by : (w : World) (q : Party) (x : Place) (fs : List Place) → is_tally x ≡ false → KeepersHold w → IfSome (outcome w q (record { top = x; below = fs })) (λ r. Ready w q x fs r × BusyAfter w q x fs r) → IfSome (outcome w q (record { top = x; below = fs }))
    (λ r. ReturnsHold (world_after w q x fs r) → KeepersHold (world_after w q x fs r))
plain_by w q x fs y h d = if_some_map (λ r. (Ready w q x fs r × BusyAfter w q x fs r) × (Untallied (place_part w q x) r × (is_sharing (next_of (w.shape.pool (target_pool q (act_of q x))) q x (r.0)) ≡ false)))
    (λ r. ReturnsHold (world_after w q x fs r) → KeepersHold (world_after w q x fs r)) (λ r f. plain_keepers w q x fs r ((f.0).0) ((f.0).1) ((f.1).0) ((f.1).1) (λ t. (unpaid t x y, ungained t x (r.0) y)) (λ p. unvalued p x y) h) (outcome w q (record { top = x; below = fs }))
    (if_some_and (λ r. Ready w q x fs r × BusyAfter w q x fs r) (λ r. Untallied (place_part w q x) r × (is_sharing (next_of (w.shape.pool (target_pool q (act_of q x))) q x (r.0)) ≡ false)) (outcome w q (record { top = x; below = fs })) d
    (if_some_and (Untallied (place_part w q x)) (λ r. is_sharing (next_of (w.shape.pool (target_pool q (act_of q x))) q x (r.0)) ≡ false) (outcome w q (record { top = x; below = fs })) (act_untallied w.shape q (counts_at w (target_pool q (act_of q x))) (place_part w q x) x y)
    (no_steady w.shape (w.shape.pool (target_pool q (act_of q x))) q (counts_at w (target_pool q (act_of q x))) (place_part w q x) x y)))

-- the acts of a broadcast on the count
all_jobs : (w : World) (q : Party) (c : Pieces) (fs : List Place) → SharesHold w → w.stack q ≡ record { top = RaiseForAll c; below = fs } → (t : ℕ) → ((all_raised w q c fs).job t).counted ≡ true → (one (w.job t).counted + one (is_piece c t)) ≡ 1
all_jobs w q c fs h z t d = by (is_piece c t) refl d
  where
    by : (b : Bool) → is_piece c t ≡ b → (if b then marked Counted c.pool (t - c.first) (put w.job 0 (w.job 0) t) else put w.job 0 (w.job 0) t).counted ≡ true → (one (w.job t).counted + one b) ≡ 1
    by true e d = let a : all_raises t (w.stack q) + one (w.job t).counted ≤ 1 = h.unraised q t in let b : all_raises t (w.stack q) ≡ (one (is_piece c t) + raises_in t fs) = ap (all_raises t) z in let f : one (is_piece c t) ≡ 1 = ap one e in omega (arith, a, b, f)
    by false e d = let a : one (w.job t).counted ≡ 1 = ap one (sym (put_same (λ j. j.counted) w.job 0 (w.job 0) t refl) ∙ d) in omega (arith, a)

all_pools : (w : World) (q : Party) (c : Pieces) (fs : List Place) (p : ℕ) → ((all_raised w q c fs).pool p).counted ≡ true → (w.pool p).counted ≡ true
all_pools w q c fs p d = sym (put_same (λ v. v.counted) w.pool (count_pool q c.count) (record (w.pool (count_pool q c.count)) { count = pool_more c.count c.workers (w.pool (count_pool q c.count)).count }) p refl) ∙ d

less_jobs : (w : World) (q : Party) (c : Pieces) (fs : List Place) (e : Seen) (t : ℕ) → ((all_lowered w q c fs e).job t).counted ≡ true → (one (is_piece c t) ≡ 0) × ((one (w.job t).counted + 0) ≡ 1)
less_jobs w q c fs e t d = both (returned_none w c 0 (w.job 0) refl t (ap (λ g. (g t).counted) (sym (returned_jobs (w.shape.pool (count_pool q c.count)) q c e (put w.job 0 (w.job 0)))) ∙ d))
  where
    both : (is_piece c t ≡ false) × ((w.job t).counted ≡ true) → (one (is_piece c t) ≡ 0) × ((one (w.job t).counted + 0) ≡ 1)
    both p = (ap one (p.0), (let a : one (w.job t).counted ≡ 1 = ap one (p.1) in omega (arith, a)))

less_pools : (w : World) (q : Party) (c : Pieces) (fs : List Place) (e : Seen) (p : ℕ) → ((all_lowered w q c fs e).pool p).counted ≡ true → (w.pool p).counted ≡ true
less_pools w q c fs e p d = sym (put_same (λ v. v.counted) w.pool (count_pool q c.count) (record (w.pool (count_pool q c.count)) { count = pool_less c.count c.workers (w.pool (count_pool q c.count)).count }) p refl) ∙ d

back_keepers : (w : World) (q : Party) (c : Pieces) (fs : List Place) → KeepersHold w → (Ready w q (RaiseForAll c) fs (Refused, place_part w q (RaiseForAll c))) → BusyAfter w q (RaiseForAll c) fs (Refused, place_part w q (RaiseForAll c))
    → (world_after w q (RaiseForAll c) fs (Refused, place_part w q (RaiseForAll c))).job ≡ mark_pieces c Returned (put w.job 0 (w.job 0)) → ReturnsHold (world_after w q (RaiseForAll c) fs (Refused, place_part w q (RaiseForAll c)))
    → KeepersHold (world_after w q (RaiseForAll c) fs (Refused, place_part w q (RaiseForAll c)))
back_keepers w q c fs h d bu jo s = act_keepers w q (RaiseForAll c) fs (Refused, place_part w q (RaiseForAll c)) d bu
    (λ t k. (refl, (let a : one (w.job t).counted ≡ 1 = ap one ((returned_none w c 0 (w.job 0) refl t (ap (λ g. (g t).counted) (sym jo) ∙ k)).1) in omega (arith, a))))
    (λ p k. (sym (put_same (λ v. v.counted) w.pool (target_pool q (act_of q (RaiseForAll c))) (w.pool (target_pool q (act_of q (RaiseForAll c)))) p refl) ∙ k, refl)) h s

all_by : (w : World) (q : Party) (c : Pieces) (fs : List Place)
    → (Ready w q (RaiseForAll c) fs (Refused, place_part w q (RaiseForAll c)) × BusyAfter w q (RaiseForAll c) fs (Refused, place_part w q (RaiseForAll c)) → ReturnsHold (world_after w q (RaiseForAll c) fs (Refused, place_part w q (RaiseForAll c)))
    → KeepersHold (world_after w q (RaiseForAll c) fs (Refused, place_part w q (RaiseForAll c)))) → (done : Seen × Part)
    → (Ready w q (RaiseForAll c) fs done × BusyAfter w q (RaiseForAll c) fs done → ReturnsHold (world_after w q (RaiseForAll c) fs done) → KeepersHold (world_after w q (RaiseForAll c) fs done)) → (b : Bool) → IfSome (if b then Some (Refused, place_part w q (RaiseForAll c)) else Some done)
    (λ r. Ready w q (RaiseForAll c) fs r × BusyAfter w q (RaiseForAll c) fs r) → IfSome (if b then Some (Refused, place_part w q (RaiseForAll c)) else Some done) (λ r. ReturnsHold (world_after w q (RaiseForAll c) fs r) → KeepersHold (world_after w q (RaiseForAll c) fs r))
all_by w q c fs none done f true d = none d
all_by w q c fs none done f false d = f d

-- the pieces of a broadcast that waits get their shares where they come into their lists
deal_jobs : (w : World) (q : Party) (g : Gathering) (fs : List Place) (m : Part) → m.job ≡ (place_part w q (DealPieces g)).job → SharesHold w → w.stack q ≡ record { top = DealPieces g; below = fs } → (t : ℕ) → ((world_after w q (DealPieces g) fs (Done, m)).job t).counted ≡ true
    → (one (w.job t).counted + one (is_piece g.pieces t)) ≡ 1
deal_jobs w q g fs m ej h z t d = by (is_piece g.pieces t) refl d
  where
    n0 : ℕ
    n0 = job_at w q (act_of q (DealPieces g))

    by : (b : Bool) → is_piece g.pieces t ≡ b → (if b then marked Dealt (g.pieces).pool (t - (g.pieces).first) (put w.job n0 m.job t) else put w.job n0 m.job t).counted ≡ true → (one (w.job t).counted + one b) ≡ 1
    by true e d = let a : all_raises t (w.stack q) + one (w.job t).counted ≤ 1 = h.unraised q t in let b : all_raises t (w.stack q) ≡ (one (is_piece g.pieces t) + raises_in t fs) = ap (all_raises t) z in let f : one (is_piece g.pieces t) ≡ 1 = ap one e in omega (arith, a, b, f)
    by false e d = let a : one (w.job t).counted ≡ 1 = ap one (sym (put_same (λ j. j.counted) w.job n0 m.job t (ap (λ j. j.counted) ej)) ∙ d) in omega (arith, a)

go_by : (w : World) (q : Party) (x : Place) (fs : List Place) → w.stack q ≡ record { top = x; below = fs } → KeepersHold w → IfSome (outcome w q (record { top = x; below = fs })) (λ r. Ready w q x fs r × BusyAfter w q x fs r) → IfSome (outcome w q (record { top = x; below = fs }))
    (λ r. ReturnsHold (world_after w q x fs r) → KeepersHold (world_after w q x fs r))
go_by w (Worker a b) (RaiseCount n) fs z h d = raise_by w (Worker a b) n fs h _ (λ f. act_keepers w (Worker a b) (RaiseCount n) fs _ (f.0) (f.1) (λ t c. (refl, raise_jobs w (Worker a b) n fs ((h.returns).shares) z t c)) (λ p c. (raise_pools w (Worker a b) n fs p c, refl)) h)
    (count_in (place_part w (Worker a b) (RaiseCount n)) (plan_count n) == 0) d
go_by w (Worker a b) (LowerCount k (OfJob u) n) fs z h d = act_keepers w (Worker a b) (LowerCount k (OfJob u) n) fs _ (d.0) (d.1)
    (λ t c. lower_jobs w (Worker a b) k u n fs (if count_in (place_part w (Worker a b) (LowerCount k (OfJob u) n)) k == 1 then Yes else No) ((h.returns).shares) z t c)
    (λ r c. (lower_pools w (Worker a b) k u n fs (if count_in (place_part w (Worker a b) (LowerCount k (OfJob u) n)) k == 1 then Yes else No) r c, refl)) h
go_by w (Worker a b) (LowerCount (OfPool p) PoolValue n) fs z h d = act_keepers w (Worker a b) (LowerCount (OfPool p) PoolValue n) fs _ (d.0) (d.1)
    (λ t c. (refl, value_jobs w (Worker a b) p n fs (if count_in (place_part w (Worker a b) (LowerCount (OfPool p) PoolValue n)) (OfPool p) == 1 then Yes else No) ((h.returns).shares) z t c))
    (λ r c. value_pools w (Worker a b) p n fs (if count_in (place_part w (Worker a b) (LowerCount (OfPool p) PoolValue n)) (OfPool p) == 1 then Yes else No) r c) h
go_by w (Worker a b) (LowerCount (OfPool p) Body n) fs z h d = absurd (let s : SaysThen w (Worker a b) n × SaysShare w (OfPool p) Body n = top_says w (Worker a b) (LowerCount (OfPool p) Body n) fs (((h.returns).shares).calls) z in s.1)
go_by w (Worker a b) (LowerCount (OfScope x o) PoolValue n) fs z h d = absurd (let s : SaysThen w (Worker a b) n × SaysShare w (OfScope x o) PoolValue n = top_says w (Worker a b) (LowerCount (OfScope x o) PoolValue n) fs (((h.returns).shares).calls) z in s.1)
go_by w (Worker a b) (LowerCount (OfCast x o) PoolValue n) fs z h d = absurd (let s : SaysThen w (Worker a b) n × SaysShare w (OfCast x o) PoolValue n = top_says w (Worker a b) (LowerCount (OfCast x o) PoolValue n) fs (((h.returns).shares).calls) z in s.1)
go_by w (Worker a b) (LowerCount (OfCast x o) Body n) fs z h d = absurd (let s : SaysThen w (Worker a b) n × SaysShare w (OfCast x o) Body n = top_says w (Worker a b) (LowerCount (OfCast x o) Body n) fs (((h.returns).shares).calls) z in s.1)
go_by w (Worker a b) (LowerCount (OfScope x o) Body n) fs z h d = plain_by w (Worker a b) (LowerCount (OfScope x o) Body n) fs refl h d
go_by w (Caller e) (RaiseCount n) fs z h d = raise_by w (Caller e) n fs h _ (λ f. act_keepers w (Caller e) (RaiseCount n) fs _ (f.0) (f.1) (λ t c. (refl, raise_jobs w (Caller e) n fs ((h.returns).shares) z t c)) (λ p c. (raise_pools w (Caller e) n fs p c, refl)) h)
    (count_in (place_part w (Caller e) (RaiseCount n)) (plan_count n) == 0) d
go_by w (Caller e) (LowerCount k (OfJob u) n) fs z h d = act_keepers w (Caller e) (LowerCount k (OfJob u) n) fs _ (d.0) (d.1) (λ t c. lower_jobs w (Caller e) k u n fs (if count_in (place_part w (Caller e) (LowerCount k (OfJob u) n)) k == 1 then Yes else No) ((h.returns).shares) z t c)
    (λ r c. (lower_pools w (Caller e) k u n fs (if count_in (place_part w (Caller e) (LowerCount k (OfJob u) n)) k == 1 then Yes else No) r c, refl)) h
go_by w (Caller e) (LowerCount (OfPool p) PoolValue n) fs z h d = act_keepers w (Caller e) (LowerCount (OfPool p) PoolValue n) fs _ (d.0) (d.1)
    (λ t c. (refl, value_jobs w (Caller e) p n fs (if count_in (place_part w (Caller e) (LowerCount (OfPool p) PoolValue n)) (OfPool p) == 1 then Yes else No) ((h.returns).shares) z t c))
    (λ r c. value_pools w (Caller e) p n fs (if count_in (place_part w (Caller e) (LowerCount (OfPool p) PoolValue n)) (OfPool p) == 1 then Yes else No) r c) h
go_by w (Caller e) (LowerCount (OfPool p) Body n) fs z h d = absurd (let s : SaysThen w (Caller e) n × SaysShare w (OfPool p) Body n = top_says w (Caller e) (LowerCount (OfPool p) Body n) fs (((h.returns).shares).calls) z in s.1)
go_by w (Caller e) (LowerCount (OfScope x o) PoolValue n) fs z h d = absurd (let s : SaysThen w (Caller e) n × SaysShare w (OfScope x o) PoolValue n = top_says w (Caller e) (LowerCount (OfScope x o) PoolValue n) fs (((h.returns).shares).calls) z in s.1)
go_by w (Caller e) (LowerCount (OfCast x o) PoolValue n) fs z h d = absurd (let s : SaysThen w (Caller e) n × SaysShare w (OfCast x o) PoolValue n = top_says w (Caller e) (LowerCount (OfCast x o) PoolValue n) fs (((h.returns).shares).calls) z in s.1)
go_by w (Caller e) (LowerCount (OfCast x o) Body n) fs z h d = absurd (let s : SaysThen w (Caller e) n × SaysShare w (OfCast x o) Body n = top_says w (Caller e) (LowerCount (OfCast x o) Body n) fs (((h.returns).shares).calls) z in s.1)
go_by w (Caller e) (LowerCount (OfScope x o) Body n) fs z h d = plain_by w (Caller e) (LowerCount (OfScope x o) Body n) fs refl h d
go_by w (Worker a b) (RaiseForAll c) fs z h d = all_by w (Worker a b) c fs (λ f. back_keepers w (Worker a b) c fs h (f.0) (f.1) refl) _
    (λ f. act_keepers w (Worker a b) (RaiseForAll c) fs _ (f.0) (f.1) (λ t k. (refl, all_jobs w (Worker a b) c fs ((h.returns).shares) z t k)) (λ p k. (all_pools w (Worker a b) c fs p k, refl)) h) (count_in (place_part w (Worker a b) (RaiseForAll c)) c.count == 0) d
go_by w (Worker a b) (LowerForAll c) fs z h d = act_keepers w (Worker a b) (LowerForAll c) fs _ (d.0) (d.1) (λ t k. less_jobs w (Worker a b) c fs (if count_in (place_part w (Worker a b) (LowerForAll c)) c.count == c.workers then Yes else No) t k)
    (λ r k. (less_pools w (Worker a b) c fs (if count_in (place_part w (Worker a b) (LowerForAll c)) c.count == c.workers then Yes else No) r k, refl)) h
go_by w (Caller g) (RaiseForAll c) fs z h d = all_by w (Caller g) c fs (λ f. back_keepers w (Caller g) c fs h (f.0) (f.1) refl) _
    (λ f. act_keepers w (Caller g) (RaiseForAll c) fs _ (f.0) (f.1) (λ t k. (refl, all_jobs w (Caller g) c fs ((h.returns).shares) z t k)) (λ p k. (all_pools w (Caller g) c fs p k, refl)) h) (count_in (place_part w (Caller g) (RaiseForAll c)) c.count == 0) d
go_by w (Caller g) (LowerForAll c) fs z h d = act_keepers w (Caller g) (LowerForAll c) fs _ (d.0) (d.1) (λ t k. less_jobs w (Caller g) c fs (if count_in (place_part w (Caller g) (LowerForAll c)) c.count == c.workers then Yes else No) t k)
    (λ r k. (less_pools w (Caller g) c fs (if count_in (place_part w (Caller g) (LowerForAll c)) c.count == c.workers then Yes else No) r k, refl)) h
go_by w (Worker a b) (DealPieces g) fs z h d = act_keepers w (Worker a b) (DealPieces g) fs _ (d.0) (d.1) (λ t k. (refl, deal_jobs w (Worker a b) g fs (place_part w (Worker a b) (DealPieces g)) refl ((h.returns).shares) z t k))
    (λ p k. (sym (put_same (λ v. v.counted) w.pool (g.pieces).pool _ p refl) ∙ k, refl)) h
go_by w (Caller e) (DealPieces g) fs z h d = act_keepers w (Caller e) (DealPieces g) fs _ (d.0) (d.1) (λ t k. (refl, deal_jobs w (Caller e) g fs (place_part w (Caller e) (DealPieces g)) refl ((h.returns).shares) z t k))
    (λ p k. (sym (put_same (λ v. v.counted) w.pool (g.pieces).pool _ p refl) ∙ k, refl)) h
go_by w q x fs z h d = plain_by w q x fs refl h d

-- who has a share after an act had it before, or has got it by the act
abbrev Gains : World → Party → Place → List Place → Seen × Part → Type 0
Gains w q x fs r = (t : ℕ) → ((world_after w q x fs r).job t).counted ≡ true → (one (w.job t).counted + gained t x (r.0)) ≡ 1

plain_gains : (w : World) (q : Party) (x : Place) (fs : List Place) (r : Seen × Part) → w.stack q ≡ record { top = x; below = fs } → SharesHold w → ((t : ℕ) → gained t x (r.0) ≡ 0) → Untallied (place_part w q x) r
    → is_sharing (next_of (w.shape.pool (target_pool q (act_of q x))) q x (r.0)) ≡ false → Gains w q x fs r
plain_gains w q x fs r z h none un st t c = let a : one (w.job t).counted ≡ 1 = ap one (sym (counted_now w q x fs r z h (un.job) st t) ∙ c) in let b : gained t x (r.0) ≡ 0 = none t in omega (arith, a, b)

quiet_gains : (w : World) (q : Party) (x : Place) (fs : List Place) → is_tally x ≡ false → w.stack q ≡ record { top = x; below = fs } → SharesHold w → IfSome (outcome w q (record { top = x; below = fs })) (Gains w q x fs)
quiet_gains w q x fs y z h = if_some_map (λ r. Untallied (place_part w q x) r × (is_sharing (next_of (w.shape.pool (target_pool q (act_of q x))) q x (r.0)) ≡ false)) (Gains w q x fs) (λ r f. plain_gains w q x fs r z h (λ t. ungained t x (r.0) y) (f.0) (f.1))
    (outcome w q (record { top = x; below = fs }))
    (if_some_and (Untallied (place_part w q x)) (λ r. is_sharing (next_of (w.shape.pool (target_pool q (act_of q x))) q x (r.0)) ≡ false) (outcome w q (record { top = x; below = fs })) (act_untallied w.shape q (counts_at w (target_pool q (act_of q x))) (place_part w q x) x y)
    (no_steady w.shape (w.shape.pool (target_pool q (act_of q x))) q (counts_at w (target_pool q (act_of q x))) (place_part w q x) x y))

either_gains : (w : World) (q : Party) (x : Place) (fs : List Place) (none done : Seen × Part) → Gains w q x fs none → Gains w q x fs done → (b : Bool) → IfSome (if b then Some none else Some done) (Gains w q x fs)
either_gains w q x fs none done f g true = f
either_gains w q x fs none done f g false = g

-- a refused broadcast leaves none
refused_gains : (w : World) (q : Party) (c : Pieces) (fs : List Place) → (world_after w q (RaiseForAll c) fs (Refused, place_part w q (RaiseForAll c))).job ≡ mark_pieces c Returned (put w.job 0 (w.job 0)) → Gains w q (RaiseForAll c) fs (Refused, place_part w q (RaiseForAll c))
refused_gains w q c fs jo t k = let a : one (w.job t).counted ≡ 1 = ap one ((returned_none w c 0 (w.job 0) refl t (ap (λ g. (g t).counted) (sym jo) ∙ k)).1) in omega (arith, a)

pub gains_by : (w : World) (q : Party) (x : Place) (fs : List Place) → w.stack q ≡ record { top = x; below = fs } → SharesHold w → IfSome (outcome w q (record { top = x; below = fs })) (Gains w q x fs)
gains_by w (Worker a b) (RaiseCount n) fs z h = either_gains w (Worker a b) (RaiseCount n) fs (Refused, place_part w (Worker a b) (RaiseCount n)) _
    (plain_gains w (Worker a b) (RaiseCount n) fs (Refused, place_part w (Worker a b) (RaiseCount n)) z h (λ t. refl) (same_untallied (place_part w (Worker a b) (RaiseCount n)) Refused) refl) (λ t c. raise_jobs w (Worker a b) n fs h z t c)
    (count_in (place_part w (Worker a b) (RaiseCount n)) (plan_count n) == 0)
gains_by w (Caller e) (RaiseCount n) fs z h = either_gains w (Caller e) (RaiseCount n) fs (Refused, place_part w (Caller e) (RaiseCount n)) _
    (plain_gains w (Caller e) (RaiseCount n) fs (Refused, place_part w (Caller e) (RaiseCount n)) z h (λ t. refl) (same_untallied (place_part w (Caller e) (RaiseCount n)) Refused) refl) (λ t c. raise_jobs w (Caller e) n fs h z t c)
    (count_in (place_part w (Caller e) (RaiseCount n)) (plan_count n) == 0)
gains_by w (Worker a b) (LowerCount k (OfJob u) n) fs z h = λ t c. (lower_jobs w (Worker a b) k u n fs (if count_in (place_part w (Worker a b) (LowerCount k (OfJob u) n)) k == 1 then Yes else No) h z t c).1
gains_by w (Caller e) (LowerCount k (OfJob u) n) fs z h = λ t c. (lower_jobs w (Caller e) k u n fs (if count_in (place_part w (Caller e) (LowerCount k (OfJob u) n)) k == 1 then Yes else No) h z t c).1
gains_by w (Worker a b) (LowerCount (OfPool p) PoolValue n) fs z h = λ t c. value_jobs w (Worker a b) p n fs (if count_in (place_part w (Worker a b) (LowerCount (OfPool p) PoolValue n)) (OfPool p) == 1 then Yes else No) h z t c
gains_by w (Caller e) (LowerCount (OfPool p) PoolValue n) fs z h = λ t c. value_jobs w (Caller e) p n fs (if count_in (place_part w (Caller e) (LowerCount (OfPool p) PoolValue n)) (OfPool p) == 1 then Yes else No) h z t c
gains_by w q (LowerCount (OfPool p) Body n) fs z h = absurd (let s : SaysThen w q n × SaysShare w (OfPool p) Body n = top_says w q (LowerCount (OfPool p) Body n) fs (h.calls) z in s.1)
gains_by w q (LowerCount (OfScope x o) PoolValue n) fs z h = absurd (let s : SaysThen w q n × SaysShare w (OfScope x o) PoolValue n = top_says w q (LowerCount (OfScope x o) PoolValue n) fs (h.calls) z in s.1)
gains_by w q (LowerCount (OfCast x o) PoolValue n) fs z h = absurd (let s : SaysThen w q n × SaysShare w (OfCast x o) PoolValue n = top_says w q (LowerCount (OfCast x o) PoolValue n) fs (h.calls) z in s.1)
gains_by w q (LowerCount (OfCast x o) Body n) fs z h = absurd (let s : SaysThen w q n × SaysShare w (OfCast x o) Body n = top_says w q (LowerCount (OfCast x o) Body n) fs (h.calls) z in s.1)
gains_by w q (LowerCount (OfScope x o) Body n) fs z h = quiet_gains w q (LowerCount (OfScope x o) Body n) fs refl z h
gains_by w (Worker a b) (RaiseForAll c) fs z h = either_gains w (Worker a b) (RaiseForAll c) fs (Refused, place_part w (Worker a b) (RaiseForAll c)) _ (refused_gains w (Worker a b) c fs refl) (λ t k. all_jobs w (Worker a b) c fs h z t k)
    (count_in (place_part w (Worker a b) (RaiseForAll c)) c.count == 0)
gains_by w (Caller e) (RaiseForAll c) fs z h = either_gains w (Caller e) (RaiseForAll c) fs (Refused, place_part w (Caller e) (RaiseForAll c)) _ (refused_gains w (Caller e) c fs refl) (λ t k. all_jobs w (Caller e) c fs h z t k) (count_in (place_part w (Caller e) (RaiseForAll c)) c.count == 0)
gains_by w (Worker a b) (LowerForAll c) fs z h = λ t k. (less_jobs w (Worker a b) c fs (if count_in (place_part w (Worker a b) (LowerForAll c)) c.count == c.workers then Yes else No) t k).1
gains_by w (Caller e) (LowerForAll c) fs z h = λ t k. (less_jobs w (Caller e) c fs (if count_in (place_part w (Caller e) (LowerForAll c)) c.count == c.workers then Yes else No) t k).1
gains_by w (Worker a b) (DealPieces g) fs z h = λ t k. deal_jobs w (Worker a b) g fs (place_part w (Worker a b) (DealPieces g)) refl h z t k
gains_by w (Caller e) (DealPieces g) fs z h = λ t k. deal_jobs w (Caller e) g fs (place_part w (Caller e) (DealPieces g)) refl h z t k
gains_by w q x fs z h = quiet_gains w q x fs refl z h

go_keepers : (w : World) (q : Party) → KeepersHold w → IfSome (step w (Go q)) (λ u. ReturnsHold u → KeepersHold u)
go_keepers w q h = acted_keeps w q (w.stack q) (target_pool q (act_of q ((w.stack q).top))) (target_worker q (act_of q ((w.stack q).top))) (target_call (act_of q ((w.stack q).top))) (job_at w q (act_of q ((w.stack q).top))) (outcome w q (w.stack q)) (λ u. ReturnsHold u → KeepersHold u)
    (go_by w q ((w.stack q).top) ((w.stack q).below) refl h
    (if_some_and (λ r. Ready w q ((w.stack q).top) ((w.stack q).below) r) (BusyAfter w q ((w.stack q).top) ((w.stack q).below)) (outcome w q (w.stack q)) (ready w q ((h.returns).shares))
    (all_busy w q ((w.stack q).top) ((w.stack q).below) refl ((h.returns).shares) (ready w q ((h.returns).shares)))))

-- a party goes on as if its act had seen this
seen_by : (w : World) (q : Party) (g : PoolShape) (x : Place) (fs : List Place) (e : Seen) → w.stack q ≡ record { top = x; below = fs } → ((t : ℕ) → paid t x ≡ 0) → ((p : ℕ) → values p x ≡ 0) → ((t : ℕ) → pushed t x e ≡ 0) → KeepersHold w
    → ReturnsHold (record w { stack = put_stack w.stack q (after_move (next_of g q x e) fs) }) → KeepersHold (record w { stack = put_stack w.stack q (after_move (next_of g q x e) fs) })
seen_by w q g x fs e z free still none h s = keepers_by w (record w { stack = put_stack w.stack q (after_move (next_of g q x e) fs) }) q (after_move (next_of g q x e) fs) (λ i. refl)
    (λ t c. (
      0,
      (let a : one (w.job t).counted ≡ 1 = ap one c in omega (arith, a)),
      (let a : shares t (put_stack w.stack q (after_move (next_of g q x e) fs) q) + (pushed t x e + paid t x) ≡ shares t (w.stack q) + (gained t x e + regained t x e) = shares_mine w q x fs g e t z in
          let b : shares t (put_stack w.stack q (after_move (next_of g q x e) fs) q) ≡ shares t (after_move (next_of g q x e) fs) = ap (shares t) (stack_mine w.stack q (after_move (next_of g q x e) fs)) in
          let d : pushed t x e ≡ 0 = none t in let f : paid t x ≡ 0 = free t in omega (arith, a, b, d, f)),
    ))
    (λ p c. (
      c,
      (let a : all_values p (put_stack w.stack q (after_move (next_of g q x e) fs) q) + values p x ≡ all_values p (w.stack q) = values_mine w q x fs g e p z in
          let b : all_values p (put_stack w.stack q (after_move (next_of g q x e) fs) q) ≡ all_values p (after_move (next_of g q x e) fs) = ap (all_values p) (stack_mine w.stack q (after_move (next_of g q x e) fs)) in
          let d : values p x ≡ 0 = still p in omega (arith, a, b, d)),
    )) h s

seen_keepers : (w : World) (q : Party) (g : PoolShape) (x : Place) (fs : List Place) (e : Seen) → w.stack q ≡ record { top = x; below = fs } → is_tally x ≡ false → ((t : ℕ) → pushed t x e ≡ 0) → KeepersHold w
    → ReturnsHold (record w { stack = put_stack w.stack q (after_move (next_of g q x e) fs) }) → KeepersHold (record w { stack = put_stack w.stack q (after_move (next_of g q x e) fs) })
seen_keepers w q g x fs e z y none h s = seen_by w q g x fs e z (λ t. unpaid t x y) (λ p. unvalued p x y) none h s

from_keepers : (w : World) (q : Party) (x : Place) (fs : List Place) (v : ℕ) → w.stack q ≡ record { top = x; below = fs } → KeepersHold w → IfSome (after_choice w q (record { top = x; below = fs }) x v) (λ u. ReturnsHold u → KeepersHold u)
from_keepers w q (PickVictim k) fs v z h = if_cond (λ u. ReturnsHold u → KeepersHold u) (nat_lt v (w.shape.pool (own_pool q)).workers) _ (λ y s. seen_keepers w q (w.shape.pool (own_pool q)) (PickVictim k) fs (Start v) z refl (λ t. refl) h s)
from_keepers w q YieldPick fs v z h = if_cond (λ u. ReturnsHold u → KeepersHold u) (nat_lt v (w.shape.pool (own_pool q)).workers) _ (λ y s. seen_keepers w q (w.shape.pool (own_pool q)) YieldPick fs (Start v) z refl (λ t. refl) h s)
from_keepers w q _ fs v z h = tt

refuse_keepers : (w : World) (q : Party) (x : Place) (fs : List Place) → w.stack q ≡ record { top = x; below = fs } → KeepersHold w → IfSome (after_refusal w q (record { top = x; below = fs })) (λ u. ReturnsHold u → KeepersHold u)
refuse_keepers w q (GrowCall n) fs z h = λ s. seen_keepers w q (w.shape.pool (own_pool q)) (GrowCall n) fs Refused z refl (λ t. refl) h s
refuse_keepers w q (GrowScope o) fs z h = λ s. seen_keepers w q (w.shape.pool (own_pool q)) (GrowScope o) fs Refused z refl (λ t. refl) h s
refuse_keepers w q (OpenSlot o) fs z h = λ s. seen_keepers w q (w.shape.pool (own_pool q)) (OpenSlot o) fs Refused z refl (λ t. refl) h s
refuse_keepers w q (AddToFifo f) fs z h = λ s. seen_keepers w q (w.shape.pool (own_pool q)) (AddToFifo f) fs Refused z refl (λ t. refl) h s
refuse_keepers w q (PushToken f v) fs z h = λ s. seen_keepers w q (w.shape.pool (own_pool q)) (PushToken f v) fs Refused z refl (λ t. refl) h s
refuse_keepers w q (OpenForAll c) fs z h = λ s. seen_keepers w q (w.shape.pool (own_pool q)) (OpenForAll c) fs Refused z refl (λ t. refl) h s
refuse_keepers w q (GrowCast g) fs z h = λ s. seen_keepers w q (w.shape.pool (own_pool q)) (GrowCast g) fs Refused z refl (λ t. refl) h s
refuse_keepers w q (DealPieces g) fs z h = λ s. seen_by w q (w.shape.pool (own_pool q)) (DealPieces g) fs Refused z (λ t. refl) (λ p. refl) (λ t. refl) h s
refuse_keepers w q (PushForAll c) fs z h = λ s. seen_keepers w q (w.shape.pool (own_pool q)) (PushForAll c) fs Refused z refl (λ t. refl) h s
refuse_keepers w q (PushJob n v) fs z h = λ s. seen_keepers w q (w.shape.pool (own_pool q)) (PushJob n v) fs Refused z refl (λ t. not_pushed t n v Refused refl) h s
refuse_keepers w q _ fs z h = tt

miss_keepers : (w : World) (q : Party) (x : Place) (fs : List Place) → w.stack q ≡ record { top = x; below = fs } → KeepersHold w → IfSome (after_miss w q (record { top = x; below = fs }) x) (λ u. ReturnsHold u → KeepersHold u)
miss_keepers w (Worker a b) (StealFrom k n) fs z h = if_cond (λ u. ReturnsHold u → KeepersHold u) (can_miss w a k.victim) _ (λ y s. seen_keepers w (Worker a b) (w.shape.pool a) (StealFrom k n) fs Missing z refl (λ t. refl) h s)
miss_keepers w (Worker a b) (YieldSteal v n) fs z h = if_cond (λ u. ReturnsHold u → KeepersHold u) (can_miss w a v) _ (λ y s. seen_keepers w (Worker a b) (w.shape.pool a) (YieldSteal v n) fs Missing z refl (λ t. refl) h s)
miss_keepers w _ _ fs z h = tt

-- the end of a run: a detached job's share comes to the party that ran it
freed_all : (w : World) (s t : ℕ) (k : JobKind) → (s == t) ≡ true → SaysRun w t k → with_job (w.job s) ≤ freed s t k
freed_all w s t (Detached p) e r = let a : freed s t (Detached p) ≡ 1 = ap one e in let b : with_job (w.job s) ≤ 1 = one_most (keeps_own (w.job s)) in omega (arith, a, b)
freed_all w s t (Scoped c o) e r = let a : freed s t (Scoped c o) ≡ 1 = ap one e in let b : with_job (w.job s) ≤ 1 = one_most (keeps_own (w.job s)) in omega (arith, a, b)
freed_all w s t (PieceOf c o) e r = let a : freed s t (PieceOf c o) ≡ 1 = ap one e in let b : with_job (w.job s) ≤ 1 = one_most (keeps_own (w.job s)) in omega (arith, a, b)
freed_all w s t (Stored c o) e r = let a : with_job (w.job s) ≡ 0 = ap (λ n. with_job (w.job n)) (eqb-true s t e) ∙ ap (λ k. one (is_detached k && is_busy (w.job t).at)) (r.1) in omega (arith, a)
freed_all w s t _ e r = let a : with_job (w.job s) ≡ 0 = ap (λ n. with_job (w.job n)) (eqb-true s t e) ∙ ap (λ b. one (b && is_busy (w.job t).at)) (r.kind) in omega (arith, a)

end_keepers : (w : World) (q : Party) (d : Ending) (x : Place) (fs : List Place) → w.stack q ≡ record { top = x; below = fs } → KeepersHold w → IfSome (after_end w q d (record { top = x; below = fs }) x) (λ u. ReturnsHold u → KeepersHold u)
end_keepers w q d (Run t k) fs z h = λ s. keepers_by w (ended_world w q d t k fs) q (after_close t k d fs) (λ i. refl)
    (λ i c. (0, (let a : one (w.job i).counted ≡ 1 = ap one (sym (put_same (λ j. j.counted) w.job t (at_job (w.job t) (Over d)) i refl) ∙ c) in omega (arith, a)), line i (i == t) refl))
    (λ p c. (c, (let b : all_values p (after_close t k d fs) ≡ values_in p fs = (closed_shares p t k d fs).1 in let e : all_values p (w.stack q) ≡ (0 + values_in p fs) = ap (all_values p) z in omega (arith, b, e)))) h s
  where
    line : (i : ℕ) (b : Bool) → (i == t) ≡ b → shares i (w.stack q) + with_job (w.job i) + 0 ≤ shares i (after_close t k d fs) + with_job (if b then at_job (w.job t) (Over d) else w.job i)
    line i true e = let a : shares i (after_close t k d fs) ≡ freed i t k + shares_in i fs = (closed_shares i t k d fs).0 in let b : shares i (w.stack q) ≡ (0 + shares_in i fs) = ap (shares i) z in
        let c : with_job (w.job i) ≤ freed i t k = freed_all w i t k e (top_says w q (Run t k) fs (((h.returns).shares).calls) z) in omega (arith, a, b, c)
    line i false e = let a : shares i (after_close t k d fs) ≡ freed i t k + shares_in i fs = (closed_shares i t k d fs).0 in let b : shares i (w.stack q) ≡ (0 + shares_in i fs) = ap (shares i) z in omega (arith, a, b)
end_keepers w q d _ fs z h = tt

-- a call begins: the jobs that were are as they were, and its own have no share yet
made_keepers : (w : World) (q : Party) (n : Plan) (C : ℕ → Call) (J : ℕ → Job) (c j : ℕ) (l : List Scope) → ((t : ℕ) → t + 1 ≤ w.jobs → J t ≡ w.job t) → ((t : ℕ) → w.jobs ≤ t → (J t).counted ≡ false) → KeepersHold w → ReturnsHold (record (calling w q n C J c j) { scopes = l })
    → KeepersHold (record (calling w q n C J c j) { scopes = l })
made_keepers w q n C J c j l same new h s = keepers_by w (record (calling w q n C J c j) { scopes = l }) q (after_call (w.stack q) (RaiseCount n)) (λ i. refl)
    (λ t e. (0, (let a : one (w.job t).counted ≡ 1 = ap one (ap (λ i. i.counted) (sym (was t e)) ∙ e) in omega (arith, a)), (let a : with_job (J t) ≡ with_job (w.job t) = ap (λ i. with_job i) (was t e) in omega (arith, a))))
    (λ p e. (e, omega arith)) h s
  where
    was : (t : ℕ) → (J t).counted ≡ true → J t ≡ w.job t
    was t e = elim (either (ltb t w.jobs)) [ inl y ↦ (let b : t < w.jobs = ltb-true t w.jobs y in same t (omega (arith, b))) | inr y ↦ absurd (let a : (J t).counted ≡ false = new t (ltb-false t w.jobs y) in let d : false ≡ true = sym a ∙ e in cc) ]

put_made : (w : World) (q : Party) (p : ℕ) (k : JobKind) → KeepersHold w → ((t : ℕ) → t + 1 ≤ w.jobs → put w.job w.jobs (new_job q p k) t ≡ w.job t) × ((t : ℕ) → w.jobs ≤ t → (put w.job w.jobs (new_job q p k) t).counted ≡ false)
put_made w q p k h = (
  λ t b. put_old w.job w.jobs (new_job q p k) t (below_new t w.jobs b),
  λ t b. put_same (λ j. j.counted) w.job w.jobs (new_job q p k) t (sym (((h.returns).shares).unmade w.jobs (omega arith))) ∙ ((h.returns).shares).unmade t b,
)

spawn_keepers : (w : World) (q : Party) (p : ℕ) → KeepersHold w → IfSome (after_spawn w q p (w.stack q)) (λ u. ReturnsHold u → KeepersHold u)
spawn_keepers w q p h = if_cond (λ u. ReturnsHold u → KeepersHold u) (is_free ((w.stack q).top) && is_pool w.shape p) _
    (λ f s. made_keepers w q (Detach p w.jobs) w.call (put w.job w.jobs (new_job q p (Detached p))) w.calls (w.jobs + 1) w.scopes ((put_made w q p (Detached p) h).0) ((put_made w q p (Detached p) h).1) h s)

sent_keepers : (w : World) (q : Party) (p : ℕ) (b : Bool) → KeepersHold w → ReturnsHold (after_send w q p (w.stack q) b) → KeepersHold (after_send w q p (w.stack q) b)
sent_keepers w q p true h s = made_keepers w q (Here p w.jobs) w.call (put w.job w.jobs (new_job q p Direct)) w.calls (w.jobs + 1) w.scopes ((put_made w q p Direct h).0) ((put_made w q p Direct h).1) h s
sent_keepers w q p false h s = made_keepers w q (Send (record { number = w.calls; pool = p; job = w.jobs })) (put w.call w.calls (new_call None w.jobs)) (put w.job w.jobs (new_job q p (Stored w.calls q))) (w.calls + 1) (w.jobs + 1) w.scopes ((put_made w q p (Stored w.calls q) h).0)
    ((put_made w q p (Stored w.calls q) h).1) h s

scope_keepers : (w : World) (q : Party) (p : ℕ) → KeepersHold w → IfSome (after_scope w q p (w.stack q)) (λ u. ReturnsHold u → KeepersHold u)
scope_keepers w q p h = if_cond (λ u. ReturnsHold u → KeepersHold u) (is_free ((w.stack q).top) && is_pool w.shape p) _
    (λ f s. made_keepers w q (Open (record { number = w.calls; pool = p; job = w.jobs })) (put w.call w.calls (new_call None w.jobs)) (put w.job w.jobs (new_job q p (BodyOf w.calls q))) (w.calls + 1) (w.jobs + 1) (w.scopes ++ record { call = w.calls; pool = p; owner = q } ∷ [])
    ((put_made w q p (BodyOf w.calls q) h).0) ((put_made w q p (BodyOf w.calls q) h).1) h s)

enter_keepers : (w : World) (q : Party) (z : Scope) → KeepersHold w → IfSome (after_enter w q (w.stack q) (Some z)) (λ u. ReturnsHold u → KeepersHold u)
enter_keepers w q z h = if_cond (λ u. ReturnsHold u → KeepersHold u) (is_free ((w.stack q).top) && holds z.call (w.stack q)) _
    (λ f s. made_keepers w q (Enter (record { call = z.call; owner = z.owner; pool = z.pool; job = w.jobs })) w.call (put w.job w.jobs (new_job q z.pool (Scoped z.call z.owner))) w.calls (w.jobs + 1) w.scopes ((put_made w q (z.pool) (Scoped z.call z.owner) h).0)
    ((put_made w q (z.pool) (Scoped z.call z.owner) h).1) h s)

into_keepers : (w : World) (q : Party) (n : ℕ) → KeepersHold w → IfSome (after_into w q n (w.stack q)) (λ u. ReturnsHold u → KeepersHold u)
into_keepers w q n h = into_cases (λ u. ReturnsHold u → KeepersHold u) w q n (λ z e free held. enter_keepers w q z h)

install_keepers : (w : World) (q : Party) (p : ℕ) → KeepersHold w → IfSome (after_install w q p (w.stack q)) (λ u. ReturnsHold u → KeepersHold u)
install_keepers w q p h = if_cond (λ u. ReturnsHold u → KeepersHold u) (is_free ((w.stack q).top) && is_pool w.shape p) _ (λ f s. sent_keepers w q p (is_member q p) h s)

-- the same of two jobs
two_put : (w : World) (q : Party) (p : ℕ) (d k : JobKind) → KeepersHold w → ((t : ℕ) → t + 1 ≤ w.jobs → put (put w.job w.jobs (new_job q p d)) (w.jobs + 1) (new_job q p k) t ≡ w.job t) × ((t : ℕ) → w.jobs ≤ t → (put (put w.job w.jobs (new_job q p d)) (w.jobs + 1) (new_job q p k) t).counted ≡ false)
two_put w q p d k h = (
  λ t b. put_old (put w.job w.jobs (new_job q p d)) (w.jobs + 1) (new_job q p k) t (below_new t (w.jobs + 1) (omega (arith, b))) ∙ (put_made w q p d h).0 t b,
  λ t b. put_same (λ j. j.counted) (put w.job w.jobs (new_job q p d)) (w.jobs + 1) (new_job q p k) t (sym ((put_made w q p d h).1 (w.jobs + 1) (omega arith))) ∙ (put_made w q p d h).1 t b,
)

join_keepers : (w : World) (q : Party) → KeepersHold w → IfSome (after_join w q (w.stack q)) (λ u. ReturnsHold u → KeepersHold u)
join_keepers w (Caller n) h = tt
join_keepers w (Worker p i) h = if_cond (λ u. ReturnsHold u → KeepersHold u) (is_free ((w.stack (Worker p i)).top)) _
    (λ f s. (let m = two_put w (Worker p i) p Direct (Stored w.calls (Worker p i)) h in made_keepers w (Worker p i) (Fork (record { number = w.calls; pool = p; job = w.jobs + 1 }) w.jobs) (put w.call w.calls (new_call (Some w.jobs) (w.jobs + 1)))
    (put (put w.job w.jobs (new_job (Worker p i) p Direct)) (w.jobs + 1) (new_job (Worker p i) p (Stored w.calls (Worker p i)))) (w.calls + 1) (w.jobs + 2) w.scopes (m.0) (m.1) h s))

feed_keepers : (w : World) (d : Count) (p i : ℕ) → KeepersHold w → ReturnsHold (after_feed w d p i (w.stack (Worker p i))) → KeepersHold (after_feed w d p i (w.stack (Worker p i)))
feed_keepers w d p i h s = let m = two_put w (Worker p i) p (count_kind d) (TokenOf i (count_book d)) h in
    made_keepers w (Worker p i) (Feed (record { count = d; pool = p; job = w.jobs; token = w.jobs + 1 })) w.call (put (put w.job w.jobs (new_job (Worker p i) p (count_kind d))) (w.jobs + 1) (new_job (Worker p i) p (TokenOf i (count_book d)))) w.calls (w.jobs + 2) w.scopes (m.0) (m.1) h s

fifo_keepers : (w : World) (q : Party) (p : ℕ) → KeepersHold w → IfSome (after_fifo w q p (w.stack q)) (λ u. ReturnsHold u → KeepersHold u)
fifo_keepers w q p h = fifo_cases (λ u. ReturnsHold u → KeepersHold u) w q p (spawn_keepers w q p h) (λ i free s. feed_keepers w (OfPool p) p i h s)

into_fifo_keepers : (w : World) (q : Party) (n : ℕ) → KeepersHold w → IfSome (after_into_fifo w q n (w.stack q)) (λ u. ReturnsHold u → KeepersHold u)
into_fifo_keepers w q n h = into_fifo_cases (λ u. ReturnsHold u → KeepersHold u) w q n (λ z e free held. enter_keepers w q z h) (λ z i e free held s. feed_keepers w (OfScope z.call z.owner) z.pool i h s)

deal_keepers : (w : World) (q : Party) (d : Count) (p : ℕ) → KeepersHold w → ReturnsHold (after_deal w q d p (w.stack q)) → KeepersHold (after_deal w q d p (w.stack q))
deal_keepers w q d p h s = keepers_by w (after_deal w q d p (w.stack q)) q (after_call (w.stack q) (RaiseForAll c)) (λ i. refl)
    (λ t e. each t (is_piece c t) refl e) (λ r e. (e, omega arith)) h s
  where
    c : Pieces
    c = record { count = d; pool = p; first = w.jobs; workers = (w.shape.pool p).workers }

    each : (t : ℕ) (b : Bool) → is_piece c t ≡ b → (if b then new_piece q d p (t - c.first) else w.job t).counted ≡ true → (g : ℕ) × ((one (w.job t).counted + g) ≡ 1)
        × (shares t (w.stack q) + with_job (w.job t) + g ≤ shares t (after_call (w.stack q) (RaiseForAll c)) + with_job (if b then new_piece q d p (t - c.first) else w.job t))
    each t true e d = absurd (cc)
    each t false e d = (0, (let a : one (w.job t).counted ≡ 1 = ap one d in omega (arith, a)), omega arith)

cast_keepers : (w : World) (q : Party) (p : ℕ) → KeepersHold w → IfSome (after_cast w q p (w.stack q)) (λ u. ReturnsHold u → KeepersHold u)
cast_keepers w q p h = if_cond (λ u. ReturnsHold u → KeepersHold u) (is_free ((w.stack q).top) && is_pool w.shape p) _ (λ f s. deal_keepers w q (OfPool p) p h s)

into_cast_keepers : (w : World) (q : Party) (n : ℕ) → KeepersHold w → IfSome (after_into_cast w q n (w.stack q)) (λ u. ReturnsHold u → KeepersHold u)
into_cast_keepers w q n h = into_cast_cases (λ u. ReturnsHold u → KeepersHold u) w q n (λ z e free held s. deal_keepers w q (OfScope z.call z.owner) z.pool h s)

-- and of the pieces of a broadcast that waits, with the number that stands for it
gather_keepers : (w : World) (q : Party) (p : ℕ) → KeepersHold w → IfSome (after_broadcast w q p (w.stack q)) (λ u. ReturnsHold u → KeepersHold u)
gather_keepers w q p h = if_cond (λ u. ReturnsHold u → KeepersHold u) (is_free ((w.stack q).top) && is_pool w.shape p) _ (λ f s. made_keepers w q n (put w.call w.calls (new_gathering c.workers t0)) (put J1 t0 (new_whole q p w.calls)) (w.calls + 1) (t0 + 1) w.scopes old new h s)
  where
    c : Pieces
    c = record { count = OfCast w.calls q; pool = p; first = w.jobs; workers = (w.shape.pool p).workers }

    t0 : ℕ
    t0 = w.jobs + c.workers

    n : Plan
    n = Gather (record { call = record { number = w.calls; pool = p; job = t0 }; pieces = c })

    J1 : ℕ → Job
    J1 = put_pieces c (λ i j. new_piece q (OfCast w.calls q) p i) w.job

    old : (t : ℕ) → t + 1 ≤ w.jobs → put J1 t0 (new_whole q p w.calls) t ≡ w.job t
    old t b = put_old J1 t0 (new_whole q p w.calls) t (below_new t t0 (omega (arith, b))) ∙ piece_old c (λ i j. new_piece q (OfCast w.calls q) p i) w.job t (piece_out c t (omega (arith, b)))

    piece : (t : ℕ) → w.jobs ≤ t → (b : Bool) → (if b then new_piece q (OfCast w.calls q) p (t - c.first) else w.job t).counted ≡ false
    piece t l true = refl
    piece t l false = ((h.returns).shares).unmade t l

    new : (t : ℕ) → w.jobs ≤ t → (put J1 t0 (new_whole q p w.calls) t).counted ≡ false
    new t l = put_same (λ j. j.counted) J1 t0 (new_whole q p w.calls) t (sym (piece t0 (omega arith) (is_piece c t0))) ∙ piece t l (is_piece c t)

yield_keepers : (w : World) (q : Party) (x : Place) → ((t : ℕ) → share t x ≡ 0) → ((p : ℕ) → values p x ≡ 0) → KeepersHold w → IfSome (after_yield w q (w.stack q) x) (λ u. ReturnsHold u → KeepersHold u)
yield_keepers w (Worker a b) x sx vx h = if_cond (λ u. ReturnsHold u → KeepersHold u) (is_free ((w.stack (Worker a b)).top)) _
    (λ f s. keepers_by w (record w { stack = put_stack w.stack (Worker a b) (after_call (w.stack (Worker a b)) x) }) (Worker a b) (after_call (w.stack (Worker a b)) x) (λ i. refl)
    (λ t c. (0, (let d : one (w.job t).counted ≡ 1 = ap one c in omega (arith, d)), (let d : share t x ≡ 0 = sx t in omega (arith, d))))
    (λ p c. (c, (let d : values p x ≡ 0 = vx p in omega (arith, d)))) h s)
yield_keepers w (Caller n) x sx vx h = tt

-- a pool's value is given up: its share comes to the Lower that follows
give_keepers : (w : World) (q : Party) (p : ℕ) → KeepersHold w → IfSome (after_end_pool w q p (w.stack q)) (λ u. ReturnsHold u → KeepersHold u)
give_keepers w q p h = if_cond (λ u. ReturnsHold u → KeepersHold u) (is_free ((w.stack q).top) && (is_pool w.shape p && (w.pool p).held)) _
    (λ f s. keepers_by w (record w { stack = put_stack w.stack q (after_call (w.stack q) (LowerCount (OfPool p) PoolValue Resume)); pool = put w.pool p (record (w.pool p) { held = false }) }) q (after_call (w.stack q) (LowerCount (OfPool p) PoolValue Resume)) (λ i. refl)
    (λ t c. (0, (let d : one (w.job t).counted ≡ 1 = ap one c in omega (arith, d)), omega arith))
    (λ r c. (sym (put_same (λ v. v.counted) w.pool p (record (w.pool p) { held = false }) r refl) ∙ c, given r (r == p) refl)) h s)
  where
    given : (r : ℕ) (b : Bool) → (r == p) ≡ b → all_values r (w.stack q) + one (w.pool r).held ≤ (one b + all_values r (w.stack q)) + one (if b then record (w.pool p) { held = false } else w.pool r).held
    given r true e = let a : one (w.pool r).held ≤ 1 = one_most ((w.pool r).held) in omega (arith, a)
    given r false e = omega arith

each_keepers : (w : World) (e : Event) → KeepersHold w → IfSome (step w e) (λ u. ReturnsHold u → KeepersHold u)
each_keepers w (Go q) h = go_keepers w q h
each_keepers w (From q v) h = from_keepers w q ((w.stack q).top) ((w.stack q).below) v refl h
each_keepers w (Refuse q) h = refuse_keepers w q ((w.stack q).top) ((w.stack q).below) refl h
each_keepers w (Miss q) h = miss_keepers w q ((w.stack q).top) ((w.stack q).below) refl h
each_keepers w (End q d) h = end_keepers w q d ((w.stack q).top) ((w.stack q).below) refl h
each_keepers w (Spawn q p) h = spawn_keepers w q p h
each_keepers w (Fifo q p) h = fifo_keepers w q p h
each_keepers w (Cast q p) h = cast_keepers w q p h
each_keepers w (Install q p) h = install_keepers w q p h
each_keepers w (Join q) h = join_keepers w q h
each_keepers w (OpenScope q p) h = scope_keepers w q p h
each_keepers w (IntoSpawn q n) h = into_keepers w q n h
each_keepers w (IntoFifo q n) h = into_fifo_keepers w q n h
each_keepers w (IntoCast q n) h = into_cast_keepers w q n h
each_keepers w (Broadcast q p) h = gather_keepers w q p h
each_keepers w (Yield q) h = yield_keepers w q YieldPop (λ t. refl) (λ p. refl) h
each_keepers w (YieldLocal q) h = yield_keepers w q LocalPop (λ t. refl) (λ p. refl) h
each_keepers w (EndPool q p) h = give_keepers w q p h

pub step_keepers : (w : World) (e : Event) → KeepersHold w → IfSome (step w e) KeepersHold
step_keepers w e h = if_some_map (λ u. ReturnsHold u × (ReturnsHold u → KeepersHold u)) KeepersHold (λ u f. f.1 (f.0)) (step w e) (if_some_and ReturnsHold (λ u. ReturnsHold u → KeepersHold u) (step w e) (step_returns w e (h.returns)) (each_keepers w e h))

pub first_keepers : (h : Shape) → KeepersHold (start h)
first_keepers h = record { returns = first_returns h; jobs = λ t. (None, omega arith); values = λ p. (None, omega arith) }
