-- each act keeps the shares, and a pool whose terminate latch is set has none left
use Rattle.rayon_machine_laws.proofs.Raises.{rises_gain}
use Rattle.rayon_machine_places.specs.declared.place.Mark.{Mark as Marking}
use Rattle.rayon_machine_places.specs.declared.place.Pieces.{Pieces}
use Rattle.rayon_machine_places.specs.declared.place.Mark.TheVariants.{Counted, Queued, Returned, Numbered, Dealt, Unnumbered}
use Rattle.std.proofs.Common.{arith, refl, sym, ◌∙◌, ap, subst}
use Rattle.std.specs.Prelude.{ℕ, Bool, true, false, ◌&&◌, ◌+◌, ◌==◌, ◌≤◌, if◌then◌else◌, List, ◌≡◌, ⊤, ◌-◌}
use Rattle.std.proofs.lemmas.Bool.{eqb-true}
use Rattle.rayon_machine_places.specs.declared.place.Party.{Party}
use Rattle.rayon_machine_places.specs.declared.place.Plan.TheVariants.{Detach, Here, Send, Fork, Feed, Open, Enter, Gather}
use Rattle.rayon_machine_places.specs.declared.place.Place.{Place}
use Rattle.rayon_machine_places.specs.declared.place.Move.{Move}
use Rattle.rayon_machine_places.specs.declared.place.Move.TheVariants.{Stay, Enter, StartRun, Back, HandBack, Discard, HandIn, Mark, HandAllBack}
use Rattle.rayon_machine_places.specs.declared.act.Seen.{Seen}
use Rattle.rayon_machine_runs.specs.declared.state.Whereabouts.{Whereabouts}
use Rattle.rayon_machine_runs.specs.declared.state.Whereabouts.TheVariants.{Nowhere, Made, InDeque, Injected, InFifo, Retaken, Running, Over, HandedBack, Spent, InCast}
use Rattle.rayon_machine_places.specs.declared.shape.PoolShape.{PoolShape}
use Rattle.rayon_machine_runs.specs.declared.state.Job.{Job}
use Rattle.rayon_machine_places.specs.Places.{same_party, act_of, next_of}
use Rattle.rayon_machine_runs.specs.World.{Stack, World, Part, at_job, begun}
use Rattle.rayon_machine_places.specs.Targets.{target_pool}
use Rattle.rayon_machine_runs.specs.Steps.{put, put_stack, after_move, jobs_after, is_piece, mark_pieces, marked}
use Rattle.rayon_machine_laws.specs.Once.{one}
use Rattle.rayon_machine_laws.specs.Shares.{share, shares_in, shares, is_busy}
use Rattle.rayon_machine_laws.proofs.Frame.{same_party_true, stack_mine, stack_other, Bare, bare_less, after_counted, is_sharing}
use Rattle.rayon_machine_laws.proofs.Ties.{job_at}
use Rattle.rayon_machine_laws.proofs.Located.{is_left, IsOnward}
use Rattle.rayon_machine_laws.proofs.Placed.{Kept}
use Rattle.rayon_machine_laws.proofs.Claims.{is_detached, SaysMove, SaysBack, counts_detached}
use Rattle.rayon_machine_laws.proofs.ClaimActs.{Lasting}
use Rattle.rayon_machine_laws.proofs.ClaimRuns.{CallsHold, world_after, place_part}
use Rattle.rayon_machine_laws.proofs.Amounts.{raises, values, raises_in, values_in, all_raises, all_values, share_move, raises_move, values_move, gained, pushed, paid, amounts, land_shares, land_raises, land_values, regained}
use Rattle.rayon_machine_laws.proofs.Tokens.{Tokens, tokens_keep, sum_below}
use Rattle.rayon_machine_laws.proofs.ShareActs.{with_job, tally, SharesHold, one_most, Stays, one_not}

-- a run that a move starts is not of a detached job, nor is a token that it spends one; but what comes back from a call
-- for a FIFO list is, beside its token, and so is each piece of a broadcast
abbrev pub StartsAwaited : World → Move → Type 0
StartsAwaited w (StartRun f a) = is_detached (w.job a).kind ≡ false
StartsAwaited w (HandIn y k) = is_detached (w.job k).kind ≡ false
StartsAwaited w (Discard k) = is_detached (w.job k).kind ≡ false
StartsAwaited w (HandBack (Feed d)) = SaysBack w (Feed d)
StartsAwaited w (Mark y c m) = (t : ℕ) → is_piece c t ≡ true → is_detached (w.job t).kind ≡ true
StartsAwaited w (HandAllBack c) = (t : ℕ) → is_piece c t ≡ true → is_detached (w.job t).kind ≡ true
StartsAwaited w _ = ⊤

pub says_starts : (w : World) (q : Party) (g : Move) → SaysMove w q g → StartsAwaited w g
says_starts w q (StartRun f a) s = (s.2).kind
says_starts w q (Stay y) s = tt
says_starts w q (HandIn y k) s = s.1
says_starts w q (Mark y c m) s = λ t e. ap is_detached ((s.1 t e).kind) ∙ counts_detached c.count
says_starts w q (Enter f y) s = tt
says_starts w q Back s = tt
says_starts w q (HandBack (Feed d)) s = s
says_starts w q (HandBack n) s = tt
says_starts w q (Discard k) s = s
says_starts w q (HandAllBack c) s = λ t e. ap is_detached ((s t e).kind) ∙ counts_detached c.count

pub one_le : (b d : Bool) → (b ≡ true → d ≡ true) → one b ≤ one d
one_le true d f = let e : one d ≡ 1 = ap one (f refl) in omega (arith, e)
one_le false d f = omega arith

gone_busy : (J : ℕ → Job) (a t : ℕ) → one (is_busy (put J a (at_job (J a) HandedBack) t).at) ≤ one (is_busy (J t).at)
gone_busy J a t = by (t == a)
  where
    by : (z : Bool) → one (is_busy (if z then at_job (J a) HandedBack else J t).at) ≤ one (is_busy (J t).at)
    by true = omega arith
    by false = omega arith

spent_busy : (J : ℕ → Job) (a t : ℕ) → one (is_busy (put J a (at_job (J a) Spent) t).at) ≤ one (is_busy (J t).at)
spent_busy J a t = by (t == a)
  where
    by : (z : Bool) → one (is_busy (if z then at_job (J a) Spent else J t).at) ≤ one (is_busy (J t).at)
    by true = omega arith
    by false = omega arith

-- the pieces that a move deals
abbrev pub dealt : ℕ → Move → ℕ
dealt t (Mark y c Queued) = one (is_piece c t)
dealt t (Mark y c Dealt) = one (is_piece c t)
dealt t _ = 0

-- pieces come into their lists
abbrev deals : Marking → Bool
deals Queued = true
deals Dealt = true
deals _ = false

marked_busy : (c : Pieces) (k : Marking) (J : ℕ → Job) (t n : ℕ) → (deals k ≡ true → one (is_piece c t) ≤ n) → one (is_busy (mark_pieces c k J t).at) ≤ one (is_busy (J t).at) + n
marked_busy c k J t n d = by (is_piece c t) refl
  where
    each : (k : Marking) → (deals k ≡ true → 1 ≤ n) → one (is_busy (marked k c.pool (t - c.first) (J t)).at) ≤ one (is_busy (J t).at) + n
    each Counted d = omega arith
    each (Numbered j) d = omega arith
    each Unnumbered d = omega arith
    each Dealt d = let a : 1 ≤ n = d refl in omega (arith, a)
    each Returned d = omega arith
    each Queued d = let a : 1 ≤ n = d refl in omega (arith, a)

    by : (b : Bool) → is_piece c t ≡ b → one (is_busy (if b then marked k c.pool (t - c.first) (J t) else J t).at) ≤ one (is_busy (J t).at) + n
    by true e = each k (λ z. (let a : one (is_piece c t) ≤ n = d z in let b : one (is_piece c t) ≡ 1 = ap one e in omega (arith, a, b)))
    by false e = omega arith

-- a move makes no detached job busy, but the pieces that it deals
after_busy : (w : World) (q : Party) (g : Move) (J : ℕ → Job) (t : ℕ) → StartsAwaited w g → is_detached (w.job t).kind ≡ true → one (is_busy (jobs_after q g J t).at) ≤ one (is_busy (J t).at) + dealt t g
after_busy w q (Stay y) J t s z = omega arith
after_busy w q (HandIn y k) J t s z = let a : one (is_busy (put J k (at_job (J k) Spent) t).at) ≤ one (is_busy (J t).at) = spent_busy J k t in omega (arith, a)
after_busy w q (Discard k) J t s z = let a : one (is_busy (put J k (at_job (J k) Spent) t).at) ≤ one (is_busy (J t).at) = spent_busy J k t in omega (arith, a)
after_busy w q (HandBack (Feed d)) J t s z = by (t == d.token)
  where
    by : (b : Bool) → one (is_busy (if b then at_job (J (d.token)) HandedBack else put J (d.job) (at_job (J (d.job)) HandedBack) t).at) ≤ one (is_busy (J t).at) + 0
    by true = omega arith
    by false = let a : one (is_busy (put J (d.job) (at_job (J (d.job)) HandedBack) t).at) ≤ one (is_busy (J t).at) = gone_busy J (d.job) t in omega (arith, a)
after_busy w q (Enter f y) J t s z = omega arith
after_busy w q Back J t s z = omega arith
after_busy w q (StartRun f a) J t s z = by (t == a) refl
  where
    by : (b : Bool) → (t == a) ≡ b → one (is_busy (if b then begun q (J a) else J t).at) ≤ one (is_busy (J t).at) + 0
    by true e = absurd (let i : t ≡ a = eqb-true t a e in let k : is_detached (w.job t).kind ≡ false = ap (λ n. is_detached (w.job n).kind) i ∙ s in cc)
    by false e = omega arith
after_busy w q (HandBack (Detach p a)) J t s z = let b : one (is_busy (put J a (at_job (J a) HandedBack) t).at) ≤ one (is_busy (J t).at) = gone_busy J a t in omega (arith, b)
after_busy w q (HandBack (Here p a)) J t s z = let b : one (is_busy (put J a (at_job (J a) HandedBack) t).at) ≤ one (is_busy (J t).at) = gone_busy J a t in omega (arith, b)
after_busy w q (HandBack (Send o)) J t s z = let b : one (is_busy (put J (o.job) (at_job (J (o.job)) HandedBack) t).at) ≤ one (is_busy (J t).at) = gone_busy J (o.job) t in omega (arith, b)
after_busy w q (HandBack (Open o)) J t s z = let b : one (is_busy (put J (o.job) (at_job (J (o.job)) HandedBack) t).at) ≤ one (is_busy (J t).at) = gone_busy J (o.job) t in omega (arith, b)
after_busy w q (HandBack (Enter e)) J t s z = let b : one (is_busy (put J (e.job) (at_job (J (e.job)) HandedBack) t).at) ≤ one (is_busy (J t).at) = gone_busy J (e.job) t in omega (arith, b)
after_busy w q (HandBack (Fork o a)) J t s z = by (t == o.job)
  where
    by : (b : Bool) → one (is_busy (if b then at_job (J (o.job)) HandedBack else put J a (at_job (J a) HandedBack) t).at) ≤ one (is_busy (J t).at) + 0
    by true = omega arith
    by false = let b : one (is_busy (put J a (at_job (J a) HandedBack) t).at) ≤ one (is_busy (J t).at) = gone_busy J a t in omega (arith, b)
after_busy w q (Mark y c Counted) J t s z = marked_busy c Counted J t 0 (λ e. absurd (cc))
after_busy w q (Mark y c (Numbered j)) J t s z = marked_busy c (Numbered j) J t 0 (λ e. absurd (cc))
after_busy w q (Mark y c Unnumbered) J t s z = marked_busy c Unnumbered J t 0 (λ e. absurd (cc))
after_busy w q (Mark y c Dealt) J t s z = marked_busy c Dealt J t (one (is_piece c t)) (λ e. omega arith)
after_busy w q (HandBack (Gather g)) J t s z = marked_busy g.pieces Returned J t 0 (λ e. absurd (cc))
after_busy w q (Mark y c Returned) J t s z = marked_busy c Returned J t 0 (λ e. absurd (cc))
after_busy w q (Mark y c Queued) J t s z = marked_busy c Queued J t (one (is_piece c t)) (λ e. omega arith)
after_busy w q (HandAllBack c) J t s z = marked_busy c Returned J t 0 (λ e. absurd (cc))

-- a detached job has its share itself from its push on
pub busy_step : (w : World) (q : Party) (x : Place) (fs : List Place) (r : Seen × Part) → Kept w (world_after w q x fs r) → Lasting w (world_after w q x fs r) → StartsAwaited w (next_of (w.shape.pool (target_pool q (act_of q x))) q x (r.0))
    → Stays (place_part w q x) x (job_at w q (act_of q x)) r → ((t : ℕ) → dealt t (next_of (w.shape.pool (target_pool q (act_of q x))) q x (r.0)) ≤ pushed t x (r.0)) → (t : ℕ) → with_job ((world_after w q x fs r).job t) ≤ with_job (w.job t) + pushed t x (r.0)
busy_step w q x fs r ke l sa st de t = by (is_detached (w.job t).kind) refl
  where
    u : World
    u = world_after w q x fs r

    by : (d : Bool) → is_detached (w.job t).kind ≡ d → one (is_detached ((world_after w q x fs r).job t).kind && is_busy ((world_after w q x fs r).job t).at) ≤ one (is_detached (w.job t).kind && is_busy (w.job t).at) + pushed t x (r.0)
    by false e = let k : is_detached ((world_after w q x fs r).job t).kind ≡ false = ap is_detached (l.kinds t) ∙ e in subst (λ b. one (b && is_busy ((world_after w q x fs r).job t).at) ≤ one (is_detached (w.job t).kind && is_busy (w.job t).at) + pushed t x (r.0)) (sym k) (omega arith)
    by true e = let k : is_detached ((world_after w q x fs r).job t).kind ≡ true = ap is_detached (l.kinds t) ∙ e in
        subst (λ b. one (b && is_busy ((world_after w q x fs r).job t).at) ≤ one (is_detached (w.job t).kind && is_busy (w.job t).at) + pushed t x (r.0)) (sym k)
        (subst (λ b. one (is_busy ((world_after w q x fs r).job t).at) ≤ one (b && is_busy (w.job t).at) + pushed t x (r.0)) (sym e) (busy (is_left (w.job t).at) refl))
      where
        -- what has left its call was busy before, if it is now
        left_busy : (v v2 : Whereabouts) → is_left v ≡ true → IsOnward v v2 → one (is_busy v2) ≤ one (is_busy v)
        left_busy (Made s) v2 z o = cc
        left_busy Nowhere v2 z o = cc
        left_busy (Over d) v2 z o = let a : one (is_busy v2) ≡ 0 = ap (λ v. one (is_busy v)) o in omega (arith, a)
        left_busy HandedBack v2 z o = let a : one (is_busy v2) ≡ 0 = ap (λ v. one (is_busy v)) o in omega (arith, a)
        left_busy Spent v2 z o = let a : one (is_busy v2) ≡ 0 = ap (λ v. one (is_busy v)) o in omega (arith, a)
        left_busy (InDeque p i) v2 z o = one_most (is_busy v2)
        left_busy (Injected p) v2 z o = one_most (is_busy v2)
        left_busy (InCast p i) v2 z o = one_most (is_busy v2)
        left_busy (InFifo p i b7) v2 z o = cc
        left_busy (Retaken s) v2 z o = cc
        left_busy (Running s) v2 z o = one_most (is_busy v2)

        busy : (b : Bool) → is_left (w.job t).at ≡ b → one (is_busy ((world_after w q x fs r).job t).at) ≤ one (is_busy (w.job t).at) + pushed t x (r.0)
        busy true z = let a : one (is_busy ((world_after w q x fs r).job t).at) ≤ one (is_busy (w.job t).at) = left_busy ((w.job t).at) (((world_after w q x fs r).job t).at) z (ke.onward t) in omega (arith, a)
        busy false z = let a : one (is_busy ((world_after w q x fs r).job t).at) ≤ one (is_busy (put w.job (job_at w q (act_of q x)) (r.1.job) t).at) + dealt t (next_of (w.shape.pool (target_pool q (act_of q x))) q x (r.0)) =
            after_busy w q (next_of (w.shape.pool (target_pool q (act_of q x))) q x (r.0)) (put w.job (job_at w q (act_of q x)) (r.1.job)) t sa e in
            let b : one (is_busy (put w.job (job_at w q (act_of q x)) (r.1.job) t).at) ≤ one (is_busy (w.job t).at) + pushed t x (r.0) = touched (t == job_at w q (act_of q x)) refl in
            let c : dealt t (next_of (w.shape.pool (target_pool q (act_of q x))) q x (r.0)) ≤ pushed t x (r.0) = de t in
            let d : one (is_busy ((world_after w q x fs r).job t).at) ≤ 1 = one_most (is_busy ((world_after w q x fs r).job t).at) in omega (arith, a, b, c, d)
          where
            touched : (b : Bool) → (t == job_at w q (act_of q x)) ≡ b → one (is_busy (if b then r.1.job else w.job t).at) ≤ one (is_busy (w.job t).at) + pushed t x (r.0)
            touched false y = omega arith
            touched true y = let i : t ≡ job_at w q (act_of q x) = eqb-true t (job_at w q (act_of q x)) y in subst (λ n. one (is_busy r.1.job.at) ≤ one (is_busy (w.job n).at) + pushed n x (r.0)) (sym i)
                (st (ap (λ n. is_left (w.job n).at) (sym i) ∙ z) (ap (λ n. is_detached (w.job n).kind) (sym i) ∙ e))

-- the shares of a party's stack after a move, and of the others'
pub shares_mine : (w : World) (q : Party) (x : Place) (fs : List Place) (g : PoolShape) (e : Seen) (t : ℕ) → w.stack q ≡ record { top = x; below = fs }
    → shares t (put_stack w.stack q (after_move (next_of g q x e) fs) q) + (pushed t x e + paid t x) ≡ shares t (w.stack q) + (gained t x e + regained t x e)
shares_mine w q x fs g e t z = let a : share_move t (next_of g q x e) + (pushed t x e + paid t x) ≡ share t x + (gained t x e + regained t x e) = (amounts g q t 0 x e).0 in
    let b : shares t (after_move (next_of g q x e) fs) ≡ share_move t (next_of g q x e) + shares_in t fs = land_shares t (next_of g q x e) fs in
    let c : shares t (put_stack w.stack q (after_move (next_of g q x e) fs) q) ≡ shares t (after_move (next_of g q x e) fs) = ap (shares t) (stack_mine w.stack q (after_move (next_of g q x e) fs)) in
    let d : shares t (w.stack q) ≡ (share t x + shares_in t fs) = ap (shares t) z in omega (arith, a, b, c, d)

pub other_is : (f : Stack → ℕ) (w : World) (q : Party) (k : Stack) (r : Party) → same_party r q ≡ false → f (put_stack w.stack q k r) ≡ f (w.stack r)
other_is f w q k r e = ap f (stack_other w.stack q k r e)

pub other_le : (f : Stack → ℕ) (w : World) (q : Party) (k : Stack) (r : Party) → same_party r q ≡ false → f (put_stack w.stack q k r) ≤ f (w.stack r)
other_le f w q k r e = let a : f (put_stack w.stack q k r) ≡ f (w.stack r) = other_is f w q k r e in omega (arith, a)

zero_sum : (a b : ℕ) → (a + b) ≡ 0 → (a ≡ 0) × (b ≡ 0)
zero_sum a b e = ((let g : a ≡ 0 = omega (arith, e) in g), (let g : b ≡ 0 = omega (arith, e) in g))

pub values_mine : (w : World) (q : Party) (x : Place) (fs : List Place) (g : PoolShape) (e : Seen) (p : ℕ) → w.stack q ≡ record { top = x; below = fs } → all_values p (put_stack w.stack q (after_move (next_of g q x e) fs) q) + values p x ≡ all_values p (w.stack q)
values_mine w q x fs g e p z = let a : values_move p (next_of g q x e) ≡ 0 = (amounts g q 0 p x e).1 in
    let b : all_values p (after_move (next_of g q x e) fs) ≡ values_move p (next_of g q x e) + values_in p fs = land_values p (next_of g q x e) fs in
    let c : all_values p (put_stack w.stack q (after_move (next_of g q x e) fs) q) ≡ all_values p (after_move (next_of g q x e) fs) = ap (all_values p) (stack_mine w.stack q (after_move (next_of g q x e) fs)) in
    let d : all_values p (w.stack q) ≡ (values p x + values_in p fs) = ap (all_values p) z in omega (arith, a, b, c, d)

pub raises_mine : (w : World) (q : Party) (x : Place) (fs : List Place) (g : PoolShape) (e : Seen) (t : ℕ) → w.stack q ≡ record { top = x; below = fs } → all_raises t (put_stack w.stack q (after_move (next_of g q x e) fs) q) + gained t x e ≤ all_raises t (w.stack q)
raises_mine w q x fs g e t z = let a : raises_move t (next_of g q x e) + gained t x e ≤ raises t x = rises_gain g q t x e in
    let b : all_raises t (after_move (next_of g q x e) fs) ≤ raises_move t (next_of g q x e) + raises_in t fs = land_raises t (next_of g q x e) fs in
    let c : all_raises t (put_stack w.stack q (after_move (next_of g q x e) fs) q) ≡ all_raises t (after_move (next_of g q x e) fs) = ap (all_raises t) (stack_mine w.stack q (after_move (next_of g q x e) fs)) in
    let d : all_raises t (w.stack q) ≡ (raises t x + raises_in t fs) = ap (all_raises t) z in omega (arith, a, b, c, d)

-- the pieces of a broadcast that is handed back were waiting for their shares
pub back_bare : (w : World) (q : Party) (x : Place) (fs : List Place) (g : PoolShape) (e : Seen) → w.stack q ≡ record { top = x; below = fs } → ((s : Party) (t : ℕ) → all_raises t (w.stack s) + one (w.job t).counted ≤ 1) → (t : ℕ) → Bare (next_of g q x e) w.job t
back_bare w q x fs g e z un t = by (next_of g q x e) (let a : raises_move t (next_of g q x e) + gained t x e ≤ raises t x = rises_gain g q t x e in let b : all_raises t (w.stack q) ≡ (raises t x + raises_in t fs) = ap (all_raises t) z in
    let c : all_raises t (w.stack q) + one (w.job t).counted ≤ 1 = un q t in omega (arith, a, b, c))
  where
    by : (m : Move) → raises_move t m + one (w.job t).counted ≤ 1 → Bare m w.job t
    by (HandBack (Gather y)) l = λ d. one_not ((w.job t).counted) (let a : one (is_piece y.pieces t) ≡ 1 = ap one d in omega (arith, a, l))
    by _ l = tt

-- so what a move makes of the jobs leaves each its share, or that it has none
pub after_shares : (w : World) (q : Party) (x : Place) (fs : List Place) (g : PoolShape) (e : Seen) → w.stack q ≡ record { top = x; below = fs } → ((s : Party) (t : ℕ) → all_raises t (w.stack s) + one (w.job t).counted ≤ 1) → is_sharing (next_of g q x e) ≡ false → (f : ℕ → Job) (t : ℕ)
    → ((w.job t).counted ≡ false → (f t).counted ≡ false) → (jobs_after q (next_of g q x e) f t).counted ≡ (f t).counted
after_shares w q x fs g e z un st f t l = after_counted q (next_of g q x e) f t st (bare_less (next_of g q x e) w.job f t l (back_bare w q x fs g e z un t))

pub raises_all : (w : World) (q : Party) (x : Place) (fs : List Place) (g : PoolShape) (e : Seen) (t : ℕ) → w.stack q ≡ record { top = x; below = fs } → (r : Party) → all_raises t (put_stack w.stack q (after_move (next_of g q x e) fs) r) ≤ all_raises t (w.stack r)
raises_all w q x fs g e t z r = by (same_party r q) refl
  where
    by : (b : Bool) → same_party r q ≡ b → all_raises t (put_stack w.stack q (after_move (next_of g q x e) fs) r) ≤ all_raises t (w.stack r)
    by true y = subst (λ v. all_raises t (put_stack w.stack q (after_move (next_of g q x e) fs) v) ≤ all_raises t (w.stack v)) (sym (same_party_true r q y))
        (let a : all_raises t (put_stack w.stack q (after_move (next_of g q x e) fs) q) + gained t x e ≤ all_raises t (w.stack q) = raises_mine w q x fs g e t z in omega (arith, a))
    by false y = other_le (all_raises t) w q (after_move (next_of g q x e) fs) r y

-- where no share is taken or given back
pub still_hold : (w u : World) (q : Party) (k : Stack) → CallsHold u → ((r : Party) → u.stack r ≡ put_stack w.stack q k r) → w.jobs ≤ u.jobs → ((t : ℕ) → (u.job t).counted ≡ (w.job t).counted) → ((p : ℕ) → (u.pool p).counted ≡ (w.pool p).counted)
    → ((p : ℕ) → sum_below u.jobs (λ t. tally p (u.job t)) ≡ sum_below w.jobs (λ t. tally p (w.job t))) → ((p : ℕ) → (u.pool p).count ≡ (w.pool p).count) → ((t : ℕ) → shares t (put_stack w.stack q k q) + with_job (u.job t) ≤ shares t (w.stack q) + with_job (w.job t))
    → ((p : ℕ) → all_values p (put_stack w.stack q k q) + one (u.pool p).held ≤ all_values p (w.stack q) + one (w.pool p).held) → ((t : ℕ) (r : Party) → all_raises t (put_stack w.stack q k r) + one (w.job t).counted ≤ 1) → SharesHold w → SharesHold u
still_hold w u q k ch st jo co pc su pn sh va ra h = record {
  calls = ch;
  jobs = λ t. subst (λ c. Tokens (λ r. shares t (u.stack r)) (with_job (u.job t)) (one c)) (sym (co t))
      (tokens_keep (λ r. shares t (w.stack r)) (λ r. shares t (u.stack r)) (with_job (w.job t)) (with_job (u.job t)) (one (w.job t).counted) q (one_most ((w.job t).counted))
      (λ r e. (let a : shares t (u.stack r) ≡ shares t (put_stack w.stack q k r) = ap (shares t) (st r) in let b : shares t (put_stack w.stack q k r) ≤ shares t (w.stack r) = other_le (shares t) w q k r e in omega (arith, a, b)))
      (let a : shares t (u.stack q) ≡ shares t (put_stack w.stack q k q) = ap (shares t) (st q) in let b : shares t (put_stack w.stack q k q) + with_job (u.job t) ≤ shares t (w.stack q) + with_job (w.job t) = sh t in omega (arith, a, b))
      (h.jobs t));
  values = λ p. subst (λ c. Tokens (λ r. all_values p (u.stack r)) (one (u.pool p).held) (one c)) (sym (pc p))
      (tokens_keep (λ r. all_values p (w.stack r)) (λ r. all_values p (u.stack r)) (one (w.pool p).held) (one (u.pool p).held) (one (w.pool p).counted) q (one_most ((w.pool p).counted))
      (λ r e. (let a : all_values p (u.stack r) ≡ all_values p (put_stack w.stack q k r) = ap (all_values p) (st r) in let b : all_values p (put_stack w.stack q k r) ≤ all_values p (w.stack r) = other_le (all_values p) w q k r e in omega (arith, a, b)))
      (let a : all_values p (u.stack q) ≡ all_values p (put_stack w.stack q k q) = ap (all_values p) (st q) in let b : all_values p (put_stack w.stack q k q) + one (u.pool p).held ≤ all_values p (w.stack q) + one (w.pool p).held = va p in omega (arith, a, b))
      (h.values p));
  unraised = λ r t. (let a : all_raises t (u.stack r) ≡ all_raises t (put_stack w.stack q k r) = ap (all_raises t) (st r) in let b : all_raises t (put_stack w.stack q k r) + one (w.job t).counted ≤ 1 = ra t r in let c : one (u.job t).counted ≡ one (w.job t).counted = ap one (co t) in
      omega (arith, a, b, c));
  unmade = λ t b. co t ∙ h.unmade t (omega (arith, b, jo));
  sums = λ p. (let a : sum_below w.jobs (λ t. tally p (w.job t)) + one (w.pool p).counted ≡ (w.pool p).count = h.sums p in let b : sum_below u.jobs (λ t. tally p (u.job t)) ≡ sum_below w.jobs (λ t. tally p (w.job t)) = su p in
      let c : one (u.pool p).counted ≡ one (w.pool p).counted = ap one (pc p) in let d : (u.pool p).count ≡ (w.pool p).count = pn p in omega (arith, a, b, c, d));
}
