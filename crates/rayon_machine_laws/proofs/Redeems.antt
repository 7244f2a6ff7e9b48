-- a token that is to be redeemed finds a job in its FIFO list: the tokens that are queued or in hand, and the list's
-- holder, are no more than its jobs
--
-- The tokens counted are those queued at the list's pool, or in a hand there. Lists of scopes are among them.
use Rattle.rayon_machine_places.specs.declared.place.Mark.{Mark as Marking}
use Rattle.rayon_machine_places.specs.declared.place.Mark.TheVariants.{Counted, Queued, Returned, Numbered, Dealt, Unnumbered}
pub use Rattle.rayon_machine_laws.proofs.Cases.{is_act}
use Rattle.rayon_machine_laws.proofs.Cases.{event_cases}
use Rattle.rayon_machine_laws.proofs.PlacedEvents.{is_dealing, no_deals}
use Rattle.rayon_machine_laws.proofs.Later.{Static, act_static}
use Rattle.rayon_machine_places.specs.declared.place.Pieces.{Pieces}
use Rattle.rayon_machine_places.specs.declared.place.Count.{Count}
use Rattle.rayon_machine_places.specs.declared.place.Count.TheVariants.{OfPool, OfScope, OfCast}
use Rattle.rayon_machine_places.specs.declared.place.Feeding.{Feeding}
use Rattle.rayon_machine_places.specs.declared.place.Gathering.{Gathering}
use Rattle.std.proofs.Common.{arith, refl, sym, ◌∙◌, ap, subst, inl, inr}
use Rattle.std.specs.Prelude.{ℕ, zero, suc, Bool, true, false, ◌&&◌, ◌+◌, ◌==◌, ◌≤◌, ◌<◌, if◌then◌else◌, Option, Some, List, ◌≡◌, IfSome, length, ◌-◌, ⊤}
use Rattle.std.proofs.lemmas.Bool.{eqb-true, eq-eqb, ltb-true, ltb-false}
use Rattle.rayon_machine_places.specs.declared.place.Move.TheVariants.{Back, Discard, Enter, HandBack, HandIn, StartRun, Stay, Mark, HandAllBack}
use Rattle.rayon_machine_places.specs.declared.place.Place.TheVariants.{BeginTask, LookQueue, PushJob, PushToken, PushForAll, DealPieces}
use Rattle.rayon_machine_places.specs.declared.place.Party.TheVariants.{Caller, Worker}
use Rattle.rayon_machine_laws.proofs.ClaimRuns.{CallsHold, place_part, top_says, world_after}
use Rattle.rayon_machine_places.specs.declared.place.Plan.TheVariants.{Detach, Feed, Fork, Here, Send, Open, Enter, Gather}
use Rattle.rayon_machine_places.specs.declared.place.JobKind.TheVariants.{Detached, Direct, Stored, TokenOf, Scoped, BodyOf}
use Rattle.rayon_machine_runs.specs.declared.event.Event.TheVariants.{Go}
use Rattle.rayon_machine_runs.specs.declared.event.Event.{Event}
use Rattle.rayon_machine_laws.proofs.Stocked.{Fair, act_fair, at_pool, begun_off, count_no_token, draws, is_held, is_pushing, live, live_off, no_pushes, one_set, pushes, token_of, up, live_none}
use Rattle.rayon_machine_laws.proofs.FeederEvents.{first_feeders, step_feeders}
use Rattle.rayon_machine_laws.proofs.Feeders.{FeedersHold, waits}
use Rattle.rayon_machine_places.specs.declared.act.Act.TheVariants.{FifoOut, LookInj, LookOwn, PushInj, PushOwn}
use Rattle.rayon_machine_places.specs.declared.act.Seen.TheVariants.{Handed, Done}
use Rattle.rayon_machine_runs.specs.declared.state.Whereabouts.TheVariants.{HandedBack, Made, Over, Retaken, Running, Spent}
use Rattle.rayon_machine_laws.specs.Once.{IsOnce, IsRedeemed, is_with, one}
use Rattle.rayon_machine_runs.specs.Runs.{IsRun, start}
use Rattle.rayon_machine_runs.specs.declared.state.Job.{Job}
use Rattle.rayon_machine_places.specs.declared.place.JobKind.{JobKind}
use Rattle.rayon_machine_places.specs.declared.place.Move.{Move}
use Rattle.rayon_machine_runs.specs.World.{Part, Shape, Stack, World, at_job, begun, same_list, effect, counts_at}
use Rattle.rayon_machine_places.specs.Targets.{target_call, target_pool, target_worker}
use Rattle.rayon_machine_places.specs.declared.place.Party.{Party}
use Rattle.rayon_machine_places.specs.declared.place.Place.{Place}
use Rattle.rayon_machine_places.specs.declared.place.Plan.{Plan}
use Rattle.rayon_machine_laws.proofs.Claims.{Says, Taking, SaysPieces}
use Rattle.rayon_machine_places.specs.declared.act.Seen.{Seen}
use Rattle.rayon_machine_places.specs.declared.place.Taken.TheVariants.{Token}
use Rattle.rayon_machine_runs.specs.declared.state.Whereabouts.{Whereabouts}
use Rattle.rayon_machine_places.specs.Places.{act_of, after_begin, is_member, look_act, next_of, own_index, own_pool, plan_job, plan_pool, push_act, same_party, plan_book, count_book, count_kind}
use Rattle.rayon_machine_laws.proofs.Frame.{acted_keeps, and_parts, either, if_some_and, if_some_map, put_new, put_old, same_index, same_list_refl, same_list_true, same_party_true, put_same}
use Rattle.rayon_machine_runs.specs.Steps.{after_send, blank_job, handed_back, jobs_after, new_job, put, step, new_piece, is_piece, mark_pieces, marked, after_deal, after_feed, new_whole, put_pieces, after_gather}
use Rattle.rayon_machine_laws.proofs.ClaimMakes.{first_calls, step_calls}
use Rattle.rayon_machine_laws.proofs.Hands.{held, held_in}
use Rattle.rayon_machine_laws.proofs.Located.{and_false, is_left}
use Rattle.rayon_machine_laws.proofs.Ties.{job_at, outcome, result}
use Rattle.rayon_machine_laws.proofs.PlacedRuns.{once}
use Rattle.rayon_machine_laws.proofs.Events.{run_keeps}
use Rattle.rayon_machine_laws.proofs.Tokens.{sum_below, sum_least}
use Rattle.std.proofs.Math.Dec.{ltb}

-- sums, by their summands
other : (j n k : ℕ) → n ≡ k → j + 1 ≤ n → (j == k) ≡ false
other j n k i l = elim (either (j == k)) [ inl y ↦ absurd (let w : j ≡ k = eqb-true j k y in omega (arith, w, l, i)) | inr y ↦ y ]

below : (n k : ℕ) → (n == k) ≡ false → k + 1 ≤ n + 1 → k + 1 ≤ n
below n k y b = elim (either (ltb k n)) [ inl w ↦ (let v : k < n = ltb-true k n w in omega (arith, v)) | inr w ↦ absurd (let v : n ≤ k = ltb-false k n w in let u : n ≡ k = omega (arith, v, b) in let g : (n == k) ≡ true = eq-eqb n k u in cc) ]

sum_least_of : (n : ℕ) (f g : ℕ → ℕ) → ((i : ℕ) → i + 1 ≤ n → g i ≤ f i) → sum_below n g ≤ sum_below n f
sum_least_of zero f g e = omega arith
sum_least_of (suc n) f g e = let a : g n ≤ f n = e n (omega arith) in let b : sum_below n g ≤ sum_below n f = sum_least_of n f g (λ i z. e i (omega (arith, z))) in omega (arith, a, b)

sum_put : (n : ℕ) (f g : ℕ → ℕ) (k c : ℕ) → ((i : ℕ) → (i == k) ≡ false → g i ≤ f i) → g k ≤ f k + c → sum_below n g ≤ sum_below n f + c
sum_put zero f g k c e z = omega arith
sum_put (suc n) f g k c e z = by (sum_put n f g k c e z) (n == k) refl
  where
    by : sum_below n g ≤ sum_below n f + c → (b : Bool) → (n == k) ≡ b → g n + sum_below n g ≤ (f n + sum_below n f) + c
    by rec true y = let i : n ≡ k = eqb-true n k y in let a : g n ≡ g k = ap g i in let b : f n ≡ f k = ap f i in let s : sum_below n g ≤ sum_below n f = sum_least_of n f g (λ j l. e j (other j n k i l)) in omega (arith, a, b, z, s)
    by rec false y = let a : g n ≤ f n = e n y in omega (arith, a, rec)

sum_less : (n : ℕ) (f g : ℕ → ℕ) (k : ℕ) → k + 1 ≤ n → ((i : ℕ) → g i ≤ f i) → g k + 1 ≤ f k → sum_below n g + 1 ≤ sum_below n f
sum_less zero f g k l e z = absurd (omega (arith, l))
sum_less (suc n) f g k l e z = by (λ m. sum_less n f g k m e z) (n == k) refl
  where
    by : (k + 1 ≤ n → sum_below n g + 1 ≤ sum_below n f) → (b : Bool) → (n == k) ≡ b → (g n + sum_below n g) + 1 ≤ f n + sum_below n f
    by rec true y = let i : n ≡ k = eqb-true n k y in let a : g n ≡ g k = ap g i in let b : f n ≡ f k = ap f i in let s : sum_below n g ≤ sum_below n f = sum_least_of n f g (λ j m. e j) in omega (arith, a, b, z, s)
    by rec false y = let a : g n ≤ f n = e n in let b : sum_below n g + 1 ≤ sum_below n f = rec (below n k y (omega (arith, l))) in omega (arith, a, b)

sum_up : (m n : ℕ) (f : ℕ → ℕ) → sum_below n f ≤ sum_below (m + n) f
sum_up zero n f = subst (λ z. sum_below n f ≤ sum_below z f) (let e : n ≡ 0 + n = omega arith in e) (omega arith)
sum_up (suc m) n f = subst (λ z. sum_below n f ≤ sum_below z f) (let e : suc (m + n) ≡ suc m + n = omega arith in e) (let a : sum_below n f ≤ sum_below (m + n) f = sum_up m n f in let b : sum_below n f ≤ f (m + n) + sum_below (m + n) f = omega (arith, a) in b)

-- no move makes more tokens
put_less : (p j : ℕ) (v : Option ℕ) (f : ℕ → Job) (k : ℕ) (x : Job) (t : ℕ) → live p j v x ≤ live p j v (f k) → live p j v (put f k x t) ≤ live p j v (f t)
put_less p j v f k x t e = by (t == k) refl
  where
    by : (b : Bool) → (t == k) ≡ b → live p j v (if b then x else f t) ≤ live p j v (f t)
    by true y = let a : live p j v (f k) ≡ live p j v (f t) = ap (λ n. live p j v (f n)) (sym (eqb-true t k y)) in omega (arith, a, e)
    by false y = omega arith

off_less : (p j : ℕ) (v : Option ℕ) (x : Job) (n : ℕ) → at_pool p x.at x.runs ≡ false → live p j v x ≤ n
off_less p j v x n e = let a : live p j v x ≡ 0 = live_off p j v x e in omega (arith, a)

pieces_less : (p j : ℕ) (v : Option ℕ) (c : Pieces) (f : ℕ → Job) (t : ℕ) (b : Bool) → live p j v (if b then marked Returned c.pool (t - c.first) (f t) else f t) ≤ live p j v (f t)
pieces_less p j v c f t true = off_less p j v (marked Returned c.pool (t - c.first) (f t)) (live p j v (f t)) refl
pieces_less p j v c f t false = omega arith

back_less : (p j : ℕ) (v : Option ℕ) (n : Plan) (f : ℕ → Job) (t : ℕ) → live p j v (handed_back n f t) ≤ live p j v (f t)
back_less p j v (Detach r u) f t = put_less p j v f u (at_job (f u) HandedBack) t (off_less p j v (at_job (f u) HandedBack) (live p j v (f u)) refl)
back_less p j v (Here r u) f t = put_less p j v f u (at_job (f u) HandedBack) t (off_less p j v (at_job (f u) HandedBack) (live p j v (f u)) refl)
back_less p j v (Send o) f t = put_less p j v f o.job (at_job (f o.job) HandedBack) t (off_less p j v (at_job (f o.job) HandedBack) (live p j v (f o.job)) refl)
back_less p j v (Open o) f t = put_less p j v f o.job (at_job (f o.job) HandedBack) t (off_less p j v (at_job (f o.job) HandedBack) (live p j v (f o.job)) refl)
back_less p j v (Enter o) f t = put_less p j v f o.job (at_job (f o.job) HandedBack) t (off_less p j v (at_job (f o.job) HandedBack) (live p j v (f o.job)) refl)
back_less p j v (Fork o u) f t =
    let g : ℕ → Job = put f u (at_job (f u) HandedBack) in
    let a : live p j v (g t) ≤ live p j v (f t) = put_less p j v f u (at_job (f u) HandedBack) t (off_less p j v (at_job (f u) HandedBack) (live p j v (f u)) refl) in
    let b : live p j v (put g o.job (at_job (f o.job) HandedBack) t) ≤ live p j v (g t) = put_less p j v g o.job (at_job (f o.job) HandedBack) t (off_less p j v (at_job (f o.job) HandedBack) (live p j v (g o.job)) refl) in omega (arith, a, b)
back_less p j v (Feed d) f t =
    let g : ℕ → Job = put f d.job (at_job (f d.job) HandedBack) in
    let a : live p j v (g t) ≤ live p j v (f t) = put_less p j v f d.job (at_job (f d.job) HandedBack) t (off_less p j v (at_job (f d.job) HandedBack) (live p j v (f d.job)) refl) in
    let b : live p j v (put g d.token (at_job (f d.token) HandedBack) t) ≤ live p j v (g t) = put_less p j v g d.token (at_job (f d.token) HandedBack) t (off_less p j v (at_job (f d.token) HandedBack) (live p j v (g d.token)) refl) in omega (arith, a, b)
back_less p j v (Gather g) f t = pieces_less p j v g.pieces f t (is_piece g.pieces t)

abbrev is_queued : Marking → Bool
is_queued Queued = true
is_queued Dealt = true
is_queued _ = false

-- pieces that are dealt are no tokens
abbrev NoTokens : (ℕ → Job) → Pieces → Type 0
NoTokens f c = (t : ℕ) → is_piece c t ≡ true → (f t).kind ≡ count_kind c.count

abbrev Deals : (ℕ → Job) → Move → Type 0
Deals f (Mark y c Queued) = NoTokens f c
Deals f (Mark y c Dealt) = NoTokens f c
Deals f _ = ⊤

quiet_deals : (f : ℕ → Job) (g : Move) → is_dealing g ≡ false → Deals f g
quiet_deals f (Mark y c Queued) e = absurd (cc)
quiet_deals f (Mark y c Dealt) e = absurd (cc)
quiet_deals f _ e = tt

marked_less : (p j : ℕ) (v : Option ℕ) (c : Pieces) (k : Marking) (f : ℕ → Job) (t : ℕ) → (is_queued k ≡ true → is_piece c t ≡ true → (f t).kind ≡ count_kind c.count) → live p j v (mark_pieces c k f t) ≤ live p j v (f t)
marked_less p j v c k f t d = by (is_piece c t) refl
  where
    dealt : (k : Marking) (i : ℕ) (x : Job) → (marked k c.pool i x).kind ≡ x.kind → x.kind ≡ count_kind c.count → live p j v (marked k c.pool i x) ≤ live p j v x
    dealt k i x m e = let a : live p j v (marked k c.pool i x) ≡ 0 = live_none p j v (marked k c.pool i x) (ap (token_of j v) m ∙ ap (token_of j v) e ∙ count_no_token j v c.count) in omega (arith, a)

    less : (k : Marking) (i : ℕ) (x : Job) → (is_queued k ≡ true → x.kind ≡ count_kind c.count) → live p j v (marked k c.pool i x) ≤ live p j v x
    less Counted i x d = omega arith
    less (Numbered n) i x d = omega arith
    less Unnumbered i x d = omega arith
    less Queued i x d = dealt Queued i x refl (d refl)
    less Dealt i x d = dealt Dealt i x refl (d refl)
    less Returned i x d = off_less p j v (marked Returned c.pool i x) (live p j v x) refl

    by : (b : Bool) → is_piece c t ≡ b → live p j v (if b then marked k c.pool (t - c.first) (f t) else f t) ≤ live p j v (f t)
    by true e = less k (t - c.first) (f t) (λ z. d z e)
    by false e = omega arith

after_less : (p j : ℕ) (v : Option ℕ) (q : Party) (g : Move) (f : ℕ → Job) (t : ℕ) → Deals f g → live p j v (jobs_after q g f t) ≤ live p j v (f t)
after_less p j v q (Stay y) f t d = omega arith
after_less p j v q (Enter x y) f t d = omega arith
after_less p j v q Back f t d = omega arith
after_less p j v q (StartRun x u) f t d = put_less p j v f u (begun q (f u)) t (let a : live p j v (begun q (f u)) ≡ 0 = begun_off p j v q (f u) in omega (arith, a))
after_less p j v q (HandIn y k) f t d = put_less p j v f k (at_job (f k) Spent) t (off_less p j v (at_job (f k) Spent) (live p j v (f k)) refl)
after_less p j v q (Discard k) f t d = put_less p j v f k (at_job (f k) Spent) t (off_less p j v (at_job (f k) Spent) (live p j v (f k)) refl)
after_less p j v q (HandBack n) f t d = back_less p j v n f t
after_less p j v q (Mark y c k) f t d = marked_less p j v c k f t (λ z. deals y c k f t z d)
  where
    deals : (y : Place) (c : Pieces) (k : Marking) (f : ℕ → Job) (t : ℕ) → is_queued k ≡ true → Deals f (Mark y c k) → is_piece c t ≡ true → (f t).kind ≡ count_kind c.count
    deals y c Queued f t z d = d t
    deals y c Dealt f t z d = d t
    deals y c _ f t z d = absurd (cc)
after_less p j v q (HandAllBack c) f t d = marked_less p j v c Returned f t (λ z. absurd (cc))

-- the token that a party redeems is none any more
spent : (p j : ℕ) (v : Option ℕ) (f : ℕ → Job) (k : ℕ) → live p j v (put f k (at_job (f k) Spent) k) ≡ 0
spent p j v f k = ap (live p j v) (put_new f k (at_job (f k) Spent)) ∙ live_off p j v (at_job (f k) Spent) refl

begin_spends : (p j : ℕ) (v : Option ℕ) (q : Party) (k i : ℕ) (b : Option ℕ) (e : Seen) (f : ℕ → Job) → live p j v (jobs_after q (after_begin (Token k i b) e) f k) ≡ 0
begin_spends p j v q k i b (Handed t d) f = spent p j v f k
begin_spends p j v q k i b _ f = spent p j v f k

-- and it is one before
in_hand_live : (q : Party) (v : Whereabouts) (n : ℕ) → is_left v ≡ true → (is_with q v && (n == 0)) ≡ true → at_pool (own_pool q) v n ≡ true
in_hand_live q (Running r) n l e = let a : (same_party q r ≡ true) × ((n == 0) ≡ true) = and_parts (same_party q r) (n == 0) e in rw (eq-eqb (own_pool q) (own_pool r) (ap own_pool (same_party_true q r (a.0)))) (a.1)
in_hand_live q (Made r) n l e = absurd (cc)
in_hand_live q (Retaken r) n l e = absurd (cc)
in_hand_live q _ n l e = absurd (cc)

token_live : (w : World) (q : Party) (k i : ℕ) (b : Option ℕ) (fs : List Place) → w.stack q ≡ record { top = BeginTask (Token k i b); below = fs } → IsOnce w → Taking w (Token k i b) → live (own_pool q) i b (w.job k) ≡ 1
token_live w q k i b fs e h s =
    let a : held k (w.stack q) ≡ (one (k == k) + held_in k fs) = ap (held k) e in let c : one (k == k) ≡ 1 = ap one (eq-eqb k k refl) in
    let f : held k (w.stack q) ≡ one (is_with q (w.job k).at && ((w.job k).runs == 0)) = h.hand q k in
    let d : (is_with q (w.job k).at && ((w.job k).runs == 0)) ≡ true = one_set (is_with q (w.job k).at && ((w.job k).runs == 0)) (omega (arith, a, c, f)) in
    let t : token_of i b (w.job k).kind ≡ true = ap (token_of i b) (s.2) ∙ own i b in
    let p : at_pool (own_pool q) (w.job k).at (w.job k).runs ≡ true = in_hand_live q (w.job k).at (w.job k).runs (s.0) d in
    ap (λ z. one (z && at_pool (own_pool q) (w.job k).at (w.job k).runs)) t ∙ ap one p
  where
    own : (i : ℕ) (b : Option ℕ) → ((i == i) && same_list b b) ≡ true
    own i b = let x : (i == i) ≡ true = eq-eqb i i refl in let y : same_list b b ≡ true = same_list_refl b in rw x y

-- the tokens of each FIFO list, and its holder, are no more than its jobs
abbrev pub Stocks : World → Type 0
Stocks w = (p j : ℕ) (v : Option ℕ) (n : ℕ) → sum_below n (λ t. live p j v (w.job t)) + one (is_held ((w.seat p j).feeder v)) ≤ length ((w.seat p j).fifo v)

pub record StocksHold (w : World) : Type 0 where
  pub calls : CallsHold w
  pub feeders : FeedersHold w
  pub stocks : Stocks w

-- a fair act whose pieces, if it deals some, are no tokens
abbrev Fairly : World → Party → Place → Seen × Part → Type 0
Fairly w q x r = Fair q x (place_part w q x) r × Deals (put w.job (job_at w q (act_of q x)) (r.1.job)) (next_of (w.shape.pool (target_pool q (act_of q x))) q x (r.0))

-- the pieces that a place deals are no tokens
no_tokens : (w : World) (q : Party) (x : Place) (c : Pieces) (r : Seen × Part) → SaysPieces w c → Static (place_part w q x) r → NoTokens (put w.job (job_at w q (act_of q x)) (r.1.job)) c
no_tokens w q x c r s st = λ t z. put_same (λ j. j.kind) w.job (job_at w q (act_of q x)) (r.1.job) t st.kind ∙ (s t z).kind

push_deals : (w : World) (q : Party) (c : Pieces) (r : Seen × Part) → SaysPieces w c → Static (place_part w q (PushForAll c)) r → (e : Seen) → Deals (put w.job (job_at w q (act_of q (PushForAll c))) (r.1.job)) (next_of (w.shape.pool (target_pool q (act_of q (PushForAll c)))) q (PushForAll c) e)
push_deals w q c r s st Done = no_tokens w q (PushForAll c) c r s st
push_deals w q c r s st _ = tt

gather_deals : (w : World) (q : Party) (g : Gathering) (r : Seen × Part) → SaysPieces w g.pieces → Static (place_part w q (DealPieces g)) r → (e : Seen) → Deals (put w.job (job_at w q (act_of q (DealPieces g))) (r.1.job)) (next_of (w.shape.pool (target_pool q (act_of q (DealPieces g)))) q (DealPieces g) e)
gather_deals w q g r s st Done = no_tokens w q (DealPieces g) g.pieces r s st
gather_deals w q g r s st _ = tt

go_deals : (w : World) (q : Party) (x : Place) → Says w q x → IfSome (effect (act_of q x) w.shape q (counts_at w (target_pool q (act_of q x))) (place_part w q x)) (λ r. Deals (put w.job (job_at w q (act_of q x)) (r.1.job)) (next_of (w.shape.pool (target_pool q (act_of q x))) q x (r.0)))
go_deals w q (PushForAll c) s = if_some_map (Static (place_part w q (PushForAll c))) (λ r. Deals (put w.job (job_at w q (act_of q (PushForAll c))) (r.1.job)) (next_of (w.shape.pool (target_pool q (act_of q (PushForAll c)))) q (PushForAll c) (r.0))) (λ r st. push_deals w q c r (s.0) st (r.0)) _ (act_static w.shape q (counts_at w (target_pool q (act_of q (PushForAll c)))) (place_part w q (PushForAll c)) (PushForAll c))
go_deals w q (DealPieces g) s = if_some_map (Static (place_part w q (DealPieces g))) (λ r. Deals (put w.job (job_at w q (act_of q (DealPieces g))) (r.1.job)) (next_of (w.shape.pool (target_pool q (act_of q (DealPieces g)))) q (DealPieces g) (r.0))) (λ r st. gather_deals w q g r s.pieces st (r.0)) _ (act_static w.shape q (counts_at w (target_pool q (act_of q (DealPieces g)))) (place_part w q (DealPieces g)) (DealPieces g))
go_deals w q x s = if_some_map (λ r. is_dealing (next_of (w.shape.pool (target_pool q (act_of q x))) q x (r.0)) ≡ false) (λ r. Deals (put w.job (job_at w q (act_of q x)) (r.1.job)) (next_of (w.shape.pool (target_pool q (act_of q x))) q x (r.0))) (λ r z. quiet_deals (put w.job (job_at w q (act_of q x)) (r.1.job)) (next_of (w.shape.pool (target_pool q (act_of q x))) q x (r.0)) z) _ (no_deals w.shape (w.shape.pool (target_pool q (act_of q x))) q (counts_at w (target_pool q (act_of q x))) (place_part w q x) x refl)

-- an act, for each job
old_less : (w : World) (q : Party) (x : Place) (fs : List Place) (r : Seen × Part) → Fairly w q x r → (p j : ℕ) (v : Option ℕ) (t : ℕ) → (t == job_at w q (act_of q x)) ≡ false → live p j v ((world_after w q x fs r).job t) ≤ live p j v (w.job t)
old_less w q x fs r f p j v t e =
    let g : Move = next_of (w.shape.pool (target_pool q (act_of q x))) q x (r.0) in
    let a : live p j v ((world_after w q x fs r).job t) ≤ live p j v (put w.job (job_at w q (act_of q x)) (r.1.job) t) = after_less p j v q g (put w.job (job_at w q (act_of q x)) (r.1.job)) t (f.1) in
    let b : live p j v (put w.job (job_at w q (act_of q x)) (r.1.job) t) ≡ live p j v (w.job t) = ap (live p j v) (put_old w.job (job_at w q (act_of q x)) (r.1.job) t e) in omega (arith, a, b)

new_less : (w : World) (q : Party) (x : Place) (fs : List Place) (r : Seen × Part) → Fairly w q x r → (p j : ℕ) (v : Option ℕ) → live p j v ((world_after w q x fs r).job (job_at w q (act_of q x))) ≤ live p j v (w.job (job_at w q (act_of q x))) + up q x p j v
new_less w q x fs r f p j v =
    let g : Move = next_of (w.shape.pool (target_pool q (act_of q x))) q x (r.0) in
    let n : ℕ = job_at w q (act_of q x) in
    let a : live p j v ((world_after w q x fs r).job n) ≤ live p j v (put w.job n (r.1.job) n) = after_less p j v q g (put w.job n (r.1.job)) n (f.1) in
    let b : live p j v (put w.job n (r.1.job) n) ≡ live p j v (r.1.job) = ap (live p j v) (put_new w.job n (r.1.job)) in
    let c : live p j v (r.1.job) ≤ live p j v (w.job n) + up q x p j v = (f.0).job p j v in omega (arith, a, b, c)

-- and for their sum
act_sum : (w : World) (q : Party) (x : Place) (fs : List Place) (r : Seen × Part) → Fairly w q x r → (p j : ℕ) (v : Option ℕ) (n : ℕ) → sum_below n (λ t. live p j v ((world_after w q x fs r).job t)) ≤ sum_below n (λ t. live p j v (w.job t)) + up q x p j v
act_sum w q x fs r f p j v n = sum_put n (λ t. live p j v (w.job t)) (λ t. live p j v ((world_after w q x fs r).job t)) (job_at w q (act_of q x)) (up q x p j v) (λ t e. old_less w q x fs r f p j v t e) (new_less w q x fs r f p j v)

up_most : (q : Party) (x : Place) (p j : ℕ) (v : Option ℕ) → up q x p j v ≤ one (pushes v x)
up_most q x p j v = by (pushes v x) ((p == own_pool q) && (j == own_index q))
  where
    by : (a b : Bool) → one (a && b) ≤ one a
    by true true = omega arith
    by true false = omega arith
    by false b = omega arith

up_other : (q : Party) (x : Place) (p j : ℕ) (v : Option ℕ) → ((p == target_pool q (act_of q x)) && (j == target_worker q (act_of q x))) ≡ false → up q x p j v ≡ 0
up_other (Worker a b) (PushToken f t) p j v e = ap (λ z. one (same_list v (count_book f.count) && z)) e ∙ ap one (and_false (same_list v (count_book f.count)))
up_other (Caller c) (PushToken f t) p j v e = ap (λ z. one (same_list v (count_book f.count) && z)) e ∙ ap one (and_false (same_list v (count_book f.count)))
up_other q _ p j v e = refl

-- the seat of which an act touches a list, if it touches one
abbrev there : Party → Place → ℕ × ℕ
there q x = (target_pool q (act_of q x), target_worker q (act_of q x))

-- the tokens of a list of that seat, and its holder, after an act
abbrev Stocked : World → Party → Place → List Place → Seen × Part → Option ℕ → ℕ → Type 0
Stocked w q x fs r v n = sum_below n (λ t. live ((there q x).0) ((there q x).1) v ((world_after w q x fs r).job t)) + one (is_held (r.1.seat.feeder v)) ≤ length (r.1.seat.fifo v)

plain_stocks : (w : World) (q : Party) (x : Place) (fs : List Place) (r : Seen × Part) → StocksHold w → Fairly w q x r → (v : Option ℕ) → draws v x ≡ 0 → (n : ℕ) → Stocked w q x fs r v n
plain_stocks w q x fs r h f v z n =
    let p : ℕ = target_pool q (act_of q x) in let j : ℕ = target_worker q (act_of q x) in
    let a : sum_below n (λ t. live p j v ((world_after w q x fs r).job t)) ≤ sum_below n (λ t. live p j v (w.job t)) + up q x p j v = act_sum w q x fs r f p j v n in
    let b : sum_below n (λ t. live p j v (w.job t)) + one (is_held ((w.seat p j).feeder v)) ≤ length ((w.seat p j).fifo v) = h.stocks p j v n in
    let c : (one (is_held (r.1.seat.feeder v)) + length ((w.seat p j).fifo v)) + one (pushes v x) ≤ (one (is_held ((w.seat p j).feeder v)) + length (r.1.seat.fifo v)) + draws v x = (f.0).list v in
    let d : up q x p j v ≤ one (pushes v x) = up_most q x p j v in omega (arith, a, b, c, d, z)

token_at : (q : Party) (k i : ℕ) (b : Option ℕ) → (target_pool q (act_of q (BeginTask (Token k i b))) ≡ own_pool q) × (target_worker q (act_of q (BeginTask (Token k i b))) ≡ i)
token_at (Worker a b) k i l = (refl, refl)
token_at (Caller c) k i l = (refl, refl)

drawn_less : (w : World) (q : Party) (x : Place) (fs : List Place) (r : Seen × Part) → is_pushing x ≡ false → Fairly w q x r → (p j : ℕ) (v : Option ℕ) (t : ℕ) → live p j v ((world_after w q x fs r).job t) ≤ live p j v (w.job t)
drawn_less w q x fs r z f p j v t = elim (either (t == job_at w q (act_of q x))) [
  | inl y ↦ subst (λ n. live p j v ((world_after w q x fs r).job n) ≤ live p j v (w.job n)) (sym (eqb-true t (job_at w q (act_of q x)) y))
      (let a : live p j v ((world_after w q x fs r).job (job_at w q (act_of q x))) ≤ live p j v (w.job (job_at w q (act_of q x))) + up q x p j v = new_less w q x fs r f p j v in let b : up q x p j v ≡ 0 = none in omega (arith, a, b))
  | inr y ↦ old_less w q x fs r f p j v t y
]
  where
    none : up q x p j v ≡ 0
    none = ap (λ b. one (b && ((p == own_pool q) && (j == own_index q)))) (no_pushes v x z)

-- the list from which a token's job is drawn
drawn_stocks : (w : World) (q : Party) (k i : ℕ) (b : Option ℕ) (fs : List Place) (r : Seen × Part) → w.stack q ≡ record { top = BeginTask (Token k i b); below = fs } → StocksHold w → Fairly w q (BeginTask (Token k i b)) r → (n : ℕ) → Stocked w q (BeginTask (Token k i b)) fs r b n
drawn_stocks w q k i b fs r e h f n =
    let x : Place = BeginTask (Token k i b) in
    let p : ℕ = target_pool q (act_of q x) in let j : ℕ = target_worker q (act_of q x) in
    let was : live p j b (w.job k) ≡ 1 = subst (λ a. live a j b (w.job k) ≡ 1) (sym ((token_at q k i b).0)) (subst (λ d. live (own_pool q) d b (w.job k) ≡ 1) (sym ((token_at q k i b).1)) (token_live w q k i b fs e (once w ((h.calls).jobs)) (top_says w q x fs h.calls e))) in
    let now : live p j b ((world_after w q x fs r).job k) ≡ 0 = begin_spends p j b q k i b (r.0) (put w.job (job_at w q (act_of q x)) (r.1.job)) in
    let a : sum_below n (λ t. live p j b ((world_after w q x fs r).job t)) ≤ sum_below (suc k + n) (λ t. live p j b ((world_after w q x fs r).job t)) = sum_up (suc k) n (λ t. live p j b ((world_after w q x fs r).job t)) in
    let d : sum_below (suc k + n) (λ t. live p j b ((world_after w q x fs r).job t)) + 1 ≤ sum_below (suc k + n) (λ t. live p j b (w.job t)) = sum_less (suc k + n) (λ t. live p j b (w.job t)) (λ t. live p j b ((world_after w q x fs r).job t)) k (omega arith) (λ t. drawn_less w q x fs r refl f p j b t) (omega (arith, was, now)) in
    let c : sum_below (suc k + n) (λ t. live p j b (w.job t)) + one (is_held ((w.seat p j).feeder b)) ≤ length ((w.seat p j).fifo b) = h.stocks p j b (suc k + n) in
    let g : (one (is_held (r.1.seat.feeder b)) + length ((w.seat p j).fifo b)) + 0 ≤ (one (is_held ((w.seat p j).feeder b)) + length (r.1.seat.fifo b)) + one (same_list b b) = (f.0).list b in
    let one_at : one (same_list b b) ≡ 1 = ap one (same_list_refl b) in omega (arith, a, d, c, g, one_at)

token_stocks : (w : World) (q : Party) (k i : ℕ) (b : Option ℕ) (fs : List Place) (r : Seen × Part) → w.stack q ≡ record { top = BeginTask (Token k i b); below = fs } → StocksHold w → Fairly w q (BeginTask (Token k i b)) r → (v : Option ℕ) (n : ℕ) → Stocked w q (BeginTask (Token k i b)) fs r v n
token_stocks w q k i b fs r e h f v n = by (same_list v b) refl
  where
    by : (z : Bool) → same_list v b ≡ z → Stocked w q (BeginTask (Token k i b)) fs r v n
    by true z = subst (λ c. Stocked w q (BeginTask (Token k i b)) fs r c n) (sym (same_list_true v b z)) (drawn_stocks w q k i b fs r e h f n)
    by false z = plain_stocks w q (BeginTask (Token k i b)) fs r h f v (ap one z) n

own_stocks : (w : World) (q : Party) (x : Place) (fs : List Place) (r : Seen × Part) → w.stack q ≡ record { top = x; below = fs } → StocksHold w → Fairly w q x r → (v : Option ℕ) (n : ℕ) → Stocked w q x fs r v n
own_stocks w q (BeginTask (Token k i b)) fs r e h f v n = token_stocks w q k i b fs r e h f v n
own_stocks w q x fs r e h f v n = plain_stocks w q x fs r h f v refl n

act_stocks : (w : World) (q : Party) (x : Place) (fs : List Place) (r : Seen × Part) → w.stack q ≡ record { top = x; below = fs } → StocksHold w → Fairly w q x r → Stocks (world_after w q x fs r)
act_stocks w q x fs r e h f p j v n = by ((p == p0) && (j == i0)) refl
  where
    p0 : ℕ
    p0 = target_pool q (act_of q x)

    i0 : ℕ
    i0 = target_worker q (act_of q x)

    by : (b : Bool) → ((p == p0) && (j == i0)) ≡ b → sum_below n (λ t. live p j v ((world_after w q x fs r).job t)) + one (is_held ((if b then r.1.seat else w.seat p j).feeder v)) ≤ length ((if b then r.1.seat else w.seat p j).fifo v)
    by true y = let i : (p ≡ p0) × (j ≡ i0) = same_index p j p0 i0 y in
        subst (λ a. sum_below n (λ t. live a j v ((world_after w q x fs r).job t)) + one (is_held (r.1.seat.feeder v)) ≤ length (r.1.seat.fifo v)) (sym (i.0)) (subst (λ b. sum_below n (λ t. live p0 b v ((world_after w q x fs r).job t)) + one (is_held (r.1.seat.feeder v)) ≤ length (r.1.seat.fifo v)) (sym (i.1)) (own_stocks w q x fs r e h f v n))
    by false y =
        let a : sum_below n (λ t. live p j v ((world_after w q x fs r).job t)) ≤ sum_below n (λ t. live p j v (w.job t)) + up q x p j v = act_sum w q x fs r f p j v n in
        let b : sum_below n (λ t. live p j v (w.job t)) + one (is_held ((w.seat p j).feeder v)) ≤ length ((w.seat p j).fifo v) = h.stocks p j v n in
        let c : up q x p j v ≡ 0 = up_other q x p j v y in omega (arith, a, b, c)

go_stocks : (w : World) (q : Party) → StocksHold w → IfSome (outcome w q (w.stack q)) (λ r. Stocks (result w q (w.stack q) r))
go_stocks w q h = if_some_map (Fairly w q ((w.stack q).top)) (λ r. Stocks (result w q (w.stack q) r)) (λ r f. act_stocks w q ((w.stack q).top) ((w.stack q).below) r refl h f) (outcome w q (w.stack q))
    (if_some_and (Fair q ((w.stack q).top) (place_part w q ((w.stack q).top))) (λ r. Deals (put w.job (job_at w q (act_of q ((w.stack q).top))) (r.1.job)) (next_of (w.shape.pool (target_pool q (act_of q ((w.stack q).top)))) q ((w.stack q).top) (r.0))) (outcome w q (w.stack q)) (act_fair w q ((w.stack q).top) (once w ((h.calls).jobs)) (((h.calls).says q).top) (λ p i f e z. held p i f e z)) (go_deals w q ((w.stack q).top) (((h.calls).says q).top)))
  where
    held : (p i : ℕ) (f : Feeding) → q ≡ Worker p i → waits ((w.stack q).top) ≡ Some f → (w.seat p i).feeder (count_book f.count) ≡ Some (Worker p i)
    held p i f e z = ((h.feeders).feeds p i f (ap (λ g. waits ((w.stack g).top)) (sym e) ∙ z)).0

-- an event that is no act makes no more of them, and leaves the lists
abbrev pub Fades : World → World → Type 0
Fades w u = ((p j : ℕ) (v : Option ℕ) (t : ℕ) → live p j v (u.job t) ≤ live p j v (w.job t)) × ((p j : ℕ) → u.seat p j ≡ w.seat p j)

fade_stocks : (w u : World) → Stocks w → Fades w u → Stocks u
fade_stocks w u h f p j v n =
    let a : sum_below n (λ t. live p j v (u.job t)) ≤ sum_below n (λ t. live p j v (w.job t)) = sum_least_of n (λ t. live p j v (w.job t)) (λ t. live p j v (u.job t)) (λ t l. f.0 p j v t) in
    let b : sum_below n (λ t. live p j v (w.job t)) + one (is_held ((w.seat p j).feeder v)) ≤ length ((w.seat p j).fifo v) = h p j v n in
    subst (λ s. sum_below n (λ t. live p j v (u.job t)) + one (is_held (s.feeder v)) ≤ length (s.fifo v)) (sym (f.1 p j)) (omega (arith, a, b))

new_less_job : (p j : ℕ) (v : Option ℕ) (f : ℕ → Job) (n : ℕ) (q : Party) (a : ℕ) (k : JobKind) (t : ℕ) → live p j v (put f n (new_job q a k) t) ≤ live p j v (f t)
new_less_job p j v f n q a k t = put_less p j v f n (new_job q a k) t (off_less p j v (new_job q a k) (live p j v (f n)) refl)

two_less_jobs : (p j : ℕ) (v : Option ℕ) (f : ℕ → Job) (n : ℕ) (q : Party) (a : ℕ) (k l : JobKind) (t : ℕ) → live p j v (put (put f n (new_job q a k)) (n + 1) (new_job q a l) t) ≤ live p j v (f t)
two_less_jobs p j v f n q a k l t =
    let x : live p j v (put (put f n (new_job q a k)) (n + 1) (new_job q a l) t) ≤ live p j v (put f n (new_job q a k) t) = new_less_job p j v (put f n (new_job q a k)) (n + 1) q a l t in
    let y : live p j v (put f n (new_job q a k) t) ≤ live p j v (f t) = new_less_job p j v f n q a k t in omega (arith, x, y)

-- a broadcast begins, and a spawn in order
new_less_pieces : (p j : ℕ) (v : Option ℕ) (f : ℕ → Job) (c : Pieces) (q : Party) (k : Count) (r t : ℕ) (b : Bool) → live p j v (if b then new_piece q k r (t - c.first) else f t) ≤ live p j v (f t)
new_less_pieces p j v f c q k r t true = off_less p j v (new_piece q k r (t - c.first)) (live p j v (f t)) refl
new_less_pieces p j v f c q k r t false = omega arith

deal_fades : (w : World) (q : Party) (k : Count) (r : ℕ) → Fades w (after_deal w q k r (w.stack q))
deal_fades w q k r = (λ p j v t. new_less_pieces p j v w.job c q k r t (is_piece c t), λ p j. refl)
  where
    c : Pieces
    c = record { count = k; pool = r; first = w.jobs; workers = (w.shape.pool r).workers }

feed_fades : (w : World) (k : Count) (r i : ℕ) → Fades w (after_feed w k r i (w.stack (Worker r i)))
feed_fades w k r i = (λ p j v t. two_less_jobs p j v w.job w.jobs (Worker r i) r (count_kind k) (TokenOf i (count_book k)) t, λ p j. refl)

gather_fades : (w : World) (q : Party) (r : ℕ) → Fades w (after_gather w q r (w.stack q))
gather_fades w q r = (λ p j v t. whole p j v t, λ p j. refl)
  where
    c : Pieces
    c = record { count = OfCast w.calls q; pool = r; first = w.jobs; workers = (w.shape.pool r).workers }

    f : ℕ → Job
    f = put_pieces c (λ i j. new_piece q c.count r i) w.job

    whole : (p j : ℕ) (v : Option ℕ) (t : ℕ) → live p j v (put f (w.jobs + c.workers) (new_whole q r w.calls) t) ≤ live p j v (w.job t)
    whole p j v t =
        let a : live p j v (put f (w.jobs + c.workers) (new_whole q r w.calls) t) ≤ live p j v (f t) = put_less p j v f (w.jobs + c.workers) (new_whole q r w.calls) t (off_less p j v (new_whole q r w.calls) (live p j v (f (w.jobs + c.workers))) refl) in
        let b : live p j v (f t) ≤ live p j v (w.job t) = new_less_pieces p j v w.job c q c.count r t (is_piece c t) in omega (arith, a, b)

sent_fades : (w : World) (q : Party) (r : ℕ) (b : Bool) → Fades w (after_send w q r (w.stack q) b)
sent_fades w q r true = (λ p j v t. new_less_job p j v w.job w.jobs q r Direct t, λ p j. refl)
sent_fades w q r false = (λ p j v t. new_less_job p j v w.job w.jobs q r (Stored w.calls q) t, λ p j. refl)

pub event_fades : (w : World) (e : Event) → is_act e ≡ false → IfSome (step w e) (Fades w)
event_fades w = event_cases (Fades w) w (record {
  turned = λ q t fs z. same;
  ended = λ q d u c fs z. (λ p j v t. put_less p j v w.job u (at_job (w.job u) (Over d)) t (off_less p j v (at_job (w.job u) (Over d)) (live p j v (w.job u)) refl), λ p j. refl);
  spawned = λ q r f. (λ p j v t. new_less_job p j v w.job w.jobs q r (Detached r) t, λ p j. refl);
  fed = λ r i f. feed_fades w (OfPool r) r i;
  dealt = λ q r f. deal_fades w q (OfPool r) r;
  sent = λ q r b e f. sent_fades w q r b;
  joined = λ a b f. (λ p j v t. two_less_jobs p j v w.job w.jobs (Worker a b) a Direct (Stored w.calls (Worker a b)) t, λ p j. refl);
  scoped = λ q r f. (λ p j v t. new_less_job p j v w.job w.jobs q r (BodyOf w.calls q) t, λ p j. refl);
  entered = λ q z k. (λ p j v t. new_less_job p j v w.job w.jobs q z.pool (Scoped z.call z.owner) t, λ p j. refl);
  fed_into = λ i z k. feed_fades w (OfScope z.call z.owner) z.pool i;
  dealt_into = λ q z k. deal_fades w q (OfScope z.call z.owner) z.pool;
  gathered = λ q r f. gather_fades w q r;
  yielded = λ p i f. same;
  yielded_local = λ p i f. same;
  given = λ q r f held. same;
})
  where
    same : ((p j : ℕ) (v : Option ℕ) (t : ℕ) → live p j v (w.job t) ≤ live p j v (w.job t)) × ((p j : ℕ) → w.seat p j ≡ w.seat p j)
    same = (λ p j v t. omega arith, λ p j. refl)

step_sums : (w : World) (e : Event) → StocksHold w → IfSome (step w e) Stocks
step_sums w (Go q) h = acted_keeps w q (w.stack q) (target_pool q (act_of q ((w.stack q).top))) (target_worker q (act_of q ((w.stack q).top))) (target_call (act_of q ((w.stack q).top))) (job_at w q (act_of q ((w.stack q).top))) (outcome w q (w.stack q)) Stocks (go_stocks w q h)
step_sums w e h = if_some_map (Fades w) Stocks (λ u g. fade_stocks w u h.stocks g) (step w e) (event_fades w e refl)

pub step_stocks : (w : World) (e : Event) → StocksHold w → IfSome (step w e) StocksHold
step_stocks w e h = if_some_map (λ u. CallsHold u × (FeedersHold u × Stocks u)) StocksHold (λ u k. record { calls = k.0; feeders = (k.1).0; stocks = (k.1).1 }) (step w e)
    (if_some_and CallsHold (λ u. FeedersHold u × Stocks u) (step w e) (step_calls w e h.calls) (if_some_and FeedersHold Stocks (step w e) (step_feeders w e h.feeders) (step_sums w e h)))

-- in the first world there is none
first_none : (n p j : ℕ) (v : Option ℕ) → sum_below n (λ t. live p j v blank_job) ≡ 0
first_none zero p j v = refl
first_none (suc n) p j v = let a : sum_below n (λ t. live p j v blank_job) ≡ 0 = first_none n p j v in omega (arith, a)

pub first_stocks : (h : Shape) → StocksHold (start h)
first_stocks h = record { calls = first_calls h; feeders = first_feeders h; stocks = λ p j v n. (let a : sum_below n (λ t. live p j v blank_job) ≡ 0 = first_none n p j v in omega (arith, a)) }

pub always_stocks : (h : Shape) (es : List Event) (w : World) → IsRun (start h) es w → StocksHold w
always_stocks h es w r = run_keeps StocksHold step_stocks (start h) w es (first_stocks h) r

-- a token is redeemed where it begins
out_place : (q : Party) (x : Place) (k i : ℕ) (l : Option ℕ) → act_of q x ≡ FifoOut k i l → x ≡ BeginTask (Token k i l)
out_place (Worker a b) (BeginTask (Token m j d)) k i l e = cc
out_place (Caller c) (BeginTask (Token m j d)) k i l e = cc
out_place q (PushJob n v) k i l e = absurd (by (is_member q (plan_pool n)) (pushed q e))
  where
    pushed : (q : Party) → act_of q (PushJob n v) ≡ FifoOut k i l → push_act q (plan_pool n) (plan_job n) (plan_book n) ≡ FifoOut k i l
    pushed (Worker a b) d = d
    pushed (Caller c) d = d

    by : (z : Bool) → (if z then PushOwn (plan_job n) (plan_book n) else PushInj (plan_pool n) (plan_job n) (plan_book n)) ≡ FifoOut k i l → ⊥
    by true d = cc
    by false d = cc
out_place q (LookQueue n) k i l e = absurd (by (is_member q (plan_pool n)) (looked q e))
  where
    looked : (q : Party) → act_of q (LookQueue n) ≡ FifoOut k i l → look_act q (plan_pool n) ≡ FifoOut k i l
    looked (Worker a b) d = d
    looked (Caller c) d = d

    by : (z : Bool) → (if z then LookOwn else LookInj (plan_pool n)) ≡ FifoOut k i l → ⊥
    by true d = cc
    by false d = cc
out_place (Worker a b) _ k i l e = absurd (cc)
out_place (Caller c) _ k i l e = absurd (cc)

pub redeems : (w : World) → StocksHold w → IsRedeemed w
redeems w h q k i l e empty =
    let at : (w.stack q).top ≡ BeginTask (Token k i l) = out_place q ((w.stack q).top) k i l e in
    let a : live (own_pool q) i l (w.job k) ≡ 1 = token_live w q k i l ((w.stack q).below) (whole (w.stack q) at) (once w ((h.calls).jobs)) (subst (Says w q) at (((h.calls).says q).top)) in
    let b : sum_below (suc k) (λ t. live (own_pool q) i l (w.job t)) + one (is_held ((w.seat (own_pool q) i).feeder l)) ≤ length ((w.seat (own_pool q) i).fifo l) = h.stocks (own_pool q) i l (suc k) in
    let c : live (own_pool q) i l (w.job k) ≤ sum_below (suc k) (λ t. live (own_pool q) i l (w.job t)) = sum_least (suc k) (λ t. live (own_pool q) i l (w.job t)) k (omega arith) in
    let d : length ((w.seat (own_pool q) i).fifo l) ≡ 0 = ap length empty in omega (arith, a, b, c, d)
  where
    whole : (s : Stack) → s.top ≡ BeginTask (Token k i l) → s ≡ record { top = BeginTask (Token k i l); below = s.below }
    whole s y = ap (λ x. record { top = x; below = s.below }) y
