-- a FIFO list has a job for each token that is queued or in hand: what each act does to the two
use Rattle.std.proofs.Common.{arith, refl, sym, ◌∙◌, ap, subst, inl, inr}
use Rattle.std.specs.Prelude.{ℕ, Bool, true, false, ◌&&◌, ◌+◌, ◌==◌, ◌≤◌, if◌then◌else◌, Option, Some, None, List, [], ◌∷◌, ◌++◌, ◌≡◌, IfSome, length}
use Rattle.std.proofs.lemmas.Bool.{eqb-true, eq-eqb}
use Rattle.std.proofs.lemmas.List.{length-append}
use Rattle.rayon_machine_places.specs.declared.place.Count.{Count}
use Rattle.rayon_machine_places.specs.declared.place.Count.TheVariants.{OfPool, OfScope, OfCast}
use Rattle.rayon_machine_places.specs.declared.place.Place.TheVariants.{AddToFifo, BeginHere, BeginTask, JoinPop, JoinTakeCast, LocalPop, LocalTakeCast, PopIdle, PopInjected, PopWorking, PushJob, PushToken, StealFrom, TakeCastIdle, TakeCastWorking, TakeFromFifo, YieldPop, YieldPopInjected, YieldSteal, YieldTakeCast, PushForAll, DealPieces}
use Rattle.rayon_machine_places.specs.declared.place.Party.TheVariants.{Caller, Worker}
use Rattle.rayon_machine_places.specs.Sleepers.{Counts}
use Rattle.rayon_machine_runs.specs.World.{Part, Shape, World, at_job, begun, but_first, but_last, counts_at, effect, fifo_in, fifo_out, fifo_undo, head_of, is_open, last_of, left_by, put_list, same_list, own_left, own_of, pop_injector, popped, take_cast}
use Rattle.rayon_machine_places.specs.Targets.{or_none, target_call, target_pool, target_worker}
use Rattle.rayon_machine_places.specs.declared.place.Plan.TheVariants.{Detach, Feed, Fork, Here, Send, Open, Enter, Gather}
use Rattle.rayon_machine_places.specs.declared.place.Feeding.{Feeding}
use Rattle.rayon_machine_runs.specs.declared.state.Whereabouts.TheVariants.{InDeque, InFifo, Injected, Retaken, Running, InCast}
use Rattle.rayon_machine_laws.specs.Once.{IsOnce, in_deque, in_injector, one, times, in_cast}
use Rattle.rayon_machine_runs.specs.declared.state.Job.{Job}
use Rattle.rayon_machine_places.specs.declared.place.JobKind.{JobKind}
use Rattle.rayon_machine_places.specs.declared.act.Seen.TheVariants.{Missing}
use Rattle.rayon_machine_places.specs.declared.shape.Order.{Order}
use Rattle.rayon_machine_places.specs.declared.place.Party.{Party}
use Rattle.rayon_machine_places.specs.declared.place.Place.{Place}
use Rattle.rayon_machine_places.specs.declared.place.Taken.TheVariants.{Plain, Token}
use Rattle.rayon_machine_places.specs.declared.place.Plan.{Plan}
use Rattle.rayon_machine_places.specs.declared.act.Act.TheVariants.{PushInj, PushOwn}
use Rattle.rayon_machine_laws.proofs.Lists.{SameJobs, moves_no_job, quiet_same, times_first, times_own}
use Rattle.rayon_machine_laws.proofs.Claims.{call_kind, Says, SaysPlan, queue_plan}
use Rattle.rayon_machine_places.specs.declared.act.Seen.{Seen}
use Rattle.rayon_machine_laws.proofs.Later.{Static, act_static}
use Rattle.rayon_machine_places.specs.declared.place.JobKind.TheVariants.{TokenOf}
use Rattle.rayon_machine_runs.specs.declared.state.Whereabouts.{Whereabouts}
use Rattle.rayon_machine_places.specs.Places.{act_of, count_book, count_kind, is_member, own_index, own_pool, plan_job, plan_pool, same_party, plan_book}
use Rattle.rayon_machine_laws.proofs.Located.{and_false}
use Rattle.rayon_machine_laws.proofs.Frame.{either, if_cond, if_some_and, if_some_map, out_sees, same_index, same_list_true, same_party_refl, undo_sees}
use Rattle.rayon_machine_laws.proofs.Feeders.{list_at, waits}
use Rattle.rayon_machine_laws.proofs.Ties.{job_at}
use Rattle.rayon_machine_laws.proofs.Placed.{outcome_of}
use Rattle.rayon_machine_runs.specs.Steps.{part_of}
use Rattle.rayon_machine_laws.proofs.ClaimRuns.{place_part}

-- a job is a token of this worker and this list
abbrev pub token_of : ℕ → Option ℕ → JobKind → Bool
token_of j v (TokenOf i b) = (j == i) && same_list v b
token_of j v _ = false

-- it is queued at this pool, or in the hand of a party of it that has taken it
abbrev pub at_pool : ℕ → Whereabouts → ℕ → Bool
at_pool p (InDeque r i) n = p == r
at_pool p (Injected r) n = p == r
at_pool p (InCast r i) n = p == r
at_pool p (Running q) n = (p == own_pool q) && (n == 0)
at_pool p _ n = false

-- 1 where a job is a token that this worker's FIFO list has a job for
abbrev pub live : ℕ → ℕ → Option ℕ → Job → ℕ
live p j v t = one (token_of j v t.kind && at_pool p t.at t.runs)

abbrev pub is_held : Option Party → Bool
is_held None = false
is_held (Some q) = true

-- a token is pushed
abbrev pub is_pushing : Place → Bool
is_pushing (PushToken f t) = true
is_pushing _ = false

-- a token of this list is pushed, or redeemed
abbrev pub pushes : Option ℕ → Place → Bool
pushes v (PushToken f t) = same_list v (count_book f.count)
pushes v _ = false

abbrev pub draws : Option ℕ → Place → ℕ
draws v (BeginTask (Token k i b)) = one (same_list v b)
draws v _ = 0

abbrev pub up : Party → Place → ℕ → ℕ → Option ℕ → ℕ
up q x p j v = one (pushes v x && ((p == own_pool q) && (j == own_index q)))

-- no act makes more tokens, but the push of one, nor shortens a list, but where a token or the list's holder goes
pub record Fair (q : Party) (x : Place) (m : Part) (r : Seen × Part) : Type 0 where
  pub job : (p j : ℕ) (v : Option ℕ) → live p j v r.1.job ≤ live p j v m.job + up q x p j v
  pub list : (v : Option ℕ) → (one (is_held (r.1.seat.feeder v)) + length (m.seat.fifo v)) + one (pushes v x) ≤ (one (is_held (m.seat.feeder v)) + length (r.1.seat.fifo v)) + draws v x

pub no_pushes : (v : Option ℕ) (x : Place) → is_pushing x ≡ false → pushes v x ≡ false
no_pushes v (PushToken f t) e = cc
no_pushes v _ e = refl

pub live_off : (p j : ℕ) (v : Option ℕ) (t : Job) → at_pool p t.at t.runs ≡ false → live p j v t ≡ 0
live_off p j v t e = ap (λ b. one (token_of j v t.kind && b)) e ∙ ap one (and_false (token_of j v t.kind))

pub live_none : (p j : ℕ) (v : Option ℕ) (t : Job) → token_of j v t.kind ≡ false → live p j v t ≡ 0
live_none p j v t e = ap (λ b. one (b && at_pool p t.at t.runs)) e

not_zero : (n : ℕ) → ((n + 1) == 0) ≡ false
not_zero n = elim (either ((n + 1) == 0)) [ inl y ↦ absurd (let a : n + 1 ≡ 0 = eqb-true (n + 1) 0 y in omega (arith, a)) | inr y ↦ y ]

pub begun_off : (p j : ℕ) (v : Option ℕ) (q : Party) (t : Job) → live p j v (begun q t) ≡ 0
begun_off p j v q t = live_off p j v (begun q t) (ap (λ b. (p == own_pool q) && b) (not_zero t.runs) ∙ and_false (p == own_pool q))

less : (a b z d : Bool) → d ≡ b → one (a && (b && z)) ≤ one (a && d)
less false b z d e = omega arith
less true false z d e = omega arith
less true true false d e = omega arith
less true true true d e = let k : one d ≡ 1 = ap one e in omega (arith, k)

taken_less : (p j : ℕ) (v : Option ℕ) (q : Party) (t : Job) → at_pool p t.at t.runs ≡ (p == own_pool q) → live p j v (at_job t (Running q)) ≤ live p j v t
taken_less p j v q t e = less (token_of j v t.kind) (p == own_pool q) (t.runs == 0) (at_pool p t.at t.runs) e

-- an act that is none of a token's
plain_fair : (q : Party) (x : Place) (m : Part) (r : Seen × Part) → is_pushing x ≡ false → ((p j : ℕ) (v : Option ℕ) → live p j v r.1.job ≤ live p j v m.job) → ((v : Option ℕ) → one (is_held (r.1.seat.feeder v)) + length (m.seat.fifo v) ≤ one (is_held (m.seat.feeder v)) + length (r.1.seat.fifo v)) → Fair q x m r
plain_fair q x m r n f s = record {
  job = λ p j v. (let a : live p j v r.1.job ≤ live p j v m.job = f p j v in omega (arith, a));
  list = λ v. (let a : one (is_held (r.1.seat.feeder v)) + length (m.seat.fifo v) ≤ one (is_held (m.seat.feeder v)) + length (r.1.seat.fifo v) = s v in let b : one (pushes v x) ≡ 0 = ap one (no_pushes v x n) in omega (arith, a, b));
}

still_fair : (q : Party) (x : Place) (m : Part) (e : Seen) → is_pushing x ≡ false → Fair q x m (e, m)
still_fair q x m e n = plain_fair q x m (e, m) n (λ p j v. omega arith) (λ v. omega arith)

-- a task is taken out of a queue of the own pool
pop_fair : (q : Party) (m : Part) (x : Place) (rest : List ℕ) (o : Option ℕ) → is_pushing x ≡ false → ((t : ℕ) → o ≡ Some t → (p : ℕ) → at_pool p m.job.at m.job.runs ≡ (p == own_pool q)) → IfSome (popped q m rest o) (Fair q x m)
pop_fair q m x rest None n f = still_fair q x m Missing n
pop_fair q m x rest (Some t) n f = plain_fair q x m _ n (λ p j v. taken_less p j v q m.job (f t refl p)) (λ v. omega arith)

inj_fair : (q : Party) (m : Part) (x : Place) (l : List ℕ) → is_pushing x ≡ false → ((t : ℕ) → head_of l ≡ Some t → (p : ℕ) → at_pool p m.job.at m.job.runs ≡ (p == own_pool q)) → IfSome (pop_injector q m l) (Fair q x m)
inj_fair q m x [] n f = still_fair q x m Missing n
inj_fair q m x (t ∷ ts) n f = plain_fair q x m _ n (λ p j v. taken_less p j v q m.job (f t refl p)) (λ v. omega arith)

cast_fair : (q : Party) (m : Part) (x : Place) (l : List ℕ) → is_pushing x ≡ false → ((t : ℕ) → head_of l ≡ Some t → (p : ℕ) → at_pool p m.job.at m.job.runs ≡ (p == own_pool q)) → IfSome (take_cast q m l) (Fair q x m)
cast_fair q m x [] n f = still_fair q x m Missing n
cast_fair q m x (t ∷ ts) n f = plain_fair q x m _ n (λ p j v. taken_less p j v q m.job (f t refl p)) (λ v. omega arith)

pub one_set : (b : Bool) → 1 ≤ one b → b ≡ true
one_set true k = refl
one_set false k = absurd (omega (arith, k))

deck_pool : (p r i : ℕ) (v : Whereabouts) (n : ℕ) → in_deque r i v ≡ true → at_pool p v n ≡ (p == r)
deck_pool p r i (InDeque s j) n e = let a : (r == s) && (i == j) ≡ true = e in let b : r ≡ s = (same_index r i s j a).0 in ap (λ z. p == z) (sym b)
deck_pool p r i _ n e = absurd (cc)

inj_pool : (p r : ℕ) (v : Whereabouts) (n : ℕ) → in_injector r v ≡ true → at_pool p v n ≡ (p == r)
inj_pool p r (Injected s) n e = ap (λ z. p == z) (sym (eqb-true r s e))
inj_pool p r _ n e = absurd (cc)

cast_pool : (p r i : ℕ) (v : Whereabouts) (n : ℕ) → in_cast r i v ≡ true → at_pool p v n ≡ (p == r)
cast_pool p r i (InCast s j) n e = let a : (r == s) && (i == j) ≡ true = e in let b : r ≡ s = (same_index r i s j a).0 in ap (λ z. p == z) (sym b)
cast_pool p r i _ n e = absurd (cc)

own_spot : (w : World) → IsOnce w → (b : Order) (a i t : ℕ) → own_of b (w.seat a i).own ≡ Some t → (p : ℕ) → at_pool p (w.job (or_none (own_of b (w.seat a i).own))).at (w.job (or_none (own_of b (w.seat a i).own))).runs ≡ (p == a)
own_spot w h b a i t e p = subst (λ o. at_pool p (w.job (or_none o)).at (w.job (or_none o)).runs ≡ (p == a)) (sym e) (deck_pool p a i (w.job t).at (w.job t).runs (one_set (in_deque a i (w.job t).at)
    (let d : times t (w.seat a i).own ≡ one (in_deque a i (w.job t).at) = h.deque a i t in let k : times t (w.seat a i).own ≡ (one (t == t) + times t (own_left b (w.seat a i).own)) = times_own b ((w.seat a i).own) t t e in let c : one (t == t) ≡ 1 = ap one (eq-eqb t t refl) in omega (arith, d, k, c))))

head_spot : (w : World) → IsOnce w → (a i t : ℕ) → head_of (w.seat a i).own ≡ Some t → (p : ℕ) → at_pool p (w.job (or_none (head_of (w.seat a i).own))).at (w.job (or_none (head_of (w.seat a i).own))).runs ≡ (p == a)
head_spot w h a i t e p = subst (λ o. at_pool p (w.job (or_none o)).at (w.job (or_none o)).runs ≡ (p == a)) (sym e) (deck_pool p a i (w.job t).at (w.job t).runs (one_set (in_deque a i (w.job t).at)
    (let d : times t (w.seat a i).own ≡ one (in_deque a i (w.job t).at) = h.deque a i t in let k : times t (w.seat a i).own ≡ (one (t == t) + times t (but_first (w.seat a i).own)) = times_first ((w.seat a i).own) t t e in let c : one (t == t) ≡ 1 = ap one (eq-eqb t t refl) in omega (arith, d, k, c))))

inj_spot : (w : World) → IsOnce w → (a t : ℕ) → head_of (w.pool a).injector ≡ Some t → (p : ℕ) → at_pool p (w.job (or_none (head_of (w.pool a).injector))).at (w.job (or_none (head_of (w.pool a).injector))).runs ≡ (p == a)
inj_spot w h a t e p = subst (λ o. at_pool p (w.job (or_none o)).at (w.job (or_none o)).runs ≡ (p == a)) (sym e) (inj_pool p a (w.job t).at (w.job t).runs (one_set (in_injector a (w.job t).at)
    (let d : times t (w.pool a).injector ≡ one (in_injector a (w.job t).at) = h.injector a t in let k : times t (w.pool a).injector ≡ (one (t == t) + times t (but_first (w.pool a).injector)) = times_first ((w.pool a).injector) t t e in let c : one (t == t) ≡ 1 = ap one (eq-eqb t t refl) in omega (arith, d, k, c))))

cast_spot : (w : World) → IsOnce w → (a i t : ℕ) → head_of ((w.pool a).casts i) ≡ Some t → (p : ℕ) → at_pool p (w.job (or_none (head_of ((w.pool a).casts i)))).at (w.job (or_none (head_of ((w.pool a).casts i)))).runs ≡ (p == a)
cast_spot w h a i t e p = subst (λ o. at_pool p (w.job (or_none o)).at (w.job (or_none o)).runs ≡ (p == a)) (sym e) (cast_pool p a i (w.job t).at (w.job t).runs (one_set (in_cast a i (w.job t).at)
    (let d : times t ((w.pool a).casts i) ≡ one (in_cast a i (w.job t).at) = h.cast a i t in let k : times t ((w.pool a).casts i) ≡ (one (t == t) + times t (but_first ((w.pool a).casts i))) = times_first ((w.pool a).casts i) t t e in let c : one (t == t) ≡ 1 = ap one (eq-eqb t t refl) in omega (arith, d, k, c))))

-- a push takes no list's holder away but the party itself
left_less : (q : Party) (o : Option Party) → one (is_held (left_by q o)) ≤ one (is_held o)
left_less q None = omega arith
left_less q (Some r) = by (same_party q r)
  where
    by : (z : Bool) → one (is_held (if z then None else Some r)) ≤ 1
    by true = omega arith
    by false = omega arith

left_list_less : (q : Party) (f : Option ℕ → Option Party) (b v : Option ℕ) → one (is_held (put_list f b (left_by q (f b)) v)) ≤ one (is_held (f v))
left_list_less q f b v = list_at (λ o. one (is_held o) ≤ one (is_held (f v))) f b (left_by q (f b)) v (λ i. subst (λ c. one (is_held (left_by q (f b))) ≤ one (is_held (f c))) (sym i) (left_less q (f b))) (omega arith)

call_no_token : (j : ℕ) (v : Option ℕ) (k : JobKind) (n : ℕ × Party) → call_kind k ≡ Some n → token_of j v k ≡ false
call_no_token j v (TokenOf i b) n e = cc
call_no_token j v _ n e = refl

pub count_no_token : (j : ℕ) (v : Option ℕ) (k : Count) → token_of j v (count_kind k) ≡ false
count_no_token j v (OfPool p) = refl
count_no_token j v (OfScope c o) = refl
count_no_token j v (OfCast c o) = refl

plan_no_token : (w : World) (q : Party) (n : Plan) (j : ℕ) (v : Option ℕ) → SaysPlan w q n → token_of j v (w.job (plan_job n)).kind ≡ false
plan_no_token w q (Detach p t) j v s = ap (token_of j v) (s.kind)
plan_no_token w q (Here p t) j v s = ap (token_of j v) (s.kind)
plan_no_token w q (Feed f) j v s = ap (token_of j v) ((s.0).kind) ∙ count_no_token j v f.count
plan_no_token w q (Send o) j v s = call_no_token j v ((w.job o.job).kind) (o.number, q) ((s.0).kind)
plan_no_token w q (Open o) j v s = call_no_token j v ((w.job o.job).kind) (o.number, q) ((s.0).kind)
plan_no_token w q (Enter e) j v s = ap (token_of j v) ((s.0).kind)
plan_no_token w q (Gather g) j v s = ap (token_of j v) (s.whole)
plan_no_token w q (Fork o a) j v s = call_no_token j v ((w.job o.job).kind) (o.number, q) ((s.0).kind)

push_fair : (w : World) (q : Party) (n : Plan) (e z : Bool) → SaysPlan w q n → IfSome (outcome_of w q (if z then PushOwn (plan_job n) (plan_book n) else PushInj (plan_pool n) (plan_job n) (plan_book n))) (Fair q (PushJob n e) (part_of w (target_pool q (if z then PushOwn (plan_job n) (plan_book n) else PushInj (plan_pool n) (plan_job n) (plan_book n))) (target_worker q (if z then PushOwn (plan_job n) (plan_book n) else PushInj (plan_pool n) (plan_job n) (plan_book n))) (target_call (if z then PushOwn (plan_job n) (plan_book n) else PushInj (plan_pool n) (plan_job n) (plan_book n))) (job_at w q (if z then PushOwn (plan_job n) (plan_book n) else PushInj (plan_pool n) (plan_job n) (plan_book n)))))
push_fair w q n e true s = plain_fair q (PushJob n e) (part_of w (own_pool q) (own_index q) (or_none (plan_book n)) (plan_job n)) _ refl
    (λ p j v. let a : live p j v (at_job (w.job (plan_job n)) (InDeque (own_pool q) (own_index q))) ≡ 0 = live_none p j v (at_job (w.job (plan_job n)) (InDeque (own_pool q) (own_index q))) (plan_no_token w q n j v s) in omega (arith, a))
    (λ v. let a : one (is_held (put_list ((w.seat (own_pool q) (own_index q)).feeder) (plan_book n) (left_by q ((w.seat (own_pool q) (own_index q)).feeder (plan_book n))) v)) ≤ one (is_held ((w.seat (own_pool q) (own_index q)).feeder v)) = left_list_less q ((w.seat (own_pool q) (own_index q)).feeder) (plan_book n) v in omega (arith, a))
push_fair w q n e false s = plain_fair q (PushJob n e) (part_of w (plan_pool n) (own_index q) (or_none (plan_book n)) (plan_job n)) _ refl
    (λ p j v. let a : live p j v (at_job (w.job (plan_job n)) (Injected (plan_pool n))) ≡ 0 = live_none p j v (at_job (w.job (plan_job n)) (Injected (plan_pool n))) (plan_no_token w q n j v s) in omega (arith, a))
    (λ v. omega arith)

turned : (a b d : Bool) → one ((a && b) && d) ≤ one (b && (d && a))
turned true true true = omega arith
turned true true false = omega arith
turned true false d = omega arith
turned false b d = omega arith

-- a token is pushed, and its pusher leaves the list
token_fair : (w : World) (a b : ℕ) (f : Feeding) (t : Bool) → (w.job f.token).kind ≡ TokenOf b (count_book f.count) → (w.seat a b).feeder (count_book f.count) ≡ Some (Worker a b) → IfSome (outcome_of w (Worker a b) (PushOwn f.token (count_book f.count))) (Fair (Worker a b) (PushToken f t) (part_of w a b (or_none (count_book f.count)) f.token))
token_fair w a b f t k s = record {
  job = λ p j v. (let c : one (token_of j v (w.job f.token).kind && (p == a)) ≤ one (same_list v l && ((p == a) && (j == b))) = subst (λ d. one (token_of j v d && (p == a)) ≤ one (same_list v l && ((p == a) && (j == b)))) (sym k) (turned (j == b) (same_list v l) (p == a)) in omega (arith, c));
  list = λ v. by v (same_list v l) refl;
}
  where
    l : Option ℕ
    l = count_book f.count

    feeder : Option ℕ → Option Party
    feeder = (w.seat a b).feeder

    gone : one (is_held (left_by (Worker a b) (Some (Worker a b)))) ≡ 0
    gone = let y : same_party (Worker a b) (Worker a b) ≡ true = same_party_refl (Worker a b) in rw y refl

    by : (v : Option ℕ) (z : Bool) → same_list v l ≡ z → (one (is_held (if z then left_by (Worker a b) (feeder l) else feeder v)) + length ((w.seat a b).fifo v)) + one z ≤ (one (is_held (feeder v)) + length ((w.seat a b).fifo v)) + 0
    by v true z = let c : one (is_held (left_by (Worker a b) (feeder l))) ≡ 0 = ap (λ o. one (is_held (left_by (Worker a b) o))) s ∙ gone in
        let d : one (is_held (feeder v)) ≡ 1 = ap (λ o. one (is_held (feeder o))) (same_list_true v l z) ∙ ap (λ o. one (is_held o)) s in omega (arith, c, d)
    by v false z = omega arith

drop_length : (l : List ℕ) → length l ≤ length (but_last l) + 1
drop_length [] = omega arith
drop_length (t ∷ []) = omega arith
drop_length (t ∷ u ∷ ts) = let a : length (u ∷ ts) ≤ length (but_last (u ∷ ts)) + 1 = drop_length (u ∷ ts) in omega (arith, a)

begin_fair : (q : Party) (x : Place) (m : Part) (e : Seen) → is_pushing x ≡ false → Fair q x m (e, record m { job = begun q m.job })
begin_fair q x m e n = plain_fair q x m _ n (λ p j v. let a : live p j v (begun q m.job) ≡ 0 = begun_off p j v q m.job in omega (arith, a)) (λ v. omega arith)

-- a token is redeemed
out_fair : (q : Party) (k i : ℕ) (b : Option ℕ) (m : Part) → IfSome (fifo_out q m b) (Fair q (BeginTask (Token k i b)) m)
out_fair q k i b m = out_sees (Fair q (BeginTask (Token k i b)) m) q m b
    (record { job = λ p j v. omega arith; list = λ v. omega arith })
    (λ u us e. record {
      job = λ p j v. (let a : live p j v (begun q m.job) ≡ 0 = begun_off p j v q m.job in omega (arith, a));
      list = λ v. shorter u us e v (same_list v b) refl;
    })
  where
    shorter : (u : ℕ) (us : List ℕ) → m.seat.fifo b ≡ u ∷ us → (v : Option ℕ) (z : Bool) → same_list v b ≡ z → (one (is_held (m.seat.feeder v)) + length (m.seat.fifo v)) + 0 ≤ (one (is_held (m.seat.feeder v)) + length (if z then us else m.seat.fifo v)) + one z
    shorter u us e v true z = let a : length (m.seat.fifo v) ≡ length us + 1 = ap (λ c. length (m.seat.fifo c)) (same_list_true v b z) ∙ ap length e ∙ (let c : length (u ∷ us) ≡ length us + 1 = omega arith in c) in omega (arith, a)
    shorter u us e v false z = omega arith

-- a job is added to a list
add_fair : (w : World) (a b : ℕ) (g : Feeding) → IfSome (fifo_in (Worker a b) (part_of w a b 0 g.job) g.job (count_book g.count)) (Fair (Worker a b) (AddToFifo g) (part_of w a b 0 g.job))
add_fair w a b g = if_cond (Fair (Worker a b) (AddToFifo g) (part_of w a b 0 g.job)) (is_open (Worker a b) (feeder l)) _ (λ o. plain_fair (Worker a b) (AddToFifo g) (part_of w a b 0 g.job) _ refl
    (λ p j v. let d : live p j v (at_job (w.job g.job) (InFifo a b l)) ≡ 0 = live_off p j v (at_job (w.job g.job) (InFifo a b l)) refl in omega (arith, d))
    (λ v. longer v (same_list v l) refl))
  where
    l : Option ℕ
    l = count_book g.count

    feeder : Option ℕ → Option Party
    feeder = (w.seat a b).feeder

    fifo : Option ℕ → List ℕ
    fifo = (w.seat a b).fifo

    longer : (v : Option ℕ) (z : Bool) → same_list v l ≡ z → one (is_held (if z then Some (Worker a b) else feeder v)) + length (fifo v) ≤ one (is_held (feeder v)) + length (if z then fifo l ++ g.job ∷ [] else fifo v)
    longer v true z = let d : length (fifo l ++ g.job ∷ []) ≡ length (fifo l) + length (g.job ∷ []) = length-append (fifo l) (g.job ∷ []) in
        let c : length (fifo v) ≡ length (fifo l) = ap (λ o. length (fifo o)) (same_list_true v l z) in omega (arith, c, d)
    longer v false z = omega arith

-- the job that was added last is taken back, and the list is left
back_fair : (w : World) (a b : ℕ) (g : Feeding) (n : ℕ) → (w.seat a b).feeder (count_book g.count) ≡ Some (Worker a b) → IfSome (fifo_undo (Worker a b) (part_of w a b 0 n) (count_book g.count)) (Fair (Worker a b) (TakeFromFifo g) (part_of w a b 0 n))
back_fair w a b g n s = undo_sees (Fair (Worker a b) (TakeFromFifo g) m) (Worker a b) m l (still_fair (Worker a b) (TakeFromFifo g) m Missing refl)
    (λ u e. plain_fair (Worker a b) (TakeFromFifo g) m _ refl
    (λ p j v. let d : live p j v (at_job (w.job n) (Retaken (Worker a b))) ≡ 0 = live_off p j v (at_job (w.job n) (Retaken (Worker a b))) refl in omega (arith, d))
    (λ v. shorter v (same_list v l) refl))
  where
    l : Option ℕ
    l = count_book g.count

    m : Part
    m = part_of w a b 0 n

    feeder : Option ℕ → Option Party
    feeder = (w.seat a b).feeder

    fifo : Option ℕ → List ℕ
    fifo = (w.seat a b).fifo

    shorter : (v : Option ℕ) (z : Bool) → same_list v l ≡ z → one (is_held (if z then None else feeder v)) + length (fifo v) ≤ one (is_held (feeder v)) + length (if z then but_last (fifo l) else fifo v)
    shorter v true z = let k : one (is_held (feeder v)) ≡ 1 = ap (λ o. one (is_held (feeder o))) (same_list_true v l z) ∙ ap (λ o. one (is_held o)) s in
        let c : length (fifo v) ≡ length (fifo l) = ap (λ o. length (fifo o)) (same_list_true v l z) in
        let d : length (fifo l) ≤ length (but_last (fifo l)) + 1 = drop_length (fifo l) in omega (arith, k, c, d)
    shorter v false z = omega arith

quiet_fair : (h : Shape) (q : Party) (c : Counts) (m : Part) (x : Place) → moves_no_job x ≡ true → is_pushing x ≡ false → IfSome (effect (act_of q x) h q c m) (Fair q x m)
quiet_fair h q c m x z n = if_some_map (λ r. SameJobs m r × Static m r) (Fair q x m)
    (λ r s. plain_fair q x m r n
    (λ p j v. let a : live p j v r.1.job ≡ live p j v m.job = ap (λ k. one (token_of j v k && at_pool p r.1.job.at r.1.job.runs)) ((s.1).kind) ∙ ap (λ y. one (token_of j v m.job.kind && at_pool p y r.1.job.runs)) ((s.0).at) ∙ ap (λ d. one (token_of j v m.job.kind && at_pool p m.job.at d)) ((s.0).runs) in omega (arith, a))
    (λ v. let a : one (is_held (r.1.seat.feeder v)) ≡ one (is_held (m.seat.feeder v)) = ap (λ o. one (is_held (o v))) ((s.0).feeder) in let b : length (r.1.seat.fifo v) ≡ length (m.seat.fifo v) = ap (λ l. length (l v)) ((s.0).fifo) in omega (arith, a, b)))
    (effect (act_of q x) h q c m) (if_some_and (SameJobs m) (Static m) (effect (act_of q x) h q c m) (quiet_same h q c m x z) (act_static h q c m x))

pub act_fair : (w : World) (q : Party) (x : Place) → IsOnce w → Says w q x → ((p i : ℕ) (f : Feeding) → q ≡ Worker p i → waits x ≡ Some f → (w.seat p i).feeder (count_book f.count) ≡ Some (Worker p i)) → IfSome (effect (act_of q x) w.shape q (counts_at w (target_pool q (act_of q x))) (place_part w q x)) (Fair q x (place_part w q x))
act_fair w (Worker a b) (PopWorking k) h s f = pop_fair (Worker a b) (place_part w (Worker a b) (PopWorking k)) (PopWorking k) _ _ refl (λ t e. own_spot w h ((w.shape.pool a).order) a b t e)
act_fair w (Caller c) (PopWorking k) h s f = tt
act_fair w (Worker a b) (PopIdle k) h s f = pop_fair (Worker a b) (place_part w (Worker a b) (PopIdle k)) (PopIdle k) _ _ refl (λ t e. own_spot w h ((w.shape.pool a).order) a b t e)
act_fair w (Caller c) (PopIdle k) h s f = tt
act_fair w (Worker a b) (JoinPop o) h s f = pop_fair (Worker a b) (place_part w (Worker a b) (JoinPop o)) (JoinPop o) _ _ refl (λ t e. own_spot w h ((w.shape.pool a).order) a b t e)
act_fair w (Caller c) (JoinPop o) h s f = tt
act_fair w (Worker a b) YieldPop h s f = pop_fair (Worker a b) (place_part w (Worker a b) YieldPop) YieldPop _ _ refl (λ t e. own_spot w h ((w.shape.pool a).order) a b t e)
act_fair w (Caller c) YieldPop h s f = tt
act_fair w (Worker a b) LocalPop h s f = pop_fair (Worker a b) (place_part w (Worker a b) LocalPop) LocalPop _ _ refl (λ t e. own_spot w h ((w.shape.pool a).order) a b t e)
act_fair w (Caller c) LocalPop h s f = tt
act_fair w (Worker a b) (StealFrom k n) h s f = pop_fair (Worker a b) (place_part w (Worker a b) (StealFrom k n)) (StealFrom k n) _ _ refl (λ t e. head_spot w h a (k.victim) t e)
act_fair w (Caller c) (StealFrom k n) h s f = tt
act_fair w (Worker a b) (YieldSteal v n) h s f = pop_fair (Worker a b) (place_part w (Worker a b) (YieldSteal v n)) (YieldSteal v n) _ _ refl (λ t e. head_spot w h a (v) t e)
act_fair w (Caller c) (YieldSteal v n) h s f = tt
act_fair w (Worker a b) (PopInjected k) h s f = inj_fair (Worker a b) (place_part w (Worker a b) (PopInjected k)) (PopInjected k) _ refl (λ t e. inj_spot w h a t e)
act_fair w (Caller c) (PopInjected k) h s f = tt
act_fair w (Worker a b) YieldPopInjected h s f = inj_fair (Worker a b) (place_part w (Worker a b) YieldPopInjected) YieldPopInjected _ refl (λ t e. inj_spot w h a t e)
act_fair w (Caller c) YieldPopInjected h s f = tt
act_fair w (Worker a b) (TakeCastWorking k) h s f = cast_fair (Worker a b) (place_part w (Worker a b) (TakeCastWorking k)) (TakeCastWorking k) _ refl (λ t e. cast_spot w h a b t e)
act_fair w (Caller c) (TakeCastWorking k) h s f = tt
act_fair w (Worker a b) (TakeCastIdle k) h s f = cast_fair (Worker a b) (place_part w (Worker a b) (TakeCastIdle k)) (TakeCastIdle k) _ refl (λ t e. cast_spot w h a b t e)
act_fair w (Caller c) (TakeCastIdle k) h s f = tt
act_fair w (Worker a b) (JoinTakeCast o) h s f = cast_fair (Worker a b) (place_part w (Worker a b) (JoinTakeCast o)) (JoinTakeCast o) _ refl (λ t e. cast_spot w h a b t e)
act_fair w (Caller c) (JoinTakeCast o) h s f = tt
act_fair w (Worker a b) YieldTakeCast h s f = cast_fair (Worker a b) (place_part w (Worker a b) YieldTakeCast) YieldTakeCast _ refl (λ t e. cast_spot w h a b t e)
act_fair w (Caller c) YieldTakeCast h s f = tt
act_fair w (Worker a b) LocalTakeCast h s f = cast_fair (Worker a b) (place_part w (Worker a b) LocalTakeCast) LocalTakeCast _ refl (λ t e. cast_spot w h a b t e)
act_fair w (Caller c) LocalTakeCast h s f = tt
act_fair w q (BeginTask (Plain t)) h s f = begin_fair q (BeginTask (Plain t)) (place_part w q (BeginTask (Plain t))) _ refl
act_fair w (Worker a b) (BeginTask (Token k i l)) h s f = out_fair (Worker a b) k i l (place_part w (Worker a b) (BeginTask (Token k i l)))
act_fair w (Caller c) (BeginTask (Token k i l)) h s f = out_fair (Caller c) k i l (place_part w (Caller c) (BeginTask (Token k i l)))
act_fair w (Worker a b) (PushToken g v) h s f = token_fair w a b g v ((s.1).kind) (f a b g refl refl)
act_fair w (Caller c) (PushToken g v) h s f = tt
act_fair w (Worker a b) (AddToFifo g) h s f = add_fair w a b g
act_fair w (Caller c) (AddToFifo g) h s f = tt
act_fair w (Worker a b) (TakeFromFifo g) h s f = back_fair w a b g (or_none (last_of ((w.seat a b).fifo (count_book g.count)))) (f a b g refl refl)
act_fair w (Caller c) (TakeFromFifo g) h s f = tt
act_fair w q (BeginHere t) h s f = begin_fair q (BeginHere t) (place_part w q (BeginHere t)) _ refl
act_fair w q (PushForAll c) h s f = plain_fair q (PushForAll c) (place_part w q (PushForAll c)) _ refl (λ p j v. omega arith) (λ v. omega arith)
act_fair w q (DealPieces g) h s f = plain_fair q (DealPieces g) (place_part w q (DealPieces g)) _ refl (λ p j v. omega arith) (λ v. omega arith)
act_fair w q (PushJob n v) h s f = push_fair w q n v (is_member q (plan_pool n)) (queue_plan w q n s)
act_fair w q x h s f = quiet_fair w.shape q (counts_at w (target_pool q (act_of q x))) (place_part w q x) x refl refl
