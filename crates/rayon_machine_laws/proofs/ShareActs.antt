-- each act keeps the shares and their sum
--
-- `SharesHold` says: each share of a terminate count is in at most one place, and none is where it is not counted; the
-- count is the sum of the shares, the value's with them. So a count of 0 means that no share is left.
-- The table `share` (specs/Shares) says which places keep a share. The sums over a pool's jobs pass jobs of scopes over
-- (`tally`).
use Rattle.rayon_machine_places.specs.declared.place.Share.TheVariants.{Body}
use Rattle.rayon_machine_places.specs.declared.place.Count.TheVariants.{OfScope}
use Rattle.std.proofs.Common.{arith, refl, sym, ◌∙◌, ap, subst}
use Rattle.std.specs.Prelude.{ℕ, Bool, true, false, ◌+◌, ◌==◌, ◌≤◌, if◌then◌else◌, Option, Some, None, List, [], ◌∷◌, ◌++◌, ◌≡◌, IfSome, ◌&&◌, ⊤}
use Rattle.std.proofs.lemmas.Bool.{eq-eqb}
use Rattle.rayon_machine_places.specs.declared.shape.Order.{Order}
use Rattle.rayon_machine_places.specs.declared.place.Party.{Party}
use Rattle.rayon_machine_places.specs.declared.place.Party.TheVariants.{Worker, Caller}
use Rattle.rayon_machine_places.specs.declared.place.Plan.{Plan}
use Rattle.rayon_machine_places.specs.declared.place.Plan.TheVariants.{Detach, Here, Send, Fork, Feed, Open, Enter, Gather}
use Rattle.rayon_machine_places.specs.declared.place.Taken.TheVariants.{Plain, Token}
use Rattle.rayon_machine_places.specs.declared.place.Place.{Place}
use Rattle.rayon_machine_places.specs.declared.place.Place.TheVariants.{PopWorking, TakeCastWorking, PopIdle, TakeCastIdle, StealFrom, PopInjected, JoinPop, JoinTakeCast, YieldPop, YieldTakeCast, YieldSteal, YieldPopInjected, LocalPop, LocalTakeCast, BeginTask, BeginHere}
use Rattle.rayon_machine_places.specs.declared.place.Place.TheVariants.{RaiseCount, PushJob, LowerCount, PushToken, AddToFifo, TakeFromFifo, RaiseForAll, PushForAll, LowerForAll, DealPieces}
use Rattle.rayon_machine_places.specs.declared.act.Act.TheVariants.{PushInj, PushOwn, FifoOut, FifoUndo}
use Rattle.rayon_machine_places.specs.declared.act.Seen.{Seen}
use Rattle.rayon_machine_places.specs.declared.act.Seen.TheVariants.{Done, Missing, Task}
use Rattle.rayon_machine_runs.specs.declared.state.Whereabouts.{Whereabouts}
use Rattle.rayon_machine_runs.specs.declared.state.Whereabouts.TheVariants.{Nowhere, Made, InDeque, Injected, InFifo, Retaken, InCast}
use Rattle.rayon_machine_runs.specs.declared.state.Job.{Job}
use Rattle.rayon_machine_places.specs.Places.{own_pool, own_index, is_member, plan_pool, plan_job, act_of, taken_number, plan_book, count_book}
use Rattle.rayon_machine_runs.specs.World.{Shape, World, counts_at, Part, head_of, but_first, own_of, own_left, but_last, at_job, popped, take_cast, pop_injector, effect, is_open}
use Rattle.rayon_machine_places.specs.Sleepers.{Counts}
use Rattle.rayon_machine_places.specs.Targets.{target_pool, target_worker, target_call, or_none}
use Rattle.rayon_machine_runs.specs.Steps.{part_of}
use Rattle.rayon_machine_laws.specs.Once.{one, times, in_deque, in_injector, IsOnce, in_fifo, in_cast}
use Rattle.rayon_machine_laws.specs.Counted.{keeps_own, has_share}
use Rattle.rayon_machine_laws.specs.Shares.{shares, is_busy}
use Rattle.rayon_machine_laws.proofs.Acts.{JobCounted, PoolCounted, PoolCount, writes_at, keeps}
use Rattle.rayon_machine_laws.proofs.Frame.{if_some_all, if_some_map, out_sees, undo_sees, if_cond}
use Rattle.rayon_machine_laws.proofs.Ties.{job_at}
use Rattle.rayon_machine_laws.proofs.Lists.{moves_no_job, SameJobs, quiet_same, times_first, times_own, times_drop}
use Rattle.rayon_machine_laws.proofs.Located.{is_left}
use Rattle.rayon_machine_laws.proofs.Placed.{outcome_of}
use Rattle.rayon_machine_laws.proofs.Claims.{call_undetached, is_detached, SaysPlan, queue_plan, Says}
use Rattle.rayon_machine_laws.proofs.ClaimRuns.{CallsHold, place_part, LinedAs}
use Rattle.rayon_machine_laws.proofs.Amounts.{all_raises, all_values, pushed}
use Rattle.rayon_machine_laws.proofs.Tokens.{Tokens, sum_below}

-- a detached job that is queued or runs has its share itself
abbrev pub with_job : Job → ℕ
with_job j = one (keeps_own j)

-- a job's share counts at its pool
abbrev pub tally : ℕ → Job → ℕ
tally p j = one (has_share p j)

-- what holds of the shares of every world
pub record SharesHold (w : World) : Type 0 where
  pub calls : CallsHold w
  pub jobs : (t : ℕ) → Tokens (λ q. shares t (w.stack q)) (with_job (w.job t)) (one (w.job t).counted)
  pub values : (p : ℕ) → Tokens (λ q. all_values p (w.stack q)) (one (w.pool p).held) (one (w.pool p).counted)
  pub unraised : (q : Party) (t : ℕ) → all_raises t (w.stack q) + one (w.job t).counted ≤ 1
  pub unmade : (t : ℕ) → w.jobs ≤ t → (w.job t).counted ≡ false
  pub sums : (p : ℕ) → sum_below w.jobs (λ t. tally p (w.job t)) + one (w.pool p).counted ≡ (w.pool p).count

pub one_most : (b : Bool) → one b ≤ 1
one_most true = omega arith
one_most false = omega arith

pub one_is : (b : Bool) → 1 ≤ one b → b ≡ true
one_is true h = refl
one_is false h = absurd (omega arith)

pub one_not : (b : Bool) → one b ≤ 0 → b ≡ false
one_not true h = absurd (omega arith)
one_not false h = refl

-- places whose acts change a pool's count, or take or give back a job's share
abbrev pub is_tally : Place → Bool
is_tally (RaiseCount n) = true
is_tally (LowerCount (OfScope c o) Body n) = false
is_tally (LowerCount k s n) = true
is_tally (RaiseForAll c) = true
is_tally (LowerForAll c) = true
is_tally (DealPieces g) = true
is_tally _ = false

-- the share of a scope's body is given back
abbrev is_body_share : Place → Bool
is_body_share (LowerCount (OfScope c o) Body n) = true
is_body_share _ = false

pub record Untallied (m : Part) (r : Seen × Part) : Type 0 where
  pub job : r.1.job.counted ≡ m.job.counted
  pub pool : r.1.pool.counted ≡ m.pool.counted
  pub count : r.1.pool.count ≡ m.pool.count

pub same_untallied : (m : Part) (e : Seen) → Untallied m (e, m)
same_untallied m e = record { job = refl; pool = refl; count = refl }

tally_writes : (x : Place) → is_tally x ≡ false → is_body_share x ≡ false → writes_at x (JobCounted ∷ PoolCounted ∷ PoolCount ∷ []) ≡ false
tally_writes (LowerCount (OfScope d o) Body n) z e = cc
tally_writes _ z e = cc

tally_left : (h : Shape) (q : Party) (c : Counts) (m : Part) (x : Place) → writes_at x (JobCounted ∷ PoolCounted ∷ PoolCount ∷ []) ≡ false → IfSome (effect (act_of q x) h q c m) (Untallied m)
tally_left h q c m x n = keeps h q c m Untallied (JobCounted ∷ PoolCounted ∷ PoolCount ∷ []) x n (λ r k. record { job = k.0; pool = k.1.0; count = k.1.1.0 })

pub act_untallied : (h : Shape) (q : Party) (c : Counts) (m : Part) (x : Place) → is_tally x ≡ false → IfSome (effect (act_of q x) h q c m) (Untallied m)
act_untallied h (Worker a b) c m (LowerCount (OfScope d o) Body n) z = record { job = refl; pool = refl; count = refl }
act_untallied h (Caller i) c m (LowerCount (OfScope d o) Body n) z = record { job = refl; pool = refl; count = refl }
act_untallied h q c m x z = tally_left h q c m x (tally_writes x z refl)

-- a take is of a job that its list had
take_left : (w : World) → IsOnce w → (p i t n : ℕ) → times t (w.seat p i).own ≡ (one (t == t) + n) → is_left (w.job t).at ≡ true
take_left w h p i t n e = by ((w.job t).at) (let a : times t (w.seat p i).own ≡ one (in_deque p i (w.job t).at) = h.deque p i t in let b : one (t == t) ≡ 1 = ap one (eq-eqb t t refl) in omega (arith, a, b, e))
  where
    by : (v : Whereabouts) → 1 ≤ one (in_deque p i v) → is_left v ≡ true
    by (InDeque r j) z = refl
    by (InFifo r j b7) z = absurd (omega (arith, z))
    by (Retaken q) z = absurd (omega (arith, z))
    by (Made q) z = absurd (omega (arith, z))
    by Nowhere z = absurd (omega (arith, z))
    by _ z = refl

inject_left : (w : World) → IsOnce w → (p t n : ℕ) → times t (w.pool p).injector ≡ (one (t == t) + n) → is_left (w.job t).at ≡ true
inject_left w h p t n e = by ((w.job t).at) (let a : times t (w.pool p).injector ≡ one (in_injector p (w.job t).at) = h.injector p t in let b : one (t == t) ≡ 1 = ap one (eq-eqb t t refl) in omega (arith, a, b, e))
  where
    by : (v : Whereabouts) → 1 ≤ one (in_injector p v) → is_left v ≡ true
    by (Injected r) z = refl
    by (InFifo r j b7) z = absurd (omega (arith, z))
    by (Retaken q) z = absurd (omega (arith, z))
    by (Made q) z = absurd (omega (arith, z))
    by Nowhere z = absurd (omega (arith, z))
    by _ z = refl

-- what an act tells of a detached job that its call still has: it has it still, or pushes it
abbrev pub Stays : Part → Place → ℕ → Seen × Part → Type 0
Stays m x n r = is_left m.job.at ≡ false → is_detached m.job.kind ≡ true → one (is_busy r.1.job.at) ≤ one (is_busy m.job.at) + pushed n x (r.0)

same_stays : (m : Part) (x : Place) (n : ℕ) (r : Seen × Part) → r.1.job.at ≡ m.job.at → Stays m x n r
same_stays m x n r e y z = let a : one (is_busy r.1.job.at) ≡ one (is_busy m.job.at) = ap (λ v. one (is_busy v)) e in omega (arith, a)

pop_stays : (q : Party) (m : Part) (x : Place) (n : ℕ) (rest : List ℕ) (o : Option ℕ) → ((t : ℕ) → o ≡ Some t → is_left m.job.at ≡ true) → IfSome (popped q m rest o) (Stays m x n)
pop_stays q m x n rest None f = same_stays m x n (Missing, m) refl
pop_stays q m x n rest (Some t) f = λ y z. absurd (let a : is_left m.job.at ≡ true = f t refl in cc)

cast_stays : (q : Party) (m : Part) (x : Place) (n : ℕ) (l : List ℕ) → ((t : ℕ) → head_of l ≡ Some t → is_left m.job.at ≡ true) → IfSome (take_cast q m l) (Stays m x n)
cast_stays q m x n [] f = same_stays m x n (Missing, m) refl
cast_stays q m x n (t ∷ ts) f = λ y z. absurd (let a : is_left m.job.at ≡ true = f t refl in cc)

inj_stays : (q : Party) (m : Part) (x : Place) (n : ℕ) (l : List ℕ) → ((t : ℕ) → head_of l ≡ Some t → is_left m.job.at ≡ true) → IfSome (pop_injector q m l) (Stays m x n)
inj_stays q m x n [] f = same_stays m x n (Missing, m) refl
inj_stays q m x n (t ∷ ts) f = λ y z. absurd (let a : is_left m.job.at ≡ true = f t refl in cc)

own_taken : (w : World) → IsOnce w → (b : Order) (p i t : ℕ) → own_of b (w.seat p i).own ≡ Some t → is_left (w.job (or_none (own_of b (w.seat p i).own))).at ≡ true
own_taken w h b p i t e = subst (λ o. is_left (w.job (or_none o)).at ≡ true) (sym e) (take_left w h p i t (times t (own_left b (w.seat p i).own)) (times_own b ((w.seat p i).own) t t e))

head_taken : (w : World) → IsOnce w → (p i t : ℕ) → head_of (w.seat p i).own ≡ Some t → is_left (w.job (or_none (head_of (w.seat p i).own))).at ≡ true
head_taken w h p i t e = subst (λ o. is_left (w.job (or_none o)).at ≡ true) (sym e) (take_left w h p i t (times t (but_first (w.seat p i).own)) (times_first ((w.seat p i).own) t t e))

inj_taken : (w : World) → IsOnce w → (p t : ℕ) → head_of (w.pool p).injector ≡ Some t → is_left (w.job (or_none (head_of (w.pool p).injector))).at ≡ true
inj_taken w h p t e = subst (λ o. is_left (w.job (or_none o)).at ≡ true) (sym e) (inject_left w h p t (times t (but_first (w.pool p).injector)) (times_first ((w.pool p).injector) t t e))

line_busy : (w : World) → IsOnce w → (p i : ℕ) (b : Option ℕ) (t : ℕ) → head_of ((w.seat p i).fifo b) ≡ Some t → is_busy (w.job (or_none (head_of ((w.seat p i).fifo b)))).at ≡ true
line_busy w h p i b t e = subst (λ o. is_busy (w.job (or_none o)).at ≡ true) (sym e) (by ((w.job t).at) (let a : times t ((w.seat p i).fifo b) ≡ one (in_fifo p i b (w.job t).at) = h.fifo p i b t in
    let d : times t ((w.seat p i).fifo b) ≡ (one (t == t) + times t (but_first ((w.seat p i).fifo b))) = times_first ((w.seat p i).fifo b) t t e in let c : one (t == t) ≡ 1 = ap one (eq-eqb t t refl) in omega (arith, a, d, c)))
  where
    by : (v : Whereabouts) → 1 ≤ one (in_fifo p i b v) → is_busy v ≡ true
    by (InFifo r j d) z = refl
    by _ z = absurd (omega (arith, z))

cast_taken : (w : World) → IsOnce w → (p i t : ℕ) → head_of ((w.pool p).casts i) ≡ Some t → is_left (w.job (or_none (head_of ((w.pool p).casts i)))).at ≡ true
cast_taken w h p i t e = subst (λ o. is_left (w.job (or_none o)).at ≡ true) (sym e) (by ((w.job t).at) (let a : times t ((w.pool p).casts i) ≡ one (in_cast p i (w.job t).at) = h.cast p i t in
    let b : times t ((w.pool p).casts i) ≡ (one (t == t) + times t (but_first ((w.pool p).casts i))) = times_first ((w.pool p).casts i) t t e in let c : one (t == t) ≡ 1 = ap one (eq-eqb t t refl) in omega (arith, a, b, c)))
  where
    by : (v : Whereabouts) → 1 ≤ one (in_cast p i v) → is_left v ≡ true
    by (InCast r j) z = refl
    by _ z = absurd (omega (arith, z))

push_stays : (w : World) (q : Party) (n : Plan) (v : Bool) (m m' : Part) → SaysPlan w q n → m.job ≡ w.job (plan_job n) → Stays m (PushJob n v) (plan_job n) (Done, m')
push_stays w q (Detach p t) v m m' s e y z = let a : one (t == t) ≡ 1 = ap one (eq-eqb t t refl) in let b : one (is_busy m'.job.at) ≤ 1 = one_most (is_busy m'.job.at) in omega (arith, a, b)
push_stays w q (Enter x) v m m' s e y z = let a : one (x.job == x.job) ≡ 1 = ap one (eq-eqb x.job x.job refl) in let b : one (is_busy m'.job.at) ≤ 1 = one_most (is_busy m'.job.at) in omega (arith, a, b)
push_stays w q (Open o) v m m' s e y z = absurd (let a : is_detached m.job.kind ≡ false = ap (λ j. is_detached (j.kind)) e ∙ call_undetached ((w.job o.job).kind) (o.number, q) ((s.0).kind) in cc)
push_stays w q (Gather g) v m m' s e y z = absurd (let a : is_detached m.job.kind ≡ false = ap (λ j. is_detached (j.kind)) e ∙ ap is_detached (s.whole) in cc)
push_stays w q (Feed f) v m m' s e y z = let a : one (f.job == f.job) ≡ 1 = ap one (eq-eqb f.job f.job refl) in let b : one (is_busy m'.job.at) ≤ 1 = one_most (is_busy m'.job.at) in omega (arith, a, b)
push_stays w q (Here p t) v m m' s e y z = absurd (let a : is_detached m.job.kind ≡ false = ap (λ j. is_detached (j.kind)) e ∙ ap is_detached (s.kind) in cc)
push_stays w q (Send o) v m m' s e y z = absurd (let a : is_detached m.job.kind ≡ false = ap (λ j. is_detached (j.kind)) e ∙ call_undetached ((w.job o.job).kind) (o.number, q) ((s.0).kind) in cc)
push_stays w q (Fork o f) v m m' s e y z = absurd (let a : is_detached m.job.kind ≡ false = ap (λ j. is_detached (j.kind)) e ∙ call_undetached ((w.job o.job).kind) (o.number, q) ((s.0).kind) in cc)

push_act_stays : (w : World) (q : Party) (n : Plan) (v z : Bool) → SaysPlan w q n → IfSome (outcome_of w q (if z then PushOwn (plan_job n) (plan_book n) else PushInj (plan_pool n) (plan_job n) (plan_book n)))
    (Stays (part_of w (target_pool q (if z then PushOwn (plan_job n) (plan_book n) else PushInj (plan_pool n) (plan_job n) (plan_book n))) (target_worker q (if z then PushOwn (plan_job n) (plan_book n) else PushInj (plan_pool n) (plan_job n) (plan_book n)))
    (target_call (if z then PushOwn (plan_job n) (plan_book n) else PushInj (plan_pool n) (plan_job n) (plan_book n))) (job_at w q (if z then PushOwn (plan_job n) (plan_book n) else PushInj (plan_pool n) (plan_job n) (plan_book n)))) (PushJob n v)
    (job_at w q (if z then PushOwn (plan_job n) (plan_book n) else PushInj (plan_pool n) (plan_job n) (plan_book n))))
push_act_stays w q n v true s = let m : Part = part_of w (own_pool q) (own_index q) (or_none (plan_book n)) (plan_job n) in push_stays w q n v m (record m { seat = record (m.seat) { own = m.seat.own ++ plan_job n ∷ [] }; job = at_job (m.job) (InDeque (own_pool q) (own_index q)) }) s refl
push_act_stays w q n v false s = let m : Part = part_of w (plan_pool n) (own_index q) (or_none (plan_book n)) (plan_job n) in push_stays w q n v m (record m { pool = record (m.pool) { injector = m.pool.injector ++ plan_job n ∷ [] }; job = at_job (m.job) (Injected (plan_pool n)) }) s refl

quiet_stays : (h : Shape) (q : Party) (c : Counts) (m : Part) (x : Place) (n : ℕ) → moves_no_job x ≡ true → IfSome (effect (act_of q x) h q c m) (Stays m x n)
quiet_stays h q c m x n z = if_some_map (SameJobs m) (Stays m x n) (λ r s. same_stays m x n r (s.at)) (effect (act_of q x) h q c m) (quiet_same h q c m x z)

pub act_stays : (w : World) (q : Party) (x : Place) → IsOnce w → Says w q x → IfSome (effect (act_of q x) w.shape q (counts_at w (target_pool q (act_of q x))) (place_part w q x)) (Stays (place_part w q x) x (job_at w q (act_of q x)))
act_stays w (Worker a b) (PopWorking k) h s = pop_stays (Worker a b) (place_part w (Worker a b) (PopWorking k)) (PopWorking k) (job_at w (Worker a b) (act_of (Worker a b) (PopWorking k))) _ _ (λ t e. own_taken w h ((w.shape.pool a).order) a b t e)
act_stays w (Caller c) (PopWorking k) h s = tt
act_stays w (Worker a b) (PopIdle k) h s = pop_stays (Worker a b) (place_part w (Worker a b) (PopIdle k)) (PopIdle k) (job_at w (Worker a b) (act_of (Worker a b) (PopIdle k))) _ _ (λ t e. own_taken w h ((w.shape.pool a).order) a b t e)
act_stays w (Caller c) (PopIdle k) h s = tt
act_stays w (Worker a b) (JoinPop o) h s = pop_stays (Worker a b) (place_part w (Worker a b) (JoinPop o)) (JoinPop o) (job_at w (Worker a b) (act_of (Worker a b) (JoinPop o))) _ _ (λ t e. own_taken w h ((w.shape.pool a).order) a b t e)
act_stays w (Caller c) (JoinPop o) h s = tt
act_stays w (Worker a b) YieldPop h s = pop_stays (Worker a b) (place_part w (Worker a b) YieldPop) YieldPop (job_at w (Worker a b) (act_of (Worker a b) YieldPop)) _ _ (λ t e. own_taken w h ((w.shape.pool a).order) a b t e)
act_stays w (Caller c) YieldPop h s = tt
act_stays w (Worker a b) LocalPop h s = pop_stays (Worker a b) (place_part w (Worker a b) LocalPop) LocalPop (job_at w (Worker a b) (act_of (Worker a b) LocalPop)) _ _ (λ t e. own_taken w h ((w.shape.pool a).order) a b t e)
act_stays w (Caller c) LocalPop h s = tt
act_stays w (Worker a b) (StealFrom k n) h s = pop_stays (Worker a b) (place_part w (Worker a b) (StealFrom k n)) (StealFrom k n) (job_at w (Worker a b) (act_of (Worker a b) (StealFrom k n))) _ _ (λ t e. head_taken w h a (k.victim) t e)
act_stays w (Caller c) (StealFrom k n) h s = tt
act_stays w (Worker a b) (YieldSteal v n) h s = pop_stays (Worker a b) (place_part w (Worker a b) (YieldSteal v n)) (YieldSteal v n) (job_at w (Worker a b) (act_of (Worker a b) (YieldSteal v n))) _ _ (λ t e. head_taken w h a (v) t e)
act_stays w (Caller c) (YieldSteal v n) h s = tt
act_stays w (Worker a b) (PopInjected k) h s = inj_stays (Worker a b) (place_part w (Worker a b) (PopInjected k)) (PopInjected k) (job_at w (Worker a b) (act_of (Worker a b) (PopInjected k))) _ (λ t e. inj_taken w h a t e)
act_stays w (Caller c) (PopInjected k) h s = tt
act_stays w (Worker a b) YieldPopInjected h s = inj_stays (Worker a b) (place_part w (Worker a b) YieldPopInjected) YieldPopInjected (job_at w (Worker a b) (act_of (Worker a b) YieldPopInjected)) _ (λ t e. inj_taken w h a t e)
act_stays w (Caller c) YieldPopInjected h s = tt
act_stays w (Worker a b) (TakeCastWorking k) h s = cast_stays (Worker a b) (place_part w (Worker a b) (TakeCastWorking k)) (TakeCastWorking k) (job_at w (Worker a b) (act_of (Worker a b) (TakeCastWorking k))) _ (λ t e. cast_taken w h a b t e)
act_stays w (Caller c) (TakeCastWorking k) h s = tt
act_stays w (Worker a b) (TakeCastIdle k) h s = cast_stays (Worker a b) (place_part w (Worker a b) (TakeCastIdle k)) (TakeCastIdle k) (job_at w (Worker a b) (act_of (Worker a b) (TakeCastIdle k))) _ (λ t e. cast_taken w h a b t e)
act_stays w (Caller c) (TakeCastIdle k) h s = tt
act_stays w (Worker a b) (JoinTakeCast o) h s = cast_stays (Worker a b) (place_part w (Worker a b) (JoinTakeCast o)) (JoinTakeCast o) (job_at w (Worker a b) (act_of (Worker a b) (JoinTakeCast o))) _ (λ t e. cast_taken w h a b t e)
act_stays w (Caller c) (JoinTakeCast o) h s = tt
act_stays w (Worker a b) YieldTakeCast h s = cast_stays (Worker a b) (place_part w (Worker a b) YieldTakeCast) YieldTakeCast (job_at w (Worker a b) (act_of (Worker a b) YieldTakeCast)) _ (λ t e. cast_taken w h a b t e)
act_stays w (Caller c) YieldTakeCast h s = tt
act_stays w (Worker a b) LocalTakeCast h s = cast_stays (Worker a b) (place_part w (Worker a b) LocalTakeCast) LocalTakeCast (job_at w (Worker a b) (act_of (Worker a b) LocalTakeCast)) _ (λ t e. cast_taken w h a b t e)
act_stays w (Caller c) LocalTakeCast h s = tt
act_stays w q (BeginTask (Plain t)) h s = λ y z. absurd (let a : is_left (w.job t).at ≡ true = s in cc)
act_stays w (Worker a b) (BeginTask (Token k i b8)) h s = out_sees (Stays (place_part w (Worker a b) (BeginTask (Token k i b8))) (BeginTask (Token k i b8)) (job_at w (Worker a b) (FifoOut k i b8))) (Worker a b) (place_part w (Worker a b) (BeginTask (Token k i b8))) b8
    (same_stays (place_part w (Worker a b) (BeginTask (Token k i b8))) (BeginTask (Token k i b8)) (job_at w (Worker a b) (FifoOut k i b8)) (Missing, place_part w (Worker a b) (BeginTask (Token k i b8))) refl)
    (λ u us e y z. (let o : one (is_busy (w.job (or_none (head_of ((w.seat a i).fifo b8)))).at) ≡ 1 = ap one (line_busy w h a i b8 u (ap head_of e)) in omega (arith, o)))
act_stays w (Caller c) (BeginTask (Token k i b8)) h s = out_sees (Stays (place_part w (Caller c) (BeginTask (Token k i b8))) (BeginTask (Token k i b8)) (job_at w (Caller c) (FifoOut k i b8))) (Caller c) (place_part w (Caller c) (BeginTask (Token k i b8))) b8
    (same_stays (place_part w (Caller c) (BeginTask (Token k i b8))) (BeginTask (Token k i b8)) (job_at w (Caller c) (FifoOut k i b8)) (Missing, place_part w (Caller c) (BeginTask (Token k i b8))) refl)
    (λ u us e y z. (let o : one (is_busy (w.job (or_none (head_of ((w.seat 0 i).fifo b8)))).at) ≡ 1 = ap one (line_busy w h 0 i b8 u (ap head_of e)) in omega (arith, o)))
act_stays w (Worker a b) (PushToken f v) h s = λ y z. absurd (let k : is_detached (w.job f.token).kind ≡ false = ap is_detached ((s.1).kind) in cc)
act_stays w (Caller c) (PushToken f v) h s = tt
act_stays w (Worker a b) (AddToFifo f) h s = if_cond (Stays (place_part w (Worker a b) (AddToFifo f)) (AddToFifo f) f.job) (is_open (Worker a b) ((w.seat a b).feeder (count_book f.count))) _ (λ t y z. (let o : one (f.job == f.job) ≡ 1 = ap one (eq-eqb f.job f.job refl) in omega (arith, o)))
act_stays w (Caller c) (AddToFifo f) h s = tt
act_stays w (Worker a b) (TakeFromFifo f) h s = undo_sees (Stays (place_part w (Worker a b) (TakeFromFifo f)) (TakeFromFifo f) (job_at w (Worker a b) (FifoUndo (count_book f.count)))) (Worker a b) (place_part w (Worker a b) (TakeFromFifo f)) (count_book f.count)
    (same_stays (place_part w (Worker a b) (TakeFromFifo f)) (TakeFromFifo f) (job_at w (Worker a b) (FifoUndo (count_book f.count))) (Missing, place_part w (Worker a b) (TakeFromFifo f)) refl) (λ u e y z. omega arith)
act_stays w (Caller c) (TakeFromFifo f) h s = tt
act_stays w q (BeginHere t) h s = λ y z. absurd (let a : is_detached (w.job t).kind ≡ false = s.kind in cc)
act_stays w q (PushForAll c) h s = λ y z. omega arith
act_stays w q (DealPieces g) h s = λ y z. omega arith
act_stays w q (PushJob n v) h s = push_act_stays w q n v (is_member q (plan_pool n)) (queue_plan w q n s)
act_stays w q x h s = quiet_stays w.shape q (counts_at w (target_pool q (act_of q x))) (place_part w q x) x (job_at w q (act_of q x)) refl

-- the job that a call takes back out of its FIFO list had its share itself, and has it no longer
abbrev pub Regains : World → Party → Place → Seen × Part → Type 0
Regains w q (TakeFromFifo f) (Task y, m) = (job_at w q (act_of q (TakeFromFifo f)) ≡ taken_number y) × (with_job (w.job (taken_number y)) ≡ 1) × (is_busy m.job.at ≡ false)
Regains w q _ _ = ⊤

lined_detached : (w : World) (t p : ℕ) (b : Option ℕ) → LinedAs w t p b → is_detached (w.job t).kind ≡ true
lined_detached w t p None s = ap is_detached (s.kind)
lined_detached w t p (Some c) s = ap is_detached ((s.1).kind)

lined_share : (w : World) → CallsHold w → IsOnce w → (p i : ℕ) (b : Option ℕ) (t : ℕ) → 1 ≤ times t ((w.seat p i).fifo b) → with_job (w.job t) ≡ 1
lined_share w h o p i b t n = ap (λ k. one (k && is_busy (w.job t).at)) (lined_detached w t p b (h.lines p i b t n)) ∙ ap one (by ((w.job t).at) (let a : times t ((w.seat p i).fifo b) ≡ one (in_fifo p i b (w.job t).at) = o.fifo p i b t in omega (arith, a, n)))
  where
    by : (v : Whereabouts) → 1 ≤ one (in_fifo p i b v) → is_busy v ≡ true
    by (InFifo r j d) z = refl
    by _ z = absurd (omega (arith, z))

pub act_regains : (w : World) (q : Party) (x : Place) → CallsHold w → IsOnce w → IfSome (effect (act_of q x) w.shape q (counts_at w (target_pool q (act_of q x))) (place_part w q x)) (Regains w q x)
act_regains w (Worker a b) (TakeFromFifo f) h o = undo_sees (Regains w (Worker a b) (TakeFromFifo f)) (Worker a b) (place_part w (Worker a b) (TakeFromFifo f)) (count_book f.count) tt
    (λ u e. (
      ap or_none e,
      lined_share w h o a b (count_book f.count) u (let d : times u ((w.seat a b).fifo (count_book f.count)) ≡ (one (u == u) + times u (but_last ((w.seat a b).fifo (count_book f.count)))) = times_drop ((w.seat a b).fifo (count_book f.count)) u u e in
          let c : one (u == u) ≡ 1 = ap one (eq-eqb u u refl) in omega (arith, c, d)),
      refl,
    ))
act_regains w (Caller c) (TakeFromFifo f) h o = tt
act_regains w q x h o = if_some_all (Regains w q x) (λ r. tt) (effect (act_of q x) w.shape q (counts_at w (target_pool q (act_of q x))) (place_part w q x))
