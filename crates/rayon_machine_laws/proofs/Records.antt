-- what each step makes of a job's record: how often its run was begun, and whether it is over
use Rattle.std.proofs.Common.{arith, refl, ◌∙◌, sym, ap, subst, inl, inr}
use Rattle.std.specs.Prelude.{ℕ, Bool, true, false, ◌&&◌, ◌+◌, ◌-◌, ◌==◌, ◌≤◌, if◌then◌else◌, Option, Some, None, ◌≡◌, ◌⊎◌, IfSome, ⊤, List, [], ◌∷◌}
use Rattle.std.proofs.lemmas.Bool.{eqb-true}
use Rattle.rayon_machine_places.specs.declared.place.Party.{Party}
use Rattle.rayon_machine_places.specs.declared.place.Party.TheVariants.{Worker, Caller}
use Rattle.rayon_machine_places.specs.declared.place.Ending.{Ending}
use Rattle.rayon_machine_places.specs.declared.place.JobKind.{JobKind}
use Rattle.rayon_machine_places.specs.declared.place.JobKind.TheVariants.{Direct, Stored}
use Rattle.rayon_machine_places.specs.declared.place.Taken.TheVariants.{Plain, Token}
use Rattle.rayon_machine_places.specs.declared.place.Pieces.{Pieces}
use Rattle.rayon_machine_places.specs.declared.place.Count.{Count}
use Rattle.rayon_machine_places.specs.declared.place.Count.TheVariants.{OfPool, OfScope, OfCast}
use Rattle.rayon_machine_places.specs.declared.place.Mark.{Mark as Marking}
use Rattle.rayon_machine_places.specs.declared.place.Mark.TheVariants.{Counted, Numbered, Queued, Dealt, Unnumbered, Returned}
use Rattle.rayon_machine_places.specs.declared.place.Plan.{Plan}
use Rattle.rayon_machine_places.specs.declared.place.Plan.TheVariants.{Detach, Here, Send, Fork, Feed, Open, Enter, Gather}
use Rattle.rayon_machine_places.specs.declared.place.Place.{Place}
use Rattle.rayon_machine_places.specs.declared.place.Place.TheVariants.{PopWorking, TakeCastWorking, PopIdle, TakeCastIdle, PickVictim, StealFrom, PopInjected, JoinPop, JoinTakeCast, YieldPop, YieldTakeCast, YieldPick, YieldSteal, YieldPopInjected, LocalPop, LocalTakeCast, BeginTask, BeginHere, Run, PushJob, AddToFifo, PushToken, TakeFromFifo, PushForAll, DealPieces}
use Rattle.rayon_machine_places.specs.declared.place.Move.{Move}
use Rattle.rayon_machine_places.specs.declared.place.Move.TheVariants.{Stay, Enter, StartRun, Back, HandBack, Discard, HandIn, Mark, HandAllBack}
use Rattle.rayon_machine_places.specs.declared.act.Act.{Act}
use Rattle.rayon_machine_places.specs.declared.act.Act.TheVariants.{PushOwn, PushInj}
use Rattle.rayon_machine_places.specs.declared.act.Seen.{Seen}
use Rattle.rayon_machine_runs.specs.declared.event.Event.{Event}
use Rattle.rayon_machine_runs.specs.declared.event.Event.TheVariants.{Go, From, Refuse, Miss, End, Spawn, Fifo, Install, Join, Yield, YieldLocal, EndPool, Cast, Scope as OpenScope, IntoSpawn, IntoFifo, IntoCast, Broadcast}
use Rattle.rayon_machine_runs.specs.declared.state.Whereabouts.{Whereabouts}
use Rattle.rayon_machine_runs.specs.declared.state.Whereabouts.TheVariants.{Over, HandedBack, Spent}
use Rattle.rayon_machine_runs.specs.declared.state.Job.{Job}
use Rattle.rayon_machine_places.specs.Places.{act_of, next_of, plan_book, plan_job, plan_pool, count_book, is_free, is_member}
use Rattle.rayon_machine_runs.specs.World.{Stack, World, Part, Outcome, counts_at, at_job, begun, head_of, is_open, pop_injector, popped, take_cast}
use Rattle.rayon_machine_places.specs.Targets.{target_pool, target_worker, target_call, or_none}
use Rattle.rayon_machine_runs.specs.Steps.{put, put_pieces, after_move, jobs_after, marked, mark_pieces, is_piece, after_choice, after_end, after_miss, after_yield, after_send, after_join, after_gather, after_deal, after_feed, new_job, new_piece, new_whole, is_pool, step}
use Rattle.rayon_machine_laws.specs.Once.{IsOnce, may_begin}
use Rattle.rayon_machine_laws.specs.Ends.{Begins, Ends, EndsLaw}
use Rattle.rayon_machine_laws.proofs.Frame.{acted_keeps, fifo_cases, if_cond, if_some_map, into_cases, into_cast_cases, into_fifo_cases, out_sees, piece_range, put_new, stack_mine, undo_sees}
use Rattle.rayon_machine_laws.proofs.Ties.{outcome, result, job_at}
use Rattle.rayon_machine_laws.proofs.Calm.{part_at, next_at}
use Rattle.rayon_machine_laws.proofs.Placed.{outcome_of}
use Rattle.rayon_machine_laws.proofs.Lists.{SameJobs, quiet_same}
use Rattle.rayon_machine_laws.proofs.ClaimMakes.{always_once}
use Rattle.rayon_machine_laws.proofs.Stops.{made}

-- a run is begun in this move, and something becomes of pieces
abbrev pub Starts : (Job → Job → Type 0) → Party → Move → (ℕ → Job) → Type 0
Starts R q (StartRun f a) J = R (J a) (begun q (J a))
Starts R q _ J = ⊤

abbrev pub Markings : (Job → Job → Type 0) → Move → (ℕ → Job) → Type 0
Markings R (Mark y c k) J = (t : ℕ) → is_piece c t ≡ true → R (J t) (marked k c.pool (t - c.first) (J t))
Markings R _ J = ⊤

-- what is so of each record that a move writes is so of all
module _ (R : Job → Job → Type 0) (same : (j : Job) → R j j) (back : (j : Job) → R j (at_job j HandedBack)) (spent : (j : Job) → R j (at_job j Spent)) (returned : (p i : ℕ) (j : Job) → R j (marked Returned p i j)) where
  put_each : (J : ℕ → Job) (n : ℕ) (j : Job) (t : ℕ) → R (J n) j → R (J t) (put J n j t)
  put_each J n j t r = by (t == n) refl
    where
      by : (z : Bool) → (t == n) ≡ z → R (J t) (if z then j else J t)
      by true e = subst (λ m. R (J m) j) (sym (eqb-true t n e)) r
      by false e = same (J t)

  two_each : (J : ℕ → Job) (n m : ℕ) (t : ℕ) → R (J t) (put (put J n (at_job (J n) HandedBack)) m (at_job (J m) HandedBack) t)
  two_each J n m t = by (t == m) refl
    where
      by : (z : Bool) → (t == m) ≡ z → R (J t) (if z then at_job (J m) HandedBack else put J n (at_job (J n) HandedBack) t)
      by true e = subst (λ k. R (J k) (at_job (J m) HandedBack)) (sym (eqb-true t m e)) (back (J m))
      by false e = put_each J n (at_job (J n) HandedBack) t (back (J n))

  pieces_each : (c : Pieces) (k : Marking) (J : ℕ → Job) (t : ℕ) → (is_piece c t ≡ true → R (J t) (marked k c.pool (t - c.first) (J t))) → R (J t) (mark_pieces c k J t)
  pieces_each c k J t f = by (is_piece c t) refl
    where
      by : (z : Bool) → is_piece c t ≡ z → R (J t) (if z then marked k c.pool (t - c.first) (J t) else J t)
      by true e = f e
      by false e = same (J t)

  pub after_each : (q : Party) (g : Move) (J : ℕ → Job) → Starts R q g J → Markings R g J → (t : ℕ) → R (J t) (jobs_after q g J t)
  after_each q (Stay y) J s m t = same (J t)
  after_each q (Enter f y) J s m t = same (J t)
  after_each q Back J s m t = same (J t)
  after_each q (StartRun f a) J s m t = put_each J a (begun q (J a)) t s
  after_each q (HandIn y k) J s m t = put_each J k (at_job (J k) Spent) t (spent (J k))
  after_each q (Discard k) J s m t = put_each J k (at_job (J k) Spent) t (spent (J k))
  after_each q (Mark y c k) J s m t = pieces_each c k J t (m t)
  after_each q (HandAllBack c) J s m t = pieces_each c Returned J t (λ z. returned c.pool (t - c.first) (J t))
  after_each q (HandBack (Detach p a)) J s m t = put_each J a (at_job (J a) HandedBack) t (back (J a))
  after_each q (HandBack (Here p a)) J s m t = put_each J a (at_job (J a) HandedBack) t (back (J a))
  after_each q (HandBack (Send o)) J s m t = put_each J o.job (at_job (J o.job) HandedBack) t (back (J o.job))
  after_each q (HandBack (Open o)) J s m t = put_each J o.job (at_job (J o.job) HandedBack) t (back (J o.job))
  after_each q (HandBack (Enter o)) J s m t = put_each J o.job (at_job (J o.job) HandedBack) t (back (J o.job))
  after_each q (HandBack (Feed d)) J s m t = two_each J d.job d.token t
  after_each q (HandBack (Fork o a)) J s m t = two_each J a o.job t
  after_each q (HandBack (Gather g)) J s m t = pieces_each g.pieces Returned J t (λ z. returned (g.pieces).pool (t - (g.pieces).first) (J t))

-- a record as often begun as another, and over only if that is
abbrev Idle : Job → Job → Type 0
Idle j k = (k.runs ≡ j.runs) × ((d : Ending) → k.at ≡ Over d → j.at ≡ Over d)

-- or begun once more
abbrev Once : Job → Job → Type 0
Once j k = (k.runs ≡ j.runs + 1) × ((d : Ending) → k.at ≡ Over d → j.at ≡ Over d)

idle_same : (j : Job) → Idle j j
idle_same j = (refl, λ d e. e)

idle_at : (j : Job) (x : Whereabouts) → ((d : Ending) → x ≡ Over d → ⊥) → Idle j (at_job j x)
idle_at j x n = (refl, λ d e. absurd (n d e))

idle_marked : (k : Marking) (p i : ℕ) (j : Job) → Idle j (marked k p i j)
idle_marked Counted p i j = (refl, λ d e. e)
idle_marked (Numbered n) p i j = (refl, λ d e. e)
idle_marked Queued p i j = (refl, λ d e. absurd (cc))
idle_marked Dealt p i j = (refl, λ d e. absurd (cc))
idle_marked Unnumbered p i j = (refl, λ d e. e)
idle_marked Returned p i j = (refl, λ d e. absurd (cc))

-- a move begins the run at which its party stands then
abbrev begins_in : Move → ℕ → Bool
begins_in (StartRun f a) t = t == a
begins_in _ t = false

-- what an act makes of the record that it touches: begun once more only where its party comes to stand at that run
abbrev TouchesBy : World → Party → Place → List Place → Act → Seen × Part → Type 0
TouchesBy w q x fs a r = Idle (w.job (job_at w q a)) r.1.job ⊎ (Once (w.job (job_at w q a)) r.1.job × ((k : JobKind) × ((after_move (next_of (w.shape.pool (target_pool q a)) q x (r.0)) fs).top ≡ Run (job_at w q a) k)) ×
    ((t : ℕ) → begins_in (next_of (w.shape.pool (target_pool q a)) q x (r.0)) t ≡ false))

abbrev Touches : World → Party → Place → List Place → Seen × Part → Type 0
Touches w q x fs r = TouchesBy w q x fs (act_of q x) r

-- the act by which a job is pushed
abbrev pub push_by : Plan → Bool → Act
push_by n z = if z then PushOwn (plan_job n) (plan_book n) else PushInj (plan_pool n) (plan_job n) (plan_book n)

module _ (w : World) (fs : List Place) where
  pop_idle : (q : Party) (m : Part) (rest : List ℕ) (o : Option ℕ) → IfSome (popped q m rest o) (λ r. Idle m.job r.1.job)
  pop_idle q m rest None = idle_same m.job
  pop_idle q m rest (Some t) = (refl, λ d e. absurd (cc))

  inj_idle : (q : Party) (m : Part) (l : List ℕ) → IfSome (pop_injector q m l) (λ r. Idle m.job r.1.job)
  inj_idle q m [] = idle_same m.job
  inj_idle q m (t ∷ ts) = (refl, λ d e. absurd (cc))

  cast_idle : (q : Party) (m : Part) (l : List ℕ) → IfSome (take_cast q m l) (λ r. Idle m.job r.1.job)
  cast_idle q m [] = idle_same m.job
  cast_idle q m (t ∷ ts) = (refl, λ d e. absurd (cc))

  idly : (q : Party) (x : Place) (o : Outcome) → IfSome o (λ r. Idle (w.job (job_at w q (act_of q x))) r.1.job) → IfSome o (Touches w q x fs)
  idly q x o f = if_some_map (λ r. Idle (w.job (job_at w q (act_of q x))) r.1.job) (Touches w q x fs) (λ r i. inl i) o f

  pushed : (q : Party) (n : Plan) (v z : Bool) → IfSome (outcome_of w q (push_by n z)) (TouchesBy w q (PushJob n v) fs (push_by n z))
  pushed q n v true = inl (refl, λ d e. absurd (cc))
  pushed q n v false = inl (refl, λ d e. absurd (cc))

  touches : (q : Party) (x : Place) → IfSome (outcome w q (record { top = x; below = fs })) (Touches w q x fs)
  touches (Worker a b) (PopWorking k) = idly (Worker a b) (PopWorking k) _ (pop_idle (Worker a b) (part_at w (Worker a b) (record { top = PopWorking k; below = fs })) _ _)
  touches (Caller c) (PopWorking k) = tt
  touches (Worker a b) (PopIdle k) = idly (Worker a b) (PopIdle k) _ (pop_idle (Worker a b) (part_at w (Worker a b) (record { top = PopIdle k; below = fs })) _ _)
  touches (Caller c) (PopIdle k) = tt
  touches (Worker a b) (JoinPop k) = idly (Worker a b) (JoinPop k) _ (pop_idle (Worker a b) (part_at w (Worker a b) (record { top = JoinPop k; below = fs })) _ _)
  touches (Caller c) (JoinPop k) = tt
  touches (Worker a b) YieldPop = idly (Worker a b) YieldPop _ (pop_idle (Worker a b) (part_at w (Worker a b) (record { top = YieldPop; below = fs })) _ _)
  touches (Caller c) YieldPop = tt
  touches (Worker a b) LocalPop = idly (Worker a b) LocalPop _ (pop_idle (Worker a b) (part_at w (Worker a b) (record { top = LocalPop; below = fs })) _ _)
  touches (Caller c) LocalPop = tt
  touches (Worker a b) (StealFrom k n) = idly (Worker a b) (StealFrom k n) _ (pop_idle (Worker a b) (part_at w (Worker a b) (record { top = StealFrom k n; below = fs })) _ _)
  touches (Caller c) (StealFrom k n) = tt
  touches (Worker a b) (YieldSteal v n) = idly (Worker a b) (YieldSteal v n) _ (pop_idle (Worker a b) (part_at w (Worker a b) (record { top = YieldSteal v n; below = fs })) _ _)
  touches (Caller c) (YieldSteal v n) = tt
  touches (Worker a b) (PopInjected k) = idly (Worker a b) (PopInjected k) _ (inj_idle (Worker a b) (part_at w (Worker a b) (record { top = PopInjected k; below = fs })) _)
  touches (Caller c) (PopInjected k) = tt
  touches (Worker a b) YieldPopInjected = idly (Worker a b) YieldPopInjected _ (inj_idle (Worker a b) (part_at w (Worker a b) (record { top = YieldPopInjected; below = fs })) _)
  touches (Caller c) YieldPopInjected = tt
  touches (Worker a b) (TakeCastWorking k) = idly (Worker a b) (TakeCastWorking k) _ (cast_idle (Worker a b) (part_at w (Worker a b) (record { top = TakeCastWorking k; below = fs })) _)
  touches (Caller c) (TakeCastWorking k) = tt
  touches (Worker a b) (TakeCastIdle k) = idly (Worker a b) (TakeCastIdle k) _ (cast_idle (Worker a b) (part_at w (Worker a b) (record { top = TakeCastIdle k; below = fs })) _)
  touches (Caller c) (TakeCastIdle k) = tt
  touches (Worker a b) (JoinTakeCast o) = idly (Worker a b) (JoinTakeCast o) _ (cast_idle (Worker a b) (part_at w (Worker a b) (record { top = JoinTakeCast o; below = fs })) _)
  touches (Caller c) (JoinTakeCast o) = tt
  touches (Worker a b) YieldTakeCast = idly (Worker a b) YieldTakeCast _ (cast_idle (Worker a b) (part_at w (Worker a b) (record { top = YieldTakeCast; below = fs })) _)
  touches (Caller c) YieldTakeCast = tt
  touches (Worker a b) LocalTakeCast = idly (Worker a b) LocalTakeCast _ (cast_idle (Worker a b) (part_at w (Worker a b) (record { top = LocalTakeCast; below = fs })) _)
  touches (Caller c) LocalTakeCast = tt
  touches (Worker a b) (BeginTask (Plain t)) = inr ((refl, λ d e. absurd (cc)), ((w.job t).kind, refl), λ u. refl)
  touches (Caller c) (BeginTask (Plain t)) = inr ((refl, λ d e. absurd (cc)), ((w.job t).kind, refl), λ u. refl)
  touches (Worker a b) (BeginHere t) = inr ((refl, λ d e. absurd (cc)), (Direct, refl), λ u. refl)
  touches (Caller c) (BeginHere t) = inr ((refl, λ d e. absurd (cc)), (Direct, refl), λ u. refl)
  touches (Worker a b) (BeginTask (Token k i o)) = out_sees (Touches w (Worker a b) (BeginTask (Token k i o)) fs) (Worker a b) (part_at w (Worker a b) (record { top = BeginTask (Token k i o); below = fs })) o (inl (refl, λ d e. e))
      (λ u us e. inr ((refl, λ d e. absurd (cc)), (_, ap (λ l. Run (or_none (head_of l)) (w.job (or_none (head_of ((w.seat a i).fifo o)))).kind) (sym e)), λ u. refl))
  touches (Caller c) (BeginTask (Token k i o)) = out_sees (Touches w (Caller c) (BeginTask (Token k i o)) fs) (Caller c) (part_at w (Caller c) (record { top = BeginTask (Token k i o); below = fs })) o (inl (refl, λ d e. e))
      (λ u us e. inr ((refl, λ d e. absurd (cc)), (_, ap (λ l. Run (or_none (head_of l)) (w.job (or_none (head_of ((w.seat 0 i).fifo o)))).kind) (sym e)), λ u. refl))
  touches (Worker a b) (PushToken f v) = inl (refl, λ d e. absurd (cc))
  touches (Caller c) (PushToken f v) = tt
  touches (Worker a b) (AddToFifo f) = if_cond (Touches w (Worker a b) (AddToFifo f) fs) (is_open (Worker a b) ((w.seat a b).feeder (count_book f.count))) _ (λ o. inl (refl, λ d e. absurd (cc)))
  touches (Caller c) (AddToFifo f) = tt
  touches (Worker a b) (TakeFromFifo f) = undo_sees (Touches w (Worker a b) (TakeFromFifo f) fs) (Worker a b) (part_at w (Worker a b) (record { top = TakeFromFifo f; below = fs })) (count_book f.count) (inl (refl, λ d e. e)) (λ u e. inl (refl, λ d e. absurd (cc)))
  touches (Caller c) (TakeFromFifo f) = tt
  touches (Worker a b) (PushForAll c) = inl (refl, λ d e. e)
  touches (Caller n) (PushForAll c) = inl (refl, λ d e. e)
  touches (Worker a b) (DealPieces g) = inl (refl, λ d e. e)
  touches (Caller n) (DealPieces g) = inl (refl, λ d e. e)
  touches (Worker a b) (PushJob n v) = pushed (Worker a b) n v (is_member (Worker a b) (plan_pool n))
  touches (Caller c) (PushJob n v) = pushed (Caller c) n v (is_member (Caller c) (plan_pool n))
  touches q x = idly q x (outcome w q (record { top = x; below = fs })) (if_some_map (SameJobs (part_at w q (record { top = x; below = fs }))) (λ r. Idle (w.job (job_at w q (act_of q x))) r.1.job) (λ r s. (s.runs, λ d e. sym (s.at) ∙ e)) (outcome w q (record { top = x; below = fs }))
      (quiet_same w.shape q (counts_at w (target_pool q (act_of q x))) (part_at w q (record { top = x; below = fs })) x refl))

-- a step for each job, but for what the event says of its run
record StepIdle (w v : World) (e : Event) (t : ℕ) : Type 0 where
  over : (d : Ending) → (v.job t).at ≡ Over d → ((w.job t).at ≡ Over d) ⊎ Ends w e t d
  begins : ((v.job t).runs ≡ (w.job t).runs) ⊎ (((v.job t).runs ≡ (w.job t).runs + 1) × Begins v e t)

abbrev Idles : World → Event → World → Type 0
Idles w e v = (t : ℕ) → StepIdle w v e t

moved_idle : (q : Party) (g : Move) (J : ℕ → Job) (t : ℕ) → begins_in g t ≡ false → Idle (J t) (jobs_after q g J t)
moved_idle q (StartRun f a) J t n = rw n (idle_same (J t))
moved_idle q (Mark y c k) J t n = after_each Idle idle_same (λ j. idle_at j HandedBack (λ d e. cc)) (λ j. idle_at j Spent (λ d e. cc)) (λ p i j. idle_marked Returned p i j) q (Mark y c k) J tt (λ t z. idle_marked k c.pool (t - c.first) (J t)) t
moved_idle q g J t n = after_each Idle idle_same (λ j. idle_at j HandedBack (λ d e. cc)) (λ j. idle_at j Spent (λ d e. cc)) (λ p i j. idle_marked Returned p i j) q g J tt tt t

moved_once : (q : Party) (g : Move) (J : ℕ → Job) (fs : List Place) (t : ℕ) → begins_in g t ≡ true → Once (J t) (jobs_after q g J t) × ((after_move g fs).top ≡ Run t Direct)
moved_once q (StartRun f a) J fs t e = let s : t ≡ a = eqb-true t a e in (rw e (ap (λ n. (J n).runs + 1) (sym s), λ d z. absurd (cc)), ap (λ n. Run n Direct) (sym s))
moved_once q _ J fs t e = absurd (cc)

module _ (w : World) (q : Party) (r : Seen × Part) (f : Touches w q (w.stack q).top (w.stack q).below r) where
  abbrev n : ℕ
  n = job_at w q (act_of q (w.stack q).top)

  abbrev g : Move
  g = next_at w q (w.stack q) (r.0)

  abbrev J : ℕ → Job
  J = put w.job n (r.1.job)

  abbrev after_it : World
  after_it = result w q (w.stack q) r

  mine : after_it.stack q ≡ after_move g (w.stack q).below
  mine = stack_mine w.stack q (after_move g (w.stack q).below)

  at_run : (t : ℕ) (k : JobKind) → (after_move g (w.stack q).below).top ≡ Run t k → Begins after_it (Go q) t
  at_run t k e = record { party = q; kind = k; act = refl; runs = ap (λ s. s.top) mine ∙ e }

  from_once : (t : ℕ) (j : Job) → Once j (after_it.job t) → Idle (w.job t) j → Begins after_it (Go q) t → StepIdle w after_it (Go q) t
  from_once t j o i b = record { over = λ d e. inl (i.1 d (o.1 d e)); begins = inr (o.0 ∙ ap (λ m. m + 1) (i.0), b) }

  from_idle : (t : ℕ) (j : Job) → Idle j (after_it.job t) → Idle (w.job t) j → StepIdle w after_it (Go q) t
  from_idle t j o i = record { over = λ d e. inl (i.1 d (o.1 d e)); begins = inl (o.0 ∙ i.0) }

  -- the record as the act leaves it
  acted : (t : ℕ) (z : Bool) → (t == n) ≡ z → Idle (w.job t) (if z then r.1.job else w.job t) ⊎ ((t ≡ n) × Once (w.job n) r.1.job × ((k : JobKind) × ((after_move g (w.stack q).below).top ≡ Run n k)) × ((u : ℕ) → begins_in g u ≡ false))
  acted t false e = inl (idle_same (w.job t))
  acted t true e = let s : t ≡ n = eqb-true t n e in elim f [ inl i ↦ inl (subst (λ m. Idle (w.job m) r.1.job) (sym s) i) | inr o ↦ inr (s, o.0, o.1, o.2) ]

  step_one : (t : ℕ) (z : Bool) → begins_in g t ≡ z → StepIdle w after_it (Go q) t
  step_one t true e = elim (acted t (t == n) refl) [
    | inl i ↦ (let o : Once (J t) (after_it.job t) × ((after_move g (w.stack q).below).top ≡ Run t Direct) = moved_once q g J (w.stack q).below t e in from_once t (J t) (o.0) i (at_run t Direct (o.1)))
    | inr o ↦ absurd (let b : true ≡ false = sym e ∙ o.3 t in cc)
  ]
  step_one t false e = elim (acted t (t == n) refl) [
    | inl i ↦ from_idle t (J t) (moved_idle q g J t e) i
    | inr o ↦ (let i : Idle (J t) (after_it.job t) = moved_idle q g J t e in
        let s : J t ≡ r.1.job = ap J (o.0) ∙ put_new w.job n (r.1.job) in
        record {
          over = λ d z. inl (ap (λ m. (w.job m).at) (o.0) ∙ (o.1).1 d (ap (λ j. j.at) (sym s) ∙ i.1 d z));
          begins = inr (i.0 ∙ ap (λ j. j.runs) s ∙ (o.1).0 ∙ ap (λ m. (w.job m).runs + 1) (sym (o.0)), at_run t ((o.2).0) ((o.2).1 ∙ ap (λ m. Run m ((o.2).0)) (sym (o.0))));
        })
  ]

go_idle : (w : World) (q : Party) → IfSome (step w (Go q)) (Idles w (Go q))
go_idle w q = acted_keeps w q (w.stack q) (target_pool q (act_of q (w.stack q).top)) (target_worker q (act_of q (w.stack q).top)) (target_call (act_of q (w.stack q).top)) (job_at w q (act_of q (w.stack q).top)) (outcome w q (w.stack q)) (Idles w (Go q))
    (if_some_map (Touches w q (w.stack q).top (w.stack q).below) (λ r. Idles w (Go q) (result w q (w.stack q) r)) (λ r f t. step_one w q r f t (begins_in (next_at w q (w.stack q) (r.0)) t) refl) (outcome w q (w.stack q)) (touches w (w.stack q).below q (w.stack q).top))

-- an event that is no act, and ends no run, begins none and makes no job that has begun
abbrev Rests : World → World → Type 0
Rests w v = (t : ℕ) → Idle (w.job t) (v.job t)

-- a job that is made now, where there was none
abbrev Unbegun : World → Type 0
Unbegun w = (t : ℕ) → w.jobs ≤ t → (w.job t).runs ≡ 0

abbrev IsNew : Job → Type 0
IsNew j = (j.runs ≡ 0) × ((d : Ending) → j.at ≡ Over d → ⊥)

new_idle : (w : World) (t : ℕ) (j : Job) → Unbegun w → w.jobs ≤ t → IsNew j → Idle (w.job t) j
new_idle w t j u l n = (n.0 ∙ sym (u t l), λ d e. absurd (n.1 d e))

one_rests : (w : World) (j : Job) (t : ℕ) → Unbegun w → IsNew j → Idle (w.job t) (put w.job w.jobs j t)
one_rests w j t u n = by (t == w.jobs) refl
  where
    by : (z : Bool) → (t == w.jobs) ≡ z → Idle (w.job t) (if z then j else w.job t)
    by true e = new_idle w t j u (let s : t ≡ w.jobs = eqb-true t w.jobs e in omega (arith, s)) n
    by false e = idle_same (w.job t)

two_rests : (w : World) (j k : Job) (t : ℕ) → Unbegun w → IsNew j → IsNew k → Idle (w.job t) (put (put w.job w.jobs j) (w.jobs + 1) k t)
two_rests w j k t u n m = by (t == (w.jobs + 1)) refl
  where
    by : (z : Bool) → (t == (w.jobs + 1)) ≡ z → Idle (w.job t) (if z then k else put w.job w.jobs j t)
    by true e = new_idle w t k u (let s : t ≡ w.jobs + 1 = eqb-true t (w.jobs + 1) e in omega (arith, s)) m
    by false e = one_rests w j t u n

deal_rests : (w : World) (c : Pieces) (f : ℕ → Job → Job) (t : ℕ) → c.first ≡ w.jobs → Unbegun w → ((i : ℕ) (j : Job) → IsNew (f i j)) → Idle (w.job t) (put_pieces c f w.job t)
deal_rests w c f t is u n = by (is_piece c t) refl
  where
    by : (z : Bool) → is_piece c t ≡ z → Idle (w.job t) (if z then f (t - c.first) (w.job t) else w.job t)
    by true e = new_idle w t (f (t - c.first) (w.job t)) u (let a : c.first ≤ t = (piece_range c t e).0 in omega (arith, a, is)) (n (t - c.first) (w.job t))
    by false e = idle_same (w.job t)

gather_rests : (w : World) (q : Party) (p : ℕ) → Unbegun w → Rests w (after_gather w q p (w.stack q))
gather_rests w q p u t = by (t == (w.jobs + c.workers)) refl
  where
    c : Pieces
    c = record { count = OfCast w.calls q; pool = p; first = w.jobs; workers = (w.shape.pool p).workers }

    by : (z : Bool) → (t == (w.jobs + c.workers)) ≡ z → Idle (w.job t) (if z then new_whole q p w.calls else put_pieces c (λ i j. new_piece q c.count p i) w.job t)
    by true e = new_idle w t (new_whole q p w.calls) u (let s : t ≡ w.jobs + c.workers = eqb-true t (w.jobs + c.workers) e in omega (arith, s)) (refl, λ d z. cc)
    by false e = deal_rests w c (λ i j. new_piece q c.count p i) t refl u (λ i j. (refl, λ d z. cc))

from_rests : (w : World) (q : Party) (s : Stack) (x : Place) (v : ℕ) → IfSome (after_choice w q s x v) (Rests w)
from_rests w q s (PickVictim k) v = if_cond (Rests w) _ _ (λ b t. idle_same (w.job t))
from_rests w q s YieldPick v = if_cond (Rests w) _ _ (λ b t. idle_same (w.job t))
from_rests w q s _ v = tt

miss_rests : (w : World) (q : Party) (s : Stack) (x : Place) → IfSome (after_miss w q s x) (Rests w)
miss_rests w (Worker a b) s (StealFrom k n) = if_cond (Rests w) _ _ (λ b t. idle_same (w.job t))
miss_rests w (Worker a b) s (YieldSteal v n) = if_cond (Rests w) _ _ (λ b t. idle_same (w.job t))
miss_rests w (Worker a b) s _ = tt
miss_rests w (Caller n) s _ = tt

sent_rests : (w : World) (q : Party) (p : ℕ) (b : Bool) → Unbegun w → Rests w (after_send w q p (w.stack q) b)
sent_rests w q p true u t = one_rests w (new_job q p Direct) t u (refl, λ d z. cc)
sent_rests w q p false u t = one_rests w (new_job q p (Stored w.calls q)) t u (refl, λ d z. cc)

join_rests : (w : World) (q : Party) → Unbegun w → IfSome (after_join w q (w.stack q)) (Rests w)
join_rests w (Caller n) u = tt
join_rests w (Worker a b) u = if_cond (Rests w) (is_free (w.stack (Worker a b)).top) _ (λ z t. two_rests w _ _ t u (refl, λ d z. cc) (refl, λ d z. cc))

yield_rests : (w : World) (q : Party) (x : Place) → IfSome (after_yield w q (w.stack q) x) (Rests w)
yield_rests w (Worker a b) x = if_cond (Rests w) _ _ (λ b t. idle_same (w.job t))
yield_rests w (Caller n) x = tt

feed_rests : (w : World) (k : Count) (p i : ℕ) → Unbegun w → Rests w (after_feed w k p i (w.stack (Worker p i)))
feed_rests w k p i u t = two_rests w _ _ t u (refl, λ d z. cc) (refl, λ d z. cc)

dealt_rests : (w : World) (q : Party) (k : Count) (p : ℕ) → Unbegun w → Rests w (after_deal w q k p (w.stack q))
dealt_rests w q k p u t = deal_rests w (record { count = k; pool = p; first = w.jobs; workers = (w.shape.pool p).workers }) (λ i j. new_piece q k p i) t refl u (λ i j. (refl, λ d z. cc))

rested : (w v : World) (e : Event) → Rests w v → Idles w e v
rested w v e f t = record { over = λ d z. inl ((f t).1 d z); begins = inl ((f t).0) }

end_idle : (w : World) (q : Party) (d : Ending) (x : Place) → (w.stack q).top ≡ x → IfSome (after_end w q d (w.stack q) x) (Idles w (End q d))
end_idle w q d (Run n k) z = λ t. record { over = λ c y. over t c (t == n) refl y; begins = inl (runs t (t == n) refl) }
  where
    over : (t : ℕ) (c : Ending) (b : Bool) → (t == n) ≡ b → (if b then at_job (w.job n) (Over d) else w.job t).at ≡ Over c → ((w.job t).at ≡ Over c) ⊎ Ends w (End q d) t c
    over t c true e y = inr (let s : d ≡ c = cc in record { party = q; kind = k; event = ap (End q) s; runs = z ∙ ap (λ m. Run m k) (sym (eqb-true t n e)) })
    over t c false e y = inl y

    runs : (t : ℕ) (b : Bool) → (t == n) ≡ b → (if b then at_job (w.job n) (Over d) else w.job t).runs ≡ (w.job t).runs
    runs t true e = ap (λ m. (w.job m).runs) (sym (eqb-true t n e))
    runs t false e = refl
end_idle w q d _ z = tt

-- what each step makes of each record
each_idle : (w : World) (e : Event) → Unbegun w → IfSome (step w e) (Idles w e)
each_idle w (Go q) u = go_idle w q
each_idle w (End q d) u = end_idle w q d (w.stack q).top refl
each_idle w e u = if_some_map (Rests w) (Idles w e) (λ v f. rested w v e f) (step w e) (rests e refl)
  where
    goes : Event → Bool
    goes (Go q) = true
    goes (End q d) = true
    goes e = false

    rests : (e : Event) → goes e ≡ false → IfSome (step w e) (Rests w)
    rests (Go q) n = cc
    rests (End q d) n = cc
    rests (From q v) n = from_rests w q (w.stack q) (w.stack q).top v
    rests (Refuse q) n = if_cond (Rests w) _ _ (λ b t. idle_same (w.job t))
    rests (Miss q) n = miss_rests w q (w.stack q) (w.stack q).top
    rests (Spawn q p) n = if_cond (Rests w) _ _ (λ b t. one_rests w _ t u (refl, λ d z. cc))
    rests (Fifo q p) n = fifo_cases (Rests w) w q p (if_cond (Rests w) _ _ (λ b t. one_rests w _ t u (refl, λ d z. cc))) (λ i free. feed_rests w (OfPool p) p i u)
    rests (Cast q p) n = if_cond (Rests w) (is_free ((w.stack q).top) && is_pool w.shape p) _ (λ b. dealt_rests w q (OfPool p) p u)
    rests (Install q p) n = if_cond (Rests w) _ _ (λ b. sent_rests w q p (is_member q p) u)
    rests (Join q) n = join_rests w q u
    rests (OpenScope q p) n = if_cond (Rests w) _ _ (λ b t. one_rests w _ t u (refl, λ d z. cc))
    rests (IntoSpawn q k) n = into_cases (Rests w) w q k (λ z e free held. if_cond (Rests w) _ _ (λ b t. one_rests w _ t u (refl, λ d z. cc)))
    rests (IntoFifo q k) n = into_fifo_cases (Rests w) w q k (λ z e free held. if_cond (Rests w) _ _ (λ b t. one_rests w _ t u (refl, λ d z. cc))) (λ z i e free held. feed_rests w (OfScope z.call z.owner) z.pool i u)
    rests (IntoCast q k) n = into_cast_cases (Rests w) w q k (λ z e free held. dealt_rests w q (OfScope z.call z.owner) z.pool u)
    rests (Broadcast q p) n = if_cond (Rests w) (is_free ((w.stack q).top) && is_pool w.shape p) _ (λ b. gather_rests w q p u)
    rests (Yield q) n = yield_rests w q YieldPop
    rests (YieldLocal q) n = yield_rests w q LocalPop
    rests (EndPool q p) n = if_cond (Rests w) _ _ (λ b t. idle_same (w.job t))

-- where a run ends its job is over so
end_over : (w : World) (q : Party) (d : Ending) (t : ℕ) (k : JobKind) → (w.stack q).top ≡ Run t k → IfSome (step w (End q d)) (λ v. (v.job t).at ≡ Over d)
end_over w q d t k e = subst (λ x. IfSome (after_end w q d (w.stack q) x) (λ v. (v.job t).at ≡ Over d)) (sym e) (ap (λ j. j.at) (put_new w.job t (at_job (w.job t) (Over d))))

unbegun : (w : World) → IsOnce w → Unbegun w
unbegun w h t l = h.unbegun t (ap may_begin (h.unknown t l))

pub ends_law : EndsLaw
ends_law h es w v e t r s = record {
  ends = λ d n. made (λ u. (u.job t).at ≡ Over d) w v (End n.party d) (ap (step w) (sym n.event) ∙ s) (end_over w n.party d t n.kind n.runs);
  over = f.over;
  begins = f.begins;
}
  where
    f : StepIdle w v e t
    f = made (Idles w e) w v e s (each_idle w e (unbegun w (always_once h es w r))) t
