-- what each act does to the lists and to the job that it touches
use Rattle.std.proofs.Common.{rules, arith, refl, ap, inl, inr}
use Rattle.std.specs.Prelude.{ℕ, Bool, true, false, ◌+◌, ◌==◌, if◌then◌else◌, Option, Some, None, List, [], ◌∷◌, ◌++◌, ◌≡◌, IfSome, ◌⊎◌}
use Rattle.rayon_machine_places.specs.declared.shape.Order.{Order}
use Rattle.rayon_machine_places.specs.declared.shape.Order.TheVariants.{NewestFirst, OldestFirst}
use Rattle.rayon_machine_places.specs.declared.place.Party.{Party}
use Rattle.rayon_machine_places.specs.declared.place.Party.TheVariants.{Worker, Caller}
use Rattle.rayon_machine_places.specs.declared.place.Latch.{Latch}
use Rattle.rayon_machine_places.specs.declared.place.Latch.TheVariants.{Terminate, OfCall}
use Rattle.rayon_machine_places.specs.declared.place.Place.{Place}
use Rattle.rayon_machine_places.specs.declared.place.Place.TheVariants.{ProbeWorking, PopWorking, TakeCastWorking, PopIdle, TakeCastIdle, StealFrom, PopInjected, JoinPop, JoinTakeCast, YieldPop, YieldTakeCast, YieldSteal, YieldPopInjected, LocalPop, LocalTakeCast, BeginTask}
use Rattle.rayon_machine_places.specs.declared.place.Place.TheVariants.{BeginHere, PushJob, AddToFifo, PushToken, TakeFromFifo, SetLatch, PushForAll, DealPieces}
use Rattle.rayon_machine_places.specs.declared.place.Plan.{Plan}
use Rattle.rayon_machine_places.specs.declared.place.Taken.TheVariants.{Plain, Token}
use Rattle.rayon_machine_places.specs.declared.act.Act.TheVariants.{PushOwn, PushInj}
use Rattle.rayon_machine_places.specs.declared.act.Seen.{Seen}
use Rattle.rayon_machine_runs.specs.declared.state.Letter.{Letter}
use Rattle.rayon_machine_runs.specs.declared.state.Letter.TheVariants.{Unset}
use Rattle.rayon_machine_runs.specs.declared.state.Whereabouts.{Whereabouts}
use Rattle.rayon_machine_runs.specs.declared.state.Whereabouts.TheVariants.{Over, HandedBack, Spent}
use Rattle.rayon_machine_places.specs.Places.{act_of, is_member, plan_pool, plan_job, plan_book, count_book}
use Rattle.rayon_machine_runs.specs.World.{Shape, Part, head_of, last_of, but_first, but_last, own_of, own_left, letter, set_latch, is_open, popped, pop_injector, take_cast, effect}
use Rattle.rayon_machine_places.specs.Sleepers.{Counts}
use Rattle.rayon_machine_laws.specs.Once.{one, times}
use Rattle.rayon_machine_laws.proofs.Frame.{either, if_cond, if_some_map, out_sees, undo_sees}
use Rattle.rayon_machine_laws.proofs.Hands.{got, outs}

-- places whose acts neither take nor push nor begin
abbrev pub moves_no_job : Place → Bool
moves_no_job (PopWorking k) = false
moves_no_job (TakeCastWorking k) = false
moves_no_job (PopIdle k) = false
moves_no_job (TakeCastIdle k) = false
moves_no_job (StealFrom k n) = false
moves_no_job (PopInjected k) = false
moves_no_job (JoinPop o) = false
moves_no_job (JoinTakeCast o) = false
moves_no_job YieldPop = false
moves_no_job YieldTakeCast = false
moves_no_job (YieldSteal v n) = false
moves_no_job YieldPopInjected = false
moves_no_job LocalPop = false
moves_no_job LocalTakeCast = false
moves_no_job (BeginTask t) = false
moves_no_job (BeginHere t) = false
moves_no_job (PushJob n e) = false
moves_no_job (AddToFifo f) = false
moves_no_job (PushToken f e) = false
moves_no_job (TakeFromFifo f) = false
moves_no_job (PushForAll c) = false
moves_no_job (DealPieces g) = false
moves_no_job _ = true

-- the lists and the job's whereabouts are as before
pub record SameJobs (m : Part) (r : Seen × Part) : Type 0 where
  pub own : r.1.seat.own ≡ m.seat.own
  pub fifo : r.1.seat.fifo ≡ m.seat.fifo
  pub feeder : r.1.seat.feeder ≡ m.seat.feeder
  pub casts : r.1.pool.casts ≡ m.pool.casts
  pub injector : r.1.pool.injector ≡ m.pool.injector
  pub at : r.1.job.at ≡ m.job.at
  pub runs : r.1.job.runs ≡ m.job.runs
  pub nothing : (t : ℕ) → (got t (r.0) ≡ 0) × (outs t (r.0) ≡ 0)

set_same : (l : Latch) (m : Part) (x : Letter) → IfSome (set_latch l m x) (SameJobs m)
set_same Terminate m Unset = search (rules, arith)
set_same Terminate m _ = search (rules, arith)
set_same (OfCall c) m Unset = search (rules, arith)
set_same (OfCall c) m _ = search (rules, arith)

pub quiet_same : (h : Shape) (q : Party) (c : Counts) (m : Part) (x : Place) → moves_no_job x ≡ true → IfSome (effect (act_of q x) h q c m) (SameJobs m)
quiet_same h (Worker a b) c m (ProbeWorking k) z = search (rules, arith)
quiet_same h (Worker a b) c m (SetLatch k) z = set_same k.latch m (letter k.latch m)
quiet_same h (Worker a b) c m _ z = search (rules, arith)
quiet_same h (Caller n) c m (SetLatch k) z = set_same k.latch m (letter k.latch m)
quiet_same h (Caller n) c m _ z = search (rules, arith)

-- a take from either end of a list: one less of that number, and of no other
pub times_first : (l : List ℕ) (t u : ℕ) → head_of l ≡ Some u → times t l ≡ (one (t == u) + times t (but_first l))
times_first [] t u e = cc
times_first (v ∷ vs) t u e = let s : v ≡ u = cc in ap (λ z. one (t == z) + times t vs) s

pub times_last : (l : List ℕ) (t u : ℕ) → last_of l ≡ Some u → times t l ≡ (one (t == u) + times t (but_last l))
times_last [] t u e = cc
times_last (v ∷ []) t u e = let s : v ≡ u = cc in ap (λ z. one (t == z) + 0) s
times_last (v ∷ y ∷ vs) t u e = let k : times t (y ∷ vs) ≡ (one (t == u) + times t (but_last (y ∷ vs))) = times_last (y ∷ vs) t u e in let g : (one (t == v) + times t (y ∷ vs)) ≡ (one (t == u) + (one (t == v) + times t (but_last (y ∷ vs)))) = omega (arith, k) in g

pub times_own : (b : Order) (l : List ℕ) (t u : ℕ) → own_of b l ≡ Some u → times t l ≡ (one (t == u) + times t (own_left b l))
times_own NewestFirst l t u e = times_last l t u e
times_own OldestFirst l t u e = times_first l t u e

pub times_push : (l : List ℕ) (t u : ℕ) → times t (l ++ u ∷ []) ≡ (times t l + one (t == u))
times_push [] t u = omega arith
times_push (v ∷ vs) t u = let k : times t (vs ++ u ∷ []) ≡ (times t vs + one (t == u)) = times_push vs t u in omega (arith, k)

pub times_drop : (l : List ℕ) (t u : ℕ) → last_of l ≡ Some u → times t l ≡ (one (t == u) + times t (but_last l))
times_drop l t u e = times_last l t u e

-- where a job is over, handed back or spent
abbrev pub is_settled : Whereabouts → Bool
is_settled (Over d) = true
is_settled HandedBack = true
is_settled Spent = true
is_settled _ = false

-- an act leaves its job where it is, or brings it to where it is none of these
abbrev pub Onward : Part → Seen × Part → Type 0
Onward m r = (r.1.job.at ≡ m.job.at) ⊎ (is_settled r.1.job.at ≡ false)

pop_on : (q : Party) (m : Part) (rest : List ℕ) (o : Option ℕ) → IfSome (popped q m rest o) (Onward m)
pop_on q m rest None = inl refl
pop_on q m rest (Some t) = inr refl

inj_on : (q : Party) (m : Part) (l : List ℕ) → IfSome (pop_injector q m l) (Onward m)
inj_on q m [] = inl refl
inj_on q m (t ∷ ts) = inr refl

cast_on : (q : Party) (m : Part) (l : List ℕ) → IfSome (take_cast q m l) (Onward m)
cast_on q m [] = inl refl
cast_on q m (t ∷ ts) = inr refl

push_on : (h : Shape) (q : Party) (c : Counts) (m : Part) (n : Plan) (z : Bool) → IfSome (effect (if z then PushOwn (plan_job n) (plan_book n) else PushInj (plan_pool n) (plan_job n) (plan_book n)) h q c m) (Onward m)
push_on h q c m n true = inr refl
push_on h q c m n false = inr refl

loud_on : (h : Shape) (q : Party) (c : Counts) (m : Part) (x : Place) → moves_no_job x ≡ false → IfSome (effect (act_of q x) h q c m) (Onward m)
loud_on h (Worker a b) c m (PopWorking k) e = pop_on (Worker a b) m _ _
loud_on h (Caller d) c m (PopWorking k) e = tt
loud_on h (Worker a b) c m (PopIdle k) e = pop_on (Worker a b) m _ _
loud_on h (Caller d) c m (PopIdle k) e = tt
loud_on h (Worker a b) c m (JoinPop o) e = pop_on (Worker a b) m _ _
loud_on h (Caller d) c m (JoinPop o) e = tt
loud_on h (Worker a b) c m YieldPop e = pop_on (Worker a b) m _ _
loud_on h (Caller d) c m YieldPop e = tt
loud_on h (Worker a b) c m LocalPop e = pop_on (Worker a b) m _ _
loud_on h (Caller d) c m LocalPop e = tt
loud_on h (Worker a b) c m (StealFrom k n) e = pop_on (Worker a b) m _ _
loud_on h (Caller d) c m (StealFrom k n) e = tt
loud_on h (Worker a b) c m (YieldSteal v n) e = pop_on (Worker a b) m _ _
loud_on h (Caller d) c m (YieldSteal v n) e = tt
loud_on h (Worker a b) c m (PopInjected k) e = inj_on (Worker a b) m _
loud_on h (Caller d) c m (PopInjected k) e = tt
loud_on h (Worker a b) c m YieldPopInjected e = inj_on (Worker a b) m _
loud_on h (Caller d) c m YieldPopInjected e = tt
loud_on h (Worker a b) c m (TakeCastWorking k) e = cast_on (Worker a b) m _
loud_on h (Caller d) c m (TakeCastWorking k) e = tt
loud_on h (Worker a b) c m (TakeCastIdle k) e = cast_on (Worker a b) m _
loud_on h (Caller d) c m (TakeCastIdle k) e = tt
loud_on h (Worker a b) c m (JoinTakeCast o) e = cast_on (Worker a b) m _
loud_on h (Caller d) c m (JoinTakeCast o) e = tt
loud_on h (Worker a b) c m YieldTakeCast e = cast_on (Worker a b) m _
loud_on h (Caller d) c m YieldTakeCast e = tt
loud_on h (Worker a b) c m LocalTakeCast e = cast_on (Worker a b) m _
loud_on h (Caller d) c m LocalTakeCast e = tt
loud_on h q c m (BeginTask (Plain t)) e = inr refl
loud_on h q c m (BeginTask (Token k i b)) e = out_sees (Onward m) q m b (inl refl) (λ u us is. inr refl)
loud_on h q c m (BeginHere t) e = inr refl
loud_on h q c m (PushForAll b) e = inl refl
loud_on h q c m (DealPieces g) e = inl refl
loud_on h (Worker a b) c m (PushJob n v) e = push_on h (Worker a b) c m n (is_member (Worker a b) (plan_pool n))
loud_on h (Caller d) c m (PushJob n v) e = push_on h (Caller d) c m n (is_member (Caller d) (plan_pool n))
loud_on h (Worker a b) c m (PushToken f v) e = inr refl
loud_on h (Caller d) c m (PushToken f v) e = tt
loud_on h (Worker a b) c m (AddToFifo f) e = if_cond (Onward m) (is_open (Worker a b) (m.seat.feeder (count_book f.count))) _ (λ o. inr refl)
loud_on h (Caller d) c m (AddToFifo f) e = tt
loud_on h (Worker a b) c m (TakeFromFifo f) e = undo_sees (Onward m) (Worker a b) m (count_book f.count) (inl refl) (λ u is. inr refl)
loud_on h (Caller d) c m (TakeFromFifo f) e = tt
loud_on h q c m _ e = cc

pub act_on : (h : Shape) (q : Party) (c : Counts) (m : Part) (x : Place) → IfSome (effect (act_of q x) h q c m) (Onward m)
act_on h q c m x = elim (either (moves_no_job x)) [
  | inl e ↦ if_some_map (SameJobs m) (Onward m) (λ r s. inl (s.at)) (effect (act_of q x) h q c m) (quiet_same h q c m x e)
  | inr e ↦ loud_on h q c m x e
]
