-- each step keeps each job in its one place
--
-- A push of the pieces of a broadcast, with its move: `deal_ok`. Pieces are handed back: `all_back`. A join's first
-- side begins: `start_run`. A refused call hands its jobs back: `hand_back`.
use Rattle.rayon_machine_places.specs.declared.place.Mark.{Mark as Marking}
use Rattle.rayon_machine_places.specs.declared.place.Gathering.{Gathering}
use Rattle.rayon_machine_places.specs.declared.place.Count.TheVariants.{OfPool}
use Rattle.rayon_machine_laws.proofs.Cases.{Turn, NoCall, NoScope, NoSlot, NoPush, NoPushIn, NoFifo, NoFifoIn, turn_from, turn_to}
use Rattle.rayon_machine_laws.proofs.Lists.{times_push}
use Rattle.rayon_machine_places.specs.declared.act.Seen.{Seen}
use Rattle.rayon_machine_places.specs.declared.place.Then.{Then}
use Rattle.rayon_machine_places.specs.declared.place.Mark.TheVariants.{Counted, Queued, Returned, Numbered, Dealt, Unnumbered}
use Rattle.rayon_machine_places.specs.declared.place.Settling.{Settling}
use Rattle.rayon_machine_places.specs.declared.place.Latch.TheVariants.{Terminate, OfCall}
use Rattle.rayon_machine_places.specs.declared.place.Latch.{Latch}
use Rattle.rayon_machine_places.specs.declared.place.Pieces.{Pieces}
use Rattle.std.proofs.lemmas.Bool.Decides.{nat_tests}
use Rattle.std.proofs.Common.{arith, rules, refl, sym, ◌∙◌, ap, subst}
use Rattle.std.specs.Prelude.{ℕ, Bool, true, false, ◌&&◌, ◌+◌, ◌-◌, ◌==◌, ◌≤◌, nat_lt, if◌then◌else◌, Some, None, List, [], ◌∷◌, ◌≡◌, IfSome, ⊤, ◌++◌, nat_le}
use Rattle.std.proofs.lemmas.Bool.{eqb-true}
use Rattle.rayon_machine_places.specs.declared.place.Party.{Party}
use Rattle.rayon_machine_places.specs.declared.place.Party.TheVariants.{Worker, Caller}
use Rattle.rayon_machine_places.specs.declared.place.JobKind.TheVariants.{Direct}
use Rattle.rayon_machine_places.specs.declared.place.Plan.{Plan}
use Rattle.rayon_machine_places.specs.declared.place.Plan.TheVariants.{Detach, Here, Send, Fork, Feed, Open, Enter, Gather}
use Rattle.rayon_machine_places.specs.declared.place.Share.TheVariants.{PoolValue}
use Rattle.rayon_machine_places.specs.declared.place.Then.TheVariants.{Resume, BeginFound, LeaveWait, Await, RunFirst, Answers, Missing as NoAnswer, Ran, GiveBack, Called, Gathers}
use Rattle.rayon_machine_places.specs.declared.place.Place.{Place}
use Rattle.rayon_machine_places.specs.declared.place.Place.TheVariants.{BeginHere, Run, RaiseCount, GrowCall, PushJob, AddToFifo, LowerCount, ProbeWorking, RaiseForAll, PushForAll, SetLatch, UnlockSettled, OpenSlot, DealPieces}
use Rattle.rayon_machine_places.specs.declared.place.Move.{Move}
use Rattle.rayon_machine_places.specs.declared.place.Move.TheVariants.{Stay, Enter, StartRun, Back, HandBack, Discard, HandIn, Mark, HandAllBack}
use Rattle.rayon_machine_places.specs.declared.act.Seen.TheVariants.{Refused, Done, Yes}
use Rattle.rayon_machine_runs.specs.declared.state.Whereabouts.{Whereabouts}
use Rattle.rayon_machine_runs.specs.declared.state.Whereabouts.TheVariants.{Nowhere, Made, InDeque, Injected, InFifo, Retaken, Running, Over, HandedBack, Spent, InCast}
use Rattle.rayon_machine_places.specs.declared.shape.PoolShape.{PoolShape}
use Rattle.rayon_machine_runs.specs.declared.state.Job.{Job}
use Rattle.rayon_machine_runs.specs.declared.state.Call.{Call}
use Rattle.rayon_machine_places.specs.Places.{same_party, act_of, next_of, finish, after_set, call_all, gather_all, withdraw}
use Rattle.rayon_machine_runs.specs.World.{Seat, Pool, Stack, World, at_job, begun, Shape, Part, counts_at, casts_with, effect, left_book, undealt_after, count_call, count_book}
use Rattle.rayon_machine_places.specs.Targets.{target_pool, target_worker, target_call}
use Rattle.rayon_machine_places.specs.Sleepers.{Counts}
use Rattle.rayon_machine_runs.specs.Steps.{put, put_stack, put_seat, back, after_move, handed_back, jobs_after, after_call, step, after, is_piece, mark_pieces, marked, part_of, put_pieces, with_stack}
use Rattle.rayon_machine_laws.specs.Once.{one, times, is_known, run_of, runs_in}
use Rattle.rayon_machine_laws.proofs.Frame.{same_party_true, if_some_map, if_some_all, if_some_and, piece_new, piece_old, pieces_same, put_same, same_index}
use Rattle.rayon_machine_laws.proofs.Ties.{job_at, outcome, result}
use Rattle.rayon_machine_laws.proofs.Hands.{hand_plan, hand, held_in, held, worked, paused, queues_whole}
use Rattle.rayon_machine_laws.proofs.Feeds.{fed, fed_in, all_fed, fed_held, fed_stacks, feds}
use Rattle.rayon_machine_laws.proofs.Located.{Loc, same_loc, loc_of, loc_at, is_loc, where_is, in_hand, weight, JobsPlaced, fits, JobsFit, is_left, is_past, IsOnward, onward_same, onward_left, onward_past, onward_known, Hand, Work, Deck, Cast, Inj, Line, onward_loc, unbegun}
pub use Rattle.rayon_machine_laws.proofs.Placed.{hand_push}
use Rattle.rayon_machine_laws.proofs.Placed.{Kept, JobsOk, Feeds, midway, job_new, job_old, gone_ok, begun_step, back_step, spent_step, go_mid, group_ok, is_dealer}

-- what comes into nobody's hand
abbrev pub Calm : (ℕ → Job) → (ℕ → Job) → Type 0
Calm f g = (t : ℕ) → in_hand (loc_at (g t)) ≡ true → (loc_at (g t) ≡ loc_at (f t)) × ((g t).at ≡ (f t).at)

put_calm : (f : ℕ → Job) (k : ℕ) (j : Job) → in_hand (loc_at j) ≡ false → Calm f (put f k j)
put_calm f k j n t h = by (t == k) h
  where
    by : (z : Bool) → in_hand (loc_at (if z then j else f t)) ≡ true → (loc_at (if z then j else f t) ≡ loc_at (f t)) × ((if z then j else f t).at ≡ (f t).at)
    by true g = absurd (cc)
    by false g = (refl, refl)

pieces_calm : (c : Pieces) (m : ℕ → Job → Job) (f : ℕ → Job) → ((i : ℕ) (j : Job) → in_hand (loc_at (m i j)) ≡ false) → Calm f (put_pieces c m f)
pieces_calm c m f n t h = by (is_piece c t) h
  where
    by : (z : Bool) → in_hand (loc_at (if z then m (t - c.first) (f t) else f t)) ≡ true → (loc_at (if z then m (t - c.first) (f t) else f t) ≡ loc_at (f t)) × ((if z then m (t - c.first) (f t) else f t).at ≡ (f t).at)
    by true g = absurd (let k : in_hand (loc_at (m (t - c.first) (f t))) ≡ false = n (t - c.first) (f t) in cc)
    by false g = (refl, refl)

pub kept_then : (w v u : World) → Calm v.job u.job → Kept w v → Kept v u → Kept w u
kept_then w v u calm a b = record {
  placed = b.placed;
  fit = b.fit;
  onward = λ t. go ((w.job t).at) ((v.job t).at) ((u.job t).at) (a.onward t) (b.onward t);
  made = λ t q z h. (let c : (loc_at (u.job t) ≡ loc_at (v.job t)) × ((u.job t).at ≡ (v.job t).at) = calm t h in c.1 ∙ a.made t q z (ap in_hand (sym (c.0)) ∙ h));
}
  where
    go : (x y z : Whereabouts) → IsOnward x y → IsOnward y z → IsOnward x z
    go (Made q) y z f g = onward_known y z g f
    go (Running q) y z f g = onward_left y z g f
    go (InDeque p i) y z f g = onward_left y z g f
    go (Injected p) y z f g = onward_left y z g f
    go (InFifo p i b7) y z f g = onward_past y z g f
    go (InCast p i) y z f g = onward_left y z g f
    go (Retaken q) y z f g = onward_past y z g f
    go (Over d) y z f g = subst (λ v. IsOnward v z) f g
    go HandedBack y z f g = subst (λ v. IsOnward v z) f g
    go Spent y z f g = subst (λ v. IsOnward v z) f g
    go Nowhere y z f g = subst (λ v. IsOnward v z) f g

-- a world where one party's stack and the maps are these
abbrev pub with_parts : World → Party → Stack → (ℕ → ℕ → Seat) → (ℕ → Pool) → (ℕ → Call) → (ℕ → Job) → World
with_parts w q k S P C J = record w { stack = put_stack w.stack q k; seat = S; pool = P; call = C; job = J }

-- a party's stack is another, which has the same in hand less one job, and that is in no place now
drop_hand : (w : World) (q : Party) (k l : Stack) (S : ℕ → ℕ → Seat) (P : ℕ → Pool) (C : ℕ → Call) (J : ℕ → Job) (u : ℕ) (j : Job) → ((t : ℕ) → held t l + one (t == u) ≡ held t k) → ((t : ℕ) → worked t l ≡ worked t k)
    → (loc_at (J u) ≡ Some (Hand q) → (loc_at j ≡ None) × fits (j.at) (j.runs) × IsOnward (J u).at (j.at)) → JobsOk (with_parts w q k S P C J) → Kept (with_parts w q k S P C J) (with_parts w q l S P C (put J u j))
drop_hand w q k l S P C J u j h r step ok = gone_ok (with_parts w q k S P C J) (with_parts w q l S P C (put J u j)) u j (Hand q) None refl shift (job_new (with_parts w q k S P C J) u j) (job_old (with_parts w q k S P C J) u j) refl step ok
  where
    shift : (a : Loc) (t : ℕ) → weight (with_parts w q l S P C (put J u j)) a t + one (same_loc a (Hand q) && (t == u)) ≡ weight (with_parts w q k S P C J) a t + 0
    shift (Hand g) t = by (same_party g q)
      where
        by : (z : Bool) → held t (if z then l else w.stack g) + one (z && (t == u)) ≡ held t (if z then k else w.stack g) + 0
        by true = let a : held t l + one (t == u) ≡ held t k = h t in omega (arith, a)
        by false = omega arith
    shift (Work g) t = by (same_party g q)
      where
        by : (z : Bool) → worked t (if z then l else w.stack g) + 0 ≡ worked t (if z then k else w.stack g) + 0
        by true = let a : worked t l ≡ worked t k = r t in omega (arith, a)
        by false = omega arith
    shift (Deck p i) t = omega arith
    shift (Cast p i) t = omega arith
    shift (Inj p) t = omega arith
    shift (Line p i b7) t = omega arith

-- the run that a move starts begins
start_run : (w : World) (q : Party) (f : Place) (u : ℕ) (fs : List Place) (S : ℕ → ℕ → Seat) (P : ℕ → Pool) (C : ℕ → Call) (J : ℕ → Job) → JobsOk (with_parts w q (record { top = BeginHere u; below = f ∷ fs }) S P C J)
    → Kept (with_parts w q (record { top = BeginHere u; below = f ∷ fs }) S P C J) (with_parts w q (record { top = Run u Direct; below = f ∷ fs }) S P C (put J u (begun q (J u))))
start_run w q f u fs S P C J ok = gone_ok (with_parts w q (record { top = BeginHere u; below = f ∷ fs }) S P C J) (with_parts w q (record { top = Run u Direct; below = f ∷ fs }) S P C (put J u (begun q (J u)))) u (begun q (J u)) (Hand q) (Some (Work q)) refl shift
    (job_new (with_parts w q (record { top = BeginHere u; below = f ∷ fs }) S P C J) u (begun q (J u))) (job_old (with_parts w q (record { top = BeginHere u; below = f ∷ fs }) S P C J) u (begun q (J u))) refl (begun_step (J u) q) ok
  where
    shift : (a : Loc) (t : ℕ) → weight (with_parts w q (record { top = Run u Direct; below = f ∷ fs }) S P C (put J u (begun q (J u)))) a t + one (same_loc a (Hand q) && (t == u)) ≡ weight (with_parts w q (record { top = BeginHere u; below = f ∷ fs }) S P C J) a t + one
        (same_loc a (Work q) && (t == u))
    shift (Hand g) t = by (same_party g q)
      where
        by : (z : Bool) → held t (if z then record { top = Run u Direct; below = f ∷ fs } else w.stack g) + one (z && (t == u)) ≡ held t (if z then record { top = BeginHere u; below = f ∷ fs } else w.stack g) + 0
        by true = omega arith
        by false = omega arith
    shift (Work g) t = by (same_party g q)
      where
        by : (z : Bool) → worked t (if z then record { top = Run u Direct; below = f ∷ fs } else w.stack g) + 0 ≡ worked t (if z then record { top = BeginHere u; below = f ∷ fs } else w.stack g) + one (z && (t == u))
        by true = omega arith
        by false = omega arith
    shift (Deck p i) t = omega arith
    shift (Cast p i) t = omega arith
    shift (Inj p) t = omega arith
    shift (Line p i b7) t = omega arith

held_back : (t : ℕ) (fs : List Place) → held t (back fs) ≡ held_in t fs
held_back t [] = refl
held_back t (f ∷ fs) = refl

worked_back : (t : ℕ) (fs : List Place) → worked t (back fs) ≡ runs_in t fs
worked_back t [] = refl
worked_back t (f ∷ fs) = refl

-- the jobs of a refused call are handed back
give_one : (w : World) (q : Party) (n : Plan) (u : ℕ) (fs : List Place) (S : ℕ → ℕ → Seat) (P : ℕ → Pool) (C : ℕ → Call) (J : ℕ → Job) (j : Job) → ((t : ℕ) → hand_plan t n ≡ one (t == u)) → (loc_at (J u) ≡ Some (Hand q) → (loc_at j ≡ None) × fits (j.at) (j.runs) × IsOnward (J u).at (j.at))
    → JobsOk (with_parts w q (record { top = RaiseCount n; below = fs }) S P C J) → Kept (with_parts w q (record { top = RaiseCount n; below = fs }) S P C J) (with_parts w q (back fs) S P C (put J u j))
give_one w q n u fs S P C J j h step ok = drop_hand w q (record { top = RaiseCount n; below = fs }) (back fs) S P C J u j
    (λ t. let a : hand_plan t n ≡ one (t == u) = h t in let b : held t (back fs) ≡ held_in t fs = held_back t fs in omega (arith, a, b))
    (λ t. let b : worked t (back fs) ≡ runs_in t fs = worked_back t fs in omega (arith, b)) step ok

-- a job that was handed back is in no place
put_back_step : (J : ℕ → Job) (a u : ℕ) (q : Party) → loc_at (put J a (at_job (J a) HandedBack) u) ≡ Some (Hand q) → (loc_at (at_job (J u) HandedBack) ≡ None) × fits HandedBack ((J u).runs) × IsOnward (put J a (at_job (J a) HandedBack) u).at HandedBack
put_back_step J a u q e = by (u == a) e
  where
    by : (z : Bool) → loc_at (if z then at_job (J a) HandedBack else J u) ≡ Some (Hand q) → (loc_at (at_job (J u) HandedBack) ≡ None) × fits HandedBack ((J u).runs) × IsOnward (if z then at_job (J a) HandedBack else J u).at HandedBack
    by true e = cc
    by false e = back_step (J u) q e

-- the pieces of a refused broadcast leave the hand of the party that made them
all_back : (w : World) (q : Party) (c : Pieces) (k l : Stack) (S : ℕ → ℕ → Seat) (P : ℕ → Pool) (C : ℕ → Call) (J : ℕ → Job) → ((t : ℕ) → held t l + one (is_piece c t) ≡ held t k) → ((t : ℕ) → worked t l ≡ worked t k) → JobsOk (with_parts w q k S P C J)
    → Kept (with_parts w q k S P C J) (with_parts w q l S P C (mark_pieces c Returned J))
all_back w q c k l S P C J h r ok = group_ok (with_parts w q k S P C J) (with_parts w q l S P C (mark_pieces c Returned J)) (is_piece c) (Hand q) (λ t. None) (λ t. refl) shift
    (λ t z. (let n : mark_pieces c Returned J t ≡ J t = piece_old c (marked Returned c.pool) J t z in (ap (λ j. loc_at j) n, ap (λ j. j.at) n, ap (λ j. j.runs) n))) (λ t. refl) step ok
  where
    shift : (a : Loc) (t : ℕ) → weight (with_parts w q l S P C (mark_pieces c Returned J)) a t + one (same_loc a (Hand q) && is_piece c t) ≡ weight (with_parts w q k S P C J) a t + 0
    shift (Hand g) t = by (same_party g q)
      where
        by : (z : Bool) → held t (if z then l else w.stack g) + one (z && is_piece c t) ≡ held t (if z then k else w.stack g) + 0
        by true = let a : held t l + one (is_piece c t) ≡ held t k = h t in omega (arith, a)
        by false = omega arith
    shift (Work g) t = by (same_party g q)
      where
        by : (z : Bool) → worked t (if z then l else w.stack g) + 0 ≡ worked t (if z then k else w.stack g) + 0
        by true = let a : worked t l ≡ worked t k = r t in omega (arith, a)
        by false = omega arith
    shift (Deck p i) t = omega arith
    shift (Cast p i) t = omega arith
    shift (Inj p) t = omega arith
    shift (Line p i b7) t = omega arith

    step : (t : ℕ) → is_piece c t ≡ true → loc_at (J t) ≡ Some (Hand q) → (loc_at (mark_pieces c Returned J t) ≡ None) × fits ((mark_pieces c Returned J t).at) ((mark_pieces c Returned J t).runs) × IsOnward (J t).at (mark_pieces c Returned J t).at
    step t z e = let n : mark_pieces c Returned J t ≡ marked Returned c.pool (t - c.first) (J t) = piece_new c (marked Returned c.pool) J t z in
        (ap (λ j. loc_at j) n, subst (λ j. fits (j.at) (j.runs)) (sym n) (unbegun ((J t).at) ((J t).runs) (Hand q) refl e), subst (λ j. IsOnward ((J t).at) (j.at)) (sym n) (onward_loc ((J t).at) HandedBack ((J t).runs) (Hand q) e refl))

hand_back : (w : World) (q : Party) (n : Plan) (fs : List Place) (S : ℕ → ℕ → Seat) (P : ℕ → Pool) (C : ℕ → Call) (J : ℕ → Job) → JobsOk (with_parts w q (record { top = RaiseCount n; below = fs }) S P C J)
    → Kept (with_parts w q (record { top = RaiseCount n; below = fs }) S P C J) (with_parts w q (back fs) S P C (handed_back n J))
hand_back w q (Detach p u) fs S P C J ok = give_one w q (Detach p u) u fs S P C J (at_job (J u) HandedBack) (λ t. refl) (back_step (J u) q) ok
hand_back w q (Here p u) fs S P C J ok = give_one w q (Here p u) u fs S P C J (at_job (J u) HandedBack) (λ t. refl) (back_step (J u) q) ok
hand_back w q (Send o) fs S P C J ok = give_one w q (Send o) (o.job) fs S P C J (at_job (J (o.job)) HandedBack) (λ t. refl) (back_step (J (o.job)) q) ok
hand_back w q (Open o) fs S P C J ok = give_one w q (Open o) (o.job) fs S P C J (at_job (J (o.job)) HandedBack) (λ t. refl) (back_step (J (o.job)) q) ok
hand_back w q (Enter o) fs S P C J ok = give_one w q (Enter o) (o.job) fs S P C J (at_job (J (o.job)) HandedBack) (λ t. refl) (back_step (J (o.job)) q) ok
hand_back w q (Gather g) fs S P C J ok = all_back w q g.pieces (record { top = RaiseCount (Gather g); below = fs }) (back fs) S P C J
    (λ t. let b : held t (back fs) ≡ held_in t fs = held_back t fs in omega (arith, b))
    (λ t. let b : worked t (back fs) ≡ runs_in t fs = worked_back t fs in omega (arith, b)) ok
hand_back w q (Feed d) fs S P C J ok = kept_then w1 w2 (with_parts w q (back fs) S P C (handed_back (Feed d) J)) (put_calm (put J (d.job) (at_job (J (d.job)) HandedBack)) (d.token) (at_job (J (d.token)) HandedBack) refl) one_gone
    (give_one w q (Detach 0 (d.token)) (d.token) fs S P C (put J (d.job) (at_job (J (d.job)) HandedBack)) (at_job (J (d.token)) HandedBack) (λ t. refl) (put_back_step J (d.job) (d.token) q) (record { placed = one_gone.placed; fit = one_gone.fit }))
  where
    w1 : World
    w1 = with_parts w q (record { top = RaiseCount (Feed d); below = fs }) S P C J

    w2 : World
    w2 = with_parts w q (record { top = RaiseCount (Detach 0 (d.token)); below = fs }) S P C (put J (d.job) (at_job (J (d.job)) HandedBack))

    one_gone : Kept w1 w2
    one_gone = drop_hand w q (record { top = RaiseCount (Feed d); below = fs }) (record { top = RaiseCount (Detach 0 (d.token)); below = fs }) S P C J (d.job) (at_job (J (d.job)) HandedBack) (λ t. omega arith) (λ t. omega arith) (back_step (J (d.job)) q) ok
hand_back w q (Fork o a) fs S P C J ok = kept_then (with_parts w q (record { top = RaiseCount (Fork o a); below = fs }) S P C J) (with_parts w q (record { top = RaiseCount (Detach 0 (o.job)); below = fs }) S P C (put J a (at_job (J a) HandedBack)))
    (with_parts w q (back fs) S P C (handed_back (Fork o a) J)) (put_calm (put J a (at_job (J a) HandedBack)) (o.job) (at_job (J (o.job)) HandedBack) refl) one_gone
    (give_one w q (Detach 0 (o.job)) (o.job) fs S P C (put J a (at_job (J a) HandedBack)) (at_job (J (o.job)) HandedBack) (λ t. refl) (put_back_step J a (o.job) q) (record { placed = one_gone.placed; fit = one_gone.fit }))
  where
    one_gone : Kept (with_parts w q (record { top = RaiseCount (Fork o a); below = fs }) S P C J) (with_parts w q (record { top = RaiseCount (Detach 0 (o.job)); below = fs }) S P C (put J a (at_job (J a) HandedBack)))
    one_gone = drop_hand w q (record { top = RaiseCount (Fork o a); below = fs }) (record { top = RaiseCount (Detach 0 (o.job)); below = fs }) S P C J a (at_job (J a) HandedBack) (λ t. omega arith) (λ t. omega arith) (back_step (J a) q) ok

-- a move deals pieces
abbrev pub is_dealing : Move → Bool
is_dealing (Mark y c Queued) = true
is_dealing (Mark y c Dealt) = true
is_dealing _ = false

-- what is told of pieces that stay where they are
land_mark : (w : World) (q : Party) (y : Place) (c : Pieces) (k : Marking) (fs : List Place) (S : ℕ → ℕ → Seat) (P : ℕ → Pool) (C : ℕ → Call) (J : ℕ → Job) → ((i : ℕ) (j : Job) → loc_at (marked k c.pool i j) ≡ loc_at j) → ((i : ℕ) (j : Job) → (marked k c.pool i j).at ≡ j.at)
    → ((i : ℕ) (j : Job) → (marked k c.pool i j).runs ≡ j.runs) → JobsOk (with_parts w q (record { top = y; below = fs }) S P C J) → Kept (with_parts w q (record { top = y; below = fs }) S P C J) (with_parts w q (record { top = y; below = fs }) S P C (mark_pieces c k J))
land_mark w q y c k fs S P C J la at ru ok = record {
  placed = λ l t. ok.placed l t ∙ ap (is_loc l) (sym (pieces_same (λ j. loc_at j) c (marked k c.pool) J t la));
  fit = λ t. subst (λ x. fits x ((mark_pieces c k J t).runs)) (sym (pieces_same (λ j. j.at) c (marked k c.pool) J t at)) (subst (λ n. fits ((J t).at) n) (sym (pieces_same (λ j. j.runs) c (marked k c.pool) J t ru)) (ok.fit t));
  onward = λ t. onward_same ((J t).at) ((mark_pieces c k J t).at) (pieces_same (λ j. j.at) c (marked k c.pool) J t at);
  made = λ t s z h. pieces_same (λ j. j.at) c (marked k c.pool) J t at;
}

-- the rest of an act: the move's run begins, or jobs are handed back
land_ok : (w : World) (q : Party) (g : Move) (fs : List Place) (S : ℕ → ℕ → Seat) (P : ℕ → Pool) (C : ℕ → Call) (J : ℕ → Job) → is_dealing g ≡ false → JobsOk (with_parts w q (paused g fs) S P C J)
    → Kept (with_parts w q (paused g fs) S P C J) (with_parts w q (after_move g fs) S P C (jobs_after q g J))
land_ok w q (Stay y) fs S P C J d ok = record { placed = ok.placed; fit = ok.fit; onward = λ t. onward_same ((J t).at) ((J t).at) refl; made = λ t s z h. refl }
land_ok w q (HandIn y k) fs S P C J d ok = drop_hand w q (record { top = y; below = BeginHere k ∷ fs }) (record { top = y; below = fs }) S P C J k (at_job (J k) Spent) (λ t. omega arith) (λ t. omega arith) (spent_step (J k) q) ok
land_ok w q (Enter f y) fs S P C J d ok = record { placed = ok.placed; fit = ok.fit; onward = λ t. onward_same ((J t).at) ((J t).at) refl; made = λ t s z h. refl }
land_ok w q Back fs S P C J d ok = record { placed = ok.placed; fit = ok.fit; onward = λ t. onward_same ((J t).at) ((J t).at) refl; made = λ t s z h. refl }
land_ok w q (StartRun f a) fs S P C J d ok = start_run w q f a fs S P C J ok
land_ok w q (HandBack n) fs S P C J d ok = hand_back w q n fs S P C J ok
land_ok w q (Discard k) fs S P C J d ok = drop_hand w q (record { top = BeginHere k; below = fs }) (back fs) S P C J k (at_job (J k) Spent)
    (λ t. let b : held t (back fs) ≡ held_in t fs = held_back t fs in omega (arith, b))
    (λ t. let b : worked t (back fs) ≡ runs_in t fs = worked_back t fs in omega (arith, b)) (spent_step (J k) q) ok
land_ok w q (Mark y c Counted) fs S P C J d ok = record {
  placed = λ l t. ok.placed l t ∙ ap (is_loc l) (sym (pieces_same (λ j. loc_at j) c (marked Counted c.pool) J t (λ i j. refl)));
  fit = λ t. pieces_fit t (is_piece c t);
  onward = λ t. onward_same ((J t).at) ((mark_pieces c Counted J t).at) (pieces_same (λ j. j.at) c (marked Counted c.pool) J t (λ i j. refl));
  made = λ t s z h. pieces_same (λ j. j.at) c (marked Counted c.pool) J t (λ i j. refl);
}
  where
    pieces_fit : (t : ℕ) (z : Bool) → fits ((if z then record (J t) { counted = true } else J t).at) ((if z then record (J t) { counted = true } else J t).runs)
    pieces_fit t true = ok.fit t
    pieces_fit t false = ok.fit t
land_ok w q (Mark y c (Numbered n)) fs S P C J d ok = land_mark w q y c (Numbered n) fs S P C J (λ i j. refl) (λ i j. refl) (λ i j. refl) ok
land_ok w q (Mark y c Unnumbered) fs S P C J d ok = land_mark w q y c Unnumbered fs S P C J (λ i j. refl) (λ i j. refl) (λ i j. refl) ok
land_ok w q (Mark y c Queued) fs S P C J d ok = cc
land_ok w q (Mark y c Dealt) fs S P C J d ok = cc
land_ok w q (Mark y c Returned) fs S P C J d ok = all_back w q c (record { top = y; below = RaiseForAll c ∷ fs }) (record { top = y; below = fs }) S P C J (λ t. omega arith) (λ t. omega arith) ok
land_ok w q (HandAllBack c) fs S P C J d ok = all_back w q c (record { top = RaiseForAll c; below = fs }) (back fs) S P C J
    (λ t. let b : held t (back fs) ≡ held_in t fs = held_back t fs in omega (arith, b))
    (λ t. let b : worked t (back fs) ≡ runs_in t fs = worked_back t fs in omega (arith, b)) ok

-- what a move begins, hands back or spends is in nobody's hand
two_calm : (J : ℕ → Job) (a b : ℕ) → Calm J (put (put J a (at_job (J a) HandedBack)) b (at_job (J b) HandedBack))
two_calm J a b t h =
    let c : (loc_at (put (put J a (at_job (J a) HandedBack)) b (at_job (J b) HandedBack) t) ≡ loc_at (put J a (at_job (J a) HandedBack) t)) × ((put (put J a (at_job (J a) HandedBack)) b (at_job (J b) HandedBack) t).at ≡ (put J a (at_job (J a) HandedBack) t).at) =
    put_calm (put J a (at_job (J a) HandedBack)) b (at_job (J b) HandedBack) refl t h in
    let d : (loc_at (put J a (at_job (J a) HandedBack) t) ≡ loc_at (J t)) × ((put J a (at_job (J a) HandedBack) t).at ≡ (J t).at) = put_calm J a (at_job (J a) HandedBack) refl t (ap in_hand (sym (c.0)) ∙ h) in
    (c.0 ∙ d.0, c.1 ∙ d.1)

begun_calm : (q : Party) (n : ℕ) → in_hand (loc_of (Running q) (n + 1)) ≡ false
begun_calm q n = by (n + 1 == 0) (n + 1 == 1) refl
  where
    by : (b d : Bool) → (n + 1 == 0) ≡ b → in_hand (if b then Some (Hand q) else (if d then Some (Work q) else None)) ≡ false
    by true d e = absurd (let z : n + 1 ≡ 0 = eqb-true (n + 1) 0 e in omega (arith, z))
    by false true e = refl
    by false false e = refl

cast_hand : (p i n : ℕ) → in_hand (loc_of (InCast p i) n) ≡ false
cast_hand p i n = by (n == 0)
  where
    by : (b : Bool) → in_hand (if b then Some (Cast p i) else None) ≡ false
    by true = refl
    by false = refl

land_calm : (q : Party) (g : Move) (J : ℕ → Job) → Calm J (jobs_after q g J)
land_calm q (Stay y) J = λ t h. (refl, refl)
land_calm q (HandIn y k) J = put_calm J k (at_job (J k) Spent) refl
land_calm q (Enter f y) J = λ t h. (refl, refl)
land_calm q Back J = λ t h. (refl, refl)
land_calm q (StartRun f a) J = put_calm J a (begun q (J a)) (begun_calm q ((J a).runs))
land_calm q (HandBack (Detach p a)) J = put_calm J a (at_job (J a) HandedBack) refl
land_calm q (HandBack (Here p a)) J = put_calm J a (at_job (J a) HandedBack) refl
land_calm q (HandBack (Send o)) J = put_calm J (o.job) (at_job (J (o.job)) HandedBack) refl
land_calm q (HandBack (Open o)) J = put_calm J (o.job) (at_job (J (o.job)) HandedBack) refl
land_calm q (HandBack (Enter o)) J = put_calm J (o.job) (at_job (J (o.job)) HandedBack) refl
land_calm q (HandBack (Gather g)) J = pieces_calm g.pieces (marked Returned g.pieces.pool) J (λ i j. refl)
land_calm q (HandBack (Feed d)) J = two_calm J (d.job) (d.token)
land_calm q (HandBack (Fork o a)) J = two_calm J a (o.job)
land_calm q (Discard k) J = put_calm J k (at_job (J k) Spent) refl
land_calm q (Mark y c Counted) J = λ t h. (pieces_same (λ j. loc_at j) c (marked Counted c.pool) J t (λ i j. refl), pieces_same (λ j. j.at) c (marked Counted c.pool) J t (λ i j. refl))
land_calm q (Mark y c (Numbered n)) J = λ t h. (pieces_same (λ j. loc_at j) c (marked (Numbered n) c.pool) J t (λ i j. refl), pieces_same (λ j. j.at) c (marked (Numbered n) c.pool) J t (λ i j. refl))
land_calm q (Mark y c Unnumbered) J = λ t h. (pieces_same (λ j. loc_at j) c (marked Unnumbered c.pool) J t (λ i j. refl), pieces_same (λ j. j.at) c (marked Unnumbered c.pool) J t (λ i j. refl))
land_calm q (Mark y c Dealt) J = pieces_calm c (marked Dealt c.pool) J (λ i j. cast_hand c.pool i (j.runs))
land_calm q (Mark y c Queued) J = pieces_calm c (marked Queued c.pool) J (λ i j. cast_hand c.pool i (j.runs))
land_calm q (Mark y c Returned) J = pieces_calm c (marked Returned c.pool) J (λ i j. refl)
land_calm q (HandAllBack c) J = pieces_calm c (marked Returned c.pool) J (λ i j. refl)

finish_deals : (q : Party) (t : Then) → is_dealing (finish q t) ≡ false
finish_deals q (BeginFound g t) = refl
finish_deals q (LeaveWait g) = refl
finish_deals q Resume = refl
finish_deals q Called = refl
finish_deals q (Gathers o) = refl
finish_deals q (Await o) = refl
finish_deals q (RunFirst o a) = refl
finish_deals q (Answers o f e) = refl
finish_deals q (NoAnswer o f) = refl
finish_deals q (Ran t e) = refl
finish_deals q (GiveBack n) = refl

settled_deals : (h : PoolShape) (q : Party) (s : Settling) (l : Latch) → is_dealing (after_set h q s l) ≡ false
settled_deals h q s Terminate = by (nat_lt (s.worker + 1) h.workers)
  where
    by : (b : Bool) → is_dealing (if b then Stay (SetLatch (record { latch = Terminate; pool = s.pool; worker = s.worker + 1; then = s.then })) else finish q s.then) ≡ false
    by true = refl
    by false = finish_deals q s.then
settled_deals h q s (OfCall c) = finish_deals q s.then

-- no act but that of a dealer deals
set_deals : (h : PoolShape) (q : Party) (s : Settling) (e : Seen) → is_dealing (next_of h q (SetLatch s) e) ≡ false
set_deals h q s Yes = refl
set_deals h q s _ = settled_deals h q s s.latch

pub no_deals : (h : Shape) (g : PoolShape) (q : Party) (c : Counts) (m : Part) (x : Place) → is_dealer x ≡ false → IfSome (effect (act_of q x) h q c m) (λ r. is_dealing (next_of g q x (r.0)) ≡ false)
no_deals h g (Worker i j) c m (ProbeWorking k) z = search (rules, arith)
no_deals h g q c m (PushForAll b) z = cc
no_deals h g q c m (DealPieces b) z = cc
no_deals h g q c m (SetLatch s) z = if_some_all {A = Seen × Part} (λ r. is_dealing (next_of g q (SetLatch s) (r.0)) ≡ false) (λ r. set_deals g q s (r.0)) (effect (act_of q (SetLatch s)) h q c m)
no_deals h g q c m (UnlockSettled s) z = if_some_all {A = Seen × Part} (λ r. is_dealing (next_of g q (UnlockSettled s) (r.0)) ≡ false) (λ r. settled_deals g q s s.latch) (effect (act_of q (UnlockSettled s)) h q c m)
no_deals h g (Worker i j) c m _ z = search (rules, arith)
no_deals h g (Caller n) c m _ z = search (rules, arith)

-- the world after the pieces of a broadcast are dealt
abbrev pub dealt_world : World → Party → Pieces → List Place → ℕ → World
dealt_world w q c fs i0 = after w q (record { top = PushForAll c; below = fs }) c.pool i0 (count_call c.count) 0 (
  Done,
  record (part_of w c.pool i0 (count_call c.count) 0) {
    pool = record (w.pool c.pool) { casts = casts_with c (w.pool c.pool).casts };
    call = record (w.call (count_call c.count)) { writer = left_book q (count_book c.count) (w.call (count_call c.count)).writer; undealt = undealt_after c.count (w.call (count_call c.count)).undealt };
  },
)

-- the same of a broadcast that waits
abbrev pub gathered_world : World → Party → Gathering → List Place → ℕ → World
gathered_world w q d fs i0 = after w q (record { top = DealPieces d; below = fs }) d.pieces.pool i0 (count_call d.pieces.count) 0 (
  Done,
  record (part_of w d.pieces.pool i0 (count_call d.pieces.count) 0) {
    pool = record (w.pool d.pieces.pool) { casts = casts_with d.pieces (w.pool d.pieces.pool).casts };
    call = record (w.call (count_call d.pieces.count)) { writer = left_book q (count_book d.pieces.count) (w.call (count_call d.pieces.count)).writer; undealt = undealt_after d.pieces.count (w.call (count_call d.pieces.count)).undealt };
  },
)

-- whose piece this number is
own_piece : (a n i t : ℕ) → nat_lt i n ≡ true → (t == (a + i)) ≡ ((i == (t - a)) && (nat_le a t && nat_lt t (a + n)))
own_piece a n i t l = grind (arith, nat_tests)

no_own_piece : (a n i t : ℕ) → nat_lt i n ≡ false → ((i == (t - a)) && (nat_le a t && nat_lt t (a + n))) ≡ false
no_own_piece a n i t l = grind (arith, nat_tests)

and_mid : (x y z : Bool) → ((x && y) && z) ≡ (x && (y && z))
and_mid true y z = refl
and_mid false y z = refl

pub deal_ok : (w : World) (q : Party) (c : Pieces) (fs : List Place) (i0 : ℕ) → w.stack q ≡ record { top = PushForAll c; below = fs } → JobsOk w → Kept w (dealt_world w q c fs i0)
deal_ok w q c fs i0 e ok = group_ok w (dealt_world w q c fs i0) (is_piece c) (Hand q) (λ t. Some (Cast c.pool (t - c.first))) (λ t. refl) shift rest (λ t. refl) step ok
  where
    J : ℕ → Job
    J = put w.job 0 (w.job 0)

    now : (t : ℕ) → is_piece c t ≡ true → mark_pieces c Queued J t ≡ marked Queued c.pool (t - c.first) (J t)
    now t z = piece_new c (marked Queued c.pool) J t z

    rest : (t : ℕ) → is_piece c t ≡ false → (loc_at (mark_pieces c Queued J t) ≡ loc_at (w.job t)) × ((mark_pieces c Queued J t).at ≡ (w.job t).at) × ((mark_pieces c Queued J t).runs ≡ (w.job t).runs)
    rest t z = let n : mark_pieces c Queued J t ≡ J t = piece_old c (marked Queued c.pool) J t z in
        (ap (λ j. loc_at j) n ∙ put_same (λ j. loc_at j) w.job 0 (w.job 0) t refl, ap (λ j. j.at) n ∙ put_same (λ j. j.at) w.job 0 (w.job 0) t refl, ap (λ j. j.runs) n ∙ put_same (λ j. j.runs) w.job 0 (w.job 0) t refl)

    step : (t : ℕ) → is_piece c t ≡ true → loc_at (w.job t) ≡ Some (Hand q) → (loc_at (mark_pieces c Queued J t) ≡ Some (Cast c.pool (t - c.first))) × fits ((mark_pieces c Queued J t).at) ((mark_pieces c Queued J t).runs) × IsOnward (w.job t).at (mark_pieces c Queued J t).at
    step t z l =
        let r : (J t).runs ≡ 0 = put_same (λ j. j.runs) w.job 0 (w.job 0) t refl ∙ unbegun ((w.job t).at) ((w.job t).runs) (Hand q) refl l in
        (ap (λ j. loc_at j) (now t z) ∙ ap (λ n. loc_of (InCast c.pool (t - c.first)) n) r, subst (λ j. fits (j.at) (j.runs)) (sym (now t z)) r, subst (λ j. IsOnward ((w.job t).at) (j.at)) (sym (now t z)) (onward_loc ((w.job t).at) (InCast c.pool (t - c.first)) ((w.job t).runs) (Hand q) l refl))

    seat : (p i : ℕ) → put_seat w.seat c.pool i0 (w.seat c.pool i0) p i ≡ w.seat p i
    seat p i = by ((p == c.pool) && (i == i0)) refl
      where
        by : (z : Bool) → ((p == c.pool) && (i == i0)) ≡ z → (if z then w.seat c.pool i0 else w.seat p i) ≡ w.seat p i
        by true z = let n : (p ≡ c.pool) × (i ≡ i0) = same_index p i c.pool i0 z in ap (λ j. w.seat j i0) (sym (n.0)) ∙ ap (λ j. w.seat p j) (sym (n.1))
        by false z = refl

    shift : (a : Loc) (t : ℕ) → weight (dealt_world w q c fs i0) a t + one (same_loc a (Hand q) && is_piece c t) ≡ weight w a t + one (same_loc a (Cast c.pool (t - c.first)) && is_piece c t)
    shift (Hand g) t = by (same_party g q) refl
      where
        by : (z : Bool) → same_party g q ≡ z → held t (if z then record { top = call_all (w.shape.pool c.pool) c; below = fs } else w.stack g) + one (z && is_piece c t) ≡ held t (w.stack g) + 0
        by true z = let a : held t (w.stack g) ≡ (one (is_piece c t) + held_in t fs) = ap (held t) (ap w.stack (same_party_true g q z) ∙ e) in omega (arith, a)
        by false z = omega arith
    shift (Work g) t = by (same_party g q) refl
      where
        by : (z : Bool) → same_party g q ≡ z → worked t (if z then record { top = call_all (w.shape.pool c.pool) c; below = fs } else w.stack g) + 0 ≡ worked t (w.stack g) + 0
        by true z = let a : worked t (w.stack g) ≡ (0 + runs_in t fs) = ap (worked t) (ap w.stack (same_party_true g q z) ∙ e) in omega (arith, a)
        by false z = omega arith
    shift (Deck p i) t = let a : times t (put_seat w.seat c.pool i0 (w.seat c.pool i0) p i).own ≡ times t (w.seat p i).own = ap (λ s. times t s.own) (seat p i) in omega (arith, a)
    shift (Line p i b7) t = let a : times t ((put_seat w.seat c.pool i0 (w.seat c.pool i0) p i).fifo b7) ≡ times t ((w.seat p i).fifo b7) = ap (λ s. times t (s.fifo b7)) (seat p i) in omega (arith, a)
    shift (Inj p) t = let a : times t (put w.pool c.pool (record (w.pool c.pool) { casts = casts_with c (w.pool c.pool).casts }) p).injector ≡ times t (w.pool p).injector =
        put_same (λ v. times t v.injector) w.pool c.pool (record (w.pool c.pool) { casts = casts_with c (w.pool c.pool).casts }) p refl in omega (arith, a)
    shift (Cast p i) t = by (p == c.pool) refl
      where
        lists : (z : Bool) → nat_lt i c.workers ≡ z → times t (if z then (w.pool c.pool).casts i ++ (c.first + i) ∷ [] else (w.pool c.pool).casts i) + 0 ≡ times t ((w.pool c.pool).casts i) + one ((i == (t - c.first)) && is_piece c t)
        lists true z = let a : times t ((w.pool c.pool).casts i ++ (c.first + i) ∷ []) ≡ (times t ((w.pool c.pool).casts i) + one (t == (c.first + i))) = times_push ((w.pool c.pool).casts i) t (c.first + i) in
            let b : one (t == (c.first + i)) ≡ one ((i == (t - c.first)) && is_piece c t) = ap one (own_piece c.first c.workers i t z) in omega (arith, a, b)
        lists false z = let b : one ((i == (t - c.first)) && is_piece c t) ≡ 0 = ap one (no_own_piece c.first c.workers i t z) in omega (arith, b)

        by : (z : Bool) → (p == c.pool) ≡ z → times t ((if z then record (w.pool c.pool) { casts = casts_with c (w.pool c.pool).casts } else w.pool p).casts i) + 0 ≡ times t ((w.pool p).casts i) + one ((z && (i == (t - c.first))) && is_piece c t)
        by true z = let a : times t ((w.pool c.pool).casts i) ≡ times t ((w.pool p).casts i) = ap (λ n. times t ((w.pool n).casts i)) (sym (eqb-true p c.pool z)) in
            let b : times t (casts_with c (w.pool c.pool).casts i) + 0 ≡ times t ((w.pool c.pool).casts i) + one ((i == (t - c.first)) && is_piece c t) = lists (nat_lt i c.workers) refl in omega (arith, a, b)
        by false z = omega arith

deal_kept : (w : World) (q : Party) (c : Pieces) (fs : List Place) → w.stack q ≡ record { top = PushForAll c; below = fs } → JobsOk w → IfSome (outcome w q (record { top = PushForAll c; below = fs })) (λ r. Kept w (result w q (record { top = PushForAll c; below = fs }) r))
deal_kept w (Worker a b) c fs e ok = deal_ok w (Worker a b) c fs b e ok
deal_kept w (Caller n) c fs e ok = deal_ok w (Caller n) c fs 0 e ok

pub gather_ok : (w : World) (q : Party) (d : Gathering) (fs : List Place) (i0 : ℕ) → w.stack q ≡ record { top = DealPieces d; below = fs } → JobsOk w → Kept w (gathered_world w q d fs i0)
gather_ok w q d fs i0 e ok = group_ok w (gathered_world w q d fs i0) (is_piece c) (Hand q) (λ t. Some (Cast c.pool (t - c.first))) (λ t. refl) shift rest (λ t. refl) step ok
  where
    c : Pieces
    c = d.pieces

    J : ℕ → Job
    J = put w.job 0 (w.job 0)

    now : (t : ℕ) → is_piece c t ≡ true → mark_pieces c Dealt J t ≡ marked Dealt c.pool (t - c.first) (J t)
    now t z = piece_new c (marked Dealt c.pool) J t z

    rest : (t : ℕ) → is_piece c t ≡ false → (loc_at (mark_pieces c Dealt J t) ≡ loc_at (w.job t)) × ((mark_pieces c Dealt J t).at ≡ (w.job t).at) × ((mark_pieces c Dealt J t).runs ≡ (w.job t).runs)
    rest t z = let n : mark_pieces c Dealt J t ≡ J t = piece_old c (marked Dealt c.pool) J t z in
        (ap (λ j. loc_at j) n ∙ put_same (λ j. loc_at j) w.job 0 (w.job 0) t refl, ap (λ j. j.at) n ∙ put_same (λ j. j.at) w.job 0 (w.job 0) t refl, ap (λ j. j.runs) n ∙ put_same (λ j. j.runs) w.job 0 (w.job 0) t refl)

    step : (t : ℕ) → is_piece c t ≡ true → loc_at (w.job t) ≡ Some (Hand q) → (loc_at (mark_pieces c Dealt J t) ≡ Some (Cast c.pool (t - c.first))) × fits ((mark_pieces c Dealt J t).at) ((mark_pieces c Dealt J t).runs) × IsOnward (w.job t).at (mark_pieces c Dealt J t).at
    step t z l =
        let r : (J t).runs ≡ 0 = put_same (λ j. j.runs) w.job 0 (w.job 0) t refl ∙ unbegun ((w.job t).at) ((w.job t).runs) (Hand q) refl l in
        (ap (λ j. loc_at j) (now t z) ∙ ap (λ n. loc_of (InCast c.pool (t - c.first)) n) r, subst (λ j. fits (j.at) (j.runs)) (sym (now t z)) r, subst (λ j. IsOnward ((w.job t).at) (j.at)) (sym (now t z)) (onward_loc ((w.job t).at) (InCast c.pool (t - c.first)) ((w.job t).runs) (Hand q) l refl))

    seat : (p i : ℕ) → put_seat w.seat c.pool i0 (w.seat c.pool i0) p i ≡ w.seat p i
    seat p i = by ((p == c.pool) && (i == i0)) refl
      where
        by : (z : Bool) → ((p == c.pool) && (i == i0)) ≡ z → (if z then w.seat c.pool i0 else w.seat p i) ≡ w.seat p i
        by true z = let n : (p ≡ c.pool) × (i ≡ i0) = same_index p i c.pool i0 z in ap (λ j. w.seat j i0) (sym (n.0)) ∙ ap (λ j. w.seat p j) (sym (n.1))
        by false z = refl

    shift : (a : Loc) (t : ℕ) → weight (gathered_world w q d fs i0) a t + one (same_loc a (Hand q) && is_piece c t) ≡ weight w a t + one (same_loc a (Cast c.pool (t - c.first)) && is_piece c t)
    shift (Hand g) t = by (same_party g q) refl
      where
        by : (z : Bool) → same_party g q ≡ z → held t (if z then record { top = gather_all (w.shape.pool c.pool) d.call; below = fs } else w.stack g) + one (z && is_piece c t) ≡ held t (w.stack g) + 0
        by true z = let a : held t (w.stack g) ≡ (one (is_piece c t) + held_in t fs) = ap (held t) (ap w.stack (same_party_true g q z) ∙ e) in omega (arith, a)
        by false z = omega arith
    shift (Work g) t = by (same_party g q) refl
      where
        by : (z : Bool) → same_party g q ≡ z → worked t (if z then record { top = gather_all (w.shape.pool c.pool) d.call; below = fs } else w.stack g) + 0 ≡ worked t (w.stack g) + 0
        by true z = let a : worked t (w.stack g) ≡ (0 + runs_in t fs) = ap (worked t) (ap w.stack (same_party_true g q z) ∙ e) in omega (arith, a)
        by false z = omega arith
    shift (Deck p i) t = let a : times t (put_seat w.seat c.pool i0 (w.seat c.pool i0) p i).own ≡ times t (w.seat p i).own = ap (λ s. times t s.own) (seat p i) in omega (arith, a)
    shift (Line p i b7) t = let a : times t ((put_seat w.seat c.pool i0 (w.seat c.pool i0) p i).fifo b7) ≡ times t ((w.seat p i).fifo b7) = ap (λ s. times t (s.fifo b7)) (seat p i) in omega (arith, a)
    shift (Inj p) t = let a : times t (put w.pool c.pool (record (w.pool c.pool) { casts = casts_with c (w.pool c.pool).casts }) p).injector ≡ times t (w.pool p).injector =
        put_same (λ v. times t v.injector) w.pool c.pool (record (w.pool c.pool) { casts = casts_with c (w.pool c.pool).casts }) p refl in omega (arith, a)
    shift (Cast p i) t = by (p == c.pool) refl
      where
        lists : (z : Bool) → nat_lt i c.workers ≡ z → times t (if z then (w.pool c.pool).casts i ++ (c.first + i) ∷ [] else (w.pool c.pool).casts i) + 0 ≡ times t ((w.pool c.pool).casts i) + one ((i == (t - c.first)) && is_piece c t)
        lists true z = let a : times t ((w.pool c.pool).casts i ++ (c.first + i) ∷ []) ≡ (times t ((w.pool c.pool).casts i) + one (t == (c.first + i))) = times_push ((w.pool c.pool).casts i) t (c.first + i) in
            let b : one (t == (c.first + i)) ≡ one ((i == (t - c.first)) && is_piece c t) = ap one (own_piece c.first c.workers i t z) in omega (arith, a, b)
        lists false z = let b : one ((i == (t - c.first)) && is_piece c t) ≡ 0 = ap one (no_own_piece c.first c.workers i t z) in omega (arith, b)

        by : (z : Bool) → (p == c.pool) ≡ z → times t ((if z then record (w.pool c.pool) { casts = casts_with c (w.pool c.pool).casts } else w.pool p).casts i) + 0 ≡ times t ((w.pool p).casts i) + one ((z && (i == (t - c.first))) && is_piece c t)
        by true z = let a : times t ((w.pool c.pool).casts i) ≡ times t ((w.pool p).casts i) = ap (λ n. times t ((w.pool n).casts i)) (sym (eqb-true p c.pool z)) in
            let b : times t (casts_with c (w.pool c.pool).casts i) + 0 ≡ times t ((w.pool c.pool).casts i) + one ((i == (t - c.first)) && is_piece c t) = lists (nat_lt i c.workers) refl in omega (arith, a, b)
        by false z = omega arith

gather_kept : (w : World) (q : Party) (d : Gathering) (fs : List Place) → w.stack q ≡ record { top = DealPieces d; below = fs } → JobsOk w → IfSome (outcome w q (record { top = DealPieces d; below = fs })) (λ r. Kept w (result w q (record { top = DealPieces d; below = fs }) r))
gather_kept w (Worker a b) d fs e ok = gather_ok w (Worker a b) d fs b e ok
gather_kept w (Caller n) d fs e ok = gather_ok w (Caller n) d fs 0 e ok

-- each act keeps each job in its one place
top_kept : (w : World) (q : Party) (x : Place) (fs : List Place) → w.stack q ≡ record { top = x; below = fs } → queues_whole x ≡ false → Feeds w → JobsOk w → IfSome (outcome w q (record { top = x; below = fs })) (λ r. Kept w (result w q (record { top = x; below = fs }) r))
top_kept w q (PushForAll c) fs e nq fe ok = deal_kept w q c fs e ok
top_kept w q (DealPieces d) fs e nq fe ok = gather_kept w q d fs e ok
top_kept w q x fs e nq fe ok =
    let k : Stack = record { top = x; below = fs } in let p0 = target_pool q (act_of q x) in let i0 = target_worker q (act_of q x) in let c0 = target_call (act_of q x) in let n0 = job_at w q (act_of q x) in
    if_some_map (λ r. Kept w (midway w q k p0 i0 c0 n0 r) × (is_dealing (next_of (w.shape.pool p0) q x (r.0)) ≡ false)) (λ r. Kept w (result w q k r))
    (λ r b. let m : Kept w (midway w q k p0 i0 c0 n0 r) = b.0 in kept_then w (midway w q k p0 i0 c0 n0 r) (result w q k r) (land_calm q (next_of (w.shape.pool p0) q x (r.0)) (put w.job n0 (r.1.job))) m
    (land_ok w q (next_of (w.shape.pool p0) q x (r.0)) fs (put_seat w.seat p0 i0 (r.1.seat)) (put w.pool p0 (r.1.pool)) (put w.call c0 (r.1.call)) (put w.job n0 (r.1.job)) (b.1) (record { placed = m.placed; fit = m.fit })))
    (outcome w q k) (if_some_and (λ r. Kept w (midway w q k p0 i0 c0 n0 r)) (λ r. is_dealing (next_of (w.shape.pool p0) q x (r.0)) ≡ false) (outcome w q k) (go_mid w q x fs e refl nq fe ok) (no_deals w.shape (w.shape.pool p0) q (counts_at w p0) (part_of w p0 i0 c0 n0) x refl))

pub go_kept : (w : World) (q : Party) → queues_whole (w.stack q).top ≡ false → Feeds w → JobsOk w → IfSome (outcome w q (w.stack q)) (λ r. Kept w (result w q (w.stack q) r))
go_kept w q nq fe ok = top_kept w q ((w.stack q).top) ((w.stack q).below) refl nq fe ok

-- numbers not yet given out have no job
abbrev pub Unmade : World → Type 0
Unmade w = (t : ℕ) → w.jobs ≤ t → (w.job t).at ≡ Nowhere

-- each number given out has one
abbrev pub Known : World → Type 0
Known w = (t : ℕ) → t + 1 ≤ w.jobs → is_known (w.job t).at ≡ true

-- what is over or handed back stays so, and what has left its call does not come back to it
abbrev pub IsFinal : Whereabouts → Whereabouts → Type 0
IsFinal (Made q) b = ⊤
IsFinal Nowhere b = ⊤
IsFinal (Over e) b = b ≡ Over e
IsFinal HandedBack b = b ≡ HandedBack
IsFinal Spent b = b ≡ Spent
IsFinal (InFifo p i b7) b = is_past b ≡ true
IsFinal (Retaken q) b = is_past b ≡ true
IsFinal _ b = is_left b ≡ true

final_onward : (a b : Whereabouts) → IsOnward a b → IsFinal a b
final_onward (Over e) b h = h
final_onward HandedBack b h = h
final_onward Spent b h = h
final_onward (Made q) b h = tt
final_onward Nowhere b h = tt
final_onward (Running q) b h = h
final_onward (InDeque p i) b h = h
final_onward (Injected p) b h = h
final_onward (InFifo p i b7) b h = h
final_onward (InCast p i) b h = h
final_onward (Retaken q) b h = h

pub final_left : (a b : Whereabouts) → IsFinal a b → is_left a ≡ true → is_left b ≡ true
final_left (Made q) b h z = cc
final_left Nowhere b h z = cc
final_left (Over e) b h z = ap is_left h
final_left HandedBack b h z = ap is_left h
final_left Spent b h z = ap is_left h
final_left (Running q) b h z = h
final_left (InDeque p i) b h z = h
final_left (Injected p) b h z = h
final_left (InFifo p i b7) b h z = cc
final_left (InCast p i) b h z = h
final_left (Retaken q) b h z = cc

-- what each step keeps of the jobs
pub record Advance (w u : World) : Type 0 where
  pub placed : JobsPlaced u
  pub fit : JobsFit u
  pub final : (t : ℕ) → IsFinal ((w.job t).at) ((u.job t).at)
  pub unmade : Unmade u
  pub known : Known w → Known u
  pub feeds : Feeds w → Feeds u

-- no stack comes to feed more
abbrev pub FedLess : World → World → Type 0
FedLess w u = (q : Party) (t : ℕ) → all_fed t (u.stack q) ≤ all_fed t (w.stack q)

-- who is still about to add a job has it in hand still, as its call has made it
still_feeds : (w u : World) → FedLess w u → Kept w u → Feeds w → Feeds u
still_feeds w u le k fe q t n = k.made t q was hand ∙ was
  where
    was : (w.job t).at ≡ Made q
    was = fe q t (let a : all_fed t (u.stack q) ≤ all_fed t (w.stack q) = le q t in omega (arith, a, n))

    hand : in_hand (loc_at (u.job t)) ≡ true
    hand = ap in_hand (where_is (Hand q) (loc_at (u.job t)) (let a : all_fed t (u.stack q) ≤ held t (u.stack q) = fed_held t (u.stack q) in let b : held t (u.stack q) ≡ is_loc (Hand q) (loc_at (u.job t)) = k.placed (Hand q) t in omega (arith, a, b, n)))

pub kept_advance : (w u : World) → u.jobs ≡ w.jobs → Unmade w → FedLess w u → Kept w u → Advance w u
kept_advance w u e un le k = record {
  feeds = still_feeds w u le k;
  known = λ f t b. onward_known ((w.job t).at) ((u.job t).at) (k.onward t) (f t (omega (arith, b, e)));
  placed = k.placed;
  fit = k.fit;
  final = λ t. final_onward ((w.job t).at) ((u.job t).at) (k.onward t);
  unmade = λ t b. subst (λ a. IsOnward a ((u.job t).at)) (un t (omega (arith, b, e))) (k.onward t);
}

-- where one party has another stack, with the same jobs in it
pub restack_ok : (w : World) (q : Party) (k : Stack) (P : ℕ → Pool) → ((t : ℕ) → held t k ≡ held t (w.stack q)) → ((t : ℕ) → worked t k ≡ worked t (w.stack q)) → ((p : ℕ) → (P p).injector ≡ (w.pool p).injector) → ((p : ℕ) → (P p).casts ≡ (w.pool p).casts)
    → ((t : ℕ) → all_fed t k ≤ all_fed t (w.stack q)) → JobsOk w → Unmade w → Advance w (record w { stack = put_stack w.stack q k; pool = P })
restack_ok w q k P h r inj casts le ok un = kept_advance w (record w { stack = put_stack w.stack q k; pool = P }) (omega arith) un (fed_stacks w q k le) (record { placed = placed; fit = ok.fit; onward = λ t. onward_same ((w.job t).at) ((w.job t).at) refl; made = λ t s z y. refl })
  where
    placed : (l : Loc) (t : ℕ) → weight (record w { stack = put_stack w.stack q k; pool = P }) l t ≡ is_loc l (loc_at (w.job t))
    placed (Hand g) t = by (same_party g q) refl
      where
        by : (z : Bool) → same_party g q ≡ z → held t (if z then k else w.stack g) ≡ is_loc (Hand g) (loc_at (w.job t))
        by true z = subst (λ g. held t k ≡ is_loc (Hand g) (loc_at (w.job t))) (sym (same_party_true g q z)) (let a : held t k ≡ held t (w.stack q) = h t in let b : held t (w.stack q) ≡ is_loc (Hand q) (loc_at (w.job t)) = (ok.placed) (Hand q) t in omega (arith, a, b))
        by false z = (ok.placed) (Hand g) t
    placed (Work g) t = by (same_party g q) refl
      where
        by : (z : Bool) → same_party g q ≡ z → worked t (if z then k else w.stack g) ≡ is_loc (Work g) (loc_at (w.job t))
        by true z = subst (λ g. worked t k ≡ is_loc (Work g) (loc_at (w.job t))) (sym (same_party_true g q z)) (let a : worked t k ≡ worked t (w.stack q) = r t in let b : worked t (w.stack q) ≡ is_loc (Work q) (loc_at (w.job t)) = (ok.placed) (Work q) t in omega (arith, a, b))
        by false z = (ok.placed) (Work g) t
    placed (Deck p i) t = (ok.placed) (Deck p i) t
    placed (Cast p i) t = subst (λ f. times t (f i) ≡ is_loc (Cast p i) (loc_at (w.job t))) (sym (casts p)) ((ok.placed) (Cast p i) t)
    placed (Line p i b7) t = (ok.placed) (Line p i b7) t
    placed (Inj p) t = subst (λ f. times t f ≡ is_loc (Inj p) (loc_at (w.job t))) (sym (inj p)) ((ok.placed) (Inj p) t)

-- the same where the old top is known
pub retop_ok : (w : World) (q : Party) (x : Place) (fs : List Place) (k : Stack) → w.stack q ≡ record { top = x; below = fs } → ((t : ℕ) → held t k ≡ hand t x + held_in t fs) → ((t : ℕ) → worked t k ≡ run_of t x + runs_in t fs) → ((t : ℕ) → all_fed t k ≤ fed t x + fed_in t fs) → JobsOk w
    → Unmade w → Advance w (record w { stack = put_stack w.stack q k })
retop_ok w q x fs k e h r le ok un = restack_ok w q k w.pool
    (λ t. let a : held t (w.stack q) ≡ (hand t x + held_in t fs) = ap (held t) e in let b : held t k ≡ hand t x + held_in t fs = h t in omega (arith, a, b))
    (λ t. let a : worked t (w.stack q) ≡ (run_of t x + runs_in t fs) = ap (worked t) e in let b : worked t k ≡ run_of t x + runs_in t fs = r t in omega (arith, a, b))
    (λ p. refl) (λ p. refl) (λ t. let a : all_fed t (w.stack q) ≡ (fed t x + fed_in t fs) = ap (all_fed t) e in let b : all_fed t k ≤ fed t x + fed_in t fs = le t in omega (arith, a, b)) ok un

turn_hands : (u : ℕ) (t : Turn) → (hand u (turn_to t) ≡ hand u (turn_from t)) × (run_of u (turn_to t) ≡ run_of u (turn_from t))
turn_hands u (NoScope o) = (refl, refl)
turn_hands u _ = (refl, refl)

turn_fed : (g : PoolShape) (q : Party) (u : ℕ) (t : Turn) → fed u (turn_to t) ≤ fed u (turn_from t)
turn_fed g q u (NoCall n) = feds g q u (GrowCall n) Refused
turn_fed g q u (NoSlot n) = feds g q u (OpenSlot n) Refused
turn_fed g q u (NoPush n v e) = subst (λ o. fed u (withdraw o n) ≤ fed u (PushJob n v)) e (feds g q u (PushJob n v) Refused)
turn_fed g q u (NoPushIn n v c e) = subst (λ o. fed u (withdraw o n) ≤ fed u (PushJob n v)) e (feds g q u (PushJob n v) Refused)
turn_fed g q u (NoFifo f e) = subst (λ o. fed u (withdraw o (Feed f)) ≤ fed u (AddToFifo f)) e (feds g q u (AddToFifo f) Refused)
turn_fed g q u (NoFifoIn f c e) = subst (λ o. fed u (withdraw o (Feed f)) ≤ fed u (AddToFifo f)) e (feds g q u (AddToFifo f) Refused)
turn_fed g q u _ = omega arith

pub turn_kept : (w : World) (q : Party) (t : Turn) (fs : List Place) → w.stack q ≡ record { top = turn_from t; below = fs } → JobsOk w → Unmade w → Advance w (with_stack w q (record { top = turn_to t; below = fs }))
turn_kept w q t fs e ok un = retop_ok w q (turn_from t) fs (record { top = turn_to t; below = fs }) e
    (λ u. ap (λ n. n + held_in u fs) ((turn_hands u t).0)) (λ u. ap (λ n. n + runs_in u fs) ((turn_hands u t).1)) (λ u. let l : fed u (turn_to t) ≤ fed u (turn_from t) = turn_fed (w.shape.pool 0) q u t in omega (arith, l)) ok un

pub yield_kept : (w : World) (q : Party) (x : Place) → ((t : ℕ) → hand t x ≡ 0) → ((t : ℕ) → run_of t x ≡ 0) → ((t : ℕ) → fed t x ≡ 0) → JobsOk w → Unmade w → Advance w (with_stack w q (after_call (w.stack q) x))
yield_kept w q x h r n ok un = restack_ok w q (after_call (w.stack q) x) w.pool
    (λ t. let f : hand t x ≡ 0 = h t in omega (arith, f)) (λ t. let f : run_of t x ≡ 0 = r t in omega (arith, f)) (λ p. refl) (λ p. refl) (λ t. let f : fed t x ≡ 0 = n t in omega (arith, f)) ok un

pub give_kept : (w : World) (q : Party) (p : ℕ) → JobsOk w → Unmade w → Advance w (record w { stack = put_stack w.stack q (after_call (w.stack q) (LowerCount (OfPool p) PoolValue Resume)); pool = put w.pool p (record (w.pool p) { held = false }) })
give_kept w q p ok un = restack_ok w q (after_call (w.stack q) (LowerCount (OfPool p) PoolValue Resume)) (put w.pool p (record (w.pool p) { held = false })) (λ t. omega arith) (λ t. omega arith) (λ r. inj r (r == p) refl) (λ r. casts r (r == p) refl) (λ t. omega arith) ok un
  where
    inj : (r : ℕ) (z : Bool) → (r == p) ≡ z → (if z then record (w.pool p) { held = false } else w.pool r).injector ≡ (w.pool r).injector
    inj r true z = ap (λ n. (w.pool n).injector) (sym (eqb-true r p z))
    inj r false z = refl

    casts : (r : ℕ) (z : Bool) → (r == p) ≡ z → (if z then record (w.pool p) { held = false } else w.pool r).casts ≡ (w.pool r).casts
    casts r true z = ap (λ n. (w.pool n).casts) (sym (eqb-true r p z))
    casts r false z = refl
