-- what an act does to each worker's top and seat: the frame, proved once for every relation
use Rattle.std.proofs.Common.{rules, arith, refl, sym, ◌∙◌, ap, subst, inl, inr}
use Rattle.std.specs.Prelude.{ℕ, Bool, true, false, ◌&&◌, ◌==◌, if◌then◌else◌, List, [], ◌∷◌, ◌≡◌, IfSome, ⊤}
use Rattle.rayon_machine_places.specs.declared.place.Party.{Party}
use Rattle.rayon_machine_places.specs.declared.place.Party.TheVariants.{Worker, Caller}
use Rattle.rayon_machine_places.specs.declared.place.Place.{Place}
use Rattle.rayon_machine_places.specs.declared.place.Place.TheVariants.{StealFrom, SetLatch, UnlockSettled, Stopped}
use Rattle.rayon_machine_places.specs.declared.place.Move.{Move}
use Rattle.rayon_machine_places.specs.declared.place.Move.TheVariants.{Stay, Enter, StartRun, Back, HandBack, Discard, HandIn, Mark, HandAllBack}
use Rattle.rayon_machine_places.specs.declared.act.Act.{Act}
use Rattle.rayon_machine_places.specs.declared.act.Act.TheVariants.{Idle}
use Rattle.rayon_machine_places.specs.declared.act.Seen.{Seen}
use Rattle.rayon_machine_places.specs.declared.shape.PoolShape.{PoolShape}
use Rattle.rayon_machine_laws.proofs.Frame.{either, if_none, if_some_all, if_some_each, if_some_map, not_same, same_index, same_party_true, same_refl}
use Rattle.rayon_machine_laws.proofs.Seats.{Goes, OkAt, SeatOk, at_home, frame_out, is_frame, mode, other_keeps, out_goes, own_keeps, set_goes, settled_out}
use Rattle.rayon_machine_places.specs.Places.{act_of, next_of, same_party, after_set}
use Rattle.rayon_machine_runs.specs.Steps.{after, part_of, after_move}
use Rattle.rayon_machine_places.specs.Sleepers.{Counts}
use Rattle.rayon_machine_runs.specs.World.{Outcome, Part, Pool, Seat, Shape, Stack, World, counts_at, effect, target_job}
use Rattle.rayon_machine_places.specs.Targets.{target_call, target_pool, target_worker}

--
-- To show that each act keeps a fact of one worker's place and seat, take the fact as a `Tie` and give
-- `moves` four lemmas: of the worker's own act on its own seat (OwnTie), of its act elsewhere (AwayTie),
-- of another's act on its seat (OtherTie), and of acts that touch neither (NoTie).

-- the frames of a stack
abbrev pub AllFrames : List Place → Type 0
AllFrames [] = ⊤
AllFrames (f ∷ fs) = (is_frame f ≡ true) × AllFrames fs

-- a worker's stack and its seat: only the top says anything of the seat
pub record StackOk (p i : ℕ) (k : Stack) (s : Seat) : Type 0 where
  pub top : SeatOk p i (mode k.top) s
  pub below : AllFrames k.below

-- every worker's
abbrev pub SeatsOk : World → Type 0
SeatsOk w = (p i : ℕ) → StackOk p i (w.stack (Worker p i)) (w.seat p i)

-- the top and the seat that a relation ties to those before: R v p i y s y' s'
abbrev pub Tie : Type 1
Tie = Pool → ℕ → ℕ → Place → Seat → Place → Seat → Type 0

-- the worker's own act, on its own seat
abbrev pub OwnTie : Tie → Shape → PoolShape → Party → Place → Type 0
OwnTie R h g q x = (p i : ℕ) (c : Counts) (m : Part) → q ≡ Worker p i → SeatOk p i (mode x) m.seat → IfSome (effect (act_of (Worker p i) x) h (Worker p i) c m) (λ r. Goes (λ y. R m.pool p i x m.seat y (r.1.seat)) (next_of g (Worker p i) x (r.0)))

-- the party's own seat, where its act is on another's part
abbrev pub AwayTie : Tie → Shape → PoolShape → Place → Type 0
AwayTie R h g x = (p i : ℕ) (c : Counts) (m : Part) (s : Seat) → at_home x ≡ false → SeatOk p i (mode x) s → IfSome (effect (act_of (Worker p i) x) h (Worker p i) c m) (λ r. Goes (λ y. R m.pool p i x s y s) (next_of g (Worker p i) x (r.0)))

-- another party's act on a worker's seat
abbrev pub OtherTie : Tie → Shape → Place → Type 0
OtherTie R h x = (q : Party) (c : Counts) (m : Part) (p i : ℕ) (y : Place) → at_home x ≡ false → same_party q (Worker p i) ≡ false → SeatOk p i (mode y) m.seat → IfSome (effect (act_of q x) h q c m) (λ r. R m.pool p i y m.seat y (r.1.seat))

-- a worker and a seat that are not touched
abbrev pub NoTie : Tie → Type 0
NoTie R = (v : Pool) (p i : ℕ) (y : Place) (s : Seat) → SeatOk p i (mode y) s → R v p i y s y s

-- at home an act touches the worker's own seat
pub home_pool : (p i : ℕ) (x : Place) → at_home x ≡ true → target_pool (Worker p i) (act_of (Worker p i) x) ≡ p
home_pool p i (StealFrom k n) e = cc
home_pool p i _ e = cc

pub home_worker : (p i : ℕ) (x : Place) → at_home x ≡ true → target_worker (Worker p i) (act_of (Worker p i) x) ≡ i
home_worker p i (StealFrom k n) e = cc
home_worker p i _ e = cc

pub home_caller : (n : ℕ) (x : Place) → at_home x ≡ true → act_of (Caller n) x ≡ Idle
home_caller n (StealFrom k l) e = cc
home_caller n _ e = cc

-- where a move leads: its top and its frames
pub land : (R : Place → Type 0) (g : Move) (fs : List Place) → Goes R g → AllFrames fs → R ((after_move g fs).top) × AllFrames ((after_move g fs).below)
land R (Stay y) fs g a = (g, a)
land R (HandIn y token) fs g a = (g, a)
land R (Mark y b9 m9) fs g a = (g, a)
land R (Enter f y) fs g a = (g.1, (g.0, a))
land R (StartRun f t) fs g a = (g.1, (g.0, a))
land R Back [] g a = (g Stopped refl refl, tt)
land R Back (f ∷ fs) g a = (g f (a.0) (frame_out f (a.0)), a.1)
land R (HandBack n) [] g a = (g Stopped refl refl, tt)
land R (Discard n) [] g a = (g Stopped refl refl, tt)
land R (HandAllBack b9) [] g a = (g Stopped refl refl, tt)
land R (HandBack n) (f ∷ fs) g a = (g f (a.0) (frame_out f (a.0)), a.1)
land R (Discard n) (f ∷ fs) g a = (g f (a.0) (frame_out f (a.0)), a.1)
land R (HandAllBack b9) (f ∷ fs) g a = (g f (a.0) (frame_out f (a.0)), a.1)

at_tie : (R : Tie) (w : World) (sh : PoolShape) (q : Party) (k : Stack) (c : Counts) (p0 i0 c0 n0 p i : ℕ) (b d : Bool) → OwnTie R w.shape sh q (k.top) → AwayTie R w.shape sh (k.top) → OtherTie R w.shape (k.top) → NoTie R → w.stack q ≡ k → StackOk p i (w.stack (Worker p i)) (w.seat p i)
    → (at_home (k.top) ≡ true → q ≡ Worker p0 i0) → same_party (Worker p i) q ≡ b → ((p == p0) && (i == i0)) ≡ d
    → IfSome (effect (act_of q (k.top)) w.shape q c (part_of w p0 i0 c0 n0)) (λ r. R (w.pool p0) p i ((w.stack (Worker p i)).top) (w.seat p i) ((if b then after_move (next_of sh q (k.top) (r.0)) k.below else w.stack (Worker p i)).top) (if d then r.1.seat else w.seat p i)
    × AllFrames ((if b then after_move (next_of sh q (k.top) (r.0)) k.below else w.stack (Worker p i)).below))
at_tie R w sh q k c p0 i0 c0 n0 p i true true own away' other none e ok home eb ed =
    let m : Part = part_of w p0 i0 c0 n0 in
    let is_q : Worker p i ≡ q = same_party_true (Worker p i) q eb in
    let at : (p ≡ p0) × (i ≡ i0) = same_index p i p0 i0 ed in
    let same : w.seat p i ≡ w.seat p0 i0 = ap (λ n. w.seat n i) at.0 ∙ ap (λ n. w.seat p0 n) at.1 in
    let here : w.stack (Worker p i) ≡ k = ap w.stack is_q ∙ e in
    let ok' : StackOk p i k (w.seat p0 i0) = subst (λ s. StackOk p i k s) same (subst (λ y. StackOk p i y (w.seat p i)) here ok) in
    let Q : Place → Seat → Party → Seen × Part → Type 0 = λ t s z r. R (w.pool p0) p i t s ((after_move (next_of sh z (k.top) (r.0)) k.below).top) (r.1.seat) × AllFrames ((after_move (next_of sh z (k.top) (r.0)) k.below).below) in
    let base : IfSome (effect (act_of (Worker p i) (k.top)) w.shape (Worker p i) c m) (Q (k.top) (w.seat p0 i0) (Worker p i)) =
    if_some_map (λ r. Goes (λ y. R (w.pool p0) p i (k.top) (w.seat p0 i0) y (r.1.seat)) (next_of sh (Worker p i) (k.top) (r.0))) (Q (k.top) (w.seat p0 i0) (Worker p i))
    (λ r g. land (λ y. R (w.pool p0) p i (k.top) (w.seat p0 i0) y (r.1.seat)) (next_of sh (Worker p i) (k.top) (r.0)) k.below g (ok'.below)) (effect (act_of (Worker p i) (k.top)) w.shape (Worker p i) c m) (own p i c m (sym is_q) (ok'.top)) in
    subst (λ t. IfSome (effect (act_of q (k.top)) w.shape q c m) (Q t (w.seat p i) q)) (sym (ap (λ z. z.top) here))
    (subst (λ s. IfSome (effect (act_of q (k.top)) w.shape q c m) (Q (k.top) s q)) (sym same) (subst (λ z. IfSome (effect (act_of z (k.top)) w.shape z c m) (Q (k.top) (w.seat p0 i0) z)) is_q base))
at_tie R w sh q k c p0 i0 c0 n0 p i true false own away' other none e ok home eb ed =
    let m : Part = part_of w p0 i0 c0 n0 in
    let is_q : Worker p i ≡ q = same_party_true (Worker p i) q eb in
    let away : at_home (k.top) ≡ false = elim (either (at_home (k.top))) [ inl t ↦ absurd (let same : Worker p i ≡ Worker p0 i0 = is_q ∙ home t in let l : ((p == p0) && (i == i0)) ≡ true = ap (same_party (Worker p i)) (sym same) ∙ same_refl p i in cc) | inr f ↦ f ] in
    let here : w.stack (Worker p i) ≡ k = ap w.stack is_q ∙ e in
    let ok' : StackOk p i k (w.seat p i) = subst (λ y. StackOk p i y (w.seat p i)) here ok in
    let Q : Place → Party → Seen × Part → Type 0 = λ t z r. R (w.pool p0) p i t (w.seat p i) ((after_move (next_of sh z (k.top) (r.0)) k.below).top) (w.seat p i) × AllFrames ((after_move (next_of sh z (k.top) (r.0)) k.below).below) in
    let base : IfSome (effect (act_of (Worker p i) (k.top)) w.shape (Worker p i) c m) (Q (k.top) (Worker p i)) =
    if_some_map (λ r. Goes (λ y. R (w.pool p0) p i (k.top) (w.seat p i) y (w.seat p i)) (next_of sh (Worker p i) (k.top) (r.0))) (Q (k.top) (Worker p i)) (λ r g. land (λ y. R (w.pool p0) p i (k.top) (w.seat p i) y (w.seat p i)) (next_of sh (Worker p i) (k.top) (r.0)) k.below g (ok'.below))
    (effect (act_of (Worker p i) (k.top)) w.shape (Worker p i) c m) (away' p i c m (w.seat p i) away (ok'.top)) in
    subst (λ t. IfSome (effect (act_of q (k.top)) w.shape q c m) (Q t q)) (sym (ap (λ z. z.top) here)) (subst (λ z. IfSome (effect (act_of z (k.top)) w.shape z c m) (Q (k.top) z)) is_q base)
at_tie R w sh q k c p0 i0 c0 n0 p i false true own away' other none e ok home eb ed =
    let m : Part = part_of w p0 i0 c0 n0 in
    let at : (p ≡ p0) × (i ≡ i0) = same_index p i p0 i0 ed in
    let same : w.seat p i ≡ w.seat p0 i0 = ap (λ n. w.seat n i) at.0 ∙ ap (λ n. w.seat p0 n) at.1 in
    let ok' : SeatOk p i (mode ((w.stack (Worker p i)).top)) (w.seat p0 i0) = subst (λ s. SeatOk p i (mode ((w.stack (Worker p i)).top)) s) same (ok.top) in
    let away : at_home (k.top) ≡ false = elim (either (at_home (k.top))) [
      | inl t ↦ absurd (let here : q ≡ Worker p i = home t ∙ ap (λ n. Worker n i0) (sym at.0) ∙ ap (λ n. Worker p n) (sym at.1) in let l : same_party (Worker p i) q ≡ true = ap (same_party (Worker p i)) here ∙ same_refl p i in
          cc)
      | inr f ↦ f
    ] in
    let Q : Seat → Seen × Part → Type 0 = λ s r. R (w.pool p0) p i ((w.stack (Worker p i)).top) s ((w.stack (Worker p i)).top) (r.1.seat) in
    let base : IfSome (effect (act_of q (k.top)) w.shape q c m) (Q (w.seat p i)) = subst (λ s. IfSome (effect (act_of q (k.top)) w.shape q c m) (Q s)) (sym same) (other q c m p i ((w.stack (Worker p i)).top) away (not_same q (Worker p i) eb) ok') in
    if_some_map (Q (w.seat p i)) (λ r. Q (w.seat p i) r × AllFrames ((w.stack (Worker p i)).below)) (λ r g. (g, ok.below)) (effect (act_of q (k.top)) w.shape q c m) base
at_tie R w sh q k c p0 i0 c0 n0 p i false false own away' other none e ok home eb ed =
    if_some_all (λ (r : Seen × Part). R (w.pool p0) p i ((w.stack (Worker p i)).top) (w.seat p i) ((w.stack (Worker p i)).top) (w.seat p i) × AllFrames ((w.stack (Worker p i)).below)) (λ r. (none (w.pool p0) p i ((w.stack (Worker p i)).top) (w.seat p i) (ok.top), ok.below))
    (effect (act_of q (k.top)) w.shape q c (part_of w p0 i0 c0 n0))

-- the job that a party's act touches
abbrev pub job_at : World → Party → Act → ℕ
job_at w q a = target_job w.shape q a (w.pool (target_pool q a)) (w.seat (target_pool q a) (target_worker q a))

-- the shape of the pool that a party's act touches
abbrev pub shape_at : World → Party → Stack → PoolShape
shape_at w q k = w.shape.pool (target_pool q (act_of q (k.top)))

-- what a party's act sees and does
abbrev pub outcome : World → Party → Stack → Outcome
outcome w q k = effect (act_of q (k.top)) w.shape q (counts_at w (target_pool q (act_of q (k.top)))) (part_of w (target_pool q (act_of q (k.top))) (target_worker q (act_of q (k.top))) (target_call (act_of q (k.top))) (job_at w q (act_of q (k.top))))

-- the world after it
abbrev pub result : World → Party → Stack → Seen × Part → World
result w q k r = after w q k (target_pool q (act_of q (k.top))) (target_worker q (act_of q (k.top))) (target_call (act_of q (k.top))) (job_at w q (act_of q (k.top))) r

-- the relation holds of one worker before and after, and what is below its top are frames
abbrev pub Moves : Tie → World → Party → Stack → Seen × Part → ℕ → ℕ → Type 0
Moves R w q k r p i = R (w.pool (target_pool q (act_of q (k.top)))) p i ((w.stack (Worker p i)).top) (w.seat p i) (((result w q k r).stack (Worker p i)).top) ((result w q k r).seat p i) × AllFrames (((result w q k r).stack (Worker p i)).below)

all_moves : (R : Tie) (w : World) (q : Party) (k : Stack) → OwnTie R w.shape (shape_at w q k) q (k.top) → AwayTie R w.shape (shape_at w q k) (k.top) → OtherTie R w.shape (k.top) → NoTie R → w.stack q ≡ k → SeatsOk w
    → (at_home (k.top) ≡ true → q ≡ Worker (target_pool q (act_of q (k.top))) (target_worker q (act_of q (k.top)))) → IfSome (outcome w q k) (λ r. (p i : ℕ) → Moves R w q k r p i)
all_moves R w q k own away' other none e ok home =
    let p0 = target_pool q (act_of q (k.top)) in
    let i0 = target_worker q (act_of q (k.top)) in
    if_some_each {I = ℕ} (λ p r. (i : ℕ) → Moves R w q k r p i) (outcome w q k) (λ p.
    if_some_each {I = ℕ} (λ i r. Moves R w q k r p i) (outcome w q k) (λ i.
    at_tie R w (shape_at w q k) q k (counts_at w p0) p0 i0 (target_call (act_of q (k.top))) (job_at w q (act_of q (k.top))) p i (same_party (Worker p i) q) ((p == p0) && (i == i0)) own away' other none e (ok p i) home refl refl))

-- what an act does to each worker's top and seat, and that the frames stay frames
pub moves : (R : Tie) (w : World) (q : Party) (k : Stack) → OwnTie R w.shape (shape_at w q k) q (k.top) → AwayTie R w.shape (shape_at w q k) (k.top) → OtherTie R w.shape (k.top) → NoTie R → w.stack q ≡ k → SeatsOk w → IfSome (outcome w q k) (λ r. (p i : ℕ) → Moves R w q k r p i)
moves R w (Worker a b) k own away' other none e ok = all_moves R w (Worker a b) k own away' other none e ok (λ home. ap (λ n. Worker n b) (sym (home_pool a b (k.top) home)) ∙ ap (λ n. Worker (target_pool (Worker a b) (act_of (Worker a b) (k.top))) n) (sym (home_worker a b (k.top) home)))
moves R w (Caller n) k own away' other none e ok = elim (either (at_home (k.top))) [
  | inl t ↦ if_none _ (outcome w (Caller n) k) (ap (λ a. effect a w.shape (Caller n) (counts_at w (target_pool (Caller n) (act_of (Caller n) (k.top))))
      (part_of w (target_pool (Caller n) (act_of (Caller n) (k.top))) (target_worker (Caller n) (act_of (Caller n) (k.top))) (target_call (act_of (Caller n) (k.top))) (job_at w (Caller n) (act_of (Caller n) (k.top))))) (home_caller n (k.top) t))
  | inr f ↦ all_moves R w (Caller n) k own away' other none e ok (λ home. (let z : true ≡ false = sym home ∙ f in cc))
]

-- the seats' own invariant is such a relation
abbrev pub OkTie : Tie
OkTie v p i y s z t = SeatOk p i (mode z) t

ok_own : (h : Shape) (g : PoolShape) (q : Party) (x : Place) → OwnTie OkTie h g q x
ok_own h g q x p i c m is ok = own_keeps h g p i c m x ok

ok_away : (h : Shape) (g : PoolShape) (x : Place) → AwayTie OkTie h g x
ok_away h g (StealFrom k n) p i c m s away ok = search (rules, arith)
ok_away h g (SetLatch k) p i c m s away ok = if_some_all (λ r. Goes (OkAt p i s) (next_of g (Worker p i) (SetLatch k) (r.0))) (λ r. set_goes g p i k (r.0) s ok) (effect (act_of (Worker p i) (SetLatch k)) h (Worker p i) c m)
ok_away h g (UnlockSettled k) p i c m s away ok = if_some_all (λ r. Goes (OkAt p i s) (next_of g (Worker p i) (UnlockSettled k) (r.0))) (λ r. out_goes p i s (after_set g (Worker p i) k k.latch) (settled_out g (Worker p i) k k.latch) ok)
    (effect (act_of (Worker p i) (UnlockSettled k)) h (Worker p i) c m)
ok_away h g _ p i c m s away ok = search (rules, arith)

ok_other : (h : Shape) (x : Place) → OtherTie OkTie h x
ok_other h x q c m p i y away d ok = other_keeps h q c m x p i y away d ok

-- an act keeps all seats fitting
pub go_seats : (w : World) (q : Party) (k : Stack) → w.stack q ≡ k → SeatsOk w → IfSome (outcome w q k) (λ r. SeatsOk (result w q k r))
go_seats w q k e ok = if_some_map (λ r. (p i : ℕ) → Moves OkTie w q k r p i) (λ r. SeatsOk (result w q k r)) (λ r g p i. record { top = (g p i).0; below = (g p i).1 }) (outcome w q k)
    (moves OkTie w q k (ok_own w.shape (shape_at w q k) q (k.top)) (ok_away w.shape (shape_at w q k) (k.top)) (ok_other w.shape (k.top)) (λ v p i y s f. f) e ok)
