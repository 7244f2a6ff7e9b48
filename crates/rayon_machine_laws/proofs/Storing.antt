-- what acts leave of the faults that calls keep, of the jobs that have ended so, and of the shares of those
--
-- StorePiece alone writes what a broadcast keeps (`act_storing`), and makes it the lower of two. Only that place leads
-- to the Lower of a piece's share (`act_leads`).
use Rattle.std.proofs.Common.{rules, arith, refl, sym, ◌∙◌, ap, inl, inr}
use Rattle.std.specs.Prelude.{ℕ, Bool, true, false, ◌+◌, ◌-◌, ◌==◌, ◌≤◌, ◌<◌, nat_lt, min, if◌then◌else◌, Option, Some, None, ◌≡◌, IfSome, [], ◌∷◌, ◌⊎◌}
use Rattle.std.proofs.lemmas.Bool.{ltb-true, ltb-false}
use Rattle.std.proofs.Math.Dec.{ltb}
use Rattle.std.proofs.Math.Nat.{min-le_left, min-le_right, min-eq_left, min-eq_right}
use Rattle.rayon_machine_places.specs.declared.place.Party.{Party}
use Rattle.rayon_machine_places.specs.declared.place.Party.TheVariants.{Worker, Caller}
use Rattle.rayon_machine_places.specs.declared.place.Ending.{Ending}
use Rattle.rayon_machine_places.specs.declared.place.Ending.TheVariants.{Fine, Fault}
use Rattle.rayon_machine_places.specs.declared.place.JobKind.TheVariants.{Direct}
use Rattle.rayon_machine_places.specs.declared.place.Target.TheVariants.{Termination, Answer}
use Rattle.rayon_machine_places.specs.declared.place.Latch.{Latch}
use Rattle.rayon_machine_places.specs.declared.place.Latch.TheVariants.{Terminate, OfCall}
use Rattle.rayon_machine_places.specs.declared.place.Count.{Count}
use Rattle.rayon_machine_places.specs.declared.place.Count.TheVariants.{OfPool, OfScope, OfCast}
use Rattle.rayon_machine_places.specs.declared.place.Share.{Share}
use Rattle.rayon_machine_places.specs.declared.place.Share.TheVariants.{OfJob}
use Rattle.rayon_machine_places.specs.declared.place.Pieces.{Pieces}
use Rattle.rayon_machine_places.specs.declared.place.Feeding.{Feeding}
use Rattle.rayon_machine_places.specs.declared.place.Mark.{Mark as Marking}
use Rattle.rayon_machine_places.specs.declared.place.Mark.TheVariants.{Counted, Numbered, Queued, Dealt, Unnumbered, Returned}
use Rattle.rayon_machine_places.specs.declared.place.Plan.{Plan}
use Rattle.rayon_machine_places.specs.declared.place.Plan.TheVariants.{Detach, Here, Send, Fork, Feed, Open, Enter, Gather}
use Rattle.rayon_machine_places.specs.declared.place.Then.{Then}
use Rattle.rayon_machine_places.specs.declared.place.Then.TheVariants.{BeginFound, LeaveWait, Resume, Await, RunFirst, Answers, Missing as NoAnswer, Ran, GiveBack, Called, Gathers}
use Rattle.rayon_machine_places.specs.declared.place.Place.{Place}
use Rattle.rayon_machine_places.specs.declared.place.Place.TheVariants.{ProbeWorking, Run, RaiseCount, PushJob, AddToFifo, TakeFromFifo, RaiseForAll, LowerForAll, TakeResult, LowerCount, StoreResult, StoreBody, StoreSlot, StorePiece, SetLatch, UnlockSettled, GrowCall, GrowScope, GrowCast}
use Rattle.rayon_machine_places.specs.declared.place.Move.{Move}
use Rattle.rayon_machine_places.specs.declared.place.Move.TheVariants.{Stay, Enter as Into, StartRun, Back, HandBack, HandIn, Discard, Mark, HandAllBack}
use Rattle.rayon_machine_places.specs.declared.place.OpenCall.{OpenCall}
use Rattle.rayon_machine_places.specs.declared.place.Settling.{Settling}
use Rattle.rayon_machine_places.specs.declared.act.Seen.{Seen}
use Rattle.rayon_machine_places.specs.declared.act.Seen.TheVariants.{Done, Refused, Yes, No, Task}
use Rattle.rayon_machine_runs.specs.declared.state.Whereabouts.{Whereabouts}
use Rattle.rayon_machine_runs.specs.declared.state.Whereabouts.TheVariants.{Over, HandedBack, Spent}
use Rattle.rayon_machine_runs.specs.declared.state.Job.{Job}
use Rattle.rayon_machine_places.specs.declared.shape.PoolShape.{PoolShape}
use Rattle.rayon_machine_places.specs.Places.{act_of, next_of, finish, after_set, begin_cast, begin_feed, ends_count, withdraw, count_book, plan_book, taken_number, end_cast}
use Rattle.rayon_machine_runs.specs.World.{Shape, Part, at_job, begun, effect, raised, lowered, count_in, found, first_fault, lowest_fault, with_piece, put_body, put_slot, put_piece}
use Rattle.rayon_machine_places.specs.Sleepers.{Counts}
use Rattle.rayon_machine_runs.specs.Steps.{put, jobs_after, is_piece, mark_pieces, marked}
use Rattle.rayon_machine_laws.specs.Once.{one}
use Rattle.rayon_machine_laws.proofs.Acts.{JobCounted, KeptFault, Cell, writes_at, keeps}
use Rattle.rayon_machine_laws.proofs.Frame.{either, if_some_all, if_some_map, put_same, book_sees}
use Rattle.rayon_machine_laws.proofs.Seats.{is_frame}
use Rattle.rayon_machine_laws.proofs.Tops.{Tops}
use Rattle.rayon_machine_laws.proofs.Feeds.{fed_move}
use Rattle.rayon_machine_laws.proofs.Lists.{is_settled, Onward, act_on}

-- the piece whose share is given back once its ending is stored, with its call
abbrev pub piece_of : Count → Share → Option (ℕ × ℕ)
piece_of (OfCast c o) (OfJob t) = Some (c, t)
piece_of _ _ = None

abbrev pub lowers_piece : Place → Option (ℕ × ℕ)
lowers_piece (LowerCount k s Resume) = piece_of k s
lowers_piece _ = None

-- and the one whose ending is to be stored
abbrev pub stores_piece : Place → Option (ℕ × ℕ)
stores_piece (StorePiece c o t e) = Some (c, t)
stores_piece _ = None

-- 1 for a fault
abbrev pub faulted : Whereabouts → ℕ
faulted (Over Fault) = 1
faulted _ = 0

pub is_faulted : (v : Whereabouts) → 1 ≤ faulted v → v ≡ Over Fault
is_faulted (Over Fault) l = refl
is_faulted _ l = absurd (omega (arith, l))

-- no act and no move ends a run
abbrev pub Unended : Part → Seen × Part → Type 0
Unended m r = faulted r.1.job.at ≤ faulted m.job.at

unsettled_unfaulted : (v : Whereabouts) → is_settled v ≡ false → faulted v ≡ 0
unsettled_unfaulted (Over d) e = cc
unsettled_unfaulted _ e = refl

pub act_unended : (h : Shape) (q : Party) (c : Counts) (m : Part) (x : Place) → IfSome (effect (act_of q x) h q c m) (Unended m)
act_unended h q c m x = if_some_map (Onward m) (Unended m) (λ r o. elim o [
  | inl e ↦ (let s : faulted r.1.job.at ≡ faulted m.job.at = ap faulted e in omega (arith, s))
  | inr e ↦ (let z : faulted r.1.job.at ≡ 0 = unsettled_unfaulted r.1.job.at e in omega (arith, z))
]) (effect (act_of q x) h q c m) (act_on h q c m x)

put_faulted : (J : ℕ → Job) (a t : ℕ) (v : Whereabouts) → faulted v ≡ 0 → faulted (put J a (at_job (J a) v) t).at ≤ faulted (J t).at
put_faulted J a t v z = by (t == a)
  where
    by : (b : Bool) → faulted (if b then at_job (J a) v else J t).at ≤ faulted (J t).at
    by true = omega (arith, z)
    by false = omega arith

marks_faulted : (c : Pieces) (k : Marking) (J : ℕ → Job) (t : ℕ) → faulted (mark_pieces c k J t).at ≤ faulted (J t).at
marks_faulted c k J t = by (is_piece c t)
  where
    each : (k : Marking) → faulted (marked k c.pool (t - c.first) (J t)).at ≤ faulted (J t).at
    each Counted = omega arith
    each Queued = omega arith
    each (Numbered m) = omega arith
    each Dealt = omega arith
    each Unnumbered = omega arith
    each Returned = omega arith

    by : (b : Bool) → faulted (if b then marked k c.pool (t - c.first) (J t) else J t).at ≤ faulted (J t).at
    by true = each k
    by false = omega arith

pub land_faulted : (q : Party) (t : ℕ) (g : Move) (J : ℕ → Job) → faulted (jobs_after q g J t).at ≤ faulted (J t).at
land_faulted q t (Stay y) J = omega arith
land_faulted q t (HandIn y k) J = put_faulted J k t Spent refl
land_faulted q t (Discard k) J = put_faulted J k t Spent refl
land_faulted q t (Into f y) J = omega arith
land_faulted q t Back J = omega arith
land_faulted q t (StartRun f a) J = by (t == a)
  where
    by : (z : Bool) → faulted (if z then begun q (J a) else J t).at ≤ faulted (J t).at
    by true = omega arith
    by false = omega arith
land_faulted q t (Mark y c k) J = marks_faulted c k J t
land_faulted q t (HandAllBack c) J = marks_faulted c Returned J t
land_faulted q t (HandBack (Detach p a)) J = put_faulted J a t HandedBack refl
land_faulted q t (HandBack (Here p a)) J = put_faulted J a t HandedBack refl
land_faulted q t (HandBack (Send o)) J = put_faulted J (o.job) t HandedBack refl
land_faulted q t (HandBack (Open o)) J = put_faulted J (o.job) t HandedBack refl
land_faulted q t (HandBack (Enter e)) J = put_faulted J (e.job) t HandedBack refl
land_faulted q t (HandBack (Gather g)) J = marks_faulted g.pieces Returned J t
land_faulted q t (HandBack (Feed d)) J = by (t == d.token) (put_faulted J (d.job) t HandedBack refl)
  where
    by : (z : Bool) → faulted (put J (d.job) (at_job (J (d.job)) HandedBack) t).at ≤ faulted (J t).at → faulted (if z then at_job (J (d.token)) HandedBack else put J (d.job) (at_job (J (d.job)) HandedBack) t).at ≤ faulted (J t).at
    by true b = omega arith
    by false b = b
land_faulted q t (HandBack (Fork o a)) J = by (t == o.job) (put_faulted J a t HandedBack refl)
  where
    by : (z : Bool) → faulted (put J a (at_job (J a) HandedBack) t).at ≤ faulted (J t).at → faulted (if z then at_job (J (o.job)) HandedBack else put J a (at_job (J a) HandedBack) t).at ≤ faulted (J t).at
    by true b = omega arith
    by false b = b

-- the one act that takes a job's own share
abbrev pub lowers_job : Place → ℕ
lowers_job (LowerCount k (OfJob u) n) = 1
lowers_job _ = 0

abbrev pub Unlowered : Part → Place → Seen × Part → Type 0
Unlowered m x r = one m.job.counted ≤ one r.1.job.counted + lowers_job x

one_most : (b : Bool) → one b ≤ 1
one_most true = omega arith
one_most false = omega arith

raise_unlowered : (m : Part) (x : Place) (k : Count) (b : Bool) → IfSome (if b then Some (Refused, m) else Some (Done, raised m k)) (Unlowered m x)
raise_unlowered m x k true = omega arith
raise_unlowered m x k false = let a : one m.job.counted ≤ 1 = one_most (m.job.counted) in omega (arith, a)

-- the acts that write whether a job has a share
abbrev writes_share : Place → Bool
writes_share (RaiseCount n) = true
writes_share (LowerCount k s n) = true
writes_share _ = false

lowered_unlowered : (m : Part) (k : Count) (s : Share) (n : Then) (e : Seen) → Unlowered m (LowerCount k s n) (e, lowered m k s)
lowered_unlowered m k (OfJob u) n e = let a : one m.job.counted ≤ 1 = one_most (m.job.counted) in omega (arith, a)
lowered_unlowered m k _ n e = omega arith

share_writes : (x : Place) → writes_share x ≡ false → writes_at x (JobCounted ∷ []) ≡ false
share_writes (RaiseCount n) e = cc
share_writes _ e = cc

share_left : (h : Shape) (q : Party) (c : Counts) (m : Part) (x : Place) → writes_at x (JobCounted ∷ []) ≡ false → IfSome (effect (act_of q x) h q c m) (Unlowered m x)
share_left h q c m x n = keeps h q c m (λ v r. Unlowered v x r) (JobCounted ∷ []) x n (λ r k. let e : one r.1.job.counted ≡ one m.job.counted = ap one (k.0) in omega (arith, e))

pub act_unlowered : (h : Shape) (q : Party) (c : Counts) (m : Part) (x : Place) → IfSome (effect (act_of q x) h q c m) (Unlowered m x)
act_unlowered h (Worker a b) c m (RaiseCount n) = raise_unlowered m (RaiseCount n) _ _
act_unlowered h q c m (RaiseCount n) = raise_unlowered m (RaiseCount n) _ _
act_unlowered h q c m (LowerCount k s n) = lowered_unlowered m k s n (if count_in m k == 1 then Yes else No)
act_unlowered h q c m x = share_left h q c m x (share_writes x refl)

-- the pieces that a move takes shares from
abbrev pub unshares : ℕ → Move → ℕ
unshares t (HandBack (Gather g)) = one (is_piece g.pieces t)
unshares t (HandAllBack c) = one (is_piece c t)
unshares t (Mark y c Returned) = one (is_piece c t)
unshares t _ = 0

marks_counted : (c : Pieces) (k : Marking) (J : ℕ → Job) (t n : ℕ) → (k ≡ Returned → one (is_piece c t) ≤ n) → one (J t).counted ≤ one (mark_pieces c k J t).counted + n
marks_counted c k J t n d = by (is_piece c t) refl
  where
    each : (k : Marking) → (k ≡ Returned → 1 ≤ n) → one (J t).counted ≤ one (marked k c.pool (t - c.first) (J t)).counted + n
    each Counted d = let a : one (J t).counted ≤ 1 = one_most ((J t).counted) in omega (arith, a)
    each Queued d = omega arith
    each (Numbered m) d = omega arith
    each Dealt d = let a : one (J t).counted ≤ 1 = one_most ((J t).counted) in omega (arith, a)
    each Unnumbered d = omega arith
    each Returned d = let a : one (J t).counted ≤ 1 = one_most ((J t).counted) in let b : 1 ≤ n = d refl in omega (arith, a, b)

    by : (b : Bool) → is_piece c t ≡ b → one (J t).counted ≤ one (if b then marked k c.pool (t - c.first) (J t) else J t).counted + n
    by true e = each k (λ z. (let a : one (is_piece c t) ≤ n = d z in let b : one (is_piece c t) ≡ 1 = ap one e in omega (arith, a, b)))
    by false e = omega arith

same_counted : (J : ℕ → Job) (a : ℕ) (j : Job) (t : ℕ) → j.counted ≡ (J a).counted → one (J t).counted ≤ one (put J a j t).counted + 0
same_counted J a j t e = let b : one (put J a j t).counted ≡ one (J t).counted = ap one (put_same (λ v. v.counted) J a j t e) in omega (arith, b)

pub land_counted : (q : Party) (t : ℕ) (g : Move) (J : ℕ → Job) → one (J t).counted ≤ one (jobs_after q g J t).counted + unshares t g
land_counted q t (Stay y) J = omega arith
land_counted q t (HandIn y k) J = same_counted J k (at_job (J k) Spent) t refl
land_counted q t (Discard k) J = same_counted J k (at_job (J k) Spent) t refl
land_counted q t (Into f y) J = omega arith
land_counted q t Back J = omega arith
land_counted q t (StartRun f a) J = same_counted J a (begun q (J a)) t refl
land_counted q t (Mark y c Counted) J = marks_counted c Counted J t 0 (λ e. absurd (cc))
land_counted q t (Mark y c Queued) J = marks_counted c Queued J t 0 (λ e. absurd (cc))
land_counted q t (Mark y c (Numbered m)) J = marks_counted c (Numbered m) J t 0 (λ e. absurd (cc))
land_counted q t (Mark y c Dealt) J = marks_counted c Dealt J t 0 (λ e. absurd (cc))
land_counted q t (Mark y c Unnumbered) J = marks_counted c Unnumbered J t 0 (λ e. absurd (cc))
land_counted q t (Mark y c Returned) J = marks_counted c Returned J t (one (is_piece c t)) (λ e. omega arith)
land_counted q t (HandAllBack c) J = marks_counted c Returned J t (one (is_piece c t)) (λ e. omega arith)
land_counted q t (HandBack (Detach p a)) J = same_counted J a (at_job (J a) HandedBack) t refl
land_counted q t (HandBack (Here p a)) J = same_counted J a (at_job (J a) HandedBack) t refl
land_counted q t (HandBack (Send o)) J = same_counted J (o.job) (at_job (J (o.job)) HandedBack) t refl
land_counted q t (HandBack (Open o)) J = same_counted J (o.job) (at_job (J (o.job)) HandedBack) t refl
land_counted q t (HandBack (Enter e)) J = same_counted J (e.job) (at_job (J (e.job)) HandedBack) t refl
land_counted q t (HandBack (Gather g)) J = marks_counted g.pieces Returned J t (one (is_piece g.pieces t)) (λ e. omega arith)
land_counted q t (HandBack (Feed d)) J = let a : one (put J (d.job) (at_job (J (d.job)) HandedBack) t).counted ≡ one (J t).counted = ap one (put_same (λ v. v.counted) J (d.job) (at_job (J (d.job)) HandedBack) t refl) in
    let b : one (put (put J (d.job) (at_job (J (d.job)) HandedBack)) (d.token) (at_job (J (d.token)) HandedBack) t).counted ≡ one (put J (d.job) (at_job (J (d.job)) HandedBack) t).counted =
    ap one (put_same (λ v. v.counted) (put J (d.job) (at_job (J (d.job)) HandedBack)) (d.token) (at_job (J (d.token)) HandedBack) t (sym (put_same (λ v. v.counted) J (d.job) (at_job (J (d.job)) HandedBack) (d.token) refl))) in omega (arith, a, b)
land_counted q t (HandBack (Fork o s)) J = let a : one (put J s (at_job (J s) HandedBack) t).counted ≡ one (J t).counted = ap one (put_same (λ v. v.counted) J s (at_job (J s) HandedBack) t refl) in
    let b : one (put (put J s (at_job (J s) HandedBack)) (o.job) (at_job (J (o.job)) HandedBack) t).counted ≡ one (put J s (at_job (J s) HandedBack) t).counted =
    ap one (put_same (λ v. v.counted) (put J s (at_job (J s) HandedBack)) (o.job) (at_job (J (o.job)) HandedBack) t (sym (put_same (λ v. v.counted) J s (at_job (J s) HandedBack) (o.job) refl))) in omega (arith, a, b)

-- it takes them from pieces that its party has as they were made
pub unshared_none : (t : ℕ) (g : Move) → fed_move t g ≤ 0 → unshares t g ≤ 0
unshared_none t (HandBack (Gather g)) f = f
unshared_none t (HandBack (Detach p a)) f = omega arith
unshared_none t (HandBack (Here p a)) f = omega arith
unshared_none t (HandBack (Send o)) f = omega arith
unshared_none t (HandBack (Fork o a)) f = omega arith
unshared_none t (HandBack (Feed d)) f = omega arith
unshared_none t (HandBack (Open o)) f = omega arith
unshared_none t (HandBack (Enter e)) f = omega arith
unshared_none t (HandAllBack c) f = f
unshared_none t (Mark y c Returned) f = omega (arith, f)
unshared_none t (Mark y c Counted) f = omega arith
unshared_none t (Mark y c (Numbered n)) f = omega arith
unshared_none t (Mark y c Queued) f = omega arith
unshared_none t (Mark y c Dealt) f = omega arith
unshared_none t (Mark y c Unnumbered) f = omega arith
unshared_none t (Stay y) f = omega arith
unshared_none t (HandIn y k) f = omega arith
unshared_none t (Discard k) f = omega arith
unshared_none t (Into f2 y) f = omega arith
unshared_none t (StartRun f2 a) f = omega arith
unshared_none t Back f = omega arith

-- places whose acts store an ending
abbrev is_storing : Place → Bool
is_storing (StoreResult c o e) = true
is_storing (StoreBody o e) = true
is_storing (StoreSlot c o t e) = true
is_storing (StorePiece c o t e) = true
is_storing _ = false

abbrev cell_fault : Option Ending → ℕ
cell_fault (Some Fault) = 1
cell_fault _ = 0

is_cell_fault : (v : Option Ending) → 1 ≤ cell_fault v → v ≡ Some Fault
is_cell_fault (Some Fault) l = refl
is_cell_fault (Some Fine) l = absurd (omega (arith, l))
is_cell_fault None l = absurd (omega (arith, l))

-- no other act changes which fault a call keeps, or fills its cell
abbrev Unstored : Part → Seen × Part → Type 0
Unstored m r = (r.1.call.fault ≡ m.call.fault) × (cell_fault r.1.call.cell ≤ cell_fault m.call.cell)

found_unstored : (m : Part) (x : Option Ending) → IfSome (found m x) (Unstored m)
found_unstored m None = (refl, omega arith)
found_unstored m (Some e) = (refl, omega arith)

-- the acts that empty a cell
abbrev empties : Place → Bool
empties (TakeResult o f) = true
empties (GrowCall n) = true
empties (GrowScope o) = true
empties (GrowCast g) = true
empties _ = false

store_writes : (x : Place) → is_storing x ≡ false → empties x ≡ false → writes_at x (KeptFault ∷ Cell ∷ []) ≡ false
store_writes (TakeResult o f) z e = cc
store_writes _ z e = cc

stored_left : (h : Shape) (q : Party) (c : Counts) (m : Part) (x : Place) → writes_at x (KeptFault ∷ Cell ∷ []) ≡ false → IfSome (effect (act_of q x) h q c m) (Unstored m)
stored_left h q c m x n = keeps h q c m Unstored (KeptFault ∷ Cell ∷ []) x n (λ r k. (k.0, let e : cell_fault r.1.call.cell ≡ cell_fault m.call.cell = ap cell_fault (k.1.0) in omega (arith, e)))

act_unstored : (h : Shape) (q : Party) (c : Counts) (m : Part) (x : Place) → is_storing x ≡ false → IfSome (effect (act_of q x) h q c m) (Unstored m)
act_unstored h (Worker a b) c m (TakeResult o f) z = found_unstored m m.call.cell
act_unstored h q c m (TakeResult o f) z = found_unstored m m.call.cell
act_unstored h q c m (GrowCall n) z = (refl, omega arith)
act_unstored h q c m (GrowScope o) z = (refl, omega arith)
act_unstored h q c m (GrowCast g) z = (refl, omega arith)
act_unstored h q c m x z = stored_left h q c m x (store_writes x z refl)

-- the piece whose fault an act stores
abbrev pub blame_of : Place → Option ℕ
blame_of (StorePiece c o t Fault) = Some t
blame_of _ = None

-- acts that store the ending of another job than a piece, in the cell or in the book
abbrev pub is_other : Place → Bool
is_other (StoreBody o e) = true
is_other (StoreSlot c o t e) = true
is_other _ = false

abbrev pub is_result : Place → Bool
is_result (StoreResult c o e) = true
is_result _ = false

-- what an act makes of a call's fault and cell: a fault that is kept gives way to a lower one alone; one that is new is
-- what an end stores; and a cell that tells a fault, where none is kept, did so before
pub record Storing (x : Place) (m : Part) (r : Seen × Part) : Type 0 where
  pub less : (k : ℕ) → m.call.fault ≡ Some k → (j : ℕ) × ((r.1.call.fault ≡ Some j) × (j ≤ k))
  pub new : (t : ℕ) → r.1.call.fault ≡ Some t → (m.call.fault ≡ Some t) ⊎ ((blame_of x ≡ Some t) ⊎ (is_other x ≡ true))
  pub cell : r.1.call.cell ≡ Some Fault → r.1.call.fault ≡ None → ((m.call.cell ≡ Some Fault) × (m.call.fault ≡ None)) ⊎ (is_result x ≡ true)
  pub stored : (t : ℕ) → blame_of x ≡ Some t → (j : ℕ) × ((r.1.call.fault ≡ Some j) × (j ≤ t))

blame_stores : (x : Place) (t : ℕ) → blame_of x ≡ Some t → is_storing x ≡ true
blame_stores (StorePiece c o u Fault) t e = refl
blame_stores (StorePiece c o u Fine) t e = cc
blame_stores _ t e = cc

plain_storing : (x : Place) (m : Part) (r : Seen × Part) → is_storing x ≡ false → Unstored m r → Storing x m r
plain_storing x m r z s = record {
  less = λ k e. (k, (s.0 ∙ e, omega arith));
  new = λ t e. inl (sym (s.0) ∙ e);
  cell = λ e f. inl (is_cell_fault (m.call.cell) (let a : cell_fault r.1.call.cell ≡ 1 = ap cell_fault e in let b : cell_fault r.1.call.cell ≤ cell_fault m.call.cell = s.1 in omega (arith, a, b)), sym (s.0) ∙ f);
  stored = λ t e. absurd (let a : is_storing x ≡ true = blame_stores x t e in let b : true ≡ false = sym a ∙ z in cc);
}

pub number_is : (a b : ℕ) → Some a ≡ Some b → a ≡ b
number_is a b e = cc

kept_less : (f : Option ℕ) (u : ℕ) (e : Ending) (k : ℕ) → f ≡ Some k → (j : ℕ) × ((lowest_fault f u e ≡ Some j) × (j ≤ k))
kept_less f u Fine k y = (k, (y, omega arith))
kept_less (Some i) u Fault k y = (min i u, (refl, (let a : i ≡ k = number_is i k y in let b : min i u ≤ i = min-le_left i u in omega (arith, a, b))))
kept_less None u Fault k y = absurd (cc)

kept_new : (f : Option ℕ) (u : ℕ) (e : Ending) (d : ℕ) (o : Party) (t : ℕ) → lowest_fault f u e ≡ Some t → (f ≡ Some t) ⊎ ((blame_of (StorePiece d o u e) ≡ Some t) ⊎ (is_other (StorePiece d o u e) ≡ true))
kept_new f u Fine d o t y = inl y
kept_new None u Fault d o t y = inr (inl y)
kept_new (Some i) u Fault d o t y = elim (either (ltb u i)) [
  | inl z ↦ inr (inl (let l : u < i = ltb-true u i z in let m : u ≤ i = omega (arith, l) in ap Some (sym (min-eq_right {n = u} {m = i} m)) ∙ y))
  | inr z ↦ inl (let l : i ≤ u = ltb-false u i z in ap Some (sym (min-eq_left {n = i} {m = u} l)) ∙ y)
]

kept_cell : (c : Option Ending) (f : Option ℕ) (u : ℕ) (e : Ending) → Some (with_piece c e) ≡ Some Fault → lowest_fault f u e ≡ None → (c ≡ Some Fault) × (f ≡ None)
kept_cell c None u Fault y z = absurd (cc)
kept_cell c (Some i) u Fault y z = absurd (cc)
kept_cell (Some Fault) f u Fine y z = (refl, z)
kept_cell (Some Fine) f u Fine y z = absurd (cc)
kept_cell None f u Fine y z = absurd (cc)

kept_stored : (f : Option ℕ) (u : ℕ) (e : Ending) (d : ℕ) (o : Party) (t : ℕ) → blame_of (StorePiece d o u e) ≡ Some t → (j : ℕ) × ((lowest_fault f u e ≡ Some j) × (j ≤ t))
kept_stored f u Fine d o t y = absurd (cc)
kept_stored None u Fault d o t y = (u, (refl, (let a : u ≡ t = number_is u t y in omega (arith, a))))
kept_stored (Some i) u Fault d o t y = (min i u, (refl, (let a : u ≡ t = number_is u t y in let b : min i u ≤ u = min-le_right i u in omega (arith, a, b))))

piece_storing : (m : Part) (s : Seen) (d : ℕ) (o : Party) (u : ℕ) (e : Ending) → Storing (StorePiece d o u e) m (s, put_piece m u e)
piece_storing m s d o u e = record {
  less = λ k y. kept_less (m.call.fault) u e k y;
  new = λ t y. kept_new (m.call.fault) u e d o t y;
  cell = λ y z. inl (kept_cell (m.call.cell) (m.call.fault) u e y z);
  stored = λ t y. kept_stored (m.call.fault) u e d o t y;
}

first_less : (f : Option ℕ) (u : ℕ) (e : Ending) (k : ℕ) → f ≡ Some k → (j : ℕ) × ((first_fault f u e ≡ Some j) × (j ≤ k))
first_less (Some i) u e k y = (k, (y, omega arith))
first_less None u e k y = absurd (cc)

first_cell : (f : Option ℕ) (u : ℕ) (e : Ending) → Some e ≡ Some Fault → first_fault f u e ≡ None → ⊥
first_cell (Some i) u e y z = absurd (cc)
first_cell None u Fault y z = absurd (cc)
first_cell None u Fine y z = absurd (cc)

first_none : (f : Option ℕ) (u : ℕ) (e : Ending) → first_fault f u e ≡ None → f ≡ None
first_none None u e z = refl
first_none (Some i) u e z = z

body_storing : (q : Party) (m : Part) (o : OpenCall) (e : Ending) → IfSome (put_body q m e) (Storing (StoreBody o e) m)
body_storing q m o e = book_sees (Storing (StoreBody o e) m) q m (Done, record m { call = record (m.call) { cell = Some e; fault = first_fault m.call.fault m.call.job e } }) (record {
  less = λ k y. first_less (m.call.fault) (m.call.job) e k y;
  new = λ t y. inr (inr refl);
  cell = λ y z. absurd (first_cell (m.call.fault) (m.call.job) e y z);
  stored = λ t y. absurd (cc);
})

slot_storing : (q : Party) (m : Part) (c : ℕ) (o : Party) (t : ℕ) (e : Ending) → IfSome (put_slot q m t e) (Storing (StoreSlot c o t e) m)
slot_storing q m c o t e = book_sees (Storing (StoreSlot c o t e) m) q m _ (record {
  less = λ k y. first_less (m.call.fault) t e k y;
  new = λ n y. inr (inr refl);
  cell = λ y z. inl (y, first_none (m.call.fault) t e z);
  stored = λ n y. absurd (cc);
})

result_storing : (m : Part) (c : ℕ) (o : Party) (e : Ending) → Storing (StoreResult c o e) m (Done, record m { call = record (m.call) { cell = Some e } })
result_storing m c o e = record { less = λ k y. (k, (y, omega arith)); new = λ t y. inl y; cell = λ y z. inr refl; stored = λ t y. absurd (cc) }

pub act_storing : (h : Shape) (q : Party) (c : Counts) (m : Part) (x : Place) → IfSome (effect (act_of q x) h q c m) (Storing x m)
act_storing h (Worker a b) c m (StoreResult d o e) = result_storing m d o e
act_storing h (Caller n) c m (StoreResult d o e) = result_storing m d o e
act_storing h (Worker a b) c m (StoreBody o e) = body_storing (Worker a b) m o e
act_storing h (Caller n) c m (StoreBody o e) = body_storing (Caller n) m o e
act_storing h (Worker a b) c m (StoreSlot d o t e) = slot_storing (Worker a b) m d o t e
act_storing h (Caller n) c m (StoreSlot d o t e) = slot_storing (Caller n) m d o t e
act_storing h (Worker a b) c m (StorePiece d o t e) = piece_storing m Done d o t e
act_storing h (Caller n) c m (StorePiece d o t e) = piece_storing m Done d o t e
act_storing h q c m x = if_some_map (Unstored m) (Storing x m) (λ r s. plain_storing x m r refl s) (effect (act_of q x) h q c m) (act_unstored h q c m x refl)

-- no place but the one that stores a piece's ending leads to the Lower of its share
abbrev pub Unpieced : Place → Type 0
Unpieced y = lowers_piece y ≡ None

finish_unpieced : (q : Party) (t : Then) → Tops Unpieced (finish q t)
finish_unpieced q (BeginFound Termination t) = refl
finish_unpieced q (BeginFound (Answer o f) t) = refl
finish_unpieced q (LeaveWait Termination) = refl
finish_unpieced q (LeaveWait (Answer o f)) = refl
finish_unpieced (Worker i j) (Await o) = refl
finish_unpieced (Caller c) (Await o) = refl
finish_unpieced (Worker i j) (Gathers o) = refl
finish_unpieced (Caller c) (Gathers o) = refl
finish_unpieced q (RunFirst o a) = refl
finish_unpieced q Resume = tt
finish_unpieced q Called = tt
finish_unpieced q (Answers o f e) = tt
finish_unpieced q (NoAnswer o f) = tt
finish_unpieced q (Ran t e) = tt
finish_unpieced q (GiveBack n) = tt

settled_unpieced : (h : PoolShape) (q : Party) (s : Settling) (l : Latch) → Tops Unpieced (after_set h q s l)
settled_unpieced h q s Terminate = by (nat_lt (s.worker + 1) h.workers)
  where
    by : (b : Bool) → Tops Unpieced (if b then Stay (SetLatch (record { latch = Terminate; pool = s.pool; worker = s.worker + 1; then = s.then })) else finish q s.then)
    by true = refl
    by false = finish_unpieced q s.then
settled_unpieced h q s (OfCall c) = finish_unpieced q s.then

set_unpieced : (h : PoolShape) (q : Party) (s : Settling) (e : Seen) → Tops Unpieced (next_of h q (SetLatch s) e)
set_unpieced h q s Yes = refl
set_unpieced h q s _ = settled_unpieced h q s s.latch

pub drawn_unpieced : (o : Option ℕ) (n : Plan) → Unpieced (withdraw o n)
drawn_unpieced None n = refl
drawn_unpieced (Some c) n = refl

back_unpieced : (h : PoolShape) (q : Party) (f : Feeding) (e : Seen) → Tops Unpieced (next_of h q (TakeFromFifo f) e)
back_unpieced h q f (Task x) = drawn_unpieced (count_book f.count) (Feed (record f { job = taken_number x }))
back_unpieced h q f _ = tt

ends_unpieced : (k : Count) → Unpieced (ends_count k)
ends_unpieced (OfPool p) = refl
ends_unpieced (OfScope c (Worker i j)) = refl
ends_unpieced (OfScope c (Caller n)) = refl
ends_unpieced (OfCast c (Worker i j)) = refl
ends_unpieced (OfCast c (Caller n)) = refl

sunk_unpieced : (h : PoolShape) (q : Party) (b : Pieces) (e : Seen) → Tops Unpieced (next_of h q (LowerForAll b) e)
sunk_unpieced h q b Yes = ends_unpieced b.count
sunk_unpieced h q b _ = tt

begun_unpieced : (b : Pieces) (k : Count) → Unpieced (begin_cast k b)
begun_unpieced b (OfPool p) = refl
begun_unpieced b (OfScope c o) = refl
begun_unpieced b (OfCast c o) = refl

risen_unpieced : (h : PoolShape) (q : Party) (b : Pieces) (e : Seen) → Tops Unpieced (next_of h q (RaiseForAll b) e)
risen_unpieced h q b Done = begun_unpieced b b.count
risen_unpieced h q b _ = tt

fed_unpieced : (f : Feeding) (k : Count) → Unpieced (begin_feed k f)
fed_unpieced f (OfPool p) = refl
fed_unpieced f (OfScope c o) = refl
fed_unpieced f (OfCast c o) = refl

raised_unpieced : (h : PoolShape) (q : Party) (n : Plan) (e : Seen) → Tops Unpieced (next_of h q (RaiseCount n) e)
raised_unpieced h q (Detach p t) Done = refl
raised_unpieced h q (Here p t) Done = refl
raised_unpieced h q (Send o) Done = refl
raised_unpieced h q (Fork o a) Done = refl
raised_unpieced h q (Feed f) Done = fed_unpieced f f.count
raised_unpieced h q (Open o) Done = refl
raised_unpieced h q (Enter x) Done = refl
raised_unpieced h q (Gather g) Done = refl
raised_unpieced h q n _ = tt

pushed_unpieced : (h : PoolShape) (q : Party) (n : Plan) (v : Bool) (e : Seen) → Tops Unpieced (next_of h q (PushJob n v) e)
pushed_unpieced h q n v Done = refl
pushed_unpieced h q n v _ = drawn_unpieced (plan_book n) n

added_unpieced : (h : PoolShape) (q : Party) (f : Feeding) (e : Seen) → Tops Unpieced (next_of h q (AddToFifo f) e)
added_unpieced h q f Done = refl
added_unpieced h q f _ = drawn_unpieced (count_book f.count) (Feed f)

pub end_unpieced : (b : Pieces) (k : Count) → Unpieced (end_cast k b)
end_unpieced b (OfPool p) = refl
end_unpieced b (OfScope c o) = refl
end_unpieced b (OfCast c o) = refl

-- what every answer of an act leads to
of_every : (h : Shape) (g : PoolShape) (q : Party) (c : Counts) (m : Part) (x : Place) → ((e : Seen) → Tops Unpieced (next_of g q x e)) → IfSome (effect (act_of q x) h q c m) (λ r. Tops Unpieced (next_of g q x (r.0)))
of_every h g q c m x f = if_some_all {A = Seen × Part} (λ r. Tops Unpieced (next_of g q x (r.0))) (λ r. f (r.0)) (effect (act_of q x) h q c m)

abbrev is_piece_store : Place → Bool
is_piece_store (StorePiece c o t e) = true
is_piece_store _ = false

unpieced : (h : Shape) (g : PoolShape) (q : Party) (c : Counts) (m : Part) (x : Place) → is_piece_store x ≡ false → IfSome (effect (act_of q x) h q c m) (λ r. Tops Unpieced (next_of g q x (r.0)))
unpieced h g (Worker i j) c m (ProbeWorking k) z = search (rules, arith)
unpieced h g q c m (StorePiece d o t e) z = cc
unpieced h g q c m (RaiseCount n) z = of_every h g q c m (RaiseCount n) (raised_unpieced g q n)
unpieced h g q c m (RaiseForAll b) z = of_every h g q c m (RaiseForAll b) (risen_unpieced g q b)
unpieced h g q c m (PushJob n v) z = of_every h g q c m (PushJob n v) (pushed_unpieced g q n v)
unpieced h g q c m (AddToFifo f) z = of_every h g q c m (AddToFifo f) (added_unpieced g q f)
unpieced h g q c m (TakeFromFifo f) z = of_every h g q c m (TakeFromFifo f) (back_unpieced g q f)
unpieced h g q c m (LowerForAll b) z = of_every h g q c m (LowerForAll b) (sunk_unpieced g q b)
unpieced h g q c m (SetLatch s) z = of_every h g q c m (SetLatch s) (set_unpieced g q s)
unpieced h g q c m (UnlockSettled s) z = of_every h g q c m (UnlockSettled s) (λ e. settled_unpieced g q s s.latch)
unpieced h g (Worker i j) c m _ z = search (rules, arith)
unpieced h g (Caller n) c m _ z = search (rules, arith)

-- where an act leads to the Lower of a piece's share
abbrev pub Leads : Place → Place → Type 0
Leads x y = (c t : ℕ) → lowers_piece y ≡ Some (c, t) → stores_piece x ≡ Some (c, t)

pub none_leads : (x y : Place) → Unpieced y → Leads x y
none_leads x y n c t e = absurd (let a : None ≡ Some (c, t) = sym n ∙ e in cc)

tops_lead : (x : Place) (g : Move) → Tops Unpieced g → Tops (Leads x) g
tops_lead x (Stay y) t = none_leads x y t
tops_lead x (HandIn y k) t = none_leads x y t
tops_lead x (Mark y c k) t = none_leads x y t
tops_lead x (Into f y) t = none_leads x y t
tops_lead x (StartRun f a) t = none_leads x (Run a Direct) refl
tops_lead x Back t = tt
tops_lead x (HandBack n) t = tt
tops_lead x (Discard n) t = tt
tops_lead x (HandAllBack b) t = tt

pub act_leads : (h : Shape) (g : PoolShape) (q : Party) (c : Counts) (m : Part) (x : Place) → IfSome (effect (act_of q x) h q c m) (λ r. Tops (Leads x) (next_of g q x (r.0)))
act_leads h g q c m (StorePiece d o t e) = if_some_all {A = Seen × Part} (λ r. Tops (Leads (StorePiece d o t e)) (next_of g q (StorePiece d o t e) (r.0))) (λ r n u y. y) (effect (act_of q (StorePiece d o t e)) h q c m)
act_leads h g q c m x = if_some_map {A = Seen × Part} (λ r. Tops Unpieced (next_of g q x (r.0))) (λ r. Tops (Leads x) (next_of g q x (r.0))) (λ r t. tops_lead x (next_of g q x (r.0)) t) (effect (act_of q x) h q c m) (unpieced h g q c m x refl)

pub frame_unpieced : (f : Place) → is_frame f ≡ true → Unpieced f
frame_unpieced (LowerCount k s n) e = cc
frame_unpieced _ e = refl
