-- a job that is over, whose call waits for it: each act leaves it so, and none gives it a share again
use Rattle.std.proofs.Common.{rules, arith, refl, sym, ◌∙◌, ap, inl, inr}
use Rattle.rayon_machine_sleep_laws.proofs.Words.{ℕ, Bool, true, false, ◌&&◌, ◌+◌, ◌-◌, ◌==◌, ◌≤◌, if◌then◌else◌, Option, Some, ◌≡◌, ◌⊎◌, IfSome, Party, Worker, Caller, Latch, Terminate, OfCall, PoolValue, OfJob, Plan, Detach, Here, Send, Fork, Feed, Open, Enter, Gather, Pieces, Gathering}
use Rattle.rayon_machine_sleep_laws.proofs.Words.{Counted, Returned, Place, RaiseCount, LowerCount, RaiseForAll, LowerForAll, DealPieces, Move, Stay, Into, StartRun, Back, HandBack, HandIn, Discard, Mark, HandAllBack, Act, Sleepy, Asleep, Wakeup, Set, Seen, Done, Refused, Yes, Letter, IsSet}
use Rattle.rayon_machine_sleep_laws.proofs.Words.{Over, Job, PoolShape, act_of, next_of, plan_count, plan_job, Shape, World, Counts, Part, at_job, effect, letter, with_letter, raised, all_raised, put, jobs_after, is_piece, is_done, IsOnce, one}
use Rattle.rayon_machine_places.specs.declared.place.Share.TheVariants.{Body}
use Rattle.rayon_machine_places.specs.declared.place.Mark.{Mark as Marking}
use Rattle.rayon_machine_places.specs.declared.place.Mark.TheVariants.{Numbered, Queued, Dealt, Unnumbered}
use Rattle.rayon_machine_runs.specs.declared.state.Whereabouts.{Whereabouts}
use Rattle.rayon_machine_runs.specs.declared.state.Whereabouts.TheVariants.{HandedBack, Spent}
use Rattle.rayon_machine_runs.specs.World.{begun}
use Rattle.rayon_machine_runs.specs.Steps.{mark_pieces, marked}
use Rattle.rayon_machine_laws.specs.Once.{is_with, hand, hand_plan, held, held_in}
use Rattle.rayon_machine_laws.proofs.Claims.{Says}
use Rattle.rayon_machine_laws.proofs.Frame.{if_some_all, if_some_map, is_sharing}
use Rattle.rayon_machine_laws.proofs.Letters.{sleepy_keeps, asleep_keeps, wake_keeps, set_keeps}
use Rattle.rayon_machine_laws.proofs.ShareActs.{Untallied, act_untallied}
use Rattle.rayon_machine_laws.proofs.ShareSteps.{no_steady, raise_steady, lower_steady, self_one}
use Rattle.rayon_machine_sleep_laws.proofs.Rests.{not_both}
use Rattle.rayon_machine_sleep_laws.proofs.Sides.{is_stored}

-- no act ends a run
abbrev pub Unended : Part → Seen × Part → Type 0
Unended m r = is_done r.1.job.at ≡ true → is_done m.job.at ≡ true

letter_unended : (l : Latch) (m : Part) (e : Seen) (y : Letter) → Unended m (e, with_letter l m y)
letter_unended Terminate m e y = λ z. z
letter_unended (OfCall c) m e y = λ z. z

pub act_unended : (a : Act) (h : Shape) (q : Party) (c : Counts) (m : Part) → IfSome (effect a h q c m) (Unended m)
act_unended (Sleepy l) h q c m = sleepy_keeps l Unended (λ v e z. z) (λ v e y n. letter_unended l v e y) m (letter l m)
act_unended (Asleep l) h q c m = asleep_keeps l Unended (λ v e z. z) (λ v e y n. letter_unended l v e y) m (letter l m)
act_unended (Wakeup l) h q c m = wake_keeps l Unended (λ v e z. z) (λ v e y n. letter_unended l v e y) m (letter l m)
act_unended (Set l r j) h q c m = set_keeps l Unended (λ v e. letter_unended l v e IsSet) m (letter l m)
act_unended _ h q c m = search (rules, arith)

-- a job has a share after an act only where it had one, or the act raises a count for it; and none that gives it back
abbrev pub is_raising : Place → Bool
is_raising (RaiseCount n) = true
is_raising x = false

abbrev pub gives_back : Place → Bool
gives_back (LowerCount k (OfJob u) t) = true
gives_back x = false

pub record Shared (m : Part) (x : Place) (r : Seen × Part) : Type 0 where
  pub had : r.1.job.counted ≡ true → (m.job.counted ≡ true) ⊎ (is_raising x ≡ true)
  pub back : gives_back x ≡ true → r.1.job.counted ≡ false

raise_shared : (m : Part) (n : Plan) (b : Bool) → IfSome (if b then Some (Refused, m) else Some (Done, raised m (plan_count n))) (Shared m (RaiseCount n))
raise_shared m n true = record { had = λ z. inl z; back = λ z. cc }
raise_shared m n false = record { had = λ z. inr refl; back = λ z. cc }

raise_all_shared : (m : Part) (c : Pieces) (b : Bool) → IfSome (if b then Some (Refused, m) else Some (Done, all_raised m c)) (Shared m (RaiseForAll c))
raise_all_shared m c true = record { had = λ z. inl z; back = λ z. cc }
raise_all_shared m c false = record { had = λ z. inl z; back = λ z. cc }

plain_shared : (m : Part) (x : Place) (o : Option (Seen × Part)) → gives_back x ≡ false → IfSome o (Untallied m) → IfSome o (Shared m x)
plain_shared m x o n t = if_some_map (Untallied m) (Shared m x) (λ r f. record { had = λ z. inl (sym (f.job) ∙ z); back = λ z. absurd (not_both (gives_back x) z n) }) o t

pub act_shared : (h : Shape) (q : Party) (c : Counts) (m : Part) (x : Place) → IfSome (effect (act_of q x) h q c m) (Shared m x)
act_shared h (Worker a b) c m (RaiseCount n) = raise_shared m n _
act_shared h (Caller v) c m (RaiseCount n) = raise_shared m n _
act_shared h (Worker a b) c m (RaiseForAll n) = raise_all_shared m n _
act_shared h (Caller v) c m (RaiseForAll n) = raise_all_shared m n _
act_shared h (Worker a b) c m (LowerCount k PoolValue t) = record { had = λ z. inl z; back = λ z. cc }
act_shared h (Caller v) c m (LowerCount k PoolValue t) = record { had = λ z. inl z; back = λ z. cc }
act_shared h (Worker a b) c m (LowerCount k Body t) = record { had = λ z. inl z; back = λ z. cc }
act_shared h (Caller v) c m (LowerCount k Body t) = record { had = λ z. inl z; back = λ z. cc }
act_shared h (Worker a b) c m (LowerCount k (OfJob u) t) = record { had = λ z. absurd (cc); back = λ z. refl }
act_shared h (Caller v) c m (LowerCount k (OfJob u) t) = record { had = λ z. absurd (cc); back = λ z. refl }
act_shared h (Worker a b) c m (LowerForAll n) = record { had = λ z. inl z; back = λ z. cc }
act_shared h (Caller v) c m (LowerForAll n) = record { had = λ z. inl z; back = λ z. cc }
act_shared h (Worker a b) c m (DealPieces n) = record { had = λ z. inl z; back = λ z. cc }
act_shared h (Caller v) c m (DealPieces n) = record { had = λ z. inl z; back = λ z. cc }
act_shared h q c m x = plain_shared m x (effect (act_of q x) h q c m) refl (act_untallied h q c m x refl)

-- a move gives shares to the pieces that it marks as counted
abbrev pub marks : ℕ → Move → Bool
marks t (Mark y c Counted) = is_piece c t
marks t g = false

-- what a move makes of a job that is over after it
abbrev pub Lands : ℕ → Move → Job → Job → Type 0
Lands t g j i = is_done j.at ≡ true → (is_done i.at ≡ true) × (j.counted ≡ true → (i.counted ≡ true) ⊎ (marks t g ≡ true))

put_lands : (t : ℕ) (g : Move) (J I : ℕ → Job) (a : ℕ) (j : Job) → is_done j.at ≡ false → Lands t g (J t) (I t) → Lands t g (put J a j t) (I t)
put_lands t g J I a j n l = by (t == a)
  where
    by : (b : Bool) → Lands t g (if b then j else J t) (I t)
    by true = λ e. absurd (not_both (is_done j.at) e n)
    by false = l

same_lands : (t : ℕ) (g : Move) (j : Job) → Lands t g j j
same_lands t g j e = (e, λ z. inl z)

marks_land : (t : ℕ) (g : Move) (c : Pieces) (k : Marking) (J : ℕ → Job) → (k ≡ Counted → is_piece c t ≡ true → marks t g ≡ true) → Lands t g (mark_pieces c k J t) (J t)
marks_land t g c k J f = by (is_piece c t) refl
  where
    each : (k : Marking) → (k ≡ Counted → marks t g ≡ true) → Lands t g (marked k c.pool (t - c.first) (J t)) (J t)
    each Counted f = λ e. (e, λ z. inr (f refl))
    each (Numbered n) f = λ e. (e, λ z. inl z)
    each Unnumbered f = λ e. (e, λ z. inl z)
    each _ f = λ e. absurd (cc)

    by : (b : Bool) → is_piece c t ≡ b → Lands t g (if b then marked k c.pool (t - c.first) (J t) else J t) (J t)
    by true y = each k (λ e. f e y)
    by false y = same_lands t g (J t)

pub land : (q : Party) (t : ℕ) (g : Move) (J : ℕ → Job) → Lands t g (jobs_after q g J t) (J t)
land q t (Stay y) J = same_lands t (Stay y) (J t)
land q t (Into f y) J = same_lands t (Into f y) (J t)
land q t Back J = same_lands t Back (J t)
land q t (StartRun f a) J = put_lands t (StartRun f a) J J a (begun q (J a)) refl (same_lands t (StartRun f a) (J t))
land q t (HandIn y k) J = put_lands t (HandIn y k) J J k (at_job (J k) Spent) refl (same_lands t (HandIn y k) (J t))
land q t (Discard k) J = put_lands t (Discard k) J J k (at_job (J k) Spent) refl (same_lands t (Discard k) (J t))
land q t (Mark y c k) J = marks_land t (Mark y c k) c k J (λ e p. ap (λ n. marks t (Mark y c n)) e ∙ p)
land q t (HandAllBack c) J = marks_land t (HandAllBack c) c Returned J (λ e p. absurd (cc))
land q t (HandBack (Detach p a)) J = put_lands t (HandBack (Detach p a)) J J a (at_job (J a) HandedBack) refl (same_lands t (HandBack (Detach p a)) (J t))
land q t (HandBack (Here p a)) J = put_lands t (HandBack (Here p a)) J J a (at_job (J a) HandedBack) refl (same_lands t (HandBack (Here p a)) (J t))
land q t (HandBack (Send o)) J = put_lands t (HandBack (Send o)) J J o.job (at_job (J o.job) HandedBack) refl (same_lands t (HandBack (Send o)) (J t))
land q t (HandBack (Open o)) J = put_lands t (HandBack (Open o)) J J o.job (at_job (J o.job) HandedBack) refl (same_lands t (HandBack (Open o)) (J t))
land q t (HandBack (Enter o)) J = put_lands t (HandBack (Enter o)) J J o.job (at_job (J o.job) HandedBack) refl (same_lands t (HandBack (Enter o)) (J t))
land q t (HandBack (Gather d)) J = marks_land t (HandBack (Gather d)) d.pieces Returned J (λ e p. absurd (cc))
land q t (HandBack (Feed f)) J = put_lands t (HandBack (Feed f)) (put J f.job (at_job (J f.job) HandedBack)) J f.token (at_job (J f.token) HandedBack) refl (put_lands t (HandBack (Feed f)) J J f.job (at_job (J f.job) HandedBack) refl (same_lands t (HandBack (Feed f)) (J t)))
land q t (HandBack (Fork o a)) J = put_lands t (HandBack (Fork o a)) (put J a (at_job (J a) HandedBack)) J o.job (at_job (J o.job) HandedBack) refl (put_lands t (HandBack (Fork o a)) J J a (at_job (J a) HandedBack) refl (same_lands t (HandBack (Fork o a)) (J t)))

-- and those are of a broadcast that has just taken them
abbrev pub raises_all : ℕ → Place → Bool
raises_all t (RaiseForAll b) = is_piece b t
raises_all t x = false

steady_marks : (t : ℕ) (g : Move) → is_sharing g ≡ false → marks t g ≡ true → ⊥
steady_marks t (Mark y c Counted) e z = cc
steady_marks t g e z = cc

abbrev pub Marked : ℕ → PoolShape → Party → Place → Seen × Part → Type 0
Marked t g q x r = marks t (next_of g q x (r.0)) ≡ true → raises_all t x ≡ true

all_marked : (t : ℕ) (h : Shape) (g : PoolShape) (q : Party) (c : Counts) (m : Part) (x : Place) → ((e : Seen) → marks t (next_of g q x e) ≡ true → raises_all t x ≡ true) → IfSome (effect (act_of q x) h q c m) (Marked t g q x)
all_marked t h g q c m x f = if_some_all {A = Seen × Part} (Marked t g q x) (λ r. f (r.0)) (effect (act_of q x) h q c m)

raise_marked : (t : ℕ) (g : PoolShape) (q : Party) (n : Plan) (e : Seen) → marks t (next_of g q (RaiseCount n) e) ≡ true → false ≡ true
raise_marked t g q n Done z = absurd (steady_marks t (next_of g q (RaiseCount n) Done) (raise_steady n) z)
raise_marked t g q n _ z = cc

lower_all_marked : (t : ℕ) (g : PoolShape) (q : Party) (b : Pieces) (e : Seen) → marks t (next_of g q (LowerForAll b) e) ≡ true → false ≡ true
lower_all_marked t g q b Yes z = cc
lower_all_marked t g q b _ z = cc

raise_all_marked : (t : ℕ) (g : PoolShape) (q : Party) (b : Pieces) (e : Seen) → marks t (next_of g q (RaiseForAll b) e) ≡ true → is_piece b t ≡ true
raise_all_marked t g q b Done z = z
raise_all_marked t g q b _ z = cc

deal_marked : (t : ℕ) (g : PoolShape) (q : Party) (d : Gathering) (e : Seen) → marks t (next_of g q (DealPieces d) e) ≡ true → false ≡ true
deal_marked t g q d Done z = cc
deal_marked t g q d _ z = cc

pub act_marked : (t : ℕ) (h : Shape) (g : PoolShape) (q : Party) (c : Counts) (m : Part) (x : Place) → IfSome (effect (act_of q x) h q c m) (Marked t g q x)
act_marked t h g q c m (RaiseCount n) = all_marked t h g q c m (RaiseCount n) (raise_marked t g q n)
act_marked t h g q c m (RaiseForAll b) = all_marked t h g q c m (RaiseForAll b) (raise_all_marked t g q b)
act_marked t h g q c m (LowerForAll b) = all_marked t h g q c m (LowerForAll b) (lower_all_marked t g q b)
act_marked t h g q c m (DealPieces d) = all_marked t h g q c m (DealPieces d) (deal_marked t g q d)
act_marked t h g q c m (LowerCount k a n) = all_marked t h g q c m (LowerCount k a n) (λ e z. absurd (steady_marks t (next_of g q (LowerCount k a n) e) (lower_steady g q k a n e) z))
act_marked t h g q c m x = if_some_map (λ r. is_sharing (next_of g q x (r.0)) ≡ false) (Marked t g q x) (λ r n z. absurd (steady_marks t (next_of g q x (r.0)) n z)) (effect (act_of q x) h q c m) (no_steady h g q c m x refl)

-- who raises a count for a job has it in hand, and so it is not over
raiser_hand : (w : World) (q : Party) (n : Plan) → Says w q (RaiseCount n) → is_stored (w.job (plan_job n)).kind ≡ true → 1 ≤ hand_plan (plan_job n) n
raiser_hand w q (Detach p t) s k = let a : one (t == t) ≡ 1 = self_one t in omega (arith, a)
raiser_hand w q (Here p t) s k = let a : one (t == t) ≡ 1 = self_one t in omega (arith, a)
raiser_hand w q (Send o) s k = let a : one (o.job == o.job) ≡ 1 = self_one o.job in omega (arith, a)
raiser_hand w q (Fork o b) s k = let a : one (o.job == o.job) ≡ 1 = self_one o.job in omega (arith, a)
raiser_hand w q (Feed f) s k = let a : one (f.job == f.job) ≡ 1 = self_one f.job in omega (arith, a)
raiser_hand w q (Open o) s k = let a : one (o.job == o.job) ≡ 1 = self_one o.job in omega (arith, a)
raiser_hand w q (Enter o) s k = let a : one (o.job == o.job) ≡ 1 = self_one o.job in omega (arith, a)
raiser_hand w q (Gather g) s k = absurd (not_both (is_stored (w.job g.call.job).kind) k (ap is_stored (s.whole)))

done_without : (q : Party) (v : Whereabouts) → is_done v ≡ true → is_with q v ≡ false
done_without q (Over e) z = refl
done_without q _ z = cc

-- the job for which a place raises a count
abbrev pub raised_job : Place → ℕ
raised_job (RaiseCount n) = plan_job n
raised_job x = 0

pub unraised : (w : World) (q : Party) (x : Place) → IsOnce w → (w.stack q).top ≡ x → Says w q x → is_raising x ≡ true → (t : ℕ) → t ≡ raised_job x → is_stored (w.job t).kind ≡ true → is_done (w.job t).at ≡ true → ⊥
unraised w q (RaiseCount n) o z s y t i k d = absurd (
    let a : 1 ≤ hand_plan (plan_job n) n = raiser_hand w q n s (ap (λ u. is_stored (w.job u).kind) (sym i) ∙ k) in
    let b : held t (w.stack q) ≡ hand_plan t n + held_in t (w.stack q).below = ap (λ x. hand t x + held_in t (w.stack q).below) z in
    let e : hand_plan t n ≡ hand_plan (plan_job n) n = ap (λ u. hand_plan u n) i in
    let f : held t (w.stack q) ≡ one (is_with q (w.job t).at && ((w.job t).runs == 0)) = o.hand q t in
    let g : one (is_with q (w.job t).at && ((w.job t).runs == 0)) ≡ 0 = ap (λ b. one (b && ((w.job t).runs == 0))) (done_without q (w.job t).at d) in
    omega (arith, a, b, e, f, g))
unraised w q x o z s y t i k d = cc
