-- how a step changes the world: tests on parties and indices, and what holds of an act that may not be enabled
--
-- A table over all places is proved in two clauses: one place, and then a catch-all. The checker goes through the
-- places by itself.
use Rattle.std.proofs.Common.{refl, sym, ◌∙◌, ap, subst, inl, inr, arith}
use Rattle.std.specs.Prelude.{ℕ, Bool, true, false, ◌&&◌, ◌||◌, ◌-◌, ◌==◌, if◌then◌else◌, Option, Some, None, ◌≡◌, IfSome, ◌⊎◌, List, [], ◌∷◌, ⊤, ◌+◌, ◌<◌, ◌≤◌, nat_le, nat_lt, slice_get}
use Rattle.std.proofs.lemmas.Bool.{eqb-true, eq-eqb, leb-true, ltb-true, le-leb, lt-ltb}
use Rattle.rayon_machine_places.specs.declared.place.Party.{Party}
use Rattle.rayon_machine_places.specs.declared.place.Party.TheVariants.{Worker, Caller}
use Rattle.rayon_machine_places.specs.declared.place.Pieces.{Pieces}
use Rattle.rayon_machine_places.specs.declared.place.Mark.{Mark as Marking}
use Rattle.rayon_machine_places.specs.declared.place.Mark.TheVariants.{Counted, Queued, Returned, Numbered, Dealt, Unnumbered}
use Rattle.rayon_machine_places.specs.declared.place.Plan.TheVariants.{Detach, Here, Send, Fork, Feed, Open, Enter, Gather}
use Rattle.rayon_machine_places.specs.declared.place.Count.TheVariants.{OfPool, OfScope}
use Rattle.rayon_machine_places.specs.declared.place.Taken.TheVariants.{Plain}
use Rattle.rayon_machine_places.specs.declared.place.Move.{Move}
use Rattle.rayon_machine_places.specs.declared.place.Move.TheVariants.{Stay, Enter, StartRun, Back, HandBack, Discard, HandIn, Mark, HandAllBack}
use Rattle.rayon_machine_places.specs.declared.act.Seen.{Seen}
use Rattle.rayon_machine_places.specs.declared.act.Seen.TheVariants.{Task, Missing, Handed}
use Rattle.rayon_machine_runs.specs.declared.state.Job.{Job}
use Rattle.rayon_machine_runs.specs.declared.state.Whereabouts.{Whereabouts}
use Rattle.rayon_machine_runs.specs.declared.state.Whereabouts.TheVariants.{HandedBack, Spent, Retaken}
use Rattle.rayon_machine_runs.specs.declared.state.Scope.{Scope}
use Rattle.rayon_machine_places.specs.Places.{is_free, same_party}
use Rattle.rayon_machine_runs.specs.Steps.{after_feed, after_fifo, after_outcome, after_spawn, after, is_pool, is_piece, marked, put, put_pieces, put_stack, jobs_after, after_enter, after_into, holds, after_into_fifo, after_enter_fifo, after_into_cast, after_enter_cast, after_deal}
use Rattle.rayon_machine_runs.specs.World.{Outcome, Stack, World, at_job, begun, Part, is_open, fifo_back, fifo_first, fifo_out, fifo_undo, but_last, last_of, same_list, put_list}

-- a test gives one of its two answers
pub either : (b : Bool) → (b ≡ true) ⊎ (b ≡ false)
either true = inl refl
either false = inr refl

pub and_parts : (a b : Bool) → (a && b) ≡ true → (a ≡ true) × (b ≡ true)
and_parts true true e = (refl, refl)
and_parts true false e = cc
and_parts false b e = cc

pub or_parts : (a b : Bool) → (a || b) ≡ true → (a ≡ true) ⊎ (b ≡ true)
or_parts true b e = inl refl
or_parts false b e = inr e

pub same_index : (p i q j : ℕ) → ((p == q) && (i == j)) ≡ true → (p ≡ q) × (i ≡ j)
same_index p i q j e = let ab : (p == q ≡ true) × (i == j ≡ true) = and_parts (p == q) (i == j) e in (eqb-true p q ab.0, eqb-true i j ab.1)

pub same_refl : (p i : ℕ) → ((p == p) && (i == i)) ≡ true
same_refl p i = let a : (p == p) ≡ true = eq-eqb p p refl in let b : (i == i) ≡ true = eq-eqb i i refl in rw a b

pub same_party_true : (q r : Party) → same_party q r ≡ true → q ≡ r
same_party_true (Worker p i) (Worker q j) e = let ab : (p ≡ q) × (i ≡ j) = same_index p i q j e in cc
same_party_true (Caller a) (Caller b) e = ap Caller (eqb-true a b e)
same_party_true (Worker p i) (Caller b) e = cc
same_party_true (Caller a) (Worker q j) e = cc

pub same_party_refl : (q : Party) → same_party q q ≡ true
same_party_refl (Worker p i) = same_refl p i
same_party_refl (Caller c) = eq-eqb c c refl

pub not_same : (q r : Party) → same_party r q ≡ false → same_party q r ≡ false
not_same q r e = elim (either (same_party q r)) [ inl t ↦ absurd (let s : q ≡ r = same_party_true q r t in let k : same_party r q ≡ true = ap (same_party r) s ∙ same_party_refl r in cc) | inr f ↦ f ]

-- what holds of each outcome holds of an act, enabled or not
pub if_some_all : {A : Type 0} (P : A → Type 0) → ((r : A) → P r) → (o : Option A) → IfSome o P
if_some_all P f None = tt
if_some_all P f (Some r) = f r

-- each of many properties together
pub if_some_each : {A : Type 0} {I : Type 0} (P : I → A → Type 0) (o : Option A) → ((i : I) → IfSome o (P i)) → IfSome o (λ r. (i : I) → P i r)
if_some_each P None h = tt
if_some_each P (Some r) h = h

pub if_some_and : {A : Type 0} (P Q : A → Type 0) (o : Option A) → IfSome o P → IfSome o Q → IfSome o (λ r. P r × Q r)
if_some_and P Q None a b = tt
if_some_and P Q (Some r) a b = (a, b)

pub if_some_map : {A : Type 0} (P Q : A → Type 0) → ((r : A) → P r → Q r) → (o : Option A) → IfSome o P → IfSome o Q
if_some_map P Q f None a = tt
if_some_map P Q f (Some r) a = f r a

pub if_none : {A : Type 0} (P : A → Type 0) (o : Option A) → o ≡ None → IfSome o P
if_none P None e = tt
if_none P (Some r) e = cc

-- an answer that stands under a test
pub if_cond : {A : Type 0} (P : A → Type 0) (b : Bool) (v : A) → (b ≡ true → P v) → IfSome (if b then Some v else None) P
if_cond P true v h = h refl
if_cond P false v h = tt

-- an act that is done leaves a world with a property, if each outcome of its part does
pub acted_keeps : (w : World) (q : Party) (s : Stack) (p i c n : ℕ) (o : Outcome) (P : World → Type 0) → IfSome o (λ r. P (after w q s p i c n r)) → IfSome (after_outcome w q s p i c n o) P
acted_keeps w q s p i c n None P h = tt
acted_keeps w q s p i c n (Some r) P h = h

-- where one entry is put anew that agrees on something with the old one, all do
pub put_same : {A B : Type 0} (P : A → B) (f : ℕ → A) (k : ℕ) (v : A) (n : ℕ) → P v ≡ P (f k) → P (put f k v n) ≡ P (f n)
put_same P f k v n e = by (n == k) refl
  where
    by : (z : Bool) → (n == k) ≡ z → P (if z then v else f n) ≡ P (f n)
    by true z = e ∙ ap (λ i. P (f i)) (sym (eqb-true n k z))
    by false z = refl

pub put_new : {A : Type 0} (f : ℕ → A) (k : ℕ) (v : A) → put f k v k ≡ v
put_new f k v = let e : (k == k) ≡ true = eq-eqb k k refl in rw e

pub put_old : {A : Type 0} (f : ℕ → A) (k : ℕ) (v : A) (n : ℕ) → (n == k) ≡ false → put f k v n ≡ f n
put_old f k v n e = rw e

-- the stacks after one party has another
pub stack_mine : (f : Party → Stack) (q : Party) (x : Stack) → put_stack f q x q ≡ x
stack_mine f q x = let e : same_party q q ≡ true = same_party_refl q in rw e

pub stack_other : (f : Party → Stack) (q : Party) (x : Stack) (g : Party) → same_party g q ≡ false → put_stack f q x g ≡ f g
stack_other f q x g e = rw e

-- where each piece of a broadcast is another that agrees on something with what it was, all jobs do
pub pieces_same : {B : Type 0} (P : Job → B) (c : Pieces) (m : ℕ → Job → Job) (f : ℕ → Job) (t : ℕ) → ((i : ℕ) (j : Job) → P (m i j) ≡ P j) → P (put_pieces c m f t) ≡ P (f t)
pieces_same P c m f t e = by (is_piece c t)
  where
    by : (z : Bool) → P (if z then m (t - c.first) (f t) else f t) ≡ P (f t)
    by true = e (t - c.first) (f t)
    by false = refl

pub piece_new : (c : Pieces) (m : ℕ → Job → Job) (f : ℕ → Job) (t : ℕ) → is_piece c t ≡ true → put_pieces c m f t ≡ m (t - c.first) (f t)
piece_new c m f t e = rw e

pub piece_old : (c : Pieces) (m : ℕ → Job → Job) (f : ℕ → Job) (t : ℕ) → is_piece c t ≡ false → put_pieces c m f t ≡ f t
piece_old c m f t e = rw e

-- the numbers of the pieces
pub piece_range : (c : Pieces) (t : ℕ) → is_piece c t ≡ true → (c.first ≤ t) × (t < c.first + c.workers)
piece_range c t e = let a : (nat_le c.first t ≡ true) × (nat_lt t (c.first + c.workers) ≡ true) = and_parts (nat_le c.first t) (nat_lt t (c.first + c.workers)) e in (leb-true c.first t (a.0), ltb-true t (c.first + c.workers) (a.1))

pub piece_in : (c : Pieces) (t : ℕ) → c.first ≤ t → t < c.first + c.workers → is_piece c t ≡ true
piece_in c t a b = let x : nat_le c.first t ≡ true = le-leb c.first t a in let y : nat_lt t (c.first + c.workers) ≡ true = lt-ltb t (c.first + c.workers) b in rw (x, y) refl

pub piece_out : (c : Pieces) (t : ℕ) → t < c.first → is_piece c t ≡ false
piece_out c t l = elim (either (is_piece c t)) [ inl y ↦ absurd (let a : (c.first ≤ t) × (t < c.first + c.workers) = piece_range c t y in let b : c.first ≤ t = a.0 in omega (arith, l, b)) | inr y ↦ y ]

-- what a move makes of the pieces of a broadcast, if it makes something of them, leaves this of each
abbrev pub MarksKeep : {B : Type 0} → (Job → B) → Move → Type 0
MarksKeep P (Mark y c k) = (i : ℕ) (j : Job) → P (marked k c.pool i j) ≡ P j
MarksKeep P (HandAllBack c) = (i : ℕ) (j : Job) → P (marked Returned c.pool i j) ≡ P j
MarksKeep P (HandBack (Gather g)) = (i : ℕ) (j : Job) → P (marked Returned g.pieces.pool i j) ≡ P j
MarksKeep P _ = ⊤

-- what neither a beginning nor other whereabouts nor what is made of all pieces of a broadcast change of a job, no move
-- changes of any
pub after_part : {B : Type 0} (P : Job → B) → ((q : Party) (j : Job) → P (begun q j) ≡ P j) → ((j : Job) (x : Whereabouts) → P (at_job j x) ≡ P j) → (q : Party) (g : Move) (f : ℕ → Job) (t : ℕ) → MarksKeep P g → P (jobs_after q g f t) ≡ P (f t)
after_part P b a q (Stay y) f t m = refl
after_part P b a q (HandIn y k) f t m = put_same P f k (at_job (f k) Spent) t (a (f k) Spent)
after_part P b a q (Discard k) f t m = put_same P f k (at_job (f k) Spent) t (a (f k) Spent)
after_part P b a q (Mark y c k) f t m = pieces_same P c (marked k c.pool) f t m
after_part P b a q (HandAllBack c) f t m = pieces_same P c (marked Returned c.pool) f t m
after_part P b a q (HandBack (Feed d)) f t m =
    let same : (n : ℕ) → P (put f d.job (at_job (f d.job) HandedBack) n) ≡ P (f n) = λ n. put_same P f d.job (at_job (f d.job) HandedBack) n (a (f d.job) HandedBack) in
    put_same P (put f d.job (at_job (f d.job) HandedBack)) d.token (at_job (f d.token) HandedBack) t (a (f d.token) HandedBack ∙ sym (same d.token)) ∙ same t
after_part P b a q (Enter x y) f t m = refl
after_part P b a q Back f t m = refl
after_part P b a q (StartRun x u) f t m = put_same P f u (begun q (f u)) t (b q (f u))
after_part P b a q (HandBack (Detach p u)) f t m = put_same P f u (at_job (f u) HandedBack) t (a (f u) HandedBack)
after_part P b a q (HandBack (Here p u)) f t m = put_same P f u (at_job (f u) HandedBack) t (a (f u) HandedBack)
after_part P b a q (HandBack (Gather g)) f t m = pieces_same P g.pieces (marked Returned g.pieces.pool) f t m
after_part P b a q (HandBack (Open o)) f t m = put_same P f o.job (at_job (f o.job) HandedBack) t (a (f o.job) HandedBack)
after_part P b a q (HandBack (Enter e)) f t m = put_same P f e.job (at_job (f e.job) HandedBack) t (a (f e.job) HandedBack)
after_part P b a q (HandBack (Send o)) f t m = put_same P f o.job (at_job (f o.job) HandedBack) t (a (f o.job) HandedBack)
after_part P b a q (HandBack (Fork o u)) f t m =
    let same : (n : ℕ) → P (put f u (at_job (f u) HandedBack) n) ≡ P (f n) = λ n. put_same P f u (at_job (f u) HandedBack) n (a (f u) HandedBack) in
    put_same P (put f u (at_job (f u) HandedBack)) o.job (at_job (f o.job) HandedBack) t (a (f o.job) HandedBack ∙ sym (same o.job)) ∙ same t

marked_kind : (k : Marking) (p i : ℕ) (j : Job) → (marked k p i j).kind ≡ j.kind
marked_kind Counted p i j = refl
marked_kind (Numbered n) p i j = refl
marked_kind Queued p i j = refl
marked_kind Dealt p i j = refl
marked_kind Unnumbered p i j = refl
marked_kind Returned p i j = refl

marked_pool : (k : Marking) (p i : ℕ) (j : Job) → (marked k p i j).pool ≡ j.pool
marked_pool Counted p i j = refl
marked_pool (Numbered n) p i j = refl
marked_pool Queued p i j = refl
marked_pool Dealt p i j = refl
marked_pool Unnumbered p i j = refl
marked_pool Returned p i j = refl

marked_bound : (k : Marking) (p i : ℕ) (j : Job) → (marked k p i j).bound ≡ j.bound
marked_bound Counted p i j = refl
marked_bound (Numbered n) p i j = refl
marked_bound Queued p i j = refl
marked_bound Dealt p i j = refl
marked_bound Unnumbered p i j = refl
marked_bound Returned p i j = refl

all_keep : {B : Type 0} (P : Job → B) → ((k : Marking) (p i : ℕ) (j : Job) → P (marked k p i j) ≡ P j) → (g : Move) → MarksKeep P g
all_keep P e (Mark y c k) = e k c.pool
all_keep P e (HandAllBack c) = e Returned c.pool
all_keep P e (HandBack (Gather g)) = e Returned g.pieces.pool
all_keep P e _ = tt

pub after_kind : (q : Party) (g : Move) (f : ℕ → Job) (t : ℕ) → (jobs_after q g f t).kind ≡ (f t).kind
after_kind q g f t = after_part (λ j. j.kind) (λ r j. refl) (λ j x. refl) q g f t (all_keep (λ j. j.kind) marked_kind g)

pub after_pool : (q : Party) (g : Move) (f : ℕ → Job) (t : ℕ) → (jobs_after q g f t).pool ≡ (f t).pool
after_pool q g f t = after_part (λ j. j.pool) (λ r j. refl) (λ j x. refl) q g f t (all_keep (λ j. j.pool) marked_pool g)

pub after_bound : (q : Party) (g : Move) (f : ℕ → Job) (t : ℕ) → (jobs_after q g f t).bound ≡ (f t).bound
after_bound q g f t = after_part (λ j. j.bound) (λ r j. refl) (λ j x. refl) q g f t (all_keep (λ j. j.bound) marked_bound g)

-- a move gives shares to the pieces of a broadcast, or takes them
abbrev pub is_sharing : Move → Bool
is_sharing (Mark y c Counted) = true
is_sharing (Mark y c Dealt) = true
is_sharing (Mark y c Returned) = true
is_sharing (HandAllBack c) = true
is_sharing _ = false

-- a call that is handed back hands its pieces back, if it is a broadcast
abbrev pub gives_pieces : Move → Bool
gives_pieces (HandBack (Gather g)) = true
gives_pieces _ = false

-- the pieces that a move hands back with their broadcast have no shares
abbrev pub Bare : Move → (ℕ → Job) → ℕ → Type 0
Bare (HandBack (Gather g)) f t = is_piece g.pieces t ≡ true → (f t).counted ≡ false
Bare _ f t = ⊤

-- where a move hands no broadcast back
pub no_bare : (g : Move) (f : ℕ → Job) (t : ℕ) → gives_pieces g ≡ false → Bare g f t
no_bare (HandBack (Gather g)) f t e = absurd (cc)
no_bare _ f t e = tt

pub bare_less : (g : Move) (f d : ℕ → Job) (t : ℕ) → ((f t).counted ≡ false → (d t).counted ≡ false) → Bare g f t → Bare g d t
bare_less (HandBack (Gather g)) f d t l b = λ e. l (b e)
bare_less _ f d t l b = tt

counts_keep : (g : Move) → is_sharing g ≡ false → gives_pieces g ≡ false → MarksKeep (λ (j : Job). j.counted) g
counts_keep (Mark y c Counted) e b = cc
counts_keep (Mark y c (Numbered n)) e b = λ i j. refl
counts_keep (Mark y c Queued) e b = λ i j. refl
counts_keep (Mark y c Dealt) e b = cc
counts_keep (Mark y c Unnumbered) e b = λ i j. refl
counts_keep (Mark y c Returned) e b = cc
counts_keep (HandAllBack c) e b = cc
counts_keep (HandBack (Gather g)) e b = cc
counts_keep _ e b = tt

part_counted : (q : Party) (g : Move) (f : ℕ → Job) (t : ℕ) → is_sharing g ≡ false → gives_pieces g ≡ false → (jobs_after q g f t).counted ≡ (f t).counted
part_counted q g f t e b = after_part (λ j. j.counted) (λ r j. refl) (λ j x. refl) q g f t (counts_keep g e b)

pub after_counted : (q : Party) (g : Move) (f : ℕ → Job) (t : ℕ) → is_sharing g ≡ false → Bare g f t → (jobs_after q g f t).counted ≡ (f t).counted
after_counted q (HandBack (Gather x)) f t e b = back (is_piece x.pieces t) refl
  where
    back : (z : Bool) → is_piece x.pieces t ≡ z → (if z then marked Returned x.pieces.pool (t - x.pieces.first) (f t) else f t).counted ≡ (f t).counted
    back true y = sym (b y)
    back false y = refl
after_counted q (HandBack (Detach p u)) f t e b = part_counted q (HandBack (Detach p u)) f t e refl
after_counted q (HandBack (Here p u)) f t e b = part_counted q (HandBack (Here p u)) f t e refl
after_counted q (HandBack (Send o)) f t e b = part_counted q (HandBack (Send o)) f t e refl
after_counted q (HandBack (Fork o a)) f t e b = part_counted q (HandBack (Fork o a)) f t e refl
after_counted q (HandBack (Feed d)) f t e b = part_counted q (HandBack (Feed d)) f t e refl
after_counted q (HandBack (Open o)) f t e b = part_counted q (HandBack (Open o)) f t e refl
after_counted q (HandBack (Enter o)) f t e b = part_counted q (HandBack (Enter o)) f t e refl
after_counted q (Stay y) f t e b = refl
after_counted q (HandIn y k) f t e b = part_counted q (HandIn y k) f t e refl
after_counted q (Discard k) f t e b = part_counted q (Discard k) f t e refl
after_counted q (Mark y c k) f t e b = part_counted q (Mark y c k) f t e refl
after_counted q (HandAllBack c) f t e b = part_counted q (HandAllBack c) f t e refl
after_counted q (Enter x y) f t e b = refl
after_counted q Back f t e b = refl
after_counted q (StartRun x u) f t e b = part_counted q (StartRun x u) f t e refl

-- a FIFO spawn is that of a worker of the pool, or a spawn
pub fifo_cases : (P : World → Type 0) (w : World) (q : Party) (p : ℕ) → IfSome (after_spawn w q p (w.stack q)) P → ((i : ℕ) → is_free ((w.stack (Worker p i)).top) ≡ true → P (after_feed w (OfPool p) p i (w.stack (Worker p i)))) → IfSome (after_fifo w q p (w.stack q)) P
fifo_cases P w (Caller c) p s f = s
fifo_cases P w (Worker r i) p s f = by (r == p) refl
  where
    own : (n : ℕ) → Option World
    own n = if is_free ((w.stack (Worker n i)).top) && is_pool w.shape p then Some (after_feed w (OfPool p) p i (w.stack (Worker n i))) else None

    mine : IfSome (own p) P
    mine = if_cond P (is_free ((w.stack (Worker p i)).top) && is_pool w.shape p) _ (λ z. f i ((and_parts (is_free ((w.stack (Worker p i)).top)) (is_pool w.shape p) z).0))

    by : (z : Bool) → (r == p) ≡ z → IfSome (if z then own r else after_spawn w (Worker r i) p (w.stack (Worker r i))) P
    by true z = subst (λ n. IfSome (own n) P) (sym (eqb-true r p z)) mine
    by false z = s

-- a token takes the first job of a list that is open, or finds none
pub out_sees : (P : Seen × Part → Type 0) (q : Party) (m : Part) (b : Option ℕ) → P (Missing, m) → ((u : ℕ) (us : List ℕ) → m.seat.fifo b ≡ u ∷ us → P (Handed u m.job.kind, record m { seat = record (m.seat) { fifo = put_list m.seat.fifo b us }; job = begun q m.job })) → IfSome (fifo_out q m b) P
out_sees P q m b none some = by (is_open q (m.seat.feeder b))
  where
    first : (l : List ℕ) → m.seat.fifo b ≡ l → IfSome (fifo_first q m b l) P
    first [] e = none
    first (u ∷ us) e = some u us e

    by : (z : Bool) → IfSome (if z then fifo_first q m b (m.seat.fifo b) else None) P
    by true = first (m.seat.fifo b) refl
    by false = tt

-- the job that was added last comes out of a list that is open, or there is none
pub undo_sees : (P : Seen × Part → Type 0) (q : Party) (m : Part) (b : Option ℕ) → P (Missing, m) → ((u : ℕ) → last_of (m.seat.fifo b) ≡ Some u
    → P (Task (Plain u), record m { seat = record (m.seat) { fifo = put_list m.seat.fifo b (but_last (m.seat.fifo b)); feeder = put_list m.seat.feeder b None }; job = at_job (m.job) (Retaken q) })) → IfSome (fifo_undo q m b) P
undo_sees P q m b none some = by (is_open q (m.seat.feeder b))
  where
    back : (o : Option ℕ) → last_of (m.seat.fifo b) ≡ o → IfSome (fifo_back q m b o) P
    back None e = none
    back (Some u) e = some u e

    by : (z : Bool) → IfSome (if z then fifo_back q m b (last_of (m.seat.fifo b)) else None) P
    by true = back (last_of (m.seat.fifo b)) refl
    by false = tt

-- the same list, and another
pub same_list_true : (b c : Option ℕ) → same_list b c ≡ true → b ≡ c
same_list_true None None e = refl
same_list_true (Some c) (Some d) e = ap Some (eqb-true c d e)
same_list_true None (Some d) e = cc
same_list_true (Some c) None e = cc

pub same_list_refl : (b : Option ℕ) → same_list b b ≡ true
same_list_refl None = refl
same_list_refl (Some c) = eq-eqb c c refl

pub list_new : {A : Type 0} (f : Option ℕ → A) (b : Option ℕ) (v : A) → put_list f b v b ≡ v
list_new f b v = let e : same_list b b ≡ true = same_list_refl b in rw e

pub list_old : {A : Type 0} (f : Option ℕ → A) (b : Option ℕ) (v : A) (c : Option ℕ) → same_list c b ≡ false → put_list f b v c ≡ f c
list_old f b v c e = rw e

-- a job is spawned into a scope that is there, by a free party that holds it
pub into_cases : (P : World → Type 0) (w : World) (q : Party) (n : ℕ) → ((z : Scope) → slice_get w.scopes n ≡ Some z → is_free ((w.stack q).top) ≡ true → holds z.call (w.stack q) ≡ true → IfSome (after_enter w q (w.stack q) (Some z)) P) → IfSome (after_into w q n (w.stack q)) P
into_cases P w q n f = by (slice_get w.scopes n) refl
  where
    at : (z : Scope) → slice_get w.scopes n ≡ Some z → (b : Bool) → (is_free ((w.stack q).top) && holds z.call (w.stack q)) ≡ b → IfSome (after_enter w q (w.stack q) (Some z)) P
    at z e true t = let a : (is_free ((w.stack q).top) ≡ true) × (holds z.call (w.stack q) ≡ true) = and_parts (is_free ((w.stack q).top)) (holds z.call (w.stack q)) t in f z e (a.0) (a.1)
    at z e false t = rw t tt

    by : (o : Option Scope) → slice_get w.scopes n ≡ o → IfSome (after_enter w q (w.stack q) o) P
    by None e = tt
    by (Some z) e = at z e (is_free ((w.stack q).top) && holds z.call (w.stack q)) refl

-- a job is spawned into a scope in order by a worker of the scope's pool that holds the scope, or it is spawned there
pub into_fifo_cases : (P : World → Type 0) (w : World) (q : Party) (n : ℕ) → ((z : Scope) → slice_get w.scopes n ≡ Some z → is_free ((w.stack q).top) ≡ true → holds z.call (w.stack q) ≡ true → IfSome (after_enter w q (w.stack q) (Some z)) P)
    → ((z : Scope) (i : ℕ) → slice_get w.scopes n ≡ Some z → is_free ((w.stack (Worker z.pool i)).top) ≡ true → holds z.call (w.stack (Worker z.pool i)) ≡ true → P (after_feed w (OfScope z.call z.owner) z.pool i (w.stack (Worker z.pool i)))) → IfSome (after_into_fifo w q n (w.stack q)) P
into_fifo_cases P w q n f g = by q f (slice_get w.scopes n) refl
  where
    Plainly : Party → Type 0
    Plainly r = (z : Scope) → slice_get w.scopes n ≡ Some z → is_free ((w.stack r).top) ≡ true → holds z.call (w.stack r) ≡ true → IfSome (after_enter w r (w.stack r) (Some z)) P

    plain : (r : Party) → Plainly r → (z : Scope) → slice_get w.scopes n ≡ Some z → IfSome (after_enter w r (w.stack r) (Some z)) P
    plain r h z e = at (is_free ((w.stack r).top) && holds z.call (w.stack r)) refl
      where
        at : (b : Bool) → (is_free ((w.stack r).top) && holds z.call (w.stack r)) ≡ b → IfSome (after_enter w r (w.stack r) (Some z)) P
        at true t = let a : (is_free ((w.stack r).top) ≡ true) × (holds z.call (w.stack r) ≡ true) = and_parts (is_free ((w.stack r).top)) (holds z.call (w.stack r)) t in h z e (a.0) (a.1)
        at false t = rw t tt

    own : (z : Scope) (i r : ℕ) → Option World
    own z i r = if is_free ((w.stack (Worker r i)).top) && holds z.call (w.stack (Worker r i)) then Some (after_feed w (OfScope z.call z.owner) z.pool i (w.stack (Worker r i))) else None

    mine : (z : Scope) (i : ℕ) → slice_get w.scopes n ≡ Some z → IfSome (own z i z.pool) P
    mine z i e = if_cond P (is_free ((w.stack (Worker z.pool i)).top) && holds z.call (w.stack (Worker z.pool i))) _
        (λ b. let a : (is_free ((w.stack (Worker z.pool i)).top) ≡ true) × (holds z.call (w.stack (Worker z.pool i)) ≡ true) = and_parts (is_free ((w.stack (Worker z.pool i)).top)) (holds z.call (w.stack (Worker z.pool i))) b in g z i e (a.0) (a.1))

    fed : (r i : ℕ) → Plainly (Worker r i) → (z : Scope) → slice_get w.scopes n ≡ Some z → (b : Bool) → (r == z.pool) ≡ b → IfSome (if b then own z i r else after_enter w (Worker r i) (w.stack (Worker r i)) (Some z)) P
    fed r i h z e true b = subst (λ k. IfSome (own z i k) P) (sym (eqb-true r z.pool b)) (mine z i e)
    fed r i h z e false b = plain (Worker r i) h z e

    by : (r : Party) → Plainly r → (o : Option Scope) → slice_get w.scopes n ≡ o → IfSome (after_enter_fifo w r (w.stack r) o) P
    by r h None e = tt
    by (Caller c) h (Some z) e = plain (Caller c) h z e
    by (Worker r i) h (Some z) e = fed r i h z e (r == z.pool) refl

-- a broadcast into a scope that is there, by a free party that holds it
pub into_cast_cases : (P : World → Type 0) (w : World) (q : Party) (n : ℕ) → ((z : Scope) → slice_get w.scopes n ≡ Some z → is_free ((w.stack q).top) ≡ true → holds z.call (w.stack q) ≡ true → P (after_deal w q (OfScope z.call z.owner) z.pool (w.stack q)))
    → IfSome (after_into_cast w q n (w.stack q)) P
into_cast_cases P w q n f = by (slice_get w.scopes n) refl
  where
    by : (o : Option Scope) → slice_get w.scopes n ≡ o → IfSome (after_enter_cast w q (w.stack q) o) P
    by None e = tt
    by (Some z) e = if_cond P (is_free ((w.stack q).top) && holds z.call (w.stack q)) _ (λ b. let a : (is_free ((w.stack q).top) ≡ true) × (holds z.call (w.stack q) ≡ true) = and_parts (is_free ((w.stack q).top)) (holds z.call (w.stack q)) b in f z e (a.0) (a.1))

-- an act on a book is not enabled while another party holds it
pub book_sees : (P : Seen × Part → Type 0) (q : Party) (m : Part) (r : Seen × Part) → P r → IfSome (if is_open q m.call.writer then Some r else None) P
book_sees P q m r h = if_cond P (is_open q m.call.writer) r (λ z. h)
