-- what each place knows of the books of scopes
--
-- What a place knows of a book is its `BookState` (`book_of`), and `AtBook` is what that says. It is nothing at most
-- places (`book_free`), and from such a place only such places are reached (`book_next`, BookMoves).
use Rattle.std.proofs.Common.{arith, refl, sym, ◌∙◌, ap, subst, inl, inr}
use Rattle.rayon_machine_orders.proofs.Words.{eqb-true, eq-eqb, ℕ, Bool, true, false, ◌+◌, ◌-◌, ◌==◌, ◌≤◌, ◌<◌, Option, Some, None, ◌≡◌, ◌⊎◌, ⊤, Party, Worker, Scoped, Count, OfPool, OfScope, OfCast, Pieces, Feeding, PoolValue, OfJob, Body, Then, Plan, Detach, Here, Send, Fork, Feed, Open}
use Rattle.rayon_machine_orders.proofs.Words.{Enter, Gather, Place, RaiseCount, GrowCall, OpenSlot, CloseSlot, LookQueue, PushJob, LowerCount, StoreSlot, AddToFifo, LookForToken, PushToken, TakeFromFifo, RaiseForAll, OpenForAll, PushForAll, CloseForAll, LowerForAll, Slot, Closed, IsOpen}
use Rattle.rayon_machine_orders.proofs.Words.{plan_job, plan_count, count_kind, World, is_piece, one, share}
use Rattle.rayon_machine_laws.proofs.Amounts.{raises}
use Rattle.rayon_machine_laws.proofs.Claims.{Says, SaysPlan, SaysSlot, SaysPieces, KnownCount, Tied, is_part, SaysShare, queue_plan}
use Rattle.rayon_machine_laws.proofs.ShareSteps.{plan_made}
use Rattle.rayon_machine_laws.proofs.ShareLowers.{share_made}
use Rattle.rayon_machine_laws.proofs.Feeders.{waits}
pub use Rattle.rayon_machine_orders.specs.Books.{slot_number, Written, WrittenAll, InUse, IsCast}
use Rattle.rayon_machine_orders.proofs.Takes.{number_is}

-- a job's ending is still to be stored at its number
abbrev pub is_unfilled : Slot → Bool
is_unfilled (IsOpen n) = true
is_unfilled _ = false

-- what a place knows of the books of scopes: nothing; that a job, or each piece of a broadcast, has no number yet; that its
-- party holds the book of this call, where the job or the pieces have the last numbers, and, of a job in a FIFO list, that
-- the party is a worker; that the number of a job is open, or that it is not, nor is one of these pieces. At some places
-- no party stands
pub data BookState : Type 0 where
  Nothing : BookState
  Fresh : ℕ → BookState
  FreshAll : Pieces → BookState
  Holding : ℕ → ℕ → BookState
  Lined : ℕ → ℕ → BookState
  HoldingAll : ℕ → Pieces → BookState
  Running : ℕ → BookState
  Shut : ℕ → BookState
  ShutAll : Pieces → BookState
  Never : BookState

-- by the count that a call takes a share of
abbrev pub fresh_state : Count → ℕ → BookState
fresh_state (OfScope c o) t = Fresh t
fresh_state _ t = Nothing

abbrev pub open_state : Count → ℕ → BookState
open_state (OfScope c o) t = Fresh t
open_state _ t = Never

abbrev pub hold_state : Count → ℕ → BookState
hold_state (OfScope c o) t = Holding c t
hold_state _ t = Nothing

abbrev pub line_state : Count → ℕ → BookState
line_state (OfScope c o) t = Lined c t
line_state _ t = Nothing

abbrev pub close_state : Count → ℕ → BookState
close_state (OfScope c o) t = Holding c t
close_state _ t = Never

abbrev pub shut_state : Count → ℕ → BookState
shut_state (OfScope c o) t = Shut t
shut_state _ t = Nothing

abbrev pub grow_state : Count → BookState
grow_state (OfScope c o) = Never
grow_state _ = Nothing

abbrev pub fresh_all : Count → Pieces → BookState
fresh_all (OfScope c o) b = FreshAll b
fresh_all _ b = Nothing

abbrev pub open_all : Count → Pieces → BookState
open_all (OfScope c o) b = FreshAll b
open_all _ b = Never

abbrev pub hold_all : Count → Pieces → BookState
hold_all (OfScope c o) b = HoldingAll c b
hold_all _ b = Nothing

abbrev pub close_all : Count → Pieces → BookState
close_all (OfScope c o) b = HoldingAll c b
close_all _ b = Never

abbrev pub shut_all : Count → Pieces → BookState
shut_all (OfScope c o) b = ShutAll b
shut_all _ b = Nothing

abbrev pub book_of : Place → BookState
book_of (RaiseCount n) = fresh_state (plan_count n) (plan_job n)
book_of (GrowCall n) = grow_state (plan_count n)
book_of (OpenSlot n) = open_state (plan_count n) (plan_job n)
book_of (LookQueue n) = hold_state (plan_count n) (plan_job n)
book_of (PushJob n v) = hold_state (plan_count n) (plan_job n)
book_of (CloseSlot n) = close_state (plan_count n) (plan_job n)
book_of (AddToFifo f) = hold_state f.count f.job
book_of (LookForToken f) = line_state f.count f.job
book_of (PushToken f v) = line_state f.count f.job
book_of (TakeFromFifo f) = line_state f.count f.job
book_of (StoreSlot c o t e) = Running t
book_of (LowerCount k (OfJob t) n) = shut_state k t
book_of (RaiseForAll b) = fresh_all b.count b
book_of (OpenForAll b) = open_all b.count b
book_of (PushForAll b) = hold_all b.count b
book_of (CloseForAll b) = close_all b.count b
book_of (LowerForAll b) = shut_all b.count b
book_of _ = Nothing

-- it says nothing
abbrev pub is_nothing : BookState → Bool
is_nothing Nothing = true
is_nothing _ = false

abbrev pub book_free : Place → Bool
book_free x = is_nothing (book_of x)

-- whose book it holds, and whose numbers it knows
abbrev pub holds_book : BookState → Option ℕ
holds_book (Holding c t) = Some c
holds_book (Lined c t) = Some c
holds_book (HoldingAll c b) = Some c
holds_book _ = None

abbrev pub writes : Place → Option ℕ
writes x = holds_book (book_of x)

abbrev pub names : BookState → ℕ → Bool
names (Fresh u) t = t == u
names (FreshAll b) t = is_piece b t
names (Holding c u) t = t == u
names (Lined c u) t = t == u
names (HoldingAll c b) t = is_piece b t
names (Running u) t = t == u
names (Shut u) t = t == u
names (ShutAll b) t = is_piece b t
names _ t = false

abbrev pub IsWorker : Party → Type 0
IsWorker q = (p : ℕ) × ((i : ℕ) × (q ≡ Worker p i))

-- what it says
abbrev pub AtState : World → Party → BookState → Type 0
AtState w q Nothing = ⊤
AtState w q (Fresh t) = (w.job t).slot ≡ Closed
AtState w q (FreshAll b) = (t : ℕ) → is_piece b t ≡ true → (w.job t).slot ≡ Closed
AtState w q (Holding c t) = Written w q c t
AtState w q (Lined c t) = Written w q c t × IsWorker q
AtState w q (HoldingAll c b) = WrittenAll w q c b
AtState w q (Running t) = is_unfilled (w.job t).slot ≡ true
AtState w q (Shut t) = is_unfilled (w.job t).slot ≡ false
AtState w q (ShutAll b) = (t : ℕ) → is_piece b t ≡ true → is_unfilled (w.job t).slot ≡ false
AtState w q Never = ⊥

abbrev pub AtBook : World → Party → Place → Type 0
AtBook w q x = AtState w q (book_of x)

-- the scope whose count a call is to raise, and the one that a broadcast is to go into
abbrev pub scope_count : Count → Option ℕ
scope_count (OfScope c o) = Some c
scope_count _ = None

abbrev pub raising : Place → Option ℕ
raising (RaiseCount n) = scope_count (plan_count n)
raising (RaiseForAll b) = scope_count b.count
raising (OpenForAll b) = scope_count b.count
raising (PushForAll b) = scope_count b.count
raising (CloseForAll b) = scope_count b.count
raising _ = None

pub free_state : (w : World) (q : Party) (s : BookState) → is_nothing s ≡ true → AtState w q s
free_state w q Nothing z = tt
free_state w q _ z = cc

pub free_at : (w : World) (q : Party) (x : Place) → book_free x ≡ true → AtBook w q x
free_at w q x z = free_state w q (book_of x) z

free_holds : (s : BookState) (c : ℕ) → is_nothing s ≡ true → holds_book s ≡ Some c → ⊥
free_holds Nothing c z y = cc
free_holds _ c z y = cc

pub free_writes : (x : Place) (c : ℕ) → book_free x ≡ true → writes x ≡ Some c → ⊥
free_writes x c z y = free_holds (book_of x) c z y

fresh_raises : (k : Count) (t c : ℕ) → is_nothing (fresh_state k t) ≡ true → scope_count k ≡ Some c → ⊥
fresh_raises (OfScope d o) t c z y = cc
fresh_raises _ t c z y = cc

all_raises_none : (k : Count) (b : Pieces) (c : ℕ) → is_nothing (fresh_all k b) ≡ true → scope_count k ≡ Some c → ⊥
all_raises_none (OfScope d o) b c z y = cc
all_raises_none _ b c z y = cc

open_raises_none : (k : Count) (b : Pieces) (c : ℕ) → is_nothing (open_all k b) ≡ true → scope_count k ≡ Some c → ⊥
open_raises_none (OfScope d o) b c z y = cc
open_raises_none _ b c z y = cc

hold_raises_none : (k : Count) (b : Pieces) (c : ℕ) → is_nothing (hold_all k b) ≡ true → scope_count k ≡ Some c → ⊥
hold_raises_none (OfScope d o) b c z y = cc
hold_raises_none _ b c z y = cc

close_raises_none : (k : Count) (b : Pieces) (c : ℕ) → is_nothing (close_all k b) ≡ true → scope_count k ≡ Some c → ⊥
close_raises_none (OfScope d o) b c z y = cc
close_raises_none _ b c z y = cc

pub free_raising : (x : Place) (c : ℕ) → book_free x ≡ true → raising x ≡ Some c → ⊥
free_raising (RaiseCount n) c z y = fresh_raises (plan_count n) (plan_job n) c z y
free_raising (RaiseForAll b) c z y = all_raises_none b.count b c z y
free_raising (OpenForAll b) c z y = open_raises_none b.count b c z y
free_raising (PushForAll b) c z y = hold_raises_none b.count b c z y
free_raising (CloseForAll b) c z y = close_raises_none b.count b c z y
free_raising _ c z y = cc

pub written_kept : (w u : World) (q : Party) (c t : ℕ) → (u.job t).slot ≡ (w.job t).slot → ((u.call c).writer ≡ (w.call c).writer) × ((u.call c).slots ≡ (w.call c).slots) → Written w q c t → Written u q c t
written_kept w u q c t f g y = record { writer = g.0 ∙ y.writer; number = y.number; slot = f ∙ y.slot; last = y.last ∙ sym (g.1) }

pub all_kept : (w u : World) (q : Party) (c : ℕ) (b : Pieces) → ((t : ℕ) → is_piece b t ≡ true → (u.job t).slot ≡ (w.job t).slot) → ((u.call c).writer ≡ (w.call c).writer) × ((u.call c).slots ≡ (w.call c).slots) → WrittenAll w q c b → WrittenAll u q c b
all_kept w u q c b f g y = record { writer = g.0 ∙ y.writer; number = y.number; slots = λ t e. f t e ∙ y.slots t e; last = y.last ∙ sym (g.1) }

own_name : (t : ℕ) → (t == t) ≡ true
own_name t = eq-eqb t t refl

-- it stays so where the numbers that it knows stay, and the book that it holds
pub at_kept : (w u : World) (q : Party) (s : BookState) → ((t : ℕ) → names s t ≡ true → (u.job t).slot ≡ (w.job t).slot) → ((c : ℕ) → holds_book s ≡ Some c → ((u.call c).writer ≡ (w.call c).writer) × ((u.call c).slots ≡ (w.call c).slots)) → AtState w q s → AtState u q s
at_kept w u q Nothing f g y = tt
at_kept w u q (Fresh t) f g y = f t (own_name t) ∙ y
at_kept w u q (FreshAll b) f g y = λ t e. f t e ∙ y t e
at_kept w u q (Holding c t) f g y = written_kept w u q c t (f t (own_name t)) (g c refl) y
at_kept w u q (Lined c t) f g y = (written_kept w u q c t (f t (own_name t)) (g c refl) (y.0), y.1)
at_kept w u q (HoldingAll c b) f g y = all_kept w u q c b f (g c refl) y
at_kept w u q (Running t) f g y = ap is_unfilled (f t (own_name t)) ∙ y
at_kept w u q (Shut t) f g y = ap is_unfilled (f t (own_name t)) ∙ y
at_kept w u q (ShutAll b) f g y = λ t e. ap is_unfilled (f t e) ∙ y t e
at_kept w u q Never f g y = y

-- who holds a book is its writer
pub state_holds : (w : World) (q : Party) (s : BookState) (c : ℕ) → holds_book s ≡ Some c → AtState w q s → (w.call c).writer ≡ Some q
state_holds w q (Holding d t) c z y = ap (λ n. (w.call n).writer) (sym (number_is d c z)) ∙ y.writer
state_holds w q (Lined d t) c z y = ap (λ n. (w.call n).writer) (sym (number_is d c z)) ∙ (y.0).writer
state_holds w q (HoldingAll d b) c z y = ap (λ n. (w.call n).writer) (sym (number_is d c z)) ∙ y.writer
state_holds w q _ c z y = cc

-- the numbers that a state of one job names, or of pieces, and whose scope it is
abbrev pub ScopeOf : Count → Type 0
ScopeOf k = (c : ℕ) × ((o : Party) × (k ≡ OfScope c o))

pub fresh_one : (k : Count) (u t : ℕ) → names (fresh_state k u) t ≡ true → (t ≡ u) × ScopeOf k
fresh_one (OfScope c o) u t z = (eqb-true t u z, (c, (o, refl)))
fresh_one _ u t z = absurd (cc)

pub open_one : (k : Count) (u t : ℕ) → names (open_state k u) t ≡ true → (t ≡ u) × ScopeOf k
open_one (OfScope c o) u t z = (eqb-true t u z, (c, (o, refl)))
open_one _ u t z = absurd (cc)

pub hold_one : (k : Count) (u t : ℕ) → names (hold_state k u) t ≡ true → (t ≡ u) × ScopeOf k
hold_one (OfScope c o) u t z = (eqb-true t u z, (c, (o, refl)))
hold_one _ u t z = absurd (cc)

pub line_one : (k : Count) (u t : ℕ) → names (line_state k u) t ≡ true → (t ≡ u) × ScopeOf k
line_one (OfScope c o) u t z = (eqb-true t u z, (c, (o, refl)))
line_one _ u t z = absurd (cc)

pub close_one : (k : Count) (u t : ℕ) → names (close_state k u) t ≡ true → (t ≡ u) × ScopeOf k
close_one (OfScope c o) u t z = (eqb-true t u z, (c, (o, refl)))
close_one _ u t z = absurd (cc)

pub shut_one : (k : Count) (u t : ℕ) → names (shut_state k u) t ≡ true → (t ≡ u) × ScopeOf k
shut_one (OfScope c o) u t z = (eqb-true t u z, (c, (o, refl)))
shut_one _ u t z = absurd (cc)

grow_none : (k : Count) (t : ℕ) → names (grow_state k) t ≡ true → ⊥
grow_none (OfScope c o) t z = cc
grow_none _ t z = cc

pub fresh_pieces : (k : Count) (b : Pieces) (t : ℕ) → names (fresh_all k b) t ≡ true → (is_piece b t ≡ true) × ScopeOf k
fresh_pieces (OfScope c o) b t z = (z, (c, (o, refl)))
fresh_pieces _ b t z = absurd (cc)

pub open_pieces : (k : Count) (b : Pieces) (t : ℕ) → names (open_all k b) t ≡ true → (is_piece b t ≡ true) × ScopeOf k
open_pieces (OfScope c o) b t z = (z, (c, (o, refl)))
open_pieces _ b t z = absurd (cc)

pub hold_pieces : (k : Count) (b : Pieces) (t : ℕ) → names (hold_all k b) t ≡ true → (is_piece b t ≡ true) × ScopeOf k
hold_pieces (OfScope c o) b t z = (z, (c, (o, refl)))
hold_pieces _ b t z = absurd (cc)

pub close_pieces : (k : Count) (b : Pieces) (t : ℕ) → names (close_all k b) t ≡ true → (is_piece b t ≡ true) × ScopeOf k
close_pieces (OfScope c o) b t z = (z, (c, (o, refl)))
close_pieces _ b t z = absurd (cc)

pub shut_pieces : (k : Count) (b : Pieces) (t : ℕ) → names (shut_all k b) t ≡ true → (is_piece b t ≡ true) × ScopeOf k
shut_pieces (OfScope c o) b t z = (z, (c, (o, refl)))
shut_pieces _ b t z = absurd (cc)

-- a job with a share, or one that its place takes a share for, or one in a FIFO list that its party holds
abbrev Knows : ℕ → Place → Type 0
Knows t x = (1 ≤ share t x) ⊎ ((1 ≤ raises t x) ⊎ ((f : Feeding) × ((waits x ≡ Some f) × (t ≡ f.job))))

job_one : (t u : ℕ) → t ≡ u → one (t == u) ≡ 1
job_one t u i = ap one (eq-eqb t u i)

pub book_knows : (x : Place) (t : ℕ) → names (book_of x) t ≡ true → Knows t x
book_knows (RaiseCount n) t z = inr (inl (let a : one (t == plan_job n) ≡ 1 = job_one t (plan_job n) ((fresh_one (plan_count n) (plan_job n) t z).0) in omega (arith, a)))
book_knows (GrowCall n) t z = absurd (grow_none (plan_count n) t z)
book_knows (OpenSlot n) t z = inl (let a : one (t == plan_job n) ≡ 1 = job_one t (plan_job n) ((open_one (plan_count n) (plan_job n) t z).0) in omega (arith, a))
book_knows (LookQueue n) t z = inl (let a : one (t == plan_job n) ≡ 1 = job_one t (plan_job n) ((hold_one (plan_count n) (plan_job n) t z).0) in omega (arith, a))
book_knows (PushJob n v) t z = inl (let a : one (t == plan_job n) ≡ 1 = job_one t (plan_job n) ((hold_one (plan_count n) (plan_job n) t z).0) in omega (arith, a))
book_knows (CloseSlot n) t z = inl (let a : one (t == plan_job n) ≡ 1 = job_one t (plan_job n) ((close_one (plan_count n) (plan_job n) t z).0) in omega (arith, a))
book_knows (AddToFifo f) t z = inl (let a : one (t == f.job) ≡ 1 = job_one t f.job ((hold_one f.count f.job t z).0) in omega (arith, a))
book_knows (LookForToken f) t z = inr (inr (f, (refl, (line_one f.count f.job t z).0)))
book_knows (PushToken f v) t z = inr (inr (f, (refl, (line_one f.count f.job t z).0)))
book_knows (TakeFromFifo f) t z = inr (inr (f, (refl, (line_one f.count f.job t z).0)))
book_knows (StoreSlot c o u e) t z = inl (let a : one (t == u) ≡ 1 = ap one z in omega (arith, a))
book_knows (LowerCount k (OfJob u) n) t z = inl (let a : one (t == u) ≡ 1 = job_one t u ((shut_one k u t z).0) in omega (arith, a))
book_knows (LowerCount k PoolValue n) t z = cc
book_knows (LowerCount k Body n) t z = cc
book_knows (RaiseForAll b) t z = inr (inl (let a : one (is_piece b t) ≡ 1 = ap one ((fresh_pieces b.count b t z).0) in omega (arith, a)))
book_knows (OpenForAll b) t z = inl (let a : one (is_piece b t) ≡ 1 = ap one ((open_pieces b.count b t z).0) in omega (arith, a))
book_knows (PushForAll b) t z = inl (let a : one (is_piece b t) ≡ 1 = ap one ((hold_pieces b.count b t z).0) in omega (arith, a))
book_knows (CloseForAll b) t z = inl (let a : one (is_piece b t) ≡ 1 = ap one ((close_pieces b.count b t z).0) in omega (arith, a))
book_knows (LowerForAll b) t z = inl (let a : one (is_piece b t) ≡ 1 = ap one ((shut_pieces b.count b t z).0) in omega (arith, a))
book_knows _ t z = cc

-- such a job is given out
pub slot_says : (w : World) (q : Party) (n : Plan) → SaysSlot w q n → SaysPlan w q n
slot_says w q (Enter e) s = s
slot_says w q (Feed f) s = s
slot_says w q _ s = absurd s

pub book_made : (w : World) (q : Party) (x : Place) (t : ℕ) → names (book_of x) t ≡ true → Says w q x → t + 1 ≤ w.jobs
book_made w q (RaiseCount n) t z s = subst (λ i. i + 1 ≤ w.jobs) (sym ((fresh_one (plan_count n) (plan_job n) t z).0)) ((plan_made w q n s).0)
book_made w q (GrowCall n) t z s = absurd (grow_none (plan_count n) t z)
book_made w q (OpenSlot n) t z s = subst (λ i. i + 1 ≤ w.jobs) (sym ((open_one (plan_count n) (plan_job n) t z).0)) ((plan_made w q n (slot_says w q n s)).0)
book_made w q (LookQueue n) t z s = subst (λ i. i + 1 ≤ w.jobs) (sym ((hold_one (plan_count n) (plan_job n) t z).0)) ((plan_made w q n (queue_plan w q n s)).0)
book_made w q (PushJob n v) t z s = subst (λ i. i + 1 ≤ w.jobs) (sym ((hold_one (plan_count n) (plan_job n) t z).0)) ((plan_made w q n (queue_plan w q n s)).0)
book_made w q (CloseSlot n) t z s = subst (λ i. i + 1 ≤ w.jobs) (sym ((close_one (plan_count n) (plan_job n) t z).0)) ((plan_made w q n (slot_says w q n s)).0)
book_made w q (AddToFifo f) t z s = subst (λ i. i + 1 ≤ w.jobs) (sym ((hold_one f.count f.job t z).0)) ((s.0).made)
book_made w q (LookForToken f) t z s = subst (λ i. i + 1 ≤ w.jobs) (sym ((line_one f.count f.job t z).0)) ((s.0).made)
book_made w q (PushToken f v) t z s = subst (λ i. i + 1 ≤ w.jobs) (sym ((line_one f.count f.job t z).0)) ((s.0).made)
book_made w q (TakeFromFifo f) t z s = subst (λ i. i + 1 ≤ w.jobs) (sym ((line_one f.count f.job t z).0)) ((s.0).made)
book_made w q (StoreSlot c o u e) t z s = subst (λ i. i + 1 ≤ w.jobs) (sym (eqb-true t u z)) (s.0)
book_made w q (LowerCount k (OfJob u) n) t z s = subst (λ i. i + 1 ≤ w.jobs) (sym ((shut_one k u t z).0)) (share_made w k u n (s.1))
book_made w q (LowerCount k PoolValue n) t z s = cc
book_made w q (LowerCount k Body n) t z s = cc
book_made w q (RaiseForAll b) t z s = ((s.0) t ((fresh_pieces b.count b t z).0)).made
book_made w q (OpenForAll b) t z s = ((s.0) t ((open_pieces b.count b t z).0)).made
book_made w q (PushForAll b) t z s = ((s.0) t ((hold_pieces b.count b t z).0)).made
book_made w q (CloseForAll b) t z s = ((s.0) t ((close_pieces b.count b t z).0)).made
book_made w q (LowerForAll b) t z s = ((s.0) t ((shut_pieces b.count b t z).0)).made
book_made w q _ t z s = cc

-- and is a job of the scope
pub plan_scoped : (w : World) (q : Party) (n : Plan) (c : ℕ) (o : Party) → SaysPlan w q n → plan_count n ≡ OfScope c o → (w.job (plan_job n)).kind ≡ Scoped c o
plan_scoped w q (Enter e) c o s z = (s.0).kind ∙ ap count_kind z
plan_scoped w q (Feed f) c o s z = (s.0).kind ∙ ap count_kind z
plan_scoped w q _ c o s z = cc

-- no piece of a broadcast that waits
plan_unparted : (w : World) (q : Party) (n : Plan) (t : ℕ) → SaysPlan w q n → (t ≡ plan_job n) × ScopeOf (plan_count n) → is_part (w.job t).kind ≡ false
plan_unparted w q n t s y = ap (λ i. is_part (w.job i).kind) (y.0) ∙ ap is_part (plan_scoped w q n ((y.1).0) (((y.1).1).0) s (((y.1).1).1))

piece_unparted : (w : World) (b : Pieces) (t : ℕ) → SaysPieces w b → (is_piece b t ≡ true) × ScopeOf b.count → is_part (w.job t).kind ≡ false
piece_unparted w b t s y = ap is_part ((s t (y.0)).kind ∙ ap count_kind (((y.1).1).1))

share_unparted : (w : World) (k : Count) (u t : ℕ) (n : Then) → SaysShare w k (OfJob u) n → (t ≡ u) × ScopeOf k → is_part (w.job t).kind ≡ false
share_unparted w (OfScope c o) u t n s y = ap (λ i. is_part (w.job i).kind) (y.0) ∙ ap is_part (s.1)
share_unparted w (OfPool p) u t n s y = absurd (let a : OfPool p ≡ OfScope ((y.1).0) (((y.1).1).0) = ((y.1).1).1 in cc)
share_unparted w (OfCast c o) u t n s y = absurd (let a : OfCast c o ≡ OfScope ((y.1).0) (((y.1).1).0) = ((y.1).1).1 in cc)

pub book_unparted : (w : World) (q : Party) (x : Place) (t : ℕ) → names (book_of x) t ≡ true → Says w q x → is_part (w.job t).kind ≡ false
book_unparted w q (RaiseCount n) t z s = plan_unparted w q n t s (fresh_one (plan_count n) (plan_job n) t z)
book_unparted w q (GrowCall n) t z s = absurd (grow_none (plan_count n) t z)
book_unparted w q (OpenSlot n) t z s = plan_unparted w q n t (slot_says w q n s) (open_one (plan_count n) (plan_job n) t z)
book_unparted w q (LookQueue n) t z s = plan_unparted w q n t (queue_plan w q n s) (hold_one (plan_count n) (plan_job n) t z)
book_unparted w q (PushJob n v) t z s = plan_unparted w q n t (queue_plan w q n s) (hold_one (plan_count n) (plan_job n) t z)
book_unparted w q (CloseSlot n) t z s = plan_unparted w q n t (slot_says w q n s) (close_one (plan_count n) (plan_job n) t z)
book_unparted w q (AddToFifo f) t z s = plan_unparted w q (Feed f) t s (hold_one f.count f.job t z)
book_unparted w q (LookForToken f) t z s = plan_unparted w q (Feed f) t s (line_one f.count f.job t z)
book_unparted w q (PushToken f v) t z s = plan_unparted w q (Feed f) t s (line_one f.count f.job t z)
book_unparted w q (TakeFromFifo f) t z s = plan_unparted w q (Feed f) t s (line_one f.count f.job t z)
book_unparted w q (StoreSlot c o u e) t z s = ap (λ i. is_part (w.job i).kind) (eqb-true t u z) ∙ ap is_part (s.1)
book_unparted w q (LowerCount k (OfJob u) n) t z s = share_unparted w k u t n (s.1) (shut_one k u t z)
book_unparted w q (LowerCount k PoolValue n) t z s = cc
book_unparted w q (LowerCount k Body n) t z s = cc
book_unparted w q (RaiseForAll b) t z s = piece_unparted w b t (s.0) (fresh_pieces b.count b t z)
book_unparted w q (OpenForAll b) t z s = piece_unparted w b t (s.0) (open_pieces b.count b t z)
book_unparted w q (PushForAll b) t z s = piece_unparted w b t (s.0) (hold_pieces b.count b t z)
book_unparted w q (CloseForAll b) t z s = piece_unparted w b t (s.0) (close_pieces b.count b t z)
book_unparted w q (LowerForAll b) t z s = piece_unparted w b t (s.0) (shut_pieces b.count b t z)
book_unparted w q _ t z s = cc

-- and such a call
pub plan_tied : (w : World) (q : Party) (n : Plan) (c : ℕ) (o : Party) → SaysPlan w q n → plan_count n ≡ OfScope c o → Tied w c o
plan_tied w q (Enter e) c o s z = subst (λ k. KnownCount w k e.pool) z (s.1)
plan_tied w q (Feed f) c o s z = subst (λ k. KnownCount w k f.pool) z (s.3)
plan_tied w q _ c o s z = cc

hold_call : (k : Count) (t c : ℕ) → holds_book (hold_state k t) ≡ Some c → (o : Party) × (k ≡ OfScope c o)
hold_call (OfScope d o) t c z = (o, ap (λ n. OfScope n o) (number_is d c z))
hold_call _ t c z = absurd (cc)

line_call : (k : Count) (t c : ℕ) → holds_book (line_state k t) ≡ Some c → (o : Party) × (k ≡ OfScope c o)
line_call (OfScope d o) t c z = (o, ap (λ n. OfScope n o) (number_is d c z))
line_call _ t c z = absurd (cc)

close_call : (k : Count) (t c : ℕ) → holds_book (close_state k t) ≡ Some c → (o : Party) × (k ≡ OfScope c o)
close_call (OfScope d o) t c z = (o, ap (λ n. OfScope n o) (number_is d c z))
close_call _ t c z = absurd (cc)

hold_all_call : (k : Count) (b : Pieces) (c : ℕ) → holds_book (hold_all k b) ≡ Some c → (o : Party) × (k ≡ OfScope c o)
hold_all_call (OfScope d o) b c z = (o, ap (λ n. OfScope n o) (number_is d c z))
hold_all_call _ b c z = absurd (cc)

close_all_call : (k : Count) (b : Pieces) (c : ℕ) → holds_book (close_all k b) ≡ Some c → (o : Party) × (k ≡ OfScope c o)
close_all_call (OfScope d o) b c z = (o, ap (λ n. OfScope n o) (number_is d c z))
close_all_call _ b c z = absurd (cc)

pub none_holds : (k : Count) (t c : ℕ) → (holds_book (fresh_state k t) ≡ Some c) ⊎ ((holds_book (open_state k t) ≡ Some c) ⊎ ((holds_book (shut_state k t) ≡ Some c) ⊎ (holds_book (grow_state k) ≡ Some c))) → ⊥
none_holds (OfScope d o) t c z = absurd (elim z [ inl y ↦ cc | inr y ↦ elim y [ inl v ↦ cc | inr v ↦ elim v [ inl i ↦ cc | inr i ↦ cc ] ] ])
none_holds _ t c z = absurd (elim z [ inl y ↦ cc | inr y ↦ elim y [ inl v ↦ cc | inr v ↦ elim v [ inl i ↦ cc | inr i ↦ cc ] ] ])

pub none_all_holds : (k : Count) (b : Pieces) (c : ℕ) → (holds_book (fresh_all k b) ≡ Some c) ⊎ ((holds_book (open_all k b) ≡ Some c) ⊎ (holds_book (shut_all k b) ≡ Some c)) → ⊥
none_all_holds (OfScope d o) b c z = absurd (elim z [ inl y ↦ cc | inr y ↦ elim y [ inl v ↦ cc | inr v ↦ cc ] ])
none_all_holds _ b c z = absurd (elim z [ inl y ↦ cc | inr y ↦ elim y [ inl v ↦ cc | inr v ↦ cc ] ])

pub writes_tied : (w : World) (q : Party) (x : Place) (c : ℕ) → writes x ≡ Some c → Says w q x → (o : Party) × Tied w c o
writes_tied w q (RaiseCount n) c z s = absurd (none_holds (plan_count n) (plan_job n) c (inl z))
writes_tied w q (GrowCall n) c z s = absurd (none_holds (plan_count n) 0 c (inr (inr (inr z))))
writes_tied w q (OpenSlot n) c z s = absurd (none_holds (plan_count n) (plan_job n) c (inr (inl z)))
writes_tied w q (LookQueue n) c z s = let y : (o : Party) × (plan_count n ≡ OfScope c o) = hold_call (plan_count n) (plan_job n) c z in (y.0, plan_tied w q n c (y.0) (queue_plan w q n s) (y.1))
writes_tied w q (PushJob n v) c z s = let y : (o : Party) × (plan_count n ≡ OfScope c o) = hold_call (plan_count n) (plan_job n) c z in (y.0, plan_tied w q n c (y.0) (queue_plan w q n s) (y.1))
writes_tied w q (CloseSlot n) c z s = let y : (o : Party) × (plan_count n ≡ OfScope c o) = close_call (plan_count n) (plan_job n) c z in (y.0, plan_tied w q n c (y.0) (slot_says w q n s) (y.1))
writes_tied w q (AddToFifo f) c z s = let y : (o : Party) × (f.count ≡ OfScope c o) = hold_call f.count f.job c z in (y.0, plan_tied w q (Feed f) c (y.0) s (y.1))
writes_tied w q (LookForToken f) c z s = let y : (o : Party) × (f.count ≡ OfScope c o) = line_call f.count f.job c z in (y.0, plan_tied w q (Feed f) c (y.0) s (y.1))
writes_tied w q (PushToken f v) c z s = let y : (o : Party) × (f.count ≡ OfScope c o) = line_call f.count f.job c z in (y.0, plan_tied w q (Feed f) c (y.0) s (y.1))
writes_tied w q (TakeFromFifo f) c z s = let y : (o : Party) × (f.count ≡ OfScope c o) = line_call f.count f.job c z in (y.0, plan_tied w q (Feed f) c (y.0) s (y.1))
writes_tied w q (LowerCount k (OfJob u) n) c z s = absurd (none_holds k u c (inr (inr (inl z))))
writes_tied w q (LowerCount k PoolValue n) c z s = absurd (cc)
writes_tied w q (LowerCount k Body n) c z s = absurd (cc)
writes_tied w q (RaiseForAll b) c z s = absurd (none_all_holds b.count b c (inl z))
writes_tied w q (OpenForAll b) c z s = absurd (none_all_holds b.count b c (inr (inl z)))
writes_tied w q (PushForAll b) c z s = let y : (o : Party) × (b.count ≡ OfScope c o) = hold_all_call b.count b c z in (y.0, subst (λ k. KnownCount w k b.pool) (y.1) (s.1))
writes_tied w q (CloseForAll b) c z s = let y : (o : Party) × (b.count ≡ OfScope c o) = close_all_call b.count b c z in (y.0, subst (λ k. KnownCount w k b.pool) (y.1) (s.1))
writes_tied w q (LowerForAll b) c z s = absurd (none_all_holds b.count b c (inr (inr z)))
writes_tied w q _ c z s = absurd (cc)
