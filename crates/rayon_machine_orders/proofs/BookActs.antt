-- what each act leaves of the books: which places lead to which, and what the acts on a book do
use Rattle.std.proofs.Common.{arith, refl, sym, ◌∙◌, ap, subst, inl, inr}
use Rattle.rayon_machine_orders.proofs.Words.{eqb-true, ℕ, Bool, true, false, ◌&&◌, ◌+◌, ◌-◌, ◌==◌, ◌≤◌, if◌then◌else◌, Some, None, List, ◌≡◌, ◌⊎◌, IfSome, Party, Worker, Caller, Detached, Scoped, PieceOf, Plan, Detach, Here, Send, Fork, Feed, Open, Enter, Gather, Feeding, Gathering, Pieces}
use Rattle.rayon_machine_orders.proofs.Words.{Counted, Numbered, Queued, Dealt, Unnumbered, Returned, Count, OfPool, OfScope, OfCast, OfJob, Then, Plain, Place, ProbeWorking, RaiseCount, LookQueue, PushJob, LowerCount, AddToFifo, LookForToken, PushToken, TakeFromFifo, RaiseForAll, PushForAll}
use Rattle.rayon_machine_orders.proofs.Words.{LowerForAll, OpenSlot, CloseSlot, StoreSlot, OpenForAll, CloseForAll, DealPieces, StorePiece, Move, Mark, HandBack, HandAllBack, Seen, Done, Yes, Task, PoolShape, Job, Closed, Over, Ending, plan_pool, plan_job, plan_count, plan_book, act_of, next_of}
use Rattle.rayon_machine_orders.proofs.Words.{count_book, count_kind, withdraw, begin_feed, begin_cast, Shape, Counts, World, Part, counts_at, target_pool, target_call, raised, effect, last_of, is_open, fifo_back, put, after_move, jobs_after, is_piece, marked, holds_in, one, is_busy, is_scoped}
use Rattle.rayon_machine_orders.proofs.Words.{BeginTask}
use Rattle.rayon_machine_laws.proofs.Frame.{either, if_some_map, if_some_and, if_cond, put_same, put_old, after_part, MarksKeep, stack_mine, stack_other, piece_old}
use Rattle.rayon_machine_laws.proofs.Ties.{AllFrames, job_at, outcome}
use Rattle.rayon_machine_laws.proofs.Tops.{top_after}
use Rattle.rayon_machine_laws.proofs.Claims.{is_detached, is_part, SaysThen, SaysShare, SaysGather, Says}
use Rattle.rayon_machine_laws.proofs.ClaimRuns.{CallsHold, top_says, place_part, world_after}
use Rattle.rayon_machine_laws.proofs.Amounts.{pushed}
use Rattle.rayon_machine_laws.proofs.ShareActs.{with_job, one_is}
use Rattle.rayon_machine_laws.proofs.Feeders.{FeedersHold, waits}
use Rattle.rayon_machine_laws.proofs.ShareLowers.{owner_unscoped}
use Rattle.rayon_machine_laws.proofs.ShareSteps.{Ready, stack_after}
use Rattle.rayon_machine_orders.proofs.EarlyActs.{NotGiven, Stays}
use Rattle.rayon_machine_orders.proofs.EarlyStates.{EarlyHold}
use Rattle.rayon_machine_orders.proofs.Books.{is_unfilled, writes, book_of, AtBook, AtState, IsWorker, raising, BooksHold, quiet_books}
use Rattle.rayon_machine_orders.proofs.BookStates.{is_nothing, scope_count, fresh_state, open_state, hold_state, line_state, close_state, shut_state, fresh_all, open_all, hold_all, shut_all, book_free, holds_book, free_at, free_writes, free_raising, at_kept}
use Rattle.rayon_machine_orders.proofs.BookMoves.{Clear, lower_clear, lower_all_clear, plan_book_is, open_not, close_not, open_all_not, close_all_not, book_next, frame_clear, is_numbering, is_numbered, numbers_next}
use Rattle.rayon_machine_orders.proofs.Spared.{Spared, act_spared, begins, books, is_of_book, looks, pushes}

-- an act that leaves the book that it touches, and the number of its job
pub record Unbooked (m : Part) (r : Seen × Part) : Type 0 where
  pub slot : r.1.job.slot ≡ m.job.slot
  pub writer : r.1.call.writer ≡ m.call.writer
  pub slots : r.1.call.slots ≡ m.call.slots

-- the places whose acts do not
abbrev pub is_scope : Count → Bool
is_scope (OfScope c o) = true
is_scope _ = false

abbrev pub is_booking : Place → Bool
is_booking (OpenSlot n) = true
is_booking (CloseSlot n) = true
is_booking (StoreSlot c o t e) = true
is_booking (StorePiece c o t e) = true
is_booking (PushJob n v) = is_scope (plan_count n)
is_booking (PushToken f v) = is_scope f.count
is_booking (OpenForAll b) = true
is_booking (CloseForAll b) = true
is_booking (PushForAll b) = is_scope b.count
is_booking (DealPieces g) = is_scope (g.pieces).count
is_booking _ = false

-- two that say nothing of a scope's book all the same: the end of a piece, and the push of a broadcast that waits
abbrev pub is_aside : Place → Bool
is_aside (StorePiece c o t e) = true
is_aside (DealPieces g) = true
is_aside _ = false

hold_scope : (k : Count) (t : ℕ) → is_nothing (hold_state k t) ≡ true → is_scope k ≡ false
hold_scope (OfScope c o) t z = cc
hold_scope _ t z = refl

line_scope : (k : Count) (t : ℕ) → is_nothing (line_state k t) ≡ true → is_scope k ≡ false
line_scope (OfScope c o) t z = cc
line_scope _ t z = refl

all_scope : (k : Count) (b : Pieces) → is_nothing (hold_all k b) ≡ true → is_scope k ≡ false
all_scope (OfScope c o) b z = cc
all_scope _ b z = refl

pub free_booking : (x : Place) → book_free x ≡ true → is_aside x ≡ false → is_booking x ≡ false
free_booking (OpenSlot n) z a = absurd (open_not (plan_count n) (plan_job n) z)
free_booking (CloseSlot n) z a = absurd (close_not (plan_count n) (plan_job n) z)
free_booking (StoreSlot c o t e) z a = cc
free_booking (StorePiece c o t e) z a = cc
free_booking (PushJob n v) z a = hold_scope (plan_count n) (plan_job n) z
free_booking (PushToken f v) z a = line_scope f.count f.job z
free_booking (OpenForAll b) z a = absurd (open_all_not b.count b z)
free_booking (CloseForAll b) z a = absurd (close_all_not b.count b z)
free_booking (PushForAll b) z a = all_scope b.count b z
free_booking (DealPieces g) z a = cc
free_booking _ z a = refl

pub free_numbered : (x : Place) → book_free x ≡ true → is_aside x ≡ false → is_numbered x ≡ false
free_numbered (OpenForAll b) z a = absurd (open_all_not b.count b z)
free_numbered (CloseForAll b) z a = absurd (close_all_not b.count b z)
free_numbered (DealPieces g) z a = cc
free_numbered _ z a = refl

no_book : (k : Count) → is_scope k ≡ false → count_book k ≡ None
no_book (OfScope c o) z = cc
no_book _ z = refl

of_book : (k : Count) → is_scope k ≡ false → is_of_book (count_book k) ≡ false
of_book k z = ap is_of_book (no_book k z)

booking_act : (q : Party) (x : Place) → is_booking x ≡ false → books (act_of q x) ≡ false
booking_act (Worker a b) (ProbeWorking k) z = z
booking_act q (BeginTask t) z = begins books t (λ n. refl) (λ k i d. refl)
booking_act q (LookQueue n) z = looks books q (plan_pool n) refl refl
booking_act q (PushJob n v) z = let e : is_of_book (plan_book n) ≡ false = ap is_of_book (plan_book_is n) ∙ of_book (plan_count n) z in pushes books q (plan_pool n) (plan_job n) (plan_book n) e e
booking_act (Worker a b) (PushToken f v) z = of_book f.count z
booking_act (Caller c) (PushToken f v) z = refl
booking_act (Worker a b) (PushForAll c) z = of_book c.count z
booking_act (Caller i) (PushForAll c) z = of_book c.count z
booking_act (Worker a b) (DealPieces g) z = of_book (g.pieces).count z
booking_act (Caller c) (DealPieces g) z = of_book (g.pieces).count z
booking_act (Worker a b) _ z = z
booking_act (Caller c) _ z = z

pub act_unbooked : (h : Shape) (q : Party) (c : Counts) (m : Part) (x : Place) → is_booking x ≡ false → IfSome (effect (act_of q x) h q c m) (Unbooked m)
act_unbooked h q c m x z = if_some_map (Spared (act_of q x) m) (Unbooked m) (λ r s. let e : books (act_of q x) ≡ false = booking_act q x z in record { slot = s.slot e; writer = s.writer e; slots = s.slots e }) (effect (act_of q x) h q c m) (act_spared (act_of q x) h q c m)

slots_keep : (g : Move) → is_numbering g ≡ false → MarksKeep (λ (j : Job). j.slot) g
slots_keep (Mark y c Counted) z = λ i j. refl
slots_keep (Mark y c Queued) z = λ i j. refl
slots_keep (Mark y c Returned) z = λ i j. refl
slots_keep (Mark y c (Numbered n)) z = cc
slots_keep (Mark y c Unnumbered) z = cc
slots_keep (Mark y c Dealt) z = cc
slots_keep (HandAllBack c) z = λ i j. refl
slots_keep (HandBack (Gather g)) z = λ i j. refl
slots_keep _ z = tt

pub after_slot : (q : Party) (g : Move) (f : ℕ → Job) (t : ℕ) → is_numbering g ≡ false → (jobs_after q g f t).slot ≡ (f t).slot
after_slot q g f t z = after_part (λ j. j.slot) (λ r j. refl) (λ j x. refl) q g f t (slots_keep g z)

-- what is pushed of a scope has an open number
flat_kind : (k : Count) (c : ℕ) (o : Party) → is_scope k ≡ false → count_kind k ≡ Scoped c o → ⊥
flat_kind (OfPool p) c o z y = cc
flat_kind _ c o z y = cc

hold_open : (w : World) (q : Party) (k : Count) (u c : ℕ) (o : Party) → AtState w q (hold_state k u) → (w.job u).kind ≡ count_kind k → (w.job u).kind ≡ Scoped c o → is_unfilled (w.job u).slot ≡ true
hold_open w q (OfPool p) u c o a i k = absurd (let z : Detached p ≡ Scoped c o = sym i ∙ k in cc)
hold_open w q (OfScope d r) u c o a i k = ap is_unfilled a.slot
hold_open w q (OfCast d r) u c o a i k = absurd (let z : PieceOf d r ≡ Scoped c o = sym i ∙ k in cc)

pushed_open : (w : World) (q : Party) (x : Place) (e : Seen) (t c : ℕ) (o : Party) → is_booking x ≡ false → Says w q x → AtBook w q x → (w.job t).kind ≡ Scoped c o → 1 ≤ pushed t x e → is_unfilled (w.job t).slot ≡ true
pushed_open w q (PushJob (Detach p a) v) Done t c o z s y k m = absurd (let i : t ≡ a = eqb-true t a (one_is (t == a) m) in let d : Detached p ≡ Scoped c o = sym (s.kind) ∙ ap (λ n. (w.job n).kind) (sym i) ∙ k in cc)
pushed_open w q (PushJob (Here p a) v) Done t c o z s y k m = absurd s
pushed_open w q (PushJob (Feed f) v) Done t c o z s y k m = absurd s
pushed_open w q (PushJob (Open d) v) Done t c o z s y k m = absurd s
pushed_open w q (PushJob (Enter d) v) Done t c o z s y k m = cc
pushed_open w q (AddToFifo f) Done t c o z s y k m = let i : t ≡ f.job = eqb-true t f.job (one_is (t == f.job) m) in subst (λ n. is_unfilled (w.job n).slot ≡ true) (sym i) (hold_open w q f.count f.job c o y ((s.0).kind) (ap (λ n. (w.job n).kind) (sym i) ∙ k))
pushed_open w q (PushForAll b) Done t c o z s y k m = absurd (flat_kind b.count c o z (sym (((s.0) t (one_is (is_piece b t) m)).kind) ∙ k))
pushed_open w q (DealPieces g) Done t c o z s y k m = absurd (flat_kind (g.pieces).count c o z (sym ((s.pieces t (one_is (is_piece g.pieces t) m)).kind) ∙ k))
pushed_open w q _ e t c o z s y k m = absurd (omega (arith, m))

pub with_one : (j : Job) (c : ℕ) (o : Party) → j.kind ≡ Scoped c o → is_busy j.at ≡ true → with_job j ≡ 1
with_one j c o k b = ap (λ v. one (is_detached v && is_busy j.at)) k ∙ ap one b

pub with_none : (j : Job) (c : ℕ) (o : Party) → j.kind ≡ Scoped c o → is_busy j.at ≡ false → with_job j ≡ 0
with_none j c o k b = ap (λ v. one (is_detached v && is_busy j.at)) k ∙ ap one b

-- a job that is busy after an act was so, or was pushed
pub was_busy : (j i : Job) (c : ℕ) (o : Party) (n : ℕ) → j.kind ≡ Scoped c o → i.kind ≡ j.kind → with_job i ≤ with_job j + n → is_busy i.at ≡ true → (is_busy j.at ≡ true) ⊎ (1 ≤ n)
was_busy j i c o n k s l b = elim (either (is_busy j.at)) [ inl y ↦ inl y | inr y ↦ inr (let a : with_job i ≡ 1 = with_one i c o (s ∙ k) b in let d : with_job j ≡ 0 = with_none j c o k y in omega (arith, a, d, l)) ]

-- the share of a job whose number is open stays
fresh_shut : (w : World) (q : Party) (b : Pieces) (k : Count) (t c : ℕ) (o : Party) → AtState w q (fresh_all k b) → (w.job t).kind ≡ count_kind k → (w.job t).kind ≡ Scoped c o → is_piece b t ≡ true → is_unfilled (w.job t).slot ≡ false
fresh_shut w q b (OfPool p) t c o y i k e = absurd (let z : Detached p ≡ Scoped c o = sym i ∙ k in cc)
fresh_shut w q b (OfScope d r) t c o y i k e = ap is_unfilled (y t e)
fresh_shut w q b (OfCast d r) t c o y i k e = absurd (let z : PieceOf d r ≡ Scoped c o = sym i ∙ k in cc)

shut_shut : (w : World) (q : Party) (b : Pieces) (k : Count) (t c : ℕ) (o : Party) → AtState w q (shut_all k b) → (w.job t).kind ≡ count_kind k → (w.job t).kind ≡ Scoped c o → is_piece b t ≡ true → is_unfilled (w.job t).slot ≡ false
shut_shut w q b (OfPool p) t c o y i k e = absurd (let z : Detached p ≡ Scoped c o = sym i ∙ k in cc)
shut_shut w q b (OfScope d r) t c o y i k e = y t e
shut_shut w q b (OfCast d r) t c o y i k e = absurd (let z : PieceOf d r ≡ Scoped c o = sym i ∙ k in cc)

kept_share : (w : World) (q : Party) (x : Place) (fs : List Place) (t c : ℕ) (o : Party) → w.stack q ≡ record { top = x; below = fs } → BooksHold w → (w.job t).kind ≡ Scoped c o → is_unfilled (w.job t).slot ≡ true → NotGiven x t
kept_share w q x fs t c o z h k f = (
  (λ a n i. lowers a n (subst (AtBook w q) (ap (λ v. v.top) z ∙ i) (h.at q)) (top_says w q (LowerCount a (OfJob t) n) fs calls (z ∙ ap (λ v. record { top = v; below = fs }) i))),
  (λ b i. elim i [
    | inl r ↦ off b (λ e. fresh_shut w q b b.count t c o (subst (AtBook w q) (ap (λ v. v.top) z ∙ r) (h.at q)) (((top_says w q (RaiseForAll b) fs calls (z ∙ ap (λ v. record { top = v; below = fs }) r)).0 t e).kind) k e) (is_piece b t) refl
    | inr r ↦ off b (λ e. shut_shut w q b b.count t c o (subst (AtBook w q) (ap (λ v. v.top) z ∙ r) (h.at q)) (((top_says w q (LowerForAll b) fs calls (z ∙ ap (λ v. record { top = v; below = fs }) r)).0 t e).kind) k e) (is_piece b t) refl
  ]),
)
  where
    calls : CallsHold w
    calls = (((h.early).fills).hold).calls

    off : (b : Pieces) → (is_piece b t ≡ true → is_unfilled (w.job t).slot ≡ false) → (d : Bool) → is_piece b t ≡ d → d ≡ false
    off b g false e = refl
    off b g true e = absurd (let a : true ≡ false = sym f ∙ g e in cc)

    lowers : (a : Count) (n : Then) → AtBook w q (LowerCount a (OfJob t) n) → SaysThen w q n × SaysShare w a (OfJob t) n → ⊥
    lowers (OfScope d p) n y s = let b : true ≡ false = sym f ∙ y in cc
    lowers (OfCast d p) n y s = let b : PieceOf d p ≡ Scoped c o = sym ((s.1).1) ∙ k in cc
    lowers (OfPool p) n y s = let b : is_scoped (w.job t).kind ≡ false = owner_unscoped w q t p n (s.0) ((s.1).2) in let d : is_scoped (w.job t).kind ≡ true = ap is_scoped k in let g : true ≡ false = sym d ∙ b in cc

-- what is to be shown of an act
abbrev pub Acts : World → Party → Place → List Place → Seen × Part → Type 0
Acts w q x fs r = EarlyHold (world_after w q x fs r) → FeedersHold (world_after w q x fs r) → Ready w q x fs r → Stays w q x fs r → BooksHold (world_after w q x fs r)

-- an act on no book
record Leaves (w : World) (q : Party) (x : Place) (fs : List Place) (r : Seen × Part) : Type 0 where
  slot : (t : ℕ) → t + 1 ≤ w.jobs → is_part (w.job t).kind ≡ false → ((world_after w q x fs r).job t).slot ≡ (w.job t).slot
  fresh : (t : ℕ) → w.jobs ≤ t → ((world_after w q x fs r).job t).slot ≡ Closed
  call : (c : ℕ) → (((world_after w q x fs r).call c).writer ≡ (w.call c).writer) × (((world_after w q x fs r).call c).slots ≡ (w.call c).slots)
  top : AtBook (world_after w q x fs r) q (stack_after w q x fs (r.0)).top
  wrote : (c : ℕ) → writes x ≡ Some c → writes (stack_after w q x fs (r.0)).top ≡ Some c
  raised : (c : ℕ) → raising (stack_after w q x fs (r.0)).top ≡ Some c → holds_in c (stack_after w q x fs (r.0)).below ≡ true
  opens : (t c : ℕ) (o : Party) → (w.job t).kind ≡ Scoped c o → 1 ≤ pushed t x (r.0) → is_unfilled (w.job t).slot ≡ true

quiet_act : (w : World) (q : Party) (x : Place) (fs : List Place) (r : Seen × Part) → w.stack q ≡ record { top = x; below = fs } → BooksHold w → Leaves w q x fs r → Acts w q x fs r
quiet_act w q x fs r z h l e fe d st = quiet_books w u q h e fe (record {
  jobs = omega arith;
  calls = omega arith;
  stack = λ s y. stack_other w.stack q (stack_after w q x fs (r.0)) s y;
  top = subst (λ s. AtBook u q s.top) (sym mine) (l.top);
  wrote = λ c y. ap (λ s. writes (s.top)) mine ∙ l.wrote c (ap (λ s. writes (s.top)) (sym z) ∙ y);
  enters = λ c i. ap (λ s. holds_in c (s.below)) mine ∙ l.raised c (ap (λ s. raising (s.top)) (sym mine) ∙ i);
  slot = l.slot;
  fresh = l.fresh;
  call = λ c m. l.call c;
  opened = λ c m. (l.call c).0 ∙ (h.uncalled c m).0;
  empty = λ c m. inl ((l.call c).1 ∙ (h.uncalled c m).1);
  kind = λ t m. (d.last).kinds t;
  busy = λ t m c o k y. elim (was_busy (w.job t) (u.job t) c o (pushed t x (r.0)) k ((d.last).kinds t) (d.busy t) y) [ inl a ↦ inl a | inr a ↦ inr (l.opens t c o k a) ];
  idle = λ t m n. absurd (omega (arith, m, n));
  counted = λ t m c o k f y. st t (kept_share w q x fs t c o z h k f) y;
})
  where
    u : World
    u = world_after w q x fs r

    mine : u.stack q ≡ stack_after w q x fs (r.0)
    mine = stack_mine w.stack q (stack_after w q x fs (r.0))

-- what an act does not touch of the books
same_slot : (w : World) (q : Party) (x : Place) (fs : List Place) (r : Seen × Part) → is_numbered x ≡ false → Unbooked (place_part w q x) r → (t : ℕ) → ((world_after w q x fs r).job t).slot ≡ (w.job t).slot
same_slot w q x fs r n un t = after_slot q (next_of (w.shape.pool (target_pool q (act_of q x))) q x (r.0)) (put w.job (job_at w q (act_of q x)) (r.1.job)) t (numbers_next (w.shape.pool (target_pool q (act_of q x))) q x (r.0) n)
    ∙ put_same (λ j. j.slot) w.job (job_at w q (act_of q x)) (r.1.job) t (un.slot)

same_book : (w : World) (q : Party) (x : Place) (fs : List Place) (r : Seen × Part) → Unbooked (place_part w q x) r → (c : ℕ) → (((world_after w q x fs r).call c).writer ≡ (w.call c).writer) × (((world_after w q x fs r).call c).slots ≡ (w.call c).slots)
same_book w q x fs r un c = (put_same (λ k. k.writer) w.call (target_call (act_of q x)) (r.1.call) c (un.writer), put_same (λ k. k.slots) w.call (target_call (act_of q x)) (r.1.call) c (un.slots))

-- where the place after it says of the books what is so still
pub held_act : (w : World) (q : Party) (x : Place) (fs : List Place) → w.stack q ≡ record { top = x; below = fs } → BooksHold w → is_booking x ≡ false → is_numbered x ≡ false →
    ((r : Seen × Part) → ((t : ℕ) → ((world_after w q x fs r).job t).slot ≡ (w.job t).slot) → ((c : ℕ) → (((world_after w q x fs r).call c).writer ≡ (w.call c).writer) × (((world_after w q x fs r).call c).slots ≡ (w.call c).slots)) → AtBook (world_after w q x fs r) q
    (stack_after w q x fs (r.0)).top) →
    ((e : Seen) (c : ℕ) → writes x ≡ Some c → writes (stack_after w q x fs e).top ≡ Some c) → ((e : Seen) (c : ℕ) → raising (stack_after w q x fs e).top ≡ Some c → holds_in c (stack_after w q x fs e).below ≡ true) → IfSome (outcome w q (record { top = x; below = fs })) (Acts w q x fs)
held_act w q x fs z h b n top wrote raised = if_some_map (Unbooked (place_part w q x)) (Acts w q x fs) (λ r un. quiet_act w q x fs r z h (record {
  slot = λ t l p. same_slot w q x fs r n un t;
  fresh = λ t l. same_slot w q x fs r n un t ∙ h.unmade t l;
  call = same_book w q x fs r un;
  top = top r (same_slot w q x fs r n un) (same_book w q x fs r un);
  wrote = wrote (r.0);
  raised = raised (r.0);
  opens = λ t c o k m. pushed_open w q x (r.0) t c o b (top_says w q x fs ((((h.early).fills).hold).calls) z) (subst (λ s. AtBook w q (s.top)) z (h.at q)) k m;
})) (outcome w q (record { top = x; below = fs })) (act_unbooked w.shape q (counts_at w (target_pool q (act_of q x))) (place_part w q x) x b)

pub clear_top : (u : World) (q : Party) (g : Move) (fs : List Place) → AllFrames fs → Clear g → AtBook u q ((after_move g fs).top)
clear_top u q g fs a t = free_at u q ((after_move g fs).top) (top_after (λ y. book_free y ≡ true) g fs t frame_clear a)

pub clear_raises : (g : Move) (fs : List Place) (c : ℕ) → AllFrames fs → Clear g → raising ((after_move g fs).top) ≡ Some c → ⊥
clear_raises g fs c a t z = free_raising ((after_move g fs).top) c (top_after (λ y. book_free y ≡ true) g fs t frame_clear a) z

pub below_frames : (w : World) (q : Party) (x : Place) (fs : List Place) → w.stack q ≡ record { top = x; below = fs } → BooksHold w → AllFrames fs
below_frames w q x fs z h = subst (λ k. AllFrames (k.below)) z (((h.early).fills).frames q)

-- where it leads to places that say nothing, and held no book
pub clear_act : (w : World) (q : Party) (x : Place) (fs : List Place) → w.stack q ≡ record { top = x; below = fs } → BooksHold w → is_booking x ≡ false → is_numbered x ≡ false → ((e : Seen) → Clear (next_of (w.shape.pool (target_pool q (act_of q x))) q x e))
    → ((c : ℕ) → writes x ≡ Some c → ⊥) → IfSome (outcome w q (record { top = x; below = fs })) (Acts w q x fs)
clear_act w q x fs z h b n cl wr = held_act w q x fs z h b n
    (λ r s c. clear_top (world_after w q x fs r) q (next_of (w.shape.pool (target_pool q (act_of q x))) q x (r.0)) fs (below_frames w q x fs z h) (cl (r.0)))
    (λ e c y. absurd (wr c y)) (λ e c i. absurd (clear_raises (next_of (w.shape.pool (target_pool q (act_of q x))) q x e) fs c (below_frames w q x fs z h) (cl e) i))

-- at a place that says nothing of a book
pub free_act : (w : World) (q : Party) (x : Place) (fs : List Place) → w.stack q ≡ record { top = x; below = fs } → BooksHold w → book_free x ≡ true → is_aside x ≡ false → IfSome (outcome w q (record { top = x; below = fs })) (Acts w q x fs)
free_act w q x fs z h f a = clear_act w q x fs z h (free_booking x f a) (free_numbered x f a) (λ e. book_next (w.shape.pool (target_pool q (act_of q x))) q x e f) (λ c y. free_writes x c f y)

-- the push of a broadcast that waits: its pieces are of no scope
deal_slot : (g : PoolShape) (q : Party) (d : Gathering) (e : Seen) (J : ℕ → Job) (t : ℕ) → is_piece d.pieces t ≡ false → (jobs_after q (next_of g q (DealPieces d) e) J t).slot ≡ (J t).slot
deal_slot g q d Done J t y = ap (λ j. j.slot) (piece_old (d.pieces) (marked Dealt (d.pieces).pool) J t y)
deal_slot g q d _ J t y = refl

pub deal_act : (w : World) (q : Party) (g : Gathering) (fs : List Place) → w.stack q ≡ record { top = DealPieces g; below = fs } → BooksHold w → IfSome (outcome w q (record { top = DealPieces g; below = fs })) (Acts w q (DealPieces g) fs)
deal_act w q g fs z h = if_some_map (Unbooked (place_part w q (DealPieces g))) (Acts w q (DealPieces g) fs) (λ r un. quiet_act w q (DealPieces g) fs r z h (record {
  slot = λ t l p. slot r un t (unpiece t p);
  fresh = λ t l. slot r un t (unmade t l) ∙ h.unmade t l;
  call = same_book w q (DealPieces g) fs r un;
  top = clear_top (world_after w q (DealPieces g) fs r) q (next_of g0 q (DealPieces g) (r.0)) fs (below_frames w q (DealPieces g) fs z h) (book_next g0 q (DealPieces g) (r.0) refl);
  wrote = λ c y. absurd (cc);
  raised = λ c i. absurd (clear_raises (next_of g0 q (DealPieces g) (r.0)) fs c (below_frames w q (DealPieces g) fs z h) (book_next g0 q (DealPieces g) (r.0) refl) i);
  opens = λ t c o k m. pushed_open w q (DealPieces g) (r.0) t c o flat said tt k m;
})) (outcome w q (record { top = DealPieces g; below = fs })) (act_unbooked w.shape q (counts_at w (target_pool q (act_of q (DealPieces g)))) (place_part w q (DealPieces g)) (DealPieces g) flat)
  where
    g0 : PoolShape
    g0 = w.shape.pool (target_pool q (act_of q (DealPieces g)))

    said : SaysGather w q g
    said = top_says w q (DealPieces g) fs ((((h.early).fills).hold).calls) z

    flat : is_scope (g.pieces).count ≡ false
    flat = ap is_scope (said.count)

    unpiece : (t : ℕ) → is_part (w.job t).kind ≡ false → is_piece g.pieces t ≡ false
    unpiece t p = elim (either (is_piece g.pieces t)) [ inl y ↦ absurd (let a : true ≡ false = sym (ap is_part ((said.pieces t y).kind ∙ ap count_kind (said.count))) ∙ p in cc) | inr y ↦ y ]

    unmade : (t : ℕ) → w.jobs ≤ t → is_piece g.pieces t ≡ false
    unmade t l = elim (either (is_piece g.pieces t)) [ inl y ↦ absurd (let a : t + 1 ≤ w.jobs = (said.pieces t y).made in omega (arith, a, l)) | inr y ↦ y ]

    slot : (r : Seen × Part) → Unbooked (place_part w q (DealPieces g)) r → (t : ℕ) → is_piece g.pieces t ≡ false → ((world_after w q (DealPieces g) fs r).job t).slot ≡ (w.job t).slot
    slot r un t y = deal_slot g0 q g (r.0) (put w.job (job_at w q (act_of q (DealPieces g))) (r.1.job)) t y ∙ put_same (λ j. j.slot) w.job (job_at w q (act_of q (DealPieces g))) (r.1.job) t (un.slot)

-- and the end of one
piece_by : (w : World) (q : Party) (c : ℕ) (o : Party) (t : ℕ) (d : Ending) (fs : List Place) (r : Seen × Part) → w.stack q ≡ record { top = StorePiece c o t d; below = fs } → BooksHold w → job_at w q (act_of q (StorePiece c o t d)) ≡ t
    → (r.1.call.writer ≡ (place_part w q (StorePiece c o t d)).call.writer) × (r.1.call.slots ≡ (place_part w q (StorePiece c o t d)).call.slots) → Acts w q (StorePiece c o t d) fs r
piece_by w q c o t d fs r z h i un = quiet_act w q (StorePiece c o t d) fs r z h (record {
  slot = λ s l p. ap (λ j. j.slot) (put_old w.job (job_at w q (act_of q (StorePiece c o t d))) (r.1.job) s (off s p));
  fresh = λ s l. ap (λ j. j.slot) (put_old w.job (job_at w q (act_of q (StorePiece c o t d))) (r.1.job) s (far s l)) ∙ h.unmade s l;
  call = λ n. (put_same (λ k. k.writer) w.call (target_call (act_of q (StorePiece c o t d))) (r.1.call) n (un.0), put_same (λ k. k.slots) w.call (target_call (act_of q (StorePiece c o t d))) (r.1.call) n (un.1));
  top = tt;
  wrote = λ n y. absurd (cc);
  raised = λ n y. absurd (cc);
  opens = λ s n p k m. absurd (omega (arith, m));
})
  where
    said : (t + 1 ≤ w.jobs) × ((w.job t).kind ≡ PieceOf c o) × (c + 1 ≤ w.calls) × ((w.job t).at ≡ Over d)
    said = top_says w q (StorePiece c o t d) fs ((((h.early).fills).hold).calls) z

    apart : (s : ℕ) → (s ≡ t → ⊥) → (s == job_at w q (act_of q (StorePiece c o t d))) ≡ false
    apart s f = elim (either (s == job_at w q (act_of q (StorePiece c o t d)))) [ inl y ↦ absurd (f (eqb-true s (job_at w q (act_of q (StorePiece c o t d))) y ∙ i)) | inr y ↦ y ]

    off : (s : ℕ) → is_part (w.job s).kind ≡ false → (s == job_at w q (act_of q (StorePiece c o t d))) ≡ false
    off s p = apart s (λ y. (let a : true ≡ false = sym (ap is_part (said.1)) ∙ ap (λ n. is_part (w.job n).kind) (sym y) ∙ p in cc))

    far : (s : ℕ) → w.jobs ≤ s → (s == job_at w q (act_of q (StorePiece c o t d))) ≡ false
    far s l = apart s (λ y. (let a : t + 1 ≤ w.jobs = said.0 in omega (arith, a, l, y)))

pub piece_act : (w : World) (q : Party) (c : ℕ) (o : Party) (t : ℕ) (d : Ending) (fs : List Place) → w.stack q ≡ record { top = StorePiece c o t d; below = fs } → BooksHold w → IfSome (outcome w q (record { top = StorePiece c o t d; below = fs })) (Acts w q (StorePiece c o t d) fs)
piece_act w (Worker a b) c o t d fs z h = piece_by w (Worker a b) c o t d fs _ z h refl (refl, refl)
piece_act w (Caller n) c o t d fs z h = piece_by w (Caller n) c o t d fs _ z h refl (refl, refl)

-- at a place of a spawn into a scope, or of the end of a job of one
raised_top : (u : World) (q : Party) (n : Plan) (c : ℕ) (o : Party) (g : PoolShape) (fs : List Place) (s : Seen) → plan_count n ≡ OfScope c o → AllFrames fs → (u.job (plan_job n)).slot ≡ Closed → AtBook u q ((after_move (next_of g q (RaiseCount n) s) fs).top)
    × ((d : ℕ) → raising ((after_move (next_of g q (RaiseCount n) s) fs).top) ≡ Some d → ⊥)
raised_top u q (Enter e) c o g fs Done k a y = (y, λ d i. cc)
raised_top u q (Feed f) c o g fs Done k a y = (
  subst (λ x. AtState u q (book_of (begin_feed x f))) (sym k) (subst (λ x. AtState u q (open_state x f.job)) (sym k) y),
  λ d i. raises_none f.count d i,
)
  where
    raises_none : (x : Count) (d : ℕ) → raising (begin_feed x f) ≡ Some d → ⊥
    raises_none (OfPool p) d i = cc
    raises_none _ d i = cc
raised_top u q (Detach p t) c o g fs Done k a y = absurd (cc)
raised_top u q (Here p t) c o g fs Done k a y = absurd (cc)
raised_top u q (Send d) c o g fs Done k a y = absurd (cc)
raised_top u q (Fork d t) c o g fs Done k a y = absurd (cc)
raised_top u q (Open d) c o g fs Done k a y = absurd (cc)
raised_top u q (Gather d) c o g fs Done k a y = absurd (cc)
raised_top u q n c o g fs _ k a y = (clear_top u q (HandBack n) fs a tt, λ d i. clear_raises (HandBack n) fs d a tt i)

fresh_closed : (w : World) (q : Party) (k : Count) (t c : ℕ) (o : Party) → k ≡ OfScope c o → AtState w q (fresh_state k t) → (w.job t).slot ≡ Closed
fresh_closed w q k t c o e y = subst (λ x. AtState w q (fresh_state x t)) e y

fresh_none : (k : Count) (t d : ℕ) → holds_book (fresh_state k t) ≡ Some d → ⊥
fresh_none (OfPool p) t d y = cc
fresh_none _ t d y = cc

pub raise_act : (w : World) (q : Party) (n : Plan) (c : ℕ) (o : Party) (fs : List Place) → plan_count n ≡ OfScope c o → w.stack q ≡ record { top = RaiseCount n; below = fs } → BooksHold w → IfSome (outcome w q (record { top = RaiseCount n; below = fs })) (Acts w q (RaiseCount n) fs)
raise_act w q n c o fs k z h = held_act w q (RaiseCount n) fs z h refl refl
    (λ r s b. (raised_top (world_after w q (RaiseCount n) fs r) q n c o g0 fs (r.0) k (below_frames w q (RaiseCount n) fs z h) (s (plan_job n) ∙ closed)).0)
    (λ e d y. absurd (fresh_none (plan_count n) (plan_job n) d y))
    (λ e d i. absurd ((raised_top w q n c o g0 fs e k (below_frames w q (RaiseCount n) fs z h) closed).1 d i))
  where
    g0 : PoolShape
    g0 = w.shape.pool (target_pool q (act_of q (RaiseCount n)))

    closed : (w.job (plan_job n)).slot ≡ Closed
    closed = fresh_closed w q (plan_count n) (plan_job n) c o k (subst (λ v. AtBook w q (v.top)) z (h.at q))

-- a state that stays
looked_top : (u : World) (q : Party) (n : Plan) (g : PoolShape) (fs : List Place) (s : Seen) → AtState u q (hold_state (plan_count n) (plan_job n)) → AtBook u q ((after_move (next_of g q (LookQueue n) s) fs).top)
    × ((writes (LookQueue n) ≡ writes ((after_move (next_of g q (LookQueue n) s) fs).top)) × ((d : ℕ) → raising ((after_move (next_of g q (LookQueue n) s) fs).top) ≡ Some d → ⊥))
looked_top u q n g fs Yes y = (y, (refl, λ d i. cc))
looked_top u q n g fs _ y = (y, (refl, λ d i. cc))

pub look_act : (w : World) (q : Party) (n : Plan) (fs : List Place) → w.stack q ≡ record { top = LookQueue n; below = fs } → BooksHold w → IfSome (outcome w q (record { top = LookQueue n; below = fs })) (Acts w q (LookQueue n) fs)
look_act w q n fs z h = held_act w q (LookQueue n) fs z h refl refl
    (λ r s b. (looked_top (world_after w q (LookQueue n) fs r) q n g0 fs (r.0) (at_kept w (world_after w q (LookQueue n) fs r) q (hold_state (plan_count n) (plan_job n)) (λ t i. s t) (λ c i. b c) here)).0)
    (λ e d y. sym ((looked_top w q n g0 fs e here).1.0) ∙ y)
    (λ e d i. absurd ((looked_top w q n g0 fs e here).1.1 d i))
  where
    g0 : PoolShape
    g0 = w.shape.pool (target_pool q (act_of q (LookQueue n)))

    here : AtState w q (hold_state (plan_count n) (plan_job n))
    here = subst (λ v. AtBook w q (v.top)) z (h.at q)

token_top : (u : World) (q : Party) (f : Feeding) (g : PoolShape) (fs : List Place) (s : Seen) → AtState u q (line_state f.count f.job) → AtBook u q ((after_move (next_of g q (LookForToken f) s) fs).top)
    × ((writes (LookForToken f) ≡ writes ((after_move (next_of g q (LookForToken f) s) fs).top)) × ((d : ℕ) → raising ((after_move (next_of g q (LookForToken f) s) fs).top) ≡ Some d → ⊥))
token_top u q f g fs Yes y = (y, (refl, λ d i. cc))
token_top u q f g fs _ y = (y, (refl, λ d i. cc))

pub token_act : (w : World) (q : Party) (f : Feeding) (fs : List Place) → w.stack q ≡ record { top = LookForToken f; below = fs } → BooksHold w → IfSome (outcome w q (record { top = LookForToken f; below = fs })) (Acts w q (LookForToken f) fs)
token_act w q f fs z h = held_act w q (LookForToken f) fs z h refl refl
    (λ r s b. (token_top (world_after w q (LookForToken f) fs r) q f g0 fs (r.0) (at_kept w (world_after w q (LookForToken f) fs r) q (line_state f.count f.job) (λ t i. s t) (λ c i. b c) here)).0)
    (λ e d y. sym ((token_top w q f g0 fs e here).1.0) ∙ y)
    (λ e d i. absurd ((token_top w q f g0 fs e here).1.1 d i))
  where
    g0 : PoolShape
    g0 = w.shape.pool (target_pool q (act_of q (LookForToken f)))

    here : AtState w q (line_state f.count f.job)
    here = subst (λ v. AtBook w q (v.top)) z (h.at q)

-- a worker adds its job to its list
line_of : (u : World) (q : Party) (k : Count) (t : ℕ) → IsWorker q → AtState u q (hold_state k t) → AtState u q (line_state k t)
line_of u q (OfScope c o) t i y = (y, i)
line_of u q _ t i y = tt

line_writes : (k : Count) (t : ℕ) → holds_book (hold_state k t) ≡ holds_book (line_state k t)
line_writes (OfPool p) t = refl
line_writes _ t = refl

pub close_of : (u : World) (q : Party) (k : Count) (n : Plan) → plan_count n ≡ k → AtState u q (hold_state k (plan_job n)) → AtState u q (book_of (withdraw (count_book k) n))
    × ((holds_book (hold_state k (plan_job n)) ≡ writes (withdraw (count_book k) n)) × ((d : ℕ) → raising (withdraw (count_book k) n) ≡ Some d → ⊥))
close_of u q (OfPool p) n e y = (subst (λ c. AtState u q (shut_state c (plan_job n))) (sym e) tt, (ap (λ c. holds_book (shut_state c (plan_job n))) (sym e), λ d i. cc))
close_of u q (OfScope c o) n e y = (subst (λ k. AtState u q (close_state k (plan_job n))) (sym e) y, (ap (λ k. holds_book (close_state k (plan_job n))) (sym e), λ d i. cc))
close_of u q (OfCast c o) n e y = (subst (λ c. AtState u q (shut_state c (plan_job n))) (sym e) tt, (ap (λ c. holds_book (shut_state c (plan_job n))) (sym e), λ d i. cc))

added_top : (u : World) (q : Party) (f : Feeding) (g : PoolShape) (fs : List Place) (s : Seen) → IsWorker q → AtState u q (hold_state f.count f.job) → AtBook u q ((after_move (next_of g q (AddToFifo f) s) fs).top)
    × ((writes (AddToFifo f) ≡ writes ((after_move (next_of g q (AddToFifo f) s) fs).top)) × ((d : ℕ) → raising ((after_move (next_of g q (AddToFifo f) s) fs).top) ≡ Some d → ⊥))
added_top u q f g fs Done i y = (line_of u q f.count f.job i y, (line_writes f.count f.job, λ d i. cc))
added_top u q f g fs _ i y = close_of u q f.count (Feed f) refl y

pub add_act : (w : World) (q : Party) (f : Feeding) (fs : List Place) → w.stack q ≡ record { top = AddToFifo f; below = fs } → BooksHold w → IfSome (outcome w q (record { top = AddToFifo f; below = fs })) (Acts w q (AddToFifo f) fs)
add_act w (Caller n) f fs z h = tt
add_act w (Worker a b) f fs z h = held_act w (Worker a b) (AddToFifo f) fs z h refl refl
    (λ r s c. (added_top (world_after w (Worker a b) (AddToFifo f) fs r) (Worker a b) f g0 fs (r.0) (a, (b, refl)) (at_kept w (world_after w (Worker a b) (AddToFifo f) fs r) (Worker a b) (hold_state f.count f.job) (λ t i. s t) (λ n i. c n) here)).0)
    (λ e d y. sym ((added_top w (Worker a b) f g0 fs e (a, (b, refl)) here).1.0) ∙ y)
    (λ e d i. absurd ((added_top w (Worker a b) f g0 fs e (a, (b, refl)) here).1.1 d i))
  where
    g0 : PoolShape
    g0 = w.shape.pool (target_pool (Worker a b) (act_of (Worker a b) (AddToFifo f)))

    here : AtState w (Worker a b) (hold_state f.count f.job)
    here = subst (λ v. AtBook w (Worker a b) (v.top)) z (h.at (Worker a b))

-- and takes it back
hold_of : (u : World) (q : Party) (k : Count) (t : ℕ) → AtState u q (line_state k t) → AtState u q (hold_state k t)
hold_of u q (OfScope c o) t y = y.0
hold_of u q _ t y = tt

retaken_top : (u : World) (q : Party) (f : Feeding) (g : PoolShape) (fs : List Place) → AtState u q (hold_state f.count f.job) → AtBook u q ((after_move (next_of g q (TakeFromFifo f) (Task (Plain f.job))) fs).top)
    × ((holds_book (hold_state f.count f.job) ≡ writes ((after_move (next_of g q (TakeFromFifo f) (Task (Plain f.job))) fs).top)) × ((d : ℕ) → raising ((after_move (next_of g q (TakeFromFifo f) (Task (Plain f.job))) fs).top) ≡ Some d → ⊥))
retaken_top u q f g fs y = close_of u q f.count (Feed f) refl y

pub retake_act : (w : World) (q : Party) (f : Feeding) (fs : List Place) → w.stack q ≡ record { top = TakeFromFifo f; below = fs } → BooksHold w → IfSome (outcome w q (record { top = TakeFromFifo f; below = fs })) (Acts w q (TakeFromFifo f) fs)
retake_act w (Caller n) f fs z h = tt
retake_act w (Worker a b) f fs z h = if_some_map (λ r. Unbooked (place_part w (Worker a b) (TakeFromFifo f)) r × (r.0 ≡ Task (Plain f.job))) (Acts w (Worker a b) (TakeFromFifo f) fs) (λ r y. taken r (y.0) (y.1)) (outcome w (Worker a b) (record { top = TakeFromFifo f; below = fs }))
    (if_some_and (Unbooked (place_part w (Worker a b) (TakeFromFifo f))) (λ r. r.0 ≡ Task (Plain f.job)) (outcome w (Worker a b) (record { top = TakeFromFifo f; below = fs })) (act_unbooked w.shape (Worker a b) (counts_at w a) (place_part w (Worker a b) (TakeFromFifo f)) (TakeFromFifo f) refl)
    (subst (λ o. IfSome (if is_open (Worker a b) ((w.seat a b).feeder (count_book f.count)) then fifo_back (Worker a b) (place_part w (Worker a b) (TakeFromFifo f)) (count_book f.count) o else None) (λ r. r.0 ≡ Task (Plain f.job))) (sym last)
    (if_cond (λ (r : Seen × Part). r.0 ≡ Task (Plain f.job)) (is_open (Worker a b) ((w.seat a b).feeder (count_book f.count))) _ (λ o. refl))))
  where
    last : last_of ((w.seat a b).fifo (count_book f.count)) ≡ Some f.job
    last = ((h.feeders).feeds a b f (ap (λ s. waits (s.top)) z)).1

    here : AtState w (Worker a b) (hold_state f.count f.job)
    here = hold_of w (Worker a b) f.count f.job (subst (λ v. AtBook w (Worker a b) (v.top)) z (h.at (Worker a b)))

    g0 : PoolShape
    g0 = w.shape.pool (target_pool (Worker a b) (act_of (Worker a b) (TakeFromFifo f)))

    taken : (r : Seen × Part) → Unbooked (place_part w (Worker a b) (TakeFromFifo f)) r → r.0 ≡ Task (Plain f.job) → Acts w (Worker a b) (TakeFromFifo f) fs r
    taken r un i = quiet_act w (Worker a b) (TakeFromFifo f) fs r z h (record {
      slot = λ t l p. same_slot w (Worker a b) (TakeFromFifo f) fs r refl un t;
      fresh = λ t l. same_slot w (Worker a b) (TakeFromFifo f) fs r refl un t ∙ h.unmade t l;
      call = same_book w (Worker a b) (TakeFromFifo f) fs r un;
      top = subst (λ e. AtBook (world_after w (Worker a b) (TakeFromFifo f) fs r) (Worker a b) ((after_move (next_of g0 (Worker a b) (TakeFromFifo f) e) fs).top)) (sym i)
          ((retaken_top (world_after w (Worker a b) (TakeFromFifo f) fs r) (Worker a b) f g0 fs
          (at_kept w (world_after w (Worker a b) (TakeFromFifo f) fs r) (Worker a b) (hold_state f.count f.job) (λ t j. same_slot w (Worker a b) (TakeFromFifo f) fs r refl un t) (λ c j. same_book w (Worker a b) (TakeFromFifo f) fs r un c) here)).0);
      wrote = λ c y. subst (λ e. writes ((after_move (next_of g0 (Worker a b) (TakeFromFifo f) e) fs).top) ≡ Some c) (sym i) (sym ((retaken_top w (Worker a b) f g0 fs here).1.0) ∙ line_writes f.count f.job ∙ y);
      raised = λ c y. absurd ((retaken_top w (Worker a b) f g0 fs here).1.1 c (ap (λ e. raising ((after_move (next_of g0 (Worker a b) (TakeFromFifo f) e) fs).top)) (sym i) ∙ y));
      opens = λ t c o k m. absurd (omega (arith, m));
    })

-- the share of a job goes back, and those of pieces come and go
shut_none : (k : Count) (t d : ℕ) → holds_book (shut_state k t) ≡ Some d → ⊥
shut_none (OfPool p) t d y = cc
shut_none _ t d y = cc

pub lower_act : (w : World) (q : Party) (k : Count) (t : ℕ) (n : Then) (fs : List Place) → w.stack q ≡ record { top = LowerCount k (OfJob t) n; below = fs } → BooksHold w → IfSome (outcome w q (record { top = LowerCount k (OfJob t) n; below = fs })) (Acts w q (LowerCount k (OfJob t) n) fs)
lower_act w q k t n fs z h = clear_act w q (LowerCount k (OfJob t) n) fs z h refl refl (λ e. lower_clear (w.shape.pool (target_pool q (act_of q (LowerCount k (OfJob t) n)))) q k (OfJob t) n e) (λ c y. shut_none k t c y)

shut_all_none : (k : Count) (b : Pieces) (d : ℕ) → holds_book (shut_all k b) ≡ Some d → ⊥
shut_all_none (OfPool p) b d y = cc
shut_all_none _ b d y = cc

pub lower_all_act : (w : World) (q : Party) (b : Pieces) (fs : List Place) → w.stack q ≡ record { top = LowerForAll b; below = fs } → BooksHold w → IfSome (outcome w q (record { top = LowerForAll b; below = fs })) (Acts w q (LowerForAll b) fs)
lower_all_act w q b fs z h = clear_act w q (LowerForAll b) fs z h refl refl (λ e. lower_all_clear (w.shape.pool (target_pool q (act_of q (LowerForAll b)))) q b e) (λ c y. shut_all_none b.count b c y)

fresh_all_none : (k : Count) (b : Pieces) (d : ℕ) → holds_book (fresh_all k b) ≡ Some d → ⊥
fresh_all_none (OfPool p) b d y = cc
fresh_all_none _ b d y = cc

begun_of : (u : World) (q : Party) (k : Count) (b : Pieces) → b.count ≡ k → AtState u q (fresh_all k b) → AtState u q (book_of (begin_cast k b)) × ((d : ℕ) → raising (begin_cast k b) ≡ Some d → scope_count b.count ≡ Some d)
begun_of u q (OfPool p) b e y = (subst (λ c. AtState u q (hold_all c b)) (sym e) tt, λ d i. i)
begun_of u q (OfScope c o) b e y = (subst (λ c. AtState u q (open_all c b)) (sym e) y, λ d i. i)
begun_of u q (OfCast c o) b e y = (subst (λ c. AtState u q (hold_all c b)) (sym e) tt, λ d i. i)

all_raised_top : (u : World) (q : Party) (b : Pieces) (g : PoolShape) (fs : List Place) (s : Seen) → AllFrames fs → ((d : ℕ) → scope_count b.count ≡ Some d → holds_in d fs ≡ true) → AtState u q (fresh_all b.count b) → AtBook u q ((after_move (next_of g q (RaiseForAll b) s) fs).top)
    × ((d : ℕ) → raising ((after_move (next_of g q (RaiseForAll b) s) fs).top) ≡ Some d → holds_in d ((after_move (next_of g q (RaiseForAll b) s) fs).below) ≡ true)
all_raised_top u q b g fs Done a k y = ((begun_of u q b.count b refl y).0, λ d i. k d ((begun_of u q b.count b refl y).1 d i))
all_raised_top u q b g fs _ a k y = (clear_top u q (HandAllBack b) fs a tt, λ d i. absurd (clear_raises (HandAllBack b) fs d a tt i))

pub raise_all_act : (w : World) (q : Party) (b : Pieces) (fs : List Place) → w.stack q ≡ record { top = RaiseForAll b; below = fs } → BooksHold w → IfSome (outcome w q (record { top = RaiseForAll b; below = fs })) (Acts w q (RaiseForAll b) fs)
raise_all_act w q b fs z h = held_act w q (RaiseForAll b) fs z h refl refl
    (λ r s c. (all_raised_top (world_after w q (RaiseForAll b) fs r) q b g0 fs (r.0) (below_frames w q (RaiseForAll b) fs z h) inside (at_kept w (world_after w q (RaiseForAll b) fs r) q (fresh_all b.count b) (λ t i. s t) (λ n i. c n) here)).0)
    (λ e d y. absurd (fresh_all_none b.count b d y))
    (λ e d i. (all_raised_top w q b g0 fs e (below_frames w q (RaiseForAll b) fs z h) inside here).1 d i)
  where
    g0 : PoolShape
    g0 = w.shape.pool (target_pool q (act_of q (RaiseForAll b)))

    inside : (d : ℕ) → scope_count b.count ≡ Some d → holds_in d fs ≡ true
    inside d i = ap (λ s. holds_in d (s.below)) (sym z) ∙ h.enters q d (ap (λ s. raising (s.top)) z ∙ i)

    here : AtState w q (fresh_all b.count b)
    here = subst (λ v. AtBook w q (v.top)) z (h.at q)
