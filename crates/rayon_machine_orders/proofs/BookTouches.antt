-- the acts on the book of a scope: numbers are opened, taken back or filled, and a push leaves the book
use Rattle.std.proofs.Common.{arith, refl, sym, ◌∙◌, ap, subst, inl, inr}
use Rattle.rayon_machine_orders.proofs.Words.{eqb-true, eq-eqb, ltb-true, ltb-false, ltb, ℕ, Bool, true, false, ◌+◌, ◌-◌, ◌==◌, ◌≤◌, ◌<◌, if◌then◌else◌, Option, Some, None, List, ◌≡◌, ◌⊎◌, IfSome, Party, Worker, Caller, Ending, Scoped, Count, OfPool, OfScope, OfCast, PoolValue, OfJob, Body}
use Rattle.rayon_machine_orders.proofs.Words.{Pieces, Feeding, Plan, Detach, Here, Send, Fork, Feed, Open, Enter, Gather, Numbered, Queued, Unnumbered, Resume, Place, RaiseCount, GrowCall, LookQueue, PushJob, TellNews, LowerCount, OpenSlot, CloseSlot, StoreSlot, StorePiece, AddToFifo}
use Rattle.rayon_machine_orders.proofs.Words.{LookForToken, PushToken, TakeFromFifo, RaiseForAll, OpenForAll, PushForAll, CloseForAll, LowerForAll, DealPieces, Act, PushOwn, PushInj, Done, Job, Call, Slot, Closed, IsOpen, Filled, Whereabouts, InDeque, Injected, Over, own_pool, own_index}
use Rattle.rayon_machine_orders.proofs.Words.{is_member, undo, same_party, plan_job, plan_count, plan_pool, count_call, count_book, after_slot, call_all, count_kind, World, counts_at, target_pool, target_worker, target_call, effect, filled, is_open, left_by, left_book, at_job, first_fault, put}
use Rattle.rayon_machine_orders.proofs.Words.{put_stack, put_pieces, part_of, after, is_piece, marked, mark_pieces, holds_in, one, share, shares_in, shares, is_busy}
use Rattle.rayon_machine_laws.proofs.Frame.{either, if_some_map, if_cond, put_same, put_new, put_old, stack_mine, stack_other, same_party_true, same_party_refl, piece_new, piece_old, piece_range, piece_in}
use Rattle.rayon_machine_laws.proofs.Ties.{job_at, outcome}
use Rattle.rayon_machine_laws.proofs.Claims.{SaysPlan, SaysCast, KnownCount, Tied, queue_plan}
use Rattle.rayon_machine_laws.proofs.ClaimRuns.{CallsHold, top_says, world_after}
use Rattle.rayon_machine_laws.proofs.Amounts.{pushed}
use Rattle.rayon_machine_laws.proofs.ShareActs.{with_job, one_is}
use Rattle.rayon_machine_laws.proofs.ShareSteps.{plan_made}
use Rattle.rayon_machine_orders.proofs.EarlyStates.{EarlyHold}
use Rattle.rayon_machine_orders.proofs.Takes.{number_is}
use Rattle.rayon_machine_orders.proofs.BookStates.{is_nothing, fresh_state, open_state, hold_state, line_state, close_state, shut_state, grow_state, open_all, hold_all, close_all, shut_all, slot_says, plan_scoped, plan_tied, holds_book, book_free, free_at, free_raising}
use Rattle.rayon_machine_orders.proofs.Books.{slot_number, is_unfilled, writes, book_of, AtBook, AtState, raising, Written, WrittenAll, BooksHold, Touched, touched_books}
use Rattle.rayon_machine_orders.proofs.BookMoves.{plan_book_is}
use Rattle.rayon_machine_orders.proofs.BookActs.{Acts, was_busy, free_act, raise_act, look_act, token_act, add_act, retake_act, lower_act, lower_all_act, raise_all_act, deal_act, piece_act}
use Rattle.rayon_machine_laws.proofs.Feeders.{FeedersHold}

-- such an act, by what it makes of the call, and where it leads
touch : (w u : World) (q : Party) (D : ℕ → Bool) (c0 : ℕ) (owner : Party) (x y : Place) (fs : List Place) (k : Call) → w.stack q ≡ record { top = x; below = fs } → c0 + 1 ≤ w.calls → ((t : ℕ) → D t ≡ true → (t + 1 ≤ w.jobs) × ((w.job t).kind ≡ Scoped c0 owner)) → u.jobs ≡ w.jobs
    → u.calls ≡ w.calls →
    ((r : Party) → u.stack r ≡ put_stack w.stack q (record { top = y; below = fs }) r) → ((t : ℕ) → (u.job t).kind ≡ (w.job t).kind) → ((t : ℕ) → D t ≡ false → (u.job t).slot ≡ (w.job t).slot) → ((c : ℕ) → u.call c ≡ put w.call c0 k c) → ((t : ℕ) → (u.job t).counted ≡ (w.job t).counted)
    → ((t : ℕ) → D t ≡ true → 1 ≤ share t x) → is_open q (w.call c0).writer ≡ true →
    AtBook u q y → ((r : Party) → k.writer ≡ Some r → (r ≡ q) × (writes y ≡ Some c0)) → ((c : ℕ) → (c == c0) ≡ false → writes x ≡ Some c → ⊥) → ((t n : ℕ) → D t ≡ true → slot_number (u.job t).slot ≡ Some n → (n + 1 ≤ k.slots) × ((slot_number (w.job t).slot ≡ Some n) ⊎ ((w.call c0).slots ≤ n))) →
    ((t s n : ℕ) → D t ≡ true → D s ≡ true → slot_number (u.job t).slot ≡ Some n → slot_number (u.job s).slot ≡ Some n → t ≡ s) → ((n : ℕ) → n + 1 ≤ (w.call c0).slots → (n + 1 ≤ k.slots) ⊎ ((t : ℕ) × ((D t ≡ true) × (slot_number (w.job t).slot ≡ Some n)))) →
    ((t n : ℕ) → D t ≡ true → slot_number (w.job t).slot ≡ Some n → n + 1 ≤ k.slots → slot_number (u.job t).slot ≡ Some n) → ((n : ℕ) → (w.call c0).slots ≤ n → n + 1 ≤ k.slots → (t : ℕ) × ((D t ≡ true) × (slot_number (u.job t).slot ≡ Some n))) →
    ((t : ℕ) → t + 1 ≤ w.jobs → (c : ℕ) (o : Party) → (w.job t).kind ≡ Scoped c o → is_busy (u.job t).at ≡ true → (is_busy (w.job t).at ≡ true) ⊎ (is_unfilled (u.job t).slot ≡ true)) → ((c : ℕ) → raising y ≡ Some c → holds_in c fs ≡ true) → Touched w u q D c0
touch w u q D c0 owner x y fs k z known named ju cu S kind slot C counted has able top holder wrote number sole room kept given busy raised = record {
  owner = owner;
  known = known;
  named = named;
  jobs = ju;
  calls = cu;
  stack = λ r d. S r ∙ stack_other w.stack q (record { top = y; below = fs }) r d;
  kind = kind;
  slot = slot;
  call = λ c d. (ap (λ j. j.writer) (C c ∙ put_old w.call c0 k c d), ap (λ j. j.slots) (C c ∙ put_old w.call c0 k c d));
  counted = counted;
  has = λ t d. (let a : shares t (w.stack q) ≡ (share t x + shares_in t fs) = ap (shares t) z in let b : 1 ≤ share t x = has t d in omega (arith, a, b));
  able = able;
  top = subst (λ s. AtBook u q s.top) (sym mine) top;
  holder = λ r e. (let d : (r ≡ q) × (writes y ≡ Some c0) = holder r (ap (λ j. j.writer) (sym call) ∙ e) in (d.0, ap (λ s. writes (s.top)) mine ∙ d.1));
  wrote = λ c d e. wrote c d (ap (λ s. writes (s.top)) (sym z) ∙ e);
  number = λ t n d e. subst (λ i. (n + 1 ≤ i.slots) × ((slot_number (w.job t).slot ≡ Some n) ⊎ ((w.call c0).slots ≤ n))) (sym call) (number t n d e);
  sole = sole;
  room = λ n l. subst (λ i. (n + 1 ≤ i.slots) ⊎ ((t : ℕ) × ((D t ≡ true) × (slot_number (w.job t).slot ≡ Some n)))) (sym call) (room n l);
  kept = λ t n d e l. kept t n d e (subst (λ i. n + 1 ≤ i.slots) call l);
  given = λ n l m. given n l (subst (λ i. n + 1 ≤ i.slots) call m);
  busy = busy;
  raised = λ c i. ap (λ s. holds_in c (s.below)) mine ∙ raised c (ap (λ s. raising (s.top)) (sym mine) ∙ i);
}
  where
    mine : u.stack q ≡ record { top = y; below = fs }
    mine = S q ∙ stack_mine w.stack q (record { top = y; below = fs })

    call : u.call c0 ≡ k
    call = C c0 ∙ put_new w.call c0 k

-- what is busy after such an act
busy_by : (w u : World) (n : ℕ → ℕ) → ((t : ℕ) → (u.job t).kind ≡ (w.job t).kind) → ((t : ℕ) → with_job (u.job t) ≤ with_job (w.job t) + n t) → ((t c : ℕ) (o : Party) → (w.job t).kind ≡ Scoped c o → 1 ≤ n t → is_unfilled (u.job t).slot ≡ true) → (t : ℕ) → t + 1 ≤ w.jobs
    → (c : ℕ) (o : Party) → (w.job t).kind ≡ Scoped c o → is_busy (u.job t).at ≡ true → (is_busy (w.job t).at ≡ true) ⊎ (is_unfilled (u.job t).slot ≡ true)
busy_by w u n kind le opens t l c o k b = elim (was_busy (w.job t) (u.job t) c o (n t) k (kind t) (le t) b) [ inl a ↦ inl a | inr a ↦ inr (opens t c o k a) ]

none_open : (w u : World) (t c : ℕ) (o : Party) → (w.job t).kind ≡ Scoped c o → 1 ≤ 0 → is_unfilled (u.job t).slot ≡ true
none_open w u t c o k m = absurd (omega (arith, m))

only : (a c : ℕ) → (c == a) ≡ false → Some a ≡ Some c → ⊥
only a c d e = let i : (c == a) ≡ true = eq-eqb c a (sym (number_is a c e)) in let z : true ≡ false = sym i ∙ d in cc

calls_of : (w : World) → BooksHold w → CallsHold w
calls_of w h = (((h.early).fills).hold).calls

-- a call's count, by its own number
own_count : (k : Count) (c : ℕ) (o : Party) → k ≡ OfScope c o → k ≡ OfScope (count_call k) o
own_count k c o e = e ∙ ap (λ n. OfScope n o) (sym (ap count_call e))

slotted_state : (n : Plan) → book_of (after_slot n) ≡ hold_state (plan_count n) (plan_job n)
slotted_state (Detach p t) = refl
slotted_state _ = refl

slotted_raises : (n : Plan) (d : ℕ) → raising (after_slot n) ≡ Some d → ⊥
slotted_raises (Detach p t) d i = cc
slotted_raises _ d i = cc

-- a number is opened
opened : (w u : World) (q : Party) (n : Plan) (o : Party) (fs : List Place) → plan_count n ≡ OfScope (count_call (plan_count n)) o → w.stack q ≡ record { top = OpenSlot n; below = fs } → BooksHold w → is_open q (w.call (count_call (plan_count n))).writer ≡ true → u.jobs ≡ w.jobs
    → u.calls ≡ w.calls →
    ((r : Party) → u.stack r ≡ put_stack w.stack q (record { top = after_slot n; below = fs }) r) → ((t : ℕ) → u.job t ≡ put w.job (plan_job n) (record (w.job (plan_job n)) { slot = IsOpen (w.call (count_call (plan_count n))).slots }) t) →
    ((c : ℕ) → u.call c ≡ put w.call (count_call (plan_count n)) (record (w.call (count_call (plan_count n))) { slots = (w.call (count_call (plan_count n))).slots + 1; writer = Some q }) c) → ((t : ℕ) → with_job (u.job t) ≤ with_job (w.job t) + 0) → Touched w u q (λ t. t == plan_job n)
    (count_call (plan_count n))
opened w u q n o fs k z h able ju cu S J C le = touch w u q (λ t. t == t0) c0 o (OpenSlot n) (after_slot n) fs call z (tied.number) named ju cu S kind (λ t d. ap (λ j. j.slot) (J t ∙ put_old w.job t0 v t d)) C (λ t. ap (λ j. j.counted) (J t) ∙ put_same (λ j. j.counted) w.job t0 v t refl)
    (λ t d. (let a : one (t == t0) ≡ 1 = ap one d in omega (arith, a))) able
    (subst (AtState u q) (sym state) (record { writer = ap (λ j. j.writer) now; number = (w.call c0).slots; slot = mine; last = sym (ap (λ j. j.slots) now) }))
    (λ r y. ((let a : Some q ≡ Some r = y in cc), ap holds_book state))
    (λ c d y. open_none (plan_count n) t0 c y)
    (λ t i d y. (let e : (w.call c0).slots ≡ i = number_is ((w.call c0).slots) i (sym (ap slot_number (ap (λ m. (u.job m).slot) (eqb-true t t0 d) ∙ mine)) ∙ y) in (omega (arith, e), inr (omega (arith, e)))))
    (λ t s i d f y x. eqb-true t t0 d ∙ sym (eqb-true s t0 f))
    (λ i l. inl (omega (arith, l)))
    (λ t i d y l. absurd (let a : slot_number (w.job t).slot ≡ None = ap slot_number (ap (λ m. (w.job m).slot) (eqb-true t t0 d) ∙ fresh) in let b : Some i ≡ None = sym y ∙ a in cc))
    (λ i l m. (t0, (eq-eqb t0 t0 refl, ap slot_number mine ∙ ap Some (let e : (w.call c0).slots ≡ i = omega (arith, l, m) in e))))
    (busy_by w u (λ t. 0) kind le (none_open w u))
    (λ c i. absurd (slotted_raises n c i))
  where
    c0 : ℕ
    c0 = count_call (plan_count n)

    t0 : ℕ
    t0 = plan_job n

    v : Job
    v = record (w.job t0) { slot = IsOpen (w.call c0).slots }

    call : Call
    call = record (w.call c0) { slots = (w.call c0).slots + 1; writer = Some q }

    said : SaysPlan w q n
    said = slot_says w q n (top_says w q (OpenSlot n) fs (calls_of w h) z)

    tied : Tied w c0 o
    tied = plan_tied w q n c0 o said k

    named : (t : ℕ) → (t == t0) ≡ true → (t + 1 ≤ w.jobs) × ((w.job t).kind ≡ Scoped c0 o)
    named t d = subst (λ i. (i + 1 ≤ w.jobs) × ((w.job i).kind ≡ Scoped c0 o)) (sym (eqb-true t t0 d)) (book_job said, plan_scoped w q n c0 o said k)
      where
        book_job : SaysPlan w q n → t0 + 1 ≤ w.jobs
        book_job s = (plan_made w q n s).0

    kind : (t : ℕ) → (u.job t).kind ≡ (w.job t).kind
    kind t = ap (λ j. j.kind) (J t) ∙ put_same (λ j. j.kind) w.job t0 v t refl

    now : u.call c0 ≡ call
    now = C c0 ∙ put_new w.call c0 call

    mine : (u.job t0).slot ≡ IsOpen (w.call c0).slots
    mine = ap (λ j. j.slot) (J t0 ∙ put_new w.job t0 v)

    state : book_of (after_slot n) ≡ hold_state (OfScope c0 o) t0
    state = slotted_state n ∙ ap (λ i. hold_state i t0) k

    fresh : (w.job t0).slot ≡ Closed
    fresh = subst (λ i. AtState w q (open_state i t0)) k (subst (λ s. AtBook w q (s.top)) z (h.at q))

    open_none : (i : Count) (t c : ℕ) → holds_book (open_state i t) ≡ Some c → ⊥
    open_none (OfPool p) t c y = cc
    open_none _ t c y = cc

-- and taken back
unopened : (w u : World) (q : Party) (n : Plan) (o : Party) (fs : List Place) → plan_count n ≡ OfScope (count_call (plan_count n)) o → w.stack q ≡ record { top = CloseSlot n; below = fs } → BooksHold w → is_open q (w.call (count_call (plan_count n))).writer ≡ true → u.jobs ≡ w.jobs
    → u.calls ≡ w.calls →
    ((r : Party) → u.stack r ≡ put_stack w.stack q (record { top = undo n; below = fs }) r) → ((t : ℕ) → u.job t ≡ put w.job (plan_job n) (record (w.job (plan_job n)) { slot = Closed }) t) →
    ((c : ℕ) → u.call c ≡ put w.call (count_call (plan_count n)) (record (w.call (count_call (plan_count n))) { slots = (w.call (count_call (plan_count n))).slots - 1; writer = None }) c) → ((t : ℕ) → with_job (u.job t) ≤ with_job (w.job t) + 0) → Touched w u q (λ t. t == plan_job n)
    (count_call (plan_count n))
unopened w u q n o fs k z h able ju cu S J C le = touch w u q (λ t. t == t0) c0 o (CloseSlot n) (undo n) fs call z (tied.number) named ju cu S kind (λ t d. ap (λ j. j.slot) (J t ∙ put_old w.job t0 v t d)) C (λ t. ap (λ j. j.counted) (J t) ∙ put_same (λ j. j.counted) w.job t0 v t refl)
    (λ t d. (let a : one (t == t0) ≡ 1 = ap one d in omega (arith, a))) able
    (subst (λ i. AtState u q (shut_state i t0)) (sym k) (ap is_unfilled mine))
    (λ r y. absurd (cc))
    (λ c d y. only c0 c d (ap holds_book (ap (λ i. close_state i t0) (sym k)) ∙ y))
    (λ t i d y. absurd (let a : slot_number (u.job t).slot ≡ None = ap slot_number (ap (λ m. (u.job m).slot) (eqb-true t t0 d) ∙ mine) in let b : Some i ≡ None = sym y ∙ a in cc))
    (λ t s i d f y x. eqb-true t t0 d ∙ sym (eqb-true s t0 f))
    room
    (λ t i d y l. absurd (let e : at.number ≡ i = number_is at.number i (sym (ap slot_number (ap (λ m. (w.job m).slot) (eqb-true t t0 d) ∙ at.slot)) ∙ y) in let f : at.number + 1 ≡ (w.call c0).slots = at.last in omega (arith, e, f, l)))
    (λ i l m. absurd (omega (arith, l, m)))
    (busy_by w u (λ t. 0) kind le (none_open w u))
    (λ c i. absurd (cc))
  where
    c0 : ℕ
    c0 = count_call (plan_count n)

    t0 : ℕ
    t0 = plan_job n

    v : Job
    v = record (w.job t0) { slot = Closed }

    call : Call
    call = record (w.call c0) { slots = (w.call c0).slots - 1; writer = None }

    said : SaysPlan w q n
    said = slot_says w q n (top_says w q (CloseSlot n) fs (calls_of w h) z)

    tied : Tied w c0 o
    tied = plan_tied w q n c0 o said k

    named : (t : ℕ) → (t == t0) ≡ true → (t + 1 ≤ w.jobs) × ((w.job t).kind ≡ Scoped c0 o)
    named t d = subst (λ i. (i + 1 ≤ w.jobs) × ((w.job i).kind ≡ Scoped c0 o)) (sym (eqb-true t t0 d)) ((plan_made w q n said).0, plan_scoped w q n c0 o said k)

    kind : (t : ℕ) → (u.job t).kind ≡ (w.job t).kind
    kind t = ap (λ j. j.kind) (J t) ∙ put_same (λ j. j.kind) w.job t0 v t refl

    mine : (u.job t0).slot ≡ Closed
    mine = ap (λ j. j.slot) (J t0 ∙ put_new w.job t0 v)

    at : Written w q c0 t0
    at = subst (λ i. AtState w q (close_state i t0)) k (subst (λ s. AtBook w q (s.top)) z (h.at q))

    room : (i : ℕ) → i + 1 ≤ (w.call c0).slots → (i + 1 ≤ (w.call c0).slots - 1) ⊎ ((t : ℕ) × (((t == t0) ≡ true) × (slot_number (w.job t).slot ≡ Some i)))
    room i l = let a : at.number + 1 ≡ (w.call c0).slots = at.last in elim (either (ltb i at.number)) [
      | inl y ↦ inl (let b : i < at.number = ltb-true i at.number y in omega (arith, a, b))
      | inr y ↦ inr (t0, (eq-eqb t0 t0 refl, ap slot_number at.slot ∙ ap Some (let b : at.number ≤ i = ltb-false i at.number y in let e : at.number ≡ i = omega (arith, a, b, l) in e)))
    ]

-- and filled
filled_shut : (s : Slot) → is_unfilled (filled s) ≡ false
filled_shut Closed = refl
filled_shut _ = refl

filled_number : (s : Slot) → slot_number (filled s) ≡ slot_number s
filled_number Closed = refl
filled_number _ = refl

stored : (w u : World) (q : Party) (c : ℕ) (o : Party) (t : ℕ) (d : Ending) (fs : List Place) → w.stack q ≡ record { top = StoreSlot c o t d; below = fs } → BooksHold w → is_open q (w.call c).writer ≡ true → u.jobs ≡ w.jobs → u.calls ≡ w.calls →
    ((r : Party) → u.stack r ≡ put_stack w.stack q (record { top = LowerCount (OfScope c o) (OfJob t) Resume; below = fs }) r) → ((n : ℕ) → u.job n ≡ put w.job t (record (w.job t) { slot = filled (w.job t).slot }) n) →
    ((n : ℕ) → u.call n ≡ put w.call c (record (w.call c) { fault = first_fault (w.call c).fault t d }) n) → ((n : ℕ) → with_job (u.job n) ≤ with_job (w.job n) + 0) → Touched w u q (λ n. n == t) c
stored w u q c o t d fs z h able ju cu S J C le = touch w u q (λ n. n == t) c o (StoreSlot c o t d) (LowerCount (OfScope c o) (OfJob t) Resume) fs k z (said.2) named ju cu S kind (λ n e. ap (λ j. j.slot) (J n ∙ put_old w.job t v n e)) C
    (λ n. ap (λ j. j.counted) (J n) ∙ put_same (λ j. j.counted) w.job t v n refl)
    (λ n e. (let a : one (n == t) ≡ 1 = ap one e in omega (arith, a))) able
    (ap is_unfilled mine ∙ filled_shut ((w.job t).slot))
    (λ r y. absurd (unheld r y))
    (λ n i y. absurd (cc))
    (λ n i e y. (let f : slot_number (w.job t).slot ≡ Some i = sym (filled_number ((w.job t).slot)) ∙ ap slot_number (sym mine) ∙ ap (λ m. slot_number (u.job m).slot) (sym (eqb-true n t e)) ∙ y in
    (h.below t (said.0) c o i (said.1) f, inl (ap (λ m. slot_number (w.job m).slot) (eqb-true n t e) ∙ f))))
    (λ n s i e f y x. eqb-true n t e ∙ sym (eqb-true s t f))
    (λ i l. inl l)
    (λ n i e y l. ap (λ m. slot_number (u.job m).slot) (eqb-true n t e) ∙ ap slot_number mine ∙ filled_number ((w.job t).slot) ∙ ap (λ m. slot_number (w.job m).slot) (sym (eqb-true n t e)) ∙ y)
    (λ i l m. absurd (omega (arith, l, m)))
    (busy_by w u (λ n. 0) kind le (none_open w u))
    (λ n i. absurd (cc))
  where
    v : Job
    v = record (w.job t) { slot = filled (w.job t).slot }

    k : Call
    k = record (w.call c) { fault = first_fault (w.call c).fault t d }

    said : (t + 1 ≤ w.jobs) × ((w.job t).kind ≡ Scoped c o) × (c + 1 ≤ w.calls) × ((w.job t).at ≡ Over d)
    said = top_says w q (StoreSlot c o t d) fs (calls_of w h) z

    named : (n : ℕ) → (n == t) ≡ true → (n + 1 ≤ w.jobs) × ((w.job n).kind ≡ Scoped c o)
    named n e = subst (λ i. (i + 1 ≤ w.jobs) × ((w.job i).kind ≡ Scoped c o)) (sym (eqb-true n t e)) (said.0, said.1)

    kind : (n : ℕ) → (u.job n).kind ≡ (w.job n).kind
    kind n = ap (λ j. j.kind) (J n) ∙ put_same (λ j. j.kind) w.job t v n refl

    mine : (u.job t).slot ≡ filled (w.job t).slot
    mine = ap (λ j. j.slot) (J t ∙ put_new w.job t v)

    unheld : (r : Party) → (w.call c).writer ≡ Some r → ⊥
    unheld r y =
        let a : is_open q (w.call c).writer ≡ same_party q r = ap (is_open q) y in
        let b : q ≡ r = same_party_true q r (sym a ∙ able) in
        let e : writes (w.stack q).top ≡ Some c = ap (λ s. writes (w.stack s).top) b ∙ h.held c r y in
        let f : writes (w.stack q).top ≡ None = ap (λ s. writes (s.top)) z in let g : Some c ≡ None = sym e ∙ f in cc

-- a push leaves the book
left_own : (q : Party) (o : Option Party) → o ≡ Some q → left_by q o ≡ None
left_own q o e = subst (λ v. left_by q v ≡ None) (sym e) (let a : same_party q q ≡ true = same_party_refl q in rw a refl)

left_at : (w u : World) (q : Party) (c0 : ℕ) (x y : Place) (fs : List Place) (k : Call) → w.stack q ≡ record { top = x; below = fs } → c0 + 1 ≤ w.calls → u.jobs ≡ w.jobs → u.calls ≡ w.calls → ((r : Party) → u.stack r ≡ put_stack w.stack q (record { top = y; below = fs }) r)
    → ((t : ℕ) → (u.job t).kind ≡ (w.job t).kind) → ((t : ℕ) → (u.job t).slot ≡ (w.job t).slot) →
    ((c : ℕ) → u.call c ≡ put w.call c0 k c) → k.writer ≡ None → k.slots ≡ (w.call c0).slots → ((t : ℕ) → (u.job t).counted ≡ (w.job t).counted) → (w.call c0).writer ≡ Some q → book_free y ≡ true → AtBook u q y → ((c : ℕ) → (c == c0) ≡ false → writes x ≡ Some c → ⊥) →
    ((t : ℕ) → t + 1 ≤ w.jobs → (c : ℕ) (o : Party) → (w.job t).kind ≡ Scoped c o → is_busy (u.job t).at ≡ true → (is_busy (w.job t).at ≡ true) ⊎ (is_unfilled (u.job t).slot ≡ true)) → ((c : ℕ) → raising y ≡ Some c → ⊥) → Touched w u q (λ t. false) c0
left_at w u q c0 x y fs k z known ju cu S kind slot C wr sl counted mine free top wrote busy raised = touch w u q (λ t. false) c0 q x y fs k z known (λ t d. absurd (cc)) ju cu S kind (λ t d. slot t) C counted (λ t d. absurd (cc))
    (ap (is_open q) mine ∙ same_party_refl q) top
    (λ r e. absurd (let a : Some r ≡ None = sym e ∙ wr in cc)) wrote (λ t n d e. absurd (cc)) (λ t s n d f e i. absurd (cc))
    (λ n l. inl (omega (arith, l, sl))) (λ t n d e l. absurd (cc)) (λ n l m. absurd (omega (arith, l, m, sl))) busy (λ c i. absurd (raised c i))

-- what is pushed of the job
pushed_is : (n : Plan) (v : Bool) (t : ℕ) → 1 ≤ pushed t (PushJob n v) Done → t ≡ plan_job n
pushed_is (Detach p a) v t m = eqb-true t a (one_is (t == a) m)
pushed_is (Here p a) v t m = eqb-true t a (one_is (t == a) m)
pushed_is (Feed f) v t m = eqb-true t f.job (one_is (t == f.job) m)
pushed_is (Open o) v t m = eqb-true t o.job (one_is (t == o.job) m)
pushed_is (Enter e) v t m = eqb-true t e.job (one_is (t == e.job) m)
pushed_is _ v t m = absurd (omega (arith, m))

pushed_on : (w u : World) (q : Party) (n : Plan) (c0 : ℕ) (o : Party) (v : Bool) (fs : List Place) (at : Whereabouts) → plan_count n ≡ OfScope c0 o → w.stack q ≡ record { top = PushJob n v; below = fs } → BooksHold w → u.jobs ≡ w.jobs → u.calls ≡ w.calls →
    ((r : Party) → u.stack r ≡ put_stack w.stack q (record { top = TellNews n v; below = fs }) r) → ((t : ℕ) → u.job t ≡ put w.job (plan_job n) (at_job (w.job (plan_job n)) at) t) → ((c : ℕ) → u.call c ≡ put w.call c0 (record (w.call c0) { writer = left_by q (w.call c0).writer }) c) →
    ((t : ℕ) → with_job (u.job t) ≤ with_job (w.job t) + pushed t (PushJob n v) Done) → Touched w u q (λ t. false) c0
pushed_on w u q n c0 o v fs at k z h ju cu S J C le = left_at w u q c0 (PushJob n v) (TellNews n v) fs (record (w.call c0) { writer = left_by q (w.call c0).writer }) z (tied.number) ju cu S kind slot C (left_own q ((w.call c0).writer) book.writer) refl
    (λ t. ap (λ j. j.counted) (J t) ∙ put_same (λ j. j.counted) w.job (plan_job n) (at_job (w.job (plan_job n)) at) t refl) book.writer refl tt
    (λ c d e. only c0 c d (ap (λ i. holds_book (hold_state i (plan_job n))) (sym k) ∙ e))
    (busy_by w u (λ t. pushed t (PushJob n v) Done) kind le (λ t c p i m. subst (λ s. is_unfilled (u.job s).slot ≡ true) (sym (pushed_is n v t m)) (ap is_unfilled (slot (plan_job n) ∙ book.slot))))
    (λ c i. cc)
  where
    tied : Tied w c0 o
    tied = plan_tied w q n c0 o (queue_plan w q n (top_says w q (PushJob n v) fs (calls_of w h) z)) k

    book : Written w q c0 (plan_job n)
    book = subst (λ i. AtState w q (hold_state i (plan_job n))) k (subst (λ s. AtBook w q (s.top)) z (h.at q))

    kind : (t : ℕ) → (u.job t).kind ≡ (w.job t).kind
    kind t = ap (λ j. j.kind) (J t) ∙ put_same (λ j. j.kind) w.job (plan_job n) (at_job (w.job (plan_job n)) at) t refl

    slot : (t : ℕ) → (u.job t).slot ≡ (w.job t).slot
    slot t = ap (λ j. j.slot) (J t) ∙ put_same (λ j. j.slot) w.job (plan_job n) (at_job (w.job (plan_job n)) at) t refl

-- the push of a token leaves the book that the job before it in the list has a number of
token_on : (w u : World) (q : Party) (f : Feeding) (c0 : ℕ) (o : Party) (v : Bool) (fs : List Place) (at : Whereabouts) → f.count ≡ OfScope c0 o → w.stack q ≡ record { top = PushToken f v; below = fs } → BooksHold w → u.jobs ≡ w.jobs → u.calls ≡ w.calls →
    ((r : Party) → u.stack r ≡ put_stack w.stack q (record { top = TellNews (Detach f.pool f.token) v; below = fs }) r) → ((t : ℕ) → u.job t ≡ put w.job (f.token) (at_job (w.job f.token) at) t) → ((c : ℕ) → u.call c ≡ put w.call c0 (record (w.call c0) { writer = left_by q (w.call c0).writer }) c) →
    ((t : ℕ) → with_job (u.job t) ≤ with_job (w.job t) + 0) → Touched w u q (λ t. false) c0
token_on w u q f c0 o v fs at k z h ju cu S J C le = left_at w u q c0 (PushToken f v) (TellNews (Detach f.pool f.token) v) fs (record (w.call c0) { writer = left_by q (w.call c0).writer }) z (tied.number) ju cu S kind
    (λ t. ap (λ j. j.slot) (J t) ∙ put_same (λ j. j.slot) w.job (f.token) (at_job (w.job f.token) at) t refl) C
    (left_own q ((w.call c0).writer) book.writer) refl (λ t. ap (λ j. j.counted) (J t) ∙ put_same (λ j. j.counted) w.job (f.token) (at_job (w.job f.token) at) t refl) book.writer refl tt
    (λ c d e. only c0 c d (ap (λ i. holds_book (line_state i f.job)) (sym k) ∙ e))
    (busy_by w u (λ t. 0) kind le (none_open w u))
    (λ c i. cc)
  where
    tied : Tied w c0 o
    tied = plan_tied w q (Feed f) c0 o (top_says w q (PushToken f v) fs (calls_of w h) z) k

    book : Written w q c0 f.job
    book = (subst (λ i. AtState w q (line_state i f.job)) k (subst (λ s. AtBook w q (s.top)) z (h.at q))).0

    kind : (t : ℕ) → (u.job t).kind ≡ (w.job t).kind
    kind t = ap (λ j. j.kind) (J t) ∙ put_same (λ j. j.kind) w.job (f.token) (at_job (w.job f.token) at) t refl

-- what a mark leaves of the pieces of a broadcast
piece_kind : (b : Pieces) (m : ℕ → Job → Job) (g : ℕ → Job) (t : ℕ) → ((i : ℕ) (j : Job) → (m i j).kind ≡ j.kind) → (put_pieces b m g t).kind ≡ (g t).kind
piece_kind b m g t k = elim (either (is_piece b t)) [ inl e ↦ ap (λ j. j.kind) (piece_new b m g t e) ∙ k (t - b.first) (g t) | inr e ↦ ap (λ j. j.kind) (piece_old b m g t e) ]

piece_counted : (b : Pieces) (m : ℕ → Job → Job) (g : ℕ → Job) (t : ℕ) → ((i : ℕ) (j : Job) → (m i j).counted ≡ j.counted) → (put_pieces b m g t).counted ≡ (g t).counted
piece_counted b m g t k = elim (either (is_piece b t)) [ inl e ↦ ap (λ j. j.counted) (piece_new b m g t e) ∙ k (t - b.first) (g t) | inr e ↦ ap (λ j. j.counted) (piece_old b m g t e) ]

piece_slot : (b : Pieces) (m : ℕ → Job → Job) (g : ℕ → Job) (t : ℕ) → ((i : ℕ) (j : Job) → (m i j).slot ≡ j.slot) → (put_pieces b m g t).slot ≡ (g t).slot
piece_slot b m g t k = elim (either (is_piece b t)) [ inl e ↦ ap (λ j. j.slot) (piece_new b m g t e) ∙ k (t - b.first) (g t) | inr e ↦ ap (λ j. j.slot) (piece_old b m g t e) ]

piece_share : (b : Pieces) (t : ℕ) → is_piece b t ≡ true → 1 ≤ one (is_piece b t)
piece_share b t d = let a : one (is_piece b t) ≡ 1 = ap one d in omega (arith, a)

-- the pieces of a scope's broadcast
scope_pieces : (w : World) (b : Pieces) (c : ℕ) (o : Party) → b.count ≡ OfScope c o → SaysCast w b → (t : ℕ) → is_piece b t ≡ true → (t + 1 ≤ w.jobs) × ((w.job t).kind ≡ Scoped c o)
scope_pieces w b c o k s t d = (((s.0) t d).made, ((s.0) t d).kind ∙ ap count_kind k)

-- the number that a piece has of those from this one on
piece_number : (b : Pieces) (s t n : ℕ) → is_piece b t ≡ true → s + (t - b.first) ≡ n → (s ≤ n) × (n + 1 ≤ s + b.workers)
piece_number b s t n d e = let a : b.first ≤ t = (piece_range b t d).0 in let c : t < b.first + b.workers = (piece_range b t d).1 in (omega (arith, e), omega (arith, a, c, e))

piece_alone : (b : Pieces) (s t r n : ℕ) → is_piece b t ≡ true → is_piece b r ≡ true → s + (t - b.first) ≡ n → s + (r - b.first) ≡ n → t ≡ r
piece_alone b s t r n d f e i = let a : b.first ≤ t = (piece_range b t d).0 in let c : b.first ≤ r = (piece_range b r f).0 in omega (arith, a, c, e, i)

piece_with : (b : Pieces) (s n : ℕ) → s ≤ n → n + 1 ≤ s + b.workers → (t : ℕ) × ((is_piece b t ≡ true) × (s + (t - b.first) ≡ n))
piece_with b s n l m = (b.first + (n - s), (piece_in b (b.first + (n - s)) (omega arith) (omega (arith, l, m)), omega (arith, l)))

-- a number is opened for each of them
opened_all : (w u : World) (q : Party) (b : Pieces) (o : Party) (fs : List Place) (n0 : ℕ) → b.count ≡ OfScope (count_call b.count) o → w.stack q ≡ record { top = OpenForAll b; below = fs } → BooksHold w → is_open q (w.call (count_call b.count)).writer ≡ true → u.jobs ≡ w.jobs → u.calls ≡ w.calls →
    ((r : Party) → u.stack r ≡ put_stack w.stack q (record { top = PushForAll b; below = fs }) r) → ((t : ℕ) → u.job t ≡ mark_pieces b (Numbered (w.call (count_call b.count)).slots) (put w.job n0 (w.job n0)) t) →
    ((c : ℕ) → u.call c ≡ put w.call (count_call b.count) (record (w.call (count_call b.count)) { slots = (w.call (count_call b.count)).slots + b.workers; writer = Some q }) c) → ((t : ℕ) → with_job (u.job t) ≤ with_job (w.job t) + 0) → Touched w u q (is_piece b) (count_call b.count)
opened_all w u q b o fs n0 k z h able ju cu S J C le = touch w u q (is_piece b) c0 o (OpenForAll b) (PushForAll b) fs call z (tied.number) (scope_pieces w b c0 o k said) ju cu S kind
    (λ t d. ap (λ j. j.slot) (J t ∙ piece_old b m g t d) ∙ put_same (λ j. j.slot) w.job n0 (w.job n0) t refl) C
    (λ t. ap (λ j. j.counted) (J t) ∙ piece_counted b m g t (λ i j. refl) ∙ put_same (λ j. j.counted) w.job n0 (w.job n0) t refl)
    (piece_share b) able
    (subst (λ i. AtState u q (hold_all i b)) (sym k) (record { writer = ap (λ j. j.writer) now; number = s0; slots = mine; last = sym (ap (λ j. j.slots) now) }))
    (λ r y. ((let a : Some q ≡ Some r = y in cc), ap (λ i. holds_book (hold_all i b)) k))
    (λ c d y. open_none b.count c y)
    (λ t i d y. (let a : (s0 ≤ i) × (i + 1 ≤ s0 + b.workers) = piece_number b s0 t i d (at_number t i d y) in (a.1, inr (a.0))))
    (λ t s i d f y x. piece_alone b s0 t s i d f (at_number t i d y) (at_number s i f x))
    (λ i l. inl (omega (arith, l)))
    (λ t i d y l. absurd (let a : slot_number (w.job t).slot ≡ None = ap slot_number (fresh t d) in let e : Some i ≡ None = sym y ∙ a in cc))
    (λ i l e. (let a : (t : ℕ) × ((is_piece b t ≡ true) × (s0 + (t - b.first) ≡ i)) = piece_with b s0 i l e in (a.0, ((a.1).0, ap slot_number (mine (a.0) ((a.1).0)) ∙ ap Some ((a.1).1)))))
    (busy_by w u (λ t. 0) kind le (none_open w u))
    (λ c i. ap (λ s. holds_in c (s.below)) (sym z) ∙ h.enters q c (ap (λ s. raising (s.top)) z ∙ i))
  where
    c0 : ℕ
    c0 = count_call b.count

    s0 : ℕ
    s0 = (w.call c0).slots

    m : ℕ → Job → Job
    m = marked (Numbered s0) b.pool

    g : ℕ → Job
    g = put w.job n0 (w.job n0)

    call : Call
    call = record (w.call c0) { slots = s0 + b.workers; writer = Some q }

    said : SaysCast w b
    said = top_says w q (OpenForAll b) fs (calls_of w h) z

    tied : Tied w c0 o
    tied = subst (λ i. KnownCount w i b.pool) k (said.1)

    kind : (t : ℕ) → (u.job t).kind ≡ (w.job t).kind
    kind t = ap (λ j. j.kind) (J t) ∙ piece_kind b m g t (λ i j. refl) ∙ put_same (λ j. j.kind) w.job n0 (w.job n0) t refl

    now : u.call c0 ≡ call
    now = C c0 ∙ put_new w.call c0 call

    mine : (t : ℕ) → is_piece b t ≡ true → (u.job t).slot ≡ IsOpen (s0 + (t - b.first))
    mine t d = ap (λ j. j.slot) (J t ∙ piece_new b m g t d)

    at_number : (t i : ℕ) → is_piece b t ≡ true → slot_number (u.job t).slot ≡ Some i → s0 + (t - b.first) ≡ i
    at_number t i d y = number_is (s0 + (t - b.first)) i (sym (ap slot_number (mine t d)) ∙ y)

    fresh : (t : ℕ) → is_piece b t ≡ true → (w.job t).slot ≡ Closed
    fresh = subst (λ i. AtState w q (open_all i b)) k (subst (λ s. AtBook w q (s.top)) z (h.at q))

    open_none : (i : Count) (c : ℕ) → holds_book (open_all i b) ≡ Some c → ⊥
    open_none (OfPool p) c y = cc
    open_none _ c y = cc

-- and taken back
unopened_all : (w u : World) (q : Party) (b : Pieces) (o : Party) (fs : List Place) (n0 : ℕ) → b.count ≡ OfScope (count_call b.count) o → w.stack q ≡ record { top = CloseForAll b; below = fs } → BooksHold w → is_open q (w.call (count_call b.count)).writer ≡ true → u.jobs ≡ w.jobs
    → u.calls ≡ w.calls →
    ((r : Party) → u.stack r ≡ put_stack w.stack q (record { top = LowerForAll b; below = fs }) r) → ((t : ℕ) → u.job t ≡ mark_pieces b Unnumbered (put w.job n0 (w.job n0)) t) →
    ((c : ℕ) → u.call c ≡ put w.call (count_call b.count) (record (w.call (count_call b.count)) { slots = (w.call (count_call b.count)).slots - b.workers; writer = None }) c) → ((t : ℕ) → with_job (u.job t) ≤ with_job (w.job t) + 0) → Touched w u q (is_piece b) (count_call b.count)
unopened_all w u q b o fs n0 k z h able ju cu S J C le = touch w u q (is_piece b) c0 o (CloseForAll b) (LowerForAll b) fs call z (tied.number) (scope_pieces w b c0 o k said) ju cu S kind
    (λ t d. ap (λ j. j.slot) (J t ∙ piece_old b m g t d) ∙ put_same (λ j. j.slot) w.job n0 (w.job n0) t refl) C
    (λ t. ap (λ j. j.counted) (J t) ∙ piece_counted b m g t (λ i j. refl) ∙ put_same (λ j. j.counted) w.job n0 (w.job n0) t refl)
    (piece_share b) able
    (subst (λ i. AtState u q (shut_all i b)) (sym k) (λ t d. ap is_unfilled (mine t d)))
    (λ r y. absurd (cc))
    (λ c d y. only c0 c d (ap (λ i. holds_book (close_all i b)) (sym k) ∙ y))
    (λ t i d y. absurd (closed t i d y))
    (λ t s i d f y x. absurd (closed t i d y))
    room
    (λ t i d y l. absurd (let a : at.number ≤ i = (piece_number b at.number t i d (number_is (at.number + (t - b.first)) i (sym (ap slot_number (at.slots t d)) ∙ y))).0 in let e : at.number + b.workers ≡ (w.call c0).slots = at.last in omega (arith, a, e, l)))
    (λ i l e. absurd (omega (arith, l, e)))
    (busy_by w u (λ t. 0) kind le (none_open w u))
    (λ c i. absurd (cc))
  where
    c0 : ℕ
    c0 = count_call b.count

    m : ℕ → Job → Job
    m = marked Unnumbered b.pool

    g : ℕ → Job
    g = put w.job n0 (w.job n0)

    call : Call
    call = record (w.call c0) { slots = (w.call c0).slots - b.workers; writer = None }

    said : SaysCast w b
    said = top_says w q (CloseForAll b) fs (calls_of w h) z

    tied : Tied w c0 o
    tied = subst (λ i. KnownCount w i b.pool) k (said.1)

    kind : (t : ℕ) → (u.job t).kind ≡ (w.job t).kind
    kind t = ap (λ j. j.kind) (J t) ∙ piece_kind b m g t (λ i j. refl) ∙ put_same (λ j. j.kind) w.job n0 (w.job n0) t refl

    mine : (t : ℕ) → is_piece b t ≡ true → (u.job t).slot ≡ Closed
    mine t d = ap (λ j. j.slot) (J t ∙ piece_new b m g t d)

    closed : (t i : ℕ) → is_piece b t ≡ true → slot_number (u.job t).slot ≡ Some i → ⊥
    closed t i d y = let a : slot_number (u.job t).slot ≡ None = ap slot_number (mine t d) in let e : Some i ≡ None = sym y ∙ a in cc

    at : WrittenAll w q c0 b
    at = subst (λ i. AtState w q (close_all i b)) k (subst (λ s. AtBook w q (s.top)) z (h.at q))

    room : (i : ℕ) → i + 1 ≤ (w.call c0).slots → (i + 1 ≤ (w.call c0).slots - b.workers) ⊎ ((t : ℕ) × ((is_piece b t ≡ true) × (slot_number (w.job t).slot ≡ Some i)))
    room i l = let a : at.number + b.workers ≡ (w.call c0).slots = at.last in elim (either (ltb i at.number)) [
      | inl y ↦ inl (let e : i < at.number = ltb-true i at.number y in omega (arith, a, e))
      | inr y ↦ inr (let e : at.number ≤ i = ltb-false i at.number y in let f : (t : ℕ) × ((is_piece b t ≡ true) × (at.number + (t - b.first) ≡ i)) = piece_with b at.number i e (omega (arith, a, l)) in (f.0, ((f.1).0, ap slot_number (at.slots (f.0) ((f.1).0)) ∙ ap Some ((f.1).1))))
    ]

-- the push of them leaves the book
pushed_all : (w u : World) (q : Party) (b : Pieces) (o : Party) (y : Place) (fs : List Place) (n0 : ℕ) (k1 : Call) → b.count ≡ OfScope (count_call b.count) o → w.stack q ≡ record { top = PushForAll b; below = fs } → BooksHold w → u.jobs ≡ w.jobs → u.calls ≡ w.calls
    → ((r : Party) → u.stack r ≡ put_stack w.stack q (record { top = y; below = fs }) r) →
    ((t : ℕ) → u.job t ≡ mark_pieces b Queued (put w.job n0 (w.job n0)) t) → ((c : ℕ) → u.call c ≡ put w.call (count_call b.count) k1 c) → k1.writer ≡ left_book q (count_book b.count) (w.call (count_call b.count)).writer → k1.slots ≡ (w.call (count_call b.count)).slots →
    ((t : ℕ) → with_job (u.job t) ≤ with_job (w.job t) + one (is_piece b t)) → book_free y ≡ true → Touched w u q (λ t. false) (count_call b.count)
pushed_all w u q b o y fs n0 k1 k z h ju cu S J C wr sl le free = left_at w u q c0 (PushForAll b) y fs k1 z (tied.number) ju cu S kind slot C (wr ∙ ap (λ i. left_book q (count_book i) (w.call c0).writer) k ∙ left_own q ((w.call c0).writer) book.writer) sl
    (λ t. ap (λ j. j.counted) (J t) ∙ piece_counted b m g t (λ i j. refl) ∙ put_same (λ j. j.counted) w.job n0 (w.job n0) t refl) book.writer free (free_at u q y free)
    (λ c d e. only c0 c d (ap (λ i. holds_book (hold_all i b)) (sym k) ∙ e))
    (busy_by w u (λ t. one (is_piece b t)) kind le (λ t c p i s. ap is_unfilled (slot t ∙ book.slots t (one_is (is_piece b t) s))))
    (λ c i. free_raising y c free i)
  where
    c0 : ℕ
    c0 = count_call b.count

    m : ℕ → Job → Job
    m = marked Queued b.pool

    g : ℕ → Job
    g = put w.job n0 (w.job n0)

    tied : Tied w c0 o
    tied = subst (λ i. KnownCount w i b.pool) k ((top_says w q (PushForAll b) fs (calls_of w h) z).1)

    book : WrittenAll w q c0 b
    book = subst (λ i. AtState w q (hold_all i b)) k (subst (λ s. AtBook w q (s.top)) z (h.at q))

    kind : (t : ℕ) → (u.job t).kind ≡ (w.job t).kind
    kind t = ap (λ j. j.kind) (J t) ∙ piece_kind b m g t (λ i j. refl) ∙ put_same (λ j. j.kind) w.job n0 (w.job n0) t refl

    slot : (t : ℕ) → (u.job t).slot ≡ (w.job t).slot
    slot t = ap (λ j. j.slot) (J t) ∙ piece_slot b m g t (λ i j. refl) ∙ put_same (λ j. j.slot) w.job n0 (w.job n0) t refl

-- the acts of a worker, and those of a caller
opens : (w : World) (q : Party) (n : Plan) (o : Party) (fs : List Place) → plan_count n ≡ OfScope (count_call (plan_count n)) o → w.stack q ≡ record { top = OpenSlot n; below = fs } → BooksHold w → IfSome (outcome w q (record { top = OpenSlot n; below = fs })) (Acts w q (OpenSlot n) fs)
opens w (Worker a b) n o fs k z h = if_cond (Acts w (Worker a b) (OpenSlot n) fs) (is_open (Worker a b) ((w.call (count_call (plan_count n))).writer)) _
    (λ able early fe d st. touched_books w _ (Worker a b) (λ t. t == plan_job n) (count_call (plan_count n)) h early fe (opened w _ (Worker a b) n o fs k z h able refl refl (λ r. refl) (λ t. refl) (λ c. refl) (d.busy)))
opens w (Caller i) n o fs k z h = if_cond (Acts w (Caller i) (OpenSlot n) fs) (is_open (Caller i) ((w.call (count_call (plan_count n))).writer)) _
    (λ able early fe d st. touched_books w _ (Caller i) (λ t. t == plan_job n) (count_call (plan_count n)) h early fe (opened w _ (Caller i) n o fs k z h able refl refl (λ r. refl) (λ t. refl) (λ c. refl) (d.busy)))

undoes : (w : World) (q : Party) (n : Plan) (o : Party) (fs : List Place) → plan_count n ≡ OfScope (count_call (plan_count n)) o → w.stack q ≡ record { top = CloseSlot n; below = fs } → BooksHold w → IfSome (outcome w q (record { top = CloseSlot n; below = fs })) (Acts w q (CloseSlot n) fs)
undoes w (Worker a b) n o fs k z h = if_cond (Acts w (Worker a b) (CloseSlot n) fs) (is_open (Worker a b) ((w.call (count_call (plan_count n))).writer)) _
    (λ able early fe d st. touched_books w _ (Worker a b) (λ t. t == plan_job n) (count_call (plan_count n)) h early fe (unopened w _ (Worker a b) n o fs k z h able refl refl (λ r. refl) (λ t. refl) (λ c. refl) (d.busy)))
undoes w (Caller i) n o fs k z h = if_cond (Acts w (Caller i) (CloseSlot n) fs) (is_open (Caller i) ((w.call (count_call (plan_count n))).writer)) _
    (λ able early fe d st. touched_books w _ (Caller i) (λ t. t == plan_job n) (count_call (plan_count n)) h early fe (unopened w _ (Caller i) n o fs k z h able refl refl (λ r. refl) (λ t. refl) (λ c. refl) (d.busy)))

stores : (w : World) (q : Party) (c : ℕ) (o : Party) (t : ℕ) (x : Ending) (fs : List Place) → w.stack q ≡ record { top = StoreSlot c o t x; below = fs } → BooksHold w → IfSome (outcome w q (record { top = StoreSlot c o t x; below = fs })) (Acts w q (StoreSlot c o t x) fs)
stores w (Worker a b) c o t x fs z h = if_cond (Acts w (Worker a b) (StoreSlot c o t x) fs) (is_open (Worker a b) ((w.call c).writer)) _
    (λ able early fe d st. touched_books w _ (Worker a b) (λ n. n == t) c h early fe (stored w _ (Worker a b) c o t x fs z h able refl refl (λ r. refl) (λ n. refl) (λ n. refl) (d.busy)))
stores w (Caller i) c o t x fs z h = if_cond (Acts w (Caller i) (StoreSlot c o t x) fs) (is_open (Caller i) ((w.call c).writer)) _
    (λ able early fe d st. touched_books w _ (Caller i) (λ n. n == t) c h early fe (stored w _ (Caller i) c o t x fs z h able refl refl (λ r. refl) (λ n. refl) (λ n. refl) (d.busy)))

opens_all : (w : World) (q : Party) (b : Pieces) (o : Party) (fs : List Place) → b.count ≡ OfScope (count_call b.count) o → w.stack q ≡ record { top = OpenForAll b; below = fs } → BooksHold w → IfSome (outcome w q (record { top = OpenForAll b; below = fs })) (Acts w q (OpenForAll b) fs)
opens_all w (Worker a i) b o fs k z h = if_cond (Acts w (Worker a i) (OpenForAll b) fs) (is_open (Worker a i) ((w.call (count_call b.count)).writer)) _
    (λ able early fe d st. touched_books w _ (Worker a i) (is_piece b) (count_call b.count) h early fe (opened_all w _ (Worker a i) b o fs 0 k z h able refl refl (λ r. refl) (λ t. refl) (λ c. refl) (d.busy)))
opens_all w (Caller i) b o fs k z h = if_cond (Acts w (Caller i) (OpenForAll b) fs) (is_open (Caller i) ((w.call (count_call b.count)).writer)) _
    (λ able early fe d st. touched_books w _ (Caller i) (is_piece b) (count_call b.count) h early fe (opened_all w _ (Caller i) b o fs 0 k z h able refl refl (λ r. refl) (λ t. refl) (λ c. refl) (d.busy)))

undoes_all : (w : World) (q : Party) (b : Pieces) (o : Party) (fs : List Place) → b.count ≡ OfScope (count_call b.count) o → w.stack q ≡ record { top = CloseForAll b; below = fs } → BooksHold w → IfSome (outcome w q (record { top = CloseForAll b; below = fs })) (Acts w q (CloseForAll b) fs)
undoes_all w (Worker a i) b o fs k z h = if_cond (Acts w (Worker a i) (CloseForAll b) fs) (is_open (Worker a i) ((w.call (count_call b.count)).writer)) _
    (λ able early fe d st. touched_books w _ (Worker a i) (is_piece b) (count_call b.count) h early fe (unopened_all w _ (Worker a i) b o fs 0 k z h able refl refl (λ r. refl) (λ t. refl) (λ c. refl) (d.busy)))
undoes_all w (Caller i) b o fs k z h = if_cond (Acts w (Caller i) (CloseForAll b) fs) (is_open (Caller i) ((w.call (count_call b.count)).writer)) _
    (λ able early fe d st. touched_books w _ (Caller i) (is_piece b) (count_call b.count) h early fe (unopened_all w _ (Caller i) b o fs 0 k z h able refl refl (λ r. refl) (λ t. refl) (λ c. refl) (d.busy)))

pushes_all : (w : World) (q : Party) (b : Pieces) (o : Party) (fs : List Place) → b.count ≡ OfScope (count_call b.count) o → w.stack q ≡ record { top = PushForAll b; below = fs } → BooksHold w → IfSome (outcome w q (record { top = PushForAll b; below = fs })) (Acts w q (PushForAll b) fs)
pushes_all w (Worker a i) b o fs k z h = λ early fe d st. touched_books w _ (Worker a i) (λ t. false) (count_call b.count) h early fe (pushed_all w _ (Worker a i) b o (call_all (w.shape.pool b.pool) b) fs 0 _ k z h refl refl (λ r. refl) (λ t. refl) (λ c. refl) refl refl (d.busy) refl)
pushes_all w (Caller i) b o fs k z h = λ early fe d st. touched_books w _ (Caller i) (λ t. false) (count_call b.count) h early fe (pushed_all w _ (Caller i) b o (call_all (w.shape.pool b.pool) b) fs 0 _ k z h refl refl (λ r. refl) (λ t. refl) (λ c. refl) refl refl (d.busy) refl)

-- a push of a job, where its book is this one
abbrev Pushes : World → Party → Place → List Place → Act → Type 0
Pushes w q x fs act = IfSome (effect act w.shape q (counts_at w (target_pool q act)) (part_of w (target_pool q act) (target_worker q act) (target_call act) (job_at w q act))) (λ r.
    EarlyHold (after w q (record { top = x; below = fs }) (target_pool q act) (target_worker q act) (target_call act) (job_at w q act) r) → FeedersHold (after w q (record { top = x; below = fs }) (target_pool q act) (target_worker q act) (target_call act) (job_at w q act) r) →
    ((t : ℕ) → with_job ((after w q (record { top = x; below = fs }) (target_pool q act) (target_worker q act) (target_call act) (job_at w q act) r).job t) ≤ with_job (w.job t) + pushed t x (r.0))
    → BooksHold (after w q (record { top = x; below = fs }) (target_pool q act) (target_worker q act) (target_call act) (job_at w q act) r))

pushes_by : (w : World) (q : Party) (n : Plan) (o : Party) (v : Bool) (fs : List Place) (a : ℕ) → plan_count n ≡ OfScope a o → w.stack q ≡ record { top = PushJob n v; below = fs } → BooksHold w → (y : Bool) → Pushes w q (PushJob n v) fs
    (if y then PushOwn (plan_job n) (Some a) else PushInj (plan_pool n) (plan_job n) (Some a))
pushes_by w q n o v fs a k z h true = λ early fe busy. touched_books w _ q (λ t. false) a h early fe (pushed_on w _ q n a o v fs (InDeque (own_pool q) (own_index q)) k z h refl refl (λ r. refl) (λ t. refl) (λ s. refl) busy)
pushes_by w q n o v fs a k z h false = λ early fe busy. touched_books w _ q (λ t. false) a h early fe (pushed_on w _ q n a o v fs (Injected (plan_pool n)) k z h refl refl (λ r. refl) (λ t. refl) (λ s. refl) busy)

pushes : (w : World) (q : Party) (n : Plan) (c : ℕ) (o : Party) (v : Bool) (fs : List Place) → plan_count n ≡ OfScope c o → w.stack q ≡ record { top = PushJob n v; below = fs } → BooksHold w → IfSome (outcome w q (record { top = PushJob n v; below = fs })) (Acts w q (PushJob n v) fs)
pushes w (Worker a b) n c o v fs k z h = if_some_map
    (λ r. EarlyHold (world_after w (Worker a b) (PushJob n v) fs r) → FeedersHold (world_after w (Worker a b) (PushJob n v) fs r) → ((t : ℕ) → with_job ((world_after w (Worker a b) (PushJob n v) fs r).job t) ≤ with_job (w.job t) + pushed t (PushJob n v) (r.0))
    → BooksHold (world_after w (Worker a b) (PushJob n v) fs r))
    (Acts w (Worker a b) (PushJob n v) fs) (λ r g early fe d st. g early fe (d.busy)) (outcome w (Worker a b) (record { top = PushJob n v; below = fs }))
    (subst (λ i. Pushes w (Worker a b) (PushJob n v) fs (if is_member (Worker a b) (plan_pool n) then PushOwn (plan_job n) i else PushInj (plan_pool n) (plan_job n) i)) (sym (plan_book_is n ∙ ap count_book k)) (pushes_by w (Worker a b) n o v fs c k z h (is_member (Worker a b) (plan_pool n))))
pushes w (Caller i) n c o v fs k z h = if_some_map
    (λ r. EarlyHold (world_after w (Caller i) (PushJob n v) fs r) → FeedersHold (world_after w (Caller i) (PushJob n v) fs r) → ((t : ℕ) → with_job ((world_after w (Caller i) (PushJob n v) fs r).job t) ≤ with_job (w.job t) + pushed t (PushJob n v) (r.0))
    → BooksHold (world_after w (Caller i) (PushJob n v) fs r))
    (Acts w (Caller i) (PushJob n v) fs) (λ r g early fe d st. g early fe (d.busy)) (outcome w (Caller i) (record { top = PushJob n v; below = fs }))
    (subst (λ j. Pushes w (Caller i) (PushJob n v) fs (if is_member (Caller i) (plan_pool n) then PushOwn (plan_job n) j else PushInj (plan_pool n) (plan_job n) j)) (sym (plan_book_is n ∙ ap count_book k)) (pushes_by w (Caller i) n o v fs c k z h (is_member (Caller i) (plan_pool n))))

tokens : (w : World) (q : Party) (f : Feeding) (c : ℕ) (o : Party) (v : Bool) (fs : List Place) → f.count ≡ OfScope c o → w.stack q ≡ record { top = PushToken f v; below = fs } → BooksHold w → IfSome (outcome w q (record { top = PushToken f v; below = fs })) (Acts w q (PushToken f v) fs)
tokens w (Worker a b) f c o v fs k z h = if_some_map
    (λ r. EarlyHold (world_after w (Worker a b) (PushToken f v) fs r) → FeedersHold (world_after w (Worker a b) (PushToken f v) fs r) → ((t : ℕ) → with_job ((world_after w (Worker a b) (PushToken f v) fs r).job t) ≤ with_job (w.job t) + pushed t (PushToken f v) (r.0))
    → BooksHold (world_after w (Worker a b) (PushToken f v) fs r))
    (Acts w (Worker a b) (PushToken f v) fs) (λ r g early fe d st. g early fe (d.busy)) (outcome w (Worker a b) (record { top = PushToken f v; below = fs }))
    (subst (λ i. Pushes w (Worker a b) (PushToken f v) fs (PushOwn f.token i)) (sym (ap count_book k)) by)
  where
    by : Pushes w (Worker a b) (PushToken f v) fs (PushOwn f.token (Some c))
    by early fe busy = touched_books w _ (Worker a b) (λ t. false) c h early fe (token_on w _ (Worker a b) f c o v fs (InDeque a b) k z h refl refl (λ r. refl) (λ t. refl) (λ s. refl) busy)
tokens w (Caller i) f c o v fs k z h = tt

-- each act keeps what holds of the books
act_books_raise : (w : World) (q : Party) (n : Plan) (fs : List Place) (k : Count) → plan_count n ≡ k → w.stack q ≡ record { top = RaiseCount n; below = fs } → BooksHold w → IfSome (outcome w q (record { top = RaiseCount n; below = fs })) (Acts w q (RaiseCount n) fs)
act_books_raise w q n fs (OfScope c o) k z h = raise_act w q n c o fs k z h
act_books_raise w q n fs _ k z h = free_act w q (RaiseCount n) fs z h (ap (λ i. is_nothing (fresh_state i (plan_job n))) k) refl

act_books_grow : (w : World) (q : Party) (n : Plan) (fs : List Place) (k : Count) → plan_count n ≡ k → w.stack q ≡ record { top = GrowCall n; below = fs } → BooksHold w → IfSome (outcome w q (record { top = GrowCall n; below = fs })) (Acts w q (GrowCall n) fs)
act_books_grow w q n fs (OfScope c o) k z h = absurd (subst (λ i. AtState w q (grow_state i)) k (subst (λ s. AtBook w q (s.top)) z (h.at q)))
act_books_grow w q n fs _ k z h = free_act w q (GrowCall n) fs z h (ap (λ i. is_nothing (grow_state i)) k) refl

act_books_open : (w : World) (q : Party) (n : Plan) (fs : List Place) (k : Count) → plan_count n ≡ k → w.stack q ≡ record { top = OpenSlot n; below = fs } → BooksHold w → IfSome (outcome w q (record { top = OpenSlot n; below = fs })) (Acts w q (OpenSlot n) fs)
act_books_open w q n fs (OfScope c o) k z h = opens w q n o fs (own_count (plan_count n) c o k) z h
act_books_open w q n fs _ k z h = absurd (subst (λ i. AtState w q (open_state i (plan_job n))) k (subst (λ s. AtBook w q (s.top)) z (h.at q)))

act_books_close : (w : World) (q : Party) (n : Plan) (fs : List Place) (k : Count) → plan_count n ≡ k → w.stack q ≡ record { top = CloseSlot n; below = fs } → BooksHold w → IfSome (outcome w q (record { top = CloseSlot n; below = fs })) (Acts w q (CloseSlot n) fs)
act_books_close w q n fs (OfScope c o) k z h = undoes w q n o fs (own_count (plan_count n) c o k) z h
act_books_close w q n fs _ k z h = absurd (subst (λ i. AtState w q (close_state i (plan_job n))) k (subst (λ s. AtBook w q (s.top)) z (h.at q)))

act_books_push : (w : World) (q : Party) (n : Plan) (v : Bool) (fs : List Place) (k : Count) → plan_count n ≡ k → w.stack q ≡ record { top = PushJob n v; below = fs } → BooksHold w → IfSome (outcome w q (record { top = PushJob n v; below = fs })) (Acts w q (PushJob n v) fs)
act_books_push w q n v fs (OfScope c o) k z h = pushes w q n c o v fs k z h
act_books_push w q n v fs _ k z h = free_act w q (PushJob n v) fs z h (ap (λ i. is_nothing (hold_state i (plan_job n))) k) refl

act_books_token : (w : World) (q : Party) (f : Feeding) (v : Bool) (fs : List Place) (k : Count) → f.count ≡ k → w.stack q ≡ record { top = PushToken f v; below = fs } → BooksHold w → IfSome (outcome w q (record { top = PushToken f v; below = fs })) (Acts w q (PushToken f v) fs)
act_books_token w q f v fs (OfScope c o) k z h = tokens w q f c o v fs k z h
act_books_token w q f v fs _ k z h = free_act w q (PushToken f v) fs z h (ap (λ i. is_nothing (line_state i f.job)) k) refl

act_books_open_all : (w : World) (q : Party) (b : Pieces) (fs : List Place) (k : Count) → b.count ≡ k → w.stack q ≡ record { top = OpenForAll b; below = fs } → BooksHold w → IfSome (outcome w q (record { top = OpenForAll b; below = fs })) (Acts w q (OpenForAll b) fs)
act_books_open_all w q b fs (OfScope c o) k z h = opens_all w q b o fs (own_count b.count c o k) z h
act_books_open_all w q b fs _ k z h = absurd (subst (λ i. AtState w q (open_all i b)) k (subst (λ s. AtBook w q (s.top)) z (h.at q)))

act_books_close_all : (w : World) (q : Party) (b : Pieces) (fs : List Place) (k : Count) → b.count ≡ k → w.stack q ≡ record { top = CloseForAll b; below = fs } → BooksHold w → IfSome (outcome w q (record { top = CloseForAll b; below = fs })) (Acts w q (CloseForAll b) fs)
act_books_close_all w q b fs (OfScope c o) k z h = undoes_all w q b o fs (own_count b.count c o k) z h
act_books_close_all w q b fs _ k z h = absurd (subst (λ i. AtState w q (close_all i b)) k (subst (λ s. AtBook w q (s.top)) z (h.at q)))

act_books_push_all : (w : World) (q : Party) (b : Pieces) (fs : List Place) (k : Count) → b.count ≡ k → w.stack q ≡ record { top = PushForAll b; below = fs } → BooksHold w → IfSome (outcome w q (record { top = PushForAll b; below = fs })) (Acts w q (PushForAll b) fs)
act_books_push_all w q b fs (OfScope c o) k z h = pushes_all w q b o fs (own_count b.count c o k) z h
act_books_push_all w q b fs _ k z h = free_act w q (PushForAll b) fs z h (ap (λ i. is_nothing (hold_all i b)) k) refl

pub act_books : (w : World) (q : Party) (x : Place) (fs : List Place) → w.stack q ≡ record { top = x; below = fs } → BooksHold w → IfSome (outcome w q (record { top = x; below = fs })) (Acts w q x fs)
act_books w q (RaiseCount n) fs z h = act_books_raise w q n fs (plan_count n) refl z h
act_books w q (GrowCall n) fs z h = act_books_grow w q n fs (plan_count n) refl z h
act_books w q (OpenSlot n) fs z h = act_books_open w q n fs (plan_count n) refl z h
act_books w q (CloseSlot n) fs z h = act_books_close w q n fs (plan_count n) refl z h
act_books w q (LookQueue n) fs z h = look_act w q n fs z h
act_books w q (PushJob n v) fs z h = act_books_push w q n v fs (plan_count n) refl z h
act_books w q (AddToFifo f) fs z h = add_act w q f fs z h
act_books w q (LookForToken f) fs z h = token_act w q f fs z h
act_books w q (PushToken f v) fs z h = act_books_token w q f v fs f.count refl z h
act_books w q (TakeFromFifo f) fs z h = retake_act w q f fs z h
act_books w q (StoreSlot c o t x) fs z h = stores w q c o t x fs z h
act_books w q (StorePiece c o t x) fs z h = piece_act w q c o t x fs z h
act_books w q (LowerCount k (OfJob t) n) fs z h = lower_act w q k t n fs z h
act_books w q (LowerCount k PoolValue n) fs z h = free_act w q (LowerCount k PoolValue n) fs z h refl refl
act_books w q (LowerCount k Body n) fs z h = free_act w q (LowerCount k Body n) fs z h refl refl
act_books w q (RaiseForAll b) fs z h = raise_all_act w q b fs z h
act_books w q (OpenForAll b) fs z h = act_books_open_all w q b fs b.count refl z h
act_books w q (PushForAll b) fs z h = act_books_push_all w q b fs b.count refl z h
act_books w q (CloseForAll b) fs z h = act_books_close_all w q b fs b.count refl z h
act_books w q (LowerForAll b) fs z h = lower_all_act w q b fs z h
act_books w q (DealPieces g) fs z h = deal_act w q g fs z h
act_books w q x fs z h = free_act w q x fs z h refl refl
