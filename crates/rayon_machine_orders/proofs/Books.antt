-- the books of scopes: who has opened numbers holds the book and they are its last, and each job has another
--
-- Eight acts touch a book: Slot, SlotUndo, SlotAll, SlotUndoAll, StoreSlot; and three pushes: of a spawn into a scope,
-- of the token of one in order, of a broadcast into one. Each is enabled only while no other party holds the book, or
-- its party holds it.
-- Who knows a job's number has its share, or is to take it. Or it holds the FIFO list that the job is last of. So no
-- two parties do (`others_apart`).
-- An act is said by the set of jobs whose numbers it opens, takes back or fills (`Touched`); a push has none. So each
-- leaves what the others know (`touched_books`), and every other act leaves all books (`quiet_books`).
-- `BooksHold` says too: nobody but who has opened numbers holds a book; each number is some job's; the number of a job
-- that is queued or runs is open; a job whose number is open has its share. Who is to raise a scope's count, or
-- broadcasts into the scope, runs in it.
use Rattle.std.proofs.Common.{arith, refl, sym, ◌∙◌, ap, subst, inl, inr}
use Rattle.rayon_machine_orders.proofs.Words.{eqb-true, ltb-true, ltb-false, ltb, ℕ, Bool, true, false, ◌+◌, ◌-◌, ◌==◌, ◌≤◌, ◌<◌, ◌&&◌, Option, Some, None, ◌≡◌, ◌⊎◌, Party, Scoped, Count, OfPool, OfScope, OfCast, Feeding, Feed, Place, LookForToken, PushToken, TakeFromFifo, Whereabouts, InFifo}
use Rattle.rayon_machine_orders.proofs.Words.{same_party, count_book, World, is_open, last_of, but_last, holds_in, one, times, in_fifo, share, shares_in, shares, is_busy, Closed}
use Rattle.rayon_machine_laws.proofs.Frame.{either, same_party_true, same_party_refl}
use Rattle.rayon_machine_laws.proofs.Lists.{times_drop}
use Rattle.rayon_machine_laws.proofs.Amounts.{raises, raises_in, all_raises}
use Rattle.rayon_machine_laws.proofs.PlacedRuns.{JobsHold, once}
use Rattle.rayon_machine_laws.proofs.Claims.{Says, SaysPlan, Tied, counts_detached, is_detached, is_part}
use Rattle.rayon_machine_laws.proofs.ClaimRuns.{CallsHold}
use Rattle.rayon_machine_laws.proofs.ShareActs.{with_job, SharesHold, one_most, one_is}
use Rattle.rayon_machine_laws.proofs.ShareSteps.{self_one}
use Rattle.rayon_machine_laws.proofs.Feeders.{FeedersHold, waits}
pub use Rattle.rayon_machine_orders.specs.Books.{slot_number, Written, WrittenAll, InUse, IsCast}
use Rattle.rayon_machine_orders.proofs.EarlyStates.{EarlyHold}
pub use Rattle.rayon_machine_orders.proofs.BookStates.{is_unfilled, writes, book_of, names, AtBook, AtState, IsWorker, raising}
use Rattle.rayon_machine_orders.proofs.BookStates.{line_state, at_kept, state_holds, book_knows, book_made, book_unparted, writes_tied, holds_book}

-- the last job of a FIFO list is in it
lined_busy : (w : World) → JobsHold w → (p i : ℕ) (b : Option ℕ) (t : ℕ) → last_of ((w.seat p i).fifo b) ≡ Some t → is_busy (w.job t).at ≡ true
lined_busy w h p i b t e = by ((w.job t).at) (let a : times t ((w.seat p i).fifo b) ≡ one (in_fifo p i b (w.job t).at) = (once w h).fifo p i b t in let d : times t ((w.seat p i).fifo b) ≡ (one (t == t) + times t (but_last ((w.seat p i).fifo b))) = times_drop ((w.seat p i).fifo b) t t e in
    let c : one (t == t) ≡ 1 = self_one t in omega (arith, a, d, c))
  where
    by : (v : Whereabouts) → 1 ≤ one (in_fifo p i b v) → is_busy v ≡ true
    by (InFifo r j d) z = refl
    by _ z = absurd (omega (arith, z))

line_worker : (w : World) (r : Party) (k : Count) (u t : ℕ) → names (line_state k u) t ≡ true → AtState w r (line_state k u) → IsWorker r
line_worker w r (OfScope c o) u t z y = y.1
line_worker w r _ u t z y = absurd (cc)

waits_worker : (w : World) (r : Party) (x : Place) (f : Feeding) (t : ℕ) → waits x ≡ Some f → names (book_of x) t ≡ true → AtBook w r x → IsWorker r
waits_worker w r (LookForToken g) f t e z y = line_worker w r g.count g.job t z y
waits_worker w r (PushToken g v) f t e z y = line_worker w r g.count g.job t z y
waits_worker w r (TakeFromFifo g) f t e z y = line_worker w r g.count g.job t z y
waits_worker w r _ f t e z y = absurd (cc)

waits_says : (w : World) (r : Party) (x : Place) (f : Feeding) → waits x ≡ Some f → Says w r x → SaysPlan w r (Feed f)
waits_says w r (LookForToken g) f e s = subst (λ k. SaysPlan w r (Feed k)) (let i : g ≡ f = cc in i) s
waits_says w r (PushToken g v) f e s = subst (λ k. SaysPlan w r (Feed k)) (let i : g ≡ f = cc in i) s
waits_says w r (TakeFromFifo g) f e s = subst (λ k. SaysPlan w r (Feed k)) (let i : g ≡ f = cc in i) s
waits_says w r _ f e s = absurd (cc)

-- no two parties know the number of one job
others_apart : (w : World) → SharesHold w → FeedersHold w → (q r : Party) → same_party r q ≡ false → AtBook w r (w.stack r).top → (t : ℕ) → 1 ≤ shares t (w.stack q) → names (book_of (w.stack r).top) t ≡ true → ⊥
others_apart w h fe q r d at t m z =
    let a : shares t (w.stack q) + with_job (w.job t) ≤ one (w.job t).counted = (h.jobs t).alone q in
    let b : one (w.job t).counted ≤ 1 = one_most ((w.job t).counted) in
    elim (book_knows ((w.stack r).top) t z) [
      | inl s ↦ absurd (let c : shares t (w.stack r) + shares t (w.stack q) ≤ one (w.job t).counted = (h.jobs t).apart r q d in let e : shares t (w.stack r) ≡ (share t ((w.stack r).top) + shares_in t ((w.stack r).below)) = refl in omega (arith, a, b, c, e, s, m))
      | inr v ↦ elim v [
        | inl s ↦ absurd (let c : all_raises t (w.stack r) + one (w.job t).counted ≤ 1 = h.unraised r t in let e : all_raises t (w.stack r) ≡ (raises t ((w.stack r).top) + raises_in t ((w.stack r).below)) = refl in omega (arith, a, c, e, s, m))
        | inr s ↦ absurd (let c : with_job (w.job t) ≡ 1 = lined (s.0) ((s.1).0) ((s.1).1) in omega (arith, a, b, c, m))
      ]
    ]
  where
    lined : (f : Feeding) → waits ((w.stack r).top) ≡ Some f → t ≡ f.job → with_job (w.job t) ≡ 1
    lined f e i = ap (λ n. with_job (w.job n)) i ∙ ap (λ k. one (is_detached k && is_busy (w.job f.job).at)) ((says.0).kind) ∙ ap (λ b. one (b && is_busy (w.job f.job).at)) (counts_detached f.count) ∙ ap one (busy (waits_worker w r ((w.stack r).top) f t e z at))
      where
        says : SaysPlan w r (Feed f)
        says = waits_says w r ((w.stack r).top) f e (((h.calls).says r).top)

        busy : IsWorker r → is_busy (w.job f.job).at ≡ true
        busy y = lined_busy w ((h.calls).jobs) (y.0) ((y.1).0) (count_book f.count) f.job ((fe.feeds (y.0) ((y.1).0) f (ap (λ s. waits ((w.stack s).top)) (sym ((y.1).1)) ∙ e)).1)

-- what holds of the books of every world
pub record BooksHold (w : World) : Type 0 where
  pub early : EarlyHold w
  pub feeders : FeedersHold w
  pub at : (q : Party) → AtBook w q (w.stack q).top
  pub held : (c : ℕ) (r : Party) → (w.call c).writer ≡ Some r → writes (w.stack r).top ≡ Some c
  pub busy : (t : ℕ) → t + 1 ≤ w.jobs → (c : ℕ) (o : Party) → (w.job t).kind ≡ Scoped c o → is_busy (w.job t).at ≡ true → is_unfilled (w.job t).slot ≡ true
  pub below : (t : ℕ) → t + 1 ≤ w.jobs → (c : ℕ) (o : Party) (n : ℕ) → (w.job t).kind ≡ Scoped c o → slot_number (w.job t).slot ≡ Some n → n + 1 ≤ (w.call c).slots
  pub apart : (t s : ℕ) → t + 1 ≤ w.jobs → s + 1 ≤ w.jobs → (c : ℕ) (o p : Party) (n : ℕ) → (w.job t).kind ≡ Scoped c o → (w.job s).kind ≡ Scoped c p → slot_number (w.job t).slot ≡ Some n → slot_number (w.job s).slot ≡ Some n → t ≡ s
  pub each : (c n : ℕ) → n + 1 ≤ (w.call c).slots → InUse w c n ⊎ IsCast w c
  pub counted : (t : ℕ) → t + 1 ≤ w.jobs → (c : ℕ) (o : Party) → (w.job t).kind ≡ Scoped c o → is_unfilled (w.job t).slot ≡ true → (w.job t).counted ≡ true
  pub unmade : (t : ℕ) → w.jobs ≤ t → (w.job t).slot ≡ Closed
  pub uncalled : (c : ℕ) → w.calls ≤ c → ((w.call c).writer ≡ None) × ((w.call c).slots ≡ 0)
  pub enters : (q : Party) (c : ℕ) → raising (w.stack q).top ≡ Some c → holds_in c (w.stack q).below ≡ true

calls_of : (w : World) → BooksHold w → CallsHold w
calls_of w h = (((h.early).fills).hold).calls

cast_on : (w u : World) → w.jobs ≤ u.jobs → ((t : ℕ) → t + 1 ≤ w.jobs → (u.job t).kind ≡ (w.job t).kind) → (c : ℕ) → IsCast w c → IsCast u c
cast_on w u j k c y = record { job = y.job; owner = y.owner; made = (let a : y.job + 1 ≤ w.jobs = y.made in omega (arith, a, j)); kind = k (y.job) (y.made) ∙ y.kind }

-- a step that leaves the books, and the numbers of the jobs, as they were
pub record Quiet (w u : World) (q : Party) : Type 0 where
  pub jobs : w.jobs ≤ u.jobs
  pub calls : w.calls ≤ u.calls
  pub stack : (r : Party) → same_party r q ≡ false → u.stack r ≡ w.stack r
  pub top : AtBook u q (u.stack q).top
  pub wrote : (c : ℕ) → writes (w.stack q).top ≡ Some c → writes (u.stack q).top ≡ Some c
  pub enters : (c : ℕ) → raising (u.stack q).top ≡ Some c → holds_in c (u.stack q).below ≡ true
  pub slot : (t : ℕ) → t + 1 ≤ w.jobs → is_part (w.job t).kind ≡ false → (u.job t).slot ≡ (w.job t).slot
  pub fresh : (t : ℕ) → w.jobs ≤ t → (u.job t).slot ≡ Closed
  pub call : (c : ℕ) → c + 1 ≤ w.calls → ((u.call c).writer ≡ (w.call c).writer) × ((u.call c).slots ≡ (w.call c).slots)
  pub opened : (c : ℕ) → w.calls ≤ c → (u.call c).writer ≡ None
  pub empty : (c : ℕ) → w.calls ≤ c → ((u.call c).slots ≡ 0) ⊎ ((c + 1 ≤ u.calls) × IsCast u c)
  pub kind : (t : ℕ) → t + 1 ≤ w.jobs → (u.job t).kind ≡ (w.job t).kind
  pub busy : (t : ℕ) → t + 1 ≤ w.jobs → (c : ℕ) (o : Party) → (w.job t).kind ≡ Scoped c o → is_busy (u.job t).at ≡ true → (is_busy (w.job t).at ≡ true) ⊎ (is_unfilled (w.job t).slot ≡ true)
  pub idle : (t : ℕ) → w.jobs ≤ t → t + 1 ≤ u.jobs → is_busy (u.job t).at ≡ false
  pub counted : (t : ℕ) → t + 1 ≤ w.jobs → (c : ℕ) (o : Party) → (w.job t).kind ≡ Scoped c o → is_unfilled (w.job t).slot ≡ true → (w.job t).counted ≡ true → (u.job t).counted ≡ true

pub quiet_books : (w u : World) (q : Party) → BooksHold w → EarlyHold u → FeedersHold u → Quiet w u q → BooksHold u
quiet_books w u q h e fe k = record {
  early = e;
  feeders = fe;
  at = λ r. at r (same_party r q) refl;
  held = λ c r z. held c r z (ltb c w.calls) refl;
  busy = λ t l c o y b. busy t c o y b (ltb t w.jobs) refl l;
  below = λ t l c o n y z. below t c o n y z (ltb t w.jobs) refl;
  apart = λ t s l m c o p n y z i j. apart t s c o p n y z i j (ltb t w.jobs) (ltb s w.jobs) refl refl;
  each = λ c n m. each c n m (ltb c w.calls) refl;
  counted = λ t l c o y z. counted t c o y z (ltb t w.jobs) refl;
  unmade = λ t l. k.fresh t (let a : w.jobs ≤ u.jobs = k.jobs in omega (arith, a, l));
  uncalled = λ c l. (k.opened c (further c l), elim (k.empty c (further c l)) [ inl y ↦ y | inr y ↦ absurd (let a : c + 1 ≤ u.calls = y.0 in omega (arith, a, l)) ]);
  enters = λ r y z. enters r y (same_party r q) refl z;
}
  where
    further : (c : ℕ) → u.calls ≤ c → w.calls ≤ c
    further c l = let a : w.calls ≤ u.calls = k.calls in omega (arith, a, l)

    old : (t n : ℕ) → ltb t n ≡ true → t + 1 ≤ n
    old t n y = let i : t < n = ltb-true t n y in omega (arith, i)

    enters : (r : Party) (y : ℕ) (b : Bool) → same_party r q ≡ b → raising (u.stack r).top ≡ Some y → holds_in y (u.stack r).below ≡ true
    enters r y true d z = subst (λ s. holds_in y (u.stack s).below ≡ true) (sym (same_party_true r q d)) (k.enters y (ap (λ s. raising (u.stack s).top) (sym (same_party_true r q d)) ∙ z))
    enters r y false d z = ap (λ s. holds_in y (s.below)) (k.stack r d) ∙ h.enters r y (ap (λ s. raising (s.top)) (sym (k.stack r d)) ∙ z)

    none : (t n : ℕ) → w.jobs ≤ t → slot_number (u.job t).slot ≡ Some n → ⊥
    none t n l z = let a : slot_number (u.job t).slot ≡ None = ap slot_number (k.fresh t l) in let b : Some n ≡ None = sym z ∙ a in cc

    at : (r : Party) (b : Bool) → same_party r q ≡ b → AtBook u r (u.stack r).top
    at r true z = subst (λ s. AtBook u s (u.stack s).top) (sym (same_party_true r q z)) k.top
    at r false z = subst (λ s. AtBook u r s.top) (sym (k.stack r z)) (at_kept w u r (book_of (w.stack r).top)
        (λ t i. k.slot t (book_made w r ((w.stack r).top) t i (((calls_of w h).says r).top)) (book_unparted w r ((w.stack r).top) t i (((calls_of w h).says r).top)))
        (λ c i. k.call c ((writes_tied w r ((w.stack r).top) c i (((calls_of w h).says r).top)).1.number)) (h.at r))

    moved : (c : ℕ) (r : Party) (b : Bool) → same_party r q ≡ b → writes (w.stack r).top ≡ Some c → writes (u.stack r).top ≡ Some c
    moved c r true z y = subst (λ s. writes (u.stack s).top ≡ Some c) (sym (same_party_true r q z)) (k.wrote c (ap (λ s. writes (w.stack s).top) (sym (same_party_true r q z)) ∙ y))
    moved c r false z y = ap (λ s. writes (s.top)) (k.stack r z) ∙ y

    held : (c : ℕ) (r : Party) → (u.call c).writer ≡ Some r → (b : Bool) → ltb c w.calls ≡ b → writes (u.stack r).top ≡ Some c
    held c r z true y = moved c r (same_party r q) refl (h.held c r (sym ((k.call c (old c w.calls y)).0) ∙ z))
    held c r z false y = absurd (let a : (u.call c).writer ≡ None = k.opened c (ltb-false c w.calls y) in let b : Some r ≡ None = sym z ∙ a in cc)

    busy : (t c : ℕ) (o : Party) → (u.job t).kind ≡ Scoped c o → is_busy (u.job t).at ≡ true → (b : Bool) → ltb t w.jobs ≡ b → t + 1 ≤ u.jobs → is_unfilled (u.job t).slot ≡ true
    busy t c o y z true v l = let m : t + 1 ≤ w.jobs = old t w.jobs v in let kd : (w.job t).kind ≡ Scoped c o = sym (k.kind t m) ∙ y in ap is_unfilled (k.slot t m (ap is_part kd)) ∙ (elim (k.busy t m c o kd z) [ inl i ↦ h.busy t m c o kd i | inr i ↦ i ])
    busy t c o y z false v l = absurd (let a : true ≡ false = sym z ∙ k.idle t (ltb-false t w.jobs v) l in cc)

    below : (t c : ℕ) (o : Party) (n : ℕ) → (u.job t).kind ≡ Scoped c o → slot_number (u.job t).slot ≡ Some n → (b : Bool) → ltb t w.jobs ≡ b → n + 1 ≤ (u.call c).slots
    below t c o n y z true v = let m : t + 1 ≤ w.jobs = old t w.jobs v in let kd : (w.job t).kind ≡ Scoped c o = sym (k.kind t m) ∙ y in
        let a : n + 1 ≤ (w.call c).slots = h.below t m c o n kd (ap slot_number (sym (k.slot t m (ap is_part kd))) ∙ z) in
        let i : Tied w c o = (calls_of w h).entries t m c o kd in
        let d : (u.call c).slots ≡ (w.call c).slots = (k.call c (i.number)).1 in omega (arith, a, d)
    below t c o n y z false v = absurd (none t n (ltb-false t w.jobs v) z)

    apart : (t s c : ℕ) (o p : Party) (n : ℕ) → (u.job t).kind ≡ Scoped c o → (u.job s).kind ≡ Scoped c p → slot_number (u.job t).slot ≡ Some n → slot_number (u.job s).slot ≡ Some n → (a b : Bool) → ltb t w.jobs ≡ a → ltb s w.jobs ≡ b → t ≡ s
    apart t s c o p n y z i j true true v x = let l : t + 1 ≤ w.jobs = old t w.jobs v in let m : s + 1 ≤ w.jobs = old s w.jobs x in
        h.apart t s l m c o p n (sym (k.kind t l) ∙ y) (sym (k.kind s m) ∙ z) (ap slot_number (sym (k.slot t l (ap is_part (sym (k.kind t l) ∙ y)))) ∙ i) (ap slot_number (sym (k.slot s m (ap is_part (sym (k.kind s m) ∙ z)))) ∙ j)
    apart t s c o p n y z i j false b v x = absurd (none t n (ltb-false t w.jobs v) i)
    apart t s c o p n y z i j a false v x = absurd (none s n (ltb-false s w.jobs x) j)

    each : (c n : ℕ) → n + 1 ≤ (u.call c).slots → (b : Bool) → ltb c w.calls ≡ b → InUse u c n ⊎ IsCast u c
    each c n m true v = elim (h.each c n (let d : (u.call c).slots ≡ (w.call c).slots = (k.call c (old c w.calls v)).1 in omega (arith, d, m))) [
      | inl y ↦ inl (record { job = y.job; owner = y.owner; made = (let a : y.job + 1 ≤ w.jobs = y.made in let b : w.jobs ≤ u.jobs = k.jobs in omega (arith, a, b)); kind = k.kind (y.job) (y.made) ∙ y.kind; slot = ap slot_number (k.slot (y.job) (y.made) (ap is_part (y.kind))) ∙ y.slot })
      | inr y ↦ inr (cast_on w u (k.jobs) (k.kind) c y)
    ]
    each c n m false v = elim (k.empty c (ltb-false c w.calls v)) [ inl y ↦ absurd (omega (arith, m, y)) | inr y ↦ inr (y.1) ]

    counted : (t c : ℕ) (o : Party) → (u.job t).kind ≡ Scoped c o → is_unfilled (u.job t).slot ≡ true → (b : Bool) → ltb t w.jobs ≡ b → (u.job t).counted ≡ true
    counted t c o y z true v = let m : t + 1 ≤ w.jobs = old t w.jobs v in let kd : (w.job t).kind ≡ Scoped c o = sym (k.kind t m) ∙ y in let f : is_unfilled (w.job t).slot ≡ true = ap is_unfilled (sym (k.slot t m (ap is_part kd))) ∙ z in k.counted t m c o kd f (h.counted t m c o kd f)
    counted t c o y z false v = absurd (let a : is_unfilled (u.job t).slot ≡ false = ap is_unfilled (k.fresh t (ltb-false t w.jobs v)) in let b : true ≡ false = sym z ∙ a in cc)

-- an act on the book of a scope: it opens, takes back or fills the numbers of these jobs of the scope, or leaves the book
pub record Touched (w u : World) (q : Party) (D : ℕ → Bool) (c0 : ℕ) : Type 0 where
  pub owner : Party
  pub known : c0 + 1 ≤ w.calls
  pub named : (t : ℕ) → D t ≡ true → (t + 1 ≤ w.jobs) × ((w.job t).kind ≡ Scoped c0 owner)
  pub jobs : u.jobs ≡ w.jobs
  pub calls : u.calls ≡ w.calls
  pub stack : (r : Party) → same_party r q ≡ false → u.stack r ≡ w.stack r
  pub kind : (t : ℕ) → (u.job t).kind ≡ (w.job t).kind
  pub slot : (t : ℕ) → D t ≡ false → (u.job t).slot ≡ (w.job t).slot
  pub call : (c : ℕ) → (c == c0) ≡ false → ((u.call c).writer ≡ (w.call c).writer) × ((u.call c).slots ≡ (w.call c).slots)
  pub counted : (t : ℕ) → (u.job t).counted ≡ (w.job t).counted
  pub has : (t : ℕ) → D t ≡ true → 1 ≤ shares t (w.stack q)
  pub able : is_open q (w.call c0).writer ≡ true
  pub top : AtBook u q (u.stack q).top
  pub holder : (r : Party) → (u.call c0).writer ≡ Some r → (r ≡ q) × (writes (u.stack q).top ≡ Some c0)
  pub wrote : (c : ℕ) → (c == c0) ≡ false → writes (w.stack q).top ≡ Some c → ⊥
  pub number : (t n : ℕ) → D t ≡ true → slot_number (u.job t).slot ≡ Some n → (n + 1 ≤ (u.call c0).slots) × ((slot_number (w.job t).slot ≡ Some n) ⊎ ((w.call c0).slots ≤ n))
  pub sole : (t s n : ℕ) → D t ≡ true → D s ≡ true → slot_number (u.job t).slot ≡ Some n → slot_number (u.job s).slot ≡ Some n → t ≡ s
  pub room : (n : ℕ) → n + 1 ≤ (w.call c0).slots → (n + 1 ≤ (u.call c0).slots) ⊎ ((t : ℕ) × ((D t ≡ true) × (slot_number (w.job t).slot ≡ Some n)))
  pub kept : (t n : ℕ) → D t ≡ true → slot_number (w.job t).slot ≡ Some n → n + 1 ≤ (u.call c0).slots → slot_number (u.job t).slot ≡ Some n
  pub given : (n : ℕ) → (w.call c0).slots ≤ n → n + 1 ≤ (u.call c0).slots → (t : ℕ) × ((D t ≡ true) × (slot_number (u.job t).slot ≡ Some n))
  pub busy : (t : ℕ) → t + 1 ≤ w.jobs → (c : ℕ) (o : Party) → (w.job t).kind ≡ Scoped c o → is_busy (u.job t).at ≡ true → (is_busy (w.job t).at ≡ true) ⊎ (is_unfilled (u.job t).slot ≡ true)
  pub raised : (c : ℕ) → raising (u.stack q).top ≡ Some c → holds_in c (u.stack q).below ≡ true

pub touched_books : (w u : World) (q : Party) (D : ℕ → Bool) (c0 : ℕ) → BooksHold w → EarlyHold u → FeedersHold u → Touched w u q D c0 → BooksHold u
touched_books w u q D c0 h e fe k = record {
  early = e;
  feeders = fe;
  at = λ r. at r (same_party r q) refl;
  held = λ c r z. held c r z (c == c0) refl;
  busy = λ t l c o y b. busy t l c o y b (D t) refl;
  below = λ t l c o n y z. below t l c o n y z (D t) (c == c0) refl refl;
  apart = λ t s l m c o p n y z i j. apart t s l m c o p n y z i j (D t) (D s) refl refl;
  each = λ c n m. each c n m (c == c0) refl;
  counted = λ t l c o y z. counted t l c o y z (D t) refl;
  unmade = λ t l. k.slot t (new t l) ∙ h.unmade t (omega (arith, l, k.jobs));
  uncalled = λ c l. ((k.call c (unknown c l)).0 ∙ (h.uncalled c (omega (arith, l, k.calls))).0, (k.call c (unknown c l)).1 ∙ (h.uncalled c (omega (arith, l, k.calls))).1);
  enters = λ r y z. enters r y (same_party r q) refl z;
}
  where
    enters : (r : Party) (y : ℕ) (b : Bool) → same_party r q ≡ b → raising (u.stack r).top ≡ Some y → holds_in y (u.stack r).below ≡ true
    enters r y true d z = ap (λ s. holds_in y (u.stack s).below) (same_party_true r q d) ∙ k.raised y (ap (λ s. raising (u.stack s).top) (sym (same_party_true r q d)) ∙ z)
    enters r y false d z = ap (λ s. holds_in y (s.below)) (k.stack r d) ∙ h.enters r y (ap (λ s. raising (s.top)) (sym (k.stack r d)) ∙ z)

    apart_from : (a b : ℕ) → (a ≡ b → ⊥) → (a == b) ≡ false
    apart_from a b f = elim (either (a == b)) [ inl y ↦ absurd (f (eqb-true a b y)) | inr y ↦ y ]

    out : (t : ℕ) → (D t ≡ true → ⊥) → D t ≡ false
    out t f = elim (either (D t)) [ inl y ↦ absurd (f y) | inr y ↦ y ]

    new : (t : ℕ) → u.jobs ≤ t → D t ≡ false
    new t l = out t (λ d. (let a : t + 1 ≤ w.jobs = (k.named t d).0 in let b : u.jobs ≡ w.jobs = k.jobs in omega (arith, a, b, l)))

    unknown : (c : ℕ) → u.calls ≤ c → (c == c0) ≡ false
    unknown c l = apart_from c c0 (λ i. (let a : c0 + 1 ≤ w.calls = k.known in let b : u.calls ≡ w.calls = k.calls in omega (arith, a, b, l, i)))

    was : (t : ℕ) → t + 1 ≤ u.jobs → t + 1 ≤ w.jobs
    was t l = let b : u.jobs ≡ w.jobs = k.jobs in omega (arith, b, l)

    -- another party's place names another job, and holds another book
    other : (r : Party) → same_party r q ≡ false → (t : ℕ) → names (book_of (w.stack r).top) t ≡ true → D t ≡ false
    other r d t z = out t (λ y. others_apart w (((h.early).fills).hold) (h.feeders) q r d (h.at r) t (k.has t y) z)

    shut : (r : Party) → same_party r q ≡ false → (w.call c0).writer ≡ Some r → ⊥
    shut r d z = let a : is_open q (w.call c0).writer ≡ same_party q r = ap (is_open q) z in let b : same_party q r ≡ true = sym a ∙ k.able in let c : same_party r q ≡ true = ap (same_party r) (same_party_true q r b) ∙ same_party_refl r in let f : true ≡ false = sym c ∙ d in cc

    unheld : (r : Party) → same_party r q ≡ false → (c : ℕ) → holds_book (book_of (w.stack r).top) ≡ Some c → (c == c0) ≡ false
    unheld r d c z = apart_from c c0 (λ i. shut r d (ap (λ n. (w.call n).writer) (sym i) ∙ state_holds w r (book_of (w.stack r).top) c z (h.at r)))

    at : (r : Party) (b : Bool) → same_party r q ≡ b → AtBook u r (u.stack r).top
    at r true z = subst (λ s. AtBook u s (u.stack s).top) (sym (same_party_true r q z)) k.top
    at r false z = subst (λ s. AtBook u r s.top) (sym (k.stack r z)) (at_kept w u r (book_of (w.stack r).top) (λ t i. k.slot t (other r z t i)) (λ c i. k.call c (unheld r z c i)) (h.at r))

    still : (c : ℕ) (r : Party) → (c == c0) ≡ false → writes (w.stack r).top ≡ Some c → (b : Bool) → same_party r q ≡ b → writes (u.stack r).top ≡ Some c
    still c r d y true z = absurd (k.wrote c d (ap (λ s. writes (w.stack s).top) (sym (same_party_true r q z)) ∙ y))
    still c r d y false z = ap (λ s. writes (s.top)) (k.stack r z) ∙ y

    held : (c : ℕ) (r : Party) → (u.call c).writer ≡ Some r → (b : Bool) → (c == c0) ≡ b → writes (u.stack r).top ≡ Some c
    held c r z true y = let i : c ≡ c0 = eqb-true c c0 y in let d : (r ≡ q) × (writes (u.stack q).top ≡ Some c0) = k.holder r (ap (λ n. (u.call n).writer) (sym i) ∙ z) in ap (λ s. writes (u.stack s).top) (d.0) ∙ d.1 ∙ ap Some (sym i)
    held c r z false y = still c r y (h.held c r (sym ((k.call c y).0) ∙ z)) (same_party r q) refl

    had : (t : ℕ) → D t ≡ true → (w.job t).counted ≡ true
    had t y = one_is ((w.job t).counted) (let a : shares t (w.stack q) + with_job (w.job t) ≤ one (w.job t).counted = ((((h.early).fills).hold).jobs t).alone q in let b : 1 ≤ shares t (w.stack q) = k.has t y in omega (arith, a, b))

    -- a job that is touched does not keep its share itself
    idle : (t : ℕ) → D t ≡ true → is_busy (w.job t).at ≡ true → ⊥
    idle t y b = absurd (let a : shares t (w.stack q) + with_job (w.job t) ≤ one (w.job t).counted = ((((h.early).fills).hold).jobs t).alone q in let c : 1 ≤ shares t (w.stack q) = k.has t y in let d : one (w.job t).counted ≤ 1 = one_most ((w.job t).counted) in
        let f : with_job (w.job t) ≡ 1 = ap (λ v. one (is_detached v && is_busy (w.job t).at)) ((k.named t y).1) ∙ ap one b in omega (arith, a, c, d, f))

    busy : (t : ℕ) → t + 1 ≤ u.jobs → (c : ℕ) (o : Party) → (u.job t).kind ≡ Scoped c o → is_busy (u.job t).at ≡ true → (b : Bool) → D t ≡ b → is_unfilled (u.job t).slot ≡ true
    busy t l c o y z true v = elim (k.busy t (was t l) c o (sym (k.kind t) ∙ y) z) [ inl i ↦ absurd (idle t v i) | inr i ↦ i ]
    busy t l c o y z false v = let kd : (w.job t).kind ≡ Scoped c o = sym (k.kind t) ∙ y in elim (k.busy t (was t l) c o kd z) [ inl i ↦ ap is_unfilled (k.slot t v) ∙ h.busy t (was t l) c o kd i | inr i ↦ i ]

    scope_of : (c d : ℕ) (o p : Party) → Scoped c o ≡ Scoped d p → c ≡ d
    scope_of c d o p i = cc

    named : (t : ℕ) (c : ℕ) (o : Party) → D t ≡ true → (u.job t).kind ≡ Scoped c o → c ≡ c0
    named t c o v y = scope_of c c0 o k.owner (sym y ∙ k.kind t ∙ (k.named t v).1)

    below : (t : ℕ) → t + 1 ≤ u.jobs → (c : ℕ) (o : Party) (n : ℕ) → (u.job t).kind ≡ Scoped c o → slot_number (u.job t).slot ≡ Some n → (a b : Bool) → D t ≡ a → (c == c0) ≡ b → n + 1 ≤ (u.call c).slots
    below t l c o n y z true b v x = subst (λ m. n + 1 ≤ (u.call m).slots) (sym (named t c o v y)) ((k.number t n v z).0)
    below t l c o n y z false false v x = let a : n + 1 ≤ (w.call c).slots = h.below t (was t l) c o n (sym (k.kind t) ∙ y) (ap slot_number (sym (k.slot t v)) ∙ z) in let d : (u.call c).slots ≡ (w.call c).slots = (k.call c x).1 in omega (arith, a, d)
    below t l c o n y z false true v x =
        let i : c ≡ c0 = eqb-true c c0 x in
        let kd : (w.job t).kind ≡ Scoped c0 o = sym (k.kind t) ∙ y ∙ ap (λ m. Scoped m o) i in
        let s : slot_number (w.job t).slot ≡ Some n = ap slot_number (sym (k.slot t v)) ∙ z in
        subst (λ m. n + 1 ≤ (u.call m).slots) (sym i) (elim (k.room n (h.below t (was t l) c0 o n kd s)) [
          | inl g ↦ g
          | inr g ↦ absurd (let p : t ≡ g.0 = h.apart t (g.0) (was t l) ((k.named (g.0) ((g.1).0)).0) c0 o k.owner n kd ((k.named (g.0) ((g.1).0)).1) s ((g.1).1) in let r : true ≡ false = sym ((g.1).0) ∙ ap D (sym p) ∙ v in cc)
        ])

    -- the number of a job that is touched is no other's
    mixed : (t s : ℕ) → t + 1 ≤ u.jobs → (c : ℕ) (o p : Party) (n : ℕ) → (u.job t).kind ≡ Scoped c o → (u.job s).kind ≡ Scoped c p → slot_number (u.job t).slot ≡ Some n → slot_number (u.job s).slot ≡ Some n → D t ≡ false → D s ≡ true → ⊥
    mixed t s l c o p n y z i j v x =
        let d : c ≡ c0 = named s c p x z in
        let kd : (w.job t).kind ≡ Scoped c0 o = sym (k.kind t) ∙ y ∙ ap (λ m. Scoped m o) d in
        let a : slot_number (w.job t).slot ≡ Some n = ap slot_number (sym (k.slot t v)) ∙ i in
        elim ((k.number s n x j).1) [
          | inl g ↦ (let b : t ≡ s = h.apart t s (was t l) ((k.named s x).0) c0 o k.owner n kd ((k.named s x).1) a g in let r : true ≡ false = sym x ∙ ap D (sym b) ∙ v in cc)
          | inr g ↦ absurd (let b : n + 1 ≤ (w.call c0).slots = h.below t (was t l) c0 o n kd a in omega (arith, b, g))
        ]

    apart : (t s : ℕ) → t + 1 ≤ u.jobs → s + 1 ≤ u.jobs → (c : ℕ) (o p : Party) (n : ℕ) → (u.job t).kind ≡ Scoped c o → (u.job s).kind ≡ Scoped c p → slot_number (u.job t).slot ≡ Some n → slot_number (u.job s).slot ≡ Some n → (a b : Bool) → D t ≡ a → D s ≡ b → t ≡ s
    apart t s l m c o p n y z i j true true v x = k.sole t s n v x i j
    apart t s l m c o p n y z i j false false v x = h.apart t s (was t l) (was s m) c o p n (sym (k.kind t) ∙ y) (sym (k.kind s) ∙ z) (ap slot_number (sym (k.slot t v)) ∙ i) (ap slot_number (sym (k.slot s x)) ∙ j)
    apart t s l m c o p n y z i j false true v x = absurd (mixed t s l c o p n y z i j v x)
    apart t s l m c o p n y z i j true false v x = absurd (mixed s t m c p o n z y j i x v)

    on : (t : ℕ) → t + 1 ≤ w.jobs → t + 1 ≤ u.jobs
    on t l = let b : u.jobs ≡ w.jobs = k.jobs in omega (arith, b, l)

    more : w.jobs ≤ u.jobs
    more = let b : u.jobs ≡ w.jobs = k.jobs in omega (arith, b)

    -- a number that was some job's is so still
    used : (c n : ℕ) → n + 1 ≤ (u.call c).slots → InUse w c n ⊎ IsCast w c → (b : Bool) → (c == c0) ≡ b → InUse u c n ⊎ IsCast u c
    used c n m (inr y) b x = inr (cast_on w u more (λ t l. k.kind t) c y)
    used c n m (inl y) b x = inl (record { job = y.job; owner = y.owner; made = on (y.job) (y.made); kind = k.kind (y.job) ∙ y.kind; slot = by (D (y.job)) refl })
      where
        by : (a : Bool) → D (y.job) ≡ a → slot_number (u.job y.job).slot ≡ Some n
        by false v = ap slot_number (k.slot (y.job) v) ∙ y.slot
        by true v = k.kept (y.job) n v (y.slot) (subst (λ i. n + 1 ≤ (u.call i).slots) (named (y.job) c (y.owner) v (k.kind (y.job) ∙ y.kind)) m)

    each : (c n : ℕ) → n + 1 ≤ (u.call c).slots → (b : Bool) → (c == c0) ≡ b → InUse u c n ⊎ IsCast u c
    each c n m false x = used c n m (h.each c n (let d : (u.call c).slots ≡ (w.call c).slots = (k.call c x).1 in omega (arith, d, m))) false x
    each c n m true x = elim (either (ltb n (w.call c0).slots)) [
      | inl y ↦ used c n m (subst (λ i. InUse w i n ⊎ IsCast w i) (sym (eqb-true c c0 x)) (h.each c0 n (let i : n < (w.call c0).slots = ltb-true n (w.call c0).slots y in omega (arith, i)))) true x
      | inr y ↦ inl (subst (λ i. InUse u i n) (sym (eqb-true c c0 x)) (let g : (t : ℕ) × ((D t ≡ true) × (slot_number (u.job t).slot ≡ Some n)) = k.given n (ltb-false n (w.call c0).slots y) (subst (λ i. n + 1 ≤ (u.call i).slots) (eqb-true c c0 x) m) in
          record { job = g.0; owner = k.owner; made = on (g.0) ((k.named (g.0) ((g.1).0)).0); kind = k.kind (g.0) ∙ (k.named (g.0) ((g.1).0)).1; slot = (g.1).1 }))
    ]

    counted : (t : ℕ) → t + 1 ≤ u.jobs → (c : ℕ) (o : Party) → (u.job t).kind ≡ Scoped c o → is_unfilled (u.job t).slot ≡ true → (b : Bool) → D t ≡ b → (u.job t).counted ≡ true
    counted t l c o y z true v = k.counted t ∙ had t v
    counted t l c o y z false v = k.counted t ∙ h.counted t (was t l) c o (sym (k.kind t) ∙ y) (ap is_unfilled (sym (k.slot t v)) ∙ z)
