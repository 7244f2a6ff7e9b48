-- who holds each sleep lock, each scope's book and each FIFO list, in every world of every run
use Rattle.std.proofs.Common.{arith, refl, ◌∙◌, sym, ap, subst, inl, inr}
use Rattle.std.specs.Prelude.{ℕ, Bool, true, false, not, ◌&&◌, ◌==◌, ◌<◌, ◌≤◌, nat_lt, if◌then◌else◌, Option, Some, None, ◌≡◌, ◌⊎◌, IfSome, ⊤, List}
use Rattle.std.proofs.lemmas.Bool.{eqb-true}
use Rattle.rayon_machine_places.specs.declared.place.Party.{Party}
use Rattle.rayon_machine_places.specs.declared.place.Party.TheVariants.{Worker, Caller}
use Rattle.rayon_machine_places.specs.declared.place.Target.TheVariants.{Termination}
use Rattle.rayon_machine_places.specs.declared.place.Latch.{Latch}
use Rattle.rayon_machine_places.specs.declared.place.Plan.{Plan}
use Rattle.rayon_machine_places.specs.declared.place.Plan.TheVariants.{Detach, Here, Send, Fork, Feed, Open, Enter, Gather}
use Rattle.rayon_machine_places.specs.declared.place.Count.{Count}
use Rattle.rayon_machine_places.specs.declared.place.Count.TheVariants.{OfPool, OfScope, OfCast}
use Rattle.rayon_machine_places.specs.declared.place.Feeding.{Feeding}
use Rattle.rayon_machine_places.specs.declared.place.Place.{Place}
use Rattle.rayon_machine_places.specs.declared.place.Place.TheVariants.{ProbeWorking, CloseSlot, LookQueue, PushJob, AddToFifo, LookForToken, PushToken, TakeFromFifo, PushForAll, CloseForAll, DealPieces, Free, Stopped}
use Rattle.rayon_machine_places.specs.declared.act.Act.{Act}
use Rattle.rayon_machine_places.specs.declared.act.Act.TheVariants.{Probe, Lock, Unlock, FifoIn, FifoUndo, FifoOut, Slot, SlotUndo, SlotAll, SlotUndoAll, StoreBody as PutBody, StoreSlot as PutSlot}
use Rattle.rayon_machine_places.specs.declared.act.Seen.{Seen}
use Rattle.rayon_machine_runs.specs.declared.event.Event.{Event}
use Rattle.rayon_machine_runs.specs.declared.event.Event.TheVariants.{Go}
use Rattle.rayon_machine_runs.specs.declared.state.Letter.TheVariants.{Unset}
use Rattle.rayon_machine_places.specs.Places.{act_of, plan_book, plan_count, count_book, count_call, own_pool, own_index, same_party, fresh}
use Rattle.rayon_machine_runs.specs.World.{Shape, Stack, World, Part, Outcome, counts_at, effect, is_free_lock, is_held_by, is_open, last_of, same_list}
use Rattle.rayon_machine_places.specs.Targets.{target_pool, target_worker, target_call, is_own}
use Rattle.rayon_machine_runs.specs.Steps.{after_move, act_at, part_of, step}
use Rattle.rayon_machine_runs.specs.Runs.{IsRun, start, first_place}
use Rattle.rayon_machine_places.specs.declared.shape.PoolShape.{PoolShape}
use Rattle.rayon_machine_laws.specs.Letters.{letter_for}
use Rattle.rayon_machine_laws.specs.Holders.{HolderLaw, IsHolding, book_at, feeds_list, locks_at, others_hold}
use Rattle.rayon_machine_laws.proofs.Frame.{acted_keeps, and_parts, either, if_some_all, if_some_and, if_some_map, same_index, same_list_true, same_party_true, stack_mine, stack_other}
use Rattle.rayon_machine_laws.proofs.Ties.{AllFrames, outcome, result, job_at, shape_at}
use Rattle.rayon_machine_laws.proofs.Calm.{counts_seen, part_at, next_at}
use Rattle.rayon_machine_laws.proofs.Tops.{Leads, frame_light, is_light, is_heavy, leads, leads_tops, top_after}
use Rattle.rayon_machine_laws.proofs.Owners.{count_sets, sets_for, shown}
use Rattle.rayon_machine_laws.proofs.OwnedActs.{Owned, SetsFor}
use Rattle.rayon_machine_laws.proofs.ClaimPlaces.{Says}
use Rattle.rayon_machine_laws.proofs.ClaimMakes.{always_calls}
use Rattle.rayon_machine_laws.proofs.Feeders.{FeedersHold, waits, waits_at}
use Rattle.rayon_machine_laws.proofs.FeederEvents.{always_feeders}
use Rattle.rayon_machine_laws.proofs.Posts.{Locking, Steers, Unless, is_booked, locks_here, books_here, steers}
use Rattle.rayon_machine_laws.proofs.PostEvents.{Based, Stepped, land, live_mild, turns}
use Rattle.rayon_machine_laws.proofs.Stops.{always_stops, made, run_has}
use Rattle.rayon_machine_laws.proofs.Lettered.{always_owned}
use Rattle.rayon_machine_laws.proofs.Holders.{BookKnown, Booked, Books, Deals, LockKnown, Locked, Locks, Retakes, Same, Top, act_booked, act_locked, holders_same}

-- a party holds locks and books exactly where it stands so, and opens and takes back numbers of a book where there is one
pub record HoldersHold (w : World) : Type 0 where
  pub booked : (q : Party) → is_booked (w.stack q).top ≡ true
  pub locks : (q : Party) (p i : ℕ) → is_held_by q (w.seat p i).lock ≡ locks_at q (w.stack q).top p i
  pub books : (q : Party) (c : ℕ) → is_held_by q (w.call c).writer ≡ same_list (book_at (w.stack q).top) (Some c)

-- a place without letters, locks and books
abbrev Quiet : Place → Type 0
Quiet y = ((l : Latch) → letter_for l y ≡ Unset) × ⊤ × ((q : Party) (p i : ℕ) → locks_at q y p i ≡ false) × (book_at y ≡ None) × (is_booked y ≡ true)

-- a party's act, from w to v
record ActHolds (w : World) (q : Party) (v : World) : Type 0 where
  others : (g : Party) → same_party g q ≡ false → v.stack g ≡ w.stack g
  booked : is_booked (v.stack q).top ≡ true
  locks : (p i : ℕ) → is_held_by q (v.seat p i).lock ≡ locks_at q (v.stack q).top p i
  books : (c : ℕ) → is_held_by q (v.call c).writer ≡ same_list (book_at (v.stack q).top) (Some c)
  locked : (g : Party) (p i : ℕ) → same_party g q ≡ false → is_held_by g (v.seat p i).lock ≡ is_held_by g (w.seat p i).lock
  written : (g : Party) (c : ℕ) → same_party g q ≡ false → is_held_by g (v.call c).writer ≡ is_held_by g (w.call c).writer

module _ (w : World) (q : Party) (r : Seen × Part) (h : HoldersHold w) (y : Place) (at : (after_move (next_at w q (w.stack q) (r.0)) (w.stack q).below).top ≡ y) (f : Locked q (w.stack q).top (part_at w q (w.stack q)) r y) (b : Booked q (w.stack q).top (part_at w q (w.stack q)) r y) where
  abbrev x : Place
  x = (w.stack q).top

  abbrev p0 : ℕ
  p0 = target_pool q (act_of q x)

  abbrev i0 : ℕ
  i0 = target_worker q (act_of q x)

  abbrev c0 : ℕ
  c0 = target_call (act_of q x)

  abbrev to : Stack
  to = after_move (next_at w q (w.stack q) (r.0)) (w.stack q).below

  abbrev after_it : World
  after_it = result w q (w.stack q) r

  mine : (after_it.stack q).top ≡ y
  mine = ap (λ s. s.top) (stack_mine w.stack q to) ∙ at

  lock_at : (p i : ℕ) (z : Bool) → ((p == p0) && (i == i0)) ≡ z → is_held_by q (if z then r.1.seat else w.seat p i).lock ≡ locks_at q y p i
  lock_at p i true z = let s : (p ≡ p0) × (i ≡ i0) = same_index p i p0 i0 z in f.own (h.locks q p0 i0) ∙ ap (λ n. locks_at q y n i0) (sym (s.0)) ∙ ap (locks_at q y p) (sym (s.1))
  lock_at p i false z = h.locks q p i ∙ sym (f.away p i z)

  other_lock : (g : Party) (p i : ℕ) → same_party g q ≡ false → (z : Bool) → ((p == p0) && (i == i0)) ≡ z → is_held_by g (if z then r.1.seat else w.seat p i).lock ≡ is_held_by g (w.seat p i).lock
  other_lock g p i d true z = let s : (p ≡ p0) × (i ≡ i0) = same_index p i p0 i0 z in f.other g d (h.locks q p0 i0) ∙ ap (λ n. is_held_by g (w.seat n i0).lock) (sym (s.0)) ∙ ap (λ n. is_held_by g (w.seat p n).lock) (sym (s.1))
  other_lock g p i d false z = refl

  book_at_call : (c : ℕ) (z : Bool) → (c == c0) ≡ z → is_held_by q (if z then r.1.call else w.call c).writer ≡ same_list (book_at y) (Some c)
  book_at_call c true z = b.own (h.books q c0) ∙ ap (λ n. same_list (book_at y) (Some n)) (sym (eqb-true c c0 z))
  book_at_call c false z = h.books q c ∙ sym (b.away c z)

  other_book : (g : Party) (c : ℕ) → same_party g q ≡ false → (z : Bool) → (c == c0) ≡ z → is_held_by g (if z then r.1.call else w.call c).writer ≡ is_held_by g (w.call c).writer
  other_book g c d true z = b.other g d ∙ ap (λ n. is_held_by g (w.call n).writer) (sym (eqb-true c c0 z))
  other_book g c d false z = refl

  acted : is_booked y ≡ true → ActHolds w q after_it
  acted k = record {
    others = λ g d. stack_other w.stack q to g d;
    booked = ap is_booked mine ∙ k;
    locks = λ p i. lock_at p i ((p == p0) && (i == i0)) refl ∙ ap (λ z. locks_at q z p i) (sym mine);
    books = λ c. book_at_call c (c == c0) refl ∙ ap (λ z. same_list (book_at z) (Some c)) (sym mine);
    locked = λ g p i d. other_lock g p i d ((p == p0) && (i == i0)) refl;
    written = λ g c d. other_book g c d (c == c0) refl;
  }

-- a frame has no lock and no book
unless_back : (b : Bool) (A B : Type 0) → (A → B) → Unless b A → Unless b B
unless_back true A B f u = tt
unless_back false A B f u = f u

module _ (w : World) (q : Party) (k : Stack) where
  locking_at : (e : Seen) → Based k → Steers k.top (next_at w q k e) → Unless (locks_here k.top) (Locking k.top (Top (shape_at w q k) q k.top k.below e))
  locking_at e b s = land k.top (λ y. Unless (locks_here k.top) (Locking k.top y)) (next_at w q k e) k.below (λ p f n. unless_back (locks_here k.top) (Locking k.top Free) (Locking k.top f) (λ u r p i. ((live_mild f n).2 r p i) ∙ u r p i) (p.2)) (λ y p. p.2) s (b.0) (b.1)

  book_left : (e : Seen) → Based k → Steers k.top (next_at w q k e) → Unless (books_here k.top) (book_at (Top (shape_at w q k) q k.top k.below e) ≡ book_at k.top)
  book_left e b s = land k.top (λ y. Unless (books_here k.top) (book_at y ≡ book_at k.top)) (next_at w q k e) k.below (λ p f n. unless_back (books_here k.top) (None ≡ book_at k.top) (book_at f ≡ book_at k.top) (λ u. (live_mild f n).3 ∙ u) (p.3)) (λ y p. p.3) s (b.0) (b.1)

  booked_at : (e : Seen) → Based k → Steers k.top (next_at w q k e) → is_booked (Top (shape_at w q k) q k.top k.below e) ≡ true
  booked_at e b s = land k.top (λ y. is_booked y ≡ true) (next_at w q k e) k.below (λ p f n. (live_mild f n).4) (λ y p. p.4) s (b.0) (b.1)

  light_at : (e : Seen) → AllFrames k.below → Leads (is_heavy k.top) (next_at w q k e) → is_heavy k.top ≡ false → is_light (Top (shape_at w q k) q k.top k.below e) ≡ true
  light_at e a l n = top_after (λ y. is_light y ≡ true) (next_at w q k e) k.below (leads_tops (next_at w q k e) (subst (λ z. Leads z (next_at w q k e)) n l)) frame_light a

-- where a worker is to take its job back, its list has one
retakes : (w : World) (q : Party) (x : Place) (fs : List Place) → FeedersHold w → w.stack q ≡ record { top = x; below = fs } → Retakes q x (part_of w (target_pool q (act_of q x)) (target_worker q (act_of q x)) (target_call (act_of q x)) (job_at w q (act_of q x)))
retakes w (Worker a b) (TakeFromFifo f) fs h e = λ n. (let s : last_of ((w.seat a b).fifo (count_book f.count)) ≡ Some f.job = (h.feeds a b f (ap (λ k. waits (k.top)) e)).1 in let z : Some f.job ≡ None = sym s ∙ n in cc)
retakes w (Caller n) (TakeFromFifo f) fs h e = tt
retakes w q _ fs h e = tt

deals : (w : World) (q : Party) (x : Place) → Says w q x → Deals x
deals w q (DealPieces g) s = ap count_book (s.count)
deals w q _ s = tt

go_holds : (w : World) (q : Party) → HoldersHold w → Based (w.stack q) → FeedersHold w → Says w q (w.stack q).top → IfSome (step w (Go q)) (ActHolds w q)
go_holds w q h b fd says = acted_keeps w q k (target_pool q (act_of q k.top)) (target_worker q (act_of q k.top)) (target_call (act_of q k.top)) (job_at w q (act_of q k.top)) o (ActHolds w q)
    (if_some_map (λ r. (Locks g q m k.top k.below r × Books g q m k.top k.below r) × (is_booked (Top g q k.top k.below (r.0)) ≡ true)) (λ r. ActHolds w q (result w q k r)) (λ r f. acted w q r h (Top g q k.top k.below (r.0)) refl ((f.0).0) ((f.0).1) (f.1)) o
    (if_some_and (λ r. Locks g q m k.top k.below r × Books g q m k.top k.below r) (λ r. is_booked (Top g q k.top k.below (r.0)) ≡ true) o
    (if_some_and (Locks g q m k.top k.below) (Books g q m k.top k.below) o
    (act_locked w.shape g q (counts_seen w q k) m k.top k.below locks)
    (act_booked w.shape g q (counts_seen w q k) m k.top k.below (h.booked q) (retakes w q k.top k.below fd refl) (deals w q k.top says) books))
    (if_some_map (λ r. Steers k.top (next_at w q k (r.0))) (λ r. is_booked (Top g q k.top k.below (r.0)) ≡ true) (λ r s. booked_at w q k (r.0) b s) o leads_to)))
  where
    k : Stack
    k = w.stack q

    g : PoolShape
    g = shape_at w q (w.stack q)

    m : Part
    m = part_at w q (w.stack q)

    o : Outcome
    o = outcome w q (w.stack q)

    leads_to : IfSome o (λ r. Steers k.top (next_at w q k (r.0)))
    leads_to = steers w.shape g q (counts_seen w q k) m k.top

    same : IfSome o (Same k.top m)
    same = holders_same w.shape q (counts_seen w q k) m k.top

    locks : IfSome o (LockKnown g q m k.top k.below)
    locks = if_some_map (λ r. (Same k.top m r × Steers k.top (next_at w q k (r.0))) × Leads (is_heavy k.top) (next_at w q k (r.0))) (LockKnown g q m k.top k.below) (λ r f. ((f.0).0, locking_at w q k (r.0) b ((f.0).1), light_at w q k (r.0) (fd.frames q) (f.1))) o
        (if_some_and (λ r. Same k.top m r × Steers k.top (next_at w q k (r.0))) (λ r. Leads (is_heavy k.top) (next_at w q k (r.0))) o (if_some_and (Same k.top m) (λ r. Steers k.top (next_at w q k (r.0))) o same leads_to)
        (leads w.shape g q (counts_seen w q k) m k.top))

    books : IfSome o (BookKnown g q m k.top k.below)
    books = if_some_map (λ r. Same k.top m r × Steers k.top (next_at w q k (r.0))) (BookKnown g q m k.top k.below) (λ r f. (f.0, book_left w q k (r.0) b (f.1))) o (if_some_and (Same k.top m) (λ r. Steers k.top (next_at w q k (r.0))) o same leads_to)

act_holds : (w v : World) (q : Party) → HoldersHold w → ActHolds w q v → HoldersHold v
act_holds w v q h a = record {
  booked = λ g. booked g (either (same_party g q));
  locks = λ g p i. locks g p i (either (same_party g q));
  books = λ g c. books g c (either (same_party g q));
}
  where
    booked : (g : Party) → (same_party g q ≡ true) ⊎ (same_party g q ≡ false) → is_booked (v.stack g).top ≡ true
    booked g (inl e) = ap (λ s. is_booked (v.stack s).top) (same_party_true g q e) ∙ a.booked
    booked g (inr e) = ap (λ s. is_booked (s.top)) (a.others g e) ∙ h.booked g

    locks : (g : Party) (p i : ℕ) → (same_party g q ≡ true) ⊎ (same_party g q ≡ false) → is_held_by g (v.seat p i).lock ≡ locks_at g (v.stack g).top p i
    locks g p i (inl e) = let is : g ≡ q = same_party_true g q e in subst (λ s. is_held_by s (v.seat p i).lock ≡ locks_at s (v.stack s).top p i) (sym is) (a.locks p i)
    locks g p i (inr e) = a.locked g p i e ∙ h.locks g p i ∙ ap (λ s. locks_at g (s.top) p i) (sym (a.others g e))

    books : (g : Party) (c : ℕ) → (same_party g q ≡ true) ⊎ (same_party g q ≡ false) → is_held_by g (v.call c).writer ≡ same_list (book_at (v.stack g).top) (Some c)
    books g c (inl e) = let is : g ≡ q = same_party_true g q e in subst (λ s. is_held_by s (v.call c).writer ≡ same_list (book_at (v.stack s).top) (Some c)) (sym is) (a.books c)
    books g c (inr e) = a.written g c e ∙ h.books g c ∙ ap (λ s. same_list (book_at (s.top)) (Some c)) (sym (a.others g e))

-- the book of a place is that of a call which is there
count_has : (k : Count) (c : ℕ) → count_book k ≡ Some c → (p : Party) × (count_sets k ≡ Some (c, p))
count_has (OfPool p) c e = absurd (cc)
count_has (OfScope d o) c e = (shown o, ap (λ n. some_call n o) e)
  where
    some_call : Option ℕ → Party → Option (ℕ × Party)
    some_call None o = None
    some_call (Some d) o = Some (d, shown o)
count_has (OfCast d o) c e = absurd (cc)

plan_has : (n : Plan) (c : ℕ) → plan_book n ≡ Some c → (p : Party) × (count_sets (plan_count n) ≡ Some (c, p))
plan_has (Feed f) c e = count_has f.count c e
plan_has (Enter x) c e = count_has (OfScope x.call x.owner) c e
plan_has (Detach p t) c e = absurd (cc)
plan_has (Here p t) c e = absurd (cc)
plan_has (Send o) c e = absurd (cc)
plan_has (Fork o a) c e = absurd (cc)
plan_has (Open o) c e = absurd (cc)
plan_has (Gather g) c e = absurd (cc)

book_has : (x : Place) (c : ℕ) → book_at x ≡ Some c → (p : Party) × (sets_for x ≡ Some (c, p))
book_has (LookQueue n) c e = plan_has n c e
book_has (PushJob n v) c e = plan_has n c e
book_has (CloseSlot n) c e = plan_has n c e
book_has (AddToFifo f) c e = count_has f.count c e
book_has (LookForToken f) c e = count_has f.count c e
book_has (PushToken f v) c e = count_has f.count c e
book_has (TakeFromFifo f) c e = count_has f.count c e
book_has (PushForAll k) c e = count_has k.count c e
book_has (CloseForAll k) c e = count_has k.count c e
book_has _ c e = absurd (cc)

turn_holds : (w v : World) → Owned w → ((q : Party) → Based (w.stack q)) → Stepped w v → HoldersHold w → HoldersHold v
turn_holds w v ow b m h = record {
  booked = λ q. ap (λ s. is_booked (s.top)) (m.stack q) ∙ booked q (same_party q m.party) refl;
  locks = λ q p i. ap (λ s. is_held_by q (s.lock)) (m.seat p i) ∙ h.locks q p i ∙ sym (ap (λ s. locks_at q (s.top) p i) (m.stack q) ∙ locks q p i (same_party q m.party) refl);
  books = λ q c. elim (m.call c) [
    | inl e ↦ ap (λ s. is_held_by q (s.writer)) e ∙ h.books q c ∙ sym (here q c)
    | inr e ↦ ap (is_held_by q) (e.2) ∙ sym (here q c ∙ none q c (e.0) (same_list (book_at (w.stack q).top) (Some c)) refl)
  ];
}
  where
    booked : (q : Party) (z : Bool) → same_party q m.party ≡ z → is_booked (if z then m.to else w.stack q).top ≡ true
    booked q true e = (m.same (b m.party)).4
    booked q false e = h.booked q

    locks : (q : Party) (p i : ℕ) (z : Bool) → same_party q m.party ≡ z → locks_at q (if z then m.to else w.stack q).top p i ≡ locks_at q (w.stack q).top p i
    locks q p i true e = (m.same (b m.party)).2 q p i ∙ ap (λ s. locks_at q (w.stack s).top p i) (sym (same_party_true q m.party e))
    locks q p i false e = refl

    books : (q : Party) (z : Bool) → same_party q m.party ≡ z → book_at (if z then m.to else w.stack q).top ≡ book_at (w.stack q).top
    books q true e = (m.same (b m.party)).3 ∙ ap (λ s. book_at (w.stack s).top) (sym (same_party_true q m.party e))
    books q false e = refl

    here : (q : Party) (c : ℕ) → same_list (book_at (v.stack q).top) (Some c) ≡ same_list (book_at (w.stack q).top) (Some c)
    here q c = ap (λ o. same_list o (Some c)) (ap (λ s. book_at (s.top)) (m.stack q) ∙ books q (same_party q m.party) refl)

    none : (q : Party) (c : ℕ) → w.calls ≤ c → (z : Bool) → same_list (book_at (w.stack q).top) (Some c) ≡ z → same_list (book_at (w.stack q).top) (Some c) ≡ false
    none q c l true e = absurd (let p : (p : Party) × (sets_for (w.stack q).top ≡ Some (c, p)) = book_has (w.stack q).top c (same_list_true (book_at (w.stack q).top) (Some c) e) in let k : SetsFor w c (p.0) = ((ow.named q).top).sets c (p.0) (p.1) in let n : c < w.calls = k.0 in omega (arith, n, l))
    none q c l false e = e

step_holds : (h : Shape) (es : List Event) (w v : World) (e : Event) → IsRun (start h) es w → step w e ≡ Some v → HoldersHold w → HoldersHold v
step_holds h es w v (Go q) r s k = act_holds w v q k (made (ActHolds w q) w v (Go q) s (go_holds w q k ((always_stops h es w r).based q) (always_feeders h es w r) (((always_calls h es w r).says q).top)))
step_holds h es w v e r s k = turn_holds w v (always_owned h es w r) ((always_stops h es w r).based) (made (Stepped w) w v e s (turns w e refl)) k

first_holds : (h : Shape) → HoldersHold (start h)
first_holds h = record {
  booked = λ q. (mild q).4;
  locks = λ q p i. sym ((mild q).2 q p i);
  books = λ q c. sym (ap (λ o. same_list o (Some c)) ((mild q).3));
}
  where
    own : (b d : Bool) → Quiet (if b then (if d then Free else ProbeWorking (fresh Termination)) else Stopped)
    own true true = (λ l. refl, tt, λ r p i. refl, refl, refl)
    own true false = (λ l. refl, tt, λ r p i. refl, refl, refl)
    own false d = (λ l. refl, tt, λ r p i. refl, refl, refl)

    out : (b : Bool) → Quiet (if b then Free else Stopped)
    out true = (λ l. refl, tt, λ r p i. refl, refl, refl)
    out false = (λ l. refl, tt, λ r p i. refl, refl, refl)

    mild : (q : Party) → Quiet (first_place h q)
    mild (Worker p i) = own (nat_lt i (h.pool p).workers) ((h.pool p).callers_own && (i == 0))
    mild (Caller c) = out (nat_lt c h.callers)

pub always_holds : (h : Shape) (es : List Event) (w : World) → IsRun (start h) es w → HoldersHold w
always_holds h es w r = run_has h HoldersHold (step_holds h) (first_holds h) es w r

-- a FIFO list is held by who has added its job last
feeds_waits : (b : Option ℕ) (x : Place) → waits_at b x ≡ feeds_list b x
feeds_waits b (LookForToken f) = refl
feeds_waits b _ = refl

fed : (b : Option ℕ) (x : Place) → feeds_list b x ≡ true → (f : Feeding) × ((waits x ≡ Some f) × (b ≡ count_book f.count))
fed b (LookForToken f) e = (f, (refl, same_list_true b (count_book f.count) e))
fed b (PushToken f v) e = (f, (refl, same_list_true b (count_book f.count) e))
fed b (TakeFromFifo f) e = (f, (refl, same_list_true b (count_book f.count) e))
fed b _ e = absurd (cc)

list_held : (w : World) → FeedersHold w → (q : Party) (p i : ℕ) (b : Option ℕ) → is_held_by q ((w.seat p i).feeder b) ≡ (is_own q p i && feeds_list b (w.stack q).top)
list_held w h q p i b = by ((w.seat p i).feeder b) refl
  where
    nobody : (z : Bool) → (w.seat p i).feeder b ≡ None → (is_own q p i && feeds_list b (w.stack q).top) ≡ z → false ≡ z
    nobody false e t = refl
    nobody true e t = absurd (
        let a : (is_own q p i ≡ true) × (feeds_list b (w.stack q).top ≡ true) = and_parts (is_own q p i) (feeds_list b (w.stack q).top) t in
        let is : q ≡ Worker p i = same_party_true q (Worker p i) (a.0) in
        let f : (f : Feeding) × ((waits (w.stack q).top ≡ Some f) × (b ≡ count_book f.count)) = fed b (w.stack q).top (a.1) in
        let s : (w.seat p i).feeder (count_book (f.0).count) ≡ Some (Worker p i) = (h.feeds p i (f.0) (ap (λ z. waits (w.stack z).top) (sym is) ∙ (f.1).0)).0 in
        let n : Some (Worker p i) ≡ None = sym s ∙ ap ((w.seat p i).feeder) (sym ((f.1).1)) ∙ e in cc)

    some : (g : Party) → (g ≡ Worker p i) × (waits_at b ((w.stack g).top) ≡ true) → (z : Bool) → same_party q g ≡ z → same_party q g ≡ (is_own q p i && feeds_list b (w.stack q).top)
    some g a true e = let is : q ≡ g = same_party_true q g e in e ∙ sym (ap (λ z. z && feeds_list b (w.stack q).top) (ap (same_party q) (sym (a.0)) ∙ e) ∙ sym (feeds_waits b (w.stack q).top) ∙ ap (λ s. waits_at b (w.stack s).top) is ∙ a.1)
    some g a false e = e ∙ sym (ap (λ z. z && feeds_list b (w.stack q).top) (ap (same_party q) (sym (a.0)) ∙ e))

    by : (o : Option Party) → (w.seat p i).feeder b ≡ o → is_held_by q o ≡ (is_own q p i && feeds_list b (w.stack q).top)
    by None e = nobody (is_own q p i && feeds_list b (w.stack q).top) e refl
    by (Some g) e = some g (h.held p i b g e) (same_party q g) refl

pub holding : (w : World) → HoldersHold w → FeedersHold w → IsHolding w
holding w h f = record { locks = h.locks; books = h.books; lists = list_held w f }

-- an act on what another party holds is not enabled
if_open : (b : Bool) (o : Outcome) (P : Type 0) → (b ≡ true → P) → IfSome (if b then o else None) (λ r. P)
if_open true o P f = if_some_all (λ r. P) (λ r. f refl) o
if_open false o P f = tt

-- what is said of a party's act whatever it leaves
shut : (w : World) (q : Party) (s : Stack) (a : Act) (P : Type 0) → IfSome (effect a w.shape q (counts_at w (target_pool q a)) (part_of w (target_pool q a) (target_worker q a) (target_call a) (job_at w q a))) (λ r. P) → IfSome (act_at w q s a) (λ v. P)
shut w q s a P f = acted_keeps w q s (target_pool q a) (target_worker q a) (target_call a) (job_at w q a) _ (λ v. P) f

guarded : (w : World) (q : Party) (s : Stack) (a : Act) → IfSome (act_at w q s a) (λ v. others_hold w q a ≡ false)
guarded w q s (Probe l) = if_some_all (λ v. false ≡ false) (λ v. refl) (act_at w q s (Probe l))
guarded w q s (Lock p i) = shut w q s (Lock p i) (not (is_free_lock (w.seat p i).lock) ≡ false) (if_open (is_free_lock (w.seat p i).lock && not (is_own q p i && (w.seat p i).blocked)) _ (not (is_free_lock (w.seat p i).lock) ≡ false)
    (λ z. ap not ((and_parts (is_free_lock (w.seat p i).lock) (not (is_own q p i && (w.seat p i).blocked)) z).0)))
guarded w q s (Unlock p i) = shut w q s (Unlock p i) (not (is_held_by q (w.seat p i).lock) ≡ false) (if_open (is_held_by q (w.seat p i).lock) _ (not (is_held_by q (w.seat p i).lock) ≡ false) (λ z. ap not z))
guarded w q s (Slot c t) = shut w q s (Slot c t) (not (is_open q (w.call c).writer) ≡ false) (if_open (is_open q (w.call c).writer) _ (not (is_open q (w.call c).writer) ≡ false) (λ z. ap not z))
guarded w q s (SlotUndo c t) = shut w q s (SlotUndo c t) (not (is_open q (w.call c).writer) ≡ false) (if_open (is_open q (w.call c).writer) _ (not (is_open q (w.call c).writer) ≡ false) (λ z. ap not z))
guarded w q s (SlotAll b) = shut w q s (SlotAll b) (not (is_open q (w.call (count_call b.count)).writer) ≡ false) (if_open (is_open q (w.call (count_call b.count)).writer) _ (not (is_open q (w.call (count_call b.count)).writer) ≡ false) (λ z. ap not z))
guarded w q s (SlotUndoAll b) = shut w q s (SlotUndoAll b) (not (is_open q (w.call (count_call b.count)).writer) ≡ false) (if_open (is_open q (w.call (count_call b.count)).writer) _ (not (is_open q (w.call (count_call b.count)).writer) ≡ false) (λ z. ap not z))
guarded w q s (PutBody c e) = shut w q s (PutBody c e) (not (is_open q (w.call c).writer) ≡ false) (if_open (is_open q (w.call c).writer) _ (not (is_open q (w.call c).writer) ≡ false) (λ z. ap not z))
guarded w q s (PutSlot c t e) = shut w q s (PutSlot c t e) (not (is_open q (w.call c).writer) ≡ false) (if_open (is_open q (w.call c).writer) _ (not (is_open q (w.call c).writer) ≡ false) (λ z. ap not z))
guarded w q s (FifoIn t b) = shut w q s (FifoIn t b) (not (is_open q ((w.seat (own_pool q) (own_index q)).feeder b)) ≡ false) (if_open (is_open q ((w.seat (own_pool q) (own_index q)).feeder b)) _ (not (is_open q ((w.seat (own_pool q) (own_index q)).feeder b)) ≡ false) (λ z. ap not z))
guarded w q s (FifoUndo b) = shut w q s (FifoUndo b) (not (is_open q ((w.seat (own_pool q) (own_index q)).feeder b)) ≡ false) (if_open (is_open q ((w.seat (own_pool q) (own_index q)).feeder b)) _ (not (is_open q ((w.seat (own_pool q) (own_index q)).feeder b)) ≡ false) (λ z. ap not z))
guarded w q s (FifoOut k i b) = shut w q s (FifoOut k i b) (not (is_open q ((w.seat (own_pool q) i).feeder b)) ≡ false) (if_open (is_open q ((w.seat (own_pool q) i).feeder b)) _ (not (is_open q ((w.seat (own_pool q) i).feeder b)) ≡ false) (λ z. ap not z))
guarded w q s a = if_some_all (λ v. others_hold w q a ≡ false) (λ v. refl) (act_at w q s a)

pub holder_law : HolderLaw
holder_law h es w v q r s = made (λ u. others_hold w q (act_of q (w.stack q).top) ≡ false) w v (Go q) s (guarded w q (w.stack q) (act_of q (w.stack q).top))
