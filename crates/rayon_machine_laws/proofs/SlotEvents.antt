-- what has been made stays what it was made as, and keeps its number of a book
use Rattle.std.proofs.Common.{arith, refl, ◌∙◌, sym, ap, subst, inl, inr}
use Rattle.std.specs.Prelude.{ℕ, Bool, true, false, ◌&&◌, ◌+◌, ◌-◌, ◌==◌, ◌<◌, ◌≤◌, if◌then◌else◌, Some, ◌≡◌, ◌⊎◌, IfSome, ⊤, List, [], ◌∷◌}
use Rattle.std.proofs.lemmas.Bool.{eqb-true, eq-eqb}
use Rattle.rayon_machine_places.specs.declared.place.Party.{Party}
use Rattle.rayon_machine_places.specs.declared.place.Party.TheVariants.{Worker, Caller}
use Rattle.rayon_machine_places.specs.declared.place.Ending.{Ending}
use Rattle.rayon_machine_places.specs.declared.place.Ending.TheVariants.{Fine, Fault}
use Rattle.rayon_machine_places.specs.declared.place.JobKind.{JobKind}
use Rattle.rayon_machine_places.specs.declared.place.JobKind.TheVariants.{Detached, Stored, Direct, Scoped, BodyOf, PieceOf, WholeOf, TokenOf}
use Rattle.rayon_machine_places.specs.declared.place.Count.{Count}
use Rattle.rayon_machine_places.specs.declared.place.Count.TheVariants.{OfPool, OfScope, OfCast}
use Rattle.rayon_machine_places.specs.declared.place.Share.TheVariants.{PoolValue}
use Rattle.rayon_machine_places.specs.declared.place.Then.TheVariants.{Resume}
use Rattle.rayon_machine_places.specs.declared.place.Mark.{Mark as Marking}
use Rattle.rayon_machine_places.specs.declared.place.Mark.TheVariants.{Counted, Numbered, Queued, Dealt, Unnumbered, Returned}
use Rattle.rayon_machine_places.specs.declared.place.Pieces.{Pieces}
use Rattle.rayon_machine_places.specs.declared.place.OpenCall.{OpenCall}
use Rattle.rayon_machine_places.specs.declared.place.Gathering.{Gathering}
use Rattle.rayon_machine_places.specs.declared.place.Plan.{Plan}
use Rattle.rayon_machine_places.specs.declared.place.Plan.TheVariants.{Detach, Here, Send, Fork, Feed, Open, Enter, Gather}
use Rattle.rayon_machine_places.specs.declared.place.Place.{Place}
use Rattle.rayon_machine_places.specs.declared.place.Place.TheVariants.{ProbeWorking, JoinProbe, YieldPop, LocalPop, Run, RaiseCount, RaiseForAll, OpenForAll, PushForAll, CloseForAll, LowerForAll, GrowCast, DealPieces, LowerCount, FirstSide, SecondSide, ScopeBody, AtOnce, Free}
use Rattle.rayon_machine_places.specs.declared.place.Move.{Move}
use Rattle.rayon_machine_places.specs.declared.place.Move.TheVariants.{Stay, Enter, StartRun, Back, HandBack, Discard, HandIn, Mark, HandAllBack}
use Rattle.rayon_machine_places.specs.declared.act.Seen.{Seen}
use Rattle.rayon_machine_places.specs.declared.act.Seen.TheVariants.{Done, Opened as Numbers}
use Rattle.rayon_machine_runs.specs.declared.event.Event.{Event}
use Rattle.rayon_machine_runs.specs.declared.event.Event.TheVariants.{Go}
use Rattle.rayon_machine_places.specs.declared.shape.PoolShape.{PoolShape}
use Rattle.rayon_machine_runs.specs.declared.state.Whereabouts.{Whereabouts}
use Rattle.rayon_machine_runs.specs.declared.state.Whereabouts.TheVariants.{Made, Retaken, Running, Over}
use Rattle.rayon_machine_runs.specs.declared.state.Job.{Job}
use Rattle.rayon_machine_runs.specs.declared.state.Scope.{Scope}
use Rattle.rayon_machine_runs.specs.declared.state.Slot.{Slot as SlotState}
use Rattle.rayon_machine_runs.specs.declared.state.Slot.TheVariants.{Closed, Open as IsOpen, Filled}
use Rattle.rayon_machine_runs.specs.Readers.{is_done}
use Rattle.rayon_machine_places.specs.Places.{same_party, act_of, next_of, count_book, count_kind, begin_feed, begin_cast, count_call, gather_all, goes_on}
use Rattle.rayon_machine_runs.specs.World.{Shape, Stack, World, Part, counts_at, at_job, filled, is_open}
use Rattle.rayon_machine_places.specs.Targets.{target_pool, target_worker, target_call}
use Rattle.rayon_machine_runs.specs.Steps.{put, put_stack, put_pieces, back, with_stack, after_move, after_resume, after_close, after_call, jobs_after, is_piece, marked, after_feed, after_deal, after_gather, after_send, new_job, new_piece, new_whole, step}
use Rattle.rayon_machine_runs.specs.Runs.{IsRun, start}
use Rattle.rayon_machine_laws.specs.Once.{IsOnce, is_with, held, one}
use Rattle.rayon_machine_laws.specs.Fixed.{FixedLaw, slot_stays}
use Rattle.rayon_machine_laws.proofs.Cases.{Turn, NoScope, turn_to, with_job, event_cases}
use Rattle.rayon_machine_laws.proofs.Frame.{acted_keeps, and_parts, either, if_cond, if_some_and, if_some_map, piece_new, piece_range, put_new, put_old, put_same, same_party_refl, same_party_true, stack_mine, stack_other}
use Rattle.rayon_machine_laws.proofs.Ties.{job_at, outcome}
use Rattle.rayon_machine_laws.proofs.Claims.{Says}
use Rattle.rayon_machine_laws.proofs.ClaimRuns.{CallsHold, place_part, unqueued, world_after}
use Rattle.rayon_machine_laws.proofs.PlacedEvents.{Advance, IsFinal}
use Rattle.rayon_machine_laws.proofs.PlacedRuns.{step_advance}
use Rattle.rayon_machine_laws.proofs.Stocked.{one_set}
use Rattle.rayon_machine_laws.proofs.ClaimMakes.{always_calls, always_once}
use Rattle.rayon_machine_laws.proofs.Fixed.{StaysMade, apart, made_law}
use Rattle.rayon_machine_laws.proofs.Posts.{is_live}
use Rattle.rayon_machine_laws.proofs.PostEvents.{AllLive, Based, is_act}
use Rattle.rayon_machine_laws.proofs.Stops.{always_stops, made, run_has}
use Rattle.rayon_machine_laws.proofs.Records.{after_each}
use Rattle.rayon_machine_laws.proofs.Holders.{Same, holders_same}
use Rattle.rayon_machine_laws.proofs.Slots.{Changes, Opened, Plainly, blanks, blanks_hand, held_top, is_blank, no_blanks, numbers, opens, piece_hand, plain_next, slot_target}

-- a move that numbers nothing
abbrev NoNumbers : Move → Type 0
NoNumbers (Mark y b m) = numbers m ≡ false
NoNumbers _ = ⊤

plainly_no : (g : Move) → Plainly g → NoNumbers g
plainly_no (Mark y b m) p = p.1
plainly_no _ p = tt

marked_slot : (k : Marking) (p i : ℕ) (j : Job) → numbers k ≡ false → (marked k p i j).slot ≡ j.slot
marked_slot Counted p i j n = refl
marked_slot Queued p i j n = refl
marked_slot Returned p i j n = refl
marked_slot _ p i j n = cc

slot_kept : (q : Party) (g : Move) (J : ℕ → Job) (t : ℕ) → NoNumbers g → (jobs_after q g J t).slot ≡ (J t).slot
slot_kept q (Mark y c k) J t n = after_each (λ j k. k.slot ≡ j.slot) (λ j. refl) (λ j. refl) (λ j. refl) (λ p i j. refl) q (Mark y c k) J tt (λ t z. marked_slot k c.pool (t - c.first) (J t) n) t
slot_kept q (StartRun f a) J t n = after_each (λ j k. k.slot ≡ j.slot) (λ j. refl) (λ j. refl) (λ j. refl) (λ p i j. refl) q (StartRun f a) J refl tt t
slot_kept q g J t n = after_each (λ j k. k.slot ≡ j.slot) (λ j. refl) (λ j. refl) (λ j. refl) (λ p i j. refl) q g J tt tt t

same_changes : (w : World) (q : Party) (t : ℕ) (j k : Job) → k.slot ≡ j.slot → Changes w q t j → Changes w q t k
same_changes w q t j k e (inl a) = inl (e ∙ a)
same_changes w q t j k e (inr (inl (h, inl (c, (n, a))))) = inr (inl (h, inl (c, (n, e ∙ a))))
same_changes w q t j k e (inr (inl (h, inr a))) = inr (inl (h, inr (e ∙ a)))
same_changes w q t j k e (inr (inr (d, a))) = inr (inr (d, e ∙ a))

frame_blank : (f : Place) → is_live f ≡ true → is_blank f ≡ false
frame_blank (ProbeWorking k) e = refl
frame_blank (JoinProbe o) e = refl
frame_blank (FirstSide o a) e = refl
frame_blank (SecondSide o) e = refl
frame_blank (ScopeBody o) e = refl
frame_blank (AtOnce p t) e = refl
frame_blank (Run t k) e = refl
frame_blank Free e = refl
frame_blank _ e = cc

-- where such a move leads nobody is about to open a number
land_plain : (g : Move) (fs : List Place) → AllLive fs → Plainly g → is_blank (after_move g fs).top ≡ false
land_plain (Stay y) fs a p = p
land_plain (HandIn y k) fs a p = p
land_plain (Mark y b m) fs a p = p.0
land_plain (Enter f y) fs a p = p
land_plain (StartRun f t) fs a p = refl
land_plain Back [] a p = refl
land_plain (HandBack n) [] a p = refl
land_plain (Discard k) [] a p = refl
land_plain (HandAllBack b) [] a p = refl
land_plain Back (f ∷ fs) a p = frame_blank f (a.0)
land_plain (HandBack n) (f ∷ fs) a p = frame_blank f (a.0)
land_plain (Discard k) (f ∷ fs) a p = frame_blank f (a.0)
land_plain (HandAllBack b) (f ∷ fs) a p = frame_blank f (a.0)

-- what holds of the numbers in every world
pub record NumbersHold (w : World) : Type 0 where
  pub filled : (t n : ℕ) → (w.job t).slot ≡ Filled n → is_done (w.job t).at ≡ true
  pub blank : (q : Party) (t : ℕ) → blanks (w.stack q).top t ≡ true → (w.job t).slot ≡ Closed

-- a party's act, from w to v
record ActSlots (w : World) (q : Party) (v : World) : Type 0 where
  others : (s : Party) → same_party s q ≡ false → v.stack s ≡ w.stack s
  changes : (t : ℕ) → Changes w q t (v.job t)
  blank : (t : ℕ) → blanks (v.stack q).top t ≡ true → (v.job t).slot ≡ Closed

module _ (w : World) (q : Party) (x : Place) (fs : List Place) (z : w.stack q ≡ record { top = x; below = fs }) (live : AllLive fs) (r : Seen × Part) where
  abbrev n0 : ℕ
  n0 = job_at w q (act_of q x)

  abbrev goes : Move
  goes = next_of (w.shape.pool (target_pool q (act_of q x))) q x (r.0)

  abbrev jobs0 : ℕ → Job
  jobs0 = put w.job n0 (r.1.job)

  abbrev then_it : World
  then_it = world_after w q x fs r

  mine : then_it.stack q ≡ after_move goes fs
  mine = stack_mine w.stack q (after_move goes fs)

  aimed : Changes w q n0 r.1.job → (t : ℕ) → Changes w q t (jobs0 t)
  aimed c t = by (t == n0) refl
    where
      by : (b : Bool) → (t == n0) ≡ b → Changes w q t (if b then r.1.job else w.job t)
      by true e = subst (λ m. Changes w q m r.1.job) (sym (eqb-true t n0 e)) c
      by false e = inl refl

  -- an act whose move numbers nothing, and leads to where nothing is about to be opened
  plain_slots : Changes w q n0 r.1.job → Plainly goes → ActSlots w q then_it
  plain_slots c p = record {
    others = λ s e. stack_other w.stack q (after_move goes fs) s e;
    changes = λ t. same_changes w q t (jobs0 t) (then_it.job t) (slot_kept q goes jobs0 t (plainly_no goes p)) (aimed c t);
    blank = λ t b. absurd (no_blanks (after_move goes fs).top t (land_plain goes fs live p) (ap (λ s. blanks (s.top) t) (sym mine) ∙ b));
  }

  -- one that changes no number, and leads to where only those are about to be opened that were
  kept_slots : ((t : ℕ) → blanks x t ≡ true → (w.job t).slot ≡ Closed) → r.1.job.slot ≡ (w.job n0).slot → NoNumbers goes → ((t : ℕ) → blanks (after_move goes fs).top t ≡ true → blanks x t ≡ true) → ActSlots w q then_it
  kept_slots bl e n f = record {
    others = λ s d. stack_other w.stack q (after_move goes fs) s d;
    changes = λ t. inl (same t);
    blank = λ t b. same t ∙ bl t (f t (ap (λ s. blanks (s.top) t) (sym mine) ∙ b));
  }
    where
      same : (t : ℕ) → (then_it.job t).slot ≡ (w.job t).slot
      same t = slot_kept q goes jobs0 t n ∙ put_same (λ j. j.slot) w.job n0 (r.1.job) t e

  -- one that numbers pieces which the party has in hand, or takes their numbers back
  numbered : (c : Pieces) (k : Marking) (y : Place) → r.1.job.slot ≡ (w.job n0).slot → goes ≡ Mark y c k → is_blank y ≡ false → ((t : ℕ) → is_piece c t ≡ true
      → (1 ≤ held t (w.stack q)) × (Opened (w.job t) (marked k c.pool (t - c.first) (jobs0 t)) ⊎ ((marked k c.pool (t - c.first) (jobs0 t)).slot ≡ Closed))) → ActSlots w q then_it
  numbered c k y e g nb f = record {
    others = λ s d. stack_other w.stack q (after_move goes fs) s d;
    changes = λ t. subst (λ m. Changes w q t (jobs_after q m jobs0 t)) (sym g) (by t (is_piece c t) refl);
    blank = λ t b. absurd (no_blanks y t nb (ap (λ m. blanks (after_move m fs).top t) (sym g) ∙ ap (λ s. blanks (s.top) t) (sym mine) ∙ b));
  }
    where
      by : (t : ℕ) (b : Bool) → is_piece c t ≡ b → Changes w q t (if b then marked k c.pool (t - c.first) (jobs0 t) else jobs0 t)
      by t true p = inr (inl (f t p))
      by t false p = inl (put_same (λ j. j.slot) w.job n0 (r.1.job) t e)

-- a share is taken first
raise_no : (g : PoolShape) (q : Party) (n : Plan) (e : Seen) → NoNumbers (next_of g q (RaiseCount n) e)
raise_no g q (Detach p t) Done = tt
raise_no g q (Here p t) Done = tt
raise_no g q (Send o) Done = tt
raise_no g q (Fork o a) Done = tt
raise_no g q (Feed f) Done = tt
raise_no g q (Gather x) Done = tt
raise_no g q (Open o) Done = tt
raise_no g q (Enter x) Done = tt
raise_no g q n _ = tt

back_blank : (fs : List Place) (t : ℕ) → AllLive fs → blanks (back fs).top t ≡ true → ⊥
back_blank [] t a b = cc
back_blank (f ∷ fs) t a b = no_blanks f t (frame_blank f (a.0)) b

raise_blanks : (g : PoolShape) (q : Party) (n : Plan) (e : Seen) (fs : List Place) (t : ℕ) → AllLive fs → blanks (after_move (next_of g q (RaiseCount n) e) fs).top t ≡ true → opens n t ≡ true
raise_blanks g q (Detach p u) Done fs t a b = absurd (cc)
raise_blanks g q (Here p u) Done fs t a b = absurd (cc)
raise_blanks g q (Send o) Done fs t a b = absurd (cc)
raise_blanks g q (Fork o u) Done fs t a b = absurd (cc)
raise_blanks g q (Feed f) Done fs t a b = by f.count b
  where
    by : (k : Count) → blanks (begin_feed k f) t ≡ true → opens (Feed f) t ≡ true
    by (OfPool p) b = absurd (cc)
    by (OfScope c o) b = b
    by (OfCast c o) b = absurd (cc)
raise_blanks g q (Gather x) Done fs t a b = b
raise_blanks g q (Open o) Done fs t a b = absurd (cc)
raise_blanks g q (Enter x) Done fs t a b = b
raise_blanks g q n _ fs t a b = absurd (back_blank fs t a b)

raise_all_no : (g : PoolShape) (q : Party) (c : Pieces) (e : Seen) → NoNumbers (next_of g q (RaiseForAll c) e)
raise_all_no g q c Done = refl
raise_all_no g q c _ = tt

raise_all_blanks : (g : PoolShape) (q : Party) (c : Pieces) (e : Seen) (fs : List Place) (t : ℕ) → AllLive fs → blanks (after_move (next_of g q (RaiseForAll c) e) fs).top t ≡ true → is_piece c t ≡ true
raise_all_blanks g q c Done fs t a b = by c.count b
  where
    by : (k : Count) → blanks (begin_cast k c) t ≡ true → is_piece c t ≡ true
    by (OfPool p) b = absurd (cc)
    by (OfScope d o) b = b
    by (OfCast d o) b = absurd (cc)
raise_all_blanks g q c _ fs t a b = absurd (back_blank fs t a b)

grow_no : (g : PoolShape) (q : Party) (c : Gathering) (e : Seen) → NoNumbers (next_of g q (GrowCast c) e)
grow_no g q c Done = tt
grow_no g q c _ = tt

grow_blanks : (g : PoolShape) (q : Party) (c : Gathering) (e : Seen) (fs : List Place) (t : ℕ) → blanks (after_move (next_of g q (GrowCast c) e) fs).top t ≡ true → is_piece c.pieces t ≡ true
grow_blanks g q c Done fs t b = b
grow_blanks g q c _ fs t b = absurd (cc)

-- what the acts of a broadcast see
open_sees : (w : World) (q : Party) (c : Pieces) (fs : List Place) → IfSome (outcome w q (record { top = OpenForAll c; below = fs })) (λ r. (n : ℕ) × (r.0 ≡ Numbers n))
open_sees w (Worker i j) c fs = if_cond (λ r. (n : ℕ) × (r.0 ≡ Numbers n)) (is_open (Worker i j) (w.call (count_call c.count)).writer) _ (λ o. ((w.call (count_call c.count)).slots, refl))
open_sees w (Caller k) c fs = if_cond (λ r. (n : ℕ) × (r.0 ≡ Numbers n)) (is_open (Caller k) (w.call (count_call c.count)).writer) _ (λ o. ((w.call (count_call c.count)).slots, refl))

deal_sees : (w : World) (q : Party) (g : Gathering) (fs : List Place) → IfSome (outcome w q (record { top = DealPieces g; below = fs })) (λ r. r.0 ≡ Done)
deal_sees w (Worker i j) g fs = refl
deal_sees w (Caller k) g fs = refl

abbrev Acts : World → Party → Place → List Place → Seen × Part → Type 0
Acts w q x fs r = ActSlots w q (world_after w q x fs r)

act_slots : (w : World) (q : Party) (x : Place) (fs : List Place) → w.stack q ≡ record { top = x; below = fs } → AllLive fs → ((t : ℕ) → blanks x t ≡ true → (w.job t).slot ≡ Closed) → Says w q x → IfSome (outcome w q (record { top = x; below = fs })) (Same x (place_part w q x))
    → IfSome (outcome w q (record { top = x; below = fs })) (Acts w q x fs)
act_slots w q (RaiseCount n) fs z a bl s f = if_some_map (Same (RaiseCount n) (place_part w q (RaiseCount n))) (Acts w q (RaiseCount n) fs)
    (λ r k. kept_slots w q (RaiseCount n) fs z a r bl (k.2) (raise_no (w.shape.pool (target_pool q (act_of q (RaiseCount n)))) q n (r.0)) (λ t b. raise_blanks (w.shape.pool (target_pool q (act_of q (RaiseCount n)))) q n (r.0) fs t a b)) (outcome w q (record { top = RaiseCount n; below = fs })) f
act_slots w q (RaiseForAll c) fs z a bl s f = if_some_map (Same (RaiseForAll c) (place_part w q (RaiseForAll c))) (Acts w q (RaiseForAll c) fs)
    (λ r k. kept_slots w q (RaiseForAll c) fs z a r bl (k.2) (raise_all_no (w.shape.pool (target_pool q (act_of q (RaiseForAll c)))) q c (r.0)) (λ t b. raise_all_blanks (w.shape.pool (target_pool q (act_of q (RaiseForAll c)))) q c (r.0) fs t a b))
    (outcome w q (record { top = RaiseForAll c; below = fs })) f
act_slots w q (GrowCast c) fs z a bl s f = if_some_map (Same (GrowCast c) (place_part w q (GrowCast c))) (Acts w q (GrowCast c) fs) (λ r k. kept_slots w q (GrowCast c) fs z a r bl (k.2) (grow_no (w.shape.pool (target_pool q (act_of q (GrowCast c)))) q c (r.0))
    (λ t b. grow_blanks (w.shape.pool (target_pool q (act_of q (GrowCast c)))) q c (r.0) fs t b)) (outcome w q (record { top = GrowCast c; below = fs })) f
act_slots w q (OpenForAll c) fs z a bl s f = if_some_map (λ r. Same (OpenForAll c) (place_part w q (OpenForAll c)) r × ((n : ℕ) × (r.0 ≡ Numbers n))) (Acts w q (OpenForAll c) fs)
    (λ r k. numbered w q (OpenForAll c) fs z a r c (Numbered ((k.1).0)) (PushForAll c) ((k.0).2)
    (ap (next_of (w.shape.pool (target_pool q (act_of q (OpenForAll c)))) q (OpenForAll c)) ((k.1).1)) refl (λ t p. (held_top w q (OpenForAll c) fs t z (blanks_hand (OpenForAll c) t p), inl (bl t p, ((k.1).0 + (t - c.first), refl)))))
    (outcome w q (record { top = OpenForAll c; below = fs })) (if_some_and (Same (OpenForAll c) (place_part w q (OpenForAll c))) (λ r. (n : ℕ) × (r.0 ≡ Numbers n)) (outcome w q (record { top = OpenForAll c; below = fs })) f (open_sees w q c fs))
act_slots w q (CloseForAll c) fs z a bl s f = if_some_map (Same (CloseForAll c) (place_part w q (CloseForAll c))) (Acts w q (CloseForAll c) fs)
    (λ r k. numbered w q (CloseForAll c) fs z a r c Unnumbered (LowerForAll c) (k.2) refl refl (λ t p. (held_top w q (CloseForAll c) fs t z (piece_hand c t p), inr refl)))
    (outcome w q (record { top = CloseForAll c; below = fs })) f
act_slots w q (DealPieces g) fs z a bl s f = if_some_map (λ r. Same (DealPieces g) (place_part w q (DealPieces g)) r × (r.0 ≡ Done)) (Acts w q (DealPieces g) fs)
    (λ r k. numbered w q (DealPieces g) fs z a r g.pieces Dealt (gather_all (w.shape.pool (target_pool q (act_of q (DealPieces g)))) g.call) ((k.0).2)
    (ap (next_of (w.shape.pool (target_pool q (act_of q (DealPieces g)))) q (DealPieces g)) (k.1)) refl (λ t p. (held_top w q (DealPieces g) fs t z (blanks_hand (DealPieces g) t p), inl (bl t p, (t - (g.pieces).first, refl)))))
    (outcome w q (record { top = DealPieces g; below = fs })) (if_some_and (Same (DealPieces g) (place_part w q (DealPieces g))) (λ r. r.0 ≡ Done) (outcome w q (record { top = DealPieces g; below = fs })) f (deal_sees w q g fs))
act_slots w q x fs z a bl s f = if_some_map (λ r. Changes w q (job_at w q (act_of q x)) r.1.job × Plainly (next_of (w.shape.pool (target_pool q (act_of q x))) q x (r.0))) (Acts w q x fs) (λ r k. plain_slots w q x fs z a r (k.0) (k.1)) (outcome w q (record { top = x; below = fs }))
    (if_some_and (λ r. Changes w q (job_at w q (act_of q x)) r.1.job) (λ r. Plainly (next_of (w.shape.pool (target_pool q (act_of q x))) q x (r.0))) (outcome w q (record { top = x; below = fs }))
    (slot_target w q x fs z bl s f)
    (plain_next w.shape (w.shape.pool (target_pool q (act_of q x))) q (counts_at w (target_pool q (act_of q x))) (place_part w q x) x refl))

-- a party's hand, and what is over
not_over : (q : Party) (v : Whereabouts) → is_with q v ≡ true → is_done v ≡ true → ⊥
not_over q (Made r) a b = cc
not_over q (Retaken r) a b = cc
not_over q (Running r) a b = cc
not_over q _ a b = absurd (cc)

both_with : (q s : Party) (v : Whereabouts) → is_with q v ≡ true → is_with s v ≡ true → q ≡ s
both_with q s (Made r) a b = same_party_true q r a ∙ sym (same_party_true s r b)
both_with q s (Retaken r) a b = same_party_true q r a ∙ sym (same_party_true s r b)
both_with q s (Running r) a b = same_party_true q r a ∙ sym (same_party_true s r b)
both_with q s _ a b = absurd (cc)

held_with : (w : World) → IsOnce w → (q : Party) (t : ℕ) → 1 ≤ held t (w.stack q) → is_with q (w.job t).at ≡ true
held_with w h q t e = (and_parts (is_with q (w.job t).at) ((w.job t).runs == 0) (one_set (is_with q (w.job t).at && ((w.job t).runs == 0))
    (let a : held t (w.stack q) ≡ one (is_with q (w.job t).at && ((w.job t).runs == 0)) = h.hand q t in omega (arith, a, e)))).0

self_stays : (x : SlotState) → slot_stays x x ≡ true
self_stays Closed = refl
self_stays (IsOpen n) = eq-eqb n n refl
self_stays (Filled n) = eq-eqb n n refl

filled_stays : (x : SlotState) → slot_stays x (filled x) ≡ true
filled_stays Closed = refl
filled_stays (IsOpen n) = eq-eqb n n refl
filled_stays (Filled n) = eq-eqb n n refl

closed_stays : (x : SlotState) → ((n : ℕ) → x ≡ Filled n → ⊥) → slot_stays x Closed ≡ true
closed_stays Closed f = refl
closed_stays (IsOpen n) f = refl
closed_stays (Filled n) f = absurd (f n refl)

-- so a step leaves the number of each job as it may
change_stays : (w : World) (q : Party) (t : ℕ) (k : Job) → IsOnce w → NumbersHold w → Changes w q t k → slot_stays (w.job t).slot k.slot ≡ true
change_stays w q t k o h (inl a) = ap (slot_stays (w.job t).slot) a ∙ self_stays (w.job t).slot
change_stays w q t k o h (inr (inl (e, inl (c, (n, a))))) = ap (λ s. slot_stays s k.slot) c ∙ ap (slot_stays Closed) a
change_stays w q t k o h (inr (inl (e, inr a))) = ap (slot_stays (w.job t).slot) a ∙ closed_stays (w.job t).slot (λ n f. not_over q (w.job t).at (held_with w o q t e) (h.filled t n f))
change_stays w q t k o h (inr (inr (d, a))) = ap (slot_stays (w.job t).slot) a ∙ filled_stays (w.job t).slot

-- what is over stays so
done_later : (w u : World) → Advance w u → (t : ℕ) → is_done (w.job t).at ≡ true → is_done (u.job t).at ≡ true
done_later w u a t d = by (w.job t).at refl d
  where
    by : (v : Whereabouts) → (w.job t).at ≡ v → is_done v ≡ true → is_done (u.job t).at ≡ true
    by (Over e) z d = ap is_done (subst (λ v. IsFinal v ((u.job t).at)) z (a.final t))
    by _ z d = absurd (cc)

act_holds : (w v : World) (q : Party) → IsOnce w → Advance w v → ActSlots w q v → NumbersHold w → NumbersHold v
act_holds w v q o ad a h = record {
  filled = λ t n e. filled t n (v.job t) e (a.changes t);
  blank = λ s t b. blank s t b (either (same_party s q));
}
  where
    filled : (t n : ℕ) (k : Job) → k.slot ≡ Filled n → Changes w q t k → is_done (v.job t).at ≡ true
    filled t n k e (inl c) = done_later w v ad t (h.filled t n (sym c ∙ e))
    filled t n k e (inr (inl (g, inl (c, (m, f))))) = absurd (let z : IsOpen m ≡ Filled n = sym f ∙ e in cc)
    filled t n k e (inr (inl (g, inr f))) = absurd (let z : Closed ≡ Filled n = sym f ∙ e in cc)
    filled t n k e (inr (inr (d, f))) = done_later w v ad t d

    still : (s : Party) (t : ℕ) → same_party s q ≡ false → is_with s (w.job t).at ≡ true → (w.job t).slot ≡ Closed → (k : Job) → Changes w q t k → k.slot ≡ Closed
    still s t d i c k (inl a) = a ∙ c
    still s t d i c k (inr (inl (g, a))) = absurd (let e : s ≡ q = both_with s q (w.job t).at i (held_with w o q t g) in let f : true ≡ false = sym (ap (λ z. same_party z q) e ∙ same_party_refl q) ∙ d in cc)
    still s t d i c k (inr (inr (x, a))) = absurd (not_over s (w.job t).at i x)

    blank : (s : Party) (t : ℕ) → blanks (v.stack s).top t ≡ true → (same_party s q ≡ true) ⊎ (same_party s q ≡ false) → (v.job t).slot ≡ Closed
    blank s t b (inl e) = a.blank t (ap (λ z. blanks (v.stack z).top t) (sym (same_party_true s q e)) ∙ b)
    blank s t b (inr e) = let c : blanks (w.stack s).top t ≡ true = ap (λ z. blanks (z.top) t) (sym (a.others s e)) ∙ b in
        still s t e (held_with w o s t (held_top w s (w.stack s).top (w.stack s).below t refl (blanks_hand (w.stack s).top t c))) (h.blank s t c) (v.job t) (a.changes t)

-- an event that is no act
record SlotTurn (w u : World) : Type 0 where
  party : Party
  to : Stack
  stack : (s : Party) → u.stack s ≡ put_stack w.stack party to s
  slot : (t : ℕ) → (((u.job t).slot ≡ (w.job t).slot) × (is_done (w.job t).at ≡ true → is_done (u.job t).at ≡ true)) ⊎ ((w.jobs ≤ t) × ((u.job t).slot ≡ Closed))
  blank : Based (w.stack party) → (t : ℕ) → blanks to.top t ≡ true → (u.job t).slot ≡ Closed

turn_slots : (w u : World) → ((q : Party) → Based (w.stack q)) → SlotTurn w u → NumbersHold w → NumbersHold u
turn_slots w u b m h = record {
  filled = λ t n e. elim (m.slot t) [ inl a ↦ a.1 (h.filled t n (sym (a.0) ∙ e)) | inr a ↦ absurd (let z : Closed ≡ Filled n = sym (a.1) ∙ e in cc) ];
  blank = λ s t c. blank s t (same_party s m.party) refl (ap (λ z. blanks (z.top) t) (sym (m.stack s)) ∙ c);
}
  where
    blank : (s : Party) (t : ℕ) (z : Bool) → same_party s m.party ≡ z → blanks (if z then m.to else w.stack s).top t ≡ true → (u.job t).slot ≡ Closed
    blank s t true e c = m.blank (b m.party) t c
    blank s t false e c = elim (m.slot t) [ inl a ↦ a.0 ∙ h.blank s t c | inr a ↦ a.1 ]

-- over such an event a number that was given out is as it was
turn_stays : (w u : World) → SlotTurn w u → (t : ℕ) → t < w.jobs → slot_stays (w.job t).slot (u.job t).slot ≡ true
turn_stays w u m t l = elim (m.slot t) [ inl a ↦ ap (slot_stays (w.job t).slot) (a.0) ∙ self_stays (w.job t).slot | inr a ↦ absurd (let g : w.jobs ≤ t = a.0 in omega (arith, g, l)) ]

-- where only the party's stack is another
slot_at : (w : World) (q : Party) (k : Stack) → is_blank k.top ≡ false → SlotTurn w (with_stack w q k)
slot_at w q k n = record { party = q; to = k; stack = λ s. refl; slot = λ t. inl (refl, λ d. d); blank = λ b t c. absurd (no_blanks k.top t n c) }

turn_plain : (t : Turn) → is_blank (turn_to t) ≡ false
turn_plain (NoScope o) = refl
turn_plain _ = refl

on_plain : (f : Place) (d : Ending) → is_live f ≡ true → is_blank (goes_on f d) ≡ false
on_plain (FirstSide o a) Fine e = refl
on_plain (FirstSide o a) Fault e = refl
on_plain (SecondSide o) d e = refl
on_plain (ScopeBody o) d e = refl
on_plain (AtOnce p t) d e = refl
on_plain (ProbeWorking k) d e = refl
on_plain (JoinProbe o) d e = refl
on_plain (Run t k) d e = refl
on_plain Free d e = refl
on_plain _ d e = cc

resumed_plain : (fs : List Place) (d : Ending) → AllLive fs → is_blank (after_resume fs d).top ≡ false
resumed_plain [] d a = refl
resumed_plain (f ∷ fs) d a = on_plain f d (a.0)

closed_plain : (t : ℕ) (k : JobKind) (d : Ending) (fs : List Place) → AllLive fs → is_blank (after_close t k d fs).top ≡ false
closed_plain t (Detached p) d fs a = refl
closed_plain t (Stored c o) d fs a = refl
closed_plain t (Scoped c o) d fs a = refl
closed_plain t (PieceOf c o) d fs a = refl
closed_plain t Direct d fs a = resumed_plain fs d a
closed_plain t (TokenOf i b) d fs a = resumed_plain fs d a
closed_plain t (BodyOf c o) d fs a = resumed_plain fs d a
closed_plain t (WholeOf c o) d fs a = resumed_plain fs d a

end_slots : (w : World) (q : Party) (d : Ending) (t : ℕ) (k : JobKind) (fs : List Place) → w.stack q ≡ record { top = Run t k; below = fs } → SlotTurn w (record w { stack = put_stack w.stack q (after_close t k d fs); job = put w.job t (at_job (w.job t) (Over d)) })
end_slots w q d t k fs z = record {
  party = q;
  to = after_close t k d fs;
  stack = λ s. refl;
  slot = λ u. inl (put_same (λ j. j.slot) w.job t (at_job (w.job t) (Over d)) u refl, λ e. done u (u == t) e);
  blank = λ b u c. absurd (let a : Based (record { top = Run t k; below = fs }) = subst Based z b in no_blanks (after_close t k d fs).top u (closed_plain t k d fs (a.0)) c);
}
  where
    done : (u : ℕ) (z : Bool) → is_done (w.job u).at ≡ true → is_done (if z then at_job (w.job t) (Over d) else w.job u).at ≡ true
    done u true e = refl
    done u false e = e

-- a call begins: its jobs have no numbers
abbrev Given : World → Job → ℕ → Type 0
Given w j t = ((j.slot ≡ (w.job t).slot) × (is_done (w.job t).at ≡ true → is_done j.at ≡ true)) ⊎ ((w.jobs ≤ t) × (j.slot ≡ Closed))

begin_slots : (w u : World) (q : Party) (y : Place) → ((s : Party) → u.stack s ≡ put_stack w.stack q (after_call (w.stack q) y) s) → ((t : ℕ) → Given w (u.job t) t) → ((t : ℕ) → blanks y t ≡ true → (u.job t).slot ≡ Closed) → SlotTurn w u
begin_slots w u q y s g b = record { party = q; to = after_call (w.stack q) y; stack = s; slot = g; blank = λ k t c. b t c }

one_given : (w : World) (j : Job) → j.slot ≡ Closed → (t : ℕ) → Given w (put w.job w.jobs j t) t
one_given w j n t = by (t == w.jobs) refl
  where
    by : (z : Bool) → (t == w.jobs) ≡ z → Given w (if z then j else w.job t) t
    by true e = inr (let s : t ≡ w.jobs = eqb-true t w.jobs e in omega (arith, s), n)
    by false e = inl (refl, λ d. d)

two_given : (w : World) (j k : Job) → j.slot ≡ Closed → k.slot ≡ Closed → (t : ℕ) → Given w (put (put w.job w.jobs j) (w.jobs + 1) k t) t
two_given w j k n m t = by (t == (w.jobs + 1)) refl
  where
    by : (z : Bool) → (t == (w.jobs + 1)) ≡ z → Given w (if z then k else put w.job w.jobs j t) t
    by true e = inr (let s : t ≡ w.jobs + 1 = eqb-true t (w.jobs + 1) e in omega (arith, s), m)
    by false e = one_given w j n t

deal_given : (w : World) (c : Pieces) (f : ℕ → Job → Job) → c.first ≡ w.jobs → ((i : ℕ) (j : Job) → (f i j).slot ≡ Closed) → (t : ℕ) → Given w (put_pieces c f w.job t) t
deal_given w c f is n t = by (is_piece c t) refl
  where
    by : (z : Bool) → is_piece c t ≡ z → Given w (if z then f (t - c.first) (w.job t) else w.job t) t
    by true e = inr (let a : c.first ≤ t = (piece_range c t e).0 in omega (arith, a, is), n (t - c.first) (w.job t))
    by false e = inl (refl, λ d. d)

feed_slots : (w : World) (k : Count) (p i : ℕ) → SlotTurn w (after_feed w k p i (w.stack (Worker p i)))
feed_slots w k p i = begin_slots w (after_feed w k p i (w.stack (Worker p i))) (Worker p i) (RaiseCount (Feed (record { count = k; pool = p; job = w.jobs; token = w.jobs + 1 }))) (λ s. refl) (two_given w first second refl refl)
    (λ t c. subst (λ n. (put (put w.job w.jobs first) (w.jobs + 1) second n).slot ≡ Closed) (sym (eqb-true t w.jobs c)) (ap (λ j. j.slot) (put_old (put w.job w.jobs first) (w.jobs + 1) second w.jobs (apart w.jobs (w.jobs + 1) (omega arith)) ∙ put_new w.job w.jobs first)))
  where
    first : Job
    first = new_job (Worker p i) p (count_kind k)

    second : Job
    second = new_job (Worker p i) p (TokenOf i (count_book k))

deals_slots : (w : World) (q : Party) (k : Count) (p : ℕ) → SlotTurn w (after_deal w q k p (w.stack q))
deals_slots w q k p = begin_slots w (after_deal w q k p (w.stack q)) q (RaiseForAll c) (λ s. refl) (deal_given w c (λ i j. new_piece q k p i) refl (λ i j. refl)) (λ t e. ap (λ j. j.slot) (piece_new c (λ i j. new_piece q k p i) w.job t e))
  where
    c : Pieces
    c = record { count = k; pool = p; first = w.jobs; workers = (w.shape.pool p).workers }

gathers_slots : (w : World) (q : Party) (p : ℕ) → SlotTurn w (after_gather w q p (w.stack q))
gathers_slots w q p = begin_slots w (after_gather w q p (w.stack q)) q (RaiseCount (Gather (record { call = o; pieces = c }))) (λ s. refl) given (λ t e. blank t e (t == o.job))
  where
    c : Pieces
    c = record { count = OfCast w.calls q; pool = p; first = w.jobs; workers = (w.shape.pool p).workers }

    o : OpenCall
    o = record { number = w.calls; pool = p; job = w.jobs + c.workers }

    given : (t : ℕ) → Given w (put (put_pieces c (λ i j. new_piece q c.count p i) w.job) o.job (new_whole q p w.calls) t) t
    given t = by (t == o.job) refl
      where
        by : (z : Bool) → (t == o.job) ≡ z → Given w (if z then new_whole q p w.calls else put_pieces c (λ i j. new_piece q c.count p i) w.job t) t
        by true e = inr (let s : t ≡ o.job = eqb-true t o.job e in omega (arith, s), refl)
        by false e = deal_given w c (λ i j. new_piece q c.count p i) refl (λ i j. refl) t

    blank : (t : ℕ) → is_piece c t ≡ true → (z : Bool) → (if z then new_whole q p w.calls else put_pieces c (λ i j. new_piece q c.count p i) w.job t).slot ≡ Closed
    blank t e true = refl
    blank t e false = ap (λ j. j.slot) (piece_new c (λ i j. new_piece q c.count p i) w.job t e)

sent_slots : (w : World) (q : Party) (p : ℕ) (z : Bool) → SlotTurn w (after_send w q p (w.stack q) z)
sent_slots w q p true = begin_slots w (after_send w q p (w.stack q) true) q (RaiseCount (Here p w.jobs)) (λ s. refl) (one_given w _ refl) (λ t c. absurd (cc))
sent_slots w q p false = begin_slots w (after_send w q p (w.stack q) false) q (RaiseCount (Send (record { number = w.calls; pool = p; job = w.jobs }))) (λ s. refl) (one_given w _ refl) (λ t c. absurd (cc))

enter_slots : (w : World) (q : Party) (z : Scope) → SlotTurn w (with_job w q z.pool (Scoped z.call z.owner) (RaiseCount (Enter (record { call = z.call; owner = z.owner; pool = z.pool; job = w.jobs }))))
enter_slots w q z = begin_slots w _ q (RaiseCount (Enter (record { call = z.call; owner = z.owner; pool = z.pool; job = w.jobs }))) (λ s. refl) (one_given w job refl)
    (λ t c. subst (λ n. (put w.job w.jobs job n).slot ≡ Closed) (sym (eqb-true t w.jobs c)) (ap (λ j. j.slot) (put_new w.job w.jobs job)))
  where
    job : Job
    job = new_job q z.pool (Scoped z.call z.owner)

turns_slots : (w : World) (e : Event) → is_act e ≡ false → IfSome (step w e) (SlotTurn w)
turns_slots w = event_cases (SlotTurn w) w (record {
  turned = λ q t fs z. slot_at w q (record { top = turn_to t; below = fs }) (turn_plain t);
  ended = end_slots w;
  spawned = λ q p f. begin_slots w _ q (RaiseCount (Detach p w.jobs)) (λ s. refl) (one_given w _ refl) (λ t c. absurd (cc));
  fed = λ p i f. feed_slots w (OfPool p) p i;
  dealt = λ q p f. deals_slots w q (OfPool p) p;
  sent = λ q p b e f. sent_slots w q p b;
  joined = λ p i f. begin_slots w _ (Worker p i) (RaiseCount (Fork (record { number = w.calls; pool = p; job = w.jobs + 1 }) w.jobs)) (λ s. refl) (two_given w _ _ refl refl) (λ t c. absurd (cc));
  scoped = λ q p f. begin_slots w _ q (RaiseCount (Open (record { number = w.calls; pool = p; job = w.jobs }))) (λ s. refl) (one_given w _ refl) (λ t c. absurd (cc));
  entered = λ q z k. enter_slots w q z;
  fed_into = λ i z k. feed_slots w (OfScope z.call z.owner) z.pool i;
  dealt_into = λ q z k. deals_slots w q (OfScope z.call z.owner) z.pool;
  gathered = λ q p f. gathers_slots w q p;
  yielded = λ p i f. slot_at w (Worker p i) (after_call (w.stack (Worker p i)) YieldPop) refl;
  yielded_local = λ p i f. slot_at w (Worker p i) (after_call (w.stack (Worker p i)) LocalPop) refl;
  given = λ q p f held. record { party = q; to = after_call (w.stack q) (LowerCount (OfPool p) PoolValue Resume); stack = λ s. refl; slot = λ t. inl (refl, λ d. d); blank = λ k t c. absurd (cc) };
})

-- what each step makes of the numbers
record StepSlots (w v : World) : Type 0 where
  holds : NumbersHold v
  stays : (t : ℕ) → t < w.jobs → slot_stays (w.job t).slot (v.job t).slot ≡ true

step_slots : (h : Shape) (es : List Event) (w v : World) (e : Event) → IsRun (start h) es w → step w e ≡ Some v → NumbersHold w → StepSlots w v
step_slots h es w v e r s k = by e s
  where
    calls : CallsHold w
    calls = always_calls h es w r

    once : IsOnce w
    once = always_once h es w r

    based : (q : Party) → Based (w.stack q)
    based = (always_stops h es w r).based

    acted : (q : Party) → IfSome (step w (Go q)) (ActSlots w q)
    acted q = acted_keeps w q (w.stack q) (target_pool q (act_of q (w.stack q).top)) (target_worker q (act_of q (w.stack q).top)) (target_call (act_of q (w.stack q).top)) (job_at w q (act_of q (w.stack q).top)) (outcome w q (w.stack q)) (ActSlots w q)
        (act_slots w q (w.stack q).top (w.stack q).below refl ((based q).0) (k.blank q) ((calls.says q).top) (holders_same w.shape q (counts_at w (target_pool q (act_of q (w.stack q).top))) (place_part w q (w.stack q).top) (w.stack q).top))

    advance : (e : Event) → step w e ≡ Some v → Advance w v
    advance e s = made (Advance w) w v e s (step_advance w e (unqueued w calls) ((calls.jobs).feeds) ((calls.jobs).ok) ((calls.jobs).unmade))

    by : (e : Event) → step w e ≡ Some v → StepSlots w v
    by (Go q) s = (let a : ActSlots w q v = made (ActSlots w q) w v (Go q) s (acted q) in record { holds = act_holds w v q once (advance (Go q) s) a k; stays = λ t l. change_stays w q t (v.job t) once k (a.changes t) })
    by e s = (let m : SlotTurn w v = made (SlotTurn w) w v e s (turns_slots w e refl) in record { holds = turn_slots w v based m k; stays = λ t l. turn_stays w v m t l })

first_slots : (h : Shape) → NumbersHold (start h)
first_slots h = record { filled = λ t n e. absurd (cc); blank = λ q t b. refl }

pub always_numbers : (h : Shape) (es : List Event) (w : World) → IsRun (start h) es w → NumbersHold w
always_numbers h es w r = run_has h NumbersHold (λ es u v e r s k. (step_slots h es u v e r s k).holds) (first_slots h) es w r

pub fixed_law : FixedLaw
fixed_law h es w v e t r s l = (let m : StaysMade w v t = made_law w v e t s l in record { kind = m.kind; pool = m.pool; bound = m.bound; slot = (step_slots h es w v e r s (always_numbers h es w r)).stays t l })
