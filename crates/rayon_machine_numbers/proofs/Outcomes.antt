-- what an act does, told by the numbers and by the end of its queue
use Rattle.std.proofs.Common.{◌≡◌, ℕ, Bool, true, false, List, [], ◌∷◌, ◌++◌, refl, sym, ◌∙◌, ap, subst}
use Rattle.std.specs.Prelude.{Option, Some, None, if◌then◌else◌, ◌==◌}
use Rattle.std.proofs.lemmas.Bool.{eqb-true}
use Rattle.rayon_machine_places.specs.declared.place.Party.{Party}
use Rattle.rayon_machine_places.specs.declared.act.Act.{Act}
use Rattle.rayon_machine_places.specs.declared.act.Act.TheVariants.{PopOwn, TakeCast, AddInactive, Announce, SubSleeping, Pick, Steal, PopInj, Load, TryAdd, LookCast, LookInj, LookOwn, SubInactive, Begin, PushInj, PushOwn, PushCast, FifoIn, FifoUndo, FifoOut, News, Lower, Raise, LowerAll, RaiseAll, Slot, SlotUndo, SlotAll, SlotUndoAll, StoreBody as PutBody, StoreSlot as PutSlot, Idle}
use Rattle.rayon_machine_places.specs.declared.act.Seen.{Seen}
use Rattle.rayon_machine_places.specs.declared.act.Seen.TheVariants.{Done, Handed, Missing, Task}
use Rattle.rayon_machine_places.specs.declared.place.Taken.TheVariants.{Plain}
use Rattle.rayon_machine_runs.specs.declared.state.Whereabouts.TheVariants.{InFifo, Retaken}
use Rattle.rayon_machine_places.specs.declared.shape.Order.{Order}
use Rattle.rayon_machine_places.specs.declared.shape.Order.TheVariants.{NewestFirst, OldestFirst}
use Rattle.rayon_machine_numbers.specs.declared.numbers.Touched.{Touched}
use Rattle.rayon_machine_places.specs.Places.{own_pool, own_index}
use Rattle.rayon_machine_runs.specs.World.{Shape, Outcome, Part, begun, but_first, but_last, effect, empty_seen, fifo_back, fifo_first, head_of, last_of, left_by, own_left, own_of, at_job, is_open, popped, put_list, same_list, take_cast}
use Rattle.rayon_machine_places.specs.Sleepers.{Counts}
use Rattle.rayon_machine_places.specs.Targets.{taken_as}
use Rattle.rayon_machine_numbers.specs.Numbers.{Acts, Can, Does, DoesNot, FifoLists, undone, is_feeding, full, after_handle, is_booking, is_counting, is_queueing, is_sharing, look_sees, end_task, part_queued, after_take, with_job}

list-true : (b c : Option ℕ) → same_list c b ≡ true → c ≡ b
list-true None None e = refl
list-true None (Some c) e = cc
list-true (Some b) None e = cc
list-true (Some b) (Some c) e = ap (λ n. Some n) (eqb-true c b e)

-- what is kept of each FIFO list is the same where it is put back for one of them
put-same : {A : Type 0} (f : Option ℕ → A) (b : Option ℕ) → put_list f b (f b) ≡ f
put-same f b = λ j c. at c (same_list c b) refl j
  where
    at : (c : Option ℕ) (z : Bool) → same_list c b ≡ z → (if z then f b else f c) ≡ f c
    at c true e = ap f (sym (list-true b c e))
    at c false e = refl

last-there : (y : ℕ) (ys : List ℕ) → last_of (y ∷ ys) ≡ None → ⊥
last-there y [] e = cc
last-there y (z ∷ zs) e = last-there z zs e

left-none : (o : Order) (own : List ℕ) → own_of o own ≡ None → own ≡ own_left o own
left-none NewestFirst [] e = refl
left-none NewestFirst (x ∷ xs) e = absurd (last-there x xs e)
left-none OldestFirst [] e = refl
left-none OldestFirst (x ∷ xs) e = cc

pop-own : (q : Party) (t : Touched) (o : Order) (own : List ℕ) (fifo : FifoLists) (injector : List ℕ) (casts : ℕ → List ℕ) (r : Option ℕ) → own_of o own ≡ r → popped q (full t own fifo injector casts) (own_left o own) r ≡ Some ((after_take q t r).0, part_queued o PopOwn q (full ((after_take q t r).1) own fifo injector casts))
pop-own q t o own fifo injector casts None e = ap (λ l. Some (Missing, full t l fifo injector casts)) (left-none o own e)
pop-own q t o own fifo injector casts (Some n) e = refl

steal : (q : Party) (t : Touched) (o : Order) (p i : ℕ) (own : List ℕ) (fifo : FifoLists) (injector : List ℕ) (casts : ℕ → List ℕ) → popped q (full t own fifo injector casts) (but_first own) (head_of own) ≡ Some ((after_take q t (head_of own)).0, part_queued o (Steal p i) q (full ((after_take q t (head_of own)).1) own fifo injector casts))
steal q t o p i [] fifo injector casts = refl
steal q t o p i (x ∷ xs) fifo injector casts = refl

look : (l : List ℕ) → empty_seen l ≡ look_sees (head_of l)
look [] = refl
look (x ∷ xs) = refl

rest-of : (casts : ℕ → List ℕ) (k : ℕ) (l : List ℕ) → casts k ≡ l → (i : ℕ) → (if i == k then but_first l else casts i) ≡ (if i == k then but_first (casts k) else casts i)
rest-of casts k l e i = ap (λ z. if i == k then but_first z else casts i) (sym e)

none-left : (casts : ℕ → List ℕ) (k : ℕ) → casts k ≡ [] → (i : ℕ) → casts i ≡ (if i == k then but_first (casts k) else casts i)
none-left casts k e i = at (i == k) refl
  where
    at : (b : Bool) → (i == k) ≡ b → casts i ≡ (if b then but_first (casts k) else casts i)
    at true same = ap casts (eqb-true i k same) ∙ e ∙ ap but_first (sym e)
    at false same = refl

cast : (q : Party) (t : Touched) (o : Order) (own : List ℕ) (fifo : FifoLists) (injector : List ℕ) (casts : ℕ → List ℕ) (l : List ℕ) → casts (own_index q) ≡ l → take_cast q (full t own fifo injector casts) l ≡ Some ((after_take q t (head_of l)).0, part_queued o TakeCast q (full ((after_take q t (head_of l)).1) own fifo injector casts))
cast q t o own fifo injector casts [] e = λ j. Some (Missing, full t own fifo injector (λ i. none-left casts (own_index q) e i j))
cast q t o own fifo injector casts (n ∷ ns) e = λ j. Some (Task (taken_as n t.job.kind), full ((after_take q t (Some n)).1) own fifo injector (λ i. rest-of casts (own_index q) (n ∷ ns) e i j))

handles : (o : Order) (a : Act) (q : Party) (c : Counts) (t : Touched) (h : Shape) (own : List ℕ) (fifo : FifoLists) (injector : List ℕ) (casts : ℕ → List ℕ) → is_queueing a ≡ true → (h.pool (own_pool q)).order ≡ o → effect a h q c (full t own fifo injector casts) ≡ Some ((after_handle a q t (end_task o a q own fifo.jobs injector casts)).0, part_queued o a q (full ((after_handle a q t (end_task o a q own fifo.jobs injector casts)).1) own fifo injector casts))
handles o PopOwn q c t h own fifo injector casts k e = rw e (pop-own q t o own fifo injector casts (own_of o own) refl)
handles o TakeCast q c t h own fifo injector casts k e = cast q t o own fifo injector casts (casts (own_index q)) refl
handles o (Steal p i) q c t h own fifo injector casts k e = steal q t o p i own fifo injector casts
handles o PopInj q c t h own fifo [] casts k e = refl
handles o PopInj q c t h own fifo (x ∷ xs) casts k e = refl
handles o LookCast q c t h own fifo injector casts k e = ap (λ s. Some (s, full t own fifo injector casts)) (look (casts (own_index q)))
handles o (LookInj p) q c t h own fifo injector casts k e = ap (λ s. Some (s, full t own fifo injector casts)) (look injector)
handles o LookOwn q c t h own fifo injector casts k e = ap (λ s. Some (s, full t own fifo injector casts)) (look own)
handles o (PushInj p n b) q c t h own fifo injector casts k e = refl
handles o (PushOwn n b) q c t h own fifo injector casts k e = ap (λ (l : Option ℕ → List ℕ). Some (Done, full ((after_handle (PushOwn n b) q t None).1) (own ++ n ∷ []) (record { jobs = l; holder = put_list fifo.holder b (left_by q (fifo.holder b)) }) injector casts)) (sym (put-same fifo.jobs b))
handles o (PushCast b) q c t h own fifo injector casts k e = refl
handles o _ q c t h own fifo injector casts k e = cc

-- an act on a queue
pub handled-acts : (o : Order) (a : Act) (q : Party) (c : Counts) (b : ℕ) (found : Option ℕ) (t : Touched) → is_queueing a ≡ true → Acts o a q c b found t ((after_handle a q t found).0) ((after_handle a q t found).1)
handled-acts o a q c b found t k = λ h own fifo injector casts eb eo ef eh. subst (λ (r : Option ℕ). effect a h q c (full t own fifo injector casts) ≡ Some ((after_handle a q t r).0, part_queued o a q (full ((after_handle a q t r).1) own fifo injector casts))) ef (handles o a q c t h own fifo injector casts k eo)

-- a FIFO list that is empty stays so
unlisted : (f : Option ℕ → List ℕ) (g : List ℕ → List ℕ) (s : Option ℕ) → f s ≡ [] → g [] ≡ [] → put_list f s (g (f s)) ≡ f
unlisted f g s e z = ap (λ l. put_list f s (g l)) e ∙ ap (put_list f s) (z ∙ sym e) ∙ put-same f s

empty-last : (l : List ℕ) → last_of l ≡ None → l ≡ []
empty-last [] e = refl
empty-last (x ∷ xs) e = absurd (last-there x xs e)

empty-head : (l : List ℕ) → head_of l ≡ None → l ≡ []
empty-head [] e = refl
empty-head (x ∷ xs) e = cc

left-last : (l : List ℕ) (n : ℕ) (r : Option Party) → last_of l ≡ Some n → undone l r ≡ None
left-last [] n r e = cc
left-last (x ∷ xs) n r e = refl

-- a FIFO list that no other party holds lets an act on it be done
opened : (q : Party) (r : Option Party) (t : Touched) (o : Outcome) → r ≡ t.holder → is_open q t.holder ≡ true → (if is_open q r then o else None) ≡ o
opened q r t o e free = let z : is_open q r ≡ true = ap (is_open q) e ∙ free in rw z refl

shut : (q : Party) (r : Option Party) (t : Touched) (o : Outcome) → r ≡ t.holder → is_open q t.holder ≡ false → (if is_open q r then o else None) ≡ None
shut q r t o e held = let z : is_open q r ≡ false = ap (is_open q) e ∙ held in rw z refl

-- a job is added to a FIFO list
pub fed-in : (o : Order) (n : ℕ) (s : Option ℕ) (q : Party) (c : Counts) (b : ℕ) (found : Option ℕ) (t : Touched) → is_open q t.holder ≡ true → Acts o (FifoIn n s) q c b found t Done (with_job t (at_job (t.job) (InFifo (own_pool q) (own_index q) s)))
fed-in o n s q c b found t free = λ h own fifo injector casts eb eo ef eh. opened q (fifo.holder s) t _ eh free

-- the last job of a FIFO list, where there is none, and where there is one
pub none-back : (o : Order) (s : Option ℕ) (q : Party) (c : Counts) (b : ℕ) (t : Touched) → is_open q t.holder ≡ true → Acts o (FifoUndo s) q c b None t Missing t
none-back o s q c b t free = λ h own fifo injector casts eb eo ef eh.
    let m : Part = full t own fifo injector casts in
    let none : fifo.jobs s ≡ [] = empty-last (fifo.jobs s) ef in
    let jobs : fifo.jobs ≡ put_list fifo.jobs s (but_last (fifo.jobs s)) = sym (unlisted fifo.jobs but_last s none refl) in
    let holder : fifo.holder ≡ put_list fifo.holder s (undone (fifo.jobs s) (fifo.holder s)) = sym (ap (λ l. put_list fifo.holder s (undone l (fifo.holder s))) none ∙ put-same fifo.holder s) in
    opened q (fifo.holder s) t (fifo_back q m s (last_of (fifo.jobs s))) eh free
    ∙ ap (fifo_back q m s) ef
    ∙ (λ j. Some (Missing, full t own (record { jobs = jobs j; holder = holder j }) injector casts))

pub some-back : (o : Order) (n : ℕ) (s : Option ℕ) (q : Party) (c : Counts) (b : ℕ) (t : Touched) → is_open q t.holder ≡ true → Acts o (FifoUndo s) q c b (Some n) t (Task (Plain n)) (with_job t (at_job (t.job) (Retaken q)))
some-back o n s q c b t free = λ h own fifo injector casts eb eo ef eh.
    let m : Part = full t own fifo injector casts in
    let u : Touched = with_job t (at_job (t.job) (Retaken q)) in
    let holder : put_list fifo.holder s None ≡ put_list fifo.holder s (undone (fifo.jobs s) (fifo.holder s)) = ap (put_list fifo.holder s) (sym (left-last (fifo.jobs s) n (fifo.holder s) ef)) in
    opened q (fifo.holder s) t (fifo_back q m s (last_of (fifo.jobs s))) eh free
    ∙ ap (fifo_back q m s) ef
    ∙ (λ j. Some (Task (Plain n), full u own (record { jobs = put_list fifo.jobs s (but_last (fifo.jobs s)); holder = holder j }) injector casts))

-- the first job of a FIFO list, where there is none, and where there is one
pub none-out : (o : Order) (k i : ℕ) (s : Option ℕ) (q : Party) (c : Counts) (b : ℕ) (t : Touched) → is_open q t.holder ≡ true → Acts o (FifoOut k i s) q c b None t Missing t
none-out o k i s q c b t free = λ h own fifo injector casts eb eo ef eh.
    let m : Part = full t own fifo injector casts in
    let none : fifo.jobs s ≡ [] = empty-head (fifo.jobs s) ef in
    let jobs : fifo.jobs ≡ put_list fifo.jobs s (but_first (fifo.jobs s)) = sym (unlisted fifo.jobs but_first s none refl) in
    let holder : fifo.holder ≡ put_list fifo.holder s (fifo.holder s) = sym (put-same fifo.holder s) in
    opened q (fifo.holder s) t (fifo_first q m s (fifo.jobs s)) eh free
    ∙ ap (fifo_first q m s) none
    ∙ (λ j. Some (Missing, full t own (record { jobs = jobs j; holder = holder j }) injector casts))

pub some-out : (o : Order) (n k i : ℕ) (s : Option ℕ) (q : Party) (c : Counts) (b : ℕ) (t : Touched) → is_open q t.holder ≡ true → Acts o (FifoOut k i s) q c b (Some n) t (Handed n t.job.kind) (with_job t (begun q t.job))
some-out o n k i s q c b t free = λ h own fifo injector casts eb eo ef eh.
    opened q (fifo.holder s) t (fifo_first q (full t own fifo injector casts) s (fifo.jobs s)) eh free
    ∙ first own fifo injector casts (fifo.jobs s) refl ef
  where
    first : (own : List ℕ) (fifo : FifoLists) (injector : List ℕ) (casts : ℕ → List ℕ) (l : List ℕ) → fifo.jobs s ≡ l → head_of l ≡ Some n → fifo_first q (full t own fifo injector casts) s l ≡ Some (Handed n t.job.kind, part_queued o (FifoOut k i s) q (full (with_job t (begun q t.job)) own fifo injector casts))
    first own fifo injector casts [] e z = cc
    first own fifo injector casts (x ∷ xs) e z =
        let is : x ≡ n = cc in
        let jobs : put_list fifo.jobs s xs ≡ put_list fifo.jobs s (but_first (fifo.jobs s)) = sym (ap (λ l. put_list fifo.jobs s (but_first l)) e) in
        let holder : fifo.holder ≡ put_list fifo.holder s (fifo.holder s) = sym (put-same fifo.holder s) in
        (λ j. Some (Handed (is j) t.job.kind, full (with_job t (begun q t.job)) own (record { jobs = jobs j; holder = holder j }) injector casts))

-- an act on a FIFO list that another party holds is not enabled
pub shut-acts : (a : Act) (q : Party) (c : Counts) (t : Touched) → is_feeding a ≡ true → is_open q t.holder ≡ false → DoesNot a q c t
shut-acts (FifoIn n s) q c t k held = λ h own fifo injector casts eh. shut q (fifo.holder s) t _ eh held
shut-acts (FifoUndo s) q c t k held = λ h own fifo injector casts eh. shut q (fifo.holder s) t _ eh held
shut-acts (FifoOut n i s) q c t k held = λ h own fifo injector casts eh. shut q (fifo.holder s) t _ eh held
shut-acts _ q c t k held = cc

-- a token is redeemed from a FIFO list that no other party holds
pub can-out : (k i : ℕ) (s : Option ℕ) (q : Party) (c : Counts) (t : Touched) → is_open q t.holder ≡ true → Can (FifoOut k i s) q c t
can-out k i s q c t free = λ h own fifo injector casts eh none. some (fifo_first q (full t own fifo injector casts) s (fifo.jobs s)) (there own fifo injector casts (fifo.jobs s)) (sym (opened q (fifo.holder s) t (fifo_first q (full t own fifo injector casts) s (fifo.jobs s)) eh free) ∙ none)
  where
    there : (own : List ℕ) (fifo : FifoLists) (injector : List ℕ) (casts : ℕ → List ℕ) (l : List ℕ) → ¬ (fifo_first q (full t own fifo injector casts) s l ≡ None)
    there own fifo injector casts [] = λ e. cc
    there own fifo injector casts (x ∷ xs) = λ e. cc

    some : (r : Outcome) → ¬ (r ≡ None) → r ≡ None → ⊥
    some r f e = f e

-- an act on no queue leaves the queues
pub sharing-acts : (o : Order) (a : Act) (q : Party) (c : Counts) (b : ℕ) (found : Option ℕ) (t : Touched) (seen : Seen) (u : Touched) → is_sharing a ≡ true → Does a q c b t seen u → Acts o a q c b found t seen u
sharing-acts o (Begin n) q c b found t seen u k d = λ h own fifo injector casts eb eo ef eh. d h own fifo injector casts eb
sharing-acts o (Lower p n) q c b found t seen u k d = λ h own fifo injector casts eb eo ef eh. d h own fifo injector casts eb
sharing-acts o (Raise p n) q c b found t seen u k d = λ h own fifo injector casts eb eo ef eh. d h own fifo injector casts eb
sharing-acts o (LowerAll b9) q c b found t seen u k d = λ h own fifo injector casts eb eo ef eh. d h own fifo injector casts eb
sharing-acts o (RaiseAll b9) q c b found t seen u k d = λ h own fifo injector casts eb eo ef eh. d h own fifo injector casts eb
sharing-acts o Pick q c b found t seen u k d = λ h own fifo injector casts eb eo ef eh. d h own fifo injector casts eb
sharing-acts o Idle q c b found t seen u k d = λ h own fifo injector casts eb eo ef eh. d h own fifo injector casts eb
sharing-acts o _ q c b found t seen u k d = cc

-- an act on the counters leaves the queues
pub counting-acts : (o : Order) (a : Act) (q : Party) (c : Counts) (b : ℕ) (found : Option ℕ) (t : Touched) (seen : Seen) (u : Touched) → is_counting a ≡ true → Does a q c b t seen u → Acts o a q c b found t seen u
counting-acts o AddInactive q c b found t seen u k d = λ h own fifo injector casts eb eo ef eh. d h own fifo injector casts eb
counting-acts o Announce q c b found t seen u k d = λ h own fifo injector casts eb eo ef eh. d h own fifo injector casts eb
counting-acts o Load q c b found t seen u k d = λ h own fifo injector casts eb eo ef eh. d h own fifo injector casts eb
counting-acts o (TryAdd x y j) q c b found t seen u k d = λ h own fifo injector casts eb eo ef eh. d h own fifo injector casts eb
counting-acts o SubSleeping q c b found t seen u k d = λ h own fifo injector casts eb eo ef eh. d h own fifo injector casts eb
counting-acts o SubInactive q c b found t seen u k d = λ h own fifo injector casts eb eo ef eh. d h own fifo injector casts eb
counting-acts o (News p e) q c b found t seen u k d = λ h own fifo injector casts eb eo ef eh. d h own fifo injector casts eb
counting-acts o _ q c b found t seen u k d = cc

-- an act on a book leaves the queues
pub booking-acts : (o : Order) (a : Act) (q : Party) (c : Counts) (b : ℕ) (found : Option ℕ) (t : Touched) (seen : Seen) (u : Touched) → is_booking a ≡ true → Does a q c b t seen u → Acts o a q c b found t seen u
booking-acts o (Slot n k) q c b found t seen u z d = λ h own fifo injector casts eb eo ef eh. d h own fifo injector casts eb
booking-acts o (SlotUndo n k) q c b found t seen u z d = λ h own fifo injector casts eb eo ef eh. d h own fifo injector casts eb
booking-acts o (SlotAll n) q c b found t seen u z d = λ h own fifo injector casts eb eo ef eh. d h own fifo injector casts eb
booking-acts o (SlotUndoAll n) q c b found t seen u z d = λ h own fifo injector casts eb eo ef eh. d h own fifo injector casts eb
booking-acts o (PutBody n e) q c b found t seen u z d = λ h own fifo injector casts eb eo ef eh. d h own fifo injector casts eb
booking-acts o (PutSlot n k e) q c b found t seen u z d = λ h own fifo injector casts eb eo ef eh. d h own fifo injector casts eb
booking-acts o _ q c b found t seen u z d = cc
