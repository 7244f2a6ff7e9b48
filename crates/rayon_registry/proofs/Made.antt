-- The acts of a performer's path are those of a path, whatever they did.
use Rattle.std.proofs.Common.{◌≡◌, ◌⊎◌, inl, inr, Bool, true, false, if◌then◌else◌, true≢false, ℕ, List, [], ◌∷◌, Option, None, Some, Result, Ok, Err, MatchOption, MatchResult, IfErr, IfOk, refl, sym, subst, ap, ◌∙◌}
use Rattle.rayon_machine_places.specs.declared.place.Count.TheVariants.{OfPool}
use Rattle.std.specs.Result.{IsErr}
use Rattle.rayon_words.specs.declared.refusal.CallError.{CallError}
use Rattle.rayon_words.specs.declared.refusal.Refusal.{Refusal}
use Rattle.rayon_machine_places.specs.declared.place.Ending.{Ending}
use Rattle.rayon_machine_places.specs.declared.place.Entry.{Entry}
use Rattle.rayon_machine_places.specs.declared.place.Ending.TheVariants.{Fine}
use Rattle.rayon_machine_places.specs.declared.place.JobKind.{JobKind}
use Rattle.rayon_machine_places.specs.declared.place.JobKind.TheVariants.{BodyOf, Detached, Direct, PieceOf, Scoped, Stored, TokenOf, WholeOf}
use Rattle.rayon_machine_places.specs.declared.place.OpenCall.{OpenCall}
use Rattle.rayon_machine_places.specs.declared.place.Mark.TheVariants.{Dealt, Numbered}
use Rattle.rayon_machine_places.specs.declared.place.Plan.TheVariants.{Detach, Feed, Gather, Open}
use Rattle.rayon_machine_places.specs.declared.place.Share.TheVariants.{OfJob}
use Rattle.rayon_machine_places.specs.declared.place.Then.TheVariants.{Answers, Resume}
use Rattle.rayon_machine_places.specs.declared.place.Party.{Party}
use Rattle.rayon_machine_places.specs.declared.place.Party.TheVariants.{Worker}
use Rattle.rayon_machine_places.specs.declared.place.Place.{Place}
use Rattle.rayon_machine_places.specs.declared.place.Place.TheVariants as at
use Rattle.rayon_machine_places.specs.declared.place.Move.{Move}
use Rattle.rayon_machine_places.specs.declared.place.Move.TheVariants.{Stay, Enter, StartRun, Back, HandBack, HandIn, Discard, Mark, HandAllBack}
use Rattle.rayon_machine_places.specs.declared.place.Taken.{Taken}
use Rattle.rayon_machine_places.specs.declared.place.Taken.TheVariants.{Plain, Token}
use Rattle.rayon_machine_places.specs.declared.place.Target.{Target}
use Rattle.rayon_machine_places.specs.declared.place.Target.TheVariants.{Termination, Answer}
use Rattle.rayon_machine_places.specs.declared.shape.PoolShape.{PoolShape}
use Rattle.rayon_machine_places.specs.Places.{fresh, gather_all, goes_on, taken_number, undo}
use Rattle.rayon_drive.specs.declared.trace.Log.{Log}
use Rattle.rayon_drive.specs.Traces.{AddsRun}
use Rattle.rayon_drive.specs.Paths.{Traced}
use Rattle.rayon_drive.proofs.Traced.{traced_as, traced_then}
use Rattle.rayon_tasks.specs.Names.{IsRow}
use Rattle.rayon_tasks.specs.Tasks.{TaskOf, taken_in}
use Rattle.rayon_tasks.specs.Tickets.{IsBroadcastOf, CoreOf, TicketOf, call_alone, call_in, kind_alone, kind_in}
use Rattle.rayon_performers.specs.Begins.{begins_as}
use Rattle.rayon_performers.specs.Broadcasts.{dealt, gathering}
use Rattle.rayon_performers.specs.Calls.{own_call}
use Rattle.rayon_performers.specs.Casts.{Cast, CastInto, Casts, CastsNone}
use Rattle.rayon_shared.specs.Casts.{cast_into, casting}
use Rattle.rayon_performers.specs.Fifos.{Fed, FeedsList, FeedsNone, feeding}
use Rattle.rayon_jobs.specs.Endings.{ending_of}
use Rattle.rayon_jobs.specs.Within.{Run}
use Rattle.rayon_performers.specs.Hands.{Hands}
use Rattle.rayon_shared.specs.AtHand.{HasResult, HasTicket}
use Rattle.rayon_shared.specs.Marks.{IsBroadcast, IsScope, broadcast_in, scope_in}
use Rattle.rayon_performers.specs.Paths.{WorkerGoes}
use Rattle.rayon_performers.specs.Scopes.{Entered, EnteredInOrder, Enters, EntersForAll, EntersForNone, EntersList, EntersNoList, EntersNone, answering, entering, entry_of, into}
use Rattle.rayon_performers.specs.Spawns.{CanClose, ClosesRun, Spawned, Spawns, SpawnsNone, with_units}
use Rattle.rayon_performers.specs.Stands.{Stands}
use Rattle.rayon_performers.specs.Waits.{Waited, units_after}
use Rattle.rayon_performers.proofs.Stretches.{So, traced}
use Rattle.rayon_registry.specs.Acts.{CallMade, CastBack, Closes, Follows, GatherBack, GatherLeft, GatherOpened, Gathered, HandedBack, HasRun, Lay, Lowered, PiecesBack, ScopeOpened, Unlisted, Worked, WorkedAround, resumed, wait_end}
use Rattle.rayon_registry.specs.Worker.{AfterWait, Worker as WorkerValue}

module _ {X G O F : Type 0} (h : PoolShape) (i : ℕ) (m : Move) (s t : Hands X G O F) where
  -- a look for a task
  pub traced_found : (r : Option (TaskOf X)) → MatchOption r (So h i m s Back t) (λ x. So h i m s (Stay (at.BeginTask (taken_in x))) (record t { task = Some x })) → MatchOption r (Traced h (Worker 0 i) m s.trace t.trace Back) (λ x. Traced h (Worker 0 i) m s.trace t.trace (Stay (at.BeginTask (taken_in x))))
  traced_found None d = traced h i m s t Back d
  traced_found (Some x) d = traced h i m s (record t { task = Some x }) (Stay (at.BeginTask (taken_in x))) d

  -- a push
  pub traced_pushed : (n : Move) {A B : Type 0} (r : Result A B) → MatchResult r (λ _. So h i m s Back t) (λ _. So h i m s n t) → MatchResult r (λ _. Traced h (Worker 0 i) m s.trace t.trace Back) (λ _. Traced h (Worker 0 i) m s.trace t.trace n)
  traced_pushed n (Ok x) d = traced h i m s t Back d
  traced_pushed n (Err e) d = traced h i m s t n d

-- what holds after a refusal holds of an answer that is one
pub on_err : {A B : Type 0} (P : A → Type 0) (Q : Type 0) (r : Result A B) → IsErr r → Q → MatchResult r P (λ _. Q)
on_err P Q (Err e) i q = q
on_err P Q (Ok x) i q = absurd (true≢false (sym i))

pub if_err : {A B : Type 0} (Q : Type 0) (r : Result A B) → Q → IfErr r (λ _. Q)
if_err Q (Err e) q = q
if_err Q (Ok x) q = tt

module _ {X G O F : Type 0} (n : ℕ) (s t : Hands X G O F) where
  -- a spawn, whatever unit it had at hand
  pub spawned : Spawns n s t → Spawned s.shape (Worker 0 s.index) n s.trace t.trace
  spawned d = traced s.shape s.index (Stay (at.RaiseCount (Detach 0 n))) (with_units 0 s) (with_units 1 t) Back d

  -- a refused one has made the acts of a call that is handed back
  pub unspawned : SpawnsNone n s t → HandedBack s.shape (Worker 0 s.index) (Detach 0) s.trace t.trace
  unspawned (inl e) = inl (ap (λ (z : Hands X G O F). z.trace) e)
  unspawned (inr d) = inr (n, traced s.shape s.index (Stay (at.RaiseCount (Detach 0 n))) (with_units 0 s) (with_units 0 t) (HandBack (Detach 0 n)) d)

  -- a broadcast, under names in a row of which this is the first
  pub cast : (w : ℕ) → Casts (casting n w) s t → Cast s.shape (Worker 0 s.index) (casting n w) s.trace t.trace
  cast w d = traced s.shape s.index (Stay (at.RaiseForAll (casting n w))) s t Back d

  -- a refused one
  pub uncast : CastsNone (casting n s.shape.workers) s t → CastBack s.shape (Worker 0 s.index) s.trace t.trace
  uncast (inl e) = inl (ap (λ (z : Hands X G O F). z.trace) e)
  uncast (inr (inl d)) = inr (n, inl (traced s.shape s.index (Stay (at.RaiseForAll (casting n s.shape.workers))) s t (HandAllBack (casting n s.shape.workers)) d))
  uncast (inr (inr d)) = inr (n, inr (traced s.shape s.index (Stay (at.RaiseForAll (casting n s.shape.workers))) s t Back d))

  pub cast_so : {A B : Type 0} (r : Result A B) → MatchResult r (λ _. Casts (casting n s.shape.workers) s t) (λ _. CastsNone (casting n s.shape.workers) s t)
      → IfOk r (λ _. (k : ℕ) × Cast s.shape (Worker 0 s.index) (casting k s.shape.workers) s.trace t.trace) × IfErr r (λ _. CastBack s.shape (Worker 0 s.index) s.trace t.trace)
  cast_so (Ok x) d = ((n, cast s.shape.workers d), tt)
  cast_so (Err e) d = (tt, uncast d)

  -- the same of a spawn in order, with a token of this name
  pub fed : (k : ℕ) → FeedsList n k s t → Fed s.shape (Worker 0 s.index) n k s.trace t.trace
  fed k d = traced s.shape s.index (Stay (at.RaiseCount (Feed (feeding n k)))) (with_units 0 s) (with_units 1 t) Back d

  pub unfed : (k : ℕ) → FeedsNone n k s t → HandedBack s.shape (Worker 0 s.index) (λ j. Feed (feeding j k)) s.trace t.trace
  unfed k (inl e) = inl (ap (λ (z : Hands X G O F). z.trace) e)
  unfed k (inr d) = inr (n, traced s.shape s.index (Stay (at.RaiseCount (Feed (feeding n k)))) (with_units 0 s) (with_units 0 t) (HandBack (Feed (feeding n k))) d)

  -- a spawn into a scope, by the ticket that was at hand
  pub entered : (k : Option TicketOf) (c : ℕ) (o : Party) → Enters k c o n s t → Entered s.shape (Worker 0 s.index) c o n s.trace t.trace
  entered k c o d = traced s.shape s.index (Stay (at.RaiseCount (entering c o n))) (answering k s) (answering k t) Back d

  pub unentered : (k : Option TicketOf) (c : ℕ) (o : Party) → EntersNone k c o n s t → HandedBack s.shape (Worker 0 s.index) (entering c o) s.trace t.trace
  unentered k c o (inl e) = inl (ap (λ (z : Hands X G O F). z.trace) e)
  unentered k c o (inr d) = inr (n, traced s.shape s.index (Stay (at.RaiseCount (entering c o n))) (answering k s) (answering k t) (HandBack (entering c o n)) d)

  -- the same of a spawn in order into a scope, with a token of this name
  pub entered_in_order : (r : Option TicketOf) (e : Entry) (k : ℕ) → EntersList r e k s t → EnteredInOrder s.shape (Worker 0 s.index) e k s.trace t.trace
  entered_in_order r e k d = traced s.shape s.index (Stay (at.RaiseCount (Feed (into e k)))) (answering r s) (answering r t) Back d

  pub unentered_in_order : (r : Option TicketOf) (c : ℕ) (o : Party) (k : ℕ) → EntersNoList r (entry_of c o n) k s t → HandedBack s.shape (Worker 0 s.index) (λ j. Feed (into (entry_of c o j) k)) s.trace t.trace
  unentered_in_order r c o k (inl e) = inl (ap (λ (z : Hands X G O F). z.trace) e)
  unentered_in_order r c o k (inr d) = inr (n, traced s.shape s.index (Stay (at.RaiseCount (Feed (into (entry_of c o n) k)))) (answering r s) (answering r t) (HandBack (Feed (into (entry_of c o n) k))) d)

  -- a broadcast into a scope, whose pieces have numbers from this one on
  pub entered_for_all : (r : Option TicketOf) (e : Entry) (w k : ℕ) → EntersForAll r e w k s t → CastInto s.shape (Worker 0 s.index) (cast_into e w) k s.trace t.trace
  entered_for_all r e w k d =
      let c = cast_into e w in
      let pushes = Mark (at.PushForAll c) c (Numbered k) in
      (d.0.trace, traced s.shape s.index (Stay (at.RaiseForAll c)) (answering r s) d.0 pushes d.1, traced s.shape s.index pushes d.0 (answering r t) Back d.2)

  pub unentered_for_all : (r : Option TicketOf) (c : ℕ) (o : Party) (w : ℕ) → EntersForNone r (entry_of c o n) w s t → PiecesBack s.shape (Worker 0 s.index) (λ j. cast_into (entry_of c o j) w) s.trace t.trace
  unentered_for_all r c o w (inl e) = inl (ap (λ (z : Hands X G O F). z.trace) e)
  unentered_for_all r c o w (inr (inl d)) = inr (n, inl (traced s.shape s.index (Stay (at.RaiseForAll (cast_into (entry_of c o n) w))) (answering r s) (answering r t) (HandAllBack (cast_into (entry_of c o n) w)) d))
  unentered_for_all r c o w (inr (inr d)) = inr (n, inr (traced s.shape s.index (Stay (at.RaiseForAll (cast_into (entry_of c o n) w))) (answering r s) (answering r t) Back d))

  pub entered_for_all_so : {A B : Type 0} (r : Result A B) (k : A → ℕ) (u : Option TicketOf) (c : ℕ) (o : Party) → MatchResult r (λ x. EntersForAll u (entry_of c o n) s.shape.workers (k x) s t) (λ _. EntersForNone u (entry_of c o n) s.shape.workers s t)
      → IfOk r (λ x. (a : ℕ) × CastInto s.shape (Worker 0 s.index) (cast_into (entry_of c o a) s.shape.workers) (k x) s.trace t.trace) × IfErr r (λ _. PiecesBack s.shape (Worker 0 s.index) (λ a. cast_into (entry_of c o a) s.shape.workers) s.trace t.trace)
  entered_for_all_so (Ok x) k u c o d = ((n, entered_for_all u (entry_of c o n) s.shape.workers (k x) d), tt)
  entered_for_all_so (Err e) k u c o d = (tt, unentered_for_all u c o s.shape.workers d)

  -- a scope was opened, or not
  pub scope_opened : WorkerGoes (Stay (at.RaiseCount (Open (own_call n)))) s t (StartRun (at.ScopeBody (own_call n)) n) → ScopeOpened s.shape (Worker 0 s.index) n s.trace t.trace
  scope_opened d = traced s.shape s.index (Stay (at.RaiseCount (Open (own_call n)))) s t (StartRun (at.ScopeBody (own_call n)) n) d

  pub scope_refused : WorkerGoes (Stay (at.RaiseCount (Open (own_call n)))) s t (HandBack (Open (own_call n))) → HandedBack s.shape (Worker 0 s.index) (λ j. Open (own_call j)) s.trace t.trace
  scope_refused d = inr (n, traced s.shape s.index (Stay (at.RaiseCount (Open (own_call n)))) s t (HandBack (Open (own_call n))) d)

  -- a broadcast that waits was opened, whose pieces have the row of names that belongs to its name; or it was not
  pub gather_opened : (a : ℕ) → IsRow s.shape.workers n (Some a) → WorkerGoes (Stay (at.RaiseCount (Gather (gathering s.index n a s.shape.workers)))) s t (Mark (gather_all s.shape (own_call n)) (dealt s.index n a s.shape.workers) Dealt) → GatherOpened s.shape s.index n s.trace t.trace
  gather_opened a row d = (a, row, traced s.shape s.index (Stay (at.RaiseCount (Gather (gathering s.index n a s.shape.workers)))) s t (Mark (gather_all s.shape (own_call n)) (dealt s.index n a s.shape.workers) Dealt) d)

  pub gather_refused : (a : ℕ) → IsRow s.shape.workers n (Some a) → WorkerGoes (Stay (at.RaiseCount (Gather (gathering s.index n a s.shape.workers)))) s t (HandBack (Gather (gathering s.index n a s.shape.workers))) → GatherBack s.shape s.index s.trace t.trace
  gather_refused a row d = inr (n, a, row, traced s.shape s.index (Stay (at.RaiseCount (Gather (gathering s.index n a s.shape.workers)))) s t (HandBack (Gather (gathering s.index n a s.shape.workers))) d)

  pub gather_so : {A B : Type 0} (a : ℕ) (r : Result A B) (k : A → TicketOf) → IsRow s.shape.workers n (Some a) → IfOk r (λ c. IsBroadcastOf (Worker 0 s.index) n s.shape.workers (k c))
      → MatchResult r (λ _. WorkerGoes (Stay (at.RaiseCount (Gather (gathering s.index n a s.shape.workers)))) s t (Mark (gather_all s.shape (own_call n)) (dealt s.index n a s.shape.workers) Dealt)) (λ _. WorkerGoes (Stay (at.RaiseCount (Gather (gathering s.index n a s.shape.workers)))) s t (HandBack (Gather (gathering s.index n a s.shape.workers))))
      → IfOk r (λ c. GatherOpened s.shape s.index (k c).number s.trace t.trace) × IfErr r (λ _. GatherBack s.shape s.index s.trace t.trace)
  gather_so a (Ok c) k row is d = (subst (λ (z : ℕ). GatherOpened s.shape s.index z s.trace t.trace) (sym (ap (λ (z : TicketOf). z.number) is.1)) (gather_opened a row d), tt)
  gather_so a (Err e) k row is d = (tt, gather_refused a row d)

  -- a task of this name is added to the own FIFO list, or not
  pub listed : (k : ℕ) → WorkerGoes (Stay (at.AddToFifo (feeding n k))) s t Back → Traced s.shape (Worker 0 s.index) (Stay (at.AddToFifo (feeding n k))) s.trace t.trace Back
  listed k d = traced s.shape s.index (Stay (at.AddToFifo (feeding n k))) s t Back d

  pub unlisted : (k : ℕ) → (t ≡ s) ⊎ WorkerGoes (Stay (at.AddToFifo (feeding n k))) s t (Stay (undo (Feed (feeding n k)))) → Unlisted s.shape (Worker 0 s.index) n s.trace t.trace
  unlisted k (inl e) = inl (ap (λ (z : Hands X G O F). z.trace) e)
  unlisted k (inr d) = inr (k, traced s.shape s.index (Stay (at.AddToFifo (feeding n k))) s t (Stay (undo (Feed (feeding n k)))) d)

  -- the end of a run
  pub closes : (k : JobKind) (e : Ending) → HasRun k → ClosesRun k n e s t → Closes s.shape (Worker 0 s.index) n k e s.trace t.trace
  closes (Detached p) e r d = (tt, traced s.shape s.index (Stay (at.LowerCount (OfPool p) (OfJob n) Resume)) (with_units 1 s) (with_units 0 t) Back d)
  closes (Stored c o) e r d = (tt, traced s.shape s.index (Stay (at.StoreResult c o e)) s t Back d)
  closes (Scoped c o) e r d = (tt, traced s.shape s.index (Stay (at.StoreSlot c o n e)) s t Back d)
  closes (PieceOf c o) e r d = (tt, traced s.shape s.index (Stay (at.StorePiece c o n e)) s t Back d)
  closes Direct e r d = (tt, ap (λ (z : Hands X G O F). z.trace) d)
  closes (BodyOf c o) e r d = (tt, ap (λ (z : Hands X G O F). z.trace) d)
  closes (WholeOf c o) e r d = absurd r
  closes (TokenOf i b) e r d = absurd r

-- a job that a worker took has a run
pub has_run : (t : TicketOf) → HasRun (kind_in t)
has_run t = by t.scope t.broadcast t.detached
  where
    by : (s : Option CoreOf) (k : Option CoreOf) (b : Bool) → HasRun (elim s [ None ↦ elim k [ None ↦ elim b [ true ↦ Detached 0 | false ↦ Stored t.number t.owner ] | Some c ↦ PieceOf c.call t.owner ] | Some c ↦ Scoped c.call t.owner ])
    by None None true = tt
    by None None false = tt
    by None (Some c) b = tt
    by (Some c) k b = tt

-- the pool of a detached job is the own one
abbrev pool_in : JobKind → ℕ
pool_in (Detached p) = p
pool_in _ = 0

pub own_pool : (k : JobKind) (t : TicketOf) (p : ℕ) → k ≡ kind_in t → k ≡ Detached p → p ≡ 0
own_pool k t p e f = by t.scope t.broadcast t.detached (subst (λ (z : JobKind). z ≡ Detached p) e f)
  where
    by : (s : Option CoreOf) (k : Option CoreOf) (b : Bool) → elim s [ None ↦ elim k [ None ↦ elim b [ true ↦ Detached 0 | false ↦ Stored t.number t.owner ] | Some c ↦ PieceOf c.call t.owner ] | Some c ↦ Scoped c.call t.owner ] ≡ Detached p → p ≡ 0
    by None None true g = sym (ap pool_in g)
    by None None false g = sym (ap pool_in g)
    by None (Some c) b g = sym (ap pool_in g)
    by (Some c) k b g = sym (ap pool_in g)

-- what the end of a run asks, of a job that was taken: its ticket and its result are in hand
pub can_close : {X G O F : Type 0} (k : JobKind) (t : TicketOf) (r : Run G O F) (s : Hands X G O F) → k ≡ kind_in t → ((p : ℕ) → k ≡ Detached p → ⊥) → s.reply ≡ Some t → s.done ≡ Some r → CanClose k (ending_of r.answer) s
can_close {X} {G} {O} {F} k t r s e n a b = by t.scope t.broadcast t.detached refl refl refl
  where
    here : JobKind → Type 0
    here z = CanClose z (ending_of r.answer) s

    alone : Option CoreOf → JobKind
    alone z = elim z [ None ↦ elim t.detached [ true ↦ Detached 0 | false ↦ Stored t.number t.owner ] | Some c ↦ PieceOf c.call t.owner ]

    result : HasResult s.done (Some (ending_of r.answer))
    result = subst (λ (z : Option (Run G O F)). HasResult z (Some (ending_of r.answer))) (sym b) refl

    by : (q : Option CoreOf) (l : Option CoreOf) (d : Bool) → t.scope ≡ q → t.broadcast ≡ l → t.detached ≡ d → CanClose k (ending_of r.answer) s
    by None None true f h g =
        let is : kind_in t ≡ Detached 0 = subst (λ (z : Option CoreOf). elim z [ None ↦ kind_alone t | Some c ↦ Scoped c.call t.owner ] ≡ Detached 0) (sym f) (subst (λ (z : Option CoreOf). alone z ≡ Detached 0) (sym h) (subst (λ (z : Bool). elim z [ true ↦ Detached 0 | false ↦ Stored t.number t.owner ] ≡ Detached 0) (sym g) refl)) in
        absurd (n 0 (e ∙ is))
    by None None false f h g =
        let is : kind_in t ≡ Stored t.number t.owner = subst (λ (z : Option CoreOf). elim z [ None ↦ kind_alone t | Some c ↦ Scoped c.call t.owner ] ≡ Stored t.number t.owner) (sym f) (subst (λ (z : Option CoreOf). alone z ≡ Stored t.number t.owner) (sym h) (subst (λ (z : Bool). elim z [ true ↦ Detached 0 | false ↦ Stored t.number t.owner ] ≡ Stored t.number t.owner) (sym g) refl)) in
        let mine : call_in t ≡ t.number = subst (λ (z : Option CoreOf). elim z [ None ↦ call_alone t | Some c ↦ c.call ] ≡ t.number) (sym f) (subst (λ (z : Option CoreOf). elim z [ None ↦ t.number | Some c ↦ c.call ] ≡ t.number) (sym h) refl) in
        subst here (sym (e ∙ is)) (subst (λ (z : Option TicketOf). HasTicket z (Some t.number)) (sym a) mine, result)
    by None (Some c) d f h g =
        let is : kind_in t ≡ PieceOf c.call t.owner = subst (λ (z : Option CoreOf). elim z [ None ↦ kind_alone t | Some k ↦ Scoped k.call t.owner ] ≡ PieceOf c.call t.owner) (sym f) (subst (λ (z : Option CoreOf). alone z ≡ PieceOf c.call t.owner) (sym h) refl) in
        subst here (sym (e ∙ is)) (subst (λ (z : Option TicketOf). IsBroadcast (broadcast_in z) c.call) (sym a) (subst (λ (z : Option CoreOf). IsBroadcast (elim z [ None ↦ t.broadcast | Some k ↦ None ]) c.call) (sym f) (subst (λ (z : Option CoreOf). IsBroadcast z c.call) (sym h) refl)), result)
    by (Some c) l d f h g =
        let is : kind_in t ≡ Scoped c.call t.owner = subst (λ (z : Option CoreOf). elim z [ None ↦ kind_alone t | Some k ↦ Scoped k.call t.owner ] ≡ Scoped c.call t.owner) (sym f) refl in
        subst here (sym (e ∙ is)) (subst (λ (z : Option TicketOf). IsScope (scope_in z) c.call) (sym a) (subst (λ (z : Option CoreOf). IsScope z c.call) (sym f) refl), result)

-- the acts of a run's end, said of equal kinds and endings
pub closes_so : (h : PoolShape) (q : Party) (t r : ℕ) (k o : JobKind) (e f : Ending) (v w : Log) → t ≡ r → k ≡ o → e ≡ f → Closes h q t k e v w → Closes h q r o f v w
closes_so h q t r k o e f v w a b c d =
    subst (λ (z : Ending). Closes h q r o z v w) c
    (subst (λ (z : JobKind). Closes h q r z e v w) b
    (subst (λ (z : ℕ). Closes h q z k e v w) a d))

-- what a call has made, by what it answers
pub made_fine : {O F B : Type 0} (P Q R : Type 0) (r : Result O (CallError F B)) (x : O) → r ≡ Ok x → P → CallMade P Q R r
made_fine {O} {F} {B} P Q R r x e p = subst (λ (z : Result O (CallError F B)). CallMade P Q R z) (sym e) p

pub made_fault : {O F B : Type 0} (P Q R : Type 0) (r : Result O (CallError F B)) (f : F) → r ≡ Err (CallError.Fault f) → Q → CallMade P Q R r
made_fault {O} {F} {B} P Q R r f e q = subst (λ (z : Result O (CallError F B)). CallMade P Q R z) (sym e) q

-- a call that was not refused has made the same acts, whatever else it answers
pub made_either : {O F B : Type 0} (P R : Type 0) (r : Result O (CallError F B)) → ((e : Refusal) (b : B) → r ≡ Err (CallError.Refused e b) → ⊥) → P → CallMade P P R r
made_either P R (Ok x) n p = p
made_either P R (Err (CallError.Fault f)) n p = p
made_either P R (Err (CallError.Refused e b)) n p = absurd (n e b refl)
made_either P R (Err CallError.Foreign) n p = p
made_either P R (Err CallError.Missing) n p = p

-- what holds of either answer holds of another answer of the same kind
pub matched_ok : {A B C D : Type 0} (P Q : Type 0) (r : Result A B) (q : Result C D) (x : A) (y : C) → r ≡ Ok x → q ≡ Ok y → MatchResult r (λ _. P) (λ _. Q) → MatchResult q (λ _. P) (λ _. Q)
matched_ok {A} {B} {C} {D} P Q r q x y e f d =
    subst (λ (z : Result C D). MatchResult z (λ _. P) (λ _. Q)) (sym f) (subst (λ (z : Result A B). MatchResult z (λ _. P) (λ _. Q)) e d)

pub matched_err : {A B C D : Type 0} (P Q : Type 0) (r : Result A B) (q : Result C D) (x : B) (y : D) → r ≡ Err x → q ≡ Err y → MatchResult r (λ _. P) (λ _. Q) → MatchResult q (λ _. P) (λ _. Q)
matched_err {A} {B} {C} {D} P Q r q x y e f d =
    subst (λ (z : Result C D). MatchResult z (λ _. P) (λ _. Q)) (sym f) (subst (λ (z : Result A B). MatchResult z (λ _. P) (λ _. Q)) e d)

-- the last stretch
pub last : (h : PoolShape) (q : Party) (m : Move) (v w : Log) (n : Move) → Traced h q m v w n → Worked h q m v w n
last h q m v w n a = ([], a)

-- a stretch more before acts with runs between
pub worked_then : (h : PoolShape) (q : Party) (m : Move) (v x : Log) (k : Move) (w : Log) (n : Move) → Traced h q m v x k → Worked h q k x w n → Worked h q m v w n
worked_then h q m v x k w n a c = by c.0 c.1
  where
    by : (rs : List Lay) → WorkedAround h q k x rs w n → Worked h q m v w n
    by [] b = ([], traced_then h q m v x k w n a b)
    by (r ∷ rs) b = (r ∷ rs, (b.0, b.1, traced_then h q m v x k b.0 r.begins a b.2, b.3, b.4))

-- a broadcast that waits was opened, and went on to its end
pub gathered : (h : PoolShape) (i n : ℕ) (v x w : Log) → GatherOpened h i n v x → GatherLeft h i n x w → Gathered h i v w
gathered h i n v x w a b =
    let c = dealt i n a.0 h.workers in
    (n, a.0, a.1, worked_then h (Worker 0 i) (Stay (at.RaiseCount (Gather (gathering i n a.0 h.workers)))) v x (Mark (gather_all h (own_call n)) c Dealt) w Back a.2 (b c))

-- the frame above which a wait's task begins
pub above : (g : Target) (f p : Place) (r : Move) → r ≡ Enter f p → Waited g r → r ≡ Enter (at.ProbeWorking (fresh g)) p
above g f p r e a =
    let w = subst (λ (z : Move). Waited g z) e a in
    subst (λ (z : Place). r ≡ Enter z p) w.0 e

-- a wait that has not found a task has ended
pub has_ended : (g : Target) (m : Move) → Waited g m → ((f : Place) (k : Taken) → m ≡ Enter f (at.BeginTask k) → ⊥) → m ≡ wait_end g
has_ended Termination (Stay p) a n = ap Stay a
has_ended (Answer o f) (Stay p) a n = absurd a
has_ended g (Enter f (at.BeginTask k)) a n = absurd (n f k refl)
has_ended g (Enter f _) a n = absurd a.1
has_ended (Answer o f) Back a n = refl
has_ended Termination Back a n = absurd a
has_ended g (StartRun f k) a n = absurd a
has_ended g (HandBack k) a n = absurd a
has_ended g (HandIn p k) a n = absurd a
has_ended g (Discard k) a n = absurd a
has_ended g (Mark p c m) a n = absurd a
has_ended g (HandAllBack c) a n = absurd a

-- what a wait leaves of the worker value where it has ended: the units are those after its last move
pub after_wait : {T : Type 0} (k : Target) (m : Move) (v w : WorkerValue T) → m ≡ wait_end k → w.id ≡ v.id → w.levels ≡ v.levels → w.units ≡ units_after m v.units → w.shape ≡ v.shape → AfterWait k v w
after_wait {T} Termination m v w e i l u h = (i, l, subst (λ (z : Move). w.units ≡ units_after z v.units) e u, h)
after_wait {T} (Answer o f) m v w e i l u h = (i, l, subst (λ (z : Move). w.units ≡ units_after z v.units) e u, h)

module _ {X G O F : Type 0} where
  -- a worker that has stopped has seen the latch set
  pub has_probed : (u : Hands X G O F) (m : Move) → m ≡ Stay at.Stopped → Stands u m → u.probed ≡ true
  has_probed u m e a =
      let here = subst (λ (z : Move). Stands u z) e a in
      here.2.0

  -- and its own seat of the latch has seen so
  pub has_seen : (u : Hands X G O F) (m : Move) → m ≡ Stay at.Stopped → Stands u m → u.guards.own.seen ≡ true
  has_seen u m e a =
      let here = subst (λ (z : Move). Stands u z) e a in
      here.2.1

-- the acts of a run's end, said of equals
pub closes_as : (h k : PoolShape) (i j : ℕ) (t r : ℕ) (o : JobKind) (e : Ending) (v w : Log) → i ≡ j → h ≡ k → t ≡ r → Closes h (Worker 0 i) t o e v w → Closes k (Worker 0 j) r o e v w
closes_as h k i j t r o e v w a b c d =
    subst (λ (z : ℕ). Closes k (Worker 0 j) z o e v w) c
    (subst (λ (z : PoolShape). Closes z (Worker 0 j) t o e v w) b
    (subst (λ (z : ℕ). Closes h (Worker 0 z) t o e v w) a d))

-- one more stretch of a worker's, to a task or a token that it has at hand, and what the worker adds: of what it has before
-- that begins, and once it has begun and is out of its hand
module _ {X G O F : Type 0} (h : PoolShape) (i : ℕ) (f : Place) (x : Option (TaskOf X)) (s r : Hands X G O F) where
  -- what it adds then: the run of what has begun, and the acts of its end; or nothing, where nothing has
  abbrev pub Told : Log → Type 0
  Told z = MatchOption x (z ≡ r.trace) (λ y. (e : Ending) × (o : Log) × AddsRun r.trace o × Closes r.shape (Worker 0 r.index) y.ticket.number (kind_in y.ticket) e o z)

  abbrev Goes : Move → Log → Log → Move → Type 0
  Goes m v w n = Worked h (Worker 0 i) m v w n

  module _ (k : Taken) (m : Move) (v u z w : Log) (n : Move) (found : Traced h (Worker 0 i) m v u (Enter f (at.BeginTask k))) (rest : Goes (Stay f) z w n) where
    laid : (b : Move) (e : Ending) (o : Log) → resumed b f e ≡ f → Traced h (Worker 0 i) (Stay (at.BeginTask k)) u r.trace b → Follows h (Worker 0 i) b (record { begins = Enter f (at.BeginTask k); starts = b; ended = e; lent = r.trace; over = o }) z → Goes m v w n
    laid b e o same begun follows =
        let on = subst (λ (y : Place). Goes (Stay y) z w n) (sym same) rest in
        (record { begins = Enter f (at.BeginTask k); starts = b; ended = e; lent = r.trace; over = o } ∷ on.0, (u, z, found, (begun, follows), on.1))

  around_as : (k : Taken) (m : Move) (v u z w : Log) (n : Move) (y : Option (TaskOf X)) → x ≡ y → r.index ≡ i → r.shape ≡ h → ((e : Ending) → goes_on f e ≡ f)
      → Traced h (Worker 0 i) m v u (Enter f (at.BeginTask k)) → Traced h (Worker 0 i) (Stay (at.BeginTask k)) u r.trace (begins_as k y)
      → Told z → Goes (Stay f) z w n → Goes m v w n
  around_as k m v u z w n None is seat shape stays found begun told rest =
      let same = subst (λ (l : Option (TaskOf X)). MatchOption l (z ≡ r.trace) (λ y. (e : Ending) × (o : Log) × AddsRun r.trace o × Closes r.shape (Worker 0 r.index) y.ticket.number (kind_in y.ticket) e o z)) is told in
      laid k m v u z w n found rest (Discard (taken_number k)) Fine r.trace refl begun same
  around_as (Plain t) m v u z w n (Some y) is seat shape stays found begun told rest =
      let ran = subst (λ (l : Option (TaskOf X)). MatchOption l (z ≡ r.trace) (λ y. (e : Ending) × (o : Log) × AddsRun r.trace o × Closes r.shape (Worker 0 r.index) y.ticket.number (kind_in y.ticket) e o z)) is told in
      laid (Plain t) m v u z w n found rest (Stay (at.Run y.ticket.number (kind_in y.ticket))) ran.0 ran.1 (stays ran.0) begun (ran.2, closes_as r.shape h r.index i y.ticket.number y.ticket.number (kind_in y.ticket) ran.0 ran.1 z seat shape refl ran.3)
  around_as (Token t j b) m v u z w n (Some y) is seat shape stays found begun told rest =
      let ran = subst (λ (l : Option (TaskOf X)). MatchOption l (z ≡ r.trace) (λ y. (e : Ending) × (o : Log) × AddsRun r.trace o × Closes r.shape (Worker 0 r.index) y.ticket.number (kind_in y.ticket) e o z)) is told in
      laid (Token t j b) m v u z w n found rest (HandIn (at.Run y.ticket.number (kind_in y.ticket)) t) ran.0 ran.1 (stays ran.0) begun (ran.2, closes_as r.shape h r.index i y.ticket.number y.ticket.number (kind_in y.ticket) ran.0 ran.1 z seat shape refl ran.3)

  pub around_task : (k : Taken) (p : Place) (m : Move) (v u z w : Log) (n : Move) → p ≡ at.BeginTask k → s.index ≡ i → s.shape ≡ h → s.trace ≡ u → r.index ≡ i → r.shape ≡ h → ((e : Ending) → goes_on f e ≡ f)
      → Traced h (Worker 0 i) m v u (Enter f p)
      → WorkerGoes (Stay (at.BeginTask k)) s (record r { task = x }) (begins_as k x)
      → Told z → Goes (Stay f) z w n → Goes m v w n
  around_task k p m v u z w n taken seat shape before seat2 shape2 stays found path told rest =
      let here = traced s.shape s.index (Stay (at.BeginTask k)) s (record r { task = x }) (begins_as k x) path in
      let begun = traced_as s.shape h s.index i (Stay (at.BeginTask k)) s.trace r.trace (begins_as k x) (begins_as k x) seat shape refl here in
      let begun2 = subst (λ (l : Log). Traced h (Worker 0 i) (Stay (at.BeginTask k)) l r.trace (begins_as k x)) before begun in
      let entered = subst (λ (l : Place). Traced h (Worker 0 i) m v u (Enter f l)) taken found in
      around_as k m v u z w n x refl seat2 shape2 stays entered begun2 told rest

-- acts with runs between, said of equals
pub worked_as : (h k : PoolShape) (i j : ℕ) (m : Move) (v w : Log) (n : Move) → i ≡ j → h ≡ k → Worked h (Worker 0 i) m v w n → Worked k (Worker 0 j) m v w n
worked_as h k i j m v w n e f a = subst (λ (z : PoolShape). Worked z (Worker 0 j) m v w n) f (subst (λ (z : ℕ). Worked h (Worker 0 z) m v w n) e a)

-- the own second side has run, and the join ends
pub runs_second : (h : PoolShape) (q : Party) (o : OpenCall) (v u w : Log) → o.pool ≡ 0 → Traced h q (Stay (at.JoinProbe o)) v u (Enter (at.SecondSide o) (at.BeginHere o.job)) → Lowered h q o u w → Worked h q (Stay (at.JoinProbe o)) v w Back
runs_second h q o v u w e a l =
    let first = Stay (at.LowerCount (OfPool 0) (OfJob o.job) (Answers o (Some Fine) l.0)) in
    let x = l.1 in
    let y = l.2 in
    let end = subst (λ (p : ℕ). Worked h q (Stay (at.LowerCount (OfPool p) (OfJob o.job) (Answers o (Some Fine) l.0))) y w Back) (sym e) (last h q first y w Back l.5) in
    (record { begins = Enter (at.SecondSide o) (at.BeginHere o.job); starts = Stay (at.Run o.job Direct); ended = l.0; lent = x; over = y } ∷ end.0, (u, y, a, (l.3, (l.4, (tt, refl))), end.1))

pub lowered_as : (h k : PoolShape) (i j : ℕ) (o : OpenCall) (v w : Log) → i ≡ j → h ≡ k → Lowered h (Worker 0 i) o v w → Lowered k (Worker 0 j) o v w
lowered_as h k i j o v w e f a = subst (λ (z : PoolShape). Lowered z (Worker 0 j) o v w) f (subst (λ (z : ℕ). Lowered h (Worker 0 z) o v w) e a)

-- a run above a join that looks for its second side, or waits for its answer, leaves the join where it was
pub stays : (o : OpenCall) (z : Bool) (e : Ending) → goes_on (if z then at.ProbeWorking (fresh (Answer o (Some Fine))) else at.JoinProbe o) e ≡ (if z then at.ProbeWorking (fresh (Answer o (Some Fine))) else at.JoinProbe o)
stays o true e = refl
stays o false e = refl
