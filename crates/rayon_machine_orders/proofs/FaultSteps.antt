-- the faults that calls keep, over each step of each run; and what the laws say of them
use Rattle.std.proofs.Common.{◌∙◌, ap, arith, inl, inr, refl, subst, sym}
use Rattle.rayon_machine_orders.proofs.Words.{eq-eqb, ◌⊎◌, ◌≡◌, ◌&&◌, ◌==◌, ◌+◌, ◌-◌, ◌≤◌, ◌<◌, ℕ, if◌then◌else◌, Bool, IfSome, List, None, Option, Some, false, nat_lt, true, has_body, is_of_scope, CastTakes, HasEnded, ScopeTakes, TakesAs as Takes, follows, one, KeepsBy, TakesFault, TakesLowest}
use Rattle.rayon_machine_orders.proofs.Words.{act_of, fresh, IsRun, first_place, start, holds, part_of, step, Part, Shape, World, found, target_call, target_pool, target_worker, told, Found, Event, Go, Ending, Fault, Fine, JobKind, BodyOf, Detached, Direct, PieceOf, Scoped, Stored, TokenOf}
use Rattle.rayon_machine_orders.proofs.Words.{WholeOf, OpenCall, Party, Caller, Worker, Free, ProbeWorking, Stopped, TakeResult, Termination, Answers, Whereabouts, Nowhere, Over, is_done}
use Rattle.rayon_machine_laws.proofs.ClaimRuns.{unqueued}
use Rattle.rayon_machine_laws.proofs.Claims.{Opened, Says, is_body}
use Rattle.rayon_machine_laws.proofs.Endings.{follows_says, has_ended}
use Rattle.rayon_machine_laws.proofs.Events.{run_keeps}
use Rattle.rayon_machine_laws.proofs.Frame.{acted_keeps, either, if_some_and, if_some_map}
use Rattle.rayon_machine_laws.proofs.PlacedEvents.{Advance}
use Rattle.rayon_machine_laws.proofs.PlacedRuns.{JobsHold, step_advance}
use Rattle.rayon_machine_laws.proofs.Scoping.{count_over}
use Rattle.rayon_machine_laws.proofs.Ties.{job_at, outcome}
use Rattle.rayon_machine_orders.proofs.FaultActs.{cell_ended, go_faults, some_end, taken_count}
use Rattle.rayon_machine_orders.proofs.FaultPlaces.{answer_of, told_of}
use Rattle.rayon_machine_orders.proofs.Faults.{Answered, FaultOf, FaultsHold, KeepsFor, StoredSo, act_first, hold_of, is_whole, keeps_same, of_cast, of_scope, over_is, puts_counts, stored_so}
use Rattle.rayon_machine_orders.proofs.FilledStates.{FilledHold}
use Rattle.rayon_machine_orders.proofs.Filled.{first_fills, step_fills, takes_filled}
use Rattle.rayon_machine_orders.specs.Faults.{FaultLaw, IsKept, StoresOwn, stored_at}
use Rattle.rayon_machine_orders.proofs.FaultEvents.{NewCall, Still, event_still, less_or, some_number, still_faults, whole_body}
use Rattle.rayon_machine_orders.proofs.EventCases.{is_act}

event_faults : (w : World) (e : Event) → is_act e ≡ false → FaultsHold w → IfSome (step w e) FaultsHold
event_faults w e z h = if_some_map (λ u. (FilledHold u × Advance w u) × Still w u) FaultsHold (λ u d. still_faults w u h ((d.0).0) ((d.0).1) (d.1)) (step w e)
    (if_some_and (λ u. FilledHold u × Advance w u) (Still w) (step w e)
    (if_some_and FilledHold (Advance w) (step w e) (step_fills w e (h.fills)) (step_advance w e (unqueued w (hold_of w h)) (((hold_of w h).jobs).feeds) (((hold_of w h).jobs).ok) (((hold_of w h).jobs).unmade)))
    (event_still w e z h))

act_faults : (w : World) (q : Party) → FaultsHold w → IfSome (step w (Go q)) (λ u. FilledHold u → FaultsHold u)
act_faults w q h = acted_keeps w q (w.stack q) (target_pool q (act_of q (w.stack q).top)) (target_worker q (act_of q (w.stack q).top)) (target_call (act_of q (w.stack q).top)) (job_at w q (act_of q (w.stack q).top)) (outcome w q (w.stack q)) (λ u. FilledHold u → FaultsHold u) (go_faults w q h)

step_faults : (w : World) (e : Event) → FaultsHold w → IfSome (step w e) FaultsHold
step_faults w (Go q) h = if_some_map (λ u. FilledHold u × (FilledHold u → FaultsHold u)) FaultsHold (λ u d. d.1 (d.0)) (step w (Go q)) (if_some_and FilledHold (λ u. FilledHold u → FaultsHold u) (step w (Go q)) (step_fills w (Go q) (h.fills)) (act_faults w q h))
step_faults w e h = event_faults w e refl h

first_quiet : (h : Shape) (q : Party) → answer_of (first_place h q) ≡ None
first_quiet h (Worker p i) = at (nat_lt i (h.pool p).workers) ((h.pool p).callers_own && (i == 0))
  where
    at : (b d : Bool) → answer_of (if b then (if d then Free else ProbeWorking (fresh Termination)) else Stopped) ≡ None
    at true true = refl
    at true false = refl
    at false d = refl
first_quiet h (Caller c) = at (nat_lt c h.callers)
  where
    at : (b : Bool) → answer_of (if b then Free else Stopped) ≡ None
    at true = refl
    at false = refl

first_faults : (h : Shape) → FaultsHold (start h)
first_faults h = record {
  fills = first_fills h;
  kept = λ c t e. absurd (cc);
  untold = λ t c l s a. absurd (omega (arith, l));
  whole = λ t c o l k. absurd (omega (arith, l));
  body = λ c l b e n. absurd (omega (arith, l));
  first = λ c l. absurd (omega (arith, l));
  answers = λ q o f e z. absurd (let i : None ≡ Some (o, (f, e)) = sym (first_quiet h q) ∙ z in cc);
}

pub always_faults : (h : Shape) (es : List Event) (w : World) → IsRun (start h) es w → FaultsHold w
always_faults h es w r = run_keeps FaultsHold step_faults (start h) w es (first_faults h) r

-- a job that is over was made
over_made : (w : World) → FaultsHold w → (t : ℕ) (e : Ending) → (w.job t).at ≡ Over e → t + 1 ≤ w.jobs
over_made w h t e a = elim (less_or t w.jobs) [ inl y ↦ y | inr y ↦ absurd (let i : Over e ≡ Nowhere = sym a ∙ ((hold_of w h).jobs).unmade t y in cc) ]

-- where a call's count is 0, each job of it that ended with a fault has told it
all_told : (w : World) → FaultsHold w → (c t : ℕ) → (w.call c).count ≡ 0 → is_of_scope c (w.job t).kind ≡ true → (w.job t).at ≡ Over Fault → KeepsFor (w.job t).kind (w.call c).fault t
all_told w h c t z s a = elim (h.untold t c (over_made w h t Fault a) s a) [ inl k ↦ k | inr y ↦ absurd (puts_counts w h (y.0) c t Fault (y.1) z) ]

some_fault : (k : Option ℕ) → (u : ℕ) × (k ≡ Some u) → k ≡ None → ⊥
some_fault k u n = absurd (let i : Some (u.0) ≡ None = sym (u.1) ∙ n in cc)

-- what a scope takes, once its count is 0 and its body over
scope_takes : (w : World) → FaultsHold w → (c : ℕ) → is_whole (w.job (w.call c).job).kind ≡ false → (w.call c).count ≡ 0 → (own : Ending) → (w.job (w.call c).job).at ≡ Over own → ((w.call c).fault ≡ None → own ≡ Fine) → ScopeTakes w c (told (w.call c).fault own)
scope_takes w h c v z own at fine = by ((w.call c).fault) refl
  where
    jobs : JobsHold w
    jobs = (hold_of w h).jobs

    job_fine : (w.call c).fault ≡ None → (t : ℕ) (o : Party) (e : Ending) → (w.job t).kind ≡ Scoped c o → (w.job t).at ≡ Over e → e ≡ Fine
    job_fine n t o Fine k a = refl
    job_fine n t o Fault k a = absurd (some_fault ((w.call c).fault) (subst (λ j. KeepsFor j (w.call c).fault t) k (all_told w h c t z (ap (is_of_scope c) k ∙ eq-eqb c c refl) a)) n)

    by : (k : Option ℕ) → (w.call c).fault ≡ k → ScopeTakes w c (told k own)
    by None n = subst (ScopeTakes w c) (sym (fine n)) (record { kept = n; body = has_ended w jobs ((w.call c).job) Fine (at ∙ ap Over (fine n)); jobs = job_fine n })
    by (Some t) n = let a : FaultOf w c t = h.kept c t n in record { job = t; kept = n; ended = has_ended w jobs t Fault a.at; inside = of_scope w c t ((w.job (w.call c).job).kind) v a.inside; last = own; body = has_ended w jobs ((w.call c).job) own at }

-- and what a broadcast takes, once its count is 0
piece_over : (v : Whereabouts) → is_done v ≡ true → (e : Ending) × (v ≡ Over e)
piece_over (Over e) z = (e, refl)
piece_over _ z = absurd (cc)

cast_takes : (w : World) → FaultsHold w → (c : ℕ) → c + 1 ≤ w.calls → is_whole (w.job (w.call c).job).kind ≡ true → (w.call c).count ≡ 0 → (own : Ending) → ((w.call c).fault ≡ None → own ≡ Fine) → CastTakes w c (told (w.call c).fault own)
cast_takes w h c l v z own fine = by ((w.call c).fault) refl
  where
    jobs : JobsHold w
    jobs = (hold_of w h).jobs

    of_call : (t : ℕ) (o : Party) → (w.job t).kind ≡ PieceOf c o → is_of_scope c (w.job t).kind ≡ true
    of_call t o k = ap (is_of_scope c) k ∙ eq-eqb c c refl

    over : (t : ℕ) (o : Party) → t + 1 ≤ w.jobs → (w.job t).kind ≡ PieceOf c o → (e : Ending) × ((w.job t).at ≡ Over e)
    over t o m k = piece_over ((w.job t).at) ((count_over w ((h.fills).scopes) c l z).over (no_body ((w.job (w.call c).job).kind) v) t m (of_call t o k))
      where
        no_body : (k : JobKind) → is_whole k ≡ true → has_body k ≡ false
        no_body (WholeOf d p) y = refl
        no_body _ y = cc

    -- one that ended with a fault is no lower than the one that is kept
    high : (t : ℕ) (o : Party) → (w.job t).kind ≡ PieceOf c o → (w.job t).at ≡ Over Fault → (u : ℕ) × (((w.call c).fault ≡ Some u) × (u ≤ t))
    high t o k a = subst (λ j. KeepsFor j (w.call c).fault t) k (all_told w h c t z (of_call t o k) a)

    none_fine : (w.call c).fault ≡ None → (t : ℕ) (o : Party) → (w.job t).kind ≡ PieceOf c o → (e : Ending) × ((w.job t).at ≡ Over e) → HasEnded w t Fine
    none_fine n t o k (Fine, a) = has_ended w jobs t Fine a
    none_fine n t o k (Fault, a) = absurd (let u : (u : ℕ) × (((w.call c).fault ≡ Some u) × (u ≤ t)) = high t o k a in some_fault ((w.call c).fault) (u.0, (u.1).0) n)

    lower : (u t : ℕ) (o : Party) → (w.call c).fault ≡ Some u → (w.job t).kind ≡ PieceOf c o → t < u → (e : Ending) × ((w.job t).at ≡ Over e) → HasEnded w t Fine
    lower u t o n k m (Fine, a) = has_ended w jobs t Fine a
    lower u t o n k m (Fault, a) = absurd (let y : (x : ℕ) × (((w.call c).fault ≡ Some x) × (x ≤ t)) = high t o k a in let i : u ≡ y.0 = some_number u (y.0) (sym n ∙ (y.1).0) in let j : y.0 ≤ t = (y.1).1 in omega (arith, i, j, m))

    by : (k : Option ℕ) → (w.call c).fault ≡ k → CastTakes w c (told k own)
    by None n = subst (CastTakes w c) (sym (fine n)) (record { kept = n; pieces = λ t o m k. none_fine n t o k (over t o m k) })
    by (Some u) n = let a : FaultOf w c u = h.kept c u n in let i : (o : Party) × ((w.job u).kind ≡ PieceOf c o) = of_cast w c u ((w.job (w.call c).job).kind) v a.inside in record {
      job = u;
      kept = n;
      ended = has_ended w jobs u Fault a.at;
      owner = i.0;
      piece = i.1;
      lower = λ t o k m. lower u t o n k m (over t o (let j : u + 1 ≤ w.jobs = a.made in omega (arith, j, m)) k);
      pieces = λ t o m k. (let e : (e : Ending) × ((w.job t).at ≡ Over e) = over t o m k in (e.0, has_ended w jobs t (e.0) (e.1)));
    }

-- what a call that is neither answers is how its job ended
plain_told : (w : World) (q : Party) (o : OpenCall) (e : Ending) → FaultsHold w → Opened w q o → is_body (w.job o.job).kind ≡ false → (a : Answered w o e) → (k : Option ℕ) → (w.call o.number).fault ≡ k → e ≡ a.own
plain_told w q o e h s b a None n = a.is ∙ ap (λ k. told k a.own) n
plain_told w q o e h s b a (Some t) n = own (of_scope w o.number t ((w.job (w.call o.number).job).kind) (ap (λ m. is_whole (w.job m).kind) s.target ∙ whole) f.inside)
  where
    f : FaultOf w o.number t
    f = h.kept o.number t n

    whole : is_whole (w.job o.job).kind ≡ false
    whole = elim (either (is_whole (w.job o.job).kind)) [ inl y ↦ absurd (let i : true ≡ false = sym (whole_body ((w.job o.job).kind) y) ∙ b in cc) | inr y ↦ y ]

    own : (t ≡ (w.call o.number).job) ⊎ ((p : Party) × ((w.job t).kind ≡ Scoped o.number p)) → e ≡ a.own
    own (inl i) = a.is ∙ ap (λ k. told k a.own) n ∙ over_is Fault a.own (sym f.at ∙ ap (λ m. (w.job m).at) (i ∙ s.target) ∙ a.at whole)
    own (inr i) = absurd (let j : is_body (w.job o.job).kind ≡ true = ap (λ m. is_body (w.job m).kind) (sym s.target) ∙ ap is_body (((hold_of w h).entries t f.made o.number (i.0) (i.1)).kind) in let v : true ≡ false = sym j ∙ b in cc)

pub takes_so : (w : World) → FaultsHold w → (q : Party) (o : OpenCall) (f : Option Ending) (e : Ending) → follows (w.stack q).top ≡ Some (Answers o f e) → Takes w o (w.job o.job).kind e
takes_so w h q o f e z = by ((w.job o.job).kind) refl
  where
    a : Answered w o e
    a = h.answers q o f e (ap told_of z)

    s : Opened w q o
    s = (follows_says w q ((w.stack q).top) (Answers o f e) z (((hold_of w h).says q).top)).0

    sort : (w.job (w.call o.number).job).kind ≡ (w.job o.job).kind
    sort = ap (λ n. (w.job n).kind) s.target

    plain : is_body (w.job o.job).kind ≡ false → is_whole (w.job o.job).kind ≡ false → HasEnded w o.job e
    plain b v = has_ended w ((hold_of w h).jobs) o.job e (a.at v ∙ ap Over (sym (plain_told w q o e h s b a ((w.call o.number).fault) refl)))

    scope : is_body (w.job o.job).kind ≡ true → is_whole (w.job o.job).kind ≡ false → ScopeTakes w o.number e
    scope b v = subst (ScopeTakes w o.number) (sym a.is) (scope_takes w h o.number (ap is_whole sort ∙ v) (a.count b) a.own (ap (λ n. (w.job n).at) s.target ∙ a.at v) (a.fine b))

    cast : is_body (w.job o.job).kind ≡ true → is_whole (w.job o.job).kind ≡ true → CastTakes w o.number e
    cast b v = subst (CastTakes w o.number) (sym a.is) (cast_takes w h o.number s.number (ap is_whole sort ∙ v) (a.count b) a.own (a.fine b))

    by : (k : JobKind) → (w.job o.job).kind ≡ k → Takes w o k e
    by (BodyOf c p) i = scope (ap is_body i) (ap is_whole i)
    by (WholeOf c p) i = cast (ap is_body i) (ap is_whole i)
    by _ i = plain (ap is_body i) (ap is_whole i)

-- and what a scope, or a broadcast, takes that is about to
found_sees : (m : Part) (k : Option Ending) (own : Ending) → k ≡ Some own → IfSome (found m k) (λ r. r.0 ≡ Found (told m.call.fault own))
found_sees m None own e = cc
found_sees m (Some d) own e = ap (λ v. Found (told m.call.fault v)) (some_end d own e)

-- its cell is filled, and where it keeps no fault the cell holds none
record Taking (w : World) (c : ℕ) : Type 0 where
  own : Ending
  cell : (w.call c).cell ≡ Some own
  count : (w.call c).count ≡ 0
  fine : (w.call c).fault ≡ None → own ≡ Fine

taking : (w : World) → FaultsHold w → (q : Party) (o : OpenCall) (f : Option Ending) → (w.stack q).top ≡ TakeResult o f → is_body (w.job o.job).kind ≡ true → Taking w o.number
taking w h q o f z b = by ((w.call o.number).cell) refl
  where
    s : Opened w q o
    s = (subst (Says w q) z (((hold_of w h).says q).top)).0

    fine : (own : Ending) → (w.call o.number).cell ≡ Some own → (w.call o.number).fault ≡ None → own ≡ Fine
    fine Fine c n = refl
    fine Fault c n = absurd (h.body o.number s.number (ap (λ m. is_body (w.job m).kind) s.target ∙ b) c n)

    by : (k : Option Ending) → (w.call o.number).cell ≡ k → Taking w o.number
    by None c = absurd (takes_filled w (h.fills) q o f z c)
    by (Some own) c = record { own = own; cell = c; count = taken_count w q o f h z b; fine = fine own c }

opened_of : (w : World) → FaultsHold w → (q : Party) (o : OpenCall) (f : Option Ending) → (w.stack q).top ≡ TakeResult o f → Opened w q o
opened_of w h q o f z = (subst (Says w q) z (((hold_of w h).says q).top)).0

has_no_whole : (k : JobKind) → has_body k ≡ true → is_whole k ≡ false
has_no_whole (WholeOf c o) e = cc
has_no_whole _ e = refl

pub takes_fault : (w : World) → FaultsHold w → (q : Party) (o : OpenCall) (f : Option Ending) → (w.stack q).top ≡ TakeResult o f → is_body (w.job o.job).kind ≡ true → has_body (w.job o.job).kind ≡ true → TakesFault w o.number
takes_fault w h q o f z b v = record {
  ending = told (w.call o.number).fault t.own;
  kept = scope_takes w h o.number whole t.count t.own (cell_ended w (hold_of w h) o.number t.own whole t.cell) t.fine;
  sees = λ r p i n. found_sees (part_of w p i o.number n) ((w.call o.number).cell) t.own t.cell;
}
  where
    t : Taking w o.number
    t = taking w h q o f z b

    whole : is_whole (w.job (w.call o.number).job).kind ≡ false
    whole = ap (λ n. is_whole (w.job n).kind) ((opened_of w h q o f z).target) ∙ has_no_whole ((w.job o.job).kind) v

pub takes_lowest : (w : World) → FaultsHold w → (q : Party) (o : OpenCall) (f : Option Ending) (p : Party) → (w.stack q).top ≡ TakeResult o f → (w.job o.job).kind ≡ WholeOf o.number p → TakesLowest w o.number
takes_lowest w h q o f p z k = record {
  ending = told (w.call o.number).fault t.own;
  kept = cast_takes w h o.number ((opened_of w h q o f z).number) (ap (λ n. is_whole (w.job n).kind) ((opened_of w h q o f z).target) ∙ ap is_whole k) t.count t.own t.fine;
  sees = λ r a i n. found_sees (part_of w a i o.number n) ((w.call o.number).cell) t.own t.cell;
}
  where
    t : Taking w o.number
    t = taking w h q o f z (ap is_body k)

pub is_kept : (w : World) → FaultsHold w → IsKept w
is_kept w h = record {
  take = λ q o f z k. takes_fault w h q o f z (ap is_body k) (ap has_body k);
  cast = λ q o f z k. takes_lowest w h q o f q z k;
}

-- an event that is no act leaves the faults
still_first : (w u : World) (c : ℕ) → FaultsHold w → (u.call c ≡ w.call c) ⊎ NewCall w u c → KeepsBy (w.job (w.call c).job).kind (w.call c).fault None (u.call c).fault
still_first w u c h (inl y) = keeps_same ((w.job (w.call c).job).kind) (w.call c).fault (u.call c).fault (ap (λ v. v.fault) y)
still_first w u c h (inr y) = keeps_same ((w.job (w.call c).job).kind) (w.call c).fault (u.call c).fault (y.fault ∙ sym (none ((w.call c).fault) refl))
  where
    none : (k : Option ℕ) → (w.call c).fault ≡ k → k ≡ None
    none None e = refl
    none (Some t) e = absurd (let a : c + 1 ≤ w.calls = (h.kept c t e).call in let b : w.calls ≤ c = y.new in omega (arith, a, b))

-- what each step leaves of what each call keeps
abbrev Leaves : World → Event → World → Type 0
Leaves w e u = (c : ℕ) → KeepsBy (w.job (w.call c).job).kind (w.call c).fault (stored_at w c e) (u.call c).fault

step_first : (w : World) (e : Event) → FaultsHold w → IfSome (step w e) (Leaves w e)
step_first w (Go q) h = acted_keeps w q (w.stack q) (target_pool q (act_of q (w.stack q).top)) (target_worker q (act_of q (w.stack q).top)) (target_call (act_of q (w.stack q).top)) (job_at w q (act_of q (w.stack q).top)) (outcome w q (w.stack q)) (Leaves w (Go q))
    (act_first w q ((w.stack q).top) ((w.stack q).below) h (((hold_of w h).says q).top))
step_first w e h = if_some_map (Still w) (λ u. (c : ℕ) → KeepsBy (w.job (w.call c).job).kind (w.call c).fault None (u.call c).fault) (λ u s c. still_first w u c h (s.call c)) (step w e) (event_still w e refl h)

stored_own : (w : World) (e : Event) (c t : ℕ) (d : Ending) → FaultsHold w → stored_at w c e ≡ Some (t, d) → StoresOwn w c t d
stored_own w (Go q) c t d h z = let s : StoredSo w q ((w.stack q).top) c t d = stored_so w h q ((w.stack q).top) c t d (((hold_of w h).says q).top) z in record { ended = has_ended w ((hold_of w h).jobs) t d s.at; inside = s.inside }
stored_own w _ c t d h z = absurd (cc)

pub fault_law : FaultLaw
fault_law shape before w v e c run one = record {
  kept = (let f : IfSome (Some v) (Leaves w e) = subst (λ o. IfSome o (Leaves w e)) one (step_first w e h) in f c);
  own = λ t d z. stored_own w e c t d h z;
}
  where
    h : FaultsHold w
    h = always_faults shape before w run
