-- the faults that calls keep: what each act leaves of them, and what a call that has taken answers
--
-- Three acts store how a job ended, StoreBody, StoreSlot and StorePiece; no other changes which fault a call keeps
-- (`act_first`). No act ends a run (`act_end`, FaultPlaces).
-- Where such a job's run ends its party comes to the store (`ends_puts`, FaultEvents). There it stays until it has made
-- it (`puts_stored`). So a job that faulted has told it, or a party has its share still. At a count of 0 none has
-- (`puts_counts`).
-- What a call has taken it goes on with until it is over (`answers_on`, FaultPlaces). What it keeps does not change
-- meanwhile (`unstored`, FaultActs): who stores there is the scope's own party, or has a share of that count, which is
-- 0.
-- `FaultsHold` says too: what a call answers is how its job ended, but a fault where it keeps one; a scope or broadcast
-- that answers has the count 0.
use Rattle.std.proofs.Common.{◌∙◌, ap, arith, inl, inr, refl, subst, sym}
use Rattle.rayon_machine_orders.proofs.Words.{ltb, eq-eqb, eqb-true, ltb-false, ltb-true, ◌⊎◌, ◌≡◌, ◌==◌, ◌+◌, ◌≤◌, ◌<◌, ℕ, if◌then◌else◌, Bool, IfSome, List, None, Option, Some, false, true, is_of_scope, one, share, shares, shares_in, IsStoredFor, KeepsBy, stored_by, act_of, is_member}
use Rattle.rayon_machine_orders.proofs.Words.{plan_book, plan_job, plan_pool, put, Part, World, counts_at, first_fault, found, is_open, put_piece, target_call, target_pool, told, LookInj, LookOwn, PushInj, PushOwn, Seen, Found, Ending, Fault, Fine, JobKind, PieceOf, Scoped, WholeOf, OpenCall}
use Rattle.rayon_machine_orders.proofs.Words.{Party, Caller, Worker, Place, BeginTask, LookQueue, PushJob, StoreBody, StorePiece, StoreSlot, TakeResult, Plain, Token, Call, Over, Spent}
use Rattle.std.proofs.Math.Nat.{min-eq_left, min-eq_right}
use Rattle.rayon_machine_laws.proofs.ClaimRuns.{CallsHold, place_part}
use Rattle.rayon_machine_laws.proofs.Claims.{Opened, Says, is_body, is_part}
use Rattle.rayon_machine_laws.proofs.Frame.{either, if_cond, if_some_all, if_some_map, put_same}
use Rattle.rayon_machine_laws.proofs.Scoping.{CountOver, count_over}
use Rattle.rayon_machine_laws.proofs.ShareActs.{with_job}
use Rattle.rayon_machine_laws.proofs.ShareSteps.{self_one}
use Rattle.rayon_machine_laws.proofs.Stocked.{one_set}
use Rattle.rayon_machine_laws.proofs.Ties.{outcome}
use Rattle.rayon_machine_orders.proofs.FaultPlaces.{SameFault, act_fault, answer_of, is_storing}
use Rattle.rayon_machine_orders.proofs.FilledStates.{FilledHold}
use Rattle.rayon_machine_orders.proofs.Takes.{number_is}
use Rattle.rayon_machine_orders.specs.Faults.{KeepsFirst, KeepsLowest}
use Rattle.rayon_machine_runs.specs.World.{lowest_fault}

-- a number that stands for a broadcast
abbrev pub is_whole : JobKind → Bool
is_whole (WholeOf c o) = true
is_whole _ = false

-- the job whose fault a call keeps: one whose ending is stored for the call, and which has ended so
pub record FaultOf (w : World) (c t : ℕ) : Type 0 where
  pub call : c + 1 ≤ w.calls
  pub made : t + 1 ≤ w.jobs
  pub at : (w.job t).at ≡ Over Fault
  pub inside : IsStoredFor w c t (w.job (w.call c).job).kind

-- what a call answers that waited: how its job ended, but a fault where it keeps one. What stands for a broadcast runs
-- nowhere
pub record Answered (w : World) (o : OpenCall) (e : Ending) : Type 0 where
  pub own : Ending
  pub at : is_whole (w.job o.job).kind ≡ false → (w.job o.job).at ≡ Over own
  pub is : e ≡ told (w.call o.number).fault own
  pub count : is_body (w.job o.job).kind ≡ true → (w.call o.number).count ≡ 0
  pub fine : is_body (w.job o.job).kind ≡ true → (w.call o.number).fault ≡ None → own ≡ Fine

-- a call keeps a fault: a broadcast that of this piece of it or a lower one
abbrev pub KeepsFor : JobKind → Option ℕ → ℕ → Type 0
KeepsFor (PieceOf c o) k t = (u : ℕ) × ((k ≡ Some u) × (u ≤ t))
KeepsFor j k t = (u : ℕ) × (k ≡ Some u)

-- a place is to store how a job of a scope, or a piece of a broadcast, ended: for this call, of this job, and so
abbrev pub Storing : Type 0
Storing = ℕ × (ℕ × Ending)

abbrev pub puts : Place → Option Storing
puts (StoreSlot c o t e) = Some (c, (t, e))
puts (StorePiece c o t e) = Some (c, (t, e))
puts _ = None

-- what holds of the faults of every world. Where a job of a scope, or a piece of a broadcast, ended with a fault, the call
-- keeps one, or a party is to store it. Where a call keeps none its cell holds none. What stands for a broadcast is spent
pub record FaultsHold (w : World) : Type 0 where
  pub fills : FilledHold w
  pub kept : (c t : ℕ) → (w.call c).fault ≡ Some t → FaultOf w c t
  pub untold : (t c : ℕ) → t + 1 ≤ w.jobs → is_of_scope c (w.job t).kind ≡ true → (w.job t).at ≡ Over Fault → KeepsFor (w.job t).kind (w.call c).fault t ⊎ ((q : Party) × (puts (w.stack q).top ≡ Some (c, (t, Fault))))
  pub body : (c : ℕ) → c + 1 ≤ w.calls → is_body (w.job (w.call c).job).kind ≡ true → (w.call c).cell ≡ Some Fault → (w.call c).fault ≡ None → ⊥
  pub whole : (t c : ℕ) (o : Party) → t + 1 ≤ w.jobs → (w.job t).kind ≡ WholeOf c o → (w.job t).at ≡ Spent
  pub first : (c : ℕ) → c + 1 ≤ w.calls → ((w.call c).job + 1 ≤ w.jobs) × (is_body (w.job (w.call c).job).kind ≡ true → (w.call c).first ≡ None)
  pub answers : (q : Party) (o : OpenCall) (f : Option Ending) (e : Ending) → answer_of (w.stack q).top ≡ Some (o, (f, e)) → Answered w o e

pub hold_of : (w : World) → FaultsHold w → CallsHold w
hold_of w h = ((h.fills).hold).calls

-- what a scope keeps
first_none : (a : Option ℕ) (s : Option (ℕ × Ending)) (b : Option ℕ) → KeepsFirst a s b → b ≡ None → a ≡ None
first_none None s b k e = refl
first_none (Some u) s b k e = absurd (let i : Some u ≡ None = sym k ∙ e in cc)

first_new : (a : Option ℕ) (s : Option (ℕ × Ending)) (b : Option ℕ) (t : ℕ) → KeepsFirst a s b → b ≡ Some t → (a ≡ Some t) ⊎ (s ≡ Some (t, Fault))
first_new (Some u) s b t k e = inl (sym k ∙ e)
first_new None None b t k e = absurd (let i : None ≡ Some t = sym k ∙ e in cc)
first_new None (Some (u, Fault)) b t k e = inr (ap (λ n. Some (n, Fault)) (number_is u t (sym k ∙ e)))
first_new None (Some (u, Fine)) b t k e = absurd (let i : None ≡ Some t = sym k ∙ e in cc)

first_quiet : (a : Option ℕ) (s : Option (ℕ × Ending)) (b : Option ℕ) → s ≡ None → KeepsFirst a s b → b ≡ a
first_quiet (Some u) s b e k = k
first_quiet None None b e k = k
first_quiet None (Some x) b e k = cc

first_same : (a b : Option ℕ) → b ≡ a → KeepsFirst a None b
first_same None b e = e
first_same (Some t) b e = e

-- the parts of what is stored
abbrev job_in : Option (ℕ × Ending) → ℕ
job_in None = 0
job_in (Some x) = x.0

abbrev end_in : Option (ℕ × Ending) → Ending
end_in None = Fine
end_in (Some x) = x.1

abbrev pub stored_if : Bool → ℕ → Ending → Option (ℕ × Ending)
stored_if b t e = if b then Some (t, e) else None

first_fault_kept : (a : Option ℕ) (s : Option (ℕ × Ending)) (b : Option ℕ) (t : ℕ) → s ≡ Some (t, Fault) → KeepsFirst a s b → (u : ℕ) × (b ≡ Some u)
first_fault_kept (Some u) s b t i k = (u, k)
first_fault_kept None None b t i k = absurd (cc)
first_fault_kept None (Some (u, Fault)) b t i k = (u, k)
first_fault_kept None (Some (u, Fine)) b t i k = absurd (let y : Fine ≡ Fault = ap end_in i in cc)

first_on : (a : Option ℕ) (s : Option (ℕ × Ending)) (b : Option ℕ) → KeepsFirst a s b → (u : ℕ) × (a ≡ Some u) → (u : ℕ) × (b ≡ Some u)
first_on (Some u) s b k f = (u, k)
first_on None s b k f = absurd (let i : None ≡ Some (f.0) = f.1 in cc)

first_keeps : (a : Option ℕ) (t : ℕ) (e : Ending) → KeepsFirst a (Some (t, e)) (first_fault a t e)
first_keeps None t Fault = refl
first_keeps None t Fine = refl
first_keeps (Some u) t e = refl

-- and what a broadcast does
lowest_none : (a : Option ℕ) (s : Option (ℕ × Ending)) (b : Option ℕ) → KeepsLowest a s b → b ≡ None → a ≡ None
lowest_none None s b k e = refl
lowest_none (Some u) None b k e = absurd (let i : Some u ≡ None = sym k ∙ e in cc)
lowest_none (Some u) (Some (t, Fine)) b k e = absurd (let i : Some u ≡ None = sym k ∙ e in cc)
lowest_none (Some u) (Some (t, Fault)) b (inl k) e = absurd (let i : Some t ≡ None = sym (k.1) ∙ e in cc)
lowest_none (Some u) (Some (t, Fault)) b (inr k) e = absurd (let i : Some u ≡ None = sym (k.1) ∙ e in cc)

lowest_new : (a : Option ℕ) (s : Option (ℕ × Ending)) (b : Option ℕ) (t : ℕ) → KeepsLowest a s b → b ≡ Some t → (a ≡ Some t) ⊎ (s ≡ Some (t, Fault))
lowest_new (Some u) None b t k e = inl (sym k ∙ e)
lowest_new (Some u) (Some (v, Fine)) b t k e = inl (sym k ∙ e)
lowest_new (Some u) (Some (v, Fault)) b t (inl k) e = inr (ap (λ n. Some (n, Fault)) (number_is v t (sym (k.1) ∙ e)))
lowest_new (Some u) (Some (v, Fault)) b t (inr k) e = inl (sym (k.1) ∙ e)
lowest_new None None b t k e = absurd (let i : None ≡ Some t = sym k ∙ e in cc)
lowest_new None (Some (v, Fault)) b t k e = inr (ap (λ n. Some (n, Fault)) (number_is v t (sym k ∙ e)))
lowest_new None (Some (v, Fine)) b t k e = absurd (let i : None ≡ Some t = sym k ∙ e in cc)

lowest_quiet : (a : Option ℕ) (s : Option (ℕ × Ending)) (b : Option ℕ) → s ≡ None → KeepsLowest a s b → b ≡ a
lowest_quiet (Some u) None b e k = k
lowest_quiet None None b e k = k
lowest_quiet a (Some x) b e k = cc

lowest_same : (a b : Option ℕ) → b ≡ a → KeepsLowest a None b
lowest_same None b e = e
lowest_same (Some t) b e = e

lowest_on : (a : Option ℕ) (s : Option (ℕ × Ending)) (b : Option ℕ) (t : ℕ) → KeepsLowest a s b → (u : ℕ) × ((a ≡ Some u) × (u ≤ t)) → (u : ℕ) × ((b ≡ Some u) × (u ≤ t))
lowest_on None s b t k f = absurd (let i : None ≡ Some (f.0) = (f.1).0 in cc)
lowest_on (Some u) None b t k f = (f.0, (k ∙ (f.1).0, (f.1).1))
lowest_on (Some u) (Some (v, Fine)) b t k f = (f.0, (k ∙ (f.1).0, (f.1).1))
lowest_on (Some u) (Some (v, Fault)) b t (inl k) f = (v, (k.1, (let l : v < u = k.0 in let i : u ≡ f.0 = number_is u (f.0) ((f.1).0) in let m : f.0 ≤ t = (f.1).1 in omega (arith, l, i, m))))
lowest_on (Some u) (Some (v, Fault)) b t (inr k) f = (f.0, (k.1 ∙ (f.1).0, (f.1).1))

lowest_kept : (a : Option ℕ) (s : Option (ℕ × Ending)) (b : Option ℕ) (t : ℕ) → s ≡ Some (t, Fault) → KeepsLowest a s b → (u : ℕ) × ((b ≡ Some u) × (u ≤ t))
lowest_kept a None b t i k = absurd (cc)
lowest_kept a (Some (v, Fine)) b t i k = absurd (let y : Fine ≡ Fault = ap end_in i in cc)
lowest_kept None (Some (v, Fault)) b t i k = (v, (k, (let j : v ≡ t = ap job_in i in omega (arith, j))))
lowest_kept (Some u) (Some (v, Fault)) b t i (inl k) = (v, (k.1, (let j : v ≡ t = ap job_in i in omega (arith, j))))
lowest_kept (Some u) (Some (v, Fault)) b t i (inr k) = (u, (k.1, (let j : v ≡ t = ap job_in i in let l : u ≤ v = k.0 in omega (arith, j, l))))

lowest_keeps : (a : Option ℕ) (t : ℕ) (e : Ending) → KeepsLowest a (Some (t, e)) (lowest_fault a t e)
lowest_keeps None t Fault = refl
lowest_keeps None t Fine = refl
lowest_keeps (Some u) t Fine = refl
lowest_keeps (Some u) t Fault = elim (either (ltb t u)) [
  | inl y ↦ inl (let l : t < u = ltb-true t u y in (l, (let m : t ≤ u = omega (arith, l) in ap Some (min-eq_right {n = t} {m = u} m))))
  | inr y ↦ inr (let l : u ≤ t = ltb-false t u y in (l, ap Some (min-eq_left {n = u} {m = t} l)))
]

-- by the kind of the job that the call waits for
by_first : (k : JobKind) (a : Option ℕ) (s : Option (ℕ × Ending)) (b : Option ℕ) → is_whole k ≡ false → KeepsFirst a s b → KeepsBy k a s b
by_first (WholeOf c o) a s b z f = cc
by_first _ a s b z f = f

by_lowest : (k : JobKind) (a : Option ℕ) (s : Option (ℕ × Ending)) (b : Option ℕ) → is_whole k ≡ true → KeepsLowest a s b → KeepsBy k a s b
by_lowest (WholeOf c o) a s b z f = f
by_lowest _ a s b z f = cc

of_first : (k : JobKind) (a : Option ℕ) (s : Option (ℕ × Ending)) (b : Option ℕ) → is_whole k ≡ false → KeepsBy k a s b → KeepsFirst a s b
of_first (WholeOf c o) a s b z f = absurd (let i : true ≡ false = z in cc)
of_first _ a s b z f = f

of_lowest : (k : JobKind) (a : Option ℕ) (s : Option (ℕ × Ending)) (b : Option ℕ) → is_whole k ≡ true → KeepsBy k a s b → KeepsLowest a s b
of_lowest (WholeOf c o) a s b z f = f
of_lowest _ a s b z f = absurd (let i : false ≡ true = z in cc)

-- whichever it is
by_kind : (P : Type 0) (k : JobKind) (a : Option ℕ) (s : Option (ℕ × Ending)) (b : Option ℕ) → KeepsBy k a s b → (KeepsFirst a s b → P) → (KeepsLowest a s b → P) → P
by_kind P k a s b f i l = elim (either (is_whole k)) [ inl y ↦ l (of_lowest k a s b y f) | inr y ↦ i (of_first k a s b y f) ]

pub keeps_none : (k : JobKind) (a : Option ℕ) (s : Option (ℕ × Ending)) (b : Option ℕ) → KeepsBy k a s b → b ≡ None → a ≡ None
keeps_none k a s b f e = by_kind (a ≡ None) k a s b f (λ i. first_none a s b i e) (λ l. lowest_none a s b l e)

pub keeps_new : (k : JobKind) (a : Option ℕ) (s : Option (ℕ × Ending)) (b : Option ℕ) (t : ℕ) → KeepsBy k a s b → b ≡ Some t → (a ≡ Some t) ⊎ (s ≡ Some (t, Fault))
keeps_new k a s b t f e = by_kind ((a ≡ Some t) ⊎ (s ≡ Some (t, Fault))) k a s b f (λ i. first_new a s b t i e) (λ l. lowest_new a s b t l e)

pub keeps_quiet : (k : JobKind) (a : Option ℕ) (s : Option (ℕ × Ending)) (b : Option ℕ) → s ≡ None → KeepsBy k a s b → b ≡ a
keeps_quiet k a s b e f = by_kind (b ≡ a) k a s b f (first_quiet a s b e) (lowest_quiet a s b e)

pub keeps_same : (k : JobKind) (a b : Option ℕ) → b ≡ a → KeepsBy k a None b
keeps_same k a b e = elim (either (is_whole k)) [ inl y ↦ by_lowest k a None b y (lowest_same a b e) | inr y ↦ by_first k a None b y (first_same a b e) ]

pub keeps_fault : (k : JobKind) (a : Option ℕ) (s : Option (ℕ × Ending)) (b : Option ℕ) (t : ℕ) → s ≡ Some (t, Fault) → KeepsBy k a s b → b ≡ None → ⊥
keeps_fault k a s b t i f e = by_kind ⊥ k a s b f (λ y. none (first_fault_kept a s b t i y)) (λ y. none (let v : (u : ℕ) × ((b ≡ Some u) × (u ≤ t)) = lowest_kept a s b t i y in (v.0, (v.1).0)))
  where
    none : (u : ℕ) × (b ≡ Some u) → ⊥
    none v = absurd (let y : Some (v.0) ≡ None = sym (v.1) ∙ e in cc)

-- of a job of the call: it waits for a broadcast exactly where that is a piece
pub keeps_on : (j k : JobKind) (a : Option ℕ) (s : Option (ℕ × Ending)) (b : Option ℕ) (t : ℕ) → is_whole k ≡ is_part j → KeepsBy k a s b → KeepsFor j a t → KeepsFor j b t
keeps_on (PieceOf c o) k a s b t z f g = lowest_on a s b t (of_lowest k a s b z f) g
keeps_on _ k a s b t z f g = first_on a s b (of_first k a s b z f) g

pub keeps_told : (j k : JobKind) (a : Option ℕ) (s : Option (ℕ × Ending)) (b : Option ℕ) (t : ℕ) → is_whole k ≡ is_part j → s ≡ Some (t, Fault) → KeepsBy k a s b → KeepsFor j b t
keeps_told (PieceOf c o) k a s b t z i f = lowest_kept a s b t i (of_lowest k a s b z f)
keeps_told _ k a s b t z i f = first_fault_kept a s b t i (of_first k a s b z f)

-- the call of a job of a scope, and of a piece, is one
kind_of_call : (w : World) → CallsHold w → (t c : ℕ) → t + 1 ≤ w.jobs → (j : JobKind) → (w.job t).kind ≡ j → is_of_scope c j ≡ true → is_whole (w.job (w.call c).job).kind ≡ is_part j
kind_of_call w h t c l (Scoped d o) i y = ap (λ n. is_whole (w.job (w.call n).job).kind) (eqb-true c d y) ∙ ap is_whole ((h.entries t l d o i).kind)
kind_of_call w h t c l (PieceOf d o) i y = ap (λ n. is_whole (w.job (w.call n).job).kind) (eqb-true c d y) ∙ ap is_whole ((h.parts t l d o i).kind)
kind_of_call w h t c l _ i y = absurd (cc)

pub call_matches : (w : World) → CallsHold w → (t c : ℕ) → t + 1 ≤ w.jobs → is_of_scope c (w.job t).kind ≡ true → is_whole (w.job (w.call c).job).kind ≡ is_part (w.job t).kind
call_matches w h t c l y = kind_of_call w h t c l (w.job t).kind refl y

body_of_call : (w : World) → CallsHold w → (t c : ℕ) → t + 1 ≤ w.jobs → (j : JobKind) → (w.job t).kind ≡ j → is_of_scope c j ≡ true → (c + 1 ≤ w.calls) × (is_body (w.job (w.call c).job).kind ≡ true)
body_of_call w h t c l (Scoped d o) i y = subst (λ n. (n + 1 ≤ w.calls) × (is_body (w.job (w.call n).job).kind ≡ true)) (sym (eqb-true c d y)) ((h.entries t l d o i).number, ap is_body ((h.entries t l d o i).kind))
body_of_call w h t c l (PieceOf d o) i y = subst (λ n. (n + 1 ≤ w.calls) × (is_body (w.job (w.call n).job).kind ≡ true)) (sym (eqb-true c d y)) ((h.parts t l d o i).number, ap is_body ((h.parts t l d o i).kind))
body_of_call w h t c l _ i y = absurd (cc)

pub call_bodied : (w : World) → CallsHold w → (t c : ℕ) → t + 1 ≤ w.jobs → is_of_scope c (w.job t).kind ≡ true → (c + 1 ≤ w.calls) × (is_body (w.job (w.call c).job).kind ≡ true)
call_bodied w h t c l y = body_of_call w h t c l (w.job t).kind refl y

-- who is to store how a job ended has the job's share
storing_is : (d u c t : ℕ) (x e : Ending) → ◌≡◌ {A = Option Storing} (Some (d, (u, x))) (Some (c, (t, e))) → ◌≡◌ {A = Storing} (d, (u, x)) (c, (t, e))
storing_is d u c t x e z = cc

pub puts_says : (w : World) (q : Party) (x : Place) (c t : ℕ) (e : Ending) → Says w q x → puts x ≡ Some (c, (t, e)) → (t + 1 ≤ w.jobs) × (is_of_scope c (w.job t).kind ≡ true)
puts_says w q (StoreSlot d o u y) c t e s z = subst (λ v. ((v.1).0 + 1 ≤ w.jobs) × (is_of_scope (v.0) (w.job ((v.1).0)).kind ≡ true)) (storing_is d u c t y e z) (s.0, ap (is_of_scope d) (s.1) ∙ eq-eqb d d refl)
puts_says w q (StorePiece d o u y) c t e s z = subst (λ v. ((v.1).0 + 1 ≤ w.jobs) × (is_of_scope (v.0) (w.job ((v.1).0)).kind ≡ true)) (storing_is d u c t y e z) (s.0, ap (is_of_scope d) (s.1) ∙ eq-eqb d d refl)
puts_says w q _ c t e s z = absurd (cc)

puts_share : (x : Place) (c t : ℕ) (e : Ending) → puts x ≡ Some (c, (t, e)) → share t x ≡ 1
puts_share (StoreSlot d o u y) c t e z = ap (λ n. one (t == n)) (ap (λ v. (v.1).0) (storing_is d u c t y e z)) ∙ self_one t
puts_share (StorePiece d o u y) c t e z = ap (λ n. one (t == n)) (ap (λ v. (v.1).0) (storing_is d u c t y e z)) ∙ self_one t
puts_share _ c t e z = absurd (cc)

-- so its call's count is not 0
pub puts_counts : (w : World) → FaultsHold w → (q : Party) (c t : ℕ) (e : Ending) → puts (w.stack q).top ≡ Some (c, (t, e)) → (w.call c).count ≡ 0 → ⊥
puts_counts w h q c t e z n = absurd (let i : true ≡ false = sym counted ∙ (over.jobs t (says.1)) in cc)
  where
    says : (t + 1 ≤ w.jobs) × (is_of_scope c (w.job t).kind ≡ true)
    says = puts_says w q ((w.stack q).top) c t e (((hold_of w h).says q).top) z

    over : CountOver w c
    over = count_over w ((h.fills).scopes) c ((call_bodied w (hold_of w h) t c (says.0) (says.1)).0) n

    counted : (w.job t).counted ≡ true
    counted = one_set ((w.job t).counted) (
        let a : shares t (w.stack q) + with_job (w.job t) ≤ one (w.job t).counted = (((h.fills).hold).jobs t).alone q in
        let b : share t ((w.stack q).top) ≡ 1 = puts_share ((w.stack q).top) c t e z in
        let d : shares t (w.stack q) ≡ (share t ((w.stack q).top) + shares_in t ((w.stack q).below)) = refl in omega (arith, a, b, d))

-- an act that stores stores what it names there, and every other act nothing
stored_keeps : (w : World) (d t : ℕ) (e : Ending) (k : Call) → KeepsBy (w.job (w.call d).job).kind (w.call d).fault (Some (t, e)) k.fault → (c : ℕ) → KeepsBy (w.job (w.call c).job).kind (w.call c).fault (if c == d then Some (t, e) else None) (put w.call d k c).fault
stored_keeps w d t e k i c = by (c == d) refl
  where
    by : (b : Bool) → (c == d) ≡ b → KeepsBy (w.job (w.call c).job).kind (w.call c).fault (if b then Some (t, e) else None) (if b then k else w.call c).fault
    by true y = subst (λ n. KeepsBy (w.job (w.call n).job).kind (w.call n).fault (Some (t, e)) k.fault) (sym (eqb-true c d y)) i
    by false y = keeps_same (w.job (w.call c).job).kind (w.call c).fault (w.call c).fault refl

pub stored_none : (w : World) (c : ℕ) (q : Party) (x : Place) → is_storing x ≡ false → stored_by w c (act_of q x) ≡ None
stored_none w c (Worker i j) (LookQueue n) z = by (is_member (Worker i j) (plan_pool n))
  where
    by : (b : Bool) → stored_by w c (if b then LookOwn else LookInj (plan_pool n)) ≡ None
    by true = refl
    by false = refl
stored_none w c (Worker i j) (PushJob n v) z = by (is_member (Worker i j) (plan_pool n))
  where
    by : (b : Bool) → stored_by w c (if b then PushOwn (plan_job n) (plan_book n) else PushInj (plan_pool n) (plan_job n) (plan_book n)) ≡ None
    by true = refl
    by false = refl
stored_none w c (Worker i j) (BeginTask (Plain t)) z = refl
stored_none w c (Worker i j) (BeginTask (Token k m l)) z = refl
stored_none w c (Caller n) (BeginTask (Plain t)) z = refl
stored_none w c (Caller n) (BeginTask (Token k m l)) z = refl
stored_none w c q (StoreBody o e) z = cc
stored_none w c q (StoreSlot d o t e) z = cc
stored_none w c q (StorePiece d o t e) z = cc
stored_none w c (Worker i j) _ z = refl
stored_none w c (Caller n) _ z = refl

-- the kind of the job that the call of a store waits for
body_kind : (w : World) → FaultsHold w → (q : Party) (o : OpenCall) (e : Ending) → Says w q (StoreBody o e) → is_whole (w.job (w.call o.number).job).kind ≡ false
body_kind w h q o e s = ap (λ n. is_whole (w.job n).kind) open_call.target ∙ by ((w.job o.job).kind) refl
  where
    open_call : Opened w q o
    open_call = (s.0).0

    by : (k : JobKind) → (w.job o.job).kind ≡ k → is_whole k ≡ false
    by (WholeOf c p) i = absurd (let a : Over e ≡ Spent = sym (s.1) ∙ h.whole o.job c p open_call.made i in cc)
    by _ i = refl

slot_kind : (w : World) → CallsHold w → (q : Party) (c : ℕ) (o : Party) (t : ℕ) (e : Ending) → Says w q (StoreSlot c o t e) → is_whole (w.job (w.call c).job).kind ≡ false
slot_kind w h q c o t e s = ap is_whole ((h.entries t (s.0) c o (s.1)).kind)

piece_kind : (w : World) → CallsHold w → (q : Party) (c : ℕ) (o : Party) (t : ℕ) (e : Ending) → Says w q (StorePiece c o t e) → is_whole (w.job (w.call c).job).kind ≡ true
piece_kind w h q c o t e s = ap is_whole ((h.parts t (s.0) c o (s.1)).kind)

in_scope : (w : World) (c t : ℕ) (k : JobKind) → is_whole k ≡ false → (t ≡ (w.call c).job) ⊎ ((o : Party) × ((w.job t).kind ≡ Scoped c o)) → IsStoredFor w c t k
in_scope w c t (WholeOf d p) z s = cc
in_scope w c t _ z s = s

in_cast : (w : World) (c t : ℕ) (k : JobKind) → is_whole k ≡ true → (o : Party) × ((w.job t).kind ≡ PieceOf c o) → IsStoredFor w c t k
in_cast w c t (WholeOf d p) z s = s
in_cast w c t _ z s = cc

pub of_scope : (w : World) (c t : ℕ) (k : JobKind) → is_whole k ≡ false → IsStoredFor w c t k → (t ≡ (w.call c).job) ⊎ ((o : Party) × ((w.job t).kind ≡ Scoped c o))
of_scope w c t (WholeOf d p) z s = absurd (let i : true ≡ false = z in cc)
of_scope w c t _ z s = s

pub of_cast : (w : World) (c t : ℕ) (k : JobKind) → is_whole k ≡ true → IsStoredFor w c t k → (o : Party) × ((w.job t).kind ≡ PieceOf c o)
of_cast w c t (WholeOf d p) z s = s
of_cast w c t _ z s = absurd (let i : false ≡ true = z in cc)

-- what is stored: how the body ended, or a job of the scope, or a piece of the broadcast
pub record StoredSo (w : World) (q : Party) (x : Place) (c t : ℕ) (e : Ending) : Type 0 where
  pub call : c + 1 ≤ w.calls
  pub made : t + 1 ≤ w.jobs
  pub at : (w.job t).at ≡ Over e
  pub inside : IsStoredFor w c t (w.job (w.call c).job).kind
  pub place : ((o : OpenCall) × ((x ≡ StoreBody o e) × (o.number ≡ c))) ⊎ (puts x ≡ Some (c, (t, e)))

pair_is : (a b : ℕ) (d e : Ending) → ◌≡◌ {A = Option (ℕ × Ending)} (Some (a, d)) (Some (b, e)) → (a ≡ b) × (d ≡ e)
pair_is a b d e z = (ap job_in z, ap end_in z)

body_so : (w : World) → FaultsHold w → (q : Party) (o : OpenCall) (d : Ending) (c t : ℕ) (e : Ending) → Says w q (StoreBody o d) → (b : Bool) → (c == o.number) ≡ b → stored_if b ((w.call o.number).job) d ≡ Some (t, e) → StoredSo w q (StoreBody o d) c t e
body_so w h q o d c t e s false y z = absurd (cc)
body_so w h q o d c t e s true y z =
    let n : c ≡ o.number = eqb-true c o.number y in
    let i : ((w.call o.number).job ≡ t) × (d ≡ e) = pair_is ((w.call o.number).job) t d e z in
    let j : o.job ≡ t = sym (((s.0).0).target) ∙ i.0 in
    record {
      call = subst (λ m. m + 1 ≤ w.calls) (sym n) (((s.0).0).number);
      made = subst (λ m. m + 1 ≤ w.jobs) j (((s.0).0).made);
      at = ap (λ m. (w.job m).at) (sym j) ∙ s.1 ∙ ap Over (i.1);
      inside = in_scope w c t ((w.job (w.call c).job).kind) (ap (λ m. is_whole (w.job (w.call m).job).kind) n ∙ body_kind w h q o d s) (inl (sym (i.0) ∙ ap (λ m. (w.call m).job) (sym n)));
      place = inl (o, (ap (StoreBody o) (i.1), sym n));
    }

slot_so : (w : World) → CallsHold w → (q : Party) (d : ℕ) (o : Party) (u : ℕ) (x : Ending) (c t : ℕ) (e : Ending) → Says w q (StoreSlot d o u x) → (b : Bool) → (c == d) ≡ b → stored_if b u x ≡ Some (t, e) → StoredSo w q (StoreSlot d o u x) c t e
slot_so w h q d o u x c t e s false y z = absurd (cc)
slot_so w h q d o u x c t e s true y z =
    let n : c ≡ d = eqb-true c d y in
    let i : (u ≡ t) × (x ≡ e) = pair_is u t x e z in
    record {
      call = subst (λ m. m + 1 ≤ w.calls) (sym n) (s.2);
      made = subst (λ m. m + 1 ≤ w.jobs) (i.0) (s.0);
      at = ap (λ m. (w.job m).at) (sym (i.0)) ∙ s.3 ∙ ap Over (i.1);
      inside = in_scope w c t ((w.job (w.call c).job).kind) (ap (λ m. is_whole (w.job (w.call m).job).kind) n ∙ slot_kind w h q d o u x s) (inr (o, ap (λ m. (w.job m).kind) (sym (i.0)) ∙ s.1 ∙ ap (λ m. Scoped m o) (sym n)));
      place = inr (ap (λ m. Some (m, (u, x))) (sym n) ∙ ap (λ m. Some (c, (m, x))) (i.0) ∙ ap (λ m. Some (c, (t, m))) (i.1));
    }

piece_so : (w : World) → CallsHold w → (q : Party) (d : ℕ) (o : Party) (u : ℕ) (x : Ending) (c t : ℕ) (e : Ending) → Says w q (StorePiece d o u x) → (b : Bool) → (c == d) ≡ b → stored_if b u x ≡ Some (t, e) → StoredSo w q (StorePiece d o u x) c t e
piece_so w h q d o u x c t e s false y z = absurd (cc)
piece_so w h q d o u x c t e s true y z =
    let n : c ≡ d = eqb-true c d y in
    let i : (u ≡ t) × (x ≡ e) = pair_is u t x e z in
    record {
      call = subst (λ m. m + 1 ≤ w.calls) (sym n) (s.2);
      made = subst (λ m. m + 1 ≤ w.jobs) (i.0) (s.0);
      at = ap (λ m. (w.job m).at) (sym (i.0)) ∙ s.3 ∙ ap Over (i.1);
      inside = in_cast w c t ((w.job (w.call c).job).kind) (ap (λ m. is_whole (w.job (w.call m).job).kind) n ∙ piece_kind w h q d o u x s) (o, ap (λ m. (w.job m).kind) (sym (i.0)) ∙ s.1 ∙ ap (λ m. PieceOf m o) (sym n));
      place = inr (ap (λ m. Some (m, (u, x))) (sym n) ∙ ap (λ m. Some (c, (m, x))) (i.0) ∙ ap (λ m. Some (c, (t, m))) (i.1));
    }

other_so : (w : World) (q : Party) (x : Place) (c t : ℕ) (e : Ending) → is_storing x ≡ false → stored_by w c (act_of q x) ≡ Some (t, e) → ⊥
other_so w q x c t e f z = absurd (let a : None ≡ Some (t, e) = sym (stored_none w c q x f) ∙ z in cc)

pub stored_so : (w : World) → FaultsHold w → (q : Party) (x : Place) (c t : ℕ) (e : Ending) → Says w q x → stored_by w c (act_of q x) ≡ Some (t, e) → StoredSo w q x c t e
stored_so w h (Worker i j) (StoreBody o d) c t e s z = body_so w h (Worker i j) o d c t e s (c == o.number) refl z
stored_so w h (Caller n) (StoreBody o d) c t e s z = body_so w h (Caller n) o d c t e s (c == o.number) refl z
stored_so w h (Worker i j) (StoreSlot d o u y) c t e s z = slot_so w (hold_of w h) (Worker i j) d o u y c t e s (c == d) refl z
stored_so w h (Caller n) (StoreSlot d o u y) c t e s z = slot_so w (hold_of w h) (Caller n) d o u y c t e s (c == d) refl z
stored_so w h (Worker i j) (StorePiece d o u y) c t e s z = piece_so w (hold_of w h) (Worker i j) d o u y c t e s (c == d) refl z
stored_so w h (Caller n) (StorePiece d o u y) c t e s z = piece_so w (hold_of w h) (Caller n) d o u y c t e s (c == d) refl z
stored_so w h q x c t e s z = absurd (other_so w q x c t e refl z)

pub over_is : (a b : Ending) → Over a ≡ Over b → a ≡ b
over_is a b e = cc

-- a place that is to store a job's ending does so
pub stored_now : (c d t u : ℕ) (e : Ending) → c ≡ d → t ≡ u → e ≡ Fault → stored_if (c == d) u e ≡ Some (t, Fault)
stored_now c d t u e i j k = by (c == d) (eq-eqb c d i)
  where
    by : (b : Bool) → b ≡ true → stored_if b u e ≡ Some (t, Fault)
    by true y = ap (λ n. Some (n, e)) (sym j) ∙ ap (λ n. Some (t, n)) k
    by false y = cc

put_now : (d u c t : ℕ) (x : Ending) → ◌≡◌ {A = Option Storing} (Some (d, (u, x))) (Some (c, (t, Fault))) → stored_if (c == d) u x ≡ Some (t, Fault)
put_now d u c t x z = let i : ◌≡◌ {A = Storing} (d, (u, x)) (c, (t, Fault)) = storing_is d u c t x Fault z in stored_now c d t u x (sym (ap (λ v. v.0) i)) (sym (ap (λ v. (v.1).0) i)) (ap (λ v. (v.1).1) i)

pub puts_stored : (w : World) (q : Party) (x : Place) (c t : ℕ) → puts x ≡ Some (c, (t, Fault)) → stored_by w c (act_of q x) ≡ Some (t, Fault)
puts_stored w (Worker i j) (StoreSlot d o u y) c t z = put_now d u c t y z
puts_stored w (Caller n) (StoreSlot d o u y) c t z = put_now d u c t y z
puts_stored w (Worker i j) (StorePiece d o u y) c t z = put_now d u c t y z
puts_stored w (Caller n) (StorePiece d o u y) c t z = put_now d u c t y z
puts_stored w q _ c t z = absurd (cc)

-- what an act leaves of what each call keeps
abbrev pub FirstOf : World → Party → Place → Seen × Part → Type 0
FirstOf w q x r = (c : ℕ) → KeepsBy (w.job (w.call c).job).kind (w.call c).fault (stored_by w c (act_of q x)) (put w.call (target_call (act_of q x)) (r.1.call) c).fault

first_kept : (w : World) (d t : ℕ) (e : Ending) → is_whole (w.job (w.call d).job).kind ≡ false → KeepsBy (w.job (w.call d).job).kind (w.call d).fault (Some (t, e)) (first_fault (w.call d).fault t e)
first_kept w d t e z = by_first ((w.job (w.call d).job).kind) (w.call d).fault (Some (t, e)) (first_fault (w.call d).fault t e) z (first_keeps (w.call d).fault t e)

body_first : (w : World) → FaultsHold w → (q : Party) (o : OpenCall) (e : Ending) → Says w q (StoreBody o e) → (c : ℕ) → KeepsBy (w.job (w.call c).job).kind (w.call c).fault (if c == o.number then Some ((w.call o.number).job, e) else None)
    (put w.call o.number (record (w.call o.number) { cell = Some e; fault = first_fault (w.call o.number).fault (w.call o.number).job e }) c).fault
body_first w h q o e s c = stored_keeps w o.number ((w.call o.number).job) e (record (w.call o.number) { cell = Some e; fault = first_fault (w.call o.number).fault (w.call o.number).job e }) (first_kept w o.number ((w.call o.number).job) e (body_kind w h q o e s)) c

slot_first : (w : World) → CallsHold w → (q : Party) (d : ℕ) (o : Party) (t : ℕ) (e : Ending) → Says w q (StoreSlot d o t e) → (c : ℕ) → KeepsBy (w.job (w.call c).job).kind (w.call c).fault (if c == d then Some (t, e) else None)
    (put w.call d (record (w.call d) { fault = first_fault (w.call d).fault t e }) c).fault
slot_first w h q d o t e s c = stored_keeps w d t e (record (w.call d) { fault = first_fault (w.call d).fault t e }) (first_kept w d t e (slot_kind w h q d o t e s)) c

piece_first : (w : World) → CallsHold w → (q : Party) (d : ℕ) (o : Party) (t : ℕ) (e : Ending) → Says w q (StorePiece d o t e) → (c : ℕ) → KeepsBy (w.job (w.call c).job).kind (w.call c).fault (if c == d then Some (t, e) else None)
    (put w.call d ((put_piece (place_part w q (StorePiece d o t e)) t e).call) c).fault
piece_first w h q d o t e s c = stored_keeps w d t e ((put_piece (place_part w q (StorePiece d o t e)) t e).call) (lowest q s) c
  where
    lowest : (q : Party) → Says w q (StorePiece d o t e) → KeepsBy (w.job (w.call d).job).kind (w.call d).fault (Some (t, e)) ((put_piece (place_part w q (StorePiece d o t e)) t e).call).fault
    lowest (Worker i j) s = by_lowest ((w.job (w.call d).job).kind) (w.call d).fault (Some (t, e)) (lowest_fault (w.call d).fault t e) (piece_kind w h (Worker i j) d o t e s) (lowest_keeps (w.call d).fault t e)
    lowest (Caller n) s = by_lowest ((w.job (w.call d).job).kind) (w.call d).fault (Some (t, e)) (lowest_fault (w.call d).fault t e) (piece_kind w h (Caller n) d o t e s) (lowest_keeps (w.call d).fault t e)

pub act_first : (w : World) (q : Party) (x : Place) (fs : List Place) → FaultsHold w → Says w q x → IfSome (outcome w q (record { top = x; below = fs })) (FirstOf w q x)
act_first w (Worker i j) (StoreBody o e) fs h s = if_cond (FirstOf w (Worker i j) (StoreBody o e)) (is_open (Worker i j) ((w.call o.number).writer)) _ (λ a c. body_first w h (Worker i j) o e s c)
act_first w (Caller n) (StoreBody o e) fs h s = if_cond (FirstOf w (Caller n) (StoreBody o e)) (is_open (Caller n) ((w.call o.number).writer)) _ (λ a c. body_first w h (Caller n) o e s c)
act_first w (Worker i j) (StoreSlot d o t e) fs h s = if_cond (FirstOf w (Worker i j) (StoreSlot d o t e)) (is_open (Worker i j) ((w.call d).writer)) _ (λ a c. slot_first w (hold_of w h) (Worker i j) d o t e s c)
act_first w (Caller n) (StoreSlot d o t e) fs h s = if_cond (FirstOf w (Caller n) (StoreSlot d o t e)) (is_open (Caller n) ((w.call d).writer)) _ (λ a c. slot_first w (hold_of w h) (Caller n) d o t e s c)
act_first w (Worker i j) (StorePiece d o t e) fs h s = λ c. piece_first w (hold_of w h) (Worker i j) d o t e s c
act_first w (Caller n) (StorePiece d o t e) fs h s = λ c. piece_first w (hold_of w h) (Caller n) d o t e s c
act_first w q x fs h s = if_some_map (SameFault (place_part w q x)) (FirstOf w q x)
    (λ r s c. subst (λ n. KeepsBy (w.job (w.call c).job).kind (w.call c).fault n (put w.call (target_call (act_of q x)) (r.1.call) c).fault) (sym (stored_none w c q x refl))
    (keeps_same (w.job (w.call c).job).kind (w.call c).fault (put w.call (target_call (act_of q x)) (r.1.call) c).fault (put_same (λ k. k.fault) w.call (target_call (act_of q x)) (r.1.call) c s)))
    (outcome w q (record { top = x; below = fs })) (act_fault w.shape q (counts_at w (target_pool q (act_of q x))) (place_part w q x) x refl)

-- what a call that takes sees
abbrev pub TakesOf : World → Place → Seen × Part → Type 0
TakesOf w x r = (o : OpenCall) (f : Option Ending) → x ≡ TakeResult o f → (d : Ending) → r.0 ≡ Found d → (own : Ending) × (((w.call o.number).cell ≡ Some own) × (d ≡ told (w.call o.number).fault own))

found_is : (a b : Ending) → Found a ≡ Found b → b ≡ a
found_is a b e = cc

taken_of : (m : Part) (k : Option Ending) → m.call.cell ≡ k → IfSome (found m k) (λ r. (d : Ending) → r.0 ≡ Found d → (own : Ending) × ((m.call.cell ≡ Some own) × (d ≡ told m.call.fault own)))
taken_of m None e = λ d z. absurd (cc)
taken_of m (Some own) e = λ d z. (own, (e, found_is (told m.call.fault own) d z))

taken_place : (a o : OpenCall) (g f : Option Ending) → TakeResult a g ≡ TakeResult o f → a.number ≡ o.number
taken_place a o g f e = let i : a ≡ o = cc in ap (λ v. v.number) i

take_sees : (w : World) (q : Party) (a : OpenCall) (g : Option Ending) (r : Seen × Part) → ((d : Ending) → r.0 ≡ Found d → (own : Ending) × (((w.call a.number).cell ≡ Some own) × (d ≡ told (w.call a.number).fault own))) → TakesOf w (TakeResult a g) r
take_sees w q a g r h o f e d z = subst (λ n. (own : Ending) × (((w.call n).cell ≡ Some own) × (d ≡ told (w.call n).fault own))) (taken_place a o g f e) (h d z)

pub act_takes : (w : World) (q : Party) (x : Place) (fs : List Place) → IfSome (outcome w q (record { top = x; below = fs })) (TakesOf w x)
act_takes w (Worker i j) (TakeResult a g) fs = if_some_map (λ r. (d : Ending) → r.0 ≡ Found d → (own : Ending) × (((w.call a.number).cell ≡ Some own) × (d ≡ told (w.call a.number).fault own))) (TakesOf w (TakeResult a g)) (λ r h. take_sees w (Worker i j) a g r h)
    (outcome w (Worker i j) (record { top = TakeResult a g; below = fs })) (taken_of (place_part w (Worker i j) (TakeResult a g)) ((w.call a.number).cell) refl)
act_takes w (Caller n) (TakeResult a g) fs = if_some_map (λ r. (d : Ending) → r.0 ≡ Found d → (own : Ending) × (((w.call a.number).cell ≡ Some own) × (d ≡ told (w.call a.number).fault own))) (TakesOf w (TakeResult a g)) (λ r h. take_sees w (Caller n) a g r h)
    (outcome w (Caller n) (record { top = TakeResult a g; below = fs })) (taken_of (place_part w (Caller n) (TakeResult a g)) ((w.call a.number).cell) refl)
act_takes w q x fs = if_some_all (TakesOf w x) (λ r o f e. absurd (cc)) (outcome w q (record { top = x; below = fs }))
