-- An act on the terminate count, or one that sets a latch, is what was done with the seats, and one entry of the trace.
use Rattle.std.proofs.Common.{◌≡◌, inl, inr, ℕ, ◌+◌, ◌-◌, ◌==◌, Bool, true, false, Option, Result, Ok, Err, MatchResult, refl, sym, subst, ap, ◌∙◌, arith}
use Rattle.std.proofs.lemmas.Bool.{eqb-false, eqb-true}
use Rattle.rayon_machine_places.specs.declared.place.Latch.{Latch}
use Rattle.rayon_machine_places.specs.declared.place.Share.{Share}
use Rattle.rayon_machine_places.specs.declared.act.Act.TheVariants as acts
use Rattle.rayon_machine_places.specs.declared.act.Seen.{Seen}
use Rattle.rayon_machine_places.specs.declared.act.Seen.TheVariants.{Done, Refused, Yes, No}
use Rattle.rayon_atomics.specs.declared.views.Guard.{Guard}
use Rattle.rayon_atomics.specs.declared.views.Teller.{Teller}
use Rattle.rayon_performers.specs.Hands.{Hands, Does}
use Rattle.rayon_shared.specs.AtHand.{answer}
use Rattle.rayon_machine_places.specs.declared.place.Count.TheVariants.{OfPool}
use Rattle.rayon_shared.specs.Marks.{GivesUnit, KeepsUnits, MissesUnit, NoLatch, SetBy, TakesUnit}

module _ {X G O F : Type 0} (s t u : Hands X G O F) (f : u ≡ record t { trace = u.trace }) where
  -- the seats are the same after the entry
  set_stays : t.marks.set ≡ u.marks.set
  set_stays = sym (ap (λ (z : Hands X G O F). z.marks.set) f)

  count_stays : t.marks.count ≡ u.marks.count
  count_stays = sym (ap (λ (z : Hands X G O F). z.marks.count) f)

  recounted : (n : ℕ) → t ≡ record s { holds = n; marks = record { set = s.marks.set; count = t.marks.count } } → u ≡ record s { holds = n; marks = record { set = s.marks.set; count = u.marks.count }; trace = u.trace }
  recounted n e =
      let on : u ≡ record s { holds = n; marks = record { set = s.marks.set; count = t.marks.count }; trace = u.trace } = subst (λ (z : Hands X G O F). u ≡ record z { trace = u.trace }) e f in
      subst (λ (q : Teller). u ≡ record s { holds = n; marks = record { set = s.marks.set; count = q }; trace = u.trace }) count_stays on

  pub raises : (k : ℕ) (j : ℕ) → t ≡ record s { holds = s.holds + 1; marks = record { set = s.marks.set; count = t.marks.count } } → TakesUnit (s.holds == 0) s.marks.count t.marks.count → Does (acts.Raise (OfPool k) j) Done s u
  raises k j e w = (recounted (s.holds + 1) e, subst (λ (q : Teller). TakesUnit (s.holds == 0) s.marks.count q) count_stays w)

  pub not_raises : (k : ℕ) (j : ℕ) → t ≡ record s { marks = record { set = s.marks.set; count = t.marks.count } } → MissesUnit (s.holds == 0) s.marks.count t.marks.count → Does (acts.Raise (OfPool k) j) Refused s u
  not_raises k j e w = (recounted s.holds e, subst (λ (q : Teller). MissesUnit (s.holds == 0) s.marks.count q) count_stays w)

  pub lowers : (k : ℕ) (j : Share) (b : Bool) → t ≡ record s { holds = s.holds - 1; marks = record { set = s.marks.set; count = t.marks.count } } → GivesUnit (s.holds == 1) b s.marks.count t.marks.count → Does (acts.Lower (OfPool k) j) (answer b) s u
  lowers k j true e w = (recounted (s.holds - 1) e, subst (λ (q : Teller). GivesUnit (s.holds == 1) true s.marks.count q) count_stays w)
  lowers k j false e w = (recounted (s.holds - 1) e, subst (λ (q : Teller). GivesUnit (s.holds == 1) false s.marks.count q) count_stays w)

  struck : t ≡ record s { marks = record { set = t.marks.set; count = s.marks.count } } → u ≡ record s { marks = record { set = u.marks.set; count = s.marks.count }; trace = u.trace }
  struck e =
      let on : u ≡ record s { marks = record { set = t.marks.set; count = s.marks.count }; trace = u.trace } = subst (λ (z : Hands X G O F). u ≡ record z { trace = u.trace }) e f in
      subst (λ (q : Option Guard). u ≡ record s { marks = record { set = q; count = s.marks.count }; trace = u.trace }) set_stays on

  pub sets : (l : Latch) (p i : ℕ) (b : Bool) (x : Seen) → b ≡ true → x ≡ Yes → t ≡ record s { marks = record { set = t.marks.set; count = s.marks.count } } → SetBy (NoLatch l i s.deques s.reply) b t.marks.set → Does (acts.Set l p i) x s u
  sets l p i b x is y e w = subst (λ (z : Seen). Does (acts.Set l p i) z s u) (sym y) (struck e, subst (λ (q : Option Guard). SetBy (NoLatch l i s.deques s.reply) true q) set_stays (subst (λ (z : Bool). SetBy (NoLatch l i s.deques s.reply) z t.marks.set) is w))

  pub not_sets : (l : Latch) (p i : ℕ) (b : Bool) (x : Seen) → b ≡ false → x ≡ No → t ≡ record s { marks = record { set = t.marks.set; count = s.marks.count } } → SetBy (NoLatch l i s.deques s.reply) b t.marks.set → Does (acts.Set l p i) x s u
  not_sets l p i b x is y e w = subst (λ (z : Seen). Does (acts.Set l p i) z s u) (sym y) (struck e, subst (λ (q : Option Guard). SetBy (NoLatch l i s.deques s.reply) false q) set_stays (subst (λ (z : Bool). SetBy (NoLatch l i s.deques s.reply) z t.marks.set) is w))

-- a unit that a call did not get, or took and gave back, is none
pub missed_none : (b : Bool) (v w : Teller) → MissesUnit b v w → KeepsUnits v w
missed_none true v w a = inr (inl a)
missed_none false v w a = inl a

-- a call is the outermost one where it began with no unit
outermost : (n : ℕ) → (n + 1 == 1) ≡ (n == 0)
outermost n = by (n + 1 == 1) (n == 0) refl refl
  where
    by : (b d : Bool) → (n + 1 == 1) ≡ b → (n == 0) ≡ d → b ≡ d
    by true true e f = refl
    by false false e f = refl
    by true false e f =
        let one : n + 1 ≡ 1 = eqb-true (n + 1) 1 e in
        absurd (eqb-false n 0 f (omega arith))
    by false true e f =
        let none : n ≡ 0 = eqb-true n 0 f in
        absurd (eqb-false (n + 1) 1 e (omega arith))

gave_back : (b : Bool) (v u w : Teller) → TakesUnit b v u → (l : Bool) × GivesUnit b l u w → KeepsUnits v w
gave_back true v u w a g = inr (inr (u, g.0, a, g.1))
gave_back false v u w a g = inl (g.1.0 ∙ a)

pub gave_back_so : (n : ℕ) (v u w : Teller) → TakesUnit (n == 0) v u → (l : Bool) × GivesUnit (n + 1 == 1) l u w → KeepsUnits v w
gave_back_so n v u w a g = gave_back (n == 0) v u w a (g.0, subst (λ (b : Bool). GivesUnit b g.0 u w) (outermost n) g.1)

module _ {X G O F : Type 0} where
  -- a Raise takes a unit, or does not
  pub raised_unit : {A B : Type 0} (j : ℕ) (s t : Hands X G O F) (r : Result A B) → MatchResult r (λ _. Does (acts.Raise (OfPool 0) j) Done s t) (λ _. Does (acts.Raise (OfPool 0) j) Refused s t) → MatchResult r (λ _. TakesUnit (s.holds == 0) s.marks.count t.marks.count) (λ _. MissesUnit (s.holds == 0) s.marks.count t.marks.count)
  raised_unit j s t (Ok x) d = d.1
  raised_unit j s t (Err e) d = d.1

  -- a unit that was taken is given back after what changed no unit
  pub gave_back_at : (s t u : Hands X G O F) (w : Teller) → TakesUnit (s.holds == 0) s.marks.count t.marks.count → u.holds ≡ s.holds + 1 → u.marks.count ≡ t.marks.count → (l : Bool) × GivesUnit (u.holds == 1) l u.marks.count w → KeepsUnits s.marks.count w
  gave_back_at s t u w a held counted g = gave_back_so s.holds s.marks.count t.marks.count w a (g.0, subst (λ (n : ℕ). GivesUnit (n == 1) g.0 t.marks.count w) held (subst (λ (q : Teller). GivesUnit (u.holds == 1) g.0 q w) counted g.1))
