use Rattle.std.proofs.Common.{inr, subst, sym}
use Rattle.rayon_machine_places.specs.declared.place.Move.TheVariants.{Stay}
use Rattle.rayon_machine_places.specs.declared.place.Place.TheVariants as at
use Rattle.rayon_shared.specs.Marks.{IsCountOf, scope_in}
use Rattle.rayon_guests.specs.Casts.{CastsInto, HandsBack}
use Rattle.rayon_guests.proofs.Casts.{unraised}
use Rattle.rayon_guests.proofs.ScopeCasts.{cast_numbered, cast_unnumbered}
use Rattle.rayon_guests.proofs.guest.Guest.cast_at_hand.Goals as goal

pub returns-in-Err-clause-path : goal.returns-in-Err-clause-path
returns-in-Err-clause-path g c =
    let s = c.args.self.now in
    let t = c.raise_all.new.self in
    inr (subst (λ z. HandsBack (Stay (at.RaiseForAll z)) z s t) c.cast_to_scope-cast.ensures (unraised c.cast_to_scope-cast.result s t c.in-Err.ensures.step))

pub returns-in-Ok-numbered-clause-path : goal.returns-in-Ok-numbered-clause-path
returns-in-Ok-numbered-clause-path g c =
    let s = c.args.self.now in
    let u = c.number_each-numbered.new.self in
    let v = c.call_all.new.self in
    let eq = c.cast_to_scope-cast.ensures in
    let is = subst (λ z. IsCountOf (scope_in s.call) z.count) (sym eq) c.requires.scope in
    subst (λ z. CastsInto z c.in-Ok-numbered.numbered.0 s v) eq (cast_numbered c.cast_to_scope-cast.result s c.raise_all.new.self u v is c.number_each-numbered.ensures.same c.in_default-raise_all.ensures.step c.in-Ok-numbered.numbered.0 c.in-Ok-numbered.ensures.path c.call_all.ensures.path)

pub returns-clause-path : goal.returns-clause-path
returns-clause-path g c =
    let s = c.args.self.now in
    let u = c.number_each-numbered.new.self in
    let v = c.give_all_back.new.self in
    let eq = c.cast_to_scope-cast.ensures in
    let is = subst (λ z. IsCountOf (scope_in s.call) z.count) (sym eq) c.requires.scope in
    let back = cast_unnumbered c.cast_to_scope-cast.result s c.raise_all.new.self u v is c.number_each-numbered.ensures.same c.in_default-raise_all.ensures.step c.in-Err-numbered.ensures.path c.give_all_back.ensures.path in
    inr (subst (λ z. HandsBack (Stay (at.RaiseForAll z)) z s v) eq back)
