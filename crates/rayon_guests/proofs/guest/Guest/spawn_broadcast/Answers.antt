use Rattle.std.proofs.Common.{ap, inr, subst}
use Rattle.rayon_machine_places.specs.declared.place.Move.TheVariants.{Stay}
use Rattle.rayon_machine_places.specs.declared.place.Place.TheVariants as at
use Rattle.rayon_guests.specs.Casts.{Casts, HandsBack}
use Rattle.rayon_guests.proofs.Casts.{cast_done, unpushed, unraised}
use Rattle.rayon_guests.proofs.guest.Guest.spawn_broadcast.Goals as goal

pub returns-in-Err-clause-path : goal.returns-in-Err-clause-path
returns-in-Err-clause-path g c =
    let s = c.args.self.now in
    let t = c.raise_all.new.self in
    inr (subst (λ z. HandsBack (Stay (at.RaiseForAll z)) z s t) c.cast_from-cast.ensures (unraised c.cast_from-cast.result s t c.in-Err.ensures.step))

pub returns-in-Ok-push_all-clause-path : goal.returns-in-Ok-push_all-clause-path
returns-in-Ok-push_all-clause-path g c =
    let s = c.args.self.now in
    let t = c.call_all.new.self in
    let is = c.cast_from-cast.ensures in
    subst (λ z. Casts z s t) is (cast_done c.cast_from-cast.result s c.raise_all.new.self c.push_all.new.self t (ap (λ z. z.count) is) c.in_default-raise_all.ensures.step c.in-Ok-push_all.ensures.step c.call_all.ensures.path)

pub returns-clause-path : goal.returns-clause-path
returns-clause-path g c =
    let s = c.args.self.now in
    let t = c.give_all_back.new.self in
    let is = c.cast_from-cast.ensures in
    let back = unpushed c.cast_from-cast.result s c.raise_all.new.self c.push_all.new.self t (ap (λ z. z.count) is) c.in_default-raise_all.ensures.step c.in-Err-push_all.ensures.step c.give_all_back.ensures.path in
    inr (subst (λ z. HandsBack (Stay (at.RaiseForAll z)) z s t) is back)
