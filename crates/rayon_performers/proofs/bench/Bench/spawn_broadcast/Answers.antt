use Rattle.std.proofs.Common.{inl, inr, refl, subst}
use Rattle.rayon_machine_places.specs.declared.place.Place.TheVariants as at
use Rattle.rayon_machine_places.specs.declared.place.Move.TheVariants.{Stay}
use Rattle.rayon_machine_places.specs.declared.act.Seen.TheVariants.{Refused}
use Rattle.rayon_performers.specs.Casts.{Casts, CastsNone}
use Rattle.rayon_shared.specs.Casts.{casting}
use Rattle.rayon_performers.proofs.Casts.{cast_called, cast_withdrawn}
use Rattle.rayon_performers.proofs.Stretches.{first_act}
use Rattle.rayon_performers.proofs.bench.Bench.spawn_broadcast.Goals as goal

pub returns-in-Err-raise_all-clause-path : goal.returns-in-Err-raise_all-clause-path
returns-in-Err-raise_all-clause-path g c =
    let a = c.args.first in
    let s = c.make_pieces.new.self in
    let t = c.raise_all.new.self in
    subst (λ z. CastsNone (casting a z.shape.workers) z t) c.make_pieces.ensures.same
    (subst (λ v. CastsNone (casting a v.shape.workers) s t) c.self.view_is
    (inr (inl (first_act s.shape s.index (Stay (at.RaiseForAll (casting a _))) s t Refused refl c.in-Err-raise_all.ensures.does c.in-Err-raise_all.ensures.adds))))

pub returns-in-Ok-push_cast-clause-path : goal.returns-in-Ok-push_cast-clause-path
returns-in-Ok-push_cast-clause-path g c =
    let a = c.args.first in
    let s = c.make_pieces.new.self in
    let t = c.raise_all.new.self in
    let u = c.push_cast.new.self in
    let v = c.call_all.new.self in
    subst (λ z. Casts (casting a z.shape.workers) z v) c.make_pieces.ensures.same
    (subst (λ z. Casts (casting a z.shape.workers) s v) c.self.view_is
    (cast_called a _ s t u v c.in_default.ensures.does c.in_default.ensures.adds c.push_cast.ensures.same c.in-Ok-push_cast.ensures.adds c.call_all.ensures.path))

pub returns-clause-path : goal.returns-clause-path
returns-clause-path g c =
    let a = c.args.first in
    let s = c.make_pieces.new.self in
    let t = c.raise_all.new.self in
    let u = c.push_cast.new.self in
    let v = c.hand_back.new.self in
    subst (λ z. CastsNone (casting a z.shape.workers) z v) c.make_pieces.ensures.same
    (subst (λ z. CastsNone (casting a z.shape.workers) s v) c.self.view_is
    (inr (cast_withdrawn a _ s t u v c.in_default.ensures.does c.in_default.ensures.adds c.push_cast.ensures.same c.in-Err-push_cast.ensures.adds c.hand_back.ensures.path)))
