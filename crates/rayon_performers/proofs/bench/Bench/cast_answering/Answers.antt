use Rattle.std.proofs.Common.{inl, inr, refl, subst}
use Rattle.rayon_machine_places.specs.declared.place.Place.TheVariants as at
use Rattle.rayon_machine_places.specs.declared.place.Move.TheVariants.{Stay}
use Rattle.rayon_machine_places.specs.declared.act.Seen.TheVariants.{Refused}
use Rattle.rayon_performers.specs.Casts.{CastsInto, CastsNone}
use Rattle.rayon_shared.specs.Casts.{cast_into}
use Rattle.rayon_performers.proofs.ScopeCasts.{cast_numbered, cast_unnumbered}
use Rattle.rayon_performers.proofs.Stretches.{first_act}
use Rattle.rayon_performers.proofs.bench.Bench.cast_answering.Goals as goal

pub returns-in-Err-raise_shares-clause-path : goal.returns-in-Err-raise_shares-clause-path
returns-in-Err-raise_shares-clause-path g c =
    let e = c.args.entry in
    let s = c.args.self.now in
    let t = c.raise_shares.new.self in
    subst (λ z. CastsNone (cast_into e z.shape.workers) s t) c.self.view_is
    (inr (inl (first_act s.shape s.index (Stay (at.RaiseForAll (cast_into e _))) s t Refused refl c.in-Err-raise_shares.ensures.does c.in-Err-raise_shares.ensures.adds)))

pub returns-in-Ok-number_all-clause-path : goal.returns-in-Ok-number_all-clause-path
returns-in-Ok-number_all-clause-path g c =
    let e = c.args.entry in
    let s = c.args.self.now in
    let t = c.raise_shares.new.self in
    let u = c.number_all.new.self in
    let v = c.call_all.new.self in
    let k = c.in-Ok-number_all.numbered.0 in
    subst (λ z. CastsInto (cast_into e z.shape.workers) k s v) c.self.view_is
    (cast_numbered e _ s t u v c.in_default-raise_shares.ensures.does c.in_default-raise_shares.ensures.adds k c.in-Ok-number_all.ensures.path c.call_all.ensures.path)

pub returns-clause-path : goal.returns-clause-path
returns-clause-path g c =
    let e = c.args.entry in
    let s = c.args.self.now in
    let t = c.raise_shares.new.self in
    let u = c.number_all.new.self in
    let v = c.hand_shares_back.new.self in
    subst (λ z. CastsNone (cast_into e z.shape.workers) s v) c.self.view_is
    (inr (cast_unnumbered e _ s t u v c.in_default-raise_shares.ensures.does c.in_default-raise_shares.ensures.adds c.in-Err-number_all.ensures.path c.hand_shares_back.ensures.path))
