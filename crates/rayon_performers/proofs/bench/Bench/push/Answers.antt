use Rattle.std.proofs.Common.{ℕ, refl, subst}
use Rattle.std.proofs.lemmas.Result.{err_from_is_err_and}
use Rattle.rayon_machine_places.specs.declared.place.Move.TheVariants.{Back, Stay}
use Rattle.rayon_machine_places.specs.declared.place.Place.TheVariants as at
use Rattle.rayon_machine_places.specs.declared.place.Plan.TheVariants.{Detach}
use Rattle.rayon_machine_places.specs.declared.act.Seen.TheVariants.{Done, Refused}
use Rattle.rayon_machine_places.specs.Places.{undo}
use Rattle.rayon_performers.proofs.Finds.{push_looked}
use Rattle.rayon_performers.proofs.Stretches.{So, by_act}
use Rattle.rayon_performers.proofs.Drives.{then_goes}
use Rattle.rayon_performers.proofs.bench.Bench.push.Goals as goal

pub returns-in_err-push_own-clause-path : goal.returns-in_err-push_own-clause-path
returns-in_err-push_own-clause-path g c =
    let h = c.args.self.now.shape in
    let i = c.args.self.now.index in
    let n = c.number-name.result in
    let first = Stay (at.LookQueue (Detach 0 n)) in
    let s = c.args.self.now in
    let t = c.look_own-was_empty.new.self in
    let u = c.push_own.new.self in
    let z = c.look_own-was_empty.result in
    let looked = push_looked h i n s t t z c.look_own-was_empty.ensures.does c.look_own-was_empty.ensures.adds in
    let named = by_act h i first s (Stay (at.PushJob (Detach 0 n) z)) t u Refused refl looked (c.in_err-push_own.ensures.same.1, (c.in_err-push_own.ensures.same.0, c.in_err-push_own.ensures.pushed.1)) c.in_err-push_own.ensures.pushed.2 in
    let path = subst (λ (m : ℕ). So h i (Stay (at.LookQueue (Detach 0 m))) s (Stay (undo (Detach 0 m))) u) c.number-name.ensures named in
    let p = err_from_is_err_and c.from_residual.result c.from_residual.ensures.1 in
    rw p.1 path

pub returns-clause-path : goal.returns-clause-path
returns-clause-path g c =
    let h = c.args.self.now.shape in
    let i = c.args.self.now.index in
    let n = c.number-name.result in
    let first = Stay (at.LookQueue (Detach 0 n)) in
    let s = c.args.self.now in
    let t = c.look_own-was_empty.new.self in
    let u = c.push_own.new.self in
    let v = c.tell_pushed.new.self in
    let z = c.look_own-was_empty.result in
    let looked = push_looked h i n s t t z c.look_own-was_empty.ensures.does c.look_own-was_empty.ensures.adds in
    let told = Stay (at.TellNews (Detach 0 n) z) in
    let named = then_goes first told Back s u v
    (by_act h i first s (Stay (at.PushJob (Detach 0 n) z)) t u Done refl looked (c.in_ok-push_own.ensures.same.1, (c.args.task, c.in_ok-push_own.ensures.pushed.0, c.in_ok-push_own.ensures.same.0)) c.in_ok-push_own.ensures.pushed.1)
    c.tell_pushed.ensures.path in
    subst (λ (m : ℕ). So h i (Stay (at.LookQueue (Detach 0 m))) s Back v) c.number-name.ensures named
