use Rattle.std.proofs.Common.{None, false, refl, subst, true}
use Rattle.rayon_machine_places.specs.declared.act.Act.TheVariants.{Lower}
use Rattle.rayon_machine_places.specs.declared.place.Count.TheVariants.{OfScope}
use Rattle.rayon_machine_places.specs.declared.place.Move.TheVariants.{Stay}
use Rattle.rayon_machine_places.specs.declared.place.Party.{Party}
use Rattle.rayon_machine_places.specs.declared.place.Party.TheVariants.{Worker}
use Rattle.rayon_machine_places.specs.declared.place.Place.TheVariants as at
use Rattle.rayon_machine_places.specs.declared.place.Share.TheVariants.{Body}
use Rattle.rayon_machine_places.specs.declared.place.Target.TheVariants.{Answer}
use Rattle.rayon_machine_places.specs.declared.place.Then.TheVariants.{Await}
use Rattle.rayon_machine_places.specs.Places.{fresh, set_call}
use Rattle.rayon_machine_places.specs.declared.act.Seen.TheVariants.{Done, No, Yes}
use Rattle.rayon_drive.specs.Traces.{Adds}
use Rattle.rayon_shared.specs.AtHand.{answer}
use Rattle.rayon_performers.proofs.Stretches.{So, by_act, first_act}
use Rattle.rayon_performers.proofs.Drives.{then_goes}
use Rattle.rayon_performers.proofs.bench.Bench.end_body.Goals as goal

pub returns-then-lower_scope-clause-path : goal.returns-then-lower_scope-clause-path
returns-then-lower_scope-clause-path g c =
    let s = c.args.self.now in
    let h = s.shape in
    let i = s.index in
    let o = c.args.call in
    let t = c.store_body.new.self in
    let u = c.lower_scope.new.self in
    let v = c.go_on_ended.new.self in
    let first = Stay (at.StoreBody o c.args.ending) in
    let sets = Stay (set_call o.number (Worker 0 i) (Await o)) in
    let lowers = subst (λ (q : Party). Adds (Lower (OfScope o.number q) Body) (answer true) t.trace u.trace) c.party-owner.ensures c.if-lower_scope.ensures.adds in
    then_goes first sets c.go_on_ended.result s u v
    (by_act h i first s (Stay (at.LowerCount (OfScope o.number (Worker 0 i)) Body (Await o))) t u Yes refl (first_act h i first s t Done refl c.store_body.ensures.does c.store_body.ensures.adds) c.if-lower_scope.ensures.does lowers)
    (subst (λ (q : Party). So u.shape u.index (Stay (set_call o.number q (Await o))) u c.go_on_ended.result v) c.party-owner.ensures c.go_on_ended.ensures.path)

pub returns-clause-path : goal.returns-clause-path
returns-clause-path g c =
    let s = c.args.self.now in
    let h = s.shape in
    let i = s.index in
    let o = c.args.call in
    let t = c.store_body.new.self in
    let u = c.lower_scope.new.self in
    let v = c.wait.new.self in
    let first = Stay (at.StoreBody o c.args.ending) in
    let waits = Stay (at.ProbeWorking (fresh (Answer o None))) in
    let lowers = subst (λ (q : Party). Adds (Lower (OfScope o.number q) Body) (answer false) t.trace u.trace) c.party-owner.ensures c.if-lower_scope.ensures.adds in
    then_goes first waits c.wait.result s u v
    (by_act h i first s (Stay (at.LowerCount (OfScope o.number (Worker 0 i)) Body (Await o))) t u No refl (first_act h i first s t Done refl c.store_body.ensures.does c.store_body.ensures.adds) c.if-lower_scope.ensures.does lowers)
    c.wait.ensures.path
