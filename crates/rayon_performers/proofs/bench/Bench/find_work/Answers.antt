use Rattle.std.proofs.Common.{◌≡◌, subst}
use Rattle.rayon_machine_places.specs.declared.place.Move.{Move}
use Rattle.rayon_machine_places.specs.declared.place.Move.TheVariants.{Stay}
use Rattle.rayon_machine_places.specs.declared.place.Place.{Place}
use Rattle.rayon_machine_places.specs.declared.place.Place.TheVariants as at
use Rattle.rayon_machine_places.specs.Places.{next_of}
use Rattle.rayon_performers.proofs.Finds.{Looking, ended, given, given_found, given_left, one_more, still_looks, yield_needs}
use Rattle.rayon_performers.proofs.Stretches.{So}
use Rattle.rayon_performers.proofs.bench.Bench.find_work.Goals as goal

pub perform-seen-requires : goal.perform-seen-requires
perform-seen-requires g c = yield_needs c.args.self.now.index c.party-party.result c.loop.place c.act.result c.args.self.now c.loop.self c.party-party.ensures c.act.ensures c.loop.invariant.4

pub returns-in-BeginTask : goal.returns-in-BeginTask
returns-in-BeginTask g c =
    let h = c.args.self.now.shape in
    let i = c.args.self.now.index in
    let first = Stay at.YieldPop in
    let s = c.args.self.now in
    let u = c.perform-seen.new.self in
    let x = c.perform-seen.result in
    let n = c.next-in-loop.result in
    let next = subst (λ v. n ≡ next_of v.shape c.party-party.result c.loop.place x) c.self.view_is c.next-in-loop.ensures in
    let one = one_more h i c.party-party.result first s c.loop.self u c.loop.place x c.act.result n c.party-party.ensures c.act.ensures next c.loop.invariant.2 c.loop.invariant.3 c.loop.invariant.4 c.perform-seen.ensures.performed c.perform-seen.ensures.adds in
    let k = c.in-BeginTask.field-0 in
    let stay = subst (λ (m : Move). So h i first s m u × Looking s u m) c.in-Stay.is one in
    let found = subst (λ (y : Place). So h i first s (Stay y) u × Looking s u (Stay y)) c.in-BeginTask.is stay in
    let v = c.take_task.new.self in
    let r = c.take_task.result in
    record {
      path = given h i first s u v k r c.take_task.ensures.given c.take_task.ensures.left found.1.0 found.0;
      found = given_found s u v k r c.take_task.ensures.given c.take_task.ensures.left found.1;
      left = given_left s u v k r c.take_task.ensures.given c.take_task.ensures.left found.1;
    }

pub loop-preserved : goal.loop-preserved
loop-preserved g c =
    let h = c.args.self.now.shape in
    let i = c.args.self.now.index in
    let first = Stay at.YieldPop in
    let s = c.args.self.now in
    let u = c.perform-seen.new.self in
    let x = c.perform-seen.result in
    let n = c.next-in-loop.result in
    let next = subst (λ v. n ≡ next_of v.shape c.party-party.result c.loop.place x) c.self.view_is c.next-in-loop.ensures in
    let one = one_more h i c.party-party.result first s c.loop.self u c.loop.place x c.act.result n c.party-party.ensures c.act.ensures next c.loop.invariant.2 c.loop.invariant.3 c.loop.invariant.4 c.perform-seen.ensures.performed c.perform-seen.ensures.adds in
    let stay = subst (λ (m : Move). So h i first s m u × Looking s u m) c.in-Stay.is one in
    let still = still_looks s u c.in-Stay.next c.in_default-next.not-BeginTask stay.1 in
    (tt, tt, stay.0, still.0, still.1)

pub returns-in_default : goal.returns-in_default
returns-in_default g c =
    let h = c.args.self.now.shape in
    let i = c.args.self.now.index in
    let first = Stay at.YieldPop in
    let s = c.args.self.now in
    let u = c.perform-seen.new.self in
    let x = c.perform-seen.result in
    let n = c.next-in-loop.result in
    let next = subst (λ v. n ≡ next_of v.shape c.party-party.result c.loop.place x) c.self.view_is c.next-in-loop.ensures in
    let one = one_more h i c.party-party.result first s c.loop.self u c.loop.place x c.act.result n c.party-party.ensures c.act.ensures next c.loop.invariant.2 c.loop.invariant.3 c.loop.invariant.4 c.perform-seen.ensures.performed c.perform-seen.ensures.adds in
    let end = ended s u n c.in_default.not-Stay one.1 in
    record {
      path = subst (λ (m : Move). So h i first s m u) end.0 one.0;
      found = end.1.0;
      left = end.1.1;
    }
