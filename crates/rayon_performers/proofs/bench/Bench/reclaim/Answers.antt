use Rattle.std.proofs.Common.{◌≡◌, Some, ap, false, refl, subst, sym, true}
use Rattle.rayon_machine_places.specs.declared.place.Latch.TheVariants.{OfCall}
use Rattle.rayon_machine_places.specs.declared.place.Move.TheVariants.{Stay}
use Rattle.rayon_machine_places.specs.declared.place.Party.TheVariants.{Worker}
use Rattle.rayon_machine_places.specs.declared.place.Place.TheVariants as at
use Rattle.rayon_machine_places.specs.declared.place.Taken.TheVariants.{Plain}
use Rattle.rayon_machine_places.specs.declared.act.Act.TheVariants as acts
use Rattle.rayon_machine_places.specs.declared.act.Seen.TheVariants.{Missing, Task, Yes}
use Rattle.rayon_machine_places.specs.Places.{next_of}
use Rattle.rayon_drive.specs.Traces.{Adds}
use Rattle.rayon_performers.specs.Hands.{Does}
use Rattle.rayon_performers.specs.Waits.{holding, rejoins}
use Rattle.rayon_performers.proofs.Offers.{join_probed, join_popped, own_popped, pops_holding}
use Rattle.rayon_tasks.specs.Tasks.{taken_in}
use Rattle.rayon_performers.proofs.Drives.{then_at}
use Rattle.rayon_performers.proofs.bench.Bench.reclaim.Goals as goal

pub returns-then-probe_held-clause-path : goal.returns-then-probe_held-clause-path
returns-then-probe_held-clause-path g c =
    let h = c.args.self.now.shape in
    let i = c.args.self.now.index in
    let o = c.args.call in
    let s = holding c.args.held.ticket c.args.held.latch c.args.self.now in
    let v = c.take_up.new.self in
    let looked = subst (λ z. Does (acts.Probe (OfCall o.number)) Yes s z) (sym c.take_up.ensures) c.if-probe_held.ensures.does in
    let added = subst (λ z. Adds (acts.Probe (OfCall o.number)) Yes s.trace z.trace) (sym c.take_up.ensures) c.if-probe_held.ensures.adds in
    then_at (Stay (at.JoinProbe o)) (λ k j. next_of k (Worker 0 j) (at.JoinProbe o) Yes) (rejoins o c.go_on_set.result) s v c.go_on_set.new.self
    (join_probed h i o s v v true looked added) c.go_on_set.ensures.path

pub returns-in_default-clause-path : goal.returns-in_default-clause-path
returns-in_default-clause-path g c =
    let h = c.args.self.now.shape in
    let i = c.args.self.now.index in
    let o = c.args.call in
    let s = holding c.args.held.ticket c.args.held.latch c.args.self.now in
    let k = c.probe_held.new.held in
    let p = c.probe_held.new.self in
    let t = holding k.ticket k.latch p in
    let v = c.take_up-in_default.new.self in
    let popped = subst (λ z. Does acts.PopOwn Missing t z) (sym c.take_up-in_default.ensures) (pops_holding k.ticket k.latch Missing p c.pop_out.new.self c.in_default.ensures.does) in
    let added = subst (λ z. Adds acts.PopOwn Missing t.trace z.trace) (sym c.take_up-in_default.ensures) c.in_default.ensures.adds in
    then_at (Stay (at.JoinProbe o)) (λ k j. next_of k (Worker 0 j) (at.JoinPop o) Missing) (rejoins o c.go_on_popped.result) s v c.go_on_popped.new.self
    (join_popped h i o s t v Missing
    (join_probed h i o s t t false c.if-probe_held.ensures.does c.if-probe_held.ensures.adds)
    popped added)
    c.go_on_popped.ensures.path

pub returns-then-is_plain-clause-path : goal.returns-then-is_plain-clause-path
returns-then-is_plain-clause-path g c =
    let h = c.args.self.now.shape in
    let i = c.args.self.now.index in
    let o = c.args.call in
    let s = holding c.args.held.ticket c.args.held.latch c.args.self.now in
    let k = c.probe_held.new.held in
    let p = c.probe_held.new.self in
    let t = holding k.ticket k.latch p in
    let x = c.in-Some.task in
    let u = record (holding k.ticket k.latch c.pop_out.new.self) { task = Some x } in
    own_popped h i o s t u (Task (taken_in x)) (ap Task (subst (λ z. z ≡ Plain o.job) c.taken.ensures (c.if-is_plain.ensures.0 refl)))
    (join_popped h i o s t u (Task (taken_in x))
    (join_probed h i o s t t false c.if-probe_held.ensures.does c.if-probe_held.ensures.adds)
    (pops_holding k.ticket k.latch (Task (taken_in x)) p (record c.pop_out.new.self { task = Some x }) c.in-Some.ensures.does)
    c.in-Some.ensures.adds)

pub returns-clause-path : goal.returns-clause-path
returns-clause-path g c =
    let h = c.args.self.now.shape in
    let i = c.args.self.now.index in
    let o = c.args.call in
    let s = holding c.args.held.ticket c.args.held.latch c.args.self.now in
    let k = c.probe_held.new.held in
    let p = c.probe_held.new.self in
    let t = holding k.ticket k.latch p in
    let x = Task (taken_in c.in-Some.task) in
    let u = record c.take_up-2.new.self { task = Some c.in-Some.task } in
    let popped = subst (λ z. Does acts.PopOwn x t (record z { task = Some c.in-Some.task })) (sym c.take_up-2.ensures) (pops_holding k.ticket k.latch x p (record c.pop_out.new.self { task = Some c.in-Some.task }) c.in-Some.ensures.does) in
    let added = subst (λ z. Adds acts.PopOwn x t.trace z.trace) (sym c.take_up-2.ensures) c.in-Some.ensures.adds in
    then_at (Stay (at.JoinProbe o)) (λ k j. next_of k (Worker 0 j) (at.JoinPop o) x) (rejoins o c.go_on_found.result) s u c.go_on_found.new.self
    (join_popped h i o s t u x
    (join_probed h i o s t t false c.if-probe_held.ensures.does c.if-probe_held.ensures.adds)
    popped added)
    c.go_on_found.ensures.path
