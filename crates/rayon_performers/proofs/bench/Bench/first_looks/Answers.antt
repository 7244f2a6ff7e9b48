use Rattle.std.proofs.Common.{sym, subst, true, false}
use Rattle.rayon_machine_places.specs.declared.act.Act.TheVariants as acts
use Rattle.rayon_machine_places.specs.declared.act.Seen.TheVariants.{Yes, No}
use Rattle.rayon_machine_places.specs.declared.place.Move.TheVariants.{Enter, Stay}
use Rattle.rayon_machine_places.specs.declared.place.Party.TheVariants.{Worker}
use Rattle.rayon_machine_places.specs.declared.place.Place.TheVariants as at
use Rattle.rayon_machine_places.specs.Places.{fresh, next_of}
use Rattle.rayon_drive.specs.Traces.{Adds}
use Rattle.rayon_performers.specs.Hands.{Does}
use Rattle.rayon_performers.specs.Stands.{Anyhow, At}
use Rattle.rayon_performers.proofs.Stretches.{So}
use Rattle.rayon_performers.proofs.Waits.{popped_stands, probed_stands, working_popped, working_probed}
use Rattle.rayon_performers.proofs.Drives.{then_at}
use Rattle.rayon_performers.proofs.bench.Bench.first_looks.Goals as goal

pub go_on_waiting-requires : goal.go_on_waiting-requires
go_on_waiting-requires g c =
    let o = c.args.target in
    let s = c.args.self.now in
    let t = c.probe.new.self in
    let does = subst (λ l. Does (acts.Probe l) Yes s t) c.latch.ensures c.if-probe.ensures.does in
    subst (λ w. At Anyhow (Worker 0 t.index) t (next_of t.shape (Worker 0 t.index) (at.ProbeWorking w) Yes)) (sym c.wait-wait.ensures)
    (probed_stands t.shape t.index o s t t true c.requires.ticket c.requires.rests does)

pub go_on_waiting-requires-2 : goal.go_on_waiting-requires-2
go_on_waiting-requires-2 g c =
    let o = c.args.target in
    let s = c.args.self.now in
    let t = c.probe.new.self in
    let u = c.pop_own-popped.new.self in
    let x = c.pop_own-popped.result in
    let does = subst (λ l. Does (acts.Probe l) No s t) c.latch.ensures c.if-probe.ensures.does in
    subst (λ w. At Anyhow (Worker 0 u.index) u (next_of u.shape (Worker 0 u.index) (at.PopWorking w) x)) (sym c.wait-wait.ensures)
    (popped_stands u.shape u.index o s t u x (probed_stands u.shape u.index o s t t false c.requires.ticket c.requires.rests does) c.pop_own-popped.ensures.does)

pub returns-then-probe-clause-path : goal.returns-then-probe-clause-path
returns-then-probe-clause-path g c =
    let o = c.args.target in
    let s = c.args.self.now in
    let h = s.shape in
    let i = s.index in
    let t = c.probe.new.self in
    let v = c.go_on_waiting.new.self in
    let r = c.go_on_waiting.result in
    let does = subst (λ l. Does (acts.Probe l) Yes s t) c.latch.ensures c.if-probe.ensures.does in
    let adds = subst (λ l. Adds (acts.Probe l) Yes s.trace t.trace) c.latch.ensures c.if-probe.ensures.adds in
    let goes = subst (λ w. So t.shape t.index (next_of t.shape (Worker 0 t.index) (at.ProbeWorking w) Yes) t r v) c.wait-wait.ensures c.go_on_waiting.ensures.path in
    then_at (Stay (at.ProbeWorking (fresh o))) (λ k j. next_of k (Worker 0 j) (at.ProbeWorking (fresh o)) Yes) r s t v (working_probed h i o s t t true does adds) goes

pub returns-clause-path : goal.returns-clause-path
returns-clause-path g c =
    let o = c.args.target in
    let s = c.args.self.now in
    let h = s.shape in
    let i = s.index in
    let t = c.probe.new.self in
    let u = c.pop_own-popped.new.self in
    let x = c.pop_own-popped.result in
    let v = c.go_on_waiting-2.new.self in
    let r = c.go_on_waiting-2.result in
    let does = subst (λ l. Does (acts.Probe l) No s t) c.latch.ensures c.if-probe.ensures.does in
    let adds = subst (λ l. Adds (acts.Probe l) No s.trace t.trace) c.latch.ensures c.if-probe.ensures.adds in
    let goes = subst (λ w. So u.shape u.index (next_of u.shape (Worker 0 u.index) (at.PopWorking w) x) u r v) c.wait-wait.ensures c.go_on_waiting-2.ensures.path in
    then_at (Stay (at.ProbeWorking (fresh o))) (λ k j. next_of k (Worker 0 j) (at.PopWorking (fresh o)) x) r s u v
    (working_popped h i o s t u x (working_probed h i o s t t false does adds) c.pop_own-popped.ensures.does c.pop_own-popped.ensures.adds) goes

pub returns-in-Task-clause-path : goal.returns-in-Task-clause-path
returns-in-Task-clause-path g c =
    let o = c.args.target in
    let s = c.args.self.now in
    let h = s.shape in
    let i = s.index in
    let t = c.probe.new.self in
    let u = c.pop_own-popped.new.self in
    let x = c.pop_own-popped.result in
    let first = Stay (at.ProbeWorking (fresh o)) in
    let does = subst (λ l. Does (acts.Probe l) No s t) c.latch.ensures c.if-probe.ensures.does in
    let adds = subst (λ l. Adds (acts.Probe l) No s.trace t.trace) c.latch.ensures c.if-probe.ensures.adds in
    let popped = working_popped h i o s t u x (working_probed h i o s t t false does adds) c.pop_own-popped.ensures.does c.pop_own-popped.ensures.adds in
    let took = subst (λ z. So h i first s (next_of h (Worker 0 i) (at.PopWorking (fresh o)) z) u) c.in-Task.is popped in
    subst (λ w. So h i first s (Enter (at.ProbeWorking w) (at.BeginTask c.in-Task.task)) u) (sym c.wait-wait.ensures) took
