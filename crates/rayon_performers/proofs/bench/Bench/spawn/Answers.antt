use Rattle.std.proofs.Common.{◌≡◌, rules, sym, subst}
use Rattle.rayon_atomics.specs.declared.views.Teller.{Teller}
use Rattle.rayon_shared.specs.Marks.{KeepsUnits}
use Rattle.rayon_performers.proofs.bench.Bench.spawn.Goals as goal

pub returns-in-Err-spawned-clause-unit : goal.returns-in-Err-spawned-clause-unit
returns-in-Err-spawned-clause-unit g c =
    let s = c.args.self.now in
    let u = c.exchange_units-held.new.self in
    let v = c.queue_job-spawned.new.self in
    let w = c.exchange_units.new.self in
    let before : u.marks.count ≡ s.marks.count = search rules in
    let after : w.marks.count ≡ v.marks.count = search rules in
    subst (λ (q : Teller). KeepsUnits s.marks.count q) (sym after) (subst (λ (q : Teller). KeepsUnits q v.marks.count) before c.in-Err-spawned.ensures.unit)
