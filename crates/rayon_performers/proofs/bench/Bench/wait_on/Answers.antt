use Rattle.std.proofs.Common.{◌≡◌, subst, sym}
use Rattle.rayon_machine_places.specs.declared.place.Move.TheVariants.{Stay}
use Rattle.rayon_machine_places.specs.declared.place.Place.TheVariants as at
use Rattle.rayon_machine_places.specs.declared.place.Target.TheVariants.{Termination}
use Rattle.rayon_machine_places.specs.Places.{fresh}
use Rattle.rayon_performers.specs.Paths.{WorkerGoes}
use Rattle.rayon_performers.specs.Stands.{Stands}
use Rattle.rayon_performers.specs.Waits.{waiting_on}
use Rattle.rayon_performers.proofs.Letters.{exchanged}
use Rattle.rayon_performers.proofs.bench.Bench.wait_on.Goals as goal

pub returns-clause-path : goal.returns-clause-path
returns-clause-path g c =
    let s = c.args.self.now in
    let v = c.wait-ended.new.self in
    let first = Stay (at.ProbeWorking (fresh Termination)) in
    let w = waiting_on c.exchange_latch-2.new.latch c.exchange_latch-2.new.self in
    let back : w ≡ v = exchanged v c.exchange_latch-2.new.self c.exchange_latch.new.latch c.exchange_latch-2.new.latch c.exchange_latch-2.ensures.bench c.exchange_latch-2.ensures.latch in
    subst (λ z. WorkerGoes first (waiting_on c.args.latch.now s) z c.wait-ended.result) (sym back)
    (subst (λ z. WorkerGoes first z v c.wait-ended.result) c.exchange_latch.ensures.bench c.wait-ended.ensures.path)

pub returns-clause-stands : goal.returns-clause-stands
returns-clause-stands g c =
    let v = c.wait-ended.new.self in
    let back = exchanged v c.exchange_latch-2.new.self c.exchange_latch.new.latch c.exchange_latch-2.new.latch c.exchange_latch-2.ensures.bench c.exchange_latch-2.ensures.latch in
    subst (λ z. Stands z c.wait-ended.result) (sym back) c.wait-ended.ensures.stands
