use Rattle.std.proofs.Common.{ap, refl, sym}
use Rattle.rayon_machine_places.specs.declared.place.Latch.TheVariants.{OfCall}
use Rattle.rayon_performers.specs.Waits.{holding}
use Rattle.rayon_performers.proofs.Letters.{probes}
use Rattle.rayon_performers.proofs.bench.Bench.probe_held.Goals as goal

pub returns-clause-does : goal.returns-clause-does
returns-clause-does g c =
    let s = c.args.self.now in
    let k = c.args.held.now in
    let l = c.probe-is_set.new.self in
    probes (OfCall c.args.call) (holding k.ticket k.latch s) (holding k.ticket l s) (holding k.ticket l c.saw.new.self) refl c.probe-is_set.result ((c.probe-is_set.ensures.seat, c.probe-is_set.ensures.found, sym c.probe-is_set.ensures.answer), refl) (ap (holding k.ticket l) c.saw.ensures.same)
