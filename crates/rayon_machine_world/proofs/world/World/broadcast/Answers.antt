use Rattle.std.proofs.Common.{rules, ◌≡◌, ◌∙◌, ◌+◌, ap, true}
use Rattle.rayon_machine_places.specs.declared.place.Count.TheVariants.{OfCast}
use Rattle.rayon_machine_places.specs.declared.place.Gathering.{Gathering}
use Rattle.rayon_machine_places.specs.Places.{is_free}
use Rattle.rayon_machine_runs.specs.Steps.{is_pool}
use Rattle.rayon_machine_world.specs.Running.{world_of}
use Rattle.rayon_machine_world.proofs.Made.{made-is}
use Rattle.rayon_machine_world.proofs.Calling.{gather-is, gathered}
use Rattle.rayon_machine_world.proofs.world.World.broadcast.Goals as goal

pub returns : goal.returns
returns c =
    let w = world_of c.args.self.now in
    let q = c.args.party in
    let p = c.args.pool in
    let x = c.top-frame.result in
    let n = c.pool-workers.result.workers in
    let g : Gathering = record { call = record { number = w.calls; pool = p; job = w.jobs + n }; pieces = record { count = OfCast w.calls q; pool = p; first = w.jobs; workers = n } } in
    let free : is_free x ≡ true = search (rules, c.can_call.ensures, c.if-not-can_call.false) in
    let known : is_pool w.shape p ≡ true = search (rules, c.has_pool.ensures, c.if-not-has_pool.false) in
    let all : g ≡ gathered w q p = ap (λ s. record { call = record { number = w.calls; pool = p; job = w.jobs + s.workers }; pieces = record { count = OfCast w.calls q; pool = p; first = w.jobs; workers = s.workers } }) c.pool-workers.ensures in
    made-is (gather-is w q p x g c.top-frame.ensures free known all) c.open_gather.ensures
