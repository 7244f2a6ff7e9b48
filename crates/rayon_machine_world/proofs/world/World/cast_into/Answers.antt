use Rattle.std.proofs.Common.{rules, ◌≡◌, ◌∙◌, true, ap, sym}
use Rattle.std.specs.Prelude.{Some, slice_get}
use Rattle.rayon_machine_places.specs.declared.place.Count.TheVariants.{OfScope}
use Rattle.rayon_machine_places.specs.declared.place.Pieces.{Pieces}
use Rattle.rayon_machine_runs.specs.declared.state.Scope.{Scope}
use Rattle.rayon_machine_places.specs.Places.{is_free}
use Rattle.rayon_machine_runs.specs.Steps.{holds}
use Rattle.rayon_machine_world.specs.Running.{world_of}
use Rattle.rayon_machine_world.proofs.Made.{made-is}
use Rattle.rayon_machine_world.proofs.Calling.{cast-into-is}
use Rattle.rayon_machine_world.proofs.world.World.cast_into.Goals as goal

pub returns : goal.returns
returns c =
    let w = world_of c.args.self.now in
    let q = c.args.party in
    let x = c.top-frame.result in
    let z : Scope = c.in-Some.scope in
    let b : Pieces = record { count = OfScope z.call z.owner; pool = z.pool; first = c.args.self.now.jobs; workers = c.pool.result.workers } in
    let there : slice_get w.scopes c.args.number ≡ Some z = sym c.scope_of.ensures ∙ c.in-Some.is in
    let free : is_free x ≡ true = search (rules, c.can_call.ensures, c.if-not-can_call.false) in
    let held : holds z.call (w.stack q) ≡ true = search (rules, c.holds.ensures, c.if-not-holds.false) in
    let all : b ≡ record { count = OfScope z.call z.owner; pool = z.pool; first = w.jobs; workers = (w.shape.pool z.pool).workers } = ap (λ s. record { count = OfScope z.call z.owner; pool = z.pool; first = w.jobs; workers = s.workers }) c.pool.ensures in
    made-is (cast-into-is w q c.args.number z x b there c.top-frame.ensures free held all) c.open_cast.ensures
