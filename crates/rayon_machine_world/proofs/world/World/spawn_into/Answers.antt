use Rattle.std.proofs.Common.{◌≡◌, ◌∙◌, ap, sym, subst}
use Rattle.std.specs.Prelude.{Option, Some, slice_get}
use Rattle.rayon_machine_runs.specs.declared.state.Scope.{Scope}
use Rattle.rayon_machine_runs.specs.Steps.{after_enter}
use Rattle.rayon_machine_world.specs.Running.{IsStepOf, world_of}
use Rattle.rayon_machine_world.proofs.world.World.spawn_into.Goals as goal

pub returns : goal.returns
returns c =
    let w = world_of c.args.self.now in
    let q = c.args.party in
    let there : slice_get w.scopes c.args.number ≡ Some c.in-Some.scope = sym c.scope_of.ensures ∙ c.in-Some.is in
    subst (λ (o : Option Scope). IsStepOf (after_enter w q (w.stack q) o) c.enter.result w (world_of c.enter.new.self)) (sym there) c.enter.ensures
