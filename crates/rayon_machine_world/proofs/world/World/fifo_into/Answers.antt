use Rattle.std.proofs.Common.{rules, ◌≡◌, ◌∙◌, true, false, ap, sym, subst}
use Rattle.std.specs.Prelude.{Option, Some, slice_get}
use Rattle.rayon_machine_runs.specs.declared.state.Scope.{Scope}
use Rattle.rayon_machine_places.specs.Places.{is_member}
use Rattle.rayon_machine_runs.specs.World.{World}
use Rattle.rayon_machine_runs.specs.Steps.{after_enter, after_enter_fifo, after_into_fifo}
use Rattle.rayon_machine_world.specs.Running.{IsStepOf, after_own_enter, world_of}
use Rattle.rayon_machine_world.proofs.Calling.{enters-other, enters-own}
use Rattle.rayon_machine_world.proofs.world.World.fifo_into.Goals as goal

pub returns-then-belongs_to : goal.returns-then-belongs_to
returns-then-belongs_to c =
    let w = world_of c.args.self.now in
    let q = c.args.party in
    let z : Scope = c.in-Some.scope in
    let there : slice_get w.scopes c.args.number ≡ Some z = sym c.scope_of.ensures ∙ c.in-Some.is in
    let mine : is_member q z.pool ≡ true = search (rules, c.belongs_to.ensures, c.if-belongs_to.true) in
    let is : after_into_fifo w q c.args.number (w.stack q) ≡ after_own_enter w z c.index.result = ap (λ (o : Option Scope). after_enter_fifo w q (w.stack q) o) there ∙ enters-own w q z mine ∙ ap (after_own_enter w z) (sym c.index.ensures) in
    subst (λ (o : Option World). IsStepOf o c.feed_into.result w (world_of c.feed_into.new.self)) (sym is) c.feed_into.ensures

pub returns-else-belongs_to : goal.returns-else-belongs_to
returns-else-belongs_to c =
    let w = world_of c.args.self.now in
    let q = c.args.party in
    let z : Scope = c.in-Some.scope in
    let there : slice_get w.scopes c.args.number ≡ Some z = sym c.scope_of.ensures ∙ c.in-Some.is in
    let other : is_member q z.pool ≡ false = search (rules, c.belongs_to.ensures, c.if-belongs_to.false) in
    let is : after_into_fifo w q c.args.number (w.stack q) ≡ after_enter w q (w.stack q) (Some z) = ap (λ (o : Option Scope). after_enter_fifo w q (w.stack q) o) there ∙ enters-other w q z other in
    subst (λ (o : Option World). IsStepOf o c.enter.result w (world_of c.enter.new.self)) (sym is) c.enter.ensures
