use Rattle.std.proofs.Common.{◌≡◌, ◌∙◌, sym, refl, ap, false}
use Rattle.std.specs.Prelude.{◌||◌, Bool}
use Rattle.std.specs.List.{list_any}
use Rattle.rayon_machine_places.specs.Places.{holds_scope}
use Rattle.rayon_machine_runs.specs.Steps.{holds_in}
use Rattle.rayon_machine_parts.specs.State.{stack_of}
use Rattle.rayon_machine_parts.proofs.Holding.{holds-turned}
use Rattle.rayon_machine_parts.proofs.parties.Stack.holds.Goals as goal

pub returns-else-holds_scope : goal.returns-else-holds_scope
returns-else-holds_scope c =
    let self = c.args.self.now in
    let top : holds_scope c.args.call self.top ≡ false = sym c.holds_scope.ensures ∙ c.if-holds_scope.false in
    c.any_holds.ensures ∙ ap (list_any (holds_scope c.args.call)) c.deref.ensures.value ∙ holds-turned c.args.call self.below.items ∙ sym (ap (λ (b : Bool). b || holds_in c.args.call (stack_of self).below) top)
