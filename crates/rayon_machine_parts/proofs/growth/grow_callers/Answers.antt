use Rattle.std.proofs.Common.{arith, ap, ◌∙◌, ◌≡◌, ◌++◌, ◌∷◌, [], length}
use Rattle.std.proofs.lemmas.Grind.{common_steps}
use Rattle.rayon_machine_places.specs.declared.place.Party.TheVariants.{Caller}
use Rattle.rayon_machine_parts.specs.State.{caller_in, first_stack, shape_of, stack_of}
use Rattle.rayon_machine_parts.proofs.AfterWrites.{read-more}
use Rattle.rayon_machine_parts.proofs.growth.grow_callers.Goals as goal

pub fill-preserved : goal.fill-preserved
fill-preserved c =
    let h = shape_of c.args.shapes.now in
    let pushed : c.push.new.self.items ≡ c.fill.callers.items ++ c.first.result ∷ [] = grind (arith, common_steps) in
    let at : c.len-in-fill.result ≡ length c.fill.callers.items = grind (arith, common_steps) in
    let reads : stack_of c.first.result ≡ first_stack h (Caller (length c.fill.callers.items)) = c.first.ensures ∙ ap (λ n. first_stack h (Caller n)) at in
    λ n. ap (λ xs. caller_in h xs n) pushed ∙ read-more stack_of (λ k. first_stack h (Caller k)) c.fill.callers.items c.first.result reads n ∙ c.fill.invariant n
