use Rattle.std.proofs.Common.{arith, ap, ◌∙◌, ◌≡◌, ◌++◌, ◌∷◌, [], length}
use Rattle.std.proofs.lemmas.Grind.{common_steps}
use Rattle.rayon_machine_places.specs.declared.place.Party.TheVariants.{Worker}
use Rattle.rayon_machine_parts.specs.State.{first_stack, shape_of, stack_at, stack_of}
use Rattle.rayon_machine_parts.proofs.AfterWrites.{read-more}
use Rattle.rayon_machine_parts.proofs.growth.grow_stacks.Goals as goal

pub fill-preserved : goal.fill-preserved
fill-preserved c =
    let h = shape_of c.args.shapes.now in
    let pushed : c.push.new.self.items ≡ c.fill.stacks.items ++ c.first.result ∷ [] = grind (arith, common_steps) in
    let at : c.len-in-fill.result ≡ length c.fill.stacks.items = grind (arith, common_steps) in
    let reads : stack_of c.first.result ≡ first_stack h (Worker c.args.pool (length c.fill.stacks.items)) = c.first.ensures ∙ ap (λ n. first_stack h (Worker c.args.pool n)) at in
    λ n. ap (λ xs. stack_at h c.args.pool xs n) pushed ∙ read-more stack_of (λ k. first_stack h (Worker c.args.pool k)) c.fill.stacks.items c.first.result reads n ∙ c.fill.invariant n
