use Rattle.std.proofs.Common.{◌≡◌, ◌∙◌, ap, true, false}
use Rattle.std.specs.Prelude.{◌==◌, Bool, Some, if◌then◌else◌}
use Rattle.std.proofs.lemmas.Bool.{eq-eqb, ne_eqb}
use Rattle.rayon_machine_places.specs.declared.act.Seen.TheVariants.{Yes, No}
use Rattle.rayon_machine_runs.specs.World.{count_in, lowered, Outcome, Part}
use Rattle.rayon_machine_numbers.specs.Numbers.{full}
use Rattle.rayon_machine_numbers.proofs.numbers.Touched.lower.Goals as goal

pub returns-then-count-eq1 : goal.returns-then-count-eq1
returns-then-count-eq1 c q k b h own fifo injector casts e =
    let m : Part = full c.args.self own fifo injector casts in
    let last : (count_in m c.args.count == 1) ≡ true = ap (λ n. n == 1) (c.count.ensures own fifo injector casts) ∙ eq-eqb c.count.result 1 c.if-count-eq1.true in
    let sees : Bool → Outcome = λ z. Some ((if z then Yes else No), lowered m c.args.count c.args.share) in
    let leaves : Part → Outcome = λ v. Some (Yes, v) in
    ap sees last ∙ ap leaves (c.lowered-after.ensures own fifo injector casts)

pub returns-else-count-eq1 : goal.returns-else-count-eq1
returns-else-count-eq1 c q k b h own fifo injector casts e =
    let m : Part = full c.args.self own fifo injector casts in
    let last : (count_in m c.args.count == 1) ≡ false = ap (λ n. n == 1) (c.count.ensures own fifo injector casts) ∙ ne_eqb c.count.result 1 c.if-count-eq1.false in
    let sees : Bool → Outcome = λ z. Some ((if z then Yes else No), lowered m c.args.count c.args.share) in
    let leaves : Part → Outcome = λ v. Some (No, v) in
    ap sees last ∙ ap leaves (c.lowered-after.ensures own fifo injector casts)
