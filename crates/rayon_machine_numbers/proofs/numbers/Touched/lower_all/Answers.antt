use Rattle.std.proofs.Common.{◌≡◌, ◌∙◌, ap, true, false}
use Rattle.std.specs.Prelude.{◌==◌, Bool, Some, if◌then◌else◌}
use Rattle.std.proofs.lemmas.Bool.{eq-eqb, ne_eqb}
use Rattle.rayon_machine_places.specs.declared.act.Seen.TheVariants.{Yes, No}
use Rattle.rayon_machine_runs.specs.World.{all_lowered, count_in, Outcome, Part}
use Rattle.rayon_machine_numbers.specs.Numbers.{full}
use Rattle.rayon_machine_numbers.proofs.numbers.Touched.lower_all.Goals as goal

pub returns-then-count-pieces : goal.returns-then-count-pieces
returns-then-count-pieces c q k b h own fifo injector casts e =
    let m : Part = full c.args.self own fifo injector casts in
    let p = c.args.pieces in
    let last : (count_in m p.count == p.workers) ≡ true = ap (λ n. n == p.workers) (c.count.ensures own fifo injector casts) ∙ eq-eqb c.count.result p.workers c.if-count-pieces.true in
    let sees : Bool → Outcome = λ z. Some ((if z then Yes else No), all_lowered m p) in
    let leaves : Part → Outcome = λ v. Some (Yes, v) in
    ap sees last ∙ ap leaves (c.all_lowered-after.ensures own fifo injector casts)

pub returns-else-count-pieces : goal.returns-else-count-pieces
returns-else-count-pieces c q k b h own fifo injector casts e =
    let m : Part = full c.args.self own fifo injector casts in
    let p = c.args.pieces in
    let last : (count_in m p.count == p.workers) ≡ false = ap (λ n. n == p.workers) (c.count.ensures own fifo injector casts) ∙ ne_eqb c.count.result p.workers c.if-count-pieces.false in
    let sees : Bool → Outcome = λ z. Some ((if z then Yes else No), all_lowered m p) in
    let leaves : Part → Outcome = λ v. Some (No, v) in
    ap sees last ∙ ap leaves (c.all_lowered-after.ensures own fifo injector casts)
