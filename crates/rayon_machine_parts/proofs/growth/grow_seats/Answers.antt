use Rattle.std.proofs.Common.{arith, ap, ◌∙◌, ◌≡◌, ◌++◌, ◌∷◌, []}
use Rattle.std.proofs.lemmas.Grind.{common_steps}
use Rattle.rayon_machine_parts.specs.State.{blank_seat, seat_in, seat_of}
use Rattle.rayon_machine_parts.proofs.AfterWrites.{read-more}
use Rattle.rayon_machine_parts.proofs.growth.grow_seats.Goals as goal

pub fill-preserved : goal.fill-preserved
fill-preserved c =
    let pushed : c.push.new.self.items ≡ c.fill.seats.items ++ c.blank.result ∷ [] = grind (arith, common_steps) in
    λ i. ap (λ xs. seat_in xs i) pushed ∙ read-more seat_of (λ k. blank_seat) c.fill.seats.items c.blank.result c.blank.ensures i ∙ c.fill.invariant i
