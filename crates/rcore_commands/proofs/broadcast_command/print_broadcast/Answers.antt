use Rattle.std.proofs.Common.{◌≡◌, ◌∙◌, ◌∷◌, ◌++◌, [], map, pos, subst, ap, None, arith}
use Rattle.std.specs.Io.KnownBytes.{Appends}
use Rattle.rayon_core.specs.Environment.{workers_for}
use Rattle.rcore_commands.specs.Lines.{spaced}
use Rattle.rcore_commands.proofs.Broadcasts.{as_asked, squares_by_index}
use Rattle.rcore_commands.proofs.broadcast_command.print_broadcast.Goals as goal

-- the outputs are the squares, of as many workers as were asked for
pub returns-in-Ok-answer-clause-done : goal.returns-in-Ok-answer-clause-done
returns-in-Ok-answer-clause-done g c done =
    let answered = c.in-Ok-answer.ensures.ok in
    let settings = c.num_threads-builder.ensures in
    let built = c.in-Ok.ensures.workers in
    let lent : c.deref.result.now.workers ≡ workers_for c.args.workers None None 0 = grind (arith) in
    let same = squares_by_index c.in-Ok-answer.squares.items c.args.workers (answered.0 ∙ lent ∙ as_asked c.args.workers c.requires.workers) answered.1 in
    subst (λ v. Appends (g.W.Write.contents c.args.out.now) (g.W.Write.contents c.print_numbers.new.out) (spaced (map pos v) ++ 10 ∷ [])) (c.as_slice.ensures.value ∙ same) (c.print_numbers.ensures.done done)
