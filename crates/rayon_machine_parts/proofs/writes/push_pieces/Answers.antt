use Rattle.std.proofs.Common.{arith, ap, ◌≡◌, ◌∙◌, ◌+◌, ◌<◌, ◌++◌, ◌∷◌, [], length}
use Rattle.rayon_machine_parts.specs.State.{cast_at}
use Rattle.rayon_machine_parts.proofs.Dealt.{cast-before, cast-more, cast-there, room-left}
use Rattle.rayon_machine_parts.proofs.writes.push_pieces.Goals as goal

pub loop-index-preserved : goal.loop-index-preserved
loop-index-preserved c =
    let b = c.args.pieces in
    let k = c.loop-index.index in
    let f = cast_at c.args.casts.now.items in
    let lists = c.loop-index.casts.items in
    let stored : k < length lists = search (arith) in
    let was : c.index_mut.result.now.tasks.items ≡ f k = ap (λ l. l.tasks.items) c.index_mut.ensures.value ∙ cast-there lists k c.index_mut.result.now stored ∙ c.loop-index.invariant.written k ∙ cast-before b k f in
    record {
      written = cast-more b k f lists c.push.new.self stored c.loop-index.invariant.written (c.push.ensures ∙ ap (λ l. l ++ (b.first + k) ∷ []) was);
      room = room-left lists k b.workers c.push.new.self stored c.loop-index.invariant.room;
    }
