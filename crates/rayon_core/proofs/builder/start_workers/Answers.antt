use Rattle.std.proofs.Common.{◌≡◌, ◌+◌, ◌∷◌, drop, is_some, map, rules, sym, ◌∙◌}
use Rattle.std.proofs.Math.Numerals.{suc-eq-add-one}
use Rattle.std.proofs.lemmas.List.Elements.{All-push}
use Rattle.rayon_core.proofs.Threads.{next_of_row, took_more}
use Rattle.rayon_core.proofs.builder.start_workers.Goals as goal

pub start_named-requires-clause-own : goal.start_named-requires-clause-own
start_named-requires-clause-own g c κs within =
    let all = c.args.pool.now.deques in
    let rest = map (λ d. d.id) c.next.new.self.iter.rest.items in
    let index : c.in-Some.index ≡ c.loop-index.index-iterator.count = search rules in
    let row : drop c.loop-index.index-iterator.count all ≡ c.in-Some.deque.id ∷ rest = search rules in
    rw (sym index) at (next_of_row all c.loop-index.index-iterator.count c.in-Some.deque.id rest row).0

pub loop-index-preserved : goal.loop-index-preserved
loop-index-preserved g c =
    let all = c.args.pool.now.deques in
    let rest = map (λ d. d.id) c.next.new.self.iter.rest.items in
    let row : drop c.loop-index.index-iterator.count all ≡ c.in-Some.deque.id ∷ rest = search rules in
    let one : c.next.new.self.count ≡ c.loop-index.index-iterator.count + 1 = search rules in
    let more = one ∙ sym (suc-eq-add-one c.loop-index.index-iterator.count) in
    let others = rw (sym more) at (next_of_row all c.loop-index.index-iterator.count c.in-Some.deque.id rest row).1 in
    let handles = All-push (λ h. is_some h ≡ g.S.ThreadSpawn.hands_back) c.loop-index.workers.items c.in-Ok.worker (search rules) (search rules) in
    let took = took_more g.N.ThreadNames.named g.S.ThreadSpawn.took c.args.pool.now c.args.stack_size (c.args.names.now, c.args.spawn.now) (c.loop-index.names, c.loop-index.spawn) (c.start_named.new.names, c.start_named.new.spawn) c.loop-index.index-iterator.count c.in-Some.index c.next.new.self.count (search rules) (search rules) (search rules) (search rules) in
    (search rules, search rules, search rules, search rules, rw c.in_default.ensures.items handles, search rules, sym others, took, search rules)
