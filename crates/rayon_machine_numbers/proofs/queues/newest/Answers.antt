use Rattle.std.proofs.Common.{arith, ap, ◌∙◌, ◌≡◌, ◌<◌, ◌+◌, ◌-◌, ℕ, length}
use Rattle.std.proofs.lemmas.Grind.{common_steps}
use Rattle.std.specs.Prelude.{Some, Option}
use Rattle.std.specs.VecDeque.{deque_len}
use Rattle.rayon_machine_numbers.proofs.Ends.{last-at}
use Rattle.rayon_machine_numbers.proofs.queues.newest.Goals as goal

pub returns-in-Some : goal.returns-in-Some
returns-in-Some c =
    let queue = c.args.queue.now in
    let filled : 0 < deque_len queue = search (arith, c.in-Some.ensures.variant) in
    let same : deque_len queue ≡ length queue.items = grind (arith, common_steps) in
    let last : (deque_len queue - 1) + 1 ≡ length queue.items = omega arith in
    let to_some : ℕ → Option ℕ = λ n. Some n in
    ap to_some c.in-Some.ensures.lookup ∙ last-at queue.items (deque_len queue - 1) c.in-Some.task.now last
