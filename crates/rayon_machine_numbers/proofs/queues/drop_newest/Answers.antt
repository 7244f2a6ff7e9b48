use Rattle.std.proofs.Common.{arith, ap, ◌∙◌, ◌≡◌, ◌-◌, length, take}
use Rattle.std.proofs.lemmas.Grind.{common_steps}
use Rattle.std.specs.VecDeque.{deque_len}
use Rattle.rayon_machine_numbers.proofs.Ends.{but-last}
use Rattle.rayon_machine_numbers.proofs.queues.drop_newest.Goals as goal

pub returns : goal.returns
returns c =
    let queue = c.args.queue.now in
    let same : deque_len queue ≡ length queue.items = grind (arith, common_steps) in
    c.pop_back.ensures.rest ∙ ap (λ n. take (n - 1) queue.items) same ∙ but-last queue.items
