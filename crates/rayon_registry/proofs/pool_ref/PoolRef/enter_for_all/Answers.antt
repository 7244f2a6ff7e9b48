use Rattle.std.proofs.Common.{rules, ◌≡◌, ◌≤◌, ◌+◌, IfOk, subst}
use Rattle.rayon_registry.proofs.pool_ref.PoolRef.enter_for_all.Goals as goal

pub returns-clause-numbers : goal.returns-clause-numbers
returns-clause-numbers g c =
    let all : c.new-guest.result.shape.workers ≡ c.args.self.now.workers = search rules in
    subst (λ z. IfOk c.enter_for_all.result (λ r. r.0 + z ≤ 18446744073709551616)) all c.enter_for_all.ensures.numbers
