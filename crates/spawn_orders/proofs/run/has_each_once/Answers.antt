use Rattle.std.proofs.Common.{rules, subst, ◌≡◌}
use Rattle.std.proofs.lemmas.Bool.Decides.{Decides-int_eq}
use Rattle.std.proofs.lemmas.Slice.Eq.{slice_eq-Decides}
use Rattle.std.specs.List.Sorted.{IsPermutation}
use Rattle.spawn_orders.specs.Orders.{numbers_of}
use Rattle.spawn_orders.proofs.run.has_each_once.Goals as goal

pub returns : goal.returns
returns c same =
    let equal : c.as_slice.result.now ≡ c.numbers.result.now = (slice_eq-Decides Decides-int_eq _ _ _ c.eq.ensures).0 (search rules) in
    let sorted : c.sort_unstable.new.self.items ≡ numbers_of c.args.order = search (rules, equal) in
    let moved : IsPermutation c.in_ok-sorted.sorted.items c.sort_unstable.new.self.items = c.sort_unstable.ensures.permutation in
    let same : c.in_ok-sorted.sorted.items ≡ c.args.numbers.now = search rules in
    subst (λ ns. IsPermutation ns (numbers_of c.args.order)) same (subst (IsPermutation c.in_ok-sorted.sorted.items) sorted moved)
