use Rattle.std.proofs.Common.{inl, refl, sym, subst}
use Rattle.rayon_queues.proofs.Lists.{IsPlace, distinct_set, found, changed, pushed}
use Rattle.rayon_queues.proofs.job_fifos.JobFifos.push.Goals as goal

pub invariant_of-self-2 : goal.invariant_of-self-2
invariant_of-self-2 g c =
    let place : IsPlace c.self-2.inside.scoped.items c.in-Some-place_for.index c.in-Some.number = subst (λ k. IsPlace k.scoped c.in-Some-place_for.index c.in-Some.number) (sym c.self-2.view_is) c.in-Some-place_for.ensures.place in
    distinct_set _ _ _ _ c.self-2.invariant (found c.self-2.inside.scoped.items c.in-Some-place_for.index c.args.scope _ _ _ _ place c.index_mut.ensures.value c.behind-self.view_is c.in-Some.is).0 (inl refl)

pub returns : goal.returns
returns g c =
    let place : IsPlace c.self-2.inside.scoped.items c.in-Some-place_for.index c.in-Some.number = subst (λ k. IsPlace k.scoped c.in-Some-place_for.index c.in-Some.number) (sym c.self-2.view_is) c.in-Some-place_for.ensures.place in
    let at = found c.self-2.inside.scoped.items c.in-Some-place_for.index c.args.scope _ _ _ _ place c.index_mut.ensures.value c.behind-self.view_is c.in-Some.is in
    pushed _ _ _ _ c.behind-self.inside.jobs c.push-2.new.self _ _ c.place_for.ensures.same (changed _ _ c.self-2.inside.detached _ _ _ _ _ c.self-2.view_is at c.self-2.invariant) c.push-2.ensures
