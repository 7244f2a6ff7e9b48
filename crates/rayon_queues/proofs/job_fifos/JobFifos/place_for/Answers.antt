use Rattle.std.proofs.Common.{◌≡◌, ◌∷◌, ◌++◌, [], length, slice_get, Some, inr, refl, ap, sym, ◌∙◌, subst}
use Rattle.std.proofs.lemmas.Option.{get_or_from_slice_get}
use Rattle.rayon_queues.specs.Lists.{Distinct, Lacks, SameLists}
use Rattle.rayon_queues.proofs.Lists.{lists, list, at_set, at_end, grown, distinct_set, distinct_more, renamed, one_more}
use Rattle.rayon_queues.proofs.job_fifos.JobFifos.place_for.Goals as goal

pub invariant_of-self : goal.invariant_of-self
invariant_of-self g c =
    let lacks = subst (λ v. Lacks v c.args.scope) c.deref.ensures.value c.in_default.ensures in
    let p = c.in-Some-empty_place.ensures in
    let at = subst (λ v. slice_get v c.in-Some-empty_place.index ≡ Some p.0) c.deref-2.ensures.value p.1 in
    distinct_set _ _ _ _ c.self.invariant at (inr (p.2, lacks))

pub returns-in-Some-empty_place-clause-same : goal.returns-in-Some-empty_place-clause-same
returns-in-Some-empty_place-clause-same g c =
    let lacks = subst (λ v. Lacks v c.args.scope) c.deref.ensures.value c.in_default.ensures in
    let p = c.in-Some-empty_place.ensures in
    let at = subst (λ v. slice_get v c.in-Some-empty_place.index ≡ Some p.0) c.deref-2.ensures.value p.1 in
    let still = ap (λ z. z.jobs) (c.behind-self.view_is ∙ c.index_mut.ensures.value ∙ get_or_from_slice_get c.self.inside.scoped.items c.in-Some-empty_place.index p.0 c.index_mut.result.now at) ∙ p.2 in
    renamed _ c.self.inside.detached _ _ p.0 _ _ c.self.view_is c.self.invariant at p.2 still lacks

pub returns-in-Some-empty_place-clause-place : goal.returns-in-Some-empty_place-clause-place
returns-in-Some-empty_place-clause-place g c =
    let p = c.in-Some-empty_place.ensures in
    let at = subst (λ v. slice_get v c.in-Some-empty_place.index ≡ Some p.0) c.deref-2.ensures.value p.1 in
    (list c.args.scope c.behind-self.inside.jobs, at_set c.self.inside.scoped.items c.in-Some-empty_place.index p.0 (list c.args.scope c.behind-self.inside.jobs) at, refl)

pub invariant_of-self-2 : goal.invariant_of-self-2
invariant_of-self-2 g c =
    let lacks = subst (λ v. Lacks v c.args.scope) c.deref.ensures.value c.in_default.ensures in
    let more = grown c.self.inside.scoped.items _ _ c.args.scope _ c.reserve.ensures.items c.push_reserved.ensures.items c.new.ensures in
    subst (λ v. Distinct v) (sym more) (distinct_more c.self.inside.scoped.items (list c.args.scope []) c.self.invariant lacks)

pub returns-clause-same : goal.returns-clause-same
returns-clause-same g c =
    let more = grown c.self.inside.scoped.items _ _ c.args.scope _ c.reserve.ensures.items c.push_reserved.ensures.items c.new.ensures in
    subst (λ v. SameLists c.args.self.now (lists c.self.inside.detached v)) (sym more) (one_more c.args.self.now c.self.inside.detached c.self.inside.scoped.items c.args.scope c.self.view_is)

pub returns-clause-place : goal.returns-clause-place
returns-clause-place g c =
    let more = grown c.self.inside.scoped.items _ _ c.args.scope _ c.reserve.ensures.items c.push_reserved.ensures.items c.new.ensures in
    let new = list c.args.scope [] in
    let count : c.len-index.result ≡ length c.self.inside.scoped.items = c.len-index.ensures ∙ c.reserve.ensures.len ∙ sym c.deref.ensures.len ∙ ap length c.deref.ensures.value in
    (new, subst (λ v. slice_get v c.len-index.result ≡ Some new) (sym more) (subst (λ i. slice_get (c.self.inside.scoped.items ++ new ∷ []) i ≡ Some new) (sym count) (at_end c.self.inside.scoped.items new)), refl)
