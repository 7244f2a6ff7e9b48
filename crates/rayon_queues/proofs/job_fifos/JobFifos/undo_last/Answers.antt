use Rattle.std.proofs.Common.{◌∷◌, ◌++◌, [], arith, inl, refl, subst}
use Rattle.std.proofs.lemmas.Option.{slice_get_within}
use Rattle.rayon_queues.specs.Lists.{Lacks}
use Rattle.rayon_queues.proofs.Lists.{IsPlace, distinct_set, found, changed, taken, none_taken, last_taken}
use Rattle.rayon_queues.proofs.job_fifos.JobFifos.undo_last.Goals as goal

pub returns-in_err-index-clause-taken : goal.returns-in_err-index-clause-taken
returns-in_err-index-clause-taken g c =
    none_taken (λ job rest. rest ++ job ∷ []) c.args.self.now c.args.scope c.in-Some.number c.self.inside.detached c.self.inside.scoped.items _ c.self.view_is c.in-Some.is (subst (λ v. Lacks v c.in-Some.number) c.deref.ensures.value c.in_err-index.ensures) c.from_residual.ensures

pub returns-in_err-index-clause-last : goal.returns-in_err-index-clause-last
returns-in_err-index-clause-last g c = last_taken _ _ _ _ (returns-in_err-index-clause-taken g c)

pub index_mut-requires : goal.index_mut-requires
index_mut-requires g c =
    let p = c.in_ok-index.ensures in
    omega (arith, slice_get_within c.deref.result.now c.in_ok-index.index p.0 p.1, c.deref.ensures.len)

pub invariant_of-self-2 : goal.invariant_of-self-2
invariant_of-self-2 g c =
    let place : IsPlace c.self.inside.scoped.items c.in_ok-index.index c.in-Some.number = subst (λ v. IsPlace v c.in_ok-index.index c.in-Some.number) c.deref.ensures.value c.in_ok-index.ensures in
    distinct_set _ _ _ _ c.self.invariant (found c.self.inside.scoped.items c.in_ok-index.index c.args.scope _ _ _ _ place c.index_mut.ensures.value c.behind-self.view_is c.in-Some.is).0 (inl refl)

pub returns-clause-taken : goal.returns-clause-taken
returns-clause-taken g c =
    let place : IsPlace c.self.inside.scoped.items c.in_ok-index.index c.in-Some.number = subst (λ v. IsPlace v c.in_ok-index.index c.in-Some.number) c.deref.ensures.value c.in_ok-index.ensures in
    let at = found c.self.inside.scoped.items c.in_ok-index.index c.args.scope _ _ _ _ place c.index_mut.ensures.value c.behind-self.view_is c.in-Some.is in
    taken (λ job rest. rest ++ job ∷ []) _ _ _ c.behind-self.inside.jobs c.undo_last-2.new.self _ (changed _ _ c.self.inside.detached _ _ _ _ _ c.self.view_is at c.self.invariant) c.undo_last-2.ensures.taken

pub returns-clause-last : goal.returns-clause-last
returns-clause-last g c = last_taken _ _ _ _ (returns-clause-taken g c)
