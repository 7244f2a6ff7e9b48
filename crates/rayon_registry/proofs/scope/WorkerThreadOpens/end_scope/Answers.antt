use Rattle.std.proofs.Common.{◌≡◌, rules, subst}
use Rattle.rayon_books.specs.Receipts.{MetBy}
use Rattle.rayon_machine_places.specs.declared.place.Ending.{Ending}
use Rattle.rayon_machine_places.specs.declared.place.Move.TheVariants.{Back, Stay}
use Rattle.rayon_machine_places.specs.declared.place.Party.TheVariants.{Worker}
use Rattle.rayon_machine_places.specs.declared.place.Place.TheVariants.{ScopeBody}
use Rattle.rayon_machine_places.specs.Places.{goes_on}
use Rattle.rayon_performers.specs.Calls.{own_call}
use Rattle.rayon_registry.specs.Acts.{ScopeLeft}
use Rattle.rayon_registry.proofs.Made.{worked_as}
use Rattle.rayon_registry.proofs.scope.WorkerThreadOpens.end_scope.Goals as goal

pub returns-clause-path : goal.returns-clause-path
returns-clause-path g c =
    let s = c.take_back.new.self in
    let w = c.finish-outputs.new.self in
    let n = c.args.opened.opening in
    let index : s.id.index ≡ w.id.index = search rules in
    let shape : s.shape ≡ w.shape = search rules in
    let left = worked_as s.shape w.shape s.id.index w.id.index (Stay (goes_on (ScopeBody (own_call n)) c.ending_if.result)) s.acts w.acts Back index shape c.finish-outputs.ensures.path in
    (s.acts, c.take_back.ensures.run, subst (λ (e : Ending). ScopeLeft w.shape (Worker 0 w.id.index) n e s.acts w.acts) c.ending_if.ensures left)

pub returns-clause-foreign : goal.returns-clause-foreign
returns-clause-foreign g c e =
    let m = c.compared.ensures.foreign e in
    (m.0, subst (λ v. MetBy g.J.Tag.PartialEq.eq m.0.items v.receipts → ⊥) c.scope.view_is (subst (λ l. MetBy g.J.Tag.PartialEq.eq m.0.items l → ⊥) c.deref.ensures.value m.2))
