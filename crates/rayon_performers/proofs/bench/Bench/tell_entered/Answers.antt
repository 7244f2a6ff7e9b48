use Rattle.std.proofs.Common.{refl, subst}
use Rattle.rayon_machine_places.specs.declared.place.Entry.{Entry}
use Rattle.rayon_machine_places.specs.declared.place.Move.{Move}
use Rattle.rayon_machine_places.specs.declared.place.Move.TheVariants.{Back, Stay}
use Rattle.rayon_machine_places.specs.declared.place.Party.TheVariants.{Worker}
use Rattle.rayon_machine_places.specs.declared.place.Place.TheVariants as at
use Rattle.rayon_performers.specs.Scopes.{entering}
use Rattle.rayon_machine_places.specs.declared.place.Then.TheVariants.{Resume}
use Rattle.rayon_machine_places.specs.Places.{walk}
use Rattle.rayon_machine_places.specs.declared.act.Seen.TheVariants.{Wakes}
use Rattle.rayon_performers.proofs.Offers.{no_walk}
use Rattle.rayon_performers.proofs.Stretches.{So, and_then, first_act}
use Rattle.rayon_performers.proofs.bench.Bench.tell_entered.Goals as goal

pub returns-then-owed-gt0-clause-path : goal.returns-then-owed-gt0-clause-path
returns-then-owed-gt0-clause-path g c =
    let h = c.args.self.now.shape in
    let i = c.args.self.now.index in
    let first = Stay (at.TellNews (entering c.args.call c.args.owner c.args.name) c.args.was_empty) in
    let s = c.args.self.now in
    let t = c.news-owed.new.self in
    and_then h i first s (walk h (Worker 0 i) 0 c.news-owed.result 0 Resume) Back t c.finish_from.new.self
    (first_act h i first s t (Wakes c.news-owed.result) refl c.news-owed.ensures.does c.news-owed.ensures.adds)
    (subst (λ (e : Entry). So h i (walk h (Worker 0 i) e.pool c.news-owed.result 0 Resume) t Back c.finish_from.new.self) c.entry_of.ensures
    (subst (λ v. So v.shape v.index (walk v.shape (Worker 0 v.index) c.entry_of.result.pool c.news-owed.result 0 Resume) t Back c.finish_from.new.self) c.self.view_is c.finish_from.ensures.path))

pub returns-else-owed-gt0-clause-path : goal.returns-else-owed-gt0-clause-path
returns-else-owed-gt0-clause-path g c =
    let h = c.args.self.now.shape in
    let i = c.args.self.now.index in
    let s = c.args.self.now in
    let t = c.news-owed.new.self in
    subst (λ (m : Move). So h i (Stay (at.TellNews (entering c.args.call c.args.owner c.args.name) c.args.was_empty)) s m t)
    (no_walk h (Worker 0 i) 0 c.news-owed.result 0 Resume c.if-owed-gt0.false)
    (first_act h i (Stay (at.TellNews (entering c.args.call c.args.owner c.args.name) c.args.was_empty)) s t (Wakes c.news-owed.result) refl c.news-owed.ensures.does c.news-owed.ensures.adds)
