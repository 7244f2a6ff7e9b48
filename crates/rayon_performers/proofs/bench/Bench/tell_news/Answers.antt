use Rattle.std.proofs.Common.{refl, subst}
use Rattle.rayon_machine_places.specs.declared.place.Move.{Move}
use Rattle.rayon_machine_places.specs.declared.place.Move.TheVariants.{Stay, StartRun}
use Rattle.rayon_machine_places.specs.declared.place.Party.TheVariants.{Worker}
use Rattle.rayon_machine_places.specs.declared.place.Place.TheVariants as at
use Rattle.rayon_machine_places.specs.declared.place.Then.TheVariants.{RunFirst}
use Rattle.rayon_machine_places.specs.Places.{walk}
use Rattle.rayon_machine_places.specs.declared.act.Seen.TheVariants.{Wakes}
use Rattle.rayon_performers.specs.Calls.{own_call, own_join}
use Rattle.rayon_performers.proofs.Offers.{no_walk}
use Rattle.rayon_performers.proofs.Stretches.{So, first_act}
use Rattle.rayon_performers.proofs.Drives.{then_at}
use Rattle.rayon_performers.proofs.bench.Bench.tell_news.Goals as goal

pub returns-then-owed-gt0-clause-path : goal.returns-then-owed-gt0-clause-path
returns-then-owed-gt0-clause-path g c =
    let h = c.args.self.now.shape in
    let i = c.args.self.now.index in
    let n = c.args.name in
    let first = Stay (at.TellNews (own_join n) c.args.was_empty) in
    let s = c.args.self.now in
    then_at first (λ k j. walk k (Worker 0 j) 0 c.news-owed.result 0 (RunFirst (own_call n) n)) (StartRun (at.FirstSide (own_call n) n) n) s c.news-owed.new.self c.wake_for_join.new.self
    (first_act h i first s c.news-owed.new.self (Wakes c.news-owed.result) refl c.news-owed.ensures.does c.news-owed.ensures.adds) c.wake_for_join.ensures.path

pub returns-else-owed-gt0-clause-path : goal.returns-else-owed-gt0-clause-path
returns-else-owed-gt0-clause-path g c =
    let h = c.args.self.now.shape in
    let i = c.args.self.now.index in
    let n = c.args.name in
    subst (λ (m : Move). So h i (Stay (at.TellNews (own_join n) c.args.was_empty)) c.args.self.now m c.news-owed.new.self)
    (no_walk h (Worker 0 i) 0 c.news-owed.result 0 (RunFirst (own_call n) n) c.if-owed-gt0.false)
    (first_act h i (Stay (at.TellNews (own_join n) c.args.was_empty)) c.args.self.now c.news-owed.new.self (Wakes c.news-owed.result) refl c.news-owed.ensures.does c.news-owed.ensures.adds)
