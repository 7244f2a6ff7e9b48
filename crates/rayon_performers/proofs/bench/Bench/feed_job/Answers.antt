use Rattle.std.proofs.Common.{ap, refl, rules, subst, sym, ◌+◌, ◌==◌, ◌∙◌, ◌≡◌}
use Rattle.rayon_atomics.specs.declared.views.Teller.{Teller}
use Rattle.rayon_machine_places.specs.declared.place.Count.TheVariants.{OfPool}
use Rattle.rayon_machine_places.specs.declared.place.Feeding.{Feeding}
use Rattle.rayon_machine_places.specs.declared.place.Share.TheVariants.{OfJob}
use Rattle.rayon_machine_places.specs.declared.place.Then.TheVariants.{GiveBack}
use Rattle.rayon_machine_places.specs.declared.place.Move.TheVariants.{Stay, Back, HandBack}
use Rattle.rayon_machine_places.specs.declared.place.Place.TheVariants as at
use Rattle.rayon_machine_places.specs.declared.place.Plan.TheVariants.{Feed}
use Rattle.rayon_machine_places.specs.Places.{undo}
use Rattle.rayon_machine_places.specs.declared.act.Seen.TheVariants.{Done, Refused}
use Rattle.rayon_performers.specs.Fifos.{feeding}
use Rattle.rayon_shared.specs.Marks.{TakesUnit}
use Rattle.rayon_performers.proofs.Recounts.{gave_back_at, missed_none}
use Rattle.rayon_performers.proofs.Stretches.{So, first_act}
use Rattle.rayon_performers.proofs.Drives.{then_goes}
use Rattle.rayon_performers.proofs.bench.Bench.feed_job.Goals as goal

pub returns-in-Err-clause-path : goal.returns-in-Err-clause-path
returns-in-Err-clause-path g c =
    let s = c.args.self.now in
    first_act s.shape s.index (Stay (at.RaiseCount (Feed (feeding c.args.name c.args.share.number)))) s c.raise.new.self Refused refl c.in-Err.ensures.does c.in-Err.ensures.adds

pub returns-in-Err-clause-unit : goal.returns-in-Err-clause-unit
returns-in-Err-clause-unit g c = missed_none (c.args.self.now.holds == 0) c.args.self.now.marks.count c.raise.new.self.marks.count c.in-Err.ensures.does.1

pub returns-in-Ok-clause-path : goal.returns-in-Ok-clause-path
returns-in-Ok-clause-path g c =
    let a = c.args.self.now in
    let n = c.args.name in
    let k = c.args.share.number in
    let u = c.raise.new.self in
    let w = c.feed.new.self in
    let first = Stay (at.RaiseCount (Feed (feeding n k))) in
    let adds = Stay (at.AddToFifo (feeding n k)) in
    then_goes first adds Back a u w (first_act a.shape a.index first a u Done refl c.in_default.ensures.does c.in_default.ensures.adds) c.in-Ok.ensures.path

pub returns-in-Err-feed-clause-path : goal.returns-in-Err-feed-clause-path
returns-in-Err-feed-clause-path g c =
    let a = c.args.self.now in
    let n = c.args.name in
    let k = c.args.share.number in
    let u = c.raise.new.self in
    let w = c.feed.new.self in
    let x = c.lower_then.new.self in
    let first = Stay (at.RaiseCount (Feed (feeding n k))) in
    let adds = Stay (at.AddToFifo (feeding n k)) in
    let undone = Stay (undo (Feed (feeding n k))) in
    let back = HandBack (Feed (feeding n k)) in
    let lowers = subst (λ (f : Feeding). So w.shape w.index (Stay (at.LowerCount (OfPool 0) (OfJob n) (GiveBack (Feed f)))) w (HandBack (Feed f)) x) (c.feeding_of.ensures ∙ ap (λ m. feeding n m) c.number-token.ensures) c.lower_then.ensures.path in
    then_goes first undone back a w x
    (then_goes first adds undone a u w (first_act a.shape a.index first a u Done refl c.in_default.ensures.does c.in_default.ensures.adds) c.in-Err-feed.ensures.path)
    lowers

pub returns-in-Ok-clause-unit : goal.returns-in-Ok-clause-unit
returns-in-Ok-clause-unit g c =
    let a = c.args.self.now in
    subst (λ (q : Teller). TakesUnit (a.holds == 0) a.marks.count q) (sym c.feed.ensures.count) c.in_default.ensures.does.1

pub returns-in-Err-feed-clause-unit : goal.returns-in-Err-feed-clause-unit
returns-in-Err-feed-clause-unit g c =
    let a = c.args.self.now in
    let u = c.raise.new.self in
    let w = c.feed.new.self in
    let held : w.holds ≡ a.holds + 1 = search rules in
    gave_back_at a u w c.lower_then.new.self.marks.count c.in_default.ensures.does.1 held c.feed.ensures.count c.lower_then.ensures.unit
