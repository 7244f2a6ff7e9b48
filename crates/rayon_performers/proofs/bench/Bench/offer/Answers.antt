use Rattle.std.proofs.Common.{◌≡◌, ◌+◌, ◌==◌, refl, rules, subst, sym}
use Rattle.rayon_atomics.specs.declared.views.Teller.{Teller}
use Rattle.rayon_machine_places.specs.declared.place.Move.TheVariants.{Stay, StartRun, HandBack}
use Rattle.rayon_machine_places.specs.declared.place.Place.TheVariants as at
use Rattle.rayon_machine_places.specs.declared.act.Seen.TheVariants.{Done, Refused}
use Rattle.rayon_machine_places.specs.Places.{undo}
use Rattle.rayon_performers.specs.Calls.{own_call, own_join}
use Rattle.rayon_shared.specs.Marks.{TakesUnit}
use Rattle.rayon_performers.proofs.Offers.{join_looked}
use Rattle.rayon_performers.proofs.Recounts.{gave_back_at, missed_none}
use Rattle.rayon_performers.proofs.Stretches.{by_act, first_act}
use Rattle.rayon_performers.proofs.Drives.{then_goes}
use Rattle.rayon_performers.proofs.bench.Bench.offer.Goals as goal

pub returns-in-Err-clause-path : goal.returns-in-Err-clause-path
returns-in-Err-clause-path g c =
    let h = c.args.self.now.shape in
    let i = c.args.self.now.index in
    let n = c.args.name in
    let first = Stay (at.RaiseCount (own_join n)) in
    let s = c.args.self.now in
    first_act h i first s c.raise.new.self Refused refl c.in-Err.ensures.does c.in-Err.ensures.adds

pub returns-in_default-grow-clause-path : goal.returns-in_default-grow-clause-path
returns-in_default-grow-clause-path g c =
    let h = c.args.self.now.shape in
    let i = c.args.self.now.index in
    let n = c.args.name in
    let first = Stay (at.RaiseCount (own_join n)) in
    let s = c.args.self.now in
    let t = c.raise.new.self in
    let raised = first_act h i first s t Done refl c.in_default.ensures.does c.in_default.ensures.adds in
    let u = c.grow.new.self in
    then_goes first (Stay (undo (own_join n))) (HandBack (own_join n)) s u c.give_join_back.new.self
    (by_act h i first s (Stay (at.GrowCall (own_join n))) t u Refused refl raised (c.in_default-grow.ensures.same, tt) c.in_default-grow.ensures.grown)
    c.give_join_back.ensures.path

pub returns-in-Err-push_own-clause-path : goal.returns-in-Err-push_own-clause-path
returns-in-Err-push_own-clause-path g c =
    let h = c.args.self.now.shape in
    let i = c.args.self.now.index in
    let n = c.args.name in
    let first = Stay (at.RaiseCount (own_join n)) in
    let s = c.args.self.now in
    let t = c.raise.new.self in
    let raised = first_act h i first s t Done refl c.in_default.ensures.does c.in_default.ensures.adds in
    let u = c.grow.new.self in
    let v = c.look_own-was_empty.new.self in
    let grown = by_act h i first s (Stay (at.GrowCall (own_join n))) t u Done refl raised (c.in-Some.ensures.same, tt) c.in-Some.ensures.grown.0 in
    let looked = join_looked h i n first s u v c.look_own-was_empty.result grown c.look_own-was_empty.ensures.does c.look_own-was_empty.ensures.adds in
    let w = c.push_own.new.self in
    then_goes first (Stay (undo (own_join n))) (HandBack (own_join n)) s w c.give_join_back-in-Err-push_own.new.self
    (by_act h i first s (Stay (at.PushJob (own_join n) c.look_own-was_empty.result)) v w Refused refl looked (c.in-Err-push_own.ensures.same.1, (c.in-Err-push_own.ensures.same.0, c.in-Err-push_own.ensures.pushed.1)) c.in-Err-push_own.ensures.pushed.2)
    c.give_join_back-in-Err-push_own.ensures.path

pub returns-clause-path : goal.returns-clause-path
returns-clause-path g c =
    let h = c.args.self.now.shape in
    let i = c.args.self.now.index in
    let n = c.args.name in
    let first = Stay (at.RaiseCount (own_join n)) in
    let s = c.args.self.now in
    let t = c.raise.new.self in
    let raised = first_act h i first s t Done refl c.in_default.ensures.does c.in_default.ensures.adds in
    let u = c.grow.new.self in
    let v = c.look_own-was_empty.new.self in
    let grown = by_act h i first s (Stay (at.GrowCall (own_join n))) t u Done refl raised (c.in-Some.ensures.same, tt) c.in-Some.ensures.grown.0 in
    let looked = join_looked h i n first s u v c.look_own-was_empty.result grown c.look_own-was_empty.ensures.does c.look_own-was_empty.ensures.adds in
    let w = c.push_own.new.self in
    then_goes first (Stay (at.TellNews (own_join n) c.look_own-was_empty.result)) (StartRun (at.FirstSide (own_call n) n) n) s w c.tell_news.new.self
    (by_act h i first s (Stay (at.PushJob (own_join n) c.look_own-was_empty.result)) v w Done refl looked (c.in_default-push_own.ensures.same.1, (c.task_of_job.result, c.in_default-push_own.ensures.pushed.0, c.in_default-push_own.ensures.same.0)) c.in_default-push_own.ensures.pushed.1)
    c.tell_news.ensures.path

pub returns-in-Err-clause-unit : goal.returns-in-Err-clause-unit
returns-in-Err-clause-unit g c = missed_none (c.args.self.now.holds == 0) c.args.self.now.marks.count c.raise.new.self.marks.count c.in-Err.ensures.does.1

pub returns-in_default-grow-clause-unit : goal.returns-in_default-grow-clause-unit
returns-in_default-grow-clause-unit g c =
    let s = c.args.self.now in
    let t = c.raise.new.self in
    let u = c.grow.new.self in
    let held : u.holds ≡ s.holds + 1 = search rules in
    let counted : u.marks.count ≡ t.marks.count = search rules in
    gave_back_at s t u c.give_join_back.new.self.marks.count c.in_default.ensures.does.1 held counted c.give_join_back.ensures.unit

pub returns-in-Err-push_own-clause-unit : goal.returns-in-Err-push_own-clause-unit
returns-in-Err-push_own-clause-unit g c =
    let s = c.args.self.now in
    let t = c.raise.new.self in
    let w = c.push_own.new.self in
    let held : w.holds ≡ s.holds + 1 = search rules in
    let counted : w.marks.count ≡ t.marks.count = search rules in
    gave_back_at s t w c.give_join_back-in-Err-push_own.new.self.marks.count c.in_default.ensures.does.1 held counted c.give_join_back-in-Err-push_own.ensures.unit

pub returns-clause-unit : goal.returns-clause-unit
returns-clause-unit g c =
    let s = c.args.self.now in
    let t = c.raise.new.self in
    let x = c.tell_news.new.self in
    let counted : x.marks.count ≡ t.marks.count = search rules in
    subst (λ (q : Teller). TakesUnit (s.holds == 0) s.marks.count q) (sym counted) c.in_default.ensures.does.1
