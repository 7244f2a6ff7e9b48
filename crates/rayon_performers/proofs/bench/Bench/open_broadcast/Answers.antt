use Rattle.std.proofs.Common.{refl, rules, subst, ◌+◌, ◌≡◌}
use Rattle.rayon_machine_places.specs.declared.act.Act.TheVariants as acts
use Rattle.rayon_machine_places.specs.declared.act.Seen.TheVariants.{Done, Refused}
use Rattle.rayon_machine_places.specs.declared.place.Count.TheVariants.{OfPool}
use Rattle.rayon_machine_places.specs.declared.place.Gathering.{Gathering}
use Rattle.rayon_machine_places.specs.declared.place.Move.TheVariants.{Stay, HandBack}
use Rattle.rayon_machine_places.specs.declared.place.Place.TheVariants as at
use Rattle.rayon_machine_places.specs.declared.place.Plan.TheVariants.{Gather}
use Rattle.rayon_machine_places.specs.declared.place.Share.TheVariants.{OfJob}
use Rattle.rayon_machine_places.specs.declared.place.Then.TheVariants.{GiveBack}
use Rattle.rayon_machine_places.specs.Places.{undo}
use Rattle.rayon_drive.specs.Traces.{Adds}
use Rattle.rayon_performers.specs.Broadcasts.{gathering}
use Rattle.rayon_performers.specs.Paths.{WorkerGoes}
use Rattle.rayon_performers.proofs.Recounts.{gave_back_at}
use Rattle.rayon_performers.proofs.Stretches.{by_act, first_act}
use Rattle.rayon_performers.proofs.Drives.{then_goes}
use Rattle.rayon_performers.proofs.bench.Bench.open_broadcast.Goals as goal

pub returns-in-Err-clause-path : goal.returns-in-Err-clause-path
returns-in-Err-clause-path g c =
    let s = c.args.self.now in
    let t = c.raise.new.self in
    first_act s.shape s.index (Stay (at.RaiseCount (Gather (gathering s.index c.args.name c.args.first s.shape.workers)))) s t Refused refl c.in-Err.ensures.does c.in-Err.ensures.adds

pub returns-in-Err-grow_broadcast-clause-path : goal.returns-in-Err-grow_broadcast-clause-path
returns-in-Err-grow_broadcast-clause-path g c =
    let s = c.args.self.now in
    let h = s.shape in
    let i = s.index in
    let n = c.args.name in
    let a = c.args.first in
    let t = c.raise.new.self in
    let u = c.grow_broadcast.new.self in
    let v = c.lower_then.new.self in
    let k = gathering i n a h.workers in
    let first = Stay (at.RaiseCount (Gather k)) in
    let undone = Stay (undo (Gather k)) in
    let back = HandBack (Gather k) in
    let lowers = subst (λ (z : Gathering). WorkerGoes (Stay (at.LowerCount (OfPool 0) (OfJob n) (GiveBack (Gather z)))) u v (HandBack (Gather z))) c.gathering-gathering.ensures c.lower_then.ensures.path in
    then_goes first undone back s u v
    (by_act h i first s (Stay (at.GrowCast k)) t u Refused refl (first_act h i first s t Done refl c.in_default.ensures.does c.in_default.ensures.adds) (c.in-Err-grow_broadcast.ensures.same, tt) c.in-Err-grow_broadcast.ensures.adds)
    lowers

pub returns-in-Ok-push_cast-clause-path : goal.returns-in-Ok-push_cast-clause-path
returns-in-Ok-push_cast-clause-path g c =
    let s = c.args.self.now in
    let h = s.shape in
    let i = s.index in
    let n = c.args.name in
    let a = c.args.first in
    let t = c.raise.new.self in
    let u = c.grow_broadcast.new.self in
    let v = c.push_cast.new.self in
    let k = gathering i n a h.workers in
    let first = Stay (at.RaiseCount (Gather k)) in
    let pushed = subst (λ (z : Gathering). Adds (acts.PushCast z.pieces) Done u.trace v.trace) c.gathering-gathering.ensures c.in-Ok-push_cast.ensures.adds in
    by_act h i first s (Stay (at.DealPieces k)) u v Done refl
    (by_act h i first s (Stay (at.GrowCast k)) t u Done refl (first_act h i first s t Done refl c.in_default.ensures.does c.in_default.ensures.adds) (c.in-Ok.ensures.same, tt) c.in-Ok.ensures.adds)
    (c.push_cast.ensures.same, tt) pushed

pub returns-in-Err-push_cast-clause-path : goal.returns-in-Err-push_cast-clause-path
returns-in-Err-push_cast-clause-path g c =
    let s = c.args.self.now in
    let h = s.shape in
    let i = s.index in
    let n = c.args.name in
    let a = c.args.first in
    let t = c.raise.new.self in
    let u = c.grow_broadcast.new.self in
    let v = c.push_cast.new.self in
    let w = c.lower_then-in-Err-push_cast.new.self in
    let k = gathering i n a h.workers in
    let first = Stay (at.RaiseCount (Gather k)) in
    let undone = Stay (undo (Gather k)) in
    let back = HandBack (Gather k) in
    let pushed = subst (λ (z : Gathering). Adds (acts.PushCast z.pieces) Refused u.trace v.trace) c.gathering-gathering.ensures c.in-Err-push_cast.ensures.adds in
    let lowers = subst (λ (z : Gathering). WorkerGoes (Stay (at.LowerCount (OfPool 0) (OfJob n) (GiveBack (Gather z)))) v w (HandBack (Gather z))) c.gathering-gathering.ensures c.lower_then-in-Err-push_cast.ensures.path in
    then_goes first undone back s v w
    (by_act h i first s (Stay (at.DealPieces k)) u v Refused refl
    (by_act h i first s (Stay (at.GrowCast k)) t u Done refl (first_act h i first s t Done refl c.in_default.ensures.does c.in_default.ensures.adds) (c.in-Ok.ensures.same, tt) c.in-Ok.ensures.adds)
    (c.push_cast.ensures.same, tt) pushed)
    lowers

pub returns-in-Err-push_cast-clause-unit : goal.returns-in-Err-push_cast-clause-unit
returns-in-Err-push_cast-clause-unit g c =
    let s = c.args.self.now in
    let t = c.raise.new.self in
    let v = c.push_cast.new.self in
    let held : v.holds ≡ s.holds + 1 = search rules in
    let counted : v.marks.count ≡ t.marks.count = search rules in
    gave_back_at s t v c.lower_then-in-Err-push_cast.new.self.marks.count c.in_default.ensures.does.1 held counted c.lower_then-in-Err-push_cast.ensures.unit
