use Rattle.std.proofs.Common.{◌≡◌, false, not, sym, ◌∙◌, subst, ap}
use Rattle.rayon_machine_places.specs.declared.act.Act.{Act as AnyAct}
use Rattle.rayon_machine_places.specs.declared.place.Move.{Move as AnyMove}
use Rattle.rayon_machine_places.specs.declared.place.Move.TheVariants.{Stay}
use Rattle.rayon_machine_places.specs.Places.{is_rest, next_of}
use Rattle.rayon_drive.specs.Paths.{Driven}
use Rattle.rayon_drive.specs.Traces.{Adds}
use Rattle.rayon_drive.proofs.Paths.{goes_on}
use Rattle.rayon_drive.proofs.drive.walk.Goals as goal

pub loop-preserved-then-step : goal.loop-preserved-then-step
loop-preserved-then-step g c =
    let P = g.P.Perform.performed in
    let t = c.loop.performer in
    let u = c.perform-seen.new.self in
    let seen = c.perform-seen.result in
    let acts : is_rest c.loop.place ≡ false = sym c.rests.ensures.rest ∙ c.if-rests.false in
    let step = subst (λ (a : AnyAct). P t a seen u) c.act.ensures c.perform-seen.ensures.performed in
    let adds = subst (λ (a : AnyAct). Adds a seen (g.P.Perform.trace t) (g.P.Perform.trace u)) c.act.ensures c.perform-seen.ensures.adds in
    let on = goes_on P g.P.Perform.trace c.args.shape c.args.party (Stay c.args.place) c.args.performer.now t (Stay c.loop.place) seen u c.loop.invariant.2 (ap not acts) step adds in
    let stands = g.met.P.Perform.keeps t u c.args.shape c.args.party c.loop.place seen acts c.loop.invariant.3 step in
    let e = sym (c.step.ensures.stays c.if-step.true) in
    (tt, tt, subst (λ (m : AnyMove). Driven P g.P.Perform.trace c.args.shape c.args.party (Stay c.args.place) c.args.performer.now u m) e on, subst (λ (m : AnyMove). g.P.Perform.stands u c.args.party m) e stands)

pub loop-preserved : goal.loop-preserved
loop-preserved g c =
    let P = g.P.Perform.performed in
    let t = c.loop.performer in
    let u = c.perform-seen.new.self in
    let seen = c.perform-seen.result in
    let acts : is_rest c.loop.place ≡ false = sym c.rests.ensures.rest ∙ c.if-rests.false in
    let step = subst (λ (a : AnyAct). P t a seen u) c.act.ensures c.perform-seen.ensures.performed in
    let adds = subst (λ (a : AnyAct). Adds a seen (g.P.Perform.trace t) (g.P.Perform.trace u)) c.act.ensures c.perform-seen.ensures.adds in
    let on = goes_on P g.P.Perform.trace c.args.shape c.args.party (Stay c.args.place) c.args.performer.now t (Stay c.loop.place) seen u c.loop.invariant.2 (ap not acts) step adds in
    let stands = g.met.P.Perform.keeps t u c.args.shape c.args.party c.loop.place seen acts c.loop.invariant.3 step in
    let e = ap (λ y. next_of c.args.shape c.args.party y seen) (sym (c.step.ensures.left c.if-step.false)) ∙ sym c.next-in-loop.ensures ∙ c.in-Stay.is in
    (tt, tt, subst (λ (m : AnyMove). Driven P g.P.Perform.trace c.args.shape c.args.party (Stay c.args.place) c.args.performer.now u m) e on, subst (λ (m : AnyMove). g.P.Perform.stands u c.args.party m) e stands)

pub returns-in_default : goal.returns-in_default
returns-in_default g c =
    let P = g.P.Perform.performed in
    let t = c.loop.performer in
    let u = c.perform-seen.new.self in
    let seen = c.perform-seen.result in
    let acts : is_rest c.loop.place ≡ false = sym c.rests.ensures.rest ∙ c.if-rests.false in
    let step = subst (λ (a : AnyAct). P t a seen u) c.act.ensures c.perform-seen.ensures.performed in
    let adds = subst (λ (a : AnyAct). Adds a seen (g.P.Perform.trace t) (g.P.Perform.trace u)) c.act.ensures c.perform-seen.ensures.adds in
    let on = goes_on P g.P.Perform.trace c.args.shape c.args.party (Stay c.args.place) c.args.performer.now t (Stay c.loop.place) seen u c.loop.invariant.2 (ap not acts) step adds in
    let stands = g.met.P.Perform.keeps t u c.args.shape c.args.party c.loop.place seen acts c.loop.invariant.3 step in
    let e = ap (λ y. next_of c.args.shape c.args.party y seen) (sym (c.step.ensures.left c.if-step.false)) ∙ sym c.next-in-loop.ensures in
    record {
      path = subst (λ (m : AnyMove). Driven P g.P.Perform.trace c.args.shape c.args.party (Stay c.args.place) c.args.performer.now u m) e on;
      stands = subst (λ (m : AnyMove). g.P.Perform.stands u c.args.party m) e stands;
      stops = λ p is. absurd (c.in_default.not-Stay p is);
    }
