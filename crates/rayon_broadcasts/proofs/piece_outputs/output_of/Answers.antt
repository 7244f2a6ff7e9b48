use Rattle.std.proofs.Common.{sym, ◌∙◌, true≢false, Ok, Err}
use Rattle.rayon_broadcasts.proofs.Books.{answered}
use Rattle.rayon_broadcasts.proofs.piece_outputs.output_of.Goals as goal

pub returns-then-not-is_of : goal.returns-then-not-is_of
returns-then-not-is_of g c =
    λ h. true≢false (sym (c.is_of.ensures.1 h) ∙ c.if-not-is_of.true)

pub returns-in-Ok : goal.returns-in-Ok
returns-in-Ok g c =
    let k = g.J.JobKind in
    let of = c.is_of.ensures.0 c.if-not-is_of.false in
    let is = sym c.into_result.ensures.same ∙ c.in-Ok.is in
    answered g.J.Tag.PartialEq.eq k.answers (k.answers_on k.answers) g.met.J.JobKind.same_answers c.args.tag.now c.args.workers c.args.index c.args.run (Ok c.in-Ok.output) of is c.into_result.ensures.within

pub returns-in-Err : goal.returns-in-Err
returns-in-Err g c =
    let k = g.J.JobKind in
    let of = c.is_of.ensures.0 c.if-not-is_of.false in
    let is = sym c.into_result.ensures.same ∙ c.in-Err.is in
    answered g.J.Tag.PartialEq.eq k.answers (k.answers_on k.answers) g.met.J.JobKind.same_answers c.args.tag.now c.args.workers c.args.index c.args.run (Err c.in-Err.fault) of is c.into_result.ensures.within
