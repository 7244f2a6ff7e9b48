use Rattle.std.proofs.Common.{◌≡◌, ◌<◌, ◌≤◌, length, inr, arith}
use Rattle.std.proofs.lemmas.Result.{err_from_is_err_and}
use Rattle.rayon_broadcasts.proofs.Books.{allowed, fault_allowed, fine_below, lacks}
use Rattle.rayon_broadcasts.proofs.piece_outputs.outputs_of.Goals as goal

pub returns-in_err-outputs-clause-given : goal.returns-in_err-outputs-clause-given
returns-in_err-outputs-clause-given g c =
    let k = g.J.JobKind in
    let runs = c.args.runs.items in
    let p = err_from_is_err_and c.from_residual.result c.from_residual.ensures.1 in
    let few : length runs ≤ c.args.workers = omega (arith, c.if-number-workers.false, c.len-number.ensures, c.args.runs.ok.0) in
    rw (p.1, p.2) (lacks g.J.Tag.PartialEq.eq (k.answers_on k.answers c.args.tag.now) c.args.tag.now c.args.workers runs c.in_err-outputs.field-0.0 few c.in_err-outputs.ensures)

pub returns-in_err-outputs-clause-fault : goal.returns-in_err-outputs-clause-fault
returns-in_err-outputs-clause-fault g c =
    let k = g.J.JobKind in
    let runs = c.args.runs.items in
    let p = err_from_is_err_and c.from_residual.result c.from_residual.ensures.1 in
    let few : length runs ≤ c.args.workers = omega (arith, c.if-number-workers.false, c.len-number.ensures, c.args.runs.ok.0) in
    rw (p.1, p.2) (fault_allowed g.J.Tag.PartialEq.eq (k.answers_on k.answers c.args.tag.now) c.args.tag.now c.args.workers runs c.in_err-outputs.field-0.0
    (lacks g.J.Tag.PartialEq.eq (k.answers_on k.answers c.args.tag.now) c.args.tag.now c.args.workers runs c.in_err-outputs.field-0.0 few c.in_err-outputs.ensures))

pub returns-then-number-workers-2-clause-allowed : goal.returns-then-number-workers-2-clause-allowed
returns-then-number-workers-2-clause-allowed g c =
    let k = g.J.JobKind in
    allowed g.J.Tag.PartialEq.eq (k.answers_on k.answers c.args.tag.now) c.args.tag.now c.args.workers c.args.runs.items c.in_ok-outputs.outputs.items c.in_ok-outputs.ensures

pub returns-else-number-workers-2-clause-given : goal.returns-else-number-workers-2-clause-given
returns-else-number-workers-2-clause-given g c =
    let k = g.J.JobKind in
    let runs = c.args.runs.items in
    let fewer : length runs < c.args.workers = omega (arith, c.if-number-workers.false, c.if-number-workers-2.false, c.len-number.ensures, c.args.runs.ok.0) in
    inr (fewer, fine_below g.J.Tag.PartialEq.eq (k.answers_on k.answers c.args.tag.now) c.args.tag.now c.args.workers runs c.in_ok-outputs.outputs.items (length runs) c.in_ok-outputs.ensures.0 c.in_ok-outputs.ensures.1)
