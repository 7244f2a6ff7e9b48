use Rattle.std.proofs.Common.{◌≡◌, length, refl, arith}
use Rattle.std.proofs.lemmas.List.{length_push}
use Rattle.std.proofs.lemmas.Result.{err_from_is_err_and}
use Rattle.std.proofs.lemmas.Iterator.Adapters.{YieldsList-from_vec}
use Rattle.std.proofs.lemmas.Iterator.Consumers.{YieldsList-turn, YieldsList-end}
use Rattle.rayon_broadcasts.proofs.Books.{no_outputs, one_more, no_more}
use Rattle.rayon_broadcasts.proofs.piece_outputs.in_order.Goals as goal

pub loop-done-init : goal.loop-done-init
loop-done-init g c =
    let k = g.J.JobKind in
    let runs = c.args.runs.items in
    (grind arith, refl, no_outputs g.J.Tag.PartialEq.eq (k.answers_on k.answers c.args.tag.now) c.args.tag.now c.args.workers runs c.args.ready.items c.requires.empty)

pub returns-in_err-output : goal.returns-in_err-output
returns-in_err-output g c =
    let k = g.J.JobKind in
    let runs = c.args.runs.items in
    let l = c.loop-done in
    let t = YieldsList-turn (YieldsList-from_vec c.args.runs.items (cc) (cc)) l.yielded l.done-iterator l.yielded_by c.next.result c.next.new.self c.in-Some.done c.in-Some.is c.next.ensures.steps in
    let number : length l.ready.items ≡ length l.yielded = omega (arith, l.ready.ok.0, l.invariant.0) in
    let index : c.len-index.result ≡ length l.yielded = omega (arith, c.len-index.ensures, l.invariant.0) in
    let ready = l.ready.items in
    let p = err_from_is_err_and c.from_residual.result c.from_residual.ensures.1 in
    rw (p.1, p.2) (no_more g.J.Tag.PartialEq.eq (k.answers_on k.answers c.args.tag.now) c.args.tag.now c.args.workers runs ready (length l.yielded) c.len-index.result c.args.workers c.in-Some.done number index refl t.0 t.1 l.invariant.2 c.in_err-output.field-0.0 c.in_err-output.ensures)

pub push_reserved-requires : goal.push_reserved-requires
push_reserved-requires g c =
    let l = c.loop-done in
    let t = YieldsList-turn (YieldsList-from_vec c.args.runs.items (cc) (cc)) l.yielded l.done-iterator l.yielded_by c.next.result c.next.new.self c.in-Some.done c.in-Some.is c.next.ensures.steps in
    omega (arith, t.0, l.invariant.0, l.invariant.1, c.requires.room, c.args.runs.ok.0)

pub loop-done-preserved : goal.loop-done-preserved
loop-done-preserved g c =
    let k = g.J.JobKind in
    let runs = c.args.runs.items in
    let l = c.loop-done in
    let t = YieldsList-turn (YieldsList-from_vec c.args.runs.items (cc) (cc)) l.yielded l.done-iterator l.yielded_by c.next.result c.next.new.self c.in-Some.done c.in-Some.is c.next.ensures.steps in
    let number : length l.ready.items ≡ length l.yielded = omega (arith, l.ready.ok.0, l.invariant.0) in
    let index : c.len-index.result ≡ length l.yielded = omega (arith, c.len-index.ensures, l.invariant.0) in
    let ready = l.ready.items in
    let more = one_more g.J.Tag.PartialEq.eq (k.answers_on k.answers c.args.tag.now) c.args.tag.now c.args.workers runs ready (length l.yielded) c.len-index.result c.args.workers c.in-Some.done number index refl t.0 t.1 l.invariant.2 c.in_ok-output.output c.in_ok-output.ensures in
    (omega (arith, c.push_reserved.ensures.len, l.invariant.0, length_push l.yielded c.in-Some.done), omega (arith, c.push_reserved.ensures.capacity, l.invariant.1), rw c.push_reserved.ensures.items more)

pub returns : goal.returns
returns g c =
    let l = c.loop-done in
    let t = YieldsList-end (YieldsList-from_vec c.args.runs.items (cc) (cc)) l.yielded l.done-iterator l.yielded_by c.next.result c.next.new.self c.in-None.is c.next.ensures.steps in
    (omega (arith, t.1, l.ready.ok.0, l.invariant.0), l.invariant.2)
