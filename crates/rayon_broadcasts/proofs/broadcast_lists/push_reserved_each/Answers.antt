use Rattle.std.proofs.Common.{◌≡◌, ◌+◌, length, set, rules, sym, ◌∙◌, subst, arith}
use Rattle.std.proofs.lemmas.List.{length_push}
use Rattle.std.proofs.lemmas.List.FromFn.{length-enumerate_from}
use Rattle.std.proofs.lemmas.Iterator.Adapters.{YieldsList-from_vec}
use Rattle.std.proofs.lemmas.Iterator.Consumers.{YieldsList-from_enumerate, YieldsList-turn, YieldsList-end}
use Rattle.rayon_broadcasts.proofs.Lists.{IsPushedTo, turn_of, pushed_more, pushed_all}
use Rattle.rayon_broadcasts.proofs.broadcast_lists.push_reserved_each.Goals as goal

pub loop-worker-preserved : goal.loop-worker-preserved
loop-worker-preserved g c =
    let l = c.loop-worker in
    let t = YieldsList-turn (YieldsList-from_enumerate (YieldsList-from_vec c.args.pieces.items (cc) (cc)) (cc)) l.yielded l.worker-iterator l.yielded_by c.next.result c.next.new.self (c.in-Some.worker, c.in-Some.piece) c.in-Some.is c.next.ensures.steps in
    let at = turn_of c.args.pieces.items (length l.yielded) c.in-Some.worker c.in-Some.piece t.0 t.1 in
    let n : length l.yielded + 1 ≡ _ = sym (length_push l.yielded (c.in-Some.worker, c.in-Some.piece)) in
    let more = pushed_more c.args.lists.now c.args.pieces.items l.lists l.auto.lists (length l.yielded) c.index-lists-worker.result c.push_back_reserved.new.self c.in-Some.piece (omega (arith, at.0, c.requires.number)) (rw (sym at.1) c.push_back_reserved.ensures.items) at.2 l.invariant.2 in
    let there = subst (λ i. IsPushedTo c.args.lists.now c.args.pieces.items (set l.lists i c.push_back_reserved.new.self) (length l.yielded + 1)) (sym at.1) more in
    (search rules, tt, subst (λ m. IsPushedTo c.args.lists.now c.args.pieces.items (set l.lists c.in-Some.worker c.push_back_reserved.new.self) m) n there)

pub returns : goal.returns
returns g c =
    let t = YieldsList-end (YieldsList-from_enumerate (YieldsList-from_vec c.args.pieces.items (cc) (cc)) (cc)) c.loop-worker.yielded c.loop-worker.worker-iterator c.loop-worker.yielded_by c.next.result c.next.new.self c.in-None.is c.next.ensures.steps in
    pushed_all c.args.lists.now c.args.pieces.items c.loop-worker.lists c.loop-worker.auto.lists c.requires.number (subst (λ m. IsPushedTo c.args.lists.now c.args.pieces.items c.loop-worker.lists m) (t.1 ∙ length-enumerate_from 0 c.args.pieces.items) c.loop-worker.invariant.2)
