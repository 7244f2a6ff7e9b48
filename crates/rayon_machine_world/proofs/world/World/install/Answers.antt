use Rattle.std.proofs.Common.{rules, ◌≡◌, ◌∙◌, true, false, sym}
use Rattle.rayon_machine_places.specs.Places.{is_free, is_member}
use Rattle.rayon_machine_runs.specs.Steps.{is_pool}
use Rattle.rayon_machine_world.specs.Running.{world_of}
use Rattle.rayon_machine_world.proofs.Made.{made-is}
use Rattle.rayon_machine_world.proofs.Calling.{here-is, sent-is}
use Rattle.rayon_machine_world.proofs.world.World.install.Goals as goal

pub returns-then-belongs_to : goal.returns-then-belongs_to
returns-then-belongs_to c =
    let w = world_of c.args.self.now in
    let q = c.args.party in
    let p = c.args.pool in
    let x = c.top-frame.result in
    let free : is_free x ≡ true = search (rules, c.can_call.ensures, c.if-not-can_call.false) in
    let known : is_pool w.shape p ≡ true = search (rules, c.has_pool.ensures, c.if-not-has_pool.false) in
    let member : is_member q p ≡ true = sym c.belongs_to.ensures ∙ c.if-belongs_to.true in
    made-is (here-is w q p x c.made.result c.top-frame.ensures free known member c.made.ensures) c.open_job.ensures

pub returns : goal.returns
returns c =
    let w = world_of c.args.self.now in
    let q = c.args.party in
    let p = c.args.pool in
    let x = c.top-frame.result in
    let free : is_free x ≡ true = search (rules, c.can_call.ensures, c.if-not-can_call.false) in
    let known : is_pool w.shape p ≡ true = search (rules, c.has_pool.ensures, c.if-not-has_pool.false) in
    let member : is_member q p ≡ false = sym c.belongs_to.ensures ∙ c.if-belongs_to.false in
    made-is (sent-is w q p x c.made-2.result c.top-frame.ensures free known member c.made-2.ensures) c.open_call.ensures
